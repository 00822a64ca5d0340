-- Calls fit: the receiver, the items, the block, each part left to right, and Arrays whose elements are gathered.
use Rattle.std.proofs.Common.{ℕ, ◌+◌, List, [], length, true, false, refl}
use Rattle.std.specs.Prelude.{Option, Some, None, nat_lt}
use Rattle.rb_value.specs.declared.value.Value.{Value}
use Rattle.rb_value.specs.declared.value.Value.TheVariants.{Obj}
use Rattle.rb_value.specs.declared.value.ObjId.{ObjId}
use Rattle.def_core.specs.declared.cause.Cause.TheVariants as cause
use Rattle.def_core.specs.Store.{next_number, with_object}
use Rattle.def_core.specs.Sound.{census, Any, Proc, Array, Is, IsValue, OptionIs, AllAre}
use Rattle.def_core.proofs.Good.{is_good}
use Rattle.def_core.proofs.Grows.{new_role}
use Rattle.def_rows.specs.Answers.{items_object}
use Rattle.run_values.proofs.Made.{items_sound}
use Rattle.ir_core.specs.CoreForm.{Name, Maybe, absent, there, Items, no_items, plain, splat, Receiver, to, on_self, bare}
use Rattle.ir_core.specs.Program.{Around}
use Rattle.def_calls.specs.World.{World, with_store, fail}
use Rattle.def_calls.specs.Calls as calls
use Rattle.def_calls.specs.Definitions.{yield_told}
use Rattle.def_calls.specs.Calls.{Sending, by_name, by_bare_name, to_proc, to_super}
use Rattle.def_calls.specs.Values.{elements_or_itself}
use Rattle.def_eval.specs.Source.{Source, span}
use Rattle.def_eval.specs.Configuration as eval
use Rattle.def_eval.specs.Configuration.{Gathering, Item, Memory, with_world, Config, Run}
use Rattle.def_eval.specs.Scopes.{running}
use Rattle.def_eval.specs.Entering.{symbol}
use Rattle.def_eval.specs.Forms.{self_of, perform_call, own_block, with_arguments, packed, next_item, gathered, next_element, gather, has_splat, do_call, do_receiver, do_yield}
use Rattle.world_laws.specs.Fine.{Keeps}
use Rattle.world_laws.specs.Outcomes.{SendingIs}
use Rattle.world_laws.proofs.Growing.{value_stays, role_stays}
use Rattle.world_laws.proofs.Stores.{keeps_object}
use Rattle.world_laws.proofs.Answers.{fails_with}
use Rattle.world_laws.proofs.Values.{elements_or_itself_are}
use Rattle.world_laws.proofs.Calling.{call_is}
use Rattle.world_laws.proofs.Classes.{yield_told_is}
use Rattle.eval_laws.specs.Standing.{IsNamed, MaybeStands, ItemsStand, ReceiverStands, past_items, past_receiver}
use Rattle.eval_laws.specs.Fits.{Past, GatheringFits, Fits, bodies}
use Rattle.eval_laws.proofs.Tests.{either}
use Rattle.eval_laws.proofs.Staying.{sending_stays, gathering_stays}
use Rattle.world_laws.proofs.Plans.{values_stay}
use Rattle.eval_laws.proofs.Going.{Under, Text, under_then, text_then, running_is, symbol_is, goes, after_fits, does_part}
use Rattle.eval_laws.proofs.Entered.{entry_fits}

-- what a call has so far: what it calls, its receiver and its arguments
pub record Called (m : Memory) (k : Sending) (recv : Value) (args : List Value) : Type 0 where
  pub sending : SendingIs (census m.world.store) k
  pub receiver : IsValue (census m.world.store) recv
  pub arguments : AllAre (IsValue (census m.world.store)) args

module _ (s : Source) (early : Past) where
  pub called_later : (m : Memory) (w : World) (k : Sending) (recv : Value) (args : List Value) → Keeps (bodies s early.Known m.scopes) m.world w
      → Called m k recv args → Called (with_world m w) k recv args
  called_later m w k recv args keeps h = record {
    sending = sending_stays s m.world w keeps.extends k h.sending;
    receiver = value_stays m.world w keeps.extends recv h.receiver;
    arguments = values_stay m.world w keeps.extends args h.arguments;
  }

  pub performs : (k : Sending) (recv : Value) (args : List Value) (block : Option ObjId) (ks : List Item) (m : Memory)
      → Under s early ks m → Called m k recv args → OptionIs (Is (census m.world.store) Proc) block
      → Fits s early (perform_call s k recv args block ks m)
  performs k recv args block ks m u h is =
      entry_fits s early block ks m u is (calls.call m.world (running m) k recv args block)
      (call_is (bodies s early.Known m.scopes) m.world u.memory.world (running m) k recv args block (running_is s early m u.memory)
      h.sending h.receiver h.arguments is)

  own_block_is : (k : Sending) (ks : List Item) (m : Memory) → Under s early ks m
      → OptionIs (Is (census m.world.store) Proc) (own_block k m)
  own_block_is (by_name x) ks m u = tt
  own_block_is (by_bare_name x) ks m u = tt
  own_block_is to_proc ks m u = tt
  own_block_is to_super ks m u = (running_is s early m u.memory).block

  block_later : (m : Memory) (w : World) → Keeps (bodies s early.Known m.scopes) m.world w → (o : Option ObjId)
      → OptionIs (Is (census m.world.store) Proc) o → OptionIs (Is (census w.store) Proc) o
  block_later m w keeps None is = tt
  block_later m w keeps (Some p) is = role_stays m.world w keeps.extends Proc p is

  arguments_done : (n : ℕ) (k : Sending) (recv : Value) (args : List Value) (b : Maybe) (ks : List Item) (m : Memory)
      (a : Around) → Text s early ks m a → Called m k recv args → MaybeStands s a n b
      → Fits s early (with_arguments s n k recv args b ks m)
  arguments_done n (by_name x) recv args absent ks m a t h stands = performs (by_name x) recv args None ks m t.under h tt
  arguments_done n (by_bare_name x) recv args absent ks m a t h stands =
      performs (by_bare_name x) recv args None ks m t.under h tt
  arguments_done n to_proc recv args absent ks m a t h stands = performs to_proc recv args None ks m t.under h tt
  arguments_done n to_super recv args absent ks m a t h stands =
      let w = (yield_told m.world (running m)).world in
      let told = yield_told_is (bodies s early.Known m.scopes) m.world t.under.memory.world (running m) in
      performs to_super recv args (own_block to_super m) ks (with_world m w) (under_then s early ks m w t.under told.keeps)
      (called_later m w to_super recv args told.keeps h)
      (block_later m w told.keeps (own_block to_super m) (own_block_is to_super ks m t.under))
  arguments_done n k recv args (there e) ks m a t h stands =
      does_part s early (eval.block k recv args) n e ks m a t (h.sending, h.receiver, h.arguments) stands

  -- a new Array of these values
  keeps_items : (ks : List Item) (m : Memory) (vs : List Value) → Under s early ks m
      → AllAre (IsValue (census m.world.store)) vs
      → Keeps (bodies s early.Known m.scopes) m.world (with_store m.world (with_object m.world.store (items_object vs)))
  keeps_items ks m vs u all = keeps_object (bodies s early.Known m.scopes) m.world u.memory.world (items_object vs)
      (items_sound m.world.store u.memory.world.store vs all) tt

  packed_done : (n : ℕ) (k : Sending) (recv : Value) (args : List Value) (b : Maybe) (ks : List Item) (m : Memory)
      (a : Around) → Text s early ks m a → Called m k recv args → MaybeStands s a n b
      → Fits s early (with_arguments s n k recv args b ks (packed m args))
  packed_done n k recv args b ks m a t h stands =
      let w = with_store m.world (with_object m.world.store (items_object args)) in
      let keeps = keeps_items ks m args t.under h.arguments in
      either (λ x. Fits s early (with_arguments s n k recv args b ks x)) (nat_lt 253 (length args)) (with_world m w) m
      (arguments_done n k recv args b ks (with_world m w) a (text_then s early ks m a w t keeps)
      (called_later m w k recv args keeps h) stands)
      (arguments_done n k recv args b ks m a t h stands)

  pub items_done : (n : ℕ) (k : Sending) (recv : Value) (vs : List Value) (is : Items) (b : Maybe) (ks : List Item)
      (m : Memory) (a : Around) → Text s early ks m a → Called m k recv vs → ItemsStand s a n is
      → MaybeStands s a (past_items n is) b → Fits s early (next_item s n k recv vs is b ks m)
  items_done n k recv vs no_items b ks m a t h stands block = packed_done n k recv vs b ks m a t h block
  items_done n k recv vs (plain e is) b ks m a t h stands block =
      does_part s early (eval.items (n + span e) k recv vs is b) n e ks m a t
      (h.sending, h.receiver, h.arguments, stands.1, block) stands.0
  items_done n k recv vs (splat e is) b ks m a t h stands block =
      does_part s early (eval.items (n + span e) k recv vs is b) n e ks m a t
      (h.sending, h.receiver, h.arguments, stands.1, block) stands.0

  -- Elements that are gathered.

  any_array : (ks : List Item) (m : Memory) (id : ObjId) → Is (census m.world.store) Array id
      → Is (census m.world.store) Any id
  any_array ks m id is = (is_good m.world.store Array id is).there

  gathered_done : (n : ℕ) (g : Gathering) (id : ObjId) (ks : List Item) (m : Memory) (a : Around) → Text s early ks m a
      → GatheringFits s a (census m.world.store) n g → Is (census m.world.store) Array id
      → Fits s early (gathered s n g id ks m)
  gathered_done n eval.an_array id ks m a t h is = goes s early (eval.give (Obj id)) ks m t.under (any_array ks m id is)
  gathered_done n (eval.arguments_of k recv b) id ks m a t h is =
      arguments_done n k recv (elements_or_itself m.world (Obj id)) b ks m a t
      (record {
        sending = h.0;
        receiver = h.1;
        arguments = elements_or_itself_are (bodies s early.Known m.scopes) m.world t.under.memory.world (Obj id)
            (any_array ks m id is);
      }) h.2

  pub elements_done : (n : ℕ) (g : Gathering) (id : ObjId) (is : Items) (ks : List Item) (m : Memory) (a : Around)
      → Text s early ks m a → GatheringFits s a (census m.world.store) (past_items n is) g
      → Is (census m.world.store) Array id
      → ItemsStand s a n is → Fits s early (next_element s n g id is ks m)
  elements_done n g id no_items ks m a t h array stands = gathered_done n g id ks m a t h array
  elements_done n g id (plain e is) ks m a t h array stands =
      does_part s early (eval.elements (n + span e) g id false is) n e ks m a t (h, array, stands.1) stands.0
  elements_done n g id (splat e is) ks m a t h array stands =
      does_part s early (eval.elements (n + span e) g id true is) n e ks m a t (h, array, stands.1) stands.0

  pub gather_done : (n : ℕ) (g : Gathering) (is : Items) (ks : List Item) (m : Memory) (a : Around)
      → Text s early ks m a
      → GatheringFits s a (census m.world.store) (past_items n is) g → ItemsStand s a n is
      → Fits s early (gather s n g is ks m)
  gather_done n g is ks m a t h stands =
      let w = with_store m.world (with_object m.world.store (items_object [])) in
      let keeps = keeps_items ks m [] t.under tt in
      elements_done n g (next_number m.world.store) is ks (with_world m w) a (text_then s early ks m a w t keeps)
      (gathering_stays s m.world w keeps.extends a (past_items n is) g h)
      (new_role m.world.store (items_object []) Array refl) stands

  pub call_done : (n : ℕ) (k : Sending) (recv : Value) (is : Items) (b : Maybe) (ks : List Item) (m : Memory)
      (a : Around) → Text s early ks m a → SendingIs (census m.world.store) k → IsValue (census m.world.store) recv
      → ItemsStand s a n is → MaybeStands s a (past_items n is) b → Fits s early (do_call s n k recv is b ks m)
  call_done n k recv is b ks m a t h value stands block =
      either (Fits s early) (has_splat is) (gather s n (eval.arguments_of k recv b) is ks m) (next_item s n k recv [] is b ks m)
      (gather_done n (eval.arguments_of k recv b) is ks m a t (h, value, block) stands)
      (items_done n k recv [] is b ks m a t (record { sending = h; receiver = value; arguments = tt }) stands block)

  pub receiver_done : (n : ℕ) (r : Receiver) (x : Name) (is : Items) (b : Maybe) (ks : List Item) (m : Memory)
      (a : Around) → Text s early ks m a → IsNamed s x → ReceiverStands s a n r → ItemsStand s a (past_receiver n r) is
      → MaybeStands s a (past_items (past_receiver n r) is) b → Fits s early (do_receiver s n r x is b ks m)
  receiver_done n (to e) x is b ks m a t named stands items block =
      does_part s early (eval.receiver (n + span e) x is b) n e ks m a t (named, items, block) stands
  receiver_done n on_self x is b ks m a t named stands items block =
      call_done n (by_name (symbol m x)) (self_of m) is b ks m a t (symbol_is s early m t.under.memory x named)
      (running_is s early m t.under.memory).self items block
  receiver_done n bare x is b ks m a t named stands items block =
      call_done n (by_bare_name (symbol m x)) (self_of m) is b ks m a t (symbol_is s early m t.under.memory x named)
      (running_is s early m t.under.memory).self items block

  pub yield_done : (n : ℕ) (o : Option ObjId) (is : Items) (ks : List Item) (m : Memory) (a : Around)
      → Text s early ks m a
      → OptionIs (Is (census m.world.store) Proc) o → ItemsStand s a n is → Fits s early (do_yield s n o is ks m)
  yield_done n None is ks m a t h stands =
      after_fits s early (fail m.world cause.NoBlockToYield) ks m t.under
      (fails_with (bodies s early.Known m.scopes) m.world t.under.memory.world cause.NoBlockToYield tt)
  yield_done n (Some p) is ks m a t h stands =
      call_done n to_proc (Obj p) is absent ks m a t tt (is_good m.world.store Proc p h).there stands tt
