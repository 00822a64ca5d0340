-- What goes on with a value fits: each part of a form.
use Rattle.std.proofs.Common.{ℕ, ◌+◌, arith, length-append, List, [], ◌∷◌, ◌++◌, Bool, true, false, refl}
use Rattle.std.specs.Prelude.{Some, None}
use Rattle.rb_value.specs.declared.value.Value.{Value}
use Rattle.rb_value.specs.declared.value.Value.TheVariants.{Nil}
use Rattle.rb_value.specs.declared.value.ObjId.{ObjId}
use Rattle.rb_value.specs.declared.kind.Sort.TheVariants as sort
use Rattle.rb_value.specs.Value.{is_true}
use Rattle.def_core.specs.Sound.{census, Array, Is, IsValue}
use Rattle.ir_core.specs.CoreForm.{CoreForm, Maybe, absent, there, Forms, none, more, Items, Pairs, Branches}
use Rattle.ir_core.specs.Program.{Around}
use Rattle.def_calls.specs.World.{World, Answer, Result, gives, raises, with_store}
use Rattle.def_calls.specs.Calls.{Sending, by_name, BlockArgument, no_block, block_of, not_a_block, block_argument, passing}
use Rattle.def_calls.specs.Values as values
use Rattle.def_eval.specs.Source.{Source, span}
use Rattle.def_eval.specs.Configuration as eval
use Rattle.def_eval.specs.Configuration.{Gathering, Part, Outgoing, Item, Memory, with_world, Config, Run}
use Rattle.def_eval.specs.Entering.{symbol}
use Rattle.def_eval.specs.Forms.{next_element, next_piece}
use Rattle.def_eval.specs.Giving.{with_block, with_element, after_pair, with_piece, choose, go_right, go_left, turn_loop, do_otherwise, give_part}
use Rattle.world_laws.specs.Fine.{Keeps}
use Rattle.world_laws.specs.Outcomes.{AnswerIs, BlockArgumentIs}
use Rattle.world_laws.proofs.Growing.{role_stays, sort_stays}
use Rattle.world_laws.proofs.Values.{wrong_value_is, pushed_keeps, push_splat_keeps, appended_keeps, with_pair_is}
use Rattle.world_laws.proofs.Ending.{block_argument_is}
use Rattle.eval_laws.specs.Standing.{FormStands, MaybeStands, FormsStand, ItemsStand, PairsStand, BranchesStand, past_items, past_branches}
use Rattle.eval_laws.specs.Fits.{Past, GatheringFits, OutgoingFits, IsHash, IsText, PartStands, Fits, bodies}
use Rattle.eval_laws.proofs.Staying.{gathering_stays}
use Rattle.eval_laws.proofs.Going.{Text, under_then, text_then, symbol_is, all_behind, goes, after_fits, does, does_part}
use Rattle.eval_laws.proofs.Finishing.{operands_done}
use Rattle.eval_laws.proofs.Calling.{Called, called_later, performs, items_done, elements_done, call_done}
use Rattle.eval_laws.proofs.Forming.{pairs_done, pieces_done, branches_done, loop_done}
use Rattle.eval_laws.proofs.Clauses.{body_in_clause, class_matched}

module _ (s : Source) (early : Past) (ks : List Item) (m : Memory) (a : Around) (t : Text s early ks m a) where
  -- a block argument is one, or isn't
  block_given : (k : Sending) (recv : Value) (args : List Value) (x : BlockArgument) → Called m k recv args
      → BlockArgumentIs (bodies s early.Known m.scopes) m.world x → Fits s early (with_block s k recv args x ks m)
  block_given k recv args no_block h is = performs s early k recv args None ks m t.under h tt
  block_given k recv args (block_of p w) h is =
      performs s early k recv args (Some p) ks (with_world m w) (under_then s early ks m w t.under is.0)
      (called_later s early m w k recv args is.0 h) is.1
  block_given k recv args not_a_block h is =
      after_fits s early (values.wrong_value m.world (passing k)) ks m t.under
      (wrong_value_is (bodies s early.Known m.scopes) m.world t.under.memory.world (passing k))

  element_then : (n : ℕ) (g : Gathering) (id : ObjId) (is : Items) (w : World) → Keeps (bodies s early.Known m.scopes) m.world w
      → GatheringFits s a (census m.world.store) (past_items n is) g → Is (census m.world.store) Array id
      → ItemsStand s a n is → Fits s early (next_element s n g id is ks (with_world m w))
  element_then n g id is w k h array stands =
      elements_done s early n g id is ks (with_world m w) a (text_then s early ks m a w t k)
      (gathering_stays s m.world w k.extends a (past_items n is) g h) (role_stays m.world w k.extends Array id array)
      stands

  element_given : (n : ℕ) (g : Gathering) (id : ObjId) (splat : Bool) (is : Items) (v : Value)
      → GatheringFits s a (census m.world.store) (past_items n is) g → Is (census m.world.store) Array id
      → ItemsStand s a n is → IsValue (census m.world.store) v
      → Fits s early (next_element s n g id is ks (with_element m id splat v))
  element_given n g id false is v h array stands value =
      element_then n g id is (with_store m.world (values.pushed m.world.store id (v ∷ [])))
      (pushed_keeps (bodies s early.Known m.scopes) m.world t.under.memory.world id (v ∷ []) array (value, tt)) h array stands
  element_given n g id true is v h array stands value =
      element_then n g id is (with_store m.world (values.push_splat (values.splat m.world.store v) id))
      (push_splat_keeps (bodies s early.Known m.scopes) m.world t.under.memory.world id v array value) h array stands

  pair_given : (n : ℕ) (id : ObjId) (ps : Pairs) (c : Answer) → AnswerIs (bodies s early.Known m.scopes) m.world c
      → IsHash (census m.world.store) id → PairsStand s a n ps → Fits s early (after_pair n id ps ks m c c.result)
  pair_given n id ps c h is stands = by c.result
    where
      by : (r : Result) → Fits s early (after_pair n id ps ks m c r)
      by (gives v) = pairs_done s early n id ps ks (with_world m c.world) a (text_then s early ks m a c.world t h.keeps)
          (sort_stays m.world c.world h.keeps.extends sort.Hash id is) stands
      by (raises e) = after_fits s early c ks m t.under h

  piece_given : (n : ℕ) (id : ObjId) (es : Forms) (v : Value) → IsText (census m.world.store) id → FormsStand s a n es
      → Fits s early (next_piece n id es ks (with_piece m id v))
  piece_given n id es v is stands =
      let w = with_store m.world (values.appended m.world.store id (values.text_of_value m.world.store v)) in
      let k = appended_keeps (bodies s early.Known m.scopes) m.world t.under.memory.world id
      (values.text_of_value m.world.store v) is in
      pieces_done s early n id es ks (with_world m w) a (text_then s early ks m a w t k)
      (sort_stays m.world w k.extends sort.String id is) stands

  chosen_done : (c : Bool) (n : ℕ) (b : CoreForm) (bs : Branches) (o : CoreForm) → FormStands s a n b
      → BranchesStand s a (n + span b) bs → FormStands s a (past_branches (n + span b) bs) o
      → Fits s early (choose c n b bs o ks m)
  chosen_done true n b bs o h g l = does_part s early eval.chosen n b ks m a t tt h
  chosen_done false n b bs o h g l = branches_done s early (n + span b) bs o ks m a t g l

  right_done : (c : Bool) (n : ℕ) (e : CoreForm) (v : Value) → FormStands s a n e → IsValue (census m.world.store) v
      → Fits s early (go_right c n e v ks m)
  right_done true n e v h is = does s early n e ks m a t h
  right_done false n e v h is = goes s early (eval.give v) ks m t.under is

  left_done : (c : Bool) (n : ℕ) (e : CoreForm) (v : Value) → FormStands s a n e → IsValue (census m.world.store) v
      → Fits s early (go_left c n e v ks m)
  left_done true n e v h is = goes s early (eval.give v) ks m t.under is
  left_done false n e v h is = does s early n e ks m a t h

  turned : (c : Bool) (n : ℕ) (e b : CoreForm) → PartStands s (census m.world.store) a (eval.loop_test n e b)
      → Fits s early (turn_loop c n e b ks m)
  turned true n e b h = loop_done s early n true e b ks m a t h.0 h.1
  turned false n e b h = goes s early (eval.give Nil) ks m t.under tt

  otherwise_done : (n : ℕ) (o : Maybe) (v : Value) → MaybeStands s a n o → IsValue (census m.world.store) v
      → Fits s early (do_otherwise n o v ks m)
  otherwise_done n absent v h is = goes s early (eval.give v) ks m t.under is
  otherwise_done n (there e) v h is = does_part s early eval.chosen n e ks m a t tt h

  rest_done : (n : ℕ) (es : Forms) (v : Value) → FormsStand s a n es → IsValue (census m.world.store) v
      → Fits s early (give_part s v (eval.rest n es) ks m)
  unfolding give_part
  rest_done n none v h is = goes s early (eval.give v) ks m t.under is
  rest_done n (more e es) v h is = does_part s early (eval.rest (n + span e) es) n e ks m a t h.1 h.0

  -- an ensure part is done over what it goes on with
  pub ensure_done : (n : ℕ) (e : CoreForm) (o : Outgoing) → FormStands s a n e
      → OutgoingFits (census m.world.store) ks o → Fits s early (Run (eval.perform n e) (eval.ensuring o ∷ ks) m)
  ensure_done n e o h out = does s early n e (eval.ensuring o ∷ ks) m a (record {
    under = record { memory = t.under.memory; items = (out, t.there, t.under.items) };
    there = refl;
    around = record { scene = t.around.scene; target = t.around.target; clause = t.around.clause };
  }) h

  pub part_given : (v : Value) (p : Part) → IsValue (census m.world.store) v
      → PartStands s (census m.world.store) a p → Fits s early (give_part s v p ks m)
  unfolding give_part
  part_given v (eval.operands n action vs es) is h =
      operands_done s early ks m a t n action (vs ++ v ∷ []) es (rw length-append (omega (arith, h.3))) h.0
      (all_behind (IsValue (census m.world.store)) vs v h.1 is) h.2
  part_given v (eval.receiver n x items b) is h =
      call_done s early n (by_name (symbol m x)) v items b ks m a t (symbol_is s early m t.under.memory x h.0) is h.1 h.2
  part_given v (eval.items n k recv vs items b) is h =
      items_done s early n k recv (vs ++ v ∷ []) items b ks m a t
      (record {
        sending = h.0;
        receiver = h.1;
        arguments = all_behind (IsValue (census m.world.store)) vs v h.2 is;
      }) h.3 h.4
  part_given v (eval.block k recv args) is h =
      block_given k recv args (block_argument m.world v) (record { sending = h.0; receiver = h.1; arguments = h.2 })
      (block_argument_is (bodies s early.Known m.scopes) m.world t.under.memory.world v is)
  part_given v (eval.elements n g id splat items) is h = element_given n g id splat items v h.0 h.1 h.2 is
  part_given v (eval.hash_key n id e ps) is h =
      does_part s early (eval.hash_value (n + span e) id v ps) n e ks m a t (h.0, is, h.2) h.1
  part_given v (eval.hash_value n id k ps) is h =
      pair_given n id ps (values.with_pair m.world id k v)
      (with_pair_is (bodies s early.Known m.scopes) m.world t.under.memory.world id k v h.0 h.1 is) h.0 h.2
  part_given v (eval.pieces n id es) is h = piece_given n id es v h.0 h.1
  part_given v (eval.rest n es) is h = rest_done n es v h is
  part_given v (eval.test n b bs o) is h = chosen_done (is_true v) n b bs o h.0 h.1 h.2
  part_given v eval.chosen is h = goes s early (eval.give v) ks m t.under is
  part_given v (eval.and_then n e) is h = right_done (is_true v) n e v h is
  part_given v (eval.or_else n e) is h = left_done (is_true v) n e v h is
  part_given v (eval.loop_test n e b) is h = turned (is_true v) n e b h
  part_given v (eval.loop_body n e b) is h = loop_done s early n false e b ks m a t h.0 h.1
  part_given v (eval.rescued n b cs o) is h = otherwise_done (n + span b) o v h.2 is
  part_given v (eval.clause_class n e es x b cs r) is h =
      class_matched s early ks m a t n v e es x b cs r h.0
      (record { classes = h.1; target = h.2; body = h.3; others = h.4 }) h.5
  part_given v (eval.clause_target n e b r) is h = body_in_clause s early ks m a t n b r h.1 h.2
  part_given v (eval.clause_body r) is h = goes s early (eval.give v) ks m t.under is
  part_given v (eval.ensured n e) is h = ensure_done n e (eval.value v) h is
