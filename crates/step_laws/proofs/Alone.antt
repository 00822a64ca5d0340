-- The evaluation of a program whose methods and blocks have code enters no bodies but those.
use Rattle.std.proofs.Common.{ℕ, List, [], ◌∷◌, ◌++◌, length, nat_eq, cond, Bool, true, false, inr}
use Rattle.std.specs.Prelude.{Some, nat_lt}
use Rattle.std.specs.Map.{lookup}
use Rattle.rb_value.specs.declared.method.Method.{Method}
use Rattle.rb_value.specs.declared.method.Method.TheVariants as method
use Rattle.rb_value.specs.declared.method.MethodEntry.{MethodEntry}
use Rattle.rb_value.specs.declared.kind.Kind.{Kind}
use Rattle.rb_value.specs.declared.kind.Kind.TheVariants as kind
use Rattle.def_core.specs.Classes.{class_at}
use Rattle.def_core.specs.Sound.{AllAre, IsValue, census, Array, Is}
use Rattle.def_core.specs.Store.{with_object}
use Rattle.def_rows.specs.Answers.{items_object}
use Rattle.rite_code.specs.Code.{Program}
use Rattle.ir_core.specs.CoreForm as form
use Rattle.ir_core.specs.CoreForm.{Body}
use Rattle.ir_core.specs.Program.{Around, IsProgram}
use Rattle.def_calls.specs.World.{World, with_store}
use Rattle.rb_value.specs.declared.value.Value.{Value}
use Rattle.rb_value.specs.declared.value.ObjId.{ObjId}
use Rattle.def_calls.specs.Calls.{BlockArgument, no_block, block_of, not_a_block, block_argument, opening_world}
use Rattle.def_calls.specs.Plans as plans
use Rattle.def_calls.specs.Values as values
use Rattle.def_calls.specs.Views.{callable_of, kind_in}
use Rattle.def_eval.specs.Source.{Source, all_names, body_at, source_of}
use Rattle.def_eval.specs.Configuration.{Scope, Part, operands, receiver, items, block, elements, hash_key, hash_value, pieces, rest, test, chosen, and_then, or_else, loop_test, loop_body, rescued, clause_class, clause_target, clause_body, ensured, Item, part, activation, iteration, ensuring, Focus, perform, give, travel, Memory, with_world, Config, Run, Halt, opening}
use Rattle.def_eval.specs.Forms.{packed}
use Rattle.def_eval.specs.Giving.{with_element}
use Rattle.def_eval.specs.Transition.{go_times}
use Rattle.run_values.proofs.Made.{items_sound}
use Rattle.world_laws.specs.Fine.{MethodIs, EntryHas, KindIs, Fine}
use Rattle.world_laws.proofs.Holding.{kind_in_held, methods_held}
use Rattle.world_laws.specs.Outcomes.{BlockArgumentIs}
use Rattle.world_laws.proofs.Ending.{block_argument_is}
use Rattle.world_laws.proofs.Plans.{next_is}
use Rattle.world_laws.proofs.Stores.{keeps_object}
use Rattle.world_laws.proofs.Values.{pushed_keeps, push_splat_keeps}
use Rattle.eval_laws.specs.Kinds.{IsKind, of_block, of_method, of_class}
use Rattle.eval_laws.specs.Standing.{BlockStands, MethodStands}
use Rattle.eval_laws.specs.Fits.{PartStands, ItemsFit, Past, anything_since, Fits, bodies}
use Rattle.eval_laws.specs.Procs.{HasProc}
use Rattle.eval_laws.proofs.Going.{all_behind}
use Rattle.eval_laws.proofs.Tests.{either}
use Rattle.eval_laws.proofs.Kept.{from_itself}
use Rattle.eval_laws.proofs.Start.{evaluation_fits}
use Rattle.step_laws.specs.Implements.{IsCodeOf}
use Rattle.rb_value.specs.Object.{Object}
use Rattle.step_laws.specs.Bodies.{BodyCode, ProcCode, ClassCode, MethodCode, IsMethod, IsEntry, HasCode, CallsBodies}
use Rattle.step_laws.specs.Calm.{objects_with, objects_at, objects_for}
use Rattle.step_laws.specs.Peaceful.{IsPeaceful, StaysPeaceful}

-- what goes on from the world of a memory, with its Procs
abbrev own_past : Memory → Past
own_past m = record { world = m.world; Known = HasProc m.world.store.objects }

module _ (s : Source) (p : Program) (methods : (n : ℕ) → IsKind s n of_method → BodyCode s p n)
    (blocks : (n : ℕ) → IsKind s n of_block → ProcCode s p n)
    (classes : (n : ℕ) → IsKind s n of_class → ClassCode s p n) where
  method_code : (n : ℕ) (f : Body) → MethodStands s n f → MethodCode s p n
  method_code n (form.body q ls e) h = record { code = methods n h.4; of_method = h.4 }

  block_code : (a : Around) (n : ℕ) (f : Body) → BlockStands s a n f → ProcCode s p n
  block_code a n (form.body q ls e) h = blocks n h.4

  -- where each Proc is one of those before
  module _ (before : List Object) (w : World) (cs : List Scope) where
    method_is : (x : Method) → MethodIs (bodies s (HasProc before) cs) w x → IsMethod s p x
    unfolding bodies
    method_is (method.Body b classes) h = method_code b (body_at s b) h.body
    method_is (method.Core r) h = tt
    method_is (method.Reader x) h = tt
    method_is (method.Writer x) h = tt
    method_is (method.Block o) h = tt
    method_is method.Undefined h = tt

    entry_is : (n : ℕ) (es : List (ℕ × MethodEntry)) → AllAre (EntryHas (bodies s (HasProc before) cs) w) es
        → IsEntry s p (lookup (nat_eq n) es)
    entry_is n [] all = tt
    entry_is n (e ∷ es) all = by (nat_eq n e.0) (entry_is n es all.1)
      where
        by : (t : Bool) → IsEntry s p (lookup (nat_eq n) es) → IsEntry s p (cond t (Some e.1) (lookup (nat_eq n) es))
        by true further = method_is e.1.method all.0
        by false further = further

    proc_is : (x : Kind) → KindIs (bodies s (HasProc before) cs) w x → HasCode s p before (callable_of x)
    unfolding bodies
    proc_is kind.Plain h = tt
    proc_is (kind.Class c) h = tt
    proc_is (kind.String t) h = tt
    proc_is (kind.Array a) h = tt
    proc_is (kind.Hash x) h = tt
    proc_is (kind.Range r) h = tt
    proc_is (kind.Proc c) h = (block_code h.around c.code (body_at s c.code) h.body, h.known)
    proc_is (kind.CoreProc r v) h = tt
    proc_is (kind.Fiber o e) h = tt
    proc_is (kind.Exception x d) h = tt
    proc_is (kind.Enumerator e) h = tt
    proc_is (kind.Yielder o) h = tt

    all_called : Fine (bodies s (HasProc before) cs) w → CallsBodies s p before w.store.objects
    all_called fine = record {
      methods = λ c name. entry_is name.0 (class_at w.store.objects c).methods (methods_held (bodies s (HasProc before) cs) w fine c);
      procs = λ v. proc_is (kind_in w.store.objects v) (kind_in_held (bodies s (HasProc before) cs) w fine v);
      classes = classes;
    }

  -- the Proc of a block argument may be new
  block_called : (m : Memory) → Fine (bodies s (HasProc m.world.store.objects) m.scopes) m.world → (q : BlockArgument)
      → BlockArgumentIs (bodies s (HasProc m.world.store.objects) m.scopes) m.world q → CallsBodies s p m.world.store.objects (objects_with m.world q)
  block_called m fine no_block is = all_called m.world.store.objects m.world m.scopes fine
  block_called m fine (block_of q w) is = all_called m.world.store.objects w m.scopes is.0.fine
  block_called m fine not_a_block is = all_called m.world.store.objects m.world m.scopes fine

  -- so may be an Array of arguments
  packed_called : (m : Memory) → Fine (bodies s (HasProc m.world.store.objects) m.scopes) m.world → (vs : List Value)
      → AllAre (IsValue (census m.world.store)) vs
      → CallsBodies s p m.world.store.objects (packed m vs).world.store.objects
  packed_called m fine vs all =
      let w = with_store m.world (with_object m.world.store (items_object vs)) in
      let keeps = keeps_object (bodies s (HasProc m.world.store.objects) m.scopes) m.world fine (items_object vs)
      (items_sound m.world.store fine.store vs all) tt in
      either (λ (l : Memory). CallsBodies s p m.world.store.objects l.world.store.objects) (nat_lt 253 (length vs))
      (with_world m w) m (all_called m.world.store.objects w m.scopes keeps.fine)
      (all_called m.world.store.objects m.world m.scopes fine)

  -- and what a splat makes of its elements
  element_called : (m : Memory) → Fine (bodies s (HasProc m.world.store.objects) m.scopes) m.world → (id : ObjId) (v : Value)
      (splat : Bool) → Is (census m.world.store) Array id → IsValue (census m.world.store) v
      → CallsBodies s p m.world.store.objects (with_element m id splat v).world.store.objects
  element_called m fine id v false array value =
      all_called m.world.store.objects (with_store m.world (values.pushed m.world.store id (v ∷ []))) m.scopes
      (pushed_keeps (bodies s (HasProc m.world.store.objects) m.scopes) m.world fine id (v ∷ []) array (value, tt)).fine
  element_called m fine id v true array value =
      all_called m.world.store.objects (with_store m.world (values.push_splat (values.splat m.world.store v) id)) m.scopes
      (push_splat_keeps (bodies s (HasProc m.world.store.objects) m.scopes) m.world fine id v array value).fine

  at_part : (v : Value) (k : Part) (ks : List Item) (m : Memory) → Fits s (own_past m) (Run (give v) ks m) → (a : Around)
      → PartStands s (census m.world.store) a k → CallsBodies s p m.world.store.objects (objects_at k v m)
  at_part v (operands n a vs es) ks m h around stands = all_called m.world.store.objects m.world m.scopes h.memory.world
  at_part v (receiver n x is b) ks m h around stands = all_called m.world.store.objects m.world m.scopes h.memory.world
  at_part v (items n k recv vs is b) ks m h around stands =
      packed_called m h.memory.world (vs ++ v ∷ [])
      (all_behind (IsValue (census m.world.store)) vs v stands.2 h.focus)
  at_part v (block k recv vs) ks m h around stands =
      block_called m h.memory.world (block_argument m.world v)
      (block_argument_is (bodies s (HasProc m.world.store.objects) m.scopes) m.world h.memory.world v h.focus)
  at_part v (elements n g id t is) ks m h around stands = element_called m h.memory.world id v t stands.1 h.focus
  at_part v (hash_key n id e ps) ks m h around stands = all_called m.world.store.objects m.world m.scopes h.memory.world
  at_part v (hash_value n id u ps) ks m h around stands = all_called m.world.store.objects m.world m.scopes h.memory.world
  at_part v (pieces n id es) ks m h around stands = all_called m.world.store.objects m.world m.scopes h.memory.world
  at_part v (rest n es) ks m h around stands = all_called m.world.store.objects m.world m.scopes h.memory.world
  at_part v (test n b bs o) ks m h around stands = all_called m.world.store.objects m.world m.scopes h.memory.world
  at_part v chosen ks m h around stands = all_called m.world.store.objects m.world m.scopes h.memory.world
  at_part v (and_then n e) ks m h around stands = all_called m.world.store.objects m.world m.scopes h.memory.world
  at_part v (or_else n e) ks m h around stands = all_called m.world.store.objects m.world m.scopes h.memory.world
  at_part v (loop_test n t b) ks m h around stands = all_called m.world.store.objects m.world m.scopes h.memory.world
  at_part v (loop_body n t b) ks m h around stands = all_called m.world.store.objects m.world m.scopes h.memory.world
  at_part v (rescued n b cs o) ks m h around stands = all_called m.world.store.objects m.world m.scopes h.memory.world
  at_part v (clause_class n e es t b cs r) ks m h around stands = all_called m.world.store.objects m.world m.scopes h.memory.world
  at_part v (clause_target n e b r) ks m h around stands = all_called m.world.store.objects m.world m.scopes h.memory.world
  at_part v (clause_body r) ks m h around stands = all_called m.world.store.objects m.world m.scopes h.memory.world
  at_part v (ensured n e) ks m h around stands = all_called m.world.store.objects m.world m.scopes h.memory.world

  calls_all : (f : Focus) (ks : List Item) (m : Memory) → Fits s (own_past m) (Run f ks m)
      → CallsBodies s p m.world.store.objects (objects_for f ks m)
  calls_all (perform n e) ks m h = all_called m.world.store.objects m.world m.scopes h.memory.world
  calls_all (give v) ks m h = by ks h.items
    where
      by : (is : List Item) → ItemsFit s m.world m.scopes m.place is → CallsBodies s p m.world.store.objects (objects_for (give v) is m)
      by [] g = all_called m.world.store.objects m.world m.scopes h.memory.world
      by (part k ∷ is) g = at_part v k ks m h g.0.0 g.0.2
      by (activation a q ∷ is) g = all_called m.world.store.objects m.world m.scopes h.memory.world
      by (iteration a it q ∷ is) g =
          let x = plans.next it v m.world.store in
          let next = next_is (bodies s (HasProc m.world.store.objects) m.scopes) m.world h.memory.world it v g.1 h.focus in
          all_called m.world.store.objects (with_store m.world x.store) m.scopes next.keeps.fine
      by (ensuring o ∷ is) g = all_called m.world.store.objects m.world m.scopes h.memory.world
  calls_all (travel x) ks m h = all_called m.world.store.objects m.world m.scopes h.memory.world

  peaceful_at : (early : Past) (c : Config) → Fits s early c → IsPeaceful s p c
  peaceful_at early (Halt e) h = tt
  peaceful_at early (Run f ks m) h = inr (calls_all f ks m (from_itself s early (HasProc m.world.store.objects) f ks m
      (λ b ns is. is) h))

pub stays_peaceful : (b : Body) (p : Program) (input : List ℕ) → IsProgram b → IsCodeOf (source_of b) p
    → StaysPeaceful (source_of b) p (opening (source_of b) input)
stays_peaceful b p input is code n =
    let h = evaluation_fits b input n is in
    peaceful_at (source_of b) p code.methods code.blocks code.classes
    (anything_since (record (opening_world (all_names (source_of b)) input) { out = h.0 }))
    (go_times n (source_of b) (opening (source_of b) input)) h.1
