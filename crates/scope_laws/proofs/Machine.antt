-- A turn opens at most one list of registers, which has the next number, and leaves the others within what they are in.
use Rattle.std.proofs.Common.{◌≡◌, ℕ, zero, suc, ◌+◌, List, [], ◌∷◌, ◌++◌, length, set, Bool, true, false, nat_eq, refl, sym, ap, ◌∙◌, inl, inr}
use Rattle.std.specs.Prelude.{Option, Some, None, slice_get, codes}
use Rattle.std.proofs.lemmas.List.{map-append, length-map}
use Rattle.rb_value.specs.declared.value.Value.{Value}
use Rattle.rb_value.specs.declared.value.Value.TheVariants.{Obj, Int}
use Rattle.rb_value.specs.declared.value.ObjId.{ObjId}
use Rattle.rb_value.specs.declared.exit.Exit.{Exit}
use Rattle.rb_value.specs.declared.exit.Exit.TheVariants.{Raise, Return, Break, Jump}
use Rattle.rb_value.specs.declared.exit.Slot.{Slot}
use Rattle.rb_value.specs.declared.exit.Slot.TheVariants.{V, E}
use Rattle.def_core.specs.declared.bound.Bound.{Bound}
use Rattle.def_core.specs.declared.bound.Bound.TheVariants.{Values, Wrong}
use Rattle.def_core.specs.declared.cause.Cause.TheVariants as cause
use Rattle.def_core.specs.Bind.{bind}
use Rattle.rite_code.specs.Code.{Program}
use Rattle.rite_code.specs.Instruction.{Instruction}
use Rattle.rite_code.specs.declared.code.PoolItem.{PoolItem}
use Rattle.rite_code.specs.declared.code.PoolItem.TheVariants as pool
use Rattle.rite_code.specs.declared.operation.Parameters.{Parameters}
use Rattle.rite_code.specs.declared.operation.Operation.{Operation}
use Rattle.rite_code.specs.declared.operation.Operation.TheVariants as op
use Rattle.def_calls.specs.World.{Answer, Result, gives, raises, give, fail, with_store}
use Rattle.def_calls.specs.Calls.{Sending, by_name, to_proc, to_super, Entry, answers, enters, begins, is_full, BlockArgument, no_block, block_of, not_a_block, block_argument, Unrescued, is_asked, unrescued, break_target}
use Rattle.def_calls.specs.Plans.{Iteration, Plan, caught}
use Rattle.def_calls.specs.Plans as plan
use Rattle.def_calls.specs.Fibers.{Onward, Resumed, refused, begins as begins_fiber, continues}
use Rattle.def_calls.specs.Fibers as fibers
use Rattle.def_calls.specs.Views.{an_array, a_string, a_hash}
use Rattle.def_calls.specs.Definitions as definitions
use Rattle.def_calls.specs.Values as values
use Rattle.def_machine.specs.State.{Registers, Frame, Level, frame, iteration, Memory, State, On, body_at, list_at, slot_at, put, with_world, write, goto}
use Rattle.def_machine.specs.Unwind as unwind
use Rattle.def_machine.specs.Unwind.{Landing, lands, falls, closed, in_resumer, receive, throw, throw_within, after, after_result}
use Rattle.def_machine.specs.Entering as entering
use Rattle.def_machine.specs.Entering.{depth, answer, answer_result, enter, iterate}
use Rattle.def_machine.specs.Turn as turns
use Rattle.def_machine.specs.Turn.{fetch, reg, turn}
use Rattle.scope_laws.specs.Numbers.{outers, Grows, ListsGrow}
use Rattle.scope_laws.proofs.Evaluation.{either}

outers_set : (ls : List Registers) (n : ℕ) (r : Registers) → r.outer ≡ (list_at ls n).outer → outers (set ls n r) ≡ outers ls
outers_set [] n r e = refl
outers_set (d ∷ ls) zero r e = ap (λ o. o ∷ outers ls) e
outers_set (d ∷ ls) (suc n) r e = ap (λ os. d.outer ∷ os) (outers_set ls n r e)

outers_put : (ls : List Registers) (n i : ℕ) (v : Slot) → outers (put ls n i v) ≡ outers ls
unfolding put
outers_put ls n i v = outers_set ls n _ refl

module _ (p : Program) (P : List (Option ℕ)) where
  abbrev Still : Memory → Type 0
  Still m = outers m.lists ≡ P

  abbrev To : State → Type 0
  To s = ListsGrow P s

  written : (m : Memory) (f : Frame) (a : ℕ) (v : Value) → Still m → Still (write m f a v)
  written m f a v h = outers_put m.lists f.list a (V v) ∙ h

  -- Values.

  here_to : (v : Value) (l : Level) (ls : List Level) (m : Memory) → Still m → To (unwind.receive_here v l ls m)
  here_to v (frame f) ls m h = inl (written m f f.waits v h)
  here_to v (iteration a it old) ls m h = inl h

  resumer_to : (v : Value) (ls : List Level) (m : Memory) → Still m → To (unwind.receive_in_resumer v ls m)
  resumer_to v [] m h = tt
  resumer_to v (l ∷ ls) m h = here_to v l ls m h

  fiber_to : (v : Value) (o : Option (Onward (List Level))) (m : Memory) → Still m → To (unwind.end_fiber v o m)
  fiber_to v None m h = tt
  fiber_to v (Some o) m h = resumer_to v o.kept (in_resumer m o) h

  receive_to : (v : Value) (ls : List Level) (m : Memory) → Still m → To (receive v ls m)
  unfolding receive
  receive_to v [] m h = fiber_to v (fibers.finish m.fibers) m h
  receive_to v (l ∷ ls) m h = here_to v l ls m h

  -- Exits.

  abbrev Lands : Landing → Type 0
  Lands (lands s) = To s
  Lands (falls x m) = Still m

  reach_to : (t : Bool) (v : Value) (ls : List Level) (m : Memory) (further : Landing) → Still m → Lands further
      → Lands (unwind.reach t v ls m further)
  reach_to true v ls m further h g = receive_to v ls m h
  reach_to false v ls m further h g = g

  past_to : (x : Exit) (f : Frame) (ls : List Level) (m : Memory) (further : Landing) → Still m → Lands further
      → Lands (unwind.past_frame x f ls m further)
  past_to (Raise o) f ls m further h g = g
  past_to (Return a v) f ls m further h g = reach_to (nat_eq a f.activation) v ls (closed m f.activation) further h g
  past_to (Break a v) f ls m further h g = reach_to (nat_eq a f.activation) v ls (closed m f.activation) further h g
  past_to (Jump a t) f ls m further h g =
      either Lands (nat_eq a f.activation) (lands (On (frame (goto f t) ∷ ls) m)) further (inl h) g

  frame_to : (o : Option ℕ) (x : Exit) (f : Frame) (ls : List Level) (m : Memory) (further : Landing) → Still m
      → Lands further → Lands (unwind.at_frame o x f ls m further)
  frame_to None x f ls m further h g = past_to x f ls m further h g
  frame_to (Some t) x f ls m further h g = inl h

  caught_to : (o : Option Value) (ls : List Level) (m : Memory) (further : Landing) → Still m → Lands further
      → Lands (unwind.end_by o ls m further)
  caught_to None ls m further h g = g
  caught_to (Some v) ls m further h g = receive_to v ls m h

  iteration_to : (x : Exit) (a : ℕ) (it : Iteration) (ls : List Level) (m : Memory) (further : Landing) → Still m
      → Lands further → Lands (unwind.at_iteration x a it ls m further)
  iteration_to (Raise o) a it ls m further h g = caught_to (caught it o m.world.store) ls m further h g
  iteration_to (Return b v) a it ls m further h g = reach_to (nat_eq b a) v ls m further h g
  iteration_to (Break b v) a it ls m further h g = reach_to (nat_eq b a) v ls m further h g
  iteration_to (Jump b t) a it ls m further h g = g

  unwind_to : (x : Exit) (ls : List Level) (m : Memory) → Still m → Lands (unwind.unwind p x ls m)
  unfolding unwind.unwind
  unwind_to x [] m h = h
  unwind_to x (frame f ∷ ls) m h =
      frame_to (unwind.handler x (unwind.covering p f.body f.place)) x f ls m (unwind.unwind p x ls (closed m f.activation)) h
      (unwind_to x ls (closed m f.activation) h)
  unwind_to x (iteration a it v ∷ ls) m h =
      iteration_to x a it ls m (unwind.unwind p x ls m) h (unwind_to x ls m h)

  program_to : (u : Unrescued) (out : List ℕ) → To (unwind.end_program u out)
  program_to u out = either To u.exits _ _ tt tt

  asked_to : (c : Bool) (e : ObjId) (m : Memory) → Still m → To (unwind.end_or_ask c e m)
  asked_to true e m h = inl h
  asked_to false e m h = program_to (unrescued m.world.store e) m.world.out

  fallen_to : (again : Exit → List Level → Memory → State) → ((x : Exit) (ls : List Level) (m : Memory) → Still m
      → To (again x ls m)) → (e : ObjId) (o : Option (Onward (List Level))) (m : Memory) → Still m
      → To (unwind.fallen again e o m)
  fallen_to again g e None m h = asked_to (is_asked m.world e) e m h
  fallen_to again g e (Some o) m h = g (Raise e) o.kept (in_resumer m o) h

  land_to : (again : Exit → List Level → Memory → State) → ((x : Exit) (ls : List Level) (m : Memory) → Still m
      → To (again x ls m)) → (l : Landing) → Lands l → To (unwind.land again l)
  land_to again g (lands t) h = h
  land_to again g (falls (Raise e) m) h = fallen_to again g e (fibers.finish m.fibers) m h
  land_to again g (falls (Return a v) m) h = tt
  land_to again g (falls (Break a v) m) h = tt
  land_to again g (falls (Jump a t) m) h = tt

  within_to : (n : ℕ) (x : Exit) (ls : List Level) (m : Memory) → Still m → To (throw_within n p x ls m)
  within_to zero x ls m h = tt
  within_to (suc n) x ls m h =
      land_to (λ y ks k. throw_within n p y ks k) (λ y ks k g. within_to n y ks k g) (unwind.unwind p x ls m)
      (unwind_to x ls m h)

  throw_to : (x : Exit) (ls : List Level) (m : Memory) → Still m → To (throw p x ls m)
  unfolding throw
  throw_to x ls m h = within_to (suc (length m.fibers.others)) x ls m h

  -- Answers.

  after_to : (r : Answer) (a next : ℕ) (f : Frame) (ls : List Level) (m : Memory) → Still m
      → To (after p r a next f ls m)
  after_to r a next f ls m h = by r.result
    where
      by : (z : Result) → To (after_result p z a next f ls (with_world m r.world))
      by (gives v) = inl (written (with_world m r.world) f a v h)
      by (raises e) = throw_to (Raise e) (frame f ∷ ls) (with_world m r.world) h

  answer_to : (r : Answer) (ls : List Level) (m : Memory) → Still m → To (answer p r ls m)
  answer_to r ls m h = by r.result
    where
      by : (z : Result) → To (answer_result p z ls (with_world m r.world))
      by (gives v) = receive_to v ls (with_world m r.world) h
      by (raises e) = throw_to (Raise e) ls (with_world m r.world) h

  only_to : (r : Answer) (next : ℕ) (f : Frame) (ls : List Level) (m : Memory) → Still m
      → To (turns.only p r next f ls m)
  only_to r next f ls m h = by r.result
    where
      by : (z : Result) → To (turns.only_result p z next f ls (with_world m r.world))
      by (gives v) = inl h
      by (raises e) = throw_to (Raise e) (frame f ∷ ls) (with_world m r.world) h

  -- What is entered: a new list has the next number.

  opened : (m : Memory) (r : Registers) → Still m → Grows P (outers (m.lists ++ r ∷ [])) (λ n. length m.lists ≡ n)
  opened m r h = inr (
    r.outer,
    map-append (λ (d : Registers). d.outer) m.lists (r ∷ []) ∙ ap (λ os. os ++ r.outer ∷ []) h,
    sym (length-map m.lists (λ (d : Registers). d.outer)) ∙ ap length h,
  )

  entry_to : (e : Entry) (block : Option ObjId) (ls : List Level) (m : Memory) → Still m → To (enter p e block ls m)
  unfolding enter
  entry_to (answers a) block ls m h = answer_to _ ls m h
  entry_to (enters o w) block ls m h = either To (is_full (depth ls)) _ _ (answer_to _ ls m h) (opened m _ h)
  entry_to (begins it a w) block ls m h = either To (is_full (depth ls)) _ _ (answer_to _ ls m h) (inl h)

  class_to : (b : ℕ) (k : ObjId) (a : _) (ls : List Level) (m : Memory) → Still m
      → To (entering.open_class_body p b k a ls m)
  class_to b k a ls m h = either To (is_full (depth ls)) _ _ (answer_to _ ls m h) (opened m _ h)

  -- Iterations and fibers.

  resume_to : (x : Resumed (List Level)) (args : List Value) (ls : List Level) (m : Memory) → Still m
      → To (entering.resume_by p x args ls m)
  resume_to (refused c) args ls m h = answer_to _ ls m h
  resume_to (begins_fiber b fs) args ls m h = entry_to _ None [] (record m { fibers = fs }) h
  resume_to (continues o) args ls m h = answer_to _ o.kept (entering.in_fiber m o) h

  yield_to : (x : Option (Onward (List Level))) (args : List Value) (ls : List Level) (m : Memory) → Still m
      → To (entering.yield_by p x args ls m)
  yield_to None args ls m h = answer_to _ ls m h
  yield_to (Some o) args ls m h = answer_to _ o.kept (entering.in_fiber m o) h

  plan_to : (x : Plan) (a : ℕ) (ls : List Level) (m : Memory) → Still m → To (entering.carry_out p x a ls m)
  plan_to (plan.finishes v) a ls m h = receive_to v ls (closed m a) h
  plan_to (plan.fails c) a ls m h = answer_to _ ls (closed m a) h
  plan_to (plan.raises e) a ls m h = throw_to (Raise e) ls (closed m a) h
  plan_to (plan.sends it v x args b public) a ls m h = entry_to _ None _ m h
  plan_to (plan.calls it b args block) a ls m h = entry_to _ None _ m h
  plan_to (plan.writes it bytes) a ls m h = inl h
  plan_to (plan.reads it) a ls m h = answer_to _ _ m h
  plan_to (plan.resumes it f args) a ls m h =
      resume_to (fibers.resume m.fibers (entering.waiting a it ls) m.world.store f) args _ m h
  plan_to (plan.yields it args) a ls m h = yield_to (fibers.yield m.fibers (entering.waiting a it ls)) args _ m h

  iterate_to : (a : ℕ) (it : Iteration) (v : Value) (ls : List Level) (m : Memory) → Still m
      → To (iterate p a it v ls m)
  unfolding iterate
  iterate_to a it v ls m h = plan_to (plan.next it v m.world.store).plan a ls (with_world m _) h

  -- Instructions.

  module _ (next : ℕ) (f : Frame) (ls : List Level) where
    set_to : (a : ℕ) (v : Value) (m : Memory) → Still m → To (turns.set a v next f ls m)
    set_to a v m h = inl (written m f a v h)

    integer_to : (o : Option PoolItem) (a : ℕ) (m : Memory) → Still m → To (turns.load_integer o a next f ls m)
    integer_to None a m h = tt
    integer_to (Some (pool.Int z)) a m h = set_to a (Int z) m h
    integer_to (Some (pool.Text t)) a m h = tt

    text_to : (o : Option PoolItem) (a : ℕ) (m : Memory) → Still m → To (turns.new_text p o a next f ls m)
    text_to None a m h = tt
    text_to (Some (pool.Int z)) a m h = tt
    text_to (Some (pool.Text t)) a m h = inl (outers_put m.lists f.list a _ ∙ h)

    call_to : (k : Sending) (a n : ℕ) (block : Option ObjId) (m : Memory) → Still m
        → To (turns.call p k a n block next f ls m)
    call_to k a n block m h = entry_to _ block _ m h

    given_to : (k : Sending) (a n : ℕ) (x : BlockArgument) (m : Memory) → Still m
        → To (turns.call_with p k a n x next f ls m)
    given_to k a n no_block m h = call_to k a n None m h
    given_to k a n (block_of b w) m h = call_to k a n (Some b) (with_world m w) h
    given_to k a n not_a_block m h = after_to _ a next f ls m h

    block_to : (k : Sending) (a n : ℕ) (m : Memory) → Still m → To (turns.call_with_block p k a n next f ls m)
    block_to k a n m h =
        given_to k a n (block_argument m.world (reg f m (a + 1 + turns.registers_of n))) m h

    row_still : (m : Memory) (a : ℕ) (vs : List Value) → Still m → Still (turns.write_row m f a vs)
    row_still m a [] h = h
    row_still m a (v ∷ vs) h = row_still (write m f a v) (a + 1) vs (written m f a v h)

    bound_to : (q : Parameters) (x : Bound) (m : Memory) → Still m → To (turns.enter_bound p q x next f ls m)
    bound_to q (Values list filled) m h = inl (row_still m 1 (list ++ turns.block_value f.block ∷ []) h)
    bound_to q (Wrong given) m h = after_to _ 0 next f ls m h

    leave_to : (exit : ℕ → Exit) (failure : Answer) (o : Option ℕ) (m : Memory) → Still m
        → To (turns.leave_to p exit failure o next f ls m)
    leave_to exit failure None m h = after_to failure 0 next f ls m h
    leave_to exit failure (Some a) m h =
        either To (turns.is_under_way (frame f ∷ ls) a) _ _ (throw_to (exit a) (frame f ∷ ls) m h)
        (after_to failure 0 next f ls m h)

    raise_to : (x : Slot) (m : Memory) → Still m → To (turns.go_on_if p x next f ls m)
    raise_to (V v) m h = inl h
    raise_to (E x) m h = throw_to x (frame f ∷ ls) m h

    object_to : (i : List ℕ) (o : Option ObjId) (a : ℕ) (m : Memory) (change : ObjId → Answer) → Still m
        → To (turns.on_object p i o a next f ls m change)
    object_to i None a m change h = after_to _ a next f ls m h
    object_to i (Some id) a m change h = after_to _ a next f ls m h

    execute_to : (b : ℕ) (o : Option ObjId) (a : ℕ) (m : Memory) → Still m → To (turns.execute p b o a next f ls m)
    execute_to b None a m h = after_to _ a next f ls m h
    execute_to b (Some k) a m h = class_to b k (turns.running f m) (frame (turns.waits_in a next f) ∷ ls) m h

    home_to : (o : Option ObjId) (a : ℕ) (m : Memory) → Still m → To (turns.block_of_home p o a next f ls m)
    home_to None a m h = after_to _ a next f ls m h
    home_to (Some b) a m h = set_to a (Obj b) m h

    act_to : (o : Operation) (m : Memory) → Still m → To (turns.act p o next f ls m)
    act_to op.Nop m h = inl h
    act_to (op.Move a b) m h = set_to a _ m h
    act_to (op.LoadL a b) m h = integer_to (slice_get (body_at p f.body).pool b) a m h
    act_to (op.LoadI a b) m h = set_to a _ m h
    act_to (op.LoadI16 a z) m h = set_to a _ m h
    act_to (op.LoadI32 a z) m h = set_to a _ m h
    act_to (op.LoadSym a b) m h = set_to a _ m h
    act_to (op.LoadNil a) m h = set_to a _ m h
    act_to (op.LoadSelf a) m h = set_to a _ m h
    act_to (op.LoadT a) m h = set_to a _ m h
    act_to (op.LoadF a) m h = set_to a _ m h
    act_to (op.GetGv a b) m h = set_to a _ m h
    act_to (op.SetGv a b) m h = inl h
    act_to (op.GetIv a b) m h = set_to a _ m h
    act_to (op.SetIv a b) m h = after_to _ a next f ls m h
    act_to (op.GetConst a b) m h = after_to _ a next f ls m h
    act_to (op.SetConst a b) m h = after_to _ a next f ls m h
    act_to (op.GetMCnst a b) m h = after_to _ a next f ls m h
    act_to (op.SetMCnst a b) m h = after_to _ a next f ls m h
    act_to (op.GetUpVar a b d) m h = set_to a _ m h
    act_to (op.SetUpVar a b d) m h = inl (outers_put m.lists _ b _ ∙ h)
    act_to (op.Jmp by) m h = inl h
    act_to (op.JmpIf a by) m h = inl h
    act_to (op.JmpNot a by) m h = inl h
    act_to (op.JmpUw by) m h = throw_to _ (frame f ∷ ls) m h
    act_to (op.Except a) m h = inl (outers_put m.lists f.list a _ ∙ h)
    act_to (op.Rescue a b) m h = after_to _ b next f ls m h
    act_to (op.RaiseIf a) m h = raise_to (slot_at m.lists f.list a) m h
    act_to (op.SSend a b n) m h =
        call_to (turns.self_name n (turns.symbol p f m b)) a (turns.self_count n) None (turns.self_first f m a)
        (written m f a (reg f m 0) h)
    act_to (op.SSendB a b n) m h =
        block_to (by_name (turns.symbol p f m b)) a n (turns.self_first f m a) (written m f a (reg f m 0) h)
    act_to (op.Send a b n) m h = call_to (by_name (turns.symbol p f m b)) a n None m h
    act_to (op.SendB a b n) m h = block_to (by_name (turns.symbol p f m b)) a n m h
    act_to (op.Call a n) m h = call_to to_proc a n None m h
    act_to (op.Super a n) m h =
        block_to to_super a n (turns.self_first f m a) (written m f a (reg f m 0) h)
    act_to (op.Enter q) m h =
        bound_to q (bind m.world.store (turns.shape_of q) f.arguments f.binds).bound (with_world m _) h
    act_to (op.BlkPush a) m h = home_to (turns.running f m).block a m h
    act_to (op.Return a) m h = throw_to _ (frame f ∷ ls) m h
    act_to (op.ReturnBlk a) m h =
        leave_to (λ t. Return t (reg f m a)) (fail m.world cause.UnexpectedReturn) (Some (turns.running f m).home) m h
    act_to (op.Break a) m h =
        leave_to (λ t. Break t (reg f m a)) (fail m.world cause.BreakFromProc)
        (break_target m.world f.activation (turns.running f m).runs) m h
    act_to (op.Add a) m h = call_to _ a 1 None m h
    act_to (op.Sub a) m h = call_to _ a 1 None m h
    act_to (op.Mul a) m h = call_to _ a 1 None m h
    act_to (op.Div a) m h = call_to _ a 1 None m h
    act_to (op.Eq a) m h = call_to _ a 1 None m h
    act_to (op.Lt a) m h = call_to _ a 1 None m h
    act_to (op.Le a) m h = call_to _ a 1 None m h
    act_to (op.Gt a) m h = call_to _ a 1 None m h
    act_to (op.Ge a) m h = call_to _ a 1 None m h
    act_to (op.Array a n) m h = inl (outers_put m.lists f.list a _ ∙ h)
    act_to (op.AryPush a n) m h =
        object_to (codes "ARYPUSH") (an_array m.world.store.objects (reg f m a)) a m
        (λ id. give (with_store m.world (values.pushed m.world.store id (turns.row f m (a + 1) n))) (Obj id)) h
    act_to (op.AryCat a) m h =
        object_to (codes "ARYCAT") (an_array m.world.store.objects (reg f m a)) a m
        (λ id. give (with_store m.world
        (values.push_splat (values.splat m.world.store (reg f m (a + 1))) id)) (Obj id)) h
    act_to (op.ARef a b k) m h = after_to _ a next f ls m h
    act_to (op.APost a b n) m h = after_to _ a next f ls m h
    act_to (op.Intern a) m h = after_to _ a next f ls m h
    act_to (op.String a b) m h = text_to (slice_get (body_at p f.body).pool b) a m h
    act_to (op.StrCat a) m h =
        object_to (codes "STRCAT") (a_string m.world.store.objects (reg f m a)) a m
        (λ id. give (with_store m.world
        (values.appended m.world.store id (values.text_of_value m.world.store (reg f m (a + 1))))) (Obj id)) h
    act_to (op.Hash a n) m h = after_to _ a next f ls m h
    act_to (op.HashAdd a n) m h =
        object_to (codes "HASHADD") (a_hash m.world.store.objects (reg f m a)) a m
        (λ id. turns.add_pairs m.world id (turns.row f m (a + 1) (n + n))) h
    act_to (op.Lambda a b) m h = after_to _ a next f ls m h
    act_to (op.Block a b) m h = after_to _ a next f ls m h
    act_to (op.RangeInc a) m h = after_to _ a next f ls m h
    act_to (op.RangeExc a) m h = after_to _ a next f ls m h
    act_to (op.OClass a b) m h = set_to a _ m h
    act_to (op.Class a b) m h = after_to _ a next f ls m h
    act_to (op.Module a b) m h = after_to _ a next f ls m h
    act_to (op.Exec a b) m h =
        execute_to (turns.child p f b) (definitions.space_in m.world.store.objects (reg f m a)) a m h
    act_to (op.Def a b k) m h = after_to _ a next f ls m h
    act_to (op.Alias a b) m h = only_to _ next f ls m h
    act_to (op.Undef a) m h = only_to _ next f ls m h
    act_to (op.SClass a) m h = after_to _ a next f ls m h
    act_to (op.TClass a) m h = set_to a _ m h
    act_to (op.Defined a b k) m h = after_to _ a next f ls m h
    act_to op.Stop m h = tt

  place_to : (o : Option (Instruction × ℕ)) (f : Frame) (ls : List Level) (m : Memory) → Still m
      → To (turns.act_at p o f ls m)
  place_to None f ls m h = tt
  place_to (Some i) f ls m h = act_to i.1 f ls i.0.operation m h

pub lists_grow : (p : Program) (ls : List Level) (m : Memory) → ListsGrow (outers m.lists) (turn p (On ls m))
lists_grow p [] m = tt
lists_grow p (frame f ∷ ls) m = place_to p (outers m.lists) (fetch p f.body f.place) f ls m refl
lists_grow p (iteration a it v ∷ ls) m = iterate_to p (outers m.lists) a it v ls m refl
