-- Iterations: one plan is one transition and one turn.
use Rattle.std.proofs.Common.{◌≡◌, ◌⊎◌, ℕ, ◌+◌, ◌<◌, ◌≤◌, List, [], ◌∷◌, refl, sym, ap, ◌∙◌, subst, arith}
use Rattle.std.specs.Prelude.{Option, None}
use Rattle.rb_value.specs.declared.value.Value.{Value}
use Rattle.rb_value.specs.declared.value.Value.TheVariants.{Nil, Obj}
use Rattle.rb_value.specs.declared.value.ObjId.{ObjId}
use Rattle.def_core.specs.declared.cause.Cause.{Cause}
use Rattle.def_core.specs.declared.cause.Cause.TheVariants as cause
use Rattle.def_core.specs.Store.{Store, next_number}
use Rattle.def_rows.specs.Answers.{items_object}
use Rattle.rite_code.specs.Code.{Program}
use Rattle.def_calls.specs.World.{World, fail, make, with_store, write}
use Rattle.def_calls.specs.Calls.{close, send_by_core, enter_proc, one_of, read}
use Rattle.def_calls.specs.Plans.{Iteration, Plan, finishes, fails, raises, sends, calls, writes, reads, resumes, yields}
use Rattle.def_calls.specs.Plans as plans
use Rattle.def_calls.specs.Fibers.{Wait, resuming, suspended, Fiber, put_aside, Onward, Resumed}
use Rattle.def_calls.specs.Fibers as fibers
use Rattle.def_eval.specs.Source.{Source}
use Rattle.def_eval.specs.Configuration as source
use Rattle.def_eval.specs.Configuration.{Place, Item, iteration, Kept, give, Config, Run}
use Rattle.def_eval.specs.Entering.{after}
use Rattle.def_eval.specs.Giving.{in_fiber, resume_by, yield_by, carry_out, do_give}
use Rattle.def_eval.specs.Transition.{go}
use Rattle.def_machine.specs.State as machine
use Rattle.def_machine.specs.State.{Level, On}
use Rattle.def_machine.specs.Unwind.{receive}
use Rattle.def_machine.specs.Entering.{answer, in_fiber as in_fiber_machine, resume_by as resume_by_machine, yield_by as yield_by_machine, carry_out as carry_out_machine, iterate}
use Rattle.def_machine.specs.Turn.{turn}
use Rattle.step_laws.specs.Calm.{Grows, Quiet, Still, Peace}
use Rattle.step_laws.specs.Bodies.{CallsBodies}
use Rattle.step_laws.specs.Measure.{waiting, measure}
use Rattle.step_laws.specs.Relation.{Waits, Ground, over_levels, WaitsBelow, uses, uses_in, Both, raised, Alike, Advances}
use Rattle.step_laws.proofs.Untouched.{sites_grow, grown}
use Rattle.step_laws.proofs.Switching.{Onwards, nowhere, onward, OnwardIs, Resumes, refuses, starts, goes_on, yielded, resumed, ground_in, switched}
use Rattle.step_laws.proofs.Matching.{no_turn, one_turn, going}
use Rattle.step_laws.proofs.Calling.{Origin, leaves, falls, given_back, given_on, answered}
use Rattle.step_laws.proofs.Called.{proc_entered, sent_entered}
use Rattle.step_laws.proofs.Entered.{then_enters, entered}
use Rattle.step_laws.proofs.Literals.{aligned}

module _ (s : Source) (p : Program) (v : Value) (a : ℕ) (it : Iteration) (place : Place) (ks : List Item)
    (m : source.Memory) (g : Ground) (k : machine.Memory) (both : Both s p g m (aligned k m))
    (waits : WaitsBelow g k.lists ks place) (peace : Peace s p (give v) (iteration a it place ∷ ks) m)
  where
    abbrev conf : Config
    conf = Run (give v) (iteration a it place ∷ ks) m

    abbrev levels : List Level
    levels = machine.iteration a it v ∷ g.below

    from : Origin s conf levels (aligned k m) m
    from = record {
      alike = going (give v) (iteration a it place ∷ ks) m levels (aligned k m) refl;
      out = refl;
      quiet = peace.quiet;
    }

    -- a body is entered, of what the plan calls
    abbrev MayCall : Store → Type 0
    MayCall st = Still m (go s conf) ⊎ CallsBodies s p m.world.store.objects st.objects

    -- back at the place of the caller
    back : (w : World) → Grows m.world w
        → Both s p (over_levels g g.below) (record m { place = place; world = w }) (machine.with_world k w)
    back w grows =
        let b = grown g m (aligned k m) both place w grows in
        record { world = b.world; sites = b.sites; fibers = b.fibers; apart = b.apart }

    -- the iteration waits, as it goes on
    stay : (next : Iteration) (w : World) → Grows m.world w
        → Both s p (over_levels g (machine.iteration a next Nil ∷ g.below)) (source.with_world m w) (machine.with_world k w)
    stay next w grows =
        let b = grown g m (aligned k m) both m.place w grows in
        record { world = b.world; sites = b.sites; fibers = b.fibers; apart = b.apart }

    on : (next : Iteration) → Waits g.sites g.fiber k.lists (iteration a next place ∷ ks) m.place
        (machine.iteration a next Nil ∷ g.below)
    on next = record { others = ks; back = place; is = refl; next = waits }

    failed : (c : Cause) (next : Iteration) (st : Store)
        → go s conf ≡ after (fail (with_store m.world st) c) (iteration a next place ∷ ks)
        (source.with_world m (with_store m.world st))
        → turn p (On levels (aligned k m)) ≡ answer p (fail (with_store m.world st) c)
        (machine.iteration a next Nil ∷ g.below) (machine.with_world k (with_store m.world st))
        → Advances s p conf (On levels (aligned k m))
    failed c next st goes turns =
        let w = with_store m.world st in
        let x = fail w c in
        (answered s p conf levels (aligned k m) m from x.result x.world (iteration a next place ∷ ks)
        (source.with_world m w) g (machine.iteration a next Nil ∷ g.below) (machine.with_world k w) goes turns (omega arith)
        (stay next) (on next)).advances

    -- what the iteration leaves behind where it goes to another fiber
    abbrev left : Iteration → Kept
    left next = record { items = iteration a next place ∷ ks; place = m.place }

    abbrev left_too : Iteration → List Level
    left_too next = machine.iteration a next Nil ∷ g.below

    few : (next : Iteration) (w : Wait) (n : ℕ) → uses_in n (put_aside k.fibers w (left_too next)) ≤ 1
    few next w n = omega (arith, both.apart n)

    -- another fiber goes on with what it is given
    switches : (next : Iteration) (w : Wait) (st : Store) (args : List Value) (o : Onward Kept) (q : Onward (List Level))
        → OnwardIs g.sites k.lists (put_aside m.fibers w (left next)) (put_aside k.fibers w (left_too next)) o q
        → go s conf ≡ after (one_of (with_store m.world st) args) o.kept.items
        (in_fiber (source.with_world m (with_store m.world st)) o)
        → turn p (On levels (aligned k m)) ≡ answer p (one_of (with_store m.world st) args) q.kept
        (in_fiber_machine (machine.with_world k (with_store m.world st)) q)
        → Advances s p conf (On levels (aligned k m))
    switches next w st args o q i goes turns = by args goes turns
      where
        on_with : (v : Value) (u : World)
            → go s conf ≡ Run (give v) o.kept.items (source.with_world (in_fiber m o) u)
            → turn p (On levels (aligned k m)) ≡ receive v q.kept (machine.with_world (in_fiber_machine k q) u)
            → Advances s p conf (On levels (aligned k m))
        on_with v u goes turns =
            let still = subst (Quiet m) goes peace.quiet in
            (given_on s p conf levels (aligned k m) from.alike v o.kept.items (source.with_world (in_fiber m o) u)
            (ground_in g o q.kept) q.kept (machine.with_world (in_fiber_machine k q) u) goes turns i.some
            (switched s p g m (aligned k m) (put_aside m.fibers w (left next)) (put_aside k.fibers w (left_too next)) o q u u
            both.sites (few next w) i still.1 refl) i.waits).advances

        by : (args : List Value) → go s conf ≡ after (one_of (with_store m.world st) args) o.kept.items
            (in_fiber (source.with_world m (with_store m.world st)) o)
            → turn p (On levels (aligned k m)) ≡ answer p (one_of (with_store m.world st) args) q.kept
            (in_fiber_machine (machine.with_world k (with_store m.world st)) q)
            → Advances s p conf (On levels (aligned k m))
        by [] goes turns = on_with Nil (with_store m.world st) goes turns
        by (v ∷ []) goes turns = on_with v (with_store m.world st) goes turns
        by (v ∷ u ∷ us) goes turns =
            let x = make (with_store m.world st) (items_object (v ∷ u ∷ us)) in
            on_with (Obj (next_number st)) x.world goes turns

    resumed_by : (next : Iteration) (f : ObjId) (args : List Value) (st : Store) → MayCall st → (x : Resumed Kept)
        (y : Resumed (List Level))
        → Resumes g.sites k.lists (put_aside m.fibers resuming (left next)) (put_aside k.fibers resuming (left_too next)) x y
        → go s conf ≡ resume_by s x args (iteration a next place ∷ ks) (source.with_world m (with_store m.world st))
        → turn p (On levels (aligned k m)) ≡ resume_by_machine p y args (left_too next)
        (machine.with_world k (with_store m.world st))
        → Advances s p conf (On levels (aligned k m))
    resumed_by next f args st may x y (refuses c e d) goes turns =
        let w = with_store m.world st in
        failed c next st
        (goes ∙ ap (λ (r : Resumed Kept). resume_by s r args (iteration a next place ∷ ks) (source.with_world m w)) e)
        (turns ∙ ap (λ (r : Resumed (List Level)). resume_by_machine p r args (left_too next) (machine.with_world k w)) d)
    resumed_by next f args st may x y (starts b d e is is_too all others others_too) goes turns =
        let w = with_store m.world st in
        let alone : (n : ℕ) → uses n [] + uses_in n e.others ≤ 1 = λ n. omega (arith, few_of n) in
        let lighter : waiting d.others ≡ waiting (put_aside m.fibers resuming (left next)) = ap waiting others in
        (entered s p conf levels (aligned k m) m from (enter_proc w b args None) None []
        (record m { fibers = d; world = w }) (record { sites = g.sites; fiber = d.running; below = [] }) []
        (record k { fibers = e; world = w })
        (goes ∙ ap (λ (r : Resumed Kept). resume_by s r args (iteration a next place ∷ ks) (source.with_world m w)) is)
        (turns ∙ ap (λ (r : Resumed (List Level)). resume_by_machine p r args (left_too next) (machine.with_world k w)) is_too)
        (omega (arith, lighter)) refl (λ u grows. record {
          world = refl;
          sites = sites_grow s p g.sites m.scopes k.lists m.world u grows both.sites;
          fibers = all;
          apart = alone;
        }) refl (then_enters s p m.world.store.objects w.store.objects (enter_proc w b args None)
        (λ i. proc_entered s p m.world.store.objects w i b args None) may)).advances
      where
        few_of : (n : ℕ) → uses_in n e.others ≤ 1
        few_of n = subst (λ (fs : List (Fiber (List Level))). uses_in n fs ≤ 1) (sym others_too) (few next resuming n)
    resumed_by next f args st may x y (goes_on o q is is_too i) goes turns =
        let w = with_store m.world st in
        switches next resuming st args o q i
        (goes ∙ ap (λ (r : Resumed Kept). resume_by s r args (iteration a next place ∷ ks) (source.with_world m w)) is)
        (turns ∙ ap (λ (r : Resumed (List Level)). resume_by_machine p r args (left_too next) (machine.with_world k w)) is_too)

    yielded_by : (next : Iteration) (args : List Value) (st : Store) → (x : Option (Onward Kept))
        (y : Option (Onward (List Level)))
        → Onwards g.sites k.lists (put_aside m.fibers suspended (left next)) (put_aside k.fibers suspended (left_too next))
        x y
        → go s conf ≡ yield_by x args (iteration a next place ∷ ks) (source.with_world m (with_store m.world st))
        → turn p (On levels (aligned k m)) ≡ yield_by_machine p y args (left_too next)
        (machine.with_world k (with_store m.world st))
        → Advances s p conf (On levels (aligned k m))
    yielded_by next args st x y (nowhere e d) goes turns =
        let w = with_store m.world st in
        failed cause.RootYield next st
        (goes ∙ ap (λ (r : Option (Onward Kept)). yield_by r args (iteration a next place ∷ ks) (source.with_world m w)) e)
        (turns ∙ ap (λ (r : Option (Onward (List Level))). yield_by_machine p r args (left_too next) (machine.with_world k w))
        d)
    yielded_by next args st x y (onward o q e d i) goes turns =
        let w = with_store m.world st in
        switches next suspended st args o q i
        (goes ∙ ap (λ (r : Option (Onward Kept)). yield_by r args (iteration a next place ∷ ks) (source.with_world m w)) e)
        (turns ∙ ap (λ (r : Option (Onward (List Level))). yield_by_machine p r args (left_too next) (machine.with_world k w))
        d)

    planned : (q : Plan) (st : Store) → MayCall st
        → go s conf ≡ carry_out s q a place ks (source.with_world m (with_store m.world st))
        → turn p (On levels (aligned k m)) ≡ carry_out_machine p q a g.below (machine.with_world k (with_store m.world st))
        → Advances s p conf (On levels (aligned k m))
    planned (finishes u) st may goes turns =
        let w = close (with_store m.world st) a in
        let m' : source.Memory = record m { place = place; world = w } in
        let still = subst (Quiet m) goes peace.quiet in
        (given_back s p conf levels (aligned k m) m from u ks m' g g.below (machine.with_world k w) goes turns
        (falls g.below ks m' conf (omega arith)) (back w still.1) waits).advances
    planned (fails c) st may goes turns =
        let w = with_store m.world st in
        let x = fail w c in
        let m' : source.Memory = record m { place = place; world = close w a } in
        (answered s p conf levels (aligned k m) m from x.result x.world ks m' g g.below (machine.with_world k (close w a))
        goes turns (falls g.below ks m' conf (omega arith)) back waits).advances
    planned (raises e) st may goes turns =
        let w = close (with_store m.world st) a in
        let still = subst (Quiet m) goes peace.quiet in
        no_turn s p conf (On levels (aligned k m)) (subst (λ (d : Config). measure d < measure conf) (sym goes) (omega arith))
        (subst (λ (d : Config). Alike s p d (On levels (aligned k m))) (sym goes) (raised (record {
          g = over_levels g g.below;
          e = e;
          exception = refl;
          memory = machine.with_world k w;
          throws = turns;
          out = sym still.0;
          both = back w still.1;
          leaving = leaves g.sites g.fiber k.lists ks place g.below waits;
        })))
    planned (sends next u x args b public) st may goes turns =
        let w = with_store m.world st in
        (entered s p conf levels (aligned k m) m from (send_by_core w u x args b public) None (iteration a next place ∷ ks)
        (source.with_world m w) g (machine.iteration a next Nil ∷ g.below) (machine.with_world k w) goes turns (omega arith)
        refl (stay next) (on next) (then_enters s p m.world.store.objects w.store.objects (send_by_core w u x args b public)
        (λ i. sent_entered s p m.world.store.objects w i u x args b public) may)).advances
    planned (calls next q args b) st may goes turns =
        let w = with_store m.world st in
        (entered s p conf levels (aligned k m) m from (enter_proc w q args b) None (iteration a next place ∷ ks)
        (source.with_world m w) g (machine.iteration a next Nil ∷ g.below) (machine.with_world k w) goes turns (omega arith)
        refl (stay next) (on next) (then_enters s p m.world.store.objects w.store.objects (enter_proc w q args b)
        (λ i. proc_entered s p m.world.store.objects w i q args b) may)).advances
    planned (writes next bytes) st may goes turns =
        let w = write (with_store m.world st) bytes in
        let still = subst (Quiet m) goes peace.quiet in
        one_turn s p conf (On levels (aligned k m)) (On (machine.iteration a next Nil ∷ g.below) (machine.with_world k w))
        from.alike turns
        (subst (λ (d : Config). Alike s p d (On (machine.iteration a next Nil ∷ g.below) (machine.with_world k w))) (sym goes)
        (record { g = g; is = refl; both = grown g m (aligned k m) both m.place w still.1; waits = waits }))
    planned (reads next) st may goes turns =
        let w = with_store m.world st in
        let x = read w in
        (answered s p conf levels (aligned k m) m from x.result x.world (iteration a next place ∷ ks)
        (source.with_world m w) g (machine.iteration a next Nil ∷ g.below) (machine.with_world k w) goes turns (omega arith)
        (stay next) (on next)).advances
    planned (resumes next f args) st may goes turns =
        resumed_by next f args st may
        (fibers.resume m.fibers (left next) st f) (fibers.resume k.fibers (left_too next) st f)
        (resumed g.sites g.fiber k.lists m.fibers k.fibers both.fibers (left next) (left_too next) (omega arith) (on next) st f)
        goes turns
    planned (yields next args) st may goes turns =
        yielded_by next args st (fibers.yield m.fibers (left next)) (fibers.yield k.fibers (left_too next))
        (yielded g.sites g.fiber k.lists m.fibers k.fibers both.fibers (left next) (left_too next) (omega arith) (on next))
        goes turns

    pub give_iteration : Advances s p conf (On levels (aligned k m))
    unfolding do_give iterate
    give_iteration =
        let q = plans.next it v m.world.store in
        planned q.plan q.store peace.calls refl refl
