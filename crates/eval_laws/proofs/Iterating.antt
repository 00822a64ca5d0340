-- What iterations do fits, and so does what moves between fibers.
use Rattle.std.proofs.Common.{refl, ◌≡◌, ℕ, List, [], ◌∷◌}
use Rattle.std.specs.Prelude.{Option, Some, None}
use Rattle.rb_value.specs.declared.value.Value.{Value}
use Rattle.def_core.specs.declared.cause.Cause.TheVariants as cause
use Rattle.def_core.specs.Sound.{census, Proc, IsValue, OptionIs, AllAre}
use Rattle.def_calls.specs.World.{World, Answer, Result, gives, raises, fail, write, with_store}
use Rattle.def_calls.specs.Calls.{close, one_of, read, send_by_core, enter_proc}
use Rattle.def_calls.specs.Plans as plan
use Rattle.def_calls.specs.Plans.{Iteration, Plan, Planned}
use Rattle.def_calls.specs.Fibers.{Fibers, Onward, Resumed, refused, begins, continues}
use Rattle.def_calls.specs.Fibers as fibers
use Rattle.def_eval.specs.Source.{Source}
use Rattle.def_eval.specs.Configuration as eval
use Rattle.def_eval.specs.Configuration.{Place, Item, Kept, Focus, Memory, with_world, Config, Run}
use Rattle.def_eval.specs.Entering.{after, after_result}
use Rattle.def_eval.specs.Giving.{returned, in_fiber, resume_by, yield_by, kept_as, carry_out, go_on, end_fiber, give_outgoing, do_give}
use Rattle.world_laws.specs.Fine.{Keeps}
use Rattle.world_laws.specs.Outcomes.{AnswerIs, ResultIs, StateIs, PlanIs, PlannedIs, OnwardIs, ResumedIs}
use Rattle.world_laws.proofs.Growing.{extends_both, value_stays}
use Rattle.world_laws.proofs.Worlds.{extends_written, fine_written}
use Rattle.world_laws.proofs.Answers.{fails_with}
use Rattle.world_laws.proofs.Ending.{close_keeps, one_of_is, read_is}
use Rattle.world_laws.proofs.Entering.{proc_enters}
use Rattle.world_laws.proofs.Calling.{send_is}
use Rattle.world_laws.proofs.Plans.{next_is}
use Rattle.world_laws.proofs.Fibers.{resume_is, yield_is, finish_is, ended_keeps}
use Rattle.def_core.proofs.Good.{is_good}
use Rattle.eval_laws.specs.Fits.{Past, After, IsCore, PlaceFits, OutgoingFits, ItemsFit, KeptFits, MemoryFits, FocusFits, Fits, bodies}
use Rattle.eval_laws.proofs.Staying.{exit_stays, items_stay}
use Rattle.eval_laws.proofs.Scopes.{parents_of, later_itself}
use Rattle.eval_laws.proofs.Going.{Under, memory_later, under_then, goes, after_fits, quietly, same_since}
use Rattle.eval_laws.proofs.Entered.{entry_fits}
use Rattle.eval_laws.proofs.Giving.{part_given}

module _ (s : Source) (early : Past) where
  -- Back at the place of a caller.

  pub placed : (ks : List Item) (m : Memory) (back : Place) → MemoryFits s early m → PlaceFits m.world m.scopes back
      → ItemsFit s m.world m.scopes back ks → Under s early ks (record m { place = back })
  placed ks m back h place items = record {
    memory = record {
      place = place;
      scopes = h.scopes;
      world = h.world;
      names = h.names;
      fibers = h.fibers;
      since = h.since;
      out = h.out;
    };
    items = items;
  }

  pub closed : (m : Memory) (a : ℕ) → MemoryFits s early m → Keeps (bodies s early.Known m.scopes) m.world (close m.world a)
  closed m a h = close_keeps (bodies s early.Known m.scopes) m.world h.world a

  pub back_under : (ks : List Item) (m : Memory) (a : ℕ) (back : Place) → MemoryFits s early m
      → PlaceFits m.world m.scopes back → ItemsFit s m.world m.scopes back ks → Under s early ks (returned m a back)
  back_under ks m a back h place items =
      under_then s early ks (record m {
        place =
            back;
      }) (close m.world a) (placed ks m back h place items) (closed m a h)

  -- an answer of the world before the end of the activation
  back_after : (c : Answer) (ks : List Item) (m : Memory) (a : ℕ) (back : Place) → MemoryFits s early m
      → PlaceFits m.world m.scopes back → ItemsFit s m.world m.scopes back ks
      → AnswerIs (bodies s early.Known m.scopes) m.world c → Fits s early (after c ks (returned m a back))
  back_after c ks m a back h place items is = by c.result is.result
    where
      by : (r : Result) → ResultIs (census c.world.store) r
          → Fits s early (after_result r c.world ks (returned m a back))
      by (gives v) g = goes s early (eval.give v) ks (with_world (record m { place = back }) c.world)
          (under_then s early ks (record m { place = back }) c.world (placed ks m back h place items) is.keeps) g
      by (raises e) g = goes s early (eval.travel (eval.raise e)) ks (with_world (record m { place = back }) c.world)
          (under_then s early ks (record m { place = back }) c.world (placed ks m back h place items) is.keeps) g

  -- Fibers.

  kept_is : (ks : List Item) (m : Memory) → Under s early ks m → KeptFits s m.world m.scopes (kept_as ks m)
  kept_is ks m u = record { place = u.memory.place; items = u.items }

  -- another fiber goes on
  under_fiber : (m : Memory) (o : Onward Kept) → MemoryFits s early m
      → OnwardIs (census m.world.store) (KeptFits s m.world m.scopes) o → Under s early o.kept.items (in_fiber m o)
  under_fiber m o h is = record {
    memory = record {
      place = is.kept.place;
      scopes = h.scopes;
      world = h.world;
      names = h.names;
      fibers = is.fibers;
      since = h.since;
      out = h.out;
    };
    items = is.kept.items;
  }

  resumed : (x : Resumed Kept) (args : List Value) (ks : List Item) (m : Memory) → Under s early ks m
      → ResumedIs (census m.world.store) (KeptFits s m.world m.scopes) x → AllAre (IsValue (census m.world.store)) args
      → Fits s early (resume_by s x args ks m)
  resumed (refused c) args ks m u is all =
      after_fits s early (fail m.world c) ks m u (fails_with (bodies s early.Known m.scopes) m.world u.memory.world c is)
  resumed (begins p fs) args ks m u is all =
      entry_fits s early None [] (record m { fibers = fs })
      (record {
        memory = record {
          place = u.memory.place;
          scopes = u.memory.scopes;
          world = u.memory.world;
          names = u.memory.names;
          fibers = is.1;
          since = u.memory.since;
          out = u.memory.out;
        };
        items = tt;
      }) tt (enter_proc m.world p args None)
      (proc_enters (bodies s early.Known m.scopes) m.world u.memory.world args None all tt p (is_good m.world.store Proc p is.0).there)
  resumed (continues o) args ks m u is all =
      after_fits s early (one_of m.world args) o.kept.items (in_fiber m o) (under_fiber m o u.memory is)
      (one_of_is (bodies s early.Known m.scopes) m.world u.memory.world args all)

  yielded : (x : Option (Onward Kept)) (args : List Value) (ks : List Item) (m : Memory) → Under s early ks m
      → OptionIs (OnwardIs (census m.world.store) (KeptFits s m.world m.scopes)) x
      → AllAre (IsValue (census m.world.store)) args → Fits s early (yield_by x args ks m)
  yielded None args ks m u is all =
      after_fits s early (fail m.world cause.RootYield) ks m u
      (fails_with (bodies s early.Known m.scopes) m.world u.memory.world cause.RootYield tt)
  yielded (Some o) args ks m u is all =
      after_fits s early (one_of m.world args) o.kept.items (in_fiber m o) (under_fiber m o u.memory is)
      (one_of_is (bodies s early.Known m.scopes) m.world u.memory.world args all)

  -- the end of a fiber, with what leaves it
  pub fiber_ended : (f : Focus) (x : Option (Onward Kept)) (m : Memory) → MemoryFits s early m
      → OptionIs (OnwardIs (census m.world.store) (KeptFits s m.world m.scopes)) x
      → ((o : Onward Kept) (w : World) → Keeps (bodies s early.Known m.scopes) m.world w
      → FocusFits s o.kept.items (with_world (in_fiber m o) w) f) → Fits s early (end_fiber f x m)
  fiber_ended f None m h is focus = tt
  fiber_ended f (Some o) m h is focus =
      let w = with_store m.world (fibers.with_ended m.world.store m.fibers.running) in
      let k = ended_keeps (bodies s early.Known m.scopes) m.world h.world m.fibers.running h.fibers.running in
      goes s early f o.kept.items (with_world (in_fiber m o) w)
      (under_then s early o.kept.items (in_fiber m o) w (under_fiber m o h is) k) (focus o w k)

  pub finish_fits : (m : Memory) → MemoryFits s early m
      → OptionIs (OnwardIs (census m.world.store) (KeptFits s m.world m.scopes)) (fibers.finish m.fibers)
  finish_fits m h = finish_is (census m.world.store) (KeptFits s m.world m.scopes) m.fibers h.fibers

  value_leaves : (v : Value) (m : Memory) → MemoryFits s early m → IsValue (census m.world.store) v
      → Fits s early (end_fiber (eval.give v) (fibers.finish m.fibers) m)
  value_leaves v m h is = fiber_ended (eval.give v) (fibers.finish m.fibers) m h (finish_fits m h)
      (λ o w k. value_stays m.world w k.extends v is)

  -- Plans.

  module _ (a : ℕ) (back : Place) (ks : List Item) (m : Memory) (h : MemoryFits s early m)
      (number : (a ≡ m.place.activation) × IsCore m.world a) (place : PlaceFits m.world m.scopes back)
      (items : ItemsFit s m.world m.scopes back ks) where
    -- the iteration waits for what it wants
    waits : (it : Iteration) → StateIs (census m.world.store) it → Under s early (eval.iteration a it back ∷ ks) m
    waits it is = record { memory = h; items = (number, is, place, items) }

    carried_out : (p : Plan) → PlanIs (census m.world.store) p → After s early (carry_out s p a back ks m)
    carried_out (plan.finishes v) is =
        quietly s early _ (
        goes s early (eval.give v) ks (returned m a back) (back_under ks m a back h place items)
        (value_stays m.world (close m.world a) (closed m a h).extends v is))
    carried_out (plan.fails c) is =
        quietly s early _ (
        back_after (fail m.world c) ks m a back h place items
        (fails_with (bodies s early.Known m.scopes) m.world h.world c is))
    carried_out (plan.raises e) is =
        quietly s early _ (
        goes s early (eval.travel (eval.raise e)) ks (returned m a back) (back_under ks m a back h place items)
        (exit_stays s m.world (close m.world a) (closed m a h).extends ks (eval.raise e) is))
    carried_out (plan.sends it v x args b public) is =
        quietly s early _ (
        entry_fits s early None (eval.iteration a it back ∷ ks) m (waits it is.0) tt
        (send_by_core m.world v x args b public)
        (send_is (bodies s early.Known m.scopes) m.world h.world x v args b is.2 is.1 is.3 is.4 public))
    carried_out (plan.calls it p args b) is =
        quietly s early _ (
        entry_fits s early None (eval.iteration a it back ∷ ks) m (waits it is.0) tt (enter_proc m.world p args b)
        (proc_enters (bodies s early.Known m.scopes) m.world h.world args b is.2 is.3 p (is_good m.world.store Proc p is.1).there))
    carried_out (plan.writes it bytes) is =
        let w = write m.world bytes in
        let first = record early.world { out = w.out } in
        let e = extends_written m.world bytes in
        let since = same_since early.world w w.out (extends_both early.world m.world w h.since e) in
        record {
          out = w.out;
          fits = record {
            memory = memory_later s early m h w (fine_written (bodies s early.Known m.scopes) m.world h.world bytes) e first since refl;
            focus = tt;
            items = items_stay s m.world w e m.scopes m.scopes (parents_of (census m.world.store) m.scopes h.scopes)
                (later_itself m.scopes) m.place (eval.iteration a it back ∷ ks) h.place.scope (number, is, place, items);
          };
          hushed = tt;
        }
    carried_out (plan.reads it) is =
        quietly s early _ (
        after_fits s early (read m.world) (eval.iteration a it back ∷ ks) m (waits it is)
        (read_is (bodies s early.Known m.scopes) m.world h.world))
    carried_out (plan.resumes it f args) is =
        let u = waits it is.0 in
        let kept = kept_as (eval.iteration a it back ∷ ks) m in
        quietly s early _ (
        resumed (fibers.resume m.fibers kept m.world.store f) args (eval.iteration a it back ∷ ks) m u
        (resume_is m.world.store h.world.store (KeptFits s m.world m.scopes) m.fibers kept f h.fibers
        (kept_is (eval.iteration a it back ∷ ks) m u) is.1) is.2)
    carried_out (plan.yields it args) is =
        let u = waits it is.0 in
        let kept = kept_as (eval.iteration a it back ∷ ks) m in
        quietly s early _ (
        yielded (fibers.yield m.fibers kept) args (eval.iteration a it back ∷ ks) m u
        (yield_is (census m.world.store) (KeptFits s m.world m.scopes) m.fibers kept h.fibers
        (kept_is (eval.iteration a it back ∷ ks) m u)) is.1)

  planned : (x : Planned) (a : ℕ) (it : Iteration) (back : Place) (ks : List Item) (m : Memory)
      → Under s early (eval.iteration a it back ∷ ks) m → PlannedIs (bodies s early.Known m.scopes) m.world x
      → After s early (go_on s x a back ks m)
  planned x a it back ks m u h =
      let w = with_store m.world x.store in
      let v = under_then s early (eval.iteration a it back ∷ ks) m w u h.keeps in
      carried_out a back ks (with_world m w) v.memory v.items.0 v.items.2 v.items.3 x.plan h.plan

  outgoing_given : (o : _) (ks : List Item) (m : Memory) → Under s early ks m → OutgoingFits (census m.world.store) ks o
      → Fits s early (give_outgoing o ks m)
  outgoing_given (eval.value v) ks m u h = goes s early (eval.give v) ks m u h
  outgoing_given (eval.exit x) ks m u h = goes s early (eval.travel x) ks m u h

  -- whatever waits gets the value
  pub value_given : (v : Value) (ks : List Item) (m : Memory) → Under s early ks m → IsValue (census m.world.store) v
      → After s early (do_give s v ks m)
  unfolding do_give
  value_given v [] m u is =
      quietly s early _ (
      value_leaves v m u.memory is)
  value_given v (eval.part p ∷ ks) m u is =
      let h = u.items.0 in
      quietly s early _ (
      part_given s early ks m h.0
      (record {
        under = record { memory = u.memory; items = u.items.2 };
        there = u.items.1;
        around = h.1;
      }) v p is h.2)
  value_given v (eval.activation a back ∷ ks) m u is =
      quietly s early _ (
      goes s early (eval.give v) ks (returned m a back) (back_under ks m a back u.memory u.items.1 u.items.2)
      (value_stays m.world (close m.world a) (closed m a u.memory).extends v is))
  value_given v (eval.iteration a it back ∷ ks) m u is =
      planned (plan.next it v m.world.store) a it back ks m u
      (next_is (bodies s early.Known m.scopes) m.world u.memory.world it v u.items.1 is)
  value_given v (eval.ensuring o ∷ ks) m u is =
      quietly s early _ (
      outgoing_given o ks m (record { memory = u.memory; items = u.items.2 }) u.items.0)
