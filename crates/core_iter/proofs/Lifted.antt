-- Plans of the iterations over items as plans of iterations.
use Rattle.std.proofs.Common.{◌≡◌, sym, subst}
use Rattle.std.specs.Prelude.{List, Option}
use Rattle.rb_value.specs.declared.value.Value.{Value}
use Rattle.rb_value.specs.declared.value.ObjId.{ObjId}
use Rattle.rb_store.specs.Held.{Held}
use Rattle.core_calls.specs.declared.plan.Plan as code
use Rattle.def_plans.specs.Plan.{Planned, plan_of}
use Rattle.iter_items.specs.declared.row.ItemsRow.{ItemsRow}
use Rattle.iter_items.specs.declared.state.ItemsState.{ItemsState}
use Rattle.iter_items.specs.Moved.{Moved}
use Rattle.iter_items.specs.Rows as over_items
use Rattle.iter_items.specs.Stage as items_stage
use Rattle.iter_items.proofs.Lifted.{lifted_as}
use Rattle.run_rows.specs.declared.row.StarRow.{StarRow}
use Rattle.run_rows.specs.declared.row.StarRow.TheVariants as star
use Rattle.core_iter.specs.declared.iteration.Iteration.{Iteration}
use Rattle.core_iter.specs.declared.iteration.Iteration.TheVariants as state
use Rattle.core_iter.specs.Rows.{Starts, GoesOn}
use Rattle.core_iter.specs.Stage.{Stage, stage_of, items}

abbrev planned : Held → code.Plan Iteration → Planned Stage
planned later p = record { plan = plan_of stage_of p; held = later }

lifted : (Meant : Planned items_stage.Stage → Type 0) (later : Held) (p : code.Plan ItemsState)
    (q : code.Plan Iteration)
    → plan_of stage_of q ≡ plan_of (λ (s : ItemsState). items (items_stage.stage_of s)) p
    → Meant (record { plan = plan_of items_stage.stage_of p; held = later })
    → Moved items Meant (record { plan = plan_of stage_of q; held = later })
lifted Meant later p q e meant = lifted_as items_stage.stage_of items stage_of Meant later p q e meant

pub items_start : (held later : Held) (row : StarRow) (r : ItemsRow) (recv : Value) (args : List Value)
    (block : Option ObjId) (p : code.Plan ItemsState) (q : code.Plan Iteration)
    → row ≡ star.Items r
    → plan_of stage_of q ≡ plan_of (λ (s : ItemsState). items (items_stage.stage_of s)) p
    → over_items.Starts r held recv args block (record { plan = plan_of items_stage.stage_of p; held = later })
    → Starts row held recv args block (record { plan = plan_of stage_of q; held = later })
items_start held later row r recv args block p q e f m =
    subst (λ (x : StarRow). Starts x held recv args block (planned later q)) (sym e)
    (lifted (over_items.Starts r held recv args block) later p q f m)

pub items_next : (held later : Held) (s : Iteration) (t : ItemsState) (a : Value) (p : code.Plan ItemsState)
    (q : code.Plan Iteration)
    → s ≡ state.Items t
    → plan_of stage_of q ≡ plan_of (λ (u : ItemsState). items (items_stage.stage_of u)) p
    → over_items.GoesOn held (items_stage.stage_of t) a
    (record { plan = plan_of items_stage.stage_of p; held = later })
    → GoesOn held (stage_of s) a (record { plan = plan_of stage_of q; held = later })
items_next held later s t a p q e f m =
    subst (λ (x : Iteration). GoesOn held (stage_of x) a (planned later q)) (sym e)
    (lifted (over_items.GoesOn held (items_stage.stage_of t) a) later p q f m)
