-- Methods of Enumerable that call no block.
use Rattle.std.proofs.Common.{◌≡◌, refl, sym, subst, ◌∙◌, List, [], ◌∷◌}
use Rattle.std.specs.Prelude.{Option, Some}
use Rattle.rb_value.specs.declared.value.Value.{Value}
use Rattle.rb_value.specs.declared.value.Value.TheVariants.{Obj}
use Rattle.rb_value.specs.declared.value.ObjId.{ObjId}
use Rattle.def_calls.specs.Views.{object_in}
use Rattle.rb_store.specs.Held.{Held}
use Rattle.heap.specs.Made.{array_given, with_array}
use Rattle.def_plans.specs.Plan.{Plan, Planned, finishes, fails, raises, sends, calls, writes, reads, resumes, yields, gives}
use Rattle.rows_items.specs.declared.rows.ItemRow.{ItemRow}
use Rattle.iter_items.specs.declared.gathering.Gathering.{Gathering}
use Rattle.iter_items.specs.declared.row.GatheringRow.TheVariants as gathering
use Rattle.iter_items.specs.declared.row.ItemsRow.TheVariants as items_row
use Rattle.iter_items.specs.Moved.{as_moved}
use Rattle.iter_items.specs.Rows as over_rows
use Rattle.iter_items.specs.Rows.{gathering_of}
use Rattle.iter_items.specs.Stage as over_items
use Rattle.run_rows.specs.declared.row.StarRow.TheVariants as row
use Rattle.core_iter.specs.Rows.{GoesOn as FollowsOf}
use Rattle.core_iter.specs.Stage.{Stage, items}
use Rattle.items_laws.specs.Run.{Turn, Runs, Gives, waiting}
use Rattle.items_laws.specs.Gathered.{IsOfArray, gathers_outright}
use Rattle.items_laws.specs.Items.{collected_in}
use Rattle.items_laws.proofs.Course.{given}
use Rattle.items_laws.proofs.Inversion.{unmoved}
use Rattle.items_laws.proofs.Small.{some_same}
use Rattle.items_laws.proofs.Summed.{raised}

abbrev lifted : Planned over_items.Stage → Planned Stage
lifted p = as_moved items p

-- a plan that ends with a value, by what it is
settled_so : (r : ItemRow) (held : Held) (g : Gathering) (a : ObjId) (ts : List Turn) (v : Value) (after : Held)
    (p : Planned over_items.Stage) (q : Plan over_items.Stage) → p.plan ≡ q → over_rows.IsSettled held r g a q p.held
    → Runs (lifted p) ts (gives after v) → (ts ≡ []) × IsOfArray r held a g.args v after
settled_so r held g a ts v after p (finishes u) is settled runs =
    let end = given ts p.held u v after (subst (λ (x : Plan over_items.Stage).
    Runs (lifted (record { plan = x; held = p.held })) ts (gives after v)) is runs) in (
      end.0,
      subst (λ (h : Held). IsOfArray r held a g.args v h) (sym end.2)
          (subst (λ (x : Value). IsOfArray r held a g.args x p.held) (sym end.1) settled),
    )
settled_so r held g a ts v after p (raises e) is settled runs =
    absurd (raised ts p.held e v after (subst (λ (x : Plan over_items.Stage).
    Runs (lifted (record { plan = x; held = p.held })) ts (gives after v)) is runs))
settled_so r held g a ts v after p (fails c) is settled runs = absurd settled
settled_so r held g a ts v after p (sends s x name args block public) is settled runs = absurd settled
settled_so r held g a ts v after p (calls s x args block) is settled runs = absurd settled
settled_so r held g a ts v after p (writes s bytes) is settled runs = absurd settled
settled_so r held g a ts v after p (reads s) is settled runs = absurd settled
settled_so r held g a ts v after p (resumes s f args) is settled runs = absurd settled
settled_so r held g a ts v after p (yields s args) is settled runs = absurd settled

pub gathered_outright : (before after : Held) (r : ItemRow) (recv v : Value) (args : List Value) (block : Option ObjId)
    (each : Turn) (collected a : ObjId) (ts : List Turn)
    → Gives (row.Items (items_row.Gathers (gathering.Outright r))) before recv args block (each ∷ ts) v after
    → waiting each.wanted.plan ≡ Some (gathers_outright r recv args block collected)
    → array_given each.held.store (collected_in each collected) ≡ Obj a
    → (ts ≡ []) × IsOfArray r (with_array each.held (collected_in each collected)) a args v after
gathered_outright before after r recv v args block each collected a ts run waits array =
    let g = gathering_of (gathering.Outright r) recv args block collected in
    let held = with_array each.held (collected_in each collected) in
    let leads = run.runs.1 in
    let stage = some_same leads.stage (gathers_outright r recv args block collected) (sym leads.waits ∙ waits) in
    let outer = unmoved items (over_rows.GoesOn each.held (over_items.gathers g) each.answer) leads.next
    (subst (λ (x : Stage). FollowsOf each.held x each.answer leads.next) stage leads.follows) in
    settled_so r held g a ts v after outer.inner outer.inner.plan refl
    (subst (λ (x : Value). over_rows.GathersIn held g (object_in x) outer.inner) array outer.meant)
    (subst (λ (q : Planned Stage). Runs q ts (gives after v)) outer.same leads.further)
