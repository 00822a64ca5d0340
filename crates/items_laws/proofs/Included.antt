-- `include?` of Enumerable.
use Rattle.std.proofs.Common.{◌≡◌, sym, ap, subst, ◌∙◌, List, [], ◌∷◌}
use Rattle.std.specs.Prelude.{codes, Option, Some, None}
use Rattle.rb_value.specs.declared.value.Value.{Value}
use Rattle.rb_value.specs.declared.value.Value.TheVariants.{Obj}
use Rattle.rb_value.specs.declared.value.ObjId.{ObjId}
use Rattle.rb_value.specs.declared.core_class.CoreClass.TheVariants as class
use Rattle.rb_value.specs.Value.{is_true, truth}
use Rattle.def_core.specs.Bind.{elements_in}
use Rattle.def_calls.specs.Views.{if_there, object_in}
use Rattle.heap.specs.Made.{array_given, with_array}
use Rattle.rb_store.specs.Held.{Held}
use Rattle.def_plans.specs.Plan.{Planned, expected, gives}
use Rattle.iter_comparing.specs.declared.row.ComparingRow.TheVariants as comparing_row
use Rattle.iter_comparing.specs.Rows as comparing
use Rattle.iter_comparing.specs.Stage as over_values
use Rattle.iter_items.specs.declared.row.GatheringRow.TheVariants as gathering
use Rattle.iter_items.specs.declared.row.ItemsRow.TheVariants as items_row
use Rattle.iter_items.specs.Moved.{as_moved}
use Rattle.iter_items.specs.Rows as over_rows
use Rattle.iter_items.specs.Rows.{gathering_of}
use Rattle.iter_items.specs.Stage as over_items
use Rattle.run_rows.specs.declared.row.StarRow.TheVariants as row
use Rattle.core_iter.specs.Rows.{GoesOn as FollowsOf}
use Rattle.core_iter.specs.Stage.{Stage, items}
use Rattle.items_laws.specs.Run.{Turn, Runs, Gives, waiting}
use Rattle.items_laws.specs.Items.{IsValue, collected_in}
use Rattle.items_laws.specs.Lists.{any_of}
use Rattle.items_laws.specs.Asked.{always}
use Rattle.items_laws.specs.Compared.{Compares, element, gathers_for, same_as}
use Rattle.items_laws.proofs.Course.{refused}
use Rattle.items_laws.proofs.Found.{included_from}
use Rattle.items_laws.proofs.Inversion.{unmoved}
use Rattle.items_laws.proofs.Sent.{lifted}
use Rattle.items_laws.proofs.Small.{some_same}

-- what isn't an Array is refused
included_by : (held after : Held) (y v : Value) (a : ObjId) (ts : List Turn) (first : Planned over_values.Stage)
    (o : Option (List Value)) → comparing.Of held class.Array (Obj a) (if_there o (Obj a))
    (λ x. comparing.ForArray comparing_row.ArrayIncludes held x (y ∷ []) first) first
    → Runs (lifted first) ts (gives after v)
    → Compares (codes "==") same_as (element a) (always y) is_true held ts
    (λ h xs us. IsValue h (truth (any_of is_true us)) v after)
included_by held after y v a ts first None starts runs = absurd (refused ts held (expected held class.Array (Obj a)) v after
    (subst (λ (p : Planned over_values.Stage). Runs (lifted p) ts (gives after v)) starts runs))
included_by held after y v a ts first (Some xs) starts runs = included_from held after y v a ts first starts runs

pub included_of_each : (before after : Held) (recv y v : Value) (block : Option ObjId) (each : Turn) (collected a : ObjId)
    (ts : List Turn)
    → Gives (row.Items (items_row.Gathers gathering.Includes)) before recv (y ∷ []) block (each ∷ ts) v after
    → waiting each.wanted.plan ≡ Some (gathers_for recv y block collected)
    → array_given each.held.store (collected_in each collected) ≡ Obj a
    → Compares (codes "==") same_as (element a) (always y) is_true (with_array each.held (collected_in each collected)) ts
    (λ h xs us. IsValue h (truth (any_of is_true us)) v after)
included_of_each before after recv y v block each collected a ts run waits array =
    let g = gathering_of gathering.Includes recv (y ∷ []) block collected in
    let held = with_array each.held (collected_in each collected) in
    let leads = run.runs.1 in
    let stage = some_same leads.stage (gathers_for recv y block collected) (sym leads.waits ∙ waits) in
    let outer = unmoved items (over_rows.GoesOn each.held (over_items.gathers g) each.answer) leads.next
    (subst (λ (x : Stage). FollowsOf each.held x each.answer leads.next) stage leads.follows) in
    let inner = unmoved over_items.compares (comparing.Starts comparing_row.ArrayIncludes held (Obj a) (y ∷ []) block)
    outer.inner (subst (λ (x : Value). over_rows.GathersIn held g (object_in x) outer.inner) array outer.meant) in
    included_by held after y v a ts inner.inner (elements_in held.store.objects (Obj a)) inner.meant
    (subst (λ (q : Planned Stage). Runs q ts (gives after v))
    (outer.same ∙ ap (λ (p : Planned over_items.Stage). as_moved items p) inner.same) leads.further)
