-- Methods of Enumerable, left; and `inject` that begins with its first item.
use Rattle.std.proofs.Common.{◌≡◌, refl, sym, ap, subst, ◌∙◌, List, [], ◌∷◌, length}
use Rattle.std.specs.Prelude.{codes, false, Option, Some, None, Result, Ok, Err}
use Rattle.rb_value.specs.declared.value.Value.{Value}
use Rattle.rb_value.specs.declared.value.Value.TheVariants.{Obj}
use Rattle.rb_value.specs.declared.value.ObjId.{ObjId}
use Rattle.rb_value.specs.declared.core_class.CoreClass.TheVariants as class
use Rattle.rb_value.specs.Value.{is_true}
use Rattle.def_core.specs.Bind.{elements_in}
use Rattle.def_core.specs.declared.cause.Cause.{Cause}
use Rattle.def_calls.specs.Views.{if_there, object_in}
use Rattle.heap.specs.Made.{array_given, with_array}
use Rattle.rb_store.specs.Held.{Held}
use Rattle.core_calls.specs.Checks.{miscounted}
use Rattle.def_plans.specs.Plan.{Planned}
use Rattle.iter_comparing.specs.declared.row.ComparingRow.TheVariants as comparing_row
use Rattle.iter_comparing.specs.Rows as comparing
use Rattle.iter_comparing.specs.Stage as over_values
use Rattle.iter_items.specs.declared.row.GatheringRow.{GatheringRow}
use Rattle.iter_items.specs.declared.row.GatheringRow.TheVariants as gathering
use Rattle.iter_items.specs.declared.row.ItemsRow.TheVariants as items_row
use Rattle.iter_items.specs.declared.row.Task.TheVariants as task
use Rattle.iter_items.specs.declared.source.Source.{Source}
use Rattle.iter_items.specs.declared.visit.Visit.{Visit}
use Rattle.iter_items.specs.Checks.{given}
use Rattle.iter_items.specs.Moved.{as_moved}
use Rattle.iter_items.specs.Rows as over_rows
use Rattle.iter_items.specs.Rows.{collected, collects, collects_outright, gathering_of, refuses_outright}
use Rattle.iter_items.specs.Sources.{next}
use Rattle.iter_items.specs.Stage as over_items
use Rattle.run_rows.specs.declared.row.StarRow.TheVariants as row
use Rattle.core_iter.specs.Rows.{GoesOn as FollowsOf, Starts}
use Rattle.core_iter.specs.Stage.{Stage, items}
use Rattle.items_laws.specs.Beginning.{Leaves}
use Rattle.items_laws.specs.Run.{Turn, Runs, waiting}
use Rattle.items_laws.specs.Asked.{always}
use Rattle.items_laws.specs.Compared.{element, gathers_for, same_as}
use Rattle.items_laws.specs.Cut.{IsLeft}
use Rattle.items_laws.specs.CutAsked.{CutsAsking}
use Rattle.items_laws.specs.Each.{AsksEach}
use Rattle.items_laws.specs.Firsts.{FoldsOff}
use Rattle.items_laws.specs.Items.{collected_in}
use Rattle.items_laws.proofs.Cut.{cut_course, dead, leaving}
use Rattle.items_laws.proofs.Firsts.{begins_behind, behind_first, next_same}
use Rattle.items_laws.proofs.Folded.{injecting, injects}
use Rattle.items_laws.proofs.Found.{search_cut}
use Rattle.items_laws.proofs.Inversion.{unmoved}
use Rattle.items_laws.proofs.Methods.{first_of_all}
use Rattle.items_laws.proofs.Sent.{lifted}
use Rattle.items_laws.proofs.Small.{none_some, some_same}

-- what comes first, where something is awaited

abbrev FirstOf : GatheringRow → Value → List Value → Option ObjId → Planned over_items.Stage → Type 0
FirstOf r recv args block p = (stage : Stage) → waiting (as_moved items p).plan ≡ Some stage
    → AsksEach r recv args block (as_moved items p)

asks_each : (r : GatheringRow) (begun : Held) (recv : Value) (args : List Value) (block : Option ObjId)
    (p : Planned over_items.Stage) → p ≡ collects begun r recv args block → FirstOf r recv args block p
asks_each r begun recv args block p is = λ stage waits.
    subst (λ (q : Planned over_items.Stage). AsksEach r recv args block (as_moved items q)) (sym is)
    (record { begun = begun; message = refl; heap = refl; waits = refl })

never_asks : (r : GatheringRow) (recv : Value) (args : List Value) (block : Option ObjId) (p : Planned over_items.Stage)
    → waiting (as_moved items p).plan ≡ None → FirstOf r recv args block p
never_asks r recv args block p none = λ stage waits. absurd (none_some stage (sym none ∙ waits))

by_result : {A : Type 0} (P : Result A Cause → Type 0) (o : Result A Cause) → ((c : Cause) → P (Err c))
    → ((x : A) → P (Ok x)) → P o
by_result P (Err c) fails goes = fails c
by_result P (Ok x) fails goes = goes x

by_count : (r : GatheringRow) (held : Held) (recv : Value) (args : List Value) (block : Option ObjId) (o : Option Cause)
    (p : Planned over_items.Stage) → over_rows.CollectsUnless held r recv args block o p → FirstOf r recv args block p
by_count r held recv args block (Some c) p is = never_asks r recv args block p
    (ap (λ (q : Planned over_items.Stage). waiting (as_moved items q).plan) is)
by_count r held recv args block None p is = asks_each r held recv args block p is

by_row : (r : GatheringRow) (held : Held) (recv : Value) (args : List Value) (block : Option ObjId)
    (p : Planned over_items.Stage) → over_rows.StartsGathering r held recv args block p → FirstOf r recv args block p
by_row (gathering.Visits t) held recv args block p (collected after q same is) = by_result
    (λ o. over_rows.CollectsAfter after (gathering.Visits t) recv args block o q
    → FirstOf (gathering.Visits t) recv args block q) (given t held args block).arguments
    (λ c fails. never_asks (gathering.Visits t) recv args block q
    (ap (λ (x : Planned over_items.Stage). waiting (as_moved items x).plan) fails))
    (λ read goes. asks_each (gathering.Visits t) after recv args block q goes) is
by_row gathering.Includes held recv args block p is =
    by_count gathering.Includes held recv args block (miscounted (length args) 1 (Some 1)) p is
by_row (gathering.Outright r) held recv args block p (refuses_outright after e tried) =
    never_asks (gathering.Outright r) recv args block p refl
by_row (gathering.Outright r) held recv args block p (collects_outright after v q tried is) =
    asks_each (gathering.Outright r) after recv args block q is

pub each_first : (r : GatheringRow) (held : Held) (recv : Value) (args : List Value) (block : Option ObjId)
    (first : Planned Stage) (stage : Stage) → Starts (row.Items (items_row.Gathers r)) held recv args block first
    → waiting first.plan ≡ Some stage → AsksEach r recv args block first
each_first r held recv args block first stage starts waits =
    let k = unmoved items (over_rows.Starts (items_row.Gathers r) held recv args block) first starts in
    subst (λ (p : Planned Stage). AsksEach r recv args block p) (sym k.same)
    (by_row r held recv args block k.inner k.meant stage
    (ap (λ (p : Planned Stage). waiting p.plan) (sym k.same) ∙ waits))

-- `include?`

included_by : (held : Held) (y : Value) (a : ObjId) (ts : List Turn) (first : Planned over_values.Stage)
    (last : Planned Stage) (stage : Stage) (o : Option (List Value)) → waiting last.plan ≡ Some stage
    → comparing.Of held class.Array (Obj a) (if_there o (Obj a))
    (λ x. comparing.ForArray comparing_row.ArrayIncludes held x (y ∷ []) first) first
    → Runs (lifted first) ts last → CutsAsking (codes "==") same_as (element a) (always y) is_true held ts last
included_by held y a ts first last stage None waits starts runs = absurd (dead (lifted first) last ts stage
    (ap (λ (p : Planned over_values.Stage). waiting (lifted p).plan) starts) waits runs)
included_by held y a ts first last stage (Some xs) waits starts runs =
    search_cut held y a false ts last stage first waits starts runs

pub included_left : (before : Held) (recv y : Value) (block : Option ObjId) (each : Turn) (kept a : ObjId)
    (ts : List Turn) (last : Planned Stage)
    → Leaves (row.Items (items_row.Gathers gathering.Includes)) before recv (y ∷ []) block (each ∷ ts) last
    → waiting each.wanted.plan ≡ Some (gathers_for recv y block kept)
    → array_given each.held.store (collected_in each kept) ≡ Obj a
    → CutsAsking (codes "==") same_as (element a) (always y) is_true
    (with_array each.held (collected_in each kept)) ts last
included_left before recv y block each kept a ts last run waits array =
    let g = gathering_of gathering.Includes recv (y ∷ []) block kept in
    let held = with_array each.held (collected_in each kept) in
    let leads = run.runs.1 in
    let stage = some_same leads.stage (gathers_for recv y block kept) (sym leads.waits ∙ waits) in
    let outer = unmoved items (over_rows.GoesOn each.held (over_items.gathers g) each.answer) leads.next
    (subst (λ (x : Stage). FollowsOf each.held x each.answer leads.next) stage leads.follows) in
    let inner = unmoved over_items.compares (comparing.Starts comparing_row.ArrayIncludes held (Obj a) (y ∷ []) block)
    outer.inner (subst (λ (x : Value). over_rows.GathersIn held g (object_in x) outer.inner) array outer.meant) in
    included_by held y a ts inner.inner last run.stage (elements_in held.store.objects (Obj a)) run.waits inner.meant
    (subst (λ (q : Planned Stage). Runs q ts last)
    (outer.same ∙ ap (λ (p : Planned over_items.Stage). as_moved items p) inner.same) leads.further)

-- `inject` that begins with its first item

pub folding_left : (held : Held) (recv first : Value) (s : Source) (b : ObjId) (ts : List Turn) (last : Planned Stage)
    → (next held s).item ≡ Some first → IsLeft task.Inject held recv s [] b ts last → FoldsOff held s b ts first last
folding_left held recv first s b ts last there is =
    let l = leaving task.Inject held recv s [] None None 0 b ts last refl is in
    let o = l.start in
    let item = next_same o.begun held s o.same ∙ there in
    let u : Visit = behind_first o.begun s first (first_of_all (injecting b) recv s None None 0) in
    record {
      begun = o.begun;
      same = o.same;
      there = item;
      cut = cut_course (injecting b) (injects b) (λ v p x. refl) ts last l.stage l.waits (next o.begun s).held u o.first
          (begins_behind o.begun recv s b first o.first item o.begins) o.runs;
    }
