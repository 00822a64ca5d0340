-- `inject` of no items.
use Rattle.std.proofs.Common.{◌≡◌, ℕ, refl, sym, ap, subst, ◌∙◌, List, [], ◌∷◌}
use Rattle.std.specs.Prelude.{slice_get, Bool, if◌then◌else◌, Option, Some, None, Result, Ok}
use Rattle.std.proofs.lemmas.Bool.{eq-eqb}
use Rattle.rb_value.specs.declared.value.Value.{Value}
use Rattle.rb_value.specs.declared.value.Value.TheVariants.{Nil}
use Rattle.rb_value.specs.declared.value.ObjId.{ObjId}
use Rattle.rb_value.specs.declared.value.SymId.{SymId}
use Rattle.rb_value.specs.declared.hash.HashItem.{HashItem}
use Rattle.def_core.specs.declared.cause.Cause.{Cause}
use Rattle.def_core.specs.Parts.{elements_at}
use Rattle.def_core.specs.Store.{Store}
use Rattle.rb_store.specs.Held.{Held, one_more}
use Rattle.core_calls.specs.Checks.{name_in}
use Rattle.def_plans.specs.Plan.{Planned, gives}
use Rattle.iter_items.specs.declared.row.Task.TheVariants as task
use Rattle.iter_items.specs.declared.source.Source.{Source}
use Rattle.iter_items.specs.declared.source.Source.TheVariants as source
use Rattle.iter_items.specs.declared.visit.Visit.{Visit}
use Rattle.iter_items.specs.declared.wish.Wish.TheVariants as wish
use Rattle.iter_items.specs.Asking.{with_item, wishes}
use Rattle.iter_items.specs.Checks.{arguments, with_name}
use Rattle.iter_items.specs.Driving.{Begins, WantsOf, visit_of}
use Rattle.iter_items.specs.Moved.{as_moved}
use Rattle.iter_items.specs.Sources.{next, pair_passed, no_more, passes, numbers_passed, without_first, number_item}
use Rattle.iter_items.specs.Stage as over_items
use Rattle.core_iter.specs.Stage.{items}
use Rattle.items_laws.specs.Run.{Turn, Runs}
use Rattle.items_laws.specs.Items.{IsRunBy}
use Rattle.items_laws.specs.Asked.{IsEmpty, with_name_of}
use Rattle.items_laws.proofs.Begun.{begun_by}
use Rattle.items_laws.proofs.Course.{ended}
use Rattle.items_laws.proofs.Inversion.{begun, comes_of}
use Rattle.items_laws.proofs.Visits.{next_held}

-- no item comes

pair_none : (held : Held) (s : Source) (ps : List HashItem) (n : ℕ) → ps ≡ [] → (pair_passed held s (slice_get ps n)).item ≡ None
pair_none held s ps n none =
    ap (λ (l : List HashItem). (pair_passed held s (slice_get l n)).item) none

item_none : (held : Held) (s : Source) → IsEmpty held s → (next held s).item ≡ None
item_none held (source.Elements a n) none = ap (λ (xs : List Value). slice_get xs n) none
item_none held (source.Pairs ps n) none = pair_none held (source.Pairs ps (one_more n)) ps n none
item_none held (source.Numbers n) none =
    ap (λ (c : Bool). (numbers_passed (if c then no_more held n
    else passes (without_first n) (number_item held n.as_bytes n.first))).item) (eq-eqb n.left 0 none)

-- and none is left behind

pair_behind : (held : Held) (s : Source) (o : Option HashItem) → (pair_passed held s o).source ≡ s
pair_behind held s None = refl
pair_behind held s (Some i) = refl

still_empty : (held : Held) (s : Source) → IsEmpty held s → IsEmpty held (next held s).source
still_empty held (source.Elements a n) none = none
still_empty held (source.Pairs ps n) none = subst (λ (s : Source). IsEmpty held s)
    (sym (pair_behind held (source.Pairs ps (one_more n)) (slice_get ps n))) none
still_empty held (source.Numbers n) none =
    subst (λ (c : Bool). IsEmpty held (numbers_passed (if c then no_more held n
    else passes (without_first n) (number_item held n.as_bytes n.first))).source) (sym (eq-eqb n.left 0 none)) none

empty_in : (h held : Held) (s : Source) → h.store ≡ held.store → IsEmpty held s → IsEmpty h s
empty_in h held (source.Elements a n) same none = ap (λ (st : Store). elements_at st.objects a) same ∙ none
empty_in h held (source.Pairs ps n) same none = none
empty_in h held (source.Numbers n) same none = none

-- the visit ends with nil

abbrev Nothing : Held → List Turn → Value → Held → Type 0
Nothing held ts v after = (ts ≡ []) × (v ≡ Nil) × (after.store ≡ held.store)

abbrev first_visit : Value → Source → Option SymId → Option ObjId → Visit
first_visit recv s name block = visit_of task.Inject recv s None (arguments None name 0) block

nothing_combined : (held b : Held) (recv : Value) (s : Source) (name : Option SymId) (block : Option ObjId)
    (p : Planned over_items.Stage) (ts : List Turn) (v : Value) (after : Held) → b.store ≡ held.store → IsEmpty held s
    → Begins b (first_visit recv s name block) p → Runs (as_moved items p) ts (gives after v) → Nothing held ts v after
nothing_combined held b recv s name block p ts v after same none beginning runs =
    let u = first_visit recv s name block in
    let g = begun b u p beginning in
    let here = empty_in b held s same none in
    let one = item_none b s here in
    let left = next_held b s one in
    let s2 = (next b s).source in
    let k = (next b s).held in
    let later = empty_in k b s2 (ap (λ (h : Held). h.store) left) (still_empty b s here) in
    let two = item_none k s2 later in
    let m = record u { value = None; source = (next k s2).source } in
    let h2 = (next k s2).held in
    let wants = subst (λ (o : Option Value). WantsOf (with_item h2 (record u { value = (next b s).item; source = (next k s2).source }) o)
    g.wish g.visit g.later) two g.wants in
    let wants2 = subst (λ (o : Option Value). WantsOf (with_item h2 (record u { value = o; source = (next k s2).source }) None)
    g.wish g.visit g.later) one wants in
    let e = ended ts h2 m Nil v after p (comes_of (wishes h2 m (wish.Ends Nil)) g.later g.visit g.wish p wants2 g.comes) runs in
    (e.0, e.1, ap (λ (h : Held). h.store) (e.2 ∙ next_held k s2 two ∙ left) ∙ same)

pub nothing_by_block : (held after : Held) (recv v : Value) (s : Source) (b : ObjId) (ts : List Turn) → IsEmpty held s
    → IsRunBy task.Inject held recv s [] (Some b) ts v after → Nothing held ts v after
nothing_by_block held after recv v s b ts none is =
    let st = begun_by task.Inject held recv s [] (Some b) None None 0 ts v after refl is in
    nothing_combined held st.begun recv s None (Some b) st.first ts v after st.same none st.begins st.runs

pub nothing_by_name : (held after : Held) (recv n v : Value) (name : SymId) (s : Source) (ts : List Turn)
    → (name_in held.store n).name ≡ Ok name → IsEmpty (with_name_of n held) s
    → IsRunBy task.Inject held recv s (n ∷ []) None ts v after → Nothing (with_name_of n held) ts v after
nothing_by_name held after recv n v name s ts named none is =
    let st = begun_by task.Inject held recv s (n ∷ []) None None (Some name) 0 ts v after
    (ap (λ (o : Result SymId Cause). with_name None o) named) is in
    nothing_combined (with_name_of n held) st.begun recv s (Some name) None st.first ts v after st.same none st.begins st.runs
