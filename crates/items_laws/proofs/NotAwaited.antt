-- Runs that call nothing, and so aren't left.
use Rattle.std.proofs.Common.{◌≡◌, refl, sym, ap, subst, ◌∙◌, List, [], ◌∷◌, ◌++◌, length}
use Rattle.std.specs.Prelude.{ℕ, ℤ, pos, int_lt, slice_get, true, Option, Some, None, Result, Ok, Err}
use Rattle.rb_value.specs.declared.value.Value.{Value}
use Rattle.rb_value.specs.declared.value.Value.TheVariants.{Obj}
use Rattle.rb_value.specs.declared.value.ObjId.{ObjId}
use Rattle.rb_value.specs.declared.kind.RangeContents.{RangeContents}
use Rattle.rb_value.specs.declared.core_class.CoreClass.TheVariants as class
use Rattle.def_core.specs.declared.cause.Cause.{Cause}
use Rattle.def_calls.specs.Views.{an_array, kind_in, object_in}
use Rattle.heap.specs.Made.{array_given, with_array}
use Rattle.heap.specs.Reading.{range_in}
use Rattle.rb_store.specs.Held.{Held}
use Rattle.core_calls.specs.Checks.{integer}
use Rattle.def_plans.specs.Plan.{Plan, Planned, finishes, fails, raises, sends, calls, writes, reads, resumes, yields, wanted}
use Rattle.rows_items.specs.declared.rows.ItemRow.{ItemRow}
use Rattle.iter_comparing.specs.declared.row.ComparingRow.TheVariants as comparing_row
use Rattle.iter_comparing.specs.declared.sifting.Sieve.{Sieve}
use Rattle.iter_comparing.specs.declared.sifting.Sieve.TheVariants as sieve
use Rattle.iter_comparing.specs.Rows as comparing
use Rattle.iter_comparing.specs.Stage as over_values
use Rattle.iter_items.specs.declared.gathering.Gathering.{Gathering}
use Rattle.iter_items.specs.declared.row.GatheringRow.TheVariants as gathering
use Rattle.iter_items.specs.declared.row.ItemsRow.TheVariants as items_row
use Rattle.iter_items.specs.Moved.{moved}
use Rattle.iter_items.specs.Rows as over_rows
use Rattle.iter_items.specs.Rows.{gathering_of}
use Rattle.iter_items.specs.Stage as over_items
use Rattle.run_rows.specs.declared.row.StarRow.TheVariants as row
use Rattle.run_rows.specs.declared.row.VisitRow.TheVariants as visit
use Rattle.core_iter.specs.Counting as counting
use Rattle.core_iter.specs.Filling as filling
use Rattle.core_iter.specs.Rows.{GoesOn as FollowsOf, Unless, refused_by_visit}
use Rattle.core_iter.specs.Stage.{Stage, items}
use Rattle.items_laws.specs.Beginning.{Leaves}
use Rattle.items_laws.specs.CutAsked.{IsAbandoned}
use Rattle.items_laws.specs.Gathered.{gathers_outright}
use Rattle.items_laws.specs.Items.{collected_in}
use Rattle.items_laws.specs.Run.{Turn, Runs, waiting}
use Rattle.items_laws.specs.Sieved.{elements, own_equality}
use Rattle.items_laws.specs.Texts.{bytes_before}
use Rattle.items_laws.proofs.ByteSteps.{none_before_first}
use Rattle.items_laws.proofs.Cut.{dead}
use Rattle.items_laws.proofs.Inversion.{unmoved}
use Rattle.items_laws.proofs.Sent.{lifted, opening}
use Rattle.items_laws.proofs.Sieved.{begins_so}
use Rattle.items_laws.proofs.Small.{some_same}
use Rattle.items_laws.proofs.Stepped.{begun_so}

-- A new Array without a block.

sized_over : (held : Held) (a : ObjId) (args : List Value) (r : Result ℕ Cause)
    → waiting (filling.sized held a args None r).plan ≡ None
sized_over held a args (Ok n) = refl
sized_over held a args (Err c) = refl

array_over : (held : Held) (a : ObjId) (args : List Value) (o : Option Value)
    → waiting (filling.array_by held a args None o).plan ≡ None
array_over held a args None = refl
array_over held a args (Some size) = sized_over held a args (filling.size_in held.store size)

new_over : (held : Held) (recv : Value) (args : List Value) (o : Option ObjId)
    → waiting (wanted held class.Array recv o (λ a. filling.array_by held a args None (slice_get args 0))).plan ≡ None
new_over held recv args None = refl
new_over held recv args (Some a) = array_over held a args (slice_get args 0)

counted_over : (o : Option Cause) (held : Held) (p q : Planned Stage) → waiting q.plan ≡ None → Unless o held p (p ≡ q)
    → waiting p.plan ≡ None
counted_over None held p q none is = ap (λ (x : Planned Stage). waiting x.plan) is ∙ none
counted_over (Some c) held p q none is = ap (λ (x : Planned Stage). waiting x.plan) is

pub new_unawaited : (held : Held) (recv : Value) (args : List Value) (ts : List Turn) (last : Planned Stage)
    → Leaves (row.Visit visit.InitializeArray) held recv args None ts last → ⊥
new_unawaited held recv args ts last run = dead run.first last ts run.stage
    (counted_over (refused_by_visit visit.InitializeArray (length args)) held run.first
    (filling.begin_array held recv args None) (new_over held recv args (an_array held.store.objects recv)) run.starts)
    run.waits run.runs

-- A Range that has no bytes.

pub each_unawaited : (held : Held) (recv : Value) (a : ℕ) (b : ObjId) (ts : List Turn) (last : Planned Stage)
    → range_in (kind_in held.store.objects recv) ≡ Some (bytes_before a 0)
    → Leaves (row.Visit visit.EachOfRange) held recv [] (Some b) ts last → ⊥
each_unawaited held recv a b ts last is run = dead run.first last ts run.stage
    (ap (λ (p : Planned Stage). waiting p.plan) (run.starts
    ∙ ap (λ (o : Option RangeContents). wanted held class.Range recv o
    (λ r. counting.count_next held (counting.numbers_of r recv b (pos 1)))) is)) run.waits run.runs

pub step_unawaited : (held : Held) (recv size : Value) (a : ℕ) (by : ℤ) (b : ObjId) (ts : List Turn)
    (last : Planned Stage) → range_in (kind_in held.store.objects recv) ≡ Some (bytes_before a 0)
    → integer held.store size ≡ Ok by → int_lt (pos 0) by ≡ true
    → Leaves (row.Visit visit.StepOfRange) held recv (size ∷ []) (Some b) ts last → ⊥
step_unawaited held recv size a by b ts last is sized up run = dead run.first last ts run.stage
    (ap (λ (p : Planned Stage). waiting p.plan) (run.starts
    ∙ begun_so held (bytes_before a 0) recv size by b is sized up ∙ none_before_first held recv b a by up)) run.waits
    run.runs

-- Integers and Strings with the `==` of their class.

sieve_unawaited : (held : Held) (s : Sieve) (a b : ObjId) (y : Value) (ts : List Turn) (last : Planned Stage)
    (stage : Stage) (p : Planned over_values.Stage) → waiting last.plan ≡ Some stage
    → an_array held.store.objects y ≡ Some b
    → own_equality held (comparing.sifting held a s b).values (comparing.sifting held a s b).others ≡ true
    → comparing.SiftsBy held a s y (an_array held.store.objects y) p → Runs (lifted p) ts last → ⊥
sieve_unawaited held s a b y ts last stage p waits other own starts runs = dead (lifted p) last ts stage
    (ap (λ (q : Planned over_values.Stage). waiting (lifted q).plan) (begins_so held s a b y true p other own starts)) waits
    runs

pub difference_unawaited : (held : Held) (recv y : Value) (a b : ObjId) (block : Option ObjId) (ts : List Turn)
    (last : Planned Stage) → an_array held.store.objects recv ≡ Some a → an_array held.store.objects y ≡ Some b
    → own_equality held (elements held a) (elements held b) ≡ true
    → IsAbandoned comparing_row.ArrayDifference held recv (y ∷ []) block ts last → ⊥
difference_unawaited held recv y a b block ts last array other own run =
    let f = opening comparing_row.ArrayDifference held recv (y ∷ []) block ts run.first last run.starts run.runs in
    sieve_unawaited held sieve.Difference a b y ts last run.stage f.first run.waits other own
    (subst (λ (o : Option ObjId). comparing.Of held class.Array recv o
    (λ x. comparing.ForArray comparing_row.ArrayDifference held x (y ∷ []) f.first) f.first) array f.starts) f.runs

pub intersection_unawaited : (held : Held) (recv y : Value) (a b : ObjId) (block : Option ObjId) (ts : List Turn)
    (last : Planned Stage) → an_array held.store.objects recv ≡ Some a → an_array held.store.objects y ≡ Some b
    → own_equality held (elements held a) (elements held b) ≡ true
    → IsAbandoned comparing_row.ArrayIntersection held recv (y ∷ []) block ts last → ⊥
intersection_unawaited held recv y a b block ts last array other own run =
    let f = opening comparing_row.ArrayIntersection held recv (y ∷ []) block ts run.first last run.starts run.runs in
    sieve_unawaited held sieve.Intersection a b y ts last run.stage f.first run.waits other own
    (subst (λ (o : Option ObjId). comparing.Of held class.Array recv o
    (λ x. comparing.ForArray comparing_row.ArrayIntersection held x (y ∷ []) f.first) f.first) array f.starts) f.runs

pub union_unawaited : (held : Held) (recv y : Value) (a b : ObjId) (block : Option ObjId) (ts : List Turn)
    (last : Planned Stage) → an_array held.store.objects recv ≡ Some a → an_array held.store.objects y ≡ Some b
    → own_equality held (elements held a ++ elements held b) [] ≡ true
    → IsAbandoned comparing_row.ArrayUnion held recv (y ∷ []) block ts last → ⊥
union_unawaited held recv y a b block ts last array other own run =
    let f = opening comparing_row.ArrayUnion held recv (y ∷ []) block ts run.first last run.starts run.runs in
    sieve_unawaited held sieve.Union a b y ts last run.stage f.first run.waits other own
    (subst (λ (o : Option ObjId). comparing.Of held class.Array recv o
    (λ x. comparing.ForArray comparing_row.ArrayUnion held x (y ∷ []) f.first) f.first) array f.starts) f.runs

-- A method of Enumerable that calls no block, once `each` has returned.

settled_over : (r : ItemRow) (held : Held) (g : Gathering) (a : ObjId) (q : Plan over_items.Stage) (after : Held)
    → over_rows.IsSettled held r g a q after → waiting (moved items q) ≡ None
settled_over r held g a (finishes u) after settled = refl
settled_over r held g a (raises e) after settled = refl
settled_over r held g a (fails c) after settled = absurd settled
settled_over r held g a (sends s x name args block public) after settled = absurd settled
settled_over r held g a (calls s x args block) after settled = absurd settled
settled_over r held g a (writes s bytes) after settled = absurd settled
settled_over r held g a (reads s) after settled = absurd settled
settled_over r held g a (resumes s f args) after settled = absurd settled
settled_over r held g a (yields s args) after settled = absurd settled

pub outright_unawaited : (before : Held) (r : ItemRow) (recv : Value) (args : List Value) (block : Option ObjId)
    (each : Turn) (collected a : ObjId) (ts : List Turn) (last : Planned Stage)
    → Leaves (row.Items (items_row.Gathers (gathering.Outright r))) before recv args block (each ∷ ts) last
    → waiting each.wanted.plan ≡ Some (gathers_outright r recv args block collected)
    → array_given each.held.store (collected_in each collected) ≡ Obj a → ⊥
outright_unawaited before r recv args block each collected a ts last run waits array =
    let g = gathering_of (gathering.Outright r) recv args block collected in
    let held = with_array each.held (collected_in each collected) in
    let leads = run.runs.1 in
    let stage = some_same leads.stage (gathers_outright r recv args block collected) (sym leads.waits ∙ waits) in
    let outer = unmoved items (over_rows.GoesOn each.held (over_items.gathers g) each.answer) leads.next
    (subst (λ (x : Stage). FollowsOf each.held x each.answer leads.next) stage leads.follows) in
    dead leads.next last ts run.stage (ap (λ (p : Planned Stage). waiting p.plan) outer.same
    ∙ settled_over r held g a outer.inner.plan outer.inner.held
    (subst (λ (x : Value). over_rows.GathersIn held g (object_in x) outer.inner) array outer.meant)) run.waits leads.further
