-- Visits of items: what each wants by an answer, and where they stop.
use Rattle.std.specs.Prelude.{◌≡◌, List, [], ◌∷◌, codes, Bool, true, false, ◌&&◌, if◌then◌else◌, Option, Some, None, Result, Ok, Err}
use Rattle.rb_value.specs.declared.value.Value.{Value}
use Rattle.rb_value.specs.declared.value.Value.TheVariants.{Nil, True, False, Obj}
use Rattle.rb_value.specs.declared.value.ObjId.{ObjId}
use Rattle.rb_value.specs.declared.value.SymId.{SymId}
use Rattle.heap.specs.declared.finding.Site.{Site}
use Rattle.rb_value.specs.declared.kind.Kind.TheVariants as kind
use Rattle.rb_value.specs.declared.core_class.CoreClass.TheVariants as class
use Rattle.def_core.specs.Store.{Store, core, next_number}
use Rattle.def_core.specs.Parts.{no_pairs}
use Rattle.def_core.specs.declared.cause.Cause.{Cause}
use Rattle.rb_store.specs.Held.{Held}
use Rattle.rows_items.specs.declared.error.RowError.{RowError}
use Rattle.rows_items.specs.declared.error.RowError.TheVariants.{Fails, NoMemory}
use Rattle.rows_items.specs.declared.sorting.Extreme.{Extreme}
use Rattle.rows_items.specs.declared.sorting.Extreme.TheVariants.{Least, Greatest}
use Rattle.heap.specs.Made.{array_given, with_array, with_new}
use Rattle.run_values.specs.declared.given.Given.{Given}
use Rattle.run_values.specs.declared.given.Given.TheVariants.{Gives, Raises}
use Rattle.core_calls.specs.Passing.{args_of}
use Rattle.core_calls.specs.declared.beat.Beat.{Beat}
use Rattle.def_plans.specs.Plan.{Planned, raises, sends, calls, gives, refuses, sends_named}
pub use Rattle.iter_comparing.specs.Ordering.{same_value}
use Rattle.iter_comparing.specs.Outright.{outright}
use Rattle.iter_items.specs.declared.row.Task.{Task}
use Rattle.iter_items.specs.declared.row.Task.TheVariants as task
use Rattle.iter_items.specs.declared.checks.Arguments.{Arguments}
use Rattle.iter_items.specs.declared.source.Source.{Source}
use Rattle.iter_items.specs.Sources.{is_pairs}
use Rattle.iter_items.specs.declared.visit.Visit.{Visit}
use Rattle.iter_items.specs.declared.wish.Wish.{Wish}
use Rattle.iter_items.specs.declared.wish.Wish.TheVariants as wish
use Rattle.iter_items.specs.Asking.{Wished, wishes, value_or_nil, tally_value, asked, begun}
use Rattle.iter_items.specs.Hearing.{Heard, going, failing, heard}
use Rattle.iter_items.specs.Keyed.{extreme_item, SortsItems, GivesArray}
use Rattle.iter_items.specs.Stage.{Stage, visits}

-- What a visit gives once all items were visited.

abbrev pub ends : Held → Visit → Value → Wished
ends held v u = wishes held v (wish.Ends u)

-- the Hash that was made, or a new Array of what was kept
abbrev pub given_by : Held → Visit → Option ObjId → Wished
given_by held v (Some h) = ends held v (Obj h)
given_by held v None = ends (with_array held v.kept) (record v { kept = [] }) (array_given held.store v.kept)

abbrev pub kept_given : Held → Visit → Wished
kept_given held v = given_by held v v.made

-- a new Array of both parts, which are new Arrays

abbrev pub with_parts : Held → List Value → List Value → Held
with_parts held vs us = with_array (with_array held vs) us

abbrev pub parts : Held → List Value → List Value → List Value
parts held vs us = array_given held.store vs ∷ array_given (with_array held vs).store us ∷ []

abbrev pub both_parts : Held → Visit → Wished
both_parts held v = ends (with_array (with_parts held v.kept v.others) (parts held v.kept v.others))
    (record v { kept = []; others = [] })
    (array_given (with_parts held v.kept v.others).store (parts held v.kept v.others))

abbrev pub IsLeft : Wished → Wish → Visit → Held → Type 0
IsLeft w wanted visit held = w ≡ record { wish = Some wanted; visit = visit; held = held }

-- The item of the least or the greatest answer, the first of such, and the items in the order of their answers.

abbrev pub ended_by : Result Value Cause → Wish
ended_by (Ok u) = wish.Ends u
ended_by (Err c) = wish.Fails c

-- the same of what a call gives; memory may have run out
abbrev pub IsEndOf : Result Value RowError → Wish → Type 0
IsEndOf (Ok u) w = w ≡ wish.Ends u
IsEndOf (Err (Fails c)) w = w ≡ wish.Fails c
IsEndOf (Err NoMemory) w = ⊥

abbrev pub extreme : Held → Visit → Extreme → Wished
extreme held v e = wishes held v (ended_by (extreme_item held.store v.kept v.others e))

-- a new Array of them, or why there is no order
abbrev pub IsSorted : Held → Visit → Wish → Visit → Held → Type 0
IsSorted held v (wish.Ends u) x h = (x ≡ v) × GivesArray held (SortsItems held.store v.kept v.others) u h
IsSorted held v (wish.Fails c) x h = (x ≡ v) × (h ≡ held) × SortsItems held.store v.kept v.others (Err c)
IsSorted held v (wish.Raises e) x h = ⊥
IsSorted held v (wish.Calls b) x h = ⊥
IsSorted held v (wish.Asks recv argument) x h = ⊥

abbrev pub Ends : Task → Held → Visit → Wish → Visit → Held → Type 0
Ends task.Map held v w u h = IsLeft (kept_given held v) w u h
Ends task.FlatMap held v w u h = IsLeft (kept_given held v) w u h
Ends task.Select held v w u h = IsLeft (kept_given held v) w u h
Ends task.Reject held v w u h = IsLeft (kept_given held v) w u h
Ends task.Find held v w u h = IsLeft (ends held v Nil) w u h
Ends task.FindIndex held v w u h = IsLeft (ends held v Nil) w u h
Ends task.Partition held v w u h = IsLeft (both_parts held v) w u h
Ends task.GroupBy held v w u h = IsLeft (kept_given held v) w u h
Ends task.EachWithIndex held v w u h = IsLeft (ends held v v.receiver) w u h
Ends task.EachWithObject held v w u h = IsLeft (ends held v (value_or_nil v)) w u h
Ends task.EachSlice held v w u h = IsLeft (ends held v v.receiver) w u h
Ends task.EachCons held v w u h = IsLeft (ends held v v.receiver) w u h
Ends task.ReverseEach held v w u h = IsLeft (ends held v v.receiver) w u h
Ends task.TakeWhile held v w u h = IsLeft (kept_given held v) w u h
Ends task.DropWhile held v w u h = IsLeft (kept_given held v) w u h
Ends task.MinBy held v w u h = IsLeft (extreme held v Least) w u h
Ends task.MaxBy held v w u h = IsLeft (extreme held v Greatest) w u h
Ends task.SortBy held v w u h = IsSorted held v w u h
Ends task.All held v w u h = IsLeft (ends held v True) w u h
Ends task.Any held v w u h = IsLeft (ends held v False) w u h
Ends task.Never held v w u h = IsLeft (ends held v True) w u h
Ends task.Count held v w u h = IsLeft (ends held v (tally_value v)) w u h
Ends task.Inject held v w u h = IsLeft (ends held v (value_or_nil v)) w u h
Ends task.Sum held v w u h = IsLeft (ends held v (value_or_nil v)) w u h

-- What a visit wants next, and by an answer.

abbrev pub WantsBy : Held → Visit → Option Wish → Wish → Visit → Held → Type 0
WantsBy held v (Some wanted) w u h = IsLeft (wishes held v wanted) w u h
WantsBy held v None w u h = Ends v.task held v w u h

abbrev pub WantsOf : Wished → Wish → Visit → Held → Type 0
WantsOf a w u h = WantsBy a.held a.visit a.wish w u h

abbrev pub Wants : Held → Visit → Wish → Visit → Held → Type 0
Wants held v w u h = WantsOf (asked held v) w u h

abbrev pub HearsBy : Held → Visit → Option Wish → Wish → Visit → Held → Type 0
HearsBy held v (Some wanted) w u h = IsLeft (wishes held v wanted) w u h
HearsBy held v None w u h = Wants held v w u h

abbrev pub HearsOf : Heard → Wish → Visit → Held → Type 0
HearsOf (going a) w u h = HearsBy a.held a.visit a.wish w u h
HearsOf (failing c left) w u h = (w ≡ wish.Fails c) × (h ≡ left)

abbrev pub Hears : Held → Visit → Value → Wish → Visit → Held → Type 0
Hears held v answer w u h = HearsOf (heard held v answer) w u h

-- What answers at once. A value that is counted is equal to itself.

abbrev pub is_count : Task → Bool
is_count task.Count = true
is_count _ = false

abbrev pub knows : Visit → Value → Value → Bool
knows v recv argument = is_count v.task && same_value recv argument

abbrev pub answered_by : Store → Option SymId → Value → Value → Option Given × Store
answered_by st None recv argument = (Some (Gives Nil), st)
answered_by st (Some name) recv argument = outright st recv name (argument ∷ [])

abbrev pub at_once : Store → Visit → Value → Value → Option Given × Store
at_once st v recv argument = if knows v recv argument then (Some (Gives True), st)
    else answered_by st v.name recv argument

-- The plan of a wish.

abbrev pub sent : Held → Visit → Value → Value → Option SymId → Planned Stage
sent held v recv argument (Some name) =
    record { plan = sends (visits v) recv name (argument ∷ []) None false; held = held }
sent held v recv argument None = sends_named held (visits v) recv (codes "==") (argument ∷ [])

-- where the answer is known nil is asked, whose answer is the same
abbrev pub asking : Held → Visit → Value → Value → Planned Stage
asking held v recv argument =
    if knows v recv argument then sent held v Nil Nil v.name else sent held v recv argument v.name

abbrev pub planned : Held → Visit → Wish → Planned Stage
planned held v (wish.Ends u) = gives held u
planned held v (wish.Fails c) = refuses held c
planned held v (wish.Raises e) = record { plan = raises e; held = held }
planned held v (wish.Calls b) = record { plan = calls (visits v) b.callee (args_of b.passed) None; held = held }
planned held v (wish.Asks recv argument) = asking held v recv argument

-- where the cache keeps what was found doesn't matter
abbrev pub at_site : Visit → Site → Visit
at_site v s = record v { site = s }

-- The plans that a wish may come to: what a row of the table answers needn't be asked, and the visit goes on by the
-- answer.
pub data Comes : Held → Visit → Wish → Planned Stage → Type 0 where
  stops : (held : Held) (v : Visit) (s : Site) (w : Wish) → Comes held v w (planned held (at_site v s) w)
  raises_at_once : (held after : Held) (v : Visit) (recv argument : Value) (e : ObjId)
      → at_once held.store v recv argument ≡ (Some (Raises e), after.store)
      → Comes held v (wish.Asks recv argument) (record { plan = raises e; held = after })
  goes_on : (held after later : Held) (v u : Visit) (s : Site) (recv argument answer : Value) (w : Wish)
      (p : Planned Stage)
      → at_once held.store v recv argument ≡ (Some (Gives answer), after.store)
      → Hears after (at_site v s) answer w u later → Comes later u w p
      → Comes held v (wish.Asks recv argument) p

-- a visit that wants something comes to a plan
pub data Begins : Held → Visit → Planned Stage → Type 0 where
  begins : (held later : Held) (v u : Visit) (w : Wish) (p : Planned Stage)
      → Wants held v w u later → Comes later u w p → Begins held v p

-- and so does one that hears an answer
pub data GoesOn : Held → Visit → Value → Planned Stage → Type 0 where
  goes : (held later : Held) (v u : Visit) (answer : Value) (w : Wish) (p : Planned Stage)
      → Hears held v answer w u later → Comes later u w p → GoesOn held v answer p

-- what it wanted already is its next plan, whatever the answer
abbrev pub NextBy : Held → Visit → Value → Option Wish → Planned Stage → Type 0
NextBy held v answer None p = GoesOn held v answer p
NextBy held v answer (Some w) p = p ≡ planned held (record v { wish = None }) w

abbrev pub Next : Held → Visit → Value → Planned Stage → Type 0
Next held v answer p = NextBy held v answer v.wish p

-- The call of a block in place; anything else that is wanted is kept.
pub data Beats : Held → Visit → Value → Held → Visit → Option Beat → Type 0 where
  calls_block : (held after : Held) (v u : Visit) (answer : Value) (b : Beat)
      → GoesOn held v answer (planned after u (wish.Calls b)) → Beats held v answer after u (Some b)
  keeps_wish : (held after : Held) (v u : Visit) (answer : Value) (w : Wish)
      → GoesOn held v answer (planned after u w) → Beats held v answer after (record u { wish = Some w }) None

-- The Hash that a method makes: of a group each, or of the pairs of a Hash that stay.

abbrev pub makes_hash : Task → Source → Bool
makes_hash task.GroupBy s = true
makes_hash task.Select s = is_pairs s
makes_hash task.Reject s = is_pairs s
makes_hash _ s = false

abbrev pub hash_for : Held → Task → Source → Option ObjId
hash_for held t s = if makes_hash t s then Some (next_number held.store) else None

abbrev pub with_hash_for : Held → Task → Source → Held
with_hash_for held t s =
    if makes_hash t s then with_new held (core class.Hash) (kind.Hash no_pairs) else held

-- a visit at its beginning, by its arguments
abbrev pub visit_of : Task → Value → Source → Option ObjId → Arguments → Option ObjId → Visit
visit_of t recv s made given block = record (begun t recv s block) {
  made = made;
  value = given.value;
  name = given.name;
  size = given.size;
}

abbrev pub BeginsWith : Held → Task → Value → Source → Arguments → Option ObjId → Planned Stage → Type 0
BeginsWith held t recv s given block =
    Begins (with_hash_for held t s) (visit_of t recv s (hash_for held t s) given block)
