-- What each row over items wants first, and next with the answer to what it wanted before.
use Rattle.std.specs.Prelude.{◌≡◌, ℕ, ◌+◌, ◌*◌, List, [], length, codes, false, Option, Some, None, Result, Ok, Err}
use Rattle.rb_value.specs.declared.value.Value.{Value}
use Rattle.rb_value.specs.declared.value.Value.TheVariants.{Nil, Obj}
use Rattle.rb_value.specs.declared.value.ObjId.{ObjId}
use Rattle.rb_value.specs.declared.core_class.CoreClass.TheVariants as class
use Rattle.def_core.specs.declared.cause.Cause.{Cause}
use Rattle.def_core.specs.Store.{next_number}
use Rattle.def_core.specs.Parts.{elements_at}
use Rattle.def_core.specs.Changes.{intern, Interned}
use Rattle.def_calls.specs.Rows.{hidden_number}
use Rattle.def_calls.specs.Views.{object_in}
use Rattle.rb_store.specs.Held.{Held}
use Rattle.heap.specs.Made.{array_given, with_array, with_items, with_core_proc}
use Rattle.core_calls.specs.Checks.{miscounted}
use Rattle.def_plans.specs.Plan.{Plan, Planned, finishes, raises, sends, gives, refuses, expected}
use Rattle.run_values.specs.declared.given.Given.{Given}
use Rattle.run_values.specs.declared.given.Given.TheVariants.{Gives, Raises}
use Rattle.rows_items.specs.declared.rows.ItemRow.{ItemRow}
use Rattle.rows_items.specs.Outcome.{Called}
use Rattle.rows_items.specs.Rows.{Calls}
use Rattle.iter_comparing.specs.declared.row.ComparingRow.TheVariants as comparing_row
use Rattle.iter_comparing.specs.Rows as comparing
use Rattle.iter_enumerators.specs.Rows as enumerators
use Rattle.iter_items.specs.declared.checks.Arguments.{Arguments}
use Rattle.iter_items.specs.declared.gathering.Gathering.{Gathering}
use Rattle.iter_items.specs.declared.row.Task.{Task}
use Rattle.iter_items.specs.declared.row.GatheringRow.{GatheringRow}
use Rattle.iter_items.specs.declared.row.GatheringRow.TheVariants as gathering
use Rattle.iter_items.specs.declared.row.ItemsRow.{ItemsRow}
use Rattle.iter_items.specs.declared.row.ItemsRow.TheVariants as row
use Rattle.iter_items.specs.declared.source.Source.{Source}
use Rattle.iter_items.specs.declared.source.Source.TheVariants.{Elements}
use Rattle.iter_items.specs.Asking.{is_backwards}
use Rattle.iter_items.specs.Checks.{given}
use Rattle.iter_items.specs.declared.state.ItemsState.{ItemsState}
use Rattle.iter_items.specs.declared.state.ItemsState.TheVariants as state
use Rattle.core_calls.specs.declared.beat.Beat.{Beat}
use Rattle.iter_items.specs.Driving.{BeginsWith, Next}
use Rattle.iter_items.specs.Driving as driving
use Rattle.iter_items.specs.Sources.{source_of, place_for}
use Rattle.iter_items.specs.Moved.{as_moved, Moved}
use Rattle.iter_items.specs.Stage.{Stage, visits, gathers, compares, enumerates}

-- Visits of the items of an Array, a Hash or a Range.

abbrev pub OfSource : Held → Task → Value → Option Source → Arguments → Option ObjId → Planned Stage → Type 0
OfSource held t recv None read block p = p ≡ refuses held (expected held class.Array recv)
OfSource held t recv (Some s) read block p = BeginsWith held t recv s read block p

abbrev pub ByArguments : Held → Task → Value → Option Source → Result Arguments Cause → Option ObjId → Planned Stage
    → Type 0
ByArguments held t recv s (Err c) block p = p ≡ refuses held c
ByArguments held t recv s (Ok read) block p = OfSource held t recv s read block p

-- the arguments are read first, by which a name may be a symbol then
pub data StartsVisit (held : Held) (t : Task) (recv : Value) (args : List Value) (block : Option ObjId)
    : Planned Stage → Type 0 where
  starts : (after : Held) (p : Planned Stage) → after.store ≡ (given t held args block).held.store
      → ByArguments after t recv (source_of after.store recv (is_backwards t)) (given t held args block).arguments block p
      → StartsVisit held t recv args block p

-- Enumerable: `each` is called with a new Proc that collects the items in a new Array.

-- the row of that Proc
abbrev pub collect_row : ℕ
collect_row = 256 * hidden_number + 1

abbrev pub collecting_by : Held → Gathering → ObjId → Interned → Planned Stage
collecting_by held g block named = record {
  plan = sends (gathers g) g.receiver named.symbol [] (Some block) false;
  held = record held { store = named.store };
}

abbrev pub collecting : Held → Gathering → ObjId → Planned Stage
collecting held g block = collecting_by held g block (intern held.store (codes "each"))

abbrev pub gathering_of : GatheringRow → Value → List Value → Option ObjId → ObjId → Gathering
gathering_of r recv args block collected =
    record { row = r; receiver = recv; args = args; block = block; collected = collected }

abbrev pub collects : Held → GatheringRow → Value → List Value → Option ObjId → Planned Stage
collects held r recv args block =
    collecting (with_core_proc (with_items held) collect_row (Obj (next_number held.store)))
    (gathering_of r recv args block (next_number held.store)) (next_number (with_items held).store)

abbrev pub CollectsAfter : Held → GatheringRow → Value → List Value → Option ObjId → Result Arguments Cause
    → Planned Stage → Type 0
CollectsAfter held r recv args block (Err c) p = p ≡ refuses held c
CollectsAfter held r recv args block (Ok read) p = p ≡ collects held r recv args block

pub data Collects (held : Held) (t : Task) (recv : Value) (args : List Value) (block : Option ObjId)
    : Planned Stage → Type 0 where
  collected : (after : Held) (p : Planned Stage) → after.store ≡ (given t held args block).held.store
      → CollectsAfter after (gathering.Visits t) recv args block (given t held args block).arguments p
      → Collects held t recv args block p

abbrev pub CollectsUnless : Held → GatheringRow → Value → List Value → Option ObjId → Option Cause → Planned Stage
    → Type 0
CollectsUnless held r recv args block (Some c) p = p ≡ refuses held c
CollectsUnless held r recv args block None p = p ≡ collects held r recv args block

-- what a method that calls none gives or raises of a new empty Array
abbrev pub Tried : Held → ItemRow → List Value → Given → Held → Type 0
Tried held r args g after = Called (Calls r (with_array held []) (array_given held.store []) args) g after

-- A method that calls none is tried on a new empty Array, so that it refuses its arguments before anything is called.
pub data StartsOutright (held : Held) (r : ItemRow) (recv : Value) (args : List Value) (block : Option ObjId)
    : Planned Stage → Type 0 where
  refuses_outright : (after : Held) (e : ObjId) → Tried held r args (Raises e) after
      → StartsOutright held r recv args block (record { plan = raises e; held = after })
  collects_outright : (after : Held) (v : Value) (p : Planned Stage) → Tried held r args (Gives v) after
      → p ≡ collects after (gathering.Outright r) recv args block → StartsOutright held r recv args block p

abbrev pub StartsGathering : GatheringRow → Held → Value → List Value → Option ObjId → Planned Stage → Type 0
StartsGathering (gathering.Visits t) held recv args block p = Collects held t recv args block p
StartsGathering gathering.Includes held recv args block p =
    CollectsUnless held gathering.Includes recv args block (miscounted (length args) 1 (Some 1)) p
StartsGathering (gathering.Outright r) held recv args block p = StartsOutright held r recv args block p

-- Once `each` has returned the items are those of a new Array.

pub data GathersVisit (held : Held) (t : Task) (g : Gathering) (a : ObjId) : Planned Stage → Type 0 where
  visited : (after : Held) (p : Planned Stage) → after.store ≡ (given t held g.args g.block).held.store
      → ByArguments after t g.receiver (Some (Elements a (place_for (is_backwards t))))
      (given t held g.args g.block).arguments g.block p
      → GathersVisit held t g a p

-- what a method that calls none gives or raises of them
abbrev pub IsSettled : Held → ItemRow → Gathering → ObjId → Plan Stage → Held → Type 0
IsSettled held r g a (finishes v) after = Called (Calls r held (Obj a) g.args) (Gives v) after
IsSettled held r g a (raises e) after = Called (Calls r held (Obj a) g.args) (Raises e) after
IsSettled held r g a _ after = ⊥

abbrev pub SettledBy : Held → ItemRow → Gathering → ObjId → Planned Stage → Type 0
SettledBy held r g a p = IsSettled held r g a p.plan p.held

abbrev pub GathersBy : GatheringRow → Held → Gathering → ObjId → Planned Stage → Type 0
GathersBy (gathering.Visits t) held g a p = GathersVisit held t g a p
GathersBy gathering.Includes held g a p =
    Moved compares (comparing.Starts comparing_row.ArrayIncludes held (Obj a) g.args g.block) p
GathersBy (gathering.Outright r) held g a p = SettledBy held r g a p

abbrev pub GathersIn : Held → Gathering → Option ObjId → Planned Stage → Type 0
GathersIn held g None p = p ≡ gives held Nil
GathersIn held g (Some a) p = GathersBy g.row held g a p

abbrev pub Gathers : Held → Gathering → List Value → Planned Stage → Type 0
Gathers held g vs p = GathersIn (with_array held vs) g (object_in (array_given held.store vs)) p

-- what a row begins with
abbrev pub Starts : ItemsRow → Held → Value → List Value → Option ObjId → Planned Stage → Type 0
Starts (row.Visits t) held recv args block p = StartsVisit held t recv args block p
Starts (row.Compares r) held recv args block p = Moved compares (comparing.Starts r held recv args block) p
Starts (row.Enumerates r) held recv args block p =
    p ≡ as_moved enumerates (enumerators.start r held recv args block)
Starts (row.Gathers r) held recv args block p = StartsGathering r held recv args block p

-- what comes next by an answer
abbrev pub GoesOn : Held → Stage → Value → Planned Stage → Type 0
GoesOn held (visits v) a p = Next held v a p
GoesOn held (gathers g) a p = Gathers held g (elements_at held.store.objects g.collected) p
GoesOn held (compares s) a p = Moved compares (comparing.GoesOn held s a) p
GoesOn held (enumerates s) a p = p ≡ as_moved enumerates (enumerators.next held s a)

-- a call of a block in place of the next plan; no other method makes one
abbrev pub Beats : Held → ItemsState → Value → Held → ItemsState → Option Beat → Type 0
Beats held (state.Visits v) a after (state.Visits u) b = driving.Beats held v a after u b
Beats held (state.Visits v) a after (state.Gathers u) b = ⊥
Beats held (state.Visits v) a after (state.Compares u) b = ⊥
Beats held (state.Visits v) a after (state.Enumerates u) b = ⊥
Beats held (state.Gathers g) a after u b = (u ≡ state.Gathers g) × (after ≡ held) × (b ≡ None)
Beats held (state.Compares s) a after u b = (u ≡ state.Compares s) × (after ≡ held) × (b ≡ None)
Beats held (state.Enumerates s) a after u b = (u ≡ state.Enumerates s) × (after ≡ held) × (b ≡ None)
