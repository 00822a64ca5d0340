-- How a visit of items begins.
use Rattle.std.proofs.Common.{◌≡◌, sym, ap, subst, ◌∙◌, List, ◌∷◌}
use Rattle.std.specs.Prelude.{ℕ, Bool, false, if◌then◌else◌, Option, Some, None, Ok}
use Rattle.rb_value.specs.declared.value.Value.{Value}
use Rattle.rb_value.specs.declared.value.Value.TheVariants.{Obj}
use Rattle.rb_value.specs.declared.value.ObjId.{ObjId}
use Rattle.rb_value.specs.declared.value.SymId.{SymId}
use Rattle.rb_value.specs.declared.kind.Kind.TheVariants as kind
use Rattle.rb_value.specs.declared.core_class.CoreClass.TheVariants as class
use Rattle.def_core.specs.Parts.{no_pairs}
use Rattle.def_core.specs.Store.{Store, core, next_number}
use Rattle.def_calls.specs.Views.{object_in}
use Rattle.heap.specs.Made.{array_given, with_array, with_new}
use Rattle.core_calls.specs.declared.beat.Passed.{Passed}
use Rattle.rb_store.specs.Held.{Held}
use Rattle.def_plans.specs.Plan.{Planned, gives}
use Rattle.iter_items.specs.declared.row.Task.{Task}
use Rattle.iter_items.specs.declared.gathering.Gathering as of_each
use Rattle.iter_items.specs.declared.row.GatheringRow.TheVariants as gathering
use Rattle.iter_items.specs.declared.row.ItemsRow.TheVariants as items_row
use Rattle.iter_items.specs.declared.source.Source.{Source}
use Rattle.iter_items.specs.declared.source.Source.TheVariants.{Elements}
use Rattle.iter_items.specs.Asking.{is_backwards}
use Rattle.iter_items.specs.Checks.{given, arguments}
use Rattle.iter_items.specs.Driving.{BeginsWith, Begins, makes_hash, visit_of}
use Rattle.iter_items.specs.declared.visit.Visit.{Visit}
use Rattle.iter_items.specs.Moved.{as_moved}
use Rattle.iter_items.specs.Rows as over_rows
use Rattle.iter_items.specs.Rows.{StartsVisit, starts, ByArguments, GathersVisit, visited, gathering_of}
use Rattle.iter_items.specs.Sources.{source_of, place_for}
use Rattle.iter_items.specs.Stage as over_items
use Rattle.run_rows.specs.declared.row.StarRow.TheVariants as row
use Rattle.core_iter.specs.Rows.{Starts as FirstOf, GoesOn as FollowsOf}
use Rattle.core_iter.specs.Stage.{Stage, items}
use Rattle.items_laws.specs.Run.{Turn, Runs, Gives, waiting}
use Rattle.items_laws.specs.Items.{IsRunBy, IsRunOf, of_its_own, of_those_of_each, with_arguments, with_arguments_by, gathers_in, collected_in}
use Rattle.items_laws.proofs.Inversion.{unmoved}
use Rattle.items_laws.proofs.Course.{Course, Plain, course}
use Rattle.items_laws.proofs.Fitted.{Fits}
use Rattle.items_laws.proofs.Small.{some_same}

record Visiting (held : Held) (t : Task) (recv : Value) (args : List Value) (block : Option ObjId)
    (p : Planned over_items.Stage) : Type 0 where
  after : Held
  same : after.store ≡ (given t held args block).held.store
  by_arguments : ByArguments after t recv (source_of after.store recv (is_backwards t)) (given t held args block).arguments
      block p

visiting : (held : Held) (t : Task) (recv : Value) (args : List Value) (block : Option ObjId)
    (p : Planned over_items.Stage) → StartsVisit held t recv args block p → Visiting held t recv args block p
visiting held t recv args block p (starts after q e by) = record { after = after; same = e; by_arguments = by }

-- what the method wants first is what its visit begins with
pub record Beginning (t : Task) (held : Held) (recv : Value) (s : Source) (value : Option Value) (name : Option SymId)
    (size : ℕ) (block : Option ObjId) (p : Planned Stage) : Type 0 where
  pub begun : Held
  pub same : begun.store ≡ held.store
  pub first : Planned over_items.Stage
  pub begins : BeginsWith begun t recv s (arguments value name size) block first
  pub moved : p ≡ as_moved items first

pub beginning : (t : Task) (held : Held) (recv : Value) (s : Source) (args : List Value) (value : Option Value)
    (name : Option SymId) (size : ℕ) (block : Option ObjId) (p : Planned Stage)
    → (given t held args block).arguments ≡ Ok (arguments value name size)
    → source_of (given t held args block).held.store recv (is_backwards t) ≡ Some s
    → FirstOf (row.Items (items_row.Visits t)) held recv args block p
    → Beginning t (given t held args block).held recv s value name size block p
beginning t held recv s args value name size block p is source starts_so =
    let moved = unmoved items (over_rows.Starts (items_row.Visits t) held recv args block) p starts_so in
    let visit = visiting held t recv args block moved.inner moved.meant in
    let there = ap (λ (st : Store). source_of st recv (is_backwards t)) visit.same ∙ source in
    record {
      begun = visit.after;
      same = visit.same;
      first = moved.inner;
      begins = subst (λ (o : Option Source). ByArguments visit.after t recv o (Ok (arguments value name size)) block moved.inner) there
          (subst (λ x. ByArguments visit.after t recv (source_of visit.after.store recv (is_backwards t))
          x block moved.inner) is visit.by_arguments);
      moved = moved.same;
    }

-- the run from the beginning of the visit on
pub record Opened (t : Task) (held : Held) (recv : Value) (s : Source) (value : Option Value)
    (name : Option SymId) (size : ℕ) (block : Option ObjId) (ts : List Turn) (last : Planned Stage) : Type 0 where
  pub begun : Held
  pub same : begun.store ≡ held.store
  pub first : Planned over_items.Stage
  pub begins : BeginsWith begun t recv s (arguments value name size) block first
  pub runs : Runs (as_moved items first) ts last

pub opened : (t : Task) (held : Held) (recv : Value) (s : Source) (args : List Value) (value : Option Value)
    (name : Option SymId) (size : ℕ) (block : Option ObjId) (ts : List Turn) (first last : Planned Stage)
    → (given t held args block).arguments ≡ Ok (arguments value name size)
    → source_of (given t held args block).held.store recv (is_backwards t) ≡ Some s
    → FirstOf (row.Items (items_row.Visits t)) held recv args block first → Runs first ts last
    → Opened t (given t held args block).held recv s value name size block ts last
opened t held recv s args value name size block ts first last is source starts_so runs =
    let b = beginning t held recv s args value name size block first is source starts_so in
    record {
      begun = b.begun;
      same = b.same;
      first = b.first;
      begins = b.begins;
      runs = subst (λ (q : Planned Stage). Runs q ts last) b.moved runs;
    }

-- where it gives a value
abbrev pub Started : Task → Held → Value → Source → Option Value → Option SymId → ℕ → Option ObjId → List Turn → Value
    → Held → Type 0
Started t held recv s value name size block ts v after = Opened t held recv s value name size block ts (gives after v)

pub started : (t : Task) (held : Held) (recv : Value) (s : Source) (args : List Value)
    (value : Option Value) (name : Option SymId) (size : ℕ) (block : Option ObjId) (ts : List Turn) (v : Value) (after : Held)
    → (given t held args block).arguments ≡ Ok (arguments value name size)
    → source_of (given t held args block).held.store recv (is_backwards t) ≡ Some s
    → Gives (row.Items (items_row.Visits t)) held recv args block ts v after
    → Started t (given t held args block).held recv s value name size block ts v after
started t held recv s args value name size block ts v after is source run =
    opened t held recv s args value name size block ts run.first (gives after v) is source run.starts run.runs

-- the same of a method of Enumerable, once `each` has returned

record Gathering (held : Held) (t : Task) (recv : Value) (args : List Value) (block : Option ObjId) (s : Option Source)
    (p : Planned over_items.Stage) : Type 0 where
  after : Held
  same : after.store ≡ (given t held args block).held.store
  by_arguments : ByArguments after t recv s (given t held args block).arguments block p

gathering_by : (held : Held) (t : Task) (g : of_each.Gathering) (a : ObjId) (p : Planned over_items.Stage)
    → GathersVisit held t g a p
    → Gathering held t g.receiver g.args g.block (Some (Elements a (place_for (is_backwards t)))) p
gathering_by held t g a p (visited after q e by) = record { after = after; same = e; by_arguments = by }

pub gathered : (t : Task) (recv : Value) (args : List Value) (block : Option ObjId) (each : Turn) (collected a : ObjId)
    (value : Option Value) (name : Option SymId) (size : ℕ) (ts : List Turn) (first last : Planned Stage)
    → Runs first (each ∷ ts) last → waiting each.wanted.plan ≡ Some (gathers_in t recv args block collected)
    → array_given each.held.store (collected_in each collected) ≡ Obj a
    → (given t (with_array each.held (collected_in each collected)) args block).arguments
    ≡ Ok (arguments value name size)
    → Opened t (given t (with_array each.held (collected_in each collected)) args block).held recv
    (Elements a (place_for (is_backwards t))) value name size block ts last
gathered t recv args block each collected a value name size ts first last runs waits array is =
    let g = gathering_of (gathering.Visits t) recv args block collected in
    let held = with_array each.held (collected_in each collected) in
    let leads = runs.1 in
    let stage = some_same leads.stage (gathers_in t recv args block collected) (sym leads.waits ∙ waits) in
    let moved = unmoved items (over_rows.GoesOn each.held (over_items.gathers g) each.answer) leads.next
    (subst (λ (x : Stage). FollowsOf each.held x each.answer leads.next) stage leads.follows) in
    let visit = gathering_by held t g a moved.inner
    (subst (λ (x : Value). over_rows.GathersIn held g (object_in x) moved.inner) array moved.meant) in
    record {
      begun = visit.after;
      same = visit.same;
      first = moved.inner;
      begins = subst (λ x. ByArguments visit.after t recv (Some (Elements a (place_for (is_backwards t)))) x block
          moved.inner) is visit.by_arguments;
      runs = subst (λ (q : Planned Stage). Runs q ts last) moved.same leads.further;
    }

-- with a block or without one
pub begun_by : (t : Task) (held : Held) (recv : Value) (s : Source) (args : List Value) (block : Option ObjId)
    (value : Option Value) (name : Option SymId) (size : ℕ) (ts : List Turn) (v : Value) (after : Held)
    → (given t held args block).arguments ≡ Ok (arguments value name size)
    → IsRunBy t held recv s args block ts v after
    → Started t (with_arguments_by t held args block) recv s value name size block ts v after
begun_by t held recv s args block value name size ts v after is (of_its_own run over) =
    started t held recv s args value name size block ts v after is over run
begun_by t held recv s args block value name size ts v after is (of_those_of_each before each collected a run waits same array there) =
    subst (λ (x : Source). Started t (with_arguments_by t held args block) recv x value name size block ts v after) (sym there)
    (subst (λ (h : Held). Started t (with_arguments_by t h args block) recv (Elements a (place_for (is_backwards t))) value
    name size block ts v after) (sym same)
    (gathered t recv args block each collected a value name size ts run.first (gives after v) run.runs waits array
    (subst (λ (h : Held). (given t h args block).arguments ≡ Ok (arguments value name size)) same is)))

pub begun_so : (t : Task) (held : Held) (recv : Value) (s : Source) (args : List Value) (b : ObjId)
    (value : Option Value) (name : Option SymId) (size : ℕ) (ts : List Turn) (v : Value) (after : Held)
    → (given t held args (Some b)).arguments ≡ Ok (arguments value name size)
    → IsRunOf t held recv s args b ts v after
    → Started t (with_arguments t held args b) recv s value name size (Some b) ts v after
begun_so t held recv s args b value name size ts v after is run =
    begun_by t held recv s args (Some b) value name size ts v after is run

abbrev pub BeginsFor : Bool → Held → Task → Value → Source → Option Value → Option SymId → ℕ → ObjId
    → Planned over_items.Stage → Type 0
BeginsFor c held t recv s value name size b =
    Begins (if c then with_new held (core class.Hash) (kind.Hash no_pairs) else held)
    (visit_of t recv s (if c then Some (next_number held.store) else None) (arguments value name size) (Some b))

-- the course of a method with a block that reads no arguments and makes no Hash

pub record Coursed (t : Task) (b : ObjId) (with_values : Visit → Passed) (held : Held) (recv : Value) (s : Source)
    (value : Option Value) (name : Option SymId) (size : ℕ) (ts : List Turn) (v : Value) (after : Held)
    : Type 0 where
  pub begun : Held
  pub same : begun.store ≡ held.store
  pub course : Course b with_values ts begun (visit_of t recv s None (arguments value name size) (Some b)) v after

pub coursed : (t : Task) (b : ObjId) (values : Option Value → Option Value) (names : Option SymId → Option SymId)
    (with_values : Visit → Passed) (held : Held) (recv : Value) (s : Source)
    (args : List Value) (value : Option Value) (name : Option SymId) (size : ℕ) (ts : List Turn) (v : Value)
    (after : Held)
    → Plain (Fits t b values names) b with_values
    → Fits t b values names (visit_of t recv s None (arguments value name size) (Some b))
    → (given t held args (Some b)).arguments ≡ Ok (arguments value name size)
    → makes_hash t s ≡ false
    → IsRunOf t held recv s args b ts v after
    → Coursed t b with_values (with_arguments t held args b) recv s value name size ts v after
coursed t b values names with_values held recv s args value name size ts v after plain fitting read no_hash is =
    let st = begun_so t held recv s args b value name size ts v after read is in
    let u = visit_of t recv s None (arguments value name size) (Some b) in
    record {
      begun = st.begun;
      same = st.same;
      course = course (Fits t b values names) b with_values plain ts v after st.begun u st.first fitting
          (subst (λ (c : Bool). BeginsFor c st.begun t recv s value name size b st.first) no_hash st.begins) st.runs;
    }
