-- Methods whose arguments were read.
use Rattle.std.proofs.Common.{◌≡◌, refl, ap, sym, subst}
use Rattle.std.specs.Prelude.{List, Option, Some, None, Result, Ok, Err}
use Rattle.std.specs.declared.alloc.AllocError.{AllocError}
use Rattle.rb_value.specs.declared.value.Value.{Value}
use Rattle.rb_value.specs.declared.value.Value.TheVariants.{Obj}
use Rattle.rb_value.specs.declared.value.ObjId.{ObjId}
use Rattle.rb_value.specs.declared.core_class.CoreClass.TheVariants as class
use Rattle.def_core.specs.declared.cause.Cause.{Cause}
use Rattle.rb_store.specs.Held.{Held}
use Rattle.core_calls.specs.declared.plan.Plan as code
use Rattle.def_plans.specs.Plan.{Planned, Plans, Meets, plan_of, refuses, expected}
use Rattle.run_values.specs.declared.given.Given.{Given}
use Rattle.rows_items.specs.declared.rows.ItemRow.{ItemRow}
use Rattle.rows_items.specs.Outcome.{Called}
use Rattle.rows_items.specs.Rows.{Calls}
use Rattle.iter_comparing.specs.declared.row.ComparingRow.{ComparingRow}
use Rattle.iter_comparing.specs.declared.row.ComparingRow.TheVariants.{ArrayIncludes}
use Rattle.iter_comparing.specs.declared.state.ComparingState.{ComparingState}
use Rattle.iter_comparing.specs.Rows as comparing_rows
use Rattle.iter_comparing.specs.Stage as comparing
use Rattle.iter_items.specs.declared.checks.Arguments.{Arguments}
use Rattle.iter_items.specs.declared.gathering.Gathering.{Gathering}
use Rattle.iter_items.specs.declared.row.Task.{Task}
use Rattle.iter_items.specs.declared.row.GatheringRow.{GatheringRow}
use Rattle.iter_items.specs.declared.row.GatheringRow.TheVariants as gathering
use Rattle.iter_items.specs.declared.row.ItemsRow.{ItemsRow}
use Rattle.iter_items.specs.declared.row.ItemsRow.TheVariants as items_row
use Rattle.iter_items.specs.declared.source.Source.{Source}
use Rattle.iter_items.specs.declared.source.Source.TheVariants.{Elements}
use Rattle.iter_items.specs.declared.state.ItemsState.{ItemsState}
use Rattle.iter_items.specs.declared.state.ItemsState.TheVariants as state
use Rattle.iter_items.specs.Asking.{is_backwards}
use Rattle.iter_items.specs.Checks.{given}
use Rattle.iter_items.specs.Driving.{BeginsWith}
use Rattle.iter_items.specs.Rows.{StartsVisit, starts, ByArguments, Collects, collected, CollectsAfter, collects, GathersVisit, visited, GathersBy, Starts, GoesOn}
use Rattle.iter_items.specs.Sources.{source_of, place_for}
use Rattle.iter_items.specs.Stage.{Stage, stage_of, compares}
use Rattle.iter_items.proofs.Lifted.{lifted_comparing}

abbrev planned : Held → code.Plan ItemsState → Planned Stage
planned later p = record { plan = plan_of stage_of p; held = later }

pub starts_so : (held mid later : Held) (t : Task) (recv : Value) (args : List Value) (block : Option ObjId)
    (g : Arguments) (s : Source) (r : Result (code.Plan ItemsState) AllocError)
    → Ok g ≡ (given t held args block).arguments → mid.store ≡ (given t held args block).held.store
    → Some s ≡ source_of mid.store recv (is_backwards t) → Meets stage_of later r (BeginsWith mid t recv s g block)
    → Meets stage_of later r (StartsVisit held t recv args block)
starts_so held mid later t recv args block g s (Ok p) e f h m = starts mid (planned later p) f
    (subst (λ (x : Result Arguments Cause). ByArguments mid t recv (source_of mid.store recv (is_backwards t)) x block
    (planned later p)) e
    (subst (λ (o : Option Source). ByArguments mid t recv o (Ok g) block (planned later p)) h m))
starts_so held mid later t recv args block g s (Err x) e f h m = tt

pub collected_so : (held mid later : Held) (t : Task) (recv : Value) (args : List Value) (block : Option ObjId)
    (g : Arguments) (r : Result (code.Plan ItemsState) AllocError)
    → Ok g ≡ (given t held args block).arguments → mid.store ≡ (given t held args block).held.store
    → Plans stage_of later r (collects mid (gathering.Visits t) recv args block)
    → Meets stage_of later r (Collects held t recv args block)
collected_so held mid later t recv args block g (Ok p) e f h = collected mid (planned later p) f
    (subst (λ (x : Result Arguments Cause). CollectsAfter mid (gathering.Visits t) recv args block x (planned later p)) e
    (sym h))
collected_so held mid later t recv args block g (Err x) e f h = tt

pub visited_so : (held mid later : Held) (t : Task) (g : Gathering) (a : ObjId) (b : Arguments)
    (r : Result (code.Plan ItemsState) AllocError)
    → Ok b ≡ (given t held g.args g.block).arguments → mid.store ≡ (given t held g.args g.block).held.store
    → Meets stage_of later r (BeginsWith mid t g.receiver (Elements a (place_for (is_backwards t))) b g.block)
    → Meets stage_of later r (GathersVisit held t g a)
visited_so held mid later t g a b (Ok p) e f m = visited mid (planned later p) f
    (subst (λ (x : Result Arguments Cause). ByArguments mid t g.receiver
    (Some (Elements a (place_for (is_backwards t)))) x g.block (planned later p)) e m)
visited_so held mid later t g a b (Err x) e f m = tt

-- arguments that are refused

pub start_refused : (held mid : Held) (t : Task) (recv : Value) (args : List Value) (block : Option ObjId) (c : Cause)
    → Err c ≡ (given t held args block).arguments → mid.store ≡ (given t held args block).held.store
    → StartsVisit held t recv args block (refuses mid c)
start_refused held mid t recv args block c e f = starts mid (refuses mid c) f
    (subst (λ (x : Result Arguments Cause). ByArguments mid t recv (source_of mid.store recv (is_backwards t)) x block
    (refuses mid c)) e refl)

pub collect_refused : (held mid : Held) (t : Task) (recv : Value) (args : List Value) (block : Option ObjId) (c : Cause)
    → Err c ≡ (given t held args block).arguments → mid.store ≡ (given t held args block).held.store
    → Collects held t recv args block (refuses mid c)
collect_refused held mid t recv args block c e f = collected mid (refuses mid c) f
    (subst (λ (x : Result Arguments Cause). CollectsAfter mid (gathering.Visits t) recv args block x (refuses mid c)) e
    refl)

pub gather_refused : (held mid : Held) (t : Task) (g : Gathering) (a : ObjId) (c : Cause)
    → Err c ≡ (given t held g.args g.block).arguments → mid.store ≡ (given t held g.args g.block).held.store
    → GathersVisit held t g a (refuses mid c)
gather_refused held mid t g a c e f = visited mid (refuses mid c) f
    (subst (λ (x : Result Arguments Cause). ByArguments mid t g.receiver
    (Some (Elements a (place_for (is_backwards t)))) x g.block (refuses mid c)) e refl)

-- a receiver that has no items
pub without_items : (held mid : Held) (t : Task) (recv : Value) (args : List Value) (block : Option ObjId)
    (g : Arguments) (c : Cause)
    → Ok g ≡ (given t held args block).arguments → mid.store ≡ (given t held args block).held.store
    → None ≡ source_of mid.store recv (is_backwards t) → c ≡ expected mid class.Array recv
    → StartsVisit held t recv args block (refuses mid c)
without_items held mid t recv args block g c e f h k = starts mid (refuses mid c) f
    (subst (λ (x : Result Arguments Cause). ByArguments mid t recv (source_of mid.store recv (is_backwards t)) x block
    (refuses mid c)) e
    (subst (λ (o : Option Source). ByArguments mid t recv o (Ok g) block (refuses mid c)) h
    (ap (λ (x : Cause). refuses {S = Stage} mid x) k)))

-- `include?` goes on as that of the Array
pub includes_so : (held later : Held) (g : Gathering) (a : ObjId) (vs : List Value) (p : code.Plan ComparingState)
    (q : code.Plan ItemsState)
    → g.row ≡ gathering.Includes → vs ≡ g.args
    → plan_of stage_of q ≡ plan_of (λ (s : ComparingState). compares (comparing.stage_of s)) p
    → comparing_rows.Starts ArrayIncludes held (Obj a) vs g.block
    (record { plan = plan_of comparing.stage_of p; held = later })
    → GathersBy g.row held g a (record { plan = plan_of stage_of q; held = later })
includes_so held later g a vs p q e v f m =
    subst (λ (r : GatheringRow). GathersBy r held g a (planned later q)) (sym e)
    (lifted_comparing (comparing_rows.Starts ArrayIncludes held (Obj a) g.args g.block) later p q f
    (subst (λ (us : List Value). comparing_rows.Starts ArrayIncludes held (Obj a) us g.block
    (record { plan = plan_of comparing.stage_of p; held = later })) v m))

-- a method that calls none gives or raises of the items that were collected
pub settled_so : (held after : Held) (r : ItemRow) (recv : Value) (vs us : List Value) (g h : Given) → vs ≡ us → g ≡ h
    → Called (Calls r held recv vs) g after → Called (Calls r held recv us) h after
settled_so held after r recv vs us g h e f called =
    subst (λ (ws : List Value). Called (Calls r held recv ws) h after) e
    (subst (λ (x : Given). Called (Calls r held recv vs) x after) f called)

-- methods that compare or show values

pub compares_start : (held later : Held) (row : ItemsRow) (r : ComparingRow) (recv : Value) (args : List Value)
    (block : Option ObjId) (p : code.Plan ComparingState) (q : code.Plan ItemsState)
    → row ≡ items_row.Compares r
    → plan_of stage_of q ≡ plan_of (λ (s : ComparingState). compares (comparing.stage_of s)) p
    → comparing_rows.Starts r held recv args block (record { plan = plan_of comparing.stage_of p; held = later })
    → Starts row held recv args block (record { plan = plan_of stage_of q; held = later })
compares_start held later row r recv args block p q e f m =
    subst (λ (x : ItemsRow). Starts x held recv args block (planned later q)) (sym e)
    (lifted_comparing (comparing_rows.Starts r held recv args block) later p q f m)

pub compares_next : (held later : Held) (s : ItemsState) (t : ComparingState) (a : Value)
    (p : code.Plan ComparingState) (q : code.Plan ItemsState)
    → s ≡ state.Compares t
    → plan_of stage_of q ≡ plan_of (λ (u : ComparingState). compares (comparing.stage_of u)) p
    → comparing_rows.GoesOn held (comparing.stage_of t) a (record { plan = plan_of comparing.stage_of p; held = later })
    → GoesOn held (stage_of s) a (record { plan = plan_of stage_of q; held = later })
compares_next held later s t a p q e f m =
    subst (λ (x : ItemsState). GoesOn held (stage_of x) a (planned later q)) (sym e)
    (lifted_comparing (comparing_rows.GoesOn held (comparing.stage_of t) a) later p q f m)
