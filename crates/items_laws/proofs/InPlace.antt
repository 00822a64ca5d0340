-- Calls of a block that are made in place are those of the next plan.
use Rattle.std.proofs.Common.{◌≡◌, refl, sym, ap, subst, ◌∙◌}
use Rattle.std.specs.Prelude.{Bool, true, false, if◌then◌else◌, nat_le, nat_lt, length, Option, Some, None}
use Rattle.rb_value.specs.declared.value.Value.{Value}
use Rattle.rb_value.specs.declared.value.Value.TheVariants.{Obj}
use Rattle.rb_value.specs.declared.value.ObjId.{ObjId}
use Rattle.rb_store.specs.Held.{Held, one_more}
use Rattle.core_calls.specs.declared.beat.Beat.{Beat}
use Rattle.core_calls.specs.declared.beat.Passed.TheVariants.{Nothing}
use Rattle.iter_items.specs.declared.state.ItemsState.{ItemsState}
use Rattle.iter_items.specs.declared.state.ItemsState.TheVariants as items_state
use Rattle.iter_items.specs.declared.visit.Visit as of_items
use Rattle.iter_items.specs.declared.wish.Wish.{Wish}
use Rattle.iter_items.specs.declared.wish.Wish.TheVariants as wish
use Rattle.iter_items.specs.Driving as driving
use Rattle.iter_items.specs.Moved.{moves}
use Rattle.iter_items.specs.Rows as over_rows
use Rattle.iter_items.specs.Stage as over_items
use Rattle.core_iter.specs.declared.counting.Count.{Count}
use Rattle.core_iter.specs.declared.filling.Filling.{Filling}
use Rattle.core_iter.specs.declared.iteration.Iteration.{Iteration}
use Rattle.core_iter.specs.declared.iteration.Iteration.TheVariants as state
use Rattle.core_iter.specs.declared.pairs.PairWalk.{PairWalk}
use Rattle.core_iter.specs.declared.visiting.Visit.{Visit}
use Rattle.core_iter.specs.Counting as counting
use Rattle.core_iter.specs.Filling as filling
use Rattle.core_iter.specs.Pairs as pairs_of
use Rattle.core_iter.specs.Visiting as visiting
use Rattle.core_iter.specs.Sending.{Beaten, beat_or, call_beat, goes_on}
use Rattle.core_iter.specs.Stage.{Stage, own, items, stage_of}
use Rattle.core_iter.specs.Rows.{GoesOn, Beats, Makes}
use Rattle.heap.specs.Changes.{pushed}
use Rattle.items_laws.proofs.Small.{some_none, some_same}

made : {S : Type 0} (as_state : S → Iteration) (ending : Value) (m : Beaten S) (after : Held) (s : Iteration) (b : Beat)
    → stage_of (as_state m.state) ≡ own (as_state m.state) → Makes as_state m after s (Some b)
    → call_beat after (stage_of s) b ≡ goes_on as_state ending m
made as_state ending m after s b owned makes =
    ap (λ (x : Iteration). call_beat after (stage_of x) b) makes.1
    ∙ ap (λ (h : Held). call_beat h (stage_of (as_state m.state)) b) makes.2
    ∙ ap (λ (x : Stage). call_beat m.held x b) owned
    ∙ ap (λ (o : Option Beat). beat_or m.held (own (as_state m.state)) ending o) makes.0

pub looping : (held after : Held) (p : ObjId) (a : Value) (s : Iteration) (b : Beat)
    → Beats held (state.Looping p) a after s (Some b)
    → GoesOn held (own (state.Looping p)) a (call_beat after (stage_of s) b)
looping held after p a s b makes =
    ap (λ (h : Held). call_beat h (stage_of s) b) makes.2
    ∙ ap (λ (x : Iteration). call_beat held (stage_of x) b) makes.1
    ∙ ap (λ (x : Beat). call_beat held (own (state.Looping p)) x)
    (some_same b (record { callee = p; passed = Nothing }) makes.0)

pub counts : (held after : Held) (c : Count) (a : Value) (s : Iteration) (b : Beat)
    → Beats held (state.Counting c) a after s (Some b)
    → GoesOn held (own (state.Counting c)) a (call_beat after (stage_of s) b)
counts held after c a s b makes = made state.Counting c.gives (counting.count_beat held c) after s b refl makes

pub visits : (held after : Held) (w : Visit) (a : Value) (s : Iteration) (b : Beat)
    → Beats held (state.Visiting w) a after s (Some b)
    → GoesOn held (own (state.Visiting w)) a (call_beat after (stage_of s) b)
visits held after w a s b makes = made state.Visiting (Obj w.array) (visiting.element_beat held w) after s b refl makes

pub indexes : (held after : Held) (w : Visit) (a : Value) (s : Iteration) (b : Beat)
    → Beats held (state.Indexing w) a after s (Some b)
    → GoesOn held (own (state.Indexing w)) a (call_beat after (stage_of s) b)
indexes held after w a s b makes = made state.Indexing (Obj w.array) (visiting.index_beat held w) after s b refl makes

-- where a test comes first
tested : {S : Type 0} (as_state : S → Iteration) (ending : Value) (s0 : S) (held : Held) (m : Beaten S) (after : Held)
    (s : Iteration) (b : Beat) (c : Bool) → stage_of (as_state m.state) ≡ own (as_state m.state)
    → Makes as_state (if c then record { beat = None; state = s0; held = held } else m) after s (Some b)
    → call_beat after (stage_of s) b ≡ goes_on as_state ending m
tested as_state ending s0 held m after s b true owned makes = absurd (some_none b makes.0)
tested as_state ending s0 held m after s b false owned makes = made as_state ending m after s b owned makes

pub fills : (held after : Held) (f : Filling) (a : Value) (s : Iteration) (b : Beat)
    → Beats held (state.Filling f) a after s (Some b)
    → GoesOn held (own (state.Filling f)) a (call_beat after (stage_of s) b)
fills held after f a s b makes = tested state.Filling (Obj f.array) f held
    (filling.place_beat (pushed held f.array a) f) after s b (nat_le f.count f.place) refl makes

if_not : {S : Type 0} (as_state : S → Iteration) (ending : Value) (s0 : S) (held : Held) (m : Beaten S) (after : Held)
    (s : Iteration) (b : Beat) (c : Bool) → stage_of (as_state m.state) ≡ own (as_state m.state)
    → Makes as_state (if c then m else record { beat = None; state = s0; held = held }) after s (Some b)
    → call_beat after (stage_of s) b ≡ goes_on as_state ending m
if_not as_state ending s0 held m after s b false owned makes = absurd (some_none b makes.0)
if_not as_state ending s0 held m after s b true owned makes = made as_state ending m after s b owned makes

pub pairs : (held after : Held) (w : PairWalk) (a : Value) (s : Iteration) (b : Beat)
    → Beats held (state.Pairs w) a after s (Some b)
    → GoesOn held (own (state.Pairs w)) a (call_beat after (stage_of s) b)
pairs held after w a s b makes = if_not state.Pairs (Obj (pairs_of.passes held w a).walk.hash) w held
    (pairs_of.beat_behind (pairs_of.passes held w a)) after s b (nat_lt (one_more w.place) (length w.pairs)) refl makes

-- a method over items that has nothing else to do first

abbrev CallsBy : Held → of_items.Visit → Value → Held → of_items.Visit → Option Beat → Type 0
CallsBy held v a after u None = Unit {0}
CallsBy held v a after u (Some b) = driving.GoesOn held v a (driving.planned after u (wish.Calls b))

calls_by : (held after : Held) (v u : of_items.Visit) (a : Value) (o : Option Beat) → driving.Beats held v a after u o
    → CallsBy held v a after u o
calls_by held after v u a o (driving.calls_block h k x y c b g) = g
calls_by held after v u a o (driving.keeps_wish h k x y c w g) = tt

visit_calls : (held after : Held) (v : of_items.Visit) (a : Value) (u : ItemsState) (b : Beat) → v.wish ≡ None
    → over_rows.Beats held (items_state.Visits v) a after u (Some b)
    → GoesOn held (items (over_items.visits v)) a (call_beat after (stage_of (state.Items u)) b)
visit_calls held after v a (items_state.Visits u) b none beats = moves (driving.planned after u (wish.Calls b))
    (subst (λ (o : Option Wish). driving.NextBy held v a o (driving.planned after u (wish.Calls b))) (sym none)
    (calls_by held after v u a (Some b) beats))
visit_calls held after v a (items_state.Gathers u) b none beats = absurd beats
visit_calls held after v a (items_state.Compares u) b none beats = absurd beats
visit_calls held after v a (items_state.Enumerates u) b none beats = absurd beats

pub over_visits : (held after : Held) (v : of_items.Visit) (a : Value) (s : Iteration) (b : Beat) → v.wish ≡ None
    → Beats held (state.Items (items_state.Visits v)) a after s (Some b)
    → GoesOn held (items (over_items.visits v)) a (call_beat after (stage_of s) b)
over_visits held after v a (state.Items u) b none beats = visit_calls held after v a u b none beats
over_visits held after v a s b none beats = absurd beats
