-- `each`, `each_key`, `each_value` and `delete_if` of a Hash (ISO/IEC 30170:2012, 15.2.13), over the pairs that were there
-- at the start.
use Rattle.std.specs.Prelude.{ℕ, ◌-◌, [], ◌∷◌, length, slice_get, nat_lt, Bool, true, false, ◌&&◌, if◌then◌else◌, Option, Some, None}
use Rattle.rb_value.specs.declared.value.Value.{Value}
use Rattle.rb_value.specs.declared.value.Value.TheVariants.{Obj}
use Rattle.rb_value.specs.declared.value.ObjId.{ObjId}
use Rattle.rb_value.specs.declared.key.Key.{Key}
use Rattle.rb_value.specs.declared.hash.HashItem.{HashItem}
use Rattle.rb_value.specs.declared.core_class.CoreClass.TheVariants as class
use Rattle.rb_value.specs.Value.{is_true}
use Rattle.def_core.specs.Parts.{pair_of}
use Rattle.def_core.specs.Store.{Store}
use Rattle.def_calls.specs.Values.{key_of}
use Rattle.def_calls.specs.Views.{a_hash}
use Rattle.rb_store.specs.Held.{Held, one_more}
use Rattle.heap.specs.Changes.{without_key}
use Rattle.heap.specs.Copies.{item_at, key_at}
use Rattle.heap.specs.Made.{array_given, with_array}
use Rattle.heap.specs.Operands.{own}
use Rattle.core_calls.specs.declared.beat.Passed.{Passed}
use Rattle.core_calls.specs.declared.beat.Passed.TheVariants.{One, Two}
use Rattle.def_plans.specs.Plan.{Planned, wanted}
use Rattle.iter_items.specs.Sources.{items, pairs}
use Rattle.iter_items.specs.Driving.{same_value}
use Rattle.run_rows.specs.declared.row.VisitRow.{VisitRow}
use Rattle.run_rows.specs.declared.row.VisitRow.TheVariants as row
use Rattle.core_iter.specs.declared.iteration.Iteration.TheVariants as state
use Rattle.core_iter.specs.declared.pairs.PairWalk.{PairWalk}
use Rattle.core_iter.specs.Sending.{Beaten, goes_on}
use Rattle.core_iter.specs.Stage.{Stage}

-- what a block is called with for a pair, and the heap: a new Array of both, one of them, or both

pub record Passing : Type 0 where
  pub passed : Passed
  pub held : Held

abbrev pub passing : Held → Passed → Passing
passing held p = record { passed = p; held = held }

abbrev pub passed_for : VisitRow → Held → HashItem → Passing
passed_for row.EachKey held i = passing held (One i.shown)
passed_for row.EachValue held i = passing held (One i.value)
passed_for row.DeletePairs held i = passing held (Two i.shown i.value)
passed_for _ held i =
    passing (with_array held (i.shown ∷ i.value ∷ [])) (One (array_given held.store (i.shown ∷ i.value ∷ [])))

abbrev pub beat_of : PairWalk → Passing → Beaten PairWalk
beat_of w p = record { beat = Some (record { callee = w.block; passed = p.passed }); state = w; held = p.held }

abbrev pub beat_by : Held → PairWalk → Option HashItem → Beaten PairWalk
beat_by held w None = record { beat = None; state = w; held = held }
beat_by held w (Some i) = beat_of w (passed_for w.row held i)

abbrev pub beat_at : Held → PairWalk → Beaten PairWalk
beat_at held w = beat_by held w (slice_get w.pairs w.place)

abbrev pub pair_next : Held → PairWalk → Planned Stage
pair_next held w = goes_on state.Pairs (Obj w.hash) (beat_at held w)

-- whether the pair at the place is to go
abbrev pub is_deleting : VisitRow → Bool
is_deleting row.DeletePairs = true
is_deleting _ = false

abbrev pub goes : PairWalk → Value → Bool
goes w answer = is_deleting w.row && is_true answer

abbrev pub passed : PairWalk → PairWalk
passed w = record w { place = one_more w.place }

-- The pair that goes is the one under the key of the walk's pair: the key that it was put in under, where it stands now
-- behind those that are left; where another shown key stands there, the key that its shown key is now.

abbrev pub shows : Value → Option HashItem → Bool
shows v None = false
shows v (Some i) = same_value i.shown v

abbrev pub key_by : Store → ObjId → ℕ → Value → Bool → Option Key
key_by st h n shown true = key_at st h n
key_by st h n shown false = key_of st.objects (own st shown)

abbrev pub key_of_pair : Store → ObjId → ℕ → Value → Option Key
key_of_pair st h n shown = key_by st h n shown (shows shown (item_at st h n))

-- how the walk stands behind the pair, and the heap

pub record Behind : Type 0 where
  pub walk : PairWalk
  pub held : Held

abbrev pub behind : Held → PairWalk → Behind
behind held w = record { walk = w; held = held }

abbrev pub counted : PairWalk → Option HashItem → PairWalk
counted w None = w
counted w (Some i) = record w { deleted = one_more w.deleted }

abbrev pub deleted_under : Held → PairWalk → Option Key → Behind
deleted_under held w None = behind held w
deleted_under held w (Some k) =
    behind (without_key held w.hash k) (counted w (pair_of held.store.objects w.hash k))

abbrev pub deleted_by : Held → PairWalk → Option HashItem → Behind
deleted_by held w None = behind held w
deleted_by held w (Some i) =
    deleted_under held w (key_of_pair held.store w.hash (w.place - w.deleted) i.shown)

abbrev pub deleted : Held → PairWalk → Behind
deleted held w = deleted_by held w (slice_get w.pairs w.place)

abbrev pub left_behind : Held → PairWalk → Bool → Behind
left_behind held w true = deleted held w
left_behind held w false = behind held w

abbrev pub passed_by : Behind → Behind
passed_by b = behind b.held (passed b.walk)

abbrev pub passes : Held → PairWalk → Value → Behind
passes held w answer = passed_by (left_behind held w (goes w answer))

-- the next plan, behind the pair

abbrev pub next_behind : Behind → Planned Stage
next_behind b = pair_next b.held b.walk

abbrev pub pair_then : Held → PairWalk → Value → Planned Stage
pair_then held w answer = next_behind (passes held w answer)

-- the next call in place, where a pair is left

abbrev pub beat_behind : Behind → Beaten PairWalk
beat_behind b = beat_at b.held b.walk

abbrev pub pair_beat : Held → PairWalk → Value → Beaten PairWalk
pair_beat held w answer = if nat_lt (one_more w.place) (length w.pairs) then beat_behind (passes held w answer)
    else record { beat = None; state = w; held = held }

-- the pairs that are there

abbrev pub walk : VisitRow → Store → ObjId → ObjId → PairWalk
walk r st h block =
    record { pairs = items (pairs st h); place = 0; deleted = 0; hash = h; row = r; block = block }

abbrev pub begin : VisitRow → Held → Value → ObjId → Planned Stage
begin r held recv block = wanted held class.Hash recv (a_hash held.store.objects recv)
    (λ h. pair_next held (walk r held.store h block))
