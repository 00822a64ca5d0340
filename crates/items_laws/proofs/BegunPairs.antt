-- `each`, `each_key`, `each_value` and `delete_if` of a Hash, left.
use Rattle.std.proofs.Common.{◌≡◌, ℕ, suc, ◌<◌, ◌≤◌, ◌+◌, ◌-◌, ◌^◌, refl, sym, subst, List, [], ◌∷◌, ◌++◌, length, arith}
use Rattle.std.specs.Prelude.{map, slice_get, false, Option, Some, None}
use Rattle.std.proofs.lemmas.Option.{slice_get_within}
use Rattle.rb_value.specs.declared.value.Value.{Value}
use Rattle.rb_value.specs.declared.value.Value.TheVariants.{Obj}
use Rattle.rb_value.specs.declared.value.ObjId.{ObjId}
use Rattle.rb_value.specs.declared.hash.HashItem.{HashItem}
use Rattle.def_calls.specs.Views.{a_hash}
use Rattle.rb_store.specs.Held.{Held, one_more}
use Rattle.core_calls.specs.declared.beat.Beat.{Beat}
use Rattle.core_calls.specs.declared.beat.Passed.TheVariants.{One}
use Rattle.def_plans.specs.Plan.{Planned}
use Rattle.iter_comparing.specs.Hashes.{items, pairs}
use Rattle.iter_items.specs.declared.source.Source.TheVariants as source
use Rattle.iter_items.specs.Sources.{next}
use Rattle.run_rows.specs.declared.row.StarRow.TheVariants as row
use Rattle.run_rows.specs.declared.row.VisitRow.{VisitRow}
use Rattle.run_rows.specs.declared.row.VisitRow.TheVariants as visit
use Rattle.core_iter.specs.declared.pairs.PairWalk.{PairWalk}
use Rattle.core_iter.specs.Pairs as pairs_of
use Rattle.core_iter.specs.Stage.{Stage}
use Rattle.items_laws.specs.Beginning.{IsBeginning, Leaves}
use Rattle.items_laws.specs.Dropping.{Drops}
use Rattle.items_laws.specs.Items.{IsValue, Visits, Whole, calls_of, last_heap}
use Rattle.items_laws.specs.Lists.{alone}
use Rattle.items_laws.specs.Run.{Turn, Runs, waiting}
use Rattle.items_laws.proofs.Beginning.{Begun, Finite, begun_walk, cut_from, few_turns, is_beginning, to_the_end}
use Rattle.items_laws.proofs.Dropping.{Counted, drop_course, dropping, dropping_goes, left_counted, row_of_beat}
use Rattle.items_laws.proofs.Pairs.{begins_at, first_walk, goes_by, of_pairs, pair_course, part_course, parts}
use Rattle.items_laws.proofs.Small.{none_some}

-- Fewer and fewer pairs are left.

abbrev Few : PairWalk → Type 0
Few w = length w.pairs < 2 ^ 64

abbrev left_of : PairWalk → ℕ
left_of w = length w.pairs - w.place

one_fewer : (n k : ℕ) → n < k → k < 2 ^ 64 → suc (k - one_more n) ≤ k - n
one_fewer n k less few = omega (arith, less, few)

fewer_by : (held : Held) (w : PairWalk) (c : Beat) (o : Option HashItem) → Few w → slice_get w.pairs w.place ≡ o
    → (pairs_of.beat_by held w o).beat ≡ Some c → suc (left_of (pairs_of.passed w)) ≤ left_of w
fewer_by held w c None few there beats = absurd (none_some c beats)
fewer_by held w c (Some i) few there beats =
    one_fewer w.place (length w.pairs) (slice_get_within w.pairs w.place i there) few

abbrev finite : (r : VisitRow) → Finite (of_pairs r)
finite r = record {
  holds = Few;
  left = left_of;
  stays = λ held h w a few. subst Few (sym (row_of_beat held w (slice_get w.pairs w.place))) few;
  fewer = λ held h w a c few there. subst (λ (u : PairWalk). suc (left_of (pairs_of.passed u)) ≤ left_of w)
      (sym (row_of_beat held w (slice_get w.pairs w.place)))
      (fewer_by held w c (slice_get w.pairs w.place) few refl there);
}

-- the run of a row that deletes nothing
begun_by : (r : VisitRow) → pairs_of.is_deleting r ≡ false → (held : Held) (recv : Value) (a b : ObjId) (ts : List Turn)
    (first last : Planned Stage) (stage : Stage) → length (items (pairs held.store a)) < 2 ^ 64
    → a_hash held.store.objects recv ≡ Some a → first ≡ pairs_of.begin r held recv b → Runs first ts last
    → waiting last.plan ≡ Some stage → Begun (of_pairs r) ts held (first_walk r held a b) last
begun_by r keeps held recv a b ts first last stage few there begins runs waits =
    let w = first_walk r held a b in
    begun_walk (of_pairs r) (to_the_end (of_pairs r) (finite r)) ts held w last few
    (cut_from (of_pairs r) (goes_by r keeps) held w ts first last stage refl waits (begins_at r held recv a b first there begins)
    runs)

pub pairs_begun : (held : Held) (recv : Value) (a b : ObjId) (ts : List Turn) (last : Planned Stage)
    → length (items (pairs held.store a)) < 2 ^ 64 → a_hash held.store.objects recv ≡ Some a
    → Leaves (row.Visit visit.EachPair) held recv [] (Some b) ts last
    → IsBeginning (λ us v after. Visits next held (source.Pairs (items (pairs held.store a)) 0) b Whole alone us
    (λ h xs. IsValue h (Obj a) v after)) ts last
pairs_begun held recv a b ts last few there run =
    let w = first_walk visit.EachPair held a b in
    let g = begun_by visit.EachPair refl held recv a b ts run.first last run.stage few there run.starts run.runs run.waits in
    is_beginning (of_pairs visit.EachPair)
    (λ us v after. Visits next held (source.Pairs (items (pairs held.store a)) 0) b Whole alone us
    (λ h xs. IsValue h (Obj a) v after)) ts held w last g
    (pair_course (ts ++ g.turn ∷ g.further) g.value g.after held w refl g.walk)

-- so many turns are made
few_pairs : (n k : ℕ) → n ≤ k - 0 → k < 2 ^ 64 → 0 + n < 2 ^ 64
few_pairs n k most few = omega (arith, most, few)

parts_begun : (r : VisitRow) (part : HashItem → Value)
    → ((held : Held) (i : HashItem) → (pairs_of.passed_for r held i).passed ≡ One (part i))
    → pairs_of.is_deleting r ≡ false → (held : Held) (recv : Value) (a b : ObjId) (ts : List Turn)
    (first last : Planned Stage) (stage : Stage) → length (items (pairs held.store a)) < 2 ^ 64
    → a_hash held.store.objects recv ≡ Some a → first ≡ pairs_of.begin r held recv b → Runs first ts last
    → waiting last.plan ≡ Some stage
    → IsBeginning (λ us v after. (calls_of us ≡ parts part b (items (pairs held.store a)))
    × IsValue (last_heap held us) (Obj a) v after) ts last
parts_begun r part alone_so keeps held recv a b ts first last stage few there begins runs waits =
    let w = first_walk r held a b in
    let g = begun_by r keeps held recv a b ts first last stage few there begins runs waits in
    let all = ts ++ g.turn ∷ g.further in
    is_beginning (of_pairs r) (λ us v after. (calls_of us ≡ parts part b (items (pairs held.store a)))
    × IsValue (last_heap held us) (Obj a) v after) ts held w last g
    (part_course r part alone_so all g.value g.after held w refl
    (few_pairs (length all) (length w.pairs) (few_turns (of_pairs r) (finite r) all held w g.value g.after few g.walk) few)
    g.walk)

pub keys_begun : (held : Held) (recv : Value) (a b : ObjId) (ts : List Turn) (last : Planned Stage)
    → length (items (pairs held.store a)) < 2 ^ 64 → a_hash held.store.objects recv ≡ Some a
    → Leaves (row.Visit visit.EachKey) held recv [] (Some b) ts last
    → IsBeginning (λ us v after. (calls_of us ≡ map (λ i. Some (b, i.shown ∷ [])) (items (pairs held.store a)))
    × IsValue (last_heap held us) (Obj a) v after) ts last
keys_begun held recv a b ts last few there run = parts_begun visit.EachKey (λ i. i.shown) (λ h i. refl) refl held recv a b
    ts run.first last run.stage few there run.starts run.runs run.waits

pub values_begun : (held : Held) (recv : Value) (a b : ObjId) (ts : List Turn) (last : Planned Stage)
    → length (items (pairs held.store a)) < 2 ^ 64 → a_hash held.store.objects recv ≡ Some a
    → Leaves (row.Visit visit.EachValue) held recv [] (Some b) ts last
    → IsBeginning (λ us v after. (calls_of us ≡ map (λ i. Some (b, i.value ∷ [])) (items (pairs held.store a)))
    × IsValue (last_heap held us) (Obj a) v after) ts last
values_begun held recv a b ts last few there run = parts_begun visit.EachValue (λ i. i.value) (λ h i. refl) refl held recv a
    b ts run.first last run.stage few there run.starts run.runs run.waits

-- `delete_if`: behind an answer the walk is as it was, but for how many pairs are gone

few_behind : (w u : PairWalk) → Counted w u → Few w → Few (pairs_of.passed u)
few_behind w u k few = subst (λ (x : PairWalk). Few (pairs_of.passed x)) (sym k.same) few

left_behind : (w u : PairWalk) → Counted w u → suc (left_of (pairs_of.passed w)) ≤ left_of w
    → suc (left_of (pairs_of.passed u)) ≤ left_of w
left_behind w u k less = subst (λ (x : PairWalk). suc (left_of (pairs_of.passed x)) ≤ left_of w) (sym k.same) less

abbrev walk_behind : Held → PairWalk → Value → PairWalk
walk_behind h w a = (pairs_of.left_behind h w (pairs_of.goes w a)).walk

abbrev dropping_finite : Finite dropping
dropping_finite = record {
  holds = Few;
  left = left_of;
  stays = λ held h w a few. subst (λ (u : PairWalk). Few (pairs_of.passed (walk_behind h u a)))
      (sym (row_of_beat held w (slice_get w.pairs w.place)))
      (few_behind w (walk_behind h w a) (left_counted h w (pairs_of.goes w a)) few);
  fewer = λ held h w a c few there.
      subst (λ (u : PairWalk). suc (left_of (pairs_of.passed (walk_behind h u a))) ≤ left_of w)
      (sym (row_of_beat held w (slice_get w.pairs w.place)))
      (left_behind w (walk_behind h w a) (left_counted h w (pairs_of.goes w a))
      (fewer_by held w c (slice_get w.pairs w.place) few refl there));
}

pub dropping_begun : (held : Held) (recv : Value) (a b : ObjId) (ts : List Turn) (last : Planned Stage)
    → length (items (pairs held.store a)) < 2 ^ 64 → a_hash held.store.objects recv ≡ Some a
    → Leaves (row.Visit visit.DeletePairs) held recv [] (Some b) ts last
    → IsBeginning (Drops held a b (items (pairs held.store a))) ts last
dropping_begun held recv a b ts last few there run =
    let w = first_walk visit.DeletePairs held a b in
    let g = begun_walk dropping (to_the_end dropping dropping_finite) ts held w last few
    (cut_from dropping dropping_goes held w ts run.first last run.stage refl run.waits
    (begins_at visit.DeletePairs held recv a b run.first there run.starts) run.runs) in
    let all = ts ++ g.turn ∷ g.further in
    is_beginning dropping (Drops held a b (items (pairs held.store a))) ts held w last g
    (drop_course all g.value g.after held w refl
    (few_pairs (length all) (length w.pairs) (few_turns dropping dropping_finite all held w g.value g.after few g.walk) few)
    g.walk)
