-- `delete_if` of a Hash.
use Rattle.std.proofs.Common.{◌≡◌, ℕ, suc, ◌<◌, ◌+◌, ◌-◌, ◌^◌, refl, sym, ap, subst, ◌∙◌, List, [], ◌∷◌, length, drop, arith}
use Rattle.std.specs.Prelude.{slice_get, map, Bool, true, false, ◌&&◌, Option, Some, None}
use Rattle.rb_value.specs.declared.value.Value.{Value}
use Rattle.rb_value.specs.declared.value.Value.TheVariants.{Obj}
use Rattle.rb_value.specs.declared.value.ObjId.{ObjId}
use Rattle.rb_value.specs.declared.key.Key.{Key}
use Rattle.rb_value.specs.declared.hash.HashItem.{HashItem}
use Rattle.rb_value.specs.Value.{is_true}
use Rattle.def_core.specs.Parts.{pair_of}
use Rattle.def_calls.specs.Views.{a_hash}
use Rattle.rb_store.specs.Held.{Held, one_more}
use Rattle.core_calls.specs.declared.beat.Beat.{Beat}
use Rattle.core_calls.specs.declared.beat.Passed.TheVariants.{Two}
use Rattle.def_plans.specs.Plan.{Planned, gives}
use Rattle.iter_comparing.specs.Hashes.{items, pairs}
use Rattle.run_rows.specs.declared.row.StarRow.TheVariants as row
use Rattle.run_rows.specs.declared.row.VisitRow.{VisitRow}
use Rattle.run_rows.specs.declared.row.VisitRow.TheVariants as visit
use Rattle.core_iter.specs.declared.iteration.Iteration.TheVariants as state
use Rattle.core_iter.specs.declared.pairs.PairWalk.{PairWalk}
use Rattle.core_iter.specs.Pairs as pairs_of
use Rattle.core_iter.specs.Stage.{Stage}
use Rattle.items_laws.specs.Dropping.{GoneUnder, GoneIf, GoneBy, Drops}
use Rattle.items_laws.specs.Run.{Turn, Runs, Gives}
use Rattle.items_laws.specs.Items.{call_of, calls_of}
use Rattle.items_laws.proofs.Made.{settled_in}
use Rattle.items_laws.proofs.Pairs.{begins_at, behind_one, first_walk, none_behind}
use Rattle.items_laws.proofs.Reading.{counted}
use Rattle.items_laws.proofs.Walks.{Walk, Walks, Called, Done, Goes, walks, call_in}
use Rattle.items_laws.proofs.Small.{from_first, none_some, some_none}

abbrev pub dropping : Walk PairWalk
dropping = record {
  fits = λ w. w.row ≡ visit.DeletePairs;
  as_state = λ w. state.Pairs w;
  beat = λ held w. pairs_of.beat_at held w;
  later = λ held w a. (pairs_of.passes held w a).walk;
  left = λ held w a. (pairs_of.passes held w a).held;
  ending = λ w. Obj w.hash;
}

-- Behind an answer the walk is as it was, but for how many pairs are gone.

pub record Counted (w u : PairWalk) : Type 0 where
  pub gone : ℕ
  pub same : u ≡ record w { deleted = gone }

as_before : (w : PairWalk) → Counted w w
as_before w = record { gone = w.deleted; same = refl }

counted_so : (w : PairWalk) (o : Option HashItem) → Counted w (pairs_of.counted w o)
counted_so w None = as_before w
counted_so w (Some i) = record { gone = one_more w.deleted; same = refl }

under_counted : (held : Held) (w : PairWalk) (o : Option Key) → Counted w (pairs_of.deleted_under held w o).walk
under_counted held w None = as_before w
under_counted held w (Some k) = counted_so w (pair_of held.store.objects w.hash k)

by_counted : (held : Held) (w : PairWalk) (o : Option HashItem) → Counted w (pairs_of.deleted_by held w o).walk
by_counted held w None = as_before w
by_counted held w (Some i) =
    under_counted held w (pairs_of.key_of_pair held.store w.hash (w.place - w.deleted) i.shown)

pub left_counted : (held : Held) (w : PairWalk) (c : Bool) → Counted w (pairs_of.left_behind held w c).walk
left_counted held w true = by_counted held w (slice_get w.pairs w.place)
left_counted held w false = as_before w

row_behind : (w u : PairWalk) → Counted w u → w.row ≡ visit.DeletePairs → u.row ≡ visit.DeletePairs
row_behind w u k same = ap (λ (x : PairWalk). x.row) k.same ∙ same

pub row_of_beat : (held : Held) (w : PairWalk) (o : Option HashItem) → (pairs_of.beat_by held w o).state ≡ w
row_of_beat held w None = refl
row_of_beat held w (Some i) = refl

pub dropping_goes : Goes dropping
dropping_goes = record {
  goes = λ h w a p same e. e;
  beats = λ h w same. ap (λ (x : PairWalk). x.row) (row_of_beat h w (slice_get w.pairs w.place)) ∙ same;
  later = λ h w a same. row_behind w (pairs_of.left_behind h w (pairs_of.goes w a)).walk
      (left_counted h w (pairs_of.goes w a)) same;
}

-- What is gone.

under_gone : (held : Held) (w : PairWalk) (o : Option Key)
    → GoneUnder w.hash held o (pairs_of.deleted_under held w o).held
under_gone held w None = refl
under_gone held w (Some k) = refl

gone_if : (held : Held) (w : PairWalk) (i : HashItem) (c : Bool) → slice_get w.pairs w.place ≡ Some i
    → GoneIf c w.hash i held (pairs_of.left_behind held w c).held
gone_if held w i true there = record {
  place = w.place - w.deleted;
  gone = subst (λ (o : Option HashItem). GoneUnder w.hash held
      (pairs_of.key_of_pair held.store w.hash (w.place - w.deleted) i.shown) (pairs_of.deleted_by held w o).held) (sym there)
      (under_gone held w (pairs_of.key_of_pair held.store w.hash (w.place - w.deleted) i.shown));
}
gone_if held w i false there = refl

goes_if : (w : PairWalk) (a : Value) → w.row ≡ visit.DeletePairs → pairs_of.goes w a ≡ is_true a
goes_if w a same = ap (λ (r : VisitRow). pairs_of.is_deleting r && is_true a) same

gone_by : (held : Held) (w : PairWalk) (i : HashItem) (a : Value) → w.row ≡ visit.DeletePairs
    → slice_get w.pairs w.place ≡ Some i → GoneBy w.hash i a held (pairs_of.passes held w a).held
gone_by held w i a same there = subst (λ (c : Bool). GoneIf c w.hash i held (pairs_of.passes held w a).held)
    (goes_if w a same) (gone_if held w i (pairs_of.goes w a) there)

-- The course.

abbrev pub DropRest : List Turn → Value → Held → Type 0
DropRest ts r after = (held : Held) (w : PairWalk) → w.row ≡ visit.DeletePairs → w.place + length ts < 2 ^ 64
    → Walks dropping ts held w r after → Drops held w.hash w.block (drop w.place w.pairs) ts r after

drop_end : (held : Held) (w : PairWalk) (r : Value) (after : Held) (o : Option HashItem)
    → slice_get w.pairs w.place ≡ o → Done dropping held w r after
    → Drops held w.hash w.block (drop w.place w.pairs) [] r after
drop_end held w r after None there d =
    subst (λ (ps : List HashItem). Drops held w.hash w.block ps [] r after) (sym (none_behind w.pairs w.place there))
    (record {
      settled = [];
      gone = tt;
      called = refl;
      heaps = refl;
      result = record {
        value = d.value;
        left = subst (λ (o : Option HashItem). after ≡ (pairs_of.beat_by held w o).held) there d.left;
      };
    })
drop_end held w r after (Some i) there d = absurd (some_none
    (record { callee = w.block; passed = (pairs_of.passed_for w.row held i).passed })
    (subst (λ (o : Option HashItem). (pairs_of.beat_by held w o).beat ≡ None) there d.none))

-- with a pair before the others
one_dropped : (held k : Held) (h b : ObjId) (i : HashItem) (ps : List HashItem) (t : Turn) (ts : List Turn) (r : Value)
    (after : Held) → call_of t.wanted.plan ≡ Some (b, i.shown ∷ i.value ∷ []) → t.wanted.held ≡ held
    → GoneBy h i t.answer t.held k → Drops k h b ps ts r after → Drops held h b (i ∷ ps) (t ∷ ts) r after
one_dropped held k h b i ps t ts r after call asked gone rest = record {
  settled = settled_in t k ∷ rest.settled;
  gone = (refl, gone, rest.gone);
  called = ap (λ (c : Option (ObjId × List Value)). c ∷ calls_of ts) call
      ∙ ap (λ (cs : List (Option (ObjId × List Value))). Some (b, i.shown ∷ i.value ∷ []) ∷ cs) rest.called;
  heaps = ap (λ (h : Held). h ∷ map (λ t. t.wanted.held) ts) asked
      ∙ ap (λ (hs : List Held). held ∷ hs) rest.heaps;
  result = rest.result;
}

-- the call of a pair

abbrev both_of : ObjId → HashItem → Beat
both_of b i = record { callee = b; passed = Two i.shown i.value }

both_passed : (held : Held) (w : PairWalk) (i : HashItem) → w.row ≡ visit.DeletePairs
    → (pairs_of.beat_by held w (Some i)).beat ≡ Some (both_of w.block i)
both_passed held w i same =
    ap (λ (r : VisitRow). Some (record { callee = w.block; passed = (pairs_of.passed_for r held i).passed })) same

heap_passed : (held : Held) (w : PairWalk) (i : HashItem) → w.row ≡ visit.DeletePairs
    → (pairs_of.beat_by held w (Some i)).held ≡ held
heap_passed held w i same = ap (λ (r : VisitRow). (pairs_of.passed_for r held i).held) same

abbrev drops_on : List Turn → Value → Held → Turn → PairWalk → Type 0
drops_on ts r after t w = Walks dropping ts (pairs_of.passes t.held w t.answer).held
    (pairs_of.passes t.held w t.answer).walk r after

-- the others, behind the pair
others_dropped : (w u : PairWalk) (k : Held) (i : HashItem) (ts : List Turn) (r : Value) (after : Held)
    → DropRest ts r after → Counted w u → w.row ≡ visit.DeletePairs → w.place + suc (length ts) < 2 ^ 64
    → Walks dropping ts k (pairs_of.passed u) r after → Drops k w.hash w.block (drop (suc w.place) w.pairs) ts r after
others_dropped w u k i ts r after rest is row less walk =
    let one = counted w.place (omega (arith, less)) in
    let still : one_more w.place + length ts < 2 ^ 64 = omega (arith, less, one) in
    let v : PairWalk = pairs_of.passed (record w { deleted = is.gone }) in
    subst (λ (n : ℕ). Drops k w.hash w.block (drop n w.pairs) ts r after) (one ∙ plus w.place)
    (rest k v row still (subst (λ (x : PairWalk). Walks dropping ts k (pairs_of.passed x) r after) is.same walk))
  where
    plus : (n : ℕ) → n + 1 ≡ suc n
    plus n = omega arith

drop_turn : (t : Turn) (ts : List Turn) (r : Value) (after held : Held) (w : PairWalk) (o : Option HashItem)
    → slice_get w.pairs w.place ≡ o → DropRest ts r after → w.row ≡ visit.DeletePairs
    → w.place + suc (length ts) < 2 ^ 64
    → Called dropping held w t (drops_on ts r after t (pairs_of.beat_at held w).state)
    → Drops held w.hash w.block (drop w.place w.pairs) (t ∷ ts) r after
drop_turn t ts r after held w None there rest row less c = absurd (none_some c.call
    (subst (λ (o : Option HashItem). (pairs_of.beat_by held w o).beat ≡ Some c.call) there c.there))
drop_turn t ts r after held w (Some i) there rest row less c =
    let call = subst (λ (o : Option HashItem). (pairs_of.beat_by held w o).beat ≡ Some c.call) there c.there in
    let on = subst (λ (x : PairWalk). drops_on ts r after t x) (row_of_beat held w (slice_get w.pairs w.place)) c.rest in
    let u = (pairs_of.left_behind t.held w (pairs_of.goes w t.answer)).walk in
    let k = (pairs_of.passes t.held w t.answer).held in
    let more = others_dropped w u k i ts r after rest (left_counted t.held w (pairs_of.goes w t.answer)) row less on in
    subst (λ (ps : List HashItem). Drops held w.hash w.block ps (t ∷ ts) r after) (sym (behind_one w.pairs w.place i there))
    (one_dropped held k w.hash w.block i (drop (suc w.place) w.pairs) t ts r after
    (c.called ∙ ap call_in (sym call ∙ both_passed held w i row))
    (c.asked ∙ ap (λ (o : Option HashItem). (pairs_of.beat_by held w o).held) there ∙ heap_passed held w i row)
    (gone_by t.held w i t.answer row there) more)

pub drop_course : (ts : List Turn) (r : Value) (after : Held) → DropRest ts r after
drop_course [] r after = λ held w row less d. drop_end held w r after (slice_get w.pairs w.place) refl d
drop_course (t ∷ ts) r after = λ held w row less c.
    drop_turn t ts r after held w (slice_get w.pairs w.place) refl (drop_course ts r after) row less c

pub pairs_dropped : (held after : Held) (recv v : Value) (a b : ObjId) (ts : List Turn) → length ts < 2 ^ 64
    → a_hash held.store.objects recv ≡ Some a
    → Gives (row.Visit visit.DeletePairs) held recv [] (Some b) ts v after
    → Drops held a b (items (pairs held.store a)) ts v after
pairs_dropped held after recv v a b ts less there run =
    let w = first_walk visit.DeletePairs held a b in
    drop_course ts v after held w refl (from_first (length ts) less)
    (walks dropping dropping_goes ts held w v after refl
    (subst (λ (q : Planned Stage). Runs q ts (gives after v))
    (begins_at visit.DeletePairs held recv a b run.first there run.starts) run.runs))
