-- `each`, `each_key` and `each_value` of a Hash.
use Rattle.std.proofs.Common.{◌≡◌, ℕ, zero, suc, ◌<◌, ◌≤◌, ◌+◌, ◌^◌, refl, sym, ap, subst, ◌∙◌, List, [], ◌∷◌, length, get_or, drop, arith}
use Rattle.std.specs.Prelude.{slice_get, map, false, Bool, Option, Some, None}
use Rattle.std.proofs.Math.Seq.{drop-cons}
use Rattle.std.proofs.lemmas.Option.{slice_get_within}
use Rattle.std.proofs.lemmas.List.{at_drop_all}
use Rattle.std.proofs.lemmas.Option.{get_or_from_slice_get}
use Rattle.rb_value.specs.declared.value.Value.{Value}
use Rattle.rb_value.specs.declared.value.Value.TheVariants.{Obj}
use Rattle.rb_value.specs.declared.value.ObjId.{ObjId}
use Rattle.rb_value.specs.declared.hash.HashItem.{HashItem}
use Rattle.rb_value.specs.declared.core_class.CoreClass.TheVariants as class
use Rattle.def_calls.specs.Views.{a_hash}
use Rattle.rb_store.specs.Held.{Held, one_more}
use Rattle.heap.specs.Made.{array_given}
use Rattle.core_calls.specs.declared.beat.Beat.{Beat}
use Rattle.core_calls.specs.declared.beat.Passed.{Passed}
use Rattle.core_calls.specs.declared.beat.Passed.TheVariants.{One}
use Rattle.core_calls.specs.Passing.{args_of}
use Rattle.def_plans.specs.Plan.{Planned, gives, wanted}
use Rattle.iter_comparing.specs.Hashes.{items, pairs}
use Rattle.iter_items.specs.declared.source.Source.TheVariants as source
use Rattle.iter_items.specs.Sources.{next, pair_passed}
use Rattle.run_rows.specs.declared.row.StarRow.TheVariants as row
use Rattle.run_rows.specs.declared.row.VisitRow.{VisitRow}
use Rattle.run_rows.specs.declared.row.VisitRow.TheVariants as visit
use Rattle.core_iter.specs.declared.iteration.Iteration.TheVariants as state
use Rattle.core_iter.specs.declared.pairs.PairWalk.{PairWalk}
use Rattle.core_iter.specs.Pairs as pairs_of
use Rattle.core_iter.specs.Stage.{Stage}
use Rattle.items_laws.specs.Run.{Turn, Runs, Gives}
use Rattle.items_laws.specs.Items.{Visits, IsValue, Whole, call_of, calls_of, last_heap}
use Rattle.items_laws.specs.Lists.{alone}
use Rattle.items_laws.proofs.Reading.{counted}
use Rattle.items_laws.proofs.Visits.{visits_none, visits_more}
use Rattle.items_laws.proofs.Walks.{Walk, as_left, Walks, Called, Done, Goes, plan_at, walks, one_same}
use Rattle.items_laws.proofs.Small.{none_some, some_none}

-- rows that delete nothing

abbrev pub of_pairs : VisitRow → Walk PairWalk
of_pairs r = record {
  fits = λ w. w.row ≡ r;
  as_state = λ w. state.Pairs w;
  beat = λ held w. pairs_of.beat_at held w;
  later = λ held w a. pairs_of.passed w;
  left = as_left;
  ending = λ w. Obj w.hash;
}

stays_by : (r : VisitRow) (held : Held) (w : PairWalk) (o : Option HashItem) → w.row ≡ r
    → (pairs_of.beat_by held w o).state.row ≡ r
stays_by r held w None same = same
stays_by r held w (Some i) same = same

abbrev then_by : Held → PairWalk → Bool → Planned Stage
then_by held w c = pairs_of.next_behind (pairs_of.passed_by (pairs_of.left_behind held w c))

not_deleting : (r : VisitRow) (w : PairWalk) (a : Value) → pairs_of.is_deleting r ≡ false → w.row ≡ r
    → pairs_of.goes w a ≡ false
not_deleting r w a keeps same = rw (same, keeps) refl

pub goes_by : (r : VisitRow) → pairs_of.is_deleting r ≡ false → Goes (of_pairs r)
goes_by r keeps = record {
  goes = λ h w a p same e. e ∙ ap (λ (c : Bool). then_by h w c) (not_deleting r w a keeps same);
  beats = λ h w same. stays_by r h w (slice_get w.pairs w.place) same;
  later = λ h w a same. same;
}

-- `each`

abbrev passed_item : Held → PairWalk → Option HashItem → Option Value
passed_item held w o = (pair_passed held (source.Pairs w.pairs (one_more w.place)) o).item

abbrev pub PairRest : List Turn → Value → Held → Type 0
PairRest ts r after = (held : Held) (w : PairWalk) → w.row ≡ visit.EachPair
    → Walks (of_pairs visit.EachPair) ts held w r after
    → Visits next held (source.Pairs w.pairs w.place) w.block Whole alone ts (λ h xs. IsValue h (Obj w.hash) r after)

pair_end : (r : VisitRow) (held : Held) (w : PairWalk) (v : Value) (after : Held) (o : Option HashItem)
    → slice_get w.pairs w.place ≡ o → Done (of_pairs r) held w v after
    → (slice_get w.pairs w.place ≡ None) × IsValue held (Obj w.hash) v after
pair_end r held w v after None there d = (
  there,
  record {
    value = d.value;
    left = subst (λ (o : Option HashItem). after ≡ (pairs_of.beat_by held w o).held) there d.left;
  },
)
pair_end r held w v after (Some i) there d = absurd (some_none
    (record { callee = w.block; passed = (pairs_of.passed_for w.row held i).passed })
    (subst (λ (o : Option HashItem). (pairs_of.beat_by held w o).beat ≡ None) there d.none))

-- a turn hands a pair on
record OfPair (r : VisitRow) (held : Held) (w : PairWalk) (t : Turn) (Rest : PairWalk → Type 0) : Type 0 where
  pair : HashItem
  there : slice_get w.pairs w.place ≡ Some pair
  call : Beat
  same : Some (record { callee = w.block; passed = (pairs_of.passed_for r held pair).passed }) ≡ Some call
  called : call_of t.wanted.plan ≡ Some (call.callee, args_of call.passed)
  asked : t.wanted.held ≡ (pairs_of.passed_for r held pair).held
  rest : Rest (pairs_of.passed w)

of_pair : (r : VisitRow) (held : Held) (w : PairWalk) (t : Turn) (ts : List Turn) (v : Value) (after : Held)
    (o : Option HashItem) → w.row ≡ r → slice_get w.pairs w.place ≡ o
    → Called (of_pairs r) held w t
    (Walks (of_pairs r) ts t.held (pairs_of.passed (pairs_of.beat_at held w).state) v after)
    → OfPair r held w t (λ u. Walks (of_pairs r) ts t.held u v after)
of_pair r held w t ts v after None row there c = absurd (none_some c.call
    (subst (λ (o : Option HashItem). (pairs_of.beat_by held w o).beat ≡ Some c.call) there c.there))
of_pair r held w t ts v after (Some i) row there c =
    let same = subst (λ (o : Option HashItem). (pairs_of.beat_by held w o).beat ≡ Some c.call) there c.there in
    let asked = subst (λ (o : Option HashItem). t.wanted.held ≡ (pairs_of.beat_by held w o).held) there c.asked in
    record {
      pair = i;
      there = there;
      call = c.call;
      same = subst (λ (x : VisitRow).
          Some (record { callee = w.block; passed = (pairs_of.passed_for x held i).passed }) ≡ Some c.call) row same;
      called = c.called;
      asked = subst (λ (x : VisitRow). t.wanted.held ≡ (pairs_of.passed_for x held i).held) row asked;
      rest = subst (λ (o : Option HashItem).
          Walks (of_pairs r) ts t.held (pairs_of.passed (pairs_of.beat_by held w o).state) v after) there c.rest;
    }

pub pair_course : (ts : List Turn) (r : Value) (after : Held) → PairRest ts r after
pair_course [] r after = λ held w row d.
    let e = pair_end visit.EachPair held w r after (slice_get w.pairs w.place) refl d in
    let none = ap (passed_item held w) e.0 in
    visits_none next held (source.Pairs w.pairs w.place) w.block Whole alone (λ h xs. IsValue h (Obj w.hash) r after)
    none none refl e.1
pair_course (t ∷ ts) r after = λ held w row c.
    let p = of_pair visit.EachPair held w t ts r after (slice_get w.pairs w.place) row refl c in
    let x = array_given held.store (p.pair.shown ∷ p.pair.value ∷ []) in
    let s = source.Pairs w.pairs (one_more w.place) in
    let more = pair_course ts r after t.held (pairs_of.passed w) row p.rest in
    visits_more next held (source.Pairs w.pairs w.place) w.block Whole alone alone t ts x (x ∷ [])
    (λ h xs. IsValue h (Obj w.hash) r after) (λ h xs. IsValue h (Obj w.hash) r after) (ap (passed_item held w) p.there)
    (p.called ∙ one_same w.block x p.call p.same)
    (p.asked ∙ ap (λ (o : Option HashItem). (pair_passed held s o).held) (sym p.there))
    (subst (λ (o : Option HashItem). Visits next t.held (pair_passed held s o).source w.block Whole alone ts
    (λ h xs. IsValue h (Obj w.hash) r after)) (sym p.there) more)
    (λ NoneLeft e. e) (λ xs. refl) (λ h xs is. is)

abbrev pub first_walk : VisitRow → Held → ObjId → ObjId → PairWalk
first_walk r held a b = pairs_of.walk r held.store a b

pub begins_at : (r : VisitRow) (held : Held) (recv : Value) (a b : ObjId) (p : Planned Stage)
    → a_hash held.store.objects recv ≡ Some a → p ≡ pairs_of.begin r held recv b
    → p ≡ plan_at (of_pairs r) held (first_walk r held a b)
begins_at r held recv a b p there e = e ∙ ap (λ (o : Option ObjId). wanted held class.Hash recv o
    (λ x. pairs_of.pair_next held (first_walk r held x b))) there

pub each_pair : (held after : Held) (recv v : Value) (a b : ObjId) (ts : List Turn)
    → a_hash held.store.objects recv ≡ Some a
    → Gives (row.Visit visit.EachPair) held recv [] (Some b) ts v after
    → Visits next held (source.Pairs (items (pairs held.store a)) 0) b Whole alone ts
    (λ h xs. IsValue h (Obj a) v after)
each_pair held after recv v a b ts there run =
    let w = first_walk visit.EachPair held a b in
    let first = begins_at visit.EachPair held recv a b run.first there run.starts in
    pair_course ts v after held w refl (walks (of_pairs visit.EachPair) (goes_by visit.EachPair refl) ts held w v after refl
    (subst (λ (q : Planned Stage). Runs q ts (gives after v)) first run.runs))

-- `each_key` and `each_value`: the block is called with a part of each pair

-- what is left of a list behind an item, and where there is none

get_there : {A : Type 0} (xs : List A) (n : ℕ) (x : A) → slice_get xs n ≡ Some x → get_or xs n x ≡ x
get_there xs n x there = get_or_from_slice_get xs n x x there

pub behind_one : {A : Type 0} (xs : List A) (n : ℕ) (x : A) → slice_get xs n ≡ Some x → drop n xs ≡ x ∷ drop (suc n) xs
behind_one {A = A} xs n x there = drop-cons xs n x (slice_get_within xs n x there)
    ∙ ap (λ (y : A). y ∷ drop (suc n) xs) (get_there xs n x there)

pub none_left : {A : Type 0} (xs : List A) (n : ℕ) → slice_get xs n ≡ None → length xs ≤ n
none_left [] n none = omega arith
none_left (x ∷ xs) zero none = absurd (cc)
none_left (x ∷ xs) (suc n) none = omega (arith, none_left xs n none)

pub none_behind : {A : Type 0} (xs : List A) (n : ℕ) → slice_get xs n ≡ None → drop n xs ≡ []
none_behind xs n none = at_drop_all (λ ys. ys) xs n (none_left xs n none)

abbrev pub parts : (HashItem → Value) → ObjId → List HashItem → List (Option (ObjId × List Value))
parts part b ps = map (λ i. Some (b, part i ∷ [])) ps

abbrev pub PartRest : VisitRow → (HashItem → Value) → List Turn → Value → Held → Type 0
PartRest r part ts v after = (held : Held) (w : PairWalk) → w.row ≡ r → w.place + length ts < 2 ^ 64
    → Walks (of_pairs r) ts held w v after
    → (calls_of ts ≡ parts part w.block (drop w.place w.pairs)) × IsValue (last_heap held ts) (Obj w.hash) v after

pub part_course : (r : VisitRow) (part : HashItem → Value)
    → ((held : Held) (i : HashItem) → (pairs_of.passed_for r held i).passed ≡ One (part i))
    → (ts : List Turn) (v : Value) (after : Held) → PartRest r part ts v after
part_course r part alone_so [] v after = λ held w row less d.
    let e = pair_end r held w v after (slice_get w.pairs w.place) refl d in
    (ap (λ (ps : List HashItem). parts part w.block ps) (sym (none_behind w.pairs w.place e.0)), e.1)
part_course r part alone_so (t ∷ ts) v after = λ held w row less c.
    let p = of_pair r held w t ts v after (slice_get w.pairs w.place) row refl c in
    let one = counted w.place (omega (arith, less)) in
    let still : one_more w.place + length ts < 2 ^ 64 = omega (arith, less, one) in
    let more = part_course r part alone_so ts v after t.held (pairs_of.passed w) row still p.rest in
    let step : one_more w.place ≡ suc w.place = omega (arith, one) in
    let call = p.called ∙ one_same w.block (part p.pair) p.call
    (subst (λ (x : Passed). Some (record { callee = w.block; passed = x }) ≡ Some p.call)
    (alone_so held p.pair) p.same) in (
      ap (λ (c : Option (ObjId × List Value)). c ∷ calls_of ts) call
          ∙ ap (λ (cs : List (Option (ObjId × List Value))). Some (w.block, part p.pair ∷ []) ∷ cs) more.0
          ∙ ap (λ (k : ℕ). Some (w.block, part p.pair ∷ []) ∷ parts part w.block (drop k w.pairs)) step
          ∙ ap (λ (ps : List HashItem). parts part w.block ps) (sym (behind_one w.pairs w.place p.pair p.there)),
      more.1,
    )

parts_handed : (r : VisitRow) (part : HashItem → Value)
    → ((held : Held) (i : HashItem) → (pairs_of.passed_for r held i).passed ≡ One (part i))
    → pairs_of.is_deleting r ≡ false → (held after : Held) (recv v : Value) (a b : ObjId) (p : Planned Stage)
    (ts : List Turn) → length ts < 2 ^ 64 → a_hash held.store.objects recv ≡ Some a → p ≡ pairs_of.begin r held recv b
    → Runs p ts (gives after v)
    → (calls_of ts ≡ parts part b (items (pairs held.store a))) × IsValue (last_heap held ts) (Obj a) v after
parts_handed r part alone_so keeps held after recv v a b p ts less there begins runs =
    let w = first_walk r held a b in
    part_course r part alone_so ts v after held w refl (omega (arith, less))
    (walks (of_pairs r) (goes_by r keeps) ts held w v after refl
    (subst (λ (q : Planned Stage). Runs q ts (gives after v)) (begins_at r held recv a b p there begins) runs))

pub each_key : (held after : Held) (recv v : Value) (a b : ObjId) (ts : List Turn) → length ts < 2 ^ 64
    → a_hash held.store.objects recv ≡ Some a
    → Gives (row.Visit visit.EachKey) held recv [] (Some b) ts v after
    → (calls_of ts ≡ map (λ i. Some (b, i.shown ∷ [])) (items (pairs held.store a)))
    × IsValue (last_heap held ts) (Obj a) v after
each_key held after recv v a b ts less there run = parts_handed visit.EachKey (λ i. i.shown) (λ h i. refl) refl held after
    recv v a b run.first ts less there run.starts run.runs

pub each_value : (held after : Held) (recv v : Value) (a b : ObjId) (ts : List Turn) → length ts < 2 ^ 64
    → a_hash held.store.objects recv ≡ Some a
    → Gives (row.Visit visit.EachValue) held recv [] (Some b) ts v after
    → (calls_of ts ≡ map (λ i. Some (b, i.value ∷ [])) (items (pairs held.store a)))
    × IsValue (last_heap held ts) (Obj a) v after
each_value held after recv v a b ts less there run = parts_handed visit.EachValue (λ i. i.value) (λ h i. refl) refl held
    after recv v a b run.first ts less there run.starts run.runs
