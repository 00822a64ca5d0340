-- `each_index`
use Rattle.std.proofs.Common.{◌≡◌, ℕ, suc, ◌<◌, ◌+◌, ◌-◌, ◌^◌, refl, ap, subst, ◌∙◌, List, [], ◌∷◌, ◌++◌, length, arith}
use Rattle.std.specs.Prelude.{pos, map, min, nat_lt, Bool, true, false, if◌then◌else◌, Option, Some, None}
use Rattle.rb_value.specs.declared.value.Value.{Value}
use Rattle.rb_value.specs.declared.value.Value.TheVariants.{Int, Obj}
use Rattle.rb_value.specs.declared.value.ObjId.{ObjId}
use Rattle.rb_value.specs.declared.core_class.CoreClass.TheVariants as class
use Rattle.def_core.specs.Parts.{elements_at}
use Rattle.def_calls.specs.Views.{an_array}
use Rattle.rb_store.specs.Held.{Held, one_more}
use Rattle.def_plans.specs.Plan.{Planned, gives, wanted}
use Rattle.run_rows.specs.declared.row.StarRow.TheVariants as row
use Rattle.run_rows.specs.declared.row.VisitRow.TheVariants as visit
use Rattle.core_iter.specs.declared.iteration.Iteration.TheVariants as state
use Rattle.core_iter.specs.declared.visiting.Visit.{Visit}
use Rattle.core_iter.specs.Rows.{Starts}
use Rattle.core_iter.specs.Sending.{with_one}
use Rattle.core_iter.specs.Stage.{Stage}
use Rattle.core_iter.specs.Visiting as visiting
use Rattle.items_laws.specs.Run.{Turn, Runs, Gives, waiting}
use Rattle.items_laws.specs.Items.{call_of, calls_of, last_heap}
use Rattle.items_laws.specs.Cut.{CutsPlaces}
use Rattle.items_laws.specs.Numbers.{Places, places_from}
use Rattle.items_laws.proofs.Counted.{number_is, one_behind, from_zero}
use Rattle.items_laws.proofs.CutWalks.{CutEnd, CutWalks, cut_walks}
use Rattle.items_laws.proofs.Walks.{Walk, as_left, Walks, Called, Done, Goes, plan_at, walks, one_same}
use Rattle.items_laws.proofs.Small.{none_some, some_none, sum_zero, sum_more}

abbrev indexes : Walk Visit
indexes = record {
  fits = λ w. Unit {0};
  as_state = λ w. state.Indexing w;
  beat = λ held w. visiting.index_beat held w;
  later = λ held w a. w;
  left = as_left;
  ending = λ w. Obj w.array;
}

indexes_go : Goes indexes
indexes_go = record { goes = λ h s y p f e. e; beats = λ h s f. tt; later = λ h s a f. tt }

abbrev is_there : Held → Visit → Bool
is_there held w = nat_lt w.place (length (elements_at held.store.objects w.array))

abbrev number_at : Visit → Value
number_at w = Int (pos (min w.place (2 ^ 63 - 1)))

abbrev place_if : Bool → Visit → Option Value
place_if c w = if c then Some (number_at w) else None

no_more : (held : Held) (w : Visit) (c : Bool) → is_there held w ≡ c
    → (visiting.beat_by held w (place_if c w)).beat ≡ None → is_there held w ≡ false
no_more held w true there none = absurd (some_none (with_one w.block (number_at w)) none)
no_more held w false there none = there

abbrev PlaceRest : List Turn → Value → Held → Type 0
PlaceRest ts r after = (held : Held) (w : Visit) → w.place + length ts < 2 ^ 63 → Walks indexes ts held w r after
    → Places held w.array w.place w.block ts r after

place_end : (held : Held) (w : Visit) (r : Value) (after : Held) → Done indexes held w r after
    → Places held w.array w.place w.block [] r after
place_end held w r after d =
    let none = no_more held w (is_there held w) refl d.none in
    record {
      called = refl;
      over = subst (λ (k : ℕ). nat_lt k (length (elements_at held.store.objects w.array)) ≡ false) (sum_zero w.place) none;
      result = record {
        value = d.value;
        left = d.left ∙ ap (λ (c : Bool). (visiting.beat_by held w (place_if c w)).held) none;
      };
    }

-- where the place is within the Array
place_called : (held : Held) (w : Visit) (t : Turn) (Rest : Type 0) (c : Bool) → is_there held w ≡ c
    → Called indexes held w t Rest → is_there held w ≡ true
place_called held w t Rest true there k = there
place_called held w t Rest false there k = absurd (none_some k.call
    (subst (λ (c : Bool). (visiting.beat_by held w (place_if c w)).beat ≡ Some k.call) there k.there))

place_course : (ts : List Turn) (r : Value) (after : Held) → PlaceRest ts r after
place_course [] r after = λ held w less d. place_end held w r after d
place_course (t ∷ ts) r after = λ held w less k.
    let there = place_called held w t (Walks indexes ts t.held (visiting.index_beat held w).state r after)
    (is_there held w) refl k in
    let one = one_behind w.place (length ts) less in
    let call = subst (λ (c : Bool). (visiting.beat_by held w (place_if c w)).beat ≡ Some k.call) there k.there in
    let rest = subst (λ (c : Bool). Walks indexes ts t.held (visiting.beat_by held w (place_if c w)).state r after) there
    k.rest in
    let still : one_more w.place + length ts < 2 ^ 63 = omega (arith, less, one) in
    let more = subst (λ (n : ℕ). Places t.held w.array n w.block ts r after) one
    (place_course ts r after t.held (visiting.passed w) still rest) in
    let number = number_is w.place (length (t ∷ ts)) less in
    let call_is : call_of t.wanted.plan ≡ Some (w.block, Int (pos w.place) ∷ []) =
    k.called ∙ one_same w.block (number_at w) k.call call
    ∙ ap (λ (x : Value). Some (w.block, x ∷ [])) number in
    record {
      called = ap (λ (x : Option (ObjId × List Value)). x ∷ calls_of ts) call_is
          ∙ ap (λ (xs : List (Option (ObjId × List Value))). Some (w.block, Int (pos w.place) ∷ []) ∷ xs) more.called;
      over = subst (λ (n : ℕ). nat_lt n (length (elements_at (last_heap t.held ts).store.objects w.array)) ≡ false)
          (sum_more w.place (length ts)) more.over;
      result = more.result;
    }

pub each_index : (held after : Held) (recv v : Value) (a b : ObjId) (ts : List Turn) → length ts < 2 ^ 63
    → an_array held.store.objects recv ≡ Some a
    → Gives (row.Visit visit.EachIndex) held recv [] (Some b) ts v after → Places held a 0 b ts v after
each_index held after recv v a b ts less there run =
    let w : Visit = record { array = a; place = 0; block = b } in
    let first : run.first ≡ plan_at indexes held w = run.starts
    ∙ ap (λ (o : Option ObjId). wanted held class.Array recv o
    (λ x. visiting.begun visit.EachIndex held (record { array = x; place = 0; block = b }))) there in
    place_course ts v after held w (from_zero (length ts) less) (walks indexes indexes_go ts held w v after tt
    (subst (λ (q : Planned Stage). Runs q ts (gives after v)) first run.runs))

-- Where the block never answers.

abbrev PlaceCut : List Turn → Planned Stage → Type 0
PlaceCut ts last = (held : Held) (w : Visit) → w.place + suc (length ts) < 2 ^ 63 → CutWalks indexes ts held w last
    → calls_of ts ++ call_of last.plan ∷ []
    ≡ map (λ k. Some (w.block, Int (pos k) ∷ [])) (places_from w.place (suc (length ts)))

place_lost : (held : Held) (w : Visit) (last : Planned Stage) (c : Bool) → is_there held w ≡ c → w.place + 1 < 2 ^ 63
    → CutEnd indexes held w last → call_of last.plan ≡ Some (w.block, Int (pos w.place) ∷ [])
place_lost held w last true there less k =
    let call = subst (λ (c : Bool). (visiting.beat_by held w (place_if c w)).beat ≡ Some k.call) there k.there in
    k.called ∙ one_same w.block (number_at w) k.call call
    ∙ ap (λ (x : Value). Some (w.block, x ∷ [])) (number_is w.place 1 less)
place_lost held w last false there less k = absurd (none_some k.call
    (subst (λ (c : Bool). (visiting.beat_by held w (place_if c w)).beat ≡ Some k.call) there k.there))

place_cut : (ts : List Turn) (last : Planned Stage) → PlaceCut ts last
place_cut [] last = λ held w less k.
    ap (λ (c : Option (ObjId × List Value)). c ∷ []) (place_lost held w last (is_there held w) refl less k)
place_cut (t ∷ ts) last = λ held w less k.
    let there = place_called held w t (CutWalks indexes ts t.held (visiting.index_beat held w).state last) (is_there held w)
    refl k in
    let one = one_behind w.place (suc (length ts)) less in
    let call = subst (λ (c : Bool). (visiting.beat_by held w (place_if c w)).beat ≡ Some k.call) there k.there in
    let rest = subst (λ (c : Bool). CutWalks indexes ts t.held (visiting.beat_by held w (place_if c w)).state last) there
    k.rest in
    let still : one_more w.place + suc (length ts) < 2 ^ 63 = omega (arith, less, one) in
    let more = subst (λ (n : ℕ). calls_of ts ++ call_of last.plan ∷ []
    ≡ map (λ k. Some (w.block, Int (pos k) ∷ [])) (places_from n (suc (length ts)))) one
    (place_cut ts last t.held (visiting.passed w) still rest) in
    let number = number_is w.place (suc (suc (length ts))) less in
    let call_is : call_of t.wanted.plan ≡ Some (w.block, Int (pos w.place) ∷ []) =
    k.called ∙ one_same w.block (number_at w) k.call call
    ∙ ap (λ (x : Value). Some (w.block, x ∷ [])) number in
    ap (λ (c : Option (ObjId × List Value)). c ∷ (calls_of ts ++ call_of last.plan ∷ [])) call_is
    ∙ ap (λ (cs : List (Option (ObjId × List Value))). Some (w.block, Int (pos w.place) ∷ []) ∷ cs) more

pub index_left : (held : Held) (recv : Value) (a b : ObjId) (ts : List Turn) (first last : Planned Stage) (stage : Stage)
    → suc (length ts) < 2 ^ 63 → an_array held.store.objects recv ≡ Some a
    → Starts (row.Visit visit.EachIndex) held recv [] (Some b) first → Runs first ts last
    → waiting last.plan ≡ Some stage → CutsPlaces b ts last
index_left held recv a b ts first last stage less there starts runs waits =
    let w : Visit = record { array = a; place = 0; block = b } in
    let same : first ≡ plan_at indexes held w = starts
    ∙ ap (λ (o : Option ObjId). wanted held class.Array recv o
    (λ x. visiting.begun visit.EachIndex held (record { array = x; place = 0; block = b }))) there in
    place_cut ts last held w (from_zero (suc (length ts)) less) (cut_walks indexes indexes_go ts last stage waits held w tt
    (subst (λ (q : Planned Stage). Runs q ts last) same runs))
