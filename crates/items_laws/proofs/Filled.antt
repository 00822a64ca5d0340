-- A new Array that a block fills.
use Rattle.std.proofs.Common.{◌≡◌, ℕ, zero, suc, ◌<◌, ◌≤◌, ◌+◌, ◌-◌, ◌^◌, refl, sym, ap, subst, ◌∙◌, List, [], ◌∷◌, arith}
use Rattle.std.specs.Prelude.{ℤ, pos, negsuc, min, map, nat_lt, nat_le, Bool, true, false, if◌then◌else◌, Option, Some, None, Result, Ok, Err}
use Rattle.std.proofs.Math.Nat.{min-eq_left}
use Rattle.std.proofs.lemmas.Bool.{leb-true, leb-false, ltb-false}
use Rattle.rb_value.specs.declared.value.Value.{Value}
use Rattle.rb_value.specs.declared.value.Value.TheVariants.{Int, Obj}
use Rattle.rb_value.specs.declared.value.ObjId.{ObjId}
use Rattle.rb_value.specs.declared.core_class.CoreClass.TheVariants as class
use Rattle.def_core.specs.declared.cause.Cause.{Cause}
use Rattle.def_core.specs.declared.cause.Cause.TheVariants as cause
use Rattle.def_calls.specs.Views.{an_array}
use Rattle.rb_store.specs.Held.{Held, one_more}
use Rattle.heap.specs.Changes.{pushed, with_elements}
use Rattle.core_calls.specs.Checks.{integer}
use Rattle.def_plans.specs.Plan.{Planned, gives, wanted}
use Rattle.rows_items.specs.Told.{and_then}
use Rattle.run_rows.specs.declared.row.StarRow.TheVariants as row
use Rattle.run_rows.specs.declared.row.VisitRow.TheVariants as visit
use Rattle.core_iter.specs.declared.filling.Filling.{Filling}
use Rattle.core_iter.specs.declared.iteration.Iteration.TheVariants as state
use Rattle.core_iter.specs.Filling as filling
use Rattle.core_iter.specs.Sending.{Beaten, with_one}
use Rattle.core_iter.specs.Stage.{Stage}
use Rattle.items_laws.specs.Changed.{Fills}
use Rattle.items_laws.specs.Run.{Turn, Runs, Gives}
use Rattle.items_laws.specs.Items.{call_of, calls_of}
use Rattle.items_laws.proofs.Walks.{Walk, Walks, Called, Done, Goes, plan_at, walks, one_same}
use Rattle.items_laws.proofs.Small.{none_some, some_none}

abbrev pub filling_up : Walk Filling
filling_up = record {
  fits = λ f. Unit {0};
  as_state = λ f. state.Filling f;
  beat = filling.place_beat;
  later = λ held f a. f;
  left = λ held f a. pushed held f.array a;
  ending = λ f. Obj f.array;
}

pub filling_goes : Goes filling_up
filling_goes = record { goes = λ h f a p fits e. e; beats = λ h f fits. tt; later = λ h f a fits. tt }

-- by whether a place is left

abbrev number_at : Filling → Value
number_at f = Int (pos (min f.place (2 ^ 63 - 1)))

abbrev pub beat_by : Held → Filling → Bool → Beaten Filling
beat_by held f c = if c then record { beat = None; state = f; held = held } else record {
  beat = Some (with_one f.block (number_at f));
  state = record f { place = one_more f.place };
  held = held;
}

abbrev pub FillRest : List Turn → Value → Held → Type 0
FillRest ts r after = (held : Held) (f : Filling) (k : ℕ) → f.place + k ≡ f.count → f.count < 2 ^ 63
    → Walks filling_up ts held f r after → Fills held f.array f.block f.place k ts r after

none_left : (n k count : ℕ) → n + k ≡ count → count ≤ n → k ≡ 0
none_left n k count e less = omega (arith, e, less)

fill_end : (held : Held) (f : Filling) (k : ℕ) (r : Value) (after : Held) (c : Bool) → nat_le f.count f.place ≡ c
    → f.place + k ≡ f.count → Done filling_up held f r after → Fills held f.array f.block f.place k [] r after
fill_end held f k r after true e sum d =
    let none = none_left f.place k f.count sum (leb-true f.count f.place e) in
    subst (λ (m : ℕ). Fills held f.array f.block f.place m [] r after) (sym none) (record {
      called = refl;
      heaps = refl;
      result = record { value = d.value; left = d.left ∙ ap (λ (c : Bool). (beat_by held f c).held) e };
    })
fill_end held f k r after false e sum d = absurd (some_none (with_one f.block (number_at f))
    (subst (λ (c : Bool). (beat_by held f c).beat ≡ None) e d.none))

-- with a turn before the others
one_filled : (held : Held) (a b : ObjId) (n k : ℕ) (t : Turn) (ts : List Turn) (r : Value) (after : Held)
    → call_of t.wanted.plan ≡ Some (b, Int (pos n) ∷ []) → t.wanted.held ≡ held
    → Fills (pushed t.held a t.answer) a b (n + 1) k ts r after → Fills held a b n (suc k) (t ∷ ts) r after
one_filled held a b n k t ts r after call asked rest = record {
  called = ap (λ (c : Option (ObjId × List Value)). c ∷ calls_of ts) call
      ∙ ap (λ (cs : List (Option (ObjId × List Value))). Some (b, Int (pos n) ∷ []) ∷ cs) rest.called;
  heaps = ap (λ (h : Held). h ∷ map (λ t. t.wanted.held) ts) asked
      ∙ ap (λ (hs : List Held). held ∷ hs) rest.heaps;
  result = rest.result;
}

too_many : (n count : ℕ) → n + 0 ≡ count → n < count → ⊥
too_many n count e less = omega (arith, e, less)

exact : (n count : ℕ) → n < count → count < 2 ^ 63 → Int (pos (min n (2 ^ 63 - 1))) ≡ Int (pos n)
exact n count less most = ap (λ (m : ℕ). Int (pos m)) (min-eq_left (omega (arith, less, most)))

one_behind : (n count : ℕ) → n < count → count < 2 ^ 63 → one_more n ≡ n + 1
one_behind n count less most = min-eq_left (omega (arith, less, most))

sum_behind : (n m k count : ℕ) → n + suc k ≡ count → m ≡ n + 1 → m + k ≡ count
sum_behind n m k count e one = omega (arith, e, one)

abbrev fills_on : List Turn → Value → Held → Turn → Filling → Type 0
fills_on ts r after t f = Walks filling_up ts (pushed t.held f.array t.answer) f r after

fill_turn : (t : Turn) (ts : List Turn) (r : Value) (after held : Held) (f : Filling) (k : ℕ) (c : Bool)
    → nat_le f.count f.place ≡ c → FillRest ts r after → f.place + k ≡ f.count → f.count < 2 ^ 63
    → Called filling_up held f t (fills_on ts r after t (filling.place_beat held f).state)
    → Fills held f.array f.block f.place k (t ∷ ts) r after
fill_turn t ts r after held f k true e rest sum most c =
    absurd (none_some c.call (subst (λ (d : Bool). (beat_by held f d).beat ≡ Some c.call) e c.there))
fill_turn t ts r after held f zero false e rest sum most c =
    absurd (too_many f.place f.count sum (leb-false f.count f.place e))
fill_turn t ts r after held f (suc k) false e rest sum most c =
    let less = leb-false f.count f.place e in
    let one = one_behind f.place f.count less most in
    let call = subst (λ (d : Bool). (beat_by held f d).beat ≡ Some c.call) e c.there in
    let more = rest (pushed t.held f.array t.answer) (record f { place = one_more f.place }) k
    (sum_behind f.place (one_more f.place) k f.count sum one) most
    (subst (λ (d : Bool). fills_on ts r after t (beat_by held f d).state) e c.rest) in
    one_filled held f.array f.block f.place k t ts r after
    (c.called ∙ one_same f.block (number_at f) c.call call
    ∙ ap (λ (x : Value). Some (f.block, x ∷ [])) (exact f.place f.count less most))
    (c.asked ∙ ap (λ (d : Bool). (beat_by held f d).held) e)
    (subst (λ (n : ℕ). Fills (pushed t.held f.array t.answer) f.array f.block n k ts r after) one more)

pub fill_course : (ts : List Turn) (r : Value) (after : Held) → FillRest ts r after
fill_course [] r after = λ held f k sum most d. fill_end held f k r after (nat_le f.count f.place) refl sum d
fill_course (t ∷ ts) r after = λ held f k sum most c.
    fill_turn t ts r after held f k (nat_le f.count f.place) refl (fill_course ts r after) sum most c

-- how many there are at most

few : (n m : ℕ) → m ≤ 2 ^ 24 → ◌≡◌ {A = Result ℕ Cause} (Ok m) (Ok n) → n < 2 ^ 63
few n m less e = let same : m ≡ n = cc in omega (arith, less, same)

few_by : (n m : ℕ) (c : Bool) → nat_lt (2 ^ 24) m ≡ c → (if c then Err cause.ArrayTooBig else Ok m) ≡ Ok n → n < 2 ^ 63
few_by n m true e is = absurd (cc)
few_by n m false e is = few n m (ltb-false (2 ^ 24) m e) is

few_of : (n : ℕ) (z : ℤ) → filling.size_of z ≡ Ok n → n < 2 ^ 63
few_of n (pos m) is = few_by n m (nat_lt (2 ^ 24) m) refl is
few_of n (negsuc m) is = absurd (cc)

pub few_in : (n : ℕ) (x : Result ℤ Cause) → and_then x filling.size_of ≡ Ok n → n < 2 ^ 63
few_in n (Ok z) is = few_of n z is
few_in n (Err c) is = absurd (cc)

pub none_before : (n : ℕ) → 0 + n ≡ n
none_before n = omega arith

pub array_filled : (held after : Held) (recv size v : Value) (a b : ObjId) (n : ℕ) (ts : List Turn)
    → an_array held.store.objects recv ≡ Some a → filling.size_in held.store size ≡ Ok n
    → Gives (row.Visit visit.InitializeArray) held recv (size ∷ []) (Some b) ts v after
    → Fills (with_elements held a []) a b 0 n ts v after
array_filled held after recv size v a b n ts there sized run =
    let f : Filling = record { array = a; place = 0; count = n; block = b } in
    let empty = with_elements held a [] in
    let first : run.first ≡ plan_at filling_up empty f = run.starts
    ∙ ap (λ (o : Option ObjId). wanted held class.Array recv o
    (λ x. filling.array_by held x (size ∷ []) (Some b) (Some size))) there
    ∙ ap (λ (x : Result ℕ Cause). filling.sized held a (size ∷ []) (Some b) x) sized in
    fill_course ts v after empty f n (none_before n) (few_in n (integer held.store size) sized)
    (walks filling_up filling_goes ts empty f v after tt
    (subst (λ (q : Planned Stage). Runs q ts (gives after v)) first run.runs))
