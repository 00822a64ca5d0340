-- What is given are the items that came, in their order.
use Rattle.std.proofs.Common.{◌≡◌, ◌≤◌, ℕ, zero, suc, ◌+◌, List, [], ◌∷◌, ◌++◌, length, take, get_or, refl, sym, ap, ◌∙◌, subst, arith, length-append}
use Rattle.std.specs.Prelude.{Option, Some, None, slice_get}
use Rattle.std.proofs.Math.Seq.{take-suc}
use Rattle.std.proofs.lemmas.List.{take-append-le, take_all, length-take-le}
use Rattle.std.proofs.lemmas.Option.{slice_get_within, slice_get-get_or, get_or_from_slice_get}
use Rattle.rb_value.specs.declared.value.Value.{Value}
use Rattle.rb_value.specs.declared.value.Value.TheVariants.{Nil}
use Rattle.enumerator_laws.specs.Course.{Course, begun, held_back, Event, gives, comes, returns, stops, rewinds, after, May, Happens, given_by, came_by}

-- vs were given and ws came
record Keeps (c : Course) (vs ws : List Value) : Type 0 where
  came : c.items ≡ ws
  given : take c.given c.items ≡ vs
  within : c.given ≤ length c.items
  ahead : length c.items ≤ c.given + 1

taken_more : (xs : List Value) (n : ℕ) (v : Value) → slice_get xs n ≡ Some v → take (n + 1) xs ≡ take n xs ++ v ∷ []
taken_more xs n v there =
    let one : n + 1 ≡ suc n = omega arith in
    ap (λ (k : ℕ). take k xs) one
    ∙ take-suc xs n Nil (slice_get_within xs n v there)
    ∙ ap (λ (u : Value). take n xs ++ u ∷ []) (get_or_from_slice_get xs n v Nil there)

none_left : (xs : List Value) (n : ℕ) → slice_get xs n ≡ None → length xs ≤ n
none_left [] n none = omega arith
none_left (x ∷ xs) zero none = absurd (cc)
none_left (x ∷ xs) (suc n) none = omega (arith, none_left xs n none)

-- One event.

given_one : (c : Course) (v : Value) (vs ws : List Value) → Keeps c vs ws → May c (gives v)
    → Keeps (after c (gives v)) (vs ++ v ∷ []) ws
given_one c v vs ws k there = record {
  came = k.came;
  given = taken_more c.items c.given v there ∙ ap (λ (us : List Value). us ++ v ∷ []) k.given;
  within = omega (arith, slice_get_within c.items c.given v there);
  ahead = omega (arith, k.ahead);
}

came_one : (c : Course) (v : Value) (vs ws : List Value) → Keeps c vs ws → May c (comes v)
    → Keeps (after c (comes v)) vs (ws ++ v ∷ [])
came_one c v vs ws k may =
    let long = length-append c.items (v ∷ []) in
    record {
      came = ap (λ (us : List Value). us ++ v ∷ []) k.came;
      given = take-append-le c.given c.items (v ∷ []) k.within ∙ k.given;
      within = omega (arith, k.within, long);
      ahead = omega (arith, none_left c.items c.given may.0, long);
    }

returned : (c : Course) (r : Value) (vs ws : List Value) → Keeps c vs ws → Keeps (after c (returns r)) vs ws
returned c r vs ws k = record { came = k.came; given = k.given; within = k.within; ahead = k.ahead }

at_first : Keeps begun [] []
at_first = record { came = refl; given = refl; within = omega arith; ahead = omega arith }

-- All of them.

kept : (es : List Event) (c d : Course) (vs ws : List Value) → Keeps c vs ws → Happens c es d
    → Keeps d (given_by vs es) (came_by ws es)
kept [] c d vs ws k h = subst (λ (x : Course). Keeps x vs ws) h k
kept (gives v ∷ es) c d vs ws k h = kept es (after c (gives v)) d (vs ++ v ∷ []) ws (given_one c v vs ws k h.0) h.1
kept (comes v ∷ es) c d vs ws k h = kept es (after c (comes v)) d vs (ws ++ v ∷ []) (came_one c v vs ws k h.0) h.1
kept (returns r ∷ es) c d vs ws k h = kept es (after c (returns r)) d vs ws (returned c r vs ws k) h.1
kept (stops r ∷ es) c d vs ws k h = kept es c d vs ws k h.1
kept (rewinds ∷ es) c d vs ws k h = kept es begun d [] [] at_first h.1

pub in_order : (es : List Event) (d : Course) → Happens begun es d → given_by [] es ≡ take d.given (came_by [] es)
in_order es d h =
    let k = kept es begun d [] [] at_first h in
    sym k.given ∙ ap (λ (xs : List Value). take d.given xs) k.came

pub one_ahead : (es : List Event) (d : Course) → Happens begun es d → length (came_by [] es) ≤ length (given_by [] es) + 1
one_ahead es d h =
    let k = kept es begun d [] [] at_first h in
    let came = ap (λ (xs : List Value). length xs) k.came in
    let given = ap (λ (xs : List Value). length xs) k.given in
    omega (arith, came, given, length-take-le d.given d.items k.within, k.ahead)

pub stops_at_end : (es : List Event) (d : Course) (r : Value) → Happens begun es d → May d (stops r)
    → given_by [] es ≡ came_by [] es
stops_at_end es d r h may =
    let k = kept es begun d [] [] at_first h in
    sym k.given ∙ take_all d.given d.items (none_left d.items d.given may.0) ∙ k.came
