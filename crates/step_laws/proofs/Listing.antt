-- What the tables of a body have: the entry of a name, of an integer, and of a text.
use Rattle.std.proofs.Common.{◌≡◌, ◌<◌, ℕ, suc, ◌+◌, ℤ, pos, negsuc, List, [], ◌∷◌, ◌++◌, length, map, get_or, arith, refl, sym, ap, ◌∙◌, subst, Bool, true, false, true≢false}
use Rattle.std.specs.Prelude.{◌||◌, not, bytes_eq, position, slice_get, if◌then◌else◌, Some, None}
use Rattle.std.specs.List.{position_or_len, list_any}
use Rattle.std.specs.Ordering.{int_eq}
use Rattle.std.proofs.lemmas.Bool.{lt-ltb}
use Rattle.std.proofs.lemmas.Bool.Decides.{nat_tests, Decides-int_eq}
use Rattle.std.proofs.lemmas.Slice.Eq.{bytes_eq-Decides}
use Rattle.rite_code.specs.declared.code.PoolItem.TheVariants as pool
use Rattle.text_set.specs.Sets.{is_among}
use Rattle.integer_set.specs.Sets as integers
use Rattle.ir_core.specs.CoreForm.{Name}
use Rattle.ir_counts.specs.Tables.{is_wide}
use Rattle.gen_forms.specs.Gen.{place_or, is_within}

-- Names.

record IsAt (x : Name) (xs : List Name) (n : ℕ) : Type 0 where
  pub within : n < length xs
  pub is : get_or xs n [] ≡ x

first_at : (x y : Name) (ys : List Name) → bytes_eq x y ≡ true → IsAt x (y ∷ ys) 0
first_at x y ys e = record { within = omega arith; is = sym ((bytes_eq-Decides x y).0 e) }

later_at : (x y : Name) (ys : List Name) (n : ℕ) → IsAt x ys n → IsAt x (y ∷ ys) (1 + n)
later_at x y ys n a =
    let e : suc n ≡ 1 + n = omega arith in
    subst (IsAt x (y ∷ ys)) e (record { within = omega (arith, a.within); is = a.is })

among_at : (x : Name) (xs : List Name) → is_among x xs ≡ true → IsAt x xs (position_or_len (bytes_eq x) xs)
among_at x [] h = absurd (true≢false (sym h))
among_at x (y ∷ ys) h = by (λ g. among_at x ys g) (bytes_eq x y) refl h
  where
    by : (is_among x ys ≡ true → IsAt x ys (position_or_len (bytes_eq x) ys)) → (b : Bool) → bytes_eq x y ≡ b
        → (if b then true else is_among x ys) ≡ true
        → IsAt x (y ∷ ys) (if not b then 1 + position_or_len (bytes_eq x) ys else 0)
    by further true e g = first_at x y ys e
    by further false e g = later_at x y ys (position_or_len (bytes_eq x) ys) (further g)

pub name_there : (x : Name) (xs : List Name) → is_among x xs ≡ true
    → get_or xs (place_or (position (bytes_eq x) xs) (length xs)) [] ≡ x
name_there x xs h =
    let a = among_at x xs h in
    let n = position_or_len (bytes_eq x) xs in
    ap (λ (b : Bool). get_or xs (place_or (if b then Some n else None) (length xs)) [])
    (lt-ltb n (length xs) a.within) ∙ a.is

-- Integers.

record HasAt (z : ℤ) (zs : List ℤ) (n : ℕ) : Type 0 where
  pub within : n < length zs
  pub is : (ts : List (List ℕ)) → slice_get (map pool.Int zs ++ map pool.Text ts) n ≡ Some (pool.Int z)

first_has : (z y : ℤ) (ys : List ℤ) → int_eq z y ≡ true → HasAt z (y ∷ ys) 0
first_has z y ys e = record {
  within = omega arith;
  is = λ ts. ap (λ (i : ℤ). Some (pool.Int i)) (sym ((Decides-int_eq z y).0 e));
}

later_has : (z y : ℤ) (ys : List ℤ) (n : ℕ) → HasAt z ys n → HasAt z (y ∷ ys) (1 + n)
later_has z y ys n a =
    let e : suc n ≡ 1 + n = omega arith in
    subst (HasAt z (y ∷ ys)) e (record { within = omega (arith, a.within); is = a.is })

among_has : (z : ℤ) (zs : List ℤ) → integers.is_among z zs ≡ true → HasAt z zs (position_or_len (int_eq z) zs)
among_has z [] h = absurd (true≢false (sym h))
among_has z (y ∷ ys) h = by (λ g. among_has z ys g) (int_eq z y) refl h
  where
    by : (integers.is_among z ys ≡ true → HasAt z ys (position_or_len (int_eq z) ys)) → (b : Bool) → int_eq z y ≡ b
        → (b || list_any (int_eq z) ys) ≡ true
        → HasAt z (y ∷ ys) (if not b then 1 + position_or_len (int_eq z) ys else 0)
    by further true e g = first_has z y ys e
    by further false e g = later_has z y ys (position_or_len (int_eq z) ys) (further g)

pub integer_there : (z : ℤ) (zs : List ℤ) (ts : List (List ℕ)) → integers.is_among z zs ≡ true
    → slice_get (map pool.Int zs ++ map pool.Text ts) (place_or (position (int_eq z) zs) (length zs)) ≡ Some (pool.Int z)
integer_there z zs ts h =
    let a = among_has z zs h in
    let n = position_or_len (int_eq z) zs in
    ap (λ (b : Bool). slice_get (map pool.Int zs ++ map pool.Text ts) (place_or (if b then Some n else None) (length zs)))
    (lt-ltb n (length zs) a.within) ∙ a.is ts

-- Texts, which stand behind the integers.

record TextAt (x : List ℕ) (ts : List (List ℕ)) (n : ℕ) : Type 0 where
  pub within : n < length ts
  pub is : slice_get (map pool.Text ts) n ≡ Some (pool.Text x)

first_text : (x y : List ℕ) (ys : List (List ℕ)) → bytes_eq x y ≡ true → TextAt x (y ∷ ys) 0
first_text x y ys e = record {
  within = omega arith;
  is = ap (λ (t : List ℕ). Some (pool.Text t)) (sym ((bytes_eq-Decides x y).0 e));
}

later_text : (x y : List ℕ) (ys : List (List ℕ)) (n : ℕ) → TextAt x ys n → TextAt x (y ∷ ys) (1 + n)
later_text x y ys n a =
    let e : suc n ≡ 1 + n = omega arith in
    subst (TextAt x (y ∷ ys)) e (record { within = omega (arith, a.within); is = a.is })

among_texts : (x : List ℕ) (ts : List (List ℕ)) → is_among x ts ≡ true → TextAt x ts (position_or_len (bytes_eq x) ts)
among_texts x [] h = absurd (true≢false (sym h))
among_texts x (y ∷ ys) h = by (λ g. among_texts x ys g) (bytes_eq x y) refl h
  where
    by : (is_among x ys ≡ true → TextAt x ys (position_or_len (bytes_eq x) ys)) → (b : Bool) → bytes_eq x y ≡ b
        → (if b then true else is_among x ys) ≡ true
        → TextAt x (y ∷ ys) (if not b then 1 + position_or_len (bytes_eq x) ys else 0)
    by further true e g = first_text x y ys e
    by further false e g = later_text x y ys (position_or_len (bytes_eq x) ys) (further g)

behind_integers : (zs : List ℤ) (ts : List (List ℕ)) (n : ℕ)
    → slice_get (map pool.Int zs ++ map pool.Text ts) (length zs + n) ≡ slice_get (map pool.Text ts) n
behind_integers [] ts n = ap (slice_get (map pool.Text ts)) (omega arith)
behind_integers (z ∷ zs) ts n =
    let e : length (z ∷ zs) + n ≡ suc (length zs + n) = omega arith in
    ap (slice_get (map pool.Int (z ∷ zs) ++ map pool.Text ts)) e ∙ behind_integers zs ts n

pub text_there : (x : List ℕ) (zs : List ℤ) (ts : List (List ℕ)) → is_among x ts ≡ true
    → slice_get (map pool.Int zs ++ map pool.Text ts) (length zs + place_or (position (bytes_eq x) ts) (length ts))
    ≡ Some (pool.Text x)
text_there x zs ts h =
    let a = among_texts x ts h in
    let n = position_or_len (bytes_eq x) ts in
    behind_integers zs ts (place_or (position (bytes_eq x) ts) (length ts))
    ∙ ap (λ (b : Bool). slice_get (map pool.Text ts) (place_or (if b then Some n else None) (length ts)))
    (lt-ltb n (length ts) a.within) ∙ a.is

-- an integer past 32 bits is in the pool
pub wide_is : (z : ℤ) → is_within (negsuc 2147483647) z (pos 2147483647) ≡ false → is_wide z ≡ true
wide_is (pos n) e = lt-ltb 2147483647 n (grind (arith, nat_tests, e))
wide_is (negsuc n) e = lt-ltb 2147483647 n (grind (arith, nat_tests, e))
