-- Nothing stands twice in the tables of a body, and each text in them is short enough.
use Rattle.std.proofs.Common.{◌≡◌, ◌≤◌, ℕ, ◌+◌, ℤ, List, [], ◌∷◌, ◌++◌, length, map, arith, refl, sym, Bool, true, false, bytes_eq, if◌then◌else◌}
use Rattle.std.specs.Prelude.{◌≢◌, Option, Some, None, ◌||◌}
use Rattle.std.specs.List.{All}
use Rattle.std.specs.Ordering.{int_eq}
use Rattle.std.proofs.lemmas.List.Elements.{All-nil, All-cons, All-head, All-tail, All-push, All-append, All-map, All-weaker}
use Rattle.std.proofs.lemmas.Bool.Decides.{Decides-int_eq}
use Rattle.std.proofs.lemmas.Slice.Eq.{bytes_eq-Decides}
use Rattle.rite_code.specs.declared.code.PoolItem.TheVariants as pool
use Rattle.rite_code.specs.Code.{AreDistinct, IsText, IsItem}
use Rattle.text_set.specs.Sets.{is_among, with_text}
use Rattle.integer_set.specs.Sets as integers
use Rattle.ir_core.specs.CoreForm.{CoreForm, Body, body, form_of}
use Rattle.ir_walk.specs.Walk.{Step, at, enter, leave, walked}
use Rattle.ir_walk.specs.declared.extent.Extent.TheVariants as extent
use Rattle.ir_counts.specs.declared.tally.Tally.{Tally}
use Rattle.ir_counts.specs.Sets.{with_optional, with_optional_integer}
use Rattle.ir_counts.specs.Tables.{name_of, old_name_of, text_of, integer_of}
use Rattle.ir_counts.specs.Tally.{counted, tallied, no_form}
use Rattle.ir_counts.specs.Counts.{text_bytes, bytes_of, tally}
use Rattle.gen_forms.specs.Gen.{pool_of}

-- ## Lists

module _ {A : Type 0} where
  -- one more that none of them is
  distinct_last : (x : A) (xs : List A) → All (λ y. y ≢ x) xs → AreDistinct xs → AreDistinct (xs ++ x ∷ [])
  distinct_last x [] other apart = (All-nil (λ y. x ≢ y), tt)
  distinct_last x (y ∷ ys) other apart = (
    All-push (λ z. y ≢ z) ys x apart.0 (All-head (λ z. z ≢ x) y ys other),
    distinct_last x ys (All-tail (λ z. z ≢ x) y ys other) apart.1,
  )

  -- some, and others behind them
  distinct_both : (xs ys : List A) → AreDistinct xs → AreDistinct ys → All (λ x. All (λ y. x ≢ y) ys) xs
      → AreDistinct (xs ++ ys)
  distinct_both [] ys first second cross = second
  distinct_both (x ∷ xs) ys first second cross = (
    All-append (λ y. x ≢ y) xs ys first.0 (All-head (λ z. All (λ y. z ≢ y) ys) x xs cross),
    distinct_both xs ys first.1 second (All-tail (λ z. All (λ y. z ≢ y) ys) x xs cross),
  )

  distinct_map : {B : Type 0} (f : A → B) → ((x y : A) → f x ≡ f y → x ≡ y) → (xs : List A) → AreDistinct xs
      → AreDistinct (map f xs)
  distinct_map f tells [] apart = tt
  distinct_map f tells (x ∷ xs) apart = (
    All-map (λ z. f x ≢ z) f xs (All-weaker (λ y. x ≢ y) (λ y. f x ≢ f y) (λ y n e. n (tells x y e)) xs apart.0),
    distinct_map f tells xs apart.1,
  )

-- ## Texts

never : (b : Bool) → b ≡ true → b ≡ false → ⊥
never true e f = absurd (cc f)
never false e f = absurd (cc e)

other_text : (x : List ℕ) (xs : List (List ℕ)) → is_among x xs ≡ false → All (λ y. y ≢ x) xs
other_text x [] h = All-nil (λ y. y ≢ x)
other_text x (y ∷ ys) h = by (bytes_eq x y) refl h (other_text x ys)
  where
    by : (b : Bool) → bytes_eq x y ≡ b → (if b then true else is_among x ys) ≡ false
        → (is_among x ys ≡ false → All (λ z. z ≢ x) ys) → All (λ z. z ≢ x) (y ∷ ys)
    by true e f later = absurd (cc f)
    by false e f later =
        All-cons (λ z. z ≢ x) y ys (λ same. never (bytes_eq x y) ((bytes_eq-Decides x y).1 (sym same)) e) (later f)

distinct_text : (x : List ℕ) (xs : List (List ℕ)) → AreDistinct xs → AreDistinct (with_text xs x)
distinct_text x xs apart = by (is_among x xs) refl
  where
    by : (b : Bool) → is_among x xs ≡ b → AreDistinct (if b then xs else xs ++ x ∷ [])
    by true e = apart
    by false e = distinct_last x xs (other_text x xs e) apart

distinct_optional : (x : Option (List ℕ)) (xs : List (List ℕ)) → AreDistinct xs → AreDistinct (with_optional xs x)
distinct_optional None xs apart = apart
distinct_optional (Some x) xs apart = distinct_text x xs apart

-- ## Integers

other_number : (z : ℤ) (zs : List ℤ) → integers.is_among z zs ≡ false → All (λ y. y ≢ z) zs
other_number z [] h = All-nil (λ y. y ≢ z)
other_number z (y ∷ ys) h = by (int_eq z y) refl h (other_number z ys)
  where
    by : (b : Bool) → int_eq z y ≡ b → (b || integers.is_among z ys) ≡ false
        → (integers.is_among z ys ≡ false → All (λ x. x ≢ z) ys) → All (λ x. x ≢ z) (y ∷ ys)
    by true e f later = absurd (cc f)
    by false e f later =
        All-cons (λ x. x ≢ z) y ys (λ same. never (int_eq z y) ((Decides-int_eq z y).1 (sym same)) e) (later f)

distinct_number : (z : Option ℤ) (zs : List ℤ) → AreDistinct zs → AreDistinct (with_optional_integer zs z)
distinct_number None zs apart = apart
distinct_number (Some z) zs apart = by (integers.is_among z zs) refl
  where
    by : (b : Bool) → integers.is_among z zs ≡ b → AreDistinct (if b then zs else zs ++ z ∷ [])
    by true e = apart
    by false e = distinct_last z zs (other_number z zs e) apart

-- ## Tallies

pub record AreApart (t : Tally) : Type 0 where
  pub symbols : AreDistinct t.symbols
  pub texts : AreDistinct t.texts
  pub integers : AreDistinct t.integers

apart_counted : (t : Tally) (f : CoreForm) → AreApart t → AreApart (counted t f)
apart_counted t f h = record {
  symbols = distinct_optional (old_name_of f) (with_optional t.symbols (name_of f))
      (distinct_optional (name_of f) t.symbols h.symbols);
  texts = distinct_optional (text_of f) t.texts h.texts;
  integers = distinct_number (integer_of f) t.integers h.integers;
}

apart_tallied : (t : Tally) (ss : List Step) → AreApart t → AreApart (tallied t ss)
apart_tallied t [] h = h
apart_tallied t (at f ∷ ss) h = apart_tallied (counted t f) ss (apart_counted t f h)
apart_tallied t (enter b ∷ ss) h = apart_tallied t ss h
apart_tallied t (leave ∷ ss) h = apart_tallied t ss h

pub tally_apart : (b : Body) → AreApart (tally b)
tally_apart b =
    apart_tallied no_form (walked extent.Body [] (form_of b)) (record { symbols = tt; texts = tt; integers = tt })

-- the pool has the integers and the texts
never_both : (zs : List ℤ) (ts : List (List ℕ))
    → All (λ x. All (λ y. x ≢ y) (map pool.Text ts)) (map pool.Int zs)
never_both zs ts = All-map (λ x. All (λ y. x ≢ y) (map pool.Text ts)) pool.Int zs (each zs)
  where
    texts : (z : ℤ) (xs : List (List ℕ)) → All (λ y. pool.Int z ≢ y) (map pool.Text xs)
    texts z [] = All-nil (λ y. pool.Int z ≢ y)
    texts z (x ∷ xs) =
        All-cons (λ y. pool.Int z ≢ y) (pool.Text x) (map pool.Text xs) (λ e. absurd (cc e)) (texts z xs)

    each : (ys : List ℤ) → All (λ z. All (λ y. pool.Int z ≢ y) (map pool.Text ts)) ys
    each [] = All-nil (λ z. All (λ y. pool.Int z ≢ y) (map pool.Text ts))
    each (z ∷ ys) = All-cons (λ x. All (λ y. pool.Int x ≢ y) (map pool.Text ts)) z ys (texts z ts) (each ys)

same_number : (x y : ℤ) → pool.Int x ≡ pool.Int y → x ≡ y
same_number x y e = cc e

same_text : (x y : List ℕ) → pool.Text x ≡ pool.Text y → x ≡ y
same_text x y e = cc e

pub pool_apart : (t : Tally) → AreApart t → AreDistinct (pool_of t)
pool_apart t h =
    distinct_both (map pool.Int t.integers) (map pool.Text t.texts)
    (distinct_map pool.Int same_number t.integers h.integers) (distinct_map pool.Text same_text t.texts h.texts)
    (never_both t.integers t.texts)

-- ## Lengths

record Short (n : ℕ) (xs : List (List ℕ)) : Type 0 where
  each : All IsText xs
  before : n ≤ 4294967295

short : (n : ℕ) (xs : List (List ℕ)) → text_bytes n xs ≤ 4294967295 → Short n xs
short n [] h = record { each = All-nil IsText; before = h }
short n (x ∷ xs) h =
    let rest = short (n + (8 + length x)) xs h in
    record { each = All-cons IsText x xs (omega (arith, rest.before)) rest.each; before = omega (arith, rest.before) }

pub symbols_short : (code : ℕ) (t : Tally) → bytes_of code t ≤ 4294967295 → All IsText t.symbols
symbols_short code t h = (short _ t.symbols h).each

texts_short : (code : ℕ) (t : Tally) → bytes_of code t ≤ 4294967295 → All IsText t.texts
texts_short code t h = (short _ t.texts (short _ t.symbols h).before).each

numbers_fine : (zs : List ℤ) → All IsItem (map pool.Int zs)
numbers_fine [] = All-nil IsItem
numbers_fine (z ∷ zs) = All-cons IsItem (pool.Int z) (map pool.Int zs) tt (numbers_fine zs)

pub pool_short : (code : ℕ) (t : Tally) → bytes_of code t ≤ 4294967295 → All IsItem (pool_of t)
pool_short code t h =
    All-append IsItem (map pool.Int t.integers) (map pool.Text t.texts) (numbers_fine t.integers)
    (All-map IsItem pool.Text t.texts (texts_short code t h))
