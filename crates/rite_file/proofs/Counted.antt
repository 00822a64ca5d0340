-- Lists of fields: what is read is what was written, and what was written is read again.
use Rattle.std.proofs.Common.{◌≡◌, ◌≢◌, ℕ, zero, suc, ◌+◌, ◌^◌, ◌<◌, Bool, true, false, List, [], ◌∷◌, ◌++◌, length, drop, refl, sym, ap, subst, ◌∙◌, append_assoc, arith}
use Rattle.std.specs.Prelude.{not, ◌||◌, Result, Ok, flat_map}
use Rattle.std.specs.Bool.{Decides}
use Rattle.std.specs.List.{list_any, AllByRecursion}
use Rattle.std.specs.Str.{bytes_eq}
use Rattle.std.specs.Int.{w16, to_be_bytes}
use Rattle.std.proofs.lemmas.Bool.Decides.{not_from_Decides, Decides-int_eq}
use Rattle.std.proofs.lemmas.Slice.Eq.{bytes_eq-Decides}
use Rattle.std.proofs.lemmas.List.{append-nil, length-append}
use Rattle.std.proofs.lemmas.List.Concat.{flat_map-cons}
use Rattle.std.proofs.lemmas.List.Elements.{All-from_recursion, recursion_from_All}
use Rattle.rite_code.specs.Code.{AreDistinct}
use Rattle.rite_code.specs.declared.code.CatchEntry.{CatchEntry}
use Rattle.rite_code.specs.declared.code.PoolItem.TheVariants.{Int, Text}
use Rattle.rite_file.specs.declared.error.LoadError.{LoadError}
use Rattle.rite_file.specs.File.{text, catch_entry, pool_item, counted, IsHeldEntry}
use Rattle.rb_base.specs.Result.{◌>>=◌}
use Rattle.rite_file.specs.Record.{Reader, guarded, number_at, text_at, item_at, catch_at, list_at, any, is_new, item_eq, catches_at, pool_at, symbols_at}
use Rattle.rite_file.proofs.Fields.{IsBytes, bind_ok, guard_ok, not-true, ok_is, Takes, Takes-then, rest_at, IsField, wide16, number_field, IsShort, text_field}
use Rattle.rite_file.proofs.Parts.{catch_field, FitsItem, item_field}

-- ---- so many values

-- values that each fit to those before them
abbrev pub Goes : {A : Type 0} → (List A → A → Bool) → List A → List A → Type 0
Goes fits seen [] = Unit {0}
Goes fits seen (x ∷ xs) = (fits seen x ≡ true) × Goes fits (seen ++ x ∷ []) xs

-- what stands between two places
pub record IsList {A : Type 0} (spelled : A → List ℕ) (Fits : A → Type 0) (fits : List A → A → Bool) (seen : List A)
    (n : ℕ) (bytes : List ℕ) (at : ℕ) (xs : List A) (next : ℕ) : Type 0 where
  pub takes : Takes bytes at (flat_map spelled xs) next
  pub count : length xs ≡ n
  pub each : AllByRecursion Fits xs
  pub goes : Goes fits seen xs

abbrev Found : {A : Type 0} → (A → List ℕ) → (A → Type 0) → (List A → A → Bool) → List A → ℕ → List ℕ → ℕ → List A × ℕ
    → Type 0
Found {A} spelled Fits fits seen n bytes at y = (xs : List A) × (y.0 ≡ seen ++ xs) × IsList spelled Fits fits seen n
    bytes at xs y.1

pub list_takes : {A : Type 0} (spelled : A → List ℕ) (Fits : A → Type 0) (read : Reader A) → IsField spelled Fits read
    → (fits : List A → A → Bool) (n : ℕ) (seen : List A) (bytes : List ℕ) (at : ℕ) (y : List A × ℕ) → IsBytes bytes
    → list_at fits read seen n bytes at ≡ Ok y → Found spelled Fits fits seen n bytes at y
unfolding list_at
list_takes spelled Fits read field fits zero seen bytes at y are e =
    subst (Found spelled Fits fits seen 0 bytes at) (ok_is (seen, at) y e) (
      [],
      sym (append-nil seen),
      record {
        takes = record { parts = refl; place = omega arith };
        count = refl;
        each = tt;
        goes = tt;
      },
    )
list_takes {A} spelled Fits read field fits (suc n) seen bytes at y are e =
    let second : A × ℕ → Result (List A × ℕ) LoadError = λ z. list_at fits read (seen ++ z.0 ∷ []) n bytes z.1 in
    let first : A × ℕ → Result (List A × ℕ) LoadError = λ x. guarded (fits seen x.0) at x >>= second in
    let a = bind_ok (read bytes at) first y e in
    let b = bind_ok (guarded (fits seen a.0.0) at a.0) second y a.2 in
    let g = guard_ok (fits seen a.0.0) at a.0 b.0 b.1 in
    let rest : list_at fits read (seen ++ a.0.0 ∷ []) n bytes a.0.1 ≡ Ok y = ap second g.1 ∙ b.2 in
    let t = field.takes bytes at a.0.0 a.0.1 are a.1 in
    let others = list_takes spelled Fits read field fits n (seen ++ a.0.0 ∷ []) bytes a.0.1 y are rest in
    let l = others.2 in
    let joined : Takes bytes at (flat_map spelled (a.0.0 ∷ others.0)) y.1 =
    rw flat_map-cons (Takes-then bytes at (spelled a.0.0) a.0.1 (flat_map spelled others.0) y.1 t.0 l.takes) in (
      a.0.0 ∷ others.0,
      others.1 ∙ append_assoc seen (a.0.0 ∷ []) others.0,
      record {
        takes = joined;
        count = ap suc l.count;
        each = (t.1, l.each);
        goes = (g.0, l.goes);
      },
    )

pub list_again : {A : Type 0} (spelled : A → List ℕ) (Fits : A → Type 0) (read : Reader A) → IsField spelled Fits read
    → (fits : List A → A → Bool) (xs seen : List A) (bytes : List ℕ) (at : ℕ) (rest : List ℕ) → AllByRecursion Fits xs
    → Goes fits seen xs
    → drop at bytes ≡ flat_map spelled xs ++ rest
    → list_at fits read seen (length xs) bytes at ≡ Ok (seen ++ xs, at + length (flat_map spelled xs))
unfolding list_at
list_again spelled Fits read field fits [] seen bytes at rest each goes e =
    rw append-nil (ap (λ (k : ℕ). Ok (seen, k)) (omega arith))
list_again spelled Fits read field fits (x ∷ xs) seen bytes at rest each goes e =
    let parts : drop at bytes ≡ spelled x ++ (flat_map spelled xs ++ rest) = e
    ∙ ap (λ (t : List ℕ). t ++ rest) (flat_map-cons spelled x xs)
    ∙ append_assoc (spelled x) (flat_map spelled xs) rest in
    let r = field.again bytes at x (flat_map spelled xs ++ rest) each.0 parts in
    let others = list_again spelled Fits read field fits xs (seen ++ x ∷ []) bytes (at + length (spelled x)) rest
    each.1 goes.1 (rest_at bytes at (spelled x) (flat_map spelled xs ++ rest) parts) in
    let all : (seen ++ x ∷ []) ++ xs ≡ seen ++ x ∷ xs = append_assoc seen (x ∷ []) xs in
    let len : at + length (spelled x) + length (flat_map spelled xs) ≡ at + length (flat_map spelled (x ∷ xs)) =
    rw flat_map-cons (omega (arith, length-append (spelled x) (flat_map spelled xs))) in
    rw (r, goes.0, others, all, len) refl

-- ---- values without doubles

abbrev Each : {A : Type 0} → (A → Type 0) → List A → Type 0
Each P xs = AllByRecursion P xs

each_zip : {A : Type 0} (P Q R : A → Type 0) → ((x : A) → P x → Q x → R x) → (xs : List A) → Each P xs → Each Q xs
    → Each R xs
each_zip P Q R f [] h k = tt
each_zip P Q R f (x ∷ xs) h k = (f x h.0 k.0, each_zip P Q R f xs h.1 k.1)

each_map : {A : Type 0} (P Q : A → Type 0) → ((x : A) → P x → Q x) → (xs : List A) → Each P xs → Each Q xs
each_map P Q f [] h = tt
each_map P Q f (x ∷ xs) h = (f x h.0, each_map P Q f xs h.1)

each_true : {A : Type 0} (P : A → Type 0) → ((x : A) → P x) → (xs : List A) → Each P xs
each_true P f [] = tt
each_true P f (x ∷ xs) = (f x, each_true P f xs)

each_left : {A : Type 0} (P : A → Type 0) (xs ys : List A) → Each P (xs ++ ys) → Each P xs
each_left P [] ys h = tt
each_left P (x ∷ xs) ys h = (h.0, each_left P xs ys h.1)

each_right : {A : Type 0} (P : A → Type 0) (xs ys : List A) → Each P (xs ++ ys) → Each P ys
each_right P [] ys h = h
each_right P (x ∷ xs) ys h = each_right P xs ys h.1

each_append : {A : Type 0} (P : A → Type 0) (xs ys : List A) → Each P xs → Each P ys → Each P (xs ++ ys)
each_append P [] ys h k = k
each_append P (x ∷ xs) ys h k = (h.0, each_append P xs ys h.1 k)

or_false : (a b : Bool) → (a || b) ≡ false → (a ≡ false) × (b ≡ false)
or_false true b h = absurd cc
or_false false b h = (refl, h)

none_passes : {A : Type 0} (p : A → Bool) (xs : List A) → list_any p xs ≡ false → Each (λ x. p x ≡ false) xs
none_passes p [] h = tt
none_passes p (x ∷ xs) h = let o = or_false (p x) (list_any p xs) h in (o.0, none_passes p xs o.1)

any_none : {A : Type 0} (p : A → Bool) (xs : List A) → Each (λ x. p x ≡ false) xs → list_any p xs ≡ false
any_none p [] h = refl
any_none p (x ∷ xs) h = rw (h.0, any_none p xs h.1) refl

-- a test that tells whether two values are equal
abbrev pub Tells : {A : Type 0} → (A → A → Bool) → Type 0
Tells {A} eq = (x y : A) → Decides (eq x y) (x ≡ y)

-- each of some values differs from each of others
abbrev Apart : {A : Type 0} → List A → List A → Type 0
Apart seen xs = Each (λ s. Each (λ y. s ≢ y) xs) seen

differ : {A : Type 0} (eq : A → A → Bool) → Tells eq → (seen : List A) (x : A) → is_new eq seen x ≡ true
    → Each (λ s. s ≢ x) seen
differ eq tells seen x h =
    each_map (λ s. eq s x ≡ false) (λ s. s ≢ x) (λ s e. not_from_Decides (eq s x) (tells s x) e) seen
    (none_passes (λ y. eq y x) seen (not-true _ h))

false_from : {P : Type 0} (b : Bool) → Decides b P → (P → ⊥) → b ≡ false
false_from true d h = absurd (h (d.0 refl))
false_from false d h = refl

new_from : {A : Type 0} (eq : A → A → Bool) → Tells eq → (seen : List A) (x : A) → Each (λ s. s ≢ x) seen
    → is_new eq seen x ≡ true
new_from eq tells seen x h =
    ap not (any_none (λ y. eq y x) seen
    (each_map (λ s. s ≢ x) (λ s. eq s x ≡ false) (λ s k. false_from (eq s x) (tells s x) k) seen h))

goes_apart : {A : Type 0} (eq : A → A → Bool) → Tells eq → (xs seen : List A) → Goes (is_new eq) seen xs
    → Apart seen xs × AreDistinct xs
goes_apart eq tells [] seen g = (each_true _ (λ s. tt) seen, tt)
goes_apart eq tells (x ∷ xs) seen g =
    let first = differ eq tells seen x g.0 in
    let later = goes_apart eq tells xs (seen ++ x ∷ []) g.1 in
    let before = each_left (λ s. Each (λ y. s ≢ y) xs) seen (x ∷ []) later.0 in
    let own = (each_right (λ s. Each (λ y. s ≢ y) xs) seen (x ∷ []) later.0).0 in (
      each_zip (λ s. s ≢ x) (λ s. Each (λ y. s ≢ y) xs) (λ s. Each (λ y. s ≢ y) (x ∷ xs)) (λ s p q. (p, q)) seen first
          before,
      (All-from_recursion (λ y. x ≢ y) xs own, later.1),
    )

goes_from : {A : Type 0} (eq : A → A → Bool) → Tells eq → (xs seen : List A) → Apart seen xs → AreDistinct xs
    → Goes (is_new eq) seen xs
goes_from eq tells [] seen apart distinct = tt
goes_from eq tells (x ∷ xs) seen apart distinct =
    let first = each_map (λ s. Each (λ y. s ≢ y) (x ∷ xs)) (λ s. s ≢ x) (λ s h. h.0) seen apart in
    let before = each_map (λ s. Each (λ y. s ≢ y) (x ∷ xs)) (λ s. Each (λ y. s ≢ y) xs) (λ s h. h.1) seen apart in
    let own = recursion_from_All (λ y. x ≢ y) xs distinct.0 in (
      new_from eq tells seen x first,
      goes_from eq tells xs (seen ++ x ∷ []) (each_append (λ s. Each (λ y. s ≢ y) xs) seen (x ∷ []) before
          (own, tt)) distinct.1,
    )

pub distinct : {A : Type 0} (eq : A → A → Bool) → Tells eq → (xs : List A) → Goes (is_new eq) [] xs → AreDistinct xs
distinct eq tells xs g = (goes_apart eq tells xs [] g).1

pub from_distinct : {A : Type 0} (eq : A → A → Bool) → Tells eq → (xs : List A) → AreDistinct xs
    → Goes (is_new eq) [] xs
from_distinct eq tells xs h = goes_from eq tells xs [] tt h

goes_any : {A : Type 0} (xs seen : List A) → Goes any seen xs
goes_any [] seen = tt
goes_any (x ∷ xs) seen = (refl, goes_any xs (seen ++ x ∷ []))

item_tells : Tells item_eq
item_tells (Int m) (Int n) = let d = Decides-int_eq m n in ((λ e. ap Int (d.0 e)), (λ e. d.1 cc))
item_tells (Text x) (Text y) = let d = bytes_eq-Decides x y in ((λ e. ap Text (d.0 e)), (λ e. d.1 cc))
item_tells (Int m) (Text y) = ((λ e. absurd cc), (λ e. absurd cc))
item_tells (Text x) (Int n) = ((λ e. absurd cc), (λ e. absurd cc))

-- ---- catch entries

pub catches_take : (n : ℕ) (bytes : List ℕ) (at : ℕ) (xs : List CatchEntry) (next : ℕ) → IsBytes bytes
    → catches_at n bytes at ≡ Ok (xs, next)
    → Takes bytes at (flat_map catch_entry xs) next × ((length xs ≡ n) × AllByRecursion IsHeldEntry xs)
unfolding catches_at
catches_take n bytes at xs next are e =
    let f = list_takes catch_entry IsHeldEntry catch_at catch_field any n [] bytes at (xs, next) are e in
    rw f.1 (f.2.takes, (f.2.count, f.2.each))

pub catches_again : (bytes : List ℕ) (at : ℕ) (xs : List CatchEntry) (rest : List ℕ) → AllByRecursion IsHeldEntry xs
    → drop at bytes ≡ flat_map catch_entry xs ++ rest
    → catches_at (length xs) bytes at ≡ Ok (xs, at + length (flat_map catch_entry xs))
unfolding catches_at
catches_again bytes at xs rest each e = list_again catch_entry IsHeldEntry catch_at catch_field any xs [] bytes at
    rest each (goes_any xs []) e

-- ---- a count, and so many values without doubles

pub record AreCounted {A : Type 0} (Fits : A → Type 0) (xs : List A) : Type 0 where
  pub count : length xs < 2 ^ 16
  pub each : AllByRecursion Fits xs
  pub distinct : AreDistinct xs

abbrev counted_at : {A : Type 0} → (A → A → Bool) → Reader A → Reader (List A)
counted_at eq read bytes at = number_at w16 bytes at >>= λ n. list_at (is_new eq) read [] n.0 bytes n.1

two : IsField (to_be_bytes w16) (λ n. n < 2 ^ 16) (number_at w16)
two = number_field w16 (2 ^ 16) wide16

counted_takes : {A : Type 0} (spelled : A → List ℕ) (Fits : A → Type 0) (read : Reader A) → IsField spelled Fits read
    → (eq : A → A → Bool) → Tells eq → (bytes : List ℕ) (at : ℕ) (xs : List A) (next : ℕ) → IsBytes bytes
    → counted_at eq read bytes at ≡ Ok (xs, next) → Takes bytes at (counted spelled xs) next × AreCounted Fits xs
counted_takes {A} spelled Fits read field eq tells bytes at xs next are e =
    let n = bind_ok (number_at w16 bytes at) (λ n. list_at (is_new eq) read [] n.0 bytes n.1) (xs, next) e in
    let t = two.takes bytes at n.0.0 n.0.1 are n.1 in
    let f = list_takes spelled Fits read field (is_new eq) n.0.0 [] bytes n.0.1 (xs, next) are n.2 in
    let whole = Takes-then bytes at (to_be_bytes w16 n.0.0) n.0.1 (flat_map spelled f.0) next t.0 f.2.takes in
    let same : Takes bytes at (counted spelled f.0) next =
    subst (λ (k : ℕ). Takes bytes at (to_be_bytes w16 k ++ flat_map spelled f.0) next) (sym f.2.count) whole in
    let fit : AreCounted Fits f.0 = record {
      count = omega (arith, f.2.count, t.1);
      each = f.2.each;
      distinct = distinct eq tells f.0 f.2.goes;
    } in
    rw f.1 (same, fit)

counted_again : {A : Type 0} (spelled : A → List ℕ) (Fits : A → Type 0) (read : Reader A) → IsField spelled Fits read
    → (eq : A → A → Bool) → Tells eq → (bytes : List ℕ) (at : ℕ) (xs : List A) (rest : List ℕ)
    → AreCounted Fits xs → drop at bytes ≡ counted spelled xs ++ rest
    → counted_at eq read bytes at ≡ Ok (xs, at + length (counted spelled xs))
counted_again spelled Fits read field eq tells bytes at xs rest fit e =
    let parts : drop at bytes ≡ to_be_bytes w16 (length xs) ++ (flat_map spelled xs ++ rest) = e
    ∙ append_assoc (to_be_bytes w16 (length xs)) (flat_map spelled xs) rest in
    let n = two.again bytes at (length xs) (flat_map spelled xs ++ rest) fit.count parts in
    let l = list_again spelled Fits read field (is_new eq) xs [] bytes (at + 2) rest fit.each
    (from_distinct eq tells xs fit.distinct)
    (rest_at bytes at (to_be_bytes w16 (length xs)) (flat_map spelled xs ++ rest) parts) in
    rw (n, l) (ap (λ (k : ℕ). Ok (xs, k)) (omega arith))

pub pool_field : IsField (counted pool_item) (AreCounted FitsItem) pool_at
unfolding pool_at
pool_field = record {
  takes = counted_takes pool_item FitsItem item_at item_field item_eq item_tells;
  again = counted_again pool_item FitsItem item_at item_field item_eq item_tells;
}

pub symbols_field : IsField (counted text) (AreCounted IsShort) symbols_at
unfolding symbols_at
symbols_field = record {
  takes = counted_takes text IsShort text_at text_field bytes_eq bytes_eq-Decides;
  again = counted_again text IsShort text_at text_field bytes_eq bytes_eq-Decides;
}
