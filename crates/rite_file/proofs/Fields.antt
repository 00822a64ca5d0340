-- A field that is read is the field that was written, and what was written is read again.
use Rattle.std.proofs.Common.{◌≡◌, ℕ, ◌+◌, ◌-◌, ◌^◌, ◌<◌, ◌≤◌, Bool, true, false, ltb, List, [], ◌∷◌, ◌++◌, length, get_or, take, drop, refl, sym, ap, subst, ◌∙◌, append_assoc, arith, inl, inr}
use Rattle.std.specs.Prelude.{not, Result, Ok, Err, ℤ, pos, negsuc}
use Rattle.std.specs.Int.{Width, w8, w16, w32, w64, byte_len, from_be_bytes, to_be_bytes, cast_signed, cast_unsigned}
use Rattle.std.proofs.lemmas.Bool.{cases_lt, ltb-false, lt-ltb, le-ltb}
use Rattle.std.proofs.lemmas.List.{take_at, drop_at, drop-drop, take-append-drop, length-append, length-take, length-drop, get_or-drop, get_or-take, get_or_past}
use Rattle.std.proofs.lemmas.Nat.{be_bytes_2, be_bytes_4, be_bytes_8, from_be_bytes-to_be_bytes_2, from_be_bytes-to_be_bytes_4, from_be_bytes-to_be_bytes_8}
use Rattle.std.proofs.lemmas.Int.{to_z-of_z, of_z-to_z}
use mir.Val.{SFits}
use Rattle.rite_file.specs.declared.error.LoadError.{LoadError}
use Rattle.rite_file.specs.File.{text, IsInteger}
use Rattle.rb_base.specs.Result.{◌>>=◌}
use Rattle.rite_file.specs.Record.{Reader, guarded, bytes_at, number_at, tested_at, text_at, int_at}

abbrev pub IsBytes : List ℕ → Type 0
IsBytes bytes = (i : ℕ) → get_or bytes i 0 < 256

pub IsBytes-drop : (n : ℕ) (bytes : List ℕ) → IsBytes bytes → IsBytes (drop n bytes)
IsBytes-drop n bytes h i = rw get_or-drop (h (n + i))

pub IsBytes-take : (n : ℕ) (bytes : List ℕ) → IsBytes bytes → IsBytes (take n bytes)
IsBytes-take n bytes h i =
    elim (cases_lt i n) [
      | inl lt ↦ rw (get_or-take n bytes i 0 lt) (h i)
      | inr le ↦ rw (get_or_past (take n bytes) i 0 (omega (arith, length-take n bytes))) (omega arith)
    ]

-- ---- steps that did not fail

pub bind_ok : {A B : Type 0} (r : Result A LoadError) (f : A → Result B LoadError) (y : B) → (r >>= f) ≡ Ok y
    → (x : A) × (r ≡ Ok x) × (f x ≡ Ok y)
bind_ok (Ok x) f y e = (x, refl, e)
bind_ok (Err x) f y e = absurd cc

pub guard_ok : {A : Type 0} (b : Bool) (at : ℕ) (x y : A) → guarded b at x ≡ Ok y → (b ≡ true) × (x ≡ y)
guard_ok true at x y e = (refl, cc)
guard_ok false at x y e = absurd cc

pub not-true : (b : Bool) → not b ≡ true → b ≡ false
not-true true h = absurd cc
not-true false h = refl

abbrev done : {A : Type 0} → A → Result A LoadError
done x = Ok x

pub ok_is : {A : Type 0} (x y : A) → done x ≡ done y → x ≡ y
ok_is x y e = cc

-- ---- places

-- a piece of the text between two places
pub record Takes (text : List ℕ) (at : ℕ) (piece : List ℕ) (next : ℕ) : Type 0 where
  pub parts : drop at text ≡ piece ++ drop next text
  pub place : next ≡ at + length piece

pub rest_at : (text : List ℕ) (at : ℕ) (piece rest : List ℕ) → drop at text ≡ piece ++ rest
    → drop (at + length piece) text ≡ rest
rest_at text at piece rest e = sym (drop-drop (length piece) at text) ∙ ap (drop (length piece)) e
    ∙ drop_at piece rest (length piece) refl

pub Takes-from : (text : List ℕ) (at : ℕ) (piece rest : List ℕ) → drop at text ≡ piece ++ rest
    → Takes text at piece (at + length piece)
Takes-from text at piece rest e = record { parts = rw (rest_at text at piece rest e) e; place = refl }

pub Takes-then : (text : List ℕ) (a : ℕ) (x : List ℕ) (b : ℕ) (y : List ℕ) (c : ℕ) → Takes text a x b
    → Takes text b y c → Takes text a (x ++ y) c
Takes-then text a x b y c p q = record {
  parts = p.parts ∙ ap (λ (t : List ℕ). x ++ t) q.parts ∙ sym (append_assoc x y (drop c text));
  place = omega (arith, p.place, q.place, length-append x y);
}

-- ---- fields

-- what is read is spelled so, and what is spelled so is read
pub record IsField {A : Type 0} (spelled : A → List ℕ) (Fits : A → Type 0) (read : Reader A) : Type 0 where
  pub takes : (text : List ℕ) (at : ℕ) (x : A) (next : ℕ) → IsBytes text → read text at ≡ Ok (x, next)
      → Takes text at (spelled x) next × Fits x
  pub again : (text : List ℕ) (at : ℕ) (x : A) (rest : List ℕ) → Fits x → drop at text ≡ spelled x ++ rest
      → read text at ≡ Ok (x, at + length (spelled x))

-- ---- bytes

pub bytes_take : (n : ℕ) (text : List ℕ) (at : ℕ) (x : List ℕ) (next : ℕ) → bytes_at n text at ≡ Ok (x, next)
    → Takes text at x next × ((length x ≡ n) × (x ≡ take n (drop at text)))
unfolding bytes_at
bytes_take n text at x next e =
    let g = guard_ok (not (ltb (length text - at) n)) at (take n (drop at text), at + n) (x, next) e in
    let long : n ≤ length text - at = ltb-false _ _ (not-true _ g.0) in
    let x-is : take n (drop at text) ≡ x = ap (λ (p : List ℕ × ℕ). p.0) g.1 in
    let next-is : at + n ≡ next = ap (λ (p : List ℕ × ℕ). p.1) g.1 in
    let len : length x ≡ n = ap length (sym x-is)
    ∙ omega (arith, long, length-take n (drop at text), length-drop at text) in
    let parts : drop at text ≡ x ++ drop next text = sym (take-append-drop n (drop at text))
    ∙ ap (λ (t : List ℕ). t ++ drop n (drop at text)) x-is
    ∙ ap (λ (t : List ℕ). x ++ t) (drop-drop n at text ∙ ap (λ (k : ℕ). drop k text) next-is) in
    (record { parts = parts; place = omega (arith, next-is, len) }, (len, sym x-is))

pub bytes_again : (n : ℕ) (text : List ℕ) (at : ℕ) (x rest : List ℕ) → length x ≡ n → drop at text ≡ x ++ rest
    → bytes_at n text at ≡ Ok (x, at + n)
unfolding bytes_at
bytes_again n text at x rest len e =
    let long : ltb (length text - at) n ≡ false =
    le-ltb _ _ (omega (arith, len, length-drop at text, ap length e, length-append x rest)) in
    rw (long, e, take_at x rest n len) refl

-- ---- numbers

pub record IsWide (w : Width) (limit : ℕ) : Type 0 where
  pub len : (n : ℕ) → length (to_be_bytes w n) ≡ byte_len w
  pub back : (bytes : List ℕ) → length bytes ≡ byte_len w → IsBytes bytes
      → to_be_bytes w (from_be_bytes w bytes) ≡ bytes
  pub again : (n : ℕ) → n < limit → from_be_bytes w (to_be_bytes w n) ≡ n
  pub below : (bytes : List ℕ) → IsBytes bytes → from_be_bytes w bytes < limit

one_back : (bytes : List ℕ) → length bytes ≡ 1 → IsBytes bytes → to_be_bytes w8 (from_be_bytes w8 bytes) ≡ bytes
one_back [] len fits = absurd cc
one_back (x ∷ []) len fits = let h = fits 0 in ap (λ (n : ℕ). n ∷ []) (omega (arith, h))
one_back (x ∷ (y ∷ ys)) len fits = absurd (omega (arith, len))

pub wide8 : IsWide w8 256
wide8 = record {
  len = λ n. refl;
  back = one_back;
  again = λ n lt. omega (arith, lt);
  below = λ bytes fits. omega (arith, fits 0);
}

pub wide16 : IsWide w16 (2 ^ 16)
wide16 = record {
  len = λ n. refl;
  back = λ bytes len fits. be_bytes_2 bytes _ len fits refl;
  again = λ n lt. from_be_bytes-to_be_bytes_2 n lt;
  below = λ bytes fits. omega (arith, fits 0, fits 1);
}

pub wide32 : IsWide w32 (2 ^ 32)
wide32 = record {
  len = λ n. refl;
  back = λ bytes len fits. be_bytes_4 bytes _ len fits refl;
  again = λ n lt. from_be_bytes-to_be_bytes_4 n lt;
  below = λ bytes fits. omega (arith, fits 0, fits 1, fits 2, fits 3);
}

pub wide64 : IsWide w64 (2 ^ 64)
wide64 = record {
  len = λ n. refl;
  back = λ bytes len fits. be_bytes_8 bytes _ len fits refl;
  again = λ n lt. from_be_bytes-to_be_bytes_8 n lt;
  below = λ bytes fits. omega (arith, fits 0, fits 1, fits 2, fits 3, fits 4, fits 5, fits 6, fits 7);
}

abbrev Read : Type 0 → Type 0
Read A = A × ℕ

number_takes : (w : Width) (limit : ℕ) → IsWide w limit → (text : List ℕ) (at n next : ℕ) → IsBytes text
    → number_at w text at ≡ Ok (n, next) → Takes text at (to_be_bytes w n) next × (n < limit)
unfolding number_at
number_takes w limit wide text at n next fits e =
    let b = bind_ok (bytes_at (byte_len w) text at) (λ x. Ok (from_be_bytes w x.0, x.1)) (n, next) e in
    let t = bytes_take (byte_len w) text at b.0.0 b.0.1 b.1 in
    let x-fits : IsBytes b.0.0 = subst IsBytes (sym t.1.1)
    (IsBytes-take (byte_len w) (drop at text) (IsBytes-drop at text fits)) in
    let same : (from_be_bytes w b.0.0, b.0.1) ≡ (n, next) = ok_is (from_be_bytes w b.0.0, b.0.1) (n, next) b.2 in
    let whole : Takes text at (to_be_bytes w (from_be_bytes w b.0.0)) b.0.1 = rw (wide.back b.0.0 t.1.0 x-fits) t.0 in
    subst (λ (p : ℕ × ℕ). Takes text at (to_be_bytes w p.0) p.1 × (p.0 < limit)) same (whole, wide.below b.0.0 x-fits)

number_again : (w : Width) (limit : ℕ) → IsWide w limit → (text : List ℕ) (at n : ℕ) (rest : List ℕ) → n < limit
    → drop at text ≡ to_be_bytes w n ++ rest → number_at w text at ≡ Ok (n, at + length (to_be_bytes w n))
unfolding number_at
number_again w limit wide text at n rest lt e =
    rw (bytes_again (byte_len w) text at (to_be_bytes w n) rest (wide.len n) e, wide.again n lt, wide.len n) refl

pub number_field : (w : Width) (limit : ℕ) → IsWide w limit → IsField (to_be_bytes w) (λ n. n < limit) (number_at w)
number_field w limit wide = record { takes = number_takes w limit wide; again = number_again w limit wide }

abbrev pub IsTested : ℕ → (ℕ → Bool) → ℕ → Type 0
IsTested limit test n = (n < limit) × (test n ≡ true)

tested_takes : (w : Width) (limit : ℕ) → IsWide w limit → (test : ℕ → Bool) (text : List ℕ) (at n next : ℕ)
    → IsBytes text → tested_at w test text at ≡ Ok (n, next)
    → Takes text at (to_be_bytes w n) next × IsTested limit test n
unfolding tested_at
tested_takes w limit wide test text at n next fits e =
    let b = bind_ok (number_at w text at) (λ m. guarded (test m.0) at m) (n, next) e in
    let g = guard_ok (test b.0.0) at b.0 (n, next) b.2 in
    let t = number_takes w limit wide text at b.0.0 b.0.1 fits b.1 in
    subst (λ (p : ℕ × ℕ). Takes text at (to_be_bytes w p.0) p.1 × IsTested limit test p.0) g.1 (t.0, (t.1, g.0))

tested_again : (w : Width) (limit : ℕ) → IsWide w limit → (test : ℕ → Bool) (text : List ℕ) (at n : ℕ) (rest : List ℕ)
    → IsTested limit test n → drop at text ≡ to_be_bytes w n ++ rest
    → tested_at w test text at ≡ Ok (n, at + length (to_be_bytes w n))
unfolding tested_at
tested_again w limit wide test text at n rest h e = rw (number_again w limit wide text at n rest h.0 e, h.1) refl

pub tested_field : (w : Width) (limit : ℕ) → IsWide w limit → (test : ℕ → Bool)
    → IsField (to_be_bytes w) (IsTested limit test) (tested_at w test)
tested_field w limit wide test = record {
  takes = tested_takes w limit wide test;
  again = tested_again w limit wide test;
}

-- ---- texts

abbrev pub IsShort : List ℕ → Type 0
IsShort bytes = length bytes < 2 ^ 32

text_takes : (bytes : List ℕ) (at : ℕ) (x : List ℕ) (next : ℕ) → IsBytes bytes → text_at bytes at ≡ Ok (x, next)
    → Takes bytes at (text x) next × IsShort x
unfolding text_at
text_takes bytes at x next fits e =
    let b = bind_ok (number_at w32 bytes at) (λ n. bytes_at n.0 bytes n.1) (x, next) e in
    let t = number_takes w32 (2 ^ 32) wide32 bytes at b.0.0 b.0.1 fits b.1 in
    let u = bytes_take b.0.0 bytes b.0.1 x next b.2 in
    let whole = Takes-then bytes at (to_be_bytes w32 b.0.0) b.0.1 x next t.0 u.0 in
    (subst (λ (k : ℕ). Takes bytes at (to_be_bytes w32 k ++ x) next) (sym u.1.0) whole, omega (arith, t.1, u.1.0))

text_again : (bytes : List ℕ) (at : ℕ) (x rest : List ℕ) → IsShort x → drop at bytes ≡ text x ++ rest
    → text_at bytes at ≡ Ok (x, at + length (text x))
unfolding text_at
text_again bytes at x rest lt e =
    let parts : drop at bytes ≡ to_be_bytes w32 (length x) ++ (x ++ rest) = e
    ∙ append_assoc (to_be_bytes w32 (length x)) x rest in
    let inside = rest_at bytes at (to_be_bytes w32 (length x)) (x ++ rest) parts in
    let n = number_again w32 (2 ^ 32) wide32 bytes at (length x) (x ++ rest) lt parts in
    rw (n, bytes_again (length x) bytes (at + 4) x rest refl inside) (ap (λ (k : ℕ). Ok (x, k)) (omega arith))

pub text_field : IsField text IsShort text_at
text_field = record { takes = text_takes; again = text_again }

-- ---- integers

abbrev pub integer : ℤ → List ℕ
integer n = to_be_bytes w64 (cast_unsigned w64 n)

sfits : (z : ℤ) → IsInteger z → SFits w64 z
sfits (pos n) h = record { sfits = omega (arith, h) }
sfits (negsuc n) h = record { sfits = omega (arith, h) }

bits : (z : ℤ) → IsInteger z → cast_unsigned w64 z < 2 ^ 64
bits (pos n) h = omega (arith, h)
bits (negsuc n) h = omega arith

signed : (n : ℕ) → n < 2 ^ 64 → IsInteger (cast_signed w64 n)
signed n h =
    elim (cases_lt n 9223372036854775808) [
      | inl lt ↦ rw (lt-ltb n 9223372036854775808 lt) (omega (arith, lt))
      | inr le ↦ rw (le-ltb n 9223372036854775808 le) (omega (arith, le, h))
    ]

int_takes : (text : List ℕ) (at : ℕ) (z : ℤ) (next : ℕ) → IsBytes text → int_at text at ≡ Ok (z, next)
    → Takes text at (integer z) next × IsInteger z
unfolding int_at
int_takes text at z next fits e =
    let b = bind_ok (number_at w64 text at) (λ n. Ok (cast_signed w64 n.0, n.1)) (z, next) e in
    let t = number_takes w64 (2 ^ 64) wide64 text at b.0.0 b.0.1 fits b.1 in
    let same : (cast_signed w64 b.0.0, b.0.1) ≡ (z, next) = ok_is (cast_signed w64 b.0.0, b.0.1) (z, next) b.2 in
    let whole : Takes text at (integer (cast_signed w64 b.0.0)) b.0.1 = rw (of_z-to_z w64 b.0.0 t.1) t.0 in
    subst (λ (p : ℤ × ℕ). Takes text at (integer p.0) p.1 × IsInteger p.0) same (whole, signed b.0.0 t.1)

int_again : (text : List ℕ) (at : ℕ) (z : ℤ) (rest : List ℕ) → IsInteger z → drop at text ≡ integer z ++ rest
    → int_at text at ≡ Ok (z, at + length (integer z))
unfolding int_at
int_again text at z rest h e = rw (
  number_again w64 (2 ^ 64) wide64 text at (cast_unsigned w64 z) rest (bits z h) e,
  to_z-of_z w64 z (sfits z h),
) refl

pub int_field : IsField integer IsInteger int_at
int_field = record { takes = int_takes; again = int_again }
