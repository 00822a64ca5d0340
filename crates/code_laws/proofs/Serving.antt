-- Instructions whose operands are there.
use Rattle.std.proofs.Common.{◌≡◌, ◌<◌, ◌≤◌, ℕ, suc, ◌+◌, ℤ, List, [], ◌∷◌, length, arith, refl, ap, Bool, true, false, bytes_eq, nat_lt, nat_le, if◌then◌else◌, ◌&&◌}
use Rattle.std.specs.Prelude.{Option, None, position, not, ◌||◌}
use Rattle.std.specs.List.{list_all, position_or_len}
use Rattle.std.specs.Ordering.{int_eq}
use Rattle.std.proofs.lemmas.Bool.{lt-ltb, and_from}
use Rattle.rite_code.specs.declared.operation.Operation.{Operation}
use Rattle.rite_code.specs.declared.operation.Operation.TheVariants as op
use Rattle.rite_code.specs.Shape.{fits, fits_as, is_two_bytes}
use Rattle.text_set.specs.Sets.{is_among}
use Rattle.integer_set.specs.Sets as integers
use Rattle.code_outline.specs.Makers.{maker_of}
use Rattle.code_verifier.specs.Needs.{registers_of, symbols_of, entry_of, distance_of, variable_of, count_of, parameters_of}
use Rattle.code_verifier.specs.Checks.{entry_holds, variable_holds, place_holds}
use Rattle.code_verifier.specs.Plain.{is_plain}
use Rattle.gen_parts.specs.Assembly.{shortest}
use Rattle.gen_forms.specs.Gen.{place_or}
use Rattle.code_laws.proofs.Serves.{Room, Serves, items_of}

-- ## Operands

pub small : (n : ℕ) → n ≤ 65535 → is_two_bytes n ≡ true
small n h = lt-ltb n 65536 (omega (arith, h))

pub two_small : (a b : ℕ) → a ≤ 65535 → b ≤ 65535 → (is_two_bytes a && is_two_bytes b) ≡ true
two_small a b h k = and_from (is_two_bytes a) (is_two_bytes b) (small a h) (small b k)

pub three_small : (a b c : ℕ) → a ≤ 65535 → b ≤ 65535 → c ≤ 65535
    → (is_two_bytes a && is_two_bytes b && is_two_bytes c) ≡ true
three_small a b c h k l = and_from (is_two_bytes a && is_two_bytes b) (is_two_bytes c) (two_small a b h k) (small c l)

-- the shortest instruction fits where the wide one does
pub wide_fits : (o : Operation) → fits_as true o ≡ true → fits (shortest o) ≡ true
wide_fits o h = at (fits_as false o) refl
  where
    at : (b : Bool) → fits_as false o ≡ b → fits_as (not b) o ≡ true
    at true e = e
    at false e = h

pub symbol_there : (i n : ℕ) → i < n → list_all (λ (k : ℕ). nat_lt k n) (i ∷ []) ≡ true
symbol_there i n h = rw (lt-ltb i n h) refl

pub two_symbols_there : (i j n : ℕ) → i < n → j < n → list_all (λ (k : ℕ). nat_lt k n) (i ∷ j ∷ []) ≡ true
two_symbols_there i j n h k = rw (lt-ltb i n h, lt-ltb j n k) refl

-- ## Places in tables

position_within : {X : Type 0} (p : X → Bool) (xs : List X) → position_or_len p xs < length xs
    → place_or (position p xs) (length xs) < length xs
position_within p xs h = rw (lt-ltb (position_or_len p xs) (length xs) h) h

first_text : (x : List ℕ) (xs : List (List ℕ)) → is_among x xs ≡ true → position_or_len (bytes_eq x) xs < length xs
first_text x [] h = absurd (cc)
first_text x (y ∷ xs) h = at (bytes_eq x y) h (first_text x xs)
  where
    at : (b : Bool) → (if b then true else is_among x xs) ≡ true
        → (is_among x xs ≡ true → position_or_len (bytes_eq x) xs < length xs)
        → (if not b then 1 + position_or_len (bytes_eq x) xs else 0) < suc (length xs)
    at true k later = omega arith
    at false k later = omega (arith, later k)

first_integer : (z : ℤ) (zs : List ℤ) → integers.is_among z zs ≡ true → position_or_len (int_eq z) zs < length zs
first_integer z [] h = absurd (cc)
first_integer z (y ∷ zs) h = at (int_eq z y) h (first_integer z zs)
  where
    at : (b : Bool) → (b || integers.is_among z zs) ≡ true
        → (integers.is_among z zs ≡ true → position_or_len (int_eq z) zs < length zs)
        → (if not b then 1 + position_or_len (int_eq z) zs else 0) < suc (length zs)
    at true k later = omega arith
    at false k later = omega (arith, later k)

pub text_placed : (x : List ℕ) (xs : List (List ℕ)) → is_among x xs ≡ true
    → place_or (position (bytes_eq x) xs) (length xs) < length xs
text_placed x xs h = position_within (bytes_eq x) xs (first_text x xs h)

pub integer_placed : (z : ℤ) (zs : List ℤ) → integers.is_among z zs ≡ true
    → place_or (position (int_eq z) zs) (length zs) < length zs
integer_placed z zs h = position_within (int_eq z) zs (first_integer z zs h)

-- ## Instructions

-- of one that asks for registers, symbols and a count alone
record Quiet (o : Operation) : Type 0 where
  entry : entry_of o ≡ None
  jump : distance_of o ≡ None
  variable : variable_of o ≡ None
  enter : parameters_of o ≡ None
  place : (k : ℕ) (m : Option _) → place_holds k m o ≡ true

quiet : (o : Operation) → is_plain o ≡ true → Quiet o
quiet (op.LoadL a b) h = absurd (cc)
quiet (op.GetUpVar a b c) h = absurd (cc)
quiet (op.SetUpVar a b c) h = absurd (cc)
quiet (op.Jmp by) h = absurd (cc)
quiet (op.JmpIf a by) h = absurd (cc)
quiet (op.JmpNot a by) h = absurd (cc)
quiet (op.JmpUw by) h = absurd (cc)
quiet (op.Enter q) h = absurd (cc)
quiet (op.Return a) h = absurd (cc)
quiet (op.ReturnBlk a) h = absurd (cc)
quiet (op.Break a) h = absurd (cc)
quiet (op.String a b) h = absurd (cc)
quiet (op.Lambda a b) h = absurd (cc)
quiet (op.Block a b) h = absurd (cc)
quiet (op.OClass a b) h = absurd (cc)
quiet (op.Exec a b) h = absurd (cc)
quiet (op.Def a b c) h = absurd (cc)
quiet (op.Defined a b c) h = absurd (cc)
quiet op.Stop h = absurd (cc)
quiet o h = record { entry = refl; jump = refl; variable = refl; enter = refl; place = λ k m. refl }

module _ (m : Room) where
  abbrev There : List ℕ → Type 0
  There ns = list_all (λ i. nat_lt i (length m.symbols)) ns ≡ true

  pub serves : (o : Operation) → is_plain o ≡ true → nat_le (count_of o) 255 ≡ true → registers_of o ≤ m.registers
      → There (symbols_of o) → fits_as true o ≡ true → Serves m o
  serves o p counted registers symbols fit =
      let q = quiet o p in
      record {
        counted = counted;
        registers = registers;
        entry = ap (entry_holds (items_of m)) q.entry;
        symbols = symbols;
        jump = q.jump;
        variable = λ s. ap (variable_holds s.program s.number) q.variable;
        enter = q.enter;
        place = λ s. q.place s.number (maker_of s.program s.number);
        fit = λ d f. wide_fits o fit;
      }
