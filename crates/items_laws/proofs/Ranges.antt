-- The items of a Range of Integers, or of bytes.
use Rattle.std.proofs.Common.{◌≡◌, ℕ, ◌<◌, ◌-◌, refl, sym, ap, subst, ◌∙◌, List, [], ◌∷◌, length, arith}
use Rattle.std.specs.Prelude.{ℤ, pos, nat_eq, map, Bool, true, false, if◌then◌else◌, Some, None}
use Rattle.std.specs.Int.{w64, int_wrapping_add}
use Rattle.std.proofs.lemmas.Bool.Decides.{nat_tests}
use Rattle.rb_value.specs.declared.value.Value.{Value}
use Rattle.rb_value.specs.declared.value.Value.TheVariants.{Int, Obj}
use Rattle.def_core.specs.Store.{next_number}
use Rattle.rb_store.specs.Held.{Held}
use Rattle.iter_items.specs.declared.source.Numbers.{Numbers}
use Rattle.iter_items.specs.declared.source.Source.{Source}
use Rattle.iter_items.specs.declared.source.Source.TheVariants as source
use Rattle.iter_items.specs.Sources.{Passed, byte_of, next, no_more, passes, numbers_passed, without_first, number_item}
use Rattle.items_laws.specs.Run.{Turn}
use Rattle.items_laws.specs.Items.{Hands, last_heap, left_of}
use Rattle.items_laws.specs.Numbers.{integers_from, so_many}
use Rattle.items_laws.specs.Read.{heaps_before}
use Rattle.items_laws.specs.Texts.{so_many_bytes, texts_made}
use Rattle.items_laws.proofs.Small.{some_same}

-- so many Integers or bytes from one on

abbrev numbers : Bool → ℤ → ℤ → ℕ → Numbers
numbers bytes z l k = record { first = z; last = l; left = k; as_bytes = bytes }

abbrev many : Bool → ℤ → ℤ → ℕ → Source
many bytes z l k = source.Numbers (numbers bytes z l k)

-- by whether one is left

abbrev passed_if : Bool → Bool → Held → ℤ → ℤ → ℕ → Passed Source
passed_if c bytes held z l k = numbers_passed (if c then no_more held (numbers bytes z l k)
    else passes (without_first (numbers bytes z l k)) (number_item held bytes z))

abbrev behind : ℤ → ℤ
behind z = int_wrapping_add w64 z (pos 1)

abbrev HandsIf : Bool → Bool → Held → ℤ → ℤ → ℕ → Turn → List Turn → Value → List Value → Type 0
HandsIf c bytes held z l k t ts x xs = ((passed_if c bytes held z l k).item ≡ Some x)
    × (t.wanted.held ≡ (passed_if c bytes held z l k).held)
    × Hands next t.held (passed_if c bytes held z l k).source ts xs

-- what a turn hands on
record Handed (bytes : Bool) (held : Held) (z l : ℤ) (k : ℕ) (t : Turn) (ts : List Turn) (x : Value) (xs : List Value)
    : Type 0 where
  left : nat_eq k 0 ≡ false
  item : (number_item held bytes z).value ≡ x
  same : t.wanted.held ≡ (number_item held bytes z).held
  rest : Hands next t.held (many bytes (behind z) l (k - 1)) ts xs

handed : (bytes : Bool) (held : Held) (z l : ℤ) (k : ℕ) (t : Turn) (ts : List Turn) (x : Value) (xs : List Value)
    (c : Bool) → nat_eq k 0 ≡ c → HandsIf c bytes held z l k t ts x xs → Handed bytes held z l k t ts x xs
handed bytes held z l k t ts x xs true e hands = absurd (cc)
handed bytes held z l k t ts x xs false e hands =
    record { left = e; item = some_same (number_item held bytes z).value x hands.0; same = hands.1; rest = hands.2 }

pub range_items : (held : Held) (z l : ℤ) (k : ℕ) (ts : List Turn) (xs : List Value)
    → Hands next held (so_many z l k) ts xs → xs ≡ map (λ n. Int n) (integers_from z (length ts))
range_items held z l k [] [] hands = refl
range_items held z l k [] (x ∷ xs) hands = absurd hands
range_items held z l k (t ∷ ts) [] hands = absurd hands
range_items held z l k (t ∷ ts) (x ∷ xs) hands =
    let h = handed false held z l k t ts x xs (nat_eq k 0) refl hands in
    ap (λ (y : Value). y ∷ xs) (sym h.item)
    ∙ ap (λ (ys : List Value). Int z ∷ ys) (range_items t.held (behind z) l (k - 1) ts xs h.rest)

pub above_zero : (k : ℕ) → nat_eq k 0 ≡ false → 0 < k
above_zero k e = grind (arith, nat_tests, e)

pub is_zero : (k : ℕ) → nat_eq k 0 ≡ true → 0 ≡ k
is_zero k e = grind (arith, nat_tests, e)

none_left : (bytes : Bool) (held : Held) (z l : ℤ) (k : ℕ) (c : Bool) → nat_eq k 0 ≡ c
    → (passed_if c bytes held z l k).item ≡ None → 0 ≡ k
none_left bytes held z l k true e none = is_zero k e
none_left bytes held z l k false e none = absurd (cc)

many_end : (bytes : Bool) (held : Held) (z l : ℤ) (k : ℕ) (ts : List Turn) (xs : List Value)
    → Hands next held (many bytes z l k) ts xs
    → (next (last_heap held ts) (left_of next held (many bytes z l k) ts)).item ≡ None → length ts ≡ k
many_end bytes held z l k [] [] hands none = none_left bytes held z l k (nat_eq k 0) refl none
many_end bytes held z l k [] (x ∷ xs) hands none = absurd hands
many_end bytes held z l k (t ∷ ts) [] hands none = absurd hands
many_end bytes held z l k (t ∷ ts) (x ∷ xs) hands none =
    let h = handed bytes held z l k t ts x xs (nat_eq k 0) refl hands in
    let less = above_zero k h.left in
    let more = many_end bytes t.held (behind z) l (k - 1) ts xs h.rest
    (subst (λ (c : Bool). (next (last_heap t.held ts) (left_of next t.held (passed_if c bytes held z l k).source ts)).item
    ≡ None) h.left none) in
    omega (arith, less, more)

pub range_end : (held : Held) (z l : ℤ) (k : ℕ) (ts : List Turn) (xs : List Value)
    → Hands next held (so_many z l k) ts xs
    → (next (last_heap held ts) (left_of next held (so_many z l k) ts)).item ≡ None → length ts ≡ k
range_end held z l k ts xs hands none = many_end false held z l k ts xs hands none

-- new Strings of bytes

pub byte_items : (held : Held) (z l : ℤ) (k : ℕ) (ts : List Turn) (xs : List Value)
    → Hands next held (so_many_bytes z l k) ts xs → xs ≡ map (λ h. Obj (next_number h.store)) (heaps_before held ts)
byte_items held z l k [] [] hands = refl
byte_items held z l k [] (x ∷ xs) hands = absurd hands
byte_items held z l k (t ∷ ts) [] hands = absurd hands
byte_items held z l k (t ∷ ts) (x ∷ xs) hands =
    let h = handed true held z l k t ts x xs (nat_eq k 0) refl hands in
    ap (λ (y : Value). y ∷ xs) (sym h.item)
    ∙ ap (λ (ys : List Value). Obj (next_number held.store) ∷ ys) (byte_items t.held (behind z) l (k - 1) ts xs h.rest)

pub byte_texts : (held : Held) (z l : ℤ) (k : ℕ) (ts : List Turn) (xs : List Value)
    → Hands next held (so_many_bytes z l k) ts xs
    → map (λ t. t.wanted.held) ts
    ≡ texts_made (map (λ n. byte_of n ∷ []) (integers_from z (length ts))) (heaps_before held ts)
byte_texts held z l k [] [] hands = refl
byte_texts held z l k [] (x ∷ xs) hands = absurd hands
byte_texts held z l k (t ∷ ts) [] hands = absurd hands
byte_texts held z l k (t ∷ ts) (x ∷ xs) hands =
    let h = handed true held z l k t ts x xs (nat_eq k 0) refl hands in
    ap (λ (g : Held). g ∷ map (λ t. t.wanted.held) ts) h.same
    ∙ ap (λ (hs : List Held). (number_item held true z).held ∷ hs)
    (byte_texts t.held (behind z) l (k - 1) ts xs h.rest)

pub byte_end : (held : Held) (z l : ℤ) (k : ℕ) (ts : List Turn) (xs : List Value)
    → Hands next held (so_many_bytes z l k) ts xs
    → (next (last_heap held ts) (left_of next held (so_many_bytes z l k) ts)).item ≡ None → length ts ≡ k
byte_end held z l k ts xs hands none = many_end true held z l k ts xs hands none
