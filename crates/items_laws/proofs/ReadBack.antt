-- Items as they are read from the last one back.
use Rattle.std.proofs.Common.{◌≡◌, ℕ, ◌-◌, refl, sym, ap, subst, ◌∙◌, List, [], ◌∷◌, length, arith}
use Rattle.std.specs.Prelude.{ℤ, pos, map, min, slice_get, nat_eq, Bool, true, false, if◌then◌else◌, Option, Some, None}
use Rattle.std.specs.Int.{w64, int_wrapping_sub}
use Rattle.rb_value.specs.declared.value.Value.{Value}
use Rattle.rb_value.specs.declared.value.Value.TheVariants.{Int, Obj}
use Rattle.rb_value.specs.declared.value.ObjId.{ObjId}
use Rattle.rb_value.specs.declared.hash.HashItem.{HashItem}
use Rattle.def_core.specs.Parts.{elements_at}
use Rattle.def_core.specs.Store.{next_number}
use Rattle.rb_store.specs.Held.{Held}
use Rattle.iter_items.specs.declared.source.Numbers.{Numbers}
use Rattle.iter_items.specs.declared.source.Source.{Source}
use Rattle.iter_items.specs.declared.source.Source.TheVariants as source
use Rattle.iter_items.specs.Sources.{Passed, byte_of, element_before, no_more, number_item, numbers_passed, pair_before, pair_passed, passes, previous, without_last}
use Rattle.items_laws.specs.Run.{Turn}
use Rattle.items_laws.specs.Items.{Hands, last_heap, left_of}
use Rattle.items_laws.specs.Backwards.{before, elements_back, integers_back, last_back, pairs_back, place_before}
use Rattle.items_laws.specs.Numbers.{so_many}
use Rattle.items_laws.specs.Read.{heaps_before, pair_in}
use Rattle.items_laws.specs.Texts.{so_many_bytes, texts_made}
use Rattle.items_laws.proofs.Ranges.{above_zero, is_zero}
use Rattle.items_laws.proofs.Small.{none_some, some_same}

-- an Array

abbrev element_if : Bool → Held → ObjId → ℕ → Passed Source
element_if c held a n = element_before held a n
    (if c then None else Some (min n (length (elements_at held.store.objects a)) - 1))

item_if : (c : Bool) (held : Held) (a : ObjId) (n : ℕ)
    → (element_if c held a n).item
    ≡ (if c then None else slice_get (elements_at held.store.objects a) (min n (length (elements_at held.store.objects a)) - 1))
item_if true held a n = refl
item_if false held a n = refl

source_if : (c : Bool) (held : Held) (a : ObjId) (n : ℕ) (x : Value) → (element_if c held a n).item ≡ Some x
    → (element_if c held a n).source ≡ source.Elements a (place_before n (elements_at held.store.objects a))
source_if true held a n x there = absurd (none_some x there)
source_if false held a n x there = refl

nothing_left : (held : Held) (a : ObjId) (n : ℕ)
    → (previous held (source.Elements a n)).item ≡ before n (elements_at held.store.objects a)
nothing_left held a n = item_if (nat_eq (min n (length (elements_at held.store.objects a))) 0) held a n

behind_element : (held : Held) (a : ObjId) (n : ℕ) (x : Value) (t : Turn) (ts : List Turn) (xs : List Value)
    → (previous held (source.Elements a n)).item ≡ Some x
    → Hands previous t.held (previous held (source.Elements a n)).source ts xs
    → Hands previous t.held (source.Elements a (place_before n (elements_at held.store.objects a))) ts xs
behind_element held a n x t ts xs there hands = subst (λ (s : Source). Hands previous t.held s ts xs)
    (source_if (nat_eq (min n (length (elements_at held.store.objects a))) 0) held a n x there) hands

pub elements_before : (held : Held) (a : ObjId) (n : ℕ) (ts : List Turn) (xs : List Value)
    → Hands previous held (source.Elements a n) ts xs → map Some xs ≡ elements_back a n (heaps_before held ts)
elements_before held a n [] [] hands = refl
elements_before held a n [] (x ∷ xs) hands = absurd hands
elements_before held a n (t ∷ ts) [] hands = absurd hands
elements_before held a n (t ∷ ts) (x ∷ xs) hands =
    let more = elements_before t.held a (place_before n (elements_at held.store.objects a)) ts xs
    (behind_element held a n x t ts xs hands.0 hands.2) in
    ap (λ (o : Option Value). o ∷ map Some xs) (sym hands.0 ∙ nothing_left held a n)
    ∙ ap (λ (os : List (Option Value)). before n (elements_at held.store.objects a) ∷ os) more

pub elements_end : (held : Held) (a : ObjId) (n : ℕ) (ts : List Turn) (xs : List Value)
    → Hands previous held (source.Elements a n) ts xs
    → (previous (last_heap held ts) (left_of previous held (source.Elements a n) ts)).item
    ≡ before (last_back a n (heaps_before held ts)) (elements_at (last_heap held ts).store.objects a)
elements_end held a n [] [] hands = nothing_left held a n
elements_end held a n [] (x ∷ xs) hands = absurd hands
elements_end held a n (t ∷ ts) [] hands = absurd hands
elements_end held a n (t ∷ ts) (x ∷ xs) hands =
    ap (λ (s : Source). (previous (last_heap t.held ts) (left_of previous t.held s ts)).item)
    (source_if (nat_eq (min n (length (elements_at held.store.objects a))) 0) held a n x hands.0)
    ∙ elements_end t.held a (place_before n (elements_at held.store.objects a)) ts xs
    (behind_element held a n x t ts xs hands.0 hands.2)

-- a Hash

abbrev pair_if : Bool → Held → List HashItem → ℕ → Passed Source
pair_if c held ps n = pair_before held ps n (if c then None else Some (min n (length ps) - 1))

passed_pair : (held : Held) (s : Source) (o : Option HashItem) → (pair_passed held s o).item ≡ pair_in held o
passed_pair held s None = refl
passed_pair held s (Some i) = refl

left_by : (held : Held) (s : Source) (o : Option HashItem) → (pair_passed held s o).source ≡ s
left_by held s None = refl
left_by held s (Some i) = refl

pair_item : (c : Bool) (held : Held) (ps : List HashItem) (n : ℕ)
    → (pair_if c held ps n).item ≡ pair_in held (if c then None else slice_get ps (min n (length ps) - 1))
pair_item true held ps n = refl
pair_item false held ps n =
    passed_pair held (source.Pairs ps (min n (length ps) - 1)) (slice_get ps (min n (length ps) - 1))

pair_source : (c : Bool) (held : Held) (ps : List HashItem) (n : ℕ) (x : Value) → (pair_if c held ps n).item ≡ Some x
    → (pair_if c held ps n).source ≡ source.Pairs ps (place_before n ps)
pair_source true held ps n x there = absurd (none_some x there)
pair_source false held ps n x there =
    left_by held (source.Pairs ps (min n (length ps) - 1)) (slice_get ps (min n (length ps) - 1))

pub pairs_before : (held : Held) (ps : List HashItem) (n : ℕ) (ts : List Turn) (xs : List Value)
    → Hands previous held (source.Pairs ps n) ts xs → map Some xs ≡ pairs_back ps n (heaps_before held ts)
pairs_before held ps n [] [] hands = refl
pairs_before held ps n [] (x ∷ xs) hands = absurd hands
pairs_before held ps n (t ∷ ts) [] hands = absurd hands
pairs_before held ps n (t ∷ ts) (x ∷ xs) hands =
    let c = nat_eq (min n (length ps)) 0 in
    ap (λ (o : Option Value). o ∷ map Some xs) (sym hands.0 ∙ pair_item c held ps n)
    ∙ ap (λ (os : List (Option Value)). pair_in held (before n ps) ∷ os)
    (pairs_before t.held ps (place_before n ps) ts xs (subst (λ (s : Source). Hands previous t.held s ts xs)
    (pair_source c held ps n x hands.0) hands.2))

-- so many Integers or bytes up to one

abbrev numbers : Bool → ℤ → ℤ → ℕ → Numbers
numbers bytes z l k = record { first = z; last = l; left = k; as_bytes = bytes }

abbrev many : Bool → ℤ → ℤ → ℕ → Source
many bytes z l k = source.Numbers (numbers bytes z l k)

abbrev passed_if : Bool → Bool → Held → ℤ → ℤ → ℕ → Passed Source
passed_if c bytes held z l k = numbers_passed (if c then no_more held (numbers bytes z l k)
    else passes (without_last (numbers bytes z l k)) (number_item held bytes l))

abbrev one_back : ℤ → ℤ
one_back z = int_wrapping_sub w64 z (pos 1)

abbrev HandsIf : Bool → Bool → Held → ℤ → ℤ → ℕ → Turn → List Turn → Value → List Value → Type 0
HandsIf c bytes held z l k t ts x xs = ((passed_if c bytes held z l k).item ≡ Some x)
    × (t.wanted.held ≡ (passed_if c bytes held z l k).held)
    × Hands previous t.held (passed_if c bytes held z l k).source ts xs

record Handed (bytes : Bool) (held : Held) (z l : ℤ) (k : ℕ) (t : Turn) (ts : List Turn) (x : Value) (xs : List Value)
    : Type 0 where
  left : nat_eq k 0 ≡ false
  item : (number_item held bytes l).value ≡ x
  same : t.wanted.held ≡ (number_item held bytes l).held
  rest : Hands previous t.held (many bytes z (one_back l) (k - 1)) ts xs

handed : (bytes : Bool) (held : Held) (z l : ℤ) (k : ℕ) (t : Turn) (ts : List Turn) (x : Value) (xs : List Value)
    (c : Bool) → nat_eq k 0 ≡ c → HandsIf c bytes held z l k t ts x xs → Handed bytes held z l k t ts x xs
handed bytes held z l k t ts x xs true e hands = absurd (none_some x hands.0)
handed bytes held z l k t ts x xs false e hands =
    record { left = e; item = some_same (number_item held bytes l).value x hands.0; same = hands.1; rest = hands.2 }

pub integers_before : (held : Held) (z l : ℤ) (k : ℕ) (ts : List Turn) (xs : List Value)
    → Hands previous held (so_many z l k) ts xs → xs ≡ map (λ n. Int n) (integers_back l (length ts))
integers_before held z l k [] [] hands = refl
integers_before held z l k [] (x ∷ xs) hands = absurd hands
integers_before held z l k (t ∷ ts) [] hands = absurd hands
integers_before held z l k (t ∷ ts) (x ∷ xs) hands =
    let h = handed false held z l k t ts x xs (nat_eq k 0) refl hands in
    ap (λ (y : Value). y ∷ xs) (sym h.item)
    ∙ ap (λ (ys : List Value). Int l ∷ ys) (integers_before t.held z (one_back l) (k - 1) ts xs h.rest)

none_left : (bytes : Bool) (held : Held) (z l : ℤ) (k : ℕ) (c : Bool) → nat_eq k 0 ≡ c
    → (passed_if c bytes held z l k).item ≡ None → 0 ≡ k
none_left bytes held z l k true e none = is_zero k e
none_left bytes held z l k false e none = absurd (cc)

pub all_before : (bytes : Bool) (held : Held) (z l : ℤ) (k : ℕ) (ts : List Turn) (xs : List Value)
    → Hands previous held (many bytes z l k) ts xs
    → (previous (last_heap held ts) (left_of previous held (many bytes z l k) ts)).item ≡ None → length ts ≡ k
all_before bytes held z l k [] [] hands none = none_left bytes held z l k (nat_eq k 0) refl none
all_before bytes held z l k [] (x ∷ xs) hands none = absurd hands
all_before bytes held z l k (t ∷ ts) [] hands none = absurd hands
all_before bytes held z l k (t ∷ ts) (x ∷ xs) hands none =
    let h = handed bytes held z l k t ts x xs (nat_eq k 0) refl hands in
    let less = above_zero k h.left in
    let more = all_before bytes t.held z (one_back l) (k - 1) ts xs h.rest
    (subst (λ (c : Bool).
    (previous (last_heap t.held ts) (left_of previous t.held (passed_if c bytes held z l k).source ts)).item ≡ None) h.left
    none) in
    omega (arith, less, more)

pub bytes_before : (held : Held) (z l : ℤ) (k : ℕ) (ts : List Turn) (xs : List Value)
    → Hands previous held (so_many_bytes z l k) ts xs → xs ≡ map (λ h. Obj (next_number h.store)) (heaps_before held ts)
bytes_before held z l k [] [] hands = refl
bytes_before held z l k [] (x ∷ xs) hands = absurd hands
bytes_before held z l k (t ∷ ts) [] hands = absurd hands
bytes_before held z l k (t ∷ ts) (x ∷ xs) hands =
    let h = handed true held z l k t ts x xs (nat_eq k 0) refl hands in
    ap (λ (y : Value). y ∷ xs) (sym h.item) ∙ ap (λ (ys : List Value). Obj (next_number held.store) ∷ ys)
    (bytes_before t.held z (one_back l) (k - 1) ts xs h.rest)

pub byte_texts_before : (held : Held) (z l : ℤ) (k : ℕ) (ts : List Turn) (xs : List Value)
    → Hands previous held (so_many_bytes z l k) ts xs
    → map (λ t. t.wanted.held) ts
    ≡ texts_made (map (λ n. byte_of n ∷ []) (integers_back l (length ts))) (heaps_before held ts)
byte_texts_before held z l k [] [] hands = refl
byte_texts_before held z l k [] (x ∷ xs) hands = absurd hands
byte_texts_before held z l k (t ∷ ts) [] hands = absurd hands
byte_texts_before held z l k (t ∷ ts) (x ∷ xs) hands =
    let h = handed true held z l k t ts x xs (nat_eq k 0) refl hands in
    ap (λ (g : Held). g ∷ map (λ t. t.wanted.held) ts) h.same
    ∙ ap (λ (hs : List Held). (number_item held true l).held ∷ hs)
    (byte_texts_before t.held z (one_back l) (k - 1) ts xs h.rest)
