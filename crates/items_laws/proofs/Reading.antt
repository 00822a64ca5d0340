-- Items as they are read.
use Rattle.std.proofs.Common.{◌≡◌, ℕ, suc, ◌<◌, ◌+◌, ◌^◌, refl, sym, ap, subst, ◌∙◌, List, [], ◌∷◌, length, arith}
use Rattle.std.specs.Prelude.{map, slice_get, Option, Some, None}
use Rattle.std.proofs.Math.Nat.{min-eq_left}
use Rattle.rb_value.specs.declared.value.Value.{Value}
use Rattle.rb_value.specs.declared.value.ObjId.{ObjId}
use Rattle.rb_value.specs.declared.hash.HashItem.{HashItem}
use Rattle.def_core.specs.Parts.{elements_at}
use Rattle.rb_store.specs.Held.{Held, one_more}
use Rattle.iter_items.specs.declared.source.Source.{Source}
use Rattle.iter_items.specs.declared.source.Source.TheVariants as source
use Rattle.iter_items.specs.Sources.{next, pair_passed}
use Rattle.items_laws.specs.Run.{Turn}
use Rattle.items_laws.specs.Items.{Hands, last_heap, left_of}
use Rattle.items_laws.specs.Read.{heaps_before, elements_read, pair_in, pairs_read}
use Rattle.items_laws.proofs.Small.{sum_zero, sum_more}

pub counted : (n : ℕ) → n + 1 < 2 ^ 64 → one_more n ≡ n + 1
counted n less = min-eq_left (omega (arith, less))

shorter : (n k : ℕ) → n + suc k < 2 ^ 64 → n + 1 < 2 ^ 64
shorter n k less = omega (arith, less)

behind : (n k : ℕ) → n + suc k < 2 ^ 64 → n + 1 + k < 2 ^ 64
behind n k less = omega (arith, less)

-- an Array

pub array_items : (held : Held) (a : ObjId) (n : ℕ) (ts : List Turn) (xs : List Value) → n + length ts < 2 ^ 64
    → Hands next held (source.Elements a n) ts xs → map Some xs ≡ elements_read a n (heaps_before held ts)
array_items held a n [] [] less hands = refl
array_items held a n [] (x ∷ xs) less hands = absurd hands
array_items held a n (t ∷ ts) [] less hands = absurd hands
array_items held a n (t ∷ ts) (x ∷ xs) less hands =
    let more = array_items t.held a (n + 1) ts xs (behind n (length ts) less)
    (subst (λ (k : ℕ). Hands next t.held (source.Elements a k) ts xs) (counted n (shorter n (length ts) less)) hands.2) in
    ap (λ (o : Option Value). o ∷ map Some xs) (sym hands.0)
    ∙ ap (λ (os : List (Option Value)). slice_get (elements_at held.store.objects a) n ∷ os) more

pub array_end : (held : Held) (a : ObjId) (n : ℕ) (ts : List Turn) (xs : List Value) → n + length ts < 2 ^ 64
    → Hands next held (source.Elements a n) ts xs
    → (next (last_heap held ts) (left_of next held (source.Elements a n) ts)).item
    ≡ slice_get (elements_at (last_heap held ts).store.objects a) (n + length ts)
array_end held a n [] [] less hands = ap (λ (k : ℕ). slice_get (elements_at held.store.objects a) k) (sum_zero n)
array_end held a n [] (x ∷ xs) less hands = absurd hands
array_end held a n (t ∷ ts) [] less hands = absurd hands
array_end held a n (t ∷ ts) (x ∷ xs) less hands =
    let one = counted n (shorter n (length ts) less) in
    let more = array_end t.held a (n + 1) ts xs (behind n (length ts) less)
    (subst (λ (k : ℕ). Hands next t.held (source.Elements a k) ts xs) one hands.2) in
    ap (λ (k : ℕ). (next (last_heap t.held ts) (left_of next t.held (source.Elements a k) ts)).item) one ∙ more
    ∙ ap (λ (k : ℕ). slice_get (elements_at (last_heap t.held ts).store.objects a) k) (sum_more n (length ts))

pub array_heaps : (held : Held) (a : ObjId) (n : ℕ) (ts : List Turn) (xs : List Value)
    → Hands next held (source.Elements a n) ts xs → map (λ t. t.wanted.held) ts ≡ heaps_before held ts
array_heaps held a n [] xs hands = refl
array_heaps held a n (t ∷ ts) [] hands = absurd hands
array_heaps held a n (t ∷ ts) (x ∷ xs) hands =
    ap (λ (h : Held). h ∷ map (λ t. t.wanted.held) ts) hands.1
    ∙ ap (λ (hs : List Held). held ∷ hs) (array_heaps t.held a (one_more n) ts xs hands.2)

-- a Hash

passed_pair : (held : Held) (s : Source) (o : Option HashItem) → (pair_passed held s o).item ≡ pair_in held o
passed_pair held s None = refl
passed_pair held s (Some i) = refl

left_by : (held : Held) (s : Source) (o : Option HashItem) → (pair_passed held s o).source ≡ s
left_by held s None = refl
left_by held s (Some i) = refl

-- the hands of a Hash behind a pair
behind_pair : (held : Held) (ps : List HashItem) (n : ℕ) (t : Turn) (ts : List Turn) (xs : List Value)
    → n + 1 < 2 ^ 64 → Hands next t.held (next held (source.Pairs ps n)).source ts xs
    → Hands next t.held (source.Pairs ps (n + 1)) ts xs
behind_pair held ps n t ts xs less hands =
    subst (λ (k : ℕ). Hands next t.held (source.Pairs ps k) ts xs) (counted n less)
    (subst (λ (s : Source). Hands next t.held s ts xs)
    (left_by held (source.Pairs ps (one_more n)) (slice_get ps n)) hands)

pub pair_items : (held : Held) (ps : List HashItem) (n : ℕ) (ts : List Turn) (xs : List Value)
    → n + length ts < 2 ^ 64 → Hands next held (source.Pairs ps n) ts xs
    → map Some xs ≡ pairs_read ps n (heaps_before held ts)
pair_items held ps n [] [] less hands = refl
pair_items held ps n [] (x ∷ xs) less hands = absurd hands
pair_items held ps n (t ∷ ts) [] less hands = absurd hands
pair_items held ps n (t ∷ ts) (x ∷ xs) less hands =
    let more = pair_items t.held ps (n + 1) ts xs (behind n (length ts) less)
    (behind_pair held ps n t ts xs (shorter n (length ts) less) hands.2) in
    ap (λ (o : Option Value). o ∷ map Some xs)
    (sym hands.0 ∙ passed_pair held (source.Pairs ps (one_more n)) (slice_get ps n))
    ∙ ap (λ (os : List (Option Value)). pair_in held (slice_get ps n) ∷ os) more

pub pair_end : (held : Held) (ps : List HashItem) (n : ℕ) (ts : List Turn) (xs : List Value)
    → n + length ts < 2 ^ 64 → Hands next held (source.Pairs ps n) ts xs
    → (next (last_heap held ts) (left_of next held (source.Pairs ps n) ts)).item
    ≡ pair_in (last_heap held ts) (slice_get ps (n + length ts))
pair_end held ps n [] [] less hands = passed_pair held (source.Pairs ps (one_more n)) (slice_get ps n)
    ∙ ap (λ (k : ℕ). pair_in held (slice_get ps k)) (sum_zero n)
pair_end held ps n [] (x ∷ xs) less hands = absurd hands
pair_end held ps n (t ∷ ts) [] less hands = absurd hands
pair_end held ps n (t ∷ ts) (x ∷ xs) less hands =
    let one = counted n (shorter n (length ts) less) in
    let left = left_by held (source.Pairs ps (one_more n)) (slice_get ps n) in
    let more = pair_end t.held ps (n + 1) ts xs (behind n (length ts) less)
    (behind_pair held ps n t ts xs (shorter n (length ts) less) hands.2) in
    ap (λ (s : Source). (next (last_heap t.held ts) (left_of next t.held s ts)).item) left
    ∙ ap (λ (k : ℕ). (next (last_heap t.held ts) (left_of next t.held (source.Pairs ps k) ts)).item) one ∙ more
    ∙ ap (λ (k : ℕ). pair_in (last_heap t.held ts) (slice_get ps k)) (sum_more n (length ts))
