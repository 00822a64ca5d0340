-- The pairs of a Hash, one more at a time.
use Rattle.std.proofs.Common.{◌≡◌, ℕ, zero, suc, ◌+◌, List, [], ◌∷◌, ◌++◌, map, take, drop, refl, ap, sym, ◌∙◌}
use Rattle.std.specs.Prelude.{Option, Some, None, option_map, slice_get}
use Rattle.std.proofs.lemmas.List.{map-append}
use Rattle.std.proofs.Math.Seq.{take-add}
use Rattle.rb_value.specs.declared.key.Key.{Key}
use Rattle.rb_value.specs.declared.hash.HashItem.{HashItem}
use Rattle.iter_comparing.specs.Hashes.{items}

pub items_more : (ps : List (Key × HashItem)) (k : ℕ) → items (take (k + 1) ps)
    ≡ items (take k ps) ++ items (take 1 (drop k ps))
items_more ps k = ap (λ (qs : List (Key × HashItem)). items qs) (take-add k 1 ps)
    ∙ map-append (λ (p : Key × HashItem). p.1) (take k ps) (take 1 (drop k ps))

pub item_there : (ps : List (Key × HashItem)) (k : ℕ) (item : HashItem)
    → Some item ≡ option_map (λ p. p.1) (slice_get ps k)
    → items (take 1 (drop k ps)) ≡ item ∷ []
item_there [] k item h = cc
item_there (p ∷ ps) zero item h =
    let e : item ≡ p.1 = cc in ap (λ (i : HashItem). i ∷ []) (sym e)
item_there (p ∷ ps) (suc k) item h = item_there ps k item h

pub no_item : (ps : List (Key × HashItem)) (k : ℕ) → None ≡ option_map (λ p. p.1) (slice_get ps k)
    → items (take 1 (drop k ps)) ≡ []
no_item [] zero h = refl
no_item [] (suc k) h = refl
no_item (p ∷ ps) zero h = cc
no_item (p ∷ ps) (suc k) h = no_item ps k h
