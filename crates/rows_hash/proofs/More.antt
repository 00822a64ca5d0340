-- Pairs of a Hash, one more at a time.
use Rattle.std.proofs.Common.{◌≡◌, ℕ, zero, suc, ◌+◌, List, [], ◌∷◌, ◌++◌, map, take, drop, refl, ap, sym, ◌∙◌}
use Rattle.std.specs.Prelude.{Option, Some, None, option_map, slice_get}
use Rattle.std.proofs.lemmas.List.{map-append}
use Rattle.std.proofs.Math.Seq.{take-add}
use Rattle.rb_value.specs.declared.value.Value.{Value}
use Rattle.rb_value.specs.declared.key.Key.{Key}
use Rattle.rb_value.specs.declared.hash.HashItem.{HashItem}
use Rattle.rows_hash.specs.Pairs.{shown_keys, values}

pub keys_more : (ps : List (Key × HashItem)) (k : ℕ) → shown_keys (take (k + 1) ps)
    ≡ shown_keys (take k ps) ++ shown_keys (take 1 (drop k ps))
keys_more ps k = ap (λ (qs : List (Key × HashItem)). shown_keys qs) (take-add k 1 ps)
    ∙ map-append (λ (p : Key × HashItem). p.1.shown) (take k ps) (take 1 (drop k ps))

pub key_there : (ps : List (Key × HashItem)) (k : ℕ) (item : HashItem)
    → Some item ≡ option_map (λ p. p.1) (slice_get ps k)
    → shown_keys (take 1 (drop k ps)) ≡ item.shown ∷ []
key_there [] k item h = cc
key_there (p ∷ ps) zero item h =
    let e : item ≡ p.1 = cc in ap (λ (i : HashItem). i.shown ∷ []) (sym e)
key_there (p ∷ ps) (suc k) item h = key_there ps k item h

pub no_key : (ps : List (Key × HashItem)) (k : ℕ) → None ≡ option_map (λ p. p.1) (slice_get ps k)
    → shown_keys (take 1 (drop k ps)) ≡ []
no_key [] zero h = refl
no_key [] (suc k) h = refl
no_key (p ∷ ps) zero h = cc
no_key (p ∷ ps) (suc k) h = no_key ps k h

pub values_more : (ps : List (Key × HashItem)) (k : ℕ) → values (take (k + 1) ps)
    ≡ values (take k ps) ++ values (take 1 (drop k ps))
values_more ps k = ap (λ (qs : List (Key × HashItem)). values qs) (take-add k 1 ps)
    ∙ map-append (λ (p : Key × HashItem). p.1.value) (take k ps) (take 1 (drop k ps))

pub value_there : (ps : List (Key × HashItem)) (k : ℕ) (item : HashItem)
    → Some item ≡ option_map (λ p. p.1) (slice_get ps k)
    → values (take 1 (drop k ps)) ≡ item.value ∷ []
value_there [] k item h = cc
value_there (p ∷ ps) zero item h =
    let e : item ≡ p.1 = cc in ap (λ (i : HashItem). i.value ∷ []) (sym e)
value_there (p ∷ ps) (suc k) item h = value_there ps k item h

pub no_value : (ps : List (Key × HashItem)) (k : ℕ) → None ≡ option_map (λ p. p.1) (slice_get ps k)
    → values (take 1 (drop k ps)) ≡ []
no_value [] zero h = refl
no_value [] (suc k) h = refl
no_value (p ∷ ps) zero h = cc
no_value (p ∷ ps) (suc k) h = no_value ps k h
