-- Keys that differ still do when a pair comes or goes.
use Rattle.std.proofs.Common.{◌≡◌, Bool, false, true, cond, if◌then◌else◌, List, [], ◌∷◌, ◌++◌, drop, refl, sym, ap, ◌∙◌, subst, append_assoc}
use Rattle.std.specs.Cmp.{IsEquivalence}
use Rattle.std.specs.List.{IsDistinct, AllByRecursion}
use Rattle.std.specs.Map.{keys_of, remove_entry}
use Rattle.std.proofs.lemmas.Map.Keys.{IsDistinct-head, IsDistinct-tail, IsDistinct-cons}
use Rattle.indexmap.specs.IndexMap.{insert_entry}
use Rattle.indexmap.proofs.MapLemmas.{absent_before, absent_from_lookup, insert_entry-absent}

nothing_apart : {K : Type 0} (eq : K → K → Bool) → IsDistinct eq []
unfolding IsDistinct
nothing_apart eq = tt

module _ {K V : Type 0} (eq : K → K → Bool) where
  pub none_apart : (es : List (K × V)) → es ≡ [] → IsDistinct eq (keys_of es)
  none_apart es e = subst (λ l. IsDistinct eq (keys_of l)) (sym e) (nothing_apart eq)

  pub apart_behind : (es : List (K × V)) → IsDistinct eq (keys_of es) → IsDistinct eq (keys_of (drop 1 es))
  apart_behind [] h = h
  apart_behind (e ∷ es) h = IsDistinct-tail eq e.0 (keys_of es) h

module _ {K V : Type 0} (t : K → Bool) (P : K → Type 0) where
  all_without : (es : List (K × V)) → AllByRecursion P (keys_of es) → AllByRecursion P (keys_of (remove_entry t es))
  all_without [] h = h
  all_without (e ∷ es) h = by (t e.0) refl (all_without es h.1)
    where
      by : (b : Bool) → t e.0 ≡ b → AllByRecursion P (keys_of (remove_entry t es)) → AllByRecursion P (keys_of (remove_entry t (e ∷ es)))
      by true q rest = subst (λ b. AllByRecursion P (keys_of (cond b es (e ∷ remove_entry t es)))) (sym q) h.1
      by false q rest = subst (λ b. AllByRecursion P (keys_of (cond b es (e ∷ remove_entry t es)))) (sym q) (h.0, rest)

module _ {K V : Type 0} (eq : K → K → Bool) (t : K → Bool) where
  pub apart_without : (es : List (K × V)) → IsDistinct eq (keys_of es) → IsDistinct eq (keys_of (remove_entry t es))
  apart_without [] h = h
  apart_without (e ∷ es) h = by (t e.0) refl (apart_without es (IsDistinct-tail eq e.0 (keys_of es) h))
    where
      by : (b : Bool) → t e.0 ≡ b → IsDistinct eq (keys_of (remove_entry t es)) → IsDistinct eq (keys_of (remove_entry t (e ∷ es)))
      by true q rest =
          subst (λ b. IsDistinct eq (keys_of (cond b es (e ∷ remove_entry t es)))) (sym q) (IsDistinct-tail eq e.0 (keys_of es) h)
      by false q rest =
          subst (λ b. IsDistinct eq (keys_of (cond b es (e ∷ remove_entry t es)))) (sym q)
          (IsDistinct-cons eq e.0 (keys_of (remove_entry t es)) (all_without t (λ y. eq e.0 y ≡ false) es (IsDistinct-head eq e.0 (keys_of es) h)) rest)

module _ {K V : Type 0} (eq : K → K → Bool) (k : K) (v : V) where
  all_with : (P : K → Type 0) → P k → (es : List (K × V)) → AllByRecursion P (keys_of es) → AllByRecursion P (keys_of (insert_entry eq es k v))
  all_with P p [] h = (p, tt)
  all_with P p (e ∷ es) h = by (eq k e.0) refl (all_with P p es h.1)
    where
      by : (b : Bool) → eq k e.0 ≡ b → AllByRecursion P (keys_of (insert_entry eq es k v)) → AllByRecursion P (keys_of (insert_entry eq (e ∷ es) k v))
      by true q rest = subst (λ b. AllByRecursion P (keys_of (if b then (e.0, v) ∷ es else e ∷ insert_entry eq es k v))) (sym q) h
      by false q rest = subst (λ b. AllByRecursion P (keys_of (if b then (e.0, v) ∷ es else e ∷ insert_entry eq es k v))) (sym q) (h.0, rest)

  pub apart_with : IsEquivalence eq → (es : List (K × V)) → IsDistinct eq (keys_of es) → IsDistinct eq (keys_of (insert_entry eq es k v))
  apart_with laws [] h = IsDistinct-cons eq k [] tt h
  apart_with laws (e ∷ es) h = by (eq k e.0) refl (apart_with laws es (IsDistinct-tail eq e.0 (keys_of es) h))
    where
      by : (b : Bool) → eq k e.0 ≡ b → IsDistinct eq (keys_of (insert_entry eq es k v)) → IsDistinct eq (keys_of (insert_entry eq (e ∷ es) k v))
      by true q rest = subst (λ b. IsDistinct eq (keys_of (if b then (e.0, v) ∷ es else e ∷ insert_entry eq es k v))) (sym q) h
      by false q rest =
          subst (λ b. IsDistinct eq (keys_of (if b then (e.0, v) ∷ es else e ∷ insert_entry eq es k v))) (sym q)
          (IsDistinct-cons eq e.0 (keys_of (insert_entry eq es k v))
          (all_with (λ y. eq e.0 y ≡ false) (laws.symm e.0 k ∙ q) es (IsDistinct-head eq e.0 (keys_of es) h)) rest)

-- The first pair of those that are left goes behind the others.
pub next_given : {K V : Type 0} {eq : K → K → Bool} → IsEquivalence eq → (given left rest whole new : List (K × V)) (e : K × V)
    → left ≡ e ∷ rest → given ++ left ≡ whole → IsDistinct eq (keys_of whole) → new ≡ insert_entry eq given e.0 e.1
    → new ++ rest ≡ whole
next_given {K} {V} {eq} laws given left rest whole new e first all apart put =
    let there : given ++ e ∷ rest ≡ whole = ap (λ l. given ++ l) (sym first) ∙ all in
    let kept : IsDistinct eq (keys_of (given ++ e ∷ rest)) = subst (λ l. IsDistinct eq (keys_of l)) (sym there) apart in
    let last = insert_entry-absent eq e.0 e.1 given (absent_from_lookup (eq e.0) given (absent_before laws given rest e kept)) in
    ap (λ l. l ++ rest) (put ∙ last) ∙ append_assoc given (e ∷ []) rest ∙ there
