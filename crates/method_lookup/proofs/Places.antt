-- Where kept pairs stand.
use Rattle.std.proofs.Common.{◌≡◌, ℕ, zero, suc, ◌+◌, ◌<◌, List, [], ◌∷◌, ◌++◌, length, Bool, true, false, not, cond, refl, ap, sym, ◌∙◌, subst, arith, if◌then◌else◌}
use Rattle.std.specs.Prelude.{Option, Some, None, nat_eq, nat_lt, map, slice_get, unwrap_or, IfSome}
use Rattle.std.specs.List.{position_or_len}
use Rattle.std.proofs.lemmas.Bool.Decides.{nat_tests}
use Rattle.std.specs.Map.{lookup}
use Rattle.indexmap.specs.IndexMap.{insert_entry}
use Rattle.rb_value.specs.declared.value.ObjId.{ObjId}
use Rattle.rb_value.specs.declared.value.SymId.{SymId}
use Rattle.def_core.specs.declared.found.Found.{Found}
use Rattle.method_lookup.specs.Cache.{Cache, pair_of, same_pair, kept_of, is_below_limit, known, PlacesStay, place_of, read_of, read_at, kept_under, learned}
use Rattle.method_lookup.proofs.Caches.{both}

-- a pair that isn't kept yet goes last
goes_last : (es : List ((ℕ × ℕ) × Found)) (k : ℕ × ℕ) (f : Found) → lookup (same_pair k) es ≡ None
    → insert_entry same_pair es k f ≡ es ++ (k, f) ∷ []
goes_last [] k f h = refl
goes_last (e ∷ es) k f h = elim (same_pair k e.0) as
    (λ b. cond b (Some e.1) (lookup (same_pair k) es) ≡ None
    → cond b ((e.0, f) ∷ es) (e ∷ insert_entry same_pair es k f) ≡ e ∷ (es ++ (k, f) ∷ [])) [
      | true ↦ λ g. cc
      | false ↦ λ g. ap (λ l. e ∷ l) (goes_last es k f g)
    ] h

front_stays : (es : List ((ℕ × ℕ) × Found)) (x p : (ℕ × ℕ) × Found) (n : ℕ) → slice_get es n ≡ Some p
    → slice_get (es ++ x ∷ []) n ≡ Some p
front_stays [] x p n h = cc
front_stays (e ∷ es) x p zero h = h
front_stays (e ∷ es) x p (suc n) h = front_stays es x p n h

-- how many pairs stand before the pair, or how many there are
abbrev before : ℕ × ℕ → List ((ℕ × ℕ) × Found) → ℕ
before p es = position_or_len (same_pair p) (map (λ e. e.0) es)

-- what stands at the place of a pair is what is kept of it
reads : (p : ℕ × ℕ) (es : List ((ℕ × ℕ) × Found)) → before p es < length (map (λ e. e.0) es)
    → read_of p (slice_get es (before p es)) ≡ lookup (same_pair p) es
reads p [] h = absurd (omega (arith, h))
reads p (e ∷ es) h = elim (same_pair p e.0) as
    (λ b. same_pair p e.0 ≡ b → cond (not b) (1 + before p es) 0 < suc (length (map (λ e. e.0) es))
    → read_of p (slice_get (e ∷ es) (cond (not b) (1 + before p es) 0)) ≡ cond b (Some e.1)
    (lookup (same_pair p) es)) [
      | true ↦ λ same _. ap (λ (b : Bool). if b then Some e.1 else None) same
      | false ↦ λ _ within.
          let next : suc (before p es) ≡ 1 + before p es = omega arith in
          subst (λ (n : ℕ). read_of p (slice_get (e ∷ es) n) ≡ lookup (same_pair p) es) next
          (reads p es (omega (arith, within)))
    ] refl h

place_reads : (cache : Cache) (class : ObjId) (name : SymId) (i : ℕ) → place_of cache class name ≡ Some i
    → read_at cache i class name ≡ kept_of cache class name
place_reads cache class name i h =
    let p = pair_of class name in
    let count = length (map (λ e. e.0) cache.kept) in
    elim (nat_lt (before p cache.kept) count) as
    (λ b. nat_lt (before p cache.kept) count ≡ b → cond b (Some (before p cache.kept)) None ≡ Some i
    → read_of p (slice_get cache.kept i) ≡ lookup (same_pair p) cache.kept) [
      | true ↦ λ b e.
          let within : before p cache.kept < count = grind (arith, nat_tests, b) in
          subst (λ (n : ℕ). read_of p (slice_get cache.kept n) ≡ lookup (same_pair p) cache.kept)
          (ap (λ (o : Option ℕ). unwrap_or o 0) e) (reads p cache.kept within)
      | false ↦ λ b e. cc
    ] refl h

-- the same of a place that there may be
pub place_or_none : (cache : Cache) (class : ObjId) (name : SymId) (o : Option ℕ) → o ≡ place_of cache class name
    → IfSome o (λ i. read_at cache i class name ≡ kept_of cache class name)
place_or_none cache class name None h = tt
place_or_none cache class name (Some i) h = place_reads cache class name i (sym h)

-- an unchanged cache
pub same_places : (cache : Cache) (changes : ℕ) → PlacesStay cache cache changes
same_places cache changes t n p h = h

-- a cache after a search for a pair that it didn't know
pub learned_places : (cache : Cache) (changes : ℕ) (class : ObjId) (name : SymId) (f : Option Found)
    → known cache changes class name ≡ None → PlacesStay cache (learned cache changes class name f) changes
learned_places cache changes class name f missing t n p h = by f
  where
    under : kept_under cache changes ≡ cache.kept
    under = ap (λ (b : Bool). if b then cache.kept else []) (both (nat_eq cache.number changes) (is_below_limit changes) t).0

    absent : kept_of cache class name ≡ None
    absent = sym (ap (λ (b : Bool). if b then kept_of cache class name else None) t) ∙ missing

    by : (f : Option Found) → slice_get (learned cache changes class name f).kept n ≡ Some p
    by None = ap (λ (es : List ((ℕ × ℕ) × Found)). slice_get es n) under ∙ h
    by (Some g) =
        ap (λ (es : List ((ℕ × ℕ) × Found)). slice_get (insert_entry same_pair es (pair_of class name) g) n) under
        ∙ ap (λ (es : List ((ℕ × ℕ) × Found)). slice_get es n) (goes_last cache.kept (pair_of class name) g absent)
        ∙ front_stays cache.kept (pair_of class name, g) p n h
