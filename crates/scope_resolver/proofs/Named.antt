-- Laws of registers by names.
use Rattle.std.proofs.Common.{◌≡◌, ℕ, List, [], ◌∷◌, ◌++◌, map, length, refl, sym, ap, ◌∙◌, Option, Some, None, is_some, Bool, true, false, cond, if◌then◌else◌, ◌+◌, true≢false, arith}
use Rattle.std.specs.Prelude.{bytes_eq}
use Rattle.std.proofs.lemmas.Slice.Eq.{bytes_eq-Decides}
use Rattle.std.specs.Borrow.{Bor}
use Rattle.std.specs.Map.{lookup}
use Rattle.std.proofs.lemmas.List.{length-map, length-append, map-append}
use Rattle.indexmap.specs.IndexMap.{insert_entry}
use Rattle.ir_core.specs.CoreForm.{Local, named, hidden, pattern, rest}
use Rattle.scope_resolver.specs.declared.seek.Search.{Search}
use Rattle.scope_resolver.specs.declared.seek.Search.TheVariants.{Found, Past}
use Rattle.scope_resolver.specs.Layout.{Slots, seek, at_slot, is_at}
use Rattle.scope_resolver.specs.Registers.{Named, shown, shown_one, with_name, with_local, with_slot, with_slots, search_at}

some_is_there : (r : ℕ) → Some r ≡ None → ⊥
some_is_there r h = true≢false (ap is_some h)

-- registers as they lie in memory

pub lookup-shown : (x : List ℕ) (es : List (Bor (List ℕ) × ℕ))
    → lookup (λ (k : Bor (List ℕ)). bytes_eq x k.now) es ≡ lookup (bytes_eq x) (shown es)
lookup-shown x [] = refl
lookup-shown x (e ∷ es) = ap (λ (r : Option ℕ). cond (bytes_eq x e.0.now) (Some e.1) r) (lookup-shown x es)

insert-shown : (k : Bor (List ℕ)) (n : ℕ) (es : List (Bor (List ℕ) × ℕ)) → is_some (lookup (bytes_eq k.now) (shown es)) ≡ false
    → shown (insert_entry (λ (a b : Bor (List ℕ)). bytes_eq a.now b.now) es k n) ≡ shown es ++ (k.now, n) ∷ []
insert-shown k n [] absent = refl
insert-shown k n (e ∷ es) absent = by (bytes_eq k.now e.0.now) refl (insert-shown k n es)
  where
    by : (b : Bool) → bytes_eq k.now e.0.now ≡ b
        → (is_some (lookup (bytes_eq k.now) (shown es)) ≡ false
        → shown (insert_entry (λ (a b : Bor (List ℕ)). bytes_eq a.now b.now) es k n) ≡ shown es ++ (k.now, n) ∷ [])
        → shown (insert_entry (λ (a b : Bor (List ℕ)). bytes_eq a.now b.now) (e ∷ es) k n) ≡ shown (e ∷ es) ++ (k.now, n) ∷ []
    by true h others = absurd (true≢false (sym (ap (λ c. is_some (cond c (Some e.1) (lookup (bytes_eq k.now) (shown es)))) h) ∙ absent))
    by false h others =
        ap (λ c. shown (if c then (e.0, n) ∷ es else e ∷ insert_entry (λ (a b : Bor (List ℕ)). bytes_eq a.now b.now) es k n)) h
        ∙ ap (λ l. shown_one e ∷ l) (others
        (sym (ap (λ c. is_some (cond c (Some e.1) (lookup (bytes_eq k.now) (shown es)))) h) ∙ absent))

-- a name that has a register keeps it
pub kept : (x : List ℕ) (n : ℕ) (es : List (Bor (List ℕ) × ℕ)) (m : Named) → shown es ≡ m → (b : Bool)
    → b ≡ is_some (lookup (λ (k : Bor (List ℕ)). bytes_eq x k.now) es) → b ≡ true → m ≡ with_name m x n
kept x n es m is b tells there =
    let found : is_some (lookup (bytes_eq x) m) ≡ true =
    ap (λ (r : Named). is_some (lookup (bytes_eq x) r)) (sym is)
    ∙ (sym (ap is_some (lookup-shown x es)) ∙ (sym tells ∙ there)) in
    sym (ap (λ (c : Bool). if c then m else m ++ (x, n) ∷ []) found)

-- and one that has none gets it
pub added : (k : Bor (List ℕ)) (n : ℕ) (es new : List (Bor (List ℕ) × ℕ)) (m : Named) → shown es ≡ m → (b : Bool)
    → b ≡ is_some (lookup (λ (q : Bor (List ℕ)). bytes_eq k.now q.now) es) → b ≡ false
    → new ≡ insert_entry (λ (c d : Bor (List ℕ)). bytes_eq c.now d.now) es k n → shown new ≡ with_name m k.now n
added k n es new m is b tells absent entries =
    let without : is_some (lookup (bytes_eq k.now) (shown es)) ≡ false =
    sym (ap is_some (lookup-shown k.now es)) ∙ (sym tells ∙ absent) in
    let missing : is_some (lookup (bytes_eq k.now) m) ≡ false =
    ap (λ (r : Named). is_some (lookup (bytes_eq k.now) r)) (sym is) ∙ without in
    ap shown entries
    ∙ (insert-shown k n es without
    ∙ (ap (λ (r : Named). r ++ (k.now, n) ∷ []) is
    ∙ sym (ap (λ (c : Bool). if c then m else m ++ (k.now, n) ∷ []) missing)))

-- slots one after the other

pub with_slots-append : (es : Named) (ss ts : Slots) (n : ℕ)
    → with_slots es (ss ++ ts) n ≡ with_slots (with_slots es ss n) ts (n + length ss)
with_slots-append es [] ts n = ap (with_slots es ts) (omega arith)
with_slots-append es (s ∷ ss) ts n =
    with_slots-append (with_slot es s n) ss ts (n + 1)
    ∙ ap (with_slots (with_slots (with_slot es s n) ss (n + 1)) ts) (omega arith)

pub ruleset slot_laws = (with_slots-append, length-map, length-append)

-- a search among the slots, by the registers

lookup-last : (x y : List ℕ) (n : ℕ) (es : Named) → lookup (bytes_eq x) es ≡ None
    → lookup (bytes_eq x) (es ++ (y, n) ∷ []) ≡ cond (bytes_eq x y) (Some n) None
lookup-last x y n [] h = refl
lookup-last x y n (e ∷ es) h = by (bytes_eq x e.0) refl (lookup-last x y n es)
  where
    by : (b : Bool) → bytes_eq x e.0 ≡ b
        → (lookup (bytes_eq x) es ≡ None → lookup (bytes_eq x) (es ++ (y, n) ∷ []) ≡ cond (bytes_eq x y) (Some n) None)
        → lookup (bytes_eq x) ((e ∷ es) ++ (y, n) ∷ []) ≡ cond (bytes_eq x y) (Some n) None
    by true p others = absurd (some_is_there e.1 (sym (ap (λ c. cond c (Some e.1) (lookup (bytes_eq x) es)) p) ∙ h))
    by false p others =
        ap (λ c. cond c (Some e.1) (lookup (bytes_eq x) (es ++ (y, n) ∷ []))) p
        ∙ others (sym (ap (λ c. cond c (Some e.1) (lookup (bytes_eq x) es)) p) ∙ h)

lookup-first : (x y : List ℕ) (n r : ℕ) (es : Named) → lookup (bytes_eq x) es ≡ Some r
    → lookup (bytes_eq x) (es ++ (y, n) ∷ []) ≡ Some r
lookup-first x y n r [] h = absurd (some_is_there r (sym h))
lookup-first x y n r (e ∷ es) h = by (bytes_eq x e.0) refl (lookup-first x y n r es)
  where
    by : (b : Bool) → bytes_eq x e.0 ≡ b
        → (lookup (bytes_eq x) es ≡ Some r → lookup (bytes_eq x) (es ++ (y, n) ∷ []) ≡ Some r)
        → lookup (bytes_eq x) ((e ∷ es) ++ (y, n) ∷ []) ≡ Some r
    by true p others =
        ap (λ c. cond c (Some e.1) (lookup (bytes_eq x) (es ++ (y, n) ∷ []))) p
        ∙ (sym (ap (λ c. cond c (Some e.1) (lookup (bytes_eq x) es)) p) ∙ h)
    by false p others =
        ap (λ c. cond c (Some e.1) (lookup (bytes_eq x) (es ++ (y, n) ∷ []))) p
        ∙ others (sym (ap (λ c. cond c (Some e.1) (lookup (bytes_eq x) es)) p) ∙ h)

-- a name more
found-name : (x y : List ℕ) (n : ℕ) (es : Named)
    → search_at (lookup (bytes_eq x) (with_name es y n)) (n + 1)
    ≡ at_slot (named x) (Some (named y)) (search_at (lookup (bytes_eq x) es) n)
found-name x y n es = by (lookup (bytes_eq y) es) refl (lookup (bytes_eq x) es) refl
  where
    unknown : (b : Bool) → bytes_eq x y ≡ b → lookup (bytes_eq y) es ≡ None → lookup (bytes_eq x) es ≡ None
        → search_at (lookup (bytes_eq x) (with_name es y n)) (n + 1)
        ≡ at_slot (named x) (Some (named y)) (search_at (lookup (bytes_eq x) es) n)
    unknown true p absent new = rw (absent, new, lookup-last x y n es new, p) refl
    unknown false p absent new = rw (absent, new, lookup-last x y n es new, p) refl

    other : (b : Bool) (r : ℕ) → bytes_eq x y ≡ b → lookup (bytes_eq y) es ≡ Some r → lookup (bytes_eq x) es ≡ None
        → search_at (lookup (bytes_eq x) (with_name es y n)) (n + 1)
        ≡ at_slot (named x) (Some (named y)) (search_at (lookup (bytes_eq x) es) n)
    other true r p there new =
        let same : x ≡ y = (bytes_eq-Decides x y).0 p in
        absurd (some_is_there r (sym there ∙ (ap (λ (z : List ℕ). lookup (bytes_eq z) es) (sym same) ∙ new)))
    other false r p there new = rw (there, new, p) refl

    by : (a : Option ℕ) → lookup (bytes_eq y) es ≡ a → (b : Option ℕ) → lookup (bytes_eq x) es ≡ b
        → search_at (lookup (bytes_eq x) (with_name es y n)) (n + 1)
        ≡ at_slot (named x) (Some (named y)) (search_at (lookup (bytes_eq x) es) n)
    by None absent None new = unknown (bytes_eq x y) refl absent new
    by (Some r) there None new = other (bytes_eq x y) r refl there new
    by None absent (Some q) is = rw (absent, is, lookup-first x y n q es is) refl
    by (Some r) there (Some q) is = rw (there, is) refl

-- a slot that has no name, or none in the source
passed : (x : List ℕ) (s : Option Local) (n : ℕ) (es : Named) → is_at (named x) s ≡ false
    → search_at (lookup (bytes_eq x) es) (n + 1) ≡ at_slot (named x) s (search_at (lookup (bytes_eq x) es) n)
passed x s n es other = by (lookup (bytes_eq x) es) refl
  where
    by : (a : Option ℕ) → lookup (bytes_eq x) es ≡ a
        → search_at (lookup (bytes_eq x) es) (n + 1) ≡ at_slot (named x) s (search_at (lookup (bytes_eq x) es) n)
    by None p = rw (p, other) refl
    by (Some r) p = rw p refl

found-slot : (x : List ℕ) (s : Option Local) (n : ℕ) (es : Named)
    → search_at (lookup (bytes_eq x) (with_slot es s n)) (n + 1)
    ≡ at_slot (named x) s (search_at (lookup (bytes_eq x) es) n)
found-slot x None n es = passed x None n es refl
found-slot x (Some (named y)) n es = found-name x y n es
found-slot x (Some (hidden d)) n es = passed x (Some (hidden d)) n es refl
found-slot x (Some (pattern k)) n es = passed x (Some (pattern k)) n es refl
found-slot x (Some rest) n es = passed x (Some rest) n es refl

found-slots : (x : List ℕ) (ss : Slots) (n : ℕ) (es : Named)
    → search_at (lookup (bytes_eq x) (with_slots es ss n)) (n + length ss)
    ≡ seek (named x) ss (search_at (lookup (bytes_eq x) es) n)
found-slots x [] n es = ap (search_at (lookup (bytes_eq x) es)) (omega arith)
found-slots x (s ∷ ss) n es =
    ap (search_at (lookup (bytes_eq x) (with_slots (with_slot es s n) ss (n + 1)))) (omega arith)
    ∙ (found-slots x ss (n + 1) (with_slot es s n)
    ∙ ap (seek (named x) ss) (found-slot x s n es))

-- where the slots have these registers, and there are so many
pub found : (x : List ℕ) (ss : Slots) (past : ℕ) (es : Named) → es ≡ with_slots [] ss 1 → past ≡ 1 + length ss
    → search_at (lookup (bytes_eq x) es) past ≡ seek (named x) ss (Past 1)
found x ss past es is count = rw (is, count) (found-slots x ss 1 [])
