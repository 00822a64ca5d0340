-- A turn of a loop over branches or clauses: the code and the jumps out of it so far, and what is to come.
use Rattle.std.proofs.Common.{◌≡◌, ℕ, ◌+◌, ◌<◌, List, [], ◌∷◌, ◌++◌, length, get_or, drop, append_assoc, ap, sym, ◌∙◌, Result, Ok, Err}
use Rattle.std.specs.Prelude.{OnOk}
use Rattle.std.proofs.lemmas.List.{drop_more}
use Rattle.gen_parts.specs.declared.emitter.Spot.{Spot}
use Rattle.ir_core.specs.CoreForm.{CoreForm}
use Rattle.gen_parts.specs.declared.line.Line.TheVariants as line
use Rattle.gen_parts.specs.Pieces.{Piece, past, behind, both, jump_if}
use Rattle.gen_parts.specs.Emission.{Emission, with_piece, here}
use Rattle.gen_parts.proofs.Laws.{with-both, here-with, past-puts}
use Rattle.gen_forms.specs.Gen.{Context}
use Rattle.gen_forms.specs.Open.{test_one}

-- the item of a turn, and those to come
pub next-item : {A : Type 0} (xs : List A) (i : ℕ) (x : A) → i < length xs → x ≡ get_or xs i x
    → drop i xs ≡ x ∷ drop (i + 1) xs
next-item xs i x h is = drop_more xs i x h ∙ ap (λ y. y ∷ drop (i + 1) xs) (sym is)

-- the same of a list that equals another
pub next-item-of : {A : Type 0} (xs ys : List A) (i : ℕ) (x : A) → ys ≡ xs → i < length ys → x ≡ get_or ys i x
    → drop i xs ≡ x ∷ drop (i + 1) xs
next-item-of xs ys i x same h is =
    ap (drop i) (sym same) ∙ (next-item ys i x h is ∙ ap (λ zs. x ∷ drop (i + 1) zs) same)

-- code that says what comes behind a spot
pub piece-turn : (rest : Spot → Piece) (e f whole : Emission) (p : Piece) (s : Spot)
    → f ≡ with_piece e p → past (here e) p ≡ s → with_piece e (both p (rest s)) ≡ whole
    → with_piece f (rest (here f)) ≡ whole
piece-turn rest e f whole p s is at h =
    let there : here f ≡ s = ap here is ∙ (here-with e p ∙ at) in
    ap (λ (k : Emission). with_piece k (rest (here f))) is
    ∙ (ap (λ (k : Spot). with_piece (with_piece e p) (rest k)) there ∙ (with-both e p (rest s) ∙ h))

pub line-turn : (rest : Spot → List ℕ) (e f : Emission) (p : Piece) (s : Spot) (outs done all : List ℕ) (n : ℕ)
    → f ≡ with_piece e p → past (here e) p ≡ s → done ≡ outs ++ n ∷ [] → outs ++ n ∷ rest s ≡ all
    → done ++ rest (here f) ≡ all
line-turn rest e f p s outs done all n is at ends h =
    let there : here f ≡ s = ap here is ∙ (here-with e p ∙ at) in
    ap (λ (ns : List ℕ). ns ++ rest (here f)) ends
    ∙ (ap (λ (k : Spot). (outs ++ n ∷ []) ++ rest k) there ∙ (append_assoc outs (n ∷ []) (rest s) ∙ h))

-- two pieces, the last of a call
pub ok-then : {T X : Type 0} (r : Result T X) (e f h : Emission) (p q : Piece) → f ≡ with_piece e p
    → OnOk r (h ≡ with_piece f q) → OnOk r (h ≡ with_piece e (both p q))
ok-then (Ok x) e f h p q is last = last ∙ (ap (λ (k : Emission). with_piece k q) is ∙ with-both e p q)
ok-then (Err x) e f h p q is last = tt

-- a jump behind a class of a clause, and the next class
pub test-turn : (c : Context) (r : ℕ) (f : CoreForm) (e e1 e2 : Emission) → e1 ≡ with_piece e (jump_if (r + 2) 0)
    → e2 ≡ with_piece e1 (test_one c (here e1) r f)
    → e2 ≡ with_piece e (both (jump_if (r + 2) 0) (test_one c (behind (here e)) r f))
test-turn c r f e e1 e2 first second =
    second ∙ (ap (λ (k : Emission). with_piece k (test_one c (here k) r f)) first
    ∙ (ap (λ (s : Spot). with_piece (with_piece e (jump_if (r + 2) 0)) (test_one c s r f))
    (here-with e (jump_if (r + 2) 0) ∙ past-puts (here e) (line.JumpIf (r + 2) 0))
    ∙ with-both e (jump_if (r + 2) 0) (test_one c (behind (here e)) r f)))
