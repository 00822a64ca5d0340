-- Code that is taken step by step: each step says what it takes where the one before it ended.
use Rattle.std.proofs.Common.{◌≡◌, ℕ, ◌≤◌, List, [], length, drop, ap, sym, ◌∙◌, Result, Ok, Err}
use Rattle.std.specs.Prelude.{IfOk, OnOk}
use Rattle.std.proofs.lemmas.List.{drop_all}
use Rattle.gen_parts.specs.declared.emitter.Spot.{Spot}
use Rattle.gen_parts.specs.declared.emitter.Held.{Held}
use Rattle.gen_parts.specs.Pieces.{Piece, past, behind, nothing, both, puts}
use Rattle.gen_parts.specs.Emission.{Emission, with_piece, here, patched, line_by}
use Rattle.gen_parts.proofs.Laws.{with-both, with-nothing, here-with, past-puts, landed}
use Rattle.gen_forms.specs.Gen.{over}

-- what follows where a call succeeded
pub on-ok : {T X P Q : Type 0} (r : Result T X) → (P → Q) → OnOk r P → OnOk r Q
on-ok (Ok x) f h = f h
on-ok (Err x) f h = tt

pub if-ok : {T X : Type 0} {P Q : T → Type 0} (r : Result T X) → ((x : T) → P x → Q x) → IfOk r P → IfOk r Q
if-ok (Ok x) f h = f x h
if-ok (Err x) f h = tt

pub always : {T X P : Type 0} (r : Result T X) → P → OnOk r P
always (Ok x) h = h
always (Err x) h = tt

-- a piece more, by the spot where it begins
pub chain : (rest : Spot → Piece) (e f g : Emission) (p : Piece) → f ≡ with_piece e p
    → g ≡ with_piece f (rest (here f)) → g ≡ with_piece e (both p (rest (past (here e) p)))
chain rest e f g p is last =
    let there : here f ≡ past (here e) p = ap here is ∙ here-with e p in
    last ∙ (ap (λ (k : Emission). with_piece k (rest (here f))) is
    ∙ (ap (λ (s : Spot). with_piece (with_piece e p) (rest s)) there ∙ with-both e p (rest (past (here e) p))))

-- a held jump that lands behind what comes after it
pub held-landed : (h : Held) (rest : Spot → Piece) (e e1 e2 e3 : Emission) (n : ℕ) → n ≡ (here e).line
    → e1 ≡ with_piece e (puts (line_by h 0)) → e2 ≡ with_piece e1 (rest (here e1))
    → e3 ≡ patched e2 n (line_by h (here e2).line) → e3 ≡ with_piece e (over h (here e) rest)
held-landed h rest e e1 e2 e3 n at first second third =
    let s = here e in
    let held = puts (line_by h 0) in
    let p = rest (behind s) in
    let to = (past (behind s) p).line in
    let there : here e1 ≡ behind s = ap here first ∙ (here-with e held ∙ past-puts s (line_by h 0)) in
    let taken : e2 ≡ with_piece (with_piece e held) p =
    second ∙ (ap (λ (k : Emission). with_piece k (rest (here e1))) first
    ∙ ap (λ (k : Spot). with_piece (with_piece e held) (rest k)) there) in
    let end : (here e2).line ≡ to =
    ap (λ (k : Emission). (here k).line) taken
    ∙ (ap (λ (k : Spot). k.line) (here-with (with_piece e held) p)
    ∙ ap (λ (k : Spot). (past k p).line) (here-with e held ∙ past-puts s (line_by h 0))) in
    third
    ∙ (ap (λ (k : Emission). patched k n (line_by h (here e2).line)) taken
    ∙ (ap (λ (k : ℕ). patched (with_piece (with_piece e held) p) k (line_by h (here e2).line)) at
    ∙ (ap (λ (k : ℕ). patched (with_piece (with_piece e held) p) s.line (line_by h k)) end
    ∙ (landed e (line_by h 0) (line_by h to) p ∙ with-both e (puts (line_by h to)) p))))

-- nothing is left of a list
pub piece-end : {A : Type 0} (rest : List A → Piece) (xs : List A) (i : ℕ) (e whole : Emission) → length xs ≤ i
    → rest [] ≡ nothing → with_piece e (rest (drop i xs)) ≡ whole → e ≡ whole
piece-end rest xs i e whole h is_none inv =
    sym (with-nothing e) ∙ (ap (with_piece e) (sym is_none)
    ∙ (ap (λ ys. with_piece e (rest ys)) (sym (drop_all i xs h)) ∙ inv))
