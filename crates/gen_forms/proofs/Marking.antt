-- Forms in turn whose first lines are marked, and the jumps that lead to them.
use Rattle.std.proofs.Common.{◌≡◌, ℕ, ◌+◌, ◌-◌, ◌<◌, zero, suc, List, [], ◌∷◌, ◌++◌, arith, append_assoc, refl, ap, sym, ◌∙◌}
use Rattle.ir_core.specs.CoreForm.{CoreForm, Forms, more}
use Rattle.gen_parts.specs.declared.emitter.Spot.{Spot}
use Rattle.gen_parts.specs.Pieces.{past}
use Rattle.gen_parts.specs.Emission.{Emission, with_piece, here, led}
use Rattle.gen_parts.proofs.Laws.{here-with}
use Rattle.gen_forms.specs.Gen.{Context, gen, starts, in_turn, ahead}
use Rattle.gen_forms.specs.Open.{held_jumps, with_defaults, forms_in}
use Rattle.gen_forms.specs.Marks.{mark}
use Rattle.gen_forms.proofs.Starts.{starts-zero, past-held, defaults}

pub mark-none : (k line : ℕ) → k ≡ 0 → mark k line ≡ []
mark-none zero line h = refl
mark-none (suc k) line h = absurd (omega arith)

pub mark-some : (k line : ℕ) → 0 < k → mark k line ≡ line ∷ []
mark-some zero line h = absurd (omega arith)
mark-some (suc k) line h = refl

pub ruleset mark_laws = (mark-none, mark-some)

pub starts-marked : (c : Context) (s : Spot) (r n : ℕ) (e : CoreForm) (es : Forms)
    → starts c s r n (more e es) ≡ mark n s.line ++ starts c (past s (gen c s r e)) r (n - 1) es
starts-marked c s r zero e es = sym (starts-zero c (past s (gen c s r e)) r (0 - 1) es (omega arith))
starts-marked c s r (suc n) e es =
    let less : n ≡ suc n - 1 = omega arith in
    ap (λ (k : ℕ). s.line ∷ starts c (past s (gen c s r e)) r k es) less

-- a form more, and the lines so far
pub marked-turn : (c : Context) (r n left : ℕ) (e f : Emission) (t : CoreForm) (es : Forms) (old new all : List ℕ)
    → f ≡ with_piece e (gen c (here e) r t) → left ≡ n - 1 → new ≡ old ++ mark n (here e).line
    → old ++ starts c (here e) r n (more t es) ≡ all → new ++ starts c (here f) r left es ≡ all
marked-turn c r n left e f t es old new all is less marks h =
    let next = past (here e) (gen c (here e) r t) in
    let there : here f ≡ next = ap here is ∙ here-with e (gen c (here e) r t) in
    ap (λ (ns : List ℕ). ns ++ starts c (here f) r left es) marks
    ∙ (ap (λ (s : Spot). (old ++ mark n (here e).line) ++ starts c s r left es) there
    ∙ (ap (λ (k : ℕ). (old ++ mark n (here e).line) ++ starts c next r k es) less
    ∙ (append_assoc old (mark n (here e).line) (starts c next r (n - 1) es)
    ∙ (ap (λ (ns : List ℕ). old ++ ns) (sym (starts-marked c (here e) r n t es)) ∙ h))))

-- jumps to the beginnings of forms, once the forms are there
pub jumps-led : (c : Context) (r o jumps first : ℕ) (f : CoreForm) (none tos lines : List ℕ) (e e1 e2 e3 : Emission)
    → 0 < o → jumps ≡ o + 1 → first ≡ (here e).line → none ≡ [] → e1 ≡ with_piece e (held_jumps jumps)
    → e2 ≡ with_piece e1 (in_turn c (here e1) r (forms_in f))
    → tos ≡ none ++ starts c (here e1) r jumps (forms_in f) → lines ≡ tos → e3 ≡ led e2 first lines
    → e3 ≡ with_piece e (with_defaults c (here e) r o f)
jumps-led c r o jumps first f none tos lines e e1 e2 e3 some count begin empty h1 h2 marks shown h3 =
    let s = ahead (here e) (o + 1) in
    let held : e1 ≡ with_piece e (held_jumps (o + 1)) = h1 ∙ ap (λ (n : ℕ). with_piece e (held_jumps n)) count in
    let there : here e1 ≡ s =
    ap here held ∙ (here-with e (held_jumps (o + 1)) ∙ past-held (here e) (o + 1)) in
    let taken : e2 ≡ with_piece (with_piece e (held_jumps (o + 1))) (in_turn c s r (forms_in f)) =
    h2 ∙ (ap (λ (k : Emission). with_piece k (in_turn c (here e1) r (forms_in f))) held
    ∙ ap (λ (k : Spot). with_piece (with_piece e (held_jumps (o + 1))) (in_turn c k r (forms_in f))) there) in
    let to : lines ≡ starts c s r (o + 1) (forms_in f) =
    shown ∙ (marks ∙ (ap (λ (ns : List ℕ). ns ++ starts c (here e1) r jumps (forms_in f)) empty
    ∙ (ap (λ (n : ℕ). starts c (here e1) r n (forms_in f)) count
    ∙ ap (λ (k : Spot). starts c k r (o + 1) (forms_in f)) there))) in
    h3 ∙ (ap (λ (k : Emission). led k first lines) taken
    ∙ (ap (λ (n : ℕ). led (with_piece (with_piece e (held_jumps (o + 1))) (in_turn c s r (forms_in f))) n lines) begin
    ∙ defaults c e r o f lines some to))
