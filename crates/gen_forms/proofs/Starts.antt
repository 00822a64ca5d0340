-- Where the defaults of optional parameters begin, and the jumps to them.
use Rattle.std.proofs.Common.{◌≡◌, ℕ, ◌+◌, ◌-◌, ◌<◌, zero, suc, List, [], ◌∷◌, length, arith, refl, ap, sym, ◌∙◌, replicate}
use Rattle.ir_core.specs.CoreForm.{CoreForm, seq, Forms, none, more}
use Rattle.gen_parts.specs.declared.line.Line.TheVariants as line
use Rattle.gen_parts.specs.declared.emitter.Spot.{Spot}
use Rattle.gen_parts.specs.Pieces.{Piece, past, behind, both, puts, jump}
use Rattle.gen_parts.specs.Emission.{Emission, with_piece, here, patched, led}
use Rattle.gen_parts.proofs.Laws.{both-both, with-both, past-both, past-puts, past-nothing, here-with, landed}
use Rattle.gen_forms.specs.Gen.{Context, gen, starts, jumps_to, ahead, with_jumps, in_turn}
use Rattle.gen_forms.specs.Open.{held_jumps, with_defaults, forms_in}

pub held-step : (n : ℕ) → 0 < n → held_jumps n ≡ both (jump 0) (held_jumps (n - 1))
held-step zero h = absurd (omega arith)
held-step (suc n) h = let less : n ≡ suc n - 1 = omega arith in
    ap (λ (k : ℕ). both (jump 0) (held_jumps k)) less

pub replicate-step : (n x : ℕ) → 0 < n → replicate n x ≡ x ∷ replicate (n - 1) x
replicate-step zero x h = absurd (omega arith)
replicate-step (suc n) x h = let less : n ≡ suc n - 1 = omega arith in
    ap (λ (k : ℕ). x ∷ replicate k x) less

pub starts-none : (c : Context) (s : Spot) (r n : ℕ) → starts c s r n none ≡ replicate n s.line
starts-none c s r n = refl

pub starts-zero : (c : Context) (s : Spot) (r n : ℕ) (es : Forms) → n ≡ 0 → starts c s r n es ≡ []
starts-zero c s r zero none h = refl
starts-zero c s r zero (more e es) h = refl
starts-zero c s r (suc n) es h = absurd (omega arith)

pub starts-step : (c : Context) (s : Spot) (r n : ℕ) (e : CoreForm) (es : Forms) → 0 < n
    → starts c s r n (more e es) ≡ s.line ∷ starts c (past s (gen c s r e)) r (n - 1) es
starts-step c s r zero e es h = absurd (omega arith)
starts-step c s r (suc n) e es h = let less : n ≡ suc n - 1 = omega arith in
    ap (λ (k : ℕ). s.line ∷ starts c (past s (gen c s r e)) r k es) less

length-replicate : (n x : ℕ) → length (replicate n x) ≡ n
length-replicate zero x = refl
length-replicate (suc n) x = ap suc (length-replicate n x)

starts-length : (c : Context) (s : Spot) (r n : ℕ) (es : Forms) → length (starts c s r n es) ≡ n
starts-length c s r n none = length-replicate n s.line
starts-length c s r zero (more e es) = refl
starts-length c s r (suc n) (more e es) = ap suc (starts-length c (past s (gen c s r e)) r n es)

with-forms : (c : Context) (s : Spot) (r n : ℕ) (f : CoreForm) → with_jumps c s r n f
    ≡ both (jumps_to (starts c (ahead s n) r n (forms_in f))) (in_turn c (ahead s n) r (forms_in f))
with-forms c s r n (seq es) = refl
with-forms c s r n _ = refl

abbrev at_line : Spot → ℕ → Spot
at_line s k = record { line = k; child = s.child; body = s.body }

line-behind : (s : Spot) → s.line + 1 ≡ (behind s).line
unfolding behind
line-behind s = refl

ahead-behind : (s : Spot) (n : ℕ) → ahead (behind s) n ≡ ahead s (suc n)
unfolding behind
ahead-behind s n = let e : s.line + 1 + n ≡ s.line + suc n = omega arith in
    ap (at_line s) e

ahead-none : (s : Spot) → ahead s 0 ≡ s
ahead-none s = let e : s.line + 0 ≡ s.line = omega arith in
    ap (at_line s) e

pub past-held : (s : Spot) (n : ℕ) → past s (held_jumps n) ≡ ahead s n
past-held s zero = past-nothing s ∙ sym (ahead-none s)
past-held s (suc n) =
    past-both s (jump 0) (held_jumps n) ∙ (ap (λ (k : Spot). past k (held_jumps n)) (past-puts s (line.Jump 0))
    ∙ (past-held (behind s) n ∙ ahead-behind s n))

-- held jumps that get the lines where they lead
led-jumps : (e : Emission) (p : Piece) (tos : List ℕ) (at : ℕ) → at ≡ (here e).line
    → led (with_piece (with_piece e (held_jumps (length tos))) p) at tos
    ≡ with_piece (with_piece e (jumps_to tos)) p
led-jumps e p [] at h = refl
led-jumps e p (to ∷ tos) at h =
    let held = held_jumps (length tos) in
    let after = with_piece e (jump to) in
    let before : with_piece (with_piece e (both (jump 0) held)) p
    ≡ with_piece (with_piece e (puts (line.Jump 0))) (both held p) = simp (with-both, both-both) in
    let back : with_piece (with_piece e (puts (line.Jump to))) (both held p) ≡ with_piece (with_piece after held) p =
    sym (with-both after held p) in
    let line_after : at + 1 ≡ (here after).line =
    ap (λ (k : ℕ). k + 1) h ∙ (line-behind (here e)
    ∙ ap (λ (k : Spot). k.line) (sym (here-with e (jump to) ∙ past-puts (here e) (line.Jump to)))) in
    let last : with_piece (with_piece after (jumps_to tos)) p
    ≡ with_piece (with_piece e (both (jump to) (jumps_to tos))) p = simp (with-both, both-both) in
    ap (λ (k : Emission). led (patched k at (line.Jump to)) (at + 1) tos) before
    ∙ (ap (λ (n : ℕ). led (patched (with_piece (with_piece e (puts (line.Jump 0))) (both held p)) n (line.Jump to))
    (at + 1) tos) h
    ∙ (ap (λ (k : Emission). led k (at + 1) tos) (landed e (line.Jump 0) (line.Jump to) (both held p) ∙ back)
    ∙ (led-jumps after p tos (at + 1) line_after ∙ last)))

pub defaults : (c : Context) (e : Emission) (r o : ℕ) (f : CoreForm) (tos : List ℕ) → 0 < o
    → tos ≡ starts c (ahead (here e) (o + 1)) r (o + 1) (forms_in f)
    → led (with_piece (with_piece e (held_jumps (o + 1))) (in_turn c (ahead (here e) (o + 1)) r (forms_in f)))
    (here e).line tos
    ≡ with_piece e (with_defaults c (here e) r o f)
defaults c e r zero f tos h is = absurd (omega arith)
defaults c e r (suc o) f tos h is =
    let t = ahead (here e) (suc o + 1) in
    let body = in_turn c t r (forms_in f) in
    let count : length tos ≡ suc o + 1 = ap length is ∙ starts-length c t r (suc o + 1) (forms_in f) in
    ap (λ (n : ℕ). led (with_piece (with_piece e (held_jumps n)) body) (here e).line tos) (sym count)
    ∙ (led-jumps e body tos (here e).line refl
    ∙ (ap (λ (ns : List ℕ). with_piece (with_piece e (jumps_to ns)) body) is
    ∙ (with-both e (jumps_to (starts c t r (suc o + 1) (forms_in f))) body
    ∙ ap (with_piece e) (sym (with-forms c (here e) r (suc o + 1) f)))))

pub no-defaults : (c : Context) (s : Spot) (r o : ℕ) (f : CoreForm) → o ≡ 0 → with_defaults c s r o f ≡ gen c s r f
no-defaults c s r zero f h = refl
no-defaults c s r (suc o) f h = absurd (omega arith)

pub ruleset start_laws = (
  held-step,
  replicate-step,
  starts-none,
  starts-zero,
  starts-step,
  past-held,
  defaults,
  no-defaults,
)
