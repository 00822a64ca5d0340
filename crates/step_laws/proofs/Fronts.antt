-- What stands at the front of the code of a body: its form, or jumps to the defaults with which the form begins.
use Rattle.std.proofs.Common.{◌≡◌, ◌⊎◌, inl, inr, ℕ, zero, suc, ◌+◌, ◌<◌, List, [], ◌∷◌, length, get_or, replicate, refl, ap, ◌∙◌, subst, arith, true}
use Rattle.std.specs.Prelude.{None}
use Rattle.rite_code.specs.declared.operation.Operation.TheVariants as op
use Rattle.ir_core.specs.CoreForm as form
use Rattle.ir_core.specs.CoreForm.{Local, CoreForm, Forms}
use Rattle.ir_core.specs.Program.{has_defaults}
use Rattle.gen_parts.specs.declared.line.Line.TheVariants as line
use Rattle.gen_parts.specs.declared.emitter.Spot.{Spot}
use Rattle.gen_parts.specs.Pieces.{past, does, jump}
use Rattle.gen_forms.specs.Gen.{Context, gen, in_turn, starts, jumps_to, first_spot, ahead, with_jumps, by_defaults}
use Rattle.step_laws.specs.Site.{Site, LineAt}
use Rattle.step_laws.specs.Covers.{Covers}
use Rattle.step_laws.specs.Bodies.{FormAt, start_of, behind_jumps, DefaultsAt}
use Rattle.step_laws.proofs.Placed.{high, high-both, high-puts, high-nothing, line-behind, Stands, moved, KeepsWithin, left, right, the_line}
use Rattle.step_laws.proofs.Guards.{within_both, within_puts, within_nothing, within_moved}
use Rattle.step_laws.proofs.Within.{KeepsCode, keeps, turns_keep}
use Rattle.step_laws.proofs.Making.{form_by, form_spot}

-- jumps take a line each
jumps_high : (ns : List ℕ) → high (jumps_to ns) ≡ length ns
jumps_high [] = high-nothing
jumps_high (n ∷ ns) = omega (arith, high-both (jump n) (jumps_to ns), high-puts (line.Jump n), jumps_high ns)

jumps_keep : (ns : List ℕ) (m : ℕ) → KeepsWithin m (jumps_to ns)
jumps_keep [] m = within_nothing m
jumps_keep (n ∷ ns) m =
    within_both m (jump n) (jumps_to ns) (within_puts _ _) (jumps_keep ns (m + high (jump n)))

starts_long : (es : Forms) (c : Context) (s : Spot) (r n : ℕ) → length (starts c s r n es) ≡ n
starts_long form.none c s r n = long n
  where
    long : (k : ℕ) → length (replicate k s.line) ≡ k
    long zero = refl
    long (suc k) = ap suc (long k)
starts_long (form.more e es) c s r zero = refl
starts_long (form.more e es) c s r (suc n) = ap suc (starts_long es c (past s (gen c s r e)) r n)

-- the code of a body behind its parameters covers lines of it alone

with_jumps_keep : (f : CoreForm) (n : ℕ) → KeepsCode (λ d u m. with_jumps d u m n f)
with_jumps_keep (form.seq es) n c s r =
    let ns = starts c (ahead s n) r n es in
    let q = in_turn c (ahead s n) r es in
    within_both s.line (jumps_to ns) q (jumps_keep ns s.line)
    (within_moved (ahead s n).line (s.line + high (jumps_to ns)) q
    (omega (arith, jumps_high ns, starts_long es c (ahead s n) r n)) (turns_keep es c (ahead s n) r))
with_jumps_keep f n c s r =
    let ns = replicate n (ahead s n).line in
    within_both s.line (jumps_to ns) (does (op.LoadNil r)) (jumps_keep ns s.line) (within_puts _ _)

pub defaults_keep : (o : ℕ) (f : CoreForm)
    → KeepsCode (by_defaults o (λ d u m. gen d u m f) (λ d u m. with_jumps d u m (o + 1) f))
defaults_keep zero f c s r = keeps f c s r
defaults_keep (suc o) f c s r = with_jumps_keep f (suc o + 1) c s r

nth_jump : (h : Site) (ns : List ℕ) (m i : ℕ) → Stands h m (jumps_to ns) → i < length ns
    → LineAt h (m + i) (line.Jump (get_or ns i 0))
nth_jump h [] m i s lt = absurd (omega (arith, lt))
nth_jump h (n ∷ ns) m zero s lt =
    subst (λ (j : ℕ). LineAt h j (line.Jump n)) (omega arith) (the_line h m (line.Jump n)
    (left h m (jump n) (jumps_to ns) (jumps_keep ns (m + high (jump n))) s))
nth_jump h (n ∷ ns) m (suc i) s lt =
    subst (λ (j : ℕ). LineAt h j (line.Jump (get_or ns i 0))) (omega (arith, high-puts (line.Jump n)))
    (nth_jump h ns (m + high (jump n)) i (right h m (jump n) (jumps_to ns) (within_puts _ _) s) (omega (arith, lt)))

-- they lead to where the forms begin
same_line : (n i x : ℕ) → i < n → get_or (replicate n x) i 0 ≡ x
same_line zero i x lt = absurd (omega (arith, lt))
same_line (suc n) zero x lt = refl
same_line (suc n) (suc i) x lt = same_line n i x (omega (arith, lt))

nth_start : (h : Site) (es : Forms) (s : Spot) (n i : ℕ) → i < n
    → get_or (starts h.context s h.first n es) i 0 ≡ start_of h s i es
nth_start h form.none s n zero lt = same_line n zero s.line lt
nth_start h form.none s n (suc i) lt = same_line n (suc i) s.line lt
nth_start h (form.more e es) s zero i lt = absurd (omega (arith, lt))
nth_start h (form.more e es) s (suc n) zero lt = refl
nth_start h (form.more e es) s (suc n) (suc i) lt =
    nth_start h es (past s (gen h.context s h.first e)) n i (omega (arith, lt))

-- What is shown of the code of a body with so many optional parameters.
pub record Front (h : Site) (os : List Local) (f : CoreForm) : Type 0 where
  pub defaults : has_defaults os f ≡ true
  pub covered : Covers h None h.first (form_spot h.body (length os)) (h.body + 1) f
  pub stands : Stands h 1 (form_by (length os) f h.context h.body h.first)
  pub ends : LineAt h (1 + high (form_by (length os) f h.context h.body h.first)) (line.Does (op.Return h.first))

pub front_of : (h : Site) (f : CoreForm) (os : List Local) → Front h os f
    → FormAt h (length os) f ⊎ DefaultsAt h (length os) f
front_of h f [] q = inl (record { none_optional = refl; covered = q.covered; code = q.stands; ends = q.ends })
front_of h (form.seq (form.more e es)) (x ∷ os) q =
    let o = length (x ∷ os) in
    let sp = behind_jumps h o in
    let fs = form.more e es in
    let ns = starts h.context sp h.first (o + 1) fs in
    let long : length ns ≡ o + 1 = starts_long fs h.context sp h.first (o + 1) in
    let code = in_turn h.context sp h.first fs in
    let tall : high (jumps_to ns) ≡ o + 1 = jumps_high ns ∙ long in
    let kept : KeepsWithin (1 + high (jumps_to ns)) code =
    within_moved sp.line (1 + high (jumps_to ns)) code (omega (arith, tall, line-behind (first_spot h.body)))
    (turns_keep fs h.context sp h.first) in
    inr (record {
      e = e;
      es = es;
      is = refl;
      room = q.covered.0;
      covered = q.covered.1;
      jumps = λ i le.
          subst (λ (n : ℕ). LineAt h (1 + i) (line.Jump n)) (nth_start h fs sp (o + 1) i (omega (arith, le)))
          (nth_jump h ns 1 i (left h 1 (jumps_to ns) code kept q.stands) (omega (arith, le, long)));
      code = moved h (1 + high (jumps_to ns)) (2 + o) code (omega (arith, tall))
          (right h 1 (jumps_to ns) code (jumps_keep ns 1) q.stands);
      ends = subst (λ (n : ℕ). LineAt h n (line.Does (op.Return h.first)))
          (omega (arith, high-both (jumps_to ns) code, tall)) q.ends;
    })
front_of h (form.seq form.none) (x ∷ os) q = absurd (cc q.defaults)
front_of h f (x ∷ os) q = absurd (cc q.defaults)
