-- How many places where forms begin there are.
use Rattle.std.proofs.Common.{◌≡◌, ℕ, zero, suc, length, replicate, arith, refl}
use Rattle.ir_core.specs.CoreForm as form
use Rattle.ir_core.specs.CoreForm.{Forms}
use Rattle.gen_parts.specs.declared.emitter.Spot.{Spot}
use Rattle.gen_parts.specs.Pieces.{past}
use Rattle.gen_forms.specs.Gen.{Context, gen, starts}

pub length_replicate : (n x : ℕ) → length (replicate n x) ≡ n
length_replicate zero x = refl
length_replicate (suc n) x = omega (arith, length_replicate n x)

pub starts_length : (es : Forms) (c : Context) (s : Spot) (r n : ℕ) → length (starts c s r n es) ≡ n
starts_length form.none c s r n = length_replicate n s.line
starts_length (form.more e es) c s r zero = refl
starts_length (form.more e es) c s r (suc n) = omega (arith, starts_length es c (past s (gen c s r e)) r n)
