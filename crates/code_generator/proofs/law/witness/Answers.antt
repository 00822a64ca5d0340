use Rattle.std.proofs.Common.{◌≡◌, ℕ, List, [], ◌∷◌, ◌++◌, refl, ap, ◌∙◌, arith}
use Rattle.std.specs.Prelude.{codes, decimal}
use Rattle.std.proofs.lemmas.Fmt.{decimal_digit}
use Rattle.rite_code.specs.Spelling.{encoding, decode_wide_at, front, narrow_front}
use Rattle.rite_code.specs.Table.{opcode_of, opcodes}
use Rattle.path_core.specs.Rows.{call, integer}
use Rattle.path_eval.specs.Seen.{Ended, Over}
use Rattle.path_eval.specs.Transition.{outcome}
use Rattle.path_turns.specs.State.{slot_at, put}
use Rattle.path_turns.specs.Turn.{fetch, target, is_puts}
use Rattle.code_generator.proofs.law.witness.Goals as goal

abbrev lines : List ℕ → List ℕ → List ℕ
lines a b = ([] ++ (a ++ 10 ∷ [])) ++ (b ++ 10 ∷ [])

digits : lines (decimal 2) (decimal 1) ≡ codes "2\n1\n"
digits = ap (λ (a : List ℕ). lines a (decimal 1)) (decimal_digit 2 (omega arith))
    ∙ ap (lines (50 ∷ [])) (decimal_digit 1 (omega arith))

pub returns : goal.returns
unfolding encoding decode_wide_at front narrow_front opcode_of opcodes call integer outcome slot_at put fetch target is_puts
returns c = record {
  within = record { plain = refl; scoped = refl; short = refl; few_names = omega arith; few_parts = omega arith };
  evaluates = λ input. ap (λ (out : List ℕ). Over (Ended out 0)) digits;
  runs = λ input. ap (λ (out : List ℕ). Over (Ended out 0)) digits;
}
