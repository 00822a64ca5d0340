-- A program whose evaluation and whose code end alike.
use Rattle.std.specs.Prelude.{◌≡◌, ℕ, pos, List, codes}
use Rattle.rb_syntax.specs.declared.operator.Operator.TheVariants.{Minus, Greater}
use Rattle.path_core.specs.Form.{Form, strict, local, set_local, seq, while_form, give_int, call_operator, call_puts, none, more, one, two}
use Rattle.code_generator.specs.Limits.{IsWithin}
use Rattle.path_eval.specs.Steps.{times}
use Rattle.path_eval.specs.Seen.{Ended, Over}
use Rattle.path_eval.specs.Configuration.{opening, seen}
use Rattle.path_eval.specs.Transition.{go}
use Rattle.path_turns.specs.State.{start, shown}
use Rattle.path_turns.specs.Turn.{turn}
use Rattle.code_generator.specs.Gen.{code_of}
use Rattle.code_generator.specs.Implements.{source_of}

abbrev pub number : ℕ → Form
number n = strict (give_int (pos n)) none

-- i = 2; while i > 0; puts i; i = i - 1; end
abbrev pub countdown : Form
countdown =
    seq (more (set_local (codes "i") (number 2))
    (more (while_form (strict (call_operator Greater) (two (local (codes "i")) (number 0)))
    (seq (two (strict call_puts (one (local (codes "i"))))
    (set_local (codes "i") (strict (call_operator Minus) (two (local (codes "i")) (number 1)))))))
    none))

-- both sides end with the lines 2 and 1
pub record IsWitness (f : Form) : Type 0 where
  pub within : IsWithin f
  pub evaluates : (input : List ℕ) → seen (times 60 (go (source_of f)) (opening (source_of f) input)) ≡ Over
      (Ended (codes "2\n1\n") 0)
  pub runs : (input : List ℕ) → shown (times 40 (turn (code_of f)) (start (code_of f) input)) ≡ Over
      (Ended (codes "2\n1\n") 0)
