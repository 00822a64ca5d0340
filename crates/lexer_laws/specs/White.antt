-- White space: reading over it, step by step.
use Rattle.std.specs.Prelude.{ℕ, zero, suc, List, Result, Ok}
use Rattle.rb_base.specs.Result.{◌>>=◌}
use Rattle.lexer_steps.specs.State.{State}
use Rattle.rb_lexer.specs.Code.{code_step}

-- so many steps outside of literals, from a place on
unfoldable pub steps : ℕ → List ℕ → ℕ → State → Result (State × ℕ) ℕ
steps zero text at s = Ok (s, at)
steps (suc n) text at s = code_step text at s >>= λ a. steps n text a.1 a.0
