use Rattle.std.proofs.Common.{◌≡◌, drop}
use Rattle.code_verifier.specs.Answers.{answer}
use Rattle.code_verifier.specs.Checks.{first, bodies_bad, first_bad}
use Rattle.code_verifier.proofs.bodies.check_bodies.Given as goal

abbrev pub invariant-loop-number : goal.invariant-loop-number
invariant-loop-number l = answer (first (bodies_bad l.fn.code l.number (drop l.number l.bodies)))
    ≡ answer (first_bad l.fn.code)
