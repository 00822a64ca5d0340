use Rattle.std.proofs.Common.{◌≡◌, drop, map}
use Rattle.code_outline.specs.Layout.{layout}
use Rattle.code_outline.specs.Outlined.{seen}
use Rattle.code_verifier.specs.Answers.{answer}
use Rattle.code_verifier.specs.Checks.{first, instructions_bad, bad, cause_of}
use Rattle.code_verifier.proofs.bodies.check_instructions.Given as goal

abbrev pub invariant-loop-standing : goal.invariant-loop-standing
invariant-loop-standing l =
    let list = layout l.fn.code.version l.fn.body.code in
    answer (first (map (λ s. bad l.fn.number s.at (cause_of l.fn.code l.fn.number l.fn.body list (seen s)))
    (drop l.standing-index l.standing-items)))
    ≡ answer (first (instructions_bad l.fn.code l.fn.number l.fn.body list list))
