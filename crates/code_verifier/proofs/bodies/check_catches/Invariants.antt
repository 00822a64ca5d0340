use Rattle.std.proofs.Common.{◌≡◌, drop}
use Rattle.code_outline.specs.Layout.{layout}
use Rattle.code_verifier.specs.Answers.{answer}
use Rattle.code_verifier.specs.Checks.{first, catches_bad}
use Rattle.code_verifier.proofs.bodies.check_catches.Given as goal

abbrev pub invariant-loop-entry : goal.invariant-loop-entry
invariant-loop-entry l =
    let list = layout l.fn.version l.fn.body.code in
    answer (first (catches_bad l.fn.number l.fn.body list (drop l.entry-index l.entry-items)))
    ≡ answer (first (catches_bad l.fn.number l.fn.body list l.fn.body.catches))
