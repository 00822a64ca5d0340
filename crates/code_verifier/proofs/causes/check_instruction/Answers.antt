use Rattle.std.proofs.Common.{◌≢◌, ◌<◌, ap, sym, length, arith}
use Rattle.std.specs.Prelude.{IsTrue}
use Rattle.std.proofs.lemmas.Bool.{ne_eqb, lt-ltb}
use Rattle.code_outline.specs.Layout.{layout}
use Rattle.code_outline.specs.Outlined.{seen}
use Rattle.code_verifier.specs.Answers.{outcome}
use Rattle.code_verifier.specs.Plain.{passes}
use Rattle.code_verifier.proofs.PlainCauses.{no_cause}
use Rattle.code_verifier.proofs.causes.check_instruction.Goals as goal

pub returns-then-passes : goal.returns-then-passes
returns-then-passes c =
    let p = c.args.code.now in
    let b = c.args.body.now in
    let s = seen c.args.standing.now in
    let passing : IsTrue (passes b s.instruction.operation) =
    rw (← c.operation.ensures.value) (c.passes.ensures c.if-passes.true) in
    let away : s.at ≢ 0 = omega (arith, c.if-at-ne0.true) in
    let before : s.next < length b.code = omega (arith, c.if-next-len.true, c.len.ensures) in
    ap outcome (sym (no_cause p c.args.number b (layout p.version b.code) s passing (ne_eqb s.at 0 away)
    (lt-ltb s.next (length b.code) before)))
