use Rattle.std.proofs.Common.{◌≡◌, sym, ap, ◌∙◌, arith}
use Rattle.std.specs.Prelude.{Ok, Err}
use Rattle.std.proofs.lemmas.Grind.{common_steps}
use Rattle.rite_code.specs.declared.code.Irep.{Irep}
use Rattle.code_verifier.specs.Answers.{answer}
use Rattle.code_verifier.specs.Checks.{body_bad, first_bad}
use Rattle.code_verifier.proofs.Faults.{is_fault, no_fault}
use Rattle.code_verifier.proofs.InOrder.{body_past, body_before, bodies_past}
use Rattle.code_verifier.proofs.Known.{makers_known}
use Rattle.code_verifier.proofs.bodies.check_bodies.Goals as goal

pub check_body-requires : goal.check_body-requires
check_body-requires c = record {
  outlined = c.requires;
  makers = makers_known c.args.code.now c.args.outline.now c.bodies-bodies.ensures.whole c.requires;
  number = grind (arith, common_steps);
  small = grind (arith, common_steps);
  laid = rw (← c.version.ensures.value, ← c.as_slice.ensures) c.in_ok-layout.ensures;
}

pub returns-in_err-check_body : goal.returns-in_err-check_body
returns-in_err-check_body c =
    let h : Err c.in_err-check_body.field-0.0 ≡ answer (first_bad c.args.code.now) =
    sym (body_before c.args.code.now c.bodies-bodies.result.now c.loop-number.number c.index-bodies-number.result _
    c.loop-number-test.true (c.in_err-check_body.ensures
    ∙ ap (λ (x : Irep). answer (body_bad c.args.code.now c.loop-number.number x)) c.index-bodies-number.is))
    ∙ c.loop-number.invariant in
    grind (arith, common_steps, is_fault _ _ h)

pub loop-number-preserved : goal.loop-number-preserved
loop-number-preserved c =
    sym (body_past c.args.code.now c.bodies-bodies.result.now c.loop-number.number c.index-bodies-number.result
    c.loop-number-test.true (c.in_ok-check_body.ensures
    ∙ ap (λ (x : Irep). answer (body_bad c.args.code.now c.loop-number.number x)) c.index-bodies-number.is))
    ∙ c.loop-number.invariant

pub returns : goal.returns
returns c =
    let h : Ok tt ≡ answer (first_bad c.args.code.now) =
    sym (bodies_past c.args.code.now c.bodies-bodies.result.now c.loop-number.number c.loop-number-test.false)
    ∙ c.loop-number.invariant in
    record { verified = no_fault (first_bad c.args.code.now) h; bad = tt }
