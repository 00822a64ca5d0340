use Rattle.std.proofs.Common.{sym, ap, ◌∙◌, map, List}
use Rattle.std.specs.Prelude.{Option}
use Rattle.std.proofs.lemmas.Simd.{map-map}
use Rattle.code_outline.specs.Layout.{layout}
use Rattle.code_outline.specs.Layout as laid
use Rattle.code_outline.specs.Outlined.{seen}
use Rattle.code_outline.specs.declared.layout.Standing.{Standing}
use Rattle.code_verifier.specs.Answers.{answer}
use Rattle.code_verifier.specs.Checks.{Bad, bad, cause_of, first}
use Rattle.code_verifier.proofs.Firsts.{step_past, step_before, all_past, broken, unbroken}
use Rattle.code_verifier.proofs.bodies.check_instructions.Goals as goal

pub loop-standing-init : goal.loop-standing-init
loop-standing-init c =
    let list = layout c.args.code.now.version c.args.body.now.code in
    let found = λ (s : laid.Standing). bad c.args.number s.at
    (cause_of c.args.code.now c.args.number c.args.body.now list s) in
    ap (λ (xs : List Standing). answer (first (map (λ (s : Standing). found (seen s)) xs)))
    c.as_slice-standing-items.ensures
    ∙ (ap (λ (xs : List (Option Bad)). answer (first xs)) (sym (map-map found seen c.args.layout.now.instructions))
    ∙ ap (λ (ss : List laid.Standing). answer (first (map found ss))) c.requires.laid.instructions)

pub returns-in-Err : goal.returns-in-Err
returns-in-Err c =
    let list = layout c.args.code.now.version c.args.body.now.code in
    let found = λ (s : Standing). bad c.args.number s.at (cause_of c.args.code.now c.args.number c.args.body.now list
    (seen s)) in
    sym (step_before found c.as_slice-standing-items.result.now c.loop-standing.standing-index c.standing-item.result
    _ c.loop-standing-test.true c.standing-item.is
    (broken c.args.number c.standing-item.result.at _ c.in-Err.cause c.in-Err.ensures))
    ∙ c.loop-standing.invariant

pub loop-standing-preserved : goal.loop-standing-preserved
loop-standing-preserved c =
    let list = layout c.args.code.now.version c.args.body.now.code in
    let found = λ (s : Standing). bad c.args.number s.at (cause_of c.args.code.now c.args.number c.args.body.now list
    (seen s)) in
    sym (step_past found c.as_slice-standing-items.result.now c.loop-standing.standing-index c.standing-item.result
    c.loop-standing-test.true c.standing-item.is
    (unbroken c.args.number c.standing-item.result.at _ c.in_default.ensures))
    ∙ c.loop-standing.invariant

pub returns : goal.returns
returns c =
    let list = layout c.args.code.now.version c.args.body.now.code in
    let found = λ (s : Standing). bad c.args.number s.at (cause_of c.args.code.now c.args.number c.args.body.now list
    (seen s)) in
    sym (all_past found c.as_slice-standing-items.result.now c.loop-standing.standing-index
    c.loop-standing-test.false) ∙ c.loop-standing.invariant
