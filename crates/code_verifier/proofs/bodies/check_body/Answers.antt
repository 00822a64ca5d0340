use Rattle.std.proofs.Common.{ap, ◌∙◌, map, length, List, ℕ, arith}
use Rattle.code_outline.specs.Layout.{end_of, layout}
use Rattle.code_outline.specs.Outlined.{seen}
use Rattle.code_outline.specs.declared.layout.Standing.{Standing}
use Rattle.code_verifier.specs.Checks.{first, catches_bad}
use Rattle.code_verifier.specs.Answers.{answer}
use Rattle.code_outline.proofs.Rows.{row-layout, row-end}
use Rattle.code_verifier.proofs.Parts.{in_end, in_catches}
use Rattle.code_verifier.proofs.bodies.check_body.Goals as goal

pub check_end-requires : goal.check_end-requires
check_end-requires c =
    let end = c.end_of-end.ensures ∙ (ap (λ (xs : List Standing). end_of 0 (map seen xs)) c.as_slice.ensures
    ∙ ap (end_of 0) c.requires.laid.instructions) in
    let row = row-layout c.args.code.now.version c.args.body.now.code in
    let within = row-end (length c.args.body.now.code) 0 (layout c.args.code.now.version c.args.body.now.code) row in
    omega (arith, end, within.1, ap length c.as_slice-2.ensures)

pub returns-in-Err : goal.returns-in-Err
returns-in-Err c =
    let end = c.end_of-end.ensures ∙ (ap (λ (xs : List Standing). end_of 0 (map seen xs)) c.as_slice.ensures
    ∙ ap (end_of 0) c.requires.laid.instructions) in
    in_end c.args.code.now c.args.number c.args.body.now c.version-version.result c.as_slice-2.result.now
    c.end_of-end.result c.in-Err.cause c.version-version.ensures.value c.as_slice-2.ensures end
    c.in_ok-check_instructions.ensures c.in-Err.ensures

pub returns : goal.returns
returns c =
    let end = c.end_of-end.ensures ∙ (ap (λ (xs : List Standing). end_of 0 (map seen xs)) c.as_slice.ensures
    ∙ ap (end_of 0) c.requires.laid.instructions) in
    c.check_catches.ensures
    ∙ (ap (λ (v : ℕ). answer
    (first (catches_bad c.args.number c.args.body.now (layout v c.args.body.now.code) c.args.body.now.catches)))
    c.version-version.ensures.value
    ∙ in_catches c.args.code.now c.args.number c.args.body.now c.version-version.result c.as_slice-2.result.now
    c.end_of-end.result c.version-version.ensures.value c.as_slice-2.ensures end
    c.in_ok-check_instructions.ensures c.in_default.ensures)
