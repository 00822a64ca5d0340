use Rattle.std.proofs.Common.{◌≡◌, None, length, arith, sym, ◌∙◌}
use Rattle.rite_code.specs.Spelling.{decode}
use Rattle.code_outline.specs.Layout.{layout}
use Rattle.code_listing.specs.Listing as texts
use Rattle.code_listing.proofs.CodeLines.{lines_at, next_line, no_line, end_lines}
use Rattle.rb_refusal.proofs.Progress.{started, went_on, stopped, finished, ended}
use Rattle.code_listing.proofs.instructions.write_code.Goals as goal

pub instructions-init : goal.instructions-init
unfolding texts.code_lines layout lines_at
instructions-init g c = record {
  within = omega arith;
  most = length c.args.code.now;
  enough = omega arith;
  progress = started _ _;
}

pub returns-in_default : goal.returns-in_default
returns-in_default g c =
    let i = c.instructions.invariant in
    let none : decode c.args.version c.args.code.now c.instructions.at ≡ None = sym c.decode.ensures.value
    ∙ c.in_default.is in
    ended _ _ _ _ _ _ _ (no_line i.most c.args.version c.args.code.now c.instructions.at c.instructions-test.true
    i.enough none) i.progress c.write_unreadable.ensures

pub returns-in_err-write_instruction : goal.returns-in_err-write_instruction
returns-in_err-write_instruction g c =
    let i = c.instructions.invariant in
    let next = next_line i.most c.args.version c.args.code.now c.instructions.at _ _ c.instructions-test.true i.enough
    (sym c.in-Some.ensures.value) c.in-Some.ensures.within.0 in
    stopped _ _ _ _ _ _ _ _ _ _ c.in_err-write_instruction.was c.from_residual.ensures.0 next.1.1 i.progress
    c.write_instruction.ensures

pub instructions-preserved : goal.instructions-preserved
instructions-preserved g c =
    let i = c.instructions.invariant in
    let next = next_line i.most c.args.version c.args.code.now c.instructions.at _ _ c.instructions-test.true i.enough
    (sym c.in-Some.ensures.value) c.in-Some.ensures.within.0 in
    record {
      within = c.in-Some.ensures.within.1;
      most = next.0;
      enough = next.1.0;
      progress = went_on _ _ _ _ _ _ _ _ _ c.in_ok-write_instruction.was next.1.1 i.progress
          c.write_instruction.ensures;
    }

pub returns : goal.returns
returns g c =
    finished _ _ _ _ (end_lines c.instructions.invariant.most c.args.version c.args.code.now c.instructions.at
    (omega arith)) c.instructions.invariant.progress
