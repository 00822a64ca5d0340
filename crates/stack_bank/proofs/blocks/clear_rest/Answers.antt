use Rattle.std.proofs.Common.{◌≡◌, ◌<◌, ◌/◌, length, arith, ◌∙◌}
use Rattle.std.proofs.lemmas.List.{get_or_default}
use Rattle.stack_bank.proofs.Tables.{clears_some}
use Rattle.stack_bank.proofs.blocks.clear_rest.Goals as goal

pub returns-then-from-ne0 : goal.returns-then-from-ne0
returns-then-from-ne0 c =
    let within : c.args.len / 64 < length c.args.blocks.now.items = omega arith in
    let last = c.index-last.ensures ∙ get_or_default c.args.blocks.now.items (c.args.len / 64) c.index-last.result.now 0
    within in
    rw (c.fill.ensures, c.min.ensures) (clears_some c.args.pool.now c.args.blocks.now.items c.args.len c.args.n
    c.index-last.result.now c.requires.holds c.requires.sized c.if-from-ne0.true last)
