use Rattle.std.proofs.Common.{◌∙◌, ap, map}
use Rattle.std.proofs.lemmas.List.{take_all}
use Rattle.code_outline.specs.Makers.{around}
use Rattle.code_outline.proofs.Outers.{outers_more}
use Rattle.code_outline.proofs.scoping.outers_of.Goals as goal

pub loop-maker-preserved : goal.loop-maker-preserved
loop-maker-preserved c = rw (c.in_ok-push.ensures.ok, c.around.ensures)
    (outers_more c.args.makers.now c.loop-maker.maker-index c.loop-maker.outers c.loop-maker-test.true
    c.loop-maker.invariant)

pub returns : goal.returns
returns c =
    c.loop-maker.invariant
    ∙ ap (map around) (take_all c.loop-maker.maker-index c.args.makers.now c.loop-maker-test.false)
