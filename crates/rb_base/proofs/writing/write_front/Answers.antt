use Rattle.std.proofs.Common.{arith, ◌∙◌, length-drop}
use Rattle.std.proofs.lemmas.List.{take_rest}
use Rattle.rb_base.proofs.Taking.{took_further}
use Rattle.rb_base.proofs.writing.write_front.Goals as goal

pub pieces-preserved : goal.pieces-preserved
pieces-preserved g c =
    let rest = take_rest c.args.bytes.now c.pieces.at in
    let ensures = c.in-Ok.ensures in (
      grind (arith, length-drop, rest, c.pieces.invariant.0, ensures.some),
      (rw rest at ensures.took) ∙ took_further _ _ _ _ _ c.pieces.invariant.1,
      ensures.counted ∙ c.pieces.invariant.2,
      λ empty. absurd (omega (arith, c.pieces-test.true, empty)),
    )
