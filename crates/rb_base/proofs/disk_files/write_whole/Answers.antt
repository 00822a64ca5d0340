use Rattle.std.proofs.Common.{arith, length-drop}
use Rattle.std.proofs.lemmas.List.{take_rest}
use Rattle.rb_base.proofs.Known.{appended_further}
use Rattle.rb_base.proofs.disk_files.write_whole.Goals as goal

pub pieces-preserved : goal.pieces-preserved
pieces-preserved g c =
    let rest = take_rest c.args.bytes.now c.pieces.at in
    let ensures = c.in-Some.ensures in (
      grind (arith, length-drop, rest, c.pieces.invariant.0, ensures.some),
      appended_further _ _ _ _ _ _ c.pieces.invariant.1 (rw rest at ensures.bytes),
    )
