use Rattle.rite_tool.proofs.Encoding.{encodes}
use Rattle.rite_tool.proofs.building.encode.Goals as goal

pub returns : goal.returns
returns c =
    let compiled = c.in_ok-code.ensures in (
      c.in_ok-code.code,
      encodes _ _ c.in_ok-code.code compiled.implements compiled.whole compiled.version compiled.verified
          c.in_ok-bytes.ensures.spelled,
    )
