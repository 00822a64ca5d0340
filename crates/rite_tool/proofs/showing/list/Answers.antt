use Rattle.rite_tool.proofs.Disks.{disk, stream}
use Rattle.rite_tool.proofs.Listing.{unlisted, listed_as}
use Rattle.rite_tool.proofs.showing.list.Goals as goal

pub returns-in_err-code-clause-shows : goal.returns-in_err-code-clause-shows
returns-in_err-code-clause-shows g c =
    let before = disk g.F.Files.tells g.F.Files.file g.F.Files.load_faults g.F.Files.store_faults c.args.files.now in
    let after = disk g.F.Files.tells g.F.Files.file g.F.Files.load_faults g.F.Files.store_faults c.load.new.files in
    unlisted before after (stream g.O.Sink.taken g.O.Sink.faults c.args.out.now) c.args.file.now c.in_err-code.field-0.0
    c.from_residual.result c.from_residual.ensures.1 c.in_err-code.ensures

pub returns-clause-shows : goal.returns-clause-shows
returns-clause-shows g c =
    let before = disk g.F.Files.tells g.F.Files.file g.F.Files.load_faults g.F.Files.store_faults c.args.files.now in
    let after = disk g.F.Files.tells g.F.Files.file g.F.Files.load_faults g.F.Files.store_faults c.load.new.files in
    listed_as before after (stream g.O.Sink.taken g.O.Sink.faults c.args.out.now)
    (stream g.O.Sink.taken g.O.Sink.faults c.list.new.out) c.args.file.now c.in_ok-code.code c.list.result
    c.in_ok-code.ensures c.list.ensures
