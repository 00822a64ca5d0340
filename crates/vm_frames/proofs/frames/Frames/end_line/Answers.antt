use Rattle.std.proofs.Common.{refl}
use Rattle.std.proofs.lemmas.List.{map-set}
use Rattle.vm_frames.specs.Seen.{line_of}
use Rattle.vm_frames.proofs.frames.Frames.end_line.Goals as goal

pub returns-in-Some : goal.returns-in-Some
returns-in-Some c = rw (map-set line_of c.args.self.now.around.others.items c.args.number c.new.result, c.new.ensures)
    refl
