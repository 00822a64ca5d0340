use Rattle.std.proofs.Common.{rules, ◌≡◌, ◌<◌, length, map, sym}
use Rattle.std.specs.Prelude.{Some}
use Rattle.std.specs.List.{slice_get}
use Rattle.std.proofs.lemmas.List.{map-set}
use Rattle.vm_frames.specs.Seen.{around_of, line_of}
use Rattle.vm_frames.proofs.Storing.{get_seen, aside_some}
use Rattle.vm_frames.proofs.capturing.Around.write_aside.Goals as goal

pub returns-in-Some : goal.returns-in-Some
returns-in-Some c =
    let within : c.args.line < length c.args.self.now.others.items = search rules in
    let there : slice_get (map line_of c.args.self.now.others.items) c.args.line ≡ Some (line_of c.in-Some.line.now)
    = get_seen line_of _ _ c.in-Some.line.now within c.in-Some.ensures.value in
    rw (map-set line_of c.args.self.now.others.items c.args.line c.put.new.self, c.put.ensures)
    (sym (aside_some (around_of c.args.self.now) c.args.line c.args.place c.args.value _ there))
