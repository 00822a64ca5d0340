use Rattle.std.proofs.Common.{rules, ◌≡◌, ◌<◌, ◌≤◌, length, map, sym}
use Rattle.std.specs.Prelude.{Some}
use Rattle.std.specs.List.{slice_get}
use Rattle.std.proofs.lemmas.List.{map-set}
use Rattle.vm_frames.specs.Seen.{of, line_of}
use Rattle.vm_frames.proofs.Storing.{get_seen, get_none, exchange_some, exchange_none}
use Rattle.vm_frames.proofs.frames.Frames.exchange.Goals as goal

pub returns-in-Some : goal.returns-in-Some
returns-in-Some c =
    let within : c.args.number < length c.args.self.now.around.others.items = search rules in
    let there : slice_get (map line_of c.args.self.now.around.others.items) c.args.number
    ≡ Some (line_of c.in-Some.place.now)
    = get_seen line_of _ _ c.in-Some.place.now within c.in-Some.ensures.value in
    rw (
      c.swap.ensures.x_after,
      c.swap.ensures.y_after,
      map-set line_of c.args.self.now.around.others.items c.args.number c.args.self.now.line,
    )
    (sym (exchange_some (of c.args.self.now) c.args.number _ there))

pub returns-in_default : goal.returns-in_default
returns-in_default c =
    let past : length c.args.self.now.around.others.items ≤ c.args.number = search rules in
    sym (exchange_none (of c.args.self.now) c.args.number
    (get_none line_of c.args.self.now.around.others.items c.args.number past))
