use Rattle.std.proofs.Common.{rules, ◌≡◌, ◌<◌, length, map, true, false, sym, ◌∙◌}
use Rattle.std.specs.Prelude.{Some}
use Rattle.std.specs.List.{slice_get}
use Rattle.std.proofs.lemmas.List.{map-set}
use Rattle.vm_frames.specs.Seen.{around_of, env_of}
use Rattle.vm_frames.proofs.Storing.{get_seen, same_seen, closed_some}
use Rattle.vm_frames.proofs.capturing.Around.close.Goals as goal

pub returns-then-stands_in : goal.returns-then-stands_in
returns-then-stands_in c =
    let within : c.args.number < length c.args.self.now.envs.items = search rules in
    let there : slice_get (map env_of c.args.self.now.envs.items) c.args.number ≡ Some (env_of c.in-Some.env.now)
    = get_seen env_of _ _ c.in-Some.env.now within c.in-Some.ensures.value in
    rw (map-set env_of c.args.self.now.envs.items c.args.number c.close.new.self, c.close.ensures)
    (sym (closed_some (around_of c.args.self.now) c.args.registers.now c.args.number _ true there
    (sym c.stands_in.ensures ∙ c.if-stands_in.true)))

pub returns-else-stands_in : goal.returns-else-stands_in
returns-else-stands_in c =
    let within : c.args.number < length c.args.self.now.envs.items = search rules in
    let there : slice_get (map env_of c.args.self.now.envs.items) c.args.number ≡ Some (env_of c.in-Some.env.now)
    = get_seen env_of _ _ c.in-Some.env.now within c.in-Some.ensures.value in
    rw (same_seen env_of c.args.self.now.envs.items c.args.number c.in-Some.env.now within c.in-Some.ensures.value)
    (sym (closed_some (around_of c.args.self.now) c.args.registers.now c.args.number _ false there
    (sym c.stands_in.ensures ∙ c.if-stands_in.false)))
