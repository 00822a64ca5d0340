use Rattle.std.proofs.Common.{rules, arith, ◌≡◌, ◌<◌, length, map, true, false, nat_eq, sym, ap}
use Rattle.std.specs.Prelude.{Some}
use Rattle.std.specs.List.{slice_get}
use Rattle.std.proofs.lemmas.List.{map-set}
use Rattle.std.proofs.lemmas.Bool.Decides.{nat_tests}
use Rattle.vm_frames.specs.Registers.{wrapped}
use Rattle.vm_frames.specs.Seen.{around_of, env_of}
use Rattle.vm_frames.specs.Environments.{Written}
use Rattle.vm_frames.proofs.Storing.{get_seen, same_seen, written_closed, written_here, written_there}
use Rattle.vm_frames.proofs.capturing.Around.write.Goals as goal

pub returns-then-not-env-clause-around : goal.returns-then-not-env-clause-around
returns-then-not-env-clause-around c =
    let within : c.args.number < length c.args.self.now.envs.items = search rules in
    let there : slice_get (map env_of c.args.self.now.envs.items) c.args.number ≡ Some (env_of c.in-Some.env.now)
    = get_seen env_of _ _ c.in-Some.env.now within c.in-Some.ensures.value in
    let shut : c.in-Some.env.now.«open» ≡ false = search rules in
    rw (map-set env_of c.args.self.now.envs.items c.args.number c.put.new.self, c.put.ensures)
    (ap (λ (w : Written). w.around) (sym (written_closed (around_of c.args.self.now) c.args.registers.now c.args.number
    _ c.args.b c.args.value there shut)))

pub returns-then-env-self-clause-registers : goal.returns-then-env-self-clause-registers
unfolding wrapped
returns-then-env-self-clause-registers c =
    let within : c.args.number < length c.args.self.now.envs.items = search rules in
    let there : slice_get (map env_of c.args.self.now.envs.items) c.args.number ≡ Some (env_of c.in-Some.env.now)
    = get_seen env_of _ _ c.in-Some.env.now within c.in-Some.ensures.value in
    let stands : c.in-Some.env.now.«open» ≡ true = search rules in
    let here : nat_eq c.in-Some.env.now.line c.args.self.now.running ≡ true = grind (arith, nat_tests) in
    rw (c.put_at.ensures, c.from.ensures)
    (ap (λ (w : Written). w.registers) (sym (written_here (around_of c.args.self.now) c.args.registers.now
    c.args.number _ c.args.b c.args.value there stands here)))

pub returns-then-env-self-clause-around : goal.returns-then-env-self-clause-around
returns-then-env-self-clause-around c =
    let within : c.args.number < length c.args.self.now.envs.items = search rules in
    let there : slice_get (map env_of c.args.self.now.envs.items) c.args.number ≡ Some (env_of c.in-Some.env.now)
    = get_seen env_of _ _ c.in-Some.env.now within c.in-Some.ensures.value in
    let stands : c.in-Some.env.now.«open» ≡ true = search rules in
    let here : nat_eq c.in-Some.env.now.line c.args.self.now.running ≡ true = grind (arith, nat_tests) in
    rw (same_seen env_of c.args.self.now.envs.items c.args.number c.in-Some.env.now within c.in-Some.ensures.value)
    (ap (λ (w : Written). w.around) (sym (written_here (around_of c.args.self.now) c.args.registers.now
    c.args.number _ c.args.b c.args.value there stands here)))

pub returns-else-env-self-clause-registers : goal.returns-else-env-self-clause-registers
returns-else-env-self-clause-registers c =
    let within : c.args.number < length c.args.self.now.envs.items = search rules in
    let there : slice_get (map env_of c.args.self.now.envs.items) c.args.number ≡ Some (env_of c.in-Some.env.now)
    = get_seen env_of _ _ c.in-Some.env.now within c.in-Some.ensures.value in
    let stands : c.in-Some.env.now.«open» ≡ true = search rules in
    let aside : nat_eq c.in-Some.env.now.line c.args.self.now.running ≡ false = grind (arith, nat_tests) in
    ap (λ (w : Written). w.registers) (sym (written_there (around_of c.args.self.now) c.args.registers.now
    c.args.number _ c.args.b c.args.value there stands aside))

pub returns-else-env-self-clause-around : goal.returns-else-env-self-clause-around
unfolding wrapped
returns-else-env-self-clause-around c =
    let within : c.args.number < length c.args.self.now.envs.items = search rules in
    let there : slice_get (map env_of c.args.self.now.envs.items) c.args.number ≡ Some (env_of c.in-Some.env.now)
    = get_seen env_of _ _ c.in-Some.env.now within c.in-Some.ensures.value in
    let stands : c.in-Some.env.now.«open» ≡ true = search rules in
    let aside : nat_eq c.in-Some.env.now.line c.args.self.now.running ≡ false = grind (arith, nat_tests) in
    rw (
      c.write_aside.ensures,
      c.from.ensures,
      same_seen env_of c.args.self.now.envs.items c.args.number c.in-Some.env.now within c.in-Some.ensures.value,
    )
    (ap (λ (w : Written). w.around) (sym (written_there (around_of c.args.self.now) c.args.registers.now
    c.args.number _ c.args.b c.args.value there stands aside)))
