use Rattle.std.proofs.Common.{◌≡◌, ◌+◌, ◌^◌, ◌<◌, ◌≤◌, length, map, arith, refl, ap, sym, ◌∙◌}
use Rattle.std.proofs.lemmas.List.{map-set}
use Rattle.vm_env.specs.Inside.{kept}
use Rattle.vm_env.proofs.Keeping.{kept_at, open_at, closed_at, value_open, value_closed}
use Rattle.vm_env.proofs.envs.Envs.read.Goals as goal

pub overflow_add-env : goal.overflow_add-env
overflow_add-env c =
    let at = kept_at _ c.args.e.0 c.index-env.result.now c.self.invariant (rw (← c.self.view_is) at c.requires.there)
    c.index-env.ensures in
    let o = open_at _ c.args.bank.now c.args.e.0 c.args.i _ at c.if-env.true (rw (← c.self.view_is) at c.requires.lies)
    (rw (← c.self.view_is) at c.requires.within) in
    omega (arith, at.whole.fits, o.within)

pub get-requires-clause-live : goal.get-requires-clause-live
get-requires-clause-live c =
    let at = kept_at _ c.args.e.0 c.index-env.result.now c.self.invariant (rw (← c.self.view_is) at c.requires.there)
    c.index-env.ensures in
    (open_at _ c.args.bank.now c.args.e.0 c.args.i _ at c.if-env.true (rw (← c.self.view_is) at c.requires.lies)
    (rw (← c.self.view_is) at c.requires.within)).live

pub get-requires-clause-within : goal.get-requires-clause-within
get-requires-clause-within c =
    let at = kept_at _ c.args.e.0 c.index-env.result.now c.self.invariant (rw (← c.self.view_is) at c.requires.there)
    c.index-env.ensures in
    let o = open_at _ c.args.bank.now c.args.e.0 c.args.i _ at c.if-env.true (rw (← c.self.view_is) at c.requires.lies)
    (rw (← c.self.view_is) at c.requires.within) in
    omega (arith, o.lies, o.within)

pub index-requires : goal.index-requires
index-requires c =
    let at = kept_at _ c.args.e.0 c.index-env.result.now c.self.invariant (rw (← c.self.view_is) at c.requires.there)
    c.index-env.ensures in
    omega (
      arith,
      closed_at _ c.args.bank.now c.args.e.0 c.args.i _ at c.if-env.false
          (rw (← c.self.view_is) at c.requires.within),
    )

pub returns-then-env : goal.returns-then-env
returns-then-env c =
    let at = kept_at _ c.args.e.0 c.index-env.result.now c.self.invariant (rw (← c.self.view_is) at c.requires.there)
    c.index-env.ensures in
    let o = open_at _ c.args.bank.now c.args.e.0 c.args.i _ at c.if-env.true (rw (← c.self.view_is) at c.requires.lies)
    (rw (← c.self.view_is) at c.requires.within) in
    rw (← c.self.view_is) (value_open _ c.args.bank.now c.args.e.0 c.args.i _ c.get.result at
    c.if-env.true o c.get.ensures)

pub returns-else-env : goal.returns-else-env
returns-else-env c =
    let at = kept_at _ c.args.e.0 c.index-env.result.now c.self.invariant (rw (← c.self.view_is) at c.requires.there)
    c.index-env.ensures in
    let within = closed_at _ c.args.bank.now c.args.e.0 c.args.i _ at c.if-env.false
    (rw (← c.self.view_is) at c.requires.within) in
    rw (← c.self.view_is) (value_closed _ c.args.bank.now c.args.e.0 c.args.i _ c.index.result.now at c.if-env.false
    within c.index.ensures)
