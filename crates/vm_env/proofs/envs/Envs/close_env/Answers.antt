use Rattle.std.proofs.Common.{◌≡◌, ◌+◌, ◌^◌, ◌<◌, ◌≤◌, length, map, arith, refl, ap, sym, ◌∙◌}
use Rattle.std.proofs.lemmas.List.{map-set}
use Rattle.vm_env.specs.Inside.{kept}
use Rattle.vm_env.proofs.Keeping.{kept_at, is_open, lies_open, open_there, closes}
use Rattle.vm_env.proofs.envs.Envs.close_env.Goals as goal

pub copy_window-requires-clause-live : goal.copy_window-requires-clause-live
copy_window-requires-clause-live c =
    let open_e = rw (← c.self.view_is) at c.requires.open in
    let at = kept_at _ c.args.e.0 c.index_mut-env.result.now c.self.invariant (open_there _ _ open_e)
    c.index_mut-env.ensures.value in
    (lies_open _ c.args.bank.now c.args.e.0 _ at (is_open _ _ _ at open_e) (rw (← c.self.view_is) at c.requires.lies)).0

pub copy_window-requires-clause-within : goal.copy_window-requires-clause-within
copy_window-requires-clause-within c =
    let open_e = rw (← c.self.view_is) at c.requires.open in
    let at = kept_at _ c.args.e.0 c.index_mut-env.result.now c.self.invariant (open_there _ _ open_e)
    c.index_mut-env.ensures.value in
    (lies_open _ c.args.bank.now c.args.e.0 _ at (is_open _ _ _ at open_e) (rw (← c.self.view_is) at c.requires.lies)).1

pub copy_window-requires-clause-fits : goal.copy_window-requires-clause-fits
copy_window-requires-clause-fits c =
    let open_e = rw (← c.self.view_is) at c.requires.open in
    (kept_at _ c.args.e.0 c.index_mut-env.result.now c.self.invariant (open_there _ _ open_e)
    c.index_mut-env.ensures.value).whole.fits

pub copy_window-requires-clause-room : goal.copy_window-requires-clause-room
copy_window-requires-clause-room c =
    let open_e = rw (← c.self.view_is) at c.requires.open in
    let at = kept_at _ c.args.e.0 c.index_mut-env.result.now c.self.invariant (open_there _ _ open_e)
    c.index_mut-env.ensures.value in
    let is = is_open _ _ _ at open_e in
    omega (arith, at.whole.room is, ap length (at.whole.empty is))

pub invariant_of-self : goal.invariant_of-self
invariant_of-self c =
    let open_e = rw (← c.self.view_is) at c.requires.open in
    let at = kept_at _ c.args.e.0 c.index_mut-env.result.now c.self.invariant (open_there _ _ open_e)
    c.index_mut-env.ensures.value in
    rw (map-set kept) (closes _ c.args.bank.now c.args.e.0 _ _ c.self.invariant at (is_open _ _ _ at open_e) refl
    at.whole.fits c.copy_window.ensures).sound

pub returns-clause-closed : goal.returns-clause-closed
returns-clause-closed c =
    let open_e = rw (← c.self.view_is) at c.requires.open in
    let at = kept_at _ c.args.e.0 c.index_mut-env.result.now c.self.invariant (open_there _ _ open_e)
    c.index_mut-env.ensures.value in
    rw (map-set kept, ← c.self.view_is) (closes _ c.args.bank.now c.args.e.0 _ _ c.self.invariant at
    (is_open _ _ _ at open_e) refl at.whole.fits c.copy_window.ensures).seen_as

pub returns-clause-kept : goal.returns-clause-kept
returns-clause-kept c =
    let open_e = rw (← c.self.view_is) at c.requires.open in
    let at = kept_at _ c.args.e.0 c.index_mut-env.result.now c.self.invariant (open_there _ _ open_e)
    c.index_mut-env.ensures.value in
    rw (map-set kept, ← c.self.view_is) (closes _ c.args.bank.now c.args.e.0 _ _ c.self.invariant at
    (is_open _ _ _ at open_e) refl at.whole.fits c.copy_window.ensures).same
