use Rattle.std.proofs.Common.{◌≡◌, ◌+◌, ◌^◌, ◌<◌, ◌≤◌, length, map, arith, refl, ap, sym, ◌∙◌}
use Rattle.std.proofs.lemmas.List.{map-set}
use Rattle.vm_env.specs.Inside.{kept}
use Rattle.vm_env.proofs.Keeping.{kept_at, open_at, closed_at, places_slot, one_slot, in_room, same_entry}
use Rattle.vm_env.proofs.envs.Envs.write.Goals as goal

pub overflow_add-env : goal.overflow_add-env
overflow_add-env c =
    let at = kept_at _ c.args.e.0 c.index-env.result.now c.self.invariant (rw (← c.self.view_is) at c.requires.there)
    c.index-env.ensures in
    let o = open_at _ c.args.bank.now c.args.e.0 c.args.i _ at c.if-env.true (rw (← c.self.view_is) at c.requires.lies)
    (rw (← c.self.view_is) at c.requires.within) in
    omega (arith, at.whole.fits, o.within)

pub set-requires-clause-live : goal.set-requires-clause-live
set-requires-clause-live c =
    let at = kept_at _ c.args.e.0 c.index-env.result.now c.self.invariant (rw (← c.self.view_is) at c.requires.there)
    c.index-env.ensures in
    (open_at _ c.args.bank.now c.args.e.0 c.args.i _ at c.if-env.true (rw (← c.self.view_is) at c.requires.lies)
    (rw (← c.self.view_is) at c.requires.within)).live

pub set-requires-clause-within : goal.set-requires-clause-within
set-requires-clause-within c =
    let at = kept_at _ c.args.e.0 c.index-env.result.now c.self.invariant (rw (← c.self.view_is) at c.requires.there)
    c.index-env.ensures in
    let o = open_at _ c.args.bank.now c.args.e.0 c.args.i _ at c.if-env.true (rw (← c.self.view_is) at c.requires.lies)
    (rw (← c.self.view_is) at c.requires.within) in
    omega (arith, o.lies, o.within)

pub returns-then-env-clause-place : goal.returns-then-env-clause-place
returns-then-env-clause-place c =
    let at = kept_at _ c.args.e.0 c.index-env.result.now c.self.invariant (rw (← c.self.view_is) at c.requires.there)
    c.index-env.ensures in
    rw (← c.self.view_is) (places_slot _ c.args.bank.now _ c.args.e.0 c.args.i _ c.args.v at c.if-env.true
    c.set.ensures)

pub returns-then-env-clause-one : goal.returns-then-env-clause-one
returns-then-env-clause-one c =
    let at = kept_at _ c.args.e.0 c.index-env.result.now c.self.invariant (rw (← c.self.view_is) at c.requires.there)
    c.index-env.ensures in
    let o = open_at _ c.args.bank.now c.args.e.0 c.args.i _ at c.if-env.true (rw (← c.self.view_is) at c.requires.lies)
    (rw (← c.self.view_is) at c.requires.within) in
    rw (← c.self.view_is) (one_slot _ c.args.bank.now _ c.args.e.0 c.args.i _ c.args.v c.self.invariant at c.if-env.true
    o c.set.ensures)

pub index_mut-requires-else-env : goal.index_mut-requires-else-env
index_mut-requires-else-env c =
    let there = rw (← c.self.view_is) at c.requires.there in
    let at = kept_at _ c.args.e.0 c.index_mut.result.now c.self.invariant there c.index_mut.ensures.value in
    let same = same_entry _ c.args.e.0 c.index-env.result.now c.index_mut.result.now c.index-env.ensures
    c.index_mut.ensures.value there in
    let shut = ap (λ x. x.«open») same ∙ c.if-env.false in
    omega (
      arith,
      closed_at _ c.args.bank.now c.args.e.0 c.args.i _ at shut
          (rw (← c.self.view_is) at c.requires.within),
    )

pub invariant_of-self : goal.invariant_of-self
invariant_of-self c =
    let there = rw (← c.self.view_is) at c.requires.there in
    let at = kept_at _ c.args.e.0 c.index_mut.result.now c.self.invariant there c.index_mut.ensures.value in
    let same = same_entry _ c.args.e.0 c.index-env.result.now c.index_mut.result.now c.index-env.ensures
    c.index_mut.ensures.value there in
    let shut = ap (λ x. x.«open») same ∙ c.if-env.false in
    rw (map-set kept) (in_room _ c.args.bank.now c.args.e.0 c.args.i _ _ c.args.v c.self.invariant at shut shut
    at.whole.fits refl).sound

pub returns-else-env-clause-place : goal.returns-else-env-clause-place
returns-else-env-clause-place c =
    let there = rw (← c.self.view_is) at c.requires.there in
    let at = kept_at _ c.args.e.0 c.index_mut.result.now c.self.invariant there c.index_mut.ensures.value in
    let same = same_entry _ c.args.e.0 c.index-env.result.now c.index_mut.result.now c.index-env.ensures
    c.index_mut.ensures.value there in
    let shut = ap (λ x. x.«open») same ∙ c.if-env.false in
    rw (map-set kept, ← c.self.view_is) (in_room _ c.args.bank.now c.args.e.0 c.args.i _ _ c.args.v c.self.invariant at
    shut shut at.whole.fits refl).place

pub returns-else-env-clause-one : goal.returns-else-env-clause-one
returns-else-env-clause-one c =
    let there = rw (← c.self.view_is) at c.requires.there in
    let at = kept_at _ c.args.e.0 c.index_mut.result.now c.self.invariant there c.index_mut.ensures.value in
    let same = same_entry _ c.args.e.0 c.index-env.result.now c.index_mut.result.now c.index-env.ensures
    c.index_mut.ensures.value there in
    let shut = ap (λ x. x.«open») same ∙ c.if-env.false in
    rw (map-set kept, ← c.self.view_is) (in_room _ c.args.bank.now c.args.e.0 c.args.i _ _ c.args.v c.self.invariant at
    shut shut at.whole.fits refl).one
