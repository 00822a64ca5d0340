use Rattle.std.proofs.Common.{◌+◌, arith}
use Rattle.stack_bank.proofs.Reach.{at_place, place_written, slot_fits}
use Rattle.stack_bank.proofs.bank.StackBank.set_in.Goals as goal

pub write_at-requires : goal.write_at-requires
write_at-requires c =
    (at_place _ _ c.args.window c.args.i c.self.invariant (rw (← c.self.view_is) at c.requires.reaches)
    (rw (← c.self.view_is) at c.requires.live) (rw (← c.self.view_is) at c.requires.within) c.if-i-window.true).live

pub invariant_of-self : goal.invariant_of-self
invariant_of-self c =
    let a = at_place _ _ c.args.window c.args.i c.self.invariant (rw (← c.self.view_is) at c.requires.reaches)
    (rw (← c.self.view_is) at c.requires.live) (rw (← c.self.view_is) at c.requires.within) c.if-i-window.true in
    rw c.write_at.ensures (place_written _ _ _ _ _ c.args.v c.self.invariant a).sound

pub returns-then-i-window : goal.returns-then-i-window
returns-then-i-window c =
    let a = at_place _ _ c.args.window c.args.i c.self.invariant (rw (← c.self.view_is) at c.requires.reaches)
    (rw (← c.self.view_is) at c.requires.live) (rw (← c.self.view_is) at c.requires.within) c.if-i-window.true in
    rw (c.write_at.ensures, ← c.self.view_is) (place_written _ _ _ _ _ c.args.v c.self.invariant a).seen_as

pub overflow_add-window : goal.overflow_add-window
overflow_add-window c =
    omega (
      arith,
      slot_fits _ _ c.args.window.id.0 (c.args.window.base + c.args.i) c.self.invariant
          (rw (← c.self.view_is) at c.requires.live) (rw (← c.self.view_is) at c.requires.within),
    )
