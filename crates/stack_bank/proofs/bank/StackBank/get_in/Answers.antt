use Rattle.std.proofs.Common.{◌+◌, arith}
use Rattle.stack_bank.proofs.Reach.{at_place, place_read, slot_fits}
use Rattle.stack_bank.proofs.bank.StackBank.get_in.Goals as goal

pub read_at-requires : goal.read_at-requires
read_at-requires c =
    (at_place _ _ c.args.window c.args.i c.self.invariant (rw (← c.self.view_is) at c.requires.reaches)
    (rw (← c.self.view_is) at c.requires.live) (rw (← c.self.view_is) at c.requires.within) c.if-i-window.true).live

pub returns-then-i-window : goal.returns-then-i-window
returns-then-i-window c =
    let a = at_place _ _ c.args.window c.args.i c.self.invariant (rw (← c.self.view_is) at c.requires.reaches)
    (rw (← c.self.view_is) at c.requires.live) (rw (← c.self.view_is) at c.requires.within) c.if-i-window.true in
    rw (← c.self.view_is) (place_read _ _ _ _ _ c.read_at.result a c.read_at.ensures)

pub overflow_add-window : goal.overflow_add-window
overflow_add-window c =
    omega (
      arith,
      slot_fits _ _ c.args.window.id.0 (c.args.window.base + c.args.i) c.self.invariant
          (rw (← c.self.view_is) at c.requires.live) (rw (← c.self.view_is) at c.requires.within),
    )
