use Rattle.std.proofs.Common.{◌-◌, ℕ, sym, ap, ◌∙◌}
use Rattle.std.specs.Prelude.{Option}
use Rattle.vm_frames.specs.Seen.{around_of}
use Rattle.vm_frames.specs.Environments.{around_env}
use Rattle.vm_frames.proofs.Steps.{around_start, around_more, around_end}
use Rattle.vm_frames.proofs.capturing.Around.nth.Goals as goal

pub around-init : goal.around-init
around-init c = around_start (around_of c.args.self.now).envs c.args.outer c.args.c

pub around-preserved : goal.around-preserved
around-preserved c = rw c.outer_of-at.ensures
    (sym (around_more (around_of c.args.self.now).envs c.in_ok-number.number c.around._level c.args.c c.around-test.true)
    ∙ ap (λ (at : Option ℕ). around_env (around_of c.args.self.now).envs at (c.args.c - c.around._level))
    (sym c.in_ok-number.was) ∙ c.around.invariant)

pub returns : goal.returns
returns c = sym (around_end (around_of c.args.self.now).envs c.around.at c.around._level c.args.c
    c.around-test.false) ∙ c.around.invariant
