use Rattle.std.proofs.Common.{◌≡◌, ℕ, ◌+◌, ◌-◌, ◌*◌, ◌/◌, ◌%◌, ◌<◌, ◌≤◌, min, List, length, get_or, refl, ap, subst, ◌∙◌, arith}
use Rattle.std.proofs.lemmas.List.{get_or_default}
use Rattle.stack_bank.proofs.Calls.{the_stack, up_to_stack, block_live}
use Rattle.stack_bank.specs.Window.{run_last}
use Rattle.stack_bank.proofs.Reach.{reaches_run}
use Rattle.stack_bank.proofs.Runs.{near_is}
use Rattle.stack_bank.proofs.bank.StackBank.window.Goals as goal

pub overflow_add-last : goal.overflow_add-last
overflow_add-last c =
    let s = the_stack _ _ c.args.id.0 c.index-stack.result.now c.self.invariant
    (rw (← c.self.view_is) at c.requires.live) c.index-stack.ensures in
    omega (
      arith,
      s.fits,
      up_to_stack _ _ c.args.id.0 (c.args.base + c.args.n) _ s
          (rw (← c.self.view_is) at c.requires.within),
    )

pub index-requires : goal.index-requires
index-requires c =
    let s = the_stack _ _ c.args.id.0 c.index-stack.result.now c.self.invariant
    (rw (← c.self.view_is) at c.requires.live) c.index-stack.ensures in
    let up = up_to_stack _ _ c.args.id.0 (c.args.base + c.args.n) _ s (rw (← c.self.view_is) at c.requires.within) in
    omega (arith, s.sized, up)

pub place-start-requires-clause-live : goal.place-start-requires-clause-live
place-start-requires-clause-live c =
    let s = the_stack _ _ c.args.id.0 c.index-stack.result.now c.self.invariant
    (rw (← c.self.view_is) at c.requires.live) c.index-stack.ensures in
    let up = up_to_stack _ _ c.args.id.0 (c.args.base + c.args.n) _ s (rw (← c.self.view_is) at c.requires.within) in
    block_live _ _ (c.args.base / 64) c.index.result.now s.holds (omega (arith, s.sized, up)) c.index.ensures

pub run_end-run-requires-clause-within : goal.run_end-run-requires-clause-within
run_end-run-requires-clause-within c =
    let s = the_stack _ _ c.args.id.0 c.index-stack.result.now c.self.invariant
    (rw (← c.self.view_is) at c.requires.live) c.index-stack.ensures in
    let up = up_to_stack _ _ c.args.id.0 (c.args.base + c.args.n) _ s (rw (← c.self.view_is) at c.requires.within) in
    rw c.deref.ensures.value (omega (arith, s.sized, up))

pub slots_up_to-near-requires-clause-fits : goal.slots_up_to-near-requires-clause-fits
slots_up_to-near-requires-clause-fits c =
    let s = the_stack _ _ c.args.id.0 c.index-stack.result.now c.self.invariant
    (rw (← c.self.view_is) at c.requires.live) c.index-stack.ensures in
    omega (
      arith,
      s.fits,
      up_to_stack _ _ c.args.id.0 (c.args.base + c.args.n) _ s
          (rw (← c.self.view_is) at c.requires.within),
    )

pub returns-clause-reaches : goal.returns-clause-reaches
returns-clause-reaches c =
    let s = the_stack _ _ c.args.id.0 c.index-stack.result.now c.self.invariant
    (rw (← c.self.view_is) at c.requires.live) c.index-stack.ensures in
    let up = up_to_stack _ _ c.args.id.0 (c.args.base + c.args.n) _ s (rw (← c.self.view_is) at c.requires.within) in
    let table : List ℕ = c.index-stack.result.now.blocks.items in
    let first : c.args.base / 64 < length table = omega (arith, s.sized, up) in
    let start : c.place-start.result ≡ 64 * get_or table (c.args.base / 64) 0 + c.args.base % 64 = c.place-start.ensures
    ∙ ap (λ b. 64 * b + c.args.base % 64)
    (c.index.ensures ∙ get_or_default table (c.args.base / 64) c.index.result.now 0 first) in
    let follow = subst (λ t. (j : ℕ) → c.args.base / 64 ≤ j → j ≤ c.run_end-run.result
    → get_or t j 0 ≡ get_or t (c.args.base / 64) 0 + (j - c.args.base / 64)) c.deref.ensures.value
    c.run_end-run.ensures.follow in
    rw (← c.self.view_is) (reaches_run _ _ c.args.id.0 _ _ c.args.n c.run_end-run.result refl s up
    c.slots_up_to-near.ensures start follow)

pub returns-clause-near : goal.returns-clause-near
returns-clause-near c =
    let s = the_stack _ _ c.args.id.0 c.index-stack.result.now c.self.invariant
    (rw (← c.self.view_is) at c.requires.live) c.index-stack.ensures in
    let table : List ℕ = c.index-stack.result.now.blocks.items in
    let run = subst (λ t. c.run_end-run.result ≡ min ((c.args.base + c.args.n - 1) / 64)
    (run_last t (c.args.base / 64))) c.deref.ensures.value c.run_end-run.ensures.run in
    rw (← c.self.view_is) (rw s.table (rw (← near_is table c.args.base c.args.n (omega arith))
    (rw (← run) c.slots_up_to-near.ensures)))
