use Rattle.std.proofs.Common.{◌≡◌, ◌≢◌, ℕ, ◌+◌, ◌-◌, List, get_or, ◌∙◌, rules, arith}
use Rattle.stack_bank.proofs.Runs.{run_on, run_ends}
use Rattle.stack_bank.proofs.window.run_end.Goals as goal

pub run-preserved : goal.run-preserved
run-preserved c =
    let table : List ℕ = c.args.blocks.now in
    let here : get_or table c.run.at 0 ≡ get_or table c.args.first 0 + (c.run.at - c.args.first) =
    c.run.invariant.follow c.run.at c.run.invariant.low (omega arith) in
    let next : get_or table (c.run.at + 1) 0 ≡ get_or table c.run.at 0 + 1 = omega arith in
    record {
      low = omega arith;
      high = omega arith;
      follow = search rules;
      same = run_on table c.run.at (omega arith) next ∙ c.run.invariant.same;
    }

pub returns-then-blocks-at-clause-run : goal.returns-then-blocks-at-clause-run
returns-then-blocks-at-clause-run c =
    let table : List ℕ = c.args.blocks.now in
    let here : get_or table c.run.at 0 ≡ get_or table c.args.first 0 + (c.run.at - c.args.first) =
    c.run.invariant.follow c.run.at c.run.invariant.low (omega arith) in
    let other : get_or table (c.run.at + 1) 0 ≢ get_or table c.run.at 0 + 1 =
    λ next. c.if-blocks-at.true (omega arith) in
    omega (arith, run_ends table c.run.at (omega arith) other, c.run.invariant.same)
