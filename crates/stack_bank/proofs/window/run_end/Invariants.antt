use Rattle.std.proofs.Common.{◌≡◌, ℕ, ◌+◌, ◌-◌, ◌≤◌, get_or}
use Rattle.stack_bank.specs.Window.{run_last}
use Rattle.stack_bank.proofs.window.run_end.Given as goal

-- the blocks so far follow one another
abbrev pub invariant-run : goal.invariant-run
invariant-run l = record {
  low : l.first ≤ l.at;
  high : l.at ≤ l.last;
  follow : (j : ℕ) → l.first ≤ j → j ≤ l.at → get_or l.blocks j 0 ≡ get_or l.blocks l.first 0 + (j - l.first);
  same : run_last l.blocks l.at ≡ run_last l.blocks l.first;
}

abbrev pub decreases-run : goal.decreases-run
decreases-run l = l.last - l.at
