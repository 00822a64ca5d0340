use Rattle.std.proofs.Common.{◌≡◌, ◌≤◌, ◌&&◌, length, take, reverse}
use Rattle.std.specs.Prelude.{find}
use Rattle.vm_unwind.specs.Handlers.{covers, takes, target_in, last_handler}
use Rattle.vm_unwind.proofs.handlers.last_handler.Given as goal

-- none of those behind takes the exit
abbrev pub invariant-handlers : goal.invariant-handlers
invariant-handlers l = record {
  within : l.left ≤ length l.handlers;
  same : target_in (find (λ h. covers h l.index && takes h l.exit) (reverse (take l.left l.handlers)))
      ≡ last_handler l.handlers l.index l.exit;
}

abbrev pub decreases-handlers : goal.decreases-handlers
decreases-handlers l = l.left
