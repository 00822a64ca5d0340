use Rattle.std.proofs.Common.{◌≡◌, ◌≤◌, length, reverse}
use Rattle.rite_file.specs.Loaded as specs
use Rattle.rite_file.proofs.Forests.{onto}
use Rattle.rite_file.proofs.numbering.numbered.Given as goal

abbrev pub invariant-bodies : goal.invariant-bodies
invariant-bodies l = record {
  count : length l.left.items ≤ 65536;
  same : onto 0 l.left.items (reverse l.bodies.items, reverse l.roots.items) ≡ specs.numbered 0 l.fn.records;
}

abbrev pub decreases-bodies : goal.decreases-bodies
decreases-bodies l = length l.left.items
