use Rattle.std.proofs.Common.{length, ◌≡◌, ◌-◌, ◌≤◌, ◌<◌, drop}
use Rattle.lexer_literals.specs.Escaping.{up_to}
use Rattle.lexer_literals.proofs.Bounds.{bound}
use Rattle.lexer_literals.proofs.escapes.up_to.Given as goal

abbrev pub invariant-bytes : goal.invariant-bytes
invariant-bytes l = record {
  forward : l.fn.start ≤ l.at;
  within : l.at ≤ length l.text;
  few : l.left ≤ l.most;
  fits : l.value < bound (l.most - l.left);
  same : up_to l.base l.left l.value l.at (drop l.at l.text)
      ≡ up_to l.base l.most 0 l.fn.start (drop l.fn.start l.text);
}

abbrev pub decreases-bytes : goal.decreases-bytes
decreases-bytes l = length l.text - l.at
