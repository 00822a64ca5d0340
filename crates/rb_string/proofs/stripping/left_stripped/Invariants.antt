use Rattle.std.proofs.Common.{◌≡◌, ◌+◌, ◌-◌, ◌≤◌, length, drop}
use Rattle.std.specs.List.{prefix_len}
use Rattle.rb_string.specs.Stripping.{is_blank}
use Rattle.rb_string.proofs.stripping.left_stripped.Given as goal

abbrev pub invariant-bytes : goal.invariant-bytes
invariant-bytes l = record {
  within : l.start ≤ length l.text;
  same : prefix_len is_blank l.text ≡ l.start + prefix_len is_blank (drop l.start l.text);
}

abbrev pub decreases-bytes : goal.decreases-bytes
decreases-bytes l = length l.text - l.start
