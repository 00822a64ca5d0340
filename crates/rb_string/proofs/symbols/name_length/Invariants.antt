use Rattle.std.proofs.Common.{◌≡◌, ◌+◌, ◌-◌, ◌≤◌, length, drop}
use Rattle.std.specs.List.{prefix_len}
use Rattle.rb_string.specs.Symbols.{is_name_byte}
use Rattle.rb_string.proofs.symbols.name_length.Given as goal

abbrev pub invariant-bytes : goal.invariant-bytes
invariant-bytes l = record {
  within : l.end ≤ length l.text;
  same : prefix_len is_name_byte l.text ≡ l.end + prefix_len is_name_byte (drop l.end l.text);
}

abbrev pub decreases-bytes : goal.decreases-bytes
decreases-bytes l = length l.text - l.end
