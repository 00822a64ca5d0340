use Rattle.std.proofs.Common.{◌≡◌, ◌+◌, ◌≤◌, not, length, take}
use Rattle.std.specs.List.{suffix_len}
use Rattle.rb_string.specs.Parts.{has_bytes}
use Rattle.rb_string.proofs.splitting.length_without_empty_end.Given as goal

abbrev pub invariant-parts : goal.invariant-parts
invariant-parts l = record {
  within : l.end ≤ length l.list;
  same : l.end + suffix_len (λ p. not (has_bytes p)) l.list
      ≡ length l.list + suffix_len (λ p. not (has_bytes p)) (take l.end l.list);
}

abbrev pub decreases-parts : goal.decreases-parts
decreases-parts l = l.end
