use Rattle.std.proofs.Common.{◌≡◌, ◌-◌, ◌≤◌, ◌++◌, length}
use Rattle.std.specs.List.{filter}
use Rattle.memchr.specs.Find.{places_between}
use Rattle.rb_string.specs.Parts.{has_bytes, between, words}
use Rattle.rb_string.specs.Stripping.{is_space}
use Rattle.rb_string.proofs.splitting.words.Given as goal

abbrev pub invariant-bytes : goal.invariant-bytes
invariant-bytes l = record {
  within : l.at ≤ length l.text;
  same : l.list ++ filter has_bytes (between (length l.text) 1 l.from (places_between is_space l.text l.at (length l.text)))
      ≡ words l.text;
}

abbrev pub decreases-bytes : goal.decreases-bytes
decreases-bytes l = length l.text - l.at
