use Rattle.std.proofs.Common.{◌≡◌, ◌++◌, length}
use Rattle.rb_string.specs.Parts.{between, parts_between}
use Rattle.rb_string.proofs.Apart.{Apart}
use Rattle.rb_string.proofs.splitting.parts_between.Given as goal

abbrev pub invariant-places : goal.invariant-places
invariant-places l = record {
  apart : Apart (length l.text) (length l.separator) l.from l.places;
  same : l.list.items ++ between (length l.text) (length l.separator) l.from l.places
      ≡ parts_between l.text l.separator;
}

abbrev pub decreases-places : goal.decreases-places
decreases-places l = length l.places
