use Rattle.std.proofs.Common.{◌≡◌, ◌++◌, length}
use Rattle.memchr.specs.Find.{matches}
use Rattle.rb_string.specs.Substitution.{expanded, with_each}
use Rattle.rb_string.proofs.Apart.{Apart}
use Rattle.rb_string.proofs.substitution.substituted_everywhere.Given as goal

abbrev pub invariant-places : goal.invariant-places
invariant-places l = record {
  apart : Apart (length l.text) (length l.pattern) l.from l.places;
  same : l.made.items ++ with_each l.text (length l.pattern) (λ at. expanded l.text at (length l.pattern) l.new) l.from l.places
      ≡ with_each l.text (length l.pattern) (λ at. expanded l.text at (length l.pattern) l.new) 0
      (matches l.text l.pattern 0);
}

abbrev pub decreases-places : goal.decreases-places
decreases-places l = length l.places
