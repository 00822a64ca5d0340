use Rattle.std.proofs.Common.{◌≡◌, length}
use Rattle.code_listing.specs.Info as texts
use Rattle.code_listing.proofs.informing.check_sections.Given as goal

abbrev pub invariant-sections : goal.invariant-sections
invariant-sections l = record {
  same : texts.first_error l.sections ≡ texts.first_error l.initial.sections;
}

abbrev pub decreases-sections : goal.decreases-sections
decreases-sections l = length l.sections
