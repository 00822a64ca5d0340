use Rattle.std.proofs.Common.{◌≡◌, None, length}
use Rattle.rite_file.specs.Front.{sections_of}
use Rattle.rite_file.specs.Loaded as specs
use Rattle.rite_file.proofs.loading.irep_in.Given as goal

abbrev pub invariant-sections : goal.invariant-sections
invariant-sections l = specs.irep_in l.bytes l.found l.sections ≡ specs.irep_in l.bytes None (sections_of l.bytes)

abbrev pub decreases-sections : goal.decreases-sections
decreases-sections l = length l.sections
