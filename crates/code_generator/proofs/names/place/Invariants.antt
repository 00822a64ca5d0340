use Rattle.std.proofs.Common.{◌≡◌, ◌+◌, drop}
use Rattle.path_core.specs.Form.{place_of}
use Rattle.code_generator.proofs.names.place.Given as goal

abbrev pub invariant-loop-i : goal.invariant-loop-i
invariant-loop-i l = l.i + place_of l.name (drop l.i l.names) ≡ place_of l.name l.names
