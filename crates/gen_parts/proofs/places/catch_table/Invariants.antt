use Rattle.std.proofs.Common.{◌≡◌, ◌++◌, drop, map}
use Rattle.gen_parts.specs.Assembly as assembly
use Rattle.gen_parts.proofs.places.catch_table.Given as goal

abbrev pub invariant-loop-entry : goal.invariant-loop-entry
invariant-loop-entry l =
    l.list.items ++ map (assembly.entry_by l.at) (drop l.entry-index l.entries) ≡ map (assembly.entry_by l.at) l.entries
