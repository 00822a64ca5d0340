-- The core of a tree that fits is that of a program.
use Rattle.std.proofs.Common.{◌≡◌, true, List, None}
use Rattle.parser_tree.specs.Node.{Name, Node}
use Rattle.parser_checks.specs.Places.{misplaced}
use Rattle.lower_outside.specs.Search.{found}
use Rattle.ir_core.specs.Program.{IsProgram}
use Rattle.lower_table.specs.Lowering.{program}
use Rattle.program_laws.specs.Fits.{IsFitting}
use Rattle.program_laws.specs.Knows.{knows}
use Rattle.program_laws.proofs.Scenes.{in_program}
use Rattle.program_laws.proofs.Cores.{core_fits}
use Rattle.program_laws.proofs.Placed.{placed_is_fitting}

pub fitting_is_program : (ls : List Name) (n : Node) → IsFitting ls n → IsProgram (program ls n)
fitting_is_program ls n h = core_fits n (in_program ls) 0 h

pub placed_is_program : (ls : List Name) (n : Node) → misplaced n ≡ None → found None n ≡ None → knows ls n ≡ true
    → IsProgram (program ls n)
placed_is_program ls n h f g = fitting_is_program ls n (placed_is_fitting ls n h f g)
