-- The bodies of a program, depth first.
use Rattle.std.specs.Prelude.{List, [], ◌∷◌}
use Rattle.ir_core.specs.CoreForm.{Body, form_of}
use Rattle.ir_walk.specs.Walk.{Step, at, enter, leave, walked}
use Rattle.ir_walk.specs.declared.extent.Extent.TheVariants as extent

-- the bodies that steps begin, in order
abbrev pub begun : List Step → List Body
begun [] = []
begun (at f ∷ ss) = begun ss
begun (enter b ∷ ss) = b ∷ begun ss
begun (leave ∷ ss) = begun ss

abbrev pub bodies : Body → List Body
bodies program = program ∷ begun (walked extent.Program [] (form_of program))
