-- What it means that code implements a source.
use Rattle.std.specs.Prelude.{ℕ, List, [], ◌∷◌}
use Rattle.path_core.specs.Form.{Form}
use Rattle.code_generator.specs.Names.{names_of}
use Rattle.rite_code.specs.Code.{Program}
use Rattle.path_eval.specs.Steps.{Follows}
use Rattle.path_eval.specs.Seen.{over}
use Rattle.path_eval.specs.Configuration.{Source, opening, seen}
use Rattle.path_eval.specs.Transition.{go}
use Rattle.path_turns.specs.State.{start, shown}
use Rattle.path_turns.specs.Turn.{turn}

-- the bodies of a main program
abbrev pub source_of : Form → Source
source_of f = record { names = names_of f; form = f } ∷ []

-- For every input the code ends as the evaluation does, in at most 32 turns for each transition and 32 more; it
-- ends only so; and while neither has ended, its output is that of the evaluation, which no turn holds back.
abbrev pub Implements : Program → Form → Type 0
Implements c f = (input : List ℕ) → Follows (go (source_of f)) (turn c) seen shown over (opening (source_of f) input)
    (start c input)
