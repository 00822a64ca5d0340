-- Why lowering refuses a tree.
use Rattle.std.specs.Prelude.{◌≡◌, Option, Some, None}
use Rattle.lower_outside.specs.declared.construct.Found.{Found}
use Rattle.rb_lower.specs.declared.error.LowerError.{LowerError}
use Rattle.rb_lower.specs.declared.error.LowerError.TheVariants.{Outside, NoMemory}

-- by the construct outside the language that is found first; where there is none, memory may run out
abbrev pub Refuses : Option Found → LowerError → Type 0
Refuses None e = e ≡ NoMemory
Refuses (Some f) e = e ≡ Outside f.what f.at
