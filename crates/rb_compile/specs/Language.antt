-- The language as it is built: which texts are in it, and the form of each.
use Rattle.std.specs.Prelude.{ℕ, List, Option, Some, None}
use Rattle.path_core.specs.Form.{Form}
use Rattle.ir_core.specs.CoreForm.{Body}
use Rattle.rb_front.specs.Front.{core_of}
use Rattle.ir_counts.specs.Counts.{need}
use Rattle.ir_counts.specs.Limits.{first_excess}
use Rattle.ir_counts.specs.declared.excess.Excess.{Excess}
use Rattle.code_generator.specs.Built.{built}
use Rattle.rb_base.specs.Option.{◌>>=◌}

abbrev pub unless_past : Option Excess → Form → Option Form
unless_past None f = Some f
unless_past (Some e) f = None

-- the form of a core that the generator builds and of which no count exceeds its limit
abbrev pub form_of_core : Body → Option Form
form_of_core c = built c >>= unless_past (first_excess (need c))

-- the form of a text
unfoldable pub program_of : List ℕ → Option Form
program_of text = core_of text >>= form_of_core
