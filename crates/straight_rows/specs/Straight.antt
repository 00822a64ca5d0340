-- What is given straight on: what the method gives, where its call goes straight on and raises nothing.
use Rattle.std.specs.Prelude.{ℕ, pos, List, length, Option, Some, None, if◌then◌else◌}
use Rattle.rb_value.specs.declared.value.Value.{Value}
use Rattle.rb_value.specs.declared.value.Value.TheVariants.{Int}
use Rattle.rb_value.specs.declared.outcome.Outcome.{Outcome}
use Rattle.rb_value.specs.declared.outcome.Outcome.TheVariants as outcome
use Rattle.def_core.specs.Store.{Store, Done}
use Rattle.rb_store.specs.Held.{Held}
use Rattle.row_table.specs.declared.line.CoreRow.{CoreRow}
use Rattle.def_rows.specs.Answers.{finish}
use Rattle.def_rows.specs.Rows.{gives}
use Rattle.straight_rows.specs.Goes.{goes}

abbrev pub told_by : Held → Outcome → Store → Option Value × Held
told_by held (outcome.Value v) st = (Some v, record held { store = st })
told_by held (outcome.Raise f) st = (None, held)

-- a value, and the heap that is left; nothing where an exception would be raised, and then the heap as it is
abbrev pub told : Held → Done → Option Value × Held
told held done = told_by held done.outcome done.store

abbrev pub given : CoreRow → Held → Value → List Value → Option Value × Held
given row held recv args = if goes row held.store.objects recv args
    then told held (finish held.store recv (gives row held.store recv args)) else (None, held)

abbrev pub length_of : List ℕ → Value
length_of text = Int (pos (length text))
