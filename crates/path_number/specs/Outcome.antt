-- What the call of a core method gives or raises, in the words of the definitions.
use Rattle.std.specs.Prelude.{ℤ, Option, Some, None}
use Rattle.path_value.specs.declared.value.Value.TheVariants.{Int}
use Rattle.path_value.specs.declared.failure.Failure.TheVariants.{IntegerOverflow}
use Rattle.path_core.specs.Rows as rows
use Rattle.path_number.specs.declared.outcome.Outcome.{Outcome}
use Rattle.path_number.specs.declared.outcome.Outcome.TheVariants.{Gives, Raises}

abbrev pub outcome_of : Outcome → rows.Outcome
outcome_of (Gives v) = rows.gives v
outcome_of (Raises f) = rows.raises f

-- the Integer of a result that fits, or an overflow
abbrev pub checked : Option ℤ → rows.Outcome
checked (Some z) = rows.gives (Int z)
checked None = rows.raises IntegerOverflow
