-- Where the values of a list of targets come from.
use Rattle.std.specs.Prelude.{ℕ}
use Rattle.ir_core.specs.CoreForm as form
use Rattle.ir_core.specs.CoreForm.{CoreForm}
use Rattle.ir_builder.specs.Forms.{element, elements_between}
use Rattle.lower_table.specs.declared.stores.Source.{Source}
use Rattle.lower_table.specs.declared.stores.Source.TheVariants as source

-- what a source gives the target at place k
abbrev pub source_form : Source → ℕ → CoreForm
source_form (source.Elements h) k = element h k
source_form (source.Between h b a) k = elements_between h b a
source_form source.Parameters k = form.local (form.pattern k)
source_form source.Exception k = form.exception
