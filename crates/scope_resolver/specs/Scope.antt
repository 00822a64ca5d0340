-- What a scope is seen as.
use Rattle.ir_core.specs.View.{locals_of, parameters_of}
use Rattle.scope_resolver.specs.declared.scope.Scope.{Scope}
use Rattle.scope_resolver.specs.Layout.{Slots, slots_by}

abbrev pub slots_at : Scope → Slots
slots_at s = slots_by s.kind (parameters_of s.parameters.now) (locals_of s.locals.now)
