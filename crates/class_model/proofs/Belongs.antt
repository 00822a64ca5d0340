-- What the calls give belongs to the store after them.
use Rattle.std.proofs.Common.{◌≡◌, sym, subst}
use Rattle.rb_value.specs.declared.value.Value.TheVariants.{Nil, True, False, Int, Sym, Obj}
use Rattle.rb_value.specs.declared.value.Value.{Value}
use Rattle.rb_value.specs.declared.outcome.Outcome.{Outcome}
use Rattle.rb_value.specs.declared.outcome.Outcome.TheVariants as outcome
use Rattle.rb_value.specs.declared.outcome.Failure.{Failure}
use Rattle.def_core.specs.Store.{Store}
use Rattle.def_core.specs.Sound.{Census, census, ClassOrModule, IsValue, IsOutcome}
use Rattle.class_model.specs.Given.{IsClass, GivesClass}
use Rattle.class_model.proofs.Lineages.{any_of}

value_of_class : (st : Store) (v : Value) → IsClass (census st) v → IsValue (census st) v
value_of_class st Nil h = absurd h
value_of_class st True h = absurd h
value_of_class st False h = absurd h
value_of_class st (Int n) h = absurd h
value_of_class st (Sym s) h = absurd h
value_of_class st (Obj c) h = any_of st ClassOrModule c h

pub class_belongs : (st : Store) (o : Outcome) → GivesClass (census st) o → IsOutcome (census st) o
class_belongs st (outcome.Value v) h = value_of_class st v h
class_belongs st (outcome.Raise f) h = h

-- what is raised gives no class
pub raised_gives : (k : Census) (o : Outcome) (f : Failure) → o ≡ outcome.Raise f → IsOutcome k o → GivesClass k o
raised_gives k o f e h = subst (GivesClass k) (sym e) (subst (IsOutcome k) e h)
