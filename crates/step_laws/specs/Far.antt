-- Exits that leave a body for an activation further out, on both sides: the return of a block, and a break out of it.
use Rattle.std.specs.Prelude.{ℕ, Bool, true, false, Option, Some}
use Rattle.rb_value.specs.declared.value.Value.{Value}
use Rattle.rb_value.specs.declared.exit.Exit as machine
use Rattle.rb_value.specs.declared.exit.Exit.TheVariants.{Return, Break}
use Rattle.scope_resolver.specs.declared.body_kind.BodyKind.{BodyKind}
use Rattle.scope_resolver.specs.declared.body_kind.BodyKind.TheVariants as kind
use Rattle.rite_code.specs.declared.operation.Operation.{Operation}
use Rattle.rite_code.specs.declared.operation.Operation.TheVariants as op
use Rattle.def_core.specs.declared.cause.Cause.{Cause}
use Rattle.def_core.specs.declared.cause.Cause.TheVariants as cause
use Rattle.def_calls.specs.World.{World, Activation}
use Rattle.def_calls.specs.Calls.{break_target}
use Rattle.def_eval.specs.Configuration.{Action, leave_method, leave_call, Exit, return, break, next}

pub data Far : Type 0 where
  returns_far : Far
  breaks_far : Far

-- to an activation, with a value
abbrev pub exit_to : Far → ℕ → Value → Exit
exit_to returns_far a v = return a v
exit_to breaks_far a v = break a v

abbrev pub thrown_to : Far → ℕ → Value → machine.Exit
thrown_to returns_far a v = Return a v
thrown_to breaks_far a v = Break a v

-- what makes them
abbrev pub action_of : Far → Action
action_of returns_far = leave_method
action_of breaks_far = leave_call

abbrev pub leaving_op : Far → ℕ → Operation
leaving_op returns_far r = op.ReturnBlk r
leaving_op breaks_far r = op.Break r

-- where they lead from an activation, and what is raised where that isn't under way
abbrev pub goal_of : Far → World → ℕ → Activation → Option ℕ
goal_of returns_far w a x = Some x.home
goal_of breaks_far w a x = break_target w a x.runs

abbrev pub cause_of : Far → Cause
cause_of returns_far = cause.UnexpectedReturn
cause_of breaks_far = cause.BreakFromProc

-- a return in a body that isn't a block's, and a next that is out of its loops, end the body with a value
abbrev pub home_exit : Bool → ℕ → Value → Exit
home_exit false a v = return a v
home_exit true a v = next v

-- a return ends the activation of a body of that kind; in that of a class there is none
abbrev pub ends_itself : BodyKind → Bool
ends_itself kind.Main = true
ends_itself kind.Method = true
ends_itself kind.Block = false
ends_itself kind.Class = false

abbrev pub MayReturn : BodyKind → Type 0
MayReturn kind.Main = Unit {0}
MayReturn kind.Method = Unit {0}
MayReturn kind.Block = Unit {0}
MayReturn kind.Class = ⊥
