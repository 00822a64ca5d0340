-- `!=` and `===` of Object: the receiver is asked whether it is `==` the argument.
use Rattle.std.specs.Prelude.{◌≡◌, List, codes, not, Bool, true, false, Option, Some, None}
use Rattle.rb_value.specs.declared.value.Value.{Value}
use Rattle.rb_value.specs.Value.{truth, is_true}
use Rattle.def_core.specs.Store.{Store}
use Rattle.def_core.specs.Changes.{intern, Interned}
use Rattle.rb_store.specs.Held.{Held}
use Rattle.run_values.specs.declared.given.Given.{Given}
use Rattle.run_values.specs.declared.given.Given.TheVariants.{Gives, Raises}
use Rattle.def_plans.specs.Plan.{Plan, Planned, finishes, raises, sends_by}
use Rattle.iter_comparing.specs.Stage.{Stage, negates, tests}
use Rattle.iter_comparing.specs.Outright.{outright}

-- whether the answer is negated
abbrev pub stage : Bool → Stage
stage true = negates
stage false = tests

abbrev pub negated : Bool → Value → Value
negated true v = truth (not (is_true v))
negated false v = truth (is_true v)

abbrev pub plan_by : Bool → Given → Plan Stage
plan_by negating (Gives v) = finishes (negated negating v)
plan_by negating (Raises e) = raises e

-- what a row of the table gives is taken at once
abbrev pub Settles : Held → Bool → Value → List Value → Interned → Option Given × Store → Planned Stage → Type 0
Settles held negating recv args named (None, st) p =
    p ≡ sends_by held (stage negating) recv args named
Settles held negating recv args named (Some g, st) p = (p.plan ≡ plan_by negating g) × (p.held.store ≡ st)

abbrev pub SettlesBy : Held → Bool → Value → List Value → Interned → Planned Stage → Type 0
SettlesBy held negating recv args named = Settles held negating recv args named
    (outright named.store recv named.symbol args)

abbrev pub IsAsked : Held → Bool → Value → List Value → Planned Stage → Type 0
IsAsked held negating recv args = SettlesBy held negating recv args (intern held.store (codes "=="))
