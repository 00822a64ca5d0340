-- Strict forms: what their action asks of a body, and the instruction that does it in register r.
use Rattle.std.specs.Prelude.{ℕ, zero, suc, pos, neg_ℤ, Option, Some, None}
use Rattle.rb_syntax.specs.declared.core_form.DefinedKind.TheVariants as asks
use Rattle.rite_code.specs.declared.operation.Operation.{Operation}
use Rattle.rite_code.specs.declared.operation.Operation.TheVariants as op
use Rattle.gen_forms.specs.Gen.{range_by, symbol}
use Rattle.def_eval.specs.Configuration.{Action, assign, assign_ivar, assign_gvar, constant_in, assign_constant, assign_constant_in, make_range, make_symbol, element, elements_between, last_elements, leave_method, leave_call, leave_round, define_on, open_class, open_module, open_singleton, tell}
use Rattle.step_laws.specs.Site.{Site, Named}

abbrev pub strict_op : Site → ℕ → Action → Option Operation
strict_op h r (assign x) = None
strict_op h r (assign_ivar x) = Some (op.SetIv r (symbol h.context x))
strict_op h r (assign_gvar x) = None
strict_op h r (constant_in x) = Some (op.GetMCnst r (symbol h.context x))
strict_op h r (assign_constant x) = Some (op.SetConst r (symbol h.context x))
strict_op h r (assign_constant_in x) = Some (op.SetMCnst r (symbol h.context x))
strict_op h r (make_range b) = Some (range_by b r)
strict_op h r make_symbol = Some (op.Intern r)
strict_op h r (element z) = Some (op.ARef r r z)
strict_op h r (elements_between from post) = Some (op.APost r from (pos post))
strict_op h r (last_elements from count) = Some (op.APost r from (neg_ℤ (pos count)))
strict_op h r leave_method = None
strict_op h r leave_call = None
strict_op h r leave_round = None
strict_op h r (define_on x i) = None
strict_op h r (open_class x i) = None
strict_op h r (open_module x i) = None
strict_op h r (open_singleton i) = None
strict_op h r (tell asks.Expression x) = None
strict_op h r (tell asks.LocalVariable x) = None
strict_op h r (tell asks.SelfReference x) = None
strict_op h r (tell asks.Assignment x) = None
strict_op h r (tell asks.InstanceVariable x) = None
strict_op h r (tell asks.GlobalVariable x) = None
strict_op h r (tell asks.Constant x) = Some (op.Defined r 3 (symbol h.context x))
strict_op h r (tell asks.Method x) = Some (op.Defined r 5 (symbol h.context x))
strict_op h r (tell asks.Yield x) = None
strict_op h r (tell asks.Super x) = None

-- some elements at least
abbrev pub IsSome : ℕ → Type 0
IsSome zero = ⊥
IsSome (suc n) = Unit {0}

abbrev pub IsReady : Site → Action → Type 0
IsReady h (assign x) = ⊥
IsReady h (assign_ivar x) = Named h x
IsReady h (assign_gvar x) = ⊥
IsReady h (constant_in x) = Named h x
IsReady h (assign_constant x) = Named h x
IsReady h (assign_constant_in x) = Named h x
IsReady h (make_range b) = Unit {0}
IsReady h make_symbol = Unit {0}
IsReady h (element z) = Unit {0}
IsReady h (elements_between from post) = Unit {0}
IsReady h (last_elements from count) = IsSome count
IsReady h leave_method = ⊥
IsReady h leave_call = ⊥
IsReady h leave_round = ⊥
IsReady h (define_on x i) = ⊥
IsReady h (open_class x i) = ⊥
IsReady h (open_module x i) = ⊥
IsReady h (open_singleton i) = ⊥
IsReady h (tell asks.Expression x) = ⊥
IsReady h (tell asks.LocalVariable x) = ⊥
IsReady h (tell asks.SelfReference x) = ⊥
IsReady h (tell asks.Assignment x) = ⊥
IsReady h (tell asks.InstanceVariable x) = ⊥
IsReady h (tell asks.GlobalVariable x) = ⊥
IsReady h (tell asks.Constant x) = Named h x
IsReady h (tell asks.Method x) = Named h x
IsReady h (tell asks.Yield x) = ⊥
IsReady h (tell asks.Super x) = ⊥

-- how many operands it has
abbrev pub arity : Action → ℕ
arity (assign x) = 1
arity (assign_ivar x) = 1
arity (assign_gvar x) = 1
arity (constant_in x) = 1
arity (assign_constant x) = 1
arity (assign_constant_in x) = 2
arity (make_range b) = 2
arity make_symbol = 1
arity (element z) = 1
arity (elements_between from post) = 1
arity (last_elements from count) = 1
arity leave_method = 1
arity leave_call = 1
arity leave_round = 1
arity (define_on x i) = 1
arity (open_class x i) = 1
arity (open_module x i) = 1
arity (open_singleton i) = 1
arity (tell q x) = 1
