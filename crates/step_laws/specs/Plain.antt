-- Plain forms: literals, variables and constants, their assignments, Arrays, Hashes, Ranges, texts, sequences, branches,
-- loops, exits out of them and of bodies, elements of multiple assignments, `defined?`, other names of methods and
-- methods that are undefined, definitions of methods, on a receiver too, classes and modules, lambdas, calls of a name
-- alone, and calls of a value, of self and of the block of a method (`yield`) with plain items and splats, with or without
-- a block, and of the method above (`super`), which has one where its items stand in an Array. In the bodies of these methods, classes, lambdas and blocks stand
-- plain forms.
use Rattle.std.specs.Prelude.{◌≡◌, true, false, List, [], ◌∷◌, ◌++◌}
use Rattle.rb_syntax.specs.declared.core_form.DefinedKind.{DefinedKind}
use Rattle.rb_syntax.specs.declared.core_form.DefinedKind.TheVariants as asks
use Rattle.ir_core.specs.CoreForm.{Local, CoreForm, Body, body, nil, truth, falsehood, self_ref, int, str, sym, local, own, exception, set_local, ivar, set_ivar, gvar, set_gvar, constant, top_constant, in_constant, set_constant, set_in_constant, array, hash, range, text, intern, seq, cond, and_form, or_form, while_form, call, yield_form, super_form, function, lambda, begin_form, return_form, break_form, next_form, retry, define, define_on, class_form, module_form, singleton_class, alias_form, undef_form, defined, item, rest_of, tail_of, Maybe, absent, there, Forms, none, more, Items, no_items, plain, splat, Pairs, no_pairs, pair, Branches, no_branches, branch, to, on_self, bare, form_of, no_clauses, clause}
use Rattle.ir_core.specs.Program.{all_parameters, has_defaults}
use Rattle.code_laws.specs.Bound.{IsSeen}
use Rattle.def_eval.specs.Source.{span, parameters_of, locals_of}
use Rattle.step_laws.specs.Passed.{in_array, MayHand}
use Rattle.step_laws.specs.Bodies.{AreSingle}
use Rattle.step_laws.specs.Strict.{IsSome}

-- what `defined?` looks for in a value
abbrev pub IsLookedIn : DefinedKind → Type 0
IsLookedIn asks.Expression = ⊥
IsLookedIn asks.LocalVariable = ⊥
IsLookedIn asks.SelfReference = ⊥
IsLookedIn asks.Assignment = ⊥
IsLookedIn asks.InstanceVariable = ⊥
IsLookedIn asks.GlobalVariable = ⊥
IsLookedIn asks.Constant = Unit {0}
IsLookedIn asks.Method = Unit {0}
IsLookedIn asks.Yield = ⊥
IsLookedIn asks.Super = ⊥

-- none of them is hidden
abbrev pub AreSeen : List Local → Type 0
AreSeen [] = Unit {0}
AreSeen (x ∷ xs) = IsSeen x × AreSeen xs

-- the body of a method, a lambda or a block: none of its parameters and its locals is a hidden one, and it begins with the defaults
pub record IsPlainBody (b : Body) : Type 0 where
  pub single : AreSingle (parameters_of b)
  pub defaults : has_defaults (parameters_of b).optional (form_of b) ≡ true
  pub seen : AreSeen (all_parameters (parameters_of b) ++ locals_of b)

abbrev mutual
  pub IsPlain : CoreForm → Type 0
  IsPlain nil = Unit {0}
  IsPlain truth = Unit {0}
  IsPlain falsehood = Unit {0}
  IsPlain self_ref = Unit {0}
  IsPlain (int z) = Unit {0}
  IsPlain (str t) = Unit {0}
  IsPlain (sym x) = Unit {0}
  IsPlain (local x) = Unit {0}
  IsPlain (own x) = ⊥
  IsPlain exception = ⊥
  IsPlain (set_local x e) = IsPlain e
  IsPlain (ivar x) = Unit {0}
  IsPlain (set_ivar x e) = IsPlain e
  IsPlain (gvar x) = Unit {0}
  IsPlain (set_gvar x e) = IsPlain e
  IsPlain (constant x) = Unit {0}
  IsPlain (top_constant x) = Unit {0}
  IsPlain (in_constant e x) = IsPlain e
  IsPlain (set_constant x e) = IsPlain e
  IsPlain (set_in_constant e x v) = IsPlain e × IsPlain v
  IsPlain (array is) = ArePlainItems is
  IsPlain (hash ps) = ArePlainPairs ps
  IsPlain (range a b x) = IsPlain a × IsPlain b
  IsPlain (text es) = ArePlain es
  IsPlain (intern e) = IsPlain e
  IsPlain (seq es) = ArePlain es
  IsPlain (cond bs o) = ArePlainBranches bs × IsPlain o
  IsPlain (and_form a b) = IsPlain a × IsPlain b
  IsPlain (or_form a b) = IsPlain a × IsPlain b
  IsPlain (while_form false t b) = IsPlain t × IsPlain b
  -- where the body comes first no body stands in the test, which has its code behind that of the body
  IsPlain (while_form true t b) = IsPlain t × IsPlain b × (span t ≡ 0)
  IsPlain (call (to e) x is b) = IsPlain e × ArePlainItems is × MayHand (in_array is) b × IsPlainBlock b
  IsPlain (call on_self x is b) = ArePlainItems is × MayHand (in_array is) b × IsPlainBlock b
  IsPlain (call bare x no_items absent) = Unit {0}
  IsPlain (call bare x no_items (there b)) = ⊥
  IsPlain (call bare x (plain e is) m) = ⊥
  IsPlain (call bare x (splat e is) m) = ⊥
  IsPlain (yield_form is) = ArePlainItems is
  IsPlain (super_form is absent) = (in_array is ≡ false) × ArePlainItems is
  IsPlain (super_form is (there b)) = ArePlainItems is × MayHand (in_array is) (there b) × IsPlain b
  IsPlain (function (body p ls f)) = IsPlainBody (body p ls f) × IsPlain f
  IsPlain (lambda (body p ls f)) = IsPlainBody (body p ls f) × IsPlain f
  IsPlain (begin_form b no_clauses o absent) = IsPlain b × IsPlainBlock o
  IsPlain (begin_form b no_clauses o (there e)) = ⊥
  IsPlain (begin_form b (clause es t d cs) o e) = ⊥
  IsPlain (return_form e) = IsPlain e
  IsPlain (break_form e) = IsPlain e
  IsPlain (next_form e) = IsPlain e
  IsPlain retry = ⊥
  IsPlain (define x (body p ls f)) = IsPlainBody (body p ls f) × IsPlain f
  IsPlain (define_on e x (body p ls f)) = IsPlain e × IsPlainBody (body p ls f) × IsPlain f
  IsPlain (class_form s x p (body ps ls f)) = IsPlainMaybe s × IsPlainMaybe p × IsPlain f
  IsPlain (module_form s x (body ps ls f)) = IsPlainMaybe s × IsPlain f
  IsPlain (singleton_class e (body ps ls f)) = IsPlain e × IsPlain f
  IsPlain (alias_form x y) = Unit {0}
  IsPlain (undef_form x) = Unit {0}
  IsPlain (defined k x absent) = Unit {0}
  IsPlain (defined k x (there e)) = IsPlain e × IsLookedIn k
  IsPlain (item e k) = IsPlain e
  IsPlain (rest_of e from post) = IsPlain e
  IsPlain (tail_of e from count) = IsPlain e × IsSome count

  pub IsPlainBlock : Maybe → Type 0
  IsPlainBlock absent = Unit {0}
  IsPlainBlock (there b) = IsPlain b

  pub IsPlainMaybe : Maybe → Type 0
  IsPlainMaybe absent = Unit {0}
  IsPlainMaybe (there e) = IsPlain e

  pub ArePlain : Forms → Type 0
  ArePlain none = Unit {0}
  ArePlain (more e es) = IsPlain e × ArePlain es

  pub ArePlainItems : Items → Type 0
  ArePlainItems no_items = Unit {0}
  ArePlainItems (plain e is) = IsPlain e × ArePlainItems is
  ArePlainItems (splat e is) = IsPlain e × ArePlainItems is

  pub ArePlainPairs : Pairs → Type 0
  ArePlainPairs no_pairs = Unit {0}
  ArePlainPairs (pair a b ps) = IsPlain a × IsPlain b × ArePlainPairs ps

  pub ArePlainBranches : Branches → Type 0
  ArePlainBranches no_branches = Unit {0}
  ArePlainBranches (branch t b bs) = IsPlain t × IsPlain b × ArePlainBranches bs

-- a program of plain forms
abbrev pub IsPlainProgram : Body → Type 0
IsPlainProgram b = IsPlain (form_of b)
