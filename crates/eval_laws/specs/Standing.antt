-- What of a source stands where: each form with the number of the first body in it, under what stands around it.
use Rattle.std.specs.Prelude.{◌≡◌, ◌<◌, ℕ, ◌+◌, true, bytes_eq, slice_get, Some}
use Rattle.std.specs.List.{list_any}
use Rattle.rb_syntax.specs.declared.core_form.DefinedKind.{DefinedKind}
use Rattle.rb_syntax.specs.declared.core_form.DefinedKind.TheVariants as asks
use Rattle.ir_core.specs.CoreForm as form
use Rattle.ir_core.specs.CoreForm.{Name, CoreForm, Body, body, Maybe, absent, there, Forms, none, more, Items, no_items, plain, splat, Pairs, no_pairs, pair, Branches, no_branches, branch, Clauses, no_clauses, clause, Receiver, to, on_self, bare}
use Rattle.ir_core.specs.Program.{Around, within_loop, within_clause, within_target, within_block, within_method, within_class, is_known, is_own, has_defaults}
use Rattle.def_eval.specs.Source.{Source, all_names, span, span_maybe, span_forms, span_clauses}
use Rattle.eval_laws.specs.Kinds.{IsKind, of_block, of_method, of_class}

-- the name stands in a body of the source
abbrev pub IsNamed : Source → Name → Type 0
IsNamed s x = list_any (bytes_eq x) (all_names s) ≡ true

-- the name that `defined?` looks for
abbrev pub IsAsked : Source → DefinedKind → Name → Type 0
IsAsked s asks.Expression x = Unit {0}
IsAsked s asks.LocalVariable x = Unit {0}
IsAsked s asks.InstanceVariable x = IsNamed s x
IsAsked s asks.GlobalVariable x = IsNamed s x
IsAsked s asks.Constant x = IsNamed s x
IsAsked s asks.Method x = IsNamed s x
IsAsked s asks.Yield x = Unit {0}
IsAsked s asks.Super x = Unit {0}
IsAsked s asks.SelfReference x = Unit {0}
IsAsked s asks.Assignment x = Unit {0}

-- The number of the first body behind some parts, where that of the first in them is n.

abbrev pub past_receiver : ℕ → Receiver → ℕ
past_receiver n (to e) = n + span e
past_receiver n on_self = n
past_receiver n bare = n

abbrev pub past_items : ℕ → Items → ℕ
past_items n no_items = n
past_items n (plain e is) = past_items (n + span e) is
past_items n (splat e is) = past_items (n + span e) is

abbrev pub past_branches : ℕ → Branches → ℕ
past_branches n no_branches = n
past_branches n (branch t b bs) = past_branches (n + span t + span b) bs

-- A form stands where its locals are known, its names are the source's, and its bodies have their numbers.
abbrev mutual
  pub FormStands : Source → Around → ℕ → CoreForm → Type 0
  FormStands s a n form.nil = Unit {0}
  FormStands s a n form.truth = Unit {0}
  FormStands s a n form.falsehood = Unit {0}
  FormStands s a n form.self_ref = Unit {0}
  FormStands s a n (form.int z) = Unit {0}
  FormStands s a n (form.str b) = Unit {0}
  FormStands s a n (form.sym x) = IsNamed s x
  FormStands s a n (form.local x) = is_known x a.known ≡ true
  FormStands s a n (form.own x) = is_own x a.method ≡ true
  FormStands s a n form.exception = a.target ≡ true
  FormStands s a n (form.set_local x e) = (is_known x a.known ≡ true) × FormStands s a n e
  FormStands s a n (form.ivar x) = IsNamed s x
  FormStands s a n (form.set_ivar x e) = IsNamed s x × FormStands s a n e
  FormStands s a n (form.gvar x) = IsNamed s x
  FormStands s a n (form.set_gvar x e) = IsNamed s x × FormStands s a n e
  FormStands s a n (form.constant x) = IsNamed s x
  FormStands s a n (form.top_constant x) = IsNamed s x
  FormStands s a n (form.in_constant e x) = IsNamed s x × FormStands s a n e
  FormStands s a n (form.set_constant x e) = IsNamed s x × FormStands s a n e
  FormStands s a n (form.set_in_constant c x e) = IsNamed s x × FormStands s a n c × FormStands s a (n + span c) e
  FormStands s a n (form.array is) = ItemsStand s a n is
  FormStands s a n (form.hash ps) = PairsStand s a n ps
  FormStands s a n (form.range e f x) = FormStands s a n e × FormStands s a (n + span e) f
  FormStands s a n (form.text es) = FormsStand s a n es
  FormStands s a n (form.intern e) = FormStands s a n e
  FormStands s a n (form.seq es) = FormsStand s a n es
  FormStands s a n (form.cond bs o) = BranchesStand s a n bs × FormStands s a (past_branches n bs) o
  FormStands s a n (form.and_form e f) = FormStands s a n e × FormStands s a (n + span e) f
  FormStands s a n (form.or_form e f) = FormStands s a n e × FormStands s a (n + span e) f
  FormStands s a n (form.while_form first t b) =
      FormStands s (within_loop a) n t × FormStands s (within_loop a) (n + span t) b
  FormStands s a n (form.call r x is b) = IsNamed s x × ReceiverStands s a n r
      × ItemsStand s a (past_receiver n r) is × MaybeStands s a (past_items (past_receiver n r) is) b
  FormStands s a n (form.yield_form is) = ItemsStand s a n is
  FormStands s a n (form.super_form is b) = ItemsStand s a n is × MaybeStands s a (past_items n is) b
  FormStands s a n (form.function f) = BlockStands s a n f
  FormStands s a n (form.lambda f) = BlockStands s a n f
  FormStands s a n (form.begin_form b cs o e) = FormStands s a n b
      × ClausesStand s a (n + span b + span_maybe o) cs × MaybeStands s a (n + span b) o
      × MaybeStands s a (n + span b + span_maybe o + span_clauses cs) e
  FormStands s a n (form.return_form e) = FormStands s a n e
  FormStands s a n (form.break_form e) = FormStands s a n e
  FormStands s a n (form.next_form e) = FormStands s a n e
  FormStands s a n form.retry = a.clause ≡ true
  FormStands s a n (form.define x f) = IsNamed s x × MethodStands s n f
  FormStands s a n (form.define_on e x f) = IsNamed s x × FormStands s a n e × MethodStands s (n + span e) f
  FormStands s a n (form.class_form c x p f) = IsNamed s x × MaybeStands s a n c × MaybeStands s a (n + span_maybe c) p
      × ClassStands s (n + span_maybe c + span_maybe p) f
  FormStands s a n (form.module_form c x f) = IsNamed s x × MaybeStands s a n c × ClassStands s (n + span_maybe c) f
  FormStands s a n (form.singleton_class e f) = FormStands s a n e × ClassStands s (n + span e) f
  FormStands s a n (form.alias_form x y) = IsNamed s x × IsNamed s y
  FormStands s a n (form.undef_form x) = IsNamed s x
  FormStands s a n (form.defined k x e) = IsAsked s k x × MaybeStands s a n e
  FormStands s a n (form.item e k) = FormStands s a n e
  FormStands s a n (form.rest_of e from post) = FormStands s a n e
  FormStands s a n (form.tail_of e from count) = FormStands s a n e

  pub MaybeStands : Source → Around → ℕ → Maybe → Type 0
  MaybeStands s a n absent = Unit {0}
  MaybeStands s a n (there e) = FormStands s a n e

  pub FormsStand : Source → Around → ℕ → Forms → Type 0
  FormsStand s a n none = Unit {0}
  FormsStand s a n (more e es) = FormStands s a n e × FormsStand s a (n + span e) es

  pub ItemsStand : Source → Around → ℕ → Items → Type 0
  ItemsStand s a n no_items = Unit {0}
  ItemsStand s a n (plain e is) = FormStands s a n e × ItemsStand s a (n + span e) is
  ItemsStand s a n (splat e is) = FormStands s a n e × ItemsStand s a (n + span e) is

  pub PairsStand : Source → Around → ℕ → Pairs → Type 0
  PairsStand s a n no_pairs = Unit {0}
  PairsStand s a n (pair e f ps) =
      FormStands s a n e × FormStands s a (n + span e) f × PairsStand s a (n + span e + span f) ps

  pub BranchesStand : Source → Around → ℕ → Branches → Type 0
  BranchesStand s a n no_branches = Unit {0}
  BranchesStand s a n (branch t b bs) =
      FormStands s a n t × FormStands s a (n + span t) b × BranchesStand s a (n + span t + span b) bs

  pub ClausesStand : Source → Around → ℕ → Clauses → Type 0
  ClausesStand s a n no_clauses = Unit {0}
  ClausesStand s a n (clause es t b cs) = FormsStand s (within_clause a) n es
      × MaybeStands s (within_target a) (n + span_forms es) t
      × FormStands s (within_clause a) (n + span_forms es + span_maybe t) b
      × ClausesStand s a (n + span_forms es + span_maybe t + span b) cs

  pub ReceiverStands : Source → Around → ℕ → Receiver → Type 0
  ReceiverStands s a n (to e) = FormStands s a n e
  ReceiverStands s a n on_self = Unit {0}
  ReceiverStands s a n bare = Unit {0}

  -- a block or lambda, a method, and a class or module; the first two are never the main program
  pub BlockStands : Source → Around → ℕ → Body → Type 0
  BlockStands s a n (body p ls e) = (slice_get s n ≡ Some (body p ls e)) × (has_defaults p.optional e ≡ true)
      × FormStands s (within_block a p ls) (n + 1) e × (0 < n) × IsKind s n of_block

  pub MethodStands : Source → ℕ → Body → Type 0
  MethodStands s n (body p ls e) = (slice_get s n ≡ Some (body p ls e)) × (has_defaults p.optional e ≡ true)
      × FormStands s (within_method p ls) (n + 1) e × (0 < n) × IsKind s n of_method

  pub ClassStands : Source → ℕ → Body → Type 0
  ClassStands s n (body p ls e) =
      (slice_get s n ≡ Some (body p ls e)) × FormStands s (within_class ls) (n + 1) e × IsKind s n of_class
