-- What each body of a source is the body of, by its number.
use Rattle.std.specs.Prelude.{◌≡◌, ℕ, List, [], ◌∷◌, ◌++◌, slice_get, Some}
use Rattle.ir_core.specs.CoreForm as form
use Rattle.ir_core.specs.CoreForm.{CoreForm, Body, body, Maybe, absent, there, Forms, none, more, Items, no_items, plain, splat, Pairs, no_pairs, pair, Branches, no_branches, branch, Clauses, no_clauses, clause, Receiver, to, on_self, bare}
use Rattle.def_eval.specs.Source.{Source}

-- a lambda is one of a block, and a module or the class of one object one of a class
pub data Kind : Type 0 where
  of_program : Kind
  of_block : Kind
  of_method : Kind
  of_class : Kind

-- of the bodies in a form, depth first
abbrev mutual
  pub kinds : CoreForm → List Kind
  kinds form.nil = []
  kinds form.truth = []
  kinds form.falsehood = []
  kinds form.self_ref = []
  kinds (form.int z) = []
  kinds (form.str b) = []
  kinds (form.sym x) = []
  kinds (form.local x) = []
  kinds (form.own x) = []
  kinds form.exception = []
  kinds (form.set_local x e) = kinds e
  kinds (form.ivar x) = []
  kinds (form.set_ivar x e) = kinds e
  kinds (form.gvar x) = []
  kinds (form.set_gvar x e) = kinds e
  kinds (form.constant x) = []
  kinds (form.top_constant x) = []
  kinds (form.in_constant e x) = kinds e
  kinds (form.set_constant x e) = kinds e
  kinds (form.set_in_constant c x e) = kinds c ++ kinds e
  kinds (form.array is) = kinds_items is
  kinds (form.hash ps) = kinds_pairs ps
  kinds (form.range e f x) = kinds e ++ kinds f
  kinds (form.text es) = kinds_forms es
  kinds (form.intern e) = kinds e
  kinds (form.seq es) = kinds_forms es
  kinds (form.cond bs o) = kinds_branches bs ++ kinds o
  kinds (form.and_form e f) = kinds e ++ kinds f
  kinds (form.or_form e f) = kinds e ++ kinds f
  kinds (form.while_form first t b) = kinds t ++ kinds b
  kinds (form.call r x is b) = kinds_receiver r ++ (kinds_items is ++ kinds_maybe b)
  kinds (form.yield_form is) = kinds_items is
  kinds (form.super_form is b) = kinds_items is ++ kinds_maybe b
  kinds (form.function f) = kinds_body of_block f
  kinds (form.lambda f) = kinds_body of_block f
  kinds (form.begin_form b cs o e) = kinds b ++ (kinds_maybe o ++ (kinds_clauses cs ++ kinds_maybe e))
  kinds (form.return_form e) = kinds e
  kinds (form.break_form e) = kinds e
  kinds (form.next_form e) = kinds e
  kinds form.retry = []
  kinds (form.define x f) = kinds_body of_method f
  kinds (form.define_on e x f) = kinds e ++ kinds_body of_method f
  kinds (form.class_form c x p f) = kinds_maybe c ++ (kinds_maybe p ++ kinds_body of_class f)
  kinds (form.module_form c x f) = kinds_maybe c ++ kinds_body of_class f
  kinds (form.singleton_class e f) = kinds e ++ kinds_body of_class f
  kinds (form.alias_form x y) = []
  kinds (form.undef_form x) = []
  kinds (form.defined k x e) = kinds_maybe e
  kinds (form.item e k) = kinds e
  kinds (form.rest_of e from post) = kinds e
  kinds (form.tail_of e from count) = kinds e

  pub kinds_body : Kind → Body → List Kind
  kinds_body k (body p ls e) = k ∷ kinds e

  pub kinds_maybe : Maybe → List Kind
  kinds_maybe absent = []
  kinds_maybe (there e) = kinds e

  pub kinds_forms : Forms → List Kind
  kinds_forms none = []
  kinds_forms (more e es) = kinds e ++ kinds_forms es

  pub kinds_items : Items → List Kind
  kinds_items no_items = []
  kinds_items (plain e is) = kinds e ++ kinds_items is
  kinds_items (splat e is) = kinds e ++ kinds_items is

  pub kinds_pairs : Pairs → List Kind
  kinds_pairs no_pairs = []
  kinds_pairs (pair e f ps) = kinds e ++ (kinds f ++ kinds_pairs ps)

  pub kinds_branches : Branches → List Kind
  kinds_branches no_branches = []
  kinds_branches (branch t b bs) = kinds t ++ (kinds b ++ kinds_branches bs)

  pub kinds_clauses : Clauses → List Kind
  kinds_clauses no_clauses = []
  kinds_clauses (clause es t b cs) = kinds_forms es ++ (kinds_maybe t ++ (kinds b ++ kinds_clauses cs))

  pub kinds_receiver : Receiver → List Kind
  kinds_receiver (to e) = kinds e
  kinds_receiver on_self = []
  kinds_receiver bare = []

-- of those of a source, the first of which has all others in it
abbrev pub all_kinds : Source → List Kind
all_kinds [] = []
all_kinds (b ∷ bs) = kinds_body of_program b

-- the body of that number is one of that
abbrev pub IsKind : Source → ℕ → Kind → Type 0
IsKind s n k = slice_get (all_kinds s) n ≡ Some k
