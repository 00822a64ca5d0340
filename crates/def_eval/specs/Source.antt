-- What a source is made of: its bodies by number, how many bodies stand in a form, and the names in a body.
use Rattle.std.specs.Prelude.{ℕ, suc, ◌+◌, List, [], ◌∷◌, ◌++◌, get_or}
use Rattle.rb_syntax.specs.declared.core_form.DefinedKind.{DefinedKind}
use Rattle.rb_syntax.specs.declared.core_form.DefinedKind.TheVariants as asks
use Rattle.ir_core.specs.CoreForm.{Name, Local, CoreForm, nil, truth, falsehood, self_ref, int, str, sym, local, own, exception, set_local, ivar, set_ivar, gvar, set_gvar, constant, top_constant, in_constant, set_constant, set_in_constant, array, hash, range, text, intern, seq, cond, and_form, or_form, while_form, call, yield_form, super_form, function, lambda, begin_form, return_form, break_form, next_form, retry, define, define_on, class_form, module_form, singleton_class, alias_form, undef_form, defined, item, rest_of, tail_of, Body, body, Maybe, absent, there, Forms, none, more, Items, no_items, plain, splat, Pairs, no_pairs, pair, Branches, no_branches, branch, Clauses, no_clauses, clause, Receiver, to, on_self, bare, Parameters}

-- the bodies of a source by number, depth first: 0 is the main program
abbrev pub Source : Type 0
Source = List Body

-- What is gathered over a form: nothing of a leaf, what its parts give joined in their order, something of each body
-- that stands in it, something of each name that it has besides those of its parts, and something of the parts of a
-- begin form.
pub record Gathered (A : Type 0) : Type 0 where
  pub nothing : A
  pub join : A → A → A
  pub of_body : Body → A → A
  pub of_name : Name → A
  -- a body with its clauses, its `else` and its ensure part: the code of the `else` stands before that of the clauses
  pub of_begin : A → A → A → A → A

-- the name that `defined?` looks for
abbrev pub over_asked : {A : Type 0} → Gathered A → DefinedKind → Name → A
over_asked a asks.Expression x = a.nothing
over_asked a asks.LocalVariable x = a.nothing
over_asked a asks.InstanceVariable x = a.of_name x
over_asked a asks.GlobalVariable x = a.of_name x
over_asked a asks.Constant x = a.of_name x
over_asked a asks.Method x = a.of_name x
over_asked a asks.Yield x = a.nothing
over_asked a asks.Super x = a.nothing
over_asked a asks.SelfReference x = a.nothing
over_asked a asks.Assignment x = a.nothing

-- a form's own names come before those of its parts, as in the tables of its code
abbrev mutual
  pub over : {A : Type 0} → Gathered A → CoreForm → A
  over a nil = a.nothing
  over a truth = a.nothing
  over a falsehood = a.nothing
  over a self_ref = a.nothing
  over a (int z) = a.nothing
  over a (str b) = a.nothing
  over a (sym x) = a.of_name x
  over a (local x) = a.nothing
  over a (own x) = a.nothing
  over a exception = a.nothing
  over a (set_local x e) = over a e
  over a (ivar x) = a.of_name x
  over a (set_ivar x e) = a.join (a.of_name x) (over a e)
  over a (gvar x) = a.of_name x
  over a (set_gvar x e) = a.join (a.of_name x) (over a e)
  over a (constant x) = a.of_name x
  over a (top_constant x) = a.of_name x
  over a (in_constant e x) = a.join (a.of_name x) (over a e)
  over a (set_constant x e) = a.join (a.of_name x) (over a e)
  over a (set_in_constant s x e) = a.join (a.of_name x) (a.join (over a s) (over a e))
  over a (array is) = over_items a is
  over a (hash ps) = over_pairs a ps
  over a (range e f x) = a.join (over a e) (over a f)
  over a (text es) = over_forms a es
  over a (intern e) = over a e
  over a (seq es) = over_forms a es
  over a (cond bs o) = a.join (over_branches a bs) (over a o)
  over a (and_form e f) = a.join (over a e) (over a f)
  over a (or_form e f) = a.join (over a e) (over a f)
  over a (while_form first t b) = a.join (over a t) (over a b)
  over a (call r x is b) = a.join (a.of_name x) (a.join (over_receiver a r) (a.join (over_items a is) (over_maybe a b)))
  over a (yield_form is) = over_items a is
  over a (super_form is b) = a.join (over_items a is) (over_maybe a b)
  over a (function f) = over_body a f
  over a (lambda f) = over_body a f
  over a (begin_form b cs o e) = a.of_begin (over a b) (over_clauses a cs) (over_maybe a o) (over_maybe a e)
  over a (return_form e) = over a e
  over a (break_form e) = over a e
  over a (next_form e) = over a e
  over a retry = a.nothing
  over a (define x f) = a.join (a.of_name x) (over_body a f)
  over a (define_on e x f) = a.join (a.of_name x) (a.join (over a e) (over_body a f))
  over a (class_form s x p f) = a.join (a.of_name x) (a.join (over_maybe a s) (a.join (over_maybe a p) (over_body a f)))
  over a (module_form s x f) = a.join (a.of_name x) (a.join (over_maybe a s) (over_body a f))
  over a (singleton_class e f) = a.join (over a e) (over_body a f)
  over a (alias_form new old) = a.join (a.of_name new) (a.of_name old)
  over a (undef_form x) = a.of_name x
  over a (defined k x e) = a.join (over_asked a k x) (over_maybe a e)
  over a (item e k) = over a e
  over a (rest_of e from post) = over a e
  over a (tail_of e from count) = over a e

  pub over_body : {A : Type 0} → Gathered A → Body → A
  over_body a (body ps ls e) = a.of_body (body ps ls e) (over a e)

  pub over_maybe : {A : Type 0} → Gathered A → Maybe → A
  over_maybe a absent = a.nothing
  over_maybe a (there e) = over a e

  pub over_forms : {A : Type 0} → Gathered A → Forms → A
  over_forms a none = a.nothing
  over_forms a (more e es) = a.join (over a e) (over_forms a es)

  pub over_items : {A : Type 0} → Gathered A → Items → A
  over_items a no_items = a.nothing
  over_items a (plain e is) = a.join (over a e) (over_items a is)
  over_items a (splat e is) = a.join (over a e) (over_items a is)

  pub over_pairs : {A : Type 0} → Gathered A → Pairs → A
  over_pairs a no_pairs = a.nothing
  over_pairs a (pair e f ps) = a.join (over a e) (a.join (over a f) (over_pairs a ps))

  pub over_branches : {A : Type 0} → Gathered A → Branches → A
  over_branches a no_branches = a.nothing
  over_branches a (branch t b bs) = a.join (over a t) (a.join (over a b) (over_branches a bs))

  pub over_clauses : {A : Type 0} → Gathered A → Clauses → A
  over_clauses a no_clauses = a.nothing
  over_clauses a (clause es t b cs) =
      a.join (over_forms a es) (a.join (over_maybe a t) (a.join (over a b) (over_clauses a cs)))

  pub over_receiver : {A : Type 0} → Gathered A → Receiver → A
  over_receiver a (to e) = over a e
  over_receiver a on_self = a.nothing
  over_receiver a bare = a.nothing

-- how many bodies stand in a form, those inside them too
abbrev pub how_many : Gathered ℕ
how_many = record {
  nothing = 0;
  join = λ m n. m + n;
  of_body = λ f n. suc n;
  of_name = λ x. 0;
  of_begin = λ b cs o e. b + (o + (cs + e));
}

abbrev pub span : CoreForm → ℕ
span e = over how_many e

abbrev pub span_maybe : Maybe → ℕ
span_maybe e = over_maybe how_many e

abbrev pub span_forms : Forms → ℕ
span_forms es = over_forms how_many es

abbrev pub span_clauses : Clauses → ℕ
span_clauses cs = over_clauses how_many cs

-- these bodies, depth first
abbrev pub in_order : Gathered (List Body)
in_order = record {
  nothing = [];
  join = λ bs cs. bs ++ cs;
  of_body = λ f bs. f ∷ bs;
  of_name = λ x. [];
  of_begin = λ b cs o e. b ++ (o ++ (cs ++ e));
}

-- the names in a form, but for those in the bodies that stand in it
abbrev pub named_in : Gathered (List Name)
named_in = record {
  nothing = [];
  join = λ xs ys. xs ++ ys;
  of_body = λ f xs. [];
  of_name = λ x. x ∷ [];
  of_begin = λ b cs o e. b ++ (cs ++ (o ++ e));
}

-- the main program with the bodies in it
abbrev pub source_of : Body → Source
source_of b = over_body in_order b

abbrev pub no_parameters : Parameters
no_parameters = record { required = []; optional = []; rest = []; post = []; block = [] }

unfoldable pub body_at : Source → ℕ → Body
body_at s n = get_or s n (body no_parameters [] nil)

abbrev pub form_of : Body → CoreForm
form_of (body ps ls e) = e

abbrev pub parameters_of : Body → Parameters
parameters_of (body ps ls e) = ps

abbrev pub locals_of : Body → List Local
locals_of (body ps ls e) = ls

-- the names of all bodies, body by body
abbrev pub all_names : Source → List Name
all_names [] = []
all_names (b ∷ bs) = over named_in (form_of b) ++ all_names bs
