-- Which cores are those of programs: what leaves a form has where to go, names are bound by the lists of bodies, and
-- optional parameters have their defaults.
use Rattle.std.specs.Prelude.{◌≡◌, nat_eq, bytes_eq, if◌then◌else◌, Bool, true, false, ◌&&◌, List, [], ◌∷◌, ◌++◌, Option, Some, None, is_some}
use Rattle.ir_core.specs.CoreForm as form
use Rattle.ir_core.specs.CoreForm.{Local, named, hidden, pattern, rest, Parameters, CoreForm, Body, body, Maybe, absent, there, Forms, none, more, Items, no_items, plain, splat, Pairs, no_pairs, pair, Branches, no_branches, branch, Clauses, no_clauses, clause, Receiver, to, on_self, bare}

abbrev pub are_same : Local → Local → Bool
are_same (named x) (named y) = bytes_eq x y
are_same (hidden d) (hidden e) = nat_eq d e
are_same (pattern k) (pattern l) = nat_eq k l
are_same rest rest = true
are_same _ _ = false

abbrev pub is_bound : Local → List Local → Bool
is_bound x [] = false
is_bound x (y ∷ ys) = if are_same x y then true else is_bound x ys

-- a hidden local is one of every body
abbrev pub is_known : Local → List Local → Bool
is_known (hidden d) ls = true
is_known (named x) ls = is_bound (named x) ls
is_known (pattern k) ls = is_bound (pattern k) ls
is_known rest ls = is_bound rest ls

abbrev pub all_parameters : Parameters → List Local
all_parameters p = p.required ++ p.optional ++ p.rest ++ p.post ++ p.block

-- What stands around a form.
pub record Around : Type 0 where
  -- the parameters and locals of its body, then those of the bodies around it of which blocks see them
  pub known : List Local
  -- there is a loop of the body, or the body is that of a block or a lambda
  pub loops : Bool
  -- it stands in a clause of the body
  pub clause : Bool
  -- it is the target of a clause
  pub target : Bool
  -- it stands in the body of no class, outside of its blocks and methods
  pub returns : Bool
  -- the parameters of the method around the text
  pub method : Option Parameters

abbrev pub within_loop : Around → Around
within_loop a = record a { loops = true }

abbrev pub within_clause : Around → Around
within_clause a = record a { clause = true }

abbrev pub within_target : Around → Around
within_target a = record a { clause = true; target = true }

-- inside of a block or a lambda
abbrev pub within_block : Around → Parameters → List Local → Around
within_block a p ls = record {
  known = all_parameters p ++ ls ++ a.known;
  loops = true;
  clause = false;
  target = false;
  returns = true;
  method = a.method;
}

-- inside of a method, and of a class or module
abbrev pub within_method : Parameters → List Local → Around
within_method p ls = record {
  known = all_parameters p ++ ls;
  loops = false;
  clause = false;
  target = false;
  returns = true;
  method = Some p;
}

abbrev pub within_class : List Local → Around
within_class ls = record {
  known = ls;
  loops = false;
  clause = false;
  target = false;
  returns = false;
  method = None;
}

-- inside of the main program
abbrev pub within_program : List Local → Around
within_program ls = record (within_class ls) { returns = true }

abbrev pub is_own : Local → Option Parameters → Bool
is_own x None = false
is_own x (Some p) = is_bound x (all_parameters p)

abbrev pub is_set : Local → CoreForm → Bool
is_set x (form.set_local y e) = are_same x y
is_set x _ = false

-- the first of some forms assign these
abbrev pub begin_with : List Local → Forms → Bool
begin_with [] fs = true
begin_with (x ∷ xs) none = false
begin_with (x ∷ xs) (more f fs) = is_set x f && begin_with xs fs

-- a body with optional parameters is a list of forms that begins with their defaults
abbrev pub has_defaults : List Local → CoreForm → Bool
has_defaults [] f = true
has_defaults (x ∷ xs) (form.seq fs) = begin_with (x ∷ xs) fs
has_defaults (x ∷ xs) _ = false

abbrev pub is_empty : List Local → Bool
is_empty [] = true
is_empty (x ∷ xs) = false

abbrev pub has_no_parameters : Parameters → Bool
has_no_parameters p = is_empty (all_parameters p)

abbrev mutual
  pub is_form : Around → CoreForm → Bool
  is_form a form.nil = true
  is_form a form.truth = true
  is_form a form.falsehood = true
  is_form a form.self_ref = true
  is_form a (form.int n) = true
  is_form a (form.str s) = true
  is_form a (form.sym x) = true
  is_form a (form.local x) = is_known x a.known
  is_form a (form.own x) = is_own x a.method
  is_form a form.exception = a.target
  is_form a (form.set_local x e) = is_known x a.known && is_form a e
  is_form a (form.ivar x) = true
  is_form a (form.set_ivar x e) = is_form a e
  is_form a (form.gvar x) = true
  is_form a (form.set_gvar x e) = is_form a e
  is_form a (form.constant x) = true
  is_form a (form.top_constant x) = true
  is_form a (form.in_constant e x) = is_form a e
  is_form a (form.set_constant x e) = is_form a e
  is_form a (form.set_in_constant s x e) = is_form a s && is_form a e
  is_form a (form.array is) = are_items a is
  is_form a (form.hash ps) = are_pairs a ps
  is_form a (form.range e f x) = is_form a e && is_form a f
  is_form a (form.text fs) = are_forms a fs
  is_form a (form.intern e) = is_form a e
  is_form a (form.seq fs) = are_forms a fs
  is_form a (form.cond bs e) = are_branches a bs && is_form a e
  is_form a (form.and_form e f) = is_form a e && is_form a f
  is_form a (form.or_form e f) = is_form a e && is_form a f
  is_form a (form.while_form first t e) = is_form (within_loop a) t && is_form (within_loop a) e
  is_form a (form.call r x is b) = is_receiver a r && (are_items a is && may_be a b)
  is_form a (form.yield_form is) = is_some a.method && are_items a is
  is_form a (form.super_form is b) = is_some a.method && (are_items a is && may_be a b)
  is_form a (form.function b) = is_block a b
  is_form a (form.lambda b) = is_block a b
  is_form a (form.begin_form e cs o f) = is_form a e && (are_clauses a cs && (may_be a o && may_be a f))
  is_form a (form.return_form e) = a.returns && is_form a e
  is_form a (form.break_form e) = a.loops && is_form a e
  is_form a (form.next_form e) = a.loops && is_form a e
  is_form a form.retry = a.clause
  is_form a (form.define x b) = is_method b
  is_form a (form.define_on e x b) = is_form a e && is_method b
  is_form a (form.class_form s x p b) = may_be a s && (may_be a p && is_class b)
  is_form a (form.module_form s x b) = may_be a s && is_class b
  is_form a (form.singleton_class e b) = is_form a e && is_class b
  is_form a (form.alias_form x y) = true
  is_form a (form.undef_form x) = true
  is_form a (form.defined k x e) = may_be a e
  is_form a (form.item e k) = is_form a e
  is_form a (form.rest_of e m n) = is_form a e
  is_form a (form.tail_of e m n) = is_form a e

  pub may_be : Around → Maybe → Bool
  may_be a absent = true
  may_be a (there e) = is_form a e

  pub are_forms : Around → Forms → Bool
  are_forms a none = true
  are_forms a (more e es) = is_form a e && are_forms a es

  pub are_items : Around → Items → Bool
  are_items a no_items = true
  are_items a (plain e is) = is_form a e && are_items a is
  are_items a (splat e is) = is_form a e && are_items a is

  pub are_pairs : Around → Pairs → Bool
  are_pairs a no_pairs = true
  are_pairs a (pair k v ps) = is_form a k && (is_form a v && are_pairs a ps)

  pub are_branches : Around → Branches → Bool
  are_branches a no_branches = true
  are_branches a (branch t e bs) = is_form a t && (is_form a e && are_branches a bs)

  -- what stands in a clause may go back to the body
  pub are_clauses : Around → Clauses → Bool
  are_clauses a no_clauses = true
  are_clauses a (clause cs t e more_clauses) =
      are_forms (within_clause a) cs && (may_be (within_target a) t && (is_form (within_clause a) e
      && are_clauses a more_clauses))

  pub is_receiver : Around → Receiver → Bool
  is_receiver a (to e) = is_form a e
  is_receiver a on_self = true
  is_receiver a bare = true

  -- a block or a lambda, a method, and a class or module
  pub is_block : Around → Body → Bool
  is_block a (body p ls e) = has_defaults p.optional e && is_form (within_block a p ls) e

  pub is_method : Body → Bool
  is_method (body p ls e) = has_defaults p.optional e && is_form (within_method p ls) e

  pub is_class : Body → Bool
  is_class (body p ls e) = has_no_parameters p && is_form (within_class ls) e

-- the body of a main program
abbrev pub is_program : Body → Bool
is_program (body p ls e) = has_no_parameters p && is_form (within_program ls) e

abbrev pub IsProgram : Body → Type 0
IsProgram b = is_program b ≡ true
