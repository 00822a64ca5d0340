-- Forms over nil, true, false and integers: literals, locals of the source, sequences, branches, loops with break and
-- next, operators, and `puts`. A call has no more items than go into registers.
use Rattle.std.specs.Prelude.{◌≡◌, List, [], ◌∷◌, codes, bytes_eq, nat_lt, true, false}
use Rattle.std.specs.List.{list_any}
use Rattle.ir_counts.specs.Tables.{item_count}
use Rattle.ir_core.specs.CoreForm.{Name, Local, named, hidden, pattern, rest, CoreForm, nil, truth, falsehood, self_ref, int, str, sym, local, own, exception, set_local, ivar, set_ivar, gvar, set_gvar, constant, top_constant, in_constant, set_constant, set_in_constant, array, hash, range, text, intern, seq, cond, and_form, or_form, while_form, call, yield_form, super_form, function, lambda, begin_form, return_form, break_form, next_form, retry, define, define_on, class_form, module_form, singleton_class, alias_form, undef_form, defined, item, rest_of, tail_of, absent, there, Forms, none, more, Items, no_items, plain, splat, Branches, no_branches, branch, to, on_self, bare}

abbrev pub operators : List Name
operators =
    codes "+" ∷ codes "-" ∷ codes "*" ∷ codes "/" ∷ codes "==" ∷ codes "<" ∷ codes "<=" ∷ codes ">" ∷ codes ">=" ∷ []

abbrev pub IsOperator : Name → Type 0
IsOperator x = list_any (bytes_eq x) operators ≡ true

-- one of the source
abbrev pub IsNamedLocal : Local → Type 0
IsNamedLocal (named x) = Unit {0}
IsNamedLocal (hidden d) = ⊥
IsNamedLocal (pattern k) = ⊥
IsNamedLocal rest = ⊥

abbrev mutual
  pub IsSimple : CoreForm → Type 0
  IsSimple nil = Unit {0}
  IsSimple truth = Unit {0}
  IsSimple falsehood = Unit {0}
  IsSimple self_ref = ⊥
  IsSimple (int z) = Unit {0}
  IsSimple (str t) = ⊥
  IsSimple (sym x) = ⊥
  IsSimple (local x) = IsNamedLocal x
  IsSimple (own x) = ⊥
  IsSimple exception = ⊥
  IsSimple (set_local x e) = IsSimple e × IsNamedLocal x
  IsSimple (ivar x) = ⊥
  IsSimple (set_ivar x e) = ⊥
  IsSimple (gvar x) = ⊥
  IsSimple (set_gvar x e) = ⊥
  IsSimple (constant x) = ⊥
  IsSimple (top_constant x) = ⊥
  IsSimple (in_constant e x) = ⊥
  IsSimple (set_constant x e) = ⊥
  IsSimple (set_in_constant e x v) = ⊥
  IsSimple (array is) = ⊥
  IsSimple (hash ps) = ⊥
  IsSimple (range a b x) = ⊥
  IsSimple (text es) = ⊥
  IsSimple (intern e) = ⊥
  IsSimple (seq es) = AreSimple es
  IsSimple (cond bs o) = AreSimpleBranches bs × IsSimple o
  IsSimple (and_form a b) = IsSimple a × IsSimple b
  IsSimple (or_form a b) = IsSimple a × IsSimple b
  IsSimple (while_form first t b) = IsSimple t × IsSimple b
  IsSimple (call (to e) x is absent) =
      IsSimple e × AreSimpleItems is × IsOperator x × (nat_lt 253 (item_count is) ≡ false)
  IsSimple (call (to e) x is (there b)) = ⊥
  IsSimple (call on_self x is absent) =
      AreSimpleItems is × (x ≡ codes "puts") × (nat_lt 253 (item_count is) ≡ false)
  IsSimple (call on_self x is (there b)) = ⊥
  IsSimple (call bare x is m) = ⊥
  IsSimple (yield_form is) = ⊥
  IsSimple (super_form is b) = ⊥
  IsSimple (function f) = ⊥
  IsSimple (lambda f) = ⊥
  IsSimple (begin_form b cs o e) = ⊥
  IsSimple (return_form e) = ⊥
  IsSimple (break_form e) = IsSimple e
  IsSimple (next_form e) = IsSimple e
  IsSimple retry = ⊥
  IsSimple (define x f) = ⊥
  IsSimple (define_on e x f) = ⊥
  IsSimple (class_form s x p f) = ⊥
  IsSimple (module_form s x f) = ⊥
  IsSimple (singleton_class e f) = ⊥
  IsSimple (alias_form x y) = ⊥
  IsSimple (undef_form x) = ⊥
  IsSimple (defined k x e) = ⊥
  IsSimple (item e k) = ⊥
  IsSimple (rest_of e from post) = ⊥
  IsSimple (tail_of e from count) = ⊥

  pub AreSimple : Forms → Type 0
  AreSimple none = Unit {0}
  AreSimple (more e es) = IsSimple e × AreSimple es

  pub AreSimpleItems : Items → Type 0
  AreSimpleItems no_items = Unit {0}
  AreSimpleItems (plain e is) = IsSimple e × AreSimpleItems is
  AreSimpleItems (splat e is) = ⊥

  pub AreSimpleBranches : Branches → Type 0
  AreSimpleBranches no_branches = Unit {0}
  AreSimpleBranches (branch t b bs) = IsSimple t × IsSimple b × AreSimpleBranches bs
