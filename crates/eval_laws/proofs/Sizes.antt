-- As many bodies stand in a form as its span says, and as many kinds of them.
use Rattle.std.proofs.Common.{◌≡◌, ℕ, ◌+◌, List, [], ◌++◌, length, refl, arith, length-append}
use Rattle.ir_core.specs.CoreForm as form
use Rattle.ir_core.specs.CoreForm.{CoreForm, Body, body, Maybe, absent, there, Forms, none, more, Items, no_items, plain, splat, Pairs, no_pairs, pair, Branches, no_branches, branch, Clauses, no_clauses, clause, Receiver, to, on_self, bare}
use Rattle.rb_syntax.specs.declared.core_form.DefinedKind.{DefinedKind}
use Rattle.rb_syntax.specs.declared.core_form.DefinedKind.TheVariants as asks
use Rattle.def_eval.specs.Source.{over, over_body, over_maybe, over_forms, over_items, over_pairs, over_branches, over_clauses, over_receiver, over_asked, how_many, in_order}
use Rattle.eval_laws.specs.Kinds.{Kind, of_block, of_method, of_class, kinds, kinds_body, kinds_maybe, kinds_forms, kinds_items, kinds_pairs, kinds_branches, kinds_clauses, kinds_receiver}

-- so many bodies, and kinds of them
pub record Sized (bs : List Body) (ks : List Kind) (n : ℕ) : Type 0 where
  pub bodies : length bs ≡ n
  pub kinds : length ks ≡ n

pub none_there : Sized [] [] 0
none_there = record { bodies = refl; kinds = refl }

two : (bs cs : List Body) (ks ls : List Kind) (m n : ℕ) → Sized bs ks m → Sized cs ls n
    → Sized (bs ++ cs) (ks ++ ls) (m + n)
two bs cs ks ls m n h k = record {
  bodies = rw length-append (omega (arith, h.bodies, k.bodies));
  kinds = rw length-append (omega (arith, h.kinds, k.kinds));
}

-- behind a name
named : (bs : List Body) (ks : List Kind) (n : ℕ) → Sized bs ks n → Sized bs ks (0 + n)
named bs ks n h = record { bodies = omega (arith, h.bodies); kinds = omega (arith, h.kinds) }

pub nothing_asked : (k : DefinedKind) (x : List ℕ) → Sized (over_asked in_order k x) [] (over_asked how_many k x)
nothing_asked asks.Expression x = none_there
nothing_asked asks.LocalVariable x = none_there
nothing_asked asks.InstanceVariable x = none_there
nothing_asked asks.GlobalVariable x = none_there
nothing_asked asks.Constant x = none_there
nothing_asked asks.Method x = none_there
nothing_asked asks.Yield x = none_there
nothing_asked asks.Super x = none_there
nothing_asked asks.SelfReference x = none_there
nothing_asked asks.Assignment x = none_there

mutual
  pub size : (e : CoreForm) → Sized (over in_order e) (kinds e) (over how_many e)
  size form.nil = none_there
  size form.truth = none_there
  size form.falsehood = none_there
  size form.self_ref = none_there
  size (form.int z) = none_there
  size (form.str b) = none_there
  size (form.sym x) = none_there
  size (form.local x) = none_there
  size (form.own x) = none_there
  size form.exception = none_there
  size (form.set_local x e) = size e
  size (form.ivar x) = none_there
  size (form.set_ivar x e) = named _ _ _ (size e)
  size (form.gvar x) = none_there
  size (form.set_gvar x e) = named _ _ _ (size e)
  size (form.constant x) = none_there
  size (form.top_constant x) = none_there
  size (form.in_constant e x) = named _ _ _ (size e)
  size (form.set_constant x e) = named _ _ _ (size e)
  size (form.set_in_constant c x e) = named _ _ _ (two _ _ _ _ _ _ (size c) (size e))
  size (form.array is) = size_items is
  size (form.hash ps) = size_pairs ps
  size (form.range e f x) = two _ _ _ _ _ _ (size e) (size f)
  size (form.text es) = size_forms es
  size (form.intern e) = size e
  size (form.seq es) = size_forms es
  size (form.cond bs o) = two _ _ _ _ _ _ (size_branches bs) (size o)
  size (form.and_form e f) = two _ _ _ _ _ _ (size e) (size f)
  size (form.or_form e f) = two _ _ _ _ _ _ (size e) (size f)
  size (form.while_form first t b) = two _ _ _ _ _ _ (size t) (size b)
  size (form.call r x is b) =
      named _ _ _ (two _ _ _ _ _ _ (size_receiver r) (two _ _ _ _ _ _ (size_items is) (size_maybe b)))
  size (form.yield_form is) = size_items is
  size (form.super_form is b) = two _ _ _ _ _ _ (size_items is) (size_maybe b)
  size (form.function f) = size_body of_block f
  size (form.lambda f) = size_body of_block f
  size (form.begin_form b cs o e) =
      two _ _ _ _ _ _ (size b) (two _ _ _ _ _ _ (size_maybe o) (two _ _ _ _ _ _ (size_clauses cs) (size_maybe e)))
  size (form.return_form e) = size e
  size (form.break_form e) = size e
  size (form.next_form e) = size e
  size form.retry = none_there
  size (form.define x f) = named _ _ _ (size_body of_method f)
  size (form.define_on e x f) = named _ _ _ (two _ _ _ _ _ _ (size e) (size_body of_method f))
  size (form.class_form c x p f) =
      named _ _ _ (two _ _ _ _ _ _ (size_maybe c) (two _ _ _ _ _ _ (size_maybe p) (size_body of_class f)))
  size (form.module_form c x f) = named _ _ _ (two _ _ _ _ _ _ (size_maybe c) (size_body of_class f))
  size (form.singleton_class e f) = two _ _ _ _ _ _ (size e) (size_body of_class f)
  size (form.alias_form x y) = none_there
  size (form.undef_form x) = none_there
  size (form.defined k x e) = two _ _ _ _ _ _ (nothing_asked k x) (size_maybe e)
  size (form.item e k) = size e
  size (form.rest_of e from post) = size e
  size (form.tail_of e from count) = size e

  pub size_body : (k : Kind) (f : Body) → Sized (over_body in_order f) (kinds_body k f) (over_body how_many f)
  size_body k (body p ls e) =
      let h = size e in record { bodies = omega (arith, h.bodies); kinds = omega (arith, h.kinds) }

  pub size_maybe : (e : Maybe) → Sized (over_maybe in_order e) (kinds_maybe e) (over_maybe how_many e)
  size_maybe absent = none_there
  size_maybe (there e) = size e

  pub size_forms : (es : Forms) → Sized (over_forms in_order es) (kinds_forms es) (over_forms how_many es)
  size_forms none = none_there
  size_forms (more e es) = two _ _ _ _ _ _ (size e) (size_forms es)

  pub size_items : (is : Items) → Sized (over_items in_order is) (kinds_items is) (over_items how_many is)
  size_items no_items = none_there
  size_items (plain e is) = two _ _ _ _ _ _ (size e) (size_items is)
  size_items (splat e is) = two _ _ _ _ _ _ (size e) (size_items is)

  pub size_pairs : (ps : Pairs) → Sized (over_pairs in_order ps) (kinds_pairs ps) (over_pairs how_many ps)
  size_pairs no_pairs = none_there
  size_pairs (pair e f ps) = two _ _ _ _ _ _ (size e) (two _ _ _ _ _ _ (size f) (size_pairs ps))

  pub size_branches : (bs : Branches) → Sized (over_branches in_order bs) (kinds_branches bs) (over_branches how_many bs)
  size_branches no_branches = none_there
  size_branches (branch t b bs) = two _ _ _ _ _ _ (size t) (two _ _ _ _ _ _ (size b) (size_branches bs))

  pub size_clauses : (cs : Clauses) → Sized (over_clauses in_order cs) (kinds_clauses cs) (over_clauses how_many cs)
  size_clauses no_clauses = none_there
  size_clauses (clause es t b cs) =
      two _ _ _ _ _ _ (size_forms es) (two _ _ _ _ _ _ (size_maybe t) (two _ _ _ _ _ _ (size b) (size_clauses cs)))

  pub size_receiver : (r : Receiver) → Sized (over_receiver in_order r) (kinds_receiver r) (over_receiver how_many r)
  size_receiver (to e) = size e
  size_receiver on_self = none_there
  size_receiver bare = none_there
