-- The tally of a body has the bytes of code of all its forms, and the steps of a walk begin all bodies in a form.
use Rattle.std.proofs.Common.{◌≡◌, ℕ, ◌+◌, List, [], ◌∷◌, ◌++◌, length, arith, refl}
use Rattle.ir_core.specs.CoreForm as form
use Rattle.ir_core.specs.CoreForm.{CoreForm, Body, Maybe, Forms, Items, Pairs, Branches, Clauses, Receiver}
use Rattle.ir_walk.specs.declared.extent.Extent.TheVariants as extent
use Rattle.ir_walk.specs.Walk.{Step, at, enter, leave, met, entering, walked, walked_all, walked_maybe, walked_items, walked_pairs, walked_branches, walked_clauses, walked_receiver, walked_body}
use Rattle.ir_counts.specs.declared.tally.Tally.{Tally}
use Rattle.ir_counts.specs.Bodies.{begun}
use Rattle.ir_counts.specs.Tables.{code_of}
use Rattle.ir_counts.specs.Tally.{counted, tallied}
use Rattle.code_laws.proofs.Shares.{cost, cost_maybe, cost_all, cost_items, cost_pairs, cost_branches, cost_clauses, cost_receiver, many, many_maybe, many_all, many_items, many_pairs, many_branches, many_clauses, many_receiver, many_body}

-- the bytes of the forms of steps, and how many bodies they begin
abbrev bytes_in : List Step → ℕ
bytes_in [] = 0
bytes_in (at f ∷ ss) = code_of f + bytes_in ss
bytes_in (enter b ∷ ss) = bytes_in ss
bytes_in (leave ∷ ss) = bytes_in ss

abbrev begun_in : List Step → ℕ
begun_in [] = 0
begun_in (at f ∷ ss) = begun_in ss
begun_in (enter b ∷ ss) = 1 + begun_in ss
begun_in (leave ∷ ss) = begun_in ss

bytes_with : (ss ts : List Step) → bytes_in (ss ++ ts) ≡ bytes_in ss + bytes_in ts
bytes_with [] ts = omega arith
bytes_with (at f ∷ ss) ts = omega (arith, bytes_with ss ts)
bytes_with (enter b ∷ ss) ts = bytes_with ss ts
bytes_with (leave ∷ ss) ts = bytes_with ss ts

begun_with : (ss ts : List Step) → begun_in (ss ++ ts) ≡ begun_in ss + begun_in ts
begun_with [] ts = omega arith
begun_with (at f ∷ ss) ts = begun_with ss ts
begun_with (enter b ∷ ss) ts = omega (arith, begun_with ss ts)
begun_with (leave ∷ ss) ts = begun_with ss ts

bytes_met : (ss : List Step) (f : CoreForm) → bytes_in (met ss f) ≡ bytes_in ss + code_of f
bytes_met ss f = omega (arith, bytes_with ss (at f ∷ []))

begun_met : (ss : List Step) (f : CoreForm) → begun_in (met ss f) ≡ begun_in ss
begun_met ss f = omega (arith, begun_with ss (at f ∷ []))

pub tallied_bytes : (t : Tally) (ss : List Step) → (tallied t ss).code ≡ t.code + bytes_in ss
tallied_bytes t [] = omega arith
tallied_bytes t (at f ∷ ss) = omega (arith, tallied_bytes (counted t f) ss)
tallied_bytes t (enter b ∷ ss) = tallied_bytes t ss
tallied_bytes t (leave ∷ ss) = tallied_bytes t ss

pub begun_length : (ss : List Step) → length (begun ss) ≡ begun_in ss
begun_length [] = refl
begun_length (at f ∷ ss) = begun_length ss
begun_length (enter b ∷ ss) = omega (arith, begun_length ss)
begun_length (leave ∷ ss) = begun_length ss

mutual
  pub cost_is : (f : CoreForm) (s : List Step) → bytes_in (walked extent.Body s f) ≡ bytes_in s + cost f
  cost_is form.nil s = omega (arith, bytes_met s form.nil)
  cost_is form.truth s = omega (arith, bytes_met s form.truth)
  cost_is form.falsehood s = omega (arith, bytes_met s form.falsehood)
  cost_is form.self_ref s = omega (arith, bytes_met s form.self_ref)
  cost_is (form.int x) s = omega (arith, bytes_met s (form.int x))
  cost_is (form.str x) s = omega (arith, bytes_met s (form.str x))
  cost_is (form.sym x) s = omega (arith, bytes_met s (form.sym x))
  cost_is (form.local x) s = omega (arith, bytes_met s (form.local x))
  cost_is (form.own x) s = omega (arith, bytes_met s (form.own x))
  cost_is form.exception s = omega (arith, bytes_met s form.exception)
  cost_is (form.set_local x e) s =
      let s0 = met s (form.set_local x e) in
      let i0 = cost_is e s0 in
      omega (arith, bytes_met s (form.set_local x e), i0)
  cost_is (form.ivar x) s = omega (arith, bytes_met s (form.ivar x))
  cost_is (form.set_ivar x e) s =
      let s0 = met s (form.set_ivar x e) in
      let i0 = cost_is e s0 in
      omega (arith, bytes_met s (form.set_ivar x e), i0)
  cost_is (form.gvar x) s = omega (arith, bytes_met s (form.gvar x))
  cost_is (form.set_gvar x e) s =
      let s0 = met s (form.set_gvar x e) in
      let i0 = cost_is e s0 in
      omega (arith, bytes_met s (form.set_gvar x e), i0)
  cost_is (form.constant x) s = omega (arith, bytes_met s (form.constant x))
  cost_is (form.top_constant x) s = omega (arith, bytes_met s (form.top_constant x))
  cost_is (form.in_constant e x) s =
      let s0 = met s (form.in_constant e x) in
      let i0 = cost_is e s0 in
      omega (arith, bytes_met s (form.in_constant e x), i0)
  cost_is (form.set_constant x e) s =
      let s0 = met s (form.set_constant x e) in
      let i0 = cost_is e s0 in
      omega (arith, bytes_met s (form.set_constant x e), i0)
  cost_is (form.set_in_constant e x f) s =
      let s0 = met s (form.set_in_constant e x f) in
      let s1 = walked extent.Body s0 e in
      let i0 = cost_is e s0 in
      let i1 = cost_is f s1 in
      omega (arith, bytes_met s (form.set_in_constant e x f), i0, i1)
  cost_is (form.array is) s =
      let s0 = met s (form.array is) in
      let i0 = cost_items_is is s0 in
      omega (arith, bytes_met s (form.array is), i0)
  cost_is (form.hash ps) s =
      let s0 = met s (form.hash ps) in
      let i0 = cost_pairs_is ps s0 in
      omega (arith, bytes_met s (form.hash ps), i0)
  cost_is (form.range e f x) s =
      let s0 = met s (form.range e f x) in
      let s1 = walked extent.Body s0 e in
      let i0 = cost_is e s0 in
      let i1 = cost_is f s1 in
      omega (arith, bytes_met s (form.range e f x), i0, i1)
  cost_is (form.text es) s =
      let s0 = met s (form.text es) in
      let i0 = cost_all_is es s0 in
      omega (arith, bytes_met s (form.text es), i0)
  cost_is (form.intern e) s =
      let s0 = met s (form.intern e) in
      let i0 = cost_is e s0 in
      omega (arith, bytes_met s (form.intern e), i0)
  cost_is (form.seq es) s =
      let s0 = met s (form.seq es) in
      let i0 = cost_all_is es s0 in
      omega (arith, bytes_met s (form.seq es), i0)
  cost_is (form.cond bs e) s =
      let s0 = met s (form.cond bs e) in
      let s1 = walked_branches extent.Body s0 bs in
      let i0 = cost_branches_is bs s0 in
      let i1 = cost_is e s1 in
      omega (arith, bytes_met s (form.cond bs e), i0, i1)
  cost_is (form.and_form e f) s =
      let s0 = met s (form.and_form e f) in
      let s1 = walked extent.Body s0 e in
      let i0 = cost_is e s0 in
      let i1 = cost_is f s1 in
      omega (arith, bytes_met s (form.and_form e f), i0, i1)
  cost_is (form.or_form e f) s =
      let s0 = met s (form.or_form e f) in
      let s1 = walked extent.Body s0 e in
      let i0 = cost_is e s0 in
      let i1 = cost_is f s1 in
      omega (arith, bytes_met s (form.or_form e f), i0, i1)
  cost_is (form.while_form x e f) s =
      let s0 = met s (form.while_form x e f) in
      let s1 = walked extent.Body s0 e in
      let i0 = cost_is e s0 in
      let i1 = cost_is f s1 in
      omega (arith, bytes_met s (form.while_form x e f), i0, i1)
  cost_is (form.call r x is o) s =
      let s0 = met s (form.call r x is o) in
      let s1 = walked_receiver extent.Body s0 r in
      let s2 = walked_items extent.Body s1 is in
      let i0 = cost_receiver_is r s0 in
      let i1 = cost_items_is is s1 in
      let i2 = cost_maybe_is o s2 in
      omega (arith, bytes_met s (form.call r x is o), i0, i1, i2)
  cost_is (form.yield_form is) s =
      let s0 = met s (form.yield_form is) in
      let i0 = cost_items_is is s0 in
      omega (arith, bytes_met s (form.yield_form is), i0)
  cost_is (form.super_form is o) s =
      let s0 = met s (form.super_form is o) in
      let s1 = walked_items extent.Body s0 is in
      let i0 = cost_items_is is s0 in
      let i1 = cost_maybe_is o s1 in
      omega (arith, bytes_met s (form.super_form is o), i0, i1)
  cost_is (form.function (form.body q ls g)) s = omega (arith, bytes_met s (form.function (form.body q ls g)))
  cost_is (form.lambda (form.body q ls g)) s = omega (arith, bytes_met s (form.lambda (form.body q ls g)))
  cost_is (form.begin_form e cs o p) s =
      let s0 = met s (form.begin_form e cs o p) in
      let s1 = walked extent.Body s0 e in
      let s2 = walked_clauses extent.Body s1 cs in
      let s3 = walked_maybe extent.Body s2 o in
      let i0 = cost_is e s0 in
      let i1 = cost_clauses_is cs s1 in
      let i2 = cost_maybe_is o s2 in
      let i3 = cost_maybe_is p s3 in
      omega (arith, bytes_met s (form.begin_form e cs o p), i0, i1, i2, i3)
  cost_is (form.return_form e) s =
      let s0 = met s (form.return_form e) in
      let i0 = cost_is e s0 in
      omega (arith, bytes_met s (form.return_form e), i0)
  cost_is (form.break_form e) s =
      let s0 = met s (form.break_form e) in
      let i0 = cost_is e s0 in
      omega (arith, bytes_met s (form.break_form e), i0)
  cost_is (form.next_form e) s =
      let s0 = met s (form.next_form e) in
      let i0 = cost_is e s0 in
      omega (arith, bytes_met s (form.next_form e), i0)
  cost_is form.retry s = omega (arith, bytes_met s form.retry)
  cost_is (form.define x (form.body q ls g)) s = omega (arith, bytes_met s (form.define x (form.body q ls g)))
  cost_is (form.define_on e x (form.body q ls g)) s =
      let s0 = met s (form.define_on e x (form.body q ls g)) in
      let i0 = cost_is e s0 in
      omega (arith, bytes_met s (form.define_on e x (form.body q ls g)), i0)
  cost_is (form.class_form o x p (form.body q ls g)) s =
      let s0 = met s (form.class_form o x p (form.body q ls g)) in
      let s1 = walked_maybe extent.Body s0 o in
      let i0 = cost_maybe_is o s0 in
      let i1 = cost_maybe_is p s1 in
      omega (arith, bytes_met s (form.class_form o x p (form.body q ls g)), i0, i1)
  cost_is (form.module_form o x (form.body q ls g)) s =
      let s0 = met s (form.module_form o x (form.body q ls g)) in
      let i0 = cost_maybe_is o s0 in
      omega (arith, bytes_met s (form.module_form o x (form.body q ls g)), i0)
  cost_is (form.singleton_class e (form.body q ls g)) s =
      let s0 = met s (form.singleton_class e (form.body q ls g)) in
      let i0 = cost_is e s0 in
      omega (arith, bytes_met s (form.singleton_class e (form.body q ls g)), i0)
  cost_is (form.alias_form x y) s = omega (arith, bytes_met s (form.alias_form x y))
  cost_is (form.undef_form x) s = omega (arith, bytes_met s (form.undef_form x))
  cost_is (form.defined x y o) s =
      let s0 = met s (form.defined x y o) in
      let i0 = cost_maybe_is o s0 in
      omega (arith, bytes_met s (form.defined x y o), i0)
  cost_is (form.item e x) s =
      let s0 = met s (form.item e x) in
      let i0 = cost_is e s0 in
      omega (arith, bytes_met s (form.item e x), i0)
  cost_is (form.rest_of e x y) s =
      let s0 = met s (form.rest_of e x y) in
      let i0 = cost_is e s0 in
      omega (arith, bytes_met s (form.rest_of e x y), i0)
  cost_is (form.tail_of e x y) s =
      let s0 = met s (form.tail_of e x y) in
      let i0 = cost_is e s0 in
      omega (arith, bytes_met s (form.tail_of e x y), i0)

  cost_maybe_is : (x : Maybe) (s : List Step) → bytes_in (walked_maybe extent.Body s x) ≡ bytes_in s + cost_maybe x
  cost_maybe_is form.absent s = omega arith
  cost_maybe_is (form.there e) s = cost_is e s

  cost_all_is : (x : Forms) (s : List Step) → bytes_in (walked_all extent.Body s x) ≡ bytes_in s + cost_all x
  cost_all_is form.none s = omega arith
  cost_all_is (form.more e es) s =
      let s1 = walked extent.Body s e in
      let i0 = cost_is e s in
      let i1 = cost_all_is es s1 in
      omega (arith, i0, i1)

  cost_items_is : (x : Items) (s : List Step) → bytes_in (walked_items extent.Body s x) ≡ bytes_in s + cost_items x
  cost_items_is form.no_items s = omega arith
  cost_items_is (form.plain e is) s =
      let s1 = walked extent.Body s e in
      let i0 = cost_is e s in
      let i1 = cost_items_is is s1 in
      omega (arith, i0, i1)
  cost_items_is (form.splat e is) s =
      let s1 = walked extent.Body s e in
      let i0 = cost_is e s in
      let i1 = cost_items_is is s1 in
      omega (arith, i0, i1)

  cost_pairs_is : (x : Pairs) (s : List Step) → bytes_in (walked_pairs extent.Body s x) ≡ bytes_in s + cost_pairs x
  cost_pairs_is form.no_pairs s = omega arith
  cost_pairs_is (form.pair e f ps) s =
      let s1 = walked extent.Body s e in
      let s2 = walked extent.Body s1 f in
      let i0 = cost_is e s in
      let i1 = cost_is f s1 in
      let i2 = cost_pairs_is ps s2 in
      omega (arith, i0, i1, i2)

  cost_branches_is : (x : Branches) (s : List Step) → bytes_in (walked_branches extent.Body s x) ≡ bytes_in
      s + cost_branches x
  cost_branches_is form.no_branches s = omega arith
  cost_branches_is (form.branch e f bs) s =
      let s1 = walked extent.Body s e in
      let s2 = walked extent.Body s1 f in
      let i0 = cost_is e s in
      let i1 = cost_is f s1 in
      let i2 = cost_branches_is bs s2 in
      omega (arith, i0, i1, i2)

  cost_clauses_is : (x : Clauses) (s : List Step) → bytes_in (walked_clauses extent.Body s x) ≡ bytes_in
      s + cost_clauses x
  cost_clauses_is form.no_clauses s = omega arith
  cost_clauses_is (form.clause es o e cs) s =
      let s1 = walked_all extent.Body s es in
      let s2 = walked_maybe extent.Body s1 o in
      let s3 = walked extent.Body s2 e in
      let i0 = cost_all_is es s in
      let i1 = cost_maybe_is o s1 in
      let i2 = cost_is e s2 in
      let i3 = cost_clauses_is cs s3 in
      omega (arith, i0, i1, i2, i3)

  cost_receiver_is : (x : Receiver) (s : List Step) → bytes_in (walked_receiver extent.Body s x) ≡ bytes_in
      s + cost_receiver x
  cost_receiver_is (form.to e) s = cost_is e s
  cost_receiver_is form.on_self s = omega arith
  cost_receiver_is form.bare s = omega arith

mutual
  pub many_is : (f : CoreForm) (s : List Step) → begun_in (walked extent.Program s f) ≡ begun_in s + many f
  many_is form.nil s = omega (arith, begun_met s form.nil)
  many_is form.truth s = omega (arith, begun_met s form.truth)
  many_is form.falsehood s = omega (arith, begun_met s form.falsehood)
  many_is form.self_ref s = omega (arith, begun_met s form.self_ref)
  many_is (form.int x) s = omega (arith, begun_met s (form.int x))
  many_is (form.str x) s = omega (arith, begun_met s (form.str x))
  many_is (form.sym x) s = omega (arith, begun_met s (form.sym x))
  many_is (form.local x) s = omega (arith, begun_met s (form.local x))
  many_is (form.own x) s = omega (arith, begun_met s (form.own x))
  many_is form.exception s = omega (arith, begun_met s form.exception)
  many_is (form.set_local x e) s =
      let s0 = met s (form.set_local x e) in
      let i0 = many_is e s0 in
      omega (arith, begun_met s (form.set_local x e), i0)
  many_is (form.ivar x) s = omega (arith, begun_met s (form.ivar x))
  many_is (form.set_ivar x e) s =
      let s0 = met s (form.set_ivar x e) in
      let i0 = many_is e s0 in
      omega (arith, begun_met s (form.set_ivar x e), i0)
  many_is (form.gvar x) s = omega (arith, begun_met s (form.gvar x))
  many_is (form.set_gvar x e) s =
      let s0 = met s (form.set_gvar x e) in
      let i0 = many_is e s0 in
      omega (arith, begun_met s (form.set_gvar x e), i0)
  many_is (form.constant x) s = omega (arith, begun_met s (form.constant x))
  many_is (form.top_constant x) s = omega (arith, begun_met s (form.top_constant x))
  many_is (form.in_constant e x) s =
      let s0 = met s (form.in_constant e x) in
      let i0 = many_is e s0 in
      omega (arith, begun_met s (form.in_constant e x), i0)
  many_is (form.set_constant x e) s =
      let s0 = met s (form.set_constant x e) in
      let i0 = many_is e s0 in
      omega (arith, begun_met s (form.set_constant x e), i0)
  many_is (form.set_in_constant e x f) s =
      let s0 = met s (form.set_in_constant e x f) in
      let s1 = walked extent.Program s0 e in
      let i0 = many_is e s0 in
      let i1 = many_is f s1 in
      omega (arith, begun_met s (form.set_in_constant e x f), i0, i1)
  many_is (form.array is) s =
      let s0 = met s (form.array is) in
      let i0 = many_items_is is s0 in
      omega (arith, begun_met s (form.array is), i0)
  many_is (form.hash ps) s =
      let s0 = met s (form.hash ps) in
      let i0 = many_pairs_is ps s0 in
      omega (arith, begun_met s (form.hash ps), i0)
  many_is (form.range e f x) s =
      let s0 = met s (form.range e f x) in
      let s1 = walked extent.Program s0 e in
      let i0 = many_is e s0 in
      let i1 = many_is f s1 in
      omega (arith, begun_met s (form.range e f x), i0, i1)
  many_is (form.text es) s =
      let s0 = met s (form.text es) in
      let i0 = many_all_is es s0 in
      omega (arith, begun_met s (form.text es), i0)
  many_is (form.intern e) s =
      let s0 = met s (form.intern e) in
      let i0 = many_is e s0 in
      omega (arith, begun_met s (form.intern e), i0)
  many_is (form.seq es) s =
      let s0 = met s (form.seq es) in
      let i0 = many_all_is es s0 in
      omega (arith, begun_met s (form.seq es), i0)
  many_is (form.cond bs e) s =
      let s0 = met s (form.cond bs e) in
      let s1 = walked_branches extent.Program s0 bs in
      let i0 = many_branches_is bs s0 in
      let i1 = many_is e s1 in
      omega (arith, begun_met s (form.cond bs e), i0, i1)
  many_is (form.and_form e f) s =
      let s0 = met s (form.and_form e f) in
      let s1 = walked extent.Program s0 e in
      let i0 = many_is e s0 in
      let i1 = many_is f s1 in
      omega (arith, begun_met s (form.and_form e f), i0, i1)
  many_is (form.or_form e f) s =
      let s0 = met s (form.or_form e f) in
      let s1 = walked extent.Program s0 e in
      let i0 = many_is e s0 in
      let i1 = many_is f s1 in
      omega (arith, begun_met s (form.or_form e f), i0, i1)
  many_is (form.while_form x e f) s =
      let s0 = met s (form.while_form x e f) in
      let s1 = walked extent.Program s0 e in
      let i0 = many_is e s0 in
      let i1 = many_is f s1 in
      omega (arith, begun_met s (form.while_form x e f), i0, i1)
  many_is (form.call r x is o) s =
      let s0 = met s (form.call r x is o) in
      let s1 = walked_receiver extent.Program s0 r in
      let s2 = walked_items extent.Program s1 is in
      let i0 = many_receiver_is r s0 in
      let i1 = many_items_is is s1 in
      let i2 = many_maybe_is o s2 in
      omega (arith, begun_met s (form.call r x is o), i0, i1, i2)
  many_is (form.yield_form is) s =
      let s0 = met s (form.yield_form is) in
      let i0 = many_items_is is s0 in
      omega (arith, begun_met s (form.yield_form is), i0)
  many_is (form.super_form is o) s =
      let s0 = met s (form.super_form is o) in
      let s1 = walked_items extent.Program s0 is in
      let i0 = many_items_is is s0 in
      let i1 = many_maybe_is o s1 in
      omega (arith, begun_met s (form.super_form is o), i0, i1)
  many_is (form.function b) s =
      let s0 = met s (form.function b) in
      let i0 = many_body_is b s0 in
      omega (arith, begun_met s (form.function b), i0)
  many_is (form.lambda b) s =
      let s0 = met s (form.lambda b) in
      let i0 = many_body_is b s0 in
      omega (arith, begun_met s (form.lambda b), i0)
  many_is (form.begin_form e cs o p) s =
      let s0 = met s (form.begin_form e cs o p) in
      let s1 = walked extent.Program s0 e in
      let s2 = walked_clauses extent.Program s1 cs in
      let s3 = walked_maybe extent.Program s2 o in
      let i0 = many_is e s0 in
      let i1 = many_clauses_is cs s1 in
      let i2 = many_maybe_is o s2 in
      let i3 = many_maybe_is p s3 in
      omega (arith, begun_met s (form.begin_form e cs o p), i0, i1, i2, i3)
  many_is (form.return_form e) s =
      let s0 = met s (form.return_form e) in
      let i0 = many_is e s0 in
      omega (arith, begun_met s (form.return_form e), i0)
  many_is (form.break_form e) s =
      let s0 = met s (form.break_form e) in
      let i0 = many_is e s0 in
      omega (arith, begun_met s (form.break_form e), i0)
  many_is (form.next_form e) s =
      let s0 = met s (form.next_form e) in
      let i0 = many_is e s0 in
      omega (arith, begun_met s (form.next_form e), i0)
  many_is form.retry s = omega (arith, begun_met s form.retry)
  many_is (form.define x b) s =
      let s0 = met s (form.define x b) in
      let i0 = many_body_is b s0 in
      omega (arith, begun_met s (form.define x b), i0)
  many_is (form.define_on e x b) s =
      let s0 = met s (form.define_on e x b) in
      let s1 = walked extent.Program s0 e in
      let i0 = many_is e s0 in
      let i1 = many_body_is b s1 in
      omega (arith, begun_met s (form.define_on e x b), i0, i1)
  many_is (form.class_form o x p b) s =
      let s0 = met s (form.class_form o x p b) in
      let s1 = walked_maybe extent.Program s0 o in
      let s2 = walked_maybe extent.Program s1 p in
      let i0 = many_maybe_is o s0 in
      let i1 = many_maybe_is p s1 in
      let i2 = many_body_is b s2 in
      omega (arith, begun_met s (form.class_form o x p b), i0, i1, i2)
  many_is (form.module_form o x b) s =
      let s0 = met s (form.module_form o x b) in
      let s1 = walked_maybe extent.Program s0 o in
      let i0 = many_maybe_is o s0 in
      let i1 = many_body_is b s1 in
      omega (arith, begun_met s (form.module_form o x b), i0, i1)
  many_is (form.singleton_class e b) s =
      let s0 = met s (form.singleton_class e b) in
      let s1 = walked extent.Program s0 e in
      let i0 = many_is e s0 in
      let i1 = many_body_is b s1 in
      omega (arith, begun_met s (form.singleton_class e b), i0, i1)
  many_is (form.alias_form x y) s = omega (arith, begun_met s (form.alias_form x y))
  many_is (form.undef_form x) s = omega (arith, begun_met s (form.undef_form x))
  many_is (form.defined x y o) s =
      let s0 = met s (form.defined x y o) in
      let i0 = many_maybe_is o s0 in
      omega (arith, begun_met s (form.defined x y o), i0)
  many_is (form.item e x) s =
      let s0 = met s (form.item e x) in
      let i0 = many_is e s0 in
      omega (arith, begun_met s (form.item e x), i0)
  many_is (form.rest_of e x y) s =
      let s0 = met s (form.rest_of e x y) in
      let i0 = many_is e s0 in
      omega (arith, begun_met s (form.rest_of e x y), i0)
  many_is (form.tail_of e x y) s =
      let s0 = met s (form.tail_of e x y) in
      let i0 = many_is e s0 in
      omega (arith, begun_met s (form.tail_of e x y), i0)

  many_maybe_is : (x : Maybe) (s : List Step) → begun_in (walked_maybe extent.Program s x) ≡ begun_in s + many_maybe x
  many_maybe_is form.absent s = omega arith
  many_maybe_is (form.there e) s = many_is e s

  many_all_is : (x : Forms) (s : List Step) → begun_in (walked_all extent.Program s x) ≡ begun_in s + many_all x
  many_all_is form.none s = omega arith
  many_all_is (form.more e es) s =
      let s1 = walked extent.Program s e in
      let i0 = many_is e s in
      let i1 = many_all_is es s1 in
      omega (arith, i0, i1)

  many_items_is : (x : Items) (s : List Step) → begun_in (walked_items extent.Program s x) ≡ begun_in s + many_items x
  many_items_is form.no_items s = omega arith
  many_items_is (form.plain e is) s =
      let s1 = walked extent.Program s e in
      let i0 = many_is e s in
      let i1 = many_items_is is s1 in
      omega (arith, i0, i1)
  many_items_is (form.splat e is) s =
      let s1 = walked extent.Program s e in
      let i0 = many_is e s in
      let i1 = many_items_is is s1 in
      omega (arith, i0, i1)

  many_pairs_is : (x : Pairs) (s : List Step) → begun_in (walked_pairs extent.Program s x) ≡ begun_in s + many_pairs x
  many_pairs_is form.no_pairs s = omega arith
  many_pairs_is (form.pair e f ps) s =
      let s1 = walked extent.Program s e in
      let s2 = walked extent.Program s1 f in
      let i0 = many_is e s in
      let i1 = many_is f s1 in
      let i2 = many_pairs_is ps s2 in
      omega (arith, i0, i1, i2)

  many_branches_is : (x : Branches) (s : List Step) → begun_in (walked_branches extent.Program s x) ≡ begun_in
      s + many_branches x
  many_branches_is form.no_branches s = omega arith
  many_branches_is (form.branch e f bs) s =
      let s1 = walked extent.Program s e in
      let s2 = walked extent.Program s1 f in
      let i0 = many_is e s in
      let i1 = many_is f s1 in
      let i2 = many_branches_is bs s2 in
      omega (arith, i0, i1, i2)

  many_clauses_is : (x : Clauses) (s : List Step) → begun_in (walked_clauses extent.Program s x) ≡ begun_in
      s + many_clauses x
  many_clauses_is form.no_clauses s = omega arith
  many_clauses_is (form.clause es o e cs) s =
      let s1 = walked_all extent.Program s es in
      let s2 = walked_maybe extent.Program s1 o in
      let s3 = walked extent.Program s2 e in
      let i0 = many_all_is es s in
      let i1 = many_maybe_is o s1 in
      let i2 = many_is e s2 in
      let i3 = many_clauses_is cs s3 in
      omega (arith, i0, i1, i2, i3)

  many_receiver_is : (x : Receiver) (s : List Step) → begun_in (walked_receiver extent.Program s x) ≡ begun_in
      s + many_receiver x
  many_receiver_is (form.to e) s = many_is e s
  many_receiver_is form.on_self s = omega arith
  many_receiver_is form.bare s = omega arith

  many_body_is : (b : Body) (s : List Step) → begun_in (walked_body extent.Program s b) ≡ begun_in s + many_body b
  many_body_is (form.body p ls f) s =
      let inside = entering s (form.body p ls f) in
      let i = many_is f inside in
      let first = begun_with s (enter (form.body p ls f) ∷ []) in
      let last = begun_with (walked extent.Program inside f) (leave ∷ []) in
      omega (arith, i, first, last)
