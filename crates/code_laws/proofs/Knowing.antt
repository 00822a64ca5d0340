-- Each local that a form of a program reads or writes is bound by a body that the form sees.
use Rattle.std.proofs.Common.{◌≡◌, List, [], true, ◌&&◌}
use Rattle.std.specs.Prelude.{is_some}
use Rattle.std.specs.List.{All}
use Rattle.std.proofs.lemmas.Bool.{and_parts}
use Rattle.std.proofs.lemmas.List.Elements.{All-nil, All-push}
use Rattle.ir_core.specs.CoreForm as form
use Rattle.ir_core.specs.CoreForm.{Local, named, hidden, pattern, rest, CoreForm, Maybe, Forms, Items, Pairs, Branches, Clauses, Receiver}
use Rattle.ir_core.specs.Program.{Around, is_bound, is_known, within_loop, within_clause, within_target, is_form, may_be, are_forms, are_items, are_pairs, are_branches, are_clauses, is_receiver, is_method, is_class}
use Rattle.ir_walk.specs.Walk.{Step, at, met, walked, walked_all, walked_maybe, walked_items, walked_pairs, walked_branches, walked_clauses, walked_receiver}
use Rattle.ir_walk.specs.declared.extent.Extent.TheVariants as extent
use Rattle.scope_resolver.specs.Layout.{Scopes}
use Rattle.code_laws.specs.Bound.{IsSeen, AreHeld, AreOwned, Knows, IsHeld, IsHeldAt}

bound_known : (x : Local) (ls : List Local) → IsSeen x → is_known x ls ≡ true → is_bound x ls ≡ true
bound_known (named x) ls seen h = h
bound_known (hidden d) ls seen h = absurd seen
bound_known (pattern k) ls seen h = h
bound_known rest ls seen h = h

module _ (scopes : Scopes) where
  abbrev AllHeld : List Step → Type 0
  AllHeld s = All (IsHeldAt scopes) s

  more : (s : List Step) (f : CoreForm) → IsHeld scopes f → AllHeld s → AllHeld (met s f)
  more s f h q = All-push (IsHeldAt scopes) s (at f) q h

  mutual
    known : (f : CoreForm) (a : Around) (s : List Step) → AreHeld scopes a.known → AreOwned scopes a.method
        → is_form a f ≡ true → AllHeld s → AllHeld (walked extent.Body s f)
    known form.nil a s h w f q = more s form.nil tt q
    known form.truth a s h w f q = more s form.truth tt q
    known form.falsehood a s h w f q = more s form.falsehood tt q
    known form.self_ref a s h w f q = more s form.self_ref tt q
    known (form.int x) a s h w f q = more s (form.int x) tt q
    known (form.str x) a s h w f q = more s (form.str x) tt q
    known (form.sym x) a s h w f q = more s (form.sym x) tt q
    known (form.local x) a s h w f q = more s (form.local x) (λ seen. h x seen (bound_known x a.known seen f)) q
    known (form.own x) a s h w f q = more s (form.own x) (w x f) q
    known form.exception a s h w f q = more s form.exception tt q
    known (form.set_local x e) a s h w f q =
        let g0 = and_parts (is_known x a.known) (is_form a e) f in
        let s0 = met s (form.set_local x e) in
        known e a s0 h w g0.1 (more s (form.set_local x e) (λ seen. h x seen (bound_known x a.known seen g0.0)) q)
    known (form.ivar x) a s h w f q = more s (form.ivar x) tt q
    known (form.set_ivar x e) a s h w f q =
        let s0 = met s (form.set_ivar x e) in
        known e a s0 h w f (more s (form.set_ivar x e) tt q)
    known (form.gvar x) a s h w f q = more s (form.gvar x) tt q
    known (form.set_gvar x e) a s h w f q =
        let s0 = met s (form.set_gvar x e) in
        known e a s0 h w f (more s (form.set_gvar x e) tt q)
    known (form.constant x) a s h w f q = more s (form.constant x) tt q
    known (form.top_constant x) a s h w f q = more s (form.top_constant x) tt q
    known (form.in_constant e x) a s h w f q =
        let s0 = met s (form.in_constant e x) in
        known e a s0 h w f (more s (form.in_constant e x) tt q)
    known (form.set_constant x e) a s h w f q =
        let s0 = met s (form.set_constant x e) in
        known e a s0 h w f (more s (form.set_constant x e) tt q)
    known (form.set_in_constant e x v) a s h w f q =
        let g0 = and_parts (is_form a e) (is_form a v) f in
        let s0 = met s (form.set_in_constant e x v) in
        let s1 = walked extent.Body s0 e in
        known v a s1 h w g0.1 (known e a s0 h w g0.0 (more s (form.set_in_constant e x v) tt q))
    known (form.array is) a s h w f q =
        let s0 = met s (form.array is) in
        items_known is a s0 h w f (more s (form.array is) tt q)
    known (form.hash ps) a s h w f q =
        let s0 = met s (form.hash ps) in
        pairs_known ps a s0 h w f (more s (form.hash ps) tt q)
    known (form.range e v x) a s h w f q =
        let g0 = and_parts (is_form a e) (is_form a v) f in
        let s0 = met s (form.range e v x) in
        let s1 = walked extent.Body s0 e in
        known v a s1 h w g0.1 (known e a s0 h w g0.0 (more s (form.range e v x) tt q))
    known (form.text es) a s h w f q =
        let s0 = met s (form.text es) in
        all_known es a s0 h w f (more s (form.text es) tt q)
    known (form.intern e) a s h w f q =
        let s0 = met s (form.intern e) in
        known e a s0 h w f (more s (form.intern e) tt q)
    known (form.seq es) a s h w f q =
        let s0 = met s (form.seq es) in
        all_known es a s0 h w f (more s (form.seq es) tt q)
    known (form.cond bs e) a s h w f q =
        let g0 = and_parts (are_branches a bs) (is_form a e) f in
        let s0 = met s (form.cond bs e) in
        let s1 = walked_branches extent.Body s0 bs in
        known e a s1 h w g0.1 (branches_known bs a s0 h w g0.0 (more s (form.cond bs e) tt q))
    known (form.and_form e v) a s h w f q =
        let g0 = and_parts (is_form a e) (is_form a v) f in
        let s0 = met s (form.and_form e v) in
        let s1 = walked extent.Body s0 e in
        known v a s1 h w g0.1 (known e a s0 h w g0.0 (more s (form.and_form e v) tt q))
    known (form.or_form e v) a s h w f q =
        let g0 = and_parts (is_form a e) (is_form a v) f in
        let s0 = met s (form.or_form e v) in
        let s1 = walked extent.Body s0 e in
        known v a s1 h w g0.1 (known e a s0 h w g0.0 (more s (form.or_form e v) tt q))
    known (form.while_form x e v) a s h w f q =
        let g0 = and_parts (is_form (within_loop a) e) (is_form (within_loop a) v) f in
        let s0 = met s (form.while_form x e v) in
        let s1 = walked extent.Body s0 e in
        known v (within_loop a) s1 h w g0.1 (known e (within_loop a) s0 h w g0.0 (more s (form.while_form x e v) tt q))
    known (form.call r x is o) a s h w f q =
        let g0 = and_parts (is_receiver a r) (are_items a is && may_be a o) f in
        let g1 = and_parts (are_items a is) (may_be a o) g0.1 in
        let s0 = met s (form.call r x is o) in
        let s1 = walked_receiver extent.Body s0 r in
        let s2 = walked_items extent.Body s1 is in
        maybe_known o a s2 h w g1.1 (items_known is a s1 h w g1.0 (receiver_known r a s0 h w g0.0 (more s (form.call r x is o) tt q)))
    known (form.yield_form is) a s h w f q =
        let g0 = and_parts (is_some a.method) (are_items a is) f in
        let s0 = met s (form.yield_form is) in
        items_known is a s0 h w g0.1 (more s (form.yield_form is) tt q)
    known (form.super_form is o) a s h w f q =
        let g0 = and_parts (is_some a.method) (are_items a is && may_be a o) f in
        let g1 = and_parts (are_items a is) (may_be a o) g0.1 in
        let s0 = met s (form.super_form is o) in
        let s1 = walked_items extent.Body s0 is in
        maybe_known o a s1 h w g1.1 (items_known is a s0 h w g1.0 (more s (form.super_form is o) tt q))
    known (form.function (form.body p ls g)) a s h w f q = more s (form.function (form.body p ls g)) tt q
    known (form.lambda (form.body p ls g)) a s h w f q = more s (form.lambda (form.body p ls g)) tt q
    known (form.begin_form e cs o n) a s h w f q =
        let g0 = and_parts (is_form a e) (are_clauses a cs && (may_be a o && may_be a n)) f in
        let g1 = and_parts (are_clauses a cs) (may_be a o && may_be a n) g0.1 in
        let g2 = and_parts (may_be a o) (may_be a n) g1.1 in
        let s0 = met s (form.begin_form e cs o n) in
        let s1 = walked extent.Body s0 e in
        let s2 = walked_clauses extent.Body s1 cs in
        let s3 = walked_maybe extent.Body s2 o in
        maybe_known n a s3 h w g2.1 (maybe_known o a s2 h w g2.0 (clauses_known cs a s1 h w g1.0 (known e a s0 h w g0.0 (more s (form.begin_form e cs o n) tt q))))
    known (form.return_form e) a s h w f q =
        let g0 = and_parts a.returns (is_form a e) f in
        let s0 = met s (form.return_form e) in
        known e a s0 h w g0.1 (more s (form.return_form e) tt q)
    known (form.break_form e) a s h w f q =
        let g0 = and_parts a.loops (is_form a e) f in
        let s0 = met s (form.break_form e) in
        known e a s0 h w g0.1 (more s (form.break_form e) tt q)
    known (form.next_form e) a s h w f q =
        let g0 = and_parts a.loops (is_form a e) f in
        let s0 = met s (form.next_form e) in
        known e a s0 h w g0.1 (more s (form.next_form e) tt q)
    known form.retry a s h w f q = more s form.retry tt q
    known (form.define x (form.body p ls g)) a s h w f q = more s (form.define x (form.body p ls g)) tt q
    known (form.define_on e x (form.body p ls g)) a s h w f q =
        let g0 = and_parts (is_form a e) (is_method (form.body p ls g)) f in
        let s0 = met s (form.define_on e x (form.body p ls g)) in
        known e a s0 h w g0.0 (more s (form.define_on e x (form.body p ls g)) tt q)
    known (form.class_form o x n (form.body p ls g)) a s h w f q =
        let g0 = and_parts (may_be a o) (may_be a n && is_class (form.body p ls g)) f in
        let g1 = and_parts (may_be a n) (is_class (form.body p ls g)) g0.1 in
        let s0 = met s (form.class_form o x n (form.body p ls g)) in
        let s1 = walked_maybe extent.Body s0 o in
        maybe_known n a s1 h w g1.0 (maybe_known o a s0 h w g0.0 (more s (form.class_form o x n (form.body p ls g)) tt q))
    known (form.module_form o x (form.body p ls g)) a s h w f q =
        let g0 = and_parts (may_be a o) (is_class (form.body p ls g)) f in
        let s0 = met s (form.module_form o x (form.body p ls g)) in
        maybe_known o a s0 h w g0.0 (more s (form.module_form o x (form.body p ls g)) tt q)
    known (form.singleton_class e (form.body p ls g)) a s h w f q =
        let g0 = and_parts (is_form a e) (is_class (form.body p ls g)) f in
        let s0 = met s (form.singleton_class e (form.body p ls g)) in
        known e a s0 h w g0.0 (more s (form.singleton_class e (form.body p ls g)) tt q)
    known (form.alias_form x y) a s h w f q = more s (form.alias_form x y) tt q
    known (form.undef_form x) a s h w f q = more s (form.undef_form x) tt q
    known (form.defined x y o) a s h w f q =
        let s0 = met s (form.defined x y o) in
        maybe_known o a s0 h w f (more s (form.defined x y o) tt q)
    known (form.item e x) a s h w f q =
        let s0 = met s (form.item e x) in
        known e a s0 h w f (more s (form.item e x) tt q)
    known (form.rest_of e x y) a s h w f q =
        let s0 = met s (form.rest_of e x y) in
        known e a s0 h w f (more s (form.rest_of e x y) tt q)
    known (form.tail_of e x y) a s h w f q =
        let s0 = met s (form.tail_of e x y) in
        known e a s0 h w f (more s (form.tail_of e x y) tt q)

    maybe_known : (x : Maybe) (a : Around) (s : List Step) → AreHeld scopes a.known → AreOwned scopes a.method
        → may_be a x ≡ true → AllHeld s → AllHeld (walked_maybe extent.Body s x)
    maybe_known form.absent a s h w f q = q
    maybe_known (form.there e) a s h w f q = known e a s h w f q

    all_known : (x : Forms) (a : Around) (s : List Step) → AreHeld scopes a.known → AreOwned scopes a.method
        → are_forms a x ≡ true → AllHeld s → AllHeld (walked_all extent.Body s x)
    all_known form.none a s h w f q = q
    all_known (form.more e es) a s h w f q =
        let g = and_parts (is_form a e) (are_forms a es) f in
        all_known es a (walked extent.Body s e) h w g.1 (known e a s h w g.0 q)

    items_known : (x : Items) (a : Around) (s : List Step) → AreHeld scopes a.known → AreOwned scopes a.method
        → are_items a x ≡ true → AllHeld s → AllHeld (walked_items extent.Body s x)
    items_known form.no_items a s h w f q = q
    items_known (form.plain e is) a s h w f q =
        let g = and_parts (is_form a e) (are_items a is) f in
        items_known is a (walked extent.Body s e) h w g.1 (known e a s h w g.0 q)
    items_known (form.splat e is) a s h w f q =
        let g = and_parts (is_form a e) (are_items a is) f in
        items_known is a (walked extent.Body s e) h w g.1 (known e a s h w g.0 q)

    pairs_known : (x : Pairs) (a : Around) (s : List Step) → AreHeld scopes a.known → AreOwned scopes a.method
        → are_pairs a x ≡ true → AllHeld s → AllHeld (walked_pairs extent.Body s x)
    pairs_known form.no_pairs a s h w f q = q
    pairs_known (form.pair e v ps) a s h w f q =
        let g0 = and_parts (is_form a e) (is_form a v && are_pairs a ps) f in
        let g1 = and_parts (is_form a v) (are_pairs a ps) g0.1 in
        let s1 = walked extent.Body s e in
        pairs_known ps a (walked extent.Body s1 v) h w g1.1 (known v a s1 h w g1.0 (known e a s h w g0.0 q))

    branches_known : (x : Branches) (a : Around) (s : List Step) → AreHeld scopes a.known → AreOwned scopes a.method
        → are_branches a x ≡ true → AllHeld s → AllHeld (walked_branches extent.Body s x)
    branches_known form.no_branches a s h w f q = q
    branches_known (form.branch t e bs) a s h w f q =
        let g0 = and_parts (is_form a t) (is_form a e && are_branches a bs) f in
        let g1 = and_parts (is_form a e) (are_branches a bs) g0.1 in
        let s1 = walked extent.Body s t in
        branches_known bs a (walked extent.Body s1 e) h w g1.1 (known e a s1 h w g1.0 (known t a s h w g0.0 q))

    clauses_known : (x : Clauses) (a : Around) (s : List Step) → AreHeld scopes a.known → AreOwned scopes a.method
        → are_clauses a x ≡ true → AllHeld s → AllHeld (walked_clauses extent.Body s x)
    clauses_known form.no_clauses a s h w f q = q
    clauses_known (form.clause es t e cs) a s h w f q =
        let g0 = and_parts (are_forms (within_clause a) es) (may_be (within_target a) t
        && (is_form (within_clause a) e && are_clauses a cs)) f in
        let g1 = and_parts (may_be (within_target a) t) (is_form (within_clause a) e && are_clauses a cs) g0.1 in
        let g2 = and_parts (is_form (within_clause a) e) (are_clauses a cs) g1.1 in
        let s1 = walked_all extent.Body s es in
        let s2 = walked_maybe extent.Body s1 t in
        clauses_known cs a (walked extent.Body s2 e) h w g2.1 (known e (within_clause a) s2 h w g2.0
        (maybe_known t (within_target a) s1 h w g1.0 (all_known es (within_clause a) s h w g0.0 q)))

    receiver_known : (x : Receiver) (a : Around) (s : List Step) → AreHeld scopes a.known → AreOwned scopes a.method
        → is_receiver a x ≡ true → AllHeld s → AllHeld (walked_receiver extent.Body s x)
    receiver_known (form.to e) a s h w f q = known e a s h w f q
    receiver_known form.on_self a s h w f q = q
    receiver_known form.bare a s h w f q = q

pub form_known : (scopes : Scopes) (a : Around) (f : CoreForm) → is_form a f ≡ true → Knows scopes a
    → All (IsHeldAt scopes) (walked extent.Body [] f)
form_known scopes a f h k = known scopes f a [] k.0 k.1 h (All-nil (IsHeldAt scopes))
