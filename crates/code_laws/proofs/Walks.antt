-- What comes before a walk over a form stands at the front of all steps, where those of the walk do.
use Rattle.std.proofs.Common.{◌≡◌, List, [], ◌∷◌, ◌++◌, Bool, true, false, if◌then◌else◌, ◌∙◌, append_assoc}
use Rattle.ir_core.specs.CoreForm as form
use Rattle.ir_core.specs.CoreForm.{CoreForm, Body, Maybe, Forms, Items, Pairs, Branches, Clauses, Receiver}
use Rattle.ir_walk.specs.declared.extent.Extent.{Extent}
use Rattle.ir_walk.specs.Walk.{Step, at, enter, leave, enters_bodies, met, entering, leaving, walked, walked_all, walked_maybe, walked_items, walked_pairs, walked_branches, walked_clauses, walked_receiver, walked_body}

-- all steps begin with these
pub record Front (all steps : List Step) : Type 0 where
  pub others : List Step
  pub are : all ≡ steps ++ others

pub shorter : (all steps : List Step) (x : Step) → Front all (steps ++ x ∷ []) → Front all steps
shorter all steps x h = record { others = x ∷ h.others; are = h.are ∙ append_assoc steps (x ∷ []) h.others }

module _ (all : List Step) (w : Extent) where
  within : (b : Body) (f : CoreForm) (s : List Step) (enters : Bool)
      → (Front all (walked w (entering s b) f) → Front all (entering s b))
      → Front all (if enters then leaving (walked w (entering s b) f) else s) → Front all s
  within b f s true inner h =
      shorter all s (enter b) (inner (shorter all (walked w (entering s b) f) leave h))
  within b f s false inner h = h

  mutual
    pub before : (f : CoreForm) (s : List Step) → Front all (walked w s f) → Front all s
    before form.nil s h = shorter all s (at form.nil) h
    before form.truth s h = shorter all s (at form.truth) h
    before form.falsehood s h = shorter all s (at form.falsehood) h
    before form.self_ref s h = shorter all s (at form.self_ref) h
    before (form.int x) s h = shorter all s (at (form.int x)) h
    before (form.str x) s h = shorter all s (at (form.str x)) h
    before (form.sym x) s h = shorter all s (at (form.sym x)) h
    before (form.local x) s h = shorter all s (at (form.local x)) h
    before (form.own x) s h = shorter all s (at (form.own x)) h
    before form.exception s h = shorter all s (at form.exception) h
    before (form.set_local x e) s h =
        let h0 = before e (met s (form.set_local x e)) h in
        shorter all s (at (form.set_local x e)) h0
    before (form.ivar x) s h = shorter all s (at (form.ivar x)) h
    before (form.set_ivar x e) s h =
        let h0 = before e (met s (form.set_ivar x e)) h in
        shorter all s (at (form.set_ivar x e)) h0
    before (form.gvar x) s h = shorter all s (at (form.gvar x)) h
    before (form.set_gvar x e) s h =
        let h0 = before e (met s (form.set_gvar x e)) h in
        shorter all s (at (form.set_gvar x e)) h0
    before (form.constant x) s h = shorter all s (at (form.constant x)) h
    before (form.top_constant x) s h = shorter all s (at (form.top_constant x)) h
    before (form.in_constant e x) s h =
        let h0 = before e (met s (form.in_constant e x)) h in
        shorter all s (at (form.in_constant e x)) h0
    before (form.set_constant x e) s h =
        let h0 = before e (met s (form.set_constant x e)) h in
        shorter all s (at (form.set_constant x e)) h0
    before (form.set_in_constant e x f) s h =
        let s1 = walked w (met s (form.set_in_constant e x f)) e in
        let h1 = before f s1 h in
        let h0 = before e (met s (form.set_in_constant e x f)) h1 in
        shorter all s (at (form.set_in_constant e x f)) h0
    before (form.array is) s h =
        let h0 = before_items is (met s (form.array is)) h in
        shorter all s (at (form.array is)) h0
    before (form.hash ps) s h =
        let h0 = before_pairs ps (met s (form.hash ps)) h in
        shorter all s (at (form.hash ps)) h0
    before (form.range e f x) s h =
        let s1 = walked w (met s (form.range e f x)) e in
        let h1 = before f s1 h in
        let h0 = before e (met s (form.range e f x)) h1 in
        shorter all s (at (form.range e f x)) h0
    before (form.text es) s h =
        let h0 = before_all es (met s (form.text es)) h in
        shorter all s (at (form.text es)) h0
    before (form.intern e) s h =
        let h0 = before e (met s (form.intern e)) h in
        shorter all s (at (form.intern e)) h0
    before (form.seq es) s h =
        let h0 = before_all es (met s (form.seq es)) h in
        shorter all s (at (form.seq es)) h0
    before (form.cond bs e) s h =
        let s1 = walked_branches w (met s (form.cond bs e)) bs in
        let h1 = before e s1 h in
        let h0 = before_branches bs (met s (form.cond bs e)) h1 in
        shorter all s (at (form.cond bs e)) h0
    before (form.and_form e f) s h =
        let s1 = walked w (met s (form.and_form e f)) e in
        let h1 = before f s1 h in
        let h0 = before e (met s (form.and_form e f)) h1 in
        shorter all s (at (form.and_form e f)) h0
    before (form.or_form e f) s h =
        let s1 = walked w (met s (form.or_form e f)) e in
        let h1 = before f s1 h in
        let h0 = before e (met s (form.or_form e f)) h1 in
        shorter all s (at (form.or_form e f)) h0
    before (form.while_form x e f) s h =
        let s1 = walked w (met s (form.while_form x e f)) e in
        let h1 = before f s1 h in
        let h0 = before e (met s (form.while_form x e f)) h1 in
        shorter all s (at (form.while_form x e f)) h0
    before (form.call r x is o) s h =
        let s1 = walked_receiver w (met s (form.call r x is o)) r in
        let s2 = walked_items w s1 is in
        let h2 = before_maybe o s2 h in
        let h1 = before_items is s1 h2 in
        let h0 = before_receiver r (met s (form.call r x is o)) h1 in
        shorter all s (at (form.call r x is o)) h0
    before (form.yield_form is) s h =
        let h0 = before_items is (met s (form.yield_form is)) h in
        shorter all s (at (form.yield_form is)) h0
    before (form.super_form is o) s h =
        let s1 = walked_items w (met s (form.super_form is o)) is in
        let h1 = before_maybe o s1 h in
        let h0 = before_items is (met s (form.super_form is o)) h1 in
        shorter all s (at (form.super_form is o)) h0
    before (form.function b) s h =
        let h0 = before_body b (met s (form.function b)) h in
        shorter all s (at (form.function b)) h0
    before (form.lambda b) s h =
        let h0 = before_body b (met s (form.lambda b)) h in
        shorter all s (at (form.lambda b)) h0
    before (form.begin_form e cs o p) s h =
        let s1 = walked w (met s (form.begin_form e cs o p)) e in
        let s2 = walked_clauses w s1 cs in
        let s3 = walked_maybe w s2 o in
        let h3 = before_maybe p s3 h in
        let h2 = before_maybe o s2 h3 in
        let h1 = before_clauses cs s1 h2 in
        let h0 = before e (met s (form.begin_form e cs o p)) h1 in
        shorter all s (at (form.begin_form e cs o p)) h0
    before (form.return_form e) s h =
        let h0 = before e (met s (form.return_form e)) h in
        shorter all s (at (form.return_form e)) h0
    before (form.break_form e) s h =
        let h0 = before e (met s (form.break_form e)) h in
        shorter all s (at (form.break_form e)) h0
    before (form.next_form e) s h =
        let h0 = before e (met s (form.next_form e)) h in
        shorter all s (at (form.next_form e)) h0
    before form.retry s h = shorter all s (at form.retry) h
    before (form.define x b) s h =
        let h0 = before_body b (met s (form.define x b)) h in
        shorter all s (at (form.define x b)) h0
    before (form.define_on e x b) s h =
        let s1 = walked w (met s (form.define_on e x b)) e in
        let h1 = before_body b s1 h in
        let h0 = before e (met s (form.define_on e x b)) h1 in
        shorter all s (at (form.define_on e x b)) h0
    before (form.class_form o x p b) s h =
        let s1 = walked_maybe w (met s (form.class_form o x p b)) o in
        let s2 = walked_maybe w s1 p in
        let h2 = before_body b s2 h in
        let h1 = before_maybe p s1 h2 in
        let h0 = before_maybe o (met s (form.class_form o x p b)) h1 in
        shorter all s (at (form.class_form o x p b)) h0
    before (form.module_form o x b) s h =
        let s1 = walked_maybe w (met s (form.module_form o x b)) o in
        let h1 = before_body b s1 h in
        let h0 = before_maybe o (met s (form.module_form o x b)) h1 in
        shorter all s (at (form.module_form o x b)) h0
    before (form.singleton_class e b) s h =
        let s1 = walked w (met s (form.singleton_class e b)) e in
        let h1 = before_body b s1 h in
        let h0 = before e (met s (form.singleton_class e b)) h1 in
        shorter all s (at (form.singleton_class e b)) h0
    before (form.alias_form x y) s h = shorter all s (at (form.alias_form x y)) h
    before (form.undef_form x) s h = shorter all s (at (form.undef_form x)) h
    before (form.defined x y o) s h =
        let h0 = before_maybe o (met s (form.defined x y o)) h in
        shorter all s (at (form.defined x y o)) h0
    before (form.item e x) s h =
        let h0 = before e (met s (form.item e x)) h in
        shorter all s (at (form.item e x)) h0
    before (form.rest_of e x y) s h =
        let h0 = before e (met s (form.rest_of e x y)) h in
        shorter all s (at (form.rest_of e x y)) h0
    before (form.tail_of e x y) s h =
        let h0 = before e (met s (form.tail_of e x y)) h in
        shorter all s (at (form.tail_of e x y)) h0

    pub before_maybe : (x : Maybe) (s : List Step) → Front all (walked_maybe w s x) → Front all s
    before_maybe form.absent s h = h
    before_maybe (form.there e) s h =
        before e s h

    pub before_all : (x : Forms) (s : List Step) → Front all (walked_all w s x) → Front all s
    before_all form.none s h = h
    before_all (form.more e es) s h =
        let s1 = walked w s e in
        let h1 = before_all es s1 h in
        before e s h1

    pub before_items : (x : Items) (s : List Step) → Front all (walked_items w s x) → Front all s
    before_items form.no_items s h = h
    before_items (form.plain e is) s h =
        let s1 = walked w s e in
        let h1 = before_items is s1 h in
        before e s h1
    before_items (form.splat e is) s h =
        let s1 = walked w s e in
        let h1 = before_items is s1 h in
        before e s h1

    pub before_pairs : (x : Pairs) (s : List Step) → Front all (walked_pairs w s x) → Front all s
    before_pairs form.no_pairs s h = h
    before_pairs (form.pair e f ps) s h =
        let s1 = walked w s e in
        let s2 = walked w s1 f in
        let h2 = before_pairs ps s2 h in
        let h1 = before f s1 h2 in
        before e s h1

    pub before_branches : (x : Branches) (s : List Step) → Front all (walked_branches w s x) → Front all s
    before_branches form.no_branches s h = h
    before_branches (form.branch e f bs) s h =
        let s1 = walked w s e in
        let s2 = walked w s1 f in
        let h2 = before_branches bs s2 h in
        let h1 = before f s1 h2 in
        before e s h1

    pub before_clauses : (x : Clauses) (s : List Step) → Front all (walked_clauses w s x) → Front all s
    before_clauses form.no_clauses s h = h
    before_clauses (form.clause es o e cs) s h =
        let s1 = walked_all w s es in
        let s2 = walked_maybe w s1 o in
        let s3 = walked w s2 e in
        let h3 = before_clauses cs s3 h in
        let h2 = before e s2 h3 in
        let h1 = before_maybe o s1 h2 in
        before_all es s h1

    pub before_receiver : (x : Receiver) (s : List Step) → Front all (walked_receiver w s x) → Front all s
    before_receiver (form.to e) s h =
        before e s h
    before_receiver form.on_self s h = h
    before_receiver form.bare s h = h

    pub before_body : (b : Body) (s : List Step) → Front all (walked_body w s b) → Front all s
    before_body (form.body p ls f) s h =
        within (form.body p ls f) f s (enters_bodies w) (before f (entering s (form.body p ls f))) h
