-- What is counted of a program is what each body in it has, and each form of a body adds to its tally.
use Rattle.std.proofs.Common.{List, [], sym}
use Rattle.std.proofs.lemmas.List.{append-nil}
use Rattle.ir_core.specs.CoreForm as form
use Rattle.ir_core.specs.CoreForm.{CoreForm, Body, Maybe, Forms, Items, Pairs, Branches, Clauses, Receiver}
use Rattle.ir_walk.specs.declared.extent.Extent.TheVariants as extent
use Rattle.ir_walk.specs.Walk.{Step, leave, met, entering, walked, walked_all, walked_maybe, walked_items, walked_pairs, walked_branches, walked_clauses, walked_receiver, walked_body}
use Rattle.ir_counts.specs.Counts.{counts}
use Rattle.ir_counts.specs.Tally.{tallied, no_form}
use Rattle.code_laws.proofs.Shares.{Limited, Noted, Noted_maybe, Noted_all, Noted_items, Noted_pairs, Noted_branches, Noted_clauses, Noted_receiver, Fits}
use Rattle.code_laws.proofs.Tallies.{adds_met}
use Rattle.code_laws.proofs.Walks.{Front, shorter, before, before_all, before_maybe, before_items, before_pairs, before_branches, before_clauses, before_receiver, before_body}

pub whole : (all : List Step) → Front all all
whole all = record { others = []; are = sym (append-nil all) }

-- all steps of a program, of which each body that they begin is within the limits
module _ (all : List Step) (each : (b : Body) (s : List Step) → Front all (entering s b) → Limited (counts b)) where
  mutual
    pub noted_of : (f : CoreForm) (own s u : List Step) → Front own (walked extent.Body s f)
        → Front all (walked extent.Program u f) → Noted (tallied no_form own) f
    noted_of form.nil own s u h k = adds_met own s form.nil h
    noted_of form.truth own s u h k = adds_met own s form.truth h
    noted_of form.falsehood own s u h k = adds_met own s form.falsehood h
    noted_of form.self_ref own s u h k = adds_met own s form.self_ref h
    noted_of (form.int x) own s u h k = adds_met own s (form.int x) h
    noted_of (form.str x) own s u h k = adds_met own s (form.str x) h
    noted_of (form.sym x) own s u h k = adds_met own s (form.sym x) h
    noted_of (form.local x) own s u h k = adds_met own s (form.local x) h
    noted_of (form.own x) own s u h k = adds_met own s (form.own x) h
    noted_of form.exception own s u h k = adds_met own s form.exception h
    noted_of (form.set_local x e) own s u h k =
        let s0 = met s (form.set_local x e) in
        let u0 = met u (form.set_local x e) in
        let h0 = before own extent.Body e s0 h in
        (adds_met own s (form.set_local x e) h0, noted_of e own s0 u0 h k)
    noted_of (form.ivar x) own s u h k = adds_met own s (form.ivar x) h
    noted_of (form.set_ivar x e) own s u h k =
        let s0 = met s (form.set_ivar x e) in
        let u0 = met u (form.set_ivar x e) in
        let h0 = before own extent.Body e s0 h in
        (adds_met own s (form.set_ivar x e) h0, noted_of e own s0 u0 h k)
    noted_of (form.gvar x) own s u h k = adds_met own s (form.gvar x) h
    noted_of (form.set_gvar x e) own s u h k =
        let s0 = met s (form.set_gvar x e) in
        let u0 = met u (form.set_gvar x e) in
        let h0 = before own extent.Body e s0 h in
        (adds_met own s (form.set_gvar x e) h0, noted_of e own s0 u0 h k)
    noted_of (form.constant x) own s u h k = adds_met own s (form.constant x) h
    noted_of (form.top_constant x) own s u h k = adds_met own s (form.top_constant x) h
    noted_of (form.in_constant e x) own s u h k =
        let s0 = met s (form.in_constant e x) in
        let u0 = met u (form.in_constant e x) in
        let h0 = before own extent.Body e s0 h in
        (adds_met own s (form.in_constant e x) h0, noted_of e own s0 u0 h k)
    noted_of (form.set_constant x e) own s u h k =
        let s0 = met s (form.set_constant x e) in
        let u0 = met u (form.set_constant x e) in
        let h0 = before own extent.Body e s0 h in
        (adds_met own s (form.set_constant x e) h0, noted_of e own s0 u0 h k)
    noted_of (form.set_in_constant e x f) own s u h k =
        let s0 = met s (form.set_in_constant e x f) in
        let u0 = met u (form.set_in_constant e x f) in
        let s1 = walked extent.Body s0 e in
        let u1 = walked extent.Program u0 e in
        let h1 = before own extent.Body f s1 h in
        let k1 = before all extent.Program f u1 k in
        let h0 = before own extent.Body e s0 h1 in
        (adds_met own s (form.set_in_constant e x f) h0, noted_of e own s0 u0 h1 k1, noted_of f own s1 u1 h k)
    noted_of (form.array is) own s u h k =
        let s0 = met s (form.array is) in
        let u0 = met u (form.array is) in
        let h0 = before_items own extent.Body is s0 h in
        (adds_met own s (form.array is) h0, noted_items_of is own s0 u0 h k)
    noted_of (form.hash ps) own s u h k =
        let s0 = met s (form.hash ps) in
        let u0 = met u (form.hash ps) in
        let h0 = before_pairs own extent.Body ps s0 h in
        (adds_met own s (form.hash ps) h0, noted_pairs_of ps own s0 u0 h k)
    noted_of (form.range e f x) own s u h k =
        let s0 = met s (form.range e f x) in
        let u0 = met u (form.range e f x) in
        let s1 = walked extent.Body s0 e in
        let u1 = walked extent.Program u0 e in
        let h1 = before own extent.Body f s1 h in
        let k1 = before all extent.Program f u1 k in
        let h0 = before own extent.Body e s0 h1 in
        (adds_met own s (form.range e f x) h0, noted_of e own s0 u0 h1 k1, noted_of f own s1 u1 h k)
    noted_of (form.text es) own s u h k =
        let s0 = met s (form.text es) in
        let u0 = met u (form.text es) in
        let h0 = before_all own extent.Body es s0 h in
        (adds_met own s (form.text es) h0, noted_all_of es own s0 u0 h k)
    noted_of (form.intern e) own s u h k =
        let s0 = met s (form.intern e) in
        let u0 = met u (form.intern e) in
        let h0 = before own extent.Body e s0 h in
        (adds_met own s (form.intern e) h0, noted_of e own s0 u0 h k)
    noted_of (form.seq es) own s u h k =
        let s0 = met s (form.seq es) in
        let u0 = met u (form.seq es) in
        let h0 = before_all own extent.Body es s0 h in
        (adds_met own s (form.seq es) h0, noted_all_of es own s0 u0 h k)
    noted_of (form.cond bs e) own s u h k =
        let s0 = met s (form.cond bs e) in
        let u0 = met u (form.cond bs e) in
        let s1 = walked_branches extent.Body s0 bs in
        let u1 = walked_branches extent.Program u0 bs in
        let h1 = before own extent.Body e s1 h in
        let k1 = before all extent.Program e u1 k in
        let h0 = before_branches own extent.Body bs s0 h1 in
        (adds_met own s (form.cond bs e) h0, noted_branches_of bs own s0 u0 h1 k1, noted_of e own s1 u1 h k)
    noted_of (form.and_form e f) own s u h k =
        let s0 = met s (form.and_form e f) in
        let u0 = met u (form.and_form e f) in
        let s1 = walked extent.Body s0 e in
        let u1 = walked extent.Program u0 e in
        let h1 = before own extent.Body f s1 h in
        let k1 = before all extent.Program f u1 k in
        let h0 = before own extent.Body e s0 h1 in
        (adds_met own s (form.and_form e f) h0, noted_of e own s0 u0 h1 k1, noted_of f own s1 u1 h k)
    noted_of (form.or_form e f) own s u h k =
        let s0 = met s (form.or_form e f) in
        let u0 = met u (form.or_form e f) in
        let s1 = walked extent.Body s0 e in
        let u1 = walked extent.Program u0 e in
        let h1 = before own extent.Body f s1 h in
        let k1 = before all extent.Program f u1 k in
        let h0 = before own extent.Body e s0 h1 in
        (adds_met own s (form.or_form e f) h0, noted_of e own s0 u0 h1 k1, noted_of f own s1 u1 h k)
    noted_of (form.while_form x e f) own s u h k =
        let s0 = met s (form.while_form x e f) in
        let u0 = met u (form.while_form x e f) in
        let s1 = walked extent.Body s0 e in
        let u1 = walked extent.Program u0 e in
        let h1 = before own extent.Body f s1 h in
        let k1 = before all extent.Program f u1 k in
        let h0 = before own extent.Body e s0 h1 in
        (adds_met own s (form.while_form x e f) h0, noted_of e own s0 u0 h1 k1, noted_of f own s1 u1 h k)
    noted_of (form.call r x is o) own s u h k =
        let s0 = met s (form.call r x is o) in
        let u0 = met u (form.call r x is o) in
        let s1 = walked_receiver extent.Body s0 r in
        let u1 = walked_receiver extent.Program u0 r in
        let s2 = walked_items extent.Body s1 is in
        let u2 = walked_items extent.Program u1 is in
        let h2 = before_maybe own extent.Body o s2 h in
        let k2 = before_maybe all extent.Program o u2 k in
        let h1 = before_items own extent.Body is s1 h2 in
        let k1 = before_items all extent.Program is u1 k2 in
        let h0 = before_receiver own extent.Body r s0 h1 in (
          adds_met own s (form.call r x is o) h0,
          noted_receiver_of r own s0 u0 h1 k1,
          noted_items_of is own s1 u1 h2 k2,
          noted_maybe_of o own s2 u2 h k,
        )
    noted_of (form.yield_form is) own s u h k =
        let s0 = met s (form.yield_form is) in
        let u0 = met u (form.yield_form is) in
        let h0 = before_items own extent.Body is s0 h in
        (adds_met own s (form.yield_form is) h0, noted_items_of is own s0 u0 h k)
    noted_of (form.super_form is o) own s u h k =
        let s0 = met s (form.super_form is o) in
        let u0 = met u (form.super_form is o) in
        let s1 = walked_items extent.Body s0 is in
        let u1 = walked_items extent.Program u0 is in
        let h1 = before_maybe own extent.Body o s1 h in
        let k1 = before_maybe all extent.Program o u1 k in
        let h0 = before_items own extent.Body is s0 h1 in
        (adds_met own s (form.super_form is o) h0, noted_items_of is own s0 u0 h1 k1, noted_maybe_of o own s1 u1 h k)
    noted_of (form.function (form.body q ls g)) own s u h k =
        let s0 = met s (form.function (form.body q ls g)) in
        let u0 = met u (form.function (form.body q ls g)) in
        let h0 = before_body own extent.Body (form.body q ls g) s0 h in
        (adds_met own s (form.function (form.body q ls g)) h0, fits_of (form.body q ls g) u0 k)
    noted_of (form.lambda (form.body q ls g)) own s u h k =
        let s0 = met s (form.lambda (form.body q ls g)) in
        let u0 = met u (form.lambda (form.body q ls g)) in
        let h0 = before_body own extent.Body (form.body q ls g) s0 h in
        (adds_met own s (form.lambda (form.body q ls g)) h0, fits_of (form.body q ls g) u0 k)
    noted_of (form.begin_form e cs o p) own s u h k =
        let s0 = met s (form.begin_form e cs o p) in
        let u0 = met u (form.begin_form e cs o p) in
        let s1 = walked extent.Body s0 e in
        let u1 = walked extent.Program u0 e in
        let s2 = walked_clauses extent.Body s1 cs in
        let u2 = walked_clauses extent.Program u1 cs in
        let s3 = walked_maybe extent.Body s2 o in
        let u3 = walked_maybe extent.Program u2 o in
        let h3 = before_maybe own extent.Body p s3 h in
        let k3 = before_maybe all extent.Program p u3 k in
        let h2 = before_maybe own extent.Body o s2 h3 in
        let k2 = before_maybe all extent.Program o u2 k3 in
        let h1 = before_clauses own extent.Body cs s1 h2 in
        let k1 = before_clauses all extent.Program cs u1 k2 in
        let h0 = before own extent.Body e s0 h1 in (
          adds_met own s (form.begin_form e cs o p) h0,
          noted_of e own s0 u0 h1 k1,
          noted_clauses_of cs own s1 u1 h2 k2,
          noted_maybe_of o own s2 u2 h3 k3,
          noted_maybe_of p own s3 u3 h k,
        )
    noted_of (form.return_form e) own s u h k =
        let s0 = met s (form.return_form e) in
        let u0 = met u (form.return_form e) in
        let h0 = before own extent.Body e s0 h in
        (adds_met own s (form.return_form e) h0, noted_of e own s0 u0 h k)
    noted_of (form.break_form e) own s u h k =
        let s0 = met s (form.break_form e) in
        let u0 = met u (form.break_form e) in
        let h0 = before own extent.Body e s0 h in
        (adds_met own s (form.break_form e) h0, noted_of e own s0 u0 h k)
    noted_of (form.next_form e) own s u h k =
        let s0 = met s (form.next_form e) in
        let u0 = met u (form.next_form e) in
        let h0 = before own extent.Body e s0 h in
        (adds_met own s (form.next_form e) h0, noted_of e own s0 u0 h k)
    noted_of form.retry own s u h k = adds_met own s form.retry h
    noted_of (form.define x (form.body q ls g)) own s u h k =
        let s0 = met s (form.define x (form.body q ls g)) in
        let u0 = met u (form.define x (form.body q ls g)) in
        let h0 = before_body own extent.Body (form.body q ls g) s0 h in
        (adds_met own s (form.define x (form.body q ls g)) h0, fits_of (form.body q ls g) u0 k)
    noted_of (form.define_on e x (form.body q ls g)) own s u h k =
        let s0 = met s (form.define_on e x (form.body q ls g)) in
        let u0 = met u (form.define_on e x (form.body q ls g)) in
        let s1 = walked extent.Body s0 e in
        let u1 = walked extent.Program u0 e in
        let h1 = before_body own extent.Body (form.body q ls g) s1 h in
        let k1 = before_body all extent.Program (form.body q ls g) u1 k in
        let h0 = before own extent.Body e s0 h1 in (
          adds_met own s (form.define_on e x (form.body q ls g)) h0,
          noted_of e own s0 u0 h1 k1,
          fits_of (form.body q ls g) u1 k,
        )
    noted_of (form.class_form o x p (form.body q ls g)) own s u h k =
        let s0 = met s (form.class_form o x p (form.body q ls g)) in
        let u0 = met u (form.class_form o x p (form.body q ls g)) in
        let s1 = walked_maybe extent.Body s0 o in
        let u1 = walked_maybe extent.Program u0 o in
        let s2 = walked_maybe extent.Body s1 p in
        let u2 = walked_maybe extent.Program u1 p in
        let h2 = before_body own extent.Body (form.body q ls g) s2 h in
        let k2 = before_body all extent.Program (form.body q ls g) u2 k in
        let h1 = before_maybe own extent.Body p s1 h2 in
        let k1 = before_maybe all extent.Program p u1 k2 in
        let h0 = before_maybe own extent.Body o s0 h1 in (
          adds_met own s (form.class_form o x p (form.body q ls g)) h0,
          noted_maybe_of o own s0 u0 h1 k1,
          noted_maybe_of p own s1 u1 h2 k2,
          fits_of (form.body q ls g) u2 k,
        )
    noted_of (form.module_form o x (form.body q ls g)) own s u h k =
        let s0 = met s (form.module_form o x (form.body q ls g)) in
        let u0 = met u (form.module_form o x (form.body q ls g)) in
        let s1 = walked_maybe extent.Body s0 o in
        let u1 = walked_maybe extent.Program u0 o in
        let h1 = before_body own extent.Body (form.body q ls g) s1 h in
        let k1 = before_body all extent.Program (form.body q ls g) u1 k in
        let h0 = before_maybe own extent.Body o s0 h1 in (
          adds_met own s (form.module_form o x (form.body q ls g)) h0,
          noted_maybe_of o own s0 u0 h1 k1,
          fits_of (form.body q ls g) u1 k,
        )
    noted_of (form.singleton_class e (form.body q ls g)) own s u h k =
        let s0 = met s (form.singleton_class e (form.body q ls g)) in
        let u0 = met u (form.singleton_class e (form.body q ls g)) in
        let s1 = walked extent.Body s0 e in
        let u1 = walked extent.Program u0 e in
        let h1 = before_body own extent.Body (form.body q ls g) s1 h in
        let k1 = before_body all extent.Program (form.body q ls g) u1 k in
        let h0 = before own extent.Body e s0 h1 in (
          adds_met own s (form.singleton_class e (form.body q ls g)) h0,
          noted_of e own s0 u0 h1 k1,
          fits_of (form.body q ls g) u1 k,
        )
    noted_of (form.alias_form x y) own s u h k = adds_met own s (form.alias_form x y) h
    noted_of (form.undef_form x) own s u h k = adds_met own s (form.undef_form x) h
    noted_of (form.defined x y o) own s u h k =
        let s0 = met s (form.defined x y o) in
        let u0 = met u (form.defined x y o) in
        let h0 = before_maybe own extent.Body o s0 h in
        (adds_met own s (form.defined x y o) h0, noted_maybe_of o own s0 u0 h k)
    noted_of (form.item e x) own s u h k =
        let s0 = met s (form.item e x) in
        let u0 = met u (form.item e x) in
        let h0 = before own extent.Body e s0 h in
        (adds_met own s (form.item e x) h0, noted_of e own s0 u0 h k)
    noted_of (form.rest_of e x y) own s u h k =
        let s0 = met s (form.rest_of e x y) in
        let u0 = met u (form.rest_of e x y) in
        let h0 = before own extent.Body e s0 h in
        (adds_met own s (form.rest_of e x y) h0, noted_of e own s0 u0 h k)
    noted_of (form.tail_of e x y) own s u h k =
        let s0 = met s (form.tail_of e x y) in
        let u0 = met u (form.tail_of e x y) in
        let h0 = before own extent.Body e s0 h in
        (adds_met own s (form.tail_of e x y) h0, noted_of e own s0 u0 h k)

    noted_maybe_of : (x : Maybe) (own s u : List Step) → Front own (walked_maybe extent.Body s x)
        → Front all (walked_maybe extent.Program u x) → Noted_maybe (tallied no_form own) x
    noted_maybe_of form.absent own s u h k = tt
    noted_maybe_of (form.there e) own s u h k =
        noted_of e own s u h k

    noted_all_of : (x : Forms) (own s u : List Step) → Front own (walked_all extent.Body s x)
        → Front all (walked_all extent.Program u x) → Noted_all (tallied no_form own) x
    noted_all_of form.none own s u h k = tt
    noted_all_of (form.more e es) own s u h k =
        let s1 = walked extent.Body s e in
        let u1 = walked extent.Program u e in
        let h1 = before_all own extent.Body es s1 h in
        let k1 = before_all all extent.Program es u1 k in
        (noted_of e own s u h1 k1, noted_all_of es own s1 u1 h k)

    noted_items_of : (x : Items) (own s u : List Step) → Front own (walked_items extent.Body s x)
        → Front all (walked_items extent.Program u x) → Noted_items (tallied no_form own) x
    noted_items_of form.no_items own s u h k = tt
    noted_items_of (form.plain e is) own s u h k =
        let s1 = walked extent.Body s e in
        let u1 = walked extent.Program u e in
        let h1 = before_items own extent.Body is s1 h in
        let k1 = before_items all extent.Program is u1 k in
        (noted_of e own s u h1 k1, noted_items_of is own s1 u1 h k)
    noted_items_of (form.splat e is) own s u h k =
        let s1 = walked extent.Body s e in
        let u1 = walked extent.Program u e in
        let h1 = before_items own extent.Body is s1 h in
        let k1 = before_items all extent.Program is u1 k in
        (noted_of e own s u h1 k1, noted_items_of is own s1 u1 h k)

    noted_pairs_of : (x : Pairs) (own s u : List Step) → Front own (walked_pairs extent.Body s x)
        → Front all (walked_pairs extent.Program u x) → Noted_pairs (tallied no_form own) x
    noted_pairs_of form.no_pairs own s u h k = tt
    noted_pairs_of (form.pair e f ps) own s u h k =
        let s1 = walked extent.Body s e in
        let u1 = walked extent.Program u e in
        let s2 = walked extent.Body s1 f in
        let u2 = walked extent.Program u1 f in
        let h2 = before_pairs own extent.Body ps s2 h in
        let k2 = before_pairs all extent.Program ps u2 k in
        let h1 = before own extent.Body f s1 h2 in
        let k1 = before all extent.Program f u1 k2 in
        (noted_of e own s u h1 k1, noted_of f own s1 u1 h2 k2, noted_pairs_of ps own s2 u2 h k)

    noted_branches_of : (x : Branches) (own s u : List Step) → Front own (walked_branches extent.Body s x)
        → Front all (walked_branches extent.Program u x) → Noted_branches (tallied no_form own) x
    noted_branches_of form.no_branches own s u h k = tt
    noted_branches_of (form.branch e f bs) own s u h k =
        let s1 = walked extent.Body s e in
        let u1 = walked extent.Program u e in
        let s2 = walked extent.Body s1 f in
        let u2 = walked extent.Program u1 f in
        let h2 = before_branches own extent.Body bs s2 h in
        let k2 = before_branches all extent.Program bs u2 k in
        let h1 = before own extent.Body f s1 h2 in
        let k1 = before all extent.Program f u1 k2 in
        (noted_of e own s u h1 k1, noted_of f own s1 u1 h2 k2, noted_branches_of bs own s2 u2 h k)

    noted_clauses_of : (x : Clauses) (own s u : List Step) → Front own (walked_clauses extent.Body s x)
        → Front all (walked_clauses extent.Program u x) → Noted_clauses (tallied no_form own) x
    noted_clauses_of form.no_clauses own s u h k = tt
    noted_clauses_of (form.clause es o e cs) own s u h k =
        let s1 = walked_all extent.Body s es in
        let u1 = walked_all extent.Program u es in
        let s2 = walked_maybe extent.Body s1 o in
        let u2 = walked_maybe extent.Program u1 o in
        let s3 = walked extent.Body s2 e in
        let u3 = walked extent.Program u2 e in
        let h3 = before_clauses own extent.Body cs s3 h in
        let k3 = before_clauses all extent.Program cs u3 k in
        let h2 = before own extent.Body e s2 h3 in
        let k2 = before all extent.Program e u2 k3 in
        let h1 = before_maybe own extent.Body o s1 h2 in
        let k1 = before_maybe all extent.Program o u1 k2 in (
          noted_all_of es own s u h1 k1,
          noted_maybe_of o own s1 u1 h2 k2,
          noted_of e own s2 u2 h3 k3,
          noted_clauses_of cs own s3 u3 h k,
        )

    noted_receiver_of : (x : Receiver) (own s u : List Step) → Front own (walked_receiver extent.Body s x)
        → Front all (walked_receiver extent.Program u x) → Noted_receiver (tallied no_form own) x
    noted_receiver_of (form.to e) own s u h k =
        noted_of e own s u h k
    noted_receiver_of form.on_self own s u h k = tt
    noted_receiver_of form.bare own s u h k = tt

    pub fits_of : (b : Body) (u : List Step) → Front all (walked_body extent.Program u b) → Fits b
    fits_of (form.body p ls f) u k =
        let v = entering u (form.body p ls f) in
        let l = shorter all (walked extent.Program v f) leave k in (
          each (form.body p ls f) u (before all extent.Program f v l),
          noted_of f (walked extent.Body [] f) [] v (whole (walked extent.Body [] f)) l,
        )
