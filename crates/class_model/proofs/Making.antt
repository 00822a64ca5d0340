-- The singleton classes that are missing, made one after another.
use Rattle.std.proofs.Common.{◌≡◌, ℕ, zero, suc, ◌<◌, ◌≤◌, ◌-◌, ◌++◌, List, [], ◌∷◌, length, get_or, drop, filter, refl, ap, sym, ◌∙◌, arith, subst, Bool, true, false, cond, not, true≢false, drop-cons}
use Rattle.std.specs.Prelude.{Option, Some, None, is_some, unwrap_or}
use Rattle.std.proofs.Math.Seq.{drop-length}
use Rattle.std.proofs.lemmas.List.Elements.{filter-append}
use Rattle.rb_value.specs.declared.value.ObjId.{ObjId}
use Rattle.rb_value.specs.Object.{Object}
use Rattle.def_core.specs.Store.{Store, object_at, sort_at}
use Rattle.def_core.specs.Classes.{class_at, lineage}
use Rattle.def_core.specs.Changes.{above, make_all, missing}
use Rattle.def_core.specs.Parts.{with_objects}
use Rattle.def_core.specs.Sound.{census, Any, ClassOrModule, Is, IsGood, AllAre, Sound}
use Rattle.def_core.proofs.Good.{is_good}
use Rattle.def_core.proofs.Attaching.{good_attached, kept_attached, given_attached}
use Rattle.def_core.proofs.Chains.{lineage_above}
use Rattle.class_model.specs.Singletons.{is_missing, with_new_singleton, IsMadeInPart}
use Rattle.class_model.proofs.Lineages.{lineage_of, singletons_from_lineage, singleton_is_class}

pub make_none : (objects : List Object) (ids : List ObjId) → make_all objects (drop (length ids) ids) ≡ objects
unfolding make_all
make_none objects ids = ap (make_all objects) (drop-length ids)

pub made_nothing : (st : Store) (ids : List ObjId) → IsMadeInPart st ids st
made_nothing st ids = (
  length ids,
  ap (λ (xs : List Object). record st { objects = xs })
      (sym (make_none st.objects ids)),
)

pub make_more : (objects : List Object) (ids : List ObjId) (n : ℕ) (d : ObjId) → n < length ids
    → make_all objects (drop n ids) ≡ with_new_singleton (make_all objects (drop (suc n) ids)) (get_or ids n d)
unfolding make_all
make_more objects ids n d h = ap (make_all objects) (drop-cons ids n d h)

pub make_before : (objects : List Object) (ids : List ObjId) (n : ℕ) (d : ObjId) → 0 < n → n ≤ length ids
    → make_all objects (drop (n - 1) ids) ≡ with_new_singleton (make_all objects (drop n ids)) (get_or ids (n - 1) d)
make_before objects ids zero d h g = absurd (omega (arith, h))
make_before objects ids (suc n) d h g = let e : suc n - 1 ≡ n = omega arith in
    rw e (make_more objects ids n d (omega (arith, g)))

-- the missing ones of a class and its superclasses
pub missing_above : (st : Store) → Sound st → (id p : ObjId) → Is (census st) Any id
    → (class_at st.objects id).superclass ≡ Some p
    → filter (is_missing st.objects) (lineage st.objects id) ≡ filter (is_missing st.objects) (id ∷ [])
    ++ filter (is_missing st.objects) (lineage st.objects p)
missing_above st sound id p is h =
    ap (filter (is_missing st.objects)) (lineage_of st sound id is ∙ ap (λ q. id ∷ lineage_above st.objects q) h)
    ∙ filter-append (is_missing st.objects) (id ∷ []) (lineage st.objects p)

pub missing_last : (st : Store) → Sound st → (id : ObjId) → Is (census st) Any id
    → (class_at st.objects id).superclass ≡ None
    → filter (is_missing st.objects) (lineage st.objects id) ≡ filter (is_missing st.objects) (id ∷ [])
missing_last st sound id is h = ap (filter (is_missing st.objects))
    (lineage_of st sound id is ∙ ap (λ q. id ∷ lineage_above st.objects q) h)

pub missing_is : (st : Store) → Sound st → (id : ObjId) → Is (census st) Any id
    → filter (is_missing st.objects) (lineage st.objects id) ≡ missing st.objects id
unfolding missing
missing_is st sound id is = ap (filter (is_missing st.objects)) (sym (singletons_from_lineage st sound id is))

good_made : (st : Store) (ids : List ObjId) (k : ObjId) → IsGood st k
    → IsGood (with_objects st (make_all st.objects ids)) k
unfolding make_all
good_made st [] k good = good
good_made st (id ∷ ids) k good =
    let made : Store = with_objects st (make_all st.objects ids) in
    good_attached made id (above made.objects id (sort_at made.objects id)) k (good_made st ids k good)

kept_made : (st : Store) (ids : List ObjId) (k : ObjId) → AllAre (IsGood st) ids → IsGood st k
    → is_some (object_at st.objects k).singleton ≡ true
    → is_some (object_at (make_all st.objects ids) k).singleton ≡ true
unfolding make_all
kept_made st [] k all there h = h
kept_made st (id ∷ ids) k all there h =
    let made : Store = with_objects st (make_all st.objects ids) in
    kept_attached made id (above made.objects id (sort_at made.objects id)) k (good_made st ids id all.0)
    (good_made st ids k there) (kept_made st ids k all.1 there h)

given_made : (st : Store) (ids : List ObjId) (id : ObjId) → IsGood st id
    → is_some (object_at (make_all st.objects (id ∷ ids)) id).singleton ≡ true
unfolding make_all
given_made st ids id there =
    let made : Store = with_objects st (make_all st.objects ids) in
    given_attached made id (above made.objects id (sort_at made.objects id)) (good_made st ids id there)

-- the object has a singleton class then
pub has_singleton : (st : Store) → Sound st → (id : ObjId) → Is (census st) Any id
    → AllAre (IsGood st) (missing st.objects id)
    → is_some (object_at (make_all st.objects (missing st.objects id)) id).singleton ≡ true
has_singleton st sound id is all =
    let rest = filter (is_missing st.objects) (lineage_above st.objects (class_at st.objects id).superclass) in
    let e : missing st.objects id ≡ cond (is_missing st.objects id) (id ∷ rest) rest =
    sym (missing_is st sound id is) ∙ ap (filter (is_missing st.objects)) (lineage_of st sound id is) in
    subst (λ (xs : List ObjId). is_some (object_at (make_all st.objects xs) id).singleton ≡ true) (sym e)
    (by (is_some (object_at st.objects id).singleton) refl rest (subst (AllAre (IsGood st)) e all))
  where
    by : (b : Bool) → is_some (object_at st.objects id).singleton ≡ b → (rest : List ObjId)
        → AllAre (IsGood st)
        (cond (not (is_some (object_at st.objects id).singleton)) (id ∷ rest) rest)
        → is_some (object_at (make_all st.objects
        (cond (not (is_some (object_at st.objects id).singleton)) (id ∷ rest) rest)) id).singleton ≡ true
    by true h rest = subst (λ (b : Bool). AllAre (IsGood st) (cond (not b) (id ∷ rest) rest)
        → is_some (object_at (make_all st.objects (cond (not b) (id ∷ rest) rest)) id).singleton ≡ true) (sym h)
        (λ some. kept_made st rest id some (is_good st Any id is) h)
    by false h rest = subst (λ (b : Bool). AllAre (IsGood st) (cond (not b) (id ∷ rest) rest)
        → is_some (object_at (make_all st.objects (cond (not b) (id ∷ rest) rest)) id).singleton ≡ true) (sym h)
        (λ some. given_made st rest id (is_good st Any id is))

all_good : (st : Store) (ids : List ObjId) → AllAre (Is (census st) Any) ids → AllAre (IsGood st) ids
all_good st [] all = tt
all_good st (id ∷ ids) all = (is_good st Any id all.0, all_good st ids all.1)

pub given_is_class : (st : Store) → Sound st → (id : ObjId) → Is (census st) Any id
    → is_some (object_at st.objects id).singleton ≡ true
    → Is (census st) ClassOrModule (unwrap_or (object_at st.objects id).singleton id)
given_is_class st sound id is h = by (object_at st.objects id).singleton refl h
  where
    by : (o : Option ObjId) → (object_at st.objects id).singleton ≡ o → is_some o ≡ true
        → Is (census st) ClassOrModule (unwrap_or o id)
    by None e s = absurd (true≢false (sym s))
    by (Some x) e s = singleton_is_class st sound id x is e

-- what is given as the singleton class is a class
pub made_is_class : (st after : Store) → Sound st → Sound after → (id : ObjId) (ids : List ObjId)
    → Is (census st) Any id → Is (census after) Any id → ids ≡ missing st.objects id → AllAre (Is (census st) Any) ids
    → after ≡ record st { objects = make_all st.objects ids }
    → Is (census after) ClassOrModule (unwrap_or (object_at after.objects id).singleton id)
made_is_class st after sound later id ids is still e all s =
    let some = has_singleton st sound id is
    (subst (AllAre (IsGood st)) e (all_good st ids all)) in
    let made : after.objects ≡ make_all st.objects (missing st.objects id) = ap (λ (x : Store). x.objects) s
    ∙ ap (make_all st.objects) e in
    given_is_class after later id still
    (subst (λ (xs : List Object). is_some (object_at xs id).singleton ≡ true) (sym made) some)
