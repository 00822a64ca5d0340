-- Variables that mirror the slots of a body.
use Rattle.std.proofs.Common.{◌≡◌, ◌≤◌, List, [], ◌∷◌, ◌++◌, length, arith, refl, sym, ap, ◌∙◌, subst, Bool, true, false, is_some, if◌then◌else◌}
use Rattle.std.specs.Prelude.{Option, Some, None, ◌||◌}
use Rattle.std.proofs.lemmas.Bool.{eqb-true}
use Rattle.std.proofs.lemmas.List.{map-append}
use Rattle.std.proofs.lemmas.Slice.Eq.{bytes_eq-Decides}
use Rattle.rb_value.specs.declared.value.Value.{Value}
use Rattle.rb_value.specs.declared.value.Value.TheVariants.{Nil}
use Rattle.rb_value.specs.declared.value.ObjId.{ObjId}
use Rattle.ir_core.specs.CoreForm.{Local, named, hidden, pattern, rest, Parameters, CoreForm, body, no_parameters}
use Rattle.ir_core.specs.Program.{are_same}
use Rattle.scope_resolver.specs.declared.body_kind.BodyKind.TheVariants as kind
use Rattle.scope_resolver.specs.Layout.{Slots, is_at, named_slots, block_slot, parameter_slots, slots_of}
use Rattle.def_eval.specs.Configuration.{all_nil}
use Rattle.def_eval.specs.Scopes.{same_local, value_in, put_value, with_values, block_value, all_of, first_variables}
use Rattle.code_laws.specs.Bound.{IsSeen}
use Rattle.local_laws.specs.Mirrors.{has_slot, Mirrors}

-- ## Locals that are the same

same_is : (x y : Local) → same_local x y ≡ are_same x y
same_is (named x) (named y) = refl
same_is (named x) (hidden n) = refl
same_is (named x) (pattern n) = refl
same_is (named x) rest = refl
same_is (hidden m) (named y) = refl
same_is (hidden m) (hidden n) = refl
same_is (hidden m) (pattern n) = refl
same_is (hidden m) rest = refl
same_is (pattern m) (named y) = refl
same_is (pattern m) (hidden n) = refl
same_is (pattern m) (pattern n) = refl
same_is (pattern m) rest = refl
same_is rest (named y) = refl
same_is rest (hidden n) = refl
same_is rest (pattern n) = refl
same_is rest rest = refl

equal : (x y : Local) → same_local x y ≡ true → x ≡ y
equal (named x) (named y) e = ap named ((bytes_eq-Decides x y).0 e)
equal (named x) (hidden n) e = absurd (cc e)
equal (named x) (pattern n) e = absurd (cc e)
equal (named x) rest e = absurd (cc e)
equal (hidden m) (named y) e = absurd (cc e)
equal (hidden m) (hidden n) e = ap hidden (eqb-true m n e)
equal (hidden m) (pattern n) e = absurd (cc e)
equal (hidden m) rest e = absurd (cc e)
equal (pattern m) (named y) e = absurd (cc e)
equal (pattern m) (hidden n) e = absurd (cc e)
equal (pattern m) (pattern n) e = ap pattern (eqb-true m n e)
equal (pattern m) rest e = absurd (cc e)
equal rest (named y) e = absurd (cc e)
equal rest (hidden n) e = absurd (cc e)
equal rest (pattern n) e = absurd (cc e)
equal rest rest e = refl

-- ## Lists of variables

abbrev Variables : Type 0
Variables = List (Local × Value)

one_more : (x y : Local) (v : Value) (vs : Variables)
    → is_some (value_in ((y, v) ∷ vs) x) ≡ (are_same x y || is_some (value_in vs x))
one_more x y v vs = at (same_local x y) refl ∙ ap (λ (b : Bool). b || is_some (value_in vs x)) (same_is x y)
  where
    at : (b : Bool) → same_local x y ≡ b
        → is_some (if same_local x y then Some v else value_in vs x) ≡ (same_local x y || is_some (value_in vs x))
    at true e = rw e refl
    at false e = rw e refl

slot_more : (x y : Local) (ss : Slots) → has_slot x (Some y ∷ ss) ≡ (are_same x y || has_slot x ss)
slot_more x y ss = at (are_same x y)
  where
    at : (b : Bool) → (if b then true else has_slot x ss) ≡ (b || has_slot x ss)
    at true = refl
    at false = refl

mirrors_more : (y : Local) (v : Value) (vs : Variables) (ss : Slots) → Mirrors vs ss
    → Mirrors ((y, v) ∷ vs) (Some y ∷ ss)
mirrors_more y v vs ss h x seen =
    one_more x y v vs ∙ ap (λ (b : Bool). are_same x y || b) (h x seen) ∙ sym (slot_more x y ss)

values_append : (x : Local) (vs us : Variables)
    → is_some (value_in (vs ++ us) x) ≡ (is_some (value_in vs x) || is_some (value_in us x))
values_append x [] us = refl
values_append x (v ∷ vs) us = at (same_local x v.0) (values_append x vs us)
  where
    at : (b : Bool) → is_some (value_in (vs ++ us) x) ≡ (is_some (value_in vs x) || is_some (value_in us x))
        → is_some (if b then Some v.1 else value_in (vs ++ us) x)
        ≡ (is_some (if b then Some v.1 else value_in vs x) || is_some (value_in us x))
    at true e = refl
    at false e = e

slots_append : (x : Local) (ss ts : Slots) → has_slot x (ss ++ ts) ≡ (has_slot x ss || has_slot x ts)
slots_append x [] ts = refl
slots_append x (s ∷ ss) ts = at (is_at x s) (slots_append x ss ts)
  where
    at : (b : Bool) → has_slot x (ss ++ ts) ≡ (has_slot x ss || has_slot x ts)
        → (if b then true else has_slot x (ss ++ ts)) ≡ ((if b then true else has_slot x ss) || has_slot x ts)
    at true e = refl
    at false e = e

mirrors_both : (vs us : Variables) (ss ts : Slots) → Mirrors vs ss → Mirrors us ts → Mirrors (vs ++ us) (ss ++ ts)
mirrors_both vs us ss ts h k x seen =
    values_append x vs us
    ∙ ap (λ (b : Bool). b || is_some (value_in us x)) (h x seen)
    ∙ ap (λ (b : Bool). has_slot x ss || b) (k x seen)
    ∙ sym (slots_append x ss ts)

-- ## The variables at the start of a body

nothing : Mirrors [] []
nothing x seen = refl

nils : (ls : List Local) → Mirrors (all_nil ls) (named_slots ls)
nils [] = nothing
nils (y ∷ ys) = mirrors_more y Nil (all_nil ys) (named_slots ys) (nils ys)

values : (ls : List Local) (vs : List Value) → Mirrors (with_values ls vs) (named_slots ls)
values [] vs = nothing
values (y ∷ ys) [] = mirrors_more y Nil (with_values ys []) (named_slots ys) (values ys [])
values (y ∷ ys) (v ∷ vs) = mirrors_more y v (with_values ys vs) (named_slots ys) (values ys vs)

block : (ls : List Local) (v : Value) → length ls ≤ 1 → Mirrors (with_values ls (v ∷ [])) (block_slot ls)
block [] v few = λ x seen. refl
block (y ∷ []) v few = mirrors_more y v [] [] nothing
block (y ∷ (z ∷ ls)) v few = absurd (omega (arith, few))

four : (a b c d : List Local)
    → named_slots (a ++ b ++ c ++ d) ≡ named_slots a ++ named_slots b ++ named_slots c ++ named_slots d
four a b c d =
    map-append Some (a ++ b ++ c) d
    ∙ ap (λ (ss : Slots). ss ++ named_slots d) (map-append Some (a ++ b) c
    ∙ ap (λ (ss : Slots). ss ++ named_slots c) (map-append Some a b))

begun : (p : Parameters) (ls : List Local) (vs : List Value) (b : Option ObjId) → length p.block ≤ 1
    → Mirrors (first_variables p ls vs b) (parameter_slots p ++ named_slots ls)
unfolding first_variables
begun p ls vs b few =
    let own = named_slots p.required ++ named_slots p.optional ++ named_slots p.rest ++ named_slots p.post in
    let arguments = subst (Mirrors (with_values (all_of p) vs)) (four p.required p.optional p.rest p.post)
    (values (all_of p) vs) in
    mirrors_both (with_values (all_of p) vs ++ with_values p.block (block_value b ∷ [])) (all_nil ls)
    (own ++ block_slot p.block) (named_slots ls)
    (mirrors_both (with_values (all_of p) vs) (with_values p.block (block_value b ∷ [])) own (block_slot p.block)
    arguments (block p.block (block_value b) few)) (nils ls)

pub main_begun : (ls : List Local) (f : CoreForm)
    → Mirrors (all_nil ls) (slots_of kind.Main (body no_parameters ls f))
main_begun ls f = nils ls

pub class_begun : (ls : List Local) (f : CoreForm)
    → Mirrors (first_variables no_parameters ls [] None) (slots_of kind.Class (body no_parameters ls f))
unfolding first_variables
class_begun ls f = nils ls

pub method_begun : (p : Parameters) (ls : List Local) (f : CoreForm) (vs : List Value) (b : Option ObjId)
    → length p.block ≤ 1 → Mirrors (first_variables p ls vs b) (slots_of kind.Method (body p ls f))
method_begun p ls f vs b few = begun p ls vs b few

pub block_begun : (p : Parameters) (ls : List Local) (f : CoreForm) (vs : List Value) (b : Option ObjId)
    → length p.block ≤ 1 → Mirrors (first_variables p ls vs b) (slots_of kind.Block (body p ls f))
block_begun p ls f vs b few = begun p ls vs b few

-- ## An assignment

put_has : (y x : Local) (u : Value) (vs : Variables)
    → is_some (value_in (put_value vs x u) y) ≡ (same_local y x || is_some (value_in vs y))
put_has y x u [] = at (same_local y x)
  where
    at : (b : Bool) → is_some (if b then Some u else None) ≡ (b || false)
    at true = refl
    at false = refl
put_has y x u (v ∷ vs) = at (same_local x v.0) refl (put_has y x u vs)
  where
    here : (b : Bool) → is_some (if b then Some u else value_in vs y)
        ≡ (b || is_some (if b then Some v.1 else value_in vs y))
    here true = refl
    here false = refl

    later : (b c : Bool) → is_some (value_in (put_value vs x u) y) ≡ (c || is_some (value_in vs y))
        → is_some (if b then Some v.1 else value_in (put_value vs x u) y)
        ≡ (c || is_some (if b then Some v.1 else value_in vs y))
    later true true e = refl
    later true false e = refl
    later false c e = e

    at : (b : Bool) → same_local x v.0 ≡ b
        → is_some (value_in (put_value vs x u) y) ≡ (same_local y x || is_some (value_in vs y))
        → is_some (value_in (if b then (x, u) ∷ vs else v ∷ put_value vs x u) y)
        ≡ (same_local y x || is_some (if same_local y v.0 then Some v.1 else value_in vs y))
    at true e h =
        subst (λ (z : Local). is_some (if same_local y x then Some u else value_in vs y)
        ≡ (same_local y x || is_some (if same_local y z then Some v.1 else value_in vs y))) (equal x v.0 e)
        (here (same_local y x))
    at false e h = later (same_local y v.0) (same_local y x) h

pub assigned : (vs : Variables) (ss : Slots) (x : Local) (u : Value) → Mirrors vs ss
    → (IsSeen x → has_slot x ss ≡ true) → Mirrors (put_value vs x u) ss
assigned vs ss x u h has y seen = put_has y x u vs ∙ at (same_local y x) refl
  where
    at : (b : Bool) → same_local y x ≡ b → (same_local y x || is_some (value_in vs y)) ≡ has_slot y ss
    at true e =
        let is = equal y x e in
        ap (λ (c : Bool). c || is_some (value_in vs y)) e
        ∙ sym (subst (λ (z : Local). has_slot z ss ≡ true) (sym is) (has (subst IsSeen is seen)))
    at false e = ap (λ (c : Bool). c || is_some (value_in vs y)) e ∙ h y seen
