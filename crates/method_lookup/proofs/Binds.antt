-- What binding puts into a store is of it.
use Rattle.std.proofs.Common.{◌≡◌, ℕ, ◌+◌, ◌-◌, ◌≤◌, List, [], ◌∷◌, length, take, replicate, true, false, not, refl, ap, sym, ◌∙◌, subst, arith, if◌then◌else◌, ◌++◌}
use Rattle.std.specs.Prelude.{Option, Some, None, nat_lt, nat_eq, get_or, ◌&&◌, ◌||◌}
use Rattle.std.proofs.lemmas.Bool.Decides.{nat_tests}
use Rattle.rb_value.specs.declared.value.Value.{Value}
use Rattle.rb_value.specs.declared.value.Value.TheVariants.{Nil, True, False, Int, Sym, Obj}
use Rattle.rb_value.specs.Object.{Object}
use Rattle.rb_value.specs.declared.method.Shape.{Shape}
use Rattle.rb_value.specs.declared.kind.Kind.{Kind}
use Rattle.rb_value.specs.declared.kind.Kind.TheVariants as kind
use Rattle.rb_value.specs.declared.core_class.CoreClass.TheVariants as class
use Rattle.def_core.specs.declared.bound.BindKind.{BindKind}
use Rattle.def_core.specs.declared.bound.BindKind.TheVariants.{Method, Lambda, Proc}
use Rattle.def_core.specs.Store.{Store, core, fresh, object_at, next_number, with_object}
use Rattle.def_core.specs.Bind.{least, most, elements_of, elements_in, elements_or, spreads, spread, fitted, arguments, fits, filled, front, remaining, last, values}
use Rattle.def_core.specs.Sound.{census, Census, Any, IsValue, OptionIs, AllAre, SoundKind, Sound}
use Rattle.def_core.proofs.Good.{role_object}
use Rattle.method_lookup.proofs.Lists.{all_append, all_take, all_drop, all_replicate, all_more}
use Rattle.def_core.proofs.Grows.{core_is_class, value_grows, one_more, new_role}
use Rattle.rb_store.specs.Held.{Held}
use Rattle.rb_store.specs.Keeps.{Keeps}
use Rattle.rb_store.proofs.Keeping.{keeps_added}

pub fits_least : (s : Shape) (n : ℕ) → fits s n ≡ true → least s ≤ n
fits_least s n h = elim (nat_lt n (least s)) as
    (λ b. nat_lt n (least s) ≡ b → (not b && (s.rest || not (nat_lt (most s) n))) ≡ true → least s ≤ n) [
      | true ↦ λ b e. cc
      | false ↦ λ b e. grind (arith, nat_tests, b)
    ] refl h

elements_sound : (k : Census) (n : ℕ) (x : Kind) → SoundKind k n x → OptionIs (AllAre (IsValue k)) (elements_of x)
elements_sound k n kind.Plain h = tt
elements_sound k n (kind.Class c) h = tt
elements_sound k n (kind.String s) h = tt
elements_sound k n (kind.Array a) h = h
elements_sound k n (kind.Hash x) h = tt
elements_sound k n (kind.Range r) h = tt
elements_sound k n (kind.Proc p) h = tt
elements_sound k n (kind.CoreProc r v) h = tt
elements_sound k n (kind.Fiber b x) h = tt
elements_sound k n (kind.Exception m d) h = tt
elements_sound k n (kind.Enumerator x) h = tt
elements_sound k n (kind.Yielder b) h = tt

module _ (st : Store) (sound : Sound st) where
  in_value : (v : Value) → IsValue (census st) v → OptionIs (AllAre (IsValue (census st))) (elements_in st.objects v)
  in_value Nil h = tt
  in_value True h = tt
  in_value False h = tt
  in_value (Int n) h = tt
  in_value (Sym s) h = tt
  in_value (Obj id) h = elements_sound (census st) id.0 (object_at st.objects id).kind
      (role_object st sound Any id h).kind

  or_others : (o : Option (List Value)) (args : List Value) → OptionIs (AllAre (IsValue (census st))) o
      → AllAre (IsValue (census st)) args → AllAre (IsValue (census st)) (elements_or o args)
  or_others None args h g = g
  or_others (Some a) args h g = h

  first_value : (args : List Value) → AllAre (IsValue (census st)) args → IsValue (census st) (get_or args 0 Nil)
  first_value [] h = tt
  first_value (x ∷ xs) h = h.0

  all_spread : (args : List Value) → AllAre (IsValue (census st)) args
      → AllAre (IsValue (census st)) (spread st.objects args)
  all_spread args h = elim (nat_eq (length args) 1) as
      (λ b. AllAre (IsValue (census st)) (if b then elements_or (elements_in st.objects (get_or args 0 Nil)) args else
      args)) [
        | true ↦ or_others (elements_in st.objects (get_or args 0 Nil)) args
            (in_value (get_or args 0 Nil) (first_value args h)) h
        | false ↦ h
      ]

  all_fitted : (s : Shape) (args : List Value) → AllAre (IsValue (census st)) args
      → AllAre (IsValue (census st)) (fitted s args)
  all_fitted s args h =
      all_append (IsValue (census st)) (if s.rest then args else take (most s) args)
      (replicate (least s - length (if s.rest then args else take (most s) args)) Nil)
      (elim s.rest as (λ b. AllAre (IsValue (census st)) (if b then args else take (most s) args)) [
        | true ↦ h
        | false ↦ all_take (IsValue (census st)) (most s) args h
      ])
      (all_replicate (IsValue (census st)) (least s - length (if s.rest then args else take (most s) args)) Nil tt)

  all_arguments : (s : Shape) (k : BindKind) (args : List Value) → AllAre (IsValue (census st)) args
      → AllAre (IsValue (census st)) (arguments st.objects s k args)
  all_arguments s Method args h = h
  all_arguments s Lambda args h = h
  all_arguments s Proc args h = all_fitted s (if spreads s then spread st.objects args else args)
      (elim (spreads s) as (λ b. AllAre (IsValue (census st)) (if b then spread st.objects args else args)) [
        | true ↦ all_spread args h
        | false ↦ h
      ])

-- the Array of the arguments that remain
pub keeps_rest : (h g : Held) → Sound h.store → (s : Shape) (k : BindKind) (args given others : List Value)
    → AllAre (IsValue (census h.store)) args → given ≡ arguments h.store.objects s k args
    → others ≡ remaining s given → g.store ≡ with_object h.store (fresh (core class.Array) (kind.Array others))
    → g.changes ≡ h.changes → Keeps h g
keeps_rest h g sound s k args given others all e o a same =
    let st = h.store in
    let taken = arguments st.objects s k args in
    let here : AllAre (IsValue (census st)) others =
    subst (AllAre (IsValue (census st))) (sym (o ∙ ap (remaining s) e))
    (all_drop (IsValue (census st)) (s.required + filled s (length taken)) (take (length taken - s.post) taken)
    (all_take (IsValue (census st)) (length taken - s.post) taken (all_arguments st sound s k args all))) in
    keeps_added h g (fresh (core class.Array) (kind.Array others)) sound
    (record { class = core_is_class st sound class.Array refl; singleton = tt; variables = tt; kind = here }) a same

-- the values of the parameters are values where the arguments and that of the rest are
all_values : (k : Census) (s : Shape) (rest given : List Value) → AllAre (IsValue k) given → AllAre (IsValue k) rest
    → AllAre (IsValue k) (values s rest given)
all_values k s rest given all r =
    let nils = replicate (s.optional - filled s (length given)) Nil in
    all_append (IsValue k) ((front s given ++ nils) ++ rest) (last s given)
    (all_append (IsValue k) (front s given ++ nils) rest
    (all_append (IsValue k) (front s given) nils
    (all_take (IsValue k) (s.required + filled s (length given)) given all)
    (all_replicate (IsValue k) (s.optional - filled s (length given)) Nil tt))
    r)
    (all_drop (IsValue k) (length given - s.post) given all)

module _ (st : Store) (sound : Sound st) where
  pub values_without_rest : (s : Shape) (k : BindKind) (args given list : List Value)
      → AllAre (IsValue (census st)) args → given ≡ arguments st.objects s k args
      → list ≡ values s [] given → AllAre (IsValue (census st)) list
  values_without_rest s k args given list all g l =
      subst (AllAre (IsValue (census st))) (sym (l ∙ ap (values s []) g))
      (all_values (census st) s [] (arguments st.objects s k args) (all_arguments st sound s k args all) tt)

  pub values_with_rest : (after : Store) (s : Shape) (k : BindKind) (args given list others : List Value)
      → AllAre (IsValue (census st)) args → given ≡ arguments st.objects s k args
      → list ≡ values s (Obj (next_number st) ∷ []) given
      → after ≡ with_object st (fresh (core class.Array) (kind.Array others)) → AllAre (IsValue (census after)) list
  values_with_rest after s k args given list others all g l a =
      let o : Object = fresh (core class.Array) (kind.Array others) in
      let now = census (with_object st o) in
      let taken = arguments st.objects s k args in
      let kept : AllAre (IsValue now) taken =
      all_more (IsValue (census st)) (IsValue now) (value_grows (census st) now (one_more st o)) taken
      (all_arguments st sound s k args all) in
      subst (λ (x : Store). AllAre (IsValue (census x)) list) (sym a)
      (subst (AllAre (IsValue now)) (sym (l ∙ ap (values s (Obj (next_number st) ∷ [])) g))
      (all_values now s (Obj (next_number st) ∷ []) taken kept (new_role st o Any refl, tt)))
