-- The first of several classes that has a constant.
use Rattle.std.proofs.Common.{◌≡◌, ℕ, zero, suc, ◌-◌, ◌<◌, List, [], ◌∷◌, ◌++◌, get_or, Bool, true, false, cond, refl, ap, sym, ◌∙◌, arith}
use Rattle.std.specs.Prelude.{Option, Some, None, filter, not, if◌then◌else◌}
use Rattle.rb_value.specs.declared.value.Value.{Value}
use Rattle.rb_value.specs.declared.value.ObjId.{ObjId}
use Rattle.rb_value.specs.declared.value.SymId.{SymId}
use Rattle.rb_value.specs.declared.core_class.CoreClass.TheVariants as class
use Rattle.rb_value.specs.Object.{Object}
use Rattle.def_core.specs.Store.{Store, core, same_object}
use Rattle.def_core.specs.Classes.{class_at}
use Rattle.def_core.specs.Changes.{constant_in}
use Rattle.def_core.specs.Sound.{Census, census, Sound, ClassOrModule, Is}
use Rattle.class_model.proofs.Lineages as lineages
use Rattle.def_calls.specs.World as world
use Rattle.def_calls.specs.World.{World, enclosing_at, class_around, classes_within, no_enclosing}
use Rattle.def_calls.specs.Constants.{option_or, first_constant}
use Rattle.run_definitions.specs.Enclosing.{enclosed, inner_constant, AreEnclosing}

or_assoc : (a b c : Option Value) → option_or (option_or a b) c ≡ option_or a (option_or b c)
or_assoc None b c = refl
or_assoc (Some v) b c = refl

pub or_none : (a : Option Value) → option_or a None ≡ a
or_none None = refl
or_none (Some v) = refl

abbrev pub is_inner : ObjId → Bool
is_inner c = not (same_object c (core class.Object))

module _ (objects : List Object) (name : SymId) where
  pub first-append : (cs ds : List ObjId)
      → first_constant objects (cs ++ ds) name ≡ option_or (first_constant objects cs name)
      (first_constant objects ds name)
  first-append [] ds = refl
  first-append (c ∷ cs) ds =
      ap (option_or (constant_in (class_at objects c).constants name)) (first-append cs ds)
      ∙ sym (or_assoc (constant_in (class_at objects c).constants name) (first_constant objects cs name)
      (first_constant objects ds name))

  -- one class alone
  pub first_alone : (c : ObjId)
      → first_constant objects (c ∷ []) name ≡ constant_in (class_at objects c).constants name
  first_alone c = or_none (constant_in (class_at objects c).constants name)

  -- the first of the classes around a text
  pub first_inner : (c : ObjId) (cs : List ObjId)
      → first_constant objects (filter is_inner (c ∷ cs)) name
      ≡ option_or (inner_constant objects c name) (first_constant objects (filter is_inner cs) name)
  first_inner c cs = by (same_object c (core class.Object))
    where
      rest : Option Value
      rest = first_constant objects (filter is_inner cs) name

      by : (b : Bool) → first_constant objects (cond (not b) (c ∷ filter is_inner cs) (filter is_inner cs)) name
          ≡ option_or (if b then None else constant_in (class_at objects c).constants name) rest
      by true = refl
      by false = refl

  -- the classes around a text, the ancestors of the innermost, and Object
  pub first_path : (cs ds : List ObjId) (c : ObjId)
      → first_constant objects (cs ++ ds ++ c ∷ []) name
      ≡ option_or (first_constant objects cs name)
      (option_or (first_constant objects ds name) (constant_in (class_at objects c).constants name))
  first_path cs ds c = first-append (cs ++ ds) (c ∷ [])
      ∙ ap (λ (o : Option Value). option_or o (first_constant objects (c ∷ []) name)) (first-append cs ds)
      ∙ ap (option_or (option_or (first_constant objects cs name) (first_constant objects ds name))) (first_alone c)
      ∙ or_assoc (first_constant objects cs name) (first_constant objects ds name)
      (constant_in (class_at objects c).constants name)

-- the innermost class of a list, and those around it
pub within_next : (k : ℕ) (w : World) (n : ℕ) → 0 < k → 0 < n
    → classes_within k w n ≡ (enclosing_at w n).class ∷ classes_within (k - 1) w (enclosing_at w n).around
within_next zero w n h g = absurd (omega (arith, h))
within_next (suc k) w zero h g = absurd (omega (arith, g))
within_next (suc k) w (suc n) h g = let e : suc k - 1 ≡ k = omega arith in rw e refl

-- the innermost class of a list that has classes
pub class_inside : (w : World) (n : ℕ) → 0 < n → class_around w n ≡ (enclosing_at w n).class
class_inside w zero h = absurd (omega (arith, h))
class_inside w (suc n) h = refl

pub within_none : (k : ℕ) (w : World) → classes_within k w 0 ≡ []
within_none zero w = refl
within_none (suc k) w = refl

-- the constant of the innermost class of a list, or of those around it
pub around_next : (objects : List Object) (name : SymId) (w : World) (k n : ℕ) → 0 < k → 0 < n
    → first_constant objects (filter is_inner (classes_within k w n)) name
    ≡ option_or (inner_constant objects (enclosing_at w n).class name)
    (first_constant objects (filter is_inner (classes_within (k - 1) w (enclosing_at w n).around)) name)
around_next objects name w k n h g =
    ap (λ (cs : List ObjId). first_constant objects (filter is_inner cs) name) (within_next k w n h g)
    ∙ first_inner objects name (enclosing_at w n).class (classes_within (k - 1) w (enclosing_at w n).around)

pub around_none : (objects : List Object) (name : SymId) (w : World) (k : ℕ)
    → first_constant objects (filter is_inner (classes_within k w 0)) name ≡ None
around_none objects name w k =
    ap (λ (cs : List ObjId). first_constant objects (filter is_inner cs) name) (within_none k w)

-- Classes of lists are classes of the store.

pub object_class : (st : Store) → Sound st → Is (census st) ClassOrModule (core class.Object)
object_class st sound = lineages.core_is_class st sound class.Object refl

member_class : (k : Census) (lists : List world.Enclosing) (n : ℕ) → Is k ClassOrModule (core class.Object)
    → AreEnclosing k lists → Is k ClassOrModule (get_or lists n no_enclosing).class
member_class k [] n object all = object
member_class k (e ∷ es) zero object all = all.0
member_class k (e ∷ es) (suc n) object all = member_class k es n object all.1

-- a world with nothing but a store
abbrev pub bare : Store → World
bare st = record { store = st; globals = []; enclosing = []; activations = []; input = []; out = []; asked = false }

pub class_at_number : (st : Store) → Sound st → (lists : List world.Enclosing) (w : World) (n : ℕ)
    → AreEnclosing (census st) lists → Is (census st) ClassOrModule (enclosing_at (enclosed lists w) n).class
class_at_number st sound lists w n all = member_class (census st) lists (n - 1) (object_class st sound) all

pub class_around_is : (st : Store) → Sound st → (lists : List world.Enclosing) (w : World) (n : ℕ)
    → AreEnclosing (census st) lists → Is (census st) ClassOrModule (class_around (enclosed lists w) n)
class_around_is st sound lists w zero all = object_class st sound
class_around_is st sound lists w (suc n) all = class_at_number st sound lists w (suc n) all
