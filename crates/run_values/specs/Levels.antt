-- The parts of a key that is an Array, by what of the nested Arrays is still to be passed.
use Rattle.std.specs.Prelude.{◌≡◌, ℕ, zero, suc, ◌+◌, ◌<◌, List, [], ◌∷◌, ◌++◌, drop, Option, Some, None}
use Rattle.rb_value.specs.declared.value.Value.{Value}
use Rattle.rb_value.specs.declared.key.KeyPart.{KeyPart}
use Rattle.rb_value.specs.Object.{Object}
use Rattle.def_core.specs.Bind.{elements_in}
use Rattle.def_core.specs.Parts.{elements_at}
use Rattle.def_core.specs.Sound.{Census, Is, Array, AllAre, SoundPart}
use Rattle.def_calls.specs.Values.{joined, all_parts, parts_of}
use Rattle.run_values.specs.declared.key_parts.Level.{Level}
use Rattle.run_values.specs.declared.key_parts.Walk.{Walk}
use Rattle.run_values.specs.declared.key_parts.Step.{Step}
use Rattle.run_values.specs.declared.key_parts.Step.TheVariants.{On, End, TooDeep}

-- the parts of an element with so many levels of Arrays: none where there is no level
abbrev pub parts_within : ℕ → List Object → Value → Option (List KeyPart)
parts_within zero objects v = None
parts_within (suc n) objects v = parts_of n objects v

-- those of the elements that are left of a level
abbrev pub rest_of : List Object → Level → Option (List KeyPart)
rest_of objects l = all_parts (parts_within l.below objects) (drop l.at (elements_at objects l.id))

-- those of the levels around it, the outermost first, which come after it
abbrev pub around : List Object → List Level → Option (List KeyPart)
around objects [] = Some []
around objects (l ∷ ls) = joined (around objects ls) (rest_of objects l)

-- How many steps are left.

abbrev pub all_steps : (Value → ℕ) → List Value → ℕ
all_steps steps [] = 1
all_steps steps (v ∷ vs) = suc (steps v) + all_steps steps vs

abbrev pub nested_steps : (Value → ℕ) → Option (List Value) → ℕ
nested_steps steps None = 0
nested_steps steps (Some vs) = all_steps steps vs

unfoldable pub steps_of : ℕ → List Object → Value → ℕ
steps_of zero objects v = 0
steps_of (suc n) objects v = nested_steps (λ u. steps_of n objects u) (elements_in objects v)

abbrev pub level_steps : List Object → Level → ℕ
level_steps objects l = all_steps (steps_of l.below objects) (drop l.at (elements_at objects l.id))

abbrev pub steps_around : List Object → List Level → ℕ
steps_around objects [] = 0
steps_around objects (l ∷ ls) = level_steps objects l + steps_around objects ls

-- each of these levels is of an Array of the store
abbrev pub IsLevel : Census → Level → Type 0
IsLevel k l = Is k Array l.id

-- Walks.

-- the parts that were passed, and those that are left
abbrev pub whole : List Object → Walk → Option (List KeyPart)
whole objects w = joined (Some w.parts.items) (joined (rest_of objects w.level) (around objects w.around.items))

abbrev pub steps : List Object → Walk → ℕ
steps objects w = level_steps objects w.level + steps_around objects w.around.items

-- the walk is along Arrays of the store, and has parts of it
pub record IsWalk (k : Census) (w : Walk) : Type 0 where
  pub parts : AllAre (SoundPart k) w.parts.items
  pub level : IsLevel k w.level
  pub around : AllAre (IsLevel k) w.around.items

-- the innermost level is the one around, or there was none
abbrev pub Leaves : Step → Walk → Walk → Type 0
Leaves On before after = (before.around.items ≡ after.around.items ++ after.level ∷ [])
    × (after.parts.items ≡ before.parts.items)
Leaves End before after = (before.around.items ≡ []) × (after.around.items ≡ []) × (after.level ≡ before.level)
    × (after.parts.items ≡ before.parts.items)
Leaves TooDeep before after = ⊥

-- what a step tells of the whole: it stays and fewer steps are left, it is the parts that were passed, or there is none
abbrev pub Comes : List Object → Step → Walk → Walk → Type 0
Comes objects On before after = (whole objects after ≡ whole objects before)
    × (steps objects after < steps objects before)
Comes objects End before after = whole objects before ≡ Some after.parts.items
Comes objects TooDeep before after = whole objects before ≡ None
