-- Plain lists of items and of the answers to them.
use Rattle.std.specs.Prelude.{ℕ, ◌+◌, ◌-◌, ◌^◌, pos, min, List, [], ◌∷◌, ◌++◌, map, not, Bool, true, false, if◌then◌else◌}
use Rattle.rb_value.specs.declared.value.Value.{Value}
use Rattle.rb_value.specs.declared.value.Value.TheVariants.{Nil, Int}
use Rattle.rb_value.specs.Value.{is_true}
use Rattle.def_core.specs.Bind.{elements_in}
use Rattle.rb_store.specs.Held.{one_more}
use Rattle.iter_items.specs.Hearing.{flat}
use Rattle.items_laws.specs.Run.{Turn}

-- Values that a block is called with.

-- each item alone
abbrev pub alone : List Value → List (List Value)
alone xs = map (λ x. x ∷ []) xs

-- with the number of its place, which stays at the greatest that there is
abbrev pub with_places : ℕ → List Value → List (List Value)
with_places n [] = []
with_places n (x ∷ xs) = (x ∷ Int (pos (min n (2 ^ 63 - 1))) ∷ []) ∷ with_places (one_more n) xs

-- with the same object
abbrev pub with_object : Value → List Value → List (List Value)
with_object v xs = map (λ x. x ∷ v ∷ []) xs

-- each behind what came of those before
abbrev pub in_turn : List Value → List Value → List (List Value)
in_turn [] xs = []
in_turn (v ∷ vs) [] = []
in_turn (v ∷ vs) (x ∷ xs) = (v ∷ x ∷ []) ∷ in_turn vs xs

-- What comes of items and answers.

-- an answer that isn't true
abbrev pub is_untrue : Value → Bool
is_untrue a = not (is_true a)

-- the items whose answers pass
abbrev pub picked : (Value → Bool) → List Value → List Value → List Value
picked test [] us = []
picked test (x ∷ xs) [] = []
picked test (x ∷ xs) (a ∷ us) = if test a then x ∷ picked test xs us else picked test xs us

-- the items before the first whose answer doesn't
abbrev pub picked_while : (Value → Bool) → List Value → List Value → List Value
picked_while test [] us = []
picked_while test (x ∷ xs) [] = []
picked_while test (x ∷ xs) (a ∷ us) = if test a then x ∷ picked_while test xs us else []

-- the first of them, or nil
abbrev pub first_or_nil : List Value → Value
first_or_nil [] = Nil
first_or_nil (x ∷ xs) = x

-- the last one
abbrev pub last_of : Value → List Value → Value
last_of v [] = v
last_of v (x ∷ xs) = last_of x xs

-- the place of the first answer that passes, as an Integer; nil where there is none
abbrev pub place_from : ℕ → (Value → Bool) → List Value → Value
place_from n test [] = Nil
place_from n test (a ∷ us) = if test a then Int (pos n) else place_from (n + 1) test us

-- how many pass, from a number on
abbrev pub counted_from : ℕ → (Value → Bool) → List Value → ℕ
counted_from n test [] = n
counted_from n test (a ∷ us) = if test a then counted_from (n + 1) test us else counted_from n test us

-- whether any passes
abbrev pub any_of : (Value → Bool) → List Value → Bool
any_of test [] = false
any_of test (a ∷ us) = if test a then true else any_of test us

-- the elements of each answer that was an Array then, and each other answer
abbrev pub flattened : List Turn → List Value
flattened [] = []
flattened (t ∷ ts) = flat t.answer (elements_in t.held.store.objects t.answer) ++ flattened ts
