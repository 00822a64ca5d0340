-- Turns with the heap once that is done to it which an item and its answer ask for.
use Rattle.std.specs.Prelude.{◌≡◌, List, [], ◌∷◌}
use Rattle.rb_value.specs.declared.value.Value.{Value}
use Rattle.rb_store.specs.Held.{Held}
use Rattle.items_laws.specs.Run.{Turn}

-- the same turns, each with a heap that is so of its item, its answer and the heap as this left it
abbrev pub Settles : {A : Type 0} → (A → Value → Held → Held → Type 0) → List A → List Turn → List Turn → Type 0
Settles Done [] [] [] = Unit {0}
Settles Done [] [] (u ∷ us) = ⊥
Settles Done [] (t ∷ ts) us = ⊥
Settles Done (x ∷ xs) [] us = ⊥
Settles Done (x ∷ xs) (t ∷ ts) [] = ⊥
Settles Done (x ∷ xs) (t ∷ ts) (u ∷ us) =
    (u ≡ record t { held = u.held }) × Done x t.answer t.held u.held × Settles Done xs ts us
