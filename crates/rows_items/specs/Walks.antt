-- The order of two Arrays, by what of the nested Arrays is still to be compared.
use Rattle.std.specs.Prelude.{◌≡◌, ℕ, zero, suc, ◌+◌, ◌<◌, List, [], ◌∷◌, ◌++◌, drop, Result, Ok}
use Rattle.std.specs.declared.cmp.Ordering.{Ordering}
use Rattle.std.specs.declared.cmp.Ordering.TheVariants.{Equal}
use Rattle.rb_value.specs.declared.value.Value.{Value}
use Rattle.rb_value.specs.declared.value.ObjId.{ObjId}
use Rattle.def_core.specs.declared.cause.Cause.{Cause}
use Rattle.def_core.specs.Store.{Store}
use Rattle.def_core.specs.Parts.{elements_at}
use Rattle.rows_items.specs.declared.order.Comparison.{Comparison}
use Rattle.rows_items.specs.declared.order.Comparison.TheVariants.{Ordered, Within, Unordered}
use Rattle.rows_items.specs.declared.order.Level.{Level}
use Rattle.rows_items.specs.declared.order.Walk.{Walk}
use Rattle.rows_items.specs.declared.order.Step.{Step}
use Rattle.rows_items.specs.declared.order.Step.TheVariants.{On, Ends}
use Rattle.rows_items.specs.Order.{compared, then_rest, lists_order, order_within}

-- what the elements from its place on tell, and then those of the levels around it, the outermost last
abbrev pub rest_of : Store → Level → Result Ordering Cause
rest_of st l = lists_order (order_within l.below st)
    (drop l.place (elements_at st.objects l.left)) (drop l.place (elements_at st.objects l.right))

abbrev pub around : Store → List Level → Result Ordering Cause
around st [] = Ok Equal
around st (l ∷ ls) = then_rest (around st ls) (rest_of st l)

abbrev pub whole : Store → Walk → Result Ordering Cause
whole st w = then_rest (rest_of st w.level) (around st w.around.items)

-- How many steps are left.

abbrev pub lists_steps : (Value → Value → ℕ) → List Value → List Value → ℕ
lists_steps steps [] [] = 1
lists_steps steps [] (w ∷ ws) = 1
lists_steps steps (v ∷ vs) [] = 1
lists_steps steps (v ∷ vs) (w ∷ ws) = suc (steps v w) + lists_steps steps vs ws

abbrev pub nested_steps : (ObjId → ObjId → ℕ) → Comparison → ℕ
nested_steps steps (Ordered o) = 0
nested_steps steps (Within a b) = steps a b
nested_steps steps Unordered = 0

unfoldable pub steps_of : ℕ → Store → Value → Value → ℕ
steps_of zero st v w = 0
steps_of (suc n) st v w = nested_steps
    (λ a b. lists_steps (steps_of n st) (elements_at st.objects a) (elements_at st.objects b)) (compared st v w)

abbrev pub level_steps : Store → Level → ℕ
level_steps st l = lists_steps (steps_of l.below st)
    (drop l.place (elements_at st.objects l.left)) (drop l.place (elements_at st.objects l.right))

abbrev pub steps_around : Store → List Level → ℕ
steps_around st [] = 0
steps_around st (l ∷ ls) = level_steps st l + steps_around st ls

abbrev pub steps : Store → Walk → ℕ
steps st w = level_steps st w.level + steps_around st w.around.items

-- What a step comes to.

-- the innermost level is the one around, or there was none
abbrev pub Leaves : Step → Walk → Walk → Type 0
Leaves On before after = before.around.items ≡ after.around.items ++ after.level ∷ []
Leaves (Ends o) before after = (before.around.items ≡ []) × (o ≡ Ok Equal)

-- two values come before all that is left
abbrev pub Passes : Store → Value → Value → Step → Walk → Walk → Type 0
Passes st v w On before after =
    (whole st after ≡ then_rest (order_within before.level.below st v w) (whole st before))
    × (steps st after ≡ steps_of before.level.below st v w + steps st before)
Passes st v w (Ends o) before after = then_rest (order_within before.level.below st v w) (whole st before) ≡ o

-- the whole stays and fewer steps are left, or it is told
abbrev pub Comes : Store → Step → Walk → Walk → Type 0
Comes st On before after = (whole st after ≡ whole st before) × (steps st after < steps st before)
Comes st (Ends o) before after = whole st before ≡ o
