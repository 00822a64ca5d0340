-- A step of a comparison of nested Arrays.
use Rattle.std.proofs.Common.{◌≡◌, ℕ, zero, suc, ◌+◌, ◌-◌, ◌<◌, List, [], ◌∷◌, ◌++◌, drop, refl, ap, sym, ◌∙◌, subst, arith}
use Rattle.std.specs.Prelude.{Some, None, slice_get, Result, Ok, Err}
use Rattle.std.specs.declared.cmp.Ordering.{Ordering}
use Rattle.std.specs.declared.cmp.Ordering.TheVariants.{Less, Equal, Greater}
use Rattle.rb_value.specs.declared.value.Value.{Value}
use Rattle.rb_value.specs.declared.value.ObjId.{ObjId}
use Rattle.def_core.specs.declared.cause.Cause.{Cause}
use Rattle.def_core.specs.declared.cause.Cause.TheVariants.{ComparisonFailed, StackTooDeep}
use Rattle.def_core.specs.Store.{Store}
use Rattle.def_core.specs.Parts.{elements_at}
use Rattle.rows_items.specs.declared.order.Comparison.TheVariants.{Ordered, Within, Unordered}
use Rattle.rows_items.specs.declared.order.Level.{Level}
use Rattle.rows_items.specs.declared.order.Walk.{Walk}
use Rattle.rows_items.specs.declared.order.Step.{Step}
use Rattle.rows_items.specs.declared.order.Step.TheVariants.{On, Ends}
use Rattle.rows_items.specs.declared.error.RowError.{RowError}
use Rattle.rows_items.specs.Told.{Told as Given}
use Rattle.rows_items.specs.Order.{compared, then_rest, lists_order, arrays_order, order_by, order_within, levels, order_of}
use Rattle.rows_items.specs.Walks.{rest_of, around, whole, lists_steps, nested_steps, steps_of, level_steps, steps_around, steps, Leaves, Passes, Comes}

abbrev Told : Type 0
Told = Result Ordering Cause

-- One after another.

pub then_equal : (x : Told) → then_rest x (Ok Equal) ≡ x
then_equal (Ok Less) = refl
then_equal (Ok Equal) = refl
then_equal (Ok Greater) = refl
then_equal (Err c) = refl

pub then_assoc : (x y z : Told) → then_rest (then_rest x y) z ≡ then_rest x (then_rest y z)
then_assoc (Ok Less) y z = refl
then_assoc (Ok Equal) y z = refl
then_assoc (Ok Greater) y z = refl
then_assoc (Err c) y z = refl

-- the innermost of the levels around is passed first
pub around_last : (st : Store) (ls : List Level) (l : Level)
    → around st (ls ++ l ∷ []) ≡ then_rest (rest_of st l) (around st ls)
around_last st [] l = sym (then_equal (rest_of st l))
around_last st (m ∷ ls) l =
    ap (λ (x : Told). then_rest x (rest_of st m)) (around_last st ls l)
    ∙ then_assoc (rest_of st l) (around st ls) (rest_of st m)

pub steps_last : (st : Store) (ls : List Level) (l : Level)
    → steps_around st (ls ++ l ∷ []) ≡ level_steps st l + steps_around st ls
steps_last st [] l = refl
steps_last st (m ∷ ls) l =
    let h = steps_last st ls l in
    omega (arith, h)

-- The next elements of a level.

none_left : {A : Type 0} (n : ℕ) → drop {A = A} n [] ≡ []
none_left zero = refl
none_left (suc n) = refl

module _ (f : Value → Value → Told) where
  pub next_order : (vs ws : List Value) (n : ℕ) (v w : Value) → slice_get vs n ≡ Some v → slice_get ws n ≡ Some w
      → lists_order f (drop n vs) (drop n ws) ≡ then_rest (f v w) (lists_order f (drop (suc n) vs) (drop (suc n) ws))
  next_order [] ws n v w e g = cc
  next_order (x ∷ vs) [] n v w e g = cc
  next_order (x ∷ vs) (y ∷ ws) zero v w e g = cc
  next_order (x ∷ vs) (y ∷ ws) (suc n) v w e g = next_order vs ws n v w e g

  pub next_order_at : (vs ws : List Value) (n : ℕ) (v w : Value) → slice_get vs n ≡ Some v → slice_get ws n ≡ Some w
      → lists_order f (drop n vs) (drop n ws) ≡ then_rest (f v w) (lists_order f (drop (n + 1) vs) (drop (n + 1) ws))
  next_order_at vs ws n v w e g =
      let m : suc n ≡ n + 1 = omega arith in
      next_order vs ws n v w e g
      ∙ ap (λ (k : ℕ). then_rest (f v w) (lists_order f (drop k vs) (drop k ws))) m

  pub left_longer : (vs ws : List Value) (n : ℕ) (v : Value) → slice_get vs n ≡ Some v → slice_get ws n ≡ None
      → lists_order f (drop n vs) (drop n ws) ≡ Ok Greater
  left_longer [] ws n v e g = cc
  left_longer (x ∷ vs) [] zero v e g = refl
  left_longer (x ∷ vs) [] (suc n) v e g = ap (lists_order f (drop n vs)) (sym (none_left n)) ∙ left_longer vs [] n v e refl
  left_longer (x ∷ vs) (y ∷ ws) zero v e g = cc
  left_longer (x ∷ vs) (y ∷ ws) (suc n) v e g = left_longer vs ws n v e g

  pub right_longer : (vs ws : List Value) (n : ℕ) (w : Value) → slice_get vs n ≡ None → slice_get ws n ≡ Some w
      → lists_order f (drop n vs) (drop n ws) ≡ Ok Less
  right_longer vs [] n w e g = cc
  right_longer [] (y ∷ ws) zero w e g = refl
  right_longer [] (y ∷ ws) (suc n) w e g =
      ap (λ (us : List Value). lists_order f us (drop n ws)) (sym (none_left n)) ∙ right_longer [] ws n w refl g
  right_longer (x ∷ vs) (y ∷ ws) zero w e g = cc
  right_longer (x ∷ vs) (y ∷ ws) (suc n) w e g = right_longer vs ws n w e g

  pub both_ended : (vs ws : List Value) (n : ℕ) → slice_get vs n ≡ None → slice_get ws n ≡ None
      → lists_order f (drop n vs) (drop n ws) ≡ Ok Equal
  both_ended [] [] zero e g = refl
  both_ended [] [] (suc n) e g = refl
  both_ended [] (y ∷ ws) zero e g = cc
  both_ended [] (y ∷ ws) (suc n) e g =
      ap (λ (us : List Value). lists_order f us (drop n ws)) (sym (none_left n)) ∙ both_ended [] ws n refl g
  both_ended (x ∷ vs) ws zero e g = cc
  both_ended (x ∷ vs) [] (suc n) e g = ap (lists_order f (drop n vs)) (sym (none_left n)) ∙ both_ended vs [] n e refl
  both_ended (x ∷ vs) (y ∷ ws) (suc n) e g = both_ended vs ws n e g

module _ (f : Value → Value → ℕ) where
  pub next_steps : (vs ws : List Value) (n : ℕ) (v w : Value) → slice_get vs n ≡ Some v → slice_get ws n ≡ Some w
      → lists_steps f (drop n vs) (drop n ws) ≡ suc (f v w) + lists_steps f (drop (suc n) vs) (drop (suc n) ws)
  next_steps [] ws n v w e g = cc
  next_steps (x ∷ vs) [] n v w e g = cc
  next_steps (x ∷ vs) (y ∷ ws) zero v w e g = cc
  next_steps (x ∷ vs) (y ∷ ws) (suc n) v w e g = next_steps vs ws n v w e g

  pub next_steps_at : (vs ws : List Value) (n : ℕ) (v w : Value) → slice_get vs n ≡ Some v → slice_get ws n ≡ Some w
      → lists_steps f (drop n vs) (drop n ws) ≡ suc (f v w) + lists_steps f (drop (n + 1) vs) (drop (n + 1) ws)
  next_steps_at vs ws n v w e g =
      let m : suc n ≡ n + 1 = omega arith in
      next_steps vs ws n v w e g ∙ ap (λ (k : ℕ). suc (f v w) + lists_steps f (drop k vs) (drop k ws)) m

  pub steps_left : (vs ws : List Value) → 0 < lists_steps f vs ws
  steps_left [] [] = omega arith
  steps_left [] (w ∷ ws) = omega arith
  steps_left (v ∷ vs) [] = omega arith
  steps_left (v ∷ vs) (w ∷ ws) = omega arith

-- With so many levels below.

order_below : (n : ℕ) (st : Store) (v w : Value) → 0 < n
    → order_within n st v w ≡ order_by (arrays_order (order_within (n - 1) st) st) (compared st v w)
unfolding order_within
order_below zero st v w h = absurd (omega (arith, h))
order_below (suc n) st v w h = let e : suc n - 1 ≡ n = omega arith in rw e refl

steps_below : (n : ℕ) (st : Store) (v w : Value) → 0 < n
    → steps_of n st v w ≡ nested_steps
    (λ a b. lists_steps (steps_of (n - 1) st) (elements_at st.objects a) (elements_at st.objects b)) (compared st v w)
unfolding steps_of
steps_below zero st v w h = absurd (omega (arith, h))
steps_below (suc n) st v w h = let e : suc n - 1 ≡ n = omega arith in rw e refl

-- values that aren't both Arrays tell at once
flat_order : (n : ℕ) (st : Store) (v w : Value) (o : Ordering) → compared st v w ≡ Ordered o
    → order_within n st v w ≡ Ok o
unfolding order_within
flat_order zero st v w o e = ap (order_by (λ a b. Err StackTooDeep)) e
flat_order (suc n) st v w o e = ap (order_by (arrays_order (order_within n st) st)) e

no_order : (n : ℕ) (st : Store) (v w : Value) → compared st v w ≡ Unordered
    → order_within n st v w ≡ Err ComparisonFailed
unfolding order_within
no_order zero st v w e = ap (order_by (λ a b. Err StackTooDeep)) e
no_order (suc n) st v w e = ap (order_by (arrays_order (order_within n st) st)) e

too_deep : (n : ℕ) (st : Store) (v w : Value) (a b : ObjId) → n ≡ 0 → compared st v w ≡ Within a b
    → order_within n st v w ≡ Err StackTooDeep
unfolding order_within
too_deep zero st v w a b h e = ap (order_by (λ a b. Err StackTooDeep)) e
too_deep (suc n) st v w a b h e = absurd (omega (arith, h))

flat_steps : (n : ℕ) (st : Store) (v w : Value) (o : Ordering) → compared st v w ≡ Ordered o → steps_of n st v w ≡ 0
unfolding steps_of
flat_steps zero st v w o e = refl
flat_steps (suc n) st v w o e =
    ap (nested_steps (λ a b. lists_steps (steps_of n st) (elements_at st.objects a) (elements_at st.objects b))) e

module _ (st : Store) where
  -- two values that are equal are passed
  pub passed_equal : (v w : Value) (k : Walk) → compared st v w ≡ Ordered Equal → Passes st v w On k k
  passed_equal v w k e =
      let o = flat_order k.level.below st v w Equal e in
      let n = flat_steps k.level.below st v w Equal e in (
        sym (ap (λ (x : Told). then_rest x (whole st k)) o),
        omega (arith, n),
      )

  pub passed_less : (v w : Value) (k : Walk) → compared st v w ≡ Ordered Less → Passes st v w (Ends (Ok Less)) k k
  passed_less v w k e = ap (λ (x : Told). then_rest x (whole st k)) (flat_order k.level.below st v w Less e)

  pub passed_greater : (v w : Value) (k : Walk) → compared st v w ≡ Ordered Greater
      → Passes st v w (Ends (Ok Greater)) k k
  passed_greater v w k e = ap (λ (x : Told). then_rest x (whole st k)) (flat_order k.level.below st v w Greater e)

  pub passed_unordered : (v w : Value) (k : Walk) → compared st v w ≡ Unordered
      → Passes st v w (Ends (Err ComparisonFailed)) k k
  passed_unordered v w k e = ap (λ (x : Told). then_rest x (whole st k)) (no_order k.level.below st v w e)

  pub passed_deep : (v w : Value) (a b : ObjId) (k : Walk) → compared st v w ≡ Within a b → k.level.below ≡ 0
      → Passes st v w (Ends (Err StackTooDeep)) k k
  passed_deep v w a b k e h = ap (λ (x : Told). then_rest x (whole st k)) (too_deep k.level.below st v w a b h e)

  -- the elements of two Arrays come next
  abbrev pub inner : ObjId → ObjId → Level → Level
  inner a b l = record { left = a; right = b; place = 0; below = l.below - 1 }

  pub entered : (v w : Value) (a b : ObjId) (k u : Walk) → compared st v w ≡ Within a b → 0 < k.level.below
      → u.level ≡ inner a b k.level → u.around.items ≡ k.around.items ++ k.level ∷ [] → Passes st v w On k u
  entered v w a b k u e h level outer =
      let order = order_below k.level.below st v w h
      ∙ ap (order_by (arrays_order (order_within (k.level.below - 1) st) st)) e in
      let left = steps_below k.level.below st v w h
      ∙ ap (nested_steps (λ a b. lists_steps (steps_of (k.level.below - 1) st)
      (elements_at st.objects a) (elements_at st.objects b))) e in
      let all : whole st u ≡ then_rest (rest_of st (inner a b k.level)) (whole st k) =
      ap (λ (l : Level). then_rest (rest_of st l) (around st u.around.items)) level
      ∙ ap (λ (ls : List Level). then_rest (rest_of st (inner a b k.level)) (around st ls)) outer
      ∙ ap (then_rest (rest_of st (inner a b k.level))) (around_last st k.around.items k.level) in
      let count : steps st u ≡ level_steps st (inner a b k.level) + steps st k =
      ap (λ (l : Level). level_steps st l + steps_around st u.around.items) level
      ∙ ap (λ (ls : List Level). level_steps st (inner a b k.level) + steps_around st ls) outer
      ∙ ap (λ (n : ℕ). level_steps st (inner a b k.level) + n) (steps_last st k.around.items k.level) in (
        all ∙ sym (ap (λ (x : Told). then_rest x (whole st k)) order),
        count ∙ sym (ap (λ (n : ℕ). n + steps st k) left),
      )

  -- where no elements are left the level around comes next
  ended : (l : Level) → slice_get (elements_at st.objects l.left) l.place ≡ None
      → slice_get (elements_at st.objects l.right) l.place ≡ None → rest_of st l ≡ Ok Equal
  ended l e g = both_ended (order_within l.below st) (elements_at st.objects l.left) (elements_at st.objects l.right)
      l.place e g

  pub left_comes : (s : Step) (k u : Walk) → slice_get (elements_at st.objects k.level.left) k.level.place ≡ None
      → slice_get (elements_at st.objects k.level.right) k.level.place ≡ None → Leaves s k u → Comes st s k u
  left_comes On k u e g left =
      let now = ended k.level e g in
      let some = steps_left (steps_of k.level.below st) (drop k.level.place (elements_at st.objects k.level.left))
      (drop k.level.place (elements_at st.objects k.level.right)) in
      let more = ap (steps_around st) left ∙ steps_last st u.around.items u.level in (
        sym (ap (λ (x : Told). then_rest x (around st k.around.items)) now
            ∙ ap (around st) left ∙ around_last st u.around.items u.level),
        omega (arith, some, more),
      )
  left_comes (Ends o) k u e g left =
      ap (λ (x : Told). then_rest x (around st k.around.items)) (ended k.level e g)
      ∙ ap (around st) left.0 ∙ sym left.1

  -- the next elements are passed
  abbrev pub forward : Walk → Walk
  forward k = record k { level = record k.level { place = k.level.place + 1 } }

  pub passed_comes : (s : Step) (k u : Walk) (v w : Value)
      → slice_get (elements_at st.objects k.level.left) k.level.place ≡ Some v
      → slice_get (elements_at st.objects k.level.right) k.level.place ≡ Some w
      → Passes st v w s (forward k) u → Comes st s k u
  passed_comes s k u v w e g passes = by s passes
    where
      vs : List Value
      vs = elements_at st.objects k.level.left

      ws : List Value
      ws = elements_at st.objects k.level.right

      all : whole st k ≡ then_rest (order_within k.level.below st v w) (whole st (forward k))
      all = ap (λ (x : Told). then_rest x (around st k.around.items))
          (next_order_at (order_within k.level.below st) vs ws k.level.place v w e g)
          ∙ then_assoc (order_within k.level.below st v w) (rest_of st (forward k).level) (around st k.around.items)

      count : steps st k ≡ suc (steps_of k.level.below st v w) + steps st (forward k)
      count =
          let n = next_steps_at (steps_of k.level.below st) vs ws k.level.place v w e g in
          omega (arith, n)

      by : (s : Step) → Passes st v w s (forward k) u → Comes st s k u
      by On p = let n = p.1 in (p.0 ∙ sym all, omega (arith, n, count))
      by (Ends o) p = all ∙ p

  pub left_greater : (k : Walk) (v : Value) → slice_get (elements_at st.objects k.level.left) k.level.place ≡ Some v
      → slice_get (elements_at st.objects k.level.right) k.level.place ≡ None → Comes st (Ends (Ok Greater)) k k
  left_greater k v e g = ap (λ (x : Told). then_rest x (around st k.around.items))
      (left_longer (order_within k.level.below st) (elements_at st.objects k.level.left)
      (elements_at st.objects k.level.right) k.level.place v e g)

  pub left_less : (k : Walk) (w : Value) → slice_get (elements_at st.objects k.level.left) k.level.place ≡ None
      → slice_get (elements_at st.objects k.level.right) k.level.place ≡ Some w → Comes st (Ends (Ok Less)) k k
  left_less k w e g = ap (λ (x : Told). then_rest x (around st k.around.items))
      (right_longer (order_within k.level.below st) (elements_at st.objects k.level.left)
      (elements_at st.objects k.level.right) k.level.place w e g)

-- The order of two values.

module _ (st : Store) (v w : Value) where
  pub at_once : (o : Ordering) → compared st v w ≡ Ordered o → order_of st v w ≡ Ok o
  at_once o e = flat_order levels st v w o e

  pub unordered : compared st v w ≡ Unordered → order_of st v w ≡ Err ComparisonFailed
  unordered e = no_order levels st v w e

  below_top : levels - 1 ≡ 9999
  unfolding levels
  below_top = refl

  top_above : 0 < levels
  unfolding levels
  top_above = omega arith

  pub by_elements : (a b : ObjId) (r : Result Ordering RowError) → compared st v w ≡ Within a b
      → Given r (arrays_order (order_within 9999 st) st a b) → Given r (order_of st v w)
  by_elements a b r e h =
      let all : order_of st v w ≡ arrays_order (order_within 9999 st) st a b =
      order_below levels st v w top_above
      ∙ ap (order_by (arrays_order (order_within (levels - 1) st) st)) e
      ∙ ap (λ (n : ℕ). arrays_order (order_within n st) st a b) below_top in
      subst (Given r) (sym all) h
