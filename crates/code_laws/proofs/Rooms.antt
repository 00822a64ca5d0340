-- The parts of a call have room within its width.
use Rattle.std.proofs.Common.{◌≡◌, ◌≤◌, ℕ, ◌+◌, List, [], ◌∷◌, ◌++◌, length, arith, subst, refl, sym, ◌∙◌, Bool, true, false, true≢false}
use Rattle.ir_core.specs.CoreForm as form
use Rattle.ir_core.specs.CoreForm.{Items}
use Rattle.ir_walk.specs.Width.{greatest, in_order, into_one, of_call, has_splat, item_widths}
use Rattle.ir_counts.specs.Tables.{item_count}
use Rattle.gen_forms.specs.declared.calls.Passing.{Passing}
use Rattle.gen_forms.specs.Gen.{registers_of as registers_for}
use Rattle.code_laws.proofs.Widths.{Under, InOrder, under_left, under_right, under_greatest, order_within, order_room, order_left, order_right}
use Rattle.code_laws.proofs.Sending.{Passes, registers, array_of, array}

-- parts that begin at the same register
abbrev pub Each : ℕ → ℕ → List ℕ → Type 0
Each R q [] = Unit
Each R q (w ∷ ws) = (q + w ≤ R) × Each R q ws

order_each : (R q r : ℕ) (ws : List ℕ) → q ≤ r → InOrder R r ws → Each R q ws
order_each R q r [] h o = tt
order_each R q r (w ∷ ws) h o = (omega (arith, h, o.0), order_each R q (r + 1) ws (omega (arith, h)) o.1)

pub under_each : (R q n : ℕ) (ws : List ℕ) → q + n ≤ R → Under n ws → Each R q ws
under_each R q n [] h u = tt
under_each R q n (w ∷ ws) h u = (omega (arith, h, u.0), under_each R q n ws h u.1)

widths_count : (is : Items) → length (item_widths is) ≡ item_count is
widths_count form.no_items = omega arith
widths_count (form.plain f is) = omega (arith, widths_count is)
widths_count (form.splat f is) = omega (arith, widths_count is)

-- the first part, the items, what comes behind them, and three registers behind the arguments
pub record HasRoom (is : Items) (p : Passing) (w : ℕ) (rest : List ℕ) (R r : ℕ) : Type 0 where
  pub first : r + w ≤ R
  pub in_order : has_splat is ≡ false → InOrder R (r + 1) (item_widths is)
  pub greatest : ℕ
  pub under : Under greatest (item_widths is)
  pub fits : has_splat is ≡ true → r + 4 + greatest ≤ R
  pub behind : Each R (r + 1 + registers_for p) rest
  pub room : r + 3 + registers_for p ≤ R
  pub count : has_splat is ≡ false → r + 1 + item_count is ≤ R

of_order : (is : Items) (w : ℕ) (rest : List ℕ) (R r : ℕ) → has_splat is ≡ false
    → r + of_call (has_splat is) (w ∷ (item_widths is ++ rest)) ≤ R
    → r + in_order (w ∷ (item_widths is ++ rest)) ≤ R
of_order is w rest R r e h = subst (λ (b : Bool). r + of_call b (w ∷ (item_widths is ++ rest)) ≤ R) e h

of_one : (is : Items) (w : ℕ) (rest : List ℕ) (R r : ℕ) → has_splat is ≡ true
    → r + of_call (has_splat is) (w ∷ (item_widths is ++ rest)) ≤ R
    → r + into_one (w ∷ (item_widths is ++ rest)) ≤ R
of_one is w rest R r e h = subst (λ (b : Bool). r + of_call b (w ∷ (item_widths is ++ rest)) ≤ R) e h

long_append : (xs ys : List ℕ) → length xs ≤ length (xs ++ ys)
long_append [] ys = omega arith
long_append (x ∷ xs) ys = omega (arith, long_append xs ys)

clash : {A : Type 0} {b : Bool} → b ≡ true → b ≡ false → A
clash e f = absurd (true≢false (sym e ∙ f))

pub has_room : (is : Items) (p : Passing) → Passes is p → (w : ℕ) (rest : List ℕ) (R r : ℕ)
    → r + of_call (has_splat is) (w ∷ (item_widths is ++ rest)) ≤ R → HasRoom is p w rest R r
has_room is p (registers e few) w rest R r h =
    let o = of_order is w rest R r e h in
    let all = order_within R r (w ∷ (item_widths is ++ rest)) o in
    let room = order_room R r (w ∷ (item_widths is ++ rest)) o in
    let long = long_append (item_widths is) rest in
    let count = widths_count is in
    record {
      first = all.0;
      in_order = λ f. order_left R (r + 1) (item_widths is) rest all.1;
      greatest = greatest (item_widths is);
      under = under_greatest 0 (item_widths is);
      fits = λ f. clash f e;
      behind = order_each R (r + 1 + item_count is) (r + 1 + length (item_widths is)) rest (omega (arith, count))
          (order_right R (r + 1) (r + 1 + length (item_widths is)) (item_widths is) rest refl all.1);
      room = omega (arith, room, long, count);
      count = λ f. omega (arith, room, long, count);
    }
has_room is p (array_of e some) w rest R r h =
    let o = of_order is w rest R r e h in
    let all = order_within R r (w ∷ (item_widths is ++ rest)) o in
    let room = order_room R r (w ∷ (item_widths is ++ rest)) o in
    let long = long_append (item_widths is) rest in
    let count = widths_count is in
    record {
      first = all.0;
      in_order = λ f. order_left R (r + 1) (item_widths is) rest all.1;
      greatest = greatest (item_widths is);
      under = under_greatest 0 (item_widths is);
      fits = λ f. clash f e;
      behind = order_each R (r + 1 + 1) (r + 1 + length (item_widths is)) rest (omega (arith, count, some))
          (order_right R (r + 1) (r + 1 + length (item_widths is)) (item_widths is) rest refl all.1);
      room = omega (arith, room, long, count, some);
      count = λ f. omega (arith, room, long, count);
    }
has_room is p (array e) w rest R r h =
    let o = of_one is w rest R r e h in
    let u = under_greatest 0 (w ∷ (item_widths is ++ rest)) in
    record {
      first = omega (arith, o, u.0);
      in_order = λ f. clash e f;
      greatest = greatest (w ∷ (item_widths is ++ rest));
      under = under_left (greatest (w ∷ (item_widths is ++ rest))) (item_widths is) rest u.1;
      fits = λ f. omega (arith, o);
      behind = under_each R (r + 1 + 1) (greatest (w ∷ (item_widths is ++ rest))) rest (omega (arith, o))
          (under_right (greatest (w ∷ (item_widths is ++ rest))) (item_widths is) rest u.1);
      room = omega (arith, o);
      count = λ f. clash e f;
    }
