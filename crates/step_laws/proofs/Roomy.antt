-- The registers that a call may use, and its arguments, however they are passed.
use Rattle.std.proofs.Common.{◌≡◌, ◌<◌, ◌≤◌, ℕ, zero, suc, ◌+◌, List, [], ◌∷◌, ◌++◌, length, length-append, arith, refl, sym, ap, subst, Bool, true, false, true≢false}
use Rattle.std.specs.Prelude.{nat_lt, Option}
use Rattle.rite_code.specs.declared.operation.Operation.TheVariants as op
use Rattle.ir_core.specs.CoreForm as form
use Rattle.ir_core.specs.CoreForm.{Items}
use Rattle.ir_counts.specs.Tables.{item_count}
use Rattle.ir_walk.specs.Width.{has_splat, greatest, in_order, of_call, item_widths}
use Rattle.gen_parts.specs.declared.line.Line.TheVariants as line
use Rattle.gen_parts.specs.declared.emitter.Spot.{Spot}
use Rattle.gen_parts.specs.Pieces.{does}
use Rattle.gen_forms.specs.declared.context.Loop.{Loop}
use Rattle.gen_forms.specs.declared.calls.Passing.{Passing}
use Rattle.gen_forms.specs.Gen.{gather, pass_in_registers, passing, passed_by, registers_of}
use Rattle.code_laws.proofs.Widths.{Under, InOrder, under_left, under_greatest, order_within, order_room, order_left, order_right, into_within}
use Rattle.def_eval.specs.Source.{over_items, how_many}
use Rattle.step_laws.specs.Site.{Site, within, Room}
use Rattle.step_laws.specs.Passed.{Passed, arguments_code}
use Rattle.step_laws.specs.Covers.{past_new, CoversItems, CoversElements}
use Rattle.step_laws.proofs.Passing.{HowPassed, in_registers, in_array_of, gathered_all, how_passed}
use Rattle.step_laws.proofs.Children.{Settled, settled_first, settled_line}

call_room : (t : Bool) (registers r : ℕ) (ws : List ℕ) → r + of_call t ws ≤ registers → r + 3 ≤ registers
call_room true registers r ws w = let p = into_within registers r ws w in omega (arith, p)
call_room false registers r ws w = let p = order_room registers r ws w in omega (arith, p)

-- what is called
pub first_fits : (t : Bool) (registers r v : ℕ) (ws : List ℕ) → r + of_call t (v ∷ ws) ≤ registers → r + v ≤ registers
first_fits true registers r v ws w =
    let p = into_within registers r (v ∷ ws) w in
    let u = under_greatest 0 (v ∷ ws) in
    omega (arith, p, u.0)
first_fits false registers r v ws w = (order_within registers r (v ∷ ws) w).0

items_long : (is : Items) → length (item_widths is) ≡ item_count is
items_long form.no_items = refl
items_long (form.plain e is) = let e = items_long is in omega (arith, e)
items_long (form.splat e is) = let e = items_long is in omega (arith, e)

some_of_many : (n : ℕ) → nat_lt 253 n ≡ true → 1 ≤ n
some_of_many zero e = absurd (true≢false (sym e))
some_of_many (suc n) e = omega arith

module _ (is : Items) (registers r v : ℕ) (vs : List ℕ) (w : r + of_call (has_splat is) ((v ∷ item_widths is) ++ vs) ≤ registers)
  where
    in_turn_fit : has_splat is ≡ false → InOrder registers (r + 1) (item_widths is ++ vs)
    in_turn_fit e =
        let wide : r + in_order ((v ∷ item_widths is) ++ vs) ≤ registers =
        subst (λ (t : Bool). r + of_call t ((v ∷ item_widths is) ++ vs) ≤ registers) e w in
        (order_within registers r ((v ∷ item_widths is) ++ vs) wide).1

    -- items one a register
    pub items_fit : has_splat is ≡ false → InOrder registers (r + 1) (item_widths is)
    items_fit e = order_left registers (r + 1) (item_widths is) vs (in_turn_fit e)

    abbrev most : ℕ
    most = greatest ((v ∷ item_widths is) ++ vs)

    -- and those that are gathered
    elements_fit : has_splat is ≡ true → Under most (item_widths is) × (r + 4 + most ≤ registers)
    elements_fit e =
        let ws = (v ∷ item_widths is) ++ vs in (
          (under_left most (v ∷ item_widths is) vs (under_greatest 0 ws)).1,
          into_within registers r ws (subst (λ (t : Bool). r + of_call t ws ≤ registers) e w),
        )

-- what stands behind items one a register
pub last_room : (is : Items) (registers r v : ℕ) → r + of_call (has_splat is) ((v ∷ item_widths is) ++ []) ≤ registers
    → has_splat is ≡ false → r + 1 + item_count is + 3 ≤ registers
last_room is registers r v w unspread =
    let ws = (v ∷ item_widths is) ++ [] in
    let wide : r + in_order ws ≤ registers = subst (λ (t : Bool). r + of_call t ws ≤ registers) unspread w in
    omega (arith, order_room registers r ws wide, length-append (v ∷ item_widths is) [], items_long is)

-- the block
pub block_fits : (is : Items) (g : Passing) → HowPassed is g → (registers r v b : ℕ)
    → r + of_call (has_splat is) ((v ∷ item_widths is) ++ b ∷ []) ≤ registers → r + 1 + registers_of g + b ≤ registers
block_fits is g (in_registers e unspread few) registers r v b w =
    let last = (order_right registers (r + 1) (r + 1 + item_count is) (item_widths is) (b ∷ [])
    (omega (arith, items_long is)) (in_turn_fit is registers r v (b ∷ []) w unspread)).0 in
    omega (arith, ap registers_of e, last)
block_fits is g (in_array_of e unspread many) registers r v b w =
    let last = (order_right registers (r + 1) (r + 1 + item_count is) (item_widths is) (b ∷ [])
    (omega (arith, items_long is)) (in_turn_fit is registers r v (b ∷ []) w unspread)).0 in
    omega (arith, ap registers_of e, last, some_of_many (item_count is) many)
block_fits is g (gathered_all e spreads) registers r v b w =
    let ws = (v ∷ item_widths is) ++ b ∷ [] in
    let p = into_within registers r ws (subst (λ (t : Bool). r + of_call t ws ≤ registers) spreads w) in
    let u = last_under (greatest ws) (v ∷ item_widths is) b (under_greatest 0 ws) in
    omega (arith, ap registers_of e, p, u)
  where
    last_under : (n : ℕ) (us : List ℕ) (z : ℕ) → Under n (us ++ z ∷ []) → z ≤ n
    last_under n [] z u = u.0
    last_under n (x ∷ us) z u = last_under n us z u.1

-- What is asked of arguments that are passed so.
module _ (h : Site) (is : Items) (o : Option Loop) (r : ℕ) (s : Spot) (j : ℕ) where
  abbrev k : ℕ
  k = over_items how_many is

  abbrev pub SettledBy : Passing → Type 0
  SettledBy q = Settled h s j k
      (passed_by q (λ d u l. pass_in_registers d u l is) (λ d u l. gather d u l is) (within h o) s r)

  abbrev pub Asked : Passing → Type 0
  Asked q = Passed q (Room h (r + 1)) (CoversItems h o (r + 1) s j is)
      (CoversElements h o (r + 1) (past_new (r + 1) s) j is)

  passed_cover : (g : Passing) → HowPassed is g → Room h (r + 1)
      → (has_splat is ≡ false → Settled h s j (over_items how_many is) (pass_in_registers (within h o) s (r + 1) is)
      → CoversItems h o (r + 1) s j is)
      → (has_splat is ≡ true
      → Settled h (past_new (r + 1) s) j (over_items how_many is) (gather (within h o) (past_new (r + 1) s) (r + 1) is)
      → CoversElements h o (r + 1) (past_new (r + 1) s) j is) → SettledBy g → Asked g
  passed_cover g (in_registers e unspread few) room items elements y =
      subst Asked (sym e) (items unspread (subst SettledBy e y))
  passed_cover g (in_array_of e unspread many) room items elements y =
      subst Asked (sym e) (
        room,
        items unspread (settled_first h s j k k (pass_in_registers (within h o) s (r + 1) is)
            (does (op.Array (r + 1) (item_count is))) (omega arith) (subst SettledBy e y)),
      )
  passed_cover g (gathered_all e spreads) room items elements y =
      subst Asked (sym e) (
        room,
        elements spreads (settled_line h s j k (line.Does (op.Array (r + 1) 0))
            (gather (within h o) (past_new (r + 1) s) (r + 1) is) (subst SettledBy e y)),
      )

-- The register of what is called and the arguments, by how their forms are covered.
pub call_cover : (h : Site) (is : Items) (registers r v : ℕ) (vs : List ℕ)
    → r + of_call (has_splat is) ((v ∷ item_widths is) ++ vs) ≤ registers
    → ((q : ℕ) → h.first ≤ q → q < registers → Room h q) → h.first ≤ r → (o : Option Loop) (s : Spot) (j : ℕ)
    → (has_splat is ≡ false → InOrder registers (r + 1) (item_widths is) → h.first ≤ r + 1
    → Settled h s j (over_items how_many is) (pass_in_registers (within h o) s (r + 1) is)
    → CoversItems h o (r + 1) s j is)
    → ((n : ℕ) → Under n (item_widths is) → r + 1 + 1 + n ≤ registers → h.first ≤ r + 1
    → Settled h (past_new (r + 1) s) j (over_items how_many is) (gather (within h o) (past_new (r + 1) s) (r + 1) is)
    → CoversElements h o (r + 1) (past_new (r + 1) s) j is)
    → Settled h s j (over_items how_many is) (arguments_code (within h o) s r is)
    → Room h r × Passed (passing is) (Room h (r + 1)) (CoversItems h o (r + 1) s j is)
    (CoversElements h o (r + 1) (past_new (r + 1) s) j is)
call_cover h is registers r v vs w room low o s j items elements y =
    let few = call_room (has_splat is) registers r ((v ∷ item_widths is) ++ vs) w in
    let low' : h.first ≤ r + 1 = omega (arith, low) in (
      room r low (omega (arith, few)),
      passed_cover h is o r s j (passing is) (how_passed is) (room (r + 1) low' (omega (arith, few)))
          (λ one u. items one (items_fit is registers r v vs w one) low' u)
          (λ some u. let fit = elements_fit is registers r v vs w some in
          elements (most is registers r v vs w) fit.0 (omega (arith, fit.1)) low' u) y,
    )
