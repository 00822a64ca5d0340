-- Parts of a form within its width.
use Rattle.std.proofs.Common.{◌≡◌, ◌<◌, ◌≤◌, ℕ, ◌+◌, max, List, [], ◌∷◌, ◌++◌, length, arith, subst}
use Rattle.ir_walk.specs.Width.{greatest_of, greatest, behind, in_order, into_one, in_turn}

-- numbers that aren't greater
abbrev pub Under : ℕ → List ℕ → Type 0
Under n [] = Unit
Under n (w ∷ ws) = (w ≤ n) × Under n ws

-- parts of which each begins a register after the one before, within so many registers
abbrev pub InOrder : ℕ → ℕ → List ℕ → Type 0
InOrder registers r [] = Unit
InOrder registers r (w ∷ ws) = (r + w ≤ registers) × InOrder registers (r + 1) ws

pub under_more : (m n : ℕ) (ws : List ℕ) → m ≤ n → Under m ws → Under n ws
under_more m n [] h u = tt
under_more m n (w ∷ ws) h u = (omega (arith, h, u.0), under_more m n ws h u.1)

pub under_left : (n : ℕ) (ws vs : List ℕ) → Under n (ws ++ vs) → Under n ws
under_left n [] vs u = tt
under_left n (w ∷ ws) vs u = (u.0, under_left n ws vs u.1)

pub under_right : (n : ℕ) (ws vs : List ℕ) → Under n (ws ++ vs) → Under n vs
under_right n [] vs u = u
under_right n (w ∷ ws) vs u = under_right n ws vs u.1

pub greatest_least : (n : ℕ) (ws : List ℕ) → n ≤ greatest_of n ws
greatest_least n [] = omega arith
greatest_least n (w ∷ ws) = let h = greatest_least (max n w) ws in omega (arith, h)

pub under_greatest : (n : ℕ) (ws : List ℕ) → Under (greatest_of n ws) ws
under_greatest n [] = tt
under_greatest n (w ∷ ws) =
    let h = greatest_least (max n w) ws in (omega (arith, h), under_greatest (max n w) ws)

behind_most : (most j : ℕ) (ws : List ℕ) → most ≤ behind most j ws
behind_most most j [] = omega arith
behind_most most j (w ∷ ws) = let h = behind_most (max most (j + w)) (j + 1) ws in omega (arith, h)

pub behind_count : (most j : ℕ) (ws : List ℕ) → j + length ws + 3 ≤ behind most j ws
behind_count most j [] = omega arith
behind_count most j (w ∷ ws) = let h = behind_count (max most (j + w)) (j + 1) ws in omega (arith, h)

pub order_some : (ws : List ℕ) → 0 < in_order ws
order_some ws = let h = behind_count 0 0 ws in omega (arith, h)

behind_order : (registers base most j r : ℕ) (ws : List ℕ) → r ≡ base + j → base + behind most j ws ≤ registers
    → InOrder registers r ws
behind_order registers base most j r [] e h = tt
behind_order registers base most j r (w ∷ ws) e h =
    let k = behind_most (max most (j + w)) (j + 1) ws in (
      omega (arith, e, h, k),
      behind_order registers base (max most (j + w)) (j + 1) (r + 1) ws (omega (arith, e)) h,
    )

pub order_within : (registers r : ℕ) (ws : List ℕ) → r + in_order ws ≤ registers → InOrder registers r ws
order_within registers r ws h = behind_order registers r 0 0 r ws (omega arith) h

pub order_room : (registers r : ℕ) (ws : List ℕ) → r + in_order ws ≤ registers → r + length ws + 3 ≤ registers
order_room registers r ws h = let k = behind_count 0 0 ws in omega (arith, h, k)

pub order_left : (registers r : ℕ) (ws vs : List ℕ) → InOrder registers r (ws ++ vs) → InOrder registers r ws
order_left registers r [] vs h = tt
order_left registers r (w ∷ ws) vs h = (h.0, order_left registers (r + 1) ws vs h.1)

pub order_right : (registers r q : ℕ) (ws vs : List ℕ) → q ≡ r + length ws → InOrder registers r (ws ++ vs)
    → InOrder registers q vs
order_right registers r q [] vs e h = subst (λ (n : ℕ). InOrder registers n vs) (omega (arith, e)) h
order_right registers r q (w ∷ ws) vs e h = order_right registers (r + 1) q ws vs (omega (arith, e)) h.1

-- parts that go into one, and parts that come in turn
pub into_within : (registers r : ℕ) (ws : List ℕ) → r + into_one ws ≤ registers → r + 4 + greatest ws ≤ registers
into_within registers r ws h = omega (arith, h)

pub turn_within : (registers r : ℕ) (ws : List ℕ) → r + in_turn ws ≤ registers
    → (r + 2 + greatest ws ≤ registers) × (r + 5 ≤ registers)
turn_within registers r ws h = (omega (arith, h), omega (arith, h))
