-- How a value stands to others, by what it replies to `<=>`.
use Rattle.std.specs.Prelude.{◌≡◌, ℤ, pos, ◌<ℤ◌, ◌≤ℤ◌, List, [], ◌∷◌, ◌++◌, codes, false}
use Rattle.rb_value.specs.declared.value.Value.{Value}
use Rattle.rb_value.specs.declared.value.Value.TheVariants.{True, False, Int}
use Rattle.rb_store.specs.Held.{Held}
use Rattle.items_laws.specs.Run.{Turn}
use Rattle.items_laws.specs.Asked.{Replies, symbol, with_symbol}

-- whether a reply is 0
pub record IsZero (v reply : Value) : Type 0 where
  pub so : reply ≡ Int (pos 0) → v ≡ True
  pub otherwise : (reply ≡ Int (pos 0) → ⊥) → v ≡ False

-- a value replies with an Integer how it stands to another
abbrev pub Ranks : Held → Value → Value → List Turn → ℤ → Held → Type 0
Ranks held x y ts z after =
    Replies false (symbol (codes "<=>") held) (with_symbol (codes "<=>") held) x (y ∷ []) ts (Int z) after

-- A value is below another; or it isn't, and is at most a second one, or above that: one of three values comes of it.
pub data IsPlaced (held : Held) (x low high below within above : Value) : List Turn → Value → Held → Type 0 where
  is_below : (after : Held) (z : ℤ) (ts : List Turn) → Ranks held x low ts z after → z <ℤ pos 0
      → IsPlaced held x low high below within above ts below after
  is_within : (k after : Held) (z w : ℤ) (us ts : List Turn) → Ranks held x low us z k → pos 0 ≤ℤ z
      → Ranks k x high ts w after → w ≤ℤ pos 0
      → IsPlaced held x low high below within above (us ++ ts) within after
  is_above : (k after : Held) (z w : ℤ) (us ts : List Turn) → Ranks held x low us z k → pos 0 ≤ℤ z
      → Ranks k x high ts w after → pos 0 <ℤ w
      → IsPlaced held x low high below within above (us ++ ts) above after
