-- Small facts of options, lists and truth.
use Rattle.std.proofs.Common.{◌≡◌, ℕ, suc, ◌<◌, ◌+◌, ◌^◌, List, [], ◌∷◌, refl, sym, ◌∙◌, arith}
use Rattle.std.specs.Prelude.{Bool, true, false, not, ◌&&◌, Some, None}
use Rattle.rb_value.specs.declared.value.Value.{Value}
use Rattle.rb_store.specs.Held.{Held}
use Rattle.items_laws.specs.Items.{IsValue}
use Rattle.items_laws.specs.Run.{Turn}

pub some_same : {A : Type 0} (x y : A) → Some x ≡ Some y → x ≡ y
some_same x y e = cc

pub none_some : {A : Type 0} (x : A) → None ≡ Some x → ⊥
none_some x e = cc

pub some_none : {A : Type 0} (x : A) → Some x ≡ None → ⊥
some_none x e = cc

pub not_cons : (t : Turn) (ts : List Turn) → (t ∷ ts) ≡ [] → ⊥
not_cons t ts e = cc

pub tail_same : (t u : Turn) (ts us : List Turn) → (t ∷ ts) ≡ (u ∷ us) → ts ≡ us
tail_same t u ts us e = cc

-- what isn't true

pub untrue_is : (c : Bool) → not c ≡ true → c ≡ false
untrue_is true e = absurd (cc)
untrue_is false e = refl

pub true_is : (c : Bool) → not c ≡ false → c ≡ true
true_is true e = refl
true_is false e = absurd (cc)

-- known beforehand, and not

pub and_true : (c : Bool) → (c && true) ≡ c
and_true true = refl
and_true false = refl

pub and_false : (c : Bool) → (c && false) ≡ false
and_false true = refl
and_false false = refl

pub not_both : (c : Bool) → c ≡ true → c ≡ false → ⊥
not_both true so otherwise = cc
not_both false so otherwise = cc

-- a value that is another

pub as_value : (x y r : Value) (after h : Held) → x ≡ y → IsValue h y r after → IsValue h x r after
as_value x y r after h e is = record { value = is.value ∙ sym e; left = is.left }

-- sums

pub sum_zero : (n : ℕ) → n ≡ n + 0
sum_zero n = omega arith

pub sum_more : (n k : ℕ) → n + 1 + k ≡ n + suc k
sum_more n k = omega arith

pub from_first : (k : ℕ) → k < 2 ^ 64 → 0 + k < 2 ^ 64
from_first k less = omega (arith, less)
