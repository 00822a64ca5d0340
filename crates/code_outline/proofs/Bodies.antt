-- The bounds of the children of each body.
use Rattle.std.proofs.Common.{◌≡◌, refl, sym, ap, ℕ, zero, suc, ◌+◌, ◌<◌, List, [], ◌∷◌, ◌++◌, length, get_or, take, drop, arith}
use Rattle.std.specs.Prelude.{Some, All, slice_get}
use Rattle.std.proofs.lemmas.List.Elements.{All-nil, All-cons, All-same, All-take, All-drop, All-weaker}
use Rattle.std.proofs.lemmas.List.{take_at, drop_at}
use Rattle.std.proofs.lemmas.Option.{none-some, same_Some}
use Rattle.rite_code.specs.declared.code.Irep.{Irep}
use Rattle.rite_code.specs.Code.{IsForest, none, node}
use Rattle.code_outline.specs.Laws.{IsWithin}

-- the roots of a forest are among its bodies, and so are the children of each, after it
all_left : (P : ℕ → Type 0) (xs ys : List ℕ) → All P (xs ++ ys) → All P xs
all_left P xs ys h = All-same P xs (take (length xs) (xs ++ ys)) (sym (take_at xs ys (length xs) refl))
    (All-take P (length xs) (xs ++ ys) h)

all_right : (P : ℕ → Type 0) (xs ys : List ℕ) → All P (xs ++ ys) → All P ys
all_right P xs ys h = All-same P ys (drop (length xs) (xs ++ ys)) (sym (drop_at xs ys (length xs) refl))
    (All-drop P (length xs) (xs ++ ys) h)

pub roots-within : {at : ℕ} {bs : List Irep} {roots : List ℕ} → IsForest at bs roots
    → All (IsWithin at (at + length bs)) roots
roots-within (none {at}) = All-nil (IsWithin at (at + 0))
roots-within (node {at} {b} {bs} {others} f) =
    All-cons (IsWithin at (at + length (b ∷ bs))) at others (omega arith, omega arith)
    (All-weaker (IsWithin (at + 1) (at + 1 + length bs)) (IsWithin at (at + length (b ∷ bs)))
    (λ j h. (omega (arith, h.0), omega (arith, h.1))) others
    (all_right (IsWithin (at + 1) (at + 1 + length bs)) b.children others (roots-within f)))

pub children-within : {at : ℕ} {bs : List Irep} {roots : List ℕ} (k : ℕ) (b : Irep) → IsForest at bs roots
    → slice_get bs k ≡ Some b → All (IsWithin (at + k + 1) (at + length bs)) b.children
children-within k b none e = absurd (none-some b e)
children-within zero d (node {at} {b} {bs} {others} f) e =
    let c = all_left (IsWithin (at + 1) (at + 1 + length bs)) b.children others (roots-within f) in
    All-weaker (IsWithin (at + 1) (at + 1 + length bs)) (IsWithin (at + 0 + 1) (at + length (b ∷ bs)))
    (λ j h. (omega (arith, h.0), omega (arith, h.1))) d.children
    (rw (← same_Some b d e) c)
children-within (suc k) d (node {at} {b} {bs} {others} f) e =
    All-weaker (IsWithin (at + 1 + k + 1) (at + 1 + length bs)) (IsWithin (at + suc k + 1) (at + length (b ∷ bs)))
    (λ j h. (omega (arith, h.0), omega (arith, h.1))) d.children (children-within k d f e)
