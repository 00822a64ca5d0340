-- The programs that are tried are whole: a main program alone, or with one child.
use Rattle.std.proofs.Common.{◌≡◌, refl, sym, inl, subst, ◌++◌, ◌+◌, ℕ, List, [], ◌∷◌, arith}
use Rattle.std.specs.Prelude.{◌⊎◌}
use Rattle.std.proofs.lemmas.List.Elements.{All-nil, All-cons}
use Rattle.rite_code.specs.declared.code.Irep.{Irep}
use Rattle.rite_code.specs.Code.{program, IsBody, IsForest, none, node, IsWhole}

leaf : (at : ℕ) (b : Irep) → b.children ≡ [] → IsForest at (b ∷ []) (at ∷ [])
leaf at b e =
    let P : List ℕ → Type 0 = λ roots. IsForest (at + 1) [] (roots ++ []) in
    let inner : P b.children = subst P (sym e) none in
    node inner

pub alone : (version : ℕ) (b : Irep) → (version ≡ 1) ⊎ (version ≡ 2) → IsBody version b → b.children ≡ []
    → IsWhole (program version (b ∷ []))
alone version b v x e = record {
  version = v;
  count = omega arith;
  each = All-cons (IsBody version) b [] x (All-nil (IsBody version));
  tree = leaf 0 b e;
}

pub with_child : (b c : Irep) → IsBody 1 b → IsBody 1 c → b.children ≡ 1 ∷ [] → c.children ≡ []
    → IsWhole (program 1 (b ∷ c ∷ []))
with_child b c x y e f =
    let P : List ℕ → Type 0 = λ roots. IsForest 1 (c ∷ []) (roots ++ []) in
    let inner : P b.children = subst P (sym e) (leaf 1 c f) in
    record {
      version = inl refl;
      count = omega arith;
      each = All-cons (IsBody 1) b (c ∷ []) x (All-cons (IsBody 1) c [] y (All-nil (IsBody 1)));
      tree = node inner;
    }
