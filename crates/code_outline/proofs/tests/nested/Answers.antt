use Rattle.std.proofs.Common.{◌≡◌, refl, sym, ap, ◌∙◌, inr, subst, ◌++◌, ℕ, List, [], ◌∷◌, arith}
use Rattle.std.proofs.lemmas.List.Elements.{All-nil, All-cons}
use Rattle.rite_code.specs.declared.code.Irep.{Irep}
use Rattle.rite_code.specs.Code.{program, IsBody, IsForest, none, node, IsWhole}
use Rattle.code_outline.proofs.tests.nested.Goals as goal

forest : (b c : Irep) → b.children ≡ 1 ∷ [] → c.children ≡ [] → IsForest 0 (b ∷ (c ∷ [])) (0 ∷ [])
forest b c e f =
    let P : List ℕ → Type 0 = λ roots. IsForest 1 (c ∷ []) (roots ++ []) in
    let Q : List ℕ → Type 0 = λ roots. IsForest 2 [] (roots ++ []) in
    let inner : Q c.children = subst Q (sym f) none in
    let main : P b.children = subst P (sym e) (node inner) in
    node main

whole : (b c : Irep) → IsBody 2 b → IsBody 2 c → b.children ≡ 1 ∷ [] → c.children ≡ []
    → IsWhole (program 2 (b ∷ (c ∷ [])))
whole b c x y e f = record {
  version = inr refl;
  count = omega arith;
  each = All-cons (IsBody 2) b (c ∷ []) x (All-cons (IsBody 2) c [] y (All-nil (IsBody 2)));
  tree = forest b c e f;
}

pub new-requires-2 : goal.new-requires-2
new-requires-2 c =
    let main = c.in_ok-body.field-0 in
    let inner = c.in_ok-body-2.field-0 in
    let some : main.children ≡ 1 ∷ [] = c.in_ok-body.ensures.children ∙ c.in_ok-push.ensures.ok
    ∙ ap (λ (xs : List ℕ). xs ++ 1 ∷ []) c.new-children.ensures in
    let none' : inner.children ≡ [] = c.in_ok-body-2.ensures.children ∙ c.new.ensures in
    rw (c.in_ok-push-3.ensures.ok, c.in_ok-push-2.ensures.ok, c.new-bodies.ensures)
    (whole main inner c.in_ok-body.ensures.body c.in_ok-body-2.ensures.body some none')
