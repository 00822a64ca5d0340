use Rattle.std.proofs.Common.{◌≡◌, ◌⊎◌, sym, subst, ◌++◌, ℕ, List, [], ◌∷◌, arith, rules}
use Rattle.std.proofs.lemmas.List.Elements.{All-nil, All-cons}
use Rattle.rite_code.specs.declared.code.Irep.{Irep}
use Rattle.rite_code.specs.Code.{program, IsBody, IsForest, none, node, IsWhole}
use Rattle.file_tests.proofs.listing.program.Goals as goal

forest : (b : Irep) → b.children ≡ [] → IsForest 0 (b ∷ []) (0 ∷ [])
forest b e =
    let P : List ℕ → Type 0 = λ roots. IsForest 1 [] (roots ++ []) in
    let inner : P b.children = subst P (sym e) none in
    node inner

whole : (version : ℕ) (b : Irep) → (version ≡ 1) ⊎ (version ≡ 2) → IsBody version b → b.children ≡ []
    → IsWhole (program version (b ∷ []))
whole version b v x e = record {
  version = v;
  count = omega arith;
  each = All-cons (IsBody version) b [] x (All-nil (IsBody version));
  tree = forest b e;
}

pub new-requires : goal.new-requires
new-requires c =
    let one : c.push.new.self ≡ c.args.body ∷ [] = search rules in
    subst (λ bodies. IsWhole (program c.args.version bodies)) (sym one)
    (whole c.args.version c.args.body c.requires.version c.requires.body c.requires.children)
