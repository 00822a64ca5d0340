-- Two maps over a list are one.
use Rattle.std.proofs.Common.{◌≡◌, List, [], ◌∷◌, map, refl, ap, ◌∙◌}
use Rattle.parser_tree.specs.Node.{Node, Nodes, nodes, more, none}

pub fused : {A B : Type 0} (f : B → Node) (h : A → Node) (g : A → B) → ((x : A) → f (g x) ≡ h x) → (xs : List A)
    → nodes (map f (map g xs)) ≡ nodes (map h xs)
fused f h g e [] = refl
fused f h g e (x ∷ xs) = ap (λ n. more n (nodes (map f (map g xs)))) (e x) ∙ ap (more (h x)) (fused f h g e xs)
