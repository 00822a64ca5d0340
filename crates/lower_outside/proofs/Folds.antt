-- What is found in a list of nodes, as a fold.
use Rattle.std.proofs.Common.{◌≡◌, List, [], ◌∷◌, Option, Vec, fold, map, refl, ap, sym, ◌∙◌}
use Rattle.std.specs.declared.alloc.Global.{Global}
use Rattle.parser_tree.specs.Node.{Node, nodes}
use Rattle.parser_tree.specs.View.{Tree, form_view}
use Rattle.parser_tree.specs.declared.tree.TreeForm as tree
use Rattle.parser_tree.specs.declared.tree.TreeForm.{TreeForm}
use Rattle.parser_tree.specs.declared.tree.WhenClause.{WhenClause}
use Rattle.parser_tree.specs.Parts as part
use Rattle.lower_outside.specs.Search.{found, found_all}
use Rattle.lower_outside.specs.declared.construct.Found.{Found}
use Rattle.parser_tree.proofs.Views.{views, view-Case}

pub found_all-nodes : (best : Option Found) (ns : List Node) → found_all best (nodes ns) ≡ fold found best ns
found_all-nodes best [] = refl
found_all-nodes best (n ∷ ns) = found_all-nodes (found best n) ns

-- a case, part after part
pub found-case : (best : Option Found) (t : TreeForm) (s : Option Tree) (v : Vec (WhenClause Tree) Global)
    (o : Option Tree)
    (ws : List (WhenClause Tree)) (r1 r2 r3 : Option Found) → t ≡ tree.Case s v o → ws ≡ v.items
    → r1 ≡ found_all best (part.boxed s)
    → r2 ≡ fold found r1 (map part.when_node ws) → r3 ≡ found_all r2 (part.boxed o) → r3 ≡ found best (form_view t)
found-case best t s v o ws r1 r2 r3 is items e1 e2 e3 =
    let middle : r2 ≡ found_all (found_all best (part.boxed s)) (nodes (map part.when_node v.items)) =
    e2 ∙ (ap (λ ws. fold found r1 (map part.when_node ws)) items
    ∙ (ap (λ b. fold found b (map part.when_node v.items)) e1
    ∙ sym (found_all-nodes (found_all best (part.boxed s)) (map part.when_node v.items)))) in
    e3 ∙ (ap (λ b. found_all b (part.boxed o)) middle ∙ sym (ap (found best) (ap form_view is ∙ view-Case s v o)))

pub ruleset folds = found_all-nodes

pub ruleset views_and_folds = (views, found_all-nodes)
