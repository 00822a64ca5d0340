-- The bodies that lines make are trees whose roots are the children of the lines' body.
use Rattle.std.proofs.Common.{◌≡◌, ℕ, ◌+◌, List, [], ◌∷◌, ◌++◌, length, arith, sym, subst, append_assoc}
use Rattle.std.proofs.lemmas.List.{append-nil}
use Rattle.rite_code.specs.declared.code.Irep.{Irep}
use Rattle.rite_code.specs.declared.code.PoolItem.{PoolItem}
use Rattle.rite_code.specs.Code.{IsForest, none as no_tree, node}
use Rattle.scope_resolver.specs.Layout.{Scopes}
use Rattle.gen_parts.specs.declared.line.Line.{Line}
use Rattle.gen_parts.specs.declared.assembling.Head.{Head}
use Rattle.gen_parts.specs.Pieces.{Piece}
use Rattle.gen_parts.specs.Assembly.{assembled}
use Rattle.code_laws.proofs.Wells.{IsMade, none, plain, makes}
use Rattle.code_laws.proofs.Numbers.{block_length}
use Rattle.code_laws.proofs.Bodywise.{body_of}

forest_at : (n m : ℕ) (bs : List Irep) (roots : List ℕ) → n ≡ m → IsForest n bs roots → IsForest m bs roots
forest_at n m bs roots e f = subst (λ (k : ℕ). IsForest k bs roots) e f

tree : (number : ℕ) (b : Irep) (bs : List Irep) (roots : List ℕ) → IsForest (number + 1) bs (b.children ++ roots)
    → IsForest number (b ∷ bs) (number ∷ roots)
tree number b bs roots f = node f

-- a block before other trees
block_tree : (number : ℕ) (h : Head) (pool : List PoolItem) (symbols : List (List ℕ)) (q : Piece) (bs after : List Irep)
    (roots : List ℕ) → IsForest (number + 1) (q.bodies ++ (bs ++ after)) (q.children ++ roots)
    → IsForest number ((assembled h pool symbols q ++ bs) ++ after) (number ∷ roots)
unfolding assembled
block_tree number h pool symbols q bs after roots f =
    subst (λ (xs : List Irep). IsForest number (body_of h pool symbols q ∷ xs) (number ∷ roots))
    (sym (append_assoc q.bodies bs after))
    (tree number (body_of h pool symbols q) (q.bodies ++ (bs ++ after)) roots f)

made_trees : {sc : Scopes} {i m : ℕ} {ls : List Line} {cs : List ℕ} {bs : List Irep} (after : List Irep)
    (roots : List ℕ) → IsMade sc i m ls cs bs → IsForest (m + length bs) after roots
    → IsForest m (bs ++ after) (cs ++ roots)
made_trees after roots (none {sc} {child} {number}) f =
    let same : number + 0 ≡ number = omega arith in forest_at (number + 0) number after roots same f
made_trees after roots (plain l u h) f = made_trees after roots h f
made_trees after roots (makes {sc} {child} {number} {ls} {cs} {all} bs o u own h pool symbols q used sound is inner
    later) f =
    let size = block_length h pool symbols q bs all is in
    let end : number + length all ≡ number + (1 + length q.bodies) + length bs = omega (arith, size) in
    let begin : number + (1 + length q.bodies) ≡ number + 1 + length q.bodies = omega arith in
    let behind = made_trees after roots later (forest_at (number + length all)
    (number + (1 + length q.bodies) + length bs) after roots end f) in
    let within = made_trees (bs ++ after) (cs ++ roots) inner (forest_at (number + (1 + length q.bodies))
    (number + 1 + length q.bodies) (bs ++ after) (cs ++ roots) begin behind) in
    subst (λ (xs : List Irep). IsForest number (xs ++ after) (number ∷ (cs ++ roots))) (sym is)
    (block_tree number h pool symbols q bs after (cs ++ roots) within)

pub program_tree : {sc : Scopes} (h : Head) (pool : List PoolItem) (symbols : List (List ℕ)) (q : Piece)
    → IsMade sc 0 1 q.lines q.children q.bodies → IsForest 0 (assembled h pool symbols q) (0 ∷ [])
unfolding assembled
program_tree h pool symbols q m =
    subst (λ (xs : List Irep). IsForest 0 (body_of h pool symbols q ∷ xs) (0 ∷ [])) (append-nil q.bodies)
    (tree 0 (body_of h pool symbols q) (q.bodies ++ []) [] (made_trees [] [] m no_tree))
