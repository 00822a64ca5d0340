-- Lists whose items and pairs are expressions, without a block.
use Rattle.std.proofs.Common.{◌≡◌, Bool, true, false, not, ◌&&◌, List, [], ◌∷◌, ◌++◌, map, refl, sym}
use Rattle.std.proofs.lemmas.Bool.{and_parts}
use Rattle.rb_syntax.specs.declared.core_form.Item.{Item}
use Rattle.rb_syntax.specs.declared.core_form.Item.TheVariants.{Plain, Splat}
use Rattle.rb_syntax.specs.declared.core_form.Pair.{Pair}
use Rattle.parser_tree.specs.Node as node
use Rattle.parser_tree.specs.Node.{Node, nodes}
use Rattle.parser_tree.specs.View.{item_of, items_of, pair_of}
use Rattle.parser_nodes.specs.Listed.{ListNode, PartNode, command_part, plain_part, splat_part, pair_part, block_part, is_empty, is_none, put, whole_items, is_right_side, right_items, right_side}
use Rattle.parser_laws.specs.Expressions.{is_expression, are_expressions}
use Rattle.parser_laws.proofs.Results.{both, differs}

-- a part that is an expression, or a key and a value that are ones
abbrev pub is_given : PartNode → Bool
is_given (command_part n) = is_expression n
is_given (plain_part n) = is_expression n
is_given (splat_part n) = is_expression n
is_given (pair_part k v) = is_expression k && is_expression v
is_given (block_part n) = false

-- items and pairs that are expressions, and nothing else
abbrev pub is_clean : ListNode → Bool
is_clean l = are_expressions (items_of l.items) && (are_expressions (nodes (map pair_of l.pairs)) && is_none l.block)

pushed : {A : Type 0} (f : A → Node) (xs : List A) (x : A) → are_expressions (nodes (map f (xs ++ x ∷ []))) ≡ true
    → (are_expressions (nodes (map f xs)) ≡ true) × (is_expression (f x) ≡ true)
pushed f [] x h = (refl, (and_parts (is_expression (f x)) true h).0)
pushed f (y ∷ xs) x h =
    let p = and_parts (is_expression (f y)) (are_expressions (nodes (map f (xs ++ x ∷ [])))) h in
    let q = pushed f xs x p.1 in
    (both (is_expression (f y)) (are_expressions (nodes (map f xs))) p.0 q.0, q.1)

item_pushed : (l : ListNode) (i : Item Node) →
    (are_expressions (items_of (l.items ++ i ∷ [])) &&
    (are_expressions (nodes (map pair_of l.pairs)) && is_none l.block)) ≡ true → (is_clean l ≡ true)
    × (is_expression (item_of i) ≡ true)
item_pushed l i h =
    let all = and_parts (are_expressions (items_of (l.items ++ i ∷ [])))
    (are_expressions (nodes (map pair_of l.pairs)) && is_none l.block) h in
    let q = pushed item_of l.items i all.0 in (
      both (are_expressions (items_of l.items)) (are_expressions (nodes (map pair_of l.pairs)) && is_none l.block) q.0
          all.1,
      q.1,
    )

-- with a part that is put into it a list is clean only if it was, and the part is given
pub put_clean : (p : PartNode) (l : ListNode) → is_clean (put p l) ≡ true → (is_clean l ≡ true) × (is_given p ≡ true)
put_clean (command_part n) l h = item_pushed l (Plain n) h
put_clean (plain_part n) l h = item_pushed l (Plain n) h
put_clean (splat_part n) l h = item_pushed l (Splat n) h
put_clean (pair_part k v) l h =
    let pair : Pair Node = record { key = k; value = v } in
    let all = and_parts (are_expressions (items_of l.items))
    (are_expressions (nodes (map pair_of (l.pairs ++ pair ∷ []))) && is_none l.block) h in
    let pairs = and_parts (are_expressions (nodes (map pair_of (l.pairs ++ pair ∷ [])))) (is_none l.block) all.1 in
    let q = pushed pair_of l.pairs pair pairs.0 in (
      both (are_expressions (items_of l.items)) (are_expressions (nodes (map pair_of l.pairs)) && is_none l.block) all.0
          (both (are_expressions (nodes (map pair_of l.pairs))) (is_none l.block) q.0 pairs.1),
      q.1,
    )
put_clean (block_part n) l h =
    let all = and_parts (are_expressions (items_of l.items)) (are_expressions (nodes (map pair_of l.pairs)) && false) h
    in
    differs (sym (and_parts (are_expressions (nodes (map pair_of l.pairs))) false all.1).1)

whole_parts : (is : List (Item Node)) (ps : List (Pair Node)) → are_expressions (items_of (whole_items is ps)) ≡ true
    → (are_expressions (items_of is) ≡ true) × (are_expressions (nodes (map pair_of ps)) ≡ true)
whole_parts is [] h = (h, refl)
whole_parts is (p ∷ ps) h = pushed item_of is (Plain (node.hash (nodes (map pair_of (p ∷ ps))))) h

-- elements that are expressions
pub clean_is : (l : ListNode) → is_none l.block ≡ true → are_expressions (items_of (whole_items l.items l.pairs)) ≡ true
    → is_clean l ≡ true
clean_is l none h =
    let p = whole_parts l.items l.pairs h in
    both (are_expressions (items_of l.items)) (are_expressions (nodes (map pair_of l.pairs)) && is_none l.block) p.0
    (both (are_expressions (nodes (map pair_of l.pairs))) (is_none l.block) p.1 none)

none_wrong : {A : Type 0} (f : A → Node) (xs : List A) → is_empty xs ≡ true → are_expressions (nodes (map f xs)) ≡ true
none_wrong f [] h = refl
none_wrong f (x ∷ xs) h = differs (sym h)

-- pairs alone that are expressions
pub clean_pairs : (l : ListNode) → is_none l.block ≡ true → is_empty l.items ≡ true
    → are_expressions (nodes (map pair_of l.pairs)) ≡ true → is_clean l ≡ true
clean_pairs l none alone h =
    both (are_expressions (items_of l.items)) (are_expressions (nodes (map pair_of l.pairs)) && is_none l.block)
    (none_wrong item_of l.items alone) (both (are_expressions (nodes (map pair_of l.pairs))) (is_none l.block) h
    none)

right_parts : (is : List (Item Node)) (command : Bool) → is_expression (right_items is command).0 ≡ true
    → are_expressions (items_of is) ≡ true
right_parts [] command h = refl
right_parts (Plain n ∷ []) command h = both (is_expression n) true h refl
right_parts (Splat n ∷ []) command h = h
right_parts (i ∷ j ∷ is) command h = h

-- a right side that is an expression
pub clean_right : (l : ListNode) → is_right_side l ≡ true → is_expression (right_side l).0 ≡ true → is_clean l ≡ true
clean_right l right h =
    let some = and_parts (not (is_empty l.items)) _ right in
    let pairs = and_parts (is_empty l.pairs) _ some.1 in
    let block = and_parts (is_none l.block) (not l.comma) pairs.1 in
    both (are_expressions (items_of l.items)) (are_expressions (nodes (map pair_of l.pairs)) && is_none l.block)
    (right_parts l.items l.command h)
    (both (are_expressions (nodes (map pair_of l.pairs))) (is_none l.block) (none_wrong pair_of l.pairs pairs.0)
    block.0)
