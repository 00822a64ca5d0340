-- Lists of trees, as nodes.
use Rattle.std.proofs.Common.{◌≡◌, ◌<◌, ℕ, true, false, List, [], ◌∷◌, ◌++◌, length, map, refl, ap, sym, ◌∙◌, arith, Vec}
use Rattle.std.specs.declared.alloc.Global.{Global}
use Rattle.std.proofs.lemmas.List.{map-append}
use Rattle.rb_syntax.specs.declared.core_form.Item.{Item}
use Rattle.rb_syntax.specs.declared.core_form.Item.TheVariants.{Plain, Splat}
use Rattle.rb_syntax.specs.declared.core_form.Pair.{Pair}
use Rattle.parser_tree.specs.declared.tree.TreeForm as form
use Rattle.parser_tree.specs.Node as node
use Rattle.parser_tree.specs.Node.{Node, nodes}
use Rattle.parser_tree.specs.View.{form_view, Tree, view, item_of, items_of, pair_of}
use Rattle.parser_tree.specs.Parts as part
use Rattle.parser_tree.proofs.Fused.{fused}
use Rattle.parser_tree.proofs.Views as of
use Rattle.parser_nodes.specs.Listed.{item_view, pair_view, items_view, pairs_view, is_empty, whole_items}

pub same_items : (is : List (Item Tree)) → nodes (map item_of (map item_view is)) ≡ nodes (map part.item_node is)
same_items is =
    fused item_of part.item_node item_view (λ i. elim i as
    (λ i. item_of (item_view i) ≡ part.item_node i) [ Plain e ↦ refl | Splat e ↦ refl ]) is

same_pairs : (ps : List (Pair Tree)) → nodes (map pair_of (map pair_view ps)) ≡ nodes (map part.pair_node ps)
same_pairs ps = fused pair_of part.pair_node pair_view (λ p. refl) ps

-- the node of each tree that has items or pairs, by their views
pub array_of : (v : Vec (Item Tree) Global) → form_view (form.Array v) ≡ node.array (items_of (items_view v))
array_of v = of.view-Array v ∙ ap node.array (sym (same_items v.items))

pub hash_of : (v : Vec (Pair Tree) Global) → form_view (form.Hash v) ≡ node.hash (nodes (map pair_of (pairs_view v)))
hash_of v = of.view-Hash v ∙ ap node.hash (sym (same_pairs v.items))

pub index_of : (e : Tree) (v : Vec (Item Tree) Global)
    → form_view (form.Index e v) ≡ node.index (view e) (items_of (items_view v))
index_of e v = of.view-Index e v ∙ ap (node.index (view e)) (sym (same_items v.items))

pub yield_of : (v : Vec (Item Tree) Global) (at : ℕ)
    → form_view (form.Yield v at) ≡ node.yield_node at (items_of (items_view v))
yield_of v at = of.view-Yield v at ∙ ap (node.yield_node at) (sym (same_items v.items))

pub return_of : (v : Vec (Item Tree) Global) (at : ℕ)
    → form_view (form.Return v at) ≡ node.return_node at (items_of (items_view v))
return_of v at = of.view-Return v at ∙ ap (node.return_node at) (sym (same_items v.items))

pub break_of : (v : Vec (Item Tree) Global) (at : ℕ)
    → form_view (form.Break v at) ≡ node.break_node at (items_of (items_view v))
break_of v at = of.view-Break v at ∙ ap (node.break_node at) (sym (same_items v.items))

pub next_of : (v : Vec (Item Tree) Global) (at : ℕ)
    → form_view (form.Next v at) ≡ node.next_node at (items_of (items_view v))
next_of v at = of.view-Next v at ∙ ap (node.next_node at) (sym (same_items v.items))

pub ruleset item_trees = (array_of, hash_of, index_of, yield_of, return_of, break_of, next_of)

-- whether a list has anything, before and after a map
pub some_map : {A B : Type 0} (f : A → B) (xs : List A) → 0 < length xs → is_empty (map f xs) ≡ false
some_map f [] h = absurd (omega arith)
some_map f (x ∷ xs) h = refl

pub none_map : {A B : Type 0} (f : A → B) (xs : List A) → length xs ≡ 0 → is_empty (map f xs) ≡ true
none_map f [] h = refl
none_map f (x ∷ xs) h = absurd (omega arith)

pub ruleset empty_lists = (some_map, none_map)

whole_list_alone : (is : List (Item Node)) (ps : List (Pair Tree)) → length ps ≡ 0
    → whole_items is (map pair_view ps) ≡ is
whole_list_alone is [] h = refl
whole_list_alone is (p ∷ ps) h = absurd (omega arith)

whole_list_some : (is : List (Item Node)) (ps : List (Pair Tree)) → 0 < length ps
    → whole_items is (map pair_view ps) ≡ is ++ Plain (node.hash (nodes (map pair_of (map pair_view ps)))) ∷ []
whole_list_some is [] h = absurd (omega arith)
whole_list_some is (p ∷ ps) h = refl

-- the items of arguments without pairs, and with them
pub whole_alone : (is : List (Item Node)) (v : Vec (Pair Tree) Global) → length v.items ≡ 0
    → whole_items is (pairs_view v) ≡ is
whole_alone is v h = whole_list_alone is v.items h

pub whole_some : (is : List (Item Node)) (v : Vec (Pair Tree) Global) → 0 < length v.items
    → whole_items is (pairs_view v) ≡ is ++ Plain (form_view (form.Hash v)) ∷ []
whole_some is v h = whole_list_some is v.items h ∙ ap (λ n. is ++ Plain n ∷ []) (sym (hash_of v))

pub ruleset list_laws = (map-append, some_map, none_map)

pub ruleset argument_laws = (map-append, whole_alone, whole_some)
