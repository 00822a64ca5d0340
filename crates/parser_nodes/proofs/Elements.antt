-- The elements of a literal, a token at a time.
use Rattle.std.proofs.Common.{◌≡◌, true, false, List, [], ◌∷◌, ◌++◌, Some, None, refl}
use Rattle.rb_syntax.specs.declared.token.Token.{Token}
use Rattle.parser_tree.specs.Node.{Name}
use Rattle.parser_tokens.specs.Tokens.{first, behind, bytes_at}
use Rattle.parser_nodes.specs.Leaf.{elements_from, is_element, is_literal_end}

pub elements_more : (xs : List Name) (ts : List Token) → is_element (first ts) ≡ true
    → elements_from xs ts ≡ elements_from (xs ++ bytes_at ts ∷ []) (behind ts)
unfolding elements_from first behind bytes_at
elements_more xs [] h = cc
elements_more xs (t ∷ ts) h = rw h refl

pub elements_end : (xs : List Name) (ts : List Token) → is_element (first ts) ≡ false → is_literal_end (first ts) ≡ true
    → elements_from xs ts ≡ Some (xs, behind ts)
unfolding elements_from first behind
elements_end xs [] h e = cc
elements_end xs (t ∷ ts) h e = rw (h, e) refl

pub elements_none : (xs : List Name) (ts : List Token) → is_element (first ts) ≡ false
    → is_literal_end (first ts) ≡ false
    → elements_from xs ts ≡ None
unfolding elements_from first
elements_none xs [] h e = refl
elements_none xs (t ∷ ts) h e = rw (h, e) refl

pub ruleset element_turns = (elements_more, elements_end, elements_none)
