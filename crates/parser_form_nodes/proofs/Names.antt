-- The names behind undef, one after another.
use Rattle.std.proofs.Common.{◌≡◌, true, false, List, [], ◌∷◌, ◌++◌, length, Ok, Err, refl, ap, sym, ◌∙◌, arith}
use Rattle.rb_syntax.specs.declared.token.Token.{Token}
use Rattle.parser_tree.specs.declared.tree.TreeForm as form
use Rattle.parser_tree.specs.declared.tree.TreeForm.{fold-roll-TreeForm}
use Rattle.parser_tree.specs.declared.tree.TreeForm.TheOpen.{TreeForm-F}
use Rattle.parser_tree.specs.declared.tree.TreeForm.TheVariants as variant
use Rattle.parser_tree.specs.Node.{Name, Node, undef_node}
use Rattle.parser_tree.specs.View.{form_view, view_step}
use Rattle.parser_tokens.specs.Tokens.{first, behind, bytes_at}
use Rattle.parser_ahead.specs.Primary.{is_comma_word, is_method_word}
use Rattle.parser_form_nodes.specs.Definitions.{undef_from}

pub undef_more : (found : List Name) (ts : List Token) → is_method_word (first ts) ≡ true
    → is_comma_word (first (behind ts)) ≡ true
    → undef_from found ts ≡ undef_from (found ++ bytes_at ts ∷ []) (behind (behind ts))
unfolding undef_from first behind bytes_at
undef_more found [] name comma = grind arith
undef_more found (t ∷ []) name comma = grind arith
undef_more found (t ∷ u ∷ ts) name comma = rw (name, comma) refl

pub undef_stop : (found : List Name) (ts : List Token) → is_method_word (first ts) ≡ true
    → is_comma_word (first (behind ts)) ≡ false
    → undef_from found ts ≡ Ok (undef_node (found ++ bytes_at ts ∷ []), behind ts)
unfolding undef_from first behind bytes_at
undef_stop found [] name comma = grind arith
undef_stop found (t ∷ []) name comma = rw name refl
undef_stop found (t ∷ u ∷ ts) name comma = rw (name, comma) refl

pub undef_none : (found : List Name) (ts : List Token) → is_method_word (first ts) ≡ false
    → undef_from found ts ≡ Err (length ts)
unfolding undef_from first
undef_none found [] name = refl
undef_none found (t ∷ []) name = rw name refl
undef_none found (t ∷ u ∷ ts) name = rw name refl

pub view-Undef : (xs : List Name) → form_view (form.Undef xs) ≡ undef_node xs
view-Undef xs = ap form_view (sym (variant.rolls-Undef xs)) ∙ fold-roll-TreeForm Node view_step (TreeForm-F.Undef xs)

pub ruleset undef_turns = (undef_more, undef_stop, undef_none)

pub ruleset undef_views = view-Undef
