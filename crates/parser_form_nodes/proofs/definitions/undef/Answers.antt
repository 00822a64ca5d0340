use Rattle.std.proofs.Common.{◌≡◌, ◌++◌, [], ◌∷◌, true, false, sym, ◌∙◌, refl, arith}
use Rattle.parser_tokens.specs.Tokens.{first, behind, bytes_at}
use Rattle.parser_ahead.specs.Primary.{is_comma_word, is_method_word}
use Rattle.parser_tree.specs.Node.{undef_node}
use Rattle.parser_tree.specs.View.{view}
use Rattle.parser_form_nodes.proofs.Names.{undef_stop}
use Rattle.parser_form_nodes.proofs.definitions.undef.Goals as goal

pub returns-then-not-is_comma-clause-value : goal.returns-then-not-is_comma-clause-value
returns-then-not-is_comma-clause-value c =
    let name : is_method_word (first c.names.rest.now) ≡ true = grind arith in
    let rest : c.skip-rest.result.now ≡ behind c.names.rest.now = c.skip-rest.ensures.value in
    let last : is_comma_word (first (behind c.names.rest.now)) ≡ false = grind arith in
    let list : c.push.new.self ≡ c.names.list ++ bytes_at c.names.rest.now ∷ [] = grind arith in
    let tree : view c.in_ok-tree.tree ≡ undef_node c.push.new.self = c.in_ok-tree.ensures in
    sym c.names.invariant.0 ∙ (undef_stop c.names.list c.names.rest.now name last ∙ rw (rest, tree, list) refl)
