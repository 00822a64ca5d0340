-- What it means that the rules a level deeper read what is derived.
use Rattle.std.proofs.Common.{◌≡◌, ℕ, true, false, List, Ok}
use Rattle.parser_tree.specs.Node.{Node}
use Rattle.parser_ahead.specs.declared.primary.DoOwner.{DoOwner}
use Rattle.parser_ahead.specs.Primary.{is_statement}
use Rattle.parser_ahead.specs.declared.primary.Place.{Place}
use Rattle.parser_ahead.specs.declared.primary.Place.TheVariants as places
use Rattle.parser_ahead.specs.declared.sections.Compound.{Compound}
use Rattle.parser_nodes.specs.Listed.{ListNode, PhraseNode}
use Rattle.parser_nodes.specs.declared.listed.Sort.{Sort}
use Rattle.parser_nodes.specs.declared.listed.Sort.TheVariants as sorts
use Rattle.parser_form_nodes.specs.Sections.{SectionNode, is_whole, compound_node}
use Rattle.parser_forms.specs.Reading.{Names, Tokens, Inside}
use Rattle.parser_laws.specs.Rules.{Statements, Expression, Negation, Argument, Operation, Listing, is_inner}
use Rattle.parser_laws.specs.Derives.{Derives}
use Rattle.parser_laws.specs.Expressions.{is_bare, is_expression}
use Rattle.parser_laws.proofs.CleanLists.{is_clean}

-- where the rules read an expression, it is derived; statements are a node of their own
pub record IsSound (i : Inside) : Type 0 where
  pub statements : (names known : Names) (ts rest : Tokens) (n : Node) → i.statements names ts ≡ Ok (n, known, rest)
      → is_expression n ≡ true → Derives (Statements n) names ts known rest
  pub grouped : (names known : Names) (ts rest : Tokens) (n : Node) → i.statements names ts ≡ Ok (n, known, rest)
      → is_bare n ≡ false
  pub expression : (names known : Names) (ts rest : Tokens) (owner : DoOwner) (n : Node)
      → i.expression names ts places.Command owner ≡ Ok (n, known, rest) → is_expression n ≡ true
      → Derives (Expression places.Command owner n) names ts known rest
  pub negation : (names known : Names) (ts rest : Tokens) (owner : DoOwner) (n : Node) (s : Sort)
      → i.negation names ts places.Command owner ≡ Ok ((n, s), known, rest) → is_expression n ≡ true
      → Derives (Negation places.Command owner n) names ts known rest
  pub phrase : (names known : Names) (ts rest : Tokens) (place : Place) (owner : DoOwner) (x : PhraseNode)
      → i.phrase names ts place owner ≡ Ok (x, known, rest) → is_statement place ≡ false → is_expression x.0 ≡ true
      → (x.1 ≡ sorts.Argument) × Derives (Argument place owner x.0) names ts known rest
  pub argument : (names known : Names) (ts rest : Tokens) (owner : DoOwner) (n : Node)
      → i.argument names ts owner ≡ Ok (n, known, rest) → is_expression n ≡ true
      → Derives (Argument places.Argument owner n) names ts known rest
  pub operation : (names known : Names) (ts rest : Tokens) (loosest : ℕ) (owner : DoOwner) (n : Node)
      → is_inner loosest ≡ true → i.operation names ts loosest owner ≡ Ok (n, known, rest) → is_expression n ≡ true
      → Derives (Operation places.Argument loosest owner n) names ts known rest
  pub listing : (names known : Names) (ts rest : Tokens) (owner : DoOwner) (l : ListNode)
      → i.list names ts owner ≡ Ok (l, known, rest) → is_clean l ≡ true → Derives (Listing owner l) names ts known rest
  pub sections : (names known : Names) (ts rest : Tokens) (form : Compound) (ss : List SectionNode)
      → i.sections names form ts ≡ Ok (ss, known, rest) → is_whole form ss ≡ true
      → is_expression (compound_node form ss) ≡ false
