-- Statements name known locals.
use Rattle.std.proofs.Common.{ℕ, zero, suc, ◌+◌, ◌&&◌, List, [], ◌∷◌, ◌++◌, length, Option, Some, None}
use Rattle.rb_syntax.specs.declared.outside.Outside.{Outside}
use Rattle.rb_syntax.specs.declared.outside.Outside.TheVariants as outsides
use Rattle.parser_tree.specs.Node.{Name, Node}
use Rattle.parser_tokens.specs.Tokens.{first, behind, place_at, word_of, bytes_of}
use Rattle.parser_tokens.specs.Expect.{expect, skip_separators}
use Rattle.parser_tokens.specs.Operators.{junction_at}
use Rattle.parser_tokens.specs.Starts.{ends_statement, ends_statements, modifier_at}
use Rattle.parser_tokens.specs.declared.expect.Wanted.TheVariants as wanted
use Rattle.parser_tokens.specs.declared.operators.Junction.{Junction}
use Rattle.parser_tokens.specs.declared.operators.Prefix.TheVariants as prefixes
use Rattle.parser_tokens.specs.declared.word.Modifier.{Modifier}
use Rattle.parser_tokens.specs.declared.word.Modifier.TheVariants as kinds
use Rattle.parser_ahead.specs.Primary.{is_comma_word, is_method_word}
use Rattle.parser_ahead.specs.declared.primary.DoOwner.{DoOwner}
use Rattle.parser_ahead.specs.declared.primary.DoOwner.TheVariants as owners
use Rattle.parser_ahead.specs.declared.primary.Place.{Place}
use Rattle.parser_ahead.specs.declared.primary.Place.TheVariants as places
use Rattle.parser_nodes.specs.Listed.{PhraseNode}
use Rattle.parser_form_nodes.specs.Definitions.{is_global, alias, undef_from, undef}
use Rattle.parser_statements.specs.declared.statements.StatementStart.{StatementStart}
use Rattle.parser_statements.specs.declared.statements.StatementStart.TheVariants as beginnings
use Rattle.parser_forms.specs.Reading.{Names, Tokens, Read, Inside}
use Rattle.parser_statements.specs.Statements.{is_not, is_statement_sort, statement_start, aliased, undefined, negation, junction_with, junctions_turn, junctions_from, joined, expression, braced, base_by, base, modifier_part, modified, modifiers_turn, modifiers_from, statement, separated, with_statement, statements_from, statement_list, statements}
use Rattle.name_laws.proofs.Growing.{same, Knows, KnowsEach, still, each_still, each_more}
use Rattle.name_laws.proofs.Keeping.{Keeps, step, skip, either, KnowsPhrase, KeepsNames}
use Rattle.name_laws.proofs.Giving.{Gives, either_gives, from}
use Rattle.name_laws.proofs.Calling.{prefix_known, junction_known, modified_known}
use Rattle.name_laws.proofs.Phrasing.{phrase_keeps}

-- alias and undef name no local
abbrev NoLocal : Node × Tokens → Type 0
NoLocal r = (names : Names) → Knows names r.0

alias_gives : (at : ℕ) (ts : Tokens) → Gives NoLocal (alias at ts)
alias_gives at ts =
    either_gives NoLocal (is_global (first ts) && is_global (first (behind ts))) _ _ (λ names. tt)
    (either_gives NoLocal (is_method_word (first ts)) _ _
    (either_gives NoLocal (is_method_word (first (behind ts))) _ _ (λ names. tt) tt) tt)

undef_gives : (found : List Name) (ts : Tokens) → Gives NoLocal (undef_from found ts)
unfolding undef_from
undef_gives found [] = tt
undef_gives found (t ∷ []) = either_gives NoLocal (is_method_word (word_of t)) _ _ (λ names. tt) tt
undef_gives found (t ∷ u ∷ ts) =
    either_gives NoLocal (is_method_word (word_of t)) _ _
    (either_gives NoLocal (is_comma_word (word_of u)) _ _ (undef_gives (found ++ bytes_of t.kind ∷ []) ts)
    (λ names. tt)) tt

aliased_keeps : (at : ℕ) (names : Names) (ts : Tokens) → Keeps Knows names (aliased at names ts)
aliased_keeps at names ts = from NoLocal Knows names (alias at ts) _ (alias_gives at ts) (λ r h. (same names, h names))

undefined_keeps : (names : Names) (ts : Tokens) → Keeps Knows names (undefined names ts)
undefined_keeps names ts = from NoLocal Knows names (undef ts) _ (undef_gives [] ts) (λ r h. (same names, h names))

module _ (i : Inside) (k : KeepsNames i) where
  pub negation_keeps : (names : Names) (ts : Tokens) (place : Place) (owner : DoOwner)
      → Keeps KnowsPhrase names (negation i names ts place owner)
  unfolding negation
  negation_keeps names ts place owner =
      either KnowsPhrase names (is_not (first ts)) _ _
      (step KnowsPhrase KnowsPhrase names (i.negation names (behind ts) places.Command owner) _
      (k.negation names (behind ts) places.Command owner)
      (λ r g h. (same r.1, prefix_known r.1 prefixes.Not r.0.0 h)))
      (phrase_keeps i k names ts place owner)

  junction_keeps : (j : Junction) (left : Node) (names : Names) (ts : Tokens) (owner : DoOwner) → Knows names left
      → Keeps Knows names (junction_with i j left names ts owner)
  unfolding junction_with
  junction_keeps j left names ts owner h =
      step KnowsPhrase Knows names (negation i names (behind ts) places.Command owner) _
      (negation_keeps names (behind ts) places.Command owner)
      (λ r g n. (same r.1, junction_known r.1 j left r.0.0 (still names r.1 left g h) n))

  junctions_turn_keeps : (j : Option Junction) (go : Node → Names → Tokens → Read Node) (left : Node) (names : Names)
      (ts : Tokens) (owner : DoOwner) → Knows names left
      → ((n : Node) (known : Names) (rest : Tokens) → Knows known n → Keeps Knows known (go n known rest))
      → Keeps Knows names (junctions_turn i j go left names ts owner)
  junctions_turn_keeps None go left names ts owner h f = (same names, h)
  junctions_turn_keeps (Some j) go left names ts owner h f =
      step Knows Knows names (junction_with i j left names ts owner) _ (junction_keeps j left names ts owner h)
      (λ r g n. f r.0 r.1 r.2 n)

  junctions_keep : (n : ℕ) (owner : DoOwner) (left : Node) (names : Names) (ts : Tokens) → Knows names left
      → Keeps Knows names (junctions_from i n owner left names ts)
  unfolding junctions_from
  junctions_keep zero owner left names ts h = tt
  junctions_keep (suc n) owner left names ts h =
      junctions_turn_keeps (junction_at (first ts)) (junctions_from i n owner) left names ts owner h
      (λ m known rest g. junctions_keep n owner m known rest g)

  joined_keeps : (p : PhraseNode) (names : Names) (ts : Tokens) (owner : DoOwner) → KnowsPhrase names p
      → Keeps Knows names (joined i p names ts owner)
  joined_keeps p names ts owner h =
      either Knows names (is_statement_sort p.1) _ _ (same names, h)
      (junctions_keep (length ts + 1) owner p.0 names ts h)

  pub expression_keeps : (names : Names) (ts : Tokens) (place : Place) (owner : DoOwner)
      → Keeps Knows names (expression i names ts place owner)
  unfolding expression
  expression_keeps names ts place owner =
      step KnowsPhrase Knows names (negation i names ts place owner) _ (negation_keeps names ts place owner)
      (λ r g h. joined_keeps r.0 r.1 r.2 owner h)

  braced_keeps : (o : Outside) (at : ℕ) (names : Names) (ts : Tokens) → Keeps Knows names (braced i o at names ts)
  braced_keeps o at names ts =
      skip Knows names (expect wanted.OpenBrace ts) _ (λ body.
      step Knows Knows names (i.statements names body) _ (k.statements names body) (λ r g h.
      skip Knows r.1 (expect wanted.CloseBrace r.2) _ (λ rest. (same r.1, tt))))

  base_by_keeps : (s : StatementStart) (names : Names) (ts : Tokens) → Keeps Knows names (base_by i s names ts)
  unfolding base_by
  base_by_keeps beginnings.Alias names ts = aliased_keeps (place_at ts) names (behind ts)
  base_by_keeps beginnings.Undef names ts = undefined_keeps names (behind ts)
  base_by_keeps beginnings.BeginBlock names ts = braced_keeps outsides.BeginBlock (place_at ts) names (behind ts)
  base_by_keeps beginnings.EndBlock names ts = braced_keeps outsides.EndBlock (place_at ts) names (behind ts)
  base_by_keeps beginnings.Expression names ts = expression_keeps names ts places.Statement owners.Call

  base_keeps : (names : Names) (ts : Tokens) → Keeps Knows names (base i names ts)
  base_keeps names ts = base_by_keeps (statement_start (first ts)) names ts

  part_keeps : (m : Modifier) (names : Names) (ts : Tokens) → Keeps Knows names (modifier_part i m names ts)
  part_keeps kinds.Rescue names ts = base_keeps names ts
  part_keeps kinds.If names ts = expression_keeps names ts places.Command owners.Call
  part_keeps kinds.Unless names ts = expression_keeps names ts places.Command owners.Call
  part_keeps kinds.While names ts = expression_keeps names ts places.Command owners.Call
  part_keeps kinds.Until names ts = expression_keeps names ts places.Command owners.Call

  modified_keeps : (m : Modifier) (body : Node) (names : Names) (ts : Tokens) → Knows names body
      → Keeps Knows names (modified i m body names ts)
  unfolding modified
  modified_keeps m body names ts h =
      step Knows Knows names (modifier_part i m names (behind ts)) _ (part_keeps m names (behind ts))
      (λ r g n. (same r.1, modified_known r.1 m body r.0 (still names r.1 body g h) n))

  modifiers_turn_keeps : (m : Option Modifier) (go : Node → Names → Tokens → Read Node) (body : Node) (names : Names)
      (ts : Tokens) → Knows names body
      → ((n : Node) (known : Names) (rest : Tokens) → Knows known n → Keeps Knows known (go n known rest))
      → Keeps Knows names (modifiers_turn i m go body names ts)
  modifiers_turn_keeps None go body names ts h f = (same names, h)
  modifiers_turn_keeps (Some m) go body names ts h f =
      step Knows Knows names (modified i m body names ts) _ (modified_keeps m body names ts h)
      (λ r g n. f r.0 r.1 r.2 n)

  modifiers_keep : (n : ℕ) (body : Node) (names : Names) (ts : Tokens) → Knows names body
      → Keeps Knows names (modifiers_from i n body names ts)
  unfolding modifiers_from
  modifiers_keep zero body names ts h = tt
  modifiers_keep (suc n) body names ts h =
      modifiers_turn_keeps (modifier_at (first ts)) (modifiers_from i n) body names ts h
      (λ m known rest g. modifiers_keep n m known rest g)

  statement_keeps : (names : Names) (ts : Tokens) → Keeps Knows names (statement i names ts)
  unfolding statement
  statement_keeps names ts =
      step Knows Knows names (base i names ts) _ (base_keeps names ts)
      (λ r g h. modifiers_keep (length r.2 + 1) r.0 r.1 r.2 h)

  separated_keeps : (names : Names) (ts : Tokens) → Keeps Knows names (separated i names ts)
  unfolding separated
  separated_keeps names ts =
      step Knows Knows names (statement i names ts) _ (statement_keeps names ts)
      (λ r g h. either Knows r.1 (ends_statement (first r.2)) _ _ (same r.1, h) tt)

  with_keeps : (found : List Node) (names : Names) (ts : Tokens) → KnowsEach names found
      → Keeps KnowsEach names (with_statement i found names ts)
  unfolding with_statement
  with_keeps found names ts f =
      step Knows KnowsEach names (separated i names ts) _ (separated_keeps names ts)
      (λ r g h. (same r.1, each_more r.1 found r.0 (each_still names r.1 found g f) h))

  from_keeps : (n : ℕ) (found : List Node) (names : Names) (ts : Tokens) → KnowsEach names found
      → Keeps KnowsEach names (statements_from i n found names ts)
  unfolding statements_from
  from_keeps zero found names ts f = tt
  from_keeps (suc n) found names ts f =
      either KnowsEach names (ends_statements (first ts)) _ _ (same names, f)
      (step KnowsEach KnowsEach names (with_statement i found names ts) _ (with_keeps found names ts f)
      (λ r g h. from_keeps n r.0 r.1 r.2 h))

  pub statements_keep : (names : Names) (ts : Tokens) → Keeps Knows names (statements i names ts)
  unfolding statements
  statements_keep names ts =
      let rest = skip_separators ts in
      step KnowsEach Knows names (statement_list i names rest) _ (from_keeps (length rest + 1) [] names rest tt)
      (λ r g h. (same r.1, h))
