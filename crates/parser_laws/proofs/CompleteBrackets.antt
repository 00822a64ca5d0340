-- Arrays, hashes and yield with its arguments in parentheses that are derived are read.
use Rattle.std.proofs.Common.{◌≡◌, ℕ, ◌-◌, ◌<◌, ◌≤◌, true, length, None, Ok, map, refl, ap, ◌∙◌, arith}
use Rattle.rb_syntax.specs.declared.keyword.Keyword.TheVariants as keywords
use Rattle.rb_syntax.specs.declared.punctuator.Punctuator.TheVariants as marks
use Rattle.parser_tree.specs.Node as node
use Rattle.parser_tree.specs.Node.{nodes}
use Rattle.parser_tree.specs.View.{items_of, pair_of}
use Rattle.parser_tokens.specs.Tokens.{first, behind, place_at}
use Rattle.parser_tokens.specs.Expect.{skip_newlines}
use Rattle.parser_tokens.specs.Operators.{assignment_at}
use Rattle.parser_tokens.specs.Starts.{opens_arguments}
use Rattle.parser_tokens.specs.declared.word.Word.{Word}
use Rattle.parser_tokens.specs.declared.word.Word.TheVariants as words
use Rattle.parser_ahead.specs.Primary.{primary_at}
use Rattle.parser_ahead.specs.declared.primary.DoOwner.{DoOwner}
use Rattle.parser_ahead.specs.declared.primary.DoOwner.TheVariants as owners
use Rattle.parser_ahead.specs.declared.primary.Place.{Place}
use Rattle.parser_nodes.specs.Listed.{ListNode, is_empty, is_none, whole_items}
use Rattle.parser_operands.specs.Operands.{compound, primary_by}
use Rattle.parser_forms.specs.Reading.{Names, Tokens, Inside}
use Rattle.rb_parser.specs.Levels.{levels}
use Rattle.parser_laws.specs.Rules.{Primary as PrimaryRule, Listing}
use Rattle.parser_laws.proofs.Newlines.{newlines_within, newline_calm}
use Rattle.parser_laws.proofs.Facts.{Fact, levels_at, word_taken, behind_within, at_once}

-- what closes takes a token
pub closer_taken : (w : Word) (rest : Tokens) → first (skip_newlines rest) ≡ w
    → length (behind (skip_newlines rest)) ≤ length rest
closer_taken w rest closing =
    let h = newlines_within (length rest) rest in
    let g = behind_within (skip_newlines rest) in
    omega arith

-- no assignment stands before what closes
pub closing_free : (w : Word) (rest : Tokens) → first (skip_newlines rest) ≡ w → assignment_at w ≡ None
    → assignment_at (first rest) ≡ None
closing_free w rest closing free = newline_calm w free (length rest) rest closing

-- the list of the level below
pub list_below : (d : ℕ) (names known : Names) (ts rest : Tokens) (owner : DoOwner) (l : ListNode) → 0 < d
    → Fact (Listing owner l) names ts known rest → length ts ≤ d - 1 → assignment_at (first rest) ≡ None
    → (levels d).list names ts owner ≡ Ok (l, known, rest)
list_below d names known ts rest owner l some inner room none =
    ap (λ (i : Inside). i.list names ts owner) (levels_at d some) ∙ inner.2 (d - 1) room none

module _ (place : Place) (owner : DoOwner) (names : Names) (ts : Tokens) where
  pub array : (known : Names) (rest : Tokens) (l : ListNode) → first ts ≡ words.Mark marks.OpenBracket
      → Fact (Listing owners.Call l) names (behind ts) known rest → is_none l.block ≡ true
      → first (skip_newlines rest) ≡ words.Mark marks.CloseBracket
      → Fact (PrimaryRule place owner (node.array (items_of (whole_items l.items l.pairs)))) names ts known
      (behind (skip_newlines rest))
  unfolding primary_at primary_by compound
  array known rest l is inner none closing =
      let one = word_taken (words.Mark marks.OpenBracket) ts is refl in
      let last = closer_taken _ rest closing in
      let fewer = inner.0 in (
        omega arith,
        rw is refl,
        λ d room. at_once (levels d) place owner names known ts (behind (skip_newlines rest))
            (node.array (items_of (whole_items l.items l.pairs))) (
            let read = list_below d names known (behind ts) rest owners.Call l (omega arith) inner (omega arith)
            (closing_free _ rest closing refl) in
            rw is (rw read (rw none (rw closing refl)))),
      )

  pub hash : (known : Names) (rest : Tokens) (l : ListNode) → first ts ≡ words.Mark marks.OpenBrace
      → Fact (Listing owners.Call l) names (behind ts) known rest → is_none l.block ≡ true → is_empty l.items ≡ true
      → first (skip_newlines rest) ≡ words.Mark marks.CloseBrace
      → Fact (PrimaryRule place owner (node.hash (nodes (map pair_of l.pairs)))) names ts known
      (behind (skip_newlines rest))
  unfolding primary_at primary_by compound
  hash known rest l is inner none alone closing =
      let one = word_taken (words.Mark marks.OpenBrace) ts is refl in
      let last = closer_taken _ rest closing in
      let fewer = inner.0 in (
        omega arith,
        rw is refl,
        λ d room. at_once (levels d) place owner names known ts (behind (skip_newlines rest))
            (node.hash (nodes (map pair_of l.pairs))) (
            let read = list_below d names known (behind ts) rest owners.Call l (omega arith) inner (omega arith)
            (closing_free _ rest closing refl) in
            rw is (rw read (rw (none, alone) (rw closing refl)))),
      )

  pub yield_group : (known : Names) (rest : Tokens) (l : ListNode) → first ts ≡ words.Key keywords.Yield
      → opens_arguments (behind ts) ≡ true → Fact (Listing owners.Call l) names (behind (behind ts)) known rest
      → is_none l.block ≡ true
      → first (skip_newlines rest) ≡ words.Mark marks.CloseParenthesis
      → Fact (PrimaryRule place owner (node.yield_node (place_at ts) (items_of (whole_items l.items l.pairs)))) names
      ts known (behind (skip_newlines rest))
  unfolding primary_at primary_by compound
  yield_group known rest l is there inner none closing =
      let one = word_taken (words.Key keywords.Yield) ts is refl in
      let two : length (behind (behind ts)) ≤ length (behind ts) = behind_within (behind ts) in
      let last = closer_taken _ rest closing in
      let fewer = inner.0 in (
        omega arith,
        rw is refl,
        λ d room. at_once (levels d) place owner names known ts (behind (skip_newlines rest))
            (node.yield_node (place_at ts) (items_of (whole_items l.items l.pairs))) (
            let read = list_below d names known (behind (behind ts)) rest owners.Call l (omega arith) inner
            (omega arith) (closing_free _ rest closing refl) in
            rw is (rw there (rw read (rw none (rw closing refl))))),
      )
