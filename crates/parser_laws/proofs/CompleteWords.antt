-- Primaries of one word outside the language, :: before a constant, and jumps without a value that are derived are read.
use Rattle.std.proofs.Common.{◌≡◌, ◌≤◌, true, false, length, refl, sym, arith}
use Rattle.rb_syntax.specs.declared.keyword.Keyword.TheVariants as keywords
use Rattle.rb_syntax.specs.declared.outside.Outside.{Outside}
use Rattle.rb_syntax.specs.declared.outside.Outside.TheVariants as outsides
use Rattle.rb_syntax.specs.declared.punctuator.Punctuator.TheVariants as marks
use Rattle.parser_tree.specs.Node as node
use Rattle.parser_tokens.specs.Tokens.{first, behind, bytes_at, place_at}
use Rattle.parser_tokens.specs.Starts.{opens_arguments}
use Rattle.parser_tokens.specs.declared.word.Word.TheVariants as words
use Rattle.parser_ahead.specs.Primary.{primary_of, primary_at}
use Rattle.parser_ahead.specs.declared.primary.DoOwner.{DoOwner}
use Rattle.parser_ahead.specs.declared.primary.Place.{Place}
use Rattle.parser_ahead.specs.declared.primary.Primary.TheVariants as primaries
use Rattle.parser_nodes.specs.Leaf.{bare, leaf}
use Rattle.parser_operands.specs.Operands.{compound, primary_by}
use Rattle.parser_forms.specs.Reading.{Names, Tokens}
use Rattle.rb_parser.specs.Levels.{levels}
use Rattle.parser_laws.specs.Rules.{Primary as PrimaryRule, stands_alone}
use Rattle.parser_laws.proofs.Results.{differs}
use Rattle.parser_laws.proofs.Facts.{Fact, word_taken, behind_within, at_once}
use Rattle.parser_laws.proofs.Heads.{calm_head, head_opens, alone_begins}
use Rattle.parser_laws.proofs.CompleteLiterals.{outside_alone}
use Rattle.parser_laws.proofs.CompletePrimary.{Alone, word_fact}

outside_primary : (o : Outside) (names : Names) (ts : Tokens) → stands_alone o ≡ true
    → primary_of (words.Other o) names ts ≡ primaries.Leaf
outside_primary outsides.NonAsciiName names ts h = differs (sym h)
outside_primary o names ts h = refl

module _ (place : Place) (owner : DoOwner) (names : Names) (ts : Tokens) where
  pub top_constant : first ts ≡ words.Mark marks.ColonColon → first (behind ts) ≡ words.Constant
      → Fact (PrimaryRule place owner (node.top_constant (bytes_at (behind ts)))) names ts names (behind (behind ts))
  unfolding primary_at primary_by compound leaf
  top_constant is there =
      let one = word_taken (words.Mark marks.ColonColon) ts is refl in
      let two : length (behind (behind ts)) ≤ length (behind ts) = behind_within (behind ts) in (
        omega arith,
        rw is refl,
        λ d room. at_once (levels d) place owner names names ts (behind (behind ts))
            (node.top_constant (bytes_at (behind ts))) (rw is (rw (is, there) refl)),
      )

  pub outside_token : (o : Outside) → first ts ≡ words.Other o → stands_alone o ≡ true
      → Alone place owner names ts (bare o (place_at ts))
  unfolding primary_at primary_by compound leaf
  outside_token o is alone = (
    word_taken (words.Other o) ts is refl,
    head_opens ts (calm_head (first ts) (rw is (alone_begins o alone))),
    λ d room. at_once (levels d) place owner names names ts (behind ts) (bare o (place_at ts))
        (rw (is, outside_primary o names ts alone) (rw (is, outside_alone o (place_at ts) alone) refl)),
  )

  pub file_keyword : first ts ≡ words.Key keywords.FileName
      → Alone place owner names ts (bare outsides.FileKeyword (place_at ts))
  unfolding primary_at primary_by compound leaf
  file_keyword is = word_fact place owner names ts _ _ is refl (λ i. rw is (rw is refl))

  pub line_keyword : first ts ≡ words.Key keywords.LineNumber
      → Alone place owner names ts (bare outsides.LineKeyword (place_at ts))
  unfolding primary_at primary_by compound leaf
  line_keyword is = word_fact place owner names ts _ _ is refl (λ i. rw is (rw is refl))

  pub encoding_keyword : first ts ≡ words.Key keywords.EncodingName
      → Alone place owner names ts (bare outsides.EncodingKeyword (place_at ts))
  unfolding primary_at primary_by compound leaf
  encoding_keyword is = word_fact place owner names ts _ _ is refl (λ i. rw is (rw is refl))

  pub redo : first ts ≡ words.Key keywords.Redo → Alone place owner names ts (bare outsides.Redo (place_at ts))
  unfolding primary_at primary_by compound leaf
  redo is = word_fact place owner names ts _ _ is refl (λ i. rw is (rw is refl))

  pub retry : first ts ≡ words.Key keywords.Retry → Alone place owner names ts (node.retry (place_at ts))
  unfolding primary_at primary_by compound leaf
  retry is = word_fact place owner names ts _ _ is refl (λ i. rw is (rw is refl))

  pub return_alone : first ts ≡ words.Key keywords.Return
      → Alone place owner names ts (node.return_node (place_at ts) node.none)
  unfolding primary_at primary_by compound leaf
  return_alone is = word_fact place owner names ts _ _ is refl (λ i. rw is (rw is refl))

  pub break_alone : first ts ≡ words.Key keywords.Break
      → Alone place owner names ts (node.break_node (place_at ts) node.none)
  unfolding primary_at primary_by compound leaf
  break_alone is = word_fact place owner names ts _ _ is refl (λ i. rw is (rw is refl))

  pub next_alone : first ts ≡ words.Key keywords.Next
      → Alone place owner names ts (node.next_node (place_at ts) node.none)
  unfolding primary_at primary_by compound leaf
  next_alone is = word_fact place owner names ts _ _ is refl (λ i. rw is (rw is refl))

  pub yield_alone : first ts ≡ words.Key keywords.Yield → opens_arguments (behind ts) ≡ false
      → Alone place owner names ts (node.yield_node (place_at ts) node.none)
  unfolding primary_at primary_by compound
  yield_alone is closed = word_fact place owner names ts _ _ is refl (λ i. rw is (rw closed refl))
