-- The pieces of literals, and primaries of one word.
use Rattle.std.proofs.Common.{◌≡◌, ℕ, zero, suc, ◌+◌, Bool, true, false, List, [], ◌∷◌, length, Option, Some, None, nat_lt, nat_le, refl}
use Rattle.rb_syntax.specs.declared.keyword.Keyword.{Keyword}
use Rattle.rb_syntax.specs.declared.keyword.Keyword.TheVariants as keywords
use Rattle.rb_syntax.specs.declared.outside.Outside.{Outside}
use Rattle.rb_syntax.specs.declared.outside.Outside.TheVariants as outsides
use Rattle.rb_syntax.specs.declared.punctuator.Punctuator.{Punctuator}
use Rattle.rb_syntax.specs.declared.punctuator.Punctuator.TheVariants as marks
use Rattle.parser_tree.specs.Node as node
use Rattle.parser_tree.specs.Node.{Name, Node}
use Rattle.parser_tokens.specs.Tokens.{first, behind, integer_at, character_at}
use Rattle.parser_tokens.specs.Operators.{is_sign}
use Rattle.parser_tokens.specs.Expect.{expect}
use Rattle.parser_tokens.specs.declared.expect.Wanted.TheVariants as wanted
use Rattle.parser_tokens.specs.declared.word.Word.{Word}
use Rattle.parser_tokens.specs.declared.word.Word.TheVariants as words
use Rattle.parser_nodes.specs.Leaf.{leaf, elements, with_elements, top_constant, negative}
use Rattle.parser_forms.specs.Reading.{Names, Tokens, Inside}
use Rattle.parser_operands.specs.Operands.{leaf_primary}
use Rattle.parser_forms.specs.Literals.{ends_literal, is_literal_end, is_character, begins_string, leaf_piece, piece_at, piece, next_piece, pieces_from, pieces, string, strings_from, strings}
use Rattle.program_laws.proofs.Both.{either as choice}
use Rattle.name_laws.proofs.Growing.{same, Knows, KnowsEach, each_still, each_more}
use Rattle.name_laws.proofs.Keeping.{Keeps, step, skip, either, KeepsNames}

-- a primary of one word names no local
abbrev NoLocal : Option (Node × Tokens) → Type 0
NoLocal None = Unit {0}
NoLocal (Some r) = (names : Names) → Knows names r.0

listed : (f : List Name → Node) (o : Option (List Name × Tokens))
    → ((xs : List Name) (names : Names) → Knows names (f xs)) → NoLocal (with_elements f o)
listed f None h = tt
listed f (Some r) h = h r.0

signed : (b : Bool) (ts : Tokens) → is_sign (behind ts) ≡ b → NoLocal (negative ts)
signed true ts is =
    rw is (λ names. choice (λ n. Knows names n) (nat_le (integer_at (behind ts)) 9223372036854775808) _ _ tt tt)
signed false ts is = rw is tt

topped : (w : Word) (ts : Tokens) → NoLocal (top_constant w ts)
topped words.Constant ts = λ names. tt
topped w ts = tt

by_key : (k : Keyword) (ts : Tokens) → first ts ≡ words.Key k → NoLocal (leaf ts)
unfolding leaf
by_key keywords.Nil ts is = rw is (λ names. tt)
by_key keywords.True ts is = rw is (λ names. tt)
by_key keywords.False ts is = rw is (λ names. tt)
by_key keywords.SelfReference ts is = rw is (λ names. tt)
by_key keywords.Retry ts is = rw is (λ names. tt)
by_key keywords.Redo ts is = rw is (λ names. tt)
by_key keywords.FileName ts is = rw is (λ names. tt)
by_key keywords.LineNumber ts is = rw is (λ names. tt)
by_key keywords.EncodingName ts is = rw is (λ names. tt)
by_key keywords.Return ts is = rw is (λ names. tt)
by_key keywords.Break ts is = rw is (λ names. tt)
by_key keywords.Next ts is = rw is (λ names. tt)
by_key k ts is = rw is tt

by_mark : (p : Punctuator) (ts : Tokens) → first ts ≡ words.Mark p → NoLocal (leaf ts)
unfolding leaf
by_mark marks.Minus ts is = rw is (signed (is_sign (behind ts)) ts refl)
by_mark marks.ColonColon ts is = rw is (topped (first (behind ts)) (behind ts))
by_mark p ts is = rw is tt

by_outside : (o : Outside) (ts : Tokens) → first ts ≡ words.Other o → NoLocal (leaf ts)
unfolding leaf
by_outside outsides.Ambiguous ts is = rw is tt
by_outside outsides.QuotedLabel ts is = rw is tt
by_outside o ts is = rw is (λ names. tt)

by_word : (w : Word) (ts : Tokens) → first ts ≡ w → NoLocal (leaf ts)
unfolding leaf
by_word words.Constant ts is = rw is (λ names. tt)
by_word words.InstanceVariable ts is = rw is (λ names. tt)
by_word words.GlobalVariable ts is = rw is (λ names. tt)
by_word words.Symbol ts is = rw is (λ names. tt)
by_word words.Integer ts is = rw is
    (λ names. choice (λ n. Knows names n) (nat_lt (integer_at ts) 9223372036854775808) _ _ tt tt)
by_word words.WordsBegin ts is = rw is (listed node.words (elements (behind ts)) (λ xs names. tt))
by_word words.SymbolsBegin ts is = rw is (listed node.symbols (elements (behind ts)) (λ xs names. tt))
by_word (words.Key k) ts is = by_key k ts is
by_word (words.Mark p) ts is = by_mark p ts is
by_word (words.Other o) ts is = by_outside o ts is
by_word w ts is = rw is tt

no_local : (ts : Tokens) → NoLocal (leaf ts)
no_local ts = by_word (first ts) ts refl

piece_keeps : (o : Option (Node × Tokens)) (names : Names) (ts : Tokens) → NoLocal o
    → Keeps Knows names (leaf_piece o names ts)
piece_keeps None names ts h = tt
piece_keeps (Some r) names ts h = (same names, h names)

primary_keeps : (o : Option (Node × Tokens)) (names : Names) (ts : Tokens) → NoLocal o
    → Keeps Knows names (leaf_primary o names ts)
primary_keeps None names ts h = tt
primary_keeps (Some r) names ts h = (same names, h names)

pub leaf_keeps : (names : Names) (ts : Tokens) → Keeps Knows names (leaf_primary (leaf ts) names ts)
leaf_keeps names ts = primary_keeps (leaf ts) names ts (no_local ts)

module _ (i : Inside) (k : KeepsNames i) where
  at_keeps : (w : Word) (names : Names) (ts : Tokens) → Keeps Knows names (piece_at i w names ts)
  at_keeps words.Piece names ts = (same names, tt)
  at_keeps words.InterpolationBegin names ts =
      step Knows Knows names (i.statements names (behind ts)) _ (k.statements names (behind ts)) (λ r g h.
      skip Knows r.1 (expect wanted.InterpolationEnd r.2) _ (λ rest. (same r.1, h)))
  at_keeps words.InstanceVariable names ts = piece_keeps (leaf ts) names ts (no_local ts)
  at_keeps words.GlobalVariable names ts = piece_keeps (leaf ts) names ts (no_local ts)
  at_keeps (words.Other o) names ts = piece_keeps (leaf ts) names ts (no_local ts)
  at_keeps w names ts = tt

  next_keeps : (found : List Node) (names : Names) (ts : Tokens) → KnowsEach names found
      → Keeps KnowsEach names (next_piece i found names ts)
  next_keeps found names ts f =
      step Knows KnowsEach names (piece i names ts) _ (at_keeps (first ts) names ts) (λ r g h.
      (same r.1, each_more r.1 found r.0 (each_still names r.1 found g f) h))

  from_keeps : (n : ℕ) (found : List Node) (names : Names) (ts : Tokens) → KnowsEach names found
      → Keeps KnowsEach names (pieces_from i n found names ts)
  unfolding pieces_from
  from_keeps zero found names ts f = tt
  from_keeps (suc n) found names ts f =
      either KnowsEach names (ends_literal (first ts)) _ _ (same names, f)
      (step KnowsEach KnowsEach names (next_piece i found names ts) _ (next_keeps found names ts f)
      (λ r g h. from_keeps n r.0 r.1 r.2 h))

  pub pieces_keep : (found : List Node) (names : Names) (ts : Tokens) → KnowsEach names found
      → Keeps KnowsEach names (pieces i found names ts)
  pieces_keep found names ts f = from_keeps (length ts + 1) found names ts f

  pub string_keeps : (found : List Node) (names : Names) (ts : Tokens) → KnowsEach names found
      → Keeps KnowsEach names (string i found names ts)
  string_keeps found names ts f =
      either KnowsEach names (is_character (first ts)) _ _
      (same names, each_more names found (node.piece (character_at ts ∷ [])) f tt)
      (step KnowsEach KnowsEach names (pieces i found names (behind ts)) _ (pieces_keep found names (behind ts) f)
      (λ r g h. either KnowsEach r.1 (is_literal_end (first r.2)) _ _ (same r.1, h) tt))

  strings_from_keep : (n : ℕ) (found : List Node) (names : Names) (ts : Tokens) → KnowsEach names found
      → Keeps KnowsEach names (strings_from i n found names ts)
  unfolding strings_from
  strings_from_keep zero found names ts f = tt
  strings_from_keep (suc n) found names ts f =
      either KnowsEach names (begins_string (first ts)) _ _
      (step KnowsEach KnowsEach names (string i found names ts) _ (string_keeps found names ts f)
      (λ r g h. strings_from_keep n r.0 r.1 r.2 h)) (same names, f)

  pub strings_keep : (found : List Node) (names : Names) (ts : Tokens) → KnowsEach names found
      → Keeps KnowsEach names (strings i found names ts)
  strings_keep found names ts f = strings_from_keep (length ts + 1) found names ts f
