-- The primaries of one word, and the few that have no statements within.
use Rattle.std.specs.Prelude.{ℕ, pos, neg_ℤ, Bool, if◌then◌else◌, nat_lt, nat_le, true, false, List, [], ◌∷◌, ◌++◌, Option, Some, None}
use Rattle.rb_syntax.specs.declared.keyword.Keyword.{Keyword}
use Rattle.rb_syntax.specs.declared.keyword.Keyword.TheVariants as keywords
use Rattle.rb_syntax.specs.declared.outside.Outside.{Outside}
use Rattle.rb_syntax.specs.declared.outside.Outside.TheVariants as outsides
use Rattle.rb_syntax.specs.declared.punctuator.Punctuator.{Punctuator}
use Rattle.rb_syntax.specs.declared.punctuator.Punctuator.TheVariants as marks
use Rattle.rb_syntax.specs.declared.token.Token.{Token}
use Rattle.parser_tree.specs.Node as node
use Rattle.parser_tree.specs.Node.{Name, Node}
use Rattle.parser_tokens.specs.Tokens.{first, behind, word_of, bytes_of, bytes_at, integer_at, place_at}
use Rattle.parser_tokens.specs.Operators.{is_sign}
use Rattle.parser_tokens.specs.declared.word.Word.{Word}
use Rattle.parser_tokens.specs.declared.word.Word.TheVariants as words

abbrev pub Tokens : Type 0
Tokens = List Token

-- a node and the tokens behind its words, or none
abbrev pub Read : Type 0
Read = Option (Node × Tokens)

-- a construct outside the language that has no parts
abbrev pub bare : Outside → ℕ → Node
bare o at = node.outside o at node.none

-- an integer without a sign, and one behind a -: from -2 ^ 63 to 2 ^ 63 - 1, and others have no place among those of the language
abbrev pub positive_node : ℕ → ℕ → Node
positive_node n at = if nat_lt n 9223372036854775808 then node.integer (pos n) else bare outsides.WideInteger at

abbrev pub negative_node : ℕ → ℕ → Node
negative_node n at = if nat_le n 9223372036854775808 then node.integer (neg_ℤ (pos n)) else bare outsides.WideInteger at

-- a keyword that is a primary alone, at its place
abbrev pub keyword_leaf : Keyword → ℕ → Option Node
keyword_leaf keywords.Nil at = Some node.nil
keyword_leaf keywords.True at = Some node.truth
keyword_leaf keywords.False at = Some node.falsehood
keyword_leaf keywords.SelfReference at = Some node.self_reference
keyword_leaf keywords.Retry at = Some (node.retry at)
keyword_leaf keywords.Redo at = Some (bare outsides.Redo at)
keyword_leaf keywords.FileName at = Some (bare outsides.FileKeyword at)
keyword_leaf keywords.LineNumber at = Some (bare outsides.LineKeyword at)
keyword_leaf keywords.EncodingName at = Some (bare outsides.EncodingKeyword at)
keyword_leaf keywords.Return at = Some (node.return_node at node.none)
keyword_leaf keywords.Break at = Some (node.break_node at node.none)
keyword_leaf keywords.Next at = Some (node.next_node at node.none)
keyword_leaf _ at = None

-- a token outside the language is a primary, but for the two that stand within others
abbrev pub outside_leaf : Outside → ℕ → Option Node
outside_leaf outsides.Ambiguous at = None
outside_leaf outsides.QuotedLabel at = None
outside_leaf o at = Some (bare o at)

abbrev alone : Option Node → Tokens → Read
alone None ts = None
alone (Some n) ts = Some (n, behind ts)

-- the node of a word that is a primary alone, at the front of these tokens
abbrev pub word_leaf : Word → Tokens → Option Node
word_leaf words.Constant ts = Some (node.constant (bytes_at ts))
word_leaf words.InstanceVariable ts = Some (node.instance_variable (bytes_at ts))
word_leaf words.GlobalVariable ts = Some (node.global_variable (bytes_at ts))
word_leaf words.Symbol ts = Some (node.symbol (bytes_at ts))
word_leaf words.Integer ts = Some (positive_node (integer_at ts) (place_at ts))
word_leaf (words.Key k) ts = keyword_leaf k (place_at ts)
word_leaf (words.Other o) ts = outside_leaf o (place_at ts)
word_leaf _ ts = None

-- the integer behind a - that is its sign
abbrev pub negative : Tokens → Read
negative ts = if is_sign (behind ts) then Some
    (negative_node (integer_at (behind ts)) (place_at ts), behind (behind ts)) else None

-- the constant behind ::
abbrev pub top_constant : Word → Tokens → Read
top_constant words.Constant ts = Some (node.top_constant (bytes_at ts), behind ts)
top_constant _ ts = None

abbrev pub is_element : Word → Bool
is_element words.Element = true
is_element _ = false

abbrev pub is_literal_end : Word → Bool
is_literal_end words.LiteralEnd = true
is_literal_end _ = false

-- the elements of %w or %i up to its end behind those read so far, and the tokens behind it
unfoldable pub elements_from : List Name → Tokens → Option (List Name × Tokens)
elements_from xs [] = None
elements_from xs (t ∷ ts) =
    if is_element (word_of t) then elements_from (xs ++ bytes_of t.kind ∷ []) ts else if is_literal_end (word_of t) then
    Some (xs, ts) else None

abbrev pub elements : Tokens → Option (List Name × Tokens)
elements ts = elements_from [] ts

abbrev pub with_elements : (List Name → Node) → Option (List Name × Tokens) → Read
with_elements f None = None
with_elements f (Some r) = Some (f r.0, r.1)

-- what a mark begins
abbrev pub mark_leaf : Punctuator → Tokens → Read
mark_leaf marks.Minus ts = negative ts
mark_leaf marks.ColonColon ts = top_constant (first (behind ts)) (behind ts)
mark_leaf _ ts = None

abbrev leaf_at : Word → Tokens → Read
leaf_at words.WordsBegin ts = with_elements node.words (elements (behind ts))
leaf_at words.SymbolsBegin ts = with_elements node.symbols (elements (behind ts))
leaf_at (words.Mark p) ts = mark_leaf p ts
leaf_at w ts = alone (word_leaf w ts) ts

-- the primary at the front, where it is one of these, and the tokens behind it
unfoldable pub leaf : Tokens → Read
leaf ts = leaf_at (first ts) ts
