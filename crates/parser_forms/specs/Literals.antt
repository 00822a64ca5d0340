-- The pieces of literals.
use Rattle.std.specs.Prelude.{ℕ, zero, suc, ◌+◌, Bool, true, false, if◌then◌else◌, List, [], ◌∷◌, ◌++◌, length, Option, Some, None, Ok, Err, map, Vec}
use Rattle.std.specs.declared.alloc.Global.{Global}
use Rattle.parser_tree.specs.declared.tree.Piece.{Piece}
use Rattle.parser_tree.specs.Parts.{piece_node}
use Rattle.rb_syntax.specs.declared.outside.Outside.TheVariants as outsides
use Rattle.parser_tree.specs.View.{Tree}
use Rattle.parser_tree.specs.Node as node
use Rattle.parser_tree.specs.Node.{Node}
use Rattle.parser_tokens.specs.Tokens.{first, behind, bytes_at, character_at}
use Rattle.parser_tokens.specs.Expect.{expect}
use Rattle.parser_tokens.specs.declared.expect.Wanted.TheVariants as wanted
use Rattle.parser_tokens.specs.declared.word.Word.{Word}
use Rattle.parser_tokens.specs.declared.word.Word.TheVariants as words
use Rattle.parser_nodes.specs.Leaf.{leaf}
use Rattle.parser_forms.specs.Reading.{Names, Tokens, Read, Inside}
use Rattle.rb_base.specs.Result.{◌>>=◌}

abbrev pub ends_literal : Word → Bool
ends_literal words.LiteralEnd = true
ends_literal (words.Other outsides.QuotedLabel) = true
ends_literal _ = false

abbrev pub is_literal_end : Word → Bool
is_literal_end words.LiteralEnd = true
is_literal_end _ = false

abbrev pub is_character : Word → Bool
is_character words.Character = true
is_character _ = false

abbrev pub begins_string : Word → Bool
begins_string words.StringBegin = true
begins_string words.Character = true
begins_string _ = false

-- the node of each piece of a literal
abbrev pub pieces_view : Vec (Piece Tree) Global → List Node
pieces_view v = map piece_node v.items

abbrev pub with_character : List Node → Tokens → List Node
with_character found ts = found ++ node.piece (character_at ts ∷ []) ∷ []

abbrev pub leaf_piece : Option (Node × Tokens) → Names → Tokens → Read Node
leaf_piece None names ts = Err (length ts)
leaf_piece (Some found) names ts = Ok (found.0, names, found.1)

module _ (inside : Inside) where
  -- a piece: bytes, statements that are put in, or a variable
  abbrev pub piece_at : Word → Names → Tokens → Read Node
  piece_at words.Piece names ts = Ok (node.piece (bytes_at ts), names, behind ts)
  piece_at words.InterpolationBegin names ts =
      inside.statements names (behind ts) >>=
      (λ r. expect wanted.InterpolationEnd r.2 >>= (λ rest. Ok (r.0, r.1, rest)))
  piece_at words.InstanceVariable names ts = leaf_piece (leaf ts) names ts
  piece_at words.GlobalVariable names ts = leaf_piece (leaf ts) names ts
  piece_at (words.Other o) names ts = leaf_piece (leaf ts) names ts
  piece_at _ names ts = Err (length ts)

  abbrev pub piece : Names → Tokens → Read Node
  piece names ts = piece_at (first ts) names ts

  -- a piece, behind those found
  abbrev pub next_piece : List Node → Names → Tokens → Read (List Node)
  next_piece found names ts = piece names ts >>= (λ r. Ok (found ++ r.0 ∷ [], r.1, r.2))

  -- at most n pieces, behind those found
  unfoldable pub pieces_from : ℕ → List Node → Names → Tokens → Read (List Node)
  pieces_from zero found names ts = Err 0
  pieces_from (suc n) found names ts =
      if ends_literal (first ts) then Ok (found, names, ts) else
      (next_piece found names ts >>= (λ r. pieces_from n r.0 r.1 r.2))

  abbrev pub pieces : List Node → Names → Tokens → Read (List Node)
  pieces found names ts = pieces_from (length ts + 1) found names ts

  -- a string, behind the pieces found
  abbrev pub string : List Node → Names → Tokens → Read (List Node)
  string found names ts =
      if is_character (first ts) then Ok (with_character found ts, names, behind ts)
      else (pieces found names (behind ts) >>=
      (λ r. if is_literal_end (first r.2) then Ok (r.0, r.1, behind r.2) else Err (length r.2)))

  -- at most n strings, behind the pieces found
  unfoldable pub strings_from : ℕ → List Node → Names → Tokens → Read (List Node)
  strings_from zero found names ts = Err 0
  strings_from (suc n) found names ts =
      if begins_string (first ts) then (string found names ts >>= (λ r. strings_from n r.0 r.1 r.2)) else Ok
      (found, names, ts)

  abbrev pub strings : List Node → Names → Tokens → Read (List Node)
  strings found names ts = strings_from (length ts + 1) found names ts
