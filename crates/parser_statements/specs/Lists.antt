-- Lists of arguments and elements.
use Rattle.std.specs.Prelude.{ℕ, zero, suc, ◌+◌, Bool, true, false, ◌&&◌, if◌then◌else◌, List, [], length, Ok, Err}
use Rattle.rb_syntax.specs.declared.outside.Outside.TheVariants as outsides
use Rattle.parser_tree.specs.Node as node
use Rattle.parser_tree.specs.Node.{Node, nodes}
use Rattle.parser_tokens.specs.Tokens.{first, behind, skip_if, bytes_at, place_at}
use Rattle.parser_tokens.specs.Starts.{begins_value}
use Rattle.parser_tokens.specs.declared.word.Word.{Word}
use Rattle.parser_ahead.specs.Groups.{is_quoted_label}
use Rattle.parser_ahead.specs.Primary.{part_at, is_comma_word, is_arrow_word}
use Rattle.parser_ahead.specs.declared.primary.DoOwner.{DoOwner}
use Rattle.parser_ahead.specs.declared.primary.Place.{Place}
use Rattle.parser_ahead.specs.declared.primary.Place.TheVariants as places
use Rattle.parser_ahead.specs.declared.primary.PartStart.{PartStart}
use Rattle.parser_ahead.specs.declared.primary.PartStart.TheVariants as parts
use Rattle.parser_nodes.specs.Nodes.{outside_node}
use Rattle.parser_nodes.specs.Listed.{ListNode, PartNode, command_part, plain_part, splat_part, pair_part, block_part, nothing_listed, may_follow, put, with_comma}
use Rattle.parser_forms.specs.Reading.{Names, Tokens, Read, Inside}
use Rattle.rb_base.specs.Result.{◌>>=◌}
use Rattle.parser_forms.specs.Literals.{pieces}
use Rattle.parser_phrases.specs.Phrases.{phrase, argument, is_argument}

abbrev pub part_place : Bool → Place
part_place true = places.Command
part_place false = places.Argument

-- a key in quotes, whose end is at that place
abbrev pub quoted_key : ℕ → List Node → Node
quoted_key at ns = outside_node outsides.QuotedLabel at (node.text (nodes ns))

-- a part begins with this word where more may follow
abbrev pub goes_on : Bool → Word → Bool
goes_on more w = more && begins_value w

-- a comma stands behind a command
abbrev pub clashes : Bool → ListNode → Bool
clashes comma l = comma && l.command

module _ (inside : Inside) where
  -- a value with what it becomes as a part
  abbrev pub valued : (Node → PartNode) → Names → Tokens → DoOwner → Read PartNode
  valued f names ts owner = argument inside names ts owner >>= (λ r. Ok (f r.0, r.1, r.2))

  -- a key in quotes and its value
  abbrev pub quoted_pair : Names → Tokens → DoOwner → Read PartNode
  quoted_pair names ts owner =
      pieces inside [] names (behind ts) >>= (λ r.
      if is_quoted_label (first r.2)
      then valued (pair_part (quoted_key (place_at r.2) r.0)) r.1 (behind r.2) owner
      else Err (length r.2))

  -- a value, or a key with its value behind an arrow
  abbrev pub plain_or_pair : Node → Names → Tokens → DoOwner → Read PartNode
  plain_or_pair n names ts owner = if is_arrow_word (first ts) then valued (pair_part n) names (behind ts) owner else Ok
      (plain_part n, names, ts)

  -- only where it stands alone a part may be a command
  abbrev pub value_part : Bool → Names → Tokens → DoOwner → Read PartNode
  value_part alone names ts owner =
      phrase inside names ts (part_place alone) owner
      >>= (λ r. if is_argument r.0.1 then plain_or_pair r.0.0 r.1 r.2 owner else Ok (command_part r.0.0, r.1, r.2))

  -- what stands behind two stars, as a pair
  abbrev pub double_splat : Names → Tokens → DoOwner → Read PartNode
  double_splat names ts owner =
      argument inside names (behind ts) owner >>=
      (λ r. Ok (pair_part (outside_node outsides.DoubleSplat (place_at ts) r.0) node.nil, r.1, r.2))

  -- a key with a colon and its value
  abbrev pub labelled : Names → Tokens → DoOwner → Read PartNode
  labelled names ts owner = valued (pair_part (node.symbol (bytes_at ts))) names (behind ts) owner

  unfoldable pub part_by : PartStart → Bool → Names → Tokens → DoOwner → Read PartNode
  part_by parts.Splat alone names ts owner = valued splat_part names (behind ts) owner
  part_by parts.DoubleSplat alone names ts owner = double_splat names ts owner
  part_by parts.Block alone names ts owner = valued block_part names (behind ts) owner
  part_by parts.Label alone names ts owner = labelled names ts owner
  part_by parts.QuotedKey alone names ts owner = quoted_pair names ts owner
  part_by parts.Value alone names ts owner = value_part alone names ts owner

  abbrev pub part : Bool → Names → Tokens → DoOwner → Read PartNode
  part alone names ts owner = part_by (part_at ts) alone names ts owner

  -- a part behind those that were found
  abbrev pub with_part : Bool → ListNode → Names → Tokens → DoOwner → Read ListNode
  with_part alone found names ts owner =
      part alone names ts owner >>= (λ r. if may_follow r.0 found then Ok (put r.0 found, r.1, r.2) else Err
      (length ts))

  -- a part behind those that were found, and the comma behind it, which no command has
  unfoldable pub next_part : Bool → ListNode → Names → Tokens → DoOwner → Read ListNode
  next_part alone found names ts owner =
      with_part alone found names ts owner >>= (λ r.
      if clashes (is_comma_word (first r.2)) r.0 then Err (length r.2)
      else Ok (with_comma (is_comma_word (first r.2)) r.0, r.1, skip_if (is_comma_word (first r.2)) r.2))

  -- at most n parts; the first is alone, and stands there where more may follow
  unfoldable pub list_from : ℕ → DoOwner → Bool → Bool → ListNode → Names → Tokens → Read ListNode
  list_from zero owner alone more found names ts = Err 0
  list_from (suc n) owner alone more found names ts =
      if goes_on more (first ts) then (next_part alone found names ts owner >>=
      (λ r. list_from n owner false r.0.comma r.0 r.1 r.2))
      else Ok (found, names, ts)

  -- parts with commas between them, up to what begins none
  abbrev pub list : Names → Tokens → DoOwner → Read ListNode
  list names ts owner = list_from (length ts + 1) owner true true nothing_listed names ts
