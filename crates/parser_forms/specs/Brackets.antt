-- Lists in brackets, and the forms with sections.
use Rattle.std.specs.Prelude.{ℕ, Bool, ◌&&◌, if◌then◌else◌, List, length, Ok, Err}
use Rattle.rb_syntax.specs.declared.core_form.Item.{Item}
use Rattle.parser_tree.specs.Node as node
use Rattle.parser_tree.specs.Node.{Node, Nodes, nodes}
use Rattle.parser_tree.specs.View.{items_of, pair_of}
use Rattle.std.specs.Prelude.{map}
use Rattle.parser_tokens.specs.Tokens.{behind}
use Rattle.parser_tokens.specs.Starts.{opens_arguments}
use Rattle.parser_tokens.specs.Expect.{expect_closing}
use Rattle.parser_tokens.specs.declared.expect.Wanted.{Wanted}
use Rattle.parser_tokens.specs.declared.expect.Wanted.TheVariants as wanted
use Rattle.parser_ahead.specs.declared.primary.DoOwner.TheVariants as owners
use Rattle.parser_ahead.specs.declared.sections.Compound.{Compound}
use Rattle.parser_nodes.specs.Listed.{ListNode, is_empty, is_none, whole_items, arguments_node}
use Rattle.parser_form_nodes.specs.Sections.{is_whole, compound_node}
use Rattle.parser_forms.specs.Reading.{Names, Tokens, Read, Inside}
use Rattle.rb_base.specs.Result.{◌>>=◌}

abbrev pub pairs_alone : ListNode → Bool
pairs_alone l = is_none l.block && is_empty l.items

module _ (inside : Inside) where
  -- the arguments behind an opening parenthesis
  abbrev pub call_arguments : Names → Tokens → Read (List (Item Node) × Nodes)
  call_arguments names ts =
      inside.list names ts owners.Call >>= (λ r. expect_closing wanted.CloseParenthesis r.2 >>=
      (λ rest. Ok (arguments_node r.0, r.1, rest)))

  -- the elements behind an opening bracket, to behind the closing one
  abbrev pub elements : Names → Tokens → Wanted → Read (List (Item Node))
  elements names ts w =
      inside.list names ts owners.Call >>= (λ r.
      if is_none r.0.block then (expect_closing w r.2 >>= (λ rest. Ok (whole_items r.0.items r.0.pairs, r.1, rest)))
      else Err (length ts))

  -- the pairs behind an opening brace
  abbrev pub hash : Names → Tokens → Read Node
  hash names ts =
      inside.list names ts owners.Call >>= (λ r.
      if pairs_alone r.0
      then (expect_closing wanted.CloseBrace r.2 >>=
      (λ rest. Ok (node.hash (nodes (map pair_of r.0.pairs)), r.1, rest)))
      else Err (length ts))

  -- the arguments of yield in parentheses, or none; its word is at a place
  abbrev pub yielded : ℕ → Names → Tokens → Read Node
  yielded at names ts =
      if opens_arguments ts then (elements names (behind ts) wanted.CloseParenthesis >>=
      (λ r. Ok (node.yield_node at (items_of r.0), r.1, r.2)))
      else Ok (node.yield_node at node.none, names, ts)

  -- a form with sections
  abbrev pub sectioned : Names → Compound → Tokens → Read Node
  sectioned names form ts =
      inside.sections names form ts >>= (λ r. if is_whole form r.0 then Ok (compound_node form r.0, r.1, r.2) else Err
      (length r.2))
