-- Lists in brackets, and the forms with sections.
use Rattle.std.proofs.Common.{ℕ, List, [], ◌∷◌, ◌++◌, map}
use Rattle.rb_syntax.specs.declared.core_form.Item.{Item}
use Rattle.rb_syntax.specs.declared.core_form.Item.TheVariants.{Plain}
use Rattle.rb_syntax.specs.declared.core_form.Pair.{Pair}
use Rattle.parser_tree.specs.Node as node
use Rattle.parser_tree.specs.Node.{Node, Nodes, nodes}
use Rattle.parser_tree.specs.View.{item_of, pair_of}
use Rattle.parser_tokens.specs.Tokens.{behind}
use Rattle.parser_tokens.specs.Starts.{opens_arguments}
use Rattle.parser_tokens.specs.Expect.{expect_closing}
use Rattle.parser_tokens.specs.declared.expect.Wanted.{Wanted}
use Rattle.parser_tokens.specs.declared.expect.Wanted.TheVariants as wanted
use Rattle.parser_ahead.specs.declared.primary.DoOwner.TheVariants as owners
use Rattle.parser_ahead.specs.declared.sections.Compound.{Compound}
use Rattle.parser_nodes.specs.Listed.{ListNode, is_none, whole_items}
use Rattle.parser_form_nodes.specs.Sections.{is_whole}
use Rattle.parser_forms.specs.Reading.{Names, Tokens, Inside}
use Rattle.parser_forms.specs.Brackets.{pairs_alone, call_arguments, elements, hash, yielded, sectioned}
use Rattle.name_laws.proofs.Growing.{same, Knows, KnowsAll}
use Rattle.name_laws.proofs.Keeping.{Keeps, step, skip, either, KnowsItems, KnowsPairs, KnowsList, KnowsSections, KeepsNames}
use Rattle.name_laws.proofs.Compounds.{compound_known}

-- the items of a list and what follows & of it
abbrev pub KnowsArguments : Names → List (Item Node) × Nodes → Type 0
KnowsArguments names a = KnowsItems names a.0 × KnowsAll names a.1

pub items_more : (names : Names) (is : List (Item Node)) (i : Item Node) → KnowsItems names is
    → Knows names (item_of i) → KnowsItems names (is ++ i ∷ [])
items_more names [] i h k = (k, tt)
items_more names (j ∷ is) i h k = (h.0, items_more names is i h.1 k)

whole_known : (names : Names) (is : List (Item Node)) (ps : List (Pair Node)) → KnowsItems names is
    → KnowsPairs names ps → KnowsItems names (whole_items is ps)
whole_known names is [] h k = h
whole_known names is (p ∷ ps) h k = items_more names is (Plain (node.hash (nodes (map pair_of (p ∷ ps))))) h k

pub list_known : (names : Names) (l : ListNode) → KnowsList names l → KnowsItems names (whole_items l.items l.pairs)
list_known names l h = whole_known names l.items l.pairs h.0 h.1.0

module _ (i : Inside) (k : KeepsNames i) where
  pub arguments_keep : (names : Names) (ts : Tokens) → Keeps KnowsArguments names (call_arguments i names ts)
  arguments_keep names ts =
      step KnowsList KnowsArguments names (i.list names ts owners.Call) _ (k.list names ts owners.Call) (λ r g h.
      skip KnowsArguments r.1 (expect_closing wanted.CloseParenthesis r.2) _
      (λ rest. (same r.1, (list_known r.1 r.0 h, h.1.1))))

  pub elements_keep : (names : Names) (ts : Tokens) (w : Wanted) → Keeps KnowsItems names (elements i names ts w)
  elements_keep names ts w =
      step KnowsList KnowsItems names (i.list names ts owners.Call) _ (k.list names ts owners.Call) (λ r g h.
      either KnowsItems r.1 (is_none r.0.block) _ _
      (skip KnowsItems r.1 (expect_closing w r.2) _ (λ rest. (same r.1, list_known r.1 r.0 h))) tt)

  pub hash_keeps : (names : Names) (ts : Tokens) → Keeps Knows names (hash i names ts)
  hash_keeps names ts =
      step KnowsList Knows names (i.list names ts owners.Call) _ (k.list names ts owners.Call) (λ r g h.
      either Knows r.1 (pairs_alone r.0) _ _
      (skip Knows r.1 (expect_closing wanted.CloseBrace r.2) _ (λ rest. (same r.1, h.1.0))) tt)

  pub yielded_keeps : (at : ℕ) (names : Names) (ts : Tokens) → Keeps Knows names (yielded i at names ts)
  yielded_keeps at names ts =
      either Knows names (opens_arguments ts) _ _
      (step KnowsItems Knows names (elements i names (behind ts) wanted.CloseParenthesis) _
      (elements_keep names (behind ts) wanted.CloseParenthesis) (λ r g h. (same r.1, h))) (same names, tt)

  pub sectioned_keeps : (names : Names) (c : Compound) (ts : Tokens) → Keeps Knows names (sectioned i names c ts)
  sectioned_keeps names c ts =
      step KnowsSections Knows names (i.sections names c ts) _ (k.sections names c ts) (λ r g h.
      either Knows r.1 (is_whole c r.0) _ _ (same r.1, compound_known r.1 c r.0 h) tt)
