-- Lists in brackets and pairs in braces that are read with expressions are derived.
use Rattle.std.proofs.Common.{◌≡◌, true, List, length, map, Ok, refl, sym, subst, ◌∙◌}
use Rattle.std.proofs.lemmas.Bool.{and_parts}
use Rattle.rb_syntax.specs.declared.core_form.Item.{Item}
use Rattle.rb_syntax.specs.declared.keyword.Keyword.{Keyword}
use Rattle.rb_syntax.specs.declared.keyword.Keyword.TheVariants as keywords
use Rattle.rb_syntax.specs.declared.punctuator.Punctuator.TheVariants as marks
use Rattle.parser_tree.specs.Node as node
use Rattle.parser_tree.specs.Node.{Node, nodes}
use Rattle.parser_tree.specs.View.{items_of, pair_of}
use Rattle.parser_tokens.specs.Tokens.{first, behind}
use Rattle.parser_tokens.specs.Expect.{skip_newlines, expect_closing, is_wanted}
use Rattle.parser_tokens.specs.declared.expect.Wanted.{Wanted}
use Rattle.parser_tokens.specs.declared.expect.Wanted.TheVariants as wanted
use Rattle.parser_tokens.specs.declared.word.Word.{Word}
use Rattle.parser_tokens.specs.declared.word.Word.TheVariants as words
use Rattle.parser_ahead.specs.declared.primary.DoOwner.{DoOwner}
use Rattle.parser_ahead.specs.declared.primary.DoOwner.TheVariants as owners
use Rattle.parser_ahead.specs.declared.primary.Place.{Place}
use Rattle.parser_nodes.specs.Listed.{ListNode, is_empty, is_none, whole_items}
use Rattle.parser_forms.specs.Brackets.{elements, hash, pairs_alone}
use Rattle.parser_operands.specs.Operands.{array}
use Rattle.parser_forms.specs.Reading.{Names, Tokens, Inside}
use Rattle.parser_laws.specs.Rules.{Primary, Listing}
use Rattle.parser_laws.specs.Derives.{Derives, Array, Hash}
use Rattle.parser_laws.specs.Expressions.{is_expression, are_expressions}
use Rattle.parser_laws.proofs.Results.{bind_ok, then_ok, read_same, ok_is, carry}
use Rattle.parser_laws.proofs.CleanLists.{clean_is, clean_pairs}
use Rattle.parser_laws.proofs.Sound.{IsSound}

bracket_key : (k : Keyword) → is_wanted wanted.CloseBracket (words.Key k) ≡ true → ⊥
bracket_key keywords.End h = cc
bracket_key k h = cc

pub closes_bracket : (w : Word) → is_wanted wanted.CloseBracket w ≡ true → w ≡ words.Mark marks.CloseBracket
closes_bracket (words.Mark marks.CloseBracket) h = refl
closes_bracket (words.Key k) h = absurd (bracket_key k h)
closes_bracket w h = absurd (cc)

brace_key : (k : Keyword) → is_wanted wanted.CloseBrace (words.Key k) ≡ true → ⊥
brace_key keywords.End h = cc
brace_key k h = cc

closes_brace : (w : Word) → is_wanted wanted.CloseBrace w ≡ true → w ≡ words.Mark marks.CloseBrace
closes_brace (words.Mark marks.CloseBrace) h = refl
closes_brace (words.Key k) h = absurd (brace_key k h)
closes_brace w h = absurd (cc)

module _ (i : Inside) (sound : IsSound i) (names : Names) (ts : Tokens) where
  -- elements with the list that they are
  abbrev pub Elements : Wanted → List (Item Node) → Names → Tokens → Type 0
  Elements w items known rest =
      (l : ListNode) × (m : Tokens) × (whole_items l.items l.pairs ≡ items) × (is_none l.block ≡ true)
      × Derives (Listing owners.Call l) names ts known m
      × (is_wanted w (first (skip_newlines m)) ≡ true) × (behind (skip_newlines m) ≡ rest)

  pub elements_sound : (w : Wanted) (items : List (Item Node)) (known : Names) (rest : Tokens)
      → elements i names ts w ≡ Ok (items, known, rest) → are_expressions (items_of items) ≡ true
      → Elements w items known rest
  elements_sound w items known rest h is =
      let l = bind_ok (i.list names ts owners.Call) _ (items, known, rest) h in
      let t = then_ok (is_none l.0.0.block) _ (length ts) (items, known, rest) l.2 in
      let x = bind_ok (expect_closing w l.0.2) _ (items, known, rest) t.1 in
      let c = then_ok (is_wanted w (first (skip_newlines l.0.2))) (Ok (behind (skip_newlines l.0.2)))
      (length (skip_newlines l.0.2)) x.0 x.1 in
      let made : List (Item Node) = whole_items l.0.0.items l.0.0.pairs in
      let e = read_same made items l.0.1 known x.0 rest x.2 in
      let whole : are_expressions (items_of made) ≡ true =
      subst (λ (is : List (Item Node)). are_expressions (items_of is) ≡ true) (sym e.0) is in
      let d = sound.listing names l.0.1 ts l.0.2 owners.Call l.0.0 l.1 (clean_is l.0.0 t.0 whole) in
      let last : behind (skip_newlines l.0.2) ≡ x.0 = ok_is c.1 in (
        l.0.0,
        l.0.2,
        e.0,
        t.0,
        subst (λ (k : Names). Derives (Listing owners.Call l.0.0) names ts k l.0.2) e.1 d,
        c.0,
        last ∙ e.2,
      )

module _ (i : Inside) (sound : IsSound i) (place : Place) (owner : DoOwner) (names : Names) (ts : Tokens) where
  abbrev Sound : Node → Names → Tokens → Type 0
  Sound n known rest = Derives (Primary place owner n) names ts known rest

  pub array_sound : first ts ≡ words.Mark marks.OpenBracket → (n : Node) (known : Names) (rest : Tokens)
      → array i names (behind ts) ≡ Ok (n, known, rest) → is_expression n ≡ true → Sound n known rest
  array_sound begins n known rest h is =
      let r = bind_ok (elements i names (behind ts) wanted.CloseBracket) _ (n, known, rest) h in
      let e = read_same (node.array (items_of r.0.0)) n r.0.1 known r.0.2 rest r.2 in
      let whole : are_expressions (items_of r.0.0) ≡ true = subst (λ m. is_expression m ≡ true) (sym e.0) is in
      let l = elements_sound i sound names (behind ts) wanted.CloseBracket r.0.0 r.0.1 r.0.2 r.1 whole in
      let d = Array place owner names r.0.1 ts l.1 l.0 begins l.4 l.3 (closes_bracket (first (skip_newlines l.1)) l.5)
      in
      let same = subst (λ (q : Tokens). Sound (node.array (items_of (whole_items l.0.items l.0.pairs))) r.0.1 q) l.6 d
      in
      carry Sound (node.array (items_of r.0.0)) n r.0.1 known r.0.2 rest r.2
      (subst (λ (is : List (Item Node)). Sound (node.array (items_of is)) r.0.1 r.0.2) l.2 same)

  pub hash_sound : first ts ≡ words.Mark marks.OpenBrace → (n : Node) (known : Names) (rest : Tokens)
      → hash i names (behind ts) ≡ Ok (n, known, rest) → is_expression n ≡ true → Sound n known rest
  hash_sound begins n known rest h is =
      let l = bind_ok (i.list names (behind ts) owners.Call) _ (n, known, rest) h in
      let t = then_ok (pairs_alone l.0.0) _ (length (behind ts)) (n, known, rest) l.2 in
      let alone = and_parts (is_none l.0.0.block) (is_empty l.0.0.items) t.0 in
      let x = bind_ok (expect_closing wanted.CloseBrace l.0.2) _ (n, known, rest) t.1 in
      let c = then_ok (is_wanted wanted.CloseBrace (first (skip_newlines l.0.2))) (Ok (behind (skip_newlines l.0.2)))
      (length (skip_newlines l.0.2)) x.0 x.1 in
      let made : Node = node.hash (nodes (map pair_of l.0.0.pairs)) in
      let e = read_same made n l.0.1 known x.0 rest x.2 in
      let whole : are_expressions (nodes (map pair_of l.0.0.pairs)) ≡ true =
      subst (λ m. is_expression m ≡ true) (sym e.0) is in
      let inner = sound.listing names l.0.1 (behind ts) l.0.2 owners.Call l.0.0 l.1
      (clean_pairs l.0.0 alone.0 alone.1 whole) in
      let d = Hash place owner names l.0.1 ts l.0.2 l.0.0 begins inner alone.0 alone.1
      (closes_brace (first (skip_newlines l.0.2)) c.0) in
      let last : behind (skip_newlines l.0.2) ≡ x.0 = ok_is c.1 in
      carry Sound made n l.0.1 known x.0 rest x.2 (subst (λ (q : Tokens). Sound made l.0.1 q) last d)
