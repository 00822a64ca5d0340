-- Postfixes behind the block of a command that are derived are read.
use Rattle.std.proofs.Common.{◌≡◌, ℕ, suc, ◌+◌, ◌-◌, ◌<◌, ◌≤◌, true, false, [], ◌∷◌, codes, length, Some, None, Ok, refl, sym, ◌∙◌, arith}
use Rattle.rb_syntax.specs.declared.outside.Outside.TheVariants as outsides
use Rattle.rb_syntax.specs.declared.punctuator.Punctuator.{Punctuator}
use Rattle.rb_syntax.specs.declared.punctuator.Punctuator.TheVariants as marks
use Rattle.parser_tree.specs.Node as node
use Rattle.parser_tree.specs.Node.{Node}
use Rattle.parser_tree.specs.View.{items_of}
use Rattle.parser_tokens.specs.Tokens.{first, behind, bytes_at, place_at}
use Rattle.parser_tokens.specs.Expect.{skip_newlines}
use Rattle.parser_tokens.specs.Starts.{begins_argument, opens_arguments, postfix_at}
use Rattle.parser_tokens.specs.declared.starts.Postfix.{Postfix}
use Rattle.parser_tokens.specs.declared.starts.Postfix.TheVariants as postfixes
use Rattle.parser_tokens.specs.declared.word.Word.{Word}
use Rattle.parser_tokens.specs.declared.word.Word.TheVariants as words
use Rattle.parser_ahead.specs.Primary.{in_command, block_at, call_takes, is_name_word}
use Rattle.parser_ahead.specs.declared.primary.BlockStyle.{BlockStyle}
use Rattle.parser_ahead.specs.declared.primary.BlockStyle.TheVariants as styles
use Rattle.parser_ahead.specs.declared.primary.DoOwner.{DoOwner}
use Rattle.parser_ahead.specs.declared.primary.DoOwner.TheVariants as owners
use Rattle.parser_nodes.specs.Listed.{ListNode, is_none, whole_items, arguments_node}
use Rattle.parser_nodes.specs.Calls.{CalleeNode, outside_callee, OperandNode, whole, callee, operand_node, call_node}
use Rattle.parser_form_nodes.specs.Parameters.{BlockNode}
use Rattle.parser_operands.specs.Operands.{continues, suffix, postfixed, chain_turn, chain_within}
use Rattle.parser_operands.proofs.Turns.{chain_step}
use Rattle.parser_phrases.specs.Phrases.{command}
use Rattle.parser_forms.specs.Reading.{Names, Tokens, Inside}
use Rattle.rb_parser.specs.Levels.{level_above, levels}
use Rattle.parser_laws.specs.Rules.{Listing, Block, CommandArguments, Called, OnePostfix, Postfixes, joins_name, joins_call, joins_constant, method_behind}
use Rattle.parser_laws.proofs.Results.{differs}
use Rattle.parser_laws.proofs.Facts.{is_finish, Fact, word_taken, behind_within}
use Rattle.parser_laws.proofs.CompleteNames.{opened_word, joins}
use Rattle.parser_laws.proofs.CompleteBrackets.{closer_taken, closing_free}
use Rattle.parser_laws.proofs.CompleteCalls.{group_suffix, group_block_suffix, block_suffix, dot_called, safe_called}
use Rattle.parser_laws.proofs.CompleteCommands.{block_word}

module _ (owner : DoOwner) (names : Names) (ts : Tokens) (c : CalleeNode) where
  pub called_alone : opens_arguments ts ≡ false → block_at owner ts ≡ None
      → Fact (Called owner c (call_node c None None)) names ts names ts
  unfolding suffix
  called_alone closed unblocked = (omega arith, refl, λ d room. (callee c, refl, rw (closed, unblocked) refl))

  module _ (known : Names) (rest : Tokens) (l : ListNode) (opened : opens_arguments ts ≡ true)
      (listing : Fact (Listing owners.Call l) names (behind ts) known rest)
      (closing : first (skip_newlines rest) ≡ words.Mark marks.CloseParenthesis) where
    pub called_with : block_at owner (behind (skip_newlines rest)) ≡ None
        → Fact (Called owner c (call_node c (Some (arguments_node l)) None)) names ts known
        (behind (skip_newlines rest))
    called_with unblocked =
        let one = word_taken (words.Mark marks.OpenParenthesis) ts (opened_word ts opened) refl in
        let last = closer_taken _ rest closing in
        let fewer = listing.0 in (
          omega arith,
          refl,
          λ d room. (
            whole (call_node c (Some (arguments_node l)) None),
            refl,
            group_suffix (suc d) c owner names known ts rest l opened
                (listing.2 d (omega arith) (closing_free _ rest closing refl)) closing unblocked,
          ),
        )

    pub called_with_block : (style : BlockStyle) (later : Names) (more : Tokens) (b : BlockNode)
        → block_at owner (behind (skip_newlines rest)) ≡ Some style → is_none l.block ≡ true
        → Fact (Block style b) known (behind (skip_newlines rest)) later more
        → Fact (Called owner c (call_node c (Some (arguments_node l)) (Some b))) names ts later more
    called_with_block style later more b there none block =
        let one = word_taken (words.Mark marks.OpenParenthesis) ts (opened_word ts opened) refl in
        let last = closer_taken _ rest closing in
        let fewer = listing.0 in
        let less = block.0 in (
          omega arith,
          refl,
          λ d room. (
            whole (call_node c (Some (arguments_node l)) (Some b)),
            refl,
            group_block_suffix (suc d) c owner style names known later ts rest more l b opened
                (listing.2 d (omega arith) (closing_free _ rest closing refl)) closing there none
                (block.2 d (omega arith)),
          ),
        )

  pub called_block : (style : BlockStyle) (known : Names) (rest : Tokens) (b : BlockNode) → opens_arguments ts ≡ false
      → block_at owner ts ≡ Some style → Fact (Block style b) names ts known rest
      → Fact (Called owner c (call_node c None (Some b))) names ts known rest
  called_block style known rest b closed there block =
      let less = block.0 in (
        omega arith,
        refl,
        λ d room. (
          whole (call_node c None (Some b)),
          refl,
          block_suffix (suc d) c owner style names known ts rest b closed there (block.2 d room),
        ),
      )

-- what a mark before a parenthesis makes of a value and a list
record Calls (w : Word) : Type 0 where
  mark : Postfix
  there : postfix_at w ≡ Some mark
  some : is_finish w ≡ false
  called : (i : Inside) (n : Node) (names known : Names) (ts rest : Tokens) (owner : DoOwner) (l : ListNode)
      → first (behind ts) ≡ words.Mark marks.OpenParenthesis
      → i.list names (behind (behind ts)) owners.Call ≡ Ok (l, known, rest)
      → first (skip_newlines rest) ≡ words.Mark marks.CloseParenthesis
      → postfixed i n mark names ts owner ≡ Ok (
        whole (call_node (method_behind w n (codes "call") (place_at ts)) (Some (arguments_node l)) None),
        known,
        behind (skip_newlines rest),
      )

mark_calls : (p : Punctuator) → joins_call (words.Mark p) ≡ true → Calls (words.Mark p)
mark_calls marks.Dot h = record { mark = postfixes.Dot; there = refl; some = refl; called = dot_called }
mark_calls marks.AmpersandDot h = record { mark = postfixes.Safe; there = refl; some = refl; called = safe_called }
mark_calls p h = differs (sym h)

calls : (w : Word) → joins_call w ≡ true → Calls w
calls (words.Mark p) h = mark_calls p h
calls w h = differs (sym h)

module _ (owner : DoOwner) (names : Names) (ts : Tokens) (n : Node) where
  pub index_postfix : (known : Names) (rest : Tokens) (l : ListNode) → first ts ≡ words.Mark marks.OpenBracket
      → Fact (Listing owners.Call l) names (behind ts) known rest → is_none l.block ≡ true
      → first (skip_newlines rest) ≡ words.Mark marks.CloseBracket
      → Fact (OnePostfix owner n (node.index n (items_of (whole_items l.items l.pairs)))) names ts known
      (behind (skip_newlines rest))
  unfolding postfixed
  index_postfix known rest l there listing none closing =
      let one = word_taken (words.Mark marks.OpenBracket) ts there refl in
      let last = closer_taken _ rest closing in
      let fewer = listing.0 in (
        omega arith,
        refl,
        λ d room.
            let read = listing.2 d (omega arith) (closing_free _ rest closing refl) in (
              postfixes.Index,
              rw there refl,
              whole (node.index n (items_of (whole_items l.items l.pairs))),
              refl,
              rw read (rw none (rw closing refl)),
            ),
      )

  pub constant_postfix : first ts ≡ words.Mark marks.ColonColon → first (behind ts) ≡ words.Constant
      → opens_arguments (behind (behind ts)) ≡ false
      → Fact (OnePostfix owner n (node.scoped_constant n (bytes_at (behind ts)))) names ts names (behind (behind ts))
  unfolding postfixed
  constant_postfix there constant closed =
      let one = word_taken (words.Mark marks.ColonColon) ts there refl in
      let two = behind_within (behind ts) in (
        omega arith,
        refl,
        λ d room. (
          postfixes.Scope,
          rw there refl,
          whole (node.scoped_constant n (bytes_at (behind ts))),
          refl,
          rw (constant, closed) refl,
        ),
      )

  module _ (known : Names) (rest : Tokens) (m : Node) (there : joins_name (first ts) ≡ true) where
    -- what is called behind a mark
    named_postfix : (c : CalleeNode) → ((i : Inside)
        → postfixed i n (joins (first ts) there).mark names ts owner ≡ suffix i c names (behind (behind ts)) owner)
        → Fact (Called owner c m) names (behind (behind ts)) known rest
        → Fact (OnePostfix owner n m) names ts known rest
    named_postfix c same inner =
        let j = joins (first ts) there in
        let one = word_taken (first ts) ts refl j.some in
        let two = behind_within (behind ts) in
        let fewer = inner.0 in (
          omega arith,
          refl,
          λ d room. let r = inner.2 d (omega arith) in (j.mark, j.there, r.0, r.1, same (level_above (levels d)) ∙ r.2),
        )

    pub method_postfix : is_name_word (first (behind ts)) ≡ true → joins_constant (first ts) (behind ts) ≡ false
        → Fact (Called owner (method_behind (first ts) n (bytes_at (behind ts)) (place_at ts)) m) names
        (behind (behind ts)) known rest → Fact (OnePostfix owner n m) names ts known rest
    method_postfix is other inner =
        named_postfix (method_behind (first ts) n (bytes_at (behind ts)) (place_at ts))
        (λ i. let j = joins (first ts) there in j.named i n names ts owner is other) inner

    pub non_ascii_postfix : first (behind ts) ≡ words.Other outsides.NonAsciiName
        → Fact (Called owner (outside_callee outsides.NonAsciiName (place_at (behind ts)) (n ∷ [])) m) names
        (behind (behind ts)) known rest
        → Fact (OnePostfix owner n m) names ts known rest
    non_ascii_postfix is inner =
        named_postfix (outside_callee outsides.NonAsciiName (place_at (behind ts)) (n ∷ []))
        (λ i. let j = joins (first ts) there in j.outside i n names ts owner is) inner

  pub call_postfix : (known : Names) (rest : Tokens) (l : ListNode) → joins_call (first ts) ≡ true
      → first (behind ts) ≡ words.Mark marks.OpenParenthesis
      → Fact (Listing owners.Call l) names (behind (behind ts)) known rest
      → first (skip_newlines rest) ≡ words.Mark marks.CloseParenthesis
      → Fact (OnePostfix owner n (call_node (method_behind (first ts) n (codes "call") (place_at ts))
      (Some (arguments_node l)) None)) names ts known (behind (skip_newlines rest))
  call_postfix known rest l there opened listing closing =
      let j = calls (first ts) there in
      let one = word_taken (first ts) ts refl j.some in
      let two = behind_within (behind ts) in
      let last = closer_taken _ rest closing in
      let fewer = listing.0 in
      let made : Node = call_node (method_behind (first ts) n (codes "call") (place_at ts)) (Some (arguments_node l))
      None in (
        omega arith,
        refl,
        λ d room. (
          j.mark,
          j.there,
          whole made,
          refl,
          j.called (level_above (levels d)) n names known ts rest owner l opened
              (listing.2 d (omega arith) (closing_free _ rest closing refl)) closing,
        ),
      )

module _ (owner : DoOwner) (names known : Names) (ts rest : Tokens) (n m : Node)
    (inner : Fact (OnePostfix owner n m) names ts known rest) (d : ℕ) (room : length ts ≤ d) where
  -- a postfix goes on each operand of that node
  turn : (o : OperandNode) → operand_node o ≡ n → (k : ℕ) → 0 < k
      → chain_within (level_above (levels d)) k false owner o names ts ≡ chain_within (level_above (levels d)) (k - 1)
      false owner (inner.2 d room).2 known rest
  turn o same k some =
      let r = inner.2 d room in
      let turned : chain_turn (level_above (levels d)) (continues o ts false)
      (chain_within (level_above (levels d)) (k - 1) false owner) o names ts owner ≡ chain_within
      (level_above (levels d)) (k - 1) false owner r.2 known rest =
      rw r.1 (rw (same, r.4) refl) in
      chain_step (level_above (levels d)) k false owner o names ts some ∙ turned

pub last_postfix : (owner : DoOwner) (names known : Names) (ts rest : Tokens) (n m : Node)
    → Fact (OnePostfix owner n m) names ts known rest → postfix_at (first rest) ≡ None
    → Fact (Postfixes owner n m) names ts known rest
last_postfix owner names known ts rest n m inner ends =
    let fewer = inner.0 in (
      fewer,
      refl,
      λ d room.
          let r = inner.2 d room in (
            r.2,
            r.3,
            λ o same k enough.
                let stops : chain_within (level_above (levels d)) (k - 1) false owner r.2 known rest ≡ Ok
                (r.2, known, rest) =
                chain_step (level_above (levels d)) (k - 1) false owner r.2 known rest (omega arith) ∙ rw ends refl in
                turn owner names known ts rest n m inner d room o same k (omega arith) ∙ stops,
          ),
    )

pub more_postfixes : (owner : DoOwner) (names known later : Names) (ts rest more : Tokens) (n m all : Node)
    → Fact (OnePostfix owner n m) names ts known rest → Fact (Postfixes owner m all) known rest later more
    → Fact (Postfixes owner n all) names ts later more
more_postfixes owner names known later ts rest more n m all inner others =
    let fewer = inner.0 in
    let less = others.0 in (
      omega arith,
      refl,
      λ d room.
          let r = inner.2 d room in
          let s = others.2 d (omega arith) in (
            s.0,
            s.1,
            λ o same k enough. turn owner names known ts rest n m inner d room o same k (omega arith)
                ∙ s.2 r.2 r.3 (k - 1) (omega arith),
          ),
    )

pub postfixes_fact : (owner : DoOwner) (names known later last : Names) (ts rest more left : Tokens) (c : CalleeNode)
    (l : ListNode) (b : BlockNode) (n : Node) → begins_argument ts ≡ true → opens_arguments ts ≡ false
    → Fact (Listing (in_command owner) l) names ts known rest → block_at owner rest ≡ Some styles.Do
    → is_none l.block ≡ true → Fact (Block styles.Do b) known rest later more
    → Fact (Postfixes owner (call_node c (Some (arguments_node l)) (Some b)) n) later more last left
    → Fact (CommandArguments owner c n) names ts last left
unfolding command
postfixes_fact owner names known later last ts rest more left c l b n begun closed listing there alone block others =
    let e = listing.0 in
    let f = block.0 in
    let g = others.0 in
    let made : Node = call_node c (Some (arguments_node l)) (Some b) in (
      omega arith,
      refl,
      λ d room. (
        begun,
        closed,
        λ calm.
            let read = listing.2 d room (block_word (call_takes owner) (first rest) styles.Do there) in
            let got = block.2 d (omega arith) in
            let r = others.2 d (omega arith) in
            let all : chain_within (level_above (levels d)) (length more + 1) false owner (whole made) later more ≡ Ok
            (r.0, last, left) = r.2 (whole made) refl (length more + 1) (omega arith) in
            rw read (rw there (rw alone (rw got (rw all (rw r.1 refl))))),
      ),
    )
