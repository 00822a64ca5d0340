-- Calls with arguments and blocks that are derived are read.
use Rattle.std.proofs.Common.{◌≡◌, ℕ, ◌-◌, ◌<◌, ◌≤◌, true, false, [], ◌∷◌, codes, length, Some, None, Ok, refl, ap, ◌∙◌, arith}
use Rattle.rb_syntax.specs.declared.outside.Outside.TheVariants as outsides
use Rattle.rb_syntax.specs.declared.punctuator.Punctuator.TheVariants as marks
use Rattle.parser_tree.specs.Node as node
use Rattle.parser_tree.specs.Node.{Node}
use Rattle.parser_tree.specs.View.{items_of}
use Rattle.parser_tokens.specs.Tokens.{first, behind, place_at}
use Rattle.parser_tokens.specs.Expect.{skip_newlines}
use Rattle.parser_tokens.specs.Starts.{opens_arguments, postfix_at}
use Rattle.parser_tokens.specs.declared.starts.Postfix.{Postfix}
use Rattle.parser_tokens.specs.declared.starts.Postfix.TheVariants as postfixes
use Rattle.parser_tokens.specs.declared.word.Word.{Word}
use Rattle.parser_tokens.specs.declared.word.Word.TheVariants as words
use Rattle.parser_ahead.specs.Primary.{block_at}
use Rattle.parser_ahead.specs.declared.primary.BlockStyle.{BlockStyle}
use Rattle.parser_ahead.specs.declared.primary.DoOwner.{DoOwner}
use Rattle.parser_ahead.specs.declared.primary.DoOwner.TheVariants as owners
use Rattle.parser_ahead.specs.declared.primary.Place.{Place}
use Rattle.parser_nodes.specs.Listed.{ListNode, is_none, whole_items, arguments_node}
use Rattle.parser_nodes.specs.Calls.{CalleeNode, method_callee, outside_callee, OperandNode, whole, callee, operand_node, call_node}
use Rattle.parser_form_nodes.specs.Parameters.{BlockNode}
use Rattle.parser_operands.specs.Operands.{suffix, postfixed}
use Rattle.parser_forms.specs.Reading.{Names, Tokens, Inside}
use Rattle.rb_parser.specs.Levels.{levels}
use Rattle.parser_laws.specs.Rules.{Primary as PrimaryRule, Callee, Listing, Block, is_alone, is_taken_callee}
use Rattle.parser_laws.proofs.Facts.{is_finish, Settled, Fact, levels_at, word_taken}
use Rattle.parser_laws.proofs.CompletePostfixes.{behind_postfix}
use Rattle.parser_laws.proofs.CompleteNames.{opened_word, alone_read, alone_settled}
use Rattle.parser_laws.proofs.CompleteBrackets.{closer_taken, closing_free, list_below}

-- the block of the level below
pub block_below : (d : ℕ) (style : BlockStyle) (names known : Names) (ts rest : Tokens) (b : BlockNode) → 0 < d
    → Fact (Block style b) names ts known rest → length ts ≤ d - 1
    → (levels d).block names ts style ≡ Ok (b, known, rest)
block_below d style names known ts rest b some inner room =
    ap (λ (i : Inside). i.block names ts style) (levels_at d some) ∙ inner.2 (d - 1) room

-- a list in parentheses behind a callee, without a block
pub group_suffix : (d : ℕ) (c : CalleeNode) (owner : DoOwner) (names known : Names) (ts rest : Tokens) (l : ListNode)
    → opens_arguments ts ≡ true → (levels d).list names (behind ts) owners.Call ≡ Ok (l, known, rest)
    → first (skip_newlines rest) ≡ words.Mark marks.CloseParenthesis
    → block_at owner (behind (skip_newlines rest)) ≡ None
    → suffix (levels d) c names ts owner ≡ Ok
    (whole (call_node c (Some (arguments_node l)) None), known, behind (skip_newlines rest))
unfolding suffix
group_suffix d c owner names known ts rest l opened read closing unblocked =
    rw opened (rw read (rw closing (rw unblocked refl)))

-- the same with a block
pub group_block_suffix : (d : ℕ) (c : CalleeNode) (owner : DoOwner) (style : BlockStyle) (names known later : Names)
    (ts rest more : Tokens) (l : ListNode) (b : BlockNode) → opens_arguments ts ≡ true
    → (levels d).list names (behind ts) owners.Call ≡ Ok (l, known, rest)
    → first (skip_newlines rest) ≡ words.Mark marks.CloseParenthesis
    → block_at owner (behind (skip_newlines rest)) ≡ Some style → is_none l.block ≡ true
    → (levels d).block known (behind (skip_newlines rest)) style ≡ Ok (b, later, more)
    → suffix (levels d) c names ts owner ≡ Ok (whole (call_node c (Some (arguments_node l)) (Some b)), later, more)
unfolding suffix
group_block_suffix d c owner style names known later ts rest more l b opened read closing there none block =
    rw opened (rw read (rw closing (rw there (rw none (rw block refl)))))

-- a block behind a callee
pub block_suffix : (d : ℕ) (c : CalleeNode) (owner : DoOwner) (style : BlockStyle) (names known : Names)
    (ts rest : Tokens) (b : BlockNode) → opens_arguments ts ≡ false → block_at owner ts ≡ Some style
    → (levels d).block names ts style ≡ Ok (b, known, rest)
    → suffix (levels d) c names ts owner ≡ Ok (whole (call_node c None (Some b)), known, rest)
unfolding suffix
block_suffix d c owner style names known ts rest b closed there block = rw closed (rw there (rw block refl))

module _ (place : Place) (owner : DoOwner) (names known : Names) (ts rest : Tokens) (c : CalleeNode)
    (inner : Fact (Callee place owner c) names ts known rest) where
  -- what is read behind a callee makes a primary
  behind_callee : (o : OperandNode) (n : Node) (later : Names) (more : Tokens) → operand_node o ≡ n
      → Settled o place more → length more ≤ length rest
      → ((d : ℕ) → length rest < d → suffix (levels d) c known rest owner ≡ Ok (o, later, more))
      → Fact (PrimaryRule place owner n) names ts later more
  behind_callee o n later more same settled within read =
      let l = inner.0 in (
        omega arith,
        inner.1,
        λ d room.
            let f = inner.2 d room o later more within (read d (omega arith)) in
            (f.0, f.1, f.2, f.3, o, same, settled, f.4),
      )

  pub alone_call : is_alone place owner rest ≡ true → is_taken_callee place c (first rest) ≡ false
      → Fact (PrimaryRule place owner (call_node c None None)) names ts known rest
  alone_call alone free =
      behind_callee (callee c) (call_node c None None) known rest refl (alone_settled place owner rest alone c free)
      (omega arith) (λ d room. alone_read place owner rest alone (levels d) c known)

  pub group_call : (later : Names) (more : Tokens) (l : ListNode) → opens_arguments rest ≡ true
      → Fact (Listing owners.Call l) known (behind rest) later more
      → first (skip_newlines more) ≡ words.Mark marks.CloseParenthesis
      → block_at owner (behind (skip_newlines more)) ≡ None
      → Fact (PrimaryRule place owner (call_node c (Some (arguments_node l)) None)) names ts later
      (behind (skip_newlines more))
  group_call later more l opened listing closing unblocked =
      let one = word_taken (words.Mark marks.OpenParenthesis) rest (opened_word rest opened) refl in
      let last = closer_taken _ more closing in
      let fewer = listing.0 in
      behind_callee (whole (call_node c (Some (arguments_node l)) None)) (call_node c (Some (arguments_node l)) None)
      later (behind (skip_newlines more)) refl tt (omega arith)
      (λ d room.
      let read = list_below d known later (behind rest) more owners.Call l (omega arith) listing (omega arith)
      (closing_free _ more closing refl) in
      group_suffix d c owner known later rest more l opened read closing unblocked)

  pub group_block_call : (style : BlockStyle) (later last : Names) (more left : Tokens) (l : ListNode) (b : BlockNode)
      → opens_arguments rest ≡ true → Fact (Listing owners.Call l) known (behind rest) later more
      → first (skip_newlines more) ≡ words.Mark marks.CloseParenthesis
      → block_at owner (behind (skip_newlines more)) ≡ Some style → is_none l.block ≡ true
      → Fact (Block style b) later (behind (skip_newlines more)) last left
      → Fact (PrimaryRule place owner (call_node c (Some (arguments_node l)) (Some b))) names ts last left
  group_block_call style later last more left l b opened listing closing there none block =
      let one = word_taken (words.Mark marks.OpenParenthesis) rest (opened_word rest opened) refl in
      let final = closer_taken _ more closing in
      let fewer = listing.0 in
      let less = block.0 in
      behind_callee (whole (call_node c (Some (arguments_node l)) (Some b)))
      (call_node c (Some (arguments_node l)) (Some b)) last left refl tt (omega arith)
      (λ d room.
      let read = list_below d known later (behind rest) more owners.Call l (omega arith) listing (omega arith)
      (closing_free _ more closing refl) in
      let got = block_below d style later last (behind (skip_newlines more)) left b (omega arith) block (omega arith) in
      group_block_suffix d c owner style known later last rest more left l b opened read closing there none got)

  pub block_call : (style : BlockStyle) (later : Names) (more : Tokens) (b : BlockNode) → opens_arguments rest ≡ false
      → block_at owner rest ≡ Some style
      → Fact (Block style b) known rest later more
      → Fact (PrimaryRule place owner (call_node c None (Some b))) names ts later more
  block_call style later more b closed there block =
      let less = block.0 in
      behind_callee (whole (call_node c None (Some b))) (call_node c None (Some b)) later more refl tt (omega arith)
      (λ d room. block_suffix d c owner style known later rest more b closed there
      (block_below d style known later rest more b (omega arith) block (omega arith)))

module _ (i : Inside) (n : Node) (names known : Names) (ts rest : Tokens) (owner : DoOwner) (l : ListNode)
    (opened : first (behind ts) ≡ words.Mark marks.OpenParenthesis)
    (read : i.list names (behind (behind ts)) owners.Call ≡ Ok (l, known, rest))
    (closing : first (skip_newlines rest) ≡ words.Mark marks.CloseParenthesis) where
  -- the method call of a value behind .
  pub dot_called : postfixed i n postfixes.Dot names ts owner ≡ Ok (
    whole (call_node (method_callee n (codes "call") false) (Some (arguments_node l)) None),
    known,
    behind (skip_newlines rest),
  )
  unfolding postfixed
  dot_called = rw opened (rw read (rw closing refl))

  -- and behind &.
  pub safe_called : postfixed i n postfixes.Safe names ts owner ≡ Ok (
    whole (call_node (outside_callee outsides.SafeNavigation (place_at ts) (n ∷ [])) (Some (arguments_node l)) None),
    known,
    behind (skip_newlines rest),
  )
  unfolding postfixed
  safe_called = rw opened (rw read (rw closing refl))

module _ (place : Place) (owner : DoOwner) (names known later : Names) (ts rest more : Tokens) (n : Node) (l : ListNode)
    (left : Fact (PrimaryRule place owner n) names ts known rest) where
  call_behind : (p : Postfix) (w : Word) (c : CalleeNode) → first rest ≡ w → postfix_at w ≡ Some p → is_finish w ≡ false
      → first (behind rest) ≡ words.Mark marks.OpenParenthesis
      → Fact (Listing owners.Call l) known (behind (behind rest)) later more
      → first (skip_newlines more) ≡ words.Mark marks.CloseParenthesis
      → ((i : Inside) → i.list known (behind (behind rest)) owners.Call ≡ Ok (l, later, more)
      → postfixed i n p known rest owner ≡ Ok
      (whole (call_node c (Some (arguments_node l)) None), later, behind (skip_newlines more)))
      → Fact (PrimaryRule place owner (call_node c (Some (arguments_node l)) None)) names ts later
      (behind (skip_newlines more))
  call_behind p w c there goes_on some opened listing closing same =
      let one = word_taken w rest there some in
      let two = word_taken (words.Mark marks.OpenParenthesis) (behind rest) opened refl in
      let last = closer_taken _ more closing in
      let fewer = listing.0 in
      let made : Node = call_node c (Some (arguments_node l)) None in
      behind_postfix place owner names known later ts rest (behind (skip_newlines more)) n left p
      (ap postfix_at there ∙ goes_on) (whole made) made refl tt (omega arith)
      (λ d room. same (levels d) (list_below d known later (behind (behind rest)) more owners.Call l (omega arith)
      listing (omega arith) (closing_free _ more closing refl)))

  pub dot_call : first rest ≡ words.Mark marks.Dot → first (behind rest) ≡ words.Mark marks.OpenParenthesis
      → Fact (Listing owners.Call l) known (behind (behind rest)) later more
      → first (skip_newlines more) ≡ words.Mark marks.CloseParenthesis
      → Fact (PrimaryRule place owner (call_node (method_callee n (codes "call") false) (Some (arguments_node l)) None))
      names ts later (behind (skip_newlines more))
  dot_call there opened listing closing =
      call_behind postfixes.Dot (words.Mark marks.Dot) (method_callee n (codes "call") false) there refl refl opened
      listing closing (λ i read. dot_called i n known later rest more owner l opened read closing)

  pub safe_call : first rest ≡ words.Mark marks.AmpersandDot → first (behind rest) ≡ words.Mark marks.OpenParenthesis
      → Fact (Listing owners.Call l) known (behind (behind rest)) later more
      → first (skip_newlines more) ≡ words.Mark marks.CloseParenthesis
      → Fact (PrimaryRule place owner (call_node (outside_callee outsides.SafeNavigation (place_at rest) (n ∷ []))
      (Some (arguments_node l)) None)) names ts later (behind (skip_newlines more))
  safe_call there opened listing closing =
      call_behind postfixes.Safe (words.Mark marks.AmpersandDot)
      (outside_callee outsides.SafeNavigation (place_at rest) (n ∷ [])) there refl refl opened listing closing
      (λ i read. safe_called i n known later rest more owner l opened read closing)

pub list_indexed : (place : Place) (owner : DoOwner) (names known later : Names) (ts rest more : Tokens) (n : Node)
    (l : ListNode) → Fact (PrimaryRule place owner n) names ts known rest → first rest ≡ words.Mark marks.OpenBracket
    → Fact (Listing owners.Call l) known (behind rest) later more → is_none l.block ≡ true
    → first (skip_newlines more) ≡ words.Mark marks.CloseBracket
    → Fact (PrimaryRule place owner (node.index n (items_of (whole_items l.items l.pairs)))) names ts later
    (behind (skip_newlines more))
unfolding postfixed
list_indexed place owner names known later ts rest more n l left there listing none closing =
    let one = word_taken (words.Mark marks.OpenBracket) rest there refl in
    let last = closer_taken _ more closing in
    let fewer = listing.0 in
    let made : Node = node.index n (items_of (whole_items l.items l.pairs)) in
    behind_postfix place owner names known later ts rest (behind (skip_newlines more)) n left postfixes.Index
    (rw there refl) (whole made) made refl tt (omega arith)
    (λ d room.
    let read = list_below d known later (behind rest) more owners.Call l (omega arith) listing (omega arith)
    (closing_free _ more closing refl) in
    rw read (rw none (rw closing refl)))
