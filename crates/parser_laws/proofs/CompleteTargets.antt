-- A target that is derived is read, before an assignment.
use Rattle.std.proofs.Common.{◌≡◌, ℕ, ◌+◌, ◌<◌, ◌≤◌, Bool, true, false, not, ◌&&◌, List, length, None, is_some, Ok, inl, inr, refl, sym, ap, subst, ◌∙◌, arith}
use Rattle.std.proofs.lemmas.Bool.{cases_Bool}
use Rattle.rb_syntax.specs.declared.keyword.Keyword.TheVariants as keywords
use Rattle.rb_syntax.specs.declared.outside.Outside.{Outside}
use Rattle.rb_syntax.specs.declared.outside.Outside.TheVariants as outsides
use Rattle.rb_syntax.specs.declared.punctuator.Punctuator.{Punctuator}
use Rattle.rb_syntax.specs.declared.punctuator.Punctuator.TheVariants as marks
use Rattle.parser_tree.specs.Node as node
use Rattle.parser_tree.specs.Node.{Node, nodes, one}
use Rattle.parser_tokens.specs.Tokens.{first, behind, bytes_at, place_at}
use Rattle.parser_tokens.specs.Operators.{prefix_at}
use Rattle.parser_tokens.specs.Starts.{begins_value, is_open_parenthesis, postfix_at}
use Rattle.parser_tokens.specs.declared.word.Word.{Word}
use Rattle.parser_tokens.specs.declared.word.Word.TheVariants as words
use Rattle.parser_ahead.specs.Names.{is_known, learned}
use Rattle.parser_ahead.specs.Primary.{primary_at, block_of, call_takes, is_name_word}
use Rattle.parser_ahead.specs.declared.primary.DoOwner.{DoOwner}
use Rattle.parser_nodes.specs.Nodes.{shape}
use Rattle.parser_nodes.specs.Leaf.{leaf, bare}
use Rattle.parser_nodes.specs.Calls.{CalleeNode, name_callee, method_callee, super_callee, outside_callee, call_node, operand_node, OperandNode, whole, callee, is_target, target_node, target_names}
use Rattle.parser_operands.specs.Operands.{suffix, compound, primary_by, primary, chain, operand, chain_within}
use Rattle.parser_operands.proofs.Turns.{chain_step}
use Rattle.parser_forms.specs.Reading.{Names, Tokens, Inside}
use Rattle.rb_parser.specs.Levels.{levels}
use Rattle.parser_laws.specs.Rules.{Target, InnerTarget, is_place, is_outside_variable, Primary, Callee}
use Rattle.parser_laws.proofs.Results.{differs, both}
use Rattle.parser_laws.proofs.Plain.{no_arguments, no_call}
use Rattle.parser_laws.proofs.Facts.{Within, is_variable, ends_target, Fact, word_taken, is_bang, opens}
use Rattle.parser_ahead.specs.declared.primary.Place.{Place}
use Rattle.parser_ahead.specs.declared.primary.Place.TheVariants as places
use Rattle.parser_laws.proofs.Heads.{variable_head, head_opens}
use Rattle.parser_laws.proofs.OperatorFacts.{prefix_not}
use Rattle.parser_laws.proofs.CompleteOperands.{never_continues, chain_ends}
use Rattle.parser_laws.proofs.CompleteCallees.{method_fact}

-- what stands behind a target goes on neither a name nor a postfix
record Stops (w : Word) : Type 0 where
  postfix : postfix_at w ≡ None
  block : (takes : Bool) → block_of takes w ≡ None
  parenthesis : is_open_parenthesis w ≡ false
  argument : begins_value w ≡ false

mark_stops : (p : Punctuator) → ends_target (words.Mark p) ≡ true → Stops (words.Mark p)
mark_stops marks.Assign h = record { postfix = refl; block = λ t. refl; parenthesis = refl; argument = refl }
mark_stops marks.AndAndAssign h = record { postfix = refl; block = λ t. refl; parenthesis = refl; argument = refl }
mark_stops marks.OrOrAssign h = record { postfix = refl; block = λ t. refl; parenthesis = refl; argument = refl }
mark_stops marks.PlusAssign h = record { postfix = refl; block = λ t. refl; parenthesis = refl; argument = refl }
mark_stops marks.MinusAssign h = record { postfix = refl; block = λ t. refl; parenthesis = refl; argument = refl }
mark_stops marks.StarAssign h = record { postfix = refl; block = λ t. refl; parenthesis = refl; argument = refl }
mark_stops marks.SlashAssign h = record { postfix = refl; block = λ t. refl; parenthesis = refl; argument = refl }
mark_stops marks.PercentAssign h = record { postfix = refl; block = λ t. refl; parenthesis = refl; argument = refl }
mark_stops marks.StarStarAssign h = record { postfix = refl; block = λ t. refl; parenthesis = refl; argument = refl }
mark_stops marks.ShiftLeftAssign h = record { postfix = refl; block = λ t. refl; parenthesis = refl; argument = refl }
mark_stops marks.ShiftRightAssign h = record { postfix = refl; block = λ t. refl; parenthesis = refl; argument = refl }
mark_stops marks.AmpersandAssign h = record { postfix = refl; block = λ t. refl; parenthesis = refl; argument = refl }
mark_stops marks.BarAssign h = record { postfix = refl; block = λ t. refl; parenthesis = refl; argument = refl }
mark_stops marks.CaretAssign h = record { postfix = refl; block = λ t. refl; parenthesis = refl; argument = refl }
mark_stops marks.Comma h = record { postfix = refl; block = λ t. refl; parenthesis = refl; argument = refl }
mark_stops marks.CloseParenthesis h = record { postfix = refl; block = λ t. refl; parenthesis = refl; argument = refl }
mark_stops marks.CloseBar h = record { postfix = refl; block = λ t. refl; parenthesis = refl; argument = refl }
mark_stops p h = differs (sym h)

stops : (w : Word) → ends_target w ≡ true → Stops w
stops (words.Mark p) h = mark_stops p h
stops (words.Key keywords.In) h = record { postfix = refl; block = λ t. refl; parenthesis = refl; argument = refl }
stops (words.Key keywords.Then) h = record { postfix = refl; block = λ t. refl; parenthesis = refl; argument = refl }
stops words.Finish h = record { postfix = refl; block = λ t. refl; parenthesis = refl; argument = refl }
stops words.Newline h = record { postfix = refl; block = λ t. refl; parenthesis = refl; argument = refl }
stops words.Semicolon h = record { postfix = refl; block = λ t. refl; parenthesis = refl; argument = refl }
stops w h = differs (sym h)

pub no_prefix : (w : Word) (ts : Tokens) → first ts ≡ w → is_variable w ≡ true → prefix_at ts ≡ None
unfolding prefix_at
no_prefix words.Identifier ts there h = rw there refl
no_prefix words.Constant ts there h = rw there refl
no_prefix words.InstanceVariable ts there h = rw there refl
no_prefix words.GlobalVariable ts there h = rw there refl
no_prefix (words.Other o) ts there h = rw there refl
no_prefix w ts there h = differs (sym h)

chain_read : (i : Inside) (owner : DoOwner) (names : Names) (ts : Tokens) (o : OperandNode)
    → primary i names ts owner ≡ Ok (o, names, behind ts) → postfix_at (first (behind ts)) ≡ None
    → (commands : Bool) → chain i names ts commands owner ≡ Ok (o, names, behind ts)
unfolding chain
chain_read i owner names ts o read ends commands =
    let more = chain_step i (length (behind ts) + 1) commands owner o names (behind ts) (omega arith) in
    rw read (more ∙ rw (never_continues o (behind ts) commands ends) refl)

operand_read : (i : Inside) (owner : DoOwner) (names : Names) (ts : Tokens) (w : Word) (o : OperandNode) → first ts ≡ w
    → is_variable w ≡ true → primary i names ts owner ≡ Ok (o, names, behind ts) → postfix_at (first (behind ts)) ≡ None
    → (commands : Bool) → operand i names ts commands owner ≡ Ok (o, names, behind ts)
unfolding operand
operand_read i owner names ts w o there h read ends commands =
    rw (no_prefix w ts there h) (chain_read i owner names ts o read ends commands)

is_shorter : (w : Word) (ts : Tokens) → first ts ≡ w → is_variable w ≡ true → length (behind ts) < length ts
is_shorter words.Identifier ts there h = word_taken words.Identifier ts there refl
is_shorter words.Constant ts there h = word_taken words.Constant ts there refl
is_shorter words.InstanceVariable ts there h = word_taken words.InstanceVariable ts there refl
is_shorter words.GlobalVariable ts there h = word_taken words.GlobalVariable ts there refl
is_shorter (words.Other o) ts there h = word_taken (words.Other o) ts there refl
is_shorter w ts there h = differs (sym h)

variable_opens : (ts : Tokens) → is_variable (first ts) ≡ true → (opens ts && not (is_bang (first ts))) ≡ true
variable_opens ts h = both (opens ts) _ (head_opens ts (variable_head (first ts) h)) (no_bang (first ts) h)
  where
    no_bang : (w : Word) → is_variable w ≡ true → not (is_bang w) ≡ true
    no_bang (words.Mark p) g = differs (sym g)
    no_bang w g = refl

module _ (owner : DoOwner) (names : Names) (ts : Tokens) where
  target_fact : (w : Word) (n : Node) (known : Names) → first ts ≡ w → is_variable w ≡ true
      → ((i : Inside) → Stops (first (behind ts)) → (o : OperandNode)
      × (primary i names ts owner ≡ Ok (o, names, behind ts)) × (is_target o ≡ true) × (target_node o ≡ n)
      × (target_names o names ≡ known))
      → Fact (Target owner n) names ts known (behind ts)
  target_fact w n known there h read = (
    is_shorter w ts there h,
    variable_opens ts (subst (λ x. is_variable x ≡ true) (sym there) h),
    λ d room ends.
        let s = stops (first (behind ts)) ends in
        let r = read (levels d) s in (
          r.0,
          names,
          operand_read (levels d) owner names ts w r.0 there h r.1 s.postfix,
          r.2,
          r.3,
          r.4,
          chain_read (levels d) owner names ts r.0 r.1 s.postfix,
        ),
  )

  pub instance_target : first ts ≡ words.InstanceVariable
      → Fact (Target owner (node.instance_variable (bytes_at ts))) names ts names (behind ts)
  unfolding primary_at primary_by compound leaf shape
  instance_target is = target_fact _ _ _ is refl
      (λ i s. (whole (node.instance_variable (bytes_at ts)), rw is (rw is refl), refl, refl, refl))

  pub global_target : first ts ≡ words.GlobalVariable
      → Fact (Target owner (node.global_variable (bytes_at ts))) names ts names (behind ts)
  unfolding primary_at primary_by compound leaf shape
  global_target is = target_fact _ _ _ is refl
      (λ i s. (whole (node.global_variable (bytes_at ts)), rw is (rw is refl), refl, refl, refl))

  pub constant_target : first ts ≡ words.Constant
      → Fact (Target owner (node.constant (bytes_at ts))) names ts names (behind ts)
  unfolding primary_at primary_by compound leaf shape
  constant_target is = target_fact _ _ _ is refl
      (λ i s. (
        whole (node.constant (bytes_at ts)),
        rw (is, no_call (behind ts) s.parenthesis s.argument) (rw is refl),
        refl,
        refl,
        refl,
      ))

  pub local_target : first ts ≡ words.Identifier
      → Fact (Target owner (node.local (bytes_at ts))) names ts (learned names (bytes_at ts)) (behind ts)
  unfolding primary_at primary_by suffix shape
  local_target is = target_fact _ _ _ is refl (λ i s. elim (cases_Bool (is_known (bytes_at ts) names)) [
    | inl known ↦ (
      whole (node.local (bytes_at ts)),
      rw (is, known, no_call (behind ts) s.parenthesis s.argument) refl,
      refl,
      refl,
      rw known refl,
    )
    | inr other ↦ (
      callee (name_callee (bytes_at ts) true),
      rw (is, other) (rw (no_arguments (behind ts) s.parenthesis, s.block (call_takes owner), is) refl),
      refl,
      refl,
      rw other refl,
    )
  ])

  pub outside_target : (o : Outside) → first ts ≡ words.Other o → is_outside_variable o ≡ true
      → Fact (Target owner (bare o (place_at ts))) names ts names (behind ts)
  unfolding primary_at primary_by compound leaf shape
  outside_target outsides.ClassVariable is h =
      target_fact _ _ _ is refl (λ i s. (
        whole (bare outsides.ClassVariable (place_at ts)),
        rw is (rw is refl),
        refl,
        refl,
        refl,
      ))
  outside_target outsides.SpecialGlobal is h =
      target_fact _ _ _ is refl (λ i s. (
        whole (bare outsides.SpecialGlobal (place_at ts)),
        rw is (rw is refl),
        refl,
        refl,
        refl,
      ))
  outside_target o is h = differs (sym h)

no_prefix_bang : (ts : Tokens) → prefix_at ts ≡ None → not (is_bang (first ts)) ≡ true
unfolding prefix_at
no_prefix_bang ts none = by_word (first ts) refl
  where
    by_mark : (p : Punctuator) → first ts ≡ words.Mark p → not (is_bang (words.Mark p)) ≡ true
    by_mark marks.Not there = differs (ap is_some (sym (prefix_not ts there) ∙ none))
    by_mark p there = refl

    by_word : (w : Word) → first ts ≡ w → not (is_bang w) ≡ true
    by_word (words.Mark p) there = by_mark p there
    by_word w there = refl

place_target : (n : Node) → is_place n ≡ true → is_target (whole n) ≡ true
unfolding shape
place_target (node.index e is) h = refl
place_target (node.scoped_constant e x) h = refl
place_target n h = differs (sym h)

-- an index and a constant of a value are no names alone
place_whole : (o : OperandNode) (n : Node) → operand_node o ≡ n → is_place n ≡ true → o ≡ whole n
place_whole (whole m) n same is = ap (λ k. whole k) same
place_whole (callee c) n same is = differs (sym (subst (λ m. is_place m ≡ true) (sym same) is) ∙ by_callee c)
  where
    by_callee : (c : CalleeNode) → is_place (call_node c None None) ≡ false
    by_callee (name_callee x b) = refl
    by_callee (method_callee r x b) = refl
    by_callee (super_callee at) = refl
    by_callee (outside_callee o at es) = refl

module _ (place : Place) (owner : DoOwner) (names known : Names) (ts rest : Tokens) (none : prefix_at ts ≡ None)
    (commands : Bool) (within : Within commands place) (d : ℕ) (room : length ts ≤ d)
    (ends : ends_target (first rest) ≡ true) where
  -- an index or a constant of a value
  place_read : (n : Node) → is_place n ≡ true → Fact (Primary place owner n) names ts known rest
      → (operand (levels d) names ts commands owner ≡ Ok (whole n, known, rest))
      × (chain (levels d) names ts commands owner ≡ Ok (whole n, known, rest))
  unfolding operand
  place_read n is inner =
      let s = stops (first rest) ends in
      let r = inner.2 d room in
      let chained : chain (levels d) names ts commands owner ≡ Ok (whole n, known, rest) =
      subst (λ (o : OperandNode). chain (levels d) names ts commands owner ≡ Ok (o, known, rest))
      (place_whole r.4 n r.5 is) (chain_ends (levels d) place n names known ts rest owner commands within r
      s.postfix) in
      (rw none chained, chained)

  -- what is called
  callee_read : (c : CalleeNode) → Fact (Callee place owner c) names ts known rest
      → (operand (levels d) names ts commands owner ≡ Ok (callee c, known, rest))
      × (chain (levels d) names ts commands owner ≡ Ok (callee c, known, rest))
  unfolding operand chain suffix
  callee_read c inner =
      let s = stops (first rest) ends in
      let alone : suffix (levels d) c known rest owner ≡ Ok (callee c, known, rest) =
      rw (no_arguments rest s.parenthesis, s.block (call_takes owner)) refl in
      let r = inner.2 d room (callee c) known rest (omega arith) alone in
      let t = r.4 (length r.2 + 1) (omega arith) in
      let some = t.1 in
      let all : chain_within (levels d) (length r.2 + 1) commands owner r.0 r.1 r.2 ≡ Ok (callee c, known, rest) =
      t.2 commands within ∙ chain_step (levels d) t.0 commands owner (callee c) known rest (omega arith)
      ∙ rw (never_continues (callee c) rest commands s.postfix) refl in
      let chained : chain (levels d) names ts commands owner ≡ Ok (callee c, known, rest) = rw r.3 all in
      (rw none chained, chained)

pub postfix_target : (owner : DoOwner) (names known : Names) (ts rest : Tokens) (n : Node) → is_place n ≡ true
    → prefix_at ts ≡ None → Fact (Primary places.Command owner n) names ts known rest
    → Fact (Target owner n) names ts known rest
postfix_target owner names known ts rest n is none inner = (
  inner.0,
  both (opens ts) _ inner.1 (no_prefix_bang ts none),
  λ d room ends. (
    whole n,
    known,
    λ commands. (place_read places.Command owner names known ts rest none commands (λ h. refl) d room ends n is
        inner).0,
    place_target n is,
    refl,
    refl,
    λ commands. (place_read places.Command owner names known ts rest none commands (λ h. refl) d room ends n is
        inner).1,
  ),
)

-- no command may stand where none is asked for
none_asked : Within false places.Argument
none_asked h = differs (sym h)

pub postfix_inner_target : (owner : DoOwner) (names known : Names) (ts rest : Tokens) (n : Node) → is_place n ≡ true
    → prefix_at ts ≡ None → Fact (Primary places.Argument owner n) names ts known rest
    → Fact (InnerTarget owner n) names ts known rest
postfix_inner_target owner names known ts rest n is none inner = (
  inner.0,
  both (opens ts) _ inner.1 (no_prefix_bang ts none),
  λ d room ends.
      let r = place_read places.Argument owner names known ts rest none false none_asked d room ends n is inner in
      (whole n, known, r.0, place_target n is, refl, refl, r.1),
)

pub callee_inner_target : (owner : DoOwner) (names known : Names) (ts rest : Tokens) (c : CalleeNode)
    → prefix_at ts ≡ None → Fact (Callee places.Argument owner c) names ts known rest → is_target (callee c) ≡ true
    → Fact (InnerTarget owner (target_node (callee c))) names ts (target_names (callee c) known) rest
callee_inner_target owner names known ts rest c none inner target = (
  inner.0,
  both (opens ts) _ inner.1 (no_prefix_bang ts none),
  λ d room ends.
      let r = callee_read places.Argument owner names known ts rest none false none_asked d room ends c inner in
      (callee c, known, r.0, target, refl, refl, r.1),
)

pub any_target : (owner : DoOwner) (names known : Names) (ts rest : Tokens) (n : Node)
    → Fact (Target owner n) names ts known rest → Fact (InnerTarget owner n) names ts known rest
any_target owner names known ts rest n inner =
    (inner.0, inner.1, λ d room ends. let t = inner.2 d room ends in (t.0, t.1, t.2 false, t.3, t.4, t.5, t.6 false))

-- what is called, and may be assigned to
called_target : (owner : DoOwner) (names known : Names) (ts rest : Tokens) (c : CalleeNode) → prefix_at ts ≡ None
    → Fact (Callee places.Command owner c) names ts known rest → is_target (callee c) ≡ true
    → Fact (Target owner (target_node (callee c))) names ts (target_names (callee c) known) rest
called_target owner names known ts rest c none inner target = (
  inner.0,
  both (opens ts) _ inner.1 (no_prefix_bang ts none),
  λ d room ends. (
    callee c,
    known,
    λ commands. (callee_read places.Command owner names known ts rest none commands (λ h. refl) d room ends c inner).0,
    target,
    refl,
    refl,
    λ commands. (callee_read places.Command owner names known ts rest none commands (λ h. refl) d room ends c inner).1,
  ),
)

pub method_target : (owner : DoOwner) (names known : Names) (ts rest : Tokens) (n : Node) → prefix_at ts ≡ None
    → Fact (Primary places.Command owner n) names ts known rest → first rest ≡ words.Mark marks.Dot
    → is_name_word (first (behind rest)) ≡ true
    → Fact (Target owner (node.call (one n) (bytes_at (behind rest)) node.none node.none)) names ts known
    (behind (behind rest))
method_target owner names known ts rest n none inner there is =
    called_target owner names known ts (behind (behind rest)) (method_callee n (bytes_at (behind rest)) false) none
    (method_fact places.Command owner names known ts rest n inner is there) refl

pub callee_target : (owner : DoOwner) (names known : Names) (ts rest : Tokens) (o : Outside) (at : ℕ) (ns : List Node)
    → prefix_at ts ≡ None → Fact (Callee places.Command owner (outside_callee o at ns)) names ts known rest
    → Fact (Target owner (node.outside o at (nodes ns))) names ts known rest
callee_target owner names known ts rest o at ns none inner =
    called_target owner names known ts rest (outside_callee o at ns) none inner refl
