-- Values and negations that are derived are read.
use Rattle.std.proofs.Common.{◌≡◌, ◌≢◌, ℕ, ◌+◌, ◌-◌, ◌<◌, ◌⊎◌, Bool, true, false, ◌&&◌, length, Option, Some, None, is_some, Ok, inl, inr, refl, sym, ap, subst, ◌∙◌, arith}
use Rattle.std.proofs.lemmas.Bool.{cases_Bool}
use Rattle.rb_syntax.specs.declared.keyword.Keyword.TheVariants as keywords
use Rattle.rb_syntax.specs.declared.punctuator.Punctuator.{Punctuator}
use Rattle.rb_syntax.specs.declared.punctuator.Punctuator.TheVariants as marks
use Rattle.parser_tree.specs.Node as node
use Rattle.parser_tree.specs.Node.{Node}
use Rattle.parser_tokens.specs.Tokens.{first, behind}
use Rattle.parser_tokens.specs.Operators.{infix_at, infix_mark, within_level, assignment_at, assignment_mark}
use Rattle.parser_tokens.specs.Starts.{is_open_parenthesis}
use Rattle.parser_tokens.specs.declared.operators.Prefix.TheVariants as prefixes
use Rattle.parser_tokens.specs.declared.word.Word.{Word}
use Rattle.parser_tokens.specs.declared.word.Word.TheVariants as words
use Rattle.parser_ahead.specs.Groups.{is_target_group}
use Rattle.parser_ahead.specs.Primary.{is_statement, allows_command, is_comma_word, start_at}
use Rattle.parser_ahead.specs.declared.primary.DoOwner.{DoOwner}
use Rattle.parser_ahead.specs.declared.primary.Place.{Place}
use Rattle.parser_ahead.specs.declared.primary.Place.TheVariants as places
use Rattle.parser_ahead.specs.declared.primary.Start.TheVariants as starts
use Rattle.parser_nodes.specs.Nodes.{prefix_node, choice_node}
use Rattle.parser_nodes.specs.Calls.{OperandNode, whole, callee, operand_node, is_target}
use Rattle.parser_nodes.specs.declared.listed.Sort.TheVariants as sorts
use Rattle.parser_operands.specs.Operands.{begins_command}
use Rattle.parser_operands.specs.Operators.{operators_from, question_at, value_from}
use Rattle.parser_phrases.specs.Phrases.{value_phrase, may_command, command_or_value, phrase_from, is_command_there, negated, operand_phrase, phrase_by, phrase}
use Rattle.parser_statements.specs.Statements.{is_not, negation}
use Rattle.parser_forms.specs.Reading.{Names, Tokens, Inside}
use Rattle.rb_parser.specs.Levels.{levels}
use Rattle.parser_laws.specs.Rules.{Argument, Operation, Negation, is_question, takes_target, is_taken}
use Rattle.parser_laws.proofs.Tests.{or_left}
use Rattle.parser_laws.proofs.Results.{clash, differs, and_false}
use Rattle.parser_laws.proofs.Facts.{Reads, Operates, Fact, levels_at, word_taken, Settled, is_bang, begins, opens}
use Rattle.parser_laws.proofs.Heads.{Front, head_no_not, front_start, not_start, plain_start, opens_begins}
use Rattle.parser_laws.proofs.Assigning.{or_false_parts}
use Rattle.parser_laws.proofs.OperatorFacts.{prefix_no_target}

-- an operator between operands is no assignment, and no comma
infix_mark_free : (l : ℕ) (p : Punctuator) → is_some (within_level l (infix_mark p)) ≡ true → (assignment_mark p ≡ None) × (is_comma_word (words.Mark p) ≡ false)
infix_mark_free l marks.Assign h = differs (sym h)
infix_mark_free l marks.AndAndAssign h = differs (sym h)
infix_mark_free l marks.OrOrAssign h = differs (sym h)
infix_mark_free l marks.PlusAssign h = differs (sym h)
infix_mark_free l marks.MinusAssign h = differs (sym h)
infix_mark_free l marks.StarAssign h = differs (sym h)
infix_mark_free l marks.SlashAssign h = differs (sym h)
infix_mark_free l marks.PercentAssign h = differs (sym h)
infix_mark_free l marks.StarStarAssign h = differs (sym h)
infix_mark_free l marks.ShiftLeftAssign h = differs (sym h)
infix_mark_free l marks.ShiftRightAssign h = differs (sym h)
infix_mark_free l marks.AmpersandAssign h = differs (sym h)
infix_mark_free l marks.BarAssign h = differs (sym h)
infix_mark_free l marks.CaretAssign h = differs (sym h)
infix_mark_free l marks.Comma h = differs (sym h)
infix_mark_free l p h = (refl, refl)

pub infix_free : (l : ℕ) (w : Word) → is_some (infix_at l w) ≡ true → (assignment_at w ≡ None) × (is_comma_word w ≡ false)
unfolding infix_at
infix_free l (words.Mark p) h = infix_mark_free l p h
infix_free l w h = (refl, refl)

question_false : (i : Inside) (w : Word) (test : Node) (names : Names) (ts : Tokens) (owner : DoOwner)
    → is_question w ≡ false → question_at i w test names ts owner ≡ Ok (test, names, ts)
question_false i (words.Mark marks.Question) test names ts owner h = differs h
question_false i w test names ts owner h = refl

none_of : {A : Type 0} (o : Option A) → is_some o ≡ false → o ≡ None
none_of None h = refl
none_of (Some x) h = differs h

pub true_and : (a b : Bool) → a ≡ true → (a && b) ≡ false → b ≡ false
true_and true b h e = e
true_and false b h e = differs (sym h)

bang_there : (x : Word) → is_bang x ≡ true → x ≡ words.Mark marks.Not
bang_there (words.Mark marks.Not) h = refl
bang_there x h = differs (sym h)

pub bang_other : (x : Word) → is_bang x ≡ false → x ≢ words.Mark marks.Not
bang_other x h e = clash (is_bang x) (ap is_bang e) h

bang_is : (w : Word) → (w ≡ words.Mark marks.Not) ⊎ (w ≢ words.Mark marks.Not)
bang_is w = by_test (is_bang w) refl
  where
    by_test : (b : Bool) → is_bang w ≡ b → (w ≡ words.Mark marks.Not) ⊎ (w ≢ words.Mark marks.Not)
    by_test true h = inl (bang_there w h)
    by_test false h = inr (bang_other w h)

-- where no command begins, a value does
no_command : (i : Inside) (o : OperandNode) (names : Names) (ts : Tokens) (place : Place) (owner : DoOwner)
    → may_command place o ts ≡ false → command_or_value i o names ts place owner ≡ value_phrase i o names ts owner
no_command i (whole n) names ts place owner calm = refl
no_command i (callee c) names ts place owner calm = rw calm refl

module _ (i : Inside) (owner : DoOwner) (m : OperandNode) (k : Names) (mid : Tokens) (x : Node) (known : Names)
    (rest : Tokens) (y : Node) (later : Names) (left : Tokens)
    (all : (n : ℕ) → length mid < n → operators_from i n 13 owner (operand_node m) k mid ≡ Ok (x, known, rest))
    (asked : question_at i (first rest) x known rest owner ≡ Ok (y, later, left)) where
  value_read : value_phrase i m k mid owner ≡ Ok ((y, sorts.Argument), later, left)
  unfolding value_from
  value_read = rw (all (length mid + 1) (omega arith), asked) refl

  from_read : (place : Place) → (is_target m ≡ true → (assignment_at (first mid) ≡ None)
      × ((is_statement place && is_comma_word (first mid)) ≡ false)) → may_command place m mid ≡ false
      → phrase_from i m k mid place owner ≡ Ok ((y, sorts.Argument), later, left)
  unfolding phrase_from
  from_read place free calm =
      let plain : command_or_value i m k mid place owner ≡ Ok ((y, sorts.Argument), later, left) =
      no_command i m k mid place owner calm ∙ value_read in
      elim (cases_Bool (is_target m)) [
        | inl target ↦ let f = free target in rw (target, f.0, f.1) plain
        | inr other ↦ rw other plain
      ]

-- a name alone begins no command
settled_may : (o : OperandNode) (place : Place) (ts : Tokens) → Settled o place ts → may_command place o ts ≡ false
settled_may (whole n) place ts s = and_false (allows_command place)
settled_may (callee c) place ts s = s.0

taken_parts : (place : Place) (w : Word) → takes_target place w ≡ false → (assignment_at w ≡ None)
    × ((is_statement place && is_comma_word w) ≡ false)
taken_parts place w h =
    let parts = or_false_parts (is_some (assignment_at w)) (is_statement place && is_comma_word w) h in
    (none_of (assignment_at w) parts.0, parts.1)

-- the first operand is no target by the word behind it
pub free_target : (l : ℕ) (place : Place) (m : OperandNode) (x : Node) (mid rest : Tokens)
    → ((x ≡ operand_node m) × (rest ≡ mid)) ⊎ (is_some (infix_at l (first mid)) ≡ true) → Settled m place mid
    → is_taken place x (first rest) ≡ false → is_target m ≡ true
    → (assignment_at (first mid) ≡ None) × ((is_statement place && is_comma_word (first mid)) ≡ false)
free_target l place (callee c) x mid rest led s free target =
    taken_parts place (first mid) (true_and (is_target (callee c)) (takes_target place (first mid)) target s.1)
free_target l place (whole n) x mid rest (inl same) s free target =
    let free_there : is_taken place n (first mid) ≡ false =
    subst (λ (y : Node). is_taken place y (first mid) ≡ false) same.0
    (subst (λ (q : Tokens). is_taken place x (first q) ≡ false) same.1 free) in
    taken_parts place (first mid) (true_and (is_target (whole n)) (takes_target place (first mid)) target free_there)
free_target l place (whole n) x mid rest (inr behind_it) s free target =
    let parts = infix_free l (first mid) behind_it in
    (parts.0, rw parts.1 (and_false (is_statement place)))

-- no assignment stands behind the first operand
no_assignment : (m : OperandNode) (x : Node) (mid rest : Tokens) → ((x ≡ operand_node m) × (rest ≡ mid))
    ⊎ (is_some (infix_at 13 (first mid)) ≡ true) → is_some (assignment_at (first rest)) ≡ false
    → assignment_at (first mid) ≡ None
no_assignment m x mid rest (inl same) none = none_of (assignment_at (first mid))
    (subst (λ (q : Tokens). is_some (assignment_at (first q)) ≡ false) same.1 none)
no_assignment m x mid rest (inr behind_it) none = (infix_free 13 (first mid) behind_it).0

not_there : (o : OperandNode) (mid : Tokens) → begins_command o mid ≡ false → assignment_at (first mid) ≡ None
    → is_command_there o mid ≡ false
not_there o mid calm none = rw (calm, none) (and_false (is_target o))

-- the operators of every level are those of no operand, and begin with no assignment
outermost : (i : Inside) (place : Place) (owner : DoOwner) (names known : Names) (ts rest : Tokens) (x : Node)
    → Reads i (Operation place 13 owner x) names ts known rest → Operates i place 13 owner x names ts known rest
outermost i place owner names known ts rest x r = elim r [ inl all ↦ all | inr assigned ↦ differs (sym assigned.0) ]

module _ (i : Inside) (place : Place) (owner : DoOwner) (names known : Names) (ts rest : Tokens) (x : Node) (y : Node)
    (later : Names) (left : Tokens)
    (r : Operates i place 13 owner x names ts known rest)
    (asked : question_at i (first rest) x known rest owner ≡ Ok (y, later, left)) where
  operand_way : is_taken place x (first rest) ≡ false
      → operand_phrase i names ts place owner ≡ Ok ((y, sorts.Argument), later, left)
  operand_way free =
      rw (r.3.0 (allows_command place) (λ h. h))
      (from_read i owner r.0 r.1 r.2 x known rest y later left r.4 asked place
      (free_target 13 place r.0 x r.2 rest r.3.3 r.3.2 free) (settled_may r.0 place r.2 r.3.2))

  negated_way : allows_command place ≡ true → first ts ≡ words.Mark marks.Not
      → is_some (assignment_at (first rest)) ≡ false
      → negated i names (behind ts) owner ≡ Ok ((y, sorts.Argument), later, left)
  unfolding negated
  negated_way may bang none =
      let n = r.3.1 bang in
      let got = n.2 may in
      let plain = not_there n.0 r.2 got.1 (no_assignment r.0 x r.2 rest r.3.3 none) in
      let all : (k : ℕ) → length r.2 < k → operators_from i k 13 owner (prefix_node prefixes.Not (operand_node n.0)) r.1
      r.2 ≡ Ok (x, known, rest) =
      λ k enough. subst (λ (m : Node). operators_from i k 13 owner m r.1 r.2 ≡ Ok (x, known, rest)) n.1 (r.4 k enough)
      in
      let there : phrase_from i (whole (prefix_node prefixes.Not (operand_node n.0))) r.1 r.2 places.Argument owner ≡ Ok
      ((y, sorts.Argument), later, left) =
      from_read i owner (whole (prefix_node prefixes.Not (operand_node n.0))) r.1 r.2 x known rest y later left all
      asked places.Argument
      (λ target. clash (is_target (whole (prefix_node prefixes.Not (operand_node n.0)))) target
      (prefix_no_target prefixes.Not (operand_node n.0))) refl in
      rw (got.0, plain) there

  start_way : opens ts ≡ true → Front place ts → is_taken place x (first rest) ≡ false
      → (is_statement place && is_target_group ts) ≡ false
      → (allows_command place && is_some (assignment_at (first rest))) ≡ false
      → phrase i names ts place owner ≡ Ok ((y, sorts.Argument), later, left)
  unfolding phrase_by
  start_way h front free group none = by_bang (bang_is (first ts))
    where
      by_place : (p : Place) → p ≡ place → first ts ≡ words.Mark marks.Not
          → phrase i names ts place owner ≡ Ok ((y, sorts.Argument), later, left)
      by_place places.Argument same bang =
          let started : start_at place ts ≡ starts.Operand =
          subst (λ p. start_at p ts ≡ starts.Operand) same (plain_start ts h) in
          rw started (operand_way free)
      by_place places.Command same bang =
          let may : allows_command place ≡ true = subst (λ p. allows_command p ≡ true) same refl in
          rw (not_start place ts bang group may) (negated_way may bang (true_and (allows_command place) _ may none))
      by_place places.Statement same bang =
          let may : allows_command place ≡ true = subst (λ p. allows_command p ≡ true) same refl in
          rw (not_start place ts bang group may) (negated_way may bang (true_and (allows_command place) _ may none))

      by_bang : (first ts ≡ words.Mark marks.Not) ⊎ (first ts ≢ words.Mark marks.Not)
          → phrase i names ts place owner ≡ Ok ((y, sorts.Argument), later, left)
      by_bang (inl bang) = by_place place refl bang
      by_bang (inr other) = rw (front_start place ts h front other group) (operand_way free)

pub value : (place : Place) (owner : DoOwner) (names known : Names) (ts rest : Tokens) (n : Node)
    → Fact (Operation place 13 owner n) names ts known rest → Front place ts → is_question (first rest) ≡ false
    → is_taken place n (first rest) ≡ false
    → Fact (Argument place owner n) names ts known rest
value place owner names known ts rest n inner front calm free = (
  inner.0,
  opens_begins ts inner.1,
  λ d room group none. start_way (levels d) place owner names known ts rest n n known rest
      (outermost (levels d) place owner names known ts rest n (inner.2 d room))
      (question_false (levels d) (first rest) n known rest owner calm) inner.1 front free group none,
)

-- no question mark makes a target of what stands before it
asked_free : (place : Place) (n : Node) (w : Word) → w ≡ words.Mark marks.Question → is_taken place n w ≡ false
asked_free place n w asks = rw (asks, and_false (is_statement place)) (and_false (is_target (whole n)))

-- a value that the rules a level deeper read
pub value_below : (d : ℕ) → 0 < d → (names known : Names) (ts rest : Tokens) (owner : DoOwner) (n : Node)
    → phrase (levels (d - 1)) names ts places.Argument owner ≡ Ok ((n, sorts.Argument), known, rest)
    → (levels d).argument names ts owner ≡ Ok (n, known, rest)
value_below d some names known ts rest owner n read = ap (λ (i : Inside). i.argument names ts owner) (levels_at d some)
    ∙ rw read refl

pub conditional : (place : Place) (owner : DoOwner) (names known later last : Names) (ts rest more left : Tokens)
    (n a b : Node)
    → Fact (Operation place 13 owner n) names ts known rest → Front place ts → first rest ≡ words.Mark marks.Question
    → Fact (Argument places.Argument owner a) known (behind rest) later more → first more ≡ words.Mark marks.Colon
    → Fact (Argument places.Argument owner b) later (behind more) last left
    → Fact (Argument place owner (choice_node n a b)) names ts last left
conditional place owner names known later last ts rest more left n a b test front asks first_one parts second_one =
    let one = word_taken (words.Mark marks.Question) rest asks refl in
    let two = word_taken (words.Mark marks.Colon) more parts refl in
    let t = test.0 in
    let f = first_one.0 in
    let s = second_one.0 in (
      omega arith,
      opens_begins ts test.1,
      λ d room group none.
          let chosen = value_below d (omega arith) known later (behind rest) more owner a
          (first_one.2 (d - 1) (omega arith) refl refl) in
          let other = value_below d (omega arith) later last (behind more) left owner b
          (second_one.2 (d - 1) (omega arith) refl refl) in
          let asked : question_at (levels d) (first rest) n known rest owner ≡ Ok (choice_node n a b, last, left) =
          rw (asks, chosen, parts, other) refl in
          let calm : (allows_command place && is_some (assignment_at (first rest))) ≡ false =
          rw asks (and_false (allows_command place)) in
          start_way (levels d) place owner names known ts rest n (choice_node n a b) last left
          (outermost (levels d) place owner names known ts rest n (test.2 d room)) asked
          test.1 front (asked_free place n (first rest) asks) group calm,
    )

pub defined_value : (place : Place) (owner : DoOwner) (names known : Names) (ts rest : Tokens) (n : Node)
    → first ts ≡ words.Key keywords.Defined → is_open_parenthesis (first (behind ts)) ≡ false
    → Fact (Argument places.Argument owner n) names (behind ts) known rest
    → Fact (Argument place owner (node.defined n)) names ts known rest
unfolding start_at phrase_by
defined_value place owner names known ts rest n is closed inner =
    let one = word_taken (words.Key keywords.Defined) ts is refl in
    let fewer = inner.0 in (
      omega arith,
      rw is refl,
      λ d room group none.
          let read = value_below d (omega arith) names known (behind ts) rest owner n
          (inner.2 (d - 1) (omega arith) refl refl) in
          rw (is, closed) (rw read refl),
    )

pub unnegated : (place : Place) (owner : DoOwner) (names known : Names) (ts rest : Tokens) (n : Node)
    → (is_statement place && is_target_group ts) ≡ false → Fact (Argument place owner n) names ts known rest
    → Fact (Negation place owner n) names ts known rest
unfolding negation
unnegated place owner names known ts rest n group inner = (
  inner.0,
  or_left (begins (first ts)) (is_not (first ts)) inner.1,
  λ d room none.
      let calm : (allows_command place && is_some (assignment_at (first rest))) ≡ false =
      rw none (and_false (allows_command place)) in
      (sorts.Argument, refl, rw (head_no_not (first ts) inner.1) (inner.2 d room group calm)),
)

pub negated_fact : (place : Place) (owner : DoOwner) (names known : Names) (ts rest : Tokens) (n : Node)
    → first ts ≡ words.Key keywords.Not → Fact (Negation places.Command owner n) names (behind ts) known rest
    → Fact (Negation place owner (node.not_node n)) names ts known rest
unfolding negation
negated_fact place owner names known ts rest n is inner =
    let one = word_taken (words.Key keywords.Not) ts is refl in
    let fewer = inner.0 in (
      omega arith,
      rw is refl,
      λ d room none.
          let r = inner.2 (d - 1) (omega arith) none in
          let read : (levels d).negation names (behind ts) places.Command owner ≡ Ok ((n, r.0), known, rest) =
          ap (λ (i : Inside). i.negation names (behind ts) places.Command owner) (levels_at d (omega arith)) ∙ r.2 in
          (sorts.Command, refl, rw (is, read) refl),
    )
