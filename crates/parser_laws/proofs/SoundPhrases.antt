-- Phrases and negations that are read as an expression are derived.
use Rattle.std.proofs.Common.{◌≡◌, Bool, true, false, ◌&&◌, ◌⊎◌, Option, Some, None, is_some, nat_le, Ok, if◌then◌else◌, inl, inr, refl, sym, ap, subst, ◌∙◌}
use Rattle.std.proofs.lemmas.Bool.{cases_Bool}
use Rattle.rb_syntax.specs.declared.keyword.Keyword.TheVariants as keywords
use Rattle.rb_syntax.specs.declared.punctuator.Punctuator.TheVariants as marks
use Rattle.parser_tree.specs.Node as node
use Rattle.parser_tree.specs.Node.{Node}
use Rattle.parser_tokens.specs.Tokens.{first, behind, place_at}
use Rattle.parser_tokens.specs.Operators.{assignment_at, infix_of, infix_at, within_level, level, prefix_at}
use Rattle.parser_tokens.specs.Starts.{is_open_parenthesis}
use Rattle.parser_tree.specs.declared.operator.BinaryOperator.TheVariants as binary
use Rattle.parser_tokens.specs.declared.operators.Assignment.{Assignment}
use Rattle.parser_tokens.specs.declared.operators.Infix.{Infix}
use Rattle.parser_tokens.specs.declared.operators.Infix.TheVariants as infixes
use Rattle.parser_tokens.specs.declared.operators.Prefix.{Prefix}
use Rattle.parser_tokens.specs.declared.operators.Prefix.TheVariants as prefixes
use Rattle.parser_tokens.specs.declared.word.Word.{Word}
use Rattle.parser_tokens.specs.declared.word.Word.TheVariants as words
use Rattle.parser_ahead.specs.Groups.{is_target_group}
use Rattle.parser_ahead.specs.Primary.{allows_command, is_statement, of_value, start_at}
use Rattle.parser_ahead.specs.declared.primary.DoOwner.{DoOwner}
use Rattle.parser_ahead.specs.declared.primary.Place.{Place}
use Rattle.parser_ahead.specs.declared.primary.Place.TheVariants as places
use Rattle.parser_ahead.specs.declared.primary.Start.{Start}
use Rattle.parser_ahead.specs.declared.primary.Start.TheVariants as starts
use Rattle.parser_nodes.specs.Nodes.{prefix_node, shape}
use Rattle.parser_nodes.specs.Listed.{PhraseNode}
use Rattle.parser_nodes.specs.Calls.{OperandNode, whole, callee, operand_node, is_target, target_node, target_names}
use Rattle.parser_nodes.specs.declared.listed.Sort.TheVariants as sorts
use Rattle.parser_form_nodes.specs.Targets.{no_targets}
use Rattle.parser_operands.specs.Operands.{begins_command, operand}
use Rattle.parser_operands.specs.Operators.{value_from}
use Rattle.parser_phrases.specs.Phrases.{assign, command, may_command, value_phrase, first_of_several, begins_several, target_phrase, command_or_value, phrase_from, negated_command, negated_operand, negated, operand_phrase, defined, phrase_by, phrase, argument, is_assigned, is_command_there}
use Rattle.parser_statements.specs.Statements.{is_not, is_statement_sort, negation}
use Rattle.parser_forms.specs.Reading.{Names, Tokens, Read, Inside}
use Rattle.rb_base.specs.Result.{◌>>=◌}
use Rattle.parser_laws.specs.Rules.{Expression, Operand, Argument, Negation, is_inner, takes_target, is_taken, begins_jump}
use Rattle.parser_laws.specs.Derives.{Derives, DefinedValue, AllOperators, OneOperand, Prefixed, NotPrefixed, Unnegated, Negated}
use Rattle.parser_laws.specs.Expressions.{is_expression}
use Rattle.parser_laws.proofs.Results.{bind_ok, read_same, carry, differs, Never}
use Rattle.parser_laws.proofs.Sound.{IsSound}
use Rattle.parser_laws.proofs.Assigning.{or_false_parts}
use Rattle.parser_laws.proofs.OperatorFacts.{calm_taken, no_matter, prefix_bang, prefix_no_target, prefix_not, untaken}
use Rattle.parser_laws.proofs.Tests.{or_first}
use Rattle.parser_laws.proofs.SoundPostfix.{Plainly, operand_sound}
use Rattle.parser_laws.proofs.SoundValues.{value_sound}
use Rattle.parser_laws.proofs.SoundAssignments.{assign_target, assign_parts, assign_sort, assign_derived, assigns_several, lists_derived, not_derived, value_unstated}
use Rattle.parser_laws.proofs.SoundTargets.{target_sound}
use Rattle.parser_laws.proofs.NeverPhrases.{its_node, multiple_never, command_never, value_phrase_never, several_never, jump_never}
use Rattle.parser_laws.proofs.Starts.{no_bang, not_there, operand_there, no_jump_there, no_jump, no_group, defined_there, defined_alone}

-- no operator between operands is as tight as those before one
loose : (o : Infix) → (if nat_le (level o) 1 then Some o else None) ≡ None
loose (infixes.Operation binary.Power) = refl
loose (infixes.Operation o) = refl
loose o = refl

pub none_so_tight : (w : Word) → infix_at 1 w ≡ None
unfolding infix_at
none_so_tight w = by_infix (infix_of w)
  where
    by_infix : (o : Option Infix) → within_level 1 o ≡ None
    by_infix None = refl
    by_infix (Some o) = loose o

is_the_not : (w : Word) → is_not w ≡ true → w ≡ words.Key keywords.Not
is_the_not (words.Key keywords.Not) h = refl
is_the_not w h = absurd (cc)

-- a command begins with a name, and arguments behind it
command_there : (i : Inside) (o : OperandNode) (names : Names) (ts : Tokens) (owner : DoOwner)
    → begins_command o ts ≡ true → Never its_node (command_or_value i o names ts places.Command owner)
command_there i (whole n) names ts owner h = differs (sym h)
command_there i (callee c) names ts owner h =
    subst (λ (b : Bool). Never its_node (if b then command i c names ts owner else value_phrase i (callee c) names ts
    owner)) (sym h) (command_never i c names ts owner)

module _ (i : Inside) (sound : IsSound i) (place : Place) (owner : DoOwner) (before : Names) (start : Tokens)
    (jump : begins_jump place start ≡ false) where
  abbrev Argued : PhraseNode → Names → Tokens → Type 0
  Argued x known rest = (x.1 ≡ sorts.Argument) × Derives (Argument place owner x.0) before start known rest

  -- a value, or an assignment of several where a statement may stand
  abbrev SoundValue : PhraseNode → Names → Tokens → Type 0
  SoundValue x known rest =
      Argued x known rest ⊎ ((x.1 ≡ sorts.Statement) × (place ≡ places.Statement)
      × (is_target_group start ≡ false → Derives (Expression places.Statement owner x.0) before start known rest))

  abbrev Goal : Read PhraseNode → Type 0
  Goal read = (x : PhraseNode) (known : Names) (rest : Tokens) → read ≡ Ok (x, known, rest) → is_expression x.0 ≡ true
      → SoundValue x known rest

  goal_never : (read : Read PhraseNode) → Never its_node read → Goal read
  goal_never read never x known rest h is = absurd (never x known rest h is)

  goal_if : (b : Bool) (r s : Read PhraseNode) → Goal r → Goal s → Goal (if b then r else s)
  goal_if true r s f g = f
  goal_if false r s f g = g

  value_goal : (left : Node) (names : Names) (ts : Tokens) → Derives (Operand place owner left) before start names ts
      → is_taken place left (first ts) ≡ false
      → (x : PhraseNode) (known : Names) (rest : Tokens)
      → value_phrase i (whole left) names ts owner ≡ Ok (x, known, rest) → is_expression x.0 ≡ true
      → Argued x known rest
  value_goal left names ts derived free x known rest h is =
      let r = bind_ok (value_from i left names ts owner) _ (x, known, rest) h in
      let e = read_same (r.0.0, sorts.Argument) x r.0.1 known r.0.2 rest r.2 in
      let there : is_expression r.0.0 ≡ true = subst (λ y. is_expression y.0 ≡ true) (sym e.0) is in
      let d = value_sound i owner sound place before start jump left names ts r.0.0 r.0.1 r.0.2 derived free r.1 there
      in
      carry Argued (r.0.0, sorts.Argument) x r.0.1 known r.0.2 rest r.2 (refl, d)

  -- what an operand that was read begins
  abbrev Begun : OperandNode → Names → Tokens → Bool → Type 0
  Begun o names ts commands = operand i before start commands owner ≡ Ok (o, names, ts)

  module _ (plain : Plainly place start) where
    from_value : (commands : Bool) (o : OperandNode) (names : Names) (ts : Tokens) → Begun o names ts commands
        → (is_target o && takes_target place (first ts)) ≡ false → Goal (value_phrase i o names ts owner)
    from_value commands o names ts begun free x known rest h is =
        elim (cases_Bool (is_expression (operand_node o))) [
          | inl there ↦
              let p = operand_sound i sound place owner before start plain commands o names ts begun there in
              let untaken : is_taken place p.0 (first ts) ≡ false =
              subst (λ q. (is_target q && takes_target place (first ts)) ≡ false) p.1 free in
              inl (value_goal p.0 names ts p.2 untaken x known rest
              (subst (λ q. value_phrase i q names ts owner ≡ Ok (x, known, rest)) p.1 h) is)
          | inr other ↦ absurd (value_phrase_never i o names ts owner other x known rest h is)
        ]

    from_operand : (commands : Bool) (o : OperandNode) (names : Names) (ts : Tokens) → Begun o names ts commands
        → (is_target o && takes_target place (first ts)) ≡ false → Goal (command_or_value i o names ts place owner)
    from_operand commands (callee c) names ts begun free =
        goal_if (may_command place (callee c) ts) _ _ (goal_never _ (command_never i c names ts owner))
        (from_value commands (callee c) names ts begun free)
    from_operand commands (whole n) names ts begun free = from_value commands (whole n) names ts begun free

    from_assignment : (commands : Bool) (a : Assignment) (o : OperandNode) (names : Names) (ts : Tokens)
        → Begun o names ts commands → is_target o ≡ true → assignment_at (first ts) ≡ Some a
        → Goal (assign i (target_node o) (target_names o names) a (behind ts) place owner)
    from_assignment commands a o names ts begun target there x known rest h is =
        let assigned = assign_target i sound a place owner (target_node o) (target_names o names) (behind ts) x known rest
        h is in
        let t = target_sound i sound owner before start commands o names ts begun target assigned in
        elim (cases_Bool (is_statement_sort x.1)) [
          | inl stated ↦
              let here = assigns_several i sound a place owner (target_node o) (target_names o names) (behind ts) x known
              rest h stated is in
              inr (
                here.0,
                here.1,
                λ free. lists_derived i sound a place owner (target_node o) before start
                    (target_names o names) ts t there jump x known rest free h stated is,
              )
          | inr plain ↦
              let p = assign_parts i sound a place owner (target_node o) (target_names o names) (behind ts) x known rest h
              plain is in
              inl (
                assign_sort i sound a place owner (target_node o) (target_names o names) (behind ts) x known rest p,
                assign_derived i sound a place owner (target_node o) before start (target_names o names) ts t there jump x
                    known rest p,
              )
        ]

    module _ (commands : Bool) (o : OperandNode) (names : Names) (ts : Tokens) (begun : Begun o names ts commands) where
      by_several : (b : Bool) → begins_several place ts ≡ b → is_target o ≡ true → assignment_at (first ts) ≡ None
          → Goal (if b then first_of_several i o names ts owner else command_or_value i o names ts place owner)
      by_several true there t a = goal_never _ (several_never i o names ts owner)
      by_several false there t a = from_operand commands o names ts begun (rw (t, a, there) refl)

      by_assignment : (a : Option Assignment) → assignment_at (first ts) ≡ a → is_target o ≡ true
          → Goal (target_phrase i a o names ts place owner)
      by_assignment (Some a) there t = from_assignment commands a o names ts begun t there
      by_assignment None there t = by_several (begins_several place ts) refl t there

      by_target : (b : Bool) → is_target o ≡ b → Goal
          (if b then target_phrase i (assignment_at (first ts)) o names ts place owner else command_or_value i o names ts
          place owner)
      by_target true t = by_assignment (assignment_at (first ts)) refl t
      by_target false t = from_operand commands o names ts begun (rw t refl)

      from_goal : Goal (phrase_from i o names ts place owner)
      unfolding phrase_from
      from_goal = by_target (is_target o) refl

module _ (i : Inside) (sound : IsSound i) (place : Place) (owner : DoOwner) (names : Names) (ts : Tokens) where
  -- an assignment of several values, where a statement may stand
  abbrev Several : PhraseNode → Names → Tokens → Type 0
  Several x known rest = (x.1 ≡ sorts.Statement) × (place ≡ places.Statement)
      × Derives (Expression places.Statement owner x.0) names ts known rest

  abbrev pub SoundPhrase : PhraseNode → Names → Tokens → Type 0
  SoundPhrase x known rest = ((x.1 ≡ sorts.Argument) × ((is_statement place && is_target_group ts) ≡ false)
      × Derives (Argument place owner x.0) names ts known rest) ⊎ Several x known rest

  abbrev pub SoundNegation : PhraseNode → Names → Tokens → Type 0
  SoundNegation x known rest = ((is_statement_sort x.1 ≡ false)
      × Derives (Negation place owner x.0) names ts known rest) ⊎ Several x known rest

  abbrev NegationGoal : Read PhraseNode → Type 0
  NegationGoal read = (x : PhraseNode) (known : Names) (rest : Tokens) → read ≡ Ok (x, known, rest)
      → is_expression x.0 ≡ true → SoundNegation x known rest

  abbrev Phrase : Read PhraseNode → Type 0
  Phrase read = (x : PhraseNode) (known : Names) (rest : Tokens) → read ≡ Ok (x, known, rest) → is_expression x.0 ≡ true
      → SoundPhrase x known rest

  never_phrase : (read : Read PhraseNode) → Never its_node read → Phrase read
  never_phrase read never x known rest h is = absurd (never x known rest h is)

  with_operand : (is_statement place && is_target_group ts) ≡ false → begins_jump place ts ≡ false
      → Plainly place ts → Phrase (operand_phrase i names ts place owner)
  with_operand free jump plain x known rest h is =
      let r = bind_ok (operand i names ts (allows_command place) owner) _ (x, known, rest) h in
      elim (from_goal i sound place owner names ts jump plain (allows_command place) r.0.0 r.0.1 r.0.2 r.1 x known rest
      r.2 is) [
        | inl v ↦ inl (v.0, free, v.1)
        | inr s ↦ inr (s.0, s.1, s.2 (subst (λ p. (is_statement p && is_target_group ts) ≡ false) s.1 free))
      ]

  -- ! before an operand
  abbrev Before : OperandNode → Names → Tokens → Type 0
  Before o k m = (n : Node) × (o ≡ whole n) × Derives (Operand place owner (prefix_node prefixes.Not n)) names ts k m

  not_before : first ts ≡ words.Mark marks.Not → (o : OperandNode) (k : Names) (m : Tokens)
      → operand i names (behind ts) true owner ≡ Ok (o, k, m) → is_expression (operand_node o) ≡ true
      → is_assigned o m ≡ false → Before o k m
  not_before there o k m got is free = by_prefix (prefix_at (behind ts)) refl
    where
      calm : (at : Place) (n : Node) → is_statement at ≡ false → o ≡ whole n → is_taken at n (first m) ≡ false
      calm at n plain same = subst (λ q. (is_target q && takes_target at (first m)) ≡ false) same
          (calm_taken at o m plain free)

      by_prefix : (p : Option Prefix) → prefix_at (behind ts) ≡ p → Before o k m
      by_prefix None bare =
          let at : Place = of_value place in
          let p = operand_sound i sound at owner names (behind ts)
          (λ e. differs (ap is_some (sym e ∙ bare))) true o k m got is in
          let one = AllOperators at 1 owner names k (behind ts) m p.0
          (OneOperand at 1 owner names k (behind ts) m p.0 p.2) (none_so_tight (first m))
          (no_matter (is_inner 1) _ (calm at p.0 (value_unstated place) p.1)) in
          (p.0, p.1, Prefixed place owner prefixes.Not names k ts m p.0 (prefix_not ts there) one)
      by_prefix (Some o_more) more =
          let at : Place = places.Argument in
          let p = operand_sound i sound at owner names (behind ts) (λ e. refl) true o k m got is in
          let one = AllOperators at 1 owner names k (behind ts) m p.0
          (OneOperand at 1 owner names k (behind ts) m p.0 p.2) (none_so_tight (first m))
          (no_matter (is_inner 1) _ (calm at p.0 refl p.1)) in
          (p.0, p.1, NotPrefixed place owner o_more names k ts m p.0 there more one)

  -- ! before an assignment
  abbrev Negating : PhraseNode → Names → Tokens → Type 0
  Negating y l q = (y.1 ≡ sorts.Argument) × Derives (Argument place owner (prefix_node prefixes.Not y.0)) names ts l q

  not_assignment : first ts ≡ words.Mark marks.Not → allows_command place ≡ true → (a : Assignment) (o : OperandNode)
      (k : Names) (m : Tokens) → operand i names (behind ts) true owner ≡ Ok (o, k, m) → is_target o ≡ true
      → assignment_at (first m) ≡ Some a → (y : PhraseNode) (l : Names) (q : Tokens)
      → assign i (target_node o) (target_names o k) a (behind m) places.Command owner ≡ Ok (y, l, q)
      → is_expression y.0 ≡ true → Negating y l q
  not_assignment there may a o k m got target sign y l q made is =
      let assigned = assign_target i sound a places.Command owner (target_node o) (target_names o k) (behind m) y l q
      made is in
      let t = target_sound i sound owner names (behind ts) true o k m got target assigned in
      elim (cases_Bool (is_statement_sort y.1)) [
        | inl stated ↦
            let at = assigns_several i sound a places.Command owner (target_node o) (target_names o k) (behind m) y l q
            made stated is in
            differs (sym (ap is_statement at.1))
        | inr plain ↦
            let p = assign_parts i sound a places.Command owner (target_node o) (target_names o k) (behind m) y l q made
            plain is in (
              assign_sort i sound a places.Command owner (target_node o) (target_names o k) (behind m) y l q p,
              not_derived i sound a owner place (target_node o) names ts (target_names o k) m there may t sign y l q p,
            )
      ]

  -- behind ! what begins a command or an assignment, and is an expression, is an assignment
  not_command : first ts ≡ words.Mark marks.Not → allows_command place ≡ true → (o : OperandNode) (k : Names)
      (m : Tokens) → operand i names (behind ts) true owner ≡ Ok (o, k, m) → is_command_there o m ≡ true
      → (y : PhraseNode) (l : Names) (q : Tokens) → phrase_from i o k m places.Command owner ≡ Ok (y, l, q)
      → is_expression y.0 ≡ true → Negating y l q
  unfolding phrase_from
  not_command there may o k m got begins y l q read is = by_target (is_target o) refl read
    where
      alone : is_assigned o m ≡ false → command_or_value i o k m places.Command owner ≡ Ok (y, l, q) → Negating y l q
      alone none made = absurd (command_there i o k m owner
          (or_first (begins_command o m) (is_assigned o m) none begins) y l q made is)

      by_assignment : (a : Option Assignment) → assignment_at (first m) ≡ a → is_target o ≡ true
          → target_phrase i a o k m places.Command owner ≡ Ok (y, l, q) → Negating y l q
      by_assignment None none target made = alone (rw (target, none) refl) made
      by_assignment (Some a) sign target made = not_assignment there may a o k m got target sign y l q made is

      by_target : (b : Bool) → is_target o ≡ b
          → (if b then target_phrase i (assignment_at (first m)) o k m places.Command owner else command_or_value i o k
          m places.Command owner) ≡ Ok (y, l, q) → Negating y l q
      by_target true target made = by_assignment (assignment_at (first m)) refl target made
      by_target false other made = alone (rw other refl) made

  with_not : first ts ≡ words.Mark marks.Not → allows_command place ≡ true → Phrase (negated i names (behind ts) owner)
  unfolding negated phrase_from shape
  with_not there may x known rest h is =
      let r = bind_ok (operand i names (behind ts) true owner) _ (x, known, rest) h in
      by_command (is_command_there r.0.0 r.0.2) r.0.0 r.0.1 r.0.2 refl r.1 r.2
    where
      by_command : (b : Bool) (o : OperandNode) (k : Names) (m : Tokens) → is_command_there o m ≡ b
          → operand i names (behind ts) true owner ≡ Ok (o, k, m)
          → (if b then negated_command i o k m owner else negated_operand i o k m owner) ≡ Ok (x, known, rest)
          → SoundPhrase x known rest
      by_command true o k m begins got read =
          let p = bind_ok (phrase_from i o k m places.Command owner) _ (x, known, rest) read in
          let e = read_same (prefix_node prefixes.Not p.0.0.0, p.0.0.1) x p.0.1 known p.0.2 rest p.2 in
          let n = not_command there may o k m got begins p.0.0 p.0.1 p.0.2 p.1
          (subst (λ (y : PhraseNode). is_expression y.0 ≡ true) (sym e.0) is) in
          carry SoundPhrase (prefix_node prefixes.Not p.0.0.0, p.0.0.1) x p.0.1 known p.0.2 rest p.2
          (inl (n.0, no_group place ts there, n.1))
      by_command false o k m calm got read =
          elim (cases_Bool (is_expression (operand_node o))) [
            | inl inner ↦
                let p = not_before there o k m got inner (or_false_parts (begins_command o m) (is_assigned o m) calm).1
                in
                let again : value_phrase i (whole (prefix_node prefixes.Not p.0)) k m owner ≡ Ok (x, known, rest) =
                subst (λ q. value_phrase i (whole (prefix_node prefixes.Not (operand_node q))) k m owner ≡ Ok
                (x, known, rest)) p.1 read in
                let v = value_goal i sound place owner names ts (no_jump place ts there) (prefix_node prefixes.Not p.0)
                k m p.2 (untaken place (prefix_node prefixes.Not p.0) m (prefix_no_target prefixes.Not p.0)) x known
                rest again is in
                inl (v.0, no_group place ts there, v.1)
            | inr other ↦ absurd (value_phrase_never i (whole (prefix_node prefixes.Not (operand_node o))) k m owner
                other x known rest read is)
          ]

  with_defined : (first ts ≡ words.Key keywords.Defined) × (is_open_parenthesis (first (behind ts)) ≡ false)
      → Phrase (defined i names (behind ts) owner)
  with_defined there x known rest h is =
      let r = bind_ok (i.argument names (behind ts) owner) _ (x, known, rest) h in
      let e = read_same (node.defined r.0.0, sorts.Argument) x r.0.1 known r.0.2 rest r.2 in
      let part : is_expression r.0.0 ≡ true = subst (λ (y : PhraseNode). is_expression y.0 ≡ true) (sym e.0) is in
      let d = DefinedValue place owner names r.0.1 ts r.0.2 r.0.0 there.0 there.1
      (sound.argument names r.0.1 (behind ts) r.0.2 owner r.0.0 r.1 part) in
      carry SoundPhrase (node.defined r.0.0, sorts.Argument) x r.0.1 known r.0.2 rest r.2
      (inl (refl, defined_alone place ts there.0, d))

  by_start : (s : Start) → start_at place ts ≡ s → Phrase (phrase_by i s names ts place owner)
  unfolding phrase_by
  by_start starts.Defined there = with_defined (defined_there place ts there)
  by_start starts.Not there = let n = not_there place ts there in with_not n.0 n.1
  by_start (starts.Jump j) there = never_phrase _ (jump_never i (Some j) (place_at ts) names (behind ts) owner)
  by_start starts.Yield there = never_phrase _ (jump_never i None (place_at ts) names (behind ts) owner)
  by_start starts.Targets there = never_phrase _ (multiple_never i no_targets names ts owner)
  by_start starts.Operand there =
      with_operand (operand_there place ts there) (no_jump_there place ts there)
      (λ e. no_bang place ts there (prefix_bang ts e))

  pub phrase_sound : Phrase (phrase i names ts place owner)
  phrase_sound = by_start (start_at place ts) refl

  by_not : (b : Bool) → is_not (first ts) ≡ b
      → NegationGoal (if b then (i.negation names (behind ts) places.Command owner >>=
      (λ r. Ok ((prefix_node prefixes.Not r.0.0, sorts.Command), r.1, r.2))) else phrase i names ts place owner)
  by_not true there x known rest h is =
      let r = bind_ok (i.negation names (behind ts) places.Command owner) _ (x, known, rest) h in
      let e = read_same (prefix_node prefixes.Not r.0.0.0, sorts.Command) x r.0.1 known r.0.2 rest r.2 in
      let inner = sound.negation names r.0.1 (behind ts) r.0.2 owner r.0.0.0 r.0.0.1 r.1
      (subst (λ (y : PhraseNode). is_expression y.0 ≡ true) (sym e.0) is) in
      let d = Negated place owner names r.0.1 ts r.0.2 r.0.0.0 (is_the_not (first ts) there) inner in
      carry SoundNegation (prefix_node prefixes.Not r.0.0.0, sorts.Command) x r.0.1 known r.0.2 rest r.2 (inl (refl, d))
  by_not false there x known rest h is =
      elim (phrase_sound x known rest h is) [
        | inl p ↦ inl (ap is_statement_sort p.0, Unnegated place owner names known ts rest x.0 p.1 p.2)
        | inr s ↦ inr s
      ]

  pub negation_sound : NegationGoal (negation i names ts place owner)
  unfolding negation
  negation_sound = by_not (is_not (first ts)) refl

-- where no statement may stand, a value alone is read
module _ (i : Inside) (sound : IsSound i) (place : Place) (owner : DoOwner) (names : Names) (ts : Tokens)
    (plain : is_statement place ≡ false) where
  not_several : {A : Type 0} → place ≡ places.Statement → A
  not_several there = differs (sym (ap is_statement there) ∙ plain)

  pub value_phrase_sound : (x : PhraseNode) (known : Names) (rest : Tokens)
      → phrase i names ts place owner ≡ Ok (x, known, rest) → is_expression x.0 ≡ true → (x.1 ≡ sorts.Argument)
      × Derives (Argument place owner x.0) names ts known rest
  value_phrase_sound x known rest h is = elim
      (phrase_sound i sound place owner names ts x known rest h is) [ inl p ↦ (p.0, p.2) | inr s ↦ not_several s.1 ]

  pub value_negation_sound : (x : PhraseNode) (known : Names) (rest : Tokens)
      → negation i names ts place owner ≡ Ok (x, known, rest) → is_expression x.0 ≡ true
      → Derives (Negation place owner x.0) names ts known rest
  value_negation_sound x known rest h is = elim
      (negation_sound i sound place owner names ts x known rest h is) [ inl p ↦ p.1 | inr s ↦ not_several s.1 ]

module _ (i : Inside) (sound : IsSound i) where
  pub argument_sound : (names known : Names) (ts rest : Tokens) (owner : DoOwner) (n : Node)
      → argument i names ts owner ≡ Ok (n, known, rest) → is_expression n ≡ true
      → Derives (Argument places.Argument owner n) names ts known rest
  argument_sound names known ts rest owner n h is =
      let r = bind_ok (phrase i names ts places.Argument owner) _ (n, known, rest) h in
      let e = read_same r.0.0.0 n r.0.1 known r.0.2 rest r.2 in
      let s = value_phrase_sound i sound places.Argument owner names ts refl r.0.0 r.0.1 r.0.2 r.1
      (subst (λ x. is_expression x ≡ true) (sym e.0) is) in
      carry (λ (x : Node) (k : Names) (m : Tokens). Derives (Argument places.Argument owner x) names ts k m) r.0.0.0 n
      r.0.1 known r.0.2 rest r.2 s.1
