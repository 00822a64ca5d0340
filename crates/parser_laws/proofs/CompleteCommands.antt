-- Commands that are derived are read.
use Rattle.std.proofs.Common.{◌≡◌, ◌≢◌, ℕ, ◌+◌, ◌-◌, ◌<◌, ◌≤◌, Bool, true, false, not, ◌&&◌, [], ◌∷◌, length, Some, None, is_some, Ok, inl, inr, refl, sym, ap, subst, ◌∙◌, arith}
use Rattle.std.proofs.lemmas.Bool.{cases_Bool, and_parts}
use Rattle.rb_syntax.specs.declared.core_form.Item.TheVariants.{Plain}
use Rattle.rb_syntax.specs.declared.punctuator.Punctuator.{Punctuator}
use Rattle.rb_syntax.specs.declared.punctuator.Punctuator.TheVariants as marks
use Rattle.parser_tree.specs.Node.{Node, none}
use Rattle.parser_tokens.specs.Tokens.{first, behind}
use Rattle.parser_tokens.specs.Operators.{assignment_at, prefix_at}
use Rattle.parser_tokens.specs.Starts.{begins_value, begins_argument, modifier_at, opens_arguments, postfix_at}
use Rattle.parser_tokens.specs.declared.operators.Assignment.{Assignment}
use Rattle.parser_tokens.specs.declared.operators.Prefix.TheVariants as prefixes
use Rattle.parser_tokens.specs.declared.word.Modifier.TheVariants as modifiers
use Rattle.parser_tokens.specs.declared.word.Word.{Word}
use Rattle.parser_tokens.specs.declared.word.Word.TheVariants as words
use Rattle.parser_ahead.specs.Groups.{is_target_group}
use Rattle.parser_ahead.specs.Primary.{is_statement, allows_command, of_value, in_command, part_at, block_of, block_at, call_takes, is_comma_word}
use Rattle.parser_ahead.specs.declared.primary.BlockStyle.{BlockStyle}
use Rattle.parser_ahead.specs.declared.primary.BlockStyle.TheVariants as styles
use Rattle.parser_ahead.specs.declared.primary.DoOwner.{DoOwner}
use Rattle.parser_ahead.specs.declared.primary.PartStart.TheVariants as parts
use Rattle.parser_ahead.specs.declared.primary.Place.{Place}
use Rattle.parser_ahead.specs.declared.primary.Place.TheVariants as places
use Rattle.parser_nodes.specs.Nodes.{prefix_node, assignment_node, rescued_node}
use Rattle.parser_nodes.specs.Listed.{ListNode, PhraseNode, command_part, nothing_listed, put, is_none, arguments_node}
use Rattle.parser_nodes.specs.Calls.{CalleeNode, OperandNode, whole, callee, call_node, is_target, target_node, target_names}
use Rattle.parser_nodes.specs.declared.listed.Sort.TheVariants as sorts
use Rattle.parser_form_nodes.specs.Parameters.{BlockNode}
use Rattle.parser_operands.specs.Operands.{begins_command, suffix, chain, operand, chain_within}
use Rattle.parser_operands.proofs.Turns.{chain_step}
use Rattle.parser_phrases.specs.Phrases as phrases
use Rattle.parser_phrases.specs.Phrases.{is_assigned, is_command_there, assigned_value, whole_value, assign, command, command_or_value, phrase_from, negated, phrase_by, phrase}
use Rattle.parser_statements.specs.Lists.{part_by, next_part, list_from, list}
use Rattle.parser_statements.specs.Statements.{is_not, negation}
use Rattle.parser_statements.proofs.Turns.{list_step}
use Rattle.parser_forms.specs.Reading.{Names, Tokens, Read, Inside}
use Rattle.rb_parser.specs.Levels.{level_above, levels}
use Rattle.parser_laws.specs.Rules.{Argument, Negation, Target, Listing, Callee, CommandArguments, Command, Block, is_rescue, takes_list}
use Rattle.parser_laws.proofs.Results.{differs, and_false, not_true}
use Rattle.parser_laws.proofs.Tests.{or_left, or_right}
use Rattle.parser_laws.proofs.Assigning.{same_takes, statement_only}
use Rattle.parser_laws.proofs.OperatorFacts.{prefix_not}
use Rattle.parser_laws.proofs.Facts.{is_bang, begins, opens, Fact, levels_at, word_taken}
use Rattle.parser_laws.proofs.Heads.{Front, opens_begins, word_begins, operand_start, front_start, not_start, head_no_not}
use Rattle.parser_laws.proofs.CompleteValues.{bang_other}
use Rattle.parser_laws.proofs.Plain.{argument_begins}
use Rattle.parser_laws.proofs.CompleteJumps.{argument_no_block}
use Rattle.parser_laws.proofs.CompleteAssignments.{assign_read, assignment_word, calm_value, no_list, rescued_value, value_group, assignment_ends, from_read, phrase_read}
use Rattle.parser_laws.proofs.CompleteStatements.{modifier_free, modifier_word}

-- what begins a value is no assignment and no comma
value_mark : (p : Punctuator) → begins_value (words.Mark p) ≡ true → (assignment_at (words.Mark p) ≡ None)
    × (is_comma_word (words.Mark p) ≡ false)
value_mark marks.Assign h = differs (sym h)
value_mark marks.AndAndAssign h = differs (sym h)
value_mark marks.OrOrAssign h = differs (sym h)
value_mark marks.PlusAssign h = differs (sym h)
value_mark marks.MinusAssign h = differs (sym h)
value_mark marks.StarAssign h = differs (sym h)
value_mark marks.SlashAssign h = differs (sym h)
value_mark marks.PercentAssign h = differs (sym h)
value_mark marks.StarStarAssign h = differs (sym h)
value_mark marks.ShiftLeftAssign h = differs (sym h)
value_mark marks.ShiftRightAssign h = differs (sym h)
value_mark marks.AmpersandAssign h = differs (sym h)
value_mark marks.BarAssign h = differs (sym h)
value_mark marks.CaretAssign h = differs (sym h)
value_mark marks.Comma h = differs (sym h)
value_mark p h = (refl, refl)

value_word : (w : Word) → begins_value w ≡ true → (assignment_at w ≡ None) × (is_comma_word w ≡ false)
value_word (words.Mark p) h = value_mark p h
value_word w h = (refl, refl)

-- no assignment stands before a block
block_mark : (takes : Bool) (p : Punctuator) (style : BlockStyle) → block_of takes (words.Mark p) ≡ Some style
    → assignment_at (words.Mark p) ≡ None
block_mark takes marks.OpenBrace style h = refl
block_mark takes p style h = differs (sym (ap is_some h))

pub block_word : (takes : Bool) (w : Word) (style : BlockStyle) → block_of takes w ≡ Some style → assignment_at w ≡ None
block_word takes (words.Mark p) style h = block_mark takes p style h
block_word takes w style h = refl

pub list_fact : (owner : DoOwner) (names known : Names) (ts rest : Tokens) (c : CalleeNode) (l : ListNode)
    → begins_argument ts ≡ true → opens_arguments ts ≡ false → Fact (Listing (in_command owner) l) names ts known rest
    → block_at owner rest ≡ None
    → Fact (CommandArguments owner c (call_node c (Some (arguments_node l)) None)) names ts known rest
unfolding command
list_fact owner names known ts rest c l begun closed listing unblocked =
    (listing.0, refl, λ d room. (begun, closed, λ calm. rw (listing.2 d room calm) (rw unblocked refl)))

pub block_fact : (owner : DoOwner) (names known later : Names) (ts rest more : Tokens) (c : CalleeNode) (l : ListNode)
    (b : BlockNode) → begins_argument ts ≡ true → opens_arguments ts ≡ false
    → Fact (Listing (in_command owner) l) names ts known rest
    → block_at owner rest ≡ Some styles.Do → is_none l.block ≡ true → Fact (Block styles.Do b) known rest later more
    → postfix_at (first more) ≡ None
    → Fact (CommandArguments owner c (call_node c (Some (arguments_node l)) (Some b))) names ts later more
unfolding command
block_fact owner names known later ts rest more c l b begun closed listing there alone block ends =
    let e = listing.0 in
    let f = block.0 in
    let made : Node = call_node c (Some (arguments_node l)) (Some b) in (
      omega arith,
      refl,
      λ d room. (
        begun,
        closed,
        λ calm.
            let read = listing.2 d room (block_word (call_takes owner) (first rest) styles.Do there) in
            let got = block.2 d (omega arith) in
            let all : chain_within (level_above (levels d)) (length more + 1) false owner (whole made) later more ≡ Ok
            (whole made, later, more) =
            chain_step (level_above (levels d)) (length more + 1) false owner (whole made) later more (omega arith)
            ∙ rw ends refl in
            rw read (rw there (rw alone (rw got (rw all refl)))),
      ),
    )

-- what makes a command of a callee, by the rules a level deeper
arguments_below : (d : ℕ) (owner : DoOwner) (names known : Names) (ts rest : Tokens) (c : CalleeNode) (n : Node) → 0 < d
    → Fact (CommandArguments owner c n) names ts known rest → length ts ≤ d - 1 → assignment_at (first rest) ≡ None
    → command (levels d) c names ts owner ≡ Ok ((n, sorts.Command), known, rest)
arguments_below d owner names known ts rest c n some inner room calm =
    subst (λ (i : Inside). command i c names ts owner ≡ Ok ((n, sorts.Command), known, rest)) (sym (levels_at d some))
    ((inner.2 (d - 1) room).2 calm)

module _ (place : Place) (owner : DoOwner) (names known : Names) (ts rest : Tokens) (c : CalleeNode)
    (may : allows_command place ≡ true) (bare : prefix_at ts ≡ None)
    (inner : Fact (Callee place owner c) names ts known rest)
    (begun : begins_argument rest ≡ true) (closed : opens_arguments rest ≡ false) where
  -- before a list a callee is read alone
  callee_alone : (i : Inside) → suffix i c known rest owner ≡ Ok (callee c, known, rest)
  unfolding suffix
  callee_alone i = rw (closed, argument_no_block owner rest begun) refl

  callee_chain : (d : ℕ) → length ts ≤ d → chain (levels d) names ts true owner ≡ Ok (callee c, known, rest)
  unfolding chain
  callee_chain d room =
      let r = inner.2 d room (callee c) known rest (omega arith) (callee_alone (levels d)) in
      let t = r.4 (length r.2 + 1) (omega arith) in
      let some = t.1 in
      let all : chain_within (levels d) (length r.2 + 1) true owner r.0 r.1 r.2 ≡ Ok (callee c, known, rest) =
      t.2 true (λ h. may) ∙ chain_step (levels d) t.0 true owner (callee c) known rest (omega arith) ∙ rw begun refl in
      rw r.3 all

  callee_operand : (d : ℕ) → length ts ≤ d → operand (levels d) names ts true owner ≡ Ok (callee c, known, rest)
  unfolding operand
  callee_operand d room = rw bare (callee_chain d room)

  callee_read : (d : ℕ) → length ts ≤ d → operand (levels d) names ts (allows_command place) owner ≡ Ok
      (callee c, known, rest)
  callee_read d room = subst (λ b. operand (levels d) names ts b owner ≡ Ok (callee c, known, rest)) (sym may)
      (callee_operand d room)

  -- a list makes a command of it
  command_from : (i : Inside) (result : Read PhraseNode) → command i c known rest owner ≡ result
      → phrase_from i (callee c) known rest place owner ≡ result
  unfolding phrase_from
  command_from i result made =
      let w = value_word (first rest) (argument_begins rest begun).1 in
      let several : (is_statement place && is_comma_word (first rest)) ≡ false =
      rw w.1 (and_false (is_statement place)) in
      let there : command_or_value i (callee c) known rest place owner ≡ result = rw (may, begun) made in
      elim (cases_Bool (is_target (callee c))) [
        | inl target ↦ rw (target, w.0, several) there
        | inr other ↦ rw other there
      ]

  command_phrase : (d : ℕ) (x : Node) (later : Names) (more : Tokens) → Front place ts → length ts ≤ d
      → (is_statement place && is_target_group ts) ≡ false
      → command (levels d) c known rest owner ≡ Ok ((x, sorts.Command), later, more)
      → phrase (levels d) names ts place owner ≡ Ok ((x, sorts.Command), later, more)
  command_phrase d x later more front room group made =
      let other : first ts ≢ words.Mark marks.Not =
      λ e. differs (sym (ap is_some (prefix_not ts e)) ∙ ap is_some bare) in
      phrase_read (levels d) place owner (callee c) names known ts rest _
      (operand_start place ts inner.1 (front.1 may other) group) (callee_read d room)
      (command_from (levels d) _ made)

  command_fact : (x : Node) (later : Names) (more : Tokens) → Front place ts → length more < length ts
      → ((d : ℕ) → length ts ≤ d → assignment_at (first more) ≡ None
      → command (levels d) c known rest owner ≡ Ok ((x, sorts.Command), later, more))
      → Fact (Command place owner x) names ts later more
  command_fact x later more front fewer read = (
    fewer,
    opens_begins ts inner.1,
    λ d room.
        (front.0, λ group calm. command_phrase d x later more front room group (read d room calm)),
  )

pub callee_command : (place : Place) (owner : DoOwner) (names known later : Names) (ts rest more : Tokens)
    (c : CalleeNode) (n : Node) → allows_command place ≡ true → prefix_at ts ≡ None
    → Fact (Callee place owner c) names ts known rest → Front place ts
    → Fact (CommandArguments owner c n) known rest later more → Fact (Command place owner n) names ts later more
callee_command place owner names known later ts rest more c n may bare inner front arguments =
    let r = arguments.2 (length rest) (omega arith) in
    let a = inner.0 in
    let b = arguments.0 in
    command_fact place owner names known ts rest c may bare inner r.0 r.1 n later more front (omega arith)
    (λ d room calm. arguments_below d owner known later rest more c n (omega arith) arguments (omega arith) calm)

pub not_command : (place : Place) (owner : DoOwner) (names known later : Names) (ts rest more : Tokens) (c : CalleeNode)
    (n : Node) → first ts ≡ words.Mark marks.Not → allows_command place ≡ true → prefix_at (behind ts) ≡ None
    → Fact (Callee places.Command owner c) names (behind ts) known rest
    → Fact (CommandArguments owner c n) known rest later more
    → Fact (Command place owner (prefix_node prefixes.Not n)) names ts later more
unfolding part_at phrase_by negated
not_command place owner names known later ts rest more c n is may bare inner arguments =
    let r = arguments.2 (length rest) (omega arith) in
    let one = word_taken (words.Mark marks.Not) ts is refl in
    let a = inner.0 in
    let b = arguments.0 in (
      omega arith,
      rw is refl,
      λ d room. (
        rw is refl,
        λ group calm.
            let got = callee_operand places.Command owner names known (behind ts) rest c refl bare inner r.0 r.1 d
            (omega arith) in
            let made = arguments_below d owner known later rest more c n (omega arith) arguments (omega arith) calm in
            let from = command_from places.Command owner names known (behind ts) rest c refl bare inner r.0 r.1
            (levels d) _ made in
            rw (not_start place ts is group may) (rw got (rw r.0 (rw from refl))),
      ),
    )

abbrev command_item : Node → ListNode
command_item n = record { items = Plain n ∷ []; pairs = []; block = none; command = true; comma = false }

-- a list of a command
list_of_command : (i : Inside) (names known : Names) (ts rest : Tokens) (owner : DoOwner) (n : Node)
    → phrase i names ts places.Command owner ≡ Ok ((n, sorts.Command), known, rest) → begins (first ts) ≡ true
    → part_at ts ≡ parts.Value → 0 < length ts
    → is_comma_word (first rest) ≡ false → list i names ts owner ≡ Ok (command_item n, known, rest)
unfolding next_part part_by
list_of_command i names known ts rest owner n read h part some comma =
    let first_turn = list_step i (length ts + 1) owner true true nothing_listed names ts (omega arith) in
    let last : list_from i (length ts + 1 - 1) owner false false (command_item n) known rest ≡ Ok
    (command_item n, known, rest) =
    list_step i (length ts + 1 - 1) owner false false (command_item n) known rest (omega arith) in
    first_turn ∙ rw (word_begins (first ts) h, part) (rw (read, comma) last)

-- a command as the value of an assignment
value_read : (d : ℕ) (place : Place) (owner : DoOwner) (a : Assignment) (names known : Names) (ts rest : Tokens)
    (n : Node) → 0 < d → phrase (levels (d - 1)) names ts (of_value place) owner ≡ Ok ((n, sorts.Command), known, rest)
    → begins (first ts) ≡ true → part_at ts ≡ parts.Value → 0 < length ts
    → (takes_list a place && is_comma_word (first rest)) ≡ false
    → assigned_value (levels d) names ts a place owner ≡ Ok ((n, sorts.Command), known, rest)
value_read d place owner a names known ts rest n below read h part some alone =
    by_list a place (takes_list a place) refl read alone
  where
    by_list : (b : Assignment) (p : Place) (t : Bool) → takes_list b p ≡ t
        → phrase (levels (d - 1)) names ts (of_value p) owner ≡ Ok ((n, sorts.Command), known, rest)
        → (takes_list b p && is_comma_word (first rest)) ≡ false
        → assigned_value (levels d) names ts b p owner ≡ Ok ((n, sorts.Command), known, rest)
    by_list b p false takes got single =
        let same : (levels d).phrase names ts (of_value p) owner ≡ Ok ((n, sorts.Command), known, rest) =
        ap (λ (i : Inside). i.phrase names ts (of_value p) owner) (levels_at d below) ∙ got in
        let no_list : phrases.takes_list b p ≡ false = same_takes b p ∙ takes in
        rw (no_list, same) refl
    by_list b p true takes got single =
        let no_more : is_comma_word (first rest) ≡ false =
        subst (λ t. (t && is_comma_word (first rest)) ≡ false) takes single in
        let there : phrase (levels (d - 1)) names ts places.Command owner ≡ Ok ((n, sorts.Command), known, rest) =
        subst (λ q. phrase (levels (d - 1)) names ts q owner ≡ Ok ((n, sorts.Command), known, rest))
        (statement_only b p takes) got in
        let same : (levels d).list names ts owner ≡ Ok (command_item n, known, rest) =
        ap (λ (i : Inside). i.list names ts owner) (levels_at d below)
        ∙ list_of_command (levels (d - 1)) names known ts rest owner n there h part some no_more in
        let a_list : phrases.takes_list b p ≡ true = same_takes b p ∙ takes in
        rw (a_list, same) refl

module _ (place : Place) (owner : DoOwner) (a : Assignment) (names known later : Names) (ts rest more : Tokens)
    (target n : Node) (left : Fact (Target owner target) names ts known rest)
    (there : assignment_at (first rest) ≡ Some a)
    (value : Fact (Command (of_value place) owner n) known (behind rest) later more)
    (alone : (takes_list a place && is_comma_word (first more)) ≡ false) where
  -- a target, and the assignment of a command that it begins
  assigned_from : (last : Names) (tail : Tokens) (taken : Node) (d : ℕ) → length ts ≤ d
      → assignment_at (first more) ≡ None
      → whole_value (levels d) n sorts.Command later more owner ≡ Ok (taken, last, tail)
      → (o : OperandNode) × (k : Names) × ((commands : Bool)
      → operand (levels d) names ts commands owner ≡ Ok (o, k, rest)) × (is_target o ≡ true)
      × (phrase_from (levels d) o k rest place owner ≡ Ok ((assignment_node a target taken, sorts.Command), last, tail))
  assigned_from last tail taken d room calm all =
      let one = word_taken (first rest) rest refl (assignment_word (first rest) a there) in
      let l = left.0 in
      let v = value.0 in
      let t = left.2 d room (assignment_ends (first rest) a there) in
      let inner = value.2 (d - 1) (omega arith) in
      let right = value_read d place owner a known later (behind rest) more n (omega arith)
      (inner.1 (value_group place (behind rest)) calm) value.1 inner.0 (omega arith) alone in
      let made = assign_read (levels d) place owner a target known later last (behind rest) more tail n taken
      sorts.Command right all in
      let moved : assign (levels d) (target_node t.0) (target_names t.0 t.1) a (behind rest) place owner ≡ Ok
      ((assignment_node a target taken, sorts.Command), last, tail) =
      subst (λ k. assign (levels d) (target_node t.0) k a (behind rest) place owner ≡ Ok
      ((assignment_node a target taken, sorts.Command), last, tail)) (sym t.5)
      (subst (λ y. assign (levels d) y known a (behind rest) place owner ≡ Ok
      ((assignment_node a target taken, sorts.Command), last, tail)) (sym t.4) made) in
      (t.0, t.1, t.2, t.3, from_read (levels d) place owner a t.0 t.1 rest _ t.3 there moved)

  -- an assignment whose command is read whole
  command_whole : (last : Names) (tail : Tokens) (taken : Node) → Front place ts → length tail ≤ length more
      → ((d : ℕ) → length more < d → whole_value (levels d) n sorts.Command later more owner ≡ Ok (taken, last, tail))
      → (assignment_at (first tail) ≡ None → assignment_at (first more) ≡ None)
      → Fact (Command place owner (assignment_node a target taken)) names ts last tail
  command_whole last tail taken lead within all free =
      let one = word_taken (first rest) rest refl (assignment_word (first rest) a there) in
      let opening = and_parts (opens ts) (not (is_bang (first ts))) left.1 in
      let l = left.0 in
      let v = value.0 in (
        omega arith,
        opens_begins ts opening.0,
        λ d room. (
          lead.0,
          λ group calm.
              let f = assigned_from last tail taken d room (free calm) (all d (omega arith)) in
              phrase_read (levels d) place owner f.0 names f.1 ts rest _
              (front_start place ts opening.0 lead (bang_other (first ts) (not_true (is_bang (first ts)) opening.1))
              group) (f.2 (allows_command place)) f.4,
        ),
      )

  pub command_assigned : Front place ts → is_rescue (modifier_at (first more)) ≡ false
      → Fact (Command place owner (assignment_node a target n)) names ts later more
  command_assigned lead calm =
      command_whole later more n lead (omega arith)
      (λ d room. calm_value (levels d) owner later more n sorts.Command calm) (λ none. none)

-- before a modifier rescue no list goes on
rescue_alone : (takes : Bool) (w : Word) → modifier_at w ≡ Some modifiers.Rescue → (takes && is_comma_word w) ≡ false
rescue_alone takes (words.Mark p) rescue = differs (sym (ap is_some rescue))
rescue_alone takes w rescue = and_false takes

pub command_assigned_or : (place : Place) (owner : DoOwner) (a : Assignment) (names known later last : Names)
    (ts rest more tail : Tokens) (target n other : Node) → Fact (Target owner target) names ts known rest
    → Front place ts → assignment_at (first rest) ≡ Some a
    → Fact (Command (of_value place) owner n) known (behind rest) later more
    → modifier_at (first more) ≡ Some modifiers.Rescue
    → Fact (Argument places.Argument owner other) later (behind more) last tail
    → Fact (Command place owner (assignment_node a target (rescued_node n other))) names ts last tail
command_assigned_or place owner a names known later last ts rest more tail target n other left lead there value rescue
    right =
    let one = word_taken (first more) more refl (modifier_word (first more) modifiers.Rescue rescue) in
    let r = right.0 in
    command_whole place owner a names known later ts rest more target n left there value
    (rescue_alone (takes_list a place) (first more) rescue) last tail (rescued_node n other) lead (omega arith)
    (λ d room. rescued_value d owner later last more tail n other sorts.Command refl rescue right (omega arith))
    (λ none. modifier_free (first more) modifiers.Rescue rescue)

module _ (place : Place) (owner : DoOwner) (a : Assignment) (names known later : Names) (ts rest more : Tokens)
    (target n : Node) (is : first ts ≡ words.Mark marks.Not) (may : allows_command place ≡ true)
    (left : Fact (Target owner target) names (behind ts) known rest) (there : assignment_at (first rest) ≡ Some a)
    (value : Fact (Command places.Command owner n) known (behind rest) later more) where
  -- ! and an assignment whose command is read whole
  negated_whole : (last : Names) (tail : Tokens) (taken : Node) → length tail ≤ length more
      → ((d : ℕ) → length more < d → whole_value (levels d) n sorts.Command later more owner ≡ Ok (taken, last, tail))
      → (assignment_at (first tail) ≡ None → assignment_at (first more) ≡ None)
      → Fact (Command place owner (prefix_node prefixes.Not (assignment_node a target taken))) names ts last tail
  unfolding part_at phrase_by negated
  negated_whole last tail taken within all free =
      let one = word_taken (words.Mark marks.Not) ts is refl in
      let two = word_taken (first rest) rest refl (assignment_word (first rest) a there) in
      let l = left.0 in
      let v = value.0 in (
        omega arith,
        rw is refl,
        λ d room. (
          rw is refl,
          λ group calm.
              let f = assigned_from places.Command owner a names known later (behind ts) rest more target n left there
              value (no_list a places.Command (is_comma_word (first more)) refl) last tail taken d (omega arith)
              (free calm) (all d (omega arith)) in
              let assigned : is_command_there f.0 rest ≡ true =
              or_right (begins_command f.0 rest) (is_assigned f.0 rest) (rw (f.3, there) refl) in
              rw (not_start place ts is group may) (rw (f.2 true) (rw assigned (rw f.4 refl))),
        ),
      )

  pub not_assigned : is_rescue (modifier_at (first more)) ≡ false
      → Fact (Command place owner (prefix_node prefixes.Not (assignment_node a target n))) names ts later more
  not_assigned calm =
      negated_whole later more n (omega arith)
      (λ d room. calm_value (levels d) owner later more n sorts.Command calm) (λ none. none)

  pub not_assigned_or : (last : Names) (tail : Tokens) (other : Node)
      → modifier_at (first more) ≡ Some modifiers.Rescue
      → Fact (Argument places.Argument owner other) later (behind more) last tail
      → Fact (Command place owner (prefix_node prefixes.Not (assignment_node a target (rescued_node n other)))) names
      ts last tail
  not_assigned_or last tail other rescue right =
      let one = word_taken (first more) more refl (modifier_word (first more) modifiers.Rescue rescue) in
      let r = right.0 in
      negated_whole last tail (rescued_node n other) (omega arith)
      (λ d room. rescued_value d owner later last more tail n other sorts.Command refl rescue right (omega arith))
      (λ none. modifier_free (first more) modifiers.Rescue rescue)

pub commanded : (place : Place) (owner : DoOwner) (names known : Names) (ts rest : Tokens) (n : Node)
    → (is_statement place && is_target_group ts) ≡ false → Fact (Command place owner n) names ts known rest
    → Fact (Negation place owner n) names ts known rest
unfolding negation
commanded place owner names known ts rest n group inner = (
  inner.0,
  or_left (begins (first ts)) (is_not (first ts)) inner.1,
  λ d room none. (sorts.Command, refl, rw (head_no_not (first ts) inner.1) ((inner.2 d room).1 group none)),
)

pub command_part_fact : (owner : DoOwner) (names known : Names) (ts rest : Tokens) (n : Node)
    → Fact (Command places.Command owner n) names ts known rest → is_comma_word (first rest) ≡ false
    → Fact (Listing owner (put (command_part n) nothing_listed)) names ts known rest
command_part_fact owner names known ts rest n inner alone =
    let fewer = inner.0 in (
      omega arith,
      refl,
      λ d room none.
          let r = inner.2 d room in
          list_of_command (levels d) names known ts rest owner n (r.1 refl none) inner.1 r.0 (omega arith) alone,
    )
