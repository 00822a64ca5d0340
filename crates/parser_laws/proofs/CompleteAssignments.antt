-- An assignment that is derived is read.
use Rattle.std.proofs.Common.{◌≡◌, ℕ, ◌+◌, ◌-◌, ◌<◌, ◌≤◌, Bool, true, false, not, ◌&&◌, [], ◌∷◌, length, Some, is_some, Ok, refl, sym, ap, subst, ◌∙◌, arith}
use Rattle.std.proofs.lemmas.Bool.{and_parts}
use Rattle.rb_syntax.specs.declared.core_form.Item.TheVariants.{Plain}
use Rattle.rb_syntax.specs.declared.punctuator.Punctuator.TheVariants as marks
use Rattle.parser_tree.specs.Node.{Node, none}
use Rattle.parser_tokens.specs.Tokens.{first, behind}
use Rattle.parser_tokens.specs.Operators.{assignment_at}
use Rattle.parser_tokens.specs.Starts.{modifier_at}
use Rattle.parser_tokens.specs.declared.operators.Assignment.{Assignment}
use Rattle.parser_tokens.specs.declared.operators.Assignment.TheVariants as signs
use Rattle.parser_tokens.specs.declared.operators.Prefix.TheVariants as prefixes
use Rattle.parser_tokens.specs.declared.word.Modifier.{Modifier}
use Rattle.parser_tokens.specs.declared.word.Modifier.TheVariants as modifiers
use Rattle.parser_tokens.specs.declared.word.Word.{Word}
use Rattle.parser_tokens.specs.declared.word.Word.TheVariants as words
use Rattle.parser_ahead.specs.Groups.{is_target_group}
use Rattle.parser_ahead.specs.Primary.{is_statement, allows_command, of_value, start_at, part_at, is_comma_word, is_arrow_word}
use Rattle.parser_ahead.specs.declared.primary.DoOwner.{DoOwner}
use Rattle.parser_ahead.specs.declared.primary.PartStart.TheVariants as parts
use Rattle.parser_ahead.specs.declared.primary.Place.{Place}
use Rattle.parser_ahead.specs.declared.primary.Place.TheVariants as places
use Rattle.parser_ahead.specs.declared.primary.Start.TheVariants as starts
use Rattle.parser_operands.specs.Operands.{begins_command, operand}
use Rattle.parser_nodes.specs.Nodes.{rescued_node, assignment_node, prefix_node}
use Rattle.parser_nodes.specs.Calls.{OperandNode, is_target, target_node, target_names}
use Rattle.parser_nodes.specs.Listed.{ListNode, PhraseNode, nothing_listed}
use Rattle.parser_nodes.specs.declared.listed.Sort.{Sort}
use Rattle.parser_nodes.specs.declared.listed.Sort.TheVariants as sorts
use Rattle.parser_operands.specs.Operators as operators
use Rattle.parser_phrases.specs.Phrases as phrases
use Rattle.parser_phrases.specs.Phrases.{is_single, is_assigned, is_command_there, assigned_value, whole_value, assign, phrase_from, negated, phrase_by, phrase}
use Rattle.parser_statements.specs.Lists.{part_by, next_part, list_from, list}
use Rattle.parser_statements.proofs.Turns.{list_step}
use Rattle.parser_forms.specs.Reading.{Names, Tokens, Read, Inside}
use Rattle.rb_parser.specs.Levels.{levels}
use Rattle.parser_laws.specs.Rules.{Argument, Target, InnerTarget, is_rescue, takes_list, goes_on_list}
use Rattle.parser_laws.proofs.Facts.{is_bang, begins, opens, is_finish, Fact, levels_at, word_taken, ends_target}
use Rattle.parser_laws.proofs.Heads.{Front, opens_begins, word_begins, front_start, not_start}
use Rattle.parser_laws.proofs.Tests.{or_left, or_right}
use Rattle.parser_laws.proofs.Assigning.{same_rescue, same_takes, statement_only, or_false_parts}
use Rattle.parser_laws.proofs.Results.{differs, and_false, not_true}
use Rattle.parser_laws.proofs.CompleteValues.{bang_other, true_and, value_below}
use Rattle.parser_laws.proofs.CompleteStatements.{modifier_free, modifier_word}

pub assignment_word : (w : Word) (a : Assignment) → assignment_at w ≡ Some a → is_finish w ≡ false
assignment_word words.Finish a h = differs (sym (ap is_some h))
assignment_word w a h = refl

abbrev one_item : Node → ListNode
one_item n = record { items = Plain n ∷ []; pairs = []; block = none; command = false; comma = false }

-- a list of one value
list_of_one : (i : Inside) (names known : Names) (ts rest : Tokens) (owner : DoOwner) (n : Node)
    → phrase i names ts places.Command owner ≡ Ok ((n, sorts.Argument), known, rest) → begins (first ts) ≡ true
    → part_at ts ≡ parts.Value → 0 < length ts
    → is_comma_word (first rest) ≡ false → is_arrow_word (first rest) ≡ false
    → list i names ts owner ≡ Ok (one_item n, known, rest)
unfolding next_part part_by
list_of_one i names known ts rest owner n read h part some comma arrow =
    let first_turn = list_step i (length ts + 1) owner true true nothing_listed names ts (omega arith) in
    let last : list_from i (length ts + 1 - 1) owner false false (one_item n) known rest ≡ Ok (one_item n, known, rest)
    =
    list_step i (length ts + 1 - 1) owner false false (one_item n) known rest (omega arith) in
    first_turn ∙ rw (word_begins (first ts) h, part) (rw (read, arrow, comma) last)

-- the value of an assignment
value_read : (d : ℕ) (place : Place) (owner : DoOwner) (a : Assignment) (names known : Names) (ts rest : Tokens)
    (n : Node) → 0 < d → phrase (levels (d - 1)) names ts (of_value place) owner ≡ Ok ((n, sorts.Argument), known, rest)
    → begins (first ts) ≡ true → part_at ts ≡ parts.Value → 0 < length ts
    → (takes_list a place && goes_on_list (first rest)) ≡ false
    → assigned_value (levels d) names ts a place owner ≡ Ok ((n, sorts.Argument), known, rest)
value_read d place owner a names known ts rest n below read h part some alone =
    by_list a place (takes_list a place) refl read alone
  where
    by_list : (b : Assignment) (p : Place) (t : Bool) → takes_list b p ≡ t
        → phrase (levels (d - 1)) names ts (of_value p) owner ≡ Ok ((n, sorts.Argument), known, rest)
        → (takes_list b p && goes_on_list (first rest)) ≡ false
        → assigned_value (levels d) names ts b p owner ≡ Ok ((n, sorts.Argument), known, rest)
    by_list b p false takes got single =
        let same : (levels d).phrase names ts (of_value p) owner ≡ Ok ((n, sorts.Argument), known, rest) =
        ap (λ (i : Inside). i.phrase names ts (of_value p) owner) (levels_at d below) ∙ got in
        let no_list : phrases.takes_list b p ≡ false = same_takes b p ∙ takes in
        rw (no_list, same) refl
    by_list b p true takes got single =
        let no_more : (true && goes_on_list (first rest)) ≡ false =
        subst (λ t. (t && goes_on_list (first rest)) ≡ false) takes single in
        let parts_of = or_false_parts (is_comma_word (first rest)) (is_arrow_word (first rest)) no_more in
        let command : phrase (levels (d - 1)) names ts places.Command owner ≡ Ok ((n, sorts.Argument), known, rest) =
        subst (λ q. phrase (levels (d - 1)) names ts q owner ≡ Ok ((n, sorts.Argument), known, rest))
        (statement_only b p takes) got in
        let same : (levels d).list names ts owner ≡ Ok (one_item n, known, rest) =
        ap (λ (i : Inside). i.list names ts owner) (levels_at d below)
        ∙ list_of_one (levels (d - 1)) names known ts rest owner n command h part some parts_of.0 parts_of.1 in
        let a_list : phrases.takes_list b p ≡ true = same_takes b p ∙ takes in
        rw (a_list, same) refl

pub value_group : (place : Place) (ts : Tokens) → (is_statement (of_value place) && is_target_group ts) ≡ false
value_group places.Statement ts = refl
value_group places.Command ts = refl
value_group places.Argument ts = refl

value_calm : (place : Place) (b : Bool) → (allows_command place && b) ≡ false
    → (allows_command (of_value place) && b) ≡ false
value_calm places.Statement b h = h
value_calm places.Command b h = h
value_calm places.Argument b h = h

pub assign_read : (i : Inside) (place : Place) (owner : DoOwner) (a : Assignment) (target : Node)
    (names known later : Names) (ts rest more : Tokens) (n whole : Node) (sort : Sort)
    → assigned_value i names ts a place owner ≡ Ok ((n, sort), known, rest)
    → whole_value i n sort known rest owner ≡ Ok (whole, later, more)
    → assign i target names a ts place owner ≡ Ok ((assignment_node a target whole, sort), later, more)
unfolding assign
assign_read i place owner a target names known later ts rest more n whole sort read all = rw read (rw all refl)

-- a value before no modifier rescue, and before one
pub calm_value : (i : Inside) (owner : DoOwner) (names : Names) (ts : Tokens) (n : Node) (sort : Sort)
    → is_rescue (modifier_at (first ts)) ≡ false → whole_value i n sort names ts owner ≡ Ok (n, names, ts)
calm_value i owner names ts n sort calm =
    let alone : operators.is_rescue (modifier_at (first ts)) ≡ false = same_rescue (modifier_at (first ts)) ∙ calm in
    rw (alone, and_false (is_single sort)) refl

pub rescued_value : (d : ℕ) (owner : DoOwner) (names known : Names) (ts rest : Tokens) (n other : Node) (sort : Sort)
    → is_single sort ≡ true → modifier_at (first ts) ≡ Some modifiers.Rescue
    → Fact (Argument places.Argument owner other) names (behind ts) known rest → length ts ≤ d
    → whole_value (levels d) n sort names ts owner ≡ Ok (rescued_node n other, known, rest)
rescued_value d owner names known ts rest n other sort single rescue right room =
    let one = word_taken (first ts) ts refl (modifier_word (first ts) modifiers.Rescue rescue) in
    let r = right.0 in
    let read = value_below d (omega arith) names known (behind ts) rest owner other
    (right.2 (d - 1) (omega arith) refl refl) in
    rw (single, rescue, read) refl

pub from_read : (i : Inside) (place : Place) (owner : DoOwner) (a : Assignment) (o : OperandNode) (names : Names)
    (ts : Tokens) (result : Read PhraseNode) → is_target o ≡ true → assignment_at (first ts) ≡ Some a
    → assign i (target_node o) (target_names o names) a (behind ts) place owner ≡ result
    → phrase_from i o names ts place owner ≡ result
unfolding phrase_from
from_read i place owner a o names ts result target there made = rw (target, there) made

pub phrase_read : (i : Inside) (place : Place) (owner : DoOwner) (o : OperandNode) (names known : Names)
    (ts rest : Tokens) (result : Read PhraseNode) → start_at place ts ≡ starts.Operand
    → operand i names ts (allows_command place) owner ≡ Ok (o, known, rest)
    → phrase_from i o known rest place owner ≡ result → phrase i names ts place owner ≡ result
unfolding phrase_by
phrase_read i place owner o names known ts rest result started read made = rw started (rw read made)

pub assignment_ends : (w : Word) (a : Assignment) → assignment_at w ≡ Some a → ends_target w ≡ true
assignment_ends w a there = or_left (is_some (assignment_at w)) _ (ap is_some there)

-- a modifier goes on no list
modifier_alone : (w : Word) (m : Modifier) → modifier_at w ≡ Some m → goes_on_list w ≡ false
modifier_alone (words.Mark p) m h = differs (sym (ap is_some h))
modifier_alone w m h = refl

-- a target that is read where a value stands
abbrev Assignable : Place → DoOwner → Node → Names → Tokens → Names → Tokens → Type 0
Assignable place owner x names ts known rest =
    (length rest < length ts) × ((opens ts && not (is_bang (first ts))) ≡ true)
    × ((d : ℕ) → length ts ≤ d → ends_target (first rest) ≡ true
    → (o : OperandNode) × (k : Names) × (operand (levels d) names ts (allows_command place) owner ≡ Ok (o, k, rest))
    × (is_target o ≡ true) × (target_node o ≡ x) × (target_names o k ≡ known))

of_target : (place : Place) (owner : DoOwner) (x : Node) (names known : Names) (ts rest : Tokens)
    → Fact (Target owner x) names ts known rest → Assignable place owner x names ts known rest
of_target place owner x names known ts rest left =
    (left.0, left.1, λ d room ends. let t = left.2 d room ends in (t.0, t.1, t.2 (allows_command place), t.3, t.4, t.5))

of_inner : (owner : DoOwner) (x : Node) (names known : Names) (ts rest : Tokens)
    → Fact (InnerTarget owner x) names ts known rest → Assignable places.Argument owner x names ts known rest
of_inner owner x names known ts rest left = (
  left.0,
  left.1,
  λ d room ends. let t = left.2 d room ends in
      (t.0, t.1, t.2, t.3, t.4, t.5),
)

module _ (place : Place) (owner : DoOwner) (a : Assignment) (names known later : Names) (ts rest more : Tokens)
    (target n : Node)
    (left : Assignable place owner target names ts known rest)
    (there : assignment_at (first rest) ≡ Some a)
    (value : Fact (Argument (of_value place) owner n) known (behind rest) later more)
    (part : part_at (behind rest) ≡ parts.Value)
    (alone : (takes_list a place && goes_on_list (first more)) ≡ false) where
  -- a target, and the assignment that it begins
  assigned_from : (last : Names) (tail : Tokens) (whole : Node) (d : ℕ) → length ts ≤ d
      → (allows_command (of_value place) && is_some (assignment_at (first more))) ≡ false
      → whole_value (levels d) n sorts.Argument later more owner ≡ Ok (whole, last, tail)
      → (o : OperandNode) × (k : Names)
      × (operand (levels d) names ts (allows_command place) owner ≡ Ok (o, k, rest)) × (is_target o ≡ true)
      × (phrase_from (levels d) o k rest place owner ≡ Ok
      ((assignment_node a target whole, sorts.Argument), last, tail))
  assigned_from last tail whole d room free all =
      let one = word_taken (first rest) rest refl (assignment_word (first rest) a there) in
      let l = left.0 in
      let v = value.0 in
      let t = left.2 d room (assignment_ends (first rest) a there) in
      let inner = value.2 (d - 1) (omega arith) (value_group place (behind rest)) free in
      let right = value_read d place owner a known later (behind rest) more n (omega arith) inner value.1 part
      (omega arith) alone in
      let made = assign_read (levels d) place owner a target known later last (behind rest) more tail n whole
      sorts.Argument right all in
      let moved : assign (levels d) (target_node t.0) (target_names t.0 t.1) a (behind rest) place owner ≡ Ok
      ((assignment_node a target whole, sorts.Argument), last, tail) =
      subst (λ k. assign (levels d) (target_node t.0) k a (behind rest) place owner ≡ Ok
      ((assignment_node a target whole, sorts.Argument), last, tail)) (sym t.5)
      (subst (λ y. assign (levels d) y known a (behind rest) place owner ≡ Ok
      ((assignment_node a target whole, sorts.Argument), last, tail)) (sym t.4) made) in
      (t.0, t.1, t.2, t.3, from_read (levels d) place owner a t.0 t.1 rest _ t.3 there moved)

  -- an assignment whose value is read whole
  assigned_whole : (last : Names) (tail : Tokens) (whole : Node) → Front place ts → length tail ≤ length more
      → ((d : ℕ) → length more < d → whole_value (levels d) n sorts.Argument later more owner ≡ Ok (whole, last, tail))
      → ((allows_command place && is_some (assignment_at (first tail))) ≡ false
      → (allows_command (of_value place) && is_some (assignment_at (first more))) ≡ false)
      → Fact (Argument place owner (assignment_node a target whole)) names ts last tail
  assigned_whole last tail whole lead within all free =
      let one = word_taken (first rest) rest refl (assignment_word (first rest) a there) in
      let opening = and_parts (opens ts) (not (is_bang (first ts))) left.1 in
      let l = left.0 in
      let v = value.0 in (
        omega arith,
        opens_begins ts opening.0,
        λ d room group none.
            let f = assigned_from last tail whole d room (free none) (all d (omega arith)) in
            phrase_read (levels d) place owner f.0 names f.1 ts rest _
            (front_start place ts opening.0 lead (bang_other (first ts) (not_true (is_bang (first ts)) opening.1))
            group) f.2 f.4,
      )

  assigned_calm : Front place ts → is_rescue (modifier_at (first more)) ≡ false
      → Fact (Argument place owner (assignment_node a target n)) names ts later more
  assigned_calm lead calm =
      assigned_whole later more n lead (omega arith)
      (λ d room. calm_value (levels d) owner later more n sorts.Argument calm)
      (value_calm place (is_some (assignment_at (first more))))

-- before a modifier rescue goes on no list, and no assignment
rescue_alone : (takes : Bool) (w : Word) → modifier_at w ≡ Some modifiers.Rescue → (takes && goes_on_list w) ≡ false
rescue_alone takes w rescue = rw (modifier_alone w modifiers.Rescue rescue) (and_false takes)

rescue_free : (allows : Bool) (w : Word) → modifier_at w ≡ Some modifiers.Rescue
    → (allows && is_some (assignment_at w)) ≡ false
rescue_free allows w rescue = rw (modifier_free w modifiers.Rescue rescue) (and_false allows)

module _ (place : Place) (owner : DoOwner) (a : Assignment) (names known later : Names) (ts rest more : Tokens)
    (target n : Node) (left : Assignable place owner target names ts known rest) (lead : Front place ts)
    (there : assignment_at (first rest) ≡ Some a)
    (value : Fact (Argument (of_value place) owner n) known (behind rest) later more)
    (part : part_at (behind rest) ≡ parts.Value) where
  assigned_rescued : (last : Names) (tail : Tokens) (other : Node) → modifier_at (first more) ≡ Some modifiers.Rescue
      → Fact (Argument places.Argument owner other) later (behind more) last tail
      → Fact (Argument place owner (assignment_node a target (rescued_node n other))) names ts last tail
  assigned_rescued last tail other rescue right =
      let one = word_taken (first more) more refl (modifier_word (first more) modifiers.Rescue rescue) in
      let r = right.0 in
      assigned_whole place owner a names known later ts rest more target n left there value part
      (rescue_alone (takes_list a place) (first more) rescue) last tail (rescued_node n other) lead (omega arith)
      (λ d room. rescued_value d owner later last more tail n other sorts.Argument refl rescue right (omega arith))
      (λ none. rescue_free (allows_command (of_value place)) (first more) rescue)

-- a list is assigned only where a statement stands
pub no_list : (a : Assignment) (place : Place) (b : Bool) → is_statement place ≡ false → (takes_list a place && b) ≡ false
no_list signs.Plain place b h = rw h refl
no_list (signs.Operation o) place b h = refl

module _ (place : Place) (owner : DoOwner) (a : Assignment) (names known later : Names) (ts rest more : Tokens)
    (target n : Node) (is : first ts ≡ words.Mark marks.Not) (may : allows_command place ≡ true)
    (left : Fact (Target owner target) names (behind ts) known rest) (there : assignment_at (first rest) ≡ Some a)
    (value : Fact (Argument places.Command owner n) known (behind rest) later more)
    (part : part_at (behind rest) ≡ parts.Value) where
  -- ! and an assignment whose value is read whole
  negated_whole : (last : Names) (tail : Tokens) (whole : Node) → length tail ≤ length more
      → ((d : ℕ) → length more < d → whole_value (levels d) n sorts.Argument later more owner ≡ Ok (whole, last, tail))
      → (is_some (assignment_at (first tail)) ≡ false → is_some (assignment_at (first more)) ≡ false)
      → Fact (Argument place owner (prefix_node prefixes.Not (assignment_node a target whole))) names ts last tail
  unfolding phrase_by negated
  negated_whole last tail whole within all free =
      let one = word_taken (words.Mark marks.Not) ts is refl in
      let two = word_taken (first rest) rest refl (assignment_word (first rest) a there) in
      let l = left.0 in
      let v = value.0 in (
        omega arith,
        rw is refl,
        λ d room group none.
            let f = assigned_from places.Command owner a names known later (behind ts) rest more target n
            (of_target places.Command owner target names known (behind ts) rest left) there value part
            (no_list a places.Command (goes_on_list (first more)) refl) last tail whole d (omega arith)
            (free (true_and (allows_command place) (is_some (assignment_at (first tail))) may none))
            (all d (omega arith)) in
            let assigned : is_command_there f.0 rest ≡ true =
            or_right (begins_command f.0 rest) (is_assigned f.0 rest) (rw (f.3, there) refl) in
            rw (not_start place ts is group may) (rw f.2 (rw assigned (rw f.4 refl))),
      )

  pub not_assigned_value : is_rescue (modifier_at (first more)) ≡ false
      → Fact (Argument place owner (prefix_node prefixes.Not (assignment_node a target n))) names ts later more
  not_assigned_value calm =
      negated_whole later more n (omega arith)
      (λ d room. calm_value (levels d) owner later more n sorts.Argument calm) (λ none. none)

  pub not_assigned_value_or : (last : Names) (tail : Tokens) (other : Node)
      → modifier_at (first more) ≡ Some modifiers.Rescue
      → Fact (Argument places.Argument owner other) later (behind more) last tail
      → Fact (Argument place owner (prefix_node prefixes.Not (assignment_node a target (rescued_node n other)))) names
      ts last tail
  not_assigned_value_or last tail other rescue right =
      let one = word_taken (first more) more refl (modifier_word (first more) modifiers.Rescue rescue) in
      let r = right.0 in
      negated_whole last tail (rescued_node n other) (omega arith)
      (λ d room. rescued_value d owner later last more tail n other sorts.Argument refl rescue right (omega arith))
      (λ none. rescue_free true (first more) rescue)

pub assigned : (place : Place) (owner : DoOwner) (a : Assignment) (names known later : Names) (ts rest more : Tokens)
    (target n : Node)
    → Fact (Target owner target) names ts known rest → Front place ts → assignment_at (first rest) ≡ Some a
    → Fact (Argument (of_value place) owner n) known (behind rest) later more → part_at (behind rest) ≡ parts.Value
    → is_rescue (modifier_at (first more)) ≡ false → (takes_list a place && goes_on_list (first more)) ≡ false
    → Fact (Argument place owner (assignment_node a target n)) names ts later more
assigned place owner a names known later ts rest more target n left lead there value part calm alone =
    assigned_calm place owner a names known later ts rest more target n
    (of_target place owner target names known ts rest left) there value part alone lead calm

pub assigned_or : (place : Place) (owner : DoOwner) (a : Assignment) (names known later last : Names)
    (ts rest more tail : Tokens) (target n other : Node)
    → Fact (Target owner target) names ts known rest → Front place ts → assignment_at (first rest) ≡ Some a
    → Fact (Argument (of_value place) owner n) known (behind rest) later more → part_at (behind rest) ≡ parts.Value
    → modifier_at (first more) ≡ Some modifiers.Rescue
    → Fact (Argument places.Argument owner other) later (behind more) last tail
    → Fact (Argument place owner (assignment_node a target (rescued_node n other))) names ts last tail
assigned_or place owner a names known later last ts rest more tail target n other left lead there value part rescue
    right =
    assigned_rescued place owner a names known later ts rest more target n
    (of_target place owner target names known ts rest left) lead there value part last tail other rescue right

pub inner_assigned : (owner : DoOwner) (a : Assignment) (names known later : Names) (ts rest more : Tokens)
    (target n : Node)
    → Fact (InnerTarget owner target) names ts known rest → Front places.Argument ts
    → assignment_at (first rest) ≡ Some a → Fact (Argument places.Argument owner n) known (behind rest) later more
    → part_at (behind rest) ≡ parts.Value
    → is_rescue (modifier_at (first more)) ≡ false
    → Fact (Argument places.Argument owner (assignment_node a target n)) names ts later more
inner_assigned owner a names known later ts rest more target n left lead there value part calm =
    assigned_calm places.Argument owner a names known later ts rest more target n
    (of_inner owner target names known ts rest left) there value part
    (no_list a places.Argument (goes_on_list (first more)) refl) lead calm

pub inner_assigned_or : (owner : DoOwner) (a : Assignment) (names known later last : Names) (ts rest more tail : Tokens)
    (target n other : Node)
    → Fact (InnerTarget owner target) names ts known rest → Front places.Argument ts
    → assignment_at (first rest) ≡ Some a → Fact (Argument places.Argument owner n) known (behind rest) later more
    → part_at (behind rest) ≡ parts.Value
    → modifier_at (first more) ≡ Some modifiers.Rescue
    → Fact (Argument places.Argument owner other) later (behind more) last tail
    → Fact (Argument places.Argument owner (assignment_node a target (rescued_node n other))) names ts last tail
inner_assigned_or owner a names known later last ts rest more tail target n other left lead there value part rescue
    right =
    assigned_rescued places.Argument owner a names known later ts rest more target n
    (of_inner owner target names known ts rest left) lead there value part last tail other rescue right
