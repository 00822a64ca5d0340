-- An assignment that is the last operand of an operator, and is derived, is read.
use Rattle.std.proofs.Common.{◌≡◌, ℕ, ◌-◌, ◌<◌, ◌≤◌, true, false, not, length, Some, Ok, inr, refl, sym, subst, ◌∙◌, arith}
use Rattle.std.proofs.lemmas.Bool.{and_parts}
use Rattle.parser_tree.specs.Node.{Node}
use Rattle.parser_tokens.specs.Tokens.{first, behind}
use Rattle.parser_tokens.specs.Operators.{assignment_at}
use Rattle.parser_tokens.specs.Starts.{modifier_at}
use Rattle.parser_tokens.specs.declared.operators.Assignment.{Assignment}
use Rattle.parser_tokens.specs.declared.word.Modifier.TheVariants as modifiers
use Rattle.parser_ahead.specs.declared.primary.DoOwner.{DoOwner}
use Rattle.parser_ahead.specs.declared.primary.Place.TheVariants as places
use Rattle.parser_nodes.specs.Nodes.{rescued_node, assignment_node}
use Rattle.parser_nodes.specs.Calls.{OperandNode, is_target, target_node, target_names}
use Rattle.parser_operands.specs.Operands.{operand}
use Rattle.parser_operands.specs.Operators as operators
use Rattle.parser_operands.specs.Operators.{assigned, assigned_value, operation}
use Rattle.parser_forms.specs.Reading.{Names, Tokens, Inside}
use Rattle.rb_parser.specs.Levels.{levels}
use Rattle.parser_laws.specs.Rules.{Argument, InnerTarget, Operation, is_inner, is_rescue}
use Rattle.parser_laws.proofs.Facts.{is_bang, opens, Fact, word_taken}
use Rattle.parser_laws.proofs.Assigning.{same_rescue}
use Rattle.parser_laws.proofs.CompleteAssignments.{assignment_word, assignment_ends}
use Rattle.parser_laws.proofs.CompleteStatements.{modifier_word}
use Rattle.parser_laws.proofs.CompleteValues.{value_below}

-- behind a target an assignment takes all that its value takes
target_read : (i : Inside) (loosest : ℕ) (owner : DoOwner) (a : Assignment) (o : OperandNode)
    (names k known later : Names) (ts rest more : Tokens) (target v : Node)
    → operand i names ts false owner ≡ Ok (o, k, rest) → is_target o ≡ true → target_node o ≡ target
    → target_names o k ≡ known → assignment_at (first rest) ≡ Some a
    → assigned_value i known (behind rest) owner ≡ Ok (v, later, more)
    → operation i names ts loosest owner ≡ Ok (assignment_node a target v, later, more)
unfolding operation assigned
target_read i loosest owner a o names k known later ts rest more target v read is same learnt there value =
    let made : assigned i target known a (behind rest) owner ≡ Ok (assignment_node a target v, later, more) =
    rw value refl in
    let moved : assigned i (target_node o) (target_names o k) a (behind rest) owner ≡ Ok
    (assignment_node a target v, later, more) =
    subst (λ q. assigned i (target_node o) q a (behind rest) owner ≡ Ok (assignment_node a target v, later, more))
    (sym learnt)
    (subst (λ y. assigned i y known a (behind rest) owner ≡ Ok (assignment_node a target v, later, more)) (sym same)
    made) in
    rw read (rw (is, there) moved)

module _ (loosest : ℕ) (owner : DoOwner) (a : Assignment) (names known later : Names) (ts rest more : Tokens)
    (target n : Node) (within : is_inner loosest ≡ true)
    (left : Fact (InnerTarget owner target) names ts known rest) (there : assignment_at (first rest) ≡ Some a)
    (value : Fact (Argument places.Argument owner n) known (behind rest) later more) where
  -- an assignment whose value is read whole
  last_whole : (last : Names) (tail : Tokens) (whole : Node) → length tail ≤ length more
      → ((d : ℕ) → length more < d → (levels d).argument known (behind rest) owner ≡ Ok (n, later, more)
      → assigned_value (levels d) known (behind rest) owner ≡ Ok (whole, last, tail))
      → Fact (Operation places.Argument loosest owner (assignment_node a target whole)) names ts last tail
  last_whole last tail whole shorter all =
      let one = word_taken (first rest) rest refl (assignment_word (first rest) a there) in
      let opening = and_parts (opens ts) (not (is_bang (first ts))) left.1 in
      let l = left.0 in
      let v = value.0 in (
        omega arith,
        opening.0,
        λ d room.
            let t = left.2 d room (assignment_ends (first rest) a there) in
            let read = value_below d (omega arith) known later (behind rest) more owner n
            (value.2 (d - 1) (omega arith) refl refl) in
            inr (
              within,
              refl,
              target_read (levels d) loosest owner a t.0 names t.1 known last ts rest tail target whole t.2 t.3 t.4 t.5
                  there (all d (omega arith) read),
            ),
      )

  pub operand_assigned : is_rescue (modifier_at (first more)) ≡ false
      → Fact (Operation places.Argument loosest owner (assignment_node a target n)) names ts later more
  operand_assigned calm =
      let alone : operators.is_rescue (modifier_at (first more)) ≡ false = same_rescue (modifier_at (first more)) ∙ calm
      in
      last_whole later more n (omega arith) (λ d room read. rw (read, alone) refl)

  pub operand_assigned_or : (last : Names) (tail : Tokens) (other : Node)
      → modifier_at (first more) ≡ Some modifiers.Rescue
      → Fact (Argument places.Argument owner other) later (behind more) last tail
      → Fact (Operation places.Argument loosest owner (assignment_node a target (rescued_node n other))) names ts last
      tail
  operand_assigned_or last tail other rescue right =
      let one = word_taken (first more) more refl (modifier_word (first more) modifiers.Rescue rescue) in
      let r = right.0 in
      last_whole last tail (rescued_node n other) (omega arith)
      (λ d room read.
      let behind_it = value_below d (omega arith) later last (behind more) tail owner other
      (right.2 (d - 1) (omega arith) refl refl) in
      rw (read, rescue, behind_it) refl)
