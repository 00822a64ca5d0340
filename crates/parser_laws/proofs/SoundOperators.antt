-- Operators with their operands that are read as an expression are derived.
use Rattle.std.proofs.Common.{◌≡◌, ℕ, zero, suc, ◌+◌, true, false, ◌&&◌, ◌⊎◌, length, Option, Some, None, Ok, inl, inr, refl, sym, subst}
use Rattle.std.proofs.lemmas.Bool.{cases_Bool}
use Rattle.parser_tree.specs.Node.{Node}
use Rattle.parser_tokens.specs.Tokens.{first, behind, place_at}
use Rattle.parser_tokens.specs.Operators.{infix_at, right_level, clashes}
use Rattle.parser_tokens.specs.declared.operators.Assignment.{Assignment}
use Rattle.parser_tokens.specs.declared.operators.Infix.{Infix}
use Rattle.parser_ahead.specs.declared.primary.DoOwner.{DoOwner}
use Rattle.parser_ahead.specs.declared.primary.Place.{Place}
use Rattle.parser_ahead.specs.declared.primary.Place.TheVariants as places
use Rattle.parser_nodes.specs.Nodes.{assignment_node, infix_node}
use Rattle.parser_nodes.specs.Calls.{OperandNode, whole, operand_node, is_target, target_node, target_names}
use Rattle.parser_operands.specs.Operands.{operand}
use Rattle.parser_operands.specs.Operators.{assigned, assigned_value, assignment_to, operators_turn, operators_from, operation_by, operation}
use Rattle.parser_forms.specs.Reading.{Names, Tokens, Read, Inside}
use Rattle.parser_laws.specs.Rules.{Operators, Operation, is_inner, is_taken, takes_target}
use Rattle.parser_laws.specs.Derives.{Derives, AllOperators, AnyTarget, OneOperand, Infixed}
use Rattle.parser_laws.specs.Expressions.{is_expression}
use Rattle.parser_laws.proofs.Results.{bind_ok, else_ok, read_same, carry, clash, Never, never_bind, never_ok, never_error, never_if, err_is_none}
use Rattle.parser_laws.proofs.ExpressionParts.{assignment_parts, infix_parts}
use Rattle.parser_laws.proofs.OperatorFacts.{calm_taken, infix_no_target, inner_right, no_matter, targeted, unassigned, untaken}
use Rattle.parser_laws.proofs.Sound.{IsSound}
use Rattle.parser_laws.proofs.SoundLeaf.{itself}
use Rattle.parser_laws.proofs.SoundPostfix.{operand_sound}
use Rattle.parser_laws.proofs.SoundLast.{value_derived}
use Rattle.parser_laws.proofs.SoundTargets.{target_sound}

infix_never : (o : Infix) (at : ℕ) (a b : Node) → is_expression a ≡ false → is_expression (infix_node o at a b) ≡ false
infix_never o at a b other =
    elim (cases_Bool (is_expression (infix_node o at a b))) [
      | inl is ↦ clash (is_expression a) (infix_parts o at a b is).0 other
      | inr other_is ↦ other_is
    ]

module _ (i : Inside) (loosest : ℕ) (owner : DoOwner) where
  turn_never : (o : Option Infix) (go : Node → Names → Tokens → Read Node) (left : Node) (names : Names) (ts : Tokens)
      → ((x : Node) (k : Names) (m : Tokens) → is_expression x ≡ false → Never itself (go x k m))
      → is_expression left ≡ false → Never itself (operators_turn i o go left names ts owner)
  turn_never None go left names ts again other = never_ok itself left names ts other
  turn_never (Some o) go left names ts again other =
      never_bind itself (i.operation names (behind ts) (right_level o) owner) _ (λ r.
      never_if itself (clashes o (first r.2)) _ _ (never_error itself (length r.2))
      (again _ r.1 r.2 (infix_never o (place_at ts) left r.0 other)))

  pub operators_never : (n : ℕ) (left : Node) (names : Names) (ts : Tokens) → is_expression left ≡ false
      → Never itself (operators_from i n loosest owner left names ts)
  unfolding operators_from
  operators_never zero left names ts other = never_error itself 0
  operators_never (suc n) left names ts other =
      turn_never (infix_at loosest (first ts)) (operators_from i n loosest owner) left names ts
      (λ x k m no. operators_never n x k m no) other

  -- what was read is what stood there, or no target
  abbrev pub Kept : Node → Tokens → Node → Tokens → Type 0
  Kept left ts x rest = ((x ≡ left) × (rest ≡ ts)) ⊎ (is_target (whole x) ≡ false)

  module _ (sound : IsSound i) (place : Place) (before : Names) (start : Tokens) where
    -- what was read is no target of an assignment, where it is an operand
    abbrev pub Free : Node → Tokens → Type 0
    Free x ts = (is_inner loosest && is_taken place x (first ts)) ≡ false

    abbrev pub SoundTail : Node → Tokens → Node → Names → Tokens → Type 0
    SoundTail left ts x known rest = Derives (Operation place loosest owner x) before start known rest
        × Kept left ts x rest

    turn_sound : (n : ℕ) (o : Option Infix) (left : Node) (names : Names) (ts : Tokens) (x : Node) (known : Names)
        (rest : Tokens)
        → ((y : Node) (k : Names) (m : Tokens) → Free y m → Derives (Operators place loosest owner y) before start k m
        → operators_from i n loosest owner y k m ≡ Ok (x, known, rest) → SoundTail y m x known rest)
        → infix_at loosest (first ts) ≡ o → Free left ts
        → Derives (Operators place loosest owner left) before start names ts
        → operators_turn i o (operators_from i n loosest owner) left names ts owner ≡ Ok (x, known, rest)
        → is_expression x ≡ true → SoundTail left ts x known rest
    turn_sound n None left names ts x known rest again there free derived h is =
        let e = read_same left x names known ts rest h in
        let d = AllOperators place loosest owner before names start ts left derived there free in (
          carry (λ (y : Node) (k : Names) (m : Tokens). Derives (Operation place loosest owner y) before start k m) left
              x names known ts rest h d,
          inl (sym e.0, sym e.2),
        )
    turn_sound n (Some o) left names ts x known rest again there free derived h is =
        let r = bind_ok (i.operation names (behind ts) (right_level o) owner) _ (x, known, rest) h in
        let c = else_ok (clashes o (first r.0.2)) _ (length r.0.2) (x, known, rest) r.2 in
        let joined : Node = infix_node o (place_at ts) left r.0.0 in
        elim (cases_Bool (is_expression joined)) [
          | inl whole_is ↦
              let parts = infix_parts o (place_at ts) left r.0.0 whole_is in
              let right = sound.operation names r.0.1 (behind ts) r.0.2 (right_level o) owner r.0.0 (inner_right o) r.1
              parts.1 in
              let joined_free : Free joined r.0.2 = no_matter (is_inner loosest) _ (untaken place joined r.0.2
              (infix_no_target o (place_at ts) left r.0.0)) in
              let d = Infixed place loosest owner o before names r.0.1 start ts r.0.2 left r.0.0 derived there right c.0
              in
              let tail = again joined r.0.1 r.0.2 joined_free d c.1 in (
                tail.0,
                elim tail.1 [
                  | inl kept ↦ inr (subst (λ y. is_target (whole y) ≡ false) (sym kept.0)
                      (infix_no_target o (place_at ts) left r.0.0))
                  | inr none ↦ inr none
                ],
              )
          | inr other ↦ absurd (operators_never n joined r.0.1 r.0.2 other x known rest c.1 is)
        ]

    pub tail_sound : (n : ℕ) (left : Node) (names : Names) (ts : Tokens) (x : Node) (known : Names) (rest : Tokens)
        → Free left ts → Derives (Operators place loosest owner left) before start names ts
        → operators_from i n loosest owner left names ts ≡ Ok (x, known, rest) → is_expression x ≡ true
        → SoundTail left ts x known rest
    unfolding operators_from
    tail_sound zero left names ts x known rest free derived h is = err_is_none 0 (x, known, rest) h
    tail_sound (suc n) left names ts x known rest free derived h is =
        turn_sound n (infix_at loosest (first ts)) left names ts x known rest
        (λ y k m f d e. tail_sound n y k m x known rest f d e is) refl free derived h is

module _ (i : Inside) (sound : IsSound i) where
  pub operation_sound : (names known : Names) (ts rest : Tokens) (loosest : ℕ) (owner : DoOwner) (n : Node)
      → is_inner loosest ≡ true → operation i names ts loosest owner ≡ Ok (n, known, rest) → is_expression n ≡ true
      → Derives (Operation places.Argument loosest owner n) names ts known rest
  unfolding operation assigned
  operation_sound names known ts rest loosest owner n inner h is =
      let r = bind_ok (operand i names ts false owner) _ (n, known, rest) h in
      by_assignment (assignment_to r.0.0 r.0.2) r.0.0 r.0.1 r.0.2 refl r.1 r.2
    where
      by_assignment : (a : Option Assignment) (o : OperandNode) (k : Names) (m : Tokens) → assignment_to o m ≡ a
          → operand i names ts false owner ≡ Ok (o, k, m)
          → operation_by i a o k m loosest owner ≡ Ok (n, known, rest)
          → Derives (Operation places.Argument loosest owner n) names ts known rest
      by_assignment None o k m free got read =
          elim (cases_Bool (is_expression (operand_node o))) [
            | inl there ↦
                let p = operand_sound i sound places.Argument owner names ts (λ e. refl) false o k m got there in
                let tail : operators_from i (length m + 1) loosest owner p.0 k m ≡ Ok (n, known, rest) =
                subst (λ q. operators_from i (length m + 1) loosest owner (operand_node q) k m ≡ Ok (n, known, rest)) p.1
                read in
                let calm : is_taken places.Argument p.0 (first m) ≡ false =
                subst (λ q. (is_target q && takes_target places.Argument (first m)) ≡ false) p.1
                (calm_taken places.Argument o m refl (unassigned o m free)) in
                let one = OneOperand places.Argument loosest owner names k ts m p.0 p.2 in
                (tail_sound i loosest owner sound places.Argument names ts (length m + 1) p.0 k m n known rest
                (no_matter (is_inner loosest) _ calm) one tail is).0
            | inr other ↦ absurd (operators_never i loosest owner (length m + 1) (operand_node o) k m other n known rest
                read is)
          ]
      by_assignment (Some a) o k m there got read =
          let v = bind_ok (assigned_value i (target_names o k) (behind m) owner) _ (n, known, rest) read in
          let e = read_same (assignment_node a (target_node o) v.0.0) n v.0.1 known v.0.2 rest v.2 in
          let parts = assignment_parts a (target_node o) v.0.0 (subst (λ x. is_expression x ≡ true) (sym e.0) is) in
          let t = targeted o m a there in
          let target = target_sound i sound owner names ts false o k m got t.0 parts.0 in
          let any = AnyTarget owner names (target_names o k) ts m (target_node o) target in
          let d = value_derived i sound loosest owner a inner (target_node o) names ts (target_names o k) m any t.1 v.0
          v.1 parts.1 in
          carry (λ (x : Node) (l : Names) (q : Tokens). Derives (Operation places.Argument loosest owner x) names ts l q)
          (assignment_node a (target_node o) v.0.0) n v.0.1 known v.0.2 rest v.2 d
