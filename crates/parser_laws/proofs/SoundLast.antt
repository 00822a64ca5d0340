-- An assignment as the last operand of an operator is derived where its value is read as an expression.
use Rattle.std.proofs.Common.{◌≡◌, ℕ, Bool, true, false, Some, Ok, refl, sym, subst}
use Rattle.std.proofs.lemmas.Bool.{and_parts}
use Rattle.parser_tree.specs.Node.{Node}
use Rattle.parser_tokens.specs.Tokens.{first, behind}
use Rattle.parser_tokens.specs.Operators.{assignment_at}
use Rattle.parser_tokens.specs.Starts.{modifier_at}
use Rattle.parser_tokens.specs.declared.operators.Assignment.{Assignment}
use Rattle.parser_ahead.specs.declared.primary.DoOwner.{DoOwner}
use Rattle.parser_ahead.specs.declared.primary.Place.TheVariants as places
use Rattle.parser_nodes.specs.Nodes.{rescued_node, assignment_node}
use Rattle.parser_operands.specs.Operators.{assigned_value}
use Rattle.parser_forms.specs.Reading.{Names, Tokens, Inside}
use Rattle.parser_laws.specs.Rules.{InnerTarget, Operation, is_inner, is_rescue}
use Rattle.parser_laws.specs.Derives.{Derives, OperandAssigned, OperandAssignedOr}
use Rattle.parser_laws.specs.Expressions.{is_expression}
use Rattle.parser_laws.proofs.Results.{bind_ok, read_same, carry}
use Rattle.parser_laws.proofs.Assigning.{Whole, a_rescue, same_rescue}
use Rattle.parser_laws.proofs.Sound.{IsSound}

module _ (i : Inside) (sound : IsSound i) (loosest : ℕ) (owner : DoOwner) (a : Assignment)
    (within : is_inner loosest ≡ true) (target : Node) (before : Names) (start : Tokens) (names : Names) (ts : Tokens)
    (derived : Derives (InnerTarget owner target) before start names ts) (there : assignment_at (first ts) ≡ Some a)
  where
    abbrev Assigns : Node → Names → Tokens → Type 0
    Assigns n known rest = Derives (Operation places.Argument loosest owner (assignment_node a target n)) before start
        known rest

    by_rescue : (b : Bool) (n : Node) (k : Names) (m : Tokens) (w : Node × Names × Tokens)
        → is_rescue (modifier_at (first m)) ≡ b → i.argument names (behind ts) owner ≡ Ok (n, k, m)
        → Whole i owner b n k m ≡ Ok w → is_expression w.0 ≡ true → Assigns w.0 w.1 w.2
    by_rescue true n k m w rescue read h is =
        let other = bind_ok (i.argument k (behind m) owner) _ w h in
        let e = read_same (rescued_node n other.0.0) w.0 other.0.1 w.1 other.0.2 w.2 other.2 in
        let parts = and_parts (is_expression n) (is_expression other.0.0)
        (subst (λ x. is_expression x ≡ true) (sym e.0) is) in
        let value = sound.argument names k (behind ts) m owner n read parts.0 in
        let right = sound.argument k other.0.1 (behind m) other.0.2 owner other.0.0 other.1 parts.1 in
        let d = OperandAssignedOr loosest owner a before names k other.0.1 start ts m other.0.2 target n other.0.0 within
        derived there value (a_rescue (modifier_at (first m)) rescue) right in
        carry Assigns (rescued_node n other.0.0) w.0 other.0.1 w.1 other.0.2 w.2 other.2 d
    by_rescue false n k m w calm read h is =
        let e = read_same n w.0 k w.1 m w.2 h in
        let value = sound.argument names k (behind ts) m owner n read (subst (λ x. is_expression x ≡ true) (sym e.0) is) in
        carry Assigns n w.0 k w.1 m w.2 h (OperandAssigned loosest owner a before names k start ts m target n within
        derived there value calm)

    pub value_derived : (w : Node × Names × Tokens) → assigned_value i names (behind ts) owner ≡ Ok w
        → is_expression w.0 ≡ true → Assigns w.0 w.1 w.2
    value_derived w h is =
        let v = bind_ok (i.argument names (behind ts) owner) _ w h in
        let whole : Whole i owner (is_rescue (modifier_at (first v.0.2))) v.0.0 v.0.1 v.0.2 ≡ Ok w =
        subst (λ b. Whole i owner b v.0.0 v.0.1 v.0.2 ≡ Ok w) (same_rescue (modifier_at (first v.0.2))) v.2 in
        by_rescue (is_rescue (modifier_at (first v.0.2))) v.0.0 v.0.1 v.0.2 w refl v.1 whole is
