-- What an assignment that is read as an expression is made of.
use Rattle.std.proofs.Common.{◌≡◌, Bool, true, false, ◌&&◌, length, Option, Some, None, Ok, if◌then◌else◌, refl, sym, ap, subst, ◌∙◌}
use Rattle.std.proofs.lemmas.Bool.{and_parts}
use Rattle.rb_syntax.specs.declared.punctuator.Punctuator.{Punctuator}
use Rattle.rb_syntax.specs.declared.punctuator.Punctuator.TheVariants as marks
use Rattle.parser_tree.specs.Node as node
use Rattle.parser_tree.specs.Node.{Node}
use Rattle.parser_tokens.specs.Tokens.{first, behind}
use Rattle.parser_tokens.specs.Operators.{assignment_at}
use Rattle.parser_tokens.specs.Starts.{modifier_at}
use Rattle.parser_tokens.specs.declared.operators.Assignment.{Assignment}
use Rattle.parser_tokens.specs.declared.operators.Assignment.TheVariants as signs
use Rattle.parser_tokens.specs.declared.operators.Prefix.TheVariants as prefixes
use Rattle.parser_tokens.specs.declared.word.Word.{Word}
use Rattle.parser_tokens.specs.declared.word.Word.TheVariants as words
use Rattle.parser_ahead.specs.Groups.{is_target_group}
use Rattle.parser_ahead.specs.Primary.{allows_command, is_statement, of_value}
use Rattle.parser_ahead.specs.declared.primary.DoOwner.{DoOwner}
use Rattle.parser_ahead.specs.declared.primary.Place.{Place}
use Rattle.parser_ahead.specs.declared.primary.Place.TheVariants as places
use Rattle.parser_nodes.specs.Nodes.{rescued_node, assignment_node, prefix_node}
use Rattle.parser_nodes.specs.Listed.{ListNode, PhraseNode, is_right_side, right_side}
use Rattle.parser_nodes.specs.declared.listed.Sort.{Sort}
use Rattle.parser_nodes.specs.declared.listed.Sort.TheVariants as sorts
use Rattle.parser_operands.specs.Operators as operators
use Rattle.parser_phrases.specs.Phrases as phrases
use Rattle.parser_phrases.specs.Phrases.{is_rescued, right_hand, assigned_value, whole_value, assign}
use Rattle.parser_forms.specs.Reading.{Names, Tokens, Inside}
use Rattle.parser_statements.specs.Statements.{is_statement_sort}
use Rattle.parser_laws.specs.Rules.{Expression, Argument, Listing, Target, is_rescue, takes_list, goes_on_list, begins_jump}
use Rattle.parser_laws.specs.Derives.{Derives, Assigned, AssignedOr, ListAssigned, NotAssignedValue, NotAssignedValueOr}
use Rattle.parser_laws.specs.Expressions.{is_assignable, is_expression}
use Rattle.parser_laws.proofs.Results.{bind_ok, then_ok, read_same, carry, clash, differs, and_false, same_read}
use Rattle.parser_laws.proofs.Assigning.{Whole, a_rescue, same_rescue, same_takes, statement_only}
use Rattle.parser_laws.proofs.ExpressionParts.{assignment_parts}
use Rattle.parser_laws.proofs.CleanLists.{clean_right}
use Rattle.parser_laws.proofs.OneValue.{one_value}
use Rattle.parser_laws.proofs.Sound.{IsSound}

pub value_unstated : (place : Place) → is_statement (of_value place) ≡ false
value_unstated places.Statement = refl
value_unstated places.Command = refl
value_unstated places.Argument = refl

a_statement : (s : Sort) → is_statement_sort s ≡ true → s ≡ sorts.Statement
a_statement sorts.Statement h = refl
a_statement sorts.Command h = differs (sym h)
a_statement sorts.Argument h = differs (sym h)

statement_place : (place : Place) → is_statement place ≡ true → place ≡ places.Statement
statement_place places.Statement h = refl
statement_place places.Command h = differs (sym h)
statement_place places.Argument h = differs (sym h)

a_plain : (a : Assignment) → phrases.is_plain a ≡ true → a ≡ signs.Plain
a_plain signs.Plain h = refl
a_plain (signs.Operation o) h = differs (sym h)

abbrev is_plain_sign : Option Assignment → Bool
is_plain_sign (Some signs.Plain) = true
is_plain_sign (Some (signs.Operation o)) = false
is_plain_sign None = false

plain_mark : (p : Punctuator) → is_plain_sign (assignment_at (words.Mark p)) ≡ true
    → words.Mark p ≡ words.Mark marks.Assign
plain_mark marks.Assign h = refl
plain_mark p h = differs (sym h)

plain_word : (w : Word) → is_plain_sign (assignment_at w) ≡ true → w ≡ words.Mark marks.Assign
plain_word (words.Mark p) h = plain_mark p h
plain_word w h = differs (sym h)

plain_node : (a : Assignment) (target v w n : Node) → v ≡ w → a ≡ signs.Plain → assignment_node a target w ≡ n
    → node.assign target v ≡ n
plain_node a target v w n same plain made = ap (λ m. node.assign target m) same
    ∙ ap (λ b. assignment_node b target w) (sym plain) ∙ made

module _ (i : Inside) (sound : IsSound i) (a : Assignment) (place : Place) (owner : DoOwner) where
  -- a value that an assignment takes whole
  abbrev Taken : Names → Tokens → Node → Names → Tokens → Type 0
  Taken names ts n known rest = Derives (Argument (of_value place) owner n) names ts known rest
      × ((takes_list a place && goes_on_list (first rest)) ≡ false)

  value_sound : (names : Names) (ts : Tokens) (x : PhraseNode) (known : Names) (rest : Tokens)
      → assigned_value i names ts a place owner ≡ Ok (x, known, rest) → is_statement_sort x.1 ≡ false
      → is_expression x.0 ≡ true
      → (x.1 ≡ sorts.Argument) × Taken names ts x.0 known rest
  value_sound names ts x known rest = by_list (phrases.takes_list a place) (sym (same_takes a place))
    where
      by_list : (t : Bool) → takes_list a place ≡ t
          → (if t then right_hand i names ts owner else i.phrase names ts (of_value place) owner) ≡ Ok (x, known, rest)
          → is_statement_sort x.1 ≡ false → is_expression x.0 ≡ true
          → (x.1 ≡ sorts.Argument) × Taken names ts x.0 known rest
      by_list true takes h plain is =
          let r = bind_ok (i.list names ts owner) _ (x, known, rest) h in
          let c = then_ok (is_right_side r.0.0) (Ok (right_side r.0.0, r.0.1, r.0.2)) (length ts) (x, known, rest) r.2
          in
          let e = read_same (right_side r.0.0) x r.0.1 known r.0.2 rest c.1 in
          let unstated : is_statement_sort (right_side r.0.0).1 ≡ false =
          subst (λ (y : PhraseNode). is_statement_sort y.1 ≡ false) (sym e.0) plain in
          let whole : is_expression (right_side r.0.0).0 ≡ true =
          subst (λ (y : PhraseNode). is_expression y.0 ≡ true) (sym e.0) is in
          let listing = sound.listing names r.0.1 ts r.0.2 owner r.0.0 r.1 (clean_right r.0.0 c.0 whole) in
          let l = one_value names ts owner r.0.0 r.0.1 r.0.2 listing c.0 unstated whole in
          let d : Derives (Argument (of_value place) owner (right_side r.0.0).0) names ts r.0.1 r.0.2 =
          subst (λ p. Derives (Argument p owner (right_side r.0.0).0) names ts r.0.1 r.0.2)
          (sym (statement_only a place takes)) l.1 in
          let ends : (takes_list a place && goes_on_list (first r.0.2)) ≡ false =
          rw l.2 (and_false (takes_list a place)) in
          carry (λ (y : PhraseNode) (k : Names) (m : Tokens). (y.1 ≡ sorts.Argument) × Taken names ts y.0 k m)
          (right_side r.0.0) x r.0.1 known r.0.2 rest c.1 (l.0, (d, ends))
      by_list false takes h plain is =
          let p = sound.phrase names known ts rest (of_value place) owner x h (value_unstated place) is in
          (p.0, (p.1, rw takes refl))

  value_is : (b : Bool) (n : Node) (k : Names) (m : Tokens) (w : Node × Names × Tokens) → Whole i owner b n k m ≡ Ok w
      → is_expression w.0 ≡ true → is_expression n ≡ true
  value_is true n k m w h is =
      let other = bind_ok (i.argument k (behind m) owner) _ w h in
      let e = read_same (rescued_node n other.0.0) w.0 other.0.1 w.1 other.0.2 w.2 other.2 in
      (and_parts (is_expression n) (is_expression other.0.0) (subst (λ x. is_expression x ≡ true) (sym e.0) is)).0
  value_is false n k m w h is = subst (λ x. is_expression x ≡ true) (sym (read_same n w.0 k w.1 m w.2 h).0) is

  -- the value that is taken, what is assigned, and that it makes what was read
  abbrev pub Parts : Node → Names → Tokens → PhraseNode → Names → Tokens → Type 0
  Parts target names ts x known rest =
      (n : Node) × (k : Names) × (m : Tokens) × (w : Node × Names × Tokens) × (is_assignable target ≡ true)
      × Taken names ts n k m × (Whole i owner (is_rescue (modifier_at (first m))) n k m ≡ Ok w)
      × (is_expression w.0 ≡ true) × same_read (Ok ((assignment_node a target w.0, sorts.Argument), w.1, w.2))
      (Ok (x, known, rest))

  pub assign_parts : (target : Node) (names : Names) (ts : Tokens) (x : PhraseNode) (known : Names) (rest : Tokens)
      → assign i target names a ts place owner ≡ Ok (x, known, rest) → is_statement_sort x.1 ≡ false
      → is_expression x.0 ≡ true → Parts target names ts x known rest
  unfolding assign
  assign_parts target names ts x known rest h plain is =
      let v = bind_ok (assigned_value i names ts a place owner) _ (x, known, rest) h in
      let w = bind_ok (whole_value i v.0.0.0 v.0.0.1 v.0.1 v.0.2 owner) _ (x, known, rest) v.2 in
      let e = read_same (assignment_node a target w.0.0, v.0.0.1) x w.0.1 known w.0.2 rest w.2 in
      let parts = assignment_parts a target w.0.0 (subst (λ (y : PhraseNode). is_expression y.0 ≡ true) (sym e.0) is) in
      let unstated : is_statement_sort v.0.0.1 ≡ false =
      subst (λ (y : PhraseNode). is_statement_sort y.1 ≡ false) (sym e.0) plain in
      let value = value_sound names ts v.0.0 v.0.1 v.0.2 v.1 unstated
      (value_is (is_rescued v.0.0.1 v.0.2) v.0.0.0 v.0.1 v.0.2 w.0 w.1 parts.1) in
      let argument : Whole i owner (operators.is_rescue (modifier_at (first v.0.2))) v.0.0.0 v.0.1 v.0.2 ≡ Ok w.0 =
      subst (λ (s : Sort). Whole i owner (is_rescued s v.0.2) v.0.0.0 v.0.1 v.0.2 ≡ Ok w.0) value.0 w.1 in
      let whole : Whole i owner (is_rescue (modifier_at (first v.0.2))) v.0.0.0 v.0.1 v.0.2 ≡ Ok w.0 =
      subst (λ b. Whole i owner b v.0.0.0 v.0.1 v.0.2 ≡ Ok w.0) (same_rescue (modifier_at (first v.0.2))) argument in
      let made : same_read (Ok ((assignment_node a target w.0.0, sorts.Argument), w.0.1, w.0.2)) (Ok (x, known, rest)) =
      subst (λ (s : Sort). same_read (Ok ((assignment_node a target w.0.0, s), w.0.1, w.0.2)) (Ok (x, known, rest)))
      value.0 w.2 in
      (v.0.0.0, v.0.1, v.0.2, w.0, parts.0, value.1, whole, parts.1, made)

  pub assign_sort : (target : Node) (names : Names) (ts : Tokens) (x : PhraseNode) (known : Names) (rest : Tokens)
      → Parts target names ts x known rest → x.1 ≡ sorts.Argument
  assign_sort target names ts x known rest p =
      sym (ap (λ (y : PhraseNode). y.1) (read_same (assignment_node a target p.3.0, sorts.Argument) x p.3.1 known p.3.2
      rest p.8).0)

  -- what stands before an assignment that is an expression
  pub assign_target : (target : Node) (names : Names) (ts : Tokens) (x : PhraseNode) (known : Names) (rest : Tokens)
      → assign i target names a ts place owner ≡ Ok (x, known, rest) → is_expression x.0 ≡ true
      → is_assignable target ≡ true
  unfolding assign
  assign_target target names ts x known rest h is =
      let v = bind_ok (assigned_value i names ts a place owner) _ (x, known, rest) h in
      let w = bind_ok (whole_value i v.0.0.0 v.0.0.1 v.0.1 v.0.2 owner) _ (x, known, rest) v.2 in
      let e = read_same (assignment_node a target w.0.0, v.0.0.1) x w.0.1 known w.0.2 rest w.2 in
      (assignment_parts a target w.0.0 (subst (λ (y : PhraseNode). is_expression y.0 ≡ true) (sym e.0) is)).0

  -- a list of several values
  abbrev Several : Names → Tokens → PhraseNode → Names → Tokens → Type 0
  Several names ts x known rest =
      (l : ListNode) × (is_right_side l ≡ true) × (right_side l ≡ x) × (place ≡ places.Statement) × (a ≡ signs.Plain)
      × Derives (Listing owner l) names ts known rest

  several_sound : (names : Names) (ts : Tokens) (x : PhraseNode) (known : Names) (rest : Tokens)
      → assigned_value i names ts a place owner ≡ Ok (x, known, rest) → is_statement_sort x.1 ≡ true
      → is_expression x.0 ≡ true → Several names ts x known rest
  several_sound names ts x known rest = by_list (phrases.takes_list a place) refl
    where
      by_list : (t : Bool) → phrases.takes_list a place ≡ t
          → (if t then right_hand i names ts owner else i.phrase names ts (of_value place) owner) ≡ Ok (x, known, rest)
          → is_statement_sort x.1 ≡ true → is_expression x.0 ≡ true
          → Several names ts x known rest
      by_list true takes h stated is =
          let r = bind_ok (i.list names ts owner) _ (x, known, rest) h in
          let c = then_ok (is_right_side r.0.0) (Ok (right_side r.0.0, r.0.1, r.0.2)) (length ts) (x, known, rest) r.2
          in
          let e = read_same (right_side r.0.0) x r.0.1 known r.0.2 rest c.1 in
          let whole : is_expression (right_side r.0.0).0 ≡ true =
          subst (λ (y : PhraseNode). is_expression y.0 ≡ true) (sym e.0) is in
          let d = sound.listing names r.0.1 ts r.0.2 owner r.0.0 r.1 (clean_right r.0.0 c.0 whole) in
          let both_are = and_parts (is_statement place) (phrases.is_plain a) takes in
          let moved = carry (λ (y : PhraseNode) (k : Names) (m : Tokens). Derives (Listing owner r.0.0) names ts k m)
          (right_side r.0.0) x r.0.1 known r.0.2 rest c.1 d in
          (r.0.0, c.0, e.0, statement_place place both_are.0, a_plain a both_are.1, moved)
      by_list false takes h stated is =
          let p = sound.phrase names known ts rest (of_value place) owner x h (value_unstated place) is in
          clash (is_statement_sort x.1) stated (ap is_statement_sort p.0)

  -- an assignment of several values
  abbrev Lists : Node → Names → Tokens → PhraseNode → Names → Tokens → Type 0
  Lists target names ts x known rest = (l : ListNode) × (n : Node) × (is_right_side l ≡ true)
      × (right_side l ≡ (n, sorts.Statement)) × (place ≡ places.Statement) × (a ≡ signs.Plain)
      × Derives (Listing owner l) names ts known rest × (node.assign target n ≡ x.0)

  assign_lists : (target : Node) (names : Names) (ts : Tokens) (x : PhraseNode) (known : Names) (rest : Tokens)
      → assign i target names a ts place owner ≡ Ok (x, known, rest) → is_statement_sort x.1 ≡ true
      → is_expression x.0 ≡ true
      → Lists target names ts x known rest
  unfolding assign
  assign_lists target names ts x known rest h stated is =
      let v = bind_ok (assigned_value i names ts a place owner) _ (x, known, rest) h in
      let w = bind_ok (whole_value i v.0.0.0 v.0.0.1 v.0.1 v.0.2 owner) _ (x, known, rest) v.2 in
      let e = read_same (assignment_node a target w.0.0, v.0.0.1) x w.0.1 known w.0.2 rest w.2 in
      let sort : v.0.0.1 ≡ sorts.Statement = a_statement v.0.0.1
      (subst (λ (y : PhraseNode). is_statement_sort y.1 ≡ true) (sym e.0) stated) in
      let parts = assignment_parts a target w.0.0 (subst (λ (y : PhraseNode). is_expression y.0 ≡ true) (sym e.0) is) in
      let stays : same_read (Ok (v.0.0.0, v.0.1, v.0.2)) (Ok w.0) =
      subst (λ (s : Sort). Whole i owner (is_rescued s v.0.2) v.0.0.0 v.0.1 v.0.2 ≡ Ok w.0) sort w.1 in
      let f = read_same v.0.0.0 w.0.0 v.0.1 w.0.1 v.0.2 w.0.2 stays in
      let value_is_one : is_expression v.0.0.0 ≡ true = subst (λ n. is_expression n ≡ true) (sym f.0) parts.1 in
      let s = several_sound names ts v.0.0 v.0.1 v.0.2 v.1 (ap is_statement_sort sort) value_is_one in
      let side : right_side s.0 ≡ (v.0.0.0, sorts.Statement) =
      subst (λ (q : Sort). right_side s.0 ≡ (v.0.0.0, q)) sort s.2 in
      let moved : Derives (Listing owner s.0) names ts w.0.1 w.0.2 =
      carry (λ (n : Node) (k : Names) (m : Tokens). Derives (Listing owner s.0) names ts k m) v.0.0.0 w.0.0 v.0.1
      w.0.1 v.0.2 w.0.2 stays s.5 in
      let there = carry (λ (y : PhraseNode) (k : Names) (m : Tokens). Derives (Listing owner s.0) names ts k m)
      (assignment_node a target w.0.0, v.0.0.1) x w.0.1 known w.0.2 rest w.2 moved in
      let made : node.assign target v.0.0.0 ≡ x.0 =
      plain_node a target v.0.0.0 w.0.0 x.0 f.0 s.4 (ap (λ (y : PhraseNode). y.0) e.0) in
      (s.0, v.0.0.0, s.1, side, s.3, s.4, there, made)

  pub assigns_several : (target : Node) (names : Names) (ts : Tokens) (x : PhraseNode) (known : Names) (rest : Tokens)
      → assign i target names a ts place owner ≡ Ok (x, known, rest) → is_statement_sort x.1 ≡ true
      → is_expression x.0 ≡ true
      → (x.1 ≡ sorts.Statement) × (place ≡ places.Statement)
  assigns_several target names ts x known rest h stated is =
      (a_statement x.1 stated, (assign_lists target names ts x known rest h stated is).4)

  module _ (target : Node) (before : Names) (start : Tokens) (names : Names) (ts : Tokens)
      (derived : Derives (Target owner target) before start names ts) (there : assignment_at (first ts) ≡ Some a)
      (jump : begins_jump place start ≡ false) where
    abbrev Assigns : Node → Names → Tokens → Type 0
    Assigns n known rest = Derives (Argument place owner (assignment_node a target n)) before start known rest

    by_rescue : (b : Bool) (n : Node) (k : Names) (m : Tokens) (w : Node × Names × Tokens)
        → is_rescue (modifier_at (first m)) ≡ b → Taken names (behind ts) n k m → Whole i owner b n k m ≡ Ok w
        → is_expression w.0 ≡ true → Assigns w.0 w.1 w.2
    by_rescue true n k m w rescue taken h is =
        let other = bind_ok (i.argument k (behind m) owner) _ w h in
        let e = read_same (rescued_node n other.0.0) w.0 other.0.1 w.1 other.0.2 w.2 other.2 in
        let parts = and_parts (is_expression n) (is_expression other.0.0)
        (subst (λ x. is_expression x ≡ true) (sym e.0) is) in
        let right = sound.argument k other.0.1 (behind m) other.0.2 owner other.0.0 other.1 parts.1 in
        let d = AssignedOr place owner a before names k other.0.1 start ts m other.0.2 target n other.0.0 jump derived
        there taken.0 (a_rescue (modifier_at (first m)) rescue) right in
        carry Assigns (rescued_node n other.0.0) w.0 other.0.1 w.1 other.0.2 w.2 other.2 d
    by_rescue false n k m w calm taken h is =
        carry Assigns n w.0 k w.1 m w.2 h (Assigned place owner a before names k start ts m target n jump derived there
        taken.0 calm taken.1)

    pub assign_derived : (x : PhraseNode) (known : Names) (rest : Tokens) → Parts target names (behind ts) x known rest
        → Derives (Argument place owner x.0) before start known rest
    assign_derived x known rest p =
        carry (λ (y : PhraseNode) (k : Names) (m : Tokens). Derives (Argument place owner y.0) before start k m)
        (assignment_node a target p.3.0, sorts.Argument) x p.3.1 known p.3.2 rest p.8
        (by_rescue (is_rescue (modifier_at (first p.2))) p.0 p.1 p.2 p.3 refl p.5 p.6 p.7)

    pub lists_derived : (x : PhraseNode) (known : Names) (rest : Tokens) → is_target_group start ≡ false
        → assign i target names a (behind ts) place owner ≡ Ok (x, known, rest) → is_statement_sort x.1 ≡ true
        → is_expression x.0 ≡ true
        → Derives (Expression places.Statement owner x.0) before start known rest
    lists_derived x known rest free h stated is =
        let s = assign_lists target names (behind ts) x known rest h stated is in
        let sign : first ts ≡ words.Mark marks.Assign =
        plain_word (first ts) (ap is_plain_sign there ∙ ap (λ b. is_plain_sign (Some b)) s.5) in
        let d = ListAssigned owner before names known start ts rest target s.1 s.0 free
        (subst (λ p. begins_jump p start ≡ false) s.4 jump) derived sign s.6 s.2 s.3 in
        subst (λ n. Derives (Expression places.Statement owner n) before start known rest) s.7 d

-- ! and an assignment where a command may stand
module _ (i : Inside) (sound : IsSound i) (a : Assignment) (owner : DoOwner) (place : Place) (target : Node)
    (before : Names) (start : Tokens) (names : Names) (ts : Tokens) (bang : first start ≡ words.Mark marks.Not)
    (may : allows_command place ≡ true) (derived : Derives (Target owner target) before (behind start) names ts)
    (there : assignment_at (first ts) ≡ Some a) where
  abbrev Negates : Node → Names → Tokens → Type 0
  Negates n known rest = Derives (Argument place owner (prefix_node prefixes.Not (assignment_node a target n))) before
      start known rest

  not_by_rescue : (b : Bool) (n : Node) (k : Names) (m : Tokens) (w : Node × Names × Tokens)
      → is_rescue (modifier_at (first m)) ≡ b → Derives (Argument places.Command owner n) names (behind ts) k m
      → Whole i owner b n k m ≡ Ok w → is_expression w.0 ≡ true → Negates w.0 w.1 w.2
  not_by_rescue true n k m w rescue value h is =
      let other = bind_ok (i.argument k (behind m) owner) _ w h in
      let e = read_same (rescued_node n other.0.0) w.0 other.0.1 w.1 other.0.2 w.2 other.2 in
      let parts = and_parts (is_expression n) (is_expression other.0.0)
      (subst (λ x. is_expression x ≡ true) (sym e.0) is) in
      let right = sound.argument k other.0.1 (behind m) other.0.2 owner other.0.0 other.1 parts.1 in
      let d = NotAssignedValueOr place owner a before names k other.0.1 start ts m other.0.2 target n other.0.0 bang may
      derived there value (a_rescue (modifier_at (first m)) rescue) right in
      carry Negates (rescued_node n other.0.0) w.0 other.0.1 w.1 other.0.2 w.2 other.2 d
  not_by_rescue false n k m w calm value h is =
      carry Negates n w.0 k w.1 m w.2 h (NotAssignedValue place owner a before names k start ts m target n bang may
      derived there value calm)

  pub not_derived : (x : PhraseNode) (known : Names) (rest : Tokens)
      → Parts i sound a places.Command owner target names (behind ts) x known rest
      → Derives (Argument place owner (prefix_node prefixes.Not x.0)) before start known rest
  not_derived x known rest p =
      carry (λ (y : PhraseNode) (k : Names) (m : Tokens). Derives (Argument place owner (prefix_node prefixes.Not y.0))
      before start k m) (assignment_node a target p.3.0, sorts.Argument) x p.3.1 known p.3.2 rest p.8
      (not_by_rescue (is_rescue (modifier_at (first p.2))) p.0 p.1 p.2 p.3 refl p.5.0 p.6 p.7)
