-- Operands with operators between them that are derived are read.
use Rattle.std.proofs.Common.{◌≡◌, ℕ, ◌+◌, ◌-◌, ◌<◌, ◌⊎◌, Bool, true, false, ◌&&◌, length, Option, Some, None, is_some, Ok, if◌then◌else◌, inl, inr, refl, sym, ap, subst, ◌∙◌, arith}
use Rattle.std.proofs.lemmas.Bool.{cases_Bool}
use Rattle.rb_syntax.specs.declared.punctuator.Punctuator.TheVariants as marks
use Rattle.parser_tree.specs.Node.{Node}
use Rattle.parser_tokens.specs.Tokens.{first, behind, place_at}
use Rattle.parser_tokens.specs.Operators.{assignment_at, infix_at, right_level, clashes, prefix_at}
use Rattle.parser_tokens.specs.Starts.{begins_argument, postfix_at}
use Rattle.parser_ahead.specs.Primary.{allows_command, of_value}
use Rattle.parser_tokens.specs.declared.operators.Assignment.{Assignment}
use Rattle.parser_tokens.specs.declared.operators.Infix.{Infix}
use Rattle.parser_tokens.specs.declared.operators.Prefix.{Prefix}
use Rattle.parser_tokens.specs.declared.operators.Prefix.TheVariants as prefixes
use Rattle.parser_tokens.specs.declared.word.Word.{Word}
use Rattle.parser_tokens.specs.declared.word.Word.TheVariants as words
use Rattle.parser_ahead.specs.declared.primary.DoOwner.{DoOwner}
use Rattle.parser_ahead.specs.declared.primary.Place.{Place}
use Rattle.parser_ahead.specs.declared.primary.Place.TheVariants as places
use Rattle.parser_nodes.specs.Nodes.{infix_node, prefix_node}
use Rattle.parser_nodes.specs.Calls.{OperandNode, whole, callee, is_target, operand_node}
use Rattle.parser_operands.specs.Operands as operands
use Rattle.parser_operands.specs.Operands.{begins_command, continues, chain_within, chain, operand_with, operand}
use Rattle.parser_operands.specs.Operators.{assignment_to, operators, operation_by, operators_turn, operators_from, operation}
use Rattle.parser_operands.proofs.Turns.{chain_step, operators_step}
use Rattle.parser_forms.specs.Reading.{Names, Tokens, Inside}
use Rattle.rb_parser.specs.Levels.{levels}
use Rattle.parser_laws.specs.Rules.{Primary, Operand, Operators, Operation, is_inner, is_taken, operand_level, operand_place}
use Rattle.parser_laws.proofs.Results.{bind_ok, clash, differs, read_same, carry, same_read}
use Rattle.parser_laws.proofs.CompleteValues.{free_target, true_and}
use Rattle.parser_laws.proofs.OperatorFacts.{same_level, inner_level, inner_right, prefix_not, prefix_no_target}
use Rattle.parser_laws.proofs.SoundPhrases.{none_so_tight}
use Rattle.parser_laws.proofs.Facts.{Reads, is_finish, Fact, levels_at, word_taken, Within, Settled, Nots}
use Rattle.parser_laws.proofs.Heads.{head_not_finish, prefix_head, head_opens}

some_is : {A B : Type 0} (o : Option A) (x : A) → o ≡ Some x → o ≡ None → B
some_is o x a b = differs (sym (ap is_some a) ∙ ap is_some b)

pub never_continues : (o : OperandNode) (ts : Tokens) (commands : Bool) → postfix_at (first ts) ≡ None
    → continues o ts commands ≡ None
never_continues o ts commands h = by_test (commands && begins_command o ts)
  where
    by_test : (b : Bool) → (if b then None else postfix_at (first ts)) ≡ None
    by_test true = refl
    by_test false = h

-- a primary behind whose postfixes nothing goes on is the whole chain
pub chain_ends : (i : Inside) (place : Place) (n : Node) (names known : Names) (ts rest : Tokens) (owner : DoOwner)
    (commands : Bool) → Within commands place → (r : Reads i (Primary place owner n) names ts known rest)
    → postfix_at (first rest) ≡ None
    → chain i names ts commands owner ≡ Ok (r.4, known, rest)
unfolding chain
chain_ends i place n names known ts rest owner commands within r ends =
    let t = r.7 (length r.2 + 1) (omega arith) in
    let some = t.1 in
    let more = chain_step i t.0 commands owner r.4 known rest (omega arith) in
    let all : chain_within i (length r.2 + 1) commands owner r.0 r.1 r.2 ≡ Ok (r.4, known, rest) = t.2 commands within
    ∙ more ∙ rw (never_continues r.4 rest commands ends) refl in
    rw r.3 all

pub with_postfixes : (place : Place) (owner : DoOwner) (names known : Names) (ts rest : Tokens) (n : Node)
    → prefix_at ts ≡ None → Fact (Primary place owner n) names ts known rest → postfix_at (first rest) ≡ None
    → Fact (Operand place owner n) names ts known rest
unfolding operand
with_postfixes place owner names known ts rest n none inner ends = (
  inner.0,
  inner.1,
  λ d room.
      let r = inner.2 d room in (
        r.4,
        r.5,
        r.6,
        λ commands within. rw none (chain_ends (levels d) place n names known ts rest owner commands within r ends),
        λ there. some_is (prefix_at ts) prefixes.Not (prefix_not ts there) none,
      ),
)

-- the operation of a level is that of the one below it
below : (d : ℕ) → 0 < d → (names : Names) (ts : Tokens) (l : ℕ) (owner : DoOwner)
    → (levels d).operation names ts l owner ≡ operation (levels (d - 1)) names ts l owner
below d h names ts l owner = ap (λ (i : Inside). i.operation names ts l owner) (levels_at d h)

never_within : (place : Place) → Within false place
never_within place h = differs (sym h)

-- what is read with its first operand is read
read_operation : (i : Inside) (place : Place) (names known : Names) (ts rest : Tokens) (l : ℕ) (owner : DoOwner)
    (x : Node) (m : OperandNode) (k : Names) (mid : Tokens)
    → ((commands : Bool) → Within commands place → operand i names ts commands owner ≡ Ok (m, k, mid))
    → ((n : ℕ) → length mid < n → operators_from i n l owner (operand_node m) k mid ≡ Ok (x, known, rest))
    → assignment_to m mid ≡ None → operation i names ts l owner ≡ Ok (x, known, rest)
unfolding operation
read_operation i place names known ts rest l owner x m k mid first_read all free =
    rw (first_read false (never_within place)) (rw free (all (length mid + 1) (omega arith)))

pub operation_of : (place : Place) (i : Inside) (names known : Names) (ts rest : Tokens) (l : ℕ) (owner : DoOwner)
    (x : Node) → is_inner l ≡ true → Reads i (Operation place l owner x) names ts known rest
    → operation i names ts l owner ≡ Ok (x, known, rest)
operation_of place i names known ts rest l owner x inner r = elim r [
  | inl all ↦ read_operation i place names known ts rest l owner x all.0 all.1 all.2 all.3.0 all.4 (all.5 inner)
  | inr assigned ↦ assigned.2
]

-- where a command may begin, a name alone begins none
pub settled_calm : (o : OperandNode) (place : Place) (ts : Tokens) → Settled o place ts → allows_command place ≡ true
    → begins_command o ts ≡ false
settled_calm (whole n) place ts s may = refl
settled_calm (callee c) place ts s may = subst (λ b. (b && begins_argument ts) ≡ false) may s.0

value_allows : (place : Place) → allows_command place ≡ true → allows_command (of_value place) ≡ true
value_allows places.Statement may = refl
value_allows places.Command may = refl
value_allows places.Argument may = may

-- as tight as behind ! there is no operator
alone : (i : Inside) (place : Place) (names known : Names) (ts rest : Tokens) (owner : DoOwner) (x : Node)
    → Reads i (Operation (of_value place) 1 owner x) names ts known rest
    → (o : OperandNode) × (x ≡ operand_node o)
    × (allows_command place ≡ true → (operand i names ts true owner ≡ Ok (o, known, rest))
    × (begins_command o rest ≡ false))
alone i place names known ts rest owner x (inr assigned) = (
  whole x,
  refl,
  λ may. clash (allows_command (of_value place)) (value_allows place may)
      (ap allows_command assigned.1),
)
alone i place names known ts rest owner x (inl r) =
    let ends : operators_from i (length r.2 + 1) 1 owner (operand_node r.0) r.1 r.2 ≡ Ok (operand_node r.0, r.1, r.2) =
    operators_step i (length r.2 + 1) 1 owner (operand_node r.0) r.1 r.2 (omega arith)
    ∙ rw (none_so_tight (first r.2)) refl in
    let same : same_read (Ok (operand_node r.0, r.1, r.2)) (Ok (x, known, rest)) = sym ends
    ∙ r.4 (length r.2 + 1) (omega arith) in
    let e = read_same (operand_node r.0) x r.1 known r.2 rest same in (
      r.0,
      sym e.0,
      λ may.
          let there = value_allows place may in
          let got : (operand i names ts true owner ≡ Ok (r.0, r.1, r.2)) × (begins_command r.0 r.2 ≡ false) = (
            r.3.0 true (λ h. there),
            settled_calm r.0 (of_value place) r.2 r.3.2 there,
          ) in
          carry (λ (y : Node) (k : Names) (m : Tokens). (operand i names ts true owner ≡ Ok (r.0, k, m))
          × (begins_command r.0 m ≡ false)) (operand_node r.0) x r.1 known r.2 rest same got,
    )

not_prefix : (ts : Tokens) (o : Prefix) → prefix_at ts ≡ Some o → first ts ≡ words.Mark marks.Not → prefixes.Not ≡ o
not_prefix ts o h there = ap (prefix_or prefixes.Not) (sym (prefix_not ts there) ∙ h)
  where
    prefix_or : Prefix → Option Prefix → Prefix
    prefix_or p None = p
    prefix_or p (Some q) = q

pub prefixed : (place : Place) (owner : DoOwner) (o : Prefix) (names known : Names) (ts rest : Tokens) (n : Node)
    → prefix_at ts ≡ Some o → Fact (Operation (operand_place o place) (operand_level o) owner n) names (behind ts) known
    rest
    → Fact (Operand place owner (prefix_node o n)) names ts known rest
unfolding operand
prefixed place owner o names known ts rest n there inner =
    let h = prefix_head ts o there in
    let one = word_taken (first ts) ts refl (head_not_finish (first ts) h) in
    let fewer = inner.0 in (
      omega arith,
      head_opens ts h,
      λ d room.
          let read : (levels d).operation names (behind ts) (operands.operand_level o) owner ≡ Ok (n, known, rest) =
          below d (omega arith) names (behind ts) (operands.operand_level o) owner
          ∙ ap (λ l. operation (levels (d - 1)) names (behind ts) l owner) (same_level o)
          ∙ operation_of (operand_place o place) (levels (d - 1)) names known (behind ts) rest (operand_level o) owner n
          (inner_level o) (inner.2 (d - 1) (omega arith)) in (
            whole (prefix_node o n),
            refl,
            tt,
            λ commands within. rw (there, read) refl,
            λ bang.
                let is : prefixes.Not ≡ o = not_prefix ts o there bang in
                let at_one : Reads (levels d) (Operation (of_value place) 1 owner n) names (behind ts) known rest =
                subst (λ p. Reads (levels d) (Operation (operand_place p place) (operand_level p) owner n) names
                (behind ts) known rest) (sym is) (inner.2 d (omega arith)) in
                let behind_it = alone (levels d) place names known (behind ts) rest owner n at_one in (
                  behind_it.0,
                  ap (λ p. prefix_node p n) (sym is) ∙ ap (λ m. prefix_node prefixes.Not m) behind_it.1,
                  behind_it.2,
                ),
          ),
    )

-- what has an operator before it begins no command, and no assignment
prefixed_calm : (i : Inside) (names k : Names) (ts mid : Tokens) (owner : DoOwner) (o : Prefix) (m : OperandNode)
    → prefix_at ts ≡ Some o → operand i names ts false owner ≡ Ok (m, k, mid)
    → (begins_command m mid ≡ false) × (assignment_to m mid ≡ None)
unfolding operand
prefixed_calm i names k ts mid owner o m there read =
    let made : operand_with i (Some o) names ts false owner ≡ Ok (m, k, mid) =
    subst (λ (p : Option Prefix). operand_with i p names ts false owner ≡ Ok (m, k, mid)) there read in
    let r = bind_ok (i.operation names (behind ts) (operands.operand_level o) owner) _ (m, k, mid) made in
    let free : assignment_to (whole (prefix_node o r.0.0)) r.0.2 ≡ None = rw (prefix_no_target o r.0.0) refl in
    carry (λ (p : OperandNode) (l : Names) (q : Tokens). (begins_command p q ≡ false) × (assignment_to p q ≡ None))
    (whole (prefix_node o r.0.0)) m r.0.1 k r.0.2 mid r.2 (refl, free)

-- nor is it read in another way where a command may stand
prefixed_same : (i : Inside) (names : Names) (ts : Tokens) (owner : DoOwner) (o : Prefix) → prefix_at ts ≡ Some o
    → operand i names ts true owner ≡ operand i names ts false owner
unfolding operand
prefixed_same i names ts owner o there = rw there refl

-- an operand with an operator before it, behind !
prefixed_alone : (i : Inside) (names known : Names) (ts rest : Tokens) (owner : DoOwner) (o : Prefix) (x : Node)
    → prefix_at ts ≡ Some o → Reads i (Operation places.Argument 1 owner x) names ts known rest
    → (m : OperandNode) × (x ≡ operand_node m) × (operand i names ts true owner ≡ Ok (m, known, rest))
    × (begins_command m rest ≡ false)
unfolding operation
prefixed_alone i names known ts rest owner o x there r =
    let made : operation i names ts 1 owner ≡ Ok (x, known, rest) =
    operation_of places.Argument i names known ts rest 1 owner x refl r in
    let one = bind_ok (operand i names ts false owner) _ (x, known, rest) made in
    let m = one.0.0 in
    let k = one.0.1 in
    let mid = one.0.2 in
    let calm = prefixed_calm i names k ts mid owner o m there one.1 in
    let all : operators i (operand_node m) k mid 1 owner ≡ Ok (x, known, rest) =
    subst (λ (a : Option Assignment). operation_by i a m k mid 1 owner ≡ Ok (x, known, rest)) calm.1 one.2 in
    let ends : operators i (operand_node m) k mid 1 owner ≡ Ok (operand_node m, k, mid) =
    operators_step i (length mid + 1) 1 owner (operand_node m) k mid (omega arith)
    ∙ rw (none_so_tight (first mid)) refl in
    let same : same_read (Ok (operand_node m, k, mid)) (Ok (x, known, rest)) = sym ends ∙ all in
    let e = read_same (operand_node m) x k known mid rest same in
    let got : (operand i names ts true owner ≡ Ok (m, k, mid)) × (begins_command m mid ≡ false) =
    (prefixed_same i names ts owner o there ∙ one.1, calm.0) in
    let there_too = carry (λ (y : Node) (l : Names) (q : Tokens). (operand i names ts true owner ≡ Ok (m, l, q))
    × (begins_command m q ≡ false)) (operand_node m) x k known mid rest same got in
    (m, sym e.0, there_too.0, there_too.1)

pub not_prefixed : (place : Place) (owner : DoOwner) (o : Prefix) (names known : Names) (ts rest : Tokens) (n : Node)
    → first ts ≡ words.Mark marks.Not → prefix_at (behind ts) ≡ Some o
    → Fact (Operation places.Argument 1 owner n) names (behind ts) known rest
    → Fact (Operand place owner (prefix_node prefixes.Not n)) names ts known rest
unfolding operand
not_prefixed place owner o names known ts rest n is there inner =
    let bang = prefix_not ts is in
    let h = prefix_head ts prefixes.Not bang in
    let one = word_taken (words.Mark marks.Not) ts is refl in
    let fewer = inner.0 in (
      omega arith,
      head_opens ts h,
      λ d room.
          let read : (levels d).operation names (behind ts) 1 owner ≡ Ok (n, known, rest) =
          below d (omega arith) names (behind ts) 1 owner
          ∙ operation_of places.Argument (levels (d - 1)) names known (behind ts) rest 1 owner n refl
          (inner.2 (d - 1) (omega arith)) in
          let b = prefixed_alone (levels d) names known (behind ts) rest owner o n there (inner.2 d (omega arith)) in (
            whole (prefix_node prefixes.Not n),
            refl,
            tt,
            λ commands within. rw (bang, read) refl,
            λ again. (b.0, ap (λ (m : Node). prefix_node prefixes.Not m) b.1, λ may. (b.2, b.3)),
          ),
    )

pub one_operand : (place : Place) (loosest : ℕ) (owner : DoOwner) (names known : Names) (ts rest : Tokens) (n : Node)
    → Fact (Operand place owner n) names ts known rest → Fact (Operators place loosest owner n) names ts known rest
one_operand place loosest owner names known ts rest n inner = (
  inner.0,
  inner.1,
  λ d room.
      let r = inner.2 d room in
      let nots = subst (λ x. Nots (levels d) place owner x names ts known rest) (sym r.1) r.4 in (
        r.0,
        known,
        rest,
        (r.3, nots, r.2, inl (sym r.1, refl)),
        λ m more. (m, more, ap (λ x. operators_from (levels d) m loosest owner x known rest) r.1),
      ),
)

infix_word : (loosest : ℕ) (w : Word) (o : Infix) → infix_at loosest w ≡ Some o → is_finish w ≡ false
unfolding infix_at
infix_word loosest words.Finish o h = differs (sym (ap is_some h))
infix_word loosest w o h = refl

pub infixed : (place : Place) (loosest : ℕ) (owner : DoOwner) (o : Infix) (names known later : Names)
    (ts rest more : Tokens) (a b : Node)
    → Fact (Operators place loosest owner a) names ts known rest → infix_at loosest (first rest) ≡ Some o
    → Fact (Operation places.Argument (right_level o) owner b) known (behind rest) later more
    → clashes o (first more) ≡ false
    → Fact (Operators place loosest owner (infix_node o (place_at rest) a b)) names ts later more
infixed place loosest owner o names known later ts rest more a b left there right calm =
    let one = word_taken (first rest) rest refl (infix_word loosest (first rest) o there) in
    let l = left.0 in
    let r = right.0 in (
      omega arith,
      left.1,
      λ d room.
          let f = left.2 d room in
          let read : (levels d).operation known (behind rest) (right_level o) owner ≡ Ok (b, later, more) =
          below d (omega arith) known (behind rest) (right_level o) owner
          ∙ operation_of places.Argument (levels (d - 1)) known later (behind rest) more (right_level o) owner b
          (inner_right o) (right.2 (d - 1) (omega arith)) in
          let led : ((infix_node o (place_at rest) a b ≡ operand_node f.0) × (more ≡ f.2))
          ⊎ (is_some (infix_at loosest (first f.2)) ≡ true) =
          inr (elim f.3.3 [
            | inl alone_there ↦ subst (λ (m : Tokens). is_some (infix_at loosest (first m)) ≡ true) alone_there.1
                (ap is_some there)
            | inr behind_it ↦ behind_it
          ]) in (
            f.0,
            f.1,
            f.2,
            (f.3.0, f.3.1, f.3.2, led),
            λ n enough.
                let t = f.4 n enough in
                let some = t.1 in
                let step = operators_step (levels d) t.0 loosest owner a known rest (omega arith) in
                let turned : operators_turn (levels d) (infix_at loosest (first rest))
                (operators_from (levels d) (t.0 - 1) loosest owner) a known rest owner
                ≡ operators_from (levels d) (t.0 - 1) loosest owner (infix_node o (place_at rest) a b) later more =
                rw (there, read, calm) refl in
                (t.0 - 1, omega arith, t.2 ∙ step ∙ turned),
          ),
    )

no_target : (m : OperandNode) (ts : Tokens) → (is_target m ≡ true → assignment_at (first ts) ≡ None)
    → assignment_to m ts ≡ None
no_target m ts free = elim (cases_Bool (is_target m)) [
  | inl target ↦ rw (target, free target) refl
  | inr other ↦ rw other refl
]

pub all_operators : (place : Place) (loosest : ℕ) (owner : DoOwner) (names known : Names) (ts rest : Tokens) (n : Node)
    → Fact (Operators place loosest owner n) names ts known rest → infix_at loosest (first rest) ≡ None
    → (is_inner loosest && is_taken place n (first rest)) ≡ false
    → Fact (Operation place loosest owner n) names ts known rest
all_operators place loosest owner names known ts rest n inner none untaken = (
  inner.0,
  inner.1,
  λ d room.
      let f = inner.2 d room in
      inl (
        f.0,
        f.1,
        f.2,
        f.3,
        λ m enough.
            let t = f.4 m enough in
            let some = t.1 in
            t.2 ∙ operators_step (levels d) t.0 loosest owner n known rest (omega arith) ∙ rw none refl,
        λ within. no_target f.0 f.2 (λ target. (free_target loosest place f.0 n f.2 rest f.3.3 f.3.2
            (true_and (is_inner loosest) (is_taken place n (first rest)) within untaken) target).0),
      ),
)
