-- Statements that are read as an expression are derived.
use Rattle.std.proofs.Common.{◌≡◌, ℕ, zero, suc, ◌+◌, Bool, true, false, ◌&&◌, List, [], ◌∷◌, ◌++◌, length, Option, Some, None, Result, Ok, Err, if◌then◌else◌, inl, inr, refl, sym, ap, subst, ◌∙◌}
use Rattle.std.proofs.lemmas.Bool.{cases_Bool, and_parts}
use Rattle.rb_syntax.specs.declared.outside.Outside.{Outside}
use Rattle.rb_syntax.specs.declared.outside.Outside.TheVariants as outsides
use Rattle.parser_tree.specs.Node as node
use Rattle.parser_tree.specs.Node.{Node, Name, nodes}
use Rattle.parser_tokens.specs.Tokens.{first, behind, word_of, bytes_of, place_at}
use Rattle.parser_tokens.specs.Expect.{expect, skip_separators}
use Rattle.parser_tokens.specs.Operators.{junction_at}
use Rattle.parser_tokens.specs.Starts.{ends_statement, ends_statements, modifier_at}
use Rattle.parser_tokens.specs.declared.expect.Wanted.TheVariants as wanted
use Rattle.parser_tokens.specs.declared.operators.Junction.{Junction}
use Rattle.parser_tokens.specs.declared.word.Modifier.{Modifier}
use Rattle.parser_tokens.specs.declared.word.Modifier.TheVariants as kinds
use Rattle.parser_ahead.specs.Primary.{is_method_word, is_comma_word}
use Rattle.parser_ahead.specs.declared.primary.DoOwner.{DoOwner}
use Rattle.parser_ahead.specs.declared.primary.DoOwner.TheVariants as owners
use Rattle.parser_ahead.specs.declared.primary.Place.{Place}
use Rattle.parser_ahead.specs.declared.primary.Place.TheVariants as places
use Rattle.parser_nodes.specs.Nodes.{junction_node, modified_node}
use Rattle.parser_nodes.specs.Listed.{PhraseNode}
use Rattle.parser_form_nodes.specs.Definitions.{alias, undef, undef_from, is_global}
use Rattle.parser_statements.specs.declared.statements.StatementStart.{StatementStart}
use Rattle.parser_statements.specs.declared.statements.StatementStart.TheVariants as beginnings
use Rattle.parser_statements.specs.Statements.{is_statement_sort, statement_start, negation, junction_with, junctions_turn, junctions_from, expression, braced, base_by, base, modifier_part, modified, modifiers_turn, modifiers_from, statement, separated, with_statement, statements_from, statement_list, statements}
use Rattle.parser_forms.specs.Reading.{Names, Tokens, Inside}
use Rattle.rb_base.specs.Result.{◌>>=◌}
use Rattle.parser_laws.specs.Rules.{Statements, StatementList, Statement, Modified, Base, Expression, Joined, is_rescue}
use Rattle.parser_laws.specs.Derives.{Derives, Separated, NoMore, OneMore, WithModifiers, Unmodified, Tested, Rescued, Plain, AllJoined, Unjoined, Junctioned}
use Rattle.parser_laws.specs.Expressions.{is_expression, are_expressions}
use Rattle.parser_laws.proofs.Results.{bind_ok, then_ok, read_same, carry, clash, or_else, same, Never, never_bind, never_after, never_false, never_ok, never_error, err_is_none}
use Rattle.parser_laws.proofs.ExpressionParts.{modified_parts, junction_parts}
use Rattle.parser_laws.proofs.Sound.{IsSound}
use Rattle.parser_laws.proofs.SoundLeaf.{itself}
use Rattle.parser_laws.proofs.SoundPhrases.{negation_sound, value_negation_sound}

pub append_none : (xs : List Node) → xs ++ [] ≡ xs
append_none [] = refl
append_none (x ∷ xs) = ap (λ ys. x ∷ ys) (append_none xs)

pub append_more : (xs : List Node) (y : Node) (zs : List Node) → (xs ++ y ∷ []) ++ zs ≡ xs ++ y ∷ zs
append_more [] y zs = refl
append_more (x ∷ xs) y zs = ap (λ ys. x ∷ ys) (append_more xs y zs)

-- alias and undef are no expressions
abbrev Lacks : Result (Node × Tokens) ℕ → Type 0
Lacks r = (n : Node) (rest : Tokens) → same r (Ok (n, rest)) → is_expression n ≡ false

lacks_ok : (m : Node) (ts : Tokens) → is_expression m ≡ false → Lacks (Ok (m, ts))
lacks_ok m ts other n rest h = let e : (m, ts) ≡ (n, rest) = ap (or_else (m, ts)) h in
    subst (λ p. is_expression p.0 ≡ false) e other

lacks_error : (e : ℕ) → Lacks (Err e)
lacks_error e n rest h = err_is_none e (n, rest) h

lacks_if : (b : Bool) (r s : Result (Node × Tokens) ℕ) → Lacks r → Lacks s → Lacks (if b then r else s)
lacks_if true r s first second = first
lacks_if false r s first second = second

alias_lacks : (at : ℕ) (ts : Tokens) → Lacks (alias at ts)
alias_lacks at ts =
    lacks_if (is_global (first ts) && is_global (first (behind ts))) _ _ (lacks_ok _ _ refl)
    (lacks_if (is_method_word (first ts)) _ _ (lacks_if (is_method_word (first (behind ts))) _ _ (lacks_ok _ _ refl)
    (lacks_error _)) (lacks_error _))

undef_lacks : (found : List Name) (ts : Tokens) → Lacks (undef_from found ts)
unfolding undef_from
undef_lacks found [] = lacks_error 0
undef_lacks found (t ∷ []) = lacks_if (is_method_word (word_of t)) _ _ (lacks_ok _ _ refl) (lacks_error 1)
undef_lacks found (t ∷ u ∷ ts) =
    lacks_if (is_method_word (word_of t)) _ _
    (lacks_if (is_comma_word (word_of u)) _ _ (undef_lacks (found ++ bytes_of t.kind ∷ []) ts) (lacks_ok _ _ refl))
    (lacks_error _)

lacks_never : (r : Result (Node × Tokens) ℕ) (names : Names) → Lacks r
    → Never itself (r >>= (λ p. Ok (p.0, names, p.1)))
lacks_never (Ok p) names lacks = never_ok itself p.0 names p.1 (lacks p.0 p.1 refl)
lacks_never (Err e) names lacks = never_error itself e

modified_none : (m : Modifier) (body part : Node) → is_expression body ≡ false
    → is_expression (modified_node m body part) ≡ false
modified_none m body part other =
    elim (cases_Bool (is_expression (modified_node m body part))) [
      | inl is ↦ clash (is_expression body) (modified_parts m body part is).0 other
      | inr other_is ↦ other_is
    ]

junction_none : (j : Junction) (a b : Node) → is_expression a ≡ false → is_expression (junction_node j a b) ≡ false
junction_none j a b other =
    elim (cases_Bool (is_expression (junction_node j a b))) [
      | inl is ↦ clash (is_expression a) (junction_parts j a b is).0 other
      | inr other_is ↦ other_is
    ]

module _ (i : Inside) (owner : DoOwner) where
  with_never : (j : Junction) (left : Node) (names : Names) (ts : Tokens) → is_expression left ≡ false
      → Never itself (junction_with i j left names ts owner)
  unfolding junction_with
  with_never j left names ts other =
      never_bind itself (negation i names (behind ts) places.Command owner) _
      (λ r. never_ok itself _ r.1 r.2 (junction_none j left r.0.0 other))

  junction_turn_never : (n : ℕ) (j : Option Junction) (left : Node) (names : Names) (ts : Tokens)
      → ((x : Node) (k : Names) (m : Tokens) → is_expression x ≡ false → Never itself (junctions_from i n owner x k m))
      → is_expression left ≡ false
      → Never itself (junctions_turn i j (junctions_from i n owner) left names ts owner)
  junction_turn_never n None left names ts again other = never_ok itself left names ts other
  junction_turn_never n (Some j) left names ts again other =
      never_after itself (junction_with i j left names ts owner) _
      (λ x k m h. again x k m (never_false itself _ x k m (with_never j left names ts other) h))

  junctions_never : (n : ℕ) (left : Node) (names : Names) (ts : Tokens) → is_expression left ≡ false
      → Never itself (junctions_from i n owner left names ts)
  unfolding junctions_from
  junctions_never zero left names ts other = never_error itself 0
  junctions_never (suc n) left names ts other =
      junction_turn_never n (junction_at (first ts)) left names ts
      (λ x k m no_expression. junctions_never n x k m no_expression) other

  module _ (sound : IsSound i) (place : Place) (before : Names) (start : Tokens) where
    abbrev Tail : Node → Names → Tokens → Type 0
    Tail x known rest = Derives (Expression place owner x) before start known rest

    turn_sound : (n : ℕ) (j : Option Junction) (left : Node) (names : Names) (ts : Tokens) (x : Node) (known : Names)
        (rest : Tokens)
        → ((y : Node) (k : Names) (m : Tokens) → Derives (Joined place owner y) before start k m
        → junctions_from i n owner y k m ≡ Ok (x, known, rest) → Tail x known rest)
        → junction_at (first ts) ≡ j → Derives (Joined place owner left) before start names ts
        → junctions_turn i j (junctions_from i n owner) left names ts owner ≡ Ok (x, known, rest)
        → is_expression x ≡ true → Tail x known rest
    unfolding junction_with
    turn_sound n None left names ts x known rest again there derived h is =
        carry Tail left x names known ts rest h (AllJoined place owner before names start ts left derived there)
    turn_sound n (Some j) left names ts x known rest again there derived h is =
        let r = bind_ok (junction_with i j left names ts owner) _ (x, known, rest) h in
        let p = bind_ok (negation i names (behind ts) places.Command owner) _ r.0 r.1 in
        let e : (junction_node j left p.0.0.0, p.0.1, p.0.2) ≡ r.0 =
        ap (or_else (junction_node j left p.0.0.0, p.0.1, p.0.2)) p.2 in
        let tail : junctions_from i n owner (junction_node j left p.0.0.0) p.0.1 p.0.2 ≡ Ok (x, known, rest) =
        subst (λ q. junctions_from i n owner q.0 q.1 q.2 ≡ Ok (x, known, rest)) (sym e) r.2 in
        elim (cases_Bool (is_expression (junction_node j left p.0.0.0))) [
          | inl there_is ↦
              let parts = junction_parts j left p.0.0.0 there_is in
              let right = value_negation_sound i sound places.Command owner names (behind ts) refl p.0.0 p.0.1 p.0.2 p.1
              parts.1 in
              again (junction_node j left p.0.0.0) p.0.1 p.0.2
              (Junctioned place owner j before names p.0.1 start ts p.0.2 left p.0.0.0 derived there right) tail
          | inr other ↦ absurd (junctions_never n (junction_node j left p.0.0.0) p.0.1 p.0.2 other x known rest tail is)
        ]

    tail_sound : (n : ℕ) (left : Node) (names : Names) (ts : Tokens) (x : Node) (known : Names) (rest : Tokens)
        → Derives (Joined place owner left) before start names ts
        → junctions_from i n owner left names ts ≡ Ok (x, known, rest) → is_expression x ≡ true → Tail x known rest
    unfolding junctions_from
    tail_sound zero left names ts x known rest derived h is = err_is_none 0 (x, known, rest) h
    tail_sound (suc n) left names ts x known rest derived h is =
        turn_sound n (junction_at (first ts)) left names ts x known rest
        (λ y k m d e. tail_sound n y k m x known rest d e is) refl derived h is

    by_sort : (b : Bool) (p : PhraseNode) (k : Names) (m : Tokens) → is_statement_sort p.1 ≡ b
        → negation i before start place owner ≡ Ok (p, k, m)
        → (x : Node) (known : Names) (rest : Tokens)
        → (if b then Ok (p.0, k, m) else junctions_from i (length m + 1) owner p.0 k m) ≡ Ok (x, known, rest)
        → is_expression x ≡ true → Tail x known rest
    by_sort true p k m sort got x known rest h is =
        let e = read_same p.0 x k known m rest h in
        elim (negation_sound i sound place owner before start p k m got
        (subst (λ y. is_expression y ≡ true) (sym e.0) is)) [
          | inl d ↦ clash (is_statement_sort p.1) sort d.0
          | inr s ↦ carry Tail p.0 x k known m rest h
              (subst (λ q. Derives (Expression q owner p.0) before start k m) (sym s.1) s.2)
        ]
    by_sort false p k m sort got x known rest h is =
        elim (cases_Bool (is_expression p.0)) [
          | inl there ↦
              elim (negation_sound i sound place owner before start p k m got there) [
                | inl d ↦ tail_sound (length m + 1) p.0 k m x known rest (Unjoined place owner before k start m p.0 d.1)
                    h is
                | inr s ↦ clash (is_statement_sort p.1) (ap is_statement_sort s.0) sort
              ]
          | inr other ↦ absurd (junctions_never (length m + 1) p.0 k m other x known rest h is)
        ]

    pub expression_sound : (x : Node) (known : Names) (rest : Tokens)
        → expression i before start place owner ≡ Ok (x, known, rest) → is_expression x ≡ true → Tail x known rest
    unfolding expression
    expression_sound x known rest h is =
        let r = bind_ok (negation i before start place owner) _ (x, known, rest) h in
        by_sort (is_statement_sort r.0.0.1) r.0.0 r.0.1 r.0.2 refl r.1 x known rest r.2 is

module _ (i : Inside) where
  braced_never : (o : Outside) (at : ℕ) (names : Names) (ts : Tokens) → Never itself (braced i o at names ts)
  braced_never o at names ts =
      never_bind itself (expect wanted.OpenBrace ts) _ (λ body. never_bind itself (i.statements names body) _ (λ r.
      never_bind itself (expect wanted.CloseBrace r.2) _ (λ rest. never_ok itself _ r.1 rest refl)))

  modified_never : (m : Modifier) (body : Node) (names : Names) (ts : Tokens) → is_expression body ≡ false
      → Never itself (modified i m body names ts)
  unfolding modified
  modified_never m body names ts other = never_bind itself (modifier_part i m names (behind ts)) _
      (λ r. never_ok itself _ r.1 r.2 (modified_none m body r.0 other))

  modifier_turn_never : (n : ℕ) (m : Option Modifier) (body : Node) (names : Names) (ts : Tokens)
      → ((x : Node) (k : Names) (l : Tokens) → is_expression x ≡ false → Never itself (modifiers_from i n x k l))
      → is_expression body ≡ false
      → Never itself (modifiers_turn i m (modifiers_from i n) body names ts)
  modifier_turn_never n None body names ts again other = never_ok itself body names ts other
  modifier_turn_never n (Some m) body names ts again other =
      never_after itself (modified i m body names ts) _
      (λ x k l h. again x k l (never_false itself _ x k l (modified_never m body names ts other) h))

  modifiers_never : (n : ℕ) (body : Node) (names : Names) (ts : Tokens) → is_expression body ≡ false
      → Never itself (modifiers_from i n body names ts)
  unfolding modifiers_from
  modifiers_never zero body names ts other = never_error itself 0
  modifiers_never (suc n) body names ts other =
      modifier_turn_never n (modifier_at (first ts)) body names ts
      (λ x k l no_expression. modifiers_never n x k l no_expression) other

  module _ (sound : IsSound i) where
    by_start : (s : StatementStart) (names : Names) (ts : Tokens) (x : Node) (known : Names) (rest : Tokens)
        → base_by i s names ts ≡ Ok (x, known, rest) → is_expression x ≡ true → Derives (Base x) names ts known rest
    unfolding base_by
    by_start beginnings.Alias names ts x known rest h is =
        absurd (lacks_never (alias (place_at ts) (behind ts)) names (alias_lacks (place_at ts) (behind ts)) x known rest
        h is)
    by_start beginnings.Undef names ts x known rest h is =
        absurd (lacks_never (undef (behind ts)) names (undef_lacks [] (behind ts)) x known rest h is)
    by_start beginnings.BeginBlock names ts x known rest h is =
        absurd (braced_never outsides.BeginBlock (place_at ts) names (behind ts) x known rest h is)
    by_start beginnings.EndBlock names ts x known rest h is =
        absurd (braced_never outsides.EndBlock (place_at ts) names (behind ts) x known rest h is)
    by_start beginnings.Expression names ts x known rest h is =
        Plain names known ts rest x (expression_sound i owners.Call sound places.Statement names ts x known rest h is)

    base_sound : (names : Names) (ts : Tokens) (x : Node) (known : Names) (rest : Tokens)
        → base i names ts ≡ Ok (x, known, rest) → is_expression x ≡ true → Derives (Base x) names ts known rest
    base_sound names ts x known rest h is = by_start (statement_start (first ts)) names ts x known rest h is

    module _ (before : Names) (start : Tokens) where
      abbrev SoundStatement : Node → Names → Tokens → Type 0
      SoundStatement x known rest = Derives (Statement x) before start known rest

      -- a test behind a modifier
      test_derived : (m : Modifier) (left : Node) (names : Names) (ts : Tokens) (test : Node) (known : Names)
          (rest : Tokens) → Derives (Modified left) before start names ts → modifier_at (first ts) ≡ Some m
          → is_rescue (Some m) ≡ false
          → expression i names (behind ts) places.Command owners.Call ≡ Ok (test, known, rest)
          → is_expression test ≡ true → Derives (Modified (modified_node m left test)) before start known rest
      test_derived m left names ts test known rest derived there plain h is =
          Tested m before names known start ts rest left test derived there plain
          (expression_sound i owners.Call sound places.Command names (behind ts) test known rest h is)

      part_derived : (m : Modifier) (left : Node) (names : Names) (ts : Tokens) (part : Node) (known : Names)
          (rest : Tokens) → Derives (Modified left) before start names ts → modifier_at (first ts) ≡ Some m
          → modifier_part i m names (behind ts) ≡ Ok (part, known, rest) → is_expression part ≡ true
          → Derives (Modified (modified_node m left part)) before start known rest
      part_derived kinds.If left names ts part known rest derived there h is =
          test_derived kinds.If left names ts part known rest derived there refl h is
      part_derived kinds.Unless left names ts part known rest derived there h is =
          test_derived kinds.Unless left names ts part known rest derived there refl h is
      part_derived kinds.While left names ts part known rest derived there h is =
          test_derived kinds.While left names ts part known rest derived there refl h is
      part_derived kinds.Until left names ts part known rest derived there h is =
          test_derived kinds.Until left names ts part known rest derived there refl h is
      part_derived kinds.Rescue left names ts part known rest derived there h is =
          Rescued before names known start ts rest left part derived there
          (base_sound names (behind ts) part known rest h is)

      modifier_sound : (n : ℕ) (m : Option Modifier) (left : Node) (names : Names) (ts : Tokens) (x : Node)
          (known : Names) (rest : Tokens)
          → ((y : Node) (k : Names) (l : Tokens) → Derives (Modified y) before start k l
          → modifiers_from i n y k l ≡ Ok (x, known, rest) → SoundStatement x known rest)
          → modifier_at (first ts) ≡ m → Derives (Modified left) before start names ts
          → modifiers_turn i m (modifiers_from i n) left names ts ≡ Ok (x, known, rest) → is_expression x ≡ true
          → SoundStatement x known rest
      unfolding modified
      modifier_sound n None left names ts x known rest again there derived h is =
          carry SoundStatement left x names known ts rest h (WithModifiers before names start ts left derived there)
      modifier_sound n (Some m) left names ts x known rest again there derived h is =
          let r = bind_ok (modified i m left names ts) _ (x, known, rest) h in
          let p = bind_ok (modifier_part i m names (behind ts)) _ r.0 r.1 in
          let e : (modified_node m left p.0.0, p.0.1, p.0.2) ≡ r.0 =
          ap (or_else (modified_node m left p.0.0, p.0.1, p.0.2)) p.2 in
          let tail : modifiers_from i n (modified_node m left p.0.0) p.0.1 p.0.2 ≡ Ok (x, known, rest) =
          subst (λ q. modifiers_from i n q.0 q.1 q.2 ≡ Ok (x, known, rest)) (sym e) r.2 in
          elim (cases_Bool (is_expression (modified_node m left p.0.0))) [
            | inl there_is ↦
                let parts = modified_parts m left p.0.0 there_is in
                again (modified_node m left p.0.0) p.0.1 p.0.2
                (part_derived m left names ts p.0.0 p.0.1 p.0.2 derived there p.1 parts.1) tail
            | inr other ↦ absurd (modifiers_never n (modified_node m left p.0.0) p.0.1 p.0.2 other x known rest tail is)
          ]

      modifiers_sound : (n : ℕ) (left : Node) (names : Names) (ts : Tokens) (x : Node) (known : Names) (rest : Tokens)
          → Derives (Modified left) before start names ts → modifiers_from i n left names ts ≡ Ok (x, known, rest)
          → is_expression x ≡ true → SoundStatement x known rest
      unfolding modifiers_from
      modifiers_sound zero left names ts x known rest derived h is = err_is_none 0 (x, known, rest) h
      modifiers_sound (suc n) left names ts x known rest derived h is =
          modifier_sound n (modifier_at (first ts)) left names ts x known rest
          (λ y k l d e. modifiers_sound n y k l x known rest d e is) refl derived h is

    statement_sound : (names : Names) (ts : Tokens) (x : Node) (known : Names) (rest : Tokens)
        → statement i names ts ≡ Ok (x, known, rest) → is_expression x ≡ true
        → Derives (Statement x) names ts known rest
    unfolding statement
    statement_sound names ts x known rest h is =
        let r = bind_ok (base i names ts) _ (x, known, rest) h in
        elim (cases_Bool (is_expression r.0.0)) [
          | inl there ↦
              let d = Unmodified names r.0.1 ts r.0.2 r.0.0 (base_sound names ts r.0.0 r.0.1 r.0.2 r.1 there) in
              modifiers_sound names ts (length r.0.2 + 1) r.0.0 r.0.1 r.0.2 x known rest d r.2 is
          | inr other ↦ absurd (modifiers_never (length r.0.2 + 1) r.0.0 r.0.1 r.0.2 other x known rest r.2 is)
        ]

    abbrev Listed : List Node → Names → Tokens → List Node → Names → Tokens → Type 0
    Listed found names ts all known rest = (ns : List Node) × (all ≡ found ++ ns)
        × (are_expressions (nodes ns) ≡ true → Derives (StatementList ns) names ts known rest)

    by_end : (n : ℕ) (b : Bool) (found : List Node) (names : Names) (ts : Tokens) (all : List Node) (known : Names)
        (rest : Tokens) → ends_statements (first ts) ≡ b
        → ((more : List Node) (k : Names) (m : Tokens) → statements_from i n more k m ≡ Ok (all, known, rest)
        → Listed more k m all known rest)
        → (if b then Ok (found, names, ts) else
        (with_statement i found names ts >>= (λ r. statements_from i n r.0 r.1 r.2))) ≡ Ok (all, known, rest)
        → Listed found names ts all known rest
    unfolding with_statement separated
    by_end n true found names ts all known rest there again h =
        let e = read_same found all names known ts rest h in (
          [],
          sym e.0 ∙ sym (append_none found),
          λ is. carry (λ (ns : List Node) (k : Names) (m : Tokens). Derives (StatementList []) names ts k m) found all
              names known ts rest h (NoMore names ts there),
        )
    by_end n false found names ts all known rest there again h =
        let r = bind_ok (with_statement i found names ts) _ (all, known, rest) h in
        let w = bind_ok (separated i names ts) (λ q. Ok (found ++ q.0 ∷ [], q.1, q.2)) r.0 r.1 in
        let s = bind_ok (statement i names ts) _ w.0 w.1 in
        let c = then_ok (ends_statement (first s.0.2)) (Ok (s.0.0, s.0.1, skip_separators s.0.2)) (length s.0.2) w.0 s.2
        in
        let e : (s.0.0, s.0.1, skip_separators s.0.2) ≡ w.0 = ap (or_else (s.0.0, s.0.1, skip_separators s.0.2)) c.1 in
        let f : (found ++ w.0.0 ∷ [], w.0.1, w.0.2) ≡ r.0 = ap (or_else (found ++ w.0.0 ∷ [], w.0.1, w.0.2)) w.2 in
        let g : (found ++ s.0.0 ∷ [], s.0.1, skip_separators s.0.2) ≡ r.0 = ap (λ q. (found ++ q.0 ∷ [], q.1, q.2)) e
        ∙ f in
        let tail : statements_from i n (found ++ s.0.0 ∷ []) s.0.1 (skip_separators s.0.2) ≡ Ok (all, known, rest) =
        subst (λ q. statements_from i n q.0 q.1 q.2 ≡ Ok (all, known, rest)) (sym g) r.2 in
        let l = again (found ++ s.0.0 ∷ []) s.0.1 (skip_separators s.0.2) tail in (
          s.0.0 ∷ l.0,
          l.1 ∙ append_more found s.0.0 l.0,
          λ is.
              let parts = and_parts (is_expression s.0.0) (are_expressions (nodes l.0)) is in
              OneMore names s.0.1 known ts s.0.2 rest s.0.0 l.0 there
              (statement_sound names ts s.0.0 s.0.1 s.0.2 s.1 parts.0) c.0 (l.2 parts.1),
        )

    list_sound : (n : ℕ) (found : List Node) (names : Names) (ts : Tokens) (all : List Node) (known : Names)
        (rest : Tokens)
        → statements_from i n found names ts ≡ Ok (all, known, rest) → Listed found names ts all known rest
    unfolding statements_from
    list_sound zero found names ts all known rest h = err_is_none 0 (all, known, rest) h
    list_sound (suc n) found names ts all known rest h =
        by_end n (ends_statements (first ts)) found names ts all known rest refl
        (λ more k m e. list_sound n more k m all known rest e) h

    pub statements_sound : (names known : Names) (ts rest : Tokens) (x : Node)
        → statements i names ts ≡ Ok (x, known, rest) → is_expression x ≡ true
        → Derives (Statements x) names ts known rest
    unfolding statements
    statements_sound names known ts rest x h is =
        let r = bind_ok (statement_list i names (skip_separators ts)) _ (x, known, rest) h in
        let l = list_sound (length (skip_separators ts) + 1) [] names (skip_separators ts) r.0.0 r.0.1 r.0.2 r.1 in
        let e = read_same (node.statements (nodes r.0.0)) x r.0.1 known r.0.2 rest r.2 in
        let all : are_expressions (nodes r.0.0) ≡ true = subst (λ y. is_expression y ≡ true) (sym e.0) is in
        let some : are_expressions (nodes l.0) ≡ true = subst (λ ns. are_expressions (nodes ns) ≡ true) l.1 all in
        let d = Separated names r.0.1 ts r.0.2 l.0 (l.2 some) in
        let f = subst (λ ns. Derives (Statements (node.statements (nodes ns))) names ts r.0.1 r.0.2) (sym l.1) d in
        carry (λ (y : Node) (k : Names) (m : Tokens). Derives (Statements y) names ts k m)
        (node.statements (nodes r.0.0)) x r.0.1 known r.0.2 rest r.2 f
