-- Expressions and statements that are derived are read.
use Rattle.std.proofs.Common.{◌≡◌, ℕ, zero, suc, ◌+◌, ◌-◌, ◌<◌, ◌≤◌, true, false, List, [], ◌∷◌, ◌++◌, length, Some, None, is_some, Ok, refl, sym, ap, ◌∙◌, arith}
use Rattle.rb_syntax.specs.declared.punctuator.Punctuator.{Punctuator}
use Rattle.rb_syntax.specs.declared.punctuator.Punctuator.TheVariants as marks
use Rattle.parser_tree.specs.Node as node
use Rattle.parser_tree.specs.Node.{Node, nodes}
use Rattle.parser_tokens.specs.Tokens.{first, behind}
use Rattle.parser_tokens.specs.Expect.{separators_from, skip_separators}
use Rattle.parser_tokens.specs.Operators.{assignment_at, assignment_mark, junction_at}
use Rattle.parser_tokens.specs.Starts.{is_separator, ends_statement, ends_statements, modifier_at}
use Rattle.parser_tokens.specs.declared.operators.Junction.{Junction}
use Rattle.parser_tokens.specs.declared.word.Modifier.{Modifier}
use Rattle.parser_tokens.specs.declared.word.Modifier.TheVariants as kinds
use Rattle.parser_tokens.specs.declared.word.Word.{Word}
use Rattle.parser_tokens.specs.declared.word.Word.TheVariants as words
use Rattle.parser_ahead.specs.declared.primary.DoOwner.{DoOwner}
use Rattle.parser_ahead.specs.declared.primary.DoOwner.TheVariants as owners
use Rattle.parser_ahead.specs.declared.primary.Place.{Place}
use Rattle.parser_ahead.specs.declared.primary.Place.TheVariants as places
use Rattle.parser_nodes.specs.Nodes.{junction_node, modified_node, rescued_node}
use Rattle.parser_statements.specs.Statements.{is_not, junction_with, junctions_turn, junctions_from, expression, base_by, modifiers_from, statement, separated, with_statement, statements_from, statements, modifier_part, modified, modifiers_turn}
use Rattle.parser_statements.proofs.Turns.{junctions_step, modifiers_step, statements_step}
use Rattle.parser_forms.specs.Reading.{Names, Tokens, Inside}
use Rattle.rb_parser.specs.Levels.{levels}
use Rattle.parser_laws.specs.Rules.{Statements, StatementList, Statement, Modified, Base, Expression, Joined, Negation, is_star, is_rescue}
use Rattle.parser_laws.proofs.Results.{differs}
use Rattle.parser_laws.proofs.Tests.{or_more}
use Rattle.parser_laws.proofs.Facts.{is_finish, Fact, word_taken, behind_within, skip_one, begins}
use Rattle.parser_laws.proofs.Heads.{head_expression}
use Rattle.parser_laws.proofs.SoundStatements.{append_none, append_more}

-- what ends a statement is no assignment, nor is and or or
ends_mark : (p : Punctuator) → ends_statement (words.Mark p) ≡ true → assignment_mark p ≡ None
ends_mark marks.CloseParenthesis h = refl
ends_mark marks.CloseBrace h = refl
ends_mark p h = differs (sym h)

ends_free : (w : Word) → ends_statement w ≡ true → assignment_at w ≡ None
ends_free (words.Mark p) h = ends_mark p h
ends_free w h = refl

junction_free : (w : Word) (j : Junction) → junction_at w ≡ Some j → assignment_at w ≡ None
junction_free (words.Mark p) j h = differs (sym (ap is_some h))
junction_free w j h = refl

-- a modifier is no assignment
pub modifier_free : (w : Word) (m : Modifier) → modifier_at w ≡ Some m → assignment_at w ≡ None
modifier_free (words.Mark p) m h = differs (sym (ap is_some h))
modifier_free w m h = refl

pub modifier_word : (w : Word) (m : Modifier) → modifier_at w ≡ Some m → is_finish w ≡ false
modifier_word words.Finish m h = differs (sym (ap is_some h))
modifier_word w m h = refl

junction_word : (w : Word) (j : Junction) → junction_at w ≡ Some j → is_finish w ≡ false
junction_word words.Finish j h = differs (sym (ap is_some h))
junction_word w j h = refl

skip_within : (n : ℕ) (ts : Tokens) → length (separators_from n ts) ≤ length ts
unfolding separators_from
skip_within zero ts = omega arith
skip_within (suc n) ts =
    let h = skip_within n (behind ts) in
    let g = behind_within ts in
    skip_one (is_separator (first ts)) ts (separators_from n (behind ts)) ts (omega arith) (omega arith)

pub skipped : (ts : Tokens) → length (skip_separators ts) ≤ length ts
skipped ts = skip_within (length ts) ts

pub unjoined : (place : Place) (owner : DoOwner) (names known : Names) (ts rest : Tokens) (n : Node)
    → Fact (Negation place owner n) names ts known rest → Fact (Joined place owner n) names ts known rest
unjoined place owner names known ts rest n inner = (
  inner.0,
  inner.1,
  λ d room none. let r = inner.2 d room none in
      ((n, r.0), known, rest, r.2, r.1, λ m more. (m, more, refl)),
)

pub junctioned : (place : Place) (owner : DoOwner) (j : Junction) (names known later : Names) (ts rest more : Tokens)
    (a b : Node)
    → Fact (Joined place owner a) names ts known rest → junction_at (first rest) ≡ Some j
    → Fact (Negation places.Command owner b) known (behind rest) later more
    → Fact (Joined place owner (junction_node j a b)) names ts later more
unfolding junction_with
junctioned place owner j names known later ts rest more a b left there right =
    let one = word_taken (first rest) rest refl (junction_word (first rest) j there) in
    let l = left.0 in
    let r = right.0 in (
      omega arith,
      left.1,
      λ d room none.
          let f = left.2 d room (junction_free (first rest) j there) in
          let g = right.2 d (omega arith) none in (
            f.0,
            f.1,
            f.2,
            f.3,
            f.4,
            λ n enough.
                let t = f.5 n enough in
                let some = t.1 in
                let step = junctions_step (levels d) t.0 owner a known rest (omega arith) in
                let turned : junctions_turn (levels d) (junction_at (first rest))
                (junctions_from (levels d) (t.0 - 1) owner) a known rest owner
                ≡ junctions_from (levels d) (t.0 - 1) owner (junction_node j a b) later more = rw (there, g.2) refl in
                (t.0 - 1, omega arith, t.2 ∙ step ∙ turned),
          ),
    )

pub all_joined : (place : Place) (owner : DoOwner) (names known : Names) (ts rest : Tokens) (n : Node)
    → Fact (Joined place owner n) names ts known rest → junction_at (first rest) ≡ None
    → Fact (Expression place owner n) names ts known rest
unfolding expression
all_joined place owner names known ts rest n inner ends = (
  inner.0,
  or_more (begins (first ts)) (is_not (first ts)) (is_star (first ts)) inner.1,
  λ d room none.
      let f = inner.2 d room none in
      let t = f.5 (length f.2 + 1) (omega arith) in
      let some = t.1 in
      let last : junctions_from (levels d) (length f.2 + 1) owner f.0.0 f.1 f.2 ≡ Ok (n, known, rest) = t.2
      ∙ junctions_step (levels d) t.0 owner n known rest (omega arith) ∙ rw ends refl in
      rw (f.3, f.4) last,
)

pub plain : (names known : Names) (ts rest : Tokens) (n : Node)
    → Fact (Expression places.Statement owners.Call n) names ts known rest → Fact (Base n) names ts known rest
unfolding base_by
plain names known ts rest n inner = (
  inner.0,
  refl,
  λ d room none. rw (head_expression (first ts) inner.1) (inner.2 d room none),
)

pub unmodified : (names known : Names) (ts rest : Tokens) (n : Node) → Fact (Base n) names ts known rest
    → Fact (Modified n) names ts known rest
unmodified names known ts rest n inner = (
  inner.0,
  inner.1,
  λ d room none. (n, known, rest, inner.2 d room none, λ m more. (m, more, refl)),
)

module _ (m : Modifier) (names known later : Names) (ts rest more : Tokens) (n part : Node)
    (left : Fact (Modified n) names ts known rest) (there : modifier_at (first rest) ≡ Some m) where
  -- behind a modifier stands a part of the statement
  behind_modifier : length more < length rest
      → ((d : ℕ) → length rest ≤ d → assignment_at (first more) ≡ None
      → modifier_part (levels d) m known (behind rest) ≡ Ok (part, later, more))
      → Fact (Modified (modified_node m n part)) names ts later more
  unfolding modified
  behind_modifier fewer read =
      let l = left.0 in (
        omega arith,
        left.1,
        λ d room none.
            let f = left.2 d room (modifier_free (first rest) m there) in
            let got = read d (omega arith) none in (
              f.0,
              f.1,
              f.2,
              f.3,
              λ k enough.
                  let t = f.4 k enough in
                  let some = t.1 in
                  let step = modifiers_step (levels d) t.0 n known rest (omega arith) in
                  let turned : modifiers_turn (levels d) (modifier_at (first rest))
                  (modifiers_from (levels d) (t.0 - 1)) n known rest ≡ modifiers_from (levels d) (t.0 - 1)
                  (modified_node m n part) later more = rw (there, got) refl in
                  (t.0 - 1, omega arith, t.2 ∙ step ∙ turned),
            ),
      )

test_part : (i : Inside) (m : Modifier) (names : Names) (ts : Tokens) → is_rescue (Some m) ≡ false
    → modifier_part i m names ts ≡ expression i names ts places.Command owners.Call
test_part i kinds.If names ts h = refl
test_part i kinds.Unless names ts h = refl
test_part i kinds.While names ts h = refl
test_part i kinds.Until names ts h = refl
test_part i kinds.Rescue names ts h = differs h

pub tested : (m : Modifier) (names known later : Names) (ts rest more : Tokens) (n test : Node)
    → Fact (Modified n) names ts known rest → modifier_at (first rest) ≡ Some m → is_rescue (Some m) ≡ false
    → Fact (Expression places.Command owners.Call test) known (behind rest) later more
    → Fact (Modified (modified_node m n test)) names ts later more
tested m names known later ts rest more n test left there plain right =
    let one = word_taken (first rest) rest refl (modifier_word (first rest) m there) in
    let r = right.0 in
    behind_modifier m names known later ts rest more n test left there (omega arith)
    (λ d room none. test_part (levels d) m known (behind rest) plain ∙ right.2 d (omega arith) none)

pub rescued : (names known later : Names) (ts rest more : Tokens) (n other : Node)
    → Fact (Modified n) names ts known rest → modifier_at (first rest) ≡ Some kinds.Rescue
    → Fact (Base other) known (behind rest) later more
    → Fact (Modified (rescued_node n other)) names ts later more
rescued names known later ts rest more n other left there right =
    let one = word_taken (first rest) rest refl (modifier_word (first rest) kinds.Rescue there) in
    let r = right.0 in
    behind_modifier kinds.Rescue names known later ts rest more n other left there (omega arith)
    (λ d room none. right.2 d (omega arith) none)

pub with_modifiers : (names known : Names) (ts rest : Tokens) (n : Node) → Fact (Modified n) names ts known rest
    → modifier_at (first rest) ≡ None → Fact (Statement n) names ts known rest
unfolding statement
with_modifiers names known ts rest n inner ends = (
  inner.0,
  inner.1,
  λ d room none.
      let f = inner.2 d room none in
      let t = f.4 (length f.2 + 1) (omega arith) in
      let some = t.1 in
      let last : modifiers_from (levels d) (length f.2 + 1) f.0 f.1 f.2 ≡ Ok (n, known, rest) = t.2
      ∙ modifiers_step (levels d) t.0 n known rest (omega arith) ∙ rw ends refl in
      rw f.3 last,
)

pub no_more : (names : Names) (ts : Tokens) → ends_statements (first ts) ≡ true
    → Fact (StatementList []) names ts names ts
no_more names ts ends = (
  omega arith,
  refl,
  λ d room n found enough. statements_step (levels d) n found names ts (omega arith)
      ∙ rw (ends, append_none found) refl,
)

pub one_more : (names known later : Names) (ts rest more : Tokens) (n : Node) (ns : List Node)
    → ends_statements (first ts) ≡ false → Fact (Statement n) names ts known rest → ends_statement (first rest) ≡ true
    → Fact (StatementList ns) known (skip_separators rest) later more
    → Fact (StatementList (n ∷ ns)) names ts later more
unfolding with_statement separated
one_more names known later ts rest more n ns goes_on one ends others =
    let s = skipped rest in
    let l = one.0 in
    let r = others.0 in (
      omega arith,
      refl,
      λ d room m found enough.
          let here = one.2 d room (ends_free (first rest) ends) in
          let tail : statements_from (levels d) (m - 1) (found ++ n ∷ []) known (skip_separators rest) ≡ Ok
          ((found ++ n ∷ []) ++ ns, later, more) =
          others.2 d (omega arith) (m - 1) (found ++ n ∷ []) (omega arith) in
          let same : (found ++ n ∷ []) ++ ns ≡ found ++ n ∷ ns = append_more found n ns in
          statements_step (levels d) m found names ts (omega arith)
          ∙ rw (goes_on, here, ends) (tail ∙ ap (λ (all : List Node). Ok (all, later, more)) same),
    )

pub separated_fact : (names known : Names) (ts rest : Tokens) (ns : List Node)
    → Fact (StatementList ns) names (skip_separators ts) known rest
    → Fact (Statements (node.statements (nodes ns))) names ts known rest
unfolding statements
separated_fact names known ts rest ns inner =
    let s = skipped ts in
    let l = inner.0 in (
      omega arith,
      refl,
      λ d room.
          let read : statements_from (levels d) (length (skip_separators ts) + 1) [] names (skip_separators ts) ≡ Ok
          (ns, known, rest) = inner.2 d (omega arith) (length (skip_separators ts) + 1) [] (omega arith) in
          rw read refl,
    )
