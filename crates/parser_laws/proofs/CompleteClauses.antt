-- case with its clauses that is derived is read.
use Rattle.std.proofs.Common.{◌≡◌, ℕ, ◌+◌, ◌-◌, ◌<◌, true, false, ◌||◌, List, [], ◌∷◌, ◌++◌, nat_lt, length, map, Option, Some, None, Ok, refl, sym, ap, ◌∙◌, arith}
use Rattle.std.proofs.lemmas.List.{append_assoc}
use Rattle.rb_syntax.specs.declared.keyword.Keyword.{Keyword}
use Rattle.rb_syntax.specs.declared.keyword.Keyword.TheVariants as keywords
use Rattle.rb_syntax.specs.declared.outside.Outside.TheVariants as outsides
use Rattle.rb_syntax.specs.declared.punctuator.Punctuator.{Punctuator}
use Rattle.rb_syntax.specs.declared.punctuator.Punctuator.TheVariants as marks
use Rattle.parser_tree.specs.Node as node
use Rattle.parser_tree.specs.Node.{Node, nodes, none, one}
use Rattle.parser_tokens.specs.Tokens.{first, behind, place_at}
use Rattle.parser_tokens.specs.Expect.{then_at, skip_separators}
use Rattle.parser_tokens.specs.Operators.{assignment_at}
use Rattle.parser_tokens.specs.Starts.{begins_value}
use Rattle.parser_tokens.specs.declared.word.Word.{Word}
use Rattle.parser_tokens.specs.declared.word.Word.TheVariants as words
use Rattle.parser_ahead.specs.Primary.{is_comma_word}
use Rattle.parser_ahead.specs.Sections.{next_section, takes_clause, takes_case_else}
use Rattle.parser_ahead.specs.declared.primary.DoOwner.{DoOwner}
use Rattle.parser_ahead.specs.declared.primary.DoOwner.TheVariants as owners
use Rattle.parser_ahead.specs.declared.primary.Place.{Place}
use Rattle.parser_ahead.specs.declared.primary.Place.TheVariants as places
use Rattle.parser_ahead.specs.declared.sections.Compound.TheVariants as compounds
use Rattle.parser_ahead.specs.declared.sections.SectionKind.{SectionKind}
use Rattle.parser_ahead.specs.declared.sections.SectionKind.TheVariants as kinds
use Rattle.parser_nodes.specs.Nodes.{outside_node}
use Rattle.parser_form_nodes.specs.declared.sections.LastPart.TheVariants as parts
use Rattle.parser_form_nodes.specs.Sections.{SectionNode, last_of, before_part, part_body, when_of, first_of, rest_of, case_section, case_by, case_node, option_node, is_whole, compound_node, pattern_node}
use Rattle.parser_phrases.specs.Targets.{is_star}
use Rattle.parser_statements.specs.Sections.{heading, subject, ends_subject as subject_ends, value_test, with_test, tests_from, tests, section}
use Rattle.parser_statements.specs.Statements.{is_not}
use Rattle.parser_statements.proofs.Turns.{tests_step}
use Rattle.parser_forms.specs.Reading.{Names, Tokens, Inside}
use Rattle.rb_parser.specs.Levels.{levels}
use Rattle.parser_laws.specs.Rules.{Primary as PrimaryRule, Expression, Argument, Statements, Otherwise, Subject, Clauses, Clause, WhenValues, ValueTest, ends_subject, is_star as begins_star}
use Rattle.parser_laws.proofs.Facts.{Reads, is_finish, Fact, subjects, word_taken, begins}
use Rattle.parser_laws.proofs.SectionSteps.{part_sections, behind_part, all_base, steps_one, steps_then, sections_read, base_last, parts_of}
use Rattle.parser_laws.proofs.CompleteStatements.{skipped}
use Rattle.parser_laws.proofs.Heads.{word_begins}
use Rattle.parser_laws.proofs.CompleteCompounds.{then_within, then_free, compound_fact}

differs : {A : Type 0} → true ≡ false → A
differs h = absurd (cc)

mark_no_star : (p : Punctuator) → begins (words.Mark p) ≡ true → is_star (words.Mark p) ≡ false
mark_no_star marks.Star h = differs (sym h)
mark_no_star p h = refl

head_no_star : (w : Word) → begins w ≡ true → is_star w ≡ false
head_no_star (words.Mark p) h = mark_no_star p h
head_no_star w h = refl

pub plain_value : (names known : Names) (ts rest : Tokens) (n : Node)
    → Fact (Argument places.Argument owners.Call n) names ts known rest → Fact (ValueTest n) names ts known rest
unfolding value_test
plain_value names known ts rest n inner = (
  inner.0,
  word_begins (first ts) inner.1,
  λ d room. rw (head_no_star (first ts) inner.1) (rw (inner.2 d room refl refl) refl),
)

pub splat_value : (names known : Names) (ts rest : Tokens) (n : Node) → first ts ≡ words.Mark marks.Star
    → Fact (Argument places.Argument owners.Call n) names (behind ts) known rest
    → Fact (ValueTest (outside_node outsides.SplatClause (place_at ts) n)) names ts known rest
unfolding value_test
splat_value names known ts rest n is inner =
    let one = word_taken (words.Mark marks.Star) ts is refl in
    let fewer = inner.0 in
    (omega arith, rw is refl, λ d room. rw is (rw (inner.2 d (omega arith) refl refl) refl))

pub last_value : (names known : Names) (ts rest : Tokens) (v : Node) → Fact (ValueTest v) names ts known rest
    → Fact (WhenValues (v ∷ [])) names ts known rest
last_value names known ts rest v inner =
    let fewer = inner.0 in (
      fewer,
      inner.1,
      λ d room. (
        v,
        known,
        rest,
        fewer,
        inner.2 d room,
        refl,
        λ ends n found enough. tests_step (levels d) n (found ++ v ∷ []) known rest (omega arith) ∙ rw ends refl,
      ),
    )

comma_there : (w : Word) → is_comma_word w ≡ true → is_finish w ≡ false
comma_there words.Finish h = differs (sym h)
comma_there w h = refl

-- values behind a comma
comma_step : (i : Inside) (n : ℕ) (found all : List Node) (names k known : Names) (ts mid rest : Tokens) (v : Node)
    → 0 < n → is_comma_word (first ts) ≡ true → value_test i names (behind ts) ≡ Ok (v, k, mid)
    → tests_from i (n - 1) (found ++ v ∷ []) k mid ≡ Ok (all, known, rest)
    → tests_from i n found names ts ≡ Ok (all, known, rest)
unfolding with_test
comma_step i n found all names k known ts mid rest v some comma read others = tests_step i n found names ts some
    ∙ rw comma (rw read others)

pub more_values : (names known later : Names) (ts rest more : Tokens) (v : Node) (vs : List Node)
    → Fact (ValueTest v) names ts known rest → is_comma_word (first rest) ≡ true
    → Fact (WhenValues vs) known (behind rest) later more → Fact (WhenValues (v ∷ vs)) names ts later more
more_values names known later ts rest more v vs one comma others =
    let a = one.0 in
    let b = others.0 in
    let c = word_taken (first rest) rest refl (comma_there (first rest) comma) in (
      omega arith,
      one.1,
      λ d room.
          let r = others.2 d (omega arith) in
          let shorter = r.3 in (
            v,
            known,
            rest,
            a,
            one.2 d room,
            refl,
            λ ends n found enough.
                let tail = r.6 ends (n - 1) (found ++ v ∷ []) (omega arith) in
                comma_step (levels d) n (found ++ v ∷ []) ((found ++ v ∷ []) ++ vs) known r.1 later rest r.2 more r.0
                (omega arith) comma r.4 tail
                ∙ ap (λ (all : List Node). Ok (all, later, more)) (append_assoc found (v ∷ []) vs),
          ),
    )

-- the values of a heading
pub tests_read : (i : Inside) (vs : List Node) (names known : Names) (ts rest : Tokens)
    → Reads i (WhenValues vs) names ts known rest → begins_value (first ts) ≡ true → is_comma_word (first rest) ≡ false
    → tests i names ts ≡ Ok (vs, known, rest)
unfolding tests with_test
tests_read i vs names known ts rest r begins ends =
    let last : tests_from i (length r.2 + 1) (r.0 ∷ []) r.1 r.2 ≡ Ok (vs, known, rest) =
    r.6 ends (length r.2 + 1) [] (omega arith) in
    rw begins (rw r.4 last)

clause_next : (before : SectionKind) (w : Word) → w ≡ words.Key keywords.When → takes_clause before ≡ true
    → next_section compounds.Case before w ≡ Some kinds.When
clause_next before w is h = rw is (rw h refl)

pattern_next : (before : SectionKind) (w : Word) → w ≡ words.Key keywords.In → takes_clause before ≡ true
    → next_section compounds.Case before w ≡ Some kinds.Pattern
pattern_next before w is h = rw is (rw h refl)

pub when_fact : (names known later : Names) (ts rest body more : Tokens) (vs : List Node) (n : Node)
    → first ts ≡ words.Key keywords.When → Fact (WhenValues vs) names (behind ts) known rest
    → then_at (first rest) rest ≡ Ok body
    → Fact (Statements n) known body later more → Fact (Clause (node.when_clause (nodes vs) n)) names ts later more
unfolding section
when_fact names known later ts rest body more vs n is values there inner =
    let free = then_free (first rest) rest body there in
    let less = then_within (first rest) rest body there in
    let one = word_taken (words.Key keywords.When) ts is refl in
    let a = values.0 in
    let b = inner.0 in (
      omega arith,
      refl,
      λ d room.
          let r = values.2 d (omega arith) in
          let read = tests_read (levels d) vs names known (behind ts) rest r values.1 free.1 in (
            kinds.When,
            heading kinds.When vs none n,
            refl,
            λ before takes. clause_next before (first ts) is takes,
            rw read (rw r.5 (rw there (rw (inner.2 d (omega arith)) refl))),
            refl,
            refl,
          ),
    )

pub in_fact : (names known later : Names) (ts rest body more : Tokens) (vs : List Node) (n : Node)
    → first ts ≡ words.Key keywords.In → Fact (WhenValues vs) names (behind ts) known rest
    → then_at (first rest) rest ≡ Ok body
    → Fact (Statements n) known body later more
    → Fact (Clause (node.when_clause (one (pattern_node (place_at ts) vs)) n)) names ts later more
unfolding section
in_fact names known later ts rest body more vs n is values there inner =
    let free = then_free (first rest) rest body there in
    let less = then_within (first rest) rest body there in
    let one_taken = word_taken (words.Key keywords.In) ts is refl in
    let a = values.0 in
    let b = inner.0 in (
      omega arith,
      refl,
      λ d room.
          let r = values.2 d (omega arith) in
          let read = tests_read (levels d) vs names known (behind ts) rest r values.1 free.1 in (
            kinds.Pattern,
            heading kinds.Pattern (pattern_node (place_at ts) vs ∷ []) none n,
            refl,
            λ before takes. pattern_next before (first ts) is takes,
            rw read (rw r.5 (rw there (rw (inner.2 d (omega arith)) refl))),
            refl,
            refl,
          ),
    )

else_takes : (k : SectionKind) → takes_case_else k ≡ true → takes_clause k ≡ true
else_takes kinds.When h = refl
else_takes kinds.Pattern h = refl
else_takes k h = differs (sym h)

else_next : (k : SectionKind) → takes_case_else k ≡ true
    → next_section compounds.Case k (words.Key keywords.Else) ≡ Some kinds.Else
else_next k h = rw h refl

pub last_clause : (names known : Names) (ts rest : Tokens) (w : Node) → Fact (Clause w) names ts known rest
    → Fact (Clauses (w ∷ [])) names ts known rest
last_clause names known ts rest w inner = (
  inner.0,
  refl,
  λ d room before takes.
      let r = inner.2 d room in (
        r.0,
        r.1,
        [],
        r.2,
        ap (λ (x : Node). x ∷ []) r.5,
        rw r.6 refl,
        steps_one (levels d) compounds.Case before r.0 r.1 names known ts rest (r.3 before takes) r.4 inner.0,
      ),
)

pub more_clauses : (names known later : Names) (ts rest more : Tokens) (w : Node) (ws : List Node)
    → Fact (Clause w) names ts known rest → Fact (Clauses ws) known rest later more
    → Fact (Clauses (w ∷ ws)) names ts later more
more_clauses names known later ts rest more w ws one others =
    let a = one.0 in
    let b = others.0 in (
      omega arith,
      refl,
      λ d room before takes.
          let r = one.2 d room in
          let step = steps_one (levels d) compounds.Case before r.0 r.1 names known ts rest (r.3 before takes) r.4 a in
          let o = others.2 d (omega arith) r.0 (else_takes r.0 r.2) in (
            o.0,
            r.1,
            o.1 ∷ o.2,
            o.3,
            ap (λ (x : Node). x ∷ map when_of (o.1 ∷ o.2)) r.5 ∙ ap (λ (xs : List Node). w ∷ xs) o.4,
            rw r.6 o.5,
            steps_then (levels d) compounds.Case before r.0 o.0 (r.1 ∷ []) (o.1 ∷ o.2) names known later ts rest more
                step o.6,
          ),
    )

key_subject : (k : Keyword) → (begins (words.Key k) || (is_not (words.Key k) || begins_star (words.Key k))) ≡ true
    → subject_ends (words.Key k) ≡ false
key_subject keywords.When h = differs (sym h)
key_subject keywords.In h = differs (sym h)
key_subject k h = refl

head_subject : (w : Word) → (begins w || (is_not w || begins_star w)) ≡ true → subject_ends w ≡ false
head_subject (words.Key k) h = key_subject k h
head_subject words.Newline h = differs (sym h)
head_subject words.Semicolon h = differs (sym h)
head_subject w h = refl

same_ends : (w : Word) → ends_subject w ≡ true → (subject_ends w ≡ true) × (assignment_at w ≡ None)
same_ends words.Newline h = (refl, refl)
same_ends words.Semicolon h = (refl, refl)
same_ends (words.Key keywords.When) h = (refl, refl)
same_ends (words.Key keywords.In) h = (refl, refl)
same_ends w h = differs (sym h)

pub no_subject : (names : Names) (ts : Tokens) → ends_subject (first ts) ≡ true
    → Fact (Subject None) names ts names (skip_separators ts)
no_subject names ts ends = (skipped ts, refl, λ d room. rw (same_ends (first ts) ends).0 refl)

pub with_subject : (names known : Names) (ts rest : Tokens) (n : Node)
    → Fact (Expression places.Command owners.Call n) names ts known rest → ends_subject (first rest) ≡ true
    → Fact (Subject (Some n)) names ts known (skip_separators rest)
with_subject names known ts rest n inner ends =
    let a = inner.0 in
    let b = skipped rest in (
      omega arith,
      refl,
      λ d room. rw (head_subject (first ts) inner.1)
          (rw (inner.2 d room (same_ends (first rest) ends).1) refl),
    )

subjects_last : (s : Option Node) → last_of (subjects s) ≡ s
unfolding last_of
subjects_last None = refl
subjects_last (Some n) = refl

several : (s t : SectionNode) (ss : List SectionNode) → nat_lt 1 (length (s ∷ t ∷ ss)) ≡ true
several s t ss = grind arith

case_is : (s o : Option Node) (cs : List SectionNode) (ws : List Node) (all : List SectionNode) → map when_of cs ≡ ws
    → before_part parts.Else all ≡ subject (subjects s) ∷ cs → part_body parts.Else all ≡ option_node o
    → compound_node compounds.Case all ≡ node.case_node (option_node s) (nodes ws) (option_node o)
unfolding case_node case_by case_section first_of rest_of
case_is s o cs ws all clauses before other = rw (before, other)
    (rw (subjects_last s) (ap (λ (xs : List Node). node.case_node (option_node s) (nodes xs) (option_node o)) clauses))

module _ (place : Place) (owner : DoOwner) (names : Names) (ts : Tokens) where
  pub case_fact : (known later latest : Names) (rest more last : Tokens) (s o : Option Node) (ws : List Node)
      → first ts ≡ words.Key keywords.Case → Fact (Subject s) names (behind ts) known rest
      → Fact (Clauses ws) known rest later more → Fact (Otherwise o) later more latest last
      → first last ≡ words.Key keywords.End
      → Fact (PrimaryRule place owner (node.case_node (option_node s) (nodes ws) (option_node o))) names ts latest
      (behind last)
  unfolding section
  case_fact known later latest rest more last s o ws is head clauses other ends =
      let a = word_taken (words.Key keywords.Case) ts is refl in
      let b = word_taken (words.Key keywords.End) last ends refl in
      let c = head.0 in
      let e = clauses.0 in
      let f = other.0 in
      compound_fact place owner names ts keywords.Case compounds.Case _ latest (behind last) is refl refl (omega arith)
      (λ d room.
      let r = clauses.2 d (omega arith) kinds.Subject refl in
      let cs : List SectionNode = r.1 ∷ r.2 in
      let h : SectionNode = subject (subjects s) in
      let base : all_base (h ∷ cs) ≡ true = r.5 in
      let p = parts_of parts.Else (h ∷ cs) o (base_last parts.Else (h ∷ cs) base) in
      let before : before_part parts.Else (h ∷ (cs ++ part_sections kinds.Else o)) ≡ h ∷ cs = p.0 in
      let behind_it : part_body parts.Else (h ∷ (cs ++ part_sections kinds.Else o)) ≡ option_node o = p.1 in
      let step = steps_then (levels d) compounds.Case kinds.Subject r.0 (behind_part r.0 kinds.Else o) cs
      (part_sections kinds.Else o) known later latest rest more last r.6
      (other.2 d (omega arith) compounds.Case r.0 (else_next r.0 r.3)) in
      let whole : is_whole compounds.Case (h ∷ (cs ++ part_sections kinds.Else o)) ≡ true =
      several h r.1 (r.2 ++ part_sections kinds.Else o) in (
        h ∷ (cs ++ part_sections kinds.Else o),
        sections_read (levels d) compounds.Case (behind_part r.0 kinds.Else o) h (cs ++ part_sections kinds.Else o)
            names known latest (behind ts) rest last (head.2 d room) step ends,
        whole,
        case_is s o cs ws (h ∷ (cs ++ part_sections kinds.Else o)) r.4 before behind_it,
      ))
