-- A compound with sections is no expression.
use Rattle.std.proofs.Common.{◌≡◌, ℕ, zero, suc, ◌+◌, Bool, true, false, not, ◌&&◌, ◌||◌, List, [], ◌∷◌, ◌++◌, length, map, Option, Some, None, Ok, if◌then◌else◌, refl, sym}
use Rattle.std.proofs.lemmas.Bool.{and_parts}
use Rattle.rb_syntax.specs.declared.keyword.Keyword.{Keyword}
use Rattle.rb_syntax.specs.declared.keyword.Keyword.TheVariants as keywords
use Rattle.parser_tree.specs.Node as node
use Rattle.parser_tree.specs.Node.{Node, Nodes, nodes, none}
use Rattle.parser_tokens.specs.Tokens.{first, behind, place_at}
use Rattle.parser_tokens.specs.Expect.{expect, do_at, then_at, skip_separators}
use Rattle.parser_tokens.specs.declared.expect.Wanted.TheVariants as wanted
use Rattle.parser_tokens.specs.declared.word.Word.{Word}
use Rattle.parser_tokens.specs.declared.word.Word.TheVariants as words
use Rattle.parser_ahead.specs.Sections.{first_section, takes_rescue, takes_ensure, takes_clause, takes_case_else, takes_else, when, next_in_body, next_in_case, next_in_if, next_in_unless, next_of, next_section}
use Rattle.parser_ahead.specs.declared.groups.TargetUse.TheVariants as uses
use Rattle.parser_ahead.specs.declared.primary.DoOwner.TheVariants as owners
use Rattle.parser_ahead.specs.declared.primary.Place.TheVariants as places
use Rattle.parser_ahead.specs.declared.sections.Compound.{Compound}
use Rattle.parser_ahead.specs.declared.sections.Compound.TheVariants as compounds
use Rattle.parser_ahead.specs.declared.sections.SectionKind.{SectionKind}
use Rattle.parser_ahead.specs.declared.sections.SectionKind.TheVariants as kinds
use Rattle.parser_nodes.specs.Listed.{is_empty}
use Rattle.parser_form_nodes.specs.declared.sections.LastPart.TheVariants as parts
use Rattle.parser_form_nodes.specs.Sections.{SectionNode, is_part, last_of, before_last, has_part, before_part, part_body, branch_of, if_node, unless_section, unless_by, unless_node, loop_section as loop_of, loop_by, loop_node, for_section, for_by, for_node, first_of, rest_of, case_section, case_by, case_node, rescued_body, compound_node}
use Rattle.parser_form_nodes.specs.Targets.{no_targets}
use Rattle.parser_phrases.specs.Targets.{targets}
use Rattle.parser_statements.specs.Sections.{heading, ends_subject, sectioned, tests, when_section, rescue_target, section, with_section, sections_turn, sections_from, section_list, sections}
use Rattle.parser_statements.specs.Statements.{expression, statement_list, statements}
use Rattle.parser_forms.specs.Reading.{Names, Tokens, Inside}
use Rattle.parser_laws.specs.Expressions.{is_bare, is_none, is_other, is_expression}
use Rattle.parser_laws.proofs.Results.{clash, differs, and_false, both, Always, always_bind, always_after, always_ok, always_error, always_if}

-- a section that is no else
abbrev starts : SectionNode → Bool
starts s = not (is_part parts.Else s.kind)

abbrev opens : List SectionNode → Bool
opens [] = false
opens (s ∷ ss) = starts s

opens_more : (found : List SectionNode) (s : SectionNode) → opens found ≡ true → opens (found ++ s ∷ []) ≡ true
opens_more [] s h = clash false h refl
opens_more (t ∷ ts) s h = h

abbrev is_filled : {A : Type 0} → List A → Bool
is_filled [] = false
is_filled (x ∷ xs) = true

filled : (ss : List SectionNode) → opens ss ≡ true → is_filled ss ≡ true
filled [] h = h
filled (s ∷ ss) h = refl

alone_stays : (s : SectionNode) (b : Bool) → is_part parts.Else s.kind ≡ b → not b ≡ true
    → is_filled (if b then [] else (s ∷ [])) ≡ true
alone_stays s true there h = h
alone_stays s false there h = refl

many_stay : (s t : SectionNode) (ss : List SectionNode) (b : Bool)
    → is_filled (if b then before_last (s ∷ t ∷ ss) else (s ∷ t ∷ ss)) ≡ true
unfolding before_last
many_stay s t ss true = refl
many_stay s t ss false = refl

filled_before : (ss : List SectionNode) → opens ss ≡ true → is_filled (before_part parts.Else ss) ≡ true
unfolding before_part before_last last_of
filled_before [] h = clash false h refl
filled_before (s ∷ []) h = alone_stays s (is_part parts.Else s.kind) refl h
filled_before (s ∷ t ∷ ss) h = many_stay s t ss (has_part parts.Else (last_of (t ∷ ss)))

abbrev pub is_group : Node → Bool
is_group n = not (is_bare n)

-- each section has statements
abbrev grouped : List SectionNode → Bool
grouped [] = true
grouped (s ∷ ss) = is_group s.body && grouped ss

grouped_more : (found : List SectionNode) (s : SectionNode) → grouped found ≡ true → is_group s.body ≡ true
    → grouped (found ++ s ∷ []) ≡ true
grouped_more [] s h g = both (is_group s.body) true g refl
grouped_more (t ∷ ts) s h g = let p = and_parts (is_group t.body) (grouped ts) h in
    both (is_group t.body) _ p.0 (grouped_more ts s p.1 g)

grouped_last : (ss : List SectionNode) → grouped ss ≡ true → grouped (before_last ss) ≡ true
unfolding before_last
grouped_last [] h = refl
grouped_last (s ∷ []) h = refl
grouped_last (s ∷ t ∷ ss) h = let p = and_parts (is_group s.body) (grouped (t ∷ ss)) h in
    both (is_group s.body) _ p.0 (grouped_last (t ∷ ss) p.1)

grouped_before : (ss : List SectionNode) → grouped ss ≡ true → grouped (before_part parts.Else ss) ≡ true
unfolding before_part
grouped_before ss h = by_part (has_part parts.Else (last_of ss))
  where
    by_part : (b : Bool) → grouped (if b then before_last ss else ss) ≡ true
    by_part true = grouped_last ss h
    by_part false = h

pub not_bare : (n : Node) → is_group n ≡ true → is_bare n ≡ false
not_bare n h = by_test (is_bare n) h
  where
    by_test : (b : Bool) → not b ≡ true → b ≡ false
    by_test true g = sym g
    by_test false g = refl

branches_none : (ss : List SectionNode) (o : Nodes) → grouped ss ≡ true
    → is_expression (node.if_node (nodes (map branch_of ss)) o) ≡ false
unfolding branch_of
branches_none [] o h = refl
branches_none (s ∷ ss) o h =
    let bare = not_bare s.body (and_parts (is_group s.body) (grouped ss) h).0 in
    rw bare (and_false (is_none (nodes (map branch_of ss)) && is_other o))

unless_none : (ss : List SectionNode) (o : Nodes) → is_filled ss ≡ true → grouped ss ≡ true
    → is_expression (unless_by (last_of ss) o) ≡ false
unfolding last_of unless_by unless_section
unless_none [] o h g = clash false h refl
unless_none (s ∷ []) o h g = let bare = not_bare s.body (and_parts (is_group s.body) true g).0 in rw bare refl
unless_none (s ∷ t ∷ ss) o h g = unless_none (t ∷ ss) o refl (and_parts (is_group s.body) (grouped (t ∷ ss)) g).1

loop_none : (until : Bool) (ss : List SectionNode) → is_filled ss ≡ true → grouped ss ≡ true
    → is_expression (loop_by until (last_of ss)) ≡ false
unfolding last_of loop_by loop_of
loop_none until [] h g = clash false h refl
loop_none until (s ∷ []) h g = let bare = not_bare s.body (and_parts (is_group s.body) true g).0 in rw bare refl
loop_none until (s ∷ t ∷ ss) h g = loop_none until (t ∷ ss) refl (and_parts (is_group s.body) (grouped (t ∷ ss)) g).1

for_none : (ss : List SectionNode) → is_filled ss ≡ true → is_expression (for_by (last_of ss)) ≡ false
unfolding last_of for_by for_section
for_none [] h = clash false h refl
for_none (s ∷ []) h = refl
for_none (s ∷ t ∷ ss) h = for_none (t ∷ ss) refl

case_none : (ss : List SectionNode) (rest : List SectionNode) (o : Nodes) → is_filled ss ≡ true
    → is_expression (case_by (first_of ss) rest o) ≡ false
unfolding first_of case_by case_section
case_none [] rest o h = clash false h refl
case_none (s ∷ ss) rest o h = refl

abbrev is_case : Compound → Bool
is_case compounds.Case = true
is_case _ = false

-- the first section is no else, and those of all forms but case have statements
abbrev kept : Compound → List SectionNode → Bool
kept compound ss = opens ss && (is_case compound || grouped ss)

kept_opens : (compound : Compound) (ss : List SectionNode) → kept compound ss ≡ true → opens ss ≡ true
kept_opens compound ss h = (and_parts (opens ss) (is_case compound || grouped ss) h).0

compound_none : (compound : Compound) (ss : List SectionNode) → kept compound ss ≡ true
    → is_expression (compound_node compound ss) ≡ false
unfolding if_node unless_node loop_node for_node case_node rescued_body
compound_none compounds.If ss h = branches_none (before_part parts.Else ss) (part_body parts.Else ss)
    (grouped_before ss (and_parts (opens ss) (grouped ss) h).1)
compound_none compounds.Unless ss h =
    unless_none (before_part parts.Else ss) (part_body parts.Else ss)
    (filled_before ss (kept_opens compounds.Unless ss h))
    (grouped_before ss (and_parts (opens ss) (grouped ss) h).1)
compound_none compounds.While ss h = loop_none false ss (filled ss (kept_opens compounds.While ss h))
    (and_parts (opens ss) (grouped ss) h).1
compound_none compounds.Until ss h = loop_none true ss (filled ss (kept_opens compounds.Until ss h))
    (and_parts (opens ss) (grouped ss) h).1
compound_none compounds.For ss h = for_none ss (filled ss (kept_opens compounds.For ss h))
compound_none compounds.Case ss h = case_none (before_part parts.Else ss) (rest_of (before_part parts.Else ss))
    (part_body parts.Else ss) (filled_before ss (kept_opens compounds.Case ss h))
compound_none compounds.Body ss h = refl

abbrev is_subject : SectionKind → Bool
is_subject kinds.Subject = true
is_subject _ = false

abbrev is_some_subject : Option SectionKind → Bool
is_some_subject None = false
is_some_subject (Some k) = is_subject k

when_none : (b : Bool) (k : SectionKind) → is_subject k ≡ false → is_some_subject (when b k) ≡ false
when_none true k h = h
when_none false k h = refl

if_key : (before : SectionKind) (k : Keyword) → is_some_subject (next_in_if before k) ≡ false
if_key before keywords.Elsif = when_none (takes_else before) kinds.Test refl
if_key before keywords.Else = when_none (takes_else before) kinds.Else refl
if_key before k = refl

unless_key : (before : SectionKind) (k : Keyword) → is_some_subject (next_in_unless before k) ≡ false
unless_key before keywords.Else = when_none (takes_else before) kinds.Else refl
unless_key before k = refl

case_key : (before : SectionKind) (k : Keyword) → is_some_subject (next_in_case before k) ≡ false
case_key before keywords.When = when_none (takes_clause before) kinds.When refl
case_key before keywords.In = when_none (takes_clause before) kinds.Pattern refl
case_key before keywords.Else = when_none (takes_case_else before) kinds.Else refl
case_key before k = refl

body_key : (before : SectionKind) (k : Keyword) → is_some_subject (next_in_body before k) ≡ false
body_key before keywords.Rescue = when_none (takes_rescue before) kinds.Rescue refl
body_key before keywords.Else = when_none (takes_rescue before) kinds.Else refl
body_key before keywords.Ensure = when_none (takes_ensure before) kinds.Ensure refl
body_key before k = refl

next_key : (compound : Compound) (before : SectionKind) (k : Keyword)
    → is_some_subject (next_of compound before k) ≡ false
next_key compounds.If before k = if_key before k
next_key compounds.Unless before k = unless_key before k
next_key compounds.Case before k = case_key before k
next_key compounds.Body before k = body_key before k
next_key compounds.While before k = refl
next_key compounds.Until before k = refl
next_key compounds.For before k = refl

-- no subject stands behind another section
next_none : (compound : Compound) (before : SectionKind) (w : Word)
    → is_some_subject (next_section compound before w) ≡ false
next_none compound before (words.Key k) = next_key compound before k
next_none compound before w = refl

-- a section has statements, and is an else only where its word is
abbrev made : SectionKind → SectionNode → Bool
made k s = is_group s.body && (is_part parts.Else k || not (is_part parts.Else s.kind))

or_not : (b : Bool) → (b || not b) ≡ true
or_not true = refl
or_not false = refl

or_true : (a b : Bool) → b ≡ true → (a || b) ≡ true
or_true true b h = refl
or_true false b h = h

or_more : (a b c : Bool) → (b ≡ true → c ≡ true) → (a || b) ≡ true → (a || c) ≡ true
or_more true b c f h = refl
or_more false b c f h = f h

or_false : (a b : Bool) → a ≡ false → (a || b) ≡ true → b ≡ true
or_false true b f h = differs f
or_false false b f h = h

first_kept : (compound : Compound) (k : SectionKind) (s : SectionNode) → is_part parts.Else k ≡ false → made k s ≡ true
    → kept compound (s ∷ []) ≡ true
first_kept compound k s other h =
    let p = and_parts (is_group s.body) _ h in
    both (starts s) _ (or_false (is_part parts.Else k) (starts s) other p.1)
    (or_true (is_case compound) _ (both (is_group s.body) true p.0 refl))

more_kept : (compound : Compound) (k : SectionKind) (found : List SectionNode) (s : SectionNode)
    → kept compound found ≡ true → made k s ≡ true → kept compound (found ++ s ∷ []) ≡ true
more_kept compound k found s h m =
    let p = and_parts (opens found) (is_case compound || grouped found) h in
    let group = (and_parts (is_group s.body) _ m).0 in
    both (opens (found ++ s ∷ [])) _ (opens_more found s p.0)
    (or_more (is_case compound) (grouped found) (grouped (found ++ s ∷ [])) (λ g. grouped_more found s g group) p.1)

module _ (i : Inside) where
  pub statements_group : (names : Names) (ts : Tokens) → Always is_group (statements i names ts)
  unfolding statements
  statements_group names ts = always_bind is_group (statement_list i names (skip_separators ts)) _
      (λ r. always_ok is_group (node.statements (nodes r.0)) r.1 r.2 refl)

  sectioned_made : (k : SectionKind) (heads : List Node) (target : Nodes) (names : Names) (ts : Tokens)
      → Always (made k) (sectioned i k heads target names ts)
  sectioned_made k heads target names ts =
      always_after (made k) (statements i names ts) _ (λ n l m h.
      always_ok (made k) (heading k heads target n) l m
      (both (is_group n) _ (statements_group names ts n l m h) (or_not (is_part parts.Else k))))

  when_made : (k : SectionKind) (at : ℕ) (names : Names) (ts : Tokens) → Always (made k) (when_section i k at names ts)
  when_made k at names ts =
      always_bind (made k) (tests i names ts) _
      (λ r. always_if (made k) (is_empty r.0) _ _ (always_error (made k) (length r.2))
      (always_bind (made k) (then_at (first r.2) r.2) _ (λ rest. sectioned_made k _ none r.1 rest)))

  section_made : (k : SectionKind) (at : ℕ) (names : Names) (ts : Tokens) → is_subject k ≡ false
      → Always (made k) (section i k at names ts)
  unfolding section
  section_made kinds.Test at names ts h =
      always_bind (made kinds.Test) (expression i names ts places.Command owners.Call) _ (λ r.
      always_bind (made kinds.Test) (then_at (first r.2) r.2) _ (λ rest. sectioned_made kinds.Test _ none r.1 rest))
  section_made kinds.LoopTest at names ts h =
      always_bind (made kinds.LoopTest) (expression i names ts places.Command owners.Loop) _ (λ r.
      always_bind (made kinds.LoopTest) (do_at (first r.2) r.2) _
      (λ rest. sectioned_made kinds.LoopTest _ none r.1 rest))
  section_made kinds.Walk at names ts h =
      always_bind (made kinds.Walk) (targets i names no_targets ts uses.For) _
      (λ t. always_if (made kinds.Walk) (is_empty t.0.list.before) _ _ (always_error (made kinds.Walk) (length t.2))
      (always_bind (made kinds.Walk) (expect wanted.In t.2) _ (λ rest.
      always_bind (made kinds.Walk) (expression i t.1 rest places.Command owners.Loop) _
      (λ r. always_bind (made kinds.Walk) (do_at (first r.2) r.2) _ (λ m. sectioned_made kinds.Walk _ _ r.1 m)))))
  section_made kinds.Subject at names ts h = differs h
  section_made kinds.When at names ts h = when_made kinds.When at names ts
  section_made kinds.Pattern at names ts h = when_made kinds.Pattern at names ts
  section_made kinds.Rescue at names ts h =
      always_bind (made kinds.Rescue) (tests i names ts) _
      (λ r. always_bind (made kinds.Rescue) (rescue_target i r.1 r.2) _ (λ t.
      always_bind (made kinds.Rescue) (then_at (first t.2) t.2) _ (λ rest. sectioned_made kinds.Rescue _ _ t.1 rest)))
  section_made kinds.Plain at names ts h = sectioned_made kinds.Plain [] none names ts
  section_made kinds.Else at names ts h = sectioned_made kinds.Else [] none names ts
  section_made kinds.Ensure at names ts h = sectioned_made kinds.Ensure [] none names ts

  -- the first section alone
  abbrev alone : Compound → SectionNode → Bool
  alone compound s = kept compound (s ∷ [])

  first_alone : (compound : Compound) (k : SectionKind) (names : Names) (ts : Tokens) → is_part parts.Else k ≡ false
      → is_subject k ≡ false → Always (alone compound) (section i k 0 names ts)
  first_alone compound k names ts other plain s known rest h =
      first_kept compound k s other (section_made k 0 names ts plain s known rest h)

  subject_alone : (names : Names) (ts : Tokens) → Always (alone compounds.Case) (section i kinds.Subject 0 names ts)
  unfolding section is_part
  subject_alone names ts =
      always_if (alone compounds.Case) (ends_subject (first ts)) _ _
      (always_ok (alone compounds.Case) _ names (skip_separators ts) refl)
      (always_bind (alone compounds.Case) (expression i names ts places.Command owners.Call) _
      (λ r. always_ok (alone compounds.Case) _ r.1 (skip_separators r.2) refl))

  section_alone : (compound : Compound) (names : Names) (ts : Tokens)
      → Always (alone compound) (section i (first_section compound) 0 names ts)
  unfolding is_part
  section_alone compounds.If names ts = first_alone compounds.If kinds.Test names ts refl refl
  section_alone compounds.Unless names ts = first_alone compounds.Unless kinds.Test names ts refl refl
  section_alone compounds.While names ts = first_alone compounds.While kinds.LoopTest names ts refl refl
  section_alone compounds.Until names ts = first_alone compounds.Until kinds.LoopTest names ts refl refl
  section_alone compounds.For names ts = first_alone compounds.For kinds.Walk names ts refl refl
  section_alone compounds.Case names ts = subject_alone names ts
  section_alone compounds.Body names ts = first_alone compounds.Body kinds.Plain names ts refl refl

  turn_kept : (n : ℕ) (compound : Compound) (k : Option SectionKind) (found : List SectionNode) (names : Names)
      (ts : Tokens) → is_some_subject k ≡ false
      → ((j : SectionKind) (more : List SectionNode) (l : Names) (m : Tokens) → kept compound more ≡ true
      → Always (kept compound) (sections_from i n compound j more l m)) → kept compound found ≡ true
      → Always (kept compound) (sections_turn i k (sections_from i n compound) found names ts)
  unfolding with_section
  turn_kept n compound None found names ts plain again h = always_ok (kept compound) found names ts h
  turn_kept n compound (Some k) found names ts plain again h =
      always_after (kept compound) (with_section i k (place_at ts) found names (behind ts)) _ (λ x l m e.
      again k x l m (always_after (kept compound) (section i k (place_at ts) names (behind ts)) _ (λ s p q f.
      always_ok (kept compound) _ p q (more_kept compound k found s h
      (section_made k (place_at ts) names (behind ts) plain s p q f))) x l m e))

  from_kept : (n : ℕ) (compound : Compound) (before : SectionKind) (found : List SectionNode) (names : Names)
      (ts : Tokens) → kept compound found ≡ true
      → Always (kept compound) (sections_from i n compound before found names ts)
  unfolding sections_from
  from_kept zero compound before found names ts h = always_error (kept compound) 0
  from_kept (suc n) compound before found names ts h =
      turn_kept n compound (next_section compound before (first ts)) found names ts
      (next_none compound before (first ts)) (λ j more l m e. from_kept n compound j more l m e) h

  list_kept : (names : Names) (compound : Compound) (ts : Tokens)
      → Always (kept compound) (section_list i names compound ts)
  unfolding section_list with_section
  list_kept names compound ts =
      always_after (kept compound) (with_section i (first_section compound) 0 [] names ts) _ (λ x l m e.
      from_kept (length m + 1) compound (first_section compound) x l m
      (always_after (kept compound) (section i (first_section compound) 0 names ts) _
      (λ s k q f. always_ok (kept compound) _ k q (section_alone compound names ts s k q f)) x l m e))

  -- the sections that are read make no expression
  pub sections_none : (names known : Names) (ts rest : Tokens) (compound : Compound) (ss : List SectionNode)
      → sections i names compound ts ≡ Ok (ss, known, rest) → is_expression (compound_node compound ss) ≡ false
  sections_none names known ts rest compound ss h =
      compound_none compound ss (always_after (kept compound) (section_list i names compound ts) _ (λ x k m e.
      always_bind (kept compound) (expect wanted.End m) _
      (λ last. always_ok (kept compound) x k last (list_kept names compound ts x k m e))) ss known rest h)
