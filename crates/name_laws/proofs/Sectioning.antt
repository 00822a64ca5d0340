-- The sections of compound forms name known locals.
use Rattle.std.proofs.Common.{ℕ, zero, suc, ◌+◌, List, [], ◌∷◌, ◌++◌, length, Option, Some, None}
use Rattle.parser_tree.specs.Node.{Node, Nodes, one, none}
use Rattle.parser_tokens.specs.Tokens.{first, behind, place_at}
use Rattle.parser_tokens.specs.Expect.{expect, then_at, do_at}
use Rattle.parser_tokens.specs.Starts.{begins_value}
use Rattle.parser_tokens.specs.declared.expect.Wanted.TheVariants as wanted
use Rattle.parser_ahead.specs.Primary.{is_comma_word, is_arrow_word}
use Rattle.parser_ahead.specs.Sections.{first_section, next_section}
use Rattle.parser_ahead.specs.declared.primary.DoOwner.TheVariants as owners
use Rattle.parser_ahead.specs.declared.primary.Place.TheVariants as places
use Rattle.parser_ahead.specs.declared.sections.Compound.{Compound}
use Rattle.parser_ahead.specs.declared.sections.SectionKind.{SectionKind}
use Rattle.parser_ahead.specs.declared.sections.SectionKind.TheVariants as kinds
use Rattle.parser_ahead.specs.declared.groups.TargetUse.TheVariants as uses
use Rattle.parser_nodes.specs.Listed.{is_empty}
use Rattle.parser_form_nodes.specs.Targets.{no_targets}
use Rattle.parser_form_nodes.specs.Sections.{SectionNode}
use Rattle.parser_forms.specs.Reading.{Names, Tokens, Read, Inside}
use Rattle.parser_phrases.specs.Phrases.{argument}
use Rattle.parser_phrases.specs.Targets.{targets, is_star}
use Rattle.parser_statements.specs.Statements.{expression, statements}
use Rattle.parser_statements.specs.Sections.{ends_subject, heads_of, only, only_target, target_by, sectioned, test_section, loop_section, walk_items, walk_section, subject_section, value_test, with_test, tests_from, tests, clause, when_section, rescue_target, rescue_clause, rescue_section, section, with_section, next_sections, sections_turn, sections_from, section_list, sections}
use Rattle.name_laws.proofs.Growing.{same, Knows, KnowsAll, KnowsEach, all_still, each_still, each_more}
use Rattle.name_laws.proofs.Keeping.{Keeps, step, skip, either, KnowsTargets, KnowsSection, KnowsSections, sections_still, KeepsNames}
use Rattle.name_laws.proofs.Compounds.{MayKnow}
use Rattle.name_laws.proofs.Targeting.{targets_keep}
use Rattle.name_laws.proofs.Phrasing.{argument_keeps}
use Rattle.name_laws.proofs.Stating.{expression_keeps, statements_keep}

heads_known : (names : Names) (s : SectionKind) (at : ℕ) (heads : List Node) → KnowsEach names heads
    → KnowsEach names (heads_of s at heads)
heads_known names kinds.Pattern at heads h = (tt, tt)
heads_known names s at heads h = h

only_known : (names : Names) (ns : List Node) → KnowsEach names ns → MayKnow names (only ns)
unfolding only
only_known names [] h = tt
only_known names (n ∷ []) h = h.0
only_known names (n ∷ m ∷ ns) h = tt

target_by_keeps : (n : Option Node) (names : Names) (ts : Tokens) → MayKnow names n
    → Keeps KnowsAll names (target_by n names ts)
target_by_keeps None names ts h = tt
target_by_keeps (Some n) names ts h = (same names, (h, tt))

sections_more : (names : Names) (ss : List SectionNode) (s : SectionNode) → KnowsSections names ss
    → KnowsSection names s → KnowsSections names (ss ++ s ∷ [])
sections_more names [] s h k = (k, tt)
sections_more names (t ∷ ss) s h k = (h.0, sections_more names ss s h.1 k)

module _ (i : Inside) (k : KeepsNames i) where
  sectioned_keeps : (s : SectionKind) (heads : List Node) (target : Nodes) (names : Names) (ts : Tokens)
      → KnowsEach names heads → KnowsAll names target → Keeps KnowsSection names (sectioned i s heads target names ts)
  sectioned_keeps s heads target names ts h t =
      step Knows KnowsSection names (statements i names ts) _ (statements_keep i k names ts)
      (λ r g n. (same r.1, (each_still names r.1 heads g h, (all_still names r.1 target g t, n))))

  test_keeps : (names : Names) (ts : Tokens) → Keeps KnowsSection names (test_section i names ts)
  test_keeps names ts =
      step Knows KnowsSection names (expression i names ts places.Command owners.Call) _
      (expression_keeps i k names ts places.Command owners.Call) (λ r g h.
      skip KnowsSection r.1 (then_at (first r.2) r.2) _
      (λ rest. sectioned_keeps kinds.Test (r.0 ∷ []) none r.1 rest (h, tt) tt))

  loop_keeps : (names : Names) (ts : Tokens) → Keeps KnowsSection names (loop_section i names ts)
  loop_keeps names ts =
      step Knows KnowsSection names (expression i names ts places.Command owners.Loop) _
      (expression_keeps i k names ts places.Command owners.Loop) (λ r g h.
      skip KnowsSection r.1 (do_at (first r.2) r.2) _
      (λ rest. sectioned_keeps kinds.LoopTest (r.0 ∷ []) none r.1 rest (h, tt) tt))

  items_keep : (heads : List Node) (names : Names) (ts : Tokens) → KnowsEach names heads
      → Keeps KnowsSection names (walk_items i heads names ts)
  items_keep heads names ts f =
      step Knows KnowsSection names (expression i names ts places.Command owners.Loop) _
      (expression_keeps i k names ts places.Command owners.Loop) (λ r g h.
      skip KnowsSection r.1 (do_at (first r.2) r.2) _
      (λ rest. sectioned_keeps kinds.Walk heads (one r.0) r.1 rest (each_still names r.1 heads g f) (h, tt)))

  walk_keeps : (names : Names) (ts : Tokens) → Keeps KnowsSection names (walk_section i names ts)
  walk_keeps names ts =
      step KnowsTargets KnowsSection names (targets i names no_targets ts uses.For) _
      (targets_keep i k names no_targets ts uses.For (tt, (tt, tt))) (λ t g h.
      either KnowsSection t.1 (is_empty t.0.list.before) _ _ tt
      (skip KnowsSection t.1 (expect wanted.In t.2) _ (λ rest. items_keep t.0.list.before t.1 rest h.0)))

  subject_keeps : (names : Names) (ts : Tokens) → Keeps KnowsSection names (subject_section i names ts)
  subject_keeps names ts =
      either KnowsSection names (ends_subject (first ts)) _ _ (same names, (tt, (tt, tt)))
      (step Knows KnowsSection names (expression i names ts places.Command owners.Call) _
      (expression_keeps i k names ts places.Command owners.Call) (λ r g h. (same r.1, ((h, tt), (tt, tt)))))

  value_keeps : (names : Names) (ts : Tokens) → Keeps Knows names (value_test i names ts)
  unfolding value_test
  value_keeps names ts =
      either Knows names (is_star (first ts)) _ _
      (step Knows Knows names (argument i names (behind ts) owners.Call) _
      (argument_keeps i k names (behind ts) owners.Call) (λ r g h. (same r.1, tt)))
      (argument_keeps i k names ts owners.Call)

  with_test_keeps : (found : List Node) (names : Names) (ts : Tokens) → KnowsEach names found
      → Keeps KnowsEach names (with_test i found names ts)
  unfolding with_test
  with_test_keeps found names ts f =
      step Knows KnowsEach names (value_test i names ts) _ (value_keeps names ts)
      (λ r g h. (same r.1, each_more r.1 found r.0 (each_still names r.1 found g f) h))

  tests_from_keep : (n : ℕ) (found : List Node) (names : Names) (ts : Tokens) → KnowsEach names found
      → Keeps KnowsEach names (tests_from i n found names ts)
  unfolding tests_from
  tests_from_keep zero found names ts f = tt
  tests_from_keep (suc n) found names ts f =
      either KnowsEach names (is_comma_word (first ts)) _ _
      (step KnowsEach KnowsEach names (with_test i found names (behind ts)) _
      (with_test_keeps found names (behind ts) f) (λ r g h. tests_from_keep n r.0 r.1 r.2 h)) (same names, f)

  tests_keep : (names : Names) (ts : Tokens) → Keeps KnowsEach names (tests i names ts)
  unfolding tests
  tests_keep names ts =
      either KnowsEach names (begins_value (first ts)) _ _
      (step KnowsEach KnowsEach names (with_test i [] names ts) _ (with_test_keeps [] names ts tt)
      (λ r g h. tests_from_keep (length r.2 + 1) r.0 r.1 r.2 h)) (same names, tt)

  clause_keeps : (s : SectionKind) (at : ℕ) (found : List Node) (names : Names) (ts : Tokens) → KnowsEach names found
      → Keeps KnowsSection names (clause i s at found names ts)
  clause_keeps s at found names ts f =
      skip KnowsSection names (then_at (first ts) ts) _
      (λ rest. sectioned_keeps s (heads_of s at found) none names rest (heads_known names s at found f) tt)

  when_keeps : (s : SectionKind) (at : ℕ) (names : Names) (ts : Tokens)
      → Keeps KnowsSection names (when_section i s at names ts)
  when_keeps s at names ts =
      step KnowsEach KnowsSection names (tests i names ts) _ (tests_keep names ts)
      (λ r g h. either KnowsSection r.1 (is_empty r.0) _ _ tt (clause_keeps s at r.0 r.1 r.2 h))

  rescue_target_keeps : (names : Names) (ts : Tokens) → Keeps KnowsAll names (rescue_target i names ts)
  rescue_target_keeps names ts =
      either KnowsAll names (is_arrow_word (first ts)) _ _
      (step KnowsTargets KnowsAll names (targets i names no_targets (behind ts) uses.For) _
      (targets_keep i k names no_targets (behind ts) uses.For (tt, (tt, tt)))
      (λ t g h. target_by_keeps (only_target t.0) t.1 t.2 (only_known t.1 t.0.list.before h.0))) (same names, tt)

  clause_of_keeps : (heads : List Node) (names : Names) (ts : Tokens) → KnowsEach names heads
      → Keeps KnowsSection names (rescue_clause i heads names ts)
  clause_of_keeps heads names ts f =
      step KnowsAll KnowsSection names (rescue_target i names ts) _ (rescue_target_keeps names ts) (λ t g h.
      skip KnowsSection t.1 (then_at (first t.2) t.2) _
      (λ rest. sectioned_keeps kinds.Rescue heads t.0 t.1 rest (each_still names t.1 heads g f) h))

  rescue_keeps : (names : Names) (ts : Tokens) → Keeps KnowsSection names (rescue_section i names ts)
  rescue_keeps names ts =
      step KnowsEach KnowsSection names (tests i names ts) _ (tests_keep names ts)
      (λ r g h. clause_of_keeps r.0 r.1 r.2 h)

  section_keeps : (s : SectionKind) (at : ℕ) (names : Names) (ts : Tokens)
      → Keeps KnowsSection names (section i s at names ts)
  unfolding section
  section_keeps kinds.Test at names ts = test_keeps names ts
  section_keeps kinds.LoopTest at names ts = loop_keeps names ts
  section_keeps kinds.Walk at names ts = walk_keeps names ts
  section_keeps kinds.Subject at names ts = subject_keeps names ts
  section_keeps kinds.When at names ts = when_keeps kinds.When at names ts
  section_keeps kinds.Pattern at names ts = when_keeps kinds.Pattern at names ts
  section_keeps kinds.Rescue at names ts = rescue_keeps names ts
  section_keeps kinds.Plain at names ts = sectioned_keeps kinds.Plain [] none names ts tt tt
  section_keeps kinds.Else at names ts = sectioned_keeps kinds.Else [] none names ts tt tt
  section_keeps kinds.Ensure at names ts = sectioned_keeps kinds.Ensure [] none names ts tt tt

  with_keeps : (s : SectionKind) (at : ℕ) (found : List SectionNode) (names : Names) (ts : Tokens)
      → KnowsSections names found → Keeps KnowsSections names (with_section i s at found names ts)
  unfolding with_section
  with_keeps s at found names ts f =
      step KnowsSection KnowsSections names (section i s at names ts) _ (section_keeps s at names ts)
      (λ r g h. (same r.1, sections_more r.1 found r.0 (sections_still names r.1 found g f) h))

  turn_keeps : (s : Option SectionKind) (go : SectionKind → List SectionNode → Names → Tokens → Read (List SectionNode))
      (found : List SectionNode) (names : Names) (ts : Tokens) → KnowsSections names found
      → ((t : SectionKind) (ss : List SectionNode) (known : Names) (rest : Tokens) → KnowsSections known ss
      → Keeps KnowsSections known (go t ss known rest)) → Keeps KnowsSections names
      (sections_turn i s go found names ts)
  turn_keeps None go found names ts f h = (same names, f)
  turn_keeps (Some s) go found names ts f h =
      step KnowsSections KnowsSections names (next_sections i s found names ts) _
      (with_keeps s (place_at ts) found names (behind ts) f) (λ r g n. h s r.0 r.1 r.2 n)

  from_keeps : (n : ℕ) (c : Compound) (before : SectionKind) (found : List SectionNode) (names : Names) (ts : Tokens)
      → KnowsSections names found → Keeps KnowsSections names (sections_from i n c before found names ts)
  unfolding sections_from
  from_keeps zero c before found names ts f = tt
  from_keeps (suc n) c before found names ts f =
      turn_keeps (next_section c before (first ts)) (sections_from i n c) found names ts f
      (λ t ss known rest h. from_keeps n c t ss known rest h)

  list_keeps : (names : Names) (c : Compound) (ts : Tokens) → Keeps KnowsSections names (section_list i names c ts)
  unfolding section_list
  list_keeps names c ts =
      step KnowsSections KnowsSections names (with_section i (first_section c) 0 [] names ts) _
      (with_keeps (first_section c) 0 [] names ts tt)
      (λ r g h. from_keeps (length r.2 + 1) c (first_section c) r.0 r.1 r.2 h)

  pub sections_keep : (names : Names) (c : Compound) (ts : Tokens) → Keeps KnowsSections names (sections i names c ts)
  sections_keep names c ts =
      step KnowsSections KnowsSections names (section_list i names c ts) _ (list_keeps names c ts) (λ r g h.
      skip KnowsSections r.1 (expect wanted.End r.2) _ (λ rest. (same r.1, h)))
