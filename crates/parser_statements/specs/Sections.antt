-- The sections of compound forms.
use Rattle.std.specs.Prelude.{ℕ, zero, suc, ◌+◌, Bool, true, false, if◌then◌else◌, List, [], ◌∷◌, ◌++◌, length, Option, Some, None, Ok, Err}
use Rattle.rb_syntax.specs.declared.keyword.Keyword.TheVariants as keywords
use Rattle.rb_syntax.specs.declared.outside.Outside.TheVariants as outsides
use Rattle.parser_tree.specs.Node as node
use Rattle.parser_tree.specs.Node.{Node, Nodes, one, none}
use Rattle.parser_tokens.specs.Tokens.{first, behind, place_at}
use Rattle.parser_tokens.specs.Expect.{expect, skip_separators, then_at, do_at}
use Rattle.parser_tokens.specs.Starts.{begins_value}
use Rattle.parser_tokens.specs.declared.expect.Wanted.TheVariants as wanted
use Rattle.parser_tokens.specs.declared.word.Word.{Word}
use Rattle.parser_tokens.specs.declared.word.Word.TheVariants as words
use Rattle.parser_ahead.specs.Primary.{is_comma_word, is_arrow_word}
use Rattle.parser_ahead.specs.Sections.{first_section, next_section}
use Rattle.parser_ahead.specs.declared.primary.DoOwner.TheVariants as owners
use Rattle.parser_ahead.specs.declared.primary.Place.TheVariants as places
use Rattle.parser_ahead.specs.declared.sections.Compound.{Compound}
use Rattle.parser_ahead.specs.declared.sections.SectionKind.{SectionKind}
use Rattle.parser_ahead.specs.declared.sections.SectionKind.TheVariants as kinds
use Rattle.parser_ahead.specs.declared.groups.TargetUse.TheVariants as uses
use Rattle.parser_nodes.specs.Listed.{is_empty}
use Rattle.parser_nodes.specs.Nodes.{outside_node}
use Rattle.parser_form_nodes.specs.Targets.{TargetsNode, no_targets}
use Rattle.parser_form_nodes.specs.Sections.{SectionNode, pattern_heads}
use Rattle.parser_forms.specs.Reading.{Names, Tokens, Read, Inside}
use Rattle.rb_base.specs.Result.{◌>>=◌}
use Rattle.parser_phrases.specs.Phrases.{argument}
use Rattle.parser_phrases.specs.Targets.{targets, is_star}
use Rattle.parser_statements.specs.Statements.{expression, statements}

abbrev pub heading : SectionKind → List Node → Nodes → Node → SectionNode
heading k heads target body = record { kind = k; heads = heads; target = target; body = body }

-- no subject stands behind case
abbrev pub ends_subject : Word → Bool
ends_subject words.Newline = true
ends_subject words.Semicolon = true
ends_subject (words.Key keywords.When) = true
ends_subject (words.Key keywords.In) = true
ends_subject _ = false

abbrev pub heads_of : SectionKind → ℕ → List Node → List Node
heads_of kinds.Pattern at heads = pattern_heads at heads
heads_of k at heads = heads

-- one target alone
unfoldable pub only : {A : Type 0} → List A → Option A
only [] = None
only (n ∷ []) = Some n
only (n ∷ m ∷ ns) = None

abbrev pub only_target : TargetsNode → Option Node
only_target t = only t.list.before

-- the subject of case
abbrev pub subject : List Node → SectionNode
subject heads = heading kinds.Subject heads none node.nil

-- the target of a rescue clause, which stands before these tokens
abbrev pub target_by : Option Node → Names → Tokens → Read Nodes
target_by None names ts = Err (length ts)
target_by (Some n) names ts = Ok (one n, names, ts)

module _ (inside : Inside) where
  -- the statements of a section behind its heading
  abbrev pub sectioned : SectionKind → List Node → Nodes → Names → Tokens → Read SectionNode
  sectioned k heads target names ts = statements inside names ts >>= (λ r. Ok (heading k heads target r.0, r.1, r.2))

  abbrev pub test_section : Names → Tokens → Read SectionNode
  test_section names ts =
      expression inside names ts places.Command owners.Call
      >>= (λ r. then_at (first r.2) r.2 >>= (λ rest. sectioned kinds.Test (r.0 ∷ []) none r.1 rest))

  abbrev pub loop_section : Names → Tokens → Read SectionNode
  loop_section names ts =
      expression inside names ts places.Command owners.Loop
      >>= (λ r. do_at (first r.2) r.2 >>= (λ rest. sectioned kinds.LoopTest (r.0 ∷ []) none r.1 rest))

  abbrev pub walk_items : List Node → Names → Tokens → Read SectionNode
  walk_items heads names ts =
      expression inside names ts places.Command owners.Loop
      >>= (λ r. do_at (first r.2) r.2 >>= (λ rest. sectioned kinds.Walk heads (one r.0) r.1 rest))

  -- targets, in, and what is walked over
  abbrev pub walk_section : Names → Tokens → Read SectionNode
  walk_section names ts =
      targets inside names no_targets ts uses.For >>= (λ t.
      if is_empty t.0.list.before then Err (length t.2) else
      (expect wanted.In t.2 >>= (λ rest. walk_items t.0.list.before t.1 rest)))

  -- the subject of case, or none
  abbrev pub subject_section : Names → Tokens → Read SectionNode
  subject_section names ts =
      if ends_subject (first ts) then Ok (subject [], names, skip_separators ts)
      else (expression inside names ts places.Command owners.Call >>=
      (λ r. Ok (subject (r.0 ∷ []), r.1, skip_separators r.2)))

  -- a value of when or rescue; one with a star is outside the language
  unfoldable pub value_test : Names → Tokens → Read Node
  value_test names ts =
      if is_star (first ts)
      then (argument inside names (behind ts) owners.Call >>=
      (λ r. Ok (outside_node outsides.SplatClause (place_at ts) r.0, r.1, r.2)))
      else argument inside names ts owners.Call

  -- a value behind those that were found
  unfoldable pub with_test : List Node → Names → Tokens → Read (List Node)
  with_test found names ts = value_test names ts >>= (λ r. Ok (found ++ r.0 ∷ [], r.1, r.2))

  -- at most n values behind those that were found, each behind a comma
  unfoldable pub tests_from : ℕ → List Node → Names → Tokens → Read (List Node)
  tests_from zero found names ts = Err 0
  tests_from (suc n) found names ts =
      if is_comma_word (first ts) then (with_test found names (behind ts) >>= (λ r. tests_from n r.0 r.1 r.2)) else Ok
      (found, names, ts)

  abbrev pub tests_behind : List Node → Names → Tokens → Read (List Node)
  tests_behind found names ts = tests_from (length ts + 1) found names ts

  -- the values of when or rescue
  unfoldable pub tests : Names → Tokens → Read (List Node)
  tests names ts = if begins_value (first ts) then (with_test [] names ts >>= (λ r. tests_behind r.0 r.1 r.2)) else Ok
      ([], names, ts)

  -- a clause with these values
  abbrev pub clause : SectionKind → ℕ → List Node → Names → Tokens → Read SectionNode
  clause k at found names ts = then_at (first ts) ts >>= (λ rest. sectioned k (heads_of k at found) none names rest)

  -- a clause of case
  abbrev pub when_section : SectionKind → ℕ → Names → Tokens → Read SectionNode
  when_section k at names ts = tests names ts >>=
      (λ r. if is_empty r.0 then Err (length r.2) else clause k at r.0 r.1 r.2)

  -- what the exception is assigned to, or nothing
  abbrev pub rescue_target : Names → Tokens → Read Nodes
  rescue_target names ts =
      if is_arrow_word (first ts) then (targets inside names no_targets (behind ts) uses.For >>=
      (λ t. target_by (only_target t.0) t.1 t.2))
      else Ok (none, names, ts)

  -- a rescue clause of these classes
  abbrev pub rescue_clause : List Node → Names → Tokens → Read SectionNode
  rescue_clause heads names ts =
      rescue_target names ts >>= (λ t. then_at (first t.2) t.2 >>= (λ rest. sectioned kinds.Rescue heads t.0 t.1 rest))

  -- a rescue clause
  abbrev pub rescue_section : Names → Tokens → Read SectionNode
  rescue_section names ts = tests names ts >>= (λ r. rescue_clause r.0 r.1 r.2)

  unfoldable pub section : SectionKind → ℕ → Names → Tokens → Read SectionNode
  section kinds.Test at names ts = test_section names ts
  section kinds.LoopTest at names ts = loop_section names ts
  section kinds.Walk at names ts = walk_section names ts
  section kinds.Subject at names ts = subject_section names ts
  section kinds.When at names ts = when_section kinds.When at names ts
  section kinds.Pattern at names ts = when_section kinds.Pattern at names ts
  section kinds.Rescue at names ts = rescue_section names ts
  section kinds.Plain at names ts = sectioned kinds.Plain [] none names ts
  section kinds.Else at names ts = sectioned kinds.Else [] none names ts
  section kinds.Ensure at names ts = sectioned kinds.Ensure [] none names ts

  -- a section behind those that were found
  unfoldable pub with_section : SectionKind → ℕ → List SectionNode → Names → Tokens → Read (List SectionNode)
  with_section k at found names ts = section k at names ts >>= (λ r. Ok (found ++ r.0 ∷ [], r.1, r.2))

  -- the section whose word stands at the front, behind those that were found
  abbrev pub next_sections : SectionKind → List SectionNode → Names → Tokens → Read (List SectionNode)
  next_sections k found names ts = with_section k (place_at ts) found names (behind ts)

  abbrev pub sections_turn : Option SectionKind
      → (SectionKind → List SectionNode → Names → Tokens → Read (List SectionNode)) → List SectionNode → Names → Tokens
      → Read (List SectionNode)
  sections_turn None go found names ts = Ok (found, names, ts)
  sections_turn (Some k) go found names ts = next_sections k found names ts >>= (λ r. go k r.0 r.1 r.2)

  -- at most n sections behind one of this kind and those before it
  unfoldable pub sections_from : ℕ → Compound → SectionKind → List SectionNode → Names → Tokens
      → Read (List SectionNode)
  sections_from zero compound before found names ts = Err 0
  sections_from (suc n) compound before found names ts =
      sections_turn (next_section compound before (first ts)) (sections_from n compound) found names ts

  abbrev pub sections_behind : Compound → SectionKind → List SectionNode → Names → Tokens → Read (List SectionNode)
  sections_behind compound before found names ts = sections_from (length ts + 1) compound before found names ts

  -- the sections of a form
  unfoldable pub section_list : Names → Compound → Tokens → Read (List SectionNode)
  section_list names form ts =
      with_section (first_section form) 0 [] names ts >>= (λ r. sections_behind form (first_section form) r.0 r.1 r.2)

  -- the sections of a form, to behind its end
  abbrev pub sections : Names → Compound → Tokens → Read (List SectionNode)
  sections names form ts = section_list names form ts >>= (λ r. expect wanted.End r.2 >>= (λ rest. Ok (r.0, r.1, rest)))
