-- The loops of lists, statements and sections, a turn at a time.
use Rattle.std.proofs.Common.{◌≡◌, ℕ, zero, suc, ◌-◌, ◌<◌, Bool, false, List, [], ◌∷◌, ◌++◌, Ok, if◌then◌else◌, refl, ap, map, arith}
use Rattle.parser_tree.specs.Node.{Node}
use Rattle.parser_tokens.specs.Tokens.{first, behind}
use Rattle.parser_tokens.specs.Operators.{junction_at}
use Rattle.parser_tokens.specs.Starts.{ends_statements, modifier_at}
use Rattle.parser_ahead.specs.Primary.{is_comma_word}
use Rattle.parser_ahead.specs.Sections.{next_section}
use Rattle.parser_ahead.specs.declared.primary.DoOwner.{DoOwner}
use Rattle.parser_ahead.specs.declared.sections.Compound.{Compound}
use Rattle.parser_ahead.specs.declared.sections.SectionKind.{SectionKind}
use Rattle.parser_nodes.specs.Listed.{ListNode}
use Rattle.parser_form_nodes.specs.Sections.{SectionNode}
use Rattle.parser_forms.specs.Reading.{Names, Tokens, Inside}
use Rattle.rb_base.specs.Result.{◌>>=◌}
use Rattle.parser_statements.specs.Lists.{goes_on, next_part, list_from}
use Rattle.parser_statements.specs.Sections.{sections_turn, sections_from, with_test, tests_from}
use Rattle.parser_statements.specs.Statements.{with_statement, statements_from, junctions_turn, junctions_from, modifiers_turn, modifiers_from}

-- what a push makes of the nodes of a list
pub map_push : {A B : Type 0} (f : A → B) (xs : List A) (x : A) → map f (xs ++ x ∷ []) ≡ map f xs ++ f x ∷ []
map_push f [] x = refl
map_push f (y ∷ xs) x = ap (λ ys. f y ∷ ys) (map_push f xs x)

module _ (i : Inside) where
  pub list_step : (n : ℕ) (owner : DoOwner) (alone more : Bool) (found : ListNode) (names : Names) (ts : Tokens) → 0 < n
      → list_from i n owner alone more found names
      ts ≡ (if goes_on more (first ts) then
      (next_part i alone found names ts owner >>= (λ r. list_from i (n - 1) owner false r.0.comma r.0 r.1 r.2)) else
      Ok (found, names, ts))
  unfolding list_from
  list_step zero owner alone more found names ts some = absurd (omega arith)
  list_step (suc n) owner alone more found names ts some = let less : suc n - 1 ≡ n = omega arith in rw less

  pub junctions_step : (n : ℕ) (owner : DoOwner) (left : Node) (names : Names) (ts : Tokens) → 0 < n
      → junctions_from i n owner left names ts ≡ junctions_turn i (junction_at (first ts))
      (junctions_from i (n - 1) owner) left names ts owner
  unfolding junctions_from
  junctions_step zero owner left names ts some = absurd (omega arith)
  junctions_step (suc n) owner left names ts some = let less : suc n - 1 ≡ n = omega arith in rw less

  pub modifiers_step : (n : ℕ) (body : Node) (names : Names) (ts : Tokens) → 0 < n
      → modifiers_from i n body names ts ≡ modifiers_turn i (modifier_at (first ts)) (modifiers_from i (n - 1)) body
      names ts
  unfolding modifiers_from
  modifiers_step zero body names ts some = absurd (omega arith)
  modifiers_step (suc n) body names ts some = let less : suc n - 1 ≡ n = omega arith in rw less

  pub statements_step : (n : ℕ) (found : List Node) (names : Names) (ts : Tokens) → 0 < n
      → statements_from i n found names ts ≡ (if ends_statements (first ts) then Ok (found, names, ts) else
      (with_statement i found names ts >>= (λ r. statements_from i (n - 1) r.0 r.1 r.2)))
  unfolding statements_from
  statements_step zero found names ts some = absurd (omega arith)
  statements_step (suc n) found names ts some = let less : suc n - 1 ≡ n = omega arith in rw less

  pub tests_step : (n : ℕ) (found : List Node) (names : Names) (ts : Tokens) → 0 < n
      → tests_from i n found names ts ≡ (if is_comma_word (first ts) then
      (with_test i found names (behind ts) >>= (λ r. tests_from i (n - 1) r.0 r.1 r.2)) else Ok (found, names, ts))
  unfolding tests_from
  tests_step zero found names ts some = absurd (omega arith)
  tests_step (suc n) found names ts some = let less : suc n - 1 ≡ n = omega arith in rw less

  pub sections_step : (n : ℕ) (compound : Compound) (before : SectionKind) (found : List SectionNode) (names : Names)
      (ts : Tokens) → 0 < n
      → sections_from i n compound before found names ts ≡ sections_turn i (next_section compound before (first ts))
      (sections_from i (n - 1) compound) found names ts
  unfolding sections_from
  sections_step zero compound before found names ts some = absurd (omega arith)
  sections_step (suc n) compound before found names ts some = let less : suc n - 1 ≡ n = omega arith in rw less

pub ruleset list_turns = list_step

pub ruleset junction_turns = junctions_step

pub ruleset modifier_turns = modifiers_step

pub ruleset statement_turns = statements_step

pub ruleset test_turns = tests_step

pub ruleset section_turns = sections_step

pub ruleset pushes = map_push
