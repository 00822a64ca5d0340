-- The loops of literals and parameters, a turn at a time.
use Rattle.std.proofs.Common.{◌≡◌, ℕ, zero, suc, ◌-◌, ◌<◌, ◌&&◌, Bool, true, false, List, Ok, Err, if◌then◌else◌, length, ap, sym, ◌∙◌, arith}
use Rattle.std.proofs.lemmas.List.{map-append}
use Rattle.parser_tree.specs.Node.{Node}
use Rattle.parser_tokens.proofs.Front.{behind_shorter}
use Rattle.parser_tokens.specs.declared.word.Word.TheVariants.{Finish}
use Rattle.parser_tokens.specs.Tokens.{first, behind, bytes_at}
use Rattle.parser_ahead.specs.Names.{declared}
use Rattle.parser_ahead.specs.Primary.{is_comma_word}
use Rattle.parser_form_nodes.specs.Parameters.{ParameterNodes, begins_parameter}
use Rattle.parser_forms.specs.Reading.{Names, Tokens, Inside}
use Rattle.rb_base.specs.Result.{◌>>=◌}
use Rattle.parser_forms.specs.Literals.{ends_literal, begins_string, next_piece, pieces_from, string, strings_from}
use Rattle.parser_forms.specs.Parameters.{is_identifier, parameters_turn, parameters_from, locals_from}

module _ (i : Inside) where
  pub pieces_step : (n : ℕ) (found : List Node) (names : Names) (ts : Tokens) → 0 < n
      → pieces_from i n found names ts ≡ (if ends_literal (first ts) then Ok (found, names, ts) else
      (next_piece i found names ts >>= (λ r. pieces_from i (n - 1) r.0 r.1 r.2)))
  unfolding pieces_from
  pieces_step zero found names ts some = absurd (omega arith)
  pieces_step (suc n) found names ts some = let less : suc n - 1 ≡ n = omega arith in rw less

  pub strings_step : (n : ℕ) (found : List Node) (names : Names) (ts : Tokens) → 0 < n
      → strings_from i n found names ts ≡ (if begins_string (first ts) then
      (string i found names ts >>= (λ r. strings_from i (n - 1) r.0 r.1 r.2)) else Ok (found, names, ts))
  unfolding strings_from
  strings_step zero found names ts some = absurd (omega arith)
  strings_step (suc n) found names ts some = let less : suc n - 1 ≡ n = omega arith in rw less

  pub parameters_step : (n : ℕ) (more comma : Bool) (found : ParameterNodes) (names : Names) (ts : Tokens) → 0 < n
      → parameters_from i n more comma found names
      ts ≡ (if more && begins_parameter (first ts) then parameters_turn i (λ c. parameters_from i (n - 1) c c) found
      names ts else Ok ((found, comma), names, ts))
  unfolding parameters_from
  parameters_step zero more comma found names ts some = absurd (omega arith)
  parameters_step (suc n) more comma found names ts some = let less : suc n - 1 ≡ n = omega arith in rw less

pub locals_step : (n : ℕ) (more : Bool) (names : Names) (ts : Tokens) → 0 < n
    → locals_from n more names ts ≡ (if more
    then (if is_identifier (first (behind ts))
    then locals_from (n - 1) (is_comma_word (first (behind (behind ts)))) (declared names (bytes_at (behind ts)) false)
    (behind (behind ts))
    else Err (length (behind ts)))
    else Ok (names, ts))
unfolding locals_from
locals_step zero more names ts some = absurd (omega arith)
locals_step (suc n) more names ts some = let less : suc n - 1 ≡ n = omega arith in rw less

-- a word that begins these takes a token
pub string_shorter : (ts : Tokens) → begins_string (first ts) ≡ true → length (behind ts) < length ts
string_shorter ts h =
    behind_shorter ts (λ (e : first ts ≡ Finish). let no : false ≡ true = sym (ap begins_string e) ∙ h in cc)

pub identifier_shorter : (ts : Tokens) → is_identifier (first ts) ≡ true → length (behind ts) < length ts
identifier_shorter ts h =
    behind_shorter ts (λ (e : first ts ≡ Finish). let no : false ≡ true = sym (ap is_identifier e) ∙ h in cc)

pub ruleset piece_turns = pieces_step

pub ruleset piece_pushes = map-append

pub ruleset string_turns = (strings_step, string_shorter)

pub ruleset parameter_turns = parameters_step

pub ruleset local_turns = (locals_step, identifier_shorter)
