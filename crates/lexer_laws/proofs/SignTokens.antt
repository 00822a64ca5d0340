-- Semicolons and characters.
use Rattle.std.proofs.Common.{◌≡◌, ℕ, ◌+◌, List, get_or, arith, refl, sym, ◌∙◌, true, false, eqb, not, ◌&&◌}
use Rattle.std.proofs.lemmas.Bool.{eq-eqb}
use Rattle.rb_syntax.specs.declared.token.TokenKind.TheVariants as kinds
use Rattle.lexer_tables.specs.Following.{expects_value, wants_name}
use Rattle.lexer_tables.specs.Marks.{operator_name}
use Rattle.lexer_steps.specs.State.{State}
use Rattle.lexer_steps.specs.Names.{operator_end}
use Rattle.lexer_steps.specs.Signs.{is_character, question_step, sign_step}
use Rattle.rb_lexer.specs.Code.{code_step, other_step}
use Rattle.lexer_laws.specs.Place.{after}
use Rattle.lexer_laws.specs.Reads.{value_at, is_newline, bars_after}
use Rattle.lexer_laws.specs.Signs.{IsCharacter}
use Rattle.lexer_laws.specs.Taking.{place_of, took}
use Rattle.lexer_laws.proofs.Operators.{byte_within}
use Rattle.lexer_laws.proofs.Reaching.{and_false, no_trivia}
use Rattle.lexer_laws.proofs.Steps.{passed, both_are}

semicolon_no_operator : (text : List ℕ) (at : ℕ) → get_or text at 0 ≡ 59 → eqb (operator_end text at) at ≡ true
unfolding operator_name
semicolon_no_operator text at first = let e : at + 0 ≡ at = omega arith in rw (first, e) (eq-eqb at at refl)

question_no_operator : (text : List ℕ) (at : ℕ) → get_or text at 0 ≡ 63 → eqb (operator_end text at) at ≡ true
unfolding operator_name
question_no_operator text at first = let e : at + 0 ≡ at = omega arith in rw (first, e) (eq-eqb at at refl)

not_wanted : (text : List ℕ) (at : ℕ) (s : State) → eqb (operator_end text at) at ≡ true
    → (wants_name s.context && not (eqb (operator_end text at) at)) ≡ false
not_wanted text at s same = rw same (and_false (wants_name s.context) false refl)

semicolon_other : (text : List ℕ) (at : ℕ) (s : State) → get_or text at 0 ≡ 59
    → other_step text at s ≡ passed (took s at kinds.Semicolon) (at + 1)
unfolding other_step sign_step after value_at is_newline bars_after
semicolon_other text at s first =
    let wanted = not_wanted text at s (semicolon_no_operator text at first) in
    rw (wanted, first) refl

pub semicolon_read : (text : List ℕ) (at : ℕ) (s : State) → get_or text at 0 ≡ 59
    → code_step text at s ≡ passed (took s at kinds.Semicolon) (at + 1)
unfolding code_step
semicolon_read text at s first =
    let trivia = no_trivia text at (byte_within text at (omega (arith, first))) (rw first refl) (rw first refl)
    (rw first refl) (rw first refl) in
    rw (trivia, first) (semicolon_other text at s first)

character_other : (text : List ℕ) (at b end : ℕ) (s : State) → IsCharacter text (place_of s at) b end
    → other_step text at s ≡ passed (took s at (kinds.Character b)) end
unfolding other_step sign_step question_step after value_at is_newline bars_after
character_other text at b end s c =
    let wanted = not_wanted text at s (question_no_operator text at c.question) in
    let character = c.character in
    rw (wanted, c.value, character, c.question, c.byte_is, c.ends) refl

pub character_read : (text : List ℕ) (at b end : ℕ) (s : State) → IsCharacter text (place_of s at) b end
    → code_step text at s ≡ passed (took s at (kinds.Character b)) end
unfolding code_step
character_read text at b end s c =
    let first : get_or text at 0 ≡ 63 = c.question in
    let trivia = no_trivia text at (byte_within text at (omega (arith, first))) (rw first refl) (rw first refl)
    (rw first refl) (rw first refl) in
    rw (trivia, first) (character_other text at b end s c)

pub character_token : (text : List ℕ) (at end : ℕ) (s t : State) → get_or text at 0 ≡ 63
    → expects_value s.context ≡ true → is_character text at ≡ true → code_step text at s ≡ passed t end
    → IsCharacter text (place_of s at) (get_or text (at + 1) 0) end
    × (t ≡ took s at (kinds.Character (get_or text (at + 1) 0)))
character_token text at end s t first value character h =
    let c : IsCharacter text (place_of s at) (get_or text (at + 1) 0) (at + 2) =
    record { question = first; value = value; character = character; byte_is = refl; ends = refl } in
    let p = both_are t _ end (at + 2) (sym h ∙ character_read text at (get_or text (at + 1) 0) (at + 2) s c) in
    (record { question = first; value = value; character = character; byte_is = refl; ends = p.1 }, p.0)
