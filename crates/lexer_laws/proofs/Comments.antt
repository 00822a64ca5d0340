-- A comment is passed over to its end.
use Rattle.std.proofs.Common.{◌≡◌, ℕ, ◌+◌, List, drop, get_or, arith, refl, sym, ◌∙◌}
use Rattle.lexer_steps.specs.Scan.{comment_end, is_comment_byte, run_end}
use Rattle.lexer_steps.specs.State.{State, spaced}
use Rattle.lexer_steps.specs.Trivia.{trivia_step}
use Rattle.rb_lexer.specs.Code.{code_step}
use Rattle.lexer_laws.specs.Longest.{IsRun}
use Rattle.lexer_laws.specs.Gaps.{IsComment}
use Rattle.lexer_laws.proofs.Operators.{byte_within}
use Rattle.lexer_laws.proofs.Runs.{run_ends, run_longest, longest_once}
use Rattle.lexer_laws.proofs.Steps.{passed, both_are}

comment_is : (xs : List ℕ) (at : ℕ) → comment_end at xs ≡ run_end is_comment_byte at xs
unfolding comment_end
comment_is xs at = refl

comment_there : (text : List ℕ) (at : ℕ) → get_or text at 0 ≡ 35
    → IsComment text at (comment_end (at + 1) (drop (at + 1) text))
comment_there text at hash =
    let ends = run_ends is_comment_byte text (at + 1) (omega (arith, byte_within text at (omega (arith, hash)))) in
    rw comment_is (record {
      hash = hash;
      rest = record {
        there = ends.run;
        longest = λ other run. run_longest is_comment_byte text (at + 1) _ other ends
            run;
      };
    })

comment_step : (text : List ℕ) (at : ℕ) (s : State) → get_or text at 0 ≡ 35
    → code_step text at s ≡ passed (spaced s) (comment_end (at + 1) (drop (at + 1) text))
unfolding code_step trivia_step
comment_step text at s hash = rw hash refl

pub comment_sound : (text : List ℕ) (at end : ℕ) (s t : State) → get_or text at 0 ≡ 35
    → code_step text at s ≡ passed t end → IsComment text at end × (t ≡ spaced s)
comment_sound text at end s t hash h =
    let p = both_are t (spaced s) end _ (sym h ∙ comment_step text at s hash) in
    (rw (p.1) (comment_there text at hash), p.0)

pub comment_complete : (text : List ℕ) (at end : ℕ) (s : State) → IsComment text at end
    → code_step text at s ≡ passed (spaced s) end
comment_complete text at end s c =
    let e = longest_once (IsRun is_comment_byte text (at + 1)) _ end (comment_there text at c.hash).rest c.rest in
    rw (← e) (comment_step text at s c.hash)
