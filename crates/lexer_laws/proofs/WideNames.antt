-- Names with a byte past ASCII.
use Rattle.std.proofs.Common.{◌≡◌, ℕ, suc, zero, ◌+◌, ◌<◌, List, [], ◌∷◌, drop, length, get_or, arith, refl, sym, ◌∙◌, true, inr}
use Rattle.rb_syntax.specs.declared.outside.Outside.TheVariants.{NonAsciiName}
use Rattle.rb_syntax.specs.declared.token.TokenKind.TheVariants as kinds
use Rattle.lexer_tables.specs.ByteClass.{is_name_start, is_wide}
use Rattle.lexer_steps.specs.Scan.{is_wide_name_byte, name_end, run_end, wide_end}
use Rattle.lexer_steps.specs.State.{State}
use Rattle.lexer_steps.specs.Names.{word_step}
use Rattle.lexer_laws.specs.Longest.{IsLongest, IsRun}
use Rattle.lexer_laws.specs.Names.{IsName}
use Rattle.lexer_laws.specs.Place.{after, after_outside}
use Rattle.lexer_laws.specs.Reads.{value_at, is_newline, bars_after}
use Rattle.lexer_laws.specs.Taking.{took}
use Rattle.lexer_laws.specs.Words.{IsWideName}
use Rattle.lexer_laws.proofs.Runs.{longest_once, name_sound, name_complete, run_ends, run_longest}
use Rattle.lexer_laws.proofs.Steps.{passed, both_are}

wide_end_is : (xs : List ℕ) (at : ℕ) → wide_end at xs ≡ run_end is_wide_name_byte at xs
unfolding wide_end
wide_end_is xs at = refl

wide_within : (text : List ℕ) (at : ℕ) → is_wide (get_or text at 0) ≡ true → at < length text
wide_within [] at h = absurd cc
wide_within (x ∷ xs) zero h = omega arith
wide_within (x ∷ xs) (suc k) h = omega (arith, wide_within xs k h)

wide_longest : (text : List ℕ) (from : ℕ) → is_wide (get_or text from 0) ≡ true
    → IsLongest (IsRun is_wide_name_byte text (from + 1)) (wide_end (from + 1) (drop (from + 1) text))
wide_longest text from wide =
    let ends = run_ends is_wide_name_byte text (from + 1) (omega (arith, wide_within text from wide)) in
    rw wide_end_is (record {
      there = ends.run;
      longest = λ other run. run_longest is_wide_name_byte text (from + 1) _
          other ends run;
    })

pub wide_step : (text : List ℕ) (at name end : ℕ) (s : State) → IsLongest (IsName text at) name
    → is_wide (get_or text name 0) ≡ true → IsLongest (IsRun is_wide_name_byte text (name + 1)) end
    → word_step text at s ≡ passed (took s at (kinds.Outside NonAsciiName)) end
unfolding word_step after after_outside value_at is_newline bars_after
wide_step text at name end s l wide rest =
    let e : name_end (at + 1) (drop (at + 1) text) ≡ name = name_complete text at name l in
    let f = longest_once (IsRun is_wide_name_byte text (name + 1)) _ end (wide_longest text name wide) rest in
    rw (e, wide, f) refl

pub wide_token : (text : List ℕ) (at end : ℕ) (s t : State) → is_name_start (get_or text at 0) ≡ true
    → is_wide (get_or text (name_end (at + 1) (drop (at + 1) text)) 0) ≡ true → word_step text at s ≡ passed t end
    → IsWideName text at end × (t ≡ took s at (kinds.Outside NonAsciiName))
wide_token text at end s t begins wide h =
    let l = name_sound text at begins in
    let rest = wide_longest text (name_end (at + 1) (drop (at + 1) text)) wide in
    let p = both_are t (took s at (kinds.Outside NonAsciiName)) end _ (sym h ∙ wide_step text at _ _ s l wide rest) in
    (record { from = name_end (at + 1) (drop (at + 1) text); begins = inr l; wide = wide; rest = rw p.1 rest }, p.0)
