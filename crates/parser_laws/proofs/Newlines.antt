-- Newlines that are skipped.
use Rattle.std.proofs.Common.{◌≡◌, ℕ, zero, suc, ◌≤◌, Bool, true, false, length, None, if◌then◌else◌, refl, sym, arith}
use Rattle.parser_tokens.specs.Tokens.{first, behind}
use Rattle.parser_tokens.specs.Expect.{newlines_from}
use Rattle.parser_tokens.specs.Operators.{assignment_at}
use Rattle.parser_tokens.specs.Starts.{is_newline}
use Rattle.parser_tokens.specs.declared.word.Word.{Word}
use Rattle.parser_tokens.specs.declared.word.Word.TheVariants as words
use Rattle.parser_forms.specs.Reading.{Tokens}
use Rattle.parser_laws.proofs.Results.{differs}
use Rattle.parser_laws.proofs.Facts.{behind_within, skip_one}

pub newlines_within : (n : ℕ) (ts : Tokens) → length (newlines_from n ts) ≤ length ts
unfolding newlines_from
newlines_within zero ts = omega arith
newlines_within (suc n) ts =
    let h = newlines_within n (behind ts) in
    let g = behind_within ts in
    skip_one (is_newline (first ts)) ts (newlines_from n (behind ts)) ts (omega arith) (omega arith)

newline_word : (w : Word) → is_newline w ≡ true → assignment_at w ≡ None
newline_word (words.Mark p) h = differs (sym h)
newline_word w h = refl

-- before newlines and a word that is no assignment stands none
pub newline_calm : (w : Word) → assignment_at w ≡ None → (n : ℕ) (ts : Tokens) → first (newlines_from n ts) ≡ w
    → assignment_at (first ts) ≡ None
unfolding newlines_from
newline_calm w free zero ts h = rw h free
newline_calm w free (suc n) ts h = by_newline (is_newline (first ts)) refl h
  where
    by_newline : (b : Bool) → is_newline (first ts) ≡ b → first (if b then newlines_from n (behind ts) else ts) ≡ w
        → assignment_at (first ts) ≡ None
    by_newline true there g = newline_word (first ts) there
    by_newline false there g = rw g free
