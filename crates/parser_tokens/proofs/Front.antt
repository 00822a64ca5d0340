-- A word but the end takes a token.
use Rattle.std.proofs.Common.{◌≡◌, ◌≢◌, ℕ, zero, suc, ◌-◌, ◌<◌, ◌≤◌, Bool, true, false, List, [], ◌∷◌, length, refl, ap, sym, subst, ◌∙◌, arith}
use Rattle.rb_syntax.specs.declared.token.Token.{Token}
use Rattle.parser_tokens.specs.Tokens.{first, behind}
use Rattle.parser_tokens.specs.Starts.{is_newline, is_separator}
use Rattle.parser_tokens.specs.Expect.{is_wanted, newlines_from, skip_newlines, separators_from, skip_separators}
use Rattle.parser_tokens.specs.declared.expect.Wanted.{Wanted}
use Rattle.parser_tokens.specs.declared.word.Word.{Word}
use Rattle.parser_tokens.specs.declared.word.Word.TheVariants.{Finish}

pub behind_shorter : (tokens : List Token) → first tokens ≢ Finish → length (behind tokens) < length tokens
unfolding first behind
behind_shorter [] there = absurd (there refl)
behind_shorter (t ∷ ts) there = omega arith

pub wanted_there : (w : Wanted) (x : Word) → is_wanted w x ≡ true → x ≢ Finish
wanted_there w x h = λ (e : x ≡ Finish). let no : is_wanted w Finish ≡ true = subst (λ y. is_wanted w y ≡ true) e h in
    absurd (grind arith)

pub wanted_shorter : (w : Wanted) (ts : List Token) → is_wanted w (first ts) ≡ true → length (behind ts) < length ts
wanted_shorter w ts h = behind_shorter ts (wanted_there w (first ts) h)

newline_shorter : (ts : List Token) → is_newline (first ts) ≡ true → length (behind ts) < length ts
newline_shorter ts h =
    behind_shorter ts (λ (e : first ts ≡ Finish). let no : false ≡ true = sym (ap is_newline e) ∙ h in cc)

separator_shorter : (ts : List Token) → is_separator (first ts) ≡ true → length (behind ts) < length ts
separator_shorter ts h =
    behind_shorter ts (λ (e : first ts ≡ Finish). let no : false ≡ true = sym (ap is_separator e) ∙ h in cc)

-- enough turns are enough
newlines_enough : (n m : ℕ) (ts : List Token) → length ts ≤ n → length ts ≤ m → newlines_from n ts ≡ newlines_from m ts
unfolding newlines_from
newlines_enough zero zero ts few some = refl
newlines_enough zero (suc m) ts few some = grind (arith, newline_shorter ts)
newlines_enough (suc n) zero ts few some = grind (arith, newline_shorter ts)
newlines_enough (suc n) (suc m) ts few some = grind (arith, newline_shorter ts, newlines_enough n m (behind ts))

newlines_turn : (n : ℕ) (ts : List Token) → 0 < n → is_newline (first ts) ≡ true
    → newlines_from n ts ≡ newlines_from (n - 1) (behind ts)
unfolding newlines_from
newlines_turn zero ts some h = absurd (omega arith)
newlines_turn (suc n) ts some h = let less : suc n - 1 ≡ n = omega arith in rw (h, less)

pub newlines_more : (ts : List Token) → is_newline (first ts) ≡ true → skip_newlines ts ≡ skip_newlines (behind ts)
newlines_more ts h =
    let shorter = newline_shorter ts h in
    newlines_turn (length ts) ts (omega arith) h
    ∙ newlines_enough (length ts - 1) (length (behind ts)) (behind ts) (omega arith) (omega arith)

newlines_stop : (n : ℕ) (ts : List Token) → is_newline (first ts) ≡ false → newlines_from n ts ≡ ts
unfolding newlines_from
newlines_stop zero ts h = refl
newlines_stop (suc n) ts h = rw h

pub newlines_end : (ts : List Token) → is_newline (first ts) ≡ false → skip_newlines ts ≡ ts
newlines_end ts h = newlines_stop (length ts) ts h

pub ruleset newline_turns = (newlines_more, newlines_end)

separators_enough : (n m : ℕ) (ts : List Token) → length ts ≤ n → length ts ≤ m
    → separators_from n ts ≡ separators_from m ts
unfolding separators_from
separators_enough zero zero ts few some = refl
separators_enough zero (suc m) ts few some = grind (arith, separator_shorter ts)
separators_enough (suc n) zero ts few some = grind (arith, separator_shorter ts)
separators_enough (suc n) (suc m) ts few some = grind (arith, separator_shorter ts, separators_enough n m (behind ts))

separators_turn : (n : ℕ) (ts : List Token) → 0 < n → is_separator (first ts) ≡ true
    → separators_from n ts ≡ separators_from (n - 1) (behind ts)
unfolding separators_from
separators_turn zero ts some h = absurd (omega arith)
separators_turn (suc n) ts some h = let less : suc n - 1 ≡ n = omega arith in rw (h, less)

pub separators_more : (ts : List Token) → is_separator (first ts) ≡ true
    → skip_separators ts ≡ skip_separators (behind ts)
separators_more ts h =
    let shorter = separator_shorter ts h in
    separators_turn (length ts) ts (omega arith) h
    ∙ separators_enough (length ts - 1) (length (behind ts)) (behind ts) (omega arith) (omega arith)

separators_stop : (n : ℕ) (ts : List Token) → is_separator (first ts) ≡ false → separators_from n ts ≡ ts
unfolding separators_from
separators_stop zero ts h = refl
separators_stop (suc n) ts h = rw h

pub separators_end : (ts : List Token) → is_separator (first ts) ≡ false → skip_separators ts ≡ ts
separators_end ts h = separators_stop (length ts) ts h

pub ruleset separator_turns = (separators_more, separators_end)
