-- Brackets and literals, a token at a time.
use Rattle.std.proofs.Common.{◌≡◌, ℕ, ◌<◌, true, false, List, [], ◌∷◌, length, refl, arith}
use Rattle.std.specs.Prelude.{nat_eq}
use Rattle.rb_syntax.specs.declared.token.Token.{Token}
use Rattle.parser_tokens.specs.Tokens.{first, behind}
use Rattle.parser_ahead.specs.Groups.{bracket_step, behind_brackets, literal_step, literal_end}
use Rattle.parser_tokens.specs.declared.word.Word.TheVariants.{Finish}

pub brackets_more : (n : ℕ) (ts : List Token) → 0 < length ts → nat_eq (bracket_step (first ts) n) 0 ≡ false
    → behind_brackets n ts ≡ behind_brackets (bracket_step (first ts) n) (behind ts)
unfolding behind_brackets first behind
brackets_more n [] some h = absurd (omega arith)
brackets_more n (t ∷ ts) some h = rw h refl

pub brackets_stop : (n : ℕ) (ts : List Token) → 0 < length ts → nat_eq (bracket_step (first ts) n) 0 ≡ true
    → behind_brackets n ts ≡ first (behind ts)
unfolding behind_brackets first behind
brackets_stop n [] some h = absurd (omega arith)
brackets_stop n (t ∷ ts) some h = rw h refl

pub brackets_end : (n : ℕ) (ts : List Token) → length ts ≡ 0 → behind_brackets n ts ≡ Finish
unfolding behind_brackets
brackets_end n [] h = refl
brackets_end n (t ∷ ts) h = absurd (omega arith)

pub behind_less : (ts : List Token) → 0 < length ts → length (behind ts) < length ts
unfolding behind
behind_less [] some = absurd (omega arith)
behind_less (t ∷ ts) some = omega arith

pub ruleset bracket_turns = (brackets_more, brackets_stop, brackets_end, behind_less)

pub literal_more : (n : ℕ) (ts : List Token) → 0 < length ts → nat_eq (literal_step (first ts) n) 0 ≡ false
    → literal_end n ts ≡ literal_end (literal_step (first ts) n) (behind ts)
unfolding literal_end first behind
literal_more n [] some h = absurd (omega arith)
literal_more n (t ∷ ts) some h = rw h refl

pub literal_stop : (n : ℕ) (ts : List Token) → 0 < length ts → nat_eq (literal_step (first ts) n) 0 ≡ true
    → literal_end n ts ≡ first ts
unfolding literal_end first
literal_stop n [] some h = absurd (omega arith)
literal_stop n (t ∷ ts) some h = rw h refl

pub literal_nothing : (n : ℕ) (ts : List Token) → length ts ≡ 0 → literal_end n ts ≡ Finish
unfolding literal_end
literal_nothing n [] h = refl
literal_nothing n (t ∷ ts) h = absurd (omega arith)

pub ruleset literal_turns = (literal_more, literal_stop, literal_nothing, behind_less)
