-- Which step is taken outside of literals.
use Rattle.std.proofs.Common.{◌≡◌, ℕ, ◌+◌, ◌<◌, ◌≤◌, List, ◌∷◌, drop, length, get_or, arith, refl, sym, subst, Bool, true, false, eqb, leb, not, ◌&&◌, inl, inr}
use Rattle.std.proofs.lemmas.Bool.{cases_Bool, and_parts, eqb-true, eq-eqb, leb-true, lt-leb, le-ltb}
use Rattle.std.proofs.lemmas.List.{drop_more}
use Rattle.lexer_tables.specs.ByteClass.{is_digit, is_name_start, is_white, is_wide}
use Rattle.lexer_tables.specs.Following.{wants_name}
use Rattle.lexer_tables.specs.Marks.{operator_name}
use Rattle.lexer_steps.specs.State.{State}
use Rattle.lexer_steps.specs.Trivia.{begins_block, begins_line, is_block, is_trivia}
use Rattle.lexer_steps.specs.Names.{is_end_marker, operator_end, word_step}
use Rattle.lexer_steps.specs.Signs.{number_step, sign_step}
use Rattle.rb_lexer.specs.Code.{code_step, other_step}
use Rattle.lexer_laws.proofs.Operators.{byte_within}
use Rattle.lexer_laws.proofs.Runs.{starts_within}
use Rattle.lexer_laws.proofs.Steps.{not_both}

-- ---- no white space, no comment

pub and_false : (a b : Bool) → b ≡ false → (a && b) ≡ false
and_false true b h = h
and_false false b h = refl

no_block : (text : List ℕ) (at : ℕ) → at < length text → eqb 61 (get_or text at 0) ≡ false → is_block text at ≡ false
no_block text at few other =
    let here : drop at text ≡ get_or text at 0 ∷ drop (at + 1) text = drop_more text at 0 few in
    let none : begins_block (drop at text) ≡ false = rw (here, other) refl in
    and_false (begins_line text at) (begins_block (drop at text)) none

pub no_trivia : (text : List ℕ) (at : ℕ) → at < length text → is_white (get_or text at 0) ≡ false
    → eqb (get_or text at 0) 35 ≡ false → eqb (get_or text at 0) 92 ≡ false → eqb 61 (get_or text at 0) ≡ false
    → is_trivia text at ≡ false
no_trivia text at few white hash slash equal =
    let block = no_block text at few equal in
    rw (white, hash, slash) block

differs : (is : ℕ → Bool) (b v : ℕ) → is b ≡ true → is v ≡ false → eqb b v ≡ false
differs is b v t f =
    elim (cases_Bool (eqb b v)) [
      | inl same ↦ absurd (not_both (is v) (subst (λ (k : ℕ). is k ≡ true) (eqb-true b v same) t) f)
      | inr other ↦ other
    ]

differs' : (is : ℕ → Bool) (b v : ℕ) → is b ≡ true → is v ≡ false → eqb v b ≡ false
differs' is b v t f =
    elim (cases_Bool (eqb v b)) [
      | inl same ↦ absurd (not_both (is v) (subst (λ (k : ℕ). is k ≡ true) (sym (eqb-true v b same)) t) f)
      | inr other ↦ other
    ]

not_white : (is : ℕ → Bool) (b : ℕ) → is b ≡ true → is 32 ≡ false → is 9 ≡ false → is 13 ≡ false → is 10 ≡ false
    → is_white b ≡ false
not_white is b t f g h i = rw (differs is b 32 t f, differs is b 9 t g, differs is b 13 t h, differs is b 10 t i) refl

-- ---- words

pub word_reached : (text : List ℕ) (at : ℕ) (s : State) → is_name_start (get_or text at 0) ≡ true
    → is_end_marker text at ≡ false → code_step text at s ≡ word_step text at s
unfolding code_step
word_reached text at s begins more =
    let b = get_or text at 0 in
    let trivia = no_trivia text at (starts_within text at begins) (not_white is_name_start b begins refl refl refl refl)
    (differs is_name_start b 35 begins refl) (differs is_name_start b 92 begins refl)
    (differs' is_name_start b 61 begins refl) in
    rw (trivia, begins, more) refl

-- ---- numbers

digit_bounds : (b : ℕ) → is_digit b ≡ true → (48 ≤ b) × (b ≤ 57)
digit_bounds b d = let p = and_parts (leb 48 b) (leb b 57) d in (leb-true 48 b p.0, leb-true b 57 p.1)

digit_no_name : (b : ℕ) → is_digit b ≡ true → is_name_start b ≡ false
digit_no_name b d =
    let h = digit_bounds b d in
    let small : leb 97 b ≡ false = lt-leb 97 b (omega (arith, h.1)) in
    let capital : leb 65 b ≡ false = lt-leb 65 b (omega (arith, h.1)) in
    let bar : eqb b 95 ≡ false = differs is_digit b 95 d refl in
    rw (small, capital, bar) refl

digit_no_wide : (b : ℕ) → is_digit b ≡ true → is_wide b ≡ false
digit_no_wide b d = le-ltb 127 b (omega (arith, (digit_bounds b d).1))

digit_no_operator : (b second third : ℕ) → is_digit b ≡ true → operator_name b second third ≡ 0
unfolding operator_name
digit_no_operator b second third d =
    let n : (v : ℕ) → is_digit v ≡ false → eqb b v ≡ false = λ v f. differs is_digit b v d f in
    rw (
      n 43 refl,
      n 45 refl,
      n 42 refl,
      n 33 refl,
      n 47 refl,
      n 37 refl,
      n 126 refl,
      n 38 refl,
      n 124 refl,
      n 94 refl,
      n 61 refl,
      n 60 refl,
      n 62 refl,
      n 91 refl,
    ) refl

no_operator_end : (text : List ℕ) (at : ℕ) → is_digit (get_or text at 0) ≡ true → eqb (operator_end text at) at ≡ true
no_operator_end text at d =
    let none = digit_no_operator (get_or text at 0) (get_or text (at + 1) 0) (get_or text (at + 2) 0) d in
    let e : at + 0 ≡ at = omega arith in
    rw (none, e) (eq-eqb at at refl)

digit_other : (text : List ℕ) (at : ℕ) (s : State) → is_digit (get_or text at 0) ≡ true
    → other_step text at s ≡ number_step text at s
unfolding other_step sign_step
digit_other text at s d =
    let b = get_or text at 0 in
    let wanted : (wants_name s.context && not (eqb (operator_end text at) at)) ≡ false =
    rw (no_operator_end text at d) (and_false (wants_name s.context) false refl) in
    rw (differs is_digit b 64 d refl, differs is_digit b 36 d refl, wanted, d) refl

pub number_reached : (text : List ℕ) (at : ℕ) (s : State) → is_digit (get_or text at 0) ≡ true
    → code_step text at s ≡ number_step text at s
unfolding code_step
number_reached text at s d =
    let b = get_or text at 0 in
    let within = byte_within text at (omega (arith, (digit_bounds b d).0)) in
    let trivia = no_trivia text at within (not_white is_digit b d refl refl refl refl) (differs is_digit b 35 d refl)
    (differs is_digit b 92 d refl) (differs' is_digit b 61 d refl) in
    rw (trivia, digit_no_name b d, digit_no_wide b d) (digit_other text at s d)
