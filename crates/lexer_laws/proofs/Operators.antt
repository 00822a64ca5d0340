-- Which mark stands at a place: the table's longest.
use Rattle.std.proofs.Common.{◌≡◌, ℕ, suc, zero, ◌+◌, ◌<◌, ◌≤◌, List, [], ◌∷◌, length, get_or, arith, refl, sym, ap, ◌∙◌, subst, Bool, true, false, if◌then◌else◌, eqb, ◌&&◌, Option, Some}
use Rattle.std.proofs.lemmas.Bool.{eqb-true, and_parts}
use Rattle.rb_syntax.specs.declared.punctuator.Punctuator.{Punctuator}
use Rattle.rb_syntax.specs.declared.punctuator.Punctuator.TheVariants as marks
use Rattle.lexer_tables.specs.declared.marks.Mark.{Mark}
use Rattle.lexer_tables.specs.Marks.{mark_with, mark_of, single_mark, plus_mark, minus_mark, star_mark, slash_mark, percent_mark, caret_mark, equal_mark, not_mark, less_mark, greater_mark, ampersand_mark, bar_mark, dot_mark, colon_mark}
use Rattle.lexer_laws.specs.Longest.{Stands}
use Rattle.lexer_laws.specs.Operators.{spelling, is_operator, LongestOperator}
use Rattle.lexer_laws.proofs.FoundMarks.{mark_at, finds}

pub record Spelled (text : List ℕ) (at : ℕ) (m : Mark) : Type 0 where
  pub stands : Stands text at (spelling m.punctuator)
  pub long : m.length ≡ length (spelling m.punctuator)
  pub operator : is_operator m.punctuator ≡ true

pub byte_within : (text : List ℕ) (at : ℕ) → 0 < get_or text at 0 → at < length text
byte_within [] at h = absurd (omega arith)
byte_within (x ∷ xs) zero h = omega arith
byte_within (x ∷ xs) (suc k) h = omega (arith, byte_within xs k h)

pub here : (text : List ℕ) (at x : ℕ) → 0 < x → get_or text at 0 ≡ x → at < length text
here text at x some e = byte_within text at (omega (arith, some, e))

spelled_one : (text : List ℕ) (at x : ℕ) (q : Punctuator) → 0 < x → get_or text at 0 ≡ x → spelling q ≡ x ∷ []
    → is_operator q ≡ true → Spelled text at (mark_with q 1)
spelled_one text at x q some e spelled operator = record {
  stands = rw spelled (here text at x some e, e, tt);
  long = rw spelled refl;
  operator = operator;
}

spelled_two : (text : List ℕ) (at x y : ℕ) (q : Punctuator) → 0 < x → 0 < y → get_or text at 0 ≡ x
    → eqb (get_or text (at + 1) 0) y ≡ true → spelling q ≡ x ∷ y ∷ [] → is_operator q ≡ true
    → Spelled text at (mark_with q 2)
spelled_two text at x y q some more e t spelled operator =
    let f = eqb-true (get_or text (at + 1) 0) y t in
    record {
      stands = rw spelled (here text at x some e, e, (here text (at + 1) y more f, f, tt));
      long = rw spelled refl;
      operator = operator;
    }

spelled_three : (text : List ℕ) (at x y z : ℕ) (q : Punctuator) → 0 < x → 0 < y → 0 < z → get_or text at 0 ≡ x
    → (eqb (get_or text (at + 1) 0) y && eqb (get_or text (at + 2) 0) z) ≡ true → spelling q ≡ x ∷ y ∷ z ∷ []
    → is_operator q ≡ true → Spelled text at (mark_with q 3)
spelled_three text at x y z q some more most e t spelled operator =
    let p = and_parts (eqb (get_or text (at + 1) 0) y) (eqb (get_or text (at + 2) 0) z) t in
    let f = eqb-true (get_or text (at + 1) 0) y p.0 in
    let two : at + 1 + 1 ≡ at + 2 = omega arith in
    let g : get_or text (at + 1 + 1) 0 ≡ z = rw two (eqb-true (get_or text (at + 2) 0) z p.1) in
    record {
      stands = rw spelled (
        here text at x some e,
        e,
        (here text (at + 1) y more f, f, (here text (at + 1 + 1) z most g, g, tt)),
      );
      long = rw spelled refl;
      operator = operator;
    }

chosen : (text : List ℕ) (at : ℕ) (t : Bool) (x y : Mark) → (t ≡ true → Spelled text at x)
    → (t ≡ false → Spelled text at y) → Spelled text at (if t then x else y)
chosen text at true x y a b = a refl
chosen text at false x y a b = b refl

plus_mark_stands : (text : List ℕ) (at : ℕ) → get_or text at 0 ≡ 43
    → Spelled text at (plus_mark (get_or text (at + 1) 0))
unfolding plus_mark spelling is_operator
plus_mark_stands text at e = chosen text at _ _ _ (λ t. spelled_two text at 43 61 marks.PlusAssign (omega arith)
    (omega arith) e t refl refl) (λ f. spelled_one text at 43 marks.Plus (omega arith) e refl refl)

minus_mark_stands : (text : List ℕ) (at : ℕ) → get_or text at 0 ≡ 45
    → Spelled text at (minus_mark (get_or text (at + 1) 0))
unfolding minus_mark spelling is_operator
minus_mark_stands text at e = chosen text at _ _ _ (λ t. spelled_two text at 45 62 marks.LambdaArrow (omega arith)
    (omega arith) e t refl refl) (λ f. chosen text at _ _ _
    (λ t. spelled_two text at 45 61 marks.MinusAssign (omega arith) (omega arith) e t refl refl)
    (λ f. spelled_one text at 45 marks.Minus (omega arith) e refl refl))

star_mark_stands : (text : List ℕ) (at : ℕ) → get_or text at 0 ≡ 42
    → Spelled text at (star_mark (get_or text (at + 1) 0) (get_or text (at + 2) 0))
unfolding star_mark spelling is_operator
star_mark_stands text at e = chosen text at _ _ _ (λ t. spelled_three text at 42 42 61 marks.StarStarAssign
    (omega arith) (omega arith) (omega arith) e t refl refl)
    (λ f. chosen text at _ _ _ (λ t. spelled_two text at 42 42 marks.StarStar (omega arith) (omega arith) e t refl refl)
    (λ f. chosen text at _ _ _ (λ t. spelled_two text at 42 61 marks.StarAssign (omega arith) (omega arith) e t refl
    refl) (λ f. spelled_one text at 42 marks.Star (omega arith) e refl refl)))

slash_mark_stands : (text : List ℕ) (at : ℕ) → get_or text at 0 ≡ 47
    → Spelled text at (slash_mark (get_or text (at + 1) 0))
unfolding slash_mark spelling is_operator
slash_mark_stands text at e = chosen text at _ _ _ (λ t. spelled_two text at 47 61 marks.SlashAssign (omega arith)
    (omega arith) e t refl refl) (λ f. spelled_one text at 47 marks.Slash (omega arith) e refl refl)

percent_mark_stands : (text : List ℕ) (at : ℕ) → get_or text at 0 ≡ 37
    → Spelled text at (percent_mark (get_or text (at + 1) 0))
unfolding percent_mark spelling is_operator
percent_mark_stands text at e = chosen text at _ _ _ (λ t. spelled_two text at 37 61 marks.PercentAssign (omega arith)
    (omega arith) e t refl refl) (λ f. spelled_one text at 37 marks.Percent (omega arith) e refl refl)

caret_mark_stands : (text : List ℕ) (at : ℕ) → get_or text at 0 ≡ 94
    → Spelled text at (caret_mark (get_or text (at + 1) 0))
unfolding caret_mark spelling is_operator
caret_mark_stands text at e = chosen text at _ _ _ (λ t. spelled_two text at 94 61 marks.CaretAssign (omega arith)
    (omega arith) e t refl refl) (λ f. spelled_one text at 94 marks.Caret (omega arith) e refl refl)

equal_mark_stands : (text : List ℕ) (at : ℕ) → get_or text at 0 ≡ 61
    → Spelled text at (equal_mark (get_or text (at + 1) 0) (get_or text (at + 2) 0))
unfolding equal_mark spelling is_operator
equal_mark_stands text at e = chosen text at _ _ _ (λ t. spelled_three text at 61 61 61 marks.CaseEqual (omega arith)
    (omega arith) (omega arith) e t refl refl) (λ f. chosen text at _ _ _
    (λ t. spelled_two text at 61 61 marks.Equal (omega arith) (omega arith) e t refl refl)
    (λ f. chosen text at _ _ _ (λ t. spelled_two text at 61 126 marks.Match (omega arith) (omega arith) e t refl refl)
    (λ f. chosen text at _ _ _ (λ t. spelled_two text at 61 62 marks.Arrow (omega arith) (omega arith) e t refl refl)
    (λ f. spelled_one text at 61 marks.Assign (omega arith) e refl refl))))

not_mark_stands : (text : List ℕ) (at : ℕ) → get_or text at 0 ≡ 33 → Spelled text at (not_mark (get_or text (at + 1) 0))
unfolding not_mark spelling is_operator
not_mark_stands text at e = chosen text at _ _ _ (λ t. spelled_two text at 33 61 marks.NotEqual (omega arith)
    (omega arith) e t refl refl) (λ f. chosen text at _ _ _
    (λ t. spelled_two text at 33 126 marks.NotMatch (omega arith) (omega arith) e t refl refl)
    (λ f. spelled_one text at 33 marks.Not (omega arith) e refl refl))

less_mark_stands : (text : List ℕ) (at : ℕ) → get_or text at 0 ≡ 60
    → Spelled text at (less_mark (get_or text (at + 1) 0) (get_or text (at + 2) 0))
unfolding less_mark spelling is_operator
less_mark_stands text at e = chosen text at _ _ _ (λ t. spelled_three text at 60 61 62 marks.Compare (omega arith)
    (omega arith) (omega arith) e t refl refl) (λ f. chosen text at _ _ _
    (λ t. spelled_two text at 60 61 marks.LessEqual (omega arith) (omega arith) e t refl refl)
    (λ f. chosen text at _ _ _ (λ t. spelled_three text at 60 60 61 marks.ShiftLeftAssign (omega arith) (omega arith)
    (omega arith) e t refl refl) (λ f. chosen text at _ _ _
    (λ t. spelled_two text at 60 60 marks.ShiftLeft (omega arith) (omega arith) e t refl refl)
    (λ f. spelled_one text at 60 marks.Less (omega arith) e refl refl))))

greater_mark_stands : (text : List ℕ) (at : ℕ) → get_or text at 0 ≡ 62
    → Spelled text at (greater_mark (get_or text (at + 1) 0) (get_or text (at + 2) 0))
unfolding greater_mark spelling is_operator
greater_mark_stands text at e = chosen text at _ _ _ (λ t. spelled_two text at 62 61 marks.GreaterEqual (omega arith)
    (omega arith) e t refl refl) (λ f. chosen text at _ _ _
    (λ t. spelled_three text at 62 62 61 marks.ShiftRightAssign (omega arith) (omega arith) (omega arith) e t refl refl)
    (λ f. chosen text at _ _ _ (λ t. spelled_two text at 62 62 marks.ShiftRight (omega arith) (omega arith) e t refl
    refl) (λ f. spelled_one text at 62 marks.Greater (omega arith) e refl refl)))

ampersand_mark_stands : (text : List ℕ) (at : ℕ) → get_or text at 0 ≡ 38
    → Spelled text at (ampersand_mark (get_or text (at + 1) 0) (get_or text (at + 2) 0))
unfolding ampersand_mark spelling is_operator
ampersand_mark_stands text at e = chosen text at _ _ _
    (λ t. spelled_three text at 38 38 61 marks.AndAndAssign (omega arith) (omega arith) (omega arith) e t refl refl)
    (λ f. chosen text at _ _ _ (λ t. spelled_two text at 38 38 marks.AndAnd (omega arith) (omega arith) e t refl refl)
    (λ f. chosen text at _ _ _ (λ t. spelled_two text at 38 61 marks.AmpersandAssign (omega arith) (omega arith) e t
    refl refl) (λ f. chosen text at _ _ _ (λ t. spelled_two text at 38 46 marks.AmpersandDot (omega arith) (omega arith)
    e t refl refl) (λ f. spelled_one text at 38 marks.Ampersand (omega arith) e refl refl))))

bar_mark_stands : (text : List ℕ) (at : ℕ) → get_or text at 0 ≡ 124
    → Spelled text at (bar_mark (get_or text (at + 1) 0) (get_or text (at + 2) 0))
unfolding bar_mark spelling is_operator
bar_mark_stands text at e = chosen text at _ _ _ (λ t. spelled_three text at 124 124 61 marks.OrOrAssign (omega arith)
    (omega arith) (omega arith) e t refl refl) (λ f. chosen text at _ _ _
    (λ t. spelled_two text at 124 124 marks.OrOr (omega arith) (omega arith) e t refl refl)
    (λ f. chosen text at _ _ _ (λ t. spelled_two text at 124 61 marks.BarAssign (omega arith) (omega arith) e t refl
    refl) (λ f. spelled_one text at 124 marks.Bar (omega arith) e refl refl)))

dot_mark_stands : (text : List ℕ) (at : ℕ) → get_or text at 0 ≡ 46
    → Spelled text at (dot_mark (get_or text (at + 1) 0) (get_or text (at + 2) 0))
unfolding dot_mark spelling is_operator
dot_mark_stands text at e = chosen text at _ _ _ (λ t. spelled_three text at 46 46 46 marks.DotDotDot (omega arith)
    (omega arith) (omega arith) e t refl refl) (λ f. chosen text at _ _ _
    (λ t. spelled_two text at 46 46 marks.DotDot (omega arith) (omega arith) e t refl refl)
    (λ f. spelled_one text at 46 marks.Dot (omega arith) e refl refl))

colon_mark_stands : (text : List ℕ) (at : ℕ) → get_or text at 0 ≡ 58
    → Spelled text at (colon_mark (get_or text (at + 1) 0))
unfolding colon_mark spelling is_operator
colon_mark_stands text at e = chosen text at _ _ _ (λ t. spelled_two text at 58 58 marks.ColonColon (omega arith)
    (omega arith) e t refl refl) (λ f. spelled_one text at 58 marks.Colon (omega arith) e refl refl)

-- one test of a chain, and the others
pick : (text : List ℕ) (at : ℕ) (t : Bool) (x : Mark) (rest : Option Mark) (m : Mark)
    → (if t then Some x else rest) ≡ Some m → (t ≡ true → Spelled text at x) → (rest ≡ Some m → Spelled text at m)
    → Spelled text at m
pick text at true x rest m h now other = let e : x ≡ m = cc in subst (Spelled text at) e (now refl)
pick text at false x rest m h now other = other h

single_stands : (text : List ℕ) (at : ℕ) (m : Mark) → single_mark (get_or text at 0) ≡ Some m → Spelled text at m
unfolding single_mark spelling is_operator
single_stands text at m h = pick text at _ _ _ m h (λ t. spelled_one text at 126 marks.Tilde (omega arith)
    (eqb-true (get_or text at 0) 126 t) refl refl) (λ h.
    pick text at _ _ _ m h (λ t. spelled_one text at 63 marks.Question (omega arith) (eqb-true (get_or text at 0) 63 t)
    refl refl) (λ h.
    pick text at _ _ _ m h (λ t. spelled_one text at 44 marks.Comma (omega arith) (eqb-true (get_or text at 0) 44 t)
    refl refl) (λ h.
    pick text at _ _ _ m h (λ t. spelled_one text at 40 marks.OpenParenthesis (omega arith)
    (eqb-true (get_or text at 0) 40 t) refl refl) (λ h.
    pick text at _ _ _ m h (λ t. spelled_one text at 41 marks.CloseParenthesis (omega arith)
    (eqb-true (get_or text at 0) 41 t) refl refl) (λ h.
    pick text at _ _ _ m h (λ t. spelled_one text at 91 marks.OpenBracket (omega arith)
    (eqb-true (get_or text at 0) 91 t) refl refl) (λ h.
    pick text at _ _ _ m h (λ t. spelled_one text at 93 marks.CloseBracket (omega arith)
    (eqb-true (get_or text at 0) 93 t) refl refl) (λ h.
    pick text at _ _ _ m h (λ t. spelled_one text at 123 marks.OpenBrace (omega arith)
    (eqb-true (get_or text at 0) 123 t) refl refl) (λ h.
    pick text at _ _ _ m h (λ t. spelled_one text at 125 marks.CloseBrace (omega arith)
    (eqb-true (get_or text at 0) 125 t) refl refl) (λ h.
    absurd (cc))))))))))

pub mark_stands : (text : List ℕ) (at : ℕ) (m : Mark) → mark_at text at ≡ Some m → Spelled text at m
unfolding mark_of
mark_stands text at m h = pick text at _ _ _ m h (λ t. plus_mark_stands text at (eqb-true (get_or text at 0) 43 t))
    (λ h.
    pick text at _ _ _ m h (λ t. minus_mark_stands text at (eqb-true (get_or text at 0) 45 t)) (λ h.
    pick text at _ _ _ m h (λ t. star_mark_stands text at (eqb-true (get_or text at 0) 42 t)) (λ h.
    pick text at _ _ _ m h (λ t. slash_mark_stands text at (eqb-true (get_or text at 0) 47 t)) (λ h.
    pick text at _ _ _ m h (λ t. percent_mark_stands text at (eqb-true (get_or text at 0) 37 t)) (λ h.
    pick text at _ _ _ m h (λ t. caret_mark_stands text at (eqb-true (get_or text at 0) 94 t)) (λ h.
    pick text at _ _ _ m h (λ t. equal_mark_stands text at (eqb-true (get_or text at 0) 61 t)) (λ h.
    pick text at _ _ _ m h (λ t. not_mark_stands text at (eqb-true (get_or text at 0) 33 t)) (λ h.
    pick text at _ _ _ m h (λ t. less_mark_stands text at (eqb-true (get_or text at 0) 60 t)) (λ h.
    pick text at _ _ _ m h (λ t. greater_mark_stands text at (eqb-true (get_or text at 0) 62 t)) (λ h.
    pick text at _ _ _ m h (λ t. ampersand_mark_stands text at (eqb-true (get_or text at 0) 38 t)) (λ h.
    pick text at _ _ _ m h (λ t. bar_mark_stands text at (eqb-true (get_or text at 0) 124 t)) (λ h.
    pick text at _ _ _ m h (λ t. dot_mark_stands text at (eqb-true (get_or text at 0) 46 t)) (λ h.
    pick text at _ _ _ m h (λ t. colon_mark_stands text at (eqb-true (get_or text at 0) 58 t)) (λ h.
    single_stands text at m h))))))))))))))

-- ---- so the longest is found, and that alone

some_is : (a b : Mark) → Some a ≡ Some b → a ≡ b
some_is a b e = cc

pub operator_sound : (text : List ℕ) (at : ℕ) (m : Mark) → mark_at text at ≡ Some m
    → LongestOperator text at m.punctuator (at + m.length)
operator_sound text at m h =
    let s = mark_stands text at m h in
    record {
      there = record { stands = s.stands; ends = ap (λ n. at + n) s.long; operator = s.operator };
      longest = λ other q is.
          let f = finds text at q is.operator is.stands in
          let same : f.0 ≡ m = some_is f.0 m (sym f.1 ∙ h) in
          let far : length (spelling q) ≤ m.length = subst (λ (k : Mark). length (spelling q) ≤ k.length) same
          f.2.far in
          omega (arith, is.ends, far);
    }

pub operator_complete : (text : List ℕ) (at : ℕ) (q : Punctuator) (end : ℕ) → LongestOperator text at q end
    → (m : Mark) × (mark_at text at ≡ Some m) × (m.punctuator ≡ q) × (at + m.length ≡ end)
operator_complete text at q end l =
    let f = finds text at q l.there.operator l.there.stands in
    let s = mark_stands text at f.0 f.1 in
    let near = l.longest (at + f.0.length) f.0.punctuator
    (record { stands = s.stands; ends = ap (λ n. at + n) s.long; operator = s.operator }) in
    let e : f.0.length ≡ length (spelling q) = omega (arith, near, f.2.far, l.there.ends) in
    (f.0, f.1, f.2.same e, omega (arith, e, l.there.ends))
