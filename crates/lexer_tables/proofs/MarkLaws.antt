-- The table of marks against their spelling.
use Rattle.std.proofs.Common.{◌≡◌, ℕ, ◌≤◌, [], ◌∷◌, length, Bool, true, false, Option, Some, None, refl, eqb, cond, lit≤, MatchOption, IfSome, subst, sym, arith}
use Rattle.std.proofs.lemmas.Bool.{eqb-true, and_parts}
use Rattle.rb_syntax.specs.declared.punctuator.Punctuator.{Punctuator}
use Rattle.rb_syntax.specs.declared.punctuator.Punctuator.TheVariants as marks
use Rattle.lexer_tables.specs.declared.marks.Mark.{Mark}
use Rattle.lexer_tables.specs.Marks.{mark_with, mark_of, single_mark, plus_mark, minus_mark, star_mark, slash_mark, percent_mark, caret_mark, equal_mark, not_mark, less_mark, greater_mark, ampersand_mark, bar_mark, dot_mark, colon_mark}
use Rattle.lexer_tables.specs.Spelling.{mark_spelling, Begins, IsSpelled, Reaches}

pick : (t : Bool) (x y : Mark) (Q : Mark → Type 0) → (t ≡ true → Q x) → (t ≡ false → Q y) → Q (cond t x y)
pick true x y Q one other = one refl
pick false x y Q one other = other refl

pick_some : (t : Bool) (x y : Option Mark) (Q : Option Mark → Type 0) → (t ≡ true → Q x) → (t ≡ false → Q y)
    → Q (cond t x y)
pick_some true x y Q one other = one refl
pick_some false x y Q one other = other refl

long : (t : Bool) (x y : Mark) (n : ℕ) → n ≤ x.length → n ≤ y.length → n ≤ (cond t x y).length
long true x y n one other = one
long false x y n one other = other

some_bytes : (p : Punctuator) → 1 ≤ length (mark_spelling p)
some_bytes marks.Plus = lit≤ tt
some_bytes marks.Minus = lit≤ tt
some_bytes marks.Star = lit≤ tt
some_bytes marks.Slash = lit≤ tt
some_bytes marks.Percent = lit≤ tt
some_bytes marks.StarStar = lit≤ tt
some_bytes marks.Not = lit≤ tt
some_bytes marks.Tilde = lit≤ tt
some_bytes marks.Equal = lit≤ tt
some_bytes marks.CaseEqual = lit≤ tt
some_bytes marks.NotEqual = lit≤ tt
some_bytes marks.Match = lit≤ tt
some_bytes marks.NotMatch = lit≤ tt
some_bytes marks.Less = lit≤ tt
some_bytes marks.LessEqual = lit≤ tt
some_bytes marks.Greater = lit≤ tt
some_bytes marks.GreaterEqual = lit≤ tt
some_bytes marks.Compare = lit≤ tt
some_bytes marks.ShiftLeft = lit≤ tt
some_bytes marks.ShiftRight = lit≤ tt
some_bytes marks.Ampersand = lit≤ tt
some_bytes marks.Bar = lit≤ tt
some_bytes marks.OpenBar = lit≤ tt
some_bytes marks.CloseBar = lit≤ tt
some_bytes marks.Caret = lit≤ tt
some_bytes marks.AndAnd = lit≤ tt
some_bytes marks.OrOr = lit≤ tt
some_bytes marks.Assign = lit≤ tt
some_bytes marks.PlusAssign = lit≤ tt
some_bytes marks.MinusAssign = lit≤ tt
some_bytes marks.StarAssign = lit≤ tt
some_bytes marks.SlashAssign = lit≤ tt
some_bytes marks.PercentAssign = lit≤ tt
some_bytes marks.StarStarAssign = lit≤ tt
some_bytes marks.ShiftLeftAssign = lit≤ tt
some_bytes marks.ShiftRightAssign = lit≤ tt
some_bytes marks.AmpersandAssign = lit≤ tt
some_bytes marks.BarAssign = lit≤ tt
some_bytes marks.CaretAssign = lit≤ tt
some_bytes marks.AndAndAssign = lit≤ tt
some_bytes marks.OrOrAssign = lit≤ tt
some_bytes marks.DotDot = lit≤ tt
some_bytes marks.DotDotDot = lit≤ tt
some_bytes marks.Question = lit≤ tt
some_bytes marks.Colon = lit≤ tt
some_bytes marks.ColonColon = lit≤ tt
some_bytes marks.Arrow = lit≤ tt
some_bytes marks.LambdaArrow = lit≤ tt
some_bytes marks.Dot = lit≤ tt
some_bytes marks.AmpersandDot = lit≤ tt
some_bytes marks.Comma = lit≤ tt
some_bytes marks.OpenParenthesis = lit≤ tt
some_bytes marks.CloseParenthesis = lit≤ tt
some_bytes marks.OpenBracket = lit≤ tt
some_bytes marks.CloseBracket = lit≤ tt
some_bytes marks.OpenBrace = lit≤ tt
some_bytes marks.CloseBrace = lit≤ tt

plus_mark-so : (second third : ℕ) → IsSpelled 43 second third (plus_mark second)
unfolding plus_mark
plus_mark-so second third =
    pick _ _ _ (λ (m : Mark). IsSpelled 43 second third m) (λ e. let b : second ≡ 61 = eqb-true second 61 e in
    rw b (refl, refl)) (λ other.
    (refl, refl))

plus_mark-some : (second third : ℕ) → 1 ≤ (plus_mark second).length
plus_mark-some second third =
    let is : IsSpelled 43 second third (plus_mark second) = plus_mark-so second third in
    omega (arith, is.0, some_bytes (plus_mark second).punctuator)

minus_mark-so : (second third : ℕ) → IsSpelled 45 second third (minus_mark second)
unfolding minus_mark
minus_mark-so second third =
    pick _ _ _ (λ (m : Mark). IsSpelled 45 second third m) (λ e. let b : second ≡ 62 = eqb-true second 62 e in
    rw b (refl, refl)) (λ other.
    pick _ _ _ (λ (m : Mark). IsSpelled 45 second third m) (λ e. let b : second ≡ 61 = eqb-true second 61 e in
    rw b (refl, refl)) (λ other.
    (refl, refl)))

minus_mark-some : (second third : ℕ) → 1 ≤ (minus_mark second).length
minus_mark-some second third =
    let is : IsSpelled 45 second third (minus_mark second) = minus_mark-so second third in
    omega (arith, is.0, some_bytes (minus_mark second).punctuator)

star_mark-so : (second third : ℕ) → IsSpelled 42 second third (star_mark second third)
unfolding star_mark
star_mark-so second third =
    pick _ _ _ (λ (m : Mark). IsSpelled 42 second third m) (λ e. let parts : (eqb second 42 ≡ true)
    × (eqb third 61 ≡ true) = and_parts _ _ e in let b : second ≡ 42 = eqb-true second 42 parts.0 in
    let c : third ≡ 61 = eqb-true third 61 parts.1 in rw (b, c) (refl, refl)) (λ other.
    pick _ _ _ (λ (m : Mark). IsSpelled 42 second third m) (λ e. let b : second ≡ 42 = eqb-true second 42 e in
    rw b (refl, refl)) (λ other.
    pick _ _ _ (λ (m : Mark). IsSpelled 42 second third m) (λ e. let b : second ≡ 61 = eqb-true second 61 e in
    rw b (refl, refl)) (λ other.
    (refl, refl))))

star_mark-some : (second third : ℕ) → 1 ≤ (star_mark second third).length
star_mark-some second third =
    let is : IsSpelled 42 second third (star_mark second third) = star_mark-so second third in
    omega (arith, is.0, some_bytes (star_mark second third).punctuator)

slash_mark-so : (second third : ℕ) → IsSpelled 47 second third (slash_mark second)
unfolding slash_mark
slash_mark-so second third =
    pick _ _ _ (λ (m : Mark). IsSpelled 47 second third m) (λ e. let b : second ≡ 61 = eqb-true second 61 e in
    rw b (refl, refl)) (λ other.
    (refl, refl))

slash_mark-some : (second third : ℕ) → 1 ≤ (slash_mark second).length
slash_mark-some second third =
    let is : IsSpelled 47 second third (slash_mark second) = slash_mark-so second third in
    omega (arith, is.0, some_bytes (slash_mark second).punctuator)

percent_mark-so : (second third : ℕ) → IsSpelled 37 second third (percent_mark second)
unfolding percent_mark
percent_mark-so second third =
    pick _ _ _ (λ (m : Mark). IsSpelled 37 second third m) (λ e. let b : second ≡ 61 = eqb-true second 61 e in
    rw b (refl, refl)) (λ other.
    (refl, refl))

percent_mark-some : (second third : ℕ) → 1 ≤ (percent_mark second).length
percent_mark-some second third =
    let is : IsSpelled 37 second third (percent_mark second) = percent_mark-so second third in
    omega (arith, is.0, some_bytes (percent_mark second).punctuator)

caret_mark-so : (second third : ℕ) → IsSpelled 94 second third (caret_mark second)
unfolding caret_mark
caret_mark-so second third =
    pick _ _ _ (λ (m : Mark). IsSpelled 94 second third m) (λ e. let b : second ≡ 61 = eqb-true second 61 e in
    rw b (refl, refl)) (λ other.
    (refl, refl))

caret_mark-some : (second third : ℕ) → 1 ≤ (caret_mark second).length
caret_mark-some second third =
    let is : IsSpelled 94 second third (caret_mark second) = caret_mark-so second third in
    omega (arith, is.0, some_bytes (caret_mark second).punctuator)

equal_mark-so : (second third : ℕ) → IsSpelled 61 second third (equal_mark second third)
unfolding equal_mark
equal_mark-so second third =
    pick _ _ _ (λ (m : Mark). IsSpelled 61 second third m) (λ e. let parts : (eqb second 61 ≡ true)
    × (eqb third 61 ≡ true) = and_parts _ _ e in let b : second ≡ 61 = eqb-true second 61 parts.0 in
    let c : third ≡ 61 = eqb-true third 61 parts.1 in rw (b, c) (refl, refl)) (λ other.
    pick _ _ _ (λ (m : Mark). IsSpelled 61 second third m) (λ e. let b : second ≡ 61 = eqb-true second 61 e in
    rw b (refl, refl)) (λ other.
    pick _ _ _ (λ (m : Mark). IsSpelled 61 second third m) (λ e. let b : second ≡ 126 = eqb-true second 126 e in
    rw b (refl, refl)) (λ other.
    pick _ _ _ (λ (m : Mark). IsSpelled 61 second third m) (λ e. let b : second ≡ 62 = eqb-true second 62 e in
    rw b (refl, refl)) (λ other.
    (refl, refl)))))

equal_mark-some : (second third : ℕ) → 1 ≤ (equal_mark second third).length
equal_mark-some second third =
    let is : IsSpelled 61 second third (equal_mark second third) = equal_mark-so second third in
    omega (arith, is.0, some_bytes (equal_mark second third).punctuator)

not_mark-so : (second third : ℕ) → IsSpelled 33 second third (not_mark second)
unfolding not_mark
not_mark-so second third =
    pick _ _ _ (λ (m : Mark). IsSpelled 33 second third m) (λ e. let b : second ≡ 61 = eqb-true second 61 e in
    rw b (refl, refl)) (λ other.
    pick _ _ _ (λ (m : Mark). IsSpelled 33 second third m) (λ e. let b : second ≡ 126 = eqb-true second 126 e in
    rw b (refl, refl)) (λ other.
    (refl, refl)))

not_mark-some : (second third : ℕ) → 1 ≤ (not_mark second).length
not_mark-some second third =
    let is : IsSpelled 33 second third (not_mark second) = not_mark-so second third in
    omega (arith, is.0, some_bytes (not_mark second).punctuator)

less_mark-so : (second third : ℕ) → IsSpelled 60 second third (less_mark second third)
unfolding less_mark
less_mark-so second third =
    pick _ _ _ (λ (m : Mark). IsSpelled 60 second third m) (λ e. let parts : (eqb second 61 ≡ true)
    × (eqb third 62 ≡ true) = and_parts _ _ e in let b : second ≡ 61 = eqb-true second 61 parts.0 in
    let c : third ≡ 62 = eqb-true third 62 parts.1 in rw (b, c) (refl, refl)) (λ other.
    pick _ _ _ (λ (m : Mark). IsSpelled 60 second third m) (λ e. let b : second ≡ 61 = eqb-true second 61 e in
    rw b (refl, refl)) (λ other.
    pick _ _ _ (λ (m : Mark). IsSpelled 60 second third m) (λ e. let parts : (eqb second 60 ≡ true)
    × (eqb third 61 ≡ true) = and_parts _ _ e in let b : second ≡ 60 = eqb-true second 60 parts.0 in
    let c : third ≡ 61 = eqb-true third 61 parts.1 in rw (b, c) (refl, refl)) (λ other.
    pick _ _ _ (λ (m : Mark). IsSpelled 60 second third m) (λ e. let b : second ≡ 60 = eqb-true second 60 e in
    rw b (refl, refl)) (λ other.
    (refl, refl)))))

less_mark-some : (second third : ℕ) → 1 ≤ (less_mark second third).length
less_mark-some second third =
    let is : IsSpelled 60 second third (less_mark second third) = less_mark-so second third in
    omega (arith, is.0, some_bytes (less_mark second third).punctuator)

greater_mark-so : (second third : ℕ) → IsSpelled 62 second third (greater_mark second third)
unfolding greater_mark
greater_mark-so second third =
    pick _ _ _ (λ (m : Mark). IsSpelled 62 second third m) (λ e. let b : second ≡ 61 = eqb-true second 61 e in
    rw b (refl, refl)) (λ other.
    pick _ _ _ (λ (m : Mark). IsSpelled 62 second third m) (λ e. let parts : (eqb second 62 ≡ true)
    × (eqb third 61 ≡ true) = and_parts _ _ e in let b : second ≡ 62 = eqb-true second 62 parts.0 in
    let c : third ≡ 61 = eqb-true third 61 parts.1 in rw (b, c) (refl, refl)) (λ other.
    pick _ _ _ (λ (m : Mark). IsSpelled 62 second third m) (λ e. let b : second ≡ 62 = eqb-true second 62 e in
    rw b (refl, refl)) (λ other.
    (refl, refl))))

greater_mark-some : (second third : ℕ) → 1 ≤ (greater_mark second third).length
greater_mark-some second third =
    let is : IsSpelled 62 second third (greater_mark second third) = greater_mark-so second third in
    omega (arith, is.0, some_bytes (greater_mark second third).punctuator)

ampersand_mark-so : (second third : ℕ) → IsSpelled 38 second third (ampersand_mark second third)
unfolding ampersand_mark
ampersand_mark-so second third =
    pick _ _ _ (λ (m : Mark). IsSpelled 38 second third m) (λ e. let parts : (eqb second 38 ≡ true)
    × (eqb third 61 ≡ true) = and_parts _ _ e in let b : second ≡ 38 = eqb-true second 38 parts.0 in
    let c : third ≡ 61 = eqb-true third 61 parts.1 in rw (b, c) (refl, refl)) (λ other.
    pick _ _ _ (λ (m : Mark). IsSpelled 38 second third m) (λ e. let b : second ≡ 38 = eqb-true second 38 e in
    rw b (refl, refl)) (λ other.
    pick _ _ _ (λ (m : Mark). IsSpelled 38 second third m) (λ e. let b : second ≡ 61 = eqb-true second 61 e in
    rw b (refl, refl)) (λ other.
    pick _ _ _ (λ (m : Mark). IsSpelled 38 second third m) (λ e. let b : second ≡ 46 = eqb-true second 46 e in
    rw b (refl, refl)) (λ other.
    (refl, refl)))))

ampersand_mark-some : (second third : ℕ) → 1 ≤ (ampersand_mark second third).length
ampersand_mark-some second third =
    let is : IsSpelled 38 second third (ampersand_mark second third) = ampersand_mark-so second third in
    omega (arith, is.0, some_bytes (ampersand_mark second third).punctuator)

bar_mark-so : (second third : ℕ) → IsSpelled 124 second third (bar_mark second third)
unfolding bar_mark
bar_mark-so second third =
    pick _ _ _ (λ (m : Mark). IsSpelled 124 second third m) (λ e. let parts : (eqb second 124 ≡ true)
    × (eqb third 61 ≡ true) = and_parts _ _ e in let b : second ≡ 124 = eqb-true second 124 parts.0 in
    let c : third ≡ 61 = eqb-true third 61 parts.1 in rw (b, c) (refl, refl)) (λ other.
    pick _ _ _ (λ (m : Mark). IsSpelled 124 second third m) (λ e. let b : second ≡ 124 = eqb-true second 124 e in
    rw b (refl, refl)) (λ other.
    pick _ _ _ (λ (m : Mark). IsSpelled 124 second third m) (λ e. let b : second ≡ 61 = eqb-true second 61 e in
    rw b (refl, refl)) (λ other.
    (refl, refl))))

bar_mark-some : (second third : ℕ) → 1 ≤ (bar_mark second third).length
bar_mark-some second third =
    let is : IsSpelled 124 second third (bar_mark second third) = bar_mark-so second third in
    omega (arith, is.0, some_bytes (bar_mark second third).punctuator)

dot_mark-so : (second third : ℕ) → IsSpelled 46 second third (dot_mark second third)
unfolding dot_mark
dot_mark-so second third =
    pick _ _ _ (λ (m : Mark). IsSpelled 46 second third m) (λ e. let parts : (eqb second 46 ≡ true)
    × (eqb third 46 ≡ true) = and_parts _ _ e in let b : second ≡ 46 = eqb-true second 46 parts.0 in
    let c : third ≡ 46 = eqb-true third 46 parts.1 in rw (b, c) (refl, refl)) (λ other.
    pick _ _ _ (λ (m : Mark). IsSpelled 46 second third m) (λ e. let b : second ≡ 46 = eqb-true second 46 e in
    rw b (refl, refl)) (λ other.
    (refl, refl)))

dot_mark-some : (second third : ℕ) → 1 ≤ (dot_mark second third).length
dot_mark-some second third =
    let is : IsSpelled 46 second third (dot_mark second third) = dot_mark-so second third in
    omega (arith, is.0, some_bytes (dot_mark second third).punctuator)

colon_mark-so : (second third : ℕ) → IsSpelled 58 second third (colon_mark second)
unfolding colon_mark
colon_mark-so second third =
    pick _ _ _ (λ (m : Mark). IsSpelled 58 second third m) (λ e. let b : second ≡ 58 = eqb-true second 58 e in
    rw b (refl, refl)) (λ other.
    (refl, refl))

colon_mark-some : (second third : ℕ) → 1 ≤ (colon_mark second).length
colon_mark-some second third =
    let is : IsSpelled 58 second third (colon_mark second) = colon_mark-so second third in
    omega (arith, is.0, some_bytes (colon_mark second).punctuator)

single-so : (first second third : ℕ) → MatchOption (single_mark first) (Unit {0}) (λ m. IsSpelled first second third m)
unfolding single_mark
single-so first second third =
    pick_some _ _ _ (λ (o : Option Mark). MatchOption o (Unit {0}) (λ m. IsSpelled first second third m))
    (λ e. let a : first ≡ 126 = eqb-true first 126 e in rw a (refl, refl)) (λ other.
    pick_some _ _ _ (λ (o : Option Mark). MatchOption o (Unit {0}) (λ m. IsSpelled first second third m))
    (λ e. let a : first ≡ 63 = eqb-true first 63 e in rw a (refl, refl)) (λ other.
    pick_some _ _ _ (λ (o : Option Mark). MatchOption o (Unit {0}) (λ m. IsSpelled first second third m))
    (λ e. let a : first ≡ 44 = eqb-true first 44 e in rw a (refl, refl)) (λ other.
    pick_some _ _ _ (λ (o : Option Mark). MatchOption o (Unit {0}) (λ m. IsSpelled first second third m))
    (λ e. let a : first ≡ 40 = eqb-true first 40 e in rw a (refl, refl)) (λ other.
    pick_some _ _ _ (λ (o : Option Mark). MatchOption o (Unit {0}) (λ m. IsSpelled first second third m))
    (λ e. let a : first ≡ 41 = eqb-true first 41 e in rw a (refl, refl)) (λ other.
    pick_some _ _ _ (λ (o : Option Mark). MatchOption o (Unit {0}) (λ m. IsSpelled first second third m))
    (λ e. let a : first ≡ 91 = eqb-true first 91 e in rw a (refl, refl)) (λ other.
    pick_some _ _ _ (λ (o : Option Mark). MatchOption o (Unit {0}) (λ m. IsSpelled first second third m))
    (λ e. let a : first ≡ 93 = eqb-true first 93 e in rw a (refl, refl)) (λ other.
    pick_some _ _ _ (λ (o : Option Mark). MatchOption o (Unit {0}) (λ m. IsSpelled first second third m))
    (λ e. let a : first ≡ 123 = eqb-true first 123 e in rw a (refl, refl)) (λ other.
    pick_some _ _ _ (λ (o : Option Mark). MatchOption o (Unit {0}) (λ m. IsSpelled first second third m))
    (λ e. let a : first ≡ 125 = eqb-true first 125 e in rw a (refl, refl)) (λ other.
    tt)))))))))

-- the mark that is found is spelled at the start of the bytes
so : (first second third : ℕ) → MatchOption (mark_of first second third) (Unit {0})
    (λ m. IsSpelled first second third m)
unfolding mark_of
so first second third =
    pick_some _ _ _ (λ (o : Option Mark). MatchOption o (Unit {0}) (λ m. IsSpelled first second third m))
    (λ e. let a : first ≡ 43 = eqb-true first 43 e in rw a (plus_mark-so second third)) (λ other.
    pick_some _ _ _ (λ (o : Option Mark). MatchOption o (Unit {0}) (λ m. IsSpelled first second third m))
    (λ e. let a : first ≡ 45 = eqb-true first 45 e in rw a (minus_mark-so second third)) (λ other.
    pick_some _ _ _ (λ (o : Option Mark). MatchOption o (Unit {0}) (λ m. IsSpelled first second third m))
    (λ e. let a : first ≡ 42 = eqb-true first 42 e in rw a (star_mark-so second third)) (λ other.
    pick_some _ _ _ (λ (o : Option Mark). MatchOption o (Unit {0}) (λ m. IsSpelled first second third m))
    (λ e. let a : first ≡ 47 = eqb-true first 47 e in rw a (slash_mark-so second third)) (λ other.
    pick_some _ _ _ (λ (o : Option Mark). MatchOption o (Unit {0}) (λ m. IsSpelled first second third m))
    (λ e. let a : first ≡ 37 = eqb-true first 37 e in rw a (percent_mark-so second third)) (λ other.
    pick_some _ _ _ (λ (o : Option Mark). MatchOption o (Unit {0}) (λ m. IsSpelled first second third m))
    (λ e. let a : first ≡ 94 = eqb-true first 94 e in rw a (caret_mark-so second third)) (λ other.
    pick_some _ _ _ (λ (o : Option Mark). MatchOption o (Unit {0}) (λ m. IsSpelled first second third m))
    (λ e. let a : first ≡ 61 = eqb-true first 61 e in rw a (equal_mark-so second third)) (λ other.
    pick_some _ _ _ (λ (o : Option Mark). MatchOption o (Unit {0}) (λ m. IsSpelled first second third m))
    (λ e. let a : first ≡ 33 = eqb-true first 33 e in rw a (not_mark-so second third)) (λ other.
    pick_some _ _ _ (λ (o : Option Mark). MatchOption o (Unit {0}) (λ m. IsSpelled first second third m))
    (λ e. let a : first ≡ 60 = eqb-true first 60 e in rw a (less_mark-so second third)) (λ other.
    pick_some _ _ _ (λ (o : Option Mark). MatchOption o (Unit {0}) (λ m. IsSpelled first second third m))
    (λ e. let a : first ≡ 62 = eqb-true first 62 e in rw a (greater_mark-so second third)) (λ other.
    pick_some _ _ _ (λ (o : Option Mark). MatchOption o (Unit {0}) (λ m. IsSpelled first second third m))
    (λ e. let a : first ≡ 38 = eqb-true first 38 e in rw a (ampersand_mark-so second third)) (λ other.
    pick_some _ _ _ (λ (o : Option Mark). MatchOption o (Unit {0}) (λ m. IsSpelled first second third m))
    (λ e. let a : first ≡ 124 = eqb-true first 124 e in rw a (bar_mark-so second third)) (λ other.
    pick_some _ _ _ (λ (o : Option Mark). MatchOption o (Unit {0}) (λ m. IsSpelled first second third m))
    (λ e. let a : first ≡ 46 = eqb-true first 46 e in rw a (dot_mark-so second third)) (λ other.
    pick_some _ _ _ (λ (o : Option Mark). MatchOption o (Unit {0}) (λ m. IsSpelled first second third m))
    (λ e. let a : first ≡ 58 = eqb-true first 58 e in rw a (colon_mark-so second third)) (λ other.
    single-so first second third))))))))))))))

-- it is as long as each mark that is spelled there
longest : (p : Punctuator) (first second third : ℕ) → Begins p first second third
    → Reaches p (mark_of first second third)
unfolding mark_of single_mark plus_mark minus_mark star_mark slash_mark percent_mark caret_mark equal_mark not_mark less_mark greater_mark ampersand_mark bar_mark dot_mark colon_mark
longest marks.Plus first second third h =
    let same : first ∷ [] ≡ 43 ∷ [] = h in
    let f-is : first ≡ 43 = cc in
    rw (f-is) (plus_mark-some second third)
longest marks.Minus first second third h =
    let same : first ∷ [] ≡ 45 ∷ [] = h in
    let f-is : first ≡ 45 = cc in
    rw (f-is) (minus_mark-some second third)
longest marks.Star first second third h =
    let same : first ∷ [] ≡ 42 ∷ [] = h in
    let f-is : first ≡ 42 = cc in
    rw (f-is) (star_mark-some second third)
longest marks.Slash first second third h =
    let same : first ∷ [] ≡ 47 ∷ [] = h in
    let f-is : first ≡ 47 = cc in
    rw (f-is) (slash_mark-some second third)
longest marks.Percent first second third h =
    let same : first ∷ [] ≡ 37 ∷ [] = h in
    let f-is : first ≡ 37 = cc in
    rw (f-is) (percent_mark-some second third)
longest marks.StarStar first second third h =
    let same : first ∷ second ∷ [] ≡ 42 ∷ 42 ∷ [] = h in
    let f-is : first ≡ 42 = cc in
    let s-is : second ≡ 42 = cc in
    rw (f-is, s-is) (long (eqb third 61) (mark_with marks.StarStarAssign 3) (mark_with marks.StarStar 2) 2 (lit≤ tt)
    (lit≤ tt))
longest marks.Not first second third h =
    let same : first ∷ [] ≡ 33 ∷ [] = h in
    let f-is : first ≡ 33 = cc in
    rw (f-is) (not_mark-some second third)
longest marks.Tilde first second third h =
    let same : first ∷ [] ≡ 126 ∷ [] = h in
    let f-is : first ≡ 126 = cc in
    rw (f-is) (lit≤ tt)
longest marks.Equal first second third h =
    let same : first ∷ second ∷ [] ≡ 61 ∷ 61 ∷ [] = h in
    let f-is : first ≡ 61 = cc in
    let s-is : second ≡ 61 = cc in
    rw (f-is, s-is) (long (eqb third 61) (mark_with marks.CaseEqual 3) (mark_with marks.Equal 2) 2 (lit≤ tt) (lit≤ tt))
longest marks.CaseEqual first second third h =
    let same : first ∷ second ∷ third ∷ [] ≡ 61 ∷ 61 ∷ 61 ∷ [] = h in
    let f-is : first ≡ 61 = cc in
    let s-is : second ≡ 61 = cc in
    let t-is : third ≡ 61 = cc in
    rw (f-is, s-is, t-is) (lit≤ tt)
longest marks.NotEqual first second third h =
    let same : first ∷ second ∷ [] ≡ 33 ∷ 61 ∷ [] = h in
    let f-is : first ≡ 33 = cc in
    let s-is : second ≡ 61 = cc in
    rw (f-is, s-is) (lit≤ tt)
longest marks.Match first second third h =
    let same : first ∷ second ∷ [] ≡ 61 ∷ 126 ∷ [] = h in
    let f-is : first ≡ 61 = cc in
    let s-is : second ≡ 126 = cc in
    rw (f-is, s-is) (lit≤ tt)
longest marks.NotMatch first second third h =
    let same : first ∷ second ∷ [] ≡ 33 ∷ 126 ∷ [] = h in
    let f-is : first ≡ 33 = cc in
    let s-is : second ≡ 126 = cc in
    rw (f-is, s-is) (lit≤ tt)
longest marks.Less first second third h =
    let same : first ∷ [] ≡ 60 ∷ [] = h in
    let f-is : first ≡ 60 = cc in
    rw (f-is) (less_mark-some second third)
longest marks.LessEqual first second third h =
    let same : first ∷ second ∷ [] ≡ 60 ∷ 61 ∷ [] = h in
    let f-is : first ≡ 60 = cc in
    let s-is : second ≡ 61 = cc in
    rw (f-is, s-is) (long (eqb third 62) (mark_with marks.Compare 3) (mark_with marks.LessEqual 2) 2 (lit≤ tt)
    (lit≤ tt))
longest marks.Greater first second third h =
    let same : first ∷ [] ≡ 62 ∷ [] = h in
    let f-is : first ≡ 62 = cc in
    rw (f-is) (greater_mark-some second third)
longest marks.GreaterEqual first second third h =
    let same : first ∷ second ∷ [] ≡ 62 ∷ 61 ∷ [] = h in
    let f-is : first ≡ 62 = cc in
    let s-is : second ≡ 61 = cc in
    rw (f-is, s-is) (lit≤ tt)
longest marks.Compare first second third h =
    let same : first ∷ second ∷ third ∷ [] ≡ 60 ∷ 61 ∷ 62 ∷ [] = h in
    let f-is : first ≡ 60 = cc in
    let s-is : second ≡ 61 = cc in
    let t-is : third ≡ 62 = cc in
    rw (f-is, s-is, t-is) (lit≤ tt)
longest marks.ShiftLeft first second third h =
    let same : first ∷ second ∷ [] ≡ 60 ∷ 60 ∷ [] = h in
    let f-is : first ≡ 60 = cc in
    let s-is : second ≡ 60 = cc in
    rw (f-is, s-is) (long (eqb third 61) (mark_with marks.ShiftLeftAssign 3) (mark_with marks.ShiftLeft 2) 2 (lit≤ tt)
    (lit≤ tt))
longest marks.ShiftRight first second third h =
    let same : first ∷ second ∷ [] ≡ 62 ∷ 62 ∷ [] = h in
    let f-is : first ≡ 62 = cc in
    let s-is : second ≡ 62 = cc in
    rw (f-is, s-is) (long (eqb third 61) (mark_with marks.ShiftRightAssign 3) (mark_with marks.ShiftRight 2) 2 (lit≤ tt)
    (lit≤ tt))
longest marks.Ampersand first second third h =
    let same : first ∷ [] ≡ 38 ∷ [] = h in
    let f-is : first ≡ 38 = cc in
    rw (f-is) (ampersand_mark-some second third)
longest marks.Bar first second third h =
    let same : first ∷ [] ≡ 124 ∷ [] = h in
    let f-is : first ≡ 124 = cc in
    rw (f-is) (bar_mark-some second third)
longest marks.OpenBar first second third h =
    let same : first ∷ [] ≡ 124 ∷ [] = h in
    let f-is : first ≡ 124 = cc in
    rw (f-is) (bar_mark-some second third)
longest marks.CloseBar first second third h =
    let same : first ∷ [] ≡ 124 ∷ [] = h in
    let f-is : first ≡ 124 = cc in
    rw (f-is) (bar_mark-some second third)
longest marks.Caret first second third h =
    let same : first ∷ [] ≡ 94 ∷ [] = h in
    let f-is : first ≡ 94 = cc in
    rw (f-is) (caret_mark-some second third)
longest marks.AndAnd first second third h =
    let same : first ∷ second ∷ [] ≡ 38 ∷ 38 ∷ [] = h in
    let f-is : first ≡ 38 = cc in
    let s-is : second ≡ 38 = cc in
    rw (f-is, s-is) (long (eqb third 61) (mark_with marks.AndAndAssign 3) (mark_with marks.AndAnd 2) 2 (lit≤ tt)
    (lit≤ tt))
longest marks.OrOr first second third h =
    let same : first ∷ second ∷ [] ≡ 124 ∷ 124 ∷ [] = h in
    let f-is : first ≡ 124 = cc in
    let s-is : second ≡ 124 = cc in
    rw (f-is, s-is) (long (eqb third 61) (mark_with marks.OrOrAssign 3) (mark_with marks.OrOr 2) 2 (lit≤ tt) (lit≤ tt))
longest marks.Assign first second third h =
    let same : first ∷ [] ≡ 61 ∷ [] = h in
    let f-is : first ≡ 61 = cc in
    rw (f-is) (equal_mark-some second third)
longest marks.PlusAssign first second third h =
    let same : first ∷ second ∷ [] ≡ 43 ∷ 61 ∷ [] = h in
    let f-is : first ≡ 43 = cc in
    let s-is : second ≡ 61 = cc in
    rw (f-is, s-is) (lit≤ tt)
longest marks.MinusAssign first second third h =
    let same : first ∷ second ∷ [] ≡ 45 ∷ 61 ∷ [] = h in
    let f-is : first ≡ 45 = cc in
    let s-is : second ≡ 61 = cc in
    rw (f-is, s-is) (lit≤ tt)
longest marks.StarAssign first second third h =
    let same : first ∷ second ∷ [] ≡ 42 ∷ 61 ∷ [] = h in
    let f-is : first ≡ 42 = cc in
    let s-is : second ≡ 61 = cc in
    rw (f-is, s-is) (lit≤ tt)
longest marks.SlashAssign first second third h =
    let same : first ∷ second ∷ [] ≡ 47 ∷ 61 ∷ [] = h in
    let f-is : first ≡ 47 = cc in
    let s-is : second ≡ 61 = cc in
    rw (f-is, s-is) (lit≤ tt)
longest marks.PercentAssign first second third h =
    let same : first ∷ second ∷ [] ≡ 37 ∷ 61 ∷ [] = h in
    let f-is : first ≡ 37 = cc in
    let s-is : second ≡ 61 = cc in
    rw (f-is, s-is) (lit≤ tt)
longest marks.StarStarAssign first second third h =
    let same : first ∷ second ∷ third ∷ [] ≡ 42 ∷ 42 ∷ 61 ∷ [] = h in
    let f-is : first ≡ 42 = cc in
    let s-is : second ≡ 42 = cc in
    let t-is : third ≡ 61 = cc in
    rw (f-is, s-is, t-is) (lit≤ tt)
longest marks.ShiftLeftAssign first second third h =
    let same : first ∷ second ∷ third ∷ [] ≡ 60 ∷ 60 ∷ 61 ∷ [] = h in
    let f-is : first ≡ 60 = cc in
    let s-is : second ≡ 60 = cc in
    let t-is : third ≡ 61 = cc in
    rw (f-is, s-is, t-is) (lit≤ tt)
longest marks.ShiftRightAssign first second third h =
    let same : first ∷ second ∷ third ∷ [] ≡ 62 ∷ 62 ∷ 61 ∷ [] = h in
    let f-is : first ≡ 62 = cc in
    let s-is : second ≡ 62 = cc in
    let t-is : third ≡ 61 = cc in
    rw (f-is, s-is, t-is) (lit≤ tt)
longest marks.AmpersandAssign first second third h =
    let same : first ∷ second ∷ [] ≡ 38 ∷ 61 ∷ [] = h in
    let f-is : first ≡ 38 = cc in
    let s-is : second ≡ 61 = cc in
    rw (f-is, s-is) (lit≤ tt)
longest marks.BarAssign first second third h =
    let same : first ∷ second ∷ [] ≡ 124 ∷ 61 ∷ [] = h in
    let f-is : first ≡ 124 = cc in
    let s-is : second ≡ 61 = cc in
    rw (f-is, s-is) (lit≤ tt)
longest marks.CaretAssign first second third h =
    let same : first ∷ second ∷ [] ≡ 94 ∷ 61 ∷ [] = h in
    let f-is : first ≡ 94 = cc in
    let s-is : second ≡ 61 = cc in
    rw (f-is, s-is) (lit≤ tt)
longest marks.AndAndAssign first second third h =
    let same : first ∷ second ∷ third ∷ [] ≡ 38 ∷ 38 ∷ 61 ∷ [] = h in
    let f-is : first ≡ 38 = cc in
    let s-is : second ≡ 38 = cc in
    let t-is : third ≡ 61 = cc in
    rw (f-is, s-is, t-is) (lit≤ tt)
longest marks.OrOrAssign first second third h =
    let same : first ∷ second ∷ third ∷ [] ≡ 124 ∷ 124 ∷ 61 ∷ [] = h in
    let f-is : first ≡ 124 = cc in
    let s-is : second ≡ 124 = cc in
    let t-is : third ≡ 61 = cc in
    rw (f-is, s-is, t-is) (lit≤ tt)
longest marks.DotDot first second third h =
    let same : first ∷ second ∷ [] ≡ 46 ∷ 46 ∷ [] = h in
    let f-is : first ≡ 46 = cc in
    let s-is : second ≡ 46 = cc in
    rw (f-is, s-is) (long (eqb third 46) (mark_with marks.DotDotDot 3) (mark_with marks.DotDot 2) 2 (lit≤ tt) (lit≤ tt))
longest marks.DotDotDot first second third h =
    let same : first ∷ second ∷ third ∷ [] ≡ 46 ∷ 46 ∷ 46 ∷ [] = h in
    let f-is : first ≡ 46 = cc in
    let s-is : second ≡ 46 = cc in
    let t-is : third ≡ 46 = cc in
    rw (f-is, s-is, t-is) (lit≤ tt)
longest marks.Question first second third h =
    let same : first ∷ [] ≡ 63 ∷ [] = h in
    let f-is : first ≡ 63 = cc in
    rw (f-is) (lit≤ tt)
longest marks.Colon first second third h =
    let same : first ∷ [] ≡ 58 ∷ [] = h in
    let f-is : first ≡ 58 = cc in
    rw (f-is) (colon_mark-some second third)
longest marks.ColonColon first second third h =
    let same : first ∷ second ∷ [] ≡ 58 ∷ 58 ∷ [] = h in
    let f-is : first ≡ 58 = cc in
    let s-is : second ≡ 58 = cc in
    rw (f-is, s-is) (lit≤ tt)
longest marks.Arrow first second third h =
    let same : first ∷ second ∷ [] ≡ 61 ∷ 62 ∷ [] = h in
    let f-is : first ≡ 61 = cc in
    let s-is : second ≡ 62 = cc in
    rw (f-is, s-is) (lit≤ tt)
longest marks.LambdaArrow first second third h =
    let same : first ∷ second ∷ [] ≡ 45 ∷ 62 ∷ [] = h in
    let f-is : first ≡ 45 = cc in
    let s-is : second ≡ 62 = cc in
    rw (f-is, s-is) (lit≤ tt)
longest marks.Dot first second third h =
    let same : first ∷ [] ≡ 46 ∷ [] = h in
    let f-is : first ≡ 46 = cc in
    rw (f-is) (dot_mark-some second third)
longest marks.AmpersandDot first second third h =
    let same : first ∷ second ∷ [] ≡ 38 ∷ 46 ∷ [] = h in
    let f-is : first ≡ 38 = cc in
    let s-is : second ≡ 46 = cc in
    rw (f-is, s-is) (lit≤ tt)
longest marks.Comma first second third h =
    let same : first ∷ [] ≡ 44 ∷ [] = h in
    let f-is : first ≡ 44 = cc in
    rw (f-is) (lit≤ tt)
longest marks.OpenParenthesis first second third h =
    let same : first ∷ [] ≡ 40 ∷ [] = h in
    let f-is : first ≡ 40 = cc in
    rw (f-is) (lit≤ tt)
longest marks.CloseParenthesis first second third h =
    let same : first ∷ [] ≡ 41 ∷ [] = h in
    let f-is : first ≡ 41 = cc in
    rw (f-is) (lit≤ tt)
longest marks.OpenBracket first second third h =
    let same : first ∷ [] ≡ 91 ∷ [] = h in
    let f-is : first ≡ 91 = cc in
    rw (f-is) (lit≤ tt)
longest marks.CloseBracket first second third h =
    let same : first ∷ [] ≡ 93 ∷ [] = h in
    let f-is : first ≡ 93 = cc in
    rw (f-is) (lit≤ tt)
longest marks.OpenBrace first second third h =
    let same : first ∷ [] ≡ 123 ∷ [] = h in
    let f-is : first ≡ 123 = cc in
    rw (f-is) (lit≤ tt)
longest marks.CloseBrace first second third h =
    let same : first ∷ [] ≡ 125 ∷ [] = h in
    let f-is : first ≡ 125 = cc in
    rw (f-is) (lit≤ tt)

pub longest_found : (o : Option Mark) (first second third : ℕ) → o ≡ mark_of first second third → (p : Punctuator)
    → Begins p first second third → Reaches p o
longest_found o first second third same p begins = subst (λ (x : Option Mark). Reaches p x) (sym same)
    (longest p first second third begins)

if_some : (o : Option Mark) (P : Mark → Type 0) → MatchOption o (Unit {0}) P → IfSome o P
if_some None P holds = tt
if_some (Some m) P holds = holds

pub found_so : (o : Option Mark) (first second third : ℕ) → o ≡ mark_of first second third
    → IfSome o (λ m. IsSpelled first second third m)
found_so o first second third same = subst (λ (x : Option Mark). IfSome x (λ m. IsSpelled first second third m))
    (sym same) (if_some (mark_of first second third) (λ m. IsSpelled first second third m) (so first second third))
