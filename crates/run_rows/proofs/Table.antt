-- The rows of the table under their names.
use Rattle.std.proofs.Common.{◌≡◌, ℕ, zero, suc, ◌-◌, ◌/◌, ◌%◌, Bool, true, false, refl, ap, ◌∙◌, arith}
use Rattle.std.specs.Prelude.{List, [], ◌∷◌, length, slice_get, nat_eq, Some, None, Ok, Err, if◌then◌else◌}
use Rattle.row_table.specs.declared.line.Line.{Line}
use Rattle.row_table.specs.Names as table
use Rattle.row_table.specs.Names.{integer_names, nil_names, truth_names, string_names, string_class_names, symbol_names, range_names, range_class_names}
use Rattle.row_table.specs.RowTable.{line_at, segment}
use Rattle.run_rows.specs.Named.{under, of_line, hidden, hidden_rows, first}
use Rattle.run_rows.specs.Numbered.{row_in}

under_there : (names : List (List ℕ)) (lines : List Line) (k : ℕ) (line : Line) → length names ≡ length lines
    → slice_get lines k ≡ Some line → row_in (under names lines) k ≡ Ok (of_line line)
unfolding row_in under
under_there [] [] k line same e = cc e
under_there [] (l ∷ ls) k line same e = absurd (omega (arith, same))
under_there (n ∷ ns) [] k line same e = cc e
under_there (n ∷ ns) (l ∷ ls) zero line same e = cc e
under_there (n ∷ ns) (l ∷ ls) (suc k) line same e = under_there ns ls k line (omega (arith, same)) e

under_behind : (names : List (List ℕ)) (lines : List Line) (k : ℕ) → length names ≡ length lines
    → slice_get lines k ≡ None → row_in (under names lines) k ≡ Err (k - length names)
unfolding row_in under
under_behind [] lines k same e = let left : k ≡ k - 0 = omega arith in ap Err left
under_behind (n ∷ ns) [] k same e = absurd (omega (arith, same))
under_behind (n ∷ ns) (l ∷ ls) zero same e = cc e
under_behind (n ∷ ns) (l ∷ ls) (suc k) same e =
    let less : k - length ns ≡ suc k - length (n ∷ ns) = omega arith in
    under_behind ns ls k (omega (arith, same)) e ∙ ap Err less

-- each segment has as many names as rows

either : (b : Bool) (xs ys : List (List ℕ)) (ls ms : List Line) → length xs ≡ length ls → length ys ≡ length ms
    → length (if b then xs else ys) ≡ length (if b then ls else ms)
either true xs ys ls ms e f = e
either false xs ys ls ms e f = f

pub named_all : (s : ℕ) → length (table.names s) ≡ length (segment s)
unfolding segment integer_names nil_names truth_names string_names string_class_names symbol_names range_names
    range_class_names
named_all s =
    either (nat_eq s 14) _ _ _ _ refl (either (nat_eq s 16) _ _ _ _ refl (either (nat_eq s 18) _ _ _ _ refl
    (either (nat_eq s 20) _ _ _ _ refl (either (nat_eq s 22) _ _ _ _ refl (either (nat_eq s 23) _ _ _ _ refl
    (either (nat_eq s 24) _ _ _ _ refl (either (nat_eq s 30) _ _ _ _ refl (either (nat_eq s 31) _ _ _ _ refl refl))))))))

-- a number's row among the first of its segment, where that isn't the hidden one

pub line_there : (n : ℕ) (line : Line) → nat_eq (n / 256) hidden ≡ false → line_at n ≡ Some line
    → row_in (first (n / 256)) (n % 256) ≡ Ok (of_line line)
unfolding line_at
line_there n line other e =
    ap (λ (b : Bool). row_in (if b then hidden_rows else under (table.names (n / 256)) (segment (n / 256))) (n % 256)) other
    ∙ under_there (table.names (n / 256)) (segment (n / 256)) (n % 256) line (named_all (n / 256)) e

pub line_behind : (n : ℕ) → nat_eq (n / 256) hidden ≡ false → line_at n ≡ None
    → row_in (first (n / 256)) (n % 256) ≡ Err (n % 256 - length (table.names (n / 256)))
unfolding line_at
line_behind n other e =
    ap (λ (b : Bool). row_in (if b then hidden_rows else under (table.names (n / 256)) (segment (n / 256))) (n % 256)) other
    ∙ under_behind (table.names (n / 256)) (segment (n / 256)) (n % 256) (named_all (n / 256)) e
