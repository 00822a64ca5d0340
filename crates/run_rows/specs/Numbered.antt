-- Which row a number is.
use Rattle.std.specs.Prelude.{ℕ, zero, suc, ◌/◌, ◌%◌, List, [], ◌∷◌, None, Result, Ok, Err}
use Rattle.run_rows.specs.declared.row.Row.{Row}
use Rattle.run_rows.specs.declared.row.Row.TheVariants.{OfTable}
use Rattle.run_rows.specs.Named.{methods}

-- the row at a place, or how far the place is behind them
unfoldable pub row_in : {A : Type 0} → List (List ℕ × A) → ℕ → Result A ℕ
row_in [] k = Err k
row_in (m ∷ ms) zero = Ok m.1
row_in (m ∷ ms) (suc k) = row_in ms k

-- a number that no row has gives nil, as one of the table that is none
abbrev pub or_none : Result Row ℕ → Row
or_none (Ok r) = r
or_none (Err k) = OfTable None

-- the segment and the place there
abbrev pub row_at : ℕ → Row
row_at n = or_none (row_in (methods (n / 256)) (n % 256))
