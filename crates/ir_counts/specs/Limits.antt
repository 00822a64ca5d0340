-- The first count of a program that exceeds its limit.
use Rattle.std.specs.Prelude.{ℕ, ◌+◌, nat_lt, List, [], ◌∷◌, length, Option, Some, None, if◌then◌else◌}
use Rattle.rb_syntax.specs.declared.count.Count.{Count}
use Rattle.rb_syntax.specs.declared.count.Count.TheVariants.{Parameters, Registers, Pool, Symbols, Children, Code, File}
use Rattle.ir_counts.specs.declared.counts.Counts.{Counts}
use Rattle.ir_counts.specs.declared.excess.Excess.{Excess}

-- a count that exceeds its limit, else what follows
abbrev pub past : Count → ℕ → ℕ → Option Excess → Option Excess
past what count limit next = if nat_lt limit count then Some (record { what = what; count = count }) else next

-- the counts of a body in the order of `Count`
abbrev pub of_body : Counts → Option Excess → Option Excess
of_body c next =
    past Parameters c.parameters 127
    (past Registers c.registers 65535
    (past Pool c.pool 65535
    (past Symbols c.symbols 65535
    (past Children c.children 65535
    (past Code c.code 4194303 next)))))

abbrev pub of_bodies : List Counts → Option Excess → Option Excess
of_bodies [] next = next
of_bodies (c ∷ cs) next = of_body c (of_bodies cs next)

-- the bytes of a file of bodies, with those before
abbrev pub bytes : ℕ → List Counts → ℕ
bytes n [] = n
bytes n (c ∷ cs) = bytes (n + c.bytes) cs

-- the count of a file of so many bodies and bytes; one of more than 65,536 bodies can't be read
abbrev pub file_of : ℕ → ℕ → ℕ
file_of bodies bytes = if nat_lt 65536 bodies then 4294967296 else bytes

-- the count of the whole file
abbrev pub file : List Counts → ℕ
file cs = file_of (length cs) (bytes 64 cs)

-- bodies depth first, the file last
abbrev pub first_excess : List Counts → Option Excess
first_excess cs = of_bodies cs (past File (file cs) 4294967295 None)
