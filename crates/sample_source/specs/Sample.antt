-- The source of a sample: so many methods, each with a block, that a block calls one after another.
use Rattle.std.specs.Prelude.{ℕ, zero, suc, ◌+◌, ◌*◌, List, [], ◌∷◌, ◌++◌, codes, decimal}

-- three factors for a number
unfoldable pub factors : ℕ → List ℕ
factors i = decimal (3 * i + 1) ++ codes ", " ++ decimal (5 * i + 2) ++ codes ", " ++ decimal (7 * i + 3)

-- the head of the method of a number, with the Array of its factors begun
unfoldable pub head : ℕ → List ℕ
head i = codes "def m" ++ decimal i ++ codes "(a); [" ++ factors i

-- the block that takes the factors, up to the number that it adds, and what is behind that
unfoldable pub block_begin : List ℕ
block_begin = codes "].each { |v| " ++ codes "a = (a * v + "

unfoldable pub block_end : List ℕ
block_end = codes ") % 65536 }" ++ codes "; a; end" ++ 10 ∷ []

unfoldable pub body : ℕ → List ℕ
body i = block_begin ++ decimal i ++ block_end

-- the method of a number
unfoldable pub method_line : ℕ → List ℕ
method_line i = head i ++ body i

-- its call
unfoldable pub call_line : ℕ → List ℕ
call_line i = codes "  s = m" ++ decimal i ++ codes "(s)" ++ 10 ∷ []

-- such a line for each number from 1 on
abbrev pub lines : (ℕ → List ℕ) → ℕ → List ℕ
lines line zero = []
lines line (suc n) = lines line n ++ line (suc n)

abbrev pub loop_line : ℕ → List ℕ
loop_line n = codes "s = 1" ++ 10 ∷ decimal n ++ codes ".times do" ++ 10 ∷ []

abbrev pub last_lines : List ℕ
last_lines = codes "end" ++ 10 ∷ codes "puts s" ++ 10 ∷ []

abbrev pub source : ℕ → List ℕ
source n = lines method_line n ++ loop_line n ++ lines call_line n ++ last_lines
