-- The counts of a body.
use Rattle.std.specs.Prelude.{ℕ, ◌+◌, ◌*◌, max, List, [], ◌∷◌, length, map}
use Rattle.ir_core.specs.CoreForm.{CoreForm, Body, body, form_of}
use Rattle.ir_counts.specs.Bodies.{bodies}
use Rattle.ir_counts.specs.Tally.{tallied, no_form}
use Rattle.ir_walk.specs.Walk.{walked}
use Rattle.ir_walk.specs.Width.{width}
use Rattle.ir_counts.specs.declared.counts.Counts.{Counts}
use Rattle.ir_walk.specs.declared.extent.Extent.TheVariants as extent
use Rattle.ir_counts.specs.declared.tally.Tally.{Tally}

-- how many parameters a body has; a named block isn't one
abbrev pub parameter_count : Body → ℕ
parameter_count (body p ls f) = length p.required + length p.optional + length p.rest + length p.post

-- the greatest of its numbers of required, optional and post parameters
abbrev pub of_a_kind : Body → ℕ
of_a_kind (body p ls f) = max (length p.required) (max (length p.optional) (length p.post))

abbrev pub local_count : Body → ℕ
local_count (body p ls f) = length ls

-- what texts take in a file
abbrev pub text_bytes : ℕ → List (List ℕ) → ℕ
text_bytes n [] = n
text_bytes n (x ∷ xs) = text_bytes (n + (8 + length x)) xs

-- the tally of a body with this form
abbrev pub form_tally : CoreForm → Tally
form_tally f = tallied no_form (walked extent.Body [] f)

abbrev pub tally : Body → Tally
tally b = form_tally (form_of b)

abbrev pub registers_of : Body → Tally → ℕ
registers_of b t = 2 + parameter_count b + local_count b + t.hidden + width (form_of b)

-- the different texts and integers outside 32 bits
abbrev pub pool_of : Tally → ℕ
pool_of t = length t.texts + length t.integers

abbrev pub code_of : Body → Tally → ℕ
code_of b t = 16 + 32 * parameter_count b + t.code

-- what a body of so many bytes of code takes in a file
abbrev pub bytes_of : ℕ → Tally → ℕ
bytes_of code t = text_bytes (text_bytes (64 + code + 13 * t.handlers + 9 * length t.integers) t.texts) t.symbols

abbrev pub counts_from : Body → Tally → Counts
counts_from b t = record {
  parameters = max (of_a_kind b) t.kind;
  registers = registers_of b t;
  pool = pool_of t;
  symbols = length t.symbols;
  children = t.children;
  code = code_of b t;
  bytes = bytes_of (code_of b t) t;
}

abbrev pub counts : Body → Counts
counts b = counts_from b (tally b)

-- the counts of each body of a program, depth first
abbrev pub need : Body → List Counts
need program = map counts (bodies program)
