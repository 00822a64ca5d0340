-- Registers by the names of their locals.
use Rattle.std.specs.Prelude.{ℕ, ◌+◌, List, [], ◌∷◌, ◌++◌, map, Option, Some, None, bytes_eq, is_some, if◌then◌else◌}
use Rattle.std.specs.Borrow.{Bor}
use Rattle.std.specs.Map.{lookup}
use Rattle.ir_core.specs.CoreForm.{Local, named, hidden, pattern, rest}
use Rattle.scope_resolver.specs.declared.seek.Search.{Search}
use Rattle.scope_resolver.specs.declared.seek.Search.TheVariants.{Found, Past}
use Rattle.scope_resolver.specs.Layout.{Slots}

-- names with their registers
abbrev pub Named : Type 0
Named = List (List ℕ × ℕ)

abbrev pub shown_one : Bor (List ℕ) × ℕ → List ℕ × ℕ
shown_one e = (e.0.now, e.1)

abbrev pub shown : List (Bor (List ℕ) × ℕ) → Named
shown es = map shown_one es

-- with a register for a name that has none
abbrev pub with_name : Named → List ℕ → ℕ → Named
with_name es x n = if is_some (lookup (bytes_eq x) es) then es else es ++ (x, n) ∷ []

-- with the register of a local that has a name
abbrev pub with_local : Named → Local → ℕ → Named
with_local es (named x) n = with_name es x n
with_local es (hidden d) n = es
with_local es (pattern k) n = es
with_local es rest n = es

abbrev pub with_slot : Named → Option Local → ℕ → Named
with_slot es None n = es
with_slot es (Some x) n = with_local es x n

-- with the names of slots from a register on
abbrev pub with_slots : Named → Slots → ℕ → Named
with_slots es [] n = es
with_slots es (s ∷ ss) n = with_slots (with_slot es s n) ss (n + 1)

-- a search that ended at a register, or goes on at one
abbrev pub search_at : Option ℕ → ℕ → Search
search_at None n = Past n
search_at (Some r) n = Found r
