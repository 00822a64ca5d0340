-- The entries of a catch table that cover a line: those of a piece of code, and those around it.
use Rattle.std.specs.Prelude.{◌≤◌, ℕ, List, [], ◌∷◌, nat_le, nat_lt, Bool, ◌&&◌, if◌then◌else◌}
use Rattle.gen_parts.specs.declared.line.Catch.{Catch}

-- an entry covers a line
abbrev pub is_over : ℕ → Catch → Bool
is_over i c = nat_le c.begin i && nat_lt i c.end

-- an entry where it covers a line, before those around
abbrev pub guarding : ℕ → Catch → List Catch → List Catch
guarding i c gs = if is_over i c then c ∷ gs else gs

-- the entries that cover a line, the last first, and those around them behind
abbrev pub guards_at : ℕ → List Catch → List Catch → List Catch
guards_at i [] gs = gs
guards_at i (c ∷ cs) gs = guards_at i cs (guarding i c gs)

-- an entry covers lines between these alone
pub record IsWithin (from to : ℕ) (c : Catch) : Type 0 where
  pub begins : from ≤ c.begin
  pub rises : c.begin ≤ c.end
  pub ends : c.end ≤ to

-- so does each of these
abbrev pub AreWithin : ℕ → ℕ → List Catch → Type 0
AreWithin from to [] = Unit {0}
AreWithin from to (c ∷ cs) = IsWithin from to c × AreWithin from to cs
