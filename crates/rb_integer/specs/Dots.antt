-- What stands between the ends of a Range.
use Rattle.std.specs.Prelude.{ℕ, List, Bool, true, false, codes}

abbrev pub dots_of : Bool → List ℕ
dots_of true = codes "..."
dots_of false = codes ".."
