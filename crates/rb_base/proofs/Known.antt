-- What a loop over a writer of known bytes has done.
use Rattle.std.proofs.Common.{ℕ, ◌+◌, List, take, drop, sym, subst}
use Rattle.std.specs.Prelude.{Option}
use Rattle.std.specs.Io.KnownBytes.{Appends}
use Rattle.std.proofs.KnownBytes.{Appends-trans}
use Rattle.std.proofs.Math.Seq.{take-add}

-- one more piece went out
pub appended_further : (a b c : Option (List ℕ)) (at n : ℕ) (bytes : List ℕ) → Appends a b (take at bytes)
    → Appends b c (take n (drop at bytes)) → Appends a c (take (at + n) bytes)
appended_further a b c at n bytes first second =
    subst (Appends a c) (sym (take-add at n bytes)) (Appends-trans a b c _ _ first second)
