-- Values that are passed one after another.
use Rattle.std.proofs.Common.{◌≡◌, List, [], ◌++◌, refl, ap, sym, append_assoc, append-nil}
use Rattle.std.specs.Prelude.{Result, Ok, Err}
use Rattle.def_core.specs.declared.cause.Cause.{Cause}
use Rattle.rows_items.specs.Told.{with_front}

-- more before the rest
pub front_more : {A : Type 0} (xs ys : List A) (rest : Result (List A) Cause)
    → with_front xs (with_front ys rest) ≡ with_front (xs ++ ys) rest
front_more xs ys (Ok zs) = ap Ok (sym (append_assoc xs ys zs))
front_more xs ys (Err cause) = refl

-- nothing is left
pub front_all : {A : Type 0} (xs : List A) → with_front xs (Ok []) ≡ Ok xs
front_all xs = ap Ok (append-nil xs)
