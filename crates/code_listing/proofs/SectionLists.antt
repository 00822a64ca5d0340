-- Lists of sections from their front.
use Rattle.std.proofs.Common.{◌≡◌, List, [], ◌∷◌, ◌++◌, Some, None, Result, Ok, Err, drop, refl, slice_get, flat_map}
use Rattle.rite_file.specs.declared.error.LoadError.{LoadError}
use Rattle.rite_file.specs.declared.front.Section.{Section}
use Rattle.code_listing.specs.Info.{fitting, first_error, section_line}

pub one_fits : (xs rest : List (Result Section LoadError)) (s : Section) → Some (Ok s) ≡ slice_get xs 0
    → rest ≡ drop 1 xs → flat_map section_line (fitting xs) ≡ section_line s ++ flat_map section_line (fitting rest)
unfolding fitting
one_fits [] rest s e f = cc
one_fits (Ok t ∷ xs) rest s e f =
    let same : s ≡ t = cc in
    rw (f, same)
one_fits (Err x ∷ xs) rest s e f = cc

pub none_fits : (xs : List (Result Section LoadError)) (x : LoadError) → Some (Err x) ≡ slice_get xs 0 → fitting xs ≡ []
unfolding fitting
none_fits [] x e = refl
none_fits (Ok t ∷ xs) x e = cc
none_fits (Err y ∷ xs) x e = refl

pub none_left : (xs : List (Result Section LoadError)) → None ≡ slice_get xs 0 → fitting xs ≡ []
unfolding fitting
none_left [] e = refl
none_left (Ok t ∷ xs) e = cc
none_left (Err y ∷ xs) e = refl

pub fits_on : (xs rest : List (Result Section LoadError)) (s : Section) → Some (Ok s) ≡ slice_get xs 0
    → rest ≡ drop 1 xs → first_error rest ≡ first_error xs
unfolding first_error
fits_on [] rest s e f = cc
fits_on (Ok t ∷ xs) rest s e f = rw f
fits_on (Err x ∷ xs) rest s e f = cc

pub fits_not : (xs : List (Result Section LoadError)) (x : LoadError) → Some (Err x) ≡ slice_get xs 0
    → first_error xs ≡ Err x
unfolding first_error
fits_not [] x e = cc
fits_not (Ok t ∷ xs) x e = cc
fits_not (Err y ∷ xs) x e = cc

pub all_fit : (xs : List (Result Section LoadError)) → None ≡ slice_get xs 0 → first_error xs ≡ Ok tt
unfolding first_error
all_fit [] e = refl
all_fit (Ok t ∷ xs) e = cc
all_fit (Err y ∷ xs) e = cc
