-- Names that stand in lists of names.
use Rattle.std.proofs.Common.{◌≡◌, List, [], ◌∷◌, ◌++◌, true, false, ⊎_elim, bytes_eq}
use Rattle.text_set.specs.Sets.{is_among}
use Rattle.parser_tree.specs.Node.{Name}
use Rattle.program_laws.proofs.Both.{if_first, if_second, if_either}
use Rattle.program_laws.proofs.Bound.{same_text}
use Rattle.program_laws.proofs.Known.{among_either}

-- the names of one list stand in another
abbrev pub Within : List Name → List Name → Type 0
Within xs ys = (x : Name) → is_among x xs ≡ true → is_among x ys ≡ true

pub within_none : (ys : List Name) → Within [] ys
within_none ys x h = absurd (cc)

pub in_left : (xs ys : List Name) → Within xs (xs ++ ys)
in_left [] ys x h = absurd (cc)
in_left (z ∷ xs) ys x h =
    ⊎_elim (λ e. if_first (bytes_eq x z) (is_among x (xs ++ ys)) e)
    (λ k. if_second (bytes_eq x z) (is_among x (xs ++ ys)) (in_left xs ys x k))
    (if_either (bytes_eq x z) (is_among x xs) h)

pub in_right : (xs ys : List Name) → Within ys (xs ++ ys)
in_right [] ys x h = h
in_right (z ∷ xs) ys x h = if_second (bytes_eq x z) (is_among x (xs ++ ys)) (in_right xs ys x h)

-- both lists stand in a third
pub within_each : (xs ys zs : List Name) → Within xs zs → Within ys zs → Within (xs ++ ys) zs
within_each xs ys zs v w x h = ⊎_elim (λ l. v x l) (λ r. w x r) (among_either x xs ys h)

pub within_both : (xs ys vs ws : List Name) → Within xs vs → Within ys ws → Within (xs ++ ys) (vs ++ ws)
within_both xs ys vs ws v w =
    within_each xs ys (vs ++ ws) (λ x h. in_left vs ws x (v x h)) (λ x h. in_right vs ws x (w x h))

pub within_same : (xs : List Name) → Within xs xs
within_same xs x h = h

pub within_behind : (zs xs ys : List Name) → Within xs ys → Within (zs ++ xs) (zs ++ ys)
within_behind zs xs ys w = within_both zs xs zs ys (within_same zs) w

pub is_last : (xs : List Name) (x : Name) → is_among x (xs ++ x ∷ []) ≡ true
is_last xs x = in_right xs (x ∷ []) x (if_first (bytes_eq x x) false (same_text x))
