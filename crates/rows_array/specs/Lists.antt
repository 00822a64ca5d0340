-- Places, parts and changes of lists of values. An index counts from the end where it is negative.
use Rattle.std.specs.Prelude.{ℕ, zero, suc, ◌+◌, ◌-◌, ℤ, pos, negsuc, List, [], ◌∷◌, ◌++◌, length, take, drop, replicate, get_or, nat_lt, nat_le, unsigned_abs, Bool, true, false, if◌then◌else◌, Option, Some, None}
use Rattle.std.specs.Int.{int_rem_euclid}
use Rattle.rb_value.specs.declared.value.Value.{Value}
use Rattle.rb_value.specs.declared.value.Value.TheVariants.{Nil, True, False, Int, Sym, Obj}

-- the place of an index in a list of so many; none before its start
abbrev pub place_in : ℕ → ℤ → Option ℕ
place_in len (pos n) = Some n
place_in len (negsuc n) = if nat_lt n len then Some (len - 1 - n) else None

-- the values from a place on, at most so many; none where the place lies past the end
abbrev pub part_from : List Value → Option ℕ → ℕ → Option (List Value)
part_from vs None count = None
part_from vs (Some n) count = if nat_le n (length vs) then Some (take count (drop n vs)) else None

abbrev pub part_of : List Value → Option ℕ → ℤ → Option (List Value)
part_of vs n (pos count) = part_from vs n count
part_of vs n (negsuc count) = None

-- the values from an index on, at most so many; a negative count gives none
abbrev pub part : List Value → ℤ → ℤ → Option (List Value)
part vs index count = part_of vs (place_in (length vs) index) count

-- values with others in the place of so many from a place on, after nils where the place lies past the end
abbrev pub spliced : List Value → ℕ → ℕ → List Value → List Value
spliced vs place count more =
    take place vs ++ replicate (place - length vs) Nil ++ more ++ drop (place + count) vs

-- how far a part reaches that ends at an index: up to it, or behind it
abbrev pub end_of : Option ℕ → Bool → ℕ
end_of None exclusive = 0
end_of (Some n) true = n
end_of (Some n) false = n + 1

abbrev pub part_up_to : List Value → Option ℕ → ℕ → Option (List Value)
part_up_to vs None end = None
part_up_to vs (Some n) end = part_from vs (Some n) (end - n)

-- the values from an index up to another, or behind it; none where the first lies outside
abbrev pub range_part : List Value → ℤ → ℤ → Bool → Option (List Value)
range_part vs first last exclusive =
    part_up_to vs (place_in (length vs) first) (end_of (place_in (length vs) last) exclusive)

-- the last value; nil where there is none
abbrev pub last_of : List Value → Value
last_of vs = get_or vs (length vs - 1) Nil

-- the last values, at most so many, and those before them
abbrev pub last_part : List Value → ℕ → List Value
last_part vs count = drop (length vs - count) vs

abbrev pub without_last_part : List Value → ℕ → List Value
without_last_part vs count = take (length vs - count) vs

-- the values but nil
abbrev pub present : List Value → List Value
present [] = []
present (Nil ∷ vs) = present vs
present (True ∷ vs) = True ∷ present vs
present (False ∷ vs) = False ∷ present vs
present (Int z ∷ vs) = Int z ∷ present vs
present (Sym s ∷ vs) = Sym s ∷ present vs
present (Obj id ∷ vs) = Obj id ∷ present vs

-- how many of so many values go from the front to the end: the count modulo their number, never below 0
abbrev pub turns : ℕ → ℤ → ℕ
turns zero count = 0
turns (suc n) count = unsigned_abs (int_rem_euclid count (pos (suc n)))

abbrev pub rotated : List Value → ℤ → List Value
rotated vs count = drop (turns (length vs) count) vs ++ take (turns (length vs) count) vs
