-- The lines of code, one by one.
use Rattle.std.proofs.Common.{◌≡◌, ℕ, zero, suc, ◌-◌, ◌<◌, ◌≤◌, Bool, true, false, List, [], ◌++◌, Option, Some, None, length, ap, ◌∙◌, arith, append_assoc, nat_eq, nat_lt, if◌then◌else◌}
use Rattle.std.proofs.lemmas.List.{drop_all}
use Rattle.std.proofs.lemmas.Bool.Decides.{nat_tests}
use Rattle.rite_code.specs.Instruction.{Instruction}
use Rattle.rite_code.specs.Spelling.{decode, decode_at, decode_wide_at, narrow_front, front}
use Rattle.code_outline.specs.Layout.{standing, standings, begun, end_of}
use Rattle.code_listing.specs.Listing.{lines_from, instruction_line, unreadable_line}

-- at most so many instructions are read from a place on
unfoldable pub lines_at : ℕ → ℕ → List ℕ → ℕ → List ℕ
lines_at most version code at = lines_from code at (standings most version code at)

-- an instruction can be read
pub next_line : (most version : ℕ) (code : List ℕ) (at next : ℕ) (i : Instruction) → at < length code
    → length code - at ≤ most → decode version code at ≡ Some (i, next) → at < next
    → (m : ℕ) × ((length code - next ≤ m) × (lines_at most version code at ≡ instruction_line (standing at (i, next))
    ++ lines_at m version code next))
unfolding lines_at standings end_of
next_line zero version code at next i h enough e further = absurd (omega arith)
next_line (suc m) version code at next i h enough e further = (
  m,
  (
    omega arith,
    ap (λ (found : Option (Instruction × ℕ)). lines_from code at (begun at found (standings m version code))) e
        ∙ append_assoc (instruction_line (standing at (i, next))) _ _,
  ),
)

inside : (at size : ℕ) (a b : List ℕ) → at < size → (if nat_lt at size then a else b) ≡ a
inside at size a b h =
    let yes_it_is : nat_lt at size ≡ true = grind (arith, nat_tests) in
    rw yes_it_is

outside : (at size : ℕ) (a b : List ℕ) → size ≤ at → (if nat_lt at size then a else b) ≡ b
outside at size a b h =
    let it_is_not : nat_lt at size ≡ false = grind (arith, nat_tests) in
    rw it_is_not

-- none can be read within the code
pub no_line : (most version : ℕ) (code : List ℕ) (at : ℕ) → at < length code → length code - at ≤ most
    → decode version code at ≡ None → lines_at most version code at ≡ unreadable_line at
unfolding lines_at standings end_of
no_line zero version code at h enough e = absurd (omega arith)
no_line (suc m) version code at h enough e =
    ap (λ (found : Option (Instruction × ℕ)). lines_from code at (begun at found (standings m version code))) e
    ∙ inside at (length code) (unreadable_line at) [] h

narrow_none : (code : List ℕ) (at : ℕ) → length code ≤ at → decode_at code at ≡ None
unfolding decode_at narrow_front
narrow_none code at h = rw (drop_all at code h)

wide_none : (code : List ℕ) (at : ℕ) → length code ≤ at → decode_wide_at code at ≡ None
unfolding decode_wide_at front
wide_none code at h = rw (drop_all at code h)

either : (b : Bool) (x y : Option (Instruction × ℕ)) → x ≡ None → y ≡ None → (if b then x else y) ≡ None
either true x y e f = e
either false x y e f = f

-- the code is read to its end
pub end_lines : (most version : ℕ) (code : List ℕ) (at : ℕ) → length code ≤ at → lines_at most version code at ≡ []
unfolding lines_at standings end_of
end_lines zero version code at h = outside at (length code) (unreadable_line at) [] h
end_lines (suc m) version code at h =
    ap (λ (found : Option (Instruction × ℕ)). lines_from code at (begun at found (standings m version code)))
    (either (nat_eq version 1) _ _ (narrow_none code at h) (wide_none code at h))
    ∙ outside at (length code) (unreadable_line at) [] h
