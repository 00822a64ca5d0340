-- The first line of a text, and the text behind it.
use Rattle.std.proofs.Common.{◌≡◌, ℕ, suc, ◌+◌, ◌-◌, ◌≤◌, refl, sym, ap, ◌∙◌, List, [], ◌∷◌, ◌++◌, length, take, drop, arith}
use Rattle.std.specs.Prelude.{slice_range, nat_eq, Bool, true, false, if◌then◌else◌}
use Rattle.std.proofs.Math.Seq.{drop-drop}
use Rattle.std.proofs.lemmas.List.{take_at, drop_at, length-append, length-drop}
use Rattle.core_iter.specs.Strings.{line_end}
use Rattle.core_iter.specs.Writing.{newline}
use Rattle.items_laws.specs.Texts.{lines, with_first}

pub record FirstLine (at : ℕ) (text : List ℕ) : Type 0 where
  pub line : List ℕ
  pub rest : List ℕ
  pub whole : text ≡ line ++ rest
  pub all : lines text ≡ line ∷ lines rest
  pub ends : line_end at text ≡ at + length line

-- a byte before a text whose lines are known

abbrev lines_by : ℕ → List ℕ → Bool → List (List ℕ)
lines_by x text c = if c then (x ∷ []) ∷ lines text else with_first x (lines text)

abbrev end_by : ℕ → List ℕ → Bool → ℕ
end_by at text c = if c then at + 1 else line_end (at + 1) text

newline_first : (at x : ℕ) (text : List ℕ) → nat_eq x newline ≡ true → FirstLine at (x ∷ text)
unfolding line_end
newline_first at x text e = record {
  line = x ∷ [];
  rest = text;
  whole = refl;
  all = ap (lines_by x text) e;
  ends = ap (end_by at text) e;
}

longer : (at n : ℕ) → at + 1 + n ≡ at + suc n
longer at n = omega arith

other_first : (at x : ℕ) (text : List ℕ) → nat_eq x newline ≡ false → FirstLine (at + 1) text → FirstLine at (x ∷ text)
unfolding line_end
other_first at x text e f = record {
  line = x ∷ f.line;
  rest = f.rest;
  whole = ap (λ (ys : List ℕ). x ∷ ys) f.whole;
  all = ap (lines_by x text) e ∙ ap (with_first x) f.all;
  ends = ap (end_by at text) e ∙ f.ends ∙ longer at (length f.line);
}

last_byte : (at x : ℕ) → nat_eq x newline ≡ false → FirstLine at (x ∷ [])
unfolding line_end
last_byte at x e = record {
  line = x ∷ [];
  rest = [];
  whole = refl;
  all = ap (lines_by x []) e;
  ends = ap (end_by at []) e;
}

first_by : (at x : ℕ) (text : List ℕ) (c : Bool) → nat_eq x newline ≡ c
    → ((y : ℕ) (ys : List ℕ) → text ≡ y ∷ ys → FirstLine (at + 1) text) → FirstLine at (x ∷ text)
first_by at x text true e rest = newline_first at x text e
first_by at x [] false e rest = last_byte at x e
first_by at x (y ∷ ys) false e rest = other_first at x (y ∷ ys) e (rest y ys refl)

pub first_line : (at x : ℕ) (text : List ℕ) → FirstLine at (x ∷ text)
first_line at x [] = first_by at x [] (nat_eq x newline) refl (λ y ys e. absurd (cc))
first_line at x (y ∷ ys) =
    first_by at x (y ∷ ys) (nat_eq x newline) refl (λ z zs e. first_line (at + 1) y ys)

-- The part of a text from a place to its end.

-- where the text from a place on is a part and more
pub record Parted (text : List ℕ) (at end : ℕ) (part rest : List ℕ) : Type 0 where
  pub part_is : slice_range text at end ≡ part
  pub rest_is : drop end text ≡ rest
  pub within : end ≤ length text

taken_so : (at n : ℕ) → at + n - at ≡ n
taken_so at n = omega arith

so_long : (at n k l : ℕ) → l - at ≡ n + k → at ≤ l → at + n ≤ l
so_long at n k l e less = omega (arith, e, less)

pub parted : (text : List ℕ) (at : ℕ) (part rest : List ℕ) → at ≤ length text → drop at text ≡ part ++ rest
    → Parted text at (at + length part) part rest
parted text at part rest less e = record {
  part_is = ap (λ (n : ℕ). take n (drop at text)) (taken_so at (length part))
      ∙ ap (take (length part)) e ∙ take_at part rest (length part) refl;
  rest_is = sym (drop-drop (length part) at text) ∙ ap (drop (length part)) e
      ∙ drop_at part rest (length part) refl;
  within = so_long at (length part) (length rest) (length text)
      (sym (length-drop at text) ∙ ap (λ (xs : List ℕ). length xs) e ∙ length-append part rest) less;
}
