-- Texts filled up to a width (ISO/IEC 30170:2012, 15.2.10).
use Rattle.std.specs.Prelude.{ℕ, ◌-◌, ◌/◌, ℤ, pos, negsuc, List, ◌++◌, length, take, Result}
use Rattle.std.specs.List.{repeat}
use Rattle.rb_string.specs.declared.failure.StringFailure.{StringFailure}
use Rattle.rb_string.specs.Limit.{limited}

-- how many bytes a text of that size lacks
abbrev pub missing : ℕ → ℤ → ℕ
missing size (pos width) = width - size
missing size (negsuc width) = 0

-- the pad again and again, cut to n bytes; an empty pad gives none
unfoldable pub padding : List ℕ → ℕ → List ℕ
padding pad n = take n (repeat n pad)

abbrev pub padded : List ℕ → List ℕ → ℕ → ℕ → Result (List ℕ) StringFailure
padded text pad before behind = limited (padding pad before ++ text ++ padding pad behind)

abbrev pub left_justified : List ℕ → ℤ → List ℕ → Result (List ℕ) StringFailure
left_justified text width pad = padded text pad 0 (missing (length text) width)

abbrev pub right_justified : List ℕ → ℤ → List ℕ → Result (List ℕ) StringFailure
right_justified text width pad = padded text pad (missing (length text) width) 0

-- the smaller half stands before the text
abbrev pub centered : List ℕ → ℤ → List ℕ → Result (List ℕ) StringFailure
centered text width pad =
    let all = missing (length text) width in
    padded text pad (all / 2) (all - all / 2)
