-- Texts without what stands at their ends (ISO/IEC 30170:2012, 15.2.10).
use Rattle.std.specs.Prelude.{ℕ, ◌-◌, List, length, take, drop, codes, Bool, nat_eq, nat_le, ◌==◌, ◌||◌, ◌&&◌, if◌then◌else◌}
use Rattle.std.specs.List.{prefix_len, suffix_len, ends_with}

-- white space: a space, or one of tab, newline, vertical tab, form feed and carriage return
abbrev pub is_space : ℕ → Bool
is_space b = b == 32 || (nat_le 9 b && nat_le b 13)

-- what strip takes away
abbrev pub is_blank : ℕ → Bool
is_blank b = b == 0 || is_space b

abbrev pub left_stripped : List ℕ → List ℕ
left_stripped text = drop (prefix_len is_blank text) text

abbrev pub right_stripped : List ℕ → List ℕ
right_stripped text = take (length text - suffix_len is_blank text) text

abbrev pub stripped : List ℕ → List ℕ
stripped text = left_stripped (right_stripped text)

abbrev pub without_last : List ℕ → ℕ → List ℕ
without_last text n = take (length text - n) text

abbrev pub chomped : List ℕ → List ℕ
chomped text =
    if ends_with nat_eq text (codes "\r\n") then without_last text 2
    else (if ends_with nat_eq text (codes "\n") then without_last text 1
    else (if ends_with nat_eq text (codes "\r") then without_last text 1
    else text))

abbrev pub chopped : List ℕ → List ℕ
chopped text = if ends_with nat_eq text (codes "\r\n") then without_last text 2 else without_last text 1
