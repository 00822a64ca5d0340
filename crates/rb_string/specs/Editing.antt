-- Texts put together, and put into one another (ISO/IEC 30170:2012, 15.2.10).
use Rattle.std.specs.Prelude.{ℕ, ◌+◌, ℤ, pos, negsuc, List, ◌++◌, length, take, drop, Option, None, Some, Result, Err}
use Rattle.std.specs.List.{repeat}
use Rattle.rb_string.specs.declared.failure.StringFailure.{StringFailure}
use Rattle.rb_string.specs.declared.failure.StringFailure.TheVariants.{NegativeCount, OutsideText}
use Rattle.rb_string.specs.Limit.{limited}
use Rattle.rb_string.specs.Slicing.{place, start}

abbrev pub concatenated : List ℕ → List ℕ → Result (List ℕ) StringFailure
concatenated text other = limited (text ++ other)

abbrev pub repeated : List ℕ → ℤ → Result (List ℕ) StringFailure
repeated text (pos n) = limited (repeat n text)
repeated text (negsuc n) = Err NegativeCount

-- new in place of so many bytes from the place of an index on
abbrev pub replaced_from : List ℕ → ℤ → Option ℕ → ℕ → List ℕ → Result (List ℕ) StringFailure
replaced_from text index (Some p) n new = limited (take p text ++ new ++ drop n (drop p text))
replaced_from text index None n new = Err (OutsideText index)

abbrev pub replaced : List ℕ → ℤ → ℤ → List ℕ → Result (List ℕ) StringFailure
replaced text index (pos n) new = replaced_from text index (start (length text) index) n new
replaced text index (negsuc n) new = Err NegativeCount

-- the place before which is inserted: an index below 0 stands for the place behind its byte
abbrev pub insertion_place : ℕ → ℤ → Option ℕ
insertion_place size (pos i) = start size (pos i)
insertion_place size (negsuc i) = place (size + 1) (negsuc i)

abbrev pub inserted : List ℕ → ℤ → List ℕ → Result (List ℕ) StringFailure
inserted text index new = replaced_from text index (insertion_place (length text) index) 0 new
