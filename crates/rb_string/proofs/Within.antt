-- Parts between places lie in the text.
use Rattle.std.proofs.Common.{◌≡◌, ℕ, zero, suc, ◌+◌, ◌-◌, ◌<◌, ◌≤◌, List, [], ◌∷◌, length, map, All, arith}
use Rattle.std.specs.List.{filter, range_with_len}
use Rattle.std.proofs.lemmas.List.Elements.{All-nil, All-cons, All-filter, All-take}
use Rattle.memchr.specs.Find.{is_byte, places, matches}
use Rattle.rb_string.specs.Stripping.{is_space}
use Rattle.rb_string.specs.Parts.{part, IsWithin, AllWithin, has_bytes, some_part, characters, ended, lines, between, words, parts_between, length_without_empty_end, separated}
use Rattle.rb_string.proofs.Apart.{Apart, apart_matches, apart_places}

one_within : (text : List ℕ) (start end : ℕ) → start ≤ end → end ≤ length text
    → AllWithin text (part start end ∷ [])
one_within text start end low high =
    All-cons (IsWithin text) (part start end) [] (low, high) (All-nil (IsWithin text))

some_within : (text : List ℕ) (from : ℕ) → from ≤ length text → AllWithin text (some_part from (length text))
some_within text from low = All-filter has_bytes (IsWithin text) (part from (length text) ∷ [])
    (one_within text from (length text) low (omega arith))

between_within : (text : List ℕ) (n from : ℕ) (places : List ℕ) → Apart (length text) n from places
    → AllWithin text (between (length text) n from places)
unfolding between
between_within text n from [] h = one_within text from (length text) h (omega arith)
between_within text n from (at ∷ later) h =
    let before : at ≤ length text = omega (arith, h.1) in
    All-cons (IsWithin text) (part from at) (between (length text) n (at + n) later) (h.0, before)
    (between_within text n (at + n) later h.2)

ended_within : (text : List ℕ) (from : ℕ) (places : List ℕ) → Apart (length text) 1 from places
    → AllWithin text (ended (length text) from places)
unfolding ended
ended_within text from [] h = some_within text from h
ended_within text from (at ∷ later) h =
    let low : from ≤ at = h.0 in
    All-cons (IsWithin text) (part from (at + 1)) (ended (length text) (at + 1) later) (omega arith, h.1)
    (ended_within text (at + 1) later h.2)

characters_from : (text : List ℕ) (i n : ℕ) → i + n ≡ length text
    → AllWithin text (map (λ k. part k (k + 1)) (range_with_len i n))
characters_from text i zero h = All-nil (IsWithin text)
characters_from text i (suc n) h =
    All-cons (IsWithin text) (part i (i + 1)) (map (λ k. part k (k + 1)) (range_with_len (i + 1) n))
    (omega arith, omega arith) (characters_from text (i + 1) n (omega arith))

pub characters_within : (text : List ℕ) → AllWithin text (characters text)
characters_within text = characters_from text 0 (length text) (omega arith)

pub lines_within : (text : List ℕ) → AllWithin text (lines text)
lines_within text = ended_within text 0 (places (is_byte 10) text) (apart_places (is_byte 10) text)

pub words_within : (text : List ℕ) → AllWithin text (words text)
words_within text = All-filter has_bytes (IsWithin text) (between (length text) 1 0 (places is_space text))
    (between_within text 1 0 (places is_space text) (apart_places is_space text))

pub separated_within : (text separator : List ℕ) → AllWithin text (separated text separator)
separated_within text separator =
    let ps = parts_between text separator in
    All-take (IsWithin text) (length_without_empty_end ps) ps
    (between_within text (length separator) 0 (matches text separator 0) (apart_matches text separator))
