-- The parts between places, joined again.
use Rattle.std.proofs.Common.{◌≡◌, ℕ, ◌+◌, ◌-◌, ◌<◌, ◌≤◌, Bool, true, false, not, ◌==◌, eqb, get_or, List, [], ◌∷◌, ◌++◌, length, take, drop, slice_range, All, refl, sym, ap, ◌∙◌, arith, append_assoc, append-nil, take-append-drop, drop-drop}
use Rattle.std.specs.List.{flat_map, join_by, list_all}
use Rattle.std.proofs.lemmas.List.{take_rest}
use Rattle.std.proofs.lemmas.Bool.{false≢true}
use Rattle.std.proofs.lemmas.List.Elements.{All-head, All-tail, All-get_or, All-weaker}
use Rattle.std.proofs.lemmas.List.Sums.{AllPass-from_list_all}
use Rattle.memchr.specs.Find.{OccursAt, matches}
use Rattle.memchr.proofs.lemmas.MatchLemmas.{OccursAt-split}
use Rattle.memchr.proofs.lemmas.CallerLemmas.{All-matches}
use Rattle.rb_string.specs.Substitution.{expanded, with_each}
use Rattle.rb_string.specs.Parts.{part, text_of, between, parts_between}
use Rattle.rb_string.proofs.Apart.{Apart, apart_matches}
use Rattle.rb_string.proofs.Expansions.{plain_same}

joined_behind : (text new : List ℕ) (size n from : ℕ) (places : List ℕ)
    → flat_map (λ p. new ++ text_of text p) (between size n from places)
    ≡ new ++ join_by (text_of text) new (between size n from places)
unfolding between
joined_behind text new size n from [] =
    append_assoc new (text_of text (part from size)) []
joined_behind text new size n from (at ∷ later) =
    append_assoc new (text_of text (part from at)) (flat_map (λ p. new ++ text_of text p) (between size n (at + n) later))

joined_from : (text new : List ℕ) (n from : ℕ) (places : List ℕ)
    → with_each text n (λ at. new) from places ≡ join_by (text_of text) new (between (length text) n from places)
unfolding with_each between
joined_from text new n from [] =
    sym (take_rest text from) ∙ sym (append-nil (text_of text (part from (length text))))
joined_from text new n from (at ∷ later) =
    let piece = slice_range text from at in
    append_assoc piece new (with_each text n (λ k. new) (at + n) later)
    ∙ ap (λ l. piece ++ (new ++ l)) (joined_from text new n (at + n) later)
    ∙ ap (λ l. piece ++ l) (sym (joined_behind text new (length text) n (at + n) later))

pub joined_parts : (text pattern new : List ℕ)
    → with_each text (length pattern) (λ at. new) 0 (matches text pattern 0)
    ≡ join_by (text_of text) new (parts_between text pattern)
joined_parts text pattern new = joined_from text new (length pattern) 0 (matches text pattern 0)

same_from : (text pattern : List ℕ) (from : ℕ) (places : List ℕ) → Apart (length text) (length pattern) from places
    → All (OccursAt text pattern) places → with_each text (length pattern) (λ at. pattern) from places ≡ drop from text
unfolding with_each
same_from text pattern from [] apart occurs = refl
same_from text pattern from (at ∷ later) apart occurs =
    let piece = slice_range text from at in
    let rest = drop (at + length pattern) text in
    let here = OccursAt-split text pattern at (All-head (OccursAt text pattern) at later occurs) in
    let place : from + (at - from) ≡ at = omega (arith, apart.0) in
    append_assoc piece pattern (with_each text (length pattern) (λ k. pattern) (at + length pattern) later)
    ∙ ap (λ l. piece ++ (pattern ++ l))
    (same_from text pattern (at + length pattern) later apart.2 (All-tail (OccursAt text pattern) at later occurs))
    ∙ ap (λ l. piece ++ l) (sym here ∙ sym (ap (λ k. drop k text) place) ∙ sym (drop-drop (at - from) from text))
    ∙ take-append-drop (at - from) (drop from text)

pub rejoined_parts : (text separator : List ℕ) → join_by (text_of text) separator (parts_between text separator) ≡ text
rejoined_parts text separator =
    sym (joined_parts text separator separator)
    ∙ same_from text separator 0 (matches text separator 0) (apart_matches text separator) (All-matches text separator 0)

plain_from_test : (text : List ℕ) (at n : ℕ) (new : List ℕ) → list_all (λ b. not (b == 92)) new ≡ true
    → (k : ℕ) → k < length new → eqb (get_or new k 0) 92 ≡ false
plain_from_test text at n new plain k below =
    All-get_or (λ b. eqb b 92 ≡ false) new k 0 below
    (All-weaker (λ b. not (b == 92) ≡ true) (λ b. eqb b 92 ≡ false) (λ b h. turned (eqb b 92) h) new
    (AllPass-from_list_all (λ b. not (b == 92)) new plain))
  where
    turned : (b : Bool) → not b ≡ true → b ≡ false
    turned true h = absurd (false≢true h)
    turned false h = refl

pub plain_expansion : (text : List ℕ) (at n : ℕ) (new : List ℕ) → list_all (λ b. not (b == 92)) new ≡ true
    → expanded text at n new ≡ new
plain_expansion text at n new plain = plain_same text at n new (plain_from_test text at n new plain)
