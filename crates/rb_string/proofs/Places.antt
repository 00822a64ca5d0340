-- Texts and parts between places, one place after another.
use Rattle.std.proofs.Common.{◌≡◌, ℕ, zero, suc, ◌+◌, ◌-◌, ◌<◌, ◌≤◌, Bool, true, false, cond, List, [], ◌∷◌, ◌++◌, length, drop, slice_index, slice_range, Ok, Err, refl, sym, ap, subst, ◌∙◌, arith, append_assoc, append-nil}
use Rattle.std.specs.List.{filter}
use Rattle.std.proofs.lemmas.Bool.{cond-true, cond-false}
use Rattle.memchr.specs.Find.{places_from, places_between}
use Rattle.rb_string.specs.declared.part.Part.{Part}
use Rattle.rb_string.specs.declared.failure.StringFailure.TheVariants.{TooLong}
use Rattle.rb_string.specs.Limit.{fits, limited}
use Rattle.rb_string.specs.Stripping.{is_space}
use Rattle.rb_string.specs.Substitution.{with_each}
use Rattle.rb_string.specs.Parts.{part, has_bytes, some_part, ended, between}
use Rattle.rb_string.proofs.Limits.{too_long}

-- ---- texts with others in place

with_each_next : (text : List ℕ) (new : ℕ → List ℕ) (n from at : ℕ) (all later : List ℕ) → all ≡ at ∷ later
    → with_each text n new from all ≡ slice_range text from at ++ new at ++ with_each text n new (at + n) later
unfolding with_each
with_each_next text new n from at all later is = rw is refl

with_each_none : (text : List ℕ) (new : ℕ → List ℕ) (n from : ℕ) (all : List ℕ) → all ≡ []
    → with_each text n new from all ≡ drop from text
unfolding with_each
with_each_none text new n from all is = rw is refl

pub with_each_step : (text : List ℕ) (new : ℕ → List ℕ) (made whole : List ℕ) (n from at : ℕ) (all later : List ℕ)
    → all ≡ at ∷ later → made ++ with_each text n new from all ≡ whole
    → (made ++ (slice_range text from at ++ new at)) ++ with_each text n new (at + n) later ≡ whole
with_each_step text new made whole n from at all later is same =
    append_assoc made (slice_range text from at ++ new at) (with_each text n new (at + n) later)
    ∙ ap (λ l. made ++ l) (sym (with_each_next text new n from at all later is)) ∙ same

pub each_long : (text : List ℕ) (new : ℕ → List ℕ) (made whole : List ℕ) (n from at : ℕ) (all later : List ℕ)
    → all ≡ at ∷ later → made ++ with_each text n new from all ≡ whole
    → fits (length (made ++ (slice_range text from at ++ new at))) ≡ false → limited whole ≡ Err TooLong
each_long text new made whole n from at all later is same wide =
    too_long whole (made ++ (slice_range text from at ++ new at)) (with_each text n new (at + n) later)
    (with_each_step text new made whole n from at all later is same) wide

pub with_each_end : (text : List ℕ) (new : ℕ → List ℕ) (made whole : List ℕ) (n from : ℕ) (all : List ℕ) → all ≡ []
    → made ++ with_each text n new from all ≡ whole → made ++ drop from text ≡ whole
with_each_end text new made whole n from all is same =
    ap (λ l. made ++ l) (sym (with_each_none text new n from all is)) ∙ same

pub last_long : (text : List ℕ) (new : ℕ → List ℕ) (made whole : List ℕ) (n from : ℕ) (all : List ℕ) → all ≡ []
    → made ++ with_each text n new from all ≡ whole → fits (length (made ++ drop from text)) ≡ false
    → limited whole ≡ Err TooLong
last_long text new made whole n from all is same wide =
    too_long whole (made ++ drop from text) []
    (append-nil (made ++ drop from text) ∙ with_each_end text new made whole n from all is same) wide

-- ---- parts

between_next : (size n from at : ℕ) (all later : List ℕ) → all ≡ at ∷ later
    → between size n from all ≡ part from at ∷ between size n (at + n) later
unfolding between
between_next size n from at all later is = rw is refl

between_none : (size n from : ℕ) (all : List ℕ) → all ≡ [] → between size n from all ≡ part from size ∷ []
unfolding between
between_none size n from all is = rw is refl

pub between_step : (size n from at : ℕ) (all later : List ℕ) (made whole : List Part) → all ≡ at ∷ later
    → made ++ between size n from all ≡ whole
    → (made ++ part from at ∷ []) ++ between size n (at + n) later ≡ whole
between_step size n from at all later made whole is same =
    append_assoc made (part from at ∷ []) (between size n (at + n) later)
    ∙ ap (λ l. made ++ l) (sym (between_next size n from at all later is)) ∙ same

pub between_end : (size n from : ℕ) (all : List ℕ) (made whole : List Part) → all ≡ []
    → made ++ between size n from all ≡ whole → made ++ part from size ∷ [] ≡ whole
between_end size n from all made whole is same =
    ap (λ l. made ++ l) (sym (between_none size n from all is)) ∙ same

ended_next : (size from at : ℕ) (all later : List ℕ) → all ≡ at ∷ later
    → ended size from all ≡ part from (at + 1) ∷ ended size (at + 1) later
unfolding ended
ended_next size from at all later is = rw is refl

ended_none : (size from : ℕ) (all : List ℕ) → all ≡ [] → ended size from all ≡ some_part from size
unfolding ended
ended_none size from all is = rw is refl

pub ended_step : (size from at : ℕ) (all later : List ℕ) (made whole : List Part) → all ≡ at ∷ later
    → made ++ ended size from all ≡ whole → (made ++ part from (at + 1) ∷ []) ++ ended size (at + 1) later ≡ whole
ended_step size from at all later made whole is same =
    append_assoc made (part from (at + 1) ∷ []) (ended size (at + 1) later)
    ∙ ap (λ l. made ++ l) (sym (ended_next size from at all later is)) ∙ same

pub ended_end : (size from : ℕ) (all : List ℕ) (made whole : List Part) → all ≡ []
    → made ++ ended size from all ≡ whole → made ++ some_part from size ≡ whole
ended_end size from all made whole is same = ap (λ l. made ++ l) (sym (ended_none size from all is)) ∙ same

-- ---- words

place_here : (test : ℕ → Bool) (text : List ℕ) (at size : ℕ) → at < size → test (slice_index text at) ≡ true
    → places_between test text at size ≡ at ∷ places_between test text (at + 1) size
unfolding places_from
place_here test text at size here is =
    let count : size - at ≡ suc (size - (at + 1)) = omega arith in
    rw count (cond-true _ _ _ is)

place_later : (test : ℕ → Bool) (text : List ℕ) (at size : ℕ) → at < size → test (slice_index text at) ≡ false
    → places_between test text at size ≡ places_between test text (at + 1) size
unfolding places_from
place_later test text at size here is =
    let count : size - at ≡ suc (size - (at + 1)) = omega arith in
    rw count (cond-false _ _ _ is)

no_place : (test : ℕ → Bool) (text : List ℕ) (at size : ℕ) → size ≤ at → places_between test text at size ≡ []
unfolding places_from
no_place test text at size here = let count : size - at ≡ 0 = omega arith in rw count refl

front_of_filter : (p : Part) (ps : List Part)
    → filter has_bytes (p ∷ ps) ≡ filter has_bytes (p ∷ []) ++ filter has_bytes ps
front_of_filter p ps = by_test (has_bytes p)
  where
    by_test : (b : Bool) → cond b (p ∷ filter has_bytes ps) (filter has_bytes ps)
        ≡ cond b (p ∷ []) [] ++ filter has_bytes ps
    by_test true = refl
    by_test false = refl

pub word_ends : (text : List ℕ) (from at size : ℕ) (made whole : List Part) → at < size
    → is_space (slice_index text at) ≡ true
    → made ++ filter has_bytes (between size 1 from (places_between is_space text at size)) ≡ whole
    → (made ++ some_part from at)
    ++ filter has_bytes (between size 1 (at + 1) (places_between is_space text (at + 1) size)) ≡ whole
word_ends text from at size made whole here is same =
    let later = between size 1 (at + 1) (places_between is_space text (at + 1) size) in
    append_assoc made (some_part from at) (filter has_bytes later)
    ∙ ap (λ l. made ++ l) (sym (front_of_filter (part from at) later)
    ∙ ap (filter has_bytes) (sym (between_next size 1 from at (places_between is_space text at size)
    (places_between is_space text (at + 1) size) (place_here is_space text at size here is))))
    ∙ same

pub word_goes_on : (text : List ℕ) (from at size : ℕ) (made whole : List Part) → at < size
    → is_space (slice_index text at) ≡ false
    → made ++ filter has_bytes (between size 1 from (places_between is_space text at size)) ≡ whole
    → made ++ filter has_bytes (between size 1 from (places_between is_space text (at + 1) size)) ≡ whole
word_goes_on text from at size made whole here is same =
    ap (λ l. made ++ filter has_bytes (between size 1 from l)) (sym (place_later is_space text at size here is)) ∙ same

pub words_end : (text : List ℕ) (from at size : ℕ) (made whole : List Part) → size ≤ at
    → made ++ filter has_bytes (between size 1 from (places_between is_space text at size)) ≡ whole
    → made ++ some_part from size ≡ whole
words_end text from at size made whole here same =
    ap (λ l. made ++ l) (sym (ap (filter has_bytes)
    (between_none size 1 from (places_between is_space text at size) (no_place is_space text at size here)))) ∙ same
