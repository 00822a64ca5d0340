-- Escapes one after another.
use Rattle.std.proofs.Common.{◌≡◌, ℕ, ◌+◌, ◌<◌, ◌≤◌, false, List, [], ◌++◌, codes, length, get_or, drop, Ok, Err, refl, sym, ap, ◌∙◌, arith, append_assoc, append-nil}
use Rattle.std.proofs.lemmas.List.{drop_more, drop_all, get_or-drop}
use Rattle.rb_string.specs.declared.failure.StringFailure.TheVariants.{TooLong}
use Rattle.rb_string.specs.Limit.{fits, limited}
use Rattle.rb_string.specs.Inspection.{shown, escaped}
use Rattle.rb_string.proofs.Limits.{limited_fits, too_long}

next_byte : (text : List ℕ) (at : ℕ) → get_or (drop (at + 1) text) 0 0 ≡ get_or text (at + 1) 0
next_byte text at = let same : at + 1 + 0 ≡ at + 1 = omega arith in
    get_or-drop (at + 1) text 0 0 ∙ ap (λ k. get_or text k 0) same

pub escaped_here : (text : List ℕ) (at : ℕ) → at < length text
    → escaped (drop at text) ≡ shown (get_or text at 0) (get_or text (at + 1) 0) ++ escaped (drop (at + 1) text)
unfolding escaped
escaped_here text at here = rw (drop_more text at 0 here) (rw (next_byte text at) refl)

escaped_end : (text : List ℕ) (at : ℕ) → length text ≤ at → escaped (drop at text) ≡ []
unfolding escaped
escaped_end text at here = rw (drop_all at text here) refl

pub escaped_step : (made all text : List ℕ) (at : ℕ) → at < length text → made ++ escaped (drop at text) ≡ all
    → (made ++ shown (get_or text at 0) (get_or text (at + 1) 0)) ++ escaped (drop (at + 1) text) ≡ all
escaped_step made all text at here is =
    append_assoc made (shown (get_or text at 0) (get_or text (at + 1) 0)) (escaped (drop (at + 1) text))
    ∙ ap (λ l. made ++ l) (sym (escaped_here text at here)) ∙ is

pub escaped_long : (made all end text : List ℕ) (at : ℕ) → at < length text → made ++ escaped (drop at text) ≡ all
    → fits (length (made ++ shown (get_or text at 0) (get_or text (at + 1) 0))) ≡ false
    → limited (all ++ end) ≡ Err TooLong
escaped_long made all end text at here is wide =
    let piece = shown (get_or text at 0) (get_or text (at + 1) 0) in
    let later = escaped (drop (at + 1) text) in
    too_long (all ++ end) (made ++ piece) (later ++ end)
    (sym (append_assoc (made ++ piece) later end) ∙ ap (λ l. l ++ end) (escaped_step made all text at here is)) wide

pub escaped_all : (made all text : List ℕ) (at : ℕ) → length text ≤ at → made ++ escaped (drop at text) ≡ all
    → made ≡ all
escaped_all made all text at here is =
    sym (append-nil made) ∙ ap (λ l. made ++ l) (sym (escaped_end text at here)) ∙ is

-- the closing quote
pub closed_long : (made all end : List ℕ) → made ≡ all → fits (length (made ++ end)) ≡ false
    → limited (all ++ end) ≡ Err TooLong
closed_long made all end is wide =
    too_long (all ++ end) (made ++ end) [] (append-nil (made ++ end) ∙ ap (λ l. l ++ end) is) wide
