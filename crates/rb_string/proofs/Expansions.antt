-- What is put in place of others, byte after byte.
use Rattle.std.proofs.Common.{◌≡◌, ℕ, suc, ◌+◌, ◌-◌, ◌<◌, ◌≤◌, Bool, true, false, cond, eqb, List, [], ◌∷◌, ◌++◌, length, get_or, drop, Option, Some, None, Result, Ok, Err, refl, sym, ap, ◌∙◌, arith, append_assoc, append-nil, ⊎_elim}
use Rattle.std.specs.Option.{is_some}
use Rattle.std.specs.Prelude.{IfOk}
use Rattle.std.proofs.lemmas.Bool.{cond-true, cond-false, eq-eqb, ne_eqb, cases_Bool}
use Rattle.std.proofs.lemmas.List.{drop_more, drop_all}
use Rattle.memchr.specs.Find.{IsFirstByte, is_byte}
use Rattle.rb_string.specs.Limit.{fits}
use Rattle.rb_string.specs.Substitution.{reference, expanded}
use Rattle.rb_string.proofs.Limits.{front_fits_not}

module _ (text : List ℕ) (at n : ℕ) where
  -- a byte that is no backslash, or the last one
  other_first : (x : ℕ) (xs : List ℕ) → (x ≡ 92 → ⊥) → expanded text at n (x ∷ xs) ≡ x ∷ expanded text at n xs
  unfolding expanded
  other_first x [] other = refl
  other_first x (y ∷ ys) other = cond-false _ _ _ (ne_eqb x 92 other)

  pub other_here : (new : List ℕ) (from : ℕ) → from < length new → (get_or new from 0 ≡ 92 → ⊥)
      → expanded text at n (drop from new) ≡ (get_or new from 0 ∷ []) ++ expanded text at n (drop (from + 1) new)
  other_here new from here other = ap (expanded text at n) (drop_more new from 0 here)
      ∙ other_first (get_or new from 0) (drop (from + 1) new) other

  nothing : expanded text at n [] ≡ []
  unfolding expanded
  nothing = refl

  one_byte : (x : ℕ) → expanded text at n (x ∷ []) ≡ x ∷ []
  unfolding expanded
  one_byte x = refl

  pub end_here : (new : List ℕ) (from : ℕ) → length new ≤ from → expanded text at n (drop from new) ≡ []
  end_here new from here = ap (expanded text at n) (drop_all from new here) ∙ nothing

  pub last_here : (new : List ℕ) (from : ℕ) → from < length new → length new - from ≤ 1
      → expanded text at n (drop from new) ≡ (get_or new from 0 ∷ []) ++ expanded text at n (drop (from + 1) new)
  last_here new from here last =
      let end : drop (from + 1) new ≡ [] = drop_all (from + 1) new (omega arith) in
      ap (expanded text at n) (drop_more new from 0 here)
      ∙ ap (λ l. expanded text at n (get_or new from 0 ∷ l)) end ∙ one_byte (get_or new from 0)
      ∙ sym (ap (λ l. get_or new from 0 ∷ expanded text at n l) end ∙ ap (λ l. get_or new from 0 ∷ l) nothing)

  reference_first : (x y : ℕ) (ys : List ℕ) → x ≡ 92
      → expanded text at n (x ∷ y ∷ ys) ≡ reference text at n y ++ expanded text at n ys
  unfolding expanded
  reference_first x y ys is = cond-true _ _ _ (eq-eqb x 92 is)

  pub reference_here : (new : List ℕ) (from : ℕ) → 1 < length new - from → get_or new from 0 ≡ 92
      → expanded text at n (drop from new)
      ≡ reference text at n (get_or new (from + 1) 0) ++ expanded text at n (drop (from + 2) new)
  reference_here new from more is =
      let next : from + 1 + 1 ≡ from + 2 = omega arith in
      ap (expanded text at n) (drop_more new from 0 (omega arith)
      ∙ ap (λ l. get_or new from 0 ∷ l) (drop_more new (from + 1) 0 (omega arith)
      ∙ ap (λ k. get_or new (from + 1) 0 ∷ drop k new) next))
      ∙ reference_first (get_or new from 0) (get_or new (from + 1) 0) (drop (from + 2) new) is

  pub plain_same : (new : List ℕ) → ((k : ℕ) → k < length new → eqb (get_or new k 0) 92 ≡ false)
      → expanded text at n new ≡ new
  unfolding expanded
  plain_same [] plain = refl
  plain_same (x ∷ []) plain = refl
  plain_same (x ∷ y ∷ ys) plain =
      cond-false _ _ _ (plain 0 (omega arith))
      ∙ ap (λ l. x ∷ l) (plain_same (y ∷ ys) (λ k below. plain (suc k) (omega arith)))

  pub plain_from_search : (new : List ℕ) (r : Option ℕ) → is_some r ≡ false → IsFirstByte (is_byte 92) new r
      → expanded text at n new ≡ new
  plain_from_search new None none found = plain_same new (λ k below.
      ⊎_elim (λ yes_is. absurd (found k (omega arith) below yes_is)) (λ no_is. no_is)
      (cases_Bool (eqb (get_or new k 0) 92)))
  plain_from_search new (Some k) none found = cc

-- a piece more, where the rest of what is put is known
pub put_step : (made piece later rest whole : List ℕ) → later ≡ piece ++ rest → made ++ later ≡ whole
    → (made ++ piece) ++ rest ≡ whole
put_step made piece later rest whole is same = append_assoc made piece rest ∙ ap (λ l. made ++ l) (sym is) ∙ same

pub put_long : (made piece later rest whole : List ℕ) → later ≡ piece ++ rest → made ++ later ≡ whole
    → fits (length (made ++ piece)) ≡ false → fits (length whole) ≡ false
put_long made piece later rest whole is same wide =
    front_fits_not whole (made ++ piece) rest (put_step made piece later rest whole is same) wide

pub put_end : (made later whole : List ℕ) → later ≡ [] → made ++ later ≡ whole → made ≡ whole
put_end made later whole is same = sym (append-nil made) ∙ ap (λ l. made ++ l) (sym is) ∙ same

-- what `append` tells
pub long_from_append : {E : Type 0} (r : Result Bool E) (l : List ℕ) → IfOk r (λ b. b ≡ fits (length l))
    → IfOk r (λ b. b ≡ false → fits (length l) ≡ false)
long_from_append (Ok b) l h = λ is. sym h ∙ is
long_from_append (Err e) l h = h

pub items_from_append : {E : Type 0} (r : Result Bool E) (made all old : List ℕ) → IfOk r (λ b. made ≡ cond b all old)
    → IfOk r (λ b. b ≡ true → made ≡ all)
items_from_append (Ok b) made all old h = λ is. h ∙ ap (λ t. cond t all old) is
items_from_append (Err e) made all old h = h
