-- The lines of a text from a place on.
use Rattle.std.proofs.Common.{◌≡◌, ℕ, suc, ◌+◌, ◌-◌, ◌<◌, List, [], ◌∷◌, length, take, drop, get_or, drop-cons, subst, add-one, arith, refl, sym, ap, ◌∙◌, true, false, Bool, cond, eqb}
use Rattle.std.specs.List.{concat}
use Rattle.std.proofs.lemmas.List.{drop-drop}
use Rattle.rb_heredoc.specs.Lines.{lines_of, line_end, with_byte}

pub drop_here : (xs : List ℕ) (i : ℕ) → i < length xs → drop i xs ≡ get_or xs i 0 ∷ drop (i + 1) xs
drop_here xs i h = rw (add-one, drop-cons xs i 0) refl

-- how many bytes the first line has
unfoldable line_len : List ℕ → ℕ
line_len [] = 0
line_len (x ∷ xs) = cond (eqb x 10) 1 (suc (line_len xs))

ends_case : (b : Bool) (at : ℕ) (xs : List ℕ) → line_end (at + 1) xs ≡ at + 1 + line_len xs
    → cond b (at + 1) (line_end (at + 1) xs) ≡ at + cond b 1 (suc (line_len xs))
ends_case true at xs more = refl
ends_case false at xs more = omega (arith, more)

ends_behind : (at : ℕ) (xs : List ℕ) → line_end at xs ≡ at + line_len xs
unfolding line_end line_len
ends_behind at [] = omega arith
ends_behind at (x ∷ xs) = ends_case (eqb x 10) at xs (ends_behind (at + 1) xs)

last_case : (b : Bool) (x : ℕ) → cond b ((x ∷ []) ∷ lines_of []) (with_byte x (lines_of []))
    ≡ take (cond b 1 (suc (line_len []))) (x ∷ []) ∷ lines_of (drop (cond b 1 (suc (line_len []))) (x ∷ []))
unfolding lines_of line_len
last_case true x = refl
last_case false x = refl

first_case : (b : Bool) (x : ℕ) (xs : List ℕ) → lines_of xs ≡ take (line_len xs) xs ∷ lines_of (drop (line_len xs) xs)
    → cond b ((x ∷ []) ∷ lines_of xs) (with_byte x (lines_of xs))
    ≡ take (cond b 1 (suc (line_len xs))) (x ∷ xs) ∷ lines_of (drop (cond b 1 (suc (line_len xs))) (x ∷ xs))
first_case true x xs more = refl
first_case false x xs more = ap (with_byte x) more

first_line : (x : ℕ) (xs : List ℕ) → lines_of (x ∷ xs)
    ≡ take (line_len (x ∷ xs)) (x ∷ xs) ∷ lines_of (drop (line_len (x ∷ xs)) (x ∷ xs))
unfolding lines_of line_len
first_line x [] = last_case (eqb x 10) x
first_line x (y ∷ ys) = first_case (eqb x 10) x (y ∷ ys) (first_line y ys)

-- the line that a place begins, and the lines after it
pub lines_here : (text : List ℕ) (at end : ℕ) → at < length text → end ≡ line_end at (drop at text)
    → lines_of (drop at text) ≡ take (end - at) (drop at text) ∷ lines_of (drop end text)
lines_here text at end here is =
    let n : ℕ = line_len (drop at text) in
    let e : end ≡ at + n = is ∙ ends_behind at (drop at text) in
    let m : end - at ≡ n = omega (arith, e) in
    let d : drop n (drop at text) ≡ drop end text = rw (drop-drop, e) refl in
    let e2 : drop at text ≡ get_or text at 0 ∷ drop (at + 1) text = drop_here text at here in
    let first : lines_of (drop at text) ≡ take n (drop at text) ∷ lines_of (drop n (drop at text)) =
    subst (λ xs. lines_of xs ≡ take (line_len xs) xs ∷ lines_of (drop (line_len xs) xs)) (sym e2)
    (first_line (get_or text at 0) (drop (at + 1) text)) in
    rw (m, ← d) first

bytes_case : (x : ℕ) (lines : List (List ℕ)) → concat (with_byte x lines) ≡ x ∷ concat lines
bytes_case x [] = refl
bytes_case x (line ∷ lines) = refl

joined_case : (b : Bool) (x : ℕ) (xs : List ℕ) → concat (lines_of xs) ≡ xs
    → concat (cond b ((x ∷ []) ∷ lines_of xs) (with_byte x (lines_of xs))) ≡ x ∷ xs
joined_case true x xs more = ap (λ ys. x ∷ ys) more
joined_case false x xs more = bytes_case x (lines_of xs) ∙ ap (λ ys. x ∷ ys) more

-- the lines joined are the text
pub joined : (xs : List ℕ) → concat (lines_of xs) ≡ xs
unfolding lines_of
joined [] = refl
joined (x ∷ xs) = joined_case (eqb x 10) x xs (joined xs)
