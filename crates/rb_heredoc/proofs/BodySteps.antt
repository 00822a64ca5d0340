-- Going over lines to the end of a body, and over heads.
use Rattle.std.proofs.Common.{◌≡◌, ℕ, suc, ◌+◌, ◌-◌, ◌<◌, ◌≤◌, List, [], ◌∷◌, ◌++◌, length, take, drop, get_or, drop-cons, add-one, arith, refl, sym, ap, ◌∙◌, true, false, Option, Some, None, append_assoc}
use Rattle.std.proofs.lemmas.List.{append-nil, drop-drop, length-drop}
use Rattle.std.proofs.Math.Seq.{take-add}
use Rattle.std.proofs.Math.ListN.{drop_of_length-le}
use Rattle.std.specs.List.{concat}
use Rattle.rb_heredoc.specs.declared.heredoc.Head.{Head}
use Rattle.rb_heredoc.specs.Lines.{lines_of, line_end}
use Rattle.rb_heredoc.specs.Bodies.{is_end_line, body_in, bodies_in}
use Rattle.rb_base.specs.Option.{◌>>=◌}
use Rattle.rb_heredoc.proofs.LinesFrom.{lines_here, joined}

abbrev Body : Type 0
Body = List ℕ × List (List ℕ)

abbrev Pieces : Type 0
Pieces = List (List ℕ) × List (List ℕ)

-- with bytes that stand before the body
abbrev pub with_front : List ℕ → Option (List ℕ × List (List ℕ)) → Option (List ℕ × List (List ℕ))
with_front front read = read >>= λ b. Some (front ++ b.0, b.1)

-- with the pieces before
abbrev pub with_pieces : List (List ℕ) → Option (List (List ℕ) × List (List ℕ)) → Option (List (List ℕ) × List (List ℕ))
with_pieces front read = read >>= λ b. Some (front ++ b.0, b.1)

pub no_front : (read : Option (List ℕ × List (List ℕ))) → with_front [] read ≡ read
no_front None = refl
no_front (Some b) = refl

pub no_pieces : (read : Option (List (List ℕ) × List (List ℕ))) → with_pieces [] read ≡ read
no_pieces None = refl
no_pieces (Some b) = refl

regroup : (front line : List ℕ) (read : Option Body) → with_front front (read >>= λ b. Some (line ++ b.0, b.1))
    ≡ with_front (front ++ line) read
regroup front line None = refl
regroup front line (Some b) = ap (λ (bytes : List ℕ). Some (bytes, b.1)) (simp append_assoc)

regroup_pieces : (front : List (List ℕ)) (piece : List ℕ) (read : Option Pieces)
    → with_pieces front (read >>= λ b. Some (piece ∷ b.0, b.1)) ≡ with_pieces (front ++ piece ∷ []) read
regroup_pieces front piece None = refl
regroup_pieces front piece (Some b) = ap (λ (pieces : List (List ℕ)). Some (pieces, b.1)) (simp append_assoc)

-- the bytes from one place to a second, and from there to a third
pub joins : (text : List ℕ) (from at end : ℕ) → from ≤ at → at ≤ end
    → take (at - from) (drop from text) ++ take (end - at) (drop at text) ≡ take (end - from) (drop from text)
joins text from at end first second =
    let e : end - from ≡ (at - from) + (end - at) = omega arith in
    let f : from + (at - from) ≡ at = omega arith in
    let d : drop (at - from) (drop from text) ≡ drop at text = rw (drop-drop, f) refl in
    sym (rw (e, take-add (at - from) (end - at) (drop from text), d) refl)

-- a line that isn't the end line belongs to the body
pub goes_on : (head : Head) (text : List ℕ) (from at end : ℕ) (total : Option (List ℕ × List (List ℕ))) → from ≤ at
    → at < length text → at < end → end ≡ line_end at (drop at text)
    → is_end_line head (take (end - at) (drop at text)) ≡ false
    → with_front (take (at - from) (drop from text)) (body_in head (lines_of (drop at text))) ≡ total
    → with_front (take (end - from) (drop from text)) (body_in head (lines_of (drop end text))) ≡ total
unfolding body_in
goes_on head text from at end total first here more is other so_far =
    let line : List ℕ = take (end - at) (drop at text) in
    let front : List ℕ = take (at - from) (drop from text) in
    let read : Option Body = body_in head (lines_of (drop end text)) in
    let one : body_in head (lines_of (drop at text)) ≡ (read >>= λ b. Some (line ++ b.0, b.1)) =
    rw (lines_here text at end here is, other) refl in
    let two : with_front front (body_in head (lines_of (drop at text))) ≡ with_front (front ++ line) read =
    ap (with_front front) one ∙ regroup front line read in
    let three : with_front (front ++ line) read ≡ with_front (take (end - from) (drop from text)) read =
    ap (λ (f : List ℕ). with_front f read) (joins text from at end first (omega arith)) in
    sym (two ∙ three) ∙ so_far

-- the end line ends the body
pub ends : (head : Head) (text : List ℕ) (from at end : ℕ) (total : Option (List ℕ × List (List ℕ))) → at < length text
    → end ≡ line_end at (drop at text)
    → is_end_line head (take (end - at) (drop at text)) ≡ true
    → with_front (take (at - from) (drop from text)) (body_in head (lines_of (drop at text))) ≡ total
    → total ≡ Some (take (at - from) (drop from text), lines_of (drop end text))
unfolding body_in
ends head text from at end total here is found so_far =
    let front : List ℕ = take (at - from) (drop from text) in
    let one : with_front front (body_in head (lines_of (drop at text))) ≡ Some (front ++ [], lines_of (drop end text)) =
    rw (lines_here text at end here is, found) refl in
    sym so_far ∙ one ∙ ap (λ (bytes : List ℕ). Some (bytes, lines_of (drop end text))) (append-nil front)

-- after the last line there is no body
pub missing : (head : Head) (text front : List ℕ) (at : ℕ) (total : Option (List ℕ × List (List ℕ))) → length text ≤ at
    → with_front front (body_in head (lines_of (drop at text))) ≡ total → total ≡ None
unfolding body_in lines_of
missing head text front at total past so_far =
    let one : with_front front (body_in head (lines_of (drop at text))) ≡ None =
    rw (drop_of_length-le text past) refl in
    sym so_far ∙ one

-- one body more
pub next_body : (heads : List Head) (i : ℕ) (head : Head) (front : List (List ℕ)) (piece : List ℕ)
    (lines behind : List (List ℕ)) (total : Option (List (List ℕ) × List (List ℕ)))
    → drop i heads ≡ head ∷ drop (i + 1) heads → body_in head lines ≡ Some (piece, behind)
    → with_pieces front (bodies_in (drop i heads) lines) ≡ total
    → with_pieces (front ++ piece ∷ []) (bodies_in (drop (i + 1) heads) behind) ≡ total
unfolding bodies_in
next_body heads i head front piece lines behind total is found so_far =
    let read : Option Pieces = bodies_in (drop (i + 1) heads) behind in
    let one : bodies_in (drop i heads) lines ≡ (read >>= λ b. Some (piece ∷ b.0, b.1)) = rw (is, found) refl in
    sym (ap (with_pieces front) one ∙ regroup_pieces front piece read) ∙ so_far

-- a head without a body
pub no_body : (heads : List Head) (i : ℕ) (head : Head) (front : List (List ℕ)) (lines : List (List ℕ))
    (total : Option (List (List ℕ) × List (List ℕ)))
    → drop i heads ≡ head ∷ drop (i + 1) heads → body_in head lines ≡ None
    → with_pieces front (bodies_in (drop i heads) lines) ≡ total → total ≡ None
unfolding bodies_in
no_body heads i head front lines total is found so_far =
    let one : with_pieces front (bodies_in (drop i heads) lines) ≡ None = rw (is, found) refl in
    sym so_far ∙ one

-- after the last head
pub all_bodies : (heads : List Head) (i : ℕ) (front : List (List ℕ)) (lines : List (List ℕ))
    (total : Option (List (List ℕ) × List (List ℕ)))
    → length heads ≤ i → with_pieces front (bodies_in (drop i heads) lines) ≡ total → total ≡ Some (front, lines)
unfolding bodies_in
all_bodies heads i front lines total past so_far =
    let one : with_pieces front (bodies_in (drop i heads) lines) ≡ Some (front ++ [], lines) =
    rw (drop_of_length-le heads past) refl in
    sym so_far ∙ one ∙ ap (λ (pieces : List (List ℕ)). Some (pieces, lines)) (append-nil front)

-- where the lines after a place begin
pub next_is : (text : List ℕ) (next : ℕ) → next ≤ length text
    → length text - length (concat (lines_of (drop next text))) ≡ next
next_is text next within = rw (joined (drop next text), length-drop next text) (omega arith)

pub head_here : (heads : List Head) (i : ℕ) (head : Head) → i < length heads → head ≡ get_or heads i head
    → drop i heads ≡ head ∷ drop (i + 1) heads
head_here heads i head here is = rw (add-one, drop-cons heads i head) (ap (λ h. h ∷ drop (suc i) heads) (sym is))
