-- The body of a heredoc ends before the place after its end line.
use Rattle.std.proofs.Common.{◌≡◌, ℕ, ◌+◌, ◌-◌, ◌≤◌, List, [], ◌∷◌, ◌++◌, length, drop, Option, Some, None, Bool, true, false, cond, arith, refl, subst, ap, ◌∙◌}
use Rattle.std.proofs.lemmas.List.{length-append, length-drop}
use Rattle.std.specs.List.{concat}
use Rattle.rb_heredoc.specs.declared.heredoc.Head.{Head}
use Rattle.rb_heredoc.specs.declared.heredoc.Bodies.{Bodies}
use Rattle.rb_heredoc.specs.Bodies.{is_end_line, body_in, bodies_in, bodies_at}
use Rattle.rb_base.specs.Option.{◌>>=◌}
use Rattle.rb_heredoc.specs.Lines.{lines_of}
use Rattle.rb_heredoc.proofs.LinesFrom.{joined}
use Rattle.rb_lexer.specs.Lexing.{first_length}

abbrev Parts : Type 0
Parts = List ℕ × List (List ℕ)

parts_case : (e : Bool) (line : List ℕ) (lines : List (List ℕ)) (rest : Option Parts) (b : Parts)
    → ((c : Parts) → rest ≡ Some c → length c.0 + length (concat c.1) ≤ length (concat lines))
    → cond e (Some ([], lines)) (rest >>= λ c. Some (line ++ c.0, c.1)) ≡ Some b
    → length b.0 + length (concat b.1) ≤ length (line ++ concat lines)
parts_case true line lines rest b more is =
    let first : Parts = ([], lines) in
    let same : first ≡ b = cc in
    subst (λ (x : Parts). length x.0 + length (concat x.1) ≤ length (line ++ concat lines)) same
    (simp length-append (omega arith))
parts_case false line lines None b more is = absurd cc
parts_case false line lines (Some c) b more is =
    let longer : Parts = (line ++ c.0, c.1) in
    let same : longer ≡ b = cc in
    let bound : length c.0 + length (concat c.1) ≤ length (concat lines) = more c refl in
    subst (λ (x : Parts). length x.0 + length (concat x.1) ≤ length (line ++ concat lines)) same
    (simp length-append (omega (arith, bound)))

body_parts : (head : Head) (lines : List (List ℕ)) (b : Parts) → body_in head lines ≡ Some b
    → length b.0 + length (concat b.1) ≤ length (concat lines)
unfolding body_in
body_parts head [] b is = absurd cc
body_parts head (line ∷ lines) b is = parts_case (is_end_line head line) line lines (body_in head lines) b
    (λ c h. body_parts head lines c h) is

abbrev Pieces : Type 0
Pieces = List (List ℕ) × List (List ℕ)

abbrev only : Parts → Option Pieces
only c = Some (c.0 ∷ [], c.1)

abbrev bodied : List ℕ → Pieces → Option Bodies
bodied text bs = Some (record { pieces = bs.0; next = length text - length (concat bs.1) })

whole_case : (text : List ℕ) (from : ℕ) (read : Option Parts) (b : Bodies) → from ≤ length text
    → ((c : Parts) → read ≡ Some c → length c.0 + length (concat c.1) ≤ length text - from)
    → ((read >>= only) >>= bodied text) ≡ Some b
    → from + first_length b.pieces ≤ b.next
whole_case text from None b within more is = absurd cc
whole_case text from (Some c) b within more is =
    let found : Bodies = record { pieces = c.0 ∷ []; next = length text - length (concat c.1) } in
    let same : found ≡ b = cc in
    let bound : length c.0 + length (concat c.1) ≤ length text - from = more c refl in
    subst (λ (x : Bodies). from + first_length x.pieces ≤ x.next) same (omega (arith, bound))

lines_bound : (text : List ℕ) (from : ℕ) → length (concat (lines_of (drop from text))) ≡ length text - from
lines_bound text from = ap length (joined (drop from text)) ∙ length-drop from text

pub body_fits : (text : List ℕ) (from : ℕ) (head : Head) (b : Bodies) → from ≤ length text
    → bodies_at text from (head ∷ []) ≡ Some b → from + first_length b.pieces ≤ b.next
unfolding bodies_in bodies_at
body_fits text from head b within found =
    whole_case text from (body_in head (lines_of (drop from text))) b within
    (λ c h. subst (λ (n : ℕ). length c.0 + length (concat c.1) ≤ n) (lines_bound text from)
    (body_parts head (lines_of (drop from text)) c h)) found
