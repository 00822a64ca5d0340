-- The bodies of heredocs in the lines of a text.
use Rattle.std.specs.Prelude.{ℕ, ◌-◌, List, [], ◌∷◌, ◌++◌, length, take, drop, Option, Some, None, Bool, ◌==◌, nat_le, ◌||◌, ◌&&◌, if◌then◌else◌}
use Rattle.std.specs.List.{concat}
use Rattle.std.specs.Str.{bytes_eq}
use Rattle.rb_heredoc.specs.declared.heredoc.Head.{Head}
use Rattle.rb_heredoc.specs.declared.heredoc.Bodies.{Bodies}
use Rattle.rb_heredoc.specs.Lines.{lines_of, are_white, content}
use Rattle.rb_base.specs.Option.{◌>>=◌}

-- the line is the identifier of the head, before which white space may stand where the head is indented
unfoldable pub is_end_line : Head → List ℕ → Bool
is_end_line head line =
    let found = content line in
    let before = length found - length head.id in
    nat_le (length head.id) (length found) && bytes_eq (drop before found) head.id
    && ((before == 0) || (head.indented && are_white (take before found)))

-- the body of a head is the lines before the first end line; and the lines after that one
unfoldable pub body_in : Head → List (List ℕ) → Option (List ℕ × List (List ℕ))
body_in head [] = None
body_in head (line ∷ lines) =
    if is_end_line head line then Some ([], lines) else (body_in head lines >>= λ b. Some (line ++ b.0, b.1))

-- the bodies of the heads follow one another in their order; and the lines after the last end line
unfoldable pub bodies_in : List Head → List (List ℕ) → Option (List (List ℕ) × List (List ℕ))
bodies_in [] lines = Some ([], lines)
bodies_in (head ∷ heads) lines = body_in head lines >>= λ b. bodies_in heads b.1 >>= λ bs. Some (b.0 ∷ bs.0, bs.1)

-- the bodies that begin at a place of a text; next is the place where the lines after them begin
unfoldable pub bodies_at : List ℕ → ℕ → List Head → Option Bodies
bodies_at text from heads =
    bodies_in heads (lines_of (drop from text)) >>= λ bs.
    Some (record { pieces = bs.0; next = length text - length (concat bs.1) })
