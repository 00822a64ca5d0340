-- What a place is inside of, and what of the text is read there.
use Rattle.std.specs.Prelude.{◌≡◌, ℕ, ◌+◌, ◌⊎◌, true, false, List, [], ◌∷◌, Some, None, length, take}
use Rattle.rb_heredoc.specs.declared.heredoc.Bodies.{Bodies}
use Rattle.rb_heredoc.specs.Bodies.{bodies_at}
use Rattle.rb_syntax.specs.declared.punctuator.Punctuator.TheVariants as marks
use Rattle.rb_syntax.specs.declared.token.TokenKind.{TokenKind}
use Rattle.rb_syntax.specs.declared.token.TokenKind.TheVariants as kinds
use Rattle.lexer_tables.specs.Following.{can_end, wants_name}
use Rattle.rb_lexer.specs.declared.heads.HeadPlace.{HeadPlace}
use Rattle.rb_lexer.specs.Lexing.{head_of}
use Rattle.lexer_laws.specs.Gaps.{IsLine, LeadsDot}
use Rattle.lexer_laws.specs.Literals.{Literal, Raw, Double}
use Rattle.lexer_laws.specs.Place.{Place, lined_to}
use Rattle.lexer_laws.specs.Signs.{IsHeredocHead}

-- what is open at a place, the innermost first: a literal with so many of its brackets open within
pub data Open : Type 0 where
  Brace : Open
  Interpolation : Open
  Inside : Literal → ℕ → Open

abbrev pub InCode : List Open → Type 0
InCode [] = Unit {0}
InCode (Brace ∷ around) = Unit {0}
InCode (Interpolation ∷ around) = Unit {0}
InCode (Inside l depth ∷ around) = ⊥

-- nothing is open but braces
abbrev pub AreBraces : List Open → Type 0
AreBraces [] = Unit {0}
AreBraces (Brace ∷ around) = AreBraces around
AreBraces (Interpolation ∷ around) = ⊥
AreBraces (Inside l depth ∷ around) = ⊥

-- a } closes a brace; where an interpolation is innermost, it is no mark
abbrev pub ClosesBrace : List Open → List Open → Type 0
ClosesBrace [] after = after ≡ []
ClosesBrace (Brace ∷ around) after = after ≡ around
ClosesBrace (Interpolation ∷ around) after = ⊥
ClosesBrace (Inside l depth ∷ around) after = ⊥

-- what is open after a token that is no part of a literal
abbrev pub Nests : List Open → TokenKind → List Open → Type 0
Nests around kind after =
    ((kind ≡ kinds.Punctuator marks.OpenBrace) × (after ≡ Brace ∷ around))
    ⊎ (((kind ≡ kinds.Punctuator marks.CloseBrace) × ClosesBrace around after)
    ⊎ ((kind ≡ kinds.Punctuator marks.OpenBrace → ⊥) × (kind ≡ kinds.Punctuator marks.CloseBrace → ⊥)
    × (after ≡ around)))

-- The whole text; what follows the head of a heredoc on its line, up to stop, with the place next after the bodies
-- of that line; or the body of a heredoc up to stop, with the place back after its head, the end of the head's line
-- and the place next after the line that ends the body.
pub data Stretch : Type 0 where
  Whole : Stretch
  Line : (stop next : ℕ) → Stretch
  Body : (stop back line next : ℕ) → Stretch

-- the text that is read: it ends where the stretch does
abbrev pub shown : List ℕ → Stretch → List ℕ
shown text Whole = text
shown text (Line stop next) = take stop text
shown text (Body stop back line next) = take stop text

-- the newline that ends a line with heads of heredocs: the next line is the one after the bodies
abbrev pub BeforeBodies : Stretch → ℕ → Type 0
BeforeBodies Whole at = ⊥
BeforeBodies (Line stop next) at = at + 1 ≡ stop
BeforeBodies (Body stop back line next) at = ⊥

-- where the next line begins at a place, a newline is dropped as elsewhere
abbrev pub DropsBefore : List ℕ → Place → ℕ → Place → Type 0
DropsBefore text p next q =
    ((can_end p.context ≡ false) × (q ≡ lined_to p next))
    ⊎ ((can_end p.context ≡ true) × (LeadsDot text next q.at × (q ≡ lined_to p q.at)))

-- the first body begins after the line of its head, and another one after the body before
abbrev pub BodyBegins : Stretch → List ℕ → ℕ → ℕ → ℕ → Type 0
BodyBegins Whole text head_end from line = IsLine text head_end line × (from ≡ line)
BodyBegins (Line stop next) text head_end from line = (from ≡ next) × (line ≡ stop)
BodyBegins (Body stop back line next) text head_end from end = ⊥

-- A heredoc, which no interpolation may hold: its head, and its body from a place to its stop; the head's line ends
-- at line, and next is after the line that ends the body.
pub record IsHeredoc (text : List ℕ) (s : Stretch) (around : List Open) (p : Place) (h : HeadPlace)
    (from stop line next : ℕ) : Type 0 where
  pub outside : AreBraces around
  pub not_wanted : wants_name p.context ≡ false
  pub head : IsHeredocHead (shown text s) p h
  pub begins : BodyBegins s text h.end from line
  pub bodies : Bodies
  pub cut : bodies_at text from (head_of text h ∷ []) ≡ Some bodies
  pub body : List ℕ
  pub piece_is : bodies.pieces ≡ body ∷ []
  pub stops : stop ≡ from + length body
  pub next_is : next ≡ bodies.next

-- a body has neither escapes nor interpolation after a head in single quotes, and all of them after another
abbrev pub IsBody : HeadPlace → Literal → Type 0
IsBody h l =
    (l.delimiters ≡ None) × (l.key ≡ None)
    × (((h.first ≡ 39) × (l.contents ≡ Raw)) ⊎ ((h.first ≡ 39 → ⊥) × (l.contents ≡ Double)))
