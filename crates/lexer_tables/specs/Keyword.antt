-- Keywords by their spelling.
use Rattle.std.specs.Prelude.{ℕ, List, length, codes, bytes_eq, ◌==◌, if◌then◌else◌, Option, Some, None}
use Rattle.rb_syntax.specs.declared.keyword.Keyword.{Keyword}
use Rattle.rb_syntax.specs.declared.keyword.Keyword.TheVariants as keys

unfoldable pub of_two_bytes : List ℕ → Option Keyword
of_two_bytes word =
    if bytes_eq word (codes "do") then Some keys.Do
    else if bytes_eq word (codes "if") then Some keys.If
    else if bytes_eq word (codes "in") then Some keys.In
    else if bytes_eq word (codes "or") then Some keys.Or
    else None

unfoldable pub of_three_bytes : List ℕ → Option Keyword
of_three_bytes word =
    if bytes_eq word (codes "END") then Some keys.EndBlock
    else if bytes_eq word (codes "and") then Some keys.And
    else if bytes_eq word (codes "def") then Some keys.Def
    else if bytes_eq word (codes "end") then Some keys.End
    else if bytes_eq word (codes "for") then Some keys.For
    else if bytes_eq word (codes "nil") then Some keys.Nil
    else if bytes_eq word (codes "not") then Some keys.Not
    else None

unfoldable pub of_four_bytes : List ℕ → Option Keyword
of_four_bytes word =
    if bytes_eq word (codes "case") then Some keys.Case
    else if bytes_eq word (codes "else") then Some keys.Else
    else if bytes_eq word (codes "next") then Some keys.Next
    else if bytes_eq word (codes "redo") then Some keys.Redo
    else if bytes_eq word (codes "self") then Some keys.SelfReference
    else if bytes_eq word (codes "then") then Some keys.Then
    else if bytes_eq word (codes "true") then Some keys.True
    else if bytes_eq word (codes "when") then Some keys.When
    else None

unfoldable pub of_five_bytes_to_class : List ℕ → Option Keyword
of_five_bytes_to_class word =
    if bytes_eq word (codes "BEGIN") then Some keys.BeginBlock
    else if bytes_eq word (codes "alias") then Some keys.Alias
    else if bytes_eq word (codes "begin") then Some keys.Begin
    else if bytes_eq word (codes "break") then Some keys.Break
    else if bytes_eq word (codes "class") then Some keys.Class
    else None

unfoldable pub of_five_bytes_from_elsif : List ℕ → Option Keyword
of_five_bytes_from_elsif word =
    if bytes_eq word (codes "elsif") then Some keys.Elsif
    else if bytes_eq word (codes "false") then Some keys.False
    else if bytes_eq word (codes "retry") then Some keys.Retry
    else if bytes_eq word (codes "super") then Some keys.Super
    else if bytes_eq word (codes "undef") then Some keys.Undef
    else if bytes_eq word (codes "until") then Some keys.Until
    else if bytes_eq word (codes "while") then Some keys.While
    else if bytes_eq word (codes "yield") then Some keys.Yield
    else None

unfoldable pub of_six_bytes : List ℕ → Option Keyword
of_six_bytes word =
    if bytes_eq word (codes "ensure") then Some keys.Ensure
    else if bytes_eq word (codes "module") then Some keys.Module
    else if bytes_eq word (codes "rescue") then Some keys.Rescue
    else if bytes_eq word (codes "return") then Some keys.Return
    else if bytes_eq word (codes "unless") then Some keys.Unless
    else None

unfoldable pub of_more_bytes : List ℕ → Option Keyword
of_more_bytes word =
    if bytes_eq word (codes "__ENCODING__") then Some keys.EncodingName
    else if bytes_eq word (codes "__FILE__") then Some keys.FileName
    else if bytes_eq word (codes "__LINE__") then Some keys.LineNumber
    else if bytes_eq word (codes "defined?") then Some keys.Defined
    else None

abbrev pub or_else : Option Keyword → Option Keyword → Option Keyword
or_else (Some k) other = Some k
or_else None other = other

unfoldable pub of_five_bytes : List ℕ → Option Keyword
of_five_bytes word = or_else (of_five_bytes_to_class word) (of_five_bytes_from_elsif word)

-- the keyword that is spelled so; the table is split by length
unfoldable pub keyword_of : List ℕ → Option Keyword
keyword_of word =
    if length word == 2 then of_two_bytes word
    else if length word == 3 then of_three_bytes word
    else if length word == 4 then of_four_bytes word
    else if length word == 5 then of_five_bytes word
    else if length word == 6 then of_six_bytes word
    else of_more_bytes word
