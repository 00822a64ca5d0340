-- The tokens of a text are refused for one place.
use Rattle.std.proofs.Common.{◌≡◌, ℕ, Result, sym, ◌∙◌}
use Rattle.std.proofs.lemmas.Option.{same_Some}
use Rattle.parser_tree.specs.Parts.{PlainNode}
use Rattle.parser_forms.specs.Reading.{Tokens}
use Rattle.rb_parser.specs.Program.{Misses}

pub misses_once : (ts : Tokens) (size a b : ℕ) (n : Result PlainNode ℕ) → Misses ts size a n → Misses ts size b n → a ≡ b
misses_once ts size a b n p q = same_Some a b (sym p ∙ q)
