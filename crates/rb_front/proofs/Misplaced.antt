-- Tokens that have no tree, or in which a word is misplaced.
use Rattle.std.proofs.Common.{min, ◌≡◌, ℕ, List, Option, None, Some, Result, Ok, Err, ap, sym, ◌∙◌}
use Rattle.std.specs.Option.{option_map}
use Rattle.rb_syntax.specs.declared.token.Token.{Token}
use Rattle.parser_tree.specs.Parts.{PlainNode}
use Rattle.parser_checks.specs.Places.{misplaced}
use Rattle.rb_parser.specs.Program.{Misses}

-- they have one place
pub one_place : (ts : List Token) (size a b : ℕ) (r : Result PlainNode ℕ) → Misses ts size a r → Misses ts size b r
    → a ≡ b
one_place ts size a b r g h = cc (sym g ∙ h)

none_missed : (o : Option ℕ) (f : ℕ → ℕ) (at : ℕ) → option_map f o ≡ Some at → o ≡ None → ⊥
none_missed None f at g none = absurd (cc g)
none_missed (Some word) f at g none = absurd (cc none)

-- and tokens with a tree in which no word is misplaced aren't refused
pub not_missed : (ts : List Token) (size at : ℕ) (r : Result PlainNode ℕ) (n : PlainNode) → Misses ts size at r
    → r ≡ Ok n → misplaced n.1 ≡ None → ⊥
not_missed ts size at (Err place) n g is well = absurd (cc is)
not_missed ts size at (Ok m) n g is well =
    let same : m ≡ n = cc is in
    none_missed (misplaced m.1) (λ at. min at size) at g (ap (λ x. misplaced x.1) same ∙ well)
