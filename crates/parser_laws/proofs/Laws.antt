-- The laws of the crate, of the rules with enough levels and of whole programs.
use Rattle.std.proofs.Common.{◌≡◌, ℕ, ◌≤◌, true, List, [], length, Ok, refl, sym, ap, subst, ◌∙◌, arith}
use Rattle.parser_tree.specs.Node.{Name, Node}
use Rattle.parser_ahead.specs.Names.{locals_from}
use Rattle.parser_tokens.specs.Tokens.{first}
use Rattle.parser_ahead.specs.declared.primary.DoOwner.{DoOwner}
use Rattle.parser_ahead.specs.declared.primary.Place.TheVariants as places
use Rattle.parser_phrases.specs.Phrases.{argument}
use Rattle.parser_operands.specs.Operators.{operation}
use Rattle.parser_statements.specs.Statements.{statements}
use Rattle.parser_forms.specs.Reading.{Names, Tokens, Read}
use Rattle.rb_parser.specs.Levels.{levels}
use Rattle.rb_parser.specs.Program.{is_finish, program}
use Rattle.parser_laws.specs.Rules.{Statements, Argument, Operation, is_inner}
use Rattle.parser_laws.specs.Derives.{Derives}
use Rattle.parser_laws.specs.Expressions.{is_expression}
use Rattle.parser_laws.proofs.Results.{bind_ok, then_ok, read_same, or_else}
use Rattle.parser_laws.proofs.SoundOperators.{operation_sound}
use Rattle.parser_laws.proofs.SoundPhrases.{argument_sound}
use Rattle.parser_laws.proofs.SoundStatements.{statements_sound}
use Rattle.parser_laws.proofs.SoundLevels.{levels_sound}
use Rattle.parser_laws.proofs.CompleteOperands.{operation_of}
use Rattle.parser_laws.proofs.Complete.{complete}

pub argument_derived : (d : ℕ) (names known : Names) (ts rest : Tokens) (owner : DoOwner) (n : Node)
    → argument (levels d) names ts owner ≡ Ok (n, known, rest) → is_expression n ≡ true
    → Derives (Argument places.Argument owner n) names ts known rest
argument_derived d names known ts rest owner n h is =
    argument_sound (levels d) (levels_sound d) names known ts rest owner n h is

pub operation_derived : (d : ℕ) (names known : Names) (ts rest : Tokens) (loosest : ℕ) (owner : DoOwner) (n : Node)
    → is_inner loosest ≡ true → operation (levels d) names ts loosest owner ≡ Ok (n, known, rest)
    → is_expression n ≡ true → Derives (Operation places.Argument loosest owner n) names ts known rest
operation_derived d names known ts rest loosest owner n inner h is =
    operation_sound (levels d) (levels_sound d) names known ts rest loosest owner n inner h is

pub statements_derived : (d : ℕ) (names known : Names) (ts rest : Tokens) (n : Node)
    → statements (levels d) names ts ≡ Ok (n, known, rest) → is_expression n ≡ true
    → Derives (Statements n) names ts known rest
statements_derived d names known ts rest n h is =
    statements_sound (levels d) (levels_sound d) names known ts rest n h is

pub argument_read : (d : ℕ) (names known : Names) (ts rest : Tokens) (owner : DoOwner) (n : Node)
    → Derives (Argument places.Argument owner n) names ts known rest → length ts ≤ d
    → argument (levels d) names ts owner ≡ Ok (n, known, rest)
argument_read d names known ts rest owner n derived room = let f = complete _ _ _ _ _ derived in
    rw (f.2 d room refl refl) refl

pub operation_read : (d : ℕ) (names known : Names) (ts rest : Tokens) (loosest : ℕ) (owner : DoOwner) (n : Node)
    → is_inner loosest ≡ true → Derives (Operation places.Argument loosest owner n) names ts known rest
    → length ts ≤ d → operation (levels d) names ts loosest owner ≡ Ok (n, known, rest)
operation_read d names known ts rest loosest owner n inner derived room =
    let f = complete _ _ _ _ _ derived in operation_of places.Argument (levels d) names known ts rest loosest owner n
    inner (f.2 d room)

pub statements_read : (d : ℕ) (names known : Names) (ts rest : Tokens) (n : Node)
    → Derives (Statements n) names ts known rest → length ts ≤ d → statements (levels d) names ts ≡ Ok (n, known, rest)
statements_read d names known ts rest n derived room = (complete _ _ _ _ _ derived).2 d room

same_of : {A : Type 0} (r : Read A) (x y : A) (names known : Names) (ts rest : Tokens) → r ≡ Ok (x, names, ts)
    → r ≡ Ok (y, known, rest) → (x ≡ y) × (names ≡ known) × (ts ≡ rest)
same_of r x y names known ts rest a b = read_same x y names known ts rest (sym a ∙ b)

pub argument_once : (names known later : Names) (ts rest more : Tokens) (owner : DoOwner) (n m : Node)
    → Derives (Argument places.Argument owner n) names ts known rest
    → Derives (Argument places.Argument owner m) names ts later more
    → (n ≡ m) × (known ≡ later) × (rest ≡ more)
argument_once names known later ts rest more owner n m a b =
    same_of _ n m known later rest more (argument_read (length ts) names known ts rest owner n a (omega arith))
    (argument_read (length ts) names later ts more owner m b (omega arith))

pub statements_once : (names known later : Names) (ts rest more : Tokens) (n m : Node)
    → Derives (Statements n) names ts known rest → Derives (Statements m) names ts later more → (n ≡ m)
    × (known ≡ later) × (rest ≡ more)
statements_once names known later ts rest more n m a b =
    same_of _ n m known later rest more (statements_read (length ts) names known ts rest n a (omega arith))
    (statements_read (length ts) names later ts more m b (omega arith))

pub program_derived : (ts : Tokens) (xs : List Name) (n : Node) → program ts ≡ Ok (xs, n) → is_expression n ≡ true
    → (known : Names) × (rest : Tokens) × Derives (Statements n) [] ts known rest × (is_finish (first rest) ≡ true)
    × (xs ≡ locals_from 0 known)
unfolding program
program_derived ts xs n h is =
    let r = bind_ok (statements (levels (length ts)) [] ts) _ (xs, n) h in
    let c = then_ok (is_finish (first r.0.2)) (Ok (locals_from 0 r.0.1, r.0.0)) (length r.0.2) (xs, n) r.2 in
    let whole : (locals_from 0 r.0.1, r.0.0) ≡ (xs, n) = ap (or_else (locals_from 0 r.0.1, r.0.0)) c.1 in
    let e : r.0.0 ≡ n = ap (λ p. p.1) whole in
    let there : is_expression r.0.0 ≡ true = subst (λ x. is_expression x ≡ true) (sym e) is in (
      r.0.1,
      r.0.2,
      subst (λ x. Derives (Statements x) [] ts r.0.1 r.0.2) e
          (statements_derived (length ts) [] r.0.1 ts r.0.2 r.0.0 r.1 there),
      c.0,
      sym (ap (λ p. p.0) whole),
    )

pub program_read : (ts : Tokens) (n : Node) (known : Names) (rest : Tokens) → Derives (Statements n) [] ts known rest
    → is_finish (first rest) ≡ true → program ts ≡ Ok (locals_from 0 known, n)
unfolding program
program_read ts n known rest derived ends = rw
    (statements_read (length ts) [] known ts rest n derived (omega arith), ends) refl
