-- The rules with any number of levels keep names, and so each tree of a text knows its names.
use Rattle.std.proofs.Common.{◌≡◌, ℕ, zero, suc, length, true, [], None, Result, Ok, Err, subst}
use Rattle.parser_tree.specs.Parts.{PlainNode}
use Rattle.parser_tokens.specs.Tokens.{first}
use Rattle.parser_forms.specs.Reading.{Tokens, Inside}
use Rattle.parser_statements.specs.Statements.{statements}
use Rattle.rb_parser.specs.Levels.{nothing, level_above, levels}
use Rattle.rb_parser.specs.Program.{is_finish, program_over, program, with_place, tree_of}
use Rattle.parser_checks.specs.Places.{misplaced}
use Rattle.lower_outside.specs.Search.{found}
use Rattle.lower_table.specs.Lowering as lowering
use Rattle.ir_core.specs.Program.{IsProgram}
use Rattle.program_laws.specs.Knows.{knows}
use Rattle.program_laws.proofs.Programs.{placed_is_program}
use Rattle.name_laws.proofs.Named.{Named}
use Rattle.name_laws.proofs.Knowing.{named_knows}
use Rattle.name_laws.proofs.Growing.{Grows, Knows}
use Rattle.name_laws.proofs.Keeping.{KeepsNames}
use Rattle.name_laws.proofs.Giving.{Gives, kept, on, either_gives}
use Rattle.name_laws.proofs.Defining.{all_locals, block_keeps}
use Rattle.name_laws.proofs.Operating.{operation_keeps}
use Rattle.name_laws.proofs.Targeting.{targets_keep}
use Rattle.name_laws.proofs.Phrasing.{phrase_keeps, argument_keeps}
use Rattle.name_laws.proofs.Listing.{list_keeps}
use Rattle.name_laws.proofs.Stating.{negation_keeps, expression_keeps, statements_keep}
use Rattle.name_laws.proofs.Sectioning.{sections_keep}

nothing_keeps : KeepsNames nothing
nothing_keeps = record {
  statements = λ names ts. tt;
  expression = λ names ts place owner. tt;
  negation = λ names ts place owner. tt;
  phrase = λ names ts place owner. tt;
  argument = λ names ts owner. tt;
  operation = λ names ts loosest owner. tt;
  list = λ names ts owner. tt;
  targets = λ names found ts u h. tt;
  block = λ names ts style. tt;
  sections = λ names form ts. tt;
}

above_keeps : (i : Inside) → KeepsNames i → KeepsNames (level_above i)
above_keeps i k = record {
  statements = statements_keep i k;
  expression = expression_keeps i k;
  negation = negation_keeps i k;
  phrase = phrase_keeps i k;
  argument = argument_keeps i k;
  operation = operation_keeps i k;
  list = list_keeps i k;
  targets = targets_keep i k;
  block = block_keeps i k;
  sections = sections_keep i k;
}

levels_keep : (n : ℕ) → KeepsNames (levels n)
levels_keep zero = nothing_keeps
levels_keep (suc n) = above_keeps (levels n) (levels_keep n)

abbrev NamesLocals : PlainNode → Type 0
NamesLocals n = Named n.0 n.1

over_names : (i : Inside) (ts : Tokens) → KeepsNames i → Gives NamesLocals (program_over i ts)
over_names i ts k =
    on (λ r. Grows [] r.1 × Knows r.1 r.0) NamesLocals (statements i [] ts) _
    (kept Knows [] _ (statements_keep i k [] ts)) (λ r h.
    either_gives NamesLocals (is_finish (first r.2)) _ _ (subst (λ xs. Named xs r.0) (all_locals r.1 h.0) h.1) tt)

given : (read : Result PlainNode ℕ) (n : PlainNode) → read ≡ Ok n → Gives NamesLocals read → NamesLocals n
given read n is h = subst (λ r. Gives NamesLocals r) is h

pub reads : (ts : Tokens) (n : PlainNode) → program ts ≡ Ok n → knows n.0 n.1 ≡ true
unfolding program
reads ts n is =
    named_knows n.1 n.0 (given (program ts) n is (over_names (levels (length ts)) ts (levels_keep (length ts))))

was_read : (ts : Tokens) (size : ℕ) (read : Result PlainNode ℕ) (n : PlainNode) → with_place ts size read ≡ Ok n
    → read ≡ Ok n
was_read ts size (Ok m) n h = h
was_read ts size (Err e) n h = absurd (cc)

pub tree_knows : (ts : Tokens) (size : ℕ) (n : PlainNode) → tree_of ts size ≡ Ok n → knows n.0 n.1 ≡ true
tree_knows ts size n h = reads ts n (was_read ts size (program ts) n h)

pub is_program : (ts : Tokens) (size : ℕ) (n : PlainNode) → tree_of ts size ≡ Ok n → misplaced n.1 ≡ None
    → found None n.1 ≡ None → IsProgram (lowering.program n.0 n.1)
is_program ts size n h placed inside = placed_is_program n.0 n.1 placed inside (tree_knows ts size n h)
