-- The rules over those a level deeper, and as many levels as there are.
use Rattle.std.specs.Prelude.{ℕ, zero, suc, length, Err}
use Rattle.parser_forms.specs.Reading.{Inside}
use Rattle.parser_forms.specs.Definitions.{block}
use Rattle.parser_operands.specs.Operators.{operation}
use Rattle.parser_phrases.specs.Phrases.{phrase, argument}
use Rattle.parser_phrases.specs.Targets.{targets}
use Rattle.parser_statements.specs.Lists.{list}
use Rattle.parser_statements.specs.Sections.{sections}
use Rattle.parser_statements.specs.Statements.{statements, expression, negation}
use Rattle.rb_parser.specs.declared.level.Level.{Level, fold-Level}
use Rattle.rb_parser.specs.declared.level.Level.TheOpen.{Level-F}

-- no rule
abbrev pub nothing : Inside
nothing = record {
  statements = λ names ts. Err (length ts);
  expression = λ names ts place owner. Err (length ts);
  negation = λ names ts place owner. Err (length ts);
  phrase = λ names ts place owner. Err (length ts);
  argument = λ names ts owner. Err (length ts);
  operation = λ names ts loosest owner. Err (length ts);
  list = λ names ts owner. Err (length ts);
  targets = λ names found ts u. Err (length ts);
  block = λ names ts style. Err (length ts);
  sections = λ names form ts. Err (length ts);
}

-- the rules over those a level deeper
abbrev pub level_above : Inside → Inside
level_above i = record {
  statements = statements i;
  expression = expression i;
  negation = negation i;
  phrase = phrase i;
  argument = argument i;
  operation = operation i;
  list = list i;
  targets = targets i;
  block = block i;
  sections = sections i;
}

-- the rules with so many levels
abbrev pub levels : ℕ → Inside
levels zero = nothing
levels (suc n) = level_above (levels n)

abbrev pub inside_step : Level-F Inside → Inside
inside_step Level-F.Base = nothing
inside_step (Level-F.Above l) = level_above l.value

abbrev pub inside : Level → Inside
inside = fold-Level Inside inside_step
