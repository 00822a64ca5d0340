-- A level holds the rules of the one below it.
use Rattle.std.proofs.Common.{◌≡◌, Box, ap, sym, ◌∙◌}
use Rattle.std.specs.declared.alloc.Global.{Global}
use Rattle.parser_forms.specs.Reading.{Inside}
use Rattle.rb_parser.specs.Levels.{inside, inside_step, level_above, nothing}
use Rattle.rb_parser.specs.declared.level.Level as level
use Rattle.rb_parser.specs.declared.level.Level.{Level, fold-roll-Level}
use Rattle.rb_parser.specs.declared.level.Level.TheVariants as variant
use Rattle.rb_parser.specs.declared.level.Level.TheOpen.{Level-F}

pub inside_above : (b : Box Level Global) → inside (level.Above b) ≡ level_above (inside b.value)
inside_above b = ap inside (sym (variant.rolls-Above b)) ∙ fold-roll-Level Inside inside_step (Level-F.Above b)

pub inside_base : inside level.Base ≡ nothing
inside_base = ap inside (sym variant.rolls-Base) ∙ fold-roll-Level Inside inside_step Level-F.Base

pub ruleset level_laws = (inside_above, inside_base)
