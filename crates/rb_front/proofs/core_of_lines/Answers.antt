use Rattle.parser_tree.specs.Parts.{plain_view}
use Rattle.ir_core.specs.View.{body_view}
use Rattle.rb_front.proofs.Cores.{has_core, has_program}
use Rattle.rb_front.proofs.core_of_lines.Goals as goal

pub returns-clause-core : goal.returns-clause-core
returns-clause-core c =
    has_core c.args.lines.now (plain_view c.in_ok-source.source) (body_view c.in_ok-program.program)
    c.in_ok-source.ensures.tree c.in_ok-program.ensures.accepted c.in_ok-program.ensures.lowered

pub returns-clause-program : goal.returns-clause-program
returns-clause-program c =
    has_program c.args.lines.now (plain_view c.in_ok-source.source) (body_view c.in_ok-program.program)
    c.in_ok-source.ensures.tree c.in_ok-program.ensures.accepted c.in_ok-program.ensures.lowered
