use Rattle.std.proofs.Common.{ℕ, ◌≤◌, List, length, sym, subst, ◌∙◌}
use Rattle.std.proofs.Math.Nat.{le_trans}
use Rattle.line_ends.proofs.Plain.{shorter}
use Rattle.line_ends.specs.Lines.{as_read}
use Rattle.rb_front.specs.Front.{HasNoCore, Refuses}
use Rattle.rb_front.proofs.Cores.{core_of_text}
use Rattle.rb_front.proofs.Refusals.{refused_lines}
use Rattle.rb_front.proofs.read_lines.Goals as goal

pub core_of_lines-requires : goal.core_of_lines-requires
core_of_lines-requires c =
    subst (λ (lines : List ℕ). length lines ≤ 16777216) (sym c.requires.lines)
    (le_trans (shorter c.args.text.now) c.requires.size)

pub returns-in-Ok-clause-core : goal.returns-in-Ok-clause-core
returns-in-Ok-clause-core c =
    core_of_text c.args.text.now c.args.lines.now c.requires.size c.requires.lines ∙ c.in-Ok.ensures.core

pub returns-in-Err-clause-refused : goal.returns-in-Err-clause-refused
returns-in-Err-clause-refused c =
    subst (Refuses c.args.text.now) (sym c.placed_in.ensures)
    (refused_lines c.args.text.now c.in-Err.error c.requires.size
    (subst (λ (lines : List ℕ). HasNoCore lines c.in-Err.error) c.requires.lines c.in-Err.ensures.refused))
