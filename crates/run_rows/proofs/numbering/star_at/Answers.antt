use Rattle.std.proofs.Common.{sym, ◌∙◌}
use Rattle.run_rows.specs.declared.row.StarRow.TheVariants as row
use Rattle.run_rows.proofs.Placed.{found_first, found_behind, found_last, found_nowhere, told}
use Rattle.run_rows.proofs.numbering.star_at.Goals as goal

pub returns-in-Ok : goal.returns-in-Ok
returns-in-Ok c =
    sym (found_first row.Kernel _ _ _ _ (told _ _ _ _ _ _ c.kernel_rows.ensures c.at.ensures c.in-Ok.is))

pub returns-in-Ok-at : goal.returns-in-Ok-at
returns-in-Ok-at c =
    sym (found_behind row.Kernel _ _ _ _ (told _ _ _ _ _ _ c.kernel_rows.ensures c.at.ensures c.in-Err.is)
    ∙ found_first row.Visit _ _ _ _ (told _ _ _ _ _ _ c.visit_rows.ensures c.at-2.ensures c.in-Ok-at.is))

pub returns-in-Ok-at-2 : goal.returns-in-Ok-at-2
returns-in-Ok-at-2 c =
    sym (found_behind row.Kernel _ _ _ _ (told _ _ _ _ _ _ c.kernel_rows.ensures c.at.ensures c.in-Err.is)
    ∙ found_behind row.Visit _ _ _ _ (told _ _ _ _ _ _ c.visit_rows.ensures c.at-2.ensures c.in-Err-at.is)
    ∙ found_last row.Items _ _ _ (told _ _ _ _ _ _ c.rows_of.ensures c.at-3.ensures c.in-Ok-at-2.is))

pub returns-in-Err-at-2 : goal.returns-in-Err-at-2
returns-in-Err-at-2 c =
    sym (found_behind row.Kernel _ _ _ _ (told _ _ _ _ _ _ c.kernel_rows.ensures c.at.ensures c.in-Err.is)
    ∙ found_behind row.Visit _ _ _ _ (told _ _ _ _ _ _ c.visit_rows.ensures c.at-2.ensures c.in-Err-at.is)
    ∙ found_nowhere row.Items _ _ _ (told _ _ _ _ _ _ c.rows_of.ensures c.at-3.ensures c.in-Err-at-2.is))
