use Rattle.std.proofs.Common.{sym, ◌∙◌}
use Rattle.run_rows.specs.declared.row.PlainRow.TheVariants as row
use Rattle.run_rows.proofs.Placed.{found_first, found_behind, found_last, found_nowhere, told}
use Rattle.run_rows.proofs.numbering.plain_at.Goals as goal

pub returns-in-Ok : goal.returns-in-Ok
returns-in-Ok c =
    sym (found_first row.Object _ _ _ _ (told _ _ _ _ _ _ c.rows_of.ensures c.at.ensures c.in-Ok.is))

pub returns-in-Ok-at : goal.returns-in-Ok-at
returns-in-Ok-at c =
    sym (found_behind row.Object _ _ _ _ (told _ _ _ _ _ _ c.rows_of.ensures c.at.ensures c.in-Err.is)
    ∙ found_first row.Class _ _ _ _ (told _ _ _ _ _ _ c.rows_of-2.ensures c.at-2.ensures c.in-Ok-at.is))

pub returns-in-Ok-at-2 : goal.returns-in-Ok-at-2
returns-in-Ok-at-2 c =
    sym (found_behind row.Object _ _ _ _ (told _ _ _ _ _ _ c.rows_of.ensures c.at.ensures c.in-Err.is)
    ∙ found_behind row.Class _ _ _ _ (told _ _ _ _ _ _ c.rows_of-2.ensures c.at-2.ensures c.in-Err-at.is)
    ∙ found_first row.Item _ _ _ _ (told _ _ _ _ _ _ c.rows_of-3.ensures c.at-3.ensures c.in-Ok-at-2.is))

pub returns-in-Ok-at-3 : goal.returns-in-Ok-at-3
returns-in-Ok-at-3 c =
    sym (found_behind row.Object _ _ _ _ (told _ _ _ _ _ _ c.rows_of.ensures c.at.ensures c.in-Err.is)
    ∙ found_behind row.Class _ _ _ _ (told _ _ _ _ _ _ c.rows_of-2.ensures c.at-2.ensures c.in-Err-at.is)
    ∙ found_behind row.Item _ _ _ _ (told _ _ _ _ _ _ c.rows_of-3.ensures c.at-3.ensures c.in-Err-at-2.is)
    ∙ found_first row.Array _ _ _ _ (told _ _ _ _ _ _ c.rows_of-4.ensures c.at-4.ensures c.in-Ok-at-3.is))

pub returns-in-Ok-at-4 : goal.returns-in-Ok-at-4
returns-in-Ok-at-4 c =
    sym (found_behind row.Object _ _ _ _ (told _ _ _ _ _ _ c.rows_of.ensures c.at.ensures c.in-Err.is)
    ∙ found_behind row.Class _ _ _ _ (told _ _ _ _ _ _ c.rows_of-2.ensures c.at-2.ensures c.in-Err-at.is)
    ∙ found_behind row.Item _ _ _ _ (told _ _ _ _ _ _ c.rows_of-3.ensures c.at-3.ensures c.in-Err-at-2.is)
    ∙ found_behind row.Array _ _ _ _ (told _ _ _ _ _ _ c.rows_of-4.ensures c.at-4.ensures c.in-Err-at-3.is)
    ∙ found_last row.Hash _ _ _ (told _ _ _ _ _ _ c.rows_of-5.ensures c.at-5.ensures c.in-Ok-at-4.is))

pub returns-in-Err-at-4 : goal.returns-in-Err-at-4
returns-in-Err-at-4 c =
    sym (found_behind row.Object _ _ _ _ (told _ _ _ _ _ _ c.rows_of.ensures c.at.ensures c.in-Err.is)
    ∙ found_behind row.Class _ _ _ _ (told _ _ _ _ _ _ c.rows_of-2.ensures c.at-2.ensures c.in-Err-at.is)
    ∙ found_behind row.Item _ _ _ _ (told _ _ _ _ _ _ c.rows_of-3.ensures c.at-3.ensures c.in-Err-at-2.is)
    ∙ found_behind row.Array _ _ _ _ (told _ _ _ _ _ _ c.rows_of-4.ensures c.at-4.ensures c.in-Err-at-3.is)
    ∙ found_nowhere row.Hash _ _ _ (told _ _ _ _ _ _ c.rows_of-5.ensures c.at-5.ensures c.in-Err-at-4.is))
