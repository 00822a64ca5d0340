use Rattle.std.proofs.Common.{refl, ◌∙◌}
use Rattle.run_rows.specs.declared.row.StarRow.TheVariants as row
use Rattle.run_rows.proofs.Opened.{first_then, last_then, listed}
use Rattle.run_rows.proofs.opening.Places.add_star.Goals as goal

pub returns-clause-added : goal.returns-clause-added
returns-clause-added c =
    first_then row.Kernel _ _ _ _ _ _
    (listed _ _ _ _ _ _ _ c.kernel_rows.ensures refl c.in_ok-add_all.ensures.added)
    (first_then row.Visit _ _ _ _ _ _
    (listed _ _ _ _ _ _ _ c.visit_rows.ensures (c.in_ok-add_all.ensures.class) c.in_ok-add_all-2.ensures.added)
    (last_then row.Items _ _ _ _
    (listed _ _ _ _ _ _ _ c.rows_of.ensures (c.in_ok-add_all-2.ensures.class ∙ c.in_ok-add_all.ensures.class) c.in_ok-add_all-3.ensures.added)))
