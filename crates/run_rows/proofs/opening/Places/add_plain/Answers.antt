use Rattle.std.proofs.Common.{refl, ◌∙◌}
use Rattle.run_rows.specs.declared.row.PlainRow.TheVariants as row
use Rattle.run_rows.proofs.Opened.{first_then, last_then, listed}
use Rattle.run_rows.proofs.opening.Places.add_plain.Goals as goal

pub returns-clause-added : goal.returns-clause-added
returns-clause-added c =
    first_then row.Object _ _ _ _ _ _
    (listed _ _ _ _ _ _ _ c.rows_of.ensures refl c.in_ok-add_all.ensures.added)
    (first_then row.Class _ _ _ _ _ _
    (listed _ _ _ _ _ _ _ c.rows_of-2.ensures (c.in_ok-add_all.ensures.class) c.in_ok-add_all-2.ensures.added)
    (first_then row.Item _ _ _ _ _ _
    (listed _ _ _ _ _ _ _ c.rows_of-3.ensures (c.in_ok-add_all-2.ensures.class ∙ c.in_ok-add_all.ensures.class) c.in_ok-add_all-3.ensures.added)
    (first_then row.Array _ _ _ _ _ _
    (listed _ _ _ _ _ _ _ c.rows_of-4.ensures (c.in_ok-add_all-3.ensures.class ∙ c.in_ok-add_all-2.ensures.class ∙ c.in_ok-add_all.ensures.class) c.in_ok-add_all-4.ensures.added)
    (last_then row.Hash _ _ _ _
    (listed _ _ _ _ _ _ _ c.rows_of-5.ensures (c.in_ok-add_all-4.ensures.class ∙ c.in_ok-add_all-3.ensures.class ∙ c.in_ok-add_all-2.ensures.class ∙ c.in_ok-add_all.ensures.class) c.in_ok-add_all-5.ensures.added)))))
