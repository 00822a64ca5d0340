use Rattle.std.proofs.Common.{sym, ◌∙◌}
use Rattle.iter_items.specs.Named.{each_is}
use Rattle.run_rows.specs.declared.row.Row.TheVariants.{Plain, Star}
use Rattle.run_rows.specs.Named.{plain, star}
use Rattle.run_rows.proofs.Placed.{found_first, found_behind, found_last, found_nowhere}
use Rattle.run_rows.proofs.numbering.beyond.Goals as goal

pub returns-in-Ok : goal.returns-in-Ok
returns-in-Ok c =
    sym (found_first Plain (plain c.args.segment) (each_is Star (star c.args.segment)) c.args.place c.in-Ok.row
    (sym c.plain_at.ensures ∙ c.in-Ok.is))

pub returns-in-Ok-star_at : goal.returns-in-Ok-star_at
returns-in-Ok-star_at c =
    sym (found_behind Plain (plain c.args.segment) (each_is Star (star c.args.segment)) c.args.place c.in-Err.place
    (sym c.plain_at.ensures ∙ c.in-Err.is)
    ∙ found_last Star (star c.args.segment) c.in-Err.place c.in-Ok-star_at.row
    (sym c.star_at.ensures ∙ c.in-Ok-star_at.is))

pub returns-in-Err-star_at : goal.returns-in-Err-star_at
returns-in-Err-star_at c =
    sym (found_behind Plain (plain c.args.segment) (each_is Star (star c.args.segment)) c.args.place c.in-Err.place
    (sym c.plain_at.ensures ∙ c.in-Err.is)
    ∙ found_nowhere Star (star c.args.segment) c.in-Err.place c.in-Err-star_at.place
    (sym c.star_at.ensures ∙ c.in-Err-star_at.is))
