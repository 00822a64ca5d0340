use Rattle.std.proofs.Common.{◌/◌, ◌%◌, ap, sym, ◌∙◌}
use Rattle.run_rows.specs.Named.{first, beyond}
use Rattle.run_rows.specs.Numbered.{or_none}
use Rattle.run_rows.proofs.Placed.{in_first}
use Rattle.run_rows.proofs.numbering.row_at.Goals as goal

pub returns-in-Ok : goal.returns-in-Ok
returns-in-Ok c =
    ap or_none (sym (in_first (first (c.args.number / 256)) (beyond (c.args.number / 256)) (c.args.number % 256)
    c.in-Ok.row (sym c.first.ensures ∙ c.in-Ok.is)))
