use Rattle.std.proofs.Common.{◌<◌, length, arith, sym, ◌∙◌}
use Rattle.run_rows.proofs.Opened.{more_added, names_end}
use Rattle.run_rows.proofs.opening.Places.add_all.Goals as goal

pub rows-preserved : goal.rows-preserved
rows-preserved g c =
    let within : c.rows.row-index < length c.args.rows.now = omega arith in
    record {
      class = c.in_ok-add.ensures.class ∙ c.rows.invariant.class;
      same = more_added (λ r. (r.0.now, r.1)) c.args.rows.now c.rows.row-index c.row-item.result _ c.rows.self.class
          c.args.self.now.class _ _ _ within c.row-item.is c.rows.invariant.class c.in_ok-add.ensures.added c.rows.invariant.same;
    }

pub returns-clause-added : goal.returns-clause-added
returns-clause-added g c =
    sym c.rows.invariant.same
    ∙ names_end (λ r. (r.0.now, r.1)) c.args.self.now.class _ c.rows.row-index c.args.rows.now (omega arith)
