use Rattle.std.proofs.Common.{sym, ◌+◌, arith}
use Rattle.std.specs.Prelude.{None}
use Rattle.std.proofs.lemmas.List.{get_or_past}
use Rattle.scope_leaps.proofs.Levels.{no_level}
use Rattle.scope_leaps.proofs.scopes.Scopes.out.Goals as goal

pub returns-else-body-len : goal.returns-else-body-len
returns-else-body-len c =
    rw (← c.self.view_is)
    (sym (no_level c.self.inside.outers (c.args.between + 1) c.args.body (omega arith)
    (get_or_past c.self.inside.outers c.args.body None (omega (arith, c.len.ensures, c.if-body-len.false)))))
