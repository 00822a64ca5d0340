use Rattle.std.proofs.Common.{◌≡◌, ◌+◌, drop}
use Rattle.ir_core.specs.View.{locals_of}
use Rattle.scope_resolver.specs.Layout as layout
use Rattle.scope_resolver.specs.Registers as registers
use Rattle.scope_resolver.proofs.table.name_all.Given as goal

abbrev pub invariant-loop-local : goal.invariant-loop-local
invariant-loop-local l =
    (registers.with_slots l.named (layout.named_slots (locals_of (drop l.local-index l.locals))) l.register
    ≡ registers.with_slots l.fn.named (layout.named_slots (locals_of l.locals)) l.fn.from)
    × (l.register ≡ l.fn.from + l.local-index)
