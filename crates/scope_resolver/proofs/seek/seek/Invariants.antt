use Rattle.std.proofs.Common.{◌≡◌, drop}
use Rattle.ir_core.specs.View.{local_of, locals_of}
use Rattle.scope_resolver.specs.Layout as layout
use Rattle.scope_resolver.proofs.seek.seek.Given as goal

abbrev pub invariant-loop-other : goal.invariant-loop-other
invariant-loop-other l =
    layout.seek (local_of l.local) (layout.named_slots (locals_of (drop l.other-index l.list))) l.at
    ≡ layout.seek (local_of l.local) (layout.named_slots (locals_of l.list)) l.fn.from
