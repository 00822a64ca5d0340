use Rattle.std.proofs.Common.{◌≡◌, drop}
use Rattle.ir_core.specs.View.{local_of}
use Rattle.scope_resolver.specs.Layout.{place_from}
use Rattle.scope_resolver.proofs.place.nearest.Given as goal

abbrev pub invariant-loop-scope : goal.invariant-loop-scope
invariant-loop-scope l =
    place_from (local_of l.local) (drop l.scope-index l.scopes) l.levels
    ≡ place_from (local_of l.local) l.scopes 0
