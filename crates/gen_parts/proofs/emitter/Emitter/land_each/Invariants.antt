use Rattle.std.proofs.Common.{◌≡◌, drop}
use Rattle.gen_parts.specs.Emission.{all_patched, line_by}
use Rattle.gen_parts.proofs.emitter.Emitter.land_each.Given as goal

abbrev pub invariant-loop-place : goal.invariant-loop-place
invariant-loop-place l =
    all_patched l.self (drop l.place-index l.places) (line_by l.held l.to)
    ≡ all_patched l.fn.self l.places (line_by l.held l.to)
