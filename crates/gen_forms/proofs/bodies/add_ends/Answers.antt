use Rattle.std.proofs.Common.{◌++◌, ◌-◌, [], ◌∷◌, append_assoc, ap, sym, ◌∙◌}
use Rattle.std.specs.Prelude.{replicate}
use Rattle.gen_forms.proofs.Starts.{replicate-step}
use Rattle.gen_forms.proofs.bodies.add_ends.Goals as goal

pub loop-left-preserved : goal.loop-left-preserved
loop-left-preserved c =
    let line = c.in_ok-line.line in
    let left = c.loop-left.left in
    let old = c.loop-left.starts.items in
    ap (λ ns. ns ++ replicate (left - 1) line) c.in_ok-push.ensures.items
    ∙ (append_assoc old (line ∷ []) (replicate (left - 1) line)
    ∙ (ap (λ ns. old ++ ns) (sym (replicate-step left line c.loop-left-test.true)) ∙ c.loop-left.invariant))
