use Rattle.std.proofs.Common.{◌≡◌, drop, arith, sym, ap, ◌∙◌}
use Rattle.ir_core.specs.PartsBy as by
use Rattle.code_generator.specs.Built.{cond_of, form_of}
use Rattle.code_generator.proofs.parts.cond_tree.Goals as goal

pub returns : goal.returns
returns g c =
    let v = g.T.Formed.core in
    let none : c.branches.left ≡ 0 = omega (arith, c.branches-test.false) in
    ap (λ n. cond_of (by.branches_by v (drop n c.args.branches.now.items)) (form_of (v c.args.otherwise.now.value)))
    (sym none) ∙ c.branches.invariant.1
