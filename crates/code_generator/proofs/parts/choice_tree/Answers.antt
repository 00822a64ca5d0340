use Rattle.std.proofs.Common.{◌≡◌, ◌≤◌, length, if◌then◌else◌, None, arith, sym, subst}
use Rattle.std.specs.Prelude.{IfOk}
use Rattle.ir_core.specs.PartsBy as by
use Rattle.code_generator.specs.Built.{cond_of, form_of}
use Rattle.code_generator.specs.Emission.{form_in}
use Rattle.code_generator.proofs.Choices.{few_branches}
use Rattle.code_generator.proofs.parts.choice_tree.Goals as goal

pub returns : goal.returns
returns g c =
    let v = g.T.Formed.core in
    let few : length c.args.branches.now.items ≤ 1000 = omega (arith, c.if-len-gt-BRANCHES.false, c.len.ensures) in
    subst (λ b. IfOk c.cond_tree.result (λ tree. (if b then cond_of (by.branches_by v c.args.branches.now.items)
    (form_of (v c.args.otherwise.now.value)) else None) ≡ form_in tree))
    (sym (few_branches v c.args.branches.now.items few)) c.cond_tree.ensures
