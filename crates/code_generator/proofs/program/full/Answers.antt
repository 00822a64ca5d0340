use Rattle.std.proofs.Common.{rules, ◌≡◌, ◌∷◌, [], sym, subst}
use Rattle.rite_code.specs.Code.{program, IsWhole}
use Rattle.rite_code.specs.declared.code.Irep.{Irep}
use Rattle.code_generator.specs.Gen.{full_body}
use Rattle.code_generator.specs.Emission.{form}
use Rattle.code_generator.proofs.Bodies.{full_is_whole}
use Rattle.code_generator.proofs.program.full.Goals as goal

pub program-requires : goal.program-requires
program-requires c =
    let same : _ ≡ full_body (form c.args.tree.now) = search rules in
    subst (λ (b : Irep). IsWhole (program 2 (b ∷ []))) (sym same) (full_is_whole (form c.args.tree.now) c.requires)
