-- As many bodies stand in a source as there are kinds of them.
use Rattle.std.proofs.Common.{◌<◌, ℕ, ◌∷◌, length, arith}
use Rattle.std.proofs.lemmas.Option.{slice_get_within}
use Rattle.ir_core.specs.CoreForm as form
use Rattle.ir_core.specs.CoreForm.{Body}
use Rattle.def_eval.specs.Source.{source_of}
use Rattle.eval_laws.specs.Kinds.{Kind, IsKind, of_program, kinds}
use Rattle.eval_laws.proofs.Sizes.{size}

pub kind_within : (b : Body) (n : ℕ) (k : Kind) → IsKind (source_of b) n k → n < length (source_of b)
kind_within (form.body p ls f) n k e =
    let sized = size f in
    let lt = slice_get_within (of_program ∷ kinds f) n k e in
    omega (arith, lt, sized.bodies, sized.kinds)
