-- The file of the code of a program takes no more than its counts say.
use Rattle.std.proofs.Common.{◌≡◌, ◌<◌, ◌≤◌, ◌^◌, ℕ, ◌+◌, List, [], ◌∷◌, length, map, arith}
use Rattle.std.specs.Prelude.{None}
use Rattle.rite_code.specs.Code.{program}
use Rattle.rite_file.specs.File.{canonical}
use Rattle.rite_file.proofs.CanonicalParts.{length-canonical}
use Rattle.ir_core.specs.CoreForm as form
use Rattle.ir_core.specs.CoreForm.{Body}
use Rattle.ir_walk.specs.Walk.{Step, at, enter, leave, walked}
use Rattle.ir_walk.specs.declared.extent.Extent.TheVariants as extent
use Rattle.ir_counts.specs.Bodies.{begun}
use Rattle.ir_counts.specs.Counts.{counts, need}
use Rattle.ir_counts.specs.Limits.{bytes, first_excess}
use Rattle.scope_resolver.specs.declared.body_kind.BodyKind.TheVariants as kind
use Rattle.gen_forms.specs.Open.{coded}
use Rattle.gen_forms.specs.Making.{coded_program}
use Rattle.code_laws.proofs.Amounts.{filed, filed_is, worth, sized}
use Rattle.code_laws.proofs.Taking.{own_held}
use Rattle.code_laws.proofs.Limits.{file_within}

bytes_begun : (n : ℕ) (ss : List Step) → bytes n (map counts (begun ss)) ≡ n + sized ss
unfolding sized worth
bytes_begun n [] = omega arith
bytes_begun n (at f ∷ ss) = bytes_begun n ss
bytes_begun n (enter b ∷ ss) = omega (arith, bytes_begun (n + (counts b).bytes) ss)
bytes_begun n (leave ∷ ss) = bytes_begun n ss

program_held : (b : Body) → filed (coded_program b) + 64 ≤ bytes 64 (need b)
unfolding coded sized worth
program_held (form.body p ls f) =
    let b = form.body p ls f in
    omega (
      arith,
      own_held p ls f kind.Main [] 0 [],
      bytes_begun (64 + (counts b).bytes) (walked extent.Program [] f),
    )

pub program_files : (b : Body) → first_excess (need b) ≡ None → length (canonical (program 2 (coded_program b))) < 2 ^ 32
program_files b h =
    let p = program 2 (coded_program b) in
    let long = length-canonical p in
    omega (arith, long, filed_is (coded_program b), program_held b, file_within b h)
