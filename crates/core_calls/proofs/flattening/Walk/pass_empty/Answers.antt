use Rattle.std.proofs.Common.{◌≡◌, length, arith}
use Rattle.std.proofs.lemmas.Bool.Decides.{nat_tests}
use Rattle.core_calls.proofs.Flat.{counts_by}
use Rattle.core_calls.proofs.flattening.Walk.pass_empty.Goals as goal

pub returns-in-Counts : goal.returns-in-Counts
returns-in-Counts c =
    let count : c.len.result ≡ length c.args.self.now.levels.items = grind (arith, nat_tests) in
    counts_by c.args.self.now c.args.value c.len.result c.in-Counts.is count
