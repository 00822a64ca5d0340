use Rattle.std.proofs.Common.{◌∙◌, ap, slice_set, get_or}
use Rattle.pair_table.proofs.Places.{value_set}
use Rattle.pair_table.proofs.few.replace_at.Goals as goal

pub returns-clause-pairs : goal.returns-clause-pairs
returns-clause-pairs g c =
    let pairs = c.args.pairs.now in
    let at = c.index-pairs-place.result in
    ap (λ v. slice_set pairs c.args.place ((get_or pairs c.args.place at).0, v)) c.replace.ensures.after
    ∙ value_set pairs c.args.place at c.args.value
