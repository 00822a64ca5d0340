use Rattle.std.proofs.Common.{length, ◌≤◌, arith}
use Rattle.def_rows.specs.StringRows as rows
use Rattle.core_string.proofs.Steps.{joined_whole}
use Rattle.core_string.proofs.others.joined.Goals as goal

pub returns : goal.returns
returns c =
    let past : length c.args.values.now ≤ c.values.place = omega arith in
    joined_whole c.args.st.now.store.objects c.values.bytes.items
    (rows.joined c.args.st.now.store.objects c.args.values.now) c.args.values.now c.values.place past c.values.invariant
