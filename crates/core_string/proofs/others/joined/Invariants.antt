use Rattle.std.proofs.Common.{◌≡◌, ◌++◌, drop}
use Rattle.def_rows.specs.StringRows as rows
use Rattle.core_string.proofs.others.joined.Given as goal

abbrev pub invariant-values : goal.invariant-values
invariant-values l =
    l.bytes.items ++ rows.joined l.st.store.objects (drop l.place l.values)
    ≡ rows.joined l.fn.st.store.objects l.fn.values
