use Rattle.std.proofs.Common.{◌≡◌, drop}
use Rattle.def_rows.specs.Checking as checking
use Rattle.core_rows.proofs.checking.first_unfit.Given as goal

abbrev pub invariant-places : goal.invariant-places
invariant-places l =
    checking.first_unfit l.signature l.st.store.objects l.place (drop l.place l.args)
    ≡ checking.first_unfit l.fn.signature l.fn.st.store.objects 0 l.fn.args
