-- One transition of the evaluation, by cases on the focus, and the evaluation of a source.
use Rattle.std.specs.Prelude.{ℕ, zero, suc, List}
use Rattle.def_calls.specs.Seen.{Seen}
use Rattle.def_eval.specs.Source.{Source}
use Rattle.def_eval.specs.Configuration.{perform, give, travel, Config, Run, Halt, opening, seen}
use Rattle.def_eval.specs.Forms.{do_form}
use Rattle.def_eval.specs.Giving.{do_give}
use Rattle.def_eval.specs.Exits.{do_travel}

abbrev pub go : Source → Config → Config
go s (Halt e) = Halt e
go s (Run (perform n e) ks m) = do_form s n e ks m
go s (Run (give v) ks m) = do_give s v ks m
go s (Run (travel x) ks m) = do_travel x ks m

-- so many transitions
abbrev pub go_times : ℕ → Source → Config → Config
go_times zero s c = c
go_times (suc n) s c = go_times n s (go s c)

-- what is seen of a source's evaluation on an input after so many transitions
unfoldable pub evaluation : Source → List ℕ → ℕ → Seen
evaluation s input n = seen (go_times n s (opening s input))
