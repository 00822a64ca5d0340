use Rattle.std.proofs.Common.{ℕ, List, ap, subst}
use Rattle.rite_tool.specs.Asked.{command_meant}
use Rattle.rite_tool.specs.General.{Executes}
use Rattle.rite_tool.proofs.Alone.{same_exec}
use Rattle.rite_tool.proofs.Disks.{disk}
use Rattle.rite_tool.proofs.Sent.{buffered}
use Rattle.rite_tool.proofs.general.obey.Goals as goal

pub returns-in-Exec-clause-executed : goal.returns-in-Exec-clause-executed
returns-in-Exec-clause-executed g c = λ steps source file is.
    let before = disk g.F.Files.tells g.F.Files.file g.F.Files.load_faults g.F.Files.store_faults c.args.files.now in
    let after = disk g.F.Files.tells g.F.Files.file g.F.Files.load_faults g.F.Files.store_faults c.execute.new.files in
    let given = buffered g.E.Sink.taken g.E.Sink.faults c.args.err.now in
    let told = buffered g.E.Sink.taken g.E.Sink.faults c.execute.new.err in
    let own = c.in-Exec in
    let same = same_exec (command_meant c.args.command) own.steps steps own.source.now source own.file.now file
    (ap command_meant own.is) is in
    subst (λ (n : ℕ). Executes before after given told n source file c.execute.result) same.0
    (subst (λ (s : List ℕ). Executes before after given told own.steps s file c.execute.result) same.1
    (subst (λ (f : List ℕ). Executes before after given told own.steps own.source.now f c.execute.result) same.2
    c.execute.ensures))
