-- What each command does, and the answer of the program.
use Rattle.std.specs.Prelude.{◌≡◌, Option, Some, None, Result}
use Rattle.rb_base.specs.declared.outside.Failed.{Failed}
use Rattle.path_machine.specs.declared.ran.Ran.{Ran}
use Rattle.path_machine.specs.declared.ran.RunFault.{RunFault}
use Rattle.code_listing.specs.Info.{info_of}
use Rattle.rb_refusal.specs.Writing.{Stream}
use Rattle.rite_tool.specs.Words.{Command, build, exec, list, info}
use Rattle.file_maker.specs.Disk.{Disk, Untouched}
use Rattle.rite_tool.specs.Told.{Told, Silent}
use Rattle.rite_tool.specs.Making.{Builds}
use Rattle.rite_tool.specs.Running.{Execs}
use Rattle.rite_tool.specs.Showing.{Shows, listed}
use Rattle.rite_tool.specs.Reporting.{of_build, of_exec, of_show, end_of, text_of}
use Rattle.rite_tool.specs.Writing.{IsAnswer}
use Rattle.rite_tool.specs.declared.stop.Stop.{Stop}
use Rattle.rite_tool.specs.declared.end.End.{End}
use Rattle.rite_tool.specs.declared.report.Report.{Report}
use Rattle.rite_tool.specs.declared.report.Report.TheVariants.{Usage}

-- a command did this to the files and the output, and reports so
abbrev pub Does : Command → Disk → Disk → Stream → Stream → Report → Type 0
Does (build source file) before after given left report =
    (made : Result Unit Stop) × (report ≡ of_build made) × Builds before after source file made × Silent given left
Does (exec n source file) before after given left report =
    (ran : Result (Result Ran RunFault) Stop) × (report ≡ of_exec n ran)
    × Execs before after given left n source file ran
Does (list file) before after given left report =
    (shown : Result (Result Unit Failed) Stop) × (report ≡ of_show shown)
    × Shows listed before after given left file shown
Does (info file) before after given left report =
    (shown : Result (Result Unit Failed) Stop) × (report ≡ of_show shown)
    × Shows info_of before after given left file shown

-- words that are no command do nothing
abbrev pub Reports : Option Command → Disk → Disk → Stream → Stream → Report → Type 0
Reports None before after given left report = (report ≡ Usage) × Untouched before after × Silent given left
Reports (Some command) before after given left report = Does command before after given left report

-- The program's answer is how what was reported ends it, and the line for it was written; or a front of that line
-- was, and the answer is that a write failed. The input is not touched.
pub record Answers (command : Option Command) (before after : Told) (end : End) : Type 0 where
  pub report : Report
  pub reports : Reports command before.disk after.disk before.out after.out report
  pub answer : IsAnswer (text_of report) (end_of report) before.err after.err end
  pub input : after.input ≡ before.input
