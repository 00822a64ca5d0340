-- The command that a value of the program stands for.
use Rattle.std.specs.Prelude.{Option, Some, None}
use Rattle.rite_tool.specs.declared.words.Command.{Command}
use Rattle.rite_tool.specs.declared.words.Run.{Run}
use Rattle.rite_tool.specs.declared.words.Command.TheVariants as commands
use Rattle.rite_tool.specs.Words as words

abbrev pub command_meant : Command → words.Command
command_meant (commands.Build source file) = words.build source.now file.now
command_meant (commands.Exec steps source file) = words.exec steps source.now file.now
command_meant (commands.List file) = words.list file.now
command_meant (commands.Info file) = words.info file.now

abbrev pub asked : Option Command → Option words.Command
asked None = None
asked (Some c) = Some (command_meant c)

abbrev pub run_meant : Run → words.Run
run_meant r = record { steps = r.steps; counts = r.counts; file = r.file.now }

abbrev pub run_asked : Option Run → Option words.Run
run_asked None = None
run_asked (Some r) = Some (run_meant r)
