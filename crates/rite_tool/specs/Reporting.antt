-- What is reported of a command, how the program ends then, and the line for it.
use Rattle.std.specs.Prelude.{ℕ, List, [], Result, Ok, Err}
use Rattle.rb_base.specs.declared.outside.Failed.{Failed}
use Rattle.path_machine.specs.declared.ran.Ran.{Ran}
use Rattle.path_machine.specs.declared.ran.Ran.TheVariants as rans
use Rattle.path_machine.specs.declared.ran.RunFault.{RunFault}
use Rattle.path_machine.specs.declared.ran.RunFault.TheVariants as run_faults
use Rattle.rite_tool.specs.Texts as texts
use Rattle.rite_tool.specs.declared.stop.Stop.{Stop}
use Rattle.rite_tool.specs.declared.stop.Stop.TheVariants as stops
use Rattle.rite_tool.specs.declared.end.End.{End}
use Rattle.rite_tool.specs.declared.end.End.TheVariants as ends
use Rattle.rite_tool.specs.declared.report.Report.{Report}
use Rattle.rite_tool.specs.declared.report.Report.TheVariants.{Usage, Stopped, Built, Ran as Run, Shown}

abbrev pub of_build : Result Unit Stop → Report
of_build (Ok done) = Built
of_build (Err stop) = Stopped stop

abbrev pub of_exec : ℕ → Result (Result Ran RunFault) Stop → Report
of_exec n (Ok ran) = Run n ran
of_exec n (Err stop) = Stopped stop

abbrev pub of_show : Result (Result Unit Failed) Stop → Report
of_show (Ok said) = Shown said
of_show (Err stop) = Stopped stop

abbrev pub end_of_stop : Stop → End
end_of_stop (stops.Refused r) = ends.Refused r
end_of_stop stops.FileFault = ends.FileFault
end_of_stop stops.NoMemory = ends.NoMemory

abbrev pub end_of_run : Result Ran RunFault → End
end_of_run (Ok (rans.Ended k)) = ends.Ended k
end_of_run (Ok (rans.Uncaught f)) = ends.Uncaught
end_of_run (Ok rans.Spent) = ends.Spent
end_of_run (Err run_faults.OutputFault) = ends.OutputFault
end_of_run (Err run_faults.NoMemory) = ends.NoMemory

abbrev pub end_of_show : Result Unit Failed → End
end_of_show (Ok done) = ends.Ended 0
end_of_show (Err failed) = ends.OutputFault

abbrev pub end_of : Report → End
end_of Usage = ends.Usage
end_of (Stopped stop) = end_of_stop stop
end_of Built = ends.Ended 0
end_of (Run n ran) = end_of_run ran
end_of (Shown said) = end_of_show said

-- what is reported where nothing was written
abbrev pub IsSilent : Report → Type 0
IsSilent Usage = Unit
IsSilent (Stopped stop) = Unit
IsSilent Built = Unit
IsSilent (Run n ran) = ⊥
IsSilent (Shown said) = ⊥

abbrev pub text_of_stop : Stop → List ℕ
text_of_stop (stops.Refused r) = texts.refused r
text_of_stop stops.FileFault = texts.file_fault
text_of_stop stops.NoMemory = texts.no_memory

abbrev pub text_of_run : ℕ → Result Ran RunFault → List ℕ
text_of_run n (Ok (rans.Ended k)) = []
text_of_run n (Ok (rans.Uncaught f)) = texts.uncaught f
text_of_run n (Ok rans.Spent) = texts.spent n
text_of_run n (Err run_faults.OutputFault) = []
text_of_run n (Err run_faults.NoMemory) = texts.no_memory

abbrev pub text_of : Report → List ℕ
text_of Usage = texts.usage
text_of (Stopped stop) = text_of_stop stop
text_of Built = []
text_of (Run n ran) = text_of_run n ran
text_of (Shown said) = []
