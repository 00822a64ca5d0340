-- How a program comes out of which there is no code.
use Rattle.file_maker.specs.declared.storing.NotMade.{NotMade}
use Rattle.file_maker.specs.declared.storing.NotMade.TheVariants as causes
use Rattle.rb_exec.specs.declared.running.Played.{Played}
use Rattle.rb_exec.specs.declared.running.Played.TheVariants.{Refused, FileFault, NoMemory}

abbrev pub without_code : NotMade → Played
without_code (causes.Refused cause) = Refused cause
without_code causes.FileFault = FileFault
without_code causes.NoMemory = NoMemory
