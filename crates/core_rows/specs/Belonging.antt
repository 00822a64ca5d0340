-- When an answer belongs to a store.
use Rattle.def_core.specs.Sound.{Census, Is, Class, IsValue, AllAre}
use Rattle.rb_raise.specs.Causes.{SoundCause}
use Rattle.def_rows.specs.declared.answer.Answer.{Answer}
use Rattle.def_rows.specs.declared.answer.Answer.TheVariants as answer

-- what an answer names is of the store; a plain answer names nothing
abbrev pub SoundAnswer : Census → Answer → Type 0
SoundAnswer k (answer.Plain a) = Unit {0}
SoundAnswer k (answer.Value v) = IsValue k v
SoundAnswer k (answer.Items xs) = AllAre (IsValue k) xs
SoundAnswer k (answer.Range c r) = Is k Class c
SoundAnswer k (answer.String c bytes) = Is k Class c
SoundAnswer k (answer.Put bytes v) = IsValue k v
SoundAnswer k (answer.Push more) = AllAre (IsValue k) more
SoundAnswer k (answer.Replace xs) = AllAre (IsValue k) xs
SoundAnswer k (answer.Fail c) = SoundCause k c
