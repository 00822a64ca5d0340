-- What is so of every two causes for which a text is refused.
use Rattle.std.specs.Prelude.{◌≡◌, ◌≢◌, ℕ, List, None}
use Rattle.rb_compile.specs.Language.{program_of}
use Rattle.rb_compile.specs.Compiled.{Refuses}
use Rattle.rb_compile.specs.declared.error.CompileError.{CompileError}
use Rattle.rb_compile.specs.declared.error.CompileError.TheVariants.{NoMemory}

-- a text is refused for one cause, unless memory runs out
abbrev pub OneCause : Type 0
OneCause = (text : List ℕ) (e d : CompileError) → e ≢ NoMemory → d ≢ NoMemory → Refuses text e → Refuses text d → e ≡ d

-- a text that is refused for a cause has no program
abbrev pub NoProgram : Type 0
NoProgram = (text : List ℕ) (e : CompileError) → e ≢ NoMemory → Refuses text e → program_of text ≡ None
