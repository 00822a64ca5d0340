-- The compiler's error for one of the front.
use Rattle.rb_syntax.specs.declared.count.Count.TheVariants.{Source}
use Rattle.rb_front.specs.declared.error.FrontError.{FrontError}
use Rattle.rb_front.specs.declared.error.FrontError.TheVariants as front
use Rattle.rb_compile.specs.declared.error.CompileError.{CompileError}
use Rattle.rb_compile.specs.declared.error.CompileError.TheVariants.{TooLarge, Syntax, TooDeep, Outside, NoMemory}

abbrev pub front_error : FrontError → CompileError
front_error front.TooLong = TooLarge Source 16777217
front_error (front.Syntax at) = Syntax at
front_error front.TooDeep = TooDeep
front_error (front.Outside what at) = Outside what at
front_error front.NoMemory = NoMemory
