-- Small programs about exits as code, run: their output is what Ruby gives.
use Rattle.std.specs.Prelude.{◌≡◌, pos, negsuc, [], ◌∷◌, codes, false, true}
use mathlib.Core.Path.{refl}
use Rattle.rite_code.specs.Code.{Program, program}
use Rattle.rite_code.specs.Operation.{no_parameters}
use Rattle.rite_code.specs.declared.code.PoolItem.TheVariants.{Text}
use Rattle.rite_code.specs.declared.operation.Operation.TheVariants as op
use Rattle.def_calls.specs.Seen.{Over, Ended, Uncaught}
use Rattle.def_machine.specs.Turn.{machine}
use Rattle.def_machine.proofs.Running.{run}
use Rattle.def_machine.proofs.Writing.{bytes}

-- def f
--   [1, 2].each { |x|
--     begin
--       return x
--     ensure
--       puts "e"
--     end
--   }
--   puts "no"
-- end
-- puts f
abbrev pub returning : Program
returning = program 2
    ((record {
      locals = 1;
      registers = 5;
      code =
          bytes (op.TClass 1 ∷ op.Def 1 0 0 ∷ op.SSend 2 0 254 ∷ op.SSend 1 1 1 ∷ op.Stop ∷ []);
      catches = [];
      pool = [];
      symbols = codes "f" ∷ codes "puts" ∷ [];
      children = 1 ∷ [];
    })
    ∷ (record {
      locals = 2;
      registers = 6;
      code =
          bytes (op.Enter no_parameters ∷ op.Array 2 0 ∷ op.LoadI 3 1 ∷ op.AryPush 2 1 ∷ op.LoadI 3 2
          ∷ op.AryPush 2 1 ∷ op.Block 3 0 ∷ op.SendB 2 0 0 ∷ op.String 3 0 ∷ op.SSend 2 1 1 ∷ op.Return 2 ∷ []);
      catches = [];
      pool = Text (codes "no") ∷ [];
      symbols = codes "each" ∷ codes "puts" ∷ [];
      children = 2 ∷ [];
    })
    ∷ (record {
      locals = 3;
      registers = 9;
      code =
          bytes (op.Enter (record no_parameters { required = 1 }) ∷ op.Move 3 1 ∷ op.ReturnBlk 3 ∷ op.Except 4
          ∷ op.String 6 0 ∷ op.SSend 5 0 1 ∷ op.RaiseIf 4 ∷ op.Return 3 ∷ []);
      catches = (record { rescue = false; begin = 4; end = 9; target = 9 }) ∷ [];
      pool = Text (codes "e") ∷ [];
      symbols = codes "puts" ∷ [];
      children = [];
    })
    ∷ [])

returning_runs : machine returning [] 150 ≡ Over (Ended (codes "e\n1\n") 0)
unfolding run
returning_runs = refl

-- n = 0
-- begin
--   n = n + 1
--   raise "x" if n < 3
--   puts n
-- rescue
--   retry
-- end
abbrev pub retrying : Program
retrying = program 2
    ((record {
      locals = 2;
      registers = 6;
      code =
          bytes (op.LoadI 2 0 ∷ op.Move 1 2 ∷ op.Move 2 1 ∷ op.LoadI 3 1 ∷ op.Add 2 ∷ op.Move 1 2 ∷ op.Move 2 1
          ∷ op.LoadI 3 3 ∷ op.Lt 2 ∷ op.JmpNot 2 (pos 10) ∷ op.String 3 0 ∷ op.SSend 2 0 1 ∷ op.Jmp (pos 2)
          ∷ op.LoadNil 2 ∷ op.Move 3 1 ∷ op.SSend 2 1 1 ∷ op.Jmp (pos 26) ∷ op.Except 2 ∷ op.OClass 3 1
          ∷ op.Rescue 2 3 ∷ op.JmpIf 3 (pos 3) ∷ op.Jmp (pos 9) ∷ op.JmpUw (negsuc 62) ∷ op.Move 2 3
          ∷ op.Jmp (pos 2) ∷ op.RaiseIf 2 ∷ op.Stop ∷ []);
      catches = (record { rescue = true; begin = 6; end = 48; target = 51 }) ∷ [];
      pool = Text (codes "x") ∷ [];
      symbols = codes "raise" ∷ codes "puts" ∷ [];
      children = [];
    })
    ∷ [])

retrying_runs : machine retrying [] 250 ≡ Over (Ended (codes "3\n") 0)
unfolding run
retrying_runs = refl

-- x = while true
--   begin
--     break 5
--   ensure
--     puts "e"
--   end
-- end
-- puts x
abbrev pub breaking : Program
breaking = program 2
    ((record {
      locals = 2;
      registers = 8;
      code =
          bytes (op.LoadT 2 ∷ op.JmpNot 2 (pos 20) ∷ op.LoadI 2 5 ∷ op.JmpUw (pos 16) ∷ op.Except 3
          ∷ op.String 5 0 ∷ op.SSend 4 0 1 ∷ op.RaiseIf 3 ∷ op.Jmp (negsuc 25) ∷ op.LoadNil 2 ∷ op.Move 1 2
          ∷ op.Move 3 1 ∷ op.SSend 2 0 1 ∷ op.Stop ∷ []);
      catches = (record { rescue = false; begin = 6; end = 12; target = 12 }) ∷ [];
      pool = Text (codes "e") ∷ [];
      symbols = codes "puts" ∷ [];
      children = [];
    })
    ∷ [])

breaking_runs : machine breaking [] 100 ≡ Over (Ended (codes "e\n5\n") 0)
unfolding run
breaking_runs = refl

-- puts 1
-- raise ArgumentError, "bad"
abbrev pub uncaught : Program
uncaught = program 2
    ((record {
      locals = 1;
      registers = 6;
      code =
          bytes (op.LoadI 2 1 ∷ op.SSend 1 0 1 ∷ op.GetConst 2 1 ∷ op.String 3 0 ∷ op.SSend 1 2 2 ∷ op.Stop
          ∷ []);
      catches = [];
      pool = Text (codes "bad") ∷ [];
      symbols = codes "puts" ∷ codes "ArgumentError" ∷ codes "raise" ∷ [];
      children = [];
    })
    ∷ [])

uncaught_runs : machine uncaught [] 120 ≡ Over (Uncaught (codes "1\n") (codes "ArgumentError") (codes "bad"))
unfolding run
uncaught_runs = refl

-- begin
--   raise "x"
-- ensure
--   puts "e"
--   exit 3
-- end
abbrev pub exiting : Program
exiting = program 2
    ((record {
      locals = 1;
      registers = 7;
      code =
          bytes (op.String 2 0 ∷ op.SSend 1 0 1 ∷ op.Except 2 ∷ op.String 4 1 ∷ op.SSend 3 1 1 ∷ op.LoadI 4 3
          ∷ op.SSend 3 2 1 ∷ op.RaiseIf 2 ∷ op.Stop ∷ []);
      catches = (record { rescue = false; begin = 0; end = 7; target = 7 }) ∷ [];
      pool = Text (codes "x") ∷ Text (codes "e") ∷ [];
      symbols = codes "raise" ∷ codes "puts" ∷ codes "exit" ∷ [];
      children = [];
    })
    ∷ [])

exiting_runs : machine exiting [] 120 ≡ Over (Ended (codes "e\n") 3)
unfolding run
exiting_runs = refl

-- def f(x)
--   begin
--     raise x, "m" if x
--     puts "a"
--   rescue TypeError, ArgumentError => e
--     puts e.message
--   else
--     puts "b"
--   ensure
--     puts "c"
--   end
-- end
-- f(nil)
-- f(ArgumentError)
abbrev pub rescuing : Program
rescuing = program 2
    ((record {
      locals = 1;
      registers = 5;
      code =
          bytes (op.TClass 1 ∷ op.Def 1 0 0 ∷ op.LoadNil 2 ∷ op.SSend 1 0 1 ∷ op.GetConst 2 1 ∷ op.SSend 1 0 1
          ∷ op.Stop ∷ []);
      catches = [];
      pool = [];
      symbols = codes "f" ∷ codes "ArgumentError" ∷ [];
      children = 1 ∷ [];
    })
    ∷ (record {
      locals = 4;
      registers = 10;
      code =
          bytes (op.Enter (record no_parameters { required = 1 }) ∷ op.Move 4 1 ∷ op.JmpNot 4 (pos 13)
          ∷ op.Move 5 1 ∷ op.String 6 0 ∷ op.SSend 4 0 2 ∷ op.Jmp (pos 2) ∷ op.LoadNil 4 ∷ op.String 5 1
          ∷ op.SSend 4 1 1 ∷ op.String 5 2 ∷ op.SSend 4 1 1 ∷ op.Jmp (pos 50) ∷ op.Except 4 ∷ op.GetConst 5 2
          ∷ op.Rescue 4 5 ∷ op.JmpIf 5 (pos 13) ∷ op.GetConst 5 3 ∷ op.Rescue 4 5 ∷ op.JmpIf 5 (pos 3)
          ∷ op.Jmp (pos 23) ∷ op.Move 5 4 ∷ op.Move 3 5 ∷ op.Move 6 3 ∷ op.Send 6 4 0 ∷ op.SSend 5 1 1
          ∷ op.Move 4 5 ∷ op.Jmp (pos 2) ∷ op.RaiseIf 4 ∷ op.Except 5 ∷ op.String 7 3 ∷ op.SSend 6 1 1
          ∷ op.RaiseIf 5 ∷ op.Return 4 ∷ []);
      catches = (record { rescue = false; begin = 4; end = 93; target = 93 }) ∷
          (record { rescue = true; begin = 4; end = 33; target = 43 }) ∷ [];
      pool = Text (codes "m") ∷ Text (codes "a") ∷ Text (codes "b") ∷ Text (codes "c") ∷ [];
      symbols = codes "raise" ∷ codes "puts" ∷ codes "TypeError" ∷ codes "ArgumentError" ∷ codes "message" ∷ [];
      children = [];
    })
    ∷ [])

rescuing_runs : machine rescuing [] 400 ≡ Over (Ended (codes "a\nb\nc\nm\nc\n") 0)
unfolding run
rescuing_runs = refl

-- n = 0
-- loop {
--   n = n + 1
--   raise StopIteration if n == 2
-- }
-- puts n
-- 3.times { |i| print i }
-- puts
abbrev pub looping : Program
looping = program 2
    ((record {
      locals = 2;
      registers = 6;
      code =
          bytes (op.LoadI 2 0 ∷ op.Move 1 2 ∷ op.Block 3 0 ∷ op.SSendB 2 0 0 ∷ op.Move 3 1 ∷ op.SSend 2 1 1
          ∷ op.LoadI 2 3 ∷ op.Block 3 1 ∷ op.SendB 2 2 0 ∷ op.SSend 2 1 254 ∷ op.Stop ∷ []);
      catches = [];
      pool = [];
      symbols = codes "loop" ∷ codes "puts" ∷ codes "times" ∷ [];
      children = 1 ∷ 2 ∷ [];
    })
    ∷ (record {
      locals = 2;
      registers = 6;
      code =
          bytes (op.Enter no_parameters ∷ op.GetUpVar 2 1 0 ∷ op.LoadI 3 1 ∷ op.Add 2 ∷ op.SetUpVar 2 1 0
          ∷ op.GetUpVar 2 1 0 ∷ op.LoadI 3 2 ∷ op.Eq 2 ∷ op.JmpNot 2 (pos 10) ∷ op.GetConst 3 0 ∷ op.SSend 2 1 1
          ∷ op.Jmp (pos 2) ∷ op.LoadNil 2 ∷ op.Return 2 ∷ []);
      catches = [];
      pool = [];
      symbols = codes "StopIteration" ∷ codes "raise" ∷ [];
      children = [];
    })
    ∷ (record {
      locals = 3;
      registers = 7;
      code =
          bytes (op.Enter (record no_parameters { required = 1 }) ∷ op.Move 4 1 ∷ op.SSend 3 0 1 ∷ op.Return 3
          ∷ []);
      catches = [];
      pool = [];
      symbols = codes "print" ∷ [];
      children = [];
    })
    ∷ [])

looping_runs : machine looping [] 400 ≡ Over (Ended (codes "2\n012\n") 0)
unfolding run
looping_runs = refl
