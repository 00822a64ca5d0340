-- Small programs about values, input and fibers as code, run: their output is what Ruby gives.
use Rattle.std.specs.Prelude.{◌≡◌, pos, negsuc, [], ◌∷◌, codes, true}
use mathlib.Core.Path.{refl}
use Rattle.rite_code.specs.Code.{Program, program}
use Rattle.rite_code.specs.Operation.{no_parameters}
use Rattle.rite_code.specs.declared.code.PoolItem.TheVariants.{Text}
use Rattle.rite_code.specs.declared.operation.Operation.TheVariants as op
use Rattle.def_calls.specs.Seen.{Over, Ended}
use Rattle.def_machine.specs.Peak.{peak}
use Rattle.def_machine.specs.Turn.{machine}
use Rattle.def_machine.proofs.Running.{run}
use Rattle.def_machine.proofs.Writing.{bytes}

-- puts 1 + 2
abbrev pub sum : Program
sum = program 2
    ((record {
      locals = 1;
      registers = 6;
      code =
          bytes (op.LoadI 2 1 ∷ op.LoadI 3 2 ∷ op.Add 2 ∷ op.SSend 1 0 1 ∷ op.Stop ∷ []);
      catches = [];
      pool = [];
      symbols = codes "puts" ∷ [];
      children = [];
    })
    ∷ [])

sum_runs : machine sum [] 30 ≡ Over (Ended (codes "3\n") 0)
unfolding run
sum_runs = refl

-- six registers are one block
sum_needs : peak sum [] 4 ≡ 1
unfolding run peak
sum_needs = refl

-- f = Fiber.new {
--   [1, 2].each { |x| Fiber.yield(x) }
--   3
-- }
-- puts f.resume
-- puts f.resume
-- puts f.resume
abbrev pub fibers : Program
fibers = program 2
    ((record {
      locals = 2;
      registers = 6;
      code =
          bytes (op.GetConst 2 0 ∷ op.Block 3 0 ∷ op.SendB 2 1 0 ∷ op.Move 1 2 ∷ op.Move 3 1 ∷ op.Send 3 2 0
          ∷ op.SSend 2 3 1 ∷ op.Move 3 1 ∷ op.Send 3 2 0 ∷ op.SSend 2 3 1 ∷ op.Move 3 1 ∷ op.Send 3 2 0
          ∷ op.SSend 2 3 1 ∷ op.Stop ∷ []);
      catches = [];
      pool = [];
      symbols = codes "Fiber" ∷ codes "new" ∷ codes "resume" ∷ codes "puts" ∷ [];
      children = 1 ∷ [];
    })
    ∷ (record {
      locals = 2;
      registers = 6;
      code =
          bytes (op.Enter no_parameters ∷ op.Array 2 0 ∷ op.LoadI 3 1 ∷ op.AryPush 2 1 ∷ op.LoadI 3 2
          ∷ op.AryPush 2 1 ∷ op.Block 3 0 ∷ op.SendB 2 0 0 ∷ op.LoadI 2 3 ∷ op.Return 2 ∷ []);
      catches = [];
      pool = [];
      symbols = codes "each" ∷ [];
      children = 2 ∷ [];
    })
    ∷ (record {
      locals = 3;
      registers = 7;
      code =
          bytes (op.Enter (record no_parameters { required = 1 }) ∷ op.GetConst 3 0 ∷ op.Move 4 1
          ∷ op.Send 3 1 1 ∷ op.Return 3 ∷ []);
      catches = [];
      pool = [];
      symbols = codes "Fiber" ∷ codes "yield" ∷ [];
      children = [];
    })
    ∷ [])

fibers_runs : machine fibers [] 300 ≡ Over (Ended (codes "1\n2\n3\n") 0)
unfolding run
fibers_runs = refl

-- the fiber that runs has registers of its own beside those of the main program
fibers_need : peak fibers [] 16 ≡ 2
unfolding run peak
fibers_need = refl

-- f = Fiber.new { raise "lost" }
-- begin
--   f.resume
-- rescue => e
--   puts e.message
-- end
-- puts f.alive?
abbrev pub raising_through : Program
raising_through = program 2
    ((record {
      locals = 3;
      registers = 8;
      code =
          bytes (op.GetConst 3 0 ∷ op.Block 4 0 ∷ op.SendB 3 1 0 ∷ op.Move 1 3 ∷ op.Move 3 1 ∷ op.Send 3 2 0
          ∷ op.Jmp (pos 40) ∷ op.Except 3 ∷ op.OClass 4 1 ∷ op.Rescue 3 4 ∷ op.JmpIf 4 (pos 3) ∷ op.Jmp (pos 23)
          ∷ op.Move 4 3 ∷ op.Move 2 4 ∷ op.Move 5 2 ∷ op.Send 5 3 0 ∷ op.SSend 4 4 1 ∷ op.Move 3 4
          ∷ op.Jmp (pos 2) ∷ op.RaiseIf 3 ∷ op.Move 4 1 ∷ op.Send 4 5 0 ∷ op.SSend 3 4 1 ∷ op.Stop ∷ []);
      catches = (record { rescue = true; begin = 13; end = 20; target = 23 }) ∷ [];
      pool = [];
      symbols = codes "Fiber" ∷ codes "new" ∷ codes "resume" ∷ codes "message" ∷ codes "puts" ∷ codes "alive?" ∷ [];
      children = 1 ∷ [];
    })
    ∷ (record {
      locals = 2;
      registers = 6;
      code =
          bytes (op.Enter no_parameters ∷ op.String 3 0 ∷ op.SSend 2 0 1 ∷ op.Return 2 ∷ []);
      catches = [];
      pool = Text (codes "lost") ∷ [];
      symbols = codes "raise" ∷ [];
      children = [];
    })
    ∷ [])

raising_through_runs : machine raising_through [] 200 ≡ Over (Ended (codes "lost\nfalse\n") 0)
unfolding run
raising_through_runs = refl

-- a = 1
-- b = 2
-- a, b = b, a
-- puts a
-- c, *d = [3, 4, 5]
-- puts d.length
-- puts "#{c}#{b}"
-- puts [*1..3].length
abbrev pub assigning : Program
assigning = program 2
    ((record {
      locals = 6;
      registers = 12;
      code =
          bytes (op.LoadI 6 1 ∷ op.Move 1 6 ∷ op.LoadI 6 2 ∷ op.Move 2 6 ∷ op.Array 6 0 ∷ op.Move 7 2
          ∷ op.AryPush 6 1 ∷ op.Move 7 1 ∷ op.AryPush 6 1 ∷ op.Move 5 6 ∷ op.Move 6 5 ∷ op.ARef 6 6 (pos 0)
          ∷ op.Move 1 6 ∷ op.Move 6 5 ∷ op.ARef 6 6 (pos 1) ∷ op.Move 2 6 ∷ op.Move 6 5 ∷ op.Move 7 1
          ∷ op.SSend 6 0 1 ∷ op.Array 6 0 ∷ op.LoadI 7 3 ∷ op.AryPush 6 1 ∷ op.LoadI 7 4 ∷ op.AryPush 6 1
          ∷ op.LoadI 7 5 ∷ op.AryPush 6 1 ∷ op.Move 5 6 ∷ op.Move 6 5 ∷ op.ARef 6 6 (pos 0) ∷ op.Move 3 6
          ∷ op.Move 6 5 ∷ op.APost 6 1 (pos 0) ∷ op.Move 4 6 ∷ op.Move 6 5 ∷ op.Move 7 4 ∷ op.Send 7 1 0
          ∷ op.SSend 6 0 1 ∷ op.String 7 0 ∷ op.Move 8 3 ∷ op.Send 8 2 0 ∷ op.StrCat 7 ∷ op.Move 8 2
          ∷ op.Send 8 2 0 ∷ op.StrCat 7 ∷ op.SSend 6 0 1 ∷ op.Array 7 0 ∷ op.LoadI 8 1 ∷ op.LoadI 9 3
          ∷ op.RangeInc 8 ∷ op.AryCat 7 ∷ op.Send 7 1 0 ∷ op.SSend 6 0 1 ∷ op.Stop ∷ []);
      catches = [];
      pool = Text (codes "") ∷ [];
      symbols = codes "puts" ∷ codes "length" ∷ codes "to_s" ∷ [];
      children = [];
    })
    ∷ [])

assigning_runs : machine assigning [] 350 ≡ Over (Ended (codes "2\n2\n31\n3\n") 0)
unfolding run
assigning_runs = refl

-- while x = gets
--   puts x
-- end
-- p x, 1
abbrev pub reading : Program
reading = program 2
    ((record {
      locals = 2;
      registers = 7;
      code =
          bytes (op.SSend 2 0 254 ∷ op.Move 1 2 ∷ op.JmpNot 2 (pos 10) ∷ op.Move 3 1 ∷ op.SSend 2 1 1
          ∷ op.Jmp (negsuc 20) ∷ op.LoadNil 2 ∷ op.Move 3 1 ∷ op.LoadI 4 1 ∷ op.SSend 2 2 2 ∷ op.Stop ∷ []);
      catches = [];
      pool = [];
      symbols = codes "gets" ∷ codes "puts" ∷ codes "p" ∷ [];
      children = [];
    })
    ∷ [])

reading_runs : machine reading (codes "a\nbc") 200 ≡ Over (Ended (codes "a\nbc\nnil\n1\n") 0)
unfolding run
reading_runs = refl
