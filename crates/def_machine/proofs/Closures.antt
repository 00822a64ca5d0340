-- Small programs about blocks, lambdas and parameters as code, run: their output is what Ruby gives.
use Rattle.std.specs.Prelude.{◌≡◌, pos, [], ◌∷◌, codes, true}
use mathlib.Core.Path.{refl}
use Rattle.rite_code.specs.Code.{Program, program}
use Rattle.rite_code.specs.Operation.{no_parameters}
use Rattle.rite_code.specs.declared.operation.Operation.TheVariants as op
use Rattle.def_calls.specs.Seen.{Over, Ended}
use Rattle.def_machine.specs.Turn.{machine}
use Rattle.def_machine.proofs.Running.{run}
use Rattle.def_machine.proofs.Writing.{bytes}

-- def counter
--   n = 0
--   [-> { n = n + 1 }, -> { n }]
-- end
-- c = counter
-- c[0].call
-- c[0].call
-- puts c[1].call
abbrev pub closures : Program
closures = program 2
    ((record {
      locals = 2;
      registers = 7;
      code =
          bytes (op.TClass 2 ∷ op.Def 2 0 0 ∷ op.SSend 2 0 254 ∷ op.Move 1 2 ∷ op.Move 2 1 ∷ op.LoadI 3 0
          ∷ op.Send 2 1 1 ∷ op.Send 2 2 0 ∷ op.Move 2 1 ∷ op.LoadI 3 0 ∷ op.Send 2 1 1 ∷ op.Send 2 2 0
          ∷ op.Move 3 1 ∷ op.LoadI 4 1 ∷ op.Send 3 1 1 ∷ op.Send 3 2 0 ∷ op.SSend 2 3 1 ∷ op.Stop ∷ []);
      catches = [];
      pool = [];
      symbols = codes "counter" ∷ codes "[]" ∷ codes "call" ∷ codes "puts" ∷ [];
      children = 1 ∷ [];
    })
    ∷ (record {
      locals = 3;
      registers = 7;
      code =
          bytes (op.Enter no_parameters ∷ op.LoadI 3 0 ∷ op.Move 2 3 ∷ op.Array 3 0 ∷ op.Lambda 4 0
          ∷ op.AryPush 3 1 ∷ op.Lambda 4 1 ∷ op.AryPush 3 1 ∷ op.Return 3 ∷ []);
      catches = [];
      pool = [];
      symbols = [];
      children = 2 ∷ 3 ∷ [];
    })
    ∷ (record {
      locals = 2;
      registers = 6;
      code =
          bytes (op.Enter no_parameters ∷ op.GetUpVar 2 2 0 ∷ op.LoadI 3 1 ∷ op.Add 2 ∷ op.SetUpVar 2 2 0
          ∷ op.Return 2 ∷ []);
      catches = [];
      pool = [];
      symbols = [];
      children = [];
    })
    ∷ (record {
      locals = 2;
      registers = 5;
      code =
          bytes (op.Enter no_parameters ∷ op.GetUpVar 2 2 0 ∷ op.Return 2 ∷ []);
      catches = [];
      pool = [];
      symbols = [];
      children = [];
    })
    ∷ [])

closures_runs : machine closures [] 150 ≡ Over (Ended (codes "2\n") 0)
unfolding run
closures_runs = refl

-- def f
--   proc { return 1 }
-- end
-- begin
--   f.call
-- rescue LocalJumpError => e
--   puts e.message
-- end
abbrev pub orphan : Program
orphan = program 2
    ((record {
      locals = 2;
      registers = 7;
      code =
          bytes (op.TClass 2 ∷ op.Def 2 0 0 ∷ op.SSend 2 0 254 ∷ op.Send 2 1 0 ∷ op.Jmp (pos 40) ∷ op.Except 2
          ∷ op.GetConst 3 2 ∷ op.Rescue 2 3 ∷ op.JmpIf 3 (pos 3) ∷ op.Jmp (pos 23) ∷ op.Move 3 2 ∷ op.Move 1 3
          ∷ op.Move 4 1 ∷ op.Send 4 3 0 ∷ op.SSend 3 4 1 ∷ op.Move 2 3 ∷ op.Jmp (pos 2) ∷ op.RaiseIf 2 ∷ op.Stop
          ∷ []);
      catches = (record { rescue = true; begin = 6; end = 14; target = 17 }) ∷ [];
      pool = [];
      symbols = codes "f" ∷ codes "call" ∷ codes "LocalJumpError" ∷ codes "message" ∷ codes "puts" ∷ [];
      children = 1 ∷ [];
    })
    ∷ (record {
      locals = 2;
      registers = 6;
      code =
          bytes (op.Enter no_parameters ∷ op.Block 3 0 ∷ op.SSendB 2 0 0 ∷ op.Return 2 ∷ []);
      catches = [];
      pool = [];
      symbols = codes "proc" ∷ [];
      children = 2 ∷ [];
    })
    ∷ (record {
      locals = 2;
      registers = 5;
      code =
          bytes (op.Enter no_parameters ∷ op.LoadI 2 1 ∷ op.ReturnBlk 2 ∷ op.Return 2 ∷ []);
      catches = [];
      pool = [];
      symbols = [];
      children = [];
    })
    ∷ [])

orphan_runs : machine orphan [] 200 ≡ Over (Ended (codes "unexpected return\n") 0)
unfolding run
orphan_runs = refl

-- [[1, [2, 3]]].each { |a, (b, c)| puts a + b + c }
abbrev pub patterns : Program
patterns = program 2
    ((record {
      locals = 1;
      registers = 7;
      code =
          bytes (op.Array 1 0 ∷ op.Array 2 0 ∷ op.LoadI 3 1 ∷ op.AryPush 2 1 ∷ op.Array 3 0 ∷ op.LoadI 4 2
          ∷ op.AryPush 3 1 ∷ op.LoadI 4 3 ∷ op.AryPush 3 1 ∷ op.AryPush 2 1 ∷ op.AryPush 1 1 ∷ op.Block 2 0
          ∷ op.SendB 1 0 0 ∷ op.Stop ∷ []);
      catches = [];
      pool = [];
      symbols = codes "each" ∷ [];
      children = 1 ∷ [];
    })
    ∷ (record {
      locals = 7;
      registers = 12;
      code =
          bytes (op.Enter (record no_parameters { required = 2 }) ∷ op.Move 7 2 ∷ op.Move 6 7 ∷ op.Move 7 6
          ∷ op.ARef 7 7 (pos 0) ∷ op.Move 4 7 ∷ op.Move 7 6 ∷ op.ARef 7 7 (pos 1) ∷ op.Move 5 7 ∷ op.Move 7 6
          ∷ op.Move 8 1 ∷ op.Move 9 4 ∷ op.Add 8 ∷ op.Move 9 5 ∷ op.Add 8 ∷ op.SSend 7 0 1 ∷ op.Return 7 ∷ []);
      catches = [];
      pool = [];
      symbols = codes "puts" ∷ [];
      children = [];
    })
    ∷ [])

patterns_runs : machine patterns [] 150 ≡ Over (Ended (codes "6\n") 0)
unfolding run
patterns_runs = refl

-- def f(a, b = a + 1, c = a + b)
--   puts c
-- end
-- f(1)
-- f(1, 5)
abbrev pub defaults : Program
defaults = program 2
    ((record {
      locals = 1;
      registers = 6;
      code =
          bytes (op.TClass 1 ∷ op.Def 1 0 0 ∷ op.LoadI 2 1 ∷ op.SSend 1 0 1 ∷ op.LoadI 2 1 ∷ op.LoadI 3 5
          ∷ op.SSend 1 0 2 ∷ op.Stop ∷ []);
      catches = [];
      pool = [];
      symbols = codes "f" ∷ [];
      children = 1 ∷ [];
    })
    ∷ (record {
      locals = 5;
      registers = 9;
      code =
          bytes (op.Enter (record no_parameters { required = 1; optional = 2 }) ∷ op.Jmp (pos 6)
          ∷ op.Jmp (pos 14) ∷ op.Jmp (pos 22) ∷ op.Move 5 1 ∷ op.LoadI 6 1 ∷ op.Add 5 ∷ op.Move 2 5
          ∷ op.Move 5 1 ∷ op.Move 6 2 ∷ op.Add 5 ∷ op.Move 3 5 ∷ op.Move 6 3 ∷ op.SSend 5 0 1 ∷ op.Return 5
          ∷ []);
      catches = [];
      pool = [];
      symbols = codes "puts" ∷ [];
      children = [];
    })
    ∷ [])

defaults_runs : machine defaults [] 200 ≡ Over (Ended (codes "3\n6\n") 0)
unfolding run
defaults_runs = refl

-- def f
--   puts yield(1, 2)
-- end
-- f { |a, b|
--   next 9 if a == 2
--   a + b
-- }
-- x = [1, 2, 3].each { |y| break y * 5 if y == 2 }
-- puts x
abbrev pub yielding : Program
yielding = program 2
    ((record {
      locals = 2;
      registers = 6;
      code =
          bytes (op.TClass 2 ∷ op.Def 2 0 0 ∷ op.Block 3 1 ∷ op.SSendB 2 0 0 ∷ op.Array 2 0 ∷ op.LoadI 3 1
          ∷ op.AryPush 2 1 ∷ op.LoadI 3 2 ∷ op.AryPush 2 1 ∷ op.LoadI 3 3 ∷ op.AryPush 2 1 ∷ op.Block 3 2
          ∷ op.SendB 2 1 0 ∷ op.Move 1 2 ∷ op.Move 3 1 ∷ op.SSend 2 2 1 ∷ op.Stop ∷ []);
      catches = [];
      pool = [];
      symbols = codes "f" ∷ codes "each" ∷ codes "puts" ∷ [];
      children = 1 ∷ 2 ∷ 3 ∷ [];
    })
    ∷ (record {
      locals = 2;
      registers = 8;
      code =
          bytes (op.Enter no_parameters ∷ op.BlkPush 3 ∷ op.LoadI 4 1 ∷ op.LoadI 5 2 ∷ op.Call 3 2
          ∷ op.SSend 2 0 1 ∷ op.Return 2 ∷ []);
      catches = [];
      pool = [];
      symbols = codes "puts" ∷ [];
      children = [];
    })
    ∷ (record {
      locals = 4;
      registers = 8;
      code =
          bytes (op.Enter (record no_parameters { required = 2 }) ∷ op.Move 4 1 ∷ op.LoadI 5 2 ∷ op.Eq 4
          ∷ op.JmpNot 4 (pos 8) ∷ op.LoadI 4 9 ∷ op.Return 4 ∷ op.Jmp (pos 2) ∷ op.LoadNil 4 ∷ op.Move 4 1
          ∷ op.Move 5 2 ∷ op.Add 4 ∷ op.Return 4 ∷ []);
      catches = [];
      pool = [];
      symbols = [];
      children = [];
    })
    ∷ (record {
      locals = 3;
      registers = 7;
      code =
          bytes (op.Enter (record no_parameters { required = 1 }) ∷ op.Move 3 1 ∷ op.LoadI 4 2 ∷ op.Eq 3
          ∷ op.JmpNot 3 (pos 13) ∷ op.Move 3 1 ∷ op.LoadI 4 5 ∷ op.Mul 3 ∷ op.Break 3 ∷ op.Jmp (pos 2)
          ∷ op.LoadNil 3 ∷ op.Return 3 ∷ []);
      catches = [];
      pool = [];
      symbols = [];
      children = [];
    })
    ∷ [])

yielding_runs : machine yielding [] 300 ≡ Over (Ended (codes "3\n10\n") 0)
unfolding run
yielding_runs = refl

-- l = lambda { |x| return x * 2 }
-- puts l.call(4)
-- begin
--   l.call
-- rescue ArgumentError => e
--   puts e.message
-- end
-- puts [1, [2, [3]], nil]
abbrev pub lambdas : Program
lambdas = program 2
    ((record {
      locals = 3;
      registers = 10;
      code =
          bytes (op.Block 4 0 ∷ op.SSendB 3 0 0 ∷ op.Move 1 3 ∷ op.Move 4 1 ∷ op.LoadI 5 4 ∷ op.Send 4 1 1
          ∷ op.SSend 3 2 1 ∷ op.Move 3 1 ∷ op.Send 3 1 0 ∷ op.Jmp (pos 40) ∷ op.Except 3 ∷ op.GetConst 4 3
          ∷ op.Rescue 3 4 ∷ op.JmpIf 4 (pos 3) ∷ op.Jmp (pos 23) ∷ op.Move 4 3 ∷ op.Move 2 4 ∷ op.Move 5 2
          ∷ op.Send 5 4 0 ∷ op.SSend 4 2 1 ∷ op.Move 3 4 ∷ op.Jmp (pos 2) ∷ op.RaiseIf 3 ∷ op.Array 4 0
          ∷ op.LoadI 5 1 ∷ op.AryPush 4 1 ∷ op.Array 5 0 ∷ op.LoadI 6 2 ∷ op.AryPush 5 1 ∷ op.Array 6 0
          ∷ op.LoadI 7 3 ∷ op.AryPush 6 1 ∷ op.AryPush 5 1 ∷ op.AryPush 4 1 ∷ op.LoadNil 5 ∷ op.AryPush 4 1
          ∷ op.SSend 3 2 1 ∷ op.Stop ∷ []);
      catches = (record { rescue = true; begin = 24; end = 31; target = 34 }) ∷ [];
      pool = [];
      symbols = codes "lambda" ∷ codes "call" ∷ codes "puts" ∷ codes "ArgumentError" ∷ codes "message" ∷ [];
      children = 1 ∷ [];
    })
    ∷ (record {
      locals = 3;
      registers = 7;
      code =
          bytes (op.Enter (record no_parameters { required = 1 }) ∷ op.Move 3 1 ∷ op.LoadI 4 2 ∷ op.Mul 3
          ∷ op.ReturnBlk 3 ∷ op.Return 3 ∷ []);
      catches = [];
      pool = [];
      symbols = [];
      children = [];
    })
    ∷ [])

lambdas_runs : machine lambdas [] 400 ≡ Over (Ended
    (codes "8\nwrong number of arguments (given 0, expected 1)\n1\n2\n3\n\n") 0)
unfolding run
lambdas_runs = refl
