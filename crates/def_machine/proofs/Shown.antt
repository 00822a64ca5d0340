-- Small programs about what is shown, as code, run: keys, lines, names that aren't found, and messages. Their output is
-- what Ruby gives.
use Rattle.std.specs.Prelude.{◌≡◌, ℕ, pos, List, [], ◌∷◌, ◌++◌, codes, true}
use mathlib.Core.Path.{refl}
use Rattle.rite_code.specs.Code.{Program, program}
use Rattle.rite_code.specs.Operation.{no_parameters}
use Rattle.rite_code.specs.declared.code.PoolItem.TheVariants.{Text}
use Rattle.rite_code.specs.declared.operation.Operation.TheVariants as op
use Rattle.def_calls.specs.Seen.{Over, Ended, Uncaught}
use Rattle.def_machine.specs.Turn.{machine}
use Rattle.def_machine.proofs.Running.{run}
use Rattle.def_machine.proofs.Writing.{bytes}

-- s = "a"
-- h = {s => 1}
-- s << "b"
-- puts [*h, [], s]
abbrev pub keying : Program
keying = program 2
    ((record {
      locals = 3;
      registers = 14;
      code =
          bytes (op.String 3 0 ∷ op.Move 1 3 ∷ op.Hash 3 0 ∷ op.Move 4 1 ∷ op.LoadI 5 1 ∷ op.HashAdd 3 1
          ∷ op.Move 2 3 ∷ op.Move 3 1 ∷ op.String 4 1 ∷ op.Send 3 0 1 ∷ op.Array 4 0 ∷ op.Move 5 2
          ∷ op.AryCat 4 ∷ op.Array 5 0 ∷ op.AryPush 4 1 ∷ op.Move 5 1 ∷ op.AryPush 4 1 ∷ op.SSend 3 1 1
          ∷ op.Stop ∷ []);
      catches = [];
      pool = Text (codes "a") ∷ Text (codes "b") ∷ [];
      symbols = codes "<<" ∷ codes "puts" ∷ [];
      children = [];
    })
    ∷ [])

keying_runs : machine keying [] 200 ≡ Over (Ended (codes "a\n1\nab\n") 0)
unfolding run
keying_runs = refl

-- class A
--   begin
--     C
--   rescue NameError => e
--     puts e.message
--   end
-- end
-- begin
--   ::C
-- rescue NameError => e
--   puts e.message
-- end
-- begin
--   c?
-- rescue NoMethodError => e
--   puts e.message
-- end
-- begin
--   Integer.new
-- rescue NoMethodError => e
--   puts e.message
-- end
abbrev pub naming : Program
naming = program 2
    ((record {
      locals = 2;
      registers = 11;
      code =
          bytes (op.TClass 2 ∷ op.LoadNil 3 ∷ op.Class 2 0 ∷ op.Exec 2 0 ∷ op.OClass 2 0 ∷ op.GetMCnst 2 1
          ∷ op.Jmp (pos 34) ∷ op.Except 3 ∷ op.GetConst 4 2 ∷ op.Rescue 3 4 ∷ op.JmpNot 4 (pos 20)
          ∷ op.Move 4 3 ∷ op.Move 1 4 ∷ op.Move 3 1 ∷ op.Send 3 4 0 ∷ op.SSend 2 3 1 ∷ op.Jmp (pos 2)
          ∷ op.RaiseIf 3 ∷ op.SSend 2 5 254 ∷ op.Jmp (pos 34) ∷ op.Except 3 ∷ op.GetConst 4 6
          ∷ op.Rescue 3 4 ∷ op.JmpNot 4 (pos 20) ∷ op.Move 4 3 ∷ op.Move 1 4 ∷ op.Move 3 1 ∷ op.Send 3 4 0
          ∷ op.SSend 2 3 1 ∷ op.Jmp (pos 2) ∷ op.RaiseIf 3 ∷ op.GetConst 2 8 ∷ op.Send 2 7 0
          ∷ op.Jmp (pos 34) ∷ op.Except 3 ∷ op.GetConst 4 6 ∷ op.Rescue 3 4 ∷ op.JmpNot 4 (pos 20)
          ∷ op.Move 4 3 ∷ op.Move 1 4 ∷ op.Move 3 1 ∷ op.Send 3 4 0 ∷ op.SSend 2 3 1 ∷ op.Jmp (pos 2)
          ∷ op.RaiseIf 3 ∷ op.Stop ∷ []);
      catches = (record { rescue = true; begin = 10; end = 16; target = 19 })
          ∷ (record { rescue = true; begin = 53; end = 57; target = 60 })
          ∷ (record { rescue = true; begin = 94; end = 101; target = 104 }) ∷ [];
      pool = [];
      symbols = codes "A" ∷ codes "C" ∷ codes "NameError" ∷ codes "puts" ∷ codes "message" ∷ codes "c?"
          ∷ codes "NoMethodError" ∷ codes "new" ∷ codes "Integer" ∷ [];
      children = 1 ∷ [];
    })
    ∷ (record {
      locals = 2;
      registers = 9;
      code =
          bytes (op.GetConst 2 0 ∷ op.Jmp (pos 34) ∷ op.Except 3 ∷ op.GetConst 4 1 ∷ op.Rescue 3 4
          ∷ op.JmpNot 4 (pos 20) ∷ op.Move 4 3 ∷ op.Move 1 4 ∷ op.Move 3 1 ∷ op.Send 3 3 0 ∷ op.SSend 2 2 1
          ∷ op.Jmp (pos 2) ∷ op.RaiseIf 3 ∷ op.Return 2 ∷ []);
      catches = (record { rescue = true; begin = 0; end = 3; target = 6 }) ∷ [];
      pool = [];
      symbols = codes "C" ∷ codes "NameError" ∷ codes "puts" ∷ codes "message" ∷ [];
      children = [];
    })
    ∷ [])

abbrev lines_of_naming : List ℕ
lines_of_naming = codes "uninitialized constant A::C\n" ++ codes "uninitialized constant C\n"
    ++ codes "undefined method 'c?' for Object\n" ++ codes "undefined method 'new' for Class\n"

naming_runs : machine naming [] 400 ≡ Over (Ended lines_of_naming 0)
unfolding run
naming_runs = refl

-- e = ArgumentError.new("a")
-- begin
--   raise e, "b"
-- rescue => f
--   puts f.message
-- end
-- puts e.message
abbrev pub raising_another : Program
raising_another = program 2
    ((record {
      locals = 3;
      registers = 13;
      code =
          bytes (op.GetConst 3 1 ∷ op.String 4 0 ∷ op.Send 3 0 1 ∷ op.Move 1 3 ∷ op.Move 4 1 ∷ op.String 5 1
          ∷ op.SSend 3 2 2 ∷ op.Jmp (pos 34) ∷ op.Except 4 ∷ op.OClass 5 1 ∷ op.Rescue 4 5
          ∷ op.JmpNot 5 (pos 20) ∷ op.Move 5 4 ∷ op.Move 2 5 ∷ op.Move 4 2 ∷ op.Send 4 4 0 ∷ op.SSend 3 3 1
          ∷ op.Jmp (pos 2) ∷ op.RaiseIf 4 ∷ op.Move 4 1 ∷ op.Send 4 4 0 ∷ op.SSend 3 3 1 ∷ op.Stop ∷ []);
      catches = (record { rescue = true; begin = 13; end = 23; target = 26 }) ∷ [];
      pool = Text (codes "a") ∷ Text (codes "b") ∷ [];
      symbols = codes "new" ∷ codes "ArgumentError" ∷ codes "raise" ∷ codes "puts" ∷ codes "message" ∷ [];
      children = [];
    })
    ∷ [])

raising_another_runs : machine raising_another [] 200 ≡ Over (Ended (codes "b\na\n") 0)
unfolding run
raising_another_runs = refl

-- class E < StandardError
--   def to_s
--     "told"
--   end
-- end
-- begin
--   raise E, "x"
-- rescue => e
--   puts e.message
--   p e
-- end
-- raise e
abbrev pub telling : Program
telling = program 2
    ((record {
      locals = 2;
      registers = 13;
      code =
          bytes (op.TClass 2 ∷ op.GetConst 3 1 ∷ op.Class 2 0 ∷ op.Exec 2 0 ∷ op.GetConst 3 0
          ∷ op.String 4 0 ∷ op.SSend 2 2 2 ∷ op.Jmp (pos 41) ∷ op.Except 3 ∷ op.OClass 4 1 ∷ op.Rescue 3 4
          ∷ op.JmpNot 4 (pos 27) ∷ op.Move 4 3 ∷ op.Move 1 4 ∷ op.Move 3 1 ∷ op.Send 3 4 0 ∷ op.SSend 2 3 1
          ∷ op.Move 3 1 ∷ op.SSend 2 5 1 ∷ op.Jmp (pos 2) ∷ op.RaiseIf 3 ∷ op.Move 3 1 ∷ op.SSend 2 2 1
          ∷ op.Stop ∷ []);
      catches = (record { rescue = true; begin = 11; end = 21; target = 24 }) ∷ [];
      pool = Text (codes "x") ∷ [];
      symbols = codes "E" ∷ codes "StandardError" ∷ codes "raise" ∷ codes "puts" ∷ codes "message" ∷ codes "p" ∷ [];
      children = 1 ∷ [];
    })
    ∷ (record {
      locals = 1;
      registers = 5;
      code =
          bytes (op.TClass 1 ∷ op.Def 1 0 0 ∷ op.Return 1 ∷ []);
      catches = [];
      pool = [];
      symbols = codes "to_s" ∷ [];
      children = 2 ∷ [];
    })
    ∷ (record {
      locals = 2;
      registers = 5;
      code =
          bytes (op.Enter no_parameters ∷ op.String 2 0 ∷ op.Return 2 ∷ []);
      catches = [];
      pool = Text (codes "told") ∷ [];
      symbols = [];
      children = [];
    })
    ∷ [])

telling_runs : machine telling [] 400 ≡ Over (Uncaught (codes "told\n#<E: told>\n") (codes "E") (codes "told"))
unfolding run
telling_runs = refl
