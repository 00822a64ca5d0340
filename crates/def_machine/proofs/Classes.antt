-- Small programs about classes and methods as code, run: their output is what Ruby gives.
use Rattle.std.specs.Prelude.{◌≡◌, pos, [], ◌∷◌, codes, true}
use mathlib.Core.Path.{refl}
use Rattle.rite_code.specs.Code.{Program, program}
use Rattle.rite_code.specs.Operation.{no_parameters}
use Rattle.rite_code.specs.declared.code.PoolItem.TheVariants.{Text}
use Rattle.rite_code.specs.declared.operation.Operation.TheVariants as op
use Rattle.def_calls.specs.Seen.{Over, Ended}
use Rattle.def_machine.specs.Turn.{machine}
use Rattle.def_machine.proofs.Running.{run}
use Rattle.def_machine.proofs.Writing.{bytes}

-- class A
--   def f(x)
--     puts x
--   end
-- end
-- class B < A
--   def f(x)
--     x = x + 1
--     super
--   end
-- end
-- B.new.f(4)
abbrev pub supers : Program
supers = program 2
    ((record {
      locals = 1;
      registers = 5;
      code =
          bytes (op.TClass 1 ∷ op.LoadNil 2 ∷ op.Class 1 0 ∷ op.Exec 1 0 ∷ op.TClass 1 ∷ op.GetConst 2 0
          ∷ op.Class 1 1 ∷ op.Exec 1 1 ∷ op.GetConst 1 1 ∷ op.Send 1 2 0 ∷ op.LoadI 2 4 ∷ op.Send 1 3 1
          ∷ op.Stop ∷ []);
      catches = [];
      pool = [];
      symbols = codes "A" ∷ codes "B" ∷ codes "new" ∷ codes "f" ∷ [];
      children = 1 ∷ 3 ∷ [];
    })
    ∷ (record {
      locals = 1;
      registers = 4;
      code =
          bytes (op.TClass 1 ∷ op.Def 1 0 0 ∷ op.Return 1 ∷ []);
      catches = [];
      pool = [];
      symbols = codes "f" ∷ [];
      children = 2 ∷ [];
    })
    ∷ (record {
      locals = 3;
      registers = 7;
      code =
          bytes (op.Enter (record no_parameters { required = 1 }) ∷ op.Move 4 1 ∷ op.SSend 3 0 1 ∷ op.Return 3
          ∷ []);
      catches = [];
      pool = [];
      symbols = codes "puts" ∷ [];
      children = [];
    })
    ∷ (record {
      locals = 1;
      registers = 4;
      code =
          bytes (op.TClass 1 ∷ op.Def 1 0 0 ∷ op.Return 1 ∷ []);
      catches = [];
      pool = [];
      symbols = codes "f" ∷ [];
      children = 4 ∷ [];
    })
    ∷ (record {
      locals = 3;
      registers = 8;
      code =
          bytes (op.Enter (record no_parameters { required = 1 }) ∷ op.Move 3 1 ∷ op.LoadI 4 1 ∷ op.Add 3
          ∷ op.Move 1 3 ∷ op.Move 4 1 ∷ op.Move 5 2 ∷ op.Super 3 1 ∷ op.Return 3 ∷ []);
      catches = [];
      pool = [];
      symbols = [];
      children = [];
    })
    ∷ [])

supers_runs : machine supers [] 200 ≡ Over (Ended (codes "5\n") 0)
unfolding run
supers_runs = refl

-- class C
--   define_method(:f) { |x| puts x + @n }
--   def initialize(n)
--     @n = n
--   end
-- end
-- C.new(3).f(4)
abbrev pub defining : Program
defining = program 2
    ((record {
      locals = 1;
      registers = 5;
      code =
          bytes (op.TClass 1 ∷ op.LoadNil 2 ∷ op.Class 1 0 ∷ op.Exec 1 0 ∷ op.GetConst 1 0 ∷ op.LoadI 2 3
          ∷ op.Send 1 1 1 ∷ op.LoadI 2 4 ∷ op.Send 1 2 1 ∷ op.Stop ∷ []);
      catches = [];
      pool = [];
      symbols = codes "C" ∷ codes "new" ∷ codes "f" ∷ [];
      children = 1 ∷ [];
    })
    ∷ (record {
      locals = 1;
      registers = 6;
      code =
          bytes (op.LoadSym 2 0 ∷ op.Block 3 0 ∷ op.SSendB 1 1 1 ∷ op.TClass 1 ∷ op.Def 1 2 1 ∷ op.Return 1
          ∷ []);
      catches = [];
      pool = [];
      symbols = codes "f" ∷ codes "define_method" ∷ codes "initialize" ∷ [];
      children = 2 ∷ 3 ∷ [];
    })
    ∷ (record {
      locals = 3;
      registers = 8;
      code =
          bytes (op.Enter (record no_parameters { required = 1 }) ∷ op.Move 4 1 ∷ op.GetIv 5 0 ∷ op.Add 4
          ∷ op.SSend 3 1 1 ∷ op.Return 3 ∷ []);
      catches = [];
      pool = [];
      symbols = codes "@n" ∷ codes "puts" ∷ [];
      children = [];
    })
    ∷ (record {
      locals = 3;
      registers = 6;
      code =
          bytes (op.Enter (record no_parameters { required = 1 }) ∷ op.Move 3 1 ∷ op.SetIv 3 0 ∷ op.Return 3
          ∷ []);
      catches = [];
      pool = [];
      symbols = codes "@n" ∷ [];
      children = [];
    })
    ∷ [])

defining_runs : machine defining [] 200 ≡ Over (Ended (codes "7\n") 0)
unfolding run
defining_runs = refl

-- class C
--   def method_missing(name, x)
--     puts name
--     puts x
--   end
-- end
-- C.new.anything(7)
abbrev pub missing_method : Program
missing_method = program 2
    ((record {
      locals = 1;
      registers = 5;
      code =
          bytes (op.TClass 1 ∷ op.LoadNil 2 ∷ op.Class 1 0 ∷ op.Exec 1 0 ∷ op.GetConst 1 0 ∷ op.Send 1 1 0
          ∷ op.LoadI 2 7 ∷ op.Send 1 2 1 ∷ op.Stop ∷ []);
      catches = [];
      pool = [];
      symbols = codes "C" ∷ codes "new" ∷ codes "anything" ∷ [];
      children = 1 ∷ [];
    })
    ∷ (record {
      locals = 1;
      registers = 4;
      code =
          bytes (op.TClass 1 ∷ op.Def 1 0 0 ∷ op.Return 1 ∷ []);
      catches = [];
      pool = [];
      symbols = codes "method_missing" ∷ [];
      children = 2 ∷ [];
    })
    ∷ (record {
      locals = 4;
      registers = 8;
      code =
          bytes (op.Enter (record no_parameters { required = 2 }) ∷ op.Move 5 1 ∷ op.SSend 4 0 1 ∷ op.Move 5 2
          ∷ op.SSend 4 0 1 ∷ op.Return 4 ∷ []);
      catches = [];
      pool = [];
      symbols = codes "puts" ∷ [];
      children = [];
    })
    ∷ [])

missing_method_runs : machine missing_method [] 200 ≡ Over (Ended (codes "anything\n7\n") 0)
unfolding run
missing_method_runs = refl

-- class Integer
--   def +(other)
--     self * other
--   end
-- end
-- puts 3 + 4
abbrev pub redefined : Program
redefined = program 2
    ((record {
      locals = 1;
      registers = 6;
      code =
          bytes (op.TClass 1 ∷ op.LoadNil 2 ∷ op.Class 1 0 ∷ op.Exec 1 0 ∷ op.LoadI 2 3 ∷ op.LoadI 3 4
          ∷ op.Add 2 ∷ op.SSend 1 1 1 ∷ op.Stop ∷ []);
      catches = [];
      pool = [];
      symbols = codes "Integer" ∷ codes "puts" ∷ [];
      children = 1 ∷ [];
    })
    ∷ (record {
      locals = 1;
      registers = 4;
      code =
          bytes (op.TClass 1 ∷ op.Def 1 0 0 ∷ op.Return 1 ∷ []);
      catches = [];
      pool = [];
      symbols = codes "+" ∷ [];
      children = 2 ∷ [];
    })
    ∷ (record {
      locals = 3;
      registers = 7;
      code =
          bytes (op.Enter (record no_parameters { required = 1 }) ∷ op.LoadSelf 3 ∷ op.Move 4 1 ∷ op.Mul 3
          ∷ op.Return 3 ∷ []);
      catches = [];
      pool = [];
      symbols = [];
      children = [];
    })
    ∷ [])

redefined_runs : machine redefined [] 120 ≡ Over (Ended (codes "12\n") 0)
unfolding run
redefined_runs = refl

-- X = 1
-- module M
--   Y = 2
--   class C
--     def f
--       puts X + Y
--     end
--   end
-- end
-- M::C.new.f
-- puts M::C
abbrev pub constants : Program
constants = program 2
    ((record {
      locals = 1;
      registers = 5;
      code =
          bytes (op.LoadI 1 1 ∷ op.SetConst 1 0 ∷ op.TClass 1 ∷ op.Module 1 1 ∷ op.Exec 1 0 ∷ op.GetConst 1 1
          ∷ op.GetMCnst 1 2 ∷ op.Send 1 3 0 ∷ op.Send 1 4 0 ∷ op.GetConst 2 1 ∷ op.GetMCnst 2 2 ∷ op.SSend 1 5 1
          ∷ op.Stop ∷ []);
      catches = [];
      pool = [];
      symbols = codes "X" ∷ codes "M" ∷ codes "C" ∷ codes "new" ∷ codes "f" ∷ codes "puts" ∷ [];
      children = 1 ∷ [];
    })
    ∷ (record {
      locals = 1;
      registers = 5;
      code =
          bytes (op.LoadI 1 2 ∷ op.SetConst 1 0 ∷ op.TClass 1 ∷ op.LoadNil 2 ∷ op.Class 1 1 ∷ op.Exec 1 0
          ∷ op.Return 1 ∷ []);
      catches = [];
      pool = [];
      symbols = codes "Y" ∷ codes "C" ∷ [];
      children = 2 ∷ [];
    })
    ∷ (record {
      locals = 1;
      registers = 4;
      code =
          bytes (op.TClass 1 ∷ op.Def 1 0 0 ∷ op.Return 1 ∷ []);
      catches = [];
      pool = [];
      symbols = codes "f" ∷ [];
      children = 3 ∷ [];
    })
    ∷ (record {
      locals = 2;
      registers = 7;
      code =
          bytes (op.Enter no_parameters ∷ op.GetConst 3 0 ∷ op.GetConst 4 1 ∷ op.Add 3 ∷ op.SSend 2 2 1
          ∷ op.Return 2 ∷ []);
      catches = [];
      pool = [];
      symbols = codes "X" ∷ codes "Y" ∷ codes "puts" ∷ [];
      children = [];
    })
    ∷ [])

constants_runs : machine constants [] 250 ≡ Over (Ended (codes "3\nM::C\n") 0)
unfolding run
constants_runs = refl

-- class C
--   def self.make
--     new
--   end
--   def old
--     puts "old"
--   end
--   alias fresh old
--   undef old
-- end
-- c = C.make
-- c.fresh
-- begin
--   c.old
-- rescue NoMethodError
--   puts "gone"
-- end
abbrev pub singletons : Program
singletons = program 2
    ((record {
      locals = 2;
      registers = 7;
      code =
          bytes (op.TClass 2 ∷ op.LoadNil 3 ∷ op.Class 2 0 ∷ op.Exec 2 0 ∷ op.GetConst 2 0 ∷ op.Send 2 1 0
          ∷ op.Move 1 2 ∷ op.Move 2 1 ∷ op.Send 2 2 0 ∷ op.Move 2 1 ∷ op.Send 2 3 0 ∷ op.Jmp (pos 30)
          ∷ op.Except 2 ∷ op.GetConst 3 4 ∷ op.Rescue 2 3 ∷ op.JmpIf 3 (pos 3) ∷ op.Jmp (pos 13) ∷ op.String 4 0
          ∷ op.SSend 3 5 1 ∷ op.Move 2 3 ∷ op.Jmp (pos 2) ∷ op.RaiseIf 2 ∷ op.Stop ∷ []);
      catches = (record { rescue = true; begin = 27; end = 34; target = 37 }) ∷ [];
      pool = Text (codes "gone") ∷ [];
      symbols = codes "C" ∷ codes "make" ∷ codes "fresh" ∷ codes "old" ∷ codes "NoMethodError" ∷ codes "puts" ∷ [];
      children = 1 ∷ [];
    })
    ∷ (record {
      locals = 1;
      registers = 4;
      code =
          bytes (op.LoadSelf 1 ∷ op.SClass 1 ∷ op.Def 1 0 0 ∷ op.TClass 1 ∷ op.Def 1 1 1 ∷ op.Alias 2 1
          ∷ op.LoadNil 1 ∷ op.Undef 1 ∷ op.LoadNil 1 ∷ op.Return 1 ∷ []);
      catches = [];
      pool = [];
      symbols = codes "make" ∷ codes "old" ∷ codes "fresh" ∷ [];
      children = 2 ∷ 3 ∷ [];
    })
    ∷ (record {
      locals = 2;
      registers = 5;
      code =
          bytes (op.Enter no_parameters ∷ op.SSend 2 0 254 ∷ op.Return 2 ∷ []);
      catches = [];
      pool = [];
      symbols = codes "new" ∷ [];
      children = [];
    })
    ∷ (record {
      locals = 2;
      registers = 6;
      code =
          bytes (op.Enter no_parameters ∷ op.String 3 0 ∷ op.SSend 2 0 1 ∷ op.Return 2 ∷ []);
      catches = [];
      pool = Text (codes "old") ∷ [];
      symbols = codes "puts" ∷ [];
      children = [];
    })
    ∷ [])

singletons_runs : machine singletons [] 350 ≡ Over (Ended (codes "old\ngone\n") 0)
unfolding run
singletons_runs = refl
