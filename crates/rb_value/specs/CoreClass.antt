-- The table of the core classes: number, name, superclass, and which are modules.
use Rattle.std.specs.Prelude.{ℕ, List, [], ◌∷◌, codes, Option, Some, None, Bool, true, false}
use Rattle.rb_value.specs.declared.core_class.CoreClass.{CoreClass}
use Rattle.rb_value.specs.declared.core_class.CoreClass.TheVariants as core

pub record Row : Type 0 where
  pub number : ℕ
  pub name : List ℕ
  pub superclass : Option CoreClass
  pub is_module : Bool

-- the number is the place in every store
abbrev pub row_of : CoreClass → Row
row_of core.Object = record { number = 0; name = codes "Object"; superclass = None; is_module = false }
row_of core.Kernel = record { number = 1; name = codes "Kernel"; superclass = None; is_module = true }
row_of core.Module = record { number = 2; name = codes "Module"; superclass = Some core.Object; is_module = false }
row_of core.Class = record { number = 3; name = codes "Class"; superclass = Some core.Module; is_module = false }
row_of core.Comparable = record { number = 4; name = codes "Comparable"; superclass = None; is_module = true }
row_of core.Enumerable = record { number = 5; name = codes "Enumerable"; superclass = None; is_module = true }
row_of core.Numeric = record { number = 6; name = codes "Numeric"; superclass = Some core.Object; is_module = false }
row_of core.Integer = record { number = 7; name = codes "Integer"; superclass = Some core.Numeric; is_module = false }
row_of core.NilClass = record { number = 8; name = codes "NilClass"; superclass = Some core.Object; is_module = false }
row_of core.TrueClass = record {
  number = 9;
  name = codes "TrueClass";
  superclass = Some core.Object;
  is_module =
      false;
}
row_of core.FalseClass = record {
  number = 10;
  name = codes "FalseClass";
  superclass = Some core.Object;
  is_module =
      false;
}
row_of core.String = record { number = 11; name = codes "String"; superclass = Some core.Object; is_module = false }
row_of core.Symbol = record { number = 12; name = codes "Symbol"; superclass = Some core.Object; is_module = false }
row_of core.Array = record { number = 13; name = codes "Array"; superclass = Some core.Object; is_module = false }
row_of core.Hash = record { number = 14; name = codes "Hash"; superclass = Some core.Object; is_module = false }
row_of core.Range = record { number = 15; name = codes "Range"; superclass = Some core.Object; is_module = false }
row_of core.Proc = record { number = 16; name = codes "Proc"; superclass = Some core.Object; is_module = false }
row_of core.Fiber = record { number = 17; name = codes "Fiber"; superclass = Some core.Object; is_module = false }
row_of core.Enumerator = record {
  number = 18;
  name = codes "Enumerator";
  superclass = Some core.Object;
  is_module =
      false;
}
row_of core.Yielder = record {
  number = 19;
  name = codes "Enumerator::Yielder";
  superclass = Some core.Object;
  is_module = false;
}
row_of core.Exception = record {
  number = 20;
  name = codes "Exception";
  superclass = Some core.Object;
  is_module =
      false;
}
row_of core.ScriptError = record {
  number = 21;
  name = codes "ScriptError";
  superclass = Some core.Exception;
  is_module = false;
}
row_of core.NotImplementedError = record {
  number = 22;
  name = codes "NotImplementedError";
  superclass =
      Some core.ScriptError;
  is_module = false;
}
row_of core.SystemExit = record {
  number = 23;
  name = codes "SystemExit";
  superclass = Some core.Exception;
  is_module =
      false;
}
row_of core.SystemStackError = record {
  number = 24;
  name = codes "SystemStackError";
  superclass = Some core.Exception;
  is_module = false;
}
row_of core.StandardError = record {
  number = 25;
  name = codes "StandardError";
  superclass = Some core.Exception;
  is_module = false;
}
row_of core.ArgumentError = record {
  number = 26;
  name = codes "ArgumentError";
  superclass = Some core.StandardError;
  is_module = false;
}
row_of core.FiberError = record {
  number = 27;
  name = codes "FiberError";
  superclass = Some core.StandardError;
  is_module = false;
}
row_of core.IndexError = record {
  number = 28;
  name = codes "IndexError";
  superclass = Some core.StandardError;
  is_module = false;
}
row_of core.KeyError = record {
  number = 29;
  name = codes "KeyError";
  superclass = Some core.IndexError;
  is_module =
      false;
}
row_of core.StopIteration = record {
  number = 30;
  name = codes "StopIteration";
  superclass = Some core.IndexError;
  is_module = false;
}
row_of core.LocalJumpError = record {
  number = 31;
  name = codes "LocalJumpError";
  superclass = Some core.StandardError;
  is_module = false;
}
row_of core.NameError = record {
  number = 32;
  name = codes "NameError";
  superclass = Some core.StandardError;
  is_module = false;
}
row_of core.NoMethodError = record {
  number = 33;
  name = codes "NoMethodError";
  superclass = Some core.NameError;
  is_module = false;
}
row_of core.RangeError = record {
  number = 34;
  name = codes "RangeError";
  superclass = Some core.StandardError;
  is_module = false;
}
row_of core.RuntimeError = record {
  number = 35;
  name = codes "RuntimeError";
  superclass = Some core.StandardError;
  is_module = false;
}
row_of core.TypeError = record {
  number = 36;
  name = codes "TypeError";
  superclass = Some core.StandardError;
  is_module = false;
}
row_of core.ZeroDivisionError = record {
  number = 37;
  name = codes "ZeroDivisionError";
  superclass =
      Some core.StandardError;
  is_module = false;
}

abbrev pub number_of : CoreClass → ℕ
number_of c = (row_of c).number

abbrev pub name_of : CoreClass → List ℕ
name_of c = (row_of c).name

abbrev pub superclass_of : CoreClass → Option CoreClass
superclass_of c = (row_of c).superclass

abbrev pub is_module : CoreClass → Bool
is_module c = (row_of c).is_module

-- in the order of the numbers
unfoldable pub core_classes : List CoreClass
core_classes = core.Object ∷ core.Kernel ∷ core.Module ∷ core.Class ∷ core.Comparable ∷ core.Enumerable ∷ core.Numeric ∷
    core.Integer ∷ core.NilClass ∷ core.TrueClass ∷ core.FalseClass ∷ core.String ∷ core.Symbol ∷ core.Array ∷ core.Hash
    ∷ core.Range ∷ core.Proc ∷ core.Fiber ∷ core.Enumerator ∷ core.Yielder ∷ core.Exception ∷ core.ScriptError ∷
    core.NotImplementedError ∷ core.SystemExit ∷ core.SystemStackError ∷ core.StandardError ∷ core.ArgumentError ∷
    core.FiberError ∷ core.IndexError ∷ core.KeyError ∷ core.StopIteration ∷ core.LocalJumpError ∷ core.NameError ∷
    core.NoMethodError ∷ core.RangeError ∷ core.RuntimeError ∷ core.TypeError ∷ core.ZeroDivisionError ∷ []
