-- The exceptions that the language itself raises: the class, the text and the detail of each.
use Rattle.std.specs.Prelude.{ℕ, ℤ, pos, ◌++◌, List, [], ◌∷◌, codes, Option, Some, None, nat_eq, if◌then◌else◌}
use Rattle.std.specs.Fmt.{decimal, signed_decimal}
use Rattle.rb_value.specs.declared.value.Value.{Value}
use Rattle.rb_value.specs.declared.value.Value.TheVariants.{Nil, Int, Sym}
use Rattle.rb_value.specs.declared.value.ObjId.{ObjId}
use Rattle.rb_value.specs.declared.value.SymId.{SymId}
use Rattle.rb_value.specs.Object.{Object}
use Rattle.rb_value.specs.declared.kind.ClassForm.{ClassForm}
use Rattle.rb_value.specs.declared.kind.ClassForm.TheVariants as form
use Rattle.rb_value.specs.declared.kind.Kind.{Kind}
use Rattle.rb_value.specs.declared.kind.Kind.TheVariants as kind
use Rattle.rb_value.specs.declared.core_class.CoreClass.{CoreClass}
use Rattle.rb_value.specs.declared.core_class.CoreClass.TheVariants as class
use Rattle.def_core.specs.declared.cause.Cause.{Cause}
use Rattle.def_core.specs.declared.cause.Cause.TheVariants as cause
use Rattle.def_core.specs.Store.{Store, name_at, object_at}
use Rattle.def_core.specs.Classes.{class_at}

-- what is shown of a class or module without a name
abbrev pub anonymous : ClassForm → List ℕ
anonymous form.Class = codes "#<Class>"
anonymous form.Singleton = codes "#<Class>"
anonymous form.Module = codes "#<Module>"

abbrev pub shown : Store → ClassForm → Option SymId → List ℕ
shown st f None = anonymous f
shown st f (Some s) = name_at st s

-- what texts show of a class or module
unfoldable pub class_name : Store → ObjId → List ℕ
class_name st c = shown st (class_at st.objects c).form (class_at st.objects c).name

-- the bytes of a String
abbrev pub bytes_of : Kind → List ℕ
bytes_of kind.Plain = []
bytes_of (kind.Class c) = []
bytes_of (kind.String s) = s
bytes_of (kind.Array a) = []
bytes_of (kind.Hash h) = []
bytes_of (kind.Range r) = []
bytes_of (kind.Proc p) = []
bytes_of (kind.CoreProc r k) = []
bytes_of (kind.Fiber b e) = []
bytes_of (kind.Exception m d) = []
bytes_of (kind.Enumerator e) = []
bytes_of (kind.Yielder b) = []

abbrev pub bytes_at : List Object → ObjId → List ℕ
bytes_at objects id = bytes_of (object_at objects id).kind

-- a text with a name and a class
abbrev pub about : List ℕ → Store → SymId → List ℕ → ObjId → List ℕ
about before st s between c = before ++ name_at st s ++ between ++ class_name st c

abbrev pub scope_text : Store → Option ObjId → List ℕ
scope_text st None = []
scope_text st (Some c) = class_name st c ++ codes "::"

-- n, n+ or n..m
abbrev pub expected_text : ℕ → Option ℕ → List ℕ
expected_text n None = decimal n ++ codes "+"
expected_text n (Some m) = if nat_eq n m then decimal n else (decimal n ++ codes ".." ++ decimal m)

unfoldable pub text_of : Store → Cause → List ℕ
text_of st (cause.UndefinedMethod s c) = about (codes "undefined method '") st s (codes "' for ") c
text_of st (cause.PrivateMethod s c) = about (codes "private method '") st s (codes "' called for ") c
text_of st (cause.ProtectedMethod s c) = about (codes "protected method '") st s (codes "' called for ") c
text_of st (cause.NoSuperMethod s c) = about (codes "super: no superclass method '") st s (codes "' for ") c
text_of st cause.SuperOutside = codes "super called outside of method"
text_of st (cause.UndefinedName s c) = about (codes "undefined local variable or method '") st s (codes "' for ") c
text_of st (cause.UninitializedConstant o s) = codes "uninitialized constant " ++ scope_text st o ++ name_at st s
text_of st (cause.UndefinedInClass s c) = about (codes "undefined method '") st s (codes "' for class '") c ++ codes "'"
text_of st (cause.WrongCount g n m) = codes "wrong number of arguments (given " ++ decimal g ++ codes ", expected "
    ++ expected_text n m ++ codes ")"
text_of st cause.NegativeExponent = codes "negative exponent"
text_of st cause.NoBlockGiven = codes "no block given"
text_of st (cause.Incomparable c d) = codes "comparison of " ++ class_name st c ++ codes " with " ++ class_name st d
    ++ codes " failed"
text_of st cause.ComparisonFailed = codes "comparison failed"
text_of st cause.BadRange = codes "bad value for range"
text_of st cause.InvalidInteger = codes "invalid value for Integer"
text_of st cause.StatusOutOfRange = codes "status out of range"
text_of st cause.ArrayTooBig = codes "array size too big"
text_of st cause.NegativeCount = codes "negative count"
text_of st cause.BadBase = codes "bad base"
text_of st cause.TooFewItems = codes "too few items"
text_of st (cause.Expected c d) = codes "expected " ++ class_name st c ++ codes ", got " ++ class_name st d
text_of st (cause.WrongValue s) = codes "wrong value for " ++ name_at st s
text_of st cause.RescueNotClass = codes "class or module required for rescue clause"
text_of st cause.NotException = codes "exception class or object expected"
text_of st (cause.SuperclassMismatch s) = codes "superclass mismatch for class " ++ name_at st s
text_of st cause.SuperclassNotClass = codes "superclass must be a Class"
text_of st (cause.NotClass s) = name_at st s ++ codes " is not a class"
text_of st (cause.NotModule s) = name_at st s ++ codes " is not a module"
text_of st cause.NoSingleton = codes "can't define singleton"
text_of st cause.NoVariable = codes "can't set instance variable"
text_of st (cause.IndexOutOfRange i) = codes "index " ++ signed_decimal i ++ codes " out of range"
text_of st (cause.KeyNotFound k) = codes "key not found: " ++ bytes_at st.objects k
text_of st cause.IntegerOverflow = codes "integer overflow"
text_of st cause.StringTooLong = codes "string too long"
text_of st (cause.CharOutOfRange i) = signed_decimal i ++ codes " out of char range"
text_of st cause.DividedByZero = codes "divided by 0"
text_of st cause.UnexpectedReturn = codes "unexpected return"
text_of st cause.BreakFromProc = codes "break from proc-closure"
text_of st cause.NoBlockToYield = codes "no block given (yield)"
text_of st cause.DeadFiber = codes "dead fiber called"
text_of st cause.DoubleResume = codes "double resume"
text_of st cause.RootYield = codes "can't yield from root fiber"
text_of st (cause.IterationEnd v) = codes "iteration reached an end"
text_of st cause.StackTooDeep = codes "stack level too deep"
text_of st (cause.Exit n) = codes "exit"
text_of st cause.Unhandled = codes "unhandled exception"

abbrev pub class_of : Cause → CoreClass
class_of (cause.UndefinedMethod s c) = class.NoMethodError
class_of (cause.PrivateMethod s c) = class.NoMethodError
class_of (cause.ProtectedMethod s c) = class.NoMethodError
class_of (cause.NoSuperMethod s c) = class.NoMethodError
class_of cause.SuperOutside = class.NoMethodError
class_of (cause.UndefinedName s c) = class.NameError
class_of (cause.UninitializedConstant o s) = class.NameError
class_of (cause.UndefinedInClass s c) = class.NameError
class_of (cause.WrongCount g n m) = class.ArgumentError
class_of cause.NegativeExponent = class.ArgumentError
class_of cause.NoBlockGiven = class.ArgumentError
class_of (cause.Incomparable c d) = class.ArgumentError
class_of cause.ComparisonFailed = class.ArgumentError
class_of cause.BadRange = class.ArgumentError
class_of cause.InvalidInteger = class.ArgumentError
class_of cause.StatusOutOfRange = class.ArgumentError
class_of cause.ArrayTooBig = class.ArgumentError
class_of cause.NegativeCount = class.ArgumentError
class_of cause.BadBase = class.ArgumentError
class_of cause.TooFewItems = class.ArgumentError
class_of (cause.Expected c d) = class.TypeError
class_of (cause.WrongValue s) = class.TypeError
class_of cause.RescueNotClass = class.TypeError
class_of cause.NotException = class.TypeError
class_of (cause.SuperclassMismatch s) = class.TypeError
class_of cause.SuperclassNotClass = class.TypeError
class_of (cause.NotClass s) = class.TypeError
class_of (cause.NotModule s) = class.TypeError
class_of cause.NoSingleton = class.TypeError
class_of cause.NoVariable = class.TypeError
class_of (cause.IndexOutOfRange i) = class.IndexError
class_of (cause.KeyNotFound k) = class.KeyError
class_of cause.IntegerOverflow = class.RangeError
class_of cause.StringTooLong = class.RangeError
class_of (cause.CharOutOfRange i) = class.RangeError
class_of cause.DividedByZero = class.ZeroDivisionError
class_of cause.UnexpectedReturn = class.LocalJumpError
class_of cause.BreakFromProc = class.LocalJumpError
class_of cause.NoBlockToYield = class.LocalJumpError
class_of cause.DeadFiber = class.FiberError
class_of cause.DoubleResume = class.FiberError
class_of cause.RootYield = class.FiberError
class_of (cause.IterationEnd v) = class.StopIteration
class_of cause.StackTooDeep = class.SystemStackError
class_of (cause.Exit n) = class.SystemExit
class_of cause.Unhandled = class.RuntimeError

abbrev pub detail_of : Cause → Value
detail_of (cause.UndefinedMethod s c) = Sym s
detail_of (cause.PrivateMethod s c) = Sym s
detail_of (cause.ProtectedMethod s c) = Sym s
detail_of (cause.NoSuperMethod s c) = Sym s
detail_of cause.SuperOutside = Nil
detail_of (cause.UndefinedName s c) = Sym s
detail_of (cause.UninitializedConstant o s) = Sym s
detail_of (cause.UndefinedInClass s c) = Sym s
detail_of (cause.WrongCount g n m) = Nil
detail_of cause.NegativeExponent = Nil
detail_of cause.NoBlockGiven = Nil
detail_of (cause.Incomparable c d) = Nil
detail_of cause.ComparisonFailed = Nil
detail_of cause.BadRange = Nil
detail_of cause.InvalidInteger = Nil
detail_of cause.StatusOutOfRange = Nil
detail_of cause.ArrayTooBig = Nil
detail_of cause.NegativeCount = Nil
detail_of cause.BadBase = Nil
detail_of cause.TooFewItems = Nil
detail_of (cause.Expected c d) = Nil
detail_of (cause.WrongValue s) = Nil
detail_of cause.RescueNotClass = Nil
detail_of cause.NotException = Nil
detail_of (cause.SuperclassMismatch s) = Nil
detail_of cause.SuperclassNotClass = Nil
detail_of (cause.NotClass s) = Nil
detail_of (cause.NotModule s) = Nil
detail_of cause.NoSingleton = Nil
detail_of cause.NoVariable = Nil
detail_of (cause.IndexOutOfRange i) = Nil
detail_of (cause.KeyNotFound k) = Nil
detail_of cause.IntegerOverflow = Nil
detail_of cause.StringTooLong = Nil
detail_of (cause.CharOutOfRange i) = Nil
detail_of cause.DividedByZero = Nil
detail_of cause.UnexpectedReturn = Nil
detail_of cause.BreakFromProc = Nil
detail_of cause.NoBlockToYield = Nil
detail_of cause.DeadFiber = Nil
detail_of cause.DoubleResume = Nil
detail_of cause.RootYield = Nil
detail_of (cause.IterationEnd v) = v
detail_of cause.StackTooDeep = Nil
detail_of (cause.Exit n) = Int (pos n)
detail_of cause.Unhandled = Nil
