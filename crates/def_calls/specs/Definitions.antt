-- What defines methods, classes and modules (ISO/IEC 30170:2012, 13.1 to 13.4), and what `defined?` tells
-- (11.4.3.2).
use Rattle.std.specs.Prelude.{ℕ, List, ◌∷◌, Bool, true, false, codes, if◌then◌else◌, Option, Some, None, is_some}
use Rattle.std.specs.Map.{lookup}
use Rattle.std.specs.Prelude.{nat_eq}
use Rattle.rb_value.specs.declared.value.Value.{Value}
use Rattle.rb_value.specs.declared.value.Value.TheVariants.{Nil, Sym}
use Rattle.rb_value.specs.declared.value.ObjId.{ObjId}
use Rattle.rb_value.specs.declared.value.SymId.{SymId}
use Rattle.rb_value.specs.declared.method.Method.TheVariants as method
use Rattle.rb_value.specs.declared.method.Visibility.TheVariants.{Public}
use Rattle.rb_value.specs.Object.{Object}
use Rattle.rb_value.specs.Variables.{variable_of}
use Rattle.def_core.specs.declared.cause.Cause.TheVariants as cause
use Rattle.def_core.specs.declared.found.Found.{Found}
use Rattle.def_core.specs.Classes.{class_at, class_of}
use Rattle.def_core.specs.Find.{find, find_super, allowed}
use Rattle.def_core.specs.Changes.{singleton, define_class, define_module, with_method, with_default, object_of_sort}
use Rattle.def_rows.specs.Answers.{text_object}
use Rattle.def_calls.specs.World.{World, Answer, Activation, answer, give, give_in, make, fail, with_store}
use Rattle.def_calls.specs.Constants.{is_space_sort, find_constant, constant_within}
use Rattle.def_calls.specs.Values.{wrong_value, variables_of}

-- a class or module among objects
abbrev pub space_in : List Object → Value → Option ObjId
space_in objects v = object_of_sort is_space_sort objects v

-- Method definitions (13.3.1): the method is a body of the program, with the list of classes around its text, and takes the default of its class;
-- the name is the value
unfoldable pub define_method : World → ObjId → SymId → ℕ → ℕ → Answer
define_method w c name body classes =
    give_in w
    (with_method w.store c name (method.Body body classes) (class_at w.store.objects c).visibility) (Sym name)

-- the class is wanted by an instruction of that name
abbrev pub with_space : World → List ℕ → Value → Option ObjId → (ObjId → Answer) → Answer
with_space w instruction v None next = wrong_value w instruction
with_space w instruction v (Some c) next = next c

-- the singleton class of a value (13.4)
unfoldable pub singleton_class : World → Value → Answer
singleton_class w v = answer w (singleton w.store v)

-- a class of that name in the scope under a parent (13.2.2), and a module (13.1.2)
unfoldable pub open_class : World → Value → SymId → Value → Answer
open_class w scope name parent = with_space w (codes "CLASS") scope (space_in w.store.objects scope)
    (λ c. answer w (define_class w.store c name parent))

unfoldable pub open_module : World → Value → SymId → Answer
open_module w scope name = with_space w (codes "MODULE") scope (space_in w.store.objects scope)
    (λ c. answer w (define_module w.store c name))

-- the default visibility of the class (13.3.5) is public where a body of it begins and where it ends
abbrev pub with_public_default : World → ObjId → World
with_public_default w c = with_store w (record w.store { objects = with_default w.store.objects c Public })

-- another name of a method that is found keeps its visibility (13.3.6)
abbrev pub alias_found : World → ObjId → SymId → SymId → Option Found → Answer
alias_found w c new old None = fail w (cause.UndefinedInClass old c)
alias_found w c new old (Some f) = give_in w (with_method w.store c new f.method f.visibility) Nil

unfoldable pub alias_method : World → ObjId → SymId → SymId → Answer
alias_method w c new old = alias_found w c new old (find w.store.objects c old)

-- the search for a method that was undefined ends here (13.3.7)
abbrev pub undefine_found : World → ObjId → SymId → Option Found → Answer
undefine_found w c name None = fail w (cause.UndefinedInClass name c)
undefine_found w c name (Some f) = give_in w (with_method w.store c name method.Undefined f.visibility) Nil

unfoldable pub undefine_method : World → ObjId → SymId → Answer
undefine_method w c name = undefine_found w c name (find w.store.objects c name)

-- What `defined?` tells (11.4.3.2): a text, or nil of what is absent.

abbrev pub text_if : World → List ℕ → Bool → Answer
text_if w text true = make w (text_object text)
text_if w text false = give w Nil

abbrev pub is_allowed : World → Value → Value → Option Found → Bool
is_allowed w caller receiver None = false
is_allowed w caller receiver (Some f) = allowed w.store.objects caller receiver f

unfoldable pub has_method : World → Value → Value → SymId → Bool
has_method w caller receiver name =
    is_allowed w caller receiver (find w.store.objects (class_of w.store.objects receiver) name)

abbrev pub constant_there : World → SymId → Option ObjId → Bool
constant_there w name None = false
constant_there w name (Some c) = is_some (constant_within w c name)

abbrev pub super_of : World → Value → Option ObjId → Option SymId → Option Found
super_of w self None name = None
super_of w self (Some owner) None = None
super_of w self (Some owner) (Some name) = find_super w.store.objects (class_of w.store.objects self) owner name

unfoldable pub instance_variable_told : World → Value → SymId → Answer
instance_variable_told w self name = text_if w (codes "instance-variable")
    (is_some (variable_of (variables_of w.store.objects self) name))

unfoldable pub global_told : World → SymId → Answer
global_told w name = text_if w (codes "global-variable") (is_some (lookup (nat_eq name.0) w.globals))

unfoldable pub constant_told : World → ℕ → SymId → Answer
constant_told w classes name = text_if w (codes "constant") (is_some (find_constant w classes name))

unfoldable pub constant_in_told : World → Value → SymId → Answer
constant_in_told w v name = text_if w (codes "constant") (constant_there w name (space_in w.store.objects v))

unfoldable pub method_told : World → Value → Value → SymId → Answer
method_told w caller receiver name = text_if w (codes "method") (has_method w caller receiver name)

unfoldable pub yield_told : World → Activation → Answer
yield_told w a = text_if w (codes "yield") (is_some a.block)

unfoldable pub super_told : World → Activation → Answer
super_told w a = text_if w (codes "super") (is_some (super_of w a.self a.owner a.name))
