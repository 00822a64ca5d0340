-- Methods that change the methods of a class or module, and their visibility (ISO/IEC 30170:2012, 13.3).
use Rattle.std.specs.Prelude.{List, [], ◌∷◌, if◌then◌else◌, Option, Some, None}
use Rattle.rb_value.specs.declared.value.Value.{Value}
use Rattle.rb_value.specs.declared.value.Value.TheVariants.{Nil, Sym, Obj}
use Rattle.rb_value.specs.declared.value.ObjId.{ObjId}
use Rattle.rb_value.specs.declared.value.SymId.{SymId}
use Rattle.rb_value.specs.declared.method.Method.TheVariants as method
use Rattle.rb_value.specs.declared.method.Visibility.{Visibility}
use Rattle.def_core.specs.declared.cause.Cause.TheVariants as cause
use Rattle.def_core.specs.Classes.{class_at}
use Rattle.def_core.specs.Changes as defined
use Rattle.def_calls.specs.Definitions as definitions
use Rattle.def_calls.specs.World.{World, Answer, answer, give, give_in, with_store}
use Rattle.heap.specs.Operands.{with_space, with_symbol}
use Rattle.heap.specs.Changes.{with_method, with_default, without_method}
use Rattle.rows_object.specs.Follows.{followed, in_turn, named, raise}
use Rattle.rows_class.specs.Names.{names_then}
use Rattle.rows_class.specs.Spaces.{has_own}
use Rattle.rows_class.specs.declared.methods.Taking.{Taking}
use Rattle.rows_class.specs.declared.methods.Taking.TheVariants as taking

-- `define_method`: the block is the method, with the default visibility
abbrev pub define : ObjId → SymId → Option ObjId → World → Answer
define c name None w = raise cause.NoBlockGiven w
define c name (Some block) w = give_in w
    (with_method w.store c name (method.Block block) (class_at w.store.objects c).visibility) (Sym name)

-- `alias_method`: another name of a method that is found, which is given
abbrev pub one_more_name : ObjId → SymId → SymId → World → Answer
one_more_name c alias name = with_space c (with_symbol alias (with_symbol name
    (λ w. definitions.alias_method w c alias name)))

abbrev pub alias_method : ObjId → SymId → Value → World → Answer
alias_method c alias name = named name
    (λ own w. followed (one_more_name c alias own w) (λ v after. give after (Sym alias)))

-- `remove_method` of a name: the class or module has to have it itself
abbrev pub remove : ObjId → SymId → World → Answer
remove c name w = if has_own w.store c name then give_in w (without_method w.store c name) Nil
    else raise (cause.UndefinedInClass name c) w

-- `undef_method` of a name
abbrev pub undefine : ObjId → SymId → World → Answer
undefine c name = with_space c (with_symbol name (λ w. definitions.undefine_method w c name))

abbrev pub take_one : Taking → ObjId → SymId → World → Answer
take_one taking.Removed c name w = remove c name w
take_one taking.Undefined c name w = undefine c name w

abbrev pub take_all : Taking → ObjId → List SymId → World → Answer
take_all how c names = in_turn (take_one how c) names (λ w. give w (Obj c))

abbrev pub take_away : Taking → ObjId → List Value → World → Answer
take_away how c args = names_then args (take_all how c)

-- `public`, `private` and `protected` with names: the visibility of each
unfoldable pub show : Visibility → ObjId → SymId → World → Answer
show v c name = with_space c (with_symbol name (λ w. answer w (defined.set_visibility w.store c name v)))

abbrev pub show_all : Visibility → ObjId → List SymId → World → Answer
show_all v c names = in_turn (show v c) names (λ w. give w Nil)

-- without names: that of the next methods
abbrev pub set_visibility : Visibility → ObjId → List Value → World → Answer
set_visibility v c [] w = give_in w (with_default w.store c v) Nil
set_visibility v c (arg ∷ args) w = names_then (arg ∷ args) (show_all v c) w
