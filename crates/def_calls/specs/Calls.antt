-- What a call does, by what is found (ISO/IEC 30170:2012, 11.3 and 13.3).
use Rattle.std.specs.Prelude.{ℕ, ℤ, pos, negsuc, ◌+◌, ◌-◌, ◌^◌, List, [], ◌∷◌, ◌++◌, length, get_or, take, drop, codes, nat_eq, nat_lt, Bool, true, false, not, ◌&&◌, ◌||◌, if◌then◌else◌, Option, Some, None, is_some}
use Rattle.rb_value.specs.declared.value.Value.{Value}
use Rattle.rb_value.specs.declared.value.Value.TheVariants.{Nil, True, False, Int, Sym, Obj}
use Rattle.rb_value.specs.declared.value.ObjId.{ObjId}
use Rattle.rb_value.specs.declared.value.SymId.{SymId}
use Rattle.rb_value.specs.declared.method.Method.{Method}
use Rattle.rb_value.specs.declared.method.Method.TheVariants as method
use Rattle.rb_value.specs.declared.method.Visibility.{Visibility}
use Rattle.rb_value.specs.declared.method.Visibility.TheVariants.{Public, Private, Protected}
use Rattle.rb_value.specs.declared.procs.ProcContents.{ProcContents}
use Rattle.rb_value.specs.declared.kind.Kind.TheVariants as kind
use Rattle.rb_value.specs.declared.core_class.CoreClass.TheVariants as class
use Rattle.def_core.specs.declared.bound.BindKind.{BindKind}
use Rattle.def_core.specs.declared.bound.BindKind.TheVariants as bind
use Rattle.def_core.specs.declared.cause.Cause.{Cause}
use Rattle.def_core.specs.declared.cause.Cause.TheVariants as cause
use Rattle.def_core.specs.declared.found.Found.{Found}
use Rattle.rb_value.specs.Value.{truth}
use Rattle.rb_value.specs.Sending as sending
use Rattle.def_core.specs.Store.{Store, core, fresh, name_at, next_number, with_object}
use Rattle.def_core.specs.Parts.{with_objects, with_sent}
use Rattle.def_core.specs.Classes.{class_of, plain_class_of, chain, lineage, is_member}
use Rattle.def_core.specs.Texts.{class_name}
use Rattle.def_core.specs.Find.{find, allowed}
use Rattle.def_core.specs.Changes.{intern, Interned}
use Rattle.def_rows.specs.Answers.{items_object, text_object}
use Rattle.def_rows.specs.Rows.{prim}
use Rattle.def_calls.specs.World.{World, Answer, Runs, main_program, method_body, block_body, lambda_body, class_body, core_method, Activation, answer, give, make, fail, activation_at, next_activation, next_classes, with_activation, with_enclosing, with_store}
use Rattle.def_calls.specs.Views.{Callable, by_body, by_row, object_in, integer_in, present, kind_in, string_of, callable_of, message_of, detail_of}
use Rattle.def_calls.specs.Values.{wrong_value, instance_variable, set_instance_variable, text_of_value}
use Rattle.def_calls.specs.Definitions.{super_of, space_in, with_public_default}
use Rattle.def_calls.specs.Rows.{row_at, method_missing_row, send_kept_row}
use Rattle.def_calls.specs.Rows
use Rattle.rb_store.specs.Opening.{with_names, main_object}
use Rattle.def_calls.specs.Plain.{outright}
use Rattle.def_calls.specs.Plans.{Iteration, begun, line_length}

-- A body to enter: its number, the scopes around it, the activation that is opened, what it is given, and how its
-- arguments are bound.
pub record Opening : Type 0 where
  pub body : ℕ
  pub scopes : List ℕ
  pub activation : Activation
  pub arguments : List Value
  pub block : Option ObjId
  pub binds : BindKind

-- What a call enters.
pub data Entry : Type 0 where
  -- nothing: its outcome is there at once
  answers : Answer → Entry
  enters : Opening → World → Entry
  begins : Iteration → Activation → World → Entry

-- how a call names what it calls: a method, a name alone, the Proc itself, or the method above the running one
pub data Sending : Type 0 where
  by_name : SymId → Sending
  by_bare_name : SymId → Sending
  to_proc : Sending
  to_super : Sending

abbrev pub core_activation : World → Value → Activation
core_activation w recv = record {
  runs = core_method;
  self = recv;
  owner = None;
  name = None;
  home = next_activation w;
  classes = 0;
  block = None;
}

abbrev pub enter_kind : World → ℕ → Rows.Row → Value → List Value → Option ObjId → Entry
enter_kind w r Rows.of_table recv args block = answers (answer w (prim r recv args block w.store))
enter_kind w r (Rows.outright p) recv args block = answers (answer w (outright p w.store recv args block))
enter_kind w r (Rows.iterates s) recv args block = begins (begun s recv args block) (core_activation w recv) w

-- a core method
abbrev pub enter_row : World → ℕ → Value → List Value → Option ObjId → Entry
enter_row w r recv args block = enter_kind w r (row_at r) recv args block

-- Procs (15.2.17.4.3, 11.3.3 and 11.3.5).

abbrev pub proc_runs : Bool → ObjId → Runs
proc_runs true p = lambda_body
proc_runs false p = block_body p

abbrev pub proc_binds : Bool → BindKind
proc_binds true = bind.Lambda
proc_binds false = bind.Proc

abbrev pub proc_home : Bool → World → ℕ → ℕ
proc_home true w home = next_activation w
proc_home false w home = home

abbrev pub proc_activation : World → ObjId → ProcContents → Activation
proc_activation w p c = record {
  runs = proc_runs c.lambda p;
  self = c.receiver;
  owner = c.owner;
  name = c.name;
  home = proc_home c.lambda w c.home;
  classes = c.classes;
  block = c.block;
}

abbrev pub enter_callable : World → ObjId → List Value → Option ObjId → Option Callable → Entry
enter_callable w p args block None = answers (wrong_value w (codes "CALL"))
enter_callable w p args block (Some (by_row r v)) = enter_row w r v args block
enter_callable w p args block (Some (by_body c)) = enters (record {
  body = c.code;
  scopes = c.scopes;
  activation = proc_activation w p c;
  arguments = args;
  block = block;
  binds = proc_binds c.lambda;
}) w

unfoldable pub enter_proc : World → ObjId → List Value → Option ObjId → Entry
enter_proc w p args block = enter_callable w p args block (callable_of (kind_in w.store.objects (Obj p)))

-- a block that was made a method: it has the receiver as self, and return and break end it
abbrev pub as_method : World → Value → ProcContents → Activation
as_method w recv c = record {
  runs = lambda_body;
  self = recv;
  owner = c.owner;
  name = c.name;
  home = next_activation w;
  classes = c.classes;
  block = c.block;
}

abbrev pub enter_block : World → Value → List Value → Option ObjId → Option Callable → Entry
enter_block w recv args block None = answers (wrong_value w (codes "CALL"))
enter_block w recv args block (Some (by_row r v)) = enter_row w r v args block
enter_block w recv args block (Some (by_body c)) = enters (record {
  body = c.code;
  scopes = c.scopes;
  activation = as_method w recv c;
  arguments = args;
  block = block;
  binds = bind.Lambda;
}) w

-- Methods (13.3.3).

abbrev pub method_activation : World → ObjId → SymId → ℕ → Value → Option ObjId → Activation
method_activation w owner name classes recv block = record {
  runs = method_body;
  self = recv;
  owner = Some owner;
  name = Some name;
  home = next_activation w;
  classes = classes;
  block = block;
}

abbrev pub counted : World → ℕ → List Value → Answer → Answer
counted w n args a = if nat_eq (length args) n then a else fail w (cause.WrongCount (length args) n (Some n))

unfoldable pub enter_method : World → ObjId → SymId → Method → Value → List Value → Option ObjId → Entry
enter_method w owner name (method.Body b classes) recv args block = enters (record {
  body = b;
  scopes = [];
  activation = method_activation w owner name classes recv block;
  arguments = args;
  block = block;
  binds = bind.Method;
}) w
enter_method w owner name (method.Core r) recv args block = enter_row w r recv args block
enter_method w owner name (method.Reader n) recv args block =
    answers (counted w 0 args (give w (instance_variable w recv n)))
enter_method w owner name (method.Writer n) recv args block =
    answers (counted w 1 args (set_instance_variable w recv n (get_or args 0 Nil)))
enter_method w owner name (method.Block p) recv args block =
    enter_block w recv args block (callable_of (kind_in w.store.objects (Obj p)))
enter_method w owner name method.Undefined recv args block =
    answers (fail w (cause.UndefinedMethod name (plain_class_of w.store.objects recv)))

abbrev pub enter_found : World → SymId → Found → Value → List Value → Option ObjId → Entry
enter_found w name f recv args block = enter_method w f.owner name f.method recv args block

-- Where nothing is found, or what is found isn't allowed: method_missing (13.3.4), and where that is the core method
-- the exception of the cause.

-- The name goes before the arguments. The method that runs then was called by the name `method_missing`.
abbrev pub enter_missing : World → SymId → Cause → SymId → Found → Value → List Value → Option ObjId → Method → Entry
enter_missing w name c called f recv args block (method.Core r) =
    if nat_eq r method_missing_row then answers (fail w c) else enter_row w r recv (Sym name ∷ args) block
enter_missing w name c called f recv args block (method.Body b s) =
    enter_found w called f recv (Sym name ∷ args) block
enter_missing w name c called f recv args block (method.Reader n) =
    enter_found w called f recv (Sym name ∷ args) block
enter_missing w name c called f recv args block (method.Writer n) =
    enter_found w called f recv (Sym name ∷ args) block
enter_missing w name c called f recv args block (method.Block p) =
    enter_found w called f recv (Sym name ∷ args) block
enter_missing w name c called f recv args block method.Undefined = answers (fail w c)

abbrev pub missing_by : World → SymId → Cause → SymId → Value → List Value → Option ObjId → Option Found → Entry
missing_by w name c called recv args block None = answers (fail w c)
missing_by w name c called recv args block (Some f) = enter_missing w name c called f recv args block f.method

abbrev pub missing_named : World → SymId → Cause → Value → List Value → Option ObjId → Interned → Entry
missing_named w name c recv args block named =
    missing_by (with_store w named.store) name c named.symbol recv args block
    (find named.store.objects (class_of named.store.objects recv) named.symbol)

unfoldable pub missing : World → SymId → Cause → Value → List Value → Option ObjId → Entry
missing w name c recv args block =
    missing_named w name c recv args block (intern w.store (codes "method_missing"))

-- why a method that is found isn't allowed (13.3.5)
abbrev pub forbidden : Visibility → SymId → ObjId → Cause
forbidden Public name c = cause.UndefinedMethod name c
forbidden Private name c = cause.PrivateMethod name c
forbidden Protected name c = cause.ProtectedMethod name c

abbrev pub enter_allowed : World → Value → SymId → Cause → Value → List Value → Option ObjId → Option Found → Entry
enter_allowed w caller name c recv args block None = missing w name c recv args block
enter_allowed w caller name c recv args block (Some f) =
    if allowed w.store.objects caller recv f then enter_found w name f recv args block
    else missing w name (forbidden f.visibility name (plain_class_of w.store.objects recv)) recv args block

abbrev pub find_for : World → Value → SymId → Option Found
find_for w recv name = find w.store.objects (class_of w.store.objects recv) name

-- a call of a core method's own isn't checked, but for that of public_send
abbrev pub enter_unchecked : World → SymId → Value → List Value → Option ObjId → Option Found → Entry
enter_unchecked w name recv args block None =
    missing w name (cause.UndefinedMethod name (plain_class_of w.store.objects recv)) recv args block
enter_unchecked w name recv args block (Some f) = enter_found w name f recv args block

abbrev pub is_public : Visibility → Bool
is_public Public = true
is_public Private = false
is_public Protected = false

abbrev pub enter_public : World → SymId → Value → List Value → Option ObjId → Option Found → Entry
enter_public w name recv args block None = enter_unchecked w name recv args block None
enter_public w name recv args block (Some f) =
    if is_public f.visibility then enter_found w name f recv args block
    else missing w name (forbidden f.visibility name (plain_class_of w.store.objects recv)) recv args block

unfoldable pub send_by_core : World → Value → SymId → List Value → Option ObjId → Bool → Entry
send_by_core w recv name args block false = enter_unchecked w name recv args block (find_for w recv name)
send_by_core w recv name args block true = enter_public w name recv args block (find_for w recv name)

-- super (11.3.4): the look-up goes on after the owner of the running method
abbrev pub enter_super : World → Value → List Value → Option ObjId → Option SymId → Option Found → Entry
enter_super w recv args block None f = answers (fail w cause.SuperOutside)
enter_super w recv args block (Some name) None =
    missing w name (cause.NoSuperMethod name (plain_class_of w.store.objects recv)) recv args block
enter_super w recv args block (Some name) (Some f) = enter_found w name f recv args block

abbrev pub enter_value : World → List Value → Option ObjId → Option ObjId → Entry
enter_value w args block None = answers (wrong_value w (codes "CALL"))
enter_value w args block (Some p) = enter_proc w p args block

-- why a name alone fails that names no method: one that ends with `!` or `?` is that of no variable
abbrev pub is_mark : ℕ → Bool
is_mark b = nat_eq b 33 || nat_eq b 63

abbrev pub unknown_name : List ℕ → SymId → ObjId → Cause
unknown_name text name c =
    if is_mark (get_or text (length text - 1) 0) then cause.UndefinedMethod name c else cause.UndefinedName name c

-- The call of a form or an instruction in an activation (11.3.1, 13.3.3 and 13.3.4).
unfoldable pub call : World → Activation → Sending → Value → List Value → Option ObjId → Entry
call w a (by_name s) recv args block =
    enter_allowed w a.self s (cause.UndefinedMethod s (plain_class_of w.store.objects recv)) recv args block
    (find_for w recv s)
call w a (by_bare_name s) recv args block =
    enter_allowed w a.self s (unknown_name (name_at w.store s) s (plain_class_of w.store.objects recv)) recv args block
    (find_for w recv s)
call w a to_proc recv args block = enter_value w args block (object_in recv)
call w a to_super recv args block = enter_super w recv args block a.name (super_of w a.self a.owner a.name)

-- One fiber has at most 10,000 activations.
abbrev pub is_full : ℕ → Bool
is_full depth = nat_lt 9999 depth

-- The value of a block argument (11.3.3): nil, a Proc, or a Symbol, whose Proc sends it to its first argument.
pub data BlockArgument : Type 0 where
  no_block : BlockArgument
  block_of : ObjId → World → BlockArgument
  not_a_block : BlockArgument

abbrev pub proc_or_not : World → ObjId → Option Callable → BlockArgument
proc_or_not w p None = not_a_block
proc_or_not w p (Some c) = block_of p w

unfoldable pub block_argument : World → Value → BlockArgument
block_argument w Nil = no_block
block_argument w True = not_a_block
block_argument w False = not_a_block
block_argument w (Int n) = not_a_block
block_argument w (Sym s) =
    block_of (next_number w.store)
    (with_store w (with_object w.store (fresh (core class.Proc) (kind.CoreProc send_kept_row (Sym s)))))
block_argument w (Obj p) = proc_or_not w p (callable_of (kind_in w.store.objects (Obj p)))

-- The instruction that passes a block argument, for the failure of another value.
abbrev pub passing : Sending → List ℕ
passing (by_name s) = codes "SENDB"
passing (by_bare_name s) = codes "SENDB"
passing to_proc = codes "SENDB"
passing to_super = codes "SUPER"

-- The first call that passes a Proc as its block settles what a break of it ends: the activation that is opened, or
-- none (11.5.2.4.3).
unfoldable pub settle : World → Option ObjId → Option ℕ → World
settle w None target = w
settle w (Some p) target = with_store w (with_objects w.store (with_sent w.store.objects p target))

-- Where a clause of a begin form takes an exception (11.5.2.5 and 14.3): its class among the ancestors.
abbrev pub is_of_space : World → Value → Option ObjId → Answer
is_of_space w v None = fail w cause.RescueNotClass
is_of_space w v (Some c) = give w (truth (is_member (chain w.store.objects (class_of w.store.objects v)) c))

unfoldable pub is_of : World → Value → Value → Answer
is_of w v class = is_of_space w v (space_in w.store.objects class)

-- Bodies of classes and modules (13.2.2 and 13.1.2): one begins with its class innermost.

abbrev pub class_activation : World → Activation → ObjId → Activation
class_activation w a c = record {
  runs = class_body;
  self = Obj c;
  owner = None;
  name = None;
  home = a.home;
  classes = next_classes w;
  block = None;
}

unfoldable pub with_class_body : World → Activation → ObjId → World
with_class_body w a c =
    with_activation (with_enclosing (with_public_default w c) c a.classes) (class_activation w a c)

-- the end of an activation: that of a class body sets the default of its class to public
abbrev pub close_space : World → Option ObjId → World
close_space w None = w
close_space w (Some c) = with_public_default w c

abbrev pub close_run : World → Value → Runs → World
close_run w self main_program = w
close_run w self method_body = w
close_run w self (block_body p) = w
close_run w self lambda_body = w
close_run w self class_body = close_space w (object_in self)
close_run w self core_method = w

unfoldable pub close : World → ℕ → World
close w a = close_run w (activation_at w a).self (activation_at w a).runs

-- What a return and a break end (11.5.2.4), where that is under way in the running fiber.

abbrev pub target_of : Option Callable → Option ℕ
target_of None = None
target_of (Some (by_row r v)) = None
target_of (Some (by_body c)) = sending.break_target c.sending

abbrev pub break_target : World → ℕ → Runs → Option ℕ
break_target w a main_program = None
break_target w a method_body = None
break_target w a (block_body p) = target_of (callable_of (kind_in w.store.objects (Obj p)))
break_target w a lambda_body = Some a
break_target w a class_body = None
break_target w a core_method = None

-- What is seen of an exception that nothing rescued (14.3): SystemExit ends the program with its status. Where the
-- program says what the message is, which it does by a method `message` or `to_s` or by an object that is no String, the
-- exception is asked for it first, once.

abbrev pub is_exit : Store → ObjId → Bool
is_exit st e = is_member (lineage st.objects (plain_class_of st.objects (Obj e))) (core class.SystemExit)

abbrev pub is_written : Method → Bool
is_written (method.Body b classes) = true
is_written (method.Core r) = false
is_written (method.Reader n) = true
is_written (method.Writer n) = true
is_written (method.Block p) = true
is_written method.Undefined = false

abbrev pub finds_written : Option Found → Bool
finds_written None = false
finds_written (Some f) = is_written f.method

abbrev pub writes : World → ObjId → List ℕ → Bool
writes w e name = finds_written (find_for w (Obj e) (intern w.store name).symbol)

abbrev pub has_text : Store → Option Value → Bool
has_text st None = true
has_text st (Some v) = is_some (string_of (kind_in st.objects v))

unfoldable pub is_asked : World → ObjId → Bool
is_asked w e = not w.asked && not (is_exit w.store e)
    && (writes w e (codes "message") || writes w e (codes "to_s")
    || not (has_text w.store (present (message_of (kind_in w.store.objects (Obj e))))))

abbrev pub asking : World → World
asking w = record w { asked = true }

abbrev pub natural : ℤ → ℕ
natural (pos n) = n
natural (negsuc n) = 0

abbrev pub status_of : Option ℤ → ℕ
status_of None = 0
status_of (Some z) = natural z

abbrev pub message_or_name : Store → ObjId → Option Value → List ℕ
message_or_name st c None = class_name st c
message_or_name st c (Some m) = text_of_value st m

pub record Unrescued : Type 0 where
  pub exits : Bool
  pub status : ℕ
  pub class : List ℕ
  pub message : List ℕ

unfoldable pub unrescued : Store → ObjId → Unrescued
unrescued st e = record {
  exits = is_exit st e;
  status = status_of (integer_in (detail_of (kind_in st.objects (Obj e))));
  class = class_name st (plain_class_of st.objects (Obj e));
  message =
      message_or_name st (plain_class_of st.objects (Obj e)) (present (message_of (kind_in st.objects (Obj e))));
}

-- What a resume is given, and what it gives: nil, one value, or an Array of more.
abbrev pub one_of : World → List Value → Answer
one_of w [] = give w Nil
one_of w (v ∷ []) = give w v
one_of w (v ∷ u ∷ us) = make w (items_object (v ∷ u ∷ us))

-- A read: a line, or nil at the end of the input.
abbrev pub read_line : World → ℕ → Answer
read_line w n = make (record w { input = drop n w.input }) (text_object (take n w.input))

abbrev pub read_limit : World → ℕ → Answer
read_limit w n =
    if nat_lt (2 ^ 28) n then fail (record w { input = drop (2 ^ 28) w.input }) cause.StringTooLong else read_line w n

unfoldable pub read : World → Answer
read w = if nat_eq (length w.input) 0 then give w Nil else read_limit w (line_length w.input)

-- The main program before its first step (7.2 and 10.1): activation 1, over the opening store with the names of the
-- program as symbols.

abbrev pub main_activation : Activation
main_activation = record {
  runs = main_program;
  self = Obj main_object;
  owner = None;
  name = None;
  home = 1;
  classes = 0;
  block = None;
}

abbrev pub opening_world : List (List ℕ) → List ℕ → World
opening_world names input = record {
  store = with_names Rows.opening names;
  globals = [];
  enclosing = [];
  activations = main_activation ∷ [];
  input = input;
  out = [];
  asked = false;
}
