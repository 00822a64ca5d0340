-- What a call enters, and the heap that is left (ISO/IEC 30170:2012, 11.3 and 13.3).
use Rattle.std.specs.Prelude.{◌≡◌, ℕ, ◌-◌, List, [], ◌∷◌, length, get_or, slice_get, codes, nat_eq, Bool, true, false, if◌then◌else◌, Option, Some, None, option_map}
use Rattle.rb_value.specs.declared.value.Value.{Value}
use Rattle.rb_value.specs.declared.value.Value.TheVariants.{Nil, Sym}
use Rattle.rb_value.specs.declared.value.ObjId.{ObjId}
use Rattle.rb_value.specs.declared.value.SymId.{SymId}
use Rattle.rb_value.specs.declared.kind.Kind.{Kind}
use Rattle.rb_value.specs.declared.kind.Kind.TheVariants as kind
use Rattle.rb_value.specs.declared.method.Method.{Method}
use Rattle.rb_value.specs.declared.method.Method.TheVariants as method
use Rattle.rb_value.specs.declared.procs.ProcContents.{ProcContents}
use Rattle.def_core.specs.declared.bound.BindKind.{BindKind}
use Rattle.def_core.specs.declared.bound.BindKind.TheVariants as bind
use Rattle.def_core.specs.declared.cause.Cause.{Cause}
use Rattle.def_core.specs.declared.cause.Cause.TheVariants as cause
use Rattle.def_core.specs.declared.found.Found.{Found}
use Rattle.def_core.specs.Changes.{Interned, intern}
use Rattle.def_core.specs.Classes as classes
use Rattle.def_core.specs.Classes.{plain_class_of}
use Rattle.def_core.specs.Find.{find, allowed}
use Rattle.def_core.specs.Store.{Store, name_at, object_at}
use Rattle.def_calls.specs.Calls.{is_mark, is_public, forbidden}
use Rattle.def_calls.specs.Rows.{method_missing_row}
use Rattle.def_calls.specs.Values as values
use Rattle.def_calls.specs.Views.{object_in}
use Rattle.def_calls.specs.World.{World, Answer, fail, with_store}
use Rattle.rb_store.specs.Held.{Held}
use Rattle.heap.specs.Finding as finding
use Rattle.heap.specs.Operands.{own, has_symbol, with_symbol}
use Rattle.heap.specs.Reading.{proc_in}
use Rattle.heap.specs.Told.{told}
use Rattle.run_values.specs.declared.given.Given.{Given}
use Rattle.run_values.specs.declared.given.Given.TheVariants.{Gives}
use Rattle.core_iter.specs.Rows.rows.{row_at}
use Rattle.core_iter.specs.Called as rows
use Rattle.core_iter.specs.Called.{StarRow}
use Rattle.core_iter.specs.Called.calls.{FollowsBy, CallsOfTable, CallsPlain}
use Rattle.core_iter.specs.Called.row.{OfTable, Plain, Star}
use Rattle.run_calls.specs.declared.activation.Activation.{Activation}
use Rattle.run_calls.specs.declared.activation.Runs.TheVariants as runs
use Rattle.run_calls.specs.declared.procs.Callee.{Callee}
use Rattle.run_calls.specs.declared.procs.Callee.TheVariants.{Body, Row}
use Rattle.run_calls.specs.declared.entry.Entry.{Entry}
use Rattle.run_calls.specs.declared.entry.Entry.TheVariants.{Answers, Enters, Begins}
use Rattle.run_calls.specs.declared.entry.Opening.{Opening}
use Rattle.run_calls.specs.declared.entry.Beginning.{Beginning}
use Rattle.run_calls.specs.declared.naming.Naming.{Naming}
use Rattle.run_calls.specs.declared.naming.Naming.TheVariants.{ByName, ByBareName}
use Rattle.run_calls.specs.Activations.{method_running, proc_running, proc_binds}

abbrev pub When : Bool → Type 0 → Type 0 → Type 0
When true X Y = X
When false X Y = Y

-- What a call is given: its receiver, its arguments, its block, and the number of the activation that it may open.
pub record Sent : Type 0 where
  pub receiver : Value
  pub args : List Value
  pub block : Option ObjId
  pub next : ℕ

abbrev pub sent : Value → List Value → Option ObjId → ℕ → Sent
sent receiver args block next = record { receiver = receiver; args = args; block = block; next = next }

-- The outcome is there at once: of that something is known, and of the heap that is left.

abbrev pub AtOnce : (Given → Held → Type 0) → Entry → Held → Type 0
AtOnce Known (Answers g) after = Known g after
AtOnce Known (Enters o) after = ⊥
AtOnce Known (Begins b) after = ⊥

-- as a definition answers in each world with the store
abbrev pub Answering : (World → Answer) → Held → Entry → Held → Type 0
Answering defined h e after = AtOnce (FollowsBy defined h) e after

abbrev pub Failing : Cause → Held → Entry → Held → Type 0
Failing c h e after = Answering (λ w. fail w (told h.store c)) h e after

-- a body is entered, or an iteration begins, and nothing changes
abbrev pub Is : Entry → Held → Entry → Held → Type 0
Is wanted h e after = (e ≡ wanted) × (after ≡ h)

-- Core methods.

abbrev pub beginning : StarRow → Value → Option ObjId → Beginning
beginning r receiver block = record { row = r; receiver = receiver; name_first = None; block = block }

abbrev pub EntersKind : rows.Row → ℕ → Held → Value → List Value → Option ObjId → Entry → Held → Type 0
EntersKind (OfTable r) number h recv args block e after = AtOnce (CallsOfTable number r h recv args block) e after
EntersKind (Plain r) number h recv args block e after = AtOnce (CallsPlain r h recv args block) e after
EntersKind (Star r) number h recv args block e after = Is (Begins (beginning r recv block)) h e after

abbrev pub EntersRow : ℕ → Held → Value → List Value → Option ObjId → Entry → Held → Type 0
EntersRow number h recv args block e after = EntersKind (row_at number) number h recv args block e after

-- Procs (15.2.17.4.3, 11.3.3 and 11.3.5).

abbrev pub opening_of : ProcContents → Activation → Option ObjId → BindKind → Opening
opening_of c a block binds = record {
  body = c.code;
  outer = slice_get c.scopes 0;
  activation = a;
  name_first = None;
  block = block;
  binds = binds;
}

abbrev pub proc_opening : ObjId → ProcContents → Option ObjId → ℕ → Opening
proc_opening id c block next = opening_of c (proc_running id c next) block (proc_binds c.lambda)

-- the activation of a block that was made a method: it has the receiver as `self`, and return and break end it
abbrev pub block_running : Value → ProcContents → ℕ → Activation
block_running receiver c next = record {
  runs = runs.LambdaBody;
  receiver = receiver;
  owner = c.owner;
  name = c.name;
  home = next;
  classes = c.classes;
  block = c.block;
}

-- the row and the value that a Proc without a body keeps

abbrev pub kept_in : Kind → Option Callee
kept_in kind.Plain = None
kept_in (kind.Class c) = None
kept_in (kind.String s) = None
kept_in (kind.Array a) = None
kept_in (kind.Hash h) = None
kept_in (kind.Range r) = None
kept_in (kind.Proc p) = None
kept_in (kind.CoreProc r k) = Some (Row r k)
kept_in (kind.Fiber b e) = None
kept_in (kind.Exception m d) = None
kept_in (kind.Enumerator e) = None
kept_in (kind.Yielder b) = None

abbrev pub kind_of : Held → ObjId → Kind
kind_of h id = (object_at h.store.objects id).kind

-- what a Proc is to its call

abbrev pub or_kept : Held → ObjId → Option Opening → Option Callee
or_kept h id None = kept_in (kind_of h id)
or_kept h id (Some o) = Some (Body o)

abbrev pub opened_by : Held → ObjId → Option ObjId → ℕ → Option Opening
opened_by h id block next = option_map (λ c. proc_opening id c block next) (proc_in (kind_of h id))

abbrev pub proc_callee : Held → ObjId → Option ObjId → ℕ → Option Callee
proc_callee h id block next = or_kept h id (opened_by h id block next)

abbrev pub opened_as_method : Held → ObjId → Value → Option ObjId → ℕ → Option Opening
opened_as_method h id recv block next =
    option_map (λ c. opening_of c (block_running recv c next) block bind.Lambda) (proc_in (kind_of h id))

abbrev pub block_callee : Held → ObjId → Value → Option ObjId → ℕ → Option Callee
block_callee h id recv block next = or_kept h id (opened_as_method h id recv block next)

abbrev pub wrong_callee : World → Answer
wrong_callee w = values.wrong_value w (codes "CALL")

-- a row is called on the value that is kept; what is no Proc raises
abbrev pub EntersCallee : Option Callee → Held → List Value → Option ObjId → Entry → Held → Type 0
EntersCallee None h args block e after = Answering wrong_callee h e after
EntersCallee (Some (Body o)) h args block e after = Is (Enters o) h e after
EntersCallee (Some (Row r kept)) h args block e after = EntersRow r h kept args block e after

abbrev pub EntersProc : ObjId → Held → Sent → Entry → Held → Type 0
EntersProc id h p e after = EntersCallee (proc_callee h id p.block p.next) h p.args p.block e after

abbrev pub EntersBlock : ObjId → Held → Sent → Entry → Held → Type 0
EntersBlock id h p e after =
    EntersCallee (block_callee h id p.receiver p.block p.next) h p.args p.block e after

-- the call of a value itself

abbrev pub EntersObject : Option ObjId → Held → Sent → Entry → Held → Type 0
EntersObject None h p e after = Answering wrong_callee h e after
EntersObject (Some id) h p e after = EntersProc id h p e after

abbrev pub EntersValue : Held → Sent → Entry → Held → Type 0
EntersValue h p e after = EntersObject (object_in p.receiver) h p e after

-- Methods (13.3.3).

abbrev pub body_opening : ObjId → ℕ → ℕ → SymId → Sent → Opening
body_opening owner body classes name p = record {
  body = body;
  outer = None;
  activation = method_running owner classes name p.receiver p.block p.next;
  name_first = None;
  block = p.block;
  binds = bind.Method;
}

-- an instance variable is read, or set to the argument
abbrev pub Reads : Held → Value → SymId → Given → Held → Type 0
Reads h recv name given after = (after ≡ h) × ((v : Value) × (given ≡ Gives v)
    × ((w : World) → values.instance_variable (with_store w h.store) (own h.store recv) name ≡ v))

abbrev pub variable_set : Held → Value → SymId → Value → World → Answer
variable_set h self name v =
    with_symbol name (λ w. values.set_instance_variable w (own h.store self) name (own h.store v))

abbrev pub Sets : Held → Value → SymId → List Value → Given → Held → Type 0
Sets h recv name args given after = FollowsBy (variable_set h recv name (get_or args 0 Nil)) h given after

-- so many arguments are wanted

abbrev pub miscounted : ℕ → ℕ → World → Answer
miscounted given wanted w = fail w (cause.WrongCount given wanted (Some wanted))

abbrev pub Counted : ℕ → Held → List Value → (Given → Held → Type 0) → Given → Held → Type 0
Counted n h args Known given after = When (nat_eq (length args) n) (Known given after)
    (FollowsBy (miscounted (length args) n) h given after)

abbrev pub plain_class : Held → Value → ObjId
plain_class h v = plain_class_of h.store.objects (own h.store v)

abbrev pub undefined : Held → SymId → Value → World → Answer
undefined h name recv w = fail w (told h.store (cause.UndefinedMethod name (plain_class h recv)))

abbrev pub EntersMethod : Method → ObjId → SymId → Held → Sent → Entry → Held → Type 0
EntersMethod (method.Body b classes) owner name h p e after =
    Is (Enters (body_opening owner b classes name p)) h e after
EntersMethod (method.Core r) owner name h p e after = EntersRow r h p.receiver p.args p.block e after
EntersMethod (method.Reader n) owner name h p e after = AtOnce (Counted 0 h p.args (Reads h p.receiver n)) e after
EntersMethod (method.Writer n) owner name h p e after =
    AtOnce (Counted 1 h p.args (Sets h p.receiver n p.args)) e after
EntersMethod (method.Block id) owner name h p e after = EntersBlock id h p e after
EntersMethod method.Undefined owner name h p e after = Answering (undefined h name p.receiver) h e after

abbrev pub EntersFound : Found → SymId → Held → Sent → Entry → Held → Type 0
EntersFound f name h p e after = EntersMethod f.method f.owner name h p e after

-- Where nothing is found, or what is found isn't allowed: `method_missing` (13.3.4), and where that is the core method
-- the exception of the cause.

abbrev pub fails_at_once : Method → Bool
fails_at_once (method.Core r) = nat_eq r method_missing_row
fails_at_once method.Undefined = true
fails_at_once (method.Body b classes) = false
fails_at_once (method.Reader n) = false
fails_at_once (method.Writer n) = false
fails_at_once (method.Block id) = false

-- what is entered is given a name before the arguments
abbrev pub after_name : SymId → Entry → Entry
after_name name (Answers g) = Answers g
after_name name (Enters o) = Enters (record o { name_first = Some name })
after_name name (Begins b) = Begins (record b { name_first = Some name })

abbrev pub named : SymId → Sent → Sent
named name p = record p { args = Sym name ∷ p.args }

-- the method that runs then was called by the name `method_missing`
pub record EntersNamed (called : SymId) (f : Found) (name : SymId) (h : Held) (p : Sent) (e : Entry) (after : Held)
    : Type 0 where
  pub plain : Entry
  pub entered : EntersFound f called h (named name p) plain after
  pub is : e ≡ after_name name plain

abbrev pub MissesBy : Option Found → SymId → Cause → SymId → Held → Sent → Entry → Held → Type 0
MissesBy None called c name h p e after = Failing c h e after
MissesBy (Some f) called c name h p e after =
    When (fails_at_once f.method) (Failing c h e after) (EntersNamed called f name h p e after)

-- the class by which the methods of a value are found: one that names nothing of the store counts as nil
abbrev pub class_of : Store → Value → ObjId
class_of st v = classes.class_of st.objects (own st v)

-- the method that a call of a name finds for a receiver
abbrev pub found_for : Store → Value → SymId → Option Found
found_for st recv name = find st.objects (class_of st recv) name

abbrev pub MissesNamed : Interned → Cause → SymId → Held → Sent → Entry → Held → Type 0
MissesNamed i c name h p e after = MissesBy (found_for i.store p.receiver i.symbol) i.symbol c
    name (record h { store = i.store }) p e after

abbrev pub Misses : Cause → SymId → Held → Sent → Entry → Held → Type 0
Misses c name h p e after = MissesNamed (intern h.store (codes "method_missing")) c name h p e after

-- Calls by a name (11.3.1).

-- a name alone may be that of a variable that isn't there, where it ends with no mark

abbrev pub text_of : Held → SymId → List ℕ
text_of h name = if has_symbol h.store name then name_at h.store name else []

abbrev pub is_marked : List ℕ → Bool
is_marked text = is_mark (get_or text (length text - 1) 0)

abbrev pub unknown : Naming → List ℕ → SymId → ObjId → Cause
unknown ByName text name class = cause.UndefinedMethod name class
unknown ByBareName text name class =
    if is_marked text then cause.UndefinedMethod name class else cause.UndefinedName name class

abbrev pub unknown_in : Held → Naming → SymId → Value → Cause
unknown_in h naming name recv = unknown naming (text_of h name) name (plain_class h recv)

-- what is found isn't allowed (13.3.5)
abbrev pub Forbids : Found → SymId → Held → Sent → Entry → Held → Type 0
Forbids f name h p e after = Misses (forbidden f.visibility name (plain_class h p.receiver)) name h p e after

abbrev pub EntersAllowed : Found → Value → SymId → Held → Sent → Entry → Held → Type 0
EntersAllowed f caller name h p e after =
    When (allowed h.store.objects (own h.store caller) p.receiver f) (EntersFound f name h p e after)
    (Forbids f name h p e after)

-- by a caller, of what is found for the receiver
abbrev pub EntersBy : Option Found → Value → Naming → SymId → Held → Sent → Entry → Held → Type 0
EntersBy None caller naming name h p e after = Misses (unknown_in h naming name p.receiver) name h p e after
EntersBy (Some f) caller naming name h p e after = EntersAllowed f caller name h p e after

-- by a core method: it isn't checked, or has to be public

abbrev pub EntersUnchecked : Option Found → Bool → SymId → Held → Sent → Entry → Held → Type 0
EntersUnchecked None public name h p e after = Misses (unknown_in h ByName name p.receiver) name h p e after
EntersUnchecked (Some f) false name h p e after = EntersFound f name h p e after
EntersUnchecked (Some f) true name h p e after =
    When (is_public f.visibility) (EntersFound f name h p e after) (Forbids f name h p e after)

-- `super` (11.3.4): the look-up goes on after the owner of the running method

abbrev pub above_in : Held → Value → Option ObjId → Option SymId → Option Found
above_in h self None name = None
above_in h self (Some owner) None = None
above_in h self (Some owner) (Some name) =
    finding.find_super h.store (class_of h.store self) owner name

abbrev pub above : Held → Activation → Option Found
above h a = above_in h a.receiver a.owner a.name

abbrev pub EntersAbove : Option Found → SymId → Held → Sent → Entry → Held → Type 0
EntersAbove None name h p e after = Misses (cause.NoSuperMethod name (plain_class h p.receiver)) name h p e after
EntersAbove (Some f) name h p e after = EntersFound f name h p e after

abbrev pub EntersSuperOf : Option SymId → Activation → Held → Sent → Entry → Held → Type 0
EntersSuperOf None a h p e after = Failing cause.SuperOutside h e after
EntersSuperOf (Some name) a h p e after = EntersAbove (above h a) name h p e after

abbrev pub EntersSuper : Activation → Held → Sent → Entry → Held → Type 0
EntersSuper a h p e after = EntersSuperOf a.name a h p e after
