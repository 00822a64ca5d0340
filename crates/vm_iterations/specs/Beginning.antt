-- First turns of iterations that need no plan.
use Rattle.std.specs.Prelude.{◌≡◌, ℕ, ◌+◌, ◌-◌, ◌%◌, ◌^◌, List, [], ◌∷◌, length, nat_eq, nat_le, nat_lt, Bool, true, false, not, ◌&&◌, ◌||◌, Option, Some, None, if◌then◌else◌}
use Rattle.rb_value.specs.declared.value.Value.{Value}
use Rattle.rb_value.specs.declared.value.Value.TheVariants.{Nil, True, False, Int, Sym, Obj}
use Rattle.rb_value.specs.declared.value.ObjId.{ObjId}
use Rattle.rb_value.specs.declared.value.SymId.{SymId}
use Rattle.rb_value.specs.declared.kind.Sort.{Sort}
use Rattle.rb_value.specs.declared.kind.Sort.TheVariants as sort
use Rattle.rb_value.specs.Value.{is_true, truth}
use Rattle.def_core.specs.declared.bound.BindKind.TheVariants as bind
use Rattle.def_core.specs.declared.cause.Cause.TheVariants as cause
use Rattle.def_core.specs.declared.found.Found.{Found}
use Rattle.def_core.specs.Find.{same_value}
use Rattle.def_core.specs.Parts.{elements_at}
use Rattle.def_core.specs.Store.{Store, next_number, object_at}
use Rattle.heap.specs.declared.enumerators.Cursor.{Cursor}
use Rattle.heap.specs.declared.making.Blank.{Blank}
use Rattle.heap.specs.Reading.{cursor_in, sort_of_value, yielder_in}
use Rattle.heap.specs.Made.{with_blank}
use Rattle.core_calls.specs.declared.beat.Passed.{Passed}
use Rattle.core_calls.specs.declared.beat.Passed.TheVariants as passed
use Rattle.rows_object.specs.declared.row.ObjectRow.TheVariants as object
use Rattle.vm_parts.specs.Below.frames.calls.called.{KernelRow}
use Rattle.vm_parts.specs.Below.frames.calls.called.kernel as kernel
use Rattle.iter_items.specs.declared.row.ItemsRow.{ItemsRow}
use Rattle.iter_items.specs.declared.state.ItemsState.TheVariants as items_state
use Rattle.iter_enumerators.specs.declared.row.EnumeratorRow.{EnumeratorRow}
use Rattle.iter_enumerators.specs.declared.row.EnumeratorRow.TheVariants as enumerator
use Rattle.iter_enumerators.specs.declared.state.EnumeratorState.TheVariants as enumerates
use Rattle.vm_parts.specs.Below.frames.calls.{Iteration}
use Rattle.vm_parts.specs.Below.frames.calls.iteration as state
use Rattle.vm_parts.specs.Below.frames.calls.making.{blank_for}
use Rattle.vm_parts.specs.Below.{Resumed}
use Rattle.vm_parts.specs.Below.resumed as resumed
use Rattle.vm_parts.specs.Answering.{Given, Gives}
use Rattle.vm_parts.specs.Below.{Held}
use Rattle.vm_parts.specs.Below.finding as finding
use Rattle.vm_parts.specs.Below.gives.{Raises}
use Rattle.vm_parts.specs.Below.views as views
use Rattle.vm_parts.specs.Below.frames.{Arguments, Begun, Frame, Level}
use Rattle.vm_parts.specs.Below.frames.levels as levels
use Rattle.vm_parts.specs.Below.frames.opening as opening
use Rattle.vm_parts.specs.Below.frames.calls.{Activation}
use Rattle.vm_parts.specs.Below.frames.calls.activations as activations
use Rattle.vm_parts.specs.Below.frames.calls.called.{PlainRow, Row, StarRow}
use Rattle.vm_parts.specs.Below.frames.calls.called.calls as rows
use Rattle.vm_parts.specs.Below.frames.calls.called.plain as plain
use Rattle.vm_parts.specs.Below.frames.calls.called.row as row
use Rattle.vm_parts.specs.Below.frames.calls.called.star as star
use Rattle.vm_parts.specs.Below.frames.calls.rows.{ComparingRow, CoreRow}
use Rattle.vm_parts.specs.Below.frames.calls.rows.comparing as comparing
use Rattle.vm_parts.specs.Below.frames.calls.rows.items as items
use Rattle.vm_parts.specs.declared.entering.Entered.{Entered}
use Rattle.vm_parts.specs.declared.flow.Flow.{Flow}
use Rattle.vm_parts.specs.declared.flow.Flow.TheVariants.{Stays, Wakes, Ends}
use Rattle.vm_parts.specs.declared.known.KnownCalls.{KnownCalls}
use Rattle.vm_parts.specs.declared.known.MethodBody.{MethodBody}
use Rattle.vm_parts.specs.declared.known.Usual.{Usual}
use Rattle.vm_parts.specs.declared.known.Usual.TheVariants as usual
use Rattle.vm_parts.specs.declared.loaded.Loaded.{Loaded}
use Rattle.vm_parts.specs.Beside.{Beside, with_seen}
use Rattle.vm_parts.specs.Calling.{When, CallsCallee, CallsWith, arguments_gone}
use Rattle.vm_parts.specs.Entering as entering
use Rattle.vm_parts.specs.Entering.{is_full}
use Rattle.vm_parts.specs.Finding.{class_of}
use Rattle.vm_parts.specs.Known as known
use Rattle.vm_parts.specs.Leaving.{HandedOut, RaisedOut, flow_here, frame_here, handed_of, is_resumed, received, received_flow, received_here}
use Rattle.vm_plain.specs.Calling.{pair_value}
use Rattle.vm_parts.specs.Beside.{with_heap}
use Rattle.vm_iterations.specs.declared.firsts.First.{First}
use Rattle.vm_iterations.specs.declared.firsts.First.TheVariants as first
use Rattle.vm_iterations.specs.declared.firsts.Initialize.{Initialize}
use Rattle.vm_iterations.specs.declared.firsts.Initialize.TheVariants as initialize
use Rattle.vm_iterations.specs.Following.{FailsOut, resume_answer, resumed_in, waiting, waits, yielded_in}

-- What is done is found by the row, the receiver and the arguments.

abbrev pub given : Beside → Begun → List Value
given b i = opening.given b.seen i.arguments

-- arguments that are at most one
abbrev pub passed_in : List Value → Option Passed
passed_in [] = Some passed.Nothing
passed_in (v ∷ []) = Some (passed.One v)
passed_in (v ∷ u ∷ vs) = None

-- `[]` of a Hash, where the element is there at once

abbrev pub gives_if : Option Value → Option First
gives_if None = None
gives_if (Some v) = Some (first.Gives v)

abbrev pub element_by : Held → Option ObjId → List Value → Option First
element_by h None args = None
element_by h (Some id) [] = None
element_by h (Some id) (k ∷ []) = gives_if (pair_value h id k)
element_by h (Some id) (k ∷ j ∷ rest) = None

abbrev pub element : Beside → Begun → Option First
element b i = element_by b.heap (views.a_hash b.heap.store.objects i.receiver) (given b i)

-- `call` of a Proc, `resume` and `yield`

abbrev pub calls_if : Option ObjId → Option First
calls_if None = None
calls_if (Some p) = Some (first.Calls p)

abbrev pub resumes_if : Option ObjId → Option Passed → Option First
resumes_if None p = None
resumes_if (Some id) None = None
resumes_if (Some id) (Some p) = Some (first.Resumes id p)

abbrev pub yields_if : Option Passed → Option First
yields_if None = None
yields_if (Some p) = Some (first.Yields p)

abbrev pub call_by : KernelRow → Beside → Begun → Option First
call_by kernel.CallProc b i = calls_if (views.a_proc b.heap.store.objects i.receiver)
call_by kernel.Resume b i =
    resumes_if (views.a_fiber b.heap.store.objects i.receiver) (passed_in (given b i))
call_by kernel.Yield b i = yields_if (passed_in (given b i))
call_by _ b i = None

-- `message` of an exception: what is remembered of its `to_s`, where that calls no others and the message is a text

abbrev pub is_string : Option Sort → Bool
is_string (Some sort.String) = true
is_string _ = false

abbrev pub has_text : Store → Value → Bool
has_text st (Obj id) = is_string (sort_of_value st (Obj id))
has_text st _ = true

abbrev pub asks_by : Option Usual → Option First
asks_by (Some (usual.Core n (row.OfTable r))) = Some (first.Asks n (row.OfTable r))
asks_by (Some (usual.Core n (row.Plain r))) = Some (first.Asks n (row.Plain r))
asks_by _ = None

abbrev pub kept_usual : Beside → ObjId → SymId → Option Usual
kept_usual b class name = known.usual_in (known.known (known.of b.known) b.heap.changes class name)

abbrev pub message_in : Held → ObjId → Value
message_in h e = views.message_of (object_at h.store.objects e).kind

abbrev pub message_by : Option ObjId → Beside → Begun → Option First
message_by None b i = None
message_by (Some e) b i = if nat_lt 0 i.arguments.count || not (has_text b.heap.store (message_in b.heap e)) then None
    else asks_by (kept_usual b (class_of b.heap.store i.receiver) b.names.to_s)

abbrev pub message : Beside → Begun → Option First
message b i = message_by (views.an_exception b.heap.store.objects i.receiver) b i

-- methods of Enumerators and Yielders: the fiber is resumed where no item is there, and the source hasn't returned

abbrev pub fiber_if : Option Value → Bool → Option ObjId → Option ObjId
fiber_if (Some result) none f = None
fiber_if None none f = if none then f else None

abbrev pub fiber_by : Held → Cursor → Option ObjId
fiber_by h c = fiber_if c.result (nat_le (length (elements_at h.store.objects c.items)) c.position) c.fiber

abbrev pub enumerates_by : ObjId → Bool → Option ObjId → Option First
enumerates_by e leaves None = None
enumerates_by e leaves (Some f) = Some (first.Enumerates f (enumerates.Waits e f leaves))

abbrev pub item_by : Held → ObjId → Bool → Option Cursor → Option First
item_by h e leaves None = None
item_by h e leaves (Some c) = enumerates_by e leaves (fiber_by h c)

abbrev pub item_of : Option ObjId → Beside → Begun → Bool → Option First
item_of None b i leaves = None
item_of (Some e) b i leaves = if nat_lt 0 i.arguments.count then None
    else item_by b.heap e leaves (cursor_in (object_at b.heap.store.objects e).kind)

abbrev pub item : Beside → Begun → Bool → Option First
item b i leaves = item_of (views.object_in i.receiver) b i leaves

abbrev pub yielder_by : Held → Option ObjId → Option ObjId
yielder_by h None = None
yielder_by h (Some id) = yielder_in (object_at h.store.objects id).kind

abbrev pub puts_if : Value → Option ObjId → Option First
puts_if v None = None
puts_if v (Some p) = Some (first.Puts p v)

abbrev pub of_enumerator : EnumeratorRow → Beside → Begun → Option First
of_enumerator enumerator.Next b i = item b i true
of_enumerator enumerator.Peek b i = item b i false
of_enumerator enumerator.Put b i = if nat_eq i.arguments.count 1
    then puts_if i.receiver (yielder_by b.heap (views.object_in i.receiver)) else None
of_enumerator _ b i = None

-- What a class finds under a name is remembered.

abbrev pub searched : Option Found → Option Usual
searched None = None
searched (Some f) = known.remembered f

abbrev pub usual_or : Option Usual → Option Found → Option Usual
usual_or (Some u) f = Some u
usual_or None f = searched f

abbrev pub found_in : Beside → ObjId → SymId → Option Usual
found_in b class name = usual_or (kept_usual b class name) (finding.find b.heap.store class name)

abbrev pub noted_or : Option Usual → Option Found → Beside → ObjId → SymId → known.Calls
noted_or (Some u) f b class name = known.of b.known
noted_or None None b class name = known.of b.known
noted_or None (Some f) b class name = known.noted (known.of b.known) b.heap.changes class name f

abbrev pub noted_in : Beside → ObjId → SymId → known.Calls
noted_in b class name = noted_or (kept_usual b class name) (finding.find b.heap.store class name) b class name

-- and then something is done
pub record Finding (b : Beside) (class : ObjId) (name : SymId) (Done : Beside → Type 0) : Type 0 where
  pub calls : KnownCalls
  pub remembers : known.of calls ≡ noted_in b class name
  pub done : Done (record b { known = calls })

abbrev pub Keeps : Option First → Beside → Option First → Beside → Type 0
Keeps wanted b found after = (found ≡ wanted) × (after ≡ b)

abbrev pub Finds : Beside → ObjId → SymId → Option First → Option First → Beside → Type 0
Finds b class name wanted found after = Finding b class name (λ m. Keeps wanted m found after)

-- `new` of a class

abbrev pub is_class : Option Sort → Bool
is_class (Some sort.Class) = true
is_class _ = false

abbrev pub initialize_by : Bool → Option Usual → Option Initialize
initialize_by full (Some (usual.Body m)) = if full then None else Some (initialize.Body m)
initialize_by full (Some (usual.Core n (row.Plain r))) = Some (initialize.Core r)
initialize_by full _ = None

abbrev pub makes : ObjId → Blank → Option Initialize → Option First
makes class k None = None
makes class k (Some i) = Some (first.Makes class k i)

abbrev pub initialize_of : Beside → ObjId → Option Initialize
initialize_of b class = initialize_by (is_full b) (found_in b class b.names.initialize)

abbrev pub Makes : Blank → Beside → ObjId → Option First → Beside → Type 0
Makes k b class found after =
    Finds b class b.names.initialize (makes class k (initialize_of b class)) found after

abbrev pub ObjectBy : Option Blank → Beside → ObjId → Option First → Beside → Type 0
ObjectBy None b class found after = Keeps None b found after
ObjectBy (Some k) b class found after = Makes k b class found after

abbrev pub a_class : Store → Value → Option ObjId
a_class st v = if is_class (sort_of_value st v) then views.object_in v else None

abbrev pub ObjectOf : Option ObjId → Beside → Option First → Beside → Type 0
ObjectOf None b found after = Keeps None b found after
ObjectOf (Some class) b found after = ObjectBy (blank_for b.heap.store class) b class found after

-- `raise` with a class, where its `new` is the core method and there is room

abbrev pub raised_in : List Value → Option Value
raised_in [] = None
raised_in (v ∷ []) = Some v
raised_in (v ∷ u ∷ []) = Some v
raised_in (v ∷ u ∷ w ∷ rest) = None

abbrev pub raises_by : Value → Option Usual → Option First
raises_by v (Some (usual.Core n (row.Star (star.Kernel kernel.NewObject)))) = Some (first.Raises v)
raises_by v _ = None

abbrev pub can_raise : Beside → Value → Bool
can_raise b v = is_class (sort_of_value b.heap.store v) && not (is_full b)

abbrev pub Raised : Value → Beside → Option First → Beside → Type 0
Raised v b found after = When (can_raise b v) (Finds b (class_of b.heap.store v) b.names.new
    (raises_by v (found_in b (class_of b.heap.store v) b.names.new)) found after) (Keeps None b found after)

abbrev pub RaiseOf : Option Value → Beside → Option First → Beside → Type 0
RaiseOf None b found after = Keeps None b found after
RaiseOf (Some v) b found after = Raised v b found after

-- `===` and `!=`, where `==` is a core method of the table, or the one of every object

abbrev pub told : Bool → Bool → Value
told true holds = truth (not holds)
told false holds = truth holds

abbrev pub told_by : Bool → Given → First
told_by negating (Gives v) = first.Gives (told negating (is_true v))
told_by negating (Raises e) = first.Throws e

pub record TellsByTable (negating : Bool) (number : ℕ) (r : Option CoreRow) (b : Beside) (i : Begun)
    (found : Option First) (after : Beside) : Type 0 where
  pub answer : Given
  pub heap : Held
  pub called : rows.CallsOfTable number r b.heap i.receiver (given b i) None answer heap
  pub tells : Keeps (Some (told_by negating answer)) (with_heap b heap) found after

abbrev pub tells_same : Bool → Value → List Value → Option First
tells_same negating v [] = None
tells_same negating v (u ∷ []) = Some (first.Tells (told negating (same_value v u)))
tells_same negating v (u ∷ w ∷ rest) = None

abbrev pub ByTable : Bool → ℕ → Option CoreRow → Beside → Begun → Option First → Beside → Type 0
ByTable negating n r b i found after = When (nat_eq (length (given b i)) 1)
    (TellsByTable negating n r b i found after) (Keeps None b found after)

abbrev pub EqualBy : Option Usual → Bool → Beside → Begun → Option First → Beside → Type 0
EqualBy (Some (usual.Core n (row.OfTable r))) negating b i found after = ByTable negating n r b i found after
EqualBy (Some (usual.Core n (row.Plain (plain.Object object.Same)))) negating b i found after =
    Keeps (tells_same negating i.receiver (given b i)) b found after
EqualBy _ negating b i found after = Keeps None b found after

abbrev pub EqualIn : ObjId → Bool → Beside → Begun → Option First → Beside → Type 0
EqualIn class negating b i found after = Finding b class b.names.equal
    (λ m. EqualBy (found_in b class b.names.equal) negating m i found after)

abbrev pub Equal : Bool → Beside → Begun → Option First → Beside → Type 0
Equal negating b i found after = EqualIn (class_of b.heap.store i.receiver) negating b i found after

-- by the row

abbrev pub FindsKernel : KernelRow → Beside → Begun → Option First → Beside → Type 0
FindsKernel kernel.NewObject b i found after = ObjectOf (a_class b.heap.store i.receiver) b found after
FindsKernel kernel.Raise b i found after = RaiseOf (raised_in (given b i)) b found after
FindsKernel kernel.Message b i found after = Keeps (message b i) b found after
FindsKernel r b i found after = Keeps (call_by r b i) b found after

abbrev pub FindsCompared : ComparingRow → Beside → Begun → Option First → Beside → Type 0
FindsCompared comparing.HashElement b i found after = Keeps (element b i) b found after
FindsCompared comparing.Matches b i found after = Equal false b i found after
FindsCompared comparing.Differs b i found after = Equal true b i found after
FindsCompared _ b i found after = Keeps None b found after

abbrev pub FindsItems : ItemsRow → Beside → Begun → Option First → Beside → Type 0
FindsItems (items.Compares r) b i found after = FindsCompared r b i found after
FindsItems (items.Enumerates r) b i found after = Keeps (of_enumerator r b i) b found after
FindsItems _ b i found after = Keeps None b found after

abbrev pub FindsFirst : StarRow → Beside → Begun → Option First → Beside → Type 0
FindsFirst (star.Items r) b i found after = FindsItems r b i found after
FindsFirst (star.Kernel r) b i found after = FindsKernel r b i found after
FindsFirst _ b i found after = Keeps None b found after

-- What is done.

-- a value goes to the level that waits, which mostly is a frame
abbrev pub ReceivesHere : Beside → Frame → Value → Flow → Frame → Beside → Type 0
ReceivesHere b f v flow g after = (flow ≡ flow_here b v) × ((g ≡ frame_here b f) × (after ≡ received_here b f v))

abbrev pub Receives : Beside → Frame → Value → Flow → Frame → Beside → Type 0
Receives b f v flow g after = (g ≡ f) × ((flow ≡ received_flow b v) × (after ≡ received b v))

-- an iteration waits, and its arguments are kept, or go

abbrev pub waiting_so : Beside → Begun → Iteration → Beside
waiting_so b i s = waits b (waiting i.number s)

abbrev pub without_arguments : Beside → Begun → Iteration → Beside
without_arguments b i s = arguments_gone (waiting_so b i s) i.arguments

-- what a resume or a yield hands over
abbrev pub value_of : Passed → Value
value_of passed.Nothing = Nil
value_of (passed.One v) = v
value_of (passed.Two v u) = v

abbrev pub ResumedTo : Resumed → Loaded → Beside → Frame → Passed → Flow → Frame → Beside → Type 0
ResumedTo (resumed.Refused e) c b f p flow g after = (g ≡ f) × FailsOut c b e flow after
ResumedTo (resumed.Begins block) c b f p flow g after = CallsWith c b f block p flow g after
ResumedTo resumed.Continues c b f p flow g after = ReceivesHere b f (value_of p) flow g after

abbrev pub ResumesHere : Loaded → Beside → Frame → ObjId → Passed → Flow → Frame → Beside → Type 0
ResumesHere c b f id p flow g after = ResumedTo (resume_answer b id) c (resumed_in b id) f p flow g after

abbrev pub YieldsHere : Loaded → Beside → Frame → Passed → Flow → Frame → Beside → Type 0
YieldsHere c b f p flow g after = When (is_resumed b) (ReceivesHere (yielded_in b) f (value_of p) flow g after)
    ((g ≡ f) × FailsOut c (yielded_in b) cause.RootYield flow after)

-- an object is made, and `initialize` called

abbrev pub object_made : Beside → Value
object_made b = Obj (next_number b.heap.store)

abbrev pub object_waits : Beside → Begun → ObjId → Blank → Beside
object_waits b i class k = waiting_so (with_heap b (with_blank b.heap class k)) i (state.Giving (object_made b))

pub record InitializesByCore (r : PlainRow) (c : Loaded) (b : Beside) (i : Begun) (object : Value) (flow : Flow)
    (after : Beside) : Type 0 where
  pub answer : Given
  pub heap : Held
  pub called : rows.CallsPlain r b.heap object (given b i) i.block answer heap
  pub left : HandedOut c.code (with_heap (arguments_gone b i.arguments) heap) (handed_of answer) flow after

abbrev pub method_entered : MethodBody → Begun → Entered
method_entered m i = record { body = m.body; outer = None; block = i.block; binds = bind.Method }

abbrev pub method_activation : MethodBody → Beside → Begun → Value → Activation
method_activation m b i object =
    activations.method_running m.owner m.classes b.names.initialize object i.block (b.activations + 1)

abbrev pub EntersInitialize : MethodBody → Loaded → Beside → Frame → Begun → Value → Flow → Frame → Beside → Type 0
EntersInitialize m c b f i object flow g after = (flow ≡ Stays)
    × ((g ≡ entering.frame_of b.seen f (b.activations + 1) (entering.registers c m.body)
    (method_activation m b i object) (method_entered m i) i.arguments)
    × (after ≡ entering.body_opened b (b.activations + 1) (entering.registers c m.body)
    (method_activation m b i object)))

abbrev pub Initializes : Initialize → Loaded → Beside → Frame → Begun → Value → Flow → Frame → Beside → Type 0
Initializes (initialize.Body m) c b f i object flow g after = EntersInitialize m c b f i object flow g after
Initializes (initialize.Core r) c b f i object flow g after =
    (g ≡ f) × InitializesByCore r c b i object flow after

-- the core `new` of a class begins, with the arguments behind the class

abbrev pub behind_first : Arguments → Arguments
behind_first args = record args { first = (args.first + 1) % 2 ^ 64; count = args.count - 1 }

abbrev pub new_begun : Beside → Begun → Value → Begun
new_begun b i class = record {
  number = b.activations + 1;
  row = star.Kernel kernel.NewObject;
  receiver = class;
  arguments = behind_first i.arguments;
  block = None;
}

abbrev pub new_begins : Beside → Begun → Value → Beside
new_begins b i class = record (waiting_so b i state.Raising) {
  seen = levels.with_begun (waiting_so b i state.Raising).seen (Some (new_begun b i class));
  activations = b.activations + 1;
}

-- the receiver is asked for what a core method gives

abbrev pub HandsOutOr : Option Given → Loaded → Beside → Frame → Flow → Frame → Beside → Type 0
HandsOutOr None c b f flow g after = (flow ≡ Ends) × ((g ≡ f) × (after ≡ b))
HandsOutOr (Some answer) c b f flow g after = (g ≡ f) × HandedOut c.code b (handed_of answer) flow after

pub record Asks (number : ℕ) (r : Row) (c : Loaded) (b : Beside) (f : Frame) (receiver : Value) (flow : Flow)
    (g : Frame) (after : Beside) : Type 0 where
  pub answer : Option Given
  pub heap : Held
  pub called : rows.CallsAtOnce r number b.heap receiver [] None answer heap
  pub left : HandsOutOr answer c (with_heap b heap) f flow g after

abbrev pub BeginsWith : First → Loaded → Beside → Frame → Begun → Flow → Frame → Beside → Type 0
BeginsWith (first.Gives v) c b f i flow g after = ReceivesHere (arguments_gone b i.arguments) f v flow g after
BeginsWith (first.Tells v) c b f i flow g after =
    Receives (without_arguments b i (state.Giving v)) f v flow g after
BeginsWith (first.Calls callee) c b f i flow g after =
    CallsCallee c (waiting_so b i state.Handing) f callee i.block i.arguments flow g after
BeginsWith (first.Puts callee v) c b f i flow g after =
    CallsCallee c (waiting_so b i (state.Giving v)) f callee None i.arguments flow g after
BeginsWith (first.Enumerates id s) c b f i flow g after =
    ResumesHere c (without_arguments b i (state.Items (items_state.Enumerates s))) f id passed.Nothing flow g after
BeginsWith (first.Resumes id p) c b f i flow g after =
    ResumesHere c (without_arguments b i state.Handing) f id p flow g after
BeginsWith (first.Yields p) c b f i flow g after =
    YieldsHere c (without_arguments b i state.Handing) f p flow g after
BeginsWith (first.Makes class k init) c b f i flow g after =
    Initializes init c (object_waits b i class k) f i (object_made b) flow g after
BeginsWith (first.Raises class) c b f i flow g after =
    (flow ≡ Wakes) × ((g ≡ f) × (after ≡ new_begins b i class))
BeginsWith (first.Throws e) c b f i flow g after =
    (g ≡ f) × RaisedOut c.code (arguments_gone b i.arguments) e flow after
BeginsWith (first.Asks number r) c b f i flow g after =
    Asks number r c (without_arguments b i state.Handing) f i.receiver flow g after

-- What is done in place, or nothing.

abbrev pub Flows : Option Flow → (Flow → Type 0) → Type 0
Flows None Known = ⊥
Flows (Some flow) Known = Known flow

abbrev pub BeginsOr : Option First → Loaded → Beside → Frame → Begun → Option Flow → Frame → Beside → Type 0
BeginsOr None c b f i flow g after = (flow ≡ None) × ((g ≡ f) × (after ≡ b))
BeginsOr (Some found) c b f i flow g after =
    Flows flow (λ next. BeginsWith found c (with_seen b (levels.with_begun b.seen None)) f i next g after)

pub record BeginsInPlace (c : Loaded) (b : Beside) (f : Frame) (i : Begun) (flow : Option Flow) (g : Frame)
    (after : Beside) : Type 0 where
  pub found : Option First
  pub left : Beside
  pub finds : FindsFirst i.row b i found left
  pub begins : BeginsOr found c left f i flow g after
