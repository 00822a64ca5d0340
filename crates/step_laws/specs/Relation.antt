-- When a configuration of the evaluation and a state of the machine are alike: the fiber that runs, whose focus goes
-- with its frame or its iteration, all that waits below, each other fiber, and each scope with its list of registers.
use Rattle.std.specs.Prelude.{◌≡◌, ◌⊎◌, ◌<◌, ◌≤◌, ℕ, ◌+◌, List, [], ◌∷◌, length, Bool, true, false, Option, Some, None, is_some, unwrap_or, nat_eq, if◌then◌else◌, slice_get, get_or}
use Rattle.rb_value.specs.declared.value.Value.{Value}
use Rattle.rb_value.specs.declared.value.Value.TheVariants.{Nil, Obj}
use Rattle.rb_value.specs.declared.value.ObjId.{ObjId}
use Rattle.rb_value.specs.declared.exit.Exit.TheVariants.{Raise, Return, Jump}
use Rattle.rb_value.specs.declared.exit.Slot.TheVariants.{V}
use Rattle.rite_code.specs.Code.{Program}
use Rattle.rite_code.specs.declared.operation.Operation.{Operation}
use Rattle.rite_code.specs.declared.operation.Operation.TheVariants as op
use Rattle.ir_core.specs.CoreForm.{Local, CoreForm, Clauses, no_clauses, clause}
use Rattle.gen_parts.specs.declared.line.Line.TheVariants as line
use Rattle.gen_parts.specs.declared.line.Catch.{Catch}
use Rattle.gen_parts.specs.declared.emitter.Spot.{Spot}
use Rattle.gen_forms.specs.declared.context.Loop.{Loop}
use Rattle.gen_forms.specs.Gen.{gen}
use Rattle.path_eval.specs.Steps.{Matched}
use Rattle.def_calls.specs.World.{World, main_program, activation_at}
use Rattle.def_calls.specs.Values.{elements_or_itself}
use Rattle.def_calls.specs.Calls.{Sending}
use Rattle.def_calls.specs.Plans.{Iteration}
use Rattle.def_calls.specs.Fibers.{Fibers}
use Rattle.def_calls.specs.Fibers as fibers
use Rattle.def_eval.specs.Source.{Source}
use Rattle.def_eval.specs.Configuration as source
use Rattle.def_eval.specs.Configuration.{Place, Scope, Exit, raise, leave_loop, next, Stop, passes, loops, rescues, assigns, retries, ensures, stop_of, Part, operands, receiver, items, block, elements, hash_key, hash_value, pieces, rest, test, chosen, and_then, or_else, loop_test, loop_body, rescued, clause_class, clause_target, clause_body, ensured, Item, part, activation, iteration, ensuring, Kept, Focus, perform, give, travel, Config, Run, Halt, seen}
use Rattle.def_eval.specs.Scopes.{value_in, scope_at}
use Rattle.def_eval.specs.Forms.{is_under_way}
use Rattle.def_eval.specs.Transition.{go}
use Rattle.def_machine.specs.State as machine
use Rattle.def_machine.specs.State.{Registers, Frame, Level, frame, State, On, Off, Stuck, body_at, list_at, slot_at, value_at, shown}
use Rattle.def_machine.specs.Unwind.{covering, receive, throw}
use Rattle.def_machine.specs.Turn.{turn}
use Rattle.scope_laws.specs.Numbers.{parents, outers}
use Rattle.scope_resolver.specs.declared.seek.Search.TheVariants.{Past}
use Rattle.scope_resolver.specs.Layout.{Scopes, seek}
use Rattle.code_laws.specs.Bound.{IsSeen}
use Rattle.def_core.specs.Sound.{OptionIs}
use Rattle.def_eval.specs.Entering.{first_of}
use Rattle.eval_laws.specs.Procs.{HasProc}
use Rattle.step_laws.specs.Around.{is_found, Around, first_slots, further_slots}
use Rattle.step_laws.specs.Site.{Site, guarded_by, bare, IsGuarded, within, place_in, at_line, LineAt, Room, register, Known}
use Rattle.step_laws.specs.Passed.{IsAtOnce}
use Rattle.step_laws.specs.Covers.{Covers}
use Rattle.step_laws.specs.Calm.{StaysCalm}
use Rattle.step_laws.specs.Measure.{measure}
use Rattle.step_laws.specs.Far.{ends_itself, Far, exit_to, thrown_to, home_exit}
use Rattle.step_laws.specs.Standing.{high, Stands, Rest, frame_at}
use Rattle.step_laws.specs.Behind.{Static, HoldsCall, PassesBlock, LoopAt, Behind, IsAround}

-- a body that has no clauses lets every exit pass, and none of its own covers it
abbrev pub HasNone : Clauses → Type 0
HasNone no_clauses = Unit {0}
HasNone (clause es t b cs) = ⊥

abbrev pub Caught : Clauses → List Catch → (List Catch → Type 0) → Type 0
Caught no_clauses gs P = P gs
Caught (clause es t b cs) gs P = (c : Catch) × (ds : List Catch) × (gs ≡ c ∷ ds) × P ds

-- What is so of the entries around what waits behind a part: behind one that takes exits there is one entry less.
abbrev pub Outside : Stop → List Catch → (List Catch → Type 0) → Type 0
Outside passes gs P = P gs
Outside (loops n t b) gs P = P gs
Outside (rescues n r) gs P = Caught r.clauses gs P
Outside (assigns e r) gs P = P gs
Outside (retries r) gs P = P gs
Outside (ensures n e) gs P = (c : Catch) × (ds : List Catch) × (gs ≡ c ∷ ds) × P ds

-- The items inside of an activation, where a value is awaited in register r at line n in the code of that loop. What holds
-- at its end, of its number, the place of its caller and the items below, is a parameter; no entry is around that.
abbrev pub Inside : Site → List Registers → (ℕ → Place → List Item → ℕ → ℕ → Type 0) → List Item → ℕ → ℕ → Option Loop
    → Type 0
Inside h l AtEnd [] n r around = ⊥
Inside h l AtEnd (part k ∷ ks) n r around = record {
  low : ℕ;
  end : ℕ;
  above : h.first ≤ low;
  below : low ≤ r;
  behind : Behind h l k low n r end around;
  outer : Option Loop;
  inner : IsAround (stop_of k) around outer;
  next : Outside (stop_of k) h.guards (λ gs. Inside (guarded_by h gs) l AtEnd ks end low outer);
}
Inside h l AtEnd (activation a place ∷ ks) n r around = AtEnd a place ks n r × (around ≡ None) × (h.guards ≡ [])
Inside h l AtEnd (iteration a it place ∷ ks) n r around = ⊥
Inside h l AtEnd (ensuring o ∷ ks) n r around = ⊥

-- The end of the code of a body: the main program stops, and is the last of the fiber that has no Fiber object; every
-- other body returns its value to what is below.
pub data EndsBy (h : Site) (fiber : fibers.Name) (below : List Level) (Further : Place → List Item → Type 0)
    (place : Place) (ks : List Item) (n r : ℕ) : Type 0 where
  stops : LineAt h n (line.Does op.Stop) → h.runs ≡ main_program → ks ≡ [] → below ≡ [] → fiber ≡ fibers.root
      → EndsBy h fiber below Further place ks n r
  returns : LineAt h n (line.Does (op.Return r)) → Further place ks → EndsBy h fiber below Further place ks n r

pub record Ends (h : Site) (fiber : fibers.Name) (below : List Level) (Further : Place → List Item → Type 0) (a : ℕ)
    (place : Place) (ks : List Item) (n r : ℕ) : Type 0 where
  pub is : a ≡ h.activation
  pub by : EndsBy h fiber below Further place ks n r

-- a site is that of its list of registers, with any guards
abbrev pub IsSite : List Site → Site → Type 0
IsSite hs h = slice_get hs h.list ≡ Some (bare h)

-- A frame that waits for the value of a call, from that place on.
pub record WaitsIn (hs : List Site) (fiber : fibers.Name) (l : List Registers) (below : List Level)
    (Further : Place → List Item → Type 0) (ks : List Item) (place : Place) (f : Frame) : Type 0 where
  pub h : Site
  pub x : Rest
  pub at : ℕ
  pub n : ℕ
  pub is : f ≡ frame_at h x at
  pub site : IsSite hs h
  pub after : x.after ≡ at_line h n
  pub room : Room h x.waits
  pub there : place ≡ place_in h
  pub guarded : IsGuarded h at
  pub around : Option Loop
  pub next : Inside h l (λ a p is i r. Ends (bare h) fiber below Further a p is i r) ks n x.waits around

-- The levels of a fiber that wait for a value as its items do, from that place on: frames and iterations, down to the
-- last.
abbrev pub Waits : List Site → fibers.Name → List Registers → List Item → Place → List Level → Type 0
Waits hs fiber l ks place [] = ks ≡ []
Waits hs fiber l ks place (frame f ∷ ls) =
    WaitsIn hs fiber l ls (λ p is. Waits hs fiber l is p ls) ks place f
Waits hs fiber l ks place (machine.iteration a it v ∷ ls) = record {
  others : List Item;
  back : Place;
  is : ks ≡ iteration a it back ∷ others;
  next : Waits hs fiber l others back ls;
}

-- Where a frame runs, or an iteration: the sites of all lists of registers, the fiber, and the levels below it.
pub record Ground : Type 0 where
  pub sites : List Site
  pub fiber : fibers.Name
  pub below : List Level

-- on other levels
abbrev pub over_levels : Ground → List Level → Ground
over_levels g ls = record g { below = ls }

-- what waits below
abbrev pub WaitsBelow : Ground → List Registers → List Item → Place → Type 0
WaitsBelow g l ks place = Waits g.sites g.fiber l ks place g.below

-- the items of the frame that runs, and what waits below them
abbrev pub InFrame : Ground → Site → List Registers → List Item → ℕ → ℕ → Option Loop → Type 0
InFrame g h l ks n r around =
    Inside h l (λ a p is i t. Ends (bare h) g.fiber g.below (λ q js. Waits g.sites g.fiber l js q g.below) a p is i t) ks n
    r around

-- parts that an exception passes
abbrev pub IsPassed : Stop → Type 0
IsPassed passes = Unit {0}
IsPassed (loops n t b) = Unit {0}
IsPassed (rescues n r) = HasNone r.clauses
IsPassed (assigns e r) = Unit {0}
IsPassed (retries r) = Unit {0}
IsPassed (ensures n e) = ⊥

-- The levels that an exception leaves as it leaves the items.
abbrev pub Leaving : List Site → fibers.Name → List Registers → List Item → List Level → Type 0
Leaving hs fiber l [] ls = ls ≡ []
Leaving hs fiber l (part k ∷ ks) ls = IsPassed (stop_of k) × Leaving hs fiber l ks ls
Leaving hs fiber l (activation a place ∷ ks) ls = record {
  h : Site;
  x : Rest;
  at : ℕ;
  below : List Level;
  is : ls ≡ frame (frame_at h x at) ∷ below;
  site : IsSite hs h;
  same : a ≡ h.activation;
  unguarded : covering h.program h.body (at_line h at) ≡ [];
  next : Waits hs fiber l ks place below;
}
Leaving hs fiber l (iteration a it p ∷ ks) ls = record {
  answer : Value;
  below : List Level;
  is : ls ≡ machine.iteration a it answer ∷ below;
  next : Waits hs fiber l ks p below;
}
Leaving hs fiber l (ensuring o ∷ ks) ls = ⊥

-- the locals that a scope has are those that its body has slots of, but for hidden ones
abbrev pub Mirrors : Site → Scope → Type 0
Mirrors h c = (x : Local) → IsSeen x
    → is_some (value_in c.variables x) ≡ is_found (seek x (first_slots h.context.scopes) (Past 1))

-- The scope and the list of registers of a body.
pub record Same (h : Site) (cs : List Scope) (l : List Registers) : Type 0 where
  pub scope : h.list < length cs
  pub mirrors : Mirrors h (scope_at cs h.list)
  pub present : h.list < length l
  pub long : length (list_at l h.list).slots ≡ (body_at h.program h.body).registers
  pub self : value_at l h.list 0 ≡ h.self
  pub alike : (x : Local) → Known h x
      → unwrap_or (value_in (scope_at cs h.list).variables x) Nil ≡ value_at l h.list (register h x)

-- What holds of a site of the source and its code: its scope and its list, and the activation, which is as it was opened.
pub record SiteIs (s : Source) (p : Program) (h : Site) (cs : List Scope) (l : List Registers) (w : World) : Type 0
  where
    pub source : h.source ≡ s
    pub program : h.program ≡ p
    pub static : Static h
    pub same : Same h cs l
    pub from_one : 1 ≤ h.activation
    pub opened : h.activation ≤ length w.activations
    pub self : (activation_at w h.activation).self ≡ h.self
    pub runs : (activation_at w h.activation).runs ≡ h.runs
    -- a return in it ends itself, but for that of a block
    pub home : ends_itself h.context.kind_of ≡ true → (activation_at w h.activation).home ≡ h.activation

-- what is around a scope is one of a body whose slots are those that its code sees around its own; where nothing is, it
-- sees none
abbrev pub Linked : List Site → Scopes → Option ℕ → Type 0
Linked hs around None = around ≡ []
Linked hs around (Some n) = (g : Site) × IsSite hs g × (g.list ≡ n) × (g.context.scopes ≡ around)

-- a body of a Proc sees the slots of the body whose scope is the first around it
abbrev pub SeesIn : Source → List Site → ℕ → List ℕ → Type 0
SeesIn s hs b ns = (around : Scopes) × Around s b around × Linked hs around (first_of ns)

-- each scope and the list of registers of its number have a site
pub record SitesAre (s : Source) (p : Program) (hs : List Site) (cs : List Scope) (l : List Registers) (w : World)
    : Type 0 where
  pub scopes : length cs ≡ length hs
  pub lists : length l ≡ length hs
  pub around : outers l ≡ parents cs
  pub each : (h : Site) → IsSite hs h → SiteIs s p h cs l w
  pub linked : (h : Site) → IsSite hs h
      → Linked hs (further_slots h.context.scopes) (get_or (parents cs) h.list None)
  pub below : (h : Site) → IsSite hs h → OptionIs (λ n. n < h.list) (get_or (parents cs) h.list None)
  pub procs : (b : ℕ) (ns : List ℕ) → HasProc w.store.objects b ns → SeesIn s hs b ns

-- Fibers that wait, one by one.

pub record FiberIs (hs : List Site) (l : List Registers) (f : fibers.Fiber Kept) (g : fibers.Fiber (List Level)) : Type 0
  where
    pub name : g.name ≡ f.name
    pub wait : g.wait ≡ f.wait
    pub resumer : g.resumer ≡ f.resumer
    pub rooted : f.name ≡ fibers.root → f.resumer ≡ None
    pub some : 0 < length g.kept
    pub waits : Waits hs f.name l f.kept.items f.kept.place g.kept

abbrev pub FibersAre : List Site → List Registers → List (fibers.Fiber Kept) → List (fibers.Fiber (List Level)) → Type 0
FibersAre hs l [] [] = Unit {0}
FibersAre hs l [] (g ∷ gs) = ⊥
FibersAre hs l (f ∷ fs) [] = ⊥
FibersAre hs l (f ∷ fs) (g ∷ gs) = FiberIs hs l f g × FibersAre hs l fs gs

-- the one that runs has that name, and where it has no Fiber object nothing resumed it
pub record AllFibers (hs : List Site) (name : fibers.Name) (l : List Registers) (fs : Fibers Kept)
    (gs : Fibers (List Level)) : Type 0 where
  pub running : fs.running ≡ name
  pub running_too : gs.running ≡ name
  pub resumer : gs.resumer ≡ fs.resumer
  pub rooted : name ≡ fibers.root → fs.resumer ≡ None
  pub others : FibersAre hs l fs.others gs.others

-- how many frames have the list of that number
abbrev pub uses : ℕ → List Level → ℕ
uses n [] = 0
uses n (frame f ∷ ls) = (if nat_eq n f.list then 1 else 0) + uses n ls
uses n (machine.iteration a it v ∷ ls) = uses n ls

abbrev pub uses_in : ℕ → List (fibers.Fiber (List Level)) → ℕ
uses_in n [] = 0
uses_in n (f ∷ fs) = uses n f.kept + uses_in n fs

-- What both sides keep: one world, the sites, and the fibers, none of whose frames has the list of another one.
pub record Both (s : Source) (p : Program) (g : Ground) (m : source.Memory) (k : machine.Memory) : Type 0 where
  pub world : k.world ≡ m.world
  pub sites : SitesAre s p g.sites m.scopes k.lists m.world
  pub fibers : AllFibers g.sites g.fiber k.lists m.fibers k.fibers
  pub apart : (n : ℕ) → uses n g.below + uses_in n k.fibers.others ≤ 1

-- and that of the frame that runs is its own
pub record Running (s : Source) (p : Program) (g : Ground) (h : Site) (m : source.Memory) (k : machine.Memory) : Type 0
  where
    pub all : Both s p g m k
    pub site : IsSite g.sites h
    pub free : uses h.list g.below + uses_in h.list k.fibers.others ≡ 0

abbrev pub Common : Ground → Site → source.Memory → machine.Memory → Type 0
Common g h m k = Running h.source h.program g h m k

-- a form is about to be done in register r, from line n on
pub record Doing (g : Ground) (h : Site) (j : ℕ) (e : CoreForm) (ks : List Item) (place : Place) (ls : List Level)
    (l : List Registers) : Type 0 where
  pub x : Rest
  pub n : ℕ
  pub r : ℕ
  pub is : ls ≡ frame (frame_at h x n) ∷ g.below
  pub there : place ≡ place_in h
  pub loop : Option Loop
  pub s : Spot
  pub here : s.line ≡ n
  pub covered : Covers h loop r s j e
  pub above : h.first ≤ r
  pub code : Stands h n (gen (within h loop) s r e)
  pub next : InFrame g h l ks (n + high (gen (within h loop) s r e)) r loop

-- the value stands in register r at line n
pub record GivesIn (g : Ground) (h : Site) (v : Value) (ks : List Item) (place : Place) (ls : List Level)
    (l : List Registers) : Type 0 where
  pub x : Rest
  pub n : ℕ
  pub r : ℕ
  pub is : ls ≡ frame (frame_at h x n) ∷ g.below
  pub there : place ≡ place_in h
  pub stands : slot_at l h.list r ≡ V v
  pub loop : Option Loop
  pub next : InFrame g h l ks n r loop

-- a frame runs to which a value is given
abbrev pub GivenIn : Source → Program → Value → List Item → source.Memory → List Level → machine.Memory → Type 0
GivenIn s p v ks m ls k = (g : Ground) × (h : Site) × Running s p g h m k × GivesIn g h v ks m.place ls k.lists

-- the next turn gives the value to what resumed the fiber
pub record GivesOut (s : Source) (p : Program) (v : Value) (m : source.Memory) (ls : List Level) (k : machine.Memory)
    : Type 0 where
  pub g : Ground
  pub memory : machine.Memory
  pub last : g.below ≡ []
  pub gives : turn p (On ls k) ≡ receive v [] memory
  pub out : k.world.out ≡ m.world.out
  pub both : Both s p g m memory

-- an iteration goes on with the value
pub record GoesOn (s : Source) (p : Program) (v : Value) (a : ℕ) (it : Iteration) (place : Place) (ks : List Item)
    (m : source.Memory) (ls : List Level) (k : machine.Memory) : Type 0 where
  pub g : Ground
  pub is : ls ≡ machine.iteration a it v ∷ g.below
  pub both : Both s p g m k
  pub waits : WaitsBelow g k.lists ks place

-- Where the arguments of a call stand in an Array, which its block doesn't change: at line n is the call, with the block in
-- register r.
pub record HandsArray (g : Ground) (h : Site) (w : World) (q : Sending) (recv : Value) (vs : List Value) (ks : List Item)
    (l : List Registers) (n r : ℕ) (around : Option Loop) : Type 0 where
  pub low : ℕ
  pub at : low + 1 + 1 ≡ r
  pub own : Bool
  pub room : Room h low
  pub called : HoldsCall h l own low recv []
  pub id : ObjId
  pub held : slot_at l h.list (low + 1) ≡ V (Obj id)
  pub elements : elements_or_itself w (Obj id) ≡ vs
  pub sender : Operation
  pub passes : PassesBlock h low own q 255 sender
  pub sends : LineAt h n (line.Does sender)
  pub next : InFrame g h l ks (n + 1) low around

-- the block has its value
pub record Handed (g : Ground) (h : Site) (v : Value) (q : Sending) (recv : Value) (vs : List Value) (ks : List Item)
    (m : source.Memory) (ls : List Level) (l : List Registers) : Type 0 where
  pub x : Rest
  pub n : ℕ
  pub r : ℕ
  pub is : ls ≡ frame (frame_at h x n) ∷ g.below
  pub there : m.place ≡ place_in h
  pub stands : slot_at l h.list r ≡ V v
  pub loop : Option Loop
  pub hands : HandsArray g h m.world q recv vs ks l n r loop

abbrev pub HandsBlock : Source → Program → Value → Sending → Value → List Value → List Item → source.Memory → List Level
    → machine.Memory → Type 0
HandsBlock s p v q recv vs ks m ls k =
    (g : Ground) × (h : Site) × Running s p g h m k × Handed g h v q recv vs ks m ls k.lists

-- or is about to be done
pub record Handing (g : Ground) (h : Site) (j : ℕ) (e : CoreForm) (q : Sending) (recv : Value) (vs : List Value)
    (ks : List Item) (m : source.Memory) (ls : List Level) (l : List Registers) : Type 0 where
  pub x : Rest
  pub n : ℕ
  pub r : ℕ
  pub is : ls ≡ frame (frame_at h x n) ∷ g.below
  pub there : m.place ≡ place_in h
  pub at_once : IsAtOnce e
  pub loop : Option Loop
  pub s : Spot
  pub here : s.line ≡ n
  pub covered : Covers h loop r s j e
  pub code : Stands h n (gen (within h loop) s r e)
  pub hands : HandsArray g h m.world q recv vs ks l (n + high (gen (within h loop) s r e)) r loop

abbrev pub HandsOn : Source → Program → ℕ → CoreForm → Sending → Value → List Value → List Item → source.Memory
    → List Level → machine.Memory → Type 0
HandsOn s p j e q recv vs ks m ls k =
    (g : Ground) × (h : Site) × Running s p g h m k × Handing g h j e q recv vs ks m ls k.lists

abbrev pub GivenBehind : Source → Program → Value → Part → List Item → source.Memory → List Level → machine.Memory → Type 0
GivenBehind s p v (operands j a vs es) ks m ls k = GivenIn s p v (part (operands j a vs es) ∷ ks) m ls k
GivenBehind s p v (receiver j x is b) ks m ls k = GivenIn s p v (part (receiver j x is b) ∷ ks) m ls k
GivenBehind s p v (items j q recv vs is b) ks m ls k = GivenIn s p v (part (items j q recv vs is b) ∷ ks) m ls k
GivenBehind s p v (block q recv vs) ks m ls k =
    GivenIn s p v (part (block q recv vs) ∷ ks) m ls k ⊎ HandsBlock s p v q recv vs ks m ls k
GivenBehind s p v (elements j q o t is) ks m ls k = GivenIn s p v (part (elements j q o t is) ∷ ks) m ls k
GivenBehind s p v (hash_key j o e ps) ks m ls k = GivenIn s p v (part (hash_key j o e ps) ∷ ks) m ls k
GivenBehind s p v (hash_value j o u ps) ks m ls k = GivenIn s p v (part (hash_value j o u ps) ∷ ks) m ls k
GivenBehind s p v (pieces j o es) ks m ls k = GivenIn s p v (part (pieces j o es) ∷ ks) m ls k
GivenBehind s p v (rest j es) ks m ls k = GivenIn s p v (part (rest j es) ∷ ks) m ls k
GivenBehind s p v (test j b bs o) ks m ls k = GivenIn s p v (part (test j b bs o) ∷ ks) m ls k
GivenBehind s p v chosen ks m ls k = GivenIn s p v (part chosen ∷ ks) m ls k
GivenBehind s p v (and_then j e) ks m ls k = GivenIn s p v (part (and_then j e) ∷ ks) m ls k
GivenBehind s p v (or_else j e) ks m ls k = GivenIn s p v (part (or_else j e) ∷ ks) m ls k
GivenBehind s p v (loop_test j t b) ks m ls k = GivenIn s p v (part (loop_test j t b) ∷ ks) m ls k
GivenBehind s p v (loop_body j t b) ks m ls k = GivenIn s p v (part (loop_body j t b) ∷ ks) m ls k
GivenBehind s p v (rescued j b cs o) ks m ls k = GivenIn s p v (part (rescued j b cs o) ∷ ks) m ls k
GivenBehind s p v (clause_class j e es t b cs q) ks m ls k =
    GivenIn s p v (part (clause_class j e es t b cs q) ∷ ks) m ls k
GivenBehind s p v (clause_target j e b q) ks m ls k = GivenIn s p v (part (clause_target j e b q) ∷ ks) m ls k
GivenBehind s p v (clause_body q) ks m ls k = GivenIn s p v (part (clause_body q) ∷ ks) m ls k
GivenBehind s p v (ensured j e) ks m ls k = GivenIn s p v (part (ensured j e) ∷ ks) m ls k

abbrev pub Giving : Source → Program → Value → List Item → source.Memory → List Level → machine.Memory → Type 0
Giving s p v [] m ls k = GivesOut s p v m ls k
Giving s p v (part q ∷ ks) m ls k = GivenBehind s p v q ks m ls k
Giving s p v (activation a q ∷ ks) m ls k = GivenIn s p v (activation a q ∷ ks) m ls k
Giving s p v (iteration a it q ∷ ks) m ls k = GoesOn s p v a it q ks m ls k
Giving s p v (ensuring o ∷ ks) m ls k = ⊥

-- The next turn throws the exception from the levels below.
pub record Throwing (s : Source) (p : Program) (x : Exit) (ks : List Item) (m : source.Memory) (ls : List Level)
    (k : machine.Memory) : Type 0 where
  pub g : Ground
  pub e : ObjId
  pub exception : x ≡ raise e
  pub memory : machine.Memory
  pub throws : turn p (On ls k) ≡ throw p (Raise e) g.below memory
  pub out : k.world.out ≡ m.world.out
  pub both : Both s p g m memory
  pub leaving : Leaving g.sites g.fiber memory.lists ks g.below

-- The way out of the loop with that target: parts that the exit passes, and the loop among its items.
pub record LoopWay (g : Ground) (h : Site) (l : List Registers) (j : ℕ) (t b : CoreForm) (ks : List Item) (target : Loop)
    : Type 0 where
  pub low : ℕ
  pub end : ℕ
  pub loop : LoopAt h low j t b end
  pub inside : loop.target ≡ target
  pub outer : Option Loop
  pub next : InFrame g h l ks end low outer

abbrev pub WayPast : Clauses → Type 0 → Type 0
WayPast no_clauses further = further
WayPast (clause es t b cs) further = ⊥

abbrev pub WayBy : Stop → Type 0 → (ℕ → CoreForm → CoreForm → Type 0) → Type 0
WayBy passes further at = further
WayBy (loops n t b) further at = at n t b
WayBy (rescues n r) further at = WayPast r.clauses further
WayBy (assigns e r) further at = ⊥
WayBy (retries r) further at = ⊥
WayBy (ensures n e) further at = ⊥

abbrev pub Way : Ground → Site → List Registers → List Item → Loop → Type 0
Way g h l [] target = ⊥
Way g h l (part k ∷ ks) target = WayBy (stop_of k) (Way g h l ks target) (λ j t b. LoopWay g h l j t b ks target)
Way g h l (activation a place ∷ ks) target = ⊥
Way g h l (iteration a it place ∷ ks) target = ⊥
Way g h l (ensuring o ∷ ks) target = ⊥

-- an exit to the end of the loop, whose value stands in its register, or to its next round, by the line where it leads
pub data LeavesTo (h : Site) (l : List Registers) (x : Exit) (to : ℕ) (target : Loop) : Type 0 where
  to_end : (v : Value) → x ≡ leave_loop v → to ≡ target.out → slot_at l h.list target.value ≡ V v
      → LeavesTo h l x to target
  to_round : (v : Value) → x ≡ next v → to ≡ target.round → LeavesTo h l x to target

-- The next turn jumps through ensure parts, out of the innermost loop or to its next round.
pub record Leaps (s : Source) (p : Program) (e : Exit) (ks : List Item) (m : source.Memory) (ls : List Level)
    (k : machine.Memory) : Type 0 where
  pub g : Ground
  pub h : Site
  pub both : Running s p g h m k
  pub x : Rest
  pub n : ℕ
  pub is : ls ≡ frame (frame_at h x n) ∷ g.below
  pub there : m.place ≡ place_in h
  pub to : ℕ
  pub throws : turn h.program (On (frame (frame_at h x n) ∷ g.below) k)
      ≡ throw h.program (Jump h.activation (at_line h to)) (frame (frame_at h x n) ∷ g.below) k
  pub guarded : IsGuarded h n
  pub target : Loop
  pub by : LeavesTo h k.lists e to target
  pub way : Way g h k.lists ks target

-- parts that a next passes which is out of its loops
abbrev pub IsFree : Stop → Type 0
IsFree passes = Unit {0}
IsFree (loops n t b) = ⊥
IsFree (rescues n r) = HasNone r.clauses
IsFree (assigns e r) = ⊥
IsFree (retries r) = ⊥
IsFree (ensures n e) = ⊥

-- and those that a return passes
abbrev pub IsLeft : Bool → Stop → Type 0
IsLeft false o = IsPassed o
IsLeft true o = IsFree o

-- The parts that a return or a next passes, down to the end of its activation, and what waits below.
abbrev pub Home : Ground → Site → List Registers → Bool → List Item → Type 0
Home g h l round [] = ⊥
Home g h l round (part k ∷ ks) = IsLeft round (stop_of k) × Home g h l round ks
Home g h l round (activation a place ∷ ks) =
    (a ≡ h.activation) × Waits g.sites g.fiber l ks place g.below × (h.guards ≡ [])
Home g h l round (iteration a it place ∷ ks) = ⊥
Home g h l round (ensuring o ∷ ks) = ⊥

-- The next turn returns the value.
pub record GoesHome (s : Source) (p : Program) (e : Exit) (ks : List Item) (m : source.Memory) (ls : List Level)
    (k : machine.Memory) : Type 0 where
  pub g : Ground
  pub h : Site
  pub both : Running s p g h m k
  pub x : Rest
  pub n : ℕ
  pub is : ls ≡ frame (frame_at h x n) ∷ g.below
  pub value : Value
  pub round : Bool
  pub exit : e ≡ home_exit round h.activation value
  pub throws : turn h.program (On (frame (frame_at h x n) ∷ g.below) k)
      ≡ throw h.program (Return h.activation value) (frame (frame_at h x n) ∷ g.below) k
  pub guarded : IsGuarded h n
  pub home : Home g h k.lists round ks

-- The next turn throws the exit to an activation that is under way from the levels below.
pub record GoesFar (s : Source) (p : Program) (x : Exit) (ks : List Item) (m : source.Memory) (ls : List Level)
    (k : machine.Memory) : Type 0 where
  pub g : Ground
  pub by : Far
  pub to : ℕ
  pub value : Value
  pub exit : x ≡ exit_to by to value
  pub memory : machine.Memory
  pub throws : turn p (On ls k) ≡ throw p (thrown_to by to value) g.below memory
  pub out : k.world.out ≡ m.world.out
  pub both : Both s p g m memory
  pub leaving : Leaving g.sites g.fiber memory.lists ks g.below
  pub under_way : is_under_way ks to ≡ true

pub data Travels (s : Source) (p : Program) (x : Exit) (ks : List Item) (m : source.Memory) (ls : List Level)
    (k : machine.Memory) : Type 0 where
  raised : Throwing s p x ks m ls k → Travels s p x ks m ls k
  leaping : Leaps s p x ks m ls k → Travels s p x ks m ls k
  returning : GoesHome s p x ks m ls k → Travels s p x ks m ls k
  going_far : GoesFar s p x ks m ls k → Travels s p x ks m ls k

-- a frame runs in which a form is about to be done
abbrev pub DoingIn : Source → Program → ℕ → CoreForm → List Item → source.Memory → List Level → machine.Memory → Type 0
DoingIn s p j e ks m ls k = (g : Ground) × (h : Site) × Running s p g h m k × Doing g h j e ks m.place ls k.lists

abbrev pub DoingBehind : Source → Program → ℕ → CoreForm → Part → List Item → source.Memory → List Level → machine.Memory
    → Type 0
DoingBehind s p j e (operands i a vs es) ks m ls k = DoingIn s p j e (part (operands i a vs es) ∷ ks) m ls k
DoingBehind s p j e (receiver i x is b) ks m ls k = DoingIn s p j e (part (receiver i x is b) ∷ ks) m ls k
DoingBehind s p j e (items i q recv vs is b) ks m ls k = DoingIn s p j e (part (items i q recv vs is b) ∷ ks) m ls k
DoingBehind s p j e (block q recv vs) ks m ls k =
    DoingIn s p j e (part (block q recv vs) ∷ ks) m ls k ⊎ HandsOn s p j e q recv vs ks m ls k
DoingBehind s p j e (elements i q o t is) ks m ls k = DoingIn s p j e (part (elements i q o t is) ∷ ks) m ls k
DoingBehind s p j e (hash_key i o d ps) ks m ls k = DoingIn s p j e (part (hash_key i o d ps) ∷ ks) m ls k
DoingBehind s p j e (hash_value i o u ps) ks m ls k = DoingIn s p j e (part (hash_value i o u ps) ∷ ks) m ls k
DoingBehind s p j e (pieces i o es) ks m ls k = DoingIn s p j e (part (pieces i o es) ∷ ks) m ls k
DoingBehind s p j e (rest i es) ks m ls k = DoingIn s p j e (part (rest i es) ∷ ks) m ls k
DoingBehind s p j e (test i b bs o) ks m ls k = DoingIn s p j e (part (test i b bs o) ∷ ks) m ls k
DoingBehind s p j e chosen ks m ls k = DoingIn s p j e (part chosen ∷ ks) m ls k
DoingBehind s p j e (and_then i d) ks m ls k = DoingIn s p j e (part (and_then i d) ∷ ks) m ls k
DoingBehind s p j e (or_else i d) ks m ls k = DoingIn s p j e (part (or_else i d) ∷ ks) m ls k
DoingBehind s p j e (loop_test i t b) ks m ls k = DoingIn s p j e (part (loop_test i t b) ∷ ks) m ls k
DoingBehind s p j e (loop_body i t b) ks m ls k = DoingIn s p j e (part (loop_body i t b) ∷ ks) m ls k
DoingBehind s p j e (rescued i b cs o) ks m ls k = DoingIn s p j e (part (rescued i b cs o) ∷ ks) m ls k
DoingBehind s p j e (clause_class i x es t b cs q) ks m ls k =
    DoingIn s p j e (part (clause_class i x es t b cs q) ∷ ks) m ls k
DoingBehind s p j e (clause_target i x b q) ks m ls k = DoingIn s p j e (part (clause_target i x b q) ∷ ks) m ls k
DoingBehind s p j e (clause_body q) ks m ls k = DoingIn s p j e (part (clause_body q) ∷ ks) m ls k
DoingBehind s p j e (ensured i d) ks m ls k = DoingIn s p j e (part (ensured i d) ∷ ks) m ls k

abbrev pub Performing : Source → Program → ℕ → CoreForm → List Item → source.Memory → List Level → machine.Memory → Type 0
Performing s p j e [] m ls k = DoingIn s p j e [] m ls k
Performing s p j e (part q ∷ ks) m ls k = DoingBehind s p j e q ks m ls k
Performing s p j e (activation a q ∷ ks) m ls k = DoingIn s p j e (activation a q ∷ ks) m ls k
Performing s p j e (iteration a it q ∷ ks) m ls k = DoingIn s p j e (iteration a it q ∷ ks) m ls k
Performing s p j e (ensuring o ∷ ks) m ls k = DoingIn s p j e (ensuring o ∷ ks) m ls k

abbrev pub Agree : Source → Program → Focus → List Item → source.Memory → List Level → machine.Memory → Type 0
Agree s p (perform j e) ks m ls k = Performing s p j e ks m ls k
Agree s p (give v) ks m ls k = Giving s p v ks m ls k
Agree s p (travel x) ks m ls k = Travels s p x ks m ls k

-- A configuration of the evaluation of a source and a state of its code.
abbrev pub Alike : Source → Program → Config → State → Type 0
Alike s p (Halt e) (Off d) = d ≡ e
Alike s p (Halt e) (On ls k) = ⊥
Alike s p (Halt e) (Stuck out) = ⊥
Alike s p (Run f ks m) (Off d) = ⊥
Alike s p (Run f ks m) (On ls k) = Agree s p f ks m ls k
Alike s p (Run f ks m) (Stuck out) = ⊥

-- one transition, matched by turns
abbrev pub Advances : Source → Program → Config → State → Type 0
Advances s p c t = Matched (go s) (turn p) seen shown measure (Alike s p) c t

-- the same of the source and the code of a site
abbrev pub Related : Site → Config → State → Type 0
Related h c t = Alike h.source h.program c t

abbrev pub Step : Site → Config → State → Type 0
Step h c t = Advances h.source h.program c t

-- alike, and calm all along
abbrev pub Shared : Source → Program → Config → State → Type 0
Shared s p c t = Alike s p c t × StaysCalm s p c
