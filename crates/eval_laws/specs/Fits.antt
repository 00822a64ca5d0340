-- When a configuration is one that the evaluation of a program can be in: each number in it is of what it has to be,
-- and what is left to do stands in the source.
use Rattle.std.specs.Prelude.{◌≡◌, ◌<◌, ◌≤◌, ℕ, ◌+◌, List, [], ◌∷◌, length, bytes_eq, Bool, true, false, ◌||◌, Option, is_some}
use Rattle.std.specs.List.{list_any}
use Rattle.std.proofs.Common.{arith, length-append}
use Rattle.rb_value.specs.declared.value.ObjId.{ObjId}
use Rattle.rb_value.specs.declared.procs.ProcContents.{ProcContents}
use Rattle.rb_value.specs.declared.kind.Sort.TheVariants as sort
use Rattle.def_core.specs.Sound.{Census, census, Array, Is, IsValue, OptionIs, AllAre}
use Rattle.ir_core.specs.CoreForm.{Name, Local, named, hidden, pattern, rest, CoreForm, Maybe, Forms, none, more, Clauses, Parameters}
use Rattle.ir_core.specs.Program.{Around, within_loop, within_clause, within_target, is_bound, is_own}
use Rattle.def_calls.specs.World.{World, core_method, activation_at}
use Rattle.def_eval.specs.Source.{Source, body_at, parameters_of, span, span_maybe, span_forms}
use Rattle.def_eval.specs.Configuration as eval
use Rattle.def_eval.specs.Configuration.{Place, Scope, Exit, Action, Gathering, Rescue, Part, Stop, Outgoing, Item, Kept, Focus, Memory, Config, Run, Halt, stop_of}
use Rattle.def_eval.specs.Scopes.{value_in, scope_at, scopes_around, first_with, last_or, shape_of, is_there}
use Rattle.def_eval.specs.Forms.{in_loop, is_under_way}
use Rattle.world_laws.specs.Fine.{Goes, Extends, Bodies, Fine, HasSort, IsException, IsActivation, IsClasses}
use Rattle.world_laws.specs.Outcomes.{SendingIs, StateIs, FibersAre}
use Rattle.eval_laws.specs.Standing.{IsNamed, IsAsked, FormStands, MaybeStands, FormsStand, ItemsStand, PairsStand, BranchesStand, ClausesStand, BlockStands, MethodStands, ClassStands, past_items, past_branches}

abbrev pub IsHash : Census → ObjId → Type 0
IsHash k id = HasSort k sort.Hash id

abbrev pub IsText : Census → ObjId → Type 0
IsText k id = HasSort k sort.String id

-- Scopes. The parent of a scope has a smaller number, and its variables are of the store.
pub record ScopeFits (k : Census) (n : ℕ) (c : Scope) : Type 0 where
  pub parent : OptionIs (λ p. p < n) c.parent
  pub variables : AllAre (λ v. IsValue k v.1) c.variables

abbrev pub ScopesFit : Census → List Scope → Type 0
ScopesFit k cs = (n : ℕ) → n < length cs → ScopeFits k n (scope_at cs n)

-- a local that blocks see
abbrev pub is_outward : Local → Bool
is_outward (named x) = true
is_outward (hidden n) = false
is_outward (pattern n) = true
is_outward rest = true

-- each of these locals that blocks see is a variable of the scope or of one around it
abbrev pub Sees : List Scope → ℕ → List Local → Type 0
Sees cs n ls = (x : Local) → is_bound x ls ≡ true → is_outward x ≡ true
    → is_some (first_with cs (scopes_around cs n) x) ≡ true

-- each parameter of the method around the text is a variable of the outermost scope
abbrev pub Owns : List Scope → ℕ → Option Parameters → Type 0
Owns cs n method = (x : Local) → is_own x method ≡ true
    → is_some (value_in (scope_at cs (last_or n (scopes_around cs n))).variables x) ≡ true

-- what stands around a text is what its scope has
pub record SceneFits (cs : List Scope) (n : ℕ) (a : Around) : Type 0 where
  pub sees : Sees cs n a.known
  pub owns : Owns cs n a.method

pub record PlaceFits (w : World) (cs : List Scope) (p : Place) : Type 0 where
  pub activation : IsActivation w p.activation
  pub scope : p.scope < length cs

-- Exits.

abbrev pub begins_anew : Stop → Bool
begins_anew eval.passes = false
begins_anew (eval.loops n t b) = false
begins_anew (eval.rescues n r) = false
begins_anew (eval.assigns e r) = true
begins_anew (eval.retries r) = true
begins_anew (eval.ensures n e) = false

-- whether a clause of the running body is under way
abbrev pub in_clause : List Item → Bool
in_clause [] = false
in_clause (eval.part p ∷ ks) = begins_anew (stop_of p) || in_clause ks
in_clause (eval.activation a place ∷ ks) = false
in_clause (eval.iteration a it place ∷ ks) = false
in_clause (eval.ensuring o ∷ ks) = in_clause ks

-- an exit that came to these items leads to one of them
abbrev pub ExitFits : Census → List Item → Exit → Type 0
ExitFits k ks (eval.raise e) = IsException k e
ExitFits k ks (eval.return a v) = (is_under_way ks a ≡ true) × IsValue k v
ExitFits k ks (eval.break a v) = (is_under_way ks a ≡ true) × IsValue k v
ExitFits k ks (eval.leave_loop v) = (in_loop ks ≡ true) × IsValue k v
ExitFits k ks (eval.next v) = (is_there ks ≡ true) × IsValue k v
ExitFits k ks eval.begin_anew = in_clause ks ≡ true

abbrev pub OutgoingFits : Census → List Item → Outgoing → Type 0
OutgoingFits k ks (eval.value v) = IsValue k v
OutgoingFits k ks (eval.exit x) = ExitFits k ks x

-- Parts of forms that wait.

abbrev pub assigns_exception : Stop → Bool
assigns_exception eval.passes = false
assigns_exception (eval.loops n t b) = false
assigns_exception (eval.rescues n r) = false
assigns_exception (eval.assigns e r) = true
assigns_exception (eval.retries r) = false
assigns_exception (eval.ensures n e) = false

-- whether a clause of the running body is about to assign its exception
abbrev pub has_exception : List Item → Bool
has_exception [] = false
has_exception (eval.part p ∷ ks) = assigns_exception (stop_of p) || has_exception ks
has_exception (eval.activation a place ∷ ks) = false
has_exception (eval.iteration a it place ∷ ks) = false
has_exception (eval.ensuring o ∷ ks) = has_exception ks

-- what stands around a form is there where it is done, in a scope and over these items
pub record AroundFits (cs : List Scope) (n : ℕ) (ks : List Item) (a : Around) : Type 0 where
  pub scene : SceneFits cs n a
  pub target : a.target ≡ true → has_exception ks ≡ true
  pub clause : a.clause ≡ true → in_clause ks ≡ true

abbrev pub ActionFits : Source → Action → Type 0
ActionFits s (eval.assign x) = Unit {0}
ActionFits s (eval.assign_ivar x) = IsNamed s x
ActionFits s (eval.assign_gvar x) = IsNamed s x
ActionFits s (eval.constant_in x) = IsNamed s x
ActionFits s (eval.assign_constant x) = IsNamed s x
ActionFits s (eval.assign_constant_in x) = IsNamed s x
ActionFits s (eval.make_range x) = Unit {0}
ActionFits s eval.make_symbol = Unit {0}
ActionFits s (eval.element k) = Unit {0}
ActionFits s (eval.elements_between from post) = Unit {0}
ActionFits s (eval.last_elements from count) = Unit {0}
ActionFits s eval.leave_method = Unit {0}
ActionFits s eval.leave_call = Unit {0}
ActionFits s eval.leave_round = Unit {0}
ActionFits s (eval.define_on x n) = IsNamed s x × MethodStands s n (body_at s n)
ActionFits s (eval.open_class x n) = IsNamed s x × ClassStands s n (body_at s n)
ActionFits s (eval.open_module x n) = IsNamed s x × ClassStands s n (body_at s n)
ActionFits s (eval.open_singleton n) = ClassStands s n (body_at s n)
ActionFits s (eval.tell k x) = IsAsked s k x

-- how many values an action wants; a parent may be absent
abbrev pub wanted : Action → ℕ
wanted (eval.assign x) = 1
wanted (eval.assign_ivar x) = 1
wanted (eval.assign_gvar x) = 1
wanted (eval.constant_in x) = 1
wanted (eval.assign_constant x) = 1
wanted (eval.assign_constant_in x) = 2
wanted (eval.make_range x) = 2
wanted eval.make_symbol = 1
wanted (eval.element k) = 1
wanted (eval.elements_between from post) = 1
wanted (eval.last_elements from count) = 1
wanted eval.leave_method = 1
wanted eval.leave_call = 1
wanted eval.leave_round = 1
wanted (eval.define_on x n) = 1
wanted (eval.open_class x n) = 1
wanted (eval.open_module x n) = 1
wanted (eval.open_singleton n) = 1
wanted (eval.tell k x) = 1

abbrev pub count : Forms → ℕ
count none = 0
count (more e es) = count es + 1

-- the elements of an Array are gathered for this; the number is that behind the items
abbrev pub GatheringFits : Source → Around → Census → ℕ → Gathering → Type 0
GatheringFits s a k n eval.an_array = Unit {0}
GatheringFits s a k n (eval.arguments_of sending recv b) = SendingIs k sending × IsValue k recv × MaybeStands s a n b

-- a begin form that may be begun anew
abbrev pub BeginStands : Source → Around → ℕ → CoreForm → Clauses → Maybe → Type 0
BeginStands s a n b cs o = FormStands s a n b × ClausesStand s a (n + span b + span_maybe o) cs
    × MaybeStands s a (n + span b) o

abbrev pub RescueStands : Source → Around → Rescue → Type 0
RescueStands s a r = BeginStands s a r.number r.body r.clauses r.otherwise

-- what a part has still to do stands in the source, and what it keeps is of the store
abbrev pub PartStands : Source → Census → Around → Part → Type 0
PartStands s k a (eval.operands n action vs es) = ActionFits s action × AllAre (IsValue k) vs × FormsStand s a n es
    × (wanted action ≤ length vs + 1 + count es)
PartStands s k a (eval.receiver n x is b) =
    IsNamed s x × ItemsStand s a n is × MaybeStands s a (past_items n is) b
PartStands s k a (eval.items n sending recv vs is b) = SendingIs k sending × IsValue k recv × AllAre (IsValue k) vs
    × ItemsStand s a n is × MaybeStands s a (past_items n is) b
PartStands s k a (eval.block sending recv vs) = SendingIs k sending × IsValue k recv × AllAre (IsValue k) vs
PartStands s k a (eval.elements n g id splat is) =
    GatheringFits s a k (past_items n is) g × Is k Array id × ItemsStand s a n is
PartStands s k a (eval.hash_key n id e ps) = IsHash k id × FormStands s a n e × PairsStand s a (n + span e) ps
PartStands s k a (eval.hash_value n id key ps) = IsHash k id × IsValue k key × PairsStand s a n ps
PartStands s k a (eval.pieces n id es) = IsText k id × FormsStand s a n es
PartStands s k a (eval.rest n es) = FormsStand s a n es
PartStands s k a (eval.test n b bs o) =
    FormStands s a n b × BranchesStand s a (n + span b) bs × FormStands s a (past_branches (n + span b) bs) o
PartStands s k a eval.chosen = Unit {0}
PartStands s k a (eval.and_then n e) = FormStands s a n e
PartStands s k a (eval.or_else n e) = FormStands s a n e
PartStands s k a (eval.loop_test n t b) =
    FormStands s (within_loop a) n t × FormStands s (within_loop a) (n + span t) b
PartStands s k a (eval.loop_body n t b) =
    FormStands s (within_loop a) n t × FormStands s (within_loop a) (n + span t) b
PartStands s k a (eval.rescued n b cs o) = BeginStands s a n b cs o
PartStands s k a (eval.clause_class n e es t b cs r) = IsException k e × FormsStand s (within_clause a) n es
    × MaybeStands s (within_target a) (n + span_forms es) t
    × FormStands s (within_clause a) (n + span_forms es + span_maybe t) b
    × ClausesStand s a (n + span_forms es + span_maybe t + span b) cs × RescueStands s a r
PartStands s k a (eval.clause_target n e b r) =
    IsException k e × FormStands s (within_clause a) n b × RescueStands s a r
PartStands s k a (eval.clause_body r) = RescueStands s a r
PartStands s k a (eval.ensured n e) = FormStands s a n e

-- a part of a form, in a scope and over these items
abbrev pub PartFits : Source → Census → List Scope → ℕ → List Item → Part → Type 0
PartFits s k cs n ks p = (a : Around) × AroundFits cs n ks a × PartStands s k a p

-- the activation is there, and is that of a core method
pub record IsCore (w : World) (a : ℕ) : Type 0 where
  pub there : IsActivation w a
  pub runs : (activation_at w a).runs ≡ core_method

-- Items. Those up to the end of an activation are done at its place, and those behind it at the place of its caller.
-- Below a part or an ensure part there is at least the activation that it is in.
abbrev pub ItemsFit : Source → World → List Scope → Place → List Item → Type 0
ItemsFit s w cs place [] = Unit {0}
ItemsFit s w cs place (eval.part p ∷ ks) =
    PartFits s (census w.store) cs place.scope ks p × (is_there ks ≡ true) × ItemsFit s w cs place ks
ItemsFit s w cs place (eval.activation a back ∷ ks) =
    (a ≡ place.activation) × PlaceFits w cs back × ItemsFit s w cs back ks
ItemsFit s w cs place (eval.iteration a it back ∷ ks) =
    ((a ≡ place.activation) × IsCore w a) × StateIs (census w.store) it × PlaceFits w cs back × ItemsFit s w cs back ks
ItemsFit s w cs place (eval.ensuring o ∷ ks) =
    OutgoingFits (census w.store) ks o × (is_there ks ≡ true) × ItemsFit s w cs place ks

-- what a fiber that waits goes on with
pub record KeptFits (s : Source) (w : World) (cs : List Scope) (kept : Kept) : Type 0 where
  pub place : PlaceFits w cs kept.place
  pub items : ItemsFit s w cs kept.place kept.items

-- Procs and methods of the store.

-- A Proc has the scope in which its literal was done and those around it, in which its body stands.
pub record ProcFits (s : Source) (Known : ℕ → List ℕ → Type 0) (cs : List Scope) (w : World) (c : ProcContents) : Type 0
  where
    pub around : Around
    pub scope : ℕ
    pub within : scope < length cs
    pub scopes : c.scopes ≡ scopes_around cs scope
    pub scene : SceneFits cs scope around
    pub body : BlockStands s around c.code (body_at s c.code)
    pub shape : c.shape ≡ shape_of (parameters_of (body_at s c.code))
    pub known : Known c.code c.scopes
    pub home : IsActivation w c.home
    pub classes : IsClasses w c.classes

pub record BodyFits (s : Source) (w : World) (n around : ℕ) : Type 0 where
  pub body : MethodStands s n (body_at s n)
  pub classes : IsClasses w around

-- both stay what they are in a later world
pub goes_longer : {A : Type 0} (xs ys : List A) → Goes xs ys → length xs ≤ length ys
goes_longer xs ys g = rw g.same (rw length-append (omega arith))

unfoldable pub bodies : Source → (ℕ → List ℕ → Type 0) → List Scope → Bodies
bodies s Known cs = record {
  ProcIs = λ w c. ProcFits s Known cs w c;
  BodyIs = λ w n classes. BodyFits s w n classes;
  proc_home = λ w c h. h.home;
  proc_classes = λ w c h. h.classes;
  body_classes = λ w n classes h. h.classes;
  proc_stays = λ w v c e h. record {
    around = h.around;
    scope = h.scope;
    within = h.within;
    scopes = h.scopes;
    scene = h.scene;
    body = h.body;
    shape = h.shape;
    known = h.known;
    home = (h.home.0, omega (arith, h.home.1, goes_longer w.activations v.activations e.activations));
    classes = omega (arith, h.classes, goes_longer w.enclosing v.enclosing e.enclosing);
  };
  body_stays = λ w v n classes e h. record {
    body = h.body;
    classes = omega (arith, h.classes, goes_longer w.enclosing v.enclosing e.enclosing);
  };
  proc_sent = λ w c s h. record {
    around = h.around;
    scope = h.scope;
    within = h.within;
    scopes = h.scopes;
    scene = h.scene;
    body = h.body;
    shape = h.shape;
    known = h.known;
    home = h.home;
    classes = h.classes;
  };
  proc_lambda = λ w c l h. record {
    around = h.around;
    scope = h.scope;
    within = h.within;
    scopes = h.scopes;
    scene = h.scene;
    body = h.body;
    shape = h.shape;
    known = h.known;
    home = h.home;
    classes = h.classes;
  };
}

-- The memory, and the configuration.

-- each name of the source is that of a symbol
abbrev pub NamesFit : Source → World → Type 0
NamesFit s w = (x : Name) → IsNamed s x → list_any (bytes_eq x) w.store.symbols ≡ true

-- A world from which others go on, and the Procs that there may be in them, by the body and the scopes of each.
pub record Past : Type 1 where
  pub world : World
  pub Known : ℕ → List ℕ → Type 0

-- with another output
abbrev pub with_out : Past → List ℕ → Past
with_out p out = record p { world = record p.world { out = out } }

-- whatever the Procs are
abbrev pub anything_since : World → Past
anything_since w = record { world = w; Known = λ b ns. Unit {0} }

-- the lists of scopes, and all that is kept of a world beside them; it goes on from an earlier
-- world, without output since
pub record MemoryFits (s : Source) (early : Past) (m : Memory) : Type 0 where
  pub place : PlaceFits m.world m.scopes m.place
  pub scopes : ScopesFit (census m.world.store) m.scopes
  pub world : Fine (bodies s early.Known m.scopes) m.world
  pub names : NamesFit s m.world
  pub fibers : FibersAre (census m.world.store) (KeptFits s m.world m.scopes) m.fibers
  pub since : Extends early.world m.world
  pub out : m.world.out ≡ early.world.out

-- a form that is done is one of a body, so there is an item below it
abbrev pub FocusFits : Source → List Item → Memory → Focus → Type 0
FocusFits s ks m (eval.perform n e) =
    (is_there ks ≡ true) × ((a : Around) × AroundFits m.scopes m.place.scope ks a × FormStands s a n e)
FocusFits s ks m (eval.give v) = IsValue (census m.world.store) v
FocusFits s ks m (eval.travel x) = ExitFits (census m.world.store) ks x

pub record RunFits (s : Source) (early : Past) (f : Focus) (ks : List Item) (m : Memory) : Type 0 where
  pub memory : MemoryFits s early m
  pub focus : FocusFits s ks m f
  pub items : ItemsFit s m.world m.scopes m.place ks

-- what has to be so of what goes on from a world
abbrev pub Fits : Source → Past → Config → Type 0
Fits s early (Run f ks m) = RunFits s early f ks m
Fits s early (Halt e) = Unit {0}

-- What a transition comes to: it may have written, but not where an exit goes on or a value goes to nothing.

abbrev pub IsHushed : Type 0 → Focus → List Item → Type 0
IsHushed q (eval.perform n e) ks = Unit {0}
IsHushed q (eval.give v) [] = q
IsHushed q (eval.give v) (k ∷ ks) = Unit {0}
IsHushed q (eval.travel x) ks = q

abbrev pub ComesHushed : Type 0 → Config → Type 0
ComesHushed q (Run f ks m) = IsHushed q f ks
ComesHushed q (Halt e) = Unit {0}

pub record After (s : Source) (early : Past) (c : Config) : Type 0 where
  pub out : List ℕ
  pub fits : Fits s (with_out early out) c
  pub hushed : ComesHushed (out ≡ early.world.out) c

-- it goes on from that world, whatever was written since
abbrev pub FitsSince : Source → Past → Config → Type 0
FitsSince s early c = (out : List ℕ) × Fits s (with_out early out) c
