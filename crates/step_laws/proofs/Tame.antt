-- What the evaluation of simple forms keeps, and what calls come to there.
use Rattle.std.proofs.Common.{◌≡◌, inl, ℕ, zero, suc, ◌+◌, ◌-◌, ◌≤◌, List, [], ◌∷◌, ◌++◌, refl, sym, ap, ◌∙◌, subst, arith, length, length-append, get_or, set, Bool, true, false}
use Rattle.std.specs.Prelude.{if◌then◌else◌, codes, Some, None, unwrap_or}
use Rattle.std.proofs.lemmas.List.{append-nil, get_or_append_left, get_or_push}
use Rattle.rb_value.specs.declared.value.ObjId.{ObjId}
use Rattle.rb_value.specs.declared.value.Value.{Value}
use Rattle.rb_value.specs.declared.value.Value.TheVariants.{Nil, Obj}
use Rattle.def_core.specs.declared.cause.Cause.TheVariants as cause
use Rattle.rb_store.specs.Opening.{main_object}
use Rattle.rite_code.specs.Code.{Program}
use Rattle.ir_core.specs.CoreForm as form
use Rattle.ir_core.specs.CoreForm.{Name, Local}
use Rattle.def_calls.specs.World.{World, Answer, Result as Given, gives, raises, Activation, core_method, activation_at, no_activation, with_activation, fail}
use Rattle.def_calls.specs.Calls.{Sending, by_name, Entry, answers, enters, begins, is_full, settle, main_activation, close_run, close, is_asked}
use Rattle.def_calls.specs.Plans.{Iteration}
use Rattle.def_eval.specs.Source.{Source}
use Rattle.def_eval.specs.Configuration.{Place, Scope, raise, assign, Part, operands, receiver, items, block, elements, hash_key, hash_value, pieces, rest, test, chosen, and_then, or_else, loop_test, loop_body, rescued, clause_class, clause_target, clause_body, ensured, Item, part, activation, iteration, ensuring, Focus, perform, give, travel, Memory, with_world, Config, Run, Halt, Exit, leave_loop, next, Action, leave_call, leave_round}
use Rattle.def_eval.specs.Scopes.{same_local, value_in, put_value, scope_at, scope_of, variable}
use Rattle.def_eval.specs.Entering.{after_result, depth, open_iteration, enter}
use Rattle.def_eval.specs.Transition.{go}
use Rattle.step_laws.specs.Site.{number}
use Rattle.step_laws.specs.Calm.{QuietFocus, QuietBy, Still, BlockFor, Peace}
use Rattle.eval_laws.specs.Procs.{literal}
use Rattle.step_laws.specs.Simple.{IsOperator, IsSimple, AreSimple, AreSimpleItems, AreSimpleBranches}
use Rattle.step_laws.proofs.Outcomes.{IsImmediate, AreImmediate, IsOfPuts, Kept, kept_none, GivenIs, AnswerIs, EntryIs, failed}

-- What the evaluation keeps.

abbrev pub VariablesAre : List (Local × Value) → Type 0
VariablesAre [] = Unit {0}
VariablesAre (v ∷ vs) = IsImmediate v.1 × VariablesAre vs

abbrev pub ScopesAre : List Scope → Type 0
ScopesAre [] = Unit {0}
ScopesAre (c ∷ cs) = VariablesAre c.variables × ScopesAre cs

-- what a call calls: an operator of an immediate value, or `puts` of the main object
pub data Sent (s : Source) (k : Sending) (recv : Value) : Type 0 where
  operator : (x : Name) → k ≡ by_name (number s x) → IsOperator x → IsImmediate recv → Sent s k recv
  puts : k ≡ by_name (number s (codes "puts")) → recv ≡ Obj main_object → Sent s k recv

-- a local that is assigned, and an exit of a loop
pub data Awaits (a : Action) : Type 0 where
  to_local : (x : Local) → a ≡ assign x → Awaits a
  to_end : a ≡ leave_call → Awaits a
  to_round : a ≡ leave_round → Awaits a

abbrev pub PartIs : Source → Part → Type 0
PartIs s (operands j a vs es) = Awaits a × (vs ≡ []) × (es ≡ form.none)
PartIs s (receiver j x is b) = IsOperator x × AreSimpleItems is × (b ≡ form.absent)
PartIs s (items j k recv vs is b) = Sent s k recv × AreImmediate vs × AreSimpleItems is × (b ≡ form.absent)
PartIs s (block k recv vs) = ⊥
PartIs s (elements j g o q is) = ⊥
PartIs s (hash_key j o v ps) = ⊥
PartIs s (hash_value j o k ps) = ⊥
PartIs s (pieces j o es) = ⊥
PartIs s (rest j es) = AreSimple es
PartIs s (test j b bs o) = IsSimple b × AreSimpleBranches bs × IsSimple o
PartIs s chosen = Unit {0}
PartIs s (and_then j e) = IsSimple e
PartIs s (or_else j e) = IsSimple e
PartIs s (loop_test j t b) = IsSimple t × IsSimple b
PartIs s (loop_body j t b) = IsSimple t × IsSimple b
PartIs s (rescued j b cs o) = ⊥
PartIs s (clause_class j e es t b cs r) = ⊥
PartIs s (clause_target j e b r) = ⊥
PartIs s (clause_body r) = ⊥
PartIs s (ensured j e) = ⊥

-- an activation of a core method
pub record IsCoreAt (w : World) (a : ℕ) : Type 0 where
  pub low : 1 ≤ a
  pub within : a ≤ length w.activations
  pub runs : (activation_at w a).runs ≡ core_method

abbrev pub ItemsAre : Source → World → List Item → Place → Type 0
ItemsAre s w [] place = Unit {0}
ItemsAre s w (part p ∷ ks) place = PartIs s p × (place.activation ≡ 1) × ItemsAre s w ks place
ItemsAre s w (activation a p ∷ ks) place = (a ≡ 1) × ItemsAre s w ks p
ItemsAre s w (iteration a it p ∷ ks) place = IsOfPuts it × IsCoreAt w a × ItemsAre s w ks p
ItemsAre s w (ensuring o ∷ ks) place = ⊥

-- an iteration takes any value as its answer
abbrev pub GivenTo : Value → List Item → Type 0
GivenTo v [] = Unit {0}
GivenTo v (part p ∷ ks) = IsImmediate v
GivenTo v (activation a p ∷ ks) = IsImmediate v
GivenTo v (iteration a it p ∷ ks) = Unit {0}
GivenTo v (ensuring o ∷ ks) = IsImmediate v

-- an exception isn't asked for its message
pub data IsExit (w : World) (x : Exit) : Type 0 where
  raised : (e : ObjId) → x ≡ raise e → is_asked w e ≡ false → IsExit w x
  left : (v : Value) → x ≡ leave_loop v → IsImmediate v → IsExit w x
  anew : (v : Value) → x ≡ next v → IsImmediate v → IsExit w x

abbrev pub FocusIs : World → Focus → List Item → Place → Type 0
FocusIs w (perform j e) ks place = IsSimple e × (place.activation ≡ 1)
FocusIs w (give v) ks place = GivenTo v ks
FocusIs w (travel x) ks place = IsExit w x

pub record MemoryIs (s : Source) (f : Focus) (ks : List Item) (m : Memory) : Type 0 where
  pub kept : Kept s m.world
  pub scopes : ScopesAre m.scopes
  pub alone : m.fibers.resumer ≡ None
  pub focus : FocusIs m.world f ks m.place
  pub items : ItemsAre s m.world ks m.place

abbrev pub IsTame : Source → Config → Type 0
IsTame s (Halt e) = Unit {0}
IsTame s (Run f ks m) = MemoryIs s f ks m

-- activations were added alone
pub record Adds (w u : World) : Type 0 where
  pub more : List Activation
  pub is : u.activations ≡ w.activations ++ more

-- no scope was opened since, nothing was written where an exception was raised, and activations were added alone
abbrev pub Rests : Memory → Config → Type 0
Rests m (Run f ks l) = (length l.scopes ≡ length m.scopes) × QuietFocus f ks m l × Adds m.world l.world
Rests m (Halt e) = Unit {0}

-- a transition from that memory comes to this
abbrev pub Fine : Source → Memory → Config → Type 0
Fine s m c = IsTame s c × Rests m c

-- what rests enters no body
pub peaceful : (s : Source) (p : Program) (f : Focus) (ks : List Item) (m : Memory)
    → BlockFor f ks m → Fine s m (go s (Run f ks m)) → Peace s p f ks m
peaceful s p f ks m can r = by (go s (Run f ks m)) refl r
  where
    by : (c : Config) → go s (Run f ks m) ≡ c → Fine s m c → Peace s p f ks m
    by (Halt e) is at = record {
      quiet = subst (QuietBy (literal f m) m) (sym is) tt;
      calls = inl (subst (Still m) (sym is) tt);
      block = can;
    }
    by (Run h js l) is at = record {
      quiet = subst (QuietBy (literal f m) m) (sym is) (
        at.1.1,
        record {
          more = at.1.2.more;
          is = at.1.2.is;
          procs = λ b ns has. absurd (kept_none s l.world at.0.kept b ns has);
        },
      );
      calls = inl (subst (Still m) (sym is) at.1.0);
      block = can;
    }

pub quiet_given : (v : Value) (ks : List Item) (m l : Memory) → l.world.out ≡ m.world.out
    → QuietFocus (give v) ks m l
quiet_given v [] m l e = e
quiet_given v (k ∷ ks) m l e = tt

pub given_to : (v : Value) (ks : List Item) → IsImmediate v → GivenTo v ks
given_to v [] i = tt
given_to v (part p ∷ ks) i = i
given_to v (activation a p ∷ ks) i = i
given_to v (iteration a it p ∷ ks) i = tt
given_to v (ensuring o ∷ ks) i = i

-- Variables.

pub value_is : (vs : List (Local × Value)) (x : Local) → VariablesAre vs → IsImmediate (unwrap_or (value_in vs x) Nil)
value_is [] x all = tt
value_is (v ∷ vs) x all = at (value_is vs x all.1) (same_local x v.0)
  where
    at : IsImmediate (unwrap_or (value_in vs x) Nil) → (b : Bool)
        → IsImmediate (unwrap_or (if b then Some v.1 else value_in vs x) Nil)
    at further true = all.0
    at further false = further

pub scope_is : (cs : List Scope) (n : ℕ) → ScopesAre cs → VariablesAre (scope_at cs n).variables
scope_is [] n all = tt
scope_is (c ∷ cs) zero all = all.0
scope_is (c ∷ cs) (suc n) all = scope_is cs n all.1

pub variable_is : (m : Memory) (x : Local) → ScopesAre m.scopes → IsImmediate (variable m x)
unfolding variable
variable_is m x all =
    value_is (scope_at m.scopes (scope_of m x)).variables x (scope_is m.scopes (scope_of m x) all)

pub put_is : (vs : List (Local × Value)) (x : Local) (u : Value) → IsImmediate u → VariablesAre vs
    → VariablesAre (put_value vs x u)
put_is [] x u i all = (i, tt)
put_is (v ∷ vs) x u i all = at (put_is vs x u i all.1) (same_local x v.0)
  where
    at : VariablesAre (put_value vs x u) → (b : Bool)
        → VariablesAre (if b then (x, u) ∷ vs else v ∷ put_value vs x u)
    at further true = (i, all.1)
    at further false = (all.0, further)

pub set_is : (cs : List Scope) (n : ℕ) (c : Scope) → VariablesAre c.variables → ScopesAre cs → ScopesAre (set cs n c)
set_is [] n c is all = tt
set_is (d ∷ cs) zero c is all = (is, all.1)
set_is (d ∷ cs) (suc n) c is all = (all.0, set_is cs n c is all.1)

-- Activations.

pub same_grows : (w u : World) → u.activations ≡ w.activations → Adds w u
same_grows w u e = record { more = []; is = e ∙ sym (append-nil w.activations) }

pub core_grows : (w u : World) (a : ℕ) → Adds w u → IsCoreAt w a → IsCoreAt u a
unfolding activation_at
core_grows w u a g c =
    let longer = ap length g.is ∙ length-append w.activations g.more in
    record {
      low = c.low;
      within = omega (arith, c.within, longer);
      runs = ap (λ (x : Activation). x.runs)
          (ap (λ (xs : List Activation). get_or xs (a - 1) no_activation) g.is
          ∙ get_or_append_left w.activations g.more no_activation (a - 1) (omega (arith, c.low, c.within))) ∙ c.runs;
    }

pub items_grow : (s : Source) (w u : World) (ks : List Item) (place : Place) → Adds w u → ItemsAre s w ks place
    → ItemsAre s u ks place
items_grow s w u [] place g i = tt
items_grow s w u (part p ∷ ks) place g i = (i.0, i.1, items_grow s w u ks place g i.2)
items_grow s w u (activation a p ∷ ks) place g i = (i.0, items_grow s w u ks p g i.1)
items_grow s w u (iteration a it p ∷ ks) place g i = (i.0, core_grows w u a g i.1, items_grow s w u ks p g i.2)
items_grow s w u (ensuring o ∷ ks) place g i = absurd i

pub core_closed : (w : World) (a : ℕ) → (activation_at w a).runs ≡ core_method → close w a ≡ w
unfolding close
core_closed w a e = ap (close_run w (activation_at w a).self) e

pub main_is : (s : Source) (w : World) → Kept s w → activation_at w 1 ≡ main_activation
unfolding activation_at
main_is s w k = ap (λ (xs : List Activation). get_or xs 0 no_activation) k.activations

pub main_closed : (s : Source) (w : World) → Kept s w → close w 1 ≡ w
unfolding close
main_closed s w k = ap (λ (a : Activation). close_run w a.self a.runs) (main_is s w k)

-- Answers and entries.

pub answer_fine : (s : Source) (Is : Value → Type 0) (m l : Memory) (w : World) (ks : List Item) (a : Answer)
    → AnswerIs s Is w a → w.out ≡ m.world.out → w.activations ≡ m.world.activations
    → length l.scopes ≡ length m.scopes → ScopesAre l.scopes → l.fibers.resumer ≡ None → ItemsAre s w ks l.place
    → ((v : Value) → Is v → GivenTo v ks)
    → Fine s m (after_result a.result a.world ks l)
answer_fine s Is m l w ks a g out same scopes all alone under to = by a.result g.result
  where
    still : ItemsAre s a.world ks l.place
    still = items_grow s w a.world ks l.place (same_grows w a.world g.activations) under

    grows : Adds m.world a.world
    grows = same_grows m.world a.world (g.activations ∙ same)

    by : (x : Given) → GivenIs Is a.world x → Fine s m (after_result x a.world ks l)
    by (gives v) i = (
      record { kept = g.kept; scopes = all; alone = alone; focus = to v i; items = still },
      (scopes, quiet_given v ks m (with_world l a.world) (g.out ∙ out), grows),
    )
    by (raises e) i = (
      record { kept = g.kept; scopes = all; alone = alone; focus = raised e refl i; items = still },
      (scopes, g.out ∙ out, grows),
    )

pub opened_fine : (s : Source) (m l : Memory) (ks : List Item) (it : Iteration) (a : Activation) → IsOfPuts it
    → a.runs ≡ core_method → Kept s l.world → l.world.activations ≡ m.world.activations
    → length l.scopes ≡ length m.scopes → ScopesAre l.scopes → l.fibers.resumer ≡ None → ItemsAre s l.world ks l.place
    → Fine s m (open_iteration it a ks l l.world)
unfolding activation_at
opened_fine s m l ks it a is core k same scopes all alone under =
    let acts = l.world.activations in
    let n : length (acts ++ a ∷ []) ≡ length acts + 1 = length-append acts (a ∷ []) ∙ omega arith in
    let last : get_or (acts ++ a ∷ []) (length acts + 1 - 1) no_activation ≡ a =
    get_or_push acts a no_activation (length acts + 1 - 1) (omega arith) in (
      record {
        kept = record {
          symbols = k.symbols;
          more = k.more;
          objects = k.objects;
          none = k.none;
          others = k.others ++ a ∷ [];
          activations = ap (λ (xs : List Activation). xs ++ a ∷ []) k.activations;
        };
        scopes = all;
        alone = alone;
        focus = tt;
        items = (
          is,
          record {
            low = omega arith;
            within = omega (arith, n);
            runs = ap (λ (x : Activation). x.runs) last ∙ core;
          },
          items_grow s l.world (with_activation l.world a) ks l.place (record { more = a ∷ []; is = refl }) under,
        );
      },
      (scopes, tt, record { more = a ∷ []; is = ap (λ (xs : List Activation). xs ++ a ∷ []) same }),
    )

pub entry_fine : (s : Source) (Is : Value → Type 0) (m l : Memory) (ks : List Item) (e : Entry)
    → EntryIs s Is l.world e → Kept s l.world → l.world.out ≡ m.world.out
    → l.world.activations ≡ m.world.activations → length l.scopes ≡ length m.scopes
    → ScopesAre l.scopes → l.fibers.resumer ≡ None → ItemsAre s l.world ks l.place
    → ((v : Value) → Is v → GivenTo v ks) → Fine s m (enter s e None ks l)
unfolding enter settle
entry_fine s Is m l ks (answers a) g k out same scopes all alone under to =
    answer_fine s Is m l l.world ks a g out same scopes all alone under to
entry_fine s Is m l ks (enters o u) g k out same scopes all alone under to = absurd g
entry_fine s Is m l ks (begins it a u) g k out same scopes all alone under to =
    subst (λ (w : World). Fine s m (if is_full (depth ks)
    then after_result (fail w cause.StackTooDeep).result (fail w cause.StackTooDeep).world ks l
    else open_iteration it a ks l w)) (sym g.2) (by (is_full (depth ks)))
  where
    by : (b : Bool) → Fine s m (if b
        then after_result (fail l.world cause.StackTooDeep).result (fail l.world cause.StackTooDeep).world ks l
        else open_iteration it a ks l l.world)
    by true =
        answer_fine s Is m l l.world ks (fail l.world cause.StackTooDeep) (failed s Is l.world cause.StackTooDeep k) out
        same scopes all alone under to
    by false = opened_fine s m l ks it a g.0 g.1 k same scopes all alone under
