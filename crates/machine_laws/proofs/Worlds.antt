-- The world of a state is a fine one, by what a Proc's contents and a method's body have to be in the program.
use Rattle.std.proofs.Common.{ℕ, suc, List, [], ◌∷◌, Bool}
use Rattle.rb_value.specs.declared.method.Method.{Method}
use Rattle.rb_value.specs.declared.method.Method.TheVariants as method
use Rattle.rb_value.specs.declared.procs.ProcContents.{ProcContents}
use Rattle.rb_value.specs.declared.procs.Sending.{Sending}
use Rattle.rb_value.specs.declared.kind.Kind.{Kind}
use Rattle.rb_value.specs.declared.kind.Kind.TheVariants as kind
use Rattle.rb_value.specs.declared.value.Value.{Value}
use Rattle.def_core.specs.Sound.{Census, census}
use Rattle.rite_code.specs.Code.{Program}
use Rattle.def_calls.specs.World.{World, Activation, Enclosing, Runs, main_program, method_body, block_body, lambda_body, class_body, core_method}
use Rattle.def_machine.specs.State.{Registers}
use Rattle.def_machine.specs.Fits.{ProcFits, MethodFits, EntryFits, KindFits, ObjectFits, RunFits, ActivationFits, EnclosingFits, GlobalFits, WorldFits}
use Rattle.world_laws.specs.Fine.{Bodies, MethodIs, EntryHas, KindIs, ObjectIs, RunIs, ActivationIs, EnclosingAre, GlobalIs, Fine}
use Rattle.world_laws.proofs.Growing.{extends_itself, classes_number_stays, all_stay}
use Rattle.machine_laws.specs.Growth.{ListsGrow}
use Rattle.machine_laws.proofs.Later.{proc_later}
use Rattle.machine_laws.proofs.Writing.{lists_stay}

module _ (p : Program) (ls : List Registers) where
  pub sent : (w : World) (c : ProcContents) (s : Sending) → ProcFits p w ls c
      → ProcFits p w ls (record c { sending = s })
  sent w c s h = record {
    body = h.body;
    shape = h.shape;
    around = h.around;
    scopes = h.scopes;
    classes = h.classes;
    home = h.home;
  }

  pub lambdas : (w : World) (c : ProcContents) (l : Bool) → ProcFits p w ls c
      → ProcFits p w ls (record c { lambda = l })
  lambdas w c l h = record {
    body = h.body;
    shape = h.shape;
    around = h.around;
    scopes = h.scopes;
    classes = h.classes;
    home = h.home;
  }

  -- what a Proc and a body that is a method have to be
  abbrev pub bodies : Bodies
  bodies = record {
    ProcIs = λ w c. ProcFits p w ls c;
    BodyIs = λ w body classes. MethodFits p w (method.Body body classes);
    proc_home = λ w c h. h.home;
    proc_classes = λ w c h. h.classes;
    body_classes = λ w body classes h. h.2;
    proc_stays = λ w v c e h. proc_later p w v ls ls c e (lists_stay ls) h;
    body_stays = λ w v body classes e h. (h.0, h.1, classes_number_stays w v e classes h.2);
    proc_sent = sent;
    proc_lambda = lambdas;
  }

  module _ (w : World) where
    method_fine : (m : Method) → MethodFits p w m → MethodIs bodies w m
    method_fine (method.Body b n) h = h
    method_fine (method.Core r) h = tt
    method_fine (method.Reader n) h = tt
    method_fine (method.Writer n) h = tt
    method_fine (method.Block b) h = tt
    method_fine method.Undefined h = tt

    method_fits : (m : Method) → MethodIs bodies w m → MethodFits p w m
    method_fits (method.Body b n) h = h
    method_fits (method.Core r) h = tt
    method_fits (method.Reader n) h = tt
    method_fits (method.Writer n) h = tt
    method_fits (method.Block b) h = tt
    method_fits method.Undefined h = tt

    kind_fine : (k : Kind) → KindFits p w ls k → KindIs bodies w k
    kind_fine kind.Plain h = tt
    kind_fine (kind.Class c) h = all_stay (EntryFits p w) (EntryHas bodies w) (λ e x. method_fine e.1.method x)
        c.methods h
    kind_fine (kind.String s) h = tt
    kind_fine (kind.Array a) h = tt
    kind_fine (kind.Hash x) h = tt
    kind_fine (kind.Range r) h = tt
    kind_fine (kind.Proc c) h = h
    kind_fine (kind.CoreProc r v) h = tt
    kind_fine (kind.Fiber b e) h = tt
    kind_fine (kind.Exception e d) h = tt
    kind_fine (kind.Enumerator e) h = tt
    kind_fine (kind.Yielder b) h = tt

    kind_fits : (k : Kind) → KindIs bodies w k → KindFits p w ls k
    kind_fits kind.Plain h = tt
    kind_fits (kind.Class c) h = all_stay (EntryHas bodies w) (EntryFits p w) (λ e x. method_fits e.1.method x)
        c.methods h
    kind_fits (kind.String s) h = tt
    kind_fits (kind.Array a) h = tt
    kind_fits (kind.Hash x) h = tt
    kind_fits (kind.Range r) h = tt
    kind_fits (kind.Proc c) h = h
    kind_fits (kind.CoreProc r v) h = tt
    kind_fits (kind.Fiber b e) h = tt
    kind_fits (kind.Exception e d) h = tt
    kind_fits (kind.Enumerator e) h = tt
    kind_fits (kind.Yielder b) h = tt

run_fine : (k : Census) (self : Value) (r : Runs) → RunFits k self r → RunIs k self r
run_fine k self main_program h = tt
run_fine k self method_body h = tt
run_fine k self (block_body b) h = h
run_fine k self lambda_body h = tt
run_fine k self class_body h = h
run_fine k self core_method h = tt

run_fits : (k : Census) (self : Value) (r : Runs) → RunIs k self r → RunFits k self r
run_fits k self main_program h = tt
run_fits k self method_body h = tt
run_fits k self (block_body b) h = h
run_fits k self lambda_body h = tt
run_fits k self class_body h = h
run_fits k self core_method h = tt

pub activation_fine : (w : World) (a : Activation) → ActivationFits w a → ActivationIs w a
activation_fine w a h = record {
  runs = run_fine (census w.store) a.self a.runs h.runs;
  self = h.self;
  owner = h.owner;
  name = h.name;
  home = h.home;
  classes = h.classes;
  block = h.block;
}

pub activation_fits : (w : World) (a : Activation) → ActivationIs w a → ActivationFits w a
activation_fits w a h = record {
  runs = run_fits (census w.store) a.self a.runs h.runs;
  self = h.self;
  owner = h.owner;
  name = h.name;
  home = h.home;
  classes = h.classes;
  block = h.block;
}

enclosing_fine : (k : Census) (n : ℕ) (es : List Enclosing) → EnclosingFits k n es → EnclosingAre k n es
enclosing_fine k n [] h = tt
enclosing_fine k n (e ∷ es) h = (h.0, h.1, enclosing_fine k (suc n) es h.2)

enclosing_fits : (k : Census) (n : ℕ) (es : List Enclosing) → EnclosingAre k n es → EnclosingFits k n es
enclosing_fits k n [] h = tt
enclosing_fits k n (e ∷ es) h = (h.0, h.1, enclosing_fits k (suc n) es h.2)

module _ (p : Program) (ls : List Registers) (w : World) where
  pub fine_world : WorldFits p ls w → Fine (bodies p ls) w
  fine_world h = record {
    store = h.store;
    objects = all_stay (ObjectFits p w ls) (ObjectIs (bodies p ls) w) (λ o x. kind_fine p ls w o.kind x)
        w.store.objects h.objects;
    globals = all_stay (GlobalFits (census w.store)) (GlobalIs (census w.store)) (λ g x. x) w.globals h.globals;
    enclosing = enclosing_fine (census w.store) 1 w.enclosing h.enclosing;
    activations = all_stay (ActivationFits w) (ActivationIs w) (activation_fine w) w.activations h.activations;
  }

  pub fitting_world : Fine (bodies p ls) w → WorldFits p ls w
  fitting_world h = record {
    store = h.store;
    objects = all_stay (ObjectIs (bodies p ls) w) (ObjectFits p w ls) (λ o x. kind_fits p ls w o.kind x)
        w.store.objects h.objects;
    globals = all_stay (GlobalIs (census w.store)) (GlobalFits (census w.store)) (λ g x. x) w.globals h.globals;
    enclosing = enclosing_fits (census w.store) 1 w.enclosing h.enclosing;
    activations = all_stay (ActivationIs w) (ActivationFits w) (activation_fits w) w.activations h.activations;
  }

-- a world with other lists, which have grown
module _ (p : Program) (w : World) (ls ms : List Registers) (g : ListsGrow ls ms) where
  kind_later : (k : Kind) → KindFits p w ls k → KindFits p w ms k
  kind_later kind.Plain h = tt
  kind_later (kind.Class c) h = h
  kind_later (kind.String s) h = tt
  kind_later (kind.Array a) h = tt
  kind_later (kind.Hash x) h = tt
  kind_later (kind.Range r) h = tt
  kind_later (kind.Proc c) h = proc_later p w w ls ms c (extends_itself w) g h
  kind_later (kind.CoreProc r v) h = tt
  kind_later (kind.Fiber b e) h = tt
  kind_later (kind.Exception e d) h = tt
  kind_later (kind.Enumerator e) h = tt
  kind_later (kind.Yielder b) h = tt

  pub world_later : WorldFits p ls w → WorldFits p ms w
  world_later h = record {
    store = h.store;
    objects = all_stay (ObjectFits p w ls) (ObjectFits p w ms) (λ o x. kind_later o.kind x) w.store.objects h.objects;
    globals = h.globals;
    enclosing = h.enclosing;
    activations = h.activations;
  }
