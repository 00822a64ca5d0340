-- What is right in a fine world is right in each later one.
use Rattle.std.proofs.Common.{ℕ, suc, List, [], ◌∷◌, refl, ◌∙◌}
use Rattle.rb_value.specs.declared.method.Method.{Method}
use Rattle.rb_value.specs.declared.method.Method.TheVariants as method
use Rattle.rb_value.specs.declared.value.Value.{Value}
use Rattle.rb_value.specs.declared.procs.ProcContents.{ProcContents}
use Rattle.rb_value.specs.declared.kind.Kind.{Kind}
use Rattle.rb_value.specs.declared.kind.Kind.TheVariants as kind
use Rattle.rb_value.specs.Object.{Object}
use Rattle.def_core.specs.Store.{Store}
use Rattle.def_core.specs.Sound.{census, Sound, ClassOrModule, Proc, Is, IsSymbol, AllAre}
use Rattle.def_calls.specs.World.{World, Activation, Enclosing, Runs, main_program, method_body, block_body, lambda_body, class_body, core_method, with_store}
use Rattle.def_calls.specs.Views.{object_in}
use Rattle.world_laws.specs.Fine.{Bodies, Extends, MethodIs, EntryHas, KindIs, ObjectIs, RunIs, ActivationIs, EnclosingAre, GlobalIs, Fine, Keeps}
use Rattle.world_laws.proofs.Growing.{extends_itself, extends_both, role_stays, value_stays, symbol_stays, census_extends, activation_number_stays, classes_number_stays, option_stays, all_stay}

module _ (b : Bodies) (w v : World) (e : Extends w v) where
  pub method_stays : (m : Method) → MethodIs b w m → MethodIs b v m
  method_stays (method.Body body classes) h = b.body_stays w v body classes e h
  method_stays (method.Core r) h = tt
  method_stays (method.Reader n) h = tt
  method_stays (method.Writer n) h = tt
  method_stays (method.Block p) h = tt
  method_stays method.Undefined h = tt

  pub kind_stays : (k : Kind) → KindIs b w k → KindIs b v k
  kind_stays kind.Plain h = tt
  kind_stays (kind.Class c) h =
      all_stay (EntryHas b w) (EntryHas b v) (λ x. method_stays x.1.method) c.methods h
  kind_stays (kind.String s) h = tt
  kind_stays (kind.Array a) h = tt
  kind_stays (kind.Hash x) h = tt
  kind_stays (kind.Range r) h = tt
  kind_stays (kind.Proc c) h = b.proc_stays w v c e h
  kind_stays (kind.CoreProc r x) h = tt
  kind_stays (kind.Fiber p x) h = tt
  kind_stays (kind.Exception m d) h = tt
  kind_stays (kind.Enumerator x) h = tt
  kind_stays (kind.Yielder p) h = tt

  pub objects_stay : (os : List Object) → AllAre (ObjectIs b w) os → AllAre (ObjectIs b v) os
  objects_stay os all = all_stay (ObjectIs b w) (ObjectIs b v) (λ o. kind_stays o.kind) os all

module _ (w v : World) (e : Extends w v) where
  pub run_stays : (self : Value) (r : Runs) → RunIs (census w.store) self r → RunIs (census v.store) self r
  run_stays self main_program h = tt
  run_stays self method_body h = tt
  run_stays self (block_body p) h = role_stays w v e Proc p h
  run_stays self lambda_body h = tt
  run_stays self class_body h =
      option_stays (Is (census w.store) ClassOrModule) (Is (census v.store) ClassOrModule)
      (role_stays w v e ClassOrModule) (object_in self) h
  run_stays self core_method h = tt

  pub activation_stays : (a : Activation) → ActivationIs w a → ActivationIs v a
  activation_stays a h = record {
    runs = run_stays a.self a.runs h.runs;
    self = value_stays w v e a.self h.self;
    owner = option_stays (Is (census w.store) ClassOrModule) (Is (census v.store) ClassOrModule)
        (role_stays w v e ClassOrModule) a.owner h.owner;
    name = option_stays (IsSymbol (census w.store)) (IsSymbol (census v.store)) (symbol_stays w v e) a.name h.name;
    home = activation_number_stays w v e a.home h.home;
    classes = classes_number_stays w v e a.classes h.classes;
    block = option_stays (Is (census w.store) Proc) (Is (census v.store) Proc) (role_stays w v e Proc) a.block h.block;
  }

  pub activations_stay : (list : List Activation) → AllAre (ActivationIs w) list → AllAre (ActivationIs v) list
  activations_stay list all = all_stay (ActivationIs w) (ActivationIs v) activation_stays list all

  pub enclosing_stay : (n : ℕ) (es : List Enclosing) → EnclosingAre (census w.store) n es
      → EnclosingAre (census v.store) n es
  enclosing_stay n [] h = tt
  enclosing_stay n (c ∷ cs) h = (role_stays w v e ClassOrModule c.class h.0, h.1, enclosing_stay (suc n) cs h.2)

  pub globals_stay : (gs : List (ℕ × Value)) → AllAre (GlobalIs (census w.store)) gs
      → AllAre (GlobalIs (census v.store)) gs
  globals_stay gs all = all_stay (GlobalIs (census w.store)) (GlobalIs (census v.store))
      (λ g h. ((census_extends w v e).names g.0 h.0, value_stays w v e g.1 h.1)) gs all

module _ (b : Bodies) where
  pub keeps_itself : (w : World) → Fine b w → Keeps b w w
  keeps_itself w fine = record { fine = fine; extends = extends_itself w; out = refl }

  pub keeps_then : (w v u : World) → Keeps b w v → Keeps b v u → Keeps b w u
  keeps_then w v u h g = record {
    fine = g.fine;
    extends = extends_both w v u h.extends g.extends;
    out = g.out ∙ h.out;
  }

  -- a later world with nothing but another store
  pub keeps_store : (w : World) (st : Store) → Fine b w → Extends w (with_store w st) → Sound st
      → AllAre (ObjectIs b (with_store w st)) st.objects → Keeps b w (with_store w st)
  keeps_store w st fine e sound objects = record {
    fine = record {
      store = sound;
      objects = objects;
      globals = globals_stay w (with_store w st) e w.globals fine.globals;
      enclosing = enclosing_stay w (with_store w st) e 1 w.enclosing fine.enclosing;
      activations = activations_stay w (with_store w st) e w.activations fine.activations;
    };
    extends = e;
    out = refl;
  }

-- A world that is fine is fine with any other bodies that are right where these are.

module _ (b c : Bodies) (w : World) (procs : (x : ProcContents) → b.ProcIs w x → c.ProcIs w x)
    (bodies : (body classes : ℕ) → b.BodyIs w body classes → c.BodyIs w body classes) where
  other_method : (m : Method) → MethodIs b w m → MethodIs c w m
  other_method (method.Body body classes) h = bodies body classes h
  other_method (method.Core r) h = tt
  other_method (method.Reader n) h = tt
  other_method (method.Writer n) h = tt
  other_method (method.Block p) h = tt
  other_method method.Undefined h = tt

  other_kind : (k : Kind) → KindIs b w k → KindIs c w k
  other_kind kind.Plain h = tt
  other_kind (kind.Class x) h = all_stay (EntryHas b w) (EntryHas c w) (λ e. other_method e.1.method) x.methods h
  other_kind (kind.String s) h = tt
  other_kind (kind.Array a) h = tt
  other_kind (kind.Hash x) h = tt
  other_kind (kind.Range r) h = tt
  other_kind (kind.Proc x) h = procs x h
  other_kind (kind.CoreProc r x) h = tt
  other_kind (kind.Fiber p x) h = tt
  other_kind (kind.Exception m d) h = tt
  other_kind (kind.Enumerator x) h = tt
  other_kind (kind.Yielder p) h = tt

  pub fine_with : Fine b w → Fine c w
  fine_with fine = record {
    store = fine.store;
    objects = all_stay (ObjectIs b w) (ObjectIs c w) (λ o. other_kind o.kind) w.store.objects fine.objects;
    globals = fine.globals;
    enclosing = fine.enclosing;
    activations = fine.activations;
  }
