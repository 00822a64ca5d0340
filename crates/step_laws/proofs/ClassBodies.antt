-- The body of a class or a module begins: its frame is opened in the turn of the transition.
use Rattle.std.proofs.Common.{◌≡◌, ℕ, ◌+◌, ◌-◌, List, [], ◌∷◌, ◌++◌, refl, sym, ap, ◌∙◌, subst, arith, length, length-append, length-set, get_or, get_or-set_same, get_or-set_other, replicate}
use Rattle.std.specs.Prelude.{unwrap_or, is_some, Option, None}
use Rattle.std.proofs.lemmas.List.{get_or_push, length-replicate}
use Rattle.rb_value.specs.declared.value.Value.{Value}
use Rattle.rb_value.specs.declared.value.Value.TheVariants.{Nil, Obj}
use Rattle.rb_value.specs.declared.value.ObjId.{ObjId}
use Rattle.rb_value.specs.declared.exit.Slot.TheVariants.{V}
use Rattle.rb_value.specs.Slot.{read}
use Rattle.def_core.specs.declared.bound.BindKind.TheVariants as bind
use Rattle.rite_code.specs.Code.{Program}
use Rattle.rite_code.specs.declared.operation.Operation.TheVariants as op
use Rattle.gen_parts.specs.declared.line.Line.TheVariants as line
use Rattle.ir_core.specs.CoreForm.{Local, Parameters, Body}
use Rattle.scope_resolver.specs.declared.seek.Search.TheVariants.{Past}
use Rattle.scope_resolver.specs.Layout.{Scopes, named_slots, seek}
use Rattle.gen_forms.specs.declared.context.Loop.{Loop}
use Rattle.gen_forms.specs.Gen.{first_spot}
use Rattle.def_calls.specs.World.{World, Activation, class_body, no_activation, activation_at, next_activation}
use Rattle.def_calls.specs.Calls.{class_activation, with_class_body}
use Rattle.def_eval.specs.Source.{Source, no_parameters, body_at, form_of, parameters_of, locals_of}
use Rattle.def_eval.specs.Configuration as source
use Rattle.def_eval.specs.Configuration.{Scope, all_nil, Item, activation, perform, Config, Run}
use Rattle.def_eval.specs.Scopes.{no_scope, value_in, scope_at, first_variables}
use Rattle.def_eval.specs.Transition.{go}
use Rattle.def_machine.specs.State as machine
use Rattle.def_machine.specs.State.{Registers, no_registers, Level, frame, begun_frame, State, On, list_at, fresh_registers}
use Rattle.def_machine.specs.Turn.{turn}
use Rattle.step_laws.specs.Around.{is_found, first_slots, further_slots}
use Rattle.step_laws.specs.Site.{Site, LineAt, register}
use Rattle.step_laws.specs.Covers.{Covers}
use Rattle.step_laws.specs.Calm.{Quiet}
use Rattle.step_laws.specs.Far.{ends_itself}
use Rattle.step_laws.specs.Standing.{Rest, frame_at}
use Rattle.step_laws.specs.Bodies.{body_of, ClassAt, ClassCode}
use Rattle.step_laws.specs.Relation.{returns, Ground, over_levels, Waits, Same, SiteIs, Both, Running, Alike}
use Rattle.step_laws.proofs.Untouched.{same_world}
use Rattle.step_laws.proofs.Opened.{waits_more, opened}
use Rattle.step_laws.proofs.Parameters.{sought, lined_nils}
use Rattle.step_laws.proofs.Begun.{mirrored_by, all_nils, nil_at}
use Rattle.step_laws.proofs.Matching.{Soon, soon_one}
use Rattle.step_laws.proofs.Calling.{Origin, Worlds}

-- without parameters all variables are locals
bare_variables : (p : Parameters) (ls : List Local) → p ≡ no_parameters → first_variables p ls [] None ≡ all_nil ls
unfolding first_variables
bare_variables p ls e = ap (λ (q : Parameters). first_variables q ls [] None) e

-- the scope of such a body, and its registers
abbrev pub class_scope : Body → Scope
class_scope b = record { parent = None; variables = first_variables (parameters_of b) (locals_of b) [] None }

abbrev class_registers : Site → Registers
class_registers d = fresh_registers (machine.body_at d.program d.body) None d.self

class_same : (d : Site) (m : ClassAt d) (cs : List Scope) (l : List Registers) → d.list ≡ length l
    → length cs ≡ length l → Same d (cs ++ class_scope (body_of d) ∷ []) (l ++ class_registers d ∷ [])
unfolding machine.slot_at
class_same d m cs l e f =
    let count = (machine.body_at d.program d.body).registers in
    let ls = locals_of (body_of d) in
    let c = class_scope (body_of d) in
    let r = class_registers d in
    let nils = replicate count (V Nil) in
    let variables : c.variables ≡ all_nil ls = bare_variables (parameters_of (body_of d)) ls m.bare in
    let scope : scope_at (cs ++ c ∷ []) d.list ≡ c = get_or_push cs c no_scope d.list (omega (arith, e, f)) in
    let list : list_at (l ++ r ∷ []) d.list ≡ r = get_or_push l r no_registers d.list (sym e) in
    record {
      scope = omega (arith, e, f, length-append cs (c ∷ []));
      mirrors = λ x is.
          ap (λ (q : Scope). is_some (value_in q.variables x)) scope
          ∙ ap (λ (vs : List (Local × Value)). is_some (value_in vs x)) variables
          ∙ mirrored_by x (λ i. Nil) (all_nil ls) (seek x (named_slots ls) (Past 1))
          (sought x (named_slots ls) 1 (λ i. Nil) (all_nil ls) (lined_nils ls 1 (λ i. Nil) (λ i le. refl)))
          ∙ sym (ap (λ (z : Scopes). is_found (seek x (first_slots z) (Past 1))) m.scopes);
      present = omega (arith, e, length-append l (r ∷ []));
      long = ap (λ (q : Registers). length q.slots) list
          ∙ length-set nils 0 (V d.self) ∙ length-replicate count (V Nil);
      self = ap (λ (q : Registers). read (get_or q.slots 0 (V Nil))) list
          ∙ ap read (get_or-set_same nils 0 (V d.self) (V Nil)
          (omega (arith, length-replicate count (V Nil), m.static.some, m.static.room)));
      alike = λ x k. ap (λ (q : Scope). unwrap_or (value_in q.variables x) Nil) scope
          ∙ ap (λ (vs : List (Local × Value)). unwrap_or (value_in vs x) Nil) variables ∙ all_nils ls x
          ∙ sym (ap (λ (q : Registers). read (get_or q.slots (register d x) (V Nil))) list
          ∙ ap read (get_or-set_other nils 0 (register d x) (V d.self) (V Nil) (omega (arith, k.behind_self))
          ∙ nil_at count (register d x)));
    }

-- The memories with which both sides begin it, in a world whose running activation is that one.
abbrev pub begun_source : Source → ℕ → ObjId → Activation → World → source.Memory → source.Memory
begun_source s n cls a w m = record m {
  place = record { activation = next_activation w; scope = length m.scopes };
  scopes = m.scopes ++ class_scope (body_at s n) ∷ [];
  world = with_class_body w a cls;
}

abbrev pub begun_machine : Program → ℕ → ObjId → Activation → World → machine.Memory → machine.Memory
begun_machine p n cls a w k = record k {
  lists = k.lists ++ fresh_registers (machine.body_at p n) None (Obj cls) ∷ [];
  world = with_class_body w a cls;
}

abbrev pub begun_config : Source → ℕ → ObjId → Activation → World → List Item → source.Memory → Config
begun_config s n cls a w ks m =
    Run (perform (n + 1) (form_of (body_at s n))) (activation (next_activation w) m.place ∷ ks)
    (begun_source s n cls a w m)

abbrev pub begun_state : Program → ℕ → ObjId → Activation → World → List Level → machine.Memory → State
begun_state p n cls a w gs k =
    On (frame (begun_frame (next_activation w) n (length k.lists) [] None bind.Method) ∷ gs)
    (begun_machine p n cls a w k)

module _ (s : Source) (p : Program) (c : Config) (ls : List Level) (k : machine.Memory) (m : source.Memory)
    (from : Origin s c ls k m) (n : ℕ) (cls : ObjId) (a : Activation) (w : World) (ks : List Item) (m' : source.Memory)
    (g : Ground) (gs : List Level) (k' : machine.Memory) (goes : go s c ≡ begun_config s n cls a w ks m')
    (turns : turn p (On ls k) ≡ begun_state p n cls a w gs k') (is : ClassCode s p n)
    (both : Worlds s p (over_levels g gs) m m' k') (waits : Waits g.sites g.fiber k'.lists ks m'.place gs) where
  abbrev b : Body
  b = body_at s n

  -- both sides come to that world
  abbrev u : World
  u = with_class_body w a cls

  abbrev begun : source.Memory
  begun = begun_source s n cls a w m'

  abbrev begun_too : machine.Memory
  begun_too = begun_machine p n cls a w k'

  -- the site of the run
  abbrev d : Site
  d = record {
    source = s;
    program = p;
    body = n;
    activation = next_activation w;
    list = length k'.lists;
    self = Obj cls;
    runs = class_body;
    wide = is.wide;
    at = is.at;
    context = is.context;
    first = is.first;
    guards = [];
  }

  at : ClassAt d
  at = is.everywhere (next_activation w) (length k'.lists) (Obj cls) class_body

  abbrev x : Rest
  x = record { after = 0; waits = 0; arguments = []; block = None; binds = bind.Method }

  abbrev state : State
  state = On (frame (frame_at d x 0) ∷ gs) begun_too

  site_is : Same d begun.scopes begun_too.lists → SiteIs s p d begun.scopes begun_too.lists u
  unfolding activation_at with_class_body
  site_is same =
      let acts = w.activations in
      let new = class_activation w a cls in
      let last : get_or (acts ++ new ∷ []) (length acts + 1 - 1) no_activation ≡ new =
      get_or_push acts new no_activation (length acts + 1 - 1) (omega arith) in
      record {
        source = refl;
        program = refl;
        static = at.static;
        same = same;
        from_one = omega arith;
        opened = omega (arith, length-append acts (new ∷ []));
        self = ap (λ (q : Activation). q.self) last;
        runs = ap (λ (q : Activation). q.runs) last;
        home = λ e. absurd (cc (sym (ap ends_itself at.of_class) ∙ e));
      }

  still : Quiet m (begun_config s n cls a w ks m')
  still = subst (Quiet m) goes from.quiet

  base : Both s p (over_levels g gs) (source.with_world m' u) (machine.with_world k' u)
  base = both u still.1

  abbrev with_site : Ground
  with_site = record { sites = g.sites ++ d ∷ []; fiber = g.fiber; below = gs }

  linked : further_slots d.context.scopes ≡ []
  linked = ap further_slots at.scopes

  runs_there : Running s p with_site d begun begun_too
  runs_there =
      opened s p g gs (source.with_world m' u) (machine.with_world k' u) d (class_scope b)
      (fresh_registers (machine.body_at p n) None (Obj cls)) begun.place u ks m'.place refl base waits base.sites.lists
      refl linked
      (site_is (class_same d at m'.scopes k'.lists refl (base.sites.scopes ∙ sym base.sites.lists))) (same_world u)

  -- A transition that begins such a body is matched.
  pub begins_class : Soon s p c (On ls k)
  begins_class =
      soon_one s p c (On ls k) state from.alike
      (turns ∙ ap (λ (i : ℕ). On (frame (record (begun_frame (next_activation w) n (length k'.lists) [] None
      bind.Method)
      { place = i }) ∷ gs) begun_too) (sym at.begins))
      (subst (λ (z : Config). Alike s p z state) (sym goes) (
        with_site,
        d,
        runs_there,
        record {
          x = x;
          n = 0;
          r = d.first;
          is = refl;
          there = ap (λ (i : ℕ). record { activation = next_activation w; scope = i })
              (base.sites.scopes ∙ sym base.sites.lists);
          loop = d.context.loop;
          s = first_spot n;
          here = refl;
          covered = subst (λ (l : Option Loop). Covers d l d.first (first_spot n) (n + 1) (form_of b)) (sym at.outside)
              at.covered;
          above = omega arith;
          code = at.code;
          next = (
            record {
              is = refl;
              by = returns (subst (λ (i : ℕ). LineAt d i (line.Does (op.Return d.first))) (omega arith) at.ends)
                  (waits_more g.sites d g.fiber k'.lists
                  (fresh_registers (machine.body_at p n) None (Obj cls)) base.sites.lists ks m'.place gs waits);
            },
            at.outside,
            refl,
          );
        },
      ))
