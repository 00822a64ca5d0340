-- The body of a method or a block is entered: its frame is opened and ENTER binds its arguments, in one transition and two
-- turns, behind which a jump leads past the defaults that aren't needed.
use Rattle.std.proofs.Common.{◌≡◌, ◌⊎◌, inl, inr, ℕ, zero, suc, ◌+◌, ◌-◌, ◌<◌, ◌≤◌, List, [], ◌∷◌, ◌++◌, refl, sym, ap, ◌∙◌, subst, arith, length, length-append, get_or, true}
use Rattle.std.specs.Prelude.{if◌then◌else◌, Option, Some, None}
use Rattle.std.proofs.lemmas.List.{get_or_push}
use Rattle.rb_value.specs.declared.value.Value.{Value}
use Rattle.rb_value.specs.declared.value.Value.TheVariants.{Nil}
use Rattle.rb_value.specs.declared.exit.Slot.TheVariants.{V}
use Rattle.def_core.specs.declared.bound.Bound.TheVariants.{Values, Wrong}
use Rattle.def_core.specs.Bind.{Binding, least, most, bind as bind_arguments}
use Rattle.rb_value.specs.declared.method.Shape.{Shape}
use Rattle.rite_code.specs.Code.{Program}
use Rattle.rite_code.specs.declared.operation.Operation.TheVariants as op
use Rattle.ir_core.specs.CoreForm.{CoreForm, seq, Forms, more, Parameters, Body}
use Rattle.scope_resolver.specs.declared.body_kind.BodyKind.{BodyKind}
use Rattle.scope_resolver.specs.declared.body_kind.BodyKind.TheVariants as kind
use Rattle.scope_resolver.specs.Layout.{Scopes}
use Rattle.gen_parts.specs.declared.line.Line.TheVariants as line
use Rattle.gen_parts.specs.declared.emitter.Spot.{Spot}
use Rattle.gen_parts.specs.Pieces.{behind}
use Rattle.gen_forms.specs.declared.context.Loop.{Loop}
use Rattle.gen_forms.specs.Gen.{gen, others_in_turn, first_spot, parameters, return_by}
use Rattle.path_eval.specs.Steps.{times}
use Rattle.def_core.specs.declared.cause.Cause.{Cause}
use Rattle.def_core.specs.declared.cause.Cause.TheVariants as cause
use Rattle.def_core.specs.Changes.{fails as failures}
use Rattle.def_core.specs.Store.{Store, next_number}
use Rattle.rb_value.specs.declared.value.ObjId.{ObjId}
use Rattle.rb_value.specs.declared.exit.Exit.TheVariants.{Raise}
use Rattle.def_calls.specs.World.{World, Answer, Result, raises, fail, Activation, no_activation, activation_at, next_activation, with_activation, with_store}
use Rattle.def_calls.specs.Calls.{Opening}
use Rattle.def_eval.specs.Source.{Source, body_at, form_of, parameters_of, locals_of}
use Rattle.def_eval.specs.Configuration as source
use Rattle.def_eval.specs.Configuration.{Scope, raise, Item, activation, travel, Config, Run, seen}
use Rattle.def_eval.specs.Scopes.{shape_of, all_of, first_variables, block_value}
use Rattle.def_eval.specs.Entering.{after_result, begin_body, first_of, next_place, open_bound, open_body}
use Rattle.def_eval.specs.Transition.{go}
use Rattle.def_machine.specs.State as machine
use Rattle.def_machine.specs.State.{Registers, Level, frame, State, On, fresh_registers, slot_at, shown}
use Rattle.def_machine.specs.Entering.{new_frame, open_frame, first_of as first_of_machine}
use Rattle.def_machine.specs.Unwind.{throw, after as after_machine, after_result as after_result_machine}
use Rattle.def_machine.specs.Turn.{turn, enter_by, skip, block_value as block_value_machine}
use Rattle.step_laws.specs.Site.{Site, place_in, at_line, LineAt}
use Rattle.step_laws.specs.Covers.{Covers, CoversAll}
use Rattle.step_laws.specs.Calm.{Quiet}
use Rattle.step_laws.specs.Far.{ends_itself}
use Rattle.step_laws.specs.Standing.{high, Stands, Rest, frame_at}
use Rattle.step_laws.specs.Bodies.{FormAt, behind_jumps, start_of, DefaultsAt, BodyAt, IsCalled, by_method, by_proc, OpensBody}
use Rattle.step_laws.specs.Around.{further_slots}
use Rattle.step_laws.proofs.Around.{same_around, method_alone}
use Rattle.step_laws.specs.Relation.{returns, Ground, over_levels, Waits, InFrame, Same, SiteIs, Linked, SeesIn, Both, Running, raised, Alike}
use Rattle.step_laws.proofs.Placed.{line-behind, moved, turned, jumped}
use Rattle.step_laws.proofs.Untouched.{same_world, below_running}
use Rattle.step_laws.proofs.Opened.{waits_more, opened}
use Rattle.step_laws.proofs.Parameters.{set_row}
use Rattle.step_laws.proofs.Begun.{begun_nil, begun_same, nil_same}
use Rattle.step_laws.proofs.Bound.{shape_is_too, Binds, fit, wrong, binds, written_row}
use Rattle.step_laws.proofs.Defaults.{RunsOn, body_runs, skipped, begun_from}
use Rattle.step_laws.proofs.Matching.{Soon, soon_one}
use Rattle.step_laws.proofs.Calling.{Origin, Worlds}

-- a transition that is matched by two turns, the first of which shows what stands after it, and one that is by three
pub two_turns : (s : Source) (p : Program) (c : Config) (t u v : State) → shown t ≡ seen c → turn p t ≡ u
    → shown u ≡ seen (go s c) → turn p u ≡ v → Alike s p (go s c) v → Soon s p c t
two_turns s p c t u v e one e' two r = record {
  advances = record {
    turns = 2;
    few = omega arith;
    related = subst (Alike s p (go s c)) (sym (ap (turn p) one ∙ two)) r;
    between = between;
    falls = λ z. absurd (omega arith);
  };
  soon = omega arith;
}
  where
    between : (j : ℕ) → j < 2 → (shown (times j (turn p) t) ≡ seen c) ⊎ (shown (times j (turn p) t) ≡ seen (go s c))
    between zero l = inl e
    between (suc zero) l = inr (ap shown one ∙ e')
    between (suc (suc j)) l = absurd (omega arith)

three_turns : (s : Source) (p : Program) (c : Config) (t u v z : State) → shown t ≡ seen c → turn p t ≡ u
    → shown u ≡ seen (go s c) → turn p u ≡ v → shown v ≡ seen (go s c) → turn p v ≡ z → Alike s p (go s c) z → Soon s p c t
three_turns s p c t u v z e one e' two e'' three r = record {
  advances = record {
    turns = 3;
    few = omega arith;
    related = subst (Alike s p (go s c)) (sym (ap (λ (q : State). turn p (turn p q)) one ∙ ap (turn p) two ∙ three)) r;
    between = between;
    falls = λ z. absurd (omega arith);
  };
  soon = omega arith;
}
  where
    between : (j : ℕ) → j < 3 → (shown (times j (turn p) t) ≡ seen c) ⊎ (shown (times j (turn p) t) ≡ seen (go s c))
    between zero l = inl e
    between (suc zero) l = inr (ap shown one ∙ e')
    between (suc (suc zero)) l = inr (ap shown (ap (turn p) one ∙ two) ∙ e'')
    between (suc (suc (suc j))) l = absurd (omega arith)

-- a return that ends its own activation is one instruction
returns_by : (k : BodyKind) → ends_itself k ≡ true → return_by k 0 ≡ op.Return 0
returns_by kind.Main e = refl
returns_by kind.Method e = refl
returns_by kind.Block e = absurd (cc e)
returns_by kind.Class e = absurd (cc e)

module _ (s : Source) (p : Program) (c : Config) (ls : List Level) (k : machine.Memory) (m : source.Memory)
    (from : Origin s c ls k m) (o : Opening) (w : World) (ks : List Item) (m' : source.Memory) (g : Ground)
    (gs : List Level) (k' : machine.Memory) (goes : go s c ≡ open_body s o ks m' w)
    (turns : turn p (On ls k) ≡ open_frame p o w gs k') (is : OpensBody s p m.world.store.objects w o)
    (both : Worlds s p (over_levels g gs) m m' k') (waits : Waits g.sites g.fiber k'.lists ks m'.place gs) where
  abbrev b : Body
  b = body_at s o.body

  abbrev ps : Parameters
  ps = parameters_of b

  -- the site of the run
  abbrev d : Site
  d = record {
    source = s;
    program = p;
    body = o.body;
    activation = next_activation w;
    list = length k'.lists;
    self = o.activation.self;
    runs = o.activation.runs;
    wide = is.code.wide;
    at = is.code.at;
    context = is.code.context;
    first = is.code.first;
    guards = [];
  }

  at : BodyAt d
  at = is.code.everywhere (next_activation w) (length k'.lists) o.activation.self o.activation.runs

  -- what its code sees around its own slots
  sees : SeesIn s g.sites o.body o.scopes
  sees = by is.called
    where
      by : IsCalled s m.world.store.objects o → SeesIn s g.sites o.body o.scopes
      by (by_method kind none) =
          ([], method_alone s o.body kind, subst (λ (ns : List ℕ). Linked g.sites [] (first_of ns)) (sym none) refl)
      by (by_proc has) = (both m.world (same_world m.world)).sites.procs o.body o.scopes has

  linked : Linked g.sites (further_slots d.context.scopes) (first_of o.scopes)
  linked = subst (λ (scopes : Scopes). Linked g.sites scopes (first_of o.scopes))
      (same_around s {n = o.body} sees.1 at.sees ∙ sym (ap further_slots at.scopes)) sees.2

  abbrev x : Rest
  x = record { after = 0; waits = 0; arguments = o.arguments; block = o.block; binds = o.binds }

  -- ENTER takes the arguments away
  abbrev y : Rest
  y = record { after = 0; waits = 0; arguments = []; block = o.block; binds = o.binds }

  -- with these values for the parameters: its scope, and its registers when ENTER has bound the arguments
  abbrev scope : List Value → Scope
  scope list = record { parent = first_of o.scopes; variables = first_variables ps (locals_of b) list o.block }

  abbrev fresh : Registers
  fresh = fresh_registers (machine.body_at p o.body) (first_of_machine o.scopes) o.activation.self

  abbrev registers : List Value → Registers
  registers list =
      record fresh { slots = set_row fresh.slots 1 (list ++ block_value_machine o.block ∷ []) }

  -- both sides come to that world, with the store after the binding
  abbrev u : Store → World
  u st = with_activation (with_store w st) o.activation

  opened_frame : open_frame p o w gs k' ≡ On (frame (frame_at d x 0) ∷ gs)
      (record k' { lists = k'.lists ++ fresh ∷ []; world = with_activation w o.activation })
  opened_frame =
      ap (λ (i : ℕ). On (frame (record (new_frame o w k') { place = i }) ∷ gs)
      (record k' { lists = k'.lists ++ fresh ∷ []; world = with_activation w o.activation })) (sym at.begins)

  -- what a site of the run needs besides its scope and its list
  site_of : (cs : List Scope) (l : List Registers) (v : World)
      → v.activations ≡ w.activations ++ o.activation ∷ [] → Same d cs l → SiteIs s p d cs l v
  unfolding activation_at
  site_of cs l v e same =
      let acts = w.activations in
      let last : get_or v.activations (length acts + 1 - 1) no_activation ≡ o.activation =
      ap (λ (xs : List Activation). get_or xs (length acts + 1 - 1) no_activation) e
      ∙ get_or_push acts o.activation no_activation (length acts + 1 - 1) (omega arith) in
      record {
        source = refl;
        program = refl;
        static = at.static;
        same = same;
        from_one = omega arith;
        opened = omega (arith, ap length e, length-append acts (o.activation ∷ []));
        self = ap (λ (q : Activation). q.self) last;
        runs = ap (λ (q : Activation). q.runs) last;
        home = λ e. ap (λ (q : Activation). q.home) last ∙ is.home 0 (returns_by is.code.context.kind_of e);
      }

  first_same : (ns : List ℕ) → first_of_machine ns ≡ first_of ns
  first_same [] = refl
  first_same (n ∷ ns) = refl

  block_same : (q : Option ObjId) → block_value_machine q ≡ block_value q
  block_same None = refl
  block_same (Some i) = refl

  -- the arguments fit
  module _ (list : List Value) (i : ℕ) (st : Store) (right : length list ≡ length (all_of ps))
      (few : i ≤ length ps.optional) (fits : bind_arguments w.store (shape_of ps) o.arguments o.binds
      ≡ record { bound = Values list i; store = st }) where
    abbrev memory : source.Memory
    memory = record m' { place = next_place m' w; scopes = m'.scopes ++ scope list ∷ []; world = u st }

    abbrev memory_too : machine.Memory
    memory_too = record k' { lists = k'.lists ++ registers list ∷ []; world = u st }

    abbrev below : List Item
    below = activation (next_activation w) m'.place ∷ ks

    abbrev conf : Config
    conf = begin_body i (o.body + 1) (form_of b) below memory

    went : go s c ≡ conf
    went = goes ∙ ap (λ (q : Binding). open_bound o b q ks m' w) fits

    run : RunsOn conf memory
    run = body_runs i (o.body + 1) (form_of b) below memory

    abbrev first_state : State
    first_state = On (frame (frame_at d x 0) ∷ gs)
        (record k' { lists = k'.lists ++ fresh ∷ []; world = with_activation w o.activation })

    abbrev state : ℕ → State
    state n = On (frame (frame_at d y n) ∷ gs) memory_too

    -- ENTER goes on at that line
    entered_at : (n : ℕ) → skip p (frame_at d x 0) i (at_line d 1) ≡ at_line d n → turn p first_state ≡ state n
    entered_at n e =
        let k1 : machine.Memory =
        record k' { lists = k'.lists ++ fresh ∷ []; world = with_activation w o.activation } in
        let f = frame_at d x 0 in
        let by : Binding → State = λ q. enter_by p (parameters ps) q (at_line d (0 + 1)) f gs k1 in
        turned d x 0 (op.Enter (parameters ps)) gs k1 at.enters
        ∙ ap (λ (q : Shape). by (bind_arguments w.store q o.arguments o.binds)) (shape_is_too ps)
        ∙ ap by fits
        ∙ ap (λ (q : machine.Memory). On (frame (record (frame_at d y 1) { place = skip p f i (at_line d 1) }) ∷ gs) q)
        (written_row (machine.with_world k' (u st)) k'.lists fresh f 1 (list ++ block_value_machine o.block ∷ []) refl)
        ∙ ap (λ (z : ℕ). On (frame (record (frame_at d y 1) { place = z }) ∷ gs) memory_too) e

    quiet : Quiet m (Run run.focus run.items memory)
    quiet = subst (Quiet m) (went ∙ run.is) from.quiet

    base : Both s p (over_levels g gs) (source.with_world m' (u st)) (machine.with_world k' (u st))
    base = both (u st) quiet.1

    -- what is seen in the new body
    seen_inside : (n : ℕ) → shown (state n) ≡ seen (go s c)
    unfolding shown seen
    seen_inside n = sym (ap seen (went ∙ run.is))

    seen_first : shown first_state ≡ seen (go s c)
    unfolding shown seen
    seen_first = sym (ap seen (went ∙ run.is))

    abbrev with_site : Ground
    with_site = record { sites = g.sites ++ d ∷ []; fiber = g.fiber; below = gs }

    -- the site of the run is there from now on
    abbrev New : Type 0
    New = SiteIs s p d (m'.scopes ++ scope list ∷ []) (k'.lists ++ registers list ∷ []) (u st)

    runs_there : New → Running s p with_site d memory memory_too
    runs_there new =
        opened s p g gs (source.with_world m' (u st)) (machine.with_world k' (u st)) d (scope list) (registers list)
        (next_place m' w) (u st) ks m'.place refl base waits base.sites.lists (first_same o.scopes) linked new
        (same_world (u st))

    there : memory.place ≡ place_in d
    there = ap (λ (n : ℕ). record { activation = next_activation w; scope = n })
        (base.sites.scopes ∙ sym base.sites.lists)

    -- its end
    ends_at : (n : ℕ) → LineAt d n (line.Does (op.Return d.first))
        → InFrame with_site d memory_too.lists below n d.first d.context.loop
    ends_at n l = (
      record {
        is = refl;
        by = returns l (waits_more g.sites d g.fiber k'.lists (registers list) base.sites.lists ks m'.place gs waits);
      },
      at.outside,
      refl,
    )

    -- no parameter is optional
    begins_at_once : FormAt d (length ps.optional) (form_of b) → New → Soon s p c (On ls k)
    begins_at_once q new =
        two_turns s p c (On ls k) first_state (state 1) from.alike (turns ∙ opened_frame) seen_first
        (entered_at 1 (ap (λ (n : ℕ). skip p (frame_at d x 0) n (at_line d 1)) none))
        (subst (λ (z : Config). Alike s p z (state 1)) (sym went)
        (subst (λ (n : ℕ). Alike s p (begin_body n (o.body + 1) (form_of b) below memory) (state 1)) (sym none) (
          with_site,
          d,
          runs_there new,
          record {
            x = y;
            n = 1;
            r = d.first;
            is = refl;
            there = there;
            loop = d.context.loop;
            s = behind (first_spot o.body);
            here = line-behind (first_spot o.body);
            covered = subst (λ (l : Option Loop). Covers d l d.first (behind (first_spot o.body)) (o.body + 1) (form_of b))
                (sym at.outside) q.covered;
            above = omega arith;
            code = q.code;
            next = ends_at (1 + high (gen d.context (behind (first_spot o.body)) d.first (form_of b))) q.ends;
          },
        )))
      where
        none : i ≡ 0
        none = omega (arith, few, q.none_optional)

    -- behind the defaults that aren't needed
    module _ (q : DefaultsAt d (length ps.optional) (form_of b)) (empty : slot_at memory_too.lists d.list d.first ≡ V Nil) (new : New) where
      abbrev sp : Spot
      sp = behind_jumps d (length ps.optional)

      abbrev es : Forms
      es = more q.e q.es

      line_is : sp.line ≡ 2 + length ps.optional
      line_is = omega (arith, line-behind (first_spot o.body))

      covers : CoversAll d d.context.loop d.first sp (o.body + 1) es
      covers = subst (λ (l : Option Loop). CoversAll d l d.first sp (o.body + 1) es) (sym at.outside) q.covered

      code : Stands d sp.line (others_in_turn d.context sp d.first es)
      code = moved d (2 + length ps.optional) sp.line (others_in_turn d.context sp d.first es) (sym line_is) q.code

      next : InFrame with_site d memory_too.lists below (sp.line + high (others_in_turn d.context sp d.first es)) d.first
          d.context.loop
      next = ends_at (sp.line + high (others_in_turn d.context sp d.first es))
          (subst (λ (n : ℕ). LineAt d (n + high (others_in_turn d.context sp d.first es)) (line.Does (op.Return d.first)))
          (sym line_is) q.ends)

      begun : (n : ℕ) → Alike s p (begin_body n (o.body + 1) (seq es) below memory) (state (start_of d sp n es))
      begun zero = (
        with_site,
        d,
        runs_there new,
        record {
          x = y;
          n = sp.line;
          r = d.first;
          is = refl;
          there = there;
          loop = d.context.loop;
          s = sp;
          here = refl;
          covered = (q.room, covers);
          above = omega arith;
          code = code;
          next = next;
        },
      )
      begun (suc n) =
          begun_from with_site d below memory y memory_too (runs_there new) there empty (suc n) (o.body + 1) es sp covers code next

      begins_behind : Soon s p c (On ls k)
      begins_behind =
          three_turns s p c (On ls k) first_state (state (1 + i)) (state (start_of d sp i es)) from.alike
          (turns ∙ opened_frame) seen_first
          (entered_at (1 + i) (skipped d (frame_at d x 0) refl (λ t. start_of d sp t es) i 1
          (λ t lt. q.jumps t (omega (arith, lt, few))))) (seen_inside (1 + i))
          (jumped d y (1 + i) (start_of d sp i es) gs memory_too (q.jumps i few))
          (subst (λ (z : Config). Alike s p z (state (start_of d sp i es)))
          (sym (went ∙ ap (λ (f : CoreForm). begin_body i (o.body + 1) f below memory) q.is)) (begun i))

  -- The arguments are too many or too few: ENTER raises, in the body.
  module _ (given : ℕ) (wrongly : bind_arguments w.store (shape_of ps) o.arguments o.binds
      ≡ record { bound = Wrong given; store = w.store }) where
    -- its scope, all of whose variables are nil
    abbrev empty : Scope
    empty = record { parent = first_of o.scopes; variables = first_variables ps (locals_of b) [] None }

    abbrev inside : source.Memory
    inside = record m' { place = next_place m' w; scopes = m'.scopes ++ empty ∷ []; world = u w.store }

    abbrev cause_of : Shape → Cause
    cause_of q = cause.WrongCount given (least q) (if q.rest then None else Some (most q))

    abbrev failure : Answer
    failure = fail (u w.store) (cause_of (shape_of ps))

    abbrev thrown : ObjId
    thrown = next_number (failures (u w.store).store (cause_of (shape_of ps))).store

    fails : failure.result ≡ raises thrown
    unfolding fail failures
    fails = refl

    out_same : failure.world.out ≡ w.out
    unfolding fail failures
    out_same = refl

    activations_same : failure.world.activations ≡ w.activations ++ o.activation ∷ []
    unfolding fail failures
    activations_same = refl

    abbrev left : Config
    left = Run (travel (raise thrown)) (activation (next_activation w) m'.place ∷ ks) (source.with_world inside failure.world)

    went_wrong : go s c ≡ left
    went_wrong =
        goes
        ∙ ap (λ (q : Binding). open_bound o b q ks m' w) wrongly
        ∙ ap (λ (q : Result). after_result q failure.world (activation (next_activation w) m'.place ∷ ks) inside) fails

    abbrev before : machine.Memory
    before = record k' { lists = k'.lists ++ fresh ∷ []; world = with_activation w o.activation }

    throws : turn p (On (frame (frame_at d x 0) ∷ gs) before)
        ≡ throw p (Raise thrown) (frame (frame_at d x 0) ∷ gs) (machine.with_world before failure.world)
    throws =
        let e = op.Enter (parameters ps) in
        let f = frame_at d x 0 in
        let by : Binding → State = λ q. enter_by p (parameters ps) q (at_line d (0 + 1)) f gs before in
        turned d x 0 e gs before at.enters
        ∙ ap (λ (q : Shape). by (bind_arguments w.store q o.arguments o.binds)) (shape_is_too ps)
        ∙ ap by wrongly
        ∙ ap (λ (q : Shape). after_machine p (fail (u w.store) (cause_of q)) 0 (at_line d (0 + 1)) f gs (machine.with_world before (u w.store)))
        (shape_is_too ps)
        ∙ ap (λ (q : Result). after_result_machine p q 0 (at_line d (0 + 1)) f gs (machine.with_world before failure.world))
        fails

    still : Quiet m left
    still = subst (Quiet m) went_wrong from.quiet

    ground : Both s p (over_levels g gs) (source.with_world m' failure.world) (machine.with_world k' failure.world)
    ground = both failure.world still.1

    abbrev above : Ground
    above = record { sites = g.sites ++ d ∷ []; fiber = g.fiber; below = gs }

    running : SiteIs s p d (m'.scopes ++ empty ∷ []) (k'.lists ++ fresh ∷ []) failure.world
        → Running s p above d (source.with_world inside failure.world) (machine.with_world before failure.world)
    running new = opened s p g gs (source.with_world m' failure.world) (machine.with_world k' failure.world) d empty fresh
        (next_place m' w) failure.world ks m'.place refl ground waits ground.sites.lists (first_same o.scopes) linked new
        (same_world failure.world)

    raises_inside : SiteIs s p d (m'.scopes ++ empty ∷ []) (k'.lists ++ fresh ∷ []) failure.world
        → Soon s p c (On ls k)
    raises_inside new =
        let run = running new in
        soon_one s p c (On ls k) (On (frame (frame_at d x 0) ∷ gs) before) from.alike (turns ∙ opened_frame)
        (subst (λ (q : Config). Alike s p q (On (frame (frame_at d x 0) ∷ gs) before)) (sym went_wrong) (raised (record {
          g = over_levels above (frame (frame_at d x 0) ∷ gs);
          e = thrown;
          exception = refl;
          memory = machine.with_world before failure.world;
          throws = throws;
          out = sym out_same;
          both = below_running above d (source.with_world inside failure.world)
              (machine.with_world before failure.world) run (frame_at d x 0) refl;
          leaving = record {
            h = d;
            x = x;
            at = 0;
            below = gs;
            is = refl;
            site = run.site;
            same = refl;
            unguarded = at.enters.guarded;
            next = waits_more g.sites d g.fiber k'.lists fresh ground.sites.lists ks m'.place gs waits;
          };
        })))

  -- A transition that opens such a body is matched.
  pub enters_body : length m'.scopes ≡ length k'.lists → Soon s p c (On ls k)
  enters_body long = by (binds ps at.single.one_rest w.store o.arguments o.binds)
    where
      new : (list : List Value) (st : Store) → length list ≡ length (all_of ps)
          → SiteIs s p d (m'.scopes ++ scope list ∷ []) (k'.lists ++ registers list ∷ []) (u st)
      new list st right =
          site_of (m'.scopes ++ scope list ∷ []) (k'.lists ++ registers list ∷ []) (u st) refl
          (subst (λ (q : Value). Same d (m'.scopes ++ scope list ∷ [])
          (k'.lists ++ (record fresh { slots = set_row fresh.slots 1 (list ++ q ∷ []) }) ∷ [])) (sym (block_same o.block))
          (begun_same d at list o.block right m'.scopes k'.lists (first_of o.scopes) (first_of_machine o.scopes) refl long))

      fitted : (list : List Value) (given : ℕ) (st : Store) (right : length list ≡ length (all_of ps))
          (few : given ≤ length ps.optional) → bind_arguments w.store (shape_of ps) o.arguments o.binds
          ≡ record { bound = Values list given; store = st }
          → FormAt d (length ps.optional) (form_of b) ⊎ DefaultsAt d (length ps.optional) (form_of b) → Soon s p c (On ls k)
      fitted list given st right few fits (inl q) =
          begins_at_once list given st right few fits q (new list st right)
      fitted list given st right few fits (inr q) =
          begins_behind list given st right few fits q
          (subst (λ (v : Value). slot_at (k'.lists ++ (record fresh { slots = set_row fresh.slots 1 (list ++ v ∷ []) }) ∷ [])
          d.list d.first ≡ V Nil) (sym (block_same o.block))
          (begun_nil d at list o.block right k'.lists (first_of_machine o.scopes) refl)) (new list st right)

      by : Binds ps w.store o.arguments o.binds → Soon s p c (On ls k)
      by (fit list given st right few fits) = fitted list given st right few fits at.form
      by (wrong given wrongly) =
          raises_inside given wrongly (site_of (m'.scopes ++ empty given wrongly ∷ []) (k'.lists ++ fresh ∷ [])
          (failure given wrongly).world (activations_same given wrongly)
          (nil_same d at m'.scopes k'.lists (first_of o.scopes) (first_of_machine o.scopes) refl long))
