-- What fits a world and a list of scopes fits later ones.
use Rattle.std.proofs.Common.{◌<◌, ℕ, ◌-◌, List, [], ◌∷◌, length, get_or, sym, ap, ◌∙◌, arith}
use Rattle.std.specs.Prelude.{bytes_eq}
use Rattle.std.specs.List.{list_any}
use Rattle.std.proofs.lemmas.List.Folds.{list_any-append}
use Rattle.std.proofs.lemmas.List.{get_or_append_left}
use Rattle.rb_value.specs.declared.method.Method.{Method}
use Rattle.rb_value.specs.declared.method.Method.TheVariants as method
use Rattle.rb_value.specs.declared.kind.Kind.{Kind}
use Rattle.rb_value.specs.declared.kind.Kind.TheVariants as kind
use Rattle.rb_value.specs.declared.kind.Sort.TheVariants as sort
use Rattle.rb_value.specs.declared.procs.ProcContents.{ProcContents}
use Rattle.def_core.specs.Sound.{census, Array}
use Rattle.ir_core.specs.Program.{Around}
use Rattle.def_calls.specs.World.{World, Activation, no_activation, activation_at}
use Rattle.def_calls.specs.Calls.{Sending, by_name, by_bare_name, to_proc, to_super}
use Rattle.def_calls.specs.Fibers.{Fibers}
use Rattle.world_laws.proofs.Plans.{values_stay, state_stays}
use Rattle.world_laws.proofs.Fibers.{fibers_stay}
use Rattle.def_eval.specs.Source.{Source}
use Rattle.def_eval.specs.Configuration as eval
use Rattle.def_eval.specs.Configuration.{Place, Scope, Exit, Gathering, Part, Outgoing, Item, Kept}
use Rattle.world_laws.specs.Fine.{Extends, Fine, KindIs, ObjectIs, MethodIs, EntryHas}
use Rattle.world_laws.specs.Outcomes.{SendingIs, FibersAre}
use Rattle.world_laws.proofs.Growing.{sort_stays, role_stays, symbol_stays, value_stays, activation_number_stays, all_stay}
use Rattle.eval_laws.specs.Fits.{PlaceFits, ExitFits, OutgoingFits, GatheringFits, PartStands, PartFits, IsCore, ItemsFit, KeptFits, ProcFits, NamesFit, bodies}
use Rattle.eval_laws.proofs.Scopes.{Parents, Later, scopes_same, scene_later}
use Rattle.eval_laws.proofs.Tests.{or_left}

module _ (s : Source) (w v : World) (e : Extends w v) where
  pub exit_stays : (ks : List Item) (x : Exit) → ExitFits (census w.store) ks x → ExitFits (census v.store) ks x
  exit_stays ks (eval.raise x) h = sort_stays w v e sort.Exception x h
  exit_stays ks (eval.return a x) h = (h.0, value_stays w v e x h.1)
  exit_stays ks (eval.break a x) h = (h.0, value_stays w v e x h.1)
  exit_stays ks (eval.leave_loop x) h = (h.0, value_stays w v e x h.1)
  exit_stays ks (eval.next x) h = (h.0, value_stays w v e x h.1)
  exit_stays ks eval.begin_anew h = h

  outgoing_stays : (ks : List Item) (o : Outgoing) → OutgoingFits (census w.store) ks o
      → OutgoingFits (census v.store) ks o
  outgoing_stays ks (eval.value x) h = value_stays w v e x h
  outgoing_stays ks (eval.exit x) h = exit_stays ks x h

  pub sending_stays : (k : Sending) → SendingIs (census w.store) k → SendingIs (census v.store) k
  sending_stays (by_name x) h = symbol_stays w v e x h
  sending_stays (by_bare_name x) h = symbol_stays w v e x h
  sending_stays to_proc h = tt
  sending_stays to_super h = tt

  pub gathering_stays : (a : Around) (n : ℕ) (g : Gathering) → GatheringFits s a (census w.store) n g
      → GatheringFits s a (census v.store) n g
  gathering_stays a n eval.an_array h = tt
  gathering_stays a n (eval.arguments_of k recv b) h = (sending_stays k h.0, value_stays w v e recv h.1, h.2)

  stands_still : (a : Around) (p : Part) → PartStands s (census w.store) a p → PartStands s (census v.store) a p
  stands_still a (eval.operands n action vs es) h = (h.0, values_stay w v e vs h.1, h.2, h.3)
  stands_still a (eval.receiver n x is b) h = h
  stands_still a (eval.items n k recv vs is b) h =
      (sending_stays k h.0, value_stays w v e recv h.1, values_stay w v e vs h.2, h.3, h.4)
  stands_still a (eval.block k recv vs) h = (sending_stays k h.0, value_stays w v e recv h.1, values_stay w v e vs h.2)
  stands_still a (eval.elements n g id splat is) h =
      (gathering_stays a _ g h.0, role_stays w v e Array id h.1, h.2)
  stands_still a (eval.hash_key n id x ps) h = (sort_stays w v e sort.Hash id h.0, h.1, h.2)
  stands_still a (eval.hash_value n id key ps) h =
      (sort_stays w v e sort.Hash id h.0, value_stays w v e key h.1, h.2)
  stands_still a (eval.pieces n id es) h = (sort_stays w v e sort.String id h.0, h.1)
  stands_still a (eval.rest n es) h = h
  stands_still a (eval.test n b bs o) h = h
  stands_still a eval.chosen h = h
  stands_still a (eval.and_then n x) h = h
  stands_still a (eval.or_else n x) h = h
  stands_still a (eval.loop_test n t b) h = h
  stands_still a (eval.loop_body n t b) h = h
  stands_still a (eval.rescued n b cs o) h = h
  stands_still a (eval.clause_class n x es t b cs r) h =
      (sort_stays w v e sort.Exception x h.0, h.1, h.2, h.3, h.4, h.5)
  stands_still a (eval.clause_target n x b r) h = (sort_stays w v e sort.Exception x h.0, h.1, h.2)
  stands_still a (eval.clause_body r) h = h
  stands_still a (eval.ensured n x) h = h

  core_stays : (a : ℕ) → IsCore w a → IsCore v a
  unfolding activation_at
  core_stays a h =
      let more = e.activations.more in
      record {
        there = activation_number_stays w v e a h.there;
        runs = ap (λ (xs : List Activation). (get_or xs (a - 1) no_activation).runs) e.activations.same
            ∙ ap (λ (x : Activation). x.runs)
            (get_or_append_left w.activations more no_activation (a - 1) (omega (arith, h.there.0, h.there.1)))
            ∙ h.runs;
      }

  module _ (cs ds : List Scope) (p : Parents cs) (l : Later cs ds) where
    pub place_stays : (q : Place) → PlaceFits w cs q → PlaceFits v ds q
    place_stays q h = record {
      activation = activation_number_stays w v e q.activation h.activation;
      scope = omega (arith, h.scope, l.longer);
    }

    part_stays : (n : ℕ) (ks : List Item) (x : Part) → n < length cs → PartFits s (census w.store) cs n ks x
        → PartFits s (census v.store) ds n ks x
    part_stays n ks x lt h = (
      h.0,
      record { scene = scene_later cs ds p l n lt h.0 h.1.scene; target = h.1.target; clause = h.1.clause },
      stands_still h.0 x h.2,
    )

    pub items_stay : (q : Place) (ks : List Item) → q.scope < length cs → ItemsFit s w cs q ks → ItemsFit s v ds q ks
    items_stay q [] lt h = tt
    items_stay q (eval.part x ∷ ks) lt h = (part_stays q.scope ks x lt h.0, h.1, items_stay q ks lt h.2)
    items_stay q (eval.activation a back ∷ ks) lt h = (h.0, place_stays back h.1, items_stay back ks h.1.scope h.2)
    items_stay q (eval.iteration a it back ∷ ks) lt h =
        ((h.0.0, core_stays a h.0.1), state_stays w v e it h.1, place_stays back h.2, items_stay back ks h.2.scope h.3)
    items_stay q (eval.ensuring o ∷ ks) lt h = (outgoing_stays ks o h.0, h.1, items_stay q ks lt h.2)

    kept_stays : (k : Kept) → KeptFits s w cs k → KeptFits s v ds k
    kept_stays k h = record {
      place = place_stays k.place h.place;
      items = items_stay k.place k.items h.place.scope h.items;
    }

    pub memories_stay : (fs : Fibers Kept) → FibersAre (census w.store) (KeptFits s w cs) fs
        → FibersAre (census v.store) (KeptFits s v ds) fs
    memories_stay fs h = fibers_stay w v e (KeptFits s w cs) (KeptFits s v ds) kept_stays fs h

-- A name that has a symbol keeps it.

pub names_stay : (s : Source) (w v : World) → Extends w v → NamesFit s w → NamesFit s v
names_stay s w v e h x is =
    ap (list_any (bytes_eq x)) e.symbols.same ∙ list_any-append (bytes_eq x) w.store.symbols e.symbols.more
    ∙ or_left (list_any (bytes_eq x) w.store.symbols) (list_any (bytes_eq x) e.symbols.more) (h x is)

-- The same world, with other scopes.

module _ (s : Source) (Known : ℕ → List ℕ → Type 0) (cs ds : List Scope) (p : Parents cs) (l : Later cs ds) (w : World)
  where
    pub proc_later : (c : ProcContents) → ProcFits s Known cs w c → ProcFits s Known ds w c
    proc_later c h = record {
      around = h.around;
      scope = h.scope;
      within = omega (arith, h.within, l.longer);
      scopes = h.scopes ∙ sym (scopes_same cs ds h.scope p l h.within);
      scene = scene_later cs ds p l h.scope h.within h.around h.scene;
      body = h.body;
      shape = h.shape;
      known = h.known;
      home = h.home;
      classes = h.classes;
    }

    method_later : (m : Method) → MethodIs (bodies s Known cs) w m → MethodIs (bodies s Known ds) w m
    unfolding bodies
    method_later (method.Body b n) h = h
    method_later (method.Core r) h = tt
    method_later (method.Reader n) h = tt
    method_later (method.Writer n) h = tt
    method_later (method.Block b) h = tt
    method_later method.Undefined h = tt

    kind_later : (k : Kind) → KindIs (bodies s Known cs) w k → KindIs (bodies s Known ds) w k
    unfolding bodies
    kind_later kind.Plain h = tt
    kind_later (kind.Class c) h = all_stay (EntryHas (bodies s Known cs) w) (EntryHas (bodies s Known ds) w)
        (λ x. method_later x.1.method) c.methods h
    kind_later (kind.String x) h = tt
    kind_later (kind.Array a) h = tt
    kind_later (kind.Hash x) h = tt
    kind_later (kind.Range r) h = tt
    kind_later (kind.Proc c) h = proc_later c h
    kind_later (kind.CoreProc r x) h = tt
    kind_later (kind.Fiber b x) h = tt
    kind_later (kind.Exception x d) h = tt
    kind_later (kind.Enumerator x) h = tt
    kind_later (kind.Yielder b) h = tt

    pub fine_later : Fine (bodies s Known cs) w → Fine (bodies s Known ds) w
    fine_later h = record {
      store = h.store;
      objects = all_stay (ObjectIs (bodies s Known cs) w) (ObjectIs (bodies s Known ds) w) (λ o. kind_later o.kind) w.store.objects
          h.objects;
      globals = h.globals;
      enclosing = h.enclosing;
      activations = h.activations;
    }
