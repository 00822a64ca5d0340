-- A call of the block of a method: it stands in a register before the items, or there is none.
use Rattle.std.proofs.Common.{◌≡◌, ℕ, ◌+◌, List, [], ◌∷◌, refl, sym, ap, ◌∙◌, subst, arith, Bool, true, false}
use Rattle.std.specs.Prelude.{if◌then◌else◌, Option, Some, None}
use Rattle.rb_value.specs.declared.value.Value.TheVariants.{Obj}
use Rattle.rb_value.specs.declared.value.ObjId.{ObjId}
use Rattle.rb_value.specs.declared.exit.Slot.TheVariants.{V}
use Rattle.rite_code.specs.declared.operation.Operation.TheVariants as op
use Rattle.ir_counts.specs.Tables.{item_count}
use Rattle.ir_core.specs.CoreForm.{yield_form, absent, Items}
use Rattle.gen_parts.specs.declared.line.Line.TheVariants as line
use Rattle.gen_parts.specs.declared.emitter.Spot.{Spot}
use Rattle.gen_parts.specs.Pieces.{Piece, past, does, ◌⊕◌}
use Rattle.gen_forms.specs.declared.calls.Passing.{Passing}
use Rattle.gen_forms.specs.Gen.{Code, gen, gather, pass_in_registers, passing, passed_by, count_operand}
use Rattle.def_core.specs.declared.cause.Cause.TheVariants as cause
use Rattle.def_calls.specs.World.{activation_at}
use Rattle.def_calls.specs.Calls.{to_proc}
use Rattle.eval_laws.specs.Standing.{past_items}
use Rattle.def_eval.specs.Configuration as source
use Rattle.def_eval.specs.Configuration.{Place, arguments_of, Item, perform, Config, Run}
use Rattle.def_eval.specs.Forms.{next_item, gather as gather_all, has_splat as has_splats, do_yield as yields_in, do_form}
use Rattle.def_eval.specs.Transition.{go}
use Rattle.def_machine.specs.State as machine
use Rattle.def_machine.specs.State.{Level, frame}
use Rattle.def_machine.specs.Turn.{turn, block_of_home}
use Rattle.step_laws.specs.Site.{Site, within, at_line, LineAt, Room}
use Rattle.step_laws.specs.Passed.{Passed}
use Rattle.step_laws.specs.Covers.{past_items_code, past_new, CoversItems, CoversElements}
use Rattle.step_laws.specs.Calm.{IsSteady, Peace}
use Rattle.step_laws.specs.Behind.{Static, HoldsCall, a_block, yields_array, array_alone, ItemsEnd, by_yield, by_array}
use Rattle.step_laws.specs.Relation.{Ground, InFrame, Common, Doing, Step}
use Rattle.step_laws.proofs.Placed.{high, high-both, high-puts, line-past, Stands, moved, KeepsWithin, Keeps, left, right, left_at, right_at, the_line, frame_at, turned}
use Rattle.step_laws.proofs.Guards.{within_both, within_puts, within_moved}
use Rattle.step_laws.proofs.Within.{items_keep, elements_keep, arguments_keep}
use Rattle.step_laws.proofs.Registers.{slot_same, keeps_above}
use Rattle.step_laws.proofs.Untouched.{put_only, frame_kept, same_here, written_here}
use Rattle.step_laws.proofs.Matching.{Within, one_more, later, going, state_at, written}
use Rattle.step_laws.proofs.Calling.{From}
use Rattle.step_laws.proofs.Failing.{fails_here}
use Rattle.step_laws.proofs.Literals.{aligned}
use Rattle.step_laws.proofs.Passing.{HowPassed, in_registers, in_array_of, gathered_all, how_passed, same_splats, no_splat}
use Rattle.step_laws.proofs.Sends.{sent_moved, items_on}
use Rattle.step_laws.proofs.Spreading.{spread_on}

-- The parts of its code: the block, the items, and the call.
record YieldParts (h : Site) (n r count : ℕ) (q : Piece) (end : ℕ) : Type 0 where
  pub block : LineAt h n (line.Does (op.BlkPush r))
  pub items : Stands h (n + 1) q
  pub calls : LineAt h (n + 1 + high q) (line.Does (op.Call r count))
  pub ends : n + 1 + high q + 1 ≡ end

yield_parts : (h : Site) (n r count : ℕ) (s : Spot) (q : Piece) → s.line ≡ n + 1 → Keeps s q
    → Stands h n (does (op.BlkPush r) ⊕ q ⊕ does (op.Call r count))
    → YieldParts h n r count q (n + high (does (op.BlkPush r) ⊕ q ⊕ does (op.Call r count)))
yield_parts h n r count s q here x code =
    let p = does (op.BlkPush r) in
    let o = op.Call r count in
    let one : n + high p ≡ n + 1 = omega (arith, high-puts (line.Does (op.BlkPush r))) in
    let kept : KeepsWithin (n + high p) q = within_moved s.line (n + high p) q (here ∙ sym one) x in
    let rest = right h n p (q ⊕ does o) (within_puts _ _) code in
    record {
      block = the_line h n (line.Does (op.BlkPush r))
          (left h n p (q ⊕ does o) (within_both _ q (does o) kept (within_puts _ _)) code);
      items = moved h (n + high p) (n + 1) q one (left h (n + high p) q (does o) (within_puts _ _) rest);
      calls = subst (λ (i : ℕ). LineAt h (i + high q) (line.Does o)) one
          (the_line h (n + high p + high q) (line.Does o) (right h (n + high p) q (does o) kept rest));
      ends = omega (
        arith,
        one,
        high-both p (q ⊕ does o),
        high-both q (does o),
        high-puts (line.Does o),
      );
    }

module _ (g : Ground) (h : Site) (static : Static h) (ks : List Item) (m : source.Memory) (ls : List Level)
    (k : machine.Memory) (both : Common g h m (aligned k m)) (steady : IsSteady h.source m.world) where
  module _ (j : ℕ) (is : Items) (d : Doing g h j (yield_form is) ks m.place ls k.lists)
      (peace : Peace h.source h.program (perform j (yield_form is)) ks m) where
    abbrev conf : Config
    conf = Run (perform j (yield_form is)) ks m

    abbrev block_here : Option ObjId
    block_here = (activation_at m.world h.activation).block

    abbrev s : Spot
    s = past d.s (does (op.BlkPush d.r))

    abbrev each : Code
    each = λ t u i. pass_in_registers t u i is

    abbrev spread : Code
    spread = λ t u i. gather t u i is

    abbrev code_by : Passing → Piece
    code_by p = passed_by p each spread (within h d.loop) s d.r

    abbrev end : ℕ
    end = d.n + high (gen (within h d.loop) d.s d.r (yield_form is))

    abbrev CallStands : Passing → Type 0
    CallStands p = YieldParts h d.n d.r (count_operand p) (code_by p) end

    abbrev Asked : Passing → Type 0
    Asked p = Passed p (Room h (d.r + 1)) (CoversItems h d.loop (d.r + 1) s j is)
        (CoversElements h d.loop (d.r + 1) (past_new (d.r + 1) s) j is)

    parts : CallStands (passing is)
    parts = yield_parts h d.n d.r (count_operand (passing is)) s (code_by (passing is))
        (omega (arith, line-past d.s (does (op.BlkPush d.r)), d.here, high-puts (line.Does (op.BlkPush d.r))))
        (arguments_keep is (within h d.loop) s d.r) d.code

    goes_by : (o : Option ObjId) → block_here ≡ o → go h.source conf ≡ yields_in h.source j o is ks m
    unfolding do_form
    goes_by o e =
        ap (λ (p : Place). yields_in h.source j (activation_at m.world p.activation).block is ks m) d.there
        ∙ ap (λ (q : Option ObjId). yields_in h.source j q is ks m) e

    turns_by : (o : Option ObjId) → block_here ≡ o → turn h.program (state_at g h d.x d.n (aligned k m))
        ≡ block_of_home h.program o d.r (at_line h (d.n + 1)) (frame_at h d.x d.n) g.below (aligned k m)
    turns_by o e =
        turned h d.x d.n (op.BlkPush d.r) g.below (aligned k m) parts.block
        ∙ ap (λ (q : Option ObjId). block_of_home h.program q d.r (at_line h (d.n + 1)) (frame_at h d.x d.n) g.below
        (aligned k m)) e

    -- without a block both sides raise
    fails : block_here ≡ None → Step h conf (state_at g h d.x d.n (aligned k m))
    fails e =
        fails_here g h ks m k both conf d.x d.n d.r parts.block.guarded (record {
          alike = going (perform j (yield_form is)) ks m (frame (frame_at h d.x d.n) ∷ g.below) (aligned k m) refl;
          out = refl;
          quiet = peace.quiet;
        }) (omega arith) cause.NoBlockToYield (goes_by None e) (turns_by None e) end d.r d.loop d.next

    -- with one it is called
    module _ (p : ObjId) (given : block_here ≡ Some p) where
      abbrev k' : machine.Memory
      k' = written h (aligned k m) d.r (Obj p)

      both' : Common g h m k'
      both' = written_here g h m (aligned k m) both d.r (Obj p) d.covered.0.above

      called : HoldsCall h k'.lists false d.r (Obj p) []
      called =
          let c = same_here g h m (aligned k m) both in
          (slot_same k.lists h.list d.r (V (Obj p)) c.present (omega (arith, c.long, d.covered.0.within)), tt)

      here : s.line ≡ d.n + 1
      here = omega (arith, line-past d.s (does (op.BlkPush d.r)), high-puts (line.Does (op.BlkPush d.r)), d.here)

      next : InFrame g h k'.lists ks end d.r d.loop
      next =
          let c = same_here g h m (aligned k m) both in
          frame_kept g h k.lists k'.lists ks end d.r d.loop
          (keeps_above h k.lists d.r d.r (V (Obj p)) c.present (omega arith)) (put_only k.lists h.list d.r (Obj p))
          (omega (arith, both.free)) d.next

      from : From h conf (frame (frame_at h d.x (d.n + 1)) ∷ g.below) k' m
      from = record {
        alike = going (perform j (yield_form is)) ks m (frame (frame_at h d.x (d.n + 1)) ∷ g.below) k' refl;
        out = refl;
        quiet = peace.quiet;
      }

      goes : (t : Bool) → has_splats is ≡ t → go h.source conf
          ≡ (if t then gather_all h.source j (arguments_of to_proc (Obj p) absent) is ks m
          else next_item h.source j to_proc (Obj p) [] is absent ks m)
      goes t e =
          goes_by (Some p) given
          ∙ ap (λ (i : Bool). if i then gather_all h.source j (arguments_of to_proc (Obj p) absent) is ks m
          else next_item h.source j to_proc (Obj p) [] is absent ks m) e

      -- the items, one a register
      items_then : CoversItems h d.loop (d.r + 1) s j is
          → Stands h (d.n + 1) (pass_in_registers (within h d.loop) s (d.r + 1) is)
          → ItemsEnd h d.loop to_proc d.r (item_count is) false (past_items_code h d.loop (d.r + 1) s is) (past_items j is) absent
          (d.n + 1 + high (pass_in_registers (within h d.loop) s (d.r + 1) is)) end
          → Within 6 h.source h.program conf (state_at g h d.x (d.n + 1) k')
      items_then covered code ends =
          let sp = past_items_code h d.loop (d.r + 1) s is in
          let last = d.n + 1 + high (pass_in_registers (within h d.loop) s (d.r + 1) is) in
          items_on g h static ks m k' both' steady d.there conf d.x (d.n + 1) j to_proc (Obj p) [] is absent (record {
            low = d.r;
            own = false;
            loop = d.loop;
            s = s;
            here = here;
            r = d.r + 1;
            row = omega arith;
            room = d.covered.0;
            covered = covered;
            held = called;
            code = code;
            end = end;
            ends = sent_moved h d.loop to_proc d.r (item_count is) (0 + item_count is) false sp sp (past_items j is) absent last
                last end (omega arith) refl refl ends;
            next = next;
          }) from (goes false (no_splat h d.loop (d.r + 1) s j is covered)) (omega arith) peace.calls peace.block

      arguments_then : HowPassed is (passing is)
          → Within 6 h.source h.program conf (state_at g h d.x (d.n + 1) k')
      arguments_then (in_registers e unspread few) =
          let y = subst CallStands e parts in
          items_then (subst Asked e d.covered.1) y.items (by_yield refl refl refl few y.calls y.ends)
      arguments_then (in_array_of e unspread many) =
          let y = subst CallStands e parts in
          let asked = subst Asked e d.covered.1 in
          let q = pass_in_registers (within h d.loop) s (d.r + 1) is in
          let o = op.Array (d.r + 1) (item_count is) in
          let tall : d.n + 1 + high (q ⊕ does o) ≡ d.n + 1 + high q + 1 =
          omega (arith, high-both q (does o), high-puts (line.Does o)) in
          items_then asked.1 (left h (d.n + 1) q (does o) (within_puts _ _) y.items)
          (by_array a_block refl many asked.0
          (the_line h (d.n + 1 + high q) (line.Does o)
          (right_at h (d.n + 1) s q (does o) here (items_keep is (within h d.loop) s (d.r + 1)) y.items))
          (array_alone (op.Call d.r 255) refl (yields_array refl refl refl)
          (subst (λ (i : ℕ). LineAt h i (line.Does (op.Call d.r 255))) tall y.calls) (omega (arith, tall, y.ends))))
      arguments_then (gathered_all e spreads) =
          let y = subst CallStands e parts in
          let asked = subst Asked e d.covered.1 in
          let o = op.Array (d.r + 1) 0 in
          let q = gather (within h d.loop) (past_new (d.r + 1) s) (d.r + 1) is in
          let one : d.n + 1 + high (does o) ≡ d.n + 1 + 1 = omega (arith, high-puts (line.Does o)) in
          let tall : d.n + 1 + high (does o ⊕ q) ≡ d.n + 1 + 1 + high q = omega (arith, high-both (does o) q, one) in
          later h.source h.program conf (state_at g h d.x (d.n + 1) k')
          (spread_on g h ks m k' both' d.there conf d.x (d.n + 1) j from to_proc (Obj p) is absent a_block d.r false s end d.loop
          (record {
            spread = spreads;
            room_behind = asked.0;
            covered = asked.1;
            makes = the_line h (d.n + 1) (line.Does o)
                (left_at h (d.n + 1) s (does o) q here
                (elements_keep is (within h d.loop) (past_new (d.r + 1) s) (d.r + 1)) y.items);
            code = moved h (d.n + 1 + high (does o)) (d.n + 1 + 1) q one
                (right h (d.n + 1) (does o) q (within_puts _ _) y.items);
            ends = array_alone (op.Call d.r 255) refl (yields_array refl refl refl)
                (subst (λ (i : ℕ). LineAt h i (line.Does (op.Call d.r 255))) tall y.calls) (omega (arith, tall, y.ends));
          }) here d.covered.0 called refl next (goes true (same_splats is ∙ spreads)))

      calls : Step h conf (state_at g h d.x d.n (aligned k m))
      calls =
          (one_more 6 (omega arith) h.source h.program conf (state_at g h d.x d.n (aligned k m))
          (state_at g h d.x (d.n + 1) k')
          (going (perform j (yield_form is)) ks m (frame (frame_at h d.x d.n) ∷ g.below) (aligned k m) refl)
          (turns_by (Some p) given) (arguments_then (how_passed is))).advances

  pub do_yield : (j : ℕ) (is : Items) (d : Doing g h j (yield_form is) ks m.place ls k.lists)
      → Peace h.source h.program (perform j (yield_form is)) ks m
      → Step h (Run (perform j (yield_form is)) ks m) (state_at g h d.x d.n (aligned k m))
  do_yield j is d peace = by (block_here j is d peace) refl
    where
      by : (o : Option ObjId) → block_here j is d peace ≡ o
          → Step h (Run (perform j (yield_form is)) ks m) (state_at g h d.x d.n (aligned k m))
      by None e = fails j is d peace e
      by (Some p) e = calls j is d peace p e
