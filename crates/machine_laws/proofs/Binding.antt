-- ENTER binds arguments to registers, and goes on behind the jumps of the optional parameters that are given.
use Rattle.std.proofs.Common.{◌≡◌, ℕ, zero, suc, ◌+◌, ◌<◌, ◌≤◌, List, [], ◌∷◌, ◌++◌, length, take, drop, Bool, true, false, sym, ap, ◌∙◌, subst, arith, inl, inr}
use Rattle.std.specs.Prelude.{Option, Some, None, slice_get, nat_eq, nat_le, not, ◌&&◌, if◌then◌else◌}
use Rattle.std.proofs.lemmas.Bool.{and_parts, or_cases, eqb-true, leb-true}
use Rattle.std.proofs.lemmas.List.{length-drop}
use Rattle.rb_value.specs.declared.value.Value.{Value}
use Rattle.rb_value.specs.declared.value.ObjId.{ObjId}
use Rattle.rb_value.specs.declared.method.Shape.{Shape}
use Rattle.def_core.specs.declared.bound.BindKind.{BindKind}
use Rattle.def_core.specs.declared.bound.Bound.{Bound}
use Rattle.def_core.specs.declared.bound.Bound.TheVariants.{Values, Wrong}
use Rattle.def_core.specs.declared.cause.Cause.TheVariants as cause
use Rattle.def_core.specs.Store.{Store}
use Rattle.def_core.specs.Bind.{bind, bind_fitting, fits, arguments, least, most}
use Rattle.def_core.specs.Sound.{census, Proc, Is, IsValue, OptionIs, AllAre}
use Rattle.def_core.proofs.Good.{is_good}
use Rattle.rite_code.specs.declared.operation.Parameters.{Parameters}
use Rattle.rite_code.specs.Code.{Program, IsWhole}
use Rattle.code_outline.specs.Layout.{Standing, layout}
use Rattle.code_outline.specs.Makers.{maker_of}
use Rattle.code_outline.proofs.Rows.{row-layout, row-next}
use Rattle.code_verifier.specs.Checks.{takes_arguments, enter_holds, parameters_hold, parameter_count, jumps_follow, are_jumps}
use Rattle.code_verifier.specs.Verified.{IsVerified}
use Rattle.code_instructions.proofs.Places.{first_index, read_at}
use Rattle.code_instructions.proofs.Tests.{there}
use Rattle.def_calls.specs.World.{with_store, fail}
use Rattle.def_machine.specs.State.{Frame, Level, frame, Memory, body_at, with_world, write}
use Rattle.def_machine.specs.Turn.{fetch, shape_of, write_row, block_value, place_after, skip, without_arguments, enter_bound, enter_by}
use Rattle.def_machine.specs.Fits.{IsStart, RunsWell, Fits}
use Rattle.world_laws.specs.Outcomes.{BoundIs}
use Rattle.world_laws.proofs.Answers.{fails_with}
use Rattle.world_laws.proofs.Binding.{bind_is}
use Rattle.machine_laws.proofs.Answering.{jumps, afters, in_world}
use Rattle.machine_laws.proofs.Codes.{standing_at, starts_at}
use Rattle.machine_laws.proofs.Frames.{frame_reshaped}
use Rattle.machine_laws.proofs.Lists.{all_append}
use Rattle.machine_laws.proofs.Receiving.{written}
use Rattle.machine_laws.proofs.Worlds.{bodies, fine_world}

-- No more optional parameters are given than there are.

abbrev FillsAtMost : ℕ → Bound → Type 0
FillsAtMost n (Values vs k) = k ≤ n
FillsAtMost n (Wrong given) = Unit {0}

fitting_fills : (st : Store) (s : Shape) (args : List Value) (rest : Bool)
    → FillsAtMost s.optional (bind_fitting st s args rest).bound
fitting_fills st s args true = omega arith
fitting_fills st s args false = omega arith

fills : (st : Store) (s : Shape) (args : List Value) (kind : BindKind)
    → FillsAtMost s.optional (bind st s args kind).bound
unfolding bind
fills st s args kind =
    let given = arguments st.objects s kind args in
    elim (fits s (length given)) as (λ b. FillsAtMost s.optional
    (if b then bind_fitting st s given s.rest else record { bound = Wrong (length given); store = st }).bound) [
      | true ↦ fitting_fills st s given s.rest
      | false ↦ tt
    ]

-- Instructions that are passed over stand one after the other.

module _ (p : Program) (f : Frame) where
  abbrev code : List ℕ
  code = (body_at p f.body).code

  abbrev row : List Standing
  row = layout p.version (body_at p f.body).code

  next_at : (i : ℕ) (s t : Standing) → slice_get row i ≡ Some s → slice_get row (suc i) ≡ Some t
      → place_after (fetch p f.body s.at) s.at ≡ t.at
  unfolding fetch
  next_at i s t e next =
      ap (λ o. place_after o s.at) (read_at p.version code i s e)
      ∙ sym (row-next (length code) 0 i row s t (row-layout p.version code) e next)

  skipped : (n i : ℕ) (s : Standing) → slice_get row i ≡ Some s → i + n < length row
      → IsStart p f.body (skip p f n s.at)
  skipped zero i s e lt = starts_at p.version code i s e
  skipped (suc n) i s e lt =
      let next = there row (suc i) (omega (arith, lt)) in
      subst (λ (at : ℕ). IsStart p f.body (skip p f n at)) (sym (next_at i s next.0 e next.1))
      (skipped n (suc i) next.0 next.1 (omega (arith, lt)))

  -- as many jumps follow as optional parameters may be given
  enough : (n : ℕ) → jumps_follow n (drop 1 row) ≡ true → 0 < n → n + 1 < length row
  enough n h some = elim (or_cases (nat_eq n 0)
      (nat_le (n + 1) (length (drop 1 row)) && are_jumps (take (n + 1) (drop 1 row))) h) [
        | inl e ↦ absurd (omega (arith, eqb-true n 0 e, some))
        | inr e ↦
            let le = leb-true (n + 1) (length (drop 1 row))
            (and_parts (nat_le (n + 1) (length (drop 1 row))) (are_jumps (take (n + 1) (drop 1 row))) e).0 in
            omega (arith, le, length-drop 1 row)
      ]

  -- behind ENTER, which stands first
  pub skips : (q : Parameters) (n next : ℕ)
      → enter_holds (takes_arguments (maker_of p f.body)) f.place (body_at p f.body) (drop 1 row) (Some q) ≡ true
      → IsStart p f.body f.place → IsStart p f.body next → place_after (fetch p f.body f.place) f.place ≡ next
      → n ≤ q.optional → IsStart p f.body (skip p f n next)
  skips q zero next h here start after le = start
  skips q (suc n) next h here start after le =
      let takes = takes_arguments (maker_of p f.body) in
      let others = drop 1 row in
      let parts = and_parts (takes && nat_eq f.place 0) (parameters_hold (body_at p f.body) others q) h in
      let first = eqb-true f.place 0 (and_parts takes (nat_eq f.place 0) parts.0).1 in
      let follow = (and_parts (nat_le (parameter_count q + 2) (body_at p f.body).locals && not q.spare)
      (jumps_follow q.optional others) parts.1).1 in
      let long = enough q.optional follow (omega (arith, le)) in
      let found = standing_at p.version code f.place here in
      let zeroth : found.0 ≡ 0 = first_index p.version code found.0 found.1 found.2 (found.3 ∙ first) in
      let second = there row (suc found.0) (omega (arith, long, zeroth)) in
      let same : next ≡ second.0.at =
      sym after ∙ ap (λ (at : ℕ). place_after (fetch p f.body at) at) (sym found.3)
      ∙ next_at found.0 found.1 second.0 found.2 second.1 in
      subst (λ (at : ℕ). IsStart p f.body (skip p f (suc n) at)) (sym same)
      (skipped (suc n) (suc found.0) second.0 second.1 (omega (arith, long, zeroth, le)))

-- Registers get values one after the other.

rows_written : (p : Program) (f : Frame) (ls : List Level) (a : ℕ) (vs : List Value) (m : Memory)
    → RunsWell p (frame f ∷ ls) m → AllAre (IsValue (census m.world.store)) vs
    → RunsWell p (frame f ∷ ls) (write_row m f a vs)
rows_written p f ls a [] m h all = h
rows_written p f ls a (v ∷ vs) m h all =
    rows_written p f ls (a + 1) vs (write m f a v) (written p (frame f) ls m f a v h all.0) all.1

-- The frame runs as well once its arguments are gone.
unbound : (p : Program) (f : Frame) (ls : List Level) (m : Memory) → RunsWell p (frame f ∷ ls) m
    → RunsWell p (frame (without_arguments f) ∷ ls) m
unbound p f ls m h = record {
  memory = h.memory;
  levels = (
    frame_reshaped p f f.place f.after f.waits f.pending [] ls m h.levels.0 h.levels.0.place h.levels.0.pending tt,
    h.levels.1,
  );
  apart = record { once = h.apart.once };
}

block_is : (st : Store) (b : Option ObjId) → OptionIs (Is (census st) Proc) b → IsValue (census st) (block_value b)
block_is st None h = tt
block_is st (Some q) h = (is_good st Proc q h).there

module _ (p : Program) (whole : IsWhole p) (verified : IsVerified p) (f : Frame)
    (ls : List Level) (next : ℕ) (start : IsStart p f.body next) (q : Parameters)
    (passes : (n : ℕ) → n ≤ q.optional → IsStart p f.body (skip p f n next)) where
  bound_by : (x : Bound) (m : Memory) → RunsWell p (frame f ∷ ls) m → BoundIs (census m.world.store) x
      → FillsAtMost q.optional x → Fits p (enter_bound p q x next f ls m)
  bound_by (Values vs n) m h all le =
      let row = vs ++ block_value f.block ∷ [] in
      let is = all_append (IsValue (census m.world.store)) vs (block_value f.block ∷ []) all
      (block_is m.world.store f.block h.levels.0.block, tt) in
      jumps p whole verified (skip p f n next) (without_arguments f) ls (write_row m f 1 row)
      (unbound p f ls (write_row m f 1 row) (rows_written p f ls 1 row m h is)) (passes n le)
  bound_by (Wrong n) m h all le =
      let c = cause.WrongCount n (least (shape_of q)) (if q.rest then None else Some (most (shape_of q))) in
      afters p whole verified (fail m.world c) 0 next f ls m h start
      (fails_with (bodies p m.lists) m.world (fine_world p m.lists m.world h.memory.world) c tt)

  pub enters_body : (m : Memory) → RunsWell p (frame f ∷ ls) m
      → Fits p (enter_by p q (bind m.world.store (shape_of q) f.arguments f.binds) next f ls m)
  enters_body m h =
      let x = bind m.world.store (shape_of q) f.arguments f.binds in
      let is = bind_is (bodies p m.lists) m.world (fine_world p m.lists m.world h.memory.world)
      (shape_of q) f.arguments f.binds h.levels.0.arguments in
      let u = with_store m.world x.store in
      bound_by x.bound (with_world m u) (in_world p whole verified u (frame f) ls m h is.keeps) is.bound
      (fills m.world.store (shape_of q) f.arguments f.binds)
