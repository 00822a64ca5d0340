-- What stands around a form leads back, and has a register.
use Rattle.std.proofs.Common.{◌≡◌, ◌<◌, ◌≤◌, ℕ, ◌+◌, [], ◌∷◌, arith, refl, Bool, true}
use Rattle.std.specs.Prelude.{Option, Some, None}
use Rattle.ir_core.specs.CoreForm as form
use Rattle.ir_core.specs.CoreForm.{Local}
use Rattle.ir_counts.specs.Tables.{hidden_by}
use Rattle.ir_walk.specs.Width.{in_order}
use Rattle.scope_resolver.specs.declared.body_kind.BodyKind.TheVariants as kind
use Rattle.scope_resolver.specs.Layout.{place_of, innermost_count}
use Rattle.gen_parts.specs.declared.emitter.Spot.{Spot}
use Rattle.gen_parts.specs.Pieces.{Piece, past, behind, does}
use Rattle.rite_code.specs.declared.operation.Operation.{Operation}
use Rattle.gen_forms.specs.declared.context.Loop.{Loop}
use Rattle.gen_forms.specs.Gen.{read, write}
use Rattle.code_laws.proofs.Serves.{Inside}
use Rattle.code_laws.proofs.Lines.{Own, tall, lower, does_well, line-past, line-behind}
use Rattle.code_laws.proofs.Widths.{order_within, order_room}
use Rattle.code_laws.proofs.Reaching.{place_reached}
use Rattle.code_laws.proofs.Operating.{Site, Ready, own, moved, reads, writes}

abbrev pub LoopLies : ℕ → ℕ → Option Loop → Type 0
LoopLies registers line None = Unit
LoopLies registers line (Some l) = (l.value < registers) × (l.out ≤ line) × (l.round ≤ line)

loop_later : (registers n m : ℕ) (l : Option Loop) → n ≤ m → LoopLies registers n l → LoopLies registers m l
loop_later registers n m None h k = tt
loop_later registers n m (Some l) h k = (k.0, omega (arith, h, k.1), omega (arith, h, k.2))

-- the lines that are known lie before, and a break without a loop stands in a block
pub record Scene (w : Site) (loops : Bool) (i : Inside) (line : ℕ) : Type 0 where
  pub loop : LoopLies w.registers line i.loop
  pub caught : i.caught < w.registers
  pub start : i.body_start ≤ line
  pub breaks : loops ≡ true → i.loop ≡ None → w.kind ≡ kind.Block

module _ (w : Site) (b : Bool) (i : Inside) where
  pub scene_later : (n m : ℕ) → n ≤ m → Scene w b i n → Scene w b i m
  scene_later n m h s = record {
    loop = loop_later w.registers n m i.loop h s.loop;
    caught = s.caught;
    start = omega (arith, h, s.start);
    breaks = s.breaks;
  }

  pub scene_past : (s : Spot) (p : Piece) → Scene w b i s.line → Scene w b i (past s p).line
  scene_past s p h = scene_later s.line (past s p).line (simp line-past (omega arith)) h

  pub scene_behind : (s : Spot) → Scene w b i s.line → Scene w b i (behind s).line
  scene_behind s h = scene_later s.line (behind s).line (simp line-behind (omega arith)) h

  pub in_a_loop : (s : Spot) (r out round line : ℕ) → r < w.registers → out ≤ line → round ≤ line → s.line ≤ line
      → Scene w b i s.line
      → Scene w true (record i { loop = Some (record { value = r; out = out; round = round }) }) line
  in_a_loop s r out round line h k l o scene = record {
    loop = (h, k, l);
    caught = scene.caught;
    start = omega (arith, o, scene.start);
    breaks = λ e none. absurd (cc);
  }

  pub in_a_clause : (caught start line : ℕ) → caught < w.registers → start ≤ line → Scene w b i line
      → Scene w b (record i { caught = caught; body_start = start }) line
  in_a_clause caught start line h k scene = record {
    loop = scene.loop;
    caught = h;
    start = k;
    breaks = scene.breaks;
  }

-- ## Widths

pub one_part : (R r v : ℕ) → r + in_order (v ∷ []) ≤ R → (r + v ≤ R) × (r + 4 ≤ R)
one_part R r v h =
    let o = order_within R r (v ∷ []) h in
    let q = order_room R r (v ∷ []) h in
    (o.0, omega (arith, q))

pub two_parts : (R r v u : ℕ) → r + in_order (v ∷ u ∷ []) ≤ R → (r + v ≤ R) × (r + 1 + u ≤ R) × (r + 5 ≤ R)
two_parts R r v u h =
    let o = order_within R r (v ∷ u ∷ []) h in
    let q = order_room R r (v ∷ u ∷ []) h in
    (o.0, o.1.0, omega (arith, q))

-- ## Instructions

module _ (w : Site) where
  pub ready_well : (s : Spot) (o : Operation) (n : ℕ) → Ready (own w) o n → Own (own w) s (does o) n 0
  ready_well s o n q = does_well (own w) s o n q.serve q.unused q.light

  pub leaf : (s : Spot) (o : Operation) (n : ℕ) → n ≤ 16 → Ready (own w) o n → Own (own w) s (does o) 16 0
  leaf s o n h q =
      lower (own w) (s.line + tall (does o)) s (does o) n 16 0 0 h refl (ready_well s o n q)

  hidden_moves : (r d : ℕ) → r < w.registers → d + 1 ≤ w.tally.hidden
      → 1 + innermost_count w.scopes + d < w.registers
  hidden_moves r d h k = omega (arith, k, w.able.hidden)

  pub local_read : (r : ℕ) (x : Local) → r < w.registers → hidden_by x ≤ w.tally.hidden
      → Ready (own w) (read r (place_of w.scopes x)) 8
  local_read r (form.named x) h k = reads w r _ h (place_reached w.scopes (form.named x) tt)
  local_read r (form.hidden d) h k = moved w r (1 + innermost_count w.scopes + d) h (hidden_moves r d h k)
  local_read r (form.pattern n) h k = reads w r _ h (place_reached w.scopes (form.pattern n) tt)
  local_read r form.rest h k = reads w r _ h (place_reached w.scopes form.rest tt)

  pub local_write : (r : ℕ) (x : Local) → r < w.registers → hidden_by x ≤ w.tally.hidden
      → Ready (own w) (write r (place_of w.scopes x)) 8
  local_write r (form.named x) h k = writes w r _ h (place_reached w.scopes (form.named x) tt)
  local_write r (form.hidden d) h k = moved w (1 + innermost_count w.scopes + d) r (hidden_moves r d h k) h
  local_write r (form.pattern n) h k = writes w r _ h (place_reached w.scopes (form.pattern n) tt)
  local_write r form.rest h k = writes w r _ h (place_reached w.scopes form.rest tt)
