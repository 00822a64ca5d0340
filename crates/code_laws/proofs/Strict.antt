-- Forms whose parts are all done: what comes behind them.
use Rattle.std.proofs.Common.{◌≡◌, ◌<◌, ◌≤◌, ℕ, ◌+◌, [], ◌∷◌, length, arith, refl, Bool, true, false, nat_le, ◌&&◌}
use Rattle.std.specs.Prelude.{Option, Some, None}
use Rattle.rite_code.specs.declared.operation.Operation.{Operation}
use Rattle.rite_code.specs.declared.operation.Operation.TheVariants as op
use Rattle.rite_code.specs.Shape.{fits_as, is_two_bytes}
use Rattle.ir_core.specs.CoreForm.{Items}
use Rattle.ir_walk.specs.Width.{has_splat}
use Rattle.scope_resolver.specs.declared.body_kind.BodyKind.TheVariants as kind
use Rattle.code_outline.specs.Makers.{use_in}
use Rattle.code_verifier.specs.Needs.{registers_of, symbols_of, count_of}
use Rattle.code_verifier.specs.Plain.{is_plain}
use Rattle.gen_parts.specs.declared.line.Line.TheVariants as line
use Rattle.gen_parts.specs.declared.emitter.Spot.{Spot}
use Rattle.gen_parts.specs.Pieces.{Piece, past, nothing, both, does, leave}
use Rattle.gen_forms.specs.declared.context.Loop.{Loop}
use Rattle.gen_forms.specs.Gen.{Context, Code, called_by, break_by, next_by, in_clause, body_then, rescued_by, ensured_by}
use Rattle.code_laws.proofs.Wells.{weight_of}
use Rattle.code_laws.proofs.Lines.{Own, tall, lower, chain, nothing_well, puts_well, line-past}
use Rattle.code_laws.proofs.Parts.{then_does, does_then, then_well, rescued_well, ensured_well, clauses_spot}
use Rattle.code_laws.proofs.Operating.{Site, Ready, own, single, named, moved}
use Rattle.code_laws.proofs.Sending.{Operated, return_ready, break_ready}
use Rattle.code_laws.proofs.Scenes.{LoopLies, ready_well}

module _ (w : Site) where
  pub alone_ready : (o : Operation) (r : ℕ) → is_plain o ≡ true → nat_le (count_of o) 255 ≡ true → symbols_of o ≡ []
      → fits_as true o ≡ is_two_bytes r → registers_of o ≡ r + 1 → use_in o ≡ None → weight_of (line.Does o) ≤ 4
      → r < w.registers → Ready (own w) o 4
  alone_ready o r p c s f e u l h = record {
    serve = single w o r p c s f (omega (arith, e, h)) h;
    unused = u;
    light = l;
  }

  pub symbol_ready : (o : Operation) (r i : ℕ) → is_plain o ≡ true → nat_le (count_of o) 255 ≡ true
      → symbols_of o ≡ i ∷ [] → fits_as true o ≡ (is_two_bytes r && is_two_bytes i) → registers_of o ≤ w.registers
      → use_in o ≡ None → weight_of (line.Does o) ≤ 6 → r < w.registers → i < length w.tally.symbols
      → Ready (own w) o 6
  symbol_ready o r i p c s f e u l h b = record {
    serve = named w o r i p c s f e h b;
    unused = u;
    light = l;
  }

  -- one part, and two, and the instruction behind them
  pub after : (s : Spot) (p : Piece) (o : Operation) (a x n : ℕ) → n ≤ 16 → Own (own w) s p a x → Ready (own w) o n
      → Own (own w) s (both p (does o)) (16 + a) x
  after s p o a x n h v q =
      lower (own w) (s.line + tall (both p (does o))) s (both p (does o)) (a + n) (16 + a) x x (omega (arith, h)) refl
      (then_does (own w) s p o a n x v q.serve q.unused q.light)

  pub after_two : (s : Spot) (p q : Piece) (o : Operation) (a b x y n : ℕ) → n ≤ 16 → Own (own w) s p a x
      → Own (own w) (past s p) q b y → Ready (own w) o n
      → Own (own w) s (both (both p q) (does o)) (16 + a + b) (x + y)
  after_two s p q o a b x y n h v u k =
      lower (own w) (s.line + tall (both (both p q) (does o))) s (both (both p q) (does o)) (16 + (a + b)) (16 + a + b)
      (x + y) (x + y) (omega arith) refl
      (after s (both p q) o (a + b) (x + y) n h (chain (own w) s p q a b x y v u) k)

  -- two parts
  pub both_well : (s : Spot) (p q : Piece) (a b c x y z : ℕ) → Own (own w) s p a x → Own (own w) (past s p) q b y
      → a + b ≤ c → x + y ≡ z → Own (own w) s (both p q) c z
  both_well s p q a b c x y z v u h k =
      lower (own w) (s.line + tall (both p q)) s (both p q) (a + b) c (x + y) z h k
      (chain (own w) s p q a b x y v u)

  pub less : (s : Spot) (p : Piece) (a b x y : ℕ) → a ≤ b → x ≡ y → Own (own w) s p a x → Own (own w) s p b y
  less s p a b x y h k v = lower (own w) (s.line + tall p) s p a b x y h k v

  -- ## Exits

  pub leave_well : (s : Spot) (to : ℕ) → to ≤ s.line → Own (own w) s (leave to) 6 0
  leave_well s to h = puts_well (own w) (s.line + tall (leave to)) s (line.Leave to) 6 (omega (arith, h)) refl
      (omega arith)

  pub break_well : (l : Option Loop) (s : Spot) (r : ℕ) → LoopLies w.registers s.line l
      → (l ≡ None → w.kind ≡ kind.Block) → r < w.registers → Own (own w) s (break_by l r) 16 0
  break_well None s r h k few =
      less s (does (op.Break r)) 4 16 0 0 (omega arith) refl
      (ready_well w s (op.Break r) 4 (break_ready w r few (k refl)))
  break_well (Some l) s r h k few =
      let move = moved w l.value r h.0 few in
      less s (both (does (op.Move l.value r)) (leave l.out)) (8 + 6) 16 0 0 (omega arith) refl
      (does_then (own w) s (op.Move l.value r) (leave l.out) 8 6 0 move.serve move.unused move.light
      (leave_well (past s (does (op.Move l.value r))) l.out (simp line-past (omega (arith, h.1)))))

  pub next_well : (l : Option Loop) (s : Spot) (r : ℕ) → LoopLies w.registers s.line l → r < w.registers
      → Own (own w) s (next_by l r) 16 0
  next_well None s r h few =
      less s (does (op.Return r)) 4 16 0 0 (omega arith) refl (ready_well w s (op.Return r) 4 (return_ready w r few))
  next_well (Some l) s r h few =
      less s (leave l.round) 6 16 0 0 (omega arith) refl (leave_well s l.round h.2)

  -- ## Calls

  pub called_op : (o : Option Operation) (is : Items) (receiver each arguments : Code) (n : ℕ) (send : Operation)
      (c : Context) (s : Spot) (r a b d x y : ℕ) → Operated w is o → Own (own w) s (receiver c s r) a x
      → (has_splat is ≡ false
      → Own (own w) (past s (receiver c s r)) (each c (past s (receiver c s r)) (r + 1)) b y)
      → Own (own w) (past s (receiver c s r)) (arguments c (past s (receiver c s r)) r) d y → b ≤ d
      → Ready (own w) send 8
      → Own (own w) s (called_by o receiver each arguments (λ d t n. nothing) n send c s r) (a + d + 8) (x + y)
  called_op (Some o) is receiver each arguments n send c s r a b d x y k v u t l q =
      let p = receiver c s r in
      let e = each c (past s p) (r + 1) in
      both_well s p (both e (does o)) a (b + 4) (a + d + 8) x y (x + y) v
      (then_does (own w) (past s p) e o b 4 y (u k.1) k.0.serve k.0.unused k.0.light) (omega (arith, l)) refl
  called_op None is receiver each arguments n send c s r a b d x y k v u t l q =
      let p = receiver c s r in
      let e = arguments c (past s p) r in
      let last = both_well (past s (both p e)) nothing (does send) 0 8 8 0 0 0
      (nothing_well (own w) (past s (both p e)))
      (ready_well w (past (past s (both p e)) nothing) send 8 q) (omega arith) refl in
      both_well s (both p e) (both nothing (does send)) (a + d) 8 (a + d + 8) (x + y) 0 (x + y)
      (chain (own w) s p e a d x y v t) last (omega arith) (omega arith)

  pub called_block : (receiver each arguments block : Code) (n : ℕ) (send : Operation)
      (c : Context) (s : Spot) (r a d e x y z : ℕ) → Own (own w) s (receiver c s r) a x
      → Own (own w) (past s (receiver c s r)) (arguments c (past s (receiver c s r)) r) d y
      → Own (own w) (past s (both (receiver c s r) (arguments c (past s (receiver c s r)) r)))
      (block c (past s (both (receiver c s r) (arguments c (past s (receiver c s r)) r))) (r + 1 + n)) e z
      → Ready (own w) send 8
      → Own (own w) s (called_by None receiver each arguments block n send c s r) (a + d + e + 8) (x + y + z)
  called_block receiver each arguments block n send c s r a d e x y z v t u q =
      let p = receiver c s r in
      let g = arguments c (past s p) r in
      let m = block c (past s (both p g)) (r + 1 + n) in
      both_well s (both p g) (both m (does send)) (a + d) (e + 8) (a + d + e + 8) (x + y) z (x + y + z)
      (chain (own w) s p g a d x y v t)
      (then_does (own w) (past s (both p g)) m send e 8 z u q.serve q.unused q.light) (omega arith) refl

  -- ## Guards

  pub rescued_if : (has : Bool) (b o handlers : Code) (c : Context) (s : Spot) (r a d k x y z : ℕ)
      → 0 < tall (b c s r) → Own (own w) s (b c s r) a x
      → Own (own w) (past s (b c s r)) (o c (past s (b c s r)) r) d y → Ready (own w) (op.Except (r + 1)) 4
      → Own (own w) (clauses_spot (own w) b o c s r)
      (handlers (in_clause c (r + 1) s.line) (clauses_spot (own w) b o c s r) r) k z → (has ≡ false → z ≡ 0)
      → Own (own w) s (rescued_by has b o handlers c s r) ((a + d) + (12 + k)) ((x + y) + z)
  rescued_if true b o handlers c s r a d k x y z some v u e t nothing_there =
      less s (rescued_by true b o handlers c s r) ((a + d) + (8 + (4 + k))) ((a + d) + (12 + k)) ((x + y) + z)
      ((x + y) + z) (omega arith) refl
      (rescued_well (own w) c b o handlers s r a d k x y z some v u e.serve t)
  rescued_if false b o handlers c s r a d k x y z some v u e t nothing_there =
      less s (body_then b o c s r) (a + d) ((a + d) + (12 + k)) (x + y) ((x + y) + z) (omega arith)
      (omega (arith, nothing_there refl)) (then_well (own w) c b o s r a d x y v u)

  pub ensured_if : (has : Bool) (p e : Code) (c : Context) (s : Spot) (r a d x y : ℕ) → 0 < tall (p c s r)
      → Own (own w) s (p c s r) a x → Ready (own w) (op.Except (r + 1)) 4 → Ready (own w) (op.RaiseIf (r + 1)) 4
      → Own (own w) (past s (both (p c s r) (does (op.Except (r + 1)))))
      (e c (past s (both (p c s r) (does (op.Except (r + 1))))) (r + 2)) d y → (has ≡ false → y ≡ 0)
      → Own (own w) s (ensured_by has p e c s r) ((a + 4) + (d + 4)) (x + y)
  ensured_if true p e c s r a d x y some v k l u nothing_there =
      ensured_well (own w) c p e s r a d x y some v k.serve l.serve u
  ensured_if false p e c s r a d x y some v k l u nothing_there =
      less s (p c s r) a ((a + 4) + (d + 4)) x (x + y) (omega arith) (omega (arith, nothing_there refl)) v
