-- Jumps over what comes behind them, turns, loops and guards, in which nothing is wrong.
use Rattle.std.proofs.Common.{◌≡◌, ◌<◌, ◌≤◌, ℕ, ◌+◌, arith, refl, sym, subst, true, false}
use Rattle.std.specs.Prelude.{None}
use Rattle.rite_code.specs.declared.operation.Operation.{Operation}
use Rattle.rite_code.specs.declared.operation.Operation.TheVariants as op
use Rattle.code_outline.specs.Makers.{use_in}
use Rattle.gen_parts.specs.declared.line.Line.{Line}
use Rattle.gen_parts.specs.declared.line.Line.TheVariants as line
use Rattle.gen_parts.specs.declared.emitter.Spot.{Spot}
use Rattle.gen_parts.specs.declared.emitter.Held.{Held}
use Rattle.gen_parts.specs.declared.emitter.Held.TheVariants as held
use Rattle.gen_parts.specs.Emission.{line_by}
use Rattle.gen_parts.specs.Pieces.{Piece, past, behind, both, ◌⊕◌, puts, does, jump, jump_if, jump_not}
use Rattle.gen_parts.proofs.Laws.{past-puts}
use Rattle.gen_forms.specs.Gen.{Context, Code, in_loop, in_clause, over, loop_test_first, loop_body_first, body_then, rescued_by, ensured_by}
use Rattle.code_laws.proofs.Serves.{Room, Serves}
use Rattle.code_laws.proofs.Wells.{FineLine, weight_of, use_of, Well}
use Rattle.code_laws.proofs.Lines.{tall, heights, line-past, Own, lower, joined, chain, puts_well, does_well, back_well, guard_well}

module _ (m : Room) where
  -- a line, and the code that comes behind it
  pub led_well : (s : Spot) (l : Line) (p : Piece) (a b x : ℕ) → FineLine m ((behind s).line + tall p) l
      → use_of l ≡ None → weight_of l ≤ a → Own m (behind s) p b x → Own m s (both (puts l) p) (a + b) x
  led_well s l p a b x f u h w =
      let end : (behind s).line + tall p ≡ s.line + tall (both (puts l) p) = simp heights (omega arith) in
      let far = subst (λ (e : ℕ). FineLine m e l) end f in
      let e = s.line + tall (both (puts l) p) in
      lower m e s (both (puts l) p) (a + b) (a + b) (0 + x) x (omega arith) (omega arith)
      (joined m e s (puts l) p a b 0 x (puts_well m e s l a far u h)
      (subst (λ (k : Spot). Well m e k p b x) (sym (past-puts s l))
      (subst (λ (d : ℕ). Well m d (behind s) p b x) end w)))

  -- code, and an instruction behind it
  pub then_does : (s : Spot) (p : Piece) (o : Operation) (a b x : ℕ) → Own m s p a x → Serves m o → use_in o ≡ None
      → weight_of (line.Does o) ≤ b → Own m s (both p (does o)) (a + b) x
  then_does s p o a b x w f u h =
      lower m (s.line + tall (both p (does o))) s (both p (does o)) (a + b) (a + b) (x + 0) x (omega arith)
      (omega arith)
      (chain m s p (does o) a b x 0 w (does_well m (past s p) o b f u h))

  -- an instruction, and code behind it
  pub does_then : (s : Spot) (o : Operation) (p : Piece) (a b x : ℕ) → Serves m o → use_in o ≡ None
      → weight_of (line.Does o) ≤ a → Own m (past s (does o)) p b x → Own m s (both (does o) p) (a + b) x
  does_then s o p a b x f u h w =
      lower m (s.line + tall (both (does o) p)) s (both (does o) p) (a + b) (a + b) (0 + x) x (omega arith)
      (omega arith)
      (chain m s (does o) p a b 0 x (does_well m s o a f u h) w)

  abbrev pub FineHeld : Held → Type 0
  FineHeld held.Jump = Unit
  FineHeld (held.JumpIf r) = r < m.registers
  FineHeld (held.JumpNot r) = r < m.registers

  held_fine : (h : Held) (e to : ℕ) → FineHeld h → to ≤ e → FineLine m e (line_by h to)
  held_fine held.Jump e to f l = l
  held_fine (held.JumpIf r) e to f l = (f, l)
  held_fine (held.JumpNot r) e to f l = (f, l)

  held_uses : (h : Held) (to : ℕ) → use_of (line_by h to) ≡ None
  held_uses held.Jump to = refl
  held_uses (held.JumpIf r) to = refl
  held_uses (held.JumpNot r) to = refl

  held_light : (h : Held) (to : ℕ) → weight_of (line_by h to) ≤ 8
  held_light held.Jump to = omega arith
  held_light (held.JumpIf r) to = omega arith
  held_light (held.JumpNot r) to = omega arith

  pub over_well : (h : Held) (s : Spot) (next : Spot → Piece) (a x : ℕ) → FineHeld h
      → Own m (behind s) (next (behind s)) a x → Own m s (over h s next) (8 + a) x
  over_well h s next a x f w =
      let p = next (behind s) in
      let to = (past (behind s) p).line in
      led_well s (line_by h to) p 8 a x
      (held_fine h ((behind s).line + tall p) to f (simp line-past (omega arith))) (held_uses h to) (held_light h to) w

  -- where a turn of tests and bodies does its body, and where the next one begins
  abbrev pub turn_body : Spot → Piece → Spot
  turn_body s p = behind (past s p)

  abbrev pub turn_next : Spot → Piece → Piece → Spot
  turn_next s p q = behind (past (turn_body s p) q)

  pub turn_well : (s : Spot) (p q others : Piece) (r a b d x y z : ℕ) → r < m.registers → Own m s p a x
      → Own m (turn_body s p) q b y → Own m (turn_next s p q) others d z
      → Own m s (p ⊕ jump_not r (turn_next s p q).line ⊕ q ⊕ jump (past (turn_next s p q) others).line ⊕ others)
      (a + (8 + (b + (6 + d)))) (x + (y + z))
  turn_well s p q others r a b d x y z few w v u =
      let body = turn_body s p in
      let next = turn_next s p q in
      let out = (past next others).line in
      let last : Own m (past body q) (both (jump out) others) (6 + d) z =
      led_well (past body q) (line.Jump out) others 6 d z (simp line-past (omega arith)) refl (omega arith) u in
      let mid : Own m body (both q (both (jump out) others)) (b + (6 + d)) (y + z) =
      chain m body q (both (jump out) others) b (6 + d) y z v last in
      let far : next.line ≤ body.line + tall (both q (both (jump out) others)) = simp heights (omega arith) in
      chain m s p (both (jump_not r next.line) (both q (both (jump out) others))) a (8 + (b + (6 + d))) x (y + z) w
      (led_well (past s p) (line.JumpNot r next.line) (both q (both (jump out) others)) 8 (b + (6 + d)) (y + z)
      (few, far) refl (omega arith) mid)

  -- Loops, by the code of the test and of the body.

  abbrev pub tests_inside : Context → Spot → ℕ → Context
  tests_inside c s r = in_loop c (record { value = r; out = (behind s).line; round = (behind (behind s)).line })

  pub test_first_well : (c : Context) (t b : Code) (s : Spot) (r a d x y : ℕ) → r < m.registers
      → Serves m (op.LoadNil r) → Own m (behind (behind s)) (t (tests_inside c s r) (behind (behind s)) r) a x
      → Own m (behind (past (behind (behind s)) (t (tests_inside c s r) (behind (behind s)) r)))
      (b (tests_inside c s r) (behind (past (behind (behind s)) (t (tests_inside c s r) (behind (behind s)) r))) r) d y
      → Own m s (loop_test_first t b c s r) (6 + (8 + ((a + (8 + (d + 6))) + 4))) (x + y)
  test_first_well c t b s r a d x y few nil w v =
      let i = tests_inside c s r in
      let start = behind (behind s) in
      let p = t i start r in
      let inner = behind (past start p) in
      let q = b i inner r in
      let body : Own m inner (both q (jump start.line)) (d + 6) y =
      lower m (inner.line + tall (both q (jump start.line))) inner (both q (jump start.line)) (d + 6) (d + 6) (y + 0) y
      (omega arith) (omega arith) (chain m inner q (jump start.line) d 6 y 0 v
      (back_well m (past inner q) start.line (simp heights (omega arith)))) in
      let turn : Own m start (both p (over (held.JumpNot r) (past start p) (λ k. both (b i k r) (jump start.line))))
      (a + (8 + (d + 6))) (x + y) =
      chain m start p (over (held.JumpNot r) (past start p) (λ k. both (b i k r) (jump start.line))) a (8 + (d + 6)) x y
      w (over_well (held.JumpNot r) (past start p) (λ k. both (b i k r) (jump start.line)) (d + 6) y few body) in
      let all = then_does start (both p (over (held.JumpNot r) (past start p) (λ k. both (b i k r) (jump start.line))))
      (op.LoadNil r) (a + (8 + (d + 6))) 4 (x + y) turn nil refl (omega arith) in
      let rest : Own m (behind s) (over held.Jump (behind s) (λ u. both (both (t i u r) (over (held.JumpNot r)
      (past u (t i u r)) (λ k. both (b i k r) (jump start.line)))) (does (op.LoadNil r))))
      (8 + ((a + (8 + (d + 6))) + 4)) (x + y) =
      over_well held.Jump (behind s) (λ u. both (both (t i u r) (over (held.JumpNot r)
      (past u (t i u r)) (λ k. both (b i k r) (jump start.line)))) (does (op.LoadNil r)))
      ((a + (8 + (d + 6))) + 4) (x + y) tt all in
      led_well s (line.Jump start.line) (over held.Jump (behind s) (λ u. both (both (t i u r) (over (held.JumpNot r)
      (past u (t i u r)) (λ k. both (b i k r) (jump start.line)))) (does (op.LoadNil r)))) 6
      (8 + ((a + (8 + (d + 6))) + 4)) (x + y) (simp heights (omega arith)) refl (omega arith) rest

  abbrev pub bodies_inside : Context → Spot → ℕ → Context
  bodies_inside c s r = in_loop c (record { value = r; out = (behind s).line; round = (behind (behind s)).line })

  -- the body of such a loop, and its test
  abbrev pub body_spot : Spot → Spot
  body_spot s = behind (behind (behind s))

  abbrev pub body_over : Code → Context → Spot → ℕ → Piece
  body_over b c s r = over held.Jump (behind (behind s)) (λ v. b (bodies_inside c s r) v r)

  abbrev pub test_spot : Code → Context → Spot → ℕ → Spot
  test_spot b c s r = past (behind (behind s)) (body_over b c s r)

  pub body_first_well : (c : Context) (t b : Code) (s : Spot) (r a d x y : ℕ) → r < m.registers
      → Serves m (op.LoadNil r) → Own m (body_spot s) (b (bodies_inside c s r) (body_spot s) r) d y
      → Own m (test_spot b c s r) (t (bodies_inside c s r) (test_spot b c s r) r) a x
      → Own m s (loop_body_first t b c s r) (6 + (8 + (((8 + d) + (a + 8)) + 4))) (y + x)
  body_first_well c t b s r a d x y few nil v w =
      let i = bodies_inside c s r in
      let round = behind (behind s) in
      let q = body_over b c s r in
      let p = t i (past round q) r in
      let back = (behind round).line in
      let body : Own m round q (8 + d) y = over_well held.Jump round (λ k. b i k r) d y tt v in
      let tested : Own m (past round q) (both p (jump_if r back)) (a + 8) x =
      lower m ((past round q).line + tall (both p (jump_if r back))) (past round q) (both p (jump_if r back)) (a + 8)
      (a + 8) (x + 0) x (omega arith) (omega arith) (chain m (past round q) p (jump_if r back) a 8 x 0 w
      (puts_well m ((past (past round q) p).line + tall (jump_if r back)) (past (past round q) p) (line.JumpIf r back) 8
      (few, simp heights (omega arith)) refl (omega arith))) in
      let turn : Own m round (both q (both p (jump_if r back))) ((8 + d) + (a + 8)) (y + x) =
      chain m round q (both p (jump_if r back)) (8 + d) (a + 8) y x body tested in
      let all = then_does round (both q (both p (jump_if r back))) (op.LoadNil r) ((8 + d) + (a + 8)) 4 (y + x) turn nil
      refl (omega arith) in
      let next : Spot → Piece = λ u. both (both (over held.Jump u (λ k. b i k r))
      (both (t i (past u (over held.Jump u (λ k. b i k r))) r) (jump_if r (behind u).line))) (does (op.LoadNil r)) in
      let rest : Own m (behind s) (over held.Jump (behind s) next) (8 + (((8 + d) + (a + 8)) + 4)) (y + x) =
      over_well held.Jump (behind s) next (((8 + d) + (a + 8)) + 4) (y + x) tt all in
      led_well s (line.Jump back) (over held.Jump (behind s) next) 6 (8 + (((8 + d) + (a + 8)) + 4)) (y + x)
      (simp heights (omega arith)) refl (omega arith) rest

  -- Guards.

  pub then_well : (c : Context) (b o : Code) (s : Spot) (r a d x y : ℕ) → Own m s (b c s r) a x
      → Own m (past s (b c s r)) (o c (past s (b c s r)) r) d y → Own m s (body_then b o c s r) (a + d) (x + y)
  then_well c b o s r a d x y w v = chain m s (b c s r) (o c (past s (b c s r)) r) a d x y w v

  abbrev pub handler_spot : Code → Code → Context → Spot → ℕ → Spot
  handler_spot b o c s r = behind (past s (body_then b o c s r))

  abbrev pub clauses_spot : Code → Code → Context → Spot → ℕ → Spot
  clauses_spot b o c s r = past (handler_spot b o c s r) (does (op.Except (r + 1)))

  pub rescued_well : (c : Context) (b o handlers : Code) (s : Spot) (r a d k x y z : ℕ) → 0 < tall (b c s r)
      → Own m s (b c s r) a x → Own m (past s (b c s r)) (o c (past s (b c s r)) r) d y → Serves m (op.Except (r + 1))
      → Own m (clauses_spot b o c s r)
      (handlers (in_clause c (r + 1) s.line) (clauses_spot b o c s r) r) k z
      → Own m s (rescued_by true b o handlers c s r) ((a + d) + (8 + (4 + k))) ((x + y) + z)
  rescued_well c b o handlers s r a d k x y z some w v except u =
      let q = body_then b o c s r in
      let mid = past s q in
      let next : Spot → Piece = λ u. both (does (op.Except (r + 1)))
      (handlers (in_clause c (r + 1) s.line) (past u (does (op.Except (r + 1)))) r) in
      let tail : Own m mid (over held.Jump mid next) (8 + (4 + k)) z =
      over_well held.Jump mid next (4 + k) z tt
      (does_then (behind mid) (op.Except (r + 1)) (handlers (in_clause c (r + 1) s.line)
      (past (behind mid) (does (op.Except (r + 1)))) r) 4 k z except refl (omega arith) u) in
      let body = then_well c b o s r a d x y w v in
      guard_well m s (record {
        rescue = true;
        begin = s.line;
        end = (past s (b c s r)).line;
        target = (behind mid).line;
      }) (both q (over held.Jump mid next)) ((a + d) + (8 + (4 + k))) ((x + y) + z)
      (record {
        covers = simp line-past (omega (arith, some));
        within = simp heights (omega arith);
        lands = simp heights (omega arith);
      }) (chain m s q (over held.Jump mid next) (a + d) (8 + (4 + k)) (x + y) z body tail)

  pub ensured_well : (c : Context) (p e : Code) (s : Spot) (r a d x y : ℕ) → 0 < tall (p c s r)
      → Own m s (p c s r) a x → Serves m (op.Except (r + 1)) → Serves m (op.RaiseIf (r + 1))
      → Own m (past s (both (p c s r) (does (op.Except (r + 1)))))
      (e c (past s (both (p c s r) (does (op.Except (r + 1))))) (r + 2)) d y
      → Own m s (ensured_by true p e c s r) ((a + 4) + (d + 4)) (x + y)
  ensured_well c p e s r a d x y some w except raise v =
      let q = both (p c s r) (does (op.Except (r + 1))) in
      let ending = both (e c (past s q) (r + 2)) (does (op.RaiseIf (r + 1))) in
      let start = (past s (p c s r)).line in
      let body = then_does s (p c s r) (op.Except (r + 1)) a 4 x w except refl (omega arith) in
      let last = then_does (past s q) (e c (past s q) (r + 2)) (op.RaiseIf (r + 1)) d 4 y v raise refl (omega arith) in
      guard_well m s (record { rescue = false; begin = s.line; end = start; target = start }) (both q ending)
      ((a + 4) + (d + 4)) (x + y)
      (record {
        covers = simp line-past (omega (arith, some));
        within = simp heights (omega arith);
        lands = simp heights (omega arith);
      }) (chain m s q ending (a + 4) (d + 4) x y body last)
