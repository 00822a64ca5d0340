-- Loops, by what is known of their tests and bodies.
use Rattle.std.proofs.Common.{◌<◌, ◌≤◌, ℕ, ◌+◌, [], ◌∷◌, arith, refl, true, false, Bool}
use Rattle.std.specs.Prelude.{Some}
use Rattle.ir_core.specs.CoreForm as form
use Rattle.ir_core.specs.CoreForm.{CoreForm}
use Rattle.ir_walk.specs.Width.{width}
use Rattle.gen_parts.specs.declared.emitter.Spot.{Spot}
use Rattle.gen_parts.specs.declared.emitter.Held.TheVariants as held
use Rattle.gen_parts.specs.Pieces.{past, behind}
use Rattle.gen_forms.specs.Gen.{gen, over, loop_test_first, loop_body_first}
use Rattle.code_laws.proofs.Serves.{Inside, context}
use Rattle.code_laws.proofs.Shares.{cost, many}
use Rattle.code_laws.proofs.Lines.{Own, heights, line-past, line-behind}
use Rattle.code_laws.proofs.Parts.{test_first_well, body_first_well}
use Rattle.code_laws.proofs.Widths.{under_greatest, turn_within}
use Rattle.code_laws.proofs.Operating.{Site, own as me}
use Rattle.code_laws.proofs.Scenes.{Scene, in_a_loop}
use Rattle.code_laws.proofs.Choosing.{nil_ready}
use Rattle.code_laws.proofs.Strict.{less}

module _ (w : Site) (loops : Bool) (i : Inside) (s : Spot) (r : ℕ) where
  -- a form within a loop
  abbrev pub LoopWell : CoreForm → Type 0
  LoopWell f = (j : Inside) (v : Spot) → Scene w true j v.line → r + width f ≤ w.registers
      → Own (me w) v (gen (context (me w) j) v r f) (cost f) (many f)

  abbrev start : Spot
  start = behind (behind s)

  abbrev j : Inside
  j = record i { loop = Some (record { value = r; out = (behind s).line; round = start.line }) }

  inside : (line : ℕ) → r < w.registers → Scene w loops i s.line → start.line ≤ line → Scene w true j line
  inside line few k later =
      in_a_loop w loops i s r (behind s).line start.line line few
      (simp line-behind (omega (arith, (simp line-behind at later)))) later
      (omega (arith, (simp line-behind at later))) k

  pub while_well : (first : Bool) (t b : CoreForm) → Scene w loops i s.line
      → r + width (form.while_form first t b) ≤ w.registers → LoopWell t → LoopWell b
      → Own (me w) s (gen (context (me w) i) s r (form.while_form first t b)) (cost (form.while_form first t b))
      (many (form.while_form first t b))
  while_well false t b k h test body =
      let ws = width t ∷ width b ∷ [] in
      let room = turn_within w.registers r ws h in
      let u = under_greatest 0 ws in
      let c = context (me w) i in
      let p = gen (context (me w) j) start r t in
      let few : r < w.registers = omega (arith, room.1) in
      less w s (loop_test_first (λ d v m. gen d v m t) (λ d v m. gen d v m b) c s r)
      (6 + (8 + ((cost t + (8 + (cost b + 6))) + 4))) (64 + cost t + cost b) (many t + many b) (many t + many b)
      (omega arith) refl
      (test_first_well (me w) c (λ d v m. gen d v m t) (λ d v m. gen d v m b) s r (cost t) (cost b) (many t) (many b)
      few
      (nil_ready w r few).serve (test j start (inside start.line few k (omega arith)) (omega (arith, room.0, u.0)))
      (body j (behind (past start p)) (inside (behind (past start p)).line few k (simp heights (omega arith)))
      (omega (arith, room.0, u.1.0))))
  while_well true t b k h test body =
      let ws = width t ∷ width b ∷ [] in
      let room = turn_within w.registers r ws h in
      let u = under_greatest 0 ws in
      let c = context (me w) i in
      let few : r < w.registers = omega (arith, room.1) in
      let turn = over held.Jump start (λ v. gen (context (me w) j) v r b) in
      less w s (loop_body_first (λ d v m. gen d v m t) (λ d v m. gen d v m b) c s r)
      (6 + (8 + (((8 + cost b) + (cost t + 8)) + 4))) (64 + cost t + cost b) (many b + many t) (many t + many b)
      (omega arith) (omega arith)
      (body_first_well (me w) c (λ d v m. gen d v m t) (λ d v m. gen d v m b) s r (cost t) (cost b) (many t) (many b)
      few
      (nil_ready w r few).serve
      (body j (behind start) (inside (behind start).line few k (simp line-behind (omega arith)))
      (omega (arith, room.0, u.1.0)))
      (test j (past start turn) (inside (past start turn).line few k (simp line-past (omega arith)))
      (omega (arith, room.0, u.0))))
