-- A body with clauses and an ensure part, by what is known of its parts.
use Rattle.std.proofs.Common.{◌≤◌, ℕ, ◌+◌, ◌*◌, ◌∷◌, ◌++◌, arith, refl, Bool}
use Rattle.rite_code.specs.declared.operation.Operation.TheVariants as op
use Rattle.ir_core.specs.CoreForm as form
use Rattle.ir_core.specs.CoreForm.{CoreForm, Maybe, Clauses}
use Rattle.ir_walk.specs.Width.{width, maybe_widths, clause_widths, greatest}
use Rattle.ir_counts.specs.Tables.{classes}
use Rattle.gen_parts.specs.declared.emitter.Spot.{Spot}
use Rattle.gen_parts.specs.Pieces.{past, both, does}
use Rattle.gen_forms.specs.Gen.{Code, gen, gen_maybe, handle, is_given, has_clauses, rescued_by, ensured_by}
use Rattle.code_laws.proofs.Serves.{Inside, context}
use Rattle.code_laws.proofs.Shares.{cost, cost_maybe, cost_clauses, many, many_maybe, many_clauses}
use Rattle.code_laws.proofs.Lines.{Own, heights, line-past}
use Rattle.code_laws.proofs.Parts.{clauses_spot}
use Rattle.code_laws.proofs.Widths.{Under, under_left, under_right, under_greatest, turn_within}
use Rattle.code_laws.proofs.Operating.{Site, own as me}
use Rattle.code_laws.proofs.Rooms.{Each, under_each}
use Rattle.code_laws.proofs.Somes.{gen_some, rescued_some}
use Rattle.code_laws.proofs.Scenes.{Scene, scene_later, in_a_clause}
use Rattle.code_laws.proofs.Choosing.{not_given, not_handled}
use Rattle.code_laws.proofs.Strict.{alone_ready, less, rescued_if, ensured_if}

module _ (w : Site) (loops : Bool) (i : Inside) (s : Spot) where
  -- a part that may be there, and clauses, from a spot on
  abbrev pub MaybeWell : Maybe → Type 0
  MaybeWell o = (v : Spot) (q : ℕ) → s.line ≤ v.line → Each w.registers q (maybe_widths o)
      → Own (me w) v (gen_maybe (context (me w) i) v q o) (cost_maybe o) (many_maybe o)

  abbrev pub ClausesWell : ℕ → Clauses → Type 0
  ClausesWell r cs = (j : Inside) (v : Spot) (g : ℕ) → Scene w loops j v.line → Under g (clause_widths cs)
      → r + 2 + g ≤ w.registers → r + 5 ≤ w.registers
      → Own (me w) v (handle (context (me w) j) v r cs) (4 + 48 * classes cs + cost_clauses cs) (many_clauses cs)

  pub begin_well : (r : ℕ) (b : CoreForm) (cs : Clauses) (o e : Maybe) → Scene w loops i s.line
      → r + width (form.begin_form b cs o e) ≤ w.registers
      → (r + width b ≤ w.registers → Own (me w) s (gen (context (me w) i) s r b) (cost b) (many b))
      → ClausesWell r cs → MaybeWell o → MaybeWell e
      → Own (me w) s (gen (context (me w) i) s r (form.begin_form b cs o e)) (cost (form.begin_form b cs o e))
      (many (form.begin_form b cs o e))
  begin_well r b cs o e k h first clauses then last =
      let c = context (me w) i in
      let ws = ((width b ∷ clause_widths cs) ++ maybe_widths o) ++ maybe_widths e in
      let room = turn_within w.registers r ws h in
      let g = greatest ws in
      let u = under_greatest 0 ws in
      let inner = under_left g (clause_widths cs ++ maybe_widths o) (maybe_widths e) u.1 in
      let outer = under_right g (clause_widths cs ++ maybe_widths o) (maybe_widths e) u.1 in
      let body : Code = λ d t m. gen d t m b in
      let otherwise : Code = λ d t m. gen_maybe d t m o in
      let handlers : Code = λ d t m. handle d t m cs in
      let ending : Code = λ d t m. gen_maybe d t m e in
      let inside : Code = rescued_by (has_clauses cs) body otherwise handlers in
      let except = alone_ready w (op.Except (r + 1)) (r + 1) refl refl refl refl refl refl (omega arith)
      (omega (arith, room.1)) in
      let raise = alone_ready w (op.RaiseIf (r + 1)) (r + 1) refl refl refl refl refl refl (omega arith)
      (omega (arith, room.1)) in
      let p = body c s r in
      let some = gen_some b c s r in
      let at = clauses_spot (me w) body otherwise c s r in
      let j : Inside = record i { caught = r + 1; body_start = s.line } in
      let back : s.line ≤ at.line = simp heights (omega arith) in
      let handled = 4 + 48 * classes cs + cost_clauses cs in
      let rescued = rescued_if w (has_clauses cs) body otherwise handlers c s r (cost b) (cost_maybe o) handled (many b)
      (many_maybe o) (many_clauses cs) some (first (omega (arith, room.0, u.0)))
      (then (past s p) r (simp line-past (omega arith))
      (under_each w.registers r g (maybe_widths o) (omega (arith, room.0))
      (under_right g (clause_widths cs) (maybe_widths o) inner))) except
      (clauses j at g (in_a_clause w loops i (r + 1) s.line at.line (omega (arith, room.1)) back
      (scene_later w loops i s.line at.line back k)) (under_left g (clause_widths cs) (maybe_widths o) inner)
      (omega (arith, room.0)) (omega (arith, room.1))) (not_handled cs) in
      let front = both (inside c s r) (does (op.Except (r + 1))) in
      let inner_many = (many b + many_maybe o) + many_clauses cs in
      let inner_cost = (cost b + cost_maybe o) + (12 + handled) in
      less w s (ensured_by (is_given e) inside ending c s r) ((inner_cost + 4) + (cost_maybe e + 4))
      (96 + 48 * classes cs + cost b + cost_clauses cs + cost_maybe o + cost_maybe e) (inner_many + many_maybe e)
      (many b + many_clauses cs + many_maybe o + many_maybe e) (omega arith) (omega arith)
      (ensured_if w (is_given e) inside ending c s r inner_cost (cost_maybe e) inner_many (many_maybe e)
      (rescued_some (has_clauses cs) body otherwise handlers c s r some) rescued except raise
      (last (past s front) (r + 2) (simp line-past (omega arith))
      (under_each w.registers (r + 2) g (maybe_widths e) (omega (arith, room.0)) outer)) (not_given e))
