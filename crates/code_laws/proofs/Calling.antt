-- Calls, by what is known of their parts.
use Rattle.std.proofs.Common.{◌<◌, ◌≤◌, ℕ, ◌+◌, ◌*◌, List, [], ◌∷◌, arith, refl, sym, subst, false, true}
use Rattle.std.specs.Prelude.{Some, None}
use Rattle.std.proofs.lemmas.List.{append-nil}
use Rattle.rite_code.specs.declared.operation.Operation.TheVariants as op
use Rattle.ir_core.specs.CoreForm as form
use Rattle.ir_core.specs.CoreForm.{Name, CoreForm, Items, Maybe, Receiver}
use Rattle.ir_walk.specs.Width.{width, maybe_widths, item_widths, receiver_width, of_call, has_splat}
use Rattle.ir_counts.specs.Tables.{item_count, items_code}
use Rattle.gen_parts.specs.declared.emitter.Spot.{Spot}
use Rattle.gen_parts.specs.Pieces.{past, both, does, nothing}
use Rattle.gen_forms.specs.Gen.{Context, Code, symbol, gen, gather, gen_receiver, pass_in_registers, super_block, called_by, passed_by, passing, registers_of as registers_for, count_operand, send, operates}
use Rattle.code_laws.proofs.Serves.{Inside, context}
use Rattle.code_laws.proofs.Shares.{Listed, cost, cost_maybe, cost_items, cost_receiver, many, many_maybe, many_items, many_receiver}
use Rattle.code_laws.proofs.Lines.{Own, line-past}
use Rattle.code_laws.proofs.Parts.{then_does, does_then}
use Rattle.code_laws.proofs.Widths.{Under, InOrder}
use Rattle.code_laws.proofs.Operating.{Site, own as me, symbol_within}
use Rattle.code_laws.proofs.Sending.{passes, counted, operates_ready, send_ready, yield_ready, super_ready, arguments_well}
use Rattle.code_laws.proofs.Rooms.{Each, HasRoom, has_room}
use Rattle.code_laws.proofs.Strict.{alone_ready, both_well, less, called_op, called_block}

-- what stands in a body from a spot on
module _ (w : Site) (i : Inside) (s : Spot) (is : Items) where
  abbrev c : Context
  c = context (me w) i

  -- the items, one a register, and in an Array
  abbrev pub ItemsPass : Type 0
  ItemsPass = (v : Spot) (q : ℕ) → s.line ≤ v.line → InOrder w.registers q (item_widths is)
      → Own (me w) v (pass_in_registers c v q is) (cost_items is) (many_items is)

  abbrev pub ItemsGather : Type 0
  ItemsGather = (v : Spot) (q g : ℕ) → s.line ≤ v.line → Under g (item_widths is) → q + 3 + g ≤ w.registers
      → Own (me w) v (gather c v q is) (6 * item_count is + cost_items is) (many_items is)

  abbrev each : Code
  each d t l = pass_in_registers d t l is

  abbrev gathered : Code
  gathered d t l = gather d t l is

  passed_well : (v : Spot) (r n : ℕ) (ws : List ℕ) → s.line ≤ v.line
      → HasRoom is (passing is) n ws w.registers r → ItemsPass → ItemsGather
      → Own (me w) v (passed_by (passing is) each gathered c v r) (6 + items_code is + cost_items is) (many_items is)
  passed_well v r n ws later room pass collect =
      let pushed = does (op.Array (r + 1) 0) in
      arguments_well w is (passing is) c v r each gathered (passes is)
      (λ e. pass v (r + 1) later (room.in_order e))
      (λ e. collect (past v pushed) (r + 1) room.greatest (simp line-past (omega (arith, later))) room.under
      (omega (arith, room.fits e))) (omega (arith, room.room)) room.count

  pub call_well : (r : ℕ) (e : Receiver) (x : Name) → r + width (form.call e x is form.absent) ≤ w.registers
      → Listed w.tally.symbols (Some x)
      → (r + receiver_width e ≤ w.registers → Own (me w) s (gen_receiver c s r e) (cost_receiver e) (many_receiver e))
      → ItemsPass → ItemsGather
      → Own (me w) s (gen c s r (form.call e x is form.absent)) (cost (form.call e x is form.absent))
      (many (form.call e x is form.absent))
  call_well r e x h named receiver pass collect =
      let p = gen_receiver c s r e in
      let room = has_room is (passing is) (passes is) (receiver_width e) [] w.registers r h in
      let later : s.line ≤ (past s p).line = simp line-past (omega arith) in
      let arguments = passed_well (past s p) r (receiver_width e) [] later room pass collect in
      let sends = send_ready w false e (passing is) r (symbol c x) (counted is (passing is) (passes is))
      (omega (arith, room.room)) (symbol_within w x named) in
      less w s (called_by (operates form.absent e x is r) (λ d t m. gen_receiver d t m e) each
      (passed_by (passing is) each gathered) (λ d t m. nothing) (registers_for (passing is))
      (send false e (passing is) r (symbol c x)) c s r)
      (cost_receiver e + (6 + items_code is + cost_items is) + 8)
      (16 + items_code is + cost_receiver e + cost_items is + 0) (many_receiver e + many_items is)
      (many_receiver e + many_items is + 0) (omega arith) (omega arith)
      (called_op w (operates form.absent e x is r) is (λ d t m. gen_receiver d t m e) each
      (passed_by (passing is) each gathered) (registers_for (passing is))
      (send false e (passing is) r (symbol c x)) c s r (cost_receiver e) (cost_items is)
      (6 + items_code is + cost_items is) (many_receiver e) (many_items is)
      (operates_ready w form.absent e x is r (omega (arith, room.room))) (receiver room.first)
      (λ g. pass (past s p) (r + 1) later (room.in_order g)) arguments (omega arith) sends)

  pub block_call_well : (r : ℕ) (e : Receiver) (x : Name) (m : CoreForm)
      → r + width (form.call e x is (form.there m)) ≤ w.registers → Listed w.tally.symbols (Some x)
      → (r + receiver_width e ≤ w.registers → Own (me w) s (gen_receiver c s r e) (cost_receiver e) (many_receiver e))
      → ItemsPass → ItemsGather
      → ((v : Spot) (q : ℕ) → s.line ≤ v.line → q + width m ≤ w.registers
      → Own (me w) v (gen c v q m) (cost m) (many m))
      → Own (me w) s (gen c s r (form.call e x is (form.there m))) (cost (form.call e x is (form.there m)))
      (many (form.call e x is (form.there m)))
  block_call_well r e x m h named receiver pass collect block_well =
      let p = gen_receiver c s r e in
      let room = has_room is (passing is) (passes is) (receiver_width e) (width m ∷ []) w.registers r h in
      let block : Code = λ d t l. gen d t l m in
      let arguments = passed_well (past s p) r (receiver_width e) (width m ∷ []) (simp line-past (omega arith)) room
      pass
      collect in
      let front = both p (passed_by (passing is) each gathered c (past s p) r) in
      let sends = send_ready w true e (passing is) r (symbol c x) (counted is (passing is) (passes is))
      (omega (arith, room.room)) (symbol_within w x named) in
      less w s (called_by None (λ d t l. gen_receiver d t l e) each (passed_by (passing is) each gathered) block
      (registers_for (passing is)) (send true e (passing is) r (symbol c x)) c s r)
      (cost_receiver e + (6 + items_code is + cost_items is) + cost m + 8)
      (16 + items_code is + cost_receiver e + cost_items is + cost m) (many_receiver e + many_items is + many m)
      (many_receiver e + many_items is + many m) (omega arith) refl
      (called_block w (λ d t l. gen_receiver d t l e) each (passed_by (passing is) each gathered) block
      (registers_for (passing is)) (send true e (passing is) r (symbol c x)) c s r (cost_receiver e)
      (6 + items_code is + cost_items is) (cost m) (many_receiver e) (many_items is) (many m) (receiver room.first)
      arguments
      (block_well (past s front) (r + 1 + registers_for (passing is)) (simp line-past (omega arith)) room.behind.0)
      sends)

  pub yield_well : (r : ℕ) → r + width (form.yield_form is) ≤ w.registers → ItemsPass → ItemsGather
      → Own (me w) s (gen c s r (form.yield_form is)) (cost (form.yield_form is)) (many (form.yield_form is))
  yield_well r h pass collect =
      let wide = subst (λ (ws : List ℕ). r + of_call (has_splat is) (3 ∷ ws) ≤ w.registers)
      (sym (append-nil (item_widths is))) h in
      let room = has_room is (passing is) (passes is) 3 [] w.registers r wide in
      let p = does (op.BlkPush r) in
      let arguments = passed_well (past s p) r 3 [] (simp line-past (omega arith)) room pass collect in
      let call = yield_ready w (passing is) r (counted is (passing is) (passes is)) (omega (arith, room.room)) in
      let push = alone_ready w (op.BlkPush r) r refl refl refl refl refl refl (omega arith)
      (omega (arith, room.room)) in
      let g = passed_by (passing is) each gathered c (past s p) r in
      let last = both g (does (op.Call r (count_operand (passing is)))) in
      less w s (both p last) (4 + ((6 + items_code is + cost_items is) + 6)) (16 + items_code is + cost_items is)
      (many_items is) (many_items is) (omega arith) refl
      (does_then (me w) s (op.BlkPush r) last 4 ((6 + items_code is + cost_items is) + 6) (many_items is) push.serve
      push.unused push.light (then_does (me w) (past s p) g (op.Call r (count_operand (passing is)))
      (6 + items_code is + cost_items is) 6 (many_items is) arguments call.serve call.unused call.light))

  pub super_call_well : (r : ℕ) (m : Maybe) → r + width (form.super_form is m) ≤ w.registers → ItemsPass → ItemsGather
      → ((v : Spot) (q : ℕ) → s.line ≤ v.line → Each w.registers q (maybe_widths m) → q < w.registers
      → Own (me w) v (super_block c v q m) (20 + cost_maybe m) (many_maybe m))
      → Own (me w) s (gen c s r (form.super_form is m)) (cost (form.super_form is m)) (many (form.super_form is m))
  super_call_well r m h pass collect block_well =
      let room = has_room is (passing is) (passes is) 3 (maybe_widths m) w.registers r h in
      let arguments = passed_well s r 3 (maybe_widths m) (omega arith) room pass collect in
      let call = super_ready w (passing is) r (counted is (passing is) (passes is)) (omega (arith, room.room)) in
      let p = passed_by (passing is) each gathered c s r in
      let b = super_block c (past s p) (r + 1 + registers_for (passing is)) m in
      let last = both b (does (op.Super r (count_operand (passing is)))) in
      both_well w s p last (6 + items_code is + cost_items is) ((20 + cost_maybe m) + 6)
      (32 + items_code is + cost_items is + cost_maybe m) (many_items is) (many_maybe m)
      (many_items is + many_maybe m) arguments
      (then_does (me w) (past s p) b (op.Super r (count_operand (passing is))) (20 + cost_maybe m) 6 (many_maybe m)
      (block_well (past s p) (r + 1 + registers_for (passing is)) (simp line-past (omega arith)) room.behind
      (omega (arith, room.room))) call.serve call.unused call.light) (omega arith) refl
