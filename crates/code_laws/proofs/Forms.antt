-- Nothing is wrong in the code of a form of a program within the limits: one clause for each form.
use Rattle.std.proofs.Common.{◌≡◌, ◌<◌, ◌≤◌, ℕ, ◌+◌, ◌*◌, max, List, [], ◌∷◌, ◌++◌, length, arith, refl, true, false, ◌&&◌}
use Rattle.std.specs.Prelude.{is_some}
use Rattle.std.proofs.lemmas.Bool.{and_parts}
use Rattle.rite_code.specs.declared.operation.Operation.TheVariants as op
use Rattle.ir_core.specs.CoreForm as form
use Rattle.ir_core.specs.CoreForm.{Local, CoreForm, Body, Maybe, Forms, Items, Pairs, Branches, Clauses, Receiver}
use Rattle.ir_core.specs.Program.{Around, is_known, within_loop, within_clause, within_target, is_form, may_be, are_forms, are_items, are_pairs, are_branches, are_clauses, is_receiver, is_method, is_class, has_defaults}
use Rattle.ir_walk.specs.Width.{width, widths, maybe_widths, item_widths, pair_widths, branch_widths, clause_widths, receiver_width, greatest, greatest_of, or_leaf}
use Rattle.ir_counts.specs.Tables.{item_count, pair_count, count, classes, branch_count}
use Rattle.scope_resolver.specs.declared.body_kind.BodyKind.{BodyKind}
use Rattle.scope_resolver.specs.declared.body_kind.BodyKind.TheVariants as kind
use Rattle.scope_resolver.specs.Layout.{Scopes}
use Rattle.code_outline.specs.declared.maker.Purpose.TheVariants as purpose
use Rattle.gen_parts.specs.declared.emitter.Spot.{Spot}
use Rattle.gen_parts.specs.declared.emitter.Held.TheVariants as held
use Rattle.gen_parts.specs.Pieces.{Piece, past, behind, both, does, leave}
use Rattle.gen_forms.specs.Gen.{Code, symbol, text_entry, gen, gather, gather_pairs, gather_text, in_turn, others_in_turn, choose, gen_receiver, pass_in_registers, gen_maybe, super_block, gen_scope, gen_parent, handle, test_classes, test_others, over, return_by, break_by, next_by, range_by, with_jumps, by_defaults, first_spot, ahead, parameters}
use Rattle.code_laws.proofs.Serves.{Inside, context}
use Rattle.code_laws.proofs.Shares.{Noted, Noted_maybe, Noted_all, Noted_items, Noted_pairs, Noted_branches, Noted_clauses, Noted_receiver, Fits, cost, cost_maybe, cost_all, cost_items, cost_pairs, cost_branches, cost_clauses, cost_receiver, many, many_maybe, many_all, many_items, many_pairs, many_branches, many_clauses, many_receiver}
use Rattle.code_laws.proofs.Lines.{Own, heights, chain, nothing_well}
use Rattle.code_laws.proofs.Parts.{then_does, does_then, over_well, turn_well}
use Rattle.code_laws.proofs.Widths.{Under, InOrder, under_left, under_right, under_greatest, greatest_least, into_within, turn_within}
use Rattle.code_laws.proofs.Reaching.{own_reached}
use Rattle.code_laws.proofs.Operating.{AreShort, Site, own as me, symbol_within, integer_loads, moved, reads}
use Rattle.code_laws.proofs.Sending.{array_ready, returns, return_ready, stop_ready, block_serves, lambda_serves, top_ready, asks_ready, two_ready}
use Rattle.code_laws.proofs.Rooms.{Each, under_each}
use Rattle.code_laws.proofs.Wides.{width_some}
use Rattle.code_laws.proofs.Scenes.{Scene, scene_later, scene_past, scene_behind, one_part, two_parts, ready_well, leaf, local_read, local_write}
use Rattle.code_laws.proofs.Bodied.{Coded, makes_well, site, first}
use Rattle.code_laws.proofs.Strict.{alone_ready, symbol_ready, after, after_two, both_well, less, leave_well, break_well, next_well}
use Rattle.code_laws.proofs.Calling.{call_well, block_call_well, yield_well, super_call_well}
use Rattle.code_laws.proofs.Looping.{while_well}
use Rattle.code_laws.proofs.Guarding.{begin_well}
use Rattle.code_laws.proofs.Defining.{define_well, define_on_well, class_well, module_well, singleton_well}
use Rattle.code_laws.proofs.Entering.{Jumping, jumping_well, defaults_well, defaults_follow, finish, inner_straight, inner_entered, no_inside, opened}
use Rattle.code_laws.proofs.Choosing.{nil_ready, range_ready, item_ready, rest_ready, tail_ready, rescue_ready, push_ready, hash_ready, add_ready, alias_ready, undef_ready, text_loads, Formed, block_formed, method_formed, class_formed, own_block_well}

mutual
  pub gen_well : (f : CoreForm) (w : Site) (a : Around) (i : Inside) (s : Spot) (r : ℕ) → Scene w a.loops i s.line
      → Noted w.tally f → is_form a f ≡ true → r + width f ≤ w.registers
      → Own (me w) s (gen (context (me w) i) s r f) (cost f) (many f)
  gen_well form.nil w a i s r k n f h = leaf w s (op.LoadNil r) 4 (omega arith) (nil_ready w r (omega (arith, h)))
  gen_well form.truth w a i s r k n f h =
      leaf w s (op.LoadT r) 4 (omega arith)
      (alone_ready w (op.LoadT r) r refl refl refl refl refl refl (omega arith) (omega (arith, h)))
  gen_well form.falsehood w a i s r k n f h =
      leaf w s (op.LoadF r) 4 (omega arith)
      (alone_ready w (op.LoadF r) r refl refl refl refl refl refl (omega arith) (omega (arith, h)))
  gen_well form.self_ref w a i s r k n f h =
      leaf w s (op.LoadSelf r) 4 (omega arith)
      (alone_ready w (op.LoadSelf r) r refl refl refl refl refl refl (omega arith) (omega (arith, h)))
  gen_well (form.int x) w a i s r k n f h =
      leaf w s _ 8 (omega arith) (integer_loads w i r x (omega (arith, h)) n.integer)
  gen_well (form.str x) w a i s r k n f h =
      leaf w s _ 8 (omega arith) (text_loads w i r x (omega (arith, h)) n.text)
  gen_well (form.sym x) w a i s r k n f h =
      leaf w s (op.LoadSym r (symbol (context (me w) i) x)) 6 (omega arith)
      (symbol_ready w (op.LoadSym r (symbol (context (me w) i) x)) r _ refl refl refl refl (omega (arith, h)) refl
      (omega arith) (omega (arith, h)) (symbol_within w x n.name))
  gen_well (form.local x) w a i s r k n f h =
      leaf w s _ 8 (omega arith) (local_read w r x (omega (arith, h)) n.hidden)
  gen_well (form.own x) w a i s r k n f h =
      leaf w s _ 8 (omega arith) (reads w r _ (omega (arith, h)) (own_reached w.scopes x))
  gen_well form.exception w a i s r k n f h =
      leaf w s (op.Move r i.caught) 8 (omega arith) (moved w r i.caught (omega (arith, h)) k.caught)
  gen_well (form.set_local x e) w a i s r k n f h =
      let o = one_part w.registers r (width e) h in
      after w s (gen (context (me w) i) s r e) _ (cost e) (many e) 8 (omega arith)
      (gen_well e w a i s r k n.1 (and_parts (is_known x a.known) (is_form a e) f).1 o.0)
      (local_write w r x (omega (arith, o.1)) n.0.hidden)
  gen_well (form.ivar x) w a i s r k n f h =
      leaf w s (op.GetIv r (symbol (context (me w) i) x)) 6 (omega arith)
      (symbol_ready w (op.GetIv r (symbol (context (me w) i) x)) r _ refl refl refl refl (omega (arith, h)) refl
      (omega arith) (omega (arith, h)) (symbol_within w x n.name))
  gen_well (form.set_ivar x e) w a i s r k n f h =
      let o = one_part w.registers r (width e) h in
      after w s (gen (context (me w) i) s r e) (op.SetIv r (symbol (context (me w) i) x)) (cost e) (many e) 6
      (omega arith)
      (gen_well e w a i s r k n.1 f o.0)
      (symbol_ready w (op.SetIv r (symbol (context (me w) i) x)) r _ refl refl refl refl (omega (arith, o.1)) refl
      (omega arith) (omega (arith, o.1)) (symbol_within w x n.0.name))
  gen_well (form.gvar x) w a i s r k n f h =
      leaf w s (op.GetGv r (symbol (context (me w) i) x)) 6 (omega arith)
      (symbol_ready w (op.GetGv r (symbol (context (me w) i) x)) r _ refl refl refl refl (omega (arith, h)) refl
      (omega arith) (omega (arith, h)) (symbol_within w x n.name))
  gen_well (form.set_gvar x e) w a i s r k n f h =
      let o = one_part w.registers r (width e) h in
      after w s (gen (context (me w) i) s r e) (op.SetGv r (symbol (context (me w) i) x)) (cost e) (many e) 6
      (omega arith)
      (gen_well e w a i s r k n.1 f o.0)
      (symbol_ready w (op.SetGv r (symbol (context (me w) i) x)) r _ refl refl refl refl (omega (arith, o.1)) refl
      (omega arith) (omega (arith, o.1)) (symbol_within w x n.0.name))
  gen_well (form.constant x) w a i s r k n f h =
      leaf w s (op.GetConst r (symbol (context (me w) i) x)) 6 (omega arith)
      (symbol_ready w (op.GetConst r (symbol (context (me w) i) x)) r _ refl refl refl refl (omega (arith, h)) refl
      (omega arith) (omega (arith, h)) (symbol_within w x n.name))
  gen_well (form.top_constant x) w a i s r k n f h =
      let get = op.GetMCnst r (symbol (context (me w) i) x) in
      both_well w s (does (op.OClass r 0)) (does get) 6 6 16 0 0 0
      (ready_well w s (op.OClass r 0) 6 (top_ready w r 0 (omega (arith, h)) (omega arith)))
      (ready_well w (past s (does (op.OClass r 0))) get 6 (symbol_ready w get r _ refl refl refl refl (omega (arith, h))
      refl (omega arith) (omega (arith, h)) (symbol_within w x n.name))) (omega arith) refl
  gen_well (form.in_constant e x) w a i s r k n f h =
      let o = one_part w.registers r (width e) h in
      after w s (gen (context (me w) i) s r e) (op.GetMCnst r (symbol (context (me w) i) x)) (cost e) (many e) 6
      (omega arith) (gen_well e w a i s r k n.1 f o.0)
      (symbol_ready w (op.GetMCnst r (symbol (context (me w) i) x)) r _ refl refl refl refl (omega (arith, o.1)) refl
      (omega arith) (omega (arith, o.1)) (symbol_within w x n.0.name))
  gen_well (form.set_constant x e) w a i s r k n f h =
      let o = one_part w.registers r (width e) h in
      after w s (gen (context (me w) i) s r e) (op.SetConst r (symbol (context (me w) i) x)) (cost e) (many e) 6
      (omega arith) (gen_well e w a i s r k n.1 f o.0)
      (symbol_ready w (op.SetConst r (symbol (context (me w) i) x)) r _ refl refl refl refl (omega (arith, o.1)) refl
      (omega arith) (omega (arith, o.1)) (symbol_within w x n.0.name))
  gen_well (form.set_in_constant e x v) w a i s r k n f h =
      let o = two_parts w.registers r (width e) (width v) h in
      let q = and_parts (is_form a e) (is_form a v) f in
      let p = gen (context (me w) i) s r e in
      let set = op.SetMCnst r (symbol (context (me w) i) x) in
      after_two w s p (gen (context (me w) i) (past s p) (r + 1) v) set (cost e) (cost v) (many e) (many v) 6
      (omega arith) (gen_well e w a i s r k n.1 q.0 o.0)
      (gen_well v w a i (past s p) (r + 1) (scene_past w a.loops i s p k) n.2 q.1 o.1)
      (symbol_ready w set r _ refl refl refl refl (omega (arith, o.2)) refl (omega arith) (omega (arith, o.2))
      (symbol_within w x n.0.name))
  gen_well (form.array is) w a i s r k n f h =
      let g = greatest (item_widths is) in
      let room = into_within w.registers r (item_widths is) h in
      let array = array_ready w r 0 (omega (arith, room)) (omega (arith, room)) in
      let p = does (op.Array r 0) in
      let q = gather (context (me w) i) (past s p) r is in
      less w s (both p q) (6 + (6 * item_count is + cost_items is)) (16 + 8 * item_count is + cost_items is)
      (many_items is) (many_items is) (omega arith) refl
      (does_then (me w) s (op.Array r 0) q 6 (6 * item_count is + cost_items is) (many_items is) array.serve
      array.unused array.light (gather_well is w a i (past s p) r g (scene_past w a.loops i s p k) n.1 f
      (under_greatest 0 (item_widths is)) (omega (arith, room))))
  gen_well (form.hash ps) w a i s r k n f h =
      let g = greatest (pair_widths ps) in
      let room = into_within w.registers r (pair_widths ps) h in
      let hash = hash_ready w r (omega (arith, room)) in
      let p = does (op.Hash r 0) in
      let q = gather_pairs (context (me w) i) (past s p) r ps in
      less w s (both p q) (6 + (6 * pair_count ps + cost_pairs ps)) (16 + 8 * pair_count ps + cost_pairs ps)
      (many_pairs ps) (many_pairs ps) (omega arith) refl
      (does_then (me w) s (op.Hash r 0) q 6 (6 * pair_count ps + cost_pairs ps) (many_pairs ps) hash.serve hash.unused
      hash.light (pairs_well ps w a i (past s p) r g (scene_past w a.loops i s p k) n.1 f
      (under_greatest 0 (pair_widths ps)) (omega (arith, room))))
  gen_well (form.range e v x) w a i s r k n f h =
      let o = two_parts w.registers r (width e) (width v) h in
      let q = and_parts (is_form a e) (is_form a v) f in
      let p = gen (context (me w) i) s r e in
      after_two w s p (gen (context (me w) i) (past s p) (r + 1) v) (range_by x r) (cost e) (cost v) (many e) (many v) 4
      (omega arith) (gen_well e w a i s r k n.1 q.0 o.0)
      (gen_well v w a i (past s p) (r + 1) (scene_past w a.loops i s p k) n.2 q.1 o.1)
      (range_ready w x r (omega (arith, o.2)))
  gen_well (form.text es) w a i s r k n f h =
      let g = greatest (widths es) in
      let room = into_within w.registers r (widths es) h in
      let text = text_loads w i r [] (omega (arith, room)) n.0.text in
      let p = does (op.String r (text_entry (context (me w) i) [])) in
      let q = gather_text (context (me w) i) (past s p) r es in
      less w s (both p q) (8 + (4 * count es + cost_all es)) (16 + 8 * count es + cost_all es) (many_all es)
      (many_all es) (omega arith) refl
      (does_then (me w) s (op.String r (text_entry (context (me w) i) [])) q 8 (4 * count es + cost_all es)
      (many_all es)
      text.serve text.unused text.light (texts_well es w a i (past s p) r g (scene_past w a.loops i s p k) n.1 f
      (under_greatest 0 (widths es)) (omega (arith, room))))
  gen_well (form.intern e) w a i s r k n f h =
      let o = one_part w.registers r (width e) h in
      after w s (gen (context (me w) i) s r e) (op.Intern r) (cost e) (many e) 4 (omega arith)
      (gen_well e w a i s r k n.1 f o.0)
      (alone_ready w (op.Intern r) r refl refl refl refl refl refl (omega arith) (omega (arith, o.1)))
  gen_well (form.seq es) w a i s r k n f h =
      let room = turn_within w.registers r (widths es) h in
      let p = in_turn (context (me w) i) s r es in
      less w s p (4 + cost_all es) (16 + cost_all es) (many_all es) (many_all es) (omega arith) refl
      (turn_forms_well es w a i s r (greatest (widths es)) k n.1 f (under_greatest 0 (widths es))
      (omega (arith, room.0)) (omega (arith, room.1)))
  gen_well (form.cond bs e) w a i s r k n f h =
      let ws = branch_widths bs ++ width e ∷ [] in
      let room = turn_within w.registers r ws h in
      let u = under_greatest 0 ws in
      let last = under_right (greatest ws) (branch_widths bs) (width e ∷ []) u in
      let q = and_parts (are_branches a bs) (is_form a e) f in
      let others : Code = λ d t m. gen d t m e in
      less w s (choose (context (me w) i) s r bs others) (16 * branch_count bs + cost_branches bs + cost e)
      (16 + 16 * branch_count bs + cost_branches bs + cost e) (many_branches bs + many e) (many_branches bs + many e)
      (omega arith) refl
      (choose_well bs others (cost e) (many e) w a i s r (greatest ws) k n.1 q.0
      (under_left (greatest ws) (branch_widths bs) (width e ∷ []) u) (omega (arith, room.0)) (omega (arith, room.1))
      (λ v later. gen_well e w a i v r (scene_later w a.loops i s.line v.line later k) n.2 q.1
      (omega (arith, room.0, last.0))))
  gen_well (form.and_form e v) w a i s r k n f h =
      let o = two_parts w.registers r (width e) (width v) h in
      let q = and_parts (is_form a e) (is_form a v) f in
      let p = gen (context (me w) i) s r e in
      let next : Spot → Piece = λ t. gen (context (me w) i) t r v in
      both_well w s p (over (held.JumpNot r) (past s p) next) (cost e) (8 + cost v) (16 + cost e + cost v) (many e)
      (many v) (many e + many v) (gen_well e w a i s r k n.1 q.0 o.0)
      (over_well (me w) (held.JumpNot r) (past s p) next (cost v) (many v) (omega (arith, o.2))
      (gen_well v w a i (behind (past s p)) r (scene_behind w a.loops i (past s p) (scene_past w a.loops i s p k)) n.2
      q.1 (omega (arith, o.1)))) (omega arith) refl
  gen_well (form.or_form e v) w a i s r k n f h =
      let o = two_parts w.registers r (width e) (width v) h in
      let q = and_parts (is_form a e) (is_form a v) f in
      let p = gen (context (me w) i) s r e in
      let next : Spot → Piece = λ t. gen (context (me w) i) t r v in
      both_well w s p (over (held.JumpIf r) (past s p) next) (cost e) (8 + cost v) (16 + cost e + cost v) (many e)
      (many v) (many e + many v) (gen_well e w a i s r k n.1 q.0 o.0)
      (over_well (me w) (held.JumpIf r) (past s p) next (cost v) (many v) (omega (arith, o.2))
      (gen_well v w a i (behind (past s p)) r (scene_behind w a.loops i (past s p) (scene_past w a.loops i s p k)) n.2
      q.1 (omega (arith, o.1)))) (omega arith) refl
  gen_well (form.while_form first t b) w a i s r k n f h =
      let q = and_parts (is_form (within_loop a) t) (is_form (within_loop a) b) f in
      while_well w a.loops i s r first t b k h (λ j v scene room. gen_well t w (within_loop a) j v r scene n.1 q.0 room)
      (λ j v scene room. gen_well b w (within_loop a) j v r scene n.2 q.1 room)
  gen_well (form.call e x is form.absent) w a i s r k n f h =
      let q = and_parts (is_receiver a e) (are_items a is && true) f in
      let items = and_parts (are_items a is) true q.1 in
      call_well w i s is r e x h n.0.name (λ room. receiver_well e w a i s r k n.1 q.0 room)
      (λ v m later o. pass_well is w a i v m (scene_later w a.loops i s.line v.line later k) n.2 items.0 o)
      (λ v m g later u o. gather_well is w a i v m g (scene_later w a.loops i s.line v.line later k) n.2 items.0 u o)
  gen_well (form.call e x is (form.there m)) w a i s r k n f h =
      let q = and_parts (is_receiver a e) (are_items a is && is_form a m) f in
      let items = and_parts (are_items a is) (is_form a m) q.1 in
      block_call_well w i s is r e x m h n.0.name (λ room. receiver_well e w a i s r k n.1 q.0 room)
      (λ v m later o. pass_well is w a i v m (scene_later w a.loops i s.line v.line later k) n.2 items.0 o)
      (λ v m g later u o. gather_well is w a i v m g (scene_later w a.loops i s.line v.line later k) n.2 items.0 u o)
      (λ v l later room. gen_well m w a i v l (scene_later w a.loops i s.line v.line later k) n.3 items.1 room)
  gen_well (form.yield_form is) w a i s r k n f h =
      let q = and_parts (is_some a.method) (are_items a is) f in
      yield_well w i s is r h (λ v m later o. pass_well is w a i v m (scene_later w a.loops i s.line v.line later k)
      n.1 q.1 o)
      (λ v m g later u o. gather_well is w a i v m g (scene_later w a.loops i s.line v.line later k) n.1 q.1 u o)
  gen_well (form.super_form is m) w a i s r k n f h =
      let q = and_parts (is_some a.method) (are_items a is && may_be a m) f in
      let items = and_parts (are_items a is) (may_be a m) q.1 in
      super_call_well w i s is r m h (λ v m later o. pass_well is w a i v m
      (scene_later w a.loops i s.line v.line later k) n.1 items.0 o)
      (λ v m g later u o. gather_well is w a i v m g (scene_later w a.loops i s.line v.line later k) n.1 items.0 u o)
      (λ v l later o few. super_well m w a i v l (scene_later w a.loops i s.line v.line later k) n.2 items.1 o few)
  gen_well (form.function b) w a i s r k n f h =
      makes_well (me w) s (op.Block r s.child) purpose.Block b 16 (block_serves w r s.child (omega (arith, h))) refl
      (omega arith) (body_well b kind.Block w.scopes s.body w.able.each n.1 (block_formed a b f))
  gen_well (form.lambda b) w a i s r k n f h =
      let o = one_part w.registers r 3 h in
      makes_well (me w) s (op.Lambda r s.child) purpose.Lambda b 32 (lambda_serves w r s.child (omega (arith, o.1)))
      refl
      (omega arith) (body_well b kind.Block w.scopes s.body w.able.each n.1 (block_formed a b f))
  gen_well (form.begin_form b cs o e) w a i s r k n f h =
      let q = and_parts (is_form a b) (are_clauses a cs && (may_be a o && may_be a e)) f in
      let q2 = and_parts (are_clauses a cs) (may_be a o && may_be a e) q.1 in
      let q3 = and_parts (may_be a o) (may_be a e) q2.1 in
      begin_well w a.loops i s r b cs o e k h (λ room. gen_well b w a i s r k n.1 q.0 room)
      (λ j v g scene u room few. handle_well cs w a j v r g scene n.2 q2.0 u room few)
      (λ v l later room. maybe_well o w a i v l (scene_later w a.loops i s.line v.line later k) n.3 q3.0 room)
      (λ v l later room. maybe_well e w a i v l (scene_later w a.loops i s.line v.line later k) n.4 q3.1 room)
  gen_well (form.return_form e) w a i s r k n f h =
      let o = one_part w.registers r (width e) h in
      after w s (gen (context (me w) i) s r e) (return_by w.kind r) (cost e) (many e) 4 (omega arith)
      (gen_well e w a i s r k n.1 (and_parts a.returns (is_form a e) f).1 o.0)
      (returns w w.kind r refl (omega (arith, o.1)))
  gen_well (form.break_form e) w a i s r k n f h =
      let o = one_part w.registers r (width e) h in
      let q = and_parts a.loops (is_form a e) f in
      let p = gen (context (me w) i) s r e in
      both_well w s p (break_by i.loop r) (cost e) 16 (16 + cost e) (many e) 0 (many e)
      (gen_well e w a i s r k n.1 q.1 o.0)
      (break_well w i.loop (past s p) r (scene_past w a.loops i s p k).loop (k.breaks q.0) (omega (arith, o.1)))
      (omega arith) (omega arith)
  gen_well (form.next_form e) w a i s r k n f h =
      let o = one_part w.registers r (width e) h in
      let q = and_parts a.loops (is_form a e) f in
      let p = gen (context (me w) i) s r e in
      both_well w s p (next_by i.loop r) (cost e) 16 (16 + cost e) (many e) 0 (many e)
      (gen_well e w a i s r k n.1 q.1 o.0)
      (next_well w i.loop (past s p) r (scene_past w a.loops i s p k).loop (omega (arith, o.1)))
      (omega arith) (omega arith)
  gen_well form.retry w a i s r k n f h =
      less w s (leave i.body_start) 6 16 0 0 (omega arith) refl (leave_well w s i.body_start k.start)
  gen_well (form.define x b) w a i s r k n f h =
      define_well w i s r x b h n.0.name (λ m. body_well b kind.Method w.scopes m w.able.each n.1 (method_formed b f))
  gen_well (form.define_on e x b) w a i s r k n f h =
      let q = and_parts (is_form a e) (is_method b) f in
      define_on_well w i s r e x b h n.0.name (λ room. gen_well e w a i s r k n.1 q.0 room)
      (λ m. body_well b kind.Method w.scopes m w.able.each n.2 (method_formed b q.1))
  gen_well (form.class_form scope x parent b) w a i s r k n f h =
      let q = and_parts (may_be a scope) (may_be a parent && is_class b) f in
      let q2 = and_parts (may_be a parent) (is_class b) q.1 in
      class_well w i s r scope x parent b h n.0.name (λ room. scope_well scope w a i s r k n.1 q.0 room)
      (λ v later room. parent_well parent w a i v (r + 1) (scene_later w a.loops i s.line v.line later k) n.2 q2.0 room)
      (λ m. body_well b kind.Class w.scopes m w.able.each n.3 (class_formed b q2.1))
  gen_well (form.module_form scope x b) w a i s r k n f h =
      let q = and_parts (may_be a scope) (is_class b) f in
      module_well w i s r scope x b h n.0.name (λ room. scope_well scope w a i s r k n.1 q.0 room)
      (λ m. body_well b kind.Class w.scopes m w.able.each n.2 (class_formed b q.1))
  gen_well (form.singleton_class e b) w a i s r k n f h =
      let q = and_parts (is_form a e) (is_class b) f in
      singleton_well w i s r e b h (λ room. gen_well e w a i s r k n.1 q.0 room)
      (λ m. body_well b kind.Class w.scopes m w.able.each n.2 (class_formed b q.1))
  gen_well (form.alias_form x y) w a i s r k n f h =
      let c = context (me w) i in
      let alias = op.Alias (symbol c x) (symbol c y) in
      both_well w s (does alias) (does (op.LoadNil r)) 6 4 16 0 0 0
      (ready_well w s alias 6 (alias_ready w _ _ (symbol_within w x n.name) (symbol_within w y n.old_name)))
      (ready_well w (past s (does alias)) (op.LoadNil r) 4 (nil_ready w r (omega (arith, h)))) (omega arith) refl
  gen_well (form.undef_form x) w a i s r k n f h =
      let undef = op.Undef (symbol (context (me w) i) x) in
      both_well w s (does undef) (does (op.LoadNil r)) 4 4 16 0 0 0
      (ready_well w s undef 4 (undef_ready w _ (symbol_within w x n.name)))
      (ready_well w (past s (does undef)) (op.LoadNil r) 4 (nil_ready w r (omega (arith, h)))) (omega arith) refl
  gen_well (form.defined x y form.absent) w a i s r k n f h =
      leaf w s _ 8 (omega arith) (asks_ready w i x y false r (omega (arith, h)) n.0.name n.0.text)
  gen_well (form.defined x y (form.there e)) w a i s r k n f h =
      let o = one_part w.registers r (width e) h in
      after w s (gen (context (me w) i) s r e) _ (cost e) (many e) 8 (omega arith)
      (gen_well e w a i s r k n.1 f o.0) (asks_ready w i x y true r (omega (arith, o.1)) n.0.name n.0.text)
  gen_well (form.item e x) w a i s r k n f h =
      let o = one_part w.registers r (width e) h in
      after w s (gen (context (me w) i) s r e) (op.ARef r r x) (cost e) (many e) 8 (omega arith)
      (gen_well e w a i s r k n.1 f o.0) (item_ready w r x (omega (arith, o.1)) n.0.kind)
  gen_well (form.rest_of e x y) w a i s r k n f h =
      let o = one_part w.registers r (width e) h in
      after w s (gen (context (me w) i) s r e) _ (cost e) (many e) 8 (omega arith)
      (gen_well e w a i s r k n.1 f o.0) (rest_ready w r x y (omega (arith, o.1)) n.0.kind)
  gen_well (form.tail_of e x y) w a i s r k n f h =
      let o = one_part w.registers r (width e) h in
      after w s (gen (context (me w) i) s r e) _ (cost e) (many e) 8 (omega arith)
      (gen_well e w a i s r k n.1 f o.0) (tail_ready w r x y (omega (arith, o.1)) n.0.kind)

  -- the items of an Array, the pairs of a Hash, the parts of a text
  gather_well : (is : Items) (w : Site) (a : Around) (i : Inside) (s : Spot) (r g : ℕ) → Scene w a.loops i s.line
      → Noted_items w.tally is → are_items a is ≡ true → Under g (item_widths is) → r + 3 + g ≤ w.registers
      → Own (me w) s (gather (context (me w) i) s r is) (6 * item_count is + cost_items is) (many_items is)
  gather_well form.no_items w a i s r g k n f u h = nothing_well (me w) s
  gather_well (form.plain e is) w a i s r g k n f u h =
      let q = and_parts (is_form a e) (are_items a is) f in
      let v = gen (context (me w) i) s (r + 1) e in
      let p = both v (does (op.AryPush r 1)) in
      let push = push_ready w r (omega (arith, h)) in
      both_well w s p (gather (context (me w) i) (past s p) r is) (cost e + 6) (6 * item_count is + cost_items is)
      (6 * (1 + item_count is) + (cost e + cost_items is)) (many e) (many_items is) (many e + many_items is)
      (then_does (me w) s v (op.AryPush r 1) (cost e) 6 (many e)
      (gen_well e w a i s (r + 1) k n.0 q.0 (omega (arith, h, u.0))) push.serve push.unused push.light)
      (gather_well is w a i (past s p) r g (scene_past w a.loops i s p k) n.1 q.1 u.1 h) (omega arith) refl
  gather_well (form.splat e is) w a i s r g k n f u h =
      let q = and_parts (is_form a e) (are_items a is) f in
      let v = gen (context (me w) i) s (r + 1) e in
      let p = both v (does (op.AryCat r)) in
      let push = two_ready w (op.AryCat r) r refl refl refl refl refl refl (omega arith) (omega (arith, h)) in
      both_well w s p (gather (context (me w) i) (past s p) r is) (cost e + 4) (6 * item_count is + cost_items is)
      (6 * (1 + item_count is) + (cost e + cost_items is)) (many e) (many_items is) (many e + many_items is)
      (then_does (me w) s v (op.AryCat r) (cost e) 4 (many e)
      (gen_well e w a i s (r + 1) k n.0 q.0 (omega (arith, h, u.0))) push.serve push.unused push.light)
      (gather_well is w a i (past s p) r g (scene_past w a.loops i s p k) n.1 q.1 u.1 h) (omega arith) refl

  pairs_well : (ps : Pairs) (w : Site) (a : Around) (i : Inside) (s : Spot) (r g : ℕ) → Scene w a.loops i s.line
      → Noted_pairs w.tally ps → are_pairs a ps ≡ true → Under g (pair_widths ps) → r + 4 + g ≤ w.registers
      → Own (me w) s (gather_pairs (context (me w) i) s r ps) (6 * pair_count ps + cost_pairs ps) (many_pairs ps)
  pairs_well form.no_pairs w a i s r g k n f u h = nothing_well (me w) s
  pairs_well (form.pair e v ps) w a i s r g k n f u h =
      let q = and_parts (is_form a e) (is_form a v && are_pairs a ps) f in
      let q2 = and_parts (is_form a v) (are_pairs a ps) q.1 in
      let p = gen (context (me w) i) s (r + 1) e in
      let two = both p (gen (context (me w) i) (past s p) (r + 1 + 1) v) in
      let all = both two (does (op.HashAdd r 1)) in
      let add = add_ready w r (omega (arith, h)) in
      both_well w s all (gather_pairs (context (me w) i) (past s all) r ps) ((cost e + cost v) + 6)
      (6 * pair_count ps + cost_pairs ps) (6 * (1 + pair_count ps) + (cost e + cost v + cost_pairs ps))
      (many e + many v)
      (many_pairs ps) (many e + many v + many_pairs ps)
      (then_does (me w) s two (op.HashAdd r 1) (cost e + cost v) 6 (many e + many v)
      (chain (me w) s p (gen (context (me w) i) (past s p) (r + 1 + 1) v) (cost e) (cost v) (many e) (many v)
      (gen_well e w a i s (r + 1) k n.0 q.0 (omega (arith, h, u.0)))
      (gen_well v w a i (past s p) (r + 1 + 1) (scene_past w a.loops i s p k) n.1 q2.0 (omega (arith, h, u.0))))
      add.serve add.unused add.light)
      (pairs_well ps w a i (past s all) r g (scene_past w a.loops i s all k) n.2 q2.1 u.1 h) (omega arith) refl

  texts_well : (es : Forms) (w : Site) (a : Around) (i : Inside) (s : Spot) (r g : ℕ) → Scene w a.loops i s.line
      → Noted_all w.tally es → are_forms a es ≡ true → Under g (widths es) → r + 3 + g ≤ w.registers
      → Own (me w) s (gather_text (context (me w) i) s r es) (4 * count es + cost_all es) (many_all es)
  texts_well form.none w a i s r g k n f u h = nothing_well (me w) s
  texts_well (form.more e es) w a i s r g k n f u h =
      let q = and_parts (is_form a e) (are_forms a es) f in
      let v = gen (context (me w) i) s (r + 1) e in
      let p = both v (does (op.StrCat r)) in
      let add = two_ready w (op.StrCat r) r refl refl refl refl refl refl (omega arith) (omega (arith, h)) in
      both_well w s p (gather_text (context (me w) i) (past s p) r es) (cost e + 4) (4 * count es + cost_all es)
      (4 * (1 + count es) + (cost e + cost_all es)) (many e) (many_all es) (many e + many_all es)
      (then_does (me w) s v (op.StrCat r) (cost e) 4 (many e)
      (gen_well e w a i s (r + 1) k n.0 q.0 (omega (arith, h, u.0))) add.serve add.unused add.light)
      (texts_well es w a i (past s p) r g (scene_past w a.loops i s p k) n.1 q.1 u.1 h) (omega arith) refl

  -- forms in turn
  pub turn_forms_well : (es : Forms) (w : Site) (a : Around) (i : Inside) (s : Spot) (r g : ℕ)
      → Scene w a.loops i s.line → Noted_all w.tally es → are_forms a es ≡ true → Under g (widths es)
      → r + g ≤ w.registers → r < w.registers
      → Own (me w) s (in_turn (context (me w) i) s r es) (4 + cost_all es) (many_all es)
  turn_forms_well form.none w a i s r g k n f u h few =
      ready_well w s (op.LoadNil r) 4 (nil_ready w r few)
  turn_forms_well (form.more e es) w a i s r g k n f u h few =
      let q = and_parts (is_form a e) (are_forms a es) f in
      let p = gen (context (me w) i) s r e in
      both_well w s p (others_in_turn (context (me w) i) (past s p) r es) (cost e) (cost_all es)
      (4 + (cost e + cost_all es)) (many e) (many_all es) (many e + many_all es)
      (gen_well e w a i s r k n.0 q.0 (omega (arith, h, u.0)))
      (others_forms_well es w a i (past s p) r g (scene_past w a.loops i s p k) n.1 q.1 u.1 h) (omega arith) refl

  others_forms_well : (es : Forms) (w : Site) (a : Around) (i : Inside) (s : Spot) (r g : ℕ)
      → Scene w a.loops i s.line → Noted_all w.tally es → are_forms a es ≡ true → Under g (widths es)
      → r + g ≤ w.registers → Own (me w) s (others_in_turn (context (me w) i) s r es) (cost_all es) (many_all es)
  others_forms_well form.none w a i s r g k n f u h = nothing_well (me w) s
  others_forms_well (form.more e es) w a i s r g k n f u h =
      let q = and_parts (is_form a e) (are_forms a es) f in
      let p = gen (context (me w) i) s r e in
      chain (me w) s p (others_in_turn (context (me w) i) (past s p) r es) (cost e) (cost_all es) (many e) (many_all es)
      (gen_well e w a i s r k n.0 q.0 (omega (arith, h, u.0)))
      (others_forms_well es w a i (past s p) r g (scene_past w a.loops i s p k) n.1 q.1 u.1 h)

  -- branches, with the code of what is done where no test is true
  choose_well : (bs : Branches) (o : Code) (d z : ℕ) (w : Site) (a : Around) (i : Inside) (s : Spot) (r g : ℕ)
      → Scene w a.loops i s.line → Noted_branches w.tally bs → are_branches a bs ≡ true → Under g (branch_widths bs)
      → r + g ≤ w.registers → r < w.registers
      → ((v : Spot) → s.line ≤ v.line → Own (me w) v (o (context (me w) i) v r) d z)
      → Own (me w) s (choose (context (me w) i) s r bs o) (16 * branch_count bs + cost_branches bs + d)
      (many_branches bs + z)
  choose_well form.no_branches o d z w a i s r g k n f u h few others =
      less w s (o (context (me w) i) s r) d (16 * 0 + 0 + d) z (0 + z) (omega arith) (omega arith)
      (others s (omega arith))
  choose_well (form.branch t b bs) o d z w a i s r g k n f u h few others =
      let c = context (me w) i in
      let q = and_parts (is_form a t) (is_form a b && are_branches a bs) f in
      let q2 = and_parts (is_form a b) (are_branches a bs) q.1 in
      let p = gen c s r t in
      let body = behind (past s p) in
      let v = gen c body r b in
      let next = behind (past body v) in
      let at_body = scene_behind w a.loops i (past s p) (scene_past w a.loops i s p k) in
      let at_next = scene_behind w a.loops i (past body v) (scene_past w a.loops i body v at_body) in
      let after_it : s.line ≤ next.line = simp heights (omega arith) in
      less w s (choose c s r (form.branch t b bs) o)
      (cost t + (8 + (cost b + (6 + (16 * branch_count bs + cost_branches bs + d)))))
      (16 * (1 + branch_count bs) + (cost t + cost b + cost_branches bs) + d)
      (many t + (many b + (many_branches bs + z))) (many t + many b + many_branches bs + z) (omega arith) (omega arith)
      (turn_well (me w) s p v (choose c next r bs o) r (cost t) (cost b) (16 * branch_count bs + cost_branches bs + d)
      (many t) (many b) (many_branches bs + z) few (gen_well t w a i s r k n.0 q.0 (omega (arith, h, u.0)))
      (gen_well b w a i body r at_body n.1 q2.0 (omega (arith, h, u.0)))
      (choose_well bs o d z w a i next r g at_next n.2 q2.1 u.1 h few
      (λ x later. others x (omega (arith, later, after_it)))))

  receiver_well : (e : Receiver) (w : Site) (a : Around) (i : Inside) (s : Spot) (r : ℕ) → Scene w a.loops i s.line
      → Noted_receiver w.tally e → is_receiver a e ≡ true → r + receiver_width e ≤ w.registers
      → Own (me w) s (gen_receiver (context (me w) i) s r e) (cost_receiver e) (many_receiver e)
  receiver_well (form.to e) w a i s r k n f h = gen_well e w a i s r k n f h
  receiver_well form.on_self w a i s r k n f h = nothing_well (me w) s
  receiver_well form.bare w a i s r k n f h = nothing_well (me w) s

  pass_well : (is : Items) (w : Site) (a : Around) (i : Inside) (s : Spot) (r : ℕ) → Scene w a.loops i s.line
      → Noted_items w.tally is → are_items a is ≡ true → InOrder w.registers r (item_widths is)
      → Own (me w) s (pass_in_registers (context (me w) i) s r is) (cost_items is) (many_items is)
  pass_well form.no_items w a i s r k n f h = nothing_well (me w) s
  pass_well (form.plain e is) w a i s r k n f h =
      let q = and_parts (is_form a e) (are_items a is) f in
      let p = gen (context (me w) i) s r e in
      chain (me w) s p (pass_in_registers (context (me w) i) (past s p) (r + 1) is) (cost e) (cost_items is) (many e)
      (many_items is) (gen_well e w a i s r k n.0 q.0 h.0)
      (pass_well is w a i (past s p) (r + 1) (scene_past w a.loops i s p k) n.1 q.1 h.1)
  pass_well (form.splat e is) w a i s r k n f h =
      let q = and_parts (is_form a e) (are_items a is) f in
      let p = gen (context (me w) i) s r e in
      chain (me w) s p (pass_in_registers (context (me w) i) (past s p) (r + 1) is) (cost e) (cost_items is) (many e)
      (many_items is) (gen_well e w a i s r k n.0 q.0 h.0)
      (pass_well is w a i (past s p) (r + 1) (scene_past w a.loops i s p k) n.1 q.1 h.1)

  maybe_well : (o : Maybe) (w : Site) (a : Around) (i : Inside) (s : Spot) (r : ℕ) → Scene w a.loops i s.line
      → Noted_maybe w.tally o → may_be a o ≡ true → Each w.registers r (maybe_widths o)
      → Own (me w) s (gen_maybe (context (me w) i) s r o) (cost_maybe o) (many_maybe o)
  maybe_well form.absent w a i s r k n f h = nothing_well (me w) s
  maybe_well (form.there e) w a i s r k n f h = gen_well e w a i s r k n f h.0

  super_well : (o : Maybe) (w : Site) (a : Around) (i : Inside) (s : Spot) (r : ℕ) → Scene w a.loops i s.line
      → Noted_maybe w.tally o → may_be a o ≡ true → Each w.registers r (maybe_widths o) → r < w.registers
      → Own (me w) s (super_block (context (me w) i) s r o) (20 + cost_maybe o) (many_maybe o)
  super_well form.absent w a i s r k n f h few = own_block_well w s r few
  super_well (form.there e) w a i s r k n f h few =
      less w s (gen (context (me w) i) s r e) (cost e) (20 + cost e) (many e) (many e) (omega arith) refl
      (gen_well e w a i s r k n f h.0)

  scope_well : (o : Maybe) (w : Site) (a : Around) (i : Inside) (s : Spot) (r : ℕ) → Scene w a.loops i s.line
      → Noted_maybe w.tally o → may_be a o ≡ true → r + or_leaf (maybe_widths o) ≤ w.registers
      → Own (me w) s (gen_scope (context (me w) i) s r o) (4 + cost_maybe o) (many_maybe o)
  scope_well form.absent w a i s r k n f h =
      ready_well w s (op.TClass r) 4
      (alone_ready w (op.TClass r) r refl refl refl refl refl refl (omega arith) (omega (arith, h)))
  scope_well (form.there e) w a i s r k n f h =
      less w s (gen (context (me w) i) s r e) (cost e) (4 + cost e) (many e) (many e) (omega arith) refl
      (gen_well e w a i s r k n f h)

  parent_well : (o : Maybe) (w : Site) (a : Around) (i : Inside) (s : Spot) (r : ℕ) → Scene w a.loops i s.line
      → Noted_maybe w.tally o → may_be a o ≡ true → r + or_leaf (maybe_widths o) ≤ w.registers
      → Own (me w) s (gen_parent (context (me w) i) s r o) (4 + cost_maybe o) (many_maybe o)
  parent_well form.absent w a i s r k n f h =
      ready_well w s (op.LoadNil r) 4 (nil_ready w r (omega (arith, h)))
  parent_well (form.there e) w a i s r k n f h =
      less w s (gen (context (me w) i) s r e) (cost e) (4 + cost e) (many e) (many e) (omega arith) refl
      (gen_well e w a i s r k n f h)

  -- clauses, and the classes that they name
  handle_well : (cs : Clauses) (w : Site) (a : Around) (i : Inside) (s : Spot) (r g : ℕ) → Scene w a.loops i s.line
      → Noted_clauses w.tally cs → are_clauses a cs ≡ true → Under g (clause_widths cs) → r + 2 + g ≤ w.registers
      → r + 5 ≤ w.registers
      → Own (me w) s (handle (context (me w) i) s r cs) (4 + 48 * classes cs + cost_clauses cs) (many_clauses cs)
  handle_well form.no_clauses w a i s r g k n f u h few =
      ready_well w s (op.RaiseIf (r + 1)) 4
      (alone_ready w (op.RaiseIf (r + 1)) (r + 1) refl refl refl refl refl refl (omega arith) (omega (arith, few)))
  handle_well (form.clause es t d cs) w a i s r g k n f u h few =
      let c = context (me w) i in
      let f1 = and_parts (are_forms (within_clause a) es) (may_be (within_target a) t
      && (is_form (within_clause a) d && are_clauses a cs)) f in
      let f2 = and_parts (may_be (within_target a) t) (is_form (within_clause a) d && are_clauses a cs) f1.1 in
      let f3 = and_parts (is_form (within_clause a) d) (are_clauses a cs) f2.1 in
      let m = greatest (widths es) in
      let m2 = greatest_of m (maybe_widths t) in
      let least = greatest_least m (maybe_widths t) in
      let tests = test_classes c s r es in
      let taken = behind (past s tests) in
      let p = gen_maybe c taken (r + 2) t in
      let v = both p (gen c (past taken p) r d) in
      let next = behind (past taken v) in
      let at_taken = scene_behind w a.loops i (past s tests) (scene_past w a.loops i s tests k) in
      let at_next = scene_behind w a.loops i (past taken v) (scene_past w a.loops i taken v at_taken) in
      let number = max 1 (count es) in
      less w s (handle c s r (form.clause es t d cs))
      ((14 * number + cost_all es) + (8 + ((cost_maybe t + cost d) + (6 + (4 + 48 * classes cs + cost_clauses cs)))))
      (4 + 48 * (number + classes cs) + (cost_all es + cost_maybe t + cost d + cost_clauses cs))
      (many_all es + ((many_maybe t + many d) + many_clauses cs))
      (many_all es + many_maybe t + many d + many_clauses cs)
      (omega arith) (omega arith)
      (turn_well (me w) s tests v (handle c next r cs) (r + 2) (14 * number + cost_all es) (cost_maybe t + cost d)
      (4 + 48 * classes cs + cost_clauses cs) (many_all es) (many_maybe t + many d) (many_clauses cs)
      (omega (arith, few))
      (classes_well es w (within_clause a) i s r m k n.0 f1.0 (under_greatest 0 (widths es))
      (omega (arith, h, u.0, least)) few)
      (chain (me w) taken p (gen c (past taken p) r d) (cost_maybe t) (cost d) (many_maybe t) (many d)
      (maybe_well t w (within_target a) i taken (r + 2) at_taken n.1 f2.0
      (under_each w.registers (r + 2) m2 (maybe_widths t) (omega (arith, h, u.0)) (under_greatest m (maybe_widths t))))
      (gen_well d w (within_clause a) i (past taken p) r (scene_past w a.loops i taken p at_taken) n.2 f3.0
      (omega (arith, h, u.0))))
      (handle_well cs w a i next r g at_next n.3 f3.1 u.1 h few))

  classes_well : (es : Forms) (w : Site) (a : Around) (i : Inside) (s : Spot) (r g : ℕ) → Scene w a.loops i s.line
      → Noted_all w.tally es → are_forms a es ≡ true → Under g (widths es) → r + 2 + g ≤ w.registers
      → r + 5 ≤ w.registers
      → Own (me w) s (test_classes (context (me w) i) s r es) (14 * max 1 (count es) + cost_all es) (many_all es)
  classes_well form.none w a i s r g k n f u h few =
      let p = does (op.OClass (r + 2) 1) in
      both_well w s p (does (op.Rescue (r + 1) (r + 2))) 6 6 (14 * max 1 0 + 0) 0 0 0
      (ready_well w s (op.OClass (r + 2) 1) 6 (top_ready w (r + 2) 1 (omega (arith, few)) (omega arith)))
      (ready_well w (past s p) (op.Rescue (r + 1) (r + 2)) 6 (rescue_ready w r (omega (arith, few)))) (omega arith) refl
  classes_well (form.more e es) w a i s r g k n f u h few =
      let c = context (me w) i in
      let q = and_parts (is_form a e) (are_forms a es) f in
      let v = gen c s (r + 2) e in
      let rescue = rescue_ready w r (omega (arith, few)) in
      let p = both v (does (op.Rescue (r + 1) (r + 2))) in
      both_well w s p (test_others c (past s p) r es) (cost e + 6) (14 * count es + cost_all es)
      (14 * max 1 (1 + count es) + (cost e + cost_all es)) (many e) (many_all es) (many e + many_all es)
      (then_does (me w) s v (op.Rescue (r + 1) (r + 2)) (cost e) 6 (many e)
      (gen_well e w a i s (r + 2) k n.0 q.0 (omega (arith, h, u.0))) rescue.serve rescue.unused rescue.light)
      (more_classes_well es w a i (past s p) r g (scene_past w a.loops i s p k) n.1 q.1 u.1 h few) (omega arith) refl

  more_classes_well : (es : Forms) (w : Site) (a : Around) (i : Inside) (s : Spot) (r g : ℕ) → Scene w a.loops i s.line
      → Noted_all w.tally es → are_forms a es ≡ true → Under g (widths es) → r + 2 + g ≤ w.registers
      → r + 5 ≤ w.registers
      → Own (me w) s (test_others (context (me w) i) s r es) (14 * count es + cost_all es) (many_all es)
  more_classes_well form.none w a i s r g k n f u h few = nothing_well (me w) s
  more_classes_well (form.more e es) w a i s r g k n f u h few =
      let c = context (me w) i in
      let q = and_parts (is_form a e) (are_forms a es) f in
      let start = behind s in
      let v = gen c start (r + 2) e in
      let rescue = rescue_ready w r (omega (arith, few)) in
      let p = both v (does (op.Rescue (r + 1) (r + 2))) in
      let at_start = scene_behind w a.loops i s k in
      let next : Spot → Piece = λ x. both (both (gen c x (r + 2) e) (does (op.Rescue (r + 1) (r + 2))))
      (test_others c (past x (both (gen c x (r + 2) e) (does (op.Rescue (r + 1) (r + 2))))) r es) in
      less w s (over (held.JumpIf (r + 2)) s next) (8 + ((cost e + 6) + (14 * count es + cost_all es)))
      (14 * (1 + count es) + (cost e + cost_all es)) (many e + many_all es) (many e + many_all es) (omega arith) refl
      (over_well (me w) (held.JumpIf (r + 2)) s next ((cost e + 6) + (14 * count es + cost_all es))
      (many e + many_all es)
      (omega (arith, few))
      (chain (me w) start p (test_others c (past start p) r es) (cost e + 6) (14 * count es + cost_all es) (many e)
      (many_all es)
      (then_does (me w) start v (op.Rescue (r + 1) (r + 2)) (cost e) 6 (many e)
      (gen_well e w a i start (r + 2) at_start n.0 q.0 (omega (arith, h, u.0))) rescue.serve rescue.unused rescue.light)
      (more_classes_well es w a i (past start p) r g (scene_past w a.loops i start p at_start) n.1 q.1 u.1 h few)))

  -- a body, wherever it stands
  pub body_well : (b : Body) (q : BodyKind) (around : Scopes) (m : ℕ)
      → AreShort around → Fits b → Formed q b
      → Coded q around m b
  body_well (form.body p ls e) kind.Main around m each fits formed =
      let w = site kind.Main around p ls e fits each in
      let r = first kind.Main around p ls e fits each in
      let g = gen_well e w formed.around no_inside (first_spot m) r (opened w formed.around.loops (first_spot m)
      formed.loops (omega arith)) fits.1 formed.formed (omega arith) in
      let q = gen (context (me w) no_inside) (first_spot m) r e in
      finish kind.Main around p ls e fits each m q op.Stop (inner_straight kind.Main around p ls e fits each m q refl g)
      (stop_ready w refl) refl refl
  body_well (form.body p ls e) kind.Class around m each fits formed =
      let w = site kind.Class around p ls e fits each in
      let r = first kind.Class around p ls e fits each in
      let g = gen_well e w formed.around no_inside (first_spot m) r (opened w formed.around.loops (first_spot m)
      formed.loops (omega arith)) fits.1 formed.formed (omega arith) in
      let q = gen (context (me w) no_inside) (first_spot m) r e in
      finish kind.Class around p ls e fits each m q (op.Return r)
      (inner_straight kind.Class around p ls e fits each m q refl g) (return_ready w r (omega (arith, width_some e)))
      refl refl
  body_well (form.body p ls e) kind.Method around m each fits formed =
      let w = site kind.Method around p ls e fits each in
      let r = first kind.Method around p ls e fits each in
      let at = behind (first_spot m) in
      let c = context (me w) no_inside in
      let n = length p.optional in
      let scene = opened w formed.around.loops at formed.loops (omega arith) in
      let straight : Code = λ d t l. gen d t l e in
      let jumping : Code = λ d t l. with_jumps d t l (n + 1) e in
      let g = gen_well e w formed.around no_inside at r scene fits.1 formed.formed (omega arith) in
      let j = jumps_well e w formed.around no_inside at r p.optional scene fits.1 formed.formed (omega arith)
      (formed.defaults refl) in
      finish kind.Method around p ls e fits each m (both (does (op.Enter (parameters p)))
      (by_defaults n straight jumping c at r))
      (op.Return r)
      (inner_entered kind.Method around p ls e fits each m (by_defaults n straight jumping c at r) refl
      (defaults_well (me w) n (cost e) (many e) straight jumping c at r (λ z. g) j)
      (defaults_follow (me w) n (cost e) (many e) straight jumping c at r j))
      (return_ready w r (omega (arith, width_some e))) refl refl
  body_well (form.body p ls e) kind.Block around m each fits formed =
      let w = site kind.Block around p ls e fits each in
      let r = first kind.Block around p ls e fits each in
      let at = behind (first_spot m) in
      let c = context (me w) no_inside in
      let n = length p.optional in
      let scene = opened w formed.around.loops at formed.loops (omega arith) in
      let straight : Code = λ d t l. gen d t l e in
      let jumping : Code = λ d t l. with_jumps d t l (n + 1) e in
      let g = gen_well e w formed.around no_inside at r scene fits.1 formed.formed (omega arith) in
      let j = jumps_well e w formed.around no_inside at r p.optional scene fits.1 formed.formed (omega arith)
      (formed.defaults refl) in
      finish kind.Block around p ls e fits each m (both (does (op.Enter (parameters p)))
      (by_defaults n straight jumping c at r))
      (op.Return r)
      (inner_entered kind.Block around p ls e fits each m (by_defaults n straight jumping c at r) refl
      (defaults_well (me w) n (cost e) (many e) straight jumping c at r (λ z. g) j)
      (defaults_follow (me w) n (cost e) (many e) straight jumping c at r j))
      (return_ready w r (omega (arith, width_some e))) refl refl

  -- a form that begins with defaults, with the jumps to them
  jumps_well : (f : CoreForm) (w : Site) (a : Around) (i : Inside) (s : Spot) (r : ℕ) (os : List Local)
      → Scene w a.loops i s.line → Noted w.tally f → is_form a f ≡ true → r + width f ≤ w.registers
      → has_defaults os f ≡ true → 0 < length os
      → Jumping (me w) s (with_jumps (context (me w) i) s r (length os + 1) f) (length os + 1)
      (6 * (length os + 1) + cost f) (many f)
  jumps_well (form.seq es) w a i s r os k n f h d some =
      let room = turn_within w.registers r (widths es) h in
      let to = ahead s (length os + 1) in
      let t = in_turn (context (me w) i) to r es in
      jumping_well (me w) es (context (me w) i) s r (length os + 1) (16 + cost_all es) (many_all es)
      (less w to t (4 + cost_all es) (16 + cost_all es) (many_all es) (many_all es) (omega arith) refl
      (turn_forms_well es w a i to r (greatest (widths es)) (scene_later w a.loops i s.line to.line (omega arith) k)
      n.1 f
      (under_greatest 0 (widths es)) (omega (arith, room.0)) (omega (arith, room.1))))
  jumps_well f w a i s r [] k n t h d some = absurd (omega (arith, some))
  jumps_well f w a i s r (x ∷ os) k n t h d some = absurd (cc)
