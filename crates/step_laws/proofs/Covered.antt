-- The plain forms of a body are covered, wherever they stand in it.
use Rattle.std.proofs.Common.{◌≡◌, ◌≤◌, ◌<◌, ℕ, ◌+◌, List, [], ◌∷◌, ◌++◌, arith, refl, sym, subst, true, false, true≢false}
use Rattle.std.specs.Prelude.{◌&&◌, is_some, Option, Some}
use Rattle.std.proofs.lemmas.List.{append-nil}
use Rattle.rite_code.specs.declared.operation.Operation.TheVariants as op
use Rattle.ir_core.specs.CoreForm as form
use Rattle.ir_core.specs.CoreForm.{Name, Local, CoreForm, Maybe, Forms, Items, Pairs, Branches, Receiver}
use Rattle.ir_core.specs.Program.{Around, within_loop, is_known, is_form, are_forms, are_items, are_pairs, are_branches, is_receiver, is_method, is_class, may_be}
use Rattle.ir_walk.specs.Width.{has_splat, greatest, of_call, width, widths, item_widths, pair_widths, branch_widths, or_leaf, maybe_widths}
use Rattle.ir_counts.specs.declared.tally.Tally.{Tally}
use Rattle.ir_counts.specs.Tables.{item_count}
use Rattle.scope_resolver.specs.declared.body_kind.BodyKind.TheVariants as kind
use Rattle.scope_resolver.specs.Layout.{Slots}
use Rattle.gen_parts.specs.declared.line.Line.TheVariants as line
use Rattle.gen_parts.specs.declared.line.Catch.{Catch}
use Rattle.gen_parts.specs.declared.emitter.Spot.{Spot}
use Rattle.gen_parts.specs.Pieces.{past, behind, puts, does, ◌⊕◌}
use Rattle.gen_forms.specs.declared.context.Loop.{Loop}
use Rattle.gen_forms.specs.Gen.{gen, others_in_turn, choose, gather, gather_pairs, gather_text, pass_in_registers, text_entry, symbol, passing, registers_of, operates, body_code, gen_maybe, gen_scope, gen_parent}
use Rattle.code_laws.proofs.Shares.{Noted, Noted_all, Noted_items, Noted_pairs, Noted_branches, Noted_maybe}
use Rattle.code_laws.proofs.Widths.{Under, InOrder, under_left, under_right, under_greatest, order_within, order_room, into_within, turn_within}
use Rattle.def_eval.specs.Source.{over_body, over_maybe, over_forms, over_items, over_pairs, over_branches, how_many, span, span_maybe}
use Rattle.eval_laws.specs.Standing.{past_receiver, past_items, past_branches, FormStands, FormsStand, ItemsStand, PairsStand, BranchesStand, MaybeStands}
use Rattle.text_set.specs.Sets.{is_among}
use Rattle.step_laws.specs.Site.{Site, guarded_by, within, Room, Named}
use Rattle.step_laws.specs.Passed.{past_arguments}
use Rattle.step_laws.specs.Covers.{past_receiver_code, past_new, past_form, past_choices, past_body, loop_of, Covers, CoversAll, CoversItems, CoversElements, CoversPieces, CoversPairs, CoversBranches, past_scope, CoversMaybe}
use Rattle.step_laws.specs.Plain.{IsPlain, ArePlain, ArePlainItems, ArePlainPairs, ArePlainBranches, IsPlainBlock, IsPlainMaybe}
use Rattle.step_laws.specs.Far.{MayReturn}
use Rattle.step_laws.proofs.Found.{both_true}
use Rattle.step_laws.proofs.Nested.{none_at, then_closed, closed}
use Rattle.step_laws.proofs.Catchless.{none_there, bodies_both, bodies_ends, bodies_of}
use Rattle.step_laws.proofs.Children.{Shapes, Settled, settled_first, settled_then, settled_less, settled_line, settled_behind, settled_from, settled_turn, child_there, block_made}
use Rattle.step_laws.proofs.Passing.{how_passed, few_passed}
use Rattle.step_laws.proofs.Roomy.{first_fits, items_fit, last_room, block_fits, call_cover}
use Rattle.step_laws.proofs.Settling.{call_settled, block_settled, yield_settled, method_settled, class_settled, module_settled, singleton_settled, test_settled, body_settled, super_settled, super_alone_settled}
use Rattle.step_laws.proofs.Covering as tables
use Rattle.step_laws.proofs.Covering.{Has}

-- what stands around forms of a body of which these locals are known: a return stands where one may
abbrev pub IsIn : Site → List Local → Around → Type 0
IsIn h ls a = (a.known ≡ ls) × (a.returns ≡ true → MayReturn h.context.kind_of)

module _ (h : Site) (ss : Slots) (ls : List Local) (t : Tally) (registers : ℕ) (has : Has h ss ls t registers)
    (shapes : Shapes h.source h.program) where
  -- with these entries around a form
  abbrev among : List Catch → Site
  among gs = guarded_by h gs

  has_at : (gs : List Catch) → Has (among gs) ss ls t registers
  has_at gs = record {
    around = has.around;
    scopes = has.scopes;
    held = has.held;
    symbols = has.symbols;
    integers = has.integers;
    texts = has.texts;
    own_symbols = has.own_symbols;
    own_pool = has.own_pool;
    registers = has.registers;
    first = has.first;
    there = has.there;
  }

  room : (gs : List Catch) (r : ℕ) → h.first ≤ r → r < registers → Room (among gs) r
  room gs r low high = tables.room (among gs) ss ls t registers (has_at gs) r low high

  named : (gs : List Catch) (x : Name) → is_among x t.symbols ≡ true → Named (among gs) x
  named gs x e = tables.named (among gs) ss ls t registers (has_at gs) x e

  mutual
    pub cover : (gs : List Catch) (e : CoreForm) (o : Option Loop) (r : ℕ) (s : Spot) (j : ℕ) (a : Around) → IsIn (among gs) ls a → IsPlain e
        → Noted t e → is_form a e ≡ true → h.first ≤ r → r + width e ≤ registers → FormStands h.source a j e
        → Settled (among gs) s j (span e) (gen (within (among gs) o) s r e) → Covers (among gs) o r s j e
    cover gs form.nil o r s j a k is n f low w st y = room gs r low (omega (arith, w))
    cover gs form.truth o r s j a k is n f low w st y = room gs r low (omega (arith, w))
    cover gs form.falsehood o r s j a k is n f low w st y = room gs r low (omega (arith, w))
    cover gs form.self_ref o r s j a k is n f low w st y = room gs r low (omega (arith, w))
    cover gs (form.int z) o r s j a k is n f low w st y = (
      room gs r low (omega (arith, w)),
      tables.pooled (among gs) ss ls t registers (has_at gs) z n.integer,
    )
    cover gs (form.str x) o r s j a k is n f low w st y = (
      room gs r low (omega (arith, w)),
      tables.texted (among gs) ss ls t registers (has_at gs) x n.text,
    )
    cover gs (form.sym x) o r s j a k is n f low w st y = (room gs r low (omega (arith, w)), named gs x n.name)
    cover gs (form.local x) o r s j a k is n f low w st y = (
      room gs r low (omega (arith, w)),
      tables.reaches (among gs) ss ls t registers (has_at gs) x (subst (λ (xs : List Local). is_known x xs ≡ true) k.0 f) n.hidden,
    )
    cover gs (form.own x) o r s j a k is n f low w st y = absurd is
    cover gs form.exception o r s j a k is n f low w st y = absurd is
    cover gs (form.set_local x e) o r s j a k is n f low w st y =
        let both = both_true (is_known x a.known) (is_form a e) f in
        let part = order_within registers r (width e ∷ []) w in (
          cover gs e o r s j a k is n.1 both.1 low part.0 st.1
              (settled_first (among gs) s j (span (form.set_local x e)) (span e) (gen (within (among gs) o) s r e) _ (omega arith) y),
          tables.reaches (among gs) ss ls t registers (has_at gs) x (subst (λ (xs : List Local). is_known x xs ≡ true) k.0 both.0)
              n.0.hidden,
        )
    cover gs (form.ivar x) o r s j a k is n f low w st y = (room gs r low (omega (arith, w)), named gs x n.name)
    cover gs (form.set_ivar x e) o r s j a k is n f low w st y =
        let part = order_within registers r (width e ∷ []) w in
        let some = order_room registers r (width e ∷ []) w in (
          room gs r low (omega (arith, some)),
          cover gs e o r s j a k is n.1 f low part.0 st.1
              (settled_first (among gs) s j (span (form.set_ivar x e)) (span e) (gen (within (among gs) o) s r e) _ (omega arith) y),
          named gs x n.0.name,
        )
    cover gs (form.gvar x) o r s j a k is n f low w st y = (room gs r low (omega (arith, w)), named gs x n.name)
    cover gs (form.set_gvar x e) o r s j a k is n f low w st y =
        let part = order_within registers r (width e ∷ []) w in (
          cover gs e o r s j a k is n.1 f low part.0 st.1
              (settled_first (among gs) s j (span (form.set_gvar x e)) (span e) (gen (within (among gs) o) s r e) _ (omega arith) y),
          named gs x n.0.name,
        )
    cover gs (form.constant x) o r s j a k is n f low w st y = (room gs r low (omega (arith, w)), named gs x n.name)
    cover gs (form.top_constant x) o r s j a k is n f low w st y = (room gs r low (omega (arith, w)), named gs x n.name)
    cover gs (form.in_constant e x) o r s j a k is n f low w st y =
        let part = order_within registers r (width e ∷ []) w in
        let some = order_room registers r (width e ∷ []) w in (
          room gs r low (omega (arith, some)),
          cover gs e o r s j a k is n.1 f low part.0 st.1
              (settled_first (among gs) s j (span (form.in_constant e x)) (span e) (gen (within (among gs) o) s r e) _ (omega arith) y),
          named gs x n.0.name,
        )
    cover gs (form.set_constant x e) o r s j a k is n f low w st y =
        let part = order_within registers r (width e ∷ []) w in
        let some = order_room registers r (width e ∷ []) w in (
          room gs r low (omega (arith, some)),
          cover gs e o r s j a k is n.1 f low part.0 st.1
              (settled_first (among gs) s j (span (form.set_constant x e)) (span e) (gen (within (among gs) o) s r e) _ (omega arith) y),
          named gs x n.0.name,
        )
    cover gs (form.set_in_constant e x v) o r s j a k is n f low w st y =
        let both = both_true (is_form a e) (is_form a v) f in
        let part = order_within registers r (width e ∷ width v ∷ []) w in
        let some = order_room registers r (width e ∷ width v ∷ []) w in
        let p = gen (within (among gs) o) s r e in
        let q = gen (within (among gs) o) (past s p) (r + 1) v in
        let z = settled_first (among gs) s j (span (form.set_in_constant e x v)) (span e + span v) (p ⊕ q) _ (omega arith) y in (
          room gs r low (omega (arith, some)),
          cover gs e o r s j a k is.0 n.1 both.0 low part.0 st.1
              (settled_first (among gs) s j (span e + span v) (span e) p q (omega arith) z),
          cover gs v o (r + 1) (past s p) (j + span e) a k is.1 n.2 both.1 (omega (arith, low)) part.1.0 st.2
              (settled_then (among gs) s j (span e + span v) (span e) (span v) p q (bodies_of e is.0 (within (among gs) o) s r).long
              (closed h.source e is.0 a j st.1) (omega arith) z),
          named gs x n.0.name,
        )
    cover gs (form.array is') o r s j a k is n f low w st y =
        let ws = item_widths is' in
        let part = into_within registers r ws w in (
          room gs r low (omega (arith, part)),
          cover_elements gs is' o r (past s (does (op.Array r 0))) j (greatest ws) a k is n.1 f low (under_greatest 0 ws)
              (omega (arith, part)) st (settled_line (among gs) s j (over_items how_many is') (line.Does (op.Array r 0)) _ y),
        )
    cover gs (form.hash ps) o r s j a k is n f low w st y =
        let ws = pair_widths ps in
        let part = into_within registers r ws w in (
          room gs r low (omega (arith, part)),
          cover_pairs gs ps o r (past s (does (op.Hash r 0))) j (greatest ws) a k is n.1 f low (under_greatest 0 ws)
              (omega (arith, part)) st (settled_line (among gs) s j (over_pairs how_many ps) (line.Does (op.Hash r 0)) _ y),
        )
    cover gs (form.range b c x) o r s j a k is n f low w st y =
        let both = both_true (is_form a b) (is_form a c) f in
        let part = order_within registers r (width b ∷ width c ∷ []) w in
        let some = order_room registers r (width b ∷ width c ∷ []) w in
        let p = gen (within (among gs) o) s r b in
        let q = gen (within (among gs) o) (past s p) (r + 1) c in
        let z = settled_first (among gs) s j (span (form.range b c x)) (span b + span c) (p ⊕ q) _ (omega arith) y in (
          room gs r low (omega (arith, some)),
          cover gs b o r s j a k is.0 n.1 both.0 low part.0 st.0
              (settled_first (among gs) s j (span b + span c) (span b) p q (omega arith) z),
          cover gs c o (r + 1) (past s p) (j + span b) a k is.1 n.2 both.1 (omega (arith, low)) part.1.0 st.1
              (settled_then (among gs) s j (span b + span c) (span b) (span c) p q (bodies_of b is.0 (within (among gs) o) s r).long
              (closed h.source b is.0 a j st.0) (omega arith) z),
        )
    cover gs (form.text es) o r s j a k is n f low w st y =
        let ws = widths es in
        let part = into_within registers r ws w in
        let l = op.String r (text_entry h.context []) in (
          room gs r low (omega (arith, part)),
          tables.texted (among gs) ss ls t registers (has_at gs) [] n.0.text,
          cover_pieces gs es o r (past s (does l)) j (greatest ws) a k is n.1 f low (under_greatest 0 ws)
              (omega (arith, part)) st (settled_line (among gs) s j (over_forms how_many es) (line.Does l) _ y),
        )
    cover gs (form.intern e) o r s j a k is n f low w st y =
        let part = order_within registers r (width e ∷ []) w in
        let some = order_room registers r (width e ∷ []) w in (
          room gs r low (omega (arith, some)),
          cover gs e o r s j a k is n.1 f low part.0 st
              (settled_first (among gs) s j (span (form.intern e)) (span e) (gen (within (among gs) o) s r e) _ (omega arith) y),
        )
    cover gs (form.seq es) o r s j a k is n f low w st y =
        let part = turn_within registers r (widths es) w in (
          room gs r low (omega (arith, part.1)),
          cover_forms gs es o r s j (greatest (widths es)) a k is n.1 f low (under_greatest 0 (widths es))
              (omega (arith, part.0)) st (settled_turn (among gs) (within (among gs) o) s r j (over_forms how_many es) es y),
        )
    cover gs (form.cond bs e) o r s j a k is n f low w st y =
        let ws = branch_widths bs ++ width e ∷ [] in
        let part = turn_within registers r ws w in
        let under = under_greatest 0 ws in
        let last = under_right (greatest ws) (branch_widths bs) (width e ∷ []) under in
        let both = both_true (are_branches a bs) (is_form a e) f in
        let first = cover_branches gs bs e (span e) o r s j (greatest ws) a k is.0 n.1 both.0 low
        (under_left (greatest ws) (branch_widths bs) (width e ∷ []) under) (omega (arith, part.0)) st.0 y in (
          first.0,
          cover gs e o r (past_choices (among gs) o r s bs) (past_branches j bs) a k is.1 n.2 both.1 low
              (omega (arith, part.0, last.0)) st.1 first.1,
        )
    cover gs (form.and_form b c) o r s j a k is n f low w st y =
        let both = both_true (is_form a b) (is_form a c) f in
        let part = order_within registers r (width b ∷ width c ∷ []) w in
        let p = gen (within (among gs) o) s r b in
        let u = past s p in
        let q = gen (within (among gs) o) (behind u) r c in
        let l = line.JumpNot r (past (behind u) q).line in
        let z = settled_then (among gs) s j (span b + span c) (span b) (span c) p (puts l ⊕ q)
        (bodies_of b is.0 (within (among gs) o) s r).long (closed h.source b is.0 a j st.0) (omega arith) y in (
          cover gs b o r s j a k is.0 n.1 both.0 low part.0 st.0
              (settled_first (among gs) s j (span b + span c) (span b) p (puts l ⊕ q) (omega arith) y),
          cover gs c o r (behind u) (j + span b) a k is.1 n.2 both.1 low (omega (arith, part.1.0)) st.1
              (settled_behind (among gs) u (j + span b) (span c) l q z),
        )
    cover gs (form.or_form b c) o r s j a k is n f low w st y =
        let both = both_true (is_form a b) (is_form a c) f in
        let part = order_within registers r (width b ∷ width c ∷ []) w in
        let p = gen (within (among gs) o) s r b in
        let u = past s p in
        let q = gen (within (among gs) o) (behind u) r c in
        let l = line.JumpIf r (past (behind u) q).line in
        let z = settled_then (among gs) s j (span b + span c) (span b) (span c) p (puts l ⊕ q)
        (bodies_of b is.0 (within (among gs) o) s r).long (closed h.source b is.0 a j st.0) (omega arith) y in (
          cover gs b o r s j a k is.0 n.1 both.0 low part.0 st.0
              (settled_first (among gs) s j (span b + span c) (span b) p (puts l ⊕ q) (omega arith) y),
          cover gs c o r (behind u) (j + span b) a k is.1 n.2 both.1 low (omega (arith, part.1.0)) st.1
              (settled_behind (among gs) u (j + span b) (span c) l q z),
        )
    cover gs (form.while_form false b c) o r s j a k is n f low w st y =
        let both = both_true (is_form (within_loop a) b) (is_form (within_loop a) c) f in
        let ws = width b ∷ width c ∷ [] in
        let part = turn_within registers r ws w in
        let under = under_greatest 0 ws in
        let i : Option Loop = Some (loop_of r s) in
        let d = within (among gs) i in
        let z = test_settled (among gs) a s j r b c is.0 st.0 o y in (
          room gs r low (omega (arith, part.1)),
          cover gs b i r (behind (behind s)) j (within_loop a) k is.0 n.1 both.0 low (omega (arith, part.0, under.0)) st.0
              z.0,
          cover gs c i r (behind (past_form (among gs) i r (behind (behind s)) b)) (j + span b) (within_loop a) k is.1 n.2 both.1
              low (omega (arith, part.0, under.1.0)) st.1 z.1,
        )
    cover gs (form.while_form true b c) o r s j a k is n f low w st y =
        let both = both_true (is_form (within_loop a) b) (is_form (within_loop a) c) f in
        let ws = width b ∷ width c ∷ [] in
        let part = turn_within registers r ws w in
        let under = under_greatest 0 ws in
        let i : Option Loop = Some (loop_of r s) in
        let z = body_settled (among gs) a s j r b c is.1 is.2 st.1 o y in (
          room gs r low (omega (arith, part.1)),
          cover gs b i r (past_body (among gs) r s c) j (within_loop a) k is.0 n.1 both.0 low (omega (arith, part.0, under.0)) st.0
              z.0,
          cover gs c i r (behind (behind (behind s))) (j + span b) (within_loop a) k is.1 n.2 both.1 low
              (omega (arith, part.0, under.1.0)) st.1 z.1,
        )
    cover gs (form.call (form.to e) x is' form.absent) o r s j a k is n f low w st y =
        let outer = both_true (is_receiver a (form.to e)) (are_items a is' && true) f in
        let inner = both_true (are_items a is') (true) outer.1 in
        let e' : Receiver = (form.to e) in
        let sp = past_receiver_code (among gs) o r s e' in
        let z = call_settled (among gs) a e' x is' (operates form.absent e' x is' r) o r s j refl (λ d u q. bodies_of e is.0 d u q)
        (closed h.source e is.0 a j st.1) y in
        let c = call_cover (among gs) is' registers r (width e) [] w (room gs) low o sp (past_receiver j e')
        (λ one fit high u. cover_items gs is' o (r + 1) sp (past_receiver j e') a k is.1 n.2 inner.0 high fit one st.2 u)
        (λ i fit wide high u. cover_elements gs is' o (r + 1) (past_new (r + 1) sp) (past_receiver j e') i a k is.1 n.2 inner.0 high
        fit wide st.2 u) z.arguments in (
          c.0,
          cover gs e o r s j a k is.0 n.1 outer.0 low (first_fits (has_splat is') registers r (width e) (item_widths is' ++ []) w) st.1
              z.receiver,
          c.1,
          tables.operator_named (among gs) ss ls t registers (has_at gs) x (operates form.absent e' x is' r) n.0.name,
        )
    cover gs (form.call (form.to e) x is' (form.there b)) o r s j a k is n f low w st y =
        let outer = both_true (is_receiver a (form.to e)) (are_items a is' && is_form a b) f in
        let inner = both_true (are_items a is') (is_form a b) outer.1 in
        let e' : Receiver = (form.to e) in
        let sp = past_receiver_code (among gs) o r s e' in
        let vs = width b ∷ [] in
        let z = block_settled (among gs) a e' x is' b o r s j (λ d u q. bodies_of e is.0 d u q) is.1 (closed h.source e is.0 a j st.1)
        st.2 y in
        let c = call_cover (among gs) is' registers r (width e) vs w (room gs) low o sp (past_receiver j e')
        (λ one fit high u. cover_items gs is' o (r + 1) sp (past_receiver j e') a k is.1 n.2 inner.0 high fit one st.2 u)
        (λ i fit wide high u. cover_elements gs is' o (r + 1) (past_new (r + 1) sp) (past_receiver j e') i a k is.1 n.2 inner.0 high
        fit wide st.2 u) z.called.arguments in (
          c.0,
          cover gs e o r s j a k is.0 n.1 outer.0 low (first_fits (has_splat is') registers r (width e) (item_widths is' ++ vs) w) st.1
              z.called.receiver,
          c.1,
          named gs x n.0.name,
          cover gs b o (r + 1 + registers_of (passing is')) (past_arguments (among gs) o r sp is') (past_items (past_receiver j e') is') a k
              is.3 n.3 inner.1 (omega (arith, low))
              (block_fits is' (passing is') (how_passed is') registers r (width e) (width b) w) st.3 z.block,
          is.2,
        )
    cover gs (form.call form.on_self x is' form.absent) o r s j a k is n f low w st y =
        let outer = both_true (is_receiver a form.on_self) (are_items a is' && true) f in
        let inner = both_true (are_items a is') (true) outer.1 in
        let e' : Receiver = form.on_self in
        let sp = past_receiver_code (among gs) o r s e' in
        let z = call_settled (among gs) a e' x is' (operates form.absent e' x is' r) o r s j refl (λ d u q. none_there)
        (none_at h.source j) y in
        let c = call_cover (among gs) is' registers r 3 [] w (room gs) low o sp (past_receiver j e')
        (λ one fit high u. cover_items gs is' o (r + 1) sp (past_receiver j e') a k is.0 n.2 inner.0 high fit one st.2 u)
        (λ i fit wide high u. cover_elements gs is' o (r + 1) (past_new (r + 1) sp) (past_receiver j e') i a k is.0 n.2 inner.0 high
        fit wide st.2 u) z.arguments in (
          c.0,
          c.1,
          named gs x n.0.name,
        )
    cover gs (form.call form.on_self x is' (form.there b)) o r s j a k is n f low w st y =
        let outer = both_true (is_receiver a form.on_self) (are_items a is' && is_form a b) f in
        let inner = both_true (are_items a is') (is_form a b) outer.1 in
        let e' : Receiver = form.on_self in
        let sp = past_receiver_code (among gs) o r s e' in
        let vs = width b ∷ [] in
        let z = block_settled (among gs) a e' x is' b o r s j (λ d u q. none_there) is.0 (none_at h.source j) st.2 y in
        let c = call_cover (among gs) is' registers r 3 vs w (room gs) low o sp (past_receiver j e')
        (λ one fit high u. cover_items gs is' o (r + 1) sp (past_receiver j e') a k is.0 n.2 inner.0 high fit one st.2 u)
        (λ i fit wide high u. cover_elements gs is' o (r + 1) (past_new (r + 1) sp) (past_receiver j e') i a k is.0 n.2 inner.0 high
        fit wide st.2 u) z.called.arguments in (
          c.0,
          c.1,
          named gs x n.0.name,
          cover gs b o (r + 1 + registers_of (passing is')) (past_arguments (among gs) o r sp is') (past_items (past_receiver j e') is') a k
              is.2 n.3 inner.1 (omega (arith, low))
              (block_fits is' (passing is') (how_passed is') registers r (3) (width b) w) st.3 z.block,
          is.1,
        )
    cover gs (form.call form.bare x form.no_items form.absent) o r s j a k is n f low w st y =
        let some = order_room registers r (3 ∷ []) w in (room gs r low (omega (arith, some)), named gs x n.0.name)
    cover gs (form.call form.bare x form.no_items (form.there b)) o r s j a k is n f low w st y = absurd is
    cover gs (form.call form.bare x (form.plain e is') b) o r s j a k is n f low w st y = absurd is
    cover gs (form.call form.bare x (form.splat e is') b) o r s j a k is n f low w st y = absurd is
    cover gs (form.yield_form is') o r s j a k is n f low w st y =
        let both = both_true (is_some a.method) (are_items a is') f in
        let wide : r + of_call (has_splat is') ((3 ∷ item_widths is') ++ []) ≤ registers =
        subst (λ (ws : List ℕ). r + of_call (has_splat is') ws ≤ registers) (sym (append-nil (3 ∷ item_widths is'))) w in
        let sp = past s (does (op.BlkPush r)) in
        call_cover (among gs) is' registers r 3 [] wide (room gs) low o sp j
        (λ one fit high u. cover_items gs is' o (r + 1) sp j a k is n.1 both.1 high fit one st u)
        (λ i fit wide high u. cover_elements gs is' o (r + 1) (past_new (r + 1) sp) j i a k is n.1 both.1 high fit wide st u)
        (yield_settled (among gs) a is' o r s j y)
    cover gs (form.super_form is' form.absent) o r s j a k is n f low w st y =
        let outer = both_true (is_some a.method) (are_items a is' && true) f in
        let inner = both_true (are_items a is') true outer.1 in
        let few = few_passed is' is.0 in
        let fit = items_fit is' registers r 3 [] w few.0 in
        let z = super_alone_settled (among gs) a is' o r s j few.1 y in
        let last = last_room is' registers r 3 w few.0 in (
          room gs r low (omega (arith, last)),
          is.0,
          cover_items gs is' o (r + 1) s j a k is.1 n.1 inner.0 (omega (arith, low)) fit few.0 st.0 z,
          room gs (r + 1 + item_count is') (omega (arith, low)) (omega (arith, last)),
        )
    cover gs (form.super_form is' (form.there b)) o r s j a k is n f low w st y =
        let outer = both_true (is_some a.method) (are_items a is' && is_form a b) f in
        let inner = both_true (are_items a is') (is_form a b) outer.1 in
        let vs = width b ∷ [] in
        let z = super_settled (among gs) a is' b o r s j is.0 st.0 y in
        let c = call_cover (among gs) is' registers r 3 vs w (room gs) low o s j
        (λ one fit high u. cover_items gs is' o (r + 1) s j a k is.0 n.1 inner.0 high fit one st.0 u)
        (λ i fit wide high u. cover_elements gs is' o (r + 1) (past_new (r + 1) s) j i a k is.0 n.1 inner.0 high fit wide
        st.0 u) z.0 in (
          c.0,
          c.1,
          cover gs b o (r + 1 + registers_of (passing is')) (past_arguments (among gs) o r s is') (past_items j is') a k is.2 n.2 inner.1
              (omega (arith, low)) (block_fits is' (passing is') (how_passed is') registers r 3 (width b) w) st.1 z.1,
          is.1,
        )
    cover gs (form.function (form.body p vs g)) o r s j a k is n f low w st y =
        let z = form.body p vs g in
        block_made (among gs) shapes s r j (op.Block r s.child) (body_code kind.Block h.context.scopes s.body z) p vs g
        (room gs r low (omega (arith, w))) a st y
    cover gs (form.lambda (form.body p vs g)) o r s j a k is n f low w st y =
        let z = form.body p vs g in
        block_made (among gs) shapes s r j (op.Lambda r s.child) (body_code kind.Block h.context.scopes s.body z) p vs g
        (room gs r low (omega (arith, w))) a st y
    cover gs (form.begin_form b form.no_clauses e form.absent) o r s j a k is n f low w st y =
        let ws = (width b ∷ maybe_widths e) ++ [] in
        let part = turn_within registers r ws w in
        let under = under_left (greatest ws) (width b ∷ maybe_widths e) [] (under_greatest 0 ws) in
        let both = both_true (is_form a b) (may_be a e && true) f in
        let p = gen (within (among gs) o) s r b in
        let q = gen_maybe (within (among gs) o) (past s p) r e in
        let i = over_maybe how_many e in (
          cover gs b o r s j a k is.0 n.1 both.0 low (omega (arith, part.0, under.0)) st.0
              (settled_first (among gs) s j (span b + (i + (0 + 0))) (span b) p q (omega arith) y),
          cover_else gs e o r (past s p) (j + span b) (greatest ws) a k is.1 n.3 (both_true (may_be a e) true both.1).0 low
              under.1 (omega (arith, part.0)) st.2
              (settled_then (among gs) s j (span b + (i + (0 + 0))) (span b) i p q (bodies_of b is.0 (within (among gs) o) s r).long
              (closed h.source b is.0 a j st.0) (omega arith) y),
        )
    cover gs (form.begin_form b form.no_clauses e (form.there g)) o r s j a k is n f low w st y = absurd is
    cover gs (form.begin_form b (form.clause es u d cs) e g) o r s j a k is n f low w st y = absurd is
    cover gs (form.return_form e) o r s j a k is n f low w st y =
        let both = both_true a.returns (is_form a e) f in
        let part = order_within registers r (width e ∷ []) w in (
          cover gs e o r s j a k is n.1 both.1 low part.0 st
              (settled_first (among gs) s j (span (form.return_form e)) (span e) (gen (within (among gs) o) s r e) _ (omega arith) y),
          k.1 both.0,
        )
    cover gs (form.break_form e) o r s j a k is n f low w st y =
        let both = both_true a.loops (is_form a e) f in
        let part = order_within registers r (width e ∷ []) w in
        cover gs e o r s j a k is n.1 both.1 low part.0 st
        (settled_first (among gs) s j (span (form.break_form e)) (span e) (gen (within (among gs) o) s r e) _ (omega arith) y)
    cover gs (form.next_form e) o r s j a k is n f low w st y =
        let both = both_true a.loops (is_form a e) f in
        let part = order_within registers r (width e ∷ []) w in
        cover gs e o r s j a k is n.1 both.1 low part.0 st
        (settled_first (among gs) s j (span (form.next_form e)) (span e) (gen (within (among gs) o) s r e) _ (omega arith) y)
    cover gs form.retry o r s j a k is n f low w st y = absurd is
    cover gs (form.define x (form.body p vs g)) o r s j a k is n f low w st y =
        let z = form.body p vs g in
        let u = past s (does (op.TClass r)) in
        let l = op.Def r (symbol h.context x) u.child in
        let v = settled_line (among gs) s j (over_body how_many z) (line.Does (op.TClass r)) _
        (settled_less (among gs) s j (span (form.define x z)) (over_body how_many z) (gen (within (among gs) o) s r (form.define x z))
        (omega arith) y) in
        record {
          room = room gs r low (omega (arith, w));
          named = named gs x n.0.name;
          child = child_there (among gs) u j (over_body how_many z) l (body_code kind.Method h.context.scopes u.body z)
              (omega arith) v;
        }
    cover gs (form.define_on e x (form.body p vs g)) o r s j a k is n f low w st y =
        let z = form.body p vs g in
        let both = both_true (is_form a e) (is_method z) f in
        let part = order_within registers r (width e ∷ 3 ∷ []) w in
        let some = order_room registers r (width e ∷ 3 ∷ []) w in
        let m = method_settled (among gs) a s j r e x p vs g o is.0 st.1 y in (
          room gs r low (omega (arith, some)),
          cover gs e o r s j a k is.0 n.1 both.0 low part.0 st.1 m.0,
          record { named = named gs x n.0.name; child = m.1 },
        )
    cover gs (form.class_form c x p (form.body ps vs g)) o r s j a k is n f low w st y =
        let z = form.body ps vs g in
        let outer = both_true (may_be a c) (may_be a p && is_class z) f in
        let inner = both_true (may_be a p) (is_class z) outer.1 in
        let ws = or_leaf (maybe_widths c) ∷ or_leaf (maybe_widths p) ∷ [] in
        let part = order_within registers r ws w in
        let some = order_room registers r ws w in
        let m = class_settled (among gs) a s j r c x p ps vs g o is.0 is.1 st.1 st.2 y in (
          room gs r low (omega (arith, some)),
          room gs (r + 1) (omega (arith, low)) (omega (arith, some)),
          cover_scope gs c o r s j a k is.0 n.1 outer.0 low part.0 st.1 m.0,
          cover_parent gs p o (r + 1) (past_scope (among gs) o r s c) (j + span_maybe c) a k is.1 n.2 inner.0 (omega (arith, low))
              part.1.0 st.2 m.1,
          named gs x n.0.name,
          record { child = m.2; kind = st.3.2 },
        )
    cover gs (form.module_form c x (form.body ps vs g)) o r s j a k is n f low w st y =
        let both = both_true (may_be a c) (is_class (form.body ps vs g)) f in
        let part = order_within registers r (or_leaf (maybe_widths c) ∷ []) w in
        let some = order_room registers r (or_leaf (maybe_widths c) ∷ []) w in
        let m = module_settled (among gs) a s j r c x ps vs g o is.0 st.1 y in (
          room gs r low (omega (arith, some)),
          cover_scope gs c o r s j a k is.0 n.1 both.0 low part.0 st.1 m.0,
          named gs x n.0.name,
          record { child = m.1; kind = st.2.2 },
        )
    cover gs (form.singleton_class e (form.body ps vs g)) o r s j a k is n f low w st y =
        let both = both_true (is_form a e) (is_class (form.body ps vs g)) f in
        let part = order_within registers r (width e ∷ []) w in
        let some = order_room registers r (width e ∷ []) w in
        let m = singleton_settled (among gs) a s j r e ps vs g o is.0 st.0 y in (
          room gs r low (omega (arith, some)),
          cover gs e o r s j a k is.0 n.1 both.0 low part.0 st.0 m.0,
          record { child = m.1; kind = st.1.2 },
        )
    cover gs (form.alias_form x z) o r s j a k is n f low w st y = (room gs r low (omega (arith, w)), named gs x n.name, named gs z n.old_name)
    cover gs (form.undef_form x) o r s j a k is n f low w st y = (room gs r low (omega (arith, w)), named gs x n.name)
    cover gs (form.defined q x form.absent) o r s j a k is n f low w st y = let some = order_room registers r [] w in
        (room gs r low (omega (arith, some)), tables.asked (among gs) ss ls t registers (has_at gs) q x n.0)
    cover gs (form.defined q x (form.there e)) o r s j a k is n f low w st y =
        let part = order_within registers r (width e ∷ []) w in
        let some = order_room registers r (width e ∷ []) w in (
          room gs r low (omega (arith, some)),
          cover gs e o r s j a k is.0 n.1 f low part.0 st.1
              (settled_first (among gs) s j (span (form.defined q x (form.there e))) (span e) (gen (within (among gs) o) s r e) _
              (omega arith) y),
          tables.asked_of (among gs) ss ls t registers (has_at gs) q x (form.there e) n.0 is.1,
        )
    cover gs (form.item e q) o r s j a k is n f low w st y =
        let part = order_within registers r (width e ∷ []) w in
        let some = order_room registers r (width e ∷ []) w in (
          room gs r low (omega (arith, some)),
          cover gs e o r s j a k is n.1 f low part.0 st
              (settled_first (among gs) s j (span (form.item e q)) (span e) (gen (within (among gs) o) s r e) _ (omega arith) y),
        )
    cover gs (form.rest_of e from post) o r s j a k is n f low w st y =
        let part = order_within registers r (width e ∷ []) w in
        let some = order_room registers r (width e ∷ []) w in (
          room gs r low (omega (arith, some)),
          cover gs e o r s j a k is n.1 f low part.0 st
              (settled_first (among gs) s j (span (form.rest_of e from post)) (span e) (gen (within (among gs) o) s r e) _ (omega arith)
              y),
        )
    cover gs (form.tail_of e from count) o r s j a k is n f low w st y =
        let part = order_within registers r (width e ∷ []) w in
        let some = order_room registers r (width e ∷ []) w in (
          room gs r low (omega (arith, some)),
          cover gs e o r s j a k is.0 n.1 f low part.0 st
              (settled_first (among gs) s j (span (form.tail_of e from count)) (span e) (gen (within (among gs) o) s r e) _ (omega arith)
              y),
          is.1,
        )

    -- the scope of a class, and its parent
    cover_else : (gs : List Catch) (m : Maybe) (o : Option Loop) (r : ℕ) (s : Spot) (j most : ℕ) (a : Around) → IsIn (among gs) ls a → IsPlainBlock m
        → Noted_maybe t m → may_be a m ≡ true → h.first ≤ r → Under most (maybe_widths m) → r + most ≤ registers
        → MaybeStands h.source a j m → Settled (among gs) s j (span_maybe m) (gen_maybe (within (among gs) o) s r m)
        → CoversMaybe (among gs) o r s j m
    cover_else gs form.absent o r s j most a k is n f low under fit st y = tt
    cover_else gs (form.there e) o r s j most a k is n f low under fit st y =
        cover gs e o r s j a k is n f low (omega (arith, fit, under.0)) st y

    cover_scope : (gs : List Catch) (m : Maybe) (o : Option Loop) (r : ℕ) (s : Spot) (j : ℕ) (a : Around) → IsIn (among gs) ls a → IsPlainMaybe m
        → Noted_maybe t m → may_be a m ≡ true → h.first ≤ r → r + or_leaf (maybe_widths m) ≤ registers
        → MaybeStands h.source a j m → Settled (among gs) s j (span_maybe m) (gen_scope (within (among gs) o) s r m)
        → CoversMaybe (among gs) o r s j m
    cover_scope gs form.absent o r s j a k is n f low w st y = tt
    cover_scope gs (form.there e) o r s j a k is n f low w st y = cover gs e o r s j a k is n f low w st y

    cover_parent : (gs : List Catch) (m : Maybe) (o : Option Loop) (r : ℕ) (s : Spot) (j : ℕ) (a : Around) → IsIn (among gs) ls a → IsPlainMaybe m
        → Noted_maybe t m → may_be a m ≡ true → h.first ≤ r → r + or_leaf (maybe_widths m) ≤ registers
        → MaybeStands h.source a j m → Settled (among gs) s j (span_maybe m) (gen_parent (within (among gs) o) s r m)
        → CoversMaybe (among gs) o r s j m
    cover_parent gs form.absent o r s j a k is n f low w st y = tt
    cover_parent gs (form.there e) o r s j a k is n f low w st y = cover gs e o r s j a k is n f low w st y

    cover_forms : (gs : List Catch) (es : Forms) (o : Option Loop) (r : ℕ) (s : Spot) (j g : ℕ) (a : Around) → IsIn (among gs) ls a → ArePlain es
        → Noted_all t es → are_forms a es ≡ true → h.first ≤ r → Under g (widths es) → r + 2 + g ≤ registers
        → FormsStand h.source a j es → Settled (among gs) s j (over_forms how_many es) (others_in_turn (within (among gs) o) s r es)
        → CoversAll (among gs) o r s j es
    cover_forms gs form.none o r s j g a k is n f low u w st y = tt
    cover_forms gs (form.more e es) o r s j g a k is n f low u w st y =
        let both = both_true (is_form a e) (are_forms a es) f in
        let p = gen (within (among gs) o) s r e in
        let q = others_in_turn (within (among gs) o) (past s p) r es in
        let i = over_forms how_many es in (
          cover gs e o r s j a k is.0 n.0 both.0 low (omega (arith, u.0, w)) st.0
              (settled_first (among gs) s j (span e + i) (span e) p q (omega arith) y),
          cover_forms gs es o r (past s p) (j + span e) g a k is.1 n.1 both.1 low u.1 w st.1
              (settled_then (among gs) s j (span e + i) (span e) i p q (bodies_of e is.0 (within (among gs) o) s r).long
              (closed h.source e is.0 a j st.0) (omega arith) y),
        )

    cover_items : (gs : List Catch) (is' : Items) (o : Option Loop) (r : ℕ) (s : Spot) (j : ℕ) (a : Around) → IsIn (among gs) ls a
        → ArePlainItems is' → Noted_items t is' → are_items a is' ≡ true → h.first ≤ r
        → InOrder registers r (item_widths is') → has_splat is' ≡ false → ItemsStand h.source a j is'
        → Settled (among gs) s j (over_items how_many is') (pass_in_registers (within (among gs) o) s r is') → CoversItems (among gs) o r s j is'
    cover_items gs form.no_items o r s j a k is n f low w one st y = tt
    cover_items gs (form.plain e is') o r s j a k is n f low w one st y =
        let both = both_true (is_form a e) (are_items a is') f in
        let p = gen (within (among gs) o) s r e in
        let q = pass_in_registers (within (among gs) o) (past s p) (r + 1) is' in
        let i = over_items how_many is' in (
          cover gs e o r s j a k is.0 n.0 both.0 low w.0 st.0
              (settled_first (among gs) s j (span e + i) (span e) p q (omega arith) y),
          cover_items gs is' o (r + 1) (past s p) (j + span e) a k is.1 n.1 both.1 (omega (arith, low)) w.1 one st.1
              (settled_then (among gs) s j (span e + i) (span e) i p q (bodies_of e is.0 (within (among gs) o) s r).long
              (closed h.source e is.0 a j st.0) (omega arith) y),
        )
    cover_items gs (form.splat e is') o r s j a k is n f low w one st y = absurd (true≢false one)

    cover_elements : (gs : List Catch) (is' : Items) (o : Option Loop) (r : ℕ) (s : Spot) (j g : ℕ) (a : Around) → IsIn (among gs) ls a
        → ArePlainItems is' → Noted_items t is' → are_items a is' ≡ true → h.first ≤ r → Under g (item_widths is')
        → r + 1 + g ≤ registers → ItemsStand h.source a j is'
        → Settled (among gs) s j (over_items how_many is') (gather (within (among gs) o) s r is') → CoversElements (among gs) o r s j is'
    cover_elements gs form.no_items o r s j g a k is n f low u w st y = tt
    cover_elements gs (form.plain e is') o r s j g a k is n f low u w st y =
        let both = both_true (is_form a e) (are_items a is') f in
        let p = gen (within (among gs) o) s (r + 1) e in
        let l = line.Does (op.AryPush r 1) in
        let q = gather (within (among gs) o) (past s (p ⊕ puts l)) r is' in
        let i = over_items how_many is' in (
          cover gs e o (r + 1) s j a k is.0 n.0 both.0 (omega (arith, low)) (omega (arith, u.0, w)) st.0
              (settled_first (among gs) s j (span e) (span e) p (puts l) (omega arith)
              (settled_first (among gs) s j (span e + i) (span e) (p ⊕ puts l) q (omega arith) y)),
          cover_elements gs is' o r (past s (p ⊕ puts l)) (j + span e) g a k is.1 n.1 both.1 low u.1 w st.1
              (settled_then (among gs) s j (span e + i) (span e) i (p ⊕ puts l) q
              (bodies_ends (span e) p l (bodies_of e is.0 (within (among gs) o) s (r + 1))).long
              (closed h.source e is.0 a j st.0) (omega arith) y),
        )
    cover_elements gs (form.splat e is') o r s j g a k is n f low u w st y =
        let both = both_true (is_form a e) (are_items a is') f in
        let p = gen (within (among gs) o) s (r + 1) e in
        let l = line.Does (op.AryCat r) in
        let q = gather (within (among gs) o) (past s (p ⊕ puts l)) r is' in
        let i = over_items how_many is' in (
          cover gs e o (r + 1) s j a k is.0 n.0 both.0 (omega (arith, low)) (omega (arith, u.0, w)) st.0
              (settled_first (among gs) s j (span e) (span e) p (puts l) (omega arith)
              (settled_first (among gs) s j (span e + i) (span e) (p ⊕ puts l) q (omega arith) y)),
          cover_elements gs is' o r (past s (p ⊕ puts l)) (j + span e) g a k is.1 n.1 both.1 low u.1 w st.1
              (settled_then (among gs) s j (span e + i) (span e) i (p ⊕ puts l) q
              (bodies_ends (span e) p l (bodies_of e is.0 (within (among gs) o) s (r + 1))).long
              (closed h.source e is.0 a j st.0) (omega arith) y),
        )

    cover_pieces : (gs : List Catch) (es : Forms) (o : Option Loop) (r : ℕ) (s : Spot) (j g : ℕ) (a : Around) → IsIn (among gs) ls a → ArePlain es
        → Noted_all t es → are_forms a es ≡ true → h.first ≤ r → Under g (widths es) → r + 1 + g ≤ registers
        → FormsStand h.source a j es → Settled (among gs) s j (over_forms how_many es) (gather_text (within (among gs) o) s r es)
        → CoversPieces (among gs) o r s j es
    cover_pieces gs form.none o r s j g a k is n f low u w st y = tt
    cover_pieces gs (form.more e es) o r s j g a k is n f low u w st y =
        let both = both_true (is_form a e) (are_forms a es) f in
        let p = gen (within (among gs) o) s (r + 1) e in
        let l = line.Does (op.StrCat r) in
        let q = gather_text (within (among gs) o) (past s (p ⊕ puts l)) r es in
        let i = over_forms how_many es in (
          cover gs e o (r + 1) s j a k is.0 n.0 both.0 (omega (arith, low)) (omega (arith, u.0, w)) st.0
              (settled_first (among gs) s j (span e) (span e) p (puts l) (omega arith)
              (settled_first (among gs) s j (span e + i) (span e) (p ⊕ puts l) q (omega arith) y)),
          cover_pieces gs es o r (past s (p ⊕ puts l)) (j + span e) g a k is.1 n.1 both.1 low u.1 w st.1
              (settled_then (among gs) s j (span e + i) (span e) i (p ⊕ puts l) q
              (bodies_ends (span e) p l (bodies_of e is.0 (within (among gs) o) s (r + 1))).long
              (closed h.source e is.0 a j st.0) (omega arith) y),
        )

    cover_pairs : (gs : List Catch) (ps : Pairs) (o : Option Loop) (r : ℕ) (s : Spot) (j g : ℕ) (a : Around) → IsIn (among gs) ls a
        → ArePlainPairs ps → Noted_pairs t ps → are_pairs a ps ≡ true → h.first ≤ r → Under g (pair_widths ps)
        → r + 2 + g ≤ registers → PairsStand h.source a j ps
        → Settled (among gs) s j (over_pairs how_many ps) (gather_pairs (within (among gs) o) s r ps) → CoversPairs (among gs) o r s j ps
    cover_pairs gs form.no_pairs o r s j g a k is n f low u w st y = tt
    cover_pairs gs (form.pair b c ps) o r s j g a k is n f low u w st y =
        let first = both_true (is_form a b) (is_form a c && are_pairs a ps) f in
        let second = both_true (is_form a c) (are_pairs a ps) first.1 in
        let d = within (among gs) o in
        let p = gen d s (r + 1) b in
        let q = gen d (past s p) (r + 1 + 1) c in
        let l = line.Does (op.HashAdd r 1) in
        let one = (p ⊕ q) ⊕ puts l in
        let others = gather_pairs d (past s one) r ps in
        let i = over_pairs how_many ps in
        let whole = span b + (span c + i) in
        let two = span b + span c in
        let z = settled_first (among gs) s j two two (p ⊕ q) (puts l) (omega arith)
        (settled_first (among gs) s j whole two one others (omega arith) y) in
        let first_closed = closed h.source b is.0 a j st.0 in
        let xb = bodies_of b is.0 d s (r + 1) in
        let xc = bodies_of c is.1 d (past s p) (r + 1 + 1) in
        let long = (bodies_ends two (p ⊕ q) l (bodies_both (span b) (span c) p q xb xc)).long in
        let both_closed = then_closed h.source j (span b) (span c) first_closed
        (closed h.source c is.1 a (j + span b) st.1) in (
          cover gs b o (r + 1) s j a k is.0 n.0 first.0 (omega (arith, low)) (omega (arith, u.0, w)) st.0
              (settled_first (among gs) s j two (span b) p q (omega arith) z),
          cover gs c o (r + 1 + 1) (past s p) (j + span b) a k is.1 n.1 second.0 (omega (arith, low))
              (omega (arith, u.0, w)) st.1
              (settled_then (among gs) s j two (span b) (span c) p q xb.long first_closed (omega arith) z),
          cover_pairs gs ps o r (past s one) (j + span b + span c) g a k is.2 n.2 second.1 low u.1 w st.2
              (settled_from (among gs) (past s one) (j + two) (j + span b + span c) i others (omega arith)
              (settled_then (among gs) s j whole two i one others long both_closed (omega arith) y)),
        )

    cover_branches : (gs : List Catch) (bs : Branches) (e : CoreForm) (i : ℕ) (o : Option Loop) (r : ℕ) (s : Spot) (j g : ℕ) (a : Around)
        → IsIn (among gs) ls a → ArePlainBranches bs → Noted_branches t bs → are_branches a bs ≡ true → h.first ≤ r
        → Under g (branch_widths bs) → r + 2 + g ≤ registers → BranchesStand h.source a j bs
        → Settled (among gs) s j (over_branches how_many bs + i) (choose (within (among gs) o) s r bs (λ d u q. gen d u q e))
        → CoversBranches (among gs) o r s j bs
        × Settled (among gs) (past_choices (among gs) o r s bs) (past_branches j bs) i (gen (within (among gs) o) (past_choices (among gs) o r s bs) r e)
    cover_branches gs form.no_branches e i o r s j g a k is n f low u w st y =
        (tt, settled_less (among gs) s j (0 + i) i (gen (within (among gs) o) s r e) (omega arith) y)
    cover_branches gs (form.branch b c bs) e i o r s j g a k is n f low u w st y =
        let first = both_true (is_form a b) (is_form a c && are_branches a bs) f in
        let second = both_true (is_form a c) (are_branches a bs) first.1 in
        let d = within (among gs) o in
        let p = gen d s r b in
        let v = behind (past s p) in
        let q = gen d v r c in
        let further = behind (past v q) in
        let others = choose d further r bs (λ z x l. gen z x l e) in
        let skip = line.JumpNot r further.line in
        let leap = line.Jump (past further others).line in
        let m = over_branches how_many bs + i in
        let whole = span b + (span c + over_branches how_many bs) + i in
        let x = settled_behind (among gs) (past s p) (j + span b) (span c + m) skip (q ⊕ puts leap ⊕ others)
        (settled_then (among gs) s j whole (span b) (span c + m) p (puts skip ⊕ q ⊕ puts leap ⊕ others)
        (bodies_of b is.0 d s r).long (closed h.source b is.0 a j st.0) (omega arith) y) in
        let z = settled_behind (among gs) (past v q) (j + span b + span c) m leap others
        (settled_then (among gs) v (j + span b) (span c + m) (span c) m q (puts leap ⊕ others) (bodies_of c is.1 d v r).long
        (closed h.source c is.1 a (j + span b) st.1) (omega arith) x) in
        let rest = cover_branches gs bs e i o r further (j + span b + span c) g a k is.2 n.2 second.1 low u.1 w st.2 z in (
          (
            cover gs b o r s j a k is.0 n.0 first.0 low (omega (arith, u.0, w)) st.0
                (settled_first (among gs) s j whole (span b) p (puts skip ⊕ q ⊕ puts leap ⊕ others) (omega arith) y),
            cover gs c o r v (j + span b) a k is.1 n.1 second.0 low (omega (arith, u.0, w)) st.1
                (settled_first (among gs) v (j + span b) (span c + m) (span c) q (puts leap ⊕ others) (omega arith) x),
            rest.0,
          ),
          rest.1,
        )
