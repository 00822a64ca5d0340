-- The bodies that the code of a plain form makes are those of its source, number by number.
use Rattle.std.proofs.Common.{◌≡◌, ℕ, ◌+◌, List, [], ◌∷◌, ◌++◌, arith, refl, sym, ap, ◌∙◌, subst, append_assoc, true, false}
use Rattle.std.specs.Prelude.{pos, neg_ℤ, ◌&&◌, is_some}
use Rattle.std.proofs.lemmas.List.{append-nil}
use Rattle.rb_syntax.specs.declared.core_form.DefinedKind.{DefinedKind}
use Rattle.rite_code.specs.declared.operation.Operation.TheVariants as op
use Rattle.ir_core.specs.CoreForm as form
use Rattle.ir_core.specs.CoreForm.{Name, CoreForm, Body, Maybe, Forms, Items, Pairs, Branches, Receiver}
use Rattle.ir_core.specs.Program as program
use Rattle.ir_core.specs.Program.{within_loop, is_known, is_form, is_method, is_class, may_be, are_forms, are_items, are_pairs, are_branches, is_receiver}
use Rattle.ir_counts.specs.declared.tally.Tally.{Tally}
use Rattle.scope_resolver.specs.declared.body_kind.BodyKind.TheVariants as kind
use Rattle.scope_resolver.specs.Layout.{place_of}
use Rattle.gen_parts.specs.declared.line.Line.TheVariants as line
use Rattle.gen_parts.specs.declared.emitter.Spot.{Spot}
use Rattle.gen_parts.specs.declared.emitter.Held.TheVariants as held
use Rattle.gen_parts.specs.Pieces.{Piece, past, behind, puts, makes, does, jump, jump_not, ◌⊕◌}
use Rattle.gen_forms.specs.Gen as code
use Rattle.gen_forms.specs.Gen.{Context, Code, write, in_loop, gen, others_in_turn, choose, gather, gather_pairs, gather_text, pass_in_registers, gen_receiver, gen_maybe, gen_scope, gen_parent, passing, passed_by, own_block, count_operand, registers_of, operates, send, is_given, symbol, loop, range_by, return_by, text_entry, ask, told, body_code}
use Rattle.code_laws.proofs.Shares.{Noted_maybe, Noted_all, Noted_items, Noted_pairs, Noted_branches}
use Rattle.def_eval.specs.Source.{Source, over, over_maybe, over_forms, over_items, over_pairs, over_branches, over_asked, how_many, in_order, span}
use Rattle.eval_laws.specs.Kinds.{Kind, of_method, of_class, kinds, kinds_maybe, kinds_forms, kinds_items, kinds_pairs, kinds_branches}
use Rattle.eval_laws.specs.Standing.{FormStands, MaybeStands, FormsStand, ItemsStand, PairsStand, BranchesStand, ClassStands}
use Rattle.eval_laws.proofs.Sizes.{size, nothing_asked}
use Rattle.step_laws.specs.Plain.{IsPlain, IsPlainBlock, ArePlain, ArePlainItems, ArePlainPairs, ArePlainBranches, IsPlainMaybe}
use Rattle.step_laws.proofs.Found.{both_true}
use Rattle.step_laws.proofs.Spans.{none_asked, behind_items, behind_branches}
use Rattle.step_laws.proofs.Nested.{none_at, closed, closed_items, closed_branches, closed_maybe}
use Rattle.step_laws.proofs.Catchless.{bodies_both, bodies_moved, none_there, bodies_ends, own_bodies, passed_bodies, bodies_of, bodies_in_items, bodies_in_elements, bodies_in_scope, bodies_in_parent}
use Rattle.step_laws.proofs.Inner.{FormWritten, block_written, method_written}
use Rattle.step_laws.proofs.ClassWritten.{class_written}
use Rattle.step_laws.proofs.Written.{Ready, ready_first, ready_past, ready_in_loop, next_body, line_body, behind_body, Writes, WritesBy, written_as, none_by, none_in_nothing, written_both, written_ends, written_begins, opener_written, over_written, passed_written, called_written, none_left, none_written, break_written, next_written, test_written, body_written, turn_written, element_written}

pub none_asked_of : (q : DefinedKind) (x : Name) → over_asked in_order q x ≡ []
none_asked_of q x = none_left (over_asked in_order q x) ((nothing_asked q x).bodies ∙ none_asked q x)

-- a literal that isn't there
unblocked : (m : Maybe) (e : Receiver) (x : Name) (is : Items) (r : ℕ) → is_some (operates m e x is r) ≡ true
    → (kinds_maybe m ≡ []) × (over_maybe in_order m ≡ [])
unblocked form.absent e x is r some = (refl, refl)
unblocked (form.there b) e x is r some = absurd (cc some)

module _ (src : Source) where
  mutual
    pub written : (e : CoreForm) → IsPlain e → FormWritten src e
    written form.nil is t a n c w f st y s r at = none_by src n (line.Does (op.LoadNil r))
    written form.truth is t a n c w f st y s r at = none_by src n (line.Does (op.LoadT r))
    written form.falsehood is t a n c w f st y s r at = none_by src n (line.Does (op.LoadF r))
    written form.self_ref is t a n c w f st y s r at = none_by src n (line.Does (op.LoadSelf r))
    written (form.int z) is t a n c w f st y s r at = none_by src n _
    written (form.str x) is t a n c w f st y s r at = none_by src n _
    written (form.sym x) is t a n c w f st y s r at = none_by src n _
    written (form.local x) is t a n c w f st y s r at = none_by src n _
    written (form.own x) is t a n c w f st y s r at = absurd is
    written form.exception is t a n c w f st y s r at = absurd is
    written (form.set_local x e) is t a n c w f st y s r at =
        written_ends src n (kinds e) (over in_order e) (gen c s r e) (line.Does (write r (place_of c.scopes x)))
        (written e is t a n c w.1 (both_true (is_known x a.known) (is_form a e) f).1 st.1
        (ready_first src a c.scopes n (span (form.set_local x e)) (span e) (omega arith) y) s r at)
    written (form.ivar x) is t a n c w f st y s r at = none_by src n _
    written (form.set_ivar x e) is t a n c w f st y s r at =
        written_ends src n (kinds e) (over in_order e) (gen c s r e) (line.Does (op.SetIv r (symbol c x)))
        (written e is t a n c w.1 f st.1 (ready_first src a c.scopes n (span (form.set_ivar x e)) (span e)
        (omega arith) y) s r at)
    written (form.gvar x) is t a n c w f st y s r at = none_by src n _
    written (form.set_gvar x e) is t a n c w f st y s r at =
        written_ends src n (kinds e) (over in_order e) (gen c s r e) (line.Does (op.SetGv r (symbol c x)))
        (written e is t a n c w.1 f st.1 (ready_first src a c.scopes n (span (form.set_gvar x e)) (span e)
        (omega arith) y) s r at)
    written (form.constant x) is t a n c w f st y s r at = none_by src n _
    written (form.top_constant x) is t a n c w f st y s r at =
        written_ends src n [] [] (does (op.OClass r 0)) (line.Does (op.GetMCnst r (symbol c x))) (none_by src n _)
    written (form.in_constant e x) is t a n c w f st y s r at =
        written_ends src n (kinds e) (over in_order e) (gen c s r e) (line.Does (op.GetMCnst r (symbol c x)))
        (written e is t a n c w.1 f st.1 (ready_first src a c.scopes n (span (form.in_constant e x)) (span e)
        (omega arith) y) s r at)
    written (form.set_constant x e) is t a n c w f st y s r at =
        written_ends src n (kinds e) (over in_order e) (gen c s r e) (line.Does (op.SetConst r (symbol c x)))
        (written e is t a n c w.1 f st.1 (ready_first src a c.scopes n (span (form.set_constant x e)) (span e)
        (omega arith) y) s r at)
    written (form.set_in_constant e x v) is t a n c w f st y s r at =
        let parts = both_true (is_form a e) (is_form a v) f in
        let p = gen c s r e in
        let q = gen c (past s p) (r + 1) v in
        written_ends src n (kinds e ++ kinds v) (over in_order e ++ over in_order v) (p ⊕ q)
        (line.Does (op.SetMCnst r (symbol c x)))
        (written_both src n (span e) (kinds e) (kinds v) (over in_order e) (over in_order v) p q
        (written e is.0 t a n c w.1 parts.0 st.1 (ready_first src a c.scopes n (span (form.set_in_constant e x v))
        (span e) (omega arith) y) s r at) (bodies_of e is.0 c s r).long
        (written v is.1 t a (n + span e) c w.2 parts.1 st.2
        (ready_past src a c.scopes n (span (form.set_in_constant e x v)) (span e) (span v) (omega arith)
        (closed src e is.0 a n st.1) y) (past s p) (r + 1)
        (next_body s p n (span e) at (bodies_of e is.0 c s r).long)))
    written (form.array is') is t a n c w f st y s r at =
        let p = does (op.Array r 0) in
        written_begins src n (kinds_items is') (over_items in_order is') (line.Does (op.Array r 0))
        (gather c (past s p) r is')
        (elements_written is' is t a n c w.1 f st y (past s p) r (line_body s (line.Does (op.Array r 0)) n at))
    written (form.hash ps) is t a n c w f st y s r at =
        let p = does (op.Hash r 0) in
        written_begins src n (kinds_pairs ps) (over_pairs in_order ps) (line.Does (op.Hash r 0))
        (gather_pairs c (past s p) r ps)
        (pairs_written ps is t a n c w.1 f st y (past s p) r (line_body s (line.Does (op.Hash r 0)) n at))
    written (form.range b d x) is t a n c w f st y s r at =
        let parts = both_true (is_form a b) (is_form a d) f in
        let p = gen c s r b in
        let q = gen c (past s p) (r + 1) d in
        written_ends src n (kinds b ++ kinds d) (over in_order b ++ over in_order d) (p ⊕ q) (line.Does (range_by x r))
        (written_both src n (span b) (kinds b) (kinds d) (over in_order b) (over in_order d) p q
        (written b is.0 t a n c w.1 parts.0 st.0 (ready_first src a c.scopes n (span (form.range b d x)) (span b)
        (omega arith) y) s r at) (bodies_of b is.0 c s r).long
        (written d is.1 t a (n + span b) c w.2 parts.1 st.1
        (ready_past src a c.scopes n (span (form.range b d x)) (span b) (span d) (omega arith)
        (closed src b is.0 a n st.0) y) (past s p) (r + 1)
        (next_body s p n (span b) at (bodies_of b is.0 c s r).long)))
    written (form.text es) is t a n c w f st y s r at =
        let p = does (op.String r (text_entry c [])) in
        written_begins src n (kinds_forms es) (over_forms in_order es) (line.Does (op.String r (text_entry c [])))
        (gather_text c (past s p) r es)
        (pieces_written es is t a n c w.1 f st y (past s p) r (line_body s (line.Does (op.String r (text_entry c [])))
        n at))
    written (form.intern e) is t a n c w f st y s r at =
        written_ends src n (kinds e) (over in_order e) (gen c s r e) (line.Does (op.Intern r))
        (written e is t a n c w.1 f st (ready_first src a c.scopes n (span (form.intern e)) (span e) (omega arith) y) s
        r at)
    written (form.seq es) is t a n c w f st y s r at =
        turn_written src n (kinds_forms es) (over_forms in_order es) es c s r
        (others_written es is t a n c w.1 f st y s r at)
    written (form.cond bs o) is t a n c w f st y s r at =
        let parts = both_true (are_branches a bs) (is_form a o) f in
        let i = over_branches how_many bs in
        let same = behind_branches n bs in
        chosen_written bs (λ d u j. gen d u j o) (kinds o) (over in_order o) (span o) is.0 t a n c w.1 parts.0 st.0 y
        (λ u j h. written o is.1 t a (n + i) c w.2 parts.1
        (subst (λ (k : ℕ). FormStands src a k o) same st.1)
        (ready_past src a c.scopes n (span (form.cond bs o)) i (span o) (omega arith)
        (closed_branches src bs is.0 a n st.0) y) u j h)
        s r at
    written (form.and_form b d) is t a n c w f st y s r at =
        let parts = both_true (is_form a b) (is_form a d) f in
        let p = gen c s r b in
        let next : Spot → Piece = λ u. gen c u r d in
        written_both src n (span b) (kinds b) (kinds d) (over in_order b) (over in_order d) p
        (code.over (held.JumpNot r) (past s p) next) (written b is.0 t a n c w.1 parts.0 st.0
        (ready_first src a c.scopes n (span (form.and_form b d)) (span b) (omega arith) y) s r at)
        (bodies_of b is.0 c s r).long
        (over_written src (n + span b) (kinds d) (over in_order d) (held.JumpNot r) (past s p) next
        (λ u h. written d is.1 t a (n + span b) c w.2 parts.1 st.1
        (ready_past src a c.scopes n (span (form.and_form b d)) (span b) (span d) (omega arith)
        (closed src b is.0 a n st.0) y) u r h)
        (next_body s p n (span b) at (bodies_of b is.0 c s r).long))
    written (form.or_form b d) is t a n c w f st y s r at =
        let parts = both_true (is_form a b) (is_form a d) f in
        let p = gen c s r b in
        let next : Spot → Piece = λ u. gen c u r d in
        written_both src n (span b) (kinds b) (kinds d) (over in_order b) (over in_order d) p
        (code.over (held.JumpIf r) (past s p) next) (written b is.0 t a n c w.1 parts.0 st.0
        (ready_first src a c.scopes n (span (form.or_form b d)) (span b) (omega arith) y) s r at)
        (bodies_of b is.0 c s r).long
        (over_written src (n + span b) (kinds d) (over in_order d) (held.JumpIf r) (past s p) next
        (λ u h. written d is.1 t a (n + span b) c w.2 parts.1 st.1
        (ready_past src a c.scopes n (span (form.or_form b d)) (span b) (span d) (omega arith)
        (closed src b is.0 a n st.0) y) u r h)
        (next_body s p n (span b) at (bodies_of b is.0 c s r).long))
    written (form.while_form false b d) is t a n c w f st y s r at =
        let parts = both_true (is_form (within_loop a) b) (is_form (within_loop a) d) f in
        let z = ready_in_loop src a c.scopes n (span (form.while_form false b d)) y in
        test_written src c n (span b) (kinds b) (kinds d) (over in_order b) (over in_order d) (λ e u j. gen e u j b)
        (λ e u j. gen e u j d) (bodies_of b is.0)
        (λ l u j h. written b is.0 t (within_loop a) n (in_loop c l) w.1 parts.0 st.0
        (ready_first src (within_loop a) c.scopes n (span (form.while_form false b d)) (span b) (omega arith) z) u j h)
        (λ l u j h. written d is.1 t (within_loop a) (n + span b) (in_loop c l) w.2 parts.1 st.1
        (ready_past src (within_loop a) c.scopes n (span (form.while_form false b d)) (span b) (span d) (omega arith)
        (closed src b is.0 (within_loop a) n st.0) z) u j h) s r at
    written (form.while_form true b d) is t a n c w f st y s r at =
        let parts = both_true (is_form (within_loop a) b) (is_form (within_loop a) d) f in
        let none = is.2 in
        let sized = size b in
        let same : n + span b ≡ n = omega (arith, none) in
        let z = ready_in_loop src a c.scopes n (span (form.while_form true b d)) y in
        written_as src n (kinds d) (kinds b ++ kinds d) (over in_order d) (over in_order b ++ over in_order d)
        (loop true (λ e u j. gen e u j b) (λ e u j. gen e u j d) c s r)
        (ap (λ (ks : List Kind). ks ++ kinds d) (sym (none_left (kinds b) (sized.kinds ∙ none))))
        (ap (λ (bs : List Body). bs ++ over in_order d) (sym (none_left (over in_order b) (sized.bodies ∙ none))))
        (body_written src c n (kinds d) (over in_order d) (λ e u j. gen e u j b) (λ e u j. gen e u j d)
        (λ e u j. bodies_moved (span b) 0 (gen e u j b) none (bodies_of b is.0 e u j))
        (λ l u j h. written d is.1 t (within_loop a) n (in_loop c l) w.2 parts.1
        (subst (λ (k : ℕ). FormStands src (within_loop a) k d) same st.1)
        (ready_first src (within_loop a) c.scopes n (span (form.while_form true b d)) (span d) (omega arith) z) u j h)
        s r at)
    written (form.call (form.to e) x is' m) is t a n c w f st y s r at =
        let each : Code = λ d u j. pass_in_registers d u j is' in
        let spread : Code = λ d u j. gather d u j is' in
        let whole = span (form.call (form.to e) x is' m) in
        let k = over_items how_many is' in
        let l = over_maybe how_many m in
        let outer = both_true (is_receiver a (form.to e)) (are_items a is' && may_be a m) f in
        let inner = both_true (are_items a is') (may_be a m) outer.1 in
        let sti : ItemsStand src a (n + (span e)) is' = st.2 in
        let closed_first = closed src e is.0 a n st.1 in
        let z = ready_past src a c.scopes n whole (span e) (k + l) (omega arith) closed_first y in
        let at_items = ready_first src a c.scopes (n + (span e)) (k + l) k (omega arith) z in
        let at_block = ready_past src a c.scopes (n + (span e)) (k + l) k l (omega arith)
        (closed_items src is' is.1 a (n + (span e)) sti) z in
        let stb : MaybeStands src a (n + (span e) + k) m =
        subst (λ (q : ℕ). MaybeStands src a q m) (behind_items (n + span e) is') st.3 in
        called_written src c n (kinds e) (kinds_items is') (kinds_maybe m) (over in_order e) (over_items in_order is')
        (over_maybe in_order m)
        (λ d u j. gen_receiver d u j (form.to e)) each (passed_by (passing is') each spread)
        (λ d u j. gen_maybe d u j m)
        (operates m (form.to e) x is' r) (registers_of (passing is')) (send (is_given m) (form.to e) (passing is') r
        (symbol c x)) (record {
          i = (span e);
          k = k;
          first = λ d u j. bodies_of e is.0 d u j;
          items = bodies_in_items is' is.1;
          passes = passed_bodies k (passing is') each spread (bodies_in_items is' is.1)
              (bodies_in_elements is' is.1);
          receiver_written = λ u j h. written e is.0 t a n c w.1 outer.0 st.1
              (ready_first src a c.scopes n whole (span e) (omega arith) y) u j h;
          items_written = items_written is' is.1 t a (n + (span e)) c w.2 inner.0 sti at_items;
          passes_written = passed_written src c (n + (span e)) (kinds_items is') (over_items in_order is')
              (passing is') each spread
              (items_written is' is.1 t a (n + (span e)) c w.2 inner.0 sti at_items)
              (elements_written is' is.1 t a (n + (span e)) c w.2 inner.0 sti at_items);
          block_written = block_given m is.3 t a (n + (span e) + k) c w.3 inner.1 stb at_block;
        }) (unblocked m (form.to e) x is' r) s r at
    written (form.call form.on_self x is' m) is t a n c w f st y s r at =
        let each : Code = λ d u j. pass_in_registers d u j is' in
        let spread : Code = λ d u j. gather d u j is' in
        let whole = span (form.call form.on_self x is' m) in
        let k = over_items how_many is' in
        let l = over_maybe how_many m in
        let outer = both_true (is_receiver a form.on_self) (are_items a is' && may_be a m) f in
        let inner = both_true (are_items a is') (may_be a m) outer.1 in
        let sti : ItemsStand src a (n + 0) is' = subst (λ (q : ℕ). ItemsStand src a q is') (omega arith) st.2 in
        let closed_first = none_at src n in
        let z = ready_past src a c.scopes n whole 0 (k + l) (omega arith) closed_first y in
        let at_items = ready_first src a c.scopes (n + 0) (k + l) k (omega arith) z in
        let at_block = ready_past src a c.scopes (n + 0) (k + l) k l (omega arith)
        (closed_items src is' is.0 a (n + 0) sti) z in
        let stb : MaybeStands src a (n + 0 + k) m =
        subst (λ (q : ℕ). MaybeStands src a q m) (behind_items n is' ∙ omega arith) st.3 in
        called_written src c n [] (kinds_items is') (kinds_maybe m) [] (over_items in_order is') (over_maybe in_order m)
        (λ d u j. gen_receiver d u j form.on_self) each (passed_by (passing is') each spread)
        (λ d u j. gen_maybe d u j m)
        (operates m form.on_self x is' r) (registers_of (passing is')) (send (is_given m) form.on_self (passing is') r
        (symbol c x)) (record {
          i = 0;
          k = k;
          first = λ d u j. none_there;
          items = bodies_in_items is' is.0;
          passes = passed_bodies k (passing is') each spread (bodies_in_items is' is.0)
              (bodies_in_elements is' is.0);
          receiver_written = λ u j h. none_in_nothing src n;
          items_written = items_written is' is.0 t a (n + 0) c w.2 inner.0 sti at_items;
          passes_written = passed_written src c (n + 0) (kinds_items is') (over_items in_order is') (passing is') each
              spread
              (items_written is' is.0 t a (n + 0) c w.2 inner.0 sti at_items)
              (elements_written is' is.0 t a (n + 0) c w.2 inner.0 sti at_items);
          block_written = block_given m is.2 t a (n + 0 + k) c w.3 inner.1 stb at_block;
        }) (unblocked m form.on_self x is' r) s r at
    written (form.call form.bare x form.no_items form.absent) is t a n c w f st y s r at =
        none_written src n (gen c s r (form.call form.bare x form.no_items form.absent))
        (bodies_of (form.call form.bare x form.no_items form.absent) is c s r)
    written (form.call form.bare x form.no_items (form.there b)) is t a n c w f st y s r at = absurd is
    written (form.call form.bare x (form.plain e is') b) is t a n c w f st y s r at = absurd is
    written (form.call form.bare x (form.splat e is') b) is t a n c w f st y s r at = absurd is
    written (form.yield_form is') is t a n c w f st y s r at =
        let each : Code = λ d u j. pass_in_registers d u j is' in
        let spread : Code = λ d u j. gather d u j is' in
        let parts = both_true (is_some a.method) (are_items a is') f in
        let p = does (op.BlkPush r) in
        let o = op.Call r (count_operand (passing is')) in
        let q = passed_by (passing is') each spread c (past s p) r in
        let ks = kinds_items is' in
        let bs = over_items in_order is' in
        written_begins src n ks bs (line.Does (op.BlkPush r)) (q ⊕ does o)
        (written_ends src n ks bs q (line.Does o)
        (passed_written src c n ks bs (passing is') each spread (items_written is' is t a n c w.1 parts.1 st y)
        (elements_written is' is t a n c w.1 parts.1 st y) (past s p) r
        (line_body s (line.Does (op.BlkPush r)) n at)))
    written (form.super_form is' form.absent) is t a n c w f st y s r at =
        let each : Code = λ d u j. pass_in_registers d u j is' in
        let spread : Code = λ d u j. gather d u j is' in
        let outer = both_true (is_some a.method) (are_items a is' && true) f in
        let inner = both_true (are_items a is') true outer.1 in
        let k = over_items how_many is' in
        let p = passed_by (passing is') each spread c s r in
        let o = op.Super r (count_operand (passing is')) in
        let q = own_block (past s p) (r + 1 + registers_of (passing is')) in
        let long = (passed_bodies k (passing is') each spread (bodies_in_items is' is.1) (bodies_in_elements is' is.1) c s
        r).long in
        let at_items = ready_first src a c.scopes n (k + 0) k (omega arith) y in
        written_both src n k (kinds_items is') [] (over_items in_order is') [] p (q ⊕ does o)
        (passed_written src c n (kinds_items is') (over_items in_order is') (passing is') each spread
        (items_written is' is.1 t a n c w.1 inner.0 st.0 at_items) (elements_written is' is.1 t a n c w.1 inner.0 st.0 at_items)
        s r at) long
        (none_written src (n + k) (q ⊕ does o) (bodies_ends 0 q (line.Does o) (own_bodies (past s p)
        (r + 1 + registers_of (passing is')))))
    written (form.super_form is' (form.there b)) is t a n c w f st y s r at =
        let each : Code = λ d u j. pass_in_registers d u j is' in
        let spread : Code = λ d u j. gather d u j is' in
        let outer = both_true (is_some a.method) (are_items a is' && is_form a b) f in
        let inner = both_true (are_items a is') (is_form a b) outer.1 in
        let k = over_items how_many is' in
        let l = span b in
        let p = passed_by (passing is') each spread c s r in
        let o = op.Super r (count_operand (passing is')) in
        let q = gen c (past s p) (r + 1 + registers_of (passing is')) b in
        let long = (passed_bodies k (passing is') each spread (bodies_in_items is' is.0) (bodies_in_elements is' is.0) c s
        r).long in
        let at_items = ready_first src a c.scopes n (k + l) k (omega arith) y in
        let at_block = ready_past src a c.scopes n (k + l) k l (omega arith) (closed_items src is' is.0 a n st.0) y in
        written_both src n k (kinds_items is') (kinds b) (over_items in_order is') (over in_order b) p (q ⊕ does o)
        (passed_written src c n (kinds_items is') (over_items in_order is') (passing is') each spread
        (items_written is' is.0 t a n c w.1 inner.0 st.0 at_items) (elements_written is' is.0 t a n c w.1 inner.0 st.0 at_items)
        s r at) long
        (written_ends src (n + k) (kinds b) (over in_order b) q (line.Does o)
        (written b is.2 t a (n + k) c w.2 inner.1
        (subst (λ (i : ℕ). FormStands src a i b) (behind_items n is') st.1) at_block (past s p)
        (r + 1 + registers_of (passing is')) (next_body s p n k at long)))
    written (form.function (form.body p ls g)) is t a n c w f st y s r at =
        block_written src (op.Block r s.child) s.body c.scopes n p ls g is.0 is.1
        (λ t' a' n' c' w' f' st' y' s' r' at'. written g is.1 t' a' n' c' w' f' st' y' s' r' at') a w.1 f st y at
    written (form.lambda (form.body p ls g)) is t a n c w f st y s r at =
        block_written src (op.Lambda r s.child) s.body c.scopes n p ls g is.0 is.1
        (λ t' a' n' c' w' f' st' y' s' r' at'. written g is.1 t' a' n' c' w' f' st' y' s' r' at') a w.1 f st y at
    written (form.begin_form b form.no_clauses o form.absent) is t a n c w f st y s r at =
        let parts = both_true (is_form a b) (may_be a o && true) f in
        let k = over_maybe how_many o in
        let p = gen c s r b in
        let q = gen_maybe c (past s p) r o in
        let long = (bodies_of b is.0 c s r).long in
        written_as src n (kinds b ++ kinds_maybe o) (kinds b ++ (kinds_maybe o ++ [])) (over in_order b ++ over_maybe in_order o)
        (over in_order b ++ (over_maybe in_order o ++ [])) (p ⊕ q)
        (ap (λ (xs : List Kind). kinds b ++ xs) (sym (append-nil (kinds_maybe o))))
        (ap (λ (xs : List Body). over in_order b ++ xs) (sym (append-nil (over_maybe in_order o))))
        (written_both src n (span b) (kinds b) (kinds_maybe o) (over in_order b) (over_maybe in_order o) p q
        (written b is.0 t a n c w.1 parts.0 st.0 (ready_first src a c.scopes n (span b + (k + (0 + 0))) (span b)
        (omega arith) y) s r at) long
        (block_given o is.1 t a (n + span b) c w.3 (both_true (may_be a o) true parts.1).0 st.2
        (ready_past src a c.scopes n (span b + (k + (0 + 0))) (span b) k (omega arith)
        (closed src b is.0 a n st.0) y) (past s p) r (next_body s p n (span b) at long)))
    written (form.begin_form b form.no_clauses o (form.there e)) is t a n c w f st y s r at = absurd is
    written (form.begin_form b (form.clause es u g cs) o e) is t a n c w f st y s r at = absurd is
    written (form.return_form e) is t a n c w f st y s r at =
        written_ends src n (kinds e) (over in_order e) (gen c s r e) (line.Does (return_by c.kind_of r))
        (written e is t a n c w.1 (both_true a.returns (is_form a e) f).1 st
        (ready_first src a c.scopes n (span (form.return_form e)) (span e) (omega arith) y) s r at)
    written (form.break_form e) is t a n c w f st y s r at =
        break_written src n (kinds e) (over in_order e) (gen c s r e) c.loop r
        (written e is t a n c w.1 (both_true a.loops (is_form a e) f).1 st
        (ready_first src a c.scopes n (span (form.break_form e)) (span e) (omega arith) y) s r at)
    written (form.next_form e) is t a n c w f st y s r at =
        next_written src n (kinds e) (over in_order e) (gen c s r e) c.loop r
        (written e is t a n c w.1 (both_true a.loops (is_form a e) f).1 st
        (ready_first src a c.scopes n (span (form.next_form e)) (span e) (omega arith) y) s r at)
    written form.retry is t a n c w f st y s r at = absurd is
    written (form.define x (form.body p ls g)) is t a n c w f st y s r at =
        let b = form.body p ls g in
        let q = does (op.TClass r) in
        let u = past s q in
        let few = y.few in
        let made = makes (op.Def r (symbol c x) u.child) u.body (body_code kind.Method c.scopes u.body b) in
        written_begins src n (of_method ∷ kinds g) (b ∷ over in_order g) (line.Does (op.TClass r)) made
        (method_written src (op.Def r (symbol c x) u.child) u.body c.scopes n p ls g is.0 is.1
        (λ t' a' n' c' w' f' st' y' s' r' at'. written g is.1 t' a' n' c' w' f' st' y' s' r' at') x a w.1 f st.1
        (omega (arith, few)) (line_body s (line.Does (op.TClass r)) n at))
    written (form.define_on e x (form.body p ls g)) is t a n c w f st y s r at =
        let b = form.body p ls g in
        let parts = both_true (is_form a e) (is_method b) f in
        let q = gen c s r e ⊕ does (op.SClass r) in
        let u = past s q in
        let few = y.few in
        let whole = span (form.define_on e x b) in
        let long = (bodies_ends (span e) (gen c s r e) (line.Does (op.SClass r)) (bodies_of e is.0 c s r)).long in
        let made = makes (op.Def r (symbol c x) u.child) u.body (body_code kind.Method c.scopes u.body b) in
        written_both src n (span e) (kinds e) (of_method ∷ kinds g) (over in_order e) (b ∷ over in_order g) q made
        (written_ends src n (kinds e) (over in_order e) (gen c s r e) (line.Does (op.SClass r))
        (written e is.0 t a n c w.1 parts.0 st.1 (ready_first src a c.scopes n whole (span e) (omega arith) y) s r at))
        long
        (method_written src (op.Def r (symbol c x) u.child) u.body c.scopes (n + span e) p ls g is.1 is.2
        (λ t' a' n' c' w' f' st' y' s' r' at'. written g is.2 t' a' n' c' w' f' st' y' s' r' at') x a w.2 parts.1 st.2
        (omega (arith, few)) (next_body s q n (span e) at long))
    written (form.class_form k x p (form.body ps ls g)) is t a n c w f st y s r at =
        let b = form.body ps ls g in
        let outer = both_true (may_be a k) (may_be a p && is_class b) f in
        let inner = both_true (may_be a p) (is_class b) outer.1 in
        let i = over_maybe how_many k in
        let j = over_maybe how_many p in
        let whole = span (form.class_form k x p b) in
        let few = y.few in
        let q = gen_scope c s r k in
        let u = gen_parent c (past s q) (r + 1) p in
        let l = line.Does (op.Class r (symbol c x)) in
        let e = past s (q ⊕ u ⊕ puts l) in
        let xq = bodies_in_scope k is.0 c s r in
        let long = (bodies_both i j q (u ⊕ puts l) xq
        (bodies_ends j u l (bodies_in_parent p is.1 c (past s q) (r + 1)))).long in
        let z = ready_past src a c.scopes n whole i (j + (1 + span g)) (omega arith)
        (closed_maybe src k is.0 a n st.1) y in
        opener_written src n i j (kinds_maybe k) (kinds_maybe p) (of_class ∷ kinds g) (over_maybe in_order k)
        (over_maybe in_order p) (b ∷ over in_order g) q u l (makes (op.Exec r e.child) e.body
        (body_code kind.Class c.scopes e.body b))
        (scope_written k is.0 t a n c w.1 outer.0 st.1 (ready_first src a c.scopes n whole i (omega arith) y) s r at)
        xq.long
        (parent_written p is.1 t a (n + i) c w.2 inner.0 st.2
        (ready_first src a c.scopes (n + i) (j + (1 + span g)) j (omega arith) z) (past s q) (r + 1)
        (next_body s q n i at xq.long))
        long
        (class_written src (op.Exec r e.child) e.body c.scopes (n + (i + j)) ps ls g is.2
        (λ t' a' n' c' w' f' st' y' s' r' at'. written g is.2 t' a' n' c' w' f' st' y' s' r' at') w.3 inner.1
        (subst (λ (d : ℕ). ClassStands src d b) (omega arith) st.3) (omega (arith, few))
        (next_body s (q ⊕ u ⊕ puts l) n (i + j) at long))
    written (form.module_form k x (form.body ps ls g)) is t a n c w f st y s r at =
        let b = form.body ps ls g in
        let parts = both_true (may_be a k) (is_class b) f in
        let i = over_maybe how_many k in
        let few = y.few in
        let q = gen_scope c s r k in
        let l = line.Does (op.Module r (symbol c x)) in
        let e = past s (q ⊕ puts l) in
        let long = (bodies_ends i q l (bodies_in_scope k is.0 c s r)).long in
        written_both src n i (kinds_maybe k) (of_class ∷ kinds g) (over_maybe in_order k) (b ∷ over in_order g)
        (q ⊕ puts l)
        (makes (op.Exec r e.child) e.body (body_code kind.Class c.scopes e.body b))
        (written_ends src n (kinds_maybe k) (over_maybe in_order k) q l
        (scope_written k is.0 t a n c w.1 parts.0 st.1
        (ready_first src a c.scopes n (span (form.module_form k x b)) i (omega arith) y) s r at)) long
        (class_written src (op.Exec r e.child) e.body c.scopes (n + i) ps ls g is.1
        (λ t' a' n' c' w' f' st' y' s' r' at'. written g is.1 t' a' n' c' w' f' st' y' s' r' at') w.2 parts.1 st.2
        (omega (arith, few)) (next_body s (q ⊕ puts l) n i at long))
    written (form.singleton_class v (form.body ps ls g)) is t a n c w f st y s r at =
        let b = form.body ps ls g in
        let parts = both_true (is_form a v) (is_class b) f in
        let few = y.few in
        let q = gen c s r v in
        let l = line.Does (op.SClass r) in
        let e = past s (q ⊕ puts l) in
        let long = (bodies_ends (span v) q l (bodies_of v is.0 c s r)).long in
        written_both src n (span v) (kinds v) (of_class ∷ kinds g) (over in_order v) (b ∷ over in_order g) (q ⊕ puts l)
        (makes (op.Exec r e.child) e.body (body_code kind.Class c.scopes e.body b))
        (written_ends src n (kinds v) (over in_order v) q l
        (written v is.0 t a n c w.1 parts.0 st.0
        (ready_first src a c.scopes n (span (form.singleton_class v b)) (span v) (omega arith) y) s r at)) long
        (class_written src (op.Exec r e.child) e.body c.scopes (n + span v) ps ls g is.1
        (λ t' a' n' c' w' f' st' y' s' r' at'. written g is.1 t' a' n' c' w' f' st' y' s' r' at') w.2 parts.1 st.1
        (omega (arith, few)) (next_body s (q ⊕ puts l) n (span v) at long))
    written (form.alias_form x z) is t a n c w f st y s r at = none_written src n (gen c s r (form.alias_form x z))
        (bodies_of (form.alias_form x z) is c s r)
    written (form.undef_form x) is t a n c w f st y s r at = none_written src n (gen c s r (form.undef_form x))
        (bodies_of (form.undef_form x) is c s r)
    written (form.defined q x form.absent) is t a n c w f st y s r at =
        written_as src n [] [] [] (over_asked in_order q x ++ []) (gen c s r (form.defined q x form.absent)) refl
        (sym (append-nil (over_asked in_order q x) ∙ none_asked_of q x)) (none_by src n _)
    written (form.defined q x (form.there e)) is t a n c w f st y s r at =
        let none = none_asked q x in
        let o = ask c q x true r (told q) in
        written_as src n (kinds e) (kinds e) (over in_order e) (over_asked in_order q x ++ over in_order e)
        (gen c s r e ⊕ does o)
        refl (ap (λ (bs : List Body). bs ++ over in_order e) (sym (none_asked_of q x)))
        (written_ends src n (kinds e) (over in_order e) (gen c s r e) (line.Does o)
        (written e is.0 t a n c w.1 f st.1 (ready_first src a c.scopes n (span (form.defined q x (form.there e)))
        (span e) (omega (arith, none)) y) s r at))
    written (form.item e q) is t a n c w f st y s r at =
        written_ends src n (kinds e) (over in_order e) (gen c s r e) (line.Does (op.ARef r r q))
        (written e is t a n c w.1 f st (ready_first src a c.scopes n (span (form.item e q)) (span e) (omega arith) y) s
        r at)
    written (form.rest_of e from post) is t a n c w f st y s r at =
        written_ends src n (kinds e) (over in_order e) (gen c s r e) (line.Does (op.APost r from (pos post)))
        (written e is t a n c w.1 f st (ready_first src a c.scopes n (span (form.rest_of e from post)) (span e)
        (omega arith) y) s r at)
    written (form.tail_of e from count) is t a n c w f st y s r at =
        written_ends src n (kinds e) (over in_order e) (gen c s r e) (line.Does (op.APost r from (neg_ℤ (pos count))))
        (written e is.0 t a n c w.1 f st (ready_first src a c.scopes n (span (form.tail_of e from count)) (span e)
        (omega arith) y) s r at)

    -- the scope of a class, and its parent
    scope_written : (m : Maybe) → IsPlainMaybe m → (t : Tally) (a : program.Around) (n : ℕ) (c : Context)
        → Noted_maybe t m → may_be a m ≡ true → MaybeStands src a n m → Ready src a c.scopes n (over_maybe how_many m)
        → WritesBy src c n (kinds_maybe m) (over_maybe in_order m) (λ d u i. gen_scope d u i m)
    scope_written form.absent is t a n c w f st y s r at = none_by src n _
    scope_written (form.there b) is t a n c w f st y s r at = written b is t a n c w f st y s r at

    parent_written : (m : Maybe) → IsPlainMaybe m → (t : Tally) (a : program.Around) (n : ℕ) (c : Context)
        → Noted_maybe t m → may_be a m ≡ true → MaybeStands src a n m → Ready src a c.scopes n (over_maybe how_many m)
        → WritesBy src c n (kinds_maybe m) (over_maybe in_order m) (λ d u i. gen_parent d u i m)
    parent_written form.absent is t a n c w f st y s r at = none_by src n _
    parent_written (form.there b) is t a n c w f st y s r at = written b is t a n c w f st y s r at

    block_given : (m : Maybe) → IsPlainBlock m → (t : Tally) (a : program.Around) (n : ℕ) (c : Context)
        → Noted_maybe t m → may_be a m ≡ true → MaybeStands src a n m → Ready src a c.scopes n (over_maybe how_many m)
        → WritesBy src c n (kinds_maybe m) (over_maybe in_order m) (λ d u i. gen_maybe d u i m)
    block_given form.absent is t a n c w f st y s r at = none_in_nothing src n
    block_given (form.there b) is t a n c w f st y s r at = written b is t a n c w f st y s r at

    others_written : (es : Forms) → ArePlain es → (t : Tally) (a : program.Around) (n : ℕ) (c : Context)
        → Noted_all t es → are_forms a es ≡ true → FormsStand src a n es
        → Ready src a c.scopes n (over_forms how_many es)
        → WritesBy src c n (kinds_forms es) (over_forms in_order es) (λ d u i. others_in_turn d u i es)
    others_written form.none is t a n c w f st y s r at = none_in_nothing src n
    others_written (form.more e es) is t a n c w f st y s r at =
        let parts = both_true (is_form a e) (are_forms a es) f in
        let p = gen c s r e in
        let k = over_forms how_many es in
        written_both src n (span e) (kinds e) (kinds_forms es) (over in_order e) (over_forms in_order es) p
        (others_in_turn c (past s p) r es)
        (written e is.0 t a n c w.0 parts.0 st.0 (ready_first src a c.scopes n (span e + k) (span e) (omega arith) y) s
        r at)
        (bodies_of e is.0 c s r).long
        (others_written es is.1 t a (n + span e) c w.1 parts.1 st.1
        (ready_past src a c.scopes n (span e + k) (span e) k (omega arith) (closed src e is.0 a n st.0) y) (past s p) r
        (next_body s p n (span e) at (bodies_of e is.0 c s r).long))

    chosen_written : (bs : Branches) (o : Code) (ks : List Kind) (cs : List Body) (i : ℕ) → ArePlainBranches bs
        → (t : Tally) (a : program.Around) (n : ℕ) (c : Context) → Noted_branches t bs → are_branches a bs ≡ true
        → BranchesStand src a n bs → Ready src a c.scopes n (over_branches how_many bs + i)
        → WritesBy src c (n + over_branches how_many bs) ks cs o
        → WritesBy src c n (kinds_branches bs ++ ks) (over_branches in_order bs ++ cs) (λ d u j. choose d u j bs o)
    chosen_written form.no_branches o ks cs i is t a n c w f st y last s r at =
        subst (λ (j : ℕ). Writes src j ks cs (o c s r)) (omega arith) (last s r (omega (arith, at)))
    chosen_written (form.branch e g bs) o ks cs i is t a n c w f st y last s r at =
        let first = both_true (is_form a e) (is_form a g && are_branches a bs) f in
        let second = both_true (is_form a g) (are_branches a bs) first.1 in
        let k = over_branches how_many bs in
        let whole = span e + (span g + k) + i in
        let p = gen c s r e in
        let body = behind (past s p) in
        let q = gen c body r g in
        let further = behind (past body q) in
        let others = choose c further r bs o in
        let leap = jump (past further others).line in
        let at_body = behind_body (past s p) (n + span e) (next_body s p n (span e) at (bodies_of e is.0 c s r).long) in
        let at_rest = behind_body (past body q) (n + span e + span g)
        (next_body body q (n + span e) (span g) at_body (bodies_of g is.1 c body r).long) in
        let z = ready_past src a c.scopes n whole (span e) (span g + (k + i)) (omega arith)
        (closed src e is.0 a n st.0) y in
        let kbs = kinds_branches bs in
        let bbs = over_branches in_order bs in
        written_as src n (kinds e ++ (kinds g ++ (kbs ++ ks))) ((kinds e ++ (kinds g ++ kbs)) ++ ks)
        (over in_order e ++ (over in_order g ++ (bbs ++ cs))) ((over in_order e ++ (over in_order g ++ bbs)) ++ cs)
        (p ⊕ jump_not r further.line ⊕ q ⊕ leap ⊕ others)
        (sym (append_assoc (kinds e) (kinds g ++ kbs) ks
        ∙ ap (λ (xs : List Kind). kinds e ++ xs) (append_assoc (kinds g) kbs ks)))
        (sym (append_assoc (over in_order e) (over in_order g ++ bbs) cs
        ∙ ap (λ (xs : List Body). over in_order e ++ xs) (append_assoc (over in_order g) bbs cs)))
        (written_both src n (span e) (kinds e) (kinds g ++ (kbs ++ ks)) (over in_order e)
        (over in_order g ++ (bbs ++ cs)) p
        (jump_not r further.line ⊕ q ⊕ leap ⊕ others)
        (written e is.0 t a n c w.0 first.0 st.0 (ready_first src a c.scopes n whole (span e) (omega arith) y) s r at)
        (bodies_of e is.0 c s r).long
        (written_begins src (n + span e) (kinds g ++ (kbs ++ ks)) (over in_order g ++ (bbs ++ cs))
        (line.JumpNot r further.line) (q ⊕ leap ⊕ others)
        (written_both src (n + span e) (span g) (kinds g) (kbs ++ ks) (over in_order g) (bbs ++ cs) q (leap ⊕ others)
        (written g is.1 t a (n + span e) c w.1 second.0 st.1
        (ready_first src a c.scopes (n + span e) (span g + (k + i)) (span g) (omega arith) z) body r at_body)
        (bodies_of g is.1 c body r).long
        (written_begins src (n + span e + span g) (kbs ++ ks) (bbs ++ cs) (line.Jump (past further others).line) others
        (chosen_written bs o ks cs i is.2 t a (n + span e + span g) c w.2 second.1 st.2
        (ready_past src a c.scopes (n + span e) (span g + (k + i)) (span g) (k + i) (omega arith)
        (closed src g is.1 a (n + span e) st.1) z)
        (λ u j h. subst (λ (q : ℕ). Writes src q ks cs (o c u j)) (omega arith) (last u j (omega (arith, h)))) further r
        at_rest)))))

    items_written : (is' : Items) → ArePlainItems is' → (t : Tally) (a : program.Around) (n : ℕ) (c : Context)
        → Noted_items t is' → are_items a is' ≡ true → ItemsStand src a n is'
        → Ready src a c.scopes n (over_items how_many is')
        → WritesBy src c n (kinds_items is') (over_items in_order is') (λ d u i. pass_in_registers d u i is')
    items_written form.no_items is t a n c w f st y s r at = none_in_nothing src n
    items_written (form.plain e is') is t a n c w f st y s r at =
        let parts = both_true (is_form a e) (are_items a is') f in
        let p = gen c s r e in
        let k = over_items how_many is' in
        written_both src n (span e) (kinds e) (kinds_items is') (over in_order e) (over_items in_order is') p
        (pass_in_registers c (past s p) (r + 1) is')
        (written e is.0 t a n c w.0 parts.0 st.0 (ready_first src a c.scopes n (span e + k) (span e) (omega arith) y) s
        r at)
        (bodies_of e is.0 c s r).long
        (items_written is' is.1 t a (n + span e) c w.1 parts.1 st.1
        (ready_past src a c.scopes n (span e + k) (span e) k (omega arith) (closed src e is.0 a n st.0) y) (past s p)
        (r + 1)
        (next_body s p n (span e) at (bodies_of e is.0 c s r).long))
    items_written (form.splat e is') is t a n c w f st y s r at =
        let parts = both_true (is_form a e) (are_items a is') f in
        let p = gen c s r e in
        let k = over_items how_many is' in
        written_both src n (span e) (kinds e) (kinds_items is') (over in_order e) (over_items in_order is') p
        (pass_in_registers c (past s p) (r + 1) is')
        (written e is.0 t a n c w.0 parts.0 st.0 (ready_first src a c.scopes n (span e + k) (span e) (omega arith) y) s
        r at)
        (bodies_of e is.0 c s r).long
        (items_written is' is.1 t a (n + span e) c w.1 parts.1 st.1
        (ready_past src a c.scopes n (span e + k) (span e) k (omega arith) (closed src e is.0 a n st.0) y) (past s p)
        (r + 1)
        (next_body s p n (span e) at (bodies_of e is.0 c s r).long))

    elements_written : (is' : Items) → ArePlainItems is' → (t : Tally) (a : program.Around) (n : ℕ) (c : Context)
        → Noted_items t is' → are_items a is' ≡ true → ItemsStand src a n is'
        → Ready src a c.scopes n (over_items how_many is')
        → WritesBy src c n (kinds_items is') (over_items in_order is') (λ d u i. gather d u i is')
    elements_written form.no_items is t a n c w f st y s r at = none_in_nothing src n
    elements_written (form.plain e is') is t a n c w f st y s r at =
        let parts = both_true (is_form a e) (are_items a is') f in
        let o = op.AryPush r 1 in
        let p = gen c s (r + 1) e ⊕ does o in
        let k = over_items how_many is' in
        let x = bodies_ends (span e) (gen c s (r + 1) e) (line.Does o) (bodies_of e is.0 c s (r + 1)) in
        element_written src n o e is' c s r x.long
        (written e is.0 t a n c w.0 parts.0 st.0 (ready_first src a c.scopes n (span e + k) (span e) (omega arith) y) s
        (r + 1)
        at)
        (elements_written is' is.1 t a (n + span e) c w.1 parts.1 st.1
        (ready_past src a c.scopes n (span e + k) (span e) k (omega arith) (closed src e is.0 a n st.0) y) (past s p) r
        (next_body s p n (span e) at x.long))
    elements_written (form.splat e is') is t a n c w f st y s r at =
        let parts = both_true (is_form a e) (are_items a is') f in
        let o = op.AryCat r in
        let p = gen c s (r + 1) e ⊕ does o in
        let k = over_items how_many is' in
        let x = bodies_ends (span e) (gen c s (r + 1) e) (line.Does o) (bodies_of e is.0 c s (r + 1)) in
        element_written src n o e is' c s r x.long
        (written e is.0 t a n c w.0 parts.0 st.0 (ready_first src a c.scopes n (span e + k) (span e) (omega arith) y) s
        (r + 1)
        at)
        (elements_written is' is.1 t a (n + span e) c w.1 parts.1 st.1
        (ready_past src a c.scopes n (span e + k) (span e) k (omega arith) (closed src e is.0 a n st.0) y) (past s p) r
        (next_body s p n (span e) at x.long))

    pieces_written : (es : Forms) → ArePlain es → (t : Tally) (a : program.Around) (n : ℕ) (c : Context)
        → Noted_all t es → are_forms a es ≡ true → FormsStand src a n es
        → Ready src a c.scopes n (over_forms how_many es)
        → WritesBy src c n (kinds_forms es) (over_forms in_order es) (λ d u i. gather_text d u i es)
    pieces_written form.none is t a n c w f st y s r at = none_in_nothing src n
    pieces_written (form.more e es) is t a n c w f st y s r at =
        let parts = both_true (is_form a e) (are_forms a es) f in
        let q = gen c s (r + 1) e in
        let p = q ⊕ does (op.StrCat r) in
        let k = over_forms how_many es in
        let x = bodies_ends (span e) q (line.Does (op.StrCat r)) (bodies_of e is.0 c s (r + 1)) in
        written_both src n (span e) (kinds e) (kinds_forms es) (over in_order e) (over_forms in_order es) p
        (gather_text c (past s p) r es)
        (written_ends src n (kinds e) (over in_order e) q (line.Does (op.StrCat r))
        (written e is.0 t a n c w.0 parts.0 st.0 (ready_first src a c.scopes n (span e + k) (span e) (omega arith) y) s
        (r + 1)
        at)) x.long
        (pieces_written es is.1 t a (n + span e) c w.1 parts.1 st.1
        (ready_past src a c.scopes n (span e + k) (span e) k (omega arith) (closed src e is.0 a n st.0) y) (past s p) r
        (next_body s p n (span e) at x.long))

    pairs_written : (ps : Pairs) → ArePlainPairs ps → (t : Tally) (a : program.Around) (n : ℕ) (c : Context)
        → Noted_pairs t ps → are_pairs a ps ≡ true → PairsStand src a n ps
        → Ready src a c.scopes n (over_pairs how_many ps)
        → WritesBy src c n (kinds_pairs ps) (over_pairs in_order ps) (λ d u i. gather_pairs d u i ps)
    pairs_written form.no_pairs is t a n c w f st y s r at = none_in_nothing src n
    pairs_written (form.pair b d ps) is t a n c w f st y s r at =
        let first = both_true (is_form a b) (is_form a d && are_pairs a ps) f in
        let second = both_true (is_form a d) (are_pairs a ps) first.1 in
        let k = over_pairs how_many ps in
        let whole = span b + (span d + k) in
        let p = gen c s (r + 1) b in
        let q = gen c (past s p) (r + 1 + 1) d in
        let o = op.HashAdd r 1 in
        let one = (p ⊕ q) ⊕ does o in
        let xb = bodies_of b is.0 c s (r + 1) in
        let xd = bodies_of d is.1 c (past s p) (r + 1 + 1) in
        let x = bodies_ends (span b + span d) (p ⊕ q) (line.Does o) (bodies_both (span b) (span d) p q xb xd) in
        let z = ready_past src a c.scopes n whole (span b) (span d + k) (omega arith) (closed src b is.0 a n st.0) y in
        let later = ready_past src a c.scopes (n + span b) (span d + k) (span d) k (omega arith)
        (closed src d is.1 a (n + span b) st.1) z in
        let same : n + span b + span d ≡ n + (span b + span d) = omega arith in
        written_as src n ((kinds b ++ kinds d) ++ kinds_pairs ps) (kinds b ++ (kinds d ++ kinds_pairs ps))
        ((over in_order b ++ over in_order d) ++ over_pairs in_order ps)
        (over in_order b ++ (over in_order d ++ over_pairs in_order ps)) (one ⊕ gather_pairs c (past s one) r ps)
        (append_assoc (kinds b) (kinds d) (kinds_pairs ps))
        (append_assoc (over in_order b) (over in_order d) (over_pairs in_order ps))
        (written_both src n (span b + span d) (kinds b ++ kinds d) (kinds_pairs ps) (over in_order b ++ over in_order d)
        (over_pairs in_order ps) one (gather_pairs c (past s one) r ps)
        (written_ends src n (kinds b ++ kinds d) (over in_order b ++ over in_order d) (p ⊕ q) (line.Does o)
        (written_both src n (span b) (kinds b) (kinds d) (over in_order b) (over in_order d) p q
        (written b is.0 t a n c w.0 first.0 st.0 (ready_first src a c.scopes n whole (span b) (omega arith) y) s
        (r + 1) at)
        xb.long
        (written d is.1 t a (n + span b) c w.1 second.0 st.1
        (ready_first src a c.scopes (n + span b) (span d + k) (span d) (omega arith) z) (past s p) (r + 1 + 1)
        (next_body s p n (span b) at xb.long)))) x.long
        (subst (λ (j : ℕ). Writes src j (kinds_pairs ps) (over_pairs in_order ps) (gather_pairs c (past s one) r ps))
        same
        (pairs_written ps is.2 t a (n + span b + span d) c w.2 second.1 st.2 later (past s one) r
        (next_body s one n (span b + span d) at x.long ∙ sym same))))
