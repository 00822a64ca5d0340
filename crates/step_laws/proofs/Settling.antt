-- Where the parts of calls and of loops stand.
use Rattle.std.proofs.Common.{◌≡◌, ◌≤◌, ℕ, ◌+◌, List, get_or, arith, refl, sym, ◌∙◌, subst, true, false}
use Rattle.std.specs.Prelude.{Option, Some, None}
use Rattle.rite_code.specs.declared.operation.Operation.{Operation}
use Rattle.rite_code.specs.declared.operation.Operation.TheVariants as op
use Rattle.ir_core.specs.CoreForm as form
use Rattle.ir_core.specs.CoreForm.{Name, Local, CoreForm, Maybe, Items, Receiver}
use Rattle.ir_core.specs.Program as program
use Rattle.ir_core.specs.Program.{within_loop}
use Rattle.ir_counts.specs.Tables.{item_count}
use Rattle.scope_resolver.specs.declared.body_kind.BodyKind.TheVariants as kind
use Rattle.gen_parts.specs.declared.line.Line.TheVariants as line
use Rattle.gen_parts.specs.declared.emitter.Spot.{Spot}
use Rattle.gen_parts.specs.Pieces.{Piece, past, behind, nothing, puts, makes, does, jump, jump_if, ◌⊕◌}
use Rattle.gen_forms.specs.declared.context.Loop.{Loop}
use Rattle.gen_forms.specs.declared.calls.Passing.{Passing}
use Rattle.gen_forms.specs.declared.calls.Passing.TheVariants as passed
use Rattle.gen_forms.specs.Gen.{Code, gen, gen_receiver, gen_maybe, gather, pass_in_registers, passing, passed_by, own_block, registers_of, count_operand, called_by, operates, is_one_plain, send, symbol, gen_scope, gen_parent, body_code}
use Rattle.def_eval.specs.Source.{over_receiver, over_items, how_many, span, over_body, span_maybe}
use Rattle.eval_laws.specs.Standing.{past_receiver, past_items, FormStands, ItemsStand, MaybeStands}
use Rattle.step_laws.specs.Site.{Site, within}
use Rattle.step_laws.specs.Passed.{arguments_code, past_arguments}
use Rattle.step_laws.specs.Covers.{past_receiver_code, past_form, loop_of, past_body, past_singleton, past_scope, past_class, past_module}
use Rattle.step_laws.specs.Plain.{IsPlain, ArePlainItems, IsPlainMaybe}
use Rattle.def_machine.specs.State.{body_at}
use Rattle.gen_parts.proofs.Laws.{past-both}
use Rattle.step_laws.proofs.Passing.{one_registers}
use Rattle.step_laws.proofs.Calls.{operator_is}
use Rattle.step_laws.proofs.Spans.{behind_items}
use Rattle.step_laws.proofs.Nested.{Closed, inside_first, then_closed, closed_from, closed, closed_items, closed_maybe}
use Rattle.step_laws.proofs.Catchless.{HaveBodies, bodies_both, bodies_begins, passed_bodies, bodies_of, bodies_in_items, bodies_in_elements, bodies_ends, bodies_in_scope, bodies_in_parent}
use Rattle.step_laws.proofs.Children.{Settled, settled_first, settled_then, settled_line, settled_behind, settled_from, child_there}

behind_receiver : (j : ℕ) (e : Receiver) → j + over_receiver how_many e ≡ past_receiver j e
behind_receiver j (form.to e) = refl
behind_receiver j form.on_self = omega arith
behind_receiver j form.bare = omega arith

-- the receiver of a call, its arguments and its block
pub record CallSettled (h : Site) (o : Option Loop) (r : ℕ) (s : Spot) (j : ℕ) (e : Receiver) (is : Items) : Type 0 where
  pub receiver : Settled h s j (over_receiver how_many e) (gen_receiver (within h o) s r e)
  pub arguments : Settled h (past_receiver_code h o r s e) (past_receiver j e) (over_items how_many is)
      (arguments_code (within h o) (past_receiver_code h o r s e) r is)

pub record BlockSettled (h : Site) (o : Option Loop) (r : ℕ) (s : Spot) (j : ℕ) (e : Receiver) (is : Items)
    (b : CoreForm) : Type 0 where
  pub called : CallSettled h o r s j e is
  pub block : Settled h (past_arguments h o r (past_receiver_code h o r s e) is) (past_items (past_receiver j e) is) (span b)
      (gen (within h o) (past_arguments h o r (past_receiver_code h o r s e) is) (r + 1 + registers_of (passing is)) b)

-- an operator takes its operand in a register
operand_in_register : (e : Receiver) (x : Name) (is : Items) (r : ℕ) (w : Operation)
    → operates form.absent e x is r ≡ Some w → passing is ≡ passed.InRegisters (item_count is)
operand_in_register (form.to e) x is r w found =
    let one = operator_is is x r w (is_one_plain is) refl found in one_registers is one.1 one.2
operand_in_register form.on_self x is r w found = absurd (cc found)
operand_in_register form.bare x is r w found = absurd (cc found)

module _ (h : Site) (a : program.Around) where
  module _ (e : Receiver) (x : Name) (is : Items) where
    abbrev each : Code
    each = λ d u i. pass_in_registers d u i is

    abbrev spread : Code
    spread = λ d u i. gather d u i is

    abbrev passes : Code
    passes = passed_by (passing is) each spread

    abbrev k : ℕ
    k = over_items how_many is

    abbrev i : ℕ
    i = over_receiver how_many e

    -- the receiver and the item of an operator
    operator_settled : (w : Operation) (o : Option Loop) (r : ℕ) (s : Spot) (j n : ℕ)
        → passing is ≡ passed.InRegisters (item_count is) → HaveBodies i (λ d u l. gen_receiver d u l e)
        → Closed h.source j (j + i) → i + k ≤ n
        → Settled h s j n (gen_receiver (within h o) s r e ⊕ each (within h o)
        (past s (gen_receiver (within h o) s r e)) (r + 1)
        ⊕ does w) → CallSettled h o r s j e is
    operator_settled w o r s j n few first closed le y =
        let p = gen_receiver (within h o) s r e in
        let t = each (within h o) (past s p) (r + 1) in
        record {
          receiver = settled_first h s j n i p (t ⊕ does w) (omega (arith, le)) y;
          arguments = subst (λ (g : Passing). Settled h (past s p) (past_receiver j e) k
              (passed_by g each spread (within h o) (past s p) r)) (sym few)
              (settled_from h (past s p) (j + i) (past_receiver j e) k t (behind_receiver j e)
              (settled_first h (past s p) (j + i) k k t (does w) (omega arith)
              (settled_then h s j n i k p (t ⊕ does w) (first (within h o) s r).long closed le y)));
        }

    -- and the arguments of another call
    pair_settled : (o : Option Loop) (r : ℕ) (s : Spot) (j n : ℕ) (q : Piece)
        → HaveBodies i (λ d u l. gen_receiver d u l e) → Closed h.source j (j + i) → i + k ≤ n
        → Settled h s j n ((gen_receiver (within h o) s r e
        ⊕ passes (within h o) (past s (gen_receiver (within h o) s r e)) r) ⊕ q) → CallSettled h o r s j e is
    pair_settled o r s j n q first closed le y =
        let p = gen_receiver (within h o) s r e in
        let t = passes (within h o) (past s p) r in
        let z = settled_first h s j n (i + k) (p ⊕ t) q le y in
        record {
          receiver = settled_first h s j (i + k) i p t (omega arith) z;
          arguments = settled_from h (past s p) (j + i) (past_receiver j e) k t (behind_receiver j e)
              (settled_then h s j (i + k) i k p t (first (within h o) s r).long closed (omega arith) z);
        }

    pub call_settled : (w : Option Operation) (o : Option Loop) (r : ℕ) (s : Spot) (j : ℕ)
        → operates form.absent e x is r ≡ w → HaveBodies i (λ d u l. gen_receiver d u l e) → Closed h.source j (j + i)
        → Settled h s j (span (form.call e x is form.absent))
        (called_by w (λ d u l. gen_receiver d u l e) each passes (λ d u l. gen_maybe d u l form.absent)
        (registers_of (passing is)) (send false e (passing is) r (symbol h.context x)) (within h o) s r)
        → CallSettled h o r s j e is
    call_settled (Some w) o r s j found first closed y =
        operator_settled w o r s j (span (form.call e x is form.absent)) (operand_in_register e x is r w found) first closed
        (omega arith) y
    call_settled None o r s j found first closed y =
        pair_settled o r s j (span (form.call e x is form.absent))
        (nothing ⊕ does (send false e (passing is) r (symbol h.context x))) first closed (omega arith) y

    pub block_settled : (b : CoreForm) (o : Option Loop) (r : ℕ) (s : Spot) (j : ℕ)
        → HaveBodies i (λ d u l. gen_receiver d u l e) → ArePlainItems is → Closed h.source j (j + i)
        → ItemsStand h.source a (past_receiver j e) is
        → Settled h s j (span (form.call e x is (form.there b)))
        (gen (within h o) s r (form.call e x is (form.there b)))
        → BlockSettled h o r s j e is b
    block_settled b o r s j first plain closed st y =
        let n = span (form.call e x is (form.there b)) in
        let d = within h o in
        let p = gen_receiver d s r e in
        let t = passes d (past s p) r in
        let c = r + 1 + registers_of (passing is) in
        let u = gen d (past s (p ⊕ t)) c b in
        let q = does (send true e (passing is) r (symbol h.context x)) in
        let args = passed_bodies k (passing is) each spread (bodies_in_items is plain) (bodies_in_elements is plain) in
        let long = (bodies_both i k p t (first d s r) (args d (past s p) r)).long in
        let st' = subst (λ (l : ℕ). ItemsStand h.source a l is) (sym (behind_receiver j e)) st in
        let both_closed = then_closed h.source j i k closed (closed_items h.source is plain a (j + i) st') in
        let same : j + (i + k) ≡ past_items (past_receiver j e) is =
        omega (arith, behind_items (past_receiver j e) is, behind_receiver j e) in
        let at = settled_from h (past s (p ⊕ t)) (j + (i + k)) (past_items (past_receiver j e) is) (span b) u same
        (settled_first h (past s (p ⊕ t)) (j + (i + k)) (span b) (span b) u q (omega arith)
        (settled_then h s j n (i + k) (span b) (p ⊕ t) (u ⊕ q) long both_closed (omega arith) y)) in
        record {
          called = pair_settled o r s j n (u ⊕ q) first closed (omega arith) y;
          block = subst (λ (v : Spot). Settled h v (past_items (past_receiver j e) is) (span b) (gen d v c b))
              (past-both s p t) at;
        }

  -- the arguments of a yield
  pub yield_settled : (is : Items) (o : Option Loop) (r : ℕ) (s : Spot) (j : ℕ)
      → Settled h s j (over_items how_many is) (gen (within h o) s r (form.yield_form is))
      → Settled h (past s (does (op.BlkPush r))) j (over_items how_many is)
      (arguments_code (within h o) (past s (does (op.BlkPush r))) r is)
  yield_settled is o r s j y =
      let n = over_items how_many is in
      let u = past s (does (op.BlkPush r)) in
      let t = arguments_code (within h o) u r is in
      let q = does (op.Call r (count_operand (passing is))) in
      settled_first h u j n n t q (omega arith) (settled_line h s j n (line.Does (op.BlkPush r)) (t ⊕ q) y)

  -- the receiver of a definition, and the body of the method
  pub method_settled : (s : Spot) (j r : ℕ) (e : CoreForm) (x : Name) (p : form.Parameters) (ls : List Local)
      (f : CoreForm) (o : Option Loop) → IsPlain e → FormStands h.source a j e
      → Settled h s j (span (form.define_on e x (form.body p ls f)))
      (gen (within h o) s r (form.define_on e x (form.body p ls f)))
      → Settled h s j (span e) (gen (within h o) s r e)
      × (get_or (body_at h.program h.body).children (past_singleton h o r s e).child 0 ≡ j + span e)
  method_settled s j r e x p ls f o plain st y =
      let b = form.body p ls f in
      let k = over_body how_many b in
      let n = span (form.define_on e x b) in
      let q = gen (within h o) s r e in
      let l = line.Does (op.SClass r) in
      let two = q ⊕ puts l in
      let u = past s two in
      let d = op.Def r (symbol h.context x) u.child in
      let bodies = body_code kind.Method h.context.scopes u.body b in
      let long = (bodies_ends (span e) q l (bodies_of e plain (within h o) s r)).long in (
        settled_first h s j (span e) (span e) q (puts l) (omega arith)
            (settled_first h s j n (span e) two (makes d u.body bodies) (omega arith) y),
        child_there h u (j + span e) k d bodies (omega arith)
            (settled_then h s j n (span e) k two (makes d u.body bodies) long (closed h.source e plain a j st)
            (omega arith) y),
      )

  -- what a class or a module is opened with, and its body
  pub class_settled : (s : Spot) (j r : ℕ) (k : Maybe) (x : Name) (p : Maybe) (ps : form.Parameters) (ls : List Local)
      (f : CoreForm) (o : Option Loop) → IsPlainMaybe k → IsPlainMaybe p → MaybeStands h.source a j k
      → MaybeStands h.source a (j + span_maybe k) p
      → Settled h s j (span (form.class_form k x p (form.body ps ls f)))
      (gen (within h o) s r (form.class_form k x p (form.body ps ls f)))
      → Settled h s j (span_maybe k) (gen_scope (within h o) s r k)
      × Settled h (past_scope h o r s k) (j + span_maybe k) (span_maybe p)
      (gen_parent (within h o) (past_scope h o r s k) (r + 1) p)
      × (get_or (body_at h.program h.body).children (past_class h o r s k x p).child 0
      ≡ j + span_maybe k + span_maybe p)
  class_settled s j r k x p ps ls f o plain_scope plain_parent st su y =
      let b = form.body ps ls f in
      let c = within h o in
      let i = span_maybe k in
      let u = span_maybe p in
      let n = span (form.class_form k x p b) in
      let q = gen_scope c s r k in
      let v = gen_parent c (past s q) (r + 1) p in
      let l = line.Does (op.Class r (symbol h.context x)) in
      let w = q ⊕ v ⊕ puts l in
      let t = past s w in
      let e = op.Exec r t.child in
      let bodies = body_code kind.Class h.context.scopes t.body b in
      let xq = bodies_in_scope k plain_scope c s r in
      let xv = bodies_ends u v l (bodies_in_parent p plain_parent c (past s q) (r + 1)) in
      let first_closed = closed_maybe h.source k plain_scope a j st in
      let z = settled_first h s j n (i + u) w (makes e t.body bodies) (omega arith) y in (
        settled_first h s j (i + u) i q (v ⊕ puts l) (omega arith) z,
        settled_first h (past s q) (j + i) u u v (puts l) (omega arith)
            (settled_then h s j (i + u) i u q (v ⊕ puts l) xq.long first_closed (omega arith) z),
        child_there h t (j + (i + u)) (over_body how_many b) e bodies (omega arith)
            (settled_then h s j n (i + u) (over_body how_many b) w (makes e t.body bodies)
            (bodies_both i u q (v ⊕ puts l) xq xv).long
            (then_closed h.source j i u first_closed (closed_maybe h.source p plain_parent a (j + i) su))
            (omega arith) y)
            ∙ omega arith,
      )

  pub module_settled : (s : Spot) (j r : ℕ) (k : Maybe) (x : Name) (ps : form.Parameters) (ls : List Local)
      (f : CoreForm) (o : Option Loop) → IsPlainMaybe k → MaybeStands h.source a j k
      → Settled h s j (span (form.module_form k x (form.body ps ls f)))
      (gen (within h o) s r (form.module_form k x (form.body ps ls f)))
      → Settled h s j (span_maybe k) (gen_scope (within h o) s r k)
      × (get_or (body_at h.program h.body).children (past_module h o r s k x).child 0 ≡ j + span_maybe k)
  module_settled s j r k x ps ls f o plain st y =
      let b = form.body ps ls f in
      let i = span_maybe k in
      let n = span (form.module_form k x b) in
      let q = gen_scope (within h o) s r k in
      let l = line.Does (op.Module r (symbol h.context x)) in
      let t = past s (q ⊕ puts l) in
      let e = op.Exec r t.child in
      let bodies = body_code kind.Class h.context.scopes t.body b in (
        settled_first h s j i i q (puts l) (omega arith)
            (settled_first h s j n i (q ⊕ puts l) (makes e t.body bodies) (omega arith) y),
        child_there h t (j + i) (over_body how_many b) e bodies (omega arith)
            (settled_then h s j n i (over_body how_many b) (q ⊕ puts l) (makes e t.body bodies)
            (bodies_ends i q l (bodies_in_scope k plain (within h o) s r)).long (closed_maybe h.source k plain a j st)
            (omega arith) y),
      )

  pub singleton_settled : (s : Spot) (j r : ℕ) (v : CoreForm) (ps : form.Parameters) (ls : List Local)
      (f : CoreForm) (o : Option Loop) → IsPlain v → FormStands h.source a j v
      → Settled h s j (span (form.singleton_class v (form.body ps ls f)))
      (gen (within h o) s r (form.singleton_class v (form.body ps ls f)))
      → Settled h s j (span v) (gen (within h o) s r v)
      × (get_or (body_at h.program h.body).children (past_singleton h o r s v).child 0 ≡ j + span v)
  singleton_settled s j r v ps ls f o plain st y =
      let b = form.body ps ls f in
      let n = span (form.singleton_class v b) in
      let q = gen (within h o) s r v in
      let l = line.Does (op.SClass r) in
      let t = past s (q ⊕ puts l) in
      let e = op.Exec r t.child in
      let bodies = body_code kind.Class h.context.scopes t.body b in (
        settled_first h s j (span v) (span v) q (puts l) (omega arith)
            (settled_first h s j n (span v) (q ⊕ puts l) (makes e t.body bodies) (omega arith) y),
        child_there h t (j + span v) (over_body how_many b) e bodies (omega arith)
            (settled_then h s j n (span v) (over_body how_many b) (q ⊕ puts l) (makes e t.body bodies)
            (bodies_ends (span v) q l (bodies_of v plain (within h o) s r)).long (closed h.source v plain a j st)
            (omega arith) y),
      )

  -- the arguments and the block of a call of the method above
  pub super_settled : (is : Items) (b : CoreForm) (o : Option Loop) (r : ℕ) (s : Spot) (j : ℕ) → ArePlainItems is
      → ItemsStand h.source a j is
      → Settled h s j (span (form.super_form is (form.there b))) (gen (within h o) s r (form.super_form is (form.there b)))
      → Settled h s j (over_items how_many is) (arguments_code (within h o) s r is)
      × Settled h (past_arguments h o r s is) (past_items j is) (span b)
      (gen (within h o) (past_arguments h o r s is) (r + 1 + registers_of (passing is)) b)
  super_settled is b o r s j plain st y =
      let k = over_items how_many is in
      let d = within h o in
      let t = arguments_code d s r is in
      let u = gen d (past s t) (r + 1 + registers_of (passing is)) b in
      let q = does (op.Super r (count_operand (passing is))) in
      let args = passed_bodies k (passing is) (λ c v l. pass_in_registers c v l is) (λ c v l. gather c v l is)
      (bodies_in_items is plain) (bodies_in_elements is plain) in (
        settled_first h s j (k + span b) k t (u ⊕ q) (omega arith) y,
        settled_from h (past s t) (j + k) (past_items j is) (span b) u (sym (behind_items j is))
            (settled_first h (past s t) (j + k) (span b) (span b) u q (omega arith)
            (settled_then h s j (k + span b) k (span b) t (u ⊕ q) (args d s r).long
            (closed_items h.source is plain a j st) (omega arith) y)),
      )

  pub super_alone_settled : (is : Items) (o : Option Loop) (r : ℕ) (s : Spot) (j : ℕ)
      → passing is ≡ passed.InRegisters (item_count is)
      → Settled h s j (span (form.super_form is form.absent)) (gen (within h o) s r (form.super_form is form.absent))
      → Settled h s j (over_items how_many is) (pass_in_registers (within h o) s (r + 1) is)
  super_alone_settled is o r s j few y =
      let k = over_items how_many is in
      let d = within h o in
      let t = arguments_code d s r is in
      let rest = own_block (past s t) (r + 1 + registers_of (passing is)) ⊕ does (op.Super r (count_operand (passing is))) in
      subst (λ (g : Passing). Settled h s j k
      (passed_by g (λ c v l. pass_in_registers c v l is) (λ c v l. gather c v l is) d s r)) few
      (settled_first h s j (k + 0) k t rest (omega arith) y)

  -- the test of a loop and its body
  pub test_settled : (s : Spot) (j r : ℕ) (t b : CoreForm) → IsPlain t → FormStands h.source (within_loop a) j t
      → (o : Option Loop)
      → Settled h s j (span t + span b) (gen (within h o) s r (form.while_form false t b))
      → Settled h (behind (behind s)) j (span t)
      (gen (within h (Some (loop_of r s))) (behind (behind s)) r t)
      × Settled h (behind (past_form h (Some (loop_of r s)) r (behind (behind s)) t)) (j + span t) (span b)
      (gen (within h (Some (loop_of r s))) (behind (past_form h (Some (loop_of r s)) r (behind (behind s)) t)) r b)
  test_settled s j r t b plain st o y =
      let w = within_loop a in
      let n = span t + span b in
      let d = within h (Some (loop_of r s)) in
      let u = behind (behind s) in
      let p = gen d u r t in
      let v = behind (past u p) in
      let q = gen d v r b in
      let back = jump u.line in
      let skip = line.JumpNot r (past v (q ⊕ back)).line in
      let rest = puts skip ⊕ q ⊕ back in
      let load = does (op.LoadNil r) in
      let whole = (p ⊕ rest) ⊕ load in
      let out = line.Jump (past u whole).line in
      let z = settled_first h u j n n (p ⊕ rest) load (omega arith)
      (settled_behind h (behind s) j n out whole
      (settled_behind h s j n (line.Jump u.line) (puts out ⊕ whole)
      y)) in (
        settled_first h u j n (span t) p rest (omega arith) z,
        settled_first h v (j + span t) (span b) (span b) q back (omega arith)
            (settled_behind h (past u p) (j + span t) (span b) skip (q ⊕ back)
            (settled_then h u j n (span t) (span b) p rest (bodies_of t plain d u r).long
            (closed h.source t plain w j st) (omega arith) z)),
      )

  pub body_settled : (s : Spot) (j r : ℕ) (t b : CoreForm) → IsPlain b → span t ≡ 0
      → FormStands h.source (within_loop a) (j + span t) b → (o : Option Loop)
      → Settled h s j (span t + span b) (gen (within h o) s r (form.while_form true t b))
      → Settled h (past_body h r s b) j (span t)
      (gen (within h (Some (loop_of r s))) (past_body h r s b) r t)
      × Settled h (behind (behind (behind s))) (j + span t) (span b)
      (gen (within h (Some (loop_of r s))) (behind (behind (behind s))) r b)
  body_settled s j r t b plain none st o y =
      let w = within_loop a in
      let n = span t + span b in
      let d = within h (Some (loop_of r s)) in
      let u = behind (behind s) in
      let v = behind u in
      let q = gen d v r b in
      let leap = line.Jump (past v q).line in
      let p = gen d (past u (puts leap ⊕ q)) r t in
      let again = jump_if r v.line in
      let load = does (op.LoadNil r) in
      let whole = ((puts leap ⊕ q) ⊕ p ⊕ again) ⊕ load in
      let out = line.Jump (past u whole).line in
      let z = settled_first h u j n n ((puts leap ⊕ q) ⊕ p ⊕ again) load (omega arith)
      (settled_behind h (behind s) j n out whole
      (settled_behind h s j n (line.Jump v.line) (puts out ⊕ whole)
      y)) in
      let same : j + span t ≡ j = omega (arith, none) in
      let later = settled_first h (past u (puts leap ⊕ q)) (j + span b) (span t) (span t) p again (omega arith)
      (settled_then h u j n (span b) (span t) (puts leap ⊕ q) (p ⊕ again)
      (bodies_begins (span b) leap q (bodies_of b plain d v r)).long
      (closed_from h.source (j + span t) j (span b) same (closed h.source b plain w (j + span t) st)) (omega arith) z)
      in (
        record {
          inside = inside_first h.source h.context.scopes j n (span t) (omega arith) z.inside;
          number = λ lt. absurd (omega (arith, lt, none));
          stands = later.stands;
        },
        settled_from h v j (j + span t) (span b) q (sym same)
            (settled_behind h u j (span b) leap q
            (settled_first h u j n (span b) (puts leap ⊕ q) (p ⊕ again) (omega arith) z)),
      )
