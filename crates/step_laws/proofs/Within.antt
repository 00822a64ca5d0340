-- The entries of the code of a form cover lines of that code alone, whichever form it is.
use Rattle.std.proofs.Common.{ℕ, ◌+◌, List, [], arith, Bool, true, false}
use Rattle.std.specs.Prelude.{Option, Some, None}
use Rattle.rite_code.specs.declared.code.Irep.{Irep}
use Rattle.rite_code.specs.declared.operation.Operation.{Operation}
use Rattle.rite_code.specs.declared.operation.Operation.TheVariants as op
use Rattle.ir_core.specs.CoreForm as form
use Rattle.ir_core.specs.CoreForm.{CoreForm, Maybe, Forms, Items, Pairs, Branches, Clauses, Receiver}
use Rattle.gen_parts.specs.declared.line.Line.{Line}
use Rattle.gen_parts.specs.declared.line.Line.TheVariants as line
use Rattle.gen_parts.specs.declared.emitter.Spot.{Spot}
use Rattle.gen_parts.specs.declared.emitter.Held.{Held}
use Rattle.gen_parts.specs.declared.emitter.Held.TheVariants as held
use Rattle.gen_parts.specs.Emission.{line_by}
use Rattle.gen_parts.specs.Pieces.{Piece, past, behind, puts, makes, does, jump, jump_if, jump_not, leave, ◌⊕◌}
use Rattle.gen_forms.specs.declared.context.Loop.{Loop}
use Rattle.gen_forms.specs.declared.calls.Passing.{Passing}
use Rattle.gen_forms.specs.declared.calls.Passing.TheVariants as passed
use Rattle.gen_forms.specs.Gen.{Code, Context, gen, in_turn, others_in_turn, choose, gather, gather_pairs, gather_text, pass_in_registers, gen_receiver, gen_maybe, gen_scope, gen_parent, super_block, handle, test_classes, test_others, test_of, passing, passed_by, count_operand, registers_of, called_by, operates, send, symbol, over, own_block, loop, in_loop, in_clause, range_by, break_by, next_by, text_entry, body_then, rescued_by, ensured_by, has_clauses, is_given}
use Rattle.step_laws.specs.Standing.{high}
use Rattle.step_laws.specs.Passed.{arguments_code}
use Rattle.step_laws.proofs.Placed.{Keeps, high-both, line-past}
use Rattle.step_laws.proofs.Guards.{within_both, within_puts, within_nothing, within_makes, within_caught}

-- a code, wherever it stands
abbrev pub KeepsCode : Code → Type 0
KeepsCode k = (c : Context) (s : Spot) (r : ℕ) → Keeps s (k c s r)

pub keeps_both : (s : Spot) (p q : Piece) → Keeps s p → Keeps (past s p) q → Keeps s (p ⊕ q)
unfolding past high
keeps_both s p q x y = within_both s.line p q x y

pub keeps_ends : (s : Spot) (p : Piece) (l : Line) → Keeps s p → Keeps s (p ⊕ puts l)
keeps_ends s p l x = keeps_both s p (puts l) x (within_puts (past s p).line l)

pub keeps_begins : (s : Spot) (l : Line) (p : Piece) → Keeps (behind s) p → Keeps s (puts l ⊕ p)
unfolding behind puts high
keeps_begins s l p x = within_both s.line (puts l) p (within_puts s.line l) x

keeps_over : (h : Held) (s : Spot) (next : Spot → Piece) → ((u : Spot) → Keeps u (next u)) → Keeps s (over h s next)
keeps_over h s next f =
    keeps_begins s (line_by h (past (behind s) (next (behind s))).line) (next (behind s)) (f (behind s))

pub own_keeps : (s : Spot) (r : ℕ) → Keeps s (own_block s r)
own_keeps s r =
    let p = does (op.Defined r 6 0) in
    keeps_both s p (over (held.JumpNot r) (past s p) (λ t. does (op.BlkPush r)))
    (within_puts s.line (line.Does (op.Defined r 6 0)))
    (keeps_over (held.JumpNot r) (past s p) (λ t. does (op.BlkPush r))
    (λ u. within_puts u.line (line.Does (op.BlkPush r))))

array_keeps : (gathered : Code) → KeepsCode gathered → (c : Context) (s : Spot) (r : ℕ)
    → Keeps s (does (op.Array r 0) ⊕ gathered c (past s (does (op.Array r 0))) r)
array_keeps gathered f c s r =
    let p = does (op.Array r 0) in
    keeps_both s p (gathered c (past s p) r) (within_puts s.line (line.Does (op.Array r 0))) (f c (past s p) r)

pub passed_keeps : (g : Passing) (each gathered : Code) → KeepsCode each → KeepsCode gathered
    → KeepsCode (passed_by g each gathered)
passed_keeps (passed.InRegisters i) each gathered e f c s r = e c s (r + 1)
passed_keeps (passed.InArrayOf i) each gathered e f c s r =
    keeps_ends s (each c s (r + 1)) (line.Does (op.Array (r + 1) i)) (e c s (r + 1))
passed_keeps passed.InArray each gathered e f c s r = array_keeps gathered f c s (r + 1)

called_keeps : (o : Option Operation) (receiver each arguments block : Code) (i : ℕ) (q : Operation)
    → KeepsCode receiver → KeepsCode each → KeepsCode arguments → KeepsCode block
    → KeepsCode (called_by o receiver each arguments block i q)
called_keeps (Some o) receiver each arguments block i q a b d e c s r =
    let p = receiver c s r in
    let t = each c (past s p) (r + 1) in
    keeps_both s p (t ⊕ does o) (a c s r) (keeps_ends (past s p) t (line.Does o) (b c (past s p) (r + 1)))
called_keeps None receiver each arguments block i q a b d e c s r =
    let p = receiver c s r in
    let t = arguments c (past s p) r in
    let g = p ⊕ t in
    let u = block c (past s g) (r + 1 + i) in
    keeps_both s g (u ⊕ does q) (keeps_both s p t (a c s r) (d c (past s p) r))
    (keeps_ends (past s g) u (line.Does q) (e c (past s g) (r + 1 + i)))

loop_keeps : (first : Bool) (t b : Code) → KeepsCode t → KeepsCode b → KeepsCode (loop first t b)
loop_keeps false t b e f c s r =
    let start = behind (behind s) in
    let inside = in_loop c (record { value = r; out = (behind s).line; round = start.line }) in
    let p = t inside start r in
    let next : Spot → Piece = λ v. b inside v r ⊕ jump start.line in
    let rest = over (held.JumpNot r) (past start p) next in
    let whole = (p ⊕ rest) ⊕ does (op.LoadNil r) in
    keeps_begins s (line.Jump start.line) (puts (line.Jump (past start whole).line) ⊕ whole)
    (keeps_begins (behind s) (line.Jump (past start whole).line) whole
    (keeps_ends start (p ⊕ rest) (line.Does (op.LoadNil r))
    (keeps_both start p rest (e inside start r)
    (keeps_over (held.JumpNot r) (past start p) next
    (λ v. keeps_ends v (b inside v r) (line.Jump start.line) (f inside v r))))))
loop_keeps true t b e f c s r =
    let round = behind (behind s) in
    let inside = in_loop c (record { value = r; out = (behind s).line; round = round.line }) in
    let next : Spot → Piece = λ v. b inside v r in
    let q = over held.Jump round next in
    let p = t inside (past round q) r in
    let whole = (q ⊕ p ⊕ jump_if r (behind round).line) ⊕ does (op.LoadNil r) in
    keeps_begins s (line.Jump (behind round).line) (puts (line.Jump (past round whole).line) ⊕ whole)
    (keeps_begins (behind s) (line.Jump (past round whole).line) whole
    (keeps_ends round (q ⊕ p ⊕ jump_if r (behind round).line) (line.Does (op.LoadNil r))
    (keeps_both round q (p ⊕ jump_if r (behind round).line)
    (keeps_over held.Jump round next (λ v. f inside v r))
    (keeps_ends (past round q) p (line.JumpIf r (behind round).line) (e inside (past round q) r)))))

break_keeps : (s : Spot) (p : Piece) (o : Option Loop) (r : ℕ) → Keeps s p → Keeps s (p ⊕ break_by o r)
break_keeps s p None r x = keeps_ends s p (line.Does (op.Break r)) x
break_keeps s p (Some l) r x =
    keeps_both s p (does (op.Move l.value r) ⊕ leave l.out) x
    (keeps_ends (past s p) (does (op.Move l.value r)) (line.Leave l.out) (within_puts _ _))

next_keeps : (s : Spot) (p : Piece) (o : Option Loop) (r : ℕ) → Keeps s p → Keeps s (p ⊕ next_by o r)
next_keeps s p None r x = keeps_ends s p (line.Does (op.Return r)) x
next_keeps s p (Some l) r x = keeps_ends s p (line.Leave l.round) x

-- A body with clauses, and with an ensure part.

then_keeps : (b o : Code) → KeepsCode b → KeepsCode o → KeepsCode (body_then b o)
then_keeps b o e f c s r =
    let p = b c s r in keeps_both s p (o c (past s p) r) (e c s r) (f c (past s p) r)

rescued_keeps : (has : Bool) (b o handlers : Code) → KeepsCode b → KeepsCode o → KeepsCode handlers
    → KeepsCode (rescued_by has b o handlers)
rescued_keeps false b o handlers e f g c s r = then_keeps b o e f c s r
rescued_keeps true b o handlers e f g c s r =
    let p = b c s r in
    let t = o c (past s p) r in
    let q = p ⊕ t in
    let x = does (op.Except (r + 1)) in
    let next : Spot → Piece = λ u. x ⊕ handlers (in_clause c (r + 1) s.line) (past u x) r in
    let w = over held.Jump (past s q) next in
    within_caught s.line
    (record { rescue = true; begin = s.line; end = (past s p).line; target = (behind (past s q)).line }) (q ⊕ w)
    (omega arith) (omega (arith, line-past s p)) (omega (arith, line-past s p, high-both p t, high-both q w))
    (keeps_both s q w (then_keeps b o e f c s r)
    (keeps_over held.Jump (past s q) next
    (λ u. keeps_both u x (handlers (in_clause c (r + 1) s.line) (past u x) r)
    (within_puts u.line (line.Does (op.Except (r + 1)))) (g (in_clause c (r + 1) s.line) (past u x) r))))

ensured_keeps : (has : Bool) (k e : Code) → KeepsCode k → KeepsCode e → KeepsCode (ensured_by has k e)
ensured_keeps false k e f g c s r = f c s r
ensured_keeps true k e f g c s r =
    let p = k c s r in
    let start = (past s p).line in
    let x = does (op.Except (r + 1)) in
    let q = p ⊕ x in
    let t = e c (past s q) (r + 2) in
    let w = t ⊕ does (op.RaiseIf (r + 1)) in
    within_caught s.line (record { rescue = false; begin = s.line; end = start; target = start }) (q ⊕ w)
    (omega arith) (omega (arith, line-past s p)) (omega (arith, line-past s p, high-both p x, high-both q w))
    (keeps_both s q w (keeps_ends s p (line.Does (op.Except (r + 1))) (f c s r))
    (keeps_ends (past s q) t (line.Does (op.RaiseIf (r + 1))) (g c (past s q) (r + 2))))

test_keeps : (e : Code) → KeepsCode e → KeepsCode (test_of e)
test_keeps e f c s r = keeps_ends s (e c s (r + 2)) (line.Does (op.Rescue (r + 1) (r + 2))) (f c s (r + 2))

-- an instruction that makes a body, behind a piece
makes_keeps : (s : Spot) (p : Piece) (o : Operation) (i : ℕ) (bodies : List Irep) → Keeps s p
    → Keeps s (p ⊕ makes o i bodies)
makes_keeps s p o i bodies x = keeps_both s p (makes o i bodies) x (within_makes (past s p).line o i bodies)

-- two forms and an instruction
two_keep : (a b : CoreForm) (o : Operation) → KeepsCode (λ c s r. gen c s r a) → KeepsCode (λ c s r. gen c s r b)
    → (c : Context) (s : Spot) (r : ℕ)
    → Keeps s ((gen c s r a ⊕ gen c (past s (gen c s r a)) (r + 1) b) ⊕ does o)
two_keep a b o e f c s r =
    let p = gen c s r a in
    let q = gen c (past s p) (r + 1) b in
    keeps_ends s (p ⊕ q) (line.Does o) (keeps_both s p q (e c s r) (f c (past s p) (r + 1)))

mutual
  pub keeps : (e : CoreForm) → KeepsCode (λ c s r. gen c s r e)
  keeps form.nil c s r = within_puts s.line _
  keeps form.truth c s r = within_puts s.line _
  keeps form.falsehood c s r = within_puts s.line _
  keeps form.self_ref c s r = within_puts s.line _
  keeps (form.int z) c s r = within_puts s.line _
  keeps (form.str t) c s r = within_puts s.line _
  keeps (form.sym x) c s r = within_puts s.line _
  keeps (form.local x) c s r = within_puts s.line _
  keeps (form.own x) c s r = within_puts s.line _
  keeps form.exception c s r = within_puts s.line _
  keeps (form.set_local x e) c s r = keeps_ends s (gen c s r e) _ (keeps e c s r)
  keeps (form.ivar x) c s r = within_puts s.line _
  keeps (form.set_ivar x e) c s r = keeps_ends s (gen c s r e) _ (keeps e c s r)
  keeps (form.gvar x) c s r = within_puts s.line _
  keeps (form.set_gvar x e) c s r = keeps_ends s (gen c s r e) _ (keeps e c s r)
  keeps (form.constant x) c s r = within_puts s.line _
  keeps (form.top_constant x) c s r = keeps_ends s (does (op.OClass r 0)) _ (within_puts s.line _)
  keeps (form.in_constant e x) c s r = keeps_ends s (gen c s r e) _ (keeps e c s r)
  keeps (form.set_constant x e) c s r = keeps_ends s (gen c s r e) _ (keeps e c s r)
  keeps (form.set_in_constant e x v) c s r = two_keep e v (op.SetMCnst r (symbol c x)) (keeps e) (keeps v) c s r
  keeps (form.array is) c s r = array_keeps (λ d t n. gather d t n is) (elements_keep is) c s r
  keeps (form.hash ps) c s r =
      let p = does (op.Hash r 0) in
      keeps_both s p (gather_pairs c (past s p) r ps) (within_puts s.line _) (pairs_keep ps c (past s p) r)
  keeps (form.range a b x) c s r = two_keep a b (range_by x r) (keeps a) (keeps b) c s r
  keeps (form.text es) c s r =
      let p = does (op.String r (text_entry c [])) in
      keeps_both s p (gather_text c (past s p) r es) (within_puts s.line _) (text_keeps es c (past s p) r)
  keeps (form.intern e) c s r = keeps_ends s (gen c s r e) _ (keeps e c s r)
  keeps (form.seq es) c s r = turns_keep es c s r
  keeps (form.cond bs o) c s r = choice_keeps bs (λ d t n. gen d t n o) (keeps o) c s r
  keeps (form.and_form a b) c s r =
      let p = gen c s r a in
      keeps_both s p (over (held.JumpNot r) (past s p) (λ t. gen c t r b)) (keeps a c s r)
      (keeps_over (held.JumpNot r) (past s p) (λ t. gen c t r b) (λ u. keeps b c u r))
  keeps (form.or_form a b) c s r =
      let p = gen c s r a in
      keeps_both s p (over (held.JumpIf r) (past s p) (λ t. gen c t r b)) (keeps a c s r)
      (keeps_over (held.JumpIf r) (past s p) (λ t. gen c t r b) (λ u. keeps b c u r))
  keeps (form.while_form first t b) c s r =
      loop_keeps first (λ d u n. gen d u n t) (λ d u n. gen d u n b) (keeps t) (keeps b) c s r
  keeps (form.call e x is m) c s r =
      let each : Code = λ d t n. pass_in_registers d t n is in
      let spread : Code = λ d t n. gather d t n is in
      called_keeps (operates m e x is r) (λ d t n. gen_receiver d t n e) each (passed_by (passing is) each spread)
      (λ d t n. gen_maybe d t n m) (registers_of (passing is)) (send (is_given m) e (passing is) r (symbol c x))
      (receiver_keeps e) (items_keep is)
      (passed_keeps (passing is) each spread (items_keep is) (elements_keep is)) (maybe_keeps m) c s r
  keeps (form.yield_form is) c s r =
      let each : Code = λ d t n. pass_in_registers d t n is in
      let spread : Code = λ d t n. gather d t n is in
      let p = does (op.BlkPush r) in
      let o = op.Call r (count_operand (passing is)) in
      let q = passed_by (passing is) each spread c (past s p) r in
      keeps_both s p (q ⊕ does o) (within_puts s.line _) (keeps_ends (past s p) q (line.Does o)
      (passed_keeps (passing is) each spread (items_keep is) (elements_keep is) c (past s p) r))
  keeps (form.super_form is m) c s r =
      let each : Code = λ d t n. pass_in_registers d t n is in
      let spread : Code = λ d t n. gather d t n is in
      let p = passed_by (passing is) each spread c s r in
      let q = super_block c (past s p) (r + 1 + registers_of (passing is)) m in
      let o = op.Super r (count_operand (passing is)) in
      keeps_both s p (q ⊕ does o) (passed_keeps (passing is) each spread (items_keep is) (elements_keep is) c s r)
      (keeps_ends (past s p) q (line.Does o) (block_keeps m c (past s p) (r + 1 + registers_of (passing is))))
  keeps (form.function f) c s r = within_makes s.line _ _ _
  keeps (form.lambda f) c s r = within_makes s.line _ _ _
  keeps (form.begin_form b cs o e) c s r =
      let body : Code = λ d t n. gen d t n b in
      let otherwise : Code = λ d t n. gen_maybe d t n o in
      let handlers : Code = λ d t n. handle d t n cs in
      let ending : Code = λ d t n. gen_maybe d t n e in
      ensured_keeps (is_given e) (rescued_by (has_clauses cs) body otherwise handlers) ending
      (rescued_keeps (has_clauses cs) body otherwise handlers (keeps b) (maybe_keeps o) (clauses_keep cs))
      (maybe_keeps e) c s r
  keeps (form.return_form e) c s r = keeps_ends s (gen c s r e) _ (keeps e c s r)
  keeps (form.break_form e) c s r = break_keeps s (gen c s r e) c.loop r (keeps e c s r)
  keeps (form.next_form e) c s r = next_keeps s (gen c s r e) c.loop r (keeps e c s r)
  keeps form.retry c s r = within_puts s.line _
  keeps (form.define x f) c s r = makes_keeps s (does (op.TClass r)) _ _ _ (within_puts s.line _)
  keeps (form.define_on e x f) c s r =
      makes_keeps s (gen c s r e ⊕ does (op.SClass r)) _ _ _ (keeps_ends s (gen c s r e) _ (keeps e c s r))
  keeps (form.class_form k x p f) c s r =
      let q = gen_scope c s r k in
      let u = gen_parent c (past s q) (r + 1) p in
      makes_keeps s (q ⊕ u ⊕ does (op.Class r (symbol c x))) _ _ _
      (keeps_both s q (u ⊕ does (op.Class r (symbol c x))) (scope_keeps k c s r)
      (keeps_ends (past s q) u _ (parent_keeps p c (past s q) (r + 1))))
  keeps (form.module_form k x f) c s r =
      makes_keeps s (gen_scope c s r k ⊕ does (op.Module r (symbol c x))) _ _ _
      (keeps_ends s (gen_scope c s r k) _ (scope_keeps k c s r))
  keeps (form.singleton_class e f) c s r =
      makes_keeps s (gen c s r e ⊕ does (op.SClass r)) _ _ _ (keeps_ends s (gen c s r e) _ (keeps e c s r))
  keeps (form.alias_form x y) c s r =
      keeps_ends s (does (op.Alias (symbol c x) (symbol c y))) _ (within_puts s.line _)
  keeps (form.undef_form x) c s r = keeps_ends s (does (op.Undef (symbol c x))) _ (within_puts s.line _)
  keeps (form.defined q x form.absent) c s r = within_puts s.line _
  keeps (form.defined q x (form.there e)) c s r = keeps_ends s (gen c s r e) _ (keeps e c s r)
  keeps (form.item e q) c s r = keeps_ends s (gen c s r e) _ (keeps e c s r)
  keeps (form.rest_of e from post) c s r = keeps_ends s (gen c s r e) _ (keeps e c s r)
  keeps (form.tail_of e from count) c s r = keeps_ends s (gen c s r e) _ (keeps e c s r)

  pub maybe_keeps : (m : Maybe) → KeepsCode (λ c s r. gen_maybe c s r m)
  maybe_keeps form.absent c s r = within_nothing s.line
  maybe_keeps (form.there e) c s r = keeps e c s r

  pub block_keeps : (m : Maybe) → KeepsCode (λ c s r. super_block c s r m)
  block_keeps form.absent c s r = own_keeps s r
  block_keeps (form.there e) c s r = keeps e c s r

  pub scope_keeps : (m : Maybe) → KeepsCode (λ c s r. gen_scope c s r m)
  scope_keeps form.absent c s r = within_puts s.line _
  scope_keeps (form.there e) c s r = keeps e c s r

  pub parent_keeps : (m : Maybe) → KeepsCode (λ c s r. gen_parent c s r m)
  parent_keeps form.absent c s r = within_puts s.line _
  parent_keeps (form.there e) c s r = keeps e c s r

  pub receiver_keeps : (e : Receiver) → KeepsCode (λ c s r. gen_receiver c s r e)
  receiver_keeps (form.to e) c s r = keeps e c s r
  receiver_keeps form.on_self c s r = within_nothing s.line
  receiver_keeps form.bare c s r = within_nothing s.line

  pub turns_keep : (es : Forms) → KeepsCode (λ c s r. in_turn c s r es)
  turns_keep form.none c s r = within_puts s.line _
  turns_keep (form.more e es) c s r =
      let p = gen c s r e in
      keeps_both s p (others_in_turn c (past s p) r es) (keeps e c s r) (others_keep es c (past s p) r)

  pub others_keep : (es : Forms) → KeepsCode (λ c s r. others_in_turn c s r es)
  others_keep form.none c s r = within_nothing s.line
  others_keep (form.more e es) c s r =
      let p = gen c s r e in
      keeps_both s p (others_in_turn c (past s p) r es) (keeps e c s r) (others_keep es c (past s p) r)

  pub choice_keeps : (bs : Branches) (o : Code) → KeepsCode o → KeepsCode (λ c s r. choose c s r bs o)
  choice_keeps form.no_branches o k c s r = k c s r
  choice_keeps (form.branch t b bs) o k c s r =
      let p = gen c s r t in
      let body = behind (past s p) in
      let q = gen c body r b in
      let further = behind (past body q) in
      let others = choose c further r bs o in
      let leap = jump (past further others).line in
      keeps_both s p (jump_not r further.line ⊕ q ⊕ leap ⊕ others) (keeps t c s r)
      (keeps_begins (past s p) (line.JumpNot r further.line) (q ⊕ leap ⊕ others)
      (keeps_both body q (leap ⊕ others) (keeps b c body r)
      (keeps_begins (past body q) (line.Jump (past further others).line) others
      (choice_keeps bs o k c further r))))

  pub items_keep : (is : Items) → KeepsCode (λ c s r. pass_in_registers c s r is)
  items_keep form.no_items c s r = within_nothing s.line
  items_keep (form.plain e is) c s r =
      let p = gen c s r e in
      keeps_both s p (pass_in_registers c (past s p) (r + 1) is) (keeps e c s r) (items_keep is c (past s p) (r + 1))
  items_keep (form.splat e is) c s r =
      let p = gen c s r e in
      keeps_both s p (pass_in_registers c (past s p) (r + 1) is) (keeps e c s r) (items_keep is c (past s p) (r + 1))

  pub elements_keep : (is : Items) → KeepsCode (λ c s r. gather c s r is)
  elements_keep form.no_items c s r = within_nothing s.line
  elements_keep (form.plain e is) c s r =
      let p = gen c s (r + 1) e ⊕ does (op.AryPush r 1) in
      keeps_both s p (gather c (past s p) r is) (keeps_ends s (gen c s (r + 1) e) _ (keeps e c s (r + 1)))
      (elements_keep is c (past s p) r)
  elements_keep (form.splat e is) c s r =
      let p = gen c s (r + 1) e ⊕ does (op.AryCat r) in
      keeps_both s p (gather c (past s p) r is) (keeps_ends s (gen c s (r + 1) e) _ (keeps e c s (r + 1)))
      (elements_keep is c (past s p) r)

  pub pairs_keep : (ps : Pairs) → KeepsCode (λ c s r. gather_pairs c s r ps)
  pairs_keep form.no_pairs c s r = within_nothing s.line
  pairs_keep (form.pair a b ps) c s r =
      let p = gen c s (r + 1) a in
      let q = gen c (past s p) (r + 1 + 1) b in
      let one = (p ⊕ q) ⊕ does (op.HashAdd r 1) in
      keeps_both s one (gather_pairs c (past s one) r ps)
      (keeps_ends s (p ⊕ q) _ (keeps_both s p q (keeps a c s (r + 1)) (keeps b c (past s p) (r + 1 + 1))))
      (pairs_keep ps c (past s one) r)

  pub text_keeps : (es : Forms) → KeepsCode (λ c s r. gather_text c s r es)
  text_keeps form.none c s r = within_nothing s.line
  text_keeps (form.more e es) c s r =
      let p = gen c s (r + 1) e ⊕ does (op.StrCat r) in
      keeps_both s p (gather_text c (past s p) r es) (keeps_ends s (gen c s (r + 1) e) _ (keeps e c s (r + 1)))
      (text_keeps es c (past s p) r)

  pub clauses_keep : (cs : Clauses) → KeepsCode (λ c s r. handle c s r cs)
  clauses_keep form.no_clauses c s r = within_puts s.line _
  clauses_keep (form.clause es t d cs) c s r =
      let tests = test_classes c s r es in
      let taken = behind (past s tests) in
      let p = gen_maybe c taken (r + 2) t in
      let b = gen c (past taken p) r d in
      let q = p ⊕ b in
      let further = behind (past taken q) in
      let others = handle c further r cs in
      let leap = jump (past further others).line in
      keeps_both s tests (jump_not (r + 2) further.line ⊕ q ⊕ leap ⊕ others) (classes_keep es c s r)
      (keeps_begins (past s tests) (line.JumpNot (r + 2) further.line) (q ⊕ leap ⊕ others)
      (keeps_both taken q (leap ⊕ others)
      (keeps_both taken p b (maybe_keeps t c taken (r + 2)) (keeps d c (past taken p) r))
      (keeps_begins (past taken q) (line.Jump (past further others).line) others (clauses_keep cs c further r))))

  pub classes_keep : (es : Forms) → KeepsCode (λ c s r. test_classes c s r es)
  classes_keep form.none c s r = keeps_ends s (does (op.OClass (r + 2) 1)) _ (within_puts s.line _)
  classes_keep (form.more e es) c s r =
      let p = test_of (λ d t n. gen d t n e) c s r in
      keeps_both s p (test_others c (past s p) r es) (test_keeps (λ d t n. gen d t n e) (keeps e) c s r)
      (others_tested es c (past s p) r)

  pub others_tested : (es : Forms) → KeepsCode (λ c s r. test_others c s r es)
  others_tested form.none c s r = within_nothing s.line
  others_tested (form.more e es) c s r =
      let test : Code = test_of (λ d t n. gen d t n e) in
      let next : Spot → Piece = λ u. test c u r ⊕ test_others c (past u (test c u r)) r es in
      keeps_over (held.JumpIf (r + 2)) s next
      (λ u. keeps_both u (test c u r) (test_others c (past u (test c u r)) r es)
      (test_keeps (λ d t n. gen d t n e) (keeps e) c u r) (others_tested es c (past u (test c u r)) r))

-- the arguments of a call, however they are passed
pub arguments_keep : (is : Items) → KeepsCode (λ c s r. arguments_code c s r is)
arguments_keep is =
    passed_keeps (passing is) (λ d t n. pass_in_registers d t n is) (λ d t n. gather d t n is) (items_keep is)
    (elements_keep is)
