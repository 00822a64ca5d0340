-- The code of plain forms makes as many bodies as stand in them.
use Rattle.std.proofs.Common.{◌≡◌, ℕ, ◌+◌, List, [], ◌∷◌, length, arith, refl, ap, length-append, Bool, true, false}
use Rattle.std.specs.Prelude.{pos, neg_ℤ, is_some, Option, Some, None}
use Rattle.rite_code.specs.declared.code.Irep.{Irep}
use Rattle.rite_code.specs.declared.operation.Operation.{Operation}
use Rattle.rite_code.specs.declared.operation.Operation.TheVariants as op
use Rattle.ir_core.specs.CoreForm as form
use Rattle.ir_core.specs.CoreForm.{Name, CoreForm, Maybe, Forms, Items, Pairs, Branches, Receiver}
use Rattle.ir_counts.specs.Counts.{tally}
use Rattle.scope_resolver.specs.declared.body_kind.BodyKind.{BodyKind}
use Rattle.scope_resolver.specs.declared.body_kind.BodyKind.TheVariants as kind
use Rattle.scope_resolver.specs.Layout.{Scopes, place_of}
use Rattle.gen_parts.specs.declared.line.Line.{Line}
use Rattle.gen_parts.specs.declared.line.Line.TheVariants as line
use Rattle.gen_parts.specs.declared.emitter.Spot.{Spot}
use Rattle.gen_parts.specs.declared.emitter.Held.{Held}
use Rattle.gen_parts.specs.declared.emitter.Held.TheVariants as held
use Rattle.gen_parts.specs.Emission.{line_by}
use Rattle.gen_parts.specs.Pieces.{Piece, past, behind, nothing, both, puts, makes, does, jump, jump_if, jump_not, leave, ◌⊕◌}
use Rattle.gen_forms.specs.declared.context.Loop.{Loop}
use Rattle.gen_forms.specs.declared.calls.Passing.{Passing}
use Rattle.gen_forms.specs.declared.calls.Passing.TheVariants as passed
use Rattle.gen_forms.specs.Gen.{write, in_loop, Code, Context, gen, in_turn, others_in_turn, choose, gather, pass_in_registers, gen_receiver, gen_maybe, gen_scope, gen_parent, passing, passed_by, count_operand, registers_of, called_by, operates, send, symbol, over, own_block, loop, range_by, break_by, next_by, return_by, text_entry, gather_pairs, gather_text, ask, told, opening, first_spot, first_register, body_code, is_given}
use Rattle.def_eval.specs.Source.{over_body, over_maybe, over_forms, over_items, over_pairs, over_branches, over_asked, how_many, span}
use Rattle.step_laws.specs.Plain.{IsPlain, IsPlainBlock, ArePlain, ArePlainItems, ArePlainPairs, ArePlainBranches, IsPlainMaybe}
use Rattle.step_laws.proofs.Spans.{none_asked}
use Rattle.step_laws.proofs.Making.{body_irep, inner_bodies, form_spot, code_of_method, code_of_block, code_of_class}

pub record HasBodies (n : ℕ) (p : Piece) : Type 0 where
  pub long : length p.bodies ≡ n

pub bodies_moved : (m n : ℕ) (p : Piece) → m ≡ n → HasBodies m p → HasBodies n p
bodies_moved m n p e x = record { long = omega (arith, e, x.long) }

pub bodies_both : (m n : ℕ) (p q : Piece) → HasBodies m p → HasBodies n q → HasBodies (m + n) (p ⊕ q)
unfolding both
bodies_both m n p q x y = record { long = omega (arith, length-append p.bodies q.bodies, x.long, y.long) }

pub none_put : (l : Line) → HasBodies 0 (puts l)
unfolding puts
none_put l = record { long = refl }

pub none_there : HasBodies 0 nothing
unfolding nothing
none_there = record { long = refl }

pub bodies_ends : (n : ℕ) (p : Piece) (l : Line) → HasBodies n p → HasBodies n (p ⊕ puts l)
bodies_ends n p l x = bodies_moved (n + 0) n (p ⊕ puts l) (omega arith) (bodies_both n 0 p (puts l) x (none_put l))

pub bodies_begins : (n : ℕ) (l : Line) (p : Piece) → HasBodies n p → HasBodies n (puts l ⊕ p)
bodies_begins n l p x = bodies_moved (0 + n) n (puts l ⊕ p) (omega arith) (bodies_both 0 n (puts l) p (none_put l) x)

-- behind a name
named : (n : ℕ) (p : Piece) → HasBodies n p → HasBodies (0 + n) p
named n p x = bodies_moved n (0 + n) p (omega arith) x

-- a code that has so many wherever it stands
abbrev pub HaveBodies : ℕ → Code → Type 0
HaveBodies n k = (c : Context) (s : Spot) (r : ℕ) → HasBodies n (k c s r)

over_jump : (n : ℕ) (h : Held) (s : Spot) (next : Spot → Piece) → ((u : Spot) → HasBodies n (next u))
    → HasBodies n (over h s next)
over_jump n h s next f =
    bodies_begins n (line_by h (past (behind s) (next (behind s))).line) (next (behind s)) (f (behind s))

pub own_bodies : (s : Spot) (r : ℕ) → HasBodies 0 (own_block s r)
own_bodies s r =
    let p = does (op.Defined r 6 0) in
    bodies_begins 0 (line.Does (op.Defined r 6 0)) (over (held.JumpNot r) (past s p) (λ t. does (op.BlkPush r)))
    (over_jump 0 (held.JumpNot r) (past s p) (λ t. does (op.BlkPush r)) (λ u. none_put (line.Does (op.BlkPush r))))

pub passed_bodies : (n : ℕ) (g : Passing) (each gathered : Code) → HaveBodies n each → HaveBodies n gathered
    → HaveBodies n (passed_by g each gathered)
passed_bodies n (passed.InRegisters i) each gathered e f c s r = e c s (r + 1)
passed_bodies n (passed.InArrayOf i) each gathered e f c s r =
    bodies_ends n (each c s (r + 1)) (line.Does (op.Array (r + 1) i)) (e c s (r + 1))
passed_bodies n passed.InArray each gathered e f c s r =
    let p = does (op.Array (r + 1) 0) in
    bodies_begins n (line.Does (op.Array (r + 1) 0)) (gathered c (past s p) (r + 1)) (f c (past s p) (r + 1))

called_bodies : (m n k : ℕ) (o : Option Operation) (receiver each arguments block : Code) (i : ℕ) (q : Operation)
    → HaveBodies m receiver → HaveBodies n each → HaveBodies n arguments → HaveBodies k block
    → (is_some o ≡ true → k ≡ 0) → HaveBodies (0 + (m + (n + k))) (called_by o receiver each arguments block i q)
called_bodies m n k (Some o) receiver each arguments block i q a b d e none c s r =
    let p = receiver c s r in
    let t = each c (past s p) (r + 1) in
    let zero_there = none refl in
    bodies_moved (m + n) (0 + (m + (n + k))) (p ⊕ t ⊕ does o) (omega (arith, zero_there))
    (bodies_both m n p (t ⊕ does o) (a c s r) (bodies_ends n t (line.Does o) (b c (past s p) (r + 1))))
called_bodies m n k None receiver each arguments block i q a b d e none c s r =
    let p = receiver c s r in
    let t = arguments c (past s p) r in
    let g = p ⊕ t in
    let u = block c (past s g) (r + 1 + i) in
    bodies_moved (m + n + k) (0 + (m + (n + k))) (g ⊕ u ⊕ does q) (omega arith)
    (bodies_both (m + n) k g (u ⊕ does q) (bodies_both m n p t (a c s r) (d c (past s p) r))
    (bodies_ends k u (line.Does q) (e c (past s g) (r + 1 + i))))

loop_bodies : (m n : ℕ) (first : Bool) (t b : Code) → HaveBodies m t → HaveBodies n b
    → HaveBodies (m + n) (loop first t b)
loop_bodies m n false t b e f c s r =
    let start = behind (behind s) in
    let inside = in_loop c (record { value = r; out = (behind s).line; round = start.line }) in
    let p = t inside start r in
    let next : Spot → Piece = λ v. b inside v r ⊕ jump start.line in
    let rest = over (held.JumpNot r) (past start p) next in
    let whole = (p ⊕ rest) ⊕ does (op.LoadNil r) in
    bodies_begins (m + n) (line.Jump start.line) (puts (line.Jump (past start whole).line) ⊕ whole)
    (bodies_begins (m + n) (line.Jump (past start whole).line) whole
    (bodies_ends (m + n) (p ⊕ rest) (line.Does (op.LoadNil r))
    (bodies_both m n p rest (e inside start r)
    (over_jump n (held.JumpNot r) (past start p) next
    (λ v. bodies_ends n (b inside v r) (line.Jump start.line) (f inside v r))))))
loop_bodies m n true t b e f c s r =
    let round = behind (behind s) in
    let inside = in_loop c (record { value = r; out = (behind s).line; round = round.line }) in
    let next : Spot → Piece = λ v. b inside v r in
    let q = over held.Jump round next in
    let p = t inside (past round q) r in
    let whole = (q ⊕ p ⊕ jump_if r (behind round).line) ⊕ does (op.LoadNil r) in
    bodies_moved (n + m) (m + n)
    (jump (behind round).line ⊕ puts (line.Jump (past round whole).line) ⊕ whole) (omega arith)
    (bodies_begins (n + m) (line.Jump (behind round).line) (puts (line.Jump (past round whole).line) ⊕ whole)
    (bodies_begins (n + m) (line.Jump (past round whole).line) whole
    (bodies_ends (n + m) (q ⊕ p ⊕ jump_if r (behind round).line) (line.Does (op.LoadNil r))
    (bodies_both n m q (p ⊕ jump_if r (behind round).line)
    (over_jump n held.Jump round next (λ v. f inside v r))
    (bodies_ends m p (line.JumpIf r (behind round).line) (e inside (past round q) r))))))

break_bodies : (n : ℕ) (p : Piece) (o : Option Loop) (r : ℕ) → HasBodies n p → HasBodies n (p ⊕ break_by o r)
break_bodies n p None r x = bodies_ends n p (line.Does (op.Break r)) x
break_bodies n p (Some l) r x =
    bodies_moved (n + 0) n (p ⊕ break_by (Some l) r) (omega arith)
    (bodies_both n 0 p (does (op.Move l.value r) ⊕ leave l.out) x
    (bodies_ends 0 (does (op.Move l.value r)) (line.Leave l.out) (none_put _)))

next_bodies : (n : ℕ) (p : Piece) (o : Option Loop) (r : ℕ) → HasBodies n p → HasBodies n (p ⊕ next_by o r)
next_bodies n p None r x = bodies_ends n p (line.Does (op.Return r)) x
next_bodies n p (Some l) r x = bodies_ends n p (line.Leave l.round) x

-- an operator has no block
unblocked : (m : Maybe) (e : Receiver) (x : Name) (is' : Items) (r : ℕ) → is_some (operates m e x is' r) ≡ true
    → over_maybe how_many m ≡ 0
unblocked form.absent e x is' r some = refl
unblocked (form.there b) e x is' r some = absurd (cc some)

-- a body with those in it
body_made : (o : Operation) (i : ℕ) (k : BodyKind) (sc : Scopes) (n : ℕ) (p : form.Parameters) (ls : List form.Local)
    (f : CoreForm) (bodies : List Irep)
    → bodies ≡ body_irep k sc n (form.body p ls f) ∷ inner_bodies k sc n (form.body p ls f)
    → HaveBodies (span f) (λ c s r. gen c s r f)
    → HasBodies (over_body how_many (form.body p ls f)) (makes o i bodies)
unfolding makes
body_made o i k sc n p ls f bodies is inner =
    let b = form.body p ls f in
    let t = tally b in
    let x = inner (opening k b sc t) (form_spot n (length p.optional)) (first_register k b t) in
    record { long = omega (arith, ap length is, x.long) }

-- that of a class with those in it
class_made : (o : Operation) (i : ℕ) (sc : Scopes) (n : ℕ) (p : form.Parameters) (ls : List form.Local) (f : CoreForm)
    → HaveBodies (span f) (λ c s r. gen c s r f)
    → HasBodies (over_body how_many (form.body p ls f)) (makes o i (body_code kind.Class sc n (form.body p ls f)))
unfolding makes
class_made o i sc n p ls f inner =
    let b = form.body p ls f in
    let t = tally b in
    let x = inner (opening kind.Class b [] t) (first_spot n) (first_register kind.Class b t) in
    record { long = omega (arith, ap length (code_of_class sc n b), x.long) }

-- forms in turn have those of each of them
bodies_in_turn : (n : ℕ) (es : Forms) (c : Context) (s : Spot) (r : ℕ) → HasBodies n (others_in_turn c s r es)
    → HasBodies n (in_turn c s r es)
unfolding puts nothing
bodies_in_turn n form.none c s r x = record { long = x.long }
bodies_in_turn n (form.more e es) c s r x = x

mutual
  -- the scope of a class, and its parent
  pub bodies_in_scope : (m : Maybe) → IsPlainMaybe m → HaveBodies (over_maybe how_many m) (λ c s r. gen_scope c s r m)
  bodies_in_scope form.absent is c s r = none_put _
  bodies_in_scope (form.there e) is c s r = bodies_of e is c s r

  pub bodies_in_parent : (m : Maybe) → IsPlainMaybe m → HaveBodies (over_maybe how_many m) (λ c s r. gen_parent c s r m)
  bodies_in_parent form.absent is c s r = none_put _
  bodies_in_parent (form.there e) is c s r = bodies_of e is c s r

  pub bodies_of : (e : CoreForm) → IsPlain e → HaveBodies (span e) (λ c s r. gen c s r e)
  bodies_of form.nil is c s r = none_put _
  bodies_of form.truth is c s r = none_put _
  bodies_of form.falsehood is c s r = none_put _
  bodies_of form.self_ref is c s r = none_put _
  bodies_of (form.int z) is c s r = none_put _
  bodies_of (form.str t) is c s r = none_put _
  bodies_of (form.sym x) is c s r = none_put _
  bodies_of (form.local x) is c s r = none_put _
  bodies_of (form.own x) is c s r = absurd is
  bodies_of form.exception is c s r = absurd is
  bodies_of (form.set_local x e) is c s r =
      bodies_ends (span e) (gen c s r e) (line.Does (write r (place_of c.scopes x))) (bodies_of e is c s r)
  bodies_of (form.ivar x) is c s r = none_put _
  bodies_of (form.set_ivar x e) is c s r =
      named (span e) (gen c s r e ⊕ does (op.SetIv r (symbol c x)))
      (bodies_ends (span e) (gen c s r e) (line.Does (op.SetIv r (symbol c x))) (bodies_of e is c s r))
  bodies_of (form.gvar x) is c s r = none_put _
  bodies_of (form.set_gvar x e) is c s r =
      named (span e) (gen c s r e ⊕ does (op.SetGv r (symbol c x)))
      (bodies_ends (span e) (gen c s r e) (line.Does (op.SetGv r (symbol c x))) (bodies_of e is c s r))
  bodies_of (form.constant x) is c s r = none_put _
  bodies_of (form.top_constant x) is c s r =
      bodies_ends 0 (does (op.OClass r 0)) (line.Does (op.GetMCnst r (symbol c x))) (none_put _)
  bodies_of (form.in_constant e x) is c s r =
      named (span e) (gen c s r e ⊕ does (op.GetMCnst r (symbol c x)))
      (bodies_ends (span e) (gen c s r e) (line.Does (op.GetMCnst r (symbol c x))) (bodies_of e is c s r))
  bodies_of (form.set_constant x e) is c s r =
      named (span e) (gen c s r e ⊕ does (op.SetConst r (symbol c x)))
      (bodies_ends (span e) (gen c s r e) (line.Does (op.SetConst r (symbol c x))) (bodies_of e is c s r))
  bodies_of (form.set_in_constant e x v) is c s r =
      let p = gen c s r e in
      let q = gen c (past s p) (r + 1) v in
      named (span e + span v) ((p ⊕ q) ⊕ does (op.SetMCnst r (symbol c x)))
      (bodies_ends (span e + span v) (p ⊕ q) (line.Does (op.SetMCnst r (symbol c x)))
      (bodies_both (span e) (span v) p q (bodies_of e is.0 c s r) (bodies_of v is.1 c (past s p) (r + 1))))
  bodies_of (form.array is') is c s r =
      let p = does (op.Array r 0) in
      bodies_begins (over_items how_many is') (line.Does (op.Array r 0)) (gather c (past s p) r is')
      (bodies_in_elements is' is c (past s p) r)
  bodies_of (form.hash ps) is c s r =
      let p = does (op.Hash r 0) in
      bodies_begins (over_pairs how_many ps) (line.Does (op.Hash r 0)) (gather_pairs c (past s p) r ps)
      (bodies_in_pairs ps is c (past s p) r)
  bodies_of (form.range a b x) is c s r =
      let p = gen c s r a in
      let q = gen c (past s p) (r + 1) b in
      bodies_ends (span a + span b) (p ⊕ q) (line.Does (range_by x r))
      (bodies_both (span a) (span b) p q (bodies_of a is.0 c s r) (bodies_of b is.1 c (past s p) (r + 1)))
  bodies_of (form.text es) is c s r =
      let p = does (op.String r (text_entry c [])) in
      bodies_begins (over_forms how_many es) (line.Does (op.String r (text_entry c []))) (gather_text c (past s p) r es)
      (bodies_in_text es is c (past s p) r)
  bodies_of (form.intern e) is c s r =
      bodies_ends (span e) (gen c s r e) (line.Does (op.Intern r)) (bodies_of e is c s r)
  bodies_of (form.seq es) is c s r =
      bodies_in_turn (over_forms how_many es) es c s r (bodies_in_others es is c s r)
  bodies_of (form.cond bs o) is c s r = bodies_chosen bs (λ d t n. gen d t n o) (span o) is.0 (bodies_of o is.1) c s r
  bodies_of (form.and_form a b) is c s r =
      let p = gen c s r a in
      bodies_both (span a) (span b) p (over (held.JumpNot r) (past s p) (λ t. gen c t r b)) (bodies_of a is.0 c s r)
      (over_jump (span b) (held.JumpNot r) (past s p) (λ t. gen c t r b) (λ u. bodies_of b is.1 c u r))
  bodies_of (form.or_form a b) is c s r =
      let p = gen c s r a in
      bodies_both (span a) (span b) p (over (held.JumpIf r) (past s p) (λ t. gen c t r b)) (bodies_of a is.0 c s r)
      (over_jump (span b) (held.JumpIf r) (past s p) (λ t. gen c t r b) (λ u. bodies_of b is.1 c u r))
  bodies_of (form.while_form false t b) is c s r =
      loop_bodies (span t) (span b) false (λ d u n. gen d u n t) (λ d u n. gen d u n b) (bodies_of t is.0)
      (bodies_of b is.1)
      c s r
  bodies_of (form.while_form true t b) is c s r =
      loop_bodies (span t) (span b) true (λ d u n. gen d u n t) (λ d u n. gen d u n b) (bodies_of t is.0)
      (bodies_of b is.1)
      c s r
  bodies_of (form.call (form.to e) x is' m) is c s r =
      let each : Code = λ d t n. pass_in_registers d t n is' in
      let spread : Code = λ d t n. gather d t n is' in
      called_bodies (span e) (over_items how_many is') (over_maybe how_many m) (operates m (form.to e) x is' r)
      (λ d t n. gen_receiver d t n (form.to e)) each (passed_by (passing is') each spread) (λ d t n. gen_maybe d t n m)
      (registers_of (passing is')) (send (is_given m) (form.to e) (passing is') r (symbol c x))
      (λ d t n. bodies_of e is.0 d t n) (bodies_in_items is' is.1)
      (passed_bodies (over_items how_many is') (passing is') each spread (bodies_in_items is' is.1)
      (bodies_in_elements is' is.1)) (bodies_in_block m is.3) (unblocked m (form.to e) x is' r) c s r
  bodies_of (form.call form.on_self x is' m) is c s r =
      let each : Code = λ d t n. pass_in_registers d t n is' in
      let spread : Code = λ d t n. gather d t n is' in
      called_bodies 0 (over_items how_many is') (over_maybe how_many m) (operates m form.on_self x is' r)
      (λ d t n. gen_receiver d t n form.on_self) each (passed_by (passing is') each spread) (λ d t n. gen_maybe d t n m)
      (registers_of (passing is')) (send (is_given m) form.on_self (passing is') r (symbol c x))
      (λ d t n. none_there) (bodies_in_items is' is.0)
      (passed_bodies (over_items how_many is') (passing is') each spread (bodies_in_items is' is.0)
      (bodies_in_elements is' is.0)) (bodies_in_block m is.2) (unblocked m form.on_self x is' r) c s r
  bodies_of (form.call form.bare x form.no_items form.absent) is c s r =
      called_bodies 0 0 0 None (λ d t n. gen_receiver d t n form.bare) (λ d t n. pass_in_registers d t n form.no_items)
      (passed_by (passed.InRegisters 0) (λ d t n. pass_in_registers d t n form.no_items)
      (λ d t n. gather d t n form.no_items)) (λ d t n. gen_maybe d t n form.absent) 0
      (send false form.bare (passed.InRegisters 0) r (symbol c x)) (λ d t n. none_there) (λ d t n. none_there)
      (λ d t n. none_there) (λ d t n. none_there) (λ e. refl) c s r
  bodies_of (form.call form.bare x form.no_items (form.there b)) is c s r = absurd is
  bodies_of (form.call form.bare x (form.plain e is') b) is c s r = absurd is
  bodies_of (form.call form.bare x (form.splat e is') b) is c s r = absurd is
  bodies_of (form.yield_form is') is c s r =
      let each : Code = λ d t n. pass_in_registers d t n is' in
      let spread : Code = λ d t n. gather d t n is' in
      let p = does (op.BlkPush r) in
      let o = op.Call r (count_operand (passing is')) in
      let q = passed_by (passing is') each spread c (past s p) r in
      bodies_begins (over_items how_many is') (line.Does (op.BlkPush r)) (q ⊕ does o)
      (bodies_ends (over_items how_many is') q (line.Does o)
      (passed_bodies (over_items how_many is') (passing is') each spread (bodies_in_items is' is)
      (bodies_in_elements is' is) c (past s p) r))
  bodies_of (form.super_form is' form.absent) is c s r =
      let each : Code = λ d t n. pass_in_registers d t n is' in
      let spread : Code = λ d t n. gather d t n is' in
      let n = over_items how_many is' in
      let p = passed_by (passing is') each spread c s r in
      let q = own_block (past s p) (r + 1 + registers_of (passing is')) in
      let o = op.Super r (count_operand (passing is')) in
      bodies_both n 0 p (q ⊕ does o)
      (passed_bodies n (passing is') each spread (bodies_in_items is' is.1) (bodies_in_elements is' is.1) c s r)
      (bodies_ends 0 q (line.Does o) (own_bodies (past s p) (r + 1 + registers_of (passing is'))))
  bodies_of (form.super_form is' (form.there b)) is c s r =
      let each : Code = λ d t n. pass_in_registers d t n is' in
      let spread : Code = λ d t n. gather d t n is' in
      let n = over_items how_many is' in
      let p = passed_by (passing is') each spread c s r in
      let q = gen c (past s p) (r + 1 + registers_of (passing is')) b in
      let o = op.Super r (count_operand (passing is')) in
      bodies_both n (span b) p (q ⊕ does o)
      (passed_bodies n (passing is') each spread (bodies_in_items is' is.0) (bodies_in_elements is' is.0) c s r)
      (bodies_ends (span b) q (line.Does o) (bodies_of b is.2 c (past s p) (r + 1 + registers_of (passing is'))))
  bodies_of (form.function (form.body p ls f)) is c s r =
      let b = form.body p ls f in
      body_made (op.Block r s.child) s.body kind.Block c.scopes s.body p ls f (body_code kind.Block c.scopes s.body b)
      (code_of_block c.scopes s.body b is.0) (bodies_of f is.1)
  bodies_of (form.lambda (form.body p ls f)) is c s r =
      let b = form.body p ls f in
      body_made (op.Lambda r s.child) s.body kind.Block c.scopes s.body p ls f (body_code kind.Block c.scopes s.body b)
      (code_of_block c.scopes s.body b is.0) (bodies_of f is.1)
  bodies_of (form.begin_form b form.no_clauses o form.absent) is c s r =
      let p = gen c s r b in
      let k = over_maybe how_many o in
      bodies_moved (span b + k) (span b + (k + (0 + 0))) (p ⊕ gen_maybe c (past s p) r o) (omega arith)
      (bodies_both (span b) k p (gen_maybe c (past s p) r o) (bodies_of b is.0 c s r)
      (bodies_in_block o is.1 c (past s p) r))
  bodies_of (form.begin_form b form.no_clauses o (form.there e)) is c s r = absurd is
  bodies_of (form.begin_form b (form.clause es t f cs) o e) is c s r = absurd is
  bodies_of (form.return_form e) is c s r =
      bodies_ends (span e) (gen c s r e) (line.Does (return_by c.kind_of r)) (bodies_of e is c s r)
  bodies_of (form.break_form e) is c s r = break_bodies (span e) (gen c s r e) c.loop r (bodies_of e is c s r)
  bodies_of (form.next_form e) is c s r = next_bodies (span e) (gen c s r e) c.loop r (bodies_of e is c s r)
  bodies_of form.retry is c s r = absurd is
  bodies_of (form.define x (form.body p ls f)) is c s r =
      let b = form.body p ls f in
      let q = does (op.TClass r) in
      let t = past s q in
      let o = op.Def r (symbol c x) t.child in
      let bodies = body_code kind.Method c.scopes t.body b in
      named (over_body how_many b) (q ⊕ makes o t.body bodies)
      (bodies_begins (over_body how_many b) (line.Does (op.TClass r)) (makes o t.body bodies)
      (body_made o t.body kind.Method [] t.body p ls f bodies (code_of_method c.scopes t.body b is.0) (bodies_of f is.1)))
  bodies_of (form.define_on e x (form.body p ls f)) is c s r =
      let b = form.body p ls f in
      let q = gen c s r e ⊕ does (op.SClass r) in
      let t = past s q in
      let o = op.Def r (symbol c x) t.child in
      let bodies = body_code kind.Method c.scopes t.body b in
      named (span e + over_body how_many b) (q ⊕ makes o t.body bodies)
      (bodies_both (span e) (over_body how_many b) q (makes o t.body bodies)
      (bodies_ends (span e) (gen c s r e) (line.Does (op.SClass r)) (bodies_of e is.0 c s r))
      (body_made o t.body kind.Method [] t.body p ls f bodies (code_of_method c.scopes t.body b is.1)
      (bodies_of f is.2)))
  bodies_of (form.class_form k x p (form.body ps ls f)) is c s r =
      let b = form.body ps ls f in
      let i = over_maybe how_many k in
      let j = over_maybe how_many p in
      let o = op.Class r (symbol c x) in
      let q = gen_scope c s r k in
      let u = gen_parent c (past s q) (r + 1) p in
      let w = q ⊕ u ⊕ does o in
      let t = past s w in
      let e = op.Exec r t.child in
      let m = makes e t.body (body_code kind.Class c.scopes t.body b) in
      bodies_moved ((i + j) + over_body how_many b) (0 + (i + (j + over_body how_many b))) (w ⊕ m) (omega arith)
      (bodies_both (i + j) (over_body how_many b) w m
      (bodies_both i j q (u ⊕ does o) (bodies_in_scope k is.0 c s r)
      (bodies_ends j u (line.Does o) (bodies_in_parent p is.1 c (past s q) (r + 1))))
      (class_made e t.body c.scopes t.body ps ls f (bodies_of f is.2)))
  bodies_of (form.module_form k x (form.body ps ls f)) is c s r =
      let b = form.body ps ls f in
      let i = over_maybe how_many k in
      let o = op.Module r (symbol c x) in
      let w = gen_scope c s r k ⊕ does o in
      let t = past s w in
      let e = op.Exec r t.child in
      let m = makes e t.body (body_code kind.Class c.scopes t.body b) in
      named (i + over_body how_many b) (w ⊕ m)
      (bodies_both i (over_body how_many b) w m (bodies_ends i (gen_scope c s r k) (line.Does o)
      (bodies_in_scope k is.0 c s r))
      (class_made e t.body c.scopes t.body ps ls f (bodies_of f is.1)))
  bodies_of (form.singleton_class v (form.body ps ls f)) is c s r =
      let b = form.body ps ls f in
      let o = op.SClass r in
      let w = gen c s r v ⊕ does o in
      let t = past s w in
      let e = op.Exec r t.child in
      let m = makes e t.body (body_code kind.Class c.scopes t.body b) in
      bodies_both (span v) (over_body how_many b) w m (bodies_ends (span v) (gen c s r v) (line.Does o)
      (bodies_of v is.0 c s r))
      (class_made e t.body c.scopes t.body ps ls f (bodies_of f is.1))
  bodies_of (form.alias_form x y) is c s r =
      bodies_both 0 0 (does (op.Alias (symbol c x) (symbol c y))) (does (op.LoadNil r)) (none_put _) (none_put _)
  bodies_of (form.undef_form x) is c s r =
      bodies_ends 0 (does (op.Undef (symbol c x))) (line.Does (op.LoadNil r)) (none_put _)
  bodies_of (form.defined q x form.absent) is c s r =
      let none = none_asked q x in
      bodies_moved 0 (over_asked how_many q x + 0) (does (ask c q x false r (told q))) (omega (arith, none))
      (none_put _)
  bodies_of (form.defined q x (form.there e)) is c s r =
      let none = none_asked q x in
      let o = ask c q x true r (told q) in
      bodies_moved (span e) (over_asked how_many q x + span e) (gen c s r e ⊕ does o) (omega (arith, none))
      (bodies_ends (span e) (gen c s r e) (line.Does o) (bodies_of e is.0 c s r))
  bodies_of (form.item e q) is c s r =
      bodies_ends (span e) (gen c s r e) (line.Does (op.ARef r r q)) (bodies_of e is c s r)
  bodies_of (form.rest_of e from post) is c s r =
      bodies_ends (span e) (gen c s r e) (line.Does (op.APost r from (pos post))) (bodies_of e is c s r)
  bodies_of (form.tail_of e from count) is c s r =
      bodies_ends (span e) (gen c s r e) (line.Does (op.APost r from (neg_ℤ (pos count)))) (bodies_of e is.0 c s r)

  pub bodies_in_block : (m : Maybe) → IsPlainBlock m → HaveBodies (over_maybe how_many m) (λ c s r. gen_maybe c s r m)
  bodies_in_block form.absent is c s r = none_there
  bodies_in_block (form.there b) is c s r = bodies_of b is c s r

  bodies_in_others : (es : Forms) → ArePlain es
      → HaveBodies (over_forms how_many es) (λ c s r. others_in_turn c s r es)
  bodies_in_others form.none is c s r = none_there
  bodies_in_others (form.more e es) is c s r =
      let p = gen c s r e in
      bodies_both (span e) (over_forms how_many es) p (others_in_turn c (past s p) r es) (bodies_of e is.0 c s r)
      (bodies_in_others es is.1 c (past s p) r)

  bodies_chosen : (bs : Branches) (o : Code) (n : ℕ) → ArePlainBranches bs → HaveBodies n o
      → HaveBodies (over_branches how_many bs + n) (λ c s r. choose c s r bs o)
  bodies_chosen form.no_branches o n is k c s r = named n (o c s r) (k c s r)
  bodies_chosen (form.branch t b bs) o n is k c s r =
      let p = gen c s r t in
      let body = behind (past s p) in
      let q = gen c body r b in
      let further = behind (past body q) in
      let others = choose c further r bs o in
      let leap = jump (past further others).line in
      let later = over_branches how_many bs + n in
      bodies_moved (span t + (span b + later)) (span t + (span b + over_branches how_many bs) + n)
      (p ⊕ jump_not r further.line ⊕ q ⊕ leap ⊕ others) (omega arith)
      (bodies_both (span t) (span b + later) p (jump_not r further.line ⊕ q ⊕ leap ⊕ others) (bodies_of t is.0 c s r)
      (bodies_begins (span b + later) (line.JumpNot r further.line) (q ⊕ leap ⊕ others)
      (bodies_both (span b) later q (leap ⊕ others) (bodies_of b is.1 c body r)
      (bodies_begins later (line.Jump (past further others).line) others (bodies_chosen bs o n is.2 k c further r)))))

  pub bodies_in_items : (is' : Items) → ArePlainItems is'
      → HaveBodies (over_items how_many is') (λ c s r. pass_in_registers c s r is')
  bodies_in_items form.no_items is c s r = none_there
  bodies_in_items (form.plain e is') is c s r =
      let p = gen c s r e in
      bodies_both (span e) (over_items how_many is') p (pass_in_registers c (past s p) (r + 1) is')
      (bodies_of e is.0 c s r) (bodies_in_items is' is.1 c (past s p) (r + 1))
  bodies_in_items (form.splat e is') is c s r =
      let p = gen c s r e in
      bodies_both (span e) (over_items how_many is') p (pass_in_registers c (past s p) (r + 1) is')
      (bodies_of e is.0 c s r) (bodies_in_items is' is.1 c (past s p) (r + 1))

  pub bodies_in_elements : (is' : Items) → ArePlainItems is'
      → HaveBodies (over_items how_many is') (λ c s r. gather c s r is')
  bodies_in_elements form.no_items is c s r = none_there
  bodies_in_elements (form.plain e is') is c s r =
      let p = gen c s (r + 1) e ⊕ does (op.AryPush r 1) in
      bodies_both (span e) (over_items how_many is') p (gather c (past s p) r is')
      (bodies_ends (span e) (gen c s (r + 1) e) (line.Does (op.AryPush r 1)) (bodies_of e is.0 c s (r + 1)))
      (bodies_in_elements is' is.1 c (past s p) r)
  bodies_in_elements (form.splat e is') is c s r =
      let p = gen c s (r + 1) e ⊕ does (op.AryCat r) in
      bodies_both (span e) (over_items how_many is') p (gather c (past s p) r is')
      (bodies_ends (span e) (gen c s (r + 1) e) (line.Does (op.AryCat r)) (bodies_of e is.0 c s (r + 1)))
      (bodies_in_elements is' is.1 c (past s p) r)

  bodies_in_pairs : (ps : Pairs) → ArePlainPairs ps
      → HaveBodies (over_pairs how_many ps) (λ c s r. gather_pairs c s r ps)
  bodies_in_pairs form.no_pairs is c s r = none_there
  bodies_in_pairs (form.pair a b ps) is c s r =
      let p = gen c s (r + 1) a in
      let q = gen c (past s p) (r + 1 + 1) b in
      let one = (p ⊕ q) ⊕ does (op.HashAdd r 1) in
      let further = over_pairs how_many ps in
      bodies_moved (span a + span b + further) (span a + (span b + further)) (one ⊕ gather_pairs c (past s one) r ps)
      (omega arith)
      (bodies_both (span a + span b) further one (gather_pairs c (past s one) r ps)
      (bodies_ends (span a + span b) (p ⊕ q) (line.Does (op.HashAdd r 1))
      (bodies_both (span a) (span b) p q (bodies_of a is.0 c s (r + 1)) (bodies_of b is.1 c (past s p) (r + 1 + 1))))
      (bodies_in_pairs ps is.2 c (past s one) r))

  bodies_in_text : (es : Forms) → ArePlain es → HaveBodies (over_forms how_many es) (λ c s r. gather_text c s r es)
  bodies_in_text form.none is c s r = none_there
  bodies_in_text (form.more e es) is c s r =
      let p = gen c s (r + 1) e ⊕ does (op.StrCat r) in
      bodies_both (span e) (over_forms how_many es) p (gather_text c (past s p) r es)
      (bodies_ends (span e) (gen c s (r + 1) e) (line.Does (op.StrCat r)) (bodies_of e is.0 c s (r + 1)))
      (bodies_in_text es is.1 c (past s p) r)
