-- The code of a form has a line.
use Rattle.std.proofs.Common.{◌≡◌, ◌<◌, ℕ, List, arith}
use Rattle.std.specs.Prelude.{Option, Some, None, Bool, true, false}
use Rattle.ir_core.specs.CoreForm as form
use Rattle.ir_core.specs.CoreForm.{CoreForm, Forms, Branches}
use Rattle.rite_code.specs.declared.code.Irep.{Irep}
use Rattle.rite_code.specs.declared.operation.Operation.{Operation}
use Rattle.rite_code.specs.declared.operation.Operation.TheVariants as op
use Rattle.gen_forms.specs.declared.context.Loop.{Loop}
use Rattle.gen_parts.specs.declared.emitter.Spot.{Spot}
use Rattle.gen_parts.specs.Pieces.{Piece, past, both, does, makes}
use Rattle.gen_forms.specs.Gen.{Context, Code, gen, in_turn, choose, break_by, next_by, loop, called_by, rescued_by, ensured_by, is_given, has_clauses}
use Rattle.code_laws.proofs.Lines.{tall, heights, tall-both}

tall-makes : (o : Operation) (n : ℕ) (bs : List Irep) → tall (makes o n bs) ≡ 1
unfolding makes tall
tall-makes o n bs = omega arith

ends : (p q : Piece) → 0 < tall q → 0 < tall (both p q)
ends p q h = omega (arith, tall-both p q, h)

begins : (p q : Piece) → 0 < tall p → 0 < tall (both p q)
begins p q h = omega (arith, tall-both p q, h)

one : (o : Operation) → 0 < tall (does o)
one o = simp heights (omega arith)

one_made : (o : Operation) (n : ℕ) (bs : List Irep) → 0 < tall (makes o n bs)
one_made o n bs = simp tall-makes (omega arith)

-- the last line of a call
called_some : (o : Option Operation) (receiver each arguments block : Code) (n : ℕ) (send : Operation) (c : Context)
    (s : Spot) (r : ℕ) → 0 < tall (called_by o receiver each arguments block n send c s r)
called_some None receiver each arguments block n send c s r = simp heights (omega arith)
called_some (Some o) receiver each arguments block n send c s r = simp heights (omega arith)

break_some : (p : Piece) (l : Option Loop) (r : ℕ) → 0 < tall (both p (break_by l r))
break_some p None r = simp heights (omega arith)
break_some p (Some l) r = simp heights (omega arith)

next_some : (p : Piece) (l : Option Loop) (r : ℕ) → 0 < tall (both p (next_by l r))
next_some p None r = simp heights (omega arith)
next_some p (Some l) r = simp heights (omega arith)

loop_some : (first : Bool) (t b : Code) (c : Context) (s : Spot) (r : ℕ) → 0 < tall (loop first t b c s r)
loop_some true t b c s r = simp heights (omega arith)
loop_some false t b c s r = simp heights (omega arith)

pub rescued_some : (has : Bool) (b o handlers : Code) (c : Context) (s : Spot) (r : ℕ) → 0 < tall (b c s r)
    → 0 < tall (rescued_by has b o handlers c s r)
rescued_some true b o handlers c s r h = simp heights (omega arith)
rescued_some false b o handlers c s r h = begins (b c s r) (o c (past s (b c s r)) r) h

ensured_some : (has : Bool) (p e : Code) (c : Context) (s : Spot) (r : ℕ) → 0 < tall (p c s r)
    → 0 < tall (ensured_by has p e c s r)
ensured_some true p e c s r h = simp heights (omega arith)
ensured_some false p e c s r h = h

mutual
  pub gen_some : (f : CoreForm) (c : Context) (s : Spot) (r : ℕ) → 0 < tall (gen c s r f)
  gen_some form.nil c s r = one _
  gen_some form.truth c s r = one _
  gen_some form.falsehood c s r = one _
  gen_some form.self_ref c s r = one _
  gen_some (form.int x) c s r = one _
  gen_some (form.str x) c s r = one _
  gen_some (form.sym x) c s r = one _
  gen_some (form.local x) c s r = one _
  gen_some (form.own x) c s r = one _
  gen_some form.exception c s r = one _
  gen_some (form.set_local x e) c s r = simp heights (omega arith)
  gen_some (form.ivar x) c s r = one _
  gen_some (form.set_ivar x e) c s r = simp heights (omega arith)
  gen_some (form.gvar x) c s r = one _
  gen_some (form.set_gvar x e) c s r = simp heights (omega arith)
  gen_some (form.constant x) c s r = one _
  gen_some (form.top_constant x) c s r = simp heights (omega arith)
  gen_some (form.in_constant e x) c s r = simp heights (omega arith)
  gen_some (form.set_constant x e) c s r = simp heights (omega arith)
  gen_some (form.set_in_constant e x f) c s r = simp heights (omega arith)
  gen_some (form.array is) c s r = begins _ _ (one _)
  gen_some (form.hash ps) c s r = begins _ _ (one _)
  gen_some (form.range e f x) c s r = simp heights (omega arith)
  gen_some (form.text es) c s r = begins _ _ (one _)
  gen_some (form.intern e) c s r = simp heights (omega arith)
  gen_some (form.seq es) c s r = turn_some es c s r
  gen_some (form.cond bs e) c s r = choose_some bs (λ d t n. gen d t n e) c s r (gen_some e c s r)
  gen_some (form.and_form e f) c s r = simp heights (omega arith)
  gen_some (form.or_form e f) c s r = simp heights (omega arith)
  gen_some (form.while_form x e f) c s r = loop_some x (λ d u n. gen d u n e) (λ d u n. gen d u n f) c s r
  gen_some (form.call v x is o) c s r = called_some _ _ _ _ _ _ _ c s r
  gen_some (form.yield_form is) c s r = begins _ _ (one _)
  gen_some (form.super_form is o) c s r = simp heights (omega arith)
  gen_some (form.function b) c s r = one_made _ _ _
  gen_some (form.lambda b) c s r = one_made _ _ _
  gen_some (form.begin_form e cs o p) c s r = ensured_some (is_given p) _ _ c s r
      (rescued_some (has_clauses cs) _ _ _ c s r (gen_some e c s r))
  gen_some (form.return_form e) c s r = simp heights (omega arith)
  gen_some (form.break_form e) c s r = break_some (gen c s r e) c.loop r
  gen_some (form.next_form e) c s r = next_some (gen c s r e) c.loop r
  gen_some form.retry c s r = simp heights (omega arith)
  gen_some (form.define x b) c s r = ends _ _ (one_made _ _ _)
  gen_some (form.define_on e x b) c s r = ends _ _ (one_made _ _ _)
  gen_some (form.class_form o x p b) c s r = ends _ _ (one_made _ _ _)
  gen_some (form.module_form o x b) c s r = ends _ _ (one_made _ _ _)
  gen_some (form.singleton_class e b) c s r = ends _ _ (one_made _ _ _)
  gen_some (form.alias_form x y) c s r = simp heights (omega arith)
  gen_some (form.undef_form x) c s r = simp heights (omega arith)
  gen_some (form.defined x y form.absent) c s r = one _
  gen_some (form.defined x y (form.there e)) c s r = simp heights (omega arith)
  gen_some (form.item e x) c s r = simp heights (omega arith)
  gen_some (form.rest_of e x y) c s r = simp heights (omega arith)
  gen_some (form.tail_of e x y) c s r = simp heights (omega arith)

  turn_some : (es : Forms) (c : Context) (s : Spot) (r : ℕ) → 0 < tall (in_turn c s r es)
  turn_some form.none c s r = one (op.LoadNil r)
  turn_some (form.more e es) c s r = begins (gen c s r e) _ (gen_some e c s r)

  choose_some : (bs : Branches) (o : Code) (c : Context) (s : Spot) (r : ℕ) → 0 < tall (o c s r)
      → 0 < tall (choose c s r bs o)
  choose_some form.no_branches o c s r h = h
  choose_some (form.branch t b bs) o c s r h = begins (gen c s r t) _ (gen_some t c s r)
