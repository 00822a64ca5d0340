-- Definitions, by what is known of their parts and of the bodies that they make.
use Rattle.std.proofs.Common.{◌<◌, ◌≤◌, ℕ, ◌+◌, arith, refl}
use Rattle.std.specs.Prelude.{Some}
use Rattle.rite_code.specs.declared.operation.Operation.TheVariants as op
use Rattle.ir_core.specs.CoreForm as form
use Rattle.ir_core.specs.CoreForm.{Name, CoreForm, Body, Maybe}
use Rattle.ir_walk.specs.Width.{width, maybe_widths, or_leaf}
use Rattle.scope_resolver.specs.declared.body_kind.BodyKind.TheVariants as kind
use Rattle.code_outline.specs.declared.maker.Purpose.TheVariants as purpose
use Rattle.gen_parts.specs.declared.emitter.Spot.{Spot}
use Rattle.gen_parts.specs.Pieces.{past, both, does, makes}
use Rattle.gen_forms.specs.Gen.{Context, symbol, gen, gen_scope, gen_parent, body_code}
use Rattle.code_laws.proofs.Serves.{Inside, context}
use Rattle.code_laws.proofs.Shares.{Listed, cost, cost_maybe, many, many_maybe, many_body}
use Rattle.code_laws.proofs.Lines.{Own, line-past}
use Rattle.code_laws.proofs.Parts.{then_does, does_then}
use Rattle.code_laws.proofs.Operating.{Site, own as me, symbol_within}
use Rattle.code_laws.proofs.Sending.{exec_serves, define_serves}
use Rattle.code_laws.proofs.Scenes.{one_part, two_parts}
use Rattle.code_laws.proofs.Strict.{alone_ready, symbol_ready, after, both_well, less}
use Rattle.code_laws.proofs.Bodied.{Coded, makes_well}

module _ (w : Site) (i : Inside) (s : Spot) (r : ℕ) where
  abbrev c : Context
  c = context (me w) i

  abbrev FormWell : CoreForm → Type 0
  FormWell e = r + width e ≤ w.registers → Own (me w) s (gen c s r e) (cost e) (many e)

  abbrev MethodWell : Body → Type 0
  MethodWell b = (n : ℕ) → Coded kind.Method w.scopes n b

  abbrev ClassWell : Body → Type 0
  ClassWell b = (n : ℕ) → Coded kind.Class w.scopes n b

  -- the instruction that makes a method, and the one that runs the body of a class
  def_well : (t : Spot) (x : Name) (b : Body) → r < w.registers → Listed w.tally.symbols (Some x) → MethodWell b
      → Own (me w) t (makes (op.Def r (symbol c x) t.child) t.body (body_code kind.Method w.scopes t.body b)) 8
      (many_body b)
  def_well t x b few named body =
      makes_well (me w) t (op.Def r (symbol c x) t.child) purpose.Method b 8
      (define_serves w r (symbol c x) t.child few (symbol_within w x named)) refl (omega arith) (body t.body)

  run_well : (t : Spot) (b : Body) → r < w.registers → ClassWell b
      → Own (me w) t (makes (op.Exec r t.child) t.body (body_code kind.Class w.scopes t.body b)) 8 (many_body b)
  run_well t b few body =
      makes_well (me w) t (op.Exec r t.child) purpose.ClassBody b 8 (exec_serves w r t.child few) refl (omega arith)
      (body t.body)

  pub define_well : (x : Name) (b : Body) → r + width (form.define x b) ≤ w.registers → Listed w.tally.symbols (Some x)
      → MethodWell b → Own (me w) s (gen c s r (form.define x b)) (cost (form.define x b)) (many (form.define x b))
  define_well x b h named body =
      let o = one_part w.registers r 3 h in
      let t = past s (does (op.TClass r)) in
      let top = alone_ready w (op.TClass r) r refl refl refl refl refl refl (omega arith) (omega (arith, o.1)) in
      let made = makes (op.Def r (symbol c x) t.child) t.body (body_code kind.Method w.scopes t.body b) in
      less w s (both (does (op.TClass r)) made) (4 + 8) 32 (many_body b) (many_body b) (omega arith) refl
      (does_then (me w) s (op.TClass r) made 4 8 (many_body b) top.serve top.unused top.light
      (def_well t x b (omega (arith, o.1)) named body))

  pub define_on_well : (e : CoreForm) (x : Name) (b : Body) → r + width (form.define_on e x b) ≤ w.registers
      → Listed w.tally.symbols (Some x) → FormWell e → MethodWell b
      → Own (me w) s (gen c s r (form.define_on e x b)) (cost (form.define_on e x b)) (many (form.define_on e x b))
  define_on_well e x b h named first body =
      let o = two_parts w.registers r (width e) 3 h in
      let g = gen c s r e in
      let p = both g (does (op.SClass r)) in
      let t = past s p in
      both_well w s p (makes (op.Def r (symbol c x) t.child) t.body (body_code kind.Method w.scopes t.body b))
      (16 + cost e) 8 (32 + cost e) (many e) (many_body b) (many e + many_body b)
      (after w s g (op.SClass r) (cost e) (many e) 4 (omega arith) (first o.0)
      (alone_ready w (op.SClass r) r refl refl refl refl refl refl (omega arith) (omega (arith, o.2))))
      (def_well t x b (omega (arith, o.2)) named body) (omega arith) refl

  pub class_well : (scope : Maybe) (x : Name) (parent : Maybe) (b : Body)
      → r + width (form.class_form scope x parent b) ≤ w.registers → Listed w.tally.symbols (Some x)
      → (r + or_leaf (maybe_widths scope) ≤ w.registers
      → Own (me w) s (gen_scope c s r scope) (4 + cost_maybe scope) (many_maybe scope))
      → ((v : Spot) → s.line ≤ v.line → r + 1 + or_leaf (maybe_widths parent) ≤ w.registers
      → Own (me w) v (gen_parent c v (r + 1) parent) (4 + cost_maybe parent) (many_maybe parent)) → ClassWell b
      → Own (me w) s (gen c s r (form.class_form scope x parent b)) (cost (form.class_form scope x parent b))
      (many (form.class_form scope x parent b))
  class_well scope x parent b h named first second body =
      let o = two_parts w.registers r (or_leaf (maybe_widths scope)) (or_leaf (maybe_widths parent)) h in
      let p = gen_scope c s r scope in
      let g = gen_parent c (past s p) (r + 1) parent in
      let opens = op.Class r (symbol c x) in
      let q = both p (both g (does opens)) in
      let t = past s q in
      let class = symbol_ready w opens r _ refl refl refl refl (omega (arith, o.2)) refl (omega arith)
      (omega (arith, o.2))
      (symbol_within w x named) in
      both_well w s q (makes (op.Exec r t.child) t.body (body_code kind.Class w.scopes t.body b))
      ((4 + cost_maybe scope) + ((4 + cost_maybe parent) + 6)) 8 (48 + cost_maybe scope + cost_maybe parent)
      (many_maybe scope + many_maybe parent) (many_body b) (many_maybe scope + many_maybe parent + many_body b)
      (both_well w s p (both g (does opens)) (4 + cost_maybe scope) ((4 + cost_maybe parent) + 6)
      ((4 + cost_maybe scope) + ((4 + cost_maybe parent) + 6)) (many_maybe scope) (many_maybe parent)
      (many_maybe scope + many_maybe parent) (first o.0)
      (then_does (me w) (past s p) g opens (4 + cost_maybe parent) 6 (many_maybe parent)
      (second (past s p) (simp line-past (omega arith)) o.1) class.serve class.unused class.light) (omega arith) refl)
      (run_well t b (omega (arith, o.2)) body) (omega arith) refl

  pub module_well : (scope : Maybe) (x : Name) (b : Body) → r + width (form.module_form scope x b) ≤ w.registers
      → Listed w.tally.symbols (Some x)
      → (r + or_leaf (maybe_widths scope) ≤ w.registers
      → Own (me w) s (gen_scope c s r scope) (4 + cost_maybe scope) (many_maybe scope)) → ClassWell b
      → Own (me w) s (gen c s r (form.module_form scope x b)) (cost (form.module_form scope x b))
      (many (form.module_form scope x b))
  module_well scope x b h named first body =
      let o = one_part w.registers r (or_leaf (maybe_widths scope)) h in
      let g = gen_scope c s r scope in
      let opens = op.Module r (symbol c x) in
      let p = both g (does opens) in
      let t = past s p in
      let ready = symbol_ready w opens r _ refl refl refl refl (omega (arith, o.1)) refl (omega arith)
      (omega (arith, o.1)) (symbol_within w x named) in
      both_well w s p (makes (op.Exec r t.child) t.body (body_code kind.Class w.scopes t.body b))
      ((4 + cost_maybe scope) + 6) 8 (48 + cost_maybe scope) (many_maybe scope) (many_body b)
      (many_maybe scope + many_body b)
      (then_does (me w) s g opens (4 + cost_maybe scope) 6 (many_maybe scope) (first o.0) ready.serve ready.unused
      ready.light) (run_well t b (omega (arith, o.1)) body) (omega arith) refl

  pub singleton_well : (e : CoreForm) (b : Body) → r + width (form.singleton_class e b) ≤ w.registers → FormWell e
      → ClassWell b
      → Own (me w) s (gen c s r (form.singleton_class e b)) (cost (form.singleton_class e b))
      (many (form.singleton_class e b))
  singleton_well e b h first body =
      let o = one_part w.registers r (width e) h in
      let g = gen c s r e in
      let p = both g (does (op.SClass r)) in
      let t = past s p in
      both_well w s p (makes (op.Exec r t.child) t.body (body_code kind.Class w.scopes t.body b)) (16 + cost e) 8
      (48 + cost e) (many e) (many_body b) (many e + many_body b)
      (after w s g (op.SClass r) (cost e) (many e) 4 (omega arith) (first o.0)
      (alone_ready w (op.SClass r) r refl refl refl refl refl refl (omega arith) (omega (arith, o.1))))
      (run_well t b (omega (arith, o.1)) body) (omega arith) refl
