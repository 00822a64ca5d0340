-- The code of a program, and of the forms that make a body.
use Rattle.std.specs.Prelude.{ℕ, ◌+◌, List, []}
use Rattle.rite_code.specs.declared.code.Irep.{Irep}
use Rattle.rite_code.specs.declared.operation.Operation.TheVariants as op
use Rattle.ir_core.specs.CoreForm.{Name, CoreForm, Body, Maybe}
use Rattle.scope_resolver.specs.declared.body_kind.BodyKind.TheVariants as kind
use Rattle.gen_parts.specs.declared.emitter.Spot.{Spot}
use Rattle.gen_parts.specs.Pieces.{Piece, past, ◌⊕◌, does}
use Rattle.gen_forms.specs.declared.bodies.Maker.TheVariants as maker
use Rattle.gen_forms.specs.Gen.{Context, gen, gen_scope, gen_parent, symbol}
use Rattle.gen_forms.specs.Open.{coded, made, defines}

-- the bodies of a program, depth first
abbrev pub coded_program : Body → List Irep
coded_program b = coded kind.Main [] 0 b

-- a method, and one of an object
abbrev pub method_made : Context → Spot → ℕ → Name → Body → Piece
method_made c s r x f = let p = does (op.TClass r) in p ⊕ defines c (past s p) r x f

abbrev pub singleton_made : Context → Spot → ℕ → CoreForm → Name → Body → Piece
singleton_made c s r e x f = let p = gen c s r e ⊕ does (op.SClass r) in p ⊕ defines c (past s p) r x f

-- a class, a module, and the singleton class of a value
abbrev pub class_made : Context → Spot → ℕ → Maybe → Name → Maybe → Body → Piece
class_made c s r scope x parent f =
    let p = gen_scope c s r scope in
    let q = p ⊕ gen_parent c (past s p) (r + 1) parent ⊕ does (op.Class r (symbol c x)) in
    q ⊕ made maker.Class c (past s q) r f

abbrev pub module_made : Context → Spot → ℕ → Maybe → Name → Body → Piece
module_made c s r scope x f =
    let p = gen_scope c s r scope ⊕ does (op.Module r (symbol c x)) in
    p ⊕ made maker.Class c (past s p) r f

abbrev pub opened_made : Context → Spot → ℕ → CoreForm → Body → Piece
opened_made c s r e f = let p = gen c s r e ⊕ does (op.SClass r) in p ⊕ made maker.Class c (past s p) r f
