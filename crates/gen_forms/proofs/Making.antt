-- Instructions that make bodies, and the definitions of methods, classes and modules.
use Rattle.std.proofs.Common.{◌≡◌, ℕ, ◌+◌, List, refl, ap, ◌∙◌}
use Rattle.rite_code.specs.declared.code.Irep.{Irep}
use Rattle.rite_code.specs.declared.operation.Operation.{Operation}
use Rattle.rite_code.specs.declared.operation.Operation.TheVariants as op
use Rattle.ir_core.specs.CoreForm.{Name, CoreForm, Body, Maybe, function, lambda, define, define_on, class_form, module_form, singleton_class}
use Rattle.scope_resolver.specs.declared.body_kind.BodyKind.{BodyKind}
use Rattle.gen_parts.specs.declared.emitter.Spot.{Spot}
use Rattle.gen_parts.specs.Pieces.{past, both, does, makes}
use Rattle.gen_parts.specs.Emission.{Emission, with_piece, here}
use Rattle.gen_parts.proofs.Laws.{both-both}
use Rattle.gen_forms.specs.declared.bodies.Maker.{Maker}
use Rattle.gen_forms.specs.declared.bodies.Maker.TheVariants as maker
use Rattle.gen_forms.specs.Gen.{Context, gen, gen_scope, gen_parent, symbol}
use Rattle.gen_forms.specs.Open.{kind_of, maker_of, coded, made, defines}
use Rattle.gen_forms.specs.Making.{method_made, singleton_made, class_made, module_made, opened_made}
use Rattle.gen_forms.proofs.Chains.{chain}

-- a body that is made, from what is found out of it one after the other
pub made-so : (m : Maker) (c : Context) (r : ℕ) (b : Body) (s : Spot) (k : BodyKind) (o : Operation)
    (bodies : List Irep) (e f : Emission) → s ≡ here e → k ≡ kind_of m → bodies ≡ coded k c.scopes s.body b
    → o ≡ maker_of m r s.child → f ≡ with_piece e (makes o s.body bodies)
    → f ≡ with_piece e (made m c (here e) r b)
made-so m c r b s k o bodies e f at hk hb ho h =
    h ∙ (ap (λ (q : Operation). with_piece e (makes q s.body bodies)) ho
    ∙ (ap (λ (z : List Irep). with_piece e (makes (maker_of m r s.child) s.body z)) hb
    ∙ (ap (λ (z : BodyKind). with_piece e (makes (maker_of m r s.child) s.body (coded z c.scopes s.body b))) hk
    ∙ ap (λ (z : Spot). with_piece e (made m c z r b)) at)))

-- The code of a form that makes a body.

pub function-coded : (c : Context) (s : Spot) (r : ℕ) (f : Body) → made maker.Block c s r f ≡ gen c s r (function f)
unfolding coded
function-coded c s r f = refl

pub lambda-coded : (c : Context) (s : Spot) (r : ℕ) (f : Body) → made maker.Lambda c s r f ≡ gen c s r (lambda f)
unfolding coded
lambda-coded c s r f = refl

pub method-coded : (c : Context) (s : Spot) (r : ℕ) (x : Name) (f : Body)
    → method_made c s r x f ≡ gen c s r (define x f)
unfolding coded
method-coded c s r x f = refl

pub singleton-coded : (c : Context) (s : Spot) (r : ℕ) (e : CoreForm) (x : Name) (f : Body)
    → singleton_made c s r e x f ≡ gen c s r (define_on e x f)
unfolding coded
singleton-coded c s r e x f = refl

pub class-coded : (c : Context) (s : Spot) (r : ℕ) (scope : Maybe) (x : Name) (parent : Maybe) (f : Body)
    → class_made c s r scope x parent f ≡ gen c s r (class_form scope x parent f)
unfolding coded
class-coded c s r scope x parent f = refl

pub module-coded : (c : Context) (s : Spot) (r : ℕ) (scope : Maybe) (x : Name) (f : Body)
    → module_made c s r scope x f ≡ gen c s r (module_form scope x f)
unfolding coded
module-coded c s r scope x f = refl

pub opened-coded : (c : Context) (s : Spot) (r : ℕ) (e : CoreForm) (f : Body)
    → opened_made c s r e f ≡ gen c s r (singleton_class e f)
unfolding coded
opened-coded c s r e f = refl

-- The same, step by step.

pub method-by : (c : Context) (r : ℕ) (x : Name) (f : Body) (e e1 e2 : Emission)
    → e1 ≡ with_piece e (does (op.TClass r)) → e2 ≡ with_piece e1 (defines c (here e1) r x f)
    → e2 ≡ with_piece e (method_made c (here e) r x f)
method-by c r x f e e1 e2 h1 h2 =
    chain (λ (t : Spot). defines c t r x f) e e1 e2 (does (op.TClass r)) h1 h2

pub singleton-by : (c : Context) (r : ℕ) (t : CoreForm) (x : Name) (f : Body) (e e1 e2 : Emission)
    → e1 ≡ with_piece e (both (gen c (here e) r t) (does (op.SClass r)))
    → e2 ≡ with_piece e1 (defines c (here e1) r x f) → e2 ≡ with_piece e (singleton_made c (here e) r t x f)
singleton-by c r t x f e e1 e2 h1 h2 =
    chain (λ (s : Spot). defines c s r x f) e e1 e2 (both (gen c (here e) r t) (does (op.SClass r))) h1 h2

pub class-by : (c : Context) (r b k : ℕ) (scope : Maybe) (x : Name) (parent : Maybe) (f : Body)
    (e e1 e2 e3 e4 : Emission) → b ≡ symbol c x → e1 ≡ with_piece e (gen_scope c (here e) r scope) → k ≡ r + 1
    → e2 ≡ with_piece e1 (gen_parent c (here e1) k parent) → e3 ≡ with_piece e2 (does (op.Class r b))
    → e4 ≡ with_piece e3 (made maker.Class c (here e3) r f)
    → e4 ≡ with_piece e (class_made c (here e) r scope x parent f)
class-by c r b k scope x parent f e e1 e2 e3 e4 hb h1 hk h2 h3 h4 =
    let s = here e in
    let first = gen_scope c s r scope in
    let second = gen_parent c (past s first) (r + 1) parent in
    let third = does (op.Class r (symbol c x)) in
    let two : e2 ≡ with_piece e (both first second) =
    chain (λ (t : Spot). gen_parent c t (r + 1) parent) e e1 e2 first h1
    (h2 ∙ ap (λ (n : ℕ). with_piece e1 (gen_parent c (here e1) n parent)) hk) in
    let three : e3 ≡ with_piece e (both first (both second third)) =
    chain (λ (t : Spot). third) e e2 e3 (both first second) two
    (h3 ∙ ap (λ (n : ℕ). with_piece e2 (does (op.Class r n))) hb)
    ∙ ap (with_piece e) (both-both first second third) in
    chain (λ (t : Spot). made maker.Class c t r f) e e3 e4 (both first (both second third)) three h4

pub module-by : (c : Context) (r b : ℕ) (scope : Maybe) (x : Name) (f : Body) (e e1 e2 e3 : Emission)
    → b ≡ symbol c x → e1 ≡ with_piece e (gen_scope c (here e) r scope)
    → e2 ≡ with_piece e1 (does (op.Module r b)) → e3 ≡ with_piece e2 (made maker.Class c (here e2) r f)
    → e3 ≡ with_piece e (module_made c (here e) r scope x f)
module-by c r b scope x f e e1 e2 e3 hb h1 h2 h3 =
    let s = here e in
    let first = gen_scope c s r scope in
    let second = does (op.Module r (symbol c x)) in
    let two : e2 ≡ with_piece e (both first second) =
    chain (λ (t : Spot). second) e e1 e2 first h1 (h2 ∙ ap (λ (n : ℕ). with_piece e1 (does (op.Module r n))) hb) in
    chain (λ (t : Spot). made maker.Class c t r f) e e2 e3 (both first second) two h3

pub opened-by : (c : Context) (r : ℕ) (t : CoreForm) (f : Body) (e e1 e2 : Emission)
    → e1 ≡ with_piece e (both (gen c (here e) r t) (does (op.SClass r)))
    → e2 ≡ with_piece e1 (made maker.Class c (here e1) r f)
    → e2 ≡ with_piece e (opened_made c (here e) r t f)
opened-by c r t f e e1 e2 h1 h2 =
    chain (λ (s : Spot). made maker.Class c s r f) e e1 e2 (both (gen c (here e) r t) (does (op.SClass r))) h1 h2
