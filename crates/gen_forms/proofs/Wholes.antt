-- The code of a whole body.
use Rattle.std.proofs.Common.{◌≡◌, ℕ, ◌+◌, List, ◌∷◌, refl, arith, ap, ◌∙◌}
use Rattle.rite_code.specs.declared.code.Irep.{Irep}
use Rattle.rite_code.specs.declared.code.PoolItem.{PoolItem}
use Rattle.rite_code.specs.declared.operation.Operation.{Operation}
use Rattle.ir_core.specs.CoreForm.{Name, CoreForm, Body, body, nil}
use Rattle.ir_core.specs.View.{parameters_of, locals_of}
use Rattle.ir_core.specs.declared.local.Local as variable
use Rattle.ir_core.specs.declared.local.Parameters as listed
use Rattle.ir_walk.specs.Width.{width}
use Rattle.ir_counts.specs.declared.tally.Tally.{Tally}
use Rattle.ir_counts.specs.Counts.{tally}
use Rattle.scope_resolver.specs.declared.body_kind.BodyKind.{BodyKind}
use Rattle.scope_resolver.specs.Layout.{Slots, Scopes, slots_by, slots_of, scopes_in}
use Rattle.scope_resolver.specs.Scope.{slots_at}
use Rattle.scope_resolver.specs.declared.scope.Scope.{Scope}
use Rattle.gen_parts.specs.declared.emitter.Spot.{Spot}
use Rattle.gen_parts.specs.Pieces.{Piece, both, nothing, does}
use Rattle.gen_parts.specs.Emission.{Emission, with_piece, here, empty}
use Rattle.gen_parts.specs.Assembly.{assembled}
use Rattle.gen_forms.specs.declared.layout.Layout.{Layout}
use Rattle.gen_forms.specs.Gen.{Context, first_spot, ends, layout, laid_out, opening, seeing, pool_of, body_code}
use Rattle.gen_forms.specs.Open.{entered, whole, coded}
use Rattle.gen_forms.proofs.Chains.{chain}

piece-of-empty : (n : ℕ) (p : Piece) → (with_piece (empty n) p).piece ≡ p
unfolding with_piece empty both nothing
piece-of-empty n p = refl

abbrev begin : ℕ → Spot
begin n = record { line = 0; child = 0; body = n }

here-empty : (n : ℕ) → here (empty n) ≡ begin n
unfolding here empty nothing
here-empty n = let e : n + 0 ≡ n = omega arith in ap begin e

pub emitted : (c : Context) (r number n : ℕ) (k : BodyKind) (b : Body) (o : Operation) (e e1 e2 : Emission)
    → n ≡ number + 1 → e ≡ empty n → e1 ≡ with_piece e (entered c (here e) r k b) → o ≡ ends k r
    → e2 ≡ with_piece e1 (does o) → e2.piece ≡ whole c r k number b
emitted c r number n k b o e e1 e2 count new h1 ho h2 =
    let s = first_spot number in
    let p = entered c s r k b in
    let at : here e ≡ s = ap here new ∙ (here-empty n ∙ ap begin count) in
    let first : e1 ≡ with_piece (empty n) p =
    h1 ∙ (ap (λ (f : Emission). with_piece f (entered c (here e) r k b)) new
    ∙ ap (λ (t : Spot). with_piece (empty n) (entered c t r k b)) at) in
    let last : e2 ≡ with_piece (empty n) (both p (does (ends k r))) =
    chain (λ (t : Spot). does (ends k r)) (empty n) e1 e2 p first
    (h2 ∙ ap (λ (q : Operation). with_piece e1 (does q)) ho) in
    ap (λ (f : Emission). f.piece) last ∙ piece-of-empty n (both p (does (ends k r)))

-- a body of a file from what is found out of it one after the other
pub assembled-whole : (k : BodyKind) (around : Scopes) (number : ℕ) (b : Body) (t : Tally) (l : Layout)
    (pool : List PoolItem) (names : List Name) (c : Context) (p : Piece) (found : List Irep)
    → t ≡ tally b → l ≡ layout k b t → c ≡ opening k b around t → p ≡ whole c l.first k number b
    → pool ≡ pool_of t → names ≡ t.symbols → found ≡ assembled l.head pool names p
    → found ≡ body_code k around number b
assembled-whole k around number (body ps ls f) t l pool names c p found ht hl hc hp hpool hnames h =
    let b = body ps ls f in
    let u = tally b in
    let m = layout k b u in
    let d = opening k b around u in
    let same : l ≡ m = hl ∙ ap (layout k b) ht in
    let piece : p ≡ whole d m.first k number b =
    hp ∙ (ap (λ (z : Context). whole z l.first k number b) (hc ∙ ap (opening k b around) ht)
    ∙ ap (λ (z : Layout). whole d z.first k number b) same) in
    h ∙ (ap (λ (z : Layout). assembled z.head pool names p) same
    ∙ (ap (λ (z : List PoolItem). assembled m.head z names p) (hpool ∙ ap pool_of ht)
    ∙ (ap (λ (z : List Name). assembled m.head (pool_of u) z p) (hnames ∙ ap (λ (z : Tally). z.symbols) ht)
    ∙ ap (assembled m.head (pool_of u) u.symbols) piece)))

-- the same, of all that is found for the code
pub assembled-coded : (k : BodyKind) (around : Scopes) (number : ℕ) (b : Body) (t : Tally) (l : Layout) (c : Context)
    (p : Piece) → t ≡ tally b → l ≡ layout k b t → c ≡ opening k b around t → p ≡ whole c l.first k number b
    → assembled l.head (pool_of t) t.symbols p ≡ coded k around number b
unfolding coded
assembled-coded k around number b t l c p ht hl hc hp =
    assembled-whole k around number b t l (pool_of t) t.symbols c p (assembled l.head (pool_of t) t.symbols p)
    ht hl hc hp refl refl refl

-- what stands around the form of a body, by the scopes that were found for it
pub opening-seen : (k : BodyKind) (b : Body) (around seen found : Scopes) (t : Tally) (c : Context)
    → c ≡ seeing k found t → found ≡ seen → seen ≡ scopes_in k b around → c ≡ opening k b around t
opening-seen k b around seen found t c h shown is =
    h ∙ ap (λ (z : Scopes). seeing k z t) (shown ∙ is)

-- the slots of a body, and its layout, by the scope of the body
pub slots-within : (k : BodyKind) (ps : listed.Parameters) (ls : List variable.Local) (f : CoreForm) (s : Scope)
    (found : Slots) → s.kind ≡ k → s.parameters.now ≡ ps → s.locals.now ≡ ls → found ≡ slots_at s
    → found ≡ slots_of k (body (parameters_of ps) (locals_of ls) f)
slots-within k ps ls f s found hk hp hl h =
    h ∙ (ap (λ (z : BodyKind). slots_by z (parameters_of s.parameters.now) (locals_of s.locals.now)) hk
    ∙ (ap (λ (z : listed.Parameters). slots_by k (parameters_of z) (locals_of s.locals.now)) hp
    ∙ ap (λ (z : List variable.Local). slots_by k (parameters_of ps) (locals_of z)) hl))

pub laid-within : (k : BodyKind) (ps : listed.Parameters) (ls : List variable.Local) (f : CoreForm) (s : Scope)
    (t : Tally) (w : ℕ) → s.kind ≡ k → s.parameters.now ≡ ps → s.locals.now ≡ ls → w ≡ width f
    → laid_out s.kind (body (parameters_of s.parameters.now) (locals_of s.locals.now) nil) t w
    ≡ layout k (body (parameters_of ps) (locals_of ls) f) t
laid-within k ps ls f s t w hk hp hl hw =
    ap (λ (z : BodyKind). laid_out z (body (parameters_of s.parameters.now) (locals_of s.locals.now) nil) t w) hk
    ∙ (ap (λ (z : listed.Parameters). laid_out k (body (parameters_of z) (locals_of s.locals.now) nil) t w) hp
    ∙ (ap (λ (z : List variable.Local). laid_out k (body (parameters_of ps) (locals_of z) nil) t w) hl
    ∙ ap (λ (n : ℕ). laid_out k (body (parameters_of ps) (locals_of ls) nil) t n) hw))
