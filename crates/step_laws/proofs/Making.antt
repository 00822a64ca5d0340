-- The bodies that the code of a method or a block makes.
use Rattle.std.proofs.Common.{◌≡◌, ℕ, zero, suc, ◌+◌, List, [], ◌∷◌, ◌++◌, length, refl, ap, ◌∙◌, true}
use Rattle.std.proofs.lemmas.List.{append-nil}
use Rattle.rite_code.specs.declared.code.Irep.{Irep}
use Rattle.rite_code.specs.declared.operation.Operation.TheVariants as op
use Rattle.ir_core.specs.CoreForm as form
use Rattle.ir_core.specs.CoreForm.{Name, Local, CoreForm, Body, Forms, Items, Receiver, form_of}
use Rattle.ir_core.specs.Program.{has_defaults}
use Rattle.ir_counts.specs.Counts.{tally}
use Rattle.scope_resolver.specs.declared.body_kind.BodyKind.{BodyKind}
use Rattle.scope_resolver.specs.declared.body_kind.BodyKind.TheVariants as kind
use Rattle.scope_resolver.specs.Layout.{Scopes}
use Rattle.gen_parts.specs.declared.line.Line.{Line}
use Rattle.gen_parts.specs.declared.line.Catch.{Catch}
use Rattle.gen_parts.specs.declared.emitter.Spot.{Spot}
use Rattle.gen_parts.specs.Pieces.{Piece, behind, jump, nothing, both, puts, does, ◌⊕◌}
use Rattle.gen_parts.specs.Assembly.{assembled}
use Rattle.gen_forms.specs.Gen.{Context, ahead, starts, jumps_to, gen, in_turn, with_jumps, by_defaults, first_spot, first_register, opening, layout, parameters, pool_of, body_code}
use Rattle.code_laws.proofs.Bodywise.{body_of}
use Rattle.step_laws.specs.Plain.{IsPlainBody}

-- The code of the body of a method or a block of that number: ENTER, its form behind jumps to the defaults, where there are
-- some, and the return of its value.
abbrev pub form_by : ℕ → CoreForm → Context → ℕ → ℕ → Piece
form_by o f c n r =
    by_defaults o (λ d u m. gen d u m f) (λ d u m. with_jumps d u m (o + 1) f) c (behind (first_spot n)) r

abbrev pub form_piece : BodyKind → Scopes → ℕ → Body → Piece
form_piece k sc n (form.body p ls f) =
    let t = tally (form.body p ls f) in
    form_by (length p.optional) f (opening k (form.body p ls f) sc t) n (first_register k (form.body p ls f) t)

abbrev pub body_piece : BodyKind → Scopes → ℕ → Body → Piece
body_piece k sc n (form.body p ls f) =
    (does (op.Enter (parameters p)) ⊕ form_piece k sc n (form.body p ls f))
    ⊕ does (op.Return (first_register k (form.body p ls f) (tally (form.body p ls f))))

-- where the form itself begins
abbrev pub form_spot : ℕ → ℕ → Spot
form_spot n zero = behind (first_spot n)
form_spot n (suc o) = ahead (behind (first_spot n)) (suc o + 1)

pub spot_body : (n o : ℕ) → (form_spot n o).body ≡ n + 1
unfolding behind
spot_body n zero = refl
spot_body n (suc o) = refl

pub spot_child : (n o : ℕ) → (form_spot n o).child ≡ 0
unfolding behind
spot_child n zero = refl
spot_child n (suc o) = refl

-- the tables of the form are those of its code
pub record SameTables (p q : Piece) : Type 0 where
  pub catches : p.catches ≡ q.catches
  pub children : p.children ≡ q.children
  pub bodies : p.bodies ≡ q.bodies

-- a piece without tables
unfoldable pub IsBare : Piece → Type 0
IsBare p = (p.catches ≡ []) × (p.children ≡ []) × (p.bodies ≡ [])

pub bare_both : (p q : Piece) → IsBare p → IsBare q → IsBare (p ⊕ q)
unfolding IsBare both
bare_both p q e f = (
  ap (λ (cs : List Catch). cs ++ q.catches) e.0 ∙ f.0,
  ap (λ (cs : List ℕ). cs ++ q.children) e.1 ∙ f.1,
  ap (λ (bs : List Irep). bs ++ q.bodies) e.2 ∙ f.2,
)

pub bare_puts : (l : Line) → IsBare (puts l)
unfolding IsBare puts
bare_puts l = (refl, refl, refl)

pub bare_nothing : IsBare nothing
unfolding IsBare nothing
bare_nothing = (refl, refl, refl)

jumps_bare : (ns : List ℕ) → IsBare (jumps_to ns)
jumps_bare [] = bare_nothing
jumps_bare (n ∷ ns) = bare_both (jump n) (jumps_to ns) (bare_puts _) (jumps_bare ns)

behind_bare : (p q : Piece) → IsBare p → SameTables (p ⊕ q) q
unfolding IsBare both
behind_bare p q is = record {
  catches = ap (λ (cs : List Catch). cs ++ q.catches) is.0;
  children = ap (λ (ns : List ℕ). ns ++ q.children) is.1;
  bodies = ap (λ (bs : List Irep). bs ++ q.bodies) is.2;
}

pub tables_of : (os : List Local) (f : CoreForm) (c : Context) (n r : ℕ) → has_defaults os f ≡ true
    → SameTables (form_by (length os) f c n r) (gen c (form_spot n (length os)) r f)
tables_of [] f c n r d = record { catches = refl; children = refl; bodies = refl }
tables_of (x ∷ os) (form.seq es) c n r d =
    let s = form_spot n (suc (length os)) in
    behind_bare (jumps_to (starts c s r (suc (length os) + 1) es)) (in_turn c s r es)
    (jumps_bare (starts c s r (suc (length os) + 1) es))
tables_of (x ∷ os) f c n r d = absurd (cc d)

abbrev pub body_irep : BodyKind → Scopes → ℕ → Body → Irep
body_irep k sc n b =
    body_of (layout k b (tally b)).head (pool_of (tally b)) (tally b).symbols (body_piece k sc n b)

-- the bodies in it
abbrev pub inner_bodies : BodyKind → Scopes → ℕ → Body → List Irep
inner_bodies k sc n (form.body p ls f) =
    let t = tally (form.body p ls f) in
    (gen (opening k (form.body p ls f) sc t) (form_spot n (length p.optional)) (first_register k (form.body p ls f) t)
    f).bodies

code_by : (k : BodyKind) (sc : Scopes) (n : ℕ) (p : form.Parameters) (ls : List Local) (f : CoreForm)
    → has_defaults p.optional f ≡ true
    → assembled (layout k (form.body p ls f) (tally (form.body p ls f))).head
    (pool_of (tally (form.body p ls f))) (tally (form.body p ls f)).symbols (body_piece k sc n (form.body p ls f))
    ≡ body_irep k sc n (form.body p ls f) ∷ inner_bodies k sc n (form.body p ls f)
unfolding assembled both puts
code_by k sc n p ls f defaults =
    let t = tally (form.body p ls f) in
    let c = opening k (form.body p ls f) sc t in
    let r = first_register k (form.body p ls f) t in
    ap (λ (bs : List Irep). body_irep k sc n (form.body p ls f) ∷ bs)
    (append-nil (form_piece k sc n (form.body p ls f)).bodies ∙ (tables_of p.optional f c n r defaults).bodies)

pub code_of_method : (around : Scopes) (n : ℕ) (b : Body) → IsPlainBody b
    → body_code kind.Method around n b ≡ body_irep kind.Method [] n b ∷ inner_bodies kind.Method [] n b
code_of_method around n (form.body p ls f) m = code_by kind.Method [] n p ls f m.defaults

pub code_of_block : (around : Scopes) (n : ℕ) (b : Body) → IsPlainBody b
    → body_code kind.Block around n b ≡ body_irep kind.Block around n b ∷ inner_bodies kind.Block around n b
code_of_block around n (form.body p ls f) m = code_by kind.Block around n p ls f m.defaults

-- The code of the body of a class or a module of that number: its form and the return of its value.
abbrev pub class_piece : ℕ → Body → Piece
class_piece n (form.body p ls f) =
    let t = tally (form.body p ls f) in
    let r = first_register kind.Class (form.body p ls f) t in
    gen (opening kind.Class (form.body p ls f) [] t) (first_spot n) r f ⊕ does (op.Return r)

abbrev pub class_irep : ℕ → Body → Irep
class_irep n b =
    body_of (layout kind.Class b (tally b)).head (pool_of (tally b)) (tally b).symbols (class_piece n b)

abbrev pub class_bodies : ℕ → Body → List Irep
class_bodies n (form.body p ls f) =
    let t = tally (form.body p ls f) in
    (gen (opening kind.Class (form.body p ls f) [] t) (first_spot n) (first_register kind.Class (form.body p ls f) t)
    f).bodies

pub code_of_class : (around : Scopes) (n : ℕ) (b : Body)
    → body_code kind.Class around n b ≡ class_irep n b ∷ class_bodies n b
unfolding assembled both puts
code_of_class around n (form.body p ls f) =
    ap (λ (bs : List Irep). class_irep n (form.body p ls f) ∷ bs) (append-nil (class_bodies n (form.body p ls f)))
