-- The code of a core, by that of its form.
use Rattle.std.proofs.Common.{◌≡◌, ℕ, ap, sym, ◌∙◌, Result, Ok, Err, Box}
use Rattle.std.specs.Prelude.{OnOk}
use Rattle.std.specs.declared.alloc.Global.{Global}
use Rattle.rb_base.specs.declared.list.Bytes.{Bytes}
use Rattle.ir_core.specs.declared.term.Term as term
use Rattle.ir_core.specs.declared.term.Term.{Term, fold-roll-Term}
use Rattle.ir_core.specs.declared.term.Term.TheOpen.{Term-F}
use Rattle.ir_core.specs.declared.term.Term.TheVariants as variant
use Rattle.ir_core.specs.declared.term.Body.{Body}
use Rattle.ir_core.specs.CoreForm as form
use Rattle.ir_core.specs.CoreForm.{CoreForm}
use Rattle.ir_core.specs.View.{Core, core_view, term_view, term_step}
use Rattle.ir_core.specs.Parts.{body_form}
use Rattle.gen_parts.specs.Pieces.{Piece}
use Rattle.gen_parts.specs.Emission.{Emission, with_piece, here}
use Rattle.gen_forms.specs.Gen.{Context, gen}

pub core-Fn : (b : Box (Body Core) Global) → term_view (term.Fn b) ≡ form.function (body_form b.value)
core-Fn b = ap term_view (sym (variant.rolls-Fn b)) ∙ fold-roll-Term CoreForm term_step (Term-F.Fn b)

pub core-Lambda : (b : Box (Body Core) Global) → term_view (term.Lambda b) ≡ form.lambda (body_form b.value)
core-Lambda b = ap term_view (sym (variant.rolls-Lambda b)) ∙ fold-roll-Term CoreForm term_step (Term-F.Lambda b)

pub core-Def : (x : Bytes) (b : Box (Body Core) Global) → term_view (term.Def x b) ≡ form.define x (body_form b.value)
core-Def x b = ap term_view (sym (variant.rolls-Def x b)) ∙ fold-roll-Term CoreForm term_step (Term-F.Def x b)

pub core-DefOn : (e : Core) (x : Bytes) (b : Box (Body Core) Global)
    → term_view (term.DefOn e x b) ≡ form.define_on (core_view e) x (body_form b.value)
core-DefOn e x b =
    ap term_view (sym (variant.rolls-DefOn e x b)) ∙ fold-roll-Term CoreForm term_step (Term-F.DefOn e x b)

pub core-SingletonClass : (e : Core) (b : Box (Body Core) Global)
    → term_view (term.SingletonClass e b) ≡ form.singleton_class (core_view e) (body_form b.value)
core-SingletonClass e b =
    ap term_view (sym (variant.rolls-SingletonClass e b)) ∙ fold-roll-Term CoreForm term_step (Term-F.SingletonClass e b)

-- code that is that of the form which a core stands for
pub emitted-by : {T X : Type 0} (result : Result T X) (c : Context) (r : ℕ) (e e1 : Emission) (t u : Term)
    (f : CoreForm) (p : Piece) → t ≡ u → term_view u ≡ f → p ≡ gen c (here e) r f
    → OnOk result (e1 ≡ with_piece e p) → OnOk result (e1 ≡ with_piece e (gen c (here e) r (term_view t)))
emitted-by (Ok x) c r e e1 t u f p is view same h =
    h ∙ (ap (with_piece e) same
    ∙ ap (λ (k : CoreForm). with_piece e (gen c (here e) r k)) (sym (ap term_view is ∙ view)))
emitted-by (Err x) c r e e1 t u f p is view same h = tt
