-- One cause of a refusal, and no program where there is one.
use Rattle.std.proofs.Common.{◌≡◌, ◌≢◌, ◌⊎◌, inl, inr, ℕ, true, is_some, List, Option, Some, None, refl, sym, ◌∙◌, subst, ap}
use Rattle.path_core.specs.Form.{Form}
use Rattle.rb_syntax.specs.declared.outside.Outside.TheVariants.{Unbuilt}
use Rattle.ir_core.specs.CoreForm.{Body}
use Rattle.rb_front.specs.Front as front
use Rattle.rb_front.specs.Front.{core_of}
use Rattle.rb_front.specs.declared.error.FrontError.{FrontError}
use Rattle.rb_front.specs.declared.error.FrontError.TheVariants as front_errors
use Rattle.ir_counts.specs.Counts.{need}
use Rattle.ir_counts.specs.Limits.{first_excess}
use Rattle.ir_counts.specs.declared.excess.Excess.{Excess}
use Rattle.code_generator.specs.Built.{built}
use Rattle.rb_base.specs.Option.{◌>>=◌}
use Rattle.rb_compile.specs.Errors.{front_error}
use Rattle.rb_compile.specs.Language.{unless_past, form_of_core, program_of}
use Rattle.rb_compile.specs.Compiled.{Refuses}
use Rattle.rb_compile.specs.Causes.{OneCause, NoProgram}
use Rattle.rb_compile.specs.declared.error.CompileError.{CompileError}
use Rattle.rb_compile.specs.declared.error.CompileError.TheVariants.{TooLarge, Syntax, TooDeep, Outside, NoMemory}
use Rattle.rb_front.proofs.Refusals.{refused_core, one_front}

-- a cause of the front
record OfFront (text : List ℕ) (e : CompileError) : Type 0 where
  pub cause : FrontError
  pub other : cause ≢ front_errors.NoMemory
  pub is : e ≡ front_error cause
  pub refuses : front.Refuses text cause

-- why a core isn't compiled: it isn't built, or a count exceeds its limit
abbrev IsUnmade : Body → CompileError → Type 0
IsUnmade c e =
    ((e ≡ Outside Unbuilt 0) × (built c ≡ None))
    ⊎ ((x : Excess) × (e ≡ TooLarge x.what x.count) × (is_some (built c) ≡ true) × (first_excess (need c) ≡ Some x))

-- a cause of the core
record OfCore (text : List ℕ) (e : CompileError) : Type 0 where
  pub form : Body
  pub is : core_of text ≡ Some form
  pub unmade : IsUnmade form e

of_front : (text : List ℕ) (cause : FrontError) → cause ≢ front_errors.NoMemory → front.Refuses text cause
    → OfFront text (front_error cause)
of_front text cause other h = record { cause = cause; other = other; is = refl; refuses = h }

-- each cause is one of the front or one of the core
parted : (text : List ℕ) (e : CompileError) → e ≢ NoMemory → Refuses text e → OfFront text e ⊎ OfCore text e
parted text (TooLarge what count) other (inl (long, is, counted)) =
    inl (subst (OfFront text) (cc (is, counted)) (of_front text front_errors.TooLong (λ p. cc p) long))
parted text (TooLarge what count) other (inr (c, is, there, past)) =
    inr (record { form = c; is = is; unmade = inr (_, refl, there, past) })
parted text (Syntax at) other h = inl (of_front text (front_errors.Syntax at) (λ p. cc p) h)
parted text TooDeep other h = inl (of_front text front_errors.TooDeep (λ p. cc p) h)
parted text (Outside what at) other (inl h) = inl (of_front text (front_errors.Outside what at) (λ p. cc p) h)
parted text (Outside what at) other (inr (is, zero, c, core, none)) =
    inr (record { form = c; is = core; unmade = inl (cc (is, zero), none) })
parted text NoMemory other h = absurd (other refl)

apart : (text : List ℕ) (e d : CompileError) → OfFront text e → OfCore text d → ⊥
apart text e d f c =
    let none : core_of text ≡ None = refused_core text f.cause f.other f.refuses in
    absurd (cc (sym none ∙ c.is))

one_unmade : (c : Body) (e d : CompileError) → IsUnmade c e → IsUnmade c d → e ≡ d
one_unmade c e d (inl (is, none)) (inl (too, again)) = is ∙ sym too
one_unmade c e d (inl (is, none)) (inr (x, too, some, past)) = absurd (cc (sym (ap is_some none) ∙ some))
one_unmade c e d (inr (x, is, some, past)) (inl (too, none)) = absurd (cc (sym (ap is_some none) ∙ some))
one_unmade c e d (inr (x, is, some, past)) (inr (y, too, again, over)) =
    let same : x ≡ y = cc (sym past ∙ over) in
    is ∙ ap (λ (z : Excess). TooLarge z.what z.count) same ∙ sym too

one_core : (text : List ℕ) (e d : CompileError) → OfCore text e → OfCore text d → e ≡ d
one_core text e d g h =
    let same : h.form ≡ g.form = cc (sym h.is ∙ g.is) in
    one_unmade g.form e d g.unmade (subst (λ (c : Body). IsUnmade c d) same h.unmade)

one_parted : (text : List ℕ) (e d : CompileError) → OfFront text e ⊎ OfCore text e → OfFront text d ⊎ OfCore text d
    → e ≡ d
one_parted text e d (inl g) (inl h) =
    g.is ∙ ap front_error (one_front text g.cause h.cause g.other h.other g.refuses h.refuses) ∙ sym h.is
one_parted text e d (inl g) (inr h) = absurd (apart text e d g h)
one_parted text e d (inr g) (inl h) = absurd (apart text d e h g)
one_parted text e d (inr g) (inr h) = one_core text e d g h

pub one_cause : OneCause
one_cause text e d p q g h = one_parted text e d (parted text e p g) (parted text d q h)

past_none : (o : Option Form) (x : Excess) → (o >>= unless_past (Some x)) ≡ None
past_none None x = refl
past_none (Some f) x = refl

unmade_none : (c : Body) (e : CompileError) → IsUnmade c e → form_of_core c ≡ None
unmade_none c e (inl (is, none)) = ap (λ (o : Option Form). o >>= unless_past (first_excess (need c))) none
unmade_none c e (inr (x, is, some, past)) =
    subst (λ (p : Option Excess). (built c >>= unless_past p) ≡ None) (sym past) (past_none (built c) x)

no_core : (text : List ℕ) → core_of text ≡ None → program_of text ≡ None
unfolding program_of
no_core text none = ap (λ (o : Option Body). o >>= form_of_core) none

some_core : (text : List ℕ) (c : Body) → core_of text ≡ Some c → program_of text ≡ form_of_core c
unfolding program_of
some_core text c is = ap (λ (o : Option Body). o >>= form_of_core) is

without : (text : List ℕ) (e : CompileError) → OfFront text e ⊎ OfCore text e → program_of text ≡ None
without text e (inl g) = no_core text (refused_core text g.cause g.other g.refuses)
without text e (inr g) = some_core text g.form g.is ∙ unmade_none g.form e g.unmade

pub no_program : NoProgram
no_program text e p h = without text e (parted text e p h)

never_both : {A : Type 0} (o : Option A) (x : A) → o ≡ None → o ≡ Some x → ⊥
never_both o x none some = absurd (cc (sym none ∙ some))

-- where there is a program no error has a cause but that memory ran out
pub only_memory : (text : List ℕ) (f : Form) (e : CompileError) → program_of text ≡ Some f → Refuses text e
    → e ≡ NoMemory
only_memory text f (TooLarge what count) is h =
    absurd (never_both (program_of text) f (no_program text (TooLarge what count) (λ p. cc p) h) is)
only_memory text f (Syntax at) is h =
    absurd (never_both (program_of text) f (no_program text (Syntax at) (λ p. cc p) h) is)
only_memory text f TooDeep is h =
    absurd (never_both (program_of text) f (no_program text TooDeep (λ p. cc p) h) is)
only_memory text f (Outside what at) is h =
    absurd (never_both (program_of text) f (no_program text (Outside what at) (λ p. cc p) h) is)
only_memory text f NoMemory is h = refl
