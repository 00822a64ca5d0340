-- The lines of the code of the body of a class or a module are fine: those of its form, and the return of its value.
use Rattle.std.proofs.Common.{◌≡◌, ℕ, List, [], ◌∷◌, arith, refl, sym, ◌∙◌, true, false}
use Rattle.rite_code.specs.declared.operation.Operation.TheVariants as op
use Rattle.ir_core.specs.CoreForm as form
use Rattle.ir_core.specs.CoreForm.{Local, Parameters, CoreForm}
use Rattle.ir_core.specs.Program as program
use Rattle.ir_core.specs.Program.{is_form}
use Rattle.scope_resolver.specs.declared.body_kind.BodyKind.TheVariants as kind
use Rattle.gen_parts.specs.declared.line.Line.TheVariants as line
use Rattle.gen_parts.specs.Pieces.{Piece}
use Rattle.gen_forms.specs.Gen.{gen, first_spot}
use Rattle.code_laws.proofs.Shares.{Fits, cost, many}
use Rattle.code_laws.proofs.Lines.{Own, tall, lines_append}
use Rattle.code_laws.proofs.Operating.{Ready, own}
use Rattle.code_laws.proofs.Sending.{return_ready}
use Rattle.code_laws.proofs.Entering.{no_inside, opened, Inner, inner_straight}
use Rattle.code_laws.proofs.Forms.{gen_well}
use Rattle.code_laws.proofs.Wides.{width_some}
use Rattle.step_laws.proofs.Fitting.{Around, none_around, w, start, around, IsEntered}

abbrev pub of_no_scopes : Around kind.Class []
of_no_scopes = none_around kind.Class (omega arith)

module _ (p : Parameters) (ls : List Local) (f : CoreForm) (fits : Fits (form.body p ls f)) (a : program.Around)
    (outside : a.loops ≡ false) (formed : is_form a f ≡ true) (n : ℕ) where
  abbrev pub class_lines : Piece
  class_lines =
      gen (around kind.Class [] of_no_scopes p ls f fits) (first_spot n)
      (start kind.Class [] of_no_scopes p ls f fits) f

  never : a.loops ≡ true → kind.Class ≡ kind.Block
  never e = absurd (cc (sym outside ∙ e))

  class_well : Own (own (w kind.Class [] of_no_scopes p ls f fits)) (first_spot n) class_lines (cost f) (many f)
  class_well =
      gen_well f (w kind.Class [] of_no_scopes p ls f fits) a no_inside (first_spot n)
      (start kind.Class [] of_no_scopes p ls f fits)
      (opened (w kind.Class [] of_no_scopes p ls f fits) a.loops (first_spot n) never (omega arith)) fits.1 formed
      (omega arith)

  pub class_inner : Inner kind.Class [] p ls f fits of_no_scopes.short n class_lines
  class_inner = inner_straight kind.Class [] p ls f fits of_no_scopes.short n class_lines refl class_well

  pub class_ready : Ready (own (w kind.Class [] of_no_scopes p ls f fits))
      (op.Return (start kind.Class [] of_no_scopes p ls f fits)) 4
  class_ready =
      return_ready (w kind.Class [] of_no_scopes p ls f fits) (start kind.Class [] of_no_scopes p ls f fits)
      (omega (arith, width_some f))

  pub class_entered : IsEntered kind.Class [] of_no_scopes p ls f fits class_lines
      (op.Return (start kind.Class [] of_no_scopes p ls f fits))
  class_entered =
      lines_append (own (w kind.Class [] of_no_scopes p ls f fits)) (tall class_lines) class_lines.lines
      (line.Does (op.Return (start kind.Class [] of_no_scopes p ls f fits)) ∷ []) class_inner.entered
      (class_ready.serve, tt)
