-- The code of every program within the limits passes the verifier, and a file can hold it.
use Rattle.std.proofs.Common.{◌≡◌, true, ◌≤◌, ℕ, suc, ◌+◌, List, [], ◌∷◌, ◌++◌, length, arith, refl, sym, ap, ◌∙◌, subst, inl, inr}
use Rattle.std.specs.Prelude.{Option, Some, None, slice_get}
use Rattle.std.specs.List.{All}
use Rattle.rite_code.specs.declared.code.Irep.{Irep}
use Rattle.rite_code.specs.Code.{Program, program, IsBody, IsForest, IsWhole}
use Rattle.ir_core.specs.CoreForm as form
use Rattle.ir_core.specs.CoreForm.{Body, form_of}
use Rattle.ir_core.specs.Program.{IsProgram}
use Rattle.ir_walk.specs.Walk.{walked}
use Rattle.ir_walk.specs.declared.extent.Extent.TheVariants as extent
use Rattle.ir_counts.specs.Counts.{need}
use Rattle.ir_counts.specs.Limits.{first_excess}
use Rattle.scope_resolver.specs.declared.body_kind.BodyKind.TheVariants as kind
use Rattle.scope_resolver.specs.Layout.{Slots, has_parameters}
use Rattle.code_outline.specs.Makers.{Made, made_from, first_maker, maker_of}
use Rattle.code_verifier.specs.Checks.{Bad, first, in_function, takes_arguments, bodies_bad, first_bad}
use Rattle.code_verifier.specs.Verified.{IsVerified}
use Rattle.gen_parts.specs.Assembly.{assembled}
use Rattle.gen_forms.specs.Open.{coded}
use Rattle.gen_forms.specs.Making.{coded_program}
use Rattle.code_laws.specs.Counted.{IsCounted}
use Rattle.code_laws.proofs.Serves.{Seat}
use Rattle.code_laws.proofs.Shares.{Fits, many}
use Rattle.code_laws.proofs.Noting.{noted_of, whole}
use Rattle.code_laws.proofs.Limits.{Counted, within_limits, steps_of}
use Rattle.code_laws.proofs.Choosing.{program_formed}
use Rattle.code_laws.proofs.Operating.{AreShort}
use Rattle.code_laws.proofs.Bodied.{Coded}
use Rattle.code_laws.proofs.Forms.{body_well}
use Rattle.code_laws.proofs.Checking.{Stood}
use Rattle.code_laws.proofs.Numbers.{mades, mades_none, none_both}
use Rattle.code_laws.proofs.Bodywise.{body_of, body_passes}
use Rattle.code_laws.proofs.Counting.{program_counted, program_bodies}
use Rattle.code_laws.proofs.Lines.{assembled_length}
use Rattle.code_laws.proofs.Trees.{program_tree}
use Rattle.code_laws.proofs.Descending.{Done, Stand, descend, lines_made, from_none, seat_by}

fits_program : (b : Body) → Counted b → Fits b
fits_program (form.body p ls f) c = (
  c.main,
  noted_of (steps_of (form.body p ls f)) c.each f (walked extent.Body [] f) [] [] (whole (walked extent.Body [] f))
      (whole (walked extent.Program [] f)),
)

no_scopes : AreShort []
no_scopes n ss e = absurd (cc e)

-- the main body
module _ (b : Body) (c : Coded kind.Main [] 0 b) (few : length c.piece.bodies ≤ 65535) where
  abbrev own : Irep
  own = body_of c.head c.pool c.symbols c.piece

  abbrev all : List Irep
  all = own ∷ c.piece.bodies

  abbrev p : Program
  p = program 2 all

  all_made : (j : ℕ) → maker_of p j
      ≡ first_maker j (mades 0 c.head.wide 0 c.piece.lines c.piece.children ++ made_from 2 1 c.piece.bodies)
  unfolding maker_of made_from
  all_made j =
      ap (λ (ms : List Made). first_maker j (ms ++ made_from 2 1 c.piece.bodies))
      (lines_made 0 kind.Main c.slots [] c.head c.pool c.symbols c.piece c.sound c.made (omega arith) few)

  none_makes : maker_of p 0 ≡ None
  none_makes =
      all_made 0
      ∙ none_both 0 (mades 0 c.head.wide 0 c.piece.lines c.piece.children) (made_from 2 1 c.piece.bodies)
      (mades_none 0 c.head.wide 0 0 c.made (inl (omega arith)))
      (from_none 0 c.made (omega arith) (omega (arith, few)) (omega arith) (inl (omega arith)))

  far : (between : ℕ) (ss : Slots) → slice_get (c.slots ∷ []) (between + 1) ≡ Some ss → ⊥
  far between ss e = absurd (nothing_there (ap (slice_get (c.slots ∷ [])) (suc_is between) ∙ e))
    where
      nothing_there : slice_get (c.slots ∷ []) (suc between) ≡ Some ss → ⊥
      nothing_there f = absurd (cc f)

      suc_is : (k : ℕ) → suc k ≡ k + 1
      suc_is k = omega arith

  never_block : kind.Main ≡ kind.Block → in_function (maker_of p 0) ≡ true
  never_block e = absurd (cc)

  abbrev seat : Seat kind.Main (c.slots ∷ [])
  seat = record {
    program = p;
    number = 0;
    function = never_block;
    main = λ e. refl;
    reaches = λ between register ss e some within. absurd (far between ss e);
  }

  stands : Stand all 1 c.piece.bodies
  stands k x e = ap (slice_get all) (suc_is k) ∙ e
    where
      suc_is : (k : ℕ) → 1 + k ≡ suc k
      suc_is k = omega arith

  done : Done all 0 own c.head.wide 0 c.piece.lines 1 c.piece.bodies
  done =
      descend all 0 own c.head.wide 0 [] c.made (record {
        mine = c.slots;
        rest = [];
        are = refl;
        at = refl;
        locals = c.sound.locals;
        reaches = seat.reaches;
      }) refl refl (omega arith) (omega (arith, few)) (omega arith) stands (λ j low high. all_made j)

  stood : Stood p 0 c.sound.room own
  stood = record {
    seat = seat_by kind.Main c.sound.room.kind (c.slots ∷ []) c.sound.room.scopes c.sound.kind c.sound.scopes seat;
    program = refl;
    number = refl;
    takes = ap takes_arguments none_makes ∙ ap has_parameters (sym c.sound.kind);
    has = refl;
    registers = sym c.sound.registers;
    pool = c.sound.items;
    symbols = c.sound.names;
  }

  main_verified : first (bodies_bad p 0 all) ≡ None
  unfolding bodies_bad first
  main_verified =
      ap (λ (x : Option Bad). first (x ∷ bodies_bad p 1 c.piece.bodies))
      (body_passes 0 kind.Main c.slots [] c.head c.pool c.symbols c.piece c.sound c.made (omega arith) few all stood
      (ap takes_arguments none_makes) done.used) ∙ done.fine

assembled_is : (b : Body) (c : Coded kind.Main [] 0 b)
    → assembled c.head c.pool c.symbols c.piece ≡ body_of c.head c.pool c.symbols c.piece ∷ c.piece.bodies
unfolding assembled
assembled_is b c = refl

coded_verified : (b : Body) (c : Coded kind.Main [] 0 b) → length c.piece.bodies ≤ 65535
    → IsVerified (program 2 (coded_program b))
unfolding coded first_bad
coded_verified b c few =
    ap (λ (bs : List Irep). first (bodies_bad (program 2 bs) 0 bs)) (c.is ∙ assembled_is b c) ∙ main_verified b c few

few_within : (b : Body) (c : Coded kind.Main [] 0 b) → 1 + many (form_of b) ≤ 65536 → length c.piece.bodies ≤ 65535
few_within (form.body p ls f) c h = omega (arith, h, c.count)

-- the code of a program within the limits
main_code : (b : Body) → IsProgram b → first_excess (need b) ≡ None → Coded kind.Main [] 0 b
main_code b h limits = body_well b kind.Main [] 0 no_scopes (fits_program b (within_limits b limits)) (program_formed b h)

main_few : (b : Body) (h : IsProgram b) (limits : first_excess (need b) ≡ None)
    → length (main_code b h limits).piece.bodies ≤ 65535
main_few b h limits = few_within b (main_code b h limits) (within_limits b limits).few

-- no check of the verifier fails in it
pub program_verified : (b : Body) → IsProgram b → first_excess (need b) ≡ None
    → IsVerified (program 2 (coded_program b))
program_verified b h limits = coded_verified b (main_code b h limits) (main_few b h limits)

-- and it is within the limits, body by body
pub program_within : (b : Body) → IsProgram b → first_excess (need b) ≡ None → All IsCounted (coded_program b)
unfolding coded
program_within b h limits =
    let c = main_code b h limits in
    subst (All IsCounted) (sym c.is) (program_counted kind.Main c.slots [] c.head c.pool c.symbols c.piece c.sound
    c.made (main_few b h limits))

-- its bodies are one tree, of no more than a file can hold
pub program_is_tree : (b : Body) → IsProgram b → first_excess (need b) ≡ None → IsForest 0 (coded_program b) (0 ∷ [])
unfolding coded
program_is_tree b h limits =
    let c = main_code b h limits in
    subst (λ (bs : List Irep). IsForest 0 bs (0 ∷ [])) (sym c.is) (program_tree c.head c.pool c.symbols c.piece c.made)

pub program_is_small : (b : Body) → IsProgram b → first_excess (need b) ≡ None → length (coded_program b) ≤ 65536
unfolding coded
program_is_small b h limits =
    let c = main_code b h limits in
    let size = assembled_length c.head c.pool c.symbols c.piece in
    let few = main_few b h limits in
    omega (arith, ap length c.is, size, few)

-- each of them is fit for a file
program_is_fit : (b : Body) → IsProgram b → first_excess (need b) ≡ None → All (IsBody 2) (coded_program b)
unfolding coded
program_is_fit b h limits =
    let c = main_code b h limits in
    subst (All (IsBody 2)) (sym c.is) (program_bodies kind.Main c.slots [] c.head c.pool c.symbols c.piece c.sound
    c.made (main_few b h limits))

pub program_is_whole : (b : Body) → IsProgram b → first_excess (need b) ≡ None
    → IsWhole (program 2 (coded_program b))
program_is_whole b h limits = record {
  version = inr refl;
  count = program_is_small b h limits;
  each = program_is_fit b h limits;
  tree = program_is_tree b h limits;
}
