-- The instructions of fine lines fit their bytes.
use Rattle.std.proofs.Common.{◌≡◌, ◌<◌, ◌≤◌, ℕ, ◌+◌, List, [], ◌∷◌, length, arith, refl, sym, ap, ◌∙◌, subst, Bool, true, false, true≢false, length-append}
use Rattle.std.specs.Prelude.{pos, ◌-ℤ◌, not}
use Rattle.std.proofs.lemmas.Bool.{lt-ltb, and_from}
use Rattle.rite_code.specs.declared.operation.Operation.{Operation}
use Rattle.rite_code.specs.declared.operation.Operation.TheVariants as op
use Rattle.rite_code.specs.Shape.{fits, fits_as, is_index, is_distance}
use Rattle.rite_code.specs.declared.code.Irep.{Irep}
use Rattle.scope_resolver.specs.Layout.{Scopes}
use Rattle.gen_parts.specs.declared.line.Line.{Line}
use Rattle.gen_parts.specs.declared.line.Line.TheVariants as line
use Rattle.gen_parts.specs.Assembly.{shortest, size, place_of, instruction_before, instructions, assembled}
use Rattle.code_laws.proofs.Serves.{Room, IsFew}
use Rattle.code_laws.proofs.Wells.{FineLine, FineLines, Enters, Entered, use_of, IsMade, none, plain, makes}
use Rattle.code_laws.proofs.Assembled.{AllFit, sizes, distance_fits}
use Rattle.code_laws.proofs.Lines.{assembled_length}

abbrev pub AllFew : List Line → Type 0
AllFew [] = Unit
AllFew (l ∷ ls) = IsFew (use_of l) × AllFew ls

pub all_few : {sc : Scopes} {i n : ℕ} {ls : List Line} {cs : List ℕ} {bs : List Irep} → IsMade sc i n ls cs bs
    → i + length bs ≤ 65535 → AllFew ls
all_few none h = tt
all_few (plain l u m) h = (subst IsFew (sym u) tt, all_few m h)
all_few (makes {sc} {child} {number} {ls} {cs} {all} bs o u own h pool symbols q used sound is inner later) few =
    let size : length all ≡ 1 + length q.bodies + length bs =
    ap length is ∙ length-append (assembled h pool symbols q) bs
    ∙ ap (λ (k : ℕ). k + length bs) (assembled_length h pool symbols q) in (
      subst IsFew (sym used) (omega (arith, few, size)),
      all_few later (omega (arith, few, size)),
    )

narrow_fits : (o : Operation) → fits_as false o ≡ true → fits (shortest o) ≡ true
narrow_fits o h = at (fits_as false o) refl
  where
    at : (b : Bool) → fits_as false o ≡ b → fits_as (not b) o ≡ true
    at true e = e
    at false e = absurd (true≢false (sym h ∙ e))

module _ (m : Room) (wide : Bool) (at : List ℕ) (end all : ℕ) (deep : length m.scopes ≤ 65536)
    (few : m.registers ≤ 65535) (within : (to : ℕ) → to ≤ end → place_of at to ≤ all) (small : all ≤ 4194303)
    (narrow : wide ≡ false → (all ≤ 32767) × (m.registers ≤ 256)) where
  register_fits : (w : Bool) (r : ℕ) → r < m.registers → (w ≡ false → (all ≤ 32767) × (m.registers ≤ 256))
      → is_index w r ≡ true
  register_fits true r h n = lt-ltb r 65536 (omega (arith, h, few))
  register_fits false r h n = lt-ltb r 256 (let b = (n refl).1 in omega (arith, h, b))

  jump_fits : (to next : ℕ) → to ≤ end → next ≤ all → is_distance wide (pos (place_of at to) -ℤ pos next) ≡ true
  jump_fits to next h k =
      let there = within to h in
      distance_fits wide (place_of at to) next
      (λ e. let b = (narrow e).0 in (omega (arith, there, b), omega (arith, k, b))) (omega (arith, there, small))
      (omega (arith, k, small))

  line_fits : (next : ℕ) (l : Line) → next ≤ all → FineLine m end l → IsFew (use_of l)
      → fits (instruction_before wide at next l) ≡ true
  unfolding instruction_before
  line_fits next (line.Does o) h f u = f.fit deep u
  line_fits next (line.Jump to) h f u = jump_fits to next f h
  line_fits next (line.JumpIf r to) h f u =
      and_from (is_index wide r) (is_distance wide (pos (place_of at to) -ℤ pos next)) (register_fits wide r f.0 narrow)
      (jump_fits to next f.1 h)
  line_fits next (line.JumpNot r to) h f u =
      and_from (is_index wide r) (is_distance wide (pos (place_of at to) -ℤ pos next)) (register_fits wide r f.0 narrow)
      (jump_fits to next f.1 h)
  line_fits next (line.Leave to) h f u = jump_fits to next f h

  pub lines_fit : (here : ℕ) (ls : List Line) → here + sizes wide ls ≤ all → FineLines m end ls → AllFew ls
      → AllFit (instructions wide at here ls)
  unfolding sizes
  lines_fit here [] h f u = tt
  lines_fit here (l ∷ ls) h f u = (
    line_fits (here + size wide l) l (omega (arith, h)) f.0 u.0,
    lines_fit (here + size wide l) ls (omega (arith, h)) f.1 u.1,
  )

  enter_fits : (next locals : ℕ) (l : Line) (ls : List Line) → Enters locals l ls
      → fits (instruction_before wide at next l) ≡ true
  unfolding instruction_before
  enter_fits next locals l ls e =
      subst (λ (x : Line). fits (instruction_before wide at next x) ≡ true) (sym e.is)
      (narrow_fits (op.Enter e.parameters) e.fit)

  pub entered_fit : (b : Bool) (locals : ℕ) (ls : List Line) → sizes wide ls ≤ all → Entered b locals m end ls
      → AllFew ls
      → AllFit (instructions wide at 0 ls)
  unfolding sizes
  entered_fit false locals ls h f u = lines_fit 0 ls (omega (arith, h)) f u
  entered_fit true locals [] h f u = absurd f
  entered_fit true locals (l ∷ ls) h f u = (
    enter_fits (0 + size wide l) locals l ls f.0,
    lines_fit (0 + size wide l) ls (omega (arith, h)) f.1 u.1,
  )
