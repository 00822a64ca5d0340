-- The instruction of a frame by its index.
use Rattle.std.proofs.Common.{◌≡◌, ℕ, List, ◌∷◌, subst}
use Rattle.std.specs.Prelude.{Some}
use Rattle.rite_code.specs.Code.{Program, IsWhole}
use Rattle.code_outline.specs.Layout.{layout}
use Rattle.code_outline.proofs.Kept.{lays}
use Rattle.code_verifier.specs.Verified.{IsVerified}
use Rattle.code_instructions.specs.Indexed.{at_standing, index_in, instructions_in}
use Rattle.code_instructions.specs.Names.{names_of, numbers_in}
use Rattle.code_instructions.proofs.Mapped.{mapped_to}
use Rattle.code_instructions.proofs.Verified.{fine_body}
use Rattle.def_machine.specs.State.{Frame, Level, frame, Memory, body_at}
use Rattle.def_machine.specs.Fits.{RunsWell}
use Rattle.machine_laws.specs.Standing.{StandsAtIndex}
use Rattle.machine_laws.proofs.Codes.{standing_at}
use Rattle.machine_laws.proofs.Reading.{number_at}

pub stands_at_index : (p : Program) (f : Frame) (ls : List Level) (m : Memory) → IsWhole p → IsVerified p
    → RunsWell p (frame f ∷ ls) m → StandsAtIndex p f
unfolding instructions_in
stands_at_index p f ls m whole verified h =
    let b = body_at p f.body in
    let names = numbers_in (names_of p) b.symbols in
    let found = standing_at p.version b.code f.place h.levels.0.place in
    let x = at_standing names b.children (index_in p.version b.code) found.1 in
    let here = mapped_to (at_standing names b.children (index_in p.version b.code)) (layout p.version b.code) found.0
    found.1 found.2 in
    record {
      index = found.0;
      instruction = x;
      place = subst (λ (at : ℕ). index_in p.version b.code at ≡ Some found.0) found.3
          ((lays p.version b.code).by_place found.0 found.1 found.2);
      stands = here;
      fine = (fine_body p f.body b whole verified (number_at p f.body h.levels.0.body)).each found.0 x here;
    }
