-- The registers and variables of the instruction of a frame are there.
use Rattle.std.proofs.Common.{◌≡◌, ℕ, zero, suc, ◌+◌, ◌<◌, List, ◌∷◌, length, true, refl, sym, subst, arith, true≢false}
use Rattle.std.specs.Prelude.{Option, Some, None, slice_get, nat_lt, unwrap_or}
use Rattle.std.proofs.lemmas.Bool.{ltb-true, and_parts}
use Rattle.std.proofs.lemmas.List.Elements.{All-get_or}
use Rattle.std.proofs.lemmas.Option.{none-some, slice_get_within, get_or_from_slice_get}
use Rattle.rite_code.specs.Code.{Program, IsBody, IsWhole}
use Rattle.rite_code.specs.declared.code.Irep.{Irep}
use Rattle.code_outline.specs.Makers.{outer, further, scope_out}
use Rattle.code_verifier.specs.Checks.{is_local, body_number, variable_holds}
use Rattle.code_verifier.specs.Needs.{Variable}
use Rattle.code_verifier.specs.Verified.{IsVerified}
use Rattle.def_machine.specs.State.{Registers, Frame, Level, frame, Memory, body_at, no_body, list_at, list_out}
use Rattle.def_machine.specs.Fits.{ListFits, RunsWell}
use Rattle.machine_laws.specs.Standing.{ReachesVariable, StandsAt}
use Rattle.machine_laws.proofs.Codes.{read_start}
use Rattle.machine_laws.proofs.Chains.{fits_upto}

-- the list so many levels out is that of the body so many levels out
pub record Reached (p : Program) (ls : List Registers) (n j : ℕ) : Type 0 where
  pub within : n < length ls
  pub body : j < length p.bodies
  pub count : length (list_at ls n).slots ≡ (body_at p j).registers

reached : (p : Program) (ls : List Registers) (most n k : ℕ) → ListFits most p ls (Some n) (Some k) → Reached p ls n k
reached p ls zero n k h = absurd h
reached p ls (suc most) n k h = record { within = h.0; body = h.1; count = h.2 }

next_level : {R : Type 0} (j : ℕ) (out : ℕ → Option ℕ) (o : Option ℕ) → ((i : ℕ) → o ≡ Some i → out i ≡ Some j → R)
    → further o out ≡ Some j → R
next_level j out None on e = absurd (none-some j e)
next_level j out (Some i) on e = on i refl e

-- one level out
module _ (p : Program) (ls : List Registers) where
  outwards : (most n k : ℕ) → ListFits most p ls (Some n) (Some k) → (j : ℕ) → outer p k ≡ Some j
      → ListFits most p ls (Some (unwrap_or (list_at ls n).outer 0)) (Some j)
  outwards zero n k h j e = absurd h
  outwards (suc most) n k h j e =
      found (list_at ls n).outer (subst (ListFits most p ls (list_at ls n).outer) e h.4)
    where
      found : (o : Option ℕ) → ListFits most p ls o (Some j) → ListFits (suc most) p ls (Some (unwrap_or o 0)) (Some j)
      found None x = absurd x
      found (Some i) x = fits_upto p ls most (suc most) (Some i) (Some j) (omega arith) x

  chained : (c most n k j : ℕ) → ListFits most p ls (Some n) (Some k) → scope_out p c k ≡ Some j
      → Reached p ls (list_out (suc c) ls n) j
  unfolding scope_out
  chained zero most n k j h e = reached p ls most (unwrap_or (list_at ls n).outer 0) j (outwards most n k h j e)
  chained (suc c) most n k j h e =
      let m = unwrap_or (list_at ls n).outer 0 in
      next_level j (scope_out p c) (outer p k) (λ i same x. chained c most m i j (outwards most n k h i same) x) e

-- a local of a body has a register
local_below : (p : Program) (whole : IsWhole p) (j r : ℕ) (found : Option Irep) → slice_get p.bodies j ≡ found
    → is_local found r ≡ true → r < (body_at p j).registers
local_below p whole j r None e h = absurd (true≢false (sym h))
local_below p whole j r (Some b) e h =
    let parts = and_parts (nat_lt 0 r) (nat_lt r b.locals) h in
    let same : body_at p j ≡ b = get_or_from_slice_get p.bodies j b no_body e in
    let is = All-get_or (IsBody p.version) p.bodies j b (slice_get_within p.bodies j b e) whole.each in
    let body : IsBody p.version b = subst (IsBody p.version) (get_or_from_slice_get p.bodies j b b e) is in
    subst (λ (x : Irep). r < x.registers) (sym same) (omega (arith, ltb-true r b.locals parts.1, body.locals))

module _ (p : Program) (whole : IsWhole p) (verified : IsVerified p) (f : Frame) (ls : List Level) (m : Memory)
    (h : RunsWell p (frame f ∷ ls) m) where
  variable_in : (v : Variable) (found : Option ℕ) → scope_out p v.between f.body ≡ found
      → is_local (body_number p found) v.register ≡ true → ReachesVariable m f v
  variable_in v None e is = absurd (true≢false (sym is))
  variable_in v (Some j) e is =
      let far = chained p m.lists v.between (length m.lists) f.list f.body j h.levels.0.list e in
      let same : suc v.between ≡ v.between + 1 = omega arith in
      let low = local_below p whole j v.register (slice_get p.bodies j) refl is in
      record {
        list = subst (λ (d : ℕ). list_out d m.lists f.list < length m.lists) same far.within;
        register = subst (λ (d : ℕ). v.register < length (list_at m.lists (list_out d m.lists f.list)).slots) same
            (omega (arith, far.count, low));
      }

  pub stands_at : StandsAt p m f
  stands_at =
      let r = read_start p whole verified f.body h.levels.0.body f.place h.levels.0.place in
      let own = reached p m.lists (length m.lists) f.list f.body h.levels.0.list in
      record {
        instruction = r.standing.instruction;
        next = r.standing.next;
        read = r.read;
        list = own.within;
        registers = omega (arith, r.facts.registers, own.count);
        variable = λ v e. variable_in v (scope_out p v.between f.body) refl
            (subst (λ (o : Option Variable). variable_holds p f.body o ≡ true) e r.facts.variable);
      }
