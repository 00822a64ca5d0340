-- What verified code shows of the instruction at a start.
use Rattle.std.proofs.Common.{◌≡◌, ℕ, suc, ◌+◌, ◌<◌, ◌≤◌, ℤ, pos, negsuc, ◌+ℤ◌, List, [], ◌∷◌, length, drop, reverse, filter, Bool, true, false, refl, sym, ap, ◌∙◌, subst, true≢false}
use Rattle.std.specs.Prelude.{Option, Some, None, is_some, slice_get, nat_lt, if◌then◌else◌}
use Rattle.std.specs.List.{list_all}
use Rattle.std.proofs.lemmas.Bool.{leb-true}
use mathlib.Core.List.{reverse_aux}
use Rattle.rb_value.specs.declared.exit.Exit.{Exit}
use Rattle.def_core.specs.Sound.{OptionIs, AllAre}
use Rattle.rite_code.specs.declared.code.CatchEntry.{CatchEntry}
use Rattle.rite_code.specs.declared.operation.Operation.{Operation}
use Rattle.rite_code.specs.Code.{Program, IsWhole}
use Rattle.rite_code.specs.Spelling.{decode}
use Rattle.code_outline.specs.Layout.{Standing, layout, is_start}
use Rattle.code_outline.specs.Makers.{maker_of, made_by}
use Rattle.code_outline.proofs.Kept.{lays}
use Rattle.code_outline.proofs.Places.{is_some-index_from}
use Rattle.code_outline.specs.Outlined.{index_from}
use Rattle.code_verifier.specs.Needs.{variable_of, registers_of, symbols_of, entry_of, distance_of, leaves, parameters_of}
use Rattle.code_verifier.specs.Checks.{variable_holds, entry_holds, jump_holds, enter_holds, takes_arguments, makes_once, is_used, leads_to_start}
use Rattle.code_verifier.specs.Holds.{PassesBody}
use Rattle.code_verifier.specs.Verified.{IsVerified}
use Rattle.code_verifier.proofs.Passing.{passes_body, verified_body}
use Rattle.code_instructions.specs.Fine.{HasChild}
use Rattle.code_instructions.specs.Resolved.{resolved}
use Rattle.code_instructions.proofs.Children.{has_child}
use Rattle.code_instructions.proofs.Handlers.{catches_here}
use Rattle.code_instructions.proofs.Places.{read_at}
use Rattle.code_instructions.proofs.Tests.{both}
use Rattle.def_machine.specs.State.{body_at}
use Rattle.def_machine.specs.Turn.{fetch, target}
use Rattle.def_machine.specs.Unwind.{covers, covering, takes, handler}
use Rattle.def_machine.specs.Fits.{IsStart}
use Rattle.def_machine.proofs.Start.{starts}
use Rattle.machine_laws.proofs.Reading.{number_at}

-- a start is the place of an instruction, and the other way round
module _ (version : ℕ) (code : List ℕ) where
  at_index : (at : ℕ) (found : Option ℕ) → index_from 0 (layout version code) at ≡ found → is_some found ≡ true
      → (i : ℕ) × (s : Standing) × (slice_get (layout version code) i ≡ Some s) × (s.at ≡ at)
  at_index at None e h = absurd (true≢false (sym h))
  at_index at (Some i) e h = let found = (lays version code).at_place at i e in (i, found.0, found.1, found.2)

  pub standing_at : (at : ℕ) → is_start (layout version code) at ≡ true
      → (i : ℕ) × (s : Standing) × (slice_get (layout version code) i ≡ Some s) × (s.at ≡ at)
  standing_at at h = at_index at (index_from 0 (layout version code) at) refl
      (is_some-index_from 0 (layout version code) at ∙ h)

  pub starts_at : (i : ℕ) (s : Standing) → slice_get (layout version code) i ≡ Some s
      → is_start (layout version code) s.at ≡ true
  starts_at i s e = sym (is_some-index_from 0 (layout version code) s.at)
      ∙ ap is_some ((lays version code).by_place i s e)

-- what is known of an operation at a place of body k, where the next instruction stands at next
pub record Facts (p : Program) (k at : ℕ) (o : Operation) (next : ℕ) : Type 0 where
  pub registers : registers_of o ≤ (body_at p k).registers
  pub entry : entry_holds (body_at p k).pool (entry_of o) ≡ true
  pub symbols : list_all (λ i. nat_lt i (length (body_at p k).symbols)) (symbols_of o) ≡ true
  pub index : ℕ
  pub child : HasChild p k (body_at p k) index (resolved [] (body_at p k).children (λ i. None) next o)
  pub jump : jump_holds (layout p.version (body_at p k).code) next (distance_of o) ≡ true
  pub variable : variable_holds p k (variable_of o) ≡ true
  pub enter : enter_holds (takes_arguments (maker_of p k)) at (body_at p k)
      (drop 1 (layout p.version (body_at p k).code)) (parameters_of o) ≡ true
  pub follows : leaves o ≡ false → IsStart p k next

-- the instruction that is read at a start
pub record Read (p : Program) (k at : ℕ) : Type 0 where
  pub standing : Standing
  pub read : fetch p k at ≡ Some (standing.instruction, standing.next)
  pub facts : Facts p k at standing.instruction.operation standing.next

module _ (p : Program) (whole : IsWhole p) (verified : IsVerified p) (k : ℕ) (there : k < length p.bodies) where
  number : slice_get p.bodies k ≡ Some (body_at p k)
  number = number_at p k there

  pub passes : PassesBody p k (body_at p k)
  passes = passes_body p k (body_at p k) (verified_body p k (body_at p k) verified number)

  pub begins : IsStart p k 0
  begins = starts p.version (body_at p k).code passes.begun passes.ended

  facts_of : (i : ℕ) (s : Standing) → slice_get (layout p.version (body_at p k).code) i ≡ Some s
      → Facts p k s.at s.instruction.operation s.next
  facts_of i s here =
      let b = body_at p k in
      let ss = layout p.version b.code in
      let all = passes.instructions i s here in
      let used = both (makes_once p k s.at (made_by k b s)) (is_used p k s.at) all.child_use in
      record {
        registers = leb-true (registers_of s.instruction.operation) b.registers all.registers;
        entry = all.entry;
        symbols = all.symbols;
        index = i;
        child = has_child p k i b s whole number here [] (λ j. None) s.next s.instruction.operation refl all.child
            used.0;
        jump = all.jump;
        variable = all.variable;
        enter = all.enter;
        follows = λ stays.
            let next = passes.goes_on i s here stays in
            subst (λ (n : ℕ). is_start ss n ≡ true) next.place
            (starts_at p.version b.code (i + 1) next.next next.stands);
      }

  pub read_start : (at : ℕ) → IsStart p k at → Read p k at
  unfolding fetch
  read_start at h =
      let found = standing_at p.version (body_at p k).code at h in
      record {
        standing = found.1;
        read = subst (λ (n : ℕ). decode p.version (body_at p k).code n ≡ Some (found.1.instruction, found.1.next))
            found.3 (read_at p.version (body_at p k).code found.0 found.1 found.2);
        facts = subst (λ (n : ℕ). Facts p k n found.1.instruction.operation found.1.next) found.3
            (facts_of found.0 found.1 found.2);
      }

  -- Handlers.

  catches_from : (es : List CatchEntry) → ((i : ℕ) (e : CatchEntry) → slice_get es i ≡ Some e → IsStart p k e.target)
      → AllAre (λ e. IsStart p k e.target) es
  catches_from [] h = tt
  catches_from (e ∷ es) h = (h 0 e refl, catches_from es (λ i x at. h (suc i) x at))

  catches : AllAre (λ e. IsStart p k e.target) (body_at p k).catches
  catches = catches_from (body_at p k).catches (λ i e at.
      (catches_here (length (body_at p k).code) (layout p.version (body_at p k).code) e (passes.catches i e at)).leads)

  back : (xs ys : List CatchEntry) → AllAre (λ e. IsStart p k e.target) xs → AllAre (λ e. IsStart p k e.target) ys
      → AllAre (λ e. IsStart p k e.target) (reverse_aux xs ys)
  back [] ys h g = g
  back (x ∷ xs) ys h g = back xs (x ∷ ys) h.1 (h.0, g)

  some : (test : CatchEntry → Bool) (xs : List CatchEntry) → AllAre (λ e. IsStart p k e.target) xs
      → AllAre (λ e. IsStart p k e.target) (filter test xs)
  some test [] h = tt
  some test (x ∷ xs) h =
      elim (test x) as (λ b. AllAre (λ e. IsStart p k e.target) (if b then x ∷ filter test xs else filter test xs)) [
        | true ↦ (h.0, some test xs h.1)
        | false ↦ some test xs h.1
      ]

  handled_by : (x : Exit) (es : List CatchEntry) → AllAre (λ e. IsStart p k e.target) es
      → OptionIs (IsStart p k) (handler x es)
  handled_by x [] h = tt
  handled_by x (e ∷ es) h =
      elim (takes x e) as (λ b. OptionIs (IsStart p k) (if b then Some e.target else handler x es)) [
        | true ↦ h.0
        | false ↦ handled_by x es h.1
      ]

  -- where an exit comes to a handler, an instruction starts
  pub handler_starts : (x : Exit) (at : ℕ) → OptionIs (IsStart p k) (handler x (covering p k at))
  unfolding covering
  handler_starts x at = handled_by x (covering p k at)
      (some (covers at) (reverse (body_at p k).catches) (back (body_at p k).catches [] catches tt))

-- a jump that holds leads to a start
led : (p : Program) (k next : ℕ) (by : ℤ) (z : ℤ) → pos next +ℤ by ≡ z
    → leads_to_start (layout p.version (body_at p k).code) z ≡ true → IsStart p k (target next by)
unfolding target
led p k next by (pos n) e h = rw e h
led p k next by (negsuc n) e h = absurd (true≢false (sym h))

pub target_starts : (p : Program) (k next : ℕ) (by : ℤ)
    → jump_holds (layout p.version (body_at p k).code) next (Some by) ≡ true → IsStart p k (target next by)
target_starts p k next by h = led p k next by (pos next +ℤ by) refl h
