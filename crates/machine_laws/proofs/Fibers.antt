-- Fibers that are found, and the one that goes on.
use Rattle.std.proofs.Common.{◌≡◌, ℕ, suc, ◌+◌, ◌<◌, ◌≤◌, List, [], ◌∷◌, length, Bool, true, false, refl, sym, ap, ◌∙◌, subst, arith, true≢false}
use Rattle.std.specs.Prelude.{Option, Some, None, if◌then◌else◌}
use Rattle.std.proofs.lemmas.Bool.{eqb-true, eq-eqb}
use Rattle.std.proofs.lemmas.Option.{none-some, same_Some}
use Rattle.def_core.specs.Sound.{census, OptionIs, AllAre}
use Rattle.rite_code.specs.Code.{Program}
use Rattle.def_calls.specs.Fibers.{Name, root, object, Fiber, Onward, same_name, fiber_named, without, back_in, back_to}
use Rattle.def_machine.specs.State.{Level, Memory}
use Rattle.def_machine.specs.Fits.{LevelsWait, NameFits, FiberFits, holders, waiting_holders}
use Rattle.machine_laws.proofs.Memories.{FibersFit}

name_is : (a b : Name) → same_name a b ≡ true → a ≡ b
name_is root root h = refl
name_is root (object g) h = absurd (true≢false (sym h))
name_is (object f) root h = absurd (true≢false (sym h))
name_is (object f) (object g) h = ap (λ (n : ℕ). object (record { 0 = n })) (eqb-true f.0 g.0 h)

name_itself : (a : Name) → same_name a a ≡ true
name_itself root = refl
name_itself (object f) = eq-eqb f.0 f.0 refl

-- the first fiber of a name, and those that are left without it
pub record Found (P : Fiber (List Level) → Type 0) (fs : List (Fiber (List Level))) (n : Name)
    (g : Fiber (List Level)) : Type 0 where
  pub name : n ≡ g.name
  pub fits : AllAre P fs → P g
  pub rest : AllAre P fs → AllAre P (without n fs)
  pub count : suc (length (without n fs)) ≡ length fs
  pub held : (k : ℕ) → waiting_holders k fs ≡ holders k g.kept + waiting_holders k (without n fs)

module _ (P : Fiber (List Level) → Type 0) (n : Name) (g : Fiber (List Level)) where
  here : (fs : List (Fiber (List Level))) (f : Fiber (List Level)) → same_name n f.name ≡ true → f ≡ g
      → Found P (f ∷ fs) n g
  here fs f t e =
      let gone : without n (f ∷ fs) ≡ fs =
      ap (λ (b : Bool). if b then fs else f ∷ without n fs) t in
      record {
        name = name_is n f.name t ∙ ap (λ (x : Fiber (List Level)). x.name) e;
        fits = λ all. subst P e all.0;
        rest = λ all. subst (AllAre P) (sym gone) all.1;
        count = ap (λ (xs : List (Fiber (List Level))). suc (length xs)) gone;
        held = λ k. ap (λ (x : Fiber (List Level)). holders k x.kept + waiting_holders k fs) e
            ∙ ap (λ (xs : List (Fiber (List Level))). holders k g.kept + waiting_holders k xs) (sym gone);
      }

  further : (fs : List (Fiber (List Level))) (f : Fiber (List Level)) → same_name n f.name ≡ false → Found P fs n g
      → Found P (f ∷ fs) n g
  further fs f t found =
      let stays : without n (f ∷ fs) ≡ f ∷ without n fs =
      ap (λ (b : Bool). if b then fs else f ∷ without n fs) t in
      record {
        name = found.name;
        fits = λ all. found.fits all.1;
        rest = λ all. subst (AllAre P) (sym stays) (all.0, found.rest all.1);
        count = ap (λ (xs : List (Fiber (List Level))). suc (length xs)) stays ∙ ap suc found.count;
        held = λ k.
            let e : holders k f.kept + waiting_holders k fs
            ≡ holders k g.kept + (holders k f.kept + waiting_holders k (without n fs)) =
            omega (arith, found.held k) in
            e ∙ ap (λ (xs : List (Fiber (List Level))). holders k g.kept + waiting_holders k xs) (sym stays);
      }

  pub found_named : (fs : List (Fiber (List Level))) → fiber_named n fs ≡ Some g → Found P fs n g
  found_named [] e = absurd (none-some g e)
  found_named (f ∷ fs) e = elim (same_name n f.name) as (λ b. same_name n f.name ≡ b
      → (if b then Some f else fiber_named n fs) ≡ Some g → Found P (f ∷ fs) n g) [
        | true ↦ λ t x. here fs f t (same_Some f g x)
        | false ↦ λ t x. further fs f t (found_named fs x)
      ] refl e

-- What goes on: it has a level, and all fit.
pub record OnwardFits (p : Program) (m : Memory) (o : Onward (List Level)) : Type 0 where
  pub fibers : FibersFit p m o.fibers
  pub some : 0 < length o.kept
  pub levels : LevelsWait p m o.kept
  pub apart : (n : ℕ) → holders n o.kept + waiting_holders n o.fibers.others ≤ 1

module _ (p : Program) (m : Memory) (fs : List (Fiber (List Level))) (all : AllAre (FiberFits p m) fs)
    (once : (n : ℕ) → waiting_holders n fs ≤ 1) where
  -- a fiber that is found goes on, without it among the others
  pub goes_on : (n : Name) (r : Fiber (List Level)) (running : Name) (resumer : Option Name)
      → Found (FiberFits p m) fs n r
      → NameFits (census m.world.store) running → OptionIs (NameFits (census m.world.store)) resumer
      → OnwardFits p m (record {
        kept = r.kept;
        fibers = record { running = running; resumer = resumer; others = without n fs };
      })
  goes_on n r running resumer found named resumed =
      let fits = found.fits all in
      record {
        fibers = record { running = named; resumer = resumed; waiting = found.rest all };
        some = fits.some;
        levels = fits.levels;
        apart = λ k. omega (arith, once k, found.held k);
      }

  pub record Back (o : Onward (List Level)) : Type 0 where
    pub onward : OnwardFits p m o
    pub fewer : suc (length o.fibers.others) ≡ length fs

  back_by : (n : Name) (found : Option (Fiber (List Level))) (o : Onward (List Level)) → fiber_named n fs ≡ found
      → back_in fs found ≡ Some o → Back o
  back_by n None o e h = absurd (none-some o h)
  back_by n (Some r) o e h =
      let found = found_named (FiberFits p m) n r fs e in
      let fits = found.fits all in
      let same : without n fs ≡ without r.name fs = ap (λ (x : Name). without x fs) found.name in
      let on = goes_on n r r.name r.resumer found fits.name fits.resumer in
      subst Back (same_Some (record {
        kept = r.kept;
        fibers = record { running = r.name; resumer = r.resumer; others = without r.name fs };
      }) o h)
      (record {
        onward = subst (λ (xs : List (Fiber (List Level))). OnwardFits p m (record {
          kept = r.kept;
          fibers = record { running = r.name; resumer = r.resumer; others = xs };
        })) same on;
        fewer = subst (λ (xs : List (Fiber (List Level))). suc (length xs) ≡ length fs) same found.count;
      })

  pub back_fits : (resumer : Option Name) (o : Onward (List Level)) → back_to fs resumer ≡ Some o → Back o
  back_fits None o h = absurd (none-some o h)
  back_fits (Some r) o h = back_by r (fiber_named r fs) o refl h
