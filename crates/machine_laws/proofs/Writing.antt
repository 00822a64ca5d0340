-- What a write to a register, and a new list of registers, leave of lists.
use Rattle.std.proofs.Common.{◌≡◌, ◌≢◌, ℕ, ◌<◌, List, [], ◌∷◌, ◌++◌, length, set, refl, sym, ap, ◌∙◌, subst, arith, inl, inr, length-append, length-set}
use Rattle.std.proofs.lemmas.Bool.{cases_eq}
use Rattle.std.proofs.lemmas.List.{get_or-set_same, get_or-set_other, get_or_append_left}
use Rattle.rb_value.specs.declared.value.Value.{Value}
use Rattle.rb_value.specs.declared.exit.Slot.{Slot}
use Rattle.rb_value.specs.declared.exit.Slot.TheVariants.{V}
use Rattle.def_core.specs.Sound.{Census, AllAre}
use Rattle.def_core.proofs.PartsSound.{all_set}
use Rattle.rite_code.specs.Code.{Program}
use Rattle.def_machine.specs.State.{Registers, list_at, no_registers, put}
use Rattle.def_machine.specs.Fits.{SlotFits, RegistersFit, KeptFits}
use Rattle.machine_laws.specs.Growth.{ListsGrow, KeepsExits}
use Rattle.machine_laws.proofs.Lists.{all_get}

abbrev written : List Registers → ℕ → ℕ → Slot → Registers
written ls n i s = record (list_at ls n) { slots = set (list_at ls n).slots i s }

module _ (ls : List Registers) (n i : ℕ) (s : Slot) where
  -- the list at a number after a write
  at_same : n < length ls → list_at (put ls n i s) n ≡ written ls n i s
  unfolding put
  at_same h = get_or-set_same ls n (written ls n i s) no_registers h

  pub at_other : (j : ℕ) → j ≢ n → list_at (put ls n i s) j ≡ list_at ls j
  unfolding put
  at_other j ne = get_or-set_other ls n j (written ls n i s) no_registers ne

  outer_put : (j : ℕ) → j < length ls → (list_at (put ls n i s) j).outer ≡ (list_at ls j).outer
  outer_put j lt = elim (cases_eq j n) [
    | inl e ↦ subst (λ (k : ℕ). (list_at (put ls n i s) k).outer ≡ (list_at ls k).outer) (sym e)
        (ap (λ (r : Registers). r.outer) (at_same (subst (λ (k : ℕ). k < length ls) e lt)))
    | inr ne ↦ ap (λ (r : Registers). r.outer) (at_other j ne)
  ]

  count_put : (j : ℕ) → j < length ls → length (list_at (put ls n i s) j).slots ≡ length (list_at ls j).slots
  count_put j lt = elim (cases_eq j n) [
    | inl e ↦ subst (λ (k : ℕ). length (list_at (put ls n i s) k).slots ≡ length (list_at ls k).slots) (sym e)
        (ap (λ (r : Registers). length r.slots) (at_same (subst (λ (k : ℕ). k < length ls) e lt))
        ∙ length-set (list_at ls n).slots i s)
    | inr ne ↦ ap (λ (r : Registers). length r.slots) (at_other j ne)
  ]

  pub length_put : length (put ls n i s) ≡ length ls
  unfolding put
  length_put = length-set ls n (written ls n i s)

  pub put_grows : ListsGrow ls (put ls n i s)
  put_grows = record { longer = omega (arith, length_put); outer = outer_put; count = count_put }

  -- what holds of each slot of a list holds still, where it does of the one that is written
  pub slots_put : (P : Slot → Type 0) (j : ℕ) → j < length ls → P s → AllAre P (list_at ls j).slots
      → AllAre P (list_at (put ls n i s) j).slots
  slots_put P j lt new h = elim (cases_eq j n) [
    | inl e ↦ subst (λ (k : ℕ). AllAre P (list_at ls k).slots → AllAre P (list_at (put ls n i s) k).slots) (sym e)
        (λ old. subst (λ (r : Registers). AllAre P r.slots) (sym (at_same (subst (λ (k : ℕ). k < length ls) e lt)))
        (all_set P (list_at ls n).slots i s old new)) h
    | inr ne ↦ subst (λ (r : Registers). AllAre P r.slots) (sym (at_other j ne)) h
  ]

  pub registers_put : (k : Census) → SlotFits k s → AllAre (RegistersFit k) ls → AllAre (RegistersFit k) (put ls n i s)
  unfolding put
  registers_put k new h =
      all_set (RegistersFit k) ls n (written ls n i s) h
      (all_set (SlotFits k) (list_at ls n).slots i s (all_get (RegistersFit k) ls no_registers n h tt) new)

-- a value is no exit
pub keeps_value : (p : Program) (ls : List Registers) (n i : ℕ) (v : Value) (j : ℕ) → j < length ls
    → KeepsExits p ls (put ls n i (V v)) j
keeps_value p ls n i v j lt k f below h = slots_put ls n i (V v) (KeptFits p k f below) j lt tt h

-- and a write to one list leaves the others
pub keeps_others : (p : Program) (ls : List Registers) (n i : ℕ) (s : Slot) (j : ℕ) → j ≢ n
    → KeepsExits p ls (put ls n i s) j
keeps_others p ls n i s j ne k f below h =
    subst (λ (r : Registers). AllAre (KeptFits p k f below) r.slots) (sym (at_other ls n i s j ne)) h

-- A new list.

module _ (ls : List Registers) (r : Registers) where
  pub at_before : (j : ℕ) → j < length ls → list_at (ls ++ r ∷ []) j ≡ list_at ls j
  at_before j lt = get_or_append_left ls (r ∷ []) no_registers j lt

  pub push_grows : ListsGrow ls (ls ++ r ∷ [])
  push_grows = record {
    longer = rw length-append (omega arith);
    outer = λ j lt. ap (λ (x : Registers). x.outer) (at_before j lt);
    count = λ j lt. ap (λ (x : Registers). length x.slots) (at_before j lt);
  }

  pub keeps_pushed : (p : Program) (j : ℕ) → j < length ls → KeepsExits p ls (ls ++ r ∷ []) j
  keeps_pushed p j lt k f below h =
      subst (λ (x : Registers). AllAre (KeptFits p k f below) x.slots) (sym (at_before j lt)) h

pub lists_stay : (ls : List Registers) → ListsGrow ls ls
lists_stay ls = record { longer = omega arith; outer = λ j lt. refl; count = λ j lt. refl }
