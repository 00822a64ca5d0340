-- What a write leaves of the pending items.
use Rattle.std.proofs.Common.{◌≡◌, ℕ, ◌+◌, ◌<◌, ◌≤◌, List, [], ◌∷◌, ◌∙◌, arith, length}
use Rattle.rite_code.specs.Code.{Program}
use Rattle.path_eval.specs.Configuration.{Source, Item, inside, activation}
use Rattle.path_turns.specs.State.{Slot, body_at, Registers, slot_at, put, Frame}
use Rattle.code_generator.proofs.Stands.{Around, spared, kept}
use Rattle.code_generator.proofs.Relation.{Fits, Holds, Awaits}
use Rattle.code_generator.proofs.Registers.{fits_put, slot_other}

-- the registers between the locals and r stay
pub record Keeps (q : Source) (p : Program) (ls ls' : List Registers) (b n r : ℕ) : Type 0 where
  pub fits : Fits q p ls b n → Fits q p ls' b n
  pub same : (i : ℕ) → (body_at p b).locals ≤ i → i < r → slot_at ls' n i ≡ slot_at ls n i

pub awaits_fits : (q : Source) (p : Program) (ls : List Registers) (ks : List Item) (h : Around) (b n : ℕ)
    (fs : List Frame) (at r : ℕ) → Awaits q p ls ks h b n fs at r → Fits q p ls b n
awaits_fits q p ls [] h b n fs at r a = a.fits
awaits_fits q p ls (inside k ∷ ks) h b n fs at r a = awaits_fits q p ls ks h b n fs a.end a.low a.next
awaits_fits q p ls (activation c ∷ ks) h b n fs at r a = a.fits

holds_kept : (q : Source) (p : Program) (ls ls' : List Registers) (b n r low : ℕ) (vs : List Slot)
    → Keeps q p ls ls' b n r → (body_at p b).locals ≤ low → low + length vs ≤ r → Holds ls n low vs → Holds ls' n low vs
holds_kept q p ls ls' b n r low [] k above le h = tt
holds_kept q p ls ls' b n r low (v ∷ vs) k above le h =
    (k.same low above (omega arith) ∙ h.0, holds_kept q p ls ls' b n r (low + 1) vs k (omega arith) (omega arith) h.1)

lower : (q : Source) (p : Program) (ls ls' : List Registers) (b n r s : ℕ) → s ≤ r → Keeps q p ls ls' b n r
    → Keeps q p ls ls' b n s
lower q p ls ls' b n r s le k = record { fits = k.fits; same = λ i above lt. k.same i above (omega arith) }

pub awaits_keeps : (q : Source) (p : Program) (ls ls' : List Registers) (ks : List Item) (h : Around) (b n : ℕ)
    (fs : List Frame) (at r : ℕ) → Keeps q p ls ls' b n r → Awaits q p ls ks h b n fs at r
    → Awaits q p ls' ks h b n fs at r
awaits_keeps q p ls ls' [] h b n fs at r k a = record { stop = a.stop; fits = k.fits a.fits }
awaits_keeps q p ls ls' (inside c ∷ ks) h b n fs at r k a = record {
  low = a.low;
  kept_below = a.kept_below;
  locals_below = a.locals_below;
  held = holds_kept q p ls ls' b n r (a.low + spared c) (kept c) k (omega (arith, a.locals_below))
      (omega (arith, a.kept_below)) a.held;
  end = a.end;
  behind = a.behind;
  next = awaits_keeps q p ls ls' ks h b n fs a.end a.low (lower q p ls ls' b n r a.low (omega (arith, a.kept_below)) k)
      a.next;
}
awaits_keeps q p ls ls' (activation c ∷ ks) h b n fs at r k a =
    record { last = a.last; stop = a.stop; fits = k.fits a.fits }

-- a write at r or above
pub keeps_above : (q : Source) (p : Program) (ls : List Registers) (b n r i : ℕ) (v : Slot) → n < length ls → r ≤ i
    → Keeps q p ls (put ls n i v) b n r
keeps_above q p ls b n r i v lt le = record {
  fits = fits_put q p ls b n i v;
  same =
      λ j above below. slot_other ls n i j v lt (omega arith);
}

-- a write to a local
pub keeps_local : (q : Source) (p : Program) (ls : List Registers) (b n r i : ℕ) (v : Slot) → n < length ls
    → i < (body_at p b).locals → Keeps q p ls (put ls n i v) b n r
keeps_local q p ls b n r i v lt le = record {
  fits = fits_put q p ls b n i v;
  same =
      λ j above below. slot_other ls n i j v lt (omega arith);
}
