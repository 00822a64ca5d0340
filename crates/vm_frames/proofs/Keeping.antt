-- Where a frame may keep exits, and where it keeps none.
use Rattle.std.proofs.Common.{◌≡◌, ℕ, suc, [], ◌∷◌, length, arith, Bool, true, false, not, ◌&&◌, ◌==◌, refl, sym, true≢false}
use Rattle.std.proofs.lemmas.Bool.Decides.{nat_tests}
use Rattle.vm_frames.specs.Seen.{Exits}
use Rattle.vm_frames.specs.Exits.{without, without_from, when, pending_number}
use Rattle.vm_frames.proofs.Steps.{without_none}

abbrev pub may_keep : Bool → Exits → Bool
may_keep k xs = k && not (length xs == 0)

not_none : (n : ℕ) → not (suc n == 0) ≡ false → ⊥
not_none n h = grind (arith, nat_tests)

pub dropped_some : (k : Bool) (xs ys : Exits) → may_keep k xs ≡ true → when k ys xs ≡ ys
dropped_some true xs ys h = refl
dropped_some false xs ys h = absurd (true≢false (sym h))

pub all_dropped_none : (k : Bool) (xs : Exits) (list n : ℕ) → may_keep k xs ≡ false
    → when k (without_from (without xs list pending_number) list 0 n) xs ≡ xs
all_dropped_none true [] list n h = without_none list 0 n
all_dropped_none true (x ∷ xs) list n h = absurd (not_none (length xs) h)
all_dropped_none false xs list n h = refl
