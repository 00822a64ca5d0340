-- A machine that has ended, and one that is stuck, stays as it is, so the end that is seen of a code on an input is one.
use Rattle.std.proofs.Common.{◌≡◌, ℕ, zero, suc, ◌+◌, Bool, true, false, List, refl, sym, ap, ◌∙◌, arith, true≢false}
use Rattle.rite_code.specs.Code.{Program}
use Rattle.def_calls.specs.Seen.{End, Seen, Going, Over, over, end_or}
use Rattle.def_machine.specs.State.{State, On, Off, Stuck, start, shown}
use Rattle.def_machine.specs.Turn.{turn, turns, machine}

pub ended_stays : (c : Program) (e : End) (n : ℕ) → turns n c (Off e) ≡ Off e
ended_stays c e zero = refl
ended_stays c e (suc n) = ended_stays c e n

pub stuck_stays : (c : Program) (out : List ℕ) (n : ℕ) → turns n c (Stuck out) ≡ Stuck out
stuck_stays c out zero = refl
stuck_stays c out (suc n) = stuck_stays c out n

pub turns-add : (m n : ℕ) (c : Program) (s : State) → turns (m + n) c s ≡ turns n c (turns m c s)
turns-add zero n c s = let e : zero + n ≡ n = omega arith in ap (λ k. turns k c s) e
turns-add (suc m) n c s = let e : suc m + n ≡ suc (m + n) = omega arith in ap (λ k. turns k c s) e
    ∙ turns-add m n c (turn c s)

-- what shows an end has ended
shown_over : (s : State) (e : End) → shown s ≡ Over e → s ≡ Off e
unfolding shown
shown_over (Off d) e h = ap (λ x. Off (end_or e x)) h
shown_over (On ls m) e h = absurd (true≢false (sym (ap over h)))
shown_over (Stuck out) e h = absurd (true≢false (sym (ap over h)))

pub over_stays : (c : Program) (input : List ℕ) (m n : ℕ) (e : End) → machine c input m ≡ Over e
    → machine c input (m + n) ≡ Over e
unfolding machine shown
over_stays c input m n e h = ap shown (turns-add m n c (start c input)
    ∙ ap (turns n c) (shown_over (turns m c (start c input)) e h) ∙ ended_stays c e n)

-- a turn leaves what has ended
pub ended_fixed : (c : Program) (s : State) → over (shown s) ≡ true → turn c s ≡ s
unfolding shown
ended_fixed c (Off e) h = refl
ended_fixed c (On ls m) h = absurd (true≢false (sym h))
ended_fixed c (Stuck out) h = absurd (true≢false (sym h))
