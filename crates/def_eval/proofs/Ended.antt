-- An ended evaluation stays as it is, so the end that is seen of a source on an input is one.
use Rattle.std.proofs.Common.{◌≡◌, ℕ, zero, suc, ◌+◌, Bool, true, false, List, refl, sym, ap, ◌∙◌, arith, true≢false}
use Rattle.def_calls.specs.Seen.{End, Seen, Going, Over, over, end_or}
use Rattle.def_eval.specs.Source.{Source}
use Rattle.def_eval.specs.Configuration.{Config, Run, Halt, opening, seen}
use Rattle.def_eval.specs.Transition.{go, go_times, evaluation}

pub ended_stays : (s : Source) (e : End) (n : ℕ) → go_times n s (Halt e) ≡ Halt e
ended_stays s e zero = refl
ended_stays s e (suc n) = ended_stays s e n

pub go_times-add : (m n : ℕ) (s : Source) (c : Config) → go_times (m + n) s c ≡ go_times n s (go_times m s c)
go_times-add zero n s c = let e : zero + n ≡ n = omega arith in ap (λ k. go_times k s c) e
go_times-add (suc m) n s c = let e : suc m + n ≡ suc (m + n) = omega arith in ap (λ k. go_times k s c) e
    ∙ go_times-add m n s (go s c)

-- what shows an end has ended
seen_over : (c : Config) (e : End) → seen c ≡ Over e → c ≡ Halt e
unfolding seen
seen_over (Halt d) e h = ap (λ x. Halt (end_or e x)) h
seen_over (Run f ks m) e h = absurd (true≢false (sym (ap over h)))

pub over_stays : (s : Source) (input : List ℕ) (m n : ℕ) (e : End) → evaluation s input m ≡ Over e
    → evaluation s input (m + n) ≡ Over e
unfolding evaluation seen
over_stays s input m n e h = ap seen (go_times-add m n s (opening s input)
    ∙ ap (go_times n s) (seen_over (go_times m s (opening s input)) e h) ∙ ended_stays s e n)

-- a transition leaves what has ended
pub ended_fixed : (s : Source) (c : Config) → over (seen c) ≡ true → go s c ≡ c
unfolding seen
ended_fixed s (Halt e) h = refl
ended_fixed s (Run f ks m) h = absurd (true≢false (sym h))
