-- What a sink has taken, piece by piece.
use Rattle.std.proofs.Common.{◌≡◌, ℕ, ◌+◌, List, ◌++◌, take, drop, refl, ap, sym, ◌∙◌, append_assoc}
use Rattle.std.specs.Prelude.{Option, Some, None}
use Rattle.rb_base.specs.Outside.{with_more}
use Rattle.std.proofs.Math.Seq.{take-add}

-- two pieces, one after the other
pub with_more-again : (told : Option (List ℕ)) (xs ys : List ℕ)
    → with_more (with_more told xs) ys ≡ with_more told (xs ++ ys)
with_more-again None xs ys = refl
with_more-again (Some told) xs ys = ap Some (append_assoc told xs ys)

-- what was taken before, and a prefix of what was left
pub took_further : (told now : Option (List ℕ)) (at n : ℕ) (bytes : List ℕ) → now ≡ with_more told (take at bytes)
    → with_more now (take n (drop at bytes)) ≡ with_more told (take (at + n) bytes)
took_further told now at n bytes same =
    ap (λ t. with_more t (take n (drop at bytes))) same
    ∙ with_more-again told (take at bytes) (take n (drop at bytes))
    ∙ ap (with_more told) (sym (take-add at n bytes))
