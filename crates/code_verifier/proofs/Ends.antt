-- Reading ends after the last instruction.
use Rattle.std.proofs.Common.{◌≡◌, refl, ap, ℕ, zero, suc, ◌+◌, List, [], ◌∷◌, length, get_or, map, arith}
use Rattle.code_outline.specs.Layout.{end_of}
use Rattle.code_outline.specs.Outlined.{seen}
use Rattle.code_outline.specs.declared.layout.Standing.{Standing}

pub end_last : (at : ℕ) (ss : List Standing) (n : ℕ) (x : Standing) → length ss ≡ n + 1 → x ≡ get_or ss n x
    → x.next ≡ end_of at (map seen ss)
unfolding end_of
end_last at [] n x len is = absurd (omega arith)
end_last at (s ∷ []) zero x len is = ap (λ (y : Standing). y.next) is
end_last at (s ∷ []) (suc n) x len is = absurd (omega arith)
end_last at (s ∷ t ∷ ss) zero x len is = absurd (omega arith)
end_last at (s ∷ t ∷ ss) (suc n) x len is = end_last s.next (t ∷ ss) n x (omega arith) is

pub end_none : (at : ℕ) (ss : List Standing) → length ss ≡ 0 → at ≡ end_of at (map seen ss)
unfolding end_of
end_none at [] h = refl
end_none at (s ∷ ss) h = absurd (omega arith)
