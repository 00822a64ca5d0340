-- What is left of a number, taken from in steps.
use Rattle.std.proofs.Common.{◌≡◌, ◌⊎◌, inl, inr, ℕ, ◌+◌, ◌-◌, ◌≤◌, ◌<◌, Bool, true, false, nat_le, Option, Some, None, is_some, if◌then◌else◌, refl, ap, sym, ◌∙◌, arith}
use Rattle.std.proofs.Math.Dec.{leb-zero}
use Rattle.std.proofs.lemmas.Bool.Decides.{leb_tells}
use Rattle.code_generator.specs.Built.{left_after}
use Rattle.rb_base.specs.Option.{◌>>=◌}

left_enough : (b n : ℕ) → nat_le n b ≡ true → left_after b n ≡ Some (b - n)
left_enough b n e = ap (λ t. if t then Some (b - n) else None) e

left_short : (b n : ℕ) → nat_le n b ≡ false → left_after b n ≡ None
left_short b n e = ap (λ t. if t then Some (b - n) else None) e

pub left_is_some : (b n : ℕ) → is_some (left_after b n) ≡ nat_le n b
left_is_some b n = at (nat_le n b)
  where
    at : (t : Bool) → is_some (if t then Some (b - n) else None) ≡ t
    at true = refl
    at false = refl

-- taking a sum is taking its parts in turn
pub left_sum : (b m n : ℕ) → left_after b (m + n) ≡ (left_after b m >>= (λ r. left_after r n))
left_sum b m n = by (leb_tells m b) (leb_tells n (b - m)) (leb_tells (m + n) b)
  where
    after : Option ℕ → Option ℕ
    after o = o >>= (λ r. left_after r n)

    by : ((nat_le m b ≡ true) × (m ≤ b)) ⊎ ((nat_le m b ≡ false) × (b < m))
        → ((nat_le n (b - m) ≡ true) × (n ≤ b - m)) ⊎ ((nat_le n (b - m) ≡ false) × (b - m < n))
        → ((nat_le (m + n) b ≡ true) × (m + n ≤ b)) ⊎ ((nat_le (m + n) b ≡ false) × (b < m + n))
        → left_after b (m + n) ≡ after (left_after b m)
    by (inl p) (inl q) (inl s) = left_enough b (m + n) s.0
        ∙ (ap Some (omega (arith)) ∙ sym (ap after (left_enough b m p.0) ∙ left_enough (b - m) n q.0))
    by (inl p) (inl q) (inr s) = absurd (omega (arith, p.1, q.1, s.1))
    by (inl p) (inr q) (inl s) = absurd (omega (arith, p.1, q.1, s.1))
    by (inl p) (inr q) (inr s) = left_short b (m + n) s.0
        ∙ sym (ap after (left_enough b m p.0) ∙ left_short (b - m) n q.0)
    by (inr p) q (inl s) = absurd (omega (arith, p.1, s.1))
    by (inr p) q (inr s) = left_short b (m + n) s.0 ∙ sym (ap after (left_short b m p.0))

pub left_none : (b : ℕ) → left_after b 0 ≡ Some b
left_none b = left_enough b 0 (leb-zero b) ∙ ap Some (omega arith)

pub ruleset budget_laws = (left_is_some, left_sum, left_none)
