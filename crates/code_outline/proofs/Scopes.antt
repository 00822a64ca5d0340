-- From a body outwards, a level at a time.
use Rattle.std.proofs.Common.{◌≡◌, refl, ℕ, zero, suc, ◌+◌, ◌-◌, ◌<◌, ◌≤◌, length, arith}
use Rattle.std.specs.Prelude.{Option, None, Some}
use Rattle.std.proofs.lemmas.Option.{cond_some, none-some, slice_get_within}
use Rattle.rite_code.specs.Code.{Program}
use Rattle.code_outline.specs.declared.maker.Maker.{Maker}
use Rattle.code_outline.specs.Makers.{maker_of, around, outer, further, scope_out, is_function}
use Rattle.code_outline.proofs.Makes.{maker_of-makes}

-- one level of those that are left, and the last one
pub scope_out-step : (p : Program) (n c k : ℕ) → c < n
    → scope_out p (n - c) k ≡ further (outer p k) (scope_out p (n - (c + 1)))
unfolding scope_out
scope_out-step p n c k h = let e : n - c ≡ suc (n - (c + 1)) = omega arith in rw e refl

pub scope_out-end : (p : Program) (n c k : ℕ) → n ≤ c → scope_out p (n - c) k ≡ outer p k
unfolding scope_out
scope_out-end p n c k h = let e : n - c ≡ 0 = omega arith in rw e refl

around-below : (n j : ℕ) (o : Option Maker) → ((m : Maker) → o ≡ Some m → m.body < n) → around o ≡ Some j → j < n
around-below n j None h e = absurd (none-some j e)
around-below n j (Some m) h e = let f = cond_some (is_function m.purpose) m.body j e in rw (← f.1) (h m refl)

-- the body around is one of the program
pub outer-below : (p : Program) (k j : ℕ) → outer p k ≡ Some j → j < length p.bodies
outer-below p k j e = around-below (length p.bodies) j (maker_of p k)
    (λ m h. let x = maker_of-makes p k m h in slice_get_within p.bodies m.body x.body x.number) e

further-below : (n j : ℕ) (o : Option ℕ) (out : ℕ → Option ℕ) → ((i : ℕ) → out i ≡ Some j → j < n)
    → further o out ≡ Some j → j < n
further-below n j None out h e = absurd (none-some j e)
further-below n j (Some i) out h e = h i e

pub scope_out-below : (p : Program) (c k j : ℕ) → scope_out p c k ≡ Some j → j < length p.bodies
unfolding scope_out
scope_out-below p zero k j e = outer-below p k j e
scope_out-below p (suc c) k j e = further-below (length p.bodies) j (outer p k) (scope_out p c)
    (λ i h. scope_out-below p c i j h) e
