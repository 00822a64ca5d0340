-- Where locals are found.
use Rattle.std.proofs.Common.{◌≡◌, ◌<◌, ◌≤◌, ℕ, suc, ◌+◌, ◌-◌, [], ◌∷◌, length, arith, refl, ap, subst, Bool, true, false, if◌then◌else◌}
use Rattle.std.specs.Prelude.{Option, Some, None, slice_get}
use Rattle.ir_core.specs.CoreForm.{Local, named, hidden, pattern, rest}
use Rattle.scope_resolver.specs.declared.place.Place.{Place}
use Rattle.scope_resolver.specs.declared.seek.Search.{Search}
use Rattle.scope_resolver.specs.declared.seek.Search.TheVariants.{Found, Past}
use Rattle.scope_resolver.specs.Layout.{Slots, Scopes, is_at, seek, place_at, place_from, place_in, place_or_self, innermost_count, place_of, own_place}
use Rattle.code_laws.specs.Bound.{IsSeen}

-- the place is one of the locals of a body that is seen, or self
pub record Reached (scopes : Scopes) (p : Place) : Type 0 where
  pub here : p.levels ≡ 0 → p.register ≤ innermost_count scopes
  pub out : (between : ℕ) → p.levels ≡ between + 1
      → (ss : Slots) × (slice_get scopes (between + 1) ≡ Some ss) × (0 < p.register) × (p.register ≤ length ss)

-- what a search from a place on finds
abbrev Bounded : ℕ → ℕ → Search → Type 0
Bounded low high (Found n) = (low ≤ n) × (n < high)
Bounded low high (Past n) = n ≡ high

found_stays : (x : Local) (ss : Slots) (n low high : ℕ) → low ≤ n → n < high → Bounded low high (seek x ss (Found n))
found_stays x [] n low high h k = (h, k)
found_stays x (s ∷ ss) n low high h k = found_stays x ss n low high h k

sought : (x : Local) (ss : Slots) (low n high : ℕ) → low ≤ n → high ≡ n + length ss
    → Bounded low high (seek x ss (Past n))
sought x [] low n high h e = omega (arith, e)
sought x (s ∷ ss) low n high h e = at (is_at x s) (sought x ss low (n + 1) high (omega (arith, h)) (omega (arith, e)))
    (found_stays x ss n low high h (omega (arith, e)))
  where
    at : (b : Bool) → Bounded low high (seek x ss (Past (n + 1))) → Bounded low high (seek x ss (Found n))
        → Bounded low high (seek x ss (if b then Found n else Past (n + 1)))
    at true f g = g
    at false f g = f

-- a place so many levels out, in those scopes
abbrev Lies : Scopes → ℕ → Option Place → Type 0
Lies scopes levels None = Unit
Lies scopes levels (Some p) = (n : ℕ) × (ss : Slots) × (p.levels ≡ levels + n) × (slice_get scopes n ≡ Some ss)
    × (0 < p.register) × (p.register ≤ length ss)

lies_further : (ss : Slots) (scopes : Scopes) (levels : ℕ) (p : Option Place) → Lies scopes (levels + 1) p
    → Lies (ss ∷ scopes) levels p
lies_further ss scopes levels None h = tt
lies_further ss scopes levels (Some p) h = (suc h.0, h.1, omega (arith, h.2), h.3, h.4, h.5)

placed : (ss : Slots) (scopes : Scopes) (levels : ℕ) (q : Search) (further : Option Place)
    → Bounded 1 (1 + length ss) q → Lies (ss ∷ scopes) levels further
    → Lies (ss ∷ scopes) levels (place_at q levels further)
placed ss scopes levels (Found n) further b h = (0, ss, omega arith, refl, omega (arith, b.0), omega (arith, b.1))
placed ss scopes levels (Past n) further b h = h

from_lies : (x : Local) (scopes : Scopes) (levels : ℕ) → Lies scopes levels (place_from x scopes levels)
from_lies x [] levels = tt
from_lies x (ss ∷ scopes) levels =
    placed ss scopes levels (seek x ss (Past 1)) (place_from x scopes (levels + 1))
    (sought x ss 1 1 (1 + length ss) (omega arith) (omega arith))
    (lies_further ss scopes levels (place_from x scopes (levels + 1)) (from_lies x scopes (levels + 1)))

innermost : (scopes : Scopes) (ss : Slots) → slice_get scopes 0 ≡ Some ss → innermost_count scopes ≡ length ss
innermost [] ss e = absurd (cc)
innermost (qs ∷ scopes) ss e = ap (λ (o : Option Slots). innermost_by o) e
  where
    innermost_by : Option Slots → ℕ
    innermost_by None = 0
    innermost_by (Some s) = length s

self_reached : (scopes : Scopes) → Reached scopes (record { levels = 0; register = 0 })
self_reached scopes = record { here = λ e. omega arith; out = λ n e. absurd (omega (arith, e)) }

lies_reached : (scopes : Scopes) (p : Place) → Lies scopes 0 (Some p) → Reached scopes p
lies_reached scopes p (n, ss, level, is, some, within) = record {
  here = λ e.
      let zero_level : n ≡ 0 = omega (arith, e, level) in
      let first : slice_get scopes 0 ≡ Some ss = subst (λ (k : ℕ). slice_get scopes k ≡ Some ss) zero_level is in
      omega (arith, innermost scopes ss first, within);
  out = λ k e.
      let same : n ≡ k + 1 = omega (arith, e, level) in
      (ss, subst (λ (j : ℕ). slice_get scopes j ≡ Some ss) same is, some, within);
}

or_self_reached : (scopes : Scopes) (p : Option Place) → Lies scopes 0 p → Reached scopes (place_or_self p)
or_self_reached scopes None h = self_reached scopes
or_self_reached scopes (Some p) h = lies_reached scopes p h

pub place_reached : (scopes : Scopes) (x : Local) → IsSeen x → Reached scopes (place_of scopes x)
place_reached scopes (named x) h =
    or_self_reached scopes (place_from (named x) scopes 0) (from_lies (named x) scopes 0)
place_reached scopes (hidden d) h = absurd h
place_reached scopes (pattern k) h =
    or_self_reached scopes (place_from (pattern k) scopes 0) (from_lies (pattern k) scopes 0)
place_reached scopes rest h = or_self_reached scopes (place_from rest scopes 0) (from_lies rest scopes 0)

own_lies : (x : Local) (scopes : Scopes) (n : ℕ) (o : Option Slots) → slice_get scopes n ≡ o
    → Lies scopes 0 (place_in x n o)
own_lies x scopes n None e = tt
own_lies x scopes n (Some ss) e = at (seek x ss (Past 1)) (sought x ss 1 1 (1 + length ss) (omega arith) (omega arith))
  where
    at : (q : Search) → Bounded 1 (1 + length ss) q → Lies scopes 0 (place_at q n None)
    at (Found r) b = (n, ss, omega arith, e, omega (arith, b.0), omega (arith, b.1))
    at (Past r) b = tt

pub own_reached : (scopes : Scopes) (x : Local) → Reached scopes (own_place scopes x)
own_reached scopes x =
    or_self_reached scopes (place_in x (length scopes - 1) (slice_get scopes (length scopes - 1)))
    (own_lies x scopes (length scopes - 1) (slice_get scopes (length scopes - 1)) refl)
