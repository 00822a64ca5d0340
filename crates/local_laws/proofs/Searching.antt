-- The scope in which a local is sought.
use Rattle.std.proofs.Common.{◌≡◌, ℕ, zero, suc, ◌+◌, List, [], ◌∷◌, length, arith, refl, sym, ap, ◌∙◌, subst, Bool, true, false, if◌then◌else◌}
use Rattle.std.specs.Prelude.{Option, Some, slice_get, unwrap_or}
use Rattle.ir_core.specs.CoreForm.{Local, named, hidden, pattern, rest}
use Rattle.scope_resolver.specs.Layout.{Slots, Scopes}
use Rattle.def_eval.specs.Configuration.{Scope, Memory}
use Rattle.def_eval.specs.Scopes.{scopes_around, first_with, scope_of, last_or}
use Rattle.code_laws.specs.Bound.{IsSeen, Lacks, IsFirst, IsBound}
use Rattle.local_laws.specs.Mirrors.{has_slot, AreMirrored}

has_first : (x : Local) (ss : Slots) (n : ℕ) → IsFirst x ss n → has_slot x ss ≡ true
has_first x [] n first = absurd first
has_first x (s ∷ ss) zero first = ap (λ (b : Bool). if b then true else has_slot x ss) first
has_first x (s ∷ ss) (suc n) first =
    ap (λ (b : Bool). if b then true else has_slot x ss) first.0 ∙ has_first x ss n first.1

has_none : (x : Local) (ss : Slots) → Lacks x ss → has_slot x ss ≡ false
has_none x [] l = refl
has_none x (s ∷ ss) l = ap (λ (b : Bool). if b then true else has_slot x ss) l.0 ∙ has_none x ss l.1

-- the first of mirrored scopes that has a local
sought : (cs : List Scope) (ns : List ℕ) (scopes : Scopes) (x : Local) (levels place : ℕ) → IsSeen x
    → AreMirrored cs ns scopes → IsBound scopes x levels place → first_with cs ns x ≡ slice_get ns levels
sought cs [] [] x zero place seen mirrored b = absurd (cc b.body)
sought cs [] [] x (suc levels) place seen mirrored b = absurd (cc b.body)
sought cs [] (ss ∷ scopes) x levels place seen mirrored b = absurd mirrored
sought cs (n ∷ ns) [] x levels place seen mirrored b = absurd mirrored
sought cs (n ∷ ns) (ss ∷ scopes) x zero place seen mirrored b =
    let here : ss ≡ b.slots = cc b.body in
    let first = subst (λ (ts : Slots). IsFirst x ts place) (sym here) b.first in
    ap (λ (t : Bool). if t then Some n else first_with cs ns x) (mirrored.0 x seen ∙ has_first x ss place first)
sought cs (n ∷ ns) (ss ∷ scopes) x (suc levels) place seen mirrored b =
    let lacks = b.inner 0 ss (omega arith) refl in
    ap (λ (t : Bool). if t then Some n else first_with cs ns x) (mirrored.0 x seen ∙ has_none x ss lacks)
    ∙ sought cs ns scopes x levels place seen mirrored.1 (record {
      slots = b.slots;
      body = b.body;
      first = b.first;
      inner = λ k ts few e. b.inner (suc k) ts (omega (arith, few)) e;
    })

scope_there : (cs : List Scope) (ns : List ℕ) (scopes : Scopes) (levels : ℕ) (ss : Slots) → AreMirrored cs ns scopes
    → slice_get scopes levels ≡ Some ss → (k : ℕ) × (slice_get ns levels ≡ Some k)
scope_there cs [] [] zero ss mirrored e = absurd (cc e)
scope_there cs [] [] (suc levels) ss mirrored e = absurd (cc e)
scope_there cs [] (ts ∷ scopes) levels ss mirrored e = absurd mirrored
scope_there cs (n ∷ ns) [] levels ss mirrored e = absurd mirrored
scope_there cs (n ∷ ns) (ts ∷ scopes) zero ss mirrored e = (n, refl)
scope_there cs (n ∷ ns) (ts ∷ scopes) (suc levels) ss mirrored e = scope_there cs ns scopes levels ss mirrored.1 e

scope_is : (m : Memory) (x : Local) → IsSeen x
    → scope_of m x ≡ unwrap_or (first_with m.scopes (scopes_around m.scopes m.place.scope) x) m.place.scope
scope_is m (named x) seen = refl
scope_is m (hidden d) seen = absurd seen
scope_is m (pattern k) seen = refl
scope_is m rest seen = refl

pub local_found : (m : Memory) (scopes : Scopes) (x : Local) (levels place : ℕ) → IsSeen x
    → AreMirrored m.scopes (scopes_around m.scopes m.place.scope) scopes → IsBound scopes x levels place
    → slice_get (scopes_around m.scopes m.place.scope) levels ≡ Some (scope_of m x)
local_found m scopes x levels place seen mirrored b =
    let ns = scopes_around m.scopes m.place.scope in
    let there = scope_there m.scopes ns scopes levels b.slots mirrored b.body in
    let found = sought m.scopes ns scopes x levels place seen mirrored b ∙ there.1 in
    let is : scope_of m x ≡ there.0 =
    scope_is m x seen ∙ ap (λ (o : Option ℕ). unwrap_or o m.place.scope) found in
    there.1 ∙ ap Some (sym is)

pub hidden_found : (m : Memory) (d : ℕ)
    → slice_get (scopes_around m.scopes m.place.scope) 0 ≡ Some (scope_of m (hidden d))
unfolding scopes_around
hidden_found m d = refl

as_many : (cs : List Scope) (ns : List ℕ) (scopes : Scopes) → AreMirrored cs ns scopes → length ns ≡ length scopes
as_many cs [] [] mirrored = refl
as_many cs [] (ss ∷ scopes) mirrored = absurd mirrored
as_many cs (n ∷ ns) [] mirrored = absurd mirrored
as_many cs (n ∷ ns) (ss ∷ scopes) mirrored = omega (arith, as_many cs ns scopes mirrored.1)

last_is : (n : ℕ) (ns : List ℕ) (levels : ℕ) → length ns ≡ levels + 1 → slice_get ns levels ≡ Some (last_or n ns)
last_is n [] levels e = absurd (omega (arith, e))
last_is n (k ∷ []) zero e = refl
last_is n (k ∷ []) (suc levels) e = absurd (omega (arith, e))
last_is n (k ∷ (l ∷ ns)) zero e = absurd (omega (arith, e))
last_is n (k ∷ (l ∷ ns)) (suc levels) e = last_is k (l ∷ ns) levels (omega (arith, e))

pub owned_found : (m : Memory) (scopes : Scopes) (levels : ℕ)
    → AreMirrored m.scopes (scopes_around m.scopes m.place.scope) scopes → length scopes ≡ levels + 1
    → slice_get (scopes_around m.scopes m.place.scope) levels
    ≡ Some (last_or m.place.scope (scopes_around m.scopes m.place.scope))
owned_found m scopes levels mirrored long =
    let ns = scopes_around m.scopes m.place.scope in
    last_is m.place.scope ns levels (as_many m.scopes ns scopes mirrored ∙ long)
