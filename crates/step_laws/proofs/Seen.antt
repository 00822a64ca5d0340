-- A local that isn't hidden is sought in the slots of the bodies and in the scopes; two locals are one or differ.
use Rattle.std.proofs.Common.{◌≡◌, ◌≢◌, ℕ, suc, refl, sym, ap, ◌∙◌, true, false, true≢false}
use Rattle.std.specs.Prelude.{unwrap_or}
use Rattle.std.proofs.lemmas.Bool.{eq-eqb, eqb-true}
use Rattle.std.proofs.lemmas.Slice.Eq.{bytes_eq-Decides}
use Rattle.ir_core.specs.CoreForm.{Local, named, hidden, pattern, rest}
use Rattle.scope_resolver.specs.Layout.{Scopes, place_from, place_or_self, place_of}
use Rattle.code_laws.specs.Bound.{IsSeen}
use Rattle.def_eval.specs.Configuration.{Memory}
use Rattle.def_eval.specs.Scopes.{same_local, scopes_around, first_with, scope_of}

-- a local is seen, or a hidden one
pub data Sort (x : Local) : Type 0 where
  seen : IsSeen x → Sort x
  unseen : (d : ℕ) → x ≡ hidden d → Sort x

pub sort : (x : Local) → Sort x
sort (named x) = seen tt
sort (hidden d) = unseen d refl
sort (pattern k) = seen tt
sort rest = seen tt

pub seen_place : (scopes : Scopes) (x : Local) → IsSeen x → place_of scopes x ≡ place_or_self (place_from x scopes 0)
seen_place scopes (named x) is = refl
seen_place scopes (hidden d) is = absurd is
seen_place scopes (pattern k) is = refl
seen_place scopes rest is = refl

pub seen_scope : (m : Memory) (x : Local) → IsSeen x
    → scope_of m x ≡ unwrap_or (first_with m.scopes (scopes_around m.scopes m.place.scope) x) m.place.scope
seen_scope m (named x) is = refl
seen_scope m (hidden d) is = absurd is
seen_scope m (pattern k) is = refl
seen_scope m rest is = refl

-- one of a body around is seen
pub outer_seen : (scopes : Scopes) (x : Local) (d : ℕ) → (place_of scopes x).levels ≡ suc d → IsSeen x
outer_seen scopes (named x) d e = tt
outer_seen scopes (hidden i) d e = absurd (cc e)
outer_seen scopes (pattern k) d e = tt
outer_seen scopes rest d e = tt

pub same : (x : Local) → same_local x x ≡ true
same (named x) = (bytes_eq-Decides x x).1 refl
same (hidden d) = eq-eqb d d refl
same (pattern k) = eq-eqb k k refl
same rest = refl

-- the local that is the same
pub is_same : (x y : Local) → same_local x y ≡ true → y ≡ x
is_same (named x) (named z) e = ap named (sym ((bytes_eq-Decides x z).0 e))
is_same (named x) (hidden d) e = absurd (true≢false (sym e))
is_same (named x) (pattern k) e = absurd (true≢false (sym e))
is_same (named x) rest e = absurd (true≢false (sym e))
is_same (hidden c) (named z) e = absurd (true≢false (sym e))
is_same (hidden c) (hidden d) e = ap hidden (sym (eqb-true c d e))
is_same (hidden c) (pattern k) e = absurd (true≢false (sym e))
is_same (hidden c) rest e = absurd (true≢false (sym e))
is_same (pattern i) (named z) e = absurd (true≢false (sym e))
is_same (pattern i) (hidden d) e = absurd (true≢false (sym e))
is_same (pattern i) (pattern k) e = ap pattern (sym (eqb-true i k e))
is_same (pattern i) rest e = absurd (true≢false (sym e))
is_same rest (named z) e = absurd (true≢false (sym e))
is_same rest (hidden d) e = absurd (true≢false (sym e))
is_same rest (pattern k) e = absurd (true≢false (sym e))
is_same rest rest e = refl

-- and where they aren't the same
pub differ : (x y : Local) → same_local x y ≡ false → x ≢ y
differ x y ne e = absurd (true≢false (sym (same x) ∙ ap (same_local x) e ∙ ne))
