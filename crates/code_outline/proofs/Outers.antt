-- The body one level out of each, by their makers.
use Rattle.std.proofs.Common.{◌≡◌, refl, sym, ap, ◌∙◌, ℕ, zero, suc, ◌+◌, ◌<◌, ◌^◌, List, [], ◌∷◌, ◌++◌, length, map, take, get_or, true, false, arith}
use Rattle.std.specs.Prelude.{Option, None, Some, IfSome, if◌then◌else◌}
use Rattle.std.proofs.lemmas.List.{get_or-map, length-map, map-append, take_more}
use Rattle.std.proofs.lemmas.List.Elements.{All-get_or}
use Rattle.std.proofs.lemmas.Option.{get_or_from_slice_get, slice_get_within}
use Rattle.rite_code.specs.Code.{Program, IsWhole}
use Rattle.scope_leaps.specs.Leaps.{outer_in, levels_out, scope_in, ComeBefore}
use Rattle.scope_leaps.specs.Leaps as leaps
use Rattle.scope_leaps.proofs.Levels.{one_level}
use Rattle.code_outline.specs.declared.maker.Maker.{Maker}
use Rattle.code_outline.specs.Laws.{IsWithin}
use Rattle.code_outline.specs.Makers.{maker_of, around, outer, further, scope_out, is_function}
use Rattle.code_outline.specs.Outlined.{AreMakers}
use Rattle.code_outline.proofs.Kept.{nests}
use Rattle.code_outline.proofs.Scopes.{outer-below}

-- a body is made by one before it
made_before : (p : Program) (k : ℕ) (m : Maker) → IsWhole p → maker_of p k ≡ Some m → m.body < k
made_before p k m whole e =
    let made = (nests p).makers k m e in
    let within = All-get_or (IsWithin (m.body + 1) (length p.bodies)) made.body.children made.index k
    (slice_get_within made.body.children made.index k made.child)
    ((nests p).children whole m.body made.body made.number) in
    let same = get_or_from_slice_get made.body.children made.index k k made.child in
    omega (arith, within.0, same)

around_before : (k : ℕ) (found : Option Maker) → ((m : Maker) → found ≡ Some m → m.body < k)
    → IfSome (around found) (λ j. j < k)
around_before k None h = tt
around_before k (Some m) h =
    elim (is_function m.purpose) as (λ b. IfSome (if b then Some m.body else None) (λ j. j < k)) [
      | true ↦ h m refl
      | false ↦ tt
    ]

-- what is around each, by its maker
pub outer_around : (p : Program) (ms : List (Option Maker)) (j : ℕ) → length ms ≡ length p.bodies
    → ((i : ℕ) → i < length p.bodies → get_or ms i None ≡ maker_of p i) → j < length p.bodies
    → outer_in (map around ms) j ≡ outer p j
outer_around p ms j count made lt =
    get_or-map around ms j None None (omega (arith, count, lt)) ∙ ap around (made j lt)

pub come_before : (p : Program) (ms : List (Option Maker)) → AreMakers p ms → ComeBefore (map around ms)
come_before p ms h = λ k lt.
    let there : k < length p.bodies = omega (arith, lt, length-map ms around, h.count) in
    rw (outer_around p ms k h.count h.makers there)
    (around_before k (maker_of p k) (λ m e. made_before p k m h.whole e))

pub few : (p : Program) (ms : List (Option Maker)) → AreMakers p ms → length ms < 2 ^ 32
few p ms h = omega (arith, h.count, h.whole.count)

-- one more
pub outers_more : (ms : List (Option Maker)) (i : ℕ) (outers : List (Option ℕ)) → i < length ms
    → outers ≡ map around (take i ms) → outers ++ around (get_or ms i None) ∷ [] ≡ map around (take (i + 1) ms)
outers_more ms i outers lt e =
    ap (λ (xs : List (Option ℕ)). xs ++ around (get_or ms i None) ∷ []) e
    ∙ sym (map-append around (take i ms) (get_or ms i None ∷ [])) ∙ sym (ap (map around) (take_more ms i None lt))

-- level by level both lead to the same body
same_out : (n : ℕ) (found : Option ℕ) (f g : ℕ → Option ℕ) → ((j : ℕ) → found ≡ Some j → j < n)
    → ((j : ℕ) → j < n → f j ≡ g j) → leaps.further found f ≡ further found g
same_out n None f g low same = refl
same_out n (Some j) f g low same = same j (low j refl)

pub levels_scope : (p : Program) (outers : List (Option ℕ)) (c k : ℕ)
    → ((j : ℕ) → j < length p.bodies → outer_in outers j ≡ outer p j) → k < length p.bodies
    → levels_out outers (c + 1) k ≡ scope_out p c k
unfolding levels_out scope_out
levels_scope p outers zero k known lt = one_level outers k ∙ known k lt
levels_scope p outers (suc c) k known lt =
    let e : suc c + 1 ≡ suc (c + 1) = omega arith in
    rw e (ap (λ (o : Option ℕ). leaps.further o (levels_out outers (c + 1))) (known k lt)
    ∙ same_out (length p.bodies) (outer p k) (levels_out outers (c + 1)) (scope_out p c)
    (λ j found. outer-below p k j found) (λ j there. levels_scope p outers c j known there))
