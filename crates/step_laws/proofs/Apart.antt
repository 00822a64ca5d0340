-- Two locals of a body have two registers.
use Rattle.std.proofs.Common.{◌≡◌, ◌≢◌, ℕ, zero, suc, ◌+◌, ◌-◌, ◌<◌, ◌≤◌, [], ◌∷◌, length, refl, sym, ap, ◌∙◌, subst, arith, get_or, Bool, true, false, true≢false}
use Rattle.std.specs.Prelude.{if◌then◌else◌, Option, Some, None, unwrap_or}
use Rattle.ir_core.specs.CoreForm.{Local, hidden}
use Rattle.scope_resolver.specs.declared.place.Place.{Place}
use Rattle.scope_resolver.specs.declared.seek.Search.{Search}
use Rattle.scope_resolver.specs.declared.seek.Search.TheVariants.{Found, Past}
use Rattle.scope_resolver.specs.Layout.{Slots, Scopes, is_at, seek, place_at, place_from, place_or_self, innermost_count, place_of}
use Rattle.code_laws.specs.Bound.{IsSeen}
use Rattle.def_eval.specs.Scopes.{same_local}
use Rattle.step_laws.specs.Site.{Site, register, Known}
use Rattle.step_laws.specs.Around.{is_found, first_slots}
use Rattle.step_laws.proofs.Parameters.{same_is}
use Rattle.step_laws.proofs.Seen.{Sort, seen, unseen, sort, seen_place, is_same, differ}

-- what is found stays
pub stays_found : (x : Local) (ss : Slots) (n : ℕ) → seek x ss (Found n) ≡ Found n
stays_found x [] n = refl
stays_found x (s ∷ ss) n = stays_found x ss n

abbrev found_or : ℕ → Search → ℕ
found_or other (Found n) = n
found_or other (Past n) = other

-- the slot of a local
slot_is : (x : Local) (s : Option Local) → is_at x s ≡ true → s ≡ Some x
slot_is x None e = absurd (true≢false (sym e))
slot_is x (Some y) e = ap Some (is_same x y (sym (same_is x y) ∙ e))

-- a local that is found at a register stands in its slot
abbrev Stands : Local → Slots → ℕ → ℕ → Type 0
Stands x ss n i = (n ≤ i) × (get_or ss (i - n) None ≡ Some x)

found_there : (x : Local) (ss : Slots) (n i : ℕ) → seek x ss (Past n) ≡ Found i → Stands x ss n i
found_there x [] n i e = absurd (true≢false (sym (ap is_found e)))
found_there x (s ∷ ss) n i e = at (λ f. found_there x ss (n + 1) i f) (is_at x s) refl e
  where
    at : (seek x ss (Past (n + 1)) ≡ Found i → Stands x ss (n + 1) i) → (b : Bool)
        → is_at x s ≡ b → seek x ss (if b then Found n else Past (n + 1)) ≡ Found i
        → Stands x (s ∷ ss) n i
    at further true is e =
        let same : n ≡ i = ap (found_or 0) (sym (stays_found x ss n) ∙ e) in
        let first : zero ≡ i - n = omega (arith, same) in (
          omega (arith, same),
          subst (λ (k : ℕ). get_or (s ∷ ss) k None ≡ Some x) first (slot_is x s is),
        )
    at further false is e =
        let f = further e in
        let next : suc (i - (n + 1)) ≡ i - n = omega (arith, f.0) in
        (omega (arith, f.0), subst (λ (k : ℕ). get_or (s ∷ ss) k None ≡ Some x) next f.1)

-- where a local of a body is
register_found : (x : Local) (ss : Slots) (r : ℕ) (s : Search) → seek x ss (Past 1) ≡ s
    → (place_or_self (place_at s 0 None)).register ≡ r → 1 ≤ r → Stands x ss 1 r
register_found x ss r (Found n) e is low = found_there x ss 1 r (e ∙ ap Found is)
register_found x ss r (Past n) e is low = absurd (omega (arith, is, low))

abbrev register_in : Scopes → Local → ℕ
register_in scopes x = (place_of scopes x).register

-- what is known of it, from there
placed : (scopes : Scopes) (x : Local) → IsSeen x
    → register_in scopes x ≡ (place_or_self (place_from x scopes 0)).register
placed scopes x is = ap (λ (p : Place). p.register) (seen_place scopes x is)

levels_of : (scopes : Scopes) (x : Local) (n : ℕ) → IsSeen x → (place_of scopes x).levels ≡ n
    → (place_or_self (place_from x scopes 0)).levels ≡ n
levels_of scopes x n is e = sym (ap (λ (p : Place). p.levels) (seen_place scopes x is)) ∙ e

stands_in : (x : Local) (ss : Slots) → IsSeen x → 1 ≤ register_in (ss ∷ []) x → Stands x ss 1 (register_in (ss ∷ []) x)
stands_in x ss is low =
    register_found x ss (register_in (ss ∷ []) x) (seek x ss (Past 1)) refl (sym (placed (ss ∷ []) x is)) low

apart_in : (ss : Slots) (x y : Local) → IsSeen x → IsSeen y → 1 ≤ register_in (ss ∷ []) x → 1 ≤ register_in (ss ∷ []) y
    → same_local x y ≡ false → register_in (ss ∷ []) x ≢ register_in (ss ∷ []) y
apart_in ss x y is is_too low high ne e =
    let a = (stands_in x ss is low).1 in
    let b = (stands_in y ss is_too high).1 in
    let one : x ≡ y = ap (λ (o : Option Local). unwrap_or o x)
    (sym a ∙ ap (λ (r : ℕ). get_or ss (r - 1) None) e ∙ b) in
    absurd (differ x y ne one)

-- it stands before the hidden locals
within : (ss : Slots) (i : ℕ) (x : Local) → get_or ss i None ≡ Some x → i < length ss
within [] i x e = absurd (cc e)
within (s ∷ ss) zero x e = omega arith
within (s ∷ ss) (suc i) x e = let h = within ss i x e in omega (arith, h)

below_hidden : (x : Local) (ss : Slots) → IsSeen x → 1 ≤ register_in (ss ∷ []) x → register_in (ss ∷ []) x ≤ length ss
below_hidden x ss is low =
    let a = stands_in x ss is low in
    let h = within ss (register_in (ss ∷ []) x - 1) x a.1 in
    omega (arith, h, low)

-- what isn't found in the first body is in none, or further out
pub further_out : (x : Local) (scopes : Scopes) (n : ℕ) → 1 ≤ n → (place_or_self (place_from x scopes n)).levels ≡ 0
    → (place_or_self (place_from x scopes n)).register ≡ 0
further_out x [] n le e = refl
further_out x (ss ∷ scopes) n le e =
    by (further_out x scopes (n + 1) (omega (arith, le))) (seek x ss (Past 1)) e
  where
    by : ((place_or_self (place_from x scopes (n + 1))).levels ≡ 0
        → (place_or_self (place_from x scopes (n + 1))).register ≡ 0) → (r : Search)
        → (place_or_self (place_at r n (place_from x scopes (n + 1)))).levels ≡ 0
        → (place_or_self (place_at r n (place_from x scopes (n + 1)))).register ≡ 0
    by out (Found i) e = absurd (omega (arith, le, e))
    by out (Past i) e = out e

-- so a local of the body is where it is in the first slots
first_in : (ss : Slots) (around : Scopes) (x : Local) → (place_or_self (place_from x (ss ∷ around) 0)).levels ≡ 0
    → 1 ≤ (place_or_self (place_from x (ss ∷ around) 0)).register
    → (place_or_self (place_from x (ss ∷ around) 0)).register ≡ (place_or_self (place_from x (ss ∷ []) 0)).register
first_in ss around x level low = by (seek x ss (Past 1)) level low
  where
    by : (q : Search) → (place_or_self (place_at q 0 (place_from x around 1))).levels ≡ 0
        → 1 ≤ (place_or_self (place_at q 0 (place_from x around 1))).register
        → (place_or_self (place_at q 0 (place_from x around 1))).register
        ≡ (place_or_self (place_at q 0 None)).register
    by (Found i) level low = refl
    by (Past i) level low = absurd (omega (arith, low, further_out x around 1 (omega arith) level))

first_register : (ss : Slots) (around : Scopes) (x : Local) → IsSeen x → (place_of (ss ∷ around) x).levels ≡ 0
    → 1 ≤ register_in (ss ∷ around) x → register_in (ss ∷ around) x ≡ register_in (ss ∷ []) x
first_register ss around x is level low =
    let there = placed (ss ∷ around) x is in
    there ∙ first_in ss around x (levels_of (ss ∷ around) x 0 is level) (omega (arith, there, low))
    ∙ sym (placed (ss ∷ []) x is)

-- and there it is
pub own_place : (scopes : Scopes) (x : Local) → IsSeen x → (place_of scopes x).levels ≡ 0 → 1 ≤ register_in scopes x
    → is_found (seek x (first_slots scopes) (Past 1)) ≡ true
own_place [] x is level low = absurd (omega (arith, low, placed [] x is))
own_place (ss ∷ around) x is level low =
    by (seek x ss (Past 1)) (levels_of (ss ∷ around) x 0 is level) (omega (arith, placed (ss ∷ around) x is, low))
  where
    by : (q : Search) → (place_or_self (place_at q 0 (place_from x around 1))).levels ≡ 0
        → 1 ≤ (place_or_self (place_at q 0 (place_from x around 1))).register → is_found q ≡ true
    by (Found i) level low = refl
    by (Past i) level low = absurd (omega (arith, low, further_out x around 1 (omega arith) level))

pub own_low : (scopes : Scopes) (x : Local) → IsSeen x → (place_of scopes x).levels ≡ 0 → 1 ≤ register_in scopes x
    → register_in scopes x ≤ length (first_slots scopes)
own_low [] x is level low = absurd (omega (arith, low, placed [] x is))
own_low (ss ∷ around) x is level low =
    let own = first_register ss around x is level low in
    let below = below_hidden x ss is (omega (arith, own, low)) in
    omega (arith, own, below)

module _ (h : Site) (ss : Slots) (around : Scopes) (scopes : h.context.scopes ≡ ss ∷ around) where
  own_register : (x : Local) → IsSeen x → Known h x → register h x ≡ register_in (ss ∷ []) x
  own_register x is k =
      let there = ap (λ (c : Scopes). register_in c x) scopes in
      let level = sym (ap (λ (c : Scopes). (place_of c x).levels) scopes) ∙ k.level in
      there ∙ first_register ss around x is level (omega (arith, there, k.behind_self))

  seen_low : (x : Local) → IsSeen x → Known h x → register h x ≤ length ss
  seen_low x is k =
      let own = own_register x is k in
      let low = below_hidden x ss is (omega (arith, own, k.behind_self)) in
      omega (arith, own, low)

  hidden_is : (x : Local) (d : ℕ) → x ≡ hidden d → register h x ≡ 1 + length ss + d
  hidden_is x d e =
      ap (λ (z : Local). register h z) e ∙ ap (λ (c : Scopes). 1 + innermost_count c + d) scopes

  pub apart : (x y : Local) → Known h x → Known h y → same_local x y ≡ false → register h x ≢ register h y
  apart x y j k ne f = by (sort x) (sort y)
    where
      by : Sort x → Sort y → ⊥
      by (seen is) (seen is_too) =
          let first = own_register x is j in
          let second = own_register y is_too k in
          apart_in ss x y is is_too (omega (arith, first, j.behind_self)) (omega (arith, second, k.behind_self)) ne
          (sym first ∙ f ∙ second)
      by (seen is) (unseen d e) =
          let low = seen_low x is j in let at = hidden_is y d e in absurd (omega (arith, low, at, f))
      by (unseen d e) (seen is) =
          let low = seen_low y is k in let at = hidden_is x d e in absurd (omega (arith, low, at, f))
      by (unseen c e) (unseen d q) =
          let first = hidden_is x c e in
          let second = hidden_is y d q in
          let one : c ≡ d = omega (arith, first, second, f) in
          absurd (differ x y ne (e ∙ ap hidden one ∙ sym q))
