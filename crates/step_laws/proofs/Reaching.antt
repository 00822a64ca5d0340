-- The body in whose registers a local of a body around stands: its site, its scope and its list, so many levels out.
use Rattle.std.proofs.Common.{◌≡◌, ℕ, zero, suc, ◌+◌, ◌<◌, ◌≤◌, List, [], ◌∷◌, refl, sym, ap, ◌∙◌, subst, arith, get_or, Bool, false}
use Rattle.std.specs.Prelude.{if◌then◌else◌, Option, Some, None, unwrap_or}
use Rattle.rb_value.specs.declared.value.Value.TheVariants.{Nil}
use Rattle.rite_code.specs.Code.{Program}
use Rattle.ir_core.specs.CoreForm.{Local}
use Rattle.scope_resolver.specs.declared.place.Place.{Place}
use Rattle.scope_resolver.specs.declared.seek.Search.{Search}
use Rattle.scope_resolver.specs.declared.seek.Search.TheVariants.{Found, Past}
use Rattle.scope_resolver.specs.Layout.{Scopes, seek, place_at, place_from, place_or_self, place_of}
use Rattle.code_laws.specs.Bound.{IsSeen}
use Rattle.def_core.specs.Sound.{OptionIs}
use Rattle.def_calls.specs.World.{World}
use Rattle.def_eval.specs.Source.{Source}
use Rattle.def_eval.specs.Configuration.{Scope, Memory}
use Rattle.def_eval.specs.Configuration as source
use Rattle.def_eval.specs.Scopes.{value_in, scope_at, outward, scopes_around, first_with, scope_of, variable}
use Rattle.def_machine.specs.State.{Registers, list_at, value_at, list_out}
use Rattle.scope_laws.specs.Numbers.{parents, outers}
use Rattle.step_laws.specs.Site.{Site, place_in, register, Known}
use Rattle.step_laws.specs.Around.{is_found, first_slots, further_slots}
use Rattle.step_laws.specs.Relation.{IsSite, Linked, SitesAre}
use Rattle.step_laws.proofs.Apart.{own_place, own_low}
use Rattle.step_laws.proofs.Seen.{seen_place, seen_scope}

-- A local that is sought one level further in is found one level further out.

data Shifted : Option Place → Option Place → Type 0 where
  nowhere : Shifted None None
  somewhere : {n i : ℕ} → Shifted (Some (record { levels = n; register = i }))
      (Some (record { levels = suc n; register = i }))

shifted : (x : Local) (scopes : Scopes) (n : ℕ) → Shifted (place_from x scopes n) (place_from x scopes (suc n))
shifted x [] n = nowhere
shifted x (ss ∷ scopes) n = by (shifted x scopes (n + 1)) (seek x ss (Past 1))
  where
    by : Shifted (place_from x scopes (n + 1)) (place_from x scopes (suc (n + 1))) → (q : Search)
        → Shifted (place_at q n (place_from x scopes (n + 1)))
        (place_at q (suc n) (place_from x scopes (suc n + 1)))
    by others (Found i) = somewhere
    by others (Past i) =
        subst (λ (k : ℕ). Shifted (place_from x scopes (n + 1)) (place_from x scopes k)) (omega arith) others

-- where it is found further out, seen from there
pub record Further (x : Local) (around : Scopes) (levels register : ℕ) : Type 0 where
  pub levels_are : (place_of around x).levels ≡ levels
  pub register_is : (place_of around x).register ≡ register

further : (x : Local) → IsSeen x → (around : Scopes) (d r : ℕ) → (place_or_self (place_from x around 1)).levels ≡ suc d
    → (place_or_self (place_from x around 1)).register ≡ r → 1 ≤ r → Further x around d r
further x is around d r levels at low =
    by (place_from x around 0) (place_from x around 1) (shifted x around 0) refl levels at
  where
    by : (p q : Option Place) → Shifted p q → place_from x around 0 ≡ p → (place_or_self q).levels ≡ suc d
        → (place_or_self q).register ≡ r → Further x around d r
    by None None nowhere e l s = absurd (omega (arith, s, low))
    by None (Some q) z e l s = elim z [ ]
    by (Some p) None z e l s = elim z [ ]
    by (Some p) (Some q) (somewhere {n} {i}) e l s = record {
      levels_are = ap (λ (z : Place). z.levels) (seen_place around x is)
          ∙ ap (λ (z : Option Place). (place_or_self z).levels) e ∙ omega (arith, l);
      register_is = ap (λ (z : Place). z.register) (seen_place around x is)
          ∙ ap (λ (z : Option Place). (place_or_self z).register) e ∙ s;
    }

-- what isn't found in the first slots is so further out
pub record Outside (scopes : Scopes) (x : Local) (levels register : ℕ) : Type 0 where
  pub missing : is_found (seek x (first_slots scopes) (Past 1)) ≡ false
  pub levels_are : (place_or_self (place_from x (further_slots scopes) 1)).levels ≡ levels
  pub register_is : (place_or_self (place_from x (further_slots scopes) 1)).register ≡ register

outside : (scopes : Scopes) (x : Local) → IsSeen x → (d r : ℕ) → (place_of scopes x).levels ≡ suc d
    → (place_of scopes x).register ≡ r → 1 ≤ r → Outside scopes x (suc d) r
outside [] x is d r level at low =
    absurd (cc (sym (ap (λ (z : Place). z.levels) (seen_place [] x is)) ∙ level))
outside (ss ∷ around) x is d r level at low =
    let place = sym (seen_place (ss ∷ around) x is) in
    by (seek x ss (Past 1)) refl (ap (λ (z : Place). z.levels) place ∙ level)
    (ap (λ (z : Place). z.register) place ∙ at)
  where
    by : (q : Search) → seek x ss (Past 1) ≡ q → (place_or_self (place_at q 0 (place_from x around 1))).levels ≡ suc d
        → (place_or_self (place_at q 0 (place_from x around 1))).register ≡ r → Outside (ss ∷ around) x (suc d) r
    by (Found i) e level at = absurd (cc level)
    by (Past i) e level at = record { missing = ap is_found e; levels_are = level; register_is = at }

none_further : (x : Local) (around : Scopes) (d : ℕ) → around ≡ []
    → (place_or_self (place_from x around 1)).levels ≡ suc d → ⊥
none_further x around d none level =
    absurd (cc (sym (ap (λ (z : Scopes). (place_or_self (place_from x z 1)).levels) none) ∙ level))

-- what is around a scope, and around a list
parent_at : (cs : List Scope) (n : ℕ) → get_or (parents cs) n None ≡ (scope_at cs n).parent
parent_at [] n = refl
parent_at (c ∷ cs) zero = refl
parent_at (c ∷ cs) (suc n) = parent_at cs n

outer_at : (l : List Registers) (n : ℕ) → get_or (outers l) n None ≡ (list_at l n).outer
outer_at [] n = refl
outer_at (r ∷ l) zero = refl
outer_at (r ∷ l) (suc n) = outer_at l n

module _ (s : Source) (p : Program) (hs : List Site) (cs : List Scope) (l : List Registers) (w : World)
    (sites : SitesAre s p hs cs l w) (x : Local) (seen : IsSeen x) where
  -- the site that has the local, d levels out from that of a list
  pub record Reach (h : Site) (d n : ℕ) : Type 0 where
    pub g : Site
    pub site : IsSite hs g
    pub known : Known g x
    pub same : register g x ≡ register h x
    pub list : list_out d l h.list ≡ g.list
    pub found : first_with cs (outward n cs (Some h.list)) x ≡ Some g.list

  abbrev levels_in : Site → ℕ
  levels_in h = (place_of h.context.scopes x).levels

  -- it is one of the body itself
  here : (h : Site) → IsSite hs h → levels_in h ≡ 0 → 1 ≤ register h x → (n : ℕ) → h.list < n → Reach h 0 n
  here h is level low zero lt = absurd (omega (arith, lt))
  here h is level low (suc n) lt =
      let i = sites.each h is in
      let mine = own_place h.context.scopes x seen level low in
      let there = i.same.mirrors x seen ∙ mine in
      record {
        g = h;
        site = is;
        known = record {
          level = level;
          behind_self = low;
          low = omega (arith, own_low h.context.scopes x seen level low, i.static.low);
        };
        same = refl;
        list = refl;
        found = ap (λ (b : Bool). if b then Some h.list
            else first_with cs (outward n cs (scope_at cs h.list).parent) x) there;
      }

  -- It is one of a body further out.
  reach : (d : ℕ) (h : Site) → IsSite hs h → levels_in h ≡ d → 1 ≤ register h x → (n : ℕ) → h.list < n
      → Reach h d n
  reach zero h is level low n lt = here h is level low n lt
  reach (suc d) h is level low zero lt = absurd (omega (arith, lt))
  reach (suc d) h is level low (suc n) lt =
      by (λ g there l r lt'. reach d g there l r n lt') (get_or (parents cs) h.list None) refl (sites.linked h is)
      (sites.below h is)
    where
      out : Outside h.context.scopes x (suc d) (register h x)
      out = outside h.context.scopes x seen d (register h x) level refl low

      by : ((g : Site) → IsSite hs g → levels_in g ≡ d → 1 ≤ register g x → g.list < n → Reach g d n)
          → (o : Option ℕ) → get_or (parents cs) h.list None ≡ o → Linked hs (further_slots h.context.scopes) o
          → OptionIs (λ k. k < h.list) o → Reach h (suc d) (suc n)
      by onward None e around below = absurd (none_further x (further_slots h.context.scopes) d around out.levels_are)
      by onward (Some k) e around below =
          let g = around.0 in
          let f = further x seen (further_slots h.context.scopes) d (register h x) out.levels_are out.register_is low in
          let level' : levels_in g ≡ d =
          ap (λ (z : Scopes). (place_of z x).levels) around.3 ∙ f.levels_are in
          let same : register g x ≡ register h x =
          ap (λ (z : Scopes). (place_of z x).register) around.3 ∙ f.register_is in
          let lower : k < h.list = below in
          let at : g.list ≡ k = around.2 in
          let up = onward g around.1 level' (omega (arith, same, low)) (omega (arith, at, lower, lt)) in
          let parent : (scope_at cs h.list).parent ≡ Some g.list =
          sym (parent_at cs h.list) ∙ e ∙ ap Some (sym around.2) in
          let outer : (list_at l h.list).outer ≡ Some g.list =
          sym (outer_at l h.list) ∙ ap (λ (os : List (Option ℕ)). get_or os h.list None) sites.around ∙ e
          ∙ ap Some (sym around.2) in
          record {
            g = up.g;
            site = up.site;
            known = up.known;
            same = up.same ∙ same;
            list = ap (λ (o : Option ℕ). list_out d l (unwrap_or o 0)) outer ∙ up.list;
            found = ap (λ (b : Bool). if b then Some h.list
                else first_with cs (outward n cs (scope_at cs h.list).parent) x)
                ((sites.each h is).same.mirrors x seen ∙ out.missing)
                ∙ ap (λ (o : Option ℕ). first_with cs (outward n cs o) x) parent ∙ up.found;
          }

  -- and the scope in which the evaluation seeks it
  pub record Outer (m : Memory) (h : Site) (d : ℕ) : Type 0 where
    pub g : Site
    pub site : IsSite hs g
    pub known : Known g x
    pub same : register g x ≡ register h x
    pub list : list_out d l h.list ≡ g.list
    pub found : scope_of m x ≡ g.list

  pub outer_of : (m : Memory) (h : Site) (d : ℕ) → m.scopes ≡ cs → m.place ≡ place_in h → IsSite hs h → levels_in h ≡ d
      → 1 ≤ register h x → Outer m h d
  unfolding scopes_around
  outer_of m h d e there is level low =
      let r = reach d h is level low (suc h.list) (omega arith) in
      record {
        g = r.g;
        site = r.site;
        known = r.known;
        same = r.same;
        list = r.list;
        found = seen_scope m x seen
            ∙ ap (λ (q : source.Place). unwrap_or (first_with m.scopes (scopes_around m.scopes q.scope) x) q.scope)
            there
            ∙ ap (λ (ds : List Scope). unwrap_or (first_with ds (scopes_around ds h.list) x) h.list) e
            ∙ ap (λ (o : Option ℕ). unwrap_or o h.list) r.found;
      }

  -- what it reads as
  pub outer_value : (m : Memory) (h : Site) (d : ℕ) → m.scopes ≡ cs → m.place ≡ place_in h → IsSite hs h
      → levels_in h ≡ d → 1 ≤ register h x
      → variable m x ≡ value_at l (list_out d l h.list) (register h x)
  unfolding variable
  outer_value m h d e there is level low =
      let r = outer_of m h d e there is level low in
      ap (λ (n : ℕ). unwrap_or (value_in (scope_at m.scopes n).variables x) Nil) r.found
      ∙ ap (λ (ds : List Scope). unwrap_or (value_in (scope_at ds r.g.list).variables x) Nil) e
      ∙ (sites.each r.g r.site).same.alike x r.known
      ∙ ap (λ (i : ℕ). value_at l r.g.list i) r.same
      ∙ ap (λ (n : ℕ). value_at l n (register h x)) (sym r.list)
