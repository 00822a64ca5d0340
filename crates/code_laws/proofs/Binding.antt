-- A local is read and written in the body that binds it.
use Rattle.std.proofs.Common.{◌≡◌, inl, inr, ◌<◌, ◌≤◌, ℕ, zero, suc, ◌+◌, ◌-◌, List, [], ◌∷◌, ◌++◌, length, arith, refl, sym, ap, ◌∙◌, subst, Bool, true, false, if◌then◌else◌}
use Rattle.std.specs.Prelude.{◌⊎◌, Option, Some, None, slice_get}
use Rattle.rite_code.specs.declared.operation.Operation.{Operation}
use Rattle.rite_code.specs.declared.operation.Operation.TheVariants as op
use Rattle.ir_core.specs.CoreForm as form
use Rattle.ir_core.specs.CoreForm.{Local, named, hidden, pattern, rest, Parameters, CoreForm}
use Rattle.ir_core.specs.Program.{Around, is_bound, are_same, all_parameters, within_program, within_class, within_method, within_block}
use Rattle.scope_resolver.specs.declared.body_kind.BodyKind.TheVariants as kind
use Rattle.scope_resolver.specs.declared.place.Place.{Place}
use Rattle.scope_resolver.specs.declared.seek.Search.{Search}
use Rattle.scope_resolver.specs.declared.seek.Search.TheVariants.{Found, Past}
use Rattle.scope_resolver.specs.Layout.{Slots, Scopes, is_at, seek, place_at, place_from, place_in, place_or_self, place_of, innermost_count, named_slots, block_slot, parameter_slots, scopes_in}
use Rattle.gen_parts.specs.declared.emitter.Spot.{Spot}
use Rattle.gen_parts.specs.Pieces.{◌⊕◌, does}
use Rattle.gen_forms.specs.Gen.{Context, gen, read, write}
use Rattle.code_laws.proofs.Checking.{not_zero}
use Rattle.code_laws.specs.Bound.{IsSeen, Lacks, IsFirst, IsBound, Binds, reading, writing, Owns, AreHeld, AreOwned, Knows}

-- ## A search through slots

-- what it finds from a place on: the first slot of the local, or none
abbrev Finds : Local → Slots → ℕ → Search → Type 0
Finds x ss n (Found r) = (k : ℕ) × (r ≡ n + k) × IsFirst x ss k
Finds x ss n (Past r) = Lacks x ss

found_is : (x : Local) (ss : Slots) (n : ℕ) → seek x ss (Found n) ≡ Found n
found_is x [] n = refl
found_is x (s ∷ ss) n = found_is x ss n

finds : (x : Local) (ss : Slots) (n : ℕ) → Finds x ss n (seek x ss (Past n))
finds x [] n = tt
finds x (s ∷ ss) n = by (is_at x s) refl (finds x ss (n + 1))
  where
    later : (q : Search) → is_at x s ≡ false → Finds x ss (n + 1) q → Finds x (s ∷ ss) n q
    later (Found r) e (k, at, first) = (suc k, omega (arith, at), (e, first))
    later (Past r) e lacks = (e, lacks)

    by : (b : Bool) → is_at x s ≡ b → Finds x ss (n + 1) (seek x ss (Past (n + 1)))
        → Finds x (s ∷ ss) n (seek x ss (if b then Found n else Past (n + 1)))
    by true e more = subst (Finds x (s ∷ ss) n) (sym (found_is x ss n)) (0, omega arith, e)
    by false e more = later (seek x ss (Past (n + 1))) e more

never_both : (x : Local) (ss : Slots) (n : ℕ) → Lacks x ss → IsFirst x ss n → ⊥
never_both x [] n lacks first = first
never_both x (s ∷ ss) zero lacks first = absurd (cc (lacks.0, first))
never_both x (s ∷ ss) (suc n) lacks first = never_both x ss n lacks.1 first.1

-- there is one first slot
one_first : (x : Local) (ss : Slots) (n k : ℕ) → IsFirst x ss n → IsFirst x ss k → n ≡ k
one_first x [] n k f g = absurd f
one_first x (s ∷ ss) zero zero f g = refl
one_first x (s ∷ ss) zero (suc k) f g = absurd (cc (f, g.0))
one_first x (s ∷ ss) (suc n) zero f g = absurd (cc (f.0, g))
one_first x (s ∷ ss) (suc n) (suc k) f g = ap suc (one_first x ss n k f.1 g.1)

-- ## A search through bodies

abbrev pub place_by : ℕ → ℕ → Place
place_by levels place = record { levels = levels; register = place + 1 }

same_place : (levels n k : ℕ) → n ≡ 1 + k → Some (record { levels = levels; register = n }) ≡ Some (place_by levels k)
same_place levels n k e = ap (λ (m : ℕ). Some (record { levels = levels; register = m })) (omega (arith, e))

placed_here : (x : Local) (ss : Slots) (place levels : ℕ) (further : Option Place) → IsFirst x ss place
    → place_at (seek x ss (Past 1)) levels further ≡ Some (place_by levels place)
placed_here x ss place levels further first = by (seek x ss (Past 1)) (finds x ss 1)
  where
    by : (q : Search) → Finds x ss 1 q → place_at q levels further ≡ Some (place_by levels place)
    by (Found r) (k, at, found) =
        same_place levels r place (let one = one_first x ss k place found first in omega (arith, at, one))
    by (Past r) lacks = absurd (never_both x ss place lacks first)

placed_further : (x : Local) (ss : Slots) (levels : ℕ) (further : Option Place) → Lacks x ss
    → place_at (seek x ss (Past 1)) levels further ≡ further
placed_further x ss levels further lacks = by (seek x ss (Past 1)) (finds x ss 1)
  where
    by : (q : Search) → Finds x ss 1 q → place_at q levels further ≡ further
    by (Found r) (k, at, found) = absurd (never_both x ss k lacks found)
    by (Past r) l = refl

placed_from : (x : Local) (scopes : Scopes) (levels place before : ℕ) → IsBound scopes x levels place
    → place_from x scopes before ≡ Some (place_by (before + levels) place)
placed_from x [] levels place before b = absurd (nothing_there levels b.body)
  where
    nothing_there : (n : ℕ) → slice_get [] n ≡ Some b.slots → ⊥
    nothing_there zero e = absurd (cc e)
    nothing_there (suc n) e = absurd (cc e)
placed_from x (ss ∷ scopes) zero place before b =
    let here : ss ≡ b.slots = cc b.body in
    placed_here x ss place before (place_from x scopes (before + 1))
    (subst (λ (ts : Slots). IsFirst x ts place) (sym here) b.first)
    ∙ ap (λ (n : ℕ). Some (place_by n place)) (omega arith)
placed_from x (ss ∷ scopes) (suc levels) place before b =
    placed_further x ss before (place_from x scopes (before + 1)) (b.inner 0 ss (omega arith) refl)
    ∙ placed_from x scopes levels place (before + 1) (record {
      slots = b.slots;
      body = b.body;
      first = b.first;
      inner = λ n ts few e. b.inner (suc n) ts (omega (arith, few)) e;
    })
    ∙ ap (λ (n : ℕ). Some (place_by n place)) (omega arith)

pub place_is : (scopes : Scopes) (x : Local) (levels place : ℕ) → IsSeen x → IsBound scopes x levels place
    → place_of scopes x ≡ place_by levels place
place_is scopes (named x) levels place seen b =
    ap place_or_self (placed_from (named x) scopes levels place 0 b)
    ∙ ap (λ (n : ℕ). place_by n place) (omega arith)
place_is scopes (hidden d) levels place seen b = absurd seen
place_is scopes (pattern k) levels place seen b =
    ap place_or_self (placed_from (pattern k) scopes levels place 0 b)
    ∙ ap (λ (n : ℕ). place_by n place) (omega arith)
place_is scopes rest levels place seen b =
    ap place_or_self (placed_from rest scopes levels place 0 b)
    ∙ ap (λ (n : ℕ). place_by n place) (omega arith)

read_is : (r levels place : ℕ) → read r (place_by levels place) ≡ reading r levels place
read_is r zero place = refl
read_is r (suc between) place =
    let some = not_zero (suc between) (omega arith) in
    let one : suc between - 1 ≡ between = omega arith in
    ap (λ (b : Bool). if b then op.Move r (place + 1) else op.GetUpVar r (place + 1) (suc between - 1)) some
    ∙ ap (op.GetUpVar r (place + 1)) one

write_is : (r levels place : ℕ) → write r (place_by levels place) ≡ writing r levels place
write_is r zero place = refl
write_is r (suc between) place =
    let some = not_zero (suc between) (omega arith) in
    let one : suc between - 1 ≡ between = omega arith in
    ap (λ (b : Bool). if b then op.Move (place + 1) r else op.SetUpVar r (place + 1) (suc between - 1)) some
    ∙ ap (op.SetUpVar r (place + 1)) one

-- ## What is read and written

pub local_reads : (c : Context) (s : Spot) (r levels place : ℕ) (x : Local) → IsSeen x → IsBound c.scopes x levels place
    → gen c s r (form.local x) ≡ does (reading r levels place)
local_reads c s r levels place x seen b =
    ap (λ (p : Place). does (read r p)) (place_is c.scopes x levels place seen b) ∙ ap does (read_is r levels place)

pub local_writes : (c : Context) (s : Spot) (r levels place : ℕ) (x : Local) (e : CoreForm) → IsSeen x
    → IsBound c.scopes x levels place
    → gen c s r (form.set_local x e) ≡ gen c s r e ⊕ does (writing r levels place)
local_writes c s r levels place x e seen b =
    ap (λ (p : Place). gen c s r e ⊕ does (write r p)) (place_is c.scopes x levels place seen b)
    ∙ ap (λ (o : Operation). gen c s r e ⊕ does o) (write_is r levels place)

-- a hidden local is in a register of the body itself, behind those of its other locals
pub hidden_reads : (c : Context) (s : Spot) (r d : ℕ)
    → gen c s r (form.local (hidden d)) ≡ does (reading r 0 (innermost_count c.scopes + d))
hidden_reads c s r d = ap (λ (n : ℕ). does (op.Move r n)) (omega arith)

pub hidden_writes : (c : Context) (s : Spot) (r d : ℕ) (e : CoreForm)
    → gen c s r (form.set_local (hidden d) e) ≡ gen c s r e ⊕ does (writing r 0 (innermost_count c.scopes + d))
hidden_writes c s r d e = ap (λ (n : ℕ). gen c s r e ⊕ does (op.Move n r)) (omega arith)

-- a parameter of the method around the text: its body is the outermost
pub own_reads : (c : Context) (s : Spot) (r levels place : ℕ) (x : Local) (ss : Slots)
    → length c.scopes ≡ levels + 1 → slice_get c.scopes levels ≡ Some ss → IsFirst x ss place
    → gen c s r (form.own x) ≡ does (reading r levels place)
own_reads c s r levels place x ss long at first =
    let outermost : length c.scopes - 1 ≡ levels = omega (arith, long) in
    ap (λ (n : ℕ). does (read r (place_or_self (place_in x n (slice_get c.scopes n))))) outermost
    ∙ ap (λ (o : Option Slots). does (read r (place_or_self (place_in x levels o)))) at
    ∙ ap (λ (p : Option Place). does (read r (place_or_self p))) (placed_here x ss place levels None first)
    ∙ ap does (read_is r levels place)

-- ## The names that a program knows

-- no slot, or a first one
lacks_or_has : (x : Local) (ss : Slots) → Lacks x ss ⊎ ((n : ℕ) × IsFirst x ss n)
lacks_or_has x [] = inl tt
lacks_or_has x (s ∷ ss) = by (is_at x s) refl (lacks_or_has x ss)
  where
    by : (b : Bool) → is_at x s ≡ b → Lacks x ss ⊎ ((n : ℕ) × IsFirst x ss n)
        → Lacks x (s ∷ ss) ⊎ ((n : ℕ) × IsFirst x (s ∷ ss) n)
    by true e later = inr (0, e)
    by false e (inl l) = inl (e, l)
    by false e (inr f) = inr (suc f.0, (e, f.1))

lacks_left : (x : Local) (ss ts : Slots) → Lacks x (ss ++ ts) → Lacks x ss
lacks_left x [] ts l = tt
lacks_left x (s ∷ ss) ts l = (l.0, lacks_left x ss ts l.1)

lacks_right : (x : Local) (ss ts : Slots) → Lacks x (ss ++ ts) → Lacks x ts
lacks_right x [] ts l = l
lacks_right x (s ∷ ss) ts l = lacks_right x ss ts l.1

-- a local that none of the slots of names is isn't bound by them
unbound : (x : Local) (ls : List Local) → Lacks x (named_slots ls) → is_bound x ls ≡ false
unbound x [] l = refl
unbound x (y ∷ ys) l = rw l.0 (unbound x ys l.1)

unbound_block : (x : Local) (ls : List Local) → length ls ≤ 1 → Lacks x (block_slot ls) → is_bound x ls ≡ false
unbound_block x [] few l = refl
unbound_block x (y ∷ []) few l = rw l.0 refl
unbound_block x (y ∷ (z ∷ ls)) few l = absurd (omega (arith, few))

unbound_both : (x : Local) (ls ms : List Local) → is_bound x ls ≡ false → is_bound x ms ≡ false
    → is_bound x (ls ++ ms) ≡ false
unbound_both x [] ms e f = f
unbound_both x (y ∷ ys) ms e f = by (are_same x y) e (λ g. unbound_both x ys ms g f)
  where
    by : (b : Bool) → (if b then true else is_bound x ys) ≡ false → (is_bound x ys ≡ false → is_bound x (ys ++ ms) ≡ false)
        → (if b then true else is_bound x (ys ++ ms)) ≡ false
    by true g later = absurd (cc g)
    by false g later = later g

-- where the slots of a body lack a local its names are those around it
held_within : (ss : Slots) (around : Scopes) (known all : List Local)
    → ((x : Local) → Lacks x ss → is_bound x known ≡ false → is_bound x all ≡ false) → AreHeld around known
    → AreHeld (ss ∷ around) all
held_within ss around known all lacking held x seen bound = by (lacks_or_has x ss) (is_bound x known) refl
  where
    own : (n : ℕ) → IsFirst x ss n → Binds (ss ∷ around) x
    own n first = record {
      levels = 0;
      place = n;
      bound = record { slots = ss; body = refl; first = first; inner = λ k ts few e. absurd (omega (arith, few)) };
    }

    inner : Lacks x ss → (b : Binds around x) → (k : ℕ) (ts : Slots) → k < suc b.levels
        → slice_get (ss ∷ around) k ≡ Some ts → Lacks x ts
    inner lacks b zero ts few e = subst (Lacks x) (cc e) lacks
    inner lacks b (suc k) ts few e = b.bound.inner k ts (omega (arith, few)) e

    further : Lacks x ss → Binds around x → Binds (ss ∷ around) x
    further lacks b = record {
      levels = suc b.levels;
      place = b.place;
      bound = record {
        slots = b.bound.slots;
        body = b.bound.body;
        first = b.bound.first;
        inner = inner lacks b;
      };
    }

    by : Lacks x ss ⊎ ((n : ℕ) × IsFirst x ss n) → (k : Bool) → is_bound x known ≡ k → Binds (ss ∷ around) x
    by (inr (n, first)) k e = own n first
    by (inl lacks) true e = further lacks (held x seen e)
    by (inl lacks) false e = absurd (cc (bound, lacking x lacks e))

nothing_held : AreHeld [] []
nothing_held x seen e = absurd (cc e)

-- a local that the slots of parameters lack
no_parameter : (x : Local) (p : Parameters) → length p.block ≤ 1 → Lacks x (parameter_slots p)
    → is_bound x (all_parameters p) ≡ false
no_parameter x p few l =
    let q1 = named_slots p.required in
    let q2 = named_slots p.optional in
    let q3 = named_slots p.rest in
    let q4 = named_slots p.post in
    let l4 = lacks_left x (q1 ++ q2 ++ q3 ++ q4) (block_slot p.block) l in
    let l3 = lacks_left x (q1 ++ q2 ++ q3) q4 l4 in
    let l2 = lacks_left x (q1 ++ q2) q3 l3 in
    unbound_both x (p.required ++ p.optional ++ p.rest ++ p.post) p.block
    (unbound_both x (p.required ++ p.optional ++ p.rest) p.post
    (unbound_both x (p.required ++ p.optional) p.rest
    (unbound_both x p.required p.optional (unbound x p.required (lacks_left x q1 q2 l2))
    (unbound x p.optional (lacks_right x q1 q2 l2)))
    (unbound x p.rest (lacks_right x (q1 ++ q2) q3 l3)))
    (unbound x p.post (lacks_right x (q1 ++ q2 ++ q3) q4 l4)))
    (unbound_block x p.block few (lacks_right x (q1 ++ q2 ++ q3 ++ q4) (block_slot p.block) l))

no_method : (scopes : Scopes) → AreOwned scopes None
no_method scopes x e = absurd (cc e)

-- the parameters of a method are among the slots of its body
owned_here : (p : Parameters) (ls : List Local) → length p.block ≤ 1
    → AreOwned ((parameter_slots p ++ named_slots ls) ∷ []) (Some p)
owned_here p ls few x own = by (lacks_or_has x (parameter_slots p ++ named_slots ls))
  where
    by : Lacks x (parameter_slots p ++ named_slots ls) ⊎ ((n : ℕ) × IsFirst x (parameter_slots p ++ named_slots ls) n)
        → Owns ((parameter_slots p ++ named_slots ls) ∷ []) x
    by (inr (n, first)) = record {
      levels = 0;
      place = n;
      slots = parameter_slots p ++ named_slots ls;
      outermost = omega arith;
      body = refl;
      first = first;
    }
    by (inl l) = absurd (cc (own, no_parameter x p few (lacks_left x (parameter_slots p) (named_slots ls) l)))

owned_further : (ss : Slots) (around : Scopes) (method : Option Parameters) → AreOwned around method
    → AreOwned (ss ∷ around) method
owned_further ss around method owned x own =
    let o = owned x own in
    record {
      levels = suc o.levels;
      place = o.place;
      slots = o.slots;
      outermost = omega (arith, o.outermost);
      body = o.body;
      first = o.first;
    }

lines_known : (p : Parameters) (ls : List Local) (x : Local) → Lacks x (parameter_slots p ++ named_slots ls)
    → length p.block ≤ 1 → is_bound x (all_parameters p ++ ls) ≡ false
lines_known p ls x l few =
    unbound_both x (all_parameters p) ls
    (no_parameter x p few (lacks_left x (parameter_slots p) (named_slots ls) l))
    (unbound x ls (lacks_right x (parameter_slots p) (named_slots ls) l))

pub main_knows : (p : Parameters) (ls : List Local) (f : CoreForm)
    → Knows (scopes_in kind.Main (form.body p ls f) []) (within_program ls)
main_knows p ls f = (
  held_within (named_slots ls) [] [] ls (λ x l e. unbound x ls l) nothing_held,
  no_method (named_slots ls ∷ []),
)

pub class_knows : (p : Parameters) (ls : List Local) (f : CoreForm) (around : Scopes)
    → Knows (scopes_in kind.Class (form.body p ls f) around) (within_class ls)
class_knows p ls f around = (
  held_within (named_slots ls) [] [] ls (λ x l e. unbound x ls l) nothing_held,
  no_method (named_slots ls ∷ []),
)

pub method_knows : (p : Parameters) (ls : List Local) (f : CoreForm) (around : Scopes) → length p.block ≤ 1
    → Knows (scopes_in kind.Method (form.body p ls f) around) (within_method p ls)
method_knows p ls f around few = (
  held_within (parameter_slots p ++ named_slots ls) [] [] (all_parameters p ++ ls) (λ x l e. lines_known p ls x l few)
      nothing_held,
  owned_here p ls few,
)

pub block_knows : (p : Parameters) (ls : List Local) (f : CoreForm) (around : Scopes) (a : Around)
    → length p.block ≤ 1 → Knows around a
    → Knows (scopes_in kind.Block (form.body p ls f) around) (within_block a p ls)
block_knows p ls f around a few knows = (
  held_within (parameter_slots p ++ named_slots ls) around a.known (all_parameters p ++ ls ++ a.known)
      (λ x l e. unbound_both x (all_parameters p ++ ls) a.known (lines_known p ls x l few) e) knows.0,
  owned_further (parameter_slots p ++ named_slots ls) around a.method knows.1,
)
