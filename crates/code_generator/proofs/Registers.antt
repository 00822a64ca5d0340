-- A write to one register, and what it leaves.
use Rattle.std.proofs.Common.{◌≡◌, ◌≢◌, ℕ, zero, suc, ◌+◌, ◌<◌, ◌≤◌, List, [], ◌∷◌, refl, sym, ap, ◌∙◌, subst, arith, length, get_or, set, map, take, length-set, get_or-set_same, get_or-set_other}
use Rattle.std.proofs.lemmas.List.{take-set-le, map-set, get_or-take, get_or-map}
use Rattle.std.proofs.Math.Seq.{map-set_same, take-set-lt, take-nil}
use Rattle.std.proofs.Math.ListN.{get_or-map as get_or_map}
use Rattle.path_core.specs.Form.{Name}
use Rattle.path_core.specs.Form.{place_of}
use Rattle.path_value.specs.declared.value.Value.{Value}
use Rattle.path_value.specs.declared.value.Value.TheVariants.{Nil}
use Rattle.rite_code.specs.Code.{Program}
use Rattle.path_eval.specs.Configuration as source
use Rattle.path_eval.specs.Configuration.{Source, Scope, World, no_scope, scope_at, named, local_of, with_local}
use Rattle.path_turns.specs.State.{Slot, value, read, body_at, Registers, no_registers, list_at, slot_at, value_at, put, Memory}
use Rattle.path_turns.specs.Turn.{write}
use Rattle.code_generator.proofs.Relation.{Fits, behind_self, scope_of, Same}

pub list_same : (ls : List Registers) (n i : ℕ) (v : Slot) → n < length ls
    → list_at (put ls n i v) n ≡ record (list_at ls n) { slots = set (list_at ls n).slots i v }
unfolding put
list_same ls n i v lt = get_or-set_same ls n (record (list_at ls n) { slots = set (list_at ls n).slots i v })
    no_registers lt

pub slot_same : (ls : List Registers) (n i : ℕ) (v : Slot) → n < length ls → i < length (list_at ls n).slots
    → slot_at (put ls n i v) n i ≡ v
unfolding slot_at
slot_same ls n i v lt li = ap (λ l. get_or l.slots i (value Nil)) (list_same ls n i v lt)
    ∙ get_or-set_same (list_at ls n).slots i v (value Nil) li

pub slot_other : (ls : List Registers) (n i j : ℕ) (v : Slot) → n < length ls → j ≢ i
    → slot_at (put ls n i v) n j ≡ slot_at ls n j
unfolding slot_at
slot_other ls n i j v lt ne = ap (λ l. get_or l.slots j (value Nil)) (list_same ls n i v lt)
    ∙ get_or-set_other (list_at ls n).slots i j v (value Nil) ne

length_put : (ls : List Registers) (n i : ℕ) (v : Slot) → length (put ls n i v) ≡ length ls
unfolding put
length_put ls n i v = length-set ls n (record (list_at ls n) { slots = set (list_at ls n).slots i v })

pub fits_put : (q : Source) (p : Program) (ls : List Registers) (b n i : ℕ) (v : Slot) → Fits q p ls b n
    → Fits q p (put ls n i v) b n
fits_put q p ls b n i v f = record {
  present = omega (arith, f.present, length_put ls n i v);
  long = ap (λ l. length l.slots) (list_same ls n i v f.present) ∙ length-set (list_at ls n).slots i v ∙ f.long;
  own = ap (λ l. l.of) (list_same ls n i v f.present) ∙ f.own;
  layout = f.layout;
}

-- writes after the locals, and to a local
front_above : (n r : ℕ) (ss : List Slot) (v : Slot) → n + 1 ≤ r
    → take n (behind_self (set ss r v)) ≡ take n (behind_self ss)
front_above n r [] v le = refl
front_above n zero (s ∷ ss) v le = absurd (omega arith)
front_above n (suc r) (s ∷ ss) v le = take-set-le n ss r v (omega arith)

front_local : (n i : ℕ) (ss : List Slot) (v : Slot) → i < n
    → take n (behind_self (set ss (i + 1) v)) ≡ set (take n (behind_self ss)) i v
front_local n i [] v lt = let e : take {A = Slot} n [] ≡ [] = take-nil n in rw e refl
front_local n i (s ∷ ss) v lt =
    let e : i + 1 ≡ suc i = omega arith in
    subst (λ (j : ℕ). take n (behind_self (set (s ∷ ss) j v)) ≡ set (take n ss) i v) (sym e) (take-set-lt n ss i v lt)

-- a write above the locals leaves the scopes
pub same_above : (q : Source) (p : Program) (w : World) (b n : ℕ) (m : Memory) (r : ℕ) (v : Slot) → Fits q p m.lists b n
    → (body_at p b).locals ≤ r → Same q w n m → Same q w n (record m { lists = put m.lists n r v })
unfolding put
same_above q p w b n m r v fits above s =
    let l = list_at m.lists n in
    let own : (source.body_at q l.of).names ≡ (source.body_at q b).names =
    ap (λ k. (source.body_at q k).names) fits.own in
    let long : length (source.body_at q l.of).names ≡ length (source.body_at q b).names = ap length own in
    let keep : take (length (source.body_at q l.of).names) (behind_self (set l.slots r v)) ≡ take
    (length (source.body_at q l.of).names) (behind_self l.slots) =
    front_above (length (source.body_at q l.of).names) r l.slots v (omega (arith, long, above, fits.layout)) in
    record {
      is_scope = s.is_scope;
      input = s.input;
      out = s.out;
      scopes = s.scopes ∙ sym (map-set_same (scope_of q) m.lists n (record l { slots = set l.slots r v }) no_registers
          (ap (λ (vs : List Slot). record { of = l.of; values = map read vs }) keep));
    }

-- the scope of the running activation
scope_is : (q : Source) (p : Program) (w : World) (b n : ℕ) (m : Memory) → Fits q p m.lists b n → Same q w n m
    → scope_at w ≡ scope_of q (list_at m.lists n)
scope_is q p w b n m fits s =
    ap (get_or w.scopes w.place.scope) refl ∙ ap (λ (k : ℕ). get_or w.scopes k no_scope) s.is_scope
    ∙ ap (λ (cs : List Scope). get_or cs n no_scope) s.scopes
    ∙ get_or-map (scope_of q) m.lists n no_registers no_scope fits.present

-- the place of a name among the locals
pub local_is : (q : Source) (p : Program) (w : World) (b n : ℕ) (m : Memory) (x : Name) → Fits q p m.lists b n
    → Same q w n m → local_of q w x ≡ place_of x (source.body_at q b).names
local_is q p w b n m x fits s = ap (λ (c : Scope). place_of x (source.body_at q c.of).names)
    (scope_is q p w b n m fits s) ∙ ap (λ (k : ℕ). place_of x (source.body_at q k).names) fits.own

get_behind : (ss : List Slot) (i : ℕ) → get_or (behind_self ss) i (value Nil) ≡ get_or ss (i + 1) (value Nil)
get_behind [] i = refl
get_behind (s ∷ ss) i = let e : i + 1 ≡ suc i = omega arith in rw e refl

get_front : (n i : ℕ) (ss : List Slot) → i < n
    → get_or (map read (take n (behind_self ss))) i Nil ≡ read (get_or ss (i + 1) (value Nil))
get_front n i ss lt = get_or_map read (take n (behind_self ss)) i (value Nil)
    ∙ ap read (get_or-take n (behind_self ss) i (value Nil) lt ∙ get_behind ss i)

pub named_is : (q : Source) (p : Program) (w : World) (b n : ℕ) (m : Memory) (x : Name) → Fits q p m.lists b n
    → place_of x (source.body_at q b).names + 1 < (body_at p b).locals → Same q w n m
    → named q w x ≡ value_at m.lists n (place_of x (source.body_at q b).names + 1)
unfolding slot_at
named_is q p w b n m x fits lt s =
    let l = list_at m.lists n in
    let i = place_of x (source.body_at q b).names in
    let long : length (source.body_at q l.of).names ≡ length (source.body_at q b).names =
    ap (λ (k : ℕ). length (source.body_at q k).names) fits.own in
    ap (λ (j : ℕ). get_or (scope_at w).values j Nil) (local_is q p w b n m x fits s)
    ∙ ap (λ (c : Scope). get_or c.values i Nil) (scope_is q p w b n m fits s)
    ∙ get_front (length (source.body_at q l.of).names) i l.slots (omega (arith, long, lt, fits.layout))

-- an assignment on both sides
pub same_local : (q : Source) (p : Program) (w : World) (b n : ℕ) (m : Memory) (x : Name) (v : Value)
    → Fits q p m.lists b n → place_of x (source.body_at q b).names + 1 < (body_at p b).locals → Same q w n m
    → Same q (with_local w (local_of q w x) v) n (write m n (place_of x (source.body_at q b).names + 1) v)
unfolding put
same_local q p w b n m x v fits lt s =
    let l = list_at m.lists n in
    let i = place_of x (source.body_at q b).names in
    let size = length (source.body_at q l.of).names in
    let long : size ≡ length (source.body_at q b).names = ap (λ (k : ℕ). length (source.body_at q k).names) fits.own in
    let keep : map read (take size (behind_self (set l.slots (i + 1) (value v)))) ≡ set
    (map read (take size (behind_self l.slots))) i v =
    ap (map read) (front_local size i l.slots (value v) (omega (arith, long, lt, fits.layout)))
    ∙ map-set read (take size (behind_self l.slots)) i (value v) in
    let now : scope_of q (record l { slots = set l.slots (i + 1) (value v) }) ≡ record (scope_of q l)
    { values = set (scope_of q l).values i v } = ap (λ (vs : List Value). record { of = l.of; values = vs }) keep in
    record {
      is_scope = s.is_scope;
      input = s.input;
      out = s.out;
      scopes =
          ap (λ (j : ℕ). set w.scopes w.place.scope (record (scope_at w) { values = set (scope_at w).values j v }))
          (local_is q p w b n m x fits s)
          ∙ ap (λ (c : Scope). set w.scopes w.place.scope (record c { values = set c.values i v }))
          (scope_is q p w b n m fits s)
          ∙ ap (λ (k : ℕ). set w.scopes k (record (scope_of q l) { values = set (scope_of q l).values i v })) s.is_scope
          ∙ ap (λ (cs : List Scope). set cs n (record (scope_of q l) { values = set (scope_of q l).values i v }))
          s.scopes
          ∙ ap (set (map (scope_of q) m.lists) n) (sym now)
          ∙ sym (map-set (scope_of q) m.lists n (record l { slots = set l.slots (i + 1) (value v) }));
    }
