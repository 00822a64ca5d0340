-- A write to one register, and what it leaves.
use Rattle.std.proofs.Common.{◌≡◌, ◌≢◌, ℕ, zero, suc, ◌+◌, ◌<◌, ◌≤◌, List, [], ◌∷◌, refl, sym, ap, ◌∙◌, subst, arith, length, get_or, set, Bool, true, false, length-set, get_or-set_same, get_or-set_other, map}
use Rattle.std.specs.Prelude.{Option, Some, None, unwrap_or, is_some, if◌then◌else◌}
use Rattle.rb_value.specs.declared.value.Value.{Value}
use Rattle.rb_value.specs.declared.value.Value.TheVariants.{Nil}
use Rattle.rb_value.specs.declared.exit.Slot.{Slot}
use Rattle.rb_value.specs.declared.exit.Slot.TheVariants.{V}
use Rattle.rb_value.specs.Slot.{read}
use Rattle.ir_core.specs.CoreForm as form
use Rattle.ir_core.specs.CoreForm.{Local, Forms}
use Rattle.gen_parts.specs.declared.line.Catch.{Catch}
use Rattle.gen_forms.specs.declared.context.Loop.{Loop}
use Rattle.def_eval.specs.Configuration.{Place, Scope, Action, Part, operands, receiver, items, block, elements, hash_key, hash_value, pieces, rest as rest_part, test, chosen, and_then, or_else, loop_test, loop_body, rescued, clause_class, clause_target, clause_body, ensured, stop_of, Item, part, activation, iteration, ensuring, Memory}
use Rattle.def_eval.specs.Scopes.{same_local, value_in, put_value, no_scope, scope_at, outward, scopes_around, first_with, scope_of, variable, put_in, with_variable}
use Rattle.def_machine.specs.State.{Registers, no_registers, body_at, list_at, slot_at, value_at, put}
use Rattle.scope_laws.specs.Numbers.{parents, outers}
use Rattle.step_laws.specs.Site.{Site, guarded_by, bare, place_in, register, Known}
use Rattle.step_laws.specs.Behind.{Static, Holds, HoldsCall, OperandBehind, in_literal, in_call, Behind, to_local, to_outer, to_global, strict, breaks, begins_round, leaves_body, ends_body, goes_far, defines_method, opens_space, opens_without, opens_under}
use Rattle.scope_resolver.specs.declared.seek.Search.TheVariants.{Past}
use Rattle.scope_resolver.specs.Layout.{seek}
use Rattle.step_laws.specs.Around.{is_found, first_slots}
use Rattle.step_laws.specs.Relation.{Inside, Mirrors, Same}
use Rattle.code_laws.specs.Bound.{IsSeen}
use Rattle.step_laws.proofs.Outside.{outside_kept}
use Rattle.step_laws.proofs.Apart.{own_place}
use Rattle.step_laws.proofs.Seen.{Sort, seen, unseen, sort, seen_scope, same, is_same}

pub list_same : (l : List Registers) (n i : ℕ) (v : Slot) → n < length l
    → list_at (put l n i v) n ≡ record (list_at l n) { slots = set (list_at l n).slots i v }
unfolding put
list_same l n i v lt = get_or-set_same l n (record (list_at l n) { slots = set (list_at l n).slots i v }) no_registers lt

pub slot_same : (l : List Registers) (n i : ℕ) (v : Slot) → n < length l → i < length (list_at l n).slots
    → slot_at (put l n i v) n i ≡ v
unfolding slot_at
slot_same l n i v lt li =
    ap (λ (r : Registers). get_or r.slots i (V Nil)) (list_same l n i v lt)
    ∙ get_or-set_same (list_at l n).slots i v (V Nil) li

pub slot_other : (l : List Registers) (n i j : ℕ) (v : Slot) → n < length l → j ≢ i
    → slot_at (put l n i v) n j ≡ slot_at l n j
unfolding slot_at
slot_other l n i j v lt ne =
    ap (λ (r : Registers). get_or r.slots j (V Nil)) (list_same l n i v lt)
    ∙ get_or-set_other (list_at l n).slots i j v (V Nil) ne

pub list_other : (l : List Registers) (n i j : ℕ) (v : Slot) → j ≢ n → list_at (put l n i v) j ≡ list_at l j
unfolding put
list_other l n i j v ne =
    get_or-set_other l n j (record (list_at l n) { slots = set (list_at l n).slots i v }) no_registers ne

pub length_put : (l : List Registers) (n i : ℕ) (v : Slot) → length (put l n i v) ≡ length l
unfolding put
length_put l n i v = length-set l n (record (list_at l n) { slots = set (list_at l n).slots i v })

-- what is around a list stays, and so it does of a scope
map_set : {A B : Type 0} (f : A → B) (xs : List A) (n : ℕ) (d y : A) → f y ≡ f (get_or xs n d)
    → map f (set xs n y) ≡ map f xs
map_set f [] n d y e = refl
map_set f (x ∷ xs) zero d y e = ap (λ z. z ∷ map f xs) e
map_set f (x ∷ xs) (suc n) d y e = ap (λ zs. f x ∷ zs) (map_set f xs n d y e)

pub outers_put : (l : List Registers) (n i : ℕ) (v : Slot) → outers (put l n i v) ≡ outers l
unfolding put
outers_put l n i v =
    map_set (λ (r : Registers). r.outer) l n no_registers
    (record (list_at l n) { slots = set (list_at l n).slots i v }) refl

pub parents_put : (cs : List Scope) (n : ℕ) (x : Local) (v : Value) → parents (put_in cs n x v) ≡ parents cs
parents_put cs n x v =
    map_set (λ (c : Scope). c.parent) cs n no_scope
    (record (scope_at cs n) { variables = put_value (scope_at cs n).variables x v }) refl

-- the registers between the locals and r stay
pub record Keeps (h : Site) (l l' : List Registers) (r : ℕ) : Type 0 where
  pub same : (i : ℕ) → h.first ≤ i → i < r → slot_at l' h.list i ≡ slot_at l h.list i

pub keeps_above : (h : Site) (l : List Registers) (r i : ℕ) (v : Slot) → h.list < length l → r ≤ i
    → Keeps h l (put l h.list i v) r
keeps_above h l r i v lt le = record { same = λ j above below. slot_other l h.list i j v lt (omega arith) }

pub keeps_local : (h : Site) (l : List Registers) (r i : ℕ) (v : Slot) → h.list < length l → i < h.first
    → Keeps h l (put l h.list i v) r
keeps_local h l r i v lt le = record { same = λ j above below. slot_other l h.list i j v lt (omega arith) }

pub keeps_by : (h d : Site) (l l' : List Registers) (r : ℕ) → bare d ≡ bare h → Keeps h l l' r → Keeps d l l' r
keeps_by h d l l' r e k =
    let there = subst (λ (q : Site). Keeps q l l' r) (sym e) (record { same = k.same }) in
    record { same = there.same }

lower : (h : Site) (l l' : List Registers) (r s : ℕ) → s ≤ r → Keeps h l l' r → Keeps h l l' s
lower h l l' r s le k = record { same = λ i above below. k.same i above (omega arith) }

holds_kept : (h : Site) (l l' : List Registers) (r low : ℕ) (vs : List Value) → Keeps h l l' r → h.first ≤ low
    → low + length vs ≤ r → Holds l h.list low vs → Holds l' h.list low vs
holds_kept h l l' r low [] k above le s = tt
holds_kept h l l' r low (v ∷ vs) k above le s =
    (k.same low above (omega arith) ∙ s.0, holds_kept h l l' r (low + 1) vs k (omega arith) (omega arith) s.1)

pub call_kept : (h : Site) (l l' : List Registers) (own : Bool) (r low : ℕ) (recv : Value) (vs : List Value)
    → Keeps h l l' r → h.first ≤ low → low + 1 + length vs ≤ r → HoldsCall h l own low recv vs
    → HoldsCall h l' own low recv vs
call_kept h l l' false r low recv vs k above le s = holds_kept h l l' r low (recv ∷ vs) k above (omega arith) s
call_kept h l l' true r low recv vs k above le s =
    (s.0, holds_kept h l l' r (low + 1) vs k (omega arith) (omega arith) s.1)

operand_kept : (h : Site) (l l' : List Registers) (j : ℕ) (a : Action) (vs : List Value) (es : Forms) (low n r end : ℕ)
    (around : Option Loop) → Keeps h l l' r → h.first ≤ low → OperandBehind h l j a vs es low n r end around
    → OperandBehind h l' j a vs es low n r end around
operand_kept h l l' j a vs es low n r end around k above (to_local b) = to_local b
operand_kept h l l' j a vs es low n r end around k above (to_outer b) = to_outer b
operand_kept h l l' j a vs es low n r end around k above (to_global b) = to_global b
operand_kept h l l' j a vs es low n r end around k above (breaks b) = breaks b
operand_kept h l l' j a vs es low n r end around k above (begins_round b) = begins_round b
operand_kept h l l' j a vs es low n r end around k above (leaves_body b) = leaves_body b
operand_kept h l l' j a vs es low n r end around k above (ends_body b) = ends_body b
operand_kept h l l' j a vs es low n r end around k above (goes_far b) = goes_far b
operand_kept h l l' j a vs es low n r end around k above (defines_method b) = defines_method b
operand_kept h l l' j a vs es low n r end around k above (opens_without b) = opens_without b
operand_kept h l l' j a vs es low n r end around k above (opens_under b) = opens_under b
operand_kept h l l' j a vs es low n r end around k above (opens_space b) = opens_space (record {
  row = b.row;
  held = holds_kept h l l' r low vs k above (omega (arith, b.row)) b.held;
  last = b.last;
  opening = b.opening;
})
operand_kept h l l' j a vs es low n r end around k above (strict b) = strict (record {
  row = b.row;
  held = holds_kept h l l' r low vs k above (omega (arith, b.row)) b.held;
  s = b.s;
  here = b.here;
  room = b.room;
  covered = b.covered;
  o = b.o;
  by = b.by;
  ready = b.ready;
  count = b.count;
  code = b.code;
  calls = b.calls;
  ends = b.ends;
})

behind_kept : (h : Site) (l l' : List Registers) (p : Part) (low n r end : ℕ) (around : Option Loop) → Keeps h l l' r
    → h.first ≤ low → Behind h l p low n r end around → Behind h l' p low n r end around
behind_kept h l l' (operands j a vs es) low n r end around k above b = operand_kept h l l' j a vs es low n r end around k above b
behind_kept h l l' (receiver j x is o) low n r end around k above b = b
behind_kept h l l' (items j s recv vs is o) low n r end around k above b =
    let still = call_kept h l l' b.own r low recv vs k above (omega (arith, b.at)) b.held in
    record {
      own = b.own;
      at = b.at;
      s = b.s;
      here = b.here;
      room = b.room;
      covered = b.covered;
      held = still;
      code = b.code;
      ends = b.ends;
    }
behind_kept h l l' (block s recv vs) low n r end around k above b =
    let still = call_kept h l l' b.own r low recv vs k above (omega (arith, b.at)) b.held in
    record {
      own = b.own;
      at = b.at;
      room = b.room;
      few = b.few;
      sender = b.sender;
      passes = b.passes;
      held = still;
      sends = b.sends;
      ends = b.ends;
    }
behind_kept h l l' (elements j g o s is) low n r end around k above (in_literal b) = in_literal (record {
  at = b.at;
  gathers = b.gathers;
  held = k.same low above (omega (arith, b.at)) ∙ b.held;
  s = b.s;
  here = b.here;
  room = b.room;
  covered = b.covered;
  pushes = b.pushes;
  code = b.code;
  ends = b.ends;
})
behind_kept h l l' (elements j g o s is) low n r end around k above (in_call b) = in_call (record {
  at = b.at;
  sender = b.sender;
  recv = b.recv;
  given = b.given;
  gathers = b.gathers;
  callee = b.callee;
  sending = b.sending;
  own = b.own;
  called = call_kept h l l' b.own r low b.recv [] k above (omega (arith, b.at)) b.called;
  held = k.same (low + 1) (omega (arith, above)) (omega (arith, b.at)) ∙ b.held;
  s = b.s;
  here = b.here;
  room = b.room;
  room_behind = b.room_behind;
  covered = b.covered;
  pushes = b.pushes;
  code = b.code;
  ends = b.ends;
})
behind_kept h l l' (hash_key j o v ps) low n r end around k above b = record {
  at = b.at;
  held = k.same low above (omega (arith, b.at)) ∙ b.held;
  s = b.s;
  here = b.here;
  room = b.room;
  covered = b.covered;
  value = b.value;
  next = b.next;
  next_line = b.next_line;
  puts = b.puts;
  code = b.code;
  ends = b.ends;
}
behind_kept h l l' (hash_value j o v ps) low n r end around k above b = record {
  at = b.at;
  held = k.same low above (omega (arith, b.at)) ∙ b.held;
  key = k.same (low + 1) (omega (arith, above)) (omega (arith, b.at)) ∙ b.key;
  s = b.s;
  here = b.here;
  room = b.room;
  covered = b.covered;
  puts = b.puts;
  code = b.code;
  ends = b.ends;
}
behind_kept h l l' (pieces j o es) low n r end around k above b = record {
  at = b.at;
  held = k.same low above (omega (arith, b.at)) ∙ b.held;
  s = b.s;
  here = b.here;
  room = b.room;
  covered = b.covered;
  adds = b.adds;
  code = b.code;
  ends = b.ends;
}
behind_kept h l l' (rest_part j es) low n r end around k above b = b
behind_kept h l l' (test j t bs o) low n r end around k above b = b
behind_kept h l l' chosen low n r end around k above b = b
behind_kept h l l' (and_then j e) low n r end around k above b = b
behind_kept h l l' (or_else j e) low n r end around k above b = b
behind_kept h l l' (loop_test j t e) low n r end around k above b = b
behind_kept h l l' (loop_body j t e) low n r end around k above b = b
behind_kept h l l' (rescued j t form.no_clauses form.absent) low n r end around k above b = b
behind_kept h l l' (rescued j t form.no_clauses (form.there e)) low n r end around k above b = b
behind_kept h l l' (rescued j t (form.clause es u d cs) o) low n r end around k above b = absurd b
behind_kept h l l' (clause_class j e es t d cs q) low n r end around k above b = absurd b
behind_kept h l l' (clause_target j e t q) low n r end around k above b = absurd b
behind_kept h l l' (clause_body q) low n r end around k above b = absurd b
behind_kept h l l' (ensured j e) low n r end around k above b = absurd b

-- with other entries around a form
keeps_guarded : (h : Site) (gs : List Catch) (l l' : List Registers) (r : ℕ) → Keeps h l l' r
    → Keeps (guarded_by h gs) l l' r
keeps_guarded h gs l l' r k = record { same = k.same }

pub inside_kept : (h : Site) (l l' : List Registers) (AtEnd AtEnd' : ℕ → Place → List Item → ℕ → ℕ → Type 0)
    → ((a : ℕ) (p : Place) (is : List Item) (i t : ℕ) → AtEnd a p is i t → AtEnd' a p is i t)
    → (ks : List Item) (n r : ℕ) (around : Option Loop) → Keeps h l l' r → Inside h l AtEnd ks n r around
    → Inside h l' AtEnd' ks n r around
inside_kept h l l' E F to [] n r around k a = absurd a
inside_kept h l l' E F to (part p ∷ ks) n r around k a = record {
  low = a.low;
  end = a.end;
  above = a.above;
  below = a.below;
  behind = behind_kept h l l' p a.low n r a.end around k a.above a.behind;
  outer = a.outer;
  inner = a.inner;
  next = outside_kept (stop_of p) h.guards (λ gs. Inside (guarded_by h gs) l E ks a.end a.low a.outer)
      (λ gs. Inside (guarded_by h gs) l' F ks a.end a.low a.outer)
      (λ gs x. inside_kept (guarded_by h gs) l l' E F to ks a.end a.low a.outer
      (keeps_guarded h gs l l' a.low (lower h l l' r a.low a.below k)) x) a.next;
}
inside_kept h l l' E F to (activation c p ∷ ks) n r around k a = (to c p ks n r a.0, a.1, a.2)
inside_kept h l l' E F to (iteration c it p ∷ ks) n r around k a = absurd a
inside_kept h l l' E F to (ensuring o ∷ ks) n r around k a = absurd a

-- A write above the locals.
pub same_above : (h : Site) (cs : List Scope) (l : List Registers) (r : ℕ) (v : Value) → Static h → h.first ≤ r
    → Same h cs l → Same h cs (put l h.list r (V v))
same_above h cs l r v static above s = record {
  scope = s.scope;
  mirrors = s.mirrors;
  present = omega (arith, s.present, length_put l h.list r (V v));
  long = ap (λ (g : Registers). length g.slots) (list_same l h.list r (V v) s.present)
      ∙ length-set (list_at l h.list).slots r (V v) ∙ s.long;
  self = ap read (slot_other l h.list r 0 (V v) s.present (omega (arith, above, static.some))) ∙ s.self;
  alike = λ x k. s.alike x k
      ∙ sym (ap read (slot_other l h.list r (register h x) (V v) s.present (omega (arith, above, k.low))));
}

-- Variables.

value_same : (vs : List (Local × Value)) (x : Local) (u : Value) → value_in (put_value vs x u) x ≡ Some u
value_same [] x u = ap (λ (b : Bool). if b then Some u else None) (same x)
value_same (v ∷ vs) x u = at (value_same vs x u) (same_local x v.0) refl
  where
    at : value_in (put_value vs x u) x ≡ Some u → (b : Bool) → same_local x v.0 ≡ b
        → value_in (if b then (x, u) ∷ vs else v ∷ put_value vs x u) x ≡ Some u
    at further true e = ap (λ (b : Bool). if b then Some u else value_in vs x) (same x)
    at further false e = ap (λ (b : Bool). if b then Some v.1 else value_in (put_value vs x u) x) e ∙ further

value_other : (vs : List (Local × Value)) (x y : Local) (u : Value) → same_local y x ≡ false
    → value_in (put_value vs x u) y ≡ value_in vs y
value_other [] x y u ne = ap (λ (b : Bool). if b then Some u else None) ne
value_other (v ∷ vs) x y u ne = at (value_other vs x y u ne) (same_local x v.0) refl
  where
    at : value_in (put_value vs x u) y ≡ value_in vs y → (b : Bool) → same_local x v.0 ≡ b
        → value_in (if b then (x, u) ∷ vs else v ∷ put_value vs x u) y
        ≡ (if same_local y v.0 then Some v.1 else value_in vs y)
    at further true e =
        ap (λ (b : Bool). if b then Some u else value_in vs y) ne
        ∙ sym (ap (λ (b : Bool). if b then Some v.1 else value_in vs y) (ap (same_local y) (is_same x v.0 e) ∙ ne))
    at further false e = ap (λ (o : Option Value). if same_local y v.0 then Some v.1 else o) further

-- The scope of a local of the body is its own, which has it.

found_here : (cs : List Scope) (n : ℕ) (x : Local) → is_some (value_in (scope_at cs n).variables x) ≡ true
    → unwrap_or (first_with cs (scopes_around cs n) x) n ≡ n
unfolding scopes_around
found_here cs n x own =
    ap (λ (b : Bool). unwrap_or (if b then Some n else first_with cs (outward n cs (scope_at cs n).parent) x) n) own

local_there : (h : Site) (c : Scope) (x : Local) → IsSeen x → Known h x → Mirrors h c
    → is_some (value_in c.variables x) ≡ true
local_there h c x is k mirrors = mirrors x is ∙ own_place h.context.scopes x is k.level k.behind_self

-- that of a local of the body
scope_is : (h : Site) (m : Memory) (x : Local) → m.place.scope ≡ h.list → Known h x → Mirrors h (scope_at m.scopes h.list)
    → scope_of m x ≡ h.list
scope_is h m x e k o = by (sort x)
  where
    by : Sort x → scope_of m x ≡ h.list
    by (seen is) =
        seen_scope m x is
        ∙ ap (λ (n : ℕ). unwrap_or (first_with m.scopes (scopes_around m.scopes n) x) n) e
        ∙ found_here m.scopes h.list x (local_there h (scope_at m.scopes h.list) x is k o)
    by (unseen d q) = ap (λ (z : Local). scope_of m z) q ∙ e

-- what a local reads as
pub named_is : (h : Site) (m : Memory) (l : List Registers) (x : Local) → m.place ≡ place_in h → Same h m.scopes l
    → Known h x → variable m x ≡ value_at l h.list (register h x)
unfolding variable
named_is h m l x there s k =
    ap (λ (n : ℕ). unwrap_or (value_in (scope_at m.scopes n).variables x) Nil)
    (scope_is h m x (ap (λ (p : Place). p.scope) there) k s.mirrors)
    ∙ s.alike x k

-- a local of the body that is set was there before
known_there : (h : Site) (x y : Local) → IsSeen y → Known h x → same_local y x ≡ true
    → is_found (seek y (first_slots h.context.scopes) (Past 1)) ≡ true
known_there h x y is k e =
    let own = subst (Known h) (is_same y x e) k in own_place h.context.scopes y is own.level own.behind_self

mirrors_put : (h : Site) (c : Scope) (x : Local) (u : Value) → Known h x → Mirrors h c
    → Mirrors h (record c { variables = put_value c.variables x u })
mirrors_put h c x u k mirrors y is = at (same_local y x) refl
  where
    at : (b : Bool) → same_local y x ≡ b → is_some (value_in (put_value c.variables x u) y)
        ≡ is_found (seek y (first_slots h.context.scopes) (Past 1))
    at true e =
        ap (λ (z : Local). is_some (value_in (put_value c.variables x u) z)) (sym (is_same y x e))
        ∙ ap is_some (value_same c.variables x u) ∙ sym (known_there h x y is k e)
    at false e = ap is_some (value_other c.variables x y u e) ∙ mirrors y is

scope_put : (cs : List Scope) (n : ℕ) (x : Local) (v : Value) → n < length cs
    → scope_at (put_in cs n x v) n ≡ record (scope_at cs n) { variables = put_value (scope_at cs n).variables x v }
scope_put cs n x v lt =
    get_or-set_same cs n (record (scope_at cs n) { variables = put_value (scope_at cs n).variables x v }) no_scope lt

pub scope_other : (cs : List Scope) (n j : ℕ) (x : Local) (v : Value) → j ≢ n
    → scope_at (put_in cs n x v) j ≡ scope_at cs j
scope_other cs n j x v ne =
    get_or-set_other cs n j (record (scope_at cs n) { variables = put_value (scope_at cs n).variables x v }) no_scope ne

-- an assignment on both sides
pub put_alike : (h : Site) (cs : List Scope) (l : List Registers) (x : Local) (v : Value) → Static h → Same h cs l
    → Known h x → register h x < (body_at h.program h.body).registers
    → Same h (put_in cs h.list x v) (put l h.list (register h x) (V v))
put_alike h cs l x v static s k within =
    let now = scope_put cs h.list x v s.scope in
    let old = (scope_at cs h.list).variables in
    record {
      scope = omega (
        arith,
        s.scope,
        length-set cs h.list
            (record (scope_at cs h.list) { variables = put_value old x v }),
      );
      mirrors = subst (Mirrors h) (sym now) (mirrors_put h (scope_at cs h.list) x v k s.mirrors);
      present = omega (arith, s.present, length_put l h.list (register h x) (V v));
      long = ap (λ (g : Registers). length g.slots) (list_same l h.list (register h x) (V v) s.present)
          ∙ length-set (list_at l h.list).slots (register h x) (V v) ∙ s.long;
      self = ap read (slot_other l h.list (register h x) 0 (V v) s.present (omega (arith, k.behind_self))) ∙ s.self;
      alike = λ y known.
          ap (λ (c : Scope). unwrap_or (value_in c.variables y) Nil) now
          ∙ at y known (same_local y x) refl;
    }
  where
    at : (y : Local) → Known h y → (b : Bool) → same_local y x ≡ b
        → unwrap_or (value_in (put_value (scope_at cs h.list).variables x v) y) Nil
        ≡ value_at (put l h.list (register h x) (V v)) h.list (register h y)
    at y known true e =
        let is : y ≡ x = sym (is_same y x e) in
        ap (λ (z : Local). unwrap_or (value_in (put_value (scope_at cs h.list).variables x v) z) Nil) is
        ∙ ap (λ (o : Option Value). unwrap_or o Nil) (value_same (scope_at cs h.list).variables x v)
        ∙ sym (ap read (slot_same l h.list (register h x) (V v) s.present (omega (arith, s.long, within))))
        ∙ ap (λ (z : Local). value_at (put l h.list (register h x) (V v)) h.list (register h z)) (sym is)
    at y known false e =
        ap (λ (o : Option Value). unwrap_or o Nil) (value_other (scope_at cs h.list).variables x y v e)
        ∙ s.alike y known
        ∙ sym (ap read (slot_other l h.list (register h x) (register h y) (V v) s.present (static.apart y x known k e)))

-- the scope of the body is that in which a local is assigned
pub assigned : (h : Site) (m : Memory) (x : Local) (v : Value) → m.place ≡ place_in h → Known h x
    → Mirrors h (scope_at m.scopes h.list) → (with_variable m x v).scopes ≡ put_in m.scopes h.list x v
unfolding with_variable
assigned h m x v there k mirrors =
    ap (λ (n : ℕ). put_in m.scopes n x v) (scope_is h m x (ap (λ (p : Place). p.scope) there) k mirrors)
