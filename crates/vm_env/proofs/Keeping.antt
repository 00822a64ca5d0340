-- All environments.
use Rattle.std.proofs.Common.{◌≡◌, ◌≢◌, ◌⊎◌, ℕ, ◌+◌, ◌^◌, ◌<◌, ◌≤◌, List, [], ◌∷◌, ◌++◌, length, get_or, set, map, Bool, true, false, refl, ap, sym, ◌∙◌, subst, arith, inl, inr}
use Rattle.std.specs.Prelude.{Some, slice_get, All, if◌then◌else◌}
use Rattle.std.proofs.lemmas.Option.{slice_get-get_or}
use Rattle.std.proofs.lemmas.Bool.{cases_lt, cases_eq}
use Rattle.std.proofs.lemmas.List.{map-set, map_push, length-map, length-set, length_push, set_past, get_or-map, get_or_past, get_or_push, get_or_append_left, get_or_default, get_or-set_same, get_or-set_other}
use Rattle.std.proofs.lemmas.List.Elements.{All-push, All-set}
use Rattle.rb_value.specs.declared.value.Value.{Value}
use Rattle.stack_bank.specs.Bank.{Bank, IsLive, slots, with_slot}
use Rattle.stack_bank.proofs.Staying.{live_set}
use Rattle.vm_env.specs.declared.envs.Env.{Env as Stored}
use Rattle.vm_env.specs.Env.{Env, Open, Closed, contents, env, Lies, IsOpen, MeetsNot, MeetsNone, Writes, WritesAt, WritesOne, closed}
use Rattle.vm_env.specs.Inside.{Kept, kept, seen, IsWhole, Apart, IsSound}
use Rattle.vm_env.proofs.Windows.{window, slots_here, slots_other, contents_here, contents_other, window_bound, window_value}

-- ---- the environment of a number

pub record IsKept (ks : List Kept) (e : ℕ) (k : Kept) : Type 0 where
  pub within : e < length ks
  pub whole : IsWhole k
  pub is : env (map seen ks) e ≡ seen k

pub kept_at : (items : List Stored) (e : ℕ) (x : Stored) → IsSound (map kept items)
    → e < length (map seen (map kept items)) → x ≡ get_or items e x → IsKept (map kept items) e (kept x)
kept_at items e x sound there is =
    let in_ks : e < length (map kept items) = omega (arith, length-map (map kept items) seen) in
    let in_items : e < length items = omega (arith, length-map items kept) in
    let at : get_or (map kept items) e (kept x) ≡ kept x = get_or-map kept items e x (kept x) in_items
    ∙ sym (ap kept is) in
    record {
      within = in_ks;
      whole = subst IsWhole at (sound.whole e (kept x) in_ks);
      is = get_or-map seen (map kept items) e (kept x) (Closed []) in_ks ∙ ap seen at;
    }

pub seen_open : (k : Kept) → k.open_now ≡ true → seen k ≡ Open k.stack k.base k.size
seen_open k is = rw is refl

pub seen_closed : (k : Kept) → k.open_now ≡ false → seen k ≡ Closed k.values
seen_closed k is = rw is refl

open_now : (k : Kept) → IsOpen (seen k) → k.open_now ≡ true
open_now k open_k = elim (k.open_now) as (λ t. IsOpen (if t then Open k.stack k.base k.size else Closed k.values)
    → t ≡ true) [
      | true ↦ λ _. refl
      | false ↦ λ none. absurd none
    ] open_k

pub is_open : (ks : List Kept) (e : ℕ) (k : Kept) → IsKept ks e k → IsOpen (env (map seen ks) e) → k.open_now ≡ true
is_open ks e k at open_k = open_now k (subst IsOpen at.is open_k)

-- ---- a capture

apart_sym : (d : Env) (stack base n : ℕ) → MeetsNot d stack base n → Apart d (Open stack base n)
apart_sym (Open other from count) stack base n apart = λ same i j in_i in_j eq. apart (sym same) j i in_j in_i (sym eq)
apart_sym (Closed values) stack base n apart = tt

env_pushed : (es : List Env) (x : Env) (e : ℕ) → e ≢ length es → env (es ++ x ∷ []) e ≡ env es e
env_pushed es x e differs = elim (cases_lt e (length es)) as (λ _. env (es ++ x ∷ []) e ≡ env es e) [
  | inl below ↦ get_or_append_left es (x ∷ []) (Closed []) e below
  | inr above ↦ get_or_past (es ++ x ∷ []) e (Closed []) (omega (arith, length_push es x))
      ∙ sym (get_or_past es e (Closed []) above)
]

captures : (es : List Env) (stack base n : ℕ) → MeetsNone es stack base n
    → ((d e : ℕ) → d ≢ e → Apart (env es d) (env es e)) → (d e : ℕ) → d ≢ e
    → Apart (env (es ++ Open stack base n ∷ []) d) (env (es ++ Open stack base n ∷ []) e)
captures es stack base n none apart d e differs =
    let x : Env = Open stack base n in
    let last : (k : ℕ) → k ≡ length es → env (es ++ x ∷ []) k ≡ x =
    λ k same. get_or_push es x (Closed []) k (sym same) in
    elim (cases_eq d (length es)) as (λ _. Apart (env (es ++ x ∷ []) d) (env (es ++ x ∷ []) e)) [
      | inl d_last ↦
          let e_other : e ≢ length es = λ same. differs (d_last ∙ sym same) in
          rw (last d d_last, env_pushed es x e e_other) (none e)
      | inr d_other ↦ elim (cases_eq e (length es)) as (λ _. Apart (env (es ++ x ∷ []) d) (env (es ++ x ∷ []) e)) [
        | inl e_last ↦ rw (last e e_last, env_pushed es x d d_other) (apart_sym (env es d) stack base n (none d))
        | inr e_other ↦ rw (env_pushed es x d d_other, env_pushed es x e e_other) (apart d e differs)
      ]
    ]

pub captured_sound : (items after : List Stored) (x : Stored) → after ≡ items ++ x ∷ [] → IsWhole (kept x)
    → x.«open» ≡ true → MeetsNone (map seen (map kept items)) x.stack.0 x.base x.size → IsSound (map kept items)
    → IsSound (map kept after)
captured_sound items after x pushed whole is none sound =
    let ks : List Kept = map kept items in
    let now : map kept after ≡ ks ++ kept x ∷ [] = ap (map kept) pushed ∙ map_push kept items x in
    let envs : map seen (ks ++ kept x ∷ []) ≡ map seen ks ++ Open x.stack.0 x.base x.size ∷ [] =
    map_push seen ks (kept x) ∙ ap (λ y. map seen ks ++ y ∷ []) (seen_open (kept x) is) in
    rw now (record {
      whole = All-push IsWhole ks (kept x) sound.whole whole;
      apart = λ d e differs. rw envs (captures (map seen ks) x.stack.0 x.base x.size none sound.apart d e differs);
    })

-- ---- an environment that is closed then

apart_closed : (d : Env) (values : List Value) → Apart d (Closed values)
apart_closed (Open stack base n) values = tt
apart_closed (Closed others) values = tt

pub closed_sound : (ks : List Kept) (e : ℕ) (k : Kept) → IsSound ks → e < length ks → IsWhole k → k.open_now ≡ false
    → IsSound (set ks e k)
closed_sound ks e k sound within whole is =
    let es : List Env = map seen ks in
    let x : Env = Closed k.values in
    let envs : map seen (set ks e k) ≡ set es e x = map-set seen ks e k ∙ ap (set es e) (seen_closed k is) in
    let here : (d : ℕ) → d ≡ e → env (set es e x) d ≡ x = λ d same. ap (env (set es e x)) same
    ∙ get_or-set_same es e x (Closed []) (omega (arith, length-map ks seen)) in
    let other : (d : ℕ) → d ≢ e → env (set es e x) d ≡ env es d =
    λ d differs. get_or-set_other es e d x (Closed []) differs in
    record {
      whole = All-set IsWhole ks e k whole sound.whole;
      apart = λ d f differs. rw envs (elim (cases_eq d e) as (λ _. Apart (env (set es e x) d) (env (set es e x) f)) [
        | inl d_is ↦ rw (here d d_is) tt
        | inr d_other ↦ elim (cases_eq f e) as (λ _. Apart (env (set es e x) d) (env (set es e x) f)) [
          | inl f_is ↦ rw (here f f_is) (apart_closed (env (set es e x) d) k.values)
          | inr f_other ↦ rw (other d d_other, other f f_other) (sound.apart d f differs)
        ]
      ]);
    }

pub closed_seen : (ks : List Kept) (e : ℕ) (k : Kept) → k.open_now ≡ false
    → map seen (set ks e k) ≡ set (map seen ks) e (Closed k.values)
closed_seen ks e k is = map-set seen ks e k ∙ ap (set (map seen ks) e) (seen_closed k is)

-- ---- a value is written

-- into a slot of the window
pub writes_slot : (ks : List Kept) (bank : Bank) (e i : ℕ) (k : Kept) (v : Value) → IsSound ks → IsKept ks e k
    → k.open_now ≡ true → IsLive bank k.stack → i < k.size
    → WritesOne (map seen ks) (map seen ks) bank (with_slot bank k.stack (k.base + i) v) e i v
writes_slot ks bank e i k v sound at is live within =
    let here : env (map seen ks) e ≡ Open k.stack k.base k.size = at.is ∙ seen_open k is in
    record {
      here = rw here (contents_here bank k.stack k.base k.size i v live within);
      others = λ d differs. contents_other bank (env (map seen ks) d) k.stack k.base k.size i v live within
          (subst (λ x. Apart x (env (map seen ks) d)) here (sound.apart e d (λ same. differs (sym same))));
    }

-- into room of its own
pub writes_room : (es : List Env) (bank : Bank) (e i : ℕ) (values : List Value) (v : Value) → e < length es
    → env es e ≡ Closed values → WritesOne es (set es e (Closed (set values i v))) bank bank e i v
writes_room es bank e i values v within is = record {
  here = rw (is, get_or-set_same es e (Closed (set values i v)) (Closed []) within) refl;
  others = λ d differs. ap (contents bank) (get_or-set_other es e d (Closed (set values i v)) (Closed []) differs);
}

-- ---- what an open environment has

pub record OpenAt (bank : Bank) (i : ℕ) (k : Kept) : Type 0 where
  pub live : IsLive bank k.stack
  pub lies : k.base + k.size ≤ length (slots bank k.stack)
  pub within : i < k.size

pub lies_open : (ks : List Kept) (bank : Bank) (e : ℕ) (k : Kept) → IsKept ks e k → k.open_now ≡ true
    → Lies bank (env (map seen ks) e) → IsLive bank k.stack × (k.base + k.size ≤ length (slots bank k.stack))
lies_open ks bank e k at is lies = subst (Lies bank) (at.is ∙ seen_open k is) lies

pub open_at : (ks : List Kept) (bank : Bank) (e i : ℕ) (k : Kept) → IsKept ks e k → k.open_now ≡ true
    → Lies bank (env (map seen ks) e) → i < length (contents bank (env (map seen ks) e)) → OpenAt bank i k
open_at ks bank e i k at is lies within =
    let here = lies_open ks bank e k at is lies in
    record {
      live = here.0;
      lies = here.1;
      within = window_bound k.base k.size i (slots bank k.stack)
          (subst (λ x. i < length (contents bank x)) (at.is ∙ seen_open k is) within);
    }

pub closed_at : (ks : List Kept) (bank : Bank) (e i : ℕ) (k : Kept) → IsKept ks e k → k.open_now ≡ false
    → i < length (contents bank (env (map seen ks) e)) → i < length k.values
closed_at ks bank e i k at is within = subst (λ x. i < length (contents bank x)) (at.is ∙ seen_closed k is) within

-- ---- a value is read

pub value_open : (ks : List Kept) (bank : Bank) (e i : ℕ) (k : Kept) (v : Value) → IsKept ks e k
    → k.open_now ≡ true → OpenAt bank i k → slice_get (slots bank k.stack) (k.base + i) ≡ Some v
    → slice_get (contents bank (env (map seen ks) e)) i ≡ Some v
value_open ks bank e i k v at is o slot =
    rw (at.is ∙ seen_open k is) (window_value k.base k.size i (slots bank k.stack) v o.lies o.within slot)

pub value_closed : (ks : List Kept) (bank : Bank) (e i : ℕ) (k : Kept) (v : Value) → IsKept ks e k → k.open_now ≡ false
    → i < length k.values → v ≡ get_or k.values i v → slice_get (contents bank (env (map seen ks) e)) i ≡ Some v
value_closed ks bank e i k v at is within value =
    rw (at.is ∙ seen_closed k is) (slice_get-get_or k.values i v within ∙ ap Some (sym value))

-- ---- where a value is written

pub places_slot : (ks : List Kept) (bank after : Bank) (e i : ℕ) (k : Kept) (v : Value) → IsKept ks e k
    → k.open_now ≡ true → after ≡ with_slot bank k.stack (k.base + i) v
    → Writes (map seen ks) (map seen ks) bank after e i v
places_slot ks bank after e i k v at is written =
    subst (λ x. WritesAt x (map seen ks) (map seen ks) bank after e i v) (sym (at.is ∙ seen_open k is)) (refl, written)

pub one_slot : (ks : List Kept) (bank after : Bank) (e i : ℕ) (k : Kept) (v : Value) → IsSound ks → IsKept ks e k
    → k.open_now ≡ true → OpenAt bank i k → after ≡ with_slot bank k.stack (k.base + i) v
    → WritesOne (map seen ks) (map seen ks) bank after e i v
one_slot ks bank after e i k v sound at is o written =
    rw written (writes_slot ks bank e i k v sound at is o.live o.within)

-- the entry with one value written
pub record InRoom (ks : List Kept) (bank : Bank) (e i : ℕ) (k : Kept) (v : Value) : Type 0 where
  pub sound : IsSound (set ks e k)
  pub place : Writes (map seen ks) (map seen (set ks e k)) bank bank e i v
  pub one : WritesOne (map seen ks) (map seen (set ks e k)) bank bank e i v

pub in_room : (ks : List Kept) (bank : Bank) (e i : ℕ) (k after : Kept) (v : Value) → IsSound ks → IsKept ks e k
    → k.open_now ≡ false → after.open_now ≡ false → after.base + after.size < 2 ^ 64 → after.values ≡ set k.values i v
    → InRoom ks bank e i after v
in_room ks bank e i k after v sound at is is_after fits values =
    let now : map seen (set ks e after) ≡ set (map seen ks) e (Closed (set k.values i v)) =
    closed_seen ks e after is_after ∙ ap (λ xs. set (map seen ks) e (Closed xs)) values in
    let here : env (map seen ks) e ≡ Closed k.values = at.is ∙ seen_closed k is in
    record {
      sound = closed_sound ks e after sound at.within
          (record {
            fits = fits;
            empty = λ yes_open. cc (yes_open, is_after);
            room =
                λ yes_open. cc (yes_open, is_after);
          }) is_after;
      place = subst (λ x. WritesAt x (map seen ks) (map seen (set ks e after)) bank bank e i v) (sym here) (now, refl);
      one = rw now (writes_room (map seen ks) bank e i k.values v (omega (arith, length-map ks seen, at.within)) here);
    }

-- ---- an environment is closed

pub open_there : (es : List Env) (e : ℕ) → IsOpen (env es e) → e < length es
open_there es e open_e = elim (cases_lt e (length es)) as (λ _. e < length es) [
  | inl below ↦ below
  | inr past ↦ absurd (subst IsOpen (get_or_past es e (Closed []) past) open_e)
]

pub record Closes (ks : List Kept) (bank : Bank) (e : ℕ) (k : Kept) : Type 0 where
  pub sound : IsSound (set ks e k)
  pub seen_as : map seen (set ks e k) ≡ closed (map seen ks) bank e
  pub same : contents bank (env (map seen (set ks e k)) e) ≡ contents bank (env (map seen ks) e)

pub closes : (ks : List Kept) (bank : Bank) (e : ℕ) (k after : Kept) → IsSound ks → IsKept ks e k → k.open_now ≡ true
    → after.open_now ≡ false → after.base + after.size < 2 ^ 64 → after.values ≡ k.values
    ++ window k.base k.size (slots bank k.stack) → Closes ks bank e after
closes ks bank e k after sound at is is_after fits copied =
    let here : env (map seen ks) e ≡ Open k.stack k.base k.size = at.is ∙ seen_open k is in
    let values : after.values ≡ contents bank (env (map seen ks) e) = copied
    ∙ (ap (λ xs. xs ++ window k.base k.size (slots bank k.stack)) (at.whole.empty is)
    ∙ ap (contents bank) (sym here)) in
    let now : map seen (set ks e after) ≡ closed (map seen ks) bank e = closed_seen ks e after is_after
    ∙ ap (λ xs. set (map seen ks) e (Closed xs)) values in
    record {
      sound = closed_sound ks e after sound at.within
          (record {
            fits = fits;
            empty = λ yes_open. cc (yes_open, is_after);
            room =
                λ yes_open. cc (yes_open, is_after);
          }) is_after;
      seen_as = now;
      same = rw (
        now,
        get_or-set_same (map seen ks) e (Closed (contents bank (env (map seen ks) e))) (Closed [])
            (omega (arith, length-map ks seen, at.within)),
      ) refl;
    }

-- two reads of one entry give the same
pub same_entry : (items : List Stored) (e : ℕ) (x y : Stored) → x ≡ get_or items e x → y ≡ get_or items e y
    → e < length (map seen (map kept items)) → y ≡ x
same_entry items e x y x_is y_is there =
    let within : e < length items = omega (arith, length-map (map kept items) seen, length-map items kept) in
    y_is ∙ (get_or_default items e y x within ∙ sym x_is)

-- ---- what a write keeps

slots_kept : (bank : Bank) (id p k : ℕ) (v : Value) → IsLive bank k → IsLive (with_slot bank id p v) k
    × (length (slots (with_slot bank id p v) k) ≡ length (slots bank k))
slots_kept bank id p k v live = elim (cases_eq k id) as
    (λ _. IsLive (with_slot bank id p v) k × (length (slots (with_slot bank id p v) k) ≡ length (slots bank k))) [
      | inl same ↦
          let here : slots (with_slot bank id p v) id ≡ set (slots bank id) p v =
          slots_here bank id p v (subst (IsLive bank) same live) in (
            live_set bank.stacks id k (set (slots bank id) p v) live,
            ap (λ n. length (slots (with_slot bank id p v) n)) same
                ∙ (ap length here ∙ (length-set (slots bank id) p v ∙ ap (λ n. length (slots bank n)) (sym same))),
          )
      | inr differs ↦ (
        live_set bank.stacks id k (set (slots bank id) p v) live,
        ap length (slots_other bank id k p v differs),
      )
    ]

lies_kept : (bank : Bank) (id p : ℕ) (v : Value) (x : Env) → Lies bank x → Lies (with_slot bank id p v) x
lies_kept bank id p v (Open stack base n) lies =
    let kept = slots_kept bank id p stack v lies.0 in
    (kept.0, rw kept.1 lies.1)
lies_kept bank id p v (Closed values) lies = tt

writes_lie : (x : Env) (old new : List Env) (bank after : Bank) (e i other : ℕ) (v : Value)
    → WritesAt x old new bank after e i v → Lies bank (env old other) → Lies after (env new other)
writes_lie (Open stack base n) old new bank after e i other v writes lies =
    rw (writes.0, writes.1) (lies_kept bank stack (base + i) v (env old other) lies)
writes_lie (Closed values) old new bank after e i other v writes lies =
    rw (writes.0, writes.1) (elim (cases_eq other e) as
    (λ _. Lies bank (env (set old e (Closed (set values i v))) other)) [
      | inl same ↦ elim (cases_lt e (length old)) as
          (λ _. Lies bank (env (set old e (Closed (set values i v))) other)) [
            | inl below ↦ rw (ap (env (set old e (Closed (set values i v)))) same
                ∙ get_or-set_same old e (Closed (set values i v)) (Closed []) below) tt
            | inr past ↦ rw (set_past old e (Closed (set values i v)) past) lies
          ]
      | inr differs ↦ rw (get_or-set_other old e other (Closed (set values i v)) (Closed []) differs) lies
    ])

-- windows lie within live stacks as before, and the lists have the lengths that they had
pub write_keeps_lies : (old new : List Env) (bank after : Bank) (e i other : ℕ) (v : Value)
    → Writes old new bank after e i v → Lies bank (env old other) → Lies after (env new other)
write_keeps_lies old new bank after e i other v writes lies =
    writes_lie (env old e) old new bank after e i other v writes lies

pub write_keeps_length : (old new : List Env) (bank after : Bank) (e i other : ℕ) (v : Value)
    → WritesOne old new bank after e i v → length (contents after (env new other)) ≡ length
    (contents bank (env old other))
write_keeps_length old new bank after e i other v one =
    elim (cases_eq other e) as (λ _. length (contents after (env new other)) ≡ length (contents bank (env old other))) [
      | inl same ↦ ap (λ n. length (contents after (env new n))) same
          ∙ (ap length one.here ∙ (length-set (contents bank (env old e)) i v
          ∙ ap (λ n. length (contents bank (env old n))) (sym same)))
      | inr differs ↦ ap length (one.others other differs)
    ]

writes_count : (x : Env) (old new : List Env) (bank after : Bank) (e i : ℕ) (v : Value)
    → WritesAt x old new bank after e i v → length new ≡ length old
writes_count (Open stack base n) old new bank after e i v writes = ap length writes.0
writes_count (Closed values) old new bank after e i v writes = ap length writes.0
    ∙ length-set old e (Closed (set values i v))

pub write_keeps_count : (old new : List Env) (bank after : Bank) (e i : ℕ) (v : Value) → Writes old new bank after e i v
    → length new ≡ length old
write_keeps_count old new bank after e i v writes = writes_count (env old e) old new bank after e i v writes
