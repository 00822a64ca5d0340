-- A step of a walk along the elements of nested Arrays.
use Rattle.std.proofs.Common.{◌≡◌, ℕ, zero, suc, ◌+◌, ◌-◌, ◌<◌, ◌≤◌, List, [], ◌∷◌, ◌++◌, length, drop, get_or, refl, ap, sym, ◌∙◌, subst, arith, append-nil}
use Rattle.std.specs.Prelude.{Option, Some, None}
use Rattle.rb_value.specs.declared.value.Value.{Value}
use Rattle.rb_value.specs.declared.value.Value.TheVariants.{Nil}
use Rattle.rb_value.specs.declared.value.ObjId.{ObjId}
use Rattle.rb_value.specs.declared.key.KeyPart.{KeyPart}
use Rattle.rb_value.specs.declared.key.KeyPart.TheVariants as part
use Rattle.rb_value.specs.Object.{Object}
use Rattle.def_core.specs.Bind.{elements_in}
use Rattle.def_core.specs.Parts.{elements_at}
use Rattle.def_core.specs.Sound.{Census, Is, Array, AllAre, SoundPart}
use Rattle.def_core.proofs.PartsSound.{all_more}
use Rattle.def_calls.specs.Views.{string_of, kind_in}
use Rattle.def_calls.specs.Values.{joined, all_parts, parts_of, array_part, text_part}
use Rattle.run_values.specs.declared.key_parts.Level.{Level}
use Rattle.run_values.specs.declared.key_parts.Walk.{Walk}
use Rattle.run_values.specs.declared.key_parts.Step.{Step}
use Rattle.run_values.specs.declared.key_parts.Step.TheVariants.{On, End, TooDeep}
use Rattle.run_values.specs.Levels.{parts_within, rest_of, around, nested_steps, steps_of, level_steps, steps_around, whole, steps, IsLevel, IsWalk, Leaves, Comes}
use Rattle.run_values.proofs.Joining.{joined_left, joined_assoc, around_last, steps_last, last_is, next_parts, next_steps, no_parts, no_steps}

-- what is left is joined to more that was passed
pub passed : (ps qs : List KeyPart) (x : Option (List KeyPart))
    → joined (Some (ps ++ qs)) x ≡ joined (Some ps) (joined (Some qs) x)
passed ps qs x = joined_assoc (Some ps) (Some qs) x

-- with so many levels below, an element is what it is with one more around it
pub within_suc : (n : ℕ) (objects : List Object) (v : Value)
    → parts_within (suc n) objects v ≡ array_part objects v (parts_within n objects) (elements_in objects v)
unfolding parts_of
within_suc zero objects v = refl
within_suc (suc n) objects v = refl

pub within_below : (n : ℕ) (objects : List Object) (v : Value) → 0 < n
    → parts_within n objects v ≡ array_part objects v (parts_within (n - 1) objects) (elements_in objects v)
within_below zero objects v h = absurd (omega (arith, h))
within_below (suc n) objects v h = let e : suc n - 1 ≡ n = omega arith in rw e (within_suc n objects v)

pub steps_below : (n : ℕ) (objects : List Object) (v : Value) → 0 < n
    → steps_of n objects v ≡ nested_steps (steps_of (n - 1) objects) (elements_in objects v)
unfolding steps_of
steps_below zero objects v h = absurd (omega (arith, h))
steps_below (suc n) objects v h = let e : suc n - 1 ≡ n = omega arith in rw e refl

module _ (objects : List Object) where
  -- the parts that were passed, a level, and those around it
  abbrev pub together : List KeyPart → Level → List Level → Option (List KeyPart)
  together ps l ar = joined (Some ps) (joined (rest_of objects l) (around objects ar))

  -- a value that comes before the rest of the level
  abbrev pub before_rest : List KeyPart → Option (List KeyPart) → Level → List Level → Option (List KeyPart)
  before_rest ps x l ar = joined (Some ps) (joined x (joined (rest_of objects l) (around objects ar)))

  abbrev pub inner : ObjId → Level → Level
  inner id l = record { id = id; at = 0; below = l.below - 1 }

  -- an Array is passed by its head, and its elements come next
  pub nested_whole : (ps : List KeyPart) (l : Level) (ar : List Level) (v : Value) (id : ObjId) → 0 < l.below
      → elements_in objects v ≡ Some (elements_at objects id)
      → together (ps ++ part.Array (length (elements_at objects id)) ∷ []) (inner id l) (ar ++ l ∷ [])
      ≡ before_rest ps (parts_within l.below objects v) l ar
  nested_whole ps l ar v id h e =
      let head : List KeyPart = part.Array (length (elements_at objects id)) ∷ [] in
      let more : Option (List KeyPart) = rest_of objects (inner id l) in
      let last : Option (List KeyPart) = joined (rest_of objects l) (around objects ar) in
      passed ps head (joined more (around objects (ar ++ l ∷ [])))
      ∙ ap (λ (x : Option (List KeyPart)). joined (Some ps) (joined (Some head) (joined more x)))
      (around_last objects ar l)
      ∙ ap (joined (Some ps)) (sym (joined_assoc (Some head) more last))
      ∙ ap (λ (x : Option (List Value)). joined (Some ps)
      (joined (array_part objects v (parts_within (l.below - 1) objects) x) last)) (sym e)
      ∙ ap (λ (x : Option (List KeyPart)). joined (Some ps) (joined x last)) (sym (within_below l.below objects v h))

  pub nested_left : (l : Level) (ar : List Level) (v : Value) (id : ObjId) → 0 < l.below
      → elements_in objects v ≡ Some (elements_at objects id)
      → level_steps objects (inner id l) + steps_around objects (ar ++ l ∷ [])
      ≡ steps_of l.below objects v + (level_steps objects l + steps_around objects ar)
  nested_left l ar v id h e =
      ap (λ (n : ℕ). level_steps objects (inner id l) + n) (steps_last objects ar l)
      ∙ ap (λ (x : Option (List Value)). nested_steps (steps_of (l.below - 1) objects) x
      + (level_steps objects l + steps_around objects ar)) (sym e)
      ∙ ap (λ (n : ℕ). n + (level_steps objects l + steps_around objects ar)) (sym (steps_below l.below objects v h))

  -- any other value is passed whole
  pub plain_whole : (ps : List KeyPart) (l : Level) (ar : List Level) (v : Value) (p : KeyPart) → 0 < l.below
      → elements_in objects v ≡ None → Some (p ∷ []) ≡ text_part v (string_of (kind_in objects v))
      → together (ps ++ p ∷ []) l ar ≡ before_rest ps (parts_within l.below objects v) l ar
  plain_whole ps l ar v p h e is =
      let last : Option (List KeyPart) = joined (rest_of objects l) (around objects ar) in
      passed ps (p ∷ []) last
      ∙ ap (λ (x : Option (List KeyPart)). joined (Some ps) (joined x last))
      (is ∙ ap (array_part objects v (parts_within (l.below - 1) objects)) (sym e)
      ∙ sym (within_below l.below objects v h))

  pub plain_left : (l : Level) (v : Value) (n : ℕ) → 0 < l.below → elements_in objects v ≡ None
      → n ≡ steps_of l.below objects v + n
  plain_left l v n h e =
      let s : steps_of l.below objects v ≡ 0 =
      steps_below l.below objects v h ∙ ap (nested_steps (steps_of (l.below - 1) objects)) e in
      omega (arith, s)

  -- an Array was entered
  module _ (w v : Walk) (x : Value) (id : ObjId) (n : ℕ) (below : 0 < w.level.below)
      (is : elements_in objects x ≡ Some (elements_at objects id)) (e : n ≡ length (elements_at objects id))
      (parts : v.parts.items ≡ w.parts.items ++ part.Array n ∷ []) (level : v.level ≡ inner id w.level)
      (outer : v.around.items ≡ w.around.items ++ w.level ∷ []) where
    pub entered_whole : whole objects v
        ≡ before_rest w.parts.items (parts_within w.level.below objects x) w.level w.around.items
    entered_whole =
        ap (λ (ps : List KeyPart). together ps v.level v.around.items)
        (parts ∙ ap (λ (m : ℕ). w.parts.items ++ part.Array m ∷ []) e)
        ∙ ap (λ (l : Level). together (w.parts.items ++ part.Array (length
        (elements_at objects id)) ∷ []) l v.around.items) level
        ∙ ap (together (w.parts.items ++ part.Array (length (elements_at objects id)) ∷ []) (inner id w.level)) outer
        ∙ nested_whole w.parts.items w.level w.around.items x id below is

    pub entered_left : steps objects v ≡ steps_of w.level.below objects x + steps objects w
    entered_left =
        ap (λ (l : Level). level_steps objects l + steps_around objects v.around.items) level
        ∙ ap (λ (ar : List Level). level_steps objects (inner id w.level) + steps_around objects ar) outer
        ∙ nested_left w.level w.around.items x id below is

    pub entered_walk : (k : Census) → IsWalk k w → Is k Array id → IsWalk k v
    entered_walk k walk array = record {
      parts = subst (AllAre (SoundPart k)) (sym parts)
          (all_more (SoundPart k) w.parts.items (part.Array n ∷ []) walk.parts (tt, tt));
      level = subst (IsLevel k) (sym level) array;
      around = subst (AllAre (IsLevel k)) (sym outer)
          (all_more (IsLevel k) w.around.items (w.level ∷ []) walk.around (walk.level, tt));
    }

  -- a part was put after the others
  module _ (w v : Walk) (x : Value) (p : KeyPart) (below : 0 < w.level.below) (is : elements_in objects x ≡ None)
      (e : Some (p ∷ []) ≡ text_part x (string_of (kind_in objects x)))
      (parts : v.parts.items ≡ w.parts.items ++ p ∷ []) (level : v.level ≡ w.level)
      (outer : v.around.items ≡ w.around.items) where
    pub put_whole : whole objects v
        ≡ before_rest w.parts.items (parts_within w.level.below objects x) w.level w.around.items
    put_whole =
        ap (λ (ps : List KeyPart). together ps v.level v.around.items) parts
        ∙ ap (λ (l : Level). together (w.parts.items ++ p ∷ []) l v.around.items) level
        ∙ ap (together (w.parts.items ++ p ∷ []) w.level) outer
        ∙ plain_whole w.parts.items w.level w.around.items x p below is e

    pub put_left : steps objects v ≡ steps_of w.level.below objects x + steps objects w
    put_left =
        ap (λ (l : Level). level_steps objects l + steps_around objects v.around.items) level
        ∙ ap (λ (ar : List Level). level_steps objects w.level + steps_around objects ar) outer
        ∙ plain_left w.level x (steps objects w) below is

    pub put_walk : (k : Census) → IsWalk k w → SoundPart k p → IsWalk k v
    put_walk k walk right = record {
      parts = subst (AllAre (SoundPart k)) (sym parts)
          (all_more (SoundPart k) w.parts.items (p ∷ []) walk.parts (right, tt));
      level = subst (IsLevel k) (sym level) walk.level;
      around = subst (AllAre (IsLevel k)) (sym outer) walk.around;
    }

  -- where a level is at its end, the one around it comes next
  pub left_comes : (s : Step) (w v : Walk) → length (elements_at objects w.level.id) ≤ w.level.at → Leaves s w v
      → Comes objects s w v
  left_comes On w v h left =
      let none = no_parts (parts_within w.level.below objects) (elements_at objects w.level.id) w.level.at h in
      let one = no_steps (steps_of w.level.below objects) (elements_at objects w.level.id) w.level.at h in
      let now : around objects w.around.items ≡ joined (rest_of objects v.level) (around objects v.around.items) =
      ap (around objects) left.0 ∙ around_last objects v.around.items v.level in
      let more : steps_around objects w.around.items ≡ level_steps objects v.level + steps_around objects
      v.around.items =
      ap (steps_around objects) left.0 ∙ steps_last objects v.around.items v.level in (
        ap (λ (ps : List KeyPart). together ps v.level v.around.items) left.1
            ∙ ap (joined (Some w.parts.items)) (sym now)
            ∙ ap (joined (Some w.parts.items)) (sym (joined_left (around objects w.around.items)))
            ∙ ap (λ (x : Option (List KeyPart)). joined (Some w.parts.items) (joined x
            (around objects w.around.items))) (sym none),
        omega (arith, one, more),
      )
  left_comes End w v h left =
      let none = no_parts (parts_within w.level.below objects) (elements_at objects w.level.id) w.level.at h in
      ap (λ (x : Option (List KeyPart)). joined (Some w.parts.items) (joined x (around objects w.around.items))) none
      ∙ ap (λ (ar : List Level). joined (Some w.parts.items) (joined (Some []) (around objects ar))) left.0
      ∙ ap (λ (ps : List KeyPart). Some ps) (append-nil w.parts.items ∙ sym left.3)
  left_comes TooDeep w v h left = absurd left

  pub left_walk : (k : Census) (s : Step) (w v : Walk) → IsWalk k w → Leaves s w v → IsWalk k v
  left_walk k On w v walk left =
      let both = last_is (IsLevel k) v.around.items v.level (subst (AllAre (IsLevel k)) left.0 walk.around) in
      record { parts = subst (AllAre (SoundPart k)) (sym left.1) walk.parts; level = both.1; around = both.0 }
  left_walk k End w v walk left = record {
    parts = subst (AllAre (SoundPart k)) (sym left.3) walk.parts;
    level = subst (IsLevel k) (sym left.2) walk.level;
    around = subst (AllAre (IsLevel k)) (sym left.1) tt;
  }
  left_walk k TooDeep w v walk left = absurd left

  -- no element may be left where there are no levels
  pub deep_comes : (w v : Walk) → w.level.at < length (elements_at objects w.level.id) → w.level.below ≡ 0
      → Comes objects TooDeep w v
  deep_comes w v h e =
      let next = next_parts (parts_within w.level.below objects) (elements_at objects w.level.id) w.level.at h in
      let x : Value = get_or (elements_at objects w.level.id) w.level.at Nil in
      ap (λ (y : Option (List KeyPart)). joined (Some w.parts.items) (joined y (around objects w.around.items)))
      (next ∙ ap (λ (n : ℕ). joined (parts_within n objects x) (all_parts (parts_within w.level.below objects)
      (drop (w.level.at + 1) (elements_at objects w.level.id)))) e)

  -- an element was passed
  pub passed_comes : (w u v : Walk) (x : Value) → w.level.at < length (elements_at objects w.level.id)
      → x ≡ get_or (elements_at objects w.level.id) w.level.at Nil
      → u ≡ record w { level = record w.level { at = w.level.at + 1 } }
      → whole objects v ≡ before_rest u.parts.items (parts_within u.level.below objects x) u.level u.around.items
      → steps objects v ≡ steps_of u.level.below objects x + steps objects u → Comes objects On w v
  passed_comes w u v x h is e same less =
      let l : Level = record w.level { at = w.level.at + 1 } in
      let f = parts_within w.level.below objects in
      let next : rest_of objects w.level ≡ joined (f x) (rest_of objects l) =
      next_parts f (elements_at objects w.level.id) w.level.at h
      ∙ ap (λ (y : Value). joined (f y) (rest_of objects l)) (sym is) in
      let fewer : level_steps objects w.level ≡ suc (steps_of w.level.below objects x) + level_steps objects l =
      next_steps (steps_of w.level.below objects) (elements_at objects w.level.id) w.level.at h
      ∙ ap (λ (y : Value). suc (steps_of w.level.below objects y) + level_steps objects l) (sym is) in
      let count : steps objects v ≡ steps_of w.level.below objects x +
      (level_steps objects l + steps_around objects w.around.items) =
      less ∙ ap (λ (y : Walk). steps_of y.level.below objects x + steps objects y) e in (
        same
            ∙ ap (λ (y : Walk). before_rest y.parts.items (parts_within y.level.below objects x) y.level
            y.around.items) e
            ∙ ap (joined (Some w.parts.items)) (sym (joined_assoc (f x) (rest_of objects l)
            (around objects w.around.items)))
            ∙ ap (λ (y : Option (List KeyPart)). joined (Some w.parts.items) (joined y
            (around objects w.around.items))) (sym next),
        omega (arith, count, fewer),
      )

pub next_walk : (k : Census) (w u : Walk) → IsWalk k w
    → u ≡ record w { level = record w.level { at = w.level.at + 1 } } → IsWalk k u
next_walk k w u walk e =
    subst (IsWalk k) (sym e) (record { parts = walk.parts; level = walk.level; around = walk.around })
