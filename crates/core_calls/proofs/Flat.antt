-- The elements of nested Arrays, one more at a time.
use Rattle.std.proofs.Common.{◌≡◌, ℕ, zero, suc, ◌+◌, ◌-◌, ◌<◌, ◌≤◌, List, [], ◌∷◌, ◌++◌, length, get_or, drop, Ok, Err, true, false, IfOk, refl, ap, sym, ◌∙◌, subst, arith, add-one, append_assoc, append-nil, length-append, drop-cons}
use Rattle.std.proofs.lemmas.List.{drop_all}
use Rattle.std.proofs.lemmas.Bool.Decides.{nat_tests}
use Rattle.std.specs.Prelude.{Option, Some, None, Bool, nat_lt, Result}
use Rattle.std.specs.declared.alloc.AllocError.{AllocError}
use Rattle.rb_value.specs.declared.value.Value.{Value}
use Rattle.rb_value.specs.declared.value.ObjId.{ObjId}
use Rattle.rb_value.specs.Object.{Object}
use Rattle.def_core.specs.Parts.{elements_at}
use Rattle.def_calls.specs.Views.{an_array}
use Rattle.core_calls.specs.declared.flattening.Level.{Level}
use Rattle.core_calls.specs.declared.flattening.Walk.{Walk}
use Rattle.core_calls.specs.declared.flattening.Empty.{Empty}
use Rattle.core_calls.specs.declared.flattening.Empty.TheVariants.{Counts}
use Rattle.core_calls.specs.Flat.{joined, flat_each, kept, of_none, elements_by, too_deep, flat_by, flat, levels, rest_of, rests, left, before, told, within, total, turns_in, turns_by, turns, turns_within, turns_left, turns_of, Comes, Passes, Enters, PassesEmpty, Steps, Ends, Stands}

joined_assoc : (x y z : Option (List Value)) → joined (joined x y) z ≡ joined x (joined y z)
joined_assoc None y z = refl
joined_assoc (Some xs) None z = refl
joined_assoc (Some xs) (Some ys) None = refl
joined_assoc (Some xs) (Some ys) (Some zs) = ap Some (append_assoc xs ys zs)

joined_empty : (x : Option (List Value)) → joined (Some []) x ≡ x
joined_empty None = refl
joined_empty (Some xs) = refl

joined_last : (x : Option (List Value)) → joined x (Some []) ≡ x
joined_last None = refl
joined_last (Some xs) = ap Some (append-nil xs)

joined_none : (x : Option (List Value)) → joined x None ≡ None
joined_none None = refl
joined_none (Some xs) = refl

flat_is : (e : Empty) (n : ℕ) (objects : List Object) (v : Value)
    → flat e n objects v ≡ flat_by objects v (within e n objects v) (an_array objects v)
unfolding flat
flat_is e zero objects v = by_array e objects v (an_array objects v) where
  by_array : (e : Empty) (objects : List Object) (v : Value) (o : Option ObjId)
      → flat_by objects v (elements_by (of_none e zero v) too_deep) o ≡ flat_by objects v (within e zero objects v) o
  by_array e objects v None = refl
  by_array e objects v (Some a) = refl
flat_is e (suc n) objects v = by_array e n objects v (an_array objects v) where
  by_array : (e : Empty) (n : ℕ) (objects : List Object) (v : Value) (o : Option ObjId)
      → flat_by objects v (elements_by (of_none e (suc n) v) (flat_each (flat e n objects))) o
      ≡ flat_by objects v (within e (suc n) objects v) o
  by_array e n objects v None = refl
  by_array e n objects v (Some a) = refl

turns_is : (n : ℕ) (objects : List Object) (v : Value)
    → turns n objects v ≡ turns_by objects (turns_within n objects) (an_array objects v)
unfolding turns
turns_is zero objects v = by_array objects (an_array objects v) where
  by_array : (objects : List Object) (o : Option ObjId) → 0 ≡ turns_by objects (turns_within zero objects) o
  by_array objects None = refl
  by_array objects (Some a) = refl
turns_is (suc n) objects v = by_array n objects (an_array objects v) where
  by_array : (n : ℕ) (objects : List Object) (o : Option ObjId)
      → turns_by objects (turns_in (turns n objects)) o ≡ turns_by objects (turns_within (suc n) objects) o
  by_array n objects None = refl
  by_array n objects (Some a) = refl

-- lists by their places

empty : {A : Type 0} (xs : List A) → length xs ≡ 0 → xs ≡ []
empty [] e = refl
empty (x ∷ xs) e = absurd (omega (arith, e))

dropped : (xs : List Value) (n : ℕ) (d : Value) → n < length xs → drop n xs ≡ get_or xs n d ∷ drop (n + 1) xs
dropped xs n d h = rw (add-one, drop-cons xs n d h)

dropped_as : (xs ys : List Value) (n : ℕ) (d : Value) → xs ≡ ys → n < length xs
    → drop n ys ≡ get_or xs n d ∷ drop (n + 1) ys
dropped_as xs ys n d e h = ap (drop n) (sym e) ∙ dropped xs n d h
    ∙ ap (λ (zs : List Value). get_or xs n d ∷ drop (n + 1) zs) e

-- one level more

rests_more : (e : Empty) (n : ℕ) (objects : List Object) (ls : List Level) (l : Level)
    → rests e n objects (ls ++ l ∷ [])
    ≡ joined (flat_each (flat e (n - suc (length ls)) objects) (rest_of objects l)) (rests e n objects ls)
unfolding rests
rests_more e n objects [] l = joined_empty _ ∙ sym (joined_last _)
rests_more e n objects (k ∷ ks) l =
    let p : n - 1 - suc (length ks) ≡ n - suc (suc (length ks)) = omega arith in
    ap (λ (x : Option (List Value)). joined x (flat_each (flat e (n - 1) objects) (rest_of objects k)))
    (rests_more e (n - 1) objects ks l
    ∙ ap (λ (m : ℕ). joined (flat_each (flat e m objects) (rest_of objects l)) (rests e (n - 1) objects ks)) p)
    ∙ joined_assoc (flat_each (flat e (n - suc (suc (length ks))) objects) (rest_of objects l))
    (rests e (n - 1) objects ks) (flat_each (flat e (n - 1) objects) (rest_of objects k))

turns_more : (n : ℕ) (objects : List Object) (ls : List Level) (l : Level)
    → turns_left n objects (ls ++ l ∷ [])
    ≡ turns_left n objects ls + suc (total (turns (n - suc (length ls)) objects) (rest_of objects l))
unfolding turns_left
turns_more n objects [] l = omega arith
turns_more n objects (k ∷ ks) l =
    let e : n - 1 - suc (length ks) ≡ n - suc (suc (length ks)) = omega arith in
    let f : total (turns (n - 1 - suc (length ks)) objects) (rest_of objects l)
    ≡ total (turns (n - suc (suc (length ks))) objects) (rest_of objects l) =
    ap (λ (m : ℕ). total (turns m objects) (rest_of objects l)) e in
    omega (arith, f, turns_more (n - 1) objects ks l)

-- what comes of the values that were passed, and of the levels

told_as : (objects : List Object) (u : Walk) (e : Empty) (vs : List Value) (ls : List Level)
    → u.empty ≡ e → u.values.items ≡ vs → u.levels.items ≡ ls
    → told objects u ≡ joined (Some vs) (rests e levels objects ls)
told_as objects u e vs ls m f g =
    ap (λ (xs : List Value). joined (Some xs) (rests u.empty levels objects u.levels.items)) f
    ∙ ap (λ (xs : List Level). joined (Some vs) (rests u.empty levels objects xs)) g
    ∙ ap (λ (d : Empty). joined (Some vs) (rests d levels objects ls)) m

turns_as : (objects : List Object) (u : Walk) (ls : List Level) → u.levels.items ≡ ls
    → turns_of objects u ≡ turns_left levels objects ls
turns_as objects u ls e = ap (turns_left levels objects) e

-- a value is put behind the others

flat_at : (e : Empty) (n : ℕ) (objects : List Object) (v : Value) (o : Option ObjId) → o ≡ an_array objects v
    → flat e n objects v ≡ flat_by objects v (within e n objects v) o
flat_at e n objects v o p = flat_is e n objects v ∙ ap (flat_by objects v (within e n objects v)) (sym p)

turns_at : (n : ℕ) (objects : List Object) (v : Value) (o : Option ObjId) → o ≡ an_array objects v
    → turns n objects v ≡ turns_by objects (turns_within n objects) o
turns_at n objects v o e = turns_is n objects v ∙ ap (turns_by objects (turns_within n objects)) (sym e)

pub passes_value : (objects : List Object) (w u : Walk) (v : Value) → None ≡ an_array objects v
    → u.empty ≡ w.empty → u.values.items ≡ w.values.items ++ v ∷ [] → u.levels.items ≡ w.levels.items
    → Comes objects w (flat w.empty (left w) objects v) (turns (left w) objects v) u true
passes_value objects w u v n m e f =
    let a = turns_as objects u w.levels.items f in
    let b = turns_at (left w) objects v None n in (
      told_as objects u w.empty (w.values.items ++ v ∷ []) w.levels.items m e f
          ∙ joined_assoc (Some w.values.items) (Some (v ∷ [])) (rests w.empty levels objects w.levels.items)
          ∙ ap (before objects w) (sym (flat_at w.empty (left w) objects v None n)),
      omega (arith, a, b),
      m,
    )

passes_array : (objects : List Object) (w u : Walk) (v : Value) (a : ObjId) (whole : Bool)
    → Some a ≡ an_array objects v → Enters objects w v a u whole → Passes objects w v u whole
passes_array objects w u v a whole e h =
    subst (λ (n : ℕ). Comes objects w (flat w.empty (left w) objects v) n u whole)
    (sym (turns_at (left w) objects v (Some a) e))
    (subst (λ (o : Option (List Value)). Comes objects w o (turns_within (left w) objects (elements_at objects a)) u whole)
    (sym (flat_at w.empty (left w) objects v (Some a) e)) h)

pub passes_entered : (objects : List Object) (w u : Walk) (v : Value) (a : ObjId) (r : Result Bool AllocError)
    → Some a ≡ an_array objects v → IfOk r (λ whole. Enters objects w v a u whole)
    → IfOk r (λ whole. Passes objects w v u whole)
passes_entered objects w u v a (Ok whole) e h = passes_array objects w u v a whole e h
passes_entered objects w u v a (Err x) e h = tt

-- an Array without elements

of_counts : (n : ℕ) (v : Value) → 0 < n → of_none Counts n v ≡ Some []
of_counts zero v lt = absurd (omega (arith, lt))
of_counts (suc n) v lt = refl

pub counts_there : (w : Walk) (v : Value) → w.empty ≡ Counts → length w.levels.items < levels
    → PassesEmpty w v w true
counts_there w v e lt = (
  ap (λ (d : Empty). of_none d (left w) v) e ∙ of_counts (left w) v (omega (arith, lt))
      ∙ ap (λ (d : Empty). Some (kept d v)) (sym e),
  sym (append-nil w.values.items) ∙ ap (λ (d : Empty). w.values.items ++ kept d v) (sym e),
  refl,
  refl,
)

pub counts_too_deep : (w : Walk) (v : Value) → w.empty ≡ Counts → levels ≤ length w.levels.items
    → PassesEmpty w v w false
counts_too_deep w v e le = ap (λ (d : Empty). of_none d (left w) v) e ∙ none (left w) v (omega (arith, le)) where
  none : (n : ℕ) (v : Value) → n ≡ 0 → of_none Counts n v ≡ None
  none n v z = ap (λ (k : ℕ). of_none Counts k v) z

pub counts_by : (w : Walk) (v : Value) (n : ℕ) → w.empty ≡ Counts → n ≡ length w.levels.items
    → PassesEmpty w v w (nat_lt n levels)
counts_by w v n e m = by_test w v e (nat_lt n levels) (ap (λ (k : ℕ). nat_lt k levels) (sym m)) where
  by_test : (w : Walk) (v : Value) → w.empty ≡ Counts → (b : Bool) → nat_lt (length w.levels.items) levels ≡ b
      → PassesEmpty w v w b
  by_test w v e true t = counts_there w v e (grind (arith, nat_tests, t))
  by_test w v e false t = counts_too_deep w v e (grind (arith, nat_tests, t))

within_none : (e : Empty) (n : ℕ) (objects : List Object) (v : Value) (vs : List Value) → vs ≡ []
    → within e n objects v vs ≡ of_none e n v
within_none e zero objects v vs z = ap (within e zero objects v) z
within_none e (suc n) objects v vs z = ap (within e (suc n) objects v) z

no_turns : (n : ℕ) (objects : List Object) (vs : List Value) → vs ≡ [] → turns_within n objects vs ≡ 0
no_turns zero objects vs z = refl
no_turns (suc n) objects vs z = ap (turns_within (suc n) objects) z

enters_none : (objects : List Object) (w u : Walk) (v : Value) (vs : List Value) (whole : Bool) → vs ≡ []
    → PassesEmpty w v u whole
    → Comes objects w (within w.empty (left w) objects v vs) (turns_within (left w) objects vs) u whole
enters_none objects w u v vs true z h =
    let same = turns_as objects u w.levels.items h.2 in
    let none = no_turns (left w) objects vs z in (
      told_as objects u w.empty (w.values.items ++ kept w.empty v) w.levels.items h.3 h.1 h.2
          ∙ joined_assoc (Some w.values.items) (Some (kept w.empty v)) (rests w.empty levels objects w.levels.items)
          ∙ ap (before objects w) (sym (within_none w.empty (left w) objects v vs z ∙ h.0)),
      omega (arith, same, none),
      h.3,
    )
enters_none objects w u v vs false z h = within_none w.empty (left w) objects v vs z ∙ h

pub enters_empty : (objects : List Object) (w u : Walk) (v : Value) (a : ObjId) (vs : List Value)
    (r : Result Bool AllocError)
    → vs ≡ elements_at objects a → length vs ≡ 0 → IfOk r (λ whole. PassesEmpty w v u whole)
    → IfOk r (λ whole. Enters objects w v a u whole)
enters_empty objects w u v a vs (Ok whole) es z h =
    enters_none objects w u v (elements_at objects a) whole (sym es ∙ empty vs z) h
enters_empty objects w u v a vs (Err x) es z h = tt

-- an Array is entered

deep_within : (e : Empty) (n : ℕ) (objects : List Object) (u v : Value) (vs : List Value) → n ≡ zero
    → within e n objects u (v ∷ vs) ≡ None
deep_within e n objects u v vs z = ap (λ (k : ℕ). within e k objects u (v ∷ vs)) z

pub enters_deep : (objects : List Object) (w : Walk) (v : Value) (vs : List Value) → 0 < length vs
    → levels ≤ length w.levels.items → within w.empty (left w) objects v vs ≡ None
enters_deep objects w v [] lt le = absurd (omega (arith, lt))
enters_deep objects w v (u ∷ us) lt le = deep_within w.empty (left w) objects v u us (omega (arith, le))

within_some : (e : Empty) (n : ℕ) (objects : List Object) (v : Value) (vs : List Value) → 0 < length vs
    → within e (suc n) objects v vs ≡ flat_each (flat e n objects) vs
within_some e n objects v [] lt = absurd (omega (arith, lt))
within_some e n objects v (u ∷ us) lt = refl

within_more : (e : Empty) (n m : ℕ) (objects : List Object) (v : Value) (vs : List Value) → n ≡ suc m
    → 0 < length vs → within e n objects v vs ≡ flat_each (flat e m objects) vs
within_more e n m objects v vs p lt = ap (λ (k : ℕ). within e k objects v vs) p ∙ within_some e m objects v vs lt

turns_some_in : (f : Value → ℕ) (vs : List Value) → 0 < length vs → turns_in f vs ≡ suc (total f vs)
turns_some_in f [] lt = absurd (omega (arith, lt))
turns_some_in f (v ∷ vs) lt = refl

turns_within_more : (n m : ℕ) (objects : List Object) (vs : List Value) → n ≡ suc m → 0 < length vs
    → turns_within n objects vs ≡ suc (total (turns m objects) vs)
turns_within_more n m objects vs e lt = ap (λ (k : ℕ). turns_within k objects vs) e ∙ turns_some_in (turns m objects) vs lt

enters_level : (objects : List Object) (w u : Walk) (v : Value) (l : Level) → l.place ≡ 0
    → 0 < length (elements_at objects l.array) → length w.levels.items < levels
    → u.empty ≡ w.empty → u.values.items ≡ w.values.items → u.levels.items ≡ w.levels.items ++ l ∷ []
    → Enters objects w v l.array u true
enters_level objects w u v l z some lt k e f =
    let m : ℕ = levels - suc (length w.levels.items) in
    let es : List Value = elements_at objects l.array in
    let p : left w ≡ suc (levels - suc (length w.levels.items)) = omega (arith, lt) in
    let q : rest_of objects l ≡ elements_at objects l.array =
    ap (λ (n : ℕ). drop n (elements_at objects l.array)) z in
    let a = turns_as objects u (w.levels.items ++ l ∷ []) f in
    let b = turns_more levels objects w.levels.items l in
    let c = turns_within_more (left w) m objects es p some in
    let d = ap (total (turns m objects)) q in (
      told_as objects u w.empty w.values.items (w.levels.items ++ l ∷ []) k e f
          ∙ ap (joined (Some w.values.items)) (rests_more w.empty levels objects w.levels.items l
          ∙ ap (λ (vs : List Value). joined (flat_each (flat w.empty m objects) vs)
          (rests w.empty levels objects w.levels.items)) q)
          ∙ ap (before objects w) (sym (within_more w.empty (left w) m objects v es p some)),
      omega (arith, a, b, c, d),
      k,
    )

pub enters_more : (objects : List Object) (w u : Walk) (v : Value) (a : ObjId) (vs : List Value)
    → vs ≡ elements_at objects a → 0 < length vs → length w.levels.items < levels
    → u.empty ≡ w.empty → u.values.items ≡ w.values.items
    → u.levels.items ≡ w.levels.items ++ record { array = a; place = 0 } ∷ [] → Enters objects w v a u true
enters_more objects w u v a vs es some lt k e f = enters_level objects w u v (record { array = a; place = 0 }) refl
    (subst (λ (xs : List Value). 0 < length xs) es some) lt k e f

-- the next element, or the end of an Array

pub steps_none : (objects : List Object) (w u : Walk) → length w.levels.items ≡ 0 → length u.levels.items ≡ 0
    → u.empty ≡ w.empty → u.values.items ≡ w.values.items → Steps objects w u None
unfolding turns_left
steps_none objects w u m n k f =
    let a = turns_as objects u [] (empty u.levels.items n) in
    let b = turns_as objects w [] (empty w.levels.items m) in (
      told_as objects w w.empty w.values.items [] refl refl (empty w.levels.items m)
          ∙ sym (told_as objects u w.empty w.values.items [] k f (empty u.levels.items n)),
      omega (arith, a, b),
      k,
    )

no_total : (f : Value → ℕ) (vs : List Value) → vs ≡ [] → total f vs ≡ 0
unfolding total
no_total f vs e = ap (total f) e

ends_level : (objects : List Object) (w u : Walk) (l : Level) → w.levels.items ≡ u.levels.items ++ l ∷ []
    → u.empty ≡ w.empty → u.values.items ≡ w.values.items → rest_of objects l ≡ [] → Steps objects w u None
unfolding flat_each
ends_level objects w u l e k f n =
    let m : ℕ = levels - suc (length u.levels.items) in
    let a = turns_as objects w (u.levels.items ++ l ∷ []) e in
    let b = turns_more levels objects u.levels.items l in
    let c = no_total (turns m objects) (rest_of objects l) n in (
      told_as objects w w.empty w.values.items (u.levels.items ++ l ∷ []) refl refl e
          ∙ ap (joined (Some w.values.items)) (rests_more w.empty levels objects u.levels.items l
          ∙ ap (λ (vs : List Value). joined (flat_each (flat w.empty m objects) vs)
          (rests w.empty levels objects u.levels.items)) n
          ∙ joined_empty (rests w.empty levels objects u.levels.items))
          ∙ sym (told_as objects u w.empty w.values.items u.levels.items k f refl),
      omega (arith, a, b, c),
      k,
    )

pub steps_end : (objects : List Object) (w u : Walk) (l : Level) (vs : List Value)
    → w.levels.items ≡ u.levels.items ++ l ∷ [] → u.empty ≡ w.empty → u.values.items ≡ w.values.items
    → vs ≡ elements_at objects l.array → length vs ≤ l.place → Steps objects w u None
steps_end objects w u l vs e k f es le =
    ends_level objects w u l e k f (ap (drop l.place) (sym es) ∙ drop_all l.place vs le)

each_more : (f : Value → Option (List Value)) (v : Value) (vs : List Value)
    → flat_each f (v ∷ vs) ≡ joined (f v) (flat_each f vs)
unfolding flat_each
each_more f v vs = refl

total_more : (f : Value → ℕ) (v : Value) (vs us : List Value) → us ≡ v ∷ vs → total f us ≡ suc (f v + total f vs)
unfolding total
total_more f v vs us e = ap (total f) e

more_of_level : (objects : List Object) (w u : Walk) (l k : Level) (ls : List Level) (v : Value)
    → w.levels.items ≡ ls ++ l ∷ [] → u.levels.items ≡ ls ++ k ∷ []
    → u.empty ≡ w.empty → u.values.items ≡ w.values.items → rest_of objects l ≡ v ∷ rest_of objects k
    → Steps objects w u (Some v)
more_of_level objects w u l k ls v e f same g more =
    let d : Empty = u.empty in
    let m : ℕ = levels - suc (length ls) in
    let n : left u ≡ levels - suc (length ls) = ap (λ (xs : List Level). levels - length xs) f
    ∙ ap (λ (i : ℕ). levels - i) (length-append ls (k ∷ []) ∙ omega arith) in
    let a = turns_as objects w (ls ++ l ∷ []) e in
    let b = turns_more levels objects ls l in
    let c = total_more (turns m objects) v (rest_of objects k) (rest_of objects l) more in
    let x = turns_as objects u (ls ++ k ∷ []) f in
    let y = turns_more levels objects ls k in
    let z = ap (λ (i : ℕ). turns i objects v) n in (
      told_as objects w d w.values.items (ls ++ l ∷ []) (sym same) refl e
          ∙ ap (joined (Some w.values.items)) (rests_more d levels objects ls l
          ∙ ap (λ (vs : List Value). joined (flat_each (flat d m objects) vs) (rests d levels objects ls)) more
          ∙ ap (λ (o : Option (List Value)). joined o (rests d levels objects ls))
          (each_more (flat d m objects) v (rest_of objects k))
          ∙ joined_assoc (flat d m objects v) (flat_each (flat d m objects) (rest_of objects k))
          (rests d levels objects ls)
          ∙ ap (joined (flat d m objects v)) (sym (rests_more d levels objects ls k))
          ∙ ap (λ (xs : List Level). joined (flat d m objects v) (rests d levels objects xs)) (sym f)
          ∙ ap (λ (i : ℕ). joined (flat d i objects v) (rests d levels objects u.levels.items)) (sym n))
          ∙ ap (λ (vs : List Value). joined (Some vs) (joined (flat d (left u) objects v)
          (rests d levels objects u.levels.items))) (sym g),
      omega (arith, a, b, c, x, y, z),
      same,
    )

pub steps_more : (objects : List Object) (w u : Walk) (l : Level) (ls : List Level) (vs : List Value) (d : Value)
    → w.levels.items ≡ ls ++ l ∷ []
    → u.levels.items ≡ ls ++ record { array = l.array; place = l.place + 1 } ∷ []
    → u.empty ≡ w.empty → u.values.items ≡ w.values.items → vs ≡ elements_at objects l.array → l.place < length vs
    → Steps objects w u (Some (get_or vs l.place d))
steps_more objects w u l ls vs d e f k g es lt =
    more_of_level objects w u l (record { array = l.array; place = l.place + 1 }) ls (get_or vs l.place d) e f k g
    (dropped_as vs (elements_at objects l.array) l.place d es lt)

-- a walk that has levels has turns left, and one that has none has come to its values

some_turns : (n : ℕ) (objects : List Object) (ls : List Level) → 0 < length ls → 0 < turns_left n objects ls
unfolding turns_left
some_turns n objects [] lt = absurd (omega (arith, lt))
some_turns n objects (l ∷ ls) lt = omega arith

pub turns_some : (objects : List Object) (w : Walk) → 0 < length w.levels.items → 0 < turns_of objects w
turns_some objects w lt = some_turns levels objects w.levels.items lt

no_rests : (e : Empty) (objects : List Object) (ls : List Level) → ls ≡ [] → rests e levels objects ls ≡ Some []
unfolding rests
no_rests e objects ls m = ap (rests e levels objects) m

told_here : (objects : List Object) (w : Walk) → w.levels.items ≡ [] → told objects w ≡ Some w.values.items
told_here objects w e = ap (joined (Some w.values.items)) (no_rests w.empty objects w.levels.items e)
    ∙ joined_last (Some w.values.items)

pub ended : (objects : List Object) (w u : Walk) → told objects w ≡ told objects u → u.empty ≡ w.empty
    → length u.levels.items ≡ 0 → Ends objects w u true
ended objects w u e same z =
    (e ∙ told_here objects u (empty u.levels.items z), empty u.levels.items z, same)

-- values one after another

before_all : (e : Empty) (objects : List Object) (w : Walk) (v : Value) → w.empty ≡ e → w.levels.items ≡ []
    → before objects w (flat w.empty (left w) objects v) ≡ joined (Some w.values.items) (flat e levels objects v)
before_all e objects w v same f =
    ap (λ (o : Option (List Value)). joined (Some w.values.items) (joined (flat w.empty (left w) objects v) o))
    (no_rests w.empty objects w.levels.items f)
    ∙ ap (joined (Some w.values.items)) (joined_last (flat w.empty (left w) objects v))
    ∙ ap (λ (ls : List Level). joined (Some w.values.items) (flat w.empty (levels - length ls) objects v)) f
    ∙ ap (λ (d : Empty). joined (Some w.values.items) (flat d levels objects v)) same

abbrev each : Empty → List Object → List Value → Option (List Value)
each e objects vs = flat_each (flat e levels objects) vs

each_from : (e : Empty) (objects : List Object) (w : Walk) (v : Value) (vs us : List Value) (o : Option (List Value))
    → us ≡ v ∷ vs → w.empty ≡ e → w.levels.items ≡ [] → o ≡ before objects w (flat w.empty (left w) objects v)
    → joined (Some w.values.items) (each e objects us) ≡ joined o (each e objects vs)
each_from e objects w v vs us o m same f g =
    ap (λ (xs : List Value). joined (Some w.values.items) (each e objects xs)) m
    ∙ ap (joined (Some w.values.items)) (each_more (flat e levels objects) v vs)
    ∙ sym (joined_assoc (Some w.values.items) (flat e levels objects v) (each e objects vs))
    ∙ ap (λ (x : Option (List Value)). joined x (each e objects vs)) (sym (g ∙ before_all e objects w v same f))

pub walked : (e : Empty) (objects : List Object) (w u t : Walk) (vs : List Value) (n : ℕ) (d : Value)
    (whole done : Bool)
    → n < length vs → Stands e objects vs w n
    → Passes objects w (get_or vs n d) u whole → whole ≡ true → Ends objects u t done → done ≡ true
    → Stands e objects vs t (n + 1)
walked e objects w u t vs n d whole done lt stands p f h g =
    let passed = subst (λ (b : Bool). Passes objects w (get_or vs n d) u b) f p in
    let ends = subst (λ (b : Bool). Ends objects u t b) g h in (
      stands.0 ∙ each_from e objects w (get_or vs n d) (drop (n + 1) vs) (drop n vs) (Some t.values.items)
          (dropped vs n d lt) stands.2 stands.1 (sym ends.0 ∙ passed.0),
      ends.1,
      ends.2 ∙ passed.2 ∙ stands.2,
    )

pub passed_too_deep : (e : Empty) (objects : List Object) (w u : Walk) (vs : List Value) (n : ℕ) (d : Value)
    (whole : Bool)
    → n < length vs → Stands e objects vs w n → Passes objects w (get_or vs n d) u whole → whole ≡ false
    → None ≡ each e objects vs
passed_too_deep e objects w u vs n d whole lt stands p f =
    let none = subst (λ (b : Bool). Passes objects w (get_or vs n d) u b) f p in
    sym (stands.0 ∙ each_from e objects w (get_or vs n d) (drop (n + 1) vs) (drop n vs) None (dropped vs n d lt)
    stands.2 stands.1 (sym (ap (before objects w) none)))

pub too_deep_within : (e : Empty) (objects : List Object) (w u t : Walk) (vs : List Value) (n : ℕ) (d : Value)
    (whole done : Bool)
    → n < length vs → Stands e objects vs w n
    → Passes objects w (get_or vs n d) u whole → whole ≡ true → Ends objects u t done → done ≡ false
    → None ≡ each e objects vs
too_deep_within e objects w u t vs n d whole done lt stands p f h g =
    let passed = subst (λ (b : Bool). Passes objects w (get_or vs n d) u b) f p in
    let none = subst (λ (b : Bool). Ends objects u t b) g h in
    sym (stands.0 ∙ each_from e objects w (get_or vs n d) (drop (n + 1) vs) (drop n vs) None (dropped vs n d lt)
    stands.2 stands.1 (sym none ∙ passed.0))

pub walked_all : (e : Empty) (objects : List Object) (w : Walk) (vs : List Value) (n : ℕ) → length vs ≤ n
    → each e objects vs ≡ joined (Some w.values.items) (each e objects (drop n vs))
    → Some w.values.items ≡ each e objects vs
unfolding flat_each
walked_all e objects w vs n le same = sym (same
    ∙ ap (λ (xs : List Value). joined (Some w.values.items) (each e objects xs)) (drop_all n vs le)
    ∙ joined_last (Some w.values.items))
