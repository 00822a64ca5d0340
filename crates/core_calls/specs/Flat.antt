-- Values with the elements of each Array in its place, down to so many levels of Arrays.
use Rattle.std.specs.Prelude.{◌≡◌, ℕ, zero, suc, ◌+◌, ◌-◌, List, [], ◌∷◌, ◌++◌, drop, length, Bool, true, false, Option, Some, None}
use Rattle.rb_value.specs.declared.value.Value.{Value}
use Rattle.rb_value.specs.declared.value.ObjId.{ObjId}
use Rattle.rb_value.specs.Object.{Object}
use Rattle.def_core.specs.Parts.{elements_at}
use Rattle.def_core.specs.Store.{Store}
use Rattle.def_calls.specs.Views.{an_array}
use Rattle.core_calls.specs.declared.flattening.Empty.{Empty}
use Rattle.core_calls.specs.declared.flattening.Empty.TheVariants.{Vanishes, Counts, Stays}
use Rattle.core_calls.specs.declared.flattening.Level.{Level}
use Rattle.core_calls.specs.declared.flattening.Walk.{Walk}

-- values and others behind them; none where either are nested too deep
abbrev pub joined : Option (List Value) → Option (List Value) → Option (List Value)
joined None o = None
joined (Some vs) None = None
joined (Some vs) (Some us) = Some (vs ++ us)

unfoldable pub flat_each : (Value → Option (List Value)) → List Value → Option (List Value)
flat_each f [] = Some []
flat_each f (v ∷ vs) = joined (f v) (flat_each f vs)

-- what an Array without elements comes to, within which so many levels are left

abbrev pub kept : Empty → Value → List Value
kept Vanishes v = []
kept Counts v = []
kept Stays v = v ∷ []

abbrev pub of_none : Empty → ℕ → Value → Option (List Value)
of_none Vanishes n v = Some (kept Vanishes v)
of_none Counts zero v = None
of_none Counts (suc n) v = Some (kept Counts v)
of_none Stays n v = Some (kept Stays v)

-- elements, or what there is without any
abbrev pub elements_by : Option (List Value) → (List Value → Option (List Value)) → List Value → Option (List Value)
elements_by empty_one flat_one [] = empty_one
elements_by empty_one flat_one (v ∷ vs) = flat_one (v ∷ vs)

-- no level is left for elements
abbrev pub too_deep : List Value → Option (List Value)
too_deep vs = None

-- a value; of an Array what its elements come to
abbrev pub flat_by : List Object → Value → (List Value → Option (List Value)) → Option ObjId → Option (List Value)
flat_by objects v elements None = Some (v ∷ [])
flat_by objects v elements (Some a) = elements (elements_at objects a)

unfoldable pub flat : Empty → ℕ → List Object → Value → Option (List Value)
flat e zero objects v = flat_by objects v (elements_by (of_none e zero v) too_deep) (an_array objects v)
flat e (suc n) objects v =
    flat_by objects v (elements_by (of_none e (suc n) v) (flat_each (flat e n objects))) (an_array objects v)

abbrev pub levels : ℕ
levels = 9999

abbrev pub flattened : Empty → Store → List Value → Option (List Value)
flattened e st vs = flat_each (flat e levels st.objects) vs

-- What is left of a walk: the elements behind the places of the Arrays that are being passed, the innermost first.

abbrev pub rest_of : List Object → Level → List Value
rest_of objects l = drop l.place (elements_at objects l.array)

unfoldable pub rests : Empty → ℕ → List Object → List Level → Option (List Value)
rests e n objects [] = Some []
rests e n objects (l ∷ ls) =
    joined (rests e (n - 1) objects ls) (flat_each (flat e (n - 1) objects) (rest_of objects l))

-- how many levels are left within the innermost Array
abbrev pub left : Walk → ℕ
left w = levels - length w.levels.items

-- what the walk comes to, and what it comes to with this before all that is left
abbrev pub before : List Object → Walk → Option (List Value) → Option (List Value)
before objects w o = joined (Some w.values.items) (joined o (rests w.empty levels objects w.levels.items))

abbrev pub told : List Object → Walk → Option (List Value)
told objects w = joined (Some w.values.items) (rests w.empty levels objects w.levels.items)

-- elements of an Array that a value is
abbrev pub within : Empty → ℕ → List Object → Value → List Value → Option (List Value)
within e zero objects v vs = elements_by (of_none e zero v) too_deep vs
within e (suc n) objects v vs = elements_by (of_none e (suc n) v) (flat_each (flat e n objects)) vs

-- How many turns a walk has left: one for each element of an Array that is passed, and one for its end.

unfoldable pub total : (Value → ℕ) → List Value → ℕ
total f [] = 0
total f (v ∷ vs) = suc (f v + total f vs)

abbrev pub turns_in : (Value → ℕ) → List Value → ℕ
turns_in f [] = 0
turns_in f (v ∷ vs) = suc (total f (v ∷ vs))

abbrev pub turns_by : List Object → (List Value → ℕ) → Option ObjId → ℕ
turns_by objects f None = 0
turns_by objects f (Some a) = f (elements_at objects a)

unfoldable pub turns : ℕ → List Object → Value → ℕ
turns zero objects v = 0
turns (suc n) objects v = turns_by objects (turns_in (turns n objects)) (an_array objects v)

abbrev pub turns_within : ℕ → List Object → List Value → ℕ
turns_within zero objects vs = 0
turns_within (suc n) objects vs = turns_in (turns n objects) vs

unfoldable pub turns_left : ℕ → List Object → List Level → ℕ
turns_left n objects [] = 0
turns_left n objects (l ∷ ls) = suc (total (turns (n - 1) objects) (rest_of objects l)) + turns_left (n - 1) objects ls

abbrev pub turns_of : List Object → Walk → ℕ
turns_of objects w = turns_left levels objects w.levels.items

-- What came before all that is left comes to this, in so many turns more; or it is nested too deep.
abbrev pub Comes : List Object → Walk → Option (List Value) → ℕ → Walk → Bool → Type 0
Comes objects w o n u true =
    (told objects u ≡ before objects w o) × (turns_of objects u ≡ turns_of objects w + n) × (u.empty ≡ w.empty)
Comes objects w o n u false = o ≡ None

-- a value is passed, or an Array that it is

abbrev pub Passes : List Object → Walk → Value → Walk → Bool → Type 0
Passes objects w v u whole = Comes objects w (flat w.empty (left w) objects v) (turns (left w) objects v) u whole

abbrev pub Enters : List Object → Walk → Value → ObjId → Walk → Bool → Type 0
Enters objects w v a u whole = Comes objects w (within w.empty (left w) objects v (elements_at objects a))
    (turns_within (left w) objects (elements_at objects a)) u whole

-- an Array without elements is passed
abbrev pub PassesEmpty : Walk → Value → Walk → Bool → Type 0
PassesEmpty w v u true = (of_none w.empty (left w) v ≡ Some (kept w.empty v))
    × (u.values.items ≡ w.values.items ++ kept w.empty v) × (u.levels.items ≡ w.levels.items) × (u.empty ≡ w.empty)
PassesEmpty w v u false = of_none w.empty (left w) v ≡ None

-- the next element, which takes a turn as the end of an Array does
abbrev pub Steps : List Object → Walk → Walk → Option Value → Type 0
Steps objects w u (Some v) = (told objects w ≡ before objects u (flat u.empty (left u) objects v))
    × (turns_of objects w ≡ suc (turns_of objects u + turns (left u) objects v)) × (u.empty ≡ w.empty)
Steps objects w u None =
    (told objects w ≡ told objects u) × (turns_of objects u ≡ turns_of objects w - 1) × (u.empty ≡ w.empty)

-- the walk has ended
abbrev pub Ends : List Object → Walk → Walk → Bool → Type 0
Ends objects w u true = (told objects w ≡ Some u.values.items) × (u.levels.items ≡ []) × (u.empty ≡ w.empty)
Ends objects w u false = told objects w ≡ None

-- A walk stands where so many of the values have been passed: what is left is put behind what was passed.
abbrev pub Stands : Empty → List Object → List Value → Walk → ℕ → Type 0
Stands e objects vs w n = (flat_each (flat e levels objects) vs
    ≡ joined (Some w.values.items) (flat_each (flat e levels objects) (drop n vs)))
    × (w.levels.items ≡ []) × (w.empty ≡ e)
