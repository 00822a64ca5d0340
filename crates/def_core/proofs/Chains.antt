-- The chain of a class of a sound store is the class, its modules and the chain of its superclass.
use Rattle.std.proofs.Common.{◌≡◌, ℕ, suc, zero, ◌<◌, List, [], ◌∷◌, ◌++◌, refl, ap, sym, ◌∙◌, arith}
use Rattle.std.specs.Prelude.{Option, Some, None}
use Rattle.rb_value.specs.declared.value.ObjId.{ObjId}
use Rattle.rb_value.specs.Object.{Object}
use Rattle.def_core.specs.Store.{Store}
use Rattle.def_core.specs.Classes.{class_at, chain_within, chain, lineage_within, lineage}
use Rattle.def_core.specs.Sound.{census, Role, ClassOrModule, Is, OptionIs, IsSuperclass, Sound}
use Rattle.def_core.proofs.Roles.{sound_class, superclass_is_class}

-- the chain from a superclass, which may be none
abbrev pub chain_above : List Object → Option ObjId → List ObjId
chain_above objects None = []
chain_above objects (Some c) = chain objects c

abbrev pub lineage_above : List Object → Option ObjId → List ObjId
lineage_above objects None = []
lineage_above objects (Some c) = lineage objects c

-- a class, if any, whose number is below the bound
abbrev Bounded : Store → ℕ → Option ObjId → Type 0
Bounded st n c = OptionIs (λ id. Is (census st) ClassOrModule id × (id.0 < n)) c

bounded : (st : Store) (n : ℕ) (c : ObjId) (p : Option ObjId) → OptionIs (IsSuperclass (census st) c.0) p → c.0 < suc n
    → Bounded st n p
bounded st n c None h lt = tt
bounded st n c (Some p) h lt = (superclass_is_class st p h.0, omega (arith, h.1, lt))

above_bounded : (st : Store) → Sound st → (n : ℕ) (c : ObjId) → Is (census st) ClassOrModule c → c.0 < suc n
    → Bounded st n (class_at st.objects c).superclass
above_bounded st sound n c is lt = bounded st n c _ (sound_class st sound c is).superclass lt

-- any bound above the number gives the same chain
chain_bounds : (st : Store) → Sound st → (n m : ℕ) (c : Option ObjId) → Bounded st n c → Bounded st m c
    → chain_within n st.objects c ≡ chain_within m st.objects c
unfolding chain_within
chain_bounds st sound zero zero c b d = refl
chain_bounds st sound zero (suc m) None b d = refl
chain_bounds st sound zero (suc m) (Some c) b d = absurd (omega (arith, b.1))
chain_bounds st sound (suc n) zero None b d = refl
chain_bounds st sound (suc n) zero (Some c) b d = absurd (omega (arith, d.1))
chain_bounds st sound (suc n) (suc m) None b d = refl
chain_bounds st sound (suc n) (suc m) (Some c) b d =
    ap (λ rest. c ∷ (class_at st.objects c).included ++ rest)
    (chain_bounds st sound n m (class_at st.objects c).superclass (above_bounded st sound n c b.0 b.1)
    (above_bounded st sound m c d.0 d.1))

rest_of_chain : (st : Store) → Sound st → (n : ℕ) (p : Option ObjId) → Bounded st n p
    → chain_within n st.objects p ≡ chain_above st.objects p
unfolding chain chain_within
rest_of_chain st sound zero None b = refl
rest_of_chain st sound (suc n) None b = refl
rest_of_chain st sound n (Some p) b = chain_bounds st sound n (suc p.0) (Some p) b (b.0, omega arith)

pub chain_is : (st : Store) → Sound st → (c : ObjId) → Is (census st) ClassOrModule c
    → chain st.objects c ≡ c ∷ (class_at st.objects c).included
    ++ chain_above st.objects (class_at st.objects c).superclass
unfolding chain chain_within
chain_is st sound c is =
    ap (λ rest. c ∷ (class_at st.objects c).included ++ rest)
    (rest_of_chain st sound c.0 (class_at st.objects c).superclass (above_bounded st sound c.0 c is (omega arith)))

lineage_bounds : (st : Store) → Sound st → (n m : ℕ) (c : Option ObjId) → Bounded st n c → Bounded st m c
    → lineage_within n st.objects c ≡ lineage_within m st.objects c
unfolding lineage_within
lineage_bounds st sound zero zero c b d = refl
lineage_bounds st sound zero (suc m) None b d = refl
lineage_bounds st sound zero (suc m) (Some c) b d = absurd (omega (arith, b.1))
lineage_bounds st sound (suc n) zero None b d = refl
lineage_bounds st sound (suc n) zero (Some c) b d = absurd (omega (arith, d.1))
lineage_bounds st sound (suc n) (suc m) None b d = refl
lineage_bounds st sound (suc n) (suc m) (Some c) b d =
    ap (λ rest. c ∷ rest) (lineage_bounds st sound n m (class_at st.objects c).superclass
    (above_bounded st sound n c b.0 b.1) (above_bounded st sound m c d.0 d.1))

rest_of_lineage : (st : Store) → Sound st → (n : ℕ) (p : Option ObjId) → Bounded st n p
    → lineage_within n st.objects p ≡ lineage_above st.objects p
unfolding lineage lineage_within
rest_of_lineage st sound zero None b = refl
rest_of_lineage st sound (suc n) None b = refl
rest_of_lineage st sound n (Some p) b = lineage_bounds st sound n (suc p.0) (Some p) b (b.0, omega arith)

pub lineage_is : (st : Store) → Sound st → (c : ObjId) → Is (census st) ClassOrModule c
    → lineage st.objects c ≡ c ∷ lineage_above st.objects (class_at st.objects c).superclass
unfolding lineage lineage_within
lineage_is st sound c is = ap (λ rest. c ∷ rest)
    (rest_of_lineage st sound c.0 (class_at st.objects c).superclass (above_bounded st sound c.0 c is (omega arith)))
