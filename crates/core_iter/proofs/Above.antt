-- The nearest core class above a class, one class more at a time.
use Rattle.std.proofs.Common.{◌≡◌, ℕ, zero, suc, ◌<◌, false, ap, ◌∙◌, arith, if◌then◌else◌}
use Rattle.std.specs.Prelude.{Option, Some, None, Bool, nat_lt}
use Rattle.rb_value.specs.declared.value.ObjId.{ObjId}
use Rattle.def_core.specs.Classes.{class_at}
use Rattle.def_core.specs.Store.{Store}
use Rattle.core_iter.specs.Making.{core_count, above_by, core_from}

-- the class isn't a core class: what is above it, if anything
far_from : (m : ℕ) (st : Store) (c at : ObjId) (o : Option ObjId) → nat_lt at.0 core_count ≡ false
    → (class_at st.objects at).superclass ≡ o → core_from (suc m) st c at ≡ above_by c o (core_from m st c)
unfolding core_from
far_from m st c at o e f =
    ap (λ (b : Bool). if b then at else above_by c (class_at st.objects at).superclass (core_from m st c)) e
    ∙ ap (λ (x : Option ObjId). above_by c x (core_from m st c)) f

pub core_more : (n m : ℕ) (st : Store) (c at up : ObjId) → n ≡ suc m → nat_lt at.0 core_count ≡ false
    → (class_at st.objects at).superclass ≡ Some up → core_from n st c at ≡ core_from m st c up
core_more n m st c at up g e f = ap (λ (k : ℕ). core_from k st c at) g ∙ far_from m st c at (Some up) e f

pub core_none : (n : ℕ) (st : Store) (c at : ObjId) → 0 < n → nat_lt at.0 core_count ≡ false
    → (class_at st.objects at).superclass ≡ None → core_from n st c at ≡ c
core_none zero st c at lt e f = absurd (omega (arith, lt))
core_none (suc m) st c at lt e f = far_from m st c at None e f

pub core_out : (n : ℕ) (st : Store) (c at : ObjId) → n ≡ zero → core_from n st c at ≡ c
unfolding core_from
core_out n st c at e = ap (λ (k : ℕ). core_from k st c at) e
