-- Values that are put before the elements of an Array, the last one first.
use Rattle.std.proofs.Common.{◌≡◌, ℕ, zero, suc, ◌<◌, List, [], ◌∷◌, length, drop, refl, ap, arith}
use Rattle.std.specs.Prelude.{slice_index_or}
use Rattle.rb_value.specs.declared.value.Value.{Value}
use Rattle.rb_value.specs.declared.value.Value.TheVariants.{Nil}
use Rattle.rb_value.specs.declared.value.ObjId.{ObjId}
use Rattle.rb_store.specs.Held.{Held}
use Rattle.heap.specs.Changes.{unshifted}
use Rattle.rows_array.specs.Changed.{unshifted_all}

pub unshifted_more : (held : Held) (id : ObjId) (vs : List Value) (n : ℕ) → n < length vs
    → unshifted_all held id (drop n vs)
    ≡ unshifted (unshifted_all held id (drop (suc n) vs)) id (slice_index_or vs n Nil)
unshifted_more held id [] n lt = absurd (omega (arith, lt))
unshifted_more held id (v ∷ vs) zero lt = refl
unshifted_more held id (v ∷ vs) (suc n) lt = unshifted_more held id vs n (omega (arith, lt))
