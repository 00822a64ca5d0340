-- A merge goes on with a copy.
use Rattle.std.proofs.Common.{◌≡◌, false, ap, sym, ◌∙◌}
use Rattle.std.specs.Prelude.{Some, Result, Ok}
use Rattle.rb_value.specs.declared.value.Value.{Value}
use Rattle.rb_value.specs.declared.value.Value.TheVariants.{Obj}
use Rattle.rb_value.specs.declared.value.ObjId.{ObjId}
use Rattle.rb_value.specs.declared.kind.Sort.TheVariants as sort
use Rattle.def_core.specs.declared.cause.Cause.{Cause}
use Rattle.rb_store.specs.Held.{Held}
use Rattle.heap.specs.Copies.{copied, copy_left, copy_of, is_new_space}
use Rattle.heap.specs.Reading.{sort_of_value}
use Rattle.heap.proofs.Fresh.{held_is}
use Rattle.rows_hash.specs.Merging.{merge, merge_by, merge_copied}
use Rattle.rows_hash.specs.Pairs.{hash_of}

pub merge_is : (before after : Held) (id from : ObjId) (copy other : Value) → hash_of before.store other ≡ Ok from
    → copy ≡ copy_of before.store (Obj id) → after.store ≡ copied before.store (Obj id)
    → (is_new_space (sort_of_value before.store (Obj id)) ≡ false → after.changes ≡ before.changes)
    → sort_of_value before.store (Obj id) ≡ Some sort.Hash → merge before id other ≡ merge_copied after copy other
merge_is before after id from copy other found given store count is_hash =
    let left : after ≡ copy_left before (Obj id) =
    held_is after (copy_left before (Obj id)) store (count (ap is_new_space is_hash)) in
    ap (λ (h : Result ObjId Cause). merge_by before id other h) found
    ∙ ap (λ (v : Value). merge_copied (copy_left before (Obj id)) v other) (sym given)
    ∙ ap (λ (held : Held). merge_copied held copy other) (sym left)
