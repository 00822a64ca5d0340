use Rattle.std.proofs.Common.{◌≡◌, ◌++◌, get_or, vec_len, refl, ◌∙◌}
use Rattle.std.specs.List.{repeat}
use Rattle.std.proofs.lemmas.Slice.{pushed}
use Rattle.rb_string.proofs.Pads.{copy_before, one_byte_copies, resized}
use Rattle.rb_string.proofs.editing.copies.Goals as goal

pub copies-preserved : goal.copies-preserved
copies-preserved c =
    let items : c.extend_from_slice.new.self.items ≡ c.copies.made.items ++ c.args.text.now =
    pushed c.args.text.now refl c.in_ok-extend_from_slice.was c.extend_from_slice.ensures.items in
    rw items (copy_before c.copies.left c.copies.made.items c.args.text.now (repeat c.args.count c.args.text.now)
    c.copies-test.true c.copies.invariant)

pub returns-then-text-eq1 : goal.returns-then-text-eq1
returns-then-text-eq1 c =
    c.from_vec.ensures ∙ c.in_ok-resize.ensures.items
    ∙ resized c.args.count (get_or c.args.text.now 0 0) c.in_ok-made.made.items (vec_len c.in_ok-made.made)
    c.in_ok-made.ensures.items c.in_ok-made.ensures.len
    ∙ one_byte_copies c.args.count c.args.text.now c.if-text-eq1.true
