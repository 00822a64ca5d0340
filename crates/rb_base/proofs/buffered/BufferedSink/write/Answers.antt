use Rattle.std.proofs.Common.{◌+◌, ◌-◌, ◌++◌, take, ap, ◌∙◌, arith}
use Rattle.std.proofs.lemmas.List.{length-take-le}
use Rattle.std.proofs.lemmas.Slice.{take-put_mid}
use Rattle.rb_base.proofs.buffered.BufferedSink.write.Goals as goal

pub returns-clause-all : goal.returns-clause-all
returns-clause-all g c =
    let len = c.self.inside.len in
    let bytes = c.self.inside.bytes in
    rw (← c.in_ok-make_room.ensures.kept, ← c.self.view_is)
    (omega (arith, c.min-count.ensures, length-take-le len bytes (omega arith)))

pub returns-clause-pending : goal.returns-clause-pending
returns-clause-pending g c =
    let len = c.self.inside.len in
    let bytes = c.self.inside.bytes in
    let count = c.min-count.result in
    rw (← c.in_ok-make_room.ensures.kept, ← c.self.view_is)
    (take-put_mid len (len + count - len) bytes c.copy_from_slice.new.self (len + count)
    (omega (arith, c.copy_from_slice.ensures.len)) (omega arith)
    ∙ ap (λ ys. take len bytes ++ ys) c.copy_from_slice.ensures.after)

pub returns-clause-some : goal.returns-clause-some
returns-clause-some g c =
    let len = c.self.inside.len in
    let bytes = c.self.inside.bytes in
    let free = rw (← c.self.view_is) at c.in_ok-make_room.ensures.free in
    let whole = length-take-le len bytes (omega arith) in (
      omega (arith, c.min-count.ensures, free, whole, c.requires),
      omega (arith, c.min-count.ensures),
    )
