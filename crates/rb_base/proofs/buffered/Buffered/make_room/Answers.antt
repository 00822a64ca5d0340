use Rattle.std.proofs.Common.{◌≡◌, sym, [], take, arith}
use Rattle.std.proofs.lemmas.List.{length-take-le}
use Rattle.rb_base.specs.Buffers.{kept}
use Rattle.rb_base.proofs.Moving.{kept_full, kept_room}
use Rattle.rb_base.proofs.buffered.Buffered.make_room.Goals as goal

pub returns-then-self-eq-CAPACITY-clause-kept : goal.returns-then-self-eq-CAPACITY-clause-kept
returns-then-self-eq-CAPACITY-clause-kept g c =
    let len = c.self.inside.len in
    let bytes = c.self.inside.bytes in
    let full : kept c.args.self.now.pending ≡ [] =
    rw (← c.self.view_is) (kept_full (take len bytes)
    (omega (arith, length-take-le len bytes (omega arith), c.if-self-eq-CAPACITY.true))) in
    rw full c.flush.ensures.flushed

pub returns-else-self-eq-CAPACITY-clause-kept : goal.returns-else-self-eq-CAPACITY-clause-kept
returns-else-self-eq-CAPACITY-clause-kept g c =
    let len = c.self.inside.len in
    let bytes = c.self.inside.bytes in
    rw (← c.self.view_is) (sym (kept_room (take len bytes)
    (omega (arith, length-take-le len bytes (omega arith), c.if-self-eq-CAPACITY.false))))
