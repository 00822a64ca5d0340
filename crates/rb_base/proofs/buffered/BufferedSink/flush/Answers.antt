use Rattle.std.proofs.Common.{◌≡◌, ◌-◌, ◌<◌, length, take, drop, ap, ◌∙◌, arith}
use Rattle.std.proofs.lemmas.List.{length-take-le}
use Rattle.rb_base.specs.Outside.{with_more}
use Rattle.rb_base.proofs.Moving.{moved, told_still}
use Rattle.rb_base.proofs.buffered.BufferedSink.flush.Goals as goal

pub returns-then-count-self-clause-told : goal.returns-then-count-self-clause-told
returns-then-count-self-clause-told g c =
    let len = c.self.inside.len in
    let bytes = c.self.inside.bytes in
    let count = c.write_front-count.result in
    let out = c.write_front-count.new.out in
    let still : take (len - count) c.copy_within.new.self ≡ drop count (take len bytes) =
    ap (take (len - count)) c.copy_within.ensures.after ∙ moved bytes len count (omega arith) (omega arith) in
    rw (← c.self.view_is) (ap (with_more (g.O.Sink.taken out)) still
    ∙ told_still (g.O.Sink.taken c.self.inside.inner) (g.O.Sink.taken out) (take len bytes) count
    c.write_front-count.ensures.took)

pub returns-then-count-self-clause-left : goal.returns-then-count-self-clause-left
returns-then-count-self-clause-left g c =
    let len = c.self.inside.len in
    let bytes = c.self.inside.bytes in
    let count = c.write_front-count.result in
    let still : take (len - count) c.copy_within.new.self ≡ drop count (take len bytes) =
    ap (take (len - count)) c.copy_within.ensures.after ∙ moved bytes len count (omega arith) (omega arith) in
    let short : count < length (take len bytes) = omega (arith, length-take-le len bytes (omega arith)) in
    rw (← c.self.view_is) (count, short, c.write_front-count.ensures.took, still)
