use Rattle.std.proofs.Common.{◌≡◌, ◌∙◌, sym, rules, replicate, None, length, take, drop, ◌++◌}
use Rattle.std.proofs.lemmas.List.{length-replicate, take_at}
use Rattle.code_outline.specs.Layout.{layout}
use Rattle.code_outline.specs.Makers.{made_in, made_from}
use Rattle.code_outline.specs.Making.{AreMarked}
use Rattle.code_outline.proofs.Made.{marked-more, makers}
use Rattle.code_outline.proofs.Marks.{marks-none}
use Rattle.code_outline.proofs.makers_of.Goals as goal

pub loop-number-init : goal.loop-number-init
unfolding made_from
loop-number-init c =
    let n = length c.bodies-bodies.result.now in
    let e : c.in_ok-makers.makers.items ≡ replicate n None = c.in_ok-makers.ensures.items_if_clones_equal
    (λ y h. search rules) in
    rw e (record { count = length-replicate n None; makers = marks-none (replicate n None) })

pub loop-number-preserved : goal.loop-number-preserved
loop-number-preserved c =
    let v = c.args.code.now.version in
    let bs = c.bodies-bodies.result.now in
    let i = c.loop-number.number in
    let b = c.index-bodies-number.result in
    let old = c.loop-number.makers.items in
    let new = c.put_makers.new.makers in
    let n : length new ≡ c.loop-number.makers.len = c.put_makers.auto.makers ∙ c.deref_mut.ensures.len in
    let e : take c.loop-number.makers.len (new ++ drop (length new) old) ≡ new = take_at new (drop (length new) old)
    c.loop-number.makers.len n in
    let marked : AreMarked (made_in i b (layout v b.code)) old new =
    rw (← c.deref_mut.ensures.value, ← c.version.ensures.value) c.put_makers.ensures in
    let count = c.loop-number.invariant.count in
    rw e (record {
      count = n ∙ c.loop-number.makers.ok.0 ∙ count;
      makers = marked-more v bs i b (replicate (length bs) None) old new c.loop-number-test.true
          c.index-bodies-number.is (count ∙ sym (length-replicate (length bs) None)) c.loop-number.invariant.makers
          marked;
    })

pub returns : goal.returns
returns c =
    let i = c.loop-number.invariant in
    rw c.from_vec.ensures (makers c.args.code.now c.bodies-bodies.result.now c.loop-number.number
    c.loop-number.makers.items c.bodies-bodies.ensures.value
    (c.bodies-bodies.ensures.whole, c.loop-number-test.false, i.count, i.makers))
