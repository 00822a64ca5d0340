use Rattle.std.proofs.Common.{◌≡◌, ◌∷◌, length, ap, subst, arith, OnOk}
use Rattle.std.specs.Vec.Iter.{into_iter_items}
use Rattle.indexmap.specs.IndexMap.{insert_entry}
use Rattle.pair_table.proofs.Apart.{next_given}
use Rattle.pair_table.proofs.table.fill.Goals as goal

pub pairs-preserved-in-Some : goal.pairs-preserved-in-Some
pairs-preserved-in-Some g c =
    let given = c.pairs.table.entries in
    let left = into_iter_items c.pairs.pair-iterator in
    let rest = into_iter_items c.next.new.self in
    let new = c.insert.new.self.entries in
    let e : g.row.K.Denot × g.row.V.Denot = c.in-Some.pair in
    let first : left ≡ e ∷ rest = c.in-Some.ensures.steps.0 in
    let put : new ≡ insert_entry g.K.PartialEq.eq given e.0 e.1 =
    subst (λ r. OnOk r (new ≡ insert_entry g.K.PartialEq.eq given e.0 e.1)) c.unwrap.ensures c.insert.ensures.entries in (
      next_given g.met.K.Eq.laws given left rest c.args.pairs.items new e first c.pairs.invariant.0 c.requires.apart put,
      omega (arith, c.pairs.invariant.1, ap length first, c.insert.ensures.spare),
      omega (arith, c.pairs.invariant.2, ap length first, c.in-Some.ensures.steps.1),
    )

pub pairs-preserved : goal.pairs-preserved
pairs-preserved g c =
    let given = c.pairs.table.entries in
    let left = into_iter_items c.pairs.pair-iterator in
    let rest = into_iter_items c.next.new.self in
    let new = c.insert.new.self.entries in
    let e : g.row.K.Denot × g.row.V.Denot = c.in-Some.pair in
    let first : left ≡ e ∷ rest = c.in-Some.ensures.steps.0 in
    let put : new ≡ insert_entry g.K.PartialEq.eq given e.0 e.1 =
    subst (λ r. OnOk r (new ≡ insert_entry g.K.PartialEq.eq given e.0 e.1)) c.unwrap.ensures c.insert.ensures.entries in (
      next_given g.met.K.Eq.laws given left rest c.args.pairs.items new e first c.pairs.invariant.0 c.requires.apart put,
      omega (arith, c.pairs.invariant.1, ap length first, c.insert.ensures.spare),
      omega (arith, c.pairs.invariant.2, ap length first, c.in-Some.ensures.steps.1),
    )
