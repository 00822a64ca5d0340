use Rattle.std.proofs.Common.{arith}
use Rattle.code_listing.specs.Listing as texts
use Rattle.code_listing.proofs.Numbered.{next_numbered, none_numbered}
use Rattle.rb_refusal.proofs.Progress.{started, went_on, stopped, finished}
use Rattle.code_listing.proofs.bodies.write_pool.Goals as goal

pub items-init : goal.items-init
items-init g c = record { progress = started _ _ }

pub returns-in_err-write_pool_item : goal.returns-in_err-write_pool_item
returns-in_err-write_pool_item g c = stopped _ _ _ _ _ _ _ _ _ _ c.in_err-write_pool_item.was
    c.from_residual.ensures.0
    (next_numbered texts.pool_line c.args.items.now c.items.number _ _ c.index-items-number.is c.items-test.true)
    c.items.invariant.progress c.write_pool_item.ensures

pub items-preserved : goal.items-preserved
items-preserved g c = record {
  progress = went_on _ _ _ _ _ _ _ _ _ c.in_ok-write_pool_item.was
      (next_numbered texts.pool_line c.args.items.now c.items.number _ _ c.index-items-number.is c.items-test.true)
      c.items.invariant.progress c.write_pool_item.ensures;
}

pub returns : goal.returns
returns g c = finished _ _ _ _ (none_numbered texts.pool_line c.args.items.now c.items.number (omega arith))
    c.items.invariant.progress
