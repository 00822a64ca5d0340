use Rattle.std.proofs.Common.{subst}
use Rattle.std.proofs.lemmas.List.Elements.{All-more}
use Rattle.rite_file.specs.File.{pool_item, IsHeldItem}
use Rattle.rite_file.proofs.Pieces.{puts_more}
use Rattle.rite_file.proofs.writing.put_items.Goals as goal

pub loop-item-preserved : goal.loop-item-preserved
loop-item-preserved c = record {
  bytes = puts_more pool_item c.args.out.now.items c.loop-item.out.items c.put_item.new.out.items c.args.items.now
      c.loop-item.item-index c.item-item.result c.item-item.result c.loop-item-test.true c.item-item.is
      c.loop-item.invariant.bytes c.in_ok-put_item.ensures.bytes;
  held = All-more IsHeldItem c.args.items.now c.loop-item.item-index c.item-item.result c.loop-item-test.true
      c.loop-item.invariant.held (subst IsHeldItem c.item-item.is c.in_ok-put_item.ensures.held);
}
