use Rattle.std.proofs.Common.{◌<◌, ◌^◌, subst, sym, length, get_or, arith}
use Rattle.std.proofs.lemmas.List.Elements.{All-more}
use Rattle.rite_file.specs.File.{record_of, IsHeld}
use Rattle.rite_file.proofs.Pieces.{puts_more, piece}
use Rattle.rite_file.proofs.writing.put_records.Goals as goal

pub put_record-requires-clause-small : goal.put_record-requires-clause-small
put_record-requires-clause-small c =
    let own = piece record_of c.args.bodies.now c.loop-body.body-index c.body-item.result c.loop-body-test.true in
    let small : length (record_of (get_or c.args.bodies.now c.loop-body.body-index c.body-item.result)) < 2 ^ 32 =
    omega (arith, own, c.requires.small) in
    subst (λ b. length (record_of b) < 2 ^ 32) (sym c.body-item.is) small

pub loop-body-preserved : goal.loop-body-preserved
loop-body-preserved c = record {
  bytes = puts_more record_of c.args.out.now.items c.loop-body.out.items c.put_record.new.out.items c.args.bodies.now
      c.loop-body.body-index c.body-item.result c.body-item.result c.loop-body-test.true c.body-item.is
      c.loop-body.invariant.bytes c.in_ok-put_record.ensures.bytes;
  held = All-more IsHeld c.args.bodies.now c.loop-body.body-index c.body-item.result c.loop-body-test.true
      c.loop-body.invariant.held (subst IsHeld c.body-item.is c.in_ok-put_record.ensures.held);
}
