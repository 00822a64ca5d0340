use Rattle.std.proofs.Common.{◌≡◌, ◌+◌, arith, sym}
use Rattle.std.proofs.lemmas.List.{append-nil}
use Rattle.vm_env.proofs.Windows.{window_more}
use Rattle.vm_env.proofs.envs.copy_window.Goals as goal

pub loop-i-preserved : goal.loop-i-preserved
loop-i-preserved c = record {
  copied = rw c.push_reserved.ensures.items
      (window_more c.args.base c.args.size c.loop-i.i _ c.get.result _ _ c.requires.within c.loop-i-test.true
      c.get.ensures c.loop-i.invariant.copied);
  room = omega arith;
}
