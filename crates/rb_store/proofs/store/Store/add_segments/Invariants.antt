use Rattle.std.proofs.Common.{◌≡◌, drop}
use Rattle.def_core.specs.Sound.{sorts_of}
use Rattle.rb_store.specs.Opening.{with_segments}
use Rattle.rb_store.proofs.store.Store.add_segments.Given as goal

abbrev pub invariant-segments : goal.invariant-segments
invariant-segments l = record {
  same : with_segments l.self.store (drop l.segment-index l.segments) ≡ with_segments l.fn.self.store l.segments;
  sorts : sorts_of l.self.store.objects ≡ sorts_of l.fn.self.store.objects;
}
