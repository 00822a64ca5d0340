use Rattle.std.proofs.Common.{◌≡◌, ◌+◌, drop, map}
use Rattle.def_core.specs.Sound.{sorts_of}
use Rattle.rb_store.specs.Opening.{with_rows}
use Rattle.rb_store.proofs.store.Store.add_rows.Given as goal

abbrev pub invariant-rows : goal.invariant-rows
invariant-rows l = record {
  same : with_rows l.self.store l.fn.class (l.first + l.i) (map (λ name. name.now) (drop l.i l.names)) ≡ with_rows
      l.fn.self.store l.fn.class l.fn.first (map (λ name. name.now) l.names);
  sorts : sorts_of l.self.store.objects ≡ sorts_of l.fn.self.store.objects;
}
