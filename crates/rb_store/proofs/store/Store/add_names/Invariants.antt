use Rattle.std.proofs.Common.{◌≡◌, drop, map}
use Rattle.rb_value.specs.CoreClass.{name_of}
use Rattle.rb_store.specs.Opening.{with_names}
use Rattle.rb_store.proofs.store.Store.add_names.Given as goal

abbrev pub invariant-classes : goal.invariant-classes
invariant-classes l = record {
  same : with_names l.self.store (map name_of (drop l.class-index l.classes)) ≡ with_names l.fn.self.store
      (map name_of l.classes);
  objects : l.self.store.objects ≡ l.fn.self.store.objects;
}
