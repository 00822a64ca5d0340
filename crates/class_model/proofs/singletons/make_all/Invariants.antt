use Rattle.std.proofs.Common.{◌≡◌, ◌≤◌, length, drop}
use Rattle.def_core.specs.Changes.{make_all}
use Rattle.rb_store.specs.Keeps.{Keeps}
use Rattle.class_model.proofs.singletons.make_all.Given as goal

abbrev pub invariant-ids : goal.invariant-ids
invariant-ids l = record {
  within : l.left ≤ length l.ids;
  made : l.st.store ≡ record l.fn.st.store { objects = make_all l.fn.st.store.objects (drop l.left l.ids) };
  keeps : Keeps l.fn.st l.st;
}

abbrev pub decreases-ids : goal.decreases-ids
decreases-ids l = l.left
