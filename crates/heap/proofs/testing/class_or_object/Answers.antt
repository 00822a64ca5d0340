use Rattle.std.proofs.Common.{refl}
use Rattle.rb_value.specs.declared.core_class.CoreClass.TheVariants as class
use Rattle.def_core.proofs.Grows.{core_is_class}
use Rattle.heap.proofs.testing.class_or_object.Goals as goal

pub returns-in-None-clause-there : goal.returns-in-None-clause-there
returns-in-None-clause-there c = rw c.class_object.ensures (core_is_class c.args.st.now.store c.requires class.Object refl)
