use Rattle.std.proofs.Common.{◌<◌, length, arith, sym, ◌∙◌}
use Rattle.rb_value.specs.CoreClass.{name_of}
use Rattle.rb_store.proofs.Rows.{names_step, names_end}
use Rattle.rb_store.proofs.store.Store.add_names.Goals as goal

pub classes-preserved : goal.classes-preserved
classes-preserved c =
    let within : c.classes.class-index < length c.args.classes.now = omega arith in
    record {
      same = rw (c.in_ok-intern.ensures.ok, c.name.ensures)
          (names_step name_of _ _ _ _ within ∙ c.classes.invariant.same);
      objects = c.in_ok-intern.ensures.objects ∙ c.classes.invariant.objects;
    }

pub returns-clause-ok : goal.returns-clause-ok
returns-clause-ok c = sym (names_end name_of _ _ c.args.classes.now (omega arith)) ∙ c.classes.invariant.same

pub returns-clause-objects : goal.returns-clause-objects
returns-clause-objects c = c.classes.invariant.objects
