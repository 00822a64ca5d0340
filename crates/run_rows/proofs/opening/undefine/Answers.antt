use Rattle.std.proofs.Common.{◌<◌, length, arith, sym, ◌∙◌}
use Rattle.run_rows.proofs.Opened.{more_undefined, undefined_end, undefined_so}
use Rattle.run_rows.proofs.opening.undefine.Goals as goal

pub classes-preserved : goal.classes-preserved
classes-preserved c =
    let within : c.classes.class-index < length c.args.classes.now = omega arith in
    more_undefined c.classes.heap.store c.singleton.new.heap.store c.undefine_method.new.self.store _ c.in_ok-name.name
    c.classes.class-index c.args.classes.now _ c.class_object-class.result c.in_ok-own.own within c.class_object-class.ensures
    c.in_ok-own.ensures
    (undefined_so c.singleton.new.heap.store c.undefine_method.new.self.store c.in_ok-own.own c.in_ok-name.name
    c.in_ok-undefine_method.field-0 c.in_ok-undefine_method.ensures.answers.answer) c.classes.invariant

pub returns : goal.returns
returns c =
    sym (undefined_end c.classes.heap.store c.in_ok-name.name c.classes.class-index c.args.classes.now (omega arith))
    ∙ c.classes.invariant
