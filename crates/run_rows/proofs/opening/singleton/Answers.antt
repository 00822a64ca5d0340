use Rattle.std.proofs.Common.{sym, subst}
use Rattle.rb_value.specs.declared.value.ObjId.{ObjId}
use Rattle.run_rows.specs.Opening.{Holds, own_class}
use Rattle.run_rows.proofs.Opened.{own_so}
use Rattle.run_rows.proofs.opening.singleton.Goals as goal

pub returns : goal.returns
returns c =
    subst (λ (own : ObjId). Holds (own_class c.args.heap.now.store c.args.class) own c.singleton_class.new.self.store)
    (sym c.given_or.ensures)
    (own_so c.args.heap.now.store c.singleton_class.new.self.store c.args.class c.in_ok-given.given
    c.in_ok-given.ensures.answers.answer)
