use Rattle.iter_comparing.proofs.Direct.{gives_outright}
use Rattle.iter_comparing.proofs.asking.outright.Goals as goal

pub returns-in_ok-call_row-in-None-straight_of-clause-given : goal.returns-in_ok-call_row-in-None-straight_of-clause-given
returns-in_ok-call_row-in-None-straight_of-clause-given c =
    gives_outright c.args.heap.now c.find_at.new.self c.call_row.new.self c.args.receiver c.args.name c.args.args.now
    c.in-Some.row c.in_ok-call_row-in-None-straight_of.field-0 c.in_ok-find_at.field-0 c.in_ok-find_at.ensures.found
    c.in-Some.ensures c.find_at.ensures.same c.in_ok-call_row-in-None-straight_of.ensures.answers
