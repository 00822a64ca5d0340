use Rattle.lexer_depth.specs.Held.{measures_of}
use Rattle.lexer_depth.proofs.Around.{none_closed, ended_is, ended_deep}
use Rattle.std.proofs.Common.{arith}
use Rattle.lexer_depth.proofs.stack.Stack.end.Goals as goal

pub returns-then-self-eq0-clause-value : goal.returns-then-self-eq0-clause-value
returns-then-self-eq0-clause-value c = none_closed c.args.self.now.around c.args.self.now.started
    (measures_of c.args.self.now.top) c.if-self-eq0.true

pub returns-in-Some-clause-value : goal.returns-in-Some-clause-value
returns-in-Some-clause-value c = ended_is c.args.self.now.around c.args.self.now.started
    (measures_of c.args.self.now.top) c.index-self-self.result c.in-Some.top (omega arith) (omega arith)
    c.in-Some.ensures

pub returns-in-None-clause-value : goal.returns-in-None-clause-value
returns-in-None-clause-value c = ended_deep c.args.self.now.around c.args.self.now.started
    (measures_of c.args.self.now.top) c.index-self-self.result (omega arith) (omega arith) c.in-None.ensures
