use Rattle.lexer_depth.specs.Held.{measures_of}
use Rattle.lexer_depth.proofs.Around.{started_is, started_deep}
use Rattle.std.proofs.Common.{arith}
use Rattle.lexer_depth.proofs.stack.Stack.start.Goals as goal

pub returns-then-self-eq-MOST : goal.returns-then-self-eq-MOST
returns-then-self-eq-MOST c = started_deep c.args.self.now.around c.args.self.now.started
    (measures_of c.args.self.now.top) c.args.head c.if-self-eq-MOST.true

pub returns : goal.returns
returns c = started_is c.args.self.now.around c.args.self.now.started c.args.self.now.top c.new-self.result c.args.head
    (omega arith) c.new-self.ensures
