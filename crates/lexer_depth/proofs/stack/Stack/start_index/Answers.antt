use Rattle.lexer_depth.specs.Held.{measures_of, around_of}
use Rattle.lexer_depth.proofs.Growth.{index_deep}
use Rattle.lexer_depth.proofs.stack.Stack.start_index.Goals as goal

pub returns-in-None : goal.returns-in-None
returns-in-None c = index_deep (measures_of c.args.self.now.top)
    (around_of c.args.self.now.started c.args.self.now.around) c.in-None.ensures
