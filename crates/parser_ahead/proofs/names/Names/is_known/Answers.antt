use Rattle.std.proofs.Common.{ap, ◌∙◌, List}
use Rattle.parser_ahead.specs.Names.{is_known}
use Rattle.parser_ahead.specs.declared.names.Variable.{Variable}
use Rattle.parser_ahead.proofs.Counting.{among_known}
use Rattle.parser_ahead.proofs.names.Names.is_known.Goals as goal

pub returns : goal.returns
returns c = c.contains.ensures
    ∙ (among_known c.args.name.now c.self.inside.kept.items c.self.inside.known c.self.invariant
    ∙ ap (λ (vs : List Variable). is_known c.args.name.now vs) c.self.view_is)
