use Rattle.std.proofs.Common.{ap, ◌∙◌}
use Rattle.std.specs.Prelude.{bytes_eq}
use Rattle.std.specs.Map.{lookup}
use Rattle.scope_resolver.proofs.Named.{lookup-shown}
use Rattle.scope_resolver.proofs.registers.Registers.get.Goals as goal

-- what is found among the entries, by the texts of their keys
pub returns : goal.returns
returns c = c.copied.ensures
    ∙ (c.get.ensures.value
    ∙ (lookup-shown c.args.name.now c.self.inside.named.entries
    ∙ ap (lookup (bytes_eq c.args.name.now)) c.self.view_is))
