use Rattle.std.proofs.Common.{ap, ◌∙◌}
use Rattle.text_set.specs.Sets.{with_text}
use Rattle.text_set.specs.Sets.{texts}
use Rattle.text_set.proofs.Sets.{with_text-texts}
use Rattle.text_set.proofs.text_set.TextSet.add.Goals as goal

-- the keys behind the insertion, as texts
pub returns-clause-set : goal.returns-clause-set
returns-clause-set c = ap texts c.in_ok-new.ensures.keys
    ∙ (with_text-texts c.args.text c.self.inside.texts.keys
    ∙ ap (λ names. with_text names c.args.text.now) c.self.view_is)
