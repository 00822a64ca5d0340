use Rattle.std.proofs.Common.{◌-◌, ap, ◌∙◌}
use Rattle.rb_value.specs.declared.value.Value.TheVariants.{Nil}
use Rattle.method_lookup.proofs.Ranges.{nils_are}
use Rattle.method_lookup.proofs.given.Given.nils.Goals as goal

pub returns : goal.returns
returns c = nils_are Nil c.args.self.now.values.now c.args.self.now.missing c.args.from c.args.to _ c.requires.within
    (c.saturating_sub.ensures ∙ ap (λ n. c.args.to - n) c.max.ensures)
