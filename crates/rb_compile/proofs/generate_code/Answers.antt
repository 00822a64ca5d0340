use Rattle.std.proofs.Common.{sym, ◌∙◌}
use Rattle.ir_core.specs.View.{body_view}
use Rattle.rb_compile.proofs.Coded.{coded, refused_past, refused_unbuilt}
use Rattle.rb_compile.proofs.generate_code.Goals as goal

pub returns-in-Some-2-clause-refused : goal.returns-in-Some-2-clause-refused
returns-in-Some-2-clause-refused c =
    refused_past c.args.text.now (body_view c.args.core.now) c.in-Some.code c.in-Some-2.excess c.requires
    (sym c.in-Some.is ∙ c.in_ok-code.ensures) (sym c.in-Some-2.is ∙ c.in_ok-excess.ensures)

pub returns-in-None-clause-code : goal.returns-in-None-clause-code
returns-in-None-clause-code c =
    coded c.args.text.now (body_view c.args.core.now) c.in-Some.code c.requires
    (sym c.in-Some.is ∙ c.in_ok-code.ensures) (sym c.in-None.is ∙ c.in_ok-excess.ensures)

pub returns-in_default-clause-refused : goal.returns-in_default-clause-refused
returns-in_default-clause-refused c =
    refused_unbuilt c.args.text.now (body_view c.args.core.now) c.requires (sym c.in_default.is ∙ c.in_ok-code.ensures)
