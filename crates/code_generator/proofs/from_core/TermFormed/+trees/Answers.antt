use Rattle.std.proofs.Common.{◌≡◌, ap, sym, ◌∙◌, subst}
use Rattle.std.specs.Prelude.{IfOk}
use Rattle.ir_core.specs.View.{term_view}
use Rattle.ir_core.proofs.Views.{core-Cond, core-Call}
use Rattle.code_generator.specs.Built.{form_of}
use Rattle.code_generator.specs.Emission.{form_in}
use Rattle.code_generator.proofs.from_core.TermFormed.+trees.Goals as goal

pub returns-in-Cond : goal.returns-in-Cond
returns-in-Cond t c =
    subst (λ f. IfOk c.choice_tree.result (λ tree. form_of f ≡ form_in tree))
    (sym (ap term_view c.in-Cond.is ∙ core-Cond c.in-Cond.branches c.in-Cond.otherwise)) c.choice_tree.ensures

pub returns-in-Call : goal.returns-in-Call
returns-in-Call t c =
    subst (λ f. IfOk c.call_tree.result (λ tree. form_of f ≡ form_in tree))
    (sym (ap term_view c.in-Call.is ∙ core-Call c.in-Call.receiver c.in-Call.name c.in-Call.items))
    c.call_tree.ensures
