use Rattle.std.proofs.Common.{ap, sym, ◌∙◌, subst}
use Rattle.parser_tree.specs.View.{form_view}
use Rattle.parser_tree.proofs.ViewsBy.{view-Case, view-Call, view-Class, view-Super}
use Rattle.parser_checks.proofs.Assigned.{view-Assign}
use Rattle.parser_checks.specs.Places.{Walks, walk}
use Rattle.parser_checks.proofs.tree.TreeFormPlaced.+check.Goals as goal

pub check-returns-in-Case : goal.check-returns-in-Case
check-returns-in-Case t c =
    subst (λ n. Walks c.check_case.result (walk c.args.context.around n c.args.best))
    (sym (ap form_view c.in-Case.is ∙ view-Case c.in-Case.subject c.in-Case.clauses c.in-Case.otherwise))
    c.check_case.ensures

pub check-returns-in-Call : goal.check-returns-in-Call
check-returns-in-Call t c =
    subst (λ n. Walks c.check_call.result (walk c.args.context.around n c.args.best))
    (sym (ap form_view c.in-Call.is ∙ view-Call c.in-Call.receiver c.in-Call.name c.in-Call.arguments c.in-Call.block))
    c.check_call.ensures

pub check-returns-in-Super : goal.check-returns-in-Super
check-returns-in-Super t c =
    subst (λ n. Walks c.check_super.result (walk c.args.context.around n c.args.best))
    (sym (ap form_view c.in-Super.is ∙ view-Super c.in-Super.arguments c.in-Super.block c.in-Super.at))
    c.check_super.ensures

pub check-returns-in-Class : goal.check-returns-in-Class
check-returns-in-Class t c =
    let form = c.in-Class in
    subst (λ n. Walks c.check_class.result (walk c.args.context.around n c.args.best))
    (sym (ap form_view form.is ∙ view-Class form.scope form.name form.parent form.body)) c.check_class.ensures

pub check-returns-in-Assign : goal.check-returns-in-Assign
check-returns-in-Assign t c =
    subst (λ n. Walks c.check_assign.result (walk c.args.context.around n c.args.best))
    (sym (ap form_view c.in-Assign.is ∙ view-Assign c.in-Assign.target c.in-Assign.e)) c.check_assign.ensures
