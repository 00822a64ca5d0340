use Rattle.std.proofs.Common.{◌≡◌, IfOk, subst, sym}
use Rattle.parser_tree.specs.Node as node
use Rattle.parser_tree.specs.PartsBy.{boxed_by, whens_by}
use Rattle.ir_core.specs.View.{core_view}
use Rattle.lower_table.specs.Lowering.{passes, core}
use Rattle.lower_table.proofs.branches.lower_case.Goals as goal

pub returns-in-None : goal.returns-in-None
returns-in-None g c =
    subst (λ s. IfOk c.lower_tests.result (λ v. core_view v ≡ core (passes c.args.passed.now) c.args.depth
    (node.case_node (boxed_by g.T.Whole.node s) (whens_by g.T.Whole.node c.args.clauses.now.items)
    (boxed_by g.T.Whole.node c.args.otherwise.now)))) (sym c.in-None.is) c.lower_tests.ensures

pub returns-in-Some : goal.returns-in-Some
returns-in-Some g c =
    subst (λ s. IfOk c.lower_subject.result (λ v. core_view v ≡ core (passes c.args.passed.now) c.args.depth
    (node.case_node (boxed_by g.T.Whole.node s) (whens_by g.T.Whole.node c.args.clauses.now.items)
    (boxed_by g.T.Whole.node c.args.otherwise.now)))) (sym c.in-Some.is) c.lower_subject.ensures
