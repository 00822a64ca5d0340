use Rattle.std.proofs.Common.{◌≡◌, IfOk, subst}
use Rattle.ir_core.specs.View.{core_view}
use Rattle.parser_tree.specs.PartsBy.{tree_by}
use Rattle.lower_table.proofs.Several.{statements-several}
use Rattle.lower_table.proofs.asked.ask_statements.Goals as goal

pub returns-in_default : goal.returns-in_default
returns-in_default g c =
    subst (λ f. IfOk c.asks-in_default.result (λ v. core_view v ≡ f))
    (statements-several (tree_by g.T.Whole.node) _ _ _ _ c.as_slice.ensures.value c.in_default.len_at_least)
    c.asks-in_default.ensures
