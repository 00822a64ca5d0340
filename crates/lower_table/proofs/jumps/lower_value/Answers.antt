use Rattle.std.proofs.Common.{◌≡◌, IfOk, subst}
use Rattle.ir_core.specs.View.{core_view}
use Rattle.parser_tree.specs.PartsBy.{item_by}
use Rattle.lower_table.proofs.Several.{value-several}
use Rattle.lower_table.proofs.jumps.lower_value.Goals as goal

pub returns-in_default : goal.returns-in_default
returns-in_default g c =
    subst (λ f. IfOk c.lower_array.result (λ v. core_view v ≡ f))
    (value-several (item_by g.T.Whole.node) _ _ _ _ c.as_slice.ensures.value c.in_default.len_at_least)
    c.lower_array.ensures
