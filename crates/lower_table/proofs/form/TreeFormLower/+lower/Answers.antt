use Rattle.ir_core.specs.View.{core_view}
use Rattle.lower_table.specs.Lowering.{passes, operate, store}
use Rattle.parser_tree.proofs.ViewsBy.{view-If, view-For, view-Case, view-Index, view-Super, view-Yield, view-Return, view-Break, view-Next, view-MultipleAssign}
use Rattle.lower_table.proofs.Lowered.{shown-by, lowered-by, call-by, define-by, class-by, module-by}
use Rattle.lower_table.proofs.form.TreeFormLower.+lower.Goals as goal

pub lower-returns-in-If : goal.lower-returns-in-If
lower-returns-in-If t c =
    lowered-by _ _ _ _ _ _ c.in-If.is (view-If c.in-If.branches c.in-If.otherwise) c.lower_if.ensures

pub lower-returns-in-For : goal.lower-returns-in-For
lower-returns-in-For t c =
    lowered-by _ _ _ _ _ _ c.in-For.is (view-For c.in-For.targets c.in-For.items c.in-For.body) c.lower_for.ensures

pub lower-returns-in-Case : goal.lower-returns-in-Case
lower-returns-in-Case t c =
    lowered-by _ _ _ _ _ _ c.in-Case.is
    (view-Case c.in-Case.subject c.in-Case.clauses c.in-Case.otherwise) c.lower_case.ensures

pub lower-returns-in-Call : goal.lower-returns-in-Call
lower-returns-in-Call t c =
    lowered-by _ _ _ _ _ _ c.in-Call.is
    (call-by c.in-Call.receiver c.in-Call.name _ c.in-Call.arguments c.in-Call.block c.as_slice-in-Call.ensures)
    c.lower_call.ensures

pub lower-returns-in-Index : goal.lower-returns-in-Index
lower-returns-in-Index t c =
    lowered-by _ _ _ _ _ _ c.in-Index.is (view-Index c.in-Index.e c.in-Index.items) c.lower_index.ensures

pub lower-returns-in-Super : goal.lower-returns-in-Super
lower-returns-in-Super t c =
    lowered-by _ _ _ _ _ _ c.in-Super.is
    (view-Super c.in-Super.arguments c.in-Super.block c.in-Super.at) c.lower_super.ensures

pub lower-returns-in-Yield : goal.lower-returns-in-Yield
lower-returns-in-Yield t c =
    lowered-by _ _ _ _ _ _ c.in-Yield.is (view-Yield c.in-Yield.items c.in-Yield.at) c.lower_yield.ensures

pub lower-returns-in-Return : goal.lower-returns-in-Return
lower-returns-in-Return t c =
    lowered-by _ _ _ _ _ _ c.in-Return.is (view-Return c.in-Return.items c.in-Return.at) c.lower_jump.ensures

pub lower-returns-in-Break : goal.lower-returns-in-Break
lower-returns-in-Break t c =
    lowered-by _ _ _ _ _ _ c.in-Break.is (view-Break c.in-Break.items c.in-Break.at) c.lower_jump-in-Break.ensures

pub lower-returns-in-Next : goal.lower-returns-in-Next
lower-returns-in-Next t c =
    lowered-by _ _ _ _ _ _ c.in-Next.is (view-Next c.in-Next.items c.in-Next.at) c.lower_jump-in-Next.ensures

pub lower-returns-in-MultipleAssign : goal.lower-returns-in-MultipleAssign
lower-returns-in-MultipleAssign t c =
    lowered-by _ _ _ _ _ _ c.in-MultipleAssign.is
    (view-MultipleAssign c.in-MultipleAssign.targets c.in-MultipleAssign.value) c.lower_multiple.ensures

pub lower-returns-in-Define : goal.lower-returns-in-Define
lower-returns-in-Define t c =
    lowered-by _ _ _ _ _ _ c.in-Define.is
    (define-by c.in-Define.singleton c.in-Define.name _ c.in-Define.definition c.as_slice-in-Define.ensures)
    c.lower_define.ensures

pub lower-returns-in-Class : goal.lower-returns-in-Class
lower-returns-in-Class t c =
    lowered-by _ _ _ _ _ _ c.in-Class.is
    (class-by c.in-Class.scope c.in-Class.name _ c.in-Class.parent c.in-Class.body c.as_slice-in-Class.ensures)
    c.lower_class.ensures

pub lower-returns-in-Module : goal.lower-returns-in-Module
lower-returns-in-Module t c =
    lowered-by _ _ _ _ _ _ c.in-Module.is
    (module-by c.in-Module.scope c.in-Module.name _ c.in-Module.body c.as_slice-in-Module.ensures)
    c.lower_module.ensures

pub operate-returns-in-Index : goal.operate-returns-in-Index
operate-returns-in-Index t c =
    shown-by _ (λ n. operate (passes c.args.passed.now) c.args.depth n c.args.operator
    (core_view c.args.value)) _ _ _ c.in-Index.is
    (view-Index c.in-Index.e c.in-Index.items) c.operate_index.ensures

pub store-returns-in-Index : goal.store-returns-in-Index
store-returns-in-Index t c =
    shown-by _ (λ n. store (passes c.args.passed.now) c.args.depth n (core_view c.args.value)) _ _ _ c.in-Index.is
    (view-Index c.in-Index.e c.in-Index.items) c.store_index.ensures
