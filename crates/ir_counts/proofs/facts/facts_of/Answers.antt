use Rattle.std.proofs.Common.{◌≡◌, ◌+◌, ◌*◌, ap, sym, ◌∙◌, subst}
use Rattle.std.specs.Prelude.{IfOk}
use Rattle.ir_core.specs.View.{term_view}
use Rattle.ir_core.specs.Parts as part
use Rattle.ir_core.proofs.Views.{core-Cond, core-Call, core-BlockCall, core-Super}
use Rattle.ir_counts.specs.Facts.{view}
use Rattle.ir_counts.specs.Tables as tables
use Rattle.ir_counts.proofs.facts.facts_of.Goals as goal

pub returns-in-Cond : goal.returns-in-Cond
returns-in-Cond c =
    subst (λ g. IfOk c.of_cond.result (λ f. view f ≡ tables.added g))
    (sym (ap term_view c.in-Cond.is ∙ core-Cond c.in-Cond.branches c.in-Cond.field-1))
    (subst (λ bs. IfOk c.of_cond.result (λ f. view f ≡ tables.plain
    (16 + 16 * tables.branch_count (part.branches bs)))) c.deref-in-Cond.ensures.value c.of_cond.ensures)

pub returns-in-Call : goal.returns-in-Call
returns-in-Call c =
    subst (λ g. IfOk c.of_call.result (λ f. view f ≡ tables.added g))
    (sym (ap term_view c.in-Call.is ∙ core-Call c.in-Call.receiver c.in-Call.name c.in-Call.items))
    (subst (λ is. IfOk c.of_call.result (λ f. view f ≡ tables.symbolic
    (16 + tables.items_code (part.items is)) 0 c.in-Call.name)) c.deref-in-Call.ensures.value
    c.of_call.ensures)

pub returns-in-BlockCall : goal.returns-in-BlockCall
returns-in-BlockCall c =
    subst (λ g. IfOk c.of_call-in-BlockCall.result (λ f. view f ≡ tables.added g))
    (sym (ap term_view c.in-BlockCall.is
    ∙ core-BlockCall c.in-BlockCall.receiver c.in-BlockCall.name c.in-BlockCall.items c.in-BlockCall.block))
    (subst (λ is. IfOk c.of_call-in-BlockCall.result (λ f. view f ≡ tables.symbolic
    (16 + tables.items_code (part.items is)) 0 c.in-BlockCall.name)) c.deref-in-BlockCall.ensures.value
    c.of_call-in-BlockCall.ensures)

pub returns-in-Super : goal.returns-in-Super
returns-in-Super c =
    subst (λ g. IfOk c.passing-in-Super.result (λ f. view f ≡ tables.added g))
    (sym (ap term_view c.in-Super.is ∙ core-Super c.in-Super.items c.in-Super.field-1))
    (subst (λ is. IfOk c.passing-in-Super.result
    (λ f. view f ≡ tables.plain (32 + tables.items_code (part.items is)))) c.deref-in-Super.ensures.value
    c.passing-in-Super.ensures)
