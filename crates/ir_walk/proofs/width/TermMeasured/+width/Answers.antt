use Rattle.std.proofs.Common.{◌≡◌, ◌++◌, [], ◌∷◌, ap, sym, ◌∙◌, subst}
use Rattle.std.specs.Prelude.{IfOk}
use Rattle.ir_core.specs.View.{term_view}
use Rattle.ir_core.specs.PartsBy as by
use Rattle.ir_core.proofs.Views.{core-Cond, core-Call, core-BlockCall, core-Super}
use Rattle.ir_walk.specs.Width.{width, item_widths, maybe_widths, receiver_width, of_call, has_splat}
use Rattle.ir_walk.proofs.width.TermMeasured.+width.Goals as goal

pub returns-in-Cond : goal.returns-in-Cond
returns-in-Cond t c =
    subst (λ f. IfOk c.cond_width.result (λ w. w ≡ width f))
    (sym (ap term_view c.in-Cond.is ∙ core-Cond c.in-Cond.branches c.in-Cond.otherwise)) c.cond_width.ensures

pub returns-in-Call : goal.returns-in-Call
returns-in-Call t c =
    let splat : c.has_splat.result ≡ has_splat (by.items_by term_view c.in-Call.items.items) =
    c.has_splat.ensures ∙ ap (λ is. has_splat (by.items_by term_view is)) c.deref.ensures.value in
    subst (λ f. IfOk c.plain_call_width.result (λ w. w ≡ width f))
    (sym (ap term_view c.in-Call.is ∙ core-Call c.in-Call.receiver c.in-Call.name c.in-Call.items))
    (subst (λ s. IfOk c.plain_call_width.result (λ w. w ≡ of_call s
    ((receiver_width (by.receiver_by term_view c.in-Call.receiver)
    ∷ item_widths (by.items_by term_view c.in-Call.items.items)) ++ []))) splat c.plain_call_width.ensures)

pub returns-in-BlockCall : goal.returns-in-BlockCall
returns-in-BlockCall t c =
    let splat : c.has_splat-in-BlockCall.result ≡ has_splat (by.items_by term_view c.in-BlockCall.items.items) =
    c.has_splat-in-BlockCall.ensures
    ∙ ap (λ is. has_splat (by.items_by term_view is)) c.deref-in-BlockCall.ensures.value in
    subst (λ f. IfOk c.call_width.result (λ w. w ≡ width f))
    (sym (ap term_view c.in-BlockCall.is
    ∙ core-BlockCall c.in-BlockCall.receiver c.in-BlockCall.name c.in-BlockCall.items c.in-BlockCall.block))
    (subst (λ s. IfOk c.call_width.result (λ w. w ≡ of_call s
    ((receiver_width (by.receiver_by term_view c.in-BlockCall.receiver)
    ∷ item_widths (by.items_by term_view c.in-BlockCall.items.items))
    ++ width (by.core_by term_view c.in-BlockCall.block) ∷ []))) splat c.call_width.ensures)

pub returns-in-Super : goal.returns-in-Super
returns-in-Super t c =
    let splat : c.has_splat-in-Super.result ≡ has_splat (by.items_by term_view c.in-Super.items.items) =
    c.has_splat-in-Super.ensures ∙ ap (λ is. has_splat (by.items_by term_view is)) c.deref-in-Super.ensures.value in
    subst (λ f. IfOk c.super_width.result (λ w. w ≡ width f))
    (sym (ap term_view c.in-Super.is ∙ core-Super c.in-Super.items c.in-Super.block))
    (subst (λ s. IfOk c.super_width.result (λ w. w ≡ of_call s
    ((3 ∷ item_widths (by.items_by term_view c.in-Super.items.items))
    ++ maybe_widths (by.boxed_by term_view c.in-Super.block)))) splat c.super_width.ensures)
