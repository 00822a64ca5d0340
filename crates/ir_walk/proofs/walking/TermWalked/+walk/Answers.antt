use Rattle.std.proofs.Common.{◌≡◌, ap, sym, ◌∙◌, subst}
use Rattle.std.specs.Prelude.{OnOk}
use Rattle.ir_core.specs.View.{term_view}
use Rattle.ir_core.specs.PartsBy as by
use Rattle.ir_core.proofs.Views.{core-BlockCall}
use Rattle.ir_walk.specs.Steps.{steps}
use Rattle.ir_walk.specs.Walk.{met, walked, walked_items, walked_receiver}
use Rattle.ir_walk.proofs.walking.TermWalked.+walk.Goals as goal

pub returns-in-BlockCall : goal.returns-in-BlockCall
returns-in-BlockCall t c =
    let old = steps c.args.trail.now.items in
    let called = ap term_view c.in-BlockCall.is
    ∙ core-BlockCall c.in-BlockCall.receiver c.in-BlockCall.name c.in-BlockCall.items c.in-BlockCall.block in
    subst (λ f. OnOk c.walk_call.result (steps c.walk_call.new.trail.items ≡ walked c.args.extent old f)) (sym called)
    (subst (λ s. OnOk c.walk_call.result (steps c.walk_call.new.trail.items ≡ walked c.args.extent
    (walked_items c.args.extent (walked_receiver c.args.extent s (by.receiver_by term_view c.in-BlockCall.receiver))
    (by.items_by term_view c.in-BlockCall.items.items)) (by.core_by term_view c.in-BlockCall.block)))
    (c.in_ok-meet.ensures ∙ ap (met old) called) c.walk_call.ensures)
