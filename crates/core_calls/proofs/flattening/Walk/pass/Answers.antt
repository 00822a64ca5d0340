use Rattle.std.proofs.Common.{refl, sym, ◌∙◌}
use Rattle.core_calls.proofs.Flat.{passes_value, passes_entered}
use Rattle.core_calls.proofs.flattening.Walk.pass.Goals as goal

pub returns-in-Some : goal.returns-in-Some
returns-in-Some c = passes_entered c.args.heap.now.store.objects c.args.self.now c.enter.new.self c.args.value
    c.in-Some.array c.enter.result (sym c.in-Some.is ∙ c.an_array.ensures) c.enter.ensures

pub returns-in_ok-push-in-None : goal.returns-in_ok-push-in-None
returns-in_ok-push-in-None c = passes_value c.args.heap.now.store.objects c.args.self.now
    (record { empty = c.args.self.now.empty; values = c.push.new.self; levels = c.args.self.now.levels }) c.args.value
    (sym c.in-None.is ∙ c.an_array.ensures) refl c.in_ok-push-in-None.ensures.items refl
