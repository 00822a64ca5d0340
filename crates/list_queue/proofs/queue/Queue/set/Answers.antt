use Rattle.std.proofs.Common.{◌∙◌, ap}
use Rattle.std.specs.Prelude.{slice_set}
use Rattle.std.proofs.lemmas.List.{drop-set-add}
use Rattle.list_queue.proofs.queue.Queue.set.Goals as goal

pub returns : goal.returns
returns g c =
    drop-set-add c.self.inside.start c.self.inside.items.items c.args.place c.args.value
    ∙ ap (λ l. slice_set l c.args.place c.args.value) c.self.view_is
