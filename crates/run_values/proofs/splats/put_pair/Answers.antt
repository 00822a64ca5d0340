use Rattle.std.proofs.Common.{◌++◌, List, ap, sym, ◌∙◌, append-nil}
use Rattle.rb_value.specs.Object.{Object}
use Rattle.def_core.specs.Parts.{hash_at}
use Rattle.run_values.proofs.Splatting.{no_pair}
use Rattle.run_values.proofs.splats.put_pair.Goals as goal

pub returns-in-None : goal.returns-in-None
returns-in-None c =
    let objects = c.args.objects.now.items in
    sym (append-nil objects)
    ∙ ap (λ (os : List Object). objects ++ os)
    (sym (no_pair (hash_at c.args.st.now.store.objects c.args.id).pairs c.args.place c.in-None.ensures))
