use Rattle.std.proofs.Common.{◌++◌, List, length, sym, subst}
use Rattle.rb_value.specs.Object.{Object}
use Rattle.def_core.specs.Parts.{with_objects}
use Rattle.def_core.specs.Sound.{census, SoundFrom}
use Rattle.run_values.proofs.splats.add_numbered.Goals as goal

pub add_all-requires-clause-objects : goal.add_all-requires-clause-objects
add_all-requires-clause-objects c =
    let st = c.args.st.now.store in
    subst (λ (os : List Object). SoundFrom (census (with_objects st (st.objects ++ os))) (length st.objects) os)
    (sym c.from_vec.ensures) c.requires.objects
