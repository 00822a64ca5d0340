use Rattle.std.proofs.Common.{◌≡◌, ◌++◌, List, length, subst, sym, arith}
use Rattle.std.proofs.lemmas.Grind.{common_steps}
use Rattle.rb_value.specs.Object.{Object}
use Rattle.def_core.specs.Store.{Store}
use Rattle.def_core.specs.Parts.{with_objects}
use Rattle.def_core.specs.Sound.{census, SoundFrom}
use Rattle.core_rows.proofs.Texts.{made_of, made_are_sound}
use Rattle.core_rows.proofs.making.make_texts.Goals as goal

pub add_all-requires-clause-objects : goal.add_all-requires-clause-objects
add_all-requires-clause-objects c =
    let st : Store = c.args.st.now.store in
    let e : c.from_vec-2.result ≡ made_of st c.args.texts = grind (arith, common_steps) in
    subst (λ (os : List Object). SoundFrom (census (with_objects st (st.objects ++ os))) (length st.objects) os) (sym e)
    (made_are_sound st c.requires c.args.texts)
