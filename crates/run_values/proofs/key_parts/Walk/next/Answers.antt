use Rattle.std.proofs.Common.{List, get_or, sym, subst}
use Rattle.rb_value.specs.declared.value.Value.{Value}
use Rattle.rb_value.specs.declared.value.Value.TheVariants.{Nil}
use Rattle.def_core.specs.Parts.{elements_at}
use Rattle.def_core.specs.Sound.{census, Array, IsValue}
use Rattle.def_core.proofs.Good.{is_good}
use Rattle.rb_store.proofs.Kept.{elements_are}
use Rattle.run_values.proofs.Members.{member_is}
use Rattle.run_values.proofs.key_parts.Walk.next.Goals as goal

pub returns-clause-belongs : goal.returns-clause-belongs
returns-clause-belongs c =
    let st = c.args.st.now.store in
    let w = c.args.self.now in
    subst (λ (xs : List Value). IsValue (census st) (get_or xs w.level.at Nil)) (sym c.elements.ensures)
    (member_is (census st) (elements_at st.objects w.level.id) w.level.at
    (elements_are st c.requires.sound w.level.id (is_good st Array w.level.id c.requires.walk.level)))
