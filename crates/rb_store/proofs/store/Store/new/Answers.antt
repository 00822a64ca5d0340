use Rattle.std.proofs.Common.{◌≡◌, map, ap, sym, ◌∙◌, subst, List}
use Rattle.std.specs.Prelude.{codes}
use Rattle.rb_value.specs.CoreClass.{core_classes, name_of}
use Rattle.rb_value.specs.Object.{Object}
use Rattle.def_core.specs.Store.{Store}
use Rattle.def_core.specs.Changes.{intern}
use Rattle.def_core.specs.Sound.{AllAre, Sound}
use Rattle.row_table.specs.Segments.{segments}
use Rattle.rb_store.specs.Held.{Held}
use Rattle.rb_store.specs.Opening.{opening, bare, with_names, with_segments, IsHeld}
use Rattle.rb_store.proofs.Rows.{nameless_held}
use Rattle.rb_store.proofs.Start.{opening_sound}
use Rattle.rb_store.proofs.store.Store.new.Goals as goal

pub add_segments-requires : goal.add_segments-requires
add_segments-requires c =
    let e = c.in_ok-intern.ensures.objects ∙ c.in_ok-add_names.ensures.objects
    ∙ ap (λ (st : Store). st.objects) c.in_ok-store.ensures in
    subst (λ (objects : List Object). AllAre (IsHeld objects) segments) (sym e) nameless_held

pub returns-clause-store : goal.returns-clause-store
unfolding opening bare core_classes
returns-clause-store c =
    let named = c.in_ok-add_names.ensures.ok ∙ ap (λ (st : Store). with_names st (map name_of core_classes))
    c.in_ok-store.ensures in
    let all = c.in_ok-intern.ensures.ok ∙ ap (λ (st : Store). (intern st (codes "Yielder")).store) named in
    ap (λ (h : Held). h.store) c.store-3.view_is ∙ c.in_ok-add_segments.ensures
    ∙ ap (λ (st : Store). with_segments st segments) all

pub returns-clause-sound : goal.returns-clause-sound
returns-clause-sound c = subst Sound (sym (returns-clause-store c)) opening_sound
