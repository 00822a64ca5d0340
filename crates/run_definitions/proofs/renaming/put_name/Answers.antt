use Rattle.std.proofs.Common.{◌≡◌, ap, sym, ◌∙◌, subst}
use Rattle.std.specs.Prelude.{Some}
use Rattle.rb_value.specs.declared.value.ObjId.{ObjId}
use Rattle.rb_value.specs.declared.kind.Kind.TheVariants as kind
use Rattle.rb_value.specs.Object.{Object}
use Rattle.def_core.specs.Store.{object_at}
use Rattle.def_core.specs.Classes.{contents_of}
use Rattle.def_core.specs.Sound.{census, SoundObject}
use Rattle.run_definitions.proofs.Renamed.{stand_in, named, stand_in_sound, renamed_store, renamed_keeps}
use Rattle.run_definitions.proofs.renaming.put_name.Goals as goal

pub returns-clause-ok : goal.returns-clause-ok
returns-clause-ok c =
    let st = c.args.st.now.store in
    let is : c.rename.new.object ≡ named st.objects c.args.class c.args.name = c.rename.ensures
    ∙ ap (λ (o : Object). let n : Object = record o {
      kind = kind.Class (record (contents_of o.kind) { name = Some c.args.name });
    } in n) c.set-object.ensures.old in
    renamed_store st c.set-object.new.self.store c.set.new.self.store c.args.class c.in_ok-other.other
    c.rename.new.object c.args.name c.set-object.ensures.objects c.set.ensures.objects is

pub returns-clause-keeps : goal.returns-clause-keeps
returns-clause-keeps c =
    let st = c.args.st.now.store in
    let is : c.rename.new.object ≡ named st.objects c.args.class c.args.name = c.rename.ensures
    ∙ ap (λ (o : Object). let n : Object = record o {
      kind = kind.Class (record (contents_of o.kind) { name = Some c.args.name });
    } in n) c.set-object.ensures.old in
    let other : c.in_ok-other.other ≡ stand_in (object_at st.objects c.args.class).class c.args.form =
    c.in_ok-other.ensures
    ∙ ap (λ (k : ObjId). stand_in k c.args.form) (c.class.ensures ∙ ap (λ (o : Object). o.class) c.get.ensures) in
    renamed_keeps c.args.st.now c.set-object.new.self c.set.new.self c.args.class c.rename.new.object c.args.name
    c.requires.sound c.requires.class c.requires.name is
    (c.set-object.ensures.keeps c.requires.sound (subst (SoundObject (census st) c.args.class.0) (sym other)
    (stand_in_sound st c.requires.sound c.args.class c.args.form c.requires.class)))
    c.set.ensures.keeps
