use Rattle.std.proofs.Common.{[], ◌∷◌, ap, sym, ◌∙◌, subst}
use Rattle.rb_value.specs.declared.value.Value.{Value}
use Rattle.rb_value.specs.declared.value.Value.TheVariants.{Obj}
use Rattle.rb_value.specs.declared.value.ObjId.{ObjId}
use Rattle.rb_value.specs.declared.core_class.CoreClass.TheVariants as class
use Rattle.def_core.specs.Store.{core}
use Rattle.def_core.specs.Sound.{census}
use Rattle.def_rows.specs.RangeRows.{new_range, kept_ends, item_of}
use Rattle.core_rows.specs.Belonging.{SoundAnswer}
use Rattle.run_values.proofs.RangeMade.{range_is, made_sound}
use Rattle.run_values.proofs.ranges.range.Goals as goal

pub returns-clause-range : goal.returns-clause-range
returns-clause-range c =
    let st = c.args.st.now.store in
    c.new_range.ensures
    ∙ ap (λ (k : ObjId). new_range st.objects (Obj k) (c.args.first ∷ c.args.last ∷ c.from_truth.result ∷ []))
    c.class_object-class.ensures
    ∙ ap (λ (v : Value). new_range st.objects (Obj (core class.Range)) (c.args.first ∷ c.args.last ∷ v ∷ []))
    c.from_truth.ensures
    ∙ range_is st c.requires c.args.first c.args.last c.args.exclusive

pub returns-clause-sound : goal.returns-clause-sound
returns-clause-sound c =
    let st = c.args.st.now.store in
    subst (SoundAnswer (census st)) (sym (returns-clause-range c))
    (made_sound st c.requires c.args.exclusive (kept_ends (item_of st.objects c.args.first)
    (item_of st.objects c.args.last)))
