-- Items, one by one.
use Rattle.std.proofs.Common.{◌≡◌, true, List, ◌∷◌, refl, if◌then◌else◌}
use Rattle.rb_syntax.specs.declared.core_form.Item.{Item}
use Rattle.rb_syntax.specs.declared.core_form.Item.TheVariants.{Plain, Splat}
use Rattle.ir_core.specs.CoreForm.{CoreForm, Items}
use Rattle.ir_core.specs.PartsBy.{Boxed, is_plain, item_by, value_by}
use Rattle.ir_walk.specs.declared.extent.Extent.{Extent}
use Rattle.ir_walk.specs.Walk.{Step, walked, walked_items}
use Rattle.ir_walk.specs.Width.{has_splat, item_widths, width}

pub walked-item : {T : Type 0} (v : T → CoreForm) (e : Extent) (s : List Step) (i : Item (Boxed T)) (is : Items)
    → walked_items e s (item_by v i is) ≡ walked_items e (walked e s (value_by v i)) is
walked-item v e s (Plain c) is = refl
walked-item v e s (Splat c) is = refl

pub item-widths : {T : Type 0} (v : T → CoreForm) (i : Item (Boxed T)) (is : Items)
    → item_widths (item_by v i is) ≡ width (value_by v i) ∷ item_widths is
item-widths v (Plain c) is = refl
item-widths v (Splat c) is = refl

pub splat-item : {T : Type 0} (v : T → CoreForm) (i : Item (Boxed T)) (is : Items)
    → has_splat (item_by v i is) ≡ (if is_plain i then has_splat is else true)
splat-item v (Plain c) is = refl
splat-item v (Splat c) is = refl

pub ruleset item_laws = (walked-item, item-widths, splat-item)
