-- What is known after a call that keeps a store.
use Rattle.std.specs.Prelude.{Option, Some, None}
use Rattle.rb_value.specs.declared.value.ObjId.{ObjId}
use Rattle.rb_value.specs.declared.value.SymId.{SymId}
use Rattle.def_core.specs.Sound.{census, Role, Is, IsSymbol, OptionIs, Sound}
use Rattle.rb_store.specs.Held.{Held}
use Rattle.rb_store.specs.Keeps.{Keeps}

pub kept_sound : (h g : Held) → Keeps h g → Sound g.store
kept_sound h g k = k.sound

pub kept_role : (h g : Held) (r : Role) (id : ObjId) → Keeps h g → Is (census h.store) r id → Is (census g.store) r id
kept_role h g r id k is = k.extends.roles r id is

pub kept_option : (h g : Held) (r : Role) (o : Option ObjId) → Keeps h g → OptionIs (Is (census h.store) r) o
    → OptionIs (Is (census g.store) r) o
kept_option h g r None k is = tt
kept_option h g r (Some id) k is = k.extends.roles r id is

pub kept_symbol : (h g : Held) (name : SymId) → Keeps h g → IsSymbol (census h.store) name
    → IsSymbol (census g.store) name
kept_symbol h g name k is = record { below = k.extends.names name.0 is.below }
