-- The name of a class is a symbol of its store.
use Rattle.std.proofs.Common.{◌≡◌, ◌<◌, length, subst}
use Rattle.std.specs.Prelude.{Some}
use Rattle.rb_value.specs.declared.value.ObjId.{ObjId}
use Rattle.rb_value.specs.declared.value.SymId.{SymId}
use Rattle.def_core.specs.Store.{Store}
use Rattle.def_core.specs.Classes.{class_at}
use Rattle.def_core.specs.Sound.{Sound, census, Is, ClassOrModule, OptionIs, IsSymbol}
use Rattle.def_core.proofs.Roles.{sound_class}

pub named_by_symbol : (st : Store) → Sound st → (c : ObjId) → Is (census st) ClassOrModule c → (s : SymId)
    → (class_at st.objects c).name ≡ Some s → s.0 < length st.symbols
named_by_symbol st sound c is s e = (subst (OptionIs (IsSymbol (census st))) e (sound_class st sound c is).name).below
