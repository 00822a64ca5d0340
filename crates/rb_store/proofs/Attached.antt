-- A singleton class that is put after the other objects.
use Rattle.std.proofs.Common.{◌≡◌, ◌<◌, List, [], ◌∷◌, ◌++◌, length, ap, ◌∙◌}
use Rattle.std.specs.Prelude.{Some}
use Rattle.std.proofs.lemmas.List.{set-append_left, get_or_append_left}
use Rattle.rb_value.specs.declared.value.ObjId.{ObjId}
use Rattle.rb_value.specs.Object.{Object}
use Rattle.def_core.specs.Store.{absent, object_at, set_object, object_number}
use Rattle.def_core.specs.Parts.{with_singleton_class}

-- the object among all, with the class after them, gets it
pub attached : (objects : List Object) (id : ObjId) (class : Object) → id.0 < length objects
    → set_object (objects ++ class ∷ []) id
    (record (object_at (objects ++ class ∷ []) id) { singleton = Some (object_number (length objects)) })
    ≡ with_singleton_class objects id class
attached objects id class within =
    ap (λ (o : Object). set_object (objects ++ class ∷ []) id
    (record o { singleton = Some (object_number (length objects)) }))
    (get_or_append_left objects (class ∷ []) absent id.0 within)
    ∙ set-append_left objects (class ∷ []) id.0
    (record (object_at objects id) { singleton = Some (object_number (length objects)) }) within
