-- Laws of searches through slots.
use Rattle.std.proofs.Common.{◌≡◌, ℕ, List, [], ◌∷◌, ◌++◌, map, length, refl, sym, ap, ◌∙◌}
use Rattle.std.proofs.lemmas.List.{length-map, length-append}
use Rattle.std.proofs.lemmas.Option.{slice_get-map}
use Rattle.ir_core.specs.CoreForm.{Local}
use Rattle.ir_core.specs.View.{locals_of}
use Rattle.scope_resolver.specs.declared.seek.Search.{Search}
use Rattle.scope_resolver.specs.Layout.{Slots, seek, at_slot}

pub seek-append : (x : Local) (ss ts : Slots) (from : Search) → seek x (ss ++ ts) from ≡ seek x ts (seek x ss from)
seek-append x [] ts from = refl
seek-append x (s ∷ ss) ts from = seek-append x ss ts (at_slot x s from)

pub ruleset search_laws = (seek-append, length-map, length-append, slice_get-map)
