-- What a method answers, by another definition that gives the same.
use Rattle.std.proofs.Common.{◌≡◌, ap, sym, ◌∙◌}
use Rattle.std.specs.Prelude.{Result, Ok, Err}
use Rattle.std.specs.declared.alloc.AllocError.{AllocError}
use Rattle.def_core.specs.Store.{Store, Done}
use Rattle.def_calls.specs.World.{answer, with_store}
use Rattle.rb_store.specs.Held.{Held}
use Rattle.run_values.specs.declared.given.Given.{Given}
use Rattle.rows_object.specs.Answered.{Answered}

pub same_answer : (before after : Held) (r : Result Given AllocError) (f g : Store → Done)
    → f before.store ≡ g before.store → Answered before after r f → Answered before after r g
same_answer before after (Ok x) f g e h =
    λ w. ap (λ (d : Done). answer (with_store w before.store) d) (sym e) ∙ h w
same_answer before after (Err x) f g e h = tt
