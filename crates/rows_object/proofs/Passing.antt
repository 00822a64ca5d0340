-- What another method answers is what this one does, where its definition says the same.
use Rattle.std.proofs.Common.{◌≡◌, ◌∙◌, ap, sym}
use Rattle.std.specs.Prelude.{Result, Ok, Err}
use Rattle.std.specs.declared.alloc.AllocError.{AllocError}
use Rattle.rb_value.specs.declared.value.Value.{Value}
use Rattle.rb_value.specs.declared.value.SymId.{SymId}
use Rattle.def_core.specs.declared.cause.Cause.{Cause}
use Rattle.def_core.specs.Store.{Store}
use Rattle.def_calls.specs.World.{World, Answer, with_store}
use Rattle.rb_store.specs.Held.{Held}
use Rattle.core_calls.specs.Checks.{name_in}
use Rattle.run_values.specs.declared.given.Given.{Given}
use Rattle.rows_object.specs.Follows.{Follows, named, named_then}

pub same_follows : (before after : Held) (r : Result Given AllocError) (f g : World → Answer)
    → ((w : World) → g (with_store w before.store) ≡ f (with_store w before.store))
    → Follows before after r f → Follows before after r g
same_follows before after (Ok x) f g e h = λ w. e w ∙ h w
same_follows before after (Err x) f g e h = tt

-- and so behind a name that was found
pub named_follows : (before middle after : Held) (r : Result Given AllocError) (v : Value) (name : SymId)
    (next : SymId → World → Answer) → Ok name ≡ (name_in before.store v).name
    → middle.store ≡ (name_in before.store v).store
    → Follows middle after r (next name) → Follows before after r (named v next)
named_follows before middle after (Ok g) v name next e s h = λ w.
    ap (λ (st : Store). named_then (with_store w st) (name_in before.store v).name next) (sym s)
    ∙ ap (λ (n : Result SymId Cause). named_then (with_store w middle.store) n next) (sym e)
    ∙ h w
named_follows before middle after (Err x) v name next e s h = tt
