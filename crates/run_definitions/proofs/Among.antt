-- Answers in worlds with given lists of enclosing classes.
use Rattle.std.proofs.Common.{◌≡◌, List, ◌∙◌}
use Rattle.std.specs.Prelude.{Result, Ok, Err}
use Rattle.std.specs.declared.alloc.AllocError.{AllocError}
use Rattle.rb_store.specs.Held.{Held}
use Rattle.def_calls.specs.World as world
use Rattle.def_calls.specs.World.{World, Answer, with_store}
use Rattle.run_values.specs.declared.given.Given.{Given}
use Rattle.run_values.specs.Answers.{Answers}
use Rattle.run_definitions.specs.Enclosing.{enclosed, AnswersAmong}

-- a definition that says the same as another in the worlds with these lists
pub answers_among : (lists : List world.Enclosing) (before after : Held) (r : Result Given AllocError)
    (d e : World → Answer)
    → ((w : World) → d (with_store (enclosed lists w) before.store) ≡ e (with_store (enclosed lists w) before.store))
    → Answers before after r e → AnswersAmong lists before after r d
answers_among lists before after (Ok g) d e same h = record {
  answer = λ w. same w ∙ h.answer (enclosed lists w);
  belongs = h.belongs;
  keeps = h.keeps;
}
answers_among lists before after (Err x) d e same h = record { answer = tt; belongs = tt; keeps = h.keeps }
