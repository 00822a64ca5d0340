-- When a call answers as a definition does.
use Rattle.std.proofs.Common.{◌≡◌, refl, ap, sym, ◌∙◌, true≢false}
use Rattle.std.specs.Prelude.{Result, Ok, Err, IsErr}
use Rattle.std.specs.declared.alloc.AllocError.{AllocError}
use Rattle.rb_value.specs.declared.outcome.Outcome.{Outcome}
use Rattle.rb_value.specs.declared.outcome.Outcome.TheVariants as outcome
use Rattle.def_core.specs.Store.{Store, Done}
use Rattle.def_core.specs.Sound.{census}
use Rattle.rb_store.specs.Held.{Held}
use Rattle.rb_store.specs.Keeps.{Keeps}
use Rattle.rb_store.proofs.Keeping.{keeps_then}
use Rattle.def_calls.specs.World as world
use Rattle.def_calls.specs.World.{World, Answer, with_store}
use Rattle.run_values.specs.declared.given.Given.{Given}
use Rattle.run_values.specs.Answers.{Answers, IsGiven, result_of}

-- an answer with a result and a store
abbrev pub answer_with : World → world.Result → Store → Answer
answer_with w r st = record { result = r; world = with_store w st }

pub same_answer : (w : World) (r q : world.Result) (st su : Store) → r ≡ q → st ≡ su
    → answer_with w r st ≡ answer_with w q su
same_answer w r q st su e f = ap (λ (x : world.Result). answer_with w x st) e ∙ ap (answer_with w q) f

-- what is given or raised, by an answer with that result and that store
pub answers_ok : (before after : Held) (g : Given) (d : World → Answer) (r : world.Result) (st : Store)
    → ((w : World) → d (with_store w before.store) ≡ answer_with w r st)
    → result_of g ≡ r → after.store ≡ st → IsGiven (census after.store) g → Keeps before after
    → Answers before after (Ok g) d
answers_ok before after g d r st answer e f belongs keeps = record {
  answer = λ w. answer w ∙ same_answer w r (result_of g) st after.store (sym e) (sym f);
  belongs = belongs;
  keeps = keeps;
}

-- memory ran out
pub answers_failed : (before after : Held) (r : Result Given AllocError) (d : World → Answer) → IsErr r
    → Keeps before after → Answers before after r d
answers_failed before after (Ok g) d h keeps = absurd (true≢false (sym h))
answers_failed before after (Err e) d h keeps = record { answer = tt; belongs = tt; keeps = keeps }

-- a definition that says the same
pub answers_alike : (before after : Held) (r : Result Given AllocError) (d c : World → Answer)
    → ((w : World) → c (with_store w before.store) ≡ d (with_store w before.store)) → Answers before after r d
    → Answers before after r c
answers_alike before after (Ok g) d c same h = record {
  answer = λ w. same w ∙ h.answer w;
  belongs = h.belongs;
  keeps = h.keeps;
}
answers_alike before after (Err e) d c same h = record { answer = tt; belongs = tt; keeps = h.keeps }

-- a call that keeps the store, and then one that answers for all
pub answers_then : (a b c : Held) (r : Result Given AllocError) (d e : World → Answer) → Keeps a b
    → ((w : World) → d (with_store w a.store) ≡ e (with_store w b.store)) → Answers b c r e → Answers a c r d
answers_then a b c (Ok g) d e keeps same h = record {
  answer = λ w. same w ∙ h.answer w;
  belongs = h.belongs;
  keeps = keeps_then a b c keeps h.keeps;
}
answers_then a b c (Err x) d e keeps same h = record {
  answer = tt;
  belongs = tt;
  keeps = keeps_then a b c keeps h.keeps;
}

-- the answer of an outcome is the same whatever the store was before it
pub same_outcome : (w : World) (a b : Store) (st : Store) (o : Outcome)
    → world.answer_in (with_store w a) st o ≡ world.answer_in (with_store w b) st o
same_outcome w a b st (outcome.Value v) = refl
same_outcome w a b st (outcome.Raise f) = refl

-- a call that gives an outcome and a store, and then the answer of the outcome
pub answers_done : (a b c : Held) (r : Result Given AllocError) (o : Outcome) (d : Store → Done) → Keeps a b
    → o ≡ (d a.store).outcome → b.store ≡ (d a.store).store
    → Answers b c r (λ w. world.answer_in w w.store o) → Answers a c r (λ w. world.answer w (d w.store))
answers_done a b c r o d keeps e f h =
    answers_then a b c r (λ w. world.answer w (d w.store)) (λ w. world.answer_in w w.store o) keeps
    (λ w. same_outcome w a.store b.store (d a.store).store (d a.store).outcome
    ∙ ap (λ (st : Store). world.answer_in (with_store w b.store) st (d a.store).outcome) (sym f)
    ∙ ap (world.answer_in (with_store w b.store) b.store) (sym e)) h
