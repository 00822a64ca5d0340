-- What a call of a row gives is what its definition gives.
use Rattle.std.proofs.Common.{◌≡◌, ℕ, List, [], ap, ◌∙◌}
use Rattle.std.specs.Prelude.{false, Option, Some, None, Ok}
use Rattle.rb_value.specs.declared.value.Value.{Value}
use Rattle.rb_value.specs.declared.value.SymId.{SymId}
use Rattle.rb_value.specs.declared.outcome.Outcome.TheVariants as outcome
use Rattle.rb_value.specs.declared.outcome.Outcome.{Outcome}
use Rattle.def_core.specs.declared.found.Found.{Found}
use Rattle.def_core.specs.Classes.{class_of}
use Rattle.def_core.specs.Find.{find}
use Rattle.def_core.specs.Store.{Store, Done}
use Rattle.rb_store.specs.Held.{Held}
use Rattle.heap.specs.Operands.{own}
use Rattle.heap.specs.Rows.{called}
use Rattle.def_calls.specs.World.{World, Answer, with_store, answer, answer_in}
use Rattle.def_calls.specs.World as world
use Rattle.run_values.specs.declared.given.Given.{Given}
use Rattle.run_values.specs.declared.given.Given.TheVariants.{Gives, Raises}
use Rattle.run_values.specs.Answers.{Answers, answered}
use Rattle.iter_comparing.specs.Outright.{given_in, given_of, given_by, row_of_found, outright}

around : Store → World
around st = record { store = st; globals = []; enclosing = []; activations = []; input = []; out = []; asked = false }

same_given : (o : Outcome) (st after : Store) (w : World) (g : Given) → answer_in w st o ≡ answered g (with_store w after)
    → (Some g, after) ≡ given_in st o
same_given (outcome.Value v) st after w (Gives u) h =
    let r : world.gives v ≡ world.gives u = ap (λ (a : Answer). a.result) h in
    let s : st ≡ after = ap (λ (a : Answer). a.world.store) h in cc
same_given (outcome.Value v) st after w (Raises e) h =
    let r : world.gives v ≡ world.raises e = ap (λ (a : Answer). a.result) h in cc
same_given (outcome.Raise f) st after w (Gives u) h =
    let r : world.raises _ ≡ world.gives u = ap (λ (a : Answer). a.result) h in cc
same_given (outcome.Raise f) st after w (Raises e) h =
    let r : world.raises _ ≡ world.raises e = ap (λ (a : Answer). a.result) h in
    let s : _ ≡ after = ap (λ (a : Answer). a.world.store) h in cc

pub answers_as : (before after : Store) (d : Done) (g : Given)
    → ((w : World) → answer (with_store w before) d ≡ answered g (with_store w after))
    → (Some g, after) ≡ given_of d
answers_as before after d g h = same_given d.outcome d.store after (with_store (around before) before) g (h (around before))

pub gives_outright : (before mid after : Held) (recv : Value) (name : SymId) (args : List Value) (row : ℕ) (g : Given)
    (x : Option Found)
    → x ≡ find before.store.objects (class_of before.store.objects (own before.store recv)) name
    → Some row ≡ row_of_found x → mid ≡ before
    → Answers mid after (Ok g) (λ w. answer w (called w.store row recv args None))
    → (Some g, after.store) ≡ outright before.store recv name args
gives_outright before mid after recv name args row g x found is same a =
    answers_as mid.store after.store (called mid.store row recv args None) g a.answer
    ∙ ap (λ (h : Held). given_of (called h.store row recv args None)) same
    ∙ ap (λ (r : Option ℕ). given_by before.store recv args r)
    (is ∙ ap (λ (y : Option Found). row_of_found y) found)
