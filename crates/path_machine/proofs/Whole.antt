-- What is seen of the code is the course of its first body.
use Rattle.std.proofs.Common.{◌≡◌, ℕ, List, [], ◌∷◌, get_or, take, ap, sym, ◌∙◌, Option, Some, None, Ok, Err}
use Rattle.std.specs.Prelude.{Result, IfOk, OnOk, OnErr}
use Rattle.std.specs.List.{slice_get}
use Rattle.rb_base.specs.Outside.{with_more, TookFront}
use Rattle.rite_code.specs.Code.{Program}
use Rattle.rite_code.specs.declared.code.Irep.{Irep}
use Rattle.path_eval.specs.Seen.{output_of}
use Rattle.path_turns.specs.State.{body_at, no_body}
use Rattle.path_machine.specs.Course.{Course}
use Rattle.path_machine.specs.Standing.{whole_course}
use Rattle.path_machine.specs.Run.{seen_after, IsRan, StoppedWithin}
use Rattle.path_machine.specs.declared.ran.Ran.{Ran}
use Rattle.path_machine.specs.declared.ran.RunFault.{RunFault}
use Rattle.path_machine.proofs.Runs.{ran_as, written_as}
use Rattle.path_machine.proofs.Loop.{with_none}

pub first_is : (items bodies : List Irep) (b : Irep) → Some b ≡ slice_get items 0 → items ≡ bodies
    → get_or bodies 0 no_body ≡ b
first_is [] bodies b h e = absurd cc
first_is (x ∷ xs) bodies b h e = let same : b ≡ x = cc in ap (λ (l : List Irep). get_or l 0 no_body) (sym e) ∙ sym same

pub none_is : (items bodies : List Irep) → None ≡ slice_get items 0 → items ≡ bodies → get_or bodies 0 no_body ≡ no_body
none_is [] bodies h e = ap (λ (l : List Irep). get_or l 0 no_body) (sym e)
none_is (x ∷ xs) bodies h e = absurd cc

pub whole_ran : (c : Program) (b : Irep) (n : ℕ) (ran : Ran) → body_at c 0 ≡ b → ran ≡ (whole_course b n).ran
    → (input : List ℕ) → IsRan ran (seen_after c n input)
whole_ran c b n ran e h input = ran_as c n input ran (h ∙ ap (λ (x : Irep). (whole_course x n).ran) (sym e))

whole_output : (c : Program) (b : Irep) (n : ℕ) (old : Option (List ℕ)) → body_at c 0 ≡ b → (input : List ℕ)
    → with_more old (whole_course b n).written ≡ with_more old (output_of (seen_after c n input))
whole_output c b n old e input = ap (λ (x : Irep). with_more old (whole_course x n).written) (sym e)
    ∙ ap (with_more old) (sym (written_as c n input))

pub whole_written : (c : Program) (b : Irep) (n : ℕ) (old new : Option (List ℕ)) → body_at c 0 ≡ b
    → new ≡ with_more old (whole_course b n).written → (input : List ℕ)
    → new ≡ with_more old (output_of (seen_after c n input))
whole_written c b n old new e h input = h ∙ whole_output c b n old e input

whole_stopped : (c : Program) (b : Irep) (n : ℕ) (old new : Option (List ℕ)) → body_at c 0 ≡ b
    → TookFront old new (whole_course b n).written → (input : List ℕ) → StoppedWithin c n input old new
whole_stopped c b n old new e h input = (
  h.0,
  h.1 ∙ (ap (λ (x : Irep). with_more old (take h.0 (whole_course x n).written)) (sym e)
      ∙ ap (λ (w : List ℕ). with_more old (take h.0 w)) (sym (written_as c n input))),
)

pub ok_ran : (c : Program) (b : Irep) (n : ℕ) (r : Result Ran RunFault) → body_at c 0 ≡ b
    → IfOk r (λ ran. ran ≡ (whole_course b n).ran) → IfOk r (λ ran. (input : List ℕ) → IsRan ran (seen_after c n input))
ok_ran c b n (Ok ran) e h = whole_ran c b n ran e h
ok_ran c b n (Err fault) e h = tt

pub ok_written : (c : Program) (b : Irep) (n : ℕ) (r : Result Ran RunFault) (old new : Option (List ℕ))
    → body_at c 0 ≡ b → OnOk r (new ≡ with_more old (whole_course b n).written)
    → OnOk r ((input : List ℕ) → new ≡ with_more old (output_of (seen_after c n input)))
ok_written c b n (Ok ran) old new e h = whole_written c b n old new e h
ok_written c b n (Err fault) old new e h = tt

pub err_stopped : (c : Program) (b : Irep) (n : ℕ) (r : Result Ran RunFault) (old new : Option (List ℕ))
    → body_at c 0 ≡ b → OnErr r (TookFront old new (whole_course b n).written)
    → OnErr r ((input : List ℕ) → StoppedWithin c n input old new)
err_stopped c b n (Ok ran) old new e h = tt
err_stopped c b n (Err fault) old new e h = whole_stopped c b n old new e h

pub silent_written : (k : Course) (ran : Ran) (told : Option (List ℕ)) → record { written = []; ran = ran } ≡ k
    → told ≡ with_more told k.written
silent_written k ran told e = with_none told ∙ ap (λ (x : Course). with_more told x.written) e
