-- What many turns show is what the course of the body says.
use Rattle.std.proofs.Common.{◌≡◌, ℕ, zero, suc, List, [], ◌∷◌, ◌++◌, map, replicate, refl, ap, sym, ◌∙◌, append_assoc}
use Rattle.std.proofs.lemmas.List.{append-nil}
use Rattle.path_value.specs.declared.value.Value.{Value}
use Rattle.path_value.specs.declared.value.Value.TheVariants.{Nil}
use Rattle.rite_code.specs.Code.{Program}
use Rattle.path_core.specs.Rows.{line_of}
use Rattle.path_eval.specs.Steps.{times}
use Rattle.path_eval.specs.Seen.{End, Ended, Uncaught, Seen, Going, Over, output_of}
use Rattle.path_turns.specs.State.{Slot, value, State, On, Off, shown, body_at}
use Rattle.path_turns.specs.Turn.{turn}
use Rattle.path_machine.specs.Run.{seen_after, IsRan}
use Rattle.path_machine.specs.Course.{Values, Course, follows, course, stepped}
use Rattle.path_machine.specs.Standing.{standing, frame_at, led_to, seen_of, whole_course}
use Rattle.path_machine.specs.declared.machine.Next.{Next}
use Rattle.path_machine.specs.declared.machine.Next.TheVariants as nexts
use Rattle.path_machine.specs.declared.ran.Ran.{Ran}
use Rattle.path_machine.specs.declared.ran.Ran.TheVariants as rans
use Rattle.path_machine.proofs.Turns.{turn_as}

-- a run that has ended stays ended
times_off : (c : Program) (n : ℕ) (e : End) → times n (turn c) (Off e) ≡ Off e
times_off c zero e = refl
times_off c (suc n) e = times_off c n e

abbrev seen_behind : Course → List ℕ → Seen
seen_behind k out = seen_of k.ran (out ++ k.written)

leads :
    (c : Program) (n : ℕ) (step : Values × Next) (input out : List ℕ)
    → ((pc : ℕ) (rs : Values) (input out : List ℕ)
    → shown (times n (turn c) (standing pc rs input out)) ≡ seen_behind (course (body_at c 0) n pc rs) out)
    → shown (times n (turn c) (led_to step input out)) ≡ seen_behind (follows (course (body_at c 0) n) step) out
leads c n (rs, nexts.To pc) input out ih = ih pc rs input out
leads c n (rs, nexts.Puts pc v) input out ih =
    ih pc rs input (out ++ line_of v)
    ∙ ap (λ (w : List ℕ). seen_of (course (body_at c 0) n pc rs).ran w)
    (append_assoc out (line_of v) (course (body_at c 0) n pc rs).written)
leads c n (rs, nexts.Ended k) input out ih = ap shown (times_off c n (Ended out k))
    ∙ ap (λ (w : List ℕ). Over (Ended w k)) (sym (append-nil out))
leads c n (rs, nexts.Uncaught f) input out ih = ap shown (times_off c n (Uncaught out f))
    ∙ ap (λ (w : List ℕ). Over (Uncaught w f)) (sym (append-nil out))

runs : (c : Program) (n pc : ℕ) (rs : Values) (input out : List ℕ)
    → shown (times n (turn c) (standing pc rs input out)) ≡ seen_behind (course (body_at c 0) n pc rs) out
unfolding course
runs c zero pc rs input out = ap Going (sym (append-nil out))
runs c (suc n) pc rs input out =
    ap (λ (s : State). shown (times n (turn c) s)) (turn_as c pc rs input out)
    ∙ leads c n (stepped (body_at c 0) pc rs) input out (runs c n)

map-replicate : (n : ℕ) (v : Value) → map value (replicate n v) ≡ replicate n (value v)
map-replicate zero v = refl
map-replicate (suc n) v = ap (λ (s : List Slot). value v ∷ s) (map-replicate n v)

pub seen_is : (c : Program) (n : ℕ) (input : List ℕ)
    → seen_after c n input ≡ seen_of (whole_course (body_at c 0) n).ran (whole_course (body_at c 0) n).written
unfolding seen_after
seen_is c n input =
    ap (λ (s : List Slot). shown (times n (turn c)
    (On (frame_at 0) [] (record { lists = record { of = 0; slots = s } ∷ []; input = input; out = [] }))))
    (sym (map-replicate (body_at c 0).registers Nil))
    ∙ runs c n 0 (replicate (body_at c 0).registers Nil) input []

is_ran : (r : Ran) (out : List ℕ) → IsRan r (seen_of r out)
is_ran rans.Spent out = (out, refl)
is_ran (rans.Ended k) out = (out, refl)
is_ran (rans.Uncaught f) out = (out, refl)

pub ran_as : (c : Program) (n : ℕ) (input : List ℕ) (r : Ran) → r ≡ (whole_course (body_at c 0) n).ran
    → IsRan r (seen_after c n input)
ran_as c n input r e = rw (seen_is c n input, e)
    (is_ran (whole_course (body_at c 0) n).ran (whole_course (body_at c 0) n).written)

output_as : (r : Ran) (out : List ℕ) → output_of (seen_of r out) ≡ out
output_as rans.Spent out = refl
output_as (rans.Ended k) out = refl
output_as (rans.Uncaught f) out = refl

pub written_as : (c : Program) (n : ℕ) (input : List ℕ)
    → output_of (seen_after c n input) ≡ (whole_course (body_at c 0) n).written
written_as c n input = ap output_of (seen_is c n input)
    ∙ output_as (whole_course (body_at c 0) n).ran (whole_course (body_at c 0) n).written
