-- The course of a body, turn by turn.
use Rattle.std.proofs.Common.{◌≡◌, ℕ, zero, suc, ◌+◌, ◌-◌, ◌<◌, List, [], ◌++◌, take, length, refl, ap, sym, ◌∙◌, append_assoc, min, Option, Some, None, Ok, Err, ◌≤◌, arith}
use Rattle.std.proofs.lemmas.List.{append-nil, take_min, take-append-le}
use Rattle.std.proofs.Math.Seq.{take-append-add}
use Rattle.std.specs.Prelude.{Result, OnErr}
use Rattle.rb_base.specs.Outside.{with_more, TookFront}
use Rattle.rite_code.specs.declared.code.Irep.{Irep}
use Rattle.rite_code.specs.Spelling.{decode_wide_at, front}
use Rattle.path_core.specs.Rows.{line_of}
use Rattle.path_turns.specs.State.{no_body}
use Rattle.path_machine.specs.Course.{Values, Course, behind, follows, course, stepped}
use Rattle.path_machine.specs.Standing.{whole_course}
use Rattle.path_value.specs.declared.value.Value.{Value}
use Rattle.path_value.specs.declared.failure.Failure.{Failure}
use Rattle.path_machine.specs.declared.machine.Next.{Next}
use Rattle.path_machine.specs.declared.machine.Next.TheVariants as nexts
use Rattle.path_machine.specs.declared.ran.Ran.{Ran}
use Rattle.path_machine.specs.declared.ran.Ran.TheVariants as rans

abbrev silent : Ran → Course
silent r = record { written = []; ran = r }

pub spent_of : (n : ℕ) → n ≡ 0 → record { written = []; ran = rans.Spent } ≡ whole_course no_body n
unfolding course
spent_of zero e = refl
spent_of (suc n) e = absurd (omega arith)

pub ended_of : (n : ℕ) → (n ≡ 0 → ⊥) → record { written = []; ran = rans.Ended 0 } ≡ whole_course no_body n
unfolding course stepped decode_wide_at front
ended_of zero h = absurd (h refl)
ended_of (suc n) h = refl

-- What the loop keeps: what was taken since its start is the front of what the whole course writes, and the
-- rest is still to come.
pub record Reached (whole rest : Course) (old new : Option (List ℕ)) : Type 0 where
  pub out : List ℕ
  pub taken : new ≡ with_more old out
  pub course : whole ≡ behind out rest

pub with_none : (told : Option (List ℕ)) → told ≡ with_more told []
with_none None = refl
with_none (Some bytes) = ap Some (sym (append-nil bytes))

with_two : (told : Option (List ℕ)) (front back : List ℕ)
    → with_more (with_more told front) back ≡ with_more told (front ++ back)
with_two None front back = refl
with_two (Some bytes) front back = ap Some (append_assoc bytes front back)

behind_two : (front back : List ℕ) (k : Course) → behind front (behind back k) ≡ behind (front ++ back) k
behind_two front back k = ap (λ (w : List ℕ). record { written = w; ran = k.ran })
    (sym (append_assoc front back k.written))

pub reached_start : (k : Course) (told : Option (List ℕ)) → Reached k k told told
reached_start k told = record { out = []; taken = with_none told; course = refl }

-- the course from a place begins with the turn there
course_turn : (b : Irep) (n place : ℕ) (rs : Values) → 0 < n
    → course b n place rs ≡ follows (course b (n - 1)) (stepped b place rs)
unfolding course
course_turn b zero place rs h = absurd (omega arith)
course_turn b (suc n) place rs h = let e : suc n - 1 ≡ n = omega arith in rw e refl

course_by : (b : Irep) (n place : ℕ) (rs : Values) (step : Values × Next) → 0 < n → step ≡ stepped b place rs
    → course b n place rs ≡ follows (course b (n - 1)) step
course_by b n place rs step h e = course_turn b n place rs h ∙ ap (follows (course b (n - 1))) (sym e)

pub reached_to :
    (b : Irep) (whole : Course) (old new : Option (List ℕ)) (n place next : ℕ) (rs rs' : Values)
    → Reached whole (course b n place rs) old new → 0 < n → (rs', nexts.To next) ≡ stepped b place rs
    → Reached whole (course b (n - 1) next rs') old new
reached_to b whole old new n place next rs rs' r h e = record {
  out = r.out;
  taken = r.taken;
  course = r.course ∙ ap (behind r.out) (course_by b n place rs (rs', nexts.To next) h e);
}

pub reached_puts :
    (b : Irep) (whole : Course) (old new new' : Option (List ℕ)) (n place next : ℕ) (v : Value) (rs rs' : Values)
    → Reached whole (course b n place rs) old new → 0 < n → (rs', nexts.Puts next v) ≡ stepped b place rs
    → new' ≡ with_more new (line_of v)
    → Reached whole (course b (n - 1) next rs') old new'
reached_puts b whole old new new' n place next v rs rs' r h e t = record {
  out = r.out ++ line_of v;
  taken = t ∙ (ap (λ (o : Option (List ℕ)). with_more o (line_of v)) r.taken ∙ with_two old r.out (line_of v));
  course = r.course ∙ (ap (behind r.out) (course_by b n place rs (rs', nexts.Puts next v) h e)
      ∙ behind_two r.out (line_of v) (course b (n - 1) next rs'));
}

-- how a course comes out, and all that it writes
pub record IsOver (whole : Course) (ran : Ran) (old new : Option (List ℕ)) : Type 0 where
  pub ran_is : ran ≡ whole.ran
  pub written_is : new ≡ with_more old whole.written

over : (whole : Course) (ran : Ran) (old new : Option (List ℕ)) (rest : Course) → Reached whole rest old new
    → rest ≡ silent ran → IsOver whole ran old new
over whole ran old new rest r e =
    let all : whole ≡ behind r.out (silent ran) = r.course ∙ ap (behind r.out) e in
    let bytes : whole.written ≡ r.out = ap (λ (k : Course). k.written) all ∙ append-nil r.out in
    record { ran_is = sym (ap (λ (k : Course). k.ran) all); written_is = r.taken ∙ ap (with_more old) (sym bytes) }

pub over_spent :
    (b : Irep) (whole : Course) (old new : Option (List ℕ)) (n place : ℕ) (rs : Values)
    → Reached whole (course b n place rs) old new → n ≡ 0 → IsOver whole rans.Spent old new
unfolding course
over_spent b whole old new zero place rs r h = over whole rans.Spent old new (silent rans.Spent) r refl
over_spent b whole old new (suc n) place rs r h = absurd (omega arith)

pub over_ended :
    (b : Irep) (whole : Course) (old new : Option (List ℕ)) (n place status : ℕ) (rs rs' : Values)
    → Reached whole (course b n place rs) old new → 0 < n → (rs', nexts.Ended status) ≡ stepped b place rs
    → IsOver whole (rans.Ended status) old new
over_ended b whole old new n place status rs rs' r h e =
    over whole (rans.Ended status) old new (course b n place rs) r
    (course_by b n place rs (rs', nexts.Ended status) h e)

pub over_uncaught :
    (b : Irep) (whole : Course) (old new : Option (List ℕ)) (n place : ℕ) (f : Failure) (rs rs' : Values)
    → Reached whole (course b n place rs) old new → 0 < n → (rs', nexts.Uncaught f) ≡ stepped b place rs
    → IsOver whole (rans.Uncaught f) old new
over_uncaught b whole old new n place f rs rs' r h e =
    over whole (rans.Uncaught f) old new (course b n place rs) r (course_by b n place rs (rs', nexts.Uncaught f) h e)

-- a front of the line is a front of what the whole course writes from there
front_behind : (front line rest : List ℕ) (k : ℕ) (old : Option (List ℕ))
    → with_more (with_more old front) (take k line) ≡ with_more old
    (take (length front + min k (length line)) (front ++ (line ++ rest)))
front_behind front line rest k old =
    let bounded : min k (length line) ≤ length line = omega arith in
    let start : take (length front + min k (length line)) (front ++ (line ++ rest)) ≡ front ++ take k line =
    take-append-add front (line ++ rest) (min k (length line))
    ∙ ap (λ (w : List ℕ). front ++ w) (take-append-le (min k (length line)) line rest bounded ∙ take_min k line) in
    with_two old front (take k line) ∙ ap (with_more old) (sym start)

pub stopped_puts :
    (b : Irep) (whole : Course) (old new new' : Option (List ℕ)) (n place next : ℕ) (v : Value) (rs rs' : Values)
    → Reached whole (course b n place rs) old new → 0 < n → (rs', nexts.Puts next v) ≡ stepped b place rs
    → TookFront new new' (line_of v)
    → TookFront old new' whole.written
stopped_puts b whole old new new' n place next v rs rs' r h e t =
    let rest : List ℕ = (course b (n - 1) next rs').written in
    let all : whole.written ≡ r.out ++ (line_of v ++ rest) =
    ap (λ (k : Course). k.written) (r.course
    ∙ ap (behind r.out) (course_by b n place rs (rs', nexts.Puts next v) h e)) in (
      length r.out + min t.0 (length (line_of v)),
      t.1
          ∙ (ap (λ (o : Option (List ℕ)). with_more o (take t.0 (line_of v))) r.taken
          ∙ (front_behind r.out (line_of v) rest t.0 old
          ∙ ap (λ (w : List ℕ). with_more old (take (length r.out + min t.0 (length (line_of v))) w)) (sym all))),
    )

pub on_err : {T E : Type 0} (r : Result T E) (P : Type 0) → P → OnErr r P
on_err (Ok x) P h = tt
on_err (Err e) P h = h
