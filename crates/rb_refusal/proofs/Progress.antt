-- A text that is written part by part.
use Rattle.std.proofs.Common.{◌≡◌, ℕ, List, [], ◌++◌, refl, ap, sym, ◌∙◌, append_assoc, Result, Ok, Err}
use Rattle.std.proofs.lemmas.List.{append-nil}
use Rattle.std.specs.Result.{IsErr}
use Rattle.rb_base.specs.Outside.{with_more}
use Rattle.rb_base.specs.declared.outside.Failed.{Failed}
use Rattle.rb_refusal.specs.Writing.{Stream, Says}
use Rattle.rb_refusal.proofs.Writing.{more_twice, more_nothing, front_of_whole, rose_since}

-- of the whole, the rest isn't written yet
pub record Progress (first now : Stream) (whole rest : List ℕ) : Type 0 where
  pub done : List ℕ
  pub parts : whole ≡ done ++ rest
  pub taken : now.taken ≡ with_more first.taken done
  pub faults : now.faults ≡ first.faults

pub started : (s : Stream) (whole : List ℕ) → Progress s s whole whole
started s whole = record { done = []; parts = refl; taken = sym (more_nothing s.taken); faults = refl }

-- the next part went out
pub went_on : (first now next : Stream) (whole rest text after : List ℕ) (r : Result Unit Failed) (u : Unit)
    → r ≡ Ok u → rest ≡ text ++ after → Progress first now whole rest → Says text now next r
    → Progress first next whole after
went_on first now next whole rest text after (Err f) u ok e p said = cc
went_on first now next whole rest text after (Ok v) u ok e p said = record {
  done = p.done ++ text;
  parts = p.parts ∙ ap (λ (l : List ℕ). p.done ++ l) e ∙ sym (append_assoc p.done text after);
  taken = said.0 ∙ ap (λ t. with_more t text) p.taken ∙ more_twice first.taken p.done text;
  faults = said.1 ∙ p.faults;
}

-- a call failed in the next part
pub stopped : (first now next : Stream) (whole rest text after : List ℕ) (r s : Result Unit Failed) (f : Failed)
    → r ≡ Err f → IsErr s → rest ≡ text ++ after → Progress first now whole rest → Says text now next r
    → Says whole first next s
stopped first now next whole rest text after (Ok u) s f bad worse e p said = cc
stopped first now next whole rest text after (Err h) (Ok u) f bad worse e p said = cc
stopped first now next whole rest text after (Err h) (Err g) f bad worse e p said =
    let split : whole ≡ p.done ++ (text ++ after) = p.parts ∙ ap (λ (l : List ℕ). p.done ++ l) e in (
      rw split (front_of_whole first.taken now.taken next.taken p.done text after p.taken said.0),
      rose_since first.faults now.faults next.faults p.faults said.1,
    )

-- nothing is left
pub finished : (first now : Stream) (whole rest : List ℕ) → rest ≡ [] → Progress first now whole rest
    → (now.taken ≡ with_more first.taken whole) × (now.faults ≡ first.faults)
finished first now whole rest e p =
    let same : whole ≡ p.done = p.parts ∙ ap (λ (l : List ℕ). p.done ++ l) e ∙ append-nil p.done in (
      rw same p.taken,
      p.faults,
    )

-- the last call answers for the whole
pub ended : (first now next : Stream) (whole rest text : List ℕ) (r : Result Unit Failed) → rest ≡ text
    → Progress first now whole rest → Says text now next r → Says whole first next r
ended first now next whole rest text (Ok u) e p said = finished first next whole [] refl
    (went_on first now next whole rest text [] (Ok u) u refl (e ∙ sym (append-nil text)) p said)
ended first now next whole rest text (Err f) e p said = stopped first now next whole rest text [] (Err f)
    (Err f) f refl refl (e ∙ sym (append-nil text)) p said
