-- What the instructions of a body make that are read so far, which no list holds.
use Rattle.std.proofs.Common.{◌≡◌, ℕ, ◌+◌, ◌-◌, ◌<◌, ◌≤◌, List, [], ◌∷◌, ◌++◌, length, map, arith}
use Rattle.std.specs.Prelude.{Option, None, Some}
use Rattle.std.specs.Option.{option_map}
use Rattle.std.proofs.lemmas.List.{length_push}
use Rattle.rite_code.specs.declared.code.Irep.{Irep}
use Rattle.rite_code.specs.Spelling.{decode}
use Rattle.code_outline.specs.declared.layout.Standing.{Standing as StandingValue}
use Rattle.code_outline.specs.declared.maker.Maker.{Maker}
use Rattle.code_outline.specs.Layout.{standing, standings, layout}
use Rattle.code_outline.specs.Makers.{made_by, made_in}
use Rattle.code_outline.specs.Making.{AreMarked}
use Rattle.code_outline.specs.Outlined.{seen}
use Rattle.code_outline.proofs.Layouts.{laid-none, laid-more, laid-all}
use Rattle.code_outline.proofs.Made.{made_in-more}
use Rattle.code_outline.proofs.Marks.{marks-none, marks-append}

-- the instructions in front of a place are read, and what they make is marked
pub record IsReadTo (version : ℕ) (code : List ℕ) (k : ℕ) (b : Irep) (at : ℕ) (old new : List (Option Maker)) : Type 0 where
  pub front : List StandingValue
  pub few : length front ≤ at
  pub whole : map seen front ++ standings (length code - length front) version code at ≡ layout version code
  pub marked : AreMarked (made_in k b (map seen front)) old new

pub read-none : (version : ℕ) (code : List ℕ) (k : ℕ) (b : Irep) (makers : List (Option Maker))
    → IsReadTo version code k b 0 makers makers
unfolding made_in
read-none version code k b makers = record {
  front = [];
  few = omega arith;
  whole = laid-none version code;
  marked = marks-none makers;
}

pub read-more : (version : ℕ) (code : List ℕ) (k : ℕ) (b : Irep) (at : ℕ) (s : StandingValue)
    (old mid new : List (Option Maker)) → Some (seen s) ≡ option_map (standing at) (decode version code at)
    → at < s.next → s.next ≤ length code → length mid ≡ length old → IsReadTo version code k b at old mid
    → AreMarked (made_by k b (seen s)) mid new → IsReadTo version code k b s.next old new
read-more version code k b at s old mid new e taken within n r m = record {
  front = r.front ++ s ∷ [];
  few = omega (arith, length_push r.front s, r.few, taken);
  whole = laid-more version code at r.front s (omega (arith, r.few, taken, within)) e r.whole;
  marked = rw (made_in-more k b r.front s)
      (marks-append (made_in k b (map seen r.front)) (made_by k b (seen s)) old mid new n r.marked m);
}

-- where none can be read
pub read-all : (version : ℕ) (code : List ℕ) (k : ℕ) (b : Irep) (at : ℕ) (old new : List (Option Maker))
    → None ≡ option_map (standing at) (decode version code at) → IsReadTo version code k b at old new
    → AreMarked (made_in k b (layout version code)) old new
read-all version code k b at old new e r =
    rw (← laid-all version code at (length code - length r.front) (map seen r.front) e r.whole) r.marked
