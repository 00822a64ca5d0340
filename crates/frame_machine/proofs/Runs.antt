-- Runs, one after another.
use Rattle.std.proofs.Common.{◌≡◌, refl, ap, sym, subst, true≢false, ◌∙◌, ◌-◌}
use Rattle.std.proofs.lemmas.List.{append-nil, append_assoc}
use Rattle.std.specs.declared.alloc.Global.{Global}
use Rattle.std.specs.Prelude.{ℕ, ◌+◌, ◌^◌, min, List, [], ◌++◌, Vec, Bool, true, false, not, ◌&&◌, Option, Some, None}
use Rattle.rb_base.specs.Outside.{with_more}
use Rattle.vm_acts.specs.Parts.answering.{Given}
use Rattle.vm_acts.specs.Parts.below.{Held}
use Rattle.vm_acts.specs.Parts.below.frames.{Frame}
use Rattle.vm_acts.specs.Parts.{Flow}
use Rattle.vm_acts.specs.Parts.flow.{Stays, Wakes, Ends}
use Rattle.vm_acts.specs.Parts.{Loaded}
use Rattle.vm_acts.specs.Parts.beside.{Beside, of}
use Rattle.vm_acts.specs.Parts.leaving.{HandedOut, handed_of}
use Rattle.vm_acts.specs.Parts.beside.{with_heap}
use Rattle.vm_acts.specs.Ends.{End}
use Rattle.vm_acts.specs.Ends.end as end
use Rattle.frame_machine.specs.declared.machine.Machine.{Machine}
use Rattle.frame_machine.specs.declared.machine.Standing.{Standing}
use Rattle.frame_machine.specs.declared.machine.Standing.TheVariants as stands
use Rattle.frame_machine.specs.declared.running.At.{At}
use Rattle.frame_machine.specs.declared.running.At.TheVariants.{Hand, Waiting}
use Rattle.frame_machine.specs.declared.running.Pause.{Pause}
use Rattle.frame_machine.specs.declared.running.Pause.TheVariants as pause
use Rattle.vm_iterations.specs.Reporting.{reported, reports, says}
use Rattle.frame_machine.specs.Runs as runs
use Rattle.frame_machine.specs.Runs.{Runs, Reads, Goes, RunsFor, Asks, GivesLine, ReadsAlone, ReadsSo, Spends, StandsAs, StandsBy, EndsAs, EndsSo, is_asked, parts_if, stand_at}
use Rattle.frame_machine.specs.Turns.{Stand, stand, Pauses, Turns, flow_at}

-- runs behind others
pub behind : (c : Loaded) (s t : Stand) (n m : ℕ) (out : List ℕ) → Runs c s n out m t → (more : List ℕ) (k : ℕ)
    (u : Stand) → Runs c t m more k u → Runs c s n (out ++ more) k u
behind c s t n m out p more k u runs.none = subst (λ (w : List ℕ). Runs c s n w m t) (sym (append-nil out)) p
behind c s t n m out p more k u (runs.goes w left rest s2 t2 q turns) =
    runs.goes (out ++ w) left rest s2 t2 (behind c s t n m out p w left s2 q) turns
behind c s t n m out p more k u (runs.writes w left rest s2 bytes g b q reaches) =
    subst (λ (x : List ℕ). Runs c s n x rest (stand Wakes g b)) (append_assoc out w bytes.items)
    (runs.writes (out ++ w) left rest s2 bytes g b (behind c s t n m out p w left s2 q) reaches)
behind c s t n m out p more k u (runs.reads w left rest s2 g b after flow q reaches has) =
    runs.reads (out ++ w) left rest s2 g b after flow (behind c s t n m out p w left s2 q) reaches has
behind c s t n m out p more k u (runs.asks w left g b q asked) =
    runs.asks (out ++ w) left g b (behind c s t n m out p w left (stand Ends g b) q) asked

-- nothing is written where nothing is
nothing_more : (told : Option (List ℕ)) → told ≡ with_more told []
nothing_more None = refl
nothing_more (Some bytes) = sym (ap Some (append-nil bytes))

-- what is written behind what was
more_behind : (told : Option (List ℕ)) (out more : List ℕ)
    → with_more (with_more told out) more ≡ with_more told (out ++ more)
more_behind None out more = refl
more_behind (Some bytes) out more = ap Some (append_assoc bytes out more)

-- A run from a level, in one piece.

goes_so : (m n : Machine) (at : At) (budget left : ℕ) (s : Standing) (before after : Option (List ℕ)) (to : Stand)
    → Turns m.code (stand_at m at) budget left to → after ≡ before → n.code ≡ m.code → StandsAs s to n
    → Goes m at budget left s n before after
goes_so m n at budget left s before after to turns same code stands = record {
  out = [];
  reached = to;
  runs = runs.goes [] budget left (stand_at m at) to runs.none turns;
  taken = same ∙ nothing_more before;
  code = code;
  stands = stands;
}

-- no turn is left
pub spent : (m n : Machine) (at next : At) (budget : ℕ) (told : Option (List ℕ)) (p : Pause)
    → Pauses m.code (stand_at m at) budget p n.hot (of n.parts) → p ≡ pause.Spent next → n.code ≡ m.code
    → Goes m at budget 0 (stands.At next) n told told
spent m n at next budget told p pauses is code =
    goes_so m n at budget 0 (stands.At next) told told (stand_at n next)
    (subst (λ (x : Pause). Pauses m.code (stand_at m at) budget x n.hot (of n.parts)) is pauses) refl code refl

-- the program ends there, or an exception is asked for its message

ends_by : (asked : Bool) (m mid n : Machine) (at : At) (budget left : ℕ) (s : Standing) (e : End) (out : List ℕ)
    (before after : Option (List ℕ))
    → Runs m.code (stand_at m at) budget out left (stand Ends mid.hot (of mid.parts)) → after ≡ with_more before out
    → e ≡ mid.parts.end → n.code ≡ m.code → n.hot ≡ mid.hot
    → (asked ≡ true → (reports (of mid.parts) e).0 ≡ true) → EndsAs asked e s mid n
    → Goes m at budget left s n before after
ends_by true m mid n at budget left s e out before after ran told ending code hot asks ends = record {
  out = out;
  reached = stand Wakes mid.hot (reports (of mid.parts) mid.parts.end).1;
  runs = runs.asks out left mid.hot (of mid.parts) ran
      (subst (λ (x : End). (reports (of mid.parts) x).0 ≡ true) ending (asks refl));
  taken = told;
  code = code;
  stands = subst (λ (x : Standing). StandsAs x (stand Wakes mid.hot (reports (of mid.parts) mid.parts.end).1) n)
      (sym ends.0) (sym (ap (λ (x : Frame). stand Wakes x (of n.parts)) hot
      ∙ ap (λ (x : Beside). stand Wakes mid.hot x) (ends.1
      ∙ ap (λ (x : End). (reports (of mid.parts) x).1) ending)));
}
ends_by false m mid n at budget left s e out before after ran told ending code hot asks ends = record {
  out = out;
  reached = stand Ends mid.hot (of mid.parts);
  runs = ran;
  taken = told;
  code = code;
  stands = subst (λ (x : Standing). StandsAs x (stand Ends mid.hot (of mid.parts)) n) (sym ends.1.0)
      (sym (ap (λ (x : Frame). stand Ends x (of mid.parts)) hot), ends.1.1);
}

second : (x y : Bool) → x && y ≡ true → y ≡ true
second true y both = both
second false y both = absurd (true≢false (sym both))

ended_so : (m mid n : Machine) (at : At) (budget left : ℕ) (s : Standing) (e : End) (out : List ℕ)
    (before after : Option (List ℕ))
    → Runs m.code (stand_at m at) budget out left (stand Ends mid.hot (of mid.parts)) → after ≡ with_more before out
    → e ≡ mid.parts.end → EndsSo e s mid n → mid.code ≡ m.code → Goes m at budget left s n before after
ended_so m mid n at budget left s e out before after ran told ending ends code =
    ends_by (is_asked mid e) m mid n at budget left s e out before after ran told ending (ends.0 ∙ code) ends.1.0
    (second (not mid.reported) (reports (of mid.parts) e).0) ends.1.1

pub ended : (m mid n : Machine) (at : At) (budget left : ℕ) (s : Standing) (e : End) (told : Option (List ℕ)) (p : Pause)
    → Pauses m.code (stand_at m at) budget p mid.hot (of mid.parts) → p ≡ pause.Ends e left → EndsSo e s mid n
    → mid.code ≡ m.code → Goes m at budget left s n told told
ended m mid n at budget left s e told p pauses is ends code =
    let turns = subst (λ (x : Pause). Pauses m.code (stand_at m at) budget x mid.hot (of mid.parts)) is pauses in
    ended_so m mid n at budget left s e [] told told
    (runs.goes [] budget left (stand_at m at) (stand Ends mid.hot (of mid.parts)) runs.none turns.1)
    (nothing_more told) turns.0 ends code

-- an iteration writes
pub written : (m n : Machine) (at : At) (budget left : ℕ) (bytes : Vec ℕ Global)
    (before after : Option (List ℕ)) (p : Pause) → Pauses m.code (stand_at m at) budget p n.hot (of n.parts)
    → p ≡ pause.Writes bytes left → n.code ≡ m.code → after ≡ with_more before bytes.items
    → Goes m at budget left (stands.At Waiting) n before after
written m n at budget left bytes before after p pauses is code took = record {
  out = bytes.items;
  reached = stand Wakes n.hot (of n.parts);
  runs = runs.writes [] budget left (stand_at m at) bytes n.hot (of n.parts) runs.none
      (subst (λ (x : Pause). Pauses m.code (stand_at m at) budget x n.hot (of n.parts)) is pauses);
  taken = took;
  code = code;
  stands = refl;
}

-- or reads

stands_by : (flow : Flow) (m mid n : Machine) (at : At) (budget left : ℕ) (s : Standing) (out : List ℕ)
    (before after : Option (List ℕ))
    → Runs m.code (stand_at m at) budget out left (stand flow mid.hot (of mid.parts)) → after ≡ with_more before out
    → StandsBy flow s mid n → mid.code ≡ m.code → Goes m at budget left s n before after
stands_by Stays m mid n at budget left s out before after ran told by code = record {
  out = out;
  reached = stand Stays mid.hot (of mid.parts);
  runs = ran;
  taken = told;
  code = ap (λ (x : Machine). x.code) by.1 ∙ code;
  stands = subst (λ (x : Standing). StandsAs x (stand Stays mid.hot (of mid.parts)) n) (sym by.0)
      (sym (ap (λ (x : Machine). stand_at x Hand) by.1));
}
stands_by Wakes m mid n at budget left s out before after ran told by code = record {
  out = out;
  reached = stand Wakes mid.hot (of mid.parts);
  runs = ran;
  taken = told;
  code = ap (λ (x : Machine). x.code) by.1 ∙ code;
  stands = subst (λ (x : Standing). StandsAs x (stand Wakes mid.hot (of mid.parts)) n) (sym by.0)
      (sym (ap (λ (x : Machine). stand_at x Waiting) by.1));
}
stands_by Ends m mid n at budget left s out before after ran told by code =
    ended_so m mid n at budget left s mid.parts.end out before after ran told refl by code

pub has_read : (m mid n : Machine) (at : At) (budget left : ℕ) (s : Standing) (told : Option (List ℕ)) (p : Pause)
    → Pauses m.code (stand_at m at) budget p mid.hot (of mid.parts) → p ≡ pause.Reads left → ReadsSo s mid n
    → mid.code ≡ m.code → Goes m at budget left s n told told
has_read m mid n at budget left s told p pauses is reads code =
    let wants = subst (λ (x : Pause). Pauses m.code (stand_at m at) budget x mid.hot (of mid.parts)) is pauses in
    stands_by reads.flow m reads.between n at budget left s [] told told
    (subst (λ (x : Frame). Runs m.code (stand_at m at) budget [] left (stand reads.flow x (of reads.between.parts)))
    (sym reads.hot)
    (runs.reads [] budget left (stand_at m at) mid.hot (of mid.parts) (of reads.between.parts) reads.flow runs.none
    wants (subst (λ (c : Loaded). Reads c (of mid.parts) reads.flow (of reads.between.parts)) code reads.reads)))
    (nothing_more told) reads.stands (reads.code ∙ code)

-- The program ends, or an exception is asked for its message.

names_only : (b : Beside) (e : End) → (reports b e).0 ≡ false → (reports b e).1 ≡ with_heap b (reports b e).1.heap
names_only b (end.Ended n) is = refl
names_only b (end.Uncaught x) is = by (says b.heap x).0 (says b.heap x).1 is
  where
    by : (told : Bool) (h : Held) → told ≡ false
        → (reported (told, h) b x).1 ≡ with_heap b (reported (told, h) b x).1.heap
    by true h is = absurd (true≢false is)
    by false h is = refl

asked_by : (reported told : Bool) (b after x : Beside) → x ≡ parts_if reported b after → not reported && told ≡ true
    → x ≡ after
asked_by true told b after x left is = absurd (true≢false (sym is))
asked_by false told b after x left is = left

pub ends_asked : (m n : Machine) (e : End) (told : Bool) → Asks e m n → told ≡ is_asked m e → told ≡ true
    → EndsSo e (stands.At Waiting) m n
ends_asked m n e told asks same is = (
  asks.0,
  (
    asks.1.0,
    subst (λ (x : Bool). EndsAs x e (stands.At Waiting) m n) (sym is ∙ same) (
      refl,
      asked_by m.reported (reports (of m.parts) e).0 (of m.parts) (reports (of m.parts) e).1 (of n.parts) asks.1.1
          (sym same ∙ is),
    ),
  ),
)

over_by : (reported told : Bool) (b after x : Beside) → x ≡ parts_if reported b after → not reported && told ≡ false
    → (told ≡ false → after ≡ with_heap b after.heap) → x ≡ with_heap b x.heap
over_by true told b after x left is names = subst (λ (z : Beside). z ≡ with_heap b z.heap) (sym left) refl
over_by false told b after x left is names = subst (λ (z : Beside). z ≡ with_heap b z.heap) (sym left) (names is)

pub ends_over : (m n : Machine) (e end : End) (told : Bool) → Asks e m n → told ≡ is_asked m e → told ≡ false
    → EndsSo e (stands.Over end) m n
ends_over m n e end told asks same is = (
  asks.0,
  (
    asks.1.0,
    subst (λ (x : Bool). EndsAs x e (stands.Over end) m n) (sym is ∙ same) (
      end,
      (
        refl,
        over_by m.reported (reports (of m.parts) e).0 (of m.parts) (reports (of m.parts) e).1 (of n.parts) asks.1.1
            (sym same ∙ is) (names_only (of m.parts) e),
      ),
    ),
  ),
)

-- A line is read.
pub read_so : (s : Standing) (m l r n : Machine) (flow : Flow) (given : Given) → ReadsAlone m l
    → GivesLine m.parts.heap given l.parts.heap
    → HandedOut l.code.code (of l.parts) (handed_of given) flow (of r.parts) → r.code ≡ l.code → r.hot ≡ l.hot
    → StandsBy flow s r n → ReadsSo s m n
read_so s m l r n flow given alone gives handed code hot stands = record {
  flow = flow;
  between = r;
  code = code ∙ alone.0;
  hot = hot ∙ alone.1.0;
  reads = record {
    given = given;
    heap = l.parts.heap;
    is = gives;
    handed = subst (λ (c : Loaded). HandedOut c.code (with_heap (of m.parts) l.parts.heap) (handed_of given) flow
        (of r.parts)) alone.0
        (subst (λ (b : Beside). HandedOut l.code.code b (handed_of given) flow (of r.parts)) alone.1.1 handed);
  };
  stands = stands;
}

-- Runs from level to level.

pub begins : (m : Machine) (at : At) (budget : ℕ) (told : Option (List ℕ))
    → Goes m at budget budget (stands.At at) m told told
begins m at budget told = record {
  out = [];
  reached = stand_at m at;
  runs = runs.none;
  taken = nothing_more told;
  code = refl;
  stands = refl;
}

goes_behind : (m n r : Machine) (at next : At) (budget left rest : ℕ) (s : Standing)
    (before mid after : Option (List ℕ)) → Goes m at budget left (stands.At next) n before mid
    → Goes n next left rest s r mid after → Goes m at budget rest s r before after
goes_behind m n r at next budget left rest s before mid after p q = record {
  out = p.out ++ q.out;
  reached = q.reached;
  runs = behind m.code (stand_at m at) (stand_at n next) budget left p.out
      (subst (λ (x : Stand). Runs m.code (stand_at m at) budget p.out left x) p.stands p.runs) q.out rest q.reached
      (subst (λ (c : Loaded). Runs c (stand_at n next) left q.out rest q.reached) p.code q.runs);
  taken = q.taken ∙ ap (λ (x : Option (List ℕ)). with_more x q.out) p.taken ∙ more_behind before p.out q.out;
  code = q.code ∙ p.code;
  stands = q.stands;
}

pub goes_on : (m n r : Machine) (at next : At) (budget left rest : ℕ) (s t : Standing)
    (before mid after : Option (List ℕ)) → Goes m at budget left (stands.At next) n before mid
    → Goes n next left rest s r mid after → s ≡ t → Goes m at budget rest t r before after
goes_on m n r at next budget left rest s t before mid after p q is =
    subst (λ (x : Standing). Goes m at budget rest x r before after) is
    (goes_behind m n r at next budget left rest s before mid after p q)

-- A machine that stood at a level stands so, and has counted the turns.

stands_so : (s : Standing) (to : Stand) (r : Machine) (turns : ℕ) → StandsAs s to r
    → StandsAs s to (record r { turns = turns; standing = s })
stands_so (stands.At at) to r turns is = is
stands_so (stands.Over e) to r turns is = is
stands_so stands.Stopped to r turns is = elim is [ ]

abbrev at_in : Standing → At
at_in (stands.At at) = at
at_in (stands.Over e) = Hand
at_in stands.Stopped = Hand

pub has_run : (m r n : Machine) (was s : Standing) (at level : At) (budget left made turns : ℕ)
    (before after : Option (List ℕ)) → Goes (record m { standing = was }) level budget left s r before after
    → Spends s left → n ≡ record r { turns = turns; standing = s } → stands.At level ≡ m.standing
    → m.standing ≡ stands.At at → turns ≡ min (r.turns + made) (2 ^ 64 - 1) → r.turns ≡ m.turns
    → made ≡ budget - left → RunsFor m at budget n before after
has_run m r n was s at level budget left made turns before after goes spends is stood level_is counted same some =
    subst (λ (x : At). RunsFor m x budget n before after) (ap at_in (stood ∙ level_is))
    (subst (λ (x : Machine). RunsFor m level budget x before after) (sym is) (record {
      left = left;
      goes = record {
        out = goes.out;
        reached = goes.reached;
        runs = goes.runs;
        taken = goes.taken;
        code = goes.code;
        stands = stands_so s goes.reached r turns goes.stands;
      };
      spends = spends;
      turns = counted ∙ ap (λ (k : ℕ). min (k + made) (2 ^ 64 - 1)) same
          ∙ ap (λ (k : ℕ). min (m.turns + k) (2 ^ 64 - 1)) some;
    }))
