-- How a transition is matched by no turn, one turn and two, and how a value is given.
use Rattle.std.proofs.Common.{◌≡◌, ◌⊎◌, ℕ, zero, suc, ◌<◌, ◌≤◌, List, [], ◌∷◌, refl, sym, ap, ◌∙◌, subst, inl, arith}
use Rattle.std.specs.Prelude.{Option}
use Rattle.rb_value.specs.declared.value.Value.{Value}
use Rattle.rb_value.specs.declared.exit.Slot.TheVariants.{V}
use Rattle.rite_code.specs.Code.{Program}
use Rattle.gen_forms.specs.declared.context.Loop.{Loop}
use Rattle.path_eval.specs.Steps.{times}
use Rattle.def_calls.specs.Seen.{Going}
use Rattle.def_calls.specs.World.{World}
use Rattle.def_eval.specs.Source.{Source}
use Rattle.def_eval.specs.Configuration as source
use Rattle.def_eval.specs.Configuration.{Item, part, activation, iteration, ensuring, Focus, give, Config, Run, seen}
use Rattle.def_eval.specs.Transition.{go}
use Rattle.def_machine.specs.State as machine
use Rattle.def_machine.specs.State.{Registers, Level, frame, State, On, slot_at, put, shown}
use Rattle.def_machine.specs.Turn.{turn}
use Rattle.step_laws.specs.Site.{Site, place_in, Room}
use Rattle.step_laws.specs.Measure.{poise, measure}
use Rattle.step_laws.proofs.Placed.{Rest, frame_at}
use Rattle.step_laws.specs.Behind.{Static}
use Rattle.step_laws.specs.Relation.{Ground, InFrame, Running, GivesIn, Giving, Alike, Advances, Related, Step}
use Rattle.step_laws.proofs.Focused.{given_in}
use Rattle.step_laws.proofs.Registers.{slot_same, keeps_above}
use Rattle.step_laws.proofs.Untouched.{put_only, frame_kept, same_here, written_here}

-- of any source and code

-- A transition that is matched by no more than so many turns.
pub record Within (n : ℕ) (s : Source) (p : Program) (c : Config) (t : State) : Type 0 where
  pub advances : Advances s p c t
  pub soon : advances.turns ≤ n

abbrev pub Soon : Source → Program → Config → State → Type 0
Soon s p c t = Within 3 s p c t

pub soon_none : (s : Source) (p : Program) (c : Config) (t : State) → measure (go s c) < measure c → Alike s p (go s c) t
    → Soon s p c t
soon_none s p c t lt r = record {
  advances = record {
    turns = 0;
    few = omega arith;
    related = r;
    between = λ j l. absurd (omega arith);
    falls = λ e. lt;
  };
  soon = omega arith;
}

pub soon_one : (s : Source) (p : Program) (c : Config) (t u : State) → shown t ≡ seen c → turn p t ≡ u
    → Alike s p (go s c) u → Soon s p c t
soon_one s p c t u e one r = record {
  advances = record {
    turns = 1;
    few = omega arith;
    related = subst (Alike s p (go s c)) (sym one) r;
    between = between;
    falls = λ e. absurd (omega arith);
  };
  soon = omega arith;
}
  where
    between : (j : ℕ) → j < 1 → (shown (times j (turn p) t) ≡ seen c) ⊎ (shown (times j (turn p) t) ≡ seen (go s c))
    between zero l = inl e
    between (suc j) l = absurd (omega arith)

pub no_turn : (s : Source) (p : Program) (c : Config) (t : State) → measure (go s c) < measure c → Alike s p (go s c) t
    → Advances s p c t
no_turn s p c t lt r = (soon_none s p c t lt r).advances

pub one_turn : (s : Source) (p : Program) (c : Config) (t u : State) → shown t ≡ seen c → turn p t ≡ u
    → Alike s p (go s c) u → Advances s p c t
one_turn s p c t u e one r = (soon_one s p c t u e one r).advances

-- and one more from a turn before
pub one_more : (n : ℕ) → n ≤ 30 → (s : Source) (p : Program) (c : Config) (t u : State) → shown t ≡ seen c → turn p t ≡ u
    → Within n s p c u → Within (suc n) s p c t
one_more n le s p c t u e one a = record {
  advances = record {
    turns = suc a.advances.turns;
    few = omega (arith, a.soon, le);
    related = subst (λ (q : State). Alike s p (go s c) (times a.advances.turns (turn p) q)) (sym one) a.advances.related;
    between = between;
    falls = λ z. absurd (cc z);
  };
  soon = omega (arith, a.soon);
}
  where
    between : (j : ℕ) → j < suc a.advances.turns → (shown (times j (turn p) t) ≡ seen c)
        ⊎ (shown (times j (turn p) t) ≡ seen (go s c))
    between zero l = inl e
    between (suc j) l =
        subst (λ (q : State). (shown (times j (turn p) q) ≡ seen c) ⊎ (shown (times j (turn p) q) ≡ seen (go s c))) (sym one)
        (a.advances.between j (omega (arith, l)))

pub one_before : (s : Source) (p : Program) (c : Config) (t u : State) → shown t ≡ seen c → turn p t ≡ u → Soon s p c u
    → Advances s p c t
one_before s p c t u e one a = (one_more 3 (omega arith) s p c t u e one a).advances

-- no more turns than so many more
pub widen : (n i : ℕ) → n ≤ i → (s : Source) (p : Program) (c : Config) (t : State) → Within n s p c t → Within i s p c t
widen n i le s p c t a = record { advances = a.advances; soon = omega (arith, a.soon, le) }

-- no more than three turns later
pub later : (s : Source) (p : Program) (c : Config) (t : State) → Soon s p c t → Within 6 s p c t
later s p c t a = widen 3 6 (omega arith) s p c t a

-- of those of a site

pub by_none : (h : Site) (c : Config) (t : State) → measure (go h.source c) < measure c
    → Related h (go h.source c) t → Step h c t
by_none h c t lt r = no_turn h.source h.program c t lt r

pub by_one : (h : Site) (c : Config) (t u : State) → shown t ≡ seen c → turn h.program t ≡ u
    → Related h (go h.source c) u → Step h c t
by_one h c t u e one r = one_turn h.source h.program c t u e one r

pub by_two : (h : Site) (c : Config) (s t u : State) → shown s ≡ seen c → turn h.program s ≡ t → shown t ≡ seen c
    → turn h.program t ≡ u → Related h (go h.source c) u → Step h c s
by_two h c s t u e one e' two r = record {
  turns = 2;
  few = omega arith;
  related = subst (Related h (go h.source c)) (sym (ap (turn h.program) one ∙ two)) r;
  between = between;
  falls = λ e. absurd (omega arith);
}
  where
    between : (j : ℕ) → j < 2 → (shown (times j (turn h.program) s) ≡ seen c)
        ⊎ (shown (times j (turn h.program) s) ≡ seen (go h.source c))
    between zero l = inl e
    between (suc zero) l = inl (ap shown one ∙ e')
    between (suc (suc j)) l = absurd (omega arith)

-- the output is the same
pub going : (f : Focus) (ks : List Item) (m : source.Memory) (ls : List Level) (k : machine.Memory)
    → k.world ≡ m.world → shown (On ls k) ≡ seen (Run f ks m)
unfolding shown seen
going f ks m ls k e = ap (λ (w : World). Going w.out) e

-- what waits behind a part is in the same loop
pub in_loop : (g : Ground) (h : Site) (l : List Registers) (ks : List Item) (n r : ℕ) (around outer : Option Loop)
    → outer ≡ around → InFrame g h l ks n r outer → InFrame g h l ks n r around
in_loop g h l ks n r around outer e a = subst (λ (o : Option Loop). InFrame g h l ks n r o) e a

-- no iteration goes on with a value that is given inside of a frame
pub given_light : (g : Ground) (h : Site) (l : List Registers) (ks : List Item) (n r : ℕ) (around : Option Loop)
    (v : Value) → InFrame g h l ks n r around → poise (give v) ks ≡ 1
given_light g h l [] n r around v a = absurd a
given_light g h l (part q ∷ ks) n r around v a = refl
given_light g h l (activation c q ∷ ks) n r around v a = refl
given_light g h l (iteration c it q ∷ ks) n r around v a = absurd a
given_light g h l (ensuring o ∷ ks) n r around v a = absurd a

pub going_out : (f : Focus) (ks : List Item) (m : source.Memory) (ls : List Level) (k : machine.Memory)
    → k.world.out ≡ m.world.out → shown (On ls k) ≡ seen (Run f ks m)
unfolding shown seen
going_out f ks m ls k e = ap Going e

-- the state whose running level is the frame at line n
abbrev pub state_at : Ground → Site → Rest → ℕ → machine.Memory → State
state_at g h x n k = On (frame (frame_at h x n) ∷ g.below) k

-- the memory with a value in register r
abbrev pub written : Site → machine.Memory → ℕ → Value → machine.Memory
written h k r v = record k { lists = put k.lists h.list r (V v) }

module _ {s : Source} {p : Program} where
  -- items inside of a frame that a value is given to
  pub gives_in : (g : Ground) (h : Site) (v : Value) (ks : List Item) (m : source.Memory) (ls : List Level)
      (k : machine.Memory) (n r : ℕ) (around : Option Loop) → InFrame g h k.lists ks n r around → Running s p g h m k
      → GivesIn g h v ks m.place ls k.lists → Giving s p v ks m ls k
  gives_in g h v [] m ls k n r around a b d = absurd a
  gives_in g h v (part q ∷ ks) m ls k n r around a b d = given_in s p v q ks m ls k (g, h, b, d)
  gives_in g h v (activation c q ∷ ks) m ls k n r around a b d = (g, h, b, d)
  gives_in g h v (iteration c it q ∷ ks) m ls k n r around a b d = absurd a
  gives_in g h v (ensuring o ∷ ks) m ls k n r around a b d = absurd a

  -- the value of a form is written to its register, and the items go on
  pub writes : (g : Ground) (h : Site) → Static h → (v : Value) (ks : List Item) (m : source.Memory) (x : Rest)
      (k : machine.Memory) (n r : ℕ) (around : Option Loop) → Running s p g h m k → m.place ≡ place_in h → Room h r
      → InFrame g h k.lists ks n r around → Alike s p (Run (give v) ks m) (state_at g h x n (written h k r v))
  writes g h static v ks m x k n r around b there room a =
      let l' = put k.lists h.list r (V v) in
      let c = same_here g h m k b in
      let a' = frame_kept g h k.lists l' ks n r around (keeps_above h k.lists r r (V v) c.present (omega arith))
      (put_only k.lists h.list r v) (omega (arith, b.free)) a in
      gives_in g h v ks m (frame (frame_at h x n) ∷ g.below) (written h k r v) n r around a'
      (written_here g h m k b r v room.above) (record {
        x = x;
        n = n;
        r = r;
        is = refl;
        there = there;
        stands = slot_same k.lists h.list r (V v) c.present (omega (arith, c.long, room.within));
        loop = around;
        next = a';
      })

  -- the value stays in the register of its form, and the items go on
  pub stays : (g : Ground) (h : Site) (v : Value) (ks : List Item) (m : source.Memory) (x : Rest) (k : machine.Memory)
      (n r : ℕ) (around : Option Loop) → Running s p g h m k → m.place ≡ place_in h → slot_at k.lists h.list r ≡ V v
      → InFrame g h k.lists ks n r around → Alike s p (Run (give v) ks m) (state_at g h x n k)
  stays g h v ks m x k n r around b there stands a =
      gives_in g h v ks m (frame (frame_at h x n) ∷ g.below) k n r around a b
      (record { x = x; n = n; r = r; is = refl; there = there; stands = stands; loop = around; next = a })
