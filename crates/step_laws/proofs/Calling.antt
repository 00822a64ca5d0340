-- What a call enters, on both sides, and how its answer goes back.
use Rattle.std.proofs.Common.{◌≡◌, ℕ, ◌+◌, ◌<◌, List, [], ◌∷◌, refl, sym, ap, ◌∙◌, subst, arith, length, map}
use Rattle.std.specs.Prelude.{Option}
use Rattle.rb_value.specs.declared.value.Value.{Value}
use Rattle.rb_value.specs.declared.exit.Slot.TheVariants.{V}
use Rattle.rite_code.specs.Code.{Program}
use Rattle.ir_core.specs.CoreForm.{no_clauses, clause}
use Rattle.gen_forms.specs.declared.context.Loop.{Loop}
use Rattle.def_calls.specs.World.{World, Result, gives, raises}
use Rattle.def_calls.specs.Fibers as fibers
use Rattle.def_eval.specs.Source.{Source}
use Rattle.def_eval.specs.Configuration as source
use Rattle.def_eval.specs.Configuration.{Place, Part, operands, receiver, items, block, elements, hash_key, hash_value, pieces, rest, test, chosen, and_then, or_else, loop_test, loop_body, rescued, clause_class, clause_target, clause_body, ensured, stop_of, Item, part, activation, iteration, ensuring, give, Config, Run, seen}
use Rattle.def_eval.specs.Entering.{after_result, depth}
use Rattle.def_eval.specs.Transition.{go}
use Rattle.def_machine.specs.State as machine
use Rattle.def_machine.specs.State.{Registers, Frame, Level, frame, On, put, shown}
use Rattle.def_machine.specs.Unwind.{receive}
use Rattle.def_machine.specs.Entering.{answer_result}
use Rattle.def_machine.specs.Turn.{turn}
use Rattle.gen_parts.specs.Assembly.{entry_by}
use Rattle.step_laws.specs.Site.{Site, guarded_by, bare, IsGuarded}
use Rattle.step_laws.specs.Calm.{Grows, Quiet}
use Rattle.step_laws.specs.Measure.{burden, measure}
use Rattle.step_laws.proofs.Placed.{Rest, frame_at}
use Rattle.step_laws.specs.Behind.{Behind}
use Rattle.step_laws.specs.Relation.{Inside, EndsBy, stops, returns, Ends, IsSite, Waits, Ground, over_levels, InFrame, IsPassed, Leaving, Both, raised, Alike}
use Rattle.step_laws.proofs.Outside.{outside_any, outside_passed}
use Rattle.step_laws.proofs.Untouched.{leaves_end, runs_again}
use Rattle.step_laws.proofs.Matching.{Soon, soon_none, soon_one, written, writes}

-- both sides have the same number of activations under way

inside_depth : (h : Site) (l : List Registers) (AtEnd : ℕ → Place → List Item → ℕ → ℕ → Type 0) (d : ℕ)
    → ((a : ℕ) (p : Place) (is : List Item) (i t : ℕ) → AtEnd a p is i t → depth is ≡ d) → (ks : List Item) (n r : ℕ)
    (around : Option Loop) → Inside h l AtEnd ks n r around → depth ks ≡ d + 1
inside_depth h l E d to [] n r around a = absurd a
inside_depth h l E d to (part p ∷ ks) n r around a =
    outside_any (stop_of p) h.guards (λ gs. Inside (guarded_by h gs) l E ks a.end a.low a.outer) (depth ks ≡ d + 1)
    (λ gs x. inside_depth (guarded_by h gs) l E d to ks a.end a.low a.outer x) a.next
inside_depth h l E d to (activation c p ∷ ks) n r around a = ap (λ (i : ℕ). i + 1) (to c p ks n r a.0)
inside_depth h l E d to (iteration c it p ∷ ks) n r around a = absurd a
inside_depth h l E d to (ensuring o ∷ ks) n r around a = absurd a

end_depth : (h : Site) (fiber : fibers.Name) (ls : List Level) (F : Place → List Item → Type 0)
    → ((p : Place) (is : List Item) → F p is → depth is ≡ length ls) → (p : Place) (is : List Item) (n r : ℕ)
    → EndsBy h fiber ls F p is n r → depth is ≡ length ls
end_depth h fiber ls F to p is n r (stops l main last bare root) = ap depth last ∙ sym (ap length bare)
end_depth h fiber ls F to p is n r (returns l next) = to p is next

pub depth_is : (hs : List Site) (fiber : fibers.Name) (l : List Registers) (ks : List Item) (place : Place)
    (ls : List Level) → Waits hs fiber l ks place ls → depth ks ≡ length ls
depth_is hs fiber l ks place [] a = ap depth a
depth_is hs fiber l ks place (frame f ∷ ls) a =
    inside_depth a.h l (λ b p is i t. Ends (bare a.h) fiber ls (λ q js. Waits hs fiber l js q ls) b p is i t) (length ls)
    (λ b p is i t e. end_depth (bare a.h) fiber ls (λ q js. Waits hs fiber l js q ls)
    (λ q js. depth_is hs fiber l js q ls) p is i t e.by) ks a.n a.x.waits a.around a.next ∙ omega arith
depth_is hs fiber l ks place (machine.iteration a it v ∷ ls) w =
    ap depth w.is ∙ ap (λ (d : ℕ). d + 1) (depth_is hs fiber l w.others w.back ls w.next) ∙ omega arith

-- an exception leaves what waits
pub passed : (h : Site) (l : List Registers) (p : Part) (low n r end : ℕ) (around : Option Loop)
    → Behind h l p low n r end around → IsPassed (stop_of p)
passed h l (operands j a vs es) low n r end around b = tt
passed h l (receiver j x is o) low n r end around b = tt
passed h l (items j s recv vs is o) low n r end around b = tt
passed h l (block s recv vs) low n r end around b = tt
passed h l (elements j g o s is) low n r end around b = tt
passed h l (hash_key j o v ps) low n r end around b = tt
passed h l (hash_value j o v ps) low n r end around b = tt
passed h l (pieces j o es) low n r end around b = tt
passed h l (rest j es) low n r end around b = tt
passed h l (test j t bs o) low n r end around b = tt
passed h l chosen low n r end around b = tt
passed h l (and_then j e) low n r end around b = tt
passed h l (or_else j e) low n r end around b = tt
passed h l (loop_test j t e) low n r end around b = tt
passed h l (loop_body j t e) low n r end around b = tt
passed h l (rescued j t no_clauses o) low n r end around b = tt
passed h l (rescued j t (clause es u d cs) o) low n r end around b = absurd b
passed h l (clause_class j e es t d cs q) low n r end around b = absurd b
passed h l (clause_target j e t q) low n r end around b = absurd b
passed h l (clause_body q) low n r end around b = absurd b
passed h l (ensured j e) low n r end around b = absurd b

leaves_inside : (hs : List Site) (fiber : fibers.Name) (l : List Registers) (h : Site) (x : Rest) (at : ℕ)
    (ls : List Level) → IsSite hs h → IsGuarded h at → (ks : List Item) (n r : ℕ)
    (around : Option Loop) → Inside h l (λ a p is i t. Ends (bare h) fiber ls (λ q js. Waits hs fiber l js q ls) a p is i t) ks n r around
    → Leaving hs fiber l ks (frame (frame_at h x at) ∷ ls)
leaves_inside hs fiber l h x at ls site guarded [] n r around a = absurd a
leaves_inside hs fiber l h x at ls site guarded (part p ∷ ks) n r around a = (
  passed h l p a.low n r a.end around a.behind,
  leaves_inside hs fiber l h x at ls site guarded ks a.end a.low a.outer
      (outside_passed (stop_of p) h.guards (λ gs. Inside (guarded_by h gs) l
      (λ b q is i t. Ends (bare h) fiber ls (λ q js. Waits hs fiber l js q ls) b q is i t) ks a.end a.low a.outer)
      (passed h l p a.low n r a.end around a.behind) a.next),
)
leaves_inside hs fiber l h x at ls site guarded (activation c p ∷ ks) n r around a = record {
  h = h;
  x = x;
  at = at;
  below = ls;
  is = refl;
  site = site;
  same = a.0.is;
  unguarded = guarded ∙ ap (map (entry_by h.at)) a.2;
  next = leaves_end (bare h) fiber ls (λ q js. Waits hs fiber l js q ls) hs l (λ q js w. w) p ks n r a.0.by;
}
leaves_inside hs fiber l h x at ls site guarded (iteration c it p ∷ ks) n r around a = absurd a
leaves_inside hs fiber l h x at ls site guarded (ensuring o ∷ ks) n r around a = absurd a

pub leaves_frame : (g : Ground) (h : Site) (l : List Registers) (ks : List Item) (n r : ℕ) (around : Option Loop)
    (x : Rest) (at : ℕ) → IsSite g.sites h → IsGuarded h at → InFrame g h l ks n r around
    → Leaving g.sites g.fiber l ks (frame (frame_at h x at) ∷ g.below)
leaves_frame g h l ks n r around x at site guarded a =
    leaves_inside g.sites g.fiber l h x at g.below site guarded ks n r around a

pub leaves : (hs : List Site) (fiber : fibers.Name) (l : List Registers) (ks : List Item) (place : Place)
    (ls : List Level) → Waits hs fiber l ks place ls → Leaving hs fiber l ks ls
leaves hs fiber l ks place [] a = subst (λ (is : List Item). Leaving hs fiber l is []) (sym a) refl
leaves hs fiber l ks place (frame f ∷ ls) a =
    subst (λ (q : Frame). Leaving hs fiber l ks (frame q ∷ ls)) (sym a.is)
    (leaves_inside hs fiber l a.h a.x a.at ls a.site a.guarded ks a.n a.x.waits a.around a.next)
leaves hs fiber l ks place (machine.iteration a it v ∷ ls) w =
    subst (λ (is : List Item). Leaving hs fiber l is (machine.iteration a it v ∷ ls)) (sym w.is)
    (record { answer = v; below = ls; is = refl; next = w.next })

-- A value goes to what waits for it.

module _ {s : Source} {p : Program} where
  -- to the frame or the iteration on top
  pub received_by : (g : Ground) (v : Value) (ks : List Item) (m : source.Memory) (q : Level) (ls : List Level)
      (k : machine.Memory) → Both s p (over_levels g (q ∷ ls)) m k → Waits g.sites g.fiber k.lists ks m.place (q ∷ ls)
      → Alike s p (Run (give v) ks m) (receive v (q ∷ ls) k)
  unfolding receive
  received_by g v ks m (frame f) ls k b a =
      let e : f.list ≡ a.h.list = ap (λ (q : Frame). q.list) a.is in
      let here = runs_again g a.h m k f ls e a.site b in
      let static = (b.sites.each a.h a.site).static in
      subst (λ (q : Frame). Alike s p (Run (give v) ks m)
      (On (frame (record q { place = q.after }) ∷ ls) (record k { lists = put k.lists q.list q.waits (V v) }))) (sym a.is)
      (subst (λ (i : ℕ). Alike s p (Run (give v) ks m)
      (On (frame (record (frame_at a.h a.x a.at) { place = i }) ∷ ls) (written a.h k a.x.waits v))) (sym a.after)
      (writes (over_levels g ls) a.h static v ks m a.x k a.n a.x.waits a.around here a.there a.room a.next))
  received_by g v ks m (machine.iteration c it old) ls k b w =
      subst (λ (is : List Item). Alike s p (Run (give v) is m) (On (machine.iteration c it v ∷ ls) k)) (sym w.is) (record {
        g = over_levels g ls;
        is = refl;
        both = record { world = b.world; sites = b.sites; fibers = b.fibers; apart = b.apart };
        waits = w.next;
      })

-- What a transition and a turn come from.
pub record Origin (s : Source) (c : Config) (ls : List Level) (k : machine.Memory) (m : source.Memory) : Type 0 where
  pub alike : shown (On ls k) ≡ seen c
  pub out : k.world.out ≡ m.world.out
  pub quiet : Quiet m (go s c)

abbrev pub From : Site → Config → List Level → machine.Memory → source.Memory → Type 0
From h c ls k m = Origin h.source c ls k m

-- Both sides at any world to which activations are added.
abbrev pub Worlds : Source → Program → Ground → source.Memory → source.Memory → machine.Memory → Type 0
Worlds s p g m m' k' = (w : World) → Grows m.world w → Both s p g (source.with_world m' w) (machine.with_world k' w)

-- A transition that no turn matches lowers the measure. A value that is given to no level is none yet.
abbrev pub Falls : List Level → List Item → source.Memory → Config → Type 0
Falls [] ks m c = 1 + burden ks m < measure c
Falls (q ∷ gs) ks m c = burden ks m < measure c

pub falls : (gs : List Level) (ks : List Item) (m : source.Memory) (c : Config) → 1 + burden ks m < measure c
    → Falls gs ks m c
falls [] ks m c lt = lt
falls (q ∷ gs) ks m c lt = omega (arith, lt)

light : (gs : List Level) (ks : List Item) (m : source.Memory) (c : Config) → Falls gs ks m c → burden ks m < measure c
light [] ks m c lt = omega (arith, lt)
light (q ∷ gs) ks m c lt = lt

-- A value goes to what waits for it, if there is a level.
pub given_on : (s : Source) (p : Program) (c : Config) (ls : List Level) (k : machine.Memory) → shown (On ls k) ≡ seen c
    → (v : Value) (ks : List Item) (m : source.Memory) (g : Ground) (gs : List Level) (k' : machine.Memory)
    → go s c ≡ Run (give v) ks m → turn p (On ls k) ≡ receive v gs k' → 0 < length gs
    → Both s p (over_levels g gs) m k' → Waits g.sites g.fiber k'.lists ks m.place gs → Soon s p c (On ls k)
given_on s p c ls k alike v ks m g [] k' goes turns some both a = absurd (omega (arith, some))
given_on s p c ls k alike v ks m g (q ∷ gs) k' goes turns some both a =
    soon_one s p c (On ls k) (receive v (q ∷ gs) k') alike turns
    (subst (λ (d : Config). Alike s p d (receive v (q ∷ gs) k')) (sym goes) (received_by g v ks m q gs k' both a))

-- A value goes to what waits for it, or to what resumed the fiber.
pub given_back : (s : Source) (p : Program) (c : Config) (ls : List Level) (k : machine.Memory) (m : source.Memory)
    → Origin s c ls k m → (v : Value) (ks : List Item) (m' : source.Memory) (g : Ground) (gs : List Level)
    (k' : machine.Memory) → go s c ≡ Run (give v) ks m' → turn p (On ls k) ≡ receive v gs k' → Falls gs ks m' c
    → Both s p (over_levels g gs) m' k' → Waits g.sites g.fiber k'.lists ks m'.place gs → Soon s p c (On ls k)
given_back s p c ls k m from v ks m' g [] k' goes turns less both a =
    let goes' = goes ∙ ap (λ (is : List Item). Run (give v) is m') a in
    let quiet = subst (Quiet m) goes' from.quiet in
    let less' = subst (λ (is : List Item). 1 + burden is m' < measure c) a less in
    soon_none s p c (On ls k) (subst (λ (d : Config). measure d < measure c) (sym goes') less')
    (subst (λ (d : Config). Alike s p d (On ls k)) (sym goes') (record {
      g = over_levels g [];
      memory = k';
      last = refl;
      gives = turns;
      out = from.out ∙ sym quiet.0;
      both = both;
    }))
given_back s p c ls k m from v ks m' g (q ∷ gs) k' goes turns less both a =
    given_on s p c ls k from.alike v ks m' g (q ∷ gs) k' goes turns (omega arith) both a

-- The answer of a call, with what waits for it.
pub answered : (s : Source) (p : Program) (c : Config) (ls : List Level) (k : machine.Memory) (m : source.Memory)
    → Origin s c ls k m → (x : Result) (w : World) (ks : List Item) (m' : source.Memory) (g : Ground) (gs : List Level)
    (k' : machine.Memory) → go s c ≡ after_result x w ks m'
    → turn p (On ls k) ≡ answer_result p x gs (machine.with_world k' w) → Falls gs ks m' c
    → Worlds s p (over_levels g gs) m m' k' → Waits g.sites g.fiber k'.lists ks m'.place gs → Soon s p c (On ls k)
answered s p c ls k m from (gives v) w ks m' g gs k' goes turns less both a =
    let quiet = subst (Quiet m) goes from.quiet in
    given_back s p c ls k m from v ks (source.with_world m' w) g gs (machine.with_world k' w) goes turns
    (same_fall gs ks m' w c less) (both w quiet.1) a
  where
    same_fall : (gs : List Level) (ks : List Item) (m : source.Memory) (w : World) (c : Config) → Falls gs ks m c
        → Falls gs ks (source.with_world m w) c
    same_fall [] ks m w c lt = lt
    same_fall (q ∷ gs) ks m w c lt = lt
answered s p c ls k m from (raises e) w ks m' g gs k' goes turns less both a =
    let quiet = subst (Quiet m) goes from.quiet in
    let less' : burden ks m' < measure c = light gs ks m' c less in
    soon_none s p c (On ls k) (subst (λ (d : Config). measure d < measure c) (sym goes) (omega (arith, less')))
    (subst (λ (d : Config). Alike s p d (On ls k)) (sym goes) (raised (record {
      g = over_levels g gs;
      e = e;
      exception = refl;
      memory = machine.with_world k' w;
      throws = turns;
      out = from.out ∙ sym quiet.0;
      both = both w quiet.1;
      leaving = leaves g.sites g.fiber k'.lists ks m'.place gs a;
    })))
