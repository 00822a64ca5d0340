-- What an exit out of a body passes, and how the form of one begins.
use Rattle.std.proofs.Common.{◌≡◌, ℕ, ◌+◌, ◌<◌, List, [], ◌∷◌, refl, sym, ap, ◌∙◌, subst, arith, ◌≤◌, Bool, true, false}
use Rattle.std.specs.Prelude.{◌||◌, Option, None}
use Rattle.std.proofs.lemmas.Bool.{eq-eqb}
use Rattle.rite_code.specs.declared.operation.Operation.{Operation}
use Rattle.ir_core.specs.CoreForm.{CoreForm, none, no_clauses, clause}
use Rattle.gen_parts.specs.declared.line.Line.TheVariants as line
use Rattle.gen_parts.specs.Pieces.{does, ◌⊕◌}
use Rattle.gen_forms.specs.declared.context.Loop.{Loop}
use Rattle.gen_forms.specs.Gen.{gen}
use Rattle.def_eval.specs.Source.{span}
use Rattle.def_eval.specs.Configuration as source
use Rattle.def_eval.specs.Configuration.{Action, Stop, passes, loops, rescues, assigns, retries, ensures, Part, operands, receiver, items, block, elements, hash_key, hash_value, pieces, rest, test, chosen, and_then, or_else, loop_test, loop_body, rescued, clause_class, clause_target, clause_body, ensured, stop_of, Item, part, activation, iteration, ensuring, perform, Config, Run}
use Rattle.def_eval.specs.Forms.{is_under_way, is_loop, in_loop}
use Rattle.def_eval.specs.Transition.{go}
use Rattle.def_machine.specs.State as machine
use Rattle.def_machine.specs.State.{Registers, Level}
use Rattle.step_laws.specs.Site.{Site, guarded_by, bare, within, LineAt}
use Rattle.step_laws.specs.Covers.{Covers}
use Rattle.step_laws.specs.Measure.{size, measure}
use Rattle.step_laws.specs.Behind.{OperandBehind, Behind, IsAround}
use Rattle.step_laws.specs.Relation.{Waits, Ground, InFrame, IsFree, IsLeft, Common, Doing, Home, Related, Step}
use Rattle.step_laws.proofs.Placed.{high, Stands, within_puts, left, right_at, the_line}
use Rattle.step_laws.proofs.Within.{keeps}
use Rattle.step_laws.proofs.Untouched.{leaves_end}
use Rattle.step_laws.proofs.Matching.{by_none, state_at}
use Rattle.step_laws.proofs.Outside.{outside_passed}
use Rattle.step_laws.proofs.Calling.{passed}
use Rattle.step_laws.proofs.Literals.{aligned}

-- out of loops a part lets every exit pass
free : (h : Site) (l : List Registers) (p : Part) (low n r end : ℕ) (around : Option Loop) → around ≡ None
    → Behind h l p low n r end around → IsFree (stop_of p)
free h l (operands j a vs es) low n r end around e b = tt
free h l (receiver j x is o) low n r end around e b = tt
free h l (items j s recv vs is o) low n r end around e b = tt
free h l (block s recv vs) low n r end around e b = tt
free h l (elements j g o s is) low n r end around e b = tt
free h l (hash_key j o v ps) low n r end around e b = tt
free h l (hash_value j o v ps) low n r end around e b = tt
free h l (pieces j o es) low n r end around e b = tt
free h l (rest j es) low n r end around e b = tt
free h l (test j t bs o) low n r end around e b = tt
free h l chosen low n r end around e b = tt
free h l (and_then j f) low n r end around e b = tt
free h l (or_else j f) low n r end around e b = tt
free h l (loop_test j t f) low n r end around e b = absurd (cc (sym e ∙ b.inside ∙ b.loop.is))
free h l (loop_body j t f) low n r end around e b = absurd (cc (sym e ∙ b.inside ∙ b.loop.is))
free h l (rescued j t no_clauses o) low n r end around e b = tt
free h l (rescued j t (clause es u d cs) o) low n r end around e b = absurd b
free h l (clause_class j f es t d cs q) low n r end around e b = absurd b
free h l (clause_target j f t q) low n r end around e b = absurd b
free h l (clause_body q) low n r end around e b = absurd b
free h l (ensured j f) low n r end around e b = absurd b

-- what waits behind it is in the same loop
free_around : (o : Stop) (around outer : Option Loop) → IsFree o → IsAround o around outer → outer ≡ around
free_around passes around outer f a = a
free_around (loops n t b) around outer f a = absurd f
free_around (rescues n r) around outer f a = a
free_around (assigns e r) around outer f a = absurd f
free_around (retries r) around outer f a = absurd f
free_around (ensures n e) around outer f a = absurd f

no_loop_in : (o : Stop) → IsFree o → is_loop o ≡ false
no_loop_in passes f = refl
no_loop_in (loops n t b) f = absurd f
no_loop_in (rescues n r) f = refl
no_loop_in (assigns e r) f = absurd f
no_loop_in (retries r) f = absurd f
no_loop_in (ensures n e) f = absurd f

left_by : (round : Bool) (h : Site) (l : List Registers) (p : Part) (low n r end : ℕ) (around : Option Loop)
    → (round ≡ true → around ≡ None) → Behind h l p low n r end around → IsLeft round (stop_of p)
left_by false h l p low n r end around e b = passed h l p low n r end around b
left_by true h l p low n r end around e b = free h l p low n r end around (e refl) b

-- Down to the end of the activation; a next is out of loops.
pub home_of : (g : Ground) (h : Site) (l : List Registers) (round : Bool) (ks : List Item) (n r : ℕ) (around : Option Loop)
    → (round ≡ true → around ≡ None) → InFrame g h l ks n r around → Home g h l round ks
home_of g h l round [] n r around e a = absurd a
home_of g h l round (part p ∷ ks) n r around e a = (
  left_by round h l p a.low n r a.end around e a.behind,
  home_of g h l round ks a.end a.low a.outer
      (λ t. free_around (stop_of p) around a.outer (free h l p a.low n r a.end around (e t) a.behind) a.inner ∙ e t)
      (outside_passed (stop_of p) h.guards (λ gs. InFrame g (guarded_by h gs) l ks a.end a.low a.outer)
      (passed h l p a.low n r a.end around a.behind) a.next),
)
home_of g h l round (activation c p ∷ ks) n r around e a = (
  a.0.is,
  leaves_end (bare h) g.fiber g.below (λ q js. Waits g.sites g.fiber l js q g.below) g.sites l (λ q js w. w) p ks n r a.0.by,
  a.2,
)
home_of g h l round (iteration c it p ∷ ks) n r around e a = absurd a
home_of g h l round (ensuring o ∷ ks) n r around e a = absurd a

-- it is under way, and no loop is
pub under_way : (g : Ground) (h : Site) (l : List Registers) (round : Bool) (ks : List Item) → Home g h l round ks
    → is_under_way ks h.activation ≡ true
under_way g h l round [] w = absurd w
under_way g h l round (part p ∷ ks) w = under_way g h l round ks w.1
under_way g h l round (activation a p ∷ ks) w =
    ap (λ (b : Bool). b || is_under_way ks h.activation) (eq-eqb h.activation a (sym w.0))
under_way g h l round (iteration a it p ∷ ks) w = absurd w
under_way g h l round (ensuring o ∷ ks) w = absurd w

pub no_loop : (g : Ground) (h : Site) (l : List Registers) (ks : List Item) → Home g h l true ks → in_loop ks ≡ false
no_loop g h l [] w = absurd w
no_loop g h l (part p ∷ ks) w =
    ap (λ (b : Bool). b || in_loop ks) (no_loop_in (stop_of p) w.0) ∙ no_loop g h l ks w.1
no_loop g h l (activation a p ∷ ks) w = refl
no_loop g h l (iteration a it p ∷ ks) w = absurd w
no_loop g h l (ensuring o ∷ ks) w = absurd w

-- A form whose one operand an instruction takes behind it.
module _ (g : Ground) (h : Site) (ks : List Item) (m : source.Memory) (ls : List Level) (k : machine.Memory)
    (both : Common g h m (aligned k m)) where
  pub begins_last : (j : ℕ) (f e : CoreForm) (a : Action) (d : Doing g h j f ks m.place ls k.lists)
      → go h.source (Run (perform j f) ks m) ≡ Run (perform j e) (part (operands (j + span e) a [] none) ∷ ks) m
      → 2 + size e ≤ size f → Covers h d.loop d.r d.s j e → (o : Operation)
      → Stands h d.n (gen (within h d.loop) d.s d.r e ⊕ does o)
      → ((n : ℕ) → LineAt h n (line.Does o)
      → OperandBehind h k.lists (j + span e) a [] none d.r n d.r (d.n + high (gen (within h d.loop) d.s d.r f)) d.loop)
      → Step h (Run (perform j f) ks m) (state_at g h d.x d.n (aligned k m))
  begins_last j f e a d goes less covered o code behind =
      let p = gen (within h d.loop) d.s d.r e in
      by_none h (Run (perform j f) ks m) (state_at g h d.x d.n (aligned k m))
      (subst (λ (c : Config). measure c < measure (Run (perform j f) ks m)) (sym goes) (omega (arith, less)))
      (subst (λ (c : Config). Related h c (state_at g h d.x d.n (aligned k m))) (sym goes) (
        g,
        h,
        both,
        record {
          x = d.x;
          n = d.n;
          r = d.r;
          is = refl;
          there = d.there;
          loop = d.loop;
          s = d.s;
          here = d.here;
          covered = covered;
          above = d.above;
          code = left h d.n p (does o) (within_puts _ _) code;
          next = record {
            low = d.r;
            end = d.n + high (gen (within h d.loop) d.s d.r f);
            above = d.above;
            below = omega arith;
            behind = behind (d.n + high p) (the_line h (d.n + high p) (line.Does o)
                (right_at h d.n d.s p (does o) d.here (keeps e (within h d.loop) d.s d.r) code));
            outer = d.loop;
            inner = refl;
            next = d.next;
          };
        },
      ))
