-- A body begins behind the defaults of the optional parameters that are given: on both sides the same form is next.
use Rattle.std.proofs.Common.{◌≡◌, ℕ, zero, suc, ◌+◌, ◌<◌, List, ◌∷◌, refl, sym, ap, ◌∙◌, subst, arith}
use Rattle.std.specs.Prelude.{Option}
use Rattle.rb_value.specs.declared.value.Value.TheVariants.{Nil}
use Rattle.rb_value.specs.declared.exit.Slot.TheVariants.{V}
use Rattle.rite_code.specs.Code.{Program}
use Rattle.rite_code.specs.Instruction.{Instruction}
use Rattle.ir_core.specs.CoreForm.{CoreForm, Forms, none, more}
use Rattle.gen_parts.specs.declared.line.Line.TheVariants as line
use Rattle.gen_parts.specs.declared.emitter.Spot.{Spot}
use Rattle.gen_parts.specs.Pieces.{past}
use Rattle.gen_parts.specs.Assembly.{instruction_before}
use Rattle.gen_forms.specs.Gen.{gen, others_in_turn}
use Rattle.def_eval.specs.Source.{Source, span}
use Rattle.def_eval.specs.Configuration as source
use Rattle.def_eval.specs.Configuration.{Item, part, rest, Focus, perform, give, Config, Run}
use Rattle.def_eval.specs.Entering.{do_all, do_from, forms_in, begin_body}
use Rattle.def_machine.specs.State as machine
use Rattle.def_machine.specs.State.{Frame, slot_at}
use Rattle.def_machine.specs.Turn.{fetch, skip, place_after}
use Rattle.step_laws.specs.Site.{Site, place_in, at_line, LineAt}
use Rattle.step_laws.specs.Covers.{CoversAll}
use Rattle.step_laws.specs.Bodies.{start_of}
use Rattle.step_laws.specs.Relation.{Ground, InFrame, Running, Alike}
use Rattle.step_laws.proofs.Placed.{high, high-both, high-nothing, line-past, Stands, moved, left_at, right_at, Rest}
use Rattle.step_laws.proofs.Within.{keeps, others_keep}
use Rattle.step_laws.proofs.Matching.{state_at, stays}

-- What begins a body runs on in its memory, wherever it begins.
pub record RunsOn (c : Config) (m : source.Memory) : Type 0 where
  pub focus : Focus
  pub items : List Item
  pub is : c ≡ Run focus items m

all_run : (n : ℕ) (es : Forms) (ks : List Item) (m : source.Memory) → RunsOn (do_all n es ks m) m
all_run n none ks m = record { focus = give Nil; items = ks; is = refl }
all_run n (more e es) ks m = record { focus = perform n e; items = part (rest (n + span e) es) ∷ ks; is = refl }

from_run : (i n : ℕ) (es : Forms) (ks : List Item) (m : source.Memory) → RunsOn (do_from i n es ks m) m
from_run zero n es ks m = all_run n es ks m
from_run (suc i) n none ks m = all_run n none ks m
from_run (suc i) n (more e es) ks m = from_run i (n + span e) es ks m

pub body_runs : (i n : ℕ) (e : CoreForm) (ks : List Item) (m : source.Memory) → RunsOn (begin_body i n e ks m) m
body_runs zero n e ks m = record { focus = perform n e; items = ks; is = refl }
body_runs (suc i) n e ks m = from_run (suc i) n (forms_in e) ks m

-- ENTER goes on at the jump of that number
pub skipped : (h : Site) (f : Frame) → f.body ≡ h.body → (to : ℕ → ℕ) (i n : ℕ)
    → ((t : ℕ) → t < i → LineAt h (n + t) (line.Jump (to t))) → skip h.program f i (at_line h n) ≡ at_line h (n + i)
unfolding instruction_before
skipped h f same to zero n lines = ap (at_line h) (omega arith)
skipped h f same to (suc i) n lines =
    let first = subst (λ (j : ℕ). LineAt h j (line.Jump (to 0))) (omega arith) (lines 0 (omega arith)) in
    ap (λ (b : ℕ). skip h.program f i (place_after (fetch h.program b (at_line h n)) (at_line h n))) same
    ∙ ap (λ (o : Option (Instruction × ℕ)). skip h.program f i (place_after o (at_line h n))) first.here
    ∙ skipped h f same (λ t. to (suc t)) i (n + 1)
    (λ t lt. subst (λ (j : ℕ). LineAt h j (line.Jump (to (suc t)))) (omega arith) (lines (suc t) (omega (arith, lt))))
    ∙ ap (at_line h) (omega arith)

module _ {s : Source} {p : Program} (g : Ground) (h : Site) (ks : List Item) (m : source.Memory) (x : Rest)
    (k : machine.Memory) (b : Running s p g h m k) (there : m.place ≡ place_in h)
    (empty : slot_at k.lists h.list h.first ≡ V Nil) where
  -- nothing is left to do
  ends_now : (sp : Spot)
      → InFrame g h k.lists ks (sp.line + high (others_in_turn h.context sp h.first none)) h.first h.context.loop
      → Alike s p (Run (give Nil) ks m) (state_at g h x sp.line k)
  ends_now sp next =
      stays g h Nil ks m x k sp.line h.first h.context.loop b there empty
      (subst (λ (i : ℕ). InFrame g h k.lists ks i h.first h.context.loop) (omega (arith, high-nothing)) next)

  pub begun_from : (i j : ℕ) (es : Forms) (sp : Spot) → CoversAll h h.context.loop h.first sp j es
      → Stands h sp.line (others_in_turn h.context sp h.first es)
      → InFrame g h k.lists ks (sp.line + high (others_in_turn h.context sp h.first es)) h.first h.context.loop
      → Alike s p (do_from i j es ks m) (state_at g h x (start_of h sp i es) k)
  begun_from zero j none sp covers code next = ends_now sp next
  begun_from (suc i) j none sp covers code next = ends_now sp next
  begun_from zero j (more e es) sp covers code next =
      let q = gen h.context sp h.first e in
      let others = others_in_turn h.context (past sp q) h.first es in (
        g,
        h,
        b,
        record {
          x = x;
          n = sp.line;
          r = h.first;
          is = refl;
          there = there;
          loop = h.context.loop;
          s = sp;
          here = refl;
          covered = covers.0;
          above = omega arith;
          code = left_at h sp.line sp q others refl (others_keep es h.context (past sp q) h.first) code;
          next = record {
            low = h.first;
            end = sp.line + high (others_in_turn h.context sp h.first (more e es));
            above = omega arith;
            below = omega arith;
            behind = record {
              at = refl;
              s = past sp q;
              here = line-past sp q;
              covered = covers.1;
              code = right_at h sp.line sp q others refl (keeps e h.context sp h.first) code;
              ends = omega (arith, high-both q others);
            };
            outer = h.context.loop;
            inner = refl;
            next = next;
          };
        },
      )
  begun_from (suc i) j (more e es) sp covers code next =
      let q = gen h.context sp h.first e in
      let others = others_in_turn h.context (past sp q) h.first es in
      let at : sp.line + high q ≡ (past sp q).line = sym (line-past sp q) in
      begun_from i (j + span e) es (past sp q) covers.1
      (moved h (sp.line + high q) (past sp q).line others at
      (right_at h sp.line sp q others refl (keeps e h.context sp h.first) code))
      (subst (λ (n : ℕ). InFrame g h k.lists ks n h.first h.context.loop) (omega (arith, at, high-both q others)) next)
