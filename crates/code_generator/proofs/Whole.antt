-- The step law, by cases on the focus, and the theorem for a main program.
use Rattle.std.proofs.Common.{◌≡◌, ℕ, zero, suc, ◌+◌, ◌≤◌, List, [], ◌∷◌, refl, sym, ap, ◌∙◌, arith, true, false, length, map, take, replicate, true≢false}
use Rattle.std.proofs.lemmas.List.{take-replicate, length-replicate}
use Rattle.path_core.specs.Form.{Form, strict, local, set_local, seq, cond, while_form}
use Rattle.path_value.specs.declared.value.Value.{Value}
use Rattle.path_value.specs.declared.value.Value.TheVariants.{Nil}
use Rattle.rite_code.specs.Code.{Program}
use Rattle.rite_code.specs.declared.operation.Operation.TheVariants.{Stop}
use Rattle.path_eval.specs.Seen.{Over, over}
use Rattle.path_eval.specs.Steps.{StepLaw, Follows}
use Rattle.path_eval.proofs.Induction.{follows}
use Rattle.path_eval.specs.Configuration as source
use Rattle.path_eval.specs.Configuration.{Source, Part, operands, rest, branch, chosen, loop_test, loop_body, assign, Item, inside, activation, Exit, raise, Focus, perform, give, travel, Config, Run, Halt, World, opening, seen}
use Rattle.path_eval.specs.Transition.{go}
use Rattle.path_eval.specs.Measure.{measure, weight}
use Rattle.path_turns.specs.State.{value, read, body_at, Frame, Memory, State, On, Off, start, shown}
use Rattle.path_turns.specs.Turn.{turn}
use Rattle.code_generator.proofs.Stands.{Ins, Stands}
use Rattle.code_generator.proofs.Relation.{Related, Focused, Given, Step, behind_self}
use Rattle.code_generator.proofs.Matching.{given_of, going}
use Rattle.code_generator.proofs.cases.Strict.{do_strict, give_operand}
use Rattle.code_generator.proofs.cases.Locals.{do_local, do_set_local, give_assign}
use Rattle.code_generator.proofs.cases.Sequence.{do_seq, give_rest}
use Rattle.code_generator.proofs.cases.Branches.{do_cond, give_branch, give_chosen}
use Rattle.code_generator.proofs.cases.Loops.{do_while, give_test, give_body}
use Rattle.code_generator.proofs.cases.Ends.{give_none, give_activation, travel_none, travel_on}

do_matched : (q : Source) (p : Program) (e : Form) (ks : List Item) (w : World) (f : Frame) (fs : List Frame)
    (m : Memory) → Focused q p (perform e) ks w f fs m → Step q p (Run (perform e) ks w) (On f fs m)
do_matched q p (strict a es) ks w f fs m = do_strict q p a es ks w f fs m
do_matched q p (local x) ks w f fs m = do_local q p x ks w f fs m
do_matched q p (set_local x e) ks w f fs m = do_set_local q p x e ks w f fs m
do_matched q p (seq es) ks w f fs m = do_seq q p es ks w f fs m
do_matched q p (cond t a b) ks w f fs m = do_cond q p t a b ks w f fs m
do_matched q p (while_form t b) ks w f fs m = do_while q p t b ks w f fs m

part_matched : (q : Source) (p : Program) (v : Value) (k : Part) (ks : List Item) (w : World) (f : Frame)
    (fs : List Frame) (m : Memory) → Given q p v k ks w f fs m → Step q p (Run (give v) (inside k ∷ ks) w) (On f fs m)
part_matched q p v (operands a vs es) ks w f fs m = give_operand q p v a vs es ks w f fs m
part_matched q p v (rest es) ks w f fs m = give_rest q p v es ks w f fs m
part_matched q p v (branch a b) ks w f fs m = give_branch q p v a b ks w f fs m
part_matched q p v chosen ks w f fs m = give_chosen q p v ks w f fs m
part_matched q p v (loop_test t b) ks w f fs m = give_test q p v t b ks w f fs m
part_matched q p v (loop_body t b) ks w f fs m = give_body q p v t b ks w f fs m
part_matched q p v (assign x) ks w f fs m = give_assign q p v x ks w f fs m

weight_pos : (k : Part) → 1 ≤ weight k
weight_pos (operands a vs es) = omega arith
weight_pos (rest es) = omega arith
weight_pos (branch a b) = omega arith
weight_pos chosen = omega arith
weight_pos (loop_test t b) = omega arith
weight_pos (loop_body t b) = omega arith
weight_pos (assign x) = omega arith

matched : (q : Source) (p : Program) (c : Config) (s : State) → Related q p c s → over (seen c) ≡ false → Step q p c s
matched q p (Halt v) (Off t) r o = absurd (true≢false o)
matched q p (Halt v) (On f fs m) r o = absurd r
matched q p (Run x ks w) (Off t) r o = absurd r
matched q p (Run (perform e) ks w) (On f fs m) r o = do_matched q p e ks w f fs m r
matched q p (Run (give v) [] w) (On f fs m) r o = give_none q p v w f fs m r
matched q p (Run (give v) (inside k ∷ ks) w) (On f fs m) r o =
    part_matched q p v k ks w f fs m (given_of q p v k ks w f fs m r)
matched q p (Run (give v) (activation a ∷ ks) w) (On f fs m) r o = give_activation q p v a ks w f fs m r
matched q p (Run (travel x) [] w) (On f fs m) r o = travel_none q p x w f fs m r
matched q p (Run (travel x) (inside k ∷ ks) w) (On f fs m) r o =
    travel_on q p x (inside k) ks w f fs m refl (omega (arith, weight_pos k)) r
matched q p (Run (travel x) (activation a ∷ ks) w) (On f fs m) r o =
    travel_on q p x (activation a) ks w f fs m refl (omega arith) r

alike : (q : Source) (p : Program) (c : Config) (s : State) → Related q p c s → shown s ≡ seen c
alike q p (Halt v) (Off t) r = ap Over r
alike q p (Halt v) (On f fs m) r = absurd r
alike q p (Run x ks w) (Off t) r = absurd r
alike q p (Run (perform e) ks w) (On f fs m) r = going r.same
alike q p (Run (give v) ks w) (On f fs m) r = going r.same
alike q p (Run (travel (raise e)) ks w) (On f fs m) r = ap Rattle.path_eval.specs.Seen.Going (sym r.out)

ended : (q : Source) (c : Config) → over (seen c) ≡ true → go q c ≡ c
ended q (Halt v) o = refl
ended q (Run x ks w) o = absurd (true≢false (sym o))

stopped : (p : Program) (s : State) → over (shown s) ≡ true → turn p s ≡ s
stopped p (Off v) o = refl
stopped p (On f fs m) o = absurd (true≢false (sym o))

step_law : (q : Source) (p : Program) → StepLaw (go q) (turn p) seen shown over measure (Related q p)
step_law q p = record { alike = alike q p; ended = ended q; stopped = stopped p; matched = matched q p }

-- Body 0 is the code of the main program, and a stop after it.
pub record IsCodeOf (q : Source) (p : Program) : Type 0 where
  pub layout : (body_at p 0).locals ≡ length (source.body_at q 0).names + 1
  pub room : (body_at p 0).locals ≤ (body_at p 0).registers
  pub end : ℕ
  pub code : Stands p 0 (record { names = (source.body_at q 0).names }) (source.body_at q 0).form (body_at p 0).locals 0
      end
  pub stop : Ins p 0 end Stop

map-replicate : (n : ℕ) → map read (replicate n (value Nil)) ≡ replicate n Nil
map-replicate zero = refl
map-replicate (suc n) = ap (λ (vs : List Value). Nil ∷ vs) (map-replicate n)

-- the locals of fresh registers are nil
front_nils : (n k : ℕ) → n + 1 ≤ k → map read (take n (behind_self (replicate k (value Nil)))) ≡ replicate n Nil
front_nils n zero le = absurd (omega arith)
front_nils n (suc k) le = ap (map read) (take-replicate n k (value Nil) (omega arith)) ∙ map-replicate n

opening_related : (q : Source) (p : Program) (input : List ℕ) → IsCodeOf q p
    → Related q p (opening q input) (start p input)
opening_related q p input c =
    let names = (source.body_at q 0).names in
    record {
      same = record {
        is_scope = refl;
        input = refl;
        out = refl;
        scopes =
            ap (λ (vs : List Value). record { of = 0; values = vs } ∷ [])
            (sym (front_nils (length names) (body_at p 0).registers (omega (arith, c.layout, c.room))));
      };
      h = record { names = names };
      names = refl;
      r = (body_at p 0).locals;
      above = omega arith;
      end = c.end;
      code = c.code;
      next = record {
        last = refl;
        stop = c.stop;
        fits =
            record {
              present = omega arith;
              long = length-replicate (body_at p 0).registers (value Nil);
              own = refl;
              layout = c.layout;
            };
      };
    }

pub implements : (q : Source) (p : Program) (input : List ℕ) → IsCodeOf q p
    → Follows (go q) (turn p) seen shown over (opening q input) (start p input)
implements q p input c = follows (go q) (turn p) seen shown over measure (Related q p) (step_law q p) (opening q input)
    (start p input) (opening_related q p input c)
