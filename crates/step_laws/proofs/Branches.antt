-- Branches: conditions, `and` and `or`.
use Rattle.std.proofs.Common.{◌≡◌, ℕ, ◌+◌, ◌<◌, ◌≤◌, List, ◌∷◌, refl, sym, ap, ◌∙◌, subst, arith, Bool, true, false, ◌⊎◌, inl, inr}
use Rattle.std.specs.Prelude.{pos, ◌-ℤ◌, if◌then◌else◌, Option}
use Rattle.rb_value.specs.declared.value.Value.{Value}
use Rattle.rb_value.specs.declared.exit.Slot.{Slot}
use Rattle.rb_value.specs.declared.exit.Slot.TheVariants.{V}
use Rattle.rb_value.specs.Value.{is_true}
use Rattle.rb_value.specs.Slot.{read}
use Rattle.rite_code.specs.Instruction.{Instruction}
use Rattle.ir_core.specs.CoreForm.{CoreForm, cond, and_form, or_form, Branches, no_branches, branch}
use Rattle.gen_parts.specs.declared.line.Line.{Line}
use Rattle.gen_parts.specs.declared.line.Line.TheVariants as line
use Rattle.gen_parts.specs.declared.emitter.Spot.{Spot}
use Rattle.gen_parts.specs.declared.emitter.Held.TheVariants as held
use Rattle.gen_parts.specs.Pieces.{past, behind, puts, ◌⊕◌, jump, jump_not}
use Rattle.gen_parts.specs.Assembly.{instruction_before}
use Rattle.gen_forms.specs.declared.context.Loop.{Loop}
use Rattle.gen_forms.specs.Gen.{Context, gen, choose as chosen_code, over}
use Rattle.def_eval.specs.Source.{span}
use Rattle.def_eval.specs.Configuration as source
use Rattle.def_eval.specs.Configuration.{test, chosen, and_then, or_else, Item, part, perform, give, Run}
use Rattle.def_eval.specs.Forms.{next_branch, do_form}
use Rattle.def_eval.specs.Giving.{choose, go_right, go_left, give_part, do_give}
use Rattle.def_machine.specs.State as machine
use Rattle.def_machine.specs.State.{Level, frame, On, slot_at}
use Rattle.def_machine.specs.Turn.{turn, target, act_at}
use Rattle.step_laws.specs.Site.{Site, within, place_in, at_line, LineAt}
use Rattle.eval_laws.specs.Standing.{past_branches}
use Rattle.step_laws.specs.Covers.{past_choices, Covers, CoversBranches}
use Rattle.step_laws.specs.Measure.{measure, poise}
use Rattle.step_laws.proofs.Placed.{high, high-both, high-puts, line-past, line-behind, Stands, moved, KeepsWithin, Keeps, left, right, left_at, right_at, the_line, Rest, frame_at, leads, jumped}
use Rattle.step_laws.proofs.Guards.{within_both, within_puts, within_moved}
use Rattle.step_laws.proofs.Within.{keeps_both, keeps_begins, keeps, choice_keeps}
use Rattle.step_laws.specs.Behind.{Static, after_test}
use Rattle.step_laws.specs.Relation.{Ground, InFrame, Common, Doing, GivesIn, Related, Step}
use Rattle.step_laws.proofs.Focused.{doing_in}
use Rattle.step_laws.proofs.Matching.{by_none, by_one, in_loop, given_light, going, state_at, stays}
use Rattle.step_laws.proofs.Literals.{aligned}

-- The turn of a jump that looks at a register.

-- to the place of the next line, or to that of another one
place_by : (g : Ground) (h : Site) (x : Rest) (n to : ℕ) (k : machine.Memory) (b : Bool)
    → On (frame (record (frame_at h x n) {
      place = if b then at_line h (n + 1)
          else target (at_line h (n + 1)) (pos (at_line h to) -ℤ pos (at_line h (n + 1)));
    }) ∷ g.below) k ≡ state_at g h x (if b then n + 1 else to) k
place_by g h x n to k true = refl
place_by g h x n to k false =
    ap (λ (p : ℕ). On (frame (record (frame_at h x n) { place = p }) ∷ g.below) k) (leads (at_line h (n + 1)) (at_line h to))

pub jumped_not : (g : Ground) (h : Site) (x : Rest) (n r to : ℕ) (k : machine.Memory) (v : Value) (b : Bool)
    → LineAt h n (line.JumpNot r to) → slot_at k.lists h.list r ≡ V v → is_true v ≡ b
    → turn h.program (state_at g h x n k) ≡ state_at g h x (if b then n + 1 else to) k
unfolding instruction_before
jumped_not g h x n r to k v b l stands e =
    ap (λ (i : Option (Instruction × ℕ)). act_at h.program i (frame_at h x n) g.below k) l.here
    ∙ ap (λ (t : Bool). On (frame (record (frame_at h x n) {
      place = if t then at_line h (n + 1)
          else target (at_line h (n + 1)) (pos (at_line h to) -ℤ pos (at_line h (n + 1)));
    }) ∷ g.below) k) (ap (λ (u : Slot). is_true (read u)) stands ∙ e)
    ∙ place_by g h x n to k b

place_unless : (g : Ground) (h : Site) (x : Rest) (n to : ℕ) (k : machine.Memory) (b : Bool)
    → On (frame (record (frame_at h x n) {
      place = if b then target (at_line h (n + 1)) (pos (at_line h to) -ℤ pos (at_line h (n + 1)))
          else at_line h (n + 1);
    }) ∷ g.below) k ≡ state_at g h x (if b then to else n + 1) k
place_unless g h x n to k false = refl
place_unless g h x n to k true =
    ap (λ (p : ℕ). On (frame (record (frame_at h x n) { place = p }) ∷ g.below) k) (leads (at_line h (n + 1)) (at_line h to))

pub jumped_if : (g : Ground) (h : Site) (x : Rest) (n r to : ℕ) (k : machine.Memory) (v : Value) (b : Bool)
    → LineAt h n (line.JumpIf r to) → slot_at k.lists h.list r ≡ V v → is_true v ≡ b
    → turn h.program (state_at g h x n k) ≡ state_at g h x (if b then to else n + 1) k
unfolding instruction_before
jumped_if g h x n r to k v b l stands e =
    ap (λ (i : Option (Instruction × ℕ)). act_at h.program i (frame_at h x n) g.below k) l.here
    ∙ ap (λ (t : Bool). On (frame (record (frame_at h x n) {
      place = if t then target (at_line h (n + 1)) (pos (at_line h to) -ℤ pos (at_line h (n + 1)))
          else at_line h (n + 1);
    }) ∷ g.below) k) (ap (λ (u : Slot). is_true (read u)) stands ∙ e)
    ∙ place_unless g h x n to k b

-- where the code behind a branch begins
abbrev after_body : Context → Spot → ℕ → CoreForm → Spot
after_body c s r b = behind (past (behind s) (gen c (behind s) r b))

-- What stands behind a test.
pub record Tested (h : Site) (n r end : ℕ) (c : Context) (s : Spot) (b : CoreForm) (bs : Branches) (o : CoreForm)
    : Type 0 where
  pub skip : LineAt h n (line.JumpNot r (after_body c s r b).line)
  pub body : Stands h (n + 1) (gen c (behind s) r b)
  pub leave : LineAt h (n + 1 + high (gen c (behind s) r b)) (line.Jump end)
  pub others : Stands h (after_body c s r b).line (chosen_code c (after_body c s r b) r bs (λ d t i. gen d t i o))
  pub ends : (after_body c s r b).line + high (chosen_code c (after_body c s r b) r bs (λ d t i. gen d t i o)) ≡ end

-- its entries cover lines of it alone
test_kept : (c : Context) (s : Spot) (r : ℕ) (b : CoreForm) (bs : Branches) (o : CoreForm)
    → Keeps s (after_test c s r b bs o)
test_kept c s r b bs o =
    let q = gen c (behind s) r b in
    let further = behind (past (behind s) q) in
    let others = chosen_code c further r bs (λ d t i. gen d t i o) in
    let leap = jump (past further others).line in
    keeps_begins s (line.JumpNot r further.line) (q ⊕ leap ⊕ others)
    (keeps_both (behind s) q (leap ⊕ others) (keeps b c (behind s) r)
    (keeps_begins (past (behind s) q) (line.Jump (past further others).line) others
    (choice_keeps bs (λ d t i. gen d t i o) (keeps o) c further r)))

tested : (h : Site) (n r end : ℕ) (c : Context) (s : Spot) (b : CoreForm) (bs : Branches) (o : CoreForm)
    → s.line ≡ n → Stands h n (after_test c s r b bs o) → n + high (after_test c s r b bs o) ≡ end
    → Tested h n r end c s b bs o
tested h n r end c s b bs o here code ends =
    let q = gen c (behind s) r b in
    let further = behind (past (behind s) q) in
    let others = chosen_code c further r bs (λ d t i. gen d t i o) in
    let leap = jump (past further others).line in
    let skip = jump_not r further.line in
    let one : high skip ≡ 1 = high-puts (line.JumpNot r further.line) in
    let two : high leap ≡ 1 = high-puts (line.Jump (past further others).line) in
    let further_line : further.line ≡ n + 1 + high q + 1 =
    omega (arith, line-behind (past (behind s) q), line-past (behind s) q, line-behind s, here) in
    let later = moved h (n + high skip) (n + 1) (q ⊕ leap ⊕ others) (ap (λ (i : ℕ). n + i) one)
    (right h n skip (q ⊕ leap ⊕ others) (within_puts _ _) code) in
    let kept : KeepsWithin (n + 1) q = within_moved (behind s).line (n + 1) q (omega (arith, line-behind s, here))
    (keeps b c (behind s) r) in
    let kept_others : KeepsWithin (n + 1 + high q + high leap) others =
    within_moved further.line (n + 1 + high q + high leap) others (omega (arith, two, further_line))
    (choice_keeps bs (λ d t i. gen d t i o) (keeps o) c further r) in
    let kept_last : KeepsWithin (n + 1 + high q) (leap ⊕ others) =
    within_both (n + 1 + high q) leap others (within_puts _ _) kept_others in
    let kept_later : KeepsWithin (n + high skip) (q ⊕ leap ⊕ others) =
    within_moved (n + 1) (n + high skip) (q ⊕ leap ⊕ others) (omega (arith, one))
    (within_both (n + 1) q (leap ⊕ others) kept kept_last) in
    let last = right h (n + 1) q (leap ⊕ others) kept later in
    let ends' : further.line + high others ≡ end =
    omega (
      arith,
      ends,
      high-both skip (q ⊕ leap ⊕ others),
      high-both q (leap ⊕ others),
      high-both leap others,
      one,
      two,
      further_line,
    ) in
    record {
      skip = the_line h n (line.JumpNot r further.line) (left h n skip (q ⊕ leap ⊕ others) kept_later code);
      body = left h (n + 1) q (leap ⊕ others) kept_last later;
      leave = subst (λ (i : ℕ). LineAt h (n + 1 + high q) (line.Jump i)) (line-past further others ∙ ends')
          (the_line h (n + 1 + high q) (line.Jump (past further others).line)
          (left h (n + 1 + high q) leap others kept_others last));
      others = moved h (n + 1 + high q + high leap) further.line others
          (omega (arith, two, further_line)) (right h (n + 1 + high q) leap others (within_puts _ _) last);
      ends = ends';
    }

-- What stands behind the first operand of `and` and `or`: a jump to the end, and the second operand.
pub record Guarded (h : Site) (n r end : ℕ) (c : Context) (s : Spot) (e : CoreForm) (l : ℕ → Line) : Type 0 where
  pub skip : LineAt h n (l end)
  pub code : Stands h (n + 1) (gen c (behind s) r e)
  pub ends : n + 1 + high (gen c (behind s) r e) ≡ end

guarded : (h : Site) (n r end : ℕ) (c : Context) (s : Spot) (e : CoreForm) (l : ℕ → Line) → s.line ≡ n
    → Stands h n (puts (l (past (behind s) (gen c (behind s) r e)).line) ⊕ gen c (behind s) r e)
    → n + high (puts (l (past (behind s) (gen c (behind s) r e)).line) ⊕ gen c (behind s) r e) ≡ end
    → Guarded h n r end c s e l
guarded h n r end c s e l here code ends =
    let p = gen c (behind s) r e in
    let to = (past (behind s) p).line in
    let one : high (puts (l to)) ≡ 1 = high-puts (l to) in
    let ends' : n + 1 + high p ≡ end = omega (arith, ends, high-both (puts (l to)) p, one) in
    let kept : KeepsWithin (n + high (puts (l to))) p =
    within_moved (behind s).line (n + high (puts (l to))) p (omega (arith, line-behind s, here, one))
    (keeps e c (behind s) r) in
    let to_end : to ≡ end = omega (arith, line-past (behind s) p, line-behind s, here, ends') in
    record {
      skip = subst (λ (i : ℕ). LineAt h n (l i)) to_end (the_line h n (l to)
          (left h n (puts (l to)) p kept code));
      code = moved h (n + high (puts (l to))) (n + 1) p (ap (λ (i : ℕ). n + i) one)
          (right h n (puts (l to)) p (within_puts _ _) code);
      ends = ends';
    }

module _ (g : Ground) (h : Site) (static : Static h) (ks : List Item) (m : source.Memory) (ls : List Level)
    (k : machine.Memory) (both : Common g h m (aligned k m)) where
  -- the branches that are left, at line n
  branches : (x : Rest) (n r : ℕ) (loop : Option Loop) (s : Spot) (j : ℕ) (bs : Branches) (o : CoreForm)
      → m.place ≡ place_in h → s.line ≡ n → CoversBranches h loop r s j bs × Covers h loop r (past_choices h loop r s bs) (past_branches j bs) o
      → h.first ≤ r
      → Stands h n (chosen_code (within h loop) s r bs (λ d t i. gen d t i o))
      → InFrame g h k.lists ks (n + high (chosen_code (within h loop) s r bs (λ d t i. gen d t i o))) r loop
      → Related h (next_branch j bs o ks m) (state_at g h x n (aligned k m))
  branches x n r loop s j no_branches o there here covered above code next =
      doing_in h.source h.program j o ks m (frame (frame_at h x n) ∷ g.below) (aligned k m) (
        g,
        h,
        both,
        record {
          x = x;
          n = n;
          r = r;
          is = refl;
          there = there;
          loop = loop;
          s = s;
          here = here;
          covered = covered.1;
          above = above;
          code = code;
          next = next;
        },
      )
  branches x n r loop s j (branch t b bs) o there here covered above code next =
      let p = gen (within h loop) s r t in
      let q = after_test (within h loop) (past s p) r b bs o in (
        g,
        h,
        both,
        record {
          x = x;
          n = n;
          r = r;
          is = refl;
          there = there;
          loop = loop;
          s = s;
          here = here;
          covered = covered.0.0;
          above = above;
          code = left_at h n s p q here (test_kept (within h loop) (past s p) r b bs o) code;
          next = record {
            low = r;
            end = n + high (p ⊕ q);
            above = above;
            below = omega arith;
            behind = record {
              at = refl;
              s = past s p;
              here = line-past s p ∙ ap (λ (i : ℕ). i + high p) here;
              covered = (covered.0.1, covered.0.2, covered.1);
              code = right_at h n s p q here (keeps t (within h loop) s r) code;
              ends = omega (arith, high-both p q);
            };
            outer = loop;
            inner = refl;
            next = next;
          };
        },
      )

  smaller : (j : ℕ) (bs : Branches) (o : CoreForm)
      → measure (next_branch j bs o ks m) < measure (Run (perform j (cond bs o)) ks m)
  smaller j no_branches o = omega arith
  smaller j (branch t b bs) o = omega arith

  pub do_cond : (j : ℕ) (bs : Branches) (o : CoreForm) (d : Doing g h j (cond bs o) ks m.place ls k.lists)
      → Step h (Run (perform j (cond bs o)) ks m) (state_at g h d.x d.n (aligned k m))
  unfolding do_form
  do_cond j bs o d =
      by_none h (Run (perform j (cond bs o)) ks m) (state_at g h d.x d.n (aligned k m)) (smaller j bs o)
      (branches d.x d.n d.r d.loop d.s j bs o d.there d.here d.covered d.above d.code d.next)

  -- a test that is given its value
  chosen_by : (v : Value) (j : ℕ) (b : CoreForm) (bs : Branches) (o : CoreForm)
      (d : GivesIn g h v (part (test j b bs o) ∷ ks) m.place ls k.lists)
      → Tested h d.n d.next.low d.next.end (within h d.loop) d.next.behind.s b bs o
      → (t : Bool) → is_true v ≡ t
      → Step h (Run (give v) (part (test j b bs o) ∷ ks) m) (state_at g h d.x d.n (aligned k m))
  unfolding do_give give_part
  chosen_by v j b bs o d y true e =
      let c = Run (give v) (part (test j b bs o) ∷ ks) m in
      let stands = subst (λ (i : ℕ). slot_at k.lists h.list i ≡ V v) (sym d.next.behind.at) d.stands in
      by_one h c (state_at g h d.x d.n (aligned k m)) (state_at g h d.x (d.n + 1) (aligned k m))
      (going (give v) (part (test j b bs o) ∷ ks) m (frame (frame_at h d.x d.n) ∷ g.below) (aligned k m) refl)
      (jumped_not g h d.x d.n d.next.low (after_body (within h d.loop) d.next.behind.s d.next.low b).line (aligned k m) v true y.skip stands e)
      (subst (λ (u : Bool). Related h (choose u j b bs o ks m) (state_at g h d.x (d.n + 1) (aligned k m))) (sym e) (
        g,
        h,
        both,
        record {
          x = d.x;
          n = d.n + 1;
          r = d.next.low;
          is = refl;
          there = d.there;
          loop = d.loop;
          s = behind d.next.behind.s;
          here = omega (arith, line-behind d.next.behind.s, d.next.behind.here);
          covered = d.next.behind.covered.0;
          above = d.next.above;
          code = y.body;
          next = record {
            low = d.next.low;
            end = d.next.end;
            above = d.next.above;
            below = omega arith;
            behind = record { at = refl; jump = inl y.leave };
            outer = d.next.outer;
            inner = d.next.inner;
            next = d.next.next;
          };
        },
      ))
  chosen_by v j b bs o d y false e =
      let c = Run (give v) (part (test j b bs o) ∷ ks) m in
      let further = after_body (within h d.loop) d.next.behind.s d.next.low b in
      let stands = subst (λ (i : ℕ). slot_at k.lists h.list i ≡ V v) (sym d.next.behind.at) d.stands in
      by_one h c (state_at g h d.x d.n (aligned k m)) (state_at g h d.x further.line (aligned k m))
      (going (give v) (part (test j b bs o) ∷ ks) m (frame (frame_at h d.x d.n) ∷ g.below) (aligned k m) refl)
      (jumped_not g h d.x d.n d.next.low further.line (aligned k m) v false y.skip stands e)
      (subst (λ (u : Bool). Related h (choose u j b bs o ks m) (state_at g h d.x further.line (aligned k m))) (sym e)
      (branches d.x further.line d.next.low d.loop further (j + span b) bs o d.there refl
      (d.next.behind.covered.1, d.next.behind.covered.2) d.next.above y.others
      (subst (λ (i : ℕ). InFrame g h k.lists ks i d.next.low d.loop) (sym y.ends)
      (in_loop g h k.lists ks d.next.end d.next.low d.loop d.next.outer d.next.inner d.next.next))))

  pub give_test : (v : Value) (j : ℕ) (b : CoreForm) (bs : Branches) (o : CoreForm)
      (d : GivesIn g h v (part (test j b bs o) ∷ ks) m.place ls k.lists)
      → Step h (Run (give v) (part (test j b bs o) ∷ ks) m) (state_at g h d.x d.n (aligned k m))
  give_test v j b bs o d =
      let y = d.next.behind in
      chosen_by v j b bs o d (tested h d.n d.next.low d.next.end (within h d.loop) y.s b bs o y.here y.code y.ends)
      (is_true v) refl

  -- the value of a branch, behind which is a jump to the end
  pub give_chosen : (v : Value) (d : GivesIn g h v (part chosen ∷ ks) m.place ls k.lists)
      → Step h (Run (give v) (part chosen ∷ ks) m) (state_at g h d.x d.n (aligned k m))
  unfolding do_give give_part
  give_chosen v d = by d.next.behind.jump
    where
      given : Related h (Run (give v) ks m) (state_at g h d.x d.next.end (aligned k m))
      given =
          stays g h v ks m d.x (aligned k m) d.next.end d.next.low d.next.outer both d.there
          (subst (λ (i : ℕ). slot_at k.lists h.list i ≡ V v) (sym d.next.behind.at) d.stands) d.next.next

      by : LineAt h d.n (line.Jump d.next.end) ⊎ (d.n ≡ d.next.end)
          → Step h (Run (give v) (part chosen ∷ ks) m) (state_at g h d.x d.n (aligned k m))
      by (inl jump) =
          by_one h (Run (give v) (part chosen ∷ ks) m) (state_at g h d.x d.n (aligned k m))
          (state_at g h d.x d.next.end (aligned k m))
          (going (give v) (part chosen ∷ ks) m (frame (frame_at h d.x d.n) ∷ g.below) (aligned k m) refl)
          (jumped h d.x d.n d.next.end g.below (aligned k m) jump) given
      by (inr at_end) =
          let light : poise (give v) ks ≡ 1 =
          given_light g h k.lists ks d.next.end d.next.low d.next.outer v d.next.next in
          by_none h (Run (give v) (part chosen ∷ ks) m) (state_at g h d.x d.n (aligned k m)) (omega (arith, light))
          (subst (λ (i : ℕ). Related h (Run (give v) ks m) (state_at g h d.x i (aligned k m))) (sym at_end) given)

  -- `and` and `or` begin with their first operand
  pub do_and : (j : ℕ) (a b : CoreForm) (d : Doing g h j (and_form a b) ks m.place ls k.lists)
      → Step h (Run (perform j (and_form a b)) ks m) (state_at g h d.x d.n (aligned k m))
  unfolding do_form
  do_and j a b d =
      let p = gen (within h d.loop) d.s d.r a in
      let q = over (held.JumpNot d.r) (past d.s p) (λ t. gen (within h d.loop) t d.r b) in
      by_none h (Run (perform j (and_form a b)) ks m) (state_at g h d.x d.n (aligned k m)) (omega arith) (
        g,
        h,
        both,
        record {
          x = d.x;
          n = d.n;
          r = d.r;
          is = refl;
          there = d.there;
          loop = d.loop;
          s = d.s;
          here = d.here;
          covered = d.covered.0;
          above = d.above;
          code = left_at h d.n d.s p q d.here
              (keeps_begins (past d.s p) _ (gen (within h d.loop) (behind (past d.s p)) d.r b)
              (keeps b (within h d.loop) (behind (past d.s p)) d.r)) d.code;
          next = record {
            low = d.r;
            end = d.n + high (p ⊕ q);
            above = d.above;
            below = omega arith;
            behind = record {
              at = refl;
              s = past d.s p;
              here = line-past d.s p ∙ ap (λ (i : ℕ). i + high p) d.here;
              covered = d.covered.1;
              code = right_at h d.n d.s p q d.here (keeps a (within h d.loop) d.s d.r) d.code;
              ends = omega (arith, high-both p q);
            };
            outer = d.loop;
            inner = refl;
            next = d.next;
          };
        },
      )

  pub do_or : (j : ℕ) (a b : CoreForm) (d : Doing g h j (or_form a b) ks m.place ls k.lists)
      → Step h (Run (perform j (or_form a b)) ks m) (state_at g h d.x d.n (aligned k m))
  unfolding do_form
  do_or j a b d =
      let p = gen (within h d.loop) d.s d.r a in
      let q = over (held.JumpIf d.r) (past d.s p) (λ t. gen (within h d.loop) t d.r b) in
      by_none h (Run (perform j (or_form a b)) ks m) (state_at g h d.x d.n (aligned k m)) (omega arith) (
        g,
        h,
        both,
        record {
          x = d.x;
          n = d.n;
          r = d.r;
          is = refl;
          there = d.there;
          loop = d.loop;
          s = d.s;
          here = d.here;
          covered = d.covered.0;
          above = d.above;
          code = left_at h d.n d.s p q d.here
              (keeps_begins (past d.s p) _ (gen (within h d.loop) (behind (past d.s p)) d.r b)
              (keeps b (within h d.loop) (behind (past d.s p)) d.r)) d.code;
          next = record {
            low = d.r;
            end = d.n + high (p ⊕ q);
            above = d.above;
            below = omega arith;
            behind = record {
              at = refl;
              s = past d.s p;
              here = line-past d.s p ∙ ap (λ (i : ℕ). i + high p) d.here;
              covered = d.covered.1;
              code = right_at h d.n d.s p q d.here (keeps a (within h d.loop) d.s d.r) d.code;
              ends = omega (arith, high-both p q);
            };
            outer = d.loop;
            inner = refl;
            next = d.next;
          };
        },
      )

  -- the second operand is done, or the value of the first is that of the whole
  second : (x : Rest) (v : Value) (n r end : ℕ) (loop : Option Loop) (s : Spot) (j : ℕ) (e : CoreForm) (l : ℕ → Line)
      → m.place ≡ place_in h → s.line ≡ n → Covers h loop r (behind s) j e → h.first ≤ r
      → Guarded h n r end (within h loop) s e l → InFrame g h k.lists ks end r loop
      → Related h (Run (perform j e) ks m) (state_at g h x (n + 1) (aligned k m))
  second x v n r end loop s j e l there here covered above q next =
      doing_in h.source h.program j e ks m (frame (frame_at h x (n + 1)) ∷ g.below) (aligned k m) (
        g,
        h,
        both,
        record {
          x = x;
          n = n + 1;
          r = r;
          is = refl;
          there = there;
          loop = loop;
          s = behind s;
          here = omega (arith, line-behind s, here);
          covered = covered;
          above = above;
          code = q.code;
          next = subst (λ (i : ℕ). InFrame g h k.lists ks i r loop) (sym q.ends) next;
        },
      )

  and_by : (v : Value) (j : ℕ) (e : CoreForm) (d : GivesIn g h v (part (and_then j e) ∷ ks) m.place ls k.lists)
      → Guarded h d.n d.next.low d.next.end (within h d.loop) d.next.behind.s e (line.JumpNot d.next.low)
      → (t : Bool) → is_true v ≡ t
      → Step h (Run (give v) (part (and_then j e) ∷ ks) m) (state_at g h d.x d.n (aligned k m))
  unfolding do_give give_part
  and_by v j e d q true is =
      let stands = subst (λ (i : ℕ). slot_at k.lists h.list i ≡ V v) (sym d.next.behind.at) d.stands in
      by_one h (Run (give v) (part (and_then j e) ∷ ks) m) (state_at g h d.x d.n (aligned k m))
      (state_at g h d.x (d.n + 1) (aligned k m))
      (going (give v) (part (and_then j e) ∷ ks) m (frame (frame_at h d.x d.n) ∷ g.below) (aligned k m) refl)
      (jumped_not g h d.x d.n d.next.low d.next.end (aligned k m) v true q.skip stands is)
      (subst (λ (u : Bool). Related h (go_right u j e v ks m) (state_at g h d.x (d.n + 1) (aligned k m))) (sym is)
      (second d.x v d.n d.next.low d.next.end d.loop d.next.behind.s j e (line.JumpNot d.next.low) d.there
      d.next.behind.here d.next.behind.covered d.next.above q
      (in_loop g h k.lists ks d.next.end d.next.low d.loop d.next.outer d.next.inner d.next.next)))
  and_by v j e d q false is =
      let stands = subst (λ (i : ℕ). slot_at k.lists h.list i ≡ V v) (sym d.next.behind.at) d.stands in
      by_one h (Run (give v) (part (and_then j e) ∷ ks) m) (state_at g h d.x d.n (aligned k m))
      (state_at g h d.x d.next.end (aligned k m))
      (going (give v) (part (and_then j e) ∷ ks) m (frame (frame_at h d.x d.n) ∷ g.below) (aligned k m) refl)
      (jumped_not g h d.x d.n d.next.low d.next.end (aligned k m) v false q.skip stands is)
      (subst (λ (u : Bool). Related h (go_right u j e v ks m) (state_at g h d.x d.next.end (aligned k m))) (sym is)
      (stays g h v ks m d.x (aligned k m) d.next.end d.next.low d.next.outer both d.there stands d.next.next))

  or_by : (v : Value) (j : ℕ) (e : CoreForm) (d : GivesIn g h v (part (or_else j e) ∷ ks) m.place ls k.lists)
      → Guarded h d.n d.next.low d.next.end (within h d.loop) d.next.behind.s e (line.JumpIf d.next.low)
      → (t : Bool) → is_true v ≡ t
      → Step h (Run (give v) (part (or_else j e) ∷ ks) m) (state_at g h d.x d.n (aligned k m))
  unfolding do_give give_part
  or_by v j e d q false is =
      let stands = subst (λ (i : ℕ). slot_at k.lists h.list i ≡ V v) (sym d.next.behind.at) d.stands in
      by_one h (Run (give v) (part (or_else j e) ∷ ks) m) (state_at g h d.x d.n (aligned k m))
      (state_at g h d.x (d.n + 1) (aligned k m))
      (going (give v) (part (or_else j e) ∷ ks) m (frame (frame_at h d.x d.n) ∷ g.below) (aligned k m) refl)
      (jumped_if g h d.x d.n d.next.low d.next.end (aligned k m) v false q.skip stands is)
      (subst (λ (u : Bool). Related h (go_left u j e v ks m) (state_at g h d.x (d.n + 1) (aligned k m))) (sym is)
      (second d.x v d.n d.next.low d.next.end d.loop d.next.behind.s j e (line.JumpIf d.next.low) d.there
      d.next.behind.here d.next.behind.covered d.next.above q
      (in_loop g h k.lists ks d.next.end d.next.low d.loop d.next.outer d.next.inner d.next.next)))
  or_by v j e d q true is =
      let stands = subst (λ (i : ℕ). slot_at k.lists h.list i ≡ V v) (sym d.next.behind.at) d.stands in
      by_one h (Run (give v) (part (or_else j e) ∷ ks) m) (state_at g h d.x d.n (aligned k m))
      (state_at g h d.x d.next.end (aligned k m))
      (going (give v) (part (or_else j e) ∷ ks) m (frame (frame_at h d.x d.n) ∷ g.below) (aligned k m) refl)
      (jumped_if g h d.x d.n d.next.low d.next.end (aligned k m) v true q.skip stands is)
      (subst (λ (u : Bool). Related h (go_left u j e v ks m) (state_at g h d.x d.next.end (aligned k m))) (sym is)
      (stays g h v ks m d.x (aligned k m) d.next.end d.next.low d.next.outer both d.there stands d.next.next))

  pub give_and : (v : Value) (j : ℕ) (e : CoreForm) (d : GivesIn g h v (part (and_then j e) ∷ ks) m.place ls k.lists)
      → Step h (Run (give v) (part (and_then j e) ∷ ks) m) (state_at g h d.x d.n (aligned k m))
  give_and v j e d =
      let y = d.next.behind in
      and_by v j e d (guarded h d.n d.next.low d.next.end (within h d.loop) y.s e (line.JumpNot d.next.low) y.here y.code
      y.ends) (is_true v) refl

  pub give_or : (v : Value) (j : ℕ) (e : CoreForm) (d : GivesIn g h v (part (or_else j e) ∷ ks) m.place ls k.lists)
      → Step h (Run (give v) (part (or_else j e) ∷ ks) m) (state_at g h d.x d.n (aligned k m))
  give_or v j e d =
      let y = d.next.behind in
      or_by v j e d (guarded h d.n d.next.low d.next.end (within h d.loop) y.s e (line.JumpIf d.next.low) y.here y.code
      y.ends) (is_true v) refl
