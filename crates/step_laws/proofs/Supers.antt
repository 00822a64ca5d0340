-- A call of the method above the running one, with a block: self is what is called, and the look-up goes on behind the owner.
use Rattle.std.proofs.Common.{◌≡◌, ℕ, ◌+◌, List, [], ◌∷◌, refl, ap, ◌∙◌, subst, arith, Bool, true, false}
use Rattle.std.specs.Prelude.{if◌then◌else◌, ◌||◌, nat_lt}
use Rattle.rite_code.specs.declared.operation.Operation.TheVariants as op
use Rattle.ir_counts.specs.Tables.{item_count}
use Rattle.ir_core.specs.CoreForm.{CoreForm, super_form, absent, there, Items}
use Rattle.gen_parts.specs.declared.line.Line.TheVariants as line
use Rattle.gen_parts.specs.declared.emitter.Spot.{Spot}
use Rattle.gen_parts.specs.Pieces.{Piece, past, behind, puts, does, ◌⊕◌}
use Rattle.gen_parts.proofs.Laws.{past-both}
use Rattle.gen_forms.specs.declared.calls.Passing.{Passing}
use Rattle.gen_forms.specs.Gen.{Code, gen, gather, pass_in_registers, passing, passed_by, own_block, count_operand, registers_of}
use Rattle.def_calls.specs.Calls.{to_super}
use Rattle.eval_laws.specs.Standing.{past_items}
use Rattle.def_eval.specs.Configuration as source
use Rattle.def_eval.specs.Configuration.{arguments_of, Item, perform, Config, Run}
use Rattle.def_eval.specs.Forms.{self_of, next_item, gather as gather_all, has_splat as has_splats, do_form}
use Rattle.def_eval.specs.Transition.{go}
use Rattle.def_machine.specs.State as machine
use Rattle.def_machine.specs.State.{Level, frame}
use Rattle.step_laws.specs.Site.{Site, within, LineAt, Room}
use Rattle.step_laws.specs.Passed.{in_array, MayHand, Passed}
use Rattle.step_laws.specs.Covers.{past_items_code, past_new, Covers, CoversItems, CoversElements}
use Rattle.step_laws.specs.Calm.{IsSteady, Peace}
use Rattle.step_laws.specs.Behind.{Static, HoldsCall, to_above, a_super, ArrayEnds, array_with, ItemsEnd, by_block, AsksBlock, by_own, by_array}
use Rattle.step_laws.specs.Relation.{Ground, Common, Doing, Step}
use Rattle.step_laws.proofs.Placed.{high, high-both, high-puts, line-past, line-behind, Stands, moved, Keeps, past_here, left, right, left_at, right_at, the_line, frame_at}
use Rattle.step_laws.proofs.Guards.{within_both, within_puts}
use Rattle.step_laws.proofs.Within.{keeps_ends, own_keeps, keeps, items_keep, elements_keep, arguments_keep}
use Rattle.step_laws.proofs.Untouched.{same_here}
use Rattle.step_laws.proofs.Matching.{Within, later, going, state_at}
use Rattle.step_laws.proofs.Calling.{From}
use Rattle.step_laws.proofs.Literals.{aligned, self_is}
use Rattle.step_laws.proofs.Passing.{HowPassed, in_registers, in_array_of, gathered_all, how_passed, few_passed, same_splats, no_splat}
use Rattle.step_laws.proofs.Sends.{sent_moved, items_on}
use Rattle.step_laws.proofs.Spreading.{spread_on}

-- The parts of its code: the arguments, the block, and the call.
record SuperParts (h : Site) (n r count : ℕ) (p q : Piece) (end : ℕ) : Type 0 where
  pub arguments : Stands h n p
  pub block : Stands h (n + high p) q
  pub calls : LineAt h (n + high p + high q) (line.Does (op.Super r count))
  pub ends : n + high p + high q + 1 ≡ end

super_parts : (h : Site) (n r count : ℕ) (s : Spot) (p q : Piece) → s.line ≡ n → Keeps s p → Keeps (past s p) q
    → Stands h n (p ⊕ q ⊕ does (op.Super r count))
    → SuperParts h n r count p q (n + high (p ⊕ q ⊕ does (op.Super r count)))
super_parts h n r count s p q here x y code =
    let o = op.Super r count in
    let rest = right_at h n s p (q ⊕ does o) here x code in
    record {
      arguments = left_at h n s p (q ⊕ does o) here (keeps_ends (past s p) q (line.Does o) y) code;
      block = left h (n + high p) q (does o) (within_puts _ _) rest;
      calls = the_line h (n + high p + high q) (line.Does o)
          (right_at h (n + high p) (past s p) q (does o) (past_here s p n here) y rest);
      ends = omega (arith, high-both p (q ⊕ does o), high-both q (does o), high-puts (line.Does o));
    }

-- The instructions that ask for the block of the method.
asks_parts : (h : Site) (n : ℕ) (t : Spot) (r : ℕ) → t.line ≡ n → Stands h n (own_block t r)
    → AsksBlock h r n × (high (own_block t r) ≡ 3)
asks_parts h n t r here s =
    let p = does (op.Defined r 6 0) in
    let b = does (op.BlkPush r) in
    let to = (past (behind (past t p)) b).line in
    let skip = puts (line.JumpNot r to) in
    let one : high p ≡ 1 = high-puts (line.Does (op.Defined r 6 0)) in
    let two : high skip ≡ 1 = high-puts (line.JumpNot r to) in
    let three : high b ≡ 1 = high-puts (line.Does (op.BlkPush r)) in
    let there : to ≡ n + 1 + 1 + 1 =
    omega (arith, line-past (behind (past t p)) b, line-behind (past t p), line-past t p, one, three, here) in
    let rest = right h n p (skip ⊕ b) (within_puts _ _) s in
    let second : n + high p ≡ n + 1 = omega (arith, one) in
    let third : n + high p + high skip ≡ n + 1 + 1 = omega (arith, one, two) in (
      record {
        defined = the_line h n (line.Does (op.Defined r 6 0))
            (left h n p (skip ⊕ b) (within_both _ skip b (within_puts _ _) (within_puts _ _)) s);
        skips = subst (λ (i : ℕ). LineAt h (n + 1) (line.JumpNot r i)) there
            (subst (λ (i : ℕ). LineAt h i (line.JumpNot r to)) second
            (the_line h (n + high p) (line.JumpNot r to) (left h (n + high p) skip b (within_puts _ _) rest)));
        pushes = subst (λ (i : ℕ). LineAt h i (line.Does (op.BlkPush r))) third
            (the_line h (n + high p + high skip) (line.Does (op.BlkPush r))
            (right h (n + high p) skip b (within_puts _ _) rest));
      },
      omega (arith, high-both p (skip ⊕ b), high-both skip b, one, two, three),
    )

module _ (g : Ground) (h : Site) (static : Static h) (ks : List Item) (m : source.Memory) (ls : List Level)
    (k : machine.Memory) (both : Common g h m (aligned k m)) (steady : IsSteady h.source m.world) where
  -- Without a block that of the method is passed.
  module _ (j : ℕ) (is : Items) (d : Doing g h j (super_form is absent) ks m.place ls k.lists)
      (peace : Peace h.source h.program (perform j (super_form is absent)) ks m) where
    abbrev own : Config
    own = Run (perform j (super_form is absent)) ks m

    abbrev items_by : Passing → Piece
    items_by p = passed_by p (λ t u i. pass_in_registers t u i is) (λ t u i. gather t u i is) (within h d.loop) d.s d.r

    abbrev last_line : ℕ
    last_line = d.n + high (gen (within h d.loop) d.s d.r (super_form is absent))

    abbrev OwnBy : Passing → Type 0
    OwnBy p = SuperParts h d.n d.r (count_operand p) (items_by p)
        (own_block (past d.s (items_by p)) (d.r + 1 + registers_of p)) last_line

    own_parts : OwnBy (passing is)
    own_parts = super_parts h d.n d.r (count_operand (passing is)) d.s (items_by (passing is))
        (own_block (past d.s (items_by (passing is))) (d.r + 1 + registers_of (passing is))) d.here
        (arguments_keep is (within h d.loop) d.s d.r)
        (own_keeps (past d.s (items_by (passing is))) (d.r + 1 + registers_of (passing is))) d.code

    own_goes : has_splats is ≡ false → go h.source own ≡ next_item h.source j to_super (self_of m) [] is absent ks m
    unfolding do_form
    own_goes e =
        ap (λ (i : Bool). if i then gather_all h.source j (arguments_of to_super (self_of m) absent) is ks m
        else next_item h.source j to_super (self_of m) [] is absent ks m) e

    alone_then : Within 6 h.source h.program own (state_at g h d.x d.n (aligned k m))
    alone_then =
        let few = few_passed is d.covered.1 in
        let y = subst OwnBy few.1 own_parts in
        let sp = past_items_code h d.loop (d.r + 1) d.s is in
        let q = pass_in_registers (within h d.loop) d.s (d.r + 1) is in
        let last = d.n + high q in
        let z = asks_parts h last (past d.s q) (d.r + 1 + item_count is) (omega (arith, line-past d.s q, d.here)) y.block in
        items_on g h static ks m k both steady d.there own d.x d.n j to_super (self_of m) [] is absent (record {
          low = d.r;
          own = true;
          loop = d.loop;
          s = d.s;
          here = d.here;
          r = d.r + 1;
          row = omega arith;
          room = d.covered.0;
          covered = d.covered.2;
          held = (self_is g h m (aligned k m) both d.there ∙ (same_here g h m (aligned k m) both).self, tt);
          code = y.arguments;
          end = last_line;
          ends = sent_moved h d.loop to_super d.r (item_count is) (0 + item_count is) true sp sp (past_items j is) absent last last
              last_line (omega arith) refl refl
              (by_own refl refl refl few.2 d.covered.3 z.0
              (subst (λ (i : ℕ). LineAt h i (line.Does (op.Super d.r (item_count is)))) (omega (arith, z.1)) y.calls)
              (omega (arith, z.1, y.ends)));
          next = d.next;
        }) (record {
          alike = going (perform j (super_form is absent)) ks m (frame (frame_at h d.x d.n) ∷ g.below) (aligned k m) refl;
          out = refl;
          quiet = peace.quiet;
        }) (own_goes (no_splat h d.loop (d.r + 1) d.s j is d.covered.2)) (omega arith) peace.calls peace.block

  pub do_super_alone : (j : ℕ) (is : Items) (d : Doing g h j (super_form is absent) ks m.place ls k.lists)
      → Peace h.source h.program (perform j (super_form is absent)) ks m
      → Step h (Run (perform j (super_form is absent)) ks m) (state_at g h d.x d.n (aligned k m))
  do_super_alone j is d peace = (alone_then j is d peace).advances

  module _ (j : ℕ) (is : Items) (b : CoreForm) (d : Doing g h j (super_form is (there b)) ks m.place ls k.lists)
      (peace : Peace h.source h.program (perform j (super_form is (there b))) ks m) where
    abbrev conf : Config
    conf = Run (perform j (super_form is (there b))) ks m

    abbrev each : Code
    each = λ t u i. pass_in_registers t u i is

    abbrev spread : Code
    spread = λ t u i. gather t u i is

    abbrev code_by : Passing → Piece
    code_by p = passed_by p each spread (within h d.loop) d.s d.r

    abbrev block_by : Passing → Piece
    block_by p = gen (within h d.loop) (past d.s (code_by p)) (d.r + 1 + registers_of p) b

    abbrev end : ℕ
    end = d.n + high (gen (within h d.loop) d.s d.r (super_form is (there b)))

    abbrev PartsBy : Passing → Type 0
    PartsBy p = SuperParts h d.n d.r (count_operand p) (code_by p) (block_by p) end

    abbrev Asked : Passing → Type 0
    Asked p = Passed p (Room h (d.r + 1)) (CoversItems h d.loop (d.r + 1) d.s j is)
        (CoversElements h d.loop (d.r + 1) (past_new (d.r + 1) d.s) j is)

    abbrev BlockBy : Passing → Type 0
    BlockBy p = Covers h d.loop (d.r + 1 + registers_of p) (past d.s (code_by p)) (past_items j is) b

    parts : PartsBy (passing is)
    parts = super_parts h d.n d.r (count_operand (passing is)) d.s (code_by (passing is)) (block_by (passing is)) d.here
        (arguments_keep is (within h d.loop) d.s d.r)
        (keeps b (within h d.loop) (past d.s (code_by (passing is))) (d.r + 1 + registers_of (passing is))) d.code

    called : HoldsCall h k.lists true d.r (self_of m) []
    called = (self_is g h m (aligned k m) both d.there ∙ (same_here g h m (aligned k m) both).self, tt)

    from : From h conf (frame (frame_at h d.x d.n) ∷ g.below) (aligned k m) m
    from = record {
      alike = going (perform j (super_form is (there b))) ks m (frame (frame_at h d.x d.n) ∷ g.below) (aligned k m) refl;
      out = refl;
      quiet = peace.quiet;
    }

    goes : (t : Bool) → has_splats is ≡ t → go h.source conf
        ≡ (if t then gather_all h.source j (arguments_of to_super (self_of m) (there b)) is ks m
        else next_item h.source j to_super (self_of m) [] is (there b) ks m)
    unfolding do_form
    goes t e =
        ap (λ (i : Bool). if i then gather_all h.source j (arguments_of to_super (self_of m) (there b)) is ks m
        else next_item h.source j to_super (self_of m) [] is (there b) ks m) e

    -- the items, one a register
    items_then : CoversItems h d.loop (d.r + 1) d.s j is
        → Stands h d.n (pass_in_registers (within h d.loop) d.s (d.r + 1) is)
        → ItemsEnd h d.loop to_super d.r (item_count is) true (past_items_code h d.loop (d.r + 1) d.s is) (past_items j is)
        (there b) (d.n + high (pass_in_registers (within h d.loop) d.s (d.r + 1) is)) end
        → Within 6 h.source h.program conf (state_at g h d.x d.n (aligned k m))
    items_then covered code ends =
        let sp = past_items_code h d.loop (d.r + 1) d.s is in
        let last = d.n + high (pass_in_registers (within h d.loop) d.s (d.r + 1) is) in
        items_on g h static ks m k both steady d.there conf d.x d.n j to_super (self_of m) [] is (there b) (record {
          low = d.r;
          own = true;
          loop = d.loop;
          s = d.s;
          here = d.here;
          r = d.r + 1;
          row = omega arith;
          room = d.covered.0;
          covered = covered;
          held = called;
          code = code;
          end = end;
          ends = sent_moved h d.loop to_super d.r (item_count is) (0 + item_count is) true sp sp (past_items j is) (there b) last
              last end (omega arith) refl refl ends;
          next = d.next;
        }) from (goes false (no_splat h d.loop (d.r + 1) d.s j is covered)) (omega arith) peace.calls peace.block

    -- the block behind an Array of arguments, from that line on
    array_ends : in_array is ≡ true → (t : Spot) (n : ℕ) → Covers h d.loop (d.r + 1 + 1) t (past_items j is) b
        → Stands h n (gen (within h d.loop) t (d.r + 1 + 1) b)
        → LineAt h (n + high (gen (within h d.loop) t (d.r + 1 + 1) b)) (line.Does (op.Super d.r 255))
        → n + high (gen (within h d.loop) t (d.r + 1 + 1) b) + 1 ≡ end
        → ArrayEnds h d.loop a_super d.r true t (past_items j is) (there b) n end
    array_ends many t n covered code at tall =
        array_with b (op.Super d.r 255) refl (subst (λ (i : Bool). MayHand i (there b)) many d.covered.3)
        (to_above refl refl refl) covered code at tall

    arguments_then : HowPassed is (passing is)
        → Within 6 h.source h.program conf (state_at g h d.x d.n (aligned k m))
    arguments_then (in_registers e unspread few) =
        let y = subst PartsBy e parts in
        items_then (subst Asked e d.covered.1) y.arguments
        (by_block b (op.Super d.r (item_count is)) refl few (to_above refl refl refl) (subst BlockBy e d.covered.2) y.block
        y.calls y.ends)
    arguments_then (in_array_of e unspread many) =
        let y = subst PartsBy e parts in
        let asked = subst Asked e d.covered.1 in
        let q = pass_in_registers (within h d.loop) d.s (d.r + 1) is in
        let o = op.Array (d.r + 1) (item_count is) in
        let all : in_array is ≡ true = ap (λ (t : Bool). t || nat_lt 253 (item_count is)) unspread ∙ many in
        let blk : Spot → Piece = λ t. gen (within h d.loop) t (d.r + 1 + 1) b in
        let tall : d.n + high (q ⊕ does o) ≡ d.n + high q + 1 = omega (arith, high-both q (does o), high-puts (line.Does o)) in
        let ends = array_ends all (past d.s (q ⊕ does o)) (d.n + high (q ⊕ does o)) (subst BlockBy e d.covered.2) y.block y.calls
        y.ends in
        items_then asked.1 (left h d.n q (does o) (within_puts _ _) y.arguments)
        (by_array a_super refl many asked.0 (the_line h (d.n + high q) (line.Does o)
        (right_at h d.n d.s q (does o) d.here (items_keep is (within h d.loop) d.s (d.r + 1)) y.arguments))
        (subst (λ (t : Spot). ArrayEnds h d.loop a_super d.r true t (past_items j is) (there b) (d.n + high q + 1) end)
        (past-both d.s q (does o))
        (subst (λ (i : ℕ). ArrayEnds h d.loop a_super d.r true (past d.s (q ⊕ does o)) (past_items j is) (there b) i end) tall
        ends)))
    arguments_then (gathered_all e spreads) =
        let y = subst PartsBy e parts in
        let asked = subst Asked e d.covered.1 in
        let o = op.Array (d.r + 1) 0 in
        let q = gather (within h d.loop) (past_new (d.r + 1) d.s) (d.r + 1) is in
        let all : in_array is ≡ true = ap (λ (t : Bool). t || nat_lt 253 (item_count is)) spreads in
        let one : d.n + high (does o) ≡ d.n + 1 = omega (arith, high-puts (line.Does o)) in
        let tall : d.n + high (does o ⊕ q) ≡ d.n + 1 + high q = omega (arith, high-both (does o) q, one) in
        let ends = array_ends all (past d.s (does o ⊕ q)) (d.n + high (does o ⊕ q)) (subst BlockBy e d.covered.2) y.block y.calls
        y.ends in
        later h.source h.program conf (state_at g h d.x d.n (aligned k m))
        (spread_on g h ks m k both d.there conf d.x d.n j from to_super (self_of m) is (there b) a_super d.r true d.s end d.loop
        (record {
          spread = spreads;
          room_behind = asked.0;
          covered = asked.1;
          makes = the_line h d.n (line.Does o)
              (left_at h d.n d.s (does o) q d.here
              (elements_keep is (within h d.loop) (past_new (d.r + 1) d.s) (d.r + 1)) y.arguments);
          code = moved h (d.n + high (does o)) (d.n + 1) q one
              (right h d.n (does o) q (within_puts _ _) y.arguments);
          ends = subst (λ (t : Spot). ArrayEnds h d.loop a_super d.r true t (past_items j is) (there b) (d.n + 1 + high q) end)
              (past-both d.s (does o) q)
              (subst (λ (i : ℕ). ArrayEnds h d.loop a_super d.r true (past d.s (does o ⊕ q)) (past_items j is) (there b) i end)
              tall ends);
        }) d.here d.covered.0 called refl d.next (goes true (same_splats is ∙ spreads)))

  pub do_super : (j : ℕ) (is : Items) (b : CoreForm) (d : Doing g h j (super_form is (there b)) ks m.place ls k.lists)
      → Peace h.source h.program (perform j (super_form is (there b))) ks m
      → Step h (Run (perform j (super_form is (there b))) ks m) (state_at g h d.x d.n (aligned k m))
  do_super j is b d peace = (arguments_then j is b d peace (how_passed is)).advances
