-- Calls of a value and of self, by the parts of their code.
use Rattle.std.proofs.Common.{◌≡◌, ◌⊎◌, ℕ, ◌+◌, ◌<◌, List, [], ◌∷◌, ◌++◌, refl, sym, ap, ◌∙◌, subst, arith, length, length-append, Bool, true, false, true≢false}
use Rattle.std.specs.Prelude.{if◌then◌else◌, Option, Some, None}
use Rattle.rb_value.specs.declared.value.Value.{Value}
use Rattle.rb_value.specs.declared.exit.Slot.TheVariants.{V}
use Rattle.rite_code.specs.declared.operation.Operation.{Operation}
use Rattle.ir_counts.specs.Tables.{item_count}
use Rattle.ir_walk.specs.Width.{has_splat}
use Rattle.ir_core.specs.CoreForm.{Name, CoreForm, call, Maybe, absent, there, Items, no_items, plain, splat, Receiver, to, on_self}
use Rattle.gen_parts.specs.declared.line.Line.TheVariants as line
use Rattle.gen_parts.specs.declared.emitter.Spot.{Spot}
use Rattle.gen_parts.specs.Pieces.{Piece, past, does, nothing, ◌⊕◌}
use Rattle.gen_parts.proofs.Laws.{past-both}
use Rattle.gen_forms.specs.declared.context.Loop.{Loop}
use Rattle.gen_forms.specs.declared.calls.Passing.{Passing}
use Rattle.gen_forms.specs.Gen.{Code, gen, gen_receiver, gen_maybe, gather, pass_in_registers, passing, passed_by, count_operand, registers_of, called_by, operates as operation_of, operator, is_one_plain, send, symbol as entry_of}
use Rattle.def_calls.specs.Calls.{Sending, by_name}
use Rattle.def_eval.specs.Source.{span}
use Rattle.eval_laws.specs.Standing.{past_items}
use Rattle.def_eval.specs.Configuration as source
use Rattle.def_eval.specs.Configuration.{arguments_of, receiver, items, Item, part, perform, give, Config, Run}
use Rattle.def_eval.specs.Scopes.{running}
use Rattle.def_eval.specs.Entering.{symbol}
use Rattle.def_eval.specs.Forms.{self_of, next_item, do_call, gather as gather_all, has_splat as has_splats, do_form}
use Rattle.def_eval.specs.Giving.{give_part, do_give}
use Rattle.def_eval.specs.Transition.{go}
use Rattle.def_machine.specs.State as machine
use Rattle.def_machine.specs.State.{Registers, Level, frame, slot_at}
use Rattle.step_laws.specs.Site.{Site, within, place_in, LineAt, IsThere, Room, Named}
use Rattle.step_laws.specs.Needs.{IsNamed}
use Rattle.step_laws.specs.Passed.{in_array, MayHand, Passed, arguments_code}
use Rattle.step_laws.specs.Covers.{past_items_code, past_new, Covers, CoversItems, CoversElements}
use Rattle.step_laws.specs.Calm.{IsSteady, IsBlock, Still, Peace}
use Rattle.step_laws.specs.Bodies.{CallsBodies}
use Rattle.step_laws.specs.Measure.{size_items, size_block, burden, measure}
use Rattle.step_laws.proofs.Placed.{high, high-both, high-puts, high-nothing, line-past, Stands, moved, KeepsWithin, Keeps, past_here, left, right, left_at, right_at, the_line, Rest, frame_at}
use Rattle.step_laws.proofs.Guards.{within_both, within_puts, within_nothing, within_moved}
use Rattle.step_laws.proofs.Within.{keeps_both, keeps_ends, keeps, receiver_keeps, items_keep, arguments_keep}
use Rattle.step_laws.specs.Behind.{Static, Holds, HoldsCall, CallBy, operates, sends, sends_self, block_sender, a_method, CallEnds, alone, with_block, packed, ArgumentsAt, one_by_one, gathered, by_call}
use Rattle.step_laws.specs.Relation.{Ground, InFrame, Common, Doing, GivesIn, Step}
use Rattle.step_laws.proofs.Untouched.{same_here}
use Rattle.step_laws.proofs.Matching.{Within, later, by_none, in_loop, going, state_at}
use Rattle.step_laws.proofs.Calling.{From}
use Rattle.step_laws.proofs.Literals.{aligned, self_is}
use Rattle.step_laws.proofs.Passing.{one_registers, same_splats, no_splat, plain_sender, sent_alone, sent_with, arguments_at}
use Rattle.step_laws.proofs.Sends.{ends_moved, sent_moved, items_on}
use Rattle.step_laws.proofs.Spreading.{spread_on}

-- The parts of a call: the receiver, the items, and the instruction.
record Parts (h : Site) (n : ℕ) (p q : Piece) (o : Operation) (whole : Piece) : Type 0 where
  pub receiver : Stands h n p
  pub items : Stands h (n + high p) q
  pub calls : LineAt h (n + high p + high q) (line.Does o)
  pub ends : n + high p + high q + 1 ≡ n + high whole

operator_parts : (h : Site) (n : ℕ) (s : Spot) (p q : Piece) (o : Operation) → s.line ≡ n → Keeps s p → Keeps (past s p) q
    → Stands h n (p ⊕ q ⊕ does o) → Parts h n p q o (p ⊕ q ⊕ does o)
operator_parts h n s p q o here x y code =
    let rest = right_at h n s p (q ⊕ does o) here x code in
    record {
      receiver = left_at h n s p (q ⊕ does o) here (keeps_ends (past s p) q (line.Does o) y) code;
      items = left h (n + high p) q (does o) (within_puts _ _) rest;
      calls = the_line h (n + high p + high q) (line.Does o)
          (right_at h (n + high p) (past s p) q (does o) (past_here s p n here) y rest);
      ends = omega (arith, high-both p (q ⊕ does o), high-both q (does o), high-puts (line.Does o));
    }

send_parts : (h : Site) (n : ℕ) (s : Spot) (p q : Piece) (o : Operation) → s.line ≡ n → Keeps s p → Keeps (past s p) q
    → Stands h n ((p ⊕ q) ⊕ nothing ⊕ does o) → Parts h n p q o ((p ⊕ q) ⊕ nothing ⊕ does o)
send_parts h n s p q o here x y code =
    let first = left h n (p ⊕ q) (nothing ⊕ does o)
    (within_both _ nothing (does o) (within_nothing _) (within_puts _ _)) code in
    let rest = right_at h n s (p ⊕ q) (nothing ⊕ does o) here (keeps_both s p q x y) code in
    let last = right h (n + high (p ⊕ q)) nothing (does o) (within_nothing _) rest in
    record {
      receiver = left_at h n s p q here y first;
      items = right_at h n s p q here x first;
      calls = the_line h (n + high p + high q) (line.Does o)
          (moved h (n + high (p ⊕ q) + high nothing) (n + high p + high q) (does o)
          (omega (arith, high-both p q, high-nothing)) last);
      ends = omega (
        arith,
        high-both (p ⊕ q) (nothing ⊕ does o),
        high-both p q,
        high-both nothing (does o),
        high-nothing,
        high-puts (line.Does o),
      );
    }

-- and of one with a block
record BlockParts (h : Site) (n : ℕ) (p q b : Piece) (o : Operation) : Type 0 where
  pub receiver : Stands h n p
  pub items : Stands h (n + high p) q
  pub block : Stands h (n + high p + high q) b
  pub calls : LineAt h (n + high p + high q + high b) (line.Does o)
  pub ends : n + high p + high q + high b + 1 ≡ n + high ((p ⊕ q) ⊕ b ⊕ does o)

block_parts : (h : Site) (n : ℕ) (s : Spot) (p q b : Piece) (o : Operation) → s.line ≡ n → Keeps s p → Keeps (past s p) q
    → Keeps (past (past s p) q) b → Stands h n ((p ⊕ q) ⊕ b ⊕ does o) → BlockParts h n p q b o
block_parts h n s p q b o here x y z code =
    let tall : n + high (p ⊕ q) ≡ n + high p + high q = omega (arith, high-both p q) in
    let kept : KeepsWithin (n + high (p ⊕ q)) b = within_moved (past (past s p) q).line (n + high (p ⊕ q)) b
    (past_here (past s p) q (n + high p) (past_here s p n here) ∙ sym tall) z in
    let first = left h n (p ⊕ q) (b ⊕ does o) (within_both _ b (does o) kept (within_puts _ _)) code in
    let rest = right_at h n s (p ⊕ q) (b ⊕ does o) here (keeps_both s p q x y) code in
    let last = right h (n + high (p ⊕ q)) b (does o) kept rest in
    record {
      receiver = left_at h n s p q here y first;
      items = right_at h n s p q here x first;
      block = moved h (n + high (p ⊕ q)) (n + high p + high q) b tall
          (left h (n + high (p ⊕ q)) b (does o) (within_puts _ _) rest);
      calls = the_line h (n + high p + high q + high b) (line.Does o)
          (moved h (n + high (p ⊕ q) + high b) (n + high p + high q + high b) (does o) (omega (arith, tall)) last);
      ends = omega (
        arith,
        high-both (p ⊕ q) (b ⊕ does o),
        high-both p q,
        high-both b (does o),
        high-puts (line.Does o),
      );
    }

-- the parts of a call
record Called (h : Site) (n r : ℕ) (loop : Option Loop) (s : Spot) (p : Piece) (own : Bool) (x : Name) (is : Items) (j : ℕ)
    (b : Maybe) (end : ℕ) : Type 0 where
  pub receiver : Stands h n p
  pub arguments : ArgumentsAt h loop r x own is (past s p) j b (n + high p) end

pub one_item : (is : Items) → is_one_plain is ≡ true → (item_count is ≡ 1) × (has_splat is ≡ false)
one_item no_items e = absurd (true≢false (sym e))
one_item (plain a no_items) e = (omega arith, refl)
one_item (plain a (plain b is)) e = absurd (true≢false (sym e))
one_item (plain a (splat b is)) e = absurd (true≢false (sym e))
one_item (splat a is) e = absurd (true≢false (sym e))

-- an operator has one operand
pub operator_is : (is : Items) (x : Name) (r : ℕ) (o : Operation) (b : Bool) → is_one_plain is ≡ b
    → (if b then operator x r else None) ≡ Some o
    → (operator x r ≡ Some o) × (item_count is ≡ 1) × (has_splat is ≡ false)
operator_is is x r o true e f = let one = one_item is e in (f, one.0, one.1)
operator_is is x r o false e f = absurd (cc f)

module _ (h : Site) (n r : ℕ) (loop : Option Loop) (s : Spot) (x : Name) (is : Items) (here : s.line ≡ n) where
  abbrev each : Code
  each = λ d t i. pass_in_registers d t i is

  abbrev spread : Code
  spread = λ d t i. gather d t i is

  abbrev no_block : Code
  no_block = λ d t i. gen_maybe d t i absent

  abbrev whole : Receiver → Option Operation → Piece
  whole e o = called_by o (λ d t i. gen_receiver d t i e) each (passed_by (passing is) each spread) no_block
      (registers_of (passing is)) (send false e (passing is) r (entry_of h.context x)) (within h loop) s r

  -- what is asked of the arguments at a spot
  abbrev Asked : Spot → ℕ → Passing → Type 0
  Asked t j g = Passed g (Room h (r + 1)) (CoversItems h loop (r + 1) t j is)
      (CoversElements h loop (r + 1) (past_new (r + 1) t) j is)

  -- items that an operator takes
  few_asked : (t : Spot) (j : ℕ) → item_count is ≡ 1 → has_splat is ≡ false → Asked t j (passing is)
      → CoversItems h loop (r + 1) t j is
  few_asked t j one unspread asked = subst (Asked t j) (one_registers is one unspread) asked

  -- what stands behind the arguments of a call without a block
  sent_by : (own : Bool) (e : Receiver) (j : ℕ) → send false e (passing is) r (entry_of h.context x)
      ≡ plain_sender own r (entry_of h.context x) (count_operand (passing is)) → Named h x
      → Asked (past s (gen_receiver (within h loop) s r e)) j (passing is) → Stands h n (whole e None)
      → Called h n r loop s (gen_receiver (within h loop) s r e) own x is j absent (n + high (whole e None))
  sent_by own e j sender named asked code =
      let c = within h loop in
      let p = gen_receiver c s r e in
      let q = arguments_code c (past s p) r is in
      let o = send false e (passing is) r (entry_of h.context x) in
      let parts = send_parts h n s p q o here (receiver_keeps e c s r) (arguments_keep is c (past s p) r) code in
      record {
        receiver = parts.receiver;
        arguments = arguments_at h loop r x own is (past s p) j absent (n + high p) (n + high (whole e None)) named
            (past_here s p n here) asked
            parts.items (sent_alone refl (subst (λ (i : Operation). LineAt h (n + high p + high q) (line.Does i)) sender parts.calls)
            parts.ends);
      }

  value_called : (j : ℕ) (e : CoreForm) (o : Option Operation) → operation_of absent (to e) x is r ≡ o → IsNamed h x o
      → Asked (past s (gen (within h loop) s r e)) j (passing is) → Stands h n (whole (to e) o)
      → Called h n r loop s (gen (within h loop) s r e) false x is j absent (n + high (whole (to e) o))
  value_called j e (Some o) is_it named asked code =
      let p = gen (within h loop) s r e in
      let parts = operator_parts h n s p (each (within h loop) (past s p) (r + 1)) o here (keeps e (within h loop) s r)
      (items_keep is (within h loop) (past s p) (r + 1)) code in
      let found = operator_is is x r o (is_one_plain is) refl is_it in
      record {
        receiver = parts.receiver;
        arguments = one_by_one (few_asked (past s p) j found.1 found.2 asked) parts.items
            (alone o refl (operates found.0 found.1 refl named) parts.calls parts.ends);
      }
  value_called j e None is_it named asked code = sent_by false (to e) j refl named asked code

  -- With a block.
  abbrev blocked : Receiver → CoreForm → Piece
  blocked e b = called_by None (λ d t i. gen_receiver d t i e) each (passed_by (passing is) each spread)
      (λ d t i. gen_maybe d t i (there b)) (registers_of (passing is)) (send true e (passing is) r (entry_of h.context x))
      (within h loop) s r

  block_called : (e : Receiver) (own : Bool) (j : ℕ) (b : CoreForm)
      → send true e (passing is) r (entry_of h.context x)
      ≡ block_sender own r (entry_of h.context x) (count_operand (passing is)) → Named h x
      → Asked (past s (gen_receiver (within h loop) s r e)) j (passing is)
      → Covers h loop (r + 1 + registers_of (passing is))
      (past (past s (gen_receiver (within h loop) s r e))
      (arguments_code (within h loop) (past s (gen_receiver (within h loop) s r e)) r is)) (past_items j is) b
      → MayHand (in_array is) (there b) → Stands h n (blocked e b)
      → Called h n r loop s (gen_receiver (within h loop) s r e) own x is j (there b) (n + high (blocked e b))
  block_called e own j b sender named asked covered may code =
      let c = within h loop in
      let p = gen_receiver c s r e in
      let q = arguments_code c (past s p) r is in
      let i = r + 1 + registers_of (passing is) in
      let blk : Spot → Piece = λ u. gen c u i b in
      let o = block_sender own r (entry_of h.context x) (count_operand (passing is)) in
      let same : blocked e b ≡ (p ⊕ q) ⊕ blk (past (past s p) q) ⊕ does o =
      ap (λ (z : Operation). (p ⊕ q) ⊕ blk (past s (p ⊕ q)) ⊕ does z) sender
      ∙ ap (λ (u : Spot). (p ⊕ q) ⊕ blk u ⊕ does o) (past-both s p q) in
      let parts = block_parts h n s p q (blk (past (past s p) q)) o here (receiver_keeps e c s r)
      (arguments_keep is c (past s p) r) (keeps b c (past (past s p) q) i) (subst (Stands h n) same code) in
      record {
        receiver = parts.receiver;
        arguments = arguments_at h loop r x own is (past s p) j (there b) (n + high p) (n + high (blocked e b)) named
            (past_here s p n here) asked
            parts.items (sent_with b refl may covered parts.block parts.calls
            (parts.ends ∙ ap (λ (z : Piece). n + high z) (sym same)));
      }

there_of : (h : Site) (r : ℕ) (x : Name) (count : ℕ) (own : Bool) (o : Operation) → CallBy h r x count own o
    → IsThere h.source x
there_of h r x count own o (operates e one not_own is_there) = is_there
there_of h r x count own o (sends e n not_own named) = named.there
there_of h r x count own o (sends_self e n is_own named) = named.there

there_by : (h : Site) (around : Option Loop) (r : ℕ) (x : Name) (count : ℕ) (own : Bool) (s : Spot) (j : ℕ) (b : Maybe)
    (n end : ℕ) → CallEnds h around r x count own s j b n end → IsThere h.source x
there_by h around r x count own s j b n end (alone o none by_that stands tall) = there_of h r x count own o by_that
there_by h around r x count own s j b n end (with_block e given few named covered first second tall) = named.there
there_by h around r x count own s j b n end (packed many named room stands ends) = named.there

pub holds_more : (l : List Registers) (n low r : ℕ) (vs : List Value) (v : Value) → Holds l n low vs → low + length vs ≡ r
    → slot_at l n r ≡ V v → Holds l n low (vs ++ v ∷ [])
holds_more l n low r [] v s e q = let e' : low ≡ r = omega (arith, e) in (ap (slot_at l n) e' ∙ q, tt)
holds_more l n low r (u ∷ vs) v s e q = (s.0, holds_more l n (low + 1) r vs v s.1 (omega (arith, e)) q)

holds_call : (h : Site) (l : List Registers) (own : Bool) (low r : ℕ) (recv : Value) (vs : List Value) (v : Value)
    → HoldsCall h l own low recv vs → low + 1 + length vs ≡ r → slot_at l h.list r ≡ V v
    → HoldsCall h l own low recv (vs ++ v ∷ [])
holds_call h l false low r recv vs v s e q = (s.0, holds_more l h.list (low + 1) r vs v s.1 e q)
holds_call h l true low r recv vs v s e q = (s.0, holds_more l h.list (low + 1) r vs v s.1 e q)

module _ (g : Ground) (h : Site) (static : Static h) (ks : List Item) (m : source.Memory) (ls : List Level)
    (k : machine.Memory) (both : Common g h m (aligned k m)) (steady : IsSteady h.source m.world) where
  -- the receiver is done first
  receiver_first : (j : ℕ) (e : CoreForm) (x : Name) (is : Items) (b : Maybe)
      (d : Doing g h j (call (to e) x is b) ks m.place ls k.lists) → Room h d.r
      → Covers h d.loop d.r d.s j e
      → Called h d.n d.r d.loop d.s (gen (within h d.loop) d.s d.r e) false x is (j + span e) b
      (d.n + high (gen (within h d.loop) d.s d.r (call (to e) x is b)))
      → Step h (Run (perform j (call (to e) x is b)) ks m) (state_at g h d.x d.n (aligned k m))
  unfolding do_form
  receiver_first j e x is b d room receiver_covered c =
      let p = gen (within h d.loop) d.s d.r e in
      by_none h (Run (perform j (call (to e) x is b)) ks m) (state_at g h d.x d.n (aligned k m)) (omega arith) (
        g,
        h,
        both,
        record {
          x = d.x;
          n = d.n;
          r = d.r;
          is = refl;
          there = d.there;
          loop = d.loop;
          s = d.s;
          here = d.here;
          covered = receiver_covered;
          above = d.above;
          code = c.receiver;
          next = record {
            low = d.r;
            end = d.n + high (gen (within h d.loop) d.s d.r (call (to e) x is b));
            above = d.above;
            below = omega arith;
            behind = record {
              at = refl;
              s = past d.s p;
              here = line-past d.s p ∙ ap (λ (i : ℕ). i + high p) d.here;
              room = room;
              arguments = c.arguments;
            };
            outer = d.loop;
            inner = refl;
            next = d.next;
          };
        },
      )

  pub do_call_to : (j : ℕ) (e : CoreForm) (x : Name) (is : Items)
      (d : Doing g h j (call (to e) x is absent) ks m.place ls k.lists)
      → Step h (Run (perform j (call (to e) x is absent)) ks m) (state_at g h d.x d.n (aligned k m))
  do_call_to j e x is d =
      receiver_first j e x is absent d d.covered.0 d.covered.1
      (value_called h d.n d.r d.loop d.s x is d.here (j + span e) e (operation_of absent (to e) x is d.r) refl d.covered.3 d.covered.2
      d.code)

  pub do_call_to_with : (j : ℕ) (e : CoreForm) (x : Name) (is : Items) (b : CoreForm)
      (d : Doing g h j (call (to e) x is (there b)) ks m.place ls k.lists)
      → Step h (Run (perform j (call (to e) x is (there b))) ks m) (state_at g h d.x d.n (aligned k m))
  do_call_to_with j e x is b d =
      let w = d.covered in
      receiver_first j e x is (there b) d w.0 w.1
      (block_called h d.n d.r d.loop d.s x is d.here (to e) false (j + span e) b refl w.3 w.2 w.4 w.5 d.code)

  -- the evaluation goes on with the items, or gathers them
  plain_call : (j : ℕ) (x : Name) (recv : Value) (is : Items) (b : Maybe) (t : Bool) → has_splats is ≡ t
      → do_call h.source j (by_name (symbol m x)) recv is b ks m
      ≡ (if t then gather_all h.source j (arguments_of (by_name (symbol m x)) recv b) is ks m
      else next_item h.source j (by_name (symbol m x)) recv [] is b ks m)
  plain_call j x recv is b t f =
      ap (λ (q : Bool). if q
      then gather_all h.source j (arguments_of (by_name (symbol m x)) recv b) is ks m
      else next_item h.source j (by_name (symbol m x)) recv [] is b ks m) f

  -- What is called is there: the arguments.
  arguments_on : m.place ≡ place_in h → (c : Config) (rest : Rest) (n j : ℕ) (x : Name) (recv : Value) (is : Items)
      (b : Maybe) (own : Bool) (low : ℕ) (s : Spot) (loop : Option Loop) (end : ℕ)
      → ArgumentsAt h loop low x own is s j b n end → s.line ≡ n → Room h low → HoldsCall h k.lists own low recv []
      → InFrame g h k.lists ks end low loop → From h c (frame (frame_at h rest n) ∷ g.below) (aligned k m) m
      → go h.source c ≡ do_call h.source j (by_name (symbol m x)) recv is b ks m
      → size_items is + size_block b + burden ks m < measure c
      → (Still m (go h.source c) ⊎ CallsBodies h.source h.program m.world.store.objects m.world.store.objects)
      → IsBlock m.world.store.objects (running m).block
      → Within 6 h.source h.program c (state_at g h rest n (aligned k m))
  arguments_on at_home c rest n j x recv is b own low s loop end (one_by_one covered code ends) here room called next from goes
      less may can =
      let sp = past_items_code h loop (low + 1) s is in
      let last = n + high (pass_in_registers (within h loop) s (low + 1) is) in
      items_on g h static ks m k both steady at_home c rest n j (by_name (symbol m x)) recv [] is b (record {
        low = low;
        own = own;
        loop = loop;
        s = s;
        here = here;
        r = low + 1;
        row = omega arith;
        room = room;
        covered = covered;
        held = called;
        code = code;
        end = end;
        ends = by_call x (ap by_name (steady.names x (there_by h loop low x (item_count is) own sp (past_items j is) b last end
            ends)))
            (ends_moved h loop low x (item_count is) (0 + item_count is) own sp sp (past_items j is) b last last end
            (omega arith) refl refl ends);
        next = next;
      }) from
      (goes ∙ plain_call j x recv is b false (no_splat h loop (low + 1) s j is covered)) less may can
  arguments_on at_home c rest n j x recv is b own low s loop end (gathered named at) here room called next from goes less may
      can =
      later h.source h.program c (state_at g h rest n (aligned k m))
      (spread_on g h ks m k both at_home c rest n j from (by_name (symbol m x)) recv is b (a_method x) low own s end loop at here
      room called (ap by_name (steady.names x named.there)) next
      (goes ∙ plain_call j x recv is b true (same_splats is ∙ at.spread)))

  -- a call of self
  self_called : (j : ℕ) (x : Name) (is : Items) (b : Maybe) (d : Doing g h j (call on_self x is b) ks m.place ls k.lists)
      → Room h d.r
      → Called h d.n d.r d.loop d.s nothing true x is j b
      (d.n + high (gen (within h d.loop) d.s d.r (call on_self x is b)))
      → Peace h.source h.program (perform j (call on_self x is b)) ks m
      → Step h (Run (perform j (call on_self x is b)) ks m) (state_at g h d.x d.n (aligned k m))
  unfolding do_form
  self_called j x is b d room c peace =
      let end = d.n + high (gen (within h d.loop) d.s d.r (call on_self x is b)) in
      (arguments_on d.there (Run (perform j (call on_self x is b)) ks m) d.x d.n j x (self_of m) is b true d.r (past d.s nothing)
      d.loop end
      (subst (λ (i : ℕ). ArgumentsAt h d.loop d.r x true is (past d.s nothing) j b i end) (omega (arith, high-nothing))
      c.arguments)
      (omega (arith, line-past d.s nothing, high-nothing, d.here)) room
      (self_is g h m (aligned k m) both d.there ∙ (same_here g h m (aligned k m) both).self, tt) d.next (record {
        alike = going (perform j (call on_self x is b)) ks m (frame (frame_at h d.x d.n) ∷ g.below) (aligned k m) refl;
        out = refl;
        quiet = peace.quiet;
      }) refl (omega arith) peace.calls peace.block).advances

  pub do_call_self : (j : ℕ) (x : Name) (is : Items) (d : Doing g h j (call on_self x is absent) ks m.place ls k.lists)
      → Peace h.source h.program (perform j (call on_self x is absent)) ks m
      → Step h (Run (perform j (call on_self x is absent)) ks m) (state_at g h d.x d.n (aligned k m))
  do_call_self j x is d peace =
      self_called j x is absent d d.covered.0
      (sent_by h d.n d.r d.loop d.s x is d.here true on_self j refl d.covered.2 d.covered.1 d.code) peace

  pub do_call_self_with : (j : ℕ) (x : Name) (is : Items) (b : CoreForm)
      (d : Doing g h j (call on_self x is (there b)) ks m.place ls k.lists)
      → Peace h.source h.program (perform j (call on_self x is (there b))) ks m
      → Step h (Run (perform j (call on_self x is (there b))) ks m) (state_at g h d.x d.n (aligned k m))
  do_call_self_with j x is b d peace =
      let w = d.covered in
      self_called j x is (there b) d w.0 (block_called h d.n d.r d.loop d.s x is d.here on_self true j b refl w.2 w.1 w.3 w.4 d.code)
      peace

  pub give_receiver : (v : Value) (j : ℕ) (x : Name) (is : Items) (b : Maybe)
      (d : GivesIn g h v (part (receiver j x is b) ∷ ks) m.place ls k.lists)
      → Peace h.source h.program (give v) (part (receiver j x is b) ∷ ks) m
      → Step h (Run (give v) (part (receiver j x is b) ∷ ks) m) (state_at g h d.x d.n (aligned k m))
  unfolding do_give give_part
  give_receiver v j x is b d peace =
      let y = d.next.behind in
      let low = d.next.low in
      (arguments_on d.there (Run (give v) (part (receiver j x is b) ∷ ks) m) d.x d.n j x v is b false low y.s d.loop d.next.end
      y.arguments y.here y.room (subst (λ (i : ℕ). slot_at k.lists h.list i ≡ V v) (sym y.at) d.stands, tt)
      (in_loop g h k.lists ks d.next.end low d.loop d.next.outer d.next.inner d.next.next) (record {
        alike = going (give v) (part (receiver j x is b) ∷ ks) m (frame (frame_at h d.x d.n) ∷ g.below) (aligned k m) refl;
        out = refl;
        quiet = peace.quiet;
      }) refl (omega arith) peace.calls peace.block).advances

  pub give_item : (v : Value) (j : ℕ) (sender : Sending) (recv : Value) (vs : List Value) (is : Items) (b : Maybe)
      (d : GivesIn g h v (part (items j sender recv vs is b) ∷ ks) m.place ls k.lists)
      → Peace h.source h.program (give v) (part (items j sender recv vs is b) ∷ ks) m
      → Step h (Run (give v) (part (items j sender recv vs is b) ∷ ks) m) (state_at g h d.x d.n (aligned k m))
  unfolding do_give give_part
  give_item v j sender recv vs is b d peace =
      let y = d.next.behind in
      let low = d.next.low in
      let sp = past_items_code h d.loop (d.r + 1) y.s is in
      let last = d.n + high (pass_in_registers (within h d.loop) y.s (d.r + 1) is) in
      let all : length vs + 1 + item_count is ≡ length (vs ++ v ∷ []) + item_count is =
      omega (arith, length-append vs (v ∷ [])) in
      (items_on g h static ks m k both steady d.there (Run (give v) (part (items j sender recv vs is b) ∷ ks) m) d.x d.n j
      sender recv (vs ++ v ∷ []) is b (record {
        low = low;
        own = y.own;
        loop = d.loop;
        s = y.s;
        here = y.here;
        r = d.r + 1;
        row = omega (arith, y.at, length-append vs (v ∷ []));
        room = y.room;
        covered = y.covered;
        held = holds_call h k.lists y.own low d.r recv vs v y.held y.at d.stands;
        code = y.code;
        end = d.next.end;
        ends = sent_moved h d.loop sender low (length vs + 1 + item_count is) (length (vs ++ v ∷ []) + item_count is) y.own sp sp
            (past_items j is) b last last d.next.end all refl refl y.ends;
        next = in_loop g h k.lists ks d.next.end low d.loop d.next.outer d.next.inner d.next.next;
      }) (record {
        alike = going (give v) (part (items j sender recv vs is b) ∷ ks) m (frame (frame_at h d.x d.n) ∷ g.below) (aligned k m)
            refl;
        out = refl;
        quiet = peace.quiet;
      }) refl (omega arith) peace.calls peace.block).advances
