-- How the arguments of a call are passed, and where their code stands.
use Rattle.std.proofs.Common.{◌≡◌, ℕ, ◌+◌, refl, sym, ap, ◌∙◌, subst, arith, Bool, true, false, true≢false}
use Rattle.std.specs.Prelude.{if◌then◌else◌, nat_lt, ◌||◌, Option}
use Rattle.rite_code.specs.declared.operation.Operation.{Operation}
use Rattle.rite_code.specs.declared.operation.Operation.TheVariants as op
use Rattle.ir_counts.specs.Tables.{item_count}
use Rattle.ir_walk.specs.Width.{has_splat}
use Rattle.ir_core.specs.CoreForm.{Name, CoreForm, Maybe, absent, there, Items, no_items, plain, splat}
use Rattle.gen_parts.specs.declared.line.Line.TheVariants as line
use Rattle.gen_parts.specs.declared.emitter.Spot.{Spot}
use Rattle.gen_parts.specs.Pieces.{Piece, past, does, ◌⊕◌}
use Rattle.gen_parts.proofs.Laws.{past-both}
use Rattle.gen_forms.specs.declared.context.Loop.{Loop}
use Rattle.gen_forms.specs.declared.calls.Passing.{Passing}
use Rattle.gen_forms.specs.declared.calls.Passing.TheVariants as passed
use Rattle.gen_forms.specs.Gen.{Code, gen, gather, pass_in_registers, passing, passed_by, count_operand, registers_of, symbol}
use Rattle.def_calls.specs.Calls.{Sending, by_name}
use Rattle.def_eval.specs.Forms.{has_splat as has_splats}
use Rattle.def_eval.specs.Source.{span}
use Rattle.eval_laws.specs.Standing.{past_items}
use Rattle.step_laws.specs.Site.{Site, within, LineAt, Room, Named, number}
use Rattle.step_laws.specs.Passed.{in_array, MayHand, Passed, arguments_code}
use Rattle.step_laws.specs.Covers.{past_items_code, past_new, Covers, CoversItems, CoversElements}
use Rattle.step_laws.proofs.Placed.{high, high-both, high-puts, Stands, moved, within_puts, left, right, left_at, right_at, the_line}
use Rattle.step_laws.proofs.Within.{items_keep, elements_keep}
use Rattle.step_laws.specs.Behind.{sends, sends_self, block_sender, PassesBlock, to_value, to_self, a_method, sends_array, sends_array_self, ArrayEnds, array_alone, array_with, CallEnds, alone, with_block, packed, ArgumentsAt, one_by_one, gathered}

-- By what they are.
pub data HowPassed (is : Items) (g : Passing) : Type 0 where
  in_registers : g ≡ passed.InRegisters (item_count is) → has_splat is ≡ false → nat_lt 253 (item_count is) ≡ false
      → HowPassed is g
  in_array_of : g ≡ passed.InArrayOf (item_count is) → has_splat is ≡ false → nat_lt 253 (item_count is) ≡ true
      → HowPassed is g
  gathered_all : g ≡ passed.InArray → has_splat is ≡ true → HowPassed is g

passing_is : (is : Items) (b c : Bool) → has_splat is ≡ b → nat_lt 253 (item_count is) ≡ c
    → passing is ≡ (if b then passed.InArray
    else (if c then passed.InArrayOf (item_count is) else passed.InRegisters (item_count is)))
passing_is is b c e f =
    ap (λ (t : Bool). if t then passed.InArray
    else (if nat_lt 253 (item_count is) then passed.InArrayOf (item_count is) else passed.InRegisters (item_count is))) e
    ∙ ap (λ (t : Bool). if b then passed.InArray
    else (if t then passed.InArrayOf (item_count is) else passed.InRegisters (item_count is))) f

pub how_passed : (is : Items) → HowPassed is (passing is)
how_passed is = by (has_splat is) refl (nat_lt 253 (item_count is)) refl
  where
    by : (b : Bool) → has_splat is ≡ b → (c : Bool) → nat_lt 253 (item_count is) ≡ c → HowPassed is (passing is)
    by true e c f = gathered_all (passing_is is true c e f) e
    by false e true f = in_array_of (passing_is is false true e f) e f
    by false e false f = in_registers (passing_is is false false e f) e f

-- no Array is made of them
pub few_passed : (is : Items) → in_array is ≡ false
    → (has_splat is ≡ false) × (passing is ≡ passed.InRegisters (item_count is)) × (nat_lt 253 (item_count is) ≡ false)
few_passed is few = by (how_passed is)
  where
    by : HowPassed is (passing is)
        → (has_splat is ≡ false) × (passing is ≡ passed.InRegisters (item_count is)) × (nat_lt 253 (item_count is) ≡ false)
    by (in_registers e unspread n) = (unspread, e, n)
    by (in_array_of e unspread many) =
        absurd (true≢false (sym (ap (λ (t : Bool). t || nat_lt 253 (item_count is)) unspread ∙ many) ∙ few))
    by (gathered_all e spreads) =
        absurd (true≢false (sym (ap (λ (t : Bool). t || nat_lt 253 (item_count is)) spreads) ∙ few))

-- both sides look for splats alike
pub same_splats : (is : Items) → has_splats is ≡ has_splat is
same_splats no_items = refl
same_splats (plain e is) = same_splats is
same_splats (splat e is) = refl

pub no_splat : (h : Site) (o : Option Loop) (r : ℕ) (s : Spot) (j : ℕ) (is : Items) → CoversItems h o r s j is
    → has_splats is ≡ false
no_splat h o r s j no_items c = refl
no_splat h o r s j (plain e is) c = no_splat h o (r + 1) (past s (gen (within h o) s r e)) (j + span e) is c.1
no_splat h o r s j (splat e is) c = absurd c

-- The instruction of a call of self or of a value, without a block.
abbrev pub plain_sender : Bool → ℕ → ℕ → ℕ → Operation
plain_sender false r x n = op.Send r x n
plain_sender true r x n = op.SSend r x n

-- What stands behind arguments that are passed so: the call, or the block and the call.
pub data SentAs (h : Site) (around : Option Loop) (r : ℕ) (x : Name) (own : Bool) (g : Passing) (s : Spot) (j : ℕ)
    (is : Items) (b : Maybe) (n end : ℕ) : Type 0 where
  sent_alone : b ≡ absent → LineAt h n (line.Does (plain_sender own r (symbol h.context x) (count_operand g))) → n + 1 ≡ end
      → SentAs h around r x own g s j is b n end
  sent_with : (e : CoreForm) → b ≡ there e → MayHand (in_array is) (there e)
      → Covers h around (r + 1 + registers_of g) s j e → Stands h n (gen (within h around) s (r + 1 + registers_of g) e)
      → LineAt h (n + high (gen (within h around) s (r + 1 + registers_of g) e))
      (line.Does (block_sender own r (symbol h.context x) (count_operand g)))
      → n + high (gen (within h around) s (r + 1 + registers_of g) e) + 1 ≡ end
      → SentAs h around r x own g s j is b n end

-- that with a block passes it
pub sender_passes : (h : Site) (r : ℕ) (own : Bool) (x : Name) (k : Sending) (n : ℕ) → k ≡ by_name (number h.source x)
    → Named h x → PassesBlock h r own k n (block_sender own r (symbol h.context x) n)
sender_passes h r false x k n e named = to_value x e refl named refl
sender_passes h r true x k n e named = to_self x e refl named refl

module _ (h : Site) (around : Option Loop) (r : ℕ) (x : Name) (own : Bool) (is : Items) (s : Spot) (j : ℕ) (b : Maybe)
    (n end : ℕ) (named : Named h x) (here : s.line ≡ n) where
  abbrev each : Code
  each = λ d t i. pass_in_registers d t i is

  abbrev spread : Code
  spread = λ d t i. gather d t i is

  abbrev code_by : Passing → Piece
  code_by g = passed_by g each spread (within h around) s r

  -- what is asked of arguments that are passed so
  abbrev AskedBy : Passing → Type 0
  AskedBy g = Passed g (Room h (r + 1)) (CoversItems h around (r + 1) s j is)
      (CoversElements h around (r + 1) (past_new (r + 1) s) j is)

  -- The call of items one a register.
  few_sent : nat_lt 253 (item_count is) ≡ false → (t : Spot) (l : ℕ)
      → SentAs h around r x own (passed.InRegisters (item_count is)) t (past_items j is) is b l end
      → CallEnds h around r x (item_count is) own t (past_items j is) b l end
  few_sent few t l (sent_alone none at tall) = by own at
    where
      by : (o : Bool) → LineAt h l (line.Does (plain_sender o r (symbol h.context x) (item_count is)))
          → CallEnds h around r x (item_count is) o t (past_items j is) b l end
      by false at = alone (op.Send r (symbol h.context x) (item_count is)) none (sends refl few refl named) at tall
      by true at = alone (op.SSend r (symbol h.context x) (item_count is)) none (sends_self refl few refl named) at tall
  few_sent few t l (sent_with e is_it may covered code at tall) = with_block e is_it few named covered code at tall

  -- That of an Array.
  array_sent : in_array is ≡ true → (t : Spot) (l : ℕ) → SentAs h around r x own passed.InArray t (past_items j is) is b l end
      → ArrayEnds h around (a_method x) r own t (past_items j is) b l end
  array_sent many t l (sent_alone none at tall) = by own at
    where
      by : (o : Bool) → LineAt h l (line.Does (plain_sender o r (symbol h.context x) 255))
          → ArrayEnds h around (a_method x) r o t (past_items j is) b l end
      by false at = array_alone (op.Send r (symbol h.context x) 255) none (sends_array x refl refl named refl) at tall
      by true at = array_alone (op.SSend r (symbol h.context x) 255) none (sends_array_self x refl refl named refl) at tall
  array_sent many t l (sent_with e is_it may covered code at tall) =
      array_with e (block_sender own r (symbol h.context x) 255) is_it (subst (λ (q : Bool). MayHand q (there e)) many may)
      (sender_passes h r own x (by_name (number h.source x)) 255 refl named) covered code at tall

  -- Items of which an Array is made stand there as any.
  array_of_sent : (l : ℕ) (t : Spot)
      → SentAs h around r x own (passed.InArrayOf (item_count is)) t (past_items j is) is b l end
      → SentAs h around r x own passed.InArray t (past_items j is) is b l end
  array_of_sent l t (sent_alone none at tall) = sent_alone none at tall
  array_of_sent l t (sent_with e is_it may covered code at tall) = sent_with e is_it may covered code at tall

  arguments_by : (g : Passing) → HowPassed is g → AskedBy g → Stands h n (code_by g)
      → SentAs h around r x own g (past s (code_by g)) (past_items j is) is b (n + high (code_by g)) end
      → ArgumentsAt h around r x own is s j b n end
  arguments_by g (in_registers e unspread few) asked code sent =
      let asked' = subst AskedBy e asked in
      let code' = subst (λ (q : Passing). Stands h n (code_by q)) e code in
      let sent' = subst (λ (q : Passing). SentAs h around r x own q (past s (code_by q)) (past_items j is) is b
      (n + high (code_by q)) end) e sent in
      one_by_one asked' code'
      (few_sent few (past_items_code h around (r + 1) s is)
      (n + high (pass_in_registers (within h around) s (r + 1) is)) sent')
  arguments_by g (in_array_of e unspread many) asked code sent =
      let asked' = subst AskedBy e asked in
      let code' = subst (λ (q : Passing). Stands h n (code_by q)) e code in
      let sent' = subst (λ (q : Passing). SentAs h around r x own q (past s (code_by q)) (past_items j is) is b
      (n + high (code_by q)) end) e sent in
      let p = pass_in_registers (within h around) s (r + 1) is in
      let o = op.Array (r + 1) (item_count is) in
      let all : in_array is ≡ true = ap (λ (t : Bool). t || nat_lt 253 (item_count is)) unspread ∙ many in
      let tall : n + high (p ⊕ does o) ≡ n + high p + 1 = omega (arith, high-both p (does o), high-puts (line.Does o)) in
      one_by_one asked'.1 (left h n p (does o) (within_puts _ _) code')
      (packed many named asked'.0 (the_line h (n + high p) (line.Does o)
      (right_at h n s p (does o) here (items_keep is (within h around) s (r + 1)) code'))
      (subst (λ (l : ℕ). ArrayEnds h around (a_method x) r own (past (past s p) (does o)) (past_items j is) b l end) tall
      (subst (λ (t : Spot). ArrayEnds h around (a_method x) r own t (past_items j is) b (n + high (p ⊕ does o)) end)
      (past-both s p (does o))
      (array_sent all (past s (p ⊕ does o)) (n + high (p ⊕ does o))
      (array_of_sent (n + high (p ⊕ does o)) (past s (p ⊕ does o)) sent')))))
  arguments_by g (gathered_all e spreads) asked code sent =
      let asked' = subst AskedBy e asked in
      let code' = subst (λ (q : Passing). Stands h n (code_by q)) e code in
      let sent' = subst (λ (q : Passing). SentAs h around r x own q (past s (code_by q)) (past_items j is) is b
      (n + high (code_by q)) end) e sent in
      let o = op.Array (r + 1) 0 in
      let p = does o in
      let q = gather (within h around) (past s p) (r + 1) is in
      let all : in_array is ≡ true = ap (λ (t : Bool). t || nat_lt 253 (item_count is)) spreads in
      let one : n + high p ≡ n + 1 = omega (arith, high-puts (line.Does o)) in
      let tall : n + high (p ⊕ q) ≡ n + 1 + high q = omega (arith, high-both p q, one) in
      gathered named (record {
        spread = spreads;
        room_behind = asked'.0;
        covered = asked'.1;
        makes = the_line h n (line.Does o)
            (left_at h n s p q here (elements_keep is (within h around) (past s p) (r + 1)) code');
        code = moved h (n + high p) (n + 1) q one (right h n p q (within_puts _ _) code');
        ends = subst (λ (l : ℕ). ArrayEnds h around (a_method x) r own (past (past s p) q) (past_items j is) b l end) tall
            (subst (λ (t : Spot). ArrayEnds h around (a_method x) r own t (past_items j is) b (n + high (p ⊕ q)) end)
            (past-both s p q) (array_sent all (past s (p ⊕ q)) (n + high (p ⊕ q)) sent'));
      })

  -- The code of arguments, by what stands behind it.
  pub arguments_at : AskedBy (passing is) → Stands h n (arguments_code (within h around) s r is)
      → SentAs h around r x own (passing is) (past s (arguments_code (within h around) s r is)) (past_items j is) is b
      (n + high (arguments_code (within h around) s r is)) end → ArgumentsAt h around r x own is s j b n end
  arguments_at asked code sent = arguments_by (passing is) (how_passed is) asked code sent

-- one plain item goes into a register
pub one_registers : (is : Items) → item_count is ≡ 1 → has_splat is ≡ false → passing is ≡ passed.InRegisters (item_count is)
one_registers is one unspread = passing_is is false false unspread (ap (nat_lt 253) one)
