-- Exits, makers of bodies, calls and questions have what they need.
use Rattle.std.proofs.Common.{◌≡◌, ◌<◌, ◌≤◌, ℕ, ◌+◌, ◌*◌, List, [], ◌∷◌, length, arith, refl, ap, ◌∙◌, Bool, true, false, bytes_eq, nat_eq, nat_lt, nat_le, if◌then◌else◌, ◌&&◌}
use Rattle.std.specs.Prelude.{Option, Some, None, codes}
use Rattle.std.specs.List.{list_all}
use Rattle.std.proofs.lemmas.Bool.{le-leb, lt-ltb, ltb-true, ltb-false, eqb-true}
use Rattle.rb_syntax.specs.declared.core_form.DefinedKind.{DefinedKind}
use Rattle.rb_syntax.specs.declared.core_form.DefinedKind.TheVariants as asks
use Rattle.rite_code.specs.declared.operation.Operation.{Operation}
use Rattle.rite_code.specs.declared.operation.Operation.TheVariants as op
use Rattle.rite_code.specs.Shape.{fits_as, is_two_bytes}
use Rattle.ir_core.specs.CoreForm as form
use Rattle.ir_core.specs.CoreForm.{Name, Maybe, Receiver, Items}
use Rattle.ir_walk.specs.Width.{has_splat}
use Rattle.ir_counts.specs.Tables.{asked_name, answer_of, item_count, items_code}
use Rattle.scope_resolver.specs.declared.body_kind.BodyKind.{BodyKind}
use Rattle.scope_resolver.specs.declared.body_kind.BodyKind.TheVariants as kind
use Rattle.code_outline.specs.Makers.{maker_of, use_in}
use Rattle.code_verifier.specs.Needs.{registers_of, symbols_of, entry_of, distance_of, variable_of, count_of, parameters_of, arguments, self_arguments}
use Rattle.code_verifier.specs.Plain.{is_plain}
use Rattle.code_verifier.specs.Checks.{entry_holds, variable_holds, place_holds}
use Rattle.gen_parts.specs.declared.line.Line.TheVariants as line
use Rattle.gen_parts.specs.declared.emitter.Spot.{Spot}
use Rattle.gen_parts.specs.Pieces.{past, both, does}
use Rattle.gen_forms.specs.declared.calls.Passing.{Passing}
use Rattle.gen_forms.specs.declared.calls.Passing.TheVariants as passed
use Rattle.gen_forms.specs.Gen.{Context, Code, comparison, operator, is_one_plain, operates, passing, count_operand, registers_of as registers_for, send, return_by, told, ask, text_entry, passed_by}
use Rattle.code_laws.proofs.Serves.{Inside, context, Room, Seat, IsFew, Serves, items_of}
use Rattle.code_laws.proofs.Wells.{weight_of}
use Rattle.code_laws.proofs.Shares.{Listed, cost_items, many_items}
use Rattle.code_laws.proofs.Serving.{small, two_small, three_small, wide_fits, symbol_there, serves}
use Rattle.code_laws.proofs.Operating.{Site, Ready, choice, own, single, pair, symbol_within, text_serves}
use Rattle.code_laws.proofs.Lines.{Own, tall, lower}
use Rattle.code_laws.proofs.Parts.{then_does, does_then}

-- how arguments are passed
pub data Passes (is : Items) : Passing → Type 0 where
  registers : has_splat is ≡ false → item_count is ≤ 253 → Passes is (passed.InRegisters (item_count is))
  array_of : has_splat is ≡ false → 253 < item_count is → Passes is (passed.InArrayOf (item_count is))
  array : has_splat is ≡ true → Passes is passed.InArray

pub passes : (is : Items) → Passes is (passing is)
passes is =
    choice (Passes is) (has_splat is) passed.InArray
    (if nat_lt 253 (item_count is) then passed.InArrayOf (item_count is) else passed.InRegisters (item_count is)) array
    (λ e. choice (Passes is) (nat_lt 253 (item_count is)) (passed.InArrayOf (item_count is))
    (passed.InRegisters (item_count is)) (λ f. array_of e (ltb-true 253 (item_count is) f))
    (λ f. registers e (ltb-false 253 (item_count is) f)))

not_that : (n m : ℕ) → n < m → nat_eq n m ≡ false
not_that n m h = at (nat_eq n m) refl
  where
    at : (b : Bool) → nat_eq n m ≡ b → nat_eq n m ≡ false
    at true e = absurd (omega (arith, eqb-true n m e, h))
    at false e = e

few_arguments : (n : ℕ) → n ≤ 253 → arguments n ≡ n
few_arguments n h = rw (not_that n 255 (omega (arith, h))) refl

few_of_self : (n : ℕ) → n ≤ 253 → self_arguments n ≡ n
few_of_self n h = rw (not_that n 254 (omega (arith, h))) (few_arguments n h)

-- the operand of a call, and the registers of its arguments
pub record Counted (p : Passing) : Type 0 where
  pub few : count_operand p ≤ 255
  pub are : arguments (count_operand p) ≡ registers_for p
  pub of_self : self_arguments (count_operand p) ≡ registers_for p

pub counted : (is : Items) (p : Passing) → Passes is p → Counted p
counted is p (registers s h) = record {
  few = omega (arith, h);
  are = few_arguments (item_count is) h;
  of_self = few_of_self (item_count is) h;
}
counted is p (array_of s h) = record { few = omega arith; are = refl; of_self = refl }
counted is p (array s) = record { few = omega arith; are = refl; of_self = refl }

pub one_plain : (is : Items) → is_one_plain is ≡ true → has_splat is ≡ false
one_plain form.no_items e = absurd (cc)
one_plain (form.plain a form.no_items) e = refl
one_plain (form.plain a (form.plain b is)) e = absurd (cc)
one_plain (form.plain a (form.splat b is)) e = absurd (cc)
one_plain (form.splat a is) e = absurd (cc)

gathered_code : (is : Items) → has_splat is ≡ true → items_code is ≡ 8 * item_count is
gathered_code is e = rw e refl

module _ (w : Site) where
  abbrev me : Room
  me = own w

  -- one that isn't plain
  pub serves_by : (o : Operation) → nat_le (count_of o) 255 ≡ true → registers_of o ≤ w.registers → entry_of o ≡ None
      → list_all (λ i. nat_lt i (length w.tally.symbols)) (symbols_of o) ≡ true → distance_of o ≡ None
      → variable_of o ≡ None
      → parameters_of o ≡ None
      → ((s : Seat w.kind w.scopes) → place_holds s.number (maker_of s.program s.number) o ≡ true)
      → (IsFew (use_in o) → fits_as true o ≡ true) → Serves me o
  serves_by o c r e s j v n p f = record {
    counted = c;
    registers = r;
    entry = ap (entry_holds (items_of me)) e;
    symbols = s;
    jump = j;
    variable = λ q. ap (variable_holds q.program q.number) v;
    enter = n;
    place = p;
    fit = λ d few. wide_fits o (f few);
  }

  -- ## Exits

  register_few : (r : ℕ) → r < w.registers → r ≤ 65535
  register_few r h = omega (arith, h, w.able.few)

  pub return_ready : (r : ℕ) → r < w.registers → Ready me (op.Return r) 4
  return_ready r h = record {
    serve = serves_by (op.Return r) refl (omega (arith, h)) refl refl refl refl refl (λ s. refl)
        (λ f. small r (register_few r h));
    unused = refl;
    light = omega arith;
  }

  pub return_block_ready : (r : ℕ) → r < w.registers → w.kind ≡ kind.Block → Ready me (op.ReturnBlk r) 4
  return_block_ready r h e = record {
    serve = serves_by (op.ReturnBlk r) refl (omega (arith, h)) refl refl refl refl refl (λ s. s.function e)
        (λ f. small r (register_few r h));
    unused = refl;
    light = omega arith;
  }

  pub break_ready : (r : ℕ) → r < w.registers → w.kind ≡ kind.Block → Ready me (op.Break r) 4
  break_ready r h e = record {
    serve = serves_by (op.Break r) refl (omega (arith, h)) refl refl refl refl refl (λ s. s.function e)
        (λ f. small r (register_few r h));
    unused = refl;
    light = omega arith;
  }

  pub returns : (q : BodyKind) (r : ℕ) → w.kind ≡ q → r < w.registers → Ready me (return_by q r) 4
  returns kind.Main r e h = return_ready r h
  returns kind.Method r e h = return_ready r h
  returns kind.Block r e h = return_block_ready r h e
  returns kind.Class r e h = return_ready r h

  pub stop_ready : w.kind ≡ kind.Main → Ready me op.Stop 4
  stop_ready e = record {
    serve = record {
      counted = refl;
      registers = omega arith;
      entry = refl;
      symbols = refl;
      jump = refl;
      variable = λ s. refl;
      enter = refl;
      place = λ s. rw (s.main e) refl;
      fit = λ d f. refl;
    };
    unused = refl;
    light = omega arith;
  }

  -- ## Bodies

  pub block_serves : (r child : ℕ) → r < w.registers → Serves me (op.Block r child)
  block_serves r child h =
      serves_by (op.Block r child) refl (omega (arith, h)) refl refl refl refl refl (λ s. refl)
      (λ f. two_small r child (register_few r h) (omega (arith, f)))

  pub lambda_serves : (r child : ℕ) → r < w.registers → Serves me (op.Lambda r child)
  lambda_serves r child h =
      serves_by (op.Lambda r child) refl (omega (arith, h)) refl refl refl refl refl (λ s. refl)
      (λ f. two_small r child (register_few r h) (omega (arith, f)))

  pub exec_serves : (r child : ℕ) → r < w.registers → Serves me (op.Exec r child)
  exec_serves r child h =
      serves_by (op.Exec r child) refl (omega (arith, h)) refl refl refl refl refl (λ s. refl)
      (λ f. two_small r child (register_few r h) (omega (arith, f)))

  pub define_serves : (r i child : ℕ) → r < w.registers → i < length w.tally.symbols → Serves me (op.Def r i child)
  define_serves r i child h b =
      serves_by (op.Def r i child) refl (omega (arith, h)) refl (symbol_there i (length w.tally.symbols) b) refl refl
      refl
      (λ s. refl)
      (λ f. three_small r i child (register_few r h) (omega (arith, b, w.able.symbols)) (omega (arith, f)))

  pub top_ready : (r b : ℕ) → r < w.registers → b < 2 → Ready me (op.OClass r b) 6
  top_ready r b h l = record {
    serve = serves_by (op.OClass r b) refl (omega (arith, h)) refl refl refl refl refl (λ s. lt-ltb b 2 l)
        (λ f. two_small r b (register_few r h) (omega (arith, l)));
    unused = refl;
    light = omega arith;
  }

  -- ## Questions

  pub asked_ready : (r q i : ℕ) → r < w.registers → q < 8 → i ≤ 65535
      → list_all (λ n. nat_lt n (length w.tally.symbols)) (symbols_of (op.Defined r q i)) ≡ true
      → Ready me (op.Defined r q i) 8
  asked_ready r q i h l b s = record {
    serve = serves_by (op.Defined r q i) refl (omega (arith, h)) refl s refl refl refl (λ p. lt-ltb q 8 l)
        (λ f. three_small r q i (register_few r h) (omega (arith, l)) b);
    unused = refl;
    light = omega arith;
  }

  named_ready : (r q : ℕ) (x : Name) (i : ℕ) → r < w.registers → q < 6 → i < length w.tally.symbols
      → Ready me (op.Defined r q i) 8
  named_ready r q x i h l b =
      asked_ready r q i h (omega (arith, l)) (omega (arith, b, w.able.symbols))
      (ap (λ (c : Bool). list_all (λ n. nat_lt n (length w.tally.symbols)) (if c then i ∷ [] else [])) (lt-ltb q 6 l)
      ∙ symbol_there i (length w.tally.symbols) b)

  text_ready : (r : ℕ) (x : List ℕ) → r < w.registers → Listed w.tally.texts (Some x)
      → Ready me (op.String r (text_entry (context me (record { loop = None; caught = 0; body_start = 0 })) x)) 8
  text_ready r x h l = record { serve = text_serves w r x h l; unused = refl; light = omega arith }

  pub asks_ready : (i : Inside) (q : DefinedKind) (x : Name) (has : Bool) (r : ℕ) → r < w.registers
      → Listed w.tally.symbols (asked_name q x) → Listed w.tally.texts (answer_of q)
      → Ready me (ask (context me i) q x has r (told q)) 8
  unfolding ask
  asks_ready i asks.Expression x has r h l u = text_ready r (codes "expression") h u
  asks_ready i asks.LocalVariable x has r h l u = text_ready r (codes "local-variable") h u
  asks_ready i asks.SelfReference x has r h l u = text_ready r (codes "self") h u
  asks_ready i asks.Assignment x has r h l u = text_ready r (codes "assignment") h u
  asks_ready i asks.InstanceVariable x has r h l u =
      named_ready r 0 x _ h (omega arith) (symbol_within w x l)
  asks_ready i asks.GlobalVariable x has r h l u =
      named_ready r 1 x _ h (omega arith) (symbol_within w x l)
  asks_ready i asks.Constant x false r h l u =
      named_ready r 2 x _ h (omega arith) (symbol_within w x l)
  asks_ready i asks.Constant x true r h l u =
      named_ready r 3 x _ h (omega arith) (symbol_within w x l)
  asks_ready i asks.Method x false r h l u =
      named_ready r 4 x _ h (omega arith) (symbol_within w x l)
  asks_ready i asks.Method x true r h l u =
      named_ready r 5 x _ h (omega arith) (symbol_within w x l)
  asks_ready i asks.Yield x has r h l u = asked_ready r 6 0 h (omega arith) (omega arith) refl
  asks_ready i asks.Super x has r h l u = asked_ready r 7 0 h (omega arith) (omega arith) refl

  -- ## Operators

  abbrev IsReady : Option Operation → Type 0
  IsReady None = Unit
  IsReady (Some o) = Ready me o 4

  pub two_ready : (o : Operation) (r : ℕ) → is_plain o ≡ true → nat_le (count_of o) 255 ≡ true → symbols_of o ≡ []
      → fits_as true o ≡ is_two_bytes r → registers_of o ≡ r + 2 → use_in o ≡ None → weight_of (line.Does o) ≤ 4
      → r + 2 ≤ w.registers → Ready me o 4
  two_ready o r p c s f e u l h = record {
    serve = single w o r p c s f (omega (arith, e, h)) (omega (arith, h));
    unused = u;
    light = l;
  }

  comparison_ready : (x : Name) (r : ℕ) → r + 2 ≤ w.registers → IsReady (comparison x r)
  comparison_ready x r h =
      choice IsReady (bytes_eq x (codes "==")) (Some (op.Eq r)) _
      (λ e. two_ready (op.Eq r) r refl refl refl refl refl refl (omega arith) h)
      (λ e. choice IsReady (bytes_eq x (codes "<")) (Some (op.Lt r)) _
      (λ e. two_ready (op.Lt r) r refl refl refl refl refl refl (omega arith) h)
      (λ e. choice IsReady (bytes_eq x (codes "<=")) (Some (op.Le r)) _
      (λ e. two_ready (op.Le r) r refl refl refl refl refl refl (omega arith) h)
      (λ e. choice IsReady (bytes_eq x (codes ">")) (Some (op.Gt r)) _
      (λ e. two_ready (op.Gt r) r refl refl refl refl refl refl (omega arith) h)
      (λ e. choice IsReady (bytes_eq x (codes ">=")) (Some (op.Ge r)) None
      (λ e. two_ready (op.Ge r) r refl refl refl refl refl refl (omega arith) h) (λ e. tt)))))

  operator_ready : (x : Name) (r : ℕ) → r + 2 ≤ w.registers → IsReady (operator x r)
  operator_ready x r h =
      choice IsReady (bytes_eq x (codes "+")) (Some (op.Add r)) _
      (λ e. two_ready (op.Add r) r refl refl refl refl refl refl (omega arith) h)
      (λ e. choice IsReady (bytes_eq x (codes "-")) (Some (op.Sub r)) _
      (λ e. two_ready (op.Sub r) r refl refl refl refl refl refl (omega arith) h)
      (λ e. choice IsReady (bytes_eq x (codes "*")) (Some (op.Mul r)) _
      (λ e. two_ready (op.Mul r) r refl refl refl refl refl refl (omega arith) h)
      (λ e. choice IsReady (bytes_eq x (codes "/")) (Some (op.Div r)) (comparison x r)
      (λ e. two_ready (op.Div r) r refl refl refl refl refl refl (omega arith) h)
      (λ e. comparison_ready x r h))))

  -- an operator, where no item is a splat
  abbrev pub Operated : Items → Option Operation → Type 0
  Operated is None = Unit
  Operated is (Some o) = Ready me o 4 × (has_splat is ≡ false)

  operated : (is : Items) (o : Option Operation) → IsReady o → has_splat is ≡ false → Operated is o
  operated is None h e = tt
  operated is (Some o) h e = (h, e)

  pub operates_ready : (b : Maybe) (e : Receiver) (x : Name) (is : Items) (r : ℕ) → r + 2 ≤ w.registers
      → Operated is (operates b e x is r)
  operates_ready (form.there b) e x is r h = tt
  operates_ready form.absent (form.to e) x is r h =
      choice (Operated is) (is_one_plain is) (operator x r) None
      (λ p. operated is (operator x r) (operator_ready x r h) (one_plain is p)) (λ p. tt)
  operates_ready form.absent form.on_self x is r h = tt
  operates_ready form.absent form.bare x is r h = tt

  -- ## Calls

  called_ready : (o : Operation) (r i c : ℕ) → is_plain o ≡ true → count_of o ≡ c → symbols_of o ≡ i ∷ []
      → fits_as true o ≡ (is_two_bytes r && is_two_bytes i && is_two_bytes c) → use_in o ≡ None
      → weight_of (line.Does o) ≤ 8 → registers_of o ≤ w.registers → r < w.registers → i < length w.tally.symbols
      → c ≤ 255 → Ready me o 8
  called_ready o r i c p e s f u v few h b l = record {
    serve =
        serves me o p (ap (λ (n : ℕ). nat_le n 255) e ∙ le-leb c 255 l) few
        (ap (list_all (λ n. nat_lt n (length w.tally.symbols))) s ∙ symbol_there i (length w.tally.symbols) b)
        (f ∙ three_small r i c (register_few r h) (omega (arith, b, w.able.symbols)) (omega (arith, l)));
    unused = u;
    light = v;
  }

  pub send_ready : (b : Bool) (e : Receiver) (p : Passing) (r i : ℕ) → Counted p → r + 2 + registers_for p ≤ w.registers
      → i < length w.tally.symbols → Ready me (send b e p r i) 8
  send_ready false (form.to e) p r i c h l =
      called_ready (op.Send r i (count_operand p)) r i (count_operand p) refl refl refl refl refl (omega arith)
      (omega (arith, h, c.are)) (omega (arith, h)) l c.few
  send_ready false form.on_self p r i c h l =
      called_ready (op.SSend r i (count_operand p)) r i (count_operand p) refl refl refl refl refl (omega arith)
      (omega (arith, h, c.of_self)) (omega (arith, h)) l c.few
  send_ready false form.bare p r i c h l =
      called_ready (op.SSend r i 254) r i 254 refl refl refl refl refl (omega arith)
      (omega (arith, h)) (omega (arith, h)) l (omega arith)
  send_ready true (form.to e) p r i c h l =
      called_ready (op.SendB r i (count_operand p)) r i (count_operand p) refl refl refl refl refl (omega arith)
      (omega (arith, h, c.are)) (omega (arith, h)) l c.few
  send_ready true form.on_self p r i c h l =
      called_ready (op.SSendB r i (count_operand p)) r i (count_operand p) refl refl refl refl refl (omega arith)
      (omega (arith, h, c.are)) (omega (arith, h)) l c.few
  send_ready true form.bare p r i c h l =
      called_ready (op.SSendB r i (count_operand p)) r i (count_operand p) refl refl refl refl refl (omega arith)
      (omega (arith, h, c.are)) (omega (arith, h)) l c.few

  given_ready : (o : Operation) (r c : ℕ) → is_plain o ≡ true → count_of o ≡ c → symbols_of o ≡ []
      → fits_as true o ≡ (is_two_bytes r && is_two_bytes c) → use_in o ≡ None → weight_of (line.Does o) ≤ 6
      → registers_of o ≤ w.registers → r < w.registers → c ≤ 255 → Ready me o 6
  given_ready o r c p e s f u v few h l = record {
    serve =
        serves me o p (ap (λ (n : ℕ). nat_le n 255) e ∙ le-leb c 255 l) few
        (ap (list_all (λ n. nat_lt n (length w.tally.symbols))) s)
        (f ∙ two_small r c (register_few r h) (omega (arith, l)));
    unused = u;
    light = v;
  }

  pub yield_ready : (p : Passing) (r : ℕ) → Counted p → r + 2 + registers_for p ≤ w.registers
      → Ready me (op.Call r (count_operand p)) 6
  yield_ready p r c h =
      given_ready (op.Call r (count_operand p)) r (count_operand p) refl refl refl refl refl (omega arith)
      (omega (arith, h, c.are)) (omega (arith, h)) c.few

  pub super_ready : (p : Passing) (r : ℕ) → Counted p → r + 2 + registers_for p ≤ w.registers
      → Ready me (op.Super r (count_operand p)) 6
  super_ready p r c h =
      given_ready (op.Super r (count_operand p)) r (count_operand p) refl refl refl refl refl (omega arith)
      (omega (arith, h, c.are)) (omega (arith, h)) c.few

  pub array_ready : (r n : ℕ) → r < w.registers → r + n ≤ w.registers → Ready me (op.Array r n) 6
  array_ready r n h l = record {
    serve = pair w (op.Array r n) r n refl refl refl refl (omega (arith, h, l)) h (omega (arith, l, w.able.few));
    unused = refl;
    light = omega arith;
  }

  -- the arguments of a call whose receiver is in register r, by those that go into registers and into an Array
  pub arguments_well : (is : Items) (p : Passing) (c : Context) (s : Spot) (r : ℕ) (each gathered : Code) → Passes is p
      → (has_splat is ≡ false → Own me s (each c s (r + 1)) (cost_items is) (many_items is))
      → (has_splat is ≡ true → Own me (past s (does (op.Array (r + 1) 0)))
      (gathered c (past s (does (op.Array (r + 1) 0))) (r + 1)) (6 * item_count is + cost_items is) (many_items is))
      → r + 2 + registers_for p ≤ w.registers → (has_splat is ≡ false → r + 1 + item_count is ≤ w.registers)
      → Own me s (passed_by p each gathered c s r) (6 + items_code is + cost_items is) (many_items is)
  arguments_well is p c s r each gathered (registers e few) u v h l =
      lower me (s.line + tall (each c s (r + 1))) s (each c s (r + 1)) (cost_items is)
      (6 + items_code is + cost_items is) (many_items is) (many_items is) (omega arith) refl (u e)
  arguments_well is p c s r each gathered (array_of e some) u v h l =
      let a = array_ready (r + 1) (item_count is) (omega (arith, h)) (omega (arith, l e)) in
      let q = both (each c s (r + 1)) (does (op.Array (r + 1) (item_count is))) in
      lower me (s.line + tall q) s q (cost_items is + 6) (6 + items_code is + cost_items is) (many_items is)
      (many_items is) (omega arith) refl
      (then_does me s (each c s (r + 1)) (op.Array (r + 1) (item_count is)) (cost_items is) 6 (many_items is) (u e)
      a.serve a.unused a.light)
  arguments_well is p c s r each gathered (array e) u v h l =
      let a = array_ready (r + 1) 0 (omega (arith, h)) (omega (arith, h)) in
      let g = gathered c (past s (does (op.Array (r + 1) 0))) (r + 1) in
      let q = both (does (op.Array (r + 1) 0)) g in
      lower me (s.line + tall q) s q (6 + (6 * item_count is + cost_items is)) (6 + items_code is + cost_items is)
      (many_items is) (many_items is) (omega (arith, gathered_code is e)) refl
      (does_then me s (op.Array (r + 1) 0) g 6 (6 * item_count is + cost_items is) (many_items is) a.serve a.unused
      a.light (v e))
