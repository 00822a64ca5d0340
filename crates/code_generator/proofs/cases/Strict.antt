-- Strict forms: the operands from left to right, and the action.
use Rattle.std.proofs.Common.{◌≡◌, ℕ, ◌+◌, ◌<◌, ℤ, pos, negsuc, List, [], ◌∷◌, ◌++◌, refl, sym, ap, ◌∙◌, subst, arith, length, map, Bool, true, false, cond, length-append, get_or}
use Rattle.std.specs.Prelude.{nat_lt, codes}
use Rattle.std.proofs.lemmas.List.{map-append, length-map}
use Rattle.path_core.specs.Form.{Action, give_nil, give_true, give_int, call_operator, call_puts, strict, Forms, none, more}
use Rattle.code_generator.specs.Limits.{arity}
use Rattle.rb_syntax.specs.declared.operator.Operator.{Operator}
use Rattle.rb_syntax.specs.declared.operator.Operator.TheVariants.{Plus, Minus, Times, Equal, Less, LessEqual, Greater, GreaterEqual}
use Rattle.path_value.specs.declared.value.Value.{Value}
use Rattle.path_value.specs.declared.value.Value.TheVariants.{Nil, Int}
use Rattle.path_value.specs.declared.failure.Failure.{Failure}
use Rattle.rite_code.specs.Code.{Program}
use Rattle.rite_code.specs.declared.operation.Operation.TheVariants as ops
use Rattle.rite_code.specs.Shape.{size_of}
use Rattle.path_core.specs.Rows.{Outcome, gives, raises, writes, call, line_of}
use Rattle.path_eval.specs.Seen.{Going, Uncaught}
use Rattle.path_eval.specs.Configuration as source
use Rattle.path_eval.specs.Configuration.{Source, Part, operands, Item, inside, Focus, perform, give, World, Config, Run, seen}
use Rattle.path_eval.specs.Transition as evaluation
use Rattle.path_eval.specs.Transition.{outcome, go}
use Rattle.path_eval.specs.Measure.{measure, weights}
use Rattle.path_turns.specs.State.{value, read, raised, body_at, slot_at, value_at, Frame, Memory, On, Off}
use Rattle.path_turns.specs.Turn as machine
use Rattle.path_turns.specs.Turn.{turn, act, goto, write, throw}
use Rattle.code_generator.specs.Gen.{action_of, action_size, before_operands, load_number, number_size}
use Rattle.code_generator.specs.Gen as generator
use Rattle.code_generator.proofs.Stands.{Around, Room, StandOperands}
use Rattle.code_generator.proofs.Relation.{Holds, Related, Focused, Given, Awaits, Same, Step}
use Rattle.code_generator.proofs.Registers.{slot_same, same_above}
use Rattle.code_generator.proofs.Keeping.{awaits_fits, keeps_above}
use Rattle.code_generator.proofs.Matching.{turned, by_none, by_one, going, gives as gives_value, keeps_value}

-- nothing takes an exit
thrown : (e : Failure) (f : Frame) (fs : List Frame) (m : Memory) → throw (raised e) f fs m ≡ Off (Uncaught m.out e)
thrown e f [] m = refl
thrown e f (g ∷ gs) m = thrown e g gs m

-- a number is loaded, whichever instruction is the shortest
load_is : (p : Program) (r next : ℕ) (z : ℤ) (f : Frame) (fs : List Frame) (m : Memory)
    → act p (load_number r z) next f fs m ≡ On (goto f next) fs (write m f.list r (Int z))
load_is p r next (pos n) f fs m = by (nat_lt n 256) (nat_lt n 32768)
  where
    by : (s t : Bool) → act p (cond s (ops.LoadI r n) (cond t (ops.LoadI16 r (pos n)) (ops.LoadI32 r (pos n)))) next f
        fs m ≡ On (goto f next) fs (write m f.list r (Int (pos n)))
    by true t = refl
    by false true = refl
    by false false = refl
load_is p r next (negsuc n) f fs m = by (nat_lt n 32768)
  where
    by : (t : Bool) → act p (cond t (ops.LoadI16 r (negsuc n)) (ops.LoadI32 r (negsuc n))) next f fs m ≡ On
        (goto f next) fs (write m f.list r (Int (negsuc n)))
    by true = refl
    by false = refl

operate_is : (p : Program) (o : Operator) (r next : ℕ) (f : Frame) (fs : List Frame) (m : Memory)
    → act p (generator.operate o r) next f fs m ≡ machine.operate o r next f fs m
operate_is p Plus r next f fs m = refl
operate_is p Minus r next f fs m = refl
operate_is p Times r next f fs m = refl
operate_is p Equal r next f fs m = refl
operate_is p Less r next f fs m = refl
operate_is p LessEqual r next f fs m = refl
operate_is p Greater r next f fs m = refl
operate_is p GreaterEqual r next f fs m = refl

-- the instruction of an action does with the registers what the action does with their values
acted : (p : Program) (a : Action) (vs : List Value) (r next : ℕ) (f : Frame) (fs : List Frame) (m : Memory)
    → length vs ≡ arity a → (generator.is_puts a ≡ true → get_or (body_at p f.body).symbols 0 [] ≡ codes "puts")
    → Holds m.lists f.list (r + before_operands a) (map value vs)
    → act p (action_of a r) next f fs m ≡ machine.after (outcome a vs) r next f fs m
unfolding outcome machine.is_puts
acted p give_nil vs r next f fs m count named held = refl
acted p give_true vs r next f fs m count named held = refl
acted p (give_int z) vs r next f fs m count named held = load_is p r next z f fs m
acted p (call_operator o) [] r next f fs m count named held = absurd (omega arith)
acted p (call_operator o) (u ∷ []) r next f fs m count named held = absurd (omega arith)
acted p (call_operator o) (u ∷ (v ∷ [])) r next f fs m count named held =
    let e : r + 0 ≡ r = omega arith in
    let first : value_at m.lists f.list r ≡ u =
    ap read (subst (λ (n : ℕ). slot_at m.lists f.list n ≡ value u) e held.0) in
    let second : value_at m.lists f.list (r + 1) ≡ v =
    ap read (subst (λ (n : ℕ). slot_at m.lists f.list (n + 1) ≡ value v) e held.1.0) in
    operate_is p o r next f fs m ∙ ap (λ (x : Value). machine.after (call o x (value_at m.lists f.list (r + 1))) r next
    f fs m) first ∙ ap (λ (x : Value). machine.after (call o u x) r next f fs m) second
acted p (call_operator o) (u ∷ (v ∷ (x ∷ vs))) r next f fs m count named held = absurd (omega arith)
acted p call_puts [] r next f fs m count named held = absurd (omega arith)
acted p call_puts (u ∷ []) r next f fs m count named held =
    ap (λ (s : List ℕ). machine.call_self (machine.is_puts s 1) r next f fs m) (named refl)
    ∙ ap (λ (x : Value). machine.after (writes (line_of x)) r next f fs m) (ap read held.0)
acted p call_puts (u ∷ (v ∷ vs)) r next f fs m count named held = absurd (omega arith)

pub size_is : (a : Action) (r : ℕ) → size_of (action_of a r) ≡ action_size a
size_is give_nil r = refl
size_is give_true r = refl
size_is (give_int (pos n)) r = by (nat_lt n 256) (nat_lt n 32768)
  where
    by : (s t : Bool) → size_of (cond s (ops.LoadI r n) (cond t (ops.LoadI16 r (pos n)) (ops.LoadI32 r (pos n)))) ≡ cond
        s 3 (cond t 4 6)
    by true t = refl
    by false true = refl
    by false false = refl
size_is (give_int (negsuc n)) r = by (nat_lt n 32768)
  where
    by : (t : Bool) → size_of (cond t (ops.LoadI16 r (negsuc n)) (ops.LoadI32 r (negsuc n))) ≡ cond t 4 6
    by true = refl
    by false = refl
size_is (call_operator Plus) r = refl
size_is (call_operator Minus) r = refl
size_is (call_operator Times) r = refl
size_is (call_operator Equal) r = refl
size_is (call_operator Less) r = refl
size_is (call_operator LessEqual) r = refl
size_is (call_operator Greater) r = refl
size_is (call_operator GreaterEqual) r = refl
size_is call_puts r = refl

-- the turn of an action
apply_by : (q : Source) (p : Program) (c : Config) (ks : List Item) (w : World) (f : Frame) (fs : List Frame)
    (m : Memory) (h : Around) (r next end : ℕ) → seen c ≡ Going w.out → h.names ≡ (source.body_at q f.body).names
    → (x : Outcome) → go q c ≡ evaluation.after x ks w → weights ks < measure c → Same q w f.list m
    → turn p (On f fs m) ≡ machine.after x r next f fs m → Room p f.body r → next ≡ end
    → Awaits q p m.lists ks h f.body f.list fs end r → Step q p c (On f fs m)
apply_by q p c ks w f fs m h r next end out names (gives v) goes less same turns room ends awaits =
    by_one q p _ _ _ (going same ∙ sym out) turns
    (subst (λ (d : Config). Related q p d (On (goto f next) fs (write m f.list r v))) (sym goes)
    (gives_value q p v ks w f fs m h r next end same names room awaits ends))
apply_by q p c ks w f fs m h r next end out names (raises e) goes less same turns room ends awaits =
    by_none q p _ _ (subst (λ (d : Config). measure d < measure c) (sym goes) (omega (arith, less)))
    (subst (λ (d : Config). Related q p d (On f fs m)) (sym goes)
    (record { out = same.out; throws = turns ∙ thrown e f fs m }))
apply_by q p c ks w f fs m h r next end out names (writes bytes) goes less same turns room ends awaits =
    let fits = awaits_fits q p m.lists ks h f.body f.list fs end r awaits in
    let above = same_above q p w f.body f.list m r (value Nil) fits room.above same in
    let m' : Memory = record (write m f.list r Nil) { out = m.out ++ bytes } in
    by_one q p _ _ _ (going same ∙ sym out) turns
    (subst (λ (d : Config). Related q p d (On (goto f next) fs m')) (sym goes)
    (keeps_value q p Nil ks (evaluation.write w bytes) f fs m m' h r next end
    (record {
      is_scope = above.is_scope;
      input = above.input;
      out = ap (λ (o : List ℕ). o ++ bytes) same.out;
      scopes =
          above.scopes;
    }) names
    (slot_same m.lists f.list r (value Nil) fits.present (omega (arith, fits.long, room.within)))
    (keeps_above q p m.lists f.body f.list r r (value Nil) fits.present (omega arith)) awaits ends))

-- the action of a strict form whose operands stand in their registers
act_by : (q : Source) (p : Program) (c : Config) (a : Action) (vs : List Value) (ks : List Item) (w : World) (f : Frame)
    (fs : List Frame) (m : Memory) (h : Around) (r n end : ℕ) → seen c ≡ Going w.out
    → h.names ≡ (source.body_at q f.body).names → go q c ≡ evaluation.after (outcome a vs) ks w → weights ks < measure c
    → Same q w f.list m → StandOperands p f.body h a none r n f.pc end → n ≡ before_operands a + length vs
    → Holds m.lists f.list (r + before_operands a) (map value vs) → Awaits q p m.lists ks h f.body f.list fs end r
    → Step q p c (On f fs m)
act_by q p c a vs ks w f fs m h r n end out names goes less same code count held awaits =
    let size : f.pc + size_of (action_of a r) ≡ f.pc + action_size a = ap (λ (k : ℕ). f.pc + k) (size_is a r) in
    let all : length vs ≡ arity a = omega (arith, code.all) in
    apply_by q p c ks w f fs m h r (f.pc + size_of (action_of a r)) end out names (outcome a vs) goes less same
    (turned p (action_of a r) f fs m code.act
    ∙ acted p a vs r (f.pc + size_of (action_of a r)) f fs m all code.named held)
    code.room (size ∙ code.ends) awaits

pub do_strict : (q : Source) (p : Program) (a : Action) (es : Forms) (ks : List Item) (w : World) (f : Frame)
    (fs : List Frame) (m : Memory) → Focused q p (perform (strict a es)) ks w f fs m
    → Step q p (Run (perform (strict a es)) ks w) (On f fs m)
do_strict q p a none ks w f fs m r =
    act_by q p (Run (perform (strict a none)) ks w) a [] ks w f fs m r.h r.r (before_operands a) r.end refl r.names refl
    (omega arith) r.same r.code (omega arith) tt r.next
do_strict q p a (more e es) ks w f fs m r =
    by_none q p _ _ (omega arith) (record {
      same = r.same;
      h = r.h;
      names = r.names;
      r = r.r + before_operands a;
      above = omega (arith, r.above);
      end = r.code.mid;
      code = r.code.first;
      next = record {
        low = r.r;
        kept_below = omega arith;
        locals_below = r.above;
        held = tt;
        end = r.end;
        behind =
            r.code.others;
        next = r.next;
      };
    })

pub give_operand : (q : Source) (p : Program) (v : Value) (a : Action) (vs : List Value) (es : Forms) (ks : List Item)
    (w : World) (f : Frame) (fs : List Frame) (m : Memory) → Given q p v (operands a vs es) ks w f fs m
    → Step q p (Run (give v) (inside (operands a vs es) ∷ ks) w) (On f fs m)
give_operand q p v a vs none ks w f fs m r =
    let n : before_operands a + (length vs + 1) ≡ before_operands a + length (vs ++ v ∷ []) =
    omega (arith, length-append vs (v ∷ [])) in
    act_by q p (Run (give v) (inside (operands a vs none) ∷ ks) w) a (vs ++ v ∷ []) ks w f fs m r.h r.r
    (before_operands a + (length vs + 1)) r.end refl r.names refl (omega arith) r.same r.behind n
    (subst (Holds m.lists f.list (r.r + before_operands a)) (sym (map-append value vs (v ∷ []))) r.held) r.next
give_operand q p v a vs (more e es) ks w f fs m r =
    let n : length vs + 1 ≡ length (vs ++ v ∷ []) = omega (arith, length-append vs (v ∷ [])) in
    let m1 : length (map value (vs ++ v ∷ [])) ≡ length vs + 1 = length-map (vs ++ v ∷ []) value ∙ sym n in
    by_none q p _ _ (omega arith) (record {
      same = r.same;
      h = r.h;
      names = r.names;
      r = r.r + (before_operands a + (length vs + 1));
      above = omega (arith, r.above);
      end = r.behind.mid;
      code = r.behind.first;
      next = record {
        low = r.r;
        kept_below = omega (arith, m1);
        locals_below = r.above;
        held = subst (Holds m.lists f.list (r.r + before_operands a)) (sym (map-append value vs (v ∷ []))) r.held;
        end = r.end;
        behind = subst (λ (k : ℕ). StandOperands p f.body r.h a es r.r k r.behind.mid r.end) (omega (arith, n))
            r.behind.others;
        next = r.next;
      };
    })
