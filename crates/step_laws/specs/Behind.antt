-- The code behind each part of a form that waits for its value, and the registers that hold what it keeps.
use Rattle.std.specs.Prelude.{◌≡◌, ◌≢◌, ◌⊎◌, ◌<◌, ◌≤◌, ℕ, suc, ◌+◌, List, [], ◌∷◌, length, get_or, Bool, true, false, nat_lt, Option, Some, None}
use Rattle.rb_value.specs.declared.value.Value.{Value}
use Rattle.rb_value.specs.declared.value.Value.TheVariants.{Obj}
use Rattle.rb_value.specs.declared.value.ObjId.{ObjId}
use Rattle.rb_value.specs.declared.exit.Slot.TheVariants.{V}
use Rattle.rite_code.specs.declared.operation.Operation.{Operation}
use Rattle.rite_code.specs.declared.operation.Operation.TheVariants as op
use Rattle.ir_counts.specs.Tables.{item_count}
use Rattle.ir_walk.specs.Width.{has_splat}
use Rattle.ir_core.specs.CoreForm.{Name, Local, CoreForm, Maybe, absent, there, Forms, none, more, Items, Pairs, Branches, no_clauses, clause}
use Rattle.scope_resolver.specs.Layout.{place_of}
use Rattle.step_laws.specs.Around.{first_slots}
use Rattle.gen_parts.specs.declared.line.Line.TheVariants as line
use Rattle.gen_parts.specs.declared.emitter.Spot.{Spot}
use Rattle.gen_parts.specs.declared.emitter.Held.TheVariants as held
use Rattle.gen_parts.specs.Pieces.{Piece, past, behind, nothing, does, ◌⊕◌, jump, jump_not}
use Rattle.gen_forms.specs.declared.context.Loop.{Loop}
use Rattle.gen_forms.specs.Gen.{Context, gen, gather, gather_pairs, gather_text, others_in_turn, pass_in_registers, choose, over, operator, symbol}
use Rattle.def_calls.specs.Calls.{Sending, by_name, to_proc, to_super}
use Rattle.def_eval.specs.Configuration.{Action, assign, assign_gvar, leave_method, leave_call, leave_round, Gathering, an_array, arguments_of, Part, operands, receiver, items, block, elements, hash_key, hash_value, pieces, rest, test, chosen, and_then, or_else, loop_test, loop_body, rescued, clause_class, clause_target, clause_body, ensured, Stop, passes, loops, rescues, assigns, retries, ensures, define_on, open_class, open_module, open_singleton}
use Rattle.def_eval.specs.Scopes.{same_local}
use Rattle.def_eval.specs.Source.{Source, span}
use Rattle.eval_laws.specs.Kinds.{IsKind, of_class}
use Rattle.eval_laws.specs.Standing.{past_items, past_branches}
use Rattle.def_machine.specs.State.{Registers, body_at, slot_at}
use Rattle.step_laws.specs.Site.{Site, StaysIn, within, LineAt, Room, register, Known, IsThere, Named, number}
use Rattle.step_laws.specs.Strict.{strict_op, IsReady, arity}
use Rattle.step_laws.specs.Passed.{IsAtOnce}
use Rattle.step_laws.specs.Far.{Far, returns_far, breaks_far, action_of, leaving_op, ends_itself}
use Rattle.step_laws.specs.Covers.{past_items_code, past_new, past_branch, past_choices, Covers, CoversAll, CoversItems, CoversElements, CoversPieces, CoversPairs, CoversBranches}
use Rattle.step_laws.specs.Standing.{high, Stands}

-- what holds of the body all along
pub record Static (h : Site) : Type 0 where
  pub apart : (x y : Local) → Known h x → Known h y → same_local x y ≡ false → register h x ≢ register h y
  pub some : 0 < h.first
  -- its own slots stand below the registers of its form
  pub low : 1 + length (first_slots h.context.scopes) ≤ h.first
  pub room : h.first ≤ (body_at h.program h.body).registers

-- these values stand in a row of registers
abbrev pub Holds : List Registers → ℕ → ℕ → List Value → Type 0
Holds l n r [] = Unit {0}
Holds l n r (v ∷ vs) = (slot_at l n r ≡ V v) × Holds l n (r + 1) vs

-- those of a call: self is no value of a register
abbrev pub HoldsCall : Site → List Registers → Bool → ℕ → Value → List Value → Type 0
HoldsCall h l false r recv vs = Holds l h.list r (recv ∷ vs)
HoldsCall h l true r recv vs = (recv ≡ h.self) × Holds l h.list (r + 1) vs

-- the instruction of a call by that name, of so many items, of self or of a value in register r
pub data CallBy (h : Site) (r : ℕ) (x : Name) (count : ℕ) (own : Bool) (o : Operation) : Type 0 where
  operates : operator x r ≡ Some o → count ≡ 1 → own ≡ false → IsThere h.source x → CallBy h r x count own o
  sends : o ≡ op.Send r (symbol h.context x) count → nat_lt 253 count ≡ false → own ≡ false → Named h x
      → CallBy h r x count own o
  sends_self : o ≡ op.SSend r (symbol h.context x) count → nat_lt 253 count ≡ false → own ≡ true → Named h x
      → CallBy h r x count own o

-- the instruction that passes a block with a call of that name, and of so many items
abbrev pub block_sender : Bool → ℕ → ℕ → ℕ → Operation
block_sender false r x n = op.SendB r x n
block_sender true r x n = op.SSendB r x n

-- what is called: a method by its name, the block of a method, or the method above the running one
pub data Callee : Type 0 where
  a_method : Name → Callee
  a_block : Callee
  a_super : Callee

abbrev pub sending_of : Source → Callee → Sending
sending_of s (a_method x) = by_name (number s x)
sending_of s a_block = to_proc
sending_of s a_super = to_super

-- the instruction that passes a block with so many arguments
pub data PassesBlock (h : Site) (r : ℕ) (own : Bool) (k : Sending) (n : ℕ) (o : Operation) : Type 0 where
  to_value : (x : Name) → k ≡ by_name (number h.source x) → own ≡ false → Named h x → o ≡ op.SendB r (symbol h.context x) n
      → PassesBlock h r own k n o
  to_self : (x : Name) → k ≡ by_name (number h.source x) → own ≡ true → Named h x → o ≡ op.SSendB r (symbol h.context x) n
      → PassesBlock h r own k n o
  to_above : k ≡ to_super → own ≡ true → o ≡ op.Super r n → PassesBlock h r own k n o

-- the instruction of a call whose arguments stand in an Array
pub data SendsArray (h : Site) (r : ℕ) (q : Callee) (own : Bool) (o : Operation) : Type 0 where
  sends_array : (x : Name) → q ≡ a_method x → own ≡ false → Named h x → o ≡ op.Send r (symbol h.context x) 255
      → SendsArray h r q own o
  sends_array_self : (x : Name) → q ≡ a_method x → own ≡ true → Named h x → o ≡ op.SSend r (symbol h.context x) 255
      → SendsArray h r q own o
  yields_array : q ≡ a_block → own ≡ false → o ≡ op.Call r 255 → SendsArray h r q own o

-- What stands behind the Array of the arguments, which is in register low + 1: the call, or its block and the call.
pub data ArrayEnds (h : Site) (around : Option Loop) (q : Callee) (low : ℕ) (own : Bool) (s : Spot) (j : ℕ) (b : Maybe)
    (n end : ℕ) : Type 0 where
  array_alone : (o : Operation) → b ≡ absent → SendsArray h low q own o → LineAt h n (line.Does o) → n + 1 ≡ end
      → ArrayEnds h around q low own s j b n end
  array_with : (e : CoreForm) (o : Operation) → b ≡ there e → IsAtOnce e
      → PassesBlock h low own (sending_of h.source q) 255 o → Covers h around (low + 1 + 1) s j e
      → Stands h n (gen (within h around) s (low + 1 + 1) e)
      → LineAt h (n + high (gen (within h around) s (low + 1 + 1) e)) (line.Does o)
      → n + high (gen (within h around) s (low + 1 + 1) e) + 1 ≡ end → ArrayEnds h around q low own s j b n end

-- The code of arguments that are gathered, from line n on.
pub record GatheredAt (h : Site) (around : Option Loop) (q : Callee) (low : ℕ) (own : Bool) (is : Items) (s : Spot) (j : ℕ)
    (b : Maybe) (n end : ℕ) : Type 0 where
  pub spread : has_splat is ≡ true
  pub room_behind : Room h (low + 1)
  pub covered : CoversElements h around (low + 1) (past_new (low + 1) s) j is
  pub makes : LineAt h n (line.Does (op.Array (low + 1) 0))
  pub code : Stands h (n + 1) (gather (within h around) (past_new (low + 1) s) (low + 1) is)
  pub ends : ArrayEnds h around q low own
      (past (past_new (low + 1) s) (gather (within h around) (past_new (low + 1) s) (low + 1) is)) (past_items j is) b
      (n + 1 + high (gather (within h around) (past_new (low + 1) s) (low + 1) is)) end

-- What stands behind the items of a call from line n on, where that spot is, in the code of that loop: the call, or its
-- block, whose first body has that number, and the call.
pub data CallEnds (h : Site) (around : Option Loop) (low : ℕ) (x : Name) (count : ℕ) (own : Bool) (s : Spot) (j : ℕ)
    (b : Maybe) (n end : ℕ) : Type 0 where
  alone : (o : Operation) → b ≡ absent → CallBy h low x count own o → LineAt h n (line.Does o) → n + 1 ≡ end
      → CallEnds h around low x count own s j b n end
  with_block : (e : CoreForm) → b ≡ there e → nat_lt 253 count ≡ false → Named h x
      → Covers h around (low + 1 + count) s j e → Stands h n (gen (within h around) s (low + 1 + count) e)
      → LineAt h (n + high (gen (within h around) s (low + 1 + count) e))
      (line.Does (block_sender own low (symbol h.context x) count))
      → n + high (gen (within h around) s (low + 1 + count) e) + 1 ≡ end
      → CallEnds h around low x count own s j b n end
  packed : nat_lt 253 count ≡ true → Named h x → Room h (low + 1) → LineAt h n (line.Does (op.Array (low + 1) count))
      → ArrayEnds h around (a_method x) low own (past s (does (op.Array (low + 1) count))) j b (n + 1) end
      → CallEnds h around low x count own s j b n end

-- The code of the arguments of a call and what stands behind it, from line n on.
pub data ArgumentsAt (h : Site) (around : Option Loop) (low : ℕ) (x : Name) (own : Bool) (is : Items) (s : Spot) (j : ℕ)
    (b : Maybe) (n end : ℕ) : Type 0 where
  one_by_one : CoversItems h around (low + 1) s j is → Stands h n (pass_in_registers (within h around) s (low + 1) is)
      → CallEnds h around low x (item_count is) own (past_items_code h around (low + 1) s is) (past_items j is) b
      (n + high (pass_in_registers (within h around) s (low + 1) is)) end
      → ArgumentsAt h around low x own is s j b n end
  gathered : Named h x → GatheredAt h around (a_method x) low own is s j b n end → ArgumentsAt h around low x own is s j b n end

-- The instructions of `super` without a block, from line n on: whether the method has one is asked, and it is written to
-- register r, or nil.
pub record AsksBlock (h : Site) (r n : ℕ) : Type 0 where
  pub defined : LineAt h n (line.Does (op.Defined r 6 0))
  pub skips : LineAt h (n + 1) (line.JumpNot r (n + 1 + 1 + 1))
  pub pushes : LineAt h (n + 1 + 1) (line.Does (op.BlkPush r))

-- What stands behind the items of what is sent so: that of a call by a name, or the call of the block of a method.
pub data ItemsEnd (h : Site) (around : Option Loop) (k : Sending) (low count : ℕ) (own : Bool) (s : Spot) (j : ℕ)
    (b : Maybe) (n end : ℕ) : Type 0 where
  by_call : (name : Name) → k ≡ by_name (number h.source name) → CallEnds h around low name count own s j b n end
      → ItemsEnd h around k low count own s j b n end
  by_yield : k ≡ to_proc → own ≡ false → b ≡ absent → nat_lt 253 count ≡ false → LineAt h n (line.Does (op.Call low count))
      → n + 1 ≡ end → ItemsEnd h around k low count own s j b n end
  by_block : (e : CoreForm) (o : Operation) → b ≡ there e → nat_lt 253 count ≡ false → PassesBlock h low own k count o
      → Covers h around (low + 1 + count) s j e → Stands h n (gen (within h around) s (low + 1 + count) e)
      → LineAt h (n + high (gen (within h around) s (low + 1 + count) e)) (line.Does o)
      → n + high (gen (within h around) s (low + 1 + count) e) + 1 ≡ end → ItemsEnd h around k low count own s j b n end
  by_own : k ≡ to_super → own ≡ true → b ≡ absent → nat_lt 253 count ≡ false → Room h (low + 1 + count)
      → AsksBlock h (low + 1 + count) n → LineAt h (n + 1 + 1 + 1) (line.Does (op.Super low count))
      → n + 1 + 1 + 1 + 1 ≡ end → ItemsEnd h around k low count own s j b n end
  by_array : (q : Callee) → k ≡ sending_of h.source q → nat_lt 253 count ≡ true → Room h (low + 1)
      → LineAt h n (line.Does (op.Array (low + 1) count))
      → ArrayEnds h around q low own (past s (does (op.Array (low + 1) count))) j b (n + 1) end
      → ItemsEnd h around k low count own s j b n end

-- what stands behind a test
abbrev pub after_test : Context → Spot → ℕ → CoreForm → Branches → CoreForm → Piece
after_test c s r b bs o =
    let q = gen c (behind s) r b in
    let further = behind (past (behind s) q) in
    let others = choose c further r bs (λ d t n. gen d t n o) in
    jump_not r further.line ⊕ q ⊕ jump (past further others).line ⊕ others

-- A loop, by the spots of its test and its body, and the number of the first body in it.
pub record LoopAt (h : Site) (r : ℕ) (j : ℕ) (t b : CoreForm) (end : ℕ) : Type 0 where
  pub loop : Option Loop
  -- a break leads to a jump behind it, and a next to the test or to a jump there, with the value in its register
  pub target : Loop
  pub is : loop ≡ Some target
  pub value : target.value ≡ r
  pub leads_out : LineAt h target.out (line.Jump end)
  pub test_spot : Spot
  pub body_spot : Spot
  pub room : Room h r
  pub test_covered : Covers h loop r test_spot j t
  pub body_covered : Covers h loop r body_spot (j + span t) b
  pub test : Stands h test_spot.line (gen (within h loop) test_spot r t)
  pub body : Stands h body_spot.line (gen (within h loop) body_spot r b)
  pub out : ℕ
  -- from the test to the body or out of the loop, and from the body to the test
  pub branches : (LineAt h (test_spot.line + high (gen (within h loop) test_spot r t)) (line.JumpNot r out)
      × (body_spot.line ≡ test_spot.line + high (gen (within h loop) test_spot r t) + 1))
      ⊎ (LineAt h (test_spot.line + high (gen (within h loop) test_spot r t)) (line.JumpIf r body_spot.line)
      × (out ≡ test_spot.line + high (gen (within h loop) test_spot r t) + 1))
  pub back : LineAt h (body_spot.line + high (gen (within h loop) body_spot r b)) (line.Jump test_spot.line)
      ⊎ (test_spot.line ≡ body_spot.line + high (gen (within h loop) body_spot r b))
  pub load : LineAt h out (line.Does (op.LoadNil r))
  pub round : (target.round ≡ test_spot.line) ⊎ LineAt h target.round (line.Jump test_spot.line)
  -- a next stays in what is around the loop
  pub stays : StaysIn h target.round
  pub ends : out + 1 ≡ end

-- Operands.

-- the last operand is assigned to a local
pub record LocalBehind (h : Site) (a : Action) (vs : List Value) (es : Forms) (low n r end : ℕ) : Type 0 where
  pub at : low ≡ r
  pub name : Local
  pub action : a ≡ assign name
  pub first : vs ≡ []
  pub last : es ≡ none
  pub known : Known h name
  pub move : LineAt h n (line.Does (op.Move (register h name) low))
  pub ends : n + 1 ≡ end

-- or to one of a body around
pub record OuterBehind (h : Site) (a : Action) (vs : List Value) (es : Forms) (low n r end : ℕ) : Type 0 where
  pub at : low ≡ r
  pub name : Local
  pub action : a ≡ assign name
  pub first : vs ≡ []
  pub last : es ≡ none
  pub between : ℕ
  pub level : (place_of h.context.scopes name).levels ≡ suc between
  pub there : 1 ≤ register h name
  pub sets : LineAt h n (line.Does (op.SetUpVar low (register h name) between))
  pub ends : n + 1 ≡ end

-- and to a global variable
pub record GlobalBehind (h : Site) (a : Action) (vs : List Value) (es : Forms) (low n r end : ℕ) : Type 0 where
  pub at : low ≡ r
  pub name : Name
  pub action : a ≡ assign_gvar name
  pub first : vs ≡ []
  pub last : es ≡ none
  pub named : Named h name
  pub sets : LineAt h n (line.Does (op.SetGv low (symbol h.context name)))
  pub ends : n + 1 ≡ end

-- the operands that are left, of which there is at most one
abbrev pub rest_code : Context → Spot → ℕ → Forms → Piece
rest_code c s r none = nothing
rest_code c s r (more e es) = gen c s r e

abbrev pub CoversRest : Site → Option Loop → ℕ → Spot → ℕ → Forms → Type 0
CoversRest h o r s j none = Unit {0}
CoversRest h o r s j (more e none) = Covers h o r s j e
CoversRest h o r s j (more e (more f es)) = ⊥

abbrev pub how_many : Forms → ℕ
how_many none = 0
how_many (more e es) = 1 + how_many es

-- an instruction does the action with the operands in registers from low on
pub record StrictBehind (h : Site) (l : List Registers) (j : ℕ) (a : Action) (vs : List Value) (es : Forms)
    (low n r end : ℕ) (around : Option Loop) : Type 0 where
  pub row : low + length vs ≡ r
  pub held : Holds l h.list low vs
  pub s : Spot
  pub here : s.line ≡ n
  pub room : Room h low
  pub covered : CoversRest h around (r + 1) s j es
  pub o : Operation
  pub by : strict_op h low a ≡ Some o
  pub ready : IsReady h a
  pub count : length vs + 1 + how_many es ≡ arity a
  pub code : Stands h n (rest_code (within h around) s (r + 1) es)
  pub calls : LineAt h (n + high (rest_code (within h around) s (r + 1) es)) (line.Does o)
  pub ends : n + high (rest_code (within h around) s (r + 1) es) + 1 ≡ end

-- the loop around is left with the value, or goes on with its next round
pub record BreakBehind (h : Site) (a : Action) (vs : List Value) (es : Forms) (low n r : ℕ) (around : Option Loop)
    : Type 0 where
  pub at : low ≡ r
  pub action : a ≡ leave_call
  pub first : vs ≡ []
  pub last : es ≡ none
  pub target : Loop
  pub inside : around ≡ Some target
  pub moves : LineAt h n (line.Does (op.Move target.value low))
  pub leaves : LineAt h (n + 1) (line.Leave target.out)

pub record NextBehind (h : Site) (a : Action) (vs : List Value) (es : Forms) (n : ℕ) (around : Option Loop) : Type 0 where
  pub action : a ≡ leave_round
  pub first : vs ≡ []
  pub last : es ≡ none
  pub target : Loop
  pub inside : around ≡ Some target
  pub leaves : LineAt h n (line.Leave target.round)

-- the value is that of the method
pub record ReturnBehind (h : Site) (a : Action) (vs : List Value) (es : Forms) (low n r : ℕ) : Type 0 where
  pub at : low ≡ r
  pub action : a ≡ leave_method
  pub first : vs ≡ []
  pub last : es ≡ none
  pub own : ends_itself h.context.kind_of ≡ true
  pub returns : LineAt h n (line.Does (op.Return low))

-- that of a next that is out of its loops is the value of the body
pub record RoundBehind (h : Site) (a : Action) (vs : List Value) (es : Forms) (low n r : ℕ) (around : Option Loop) : Type 0
  where
    pub at : low ≡ r
    pub action : a ≡ leave_round
    pub first : vs ≡ []
    pub last : es ≡ none
    pub outside : around ≡ None
    pub returns : LineAt h n (line.Does (op.Return low))

-- a break out of the loops of a body
abbrev pub IsOut : Far → Option Loop → Type 0
IsOut returns_far around = Unit {0}
IsOut breaks_far around = around ≡ None

-- the value goes to an activation further out
pub record FarBehind (h : Site) (a : Action) (vs : List Value) (es : Forms) (low n r : ℕ) (around : Option Loop) : Type 0
  where
    pub at : low ≡ r
    pub by : Far
    pub action : a ≡ action_of by
    pub first : vs ≡ []
    pub last : es ≡ none
    pub outside : IsOut by around
    pub leaves : LineAt h n (line.Does (leaving_op by low))

-- the singleton class of the value gets a method
pub record DefineBehind (h : Site) (a : Action) (vs : List Value) (es : Forms) (low n r end : ℕ) : Type 0 where
  pub at : low ≡ r
  pub name : Name
  pub body : ℕ
  pub action : a ≡ define_on name body
  pub first : vs ≡ []
  pub last : es ≡ none
  pub named : Named h name
  pub room : Room h low
  pub child : ℕ
  pub makes : get_or (body_at h.program h.body).children child 0 ≡ body
  pub opens : LineAt h n (line.Does (op.SClass low))
  pub defines : LineAt h (n + 1) (line.Does (op.Def low (symbol h.context name) child))
  pub ends : n + 1 + 1 ≡ end

-- what opens a class or a module with so many operands, whose body has that number
pub data Opens (h : Site) (low : ℕ) (a : Action) (body : ℕ) (o : Operation) (count : ℕ) : Type 0 where
  a_class : (x : Name) → a ≡ open_class x body → o ≡ op.Class low (symbol h.context x) → Named h x → count ≡ 2
      → Opens h low a body o count
  a_module : (x : Name) → a ≡ open_module x body → o ≡ op.Module low (symbol h.context x) → Named h x → count ≡ 1
      → Opens h low a body o count
  a_singleton : a ≡ open_singleton body → o ≡ op.SClass low → count ≡ 1 → Opens h low a body o count

-- the instruction that does, and the one behind it that runs the body
pub record OpensAt (h : Site) (a : Action) (count low n end : ℕ) : Type 0 where
  pub body : ℕ
  pub o : Operation
  pub by : Opens h low a body o count
  pub room : Room h low
  pub opens : LineAt h n (line.Does o)
  pub child : ℕ
  pub makes : get_or (body_at h.program h.body).children child 0 ≡ body
  pub kind : IsKind h.source body of_class
  pub runs : LineAt h (n + 1) (line.Does (op.Exec low child))
  pub ends : n + 1 + 1 ≡ end

-- The last operand of an action that opens a class or a module.
pub record OpenBehind (h : Site) (l : List Registers) (a : Action) (vs : List Value) (es : Forms) (low n r end : ℕ)
    : Type 0 where
  pub row : low + length vs ≡ r
  pub held : Holds l h.list low vs
  pub last : es ≡ none
  pub opening : OpensAt h a (length vs + 1) low n end

-- the scope of a class, which has no parent
pub record ScopeBehind (h : Site) (a : Action) (vs : List Value) (es : Forms) (low n r end : ℕ) : Type 0 where
  pub at : low ≡ r
  pub first : vs ≡ []
  pub last : es ≡ none
  pub further : Room h (low + 1)
  pub parent : LineAt h n (line.Does (op.LoadNil (low + 1)))
  pub opening : OpensAt h a 2 low (n + 1) end

-- and where it has one
pub record ParentBehind (h : Site) (j : ℕ) (a : Action) (vs : List Value) (es : Forms) (low n r end : ℕ)
    (around : Option Loop) : Type 0 where
  pub at : low ≡ r
  pub first : vs ≡ []
  pub e : CoreForm
  pub last : es ≡ more e none
  pub further : Room h (low + 1)
  pub s : Spot
  pub here : s.line ≡ n
  pub covered : Covers h around (low + 1) s j e
  pub code : Stands h n (gen (within h around) s (low + 1) e)
  pub opening : OpensAt h a 2 low (n + high (gen (within h around) s (low + 1) e)) end

pub data OperandBehind (h : Site) (l : List Registers) (j : ℕ) (a : Action) (vs : List Value) (es : Forms)
    (low n r end : ℕ) (around : Option Loop) : Type 0 where
  to_local : LocalBehind h a vs es low n r end → OperandBehind h l j a vs es low n r end around
  to_outer : OuterBehind h a vs es low n r end → OperandBehind h l j a vs es low n r end around
  to_global : GlobalBehind h a vs es low n r end → OperandBehind h l j a vs es low n r end around
  strict : StrictBehind h l j a vs es low n r end around → OperandBehind h l j a vs es low n r end around
  breaks : BreakBehind h a vs es low n r around → OperandBehind h l j a vs es low n r end around
  begins_round : NextBehind h a vs es n around → OperandBehind h l j a vs es low n r end around
  leaves_body : ReturnBehind h a vs es low n r → OperandBehind h l j a vs es low n r end around
  ends_body : RoundBehind h a vs es low n r around → OperandBehind h l j a vs es low n r end around
  goes_far : FarBehind h a vs es low n r around → OperandBehind h l j a vs es low n r end around
  defines_method : DefineBehind h a vs es low n r end → OperandBehind h l j a vs es low n r end around
  opens_space : OpenBehind h l a vs es low n r end → OperandBehind h l j a vs es low n r end around
  opens_without : ScopeBehind h a vs es low n r end → OperandBehind h l j a vs es low n r end around
  opens_under : ParentBehind h j a vs es low n r end around → OperandBehind h l j a vs es low n r end around

-- Arrays, Hashes and Strings: the object stands in register low, and gets what is awaited behind it.

abbrev pub push : Bool → ℕ → Operation
push false r = op.AryPush r 1
push true r = op.AryCat r

pub record ElementBehind (h : Site) (l : List Registers) (j : ℕ) (g : Gathering) (id : ObjId) (spread : Bool) (is : Items)
    (low n r end : ℕ) (around : Option Loop) : Type 0 where
  pub at : low + 1 ≡ r
  pub gathers : g ≡ an_array
  pub held : slot_at l h.list low ≡ V (Obj id)
  pub s : Spot
  pub here : s.line ≡ n + 1
  pub room : Room h low
  pub covered : CoversElements h around low s j is
  pub pushes : LineAt h n (line.Does (push spread low))
  pub code : Stands h (n + 1) (gather (within h around) s low is)
  pub ends : n + 1 + high (gather (within h around) s low is) ≡ end

-- so do the arguments of a call, whose Array stands behind what is called
pub record ArgumentBehind (h : Site) (l : List Registers) (j : ℕ) (g : Gathering) (id : ObjId) (spread : Bool) (is : Items)
    (low n r end : ℕ) (around : Option Loop) : Type 0 where
  pub at : low + 1 + 1 ≡ r
  pub sender : Sending
  pub recv : Value
  pub given : Maybe
  pub gathers : g ≡ arguments_of sender recv given
  pub callee : Callee
  pub sending : sender ≡ sending_of h.source callee
  pub own : Bool
  pub called : HoldsCall h l own low recv []
  pub held : slot_at l h.list (low + 1) ≡ V (Obj id)
  pub s : Spot
  pub here : s.line ≡ n + 1
  pub room : Room h low
  pub room_behind : Room h (low + 1)
  pub covered : CoversElements h around (low + 1) s j is
  pub pushes : LineAt h n (line.Does (push spread (low + 1)))
  pub code : Stands h (n + 1) (gather (within h around) s (low + 1) is)
  pub ends : ArrayEnds h around callee low own (past s (gather (within h around) s (low + 1) is)) (past_items j is) given
      (n + 1 + high (gather (within h around) s (low + 1) is)) end

pub data GatheringBehind (h : Site) (l : List Registers) (j : ℕ) (g : Gathering) (id : ObjId) (spread : Bool) (is : Items)
    (low n r end : ℕ) (around : Option Loop) : Type 0 where
  in_literal : ElementBehind h l j g id spread is low n r end around
      → GatheringBehind h l j g id spread is low n r end around
  in_call : ArgumentBehind h l j g id spread is low n r end around
      → GatheringBehind h l j g id spread is low n r end around

-- the value of the key is done, and then the pair is put
pub record KeyBehind (h : Site) (l : List Registers) (j : ℕ) (id : ObjId) (e : CoreForm) (ps : Pairs) (low n r end : ℕ)
    (around : Option Loop) : Type 0 where
  pub at : low + 1 ≡ r
  pub held : slot_at l h.list low ≡ V (Obj id)
  pub s : Spot
  pub here : s.line ≡ n
  pub room : Room h low
  pub value : Stands h n (gen (within h around) s (low + 1 + 1) e)
  pub next : Spot
  pub covered : Covers h around (low + 1 + 1) s j e × CoversPairs h around low next (j + span e) ps
  pub next_line : next.line ≡ n + high (gen (within h around) s (low + 1 + 1) e) + 1
  pub puts : LineAt h (n + high (gen (within h around) s (low + 1 + 1) e)) (line.Does (op.HashAdd low 1))
  pub code : Stands h next.line (gather_pairs (within h around) next low ps)
  pub ends : next.line + high (gather_pairs (within h around) next low ps) ≡ end

pub record PairBehind (h : Site) (l : List Registers) (j : ℕ) (id : ObjId) (u : Value) (ps : Pairs) (low n r end : ℕ) (around : Option Loop) : Type 0
  where
    pub at : low + 1 + 1 ≡ r
    pub held : slot_at l h.list low ≡ V (Obj id)
    pub key : slot_at l h.list (low + 1) ≡ V u
    pub s : Spot
    pub here : s.line ≡ n + 1
    pub room : Room h low
    pub covered : CoversPairs h around low s j ps
    pub puts : LineAt h n (line.Does (op.HashAdd low 1))
    pub code : Stands h (n + 1) (gather_pairs (within h around) s low ps)
    pub ends : n + 1 + high (gather_pairs (within h around) s low ps) ≡ end

pub record PieceBehind (h : Site) (l : List Registers) (j : ℕ) (id : ObjId) (es : Forms) (low n r end : ℕ) (around : Option Loop) : Type 0 where
  pub at : low + 1 ≡ r
  pub held : slot_at l h.list low ≡ V (Obj id)
  pub s : Spot
  pub here : s.line ≡ n + 1
  pub room : Room h low
  pub covered : CoversPieces h around low s j es
  pub adds : LineAt h n (line.Does (op.StrCat low))
  pub code : Stands h (n + 1) (gather_text (within h around) s low es)
  pub ends : n + 1 + high (gather_text (within h around) s low es) ≡ end

-- The code behind a part, from the line at which its value is awaited in register r to the end of its form, whose value
-- is to stand in register low.
abbrev pub Behind : Site → List Registers → Part → ℕ → ℕ → ℕ → ℕ → Option Loop → Type 0
Behind h l (operands j a vs es) low n r end around = OperandBehind h l j a vs es low n r end around
Behind h l (receiver j x is b) low n r end around = record {
  at : low ≡ r;
  s : Spot;
  here : s.line ≡ n;
  room : Room h low;
  arguments : ArgumentsAt h around low x false is s j b n end;
}
Behind h l (items j k recv vs is b) low n r end around = record {
  own : Bool;
  at : low + 1 + length vs ≡ r;
  s : Spot;
  here : s.line ≡ n;
  room : Room h low;
  covered : CoversItems h around (r + 1) s j is;
  held : HoldsCall h l own low recv vs;
  code : Stands h n (pass_in_registers (within h around) s (r + 1) is);
  ends : ItemsEnd h around k low (length vs + 1 + item_count is) own (past_items_code h around (r + 1) s is) (past_items j is) b
      (n + high (pass_in_registers (within h around) s (r + 1) is)) end;
}
Behind h l (block k recv vs) low n r end around = record {
  own : Bool;
  at : low + 1 + length vs ≡ r;
  room : Room h low;
  few : nat_lt 253 (length vs) ≡ false;
  sender : Operation;
  passes : PassesBlock h low own k (length vs) sender;
  held : HoldsCall h l own low recv vs;
  sends : LineAt h n (line.Does sender);
  ends : n + 1 ≡ end;
}
Behind h l (elements j g o s is) low n r end around = GatheringBehind h l j g o s is low n r end around
Behind h l (hash_key j o e ps) low n r end around = KeyBehind h l j o e ps low n r end around
Behind h l (hash_value j o u ps) low n r end around = PairBehind h l j o u ps low n r end around
Behind h l (pieces j o es) low n r end around = PieceBehind h l j o es low n r end around
Behind h l (rest j es) low n r end around = record {
  at : low ≡ r;
  s : Spot;
  here : s.line ≡ n;
  covered : CoversAll h around low s j es;
  code : Stands h n (others_in_turn (within h around) s low es);
  ends : n + high (others_in_turn (within h around) s low es) ≡ end;
}
Behind h l (test j b bs o) low n r end around = record {
  at : low ≡ r;
  s : Spot;
  here : s.line ≡ n;
  covered : Covers h around low (behind s) j b
      × CoversBranches h around low (past_branch h around low s b) (j + span b) bs
      × Covers h around low (past_choices h around low (past_branch h around low s b) bs) (past_branches (j + span b) bs) o;
  code : Stands h n (after_test (within h around) s low b bs o);
  ends : n + high (after_test (within h around) s low b bs o) ≡ end;
}
Behind h l chosen low n r end around = record {
  at : low ≡ r;
  -- behind an `else` alone there is no jump
  jump : LineAt h n (line.Jump end) ⊎ (n ≡ end);
}
Behind h l (and_then j e) low n r end around = record {
  at : low ≡ r;
  s : Spot;
  here : s.line ≡ n;
  covered : Covers h around low (behind s) j e;
  code : Stands h n (over (held.JumpNot low) s (λ t. gen (within h around) t low e));
  ends : n + high (over (held.JumpNot low) s (λ t. gen (within h around) t low e)) ≡ end;
}
Behind h l (or_else j e) low n r end around = record {
  at : low ≡ r;
  s : Spot;
  here : s.line ≡ n;
  covered : Covers h around low (behind s) j e;
  code : Stands h n (over (held.JumpIf low) s (λ t. gen (within h around) t low e));
  ends : n + high (over (held.JumpIf low) s (λ t. gen (within h around) t low e)) ≡ end;
}
Behind h l (loop_test j t b) low n r end around = record {
  at : low ≡ r;
  loop : LoopAt h low j t b end;
  inside : around ≡ loop.loop;
  here : loop.test_spot.line + high (gen (within h loop.loop) loop.test_spot low t) ≡ n;
}
Behind h l (loop_body j t b) low n r end around = record {
  at : low ≡ r;
  loop : LoopAt h low j t b end;
  inside : around ≡ loop.loop;
  here : loop.body_spot.line + high (gen (within h loop.loop) loop.body_spot low b) ≡ n;
}
Behind h l (rescued j b no_clauses absent) low n r end around = record { at : low ≡ r; ends : n ≡ end }
Behind h l (rescued j b no_clauses (there e)) low n r end around = record {
  at : low ≡ r;
  s : Spot;
  here : s.line ≡ n;
  covered : Covers h around low s (j + span b) e;
  code : Stands h n (gen (within h around) s low e);
  ends : n + high (gen (within h around) s low e) ≡ end;
}
Behind h l (rescued j b (clause es t d cs) o) low n r end around = ⊥
Behind h l (clause_class j e es t b cs q) low n r end around = ⊥
Behind h l (clause_target j e b q) low n r end around = ⊥
Behind h l (clause_body q) low n r end around = ⊥
Behind h l (ensured j e) low n r end around = ⊥

-- the loop around a part, and that around what waits behind it
abbrev pub IsAround : Stop → Option Loop → Option Loop → Type 0
IsAround passes around outer = outer ≡ around
IsAround (loops n t b) around outer = Unit {0}
IsAround (rescues n r) around outer = outer ≡ around
IsAround (assigns e r) around outer = outer ≡ around
IsAround (retries r) around outer = outer ≡ around
IsAround (ensures n e) around outer = outer ≡ around
