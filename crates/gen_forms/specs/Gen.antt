-- The code of a core form: it leaves its value in a register, and uses none below it (docs/formats.md has the
-- instructions, docs/core.md the forms).
use Rattle.std.specs.Prelude.{ℕ, ℤ, pos, negsuc, zero, suc, ◌+◌, ◌-◌, List, [], ◌∷◌, ◌++◌, length, map, replicate, position, nat_eq, neg_ℤ, codes, bytes_eq, nat_lt, int_le, Bool, true, false, ◌&&◌, ◌||◌, if◌then◌else◌, Option, Some, None}
use Rattle.std.specs.Ordering.{int_eq}
use Rattle.rb_syntax.specs.declared.core_form.DefinedKind.{DefinedKind}
use Rattle.rb_syntax.specs.declared.core_form.DefinedKind.TheVariants as asks
use Rattle.rite_code.specs.declared.operation.Operation.{Operation}
use Rattle.rite_code.specs.declared.operation.Operation.TheVariants as op
use Rattle.rite_code.specs.declared.operation.Parameters as entering
use Rattle.ir_core.specs.CoreForm.{Name, Local, Parameters, CoreForm, nil, truth, falsehood, self_ref, int, str, sym, local, own, exception, set_local, ivar, set_ivar, gvar, set_gvar, constant, top_constant, in_constant, set_constant, set_in_constant, array, hash, range, text, intern, seq, cond, and_form, or_form, while_form, call, yield_form, super_form, function, lambda, begin_form, return_form, break_form, next_form, retry, define, define_on, class_form, module_form, singleton_class, alias_form, undef_form, defined, item, rest_of, tail_of, Body, body, Maybe, absent, there, Forms, none, more, Items, no_items, plain, splat, Pairs, no_pairs, pair, Branches, no_branches, branch, Clauses, no_clauses, clause, Receiver, to, on_self, bare, form_of}
use Rattle.rite_code.specs.declared.code.Irep.{Irep}
use Rattle.rite_code.specs.declared.code.PoolItem.{PoolItem}
use Rattle.rite_code.specs.declared.code.PoolItem.TheVariants as pool
use Rattle.ir_counts.specs.declared.tally.Tally.{Tally}
use Rattle.ir_counts.specs.Counts.{tally, code_of}
use Rattle.ir_counts.specs.Tables.{item_count}
use Rattle.ir_walk.specs.Width.{width, has_splat}
use Rattle.scope_resolver.specs.declared.body_kind.BodyKind.TheVariants as kind
use Rattle.scope_resolver.specs.declared.body_kind.BodyKind.{BodyKind}
use Rattle.scope_resolver.specs.declared.place.Place.{Place}
use Rattle.scope_resolver.specs.Layout.{Scopes, slots_of, scopes_in, place_of, own_place}
use Rattle.gen_parts.specs.declared.emitter.Spot.{Spot}
use Rattle.gen_parts.specs.declared.assembling.Head.{Head}
use Rattle.gen_parts.specs.declared.emitter.Held.{Held}
use Rattle.gen_parts.specs.declared.emitter.Held.TheVariants as held
use Rattle.gen_parts.specs.Emission.{line_by}
use Rattle.gen_parts.specs.Pieces.{Piece, past, behind, nothing, ◌⊕◌, puts, does, jump, jump_if, jump_not, leave, makes, catches_in}
use Rattle.gen_parts.specs.Assembly.{assembled}
use Rattle.gen_forms.specs.declared.context.Loop.{Loop}
use Rattle.gen_forms.specs.declared.layout.Layout.{Layout}
use Rattle.gen_forms.specs.declared.calls.Passing.{Passing}
use Rattle.gen_forms.specs.declared.calls.Passing.TheVariants as passed

-- What is the same all over a body, and what stands around a form in it.
pub record Context : Type 0 where
  pub kind_of : BodyKind
  pub scopes : Scopes
  pub symbols : List Name
  pub integers : List ℤ
  pub texts : List (List ℕ)
  -- the innermost loop of the body
  pub loop : Option Loop
  -- the register with the exit of the innermost clause, and where its body begins
  pub caught : ℕ
  pub body_start : ℕ

abbrev pub in_loop : Context → Loop → Context
in_loop c l = record c { loop = Some l }

abbrev pub in_clause : Context → ℕ → ℕ → Context
in_clause c caught start = record c { caught = caught; body_start = start }

-- Names and constants.

-- a place, and the end where there is none
abbrev pub place_or : Option ℕ → ℕ → ℕ
place_or None end = end
place_or (Some place) end = place

abbrev pub symbol : Context → Name → ℕ
symbol c x = place_or (position (bytes_eq x) c.symbols) (length c.symbols)

abbrev pub text_entry : Context → List ℕ → ℕ
text_entry c t = length c.integers + place_or (position (bytes_eq t) c.texts) (length c.texts)

abbrev pub integer_entry : Context → ℤ → ℕ
integer_entry c z = place_or (position (int_eq z) c.integers) (length c.integers)

abbrev pub is_within : ℤ → ℤ → ℤ → Bool
is_within low z high = int_le low z && int_le z high

-- an integer in the shortest instruction
abbrev pub load_integer : Context → ℕ → ℤ → Operation
load_integer c r z =
    if is_within (pos 0) z (pos 255) then op.LoadI r (natural z)
    else (if is_within (negsuc 32767) z (pos 32767) then op.LoadI16 r z
    else (if is_within (negsuc 2147483647) z (pos 2147483647) then op.LoadI32 r z
    else op.LoadL r (integer_entry c z)))
  where
    natural : ℤ → ℕ
    natural (pos n) = n
    natural (negsuc n) = 0

-- Locals.

abbrev pub read : ℕ → Place → Operation
read r p = if nat_eq p.levels 0 then op.Move r p.register else op.GetUpVar r p.register (p.levels - 1)

abbrev pub write : ℕ → Place → Operation
write r p = if nat_eq p.levels 0 then op.Move p.register r else op.SetUpVar r p.register (p.levels - 1)

-- Calls: operators with an instruction of their own, with one operand and no block.

abbrev pub comparison : Name → ℕ → Option Operation
comparison x r =
    if bytes_eq x (codes "==") then Some (op.Eq r)
    else (if bytes_eq x (codes "<") then Some (op.Lt r)
    else (if bytes_eq x (codes "<=") then Some (op.Le r)
    else (if bytes_eq x (codes ">") then Some (op.Gt r)
    else (if bytes_eq x (codes ">=") then Some (op.Ge r)
    else None))))

abbrev pub operator : Name → ℕ → Option Operation
operator x r =
    if bytes_eq x (codes "+") then Some (op.Add r)
    else (if bytes_eq x (codes "-") then Some (op.Sub r)
    else (if bytes_eq x (codes "*") then Some (op.Mul r)
    else (if bytes_eq x (codes "/") then Some (op.Div r)
    else comparison x r)))

abbrev pub is_one_plain : Items → Bool
is_one_plain no_items = false
is_one_plain (plain a no_items) = true
is_one_plain (plain a (plain b is)) = false
is_one_plain (plain a (splat b is)) = false
is_one_plain (splat a is) = false

abbrev pub operates : Maybe → Receiver → Name → Items → ℕ → Option Operation
operates (there b) e x is r = None
operates absent (to e) x is r = if is_one_plain is then operator x r else None
operates absent on_self x is r = None
operates absent bare x is r = None

-- How arguments are passed: in registers, or in one Array where one is a splat or where they are more than 253. The
-- Array is made before the items where one is a splat, and of the items otherwise.

abbrev pub passing : Items → Passing
passing is =
    if has_splat is then passed.InArray
    else (if nat_lt 253 (item_count is) then passed.InArrayOf (item_count is) else passed.InRegisters (item_count is))

-- the operand of a call for so many arguments, and the registers that they take
abbrev pub count_operand : Passing → ℕ
count_operand (passed.InRegisters n) = n
count_operand (passed.InArrayOf n) = 255
count_operand passed.InArray = 255

abbrev pub registers_of : Passing → ℕ
registers_of (passed.InRegisters n) = n
registers_of (passed.InArrayOf n) = 1
registers_of passed.InArray = 1

abbrev pub is_given : Maybe → Bool
is_given absent = false
is_given (there e) = true

-- without and with a block
abbrev pub send : Bool → Receiver → Passing → ℕ → ℕ → Operation
send false (to e) p r x = op.Send r x (count_operand p)
send false on_self p r x = op.SSend r x (count_operand p)
send false bare p r x = op.SSend r x 254
send true (to e) p r x = op.SendB r x (count_operand p)
send true on_self p r x = op.SSendB r x (count_operand p)
send true bare p r x = op.SSendB r x (count_operand p)

-- an exit of a body of that kind
abbrev pub return_by : BodyKind → ℕ → Operation
return_by kind.Main r = op.Return r
return_by kind.Method r = op.Return r
return_by kind.Block r = op.ReturnBlk r
return_by kind.Class r = op.Return r

abbrev pub break_by : Option Loop → ℕ → Piece
break_by None r = does (op.Break r)
break_by (Some l) r = does (op.Move l.value r) ⊕ leave l.out

abbrev pub next_by : Option Loop → ℕ → Piece
next_by None r = does (op.Return r)
next_by (Some l) r = leave l.round

abbrev pub range_by : Bool → ℕ → Operation
range_by true r = op.RangeExc r
range_by false r = op.RangeInc r

-- What `defined?` gives without looking: a text.
abbrev pub told : DefinedKind → Option (List ℕ)
told asks.Expression = Some (codes "expression")
told asks.LocalVariable = Some (codes "local-variable")
told asks.SelfReference = Some (codes "self")
told asks.Assignment = Some (codes "assignment")
told asks.InstanceVariable = None
told asks.GlobalVariable = None
told asks.Constant = None
told asks.Method = None
told asks.Yield = None
told asks.Super = None

-- Otherwise the second operand of DEFINED, without and with a value to look in, and whether it has a name.
abbrev pub question : DefinedKind → Bool → ℕ
question asks.InstanceVariable has = 0
question asks.GlobalVariable has = 1
question asks.Constant false = 2
question asks.Constant true = 3
question asks.Method false = 4
question asks.Method true = 5
question asks.Yield has = 6
question asks.Super has = 7
question asks.Expression has = 0
question asks.LocalVariable has = 0
question asks.SelfReference has = 0
question asks.Assignment has = 0

abbrev pub asked_symbol : Context → DefinedKind → Name → ℕ
asked_symbol c asks.InstanceVariable x = symbol c x
asked_symbol c asks.GlobalVariable x = symbol c x
asked_symbol c asks.Constant x = symbol c x
asked_symbol c asks.Method x = symbol c x
asked_symbol c asks.Yield x = 0
asked_symbol c asks.Super x = 0
asked_symbol c asks.Expression x = 0
asked_symbol c asks.LocalVariable x = 0
asked_symbol c asks.SelfReference x = 0
asked_symbol c asks.Assignment x = 0

unfoldable pub ask : Context → DefinedKind → Name → Bool → ℕ → Option (List ℕ) → Operation
ask c k x has r None = op.Defined r (question k has) (asked_symbol c k x)
ask c k x has r (Some t) = op.String r (text_entry c t)

-- Bodies.

-- the register after those of self, of the locals and of the hidden locals
abbrev pub first_register : BodyKind → Body → Tally → ℕ
first_register k b t = 1 + length (slots_of k b) + t.hidden

-- whether the jumps of a body with so many registers are wide: the count of its bytes passes what a narrow jump reaches, or
-- there are more registers than a byte tells apart
abbrev pub has_wide_jumps : Body → Tally → ℕ → Bool
has_wide_jumps b t registers = nat_lt 32767 (code_of b t) || nat_lt 256 registers

-- what stands around the form of a body, by the scopes that it sees
abbrev pub seeing : BodyKind → Scopes → Tally → Context
seeing k seen t = record {
  kind_of = k;
  scopes = seen;
  symbols = t.symbols;
  integers = t.integers;
  texts = t.texts;
  loop = None;
  caught = 0;
  body_start = 0;
}

abbrev pub opening : BodyKind → Body → Scopes → Tally → Context
opening k b around t = seeing k (scopes_in k b around) t

abbrev pub head : BodyKind → Body → Tally → ℕ → Head
head k b t registers = record {
  locals = 1 + length (slots_of k b);
  registers = registers;
  wide = has_wide_jumps b t registers;
}

-- the layout of a body whose form takes so many registers
abbrev pub laid_out : BodyKind → Body → Tally → ℕ → Layout
laid_out k b t registers = record {
  first = first_register k b t;
  head = head k b t (first_register k b t + registers);
}

abbrev pub layout : BodyKind → Body → Tally → Layout
layout k b t = laid_out k b t (width (form_of b))

abbrev pub pool_of : Tally → List PoolItem
pool_of t = map pool.Int t.integers ++ map pool.Text t.texts

abbrev pub is_there : List Local → Bool
is_there [] = false
is_there (x ∷ xs) = true

abbrev pub parameters : Parameters → entering.Parameters
parameters p = record {
  required = length p.required;
  optional = length p.optional;
  rest = is_there p.rest;
  post = length p.post;
  block = is_there p.block;
  spare = false;
}

abbrev pub ends : BodyKind → ℕ → Operation
ends kind.Main r = op.Stop
ends kind.Method r = op.Return r
ends kind.Block r = op.Return r
ends kind.Class r = op.Return r

-- where the code of a body with that number begins
abbrev pub first_spot : ℕ → Spot
first_spot n = record { line = 0; child = 0; body = n + 1 }

-- so many lines further
abbrev pub ahead : Spot → ℕ → Spot
ahead s n = record { line = s.line + n; child = s.child; body = s.body }

-- a jump to each of these lines
abbrev pub jumps_to : List ℕ → Piece
jumps_to [] = nothing
jumps_to (n ∷ ns) = jump n ⊕ jumps_to ns

-- A jump over what comes behind it, which is given by where it begins.
abbrev pub over : Held → Spot → (Spot → Piece) → Piece
over h s next = let p = next (behind s) in puts (line_by h (past (behind s) p).line) ⊕ p

-- the block of the method around, or nil
abbrev pub own_block : Spot → ℕ → Piece
own_block s r = let p = does (op.Defined r 6 0) in p ⊕ over (held.JumpNot r) (past s p) (λ t. does (op.BlkPush r))

-- The code of a part, wherever it stands.
abbrev pub Code : Type 0
Code = Context → Spot → ℕ → Piece

-- Loops: of the test and the body.

-- The instruction behind the first jumps out of the loop; a break leads there.
abbrev pub loop_test_first : Code → Code → Code
loop_test_first t b c s r =
    let start = behind (behind s) in
    let inside = in_loop c (record { value = r; out = (behind s).line; round = start.line }) in
    jump start.line ⊕ over held.Jump (behind s) (λ u.
    let p = t inside u r in
    (p ⊕ over (held.JumpNot r) (past u p) (λ v. b inside v r ⊕ jump start.line)) ⊕ does (op.LoadNil r))

-- The two behind the first jump out of the loop and to its test; a break and a next lead there.
abbrev pub loop_body_first : Code → Code → Code
loop_body_first t b c s r =
    let round = behind (behind s) in
    let inside = in_loop c (record { value = r; out = (behind s).line; round = round.line }) in
    jump (behind round).line ⊕ over held.Jump (behind s) (λ u.
    let q = over held.Jump u (λ v. b inside v r) in
    (q ⊕ t inside (past u q) r ⊕ jump_if r (behind u).line) ⊕ does (op.LoadNil r))

abbrev pub loop : Bool → Code → Code → Code
loop true t b = loop_body_first t b
loop false t b = loop_test_first t b

-- Calls: of the items one a register, and of those that a new Array gets.

abbrev pub new_array : Code → Code
new_array gathered c s r = let p = does (op.Array r 0) in p ⊕ gathered c (past s p) r

-- the arguments of a call whose receiver is in register r
abbrev pub passed_by : Passing → Code → Code → Code
passed_by (passed.InRegisters n) each gathered c s r = each c s (r + 1)
passed_by (passed.InArrayOf n) each gathered c s r = each c s (r + 1) ⊕ does (op.Array (r + 1) n)
passed_by passed.InArray each gathered c s r = new_array gathered c s (r + 1)

-- a call by the instruction of an operator, and by a send: of the receiver, the items, the arguments and the block
abbrev pub called_by : Option Operation → Code → Code → Code → Code → ℕ → Operation → Code
called_by (Some o) receiver each arguments block n send c s r =
    let p = receiver c s r in
    p ⊕ each c (past s p) (r + 1) ⊕ does o
called_by None receiver each arguments block n send c s r =
    let p = receiver c s r in
    let q = p ⊕ arguments c (past s p) r in
    q ⊕ block c (past s q) (r + 1 + n) ⊕ does send

-- A body with clauses, with what is done where nothing was raised, and an ensure part. The exit that came, if one did,
-- is kept in the register behind that of the value.

abbrev pub body_then : Code → Code → Code
body_then b o c s r = let p = b c s r in p ⊕ o c (past s p) r

abbrev pub rescued_by : Bool → Code → Code → Code → Code
rescued_by false b o handlers c s r = body_then b o c s r
rescued_by true b o handlers c s r =
    let q = body_then b o c s r in
    catches_in true s.line (past s (b c s r)).line (behind (past s q)).line ⊕ q ⊕ over held.Jump (past s q) (λ u.
    let x = does (op.Except (r + 1)) in
    x ⊕ handlers (in_clause c (r + 1) s.line) (past u x) r)

abbrev pub ensured_by : Bool → Code → Code → Code
ensured_by false p e c s r = p c s r
ensured_by true p e c s r =
    let start = (past s (p c s r)).line in
    let q = p c s r ⊕ does (op.Except (r + 1)) in
    catches_in false s.line start start ⊕ q ⊕ e c (past s q) (r + 2) ⊕ does (op.RaiseIf (r + 1))

abbrev pub has_clauses : Clauses → Bool
has_clauses no_clauses = false
has_clauses (clause es t d cs) = true

-- a class that a clause names, and whether it takes the exception; without classes it is StandardError
abbrev pub test_of : Code → Code
test_of e c s r = e c s (r + 2) ⊕ does (op.Rescue (r + 1) (r + 2))

abbrev pub test_standard : ℕ → Piece
test_standard r = does (op.OClass (r + 2) 1) ⊕ does (op.Rescue (r + 1) (r + 2))

-- Bodies.

-- the jumps to defaults and to what comes behind them where there are none: all lead there
abbrev pub without_forms : Spot → ℕ → ℕ → Piece
without_forms s r n = jumps_to (replicate n (ahead s n).line) ⊕ does (op.LoadNil r)

-- the form of a body where no parameter is optional, and else with its jumps
abbrev pub by_defaults : ℕ → Code → Code → Code
by_defaults zero straight jumping = straight
by_defaults (suc o) straight jumping = jumping

-- the code of a body: ENTER where it has parameters, and its form
abbrev pub entered_by : BodyKind → Parameters → Code → Code → Code
entered_by kind.Main ps straight jumping c s r = straight c s r
entered_by kind.Class ps straight jumping c s r = straight c s r
entered_by kind.Method ps straight jumping c s r =
    does (op.Enter (parameters ps)) ⊕ by_defaults (length ps.optional) straight jumping c (behind s) r
entered_by kind.Block ps straight jumping c s r =
    does (op.Enter (parameters ps)) ⊕ by_defaults (length ps.optional) straight jumping c (behind s) r

abbrev mutual
  -- the code of a form that begins at that spot and leaves its value in register r
  pub gen : Context → Spot → ℕ → CoreForm → Piece
  gen c s r nil = does (op.LoadNil r)
  gen c s r truth = does (op.LoadT r)
  gen c s r falsehood = does (op.LoadF r)
  gen c s r self_ref = does (op.LoadSelf r)
  gen c s r (int z) = does (load_integer c r z)
  gen c s r (str t) = does (op.String r (text_entry c t))
  gen c s r (sym x) = does (op.LoadSym r (symbol c x))
  gen c s r (local x) = does (read r (place_of c.scopes x))
  gen c s r (own x) = does (read r (own_place c.scopes x))
  gen c s r exception = does (op.Move r c.caught)
  gen c s r (set_local x e) = gen c s r e ⊕ does (write r (place_of c.scopes x))
  gen c s r (ivar x) = does (op.GetIv r (symbol c x))
  gen c s r (set_ivar x e) = gen c s r e ⊕ does (op.SetIv r (symbol c x))
  gen c s r (gvar x) = does (op.GetGv r (symbol c x))
  gen c s r (set_gvar x e) = gen c s r e ⊕ does (op.SetGv r (symbol c x))
  gen c s r (constant x) = does (op.GetConst r (symbol c x))
  gen c s r (top_constant x) = does (op.OClass r 0) ⊕ does (op.GetMCnst r (symbol c x))
  gen c s r (in_constant e x) = gen c s r e ⊕ does (op.GetMCnst r (symbol c x))
  gen c s r (set_constant x e) = gen c s r e ⊕ does (op.SetConst r (symbol c x))
  gen c s r (set_in_constant e x v) =
      let p = gen c s r e in
      (p ⊕ gen c (past s p) (r + 1) v) ⊕ does (op.SetMCnst r (symbol c x))
  gen c s r (array is) = new_array (λ d t n. gather d t n is) c s r
  gen c s r (hash ps) = let p = does (op.Hash r 0) in p ⊕ gather_pairs c (past s p) r ps
  gen c s r (range a b x) =
      let p = gen c s r a in
      (p ⊕ gen c (past s p) (r + 1) b) ⊕ does (range_by x r)
  gen c s r (text es) = let p = does (op.String r (text_entry c [])) in p ⊕ gather_text c (past s p) r es
  gen c s r (intern e) = gen c s r e ⊕ does (op.Intern r)
  gen c s r (seq es) = in_turn c s r es
  gen c s r (cond bs o) = choose c s r bs (λ d t n. gen d t n o)
  gen c s r (and_form a b) = let p = gen c s r a in p ⊕ over (held.JumpNot r) (past s p) (λ t. gen c t r b)
  gen c s r (or_form a b) = let p = gen c s r a in p ⊕ over (held.JumpIf r) (past s p) (λ t. gen c t r b)
  gen c s r (while_form first t b) = loop first (λ d u n. gen d u n t) (λ d u n. gen d u n b) c s r
  gen c s r (call e x is m) =
      called_by (operates m e x is r) (λ d t n. gen_receiver d t n e) (λ d t n. pass_in_registers d t n is)
      (passed_by (passing is) (λ d t n. pass_in_registers d t n is) (λ d t n. gather d t n is))
      (λ d t n. gen_maybe d t n m) (registers_of (passing is)) (send (is_given m) e (passing is) r (symbol c x)) c s r
  gen c s r (yield_form is) =
      let p = does (op.BlkPush r) in
      p ⊕ passed_by (passing is) (λ d t n. pass_in_registers d t n is) (λ d t n. gather d t n is) c (past s p) r
      ⊕ does (op.Call r (count_operand (passing is)))
  gen c s r (super_form is m) =
      let p = passed_by (passing is) (λ d t n. pass_in_registers d t n is) (λ d t n. gather d t n is) c s r in
      p ⊕ super_block c (past s p) (r + 1 + registers_of (passing is)) m
      ⊕ does (op.Super r (count_operand (passing is)))
  gen c s r (function f) = makes (op.Block r s.child) s.body (body_code kind.Block c.scopes s.body f)
  gen c s r (lambda f) = makes (op.Lambda r s.child) s.body (body_code kind.Block c.scopes s.body f)
  gen c s r (begin_form b cs o e) =
      ensured_by (is_given e)
      (rescued_by (has_clauses cs) (λ d t n. gen d t n b) (λ d t n. gen_maybe d t n o) (λ d t n. handle d t n cs))
      (λ d t n. gen_maybe d t n e) c s r
  gen c s r (return_form e) = gen c s r e ⊕ does (return_by c.kind_of r)
  gen c s r (break_form e) = gen c s r e ⊕ break_by c.loop r
  gen c s r (next_form e) = gen c s r e ⊕ next_by c.loop r
  gen c s r retry = leave c.body_start
  gen c s r (define x f) =
      let p = does (op.TClass r) in
      let t = past s p in
      p ⊕ makes (op.Def r (symbol c x) t.child) t.body (body_code kind.Method c.scopes t.body f)
  gen c s r (define_on e x f) =
      let p = gen c s r e ⊕ does (op.SClass r) in
      let t = past s p in
      p ⊕ makes (op.Def r (symbol c x) t.child) t.body (body_code kind.Method c.scopes t.body f)
  gen c s r (class_form scope x parent f) =
      let p = gen_scope c s r scope in
      let q = p ⊕ gen_parent c (past s p) (r + 1) parent ⊕ does (op.Class r (symbol c x)) in
      let t = past s q in
      q ⊕ makes (op.Exec r t.child) t.body (body_code kind.Class c.scopes t.body f)
  gen c s r (module_form scope x f) =
      let p = gen_scope c s r scope ⊕ does (op.Module r (symbol c x)) in
      let t = past s p in
      p ⊕ makes (op.Exec r t.child) t.body (body_code kind.Class c.scopes t.body f)
  gen c s r (singleton_class e f) =
      let p = gen c s r e ⊕ does (op.SClass r) in
      let t = past s p in
      p ⊕ makes (op.Exec r t.child) t.body (body_code kind.Class c.scopes t.body f)
  gen c s r (alias_form new old) = does (op.Alias (symbol c new) (symbol c old)) ⊕ does (op.LoadNil r)
  gen c s r (undef_form x) = does (op.Undef (symbol c x)) ⊕ does (op.LoadNil r)
  gen c s r (defined k x absent) = does (ask c k x false r (told k))
  gen c s r (defined k x (there e)) = gen c s r e ⊕ does (ask c k x true r (told k))
  gen c s r (item e k) = gen c s r e ⊕ does (op.ARef r r k)
  gen c s r (rest_of e from post) = gen c s r e ⊕ does (op.APost r from (pos post))
  gen c s r (tail_of e from count) = gen c s r e ⊕ does (op.APost r from (neg_ℤ (pos count)))

  -- the Array in register r gets each item
  pub gather : Context → Spot → ℕ → Items → Piece
  gather c s r no_items = nothing
  gather c s r (plain e is) = let p = gen c s (r + 1) e ⊕ does (op.AryPush r 1) in p ⊕ gather c (past s p) r is
  gather c s r (splat e is) = let p = gen c s (r + 1) e ⊕ does (op.AryCat r) in p ⊕ gather c (past s p) r is

  -- the Hash in register r gets each pair
  pub gather_pairs : Context → Spot → ℕ → Pairs → Piece
  gather_pairs c s r no_pairs = nothing
  gather_pairs c s r (pair a b ps) =
      let p = gen c s (r + 1) a in
      let q = (p ⊕ gen c (past s p) (r + 1 + 1) b) ⊕ does (op.HashAdd r 1) in
      q ⊕ gather_pairs c (past s q) r ps

  -- the String in register r gets the bytes of each value
  pub gather_text : Context → Spot → ℕ → Forms → Piece
  gather_text c s r none = nothing
  gather_text c s r (more e es) =
      let p = gen c s (r + 1) e ⊕ does (op.StrCat r) in
      p ⊕ gather_text c (past s p) r es

  -- forms in turn, and the value of the last; nil where there is none
  pub in_turn : Context → Spot → ℕ → Forms → Piece
  in_turn c s r none = does (op.LoadNil r)
  in_turn c s r (more e es) = let p = gen c s r e in p ⊕ others_in_turn c (past s p) r es

  pub others_in_turn : Context → Spot → ℕ → Forms → Piece
  others_in_turn c s r none = nothing
  others_in_turn c s r (more e es) = let p = gen c s r e in p ⊕ others_in_turn c (past s p) r es

  -- the first branch whose test is true, and else the last code; each leads behind that
  pub choose : Context → Spot → ℕ → Branches → Code → Piece
  choose c s r no_branches o = o c s r
  choose c s r (branch t b bs) o =
      let p = gen c s r t in
      let body = behind (past s p) in
      let q = gen c body r b in
      let further = behind (past body q) in
      let others = choose c further r bs o in
      p ⊕ jump_not r further.line ⊕ q ⊕ jump (past further others).line ⊕ others

  -- a call on self gets self by its own instruction
  pub gen_receiver : Context → Spot → ℕ → Receiver → Piece
  gen_receiver c s r (to e) = gen c s r e
  gen_receiver c s r on_self = nothing
  gen_receiver c s r bare = nothing

  -- items, one a register
  pub pass_in_registers : Context → Spot → ℕ → Items → Piece
  pass_in_registers c s r no_items = nothing
  pass_in_registers c s r (plain e is) = let p = gen c s r e in p ⊕ pass_in_registers c (past s p) (r + 1) is
  pass_in_registers c s r (splat e is) = let p = gen c s r e in p ⊕ pass_in_registers c (past s p) (r + 1) is

  pub gen_maybe : Context → Spot → ℕ → Maybe → Piece
  gen_maybe c s r absent = nothing
  gen_maybe c s r (there e) = gen c s r e

  -- without a block super passes that of the method, or nil
  pub super_block : Context → Spot → ℕ → Maybe → Piece
  super_block c s r absent = own_block s r
  super_block c s r (there b) = gen c s r b

  pub gen_scope : Context → Spot → ℕ → Maybe → Piece
  gen_scope c s r absent = does (op.TClass r)
  gen_scope c s r (there e) = gen c s r e

  pub gen_parent : Context → Spot → ℕ → Maybe → Piece
  gen_parent c s r absent = does (op.LoadNil r)
  gen_parent c s r (there e) = gen c s r e

  -- the first clause that takes the exception; where none does it goes on
  pub handle : Context → Spot → ℕ → Clauses → Piece
  handle c s r no_clauses = does (op.RaiseIf (r + 1))
  handle c s r (clause es t d cs) =
      let tests = test_classes c s r es in
      let taken = behind (past s tests) in
      let p = gen_maybe c taken (r + 2) t in
      let q = p ⊕ gen c (past taken p) r d in
      let further = behind (past taken q) in
      let others = handle c further r cs in
      tests ⊕ jump_not (r + 2) further.line ⊕ q ⊕ jump (past further others).line ⊕ others

  -- the classes of a clause: whether the exception is of one of them
  pub test_classes : Context → Spot → ℕ → Forms → Piece
  test_classes c s r none = test_standard r
  test_classes c s r (more e es) =
      let p = test_of (λ d t n. gen d t n e) c s r in
      p ⊕ test_others c (past s p) r es

  -- where the class before takes the exception those behind it aren't looked at
  pub test_others : Context → Spot → ℕ → Forms → Piece
  test_others c s r none = nothing
  test_others c s r (more e es) = over (held.JumpIf (r + 2)) s (λ u.
      let p = test_of (λ d t n. gen d t n e) c u r in
      p ⊕ test_others c (past u p) r es)

  -- where each of so many forms begins, and past the last of them where they end
  pub starts : Context → Spot → ℕ → ℕ → Forms → List ℕ
  starts c s r n none = replicate n s.line
  starts c s r zero (more e es) = []
  starts c s r (suc n) (more e es) = s.line ∷ starts c (past s (gen c s r e)) r n es

  -- A form that begins with defaults is a list: jumps to where each of them begins and to what comes behind them, so
  -- many in all, and the forms of the list.
  pub with_jumps : Context → Spot → ℕ → ℕ → CoreForm → Piece
  with_jumps c s r n (seq es) = jumps_to (starts c (ahead s n) r n es) ⊕ in_turn c (ahead s n) r es
  with_jumps c s r n _ = without_forms s r n

  -- The code of a body with that number, and that of those in it.
  pub body_code : BodyKind → Scopes → ℕ → Body → List Irep
  body_code k around n (body ps ls f) =
      let t = tally (body ps ls f) in
      let l = layout k (body ps ls f) t in
      assembled l.head (pool_of t) t.symbols
      (entered_by k ps (λ d u m. gen d u m f) (λ d u m. with_jumps d u m (length ps.optional + 1) f)
      (opening k (body ps ls f) around t) (first_spot n) l.first ⊕ does (ends k l.first))
