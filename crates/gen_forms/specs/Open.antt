-- Parts of the code of a form, as code puts them together: jumps out of them lead to a line that is given.
use Rattle.std.specs.Prelude.{ℕ, zero, suc, ◌+◌, List, [], ◌∷◌, length, Bool, Option, Some, None}
use Rattle.rite_code.specs.declared.operation.Operation.{Operation}
use Rattle.rite_code.specs.declared.operation.Operation.TheVariants as op
use Rattle.rite_code.specs.declared.code.Irep.{Irep}
use Rattle.ir_core.specs.CoreForm.{Name, CoreForm, seq, Body, body, Items, Maybe, Forms, none, more, Branches, no_branches, branch, Clauses, no_clauses, clause}
use Rattle.scope_resolver.specs.declared.body_kind.BodyKind.{BodyKind}
use Rattle.scope_resolver.specs.declared.body_kind.BodyKind.TheVariants as kind
use Rattle.scope_resolver.specs.Layout.{Scopes}
use Rattle.gen_parts.specs.declared.emitter.Spot.{Spot}
use Rattle.gen_parts.specs.declared.emitter.Held.{Held}
use Rattle.gen_parts.specs.declared.emitter.Held.TheVariants as held
use Rattle.gen_parts.specs.Pieces.{Piece, past, behind, nothing, ◌⊕◌, does, jump, jump_if, jump_not, makes}
use Rattle.gen_forms.specs.declared.calls.Passing.{Passing}
use Rattle.gen_forms.specs.declared.bodies.Maker.{Maker}
use Rattle.gen_forms.specs.declared.bodies.Maker.TheVariants as maker
use Rattle.gen_forms.specs.Gen.{Context, gen, gen_maybe, over, pass_in_registers, gather, passed_by, handle, has_clauses, body_then, rescued_by, test_of, test_classes, symbol, with_jumps, by_defaults, entered_by, first_spot, ends, body_code}

-- two values in neighbouring registers
abbrev pub gen_two : Context → Spot → ℕ → CoreForm → CoreForm → Piece
gen_two c s r a b = let p = gen c s r a in p ⊕ gen c (past s p) (r + 1) b

abbrev pub then_nil : ℕ → Operation → Piece
then_nil r o = does o ⊕ does (op.LoadNil r)

-- the first form, and the second unless the jump over it is taken
abbrev pub first_or_second : Held → Context → Spot → ℕ → CoreForm → CoreForm → Piece
first_or_second h c s r a b = let p = gen c s r a in p ⊕ over h (past s p) (λ t. gen c t r b)

-- the Hash in a register gets a pair
abbrev pub gathered_pair : Context → Spot → ℕ → CoreForm → CoreForm → Piece
gathered_pair c s r a b = gen_two c s (r + 1) a b ⊕ does (op.HashAdd r 1)

-- the arguments of a call whose receiver is in the register
abbrev pub pass : Context → Spot → ℕ → Items → Passing → Piece
pass c s r is p = passed_by p (λ d t n. pass_in_registers d t n is) (λ d t n. gather d t n is) c s r

-- the arguments of a call without a block, and its instruction: that of an operator or a send
abbrev pub called : Context → Spot → ℕ → Option Operation → Items → Passing → Operation → Piece
called c s r (Some o) is p send = pass_in_registers c s (r + 1) is ⊕ does o
called c s r None is p send = pass c s r is p ⊕ does send

-- Branches.

abbrev pub branch_body : Context → Spot → ℕ → CoreForm → Spot
branch_body c s r t = behind (past s (gen c s r t))

-- the jump out of a branch
abbrev pub branch_out : Context → Spot → ℕ → CoreForm → CoreForm → Spot
branch_out c s r t b = past (branch_body c s r t) (gen c (branch_body c s r t) r b)

abbrev pub branch_part : Context → Spot → ℕ → CoreForm → CoreForm → Piece
branch_part c s r t b =
    gen c s r t ⊕ jump_not r (behind (branch_out c s r t b)).line ⊕ gen c (branch_body c s r t) r b

abbrev pub branch_to : ℕ → Context → Spot → ℕ → CoreForm → CoreForm → Piece
branch_to out c s r t b = branch_part c s r t b ⊕ jump out

abbrev pub branches_to : ℕ → Context → Spot → ℕ → Branches → Piece
branches_to out c s r no_branches = nothing
branches_to out c s r (branch t b bs) =
    branch_to out c s r t b ⊕ branches_to out c (behind (branch_out c s r t b)) r bs

abbrev pub branch_outs : Context → Spot → ℕ → Branches → List ℕ
branch_outs c s r no_branches = []
branch_outs c s r (branch t b bs) =
    (branch_out c s r t b).line ∷ branch_outs c (behind (branch_out c s r t b)) r bs

-- Loops.

-- a test, and where it is true a body and a jump to a line
abbrev pub test_and_body : Context → Spot → ℕ → CoreForm → CoreForm → ℕ → Piece
test_and_body c s r t b to =
    let p = gen c s r t in
    p ⊕ over (held.JumpNot r) (past s p) (λ v. gen c v r b ⊕ jump to)

-- a jump over a body to the test behind it, and where it is true a jump to the body
abbrev pub body_and_test : Context → Spot → ℕ → CoreForm → CoreForm → Piece
body_and_test c s r t b =
    let q = over held.Jump s (λ v. gen c v r b) in
    q ⊕ gen c (past s q) r t ⊕ jump_if r (behind s).line

-- Clauses.

-- a class that a clause names, and whether it takes the exception
abbrev pub test_one : Context → Spot → ℕ → CoreForm → Piece
test_one c s r e = test_of (λ d t n. gen d t n e) c s r

-- the classes behind the first
abbrev pub tests_to : ℕ → Context → Spot → ℕ → Forms → Piece
tests_to out c s r none = nothing
tests_to out c s r (more e es) =
    jump_if (r + 2) out ⊕ test_one c (behind s) r e
    ⊕ tests_to out c (past (behind s) (test_one c (behind s) r e)) r es

abbrev pub test_outs : Context → Spot → ℕ → Forms → List ℕ
test_outs c s r none = []
test_outs c s r (more e es) = s.line ∷ test_outs c (past (behind s) (test_one c (behind s) r e)) r es

abbrev pub taken : Context → Spot → ℕ → Forms → Spot
taken c s r es = behind (past s (test_classes c s r es))

-- the target and the body of a clause
abbrev pub clause_body : Context → Spot → ℕ → Maybe → CoreForm → Piece
clause_body c s r t d = gen_maybe c s (r + 2) t ⊕ gen c (past s (gen_maybe c s (r + 2) t)) r d

abbrev pub clause_out : Context → Spot → ℕ → Forms → Maybe → CoreForm → Spot
clause_out c s r es t d = past (taken c s r es) (clause_body c (taken c s r es) r t d)

abbrev pub clause_part : Context → Spot → ℕ → Forms → Maybe → CoreForm → Piece
clause_part c s r es t d =
    test_classes c s r es ⊕ jump_not (r + 2) (behind (clause_out c s r es t d)).line
    ⊕ clause_body c (taken c s r es) r t d

abbrev pub clause_to : ℕ → Context → Spot → ℕ → Forms → Maybe → CoreForm → Piece
clause_to out c s r es t d = clause_part c s r es t d ⊕ jump out

abbrev pub clauses_to : ℕ → Context → Spot → ℕ → Clauses → Piece
clauses_to out c s r no_clauses = nothing
clauses_to out c s r (clause es t d cs) =
    clause_to out c s r es t d ⊕ clauses_to out c (behind (clause_out c s r es t d)) r cs

abbrev pub clause_outs : Context → Spot → ℕ → Clauses → List ℕ
clause_outs c s r no_clauses = []
clause_outs c s r (clause es t d cs) =
    (clause_out c s r es t d).line ∷ clause_outs c (behind (clause_out c s r es t d)) r cs

-- a body and what is done where nothing was raised
abbrev pub body_and_otherwise : Context → Spot → ℕ → CoreForm → Maybe → Piece
body_and_otherwise c s r b o = body_then (λ d t n. gen d t n b) (λ d t n. gen_maybe d t n o) c s r

-- a body, and where it has clauses what they do with an exception
abbrev pub rescued_if : Bool → Context → Spot → ℕ → CoreForm → Clauses → Maybe → Piece
rescued_if has c s r b cs o =
    rescued_by has (λ d t n. gen d t n b) (λ d t n. gen_maybe d t n o) (λ d t n. handle d t n cs) c s r

abbrev pub rescued : Context → Spot → ℕ → CoreForm → Clauses → Maybe → Piece
rescued c s r b cs o = rescued_if (has_clauses cs) c s r b cs o

-- Bodies.

abbrev pub kind_of : Maker → BodyKind
kind_of maker.Block = kind.Block
kind_of maker.Lambda = kind.Block
kind_of (maker.Method x) = kind.Method
kind_of maker.Class = kind.Class

abbrev pub maker_of : Maker → ℕ → ℕ → Operation
maker_of maker.Block r n = op.Block r n
maker_of maker.Lambda r n = op.Lambda r n
maker_of (maker.Method x) r n = op.Def r x n
maker_of maker.Class r n = op.Exec r n

-- the code of a body with that number, and that of those in it, as one name
unfoldable pub coded : BodyKind → Scopes → ℕ → Body → List Irep
coded k around n b = body_code k around n b

-- the instruction that makes a body, and the body
abbrev pub made : Maker → Context → Spot → ℕ → Body → Piece
made m c s r f = makes (maker_of m r s.child) s.body (coded (kind_of m) c.scopes s.body f)

-- an instruction that makes a method
abbrev pub defines : Context → Spot → ℕ → Name → Body → Piece
defines c s r x f = makes (op.Def r (symbol c x) s.child) s.body (coded kind.Method c.scopes s.body f)

-- the forms of a list; any other form stands for none
abbrev pub forms_in : CoreForm → Forms
forms_in (seq es) = es
forms_in _ = none

-- the form of a body with so many optional parameters
abbrev pub with_defaults : Context → Spot → ℕ → ℕ → CoreForm → Piece
with_defaults c s r o f =
    by_defaults o (λ d u m. gen d u m f) (λ d u m. with_jumps d u m (o + 1) f) c s r

-- the code of a body from the spot on
abbrev pub entered : Context → Spot → ℕ → BodyKind → Body → Piece
entered c s r k (body ps ls f) =
    entered_by k ps (λ d u m. gen d u m f) (λ d u m. with_jumps d u m (length ps.optional + 1) f) c s r

-- with the instruction that ends it
abbrev pub whole : Context → ℕ → BodyKind → ℕ → Body → Piece
whole c r k n b = entered c (first_spot n) r k b ⊕ does (ends k r)

-- so many jumps that lead to line 0 yet
abbrev pub held_jumps : ℕ → Piece
held_jumps zero = nothing
held_jumps (suc n) = jump 0 ⊕ held_jumps n
