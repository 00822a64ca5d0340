-- What pieces of code take in a file: their lines, their catch entries, and the records of the bodies that they make,
-- which the steps of a walk count.
use Rattle.std.proofs.Common.{◌≡◌, ◌≤◌, ℕ, ◌+◌, ◌*◌, List, [], ◌∷◌, ◌++◌, length, arith, refl, true, length-append}
use Rattle.std.specs.List.{flat_map}
use Rattle.rite_code.specs.declared.code.Irep.{Irep}
use Rattle.rite_code.specs.declared.opcode.Shape.{Shape}
use Rattle.rite_code.specs.declared.opcode.Shape.TheVariants as shape
use Rattle.rite_code.specs.declared.operation.Operation.{Operation}
use Rattle.rite_code.specs.Operation.{opcode_in}
use Rattle.rite_code.specs.Table.{shape_of}
use Rattle.rite_code.specs.Shape.{operand_size}
use Rattle.rite_file.specs.File.{record_of}
use Rattle.ir_core.specs.CoreForm.{CoreForm, Body}
use Rattle.ir_walk.specs.Walk.{Step, at, enter, leave, met, entering, leaving}
use Rattle.ir_counts.specs.Counts.{counts}
use Rattle.gen_parts.specs.declared.line.Line.{Line}
use Rattle.gen_parts.specs.declared.line.Line.TheVariants as line
use Rattle.gen_parts.specs.declared.line.Catch.{Catch}
use Rattle.gen_parts.specs.Pieces.{Piece, nothing, both, puts, makes, catches}
use Rattle.code_laws.proofs.Wells.{weight_of, weights}
use Rattle.code_laws.proofs.Lines.{weights_append}

-- ## Records

-- the bytes of the records of bodies
unfoldable pub filed : List Irep → ℕ
filed [] = 0
filed (b ∷ bs) = length (record_of b) + filed bs

pub filed_is : (bs : List Irep) → length (flat_map record_of bs) ≡ filed bs
unfolding filed
filed_is [] = refl
filed_is (b ∷ bs) = omega (arith, length-append (record_of b) (flat_map record_of bs), filed_is bs)

pub filed_append : (bs cs : List Irep) → filed (bs ++ cs) ≡ filed bs + filed cs
unfolding filed
filed_append [] cs = omega arith
filed_append (b ∷ bs) cs = omega (arith, filed_append bs cs)

-- the bytes that are counted of a body, and of the bodies that steps begin
unfoldable pub worth : Body → ℕ
worth b = (counts b).bytes

unfoldable pub sized : List Step → ℕ
sized [] = 0
sized (at f ∷ ss) = sized ss
sized (enter b ∷ ss) = worth b + sized ss
sized (leave ∷ ss) = sized ss

pub sized_append : (ss ts : List Step) → sized (ss ++ ts) ≡ sized ss + sized ts
unfolding sized
sized_append [] ts = omega arith
sized_append (at f ∷ ss) ts = sized_append ss ts
sized_append (enter b ∷ ss) ts = omega (arith, sized_append ss ts)
sized_append (leave ∷ ss) ts = sized_append ss ts

pub sized_met : (ss : List Step) (f : CoreForm) → sized (met ss f) ≡ sized ss
unfolding sized
sized_met ss f = omega (arith, sized_append ss (at f ∷ []))

pub sized_entering : (ss : List Step) (b : Body) → sized (entering ss b) ≡ sized ss + worth b
unfolding sized
sized_entering ss b = omega (arith, sized_append ss (enter b ∷ []))

pub sized_leaving : (ss : List Step) → sized (leaving ss) ≡ sized ss
unfolding sized
sized_leaving ss = omega (arith, sized_append ss (leave ∷ []))

-- ## Pieces

-- A piece takes no more than so many bytes of a body with its entries, 64 for an entry no more than so many, and its
-- bodies no more than is counted between these steps.
pub record Amount (p : Piece) (a d : ℕ) (u v : List Step) : Type 0 where
  pub light : weights p.lines + 13 * length p.catches ≤ a
  pub few : 64 * length p.catches ≤ d
  pub held : filed p.bodies + sized u ≤ sized v

pub joined : {p q : Piece} {a b d e : ℕ} {u v w : List Step} → Amount p a d u v → Amount q b e v w
    → Amount (both p q) (a + b) (d + e) u w
unfolding both
joined {p} {q} h k =
    let lines = weights_append p.lines q.lines in
    let entries = length-append p.catches q.catches in
    let bodies = filed_append p.bodies q.bodies in
    record {
      light = omega (arith, lines, entries, h.light, k.light);
      few = omega (arith, entries, h.few, k.few);
      held = omega (arith, bodies, h.held, k.held);
    }

-- the same where what stands first is counted last
pub turned : {p q : Piece} {a b d e : ℕ} {u v w : List Step} → Amount p a d v w → Amount q b e u v
    → Amount (both p q) (a + b) (d + e) u w
unfolding both
turned {p} {q} h k =
    let lines = weights_append p.lines q.lines in
    let entries = length-append p.catches q.catches in
    let bodies = filed_append p.bodies q.bodies in
    record {
      light = omega (arith, lines, entries, h.light, k.light);
      few = omega (arith, entries, h.few, k.few);
      held = omega (arith, bodies, h.held, k.held);
    }

pub less : {p : Piece} {a b d e : ℕ} {u v : List Step} → Amount p a d u v → a ≤ b → d ≤ e → Amount p b e u v
less h i j = record { light = omega (arith, h.light, i); few = omega (arith, h.few, j); held = h.held }

-- a form with its parts
pub whole : (u : List Step) (f : CoreForm) {p : Piece} {a b d e : ℕ} {v : List Step} → Amount p a d (met u f) v
    → a ≤ b → d ≤ e → Amount p b e u v
whole u f h i j = record {
  light = omega (arith, h.light, i);
  few = omega (arith, h.few, j);
  held = omega (arith, sized_met u f, h.held);
}

pub none_there : (u : List Step) → Amount nothing 0 0 u u
unfolding nothing filed
none_there u = record { light = omega arith; few = omega arith; held = omega arith }

shape_most : (s : Shape) → operand_size true s ≤ 6
shape_most shape.Z = omega arith
shape_most shape.B = omega arith
shape_most shape.BB = omega arith
shape_most shape.BBB = omega arith
shape_most shape.BBI = omega arith
shape_most shape.S = omega arith
shape_most shape.BS = omega arith
shape_most shape.BSS = omega arith
shape_most shape.W = omega arith

weight_most : (l : Line) → weight_of l ≤ 8
weight_most (line.Does o) = omega (arith, shape_most (shape_of (opcode_in o)))
weight_most (line.Jump to) = omega arith
weight_most (line.JumpIf r to) = omega arith
weight_most (line.JumpNot r to) = omega arith
weight_most (line.Leave to) = omega arith

-- a line of so many bytes
pub line_of : (n : ℕ) (l : Line) (u : List Step) → weight_of l ≤ n → Amount (puts l) n 0 u u
unfolding puts filed
line_of n l u h = record { light = omega (arith, h); few = omega arith; held = omega arith }

pub one : (l : Line) {u : List Step} → Amount (puts l) 8 0 u u
one l {u} = line_of 8 l u (weight_most l)

-- a catch entry
pub entry : (c : Catch) {u : List Step} → Amount (catches c) 13 64 u u
unfolding catches filed
entry c = record { light = omega arith; few = omega arith; held = omega arith }

-- an instruction that makes a body
pub made_by : (o : Operation) (n : ℕ) (bs : List Irep) (u v : List Step) → filed bs + sized u ≤ sized v
    → Amount (makes o n bs) 8 0 u v
unfolding makes
made_by o n bs u v h = record {
  light = omega (arith, weight_most (line.Does o));
  few = omega arith;
  held = h;
}
