-- Pieces of the code of a body in which nothing is wrong by itself.
use Rattle.std.specs.Prelude.{◌≡◌, ◌<◌, ◌≤◌, ℕ, zero, suc, ◌+◌, ◌-◌, List, [], ◌∷◌, ◌++◌, length, Bool, true, false, Option, Some, None}
use Rattle.std.specs.List.{All}
use Rattle.rite_code.specs.declared.code.Irep.{Irep}
use Rattle.rite_code.specs.declared.code.PoolItem.{PoolItem}
use Rattle.rite_code.specs.declared.operation.Parameters.{Parameters}
use Rattle.rite_code.specs.declared.operation.Operation.{Operation}
use Rattle.rite_code.specs.declared.operation.Operation.TheVariants as op
use Rattle.rite_code.specs.Code.{AreDistinct, IsText, IsItem}
use Rattle.rite_code.specs.Operation.{opcode_in}
use Rattle.rite_code.specs.Table.{shape_of}
use Rattle.rite_code.specs.Shape.{operand_size, are_counts}
use Rattle.scope_resolver.specs.declared.body_kind.BodyKind.{BodyKind}
use Rattle.scope_resolver.specs.declared.body_kind.BodyKind.TheVariants as kind
use Rattle.scope_resolver.specs.Layout.{Slots, Scopes, seen_around, has_parameters}
use Rattle.code_outline.specs.declared.maker.Purpose.{Purpose}
use Rattle.code_outline.specs.declared.maker.Purpose.TheVariants as purpose
use Rattle.code_outline.specs.Makers.{use_in}
use Rattle.code_verifier.specs.Needs.{leaves}
use Rattle.code_verifier.specs.Checks.{parameter_count}
use Rattle.gen_parts.specs.declared.line.Line.{Line}
use Rattle.gen_parts.specs.declared.line.Line.TheVariants as line
use Rattle.gen_parts.specs.declared.line.Catch.{Catch}
use Rattle.gen_parts.specs.declared.emitter.Spot.{Spot}
use Rattle.gen_parts.specs.declared.assembling.Head.{Head}
use Rattle.gen_parts.specs.Pieces.{Piece}
use Rattle.gen_parts.specs.Assembly.{assembled}
use Rattle.code_laws.proofs.Serves.{Room, Serves, items_of}

-- a line whose jump leads to no line past that one
abbrev pub FineLine : Room → ℕ → Line → Type 0
FineLine m end (line.Does o) = Serves m o
FineLine m end (line.Jump to) = to ≤ end
FineLine m end (line.JumpIf r to) = (r < m.registers) × (to ≤ end)
FineLine m end (line.JumpNot r to) = (r < m.registers) × (to ≤ end)
FineLine m end (line.Leave to) = to ≤ end

abbrev pub FineLines : Room → ℕ → List Line → Type 0
FineLines m end [] = Unit
FineLines m end (l ∷ ls) = FineLine m end l × FineLines m end ls

-- an entry of the catch table that covers lines, up to that one
pub record FineCatch (end : ℕ) (c : Catch) : Type 0 where
  pub covers : c.begin < c.end
  pub within : c.end ≤ end
  pub lands : c.target ≤ end

abbrev pub FineCatches : ℕ → List Catch → Type 0
FineCatches end [] = Unit
FineCatches end (c ∷ cs) = FineCatch end c × FineCatches end cs

-- the most bytes of a line and of lines
abbrev pub weight_of : Line → ℕ
weight_of (line.Does o) = 2 + operand_size true (shape_of (opcode_in o))
weight_of (line.Jump to) = 6
weight_of (line.JumpIf r to) = 8
weight_of (line.JumpNot r to) = 8
weight_of (line.Leave to) = 6

abbrev pub weights : List Line → ℕ
weights [] = 0
weights (l ∷ ls) = weight_of l + weights ls

-- the child that a line uses
abbrev pub use_of : Line → Option (ℕ × Purpose)
use_of (line.Does o) = use_in o
use_of (line.Jump to) = None
use_of (line.JumpIf r to) = None
use_of (line.JumpNot r to) = None
use_of (line.Leave to) = None

-- the kind of a body that is made for that purpose
abbrev pub kind_for : Purpose → BodyKind
kind_for purpose.Lambda = kind.Block
kind_for purpose.Block = kind.Block
kind_for purpose.Method = kind.Method
kind_for purpose.ClassBody = kind.Class

-- the first so many lines are jumps
abbrev pub IsJump : Line → Type 0
IsJump (line.Does o) = ⊥
IsJump (line.Jump to) = Unit
IsJump (line.JumpIf r to) = ⊥
IsJump (line.JumpNot r to) = ⊥
IsJump (line.Leave to) = ⊥

abbrev pub JumpsFollow : ℕ → List Line → Type 0
JumpsFollow zero ls = Unit
JumpsFollow (suc n) [] = ⊥
JumpsFollow (suc n) (l ∷ ls) = IsJump l × JumpsFollow n ls

-- a line is the ENTER of a body with so many locals, which these follow
pub record Enters (locals : ℕ) (l : Line) (ls : List Line) : Type 0 where
  pub parameters : Parameters
  pub is : l ≡ line.Does (op.Enter parameters)
  pub count : parameter_count parameters + 2 ≤ locals
  pub spare : parameters.spare ≡ false
  pub fit : are_counts parameters ≡ true
  pub follow : 0 < parameters.optional → JumpsFollow (parameters.optional + 1) ls

-- the lines of a body that takes arguments begin with ENTER, and no other does
abbrev pub Entered : Bool → ℕ → Room → ℕ → List Line → Type 0
Entered false locals m end ls = FineLines m end ls
Entered true locals m end [] = ⊥
Entered true locals m end (l ∷ ls) = Enters locals l ls × FineLines m end ls

-- the last line leaves
pub record Ends (ls : List Line) : Type 0 where
  pub front : List Line
  pub last : Operation
  pub are : ls ≡ front ++ line.Does last ∷ []
  pub leave : leaves last ≡ true

-- a body of that kind whose own locals are these, among the bodies that it sees
pub record Sound (k : BodyKind) (own : Slots) (around : Scopes) (h : Head) (pool : List PoolItem)
    (symbols : List (List ℕ)) (q : Piece) : Type 0 where
  pub room : Room
  pub kind : room.kind ≡ k
  pub scopes : room.scopes ≡ own ∷ seen_around k around
  pub registers : room.registers ≡ h.registers
  pub few : h.registers ≤ 65535
  pub items : pool ≡ items_of room
  pub few_items : length pool ≤ 65535
  pub names : symbols ≡ room.symbols
  pub few_names : length symbols ≤ 65535
  pub locals : h.locals ≡ 1 + length own
  pub room_for_locals : h.locals ≤ h.registers
  pub entered : Entered (has_parameters k) h.locals room (length q.lines - 1) q.lines
  pub ends : Ends q.lines
  pub catches : FineCatches (length q.lines - 1) q.catches
  pub few_catches : length q.catches ≤ 65535
  pub fine_items : All IsItem pool
  pub items_apart : AreDistinct pool
  pub fine_names : All IsText symbols
  pub names_apart : AreDistinct symbols
  pub small : weights q.lines ≤ 4194303
  pub narrow : h.wide ≡ false → (weights q.lines ≤ 32767) × (h.registers ≤ 256)

-- Lines of which each that uses a child uses the next one, from one on, with the numbers of the bodies that they make,
-- from one on, and these bodies with those in them.
pub data IsMade : Scopes → ℕ → ℕ → List Line → List ℕ → List Irep → Type 0 where
  none : {sc : Scopes} {child number : ℕ} → IsMade sc child number [] [] []
  plain : {sc : Scopes} {child number : ℕ} {ls : List Line} {cs : List ℕ} {bs : List Irep} (l : Line)
      → use_of l ≡ None → IsMade sc child number ls cs bs → IsMade sc child number (l ∷ ls) cs bs
  makes : {sc : Scopes} {child number : ℕ} {ls : List Line} {cs : List ℕ} {all : List Irep} (bs : List Irep)
      (o : Operation) (u : Purpose) (own : Slots) (h : Head) (pool : List PoolItem) (symbols : List (List ℕ))
      (q : Piece)
      → use_in o ≡ Some (child, u) → Sound (kind_for u) own sc h pool symbols q
      → all ≡ assembled h pool symbols q ++ bs
      → IsMade (own ∷ seen_around (kind_for u) sc) 0 (number + 1) q.lines q.children q.bodies
      → IsMade sc (child + 1) (number + (1 + length q.bodies)) ls cs bs
      → IsMade sc child number (line.Does o ∷ ls) (number ∷ cs) all

-- A piece from a spot on whose jumps lead to no line past that one, which takes so many bytes and makes so many bodies.
pub record Well (m : Room) (end : ℕ) (s : Spot) (p : Piece) (bytes bodies : ℕ) : Type 0 where
  pub lines : FineLines m end p.lines
  pub catches : FineCatches end p.catches
  pub light : weights p.lines ≤ bytes
  pub count : length p.bodies ≡ bodies
  pub made : IsMade m.scopes s.child s.body p.lines p.children p.bodies
