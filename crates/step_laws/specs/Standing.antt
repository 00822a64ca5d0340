-- Pieces of code that stand in a body, and a frame that runs at a line of it.
use Rattle.std.specs.Prelude.{ℕ, ◌+◌, List, length, Option, None}
use Rattle.rb_value.specs.declared.value.Value.{Value}
use Rattle.rb_value.specs.declared.value.ObjId.{ObjId}
use Rattle.def_core.specs.declared.bound.BindKind.{BindKind}
use Rattle.gen_parts.specs.Pieces.{Piece}
use Rattle.def_machine.specs.State.{Frame}
use Rattle.step_laws.specs.Site.{Site, at_line, Lines}
use Rattle.step_laws.specs.Guards.{AreWithin}

-- how many lines a piece has
unfoldable pub high : Piece → ℕ
high p = length p.lines

-- the lines of a piece stand from line n on, each covered by those of its entries that cover it and those around
unfoldable pub Stands : Site → ℕ → Piece → Type 0
Stands h n p = Lines h p.catches n p.lines

-- the entries of a piece that stands at line n cover lines of it alone
unfoldable pub KeepsWithin : ℕ → Piece → Type 0
KeepsWithin n p = AreWithin n (n + high p) p.catches

-- what a frame keeps besides its place
pub record Rest : Type 0 where
  pub after : ℕ
  pub waits : ℕ
  pub arguments : List Value
  pub block : Option ObjId
  pub binds : BindKind

-- the frame at a line
abbrev pub frame_at : Site → Rest → ℕ → Frame
frame_at h x n = record {
  activation = h.activation;
  body = h.body;
  list = h.list;
  place = at_line h n;
  after = x.after;
  waits = x.waits;
  pending = None;
  arguments = x.arguments;
  block = x.block;
  binds = x.binds;
}
