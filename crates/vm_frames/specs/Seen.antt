-- What the levels of all fibers are seen as: plain lists.
use Rattle.std.specs.Prelude.{ℕ, ◌-◌, List, [], length, map, slice_get, Bool, Option, None}
use Rattle.rb_value.specs.declared.value.Value.{Value}
use Rattle.rb_value.specs.declared.exit.Exit.{Exit}
use Rattle.run_calls.specs.declared.activation.Activation.{Activation}
use Rattle.vm_frames.specs.declared.frame.Frame.{Frame}
use Rattle.vm_frames.specs.declared.level.Iterating.{Iterating}
use Rattle.vm_frames.specs.declared.level.Begun.{Begun}
use Rattle.vm_frames.specs.declared.blocks.Blocks.{Blocks}
use Rattle.vm_frames.specs.declared.lines.Line.{Line as StoredLine}
use Rattle.vm_frames.specs.declared.capturing.Env.{Env as StoredEnv}
use Rattle.vm_frames.specs.declared.capturing.Around.{Around as StoredAround}
use Rattle.vm_frames.specs.declared.frames.Frames.{Frames}

-- A fiber's registers, where those of its frames end, and how many of them are those of frames; the activations of its
-- frames, and the frames and iterations that wait, of each the innermost last; and the iteration that begins.
pub record Line : Type 0 where
  pub registers : List Value
  pub end : ℕ
  pub held : ℕ
  pub activations : List Activation
  pub frames : List Frame
  pub iterations : List Iterating
  pub begun : Option Begun

-- A captured list: its number, the environment around, and where it stands while it is open: a line, and the place there
-- of its first register; then its values.
pub record Env : Type 0 where
  pub number : ℕ
  pub outer : Option ℕ
  pub line : ℕ
  pub base : ℕ
  pub is_open : Bool
  pub values : List Value

-- The exits that registers keep, by the numbers of a list and a register.
abbrev pub Exits : Type 0
Exits = List ((ℕ × ℕ) × Exit)

-- What is around the line that runs: all lines by number, where that one stands empty, its number, the captured lists, and
-- the exits that registers keep.
pub record Around : Type 0 where
  pub others : List Line
  pub running : ℕ
  pub envs : List Env
  pub exits : Exits

pub record Seen : Type 0 where
  pub line : Line
  pub around : Around
  -- the activation where there is no frame
  pub outside : Activation
  -- how many registers all lines held at most
  pub blocks : Blocks

abbrev pub line_of : StoredLine → Line
line_of l = record {
  registers = l.registers.items;
  end = l.end;
  held = l.held;
  activations = l.activations;
  frames = l.frames;
  iterations = l.iterations.items;
  begun = l.begun;
}

abbrev pub env_of : StoredEnv → Env
env_of e = record {
  number = e.number;
  outer = e.outer;
  line = e.line;
  base = e.base;
  is_open = e.«open»;
  values = e.values.items;
}

abbrev pub around_of : StoredAround → Around
around_of a = record {
  others = map line_of a.others.items;
  running = a.running;
  envs = map env_of a.envs.items;
  exits = a.exits;
}

abbrev pub of : Frames → Seen
of f = record { line = line_of f.line; around = around_of f.around; outside = f.outside; blocks = f.blocks }

abbrev pub no_levels : Line
no_levels = record { registers = []; end = 0; held = 0; activations = []; frames = []; iterations = []; begun = None }

-- the innermost of some levels
abbrev pub innermost : {X : Type 0} → List X → Option X
innermost xs = slice_get xs (length xs - 1)

-- the same with other registers of the line that runs
abbrev pub with_registers : Seen → List Value → Seen
with_registers r rs = record r { line = record r.line { registers = rs } }

abbrev pub with_exits : Seen → Exits → Seen
with_exits r xs = record r { around = record r.around { exits = xs } }
