-- Frames that are opened and left, and the arguments of calls.
use Rattle.std.specs.Prelude.{ℕ, zero, suc, ◌+◌, ◌-◌, List, [], ◌∷◌, ◌++◌, length, slice_set, slice_index_or, Option, Some, None, false, unwrap_or}
use Rattle.rb_value.specs.declared.value.Value.{Value}
use Rattle.rb_value.specs.declared.value.Value.TheVariants.{Nil}
use Rattle.def_core.specs.declared.bound.BindKind.TheVariants as bind
use Rattle.run_calls.specs.declared.activation.Activation.{Activation}
use Rattle.run_calls.specs.Activations as activations
pub use Rattle.run_calls.specs.Activations.{closed, caught}
use Rattle.vm_frames.specs.declared.frame.Frame.{Frame}
use Rattle.vm_frames.specs.declared.arguments.Arguments.{Arguments}
use Rattle.vm_frames.specs.Registers.{wrapped, saturated, part, cleared, extended}
use Rattle.vm_frames.specs.Seen.{Seen, no_levels, innermost, with_exits}
use Rattle.vm_frames.specs.Exits.{place, all_dropped}
use Rattle.vm_frames.specs.Environments.{closed_env, nothing_around}
use Rattle.vm_frames.specs.Levels.{shorter}
use Rattle.vm_frames.specs.Blocks.{none, reached}

-- a frame of no body, without registers
abbrev pub no_frame : Frame
no_frame = record {
  number = 0;
  body = 0;
  index = 0;
  waits = 0;
  registers = 0;
  base = 0;
  end = 0;
  own = None;
  outer = None;
  first = 0;
  given = 0;
  classes = 0;
  block = None;
  yields = None;
  binds = bind.Method;
  keeps = false;
}

-- one line without levels, which runs
abbrev pub opening : Seen
opening = record {
  line = no_levels;
  around = nothing_around;
  outside = activations.outside;
  blocks = none;
}

abbrev pub activation_in : Seen → Activation
activation_in r = unwrap_or (innermost r.line.activations) r.outside

-- Frames. The registers of a frame stand behind all others, and are counted.

-- how many registers the frames of the line hold with one more of so many
abbrev pub held_with : Seen → ℕ → ℕ
held_with r n = wrapped (r.line.held + n)

abbrev pub opened : Seen → Activation → ℕ → Seen
opened r a n = record r {
  line = record r.line {
    registers = cleared (extended r.line.registers (r.line.end + n)) r.line.end (r.line.end + n) a.receiver;
    end = r.line.end + n;
    held = held_with r n;
    activations = r.line.activations ++ a ∷ [];
  };
  blocks = reached r.blocks (held_with r n);
}

abbrev pub opened_frame : Seen → Frame → ℕ → Arguments → Frame
opened_frame r f n args = record f {
  index = 0;
  registers = n;
  base = r.line.end;
  end = args.end;
  own = None;
  first = args.first;
  given = args.count;
  keeps = false;
}

-- the environment of the frame's own list, if it has one, is closed
abbrev pub own_closed : Seen → Option ℕ → Seen
own_closed r None = r
own_closed r (Some e) = closed_env r e

abbrev pub exits_dropped : Seen → Frame → Seen
exits_dropped r f = with_exits r (all_dropped r f)

abbrev pub registers_ended : Seen → Frame → Seen
registers_ended r f = record r {
  line = record r.line {
    activations = shorter r.line.activations;
    end = f.end;
    held = r.line.held - f.registers;
  };
}

-- a frame is left: its own list is closed, and its exits, registers and arguments go
abbrev pub left : Seen → Frame → Seen
left r f = registers_ended (exits_dropped (own_closed r f.own) f) f

-- Arguments.

abbrev pub no_arguments : Seen → Arguments
no_arguments r = record { first = r.line.end; count = 0; end = r.line.end }

abbrev pub registers_as_arguments : Seen → Frame → ℕ → ℕ → Arguments
registers_as_arguments r f a n = record { first = place f a; count = n; end = r.line.end }

abbrev pub given : Seen → Arguments → List Value
given r args = part r.line.registers args.first args.count

abbrev pub arguments_of : Seen → Frame → List Value
arguments_of r f = part r.line.registers f.first f.given

-- a value stands behind all registers
abbrev pub value_kept : Seen → Value → Seen
value_kept r v = record r {
  line = record r.line {
    registers = slice_set (extended r.line.registers (r.line.end + 1)) r.line.end v;
    end = r.line.end + 1;
  };
}

unfoldable pub values_kept : Seen → List Value → Seen
values_kept r [] = r
values_kept r (v ∷ vs) = values_kept (value_kept r v) vs

-- so many registers from a place on stand behind all registers once more
unfoldable pub registers_kept : Seen → ℕ → ℕ → Seen
registers_kept r at zero = r
registers_kept r at (suc n) =
    registers_kept (value_kept r (slice_index_or r.line.registers (wrapped at) Nil)) (at + 1) n

abbrev pub all_arguments : Seen → List Value → Arguments
all_arguments r vs = record { first = r.line.end; count = length vs; end = r.line.end }

abbrev pub one_more : Arguments → Arguments
one_more args = record args { count = saturated (args.count + 1) }

-- the same arguments after a value
abbrev pub one_before : Seen → Arguments → Arguments
one_before r args = record args { first = r.line.end; count = saturated (args.count + 1) }

abbrev pub kept_before : Seen → Arguments → Value → Seen
kept_before r args v = registers_kept (value_kept r v) args.first args.count

abbrev pub arguments_ended : Seen → Arguments → Seen
arguments_ended r args = record r { line = record r.line { end = args.end } }
