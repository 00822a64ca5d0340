-- Captured lists: their registers, those around them, and how they are opened and closed.
use Rattle.std.specs.Prelude.{ℕ, zero, suc, ◌+◌, ◌^◌, ◌&&◌, List, [], ◌∷◌, ◌++◌, length, replicate, slice_get, slice_set, nat_eq, nat_lt, Bool, true, false, Option, Some, None, unwrap_or, if◌then◌else◌}
use Rattle.rb_value.specs.declared.value.Value.{Value}
use Rattle.rb_value.specs.declared.value.Value.TheVariants.{Nil}
use Rattle.vm_frames.specs.declared.frame.Frame.{Frame}
use Rattle.vm_frames.specs.Registers.{wrapped, refilled}
use Rattle.vm_frames.specs.Seen.{Seen, Line, Env, Around, Exits, no_levels}
use Rattle.vm_frames.specs.Exits.{without}

-- one line without levels, which runs
abbrev pub nothing_around : Around
nothing_around = record { others = no_levels ∷ []; running = 0; envs = []; exits = [] }

abbrev pub line_added : Around → Line → Around
line_added a l = record a { others = a.others ++ l ∷ [] }

-- the list around that of an environment
abbrev pub outer_in : Option Env → Option ℕ
outer_in None = None
outer_in (Some e) = e.outer

abbrev pub outer_of : List Env → ℕ → Option ℕ
outer_of es n = outer_in (slice_get es n)

-- the environment that stands so many around one
unfoldable pub around_env : List Env → Option ℕ → ℕ → Option ℕ
around_env es None c = None
around_env es (Some n) zero = Some n
around_env es (Some n) (suc c) = around_env es (outer_of es n) c

abbrev pub registers_in : Option Line → List Value
registers_in None = []
registers_in (Some l) = l.registers

-- the registers of a line, given those of the one that runs
abbrev pub registers_of : Around → List Value → ℕ → List Value
registers_of a rs line = if nat_eq line a.running then rs else registers_in (slice_get a.others line)

-- register b of an environment, where there is one
abbrev pub value_in : Around → List Value → Env → ℕ → Option Value
value_in a rs e b =
    if e.is_open then slice_get (registers_of a rs e.line) (wrapped (e.base + b)) else slice_get e.values b

abbrev pub value_in_some : Around → List Value → Option Env → ℕ → Option Value
value_in_some a rs None b = None
value_in_some a rs (Some e) b = value_in a rs e b

abbrev pub value_of : Around → List Value → ℕ → ℕ → Option Value
value_of a rs n b = value_in_some a rs (slice_get a.envs n) b

abbrev pub value_at_env : Around → List Value → Option ℕ → ℕ → Option Value
value_at_env a rs None b = None
value_at_env a rs (Some n) b = value_of a rs n b

-- what register b of the list reads as that is c around an environment's
abbrev pub value_out : Around → List Value → Option ℕ → ℕ → ℕ → Value
value_out a rs outer b c = unwrap_or (value_at_env a rs (around_env a.envs outer c) b) Nil

-- Writing. What is written to: the registers of the line that runs, and what is around them.

pub record Written : Type 0 where
  pub registers : List Value
  pub around : Around

abbrev pub line_put : Line → ℕ → Value → Line
line_put l at v = record l { registers = slice_set l.registers at v }

abbrev pub with_value : Env → ℕ → Value → Env
with_value e b v = record e { values = slice_set e.values b v }

abbrev pub with_line : Around → ℕ → Option Line → ℕ → Value → Around
with_line a n None at v = a
with_line a n (Some l) at v =
    record a { others = slice_set a.others n (line_put l at v) }

-- a register of a line that doesn't run
abbrev pub written_aside : Around → ℕ → ℕ → Value → Around
written_aside a line at v = with_line a line (slice_get a.others line) at v

abbrev pub written_open : Bool → Around → List Value → ℕ → ℕ → Value → Written
written_open runs a rs line at v = if runs then record { registers = slice_set rs at v; around = a }
    else record { registers = rs; around = written_aside a line at v }

abbrev pub written_in : Around → List Value → ℕ → Env → ℕ → Value → Written
written_in a rs n e b v =
    if e.is_open then written_open (nat_eq e.line a.running) a rs e.line (wrapped (e.base + b)) v
    else record {
      registers = rs;
      around = record a { envs = slice_set a.envs n (with_value e b v) };
    }

abbrev pub written_some : Around → List Value → ℕ → Option Env → ℕ → Value → Written
written_some a rs n None b v = record { registers = rs; around = a }
written_some a rs n (Some e) b v = written_in a rs n e b v

abbrev pub written_env : Around → List Value → ℕ → ℕ → Value → Written
written_env a rs n b v = written_some a rs n (slice_get a.envs n) b v

-- the exits when register b of an environment keeps none
abbrev pub forgotten_in : Exits → Option Env → ℕ → Exits
forgotten_in xs None b = xs
forgotten_in xs (Some e) b = without xs e.number b

abbrev pub forgotten : Around → ℕ → ℕ → Around
forgotten a n b = record a { exits = forgotten_in a.exits (slice_get a.envs n) b }

abbrev pub written_at : Around → List Value → Option ℕ → ℕ → Value → Written
written_at a rs None b v = record { registers = rs; around = a }
written_at a rs (Some n) b v = let w = written_env a rs n b v in record w { around = forgotten w.around n b }

-- register b of the list that is c around an environment's gets a value, and keeps no exit
abbrev pub written_out : Around → List Value → Option ℕ → ℕ → ℕ → Value → Written
written_out a rs outer b c v = written_at a rs (around_env a.envs outer c) b v

-- Opening and closing.

abbrev pub stands_in : Env → ℕ → Bool
stands_in e line = e.is_open && nat_eq e.line line

abbrev pub closed_in : Env → List Value → Env
closed_in e rs = record e { values = refilled e.values rs e.base; is_open = false }

abbrev pub closed_if : Bool → Around → List Value → ℕ → Env → Around
closed_if b a rs n e = if b then record a { envs = slice_set a.envs n (closed_in e rs) } else a

abbrev pub closed_some : Around → List Value → ℕ → Option Env → Around
closed_some a rs n None = a
closed_some a rs n (Some e) = closed_if (stands_in e a.running) a rs n e

-- the values of an environment of the line that runs stand in room of its own
abbrev pub closed : Around → List Value → ℕ → Around
closed a rs n = closed_some a rs n (slice_get a.envs n)

abbrev pub closed_env : Seen → ℕ → Seen
closed_env r n = record r { around = closed r.around r.line.registers n }

abbrev pub opened_env : Seen → Frame → Env
opened_env r f = record {
  number = f.number;
  outer = f.outer;
  line = r.around.running;
  base = f.base;
  is_open = true;
  values = replicate f.registers Nil;
}

abbrev pub env_added : Seen → Frame → Seen
env_added r f = record r { around = record r.around { envs = r.around.envs ++ opened_env r f ∷ [] } }

abbrev pub with_own : Frame → ℕ → Frame
with_own f n = record f { own = Some n }

-- the frame has an environment of its own, if it had none
abbrev pub captured_by : Option ℕ → Seen → Frame → Seen
captured_by (Some e) r f = r
captured_by None r f = env_added r f

abbrev pub captured : Seen → Frame → Seen
captured r f = captured_by f.own r f

abbrev pub capturing_by : Option ℕ → Seen → Frame → Frame
capturing_by (Some e) r f = f
capturing_by None r f = with_own f (length r.around.envs)

abbrev pub capturing : Seen → Frame → Frame
capturing r f = capturing_by f.own r f

-- the environments from one on, each around the one before; the number bounds how many
unfoldable pub envs_from : ℕ → List Env → Option ℕ → List ℕ
envs_from zero es n = []
envs_from (suc k) es None = []
envs_from (suc k) es (Some n) = n ∷ envs_from k es (outer_of es n)

abbrev pub own_or_outer : Option ℕ → Option ℕ → Option ℕ
own_or_outer None outer = outer
own_or_outer (Some n) outer = Some n

abbrev pub lists_around : Seen → Frame → List ℕ
lists_around r f = envs_from (length r.around.envs) r.around.envs (own_or_outer f.own f.outer)

-- the environment of a captured list, by its number
abbrev pub env_numbered : Seen → ℕ → Option ℕ
env_numbered r list = if nat_lt list (length r.around.envs) && nat_lt list (2 ^ 32) then Some list else None
