-- What a run of one body holds, as a state.
use Rattle.std.specs.Prelude.{ℕ, List, [], ◌∷◌, ◌++◌, map, replicate}
use Rattle.path_value.specs.declared.value.Value.TheVariants.{Nil}
use Rattle.rite_code.specs.declared.code.Irep.{Irep}
use Rattle.path_core.specs.Rows.{line_of}
use Rattle.path_eval.specs.Seen.{Ended, Uncaught, Seen, Going, Over}
use Rattle.path_turns.specs.State.{value, Registers, Frame, Memory, State, On, Off}
use Rattle.path_machine.specs.Course.{Values, Course, course}
use Rattle.path_machine.specs.declared.machine.Next.{Next}
use Rattle.path_machine.specs.declared.machine.Next.TheVariants as nexts
use Rattle.path_machine.specs.declared.ran.Ran.{Ran}
use Rattle.path_machine.specs.declared.ran.Ran.TheVariants as rans

abbrev pub lists_of : Values → List Registers
lists_of rs = record { of = 0; slots = map value rs } ∷ []

abbrev pub frame_at : ℕ → Frame
frame_at pc = record { activation = 1; body = 0; list = 0; pc = pc }

abbrev pub memory_of : Values → List ℕ → List ℕ → Memory
memory_of rs input out = record { lists = lists_of rs; input = input; out = out }

-- the main program at a place, over these registers
abbrev pub standing : ℕ → Values → List ℕ → List ℕ → State
standing pc rs input out = On (frame_at pc) [] (memory_of rs input out)

-- where a turn leads
abbrev pub led_to : Values × Next → List ℕ → List ℕ → State
led_to (rs, nexts.To pc) input out = standing pc rs input out
led_to (rs, nexts.Puts pc v) input out = standing pc rs input (out ++ line_of v)
led_to (rs, nexts.Ended n) input out = Off (Ended out n)
led_to (rs, nexts.Uncaught f) input out = Off (Uncaught out f)

-- what is seen of a run that comes out so, with this output
abbrev pub seen_of : Ran → List ℕ → Seen
seen_of rans.Spent out = Going out
seen_of (rans.Ended n) out = Over (Ended out n)
seen_of (rans.Uncaught f) out = Over (Uncaught out f)

-- the course of a body from its start
abbrev pub whole_course : Irep → ℕ → Course
whole_course b n = course b n 0 (replicate b.registers Nil)
