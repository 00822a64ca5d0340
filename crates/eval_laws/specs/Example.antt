-- A program whose evaluation fits: a method, a block that reads a variable around it, a loop, and a clause that tries
-- again.
--
-- def twice
--   yield(1) + yield(2)
-- end
-- n = 0
-- begin
--   n = n + 1
--   raise "x" if n < 2
--   twice { |x| n + x }
-- rescue
--   retry
-- end
use Rattle.std.specs.Prelude.{[], ◌∷◌, pos, codes}
use Rattle.ir_core.specs.CoreForm.{Local, named, CoreForm, nil, int, str, local, set_local, seq, cond, call, yield_form, function, begin_form, retry, define, Body, body, absent, there, none, more, no_items, plain, no_branches, branch, no_clauses, clause, to, on_self, Parameters, no_parameters}
use Rattle.def_eval.specs.Configuration.{leave_loop, travel, Memory, Config, Run}
use Rattle.rb_value.specs.declared.value.Value.TheVariants.{Nil}

abbrev pub sum : CoreForm → CoreForm → CoreForm
sum e f = call (to e) (codes "+") (plain f no_items) absent

abbrev pub number : Local
number = named (codes "n")

abbrev pub item : Local
item = named (codes "x")

abbrev pub one : Parameters
one = record { required = item ∷ []; optional = []; rest = []; post = []; block = [] }

abbrev pub block : CoreForm
block = function (body one [] (sum (local number) (local item)))

abbrev pub twice : CoreForm
twice = define (codes "twice") (body no_parameters []
    (sum (yield_form (plain (int (pos 1)) no_items)) (yield_form (plain (int (pos 2)) no_items))))

abbrev pub attempt : CoreForm
attempt = seq (more (set_local number (sum (local number) (int (pos 1))))
    (more (cond (branch (call (to (local number)) (codes "<") (plain (int (pos 2)) no_items) absent)
    (call on_self (codes "raise") (plain (str (codes "x")) no_items) absent) no_branches) nil)
    (more (call on_self (codes "twice") no_items (there block)) none)))

abbrev pub main : Body
main = body no_parameters (number ∷ [])
    (seq (more twice (more (set_local number (int (pos 0)))
    (more (begin_form attempt (clause none absent retry no_clauses) absent absent) none))))

-- the local of another body, which isn't known
abbrev pub stray : Body
stray = body no_parameters [] (local number)

-- an exit from a loop where nothing waits, as no program comes to
abbrev pub lost : Memory → Config
lost m = Run (travel (leave_loop Nil)) [] m
