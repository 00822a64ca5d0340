-- Programs of simple and of plain forms, some with methods and blocks, and what is shown of them.
use Rattle.std.specs.Prelude.{◌≡◌, ℕ, pos, false, List, [], ◌∷◌, codes, None}
use Rattle.rite_code.specs.Code.{Program, program}
use Rattle.ir_core.specs.CoreForm.{named, hidden, Local, CoreForm, nil, truth, int, str, sym, local, set_local, gvar, set_gvar, array, hash, text, seq, cond, while_form, call, yield_form, super_form, function, lambda, return_form, break_form, next_form, define, item, Body, body, plain_body, form_of, absent, there, Forms, more, two, no_items, plain, splat, no_pairs, pair, no_branches, branch, to, on_self}
use Rattle.ir_core.specs.Program.{IsProgram}
use Rattle.ir_counts.specs.Counts.{need}
use Rattle.ir_counts.specs.Limits.{first_excess}
use Rattle.gen_forms.specs.Making.{coded_program}
use Rattle.def_calls.specs.Seen.{Ended, Uncaught, Over}
use Rattle.def_eval.specs.Source.{source_of}
use Rattle.def_eval.specs.Transition.{evaluation}
use Rattle.def_machine.specs.Turn.{machine}
use Rattle.step_laws.specs.Simple.{IsSimple}
use Rattle.step_laws.specs.Plain.{IsPlain, IsPlainProgram}

abbrev pub code_of : Body → Program
code_of b = program 2 (coded_program b)

abbrev pub i : Local
i = named (codes "i")

abbrev pub on : CoreForm → List ℕ → CoreForm → CoreForm
on r name e = call (to r) name (plain e no_items) absent

-- i = 2
-- while i > 0
--   puts i
--   i = i - 1
-- end
abbrev pub countdown : Body
countdown = plain_body (i ∷ []) (seq (two (set_local i (int (pos 2)))
    (while_form false (on (local i) (codes ">") (int (pos 0)))
    (seq (two (call on_self (codes "puts") (plain (local i) no_items) absent)
    (set_local i (on (local i) (codes "-") (int (pos 1)))))))))

abbrev pub three : CoreForm → CoreForm → CoreForm → Forms
three e f g = more e (two f g)

abbrev pub six : CoreForm → CoreForm → CoreForm → CoreForm → CoreForm → CoreForm → Forms
six e f g u v w = more e (more f (more g (three u v w)))

-- a = [2, *[3]]
-- h = {:k => 4}
-- i, = 0
-- while true
--   i = i + 1
--   break if i > 1
--   $g = i
-- end
-- puts a[1], $g, "in #{"one"}"
-- i / 0
abbrev pub a : Local
a = named (codes "a")

abbrev pub h : Local
h = named (codes "h")

abbrev pub gatherer : Body
gatherer = plain_body (a ∷ h ∷ i ∷ []) (seq (six
    (set_local a (array (plain (int (pos 2)) (splat (array (plain (int (pos 3)) no_items)) no_items))))
    (set_local h (hash (pair (sym (codes "k")) (int (pos 4)) no_pairs)))
    (set_local i (item (set_local (hidden 0) (array (plain (int (pos 0)) no_items))) (pos 0)))
    (while_form false truth (seq (three
    (set_local i (on (local i) (codes "+") (int (pos 1))))
    (cond (branch (on (local i) (codes ">") (int (pos 1))) (break_form nil) no_branches) nil)
    (set_gvar (codes "$g") (local i)))))
    (call on_self (codes "puts") (plain (on (local a) (codes "[]") (int (pos 1)))
    (plain (gvar (codes "$g"))
    (plain (text (two (str (codes "in ")) (str (codes "one")))) no_items))) absent)
    (on (local i) (codes "/") (int (pos 0)))))

-- it is such a program within the limits, and both sides end with the exception and the same lines before
pub record IsPlainWitness (b : Body) : Type 0 where
  pub program : IsProgram b
  pub within : first_excess (need b) ≡ None
  pub plain : IsPlain (form_of b)
  pub evaluates : evaluation (source_of b) [] 400
      ≡ Over (Uncaught (codes "3\n1\nin one\n") (codes "ZeroDivisionError") (codes "divided by 0"))
  pub runs : machine (code_of b) [] 400
      ≡ Over (Uncaught (codes "3\n1\nin one\n") (codes "ZeroDivisionError") (codes "divided by 0"))

-- it is such a program within the limits, and both sides end with the lines 2 and 1
pub record IsWitness (b : Body) : Type 0 where
  pub program : IsProgram b
  pub within : first_excess (need b) ≡ None
  pub simple : IsSimple (form_of b)
  pub evaluates : evaluation (source_of b) [] 100 ≡ Over (Ended (codes "2\n1\n") 0)
  pub runs : machine (code_of b) [] 100 ≡ Over (Ended (codes "2\n1\n") 0)

-- def least(a, i)
--   return a if a < i
--   i
-- end
-- def after(a, *h, i)
--   least(a, i) + h[0]
-- end
-- puts after(3, 1, 2)
abbrev pub least : Body
least =
    body (record { required = a ∷ i ∷ []; optional = []; rest = []; post = []; block = [] }) []
    (seq (two (cond (branch (on (local a) (codes "<") (local i)) (return_form (local a)) no_branches) nil) (local i)))

abbrev pub after : Body
after =
    body (record { required = a ∷ []; optional = []; rest = h ∷ []; post = i ∷ []; block = [] }) []
    (on (call on_self (codes "least") (plain (local a) (plain (local i) no_items)) absent) (codes "+")
    (on (local h) (codes "[]") (int (pos 0))))

abbrev pub chooser : Body
chooser = plain_body [] (seq (three (define (codes "least") least) (define (codes "after") after)
    (call on_self (codes "puts")
    (plain (call on_self (codes "after") (plain (int (pos 3)) (plain (int (pos 1)) (plain (int (pos 2)) no_items))) absent)
    no_items) absent)))

-- it is a program of plain forms, methods and blocks within the limits, and both sides end with that output
pub record Prints (b : Body) (out : List ℕ) : Type 0 where
  pub program : IsProgram b
  pub within : first_excess (need b) ≡ None
  pub plain : IsPlainProgram b
  pub evaluates : evaluation (source_of b) [] 400 ≡ Over (Ended out 0)
  pub runs : machine (code_of b) [] 400 ≡ Over (Ended out 0)

abbrev pub IsMethodWitness : Body → Type 0
IsMethodWitness b = Prints b (codes "3\n")

-- def hand(i, &h)
--   h.call(i)
-- end
-- hand(3) do |i|
--   a = i + 1
--   puts a
-- end
-- [4].each do |i|
--   [i, 5].each do |i|
--     a = i + 1
--     puts a
--   end
-- end
abbrev pub teller : Body
teller =
    body (record { required = i ∷ []; optional = []; rest = []; post = []; block = [] }) (a ∷ [])
    (seq (two (set_local a (on (local i) (codes "+") (int (pos 1))))
    (call on_self (codes "puts") (plain (local a) no_items) absent)))

abbrev pub hand : Body
hand =
    body (record { required = i ∷ []; optional = []; rest = []; post = []; block = h ∷ [] }) []
    (on (local h) (codes "call") (local i))

abbrev pub showing : Body
showing =
    body (record { required = i ∷ []; optional = []; rest = []; post = []; block = [] }) []
    (call (to (array (plain (local i) (plain (int (pos 5)) no_items)))) (codes "each") no_items (there (function teller)))

abbrev pub visitor : Body
visitor = plain_body [] (seq (three (define (codes "hand") hand)
    (call on_self (codes "hand") (plain (int (pos 3)) no_items) (there (function teller)))
    (call (to (array (plain (int (pos 4)) no_items))) (codes "each") no_items (there (function showing)))))

abbrev pub IsBlockWitness : Body → Type 0
IsBlockWitness b = Prints b (codes "4\n5\n6\n")

-- def pass(i)
--   yield
--   [i].each do |a|
--     yield a
--   end
-- end
-- pass(2) do |i|
--   puts i
-- end
abbrev pub passer : Body
passer =
    body (record { required = a ∷ []; optional = []; rest = []; post = []; block = [] }) []
    (yield_form (plain (local a) no_items))

abbrev pub pass : Body
pass =
    body (record { required = i ∷ []; optional = []; rest = []; post = []; block = [] }) []
    (seq (two (yield_form no_items)
    (call (to (array (plain (local i) no_items))) (codes "each") no_items (there (function passer)))))

abbrev pub printer : Body
printer =
    body (record { required = i ∷ []; optional = []; rest = []; post = []; block = [] }) []
    (call on_self (codes "puts") (plain (local i) no_items) absent)

abbrev pub yielder : Body
yielder = plain_body [] (seq (two (define (codes "pass") pass)
    (call on_self (codes "pass") (plain (int (pos 2)) no_items) (there (function printer)))))

abbrev pub IsYieldWitness : Body → Type 0
IsYieldWitness b = Prints b (codes "\n2\n")

-- def seek
--   [1, 2, 3].each do |i|
--     next if i < 2
--     return i
--   end
-- end
-- puts seek()
-- [4, 5].each do |i|
--   puts i
--   break
-- end
abbrev pub finder : Body
finder =
    body (record { required = i ∷ []; optional = []; rest = []; post = []; block = [] }) []
    (seq (two (cond (branch (on (local i) (codes "<") (int (pos 2))) (next_form nil) no_branches) nil)
    (return_form (local i))))

abbrev pub stopper : Body
stopper =
    body (record { required = i ∷ []; optional = []; rest = []; post = []; block = [] }) []
    (seq (two (call on_self (codes "puts") (plain (local i) no_items) absent) (break_form nil)))

abbrev pub seek : Body
seek =
    plain_body [] (call (to (array (plain (int (pos 1)) (plain (int (pos 2)) (plain (int (pos 3)) no_items))))) (codes "each")
    no_items (there (function finder)))

abbrev pub seeker : Body
seeker = plain_body [] (seq (three (define (codes "seek") seek)
    (call on_self (codes "puts") (plain (call on_self (codes "seek") no_items absent) no_items) absent)
    (call (to (array (plain (int (pos 4)) (plain (int (pos 5)) no_items)))) (codes "each") no_items
    (there (function stopper)))))

abbrev pub IsExitWitness : Body → Type 0
IsExitWitness b = Prints b (codes "2\n4\n")

-- def add(a, i = 2)
--   a + i
-- end
-- puts add(1)
-- puts add(1, 5)
abbrev pub adder : Body
adder =
    body (record { required = a ∷ []; optional = i ∷ []; rest = []; post = []; block = [] }) []
    (seq (two (set_local i (int (pos 2))) (on (local a) (codes "+") (local i))))

abbrev pub shown : CoreForm → CoreForm
shown e = call on_self (codes "puts") (plain e no_items) absent

abbrev pub defaulter : Body
defaulter = plain_body [] (seq (three (define (codes "add") adder)
    (shown (call on_self (codes "add") (plain (int (pos 1)) no_items) absent))
    (shown (call on_self (codes "add") (plain (int (pos 1)) (plain (int (pos 5)) no_items)) absent))))

abbrev pub IsDefaultWitness : Body → Type 0
IsDefaultWitness b = Prints b (codes "3\n6\n")

-- def alone(i)
--   return [i].each do |i|
--     i + i
--   end
-- end
-- a = [1].each do |i|
--   i + i
-- end
-- puts a, alone(4)
abbrev pub doubler : Body
doubler =
    body (record { required = i ∷ []; optional = []; rest = []; post = []; block = [] }) []
    (on (local i) (codes "+") (local i))

abbrev pub walked : CoreForm → CoreForm
walked e = call (to (array (plain e no_items))) (codes "each") no_items (there (function doubler))

abbrev pub one_alone : Body
one_alone =
    body (record { required = i ∷ []; optional = []; rest = []; post = []; block = [] }) []
    (return_form (walked (local i)))

abbrev pub keeper : Body
keeper = plain_body (a ∷ []) (seq (three (define (codes "alone") one_alone)
    (set_local a (walked (int (pos 1))))
    (call on_self (codes "puts") (plain (local a)
    (plain (call on_self (codes "alone") (plain (int (pos 4)) no_items) absent) no_items)) absent)))

abbrev pub IsValueWitness : Body → Type 0
IsValueWitness b = Prints b (codes "1\n4\n")

-- def keep(&h)
--   h
-- end
-- def counter
--   a = 0
--   keep do
--     a = a + 1
--   end
-- end
-- a = counter()
-- a.call
-- i = 0
-- [3, 4].each do |h|
--   i = i + h
-- end
-- puts i, a.call
abbrev pub keep : Body
keep = body (record { required = []; optional = []; rest = []; post = []; block = h ∷ [] }) [] (local h)

abbrev pub step : Body
step = plain_body [] (set_local a (on (local a) (codes "+") (int (pos 1))))

abbrev pub counter : Body
counter = plain_body (a ∷ []) (seq (two (set_local a (int (pos 0)))
    (call on_self (codes "keep") no_items (there (function step)))))

abbrev pub summing : Body
summing =
    body (record { required = h ∷ []; optional = []; rest = []; post = []; block = [] }) []
    (set_local i (on (local i) (codes "+") (local h)))

abbrev pub ticks : CoreForm
ticks = call (to (local a)) (codes "call") no_items absent

abbrev pub counting : Body
counting = plain_body (a ∷ i ∷ []) (seq (more (define (codes "keep") keep) (more (define (codes "counter") counter)
    (more (set_local a (call on_self (codes "counter") no_items absent)) (more ticks (more (set_local i (int (pos 0)))
    (two (call (to (array (plain (int (pos 3)) (plain (int (pos 4)) no_items)))) (codes "each") no_items
    (there (function summing)))
    (call on_self (codes "puts") (plain (local i) (plain ticks no_items)) absent))))))))

abbrev pub IsClosureWitness : Body → Type 0
IsClosureWitness b = Prints b (codes "7\n2\n")

-- i = 2
-- while i > 0
--   if i < 2
--     puts [i, 4].each { |a| puts twice(a) }
--   else
--     def twice(a)
--       a + a
--     end
--   end
--   i = i - 1
-- end
abbrev pub twice : Body
twice =
    body (record { required = a ∷ []; optional = []; rest = []; post = []; block = [] }) []
    (on (local a) (codes "+") (local a))

abbrev pub doubling : Body
doubling =
    body (record { required = a ∷ []; optional = []; rest = []; post = []; block = [] }) []
    (shown (call on_self (codes "twice") (plain (local a) no_items) absent))

abbrev pub nester : Body
nester = plain_body (i ∷ []) (seq (two (set_local i (int (pos 2)))
    (while_form false (on (local i) (codes ">") (int (pos 0)))
    (seq (two (cond (branch (on (local i) (codes "<") (int (pos 2)))
    (shown (call (to (array (plain (local i) (plain (int (pos 4)) no_items)))) (codes "each") no_items
    (there (function doubling)))) no_branches) (define (codes "twice") twice))
    (set_local i (on (local i) (codes "-") (int (pos 1)))))))))

abbrev pub IsNestingWitness : Body → Type 0
IsNestingWitness b = Prints b (codes "2\n8\n1\n4\n")

-- def pick(h)
--   a = ->(i) do
--     return i + h
--     5
--   end
--   a.call(3) + 10
-- end
-- puts pick(1)
-- ->(i) { puts i }.call
abbrev pub adding : Body
adding =
    body (record { required = i ∷ []; optional = []; rest = []; post = []; block = [] }) []
    (seq (two (return_form (on (local i) (codes "+") (local h))) (int (pos 5))))

abbrev pub pick : Body
pick =
    body (record { required = h ∷ []; optional = []; rest = []; post = []; block = [] }) (a ∷ [])
    (seq (two (set_local a (lambda adding)) (on (on (local a) (codes "call") (int (pos 3))) (codes "+") (int (pos 10)))))

abbrev pub picker : Body
picker = plain_body [] (seq (three (define (codes "pick") pick)
    (shown (call on_self (codes "pick") (plain (int (pos 1)) no_items) absent))
    (call (to (lambda printer)) (codes "call") no_items absent)))

-- it is a plain program within the limits, and both sides end with that line and the exception of a wrong count
pub record IsLambdaWitness (b : Body) : Type 0 where
  pub program : IsProgram b
  pub within : first_excess (need b) ≡ None
  pub plain : IsPlainProgram b
  pub evaluates : evaluation (source_of b) [] 400
      ≡ Over (Uncaught (codes "14\n") (codes "ArgumentError") (codes "wrong number of arguments (given 0, expected 1)"))
  pub runs : machine (code_of b) [] 400
      ≡ Over (Uncaught (codes "14\n") (codes "ArgumentError") (codes "wrong number of arguments (given 0, expected 1)"))

-- def hand(i, &h)
--   h.call(i)
-- end
-- def hand_over(&h)
--   [2].each(&h)
-- end
-- hand_over do |i|
--   puts i
-- end
-- puts hand(3, &:to_s)
abbrev pub over : Body
over =
    body (record { required = []; optional = []; rest = []; post = []; block = h ∷ [] }) []
    (call (to (array (plain (int (pos 2)) no_items))) (codes "each") no_items (there (local h)))

abbrev pub hander : Body
hander = plain_body [] (seq (more (define (codes "hand") hand) (three (define (codes "hand_over") over)
    (call on_self (codes "hand_over") no_items (there (function printer)))
    (shown (call on_self (codes "hand") (plain (int (pos 3)) no_items) (there (sym (codes "to_s"))))))))

abbrev pub IsHandingWitness : Body → Type 0
IsHandingWitness b = Prints b (codes "2\n3\n")

-- def each_of(*a)
--   yield(*a)
-- end
-- def through(*a, &h)
--   each_of(*a, 4, &h)
-- end
-- through(1, *[2]) do |a, i, h|
--   puts a + i + h
-- end
-- puts(*[8])
-- puts hand(*[9], &:to_s)
abbrev pub each_of : Body
each_of =
    body (record { required = []; optional = []; rest = a ∷ []; post = []; block = [] }) []
    (yield_form (splat (local a) no_items))

abbrev pub through : Body
through =
    body (record { required = []; optional = []; rest = a ∷ []; post = []; block = h ∷ [] }) []
    (call on_self (codes "each_of") (splat (local a) (plain (int (pos 4)) no_items)) (there (local h)))

abbrev pub total : Body
total =
    body (record { required = a ∷ i ∷ h ∷ []; optional = []; rest = []; post = []; block = [] }) []
    (shown (on (on (local a) (codes "+") (local i)) (codes "+") (local h)))

abbrev pub spreader : Body
spreader = plain_body [] (seq (more (define (codes "each_of") each_of) (three (define (codes "through") through)
    (call on_self (codes "through") (plain (int (pos 1)) (splat (array (plain (int (pos 2)) no_items)) no_items))
    (there (function total)))
    (seq (three (call on_self (codes "puts") (splat (array (plain (int (pos 8)) no_items)) no_items) absent)
    (define (codes "hand") hand)
    (shown (call on_self (codes "hand") (splat (array (plain (int (pos 9)) no_items)) no_items)
    (there (sym (codes "to_s"))))))))))

abbrev pub IsSpreadWitness : Body → Type 0
IsSpreadWitness b = Prints b (codes "7\n8\n9\n")

-- def puts(*a, &h)
--   super(3, *a, &h)
-- end
-- puts(4)
abbrev pub putter : Body
putter =
    body (record { required = []; optional = []; rest = a ∷ []; post = []; block = h ∷ [] }) []
    (super_form (plain (int (pos 3)) (splat (local a) no_items)) (there (local h)))

abbrev pub overrider : Body
overrider = plain_body [] (seq (two (define (codes "puts") putter) (shown (int (pos 4)))))

abbrev pub IsSuperWitness : Body → Type 0
IsSuperWitness b = Prints b (codes "3\n4\n")
