-- Small programs about values, input and fibers, evaluated: their output is what Ruby gives.
use Rattle.std.specs.Prelude.{◌≡◌, pos, [], ◌∷◌, codes, false}
use mathlib.Core.Path.{refl}
use Rattle.ir_core.specs.CoreForm.{named, hidden, int, str, local, exception, set_local, constant, array, range, text, seq, while_form, call, function, begin_form, item, rest_of, body, absent, there, none, more, no_items, plain, splat, no_clauses, clause, to, on_self, bare}
use Rattle.def_calls.specs.Seen.{Over, Ended}
use Rattle.def_eval.specs.Source.{Source, source_of, no_parameters}
use Rattle.def_eval.specs.Transition.{evaluation}
use Rattle.def_eval.proofs.Running.{run}
use Rattle.def_eval.proofs.Writing.{on, puts, requiring}

-- puts 1 + 2
abbrev pub sum : Source
sum = source_of (body no_parameters [] (puts (on (int (pos 1)) (codes "+") (int (pos 2)))))

sum_runs : evaluation sum [] 30 ≡ Over (Ended (codes "3\n") 0)
unfolding run
sum_runs = refl

-- f = Fiber.new {
--   [1, 2].each { |x| Fiber.yield(x) }
--   3
-- }
-- puts f.resume
-- puts f.resume
-- puts f.resume
abbrev pub fibers : Source
fibers = source_of (body no_parameters ((named (codes "f")) ∷ [])
    (seq (more (set_local (named (codes "f"))
    (call (to (constant (codes "Fiber"))) (codes "new") no_items
    (there (function (body no_parameters [] (seq
    (more (call (to (array (plain (int (pos 1)) (plain (int (pos 2)) no_items)))) (codes "each") no_items
    (there (function (body (requiring ((named (codes "x")) ∷ [])) []
    (on (constant (codes "Fiber")) (codes "yield") (local (named (codes "x")))))))) (more (int (pos 3)) none))))))))
    (more (puts (call (to (local (named (codes "f")))) (codes "resume") no_items absent))
    (more (puts (call (to (local (named (codes "f")))) (codes "resume") no_items absent))
    (more (puts (call (to (local (named (codes "f")))) (codes "resume") no_items absent)) none))))))

fibers_runs : evaluation fibers [] 300 ≡ Over (Ended (codes "1\n2\n3\n") 0)
unfolding run
fibers_runs = refl

-- f = Fiber.new { raise "lost" }
-- begin
--   f.resume
-- rescue => e
--   puts e.message
-- end
-- puts f.alive?
abbrev pub raising_through : Source
raising_through = source_of (body no_parameters ((named (codes "f")) ∷ (named (codes "e")) ∷ [])
    (seq (more (set_local (named (codes "f"))
    (call (to (constant (codes "Fiber"))) (codes "new") no_items
    (there (function (body no_parameters [] (call on_self (codes "raise") (plain (str (codes "lost")) no_items)
    absent)))))) (more (begin_form (call (to (local (named (codes "f")))) (codes "resume") no_items absent)
    (clause none (there (set_local (named (codes "e")) exception))
    (puts (call (to (local (named (codes "e")))) (codes "message") no_items absent)) no_clauses) absent absent)
    (more (puts (call (to (local (named (codes "f")))) (codes "alive?") no_items absent)) none)))))

raising_through_runs : evaluation raising_through [] 200 ≡ Over (Ended (codes "lost\nfalse\n") 0)
unfolding run
raising_through_runs = refl

-- a = 1
-- b = 2
-- a, b = b, a
-- puts a
-- c, *d = [3, 4, 5]
-- puts d.length
-- puts "#{c}#{b}"
-- puts [*1..3].length
abbrev pub assigning : Source
assigning = source_of (body no_parameters ((named (codes "a")) ∷ (named (codes "b")) ∷ (named (codes "c")) ∷
    (named (codes "d")) ∷ []) (seq (more (set_local (named (codes "a")) (int (pos 1)))
    (more (set_local (named (codes "b")) (int (pos 2)))
    (more (seq (more (set_local (hidden 0) (array
    (plain (local (named (codes "b"))) (plain (local (named (codes "a"))) no_items))))
    (more (set_local (named (codes "a")) (item (local (hidden 0)) (pos 0)))
    (more (set_local (named (codes "b")) (item (local (hidden 0)) (pos 1))) (more (local (hidden 0)) none)))))
    (more (puts (local (named (codes "a")))) (more
    (seq (more (set_local (hidden 0) (array (plain (int (pos 3)) (plain (int (pos 4)) (plain (int (pos 5)) no_items)))))
    (more (set_local (named (codes "c")) (item (local (hidden 0)) (pos 0)))
    (more (set_local (named (codes "d")) (rest_of (local (hidden 0)) 1 0)) (more (local (hidden 0)) none)))))
    (more (puts (call (to (local (named (codes "d")))) (codes "length") no_items absent))
    (more (puts (text (more (call (to (local (named (codes "c")))) (codes "to_s") no_items absent)
    (more (call (to (local (named (codes "b")))) (codes "to_s") no_items absent) none))))
    (more (puts (call (to (array (splat (range (int (pos 1)) (int (pos 3)) false) no_items))) (codes "length") no_items
    absent)) none))))))))))

assigning_runs : evaluation assigning [] 350 ≡ Over (Ended (codes "2\n2\n31\n3\n") 0)
unfolding run
assigning_runs = refl

-- while x = gets
--   puts x
-- end
-- p x, 1
abbrev pub reading : Source
reading = source_of (body no_parameters ((named (codes "x")) ∷ [])
    (seq (more (while_form false (set_local (named (codes "x")) (call bare (codes "gets") no_items absent))
    (puts (local (named (codes "x"))))) (more
    (call on_self (codes "p") (plain (local (named (codes "x"))) (plain (int (pos 1)) no_items)) absent) none))))

reading_runs : evaluation reading (codes "a\nbc") 200 ≡ Over (Ended (codes "a\nbc\nnil\n1\n") 0)
unfolding run
reading_runs = refl
