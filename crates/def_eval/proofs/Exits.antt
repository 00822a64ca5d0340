-- Small programs about exits, evaluated: their output is what Ruby gives.
use Rattle.std.specs.Prelude.{◌≡◌, pos, [], ◌∷◌, codes, false, true}
use mathlib.Core.Path.{refl}
use Rattle.ir_core.specs.CoreForm.{named, nil, truth, int, str, local, exception, set_local, constant, array, seq, cond, while_form, call, function, begin_form, return_form, break_form, retry, define, body, absent, there, none, more, no_items, plain, no_branches, branch, no_clauses, clause, to, on_self, bare}
use Rattle.def_calls.specs.Seen.{Over, Ended, Uncaught}
use Rattle.def_eval.specs.Source.{Source, source_of, no_parameters}
use Rattle.def_eval.specs.Transition.{evaluation}
use Rattle.def_eval.proofs.Running.{run}
use Rattle.def_eval.proofs.Writing.{on, puts, requiring}

-- def f
--   [1, 2].each { |x|
--     begin
--       return x
--     ensure
--       puts "e"
--     end
--   }
--   puts "no"
-- end
-- puts f
abbrev pub returning : Source
returning = source_of (body no_parameters [] (seq
    (more (define (codes "f") (body no_parameters []
    (seq (more (call (to (array (plain (int (pos 1)) (plain (int (pos 2)) no_items)))) (codes "each") no_items
    (there (function (body (requiring ((named (codes "x")) ∷ [])) []
    (begin_form (return_form (local (named (codes "x")))) no_clauses absent (there (puts (str (codes "e")))))))))
    (more (puts (str (codes "no"))) none))))) (more (puts (call bare (codes "f") no_items absent)) none))))

returning_runs : evaluation returning [] 150 ≡ Over (Ended (codes "e\n1\n") 0)
unfolding run
returning_runs = refl

-- n = 0
-- begin
--   n = n + 1
--   raise "x" if n < 3
--   puts n
-- rescue
--   retry
-- end
abbrev pub retrying : Source
retrying = source_of (body no_parameters ((named (codes "n")) ∷ [])
    (seq (more (set_local (named (codes "n")) (int (pos 0)))
    (more (begin_form (seq (more (set_local (named (codes "n"))
    (on (local (named (codes "n"))) (codes "+") (int (pos 1))))
    (more (cond (branch (on (local (named (codes "n"))) (codes "<") (int (pos 3)))
    (call on_self (codes "raise") (plain (str (codes "x")) no_items) absent) no_branches) nil)
    (more (puts (local (named (codes "n")))) none)))) (clause none absent retry no_clauses) absent absent) none))))

retrying_runs : evaluation retrying [] 250 ≡ Over (Ended (codes "3\n") 0)
unfolding run
retrying_runs = refl

-- n = 0
-- begin
--   n = n + 1
--   raise "x" if n < 3
--   puts n
-- rescue (n < 2 ? (retry) : StandardError) => [][(retry if n < 3)]
--   puts "no"
-- end
-- puts "end"
abbrev pub retrying_early : Source
retrying_early = source_of (body no_parameters ((named (codes "n")) ∷ [])
    (seq (more (set_local (named (codes "n")) (int (pos 0)))
    (more (begin_form (seq (more (set_local (named (codes "n"))
    (on (local (named (codes "n"))) (codes "+") (int (pos 1))))
    (more (cond (branch (on (local (named (codes "n"))) (codes "<") (int (pos 3)))
    (call on_self (codes "raise") (plain (str (codes "x")) no_items) absent) no_branches) nil)
    (more (puts (local (named (codes "n")))) none))))
    (clause (more (cond (branch (on (local (named (codes "n"))) (codes "<") (int (pos 2))) retry no_branches)
    (constant (codes "StandardError"))) none)
    (there (call (to (array no_items)) (codes "[]=") (plain (cond (branch (on (local (named (codes "n"))) (codes "<") (int (pos 3)))
    retry no_branches) nil) (plain exception no_items)) absent))
    (puts (str (codes "no"))) no_clauses) absent absent) (more (puts (str (codes "end"))) none)))))

retrying_early_runs : evaluation retrying_early [] 250 ≡ Over (Ended (codes "3\nend\n") 0)
unfolding run
retrying_early_runs = refl

-- x = while true
--   begin
--     break 5
--   ensure
--     puts "e"
--   end
-- end
-- puts x
abbrev pub breaking : Source
breaking = source_of (body no_parameters ((named (codes "x")) ∷ [])
    (seq (more (set_local (named (codes "x"))
    (while_form false truth (begin_form (break_form (int (pos 5))) no_clauses absent (there (puts (str (codes "e")))))))
    (more (puts (local (named (codes "x")))) none))))

breaking_runs : evaluation breaking [] 100 ≡ Over (Ended (codes "e\n5\n") 0)
unfolding run
breaking_runs = refl

-- puts 1
-- raise ArgumentError, "bad"
abbrev pub uncaught : Source
uncaught = source_of (body no_parameters [] (seq
    (more (puts (int (pos 1))) (more (call on_self (codes "raise")
    (plain (constant (codes "ArgumentError")) (plain (str (codes "bad")) no_items)) absent) none))))

uncaught_runs : evaluation uncaught [] 120 ≡ Over (Uncaught (codes "1\n") (codes "ArgumentError") (codes "bad"))
unfolding run
uncaught_runs = refl

-- begin
--   raise "x"
-- ensure
--   puts "e"
--   exit 3
-- end
abbrev pub exiting : Source
exiting = source_of (body no_parameters [] (begin_form
    (call on_self (codes "raise") (plain (str (codes "x")) no_items) absent) no_clauses absent
    (there (seq (more (puts (str (codes "e")))
    (more (call on_self (codes "exit") (plain (int (pos 3)) no_items) absent) none))))))

exiting_runs : evaluation exiting [] 120 ≡ Over (Ended (codes "e\n") 3)
unfolding run
exiting_runs = refl

-- def f(x)
--   begin
--     raise x, "m" if x
--     puts "a"
--   rescue TypeError, ArgumentError => e
--     puts e.message
--   else
--     puts "b"
--   ensure
--     puts "c"
--   end
-- end
-- f(nil)
-- f(ArgumentError)
abbrev pub rescuing : Source
rescuing = source_of (body no_parameters [] (seq
    (more (define (codes "f") (body (requiring ((named (codes "x")) ∷ [])) ((named (codes "e")) ∷ [])
    (begin_form (seq (more (cond (branch (local (named (codes "x")))
    (call on_self (codes "raise") (plain (local (named (codes "x"))) (plain (str (codes "m")) no_items)) absent)
    no_branches) nil) (more (puts (str (codes "a"))) none)))
    (clause (more (constant (codes "TypeError")) (more (constant (codes "ArgumentError")) none))
    (there (set_local (named (codes "e")) exception))
    (puts (call (to (local (named (codes "e")))) (codes "message") no_items absent)) no_clauses)
    (there (puts (str (codes "b")))) (there (puts (str (codes "c")))))))
    (more (call on_self (codes "f") (plain nil no_items) absent)
    (more (call on_self (codes "f") (plain (constant (codes "ArgumentError")) no_items) absent) none)))))

rescuing_runs : evaluation rescuing [] 400 ≡ Over (Ended (codes "a\nb\nc\nm\nc\n") 0)
unfolding run
rescuing_runs = refl

-- n = 0
-- loop {
--   n = n + 1
--   raise StopIteration if n == 2
-- }
-- puts n
-- 3.times { |i| print i }
-- puts
abbrev pub looping : Source
looping = source_of (body no_parameters ((named (codes "n")) ∷ [])
    (seq (more (set_local (named (codes "n")) (int (pos 0)))
    (more (call on_self (codes "loop") no_items
    (there (function (body no_parameters [] (seq
    (more (set_local (named (codes "n")) (on (local (named (codes "n"))) (codes "+") (int (pos 1))))
    (more (cond (branch (on (local (named (codes "n"))) (codes "==") (int (pos 2)))
    (call on_self (codes "raise") (plain (constant (codes "StopIteration")) no_items) absent) no_branches) nil)
    none))))))) (more (puts (local (named (codes "n"))))
    (more (call (to (int (pos 3))) (codes "times") no_items
    (there (function (body (requiring ((named (codes "i")) ∷ [])) []
    (call on_self (codes "print") (plain (local (named (codes "i"))) no_items) absent)))))
    (more (call bare (codes "puts") no_items absent) none)))))))

looping_runs : evaluation looping [] 400 ≡ Over (Ended (codes "2\n012\n") 0)
unfolding run
looping_runs = refl
