-- Small programs about blocks, lambdas and parameters, evaluated: their output is what Ruby gives.
use Rattle.std.specs.Prelude.{◌≡◌, pos, [], ◌∷◌, codes}
use mathlib.Core.Path.{refl}
use Rattle.ir_core.specs.CoreForm.{named, hidden, pattern, nil, int, local, exception, set_local, constant, array, seq, cond, call, yield_form, function, lambda, begin_form, return_form, break_form, next_form, define, item, body, absent, there, none, more, no_items, plain, no_branches, branch, no_clauses, clause, to, on_self, bare}
use Rattle.def_calls.specs.Seen.{Over, Ended}
use Rattle.def_eval.specs.Source.{Source, source_of, no_parameters}
use Rattle.def_eval.specs.Transition.{evaluation}
use Rattle.def_eval.proofs.Running.{run}
use Rattle.def_eval.proofs.Writing.{on, puts, requiring}

-- def counter
--   n = 0
--   [-> { n = n + 1 }, -> { n }]
-- end
-- c = counter
-- c[0].call
-- c[0].call
-- puts c[1].call
abbrev pub closures : Source
closures = source_of (body no_parameters ((named (codes "c")) ∷ [])
    (seq (more (define (codes "counter") (body no_parameters ((named (codes "n")) ∷ [])
    (seq (more (set_local (named (codes "n")) (int (pos 0)))
    (more (array (plain (lambda (body no_parameters []
    (set_local (named (codes "n")) (on (local (named (codes "n"))) (codes "+") (int (pos 1))))))
    (plain (lambda (body no_parameters [] (local (named (codes "n"))))) no_items))) none)))))
    (more (set_local (named (codes "c")) (call bare (codes "counter") no_items absent))
    (more (call (to (on (local (named (codes "c"))) (codes "[]") (int (pos 0)))) (codes "call") no_items absent)
    (more (call (to (on (local (named (codes "c"))) (codes "[]") (int (pos 0)))) (codes "call") no_items absent)
    (more (puts (call (to (on (local (named (codes "c"))) (codes "[]") (int (pos 1)))) (codes "call") no_items absent))
    none)))))))

closures_runs : evaluation closures [] 150 ≡ Over (Ended (codes "2\n") 0)
unfolding run
closures_runs = refl

-- def f
--   proc { return 1 }
-- end
-- begin
--   f.call
-- rescue LocalJumpError => e
--   puts e.message
-- end
abbrev pub orphan : Source
orphan = source_of (body no_parameters ((named (codes "e")) ∷ [])
    (seq (more (define (codes "f") (body no_parameters []
    (call on_self (codes "proc") no_items (there (function (body no_parameters [] (return_form (int (pos 1)))))))))
    (more (begin_form (call (to (call bare (codes "f") no_items absent)) (codes "call") no_items absent)
    (clause (more (constant (codes "LocalJumpError")) none) (there (set_local (named (codes "e")) exception))
    (puts (call (to (local (named (codes "e")))) (codes "message") no_items absent)) no_clauses) absent absent) none))))

orphan_runs : evaluation orphan [] 200 ≡ Over (Ended (codes "unexpected return\n") 0)
unfolding run
orphan_runs = refl

-- [[1, [2, 3]]].each { |a, (b, c)| puts a + b + c }
abbrev pub patterns : Source
patterns = source_of (body no_parameters [] (call
    (to (array (plain (array (plain (int (pos 1))
    (plain (array (plain (int (pos 2)) (plain (int (pos 3)) no_items))) no_items))) no_items))) (codes "each") no_items
    (there (function (body (requiring ((named (codes "a")) ∷ (pattern 1) ∷ []))
    ((named (codes "b")) ∷ (named (codes "c")) ∷ [])
    (seq (more (seq (more (set_local (hidden 0) (local (pattern 1)))
    (more (set_local (named (codes "b")) (item (local (hidden 0)) (pos 0)))
    (more (set_local (named (codes "c")) (item (local (hidden 0)) (pos 1))) (more (local (hidden 0)) none)))))
    (more (puts (on (on (local (named (codes "a"))) (codes "+") (local (named (codes "b")))) (codes "+")
    (local (named (codes "c"))))) none))))))))

patterns_runs : evaluation patterns [] 150 ≡ Over (Ended (codes "6\n") 0)
unfolding run
patterns_runs = refl

-- def f(a, b = a + 1, c = a + b)
--   puts c
-- end
-- f(1)
-- f(1, 5)
abbrev pub defaults : Source
defaults = source_of (body no_parameters [] (seq
    (more (define (codes "f") (body (record {
      required = (named (codes "a")) ∷ [];
      optional =
          (named (codes "b")) ∷ (named (codes "c")) ∷ [];
      rest = [];
      post = [];
      block = [];
    }) []
    (seq (more (set_local (named (codes "b")) (on (local (named (codes "a"))) (codes "+") (int (pos 1))))
    (more (set_local (named (codes "c")) (on (local (named (codes "a"))) (codes "+") (local (named (codes "b")))))
    (more (puts (local (named (codes "c")))) none))))))
    (more (call on_self (codes "f") (plain (int (pos 1)) no_items) absent)
    (more (call on_self (codes "f") (plain (int (pos 1)) (plain (int (pos 5)) no_items)) absent) none)))))

defaults_runs : evaluation defaults [] 200 ≡ Over (Ended (codes "3\n6\n") 0)
unfolding run
defaults_runs = refl

-- def f
--   puts yield(1, 2)
-- end
-- f { |a, b|
--   next 9 if a == 2
--   a + b
-- }
-- x = [1, 2, 3].each { |y| break y * 5 if y == 2 }
-- puts x
abbrev pub yielding : Source
yielding = source_of (body no_parameters ((named (codes "x")) ∷ [])
    (seq (more (define (codes "f") (body no_parameters []
    (puts (yield_form (plain (int (pos 1)) (plain (int (pos 2)) no_items))))))
    (more (call on_self (codes "f") no_items (there
    (function (body (requiring ((named (codes "a")) ∷ (named (codes "b")) ∷ [])) []
    (seq (more (cond (branch (on (local (named (codes "a"))) (codes "==") (int (pos 2))) (next_form (int (pos 9)))
    no_branches) nil) (more (on (local (named (codes "a"))) (codes "+") (local (named (codes "b")))) none)))))))
    (more (set_local (named (codes "x")) (call
    (to (array (plain (int (pos 1)) (plain (int (pos 2)) (plain (int (pos 3)) no_items))))) (codes "each") no_items
    (there (function (body (requiring ((named (codes "y")) ∷ [])) []
    (cond (branch (on (local (named (codes "y"))) (codes "==") (int (pos 2)))
    (break_form (on (local (named (codes "y"))) (codes "*") (int (pos 5)))) no_branches) nil))))))
    (more (puts (local (named (codes "x")))) none))))))

yielding_runs : evaluation yielding [] 300 ≡ Over (Ended (codes "3\n10\n") 0)
unfolding run
yielding_runs = refl

-- l = lambda { |x| return x * 2 }
-- puts l.call(4)
-- begin
--   l.call
-- rescue ArgumentError => e
--   puts e.message
-- end
-- puts [1, [2, [3]], nil]
abbrev pub lambdas : Source
lambdas = source_of (body no_parameters ((named (codes "l")) ∷ (named (codes "e")) ∷ [])
    (seq (more (set_local (named (codes "l"))
    (call on_self (codes "lambda") no_items (there
    (function (body (requiring ((named (codes "x")) ∷ [])) []
    (return_form (on (local (named (codes "x"))) (codes "*") (int (pos 2)))))))))
    (more (puts (on (local (named (codes "l"))) (codes "call") (int (pos 4))))
    (more (begin_form (call (to (local (named (codes "l")))) (codes "call") no_items absent)
    (clause (more (constant (codes "ArgumentError")) none) (there (set_local (named (codes "e")) exception))
    (puts (call (to (local (named (codes "e")))) (codes "message") no_items absent)) no_clauses) absent absent)
    (more (puts (array (plain (int (pos 1)) (plain
    (array (plain (int (pos 2)) (plain (array (plain (int (pos 3)) no_items)) no_items))) (plain nil no_items)))))
    none))))))

lambdas_runs : evaluation lambdas [] 400 ≡ Over
    (Ended (codes "8\nwrong number of arguments (given 0, expected 1)\n1\n2\n3\n\n") 0)
unfolding run
lambdas_runs = refl
