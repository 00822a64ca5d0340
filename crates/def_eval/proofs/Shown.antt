-- Small programs about what is shown, evaluated: keys, lines, names that aren't found, and messages. Their output is what
-- Ruby gives.
use Rattle.std.specs.Prelude.{◌≡◌, ℕ, pos, List, [], ◌∷◌, ◌++◌, codes}
use mathlib.Core.Path.{refl}
use Rattle.ir_core.specs.CoreForm.{Name, named, int, str, local, exception, set_local, constant, top_constant, array, hash, seq, call, begin_form, class_form, define, CoreForm, body, absent, there, none, more, no_items, plain, splat, no_pairs, pair, no_clauses, clause, to, on_self, bare}
use Rattle.def_calls.specs.Seen.{Over, Ended, Uncaught}
use Rattle.def_eval.specs.Source.{Source, source_of, no_parameters}
use Rattle.def_eval.specs.Transition.{evaluation}
use Rattle.def_eval.proofs.Running.{run}
use Rattle.def_eval.proofs.Writing.{on, puts}

-- s = "a"
-- h = {s => 1}
-- s << "b"
-- puts [*h, [], s]
abbrev pub keying : Source
keying = source_of (body no_parameters ((named (codes "s")) ∷ (named (codes "h")) ∷ [])
    (seq (more (set_local (named (codes "s")) (str (codes "a")))
    (more (set_local (named (codes "h")) (hash (pair (local (named (codes "s"))) (int (pos 1)) no_pairs)))
    (more (on (local (named (codes "s"))) (codes "<<") (str (codes "b")))
    (more (puts (array (splat (local (named (codes "h")))
    (plain (array no_items) (plain (local (named (codes "s"))) no_items))))) none))))))

keying_runs : evaluation keying [] 200 ≡ Over (Ended (codes "a\n1\nab\n") 0)
unfolding run
keying_runs = refl

-- begin
--   e
-- rescue c => e
--   puts e.message
-- end
abbrev telling_failure : CoreForm → Name → CoreForm
telling_failure e c = begin_form e
    (clause (more (constant c) none) (there (set_local (named (codes "e")) exception))
    (puts (call (to (local (named (codes "e")))) (codes "message") no_items absent)) no_clauses) absent absent

-- class A
--   begin
--     C
--   rescue NameError => e
--     puts e.message
--   end
-- end
-- begin
--   ::C
-- rescue NameError => e
--   puts e.message
-- end
-- begin
--   c?
-- rescue NoMethodError => e
--   puts e.message
-- end
-- begin
--   Integer.new
-- rescue NoMethodError => e
--   puts e.message
-- end
abbrev pub naming : Source
naming = source_of (body no_parameters ((named (codes "e")) ∷ [])
    (seq (more (class_form absent (codes "A") absent
    (body no_parameters ((named (codes "e")) ∷ []) (telling_failure (constant (codes "C")) (codes "NameError"))))
    (more (telling_failure (top_constant (codes "C")) (codes "NameError"))
    (more (telling_failure (call bare (codes "c?") no_items absent) (codes "NoMethodError"))
    (more (telling_failure (call (to (constant (codes "Integer"))) (codes "new") no_items absent)
    (codes "NoMethodError")) none))))))

abbrev lines_of_naming : List ℕ
lines_of_naming = codes "uninitialized constant A::C\n" ++ codes "uninitialized constant C\n"
    ++ codes "undefined method 'c?' for Object\n" ++ codes "undefined method 'new' for Class\n"

naming_runs : evaluation naming [] 400 ≡ Over (Ended lines_of_naming 0)
unfolding run
naming_runs = refl

-- e = ArgumentError.new("a")
-- begin
--   raise e, "b"
-- rescue => f
--   puts f.message
-- end
-- puts e.message
abbrev pub raising_another : Source
raising_another = source_of (body no_parameters ((named (codes "e")) ∷ (named (codes "f")) ∷ [])
    (seq (more (set_local (named (codes "e")) (on (constant (codes "ArgumentError")) (codes "new") (str (codes "a"))))
    (more (begin_form
    (call on_self (codes "raise") (plain (local (named (codes "e"))) (plain (str (codes "b")) no_items)) absent)
    (clause none (there (set_local (named (codes "f")) exception))
    (puts (call (to (local (named (codes "f")))) (codes "message") no_items absent)) no_clauses) absent absent)
    (more (puts (call (to (local (named (codes "e")))) (codes "message") no_items absent)) none)))))

raising_another_runs : evaluation raising_another [] 200 ≡ Over (Ended (codes "b\na\n") 0)
unfolding run
raising_another_runs = refl

-- class E < StandardError
--   def to_s
--     "told"
--   end
-- end
-- begin
--   raise E, "x"
-- rescue => e
--   puts e.message
--   p e
-- end
-- raise e
abbrev pub telling : Source
telling = source_of (body no_parameters ((named (codes "e")) ∷ [])
    (seq (more (class_form absent (codes "E") (there (constant (codes "StandardError")))
    (body no_parameters [] (define (codes "to_s") (body no_parameters [] (str (codes "told"))))))
    (more (begin_form
    (call on_self (codes "raise") (plain (constant (codes "E")) (plain (str (codes "x")) no_items)) absent)
    (clause none (there (set_local (named (codes "e")) exception))
    (seq (more (puts (call (to (local (named (codes "e")))) (codes "message") no_items absent))
    (more (call on_self (codes "p") (plain (local (named (codes "e"))) no_items) absent) none))) no_clauses) absent absent)
    (more (call on_self (codes "raise") (plain (local (named (codes "e"))) no_items) absent) none)))))

telling_runs : evaluation telling [] 300 ≡ Over (Uncaught (codes "told\n#<E: told>\n") (codes "E") (codes "told"))
unfolding run
telling_runs = refl
