-- Small programs about classes and methods, evaluated: their output is what Ruby gives.
use Rattle.std.specs.Prelude.{◌≡◌, pos, [], ◌∷◌, codes}
use mathlib.Core.Path.{refl}
use Rattle.ir_core.specs.CoreForm.{named, self_ref, int, str, sym, local, own, set_local, ivar, set_ivar, constant, in_constant, set_constant, seq, call, super_form, function, begin_form, define, define_on, class_form, module_form, alias_form, undef_form, body, absent, there, none, more, no_items, plain, no_clauses, clause, to, on_self, bare}
use Rattle.def_calls.specs.Seen.{Over, Ended}
use Rattle.def_eval.specs.Source.{Source, source_of, no_parameters}
use Rattle.def_eval.specs.Transition.{evaluation}
use Rattle.def_eval.proofs.Running.{run}
use Rattle.def_eval.proofs.Writing.{on, puts, requiring}

-- class A
--   def f(x)
--     puts x
--   end
-- end
-- class B < A
--   def f(x)
--     x = x + 1
--     super
--   end
-- end
-- B.new.f(4)
abbrev pub supers : Source
supers = source_of (body no_parameters [] (seq
    (more (class_form absent (codes "A") absent
    (body no_parameters [] (define (codes "f")
    (body (requiring ((named (codes "x")) ∷ [])) [] (puts (local (named (codes "x"))))))))
    (more (class_form absent (codes "B") (there (constant (codes "A")))
    (body no_parameters [] (define (codes "f")
    (body (requiring ((named (codes "x")) ∷ [])) []
    (seq (more (set_local (named (codes "x")) (on (local (named (codes "x"))) (codes "+") (int (pos 1))))
    (more (super_form (plain (own (named (codes "x"))) no_items) absent) none)))))))
    (more (on (call (to (constant (codes "B"))) (codes "new") no_items absent) (codes "f") (int (pos 4))) none)))))

supers_runs : evaluation supers [] 200 ≡ Over (Ended (codes "5\n") 0)
unfolding run
supers_runs = refl

-- class C
--   define_method(:f) { |x| puts x + @n }
--   def initialize(n)
--     @n = n
--   end
-- end
-- C.new(3).f(4)
abbrev pub defining : Source
defining = source_of (body no_parameters [] (seq
    (more (class_form absent (codes "C") absent
    (body no_parameters [] (seq (more (call on_self (codes "define_method") (plain (sym (codes "f")) no_items)
    (there (function (body (requiring ((named (codes "x")) ∷ [])) []
    (puts (on (local (named (codes "x"))) (codes "+") (ivar (codes "@n"))))))))
    (more (define (codes "initialize") (body (requiring ((named (codes "n")) ∷ [])) []
    (set_ivar (codes "@n") (local (named (codes "n")))))) none)))))
    (more (on (on (constant (codes "C")) (codes "new") (int (pos 3))) (codes "f") (int (pos 4))) none))))

defining_runs : evaluation defining [] 200 ≡ Over (Ended (codes "7\n") 0)
unfolding run
defining_runs = refl

-- class C
--   def method_missing(name, x)
--     puts name
--     puts x
--   end
-- end
-- C.new.anything(7)
abbrev pub missing_method : Source
missing_method = source_of (body no_parameters []
    (seq (more (class_form absent (codes "C") absent
    (body no_parameters [] (define (codes "method_missing")
    (body (requiring ((named (codes "name")) ∷ (named (codes "x")) ∷ [])) []
    (seq (more (puts (local (named (codes "name")))) (more (puts (local (named (codes "x")))) none)))))))
    (more (on (call (to (constant (codes "C"))) (codes "new") no_items absent) (codes "anything") (int (pos 7)))
    none))))

missing_method_runs : evaluation missing_method [] 200 ≡ Over (Ended (codes "anything\n7\n") 0)
unfolding run
missing_method_runs = refl

-- class Integer
--   def +(other)
--     self * other
--   end
-- end
-- puts 3 + 4
abbrev pub redefined : Source
redefined = source_of (body no_parameters [] (seq
    (more (class_form absent (codes "Integer") absent
    (body no_parameters [] (define (codes "+")
    (body (requiring ((named (codes "other")) ∷ [])) [] (on self_ref (codes "*") (local (named (codes "other"))))))))
    (more (puts (on (int (pos 3)) (codes "+") (int (pos 4)))) none))))

redefined_runs : evaluation redefined [] 120 ≡ Over (Ended (codes "12\n") 0)
unfolding run
redefined_runs = refl

-- X = 1
-- module M
--   Y = 2
--   class C
--     def f
--       puts X + Y
--     end
--   end
-- end
-- M::C.new.f
-- puts M::C
abbrev pub constants : Source
constants = source_of (body no_parameters [] (seq
    (more (set_constant (codes "X") (int (pos 1)))
    (more (module_form absent (codes "M") (body no_parameters []
    (seq (more (set_constant (codes "Y") (int (pos 2)))
    (more (class_form absent (codes "C") absent
    (body no_parameters [] (define (codes "f")
    (body no_parameters [] (puts (on (constant (codes "X")) (codes "+") (constant (codes "Y")))))))) none)))))
    (more (call (to (call (to (in_constant (constant (codes "M")) (codes "C"))) (codes "new") no_items absent))
    (codes "f") no_items absent) (more (puts (in_constant (constant (codes "M")) (codes "C"))) none))))))

constants_runs : evaluation constants [] 250 ≡ Over (Ended (codes "3\nM::C\n") 0)
unfolding run
constants_runs = refl

-- class C
--   def self.make
--     new
--   end
--   def old
--     puts "old"
--   end
--   alias fresh old
--   undef old
-- end
-- c = C.make
-- c.fresh
-- begin
--   c.old
-- rescue NoMethodError
--   puts "gone"
-- end
abbrev pub singletons : Source
singletons = source_of (body no_parameters ((named (codes "c")) ∷ [])
    (seq (more (class_form absent (codes "C") absent
    (body no_parameters [] (seq (more (define_on self_ref (codes "make")
    (body no_parameters [] (call bare (codes "new") no_items absent)))
    (more (define (codes "old") (body no_parameters [] (puts (str (codes "old")))))
    (more (alias_form (codes "fresh") (codes "old")) (more (undef_form (codes "old")) none)))))))
    (more (set_local (named (codes "c")) (call (to (constant (codes "C"))) (codes "make") no_items absent))
    (more (call (to (local (named (codes "c")))) (codes "fresh") no_items absent)
    (more (begin_form (call (to (local (named (codes "c")))) (codes "old") no_items absent)
    (clause (more (constant (codes "NoMethodError")) none) absent (puts (str (codes "gone"))) no_clauses) absent absent)
    none))))))

singletons_runs : evaluation singletons [] 350 ≡ Over (Ended (codes "old\ngone\n") 0)
unfolding run
singletons_runs = refl
