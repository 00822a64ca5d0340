-- The core of a program:
--
--     class A
--       def m(a, b = a)
--         while b do a.each { |x| b = x }; break end
--       rescue
--         retry
--       ensure
--         b
--       end
--     end
use Rattle.std.specs.Prelude.{false, List, [], ◌∷◌, codes}
use Rattle.ir_core.specs.CoreForm as form
use Rattle.ir_core.specs.CoreForm.{Local, Parameters, CoreForm, Body, plain_body, two}

abbrev pub a : Local
a = form.named (codes "a")

abbrev pub b : Local
b = form.named (codes "b")

abbrev pub x : Local
x = form.named (codes "x")

abbrev pub parameters : List Local → List Local → Parameters
parameters required optional = record { required = required; optional = optional; rest = []; post = []; block = [] }

abbrev pub block : CoreForm
block = form.function (form.body (parameters (x ∷ []) []) [] (form.set_local b (form.local x)))

abbrev pub loop : CoreForm
loop =
    form.while_form false (form.local b)
    (form.seq (two
    (form.call (form.to (form.local a)) (codes "each") form.no_items (form.there block)) (form.break_form form.nil)))

abbrev pub attempt : CoreForm
attempt =
    form.begin_form loop (form.clause form.none form.absent form.retry form.no_clauses) form.absent
    (form.there (form.local b))

abbrev pub method : Body
method =
    form.body (parameters (a ∷ []) (b ∷ [])) [] (form.seq (two (form.set_local b (form.local a)) attempt))

abbrev pub class : Body
class = plain_body [] (form.define (codes "m") method)

abbrev pub main : Body
main = plain_body [] (form.class_form form.absent (codes "A") form.absent class)

-- a word that leaves where there is nothing to leave
abbrev pub stray_word : Body
stray_word = plain_body [] (form.break_form form.nil)
