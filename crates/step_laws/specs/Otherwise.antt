-- A program with a body that has an `else` and no clauses, which a break leaves, and what is shown of it.
--
-- while true
--   begin
--     a = 3
--   else
--     puts a
--     break
--   end
-- end
use Rattle.std.specs.Prelude.{[], ◌∷◌, codes, pos, false}
use Rattle.ir_core.specs.CoreForm.{nil, truth, int, local, set_local, seq, while_form, begin_form, break_form, no_clauses, Body, plain_body, absent, there, two}
use Rattle.step_laws.specs.Example.{a, shown, Prints}

abbrev pub leaver : Body
leaver =
    plain_body (a ∷ []) (while_form false truth (begin_form (set_local a (int (pos 3))) no_clauses
    (there (seq (two (shown (local a)) (break_form nil)))) absent))

abbrev pub IsElseWitness : Body → Type 0
IsElseWitness b = Prints b (codes "3\n")
