-- A program with a `for`, a pattern among the parameters of a block, and a rest parameter without a name, and what is
-- shown of it.
--
-- for i in [1, 2]
--   puts i
-- end
-- def last(*, i)
--   i
-- end
-- [[[3, 4], 5]].each do |(a, h), i|
--   puts a + h + i
-- end
-- puts last(8, 9)
use Rattle.std.specs.Prelude.{[], ◌∷◌, codes, pos}
use Rattle.ir_core.specs.CoreForm.{hidden, pattern, rest, CoreForm, int, local, set_local, array, seq, call, function, define, item, Body, body, plain_body, absent, there, more, two, plain, no_items, to, on_self}
use Rattle.step_laws.specs.Example.{a, h, i, on, three, shown, Prints}

-- the body of the `for`, whose parameter stands for its target
abbrev pub showing_each : Body
showing_each =
    body (record { required = pattern 0 ∷ []; optional = []; rest = []; post = []; block = [] }) []
    (seq (two (set_local i (local (pattern 0))) (shown (local i))))

abbrev pub last : Body
last = body (record { required = []; optional = []; rest = rest ∷ []; post = i ∷ []; block = [] }) [] (local i)

-- the Array that is given for the pattern is kept, and its elements are assigned
abbrev pub taken_apart : CoreForm
taken_apart = seq (more (set_local (hidden 0) (local (pattern 0)))
    (three (set_local a (item (local (hidden 0)) (pos 0))) (set_local h (item (local (hidden 0)) (pos 1)))
    (local (hidden 0))))

abbrev pub adding_all : Body
adding_all =
    body (record { required = pattern 0 ∷ i ∷ []; optional = []; rest = []; post = []; block = [] }) (a ∷ h ∷ [])
    (seq (two taken_apart (shown (on (on (local a) (codes "+") (local h)) (codes "+") (local i)))))

abbrev pub pair_of : CoreForm → CoreForm → CoreForm
pair_of e f = array (plain e (plain f no_items))

abbrev pub walker : Body
walker = plain_body (i ∷ []) (seq (more
    (call (to (pair_of (int (pos 1)) (int (pos 2)))) (codes "each") no_items (there (function showing_each)))
    (three (define (codes "last") last)
    (call (to (array (plain (pair_of (pair_of (int (pos 3)) (int (pos 4))) (int (pos 5))) no_items))) (codes "each") no_items
    (there (function adding_all)))
    (shown (call on_self (codes "last") (plain (int (pos 8)) (plain (int (pos 9)) no_items)) absent)))))

abbrev pub IsUnnamedWitness : Body → Type 0
IsUnnamedWitness b = Prints b (codes "1\n2\n12\n9\n")
