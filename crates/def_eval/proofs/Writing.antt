-- Short words for the core forms of the programs here.
use Rattle.std.specs.Prelude.{List, [], ℕ, codes}
use Rattle.ir_core.specs.CoreForm.{Local, CoreForm, call, Items, no_items, plain, absent, to, on_self, Parameters}

-- a call with one item
abbrev pub on : CoreForm → List ℕ → CoreForm → CoreForm
on r name e = call (to r) name (plain e no_items) absent

abbrev pub puts : CoreForm → CoreForm
puts e = call on_self (codes "puts") (plain e no_items) absent

abbrev pub requiring : List Local → Parameters
requiring xs = record { required = xs; optional = []; rest = []; post = []; block = [] }
