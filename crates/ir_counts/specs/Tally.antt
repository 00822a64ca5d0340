-- The tally of a body's forms.
use Rattle.std.specs.Prelude.{◌+◌, max, List, [], ◌∷◌}
use Rattle.ir_core.specs.CoreForm.{CoreForm}
use Rattle.ir_counts.specs.Sets.{with_optional, with_optional_integer}
use Rattle.ir_counts.specs.Tables.{Added, added}
use Rattle.ir_walk.specs.Walk.{Step, at, enter, leave}
use Rattle.ir_counts.specs.declared.tally.Tally.{Tally}

abbrev pub no_form : Tally
no_form = record { kind = 0; hidden = 0; code = 0; handlers = 0; children = 0; symbols = []; texts = []; integers = [] }

-- the tally with the numbers that one more form adds
abbrev pub with_numbers : Tally → Added → Tally
with_numbers t a = record {
  kind = max t.kind a.kind;
  hidden = max t.hidden a.hidden;
  code = t.code + a.code;
  handlers = t.handlers + a.handlers;
  children = t.children + a.children;
  symbols = t.symbols;
  texts = t.texts;
  integers = t.integers;
}

-- the tally with the names, the text and the integer of one more form
abbrev pub with_values : Tally → Added → Tally
with_values t a = record {
  kind = t.kind;
  hidden = t.hidden;
  code = t.code;
  handlers = t.handlers;
  children = t.children;
  symbols = with_optional (with_optional t.symbols a.name) a.old_name;
  texts = with_optional t.texts a.text;
  integers = with_optional_integer t.integers a.integer;
}

-- the tally with what one more form adds
abbrev pub with_added : Tally → Added → Tally
with_added t a = with_values (with_numbers t a) a

abbrev pub counted : Tally → CoreForm → Tally
counted t f = with_added t (added f)

-- the tally with the forms of more steps
abbrev pub tallied : Tally → List Step → Tally
tallied t [] = t
tallied t (at f ∷ ss) = tallied (counted t f) ss
tallied t (enter b ∷ ss) = tallied t ss
tallied t (leave ∷ ss) = tallied t ss
