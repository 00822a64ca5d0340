-- What a context is seen as.
use Rattle.gen_forms.specs.declared.context.Context as made
use Rattle.gen_forms.specs.Gen.{Context}

abbrev pub context_of : made.Context → Context
context_of c = record {
  kind_of = c.kind;
  scopes = c.scopes.now;
  symbols = c.tally.now.symbols;
  integers = c.tally.now.integers;
  texts = c.tally.now.texts;
  loop = c.around;
  caught = c.caught;
  body_start = c.body_start;
}
