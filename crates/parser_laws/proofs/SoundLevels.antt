-- The rules with any number of levels are sound.
use Rattle.std.proofs.Common.{ℕ, zero, suc, length, refl}
use Rattle.parser_ahead.specs.declared.primary.Place.TheVariants as places
use Rattle.parser_forms.specs.Reading.{Inside}
use Rattle.rb_parser.specs.Levels.{nothing, level_above, levels}
use Rattle.parser_laws.proofs.Results.{err_is_none}
use Rattle.parser_laws.proofs.Sound.{IsSound}
use Rattle.parser_laws.proofs.SoundOperators.{operation_sound}
use Rattle.parser_laws.proofs.SoundPhrases.{value_phrase_sound, argument_sound, value_negation_sound}
use Rattle.parser_laws.proofs.SoundArguments.{listing_sound}
use Rattle.parser_laws.proofs.SoundStatements.{expression_sound, statements_sound}
use Rattle.parser_laws.proofs.Sections.{not_bare, statements_group, sections_none}

no_rule : IsSound nothing
no_rule = record {
  statements = λ names known ts rest n h is. err_is_none (length ts) (n, known, rest) h;
  grouped = λ names known ts rest n h. err_is_none (length ts) (n, known, rest) h;
  expression = λ names known ts rest owner n h is. err_is_none (length ts) (n, known, rest) h;
  negation = λ names known ts rest owner n s h is. err_is_none (length ts) ((n, s), known, rest) h;
  phrase = λ names known ts rest place owner x h plain is. err_is_none (length ts) (x, known, rest) h;
  argument = λ names known ts rest owner n h is. err_is_none (length ts) (n, known, rest) h;
  operation = λ names known ts rest loosest owner n inner h is. err_is_none (length ts) (n, known, rest) h;
  listing = λ names known ts rest owner l h clean. err_is_none (length ts) (l, known, rest) h;
  sections = λ names known ts rest form ss h is. err_is_none (length ts) (ss, known, rest) h;
}

above : (i : Inside) → IsSound i → IsSound (level_above i)
above i sound = record {
  statements = statements_sound i sound;
  grouped = λ names known ts rest n h. not_bare n (statements_group i names ts n known rest h);
  expression = λ names known ts rest owner n h is. expression_sound i owner sound places.Command names ts n known rest h
      is;
  negation = λ names known ts rest owner n s h is. value_negation_sound i sound places.Command owner names ts refl
      (n, s) known rest h is;
  phrase = λ names known ts rest place owner x h plain is. value_phrase_sound i sound place owner names ts plain x known
      rest h is;
  argument = argument_sound i sound;
  operation = operation_sound i sound;
  listing = λ names known ts rest owner l h clean. listing_sound i sound owner names ts l known rest h clean;
  sections = λ names known ts rest form ss h is. sections_none i names known ts rest form ss h;
}

pub levels_sound : (n : ℕ) → IsSound (levels n)
levels_sound zero = no_rule
levels_sound (suc n) = above (levels n) (levels_sound n)
