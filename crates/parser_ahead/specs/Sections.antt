-- Which sections follow one another in a compound form.
use Rattle.std.specs.Prelude.{Bool, true, false, if◌then◌else◌, Option, Some, None}
use Rattle.rb_syntax.specs.declared.keyword.Keyword.{Keyword}
use Rattle.rb_syntax.specs.declared.keyword.Keyword.TheVariants as keywords
use Rattle.parser_tokens.specs.declared.word.Word.{Word}
use Rattle.parser_tokens.specs.declared.word.Word.TheVariants as words
use Rattle.parser_ahead.specs.declared.sections.Compound.{Compound}
use Rattle.parser_ahead.specs.declared.sections.Compound.TheVariants as compounds
use Rattle.parser_ahead.specs.declared.sections.SectionKind.{SectionKind}
use Rattle.parser_ahead.specs.declared.sections.SectionKind.TheVariants as kinds

abbrev pub first_section : Compound → SectionKind
first_section compounds.If = kinds.Test
first_section compounds.Unless = kinds.Test
first_section compounds.While = kinds.LoopTest
first_section compounds.Until = kinds.LoopTest
first_section compounds.For = kinds.Walk
first_section compounds.Case = kinds.Subject
first_section compounds.Body = kinds.Plain

-- a rescue clause or else may follow in a body
abbrev pub takes_rescue : SectionKind → Bool
takes_rescue kinds.Plain = true
takes_rescue kinds.Rescue = true
takes_rescue _ = false

abbrev pub takes_ensure : SectionKind → Bool
takes_ensure kinds.Plain = true
takes_ensure kinds.Rescue = true
takes_ensure kinds.Else = true
takes_ensure _ = false

abbrev pub takes_clause : SectionKind → Bool
takes_clause kinds.Subject = true
takes_clause kinds.When = true
takes_clause kinds.Pattern = true
takes_clause _ = false

abbrev pub takes_case_else : SectionKind → Bool
takes_case_else kinds.When = true
takes_case_else kinds.Pattern = true
takes_case_else _ = false

abbrev pub takes_else : SectionKind → Bool
takes_else kinds.Test = true
takes_else _ = false

abbrev pub when : Bool → SectionKind → Option SectionKind
when may k = if may then Some k else None

abbrev pub next_in_body : SectionKind → Keyword → Option SectionKind
next_in_body before keywords.Rescue = when (takes_rescue before) kinds.Rescue
next_in_body before keywords.Else = when (takes_rescue before) kinds.Else
next_in_body before keywords.Ensure = when (takes_ensure before) kinds.Ensure
next_in_body before _ = None

abbrev pub next_in_case : SectionKind → Keyword → Option SectionKind
next_in_case before keywords.When = when (takes_clause before) kinds.When
next_in_case before keywords.In = when (takes_clause before) kinds.Pattern
next_in_case before keywords.Else = when (takes_case_else before) kinds.Else
next_in_case before _ = None

abbrev pub next_in_if : SectionKind → Keyword → Option SectionKind
next_in_if before keywords.Elsif = when (takes_else before) kinds.Test
next_in_if before keywords.Else = when (takes_else before) kinds.Else
next_in_if before _ = None

abbrev pub next_in_unless : SectionKind → Keyword → Option SectionKind
next_in_unless before keywords.Else = when (takes_else before) kinds.Else
next_in_unless before _ = None

abbrev pub next_of : Compound → SectionKind → Keyword → Option SectionKind
next_of compounds.If before k = next_in_if before k
next_of compounds.Unless before k = next_in_unless before k
next_of compounds.Case before k = next_in_case before k
next_of compounds.Body before k = next_in_body before k
next_of compounds.While before k = None
next_of compounds.Until before k = None
next_of compounds.For before k = None

-- the section that a word begins behind another one
abbrev pub next_section : Compound → SectionKind → Word → Option SectionKind
next_section compound before (words.Key k) = next_of compound before k
next_section compound before _ = None
