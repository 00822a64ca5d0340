-- What the rules ask of an assignment, the definitions of the parser ask alike.
use Rattle.std.proofs.Common.{◌≡◌, Bool, true, false, ◌||◌, Option, Some, None, Ok, if◌then◌else◌, refl, sym}
use Rattle.parser_tree.specs.Node.{Node}
use Rattle.parser_tokens.specs.declared.operators.Assignment.{Assignment}
use Rattle.parser_tokens.specs.declared.operators.Assignment.TheVariants as signs
use Rattle.parser_tokens.specs.declared.word.Modifier.{Modifier}
use Rattle.parser_tokens.specs.declared.word.Modifier.TheVariants as modifiers
use Rattle.parser_ahead.specs.Primary.{of_value}
use Rattle.parser_ahead.specs.declared.primary.DoOwner.{DoOwner}
use Rattle.parser_ahead.specs.declared.primary.Place.{Place}
use Rattle.parser_ahead.specs.declared.primary.Place.TheVariants as places
use Rattle.parser_operands.specs.Operators as operators
use Rattle.parser_operands.specs.Operators.{rescued}
use Rattle.parser_phrases.specs.Phrases as phrases
use Rattle.parser_forms.specs.Reading.{Names, Tokens, Read, Inside}
use Rattle.parser_laws.specs.Rules.{is_rescue, takes_list}
use Rattle.parser_laws.proofs.Results.{differs}

pub same_rescue : (m : Option Modifier) → operators.is_rescue m ≡ is_rescue m
same_rescue None = refl
same_rescue (Some modifiers.Rescue) = refl
same_rescue (Some modifiers.If) = refl
same_rescue (Some modifiers.Unless) = refl
same_rescue (Some modifiers.While) = refl
same_rescue (Some modifiers.Until) = refl

pub a_rescue : (m : Option Modifier) → is_rescue m ≡ true → m ≡ Some modifiers.Rescue
a_rescue (Some modifiers.Rescue) h = refl
a_rescue (Some modifiers.If) h = differs (sym h)
a_rescue (Some modifiers.Unless) h = differs (sym h)
a_rescue (Some modifiers.While) h = differs (sym h)
a_rescue (Some modifiers.Until) h = differs (sym h)
a_rescue None h = differs (sym h)

-- a value, and what a modifier rescue behind it stands for
abbrev pub Whole : Inside → DoOwner → Bool → Node → Names → Tokens → Read Node
Whole i owner b n names ts = if b then rescued i n names ts owner else Ok (n, names, ts)

pub same_takes : (a : Assignment) (place : Place) → phrases.takes_list a place ≡ takes_list a place
same_takes signs.Plain places.Statement = refl
same_takes signs.Plain places.Command = refl
same_takes signs.Plain places.Argument = refl
same_takes (signs.Operation o) places.Statement = refl
same_takes (signs.Operation o) places.Command = refl
same_takes (signs.Operation o) places.Argument = refl

-- where the value may be a list it stands where a command may
pub statement_only : (a : Assignment) (place : Place) → takes_list a place ≡ true → of_value place ≡ places.Command
statement_only a places.Statement h = refl
statement_only a places.Command h = refl
statement_only signs.Plain places.Argument h = differs (sym h)
statement_only (signs.Operation o) places.Argument h = differs (sym h)

pub or_false_parts : (a b : Bool) → (a || b) ≡ false → (a ≡ false) × (b ≡ false)
or_false_parts true b h = differs h
or_false_parts false b h = (refl, h)
