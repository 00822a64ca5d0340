-- The text of a refusal: the name of its kind, and what it speaks of.
use Rattle.std.specs.Prelude.{ℕ, List, ◌++◌, codes, decimal, map, nat_le, ◌&&◌, if◌then◌else◌}
use Rattle.rb_refusal.specs.declared.refusal.Refusal.{Refusal}
use Rattle.rb_refusal.specs.declared.refusal.Refusal.TheVariants.{Syntax, TooDeep, Outside, TooLarge, NotRite, Foreign, Truncated, BadSection, BadRecord, Bad}
use Rattle.rb_syntax.specs.Outside as outsides
use Rattle.rb_syntax.specs.Count as counts
use Rattle.rite_code.specs.Cause as causes

-- a byte that is no visible character prints as a dot
abbrev pub visible : ℕ → ℕ
visible c = if nat_le 33 c && nat_le c 126 then c else 46

abbrev pub visible_name : List ℕ → List ℕ
visible_name name = map visible name

abbrev pub refusal_text : Refusal → List ℕ
refusal_text (Syntax at) = codes "Syntax at " ++ decimal at
refusal_text TooDeep = codes "TooDeep"
refusal_text (Outside what at) = codes "Outside " ++ outsides.name_of what ++ codes " at " ++ decimal at
refusal_text (TooLarge what count) = codes "TooLarge " ++ counts.name_of what ++ codes " " ++ decimal count
refusal_text NotRite = codes "NotRite"
refusal_text (Foreign name) = codes "Foreign " ++ visible_name name
refusal_text (Truncated at) = codes "Truncated at " ++ decimal at
refusal_text (BadSection at) = codes "BadSection at " ++ decimal at
refusal_text (BadRecord at) = codes "BadRecord at " ++ decimal at
refusal_text (Bad irep at cause) = codes "Bad irep " ++ decimal irep ++ codes " at " ++ decimal at ++ codes " "
    ++ causes.name_of cause
