-- The code of a text, and when a text isn't compiled.
use Rattle.std.specs.Prelude.{◌≡◌, ◌⊎◌, ℕ, ◌<◌, List, length, Option, Some, None, is_some, true}
use Rattle.path_core.specs.Form.{Form}
use Rattle.code_generator.specs.Limits.{IsWithin}
use Rattle.rite_code.specs.Code.{Program}
use Rattle.rb_syntax.specs.declared.count.Count.{Count}
use Rattle.rb_syntax.specs.declared.count.Count.TheVariants.{Source}
use Rattle.rb_syntax.specs.declared.outside.Outside.{Outside as Construct}
use Rattle.rb_syntax.specs.declared.outside.Outside.TheVariants.{Unbuilt}
use Rattle.ir_core.specs.CoreForm.{Body}
use Rattle.rb_front.specs.Front as front
use Rattle.rb_front.specs.Front.{core_of}
use Rattle.rb_front.specs.declared.error.FrontError.TheVariants as front_errors
use Rattle.ir_counts.specs.Counts.{need}
use Rattle.ir_counts.specs.Limits.{first_excess}
use Rattle.code_generator.specs.Built.{built}
use Rattle.code_generator.specs.Gen.{code_of}
use Rattle.rb_compile.specs.declared.error.CompileError.{CompileError}
use Rattle.rb_compile.specs.declared.error.CompileError.TheVariants.{TooLarge, Syntax, TooDeep, Outside, NoMemory}

-- the code of a form within the limits of the generator
abbrev pub IsCodeOf : Program → Option Form → Type 0
IsCodeOf code None = ⊥
IsCodeOf code (Some f) = IsWithin f × (code ≡ code_of f)

-- the text has a core that the generator doesn't build
abbrev pub IsUnbuilt : List ℕ → Construct → ℕ → Type 0
IsUnbuilt text what at = (what ≡ Unbuilt) × (at ≡ 0) × (c : Body) × (core_of text ≡ Some c) × (built c ≡ None)

-- the text has a core that the generator builds, of which this is the first count that exceeds its limit
abbrev pub IsPastLimit : List ℕ → Count → ℕ → Type 0
IsPastLimit text what count =
    (c : Body) × (core_of text ≡ Some c) × (is_some (built c) ≡ true)
    × (first_excess (need c) ≡ Some (record { what = what; count = count }))

-- A long text, none of the language, a construct outside the language, one that isn't built, a count past its limit.
-- No two causes hold of one text, and none of a text that has a program (see Causes).
abbrev pub Refuses : List ℕ → CompileError → Type 0
Refuses text (TooLarge what count) =
    (16777216 < length text) × (what ≡ Source) × (count ≡ 16777217) ⊎ IsPastLimit text what count
Refuses text (Syntax at) = front.Refuses text (front_errors.Syntax at)
Refuses text TooDeep = front.Refuses text front_errors.TooDeep
Refuses text (Outside what at) = front.Refuses text (front_errors.Outside what at) ⊎ IsUnbuilt text what at
Refuses text NoMemory = Unit {0}
