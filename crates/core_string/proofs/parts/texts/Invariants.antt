use Rattle.std.proofs.Common.{◌≡◌, map, take}
use Rattle.rb_string.specs.Parts.{text_of}
use Rattle.core_string.proofs.parts.texts.Given as goal

abbrev pub invariant-parts : goal.invariant-parts
invariant-parts l = l.texts.items ≡ map (text_of l.bytes) (take l.place l.parts)
