-- A text and the bytes of its file.
use Rattle.std.proofs.Common.{◌≡◌, ℕ, List, Option, Some, None, MatchOption, refl}
use Rattle.path_core.specs.Form.{Form}
use Rattle.rite_code.specs.Code.{Program, IsWhole}
use Rattle.rb_compile.specs.Language.{program_of}
use Rattle.rite_file.specs.File.{Spells}
use Rattle.code_verifier.specs.Verified.{IsVerified}
use Rattle.code_generator.specs.Implements.{Implements}
use Rattle.rite_tool.specs.Making.{Encodes}

there_is : (o : Option Form) (P : Form → Type 0) → MatchOption o ⊥ P → (f : Form) × (o ≡ Some f) × P f
there_is None P h = absurd h
there_is (Some f) P h = (f, refl, h)

pub encodes : (text bytes : List ℕ) (code : Program) → MatchOption (program_of text) ⊥ (Implements code) → IsWhole code
    → code.version ≡ 2 → IsVerified code → Spells bytes code → Encodes text bytes code
encodes text bytes code implements whole version verified spelled =
    let found = there_is (program_of text) (Implements code) implements in
    record {
      form = found.0;
      program = found.1;
      implements = found.2;
      whole = whole;
      version = version;
      verified = verified;
      spelled = spelled;
    }
