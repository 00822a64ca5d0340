-- What holds of the code of each form within the limits.
use Rattle.std.proofs.Common.{Bool, true, false, cond}
use Rattle.path_core.specs.Form.{Form, strict, local, set_local, seq, cond as cond_form, while_form, none, more}
use Rattle.code_generator.specs.Limits.{IsWithin}
use Rattle.rite_code.specs.Code.{Program, IsWhole}
use Rattle.code_verifier.specs.Verified.{IsVerified}
use Rattle.code_generator.specs.Gen.{is_nothing, nothing_code, full_code, code_of}
use Rattle.code_generator.specs.Implements.{Implements}
use Rattle.code_generator.proofs.Bodies.{full_is_whole}
use Rattle.code_generator.proofs.Compiled.{full_implements}
use Rattle.code_generator.proofs.Verified.{full_verified}
use Rattle.code_generator.proofs.Nothing.{nothing_implements, nothing_is_whole, nothing_verified}

-- a property of the code of a program without a line and of every other code
pub either : (f : Form) (P : Program → Type 0) → P nothing_code → P (full_code f) → P (code_of f)
either f P nothing full = by (is_nothing f)
  where
    by : (b : Bool) → P (cond b nothing_code (full_code f))
    by true = nothing
    by false = full

-- the theorem
pub compiled : (f : Form) → IsWithin f → Implements (code_of f) f
compiled (seq none) w = nothing_implements
compiled (seq (more e es)) w = full_implements (seq (more e es)) w
compiled (strict a es) w = full_implements (strict a es) w
compiled (local x) w = full_implements (local x) w
compiled (set_local x e) w = full_implements (set_local x e) w
compiled (cond_form t a b) w = full_implements (cond_form t a b) w
compiled (while_form t b) w = full_implements (while_form t b) w

pub code_is_whole : (f : Form) → IsWithin f → IsWhole (code_of f)
code_is_whole f w = either f IsWhole nothing_is_whole (full_is_whole f w)

pub code_verified : (f : Form) → IsWithin f → IsVerified (code_of f)
code_verified f w = either f IsVerified nothing_verified (full_verified f w)
