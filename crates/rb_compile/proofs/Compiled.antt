-- What holds of the code of a form within the limits.
use Rattle.std.proofs.Common.{◌≡◌, refl, ℕ, ◌+◌, ◌^◌, ◌<◌, List, [], ◌∷◌, Option, Some, None, sym, subst, arith, length, length-append, Bool, true, false, cond}
use Rattle.std.specs.Prelude.{MatchOption, codes}
use Rattle.rb_compile.specs.Compiled.{IsCodeOf}
use Rattle.path_core.specs.Form.{Form}
use Rattle.code_generator.specs.Limits.{IsWithin}
use Rattle.rite_code.specs.Code.{Program, IsWhole}
use Rattle.rite_file.specs.File.{canonical, record_of}
use Rattle.code_verifier.specs.Verified.{IsVerified}
use Rattle.rite_code.specs.Spelling.{encoding}
use Rattle.code_generator.specs.Gen.{code_of, nothing_code, width, operations_of, first_free, calls_puts}
use Rattle.code_generator.specs.Implements.{Implements}
use Rattle.code_generator.proofs.Bounds.{within_code}
use Rattle.code_generator.proofs.Bodies.{length_code}
use Rattle.code_generator.proofs.Programs.{either, compiled, code_is_whole, code_verified}
use Rattle.code_generator.proofs.Compiled.{bytes_of}

-- the bytes of the code
code_size : (f : Form) → IsWithin f → length (bytes_of (operations_of f)) < 32768
code_size f w = omega (arith, within_code f w, length_code f)

abbrev main_program : Bool → ℕ → ℕ → List ℕ → Program
main_program puts locals registers code = record {
  version = 2;
  bodies = record {
    locals = locals;
    registers = registers;
    code = code;
    catches = [];
    pool = [];
    symbols =
        cond {A = List (List ℕ)} puts (codes "puts" ∷ []) [];
    children = [];
  } ∷ [];
}

-- the file has few bytes besides the code
short_file : (puts : Bool) (locals registers : ℕ) (code : List ℕ) → length code < 32768
    → length (canonical (main_program puts locals registers code)) < 2 ^ 32
unfolding canonical record_of
short_file true locals registers code lt = simp length-append (omega arith)
short_file false locals registers code lt = simp length-append (omega arith)

short_nothing : length (canonical nothing_code) < 2 ^ 32
unfolding canonical record_of encoding
short_nothing = omega arith

pub short_code : (f : Form) → IsWithin f → length (canonical (code_of f)) < 2 ^ 32
short_code f w = either f (λ (c : Program). length (canonical c) < 2 ^ 32) short_nothing
    (short_file (calls_puts f) (first_free f) (first_free f + width f) (bytes_of (operations_of f)) (code_size f w))

pub implements_of : (o : Option Form) (c : Program) → IsCodeOf c o → MatchOption o ⊥ (Implements c)
implements_of None c h = absurd h
implements_of (Some f) c (w, e) = subst (λ (d : Program). Implements d f) (sym e) (compiled f w)

pub whole_of : (o : Option Form) (c : Program) → IsCodeOf c o → IsWhole c
whole_of None c h = absurd h
whole_of (Some f) c (w, e) = subst IsWhole (sym e) (code_is_whole f w)

pub verified_of : (o : Option Form) (c : Program) → IsCodeOf c o → IsVerified c
verified_of None c h = absurd h
verified_of (Some f) c (w, e) = subst IsVerified (sym e) (code_verified f w)

pub short_of : (o : Option Form) (c : Program) → IsCodeOf c o → length (canonical c) < 2 ^ 32
short_of None c h = absurd h
short_of (Some f) c (w, e) = subst (λ (d : Program). length (canonical d) < 2 ^ 32) (sym e) (short_code f w)

version_code : (f : Form) → (code_of f).version ≡ 2
version_code f = either f (λ (c : Program). c.version ≡ 2) refl refl

pub version_of : (o : Option Form) (c : Program) → IsCodeOf c o → c.version ≡ 2
version_of None c h = absurd h
version_of (Some f) c (w, e) = subst (λ (d : Program). d.version ≡ 2) (sym e) (version_code f)
