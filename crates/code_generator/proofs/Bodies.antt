-- The code of a form is a program of one body, within the bounds of a file.
use Rattle.std.proofs.Common.{◌≡◌, ◌+◌, ◌<◌, ◌^◌, [], ◌∷◌, refl, length, arith, Bool, true, false, if◌then◌else◌, inr}
use Rattle.std.specs.Prelude.{codes}
use Rattle.std.specs.List.{All}
use Rattle.std.proofs.lemmas.List.Elements.{All-cons, All-nil}
use Rattle.path_core.specs.Form.{Form}
use Rattle.code_generator.specs.Names.{names_of}
use Rattle.code_generator.specs.Limits.{IsWithin}
use Rattle.rite_code.specs.Code.{AreDistinct, IsText, IsItem, IsBody, none, node, IsWhole}
use Rattle.rite_code.specs.declared.operation.Operation.TheVariants.{Stop}
use Rattle.code_generator.specs.Gen.{gen, len, first_free, calls_puts, operations_of, full_body, full_code}
use Rattle.code_generator.proofs.Bounds.{within_code}
use Rattle.code_generator.proofs.Pieces.{total_append, gen_len}
use Rattle.code_generator.proofs.Compiled.{bytes_of, length_bytes}

pub length_code : (f : Form) → length (bytes_of (operations_of f)) ≡ len f + 1
length_code f = omega (
  arith,
  length_bytes (operations_of f),
  gen_len (names_of f) f (first_free f) 0,
  total_append (gen (names_of f) f (first_free f) 0) (Stop ∷ []),
)

symbols_few : (b : Bool) → length (if b then codes "puts" ∷ [] else []) < 2 ^ 16
symbols_few true = omega arith
symbols_few false = omega arith

symbols_short : (b : Bool) → All IsText (if b then codes "puts" ∷ [] else [])
symbols_short true = All-cons IsText (codes "puts") [] (omega arith) (All-nil IsText)
symbols_short false = All-nil IsText

symbols_apart : (b : Bool) → AreDistinct (if b then codes "puts" ∷ [] else [])
symbols_apart true = (All-nil _, tt)
symbols_apart false = tt

body_is : (f : Form) → IsWithin f → IsBody 2 (full_body f)
body_is f w = record {
  has_self = omega arith;
  locals = omega arith;
  narrow = λ e. absurd (cc);
  code = omega (arith, length_code f, within_code f w);
  catches = omega arith;
  pool_count = omega arith;
  pool_items = All-nil IsItem;
  pool = tt;
  symbol_count = symbols_few (calls_puts f);
  symbol_texts = symbols_short (calls_puts f);
  symbols = symbols_apart (calls_puts f);
  child_count = omega arith;
}

pub full_is_whole : (f : Form) → IsWithin f → IsWhole (full_code f)
full_is_whole f w = record {
  version = inr refl;
  count = omega arith;
  each = All-cons (IsBody 2) (full_body f) [] (body_is f w) (All-nil (IsBody 2));
  tree = node none;
}
