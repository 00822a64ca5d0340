-- Reading the records of bodies: from bytes and a place to a value and the place after it.
use Rattle.std.specs.Prelude.{ℕ, ℤ, zero, suc, ◌+◌, ◌-◌, Bool, true, false, not, ◌&&◌, ◌||◌, List, [], ◌∷◌, ◌++◌, length, take, drop, Result, Ok, Err, nat_lt, nat_eq, if◌then◌else◌}
use Rattle.std.specs.Int.{Width, byte_len, from_be_bytes, cast_signed, w8, w16, w32, w64}
use Rattle.std.specs.Str.{bytes_eq}
use Rattle.std.specs.Ordering.{int_eq}
use Rattle.std.specs.List.{list_any}
use Rattle.rite_code.specs.declared.code.CatchEntry.{CatchEntry}
use Rattle.rite_code.specs.declared.code.PoolItem.{PoolItem}
use Rattle.rite_code.specs.declared.code.PoolItem.TheVariants.{Int, Text}
use Rattle.rite_file.specs.declared.error.LoadError.{LoadError}
use Rattle.rite_file.specs.declared.error.LoadError.TheVariants.{BadRecord}
use Rattle.rite_file.specs.declared.counts.Counts.{Counts}
use Rattle.rite_file.specs.declared.records.Record.{Record}
use Rattle.rb_base.specs.Result.{◌>>=◌}

-- a reader: the value at a place of the bytes and the place after it, or the place of the field at fault
abbrev pub Reader : Type 0 → Type 0
Reader A = List ℕ → ℕ → Result (A × ℕ) LoadError

-- a value that stands at the place is refused where a test of it fails
abbrev pub guarded : {A : Type 0} → Bool → ℕ → A → Result A LoadError
guarded true at x = Ok x
guarded false at x = Err (BadRecord at)

-- ---- fields

-- so many bytes
unfoldable pub bytes_at : ℕ → Reader (List ℕ)
bytes_at n bytes at = guarded (not (nat_lt (length bytes - at) n)) at (take n (drop at bytes), at + n)

unfoldable pub number_at : Width → Reader ℕ
number_at w bytes at = bytes_at (byte_len w) bytes at >>= λ x. Ok (from_be_bytes w x.0, x.1)

-- a number that meets a test
unfoldable pub tested_at : Width → (ℕ → Bool) → Reader ℕ
tested_at w test bytes at = number_at w bytes at >>= λ n. guarded (test n.0) at n

-- a length in four bytes, and that many bytes
unfoldable pub text_at : Reader (List ℕ)
text_at bytes at = number_at w32 bytes at >>= λ n. bytes_at n.0 bytes n.1

-- ---- the parts of a record

-- there is a register of self, the locals are registers, and version 1 has at most 256 of these
unfoldable pub are_registers : ℕ → ℕ → ℕ → Bool
are_registers version locals n = not (nat_lt n locals) && (not (nat_eq version 1) || not (nat_lt 256 n))

unfoldable pub counts_at : ℕ → Reader Counts
counts_at version bytes at =
    tested_at w16 (nat_lt 0) bytes at >>= λ locals.
    tested_at w16 (are_registers version locals.0) bytes locals.1 >>= λ registers.
    number_at w16 bytes registers.1 >>= λ children.
    number_at w16 bytes children.1 >>= λ catches.
    Ok (record { locals = locals.0; registers = registers.0; children = children.0; catches = catches.0 }, catches.1)

unfoldable pub catch_at : Reader CatchEntry
catch_at bytes at =
    tested_at w8 (λ n. nat_lt n 2) bytes at >>= λ kind.
    number_at w32 bytes kind.1 >>= λ begin.
    number_at w32 bytes begin.1 >>= λ end.
    number_at w32 bytes end.1 >>= λ target.
    Ok (record { rescue = nat_eq kind.0 0; begin = begin.0; end = end.0; target = target.0 }, target.1)

unfoldable pub int_at : Reader ℤ
int_at bytes at = number_at w64 bytes at >>= λ n. Ok (cast_signed w64 n.0, n.1)

unfoldable pub item_at : Reader PoolItem
item_at bytes at =
    tested_at w8 (λ n. nat_lt n 2) bytes at >>= λ tag.
    if nat_eq tag.0 0 then (text_at bytes tag.1 >>= λ x. Ok (Text x.0, x.1)) else
    (int_at bytes tag.1 >>= λ n. Ok (Int n.0, n.1))

abbrev pub item_eq : PoolItem → PoolItem → Bool
item_eq (Int m) (Int n) = int_eq m n
item_eq (Text x) (Text y) = bytes_eq x y
item_eq (Int m) (Text y) = false
item_eq (Text x) (Int n) = false

-- ---- lists

-- so many values after those seen before, each refused where it doesn't fit to those
unfoldable pub list_at : {A : Type 0} → (List A → A → Bool) → Reader A → List A → ℕ → Reader (List A)
list_at fits read seen zero bytes at = Ok (seen, at)
list_at fits read seen (suc n) bytes at = read bytes at >>= λ x. guarded (fits seen x.0) at x >>= λ y. list_at fits
    read (seen ++ y.0 ∷ []) n bytes y.1

abbrev pub any : {A : Type 0} → List A → A → Bool
any seen x = true

abbrev pub is_new : {A : Type 0} → (A → A → Bool) → List A → A → Bool
is_new eq seen x = not (list_any (λ y. eq y x) seen)

unfoldable pub catches_at : ℕ → Reader (List CatchEntry)
catches_at n bytes at = list_at any catch_at [] n bytes at

unfoldable pub pool_at : Reader (List PoolItem)
pool_at bytes at = number_at w16 bytes at >>= λ n. list_at (is_new item_eq) item_at [] n.0 bytes n.1

unfoldable pub symbols_at : Reader (List (List ℕ))
symbols_at bytes at = number_at w16 bytes at >>= λ n. list_at (is_new bytes_eq) text_at [] n.0 bytes n.1

-- ---- records

abbrev pub record_with : Counts → List ℕ → List CatchEntry → List PoolItem → List (List ℕ) → Record
record_with c code catches pool symbols = record {
  body = record {
    locals = c.locals;
    registers = c.registers;
    code = code;
    catches = catches;
    pool = pool;
    symbols = symbols;
    children = [];
  };
  children = c.children;
}

-- what stands after the size of a record
unfoldable pub fields_at : ℕ → Reader Record
fields_at version bytes at =
    counts_at version bytes at >>= λ c.
    text_at bytes c.1 >>= λ code.
    catches_at c.0.catches bytes code.1 >>= λ catches.
    pool_at bytes catches.1 >>= λ pool.
    symbols_at bytes pool.1 >>= λ symbols.
    Ok (record_with c.0 code.0 catches.0 pool.0 symbols.0, symbols.1)

-- the size is that of the record
unfoldable pub record_at : ℕ → Reader Record
record_at version bytes at =
    number_at w32 bytes at >>= λ size.
    fields_at version bytes size.1 >>= λ r.
    guarded (nat_eq (at + size.0) r.1) at r

-- at most so many records after those seen before, where so many are awaited: each is one of them, and its children
-- are awaited after it
unfoldable pub records_at : ℕ → ℕ → List Record → ℕ → Reader (List Record)
records_at most version seen zero bytes at = Ok (seen, at)
records_at zero version seen (suc awaited) bytes at = Err (BadRecord at)
records_at (suc most) version seen (suc awaited) bytes at = record_at version bytes at >>= λ r. records_at most
    version (seen ++ r.0 ∷ []) (awaited + r.0.children) bytes r.1
