-- The implementations of the outside over real streams and files, which tell nothing of contents.
use Rattle.std.specs.Prelude.{ℕ, Bool}

-- a source over a reader: the reader, how many calls failed, and whether the end of the input was met
pub record ReaderState (R : Type 0) : Type 0 where
  pub reader : R
  pub faults : ℕ
  pub ended : Bool

-- a sink over a writer: the writer, and how many calls failed
pub record WriterState (W : Type 0) : Type 0 where
  pub writer : W
  pub faults : ℕ

-- files on a disk: how many loads failed, and how many stores, of all names
pub record DiskState : Type 0 where
  pub load_faults : ℕ
  pub store_faults : ℕ
