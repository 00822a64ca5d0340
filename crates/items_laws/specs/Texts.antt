-- Parts of a String that a block is called with.
use Rattle.std.specs.Prelude.{◌≡◌, ℕ, suc, ◌+◌, ◌-◌, ℤ, pos, List, [], ◌∷◌, length, map, slice_get, nat_eq, true, false, if◌then◌else◌, Option, Some, None}
use Rattle.rb_value.specs.declared.value.Value.TheVariants.{Int, Obj}
use Rattle.rb_value.specs.declared.value.Value.{Value}
use Rattle.rb_value.specs.declared.value.ObjId.{ObjId}
use Rattle.rb_value.specs.declared.kind.Kind.TheVariants as kind
use Rattle.rb_value.specs.declared.kind.RangeContents.{RangeContents}
use Rattle.rb_value.specs.declared.kind.RangeEnds.TheVariants as range
use Rattle.rb_value.specs.declared.core_class.CoreClass.TheVariants as class
use Rattle.def_core.specs.Parts.{text_at}
use Rattle.def_core.specs.Store.{core, next_number}
use Rattle.rb_store.specs.Held.{Held}
use Rattle.heap.specs.Made.{with_new}
use Rattle.iter_items.specs.declared.source.Source.{Source}
use Rattle.iter_items.specs.declared.source.Source.TheVariants as source
use Rattle.core_iter.specs.Writing.{newline}
use Rattle.items_laws.specs.Run.{Turn}
use Rattle.items_laws.specs.Items.{IsValue, calls_of, last_heap}
use Rattle.items_laws.specs.Numbers.{places_from}
use Rattle.items_laws.specs.Read.{heaps_before}

-- each byte of a text alone
abbrev pub characters : List ℕ → List (List ℕ)
characters text = map (λ x. x ∷ []) text

-- its lines, each up to the newline that ends it

abbrev pub with_first : ℕ → List (List ℕ) → List (List ℕ)
with_first x [] = (x ∷ []) ∷ []
with_first x (l ∷ ls) = (x ∷ l) ∷ ls

abbrev pub lines : List ℕ → List (List ℕ)
lines [] = []
lines (x ∷ text) = if nat_eq x newline then (x ∷ []) ∷ lines text else with_first x (lines text)

-- a new String of each part, made in the next of these heaps
abbrev pub texts_made : List (List ℕ) → List Held → List Held
texts_made [] hs = []
texts_made (p ∷ parts) [] = []
texts_made (p ∷ parts) (h ∷ hs) = with_new h (core class.String) (kind.String p) ∷ texts_made parts hs

-- The block is called with a new String of each part, made when the answer before has come, and the String is given.
pub record HandsTexts (held : Held) (s b : ObjId) (parts : List (List ℕ)) (ts : List Turn) (v : Value) (after : Held)
    : Type 0 where
  pub called : calls_of ts ≡ map (λ h. Some (b, Obj (next_number h.store) ∷ [])) (heaps_before held ts)
  pub made : map (λ t. t.wanted.held) ts ≡ texts_made parts (heaps_before held ts)
  pub each : length ts ≡ length parts
  pub result : IsValue (last_heap held ts) (Obj s) v after

-- The block is called with a new String of each byte from one to another, made when the answer before has come, and the Range
-- is given.
pub record HandsOnBytes (held : Held) (first last : ℕ) (b : ObjId) (ts : List Turn) (recv v : Value) (after : Held)
    : Type 0 where
  pub called : calls_of ts ≡ map (λ h. Some (b, Obj (next_number h.store) ∷ [])) (heaps_before held ts)
  pub made : map (λ t. t.wanted.held) ts ≡ texts_made (characters (places_from first (length ts))) (heaps_before held ts)
  pub each : length ts ≡ suc last - first
  pub result : IsValue (last_heap held ts) recv v after

-- a Range of bytes, with its last end
abbrev pub bytes_to : ℕ → ℕ → RangeContents
bytes_to a z = record { ends = range.Bytes a z; exclusive = false }

-- without it
abbrev pub bytes_before : ℕ → ℕ → RangeContents
bytes_before a z = record { ends = range.Bytes a z; exclusive = true }

-- so many bytes from one on, as a source of items
abbrev pub so_many_bytes : ℤ → ℤ → ℕ → Source
so_many_bytes z last k = source.Numbers (record { first = z; last = last; left = k; as_bytes = true })

-- the bytes of a String from a place on, each as it stands in the next of these heaps
abbrev pub bytes_read : ObjId → ℕ → List Held → List (Option ℕ)
bytes_read s n [] = []
bytes_read s n (h ∷ hs) = slice_get (text_at h.store.objects s) n ∷ bytes_read s (n + 1) hs

-- The block is called with the number of each byte from a place on, which is read when the answer before has come, until
-- there is none; the heap is left alone in between, and the String is given.
pub record HandsBytes (held : Held) (s b : ObjId) (n : ℕ) (ts : List Turn) (v : Value) (after : Held) : Type 0 where
  pub bytes : List ℕ
  pub read : map Some bytes ≡ bytes_read s n (heaps_before held ts)
  pub called : calls_of ts ≡ map (λ x. Some (b, Int (pos x) ∷ [])) bytes
  pub heaps : map (λ t. t.wanted.held) ts ≡ heaps_before held ts
  pub over : slice_get (text_at (last_heap held ts).store.objects s) (n + length ts) ≡ None
  pub result : IsValue (last_heap held ts) (Obj s) v after
