-- Values that are asked for texts, one after another, and the String that is made of these.
use Rattle.std.specs.Prelude.{◌≡◌, ℕ, ◌/◌, ◌%◌, List, [], ◌∷◌, ◌++◌, slice_get, nat_eq, false, if◌then◌else◌, Option, Some, None, option_map}
use Rattle.rb_value.specs.declared.value.Value.{Value}
use Rattle.rb_value.specs.declared.value.Value.TheVariants.{Obj}
use Rattle.rb_value.specs.declared.value.SymId.{SymId}
use Rattle.rb_value.specs.declared.hash.HashItem.{HashItem}
use Rattle.rb_value.specs.declared.kind.Kind.TheVariants as kind
use Rattle.rb_value.specs.declared.core_class.CoreClass.TheVariants as class
use Rattle.def_core.specs.Store.{core, next_number}
use Rattle.rb_store.specs.Held.{Held, one_more}
use Rattle.heap.specs.Made.{with_new}
use Rattle.iter_comparing.specs.Texts.{bytes_of, is_too_long, own_text}
use Rattle.items_laws.specs.Run.{Turn}
use Rattle.items_laws.specs.Asked.{Replies, symbol, with_symbol}

-- Texts with one mark and another between them, in turn.

abbrev pub marked : List ℕ → List ℕ → List (List ℕ) → List ℕ
marked one other [] = []
marked one other (t ∷ ts) = one ++ (t ++ marked other one ts)

abbrev pub between : List ℕ → List ℕ → List (List ℕ) → List ℕ
between one other [] = []
between one other (t ∷ ts) = t ++ marked one other ts

abbrev pub enclosed : List ℕ → List ℕ → List ℕ → List ℕ
enclosed first last text = first ++ (text ++ last)

-- a new String of these bytes, of which there aren't too many
pub record IsText (held : Held) (bytes : List ℕ) (v : Value) (after : Held) : Type 0 where
  pub short : is_too_long bytes ≡ false
  pub value : v ≡ Obj (next_number held.store)
  pub left : after ≡ with_new held (core class.String) (kind.String bytes)

-- The next value is asked for the method of a name, in the heap as the reply before left it, until none is left; these are
-- the texts of what they replied, as each stood then.
pub data Writes (name : SymId) (item : Held → ℕ → Option Value)
    : Held → ℕ → List Turn → List (List ℕ) → Held → Type 0 where
  none_left : (held : Held) (n : ℕ) → item held n ≡ None → Writes name item held n [] [] held
  one_asked : (held k after : Held) (n : ℕ) (x a : Value) (us ts : List Turn) (texts : List (List ℕ))
      → item held n ≡ Some x → Replies false name held x [] us a k
      → Writes name item k (one_more n) ts texts after
      → Writes name item held n (us ++ ts) (bytes_of k.store a ∷ texts) after

-- Values are asked from the first place on, and so the result is by their texts and the heap as the last reply left it.
pub record IsWritten (name : List ℕ) (item : Held → ℕ → Option Value) (held : Held) (ts : List Turn)
    (Result : Held → List (List ℕ) → Type 0) : Type 0 where
  pub texts : List (List ℕ)
  pub last : Held
  pub writes : Writes (symbol name held) item (with_symbol name held) 0 ts texts last
  pub result : Result last texts

-- the keys of a Hash and their values, in turn, as it had them

abbrev pub key_or_value : ℕ → HashItem → Value
key_or_value n p = if nat_eq (n % 2) 1 then p.value else p.shown

abbrev pub part_of : List HashItem → Held → ℕ → Option Value
part_of ps held n = option_map (key_or_value n) (slice_get ps (n / 2))

-- Each piece is a text itself, as it stands when the reply before has come, or is asked for the method of a name; these are
-- the texts.
pub data Joins (name : SymId) : Held → List Value → List Turn → List (List ℕ) → Held → Type 0 where
  none_left : (held : Held) → Joins name held [] [] [] held
  itself : (held after : Held) (p : Value) (bytes : List ℕ) (ps : List Value) (ts : List Turn) (texts : List (List ℕ))
      → own_text held.store p ≡ Some bytes → Joins name held ps ts texts after
      → Joins name held (p ∷ ps) ts (bytes ∷ texts) after
  one_asked : (held k after : Held) (p a : Value) (ps : List Value) (us ts : List Turn) (texts : List (List ℕ))
      → own_text held.store p ≡ None → Replies false name held p [] us a k → Joins name k ps ts texts after
      → Joins name held (p ∷ ps) (us ++ ts) (bytes_of k.store a ∷ texts) after

-- Pieces are joined: the result is a new String of their texts with a separator between them.
pub record IsJoined (name : List ℕ) (held : Held) (pieces : List Value) (separator : List ℕ) (ts : List Turn) (v : Value)
    (after : Held) : Type 0 where
  pub texts : List (List ℕ)
  pub last : Held
  pub joins : Joins (symbol name held) (with_symbol name held) pieces ts texts last
  pub made : IsText last (between separator separator texts) v after
