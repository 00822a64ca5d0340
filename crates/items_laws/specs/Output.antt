-- What goes out: values are asked for their texts, and bytes are written.
use Rattle.std.specs.Prelude.{◌≡◌, ℕ, List, [], ◌∷◌, ◌++◌, Bool, true, false, if◌then◌else◌, Option, Some, None}
use Rattle.rb_value.specs.declared.value.Value.{Value}
use Rattle.rb_value.specs.declared.value.Value.TheVariants.{Nil, True, False, Int, Sym, Obj}
use Rattle.rb_store.specs.Held.{Held}
use Rattle.def_plans.specs.Plan.{Plan, Planned, finishes, fails, raises, sends, calls, writes, reads, resumes, yields}
use Rattle.core_iter.specs.Stage.{Stage}
use Rattle.core_iter.specs.Writing.{bytes_of, newline}
use Rattle.items_laws.specs.Run.{Turn}
use Rattle.items_laws.specs.Items.{IsValue, IsArrayOf}
use Rattle.items_laws.specs.Asked.{symbol, with_symbol}
use Rattle.items_laws.specs.Handed.{message_in}

-- the bytes that are written
abbrev pub written_in : Plan Stage → Option (List ℕ)
written_in (finishes v) = None
written_in (fails c) = None
written_in (raises e) = None
written_in (sends s v name args block public) = None
written_in (calls s p args block) = None
written_in (writes s bytes) = Some bytes
written_in (reads s) = None
written_in (resumes s f args) = None
written_in (yields s args) = None

-- a value is asked for what its method of a name without arguments gives, in a heap in which that name is a symbol then
pub record IsAsked (name : List ℕ) (held : Held) (x : Value) (wanted : Planned Stage) : Type 0 where
  pub message : message_in wanted.plan ≡ Some (x, symbol name held, [], None, false)
  pub heap : wanted.held ≡ with_symbol name held

-- bytes are written, and the heap stays
pub record IsOut (bytes : List ℕ) (held : Held) (wanted : Planned Stage) : Type 0 where
  pub bytes_are : written_in wanted.plan ≡ Some bytes
  pub heap : wanted.held ≡ held

-- Each turn asks a value for the method of a name, or writes bytes, in the heap as the turn before left it: these values were
-- asked, these are the texts of what they answered, as each stood then, and this went out as a whole.
pub data Says (name : List ℕ) : Held → List Turn → List Value → List (List ℕ) → List ℕ → Held → Type 0 where
  silence : (held : Held) → Says name held [] [] [] [] held
  one_asked : (held after : Held) (x : Value) (t : Turn) (ts : List Turn) (xs : List Value) (texts : List (List ℕ))
      (bytes : List ℕ) → IsAsked name held x t.wanted → Says name t.held ts xs texts bytes after
      → Says name held (t ∷ ts) (x ∷ xs) (bytes_of t.held.store t.answer ∷ texts) bytes after
  some_out : (held after : Held) (some bytes : List ℕ) (t : Turn) (ts : List Turn) (xs : List Value)
      (texts : List (List ℕ)) → IsOut some held t.wanted → Says name t.held ts xs texts bytes after
      → Says name held (t ∷ ts) xs texts (some ++ bytes) after

-- A silent value isn't asked; its text is empty.

abbrev pub nobody : Value → Bool
nobody v = false

abbrev pub is_nil : Value → Bool
is_nil Nil = true
is_nil True = false
is_nil False = false
is_nil (Int z) = false
is_nil (Sym s) = false
is_nil (Obj o) = false

abbrev pub asked : (Value → Bool) → List Value → List Value
asked silent [] = []
asked silent (v ∷ vs) = if silent v then asked silent vs else v ∷ asked silent vs

-- the line of each value, one behind the other, up to the first whose text hasn't come
abbrev pub lines_of : (Value → Bool) → (List ℕ → List ℕ) → List Value → List (List ℕ) → List ℕ
lines_of silent line [] texts = []
lines_of silent line (v ∷ vs) [] = if silent v then line [] ++ lines_of silent line vs [] else []
lines_of silent line (v ∷ vs) (t ∷ texts) =
    if silent v then line [] ++ lines_of silent line vs (t ∷ texts) else line t ++ lines_of silent line vs texts

-- a text as it is, and one with a newline behind it

abbrev pub itself : List ℕ → List ℕ
itself text = text

abbrev pub with_newline : List ℕ → List ℕ
with_newline text = text ++ newline ∷ []

-- Values are asked for their texts, and the line of each goes out; so the result is by the heap as it is then.
pub record GoesOut (name : List ℕ) (silent : Value → Bool) (line : List ℕ → List ℕ) (held : Held) (values : List Value)
    (ts : List Turn) (Result : Held → Type 0) : Type 0 where
  pub texts : List (List ℕ)
  pub bytes : List ℕ
  pub last : Held
  pub says : Says name held ts (asked silent values) texts bytes last
  pub lines : bytes ≡ lines_of silent line values texts
  pub result : Result last

-- The same where the last thing that is wanted isn't answered: it asks the next value, or writes the line of the last one.
pub data IsCutShort (name : List ℕ) (silent : Value → Bool) (line : List ℕ → List ℕ) (held : Held) (values : List Value)
    (ts : List Turn) (last : Planned Stage) : Type 0 where
  in_its_text : (h : Held) (passed further : List Value) (x : Value) (texts : List (List ℕ)) (bytes : List ℕ)
      → values ≡ passed ++ x ∷ further → Says name held ts (asked silent passed) texts bytes h
      → IsAsked name h x last → bytes ≡ lines_of silent line passed texts
      → IsCutShort name silent line held values ts last
  in_its_line : (h : Held) (passed further : List Value) (texts : List (List ℕ)) (bytes some : List ℕ)
      → values ≡ passed ++ further → Says name held ts (asked silent passed) texts bytes h
      → IsOut some h last → bytes ++ some ≡ lines_of silent line passed texts
      → IsCutShort name silent line held values ts last

-- nil, the value, or a new Array of the values
abbrev pub IsAllOf : List Value → Held → Value → Held → Type 0
IsAllOf [] h v after = IsValue h Nil v after
IsAllOf (x ∷ []) h v after = IsValue h x v after
IsAllOf (x ∷ y ∷ xs) h v after = IsArrayOf h (x ∷ y ∷ xs) v after
