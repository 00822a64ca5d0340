-- Runs of methods that put texts together, in which a value never replies.
use Rattle.std.specs.Prelude.{◌≡◌, ℕ, List, [], ◌∷◌, ◌++◌, false, Option, Some, None}
use Rattle.rb_value.specs.declared.value.Value.{Value}
use Rattle.rb_value.specs.declared.value.SymId.{SymId}
use Rattle.rb_store.specs.Held.{Held, one_more}
use Rattle.def_plans.specs.Plan.{Planned}
use Rattle.iter_comparing.specs.Texts.{own_text}
use Rattle.core_iter.specs.Stage.{Stage}
use Rattle.items_laws.specs.Run.{Turn}
use Rattle.items_laws.specs.Asked.{Replies, symbol, with_symbol}
use Rattle.items_laws.specs.CutAsked.{IsUnreplied}

-- The next value is asked for the method of a name, in the heap as the reply before left it; the last one never replies.
pub data WritesOff (name : SymId) (item : Held → ℕ → Option Value) : Held → ℕ → List Turn → Planned Stage → Type 0 where
  unreplied : (held : Held) (n : ℕ) (x : Value) (last : Planned Stage) → item held n ≡ Some x
      → IsUnreplied false name held x [] last → WritesOff name item held n [] last
  one_replied : (held k : Held) (n : ℕ) (x a : Value) (us ts : List Turn) (last : Planned Stage)
      → item held n ≡ Some x → Replies false name held x [] us a k → WritesOff name item k (one_more n) ts last
      → WritesOff name item held n (us ++ ts) last

-- from the first place on
abbrev pub CutsWriting : List ℕ → (Held → ℕ → Option Value) → Held → List Turn → Planned Stage → Type 0
CutsWriting name item held ts last = WritesOff (symbol name held) item (with_symbol name held) 0 ts last

-- Each piece is a text itself, as it stands when the reply before has come, or is asked for the method of a name; the last one
-- never replies.
pub data JoinsOff (name : SymId) : Held → List Value → List Turn → Planned Stage → Type 0 where
  piece_unreplied : (held : Held) (p : Value) (ps : List Value) (last : Planned Stage) → own_text held.store p ≡ None
      → IsUnreplied false name held p [] last → JoinsOff name held (p ∷ ps) [] last
  itself : (held : Held) (p : Value) (bytes : List ℕ) (ps : List Value) (ts : List Turn) (last : Planned Stage)
      → own_text held.store p ≡ Some bytes → JoinsOff name held ps ts last → JoinsOff name held (p ∷ ps) ts last
  piece_replied : (held k : Held) (p a : Value) (ps : List Value) (us ts : List Turn) (last : Planned Stage)
      → own_text held.store p ≡ None → Replies false name held p [] us a k → JoinsOff name k ps ts last
      → JoinsOff name held (p ∷ ps) (us ++ ts) last

-- from the first piece on
abbrev pub CutsJoining : List ℕ → Held → List Value → List Turn → Planned Stage → Type 0
CutsJoining name held pieces ts last = JoinsOff (symbol name held) (with_symbol name held) pieces ts last
