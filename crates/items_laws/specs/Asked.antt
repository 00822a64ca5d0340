-- Values that are asked for a method with another value, one after another.
use Rattle.std.specs.Prelude.{◌≡◌, ◌<◌, ◌^◌, ℕ, ℤ, pos, List, [], ◌∷◌, ◌++◌, length, codes, Bool, true, false, Option, Some, None}
use Rattle.rb_value.specs.declared.value.Value.{Value}
use Rattle.rb_value.specs.declared.value.Value.TheVariants.{Nil, True, Int}
use Rattle.rb_value.specs.declared.value.SymId.{SymId}
use Rattle.rb_value.specs.Value.{is_true, truth}
use Rattle.def_core.specs.Changes.{intern}
use Rattle.def_core.specs.Parts.{elements_at}
use Rattle.rb_store.specs.Held.{Held, one_more}
use Rattle.run_values.specs.declared.given.Given.TheVariants.{Gives}
use Rattle.core_calls.specs.Checks.{name_in}
use Rattle.iter_comparing.specs.Ordering.{same_value}
use Rattle.iter_comparing.specs.Outright.{outright}
use Rattle.iter_items.specs.declared.source.Source.{Source}
use Rattle.iter_items.specs.declared.source.Source.TheVariants as source
use Rattle.iter_items.specs.Sources.{Passed, next}
use Rattle.items_laws.specs.Run.{Turn}
use Rattle.items_laws.specs.Lists.{counted_from}
use Rattle.items_laws.specs.Sums.{Sums, send_of}

-- the symbol of a name, and the heap that has it
abbrev pub symbol : List ℕ → Held → SymId
symbol name held = (intern held.store name).symbol

abbrev pub with_symbol : List ℕ → Held → Held
with_symbol name held = record held { store = (intern held.store name).store }

-- the heap once the name of a method is read, which is a symbol then
abbrev pub with_name_of : Value → Held → Held
with_name_of n held = record held { store = (name_in held.store n).store }

-- What a value replies to a message: what its method of that name gives, at once by its row or as the answer to the
-- message. Where the reply is known to be true it needn't be asked, and nil may be asked in its place, with nil.
pub data Replies (known : Bool) (name : SymId) (held : Held) (x : Value) (args : List Value)
    : List Turn → Value → Held → Type 0 where
  unasked : (after : Held) → known ≡ true → after.store ≡ held.store → Replies known name held x args [] True after
  nil_asked : (t : Turn) → known ≡ true → t.wanted.held ≡ held
      → send_of t.wanted.plan ≡ Some (Nil, name, Nil ∷ []) → Replies known name held x args (t ∷ []) t.answer t.held
  told : (a : Value) (after : Held) → known ≡ false → outright held.store x name args ≡ (Some (Gives a), after.store)
      → Replies known name held x args [] a after
  asked : (t : Turn) → t.wanted.held ≡ held → send_of t.wanted.plan ≡ Some (x, name, args)
      → Replies known name held x args (t ∷ []) t.answer t.held

-- The next item is asked with the value that goes with it, in the heap as the reply before left it, until no item is left
-- or a reply stops it; these are the items that were asked, and what they replied.
pub data Asks {S : Type 0} (known : Value → Value → Bool) (name : SymId) (pass : Held → S → Passed S)
    (other : Held → S → Value) (stops : Value → Bool)
    : Held → S → List Turn → List Value → List Value → Held → Type 0 where
  none_left : (held : Held) (s : S) → (pass held s).item ≡ None
      → Asks known name pass other stops held s [] [] [] held
  last_asked : (held after : Held) (s : S) (x a : Value) (ts : List Turn) → (pass held s).item ≡ Some x
      → Replies (known x (other held s)) name (pass held s).held x (other held s ∷ []) ts a after → stops a ≡ true
      → Asks known name pass other stops held s ts (x ∷ []) (a ∷ []) after
  one_asked : (held k after : Held) (s : S) (x a : Value) (us ts : List Turn) (xs replies : List Value)
      → (pass held s).item ≡ Some x
      → Replies (known x (other held s)) name (pass held s).held x (other held s ∷ []) us a k → stops a ≡ false
      → Asks known name pass other stops k (pass held s).source ts xs replies after
      → Asks known name pass other stops held s (us ++ ts) (x ∷ xs) (a ∷ replies) after

-- items at one place after another
abbrev pub by_place : (Held → ℕ → Option Value) → Held → ℕ → Passed ℕ
by_place item held n = record { item = item held n; source = one_more n; held = held }

-- with the same value each
abbrev pub always : {S : Type 0} → Value → Held → S → Value
always y held s = y

-- whatever the reply
abbrev pub never : Value → Bool
never a = false

-- Each item is asked whether it is `==` a value, but for that value itself; so many replies are true.
pub record CountsEqual (held : Held) (s : Source) (y : Value) (ts : List Turn) (v : Value) (after : Held) : Type 0 where
  pub begun : Held
  pub same : begun.store ≡ (with_symbol (codes "==") held).store
  pub items : List Value
  pub replies : List Value
  pub asks : Asks same_value (symbol (codes "==") held) next (always y) never begun s ts items replies after
  pub result : length items < 2 ^ 63 → v ≡ Int (pos (counted_from 0 is_true replies))

-- What came so far is asked for the method of a name with each item, and what it replies comes so far then; at the
-- beginning that is a value.
pub record Combines (name : SymId) (held : Held) (s : Source) (first : Value) (ts : List Turn) (v : Value) (after : Held)
    : Type 0 where
  pub begun : Held
  pub same : begun.store ≡ held.store
  pub sums : Sums name None begun s first ts v after

-- or the first item
pub record CombinesFirst (name : SymId) (held : Held) (s : Source) (first : Value) (ts : List Turn) (v : Value)
    (after : Held) : Type 0 where
  pub begun : Held
  pub same : begun.store ≡ held.store
  pub there : (next begun s).item ≡ Some first
  pub sums : Sums name None (next begun s).held (next begun s).source first ts v after

-- A value replies to a message with another value, and so the result is by the reply.
pub record IsReply (name : List ℕ) (held : Held) (x y : Value) (ts : List Turn) (Result : Value → Type 0) (after : Held)
    : Type 0 where
  pub reply : Value
  pub replies : Replies false (symbol name held) (with_symbol name held) x (y ∷ []) ts reply after
  pub result : Result reply

-- a reply that is an Integer, and whether it passes
pub record IsSign (test : ℤ → Bool) (v reply : Value) : Type 0 where
  pub sign : ℤ
  pub same : reply ≡ Int sign
  pub value : v ≡ truth (test sign)

-- a source that has no items, at whatever place
abbrev pub IsEmpty : Held → Source → Type 0
IsEmpty held (source.Elements a n) = elements_at held.store.objects a ≡ []
IsEmpty held (source.Pairs ps n) = ps ≡ []
IsEmpty held (source.Numbers n) = n.left ≡ 0
