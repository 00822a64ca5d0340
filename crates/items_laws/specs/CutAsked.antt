-- Runs of methods that ask values, one after another, in which the last one never replies.
use Rattle.std.specs.Prelude.{◌≡◌, ℕ, List, [], ◌∷◌, ◌++◌, codes, Bool, true, false, Option, Some}
use Rattle.rb_value.specs.declared.value.Value.{Value}
use Rattle.rb_value.specs.declared.value.Value.TheVariants.{Nil}
use Rattle.rb_value.specs.declared.value.ObjId.{ObjId}
use Rattle.rb_value.specs.declared.value.SymId.{SymId}
use Rattle.rb_store.specs.Held.{Held}
use Rattle.def_plans.specs.Plan.{Planned}
use Rattle.iter_comparing.specs.declared.row.ComparingRow.{ComparingRow}
use Rattle.iter_comparing.specs.Ordering.{same_value}
use Rattle.iter_items.specs.declared.row.ItemsRow.TheVariants as items_row
use Rattle.iter_items.specs.declared.source.Source.{Source}
use Rattle.iter_items.specs.Sources.{Passed, next}
use Rattle.run_rows.specs.declared.row.StarRow.TheVariants as row
use Rattle.core_iter.specs.Rows.{Starts}
use Rattle.core_iter.specs.Stage.{Stage}
use Rattle.items_laws.specs.Run.{Turn, Runs, waiting}
use Rattle.items_laws.specs.Asked.{Replies, always, by_place, never, symbol, with_symbol}
use Rattle.items_laws.specs.Sums.{Told, send_of}

-- The last thing that is wanted is what a value replies to a message. Where the reply is known to be true nil may be asked in
-- its place, with nil.
pub data IsUnreplied (known : Bool) (name : SymId) (held : Held) (x : Value) (args : List Value) (last : Planned Stage)
    : Type 0 where
  is_sent : last.held ≡ held → send_of last.plan ≡ Some (x, name, args) → IsUnreplied known name held x args last
  is_sent_to_nil : known ≡ true → last.held ≡ held → send_of last.plan ≡ Some (Nil, name, Nil ∷ [])
      → IsUnreplied known name held x args last

-- The next item is asked with the value that goes with it, in the heap as the reply before left it; the last one never
-- replies, and no reply before stopped it.
pub data AsksOff {S : Type 0} (known : Value → Value → Bool) (name : SymId) (pass : Held → S → Passed S)
    (other : Held → S → Value) (stops : Value → Bool)
    : Held → S → List Turn → List Value → List Value → Planned Stage → Type 0 where
  unreplied : (held : Held) (s : S) (x : Value) (last : Planned Stage) → (pass held s).item ≡ Some x
      → IsUnreplied (known x (other held s)) name (pass held s).held x (other held s ∷ []) last
      → AsksOff known name pass other stops held s [] [] [] last
  one_replied : (held k : Held) (s : S) (x a : Value) (us ts : List Turn) (xs replies : List Value) (last : Planned Stage)
      → (pass held s).item ≡ Some x
      → Replies (known x (other held s)) name (pass held s).held x (other held s ∷ []) us a k → stops a ≡ false
      → AsksOff known name pass other stops k (pass held s).source ts xs replies last
      → AsksOff known name pass other stops held s (us ++ ts) (x ∷ xs) (a ∷ replies) last

-- Values are asked from the first place on for the method of a name, of which these replied.
pub record CutsAsking (name : List ℕ) (known : Value → Value → Bool) (item : Held → ℕ → Option Value)
    (other : Held → ℕ → Value) (stops : Value → Bool) (held : Held) (ts : List Turn) (last : Planned Stage) : Type 0 where
  pub items : List Value
  pub replies : List Value
  pub asks : AsksOff known (symbol name held) (by_place item) other stops (with_symbol name held) 0 ts items replies last

-- the run of a method that compares, of which the last thing that is wanted isn't answered
pub record IsAbandoned (r : ComparingRow) (held : Held) (recv : Value) (args : List Value) (block : Option ObjId)
    (ts : List Turn) (last : Planned Stage) : Type 0 where
  pub first : Planned Stage
  pub stage : Stage
  pub starts : Starts (row.Items (items_row.Compares r)) held recv args block first
  pub runs : Runs first ts last
  pub waits : waiting last.plan ≡ Some stage

-- One value is asked, and never replies.
pub record IsAwaited (name : List ℕ) (held : Held) (x y : Value) (ts : List Turn) (last : Planned Stage) : Type 0 where
  pub none : ts ≡ []
  pub wanted : IsUnreplied false (symbol name held) (with_symbol name held) x (y ∷ []) last

-- Each item is asked whether it is `==` a value, but for that value itself; these were asked, and the last one never replies.
pub record CutsCounting (held : Held) (s : Source) (y : Value) (ts : List Turn) (last : Planned Stage) : Type 0 where
  pub begun : Held
  pub same : begun.store ≡ (with_symbol (codes "==") held).store
  pub items : List Value
  pub replies : List Value
  pub asks : AsksOff same_value (symbol (codes "==") held) next (always y) never begun s ts items replies last

-- What came so far is asked for the method of a name with each item, and what it replies comes so far then; the last time it
-- never replies.
pub data TotalsOff (name : SymId) : Held → Source → Value → List Turn → Planned Stage → Type 0 where
  in_the_reply : (held : Held) (s : Source) (so_far x : Value) (last : Planned Stage) → (next held s).item ≡ Some x
      → IsUnreplied false name (next held s).held so_far (x ∷ []) last → TotalsOff name held s so_far [] last
  one_told : (held k : Held) (s : Source) (so_far x sum : Value) (us ts : List Turn) (last : Planned Stage)
      → (next held s).item ≡ Some x → Told name (next held s).held so_far x us sum k
      → TotalsOff name k (next held s).source sum ts last → TotalsOff name held s so_far (us ++ ts) last

-- at the beginning that is a value
pub record CutsCombining (name : SymId) (held : Held) (s : Source) (first : Value) (ts : List Turn) (last : Planned Stage)
    : Type 0 where
  pub begun : Held
  pub same : begun.store ≡ held.store
  pub totals : TotalsOff name begun s first ts last

-- or the first item
pub record CutsCombiningFirst (name : SymId) (held : Held) (s : Source) (first : Value) (ts : List Turn)
    (last : Planned Stage) : Type 0 where
  pub begun : Held
  pub same : begun.store ≡ held.store
  pub there : (next begun s).item ≡ Some first
  pub totals : TotalsOff name (next begun s).held (next begun s).source first ts last
