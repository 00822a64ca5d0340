-- Works that ask values again and again: each asks, hears the answer, and asks again, until it ends.
use Rattle.std.specs.Prelude.{◌≡◌, ℕ, List, [], ◌∷◌, not, Bool, true, false, ◌&&◌, if◌then◌else◌, Option, Some, None}
use Rattle.rb_value.specs.declared.value.Value.{Value}
use Rattle.rb_value.specs.declared.value.Value.TheVariants.{Nil, True}
use Rattle.rb_value.specs.declared.value.SymId.{SymId}
use Rattle.rb_value.specs.declared.value.ObjId.{ObjId}
use Rattle.def_core.specs.Store.{Store}
use Rattle.def_core.specs.Changes.{intern, Interned}
use Rattle.rb_store.specs.Held.{Held}
use Rattle.run_values.specs.declared.given.Given.{Given}
use Rattle.run_values.specs.declared.given.Given.TheVariants.{Gives, Raises}
use Rattle.def_plans.specs.Plan.{Planned, raises, sends, gives, refuses}
use Rattle.iter_comparing.specs.declared.questions.Question.{Question}
use Rattle.iter_comparing.specs.declared.questions.Question.TheVariants.{Ends, Fails, Asks}
use Rattle.iter_comparing.specs.declared.state.Work.{Work}
use Rattle.iter_comparing.specs.declared.state.Work.TheVariants as work
use Rattle.iter_comparing.specs.Ordering.{same_value}
use Rattle.iter_comparing.specs.Outright.{outright}
use Rattle.iter_comparing.specs.Questions.{Asked, Heard, asked, goes_on}
use Rattle.iter_comparing.specs.Stage.{Stage, asks}
use Rattle.iter_comparing.specs.Pairing as pairing
use Rattle.iter_comparing.specs.Searching as searching
use Rattle.iter_comparing.specs.Removing as removing
use Rattle.iter_comparing.specs.Hashes as hashes
use Rattle.iter_comparing.specs.Sifting as sifting
use Rattle.iter_comparing.specs.Texts as texts

abbrev pub asked_as : {W : Type 0} → (W → Work) → Asked W → Asked Work
asked_as as_work a = record { question = a.question; work = as_work a.work; held = a.held }

abbrev pub heard_as : {W : Type 0} → (W → Work) → Heard W → Heard Work
heard_as as_work h = record { ends = h.ends; work = as_work h.work }

-- what a work wants next
abbrev pub question : Held → Work → Asked Work
question held (work.Pairs w) = asked held (work.Pairs w) (pairing.question held.store w)
question held (work.Searches w) = asked held (work.Searches w) (searching.question held.store w)
question held (work.Sifts w) = asked_as work.Sifts (sifting.question held w)
question held (work.Removes w) = asked_as work.Removes (removing.question held w)
question held (work.Joins w) = asked_as work.Joins (texts.joined held w)
question held (work.Shows w) = asked_as work.Shows (texts.shown held w)
question held (work.Equates w) = asked held (work.Equates w) (hashes.equal_question held.store w)
question held (work.FindsKey w) = asked held (work.FindsKey w) (hashes.search_question w)

-- what an answer comes to
abbrev pub hear : Store → Work → Value → Heard Work
hear st (work.Pairs w) v = heard_as work.Pairs (pairing.heard w v)
hear st (work.Searches w) v = heard_as work.Searches (searching.heard w v)
hear st (work.Sifts w) v = goes_on (work.Sifts (sifting.heard w v))
hear st (work.Removes w) v = goes_on (work.Removes (removing.heard w v))
hear st (work.Joins w) v = goes_on (work.Joins (texts.joined_heard st w v))
hear st (work.Shows w) v = goes_on (work.Shows (texts.shown_heard st w v))
hear st (work.Equates w) v = heard_as work.Equates (hashes.equal_heard w v)
hear st (work.FindsKey w) v = heard_as work.FindsKey (hashes.search_heard w v)

-- whether it asks values whether they are equal
abbrev pub asks_equality : Work → Bool
asks_equality (work.Pairs w) = not w.ordered
asks_equality (work.Searches w) = true
asks_equality (work.Sifts w) = true
asks_equality (work.Removes w) = true
asks_equality (work.Joins w) = false
asks_equality (work.Shows w) = false
asks_equality (work.Equates w) = true
asks_equality (work.FindsKey w) = true

abbrev pub args_of : Option Value → List Value
args_of None = []
args_of (Some v) = v ∷ []

-- a value is equal to itself without a call
abbrev pub is_itself : Value → Option Value → Bool
is_itself recv None = false
is_itself recv (Some v) = same_value v recv

abbrev pub is_known : Work → Value → Option Value → Bool
is_known w recv argument = is_itself recv argument && asks_equality w

-- what is known, or a row of the table gives at once
abbrev pub at_once : Store → SymId → Work → Value → Option Value → Option Given × Store
at_once st name w recv argument = if is_known w recv argument then (Some (Gives True), st)
    else outright st recv name (args_of argument)

-- what answers the question of a work at once
abbrev pub told_by : SymId → Store → Work → Question → Option Given × Store
told_by name st w (Ends v) = (None, st)
told_by name st w (Fails c) = (None, st)
told_by name st w (Asks recv argument) = at_once st name w recv argument

abbrev pub told : SymId → Asked Work → Option Given × Store
told name a = told_by name a.held.store a.work a.question

-- a value is asked
abbrev pub sending : SymId → Held → Work → Value → Option Value → Planned Stage
sending name held w recv argument =
    record { plan = sends (asks name w) recv name (args_of argument) None false; held = held }

-- the work ends, or the machine is asked
abbrev pub stopped_by : SymId → Held → Work → Question → Planned Stage
stopped_by name held w (Ends v) = gives held v
stopped_by name held w (Fails c) = refuses held c
stopped_by name held w (Asks recv argument) = sending name held w recv argument

abbrev pub stopped : SymId → Asked Work → Planned Stage
stopped name a = stopped_by name a.held a.work a.question

abbrev pub knows_by : Work → Question → Bool
knows_by w (Ends v) = false
knows_by w (Fails c) = false
knows_by w (Asks recv argument) = is_known w recv argument

abbrev pub knows : Asked Work → Bool
knows a = knows_by a.work a.question

-- The plans that a work may come to. What is known or a row of the table answers needn't be asked: the work goes on by
-- the answer.
pub data Comes (name : SymId) : Held → Work → Planned Stage → Type 0 where
  stops : (held : Held) (w : Work) → Comes name held w (stopped name (question held w))
  -- nil may be asked in place of a value whose answer is known, since nil is equal to itself, too
  asks_nil : (held : Held) (w : Work) → knows (question held w) ≡ true
      → Comes name held w (sending name (question held w).held (question held w).work Nil (Some Nil))
  raises_at_once : (held after : Held) (w : Work) (e : ObjId)
      → told name (question held w) ≡ (Some (Raises e), after.store)
      → Comes name held w (record { plan = raises e; held = after })
  ends_at_once : (held after : Held) (w : Work) (v u : Value)
      → told name (question held w) ≡ (Some (Gives v), after.store)
      → (hear after.store (question held w).work v).ends ≡ Some u
      → Comes name held w (gives after u)
  goes_on_at_once : (held after : Held) (w : Work) (v : Value) (p : Planned Stage)
      → told name (question held w) ≡ (Some (Gives v), after.store)
      → (hear after.store (question held w).work v).ends ≡ None
      → Comes name after (hear after.store (question held w).work v).work p
      → Comes name held w p

-- A work begins with a name of the language, which is a symbol then.

abbrev pub BeginsBy : Held → Work → Interned → Planned Stage → Type 0
BeginsBy held w named p = Comes named.symbol (record held { store = named.store }) w p

abbrev pub Begins : Held → List ℕ → Work → Planned Stage → Type 0
Begins held name w p = BeginsBy held w (intern held.store name) p

-- it goes on with an answer

abbrev pub GoesOnBy : SymId → Held → Work → Option Value → Planned Stage → Type 0
GoesOnBy name held w (Some v) p = p ≡ gives held v
GoesOnBy name held w None p = Comes name held w p

abbrev pub GoesOn : SymId → Held → Work → Value → Planned Stage → Type 0
GoesOn name held w v p = GoesOnBy name held (hear held.store w v).work (hear held.store w v).ends p
