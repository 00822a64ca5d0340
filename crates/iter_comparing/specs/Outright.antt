-- What core methods of the table of rows give at once, which call no others.
use Rattle.std.specs.Prelude.{◌≡◌, ℕ, List, Option, Some, None}
use Rattle.rb_value.specs.declared.value.Value.{Value}
use Rattle.rb_value.specs.declared.value.SymId.{SymId}
use Rattle.rb_value.specs.declared.method.Method.{Method}
use Rattle.rb_value.specs.declared.method.Method.TheVariants as method
use Rattle.rb_value.specs.declared.outcome.Failure.{Failure}
use Rattle.rb_value.specs.declared.outcome.Outcome.{Outcome}
use Rattle.rb_value.specs.declared.outcome.Outcome.TheVariants as outcome
use Rattle.row_table.specs.declared.line.Line.{Line}
use Rattle.row_table.specs.RowTable.{line_at}
use Rattle.def_core.specs.declared.found.Found.{Found}
use Rattle.def_core.specs.Store.{Store, Done, next_number, with_object}
use Rattle.def_core.specs.Classes.{class_of}
use Rattle.def_core.specs.Find.{find}
use Rattle.def_calls.specs.World.{exception_object}
use Rattle.run_values.specs.declared.given.Given.{Given}
use Rattle.run_values.specs.declared.given.Given.TheVariants.{Gives, Raises}
use Rattle.rb_store.specs.Held.{Held}
use Rattle.heap.specs.Operands.{own}
use Rattle.heap.specs.Rows.{called}

abbrev pub if_in_table : ℕ → Option Line → Option ℕ
if_in_table r None = None
if_in_table r (Some line) = Some r

abbrev pub row_of_method : Method → Option ℕ
row_of_method (method.Body b s) = None
row_of_method (method.Core r) = if_in_table r (line_at r)
row_of_method (method.Reader n) = None
row_of_method (method.Writer n) = None
row_of_method (method.Block p) = None
row_of_method method.Undefined = None

abbrev pub row_of_found : Option Found → Option ℕ
row_of_found None = None
row_of_found (Some f) = row_of_method f.method

-- the row of the table that a receiver finds under a name
abbrev pub row_found : Store → Value → SymId → Option ℕ
row_found st recv name = row_of_found (find st.objects (class_of st.objects (own st recv)) name)

-- what is given, and the store with the exception that is raised
abbrev pub given_in : Store → Outcome → Option Given × Store
given_in st (outcome.Value v) = (Some (Gives v), st)
given_in st (outcome.Raise f) = (Some (Raises (next_number st)), with_object st (exception_object f))

abbrev pub given_of : Done → Option Given × Store
given_of d = given_in d.store d.outcome

abbrev pub given_by : Store → Value → List Value → Option ℕ → Option Given × Store
given_by st recv args None = (None, st)
given_by st recv args (Some r) = given_of (called st r recv args None)

-- where nothing is given all stays
abbrev pub Stays : Held → Held → Option Given → Type 0
Stays before after None = after ≡ before
Stays before after (Some g) = Unit {0}

abbrev pub outright : Store → Value → SymId → List Value → Option Given × Store
outright st recv name args = given_by st recv args (row_found st recv name)
