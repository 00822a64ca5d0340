-- The names that arguments are.
use Rattle.std.specs.Prelude.{List, [], ◌∷◌, ◌++◌, Result, Ok, Err}
use Rattle.rb_value.specs.declared.value.Value.{Value}
use Rattle.rb_value.specs.declared.value.SymId.{SymId}
use Rattle.def_core.specs.declared.cause.Cause.{Cause}
use Rattle.def_core.specs.Store.{Store}
use Rattle.def_calls.specs.World.{World, Answer, with_store}
use Rattle.core_calls.specs.Checks.{Named, name_in}
use Rattle.rows_object.specs.Follows.{raise}

-- the names of all, or why one of them is none, and the store, to which names of Strings are added up to there
pub record Names : Type 0 where
  pub names : Result (List SymId) Cause
  pub store : Store

abbrev pub names_before : List SymId → Result (List SymId) Cause → Result (List SymId) Cause
names_before before (Ok names) = Ok (before ++ names)
names_before before (Err cause) = Err cause

abbrev pub after_names : List SymId → Names → Names
after_names before rest = record { names = names_before before rest.names; store = rest.store }

abbrev pub names_by : Store → Result SymId Cause → (Store → Names) → Names
names_by st (Ok name) rest = after_names (name ∷ []) (rest st)
names_by st (Err cause) rest = record { names = Err cause; store = st }

unfoldable pub names_in : List Value → Store → Names
names_in [] st = record { names = Ok []; store = st }
names_in (v ∷ vs) st = names_by (name_in st v).store (name_in st v).name (names_in vs)

-- what is done with the names; what is none is refused
abbrev pub names_done : World → Result (List SymId) Cause → (List SymId → World → Answer) → Answer
names_done w (Ok names) next = next names w
names_done w (Err c) next = raise c w

abbrev pub names_found : World → Names → (List SymId → World → Answer) → Answer
names_found w n next = names_done (with_store w n.store) n.names next

abbrev pub names_then : List Value → (List SymId → World → Answer) → World → Answer
names_then args next w = names_found w (names_in args w.store) next
