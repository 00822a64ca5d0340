-- Methods of Exception and of those under it (ISO/IEC 30170:2012, 15.2.22).
use Rattle.std.specs.Prelude.{ℕ, pos, List, [], ◌++◌, codes, length, nat_eq, if◌then◌else◌, Option, Some, None}
use Rattle.std.specs.Fmt.{signed_decimal}
use Rattle.rb_value.specs.declared.value.Value.{Value}
use Rattle.rb_value.specs.declared.value.Value.TheVariants.{Nil, True, False, Int, Sym, Obj}
use Rattle.rb_value.specs.declared.value.ObjId.{ObjId}
use Rattle.rb_value.specs.declared.value.SymId.{SymId}
use Rattle.rb_value.specs.declared.core_class.CoreClass.TheVariants as class
use Rattle.def_core.specs.Store.{Store, Done, name_at, object_at}
use Rattle.def_core.specs.Changes.{gives}
use Rattle.def_rows.specs.Answers.{makes, text_object}
use Rattle.def_calls.specs.Values.{text_of_value}
use Rattle.def_calls.specs.Views as views
use Rattle.heap.specs.Operands.{has_symbol, own}
use Rattle.heap.specs.Changes as changes
use Rattle.rows_object.specs.Answered.{holding, refused}
use Rattle.rows_object.specs.Rows.{class_text}

abbrev pub message_of : Store → ObjId → Value
message_of st id = views.message_of (object_at st.objects id).kind

abbrev pub detail_of : Store → ObjId → Value
detail_of st id = views.detail_of (object_at st.objects id).kind

abbrev pub symbol_text : Store → SymId → List ℕ
symbol_text st name = if has_symbol st name then name_at st name else []

-- a message as it stands in a text
abbrev pub shown : Store → Value → List ℕ
shown st Nil = text_of_value st (own st Nil)
shown st True = codes "true"
shown st False = codes "false"
shown st (Int z) = signed_decimal z
shown st (Sym name) = symbol_text st name
shown st (Obj id) = text_of_value st (own st (Obj id))

-- `to_s`: the message, of an Integer, a Symbol, true and false the text, and the name of the class where there is none
abbrev pub message_by : Store → Value → Value → Done
message_by st v Nil = makes st (text_object (class_text st v))
message_by st v True = makes st (text_object (shown st True))
message_by st v False = makes st (text_object (shown st False))
message_by st v (Int z) = makes st (text_object (shown st (Int z)))
message_by st v (Sym name) = makes st (text_object (shown st (Sym name)))
message_by st v (Obj id) = gives (Obj id) st

abbrev pub message : ObjId → Value → Store → Done
message id v st = message_by st v (message_of st id)

-- `inspect`, where `to_s` gives that message: the name of the class alone where it is empty
abbrev pub inspected : List ℕ → List ℕ → List ℕ
inspected name text = if nat_eq (length text) 0 then name
    else (((codes "#<" ++ name) ++ codes ": ") ++ text) ++ codes ">"

abbrev pub inspection : Store → Value → Value → List ℕ
inspection st v said = inspected (class_text st v) (shown st said)

-- `status` of SystemExit: 0 where there is none
abbrev pub status_by : Value → Value
status_by Nil = Int (pos 0)
status_by True = True
status_by False = False
status_by (Int z) = Int z
status_by (Sym name) = Sym name
status_by (Obj id) = Obj id

-- A value that is no exception is refused.
abbrev pub of_exception : Value → Option ObjId → (ObjId → Store → Done) → Store → Done
of_exception v None next st = refused class.Exception v st
of_exception v (Some id) next st = next id st

abbrev pub with_exception : Value → (ObjId → Store → Done) → Store → Done
with_exception v next st = of_exception v (views.an_exception st.objects v) next st

-- `initialize`
abbrev pub initialize : Value → Value → Store → Done
initialize v said = with_exception v (λ id st. gives Nil (changes.with_message (holding st) id said).store)

-- `message` as text, `status`, and `name` and `result`
abbrev pub message_text : Value → Store → Done
message_text v = with_exception v (λ id. message id v)

abbrev pub status : Value → Store → Done
status v = with_exception v (λ id st. gives (status_by (detail_of st id)) st)

abbrev pub detail : Value → Store → Done
detail v = with_exception v (λ id st. gives (detail_of st id) st)
