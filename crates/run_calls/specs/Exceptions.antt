-- What is seen of an exception that nothing rescued.
use Rattle.std.specs.Prelude.{◌≡◌, ℕ, ℤ, pos, negsuc, List, [], Bool, if◌then◌else◌}
use Rattle.rb_value.specs.declared.value.Value.{Value}
use Rattle.rb_value.specs.declared.value.Value.TheVariants.{Nil, True, False, Int, Sym, Obj}
use Rattle.rb_value.specs.declared.value.ObjId.{ObjId}
use Rattle.rb_value.specs.declared.core_class.CoreClass.TheVariants as class
use Rattle.def_core.specs.Store.{Store, core, object_at}
use Rattle.def_core.specs.Classes.{plain_class_of}
use Rattle.def_core.specs.Texts.{class_name}
use Rattle.def_calls.specs.Values.{text_of_value}
use Rattle.def_calls.specs.Views.{message_of, detail_of}
use Rattle.heap.specs.Operands.{own, has_space, is_in_chain}
use Rattle.run_calls.specs.declared.exceptions.Unrescued.{Unrescued}

abbrev pub class_of_exception : Store → ObjId → ObjId
class_of_exception st e = plain_class_of st.objects (own st (Obj e))

abbrev pub name_of : Store → ObjId → List ℕ
name_of st c = if has_space st c then class_name st c else []

-- the status that it ends the program with: 0 where it has none, or a negative one

abbrev pub status_of_integer : ℤ → ℕ
status_of_integer (pos n) = n
status_of_integer (negsuc n) = 0

abbrev pub status_in : Value → ℕ
status_in Nil = 0
status_in True = 0
status_in False = 0
status_in (Int n) = status_of_integer n
status_in (Sym s) = 0
status_in (Obj k) = 0

abbrev pub status_of : Store → ObjId → ℕ
status_of st e = status_in (detail_of (object_at st.objects e).kind)

-- its message, or the name of its class where it has none

abbrev pub message_or : Store → ObjId → Value → List ℕ
message_or st e Nil = name_of st (class_of_exception st e)
message_or st e True = text_of_value st (own st True)
message_or st e False = text_of_value st (own st False)
message_or st e (Int n) = text_of_value st (own st (Int n))
message_or st e (Sym s) = text_of_value st (own st (Sym s))
message_or st e (Obj k) = text_of_value st (own st (Obj k))

abbrev pub message_or_name : Store → ObjId → List ℕ
message_or_name st e = message_or st e (message_of (object_at st.objects e).kind)

-- whether it ends the program with a status
abbrev pub exits : Store → ObjId → Bool
exits st e = is_in_chain st (class_of_exception st e) (core class.SystemExit)

pub record SeenOf (st : Store) (e : ObjId) (seen : Unrescued) : Type 0 where
  pub exiting : seen.exits ≡ exits st e
  pub status : seen.status ≡ status_of st e
  pub class : seen.class.items ≡ name_of st (class_of_exception st e)
  pub message : seen.message.items ≡ message_or_name st e
