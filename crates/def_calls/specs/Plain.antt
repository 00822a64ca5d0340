-- What the core methods give that open no activation (ISO/IEC 30170:2012, clause 15).
use Rattle.std.specs.Prelude.{ℕ, ℤ, pos, negsuc, List, ◌++◌, length, get_or, nat_lt, codes, Bool, true, false, not, if◌then◌else◌, Option, Some, None}
use Rattle.rb_value.specs.declared.value.Value.{Value}
use Rattle.rb_value.specs.declared.value.Value.TheVariants.{Nil, True, False, Int, Sym, Obj}
use Rattle.rb_value.specs.declared.value.ObjId.{ObjId}
use Rattle.rb_value.specs.declared.value.SymId.{SymId}
use Rattle.rb_value.specs.Object.{Object}
use Rattle.rb_value.specs.declared.method.Method.TheVariants as method
use Rattle.rb_value.specs.declared.kind.Kind.TheVariants as kind
use Rattle.rb_value.specs.declared.core_class.CoreClass.TheVariants as class
use Rattle.rb_value.specs.Value.{truth, is_true}
use Rattle.def_core.specs.declared.cause.Cause.TheVariants as cause
use Rattle.def_core.specs.Store.{Store, Done, core, fresh, object_at}
use Rattle.def_core.specs.Classes.{class_at, class_of, plain_class_of, chain, is_member}
use Rattle.def_core.specs.Find.{same_value}
use Rattle.def_core.specs.Bind.{elements_in}
use Rattle.def_core.specs.Changes.{gives, fails, with_method, is_class_sort, object_of_sort}
use Rattle.def_core.specs.Texts.{class_name}
use Rattle.def_core.specs.Parts.{with_objects, with_kind}
use Rattle.rb_store.specs.Opening.{main_object}
use Rattle.def_rows.specs.Answers.{makes, text_object}
use Rattle.def_calls.specs.Views.{Callable, by_body, by_row, integer_in, symbol_in, kind_in, callable_of, message_of, detail_of, fiber_of, an_array, an_exception}
use Rattle.def_calls.specs.Checks.{counted, with_block, wanted}
use Rattle.def_calls.specs.Constants.{is_space_sort}
use Rattle.def_calls.specs.Values.{element_at, pushed, shown}
use Rattle.def_calls.specs.Rows

abbrev pub makes_text : Store → List ℕ → Done
makes_text st bytes = makes st (text_object bytes)

-- what stands for an object: its class, and `main` for the main object
abbrev pub is_main : Value → Bool
is_main v = same_value v (Obj main_object)

unfoldable pub shown_object : Store → Value → List ℕ
shown_object st v =
    if is_main v then codes "main" else (codes "#<" ++ class_name st (plain_class_of st.objects v) ++ codes ">")

abbrev pub exits_with : Store → ℤ → Done
exits_with st (pos n) = if nat_lt n 256 then fails st (cause.Exit n) else fails st cause.StatusOutOfRange
exits_with st (negsuc n) = fails st cause.StatusOutOfRange

-- true is a good end, and false isn't
abbrev pub status_in : Value → Option ℤ
status_in Nil = None
status_in True = Some (pos 0)
status_in False = Some (pos 1)
status_in (Int z) = Some z
status_in (Sym s) = None
status_in (Obj id) = None

-- a new lambda of a block
abbrev pub as_lambda : Store → ObjId → Option Callable → Done
as_lambda st p None = gives (Obj p) st
as_lambda st p (Some (by_row r v)) = gives (Obj p) st
as_lambda st p (Some (by_body c)) = makes st (fresh (core class.Proc) (kind.Proc (record c { lambda = true })))

-- what an exception is made with, as its text: an object itself, and where there is nothing the name of the class
abbrev pub message_text : Store → Value → Value → Done
message_text st e Nil = makes_text st (class_name st (plain_class_of st.objects e))
message_text st e True = makes_text st (shown st True)
message_text st e False = makes_text st (shown st False)
message_text st e (Int z) = makes_text st (shown st (Int z))
message_text st e (Sym s) = makes_text st (shown st (Sym s))
message_text st e (Obj id) = gives (Obj id) st

abbrev pub with_message : List Object → ObjId → Value → List Object
with_message objects id m =
    with_kind objects id (kind.Exception m (detail_of (object_at objects id).kind))

-- a method made of a block takes the default of its class
abbrev pub with_block_method : Store → ObjId → SymId → ObjId → Store
with_block_method st c s p = with_method st c s (method.Block p) (class_at st.objects c).visibility

-- a class or module
abbrev pub a_space : List Object → Value → Option ObjId
a_space objects v = object_of_sort is_space_sort objects v

-- What each row gives.
abbrev pub outright : Rows.PlainRow → Store → Value → List Value → Option ObjId → Done
-- Object and Kernel (15.2.1, 15.3.1); exit is an addition
outright Rows.initialize_object st recv args block = counted (fails st) 0 (Some 0) args (gives Nil st)
outright Rows.method_missing st recv args block =
    counted (fails st) 1 None args (wanted (fails st) st.objects class.Symbol (get_or args 0 Nil)
    (symbol_in (get_or args 0 Nil)) (λ s. fails st (cause.UndefinedMethod s (plain_class_of st.objects recv))))
outright Rows.object_text st recv args block =
    counted (fails st) 0 (Some 0) args (makes_text st (shown_object st recv))
outright Rows.object_inspection st recv args block =
    counted (fails st) 0 (Some 0) args (makes_text st (shown_object st recv))
outright Rows.same_object st recv args block =
    counted (fails st) 1 (Some 1) args (gives (truth (same_value recv (get_or args 0 Nil))) st)
outright Rows.negation st recv args block = counted (fails st) 0 (Some 0) args (gives (truth (not (is_true recv))) st)
outright Rows.class_of_object st recv args block =
    counted (fails st) 0 (Some 0) args (gives (Obj (plain_class_of st.objects recv)) st)
outright Rows.exit_program st recv args block =
    counted (fails st) 0 (Some 1) args (wanted (fails st) st.objects class.Integer (get_or args 0 True)
    (status_in (get_or args 0 True)) (λ z. exits_with st z))
outright Rows.proc_of_block st recv args block =
    counted (fails st) 0 (Some 0) args (with_block (fails st) block (λ p. gives (Obj p) st))
outright Rows.lambda_of_block st recv args block =
    counted (fails st) 0 (Some 0) args (with_block (fails st) block
    (λ p. as_lambda st p (callable_of (kind_in st.objects (Obj p)))))
-- Symbol (15.2.11)
outright Rows.proc_of_symbol st recv args block =
    counted (fails st) 0 (Some 0) args (makes st (fresh (core class.Proc) (kind.CoreProc Rows.send_kept_row recv)))
-- Array (15.2.12)
outright Rows.array_push st recv args block =
    counted (fails st) 1 (Some 1) args (wanted (fails st) st.objects class.Array recv (an_array st.objects recv)
    (λ id. gives recv (pushed st id args)))
outright Rows.array_length st recv args block =
    counted (fails st) 0 (Some 0) args (wanted (fails st) st.objects class.Array recv (elements_in st.objects recv)
    (λ vs. gives (Int (pos (length vs))) st))
outright Rows.array_element st recv args block =
    counted (fails st) 1 (Some 1) args (wanted (fails st) st.objects class.Array recv (elements_in st.objects recv)
    (λ vs. wanted (fails st) st.objects class.Integer (get_or args 0 Nil) (integer_in (get_or args 0 Nil))
    (λ z. gives (element_at vs z) st)))
-- Module (15.2.2)
outright Rows.has_ancestor st recv args block =
    counted (fails st) 1 (Some 1) args (wanted (fails st) st.objects class.Module recv (a_space st.objects recv)
    (λ c. gives (truth (is_member (chain st.objects (class_of st.objects (get_or args 0 Nil))) c)) st))
outright Rows.class_text st recv args block =
    counted (fails st) 0 (Some 0) args (wanted (fails st) st.objects class.Module recv (a_space st.objects recv)
    (λ c. makes_text st (class_name st c)))
outright Rows.method_of_block st recv args block =
    counted (fails st) 1 (Some 1) args (with_block (fails st) block
    (λ p. wanted (fails st) st.objects class.Module recv (a_space st.objects recv)
    (λ c. wanted (fails st) st.objects class.Symbol (get_or args 0 Nil) (symbol_in (get_or args 0 Nil))
    (λ s. gives (Sym s) (with_block_method st c s p)))))
-- Exception (15.2.22)
outright Rows.initialize_exception st recv args block =
    counted (fails st) 0 (Some 1) args (wanted (fails st) st.objects class.Exception recv
    (an_exception st.objects recv)
    (λ id. gives Nil (with_objects st (with_message st.objects id (get_or args 0 Nil)))))
outright Rows.exception_text st recv args block =
    counted (fails st) 0 (Some 0) args (wanted (fails st) st.objects class.Exception recv
    (an_exception st.objects recv) (λ id. message_text st recv (message_of (kind_in st.objects recv))))
-- Fiber, an addition
outright Rows.new_fiber st recv args block =
    counted (fails st) 0 (Some 0) args (with_block (fails st) block
    (λ p. wanted (fails st) st.objects class.Class recv (object_of_sort is_class_sort st.objects recv)
    (λ c. makes st (fresh c (kind.Fiber p false)))))
outright Rows.is_alive st recv args block =
    counted (fails st) 0 (Some 0) args (wanted (fails st) st.objects class.Fiber recv
    (fiber_of (kind_in st.objects recv)) (λ f. gives (truth (not f.1)) st))
