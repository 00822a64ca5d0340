-- What a core method checks before it does anything (docs/library.md): the number of arguments, then whether a block is
-- there, then the classes from left to right. refuse is what comes of a failure.
use Rattle.std.specs.Prelude.{ℕ, List, length, nat_le, Bool, true, ◌&&◌, if◌then◌else◌, Option, Some, None}
use Rattle.rb_value.specs.declared.value.Value.{Value}
use Rattle.rb_value.specs.declared.value.ObjId.{ObjId}
use Rattle.rb_value.specs.Object.{Object}
use Rattle.rb_value.specs.declared.core_class.CoreClass.{CoreClass}
use Rattle.def_core.specs.declared.cause.Cause.{Cause}
use Rattle.def_core.specs.declared.cause.Cause.TheVariants as cause
use Rattle.def_core.specs.Store.{core}
use Rattle.def_core.specs.Classes.{plain_class_of}

abbrev pub at_most : Option ℕ → ℕ → Bool
at_most None n = true
at_most (Some m) n = nat_le n m

-- at least and at most so many arguments
abbrev pub counted : {A : Type 0} → (Cause → A) → ℕ → Option ℕ → List Value → A → A
counted refuse least most args further =
    if nat_le least (length args) && at_most most (length args) then further
    else refuse (cause.WrongCount (length args) least most)

abbrev pub with_block : {A : Type 0} → (Cause → A) → Option ObjId → (ObjId → A) → A
with_block refuse None further = refuse cause.NoBlockGiven
with_block refuse (Some p) further = further p

-- the value v is wanted as one of the class, which it is where something is found in it
abbrev pub wanted : {A B : Type 0} → (Cause → B) → List Object → CoreClass → Value → Option A → (A → B) → B
wanted refuse objects c v None further = refuse (cause.Expected (core c) (plain_class_of objects v))
wanted refuse objects c v (Some x) further = further x
