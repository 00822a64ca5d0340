-- What is given in place of the call of a row: what that call gives, and it leaves the store as it was.
use Rattle.std.specs.Prelude.{◌≡◌, ℕ, List, [], ◌∷◌, Option, IfSome}
use Rattle.rb_value.specs.declared.value.Value.{Value}
use Rattle.rb_value.specs.declared.value.ObjId.{ObjId}
use Rattle.def_core.specs.Store.{Store}
use Rattle.def_core.specs.Changes.{gives}
use Rattle.def_rows.specs.Rows.{prim}

-- for those arguments
abbrev pub GivesFor : ℕ → Value → List Value → Option Value → Type 0
GivesFor row receiver args result =
    IfSome result (λ v. (st : Store) → (block : Option ObjId) → prim row receiver args block st ≡ gives v st)

-- for one argument
abbrev pub GivesStraight : ℕ → Value → Value → Option Value → Type 0
GivesStraight row receiver argument result = GivesFor row receiver (argument ∷ []) result
