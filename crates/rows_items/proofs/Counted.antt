-- Counts, one after another.
use Rattle.std.proofs.Common.{◌≡◌, List, ◌∷◌, ap}
use Rattle.std.specs.Prelude.{Option, Some, Result, Ok, Err}
use Rattle.rb_value.specs.declared.value.Value.{Value}
use Rattle.rb_value.specs.declared.value.ObjId.{ObjId}
use Rattle.def_core.specs.declared.cause.Cause.{Cause}
use Rattle.rb_store.specs.Held.{Held}
use Rattle.rows_items.specs.Keyed.{Tallied, tally_on, tally_of, counted, tallied_in}

-- one more value, or it is refused
pub count_more : (held after : Held) (id : ObjId) (v : Value) (vs : List Value) → counted held id v ≡ Ok after
    → tallied_in held id (v ∷ vs) ≡ tallied_in after id vs
count_more held after id v vs e = ap (λ (r : Result Held Cause). tally_on held r (λ after. tallied_in after id vs)) e

pub count_refused : (held : Held) (id : ObjId) (v : Value) (vs : List Value) (c : Cause) → counted held id v ≡ Err c
    → tallied_in held id (v ∷ vs) ≡ record { refused = Some c; held = held }
count_refused held id v vs c e = ap (λ (r : Result Held Cause). tally_on held r (λ after. tallied_in after id vs)) e

pub tally_comes : (id : ObjId) (t : Tallied) (held : Held) (o : Option Cause) → t ≡ record { refused = o; held = held }
    → tally_of id t ≡ tally_of id (record { refused = o; held = held })
tally_comes id t held o e = ap (tally_of id) e
