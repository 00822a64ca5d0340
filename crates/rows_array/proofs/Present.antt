-- Values that aren't nil, one after another.
use Rattle.std.proofs.Common.{◌≡◌, List, [], ◌∷◌, true, false, refl}
use Rattle.rb_value.specs.declared.value.Value.{Value}
use Rattle.rb_value.specs.declared.value.Value.TheVariants.{Nil, True, False, Int, Sym, Obj}
use Rattle.rb_value.specs.contracts.value.ValuePartialEq.TheImpl as values
use Rattle.rows_array.specs.Lists.{present}

pub nil_passed : (v : Value) (vs : List Value) → values.ghosts.eq v Nil ≡ true → present (v ∷ vs) ≡ present vs
nil_passed Nil vs e = refl
nil_passed True vs e = cc
nil_passed False vs e = cc
nil_passed (Int z) vs e = cc
nil_passed (Sym s) vs e = cc
nil_passed (Obj id) vs e = cc

pub one_more : (v : Value) (vs : List Value) → values.ghosts.eq v Nil ≡ false → present (v ∷ vs) ≡ v ∷ present vs
one_more Nil vs e = cc
one_more True vs e = refl
one_more False vs e = refl
one_more (Int z) vs e = refl
one_more (Sym s) vs e = refl
one_more (Obj id) vs e = refl
