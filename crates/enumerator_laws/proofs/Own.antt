-- What is of a sound heap counts as itself.
use Rattle.std.proofs.Common.{◌≡◌, List, [], ◌∷◌, true, refl, ap, arith}
use Rattle.std.proofs.lemmas.Bool.Decides.{nat_tests}
use Rattle.std.specs.Prelude.{Option, Some, None}
use Rattle.rb_value.specs.declared.value.Value.{Value}
use Rattle.rb_value.specs.declared.value.Value.TheVariants.{Nil, True, False, Int, Sym, Obj}
use Rattle.rb_value.specs.declared.value.ObjId.{ObjId}
use Rattle.rb_value.specs.declared.value.SymId.{SymId}
use Rattle.rb_value.specs.declared.kind.Sort.{Sort}
use Rattle.rb_value.specs.declared.kind.Sort.TheVariants as sort
use Rattle.rb_value.specs.declared.kind.EnumeratorSource.{EnumeratorSource}
use Rattle.rb_value.specs.declared.kind.EnumeratorSource.TheVariants as source
use Rattle.def_core.specs.Store.{Store, sort_at}
use Rattle.def_core.specs.Sound.{census, plays, Is, IsSymbol, IsValue, OptionIs, AllAre, Array, Fiber, Proc, SoundSource}
use Rattle.def_core.proofs.Roles.{is_plays}
use Rattle.run_values.proofs.Members.{is_array as array_sort}
use Rattle.heap.specs.Operands.{has_symbol, has_proc, has, has_all, own, own_source, own_fiber, own_result, is_array, is_fiber}

symbol_has : (st : Store) (s : SymId) → IsSymbol (census st) s → has_symbol st s ≡ true
symbol_has st s is = let below = is.below in grind (arith, nat_tests, below)

value_has : (st : Store) (v : Value) → IsValue (census st) v → has st v ≡ true
value_has st Nil is = refl
value_has st True is = refl
value_has st False is = refl
value_has st (Int n) is = refl
value_has st (Sym s) is = symbol_has st s is
value_has st (Obj id) is = is.holds

all_has : (st : Store) (vs : List Value) → AllAre (IsValue (census st)) vs → has_all st vs ≡ true
all_has st [] are = refl
all_has st (v ∷ vs) are = rw (value_has st v are.0) (all_has st vs are.1)

pub value_own : (st : Store) (v : Value) → IsValue (census st) v → own st v ≡ v
value_own st v is = rw (value_has st v is) refl

pub result_own : (st : Store) (r : Option Value) → OptionIs (IsValue (census st)) r → own_result st r ≡ r
result_own st None is = refl
result_own st (Some v) is = ap Some (value_own st v is)

pub array_is : (st : Store) (id : ObjId) → Is (census st) Array id → is_array (sort_at st.objects id) ≡ true
array_is st id is = ap is_array (array_sort st id is)

plays_fiber : (s : Sort) → plays Fiber s ≡ true → is_fiber s ≡ true
plays_fiber sort.Plain h = h
plays_fiber sort.Class h = h
plays_fiber sort.Singleton h = h
plays_fiber sort.Module h = h
plays_fiber sort.String h = h
plays_fiber sort.Array h = h
plays_fiber sort.Hash h = h
plays_fiber sort.Range h = h
plays_fiber sort.Proc h = h
plays_fiber sort.Fiber h = h
plays_fiber sort.Exception h = h
plays_fiber sort.Enumerator h = h
plays_fiber sort.Yielder h = h

pub fiber_own : (st : Store) (f : Option ObjId) → OptionIs (Is (census st) Fiber) f → own_fiber st f ≡ f
fiber_own st None is = refl
fiber_own st (Some f) is = rw (plays_fiber (sort_at st.objects f) (is_plays st Fiber f is)) refl

pub source_own : (st : Store) (s : EnumeratorSource) → SoundSource (census st) s → own_source st s ≡ Some s
source_own st (source.Call r n args) is =
    rw (symbol_has st n is.1, all_has st args is.2, value_own st r is.0) refl
source_own st (source.Block p) is = rw (is_plays st Proc p is) refl
