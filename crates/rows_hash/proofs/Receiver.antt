-- A receiver that is a Hash is an object of that sort.
use Rattle.std.proofs.Common.{◌≡◌, Bool, true, false, refl, ap, sym, ◌∙◌, if◌then◌else◌}
use Rattle.std.specs.Prelude.{Option, Some, None, Ok}
use Rattle.std.specs.Option.{ok_or}
use Rattle.rb_value.specs.declared.value.Value.{Value}
use Rattle.rb_value.specs.declared.value.Value.TheVariants.{Nil, True, False, Int, Sym, Obj}
use Rattle.rb_value.specs.declared.value.ObjId.{ObjId}
use Rattle.rb_value.specs.declared.kind.Kind.{Kind}
use Rattle.rb_value.specs.declared.kind.Kind.TheVariants as kind
use Rattle.rb_value.specs.declared.kind.Sort.TheVariants as sort
use Rattle.rb_value.specs.Sort.{sort_of}
use Rattle.def_core.specs.declared.cause.Cause.{Cause}
use Rattle.def_core.specs.Store.{Store, absent, object_at, sort_at}
use Rattle.def_core.specs.Sound.{has_object}
use Rattle.def_core.proofs.Good.{absent_where_none}
use Rattle.def_calls.specs.Views.{a_hash, hash_of, if_there}
use Rattle.heap.specs.Reading.{sort_of_value}
use Rattle.rows_hash.specs.Pairs as pairs

hash_in_kind : (k : Kind) (i id : ObjId) → if_there (hash_of k) (Obj i) ≡ Some id → (i ≡ id) × (sort_of k ≡ sort.Hash)
hash_in_kind kind.Plain i id h = (cc, cc)
hash_in_kind (kind.Class c) i id h = (cc, cc)
hash_in_kind (kind.String s) i id h = (cc, cc)
hash_in_kind (kind.Array a) i id h = (cc, cc)
hash_in_kind (kind.Hash x) i id h = (cc, refl)
hash_in_kind (kind.Range r) i id h = (cc, cc)
hash_in_kind (kind.Proc p) i id h = (cc, cc)
hash_in_kind (kind.CoreProc r v) i id h = (cc, cc)
hash_in_kind (kind.Fiber b e) i id h = (cc, cc)
hash_in_kind (kind.Exception m d) i id h = (cc, cc)
hash_in_kind (kind.Enumerator e) i id h = (cc, cc)
hash_in_kind (kind.Yielder b) i id h = (cc, cc)

sorted_where : (st : Store) (id : ObjId) (b : Bool) → has_object st.objects id ≡ b → sort_at st.objects id ≡ sort.Hash
    → (if b then Some (sort_at st.objects id) else None) ≡ Some sort.Hash
sorted_where st id true there s = ap Some s
sorted_where st id false there s =
    let plain : sort_at st.objects id ≡ sort_of absent.kind = ap (λ o. sort_of o.kind) (absent_where_none st id there) in
    absurd (plain_is_no_hash (sym plain ∙ s)) where
      plain_is_no_hash : sort.Plain ≡ sort.Hash → ⊥
      plain_is_no_hash e = cc

sort_there : (st : Store) (id : ObjId) → sort_at st.objects id ≡ sort.Hash → sort_of_value st (Obj id) ≡ Some sort.Hash
sort_there st id s = sorted_where st id (has_object st.objects id) refl s

hash_there : (st : Store) (v : Value) (id : ObjId) → a_hash st.objects v ≡ Some id
    → sort_of_value st (Obj id) ≡ Some sort.Hash
hash_there st Nil id h = cc
hash_there st True id h = cc
hash_there st False id h = cc
hash_there st (Int n) id h = cc
hash_there st (Sym s) id h = cc
hash_there st (Obj i) id h =
    let both = hash_in_kind (object_at st.objects i).kind i id h in
    sort_there st id (ap (sort_at st.objects) (sym both.0) ∙ both.1)

some_of : (o : Option ObjId) (c : Cause) (id : ObjId) → ok_or o c ≡ Ok id → o ≡ Some id
some_of None c id h = cc
some_of (Some i) c id h = cc

pub receiver_sorted : (st : Store) (v : Value) (id : ObjId) → pairs.hash_of st v ≡ Ok id
    → sort_of_value st (Obj id) ≡ Some sort.Hash
receiver_sorted st v id h = hash_there st v id (some_of (a_hash st.objects v) _ id h)
