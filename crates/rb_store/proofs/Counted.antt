-- The count of changes through the calls of a store.
use Rattle.std.proofs.Common.{◌≡◌, ◌≢◌, ℕ, ◌+◌, ◌-◌, ◌^◌, ◌<◌, min, List, [], ◌∷◌, length, get_or, true, false, refl, ap, sym, ◌∙◌, subst, arith, true≢false}
use Rattle.std.specs.Prelude.{Option, Some, None, nat_eq}
use Rattle.std.specs.List.{position}
use Rattle.std.specs.Str.{bytes_eq}
use Rattle.std.proofs.lemmas.List.{get_or-set_same, get_or-set_other}
use Rattle.std.proofs.lemmas.Bool.Decides.{nat_tests}
use Rattle.rb_value.specs.declared.value.Value.{Value}
use Rattle.rb_value.specs.declared.value.ObjId.{ObjId}
use Rattle.rb_value.specs.declared.value.SymId.{SymId}
use Rattle.rb_value.specs.declared.method.Visibility.{Visibility}
use Rattle.rb_value.specs.declared.kind.ClassContents.{ClassContents}
use Rattle.rb_value.specs.declared.kind.Kind.TheVariants as kind
use Rattle.rb_value.specs.Object.{Object}
use Rattle.rb_value.specs.declared.kind.Sort.{Sort}
use Rattle.rb_value.specs.declared.kind.Sort.TheVariants as sort
use Rattle.rb_value.specs.Sort.{sort_of}
use Rattle.def_core.specs.Store.{Store, absent, object_at, sort_at, set_object, with_object}
use Rattle.def_core.specs.Classes.{contents_of, class_at, with_class}
use Rattle.def_core.specs.Parts.{with_singleton_class}
use Rattle.def_core.specs.Changes.{intern, intern_at, with_default, with_constant}
use Rattle.def_core.specs.Sound.{ClassOrModule, plays, IsGood}
use Rattle.def_core.proofs.Sorts.{sorts-set, same_class_sort}
use Rattle.def_core.proofs.Roles.{is_plays}
use Rattle.def_core.proofs.Good.{good_within, is_good, good_same}
use Rattle.def_core.proofs.Grows.{one_more}
use Rattle.rb_store.specs.Held.{Held, changes_after}
use Rattle.rb_store.specs.Counted.{looks_of, SameLooks, IsCounted}

pub same_looks : (st : Store) → SameLooks st st
same_looks st = record { roles = λ c is. is; looks = λ c is. refl }

pub same_then : (a b c : Store) → SameLooks a b → SameLooks b c → SameLooks a c
same_then a b c h g = record {
  roles = λ x is. g.roles x (h.roles x is);
  looks = λ x is. g.looks x (h.roles x is) ∙ h.looks x is;
}

-- two calls, one after the other
pub counted_then : (a b c : Held) → IsCounted a b → IsCounted b c → IsCounted a c
counted_then a b c h g = record {
  rises = omega (arith, h.rises, g.rises);
  same = λ e lt.
      let p : a.changes ≡ b.changes = omega (arith, h.rises, g.rises) in
      let q : b.changes ≡ c.changes = omega (arith, h.rises, g.rises) in
      same_then a.store b.store c.store (h.same p (omega (arith, h.rises, g.rises))) (g.same q lt);
}

pub unchanged : (h g : Held) → g.store ≡ h.store → g.changes ≡ h.changes → IsCounted h g
unchanged h g s e = record {
  rises = omega arith;
  same =
      λ _ _. subst (SameLooks h.store) (sym s) (same_looks h.store);
}

-- a count that rises
risen : (h g : Held) → h.changes < 2 ^ 64 → g.changes ≡ min (h.changes + 1) (2 ^ 64 - 1) → IsCounted h g
risen h g lt e = record { rises = omega arith; same = λ p q. absurd (omega arith) }

-- a class or module finds methods in another way
pub counted_more : (h g : Held) → h.changes < 2 ^ 64 → g.changes ≡ min (h.changes + 1) (2 ^ 64 - 1) → IsCounted h g
counted_more h g lt e = risen h g lt e

class_counted : (h g : Held) (s : Sort) → h.changes < 2 ^ 64 → plays ClassOrModule s ≡ true
    → g.changes ≡ changes_after h.changes s → IsCounted h g
class_counted h g sort.Class lt is e = risen h g lt e
class_counted h g sort.Singleton lt is e = risen h g lt e
class_counted h g sort.Module lt is e = risen h g lt e
class_counted h g sort.Plain lt is e = absurd (true≢false (sym is))
class_counted h g sort.String lt is e = absurd (true≢false (sym is))
class_counted h g sort.Array lt is e = absurd (true≢false (sym is))
class_counted h g sort.Hash lt is e = absurd (true≢false (sym is))
class_counted h g sort.Range lt is e = absurd (true≢false (sym is))
class_counted h g sort.Proc lt is e = absurd (true≢false (sym is))
class_counted h g sort.Fiber lt is e = absurd (true≢false (sym is))
class_counted h g sort.Exception lt is e = absurd (true≢false (sym is))
class_counted h g sort.Enumerator lt is e = absurd (true≢false (sym is))
class_counted h g sort.Yielder lt is e = absurd (true≢false (sym is))

-- an object that is no class or module in the place of another
pub other_changed : (st : Store) (id : ObjId) (o : Object) → sort_of o.kind ≡ sort_at st.objects id
    → plays ClassOrModule (sort_at st.objects id) ≡ false
    → SameLooks st (record st { objects = set_object st.objects id o })
other_changed st id o same not = record {
  roles = λ c is. record { holds = rw (sorts-set st.objects id o same) is.holds };
  looks = λ c is.
      let apart : c.0 ≢ id.0 = λ e. true≢false
      (sym (is_plays st ClassOrModule c is)
      ∙ ap (λ (n : ℕ). plays ClassOrModule (sort_of (get_or st.objects n absent).kind)) e ∙ not) in
      ap (λ (x : Object). looks_of (contents_of x.kind)) (get_or-set_other st.objects id.0 c.0 o absent apart);
}

not_changed : (n : ℕ) (s : Sort) → plays ClassOrModule s ≡ false → changes_after n s ≡ n
not_changed n sort.Class h = absurd (true≢false h)
not_changed n sort.Singleton h = absurd (true≢false h)
not_changed n sort.Module h = absurd (true≢false h)
not_changed n sort.Plain h = refl
not_changed n sort.String h = refl
not_changed n sort.Array h = refl
not_changed n sort.Hash h = refl
not_changed n sort.Range h = refl
not_changed n sort.Proc h = refl
not_changed n sort.Fiber h = refl
not_changed n sort.Exception h = refl
not_changed n sort.Enumerator h = refl
not_changed n sort.Yielder h = refl

pub set_counted : (h g : Held) (id : ObjId) (o : Object) → h.changes < 2 ^ 64
    → sort_of o.kind ≡ sort_at h.store.objects id
    → g.store ≡ record h.store { objects = set_object h.store.objects id o }
    → g.changes ≡ changes_after h.changes (sort_at h.store.objects id) → IsCounted h g
set_counted h g id o lt same s e = elim (plays ClassOrModule (sort_at h.store.objects id)) as
    (λ b. plays ClassOrModule (sort_at h.store.objects id) ≡ b → IsCounted h g) [
      | true ↦ λ b. class_counted h g (sort_at h.store.objects id) lt b e
      | false ↦ λ b.
          let stays : g.changes ≡ h.changes = e ∙ not_changed h.changes (sort_at h.store.objects id) b in
          record {
            rises = omega arith;
            same = λ _ _. subst (SameLooks h.store) (sym s) (other_changed h.store id o same b);
          }
    ] refl

-- an object of the same sort, by which methods are found as before, in the place of another
looks_stay : (st : Store) (id : ObjId) (o : Object) → id.0 < length st.objects → sort_of o.kind ≡ sort_at st.objects id
    → looks_of (contents_of o.kind) ≡ looks_of (class_at st.objects id)
    → SameLooks st (record st { objects = set_object st.objects id o })
looks_stay st id o within same looks = record {
  roles = λ c is. record { holds = rw (sorts-set st.objects id o same) is.holds };
  looks = λ c is. elim (nat_eq c.0 id.0) as
      (λ b. nat_eq c.0 id.0 ≡ b
      → looks_of (class_at (set_object st.objects id o) c) ≡ looks_of (class_at st.objects c)) [
        | true ↦ λ e.
            let at : c.0 ≡ id.0 = grind (arith, nat_tests, e) in
            ap (λ (n : ℕ). looks_of (contents_of (get_or (set_object st.objects id o) n absent).kind)) at
            ∙ ap (λ (x : Object). looks_of (contents_of x.kind)) (get_or-set_same st.objects id.0 o absent within)
            ∙ looks
            ∙ ap (λ (n : ℕ). looks_of (contents_of (get_or st.objects n absent).kind)) (sym at)
        | false ↦ λ e.
            let apart : c.0 ≢ id.0 = grind (arith, nat_tests, e) in
            ap (λ (x : Object). looks_of (contents_of x.kind)) (get_or-set_other st.objects id.0 c.0 o absent apart)
      ] refl;
}

pub same_looks_counted : (h g : Held) (id : ObjId) (o : Object) → IsGood h.store id
    → sort_of o.kind ≡ sort_at h.store.objects id
    → looks_of (contents_of o.kind) ≡ looks_of (class_at h.store.objects id)
    → g.store ≡ record h.store { objects = set_object h.store.objects id o } → g.changes ≡ h.changes → IsCounted h g
same_looks_counted h g id o good same looks s e = record {
  rises = omega arith;
  same =
      λ _ _. subst (SameLooks h.store) (sym s) (looks_stay h.store id o (good_within h.store id good) same looks);
}

-- a class or module with other contents, by which methods are found as before
class_looks_counted : (h g : Held) (c : ObjId) (k : ClassContents) → IsGood h.store c
    → plays ClassOrModule (sort_at h.store.objects c) ≡ true → k.form ≡ (class_at h.store.objects c).form
    → looks_of k ≡ looks_of (class_at h.store.objects c)
    → g.store ≡ record h.store { objects = with_class h.store.objects c k } → g.changes ≡ h.changes → IsCounted h g
class_looks_counted h g c k good is form looks s e =
    same_looks_counted h g c (record (object_at h.store.objects c) { kind = kind.Class k }) good
    (same_class_sort h.store.objects c k is form) looks s e

pub default_counted : (h g : Held) (c : ObjId) (v : Visibility) → IsGood h.store c
    → plays ClassOrModule (sort_at h.store.objects c) ≡ true
    → g.store ≡ record h.store { objects = with_default h.store.objects c v } → g.changes ≡ h.changes → IsCounted h g
unfolding with_default
default_counted h g c v good is s e = class_looks_counted h g c _ good is refl refl s e

pub constant_counted : (h g : Held) (c : ObjId) (name : SymId) (v : Value) → IsGood h.store c
    → plays ClassOrModule (sort_at h.store.objects c) ≡ true
    → g.store ≡ record h.store { objects = with_constant h.store.objects c name v } → g.changes ≡ h.changes
    → IsCounted h g
constant_counted h g c name v good is s e = class_looks_counted h g c _ good is refl refl s e

pub one_added : (st : Store) (o : Object) → SameLooks st (with_object st o)
one_added st o = record {
  roles = λ c is. (one_more st o).roles ClassOrModule c is;
  looks = λ c is. ap (λ (x : Object). looks_of (contents_of x.kind))
      (good_same st (o ∷ []) c (is_good st ClassOrModule c is));
}

pub added_counted : (h g : Held) (o : Object) → g.store ≡ with_object h.store o → g.changes ≡ h.changes → IsCounted h g
added_counted h g o s e = record {
  rises = omega arith;
  same =
      λ _ _. subst (SameLooks h.store) (sym s) (one_added h.store o);
}

pub one_interned : (st : Store) (name : List ℕ) → SameLooks st (intern st name).store
unfolding intern
one_interned st name = by (position (bytes_eq name) st.symbols)
  where
    by : (p : Option ℕ) → SameLooks st (intern_at st name p).store
    by None = record { roles = λ c is. record { holds = is.holds }; looks = λ c is. refl }
    by (Some i) = same_looks st

pub interned_counted : (h g : Held) (name : List ℕ) → g.store ≡ (intern h.store name).store → g.changes ≡ h.changes
    → IsCounted h g
interned_counted h g name s e = record {
  rises = omega arith;
  same =
      λ _ _. subst (SameLooks h.store) (sym s) (one_interned h.store name);
}

-- an object gets a singleton class, which stands after the others
pub singleton_counted : (h g : Held) (id : ObjId) (class : Object) → IsGood h.store id
    → g.store ≡ record h.store { objects = with_singleton_class h.store.objects id class } → g.changes ≡ h.changes
    → IsCounted h g
singleton_counted h g id class good s e =
    let o : Object = record (object_at h.store.objects id) { singleton = Some (record { 0 = length h.store.objects }) }
    in
    let held : Store = record h.store { objects = set_object h.store.objects id o } in
    record {
      rises = omega arith;
      same = λ _ _. subst (SameLooks h.store) (sym s)
          (same_then h.store held (with_object held class) (looks_stay h.store id o (good_within h.store id good) refl refl)
          (one_added held class));
    }
