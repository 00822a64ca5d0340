-- One step of a search that counts.
use Rattle.std.proofs.Common.{◌≡◌, ℕ, zero, suc, ◌+◌, ◌≤◌, List, [], ◌∷◌, length, refl, ap, sym, ◌∙◌, arith}
use Rattle.std.specs.Prelude.{Option, Some, None}
use Rattle.rb_value.specs.declared.value.ObjId.{ObjId}
use Rattle.rb_value.specs.declared.value.SymId.{SymId}
use Rattle.rb_value.specs.declared.method.MethodEntry.{MethodEntry}
use Rattle.rb_value.specs.Object.{Object}
use Rattle.rb_value.specs.declared.method.Method.{Method}
use Rattle.rb_base.specs.Steps.{one_more}
use Rattle.def_core.specs.Find.{entry_of, found_or, first_of}
use Rattle.class_model.specs.Methods.{method_of}
use Rattle.class_model.proofs.Search.{first_step}
use Rattle.method_lookup.specs.Probes.{one_and, probes, counted}

probes_step : (objects : List Object) (before after : List ObjId) (c : ObjId) (name : SymId) → before ≡ c ∷ after
    → probes objects before name ≡ one_and (entry_of objects c name) (probes objects after name)
unfolding probes
probes_step objects before after c name h = rw h refl

probes_none : (objects : List Object) (before : List ObjId) (name : SymId) → before ≡ []
    → probes objects before name ≡ 0
unfolding probes
probes_none objects before name h = rw h refl

one_and_at_most : (e : Option MethodEntry) (n m : ℕ) → n ≤ m → one_and e n ≤ suc m
one_and_at_most None n m h = omega (arith, h)
one_and_at_most (Some e) n m h = omega arith

probes_at_most : (objects : List Object) (cs : List ObjId) (name : SymId) → probes objects cs name ≤ length cs
unfolding probes
probes_at_most objects [] name = omega arith
probes_at_most objects (c ∷ cs) name = one_and_at_most (entry_of objects c name) (probes objects cs name) (length cs)
    (probes_at_most objects cs name)

counted_at_most : (n more : ℕ) → counted n more ≤ n + more
unfolding counted
counted_at_most n zero = omega arith
counted_at_most n (suc more) = omega (arith, counted_at_most (one_more n) more)

-- a search asks no more than all
pub asked_at_most : (objects : List Object) (cs : List ObjId) (name : SymId) (n : ℕ)
    → counted n (probes objects cs name) ≤ n + length cs
asked_at_most objects cs name n = omega (
  arith,
  counted_at_most n (probes objects cs name),
  probes_at_most objects cs name,
)

-- nobody is asked
pub asked_none : (objects : List Object) (before : List ObjId) (name : SymId) (n : ℕ) → before ≡ []
    → counted n (probes objects before name) ≡ n
unfolding counted
asked_none objects before name n h = ap (counted n) (probes_none objects before name h)

-- an entry by its method
no_entry : (e : Option MethodEntry) → method_of e ≡ None → e ≡ None
no_entry None h = refl
no_entry (Some x) h = cc

-- a member that hasn't the name
pub found_behind : (objects : List Object) (before after : List ObjId) (c : ObjId) (name : SymId) → before ≡ c ∷ after
    → method_of (entry_of objects c name) ≡ None
    → first_of objects after name ≡ first_of objects before name
found_behind objects before after c name h e =
    sym (first_step objects before after c name h
    ∙ ap (λ (o : Option MethodEntry). found_or c o (first_of objects after name))
    (no_entry (entry_of objects c name) e))

pub asked_behind : (objects : List Object) (before after : List ObjId) (c : ObjId) (name : SymId) (n : ℕ)
    → before ≡ c ∷ after → method_of (entry_of objects c name) ≡ None
    → counted (one_more n) (probes objects after name) ≡ counted n (probes objects before name)
unfolding counted
asked_behind objects before after c name n h e =
    ap (counted n) (sym (probes_step objects before after c name h
    ∙ ap (λ (o : Option MethodEntry). one_and o (probes objects after name))
    (no_entry (entry_of objects c name) e)))

-- the first member that has it
pub found_here : (objects : List Object) (before after : List ObjId) (c : ObjId) (name : SymId) (m : Method)
    → before ≡ c ∷ after → method_of (entry_of objects c name) ≡ Some m
    → found_or c (entry_of objects c name) None ≡ first_of objects before name
found_here objects before after c name m h e = by (entry_of objects c name) e
    ∙ sym (first_step objects before after c name h)
  where
    by : (o : Option MethodEntry) → method_of o ≡ Some m
        → found_or c o None ≡ found_or c o (first_of objects after name)
    by None h = cc
    by (Some x) h = refl

pub asked_here : (objects : List Object) (before after : List ObjId) (c : ObjId) (name : SymId) (n : ℕ) (m : Method)
    → before ≡ c ∷ after → method_of (entry_of objects c name) ≡ Some m
    → one_more n ≡ counted n (probes objects before name)
unfolding counted
asked_here objects before after c name n m h e = by (entry_of objects c name) e
    ∙ ap (counted n) (sym (probes_step objects before after c name h))
  where
    by : (o : Option MethodEntry) → method_of o ≡ Some m
        → one_more n ≡ counted n (one_and o (probes objects after name))
    by None h = cc
    by (Some x) h = refl
