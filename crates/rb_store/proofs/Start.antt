-- The store at the start is sound.
use Rattle.std.proofs.Common.{◌≡◌, ℕ, zero, suc, ◌+◌, ◌<◌, ◌≤◌, List, [], ◌∷◌, ◌++◌, length, map, get_or, Bool, true, false, ◌&&◌, ◌*◌, cond, if◌then◌else◌, refl, ap, sym, ◌∙◌, subst, arith, lit<, lit≤, length-append}
use Rattle.std.specs.Prelude.{Option, Some, None, nat_eq, nat_lt, slice_get, codes}
use Rattle.std.specs.List.{position}
use Rattle.std.specs.Str.{bytes_eq}
use Rattle.std.proofs.lemmas.Bool.Decides.{nat_tests}
use Rattle.std.proofs.lemmas.List.Quantifiers.{position-Some}
use Rattle.indexmap.specs.IndexMap.{insert_entry}
use Rattle.rb_value.specs.Object.{Object}
use Rattle.rb_value.specs.declared.value.Value.{Value}
use Rattle.rb_value.specs.declared.value.Value.TheVariants.{Obj}
use Rattle.rb_value.specs.declared.value.ObjId.{ObjId}
use Rattle.rb_value.specs.declared.method.Method.TheVariants as method
use Rattle.rb_value.specs.declared.method.Visibility.TheVariants.{Public}
use Rattle.rb_value.specs.declared.kind.ClassForm.TheVariants as form
use Rattle.rb_value.specs.declared.kind.Kind.TheVariants as kind
use Rattle.rb_value.specs.declared.kind.Sort.{Sort}
use Rattle.rb_value.specs.declared.kind.Sort.TheVariants as sort
use Rattle.rb_value.specs.declared.core_class.CoreClass.{CoreClass}
use Rattle.rb_value.specs.declared.core_class.CoreClass.TheVariants as class
use Rattle.rb_value.specs.CoreClass.{core_classes, number_of, is_module}
use Rattle.def_core.specs.Store.{Store, absent, core, fresh}
use Rattle.def_core.specs.Changes.{intern, intern_at}
use Rattle.row_table.specs.Names.{names, integer_names, nil_names, truth_names, string_names, string_class_names, symbol_names, range_names, range_class_names}
use Rattle.row_table.specs.Segments.{segments}
use Rattle.def_core.specs.Sound.{sorts_of, census, Census, Role, Any, Class, Module, ClassOrModule, Superclass, SingletonClass, plays, plays_at, Is, IsSymbol, IsValue, OptionIs, AllAre, SoundConstant, IsSuperclass, SoundObject, core_sort, Sound}
use Rattle.def_core.proofs.Roles.{is_plays, is_by_sort}
use Rattle.def_core.proofs.Sorts.{sorts-with_method}
use Rattle.def_core.proofs.Grows.{sound_with_interned, interned}
use Rattle.def_core.proofs.Keeps.{sound_with_method, named_kept}
use Rattle.rb_store.specs.Opening.{with_constant_for, with_constants_for, object_constants, constants_of, included_in, superclass_of, core_contents, core_object, nameless, with_names, bare, with_row, with_rows, IsHeld, holder, with_segment, with_segments, opening, object_singleton, range_singleton, string_singleton, singleton_of, singleton_object}
use Rattle.rb_store.proofs.Rows.{held_still, nameless_held}

-- the sorts of the core classes, the main object and the three singleton classes, in their order
abbrev start_sorts : List Sort
start_sorts = sort.Class ∷ sort.Module ∷ sort.Class ∷ sort.Class ∷ sort.Module ∷ sort.Module ∷ sort.Class ∷ sort.Class ∷
    sort.Class ∷ sort.Class ∷ sort.Class ∷ sort.Class ∷ sort.Class ∷ sort.Class ∷ sort.Class ∷ sort.Class ∷ sort.Class ∷
    sort.Class ∷ sort.Class ∷ sort.Class ∷ sort.Class ∷ sort.Class ∷ sort.Class ∷ sort.Class ∷ sort.Class ∷ sort.Class ∷
    sort.Class ∷ sort.Class ∷ sort.Class ∷ sort.Class ∷ sort.Class ∷ sort.Class ∷ sort.Class ∷ sort.Class ∷ sort.Class ∷
    sort.Class ∷ sort.Class ∷ sort.Class ∷ sort.Plain ∷ sort.Singleton ∷ sort.Singleton ∷ sort.Singleton ∷
    []

abbrev start : Census
start = record { sorts = start_sorts; symbols = 39 }

core_at : (c : CoreClass) → slice_get start_sorts (number_of c) ≡ Some (core_sort (is_module c))
core_at class.Object = refl
core_at class.Kernel = refl
core_at class.Module = refl
core_at class.Class = refl
core_at class.Comparable = refl
core_at class.Enumerable = refl
core_at class.Numeric = refl
core_at class.Integer = refl
core_at class.NilClass = refl
core_at class.TrueClass = refl
core_at class.FalseClass = refl
core_at class.String = refl
core_at class.Symbol = refl
core_at class.Array = refl
core_at class.Hash = refl
core_at class.Range = refl
core_at class.Proc = refl
core_at class.Fiber = refl
core_at class.Enumerator = refl
core_at class.Yielder = refl
core_at class.Exception = refl
core_at class.ScriptError = refl
core_at class.NotImplementedError = refl
core_at class.SystemExit = refl
core_at class.SystemStackError = refl
core_at class.StandardError = refl
core_at class.ArgumentError = refl
core_at class.FiberError = refl
core_at class.IndexError = refl
core_at class.KeyError = refl
core_at class.StopIteration = refl
core_at class.LocalJumpError = refl
core_at class.NameError = refl
core_at class.NoMethodError = refl
core_at class.RangeError = refl
core_at class.RuntimeError = refl
core_at class.TypeError = refl
core_at class.ZeroDivisionError = refl

any_core : (b : Bool) → plays Any (core_sort b) ≡ true
any_core true = refl
any_core false = refl

is_there : (c : CoreClass) → Is start Any (core c)
is_there c = record { holds = ap (plays_at Any) (core_at c) ∙ any_core (is_module c) }

number_below : (c : CoreClass) → number_of c < 39
number_below class.Object = lit< tt
number_below class.Kernel = lit< tt
number_below class.Module = lit< tt
number_below class.Class = lit< tt
number_below class.Comparable = lit< tt
number_below class.Enumerable = lit< tt
number_below class.Numeric = lit< tt
number_below class.Integer = lit< tt
number_below class.NilClass = lit< tt
number_below class.TrueClass = lit< tt
number_below class.FalseClass = lit< tt
number_below class.String = lit< tt
number_below class.Symbol = lit< tt
number_below class.Array = lit< tt
number_below class.Hash = lit< tt
number_below class.Range = lit< tt
number_below class.Proc = lit< tt
number_below class.Fiber = lit< tt
number_below class.Enumerator = lit< tt
number_below class.Yielder = lit< tt
number_below class.Exception = lit< tt
number_below class.ScriptError = lit< tt
number_below class.NotImplementedError = lit< tt
number_below class.SystemExit = lit< tt
number_below class.SystemStackError = lit< tt
number_below class.StandardError = lit< tt
number_below class.ArgumentError = lit< tt
number_below class.FiberError = lit< tt
number_below class.IndexError = lit< tt
number_below class.KeyError = lit< tt
number_below class.StopIteration = lit< tt
number_below class.LocalJumpError = lit< tt
number_below class.NameError = lit< tt
number_below class.NoMethodError = lit< tt
number_below class.RangeError = lit< tt
number_below class.RuntimeError = lit< tt
number_below class.TypeError = lit< tt
number_below class.ZeroDivisionError = lit< tt

superclass_is : (c : CoreClass) → OptionIs (IsSuperclass start (number_of c)) (superclass_of c)
superclass_is class.Object = tt
superclass_is class.Kernel = tt
superclass_is class.Module = (record { holds = refl }, lit< tt)
superclass_is class.Class = (record { holds = refl }, lit< tt)
superclass_is class.Comparable = tt
superclass_is class.Enumerable = tt
superclass_is class.Numeric = (record { holds = refl }, lit< tt)
superclass_is class.Integer = (record { holds = refl }, lit< tt)
superclass_is class.NilClass = (record { holds = refl }, lit< tt)
superclass_is class.TrueClass = (record { holds = refl }, lit< tt)
superclass_is class.FalseClass = (record { holds = refl }, lit< tt)
superclass_is class.String = (record { holds = refl }, lit< tt)
superclass_is class.Symbol = (record { holds = refl }, lit< tt)
superclass_is class.Array = (record { holds = refl }, lit< tt)
superclass_is class.Hash = (record { holds = refl }, lit< tt)
superclass_is class.Range = (record { holds = refl }, lit< tt)
superclass_is class.Proc = (record { holds = refl }, lit< tt)
superclass_is class.Fiber = (record { holds = refl }, lit< tt)
superclass_is class.Enumerator = (record { holds = refl }, lit< tt)
superclass_is class.Yielder = (record { holds = refl }, lit< tt)
superclass_is class.Exception = (record { holds = refl }, lit< tt)
superclass_is class.ScriptError = (record { holds = refl }, lit< tt)
superclass_is class.NotImplementedError = (record { holds = refl }, lit< tt)
superclass_is class.SystemExit = (record { holds = refl }, lit< tt)
superclass_is class.SystemStackError = (record { holds = refl }, lit< tt)
superclass_is class.StandardError = (record { holds = refl }, lit< tt)
superclass_is class.ArgumentError = (record { holds = refl }, lit< tt)
superclass_is class.FiberError = (record { holds = refl }, lit< tt)
superclass_is class.IndexError = (record { holds = refl }, lit< tt)
superclass_is class.KeyError = (record { holds = refl }, lit< tt)
superclass_is class.StopIteration = (record { holds = refl }, lit< tt)
superclass_is class.LocalJumpError = (record { holds = refl }, lit< tt)
superclass_is class.NameError = (record { holds = refl }, lit< tt)
superclass_is class.NoMethodError = (record { holds = refl }, lit< tt)
superclass_is class.RangeError = (record { holds = refl }, lit< tt)
superclass_is class.RuntimeError = (record { holds = refl }, lit< tt)
superclass_is class.TypeError = (record { holds = refl }, lit< tt)
superclass_is class.ZeroDivisionError = (record { holds = refl }, lit< tt)

module_root : (c : CoreClass) → (if is_module c then form.Module else form.Class) ≡ form.Module → superclass_of c ≡ None
module_root class.Object e = refl
module_root class.Kernel e = refl
module_root class.Module e = cc
module_root class.Class e = cc
module_root class.Comparable e = refl
module_root class.Enumerable e = refl
module_root class.Numeric e = cc
module_root class.Integer e = cc
module_root class.NilClass e = cc
module_root class.TrueClass e = cc
module_root class.FalseClass e = cc
module_root class.String e = cc
module_root class.Symbol e = cc
module_root class.Array e = cc
module_root class.Hash e = cc
module_root class.Range e = cc
module_root class.Proc e = cc
module_root class.Fiber e = cc
module_root class.Enumerator e = cc
module_root class.Yielder e = cc
module_root class.Exception e = cc
module_root class.ScriptError e = cc
module_root class.NotImplementedError e = cc
module_root class.SystemExit e = cc
module_root class.SystemStackError e = cc
module_root class.StandardError e = cc
module_root class.ArgumentError e = cc
module_root class.FiberError e = cc
module_root class.IndexError e = cc
module_root class.KeyError e = cc
module_root class.StopIteration e = cc
module_root class.LocalJumpError e = cc
module_root class.NameError e = cc
module_root class.NoMethodError e = cc
module_root class.RangeError e = cc
module_root class.RuntimeError e = cc
module_root class.TypeError e = cc
module_root class.ZeroDivisionError e = cc

one_constant_more : (table : List (ℕ × Value)) (c : CoreClass) → AllAre (SoundConstant start) table
    → AllAre (SoundConstant start) (with_constant_for table c)
one_constant_more table c all = elim (nat_eq (number_of c) 19) as
    (λ b. AllAre (SoundConstant start) (if b then table else insert_entry nat_eq table (number_of c) (Obj (core c)))) [
      | true ↦ all
      | false ↦ named_kept start (IsValue start) table (number_of c) (Obj (core c)) all (number_below c, is_there c)
    ]

constants_are : (table : List (ℕ × Value)) (cs : List CoreClass) → AllAre (SoundConstant start) table
    → AllAre (SoundConstant start) (with_constants_for table cs)
constants_are table [] all = all
constants_are table (c ∷ cs) all = constants_are (with_constant_for table c) cs (one_constant_more table c all)

own_constants : (c : CoreClass) → AllAre (SoundConstant start) (constants_of c)
unfolding object_constants
own_constants c = elim (nat_eq (number_of c) 0) as
    (λ b. AllAre (SoundConstant start) (if b then object_constants else
    (if nat_eq (number_of c) 18 then (38, Obj (core class.Yielder)) ∷ [] else []))) [
      | true ↦ constants_are [] core_classes tt
      | false ↦ elim (nat_eq (number_of c) 18) as
          (λ b. AllAre (SoundConstant start) (if b then (38, Obj (core class.Yielder)) ∷ [] else [])) [
            | true ↦ ((lit< tt, is_there class.Yielder), tt)
            | false ↦ tt
          ]
    ]

included_are : (c : CoreClass) → AllAre (Is start Module) (included_in c)
included_are c = elim (nat_eq (number_of c) 0) as
    (λ b. AllAre (Is start Module) (if b then core class.Kernel ∷ [] else [])) [
      | true ↦ (record { holds = refl }, tt)
      | false ↦ tt
    ]

class_of_class : (c : CoreClass) → Is start Class (if is_module c then core class.Module else core class.Class)
class_of_class c = elim (is_module c) as (λ b. Is start Class (if b then core class.Module else core class.Class)) [
  | true ↦ record { holds = refl }
  | false ↦ record { holds = refl }
]

singleton_is : (c : CoreClass) → OptionIs (Is start SingletonClass) (singleton_of c)
singleton_is c = elim (nat_eq (number_of c) 0) as
    (λ b. OptionIs (Is start SingletonClass) (if b then Some object_singleton else
    (if nat_eq (number_of c) 15 then Some range_singleton else
    (if nat_eq (number_of c) 11 then Some string_singleton else None)))) [
      | true ↦ record { holds = refl }
      | false ↦ elim (nat_eq (number_of c) 15) as
          (λ b. OptionIs (Is start SingletonClass) (if b then Some range_singleton else
          (if nat_eq (number_of c) 11 then Some string_singleton else None))) [
            | true ↦ record { holds = refl }
            | false ↦ elim (nat_eq (number_of c) 11) as
                (λ b. OptionIs (Is start SingletonClass) (if b then Some string_singleton else None)) [
                  | true ↦ record { holds = refl }
                  | false ↦ tt
                ]
          ]
    ]

core_sound : (c : CoreClass) → SoundObject start (number_of c) (core_object c)
unfolding core_object core_contents
core_sound c = record {
  class = class_of_class c;
  singleton = singleton_is c;
  variables = tt;
  kind = record {
    name = record { below = number_below c };
    superclass = superclass_is c;
    module_root = module_root c;
    included = included_are c;
    constants = own_constants c;
    methods = tt;
  };
}

main_sound : SoundObject start 38 (fresh (core class.Object) kind.Plain)
main_sound = record { class = record { holds = refl }; singleton = tt; variables = tt; kind = tt }

singleton_sound : (n : ℕ) (superclass : ObjId) → Is start Superclass superclass → superclass.0 < n
    → SoundObject start n (singleton_object superclass)
singleton_sound n superclass is below = record {
  class = record { holds = refl };
  singleton = tt;
  variables = tt;
  kind = record {
    name = tt;
    superclass = (is, below);
    module_root = λ e. cc;
    included = tt;
    constants = tt;
    methods =
        tt;
  };
}

-- objects that are sound with the numbers from n on
abbrev SoundFrom : ℕ → List Object → Type 0
SoundFrom n [] = Unit {0}
SoundFrom n (o ∷ os) = SoundObject start n o × SoundFrom (suc n) os

sound_at : (n : ℕ) (os : List Object) (i : ℕ) → SoundFrom n os → i < length os
    → SoundObject start (n + i) (get_or os i absent)
sound_at n [] i all h = absurd (omega (arith, h))
sound_at n (o ∷ os) zero all h = let e : n + zero ≡ n = omega arith in rw e all.0
sound_at n (o ∷ os) (suc i) all h = let e : n + suc i ≡ suc n + i = omega arith in
    rw e (sound_at (suc n) os i all.1 (omega (arith, h)))

nameless_sound : SoundFrom 0 nameless.objects
unfolding nameless core_classes
nameless_sound = (
  core_sound class.Object,
  (
    core_sound class.Kernel,
    (
      core_sound class.Module,
      (
        core_sound class.Class,
        (
          core_sound class.Comparable,
          (
            core_sound class.Enumerable,
            (
              core_sound class.Numeric,
              (
                core_sound class.Integer,
                (
                  core_sound class.NilClass,
                  (
                    core_sound class.TrueClass,
                    (
                      core_sound class.FalseClass,
                      (
                        core_sound class.String,
                        (
                          core_sound class.Symbol,
                          (
                            core_sound class.Array,
                            (
                              core_sound class.Hash,
                              (
                                core_sound class.Range,
                                (
                                  core_sound class.Proc,
                                  (
                                    core_sound class.Fiber,
                                    (
                                      core_sound class.Enumerator,
                                      (
                                        core_sound class.Yielder,
                                        (
                                          core_sound class.Exception,
                                          (
                                            core_sound class.ScriptError,
                                            (
                                              core_sound class.NotImplementedError,
                                              (
                                                core_sound class.SystemExit,
                                                (
                                                  core_sound class.SystemStackError,
                                                  (
                                                    core_sound class.StandardError,
                                                    (
                                                      core_sound class.ArgumentError,
                                                      (
                                                        core_sound class.FiberError,
                                                        (
                                                          core_sound class.IndexError,
                                                          (
                                                            core_sound class.KeyError,
                                                            (
                                                              core_sound class.StopIteration,
                                                              (
                                                                core_sound class.LocalJumpError,
                                                                (
                                                                  core_sound class.NameError,
                                                                  (
                                                                    core_sound class.NoMethodError,
                                                                    (
                                                                      core_sound class.RangeError,
                                                                      (
                                                                        core_sound class.RuntimeError,
                                                                        (
                                                                          core_sound class.TypeError,
                                                                          (
                                                                            core_sound class.ZeroDivisionError,
                                                                            (
                                                                              main_sound,
                                                                              (
                                                                                singleton_sound 39 (core class.Class)
                                                                                    (record { holds = refl }) (lit< tt),
                                                                                (
                                                                                  singleton_sound 40 object_singleton
                                                                                      (record { holds = refl })
                                                                                      (lit< tt),
                                                                                  (singleton_sound 41 object_singleton (record { holds = refl }) (lit< tt), tt),
                                                                                ),
                                                                              ),
                                                                            ),
                                                                          ),
                                                                        ),
                                                                      ),
                                                                    ),
                                                                  ),
                                                                ),
                                                              ),
                                                            ),
                                                          ),
                                                        ),
                                                      ),
                                                    ),
                                                  ),
                                                ),
                                              ),
                                            ),
                                          ),
                                        ),
                                      ),
                                    ),
                                  ),
                                ),
                              ),
                            ),
                          ),
                        ),
                      ),
                    ),
                  ),
                ),
              ),
            ),
          ),
        ),
      ),
    ),
  ),
)

nameless_sorts : sorts_of nameless.objects ≡ start_sorts
unfolding nameless core_classes core_object core_contents
nameless_sorts = refl

bare_objects : bare.objects ≡ nameless.objects
unfolding bare with_names intern nameless core_classes
bare_objects = refl

bare_symbols : length bare.symbols ≡ 39
unfolding bare with_names intern nameless core_classes
bare_symbols = refl

bare_census : census bare ≡ start
bare_census =
    ap (λ (os : List Object). record { sorts = sorts_of os; symbols = length bare.symbols }) bare_objects
    ∙ ap (λ (ss : List Sort). record { sorts = ss; symbols = length bare.symbols }) nameless_sorts
    ∙ ap (λ (n : ℕ). record { sorts = start_sorts; symbols = n }) bare_symbols

bare_sound : Sound bare
bare_sound = record {
  objects = λ n h.
      subst (λ (k : Census). SoundObject k n (get_or bare.objects n absent)) (sym bare_census)
      (subst (λ (os : List Object). SoundObject start n (get_or os n absent)) (sym bare_objects)
      (let within : n < length nameless.objects = subst (λ (os : List Object). n < length os) bare_objects h in
      let e : 0 + n ≡ n = omega arith in
      subst (λ (m : ℕ). SoundObject start m (get_or nameless.objects n absent)) e
      (sound_at 0 nameless.objects n nameless_sound within)));
  core = λ c. ap (λ (k : Census). slice_get k.sorts (number_of c)) bare_census ∙ core_at c;
}

intern_objects : (st : Store) (name : List ℕ) → (intern st name).store.objects ≡ st.objects
unfolding intern
intern_objects st name = by (position (bytes_eq name) st.symbols)
  where
    by : (p : Option ℕ) → (intern_at st name p).store.objects ≡ st.objects
    by None = refl
    by (Some i) = refl

pub interned_symbol : (st : Store) (name : List ℕ) → IsSymbol (census (intern st name).store) (intern st name).symbol
unfolding intern
interned_symbol st name = by (position (bytes_eq name) st.symbols) refl
  where
    by : (p : Option ℕ) → position (bytes_eq name) st.symbols ≡ p
        → IsSymbol (census (intern_at st name p).store) (intern_at st name p).symbol
    by None e = record { below = rw length-append (omega arith) }
    by (Some i) e = record { below = (position-Some (bytes_eq name) st.symbols i [] e).0 }

-- a core method keeps the sort of each object
row_sorts : (st : Store) (c : ObjId) (n : ℕ) (name : List ℕ) → Is (census st) ClassOrModule c
    → sorts_of (with_row c n (intern st name)).objects ≡ sorts_of st.objects
row_sorts st c n name is =
    let there = (interned st name).roles ClassOrModule c is in
    sorts-with_method (intern st name).store c (intern st name).symbol (method.Core n) Public
    (is_plays (intern st name).store ClassOrModule c there)
    ∙ ap sorts_of (intern_objects st name)

same_role : (st other : Store) (r : Role) (id : ObjId) → sorts_of other.objects ≡ sorts_of st.objects
    → Is (census st) r id → Is (census other) r id
same_role st other r id e is = record { holds = ap (λ ss. plays_at r (slice_get ss id.0)) e ∙ is.holds }

rows_sorts : (st : Store) (c : ObjId) (n : ℕ) (names : List (List ℕ)) → Is (census st) ClassOrModule c
    → sorts_of (with_rows st c n names).objects ≡ sorts_of st.objects
unfolding with_rows
rows_sorts st c n [] is = refl
rows_sorts st c n (name ∷ names) is =
    let e = row_sorts st c n name is in
    rows_sorts (with_row c n (intern st name)) c (n + 1) names (same_role st _ ClassOrModule c e is) ∙ e

rows_sound : (st : Store) → Sound st → (c : ObjId) → Is (census st) ClassOrModule c → (n : ℕ) (names : List (List ℕ))
    → Sound (with_rows st c n names)
unfolding with_rows
rows_sound st sound c is n [] = sound
rows_sound st sound c is n (name ∷ names) =
    let there = (interned st name).roles ClassOrModule c is in
    rows_sound (with_row c n (intern st name))
    (sound_with_method (intern st name).store (sound_with_interned st sound name) c (intern st name).symbol
    (method.Core n) Public there (interned_symbol st name) tt)
    c (same_role st _ ClassOrModule c (row_sorts st c n name is) is) (n + 1) names

segments_sound : (st : Store) → Sound st → (ss : List ℕ) → AllAre (IsHeld st.objects) ss → Sound (with_segments st ss)
unfolding with_segments
segments_sound st sound [] held = sound
segments_sound st sound (s ∷ ss) held =
    let is = is_by_sort st ClassOrModule (holder s) held.0.there held.0.is_class in
    let e = rows_sorts st (holder s) (s * 256) (names s) is in
    segments_sound (with_segment st s) (rows_sound st sound (holder s) is (s * 256) (names s)) ss
    (all_held ss held.1 e)
  where
    all_held : (ss : List ℕ) → AllAre (IsHeld st.objects) ss
        → sorts_of (with_segment st s).objects ≡ sorts_of st.objects → AllAre (IsHeld (with_segment st s).objects) ss
    all_held [] all e = tt
    all_held (q ∷ qs) all e = (held_still (with_segment st s).objects st.objects q e all.0, all_held qs all.1 e)

pub opening_sound : Sound opening
unfolding opening
opening_sound = segments_sound bare bare_sound segments
    (subst (λ (objects : List Object). AllAre (IsHeld objects) segments) (sym bare_objects) nameless_held)
