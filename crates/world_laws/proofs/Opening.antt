-- The world before the first step of a program is fine.
use Rattle.std.proofs.Common.{◌≡◌, ℕ, ◌+◌, ◌*◌, List, [], ◌∷◌, length, map, Bool, true, false, ◌&&◌, refl, sym, arith, true≢false, if◌then◌else◌}
use Rattle.std.specs.Prelude.{slice_get}
use Rattle.rb_value.specs.declared.value.Value.TheVariants.{Obj}
use Rattle.rb_value.specs.declared.value.ObjId.{ObjId}
use Rattle.rb_value.specs.declared.method.Method.{Method}
use Rattle.rb_value.specs.declared.method.Method.TheVariants as method
use Rattle.rb_value.specs.declared.method.MethodEntry.{MethodEntry}
use Rattle.rb_value.specs.declared.method.Visibility.TheVariants.{Public}
use Rattle.rb_value.specs.declared.kind.Kind.{Kind}
use Rattle.rb_value.specs.declared.kind.Kind.TheVariants as kind
use Rattle.rb_value.specs.declared.core_class.CoreClass.{CoreClass}
use Rattle.rb_value.specs.CoreClass.{core_classes}
use Rattle.rb_value.specs.Object.{Object}
use Rattle.def_core.specs.Store.{core}
use Rattle.def_core.specs.Classes.{class_of}
use Rattle.def_core.specs.Changes.{intern, with_method, with_singleton}
use Rattle.def_core.specs.Parts.{with_objects}
use Rattle.def_core.specs.Sound.{census, sorts_of, Any, ClassOrModule, plays_at, Is, AllAre}
use Rattle.row_table.specs.Names.{integer_names, nil_names, truth_names, string_names, string_class_names, symbol_names, range_names, range_class_names, names as names_of}
use Rattle.rb_store.specs.Opening.{bare, nameless, core_object, core_contents, main_object, with_names, with_row, with_rows, with_segments as with_table, opening as table}
use Rattle.rb_store.proofs.Start.{opening_sound, interned_symbol}
use Rattle.core_rows.proofs.Checked.{core_is}
use Rattle.class_model.proofs.Lineages.{any_of}
use Rattle.def_calls.specs.World.{World, with_store}
use Rattle.def_calls.specs.Rows.{Segment, number_in, segments, home, holder, with_holder, with_segment, with_segments, opening}
use Rattle.def_calls.specs.Calls.{main_activation, opening_world}
use Rattle.world_laws.specs.Fine.{Bodies, MethodIs, EntryHas, KindIs, ObjectIs, Fine, Keeps}
use Rattle.world_laws.proofs.Growing.{role_stays}
use Rattle.world_laws.proofs.Standing.{keeps_itself, keeps_then}
use Rattle.world_laws.proofs.Stores.{keeps_interned}
use Rattle.world_laws.proofs.Worlds.{keeps_activation}
use Rattle.world_laws.proofs.Changing.{keeps_method}
use Rattle.world_laws.proofs.Searching.{class_of_is}
use Rattle.world_laws.proofs.Singletons.{with_singleton_keeps}

-- The methods of the table are core methods, and no Procs are there.

abbrev is_bodiless : Method → Bool
is_bodiless (method.Body body classes) = false
is_bodiless (method.Core r) = true
is_bodiless (method.Reader n) = true
is_bodiless (method.Writer n) = true
is_bodiless (method.Block p) = true
is_bodiless method.Undefined = true

abbrev are_bodiless : List (ℕ × MethodEntry) → Bool
are_bodiless [] = true
are_bodiless (e ∷ es) = is_bodiless e.1.method && are_bodiless es

abbrev holds_none : Kind → Bool
holds_none kind.Plain = true
holds_none (kind.Class c) = are_bodiless c.methods
holds_none (kind.String s) = true
holds_none (kind.Array a) = true
holds_none (kind.Hash h) = true
holds_none (kind.Range r) = true
holds_none (kind.Proc c) = false
holds_none (kind.CoreProc r v) = true
holds_none (kind.Fiber p e) = true
holds_none (kind.Exception m d) = true
holds_none (kind.Enumerator e) = true
holds_none (kind.Yielder p) = true

abbrev hold_none : List Object → Bool
hold_none [] = true
hold_none (o ∷ os) = holds_none o.kind && hold_none os

table_holds_none : hold_none table.objects ≡ true
unfolding table with_table bare with_names nameless core_classes core_object core_contents intern with_rows with_method
    integer_names nil_names truth_names string_names string_class_names symbol_names range_names range_class_names
table_holds_none = refl

main_there : plays_at Any (slice_get (sorts_of table.objects) main_object.0) ≡ true
unfolding table with_table bare with_names nameless core_classes core_object core_contents intern with_rows with_method
    integer_names nil_names truth_names string_names string_class_names symbol_names range_names range_class_names
main_there = refl

both_true : (x y : Bool) → (x && y) ≡ true → (x ≡ true) × (y ≡ true)
both_true true y h = (refl, h)
both_true false y h = absurd (true≢false (sym h))

module _ (b : Bodies) (w : World) where
  method_is : (m : Method) → is_bodiless m ≡ true → MethodIs b w m
  method_is (method.Body body classes) h = absurd (true≢false (sym h))
  method_is (method.Core r) h = tt
  method_is (method.Reader n) h = tt
  method_is (method.Writer n) h = tt
  method_is (method.Block p) h = tt
  method_is method.Undefined h = tt

  methods_are : (es : List (ℕ × MethodEntry)) → are_bodiless es ≡ true → AllAre (EntryHas b w) es
  methods_are [] h = tt
  methods_are (e ∷ es) h =
      let both = both_true (is_bodiless e.1.method) (are_bodiless es) h in
      (method_is e.1.method both.0, methods_are es both.1)

  kind_is : (k : Kind) → holds_none k ≡ true → KindIs b w k
  kind_is kind.Plain h = tt
  kind_is (kind.Class c) h = methods_are c.methods h
  kind_is (kind.String s) h = tt
  kind_is (kind.Array a) h = tt
  kind_is (kind.Hash x) h = tt
  kind_is (kind.Range r) h = tt
  kind_is (kind.Proc c) h = absurd (true≢false (sym h))
  kind_is (kind.CoreProc r v) h = tt
  kind_is (kind.Fiber p e) h = tt
  kind_is (kind.Exception m d) h = tt
  kind_is (kind.Enumerator e) h = tt
  kind_is (kind.Yielder p) h = tt

  objects_are : (os : List Object) → hold_none os ≡ true → AllAre (ObjectIs b w) os
  objects_are [] h = tt
  objects_are (o ∷ os) h =
      let both = both_true (holds_none o.kind) (hold_none os) h in (kind_is o.kind both.0, objects_are os both.1)

-- a world with the table and the input alone
abbrev first_world : List ℕ → World
first_world input = record {
  store = table;
  globals = [];
  enclosing = [];
  activations = [];
  input = input;
  out = [];
  asked = false;
}

first_is : (b : Bodies) (input : List ℕ) → Fine b (first_world input)
first_is b input = record {
  store = opening_sound;
  objects = objects_are b (first_world input) table.objects table_holds_none;
  globals = tt;
  enclosing = tt;
  activations = tt;
}

-- More rows, and more names.

row_keeps : (b : Bodies) (w : World) → Fine b w → (c : ObjId) → Is (census w.store) ClassOrModule c → (n : ℕ)
    (name : List ℕ) → Keeps b w (with_store w (with_row c n (intern w.store name)))
row_keeps b w fine c is n name =
    let v : World = with_store w (intern w.store name).store in
    let k = keeps_interned b w fine name in
    keeps_then b w v (with_store w (with_row c n (intern w.store name))) k
    (keeps_method b v k.fine c (intern w.store name).symbol (method.Core n) Public
    (role_stays w v k.extends ClassOrModule c is) (interned_symbol w.store name) tt tt)

rows_keep : (b : Bodies) (w : World) → Fine b w → (c : ObjId) → Is (census w.store) ClassOrModule c → (n : ℕ)
    (names : List (List ℕ)) → Keeps b w (with_store w (with_rows w.store c n names))
unfolding with_rows
rows_keep b w fine c is n [] = keeps_itself b w fine
rows_keep b w fine c is n (name ∷ names) =
    let v : World = with_store w (with_row c n (intern w.store name)) in
    let k = row_keeps b w fine c is n name in
    keeps_then b w v (with_store w (with_rows v.store c (n + 1) names)) k
    (rows_keep b v k.fine c (role_stays w v k.extends ClassOrModule c is) (n + 1) names)

pub names_keep : (b : Bodies) (w : World) → Fine b w → (names : List (List ℕ))
    → Keeps b w (with_store w (with_names w.store names))
unfolding with_names
names_keep b w fine [] = keeps_itself b w fine
names_keep b w fine (name ∷ names) =
    let v : World = with_store w (intern w.store name).store in
    let k = keeps_interned b w fine name in
    keeps_then b w v (with_store w (with_names v.store names)) k (names_keep b v k.fine names)

module _ (b : Bodies) (w : World) (fine : Fine b w) where
  core_there : (c : CoreClass) → Is (census w.store) Any (core c)
  core_there c = any_of w.store ClassOrModule (core c) (core_is w.store fine.store c)

  holder_keeps : (g : Segment) → Keeps b w (with_store w (with_holder w.store g))
  holder_keeps g = by g.singleton
    where
      by : (x : Bool) → Keeps b w (with_store w
          (if x then with_objects w.store (with_singleton w.store.objects (core g.class)) else w.store))
      by true = with_singleton_keeps b w fine (core g.class) (core_there g.class)
      by false = keeps_itself b w fine

  holder_is : (g : Segment) → Is (census w.store) ClassOrModule (holder w.store g)
  holder_is g = by g.singleton
    where
      by : (x : Bool) → Is (census w.store) ClassOrModule
          (if x then class_of w.store.objects (Obj (core g.class)) else core (home g.class))
      by true = class_of_is w.store fine.store (Obj (core g.class)) (core_there g.class)
      by false = core_is w.store fine.store (home g.class)

  segment_keeps : (g : Segment) → Keeps b w (with_store w (with_segment w.store g))
  segment_keeps g = rows_keep b w fine (holder w.store g) (holder_is g)
      (256 * number_in g + length (names_of (number_in g))) (map (λ r. r.0) g.rows)

segments_keep : (b : Bodies) (w : World) → Fine b w → (gs : List Segment)
    → Keeps b w (with_store w (with_segments w.store gs))
segments_keep b w fine [] = keeps_itself b w fine
segments_keep b w fine (g ∷ gs) =
    let v : World = with_store w (with_holder w.store g) in
    let k = holder_keeps b w fine g in
    let u : World = with_store w (with_segment v.store g) in
    let h = keeps_then b w v u k (segment_keeps b v k.fine g) in
    keeps_then b w u (with_store w (with_segments u.store gs)) h (segments_keep b u h.fine gs)

opening_keeps : (b : Bodies) (input : List ℕ)
    → Keeps b (first_world input) (with_store (first_world input) opening)
unfolding opening
opening_keeps b input = segments_keep b (first_world input) (first_is b input) segments

-- The world of a program whose symbols have these names.

pub opening_is : (b : Bodies) (names : List (List ℕ)) (input : List ℕ) → Fine b (opening_world names input)
opening_is b names input =
    let w : World = first_world input in
    let v : World = with_store w opening in
    let k = opening_keeps b input in
    let u : World = with_store w (with_names opening names) in
    let h = keeps_then b w v u k (names_keep b v k.fine names) in
    let there : Is (census table) Any main_object = record { holds = main_there } in
    (keeps_activation b u h.fine main_activation (record {
      runs = tt;
      self = role_stays w u h.extends Any main_object there;
      owner = tt;
      name = tt;
      home = (omega arith, omega arith);
      classes = omega arith;
      block = tt;
    })).fine
