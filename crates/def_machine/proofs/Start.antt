-- The opening state of verified code fits, where its store is sound.
use Rattle.std.proofs.Common.{◌≡◌, ◌≤◌, ◌<◌, ℕ, zero, suc, ◌+◌, List, [], ◌∷◌, ◌++◌, length, get_or, length-append, Bool, true, false, refl, sym, ap, ◌∙◌, subst, arith, true≢false}
use Rattle.std.specs.Prelude.{Option, Some, None, is_some, nat_eq, if◌then◌else◌, replicate, set, slice_get, All, ◌&&◌}
use Rattle.std.specs.List.{position}
use Rattle.std.specs.Str.{bytes_eq}
use Rattle.std.proofs.lemmas.List.{length-set, length-replicate, get_or_append_left}
use Rattle.std.proofs.lemmas.List.Quantifiers.{position-Some}
use Rattle.std.proofs.lemmas.Slice.Eq.{bytes_eq-Decides}
use Rattle.std.proofs.lemmas.Option.{slice_get_within, get_or_from_slice_get, slice_get-get_or}
use Rattle.def_core.proofs.PartsSound.{all_set}
use Rattle.rb_value.specs.declared.value.Value.{Value}
use Rattle.rb_value.specs.declared.value.Value.TheVariants.{Nil, Obj}
use Rattle.rb_value.specs.declared.exit.Slot.{Slot}
use Rattle.rb_value.specs.declared.exit.Slot.TheVariants.{V}
use Rattle.rb_value.specs.declared.method.Method.{Method}
use Rattle.rb_value.specs.declared.method.Method.TheVariants as method
use Rattle.rb_value.specs.declared.method.MethodEntry.{MethodEntry}
use Rattle.rb_value.specs.declared.kind.Kind.{Kind}
use Rattle.rb_value.specs.declared.kind.Kind.TheVariants as kind
use Rattle.rb_value.specs.Object.{Object}
use Rattle.def_core.specs.Store.{Store}
use Rattle.def_core.specs.Changes.{intern, intern_at}
use Rattle.def_core.specs.Sound.{Census, census, sorts_of, Sound, Any, plays_at, Is, IsValue, AllAre}
use Rattle.rb_store.specs.Opening.{with_names, main_object}
use Rattle.rite_code.specs.Code.{Program, IsWhole}
use Rattle.rite_code.specs.Instruction.{Instruction}
use Rattle.rite_code.specs.Spelling.{decode}
use Rattle.rite_code.specs.declared.code.Irep.{Irep}
use Rattle.code_outline.specs.Layout.{Standing, layout, standings, begun, end_of, is_start}
use Rattle.code_outline.specs.Makers.{maker_of, around, outer}
use Rattle.code_outline.specs.Makes.{Makes}
use Rattle.code_outline.specs.declared.maker.Maker.{Maker}
use Rattle.code_outline.proofs.Bodies.{roots-within}
use Rattle.code_outline.proofs.Kept.{nests}
use Rattle.def_calls.specs.World.{World}
use Rattle.def_calls.specs.Calls.{opening_world}
use Rattle.def_calls.specs.Rows as rows
use Rattle.def_machine.specs.State.{Registers, Frame, frame, State, On, body_at, fresh_registers, all_symbols, main_frame, start}
use Rattle.def_machine.specs.Fits.{ListFits, IsStart, SlotFits, KeptFits, MethodFits, EntryFits, KindFits, ObjectFits, ActivationFits, WorldFits, FrameFits, IsName, operators, NamesFit, AreApart, MemoryFits, RunsWell, Fits}
use Rattle.def_machine.proofs.Running.{run}

-- Registers: each holds a value.

module _ {A : Type 0} (P : A → Type 0) where
  all-replicate : (n : ℕ) (x : A) → P x → AllAre P (replicate n x)
  all-replicate zero x h = tt
  all-replicate (suc n) x h = (h, all-replicate n x h)

main_length : (b : Irep) (v : Value) → length (fresh_registers b None v).slots ≡ b.registers
main_length b v = length-set (replicate b.registers (V Nil)) 0 (V v) ∙ length-replicate b.registers (V Nil)

-- Code begins with an instruction.

first_by : (version : ℕ) (code : List ℕ) (most : ℕ) (found : Option (Instruction × ℕ)) → 0 < length code
    → end_of 0 (begun 0 found (standings most version code)) ≡ length code
    → is_start (begun 0 found (standings most version code)) 0 ≡ true
unfolding end_of
first_by version code most None lt e = absurd (omega (arith, e))
first_by version code most (Some f) lt e = refl

first_at : (version : ℕ) (code : List ℕ) (n : ℕ) → 0 < n → 0 < length code
    → end_of 0 (standings n version code 0) ≡ length code → is_start (standings n version code 0) 0 ≡ true
unfolding standings
first_at version code zero lt long e = absurd (omega arith)
first_at version code (suc n) lt long e = first_by version code n (decode version code 0) long e

pub starts : (version : ℕ) (code : List ℕ) → 0 < length code → end_of 0 (layout version code) ≡ length code
    → is_start (layout version code) 0 ≡ true
unfolding layout
starts version code lt e = first_at version code (length code) lt lt e

-- The main program is a body, and stands in no other.

pub has_main : (p : Program) → IsWhole p → 0 < length p.bodies
has_main p w = let h = (roots-within w.tree) 0 0 (omega arith) in omega (arith, h.1)

not_made : (p : Program) (m : Maker) → IsWhole p → Makes p m 0 → ⊥
not_made p m w made =
    let within = (nests p).children w m.body made.body made.number in
    let number = (within made.index 0 (slice_get_within made.body.children made.index 0 made.child)).0 in
    let zero_there = get_or_from_slice_get made.body.children made.index 0 0 made.child in
    absurd (omega (arith, number, zero_there))

outermost_by : (p : Program) → IsWhole p → (o : Option Maker) → maker_of p 0 ≡ o → around o ≡ None
outermost_by p w None e = refl
outermost_by p w (Some m) e = absurd (not_made p m w ((nests p).makers 0 m e))

outermost : (p : Program) → IsWhole p → outer p 0 ≡ None
outermost p w = outermost_by p w (maker_of p 0) refl

-- Every method of the opening store is a core method, and it has no Procs.

abbrev is_core : Method → Bool
is_core (method.Body b s) = false
is_core (method.Core r) = true
is_core (method.Reader n) = true
is_core (method.Writer n) = true
is_core (method.Block b) = true
is_core method.Undefined = true

abbrev are_core : List (ℕ × MethodEntry) → Bool
are_core [] = true
are_core (e ∷ es) = is_core e.1.method && are_core es

abbrev is_bodiless : Kind → Bool
is_bodiless kind.Plain = true
is_bodiless (kind.Class c) = are_core c.methods
is_bodiless (kind.String s) = true
is_bodiless (kind.Array a) = true
is_bodiless (kind.Hash h) = true
is_bodiless (kind.Range r) = true
is_bodiless (kind.Proc c) = false
is_bodiless (kind.CoreProc r v) = true
is_bodiless (kind.Fiber b e) = true
is_bodiless (kind.Exception e d) = true
is_bodiless (kind.Enumerator e) = true
is_bodiless (kind.Yielder b) = true

abbrev are_bodiless : List Object → Bool
are_bodiless [] = true
are_bodiless (o ∷ os) = is_bodiless o.kind && are_bodiless os

opening_bodiless : are_bodiless rows.opening.objects ≡ true
unfolding run
opening_bodiless = refl

and_true : (a b : Bool) → (a && b) ≡ true → (a ≡ true) × (b ≡ true)
and_true true b h = (refl, h)
and_true false b h = absurd (true≢false (sym h))

module _ (p : Program) (w : World) (ls : List Registers) where
  method_fits : (m : Method) → is_core m ≡ true → MethodFits p w m
  method_fits (method.Body b s) h = absurd (true≢false (sym h))
  method_fits (method.Core r) h = tt
  method_fits (method.Reader n) h = tt
  method_fits (method.Writer n) h = tt
  method_fits (method.Block b) h = tt
  method_fits method.Undefined h = tt

  entries_fit : (es : List (ℕ × MethodEntry)) → are_core es ≡ true → AllAre (EntryFits p w) es
  entries_fit [] h = tt
  entries_fit (e ∷ es) h =
      let both = and_true (is_core e.1.method) (are_core es) h in
      (method_fits e.1.method both.0, entries_fit es both.1)

  kind_fits : (k : Kind) → is_bodiless k ≡ true → KindFits p w ls k
  kind_fits kind.Plain h = tt
  kind_fits (kind.Class c) h = entries_fit c.methods h
  kind_fits (kind.String s) h = tt
  kind_fits (kind.Array a) h = tt
  kind_fits (kind.Hash x) h = tt
  kind_fits (kind.Range r) h = tt
  kind_fits (kind.Proc c) h = absurd (true≢false (sym h))
  kind_fits (kind.CoreProc r v) h = tt
  kind_fits (kind.Fiber b e) h = tt
  kind_fits (kind.Exception e d) h = tt
  kind_fits (kind.Enumerator e) h = tt
  kind_fits (kind.Yielder b) h = tt

  objects_fit : (os : List Object) → are_bodiless os ≡ true → AllAre (ObjectFits p w ls) os
  objects_fit [] h = tt
  objects_fit (o ∷ os) h =
      let both = and_true (is_bodiless o.kind) (are_bodiless os) h in (kind_fits o.kind both.0, objects_fit os both.1)

-- The names of a program add symbols alone.

named_objects : (st : Store) (name : List ℕ) (place : Option ℕ) → (intern_at st name place).store.objects ≡ st.objects
named_objects st name (Some i) = refl
named_objects st name None = refl

pub names_keep : (st : Store) (names : List (List ℕ)) → (with_names st names).objects ≡ st.objects
unfolding with_names intern
names_keep st [] = refl
names_keep st (name ∷ names) = names_keep (intern st name).store names
    ∙ named_objects st name (position (bytes_eq name) st.symbols)

main_there : plays_at Any (slice_get (sorts_of rows.opening.objects) main_object.0) ≡ true
unfolding run
main_there = refl

main_is : (names : List (List ℕ)) → Is (census (with_names rows.opening names)) Any main_object
main_is names = record {
  holds = ap (λ os. plays_at Any (slice_get (sorts_of os) main_object.0)) (names_keep rows.opening names) ∙ main_there;
}

-- The names of a program are symbols, and so are those of the operators.

name_at : (symbols : List (List ℕ)) (name : List ℕ) (place : Option ℕ) → position (bytes_eq name) symbols ≡ place
    → is_some place ≡ true → IsName symbols name
name_at symbols name None e h = absurd (true≢false (sym h))
name_at symbols name (Some i) e h =
    let found = position-Some (bytes_eq name) symbols i [] e in
    let same : name ≡ get_or symbols i [] = (bytes_eq-Decides name (get_or symbols i [])).0 found.1 in
    (i, slice_get-get_or symbols i [] found.0 ∙ ap Some (sym same))

kept_at : (xs ys : List (List ℕ)) (n : ℕ) (x : List ℕ) → slice_get xs n ≡ Some x → slice_get (xs ++ ys) n ≡ Some x
kept_at xs ys n x h =
    let within = slice_get_within xs n x h in
    let longer : n < length (xs ++ ys) = rw length-append (omega (arith, within)) in
    slice_get-get_or (xs ++ ys) n x longer ∙ ap Some
    (get_or_append_left xs ys x n within ∙ get_or_from_slice_get xs n x x h)

still_named : (st : Store) (name x : List ℕ) (place : Option ℕ) → IsName st.symbols x
    → IsName (intern_at st name place).store.symbols x
still_named st name x None h = (h.0, kept_at st.symbols (name ∷ []) h.0 x h.1)
still_named st name x (Some i) h = h

now_named : (st : Store) (name : List ℕ) (place : Option ℕ) → position (bytes_eq name) st.symbols ≡ place
    → IsName (intern_at st name place).store.symbols name
now_named st name None e = (length st.symbols, at_end st.symbols)
  where
    at_end : (xs : List (List ℕ)) → slice_get (xs ++ name ∷ []) (length xs) ≡ Some name
    at_end [] = refl
    at_end (x ∷ xs) = at_end xs
now_named st name (Some i) e = name_at st.symbols name (Some i) e refl

named_still : (st : Store) (names : List (List ℕ)) (x : List ℕ) → IsName st.symbols x
    → IsName (with_names st names).symbols x
unfolding with_names intern
named_still st [] x h = h
named_still st (name ∷ names) x h = named_still (intern st name).store names x
    (still_named st name x (position (bytes_eq name) st.symbols) h)

all_named : (st : Store) (names : List (List ℕ)) → AllAre (IsName (with_names st names).symbols) names
unfolding with_names intern
all_named st [] = tt
all_named st (name ∷ names) = (
  named_still (intern st name).store names name (now_named st name (position (bytes_eq name) st.symbols) refl),
  all_named (intern st name).store names,
)

abbrev are_symbols : List (List ℕ) → List (List ℕ) → Bool
are_symbols symbols [] = true
are_symbols symbols (name ∷ names) = is_some (position (bytes_eq name) symbols) && are_symbols symbols names

operators_there : are_symbols rows.opening.symbols operators ≡ true
unfolding run
operators_there = refl

operators_named : (more names : List (List ℕ)) → are_symbols rows.opening.symbols names ≡ true
    → AllAre (IsName (with_names rows.opening more).symbols) names
operators_named more [] h = tt
operators_named more (name ∷ names) h =
    let both = and_true (is_some (position (bytes_eq name) rows.opening.symbols))
    (are_symbols rows.opening.symbols names) h in (
      named_still rows.opening more name
          (name_at rows.opening.symbols name (position (bytes_eq name) rows.opening.symbols) refl both.0),
      operators_named more names both.1,
    )

-- one frame is apart from all others
alone : (f : Frame) → AreApart (frame f ∷ []) []
alone f = record { once = λ n. one (nat_eq f.list n) }
  where
    one : (b : Bool) → (if b then 1 else 0) + 0 + 0 ≤ 1
    one true = omega arith
    one false = omega arith

-- the opening state, as far as a body 0 that begins with an instruction goes
pub opening_fits : (p : Program) (input : List ℕ) → IsWhole p → IsStart p 0 0
    → Sound (with_names rows.opening (all_symbols p.bodies)) → Fits p (start p input)
unfolding start
opening_fits p input w at sound =
    let self = main_is (all_symbols p.bodies) in
    let k = census (with_names rows.opening (all_symbols p.bodies)) in
    let r = fresh_registers (body_at p 0) None (Obj main_object) in
    let world = opening_world (all_symbols p.bodies) input in
    record {
      memory = record {
        world = record {
          store = sound;
          objects = subst (AllAre (ObjectFits p world (r ∷ []))) (sym (names_keep rows.opening (all_symbols p.bodies)))
              (objects_fit p world (r ∷ []) rows.opening.objects opening_bodiless);
          globals = tt;
          enclosing = tt;
          activations = (
            record {
              runs = tt;
              self = self;
              owner = tt;
              name = tt;
              home = (omega arith, omega arith);
              classes = omega arith;
              block = tt;
            },
            tt,
          );
        };
        names = record {
          symbols = all_named rows.opening (all_symbols p.bodies);
          operators = operators_named (all_symbols p.bodies) operators operators_there;
        };
        registers = (
          all_set (SlotFits k) (replicate (body_at p 0).registers (V Nil)) 0 (V (Obj main_object))
              (all-replicate (SlotFits k) (body_at p 0).registers (V Nil) tt) self,
          tt,
        );
        running = tt;
        resumer = tt;
        waiting = tt;
      };
      levels = (
        record {
          activation = (omega arith, omega arith);
          body = has_main p w;
          list = (
            omega arith,
            has_main p w,
            main_length (body_at p 0) (Obj main_object),
            tt,
            subst (ListFits 0 p (r ∷ []) None) (sym (outermost p w)) tt,
          );
          place = at;
          kept = all_set (KeptFits p k main_frame []) (replicate (body_at p 0).registers (V Nil)) 0
              (V (Obj main_object)) (all-replicate (KeptFits p k main_frame []) (body_at p 0).registers (V Nil) tt) tt;
          pending = tt;
          arguments = tt;
          block = tt;
        },
        tt,
      );
      apart = alone main_frame;
    }
