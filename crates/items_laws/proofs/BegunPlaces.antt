-- `delete_if` of an Array, `each_byte` of a String and a new Array that a block fills, left.
use Rattle.std.proofs.Common.{◌≡◌, ℕ, suc, ◌<◌, ◌≤◌, ◌+◌, ◌-◌, ◌^◌, refl, sym, ap, subst, ◌∙◌, List, [], ◌∷◌, ◌++◌, length, arith}
use Rattle.std.specs.Prelude.{nat_le, Bool, true, false, if◌then◌else◌, Option, Some, Result, Ok}
use Rattle.std.proofs.lemmas.Bool.{leb-false}
use Rattle.rb_value.specs.declared.value.Value.{Value}
use Rattle.rb_value.specs.declared.value.Value.TheVariants.{False}
use Rattle.rb_value.specs.declared.value.ObjId.{ObjId}
use Rattle.rb_value.specs.declared.core_class.CoreClass.TheVariants as class
use Rattle.def_core.specs.declared.cause.Cause.{Cause}
use Rattle.def_calls.specs.Views.{a_string, an_array}
use Rattle.heap.specs.Changes.{with_elements}
use Rattle.rb_store.specs.Held.{Held, one_more}
use Rattle.core_calls.specs.Checks.{integer}
use Rattle.core_calls.specs.declared.beat.Beat.{Beat}
use Rattle.def_plans.specs.Plan.{Planned, wanted}
use Rattle.run_rows.specs.declared.row.StarRow.TheVariants as row
use Rattle.run_rows.specs.declared.row.VisitRow.TheVariants as visit
use Rattle.core_iter.specs.declared.filling.Filling.{Filling}
use Rattle.core_iter.specs.declared.strings.ByteWalk.{ByteWalk}
use Rattle.core_iter.specs.declared.visiting.Visit.{Visit}
use Rattle.core_iter.specs.Filling as filling
use Rattle.core_iter.specs.Stage.{Stage}
use Rattle.core_iter.specs.Strings as strings
use Rattle.core_iter.specs.Visiting as visiting
use Rattle.items_laws.specs.Beginning.{IsBeginning, Leaves}
use Rattle.items_laws.specs.Changed.{Fills, ThinsOut}
use Rattle.items_laws.specs.Run.{Turn}
use Rattle.items_laws.specs.Texts.{HandsBytes}
use Rattle.items_laws.proofs.Beginning.{Ending, Finite, at_end, begun_at_once, begun_walk, cut_from, is_beginning, to_the_end}
use Rattle.items_laws.proofs.Bytes.{byte_course, bytes_go, over_bytes}
use Rattle.items_laws.proofs.Filled.{beat_by, few_in, fill_course, filling_goes, filling_up, none_before}
use Rattle.items_laws.proofs.Small.{none_some}
use Rattle.items_laws.proofs.Thinned.{plan_is, thin_course, thinning, thinning_goes}

-- a heap that has no object
abbrev emptied : Held → Held
emptied held = record held { store = record held.store { objects = [] } }

-- with one turn more
one_turn : (ts us : List Turn) (t : Turn) → us ≡ [] → suc (length ts) < 2 ^ 64 → 0 + length (ts ++ t ∷ us) < 2 ^ 64
one_turn ts us t none less = subst (λ (vs : List Turn). 0 + length (ts ++ t ∷ vs) < 2 ^ 64) (sym none)
    (still (length ts) (length (ts ++ t ∷ [])) (longer ts) less)
  where
    longer : (vs : List Turn) → length (vs ++ t ∷ []) ≡ suc (length vs)
    longer [] = refl
    longer (v ∷ vs) = ap suc (longer vs)

    still : (n m : ℕ) → m ≡ suc n → suc n < 2 ^ 64 → 0 + m < 2 ^ 64
    still n m same few = omega (arith, same, few)

-- `delete_if`

abbrev thinning_ends : Ending thinning
thinning_ends = record {
  holds = λ w. Unit {0};
  stays = λ held h w a holds. tt;
  answered = λ held w holds. let u = (thinning.beat held w).state in record {
    answer = False;
    heap = emptied held;
    ended = at_end thinning (emptied held) (visiting.passed u) refl;
  };
}

pub thinning_begun : (held : Held) (recv : Value) (a b : ObjId) (ts : List Turn) (last : Planned Stage)
    → suc (length ts) < 2 ^ 64 → an_array held.store.objects recv ≡ Some a
    → Leaves (row.Visit visit.DeleteElements) held recv [] (Some b) ts last
    → IsBeginning (ThinsOut held a b 0) ts last
thinning_begun held recv a b ts last less there run =
    let w : Visit = record { array = a; place = 0; block = b } in
    let c = cut_from thinning thinning_goes held w ts run.first last run.stage tt run.waits
    (run.starts ∙ ap (λ (o : Option ObjId). wanted held class.Array recv o
    (λ x. visiting.begun visit.DeleteElements held (record { array = x; place = 0; block = b }))) there
    ∙ plan_is held w (visiting.element held.store w)) run.runs in
    let g = begun_walk thinning thinning_ends ts held w last tt c in
    is_beginning thinning (ThinsOut held a b 0) ts held w last g
    (thin_course (ts ++ g.turn ∷ g.further) g.value g.after held w (one_turn ts g.further g.turn
    (begun_at_once thinning thinning_ends (λ h u holds. refl) ts held w last tt c) less) g.walk)

-- `each_byte`

abbrev bytes_end : Ending over_bytes
bytes_end = record {
  holds = λ w. Unit {0};
  stays = λ held h w a holds. tt;
  answered = λ held w holds. let u = (strings.byte_beat held w).state in record {
    answer = False;
    heap = emptied held;
    ended = at_end over_bytes (emptied held) u refl;
  };
}

pub bytes_begun : (held : Held) (recv : Value) (s b : ObjId) (ts : List Turn) (last : Planned Stage)
    → suc (length ts) < 2 ^ 64 → a_string held.store.objects recv ≡ Some s
    → Leaves (row.Visit visit.EachByte) held recv [] (Some b) ts last → IsBeginning (HandsBytes held s b 0) ts last
bytes_begun held recv s b ts last less there run =
    let w : ByteWalk = record { string = s; place = 0; block = b } in
    let c = cut_from over_bytes bytes_go held w ts run.first last run.stage tt run.waits
    (run.starts ∙ ap (λ (o : Option ObjId). wanted held class.String recv o
    (λ x. strings.begun visit.EachByte held x b)) there) run.runs in
    let g = begun_walk over_bytes bytes_end ts held w last tt c in
    is_beginning over_bytes (HandsBytes held s b 0) ts held w last g
    (byte_course (ts ++ g.turn ∷ g.further) g.value g.after held w (one_turn ts g.further g.turn
    (begun_at_once over_bytes bytes_end (λ h u holds. refl) ts held w last tt c) less) g.walk)

-- a new Array

abbrev Few : Filling → Type 0
Few f = f.count < 2 ^ 63

abbrev left_of : Filling → ℕ
left_of f = f.count - f.place

abbrev state_by : Filling → Bool → Filling
state_by f c = if c then f else record f { place = one_more f.place }

state_is : (held : Held) (f : Filling) (c : Bool) → nat_le f.count f.place ≡ c
    → (filling.place_beat held f).state ≡ state_by f c
state_is held f true e = ap (λ (d : Bool). (beat_by held f d).state) e
state_is held f false e = ap (λ (d : Bool). (beat_by held f d).state) e

few_state : (f : Filling) (c : Bool) → Few f → Few (state_by f c)
few_state f true few = few
few_state f false few = few

one_fewer : (n k : ℕ) → n < k → k < 2 ^ 63 → suc (k - one_more n) ≤ k - n
one_fewer n k less few = omega (arith, less, few)

fewer_by : (held : Held) (f : Filling) (c : Beat) (d : Bool) → Few f → nat_le f.count f.place ≡ d
    → (filling.place_beat held f).beat ≡ Some c → suc (left_of (state_by f d)) ≤ left_of f
fewer_by held f c true few e beats = absurd (none_some c (sym (ap (λ (d : Bool). (beat_by held f d).beat) e) ∙ beats))
fewer_by held f c false few e beats = one_fewer f.place f.count (leb-false f.count f.place e) few

abbrev finite : Finite filling_up
finite = record {
  holds = Few;
  left = left_of;
  stays = λ held h f a few. subst Few (sym (state_is held f (nat_le f.count f.place) refl))
      (few_state f (nat_le f.count f.place) few);
  fewer = λ held h f a c few there. subst (λ (u : Filling). suc (left_of u) ≤ left_of f)
      (sym (state_is held f (nat_le f.count f.place) refl))
      (fewer_by held f c (nat_le f.count f.place) few refl there);
}

pub filling_begun : (held : Held) (recv size : Value) (a b : ObjId) (n : ℕ) (ts : List Turn) (last : Planned Stage)
    → an_array held.store.objects recv ≡ Some a → filling.size_in held.store size ≡ Ok n
    → Leaves (row.Visit visit.InitializeArray) held recv (size ∷ []) (Some b) ts last
    → IsBeginning (Fills (with_elements held a []) a b 0 n) ts last
filling_begun held recv size a b n ts last there sized run =
    let f : Filling = record { array = a; place = 0; count = n; block = b } in
    let empty = with_elements held a [] in
    let few = few_in n (integer held.store size) sized in
    let g = begun_walk filling_up (to_the_end filling_up finite) ts empty f last few
    (cut_from filling_up filling_goes empty f ts run.first last run.stage tt run.waits
    (run.starts ∙ ap (λ (o : Option ObjId). wanted held class.Array recv o
    (λ x. filling.array_by held x (size ∷ []) (Some b) (Some size))) there
    ∙ ap (λ (x : Result ℕ Cause). filling.sized held a (size ∷ []) (Some b) x) sized) run.runs) in
    is_beginning filling_up (Fills empty a b 0 n) ts empty f last g
    (fill_course (ts ++ g.turn ∷ g.further) g.value g.after empty f n (none_before n) few g.walk)
