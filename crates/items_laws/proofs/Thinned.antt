-- `delete_if` of an Array.
use Rattle.std.proofs.Common.{◌≡◌, ℕ, suc, ◌<◌, ◌+◌, ◌^◌, refl, sym, ap, subst, ◌∙◌, List, [], ◌∷◌, length, arith}
use Rattle.std.specs.Prelude.{map, slice_get, Bool, true, false, if◌then◌else◌, Option, Some, None}
use Rattle.rb_value.specs.declared.value.Value.{Value}
use Rattle.rb_value.specs.declared.value.Value.TheVariants.{Obj}
use Rattle.rb_value.specs.declared.value.ObjId.{ObjId}
use Rattle.rb_value.specs.declared.core_class.CoreClass.TheVariants as class
use Rattle.rb_value.specs.Value.{is_true}
use Rattle.def_core.specs.Parts.{elements_at}
use Rattle.def_calls.specs.Views.{an_array}
use Rattle.rb_store.specs.Held.{Held, one_more}
use Rattle.def_plans.specs.Plan.{Planned, gives, wanted}
use Rattle.run_rows.specs.declared.row.StarRow.TheVariants as row
use Rattle.run_rows.specs.declared.row.VisitRow.TheVariants as visit
use Rattle.core_iter.specs.declared.iteration.Iteration.TheVariants as state
use Rattle.core_iter.specs.declared.visiting.Visit.{Visit}
use Rattle.core_iter.specs.Sending.{goes_on, with_one}
use Rattle.core_iter.specs.Stage.{Stage}
use Rattle.core_iter.specs.Visiting as visiting
use Rattle.items_laws.specs.Changed.{without_if, place_behind, ThinsOut}
use Rattle.items_laws.specs.Run.{Turn, Runs, Gives}
use Rattle.items_laws.specs.Items.{call_of, calls_of}
use Rattle.items_laws.proofs.Reading.{counted}
use Rattle.items_laws.proofs.Replaced.{stay_by, stay}
use Rattle.items_laws.proofs.Walks.{Walk, Walks, Called, Done, Goes, plan_at, walks, one_same}
use Rattle.items_laws.proofs.Small.{from_first, none_some, some_none}

-- where the walk stands behind an answer
abbrev pub behind_if : Bool → Visit → Visit
behind_if c w = if c then w else visiting.passed w

abbrev pub thinning : Walk Visit
thinning = record {
  fits = λ w. Unit {0};
  as_state = λ w. state.Deleting w;
  beat = stay;
  later = λ held w a. behind_if (is_true a) w;
  left = λ held w a. without_if (is_true a) held w.array w.place;
  ending = λ w. Obj w.array;
}

pub plan_is : (held : Held) (w : Visit) (o : Option Value)
    → visiting.delete_at held w o ≡ goes_on (λ w. state.Deleting w) (Obj w.array) (stay_by held w o)
plan_is held w None = refl
plan_is held w (Some v) = refl

plan_behind : (held : Held) (w : Visit) (c : Bool)
    → (if c then visiting.delete_next (visiting.deleted held w.array w.place) w
    else visiting.delete_next held (visiting.passed w))
    ≡ plan_at thinning (without_if c held w.array w.place) (behind_if c w)
plan_behind held w true = plan_is (visiting.deleted held w.array w.place) w
    (visiting.element (visiting.deleted held w.array w.place).store w)
plan_behind held w false = plan_is held (visiting.passed w) (visiting.element held.store (visiting.passed w))

pub thinning_goes : Goes thinning
thinning_goes = record {
  goes = λ h w a p f e. e ∙ plan_behind h w (is_true a);
  beats = λ h w f. tt;
  later = λ h w a f. tt;
}

abbrev pub ThinRest : List Turn → Value → Held → Type 0
ThinRest ts r after = (held : Held) (w : Visit) → w.place + length ts < 2 ^ 64 → Walks thinning ts held w r after
    → ThinsOut held w.array w.block w.place ts r after

thin_end : (held : Held) (w : Visit) (r : Value) (after : Held) (o : Option Value)
    → visiting.element held.store w ≡ o → Done thinning held w r after
    → ThinsOut held w.array w.block w.place [] r after
thin_end held w r after None there d = record {
  items = [];
  read = refl;
  called = refl;
  heaps = refl;
  over = there;
  result = record { value = d.value; left = subst (λ (o : Option Value). after ≡ (stay_by held w o).held) there d.left };
}
thin_end held w r after (Some x) there d =
    absurd (some_none (with_one w.block x) (subst (λ (o : Option Value). (stay_by held w o).beat ≡ None) there d.none))

-- with a turn before the others
one_thinned : (held : Held) (a b : ObjId) (n : ℕ) (x : Value) (t : Turn) (ts : List Turn) (r : Value) (after : Held)
    → slice_get (elements_at held.store.objects a) n ≡ Some x → call_of t.wanted.plan ≡ Some (b, x ∷ [])
    → t.wanted.held ≡ held
    → ThinsOut (without_if (is_true t.answer) t.held a n) a b (place_behind (is_true t.answer) n) ts r after
    → ThinsOut held a b n (t ∷ ts) r after
one_thinned held a b n x t ts r after there call asked rest = record {
  items = x ∷ rest.items;
  read = ap (λ (o : Option Value). o ∷ map Some rest.items) (sym there)
      ∙ ap (λ (os : List (Option Value)). slice_get (elements_at held.store.objects a) n ∷ os) rest.read;
  called = ap (λ (c : Option (ObjId × List Value)). c ∷ calls_of ts) call
      ∙ ap (λ (cs : List (Option (ObjId × List Value))). Some (b, x ∷ []) ∷ cs) rest.called;
  heaps = ap (λ (h : Held). h ∷ map (λ t. t.wanted.held) ts) asked
      ∙ ap (λ (hs : List Held). held ∷ hs) rest.heaps;
  over = rest.over;
  result = rest.result;
}

-- the place behind an answer
stands : (w : Visit) (c : Bool) → one_more w.place ≡ w.place + 1
    → behind_if c w ≡ record w { place = place_behind c w.place }
stands w true one = refl
stands w false one = ap (λ (n : ℕ). record w { place = n }) one

still_less : (n k : ℕ) (c : Bool) → n + suc k < 2 ^ 64 → place_behind c n + k < 2 ^ 64
still_less n k true less = omega (arith, less)
still_less n k false less = omega (arith, less)

abbrev walks_on : List Turn → Value → Held → Turn → Visit → Type 0
walks_on ts r after t w = Walks thinning ts (without_if (is_true t.answer) t.held w.array w.place)
    (behind_if (is_true t.answer) w) r after

thin_turn : (t : Turn) (ts : List Turn) (r : Value) (after held : Held) (w : Visit) (o : Option Value)
    → visiting.element held.store w ≡ o → ThinRest ts r after → w.place + suc (length ts) < 2 ^ 64
    → Called thinning held w t (walks_on ts r after t (stay held w).state)
    → ThinsOut held w.array w.block w.place (t ∷ ts) r after
thin_turn t ts r after held w None there rest less c =
    absurd (none_some c.call (subst (λ (o : Option Value). (stay_by held w o).beat ≡ Some c.call) there c.there))
thin_turn t ts r after held w (Some x) there rest less c =
    let call = subst (λ (o : Option Value). (stay_by held w o).beat ≡ Some c.call) there c.there in
    let gone = is_true t.answer in
    let k = without_if gone t.held w.array w.place in
    let on = subst (λ (o : Option Value). walks_on ts r after t (stay_by held w o).state) there c.rest in
    let more = rest k (record w { place = place_behind gone w.place }) (still_less w.place (length ts) gone less)
    (subst (λ (u : Visit). Walks thinning ts k u r after)
    (stands w gone (counted w.place (omega (arith, less)))) on) in
    one_thinned held w.array w.block w.place x t ts r after there (c.called ∙ one_same w.block x c.call call)
    (subst (λ (o : Option Value). t.wanted.held ≡ (stay_by held w o).held) there c.asked) more

pub thin_course : (ts : List Turn) (r : Value) (after : Held) → ThinRest ts r after
thin_course [] r after = λ held w less d. thin_end held w r after (visiting.element held.store w) refl d
thin_course (t ∷ ts) r after = λ held w less c.
    thin_turn t ts r after held w (visiting.element held.store w) refl (thin_course ts r after) less c

pub elements_thinned : (held after : Held) (recv v : Value) (a b : ObjId) (ts : List Turn) → length ts < 2 ^ 64
    → an_array held.store.objects recv ≡ Some a
    → Gives (row.Visit visit.DeleteElements) held recv [] (Some b) ts v after → ThinsOut held a b 0 ts v after
elements_thinned held after recv v a b ts less there run =
    let w : Visit = record { array = a; place = 0; block = b } in
    let first : run.first ≡ plan_at thinning held w = run.starts
    ∙ ap (λ (o : Option ObjId). wanted held class.Array recv o
    (λ x. visiting.begun visit.DeleteElements held (record { array = x; place = 0; block = b }))) there
    ∙ plan_is held w (visiting.element held.store w) in
    thin_course ts v after held w (from_first (length ts) less) (walks thinning thinning_goes ts held w v after tt
    (subst (λ (q : Planned Stage). Runs q ts (gives after v)) first run.runs))
