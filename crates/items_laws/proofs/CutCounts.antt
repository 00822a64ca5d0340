-- Numbers that a block is called with, where it never answers the last call.
use Rattle.std.proofs.Common.{◌≡◌, refl, ap, subst, ◌∙◌, List, [], ◌∷◌, ◌++◌}
use Rattle.std.specs.Prelude.{ℤ, ◌+ℤ◌, map, Bool, true, false, if◌then◌else◌, Option, Some, None}
use Rattle.rb_value.specs.declared.value.Value.{Value}
use Rattle.rb_value.specs.declared.value.Value.TheVariants.{Int}
use Rattle.rb_value.specs.declared.value.ObjId.{ObjId}
use Rattle.rb_integer.specs.Exact.{fits}
use Rattle.rb_store.specs.Held.{Held}
use Rattle.def_plans.specs.Plan.{Planned}
use Rattle.core_iter.specs.declared.counting.Count.{Count}
use Rattle.core_iter.specs.Counting as counting
use Rattle.core_iter.specs.Sending.{with_one}
use Rattle.core_iter.specs.Stage.{Stage}
use Rattle.items_laws.specs.Run.{Turn, Runs, waiting}
use Rattle.items_laws.specs.Items.{call_of, calls_of}
use Rattle.items_laws.specs.Numbers.{is_past}
use Rattle.items_laws.specs.Cut.{CutsOff}
use Rattle.items_laws.proofs.Counting.{counting_up, counting_goes, counted_on, due_is, number_called, no_call}
use Rattle.items_laws.proofs.CutWalks.{CutEnd, CutWalks, cut_walks}
use Rattle.items_laws.proofs.Small.{none_some}
use Rattle.items_laws.proofs.Walks.{Called, one_same}

abbrev number_calls : ObjId → List ℤ → List (Option (ObjId × List Value))
number_calls b zs = map (λ z. Some (b, Int z ∷ [])) zs

-- the call that isn't answered

no_last : (held : Held) (c : Count) (last : Planned Stage) → counting.due c ≡ None → CutEnd counting_up held c last → ⊥
no_last held c last none k = none_some k.call
    (subst (λ (o : Option ℤ). (counting.beat_by held c o).beat ≡ Some k.call) none k.there)

last_number : (held : Held) (c : Count) (z : ℤ) (last : Planned Stage) → c.of_bytes ≡ false → counting.due c ≡ Some z
    → CutEnd counting_up held c last → call_of last.plan ≡ Some (c.block, Int z ∷ [])
last_number held c z last bytes due k = k.called ∙ one_same c.block (Int z) k.call
    (subst (λ (d : Bool). Some (with_one c.block (counting.shown held z d).value) ≡ Some k.call) bytes
    (subst (λ (o : Option ℤ). (counting.beat_by held c o).beat ≡ Some k.call) due k.there))

-- by the number that comes next, which is none where it isn't one of 64 bits

abbrev CutBy : Option ℤ → Count → List Turn → Planned Stage → Type 0
CutBy None c ts last = ⊥
CutBy (Some z) c ts last = CutsOff z c.by c.block ts last

cut_end : (held : Held) (c : Count) (last : Planned Stage) (o : Option ℤ) → c.next ≡ o → c.of_bytes ≡ false
    → CutEnd counting_up held c last → CutBy o c [] last
cut_end held c last None there bytes k = no_last held c last (ap (λ (o : Option ℤ). counting.due_by c o) there) k
cut_end held c last (Some z) there bytes k = past_by (is_past c.last c.by z) refl
  where
    past_by : (p : Bool) → is_past c.last c.by z ≡ p → CutsOff z c.by c.block [] last
    past_by true past = absurd (no_last held c last (due_is c z true there past) k)
    past_by false past = ap (λ (x : Option (ObjId × List Value)). x ∷ [])
        (last_number held c z last bytes (due_is c z false there past) k)

cut_number : (c : Count) (z : ℤ) (t : Turn) (ts : List Turn) (last : Planned Stage) (f : Bool)
    → call_of t.wanted.plan ≡ Some (c.block, Int z ∷ [])
    → CutBy (if f then Some (z +ℤ c.by) else None) (counted_on c z) ts last → CutsOff z c.by c.block (t ∷ ts) last
cut_number c z t ts last true call more =
    ap (λ (x : Option (ObjId × List Value)). x ∷ (calls_of ts ++ call_of last.plan ∷ [])) call
    ∙ ap (λ (xs : List (Option (ObjId × List Value))). Some (c.block, Int z ∷ []) ∷ xs) more
cut_number c z t ts last false call more = absurd more

abbrev Recursion : List Turn → Planned Stage → Type 0
Recursion ts last = (held : Held) (c : Count) → c.of_bytes ≡ false → CutWalks counting_up ts held c last
    → CutBy c.next c ts last

cut_turn : (t : Turn) (ts : List Turn) (last : Planned Stage) (held : Held) (c : Count) (o : Option ℤ) → c.next ≡ o
    → c.of_bytes ≡ false → Recursion ts last
    → Called counting_up held c t (CutWalks counting_up ts t.held (counting.count_beat held c).state last)
    → CutBy o c (t ∷ ts) last
cut_turn t ts last held c None there bytes rest k = no_call held c t
    (CutWalks counting_up ts t.held (counting.count_beat held c).state last)
    (ap (λ (o : Option ℤ). counting.due_by c o) there) k
cut_turn t ts last held c (Some z) there bytes rest k = past_by (is_past c.last c.by z) refl
  where
    past_by : (p : Bool) → is_past c.last c.by z ≡ p → CutsOff z c.by c.block (t ∷ ts) last
    past_by true past = absurd (no_call held c t
        (CutWalks counting_up ts t.held (counting.count_beat held c).state last) (due_is c z true there past) k)
    past_by false past =
        let due = due_is c z false there past in
        let call = number_called held c z t (CutWalks counting_up ts t.held (counting.count_beat held c).state last) bytes
        due k in
        cut_number c z t ts last (fits (z +ℤ c.by)) call (rest t.held (counted_on c z) bytes
        (subst (λ (o : Option ℤ). CutWalks counting_up ts t.held (counting.beat_by held c o).state last) due k.rest))

cut_course : (ts : List Turn) (last : Planned Stage) → Recursion ts last
cut_course [] last = λ held c bytes k. cut_end held c last c.next refl bytes k
cut_course (t ∷ ts) last = λ held c bytes k. cut_turn t ts last held c c.next refl bytes (cut_course ts last) k

pub numbers_cut : (held : Held) (c : Count) (z : ℤ) (ts : List Turn) (last : Planned Stage) (stage : Stage)
    → c.next ≡ Some z → c.of_bytes ≡ false → Runs (counting.count_next held c) ts last
    → waiting last.plan ≡ Some stage → CutsOff z c.by c.block ts last
numbers_cut held c z ts last stage there bytes runs waits =
    subst (λ (o : Option ℤ). CutBy o c ts last) there (cut_course ts last held c bytes
    (cut_walks counting_up counting_goes ts last stage waits held c bytes runs))
