-- One more name, and one more row.
use Rattle.std.proofs.Common.{◌≡◌, ℕ, zero, suc, ◌+◌, ◌<◌, ◌≤◌, List, [], ◌∷◌, length, map, get_or, drop, true, refl, arith, lit<}
use Rattle.std.proofs.lemmas.List.{drop_more, drop_all}
use Rattle.rb_value.specs.declared.value.ObjId.{ObjId}
use Rattle.rb_value.specs.Object.{Object}
use Rattle.rb_value.specs.CoreClass.{core_classes}
use Rattle.def_core.specs.Store.{Store, sort_at}
use Rattle.def_core.specs.Changes.{intern}
use Rattle.def_core.specs.Sound.{sorts_of, plays, Role, ClassOrModule, AllAre}
use Rattle.def_core.proofs.Sorts.{is_there, same_sort}
use Rattle.row_table.specs.Segments.{segments}
use Rattle.row_table.specs.Names.{integer_names, nil_names, truth_names, string_names, string_class_names, symbol_names, range_names, range_class_names}
use Rattle.rb_store.specs.Opening.{with_names, with_row, with_rows, IsHeld, holder, with_segment, with_segments, nameless, core_object, core_contents}

pub names_step : {A : Type 0} (f : A → List ℕ) (st : Store) (i : ℕ) (names : List A) (d : A) → i < length names
    → with_names (intern st (f (get_or names i d))).store (map f (drop (i + 1) names)) ≡ with_names st
    (map f (drop i names))
unfolding with_names
names_step f st i names d h = rw (drop_more names i d) refl

pub rows_step : {A : Type 0} (f : A → List ℕ) (st : Store) (c : ObjId) (first i : ℕ) (names : List A) (d : A)
    → i < length names
    → with_rows (with_row c (first + i) (intern st (f (get_or names i d)))) c (first + (i + 1))
    (map f (drop (i + 1) names)) ≡ with_rows st c (first + i) (map f (drop i names))
unfolding with_rows
rows_step f st c first i names d h =
    let e : first + (i + 1) ≡ first + i + 1 = omega arith in
    rw (drop_more names i d, e) refl

pub there_still : (now then : List Object) (n : ℕ) → sorts_of now ≡ sorts_of then → n < length then → n < length now
there_still now then n e h = rw (is_there now then e) h

pub plays_still : (now then : List Object) (id : ObjId) (r : Role) → sorts_of now ≡ sorts_of then
    → plays r (sort_at then id) ≡ true → plays r (sort_at now id) ≡ true
plays_still now then id r e h = rw (same_sort now then id e) h

pub names_end : {A : Type 0} (f : A → List ℕ) (st : Store) (i : ℕ) (names : List A) → length names ≤ i
    → with_names st (map f (drop i names)) ≡ st
unfolding with_names
names_end f st i names h = rw (drop_all i names) refl

pub rows_end : {A : Type 0} (f : A → List ℕ) (st : Store) (c : ObjId) (n i : ℕ) (names : List A) → length names ≤ i
    → with_rows st c n (map f (drop i names)) ≡ st
unfolding with_rows
rows_end f st c n i names h = rw (drop_all i names) refl

-- Segments.

pub segments_step : (st : Store) (i : ℕ) (segments : List ℕ) (d : ℕ) → i < length segments
    → with_segments (with_segment st (get_or segments i d)) (drop (i + 1) segments)
    ≡ with_segments st (drop i segments)
unfolding with_segments
segments_step st i segments d h = rw (drop_more segments i d) refl

pub segments_end : (st : Store) (i : ℕ) (segments : List ℕ) → length segments ≤ i
    → with_segments st (drop i segments) ≡ st
unfolding with_segments
segments_end st i segments h = rw (drop_all i segments) refl

pub held_still : (now then : List Object) (s : ℕ) → sorts_of now ≡ sorts_of then → IsHeld then s → IsHeld now s
held_still now then s e h = record {
  there = there_still now then (holder s).0 e h.there;
  is_class = plays_still now then (holder s) ClassOrModule e h.is_class;
  rows = h.rows;
}

pub held_at : (objects : List Object) (segments : List ℕ) (i d : ℕ) → AllAre (IsHeld objects) segments
    → i < length segments → IsHeld objects (get_or segments i d)
held_at objects [] i d all h = absurd (omega (arith, h))
held_at objects (s ∷ ss) zero d all h = all.0
held_at objects (s ∷ ss) (suc i) d all h = held_at objects ss i d all.1 (omega (arith, h))

-- the first store has what holds the methods
pub nameless_held : AllAre (IsHeld nameless.objects) segments
unfolding nameless core_classes core_object core_contents integer_names nil_names truth_names string_names
    string_class_names symbol_names range_names range_class_names
nameless_held = (record { there = lit< tt; is_class = refl; rows = lit< tt }, (record { there = lit< tt; is_class = refl; rows = lit< tt }, (record { there = lit< tt; is_class = refl; rows = lit< tt }, (record { there = lit< tt; is_class = refl; rows = lit< tt }, (record { there = lit< tt; is_class = refl; rows = lit< tt }, (record { there = lit< tt; is_class = refl; rows = lit< tt }, (record { there = lit< tt; is_class = refl; rows = lit< tt }, (record { there = lit< tt; is_class = refl; rows = lit< tt }, (record { there = lit< tt; is_class = refl; rows = lit< tt }, tt)))))))))
