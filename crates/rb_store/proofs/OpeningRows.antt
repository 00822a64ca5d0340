-- The methods of the store at the start.
use Rattle.std.proofs.Common.{◌≡◌, ℕ, zero, suc, ◌+◌, ◌<◌, ◌≤◌, List, [], ◌∷◌, length, get_or, Bool, true, false, ◌&&◌, ◌||◌, refl, ap, sym, ◌∙◌, subst, true≢false, arith}
use Rattle.std.specs.Prelude.{nat_lt}
use Rattle.std.specs.Cmp.{first_so, second_so}
use Rattle.std.proofs.lemmas.Bool.Decides.{nat_tests}
use Rattle.std.proofs.lemmas.List.{get_or_past}
use Rattle.rb_value.specs.CoreClass.{core_classes}
use Rattle.rb_value.specs.Object.{Object}
use Rattle.rb_value.specs.declared.value.ObjId.{ObjId}
use Rattle.rb_value.specs.declared.method.MethodEntry.{MethodEntry}
use Rattle.def_core.specs.Store.{absent, object_number}
use Rattle.def_core.specs.Classes.{contents_of, class_at}
use Rattle.def_core.specs.Changes.{intern, with_method}
use Rattle.def_core.specs.Sound.{AllAre}
use Rattle.row_table.specs.Names.{integer_names, nil_names, truth_names, string_names, string_class_names, symbol_names, range_names, range_class_names}
use Rattle.row_table.specs.Segments.{segments}
use Rattle.rb_store.specs.Opening.{opening, with_segments, bare, with_names, with_rows, nameless, core_object, core_contents}
use Rattle.rb_store.specs.Methods.{HasSegment, is_holder}

pub segments_are_had : AllAre HasSegment segments
unfolding opening with_segments bare with_names nameless core_classes core_object core_contents intern with_rows
    with_method integer_names nil_names truth_names string_names string_class_names symbol_names range_names
    range_class_names
segments_are_had = (refl, (refl, (refl, (refl, (refl, (refl, (refl, (refl, (refl, tt)))))))))

abbrev has_none : List (ℕ × MethodEntry) → Bool
has_none [] = true
has_none (e ∷ es) = false

-- of the objects with the numbers from n on, those that hold no segment have no methods
abbrev others_have_none : ℕ → List Object → Bool
others_have_none n [] = true
others_have_none n (o ∷ os) =
    (is_holder (object_number n) || has_none (contents_of o.kind).methods) && others_have_none (n + 1) os

computed : others_have_none 0 opening.objects ≡ true
unfolding opening with_segments bare with_names nameless core_classes core_object core_contents intern with_rows
    with_method integer_names nil_names truth_names string_names string_class_names symbol_names range_names
    range_class_names
computed = refl

none_are_empty : (es : List (ℕ × MethodEntry)) → has_none es ≡ true → es ≡ []
none_are_empty [] h = refl
none_are_empty (e ∷ es) h = absurd (true≢false (sym h))

either : (a b : Bool) → a ≡ false → (a || b) ≡ true → b ≡ true
either true b e h = absurd (true≢false e)
either false b e h = h

other_at : (n : ℕ) (os : List Object) (i : ℕ) → others_have_none n os ≡ true → i < length os
    → is_holder (object_number (n + i)) ≡ false → (contents_of (get_or os i absent).kind).methods ≡ []
other_at n [] i all h not = absurd (omega (arith, h))
other_at n (o ∷ os) zero all h not =
    let e : n + zero ≡ n = omega arith in
    none_are_empty (contents_of o.kind).methods
    (either (is_holder (object_number n)) _ (ap (λ (k : ℕ). is_holder (object_number k)) (sym e) ∙ not)
    (first_so (is_holder (object_number n) || has_none (contents_of o.kind).methods) (others_have_none (n + 1) os) all))
other_at n (o ∷ os) (suc i) all h not =
    let e : n + 1 + i ≡ n + suc i = omega arith in
    other_at (n + 1) os i
    (second_so (is_holder (object_number n) || has_none (contents_of o.kind).methods) (others_have_none (n + 1) os) all)
    (omega (arith, h)) (ap (λ (k : ℕ). is_holder (object_number k)) e ∙ not)

pub no_others : (id : ObjId) → is_holder id ≡ false → (class_at opening.objects id).methods ≡ []
no_others id not = elim (nat_lt id.0 (length opening.objects)) as
    (λ b. nat_lt id.0 (length opening.objects) ≡ b → (class_at opening.objects id).methods ≡ []) [
      | true ↦ λ b.
          let within : id.0 < length opening.objects = grind (arith, nat_tests, b) in
          let e : 0 + id.0 ≡ id.0 = omega arith in
          other_at 0 opening.objects id.0 computed within (ap (λ (k : ℕ). is_holder (object_number k)) e ∙ not)
      | false ↦ λ b.
          let past : length opening.objects ≤ id.0 = grind (arith, nat_tests, b) in
          ap (λ (o : Object). (contents_of o.kind).methods) (get_or_past opening.objects id.0 absent past)
    ] refl
