-- What the rows of the table want of calls that go straight on: their check refuses none of them.
use Rattle.std.proofs.Common.{◌≡◌, ℕ, zero, suc, ◌+◌, ◌/◌, ◌%◌, Bool, true, false, not, ◌&&◌, List, [], ◌∷◌, length, nat_eq, slice_get, refl, ap, sym, ◌∙◌, subst, arith, if◌then◌else◌}
use Rattle.std.specs.Prelude.{Option, Some, None, is_none, is_some}
use Rattle.std.specs.Cmp.{first_so, second_so}
use Rattle.rb_value.specs.declared.value.Value.{Value}
use Rattle.rb_value.specs.declared.value.Value.TheVariants.{Nil, True, False, Int, Sym, Obj}
use Rattle.rb_value.specs.declared.value.ObjId.{ObjId}
use Rattle.rb_value.specs.declared.kind.Sort.{Sort}
use Rattle.rb_value.specs.declared.kind.Sort.TheVariants as sort
use Rattle.rb_value.specs.contracts.kind.SortPartialEq.TheImpl as sorts
use Rattle.rb_value.specs.Object.{Object}
use Rattle.rb_value.specs.declared.core_class.CoreClass.{CoreClass}
use Rattle.rb_value.specs.declared.core_class.CoreClass.TheVariants as class
use Rattle.rb_value.specs.CoreClass.{number_of}
use Rattle.def_core.specs.declared.cause.Cause.{Cause}
use Rattle.def_core.specs.Store.{sort_at}
use Rattle.def_core.specs.Sound.{has_object}
use Rattle.row_table.specs.declared.line.CoreRow.{CoreRow}
use Rattle.row_table.specs.declared.line.CoreRow.TheVariants as row
use Rattle.row_table.specs.declared.line.Line.{Line}
use Rattle.row_table.specs.declared.string.StringMethod.{StringMethod}
use Rattle.row_table.specs.declared.integer.IntegerMethod.{IntegerMethod}
use Rattle.row_table.specs.declared.signature.Signature.{Signature}
use Rattle.row_table.specs.declared.signature.Wanted.{Wanted}
use Rattle.row_table.specs.declared.signature.Wanted.TheVariants.{Any, Of, Comparable}
use Rattle.row_table.specs.declared.integer.TheConstants.{INTEGER_ROWS}
use Rattle.row_table.specs.declared.range.TheConstants.{RANGE_ROWS, RANGE_CLASS_ROWS}
use Rattle.row_table.specs.declared.string.TheConstants.{STRING_ROWS, STRING_CLASS_ROWS}
use Rattle.row_table.specs.declared.symbol.TheConstants.{SYMBOL_ROWS}
use Rattle.row_table.specs.declared.truth.TheConstants.{NIL_ROWS, TRUE_ROWS, FALSE_ROWS}
use Rattle.row_table.specs.Segments.{of_class, of_class_object}
use Rattle.row_table.specs.RowTable.{segment, line_at, needs_block}
use Rattle.def_rows.specs.Operands.{is_text, is_there}
use Rattle.def_rows.specs.Checking.{class_of_sort, kind_class, unfit, takes, wanted_at, first_unfit, check}
use Rattle.straight_rows.specs.Goes.{is_integer, reads, takes_text, is_element, goes_by, tells, goes}

-- Whether a row takes values of these classes.

abbrev suits : Wanted → CoreClass → Bool
suits Any c = true
suits (Of d) c = nat_eq (number_of d) (number_of c)
suits (Comparable d) c = nat_eq (number_of d) (number_of c)

abbrev all_suit : Signature → ℕ → List CoreClass → Bool
all_suit s n [] = true
all_suit s n (c ∷ cs) = suits (wanted_at s n) c && all_suit s (n + 1) cs

abbrev accepts : Signature → CoreClass → List CoreClass → Bool
accepts s c cs = takes s (length cs) && (not (needs_block s.marks) && (suits s.receiver c && all_suit s 0 cs))

abbrev unless : Bool → Bool → Bool
unless b c = if b then c else true

abbrev text_fits : StringMethod → Signature → Bool
text_fits m s = unless (reads m) (accepts s class.String []) && (unless (takes_text m) (accepts s class.String (class.String ∷ []))
    && unless (is_element m) (accepts s class.String (class.Integer ∷ [])
    && accepts s class.String (class.Integer ∷ class.Integer ∷ [])))

abbrev pub fits : CoreRow → Signature → Bool
fits (row.String m) s = text_fits m s
fits (row.Integer m) s = unless (tells m) (accepts s class.Integer [])
fits _ s = true

-- All lines of the table do.

abbrev all_fit : List Line → Bool
all_fit [] = true
all_fit (l ∷ ls) = fits l.row l.signature && all_fit ls

either_fits : (b : Bool) (xs ys : List Line) → all_fit xs ≡ true → all_fit ys ≡ true → all_fit (if b then xs else ys) ≡ true
either_fits true xs ys h g = h
either_fits false xs ys h g = g

abbrev table : List (ℕ × List Line)
table = (of_class class.Integer, INTEGER_ROWS) ∷ (of_class class.NilClass, NIL_ROWS) ∷ (of_class class.TrueClass, TRUE_ROWS)
    ∷ (of_class class.FalseClass, FALSE_ROWS) ∷ (of_class class.String, STRING_ROWS)
    ∷ (of_class_object class.String, STRING_CLASS_ROWS) ∷ (of_class class.Symbol, SYMBOL_ROWS)
    ∷ (of_class class.Range, RANGE_ROWS) ∷ (of_class_object class.Range, RANGE_CLASS_ROWS) ∷ []

abbrev picked : List (ℕ × List Line) → ℕ → List Line
picked [] s = []
picked (t ∷ ts) s = if nat_eq s t.0 then t.1 else picked ts s

abbrev tables_fit : List (ℕ × List Line) → Bool
tables_fit [] = true
tables_fit (t ∷ ts) = all_fit t.1 && tables_fit ts

picked_fits : (ts : List (ℕ × List Line)) (s : ℕ) → tables_fit ts ≡ true → all_fit (picked ts s) ≡ true
picked_fits [] s h = refl
picked_fits (t ∷ ts) s h = either_fits (nat_eq s t.0) t.1 (picked ts s) (first_so (all_fit t.1) (tables_fit ts) h)
    (picked_fits ts s (second_so (all_fit t.1) (tables_fit ts) h))

segment_fits : (s : ℕ) → all_fit (segment s) ≡ true
unfolding segment
segment_fits s = picked_fits table s refl

found_fits : (ls : List Line) (n : ℕ) (l : Line) → all_fit ls ≡ true → slice_get ls n ≡ Some l → fits l.row l.signature ≡ true
found_fits [] zero l all h = cc
found_fits [] (suc n) l all h = cc
found_fits (x ∷ ls) zero l all h =
    let e : x ≡ l = cc in subst (λ (y : Line). fits y.row y.signature ≡ true) e (first_so (fits x.row x.signature) (all_fit ls) all)
found_fits (x ∷ ls) (suc n) l all h = found_fits ls n l (second_so (fits x.row x.signature) (all_fit ls) all) h

pub line_fits : (number : ℕ) (l : Line) → line_at number ≡ Some l → fits l.row l.signature ≡ true
unfolding line_at
line_fits number l h = found_fits (segment (number / 256)) (number % 256) l (segment_fits (number / 256)) h

-- The classes of values.

text_sort : (s : Sort) → sorts.ghosts.eq s sort.String ≡ true → s ≡ sort.String
text_sort s h = grind (arith, h)

there_text : (there eq : Bool) (id : ObjId) → is_some (if there && eq then Some id else None) ≡ true → eq ≡ true
there_text true true id h = refl
there_text true false id h = cc
there_text false eq id h = cc

text_class : (objects : List Object) (v : Value) → is_text objects v ≡ true → kind_class objects v ≡ class.String
text_class objects Nil h = cc
text_class objects True h = cc
text_class objects False h = cc
text_class objects (Int z) h = cc
text_class objects (Sym s) h = cc
text_class objects (Obj id) h =
    ap (λ (s : Sort). class_of_sort s) (text_sort (sort_at objects id) (there_text (has_object objects id) _ id h))

integer_class : (objects : List Object) (v : Value) → is_integer v ≡ true → kind_class objects v ≡ class.Integer
integer_class objects Nil h = cc
integer_class objects True h = cc
integer_class objects False h = cc
integer_class objects (Int z) h = refl
integer_class objects (Sym s) h = cc
integer_class objects (Obj id) h = cc

-- What suits isn't refused.

suits_fit : (w : Wanted) (objects : List Object) (v : Value) (c : CoreClass) → kind_class objects v ≡ c → suits w c ≡ true
    → unfit w objects v ≡ None
suits_fit Any objects v c is h = refl
suits_fit (Of d) objects v c is h = rw (is, h) refl
suits_fit (Comparable d) objects v c is h = rw (is, h) refl

without_block : (b : Bool) (block : Option ObjId) → not b ≡ true → (b && is_none block) ≡ false
without_block true block h = cc
without_block false block h = refl

module _ (s : Signature) (objects : List Object) (recv : Value) (c : CoreClass) (is : kind_class objects recv ≡ c)
    (block : Option ObjId) where
  accepted_alone : accepts s c [] ≡ true → check s objects recv [] block ≡ None
  unfolding first_unfit
  accepted_alone h =
      let g = second_so (takes s 0) _ h in
      let k = second_so (not (needs_block s.marks)) _ g in
      rw (
        first_so (takes s 0) _ h,
        without_block (needs_block s.marks) block (first_so (not (needs_block s.marks)) _ g),
        suits_fit s.receiver objects recv c is (first_so (suits s.receiver c) _ k),
      ) refl

  accepted_by : (v : Value) (d : CoreClass) → kind_class objects v ≡ d → accepts s c (d ∷ []) ≡ true
      → check s objects recv (v ∷ []) block ≡ None
  unfolding first_unfit
  accepted_by v d one h =
      let g = second_so (takes s 1) _ h in
      let k = second_so (not (needs_block s.marks)) _ g in
      let l = second_so (suits s.receiver c) _ k in
      rw (
        first_so (takes s 1) _ h,
        without_block (needs_block s.marks) block (first_so (not (needs_block s.marks)) _ g),
        suits_fit s.receiver objects recv c is (first_so (suits s.receiver c) _ k),
        suits_fit (wanted_at s 0) objects v d one (first_so (suits (wanted_at s 0) d) _ l),
      ) refl

  accepted_by_two : (v w : Value) (d e : CoreClass) → kind_class objects v ≡ d → kind_class objects w ≡ e
      → accepts s c (d ∷ e ∷ []) ≡ true → check s objects recv (v ∷ w ∷ []) block ≡ None
  unfolding first_unfit
  accepted_by_two v w d e one two h =
      let g = second_so (takes s 2) _ h in
      let k = second_so (not (needs_block s.marks)) _ g in
      let l = second_so (suits s.receiver c) _ k in
      let m = second_so (suits (wanted_at s 0) d) _ l in
      rw (
        first_so (takes s 2) _ h,
        without_block (needs_block s.marks) block (first_so (not (needs_block s.marks)) _ g),
        suits_fit s.receiver objects recv c is (first_so (suits s.receiver c) _ k),
        suits_fit (wanted_at s 0) objects v d one (first_so (suits (wanted_at s 0) d) _ l),
        suits_fit (wanted_at s 1) objects w e two (first_so (suits (wanted_at s 1) e) _ m),
      ) refl

-- A call that goes straight on isn't refused.

when : (b c : Bool) → b ≡ true → unless b c ≡ true → c ≡ true
when true c h g = g
when false c h g = cc

module _ (s : Signature) (objects : List Object) (recv : Value) (block : Option ObjId) where
  by_one : (m : StringMethod) (v : Value) (text : Bool) → takes_text m ≡ text → is_text objects recv ≡ true
      → (if text then is_text objects v else (is_element m && is_integer v)) ≡ true → text_fits m s ≡ true
      → check s objects recv (v ∷ []) block ≡ None
  by_one m v true takes is goes fit =
      let rest = second_so (unless (reads m) (accepts s class.String [])) _ fit in
      accepted_by s objects recv class.String (text_class objects recv is) block v class.String (text_class objects v goes)
      (when (takes_text m) _ takes (first_so (unless (takes_text m) (accepts s class.String (class.String ∷ []))) _ rest))
  by_one m v false takes is goes fit =
      let rest = second_so (unless (reads m) (accepts s class.String [])) _ fit in
      let both = when (is_element m) _ (first_so (is_element m) _ goes)
      (second_so (unless (takes_text m) (accepts s class.String (class.String ∷ []))) _ rest) in
      accepted_by s objects recv class.String (text_class objects recv is) block v class.Integer
      (integer_class objects v (second_so (is_element m) _ goes))
      (first_so (accepts s class.String (class.Integer ∷ [])) _ both)

  by_two : (m : StringMethod) (v n : Value) → is_text objects recv ≡ true
      → (is_element m && (is_integer v && is_integer n)) ≡ true → text_fits m s ≡ true
      → check s objects recv (v ∷ n ∷ []) block ≡ None
  by_two m v n is goes fit =
      let rest = second_so (unless (reads m) (accepts s class.String [])) _ fit in
      let both = when (is_element m) _ (first_so (is_element m) _ goes)
      (second_so (unless (takes_text m) (accepts s class.String (class.String ∷ []))) _ rest) in
      let numbers = second_so (is_element m) _ goes in
      accepted_by_two s objects recv class.String (text_class objects recv is) block v n class.Integer class.Integer
      (integer_class objects v (first_so (is_integer v) _ numbers))
      (integer_class objects n (second_so (is_integer v) _ numbers))
      (second_so (accepts s class.String (class.Integer ∷ [])) _ both)

  text_passes : (m : StringMethod) (args : List Value) → goes (row.String m) objects recv args ≡ true
      → text_fits m s ≡ true → check s objects recv args block ≡ None
  text_passes m [] g fit = accepted_alone s objects recv class.String
      (text_class objects recv (second_so (reads m) _ g)) block
      (when (reads m) _ (first_so (reads m) _ g) (first_so (unless (reads m) (accepts s class.String [])) _ fit))
  text_passes m (v ∷ []) g fit = by_one m v (takes_text m) refl (second_so (goes_by m objects v) _ g)
      (first_so (goes_by m objects v) _ g) fit
  text_passes m (v ∷ n ∷ []) g fit = by_two m v n (second_so (is_element m && (is_integer v && is_integer n)) _ g)
      (first_so (is_element m && (is_integer v && is_integer n)) _ g) fit
  text_passes m (v ∷ n ∷ w ∷ rest) g fit = cc

  number_passes : (m : IntegerMethod) (args : List Value) → goes (row.Integer m) objects recv args ≡ true
      → fits (row.Integer m) s ≡ true → check s objects recv args block ≡ None
  number_passes m [] g fit = accepted_alone s objects recv class.Integer
      (integer_class objects recv (second_so (tells m) _ g)) block (when (tells m) _ (first_so (tells m) _ g) fit)
  number_passes m (v ∷ rest) g fit = cc

  pub passes : (r : CoreRow) (args : List Value) → goes r objects recv args ≡ true → fits r s ≡ true
      → check s objects recv args block ≡ None
  passes (row.String m) args g fit = text_passes m args g fit
  passes (row.Integer m) args g fit = number_passes m args g fit
  passes (row.Range m) args g fit = cc
  passes (row.RangeClass m) args g fit = cc
  passes (row.StringClass m) args g fit = cc
  passes (row.Symbol m) args g fit = cc
  passes (row.Nil m) args g fit = cc
  passes (row.True m) args g fit = cc
  passes (row.False m) args g fit = cc
