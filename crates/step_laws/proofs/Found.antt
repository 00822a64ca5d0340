-- What the operators find on nil, true, false and integers, and what `to_s` finds: by their rows.
use Rattle.std.proofs.Common.{◌≡◌, ℕ, List, [], ◌∷◌, ◌++◌, refl, sym, ap, ◌∙◌, Bool, true, false, true≢false}
use Rattle.std.specs.Prelude.{◌&&◌, ◌||◌, nat_eq, is_some, position, bytes_eq, codes, Option, Some, None}
use Rattle.std.specs.List.{list_any, list_all}
use Rattle.std.proofs.lemmas.Slice.Eq.{bytes_eq-Decides}
use Rattle.rb_value.specs.Object.{Object}
use Rattle.rb_value.specs.declared.value.Value.TheVariants.{Obj}
use Rattle.rb_value.specs.declared.method.Method.{Method}
use Rattle.rb_value.specs.declared.method.Method.TheVariants as method
use Rattle.rb_value.specs.declared.method.Visibility.{Visibility}
use Rattle.rb_value.specs.declared.method.Visibility.TheVariants.{Public, Private, Protected}
use Rattle.rb_value.specs.declared.core_class.CoreClass.{CoreClass}
use Rattle.rb_value.specs.declared.core_class.CoreClass.TheVariants as class
use Rattle.row_table.specs.declared.line.CoreRow.{CoreRow}
use Rattle.row_table.specs.declared.line.CoreRow.TheVariants as core_row
use Rattle.row_table.specs.declared.line.Line.{Line}
use Rattle.row_table.specs.RowTable.{line_at}
use Rattle.row_table.specs.declared.integer.IntegerMethod.{IntegerMethod}
use Rattle.row_table.specs.declared.integer.IntegerMethod.TheVariants as integer
use Rattle.row_table.specs.declared.truth.TruthMethod.{TruthMethod}
use Rattle.row_table.specs.declared.truth.TruthMethod.TheVariants as truth_method
use Rattle.def_core.specs.declared.found.Found.{Found}
use Rattle.def_core.specs.Store.{core}
use Rattle.def_core.specs.Classes.{class_of}
use Rattle.def_core.specs.Find.{find}
use Rattle.rb_store.specs.Opening.{main_object}
use Rattle.ir_core.specs.CoreForm.{Name}
use Rattle.def_calls.specs.Definitions.{space_in}
use Rattle.def_calls.specs.Rows
use Rattle.def_calls.specs.Rows.{Row, of_table, outright, iterates, PlainRow, StarRow, row_at, method_missing_row}
use Rattle.def_eval.proofs.Running.{run}
use Rattle.step_laws.specs.Simple.{operators, IsOperator}
use Rattle.step_laws.proofs.Symbols.{IsCoreName, the_symbol}

-- rows of the operators
abbrev pub is_arithmetic : IntegerMethod → Bool
is_arithmetic integer.Plus = true
is_arithmetic integer.Minus = true
is_arithmetic integer.Times = true
is_arithmetic integer.Divide = true
is_arithmetic integer.Percent = false
is_arithmetic integer.Power = false
is_arithmetic integer.Div = false
is_arithmetic integer.Modulo = false
is_arithmetic integer.Divmod = false
is_arithmetic integer.Negate = false
is_arithmetic integer.Itself = false
is_arithmetic integer.Complement = false
is_arithmetic integer.And = false
is_arithmetic integer.Or = false
is_arithmetic integer.Xor = false
is_arithmetic integer.Left = false
is_arithmetic integer.Right = false
is_arithmetic integer.Equal = true
is_arithmetic integer.Order = false
is_arithmetic integer.Less = true
is_arithmetic integer.AtMost = true
is_arithmetic integer.Greater = true
is_arithmetic integer.AtLeast = true
is_arithmetic integer.Absolute = false
is_arithmetic integer.Successor = false
is_arithmetic integer.Next = false
is_arithmetic integer.Predecessor = false
is_arithmetic integer.Character = false
is_arithmetic integer.Ordinal = false
is_arithmetic integer.ToInteger = false
is_arithmetic integer.ToText = false
is_arithmetic integer.Inspect = false
is_arithmetic integer.IsZero = false
is_arithmetic integer.IsEven = false
is_arithmetic integer.IsOdd = false
is_arithmetic integer.IsPositive = false
is_arithmetic integer.IsNegative = false
is_arithmetic integer.IsBetween = false
is_arithmetic integer.Clamp = false

abbrev pub is_sameness : PlainRow → Bool
is_sameness Rows.initialize_object = false
is_sameness Rows.method_missing = false
is_sameness Rows.object_text = false
is_sameness Rows.object_inspection = false
is_sameness Rows.same_object = true
is_sameness Rows.negation = false
is_sameness Rows.class_of_object = false
is_sameness Rows.exit_program = false
is_sameness Rows.proc_of_block = false
is_sameness Rows.lambda_of_block = false
is_sameness Rows.proc_of_symbol = false
is_sameness Rows.array_push = false
is_sameness Rows.array_length = false
is_sameness Rows.array_element = false
is_sameness Rows.has_ancestor = false
is_sameness Rows.class_text = false
is_sameness Rows.method_of_block = false
is_sameness Rows.initialize_exception = false
is_sameness Rows.exception_text = false
is_sameness Rows.new_fiber = false
is_sameness Rows.is_alive = false

abbrev pub is_plain_row : CoreRow → Bool
is_plain_row (core_row.Integer m) = is_arithmetic m
is_plain_row (core_row.Range m) = false
is_plain_row (core_row.RangeClass m) = false
is_plain_row (core_row.String m) = false
is_plain_row (core_row.StringClass m) = false
is_plain_row (core_row.Symbol m) = false
is_plain_row (core_row.Nil m) = false
is_plain_row (core_row.True m) = false
is_plain_row (core_row.False m) = false

abbrev pub is_plain_line : Option Line → Bool
is_plain_line None = false
is_plain_line (Some l) = is_plain_row l.row

abbrev pub is_plain_of : ℕ → Row → Bool
is_plain_of r of_table = is_plain_line (line_at r)
is_plain_of r (outright p) = is_sameness p
is_plain_of r (iterates s) = false

-- rows of texts
abbrev pub is_number_text : IntegerMethod → Bool
is_number_text integer.Plus = false
is_number_text integer.Minus = false
is_number_text integer.Times = false
is_number_text integer.Divide = false
is_number_text integer.Percent = false
is_number_text integer.Power = false
is_number_text integer.Div = false
is_number_text integer.Modulo = false
is_number_text integer.Divmod = false
is_number_text integer.Negate = false
is_number_text integer.Itself = false
is_number_text integer.Complement = false
is_number_text integer.And = false
is_number_text integer.Or = false
is_number_text integer.Xor = false
is_number_text integer.Left = false
is_number_text integer.Right = false
is_number_text integer.Equal = false
is_number_text integer.Order = false
is_number_text integer.Less = false
is_number_text integer.AtMost = false
is_number_text integer.Greater = false
is_number_text integer.AtLeast = false
is_number_text integer.Absolute = false
is_number_text integer.Successor = false
is_number_text integer.Next = false
is_number_text integer.Predecessor = false
is_number_text integer.Character = false
is_number_text integer.Ordinal = false
is_number_text integer.ToInteger = false
is_number_text integer.ToText = true
is_number_text integer.Inspect = false
is_number_text integer.IsZero = false
is_number_text integer.IsEven = false
is_number_text integer.IsOdd = false
is_number_text integer.IsPositive = false
is_number_text integer.IsNegative = false
is_number_text integer.IsBetween = false
is_number_text integer.Clamp = false

abbrev pub is_truth_text : TruthMethod → Bool
is_truth_text truth_method.ToText = true
is_truth_text truth_method.Inspect = false
is_truth_text truth_method.And = false
is_truth_text truth_method.Or = false
is_truth_text truth_method.Xor = false

abbrev pub is_text_row : CoreRow → Bool
is_text_row (core_row.Integer m) = is_number_text m
is_text_row (core_row.Range m) = false
is_text_row (core_row.RangeClass m) = false
is_text_row (core_row.String m) = false
is_text_row (core_row.StringClass m) = false
is_text_row (core_row.Symbol m) = false
is_text_row (core_row.Nil m) = false
is_text_row (core_row.True m) = is_truth_text m
is_text_row (core_row.False m) = is_truth_text m

abbrev pub is_text_line : Option Line → Bool
is_text_line None = false
is_text_line (Some l) = is_text_row l.row

abbrev pub is_text_of : ℕ → Row → Bool
is_text_of r of_table = is_text_line (line_at r)
is_text_of r (outright p) = false
is_text_of r (iterates s) = false

-- a public core method whose row passes
abbrev pub is_open : Visibility → Bool
is_open Public = true
is_open Private = false
is_open Protected = false

abbrev pub is_core : (ℕ → Bool) → Method → Bool
is_core f (method.Body b s) = false
is_core f (method.Core r) = f r
is_core f (method.Reader n) = false
is_core f (method.Writer n) = false
is_core f (method.Block p) = false
is_core f method.Undefined = false

abbrev pub passes : (ℕ → Bool) → Option Found → Bool
passes f None = false
passes f (Some d) = is_open d.visibility && is_core f d.method

abbrev pub is_plain : ℕ → Bool
is_plain r = is_plain_of r (row_at r)

abbrev pub is_text : ℕ → Bool
is_text r = is_text_of r (row_at r)

-- nothing is found, or what passes
abbrev pub none_or : Option Found → Bool
none_or None = true
none_or (Some d) = passes is_plain (Some d)

abbrev pub simple_classes : List CoreClass
simple_classes = class.NilClass ∷ class.TrueClass ∷ class.FalseClass ∷ class.Integer ∷ []

-- the objects of the opening store, and more behind them
abbrev pub grown : List Object → List Object
grown more = Rows.opening.objects ++ more

operators_found : (more : List Object)
    → list_all (λ (x : Name). list_all (λ (c : CoreClass). none_or (find (grown more) (core c) (the_symbol x)))
    simple_classes) operators ≡ true
unfolding run the_symbol
operators_found more = refl

operators_known : list_all (λ (x : Name). is_some (position (bytes_eq x) Rows.opening.symbols)) operators ≡ true
unfolding run
operators_known = refl

-- what holds of each
pub both_true : (a b : Bool) → (a && b) ≡ true → (a ≡ true) × (b ≡ true)
both_true true b e = (refl, e)
both_true false b e = absurd (true≢false (sym e))

each : (f : Name → Bool) (xs : List Name) (x : Name) → list_any (bytes_eq x) xs ≡ true → list_all f xs ≡ true
    → f x ≡ true
each f [] x h g = absurd (true≢false (sym h))
each f (y ∷ ys) x h g =
    let two = both_true (f y) (list_all f ys) g in
    at (λ k. each f ys x k two.1) two.0 (bytes_eq x y) refl h
  where
    at : (list_any (bytes_eq x) ys ≡ true → f x ≡ true) → f y ≡ true → (b : Bool) → bytes_eq x y ≡ b
        → (b || list_any (bytes_eq x) ys) ≡ true → f x ≡ true
    at further here true e k = ap f ((bytes_eq-Decides x y).0 e) ∙ here
    at further here false e k = further k

pub operator_known : (x : Name) → IsOperator x → IsCoreName x
unfolding IsCoreName
operator_known x h =
    each (λ (y : Name). is_some (position (bytes_eq y) Rows.opening.symbols)) operators x h operators_known

abbrev of_four : (CoreClass → Bool) → Bool
of_four f = list_all f simple_classes

-- what an operator finds in each of the four classes
pub record FindsAll (more : List Object) (x : Name) : Type 0 where
  pub of_nil : none_or (find (grown more) (core class.NilClass) (the_symbol x)) ≡ true
  pub of_true : none_or (find (grown more) (core class.TrueClass) (the_symbol x)) ≡ true
  pub of_false : none_or (find (grown more) (core class.FalseClass) (the_symbol x)) ≡ true
  pub of_integer : none_or (find (grown more) (core class.Integer) (the_symbol x)) ≡ true

pub finds_all : (more : List Object) (x : Name) → IsOperator x → FindsAll more x
finds_all more x h =
    let f = λ (c : CoreClass). none_or (find (grown more) (core c) (the_symbol x)) in
    let all = each (λ (y : Name). of_four (λ c. none_or (find (grown more) (core c) (the_symbol y)))) operators x h
    (operators_found more) in
    let a = both_true (f class.NilClass) (f class.TrueClass && (f class.FalseClass && (f class.Integer && true))) all in
    let b = both_true (f class.TrueClass) (f class.FalseClass && (f class.Integer && true)) a.1 in
    let c = both_true (f class.FalseClass) (f class.Integer && true) b.1 in
    let d = both_true (f class.Integer) true c.1 in
    record { of_nil = a.0; of_true = b.0; of_false = c.0; of_integer = d.0 }

-- method_missing is that of the core in each of the four
abbrev pub is_missing : Option Found → Bool
is_missing None = false
is_missing (Some d) = is_core (λ r. nat_eq r method_missing_row) d.method

pub record Missing (more : List Object) : Type 0 where
  pub known : IsCoreName (codes "method_missing")
  pub of_nil : is_missing (find (grown more) (core class.NilClass) (the_symbol (codes "method_missing"))) ≡ true
  pub of_true : is_missing (find (grown more) (core class.TrueClass) (the_symbol (codes "method_missing"))) ≡ true
  pub of_false : is_missing (find (grown more) (core class.FalseClass) (the_symbol (codes "method_missing"))) ≡ true
  pub of_integer : is_missing (find (grown more) (core class.Integer) (the_symbol (codes "method_missing"))) ≡ true

pub missing_all : (more : List Object) → Missing more
unfolding run the_symbol IsCoreName
missing_all more = record { known = refl; of_nil = refl; of_true = refl; of_false = refl; of_integer = refl }

-- the texts of true, false and integers
pub record Texts (more : List Object) : Type 0 where
  pub known : IsCoreName (codes "to_s")
  pub of_true : passes is_text (find (grown more) (core class.TrueClass) (the_symbol (codes "to_s"))) ≡ true
  pub of_false : passes is_text (find (grown more) (core class.FalseClass) (the_symbol (codes "to_s"))) ≡ true
  pub of_integer : passes is_text (find (grown more) (core class.Integer) (the_symbol (codes "to_s"))) ≡ true

pub texts_all : (more : List Object) → Texts more
unfolding run the_symbol IsCoreName
texts_all more = record { known = refl; of_true = refl; of_false = refl; of_integer = refl }

-- `puts` on the main object
abbrev pub is_writer : StarRow → Bool
is_writer Rows.puts = true
is_writer Rows.print = false
is_writer Rows.p = false
is_writer Rows.gets = false
is_writer Rows.raise_exception = false
is_writer Rows.loop = false
is_writer Rows.send = false
is_writer Rows.public_send = false
is_writer Rows.each_element = false
is_writer Rows.count_up = false
is_writer Rows.new_object = false
is_writer Rows.call_proc = false
is_writer Rows.resume = false
is_writer Rows.yield = false
is_writer Rows.send_kept = false
is_writer Rows.exception_message = false
is_writer Rows.exception_inspection = false

abbrev pub writes_row : Row → Bool
writes_row of_table = false
writes_row (outright p) = false
writes_row (iterates s) = is_writer s

abbrev pub is_puts : ℕ → Bool
is_puts r = writes_row (row_at r)

pub record Writing (more : List Object) : Type 0 where
  pub known : IsCoreName (codes "puts")
  pub of_main : passes is_puts (find (grown more) (class_of (grown more) (Obj main_object)) (the_symbol (codes "puts")))
      ≡ true

pub writing : (more : List Object) → Writing more
unfolding run the_symbol IsCoreName
writing more = record { known = refl; of_main = refl }

-- Object is a class
pub object_there : (more : List Object) → space_in (grown more) (Obj (core class.Object)) ≡ Some (core class.Object)
unfolding run
object_there more = refl
