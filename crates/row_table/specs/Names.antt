-- The names of the core methods, by segments, in the order of the rows.
use Rattle.std.specs.Prelude.{ℕ, List, [], ◌∷◌, codes, nat_eq, if◌then◌else◌}
use Rattle.rb_value.specs.declared.core_class.CoreClass.TheVariants as class
use Rattle.rb_value.specs.CoreClass.{number_of}
use Rattle.row_table.specs.Segments.{of_class, of_class_object}

unfoldable pub integer_names : List (List ℕ)
integer_names = codes "+" ∷ codes "-" ∷ codes "*" ∷ codes "/" ∷ codes "%" ∷ codes "**" ∷ codes "div" ∷ codes "modulo" ∷ codes
    "divmod" ∷ codes "-@" ∷ codes "+@" ∷ codes "~" ∷ codes "&" ∷ codes "|" ∷ codes "^" ∷ codes "<<" ∷ codes ">>" ∷
    codes "==" ∷ codes "<=>" ∷ codes "<" ∷ codes "<=" ∷ codes ">" ∷ codes ">=" ∷ codes "abs" ∷ codes "succ" ∷
    codes "next" ∷ codes "pred" ∷ codes "chr" ∷ codes "ord" ∷ codes "to_i" ∷ codes "to_s" ∷ codes "inspect" ∷
    codes "zero?" ∷ codes "even?" ∷ codes "odd?" ∷ codes "positive?" ∷ codes "negative?" ∷ codes "between?" ∷
    codes "clamp" ∷ []

unfoldable pub range_names : List (List ℕ)
range_names = codes "first" ∷ codes "last" ∷ codes "begin" ∷ codes "end" ∷ codes "size" ∷ codes "exclude_end?" ∷ codes
    "include?" ∷ codes "member?" ∷ codes "===" ∷ codes "==" ∷ codes "to_s" ∷ codes "inspect" ∷ []

unfoldable pub range_class_names : List (List ℕ)
range_class_names = codes "new" ∷ []

unfoldable pub nil_names : List (List ℕ)
nil_names = codes "to_s" ∷ codes "inspect" ∷ codes "&" ∷ codes "|" ∷ codes "^" ∷ codes "to_a" ∷ codes "to_i" ∷ []

-- of true and of false
unfoldable pub truth_names : List (List ℕ)
truth_names = codes "to_s" ∷ codes "inspect" ∷ codes "&" ∷ codes "|" ∷ codes "^" ∷ []

unfoldable pub string_names : List (List ℕ)
string_names = codes "+" ∷ codes "*" ∷ codes "==" ∷ codes "<=>" ∷ codes "<" ∷ codes "<=" ∷ codes ">" ∷ codes ">=" ∷
    codes "[]" ∷ codes "[]=" ∷ codes "length" ∷ codes "size" ∷ codes "bytesize" ∷ codes "bytes" ∷ codes "chars" ∷
    codes "lines" ∷ codes "upcase" ∷ codes "downcase" ∷ codes "capitalize" ∷ codes "swapcase" ∷ codes "reverse" ∷
    codes "strip" ∷ codes "lstrip" ∷ codes "rstrip" ∷ codes "chomp" ∷ codes "chop" ∷ codes "<<" ∷ codes "concat" ∷
    codes "replace" ∷ codes "insert" ∷ codes "include?" ∷ codes "start_with?" ∷ codes "end_with?" ∷ codes "index" ∷
    codes "rindex" ∷ codes "sub" ∷ codes "gsub" ∷ codes "split" ∷ codes "center" ∷ codes "ljust" ∷ codes "rjust" ∷
    codes "to_i" ∷ codes "to_s" ∷ codes "to_sym" ∷ codes "intern" ∷ codes "empty?" ∷ codes "ord" ∷ codes "inspect" ∷ []

unfoldable pub string_class_names : List (List ℕ)
string_class_names = codes "new" ∷ []

unfoldable pub symbol_names : List (List ℕ)
symbol_names = codes "to_s" ∷ codes "to_sym" ∷ codes "inspect" ∷ codes "length" ∷ codes "size" ∷ codes "<=>" ∷ []

-- those of a segment
abbrev pub names : ℕ → List (List ℕ)
names s = if nat_eq s (of_class class.Integer) then integer_names
    else (if nat_eq s (of_class class.NilClass) then nil_names
    else (if nat_eq s (of_class class.TrueClass) then truth_names
    else (if nat_eq s (of_class class.FalseClass) then truth_names
    else (if nat_eq s (of_class class.String) then string_names
    else (if nat_eq s (of_class_object class.String) then string_class_names
    else (if nat_eq s (of_class class.Symbol) then symbol_names
    else (if nat_eq s (of_class class.Range) then range_names
    else (if nat_eq s (of_class_object class.Range) then range_class_names else []))))))))
