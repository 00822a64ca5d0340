-- The numbers of the segments: two for each core class.
use Rattle.std.specs.Prelude.{ℕ, ◌+◌, ◌*◌, List, [], ◌∷◌}
use Rattle.rb_value.specs.declared.core_class.CoreClass.{CoreClass}
use Rattle.rb_value.specs.declared.core_class.CoreClass.TheVariants as class
use Rattle.rb_value.specs.CoreClass.{number_of}

-- the methods of the class
abbrev pub of_class : CoreClass → ℕ
of_class c = 2 * number_of c

-- the methods of its class object
abbrev pub of_class_object : CoreClass → ℕ
of_class_object c = 2 * number_of c + 1

-- those that have rows, in the order of their numbers
abbrev pub segments : List ℕ
segments = of_class class.Integer ∷ of_class class.NilClass ∷ of_class class.TrueClass ∷ of_class class.FalseClass ∷
    of_class class.String ∷ of_class_object class.String ∷ of_class class.Symbol ∷ of_class class.Range ∷
    of_class_object class.Range ∷ []
