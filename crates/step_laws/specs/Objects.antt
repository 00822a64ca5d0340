-- A program of classes and modules, and what is shown of it.
--
-- module Kit
--   class Shape
--     def initialize(a)
--       @a = a
--     end
--   end
-- end
-- class Square < Kit::Shape
--   def self.make(a)
--     new(a)
--   end
--   def side
--     yield @a
--   end
-- end
-- ::Square.make(3).side { |i| puts i }
use Rattle.std.specs.Prelude.{[], ◌∷◌, codes, pos}
use Rattle.ir_core.specs.CoreForm.{CoreForm, self_ref, int, local, ivar, set_ivar, constant, top_constant, in_constant, seq, call, yield_form, super_form, function, define, define_on, class_form, module_form, Body, body, plain_body, absent, there, plain, no_items, to, on_self, two}
use Rattle.step_laws.specs.Example.{a, three, printer, Prints}

abbrev pub keeping : Body
keeping =
    body (record { required = a ∷ []; optional = []; rest = []; post = []; block = [] }) []
    (set_ivar (codes "@a") (local a))

abbrev pub shape : CoreForm
shape = class_form absent (codes "Shape") absent (plain_body [] (define (codes "initialize") keeping))

abbrev pub kit : CoreForm
kit = module_form absent (codes "Kit") (plain_body [] shape)

abbrev pub making : Body
making =
    body (record { required = a ∷ []; optional = []; rest = []; post = []; block = [] }) []
    (call on_self (codes "new") (plain (local a) no_items) absent)

abbrev pub side : Body
side = plain_body [] (yield_form (plain (ivar (codes "@a")) no_items))

abbrev pub square : CoreForm
square = class_form absent (codes "Square") (there (in_constant (constant (codes "Kit")) (codes "Shape")))
    (plain_body [] (seq (two (define_on self_ref (codes "make") making) (define (codes "side") side))))

abbrev pub squares : Body
squares = plain_body [] (seq (three kit square
    (call (to (call (to (top_constant (codes "Square"))) (codes "make") (plain (int (pos 3)) no_items) absent))
    (codes "side")
    no_items (there (function printer)))))

-- it is a plain program within the limits, and both sides end with that line
abbrev pub IsObjectWitness : Body → Type 0
IsObjectWitness b = Prints b (codes "3\n")

-- class Box
--   def initialize(a)
--     @a = a
--   end
--   def side
--     yield @a
--   end
-- end
-- class Cube < Box
--   def initialize(a)
--     super(a)
--   end
--   def side
--     super()
--   end
-- end
-- Cube.new(4).side { |i| puts i }
abbrev pub box : CoreForm
box = class_form absent (codes "Box") absent
    (plain_body [] (seq (two (define (codes "initialize") keeping) (define (codes "side") side))))

abbrev pub handing : Body
handing =
    body (record { required = a ∷ []; optional = []; rest = []; post = []; block = [] }) []
    (super_form (plain (local a) no_items) absent)

abbrev pub side_above : Body
side_above = plain_body [] (super_form no_items absent)

abbrev pub cube : CoreForm
cube = class_form absent (codes "Cube") (there (constant (codes "Box")))
    (plain_body [] (seq (two (define (codes "initialize") handing) (define (codes "side") side_above))))

abbrev pub cubes : Body
cubes = plain_body [] (seq (three box cube
    (call (to (call (to (constant (codes "Cube"))) (codes "new") (plain (int (pos 4)) no_items) absent)) (codes "side")
    no_items (there (function printer)))))

abbrev pub IsInheritingWitness : Body → Type 0
IsInheritingWitness b = Prints b (codes "4\n")
