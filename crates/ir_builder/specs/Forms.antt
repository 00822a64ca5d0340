-- Core forms that several rows of the table of lowering make.
use Rattle.std.specs.Prelude.{ℕ, ℤ, pos, List, [], ◌∷◌, codes, min}
use Rattle.rb_syntax.specs.declared.core_form.DefinedKind.TheVariants as kind
use Rattle.rb_syntax.specs.declared.core_form.Item.{Item}
use Rattle.rb_syntax.specs.declared.core_form.Item.TheVariants.{Plain, Splat}
use Rattle.ir_core.specs.CoreForm as form
use Rattle.ir_core.specs.CoreForm.{Name, Local, CoreForm, Forms, none, more, two, Items, no_items, plain, splat, one_item}
use Rattle.ir_core.specs.Forms.{append_items, send_form, asks_form}

-- tests of which one is to be true, nested to the right
abbrev pub any_of : Forms → CoreForm
any_of none = form.falsehood
any_of (more f none) = f
any_of (more f (more g gs)) = form.or_form f (any_of (more g gs))

-- the tests of a case on its subject
abbrev pub asked : CoreForm → Forms → Forms
asked s none = none
asked s (more f fs) = more (send_form f (codes "===") (one_item s)) (asked s fs)

-- whether the method was given a block
abbrev pub has_block : CoreForm
has_block = form.cond (form.branch (asks_form kind.Yield []) form.truth form.no_branches) form.falsehood

abbrev pub object : CoreForm
object = form.top_constant (codes "Object")

-- an item of another kind
abbrev pub map_item : {A B : Type 0} → (A → B) → Item A → Item B
map_item f (Plain x) = Plain (f x)
map_item f (Splat x) = Splat (f x)

-- the parameters of a method as its `super` without arguments passes them, whatever the blocks between name theirs
abbrev pub passed_item : Item Local → Items → Items
passed_item (Plain x) is = plain (form.own x) is
passed_item (Splat x) is = splat (form.own x) is

abbrev pub passed_items : List (Item Local) → Items
passed_items [] = no_items
passed_items (x ∷ xs) = passed_item x (passed_items xs)

-- plain items
abbrev pub plain_items : List CoreForm → Items
plain_items [] = no_items
plain_items (f ∷ fs) = plain f (plain_items fs)

-- place k
abbrev pub from_front : ℕ → ℤ
from_front k = pos (min k 2147483647)

abbrev pub asks_of_object : Name → CoreForm
asks_of_object x = form.defined kind.Constant x (form.there object)

-- hidden local number d, and the store of a value in it
abbrev pub local_number : ℕ → CoreForm
local_number d = form.local (form.hidden d)

abbrev pub keep : ℕ → CoreForm → CoreForm
keep d f = form.set_local (form.hidden d) f

-- the store of a value by a call of x on the receiver in hidden local r with items; the value is kept in k
abbrev pub stored : ℕ → Name → Items → ℕ → CoreForm → Forms
stored r x is k v = more (keep k v) (two (send_form (local_number r) x (append_items is (one_item (local_number k))))
    (local_number k))

-- element k of the value in hidden local h for a target
abbrev pub element : ℕ → ℕ → CoreForm
element h k = form.item (local_number h) (from_front k)

-- the elements between the first b and the last a
abbrev pub elements_between : ℕ → ℕ → ℕ → CoreForm
elements_between h b a = form.rest_of (local_number h) (min b 255) (min a 255)

-- the last a elements, none of them before place b
abbrev pub last_elements : ℕ → ℕ → ℕ → CoreForm
last_elements h b a = form.tail_of (local_number h) (min b 255) (min a 255)
