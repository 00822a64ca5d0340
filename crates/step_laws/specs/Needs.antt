-- What forms need of the tables of a body: its integers, its texts, and its names.
use Rattle.std.specs.Prelude.{List, ◌≡◌, ℕ, ℤ, pos, negsuc, codes, false, Option, Some, None, slice_get}
use Rattle.rb_syntax.specs.declared.core_form.DefinedKind.{DefinedKind}
use Rattle.rb_syntax.specs.declared.core_form.DefinedKind.TheVariants as asks
use Rattle.rite_code.specs.declared.code.PoolItem.TheVariants as pool
use Rattle.rite_code.specs.declared.operation.Operation.{Operation}
use Rattle.ir_core.specs.CoreForm.{Name}
use Rattle.gen_forms.specs.Gen.{is_within, integer_entry, text_entry}
use Rattle.def_machine.specs.State.{body_at}
use Rattle.step_laws.specs.Site.{Site, IsThere, Named}

-- the pool has the integer where no instruction can hold it
abbrev pub IsPooled : Site → ℤ → Type 0
IsPooled h z = is_within (negsuc 2147483647) z (pos 2147483647) ≡ false
    → slice_get (body_at h.program h.body).pool (integer_entry h.context z) ≡ Some (pool.Int z)

-- the pool has the text
abbrev pub IsTexted : Site → List ℕ → Type 0
IsTexted h t = slice_get (body_at h.program h.body).pool (text_entry h.context t) ≡ Some (pool.Text t)

-- the name of a call: an operator with an instruction of its own needs no entry of a table
abbrev pub IsNamed : Site → Name → Option Operation → Type 0
IsNamed h x (Some o) = IsThere h.source x
IsNamed h x None = Named h x

-- what `defined?` tells without looking is a text of the pool, and what it looks for by name has one
abbrev pub IsAsked : Site → DefinedKind → Name → Type 0
IsAsked h asks.Expression x = IsTexted h (codes "expression")
IsAsked h asks.LocalVariable x = IsTexted h (codes "local-variable")
IsAsked h asks.SelfReference x = IsTexted h (codes "self")
IsAsked h asks.Assignment x = IsTexted h (codes "assignment")
IsAsked h asks.InstanceVariable x = Named h x
IsAsked h asks.GlobalVariable x = Named h x
IsAsked h asks.Constant x = Named h x
IsAsked h asks.Method x = Named h x
IsAsked h asks.Yield x = Unit {0}
IsAsked h asks.Super x = Unit {0}

-- with a value to look in: a constant of it, and a method
abbrev pub IsAskedOf : Site → DefinedKind → Name → Type 0
IsAskedOf h asks.Expression x = ⊥
IsAskedOf h asks.LocalVariable x = ⊥
IsAskedOf h asks.SelfReference x = ⊥
IsAskedOf h asks.Assignment x = ⊥
IsAskedOf h asks.InstanceVariable x = ⊥
IsAskedOf h asks.GlobalVariable x = ⊥
IsAskedOf h asks.Constant x = Named h x
IsAskedOf h asks.Method x = Named h x
IsAskedOf h asks.Yield x = ⊥
IsAskedOf h asks.Super x = ⊥
