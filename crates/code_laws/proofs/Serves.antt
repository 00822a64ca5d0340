-- What an instruction needs in the body that it is made for.
use Rattle.std.specs.Prelude.{◌≡◌, ◌<◌, ◌≤◌, ℕ, ◌+◌, ℤ, List, ◌++◌, map, length, Option, Some, None, true, slice_get, nat_lt, nat_le}
use Rattle.std.specs.List.{list_all}
use Rattle.rite_code.specs.Code.{Program}
use Rattle.rite_code.specs.declared.code.PoolItem.{PoolItem}
use Rattle.rite_code.specs.declared.code.PoolItem.TheVariants as pool
use Rattle.rite_code.specs.declared.operation.Operation.{Operation}
use Rattle.rite_code.specs.Shape.{fits}
use Rattle.ir_core.specs.CoreForm.{Name}
use Rattle.ir_counts.specs.declared.tally.Tally.{Tally}
use Rattle.scope_resolver.specs.declared.body_kind.BodyKind.{BodyKind}
use Rattle.scope_resolver.specs.declared.body_kind.BodyKind.TheVariants as kind
use Rattle.scope_resolver.specs.Layout.{Slots, Scopes}
use Rattle.code_outline.specs.declared.maker.Purpose.{Purpose}
use Rattle.code_outline.specs.Makers.{maker_of, use_in}
use Rattle.code_verifier.specs.Needs.{registers_of, symbols_of, entry_of, distance_of, variable_of, count_of, parameters_of}
use Rattle.code_verifier.specs.Checks.{entry_holds, variable_holds, place_holds, in_function}
use Rattle.gen_parts.specs.Assembly.{shortest}
use Rattle.gen_forms.specs.declared.context.Loop.{Loop}
use Rattle.gen_forms.specs.Gen.{Context}

-- a body: its kind, the bodies whose locals it sees, its tables and how many registers it has
pub record Room : Type 0 where
  pub kind : BodyKind
  pub scopes : Scopes
  pub symbols : List Name
  pub integers : List ℤ
  pub texts : List (List ℕ)
  pub registers : ℕ

-- one with the tables of a tally
abbrev pub room : BodyKind → Scopes → Tally → ℕ → Room
room k scopes t registers = record {
  kind = k;
  scopes = scopes;
  symbols = t.symbols;
  integers = t.integers;
  texts = t.texts;
  registers = registers;
}

-- what stands around a form besides
pub record Inside : Type 0 where
  pub loop : Option Loop
  pub caught : ℕ
  pub body_start : ℕ

abbrev pub context : Room → Inside → Context
context m i = record {
  kind_of = m.kind;
  scopes = m.scopes;
  symbols = m.symbols;
  integers = m.integers;
  texts = m.texts;
  loop = i.loop;
  caught = i.caught;
  body_start = i.body_start;
}

abbrev pub items_of : Room → List PoolItem
items_of m = map pool.Int m.integers ++ map pool.Text m.texts

-- where a body of that kind may stand, which sees those scopes
pub record Seat (k : BodyKind) (scopes : Scopes) : Type 0 where
  pub program : Program
  pub number : ℕ
  pub function : k ≡ kind.Block → in_function (maker_of program number) ≡ true
  pub main : k ≡ kind.Main → number ≡ 0
  pub reaches : (between register : ℕ) (ss : Slots) → slice_get scopes (between + 1) ≡ Some ss → 0 < register
      → register ≤ length ss
      → variable_holds program number (Some (record { register = register; between = between })) ≡ true

-- the number of the child that is used fits an operand
abbrev pub IsFew : Option (ℕ × Purpose) → Type 0
IsFew None = Unit
IsFew (Some u) = u.0 < 65536

-- What it needs is there, it is no jump and no ENTER, and its operands fit, unless bodies are nested too deep or too
-- many are made.
pub record Serves (m : Room) (o : Operation) : Type 0 where
  pub counted : nat_le (count_of o) 255 ≡ true
  pub registers : registers_of o ≤ m.registers
  pub entry : entry_holds (items_of m) (entry_of o) ≡ true
  pub symbols : list_all (λ i. nat_lt i (length m.symbols)) (symbols_of o) ≡ true
  pub jump : distance_of o ≡ None
  pub variable : (s : Seat m.kind m.scopes) → variable_holds s.program s.number (variable_of o) ≡ true
  pub enter : parameters_of o ≡ None
  pub place : (s : Seat m.kind m.scopes) → place_holds s.number (maker_of s.program s.number) o ≡ true
  pub fit : length m.scopes ≤ 65536 → IsFew (use_in o) → fits (shortest o) ≡ true
