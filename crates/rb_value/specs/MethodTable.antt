-- A method table as a list of names with their entries.
use Rattle.std.specs.Prelude.{ℕ, List, nat_eq}
use Rattle.std.specs.Map.{remove_entry}
use Rattle.indexmap.specs.IndexMap.{insert_entry}
use Rattle.rb_value.specs.declared.value.SymId.{SymId}
use Rattle.rb_value.specs.declared.method.MethodEntry.{MethodEntry}

abbrev pub with_entry : List (ℕ × MethodEntry) → SymId → MethodEntry → List (ℕ × MethodEntry)
with_entry table name e = insert_entry nat_eq table name.0 e

abbrev pub without_entry : List (ℕ × MethodEntry) → SymId → List (ℕ × MethodEntry)
without_entry table name = remove_entry (nat_eq name.0) table
