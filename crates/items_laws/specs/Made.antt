-- What comes of items in a new Hash.
use Rattle.std.specs.Prelude.{◌≡◌, List, [], ◌∷◌, Bool, true, false, Option, Some, None, Ok}
use Rattle.rb_value.specs.declared.value.Value.{Value}
use Rattle.rb_value.specs.declared.value.Value.TheVariants.{Obj}
use Rattle.rb_value.specs.declared.value.ObjId.{ObjId}
use Rattle.rb_value.specs.declared.key.Key.{Key}
use Rattle.rb_value.specs.declared.hash.HashItem.{HashItem}
use Rattle.def_core.specs.Parts.{pair_of}
use Rattle.def_core.specs.Store.{next_number}
use Rattle.def_calls.specs.Values.{key_of}
use Rattle.def_calls.specs.Views.{an_array}
use Rattle.rb_store.specs.Held.{Held}
use Rattle.heap.specs.Changes.{pushed}
use Rattle.heap.specs.Made.{array_given, with_array}
use Rattle.heap.specs.Operands.{own}
use Rattle.rows_items.specs.Keyed.{put, with_hash}
use Rattle.iter_items.specs.declared.source.Source.{Source}
use Rattle.iter_items.specs.declared.source.Source.TheVariants as source
use Rattle.iter_items.specs.Sources.{next}
use Rattle.items_laws.specs.Run.{Turn}
use Rattle.items_laws.specs.Items.{Visits, IsValue, Whole}
use Rattle.items_laws.specs.Lists.{alone}
use Rattle.items_laws.specs.Settled.{Settles}

-- The pairs of a Hash whose answers pass.

-- a pair is put into the Hash, or not
abbrev pub PutIf : Bool → ObjId → HashItem → Held → Held → Type 0
PutIf true h p held after = put held h p.shown p.value ≡ Ok after
PutIf false h p held after = after ≡ held

abbrev pub PutsPicked : (Value → Bool) → ObjId → HashItem → Value → Held → Held → Type 0
PutsPicked test h p a held after = PutIf (test a) h p held after

-- A new Hash: the block is called with a new Array of each of the pairs, and each whose answer passes is put into the Hash
-- when that has come, in order.
pub record PicksPairs (test : Value → Bool) (held : Held) (ps : List HashItem) (b : ObjId) (ts : List Turn) (v : Value)
    (after : Held) : Type 0 where
  pub begun : Held
  pub same : begun.store ≡ held.store
  pub settled : List Turn
  pub puts : Settles (PutsPicked test (next_number begun.store)) ps ts settled
  pub visits : Visits next (with_hash begun) (source.Pairs ps 0) b Whole alone settled
      (λ h items. IsValue h (Obj (next_number begun.store)) v after)

-- The groups of items by their answers.

-- an Array has one more element behind the others; what is none stays
abbrev pub JoinsAt : Held → Value → Option ObjId → Held → Type 0
JoinsAt held x None after = after ≡ held
JoinsAt held x (Some group) after = after ≡ pushed held group x

-- the item stands behind the others in the Array that the Hash has under its answer; else in a new Array under that
abbrev pub JoinsBeside : ObjId → Value → Value → Held → Option HashItem → Held → Type 0
JoinsBeside h x a held (Some p) after = JoinsAt held x (an_array held.store.objects p.value) after
JoinsBeside h x a held None after = put (with_array held (x ∷ [])) h a (array_given held.store (x ∷ [])) ≡ Ok after

abbrev pub JoinsUnder : ObjId → Value → Value → Held → Option Key → Held → Type 0
JoinsUnder h x a held None after = ⊥
JoinsUnder h x a held (Some k) after = JoinsBeside h x a held (pair_of held.store.objects h k) after

abbrev pub Joins : ObjId → Value → Value → Held → Held → Type 0
Joins h x a held after = JoinsUnder h x a held (key_of held.store.objects (own held.store a)) after

-- A new Hash: the block is called with each item, and each joins the group of its answer when that has come.
pub record Groups (held : Held) (s : Source) (b : ObjId) (ts : List Turn) (v : Value) (after : Held) : Type 0 where
  pub begun : Held
  pub same : begun.store ≡ held.store
  pub settled : List Turn
  pub visits : Visits next (with_hash begun) s b Whole alone settled
      (λ h items. Settles (Joins (next_number begun.store)) items ts settled
      × IsValue h (Obj (next_number begun.store)) v after)
