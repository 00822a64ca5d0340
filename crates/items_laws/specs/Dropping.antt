-- What becomes of a Hash whose pairs a block drops.
use Rattle.std.specs.Prelude.{◌≡◌, ℕ, List, [], ◌∷◌, map, Bool, true, false, Option, Some, None}
use Rattle.rb_value.specs.declared.value.Value.{Value}
use Rattle.rb_value.specs.declared.value.Value.TheVariants.{Obj}
use Rattle.rb_value.specs.declared.value.ObjId.{ObjId}
use Rattle.rb_value.specs.declared.key.Key.{Key}
use Rattle.rb_value.specs.declared.hash.HashItem.{HashItem}
use Rattle.rb_value.specs.Value.{is_true}
use Rattle.rb_store.specs.Held.{Held}
use Rattle.heap.specs.Changes.{without_key}
use Rattle.core_iter.specs.Pairs.{key_of_pair}
use Rattle.items_laws.specs.Run.{Turn}
use Rattle.items_laws.specs.Items.{IsValue, calls_of, last_heap}
use Rattle.items_laws.specs.Read.{heaps_before}
use Rattle.items_laws.specs.Settled.{Settles}

-- a pair is gone from the Hash, where it has a key

abbrev pub GoneUnder : ObjId → Held → Option Key → Held → Type 0
GoneUnder h held None after = after ≡ held
GoneUnder h held (Some k) after = after ≡ without_key held h k

-- the key is that of the pair, as it stands at some place of the Hash
pub record Gone (h : ObjId) (i : HashItem) (held after : Held) : Type 0 where
  pub place : ℕ
  pub gone : GoneUnder h held (key_of_pair held.store h place i.shown) after

abbrev pub GoneIf : Bool → ObjId → HashItem → Held → Held → Type 0
GoneIf true h i held after = Gone h i held after
GoneIf false h i held after = after ≡ held

abbrev pub GoneBy : ObjId → HashItem → Value → Held → Held → Type 0
GoneBy h i a held after = GoneIf (is_true a) h i held after

-- The block is called with the key and the value of each of the pairs, in the heap once those before are gone whose answers
-- were true, and the Hash is given.
pub record Drops (held : Held) (h b : ObjId) (ps : List HashItem) (ts : List Turn) (v : Value) (after : Held) : Type 0 where
  pub settled : List Turn
  pub gone : Settles (GoneBy h) ps ts settled
  pub called : calls_of ts ≡ map (λ i. Some (b, i.shown ∷ i.value ∷ [])) ps
  pub heaps : map (λ t. t.wanted.held) ts ≡ heaps_before held settled
  pub result : IsValue (last_heap held settled) (Obj h) v after
