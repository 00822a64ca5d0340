-- Bytes that are counted up to a last one by steps.
use Rattle.std.specs.Prelude.{◌≡◌, ℤ, List, [], ◌∷◌, length, map, true, false, Some}
use Rattle.rb_value.specs.declared.value.Value.TheVariants.{Obj}
use Rattle.rb_value.specs.declared.value.ObjId.{ObjId}
use Rattle.def_core.specs.Store.{next_number}
use Rattle.rb_store.specs.Held.{Held}
use Rattle.iter_items.specs.Sources.{byte_of}
use Rattle.items_laws.specs.Run.{Turn}
use Rattle.items_laws.specs.Items.{calls_of}
use Rattle.items_laws.specs.Numbers.{any_past, is_over, number_behind, numbers_from}
use Rattle.items_laws.specs.Read.{heaps_before}
use Rattle.items_laws.specs.Texts.{texts_made}

-- The block is called with a new String of each byte from the first one to the last one, made when the answer before has come.
pub record StepsOnBytes (held : Held) (first last by : ℤ) (b : ObjId) (ts : List Turn) : Type 0 where
  pub called : calls_of ts ≡ map (λ h. Some (b, Obj (next_number h.store) ∷ [])) (heaps_before held ts)
  pub made : map (λ t. t.wanted.held) ts
      ≡ texts_made (map (λ z. byte_of z ∷ []) (numbers_from first by (length ts))) (heaps_before held ts)
  pub within : any_past last by (numbers_from first by (length ts)) ≡ false
  pub over : is_over last by (number_behind first by (length ts)) ≡ true
