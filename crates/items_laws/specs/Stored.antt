-- What stands under the keys of a Hash.
use Rattle.std.specs.Prelude.{◌≡◌, List, [], ◌∷◌, codes, Option, option_map}
use Rattle.rb_value.specs.declared.value.Value.{Value}
use Rattle.rb_value.specs.declared.value.ObjId.{ObjId}
use Rattle.rb_value.specs.declared.hash.HashItem.{HashItem}
use Rattle.rb_value.specs.declared.kind.Kind.TheVariants as kind
use Rattle.rb_value.specs.declared.core_class.CoreClass.TheVariants as class
use Rattle.def_core.specs.declared.cause.Cause.{Cause}
use Rattle.def_core.specs.declared.cause.Cause.TheVariants as cause
use Rattle.def_core.specs.Parts.{pair_of}
use Rattle.def_core.specs.Store.{Store, core, next_number}
use Rattle.def_calls.specs.Values.{key_of}
use Rattle.rb_store.specs.Held.{Held}
use Rattle.heap.specs.Made.{with_new}
use Rattle.heap.specs.Operands.{own}
use Rattle.iter_comparing.specs.Texts.{bytes_of}
use Rattle.items_laws.specs.Run.{Turn}
use Rattle.items_laws.specs.Output.{IsAsked}

-- the pair that a Hash has under a value, or none; a value that is nested too deep is no key
abbrev pub looked_up : Store → ObjId → Value → Option (Option HashItem)
looked_up st h v = option_map (pair_of st.objects h) (key_of st.objects (own st v))

-- A value is asked for `inspect`, and then it fails, since the key of that text isn't there.
pub record IsLacking (held : Held) (v : Value) (ts : List Turn) (c : Cause) (after : Held) : Type 0 where
  pub turn : Turn
  pub alone : ts ≡ turn ∷ []
  pub asks : IsAsked (codes "inspect") held v turn.wanted
  pub why : c ≡ cause.KeyNotFound (next_number turn.held.store)
  pub left : after ≡ with_new turn.held (core class.String) (kind.String (bytes_of turn.held.store turn.answer))
