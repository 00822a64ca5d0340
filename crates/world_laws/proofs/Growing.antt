-- Later worlds: what was there is there.
use Rattle.std.proofs.Common.{◌≡◌, ℕ, ◌<◌, List, [], ◌∷◌, ◌++◌, length, refl, ap, sym, ◌∙◌, arith, length-append, append_assoc, append-nil}
use Rattle.std.specs.Prelude.{Option, Some, None, slice_get}
use Rattle.std.proofs.lemmas.Option.{slice_get_within, slice_get-get_or, get_or_from_slice_get}
use Rattle.std.proofs.lemmas.List.{get_or_append_left}
use Rattle.rb_value.specs.declared.kind.Sort.{Sort}
use Rattle.rb_value.specs.declared.value.Value.{Value}
use Rattle.rb_value.specs.declared.value.ObjId.{ObjId}
use Rattle.rb_value.specs.declared.value.SymId.{SymId}
use Rattle.rb_value.specs.declared.key.KeyPart.{KeyPart}
use Rattle.rb_value.specs.declared.key.KeyPart.TheVariants as part
use Rattle.rb_value.specs.declared.key.Key.{Key}
use Rattle.rb_value.specs.declared.key.Key.TheVariants as key
use Rattle.def_core.specs.Sound.{Census, sorts_of, census, Role, Is, IsSymbol, IsValue, OptionIs, AllAre, SoundPart, SoundKey, plays_at}
use Rattle.def_core.specs.Sound as sound
use Rattle.def_core.proofs.Grows as grows
use Rattle.def_core.proofs.Roles.{found}
use Rattle.def_calls.specs.World.{World}
use Rattle.world_laws.specs.Anywhere.{longer}
use Rattle.world_laws.specs.Fine.{Goes, Extends, HasSort, IsActivation, IsClasses}

-- Lists.

module _ {A : Type 0} where
  pub goes_itself : (xs : List A) → Goes xs xs
  goes_itself xs = record { more = []; same = sym (append-nil xs) }

  pub goes_more : (xs more : List A) → Goes xs (xs ++ more)
  goes_more xs more = record { more = more; same = refl }

  pub goes_both : (xs ys zs : List A) → Goes xs ys → Goes ys zs → Goes xs zs
  goes_both xs ys zs f g = record {
    more = f.more ++ g.more;
    same = g.same ∙ ap (λ (l : List A). l ++ g.more) f.same ∙ append_assoc xs f.more g.more;
  }

  pub goes_there : (xs ys : List A) → Goes xs ys → (n : ℕ) (x : A) → slice_get xs n ≡ Some x → slice_get ys n ≡ Some x
  goes_there xs ys g n x h =
      let within = slice_get_within xs n x h in
      let within_all : n < length (xs ++ g.more) = rw length-append (omega (arith, within)) in
      ap (λ (l : List A). slice_get l n) g.same ∙ slice_get-get_or (xs ++ g.more) n x within_all
      ∙ ap Some (get_or_append_left xs g.more x n within ∙ get_or_from_slice_get xs n x x h)

-- Worlds.

pub extends_itself : (w : World) → Extends w w
extends_itself w = record {
  sorts = goes_itself (sorts_of w.store.objects);
  symbols = goes_itself w.store.symbols;
  enclosing = goes_itself w.enclosing;
  activations = goes_itself w.activations;
}

pub extends_both : (w v u : World) → Extends w v → Extends v u → Extends w u
extends_both w v u e f = record {
  sorts = goes_both (sorts_of w.store.objects) (sorts_of v.store.objects) (sorts_of u.store.objects) e.sorts f.sorts;
  symbols = goes_both w.store.symbols v.store.symbols u.store.symbols e.symbols f.symbols;
  enclosing = goes_both w.enclosing v.enclosing u.enclosing e.enclosing f.enclosing;
  activations = goes_both w.activations v.activations u.activations e.activations f.activations;
}

module _ (w v : World) (e : Extends w v) where
  pub sort_stays : (s : Sort) (id : ObjId) → HasSort (census w.store) s id → HasSort (census v.store) s id
  sort_stays s id h = goes_there (sorts_of w.store.objects) (sorts_of v.store.objects) e.sorts id.0 s h

  pub role_stays : (r : Role) (id : ObjId) → Is (census w.store) r id → Is (census v.store) r id
  role_stays r id is =
      let f = found (sorts_of w.store.objects) id.0 r is.holds in
      record { holds = ap (plays_at r) (sort_stays f.0 id f.1) ∙ f.2 }

  -- all that the store knows is known in the later one
  pub census_extends : sound.Extends (census w.store) (census v.store)
  census_extends = record {
    roles = role_stays;
    names = λ n h.
        let more = longer w.store.symbols v.store.symbols e.symbols in
        omega (arith, h, more);
  }

  pub symbol_stays : (s : SymId) → IsSymbol (census w.store) s → IsSymbol (census v.store) s
  symbol_stays s is = record { below = census_extends.names s.0 is.below }

  pub name_stays : (n : ℕ) (x : List ℕ) → slice_get w.store.symbols n ≡ Some x → slice_get v.store.symbols n ≡ Some x
  name_stays n x h = goes_there w.store.symbols v.store.symbols e.symbols n x h

  pub value_stays : (x : Value) → IsValue (census w.store) x → IsValue (census v.store) x
  value_stays x is = grows.value_grows (census w.store) (census v.store) census_extends x is

  part_stays : (p : KeyPart) → SoundPart (census w.store) p → SoundPart (census v.store) p
  part_stays (part.Plain x) h = value_stays x h
  part_stays (part.Text t) h = tt
  part_stays (part.Array n) h = tt

  parts_stay : (ps : List KeyPart) → AllAre (SoundPart (census w.store)) ps → AllAre (SoundPart (census v.store)) ps
  parts_stay [] h = tt
  parts_stay (p ∷ ps) h = (part_stays p h.0, parts_stay ps h.1)

  pub key_stays : (x : Key) → SoundKey (census w.store) x → SoundKey (census v.store) x
  key_stays (key.Plain x) h = value_stays x h
  key_stays (key.Text t) h = tt
  key_stays (key.Array ps) h = parts_stay ps h

  pub activation_number_stays : (a : ℕ) → IsActivation w a → IsActivation v a
  activation_number_stays a is =
      let more = longer w.activations v.activations e.activations in (is.0, omega (arith, is.1, more))

  pub classes_number_stays : (n : ℕ) → IsClasses w n → IsClasses v n
  classes_number_stays n is =
      let more = longer w.enclosing v.enclosing e.enclosing in omega (arith, is, more)

-- What holds of what is there, and of each, in a later world.

pub option_stays : {A : Type 0} (P Q : A → Type 0) → ((x : A) → P x → Q x) → (o : Option A) → OptionIs P o
    → OptionIs Q o
option_stays P Q f None h = tt
option_stays P Q f (Some x) h = f x h

pub all_stay : {A : Type 0} (P Q : A → Type 0) → ((x : A) → P x → Q x) → (xs : List A) → AllAre P xs → AllAre Q xs
all_stay P Q f [] h = tt
all_stay P Q f (x ∷ xs) h = (f x h.0, all_stay P Q f xs h.1)
