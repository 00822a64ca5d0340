-- Values of which some stay, by whether others are equal to them.
use Rattle.std.specs.Prelude.{◌≡◌, ℕ, List, [], ◌∷◌, ◌++◌, slice_get, codes, not, Bool, true, false, ◌&&◌, if◌then◌else◌, Option}
use Rattle.rb_value.specs.declared.value.Value.{Value}
use Rattle.rb_value.specs.declared.value.ObjId.{ObjId}
use Rattle.rb_value.specs.declared.value.SymId.{SymId}
use Rattle.rb_value.specs.Key.{same_key}
use Rattle.rb_value.specs.Value.{is_true}
use Rattle.def_core.specs.Parts.{elements_at}
use Rattle.def_core.specs.Store.{Store}
use Rattle.rb_store.specs.Held.{Held}
use Rattle.iter_comparing.specs.Keyed.{have_own_equality, key_in}
use Rattle.items_laws.specs.Run.{Turn}
use Rattle.items_laws.specs.Items.{IsArrayOf}
use Rattle.items_laws.specs.Lists.{any_of}
use Rattle.items_laws.specs.Asked.{Asks, always, by_place, symbol, with_symbol}
use Rattle.items_laws.specs.Compared.{same_as}

-- the elements of an Array
abbrev pub elements : Held → ObjId → List Value
elements held a = elements_at held.store.objects a

-- the value at a place of a list, whatever the heap
abbrev pub listed : List Value → Held → ℕ → Option Value
listed xs held n = slice_get xs n

-- A value is sought in a list, from a place on: each value of that is asked whether it is `==` it, until one replies that it
-- is.
pub record Seeks (name : SymId) (xs : List Value) (n : ℕ) (v : Value) (held : Held) (ts : List Turn) (found : Bool)
    (after : Held) : Type 0 where
  pub items : List Value
  pub replies : List Value
  pub asks : Asks same_as name (by_place (listed xs)) (always v) is_true held n ts items replies after
  pub any : found ≡ any_of is_true replies

-- Whether a value stays: of `-` where it isn't found among the others; of `|` where it isn't found among those that stayed
-- before; of `&` where it is found among the others, and then not among those that stayed before.

abbrev pub Lacks : SymId → List Value → List Value → Value → Held → List Turn → Bool → Held → Type 0
Lacks name others kept v held ts stays after = Seeks name others 0 v held ts (not stays) after

abbrev pub IsNew : SymId → List Value → List Value → Value → Held → List Turn → Bool → Held → Type 0
IsNew name others kept v held ts stays after = Seeks name kept 0 v held ts (not stays) after

pub data IsShared (name : SymId) (others : List Value) (n : ℕ) (kept : List Value) (v : Value) (held : Held)
    : List Turn → Bool → Held → Type 0 where
  not_shared : (after : Held) (ts : List Turn) → Seeks name others n v held ts false after
      → IsShared name others n kept v held ts false after
  is_shared : (k after : Held) (us ts : List Turn) (stays : Bool) → Seeks name others n v held us true k
      → Seeks name kept 0 v k ts (not stays) after → IsShared name others n kept v held (us ++ ts) stays after

abbrev pub SharesNew : SymId → List Value → List Value → Value → Held → List Turn → Bool → Held → Type 0
SharesNew name others kept v held ts stays after = IsShared name others 0 kept v held ts stays after

-- one value after another: those that stay, behind those before
pub data Sieves (Stays : List Value → Value → Held → List Turn → Bool → Held → Type 0)
    : Held → List Value → List Value → List Turn → List Value → Held → Type 0 where
  no_value : (held : Held) (kept : List Value) → Sieves Stays held [] kept [] kept held
  one_value : (held k after : Held) (v : Value) (vs kept all : List Value) (us ts : List Turn) (stays : Bool)
      → Stays kept v held us stays k → Sieves Stays k vs (if stays then kept ++ v ∷ [] else kept) ts all after
      → Sieves Stays held (v ∷ vs) kept (us ++ ts) all after

-- A new Array of those that stay.
pub record IsSieved (Stays : SymId → List Value → Value → Held → List Turn → Bool → Held → Type 0) (held : Held)
    (values : List Value) (ts : List Turn) (v : Value) (after : Held) : Type 0 where
  pub stay : List Value
  pub last : Held
  pub sieves : Sieves (Stays (symbol (codes "==") held)) (with_symbol (codes "==") held) values [] ts stay last
  pub result : IsArrayOf last stay v after

-- whether all of these are Integers, or Strings, that have the `==` of their class: such values aren't asked
abbrev pub own_equality : Held → List Value → List Value → Bool
own_equality held values others =
    have_own_equality (with_symbol (codes "==") held).store (symbol (codes "==") held) values
    && have_own_equality (with_symbol (codes "==") held).store (symbol (codes "==") held) others

-- Such values are told by their keys.

-- whether a value has the key of one of these
abbrev pub is_among : Store → List Value → Value → Bool
is_among st [] v = false
is_among st (x ∷ xs) v = if same_key (key_in st v) (key_in st x) then true else is_among st xs v

-- those that aren't among others, and those that are
abbrev pub picked_by_key : Bool → Store → List Value → List Value → List Value
picked_by_key there st others [] = []
picked_by_key true st others (v ∷ vs) =
    if is_among st others v then v ∷ picked_by_key true st others vs else picked_by_key true st others vs
picked_by_key false st others (v ∷ vs) =
    if is_among st others v then picked_by_key false st others vs else v ∷ picked_by_key false st others vs

-- each that isn't among those before it
abbrev pub first_of_each : Store → List Value → List Value → List Value
first_of_each st before [] = []
first_of_each st before (v ∷ vs) =
    if is_among st before v then first_of_each st (v ∷ before) vs else v ∷ first_of_each st (v ∷ before) vs

-- a new Array of some values, and nothing is called
pub record IsMadeAtOnce (held : Held) (vs : List Value) (ts : List Turn) (v : Value) (after : Held) : Type 0 where
  pub unasked : ts ≡ []
  pub result : IsArrayOf (with_symbol (codes "==") held) vs v after
