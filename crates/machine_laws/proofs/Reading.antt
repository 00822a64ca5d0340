-- What a frame reads is of the store: registers, names, and its activation.
use Rattle.std.proofs.Common.{◌≡◌, ℕ, zero, suc, ◌+◌, ◌-◌, ◌<◌, List, [], ◌∷◌, ◌++◌, length, get_or, Bool, true, false, cond, refl, sym, ap, ◌∙◌, subst, arith, true≢false}
use Rattle.std.specs.Prelude.{Some, None, slice_get, nat_lt, not}
use Rattle.std.specs.List.{position_or_len}
use Rattle.std.specs.Str.{bytes_eq}
use Rattle.std.proofs.lemmas.Bool.{lt-ltb}
use Rattle.std.proofs.lemmas.Option.{none-some, same_Some, slice_get-get_or}
use Rattle.std.proofs.lemmas.Slice.Eq.{bytes_eq-Decides}
use Rattle.rb_value.specs.declared.value.Value.TheVariants.{Nil}
use Rattle.rb_value.specs.declared.value.ObjId.{ObjId}
use Rattle.rb_value.specs.declared.exit.Exit.TheVariants.{Raise, Return, Break, Jump}
use Rattle.rb_value.specs.declared.exit.Slot.{Slot}
use Rattle.rb_value.specs.declared.exit.Slot.TheVariants.{V, E}
use Rattle.rb_value.specs.Slot.{read}
use Rattle.def_core.specs.Store.{Store}
use Rattle.def_core.specs.Changes.{intern, intern_at}
use Rattle.def_core.specs.Sound.{Census, census, Any, plays_at, Is, IsSymbol, IsValue, AllAre}
use Rattle.rite_code.specs.Code.{Program}
use Rattle.rite_code.specs.declared.code.Irep.{Irep}
use Rattle.def_calls.specs.World.{activation_at, no_activation}
use Rattle.def_machine.specs.State.{Frame, Memory, body_at, list_at, slot_at, value_at, no_registers, no_body, all_symbols}
use Rattle.def_machine.specs.Turn.{reg, row, symbol}
use Rattle.def_machine.specs.Fits.{IsException, SlotFits, RegistersFit, IsActivation, ActivationFits, IsName, NamesFit, MemoryFits}
use Rattle.machine_laws.proofs.Lists.{all_get, all_at}

exception_there : (k : Census) (e : ObjId) → IsException k e → Is k Any e
exception_there k e h = record { holds = ap (plays_at Any) h }

pub read_fits : (k : Census) (s : Slot) → SlotFits k s → IsValue k (read s)
read_fits k (V v) h = h
read_fits k (E (Raise e)) h = exception_there k e h
read_fits k (E (Return a v)) h = tt
read_fits k (E (Break a v)) h = tt
read_fits k (E (Jump a t)) h = tt

module _ (p : Program) (m : Memory) (h : MemoryFits p m) where
  pub slot_fits : (n i : ℕ) → SlotFits (census m.world.store) (slot_at m.lists n i)
  unfolding slot_at
  slot_fits n i =
      let k = census m.world.store in
      all_get (SlotFits k) (list_at m.lists n).slots (V Nil) i
      (all_get (RegistersFit k) m.lists no_registers n h.registers tt) tt

  -- any register of any list
  pub value_fits : (n i : ℕ) → IsValue (census m.world.store) (value_at m.lists n i)
  value_fits n i = read_fits (census m.world.store) (slot_at m.lists n i) (slot_fits n i)

  pub reg_fits : (f : Frame) (a : ℕ) → IsValue (census m.world.store) (reg f m a)
  reg_fits f a = value_fits f.list a

  pub row_fits : (f : Frame) (n a : ℕ) → AllAre (IsValue (census m.world.store)) (row f m a n)
  row_fits f zero a = tt
  row_fits f (suc n) a = (reg_fits f a, row_fits f n (a + 1))

-- Names.

same : (x : List ℕ) → bytes_eq x x ≡ true
same x = (bytes_eq-Decides x x).1 refl

place_within : (x : List ℕ) (xs : List (List ℕ)) (n : ℕ) → slice_get xs n ≡ Some x
    → position_or_len (bytes_eq x) xs < length xs
place_within x [] n e = absurd (none-some x e)
place_within x (y ∷ ys) zero e =
    let t : bytes_eq x y ≡ true = subst (λ (z : List ℕ). bytes_eq x z ≡ true) (sym (same_Some y x e)) (same x) in
    subst (λ (b : Bool). cond (not b) (1 + position_or_len (bytes_eq x) ys) 0 < length (y ∷ ys)) (sym t) (omega arith)
place_within x (y ∷ ys) (suc n) e =
    elim (bytes_eq x y) as (λ b. cond (not b) (1 + position_or_len (bytes_eq x) ys) 0 < length (y ∷ ys)) [
      | true ↦ omega arith
      | false ↦ omega (arith, place_within x ys n e)
    ]

pub name_is_symbol : (st : Store) (x : List ℕ) → IsName st.symbols x → IsSymbol (census st) (intern st x).symbol
unfolding intern
name_is_symbol st x h =
    let at = position_or_len (bytes_eq x) st.symbols in
    let within : at < length st.symbols = place_within x st.symbols h.0 h.1 in
    elim (nat_lt at (length st.symbols)) as
    (λ b. nat_lt at (length st.symbols) ≡ b → IsSymbol (census st) (intern_at st x (cond b (Some at) None)).symbol) [
      | true ↦ λ e. record { below = within }
      | false ↦ λ e. absurd (true≢false (sym (lt-ltb at (length st.symbols) within) ∙ e))
    ] refl

left_part : {A : Type 0} (P : A → Type 0) (xs ys : List A) → AllAre P (xs ++ ys) → AllAre P xs
left_part P [] ys h = tt
left_part P (x ∷ xs) ys h = (h.0, left_part P xs ys h.1)

right_part : {A : Type 0} (P : A → Type 0) (xs ys : List A) → AllAre P (xs ++ ys) → AllAre P ys
right_part P [] ys h = h
right_part P (x ∷ xs) ys h = right_part P xs ys h.1

-- the names of one body are among those of all
names_of_body : (P : List ℕ → Type 0) (bs : List Irep) (k : ℕ) (b : Irep) → AllAre P (all_symbols bs)
    → slice_get bs k ≡ Some b → AllAre P b.symbols
names_of_body P [] k b h e = absurd (none-some b e)
names_of_body P (c ∷ bs) zero b h e =
    subst (λ (d : Irep). AllAre P d.symbols) (same_Some c b e) (left_part P c.symbols (all_symbols bs) h)
names_of_body P (c ∷ bs) (suc k) b h e = names_of_body P bs k b (right_part P c.symbols (all_symbols bs) h) e

pub number_at : (p : Program) (k : ℕ) → k < length p.bodies → slice_get p.bodies k ≡ Some (body_at p k)
number_at p k lt = slice_get-get_or p.bodies k no_body lt

pub symbol_fits : (p : Program) (f : Frame) (m : Memory) (b : ℕ) → NamesFit p m.world.store
    → f.body < length p.bodies → b < length (body_at p f.body).symbols
    → IsSymbol (census m.world.store) (symbol p f m b)
symbol_fits p f m b names there below =
    let body = body_at p f.body in
    let all = names_of_body (IsName m.world.store.symbols) p.bodies f.body body names.symbols
    (number_at p f.body there) in
    name_is_symbol m.world.store (get_or body.symbols b [])
    (all_at (IsName m.world.store.symbols) body.symbols b (get_or body.symbols b []) all
    (slice_get-get_or body.symbols b [] below))

-- Activations.

pub running_fits : (p : Program) (m : Memory) (a : ℕ) → MemoryFits p m → IsActivation m.world a
    → ActivationFits m.world (activation_at m.world a)
unfolding activation_at
running_fits p m a h is =
    all_at (ActivationFits m.world) m.world.activations (a - 1) (get_or m.world.activations (a - 1) no_activation)
    h.world.activations
    (slice_get-get_or m.world.activations (a - 1) no_activation (omega (arith, is.0, is.1)))
