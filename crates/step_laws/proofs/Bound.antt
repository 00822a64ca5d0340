-- What ENTER binds in the code of a body, and the registers that it writes.
use Rattle.std.proofs.Common.{◌≡◌, ℕ, ◌+◌, ◌-◌, ◌≤◌, List, [], ◌∷◌, ◌++◌, refl, ap, ◌∙◌, arith, length, length-append, set, replicate, Bool, true, false}
use Rattle.std.specs.Prelude.{if◌then◌else◌, take, drop}
use Rattle.std.proofs.lemmas.List.{length-take, length-drop, length-replicate, get_or_push}
use Rattle.std.proofs.lemmas.Bool.Decides.{nat_tests}
use Rattle.rb_value.specs.declared.value.Value.{Value}
use Rattle.rb_value.specs.declared.value.Value.TheVariants.{Nil, Obj}
use Rattle.rb_value.specs.declared.kind.Kind.TheVariants as kind
use Rattle.rb_value.specs.declared.core_class.CoreClass.TheVariants as class
use Rattle.rb_value.specs.declared.method.Shape.{Shape}
use Rattle.rb_value.specs.declared.exit.Slot.{Slot}
use Rattle.rb_value.specs.declared.exit.Slot.TheVariants.{V}
use Rattle.def_core.specs.declared.bound.Bound.TheVariants.{Values, Wrong}
use Rattle.def_core.specs.declared.bound.BindKind.{BindKind}
use Rattle.def_core.specs.Store.{Store, core, fresh, next_number, with_object}
use Rattle.def_core.specs.Bind.{arguments, fits, filled, remaining, values, bind_fitting, bind}
use Rattle.ir_core.specs.CoreForm.{Local, Parameters}
use Rattle.gen_forms.specs.Gen.{parameters, is_there as is_there_in_code}
use Rattle.def_eval.specs.Scopes.{is_there, shape_of, all_of}
use Rattle.def_machine.specs.State as machine
use Rattle.def_machine.specs.State.{Registers, no_registers, Frame, list_at, put}
use Rattle.def_machine.specs.Turn.{write_row, shape_of as shape_of_machine}
use Rattle.step_laws.proofs.Parameters.{set_row}

abbrev shape : ℕ → ℕ → Bool → ℕ → Shape
shape n o t k = record { required = n; optional = o; rest = t; post = k }

there_too : (xs : List Local) → is_there_in_code xs ≡ is_there xs
there_too [] = refl
there_too (x ∷ xs) = refl

-- the code has the shape of the source
pub shape_is_too : (p : Parameters) → shape_of_machine (parameters p) ≡ shape_of p
shape_is_too p =
    ap (λ (t : Bool). shape (length p.required) (length p.optional) t (length p.post)) (there_too p.rest)

-- As many values are bound as there are parameters, the rest in a new Array, where so many of the optional ones are given;
-- or there are too many or too few.
pub data Binds (p : Parameters) (st : Store) (args : List Value) (k : BindKind) : Type 0 where
  fit : (list : List Value) (given : ℕ) (after : Store) → length list ≡ length (all_of p) → given ≤ length p.optional
      → bind st (shape_of p) args k ≡ record { bound = Values list given; store = after } → Binds p st args k
  wrong : (n : ℕ) → bind st (shape_of p) args k ≡ record { bound = Wrong n; store = st } → Binds p st args k

enough_without : (n o k l : ℕ) → fits (shape n o false k) l ≡ true → n + k ≤ l
enough_without n o k l e = grind (arith, nat_tests)

enough_with : (n o k l : ℕ) → fits (shape n o true k) l ≡ true → n + k ≤ l
enough_with n o k l e = grind (arith, nat_tests)

few_filled : (n o k l : ℕ) (t : Bool) → filled (shape n o t k) l ≤ o
few_filled n o k l t = omega arith

values_long : (n o k : ℕ) (t : Bool) (us args : List Value) → n + k ≤ length args
    → length (values (shape n o t k) us args) ≡ n + o + length us + k
values_long n o k t us args le =
    let i : ℕ = filled (shape n o t k) (length args) in
    let first : List Value = take (n + i) args in
    let missing : List Value = replicate (o - i) Nil in
    let last : List Value = drop (length args - k) args in
    omega (
      arith,
      le,
      length-append ((first ++ missing) ++ us) last,
      length-append (first ++ missing) us,
      length-append first missing,
      length-take (n + i) args,
      length-replicate (o - i) Nil,
      length-drop (length args - k) args,
    )

record Fit (n o : ℕ) (rs : List Local) (k : ℕ) (st : Store) (args : List Value) : Type 0 where
  list : List Value
  after : Store
  long : length list ≡ n + o + length rs + k
  is : bind_fitting st (shape n o (is_there rs) k) args (is_there rs)
      ≡ record { bound = Values list (filled (shape n o (is_there rs) k) (length args)); store = after }

fit_by : (n o : ℕ) (rs : List Local) (k : ℕ) (st : Store) (args : List Value) → length rs ≤ 1
    → fits (shape n o (is_there rs) k) (length args) ≡ true → Fit n o rs k st args
fit_by n o [] k st args few e = record {
  list = values (shape n o false k) [] args;
  after = st;
  long = values_long n o k false [] args (enough_without n o k (length args) e);
  is = refl;
}
fit_by n o (x ∷ []) k st args few e = record {
  list = values (shape n o true k) (Obj (next_number st) ∷ []) args;
  after = with_object st (fresh (core class.Array) (kind.Array (remaining (shape n o true k) args)));
  long = values_long n o k true (Obj (next_number st) ∷ []) args (enough_with n o k (length args) e);
  is = refl;
}
fit_by n o (x ∷ y ∷ rs) k st args few e = absurd (omega (arith, few))

all_long : (p : Parameters)
    → length (all_of p) ≡ length p.required + length p.optional + length p.rest + length p.post
all_long p =
    omega (
      arith,
      length-append ((p.required ++ p.optional) ++ p.rest) p.post,
      length-append (p.required ++ p.optional) p.rest,
      length-append p.required p.optional,
    )

-- what is bound: a Proc takes as many as it wants
abbrev given_to : Parameters → Store → List Value → BindKind → List Value
given_to p st args k = arguments st.objects (shape_of p) k args

pub binds : (p : Parameters) → length p.rest ≤ 1 → (st : Store) (args : List Value) (k : BindKind) → Binds p st args k
unfolding bind
binds p one_rest st args k = at (fits (shape_of p) (length (given_to p st args k))) refl
  where
    at : (b : Bool) → fits (shape_of p) (length (given_to p st args k)) ≡ b → Binds p st args k
    at true e =
        let f = fit_by (length p.required) (length p.optional) p.rest (length p.post) st (given_to p st args k) one_rest e in
        fit f.list (filled (shape_of p) (length (given_to p st args k))) f.after (omega (arith, f.long, all_long p))
        (few_filled (length p.required) (length p.optional) (length p.post) (length (given_to p st args k)) (is_there p.rest))
        (ap (λ (b : Bool). if b then bind_fitting st (shape_of p) (given_to p st args k) (is_there p.rest)
        else record { bound = Wrong (length (given_to p st args k)); store = st }) e ∙ f.is)
    at false e =
        wrong (length (given_to p st args k))
        (ap (λ (b : Bool). if b then bind_fitting st (shape_of p) (given_to p st args k) (is_there p.rest)
        else record { bound = Wrong (length (given_to p st args k)); store = st }) e)

-- A row of values is written to the last list of registers.

set_last : {A : Type 0} (xs : List A) (x y : A) → set (xs ++ x ∷ []) (length xs) y ≡ xs ++ y ∷ []
set_last [] x y = refl
set_last (z ∷ xs) x y = ap (λ ys. z ∷ ys) (set_last xs x y)

put_last : (l : List Registers) (r : Registers) (i : ℕ) (v : Slot)
    → put (l ++ r ∷ []) (length l) i v ≡ l ++ (record r { slots = set r.slots i v }) ∷ []
unfolding put
put_last l r i v =
    set_last l r (record (list_at (l ++ r ∷ []) (length l)) { slots = set (list_at (l ++ r ∷ []) (length l)).slots i v })
    ∙ ap (λ (q : Registers). l ++ (record q { slots = set q.slots i v }) ∷ [])
    (get_or_push l r no_registers (length l) refl)

pub written_row : (k : machine.Memory) (l : List Registers) (r : Registers) (f : Frame) (a : ℕ) (vs : List Value)
    → f.list ≡ length l
    → write_row (record k { lists = l ++ r ∷ [] }) f a vs
    ≡ record k { lists = l ++ (record r { slots = set_row r.slots a vs }) ∷ [] }
written_row k l r f a [] e = refl
written_row k l r f a (v ∷ vs) e =
    ap (λ (n : ℕ). write_row (record k { lists = put (l ++ r ∷ []) n a (V v) }) f (a + 1) vs) e
    ∙ ap (λ (ls : List Registers). write_row (record k { lists = ls }) f (a + 1) vs) (put_last l r a (V v))
    ∙ written_row k l (record r { slots = set r.slots a (V v) }) f (a + 1) vs e
