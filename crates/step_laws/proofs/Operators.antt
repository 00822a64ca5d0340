-- The instructions of calls: operators are calls by their names.
use Rattle.std.proofs.Common.{◌≡◌, ℕ, ◌+◌, List, [], ◌∷◌, refl, sym, ap, ◌∙◌, arith, length, Bool, true, false}
use Rattle.std.specs.Prelude.{if◌then◌else◌, Option, Some, None, unwrap_or, bytes_eq, codes, nat_eq, nat_lt}
use Rattle.std.proofs.lemmas.Slice.Eq.{bytes_eq-Decides}
use Rattle.std.proofs.lemmas.Bool.Decides.{nat_tests}
use Rattle.rb_value.specs.declared.value.Value.{Value}
use Rattle.rb_value.specs.declared.value.SymId.{SymId}
use Rattle.rb_value.specs.Slot.{read}
use Rattle.def_core.specs.Changes.{intern}
use Rattle.rite_code.specs.Code.{Program}
use Rattle.rite_code.specs.declared.operation.Operation.{Operation}
use Rattle.rite_code.specs.declared.operation.Operation.TheVariants as op
use Rattle.ir_core.specs.CoreForm.{Name}
use Rattle.gen_forms.specs.Gen.{comparison, operator, symbol as entry_of}
use Rattle.def_calls.specs.Values.{elements_or_itself}
use Rattle.def_calls.specs.Calls.{by_name, by_bare_name}
use Rattle.def_machine.specs.State.{Frame, Level, Memory}
use Rattle.def_machine.specs.Turn.{act, operate, call, reg, row, arguments, self_first, symbol}
use Rattle.step_laws.specs.Site.{Site, Named, number}
use Rattle.step_laws.specs.Calm.{IsSteady}
use Rattle.step_laws.proofs.Placed.{Rest, frame_at}
use Rattle.step_laws.specs.Behind.{Holds, CallBy, operates, sends, sends_self}
use Rattle.step_laws.specs.Relation.{Ground}

module _ (p : Program) (x : Name) (r next : ℕ) (f : Frame) (ls : List Level) (m : Memory) (o : Operation) where
  abbrev IsOperate : Type 0
  IsOperate = act p o next f ls m ≡ operate p x r next f ls m

  -- an operator by its name
  pick : (b : Bool) (name : Name) (q : Operation) (others : Option Operation) → bytes_eq x name ≡ b
      → (if b then Some q else others) ≡ Some o → act p q next f ls m ≡ operate p name r next f ls m
      → (others ≡ Some o → IsOperate) → IsOperate
  pick true name q others e is acts further =
      let same : x ≡ name = (bytes_eq-Decides x name).0 e in
      let found : q ≡ o = ap (λ (i : Option Operation). unwrap_or i q) is in
      ap (λ (i : Operation). act p i next f ls m) (sym found)
      ∙ acts
      ∙ ap (λ (y : Name). operate p y r next f ls m) (sym same)
  pick false name q others e is acts further = further is

  compared : comparison x r ≡ Some o → IsOperate
  compared e =
      pick (bytes_eq x (codes "==")) (codes "==") (op.Eq r) _ refl e refl (λ e1.
      pick (bytes_eq x (codes "<")) (codes "<") (op.Lt r) _ refl e1 refl (λ e2.
      pick (bytes_eq x (codes "<=")) (codes "<=") (op.Le r) _ refl e2 refl (λ e3.
      pick (bytes_eq x (codes ">")) (codes ">") (op.Gt r) _ refl e3 refl (λ e4.
      pick (bytes_eq x (codes ">=")) (codes ">=") (op.Ge r) _ refl e4 refl (λ e5. absurd (cc e5))))))

  pub operated : operator x r ≡ Some o → IsOperate
  operated e =
      pick (bytes_eq x (codes "+")) (codes "+") (op.Add r) _ refl e refl (λ e1.
      pick (bytes_eq x (codes "-")) (codes "-") (op.Sub r) _ refl e1 refl (λ e2.
      pick (bytes_eq x (codes "*")) (codes "*") (op.Mul r) _ refl e2 refl (λ e3.
      pick (bytes_eq x (codes "/")) (codes "/") (op.Div r) _ refl e3 refl (λ e4. compared e4))))

-- A call has no more than 253 items in registers.

pub few : (h : Site) (r : ℕ) (x : Name) (count : ℕ) (own : Bool) (o : Operation) → CallBy h r x count own o
    → nat_lt 253 count ≡ false
few h r x count own o (operates e one not_own is_there) = ap (nat_lt 253) one
few h r x count own o (sends e n not_own named) = n
few h r x count own o (sends_self e n is_own named) = n

pub not_all : (n : ℕ) → nat_lt 253 n ≡ false → nat_eq n 255 ≡ false
not_all n h = grind (arith, nat_tests)

not_bare : (n : ℕ) → nat_lt 253 n ≡ false → nat_eq n 254 ≡ false
not_bare n h = grind (arith, nat_tests)

-- values that stand in a row
pub row_is : (f : Frame) (m : Memory) (r : ℕ) (vs : List Value) → Holds m.lists f.list r vs → row f m r (length vs) ≡ vs
row_is f m r [] s = refl
row_is f m r (v ∷ vs) s =
    ap (λ (u : Value). u ∷ row f m (r + 1) (length vs)) (ap read s.0)
    ∙ ap (λ (us : List Value). v ∷ us) (row_is f m (r + 1) vs s.1)

pub arguments_are : (f : Frame) (m : Memory) (r count : ℕ) (vs : List Value) → Holds m.lists f.list (r + 1) vs
    → count ≡ length vs → nat_lt 253 count ≡ false → arguments f m r count ≡ vs
arguments_are f m r count vs s e few =
    ap (λ (b : Bool). if b then elements_or_itself m.world (reg f m (r + 1)) else row f m (r + 1) count)
    (not_all count few)
    ∙ ap (row f m (r + 1)) e ∙ row_is f m (r + 1) vs s

-- the symbol of a name of the table
pub symbol_is : (h : Site) (x : Rest) (n : ℕ) (k : Memory) (y : Name) → IsSteady h.source k.world → Named h y
    → symbol h.program (frame_at h x n) k (entry_of h.context y) ≡ number h.source y
symbol_is h x n k y steady named =
    ap (λ (z : Name). (intern k.world.store z).symbol) named.listed ∙ steady.names y named.there

-- what calls a value in a register
pub calls_value : (g : Ground) (h : Site) (x : Rest) (n r next : ℕ) (k : Memory) (y : Name) (count : ℕ) (o : Operation)
    → IsSteady h.source k.world → CallBy h r y count false o
    → act h.program o next (frame_at h x n) g.below k
    ≡ call h.program (by_name (number h.source y)) r count None next (frame_at h x n) g.below k
calls_value g h x n r next k y count o steady (operates e one not_own is_there) =
    operated h.program y r next (frame_at h x n) g.below k o e
    ∙ ap (λ (s : SymId). call h.program (by_name s) r 1 None next (frame_at h x n) g.below k) (steady.names y is_there)
    ∙ ap (λ (i : ℕ). call h.program (by_name (number h.source y)) r i None next (frame_at h x n) g.below k) (sym one)
calls_value g h x n r next k y count o steady (sends e c not_own named) =
    ap (λ (i : Operation). act h.program i next (frame_at h x n) g.below k) e
    ∙ ap (λ (s : SymId). call h.program (by_name s) r count None next (frame_at h x n) g.below k)
    (symbol_is h x n k y steady named)
calls_value g h x n r next k y count o steady (sends_self e c is_own named) = absurd (cc is_own)

-- what calls self
pub calls_self : (g : Ground) (h : Site) (x : Rest) (n r next : ℕ) (k : Memory) (y : Name) (count : ℕ) (o : Operation)
    → IsSteady h.source k.world → CallBy h r y count true o
    → act h.program o next (frame_at h x n) g.below k
    ≡ call h.program (by_name (number h.source y)) r count None next (frame_at h x n) g.below
    (self_first (frame_at h x n) k r)
calls_self g h x n r next k y count o steady (operates e one not_own is_there) = absurd (cc not_own)
calls_self g h x n r next k y count o steady (sends e c not_own named) = absurd (cc not_own)
calls_self g h x n r next k y count o steady (sends_self e c is_own named) =
    let f = frame_at h x n in
    let k' = self_first f k r in
    ap (λ (i : Operation). act h.program i next f g.below k) e
    ∙ ap (λ (b : Bool). call h.program
    (if b then by_bare_name (symbol h.program f k (entry_of h.context y))
    else by_name (symbol h.program f k (entry_of h.context y)))
    r (if b then 0 else count) None next f g.below k') (not_bare count c)
    ∙ ap (λ (s : SymId). call h.program (by_name s) r count None next f g.below k') (symbol_is h x n k y steady named)
