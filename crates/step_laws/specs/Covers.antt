-- The forms whose code is followed, in register r of a body, from a spot of the code on: the bodies in the form are those
-- that the code makes from there on, from number j on.
use Rattle.std.specs.Prelude.{[], ◌≡◌, ℕ, ◌+◌, get_or, true, false, Option, Some}
use Rattle.rite_code.specs.declared.operation.Operation.TheVariants as op
use Rattle.ir_core.specs.CoreForm.{Name, CoreForm, Body, nil, truth, falsehood, self_ref, int, str, sym, local, own, exception, set_local, ivar, set_ivar, gvar, set_gvar, constant, top_constant, in_constant, set_constant, set_in_constant, array, hash, range, text, intern, seq, cond, and_form, or_form, while_form, call, yield_form, super_form, function, lambda, begin_form, return_form, break_form, next_form, retry, define, define_on, class_form, module_form, singleton_class, alias_form, undef_form, defined, item, rest_of, tail_of, absent, there, Forms, none, more, Items, no_items, plain, splat, Pairs, no_pairs, pair, Branches, no_branches, branch, Receiver, to, on_self, bare, Maybe, no_clauses, clause}
use Rattle.ir_counts.specs.Tables.{item_count}
use Rattle.gen_parts.specs.declared.emitter.Spot.{Spot}
use Rattle.gen_parts.specs.declared.emitter.Held.TheVariants as held
use Rattle.gen_parts.specs.Pieces.{past, behind, ◌⊕◌, does}
use Rattle.gen_forms.specs.declared.context.Loop.{Loop}
use Rattle.gen_forms.specs.Gen.{gen, gen_receiver, pass_in_registers, passing, registers_of, over, text_entry, operates, gen_scope, gen_parent, symbol}
use Rattle.def_eval.specs.Source.{span, parameters_of, span_maybe}
use Rattle.def_eval.specs.Scopes.{shape_of}
use Rattle.def_machine.specs.State.{body_at}
use Rattle.def_machine.specs.Turn.{fetch, shape_by}
use Rattle.eval_laws.specs.Kinds.{IsKind, of_class}
use Rattle.eval_laws.specs.Standing.{past_receiver, past_items, past_branches}
use Rattle.step_laws.specs.Site.{Site, within, Room, Reaches, Named}
use Rattle.step_laws.specs.Around.{Around}
use Rattle.step_laws.specs.Passed.{in_array, MayHand, Passed, past_arguments}
use Rattle.step_laws.specs.Far.{MayReturn}
use Rattle.step_laws.specs.Needs.{IsPooled, IsTexted, IsNamed, IsAsked, IsAskedOf}
use Rattle.step_laws.specs.Strict.{IsSome}

-- the body of a method is the child of its definition
pub record Defines (h : Site) (o : Option Loop) (r : ℕ) (s : Spot) (j : ℕ) (x : Name) (f : Body) : Type 0 where
  pub room : Room h r
  pub named : Named h x
  pub child : get_or (body_at h.program h.body).children (past s (does (op.TClass r))).child 0 ≡ j

-- where the instruction that defines a method on a receiver stands, whose body is the child
pub record DefinesAt (h : Site) (t : Spot) (j : ℕ) (x : Name) : Type 0 where
  pub named : Named h x
  pub child : get_or (body_at h.program h.body).children t.child 0 ≡ j

-- the body of a class or a module is the child that is run
pub record RunsBody (h : Site) (t : Spot) (j : ℕ) : Type 0 where
  pub child : get_or (body_at h.program h.body).children t.child 0 ≡ j
  pub kind : IsKind h.source j of_class

-- The body of a block or a lambda is the child that is made, and its code begins with its parameters.
pub record Makes (h : Site) (r : ℕ) (s : Spot) (j : ℕ) (f : Body) : Type 0 where
  pub room : Room h r
  pub child : get_or (body_at h.program h.body).children s.child 0 ≡ j
  pub shape : shape_by (fetch h.program j 0) ≡ shape_of (parameters_of f)
  -- it sees what the code around it sees
  pub sees : Around h.source j h.context.scopes

-- the spot behind the receiver of a call, and that behind its items
abbrev pub past_receiver_code : Site → Option Loop → ℕ → Spot → Receiver → Spot
past_receiver_code h o r s e = past s (gen_receiver (within h o) s r e)

abbrev pub past_items_code : Site → Option Loop → ℕ → Spot → Items → Spot
past_items_code h o r s is = past s (pass_in_registers (within h o) s r is)

-- that behind the instruction that makes the Array of the arguments
abbrev pub past_new : ℕ → Spot → Spot
past_new r s = past s (does (op.Array r 0))

-- where the code behind a form begins
abbrev pub past_form : Site → Option Loop → ℕ → Spot → CoreForm → Spot
past_form h o r s e = past s (gen (within h o) s r e)

-- and where that behind a branch begins, before whose body and behind which a jump stands
abbrev pub past_branch : Site → Option Loop → ℕ → Spot → CoreForm → Spot
past_branch h o r s e = behind (past (behind s) (gen (within h o) (behind s) r e))

-- and where that begins which is done if no test is true
abbrev pub past_choices : Site → Option Loop → ℕ → Spot → Branches → Spot
past_choices h o r s no_branches = s
past_choices h o r s (branch t b bs) = past_choices h o r (past_branch h o r (past_form h o r s t) b) bs

-- where the code behind a receiver begins whose singleton class gets a method
abbrev pub past_singleton : Site → Option Loop → ℕ → Spot → CoreForm → Spot
past_singleton h o r s e = past s (gen (within h o) s r e ⊕ does (op.SClass r))

-- that behind the scope of a class or a module, and behind what opens it
abbrev pub past_scope : Site → Option Loop → ℕ → Spot → Maybe → Spot
past_scope h o r s c = past s (gen_scope (within h o) s r c)

abbrev pub past_class : Site → Option Loop → ℕ → Spot → Maybe → Name → Maybe → Spot
past_class h o r s c x p =
    past s (gen_scope (within h o) s r c ⊕ gen_parent (within h o) (past_scope h o r s c) (r + 1) p
    ⊕ does (op.Class r (symbol h.context x)))

abbrev pub past_module : Site → Option Loop → ℕ → Spot → Maybe → Name → Spot
past_module h o r s c x = past s (gen_scope (within h o) s r c ⊕ does (op.Module r (symbol h.context x)))

-- where the code behind a key and its value begins
abbrev pub past_pair : Site → Option Loop → ℕ → Spot → CoreForm → CoreForm → Spot
past_pair h o r s a b =
    past s ((gen (within h o) s (r + 1) a ⊕ gen (within h o) (past_form h o (r + 1) s a) (r + 1 + 1) b)
    ⊕ does (op.HashAdd r 1))

-- the loop whose code begins at a spot, and where its test begins that is behind the code of its body
abbrev pub loop_of : ℕ → Spot → Loop
loop_of r s = record { value = r; out = (behind s).line; round = (behind (behind s)).line }

abbrev pub past_body : Site → ℕ → Spot → CoreForm → Spot
past_body h r s b =
    past (behind (behind s)) (over held.Jump (behind (behind s)) (λ v. gen (within h (Some (loop_of r s))) v r b))

abbrev mutual
  pub Covers : Site → Option Loop → ℕ → Spot → ℕ → CoreForm → Type 0
  Covers h o r s j nil = Room h r
  Covers h o r s j truth = Room h r
  Covers h o r s j falsehood = Room h r
  Covers h o r s j self_ref = Room h r
  Covers h o r s j (int z) = Room h r × IsPooled h z
  Covers h o r s j (str t) = Room h r × IsTexted h t
  Covers h o r s j (sym x) = Room h r × Named h x
  Covers h o r s j (local x) = Room h r × Reaches h x
  Covers h o r s j (own x) = ⊥
  Covers h o r s j exception = ⊥
  Covers h o r s j (set_local x e) = Covers h o r s j e × Reaches h x
  Covers h o r s j (ivar x) = Room h r × Named h x
  Covers h o r s j (set_ivar x e) = Room h r × Covers h o r s j e × Named h x
  Covers h o r s j (gvar x) = Room h r × Named h x
  Covers h o r s j (set_gvar x e) = Covers h o r s j e × Named h x
  Covers h o r s j (constant x) = Room h r × Named h x
  Covers h o r s j (top_constant x) = Room h r × Named h x
  Covers h o r s j (in_constant e x) = Room h r × Covers h o r s j e × Named h x
  Covers h o r s j (set_constant x e) = Room h r × Covers h o r s j e × Named h x
  Covers h o r s j (set_in_constant e x v) =
      Room h r × Covers h o r s j e × Covers h o (r + 1) (past_form h o r s e) (j + span e) v × Named h x
  Covers h o r s j (array is) = Room h r × CoversElements h o r (past s (does (op.Array r 0))) j is
  Covers h o r s j (hash ps) = Room h r × CoversPairs h o r (past s (does (op.Hash r 0))) j ps
  Covers h o r s j (range a b x) =
      Room h r × Covers h o r s j a × Covers h o (r + 1) (past_form h o r s a) (j + span a) b
  Covers h o r s j (text es) =
      Room h r × IsTexted h [] × CoversPieces h o r (past s (does (op.String r (text_entry h.context [])))) j es
  Covers h o r s j (intern e) = Room h r × Covers h o r s j e
  Covers h o r s j (seq es) = Room h r × CoversAll h o r s j es
  Covers h o r s j (cond bs e) =
      CoversBranches h o r s j bs × Covers h o r (past_choices h o r s bs) (past_branches j bs) e
  Covers h o r s j (and_form a b) = Covers h o r s j a × Covers h o r (behind (past_form h o r s a)) (j + span a) b
  Covers h o r s j (or_form a b) = Covers h o r s j a × Covers h o r (behind (past_form h o r s a)) (j + span a) b
  Covers h o r s j (while_form false t b) =
      Room h r × Covers h (Some (loop_of r s)) r (behind (behind s)) j t
      × Covers h (Some (loop_of r s)) r (behind (past_form h (Some (loop_of r s)) r (behind (behind s)) t)) (j + span t) b
  Covers h o r s j (while_form true t b) =
      Room h r × Covers h (Some (loop_of r s)) r (past_body h r s b) j t
      × Covers h (Some (loop_of r s)) r (behind (behind (behind s))) (j + span t) b
  Covers h o r s j (call (to e) x is absent) =
      Room h r × Covers h o r s j e
      × Passed (passing is) (Room h (r + 1))
      (CoversItems h o (r + 1) (past_receiver_code h o r s (to e)) (past_receiver j (to e)) is)
      (CoversElements h o (r + 1) (past_new (r + 1) (past_receiver_code h o r s (to e))) (past_receiver j (to e)) is)
      × IsNamed h x (operates absent (to e) x is r)
  Covers h o r s j (call (to e) x is (there b)) =
      Room h r × Covers h o r s j e
      × Passed (passing is) (Room h (r + 1))
      (CoversItems h o (r + 1) (past_receiver_code h o r s (to e)) (past_receiver j (to e)) is)
      (CoversElements h o (r + 1) (past_new (r + 1) (past_receiver_code h o r s (to e))) (past_receiver j (to e)) is)
      × Named h x
      × Covers h o (r + 1 + registers_of (passing is)) (past_arguments h o r (past_receiver_code h o r s (to e)) is)
      (past_items (past_receiver j (to e)) is) b
      × MayHand (in_array is) (there b)
  Covers h o r s j (call on_self x is absent) =
      Room h r
      × Passed (passing is) (Room h (r + 1))
      (CoversItems h o (r + 1) (past_receiver_code h o r s on_self) (past_receiver j on_self) is)
      (CoversElements h o (r + 1) (past_new (r + 1) (past_receiver_code h o r s on_self)) (past_receiver j on_self) is)
      × Named h x
  Covers h o r s j (call on_self x is (there b)) =
      Room h r
      × Passed (passing is) (Room h (r + 1))
      (CoversItems h o (r + 1) (past_receiver_code h o r s on_self) (past_receiver j on_self) is)
      (CoversElements h o (r + 1) (past_new (r + 1) (past_receiver_code h o r s on_self)) (past_receiver j on_self) is)
      × Named h x
      × Covers h o (r + 1 + registers_of (passing is)) (past_arguments h o r (past_receiver_code h o r s on_self) is)
      (past_items (past_receiver j on_self) is) b
      × MayHand (in_array is) (there b)
  Covers h o r s j (call bare x no_items absent) = Room h r × Named h x
  Covers h o r s j (call bare x no_items (there b)) = ⊥
  Covers h o r s j (call bare x (plain e is) m) = ⊥
  Covers h o r s j (call bare x (splat e is) m) = ⊥
  Covers h o r s j (yield_form is) =
      Room h r
      × Passed (passing is) (Room h (r + 1)) (CoversItems h o (r + 1) (past s (does (op.BlkPush r))) j is)
      (CoversElements h o (r + 1) (past_new (r + 1) (past s (does (op.BlkPush r)))) j is)
  Covers h o r s j (super_form is absent) =
      Room h r × (in_array is ≡ false) × CoversItems h o (r + 1) s j is × Room h (r + 1 + item_count is)
  Covers h o r s j (super_form is (there b)) =
      Room h r
      × Passed (passing is) (Room h (r + 1)) (CoversItems h o (r + 1) s j is)
      (CoversElements h o (r + 1) (past_new (r + 1) s) j is)
      × Covers h o (r + 1 + registers_of (passing is)) (past_arguments h o r s is) (past_items j is) b
      × MayHand (in_array is) (there b)
  Covers h o r s j (function f) = Makes h r s j f
  Covers h o r s j (lambda f) = Makes h r s j f
  Covers h o r s j (begin_form b no_clauses e absent) =
      Covers h o r s j b × CoversMaybe h o r (past_form h o r s b) (j + span b) e
  Covers h o r s j (begin_form b no_clauses e (there f)) = ⊥
  Covers h o r s j (begin_form b (clause es t d cs) e f) = ⊥
  Covers h o r s j (return_form e) = Covers h o r s j e × MayReturn h.context.kind_of
  Covers h o r s j (break_form e) = Covers h o r s j e
  Covers h o r s j (next_form e) = Covers h o r s j e
  Covers h o r s j retry = ⊥
  Covers h o r s j (define x f) = Defines h o r s j x f
  Covers h o r s j (define_on e x f) =
      Room h r × Covers h o r s j e × DefinesAt h (past_singleton h o r s e) (j + span e) x
  Covers h o r s j (class_form c x p f) =
      Room h r × Room h (r + 1) × CoversMaybe h o r s j c
      × CoversMaybe h o (r + 1) (past_scope h o r s c) (j + span_maybe c) p × Named h x
      × RunsBody h (past_class h o r s c x p) (j + span_maybe c + span_maybe p)
  Covers h o r s j (module_form c x f) =
      Room h r × CoversMaybe h o r s j c × Named h x × RunsBody h (past_module h o r s c x) (j + span_maybe c)
  Covers h o r s j (singleton_class e f) =
      Room h r × Covers h o r s j e × RunsBody h (past_singleton h o r s e) (j + span e)
  Covers h o r s j (alias_form x y) = Room h r × Named h x × Named h y
  Covers h o r s j (undef_form x) = Room h r × Named h x
  Covers h o r s j (defined k x absent) = Room h r × IsAsked h k x
  Covers h o r s j (defined k x (there e)) = Room h r × Covers h o r s j e × IsAskedOf h k x
  Covers h o r s j (item e k) = Room h r × Covers h o r s j e
  Covers h o r s j (rest_of e from post) = Room h r × Covers h o r s j e
  Covers h o r s j (tail_of e from count) = Room h r × Covers h o r s j e × IsSome count

  pub CoversMaybe : Site → Option Loop → ℕ → Spot → ℕ → Maybe → Type 0
  CoversMaybe h o r s j absent = Unit {0}
  CoversMaybe h o r s j (there e) = Covers h o r s j e

  pub CoversAll : Site → Option Loop → ℕ → Spot → ℕ → Forms → Type 0
  CoversAll h o r s j none = Unit {0}
  CoversAll h o r s j (more e es) = Covers h o r s j e × CoversAll h o r (past_form h o r s e) (j + span e) es

  -- one a register, from r on
  pub CoversItems : Site → Option Loop → ℕ → Spot → ℕ → Items → Type 0
  CoversItems h o r s j no_items = Unit {0}
  CoversItems h o r s j (plain e is) =
      Covers h o r s j e × CoversItems h o (r + 1) (past_form h o r s e) (j + span e) is
  CoversItems h o r s j (splat e is) = ⊥

  -- each behind register r
  pub CoversElements : Site → Option Loop → ℕ → Spot → ℕ → Items → Type 0
  CoversElements h o r s j no_items = Unit {0}
  CoversElements h o r s j (plain e is) =
      Covers h o (r + 1) s j e
      × CoversElements h o r (past s (gen (within h o) s (r + 1) e ⊕ does (op.AryPush r 1))) (j + span e) is
  CoversElements h o r s j (splat e is) =
      Covers h o (r + 1) s j e
      × CoversElements h o r (past s (gen (within h o) s (r + 1) e ⊕ does (op.AryCat r))) (j + span e) is

  pub CoversPieces : Site → Option Loop → ℕ → Spot → ℕ → Forms → Type 0
  CoversPieces h o r s j none = Unit {0}
  CoversPieces h o r s j (more e es) =
      Covers h o (r + 1) s j e
      × CoversPieces h o r (past s (gen (within h o) s (r + 1) e ⊕ does (op.StrCat r))) (j + span e) es

  -- a key and its value behind the register of the Hash
  pub CoversPairs : Site → Option Loop → ℕ → Spot → ℕ → Pairs → Type 0
  CoversPairs h o r s j no_pairs = Unit {0}
  CoversPairs h o r s j (pair a b ps) =
      Covers h o (r + 1) s j a × Covers h o (r + 1 + 1) (past_form h o (r + 1) s a) (j + span a) b
      × CoversPairs h o r (past_pair h o r s a b) (j + span a + span b) ps

  pub CoversBranches : Site → Option Loop → ℕ → Spot → ℕ → Branches → Type 0
  CoversBranches h o r s j no_branches = Unit {0}
  CoversBranches h o r s j (branch t b bs) =
      Covers h o r s j t × Covers h o r (behind (past_form h o r s t)) (j + span t) b
      × CoversBranches h o r (past_branch h o r (past_form h o r s t) b) (j + span t + span b) bs
