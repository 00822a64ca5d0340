-- What the counts of a body say of each form in it and of the bodies within; and what a form takes of them, with its
-- parts: bytes of code, and bodies.
use Rattle.std.specs.Prelude.{◌≡◌, ◌≤◌, ℕ, ◌+◌, ℤ, List, true, Option, Some, None}
use Rattle.text_set.specs.Sets.{is_among}
use Rattle.integer_set.specs.Sets as integers
use Rattle.ir_core.specs.CoreForm as form
use Rattle.ir_core.specs.CoreForm.{CoreForm, Body, Maybe, Forms, Items, Pairs, Branches, Clauses, Receiver}
use Rattle.ir_counts.specs.declared.counts.Counts.{Counts}
use Rattle.ir_counts.specs.declared.tally.Tally.{Tally}
use Rattle.ir_counts.specs.Counts.{counts, tally}
use Rattle.ir_counts.specs.Tables.{kind_of, hidden_of, name_of, old_name_of, text_of, integer_of, code_of}

abbrev pub Listed : List (List ℕ) → Option (List ℕ) → Type 0
Listed xs None = Unit
Listed xs (Some x) = is_among x xs ≡ true

abbrev pub Numbered : List ℤ → Option ℤ → Type 0
Numbered zs None = Unit
Numbered zs (Some z) = integers.is_among z zs ≡ true

-- the tally has what the form adds
pub record Adds (t : Tally) (f : CoreForm) : Type 0 where
  pub kind : kind_of f ≤ t.kind
  pub hidden : hidden_of f ≤ t.hidden
  pub name : Listed t.symbols (name_of f)
  pub old_name : Listed t.symbols (old_name_of f)
  pub text : Listed t.texts (text_of f)
  pub integer : Numbered t.integers (integer_of f)

-- no count of a body is past its limit
pub record Limited (c : Counts) : Type 0 where
  pub parameters : c.parameters ≤ 127
  pub registers : c.registers ≤ 65535
  pub pool : c.pool ≤ 65535
  pub symbols : c.symbols ≤ 65535
  pub children : c.children ≤ 65535
  pub code : c.code ≤ 4194303
  pub bytes : c.bytes ≤ 4294967295

-- The tally has what a form and its parts add; the bodies within have tallies of their own, and are within the limits.
abbrev mutual
  pub Noted : Tally → CoreForm → Type 0
  Noted t form.nil = Adds t form.nil
  Noted t form.truth = Adds t form.truth
  Noted t form.falsehood = Adds t form.falsehood
  Noted t form.self_ref = Adds t form.self_ref
  Noted t (form.int x) = Adds t (form.int x)
  Noted t (form.str x) = Adds t (form.str x)
  Noted t (form.sym x) = Adds t (form.sym x)
  Noted t (form.local x) = Adds t (form.local x)
  Noted t (form.own x) = Adds t (form.own x)
  Noted t form.exception = Adds t form.exception
  Noted t (form.set_local x e) = Adds t (form.set_local x e) × Noted t e
  Noted t (form.ivar x) = Adds t (form.ivar x)
  Noted t (form.set_ivar x e) = Adds t (form.set_ivar x e) × Noted t e
  Noted t (form.gvar x) = Adds t (form.gvar x)
  Noted t (form.set_gvar x e) = Adds t (form.set_gvar x e) × Noted t e
  Noted t (form.constant x) = Adds t (form.constant x)
  Noted t (form.top_constant x) = Adds t (form.top_constant x)
  Noted t (form.in_constant e x) = Adds t (form.in_constant e x) × Noted t e
  Noted t (form.set_constant x e) = Adds t (form.set_constant x e) × Noted t e
  Noted t (form.set_in_constant e x f) = Adds t (form.set_in_constant e x f) × Noted t e × Noted t f
  Noted t (form.array is) = Adds t (form.array is) × Noted_items t is
  Noted t (form.hash ps) = Adds t (form.hash ps) × Noted_pairs t ps
  Noted t (form.range e f x) = Adds t (form.range e f x) × Noted t e × Noted t f
  Noted t (form.text es) = Adds t (form.text es) × Noted_all t es
  Noted t (form.intern e) = Adds t (form.intern e) × Noted t e
  Noted t (form.seq es) = Adds t (form.seq es) × Noted_all t es
  Noted t (form.cond bs e) = Adds t (form.cond bs e) × Noted_branches t bs × Noted t e
  Noted t (form.and_form e f) = Adds t (form.and_form e f) × Noted t e × Noted t f
  Noted t (form.or_form e f) = Adds t (form.or_form e f) × Noted t e × Noted t f
  Noted t (form.while_form x e f) = Adds t (form.while_form x e f) × Noted t e × Noted t f
  Noted t (form.call r x is o) = Adds t (form.call r x is o) × Noted_receiver t r × Noted_items t is × Noted_maybe t o
  Noted t (form.yield_form is) = Adds t (form.yield_form is) × Noted_items t is
  Noted t (form.super_form is o) = Adds t (form.super_form is o) × Noted_items t is × Noted_maybe t o
  Noted t (form.function b) = Adds t (form.function b) × Fits b
  Noted t (form.lambda b) = Adds t (form.lambda b) × Fits b
  Noted t (form.begin_form e cs o p) = Adds t (form.begin_form e cs o p) × Noted t e × Noted_clauses t cs
      × Noted_maybe t o × Noted_maybe t p
  Noted t (form.return_form e) = Adds t (form.return_form e) × Noted t e
  Noted t (form.break_form e) = Adds t (form.break_form e) × Noted t e
  Noted t (form.next_form e) = Adds t (form.next_form e) × Noted t e
  Noted t form.retry = Adds t form.retry
  Noted t (form.define x b) = Adds t (form.define x b) × Fits b
  Noted t (form.define_on e x b) = Adds t (form.define_on e x b) × Noted t e × Fits b
  Noted t (form.class_form o x p b) = Adds t (form.class_form o x p b) × Noted_maybe t o × Noted_maybe t p × Fits b
  Noted t (form.module_form o x b) = Adds t (form.module_form o x b) × Noted_maybe t o × Fits b
  Noted t (form.singleton_class e b) = Adds t (form.singleton_class e b) × Noted t e × Fits b
  Noted t (form.alias_form x y) = Adds t (form.alias_form x y)
  Noted t (form.undef_form x) = Adds t (form.undef_form x)
  Noted t (form.defined x y o) = Adds t (form.defined x y o) × Noted_maybe t o
  Noted t (form.item e x) = Adds t (form.item e x) × Noted t e
  Noted t (form.rest_of e x y) = Adds t (form.rest_of e x y) × Noted t e
  Noted t (form.tail_of e x y) = Adds t (form.tail_of e x y) × Noted t e

  pub Noted_maybe : Tally → Maybe → Type 0
  Noted_maybe t form.absent = Unit
  Noted_maybe t (form.there e) = Noted t e

  pub Noted_all : Tally → Forms → Type 0
  Noted_all t form.none = Unit
  Noted_all t (form.more e es) = Noted t e × Noted_all t es

  pub Noted_items : Tally → Items → Type 0
  Noted_items t form.no_items = Unit
  Noted_items t (form.plain e is) = Noted t e × Noted_items t is
  Noted_items t (form.splat e is) = Noted t e × Noted_items t is

  pub Noted_pairs : Tally → Pairs → Type 0
  Noted_pairs t form.no_pairs = Unit
  Noted_pairs t (form.pair e f ps) = Noted t e × Noted t f × Noted_pairs t ps

  pub Noted_branches : Tally → Branches → Type 0
  Noted_branches t form.no_branches = Unit
  Noted_branches t (form.branch e f bs) = Noted t e × Noted t f × Noted_branches t bs

  pub Noted_clauses : Tally → Clauses → Type 0
  Noted_clauses t form.no_clauses = Unit
  Noted_clauses t (form.clause es o e cs) = Noted_all t es × Noted_maybe t o × Noted t e × Noted_clauses t cs

  pub Noted_receiver : Tally → Receiver → Type 0
  Noted_receiver t (form.to e) = Noted t e
  Noted_receiver t form.on_self = Unit
  Noted_receiver t form.bare = Unit

  pub Fits : Body → Type 0
  Fits (form.body p ls f) = Limited (counts (form.body p ls f)) × Noted (tally (form.body p ls f)) f

-- the bytes of code that a form takes with its parts, without the bodies within
abbrev mutual
  pub cost : CoreForm → ℕ
  cost form.nil = code_of form.nil
  cost form.truth = code_of form.truth
  cost form.falsehood = code_of form.falsehood
  cost form.self_ref = code_of form.self_ref
  cost (form.int x) = code_of (form.int x)
  cost (form.str x) = code_of (form.str x)
  cost (form.sym x) = code_of (form.sym x)
  cost (form.local x) = code_of (form.local x)
  cost (form.own x) = code_of (form.own x)
  cost form.exception = code_of form.exception
  cost (form.set_local x e) = code_of (form.set_local x e) + cost e
  cost (form.ivar x) = code_of (form.ivar x)
  cost (form.set_ivar x e) = code_of (form.set_ivar x e) + cost e
  cost (form.gvar x) = code_of (form.gvar x)
  cost (form.set_gvar x e) = code_of (form.set_gvar x e) + cost e
  cost (form.constant x) = code_of (form.constant x)
  cost (form.top_constant x) = code_of (form.top_constant x)
  cost (form.in_constant e x) = code_of (form.in_constant e x) + cost e
  cost (form.set_constant x e) = code_of (form.set_constant x e) + cost e
  cost (form.set_in_constant e x f) = code_of (form.set_in_constant e x f) + cost e + cost f
  cost (form.array is) = code_of (form.array is) + cost_items is
  cost (form.hash ps) = code_of (form.hash ps) + cost_pairs ps
  cost (form.range e f x) = code_of (form.range e f x) + cost e + cost f
  cost (form.text es) = code_of (form.text es) + cost_all es
  cost (form.intern e) = code_of (form.intern e) + cost e
  cost (form.seq es) = code_of (form.seq es) + cost_all es
  cost (form.cond bs e) = code_of (form.cond bs e) + cost_branches bs + cost e
  cost (form.and_form e f) = code_of (form.and_form e f) + cost e + cost f
  cost (form.or_form e f) = code_of (form.or_form e f) + cost e + cost f
  cost (form.while_form x e f) = code_of (form.while_form x e f) + cost e + cost f
  cost (form.call r x is o) = code_of (form.call r x is o) + cost_receiver r + cost_items is + cost_maybe o
  cost (form.yield_form is) = code_of (form.yield_form is) + cost_items is
  cost (form.super_form is o) = code_of (form.super_form is o) + cost_items is + cost_maybe o
  cost (form.function b) = code_of (form.function b)
  cost (form.lambda b) = code_of (form.lambda b)
  cost (form.begin_form e cs o p) = code_of (form.begin_form e cs o p) + cost e + cost_clauses cs + cost_maybe
      o + cost_maybe p
  cost (form.return_form e) = code_of (form.return_form e) + cost e
  cost (form.break_form e) = code_of (form.break_form e) + cost e
  cost (form.next_form e) = code_of (form.next_form e) + cost e
  cost form.retry = code_of form.retry
  cost (form.define x b) = code_of (form.define x b)
  cost (form.define_on e x b) = code_of (form.define_on e x b) + cost e
  cost (form.class_form o x p b) = code_of (form.class_form o x p b) + cost_maybe o + cost_maybe p
  cost (form.module_form o x b) = code_of (form.module_form o x b) + cost_maybe o
  cost (form.singleton_class e b) = code_of (form.singleton_class e b) + cost e
  cost (form.alias_form x y) = code_of (form.alias_form x y)
  cost (form.undef_form x) = code_of (form.undef_form x)
  cost (form.defined x y o) = code_of (form.defined x y o) + cost_maybe o
  cost (form.item e x) = code_of (form.item e x) + cost e
  cost (form.rest_of e x y) = code_of (form.rest_of e x y) + cost e
  cost (form.tail_of e x y) = code_of (form.tail_of e x y) + cost e

  pub cost_maybe : Maybe → ℕ
  cost_maybe form.absent = 0
  cost_maybe (form.there e) = cost e

  pub cost_all : Forms → ℕ
  cost_all form.none = 0
  cost_all (form.more e es) = cost e + cost_all es

  pub cost_items : Items → ℕ
  cost_items form.no_items = 0
  cost_items (form.plain e is) = cost e + cost_items is
  cost_items (form.splat e is) = cost e + cost_items is

  pub cost_pairs : Pairs → ℕ
  cost_pairs form.no_pairs = 0
  cost_pairs (form.pair e f ps) = cost e + cost f + cost_pairs ps

  pub cost_branches : Branches → ℕ
  cost_branches form.no_branches = 0
  cost_branches (form.branch e f bs) = cost e + cost f + cost_branches bs

  pub cost_clauses : Clauses → ℕ
  cost_clauses form.no_clauses = 0
  cost_clauses (form.clause es o e cs) = cost_all es + cost_maybe o + cost e + cost_clauses cs

  pub cost_receiver : Receiver → ℕ
  cost_receiver (form.to e) = cost e
  cost_receiver form.on_self = 0
  cost_receiver form.bare = 0

-- how many bodies begin in a form
abbrev mutual
  pub many : CoreForm → ℕ
  many form.nil = 0
  many form.truth = 0
  many form.falsehood = 0
  many form.self_ref = 0
  many (form.int x) = 0
  many (form.str x) = 0
  many (form.sym x) = 0
  many (form.local x) = 0
  many (form.own x) = 0
  many form.exception = 0
  many (form.set_local x e) = many e
  many (form.ivar x) = 0
  many (form.set_ivar x e) = many e
  many (form.gvar x) = 0
  many (form.set_gvar x e) = many e
  many (form.constant x) = 0
  many (form.top_constant x) = 0
  many (form.in_constant e x) = many e
  many (form.set_constant x e) = many e
  many (form.set_in_constant e x f) = many e + many f
  many (form.array is) = many_items is
  many (form.hash ps) = many_pairs ps
  many (form.range e f x) = many e + many f
  many (form.text es) = many_all es
  many (form.intern e) = many e
  many (form.seq es) = many_all es
  many (form.cond bs e) = many_branches bs + many e
  many (form.and_form e f) = many e + many f
  many (form.or_form e f) = many e + many f
  many (form.while_form x e f) = many e + many f
  many (form.call r x is o) = many_receiver r + many_items is + many_maybe o
  many (form.yield_form is) = many_items is
  many (form.super_form is o) = many_items is + many_maybe o
  many (form.function b) = many_body b
  many (form.lambda b) = many_body b
  many (form.begin_form e cs o p) = many e + many_clauses cs + many_maybe o + many_maybe p
  many (form.return_form e) = many e
  many (form.break_form e) = many e
  many (form.next_form e) = many e
  many form.retry = 0
  many (form.define x b) = many_body b
  many (form.define_on e x b) = many e + many_body b
  many (form.class_form o x p b) = many_maybe o + many_maybe p + many_body b
  many (form.module_form o x b) = many_maybe o + many_body b
  many (form.singleton_class e b) = many e + many_body b
  many (form.alias_form x y) = 0
  many (form.undef_form x) = 0
  many (form.defined x y o) = many_maybe o
  many (form.item e x) = many e
  many (form.rest_of e x y) = many e
  many (form.tail_of e x y) = many e

  pub many_maybe : Maybe → ℕ
  many_maybe form.absent = 0
  many_maybe (form.there e) = many e

  pub many_all : Forms → ℕ
  many_all form.none = 0
  many_all (form.more e es) = many e + many_all es

  pub many_items : Items → ℕ
  many_items form.no_items = 0
  many_items (form.plain e is) = many e + many_items is
  many_items (form.splat e is) = many e + many_items is

  pub many_pairs : Pairs → ℕ
  many_pairs form.no_pairs = 0
  many_pairs (form.pair e f ps) = many e + many f + many_pairs ps

  pub many_branches : Branches → ℕ
  many_branches form.no_branches = 0
  many_branches (form.branch e f bs) = many e + many f + many_branches bs

  pub many_clauses : Clauses → ℕ
  many_clauses form.no_clauses = 0
  many_clauses (form.clause es o e cs) = many_all es + many_maybe o + many e + many_clauses cs

  pub many_receiver : Receiver → ℕ
  many_receiver (form.to e) = many e
  many_receiver form.on_self = 0
  many_receiver form.bare = 0

  pub many_body : Body → ℕ
  many_body (form.body p ls f) = 1 + many f
