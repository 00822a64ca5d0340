-- The tables, registers and locals that plain forms of a body within the limits use are there.
use Rattle.std.proofs.Common.{◌≡◌, ◌≤◌, ◌<◌, ℕ, zero, suc, ◌+◌, ℤ, pos, negsuc, List, [], ◌∷◌, ◌++◌, length, map, get_or, arith, refl, ap, ◌∙◌, subst, Bool, true, false}
use Rattle.std.specs.Prelude.{codes, bytes_eq, position, slice_get, if◌then◌else◌, Option, Some, None}
use Rattle.std.specs.Ordering.{int_eq}
use Rattle.rite_code.specs.declared.code.PoolItem.{PoolItem}
use Rattle.rite_code.specs.declared.code.PoolItem.TheVariants as pool
use Rattle.rite_code.specs.declared.operation.Operation.{Operation}
use Rattle.text_set.specs.Sets.{is_among}
use Rattle.rb_syntax.specs.declared.core_form.DefinedKind.{DefinedKind}
use Rattle.rb_syntax.specs.declared.core_form.DefinedKind.TheVariants as asks
use Rattle.ir_core.specs.CoreForm as form
use Rattle.ir_core.specs.CoreForm.{Name, Local, Maybe}
use Rattle.ir_core.specs.Program.{is_bound, is_known}
use Rattle.ir_counts.specs.declared.tally.Tally.{Tally}
use Rattle.ir_counts.specs.Tables.{hidden_by, is_wide}
use Rattle.scope_resolver.specs.declared.place.Place.{Place}
use Rattle.scope_resolver.specs.Layout.{Slots, Scopes, innermost_count, place_of}
use Rattle.gen_forms.specs.Gen.{place_or, is_within, integer_entry, text_entry, symbol}
use Rattle.code_laws.specs.Bound.{IsSeen, AreHeld}
use Rattle.code_laws.proofs.Binding.{place_by, place_is}
use Rattle.code_laws.proofs.Shares.{Numbered, Adds}
use Rattle.def_machine.specs.State.{body_at}
use Rattle.step_laws.specs.Site.{Site, Room, register, Reaches, of_the_body, of_one_around, IsThere, Named}
use Rattle.step_laws.specs.Needs.{IsNamed, IsTexted, IsAsked, IsAskedOf}
use Rattle.step_laws.specs.Plain.{IsLookedIn}
use Rattle.step_laws.proofs.Listing.{name_there, integer_there, text_there, wide_is}
use Rattle.step_laws.specs.Around.{first_slots}
use Rattle.step_laws.proofs.Apart.{own_low}

-- What a body has: its slots, of which some locals are known, those around it, and its tally.
pub record Has (h : Site) (ss : Slots) (ls : List Local) (t : Tally) (size : ℕ) : Type 0 where
  pub around : Scopes
  pub scopes : h.context.scopes ≡ ss ∷ around
  pub held : AreHeld h.context.scopes ls
  pub symbols : h.context.symbols ≡ t.symbols
  pub integers : h.context.integers ≡ t.integers
  pub texts : h.context.texts ≡ t.texts
  pub own_symbols : (body_at h.program h.body).symbols ≡ t.symbols
  pub own_pool : (body_at h.program h.body).pool ≡ map pool.Int t.integers ++ map pool.Text t.texts
  pub registers : (body_at h.program h.body).registers ≡ size
  pub first : 1 + length ss + t.hidden ≤ h.first
  pub there : (x : Name) → is_among x t.symbols ≡ true → IsThere h.source x

module _ (h : Site) (ss : Slots) (ls : List Local) (t : Tally) (registers : ℕ) (has : Has h ss ls t registers) where
  pub room : (r : ℕ) → h.first ≤ r → r < registers → Room h r
  room r low high = record { within = omega (arith, high, has.registers); above = low }

  -- a local that is bound is one of the body or of one around
  bound_at : (x : Local) → IsSeen x → (levels place : ℕ) → place_of h.context.scopes x ≡ place_by levels place
      → Reaches h x
  bound_at x seen zero place is =
      let level = ap (λ (p : Place). p.levels) is in
      let at : register h x ≡ place + 1 = ap (λ (p : Place). p.register) is in
      let high = own_low h.context.scopes x seen level (omega (arith, at)) in
      let long = ap (λ (z : Scopes). length (first_slots z)) has.scopes in
      of_the_body (record {
        level = level;
        behind_self = omega (arith, at);
        low = omega (arith, high, long, has.first);
      })
  bound_at x seen (suc d) place is =
      let at : register h x ≡ place + 1 = ap (λ (p : Place). p.register) is in
      of_one_around d (ap (λ (p : Place). p.levels) is) (omega (arith, at))

  seen_reaches : (x : Local) → IsSeen x → is_bound x ls ≡ true → Reaches h x
  seen_reaches x seen e =
      let b = has.held x seen e in
      bound_at x seen b.levels b.place (place_is h.context.scopes x b.levels b.place seen b.bound)

  pub reaches : (x : Local) → is_known x ls ≡ true → hidden_by x ≤ t.hidden → Reaches h x
  reaches (form.named x) e few = seen_reaches (form.named x) tt e
  reaches (form.pattern i) e few = seen_reaches (form.pattern i) tt e
  reaches form.rest e few = seen_reaches form.rest tt e
  reaches (form.hidden d) e few =
      let at : register h (form.hidden d) ≡ 1 + length ss + d =
      ap (λ (c : Scopes). 1 + innermost_count c + d) has.scopes in
      of_the_body (record {
        level = refl;
        behind_self = omega arith;
        low = omega (arith, at, few, has.first);
      })

  pub named : (x : Name) → is_among x t.symbols ≡ true → Named h x
  named x e = record {
    there = has.there x e;
    listed = ap (λ (xs : List Name). get_or xs (symbol h.context x) []) has.own_symbols
        ∙ ap (λ (xs : List Name). get_or t.symbols (place_or (position (bytes_eq x) xs) (length xs)) []) has.symbols
        ∙ name_there x t.symbols e;
  }

  pub pooled : (z : ℤ) → Numbered t.integers (if is_wide z then Some z else None)
      → is_within (negsuc 2147483647) z (pos 2147483647) ≡ false
      → slice_get (body_at h.program h.body).pool (integer_entry h.context z) ≡ Some (pool.Int z)
  pooled z n e =
      let there = subst (λ (b : Bool). Numbered t.integers (if b then Some z else None)) (wide_is z e) n in
      ap (λ (i : List PoolItem). slice_get i (integer_entry h.context z)) has.own_pool
      ∙ ap (λ (zs : List ℤ). slice_get (map pool.Int t.integers ++ map pool.Text t.texts)
      (place_or (position (int_eq z) zs) (length zs))) has.integers
      ∙ integer_there z t.integers t.texts there

  -- an operator with an instruction of its own, and another one
  pub operator_named : (x : Name) (o : Option Operation) → is_among x t.symbols ≡ true → IsNamed h x o
  operator_named x None e = named x e
  operator_named x (Some o) e = has.there x e

  pub texted : (x : List ℕ) → is_among x t.texts ≡ true → IsTexted h x
  texted x e =
      ap (λ (i : List PoolItem). slice_get i (text_entry h.context x)) has.own_pool
      ∙ ap (λ (zs : List ℤ). slice_get (map pool.Int t.integers ++ map pool.Text t.texts)
      (length zs + place_or (position (bytes_eq x) h.context.texts) (length h.context.texts))) has.integers
      ∙ ap (λ (ts : List (List ℕ)). slice_get (map pool.Int t.integers ++ map pool.Text t.texts)
      (length t.integers + place_or (position (bytes_eq x) ts) (length ts))) has.texts
      ∙ text_there x t.integers t.texts e

  pub asked : (q : DefinedKind) (x : Name) → Adds t (form.defined q x form.absent) → IsAsked h q x
  asked asks.Expression x a = texted (codes "expression") a.text
  asked asks.LocalVariable x a = texted (codes "local-variable") a.text
  asked asks.SelfReference x a = texted (codes "self") a.text
  asked asks.Assignment x a = texted (codes "assignment") a.text
  asked asks.InstanceVariable x a = named x a.name
  asked asks.GlobalVariable x a = named x a.name
  asked asks.Constant x a = named x a.name
  asked asks.Method x a = named x a.name
  asked asks.Yield x a = tt
  asked asks.Super x a = tt

  pub asked_of : (q : DefinedKind) (x : Name) (o : Maybe) → Adds t (form.defined q x o) → IsLookedIn q → IsAskedOf h q x
  asked_of asks.Expression x o a is = absurd is
  asked_of asks.LocalVariable x o a is = absurd is
  asked_of asks.SelfReference x o a is = absurd is
  asked_of asks.Assignment x o a is = absurd is
  asked_of asks.InstanceVariable x o a is = absurd is
  asked_of asks.GlobalVariable x o a is = absurd is
  asked_of asks.Constant x o a is = named x a.name
  asked_of asks.Method x o a is = named x a.name
  asked_of asks.Yield x o a is = absurd is
  asked_of asks.Super x o a is = absurd is
