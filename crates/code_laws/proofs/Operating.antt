-- The instructions that the generator chooses have what they need.
use Rattle.std.proofs.Common.{◌≡◌, ◌<◌, ◌≤◌, ℕ, zero, suc, ◌+◌, ◌-◌, ℤ, pos, negsuc, List, [], ◌∷◌, ◌++◌, length, map, arith, refl, ap, ◌∙◌, subst, Bool, true, false, nat_eq, nat_lt, nat_le, if◌then◌else◌, ◌&&◌}
use Rattle.std.specs.Prelude.{Some, None, slice_get}
use Rattle.std.specs.List.{list_all}
use Rattle.std.proofs.lemmas.Bool.{leb-true, leb-false, lt-ltb, eqb-true, and_from, and_parts}
use Rattle.rite_code.specs.declared.code.PoolItem.TheVariants as pool
use Rattle.rite_code.specs.declared.operation.Operation.{Operation}
use Rattle.rite_code.specs.declared.operation.Operation.TheVariants as op
use Rattle.rite_code.specs.Shape.{fits_as, is_two_bytes, is_long}
use Rattle.ir_core.specs.CoreForm.{Name}
use Rattle.ir_counts.specs.declared.tally.Tally.{Tally}
use Rattle.ir_counts.specs.Tables.{is_wide}
use Rattle.scope_resolver.specs.declared.body_kind.BodyKind.{BodyKind}
use Rattle.scope_resolver.specs.declared.place.Place.{Place}
use Rattle.scope_resolver.specs.Layout.{Slots, Scopes, innermost_count}
use Rattle.code_outline.specs.Makers.{use_in}
use Rattle.code_verifier.specs.Needs.{registers_of, symbols_of, count_of}
use Rattle.code_verifier.specs.Checks.{is_integer, is_text}
use Rattle.code_verifier.specs.Plain.{is_plain}
use Rattle.gen_parts.specs.declared.line.Line.TheVariants as line
use Rattle.gen_forms.specs.Gen.{symbol, text_entry, integer_entry, is_within, load_integer, read, write}
use Rattle.code_laws.proofs.Serves.{Room, room, Inside, context, Serves}
use Rattle.code_laws.proofs.Wells.{weight_of}
use Rattle.code_laws.proofs.Shares.{Listed, Numbered}
use Rattle.code_laws.proofs.Serving.{small, two_small, three_small, wide_fits, symbol_there, text_placed, integer_placed, serves}
use Rattle.code_laws.proofs.Reaching.{Reached}

-- bodies of few locals each
abbrev pub AreShort : Scopes → Type 0
AreShort scopes = (n : ℕ) (ss : Slots) → slice_get scopes n ≡ Some ss → length ss ≤ 65535

-- what a body has of registers, and its tables, within the limits
pub record Able (scopes : Scopes) (t : Tally) (registers : ℕ) : Type 0 where
  pub few : registers ≤ 65535
  pub kind : t.kind ≤ 127
  pub locals : innermost_count scopes < registers
  pub hidden : innermost_count scopes + t.hidden < registers
  pub symbols : length t.symbols ≤ 65535
  pub pool : length t.integers + length t.texts ≤ 65535
  pub each : AreShort scopes

-- an instruction that has what it needs, uses no child, and takes so many bytes at most
pub record Ready (m : Room) (o : Operation) (bytes : ℕ) : Type 0 where
  pub serve : Serves m o
  pub unused : use_in o ≡ None
  pub light : weight_of (line.Does o) ≤ bytes

pub choice : {A : Type 0} (P : A → Type 0) (b : Bool) (x y : A) → (b ≡ true → P x) → (b ≡ false → P y)
    → P (if b then x else y)
choice P true x y f g = f refl
choice P false x y f g = g refl

pub place_within : {X : Type 0} (xs : List X) (n : ℕ) (x : X) → slice_get xs n ≡ Some x → n < length xs
place_within [] n x e = absurd (cc)
place_within (y ∷ xs) zero x e = omega arith
place_within (y ∷ xs) (suc n) x e = omega (arith, place_within xs n x e)

integer_item : (zs : List ℤ) (ts : List (List ℕ)) (i : ℕ) → i < length zs
    → is_integer (slice_get (map pool.Int zs ++ map pool.Text ts) i) ≡ true
integer_item [] ts i h = absurd (omega (arith, h))
integer_item (z ∷ zs) ts zero h = refl
integer_item (z ∷ zs) ts (suc i) h = integer_item zs ts i (omega (arith, h))

text_item : (ts : List (List ℕ)) (i : ℕ) → i < length ts → is_text (slice_get (map pool.Text ts) i) ≡ true
text_item [] i h = absurd (omega (arith, h))
text_item (t ∷ ts) zero h = refl
text_item (t ∷ ts) (suc i) h = text_item ts i (omega (arith, h))

text_behind : (zs : List ℤ) (ts : List (List ℕ)) (i n : ℕ) → n ≡ length zs + i → i < length ts
    → is_text (slice_get (map pool.Int zs ++ map pool.Text ts) n) ≡ true
text_behind [] ts i n e h =
    subst (λ (k : ℕ). is_text (slice_get (map pool.Text ts) k) ≡ true) (omega (arith, e)) (text_item ts i h)
text_behind (z ∷ zs) ts i zero e h = absurd (omega (arith, e))
text_behind (z ∷ zs) ts i (suc n) e h = text_behind zs ts i n (omega (arith, e)) h

-- a body whose code is made
pub record Site : Type 0 where
  pub kind : BodyKind
  pub scopes : Scopes
  pub tally : Tally
  pub registers : ℕ
  pub able : Able scopes tally registers

module _ (w : Site) where
  abbrev pub own : Room
  own = room w.kind w.scopes w.tally w.registers

  -- ## One register, and one with a symbol

  pub single : (o : Operation) (r : ℕ) → is_plain o ≡ true → nat_le (count_of o) 255 ≡ true → symbols_of o ≡ []
      → fits_as true o ≡ is_two_bytes r → registers_of o ≤ w.registers → r < w.registers → Serves own o
  single o r p c s f few h =
      serves own o p c few (ap (list_all (λ i. nat_lt i (length w.tally.symbols))) s)
      (f ∙ small r (omega (arith, h, w.able.few)))

  pub named : (o : Operation) (r i : ℕ) → is_plain o ≡ true → nat_le (count_of o) 255 ≡ true → symbols_of o ≡ i ∷ []
      → fits_as true o ≡ (is_two_bytes r && is_two_bytes i) → registers_of o ≤ w.registers → r < w.registers
      → i < length w.tally.symbols
      → Serves own o
  named o r i p c s f few h b =
      serves own o p c few (ap (list_all (λ n. nat_lt n (length w.tally.symbols))) s
      ∙ symbol_there i (length w.tally.symbols) b)
      (f ∙ two_small r i (omega (arith, h, w.able.few)) (omega (arith, b, w.able.symbols)))

  pub pair : (o : Operation) (r i : ℕ) → is_plain o ≡ true → nat_le (count_of o) 255 ≡ true → symbols_of o ≡ []
      → fits_as true o ≡ (is_two_bytes r && is_two_bytes i) → registers_of o ≤ w.registers → r < w.registers
      → i ≤ 65535 → Serves own o
  pair o r i p c s f few h b =
      serves own o p c few (ap (list_all (λ n. nat_lt n (length w.tally.symbols))) s)
      (f ∙ two_small r i (omega (arith, h, w.able.few)) b)

  abbrev pub symbol_of : Name → ℕ
  symbol_of x = symbol (context own (record { loop = None; caught = 0; body_start = 0 })) x

  pub symbol_within : (x : Name) → Listed w.tally.symbols (Some x) → symbol_of x < length w.tally.symbols
  symbol_within x h = text_placed x w.tally.symbols h

  pub nil_serves : (r : ℕ) → r < w.registers → Serves own (op.LoadNil r)
  nil_serves r h = single (op.LoadNil r) r refl refl refl refl (omega (arith, h)) h

  -- ## Constants

  pub text_serves : (r : ℕ) (x : List ℕ) → r < w.registers → Listed w.tally.texts (Some x)
      → Serves own (op.String r (text_entry (context own (record { loop = None; caught = 0; body_start = 0 })) x))
  text_serves r x h l =
      let at = text_placed x w.tally.texts l in
      record {
        counted = refl;
        registers = omega (arith, h);
        entry = text_behind w.tally.integers w.tally.texts _ _ refl at;
        symbols = refl;
        jump = refl;
        variable = λ s. refl;
        enter = refl;
        place = λ s. refl;
        fit = λ d f. wide_fits (op.String r _) (two_small r _ (omega (arith, h, w.able.few))
            (omega (arith, at, w.able.pool)));
      }

  wide_serves : (r : ℕ) (z : ℤ) → r < w.registers → Listed [] None → Numbered w.tally.integers (Some z)
      → Serves own (op.LoadL r (integer_entry (context own (record { loop = None; caught = 0; body_start = 0 })) z))
  wide_serves r z h u l =
      let at = integer_placed z w.tally.integers l in
      record {
        counted = refl;
        registers = omega (arith, h);
        entry = integer_item w.tally.integers w.tally.texts _ at;
        symbols = refl;
        jump = refl;
        variable = λ s. refl;
        enter = refl;
        place = λ s. refl;
        fit = λ d f. wide_fits (op.LoadL r _) (two_small r _ (omega (arith, h, w.able.few))
            (omega (arith, at, w.able.pool)));
      }

  abbrev Loads : Operation → Type 0
  Loads o = Ready own o 8

  short_loads : (r n : ℕ) → r < w.registers → n ≤ 255 → Loads (op.LoadI r n)
  short_loads r n h k = record {
    serve = pair (op.LoadI r n) r n refl refl refl refl (omega (arith, h)) h (omega (arith, k));
    unused = refl;
    light = omega arith;
  }

  middle_loads : (r : ℕ) (z : ℤ) → r < w.registers → is_long z ≡ true → Loads (op.LoadI16 r z)
  middle_loads r z h k = record {
    serve =
        serves own (op.LoadI16 r z) refl refl (omega (arith, h)) refl
        (and_from (is_two_bytes r) (is_long z) (small r (omega (arith, h, w.able.few))) k);
    unused = refl;
    light = omega arith;
  }

  long_loads : (r : ℕ) (z : ℤ) → r < w.registers → is_long z ≡ true → Loads (op.LoadI32 r z)
  long_loads r z h k = record {
    serve =
        serves own (op.LoadI32 r z) refl refl (omega (arith, h)) refl
        (and_from (is_two_bytes r) (is_long z) (small r (omega (arith, h, w.able.few))) k);
    unused = refl;
    light = omega arith;
  }

  wide_loads : (r : ℕ) (z : ℤ) → r < w.registers → Numbered w.tally.integers (Some z)
      → Loads (op.LoadL r (integer_entry (context own (record { loop = None; caught = 0; body_start = 0 })) z))
  wide_loads r z h l = record { serve = wide_serves r z h tt l; unused = refl; light = omega arith }

  is_past : (n : ℕ) → nat_le n 2147483647 ≡ false → nat_lt 2147483647 n ≡ true
  is_past n e = lt-ltb 2147483647 n (leb-false n 2147483647 e)

  and_false : (b : Bool) → (b && true) ≡ false → b ≡ false
  and_false true e = absurd (cc)
  and_false false e = refl

  numbered_wide : (z : ℤ) (b : Bool) → is_wide z ≡ b → b ≡ true
      → Numbered w.tally.integers (if is_wide z then Some z else None) → Numbered w.tally.integers (Some z)
  numbered_wide z true e h l = subst (λ (c : Bool). Numbered w.tally.integers (if c then Some z else None)) e l
  numbered_wide z false e h l = absurd (cc)

  pub integer_loads : (i : Inside) (r : ℕ) (z : ℤ) → r < w.registers
      → Numbered w.tally.integers (if is_wide z then Some z else None) → Loads (load_integer (context own i) r z)
  integer_loads i r (pos n) h l =
      choice Loads (is_within (pos 0) (pos n) (pos 255)) (op.LoadI r n) _
      (λ e. short_loads r n h (leb-true n 255 (and_parts (nat_le 0 n) (nat_le n 255) e).1))
      (λ e0. choice Loads (is_within (negsuc 32767) (pos n) (pos 32767)) (op.LoadI16 r (pos n)) _
      (λ e. middle_loads r (pos n) h
      (lt-ltb n 2147483648 (let few = leb-true n 32767 e in omega (arith, few))))
      (λ e1. choice Loads (is_within (negsuc 2147483647) (pos n) (pos 2147483647)) (op.LoadI32 r (pos n)) _
      (λ e. long_loads r (pos n) h (lt-ltb n 2147483648 (let few = leb-true n 2147483647 e in omega (arith, few))))
      (λ e. wide_loads r (pos n) h (numbered_wide (pos n) true (is_past n e) refl l))))
  integer_loads i r (negsuc n) h l =
      choice Loads (is_within (negsuc 32767) (negsuc n) (pos 32767)) (op.LoadI16 r (negsuc n)) _
      (λ e. middle_loads r (negsuc n) h
      (lt-ltb n 2147483648 (let few = leb-true n 32767 (and_parts (nat_le n 32767) true e).0 in omega (arith, few))))
      (λ e1. choice Loads (is_within (negsuc 2147483647) (negsuc n) (pos 2147483647)) (op.LoadI32 r (negsuc n)) _
      (λ e. long_loads r (negsuc n) h (lt-ltb n 2147483648
      (let few = leb-true n 2147483647 (and_parts (nat_le n 2147483647) true e).0 in omega (arith, few))))
      (λ e. wide_loads r (negsuc n) h (numbered_wide (negsuc n) true (is_past n (and_false (nat_le n 2147483647) e))
      refl l)))

  -- ## Locals

  move_serves : (r q : ℕ) → r < w.registers → q < w.registers → Serves own (op.Move r q)
  move_serves r q h l = pair (op.Move r q) r q refl refl refl refl (omega (arith, h, l)) h
      (omega (arith, l, w.able.few))

  pub moved : (r q : ℕ) → r < w.registers → q < w.registers → Ready own (op.Move r q) 8
  moved r q h l = record { serve = move_serves r q h l; unused = refl; light = omega arith }

  further : (p : Place) → nat_eq p.levels 0 ≡ false → p.levels ≡ p.levels - 1 + 1
  further p e = at p.levels e
    where
      at : (n : ℕ) → nat_eq n 0 ≡ false → n ≡ n - 1 + 1
      at zero e = absurd (cc)
      at (suc n) e = omega arith

  pub reads : (r : ℕ) (p : Place) → r < w.registers → Reached w.scopes p → Ready own (read r p) 8
  reads r p h l =
      choice (λ o. Ready own o 8) (nat_eq p.levels 0) (op.Move r p.register)
      (op.GetUpVar r p.register (p.levels - 1))
      (λ e. moved r p.register h
      (let here = l.here (eqb-true p.levels 0 e) in omega (arith, here, w.able.locals)))
      (λ e. let out = l.out (p.levels - 1) (further p e) in
      let few = w.able.each (p.levels - 1 + 1) out.0 out.1 in
      let deep = place_within w.scopes (p.levels - 1 + 1) out.0 out.1 in
      record {
        serve = record {
          counted = refl;
          registers = omega (arith, h);
          entry = refl;
          symbols = refl;
          jump = refl;
          variable = λ s. s.reaches (p.levels - 1) p.register out.0 out.1 out.2 out.3;
          enter = refl;
          place = λ s. refl;
          fit = λ d f. wide_fits (op.GetUpVar r p.register (p.levels - 1))
              (three_small r p.register (p.levels - 1) (omega (arith, h, w.able.few)) (omega (arith, few, out.3))
              (omega (arith, deep, d)));
        };
        unused = refl;
        light = omega arith;
      })

  pub writes : (r : ℕ) (p : Place) → r < w.registers → Reached w.scopes p → Ready own (write r p) 8
  writes r p h l =
      choice (λ o. Ready own o 8) (nat_eq p.levels 0) (op.Move p.register r)
      (op.SetUpVar r p.register (p.levels - 1))
      (λ e. moved p.register r
      (let here = l.here (eqb-true p.levels 0 e) in omega (arith, here, w.able.locals)) h)
      (λ e. let out = l.out (p.levels - 1) (further p e) in
      let few = w.able.each (p.levels - 1 + 1) out.0 out.1 in
      let deep = place_within w.scopes (p.levels - 1 + 1) out.0 out.1 in
      record {
        serve = record {
          counted = refl;
          registers = omega (arith, h);
          entry = refl;
          symbols = refl;
          jump = refl;
          variable = λ s. s.reaches (p.levels - 1) p.register out.0 out.1 out.2 out.3;
          enter = refl;
          place = λ s. refl;
          fit = λ d f. wide_fits (op.SetUpVar r p.register (p.levels - 1))
              (three_small r p.register (p.levels - 1) (omega (arith, h, w.able.few)) (omega (arith, few, out.3))
              (omega (arith, deep, d)));
        };
        unused = refl;
        light = omega arith;
      })
