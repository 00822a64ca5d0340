-- Each instruction of a form passes the checks of the verifier.
use Rattle.std.proofs.Common.{◌≡◌, ℕ, ◌+◌, ◌<◌, ◌≤◌, ℤ, pos, negsuc, List, [], ◌∷◌, ◌++◌, refl, sym, ◌∙◌, ap, subst, arith, Bool, true, false, None, ◌||◌, ◌&&◌, nat_lt, nat_le, cond, max, get_or}
use Rattle.std.specs.Prelude.{◌+ℤ◌, codes}
use Rattle.std.specs.List.{list_all}
use Rattle.std.proofs.Math.Nat.{max-le}
use Rattle.std.proofs.lemmas.Bool.{le-leb, lt-ltb}
use Rattle.std.proofs.lemmas.Int.{ints}
use Rattle.path_core.specs.Form.{Name, Action, give_nil, give_true, give_int, call_operator, call_puts, Form, strict, local, set_local, seq, cond as cond_form, while_form, Forms, none, more}
use Rattle.code_generator.specs.Limits.{arity, count}
use Rattle.rb_syntax.specs.declared.operator.Operator.TheVariants.{Plus, Minus, Times, Equal, Less, LessEqual, Greater, GreaterEqual}
use Rattle.rite_code.specs.Code.{Program}
use Rattle.rite_code.specs.declared.operation.Operation.{Operation}
use Rattle.rite_code.specs.declared.operation.Operation.TheVariants.{Move, LoadI, LoadI16, LoadI32, LoadNil, Jmp, JmpNot}
use Rattle.rite_code.specs.Shape.{size_of}
use Rattle.path_turns.specs.State.{body_at}
use Rattle.code_outline.specs.Layout.{Standing, is_start}
use Rattle.code_outline.specs.Makers.{use_in}
use Rattle.code_verifier.specs.Needs.{registers_of, symbols_of, entry_of, distance_of, variable_of, count_of, leaves, parameters_of}
use Rattle.code_verifier.specs.Checks.{jump_holds, leads_to_start, place_holds}
use Rattle.code_generator.specs.Gen.{distance, load_number, action_of, action_size, before_operands, is_puts, register_of, len, len_all, len_rest, gen, gen_operands, gen_all, gen_rest, width, operands_width, all_width}
use Rattle.code_generator.proofs.cases.Strict.{size_is}
use Rattle.code_generator.proofs.Pieces.{total, gen_len}
use Rattle.code_generator.proofs.Generated.{Fine, AllFine}

-- What an instruction needs in a main program of so many registers, symbols and bytes, whose instructions start
-- there: no check of it fails.
pub record Passes (ss : List Standing) (registers symbols size next : ℕ) (o : Operation) : Type 0 where
  pub counted : nat_le (count_of o) 255 ≡ true
  pub within : nat_le (registers_of o) registers ≡ true
  pub entry : entry_of o ≡ None
  pub named : list_all (λ i. nat_lt i symbols) (symbols_of o) ≡ true
  pub child : use_in o ≡ None
  pub jump : jump_holds ss next (distance_of o) ≡ true
  pub variable : variable_of o ≡ None
  pub enter : parameters_of o ≡ None
  pub place : place_holds 0 None o ≡ true
  pub fall : (leaves o || nat_lt next size) ≡ true

module _ (ss : List Standing) (registers symbols size : ℕ) where
  abbrev Sound : ℕ → Operation → Type 0
  Sound next o = Passes ss registers symbols size next o

  -- instructions from a place on that pass, each
  abbrev pub AllPass : ℕ → List Operation → Type 0
  AllPass at [] = Unit {0}
  AllPass at (i ∷ is) = Sound (at + size_of i) i × AllPass (at + size_of i) is

  -- instructions that start from a place on, one after another
  abbrev pub Begin : ℕ → List Operation → Type 0
  Begin at [] = Unit {0}
  Begin at (i ∷ is) = (is_start ss at ≡ true) × Begin (at + size_of i) is

  pub pass_append : (at : ℕ) (a b : List Operation) → AllPass at a → AllPass (at + total a) b → AllPass at (a ++ b)
  pass_append at [] b f g = let e : at + 0 ≡ at = omega arith in subst (λ (n : ℕ). AllPass n b) e g
  pass_append at (i ∷ a) b f g = let e : at + (size_of i + total a) ≡ at + size_of i + total a = omega arith in
      (f.0, pass_append (at + size_of i) a b f.1 (subst (λ (n : ℕ). AllPass n b) e g))

  pass_behind : (at n : ℕ) (a b : List Operation) → total a ≡ n → AllPass at a → AllPass (at + n) b
      → AllPass at (a ++ b)
  pass_behind at n a b e f g = pass_append at a b f (subst (λ (m : ℕ). AllPass (at + m) b) (sym e) g)

  pub begin_front : (at : ℕ) (a b : List Operation) → Begin at (a ++ b) → Begin at a
  begin_front at [] b h = tt
  begin_front at (i ∷ a) b h = (h.0, begin_front (at + size_of i) a b h.1)

  begin_total : (at : ℕ) (a b : List Operation) → Begin at (a ++ b) → Begin (at + total a) b
  begin_total at [] b h = let e : at ≡ at + 0 = omega arith in subst (λ (n : ℕ). Begin n b) e h
  begin_total at (i ∷ a) b h = let e : at + size_of i + total a ≡ at + (size_of i + total a) = omega arith in
      subst (λ (n : ℕ). Begin n b) e (begin_total (at + size_of i) a b h.1)

  pub begin_back : (at n : ℕ) (a b : List Operation) → total a ≡ n → Begin at (a ++ b) → Begin (at + n) b
  begin_back at n a b e h = subst (λ (m : ℕ). Begin (at + m) b) e (begin_total at a b h)

  -- where there are instructions, the first starts
  begun_at : (at : ℕ) (is : List Operation) → 0 < total is → Begin at is → is_start ss at ≡ true
  begun_at at [] few h = absurd (omega (arith, few))
  begun_at at (i ∷ is) few h = h.0

  module _ (inside : (at : ℕ) → is_start ss at ≡ true → nat_lt at size ≡ true) where
    -- ## One instruction

    few_enough : (n : ℕ) → n ≤ registers → nat_le n registers ≡ true
    few_enough n h = le-leb n registers h

    leads : (to : ℕ) (z : ℤ) → z ≡ pos to → is_start ss to ≡ true → leads_to_start ss z ≡ true
    leads to (pos n) e h = let same : n ≡ to = omega (arith, ints, e) in ap (is_start ss) same ∙ h
    leads to (negsuc n) e h = absurd (cc)

    leads_from : (next to : ℕ) → is_start ss to ≡ true → leads_to_start ss (pos next +ℤ distance next to) ≡ true
    leads_from next to h = leads to (pos next +ℤ distance next to) (omega (arith, ints)) h

    move_passes : (next a b : ℕ) → a < registers → b < registers → is_start ss next ≡ true → Sound next (Move a b)
    move_passes next a b ha hb start = record {
      counted = refl;
      within =
          few_enough (max (a + 1) (b + 1)) (max-le (omega (arith, ha)) (omega (arith, hb)));
      entry = refl;
      named = refl;
      child = refl;
      jump = refl;
      variable = refl;
      enter = refl;
      place = refl;
      fall = inside next start;
    }

    nil_passes : (next a : ℕ) → a < registers → is_start ss next ≡ true → Sound next (LoadNil a)
    nil_passes next a ha start = record {
      counted = refl;
      within = few_enough (a + 1) (omega (arith, ha));
      entry = refl;
      named = refl;
      child = refl;
      jump = refl;
      variable = refl;
      enter = refl;
      place = refl;
      fall = inside next start;
    }

    jump_passes : (next to : ℕ) → is_start ss to ≡ true → Sound next (Jmp (distance next to))
    jump_passes next to h = record {
      counted = refl;
      within = few_enough 0 (omega arith);
      entry = refl;
      named = refl;
      child = refl;
      jump = leads_from next to h;
      variable = refl;
      enter = refl;
      place = refl;
      fall = refl;
    }

    jump_not_passes : (next a to : ℕ) → a < registers → is_start ss to ≡ true → is_start ss next ≡ true
        → Sound next (JmpNot a (distance next to))
    jump_not_passes next a to ha h start = record {
      counted = refl;
      within = few_enough (a + 1) (omega (arith, ha));
      entry = refl;
      named = refl;
      child = refl;
      jump = leads_from next to h;
      variable = refl;
      enter = refl;
      place =
          refl;
      fall = inside next start;
    }

    either_passes : (b : Bool) (next : ℕ) (x y : Operation) → Sound next x → Sound next y → Sound next (cond b x y)
    either_passes true next x y h k = h
    either_passes false next x y h k = k

    short_passes : (next r n : ℕ) → r < registers → is_start ss next ≡ true → Sound next (LoadI r n)
    short_passes next r n hr start = record {
      counted = refl;
      within = few_enough (r + 1) (omega (arith, hr));
      entry =
          refl;
      named = refl;
      child = refl;
      jump = refl;
      variable = refl;
      enter = refl;
      place = refl;
      fall =
          inside next start;
    }

    middle_passes : (next r : ℕ) (z : ℤ) → r < registers → is_start ss next ≡ true → Sound next (LoadI16 r z)
    middle_passes next r z hr start = record {
      counted = refl;
      within = few_enough (r + 1) (omega (arith, hr));
      entry =
          refl;
      named = refl;
      child = refl;
      jump = refl;
      variable = refl;
      enter = refl;
      place = refl;
      fall =
          inside next start;
    }

    long_passes : (next r : ℕ) (z : ℤ) → r < registers → is_start ss next ≡ true → Sound next (LoadI32 r z)
    long_passes next r z hr start = record {
      counted = refl;
      within = few_enough (r + 1) (omega (arith, hr));
      entry =
          refl;
      named = refl;
      child = refl;
      jump = refl;
      variable = refl;
      enter = refl;
      place = refl;
      fall =
          inside next start;
    }

    number_passes : (next r : ℕ) (z : ℤ) → r < registers → is_start ss next ≡ true → Sound next (load_number r z)
    number_passes next r (pos n) hr start = either_passes (nat_lt n 256) next (LoadI r n) _
        (short_passes next r n hr start) (either_passes (nat_lt n 32768) next (LoadI16 r (pos n)) (LoadI32 r (pos n))
        (middle_passes next r (pos n) hr start) (long_passes next r (pos n) hr start))
    number_passes next r (negsuc n) hr start =
        either_passes (nat_lt n 32768) next (LoadI16 r (negsuc n)) (LoadI32 r (negsuc n))
        (middle_passes next r (negsuc n) hr start) (long_passes next r (negsuc n) hr start)

    -- a symbol is there
    abbrev HasSymbol : Type 0
    HasSymbol = 0 < symbols

    action_passes : (a : Action) (next r : ℕ) → r < registers → r + (before_operands a + arity a) ≤ registers
        → (is_puts a ≡ true → HasSymbol) → is_start ss next ≡ true → Sound next (action_of a r)
    action_passes give_nil next r hr wide named start = nil_passes next r hr start
    action_passes give_true next r hr wide named start =
        record {
          counted = refl;
          within = few_enough (r + 1) (omega (arith, hr));
          entry = refl;
          named = refl;
          child =
              refl;
          jump = refl;
          variable = refl;
          enter = refl;
          place = refl;
          fall = inside next start;
        }
    action_passes (give_int z) next r hr wide named start = number_passes next r z hr start
    action_passes (call_operator Plus) next r hr wide named start =
        record {
          counted = refl;
          within = few_enough (r + 2) (omega (arith, wide));
          entry = refl;
          named = refl;
          child =
              refl;
          jump = refl;
          variable = refl;
          enter = refl;
          place = refl;
          fall = inside next start;
        }
    action_passes (call_operator Minus) next r hr wide named start =
        record {
          counted = refl;
          within = few_enough (r + 2) (omega (arith, wide));
          entry = refl;
          named = refl;
          child =
              refl;
          jump = refl;
          variable = refl;
          enter = refl;
          place = refl;
          fall = inside next start;
        }
    action_passes (call_operator Times) next r hr wide named start =
        record {
          counted = refl;
          within = few_enough (r + 2) (omega (arith, wide));
          entry = refl;
          named = refl;
          child =
              refl;
          jump = refl;
          variable = refl;
          enter = refl;
          place = refl;
          fall = inside next start;
        }
    action_passes (call_operator Equal) next r hr wide named start =
        record {
          counted = refl;
          within = few_enough (r + 2) (omega (arith, wide));
          entry = refl;
          named = refl;
          child =
              refl;
          jump = refl;
          variable = refl;
          enter = refl;
          place = refl;
          fall = inside next start;
        }
    action_passes (call_operator Less) next r hr wide named start =
        record {
          counted = refl;
          within = few_enough (r + 2) (omega (arith, wide));
          entry = refl;
          named = refl;
          child =
              refl;
          jump = refl;
          variable = refl;
          enter = refl;
          place = refl;
          fall = inside next start;
        }
    action_passes (call_operator LessEqual) next r hr wide named start =
        record {
          counted = refl;
          within = few_enough (r + 2) (omega (arith, wide));
          entry = refl;
          named = refl;
          child =
              refl;
          jump = refl;
          variable = refl;
          enter = refl;
          place = refl;
          fall = inside next start;
        }
    action_passes (call_operator Greater) next r hr wide named start =
        record {
          counted = refl;
          within = few_enough (r + 2) (omega (arith, wide));
          entry = refl;
          named = refl;
          child =
              refl;
          jump = refl;
          variable = refl;
          enter = refl;
          place = refl;
          fall = inside next start;
        }
    action_passes (call_operator GreaterEqual) next r hr wide named start =
        record {
          counted = refl;
          within = few_enough (r + 2) (omega (arith, wide));
          entry = refl;
          named = refl;
          child =
              refl;
          jump = refl;
          variable = refl;
          enter = refl;
          place = refl;
          fall = inside next start;
        }
    action_passes call_puts next r hr wide named start =
        record {
          counted = refl;
          within = few_enough (r + 1 + 1) (omega (arith, wide));
          entry = refl;
          named =
              ap (λ (b : Bool). b && true) (lt-ltb 0 symbols (named refl));
          child = refl;
          jump = refl;
          variable = refl;
          enter = refl;
          place = refl;
          fall = inside next start;
        }

    -- ## Forms

    -- no code is empty
    some_action : (a : Action) → 0 < action_size a
    some_action give_nil = omega arith
    some_action give_true = omega arith
    some_action (give_int (pos n)) = by (nat_lt n 256) (nat_lt n 32768)
      where
        by : (s t : Bool) → 0 < cond s 3 (cond t 4 6)
        by true t = omega arith
        by false true = omega arith
        by false false = omega arith
    some_action (give_int (negsuc n)) = by (nat_lt n 32768)
      where
        by : (t : Bool) → 0 < cond t 4 6
        by true = omega arith
        by false = omega arith
    some_action (call_operator o) = omega arith
    some_action call_puts = omega arith

    mutual
      some_code : (e : Form) → 0 < len e
      some_code (strict a es) = omega (arith, some_action a)
      some_code (local x) = omega arith
      some_code (set_local x e) = omega arith
      some_code (seq es) = some_lines es
      some_code (cond_form t a b) = omega arith
      some_code (while_form t b) = omega arith

      some_lines : (es : Forms) → 0 < len_all es
      some_lines none = omega arith
      some_lines (more e es) = omega (arith, some_code e)

    -- each form has a register for its value
    mutual
      some_width : (e : Form) → 0 < width e
      some_width (strict a es) = omega arith
      some_width (local x) = omega arith
      some_width (set_local x e) = some_width e
      some_width (seq es) = some_lines_width es
      some_width (cond_form t a b) = omega (arith, some_width t)
      some_width (while_form t b) = omega arith

      some_lines_width : (es : Forms) → 0 < all_width es
      some_lines_width none = omega arith
      some_lines_width (more e es) = omega (arith, some_width e)

    module _ (p : Program) (b : ℕ) (ns : List Name) (below : (body_at p b).locals ≤ registers)
        (has : get_or (body_at p b).symbols 0 [] ≡ codes "puts" → HasSymbol) where
      -- the code of a form begins where an instruction starts
      form_begins : (e : Form) (r at : ℕ) → Begin at (gen ns e r at) → is_start ss at ≡ true
      form_begins e r at h = begun_at at (gen ns e r at) (omega (arith, gen_len ns e r at, some_code e)) h

      mutual
        pub form_passes : (e : Form) (r at : ℕ) → Fine p b ns e → r + width e ≤ registers → Begin at (gen ns e r at)
            → is_start ss (at + len e) ≡ true → AllPass at (gen ns e r at)
        form_passes (strict a es) r at fine wide begins ends =
            operands_pass a es r (before_operands a) at fine.2 (omega (arith, fine.0)) fine.1 (omega (arith, wide))
            (omega (arith, wide)) begins ends
        form_passes (local x) r at fine wide begins ends =
            (move_passes (at + 3) r (register_of ns x) (omega (arith, wide)) (omega (arith, fine, below)) ends, tt)
        form_passes (set_local x e) r at fine wide begins ends =
            let M = at + len e in
            let move = begin_back at (len e) (gen ns e r at) _ (gen_len ns e r at) begins in
            let end : is_start ss (M + 3) ≡ true = subst (λ (n : ℕ). is_start ss n ≡ true) (omega arith) ends in
            pass_behind at (len e) (gen ns e r at) _ (gen_len ns e r at)
            (form_passes e r at fine.1 wide (begin_front at (gen ns e r at) _ begins) move.0) (
              move_passes (M + 3) (register_of ns x) r (omega (arith, fine.0, below)) (omega (arith, wide, some_width e))
                  end,
              tt,
            )
        form_passes (seq es) r at fine wide begins ends = lines_pass es r at fine wide begins ends
        form_passes (cond_form q e f) r at fine wide begins ends =
            let T = at + len q in let A = T + 4 in let M = A + len e in let B = M + 3 in
            let behind = begin_back at (len q) (gen ns q r at) _ (gen_len ns q r at) begins in
            let tail = begin_back A (len e) (gen ns e r A) _ (gen_len ns e r A) behind.1 in
            let end : is_start ss (B + len f) ≡ true = subst (λ (n : ℕ). is_start ss n ≡ true) (omega arith) ends in
            let first = begin_front A (gen ns e r A) _ behind.1 in
            pass_behind at (len q) (gen ns q r at) _ (gen_len ns q r at)
            (form_passes q r at fine.0 (omega (arith, wide)) (begin_front at (gen ns q r at) _ begins) behind.0) (
              jump_not_passes A r B (omega (arith, wide, some_width q)) (form_begins f r B tail.1)
                  (form_begins e r A first),
              pass_behind A (len e) (gen ns e r A) _ (gen_len ns e r A)
                  (form_passes e r A fine.1 (omega (arith, wide)) first tail.0)
                  (jump_passes B (B + len f) end, form_passes f r B fine.2 (omega (arith, wide)) tail.1 end),
            )
        form_passes (while_form q e) r at fine wide begins ends =
            let T = at + len q in let A = T + 4 in let M = A + len e in let U = M + 3 in
            let behind = begin_back at (len q) (gen ns q r at) _ (gen_len ns q r at) begins in
            let tail = begin_back A (len e) (gen ns e r A) _ (gen_len ns e r A) behind.1 in
            let end : is_start ss (U + 2) ≡ true = subst (λ (n : ℕ). is_start ss n ≡ true) (omega arith) ends in
            let test = begin_front at (gen ns q r at) _ begins in
            let first = begin_front A (gen ns e r A) _ behind.1 in
            pass_behind at (len q) (gen ns q r at) _ (gen_len ns q r at)
            (form_passes q r at fine.0 (omega (arith, wide)) test behind.0) (
              jump_not_passes A r U (omega (arith, wide)) tail.1.0 (form_begins e r A first),
              pass_behind A (len e) (gen ns e r A) _ (gen_len ns e r A)
                  (form_passes e r A fine.1 (omega (arith, wide)) first tail.0)
                  (jump_passes U at (form_begins q r at test), (nil_passes (U + 2) r (omega (arith, wide)) end, tt)),
            )

        operands_pass : (a : Action) (es : Forms) (r n at : ℕ) → AllFine p b ns es
            → n + count es ≡ before_operands a + arity a
            → (is_puts a ≡ true → get_or (body_at p b).symbols 0 [] ≡ codes "puts") → r < registers
            → r + operands_width es n ≤ registers → Begin at (gen_operands ns a es r n at)
            → is_start ss (at + (len_rest es + action_size a)) ≡ true → AllPass at (gen_operands ns a es r n at)
        operands_pass a none r n at fine all named room wide begins ends =
            let end : is_start ss (at + size_of (action_of a r)) ≡ true =
            subst (λ (m : ℕ). is_start ss m ≡ true) (omega (arith, size_is a r)) ends in (
              action_passes a (at + size_of (action_of a r)) r room (omega (arith, all, wide)) (λ y. has (named y)) end,
              tt,
            )
        operands_pass a (more e es) r n at fine all named room wide begins ends =
            let M = at + len e in
            let others = begin_back at (len e) (gen ns e (r + n) at) _ (gen_len ns e (r + n) at) begins in
            let end : is_start ss (M + (len_rest es + action_size a)) ≡ true =
            subst (λ (m : ℕ). is_start ss m ≡ true) (omega arith) ends in
            pass_behind at (len e) (gen ns e (r + n) at) _ (gen_len ns e (r + n) at)
            (form_passes e (r + n) at fine.0 (omega (arith, wide)) (begin_front at (gen ns e (r + n) at) _ begins)
            (operands_begin a es r (n + 1) M others))
            (operands_pass a es r (n + 1) M fine.1 (omega (arith, all)) named room (omega (arith, wide)) others end)

        lines_pass : (es : Forms) (r at : ℕ) → AllFine p b ns es → r + all_width es ≤ registers
            → Begin at (gen_all ns es r at) → is_start ss (at + len_all es) ≡ true → AllPass at (gen_all ns es r at)
        lines_pass none r at fine wide begins ends = (nil_passes (at + 2) r (omega (arith, wide)) ends, tt)
        lines_pass (more e es) r at fine wide begins ends =
            let M = at + len e in
            let others = begin_back at (len e) (gen ns e r at) _ (gen_len ns e r at) begins in
            let end : is_start ss (M + len_rest es) ≡ true =
            subst (λ (m : ℕ). is_start ss m ≡ true) (omega arith) ends in
            pass_behind at (len e) (gen ns e r at) _ (gen_len ns e r at)
            (form_passes e r at fine.0 (omega (arith, wide)) (begin_front at (gen ns e r at) _ begins)
            (rest_begin es r M others end))
            (rest_pass es r M fine.1 (omega (arith, wide)) others end)

        rest_pass : (es : Forms) (r at : ℕ) → AllFine p b ns es → r + all_width es ≤ registers
            → Begin at (gen_rest ns es r at) → is_start ss (at + len_rest es) ≡ true → AllPass at (gen_rest ns es r at)
        rest_pass none r at fine wide begins ends = tt
        rest_pass (more e es) r at fine wide begins ends =
            let M = at + len e in
            let others = begin_back at (len e) (gen ns e r at) _ (gen_len ns e r at) begins in
            let end : is_start ss (M + len_rest es) ≡ true =
            subst (λ (m : ℕ). is_start ss m ≡ true) (omega arith) ends in
            pass_behind at (len e) (gen ns e r at) _ (gen_len ns e r at)
            (form_passes e r at fine.0 (omega (arith, wide)) (begin_front at (gen ns e r at) _ begins)
            (rest_begin es r M others end))
            (rest_pass es r M fine.1 (omega (arith, wide)) others end)

        -- what stands after a part begins where an instruction starts
        operands_begin : (a : Action) (es : Forms) (r n at : ℕ) → Begin at (gen_operands ns a es r n at)
            → is_start ss at ≡ true
        operands_begin a none r n at h = h.0
        operands_begin a (more e es) r n at h = form_begins e (r + n) at (begin_front at (gen ns e (r + n) at) _ h)

        rest_begin : (es : Forms) (r at : ℕ) → Begin at (gen_rest ns es r at) → is_start ss (at + len_rest es) ≡ true
            → is_start ss at ≡ true
        rest_begin none r at h ends = subst (λ (m : ℕ). is_start ss m ≡ true) (omega arith) ends
        rest_begin (more e es) r at h ends = form_begins e r at (begin_front at (gen ns e r at) _ h)
