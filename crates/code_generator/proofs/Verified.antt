-- No check of the verifier fails in the code of a form.
use Rattle.std.proofs.Common.{◌≡◌, ℕ, ◌+◌, ◌<◌, List, [], ◌∷◌, ◌++◌, refl, sym, ◌∙◌, ap, subst, arith, Bool, true, false, length, Option, None, ◌||◌, nat_eq, nat_lt, get_or, append_assoc}
use Rattle.std.specs.Prelude.{codes}
use Rattle.std.proofs.lemmas.Bool.{eq-eqb, eqb-true, le-leb, lt-ltb}
use Rattle.path_core.specs.Form.{Form}
use Rattle.code_generator.specs.Names.{names_of}
use Rattle.code_generator.specs.Limits.{IsWithin}
use Rattle.rite_code.specs.Code.{Program}
use Rattle.rite_code.specs.declared.code.Irep.{Irep}
use Rattle.rite_code.specs.declared.operation.Operation.{Operation}
use Rattle.rite_code.specs.declared.operation.Operation.TheVariants.{Stop}
use Rattle.rite_code.specs.Instruction.{narrow}
use Rattle.rite_code.specs.Shape.{size_of}
use Rattle.code_outline.specs.Layout.{Standing, layout, end_of, is_start}
use Rattle.code_outline.specs.Makers.{Made, made_in, made_from, first_maker, maker_of, child_made}
use Rattle.code_verifier.specs.Checks.{Bad, first, cause_of, bad, instructions_bad, end_bad, read_whole, body_bad, bodies_bad, first_bad}
use Rattle.code_verifier.specs.Verified.{IsVerified}
use Rattle.code_generator.specs.Gen.{len, gen, operations_of, full_body, full_code, first_free}
use Rattle.code_generator.proofs.Pieces.{total, gen_len}
use Rattle.code_generator.proofs.Compiled.{bytes_of, length_bytes, fine_code, has_code}
use Rattle.code_generator.proofs.Layouts.{placed_from, layout_is, end_is}
use Rattle.code_generator.proofs.Bodies.{length_code}
use Rattle.code_generator.proofs.Checked.{Passes, AllPass, Begin, pass_append, begin_front, begin_back, form_passes}

-- the whole list of instructions starts where it is placed
started : (before : List Standing) (s : Standing) (rest : List Standing) → is_start (before ++ s ∷ rest) s.at ≡ true
started [] s rest = ap (λ (b : Bool). b || is_start rest s.at) (eq-eqb s.at s.at refl)
started (x ∷ before) s rest = later (nat_eq x.at s.at) (started before s rest)
  where
    later : {r : Bool} → (b : Bool) → r ≡ true → (b || r) ≡ true
    later true e = refl
    later false e = e

begins_placed : (ss before : List Standing) (at : ℕ) (is : List Operation) → ss ≡ before ++ placed_from at is
    → Begin ss 0 0 0 at is
begins_placed ss before at [] e = tt
begins_placed ss before at (i ∷ is) e =
    let s : Standing = record { at = at; next = at + size_of i; instruction = narrow i } in
    let rest = placed_from (at + size_of i) is in (
      ap (λ (xs : List Standing). is_start xs at) e ∙ started before s rest,
      begins_placed ss (before ++ s ∷ []) (at + size_of i) is (e ∙ sym (append_assoc before (s ∷ []) rest)),
    )

-- what starts, starts before the end
starts_within : (from at : ℕ) (is : List Operation) → is_start (placed_from from is) at ≡ true → at < from + total is
starts_within from at [] h = absurd (cc)
starts_within from at (i ∷ is) h = by (nat_eq from at) refl (starts_within (from + size_of i) at is)
  where
    by : (b : Bool) → nat_eq from at ≡ b → (is_start (placed_from (from + size_of i) is) at ≡ true
        → at < from + size_of i + total is) → at < from + (size_of i + total is)
    by true e later = omega (arith, eqb-true from at e)
    by false e later = omega (
      arith,
      later (ap (λ (c : Bool). c || is_start (placed_from (from + size_of i) is) at)
          (sym e) ∙ h),
    )

-- an instruction that passes has no cause
cause_none : (p : Program) (b : Irep) (ss : List Standing) (at : ℕ) (o : Operation) → maker_of p 0 ≡ None
    → Passes ss b.registers (length b.symbols) (length b.code) (at + size_of o) o
    → cause_of p 0 b ss (record { at = at; next = at + size_of o; instruction = narrow o }) ≡ None
unfolding cause_of first
cause_none p b ss at o none h = rw (
  none,
  h.counted,
  h.within,
  h.entry,
  h.named,
  h.child,
  h.jump,
  h.variable,
  h.enter,
  h.place,
  h.fall,
) refl

none_fails : (p : Program) (b : Irep) (ss : List Standing) (at : ℕ) (is : List Operation) (others : List (Option Bad))
    → maker_of p 0 ≡ None → AllPass ss b.registers (length b.symbols) (length b.code) at is
    → first (instructions_bad p 0 b ss (placed_from at is) ++ others) ≡ first others
unfolding first
none_fails p b ss at [] others none h = refl
none_fails p b ss at (i ∷ is) others none h =
    ap (λ (c : Option _). first (bad 0 at c ∷ (instructions_bad p 0 b ss (placed_from (at + size_of i) is) ++ others)))
    (cause_none p b ss at i none h.0)
    ∙ none_fails p b ss (at + size_of i) is others none h.1

-- nothing makes a body
makes_none : (b : Irep) (ss : List Standing) (registers symbols size at : ℕ) (is : List Operation)
    → AllPass ss registers symbols size at is → made_in 0 b (placed_from at is) ≡ []
unfolding made_in
makes_none b ss registers symbols size at [] h = refl
makes_none b ss registers symbols size at (i ∷ is) h =
    ap (λ u. child_made 0 b at u ++ made_in 0 b (placed_from (at + size_of i) is)) h.0.child
    ∙ makes_none b ss registers symbols size (at + size_of i) is h.1

read_all : (code : List ℕ) (end : ℕ) → 0 < length code → end ≡ length code → read_whole 2 code end ≡ None
read_all [] end some e = absurd (omega (arith, some))
read_all (n ∷ rest) end some e = rw (eq-eqb end (length rest + 1) (omega (arith, e))) refl

-- the symbols have an entry where the first is no empty text
some_symbol : (names : List (List ℕ)) → get_or names 0 [] ≡ codes "puts" → 0 < length names
some_symbol [] e = absurd (cc)
some_symbol (n ∷ names) e = omega arith

module _ (f : Form) (w : IsWithin f) where
  abbrev ss : List Standing
  ss = placed_from 0 (operations_of f)

  abbrev b : Irep
  b = full_body f

  size : length (bytes_of (operations_of f)) ≡ total (operations_of f)
  size = length_bytes (operations_of f)

  laid : layout 2 b.code ≡ ss
  laid = layout_is (full_code f) 0 (operations_of f) (has_code f w) size

  inside : (at : ℕ) → is_start ss at ≡ true → nat_lt at (length b.code) ≡ true
  inside at h = lt-ltb at (length b.code) (omega (arith, starts_within 0 at (operations_of f) h, size))

  begins : Begin ss 0 0 0 0 (operations_of f)
  begins = begins_placed ss [] 0 (operations_of f) refl

  stop_starts : Begin ss 0 0 0 (0 + len f) (Stop ∷ [])
  stop_starts = begin_back ss 0 0 0 0 (len f) (gen (names_of f) f (first_free f) 0) (Stop ∷ [])
      (gen_len (names_of f) f (first_free f) 0) begins

  stop_passes : Passes ss b.registers (length b.symbols) (length b.code) (0 + len f + 1) Stop
  stop_passes = record {
    counted = refl;
    within = le-leb 0 b.registers (omega arith);
    entry = refl;
    named = refl;
    child = refl;
    jump = refl;
    variable = refl;
    enter = refl;
    place = refl;
    fall = refl;
  }

  all_pass : AllPass ss b.registers (length b.symbols) (length b.code) 0 (operations_of f)
  all_pass =
      let parts = form_passes ss b.registers (length b.symbols) (length b.code) inside (full_code f) 0 (names_of f)
      (omega arith) (some_symbol b.symbols) f (first_free f) 0 (fine_code f w) (omega arith)
      (begin_front ss 0 0 0 0 (gen (names_of f) f (first_free f) 0) (Stop ∷ []) begins) stop_starts.0 in
      pass_append ss b.registers (length b.symbols) (length b.code) 0 (gen (names_of f) f (first_free f) 0) (Stop ∷ [])
      parts
      (subst (λ (n : ℕ). AllPass ss b.registers (length b.symbols) (length b.code) n (Stop ∷ []))
      (omega (arith, gen_len (names_of f) f (first_free f) 0)) (stop_passes, tt))

  no_maker : maker_of (full_code f) 0 ≡ None
  unfolding maker_of made_from first_maker
  no_maker =
      ap (λ (xs : List Standing). first_maker 0 (made_in 0 b xs ++ [])) laid
      ∙ ap (λ (ms : List Made). first_maker 0 (ms ++ []))
      (makes_none b ss b.registers (length b.symbols) (length b.code) 0 (operations_of f) all_pass)

  body_holds : body_bad (full_code f) 0 b ≡ None
  unfolding body_bad first
  body_holds =
      ap (λ (xs : List Standing). first (instructions_bad (full_code f) 0 b xs xs
      ++ end_bad (full_code f) 0 b (end_of 0 xs) ∷ [])) laid
      ∙ (none_fails (full_code f) b ss 0 (operations_of f) (end_bad (full_code f) 0 b (end_of 0 ss) ∷ []) no_maker
      all_pass
      ∙ ap (λ (c : Option _). first (bad 0 (end_of 0 ss) c ∷ []))
      (read_all b.code (end_of 0 ss) (omega (arith, length_code f))
      (end_is 0 (operations_of f) ∙ omega (arith, size))))

  pub full_verified : IsVerified (full_code f)
  unfolding first_bad bodies_bad first
  full_verified = ap (λ (x : Option Bad). first (x ∷ [])) body_holds
