-- In verified code every check holds.
use Rattle.std.proofs.Common.{◌≡◌, refl, sym, ap, ◌∙◌, ℕ, zero, suc, ◌+◌, ◌<◌, List, [], ◌∷◌, ◌++◌, length, map, arith, Bool, true, false}
use Rattle.std.specs.Prelude.{None, Some, Option, slice_get, nat_eq, nat_lt, ◌||◌, if◌then◌else◌}
use Rattle.std.proofs.lemmas.Option.{none-some, same_Some}
use Rattle.std.proofs.lemmas.Bool.{eqb-true, ltb-true}
use Rattle.rite_code.specs.declared.cause.Cause.{Cause}
use Rattle.rite_code.specs.declared.cause.Cause.TheVariants as cause
use Rattle.rite_code.specs.declared.code.Irep.{Irep}
use Rattle.rite_code.specs.declared.code.CatchEntry.{CatchEntry}
use Rattle.rite_code.specs.Code.{Program}
use Rattle.code_outline.specs.Layout.{Standing, layout, end_of}
use Rattle.code_outline.specs.Rows.{StandInRow}
use Rattle.code_outline.proofs.Rows.{row-layout}
use Rattle.code_verifier.specs.Needs.{leaves}
use Rattle.code_verifier.specs.Checks.{first, bad, unless, cause_of, instructions_bad, end_bad, catches_bad, read_whole, body_bad, bodies_bad, first_bad, catch_holds}
use Rattle.code_verifier.specs.Verified.{IsVerified}
use Rattle.code_verifier.specs.Holds.{PassesAll, PassesBody, StandsNext}

-- where the first of several is none, each is none
none_head : {A : Type 0} (x : Option A) (xs : List (Option A)) → first (x ∷ xs) ≡ None → (x ≡ None) × (first xs ≡ None)
unfolding first
none_head None xs h = (refl, h)
none_head (Some x) xs h = absurd (none-some _ (sym h))

none_parts : {A : Type 0} (xs ys : List (Option A)) → first (xs ++ ys) ≡ None → (first xs ≡ None) × (first ys ≡ None)
unfolding first
none_parts [] ys h = (refl, h)
none_parts (None ∷ xs) ys h = none_parts xs ys h
none_parts (Some x ∷ xs) ys h = absurd (none-some _ (sym h))

none_each : {A B : Type 0} (f : A → Option B) (xs : List A) (i : ℕ) (x : A) → first (map f xs) ≡ None
    → slice_get xs i ≡ Some x → f x ≡ None
none_each f [] i x h at = absurd (none-some _ at)
none_each f (y ∷ ys) zero x h at = ap f (sym (same_Some _ _ at)) ∙ (none_head (f y) (map f ys) h).0
none_each f (y ∷ ys) (suc i) x h at = none_each f ys i x (none_head (f y) (map f ys) h).1 at

none_body : (p : Program) (n : ℕ) (bs : List Irep) (k : ℕ) (b : Irep) → first (bodies_bad p n bs) ≡ None
    → slice_get bs k ≡ Some b → body_bad p (n + k) b ≡ None
unfolding bodies_bad
none_body p n [] k b h at = absurd (none-some _ at)
none_body p n (c ∷ bs) zero b h at =
    let e : n + 0 ≡ n = omega arith in
    rw e (ap (body_bad p n) (sym (same_Some _ _ at)) ∙ (none_head (body_bad p n c) (bodies_bad p (n + 1) bs) h).0)
none_body p n (c ∷ bs) (suc k) b h at =
    let e : n + suc k ≡ n + 1 + k = omega arith in
    rw e (none_body p (n + 1) bs k b (none_head (body_bad p n c) (bodies_bad p (n + 1) bs) h).1 at)

none_bad : (k at : ℕ) (o : Option Cause) → bad k at o ≡ None → o ≡ None
none_bad k at None h = refl
none_bad k at (Some c) h = absurd (none-some _ (sym h))

true_unless : (b : Bool) (c : Cause) → unless b c ≡ None → b ≡ true
true_unless true c h = refl
true_unless false c h = absurd (none-some _ (sym h))

-- an instruction without a cause passes every check
one : (b : Bool) (c : Cause) (xs : List (Option Cause)) → first (unless b c ∷ xs) ≡ None
    → (b ≡ true) × (first xs ≡ None)
one b c xs h = let r = none_head (unless b c) xs h in (true_unless b c r.0, r.1)

pub passes_all : (p : Program) (k : ℕ) (b : Irep) (ss : List Standing) (s : Standing) → cause_of p k b ss s ≡ None
    → PassesAll p k b ss s
unfolding cause_of
passes_all p k b ss s h =
    let h1 = one _ cause.Extended _ h in
    let h2 = one _ cause.Register _ h1.1 in
    let h3 = one _ cause.Pool _ h2.1 in
    let h4 = one _ cause.Symbol _ h3.1 in
    let h5 = one _ cause.Child _ h4.1 in
    let h6 = one _ cause.Jump _ h5.1 in
    let h7 = one _ cause.Upvar _ h6.1 in
    let h8 = one _ cause.Enter _ h7.1 in
    let h9 = one _ cause.Place _ h8.1 in
    let h10 = one _ cause.Use _ h9.1 in
    let h11 = one _ cause.Fall _ h10.1 in
    record {
      count = h1.0;
      registers = h2.0;
      entry = h3.0;
      symbols = h4.0;
      child = h5.0;
      jump = h6.0;
      variable = h7.0;
      enter = h8.0;
      place = h9.0;
      child_use = h10.0;
      fall = h11.0;
    }

-- code that is read whole
read_begun : (version : ℕ) (code : List ℕ) (end : ℕ) → read_whole version code end ≡ None → 0 < length code
read_begun version [] end h = absurd (none-some _ (sym h))
read_begun version (n ∷ rest) end h = omega arith

at_end : (b : Bool) (c : Cause) → (if b then None else Some c) ≡ None → b ≡ true
at_end true c h = refl
at_end false c h = absurd (none-some _ (sym h))

read_ended : (version : ℕ) (code : List ℕ) (end : ℕ) → read_whole version code end ≡ None → end ≡ length code
read_ended version [] end h = absurd (none-some _ (sym h))
read_ended version (n ∷ rest) end h = let e : end ≡ length rest + 1 = eqb-true end (length rest + 1)
    (at_end (nat_eq end (length rest + 1)) _ h) in omega (arith, e)

-- no instruction of the body has a cause
pub without_cause : (p : Program) (k : ℕ) (b : Irep) (i : ℕ) (s : Standing) → body_bad p k b ≡ None
    → slice_get (layout p.version b.code) i ≡ Some s → cause_of p k b (layout p.version b.code) s ≡ None
unfolding body_bad
without_cause p k b i s h at =
    let ss = layout p.version b.code in
    let parts = none_parts (instructions_bad p k b ss ss) (end_bad p k b (end_of 0 ss) ∷ catches_bad k b ss b.catches)
    h in
    none_bad k s.at _ (none_each (λ (t : Standing). bad k t.at (cause_of p k b ss t)) ss i s parts.0 at)

-- where the code goes on after an instruction, the next one stands there
next_in_row : (limit at : ℕ) (ss : List Standing) (i : ℕ) (s : Standing) → StandInRow limit at ss
    → slice_get ss i ≡ Some s → s.next < end_of at ss → StandsNext ss i s
unfolding StandInRow end_of
next_in_row limit at [] i s row here lt = absurd (none-some _ here)
next_in_row limit at (x ∷ []) zero s row here lt =
    absurd (omega (arith, lt, ap (λ (t : Standing). t.next) (same_Some _ _ here)))
next_in_row limit at (x ∷ y ∷ ys) zero s row here lt = record {
  next = y;
  stands = refl;
  place = row.2.0 ∙ ap (λ (t : Standing). t.next) (same_Some _ _ here);
}
next_in_row limit at (x ∷ xs) (suc i) s row here lt =
    let r = next_in_row limit x.next xs i s row.2 here lt in
    let e : suc i + 1 ≡ suc (i + 1) = omega arith in
    record { next = r.next; stands = rw e r.stands; place = r.place }

goes_on : (leaving inside : Bool) → (leaving || inside) ≡ true → leaving ≡ false → inside ≡ true
goes_on true inside h stays = absurd cc
goes_on false inside h stays = h

pub passes_body : (p : Program) (k : ℕ) (b : Irep) → body_bad p k b ≡ None → PassesBody p k b
unfolding body_bad
passes_body p k b h =
    let ss = layout p.version b.code in
    let parts = none_parts (instructions_bad p k b ss ss) (end_bad p k b (end_of 0 ss) ∷ catches_bad k b ss b.catches)
    h in
    let rest = none_head (end_bad p k b (end_of 0 ss)) (catches_bad k b ss b.catches) parts.1 in
    let whole : read_whole p.version b.code (end_of 0 ss) ≡ None = none_bad k (end_of 0 ss) _ rest.0 in
    record {
      instructions = λ i s at. passes_all p k b ss s (without_cause p k b i s h at);
      begun = read_begun p.version b.code (end_of 0 ss) whole;
      ended = read_ended p.version b.code (end_of 0 ss) whole;
      goes_on = λ i s at stays.
          let passes = passes_all p k b ss s (without_cause p k b i s h at) in
          let inside = ltb-true s.next (length b.code)
          (goes_on (leaves s.instruction.operation) (nat_lt s.next (length b.code)) passes.fall stays) in
          next_in_row (length b.code) 0 ss i s (row-layout p.version b.code) at
          (omega (arith, inside, read_ended p.version b.code (end_of 0 ss) whole));
      catches = λ i e at. true_unless _ cause.Catch
          (none_bad k e.begin _
          (none_each (λ (f : CatchEntry). bad k f.begin (unless (catch_holds (length b.code) ss f) cause.Catch))
          b.catches i e rest.1 at));
    }

pub verified_body : (p : Program) (k : ℕ) (b : Irep) → IsVerified p → slice_get p.bodies k ≡ Some b
    → body_bad p k b ≡ None
unfolding first_bad
verified_body p k b h at = let e : 0 + k ≡ k = omega arith in rw e at (none_body p 0 p.bodies k b h at)
