-- What it says that no count of a program is past its limit.
use Rattle.std.proofs.Common.{◌≡◌, ◌≤◌, ℕ, ◌+◌, List, [], ◌∷◌, ◌++◌, length, map, arith, refl, subst, Bool, true, false, nat_lt, if◌then◌else◌}
use Rattle.std.specs.Prelude.{Option, Some, None}
use Rattle.std.proofs.lemmas.List.{length-map}
use Rattle.std.proofs.lemmas.Bool.{ltb-false}
use Rattle.rb_syntax.specs.declared.count.Count.{Count}
use Rattle.rb_syntax.specs.declared.count.Count.TheVariants as what
use Rattle.ir_core.specs.CoreForm.{Body, form_of}
use Rattle.ir_walk.specs.Walk.{Step, at, enter, leave, entering, walked}
use Rattle.ir_walk.specs.declared.extent.Extent.TheVariants as extent
use Rattle.ir_counts.specs.Bodies.{begun, bodies}
use Rattle.ir_counts.specs.Counts.{counts, need}
use Rattle.ir_counts.specs.declared.counts.Counts.{Counts}
use Rattle.ir_counts.specs.declared.excess.Excess.{Excess}
use Rattle.ir_counts.specs.Limits.{past, of_body, of_bodies, bytes, file_of, file, first_excess}
use Rattle.code_laws.proofs.Shares.{Limited, many}
use Rattle.code_laws.proofs.Sums.{begun_length, many_is}
use Rattle.code_laws.proofs.Walks.{Front}

-- a count that isn't past its limit
within : (w : Count) (n limit : ℕ) (next : Option Excess) → past w n limit next ≡ None → (n ≤ limit) × (next ≡ None)
within w n limit next h = by (nat_lt limit n) refl h
  where
    by : (b : Bool) → nat_lt limit n ≡ b → (if b then Some (record { what = w; count = n }) else next) ≡ None
        → (n ≤ limit) × (next ≡ None)
    by true e f = absurd (cc f)
    by false e f = (ltb-false limit n e, f)

body_within : (c : Counts) (next : Option Excess) → c.bytes ≤ 4294967295 → of_body c next ≡ None
    → Limited c × (next ≡ None)
body_within c next small h =
    let h1 = within what.Parameters c.parameters 127 _ h in
    let h2 = within what.Registers c.registers 65535 _ h1.1 in
    let h3 = within what.Pool c.pool 65535 _ h2.1 in
    let h4 = within what.Symbols c.symbols 65535 _ h3.1 in
    let h5 = within what.Children c.children 65535 _ h4.1 in
    let h6 = within what.Code c.code 4194303 next h5.1 in (
      record {
        parameters = h1.0;
        registers = h2.0;
        pool = h3.0;
        symbols = h4.0;
        children = h5.0;
        code = h6.0;
        bytes = small;
      },
      h6.1,
    )

-- where no count of a body is past its limit the next ones are asked for
next_asked : (c : Counts) (next : Option Excess) → of_body c next ≡ None → next ≡ None
next_asked c next h =
    let h1 = within what.Parameters c.parameters 127 _ h in
    let h2 = within what.Registers c.registers 65535 _ h1.1 in
    let h3 = within what.Pool c.pool 65535 _ h2.1 in
    let h4 = within what.Symbols c.symbols 65535 _ h3.1 in
    let h5 = within what.Children c.children 65535 _ h4.1 in
    (within what.Code c.code 4194303 next h5.1).1

last_asked : (cs : List Counts) (next : Option Excess) → of_bodies cs next ≡ None → next ≡ None
last_asked [] next h = h
last_asked (c ∷ cs) next h = last_asked cs next (next_asked c (of_bodies cs next) h)

abbrev AllLimited : List Counts → Type 0
AllLimited [] = Unit
AllLimited (c ∷ cs) = Limited c × AllLimited cs

bytes_least : (n : ℕ) (cs : List Counts) → n ≤ bytes n cs
bytes_least n [] = omega arith
bytes_least n (c ∷ cs) = omega (arith, bytes_least (n + c.bytes) cs)

bodies_within : (n : ℕ) (cs : List Counts) (next : Option Excess) → bytes n cs ≤ 4294967295 → of_bodies cs next ≡ None
    → AllLimited cs
bodies_within n [] next few h = tt
bodies_within n (c ∷ cs) next few h =
    let p = body_within c (of_bodies cs next) (omega (arith, few, bytes_least (n + c.bytes) cs)) h in
    (p.0, bodies_within (n + c.bytes) cs next few p.1)

few_bodies : (n size : ℕ) → file_of n size ≤ 4294967295 → n ≤ 65536
few_bodies n size h = by (nat_lt 65536 n) refl h
  where
    by : (b : Bool) → nat_lt 65536 n ≡ b → (if b then 4294967296 else size) ≤ 4294967295 → n ≤ 65536
    by true e f = absurd (omega (arith, f))
    by false e f = ltb-false 65536 n e

small_file : (n size : ℕ) → file_of n size ≤ 4294967295 → size ≤ 4294967295
small_file n size h = by (nat_lt 65536 n) refl h
  where
    by : (b : Bool) → nat_lt 65536 n ≡ b → (if b then 4294967296 else size) ≤ 4294967295 → size ≤ 4294967295
    by true e f = absurd (omega (arith, f))
    by false e f = f

-- the bytes of a program's file, and its number of bodies, within their limits
file_passes : (program : Body) → first_excess (need program) ≡ None → file (need program) ≤ 4294967295
file_passes program h =
    (within what.File (file (need program)) 4294967295 None (last_asked (need program) _ h)).0

pub file_within : (program : Body) → first_excess (need program) ≡ None → bytes 64 (need program) ≤ 4294967295
file_within program h = small_file (length (need program)) (bytes 64 (need program)) (file_passes program h)

-- a body that steps begin is among those that are counted
begun_limited : (ss ts : List Step) (b : Body) → AllLimited (map counts (begun ((ss ++ enter b ∷ []) ++ ts)))
    → Limited (counts b)
begun_limited [] ts b h = h.0
begun_limited (at f ∷ ss) ts b h = begun_limited ss ts b h
begun_limited (enter c ∷ ss) ts b h = begun_limited ss ts b h.1
begun_limited (leave ∷ ss) ts b h = begun_limited ss ts b h

-- all steps over a program, and what is known of its bodies
abbrev pub steps_of : Body → List Step
steps_of program = walked extent.Program [] (form_of program)

pub record Counted (program : Body) : Type 0 where
  pub main : Limited (counts program)
  pub each : (b : Body) (s : List Step) → Front (steps_of program) (entering s b) → Limited (counts b)
  pub few : 1 + many (form_of program) ≤ 65536

pub within_limits : (program : Body) → first_excess (need program) ≡ None → Counted program
within_limits program h =
    let p = bodies_within 64 (need program) _ (file_within program h) h in
    let few = few_bodies (length (need program)) (bytes 64 (need program)) (file_passes program h) in
    let long = length-map (bodies program) counts in
    let begun_so = begun_length (steps_of program) in
    let number = many_is (form_of program) [] in
    record {
      main = p.0;
      each = λ b s f. begun_limited s f.others b
          (subst (λ (xs : List Step). AllLimited (map counts (begun xs))) f.are p.1);
      few = omega (arith, few, long, begun_so, number);
    }
