-- Records and the bodies that they hold.
use Rattle.std.proofs.Common.{◌≡◌, ℕ, zero, suc, ◌+◌, ◌^◌, ◌<◌, ◌≤◌, Bool, true, false, ltb, eqb, List, [], ◌∷◌, ◌++◌, length, take, drop, refl, sym, ap, subst, ◌∙◌, arith}
use Rattle.std.specs.Prelude.{not, ◌&&◌, ◌||◌, flat_map}
use Rattle.std.specs.List.{AllByRecursion}
use Rattle.std.proofs.lemmas.Bool.{lt-ltb, le-ltb, ltb-true, ltb-false, eqb-true}
use Rattle.std.proofs.lemmas.List.{length-append, length-take, length-drop, take-append-drop, take_at, drop_at}
use Rattle.std.proofs.lemmas.List.Concat.{flat_map-cons}
use Rattle.std.proofs.lemmas.List.Elements.{All-from_recursion, recursion_from_All}
use Rattle.rite_code.specs.Code.{IsBody, IsItem, IsText, IsForest, none, node}
use Rattle.rite_code.specs.declared.code.Irep.{Irep}
use Rattle.rite_code.specs.declared.code.PoolItem.{PoolItem}
use Rattle.rite_code.specs.declared.code.PoolItem.TheVariants.{Int, Text}
use Rattle.rite_file.specs.declared.records.Record.{Record}
use Rattle.rite_file.specs.File.{record_of, IsHeld, IsHeldItem}
use Rattle.rite_file.specs.Record.{are_registers}
use Rattle.rite_file.specs.Loaded.{with_children, numbered}
use Rattle.rite_file.proofs.Parts.{FitsItem}
use Rattle.rite_file.proofs.RecordFields.{IsRecord, FitsRecord, spelled_fields, spelled_record, Awaits}

-- ---- one body

-- the record of a body
abbrev pub record_from : Irep → Record
record_from b = record { body = with_children b []; children = length b.children }

pub record_of-from : (b : Irep) → record_of b ≡ spelled_record (record_from b)
unfolding record_of
record_of-from b = refl

abbrev with_count : Record → ℕ → Record
with_count r n = record { body = r.body; children = n }

-- the body of a record with so many children is spelled as the record
pub record_of-children : (r : Record) (children : List ℕ) → length children ≡ r.children
    → record_of (with_children r.body children) ≡ spelled_record r
unfolding record_of
record_of-children r children e = ap (λ (n : ℕ). spelled_record (with_count r n)) e

registers_are : (version locals n : ℕ) (a b c : Bool) → a ≡ ltb n locals → b ≡ eqb version 1 → c ≡ ltb 256 n
    → (not a && (not b || not c)) ≡ true → (locals ≤ n) × ((version ≡ 1) → n ≤ 256)
registers_are version locals n true b c p q r h = absurd cc
registers_are version locals n false true true p q r h = absurd cc
registers_are version locals n false true false p q r h = (ltb-false n locals (sym p), λ v. ltb-false 256 n (sym r))
registers_are version locals n false false c p q r h =
    (ltb-false n locals (sym p), λ v. let e : eqb version 1 ≡ true = rw v refl in absurd cc)

registers_known : (version locals n : ℕ) → are_registers version locals n ≡ true
    → (locals ≤ n) × ((version ≡ 1) → n ≤ 256)
unfolding are_registers
registers_known version locals n h = registers_are version locals n (ltb n locals) (eqb version 1) (ltb 256 n) refl
    refl refl h

narrow_from : (version n : ℕ) (b : Bool) → b ≡ eqb version 1 → ((version ≡ 1) → n ≤ 256)
    → (not b || not (ltb 256 n)) ≡ true
narrow_from version n true e h = let le : n ≤ 256 = h (eqb-true version 1 (sym e)) in rw (le-ltb 256 n le) refl
narrow_from version n false e h = refl

registers_from : (version locals n : ℕ) → locals ≤ n → ((version ≡ 1) → n ≤ 256) → are_registers version locals n ≡ true
unfolding are_registers
registers_from version locals n le h = rw (le-ltb n locals le) (narrow_from version n (eqb version 1) refl h)

item_is : (x : PoolItem) → FitsItem x → IsItem x
item_is (Int n) h = tt
item_is (Text t) h = h

item_held : (x : PoolItem) → FitsItem x → IsHeldItem x
item_held (Int n) h = h
item_held (Text t) h = tt

item_fits : (x : PoolItem) → IsItem x → IsHeldItem x → FitsItem x
item_fits (Int n) h k = k
item_fits (Text t) h k = h

abbrev Each : {A : Type 0} → (A → Type 0) → List A → Type 0
Each P xs = AllByRecursion P xs

pub all_map : {A : Type 0} (P Q : A → Type 0) → ((x : A) → P x → Q x) → (xs : List A) → Each P xs → Each Q xs
all_map P Q f [] h = tt
all_map P Q f (x ∷ xs) h = (f x h.0, all_map P Q f xs h.1)

all_both : {A : Type 0} (P Q R : A → Type 0) → ((x : A) → P x → Q x → R x) → (xs : List A) → Each P xs → Each Q xs
    → Each R xs
all_both P Q R f [] h k = tt
all_both P Q R f (x ∷ xs) h k = (f x h.0 k.0, all_both P Q R f xs h.1 k.1)

pub body_is : (version : ℕ) (r : Record) (children : List ℕ) → length children ≡ r.children → IsRecord version r
    → IsBody version (with_children r.body children)
body_is version r children e is =
    let registers = registers_known version r.body.locals r.body.registers is.counts.registers.1 in
    record {
      has_self = ltb-true 0 r.body.locals is.counts.locals.1;
      locals = registers.0;
      narrow = registers.1;
      code = is.code;
      catches = is.counts.catches;
      pool_count = is.pool.count;
      pool_items = All-from_recursion IsItem r.body.pool (all_map FitsItem IsItem item_is r.body.pool is.pool.each);
      pool = is.pool.distinct;
      symbol_count = is.symbols.count;
      symbol_texts = All-from_recursion IsText r.body.symbols is.symbols.each;
      symbols = is.symbols.distinct;
      child_count = omega (arith, e, is.counts.children);
    }

pub body_held : (version : ℕ) (r : Record) (children : List ℕ) → IsRecord version r
    → IsHeld (with_children r.body children)
body_held version r children is = record {
  locals = is.counts.locals.0;
  registers = is.counts.registers.0;
  catches = All-from_recursion _ r.body.catches is.catches;
  pool = All-from_recursion IsHeldItem r.body.pool (all_map FitsItem IsHeldItem item_held r.body.pool is.pool.each);
}

pub record_is : (version : ℕ) (b : Irep) → IsBody version b → IsHeld b → IsRecord version (record_from b)
record_is version b is held = record {
  counts = record {
    locals = (held.locals, lt-ltb 0 b.locals is.has_self);
    registers = (held.registers, registers_from version b.locals b.registers is.locals is.narrow);
    children = is.child_count;
    catches = is.catches;
  };
  code = is.code;
  catches = recursion_from_All _ b.catches held.catches;
  pool = record {
    count = is.pool_count;
    each = all_both IsItem IsHeldItem FitsItem item_fits b.pool (recursion_from_All IsItem b.pool is.pool_items)
        (recursion_from_All IsHeldItem b.pool held.pool);
    distinct = is.pool;
  };
  symbols = record {
    count = is.symbol_count;
    each = recursion_from_All IsText b.symbols is.symbol_texts;
    distinct = is.symbols;
  };
  childless = refl;
}

-- ---- all bodies

-- what is known of bodies and roots that were numbered
pub record AreNumbered (version at : ℕ) (rs : List Record) (awaited : ℕ) (bodies : List Irep)
    (roots : List ℕ) : Type 0 where
  pub forest : IsForest at bodies roots
  pub count : length roots ≡ awaited
  pub spelled : flat_map record_of bodies ≡ flat_map spelled_record rs
  pub many : length bodies ≡ length rs
  pub each : AllByRecursion (IsBody version) bodies
  pub held : AllByRecursion IsHeld bodies

pub numbered_are : (version at : ℕ) (rs : List Record) (awaited : ℕ) → AllByRecursion (FitsRecord version) rs
    → Awaits awaited rs → AreNumbered version at rs awaited (numbered at rs).0 (numbered at rs).1
unfolding numbered
numbered_are version at [] zero each awaits = record {
  forest = none;
  count = refl;
  spelled = refl;
  many = refl;
  each = tt;
  held = tt;
}
numbered_are version at [] (suc awaited) each awaits = absurd awaits
numbered_are version at (r ∷ rs) zero each awaits = absurd awaits
numbered_are version at (r ∷ rs) (suc awaited) each awaits =
    let behind = numbered_are version (at + 1) rs (awaited + r.children) each.1 awaits in
    let roots : List ℕ = (numbered (at + 1) rs).1 in
    let bodies : List Irep = (numbered (at + 1) rs).0 in
    let len : length (take r.children roots) ≡ r.children = omega (arith, length-take r.children roots, behind.count) in
    let split : IsForest (at + 1) bodies (take r.children roots ++ drop r.children roots) =
    subst (λ (xs : List ℕ). IsForest (at + 1) bodies xs) (sym (take-append-drop r.children roots)) behind.forest in
    let body : Irep = with_children r.body (take r.children roots) in
    record {
      forest = node split;
      count = omega (arith, length-drop r.children roots, behind.count);
      spelled = flat_map-cons record_of body bodies
          ∙ ap (λ (t : List ℕ). t ++ flat_map record_of bodies) (record_of-children r (take r.children roots) len)
          ∙ ap (λ (t : List ℕ). spelled_record r ++ t) behind.spelled ∙ sym (flat_map-cons spelled_record r rs);
      many = ap suc behind.many;
      each = (body_is version r (take r.children roots) len each.0.0, behind.each);
      held = (body_held version r (take r.children roots) each.0.0, behind.held);
    }

abbrev pub records_from : List Irep → List Record
records_from [] = []
records_from (b ∷ bs) = record_from b ∷ records_from bs

pub records_spelled : (bs : List Irep) → flat_map record_of bs ≡ flat_map spelled_record (records_from bs)
records_spelled [] = refl
records_spelled (b ∷ bs) = flat_map-cons record_of b bs
    ∙ ap (λ (t : List ℕ). t ++ flat_map record_of bs) (record_of-from b)
    ∙ ap (λ (t : List ℕ). spelled_record (record_from b) ++ t) (records_spelled bs)
    ∙ sym (flat_map-cons spelled_record (record_from b) (records_from bs))

pub length-records : (bs : List Irep) → length (records_from bs) ≡ length bs
length-records [] = refl
length-records (b ∷ bs) = ap suc (length-records bs)

pub records_await : (at : ℕ) (bs : List Irep) (roots : List ℕ) → IsForest at bs roots
    → Awaits (length roots) (records_from bs)
records_await at [] roots none = tt
records_await at (b ∷ bs) roots (node {others = others} behind) =
    let more = records_await (at + 1) bs (b.children ++ others) behind in
    let n : length (b.children ++ others) ≡ length others + length b.children =
    omega (arith, length-append b.children others) in
    subst (λ (k : ℕ). Awaits k (records_from bs)) n more

pub numbered_again : (at : ℕ) (bs : List Irep) (roots : List ℕ) → IsForest at bs roots
    → numbered at (records_from bs) ≡ (bs, roots)
unfolding numbered
numbered_again at [] roots none = refl
numbered_again at (b ∷ bs) roots (node {others = others} behind) =
    let more = numbered_again (at + 1) bs (b.children ++ others) behind in
    rw (more, take_at b.children others (length b.children) refl, drop_at b.children others (length b.children) refl)
    refl

pub length-record : (b : Irep) → length (record_of b) ≡ length (spelled_fields (record_from b)) + 4
unfolding record_of
length-record b = omega arith

-- a record is no longer than all of them
pub records_fit : (version : ℕ) (bs : List Irep) → AllByRecursion (IsBody version) bs → AllByRecursion IsHeld bs
    → length (flat_map record_of bs) < 2 ^ 32 → AllByRecursion (FitsRecord version) (records_from bs)
records_fit version [] is held small = tt
records_fit version (b ∷ bs) is held small =
    let all : length (flat_map record_of (b ∷ bs)) ≡ length (record_of b) + length (flat_map record_of bs) =
    ap length (flat_map-cons record_of b bs) ∙ length-append (record_of b) (flat_map record_of bs) in (
      (record_is version b is.0 held.0, omega (arith, all, small, length-record b)),
      records_fit version bs is.1 held.1 (omega (arith, all, small)),
    )
