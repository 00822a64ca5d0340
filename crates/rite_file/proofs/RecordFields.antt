-- Records: what is read is what was written, and what was written is read again.
use Rattle.std.proofs.Common.{◌≡◌, ℕ, zero, suc, ◌+◌, ◌^◌, ◌<◌, ◌≤◌, true, false, eqb, List, [], ◌∷◌, ◌++◌, length, drop, refl, sym, ap, subst, ◌∙◌, append_assoc, arith, rules}
use Rattle.std.specs.Prelude.{Result, Ok, flat_map}
use Rattle.std.specs.List.{AllByRecursion}
use Rattle.std.specs.Int.{w32, to_be_bytes}
use Rattle.std.proofs.lemmas.Bool.{eqb-true}
use Rattle.std.proofs.lemmas.List.{append-nil, length-append}
use Rattle.std.proofs.lemmas.List.Concat.{flat_map-cons}
use Rattle.rite_code.specs.declared.code.CatchEntry.{CatchEntry}
use Rattle.rite_code.specs.declared.code.PoolItem.{PoolItem}
use Rattle.rite_file.specs.declared.error.LoadError.{LoadError}
use Rattle.rite_file.specs.declared.counts.Counts.{Counts}
use Rattle.rite_file.specs.declared.records.Record.{Record}
use Rattle.rite_file.specs.File.{text, catch_entry, pool_item, counted, IsHeldEntry}
use Rattle.rb_base.specs.Result.{◌>>=◌}
use Rattle.rite_file.specs.Record.{guarded, number_at, text_at, counts_at, catches_at, pool_at, symbols_at, record_with, fields_at, record_at, records_at}
use Rattle.rite_file.proofs.Fields.{IsBytes, bind_ok, guard_ok, ok_is, Takes, Takes-then, rest_at, IsField, wide32, number_field, IsShort, text_field}
use Rattle.rite_file.proofs.Parts.{spelled_counts, AreCounts, counts_field, FitsItem}
use Rattle.rite_file.proofs.Counted.{catches_take, catches_again, AreCounted, pool_field, symbols_field}

-- ---- the fields after the size

abbrev pub counts_of : Record → Counts
counts_of r = record {
  locals = r.body.locals;
  registers = r.body.registers;
  children = r.children;
  catches = length r.body.catches;
}

abbrev pub spelled_fields : Record → List ℕ
spelled_fields r = spelled_counts (counts_of r)
    ++ (text r.body.code ++ (flat_map catch_entry r.body.catches
    ++ (counted pool_item r.body.pool ++ counted text r.body.symbols)))

pub record IsRecord (version : ℕ) (r : Record) : Type 0 where
  pub counts : AreCounts version (counts_of r)
  pub code : IsShort r.body.code
  pub catches : AllByRecursion IsHeldEntry r.body.catches
  pub pool : AreCounted FitsItem r.body.pool
  pub symbols : AreCounted IsShort r.body.symbols
  pub childless : r.body.children ≡ []

abbrev TookFields : ℕ → List ℕ → ℕ → Record × ℕ → Type 0
TookFields version bytes at p = Takes bytes at (spelled_fields p.0) p.1 × IsRecord version p.0

abbrev with_count : Counts → ℕ → Counts
with_count c n = record { locals = c.locals; registers = c.registers; children = c.children; catches = n }

fields_take : (version : ℕ) (bytes : List ℕ) (at : ℕ) (x : Record) (next : ℕ) → IsBytes bytes
    → fields_at version bytes at ≡ Ok (x, next) → TookFields version bytes at (x, next)
unfolding fields_at
fields_take version bytes at x next are e =
    let fifth : Counts → List ℕ → List CatchEntry → List PoolItem → List (List ℕ) × ℕ
    → Result (Record × ℕ) LoadError = λ c t k p s. Ok (record_with c t k p s.0, s.1) in
    let fourth : Counts → List ℕ → List CatchEntry → List PoolItem × ℕ
    → Result (Record × ℕ) LoadError = λ c t k p. symbols_at bytes p.1 >>= fifth c t k p.0 in
    let third : Counts → List ℕ → List CatchEntry × ℕ
    → Result (Record × ℕ) LoadError = λ c t k. pool_at bytes k.1 >>= fourth c t k.0 in
    let second : Counts → List ℕ × ℕ
    → Result (Record × ℕ) LoadError = λ c t. catches_at c.catches bytes t.1 >>= third c t.0 in
    let first : Counts × ℕ → Result (Record × ℕ) LoadError = λ c. text_at bytes c.1 >>= second c.0 in
    let c = bind_ok (counts_at version bytes at) first (x, next) e in
    let t = bind_ok (text_at bytes c.0.1) (second c.0.0) (x, next) c.2 in
    let k = bind_ok (catches_at c.0.0.catches bytes t.0.1) (third c.0.0 t.0.0) (x, next) t.2 in
    let p = bind_ok (pool_at bytes k.0.1) (fourth c.0.0 t.0.0 k.0.0) (x, next) k.2 in
    let s = bind_ok (symbols_at bytes p.0.1) (fifth c.0.0 t.0.0 k.0.0 p.0.0) (x, next) p.2 in
    let tc = (counts_field version).takes bytes at c.0.0 c.0.1 are c.1 in
    let tt' = text_field.takes bytes c.0.1 t.0.0 t.0.1 are t.1 in
    let tk = catches_take c.0.0.catches bytes t.0.1 k.0.0 k.0.1 are k.1 in
    let tp = pool_field.takes bytes k.0.1 p.0.0 p.0.1 are p.1 in
    let ts = symbols_field.takes bytes p.0.1 s.0.0 s.0.1 are s.1 in
    let made : Record = record_with c.0.0 t.0.0 k.0.0 p.0.0 s.0.0 in
    let same : c.0.0 ≡ counts_of made = ap (with_count c.0.0) (sym tk.1.0) in
    let counts : Takes bytes at (spelled_counts (counts_of made)) c.0.1 =
    subst (λ (d : Counts). Takes bytes at (spelled_counts d) c.0.1) same tc.0 in
    let all = Takes-then bytes at _ c.0.1 _ s.0.1 counts
    (Takes-then bytes c.0.1 _ t.0.1 _ s.0.1 tt'.0
    (Takes-then bytes t.0.1 _ k.0.1 _ s.0.1 tk.0 (Takes-then bytes k.0.1 _ p.0.1 _ s.0.1 tp.0 ts.0))) in
    let fit : IsRecord version made = record {
      counts = subst (AreCounts version) same tc.1;
      code = tt'.1;
      catches = tk.1.1;
      pool = tp.1;
      symbols = ts.1;
      childless = refl;
    } in
    subst (TookFields version bytes at) (ok_is (made, s.0.1) (x, next) s.2) (all, fit)

-- a record with these children in its body
abbrev with_no_children : Record → List ℕ → Record
with_no_children r none = record {
  body = record {
    locals = r.body.locals;
    registers = r.body.registers;
    code = r.body.code;
    catches = r.body.catches;
    pool = r.body.pool;
    symbols = r.body.symbols;
    children = none;
  };
  children = r.children;
}

fields_again : (version : ℕ) (bytes : List ℕ) (at : ℕ) (r : Record) (rest : List ℕ) → IsRecord version r
    → drop at bytes ≡ spelled_fields r ++ rest → fields_at version bytes at ≡ Ok (r, at + length (spelled_fields r))
unfolding fields_at
fields_again version bytes at r rest fit e =
    let symbols : List ℕ = counted text r.body.symbols in
    let pool : List ℕ = counted pool_item r.body.pool in
    let catches : List ℕ = flat_map catch_entry r.body.catches in
    let code : List ℕ = text r.body.code in
    let counts : List ℕ = spelled_counts (counts_of r) in
    let e0 : drop at bytes ≡ counts ++ (code ++ (catches ++ (pool ++ symbols)) ++ rest) = e
    ∙ append_assoc counts (code ++ (catches ++ (pool ++ symbols))) rest in
    let c = (counts_field version).again bytes at (counts_of r) _ fit.counts e0 in
    let e1 : drop (at + length counts) bytes ≡ code ++ ((catches ++ (pool ++ symbols)) ++ rest) =
    rest_at bytes at counts _ e0 ∙ append_assoc code (catches ++ (pool ++ symbols)) rest in
    let t = text_field.again bytes (at + length counts) r.body.code _ fit.code e1 in
    let e2 : drop (at + length counts + length code) bytes ≡ catches ++ ((pool ++ symbols) ++ rest) =
    rest_at bytes (at + length counts) code _ e1 ∙ append_assoc catches (pool ++ symbols) rest in
    let k = catches_again bytes (at + length counts + length code) r.body.catches _ fit.catches e2 in
    let e3 : drop (at + length counts + length code + length catches) bytes ≡ pool ++ (symbols ++ rest) =
    rest_at bytes (at + length counts + length code) catches _ e2 ∙ append_assoc pool symbols rest in
    let p = pool_field.again bytes (at + length counts + length code + length catches) r.body.pool _ fit.pool e3 in
    let e4 : drop (at + length counts + length code + length catches + length pool) bytes ≡ symbols ++ rest =
    rest_at bytes (at + length counts + length code + length catches) pool _ e3 in
    let s = symbols_field.again bytes (at + length counts + length code + length catches + length pool) r.body.symbols
    rest fit.symbols e4 in
    let end : at + length counts + length code + length catches + length pool + length symbols
    ≡ at + length (spelled_fields r) =
    omega (
      arith,
      length-append code (catches ++ (pool ++ symbols)),
      length-append catches (pool ++ symbols),
      length-append pool symbols,
    ) in
    rw (c, t, k, p, s) (ap (λ (n : ℕ). Ok (with_no_children r [], n)) end
    ∙ ap (λ (none : List ℕ). Ok (with_no_children r none, at + length (spelled_fields r))) (sym fit.childless))

pub fields_field : (version : ℕ) → IsField spelled_fields (IsRecord version) (fields_at version)
fields_field version = record { takes = fields_take version; again = fields_again version }

-- ---- a record

abbrev pub spelled_record : Record → List ℕ
spelled_record r = to_be_bytes w32 (length (spelled_fields r) + 4) ++ spelled_fields r

abbrev pub FitsRecord : ℕ → Record → Type 0
FitsRecord version r = IsRecord version r × (length (spelled_fields r) + 4 < 2 ^ 32)

four : IsField (to_be_bytes w32) (λ n. n < 2 ^ 32) (number_at w32)
four = number_field w32 (2 ^ 32) wide32

record_takes : (version : ℕ) (bytes : List ℕ) (at : ℕ) (x : Record) (next : ℕ) → IsBytes bytes
    → record_at version bytes at ≡ Ok (x, next) → Takes bytes at (spelled_record x) next × FitsRecord version x
unfolding record_at
record_takes version bytes at x next are e =
    let second : ℕ → Record × ℕ → Result (Record × ℕ) LoadError = λ n r. guarded (eqb (at + n) r.1) at r in
    let first : ℕ × ℕ → Result (Record × ℕ) LoadError = λ n. fields_at version bytes n.1 >>= second n.0 in
    let n = bind_ok (number_at w32 bytes at) first (x, next) e in
    let r = bind_ok (fields_at version bytes n.0.1) (second n.0.0) (x, next) n.2 in
    let g = guard_ok (eqb (at + n.0.0) r.0.1) at r.0 (x, next) r.2 in
    let tn = four.takes bytes at n.0.0 n.0.1 are n.1 in
    let tr = fields_take version bytes n.0.1 r.0.0 r.0.1 are r.1 in
    let all = Takes-then bytes at (to_be_bytes w32 n.0.0) n.0.1 (spelled_fields r.0.0) r.0.1 tn.0 tr.0 in
    let size : n.0.0 ≡ length (spelled_fields r.0.0) + 4 = omega (arith, eqb-true _ _ g.0, tn.0.place, tr.0.place) in
    let whole : Takes bytes at (spelled_record r.0.0) r.0.1 =
    subst (λ (k : ℕ). Takes bytes at (to_be_bytes w32 k ++ spelled_fields r.0.0) r.0.1) size all in
    subst (λ (p : Record × ℕ). Takes bytes at (spelled_record p.0) p.1 × FitsRecord version p.0) g.1
    (whole, (tr.1, omega (arith, size, tn.1)))

eqb-same : (n m : ℕ) → n ≡ m → eqb n m ≡ true
eqb-same n m e = search rules

record_again : (version : ℕ) (bytes : List ℕ) (at : ℕ) (r : Record) (rest : List ℕ) → FitsRecord version r
    → drop at bytes ≡ spelled_record r ++ rest → record_at version bytes at ≡ Ok (r, at + length (spelled_record r))
unfolding record_at
record_again version bytes at r rest fit e =
    let size : ℕ = length (spelled_fields r) + 4 in
    let parts : drop at bytes ≡ to_be_bytes w32 size ++ (spelled_fields r ++ rest) = e
    ∙ append_assoc (to_be_bytes w32 size) (spelled_fields r) rest in
    let n = four.again bytes at size _ fit.1 parts in
    let f = fields_again version bytes (at + 4) r rest fit.0 (rest_at bytes at (to_be_bytes w32 size) _ parts) in
    let same = eqb-same (at + size) (at + 4 + length (spelled_fields r)) (omega arith) in
    rw (n, f, same) (ap (λ (k : ℕ). Ok (r, k)) (omega arith))

pub record_field : (version : ℕ) → IsField spelled_record (FitsRecord version) (record_at version)
record_field version = record { takes = record_takes version; again = record_again version }

-- ---- records one after the other

-- where so many are awaited, these are all
abbrev pub Awaits : ℕ → List Record → Type 0
Awaits zero [] = Unit {0}
Awaits zero (r ∷ rs) = ⊥
Awaits (suc awaited) [] = ⊥
Awaits (suc awaited) (r ∷ rs) = Awaits (awaited + r.children) rs

pub record AreRecords (most version awaited : ℕ) (bytes : List ℕ) (at : ℕ) (rs : List Record) (next : ℕ) : Type 0 where
  pub takes : Takes bytes at (flat_map spelled_record rs) next
  pub few : length rs ≤ most
  pub each : AllByRecursion (FitsRecord version) rs
  pub awaits : Awaits awaited rs

abbrev FoundRecords : ℕ → ℕ → List Record → ℕ → List ℕ → ℕ → List Record × ℕ → Type 0
FoundRecords most version seen awaited bytes at y = (rs : List Record) × (y.0 ≡ seen ++ rs) × AreRecords most version
    awaited bytes at rs y.1

abbrev failed_record : ℕ → Result (List Record × ℕ) LoadError
failed_record at = guarded false at ([], at)

pub records_take : (most version : ℕ) (seen : List Record) (awaited : ℕ) (bytes : List ℕ) (at : ℕ)
    (y : List Record × ℕ) → IsBytes bytes → records_at most version seen awaited bytes at ≡ Ok y
    → FoundRecords most version seen awaited bytes at y
unfolding records_at
records_take zero version seen zero bytes at y are e =
    subst (FoundRecords 0 version seen 0 bytes at) (ok_is (seen, at) y e) (
      [],
      sym (append-nil seen),
      record {
        takes = record { parts = refl; place = omega arith };
        few = omega arith;
        each = tt;
        awaits = tt;
      },
    )
records_take (suc most) version seen zero bytes at y are e =
    subst (FoundRecords (suc most) version seen 0 bytes at) (ok_is (seen, at) y e) (
      [],
      sym (append-nil seen),
      record { takes = record { parts = refl; place = omega arith }; few = omega arith; each = tt; awaits = tt },
    )
records_take zero version seen (suc awaited) bytes at y are e = absurd cc
records_take (suc most) version seen (suc awaited) bytes at y are e =
    let first : Record × ℕ → Result (List Record × ℕ) LoadError = λ r. records_at most version (seen ++ r.0 ∷ [])
    (awaited + r.0.children) bytes r.1 in
    let r = bind_ok (record_at version bytes at) first y e in
    let t = record_takes version bytes at r.0.0 r.0.1 are r.1 in
    let others = records_take most version (seen ++ r.0.0 ∷ []) (awaited + r.0.0.children) bytes r.0.1 y are r.2 in
    let l = others.2 in
    let joined : Takes bytes at (flat_map spelled_record (r.0.0 ∷ others.0)) y.1 =
    rw flat_map-cons (Takes-then bytes at (spelled_record r.0.0) r.0.1 (flat_map spelled_record others.0) y.1 t.0
    l.takes) in (
      r.0.0 ∷ others.0,
      others.1 ∙ append_assoc seen (r.0.0 ∷ []) others.0,
      record {
        takes = joined;
        few = omega (arith, l.few);
        each = (t.1, l.each);
        awaits = l.awaits;
      },
    )

pub records_again : (most version : ℕ) (rs seen : List Record) (awaited : ℕ) (bytes : List ℕ) (at : ℕ) (rest : List ℕ)
    → length rs ≤ most → AllByRecursion (FitsRecord version) rs → Awaits awaited rs
    → drop at bytes ≡ flat_map spelled_record rs ++ rest
    → records_at most version seen awaited bytes at ≡ Ok (seen ++ rs, at + length (flat_map spelled_record rs))
unfolding records_at
records_again zero version [] seen zero bytes at rest few each awaits e =
    rw append-nil (ap (λ (k : ℕ). Ok (seen, k)) (omega arith))
records_again (suc most) version [] seen zero bytes at rest few each awaits e =
    rw append-nil (ap (λ (k : ℕ). Ok (seen, k)) (omega arith))
records_again most version [] seen (suc awaited) bytes at rest few each awaits e = absurd awaits
records_again most version (r ∷ rs) seen zero bytes at rest few each awaits e = absurd awaits
records_again zero version (r ∷ rs) seen (suc awaited) bytes at rest few each awaits e = absurd (omega (arith, few))
records_again (suc most) version (r ∷ rs) seen (suc awaited) bytes at rest few each awaits e =
    let parts : drop at bytes ≡ spelled_record r ++ (flat_map spelled_record rs ++ rest) = e
    ∙ ap (λ (t : List ℕ). t ++ rest) (flat_map-cons spelled_record r rs)
    ∙ append_assoc (spelled_record r) (flat_map spelled_record rs) rest in
    let one = record_again version bytes at r _ each.0 parts in
    let others = records_again most version rs (seen ++ r ∷ []) (awaited + r.children) bytes
    (at + length (spelled_record r)) rest (omega (arith, few)) each.1 awaits
    (rest_at bytes at (spelled_record r) _ parts) in
    let all : (seen ++ r ∷ []) ++ rs ≡ seen ++ r ∷ rs = append_assoc seen (r ∷ []) rs in
    let len : at + length (spelled_record r) + length (flat_map spelled_record rs)
    ≡ at + length (flat_map spelled_record (r ∷ rs)) =
    omega (
      arith,
      ap length (flat_map-cons spelled_record r rs),
      length-append (spelled_record r) (flat_map spelled_record rs),
    ) in
    rw (one, others, all, len) refl
