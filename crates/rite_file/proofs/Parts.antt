-- The parts of a record: what is read is what was written, and what was written is read again.
use Rattle.std.proofs.Common.{◌≡◌, ℕ, ℤ, zero, suc, ◌+◌, ◌^◌, ◌<◌, Bool, true, false, cond, ltb, eqb, List, [], ◌∷◌, ◌++◌, length, drop, refl, sym, ap, subst, ◌∙◌, arith}
use Rattle.std.specs.Prelude.{Result, Ok}
use Rattle.std.specs.Int.{w8, w16, w32, to_be_bytes}
use Rattle.std.proofs.lemmas.Bool.{ltb-true, eqb-true}
use Rattle.rite_code.specs.declared.code.CatchEntry.{CatchEntry}
use Rattle.rite_code.specs.declared.code.PoolItem.{PoolItem}
use Rattle.rite_code.specs.declared.code.PoolItem.TheVariants.{Int, Text}
use Rattle.rite_file.specs.declared.error.LoadError.{LoadError}
use Rattle.rite_file.specs.declared.counts.Counts.{Counts}
use Rattle.rite_file.specs.File.{text, kind, catch_entry, pool_item, IsInteger, IsHeldEntry}
use Rattle.rb_base.specs.Result.{◌>>=◌}
use Rattle.rite_file.specs.Record.{number_at, tested_at, text_at, int_at, are_registers, counts_at, catch_at, item_at}
use Rattle.rite_file.proofs.Fields.{IsBytes, bind_ok, ok_is, Takes, Takes-then, rest_at, IsField, wide8, wide16, wide32, number_field, IsTested, tested_field, IsShort, text_field, integer, int_field}

abbrev two : IsField (to_be_bytes w16) (λ n. n < 2 ^ 16) (number_at w16)
two = number_field w16 (2 ^ 16) wide16

abbrev four : IsField (to_be_bytes w32) (λ n. n < 2 ^ 32) (number_at w32)
four = number_field w32 (2 ^ 32) wide32

-- ---- counts

abbrev pub spelled_counts : Counts → List ℕ
spelled_counts c = to_be_bytes w16 c.locals
    ++ (to_be_bytes w16 c.registers ++ (to_be_bytes w16 c.children ++ to_be_bytes w16 c.catches))

pub record AreCounts (version : ℕ) (c : Counts) : Type 0 where
  pub locals : IsTested (2 ^ 16) (ltb 0) c.locals
  pub registers : IsTested (2 ^ 16) (are_registers version c.locals) c.registers
  pub children : c.children < 2 ^ 16
  pub catches : c.catches < 2 ^ 16

counts_take : (version : ℕ) (bytes : List ℕ) (at : ℕ) (x : Counts) (next : ℕ) → IsBytes bytes
    → counts_at version bytes at ≡ Ok (x, next) → Takes bytes at (spelled_counts x) next × AreCounts version x
unfolding counts_at
counts_take version bytes at x next fits e =
    let fourth : ℕ → ℕ → ℕ → ℕ × ℕ → Result (Counts × ℕ) LoadError = λ l r c n. Ok (
      record {
        locals = l;
        registers = r;
        children = c;
        catches = n.0;
      },
      n.1,
    ) in
    let third : ℕ → ℕ → ℕ × ℕ → Result (Counts × ℕ) LoadError = λ l r c. number_at w16 bytes c.1 >>= fourth l r c.0 in
    let second : ℕ → ℕ × ℕ → Result (Counts × ℕ) LoadError = λ l r. number_at w16 bytes r.1 >>= third l r.0 in
    let first : ℕ × ℕ → Result (Counts × ℕ) LoadError = λ l. tested_at w16 (are_registers version l.0) bytes l.1 >>=
    second l.0 in
    let l = bind_ok (tested_at w16 (ltb 0) bytes at) first (x, next) e in
    let r = bind_ok (tested_at w16 (are_registers version l.0.0) bytes l.0.1) (second l.0.0) (x, next) l.2 in
    let c = bind_ok (number_at w16 bytes r.0.1) (third l.0.0 r.0.0) (x, next) r.2 in
    let n = bind_ok (number_at w16 bytes c.0.1) (fourth l.0.0 r.0.0 c.0.0) (x, next) c.2 in
    let tl = (tested_field w16 (2 ^ 16) wide16 (ltb 0)).takes bytes at l.0.0 l.0.1 fits l.1 in
    let tr = (tested_field w16 (2 ^ 16) wide16 (are_registers version l.0.0)).takes bytes l.0.1 r.0.0 r.0.1 fits r.1 in
    let tc = two.takes bytes r.0.1 c.0.0 c.0.1 fits c.1 in
    let tn = two.takes bytes c.0.1 n.0.0 n.0.1 fits n.1 in
    let made : Counts = record { locals = l.0.0; registers = r.0.0; children = c.0.0; catches = n.0.0 } in
    let all = Takes-then bytes at _ l.0.1 _ n.0.1 tl.0
    (Takes-then bytes l.0.1 _ r.0.1 _ n.0.1 tr.0 (Takes-then bytes r.0.1 _ c.0.1 _ n.0.1 tc.0 tn.0)) in
    let fit : AreCounts version made = record { locals = tl.1; registers = tr.1; children = tc.1; catches = tn.1 } in
    subst (λ (p : Counts × ℕ). Takes bytes at (spelled_counts p.0) p.1 × AreCounts version p.0)
    (ok_is (made, n.0.1) (x, next) n.2) (all, fit)

counts_again : (version : ℕ) (bytes : List ℕ) (at : ℕ) (x : Counts) (rest : List ℕ) → AreCounts version x
    → drop at bytes ≡ spelled_counts x ++ rest → counts_at version bytes at ≡ Ok (x, at + length (spelled_counts x))
unfolding counts_at
counts_again version bytes at x rest fit e =
    let l = (tested_field w16 (2 ^ 16) wide16 (ltb 0)).again bytes at x.locals _ fit.locals e in
    let el = rest_at bytes at (to_be_bytes w16 x.locals) _ e in
    let r = (tested_field w16 (2 ^ 16) wide16 (are_registers version x.locals)).again bytes (at + 2) x.registers _
    fit.registers el in
    let er = rest_at bytes (at + 2) (to_be_bytes w16 x.registers) _ el in
    let c = two.again bytes (at + 2 + 2) x.children _ fit.children er in
    let ec = rest_at bytes (at + 2 + 2) (to_be_bytes w16 x.children) _ er in
    let n = two.again bytes (at + 2 + 2 + 2) x.catches _ fit.catches ec in
    rw (l, r, c, n) (ap (λ (k : ℕ). Ok (x, k)) (omega arith))

pub counts_field : (version : ℕ) → IsField spelled_counts (AreCounts version) (counts_at version)
counts_field version = record { takes = counts_take version; again = counts_again version }

-- ---- catch entries

is_kind : ℕ → Bool
is_kind n = ltb n 2

kind_back : (n : ℕ) → n < 2 → kind (eqb n 0) ≡ n
kind_back zero h = refl
kind_back (suc zero) h = refl
kind_back (suc (suc n)) h = absurd (omega (arith, h))

kind_again : (rescue : Bool) → eqb (kind rescue) 0 ≡ rescue
kind_again true = refl
kind_again false = refl

kind_fits : (rescue : Bool) → IsTested 256 (λ n. ltb n 2) (kind rescue)
kind_fits true = (omega arith, refl)
kind_fits false = (omega arith, refl)

one_byte : (n : ℕ) → n < 256 → to_be_bytes w8 n ≡ n ∷ []
one_byte n h = ap (λ (k : ℕ). k ∷ []) (omega (arith, h))

catch_takes : (bytes : List ℕ) (at : ℕ) (x : CatchEntry) (next : ℕ) → IsBytes bytes → catch_at bytes at ≡ Ok (x, next)
    → Takes bytes at (catch_entry x) next × IsHeldEntry x
unfolding catch_at
catch_takes bytes at x next fits e =
    let fourth : ℕ → ℕ → ℕ → ℕ × ℕ → Result (CatchEntry × ℕ) LoadError = λ k b d n. Ok (
      record {
        rescue = eqb k 0;
        begin = b;
        end = d;
        target = n.0;
      },
      n.1,
    ) in
    let third : ℕ → ℕ → ℕ × ℕ
    → Result (CatchEntry × ℕ) LoadError = λ k b d. number_at w32 bytes d.1 >>= fourth k b d.0 in
    let second : ℕ → ℕ × ℕ → Result (CatchEntry × ℕ) LoadError = λ k b. number_at w32 bytes b.1 >>= third k b.0 in
    let first : ℕ × ℕ → Result (CatchEntry × ℕ) LoadError = λ k. number_at w32 bytes k.1 >>= second k.0 in
    let k = bind_ok (tested_at w8 (λ n. ltb n 2) bytes at) first (x, next) e in
    let b = bind_ok (number_at w32 bytes k.0.1) (second k.0.0) (x, next) k.2 in
    let d = bind_ok (number_at w32 bytes b.0.1) (third k.0.0 b.0.0) (x, next) b.2 in
    let n = bind_ok (number_at w32 bytes d.0.1) (fourth k.0.0 b.0.0 d.0.0) (x, next) d.2 in
    let tk = (tested_field w8 256 wide8 (λ m. ltb m 2)).takes bytes at k.0.0 k.0.1 fits k.1 in
    let tb = four.takes bytes k.0.1 b.0.0 b.0.1 fits b.1 in
    let td = four.takes bytes b.0.1 d.0.0 d.0.1 fits d.1 in
    let tn = four.takes bytes d.0.1 n.0.0 n.0.1 fits n.1 in
    let made : CatchEntry = record { rescue = eqb k.0.0 0; begin = b.0.0; end = d.0.0; target = n.0.0 } in
    let k-is : to_be_bytes w8 k.0.0 ≡ kind (eqb k.0.0 0) ∷ [] = one_byte k.0.0 tk.1.0
    ∙ ap (λ (m : ℕ). m ∷ []) (sym (kind_back k.0.0 (ltb-true k.0.0 2 tk.1.1))) in
    let tkind : Takes bytes at (kind (eqb k.0.0 0) ∷ []) k.0.1 = subst (λ (p : List ℕ). Takes bytes at p k.0.1) k-is
    tk.0 in
    let all = Takes-then bytes at _ k.0.1 _ n.0.1 tkind
    (Takes-then bytes k.0.1 _ b.0.1 _ n.0.1 tb.0 (Takes-then bytes b.0.1 _ d.0.1 _ n.0.1 td.0 tn.0)) in
    let fit : IsHeldEntry made = record { begin = tb.1; end = td.1; target = tn.1 } in
    subst (λ (p : CatchEntry × ℕ). Takes bytes at (catch_entry p.0) p.1 × IsHeldEntry p.0)
    (ok_is (made, n.0.1) (x, next) n.2) (all, fit)

catch_again : (bytes : List ℕ) (at : ℕ) (x : CatchEntry) (rest : List ℕ) → IsHeldEntry x
    → drop at bytes ≡ catch_entry x ++ rest → catch_at bytes at ≡ Ok (x, at + length (catch_entry x))
unfolding catch_at
catch_again bytes at x rest fit e =
    let kf = kind_fits x.rescue in
    let ek : drop at bytes ≡ to_be_bytes w8 (kind x.rescue)
    ++ (to_be_bytes w32 x.begin ++ (to_be_bytes w32 x.end ++ to_be_bytes w32 x.target) ++ rest) = e
    ∙ ap (λ (p : List ℕ). p ++ (to_be_bytes w32 x.begin ++ (to_be_bytes w32 x.end ++ to_be_bytes w32 x.target)
    ++ rest)) (sym (one_byte (kind x.rescue) kf.0)) in
    let k = (tested_field w8 256 wide8 (λ m. ltb m 2)).again bytes at (kind x.rescue) _ kf ek in
    let eb = rest_at bytes at (to_be_bytes w8 (kind x.rescue)) _ ek in
    let b = four.again bytes (at + 1) x.begin _ fit.begin eb in
    let ed = rest_at bytes (at + 1) (to_be_bytes w32 x.begin) _ eb in
    let d = four.again bytes (at + 1 + 4) x.end _ fit.end ed in
    let en = rest_at bytes (at + 1 + 4) (to_be_bytes w32 x.end) _ ed in
    let n = four.again bytes (at + 1 + 4 + 4) x.target _ fit.target en in
    rw (k, b, d, n, kind_again x.rescue) (ap (λ (m : ℕ). Ok (x, m)) (omega arith))

pub catch_field : IsField catch_entry IsHeldEntry catch_at
catch_field = record { takes = catch_takes; again = catch_again }

-- ---- pool entries

-- a text is short, an integer of 64 bits
abbrev pub FitsItem : PoolItem → Type 0
FitsItem (Text x) = IsShort x
FitsItem (Int n) = IsInteger n

tag_is : (n : ℕ) → n < 2 → eqb n 0 ≡ false → n ≡ 1
tag_is zero h e = absurd cc
tag_is (suc zero) h e = refl
tag_is (suc (suc n)) h e = absurd (omega (arith, h))

abbrev as_text : List ℕ × ℕ → Result (PoolItem × ℕ) LoadError
as_text x = Ok (Text x.0, x.1)

abbrev as_int : ℤ × ℕ → Result (PoolItem × ℕ) LoadError
as_int n = Ok (Int n.0, n.1)

abbrev TookItem : List ℕ → ℕ → PoolItem × ℕ → Type 0
TookItem bytes at p = Takes bytes at (pool_item p.0) p.1 × FitsItem p.0

item_by : (bytes : List ℕ) (at tag from : ℕ) (is_text : Bool) (x : PoolItem) (next : ℕ) → IsBytes bytes
    → is_text ≡ eqb tag 0 → tag < 2 → Takes bytes at (tag ∷ []) from
    → cond is_text (text_at bytes from >>= as_text) (int_at bytes from >>= as_int) ≡ Ok (x, next)
    → TookItem bytes at (x, next)
item_by bytes at tag from true x next fits t small taken e =
    let b = bind_ok (text_at bytes from) as_text (x, next) e in
    let u = text_field.takes bytes from b.0.0 b.0.1 fits b.1 in
    let zero-is : tag ≡ 0 = eqb-true tag 0 (sym t) in
    let whole = Takes-then bytes at (tag ∷ []) from (text b.0.0) b.0.1 taken u.0 in
    subst (TookItem bytes at) (ok_is (Text b.0.0, b.0.1) (x, next) b.2)
    (subst (λ (k : ℕ). Takes bytes at (k ∷ text b.0.0) b.0.1) zero-is whole, u.1)
item_by bytes at tag from false x next fits t small taken e =
    let b = bind_ok (int_at bytes from) as_int (x, next) e in
    let u = int_field.takes bytes from b.0.0 b.0.1 fits b.1 in
    let whole = Takes-then bytes at (tag ∷ []) from (integer b.0.0) b.0.1 taken u.0 in
    subst (TookItem bytes at) (ok_is (Int b.0.0, b.0.1) (x, next) b.2)
    (subst (λ (k : ℕ). Takes bytes at (k ∷ integer b.0.0) b.0.1) (tag_is tag small (sym t)) whole, u.1)

item_takes : (bytes : List ℕ) (at : ℕ) (x : PoolItem) (next : ℕ) → IsBytes bytes → item_at bytes at ≡ Ok (x, next)
    → TookItem bytes at (x, next)
unfolding item_at
item_takes bytes at x next fits e =
    let t = bind_ok (tested_at w8 (λ n. ltb n 2) bytes at)
    (λ tag. cond (eqb tag.0 0) (text_at bytes tag.1 >>= as_text) (int_at bytes tag.1 >>= as_int)) (x, next) e in
    let u = (tested_field w8 256 wide8 (λ m. ltb m 2)).takes bytes at t.0.0 t.0.1 fits t.1 in
    let taken : Takes bytes at (t.0.0 ∷ []) t.0.1 = subst (λ (p : List ℕ). Takes bytes at p t.0.1)
    (one_byte t.0.0 u.1.0) u.0 in
    item_by bytes at t.0.0 t.0.1 (eqb t.0.0 0) x next fits refl (ltb-true t.0.0 2 u.1.1) taken t.2

item_again : (bytes : List ℕ) (at : ℕ) (x : PoolItem) (rest : List ℕ) → FitsItem x
    → drop at bytes ≡ pool_item x ++ rest → item_at bytes at ≡ Ok (x, at + length (pool_item x))
unfolding item_at
item_again bytes at (Text x) rest fit e =
    let t = (tested_field w8 256 wide8 (λ m. ltb m 2)).again bytes at 0 (text x ++ rest) (omega arith, refl) e in
    let f = text_field.again bytes (at + 1) x rest fit (rest_at bytes at (0 ∷ []) (text x ++ rest) e) in
    rw (t, f) (ap (λ (m : ℕ). Ok (Text x, m)) (omega arith))
item_again bytes at (Int n) rest fit e =
    let t = (tested_field w8 256 wide8 (λ m. ltb m 2)).again bytes at 1 (integer n ++ rest) (omega arith, refl) e in
    let f = int_field.again bytes (at + 1) n rest fit (rest_at bytes at (1 ∷ []) (integer n ++ rest) e) in
    rw (t, f) (ap (λ (m : ℕ). Ok (Int n, m)) (omega arith))

pub item_field : IsField pool_item FitsItem item_at
item_field = record { takes = item_takes; again = item_again }
