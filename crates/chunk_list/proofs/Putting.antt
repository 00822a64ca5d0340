-- A value that is put at the end.
use Rattle.std.proofs.Common.{◌≡◌, ◌≢◌, ℕ, zero, suc, ◌+◌, ◌-◌, ◌*◌, ◌<◌, ◌/◌, ◌%◌, List, [], ◌∷◌, ◌++◌, length, get_or, refl, ap, sym, ◌∙◌, arith, length-append, append_assoc, append-nil}
use Rattle.std.specs.Prelude.{slice_set}
use Rattle.std.specs.Global.{Vec}
use Rattle.chunk_list.specs.Chunks.{joined, AreChunks}
use Rattle.chunk_list.proofs.Sizes.{of_one, of_more, place_of}

module _ {T : Type 0} where
  -- one chunk more
  joined_more : (cs : List (Vec T)) (v : Vec T) → joined (cs ++ v ∷ []) ≡ joined cs ++ v.items
  joined_more [] v = append-nil v.items
  joined_more (c ∷ cs) v = ap (λ l. c.items ++ l) (joined_more cs v) ∙ sym (append_assoc c.items (joined cs) v.items)

  chunks_more : (cs : List (Vec T)) (q : ℕ) (v : Vec T) → AreChunks cs → q * 1024 ≡ length (joined cs)
      → length v.items ≡ 1 → AreChunks (cs ++ v ∷ [])
  chunks_more [] q v is at e = (omega arith, omega arith)
  chunks_more (c ∷ []) zero v is at e = absurd (omega (arith, of_one c, is.0))
  chunks_more (c ∷ []) (suc zero) v is at e = (omega (arith, of_one c), (omega arith, omega arith))
  chunks_more (c ∷ []) (suc (suc q)) v is at e = absurd (omega (arith, of_one c, is.1))
  chunks_more (c ∷ f ∷ cs) zero v is at e = absurd (omega (arith, is.0, of_more c (f ∷ cs)))
  chunks_more (c ∷ f ∷ cs) (suc q) v is at e =
      (is.0, chunks_more (f ∷ cs) q v is.1 (omega (arith, is.0, of_more c (f ∷ cs))) e)

  pub opened : (cs : List (Vec T)) (n : ℕ) (v : Vec T) (x : T) → AreChunks cs → n ≡ length (joined cs) → n % 1024 ≡ 0
      → v.items ≡ x ∷ [] → (joined (cs ++ v ∷ []) ≡ joined cs ++ x ∷ []) × AreChunks (cs ++ v ∷ [])
  opened cs n v x is at full e =
      (joined_more cs v ∙ ap (λ l. joined cs ++ l) e, chunks_more cs (n / 1024) v is (omega arith) (ap length e))

  -- a value more in the last chunk
  there : (cs : List (Vec T)) (n q r : ℕ) → AreChunks cs → n ≡ length (joined cs) → n ≡ q * 1024 + r → 0 < r
      → q < length cs
  there [] n q r is at e low = absurd (omega arith)
  there (c ∷ []) n zero r is at e low = omega arith
  there (c ∷ []) n (suc q) r is at e low = absurd (omega (arith, of_one c, is.1))
  there (c ∷ f ∷ cs) n zero r is at e low = omega arith
  there (c ∷ f ∷ cs) n (suc q) r is at e low = omega (
    arith,
    there (f ∷ cs) (n - 1024) q r is.1 (omega (arith, is.0, of_more c (f ∷ cs))) (omega arith) low,
  )

  fill : (cs : List (Vec T)) (q r : ℕ) (d v : Vec T) (x : T) → AreChunks cs → 0 < r → r < 1024
      → q * 1024 + r ≡ length (joined cs) → v.items ≡ (get_or cs q d).items ++ x ∷ []
      → joined (slice_set cs q v) ≡ joined cs ++ x ∷ []
  fill [] q r d v x is low high at e = absurd (omega arith)
  fill (c ∷ []) zero r d v x is low high at e = rw (append-nil v.items, append-nil c.items) e
  fill (c ∷ []) (suc q) r d v x is low high at e = absurd (omega (arith, of_one c, is.1))
  fill (c ∷ f ∷ cs) zero r d v x is low high at e = absurd (omega (arith, is.0, of_more c (f ∷ cs)))
  fill (c ∷ f ∷ cs) (suc q) r d v x is low high at e =
      ap (λ l. c.items ++ l) (fill (f ∷ cs) q r d v x is.1 low high (omega (arith, is.0, of_more c (f ∷ cs))) e)
      ∙ sym (append_assoc c.items (joined (f ∷ cs)) (x ∷ []))

  still_chunks : (cs : List (Vec T)) (q r : ℕ) (d v : Vec T) (x : T) → AreChunks cs → 0 < r → r < 1024
      → q * 1024 + r ≡ length (joined cs) → v.items ≡ (get_or cs q d).items ++ x ∷ [] → AreChunks (slice_set cs q v)
  still_chunks [] q r d v x is low high at e = is
  still_chunks (c ∷ []) zero r d v x is low high at e =
      let n : length v.items ≡ length c.items + 1 = ap length e ∙ length-append c.items (x ∷ []) in
      (omega arith, omega (arith, of_one c))
  still_chunks (c ∷ []) (suc q) r d v x is low high at e = is
  still_chunks (c ∷ f ∷ cs) zero r d v x is low high at e = absurd (omega (arith, is.0, of_more c (f ∷ cs)))
  still_chunks (c ∷ f ∷ cs) (suc zero) r d v x is low high at e =
      (is.0, still_chunks (f ∷ cs) zero r d v x is.1 low high (omega (arith, is.0, of_more c (f ∷ cs))) e)
  still_chunks (c ∷ f ∷ cs) (suc (suc q)) r d v x is low high at e =
      (is.0, still_chunks (f ∷ cs) (suc q) r d v x is.1 low high (omega (arith, is.0, of_more c (f ∷ cs))) e)

  pub last_is_there : (cs : List (Vec T)) (n : ℕ) → AreChunks cs → n ≡ length (joined cs) → n % 1024 ≢ 0
      → n / 1024 < length cs
  last_is_there cs n is at room = there cs n (n / 1024) (n % 1024) is at (omega (arith, place_of n)) (omega arith)

  pub filled : (cs : List (Vec T)) (n : ℕ) (d v : Vec T) (x : T) → AreChunks cs → n ≡ length (joined cs) → n % 1024 ≢ 0
      → d ≡ get_or cs (n / 1024) d → v.items ≡ d.items ++ x ∷ []
      → (joined (slice_set cs (n / 1024) v) ≡ joined cs ++ x ∷ []) × AreChunks (slice_set cs (n / 1024) v)
  filled cs n d v x is at room e f =
      let h : v.items ≡ (get_or cs (n / 1024) d).items ++ x ∷ [] = f ∙ ap (λ c. c.items ++ x ∷ []) e in (
        fill cs (n / 1024) (n % 1024) d v x is (omega arith) (omega arith) (omega (arith, place_of n)) h,
        still_chunks cs (n / 1024) (n % 1024) d v x is (omega arith) (omega arith) (omega (arith, place_of n)) h,
      )

  -- a chunk that has the same values as before
  same_joined : (cs : List (Vec T)) (q : ℕ) (d v : Vec T) → v.items ≡ (get_or cs q d).items
      → joined (slice_set cs q v) ≡ joined cs
  same_joined [] q d v e = refl
  same_joined (c ∷ cs) zero d v e = ap (λ l. l ++ joined cs) e
  same_joined (c ∷ cs) (suc q) d v e = ap (λ l. c.items ++ l) (same_joined cs q d v e)

  same_chunks : (cs : List (Vec T)) (q : ℕ) (d v : Vec T) → AreChunks cs → v.items ≡ (get_or cs q d).items
      → AreChunks (slice_set cs q v)
  same_chunks [] q d v is e = is
  same_chunks (c ∷ []) zero d v is e = (omega (arith, is.0, ap length e), omega (arith, is.1, ap length e))
  same_chunks (c ∷ []) (suc q) d v is e = is
  same_chunks (c ∷ f ∷ cs) zero d v is e = (ap length e ∙ is.0, is.1)
  same_chunks (c ∷ f ∷ cs) (suc zero) d v is e = (is.0, same_chunks (f ∷ cs) zero d v is.1 e)
  same_chunks (c ∷ f ∷ cs) (suc (suc q)) d v is e = (is.0, same_chunks (f ∷ cs) (suc q) d v is.1 e)

  pub refused : (cs : List (Vec T)) (q : ℕ) (d v : Vec T) → AreChunks cs → d ≡ get_or cs q d → v.items ≡ d.items
      → (joined (slice_set cs q v) ≡ joined cs) × AreChunks (slice_set cs q v)
  refused cs q d v is e f =
      let h : v.items ≡ (get_or cs q d).items = f ∙ ap (λ c. c.items) e in
      (same_joined cs q d v h, same_chunks cs q d v is h)
