-- The first values alone.
use Rattle.std.proofs.Common.{◌≡◌, ◌≢◌, ℕ, zero, suc, ◌+◌, ◌-◌, ◌*◌, ◌<◌, ◌≤◌, ◌/◌, ◌%◌, List, [], ◌∷◌, ◌++◌, length, get_or, take, refl, ap, sym, ◌∙◌, arith, append-nil}
use Rattle.std.specs.Prelude.{slice_set}
use Rattle.std.specs.Global.{Vec}
use Rattle.std.proofs.lemmas.List.{take-append-le, length-take-le, get_or-take}
use Rattle.chunk_list.specs.Chunks.{joined, AreChunks}
use Rattle.chunk_list.proofs.Sizes.{of_one, of_more, place_of, first_chunk}
use Rattle.chunk_list.proofs.Places.{chunk_is_there}

module _ {T : Type 0} where
  take_after : (xs ys : List T) (n : ℕ) → take (length xs + n) (xs ++ ys) ≡ xs ++ take n ys
  take_after [] ys n = let e : length {A = T} [] + n ≡ n = omega arith in ap (λ k. take k ys) e
  take_after (x ∷ xs) ys n =
      let e : length (x ∷ xs) + n ≡ suc (length xs + n) = omega arith in
      ap (λ k. take k (x ∷ (xs ++ ys))) e ∙ ap (λ l. x ∷ l) (take_after xs ys n)

  -- so many past a full chunk
  past_chunk : (c : Vec T) (ys : List T) (q r : ℕ) → length c.items ≡ 1024
      → take (suc q * 1024 + r) (c.items ++ ys) ≡ c.items ++ take (q * 1024 + r) ys
  past_chunk c ys q r full =
      let e : suc q * 1024 + r ≡ length c.items + (q * 1024 + r) = omega (arith, full) in
      ap (λ n. take n (c.items ++ ys)) e ∙ take_after c.items ys (q * 1024 + r)

  -- whole chunks
  whole : (cs : List (Vec T)) (q : ℕ) → AreChunks cs → q * 1024 + 0 < length (joined cs)
      → joined (take q cs) ≡ take (q * 1024 + 0) (joined cs)
  whole [] q is lt = absurd (omega arith)
  whole (c ∷ []) zero is lt = refl
  whole (c ∷ []) (suc q) is lt = absurd (omega (arith, of_one c, is.1))
  whole (c ∷ e ∷ cs) zero is lt = refl
  whole (c ∷ e ∷ cs) (suc q) is lt =
      ap (λ l. c.items ++ l) (whole (e ∷ cs) q is.1 (omega (arith, is.0, of_more c (e ∷ cs))))
      ∙ sym (past_chunk c (joined (e ∷ cs)) q 0 is.0)

  whole_are : (cs : List (Vec T)) (q : ℕ) → AreChunks cs → q * 1024 + 0 < length (joined cs) → AreChunks (take q cs)
  whole_are [] zero is lt = is
  whole_are [] (suc q) is lt = is
  whole_are (c ∷ []) zero is lt = tt
  whole_are (c ∷ []) (suc q) is lt = absurd (omega (arith, of_one c, is.1))
  whole_are (c ∷ e ∷ cs) zero is lt = tt
  whole_are (c ∷ e ∷ cs) (suc zero) is lt = (omega (arith, is.0), omega (arith, is.0))
  whole_are (c ∷ e ∷ cs) (suc (suc q)) is lt =
      (is.0, whole_are (e ∷ cs) (suc q) is.1 (omega (arith, is.0, of_more c (e ∷ cs))))

  pub whole_chunks : (cs : List (Vec T)) (n : ℕ) → AreChunks cs → n < length (joined cs) → n % 1024 ≡ 0
      → (joined (take (n / 1024) cs) ≡ take n (joined cs)) × AreChunks (take (n / 1024) cs)
  whole_chunks cs n is lt full =
      let e : n / 1024 * 1024 + 0 ≡ n = omega (arith, place_of n, full) in (
        whole cs (n / 1024) is (omega (arith, e)) ∙ ap (λ k. take k (joined cs)) e,
        whole_are cs (n / 1024) is (omega (arith, e)),
      )

  -- and a part of the next one
  part : (cs : List (Vec T)) (q r : ℕ) (d v : Vec T) → AreChunks cs → r < 1024 → q * 1024 + r < length (joined cs)
      → v.items ≡ take r (get_or cs q d).items
      → joined (slice_set (take (suc q) cs) q v) ≡ take (q * 1024 + r) (joined cs)
  part [] q r d v is small lt e = absurd (omega arith)
  part (c ∷ []) zero r d v is small lt e =
      append-nil v.items ∙ e ∙ ap (λ l. take r l) (sym (append-nil c.items))
      ∙ ap (λ n. take n (c.items ++ [])) (first_chunk r)
  part (c ∷ []) (suc q) r d v is small lt e = absurd (omega (arith, of_one c, is.1))
  part (c ∷ f ∷ cs) zero r d v is small lt e =
      append-nil v.items ∙ e ∙ sym (take-append-le r c.items (joined (f ∷ cs)) (omega (arith, is.0)))
      ∙ ap (λ n. take n (joined (c ∷ f ∷ cs))) (first_chunk r)
  part (c ∷ f ∷ cs) (suc q) r d v is small lt e =
      ap (λ l. c.items ++ l) (part (f ∷ cs) q r d v is.1 small (omega (arith, is.0, of_more c (f ∷ cs))) e)
      ∙ sym (past_chunk c (joined (f ∷ cs)) q r is.0)

  is_last : (v : Vec T) (xs : List T) (r : ℕ) → 0 < r → r < 1024 → r ≤ length xs → v.items ≡ take r xs
      → AreChunks (v ∷ [])
  is_last v xs r low small le e =
      let n : length v.items ≡ r = ap length e ∙ length-take-le r xs le in
      (omega (arith, n), omega (arith, n))

  part_are : (cs : List (Vec T)) (q r : ℕ) (d v : Vec T) → AreChunks cs → 0 < r → r < 1024
      → q * 1024 + r < length (joined cs) → v.items ≡ take r (get_or cs q d).items
      → AreChunks (slice_set (take (suc q) cs) q v)
  part_are [] q r d v is low small lt e = absurd (omega arith)
  part_are (c ∷ []) zero r d v is low small lt e = is_last v c.items r low small (omega (arith, of_one c)) e
  part_are (c ∷ []) (suc q) r d v is low small lt e = absurd (omega (arith, of_one c, is.1))
  part_are (c ∷ f ∷ cs) zero r d v is low small lt e = is_last v c.items r low small (omega (arith, is.0)) e
  part_are (c ∷ f ∷ cs) (suc zero) r d v is low small lt e =
      (is.0, part_are (f ∷ cs) zero r d v is.1 low small (omega (arith, is.0, of_more c (f ∷ cs))) e)
  part_are (c ∷ f ∷ cs) (suc (suc q)) r d v is low small lt e =
      (is.0, part_are (f ∷ cs) (suc q) r d v is.1 low small (omega (arith, is.0, of_more c (f ∷ cs))) e)

  pub last_is_there : (cs : List (Vec T)) (n : ℕ) → AreChunks cs → n < length (joined cs)
      → n / 1024 < length (take (n / 1024 + 1) cs)
  last_is_there cs n is lt =
      let there : n / 1024 < length cs = chunk_is_there cs n is lt in
      omega (arith, length-take-le (n / 1024 + 1) cs (omega arith))

  pub part_of_chunk : (cs : List (Vec T)) (n : ℕ) (d v : Vec T) → AreChunks cs → n < length (joined cs) → n % 1024 ≢ 0
      → d ≡ get_or (take (n / 1024 + 1) cs) (n / 1024) d → v.items ≡ take (n % 1024) d.items
      → (joined (slice_set (take (n / 1024 + 1) cs) (n / 1024) v) ≡ take n (joined cs))
      × AreChunks (slice_set (take (n / 1024 + 1) cs) (n / 1024) v)
  part_of_chunk cs n d v is lt within e f =
      let one : n / 1024 + 1 ≡ suc (n / 1024) = omega arith in
      let at : d ≡ get_or cs (n / 1024) d = e ∙ get_or-take (n / 1024 + 1) cs (n / 1024) d (omega arith) in
      let has : v.items ≡ take (n % 1024) (get_or cs (n / 1024) d).items = f ∙ ap (λ c. take (n % 1024) c.items) at in
      let inside : n / 1024 * 1024 + n % 1024 < length (joined cs) = omega (arith, place_of n) in
      rw one (
        part cs (n / 1024) (n % 1024) d v is (omega arith) inside has
            ∙ ap (λ k. take k (joined cs)) (place_of n),
        part_are cs (n / 1024) (n % 1024) d v is (omega arith) (omega arith) inside has,
      )
