-- Where a value lies.
use Rattle.std.proofs.Common.{◌≡◌, ℕ, zero, suc, ◌+◌, ◌-◌, ◌*◌, ◌<◌, ◌/◌, ◌%◌, List, [], ◌∷◌, length, get_or, ap, sym, ◌∙◌, arith}
use Rattle.std.specs.Global.{Vec}
use Rattle.std.proofs.lemmas.List.{get_or_append_left, get_or-append_right}
use Rattle.chunk_list.specs.Chunks.{joined, AreChunks}
use Rattle.chunk_list.proofs.Sizes.{of_one, of_more, place_of, in_chunk, first_chunk}

module _ {T : Type 0} where
  -- the chunk is there
  there : (cs : List (Vec T)) (q r : ℕ) → AreChunks cs → q * 1024 + r < length (joined cs) → q < length cs
  there [] q r is lt = absurd (omega arith)
  there (c ∷ []) zero r is lt = omega arith
  there (c ∷ []) (suc q) r is lt = absurd (omega (arith, of_one c, is.1))
  there (c ∷ e ∷ cs) zero r is lt = omega arith
  there (c ∷ e ∷ cs) (suc q) r is lt =
      omega (arith, there (e ∷ cs) q r is.1 (omega (arith, is.0, of_more c (e ∷ cs))))

  -- and has the place
  within : (cs : List (Vec T)) (q r : ℕ) (d : Vec T) → AreChunks cs → r < 1024 → q * 1024 + r < length (joined cs)
      → r < length (get_or cs q d).items
  within [] q r d is small lt = absurd (omega arith)
  within (c ∷ []) zero r d is small lt = omega (arith, of_one c)
  within (c ∷ []) (suc q) r d is small lt = absurd (omega (arith, of_one c, is.1))
  within (c ∷ e ∷ cs) zero r d is small lt = omega (arith, is.0)
  within (c ∷ e ∷ cs) (suc q) r d is small lt =
      within (e ∷ cs) q r d is.1 small (omega (arith, is.0, of_more c (e ∷ cs)))

  read : (cs : List (Vec T)) (q r : ℕ) (d : Vec T) (x : T) → AreChunks cs → r < 1024 → q * 1024 + r < length (joined cs)
      → get_or (joined cs) (q * 1024 + r) x ≡ get_or (get_or cs q d).items r x
  read [] q r d x is small lt = absurd (omega arith)
  read (c ∷ []) zero r d x is small lt =
      rw (← first_chunk r) (get_or_append_left c.items [] x r (omega (arith, of_one c)))
  read (c ∷ []) (suc q) r d x is small lt = absurd (omega (arith, of_one c, is.1))
  read (c ∷ e ∷ cs) zero r d x is small lt =
      rw (← first_chunk r) (get_or_append_left c.items (joined (e ∷ cs)) x r (omega (arith, is.0)))
  read (c ∷ e ∷ cs) (suc q) r d x is small lt =
      let at : suc q * 1024 + r - 1024 ≡ q * 1024 + r = omega arith in
      get_or-append_right c.items (joined (e ∷ cs)) 1024 (suc q * 1024 + r) x is.0 (omega arith)
      ∙ ap (λ n. get_or (joined (e ∷ cs)) n x) at
      ∙ read (e ∷ cs) q r d x is.1 small (omega (arith, is.0, of_more c (e ∷ cs)))

  -- the same by the place in the list
  pub chunk_is_there : (cs : List (Vec T)) (i : ℕ) → AreChunks cs → i < length (joined cs) → i / 1024 < length cs
  chunk_is_there cs i is lt = there cs (i / 1024) (i % 1024) is (omega (arith, place_of i))

  pub place_is_there : (cs : List (Vec T)) (i : ℕ) (d : Vec T) → AreChunks cs → i < length (joined cs)
      → i % 1024 < length (get_or cs (i / 1024) d).items
  place_is_there cs i d is lt = within cs (i / 1024) (i % 1024) d is (in_chunk i) (omega (arith, place_of i))

  pub read_at : (cs : List (Vec T)) (i : ℕ) (d : Vec T) (x : T) → AreChunks cs → i < length (joined cs)
      → get_or (joined cs) i x ≡ get_or (get_or cs (i / 1024) d).items (i % 1024) x
  read_at cs i d x is lt = ap (λ n. get_or (joined cs) n x) (sym (place_of i))
      ∙ read cs (i / 1024) (i % 1024) d x is (in_chunk i) (omega (arith, place_of i))
