-- A value that is put in the place of another.
use Rattle.std.proofs.Common.{◌≡◌, ℕ, zero, suc, ◌+◌, ◌-◌, ◌*◌, ◌<◌, ◌/◌, ◌%◌, List, [], ◌∷◌, ◌++◌, length, get_or, ap, sym, ◌∙◌, subst, arith}
use Rattle.std.specs.Prelude.{slice_set}
use Rattle.std.specs.Global.{Vec}
use Rattle.std.specs.Vec.{with_item}
use Rattle.std.proofs.lemmas.List.{set-append_left, set-append_right, length-set}
use Rattle.chunk_list.specs.Chunks.{joined, AreChunks}
use Rattle.chunk_list.proofs.Sizes.{of_one, of_more, place_of, in_chunk, first_chunk}

module _ {T : Type 0} where
  write : (cs : List (Vec T)) (q r : ℕ) (d : Vec T) (x : T) → AreChunks cs → r < 1024
      → q * 1024 + r < length (joined cs)
      → joined (slice_set cs q (with_item (get_or cs q d) r x)) ≡ slice_set (joined cs) (q * 1024 + r) x
  write [] q r d x is small lt = absurd (omega arith)
  write (c ∷ []) zero r d x is small lt =
      rw (← first_chunk r) (sym (set-append_left c.items [] r x (omega (arith, of_one c))))
  write (c ∷ []) (suc q) r d x is small lt = absurd (omega (arith, of_one c, is.1))
  write (c ∷ e ∷ cs) zero r d x is small lt =
      rw (← first_chunk r) (sym (set-append_left c.items (joined (e ∷ cs)) r x (omega (arith, is.0))))
  write (c ∷ e ∷ cs) (suc q) r d x is small lt =
      let at : suc q * 1024 + r - 1024 ≡ q * 1024 + r = omega arith in
      ap (λ l. c.items ++ l)
      (write (e ∷ cs) q r d x is.1 small (omega (arith, is.0, of_more c (e ∷ cs)))
      ∙ sym (ap (λ n. slice_set (joined (e ∷ cs)) n x) at))
      ∙ sym (set-append_right c.items (joined (e ∷ cs)) 1024 (suc q * 1024 + r) x is.0 (omega arith))

  still_chunks : (cs : List (Vec T)) (q r : ℕ) (d : Vec T) (x : T) → AreChunks cs
      → AreChunks (slice_set cs q (with_item (get_or cs q d) r x))
  still_chunks [] q r d x is = is
  still_chunks (c ∷ []) zero r d x is =
      (omega (arith, is.0, length-set c.items r x), omega (arith, is.1, length-set c.items r x))
  still_chunks (c ∷ []) (suc q) r d x is = is
  still_chunks (c ∷ e ∷ cs) zero r d x is = (length-set c.items r x ∙ is.0, is.1)
  still_chunks (c ∷ e ∷ cs) (suc zero) r d x is = (is.0, still_chunks (e ∷ cs) 0 r d x is.1)
  still_chunks (c ∷ e ∷ cs) (suc (suc q)) r d x is = (is.0, still_chunks (e ∷ cs) (suc q) r d x is.1)

  -- by the place in the list, and the chunk that was found there
  pub written : (cs : List (Vec T)) (i : ℕ) (d : Vec T) (x : T) → d ≡ get_or cs (i / 1024) d → AreChunks cs
      → i < length (joined cs)
      → AreChunks (slice_set cs (i / 1024) (with_item d (i % 1024) x))
      × (joined (slice_set cs (i / 1024) (with_item d (i % 1024) x)) ≡ slice_set (joined cs) i x)
  written cs i d x e is lt = subst
      (λ v. AreChunks (slice_set cs (i / 1024) (with_item v (i % 1024) x))
      × (joined (slice_set cs (i / 1024) (with_item v (i % 1024) x)) ≡ slice_set (joined cs) i x))
      (sym e) (
        still_chunks cs (i / 1024) (i % 1024) d x is,
        write cs (i / 1024) (i % 1024) d x is (in_chunk i) (omega (arith, place_of i))
            ∙ ap (λ n. slice_set (joined cs) n x) (place_of i),
      )
