-- A store that gets several objects at once stays sound.
use Rattle.std.proofs.Common.{◌≡◌, ℕ, zero, suc, ◌+◌, ◌-◌, ◌<◌, ◌≤◌, List, [], ◌∷◌, ◌++◌, length, get_or, true, false, refl, ap, sym, ◌∙◌, subst, arith, length-append}
use Rattle.std.specs.Prelude.{nat_lt}
use Rattle.std.proofs.lemmas.List.{get_or_append_left, get_or-append_right}
use Rattle.std.proofs.lemmas.Bool.Decides.{nat_tests}
use Rattle.rb_value.specs.Object.{Object}
use Rattle.def_core.specs.Store.{Store, absent}
use Rattle.def_core.specs.Parts.{with_objects}
use Rattle.def_core.specs.Sound.{Census, census, SoundObject, SoundFrom, Sound}
use Rattle.def_core.proofs.Grows.{more_objects, object_grows, core_still}

sound_at : (k : Census) (n : ℕ) (os : List Object) (i : ℕ) → SoundFrom k n os → i < length os
    → SoundObject k (n + i) (get_or os i absent)
sound_at k n [] i all h = absurd (omega (arith, h))
sound_at k n (o ∷ os) zero all h = let e : n + zero ≡ n = omega arith in rw e all.0
sound_at k n (o ∷ os) (suc i) all h =
    let e : n + suc i ≡ n + 1 + i = omega arith in
    rw e (sound_at k (n + 1) os i all.1 (omega (arith, h)))

-- each of them is sound in the store that has all
pub sound_with_all : (st : Store) → Sound st → (more : List Object)
    → SoundFrom (census (with_objects st (st.objects ++ more))) (length st.objects) more
    → Sound (with_objects st (st.objects ++ more))
sound_with_all st sound more all =
    let after : Store = with_objects st (st.objects ++ more) in
    record {
      objects = λ n h. elim (nat_lt n (length st.objects)) as
          (λ b. nat_lt n (length st.objects) ≡ b → SoundObject (census after) n (get_or (st.objects ++ more) n absent)) [
            | true ↦ λ b.
                let within : n < length st.objects = grind (arith, nat_tests, b) in
                subst (SoundObject (census after) n) (sym (get_or_append_left st.objects more absent n within))
                (object_grows _ _ (more_objects st more) n (get_or st.objects n absent) (sound.objects n within))
            | false ↦ λ b.
                let past : length st.objects ≤ n = grind (arith, nat_tests, b) in
                let e : length st.objects + (n - length st.objects) ≡ n = omega (arith, past) in
                let inside : n - length st.objects < length more =
                omega (arith, past, h, length-append st.objects more) in
                subst (SoundObject (census after) n)
                (sym (get_or-append_right st.objects more (length st.objects) n absent refl past))
                (subst (λ (m : ℕ). SoundObject (census after) m (get_or more (n - length st.objects) absent)) e
                (sound_at (census after) (length st.objects) more (n - length st.objects) all inside))
          ] refl;
      core = core_still st sound more;
    }
