-- Values of which some stay, one more at a time.
use Rattle.std.proofs.Common.{◌≡◌, ℕ, ◌+◌, ◌<◌, ◌≤◌, ◌^◌, List, length, drop, true, false, refl, ap, sym, ◌∙◌, arith}
use Rattle.std.specs.Prelude.{Option, Some, None, slice_index_or, Bool}
use Rattle.rb_value.specs.declared.value.Value.{Value}
use Rattle.rb_value.specs.declared.value.Value.TheVariants.{Nil}
use Rattle.rb_store.specs.Held.{Held, one_more}
use Rattle.iter_comparing.specs.declared.sifting.Sifting.{Sifting}
use Rattle.iter_comparing.specs.Questions.{Asked, asked, compare}
use Rattle.iter_comparing.specs.Sifting.{candidate, keeps_missed, missed, ended, sifted, sifted_by}
use Rattle.iter_comparing.proofs.Dropped.{drop_there, drop_all}

missed_values : (w : Sifting) (v : Value) (b : Bool) → b ≡ keeps_missed w → (missed w v).values ≡ w.values
missed_values w v true e = rw (sym e) refl
missed_values w v false e = rw (sym e) refl

missed_place : (w : Sifting) (v : Value) (b : Bool) → b ≡ keeps_missed w → (missed w v).place ≡ one_more w.place
missed_place w v true e = rw (sym e) refl
missed_place w v false e = rw (sym e) refl

-- what is left of the values after the one at the place
pub left_after : (w : Sifting) (v : Value) → w.place + 1 < 2 ^ 64
    → drop (missed w v).place (missed w v).values ≡ drop (w.place + 1) w.values
left_after w v lt =
    let p : (missed w v).place ≡ w.place + 1 = missed_place w v (keeps_missed w) refl ∙ omega (arith, lt) in
    ap (λ (n : ℕ). drop n (missed w v).values) p
    ∙ ap (λ (vs : List Value). drop (w.place + 1) vs) (missed_values w v (keeps_missed w) refl)

sifted_at : (held : Held) (w : Sifting) (n : ℕ) → w.place ≡ n → n < length w.values
    → sifted held w (drop w.place w.values) ≡ sifted_by held w (slice_index_or w.values n Nil) (candidate w)
    (sifted held (missed w (slice_index_or w.values n Nil)) (drop (n + 1) w.values))
sifted_at held w n e lt = ap (λ (k : ℕ). sifted held w (drop k w.values)) e
    ∙ ap (λ (vs : List Value). sifted held w vs) (drop_there w.values n Nil lt)

pub sifts_asking : (held : Held) (w : Sifting) (n : ℕ) (c : Value) → w.place ≡ n → n < length w.values
    → Some c ≡ candidate w
    → sifted held w (drop w.place w.values) ≡ asked held w (compare c (slice_index_or w.values n Nil))
sifts_asking held w n c e lt f = sifted_at held w n e lt
    ∙ ap (λ (o : Option Value). sifted_by held w (slice_index_or w.values n Nil) o
    (sifted held (missed w (slice_index_or w.values n Nil)) (drop (n + 1) w.values))) (sym f)

pub sifts_on : (held : Held) (w : Sifting) (n : ℕ) → w.place ≡ n → n < length w.values → n + 1 < 2 ^ 64
    → None ≡ candidate w
    → sifted held w (drop w.place w.values) ≡ sifted held (missed w (slice_index_or w.values n Nil))
    (drop (missed w (slice_index_or w.values n Nil)).place (missed w (slice_index_or w.values n Nil)).values)
sifts_on held w n e lt less f = sifted_at held w n e lt
    ∙ ap (λ (o : Option Value). sifted_by held w (slice_index_or w.values n Nil) o
    (sifted held (missed w (slice_index_or w.values n Nil)) (drop (n + 1) w.values))) (sym f)
    ∙ ap (λ (vs : List Value). sifted held (missed w (slice_index_or w.values n Nil)) vs)
    (sym (left_after w (slice_index_or w.values n Nil) (rw e less)
    ∙ ap (λ (k : ℕ). drop (k + 1) w.values) e))

pub sifts_ending : (held : Held) (w : Sifting) → length w.values ≤ w.place
    → sifted held w (drop w.place w.values) ≡ ended held w
sifts_ending held w le = ap (λ (vs : List Value). sifted held w vs) (drop_all w.values w.place le)
