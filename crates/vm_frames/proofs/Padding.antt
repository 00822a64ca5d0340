-- Values that are put with nil behind them.
use Rattle.std.proofs.Common.{◌≡◌, ℕ, ◌+◌, ◌-◌, ◌<◌, ◌≤◌, List, ◌++◌, length, get_or, take, drop, true, false, arith, ap, sym, subst, refl, ◌∙◌, length-append}
use Rattle.std.specs.Prelude.{nat_lt, replicate}
use Rattle.std.specs.List.{slice_index_or, slice_set}
use Rattle.std.proofs.lemmas.Bool.Decides.{nat_tests}
use Rattle.std.proofs.lemmas.List.{get_or-take, get_or_append_left, get_or-append_right, get_or-replicate, get_or_past, length-take-le, length-replicate}
use Rattle.rb_value.specs.declared.value.Value.{Value}
use Rattle.rb_value.specs.declared.value.Value.TheVariants.{Nil}
use Rattle.vm_frames.specs.Registers.{wrapped, put_all, padded}
use Rattle.vm_frames.proofs.Writing.{put_more, put_end}

pub padded_length : (vs : List Value) (n : ℕ) → length (padded vs n) ≡ n
unfolding padded
padded_length vs n =
    let whole : length (vs ++ replicate n Nil) ≡ length vs + n =
    length-append vs (replicate n Nil) ∙ ap (λ k. length vs + k) (length-replicate n Nil) in
    length-take-le n (vs ++ replicate n Nil) (omega (arith, whole))

pub padded_at : (vs : List Value) (i n : ℕ) → i < n → get_or (padded vs n) i Nil ≡ get_or vs i Nil
unfolding padded
padded_at vs i n within = get_or-take n (vs ++ replicate n Nil) i Nil within
    ∙ elim (nat_lt i (length vs)) as (λ b. nat_lt i (length vs) ≡ b → get_or (vs ++ replicate n Nil) i Nil ≡ get_or vs i Nil) [
      | true ↦ λ e. get_or_append_left vs (replicate n Nil) Nil i (grind (arith, nat_tests, e))
      | false ↦ λ e. let past : length vs ≤ i = grind (arith, nat_tests, e) in
          let left : i - length vs < n = omega (arith, past, within) in
          get_or-append_right vs (replicate n Nil) (length vs) i Nil refl past
          ∙ get_or-replicate n (i - length vs) Nil Nil left
          ∙ sym (get_or_past vs i Nil past)
    ] refl

pub padded_more : (rs : List Value) (at i : ℕ) (vs : List Value) (n : ℕ) → i < n
    → put_all rs (at + i) (drop i (padded vs n))
    ≡ put_all (slice_set rs (wrapped (at + i)) (slice_index_or vs i Nil)) (at + (i + 1)) (drop (i + 1) (padded vs n))
padded_more rs at i vs n within =
    put_more rs at i (padded vs n) Nil (rw (padded_length vs n) within)
    ∙ ap (λ v. put_all (slice_set rs (wrapped (at + i)) v) (at + (i + 1)) (drop (i + 1) (padded vs n)))
    (padded_at vs i n within)

pub padded_end : (rs : List Value) (at i : ℕ) (vs : List Value) (n : ℕ) → n ≤ i
    → put_all rs at (drop i (padded vs n)) ≡ rs
padded_end rs at i vs n past = put_end rs at i (padded vs n) (rw (padded_length vs n) past)
