-- Bytes that move within a buffer and out of it.
use Rattle.std.proofs.Common.{◌≡◌, ◌≢◌, sym, ap, ◌∙◌, ℕ, ◌+◌, ◌-◌, ◌≤◌, List, [], length, take, drop, arith, length-drop}
use lib.Seq.{paste}
use Rattle.std.specs.Prelude.{Option, nat_eq}
use Rattle.std.proofs.lemmas.Bool.{cond-true, cond-false, eq-eqb, ne_eqb}
use Rattle.std.proofs.lemmas.List.{drop-take, take-append-drop}
use Rattle.std.proofs.lemmas.List.Edits.{take-paste}
use Rattle.rb_base.specs.Outside.{with_more}
use Rattle.rb_base.proofs.Taking.{with_more-again}
use Rattle.rb_base.specs.Buffers.{kept}

-- those that didn't go out move to the front
pub moved : (bytes : List ℕ) (len count : ℕ) → len ≤ length bytes → count ≤ len
    → take (len - count) (paste bytes 0 (drop count bytes) (len - count)) ≡ drop count (take len bytes)
moved bytes len count h k =
    let left = len - count in
    let rest : left ≤ length (drop count bytes) = omega (arith, length-drop count bytes) in
    let front : 0 + left ≡ left = omega arith in
    let whole : count + left ≡ len = omega arith in
    ap (λ (n : ℕ). take n (paste bytes 0 (drop count bytes) left)) (sym front)
    ∙ take-paste bytes 0 (drop count bytes) left (omega arith) rest
    ∙ sym (drop-take count left bytes)
    ∙ ap (λ (n : ℕ). drop count (take n bytes)) whole

-- what is told stays: a front went out, and the others are still pending
pub told_still : (told now : Option (List ℕ)) (pending : List ℕ) (k : ℕ) → now ≡ with_more told (take k pending)
    → with_more now (drop k pending) ≡ with_more told pending
told_still told now pending k e =
    ap (λ (t : Option (List ℕ)). with_more t (drop k pending)) e
    ∙ with_more-again told (take k pending) (drop k pending)
    ∙ ap (with_more told) (take-append-drop k pending)

-- a full buffer, and one with room
pub kept_full : (pending : List ℕ) → length pending ≡ 8192 → kept pending ≡ []
unfolding kept
kept_full pending e = cond-true (nat_eq (length pending) 8192) [] pending (eq-eqb (length pending) 8192 e)

pub kept_room : (pending : List ℕ) → length pending ≢ 8192 → kept pending ≡ pending
unfolding kept
kept_room pending e = cond-false (nat_eq (length pending) 8192) [] pending (ne_eqb (length pending) 8192 e)
