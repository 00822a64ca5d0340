-- Pieces of a text, one more at a time.
use Rattle.std.proofs.Common.{◌≡◌, ℕ, ◌+◌, ◌<◌, ◌≤◌, ◌^◌, List, [], length, drop, refl, ap, sym, ◌∙◌, arith}
use Rattle.std.specs.Prelude.{Option, Some, None, slice_index_or}
use Rattle.rb_value.specs.declared.value.Value.{Value}
use Rattle.rb_value.specs.declared.value.Value.TheVariants.{Nil}
use Rattle.def_core.specs.Store.{Store}
use Rattle.rb_store.specs.Held.{Held, one_more}
use Rattle.iter_comparing.specs.declared.joining.Joining.{Joining}
use Rattle.iter_comparing.specs.Questions.{Asked, asked, show}
use Rattle.iter_comparing.specs.Texts.{own_text, asks_by, asks_piece, pieced, pieced_by, joined_by, joined_from, text_ends}
use Rattle.iter_comparing.proofs.Dropped.{drop_there, drop_all}

pieces_by : (w : Joining) (o : Option (List ℕ)) → (pieced_by w o).pieces ≡ w.pieces
pieces_by w None = refl
pieces_by w (Some bytes) = refl

place_by : (w : Joining) (v : Value) (o : Option (List ℕ)) → None ≡ asks_by v o
    → (pieced_by w o).place ≡ one_more w.place
place_by w v None h = cc
place_by w v (Some bytes) h = refl

-- what is left of the pieces after the one at the place
left_after : (st : Store) (w : Joining) (p : Value) → None ≡ asks_piece st p → w.place + 1 < 2 ^ 64
    → drop (pieced st w p).place (pieced st w p).pieces ≡ drop (w.place + 1) w.pieces
left_after st w p h lt =
    let e : (pieced st w p).place ≡ w.place + 1 = place_by w p (own_text st p) h ∙ omega (arith, lt) in
    ap (λ (n : ℕ). drop n (pieced st w p).pieces) e
    ∙ ap (λ (ps : List Value). drop (w.place + 1) ps) (pieces_by w (own_text st p))

joined_at : (held : Held) (w : Joining) (n : ℕ) → w.place ≡ n → n < length w.pieces
    → joined_from held w (drop w.place w.pieces)
    ≡ joined_by held w (asks_piece held.store (slice_index_or w.pieces n Nil))
    (joined_from held (pieced held.store w (slice_index_or w.pieces n Nil)) (drop (n + 1) w.pieces))
joined_at held w n e lt = ap (λ (k : ℕ). joined_from held w (drop k w.pieces)) e
    ∙ ap (λ (ps : List Value). joined_from held w ps) (drop_there w.pieces n Nil lt)

pub joins_asking : (held : Held) (w : Joining) (n : ℕ) (v : Value) → w.place ≡ n → n < length w.pieces
    → Some v ≡ asks_piece held.store (slice_index_or w.pieces n Nil)
    → joined_from held w (drop w.place w.pieces) ≡ asked held w (show v)
joins_asking held w n v e lt f = joined_at held w n e lt
    ∙ ap (λ (o : Option Value). joined_by held w o
    (joined_from held (pieced held.store w (slice_index_or w.pieces n Nil)) (drop (n + 1) w.pieces))) (sym f)

pub joins_on : (held : Held) (w : Joining) (n : ℕ) → w.place ≡ n → n < length w.pieces → n + 1 < 2 ^ 64
    → None ≡ asks_piece held.store (slice_index_or w.pieces n Nil)
    → joined_from held w (drop w.place w.pieces)
    ≡ joined_from held (pieced held.store w (slice_index_or w.pieces n Nil))
    (drop (pieced held.store w (slice_index_or w.pieces n Nil)).place
    (pieced held.store w (slice_index_or w.pieces n Nil)).pieces)
joins_on held w n e lt less f = joined_at held w n e lt
    ∙ ap (λ (o : Option Value). joined_by held w o
    (joined_from held (pieced held.store w (slice_index_or w.pieces n Nil)) (drop (n + 1) w.pieces))) (sym f)
    ∙ ap (λ (ps : List Value). joined_from held (pieced held.store w (slice_index_or w.pieces n Nil)) ps)
    (sym (left_after held.store w (slice_index_or w.pieces n Nil) f (rw e less)
    ∙ ap (λ (k : ℕ). drop (k + 1) w.pieces) e))

pub joins_ending : (held : Held) (w : Joining) → length w.pieces ≤ w.place
    → joined_from held w (drop w.place w.pieces) ≡ text_ends held (record w { text = [] }) w.text
joins_ending held w le = ap (λ (ps : List Value). joined_from held w ps) (drop_all w.pieces w.place le)
