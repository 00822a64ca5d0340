-- What is done with an item that was passed.
use Rattle.std.proofs.Common.{◌≡◌, ap, sym, ◌∙◌}
use Rattle.std.specs.Prelude.{Option, Some}
use Rattle.rb_value.specs.declared.value.Value.{Value}
use Rattle.rb_store.specs.Held.{Held}
use Rattle.iter_items.specs.declared.visit.Visit.{Visit}
use Rattle.iter_items.specs.declared.wish.Wish.{Wish}
use Rattle.iter_items.specs.Asking.{with_item, with_source, passed, visited, ask_of}

pub visits_item : (held after : Held) (v m u : Visit) (item : Value) (w : Wish)
    → Some item ≡ (passed held v).item → m ≡ with_source v (passed held v) → after ≡ (passed held v).held
    → ((h : Held) → ask_of m.task h (record m { item = item }) item
    ≡ record { wish = Some w; visit = u; held = h })
    → visited held v ≡ record { wish = Some w; visit = u; held = after }
visits_item held after v m u item w e f g h =
    ap (λ (o : Option Value). with_item (passed held v).held (with_source v (passed held v)) o) (sym e)
    ∙ ap (λ (x : Visit). with_item (passed held v).held x (Some item)) (sym f)
    ∙ ap (λ (x : Held). with_item x m (Some item)) (sym g)
    ∙ h after
