-- Visits of a method that only calls its block, and makes no Hash.
use Rattle.std.proofs.Common.{◌≡◌, refl, sym, ap, subst}
use Rattle.std.specs.Prelude.{Option, Some, None}
use Rattle.rb_value.specs.declared.value.Value.{Value}
use Rattle.rb_value.specs.declared.value.ObjId.{ObjId}
use Rattle.rb_value.specs.declared.value.SymId.{SymId}
use Rattle.rb_store.specs.Held.{Held}
use Rattle.core_calls.specs.declared.beat.Passed.{Passed}
use Rattle.iter_items.specs.declared.row.Task.{Task}
use Rattle.iter_items.specs.declared.visit.Visit.{Visit}
use Rattle.iter_items.specs.declared.wish.Wish.{Wish}
use Rattle.iter_items.specs.declared.wish.Wish.TheVariants as wish
use Rattle.iter_items.specs.Asking.{wishes, with_source, ask_of, asked, visited}
use Rattle.iter_items.specs.Hearing.{heard}
use Rattle.iter_items.specs.Driving.{Ends}
use Rattle.items_laws.proofs.Course.{Plain, Settled, Keeps, at_item}

-- what such a visit is: of its value and its name it has what these leave
abbrev pub fitted : Task → ObjId → (Option Value → Option Value) → (Option SymId → Option SymId) → Visit → Visit
fitted t b values names v = record v {
  task = t;
  block = Some b;
  made = None;
  value = values v.value;
  name = names v.name;
  wish = None;
}

pub record Fits (t : Task) (b : ObjId) (values : Option Value → Option Value) (names : Option SymId → Option SymId)
    (v : Visit) : Type 0 where
  pub inner : Visit
  pub same : v ≡ fitted t b values names inner

pub fits : (t : Task) (b : ObjId) (values : Option Value → Option Value) (names : Option SymId → Option SymId)
    (v : Visit) → Fits t b values names (fitted t b values names v)
fits t b values names v = record { inner = v; same = refl }

pub plain_by : (t : Task) (b : ObjId) (values : Option Value → Option Value) (names : Option SymId → Option SymId)
    (with_values : Visit → Passed)
    → ((held : Held) (v : Visit)
    → asked held (fitted t b values names v) ≡ visited held (fitted t b values names v))
    → ((held : Held) (v : Visit) → ask_of t held (fitted t b values names v) v.item
    ≡ wishes held (fitted t b values names v)
    (wish.Calls (record { callee = b; passed = with_values (fitted t b values names v) })))
    → ((held : Held) (v : Visit) (a : Value)
    → Keeps (Fits t b values names) (heard held (fitted t b values names v) a))
    → ((held : Held) (v : Visit) (w : Wish) (u : Visit) (later : Held)
    → Ends t held (fitted t b values names v) w u later → Settled w)
    → Plain (Fits t b values names) b with_values
plain_by t b values names with_values asks calls hears ends = record {
  unasked = λ v f. ap (λ (u : Visit). u.wish) f.same;
  asks = λ held v f. subst (λ (u : Visit). asked held u ≡ visited held u) (sym f.same) (asks held f.inner);
  calls = λ held v p x f. subst (λ (y : Visit). ask_of y.task held (record (with_source y p) { item = x }) x
      ≡ wishes held (record (with_source y p) { item = x })
      (wish.Calls (record { callee = b; passed = with_values (record (with_source y p) { item = x }) })))
      (sym f.same) (calls held (record (with_source f.inner p) { item = x }));
  hears = λ held v p x site a f. subst (λ (y : Visit). Keeps (Fits t b values names) (heard held (at_item y p x site) a))
      (sym f.same) (hears held (at_item f.inner p x site) a);
  ends = λ held v p w u later f e. ends held (with_source f.inner p) w u later
      (subst (λ (y : Visit). Ends y.task held (with_source y p) w u later) f.same e);
}
