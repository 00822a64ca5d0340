-- `between?`, `clamp` and `==` of Comparable.
use Rattle.std.proofs.Common.{◌≡◌, ℕ, ◌≤◌, refl, sym, ap, subst, ◌∙◌, List, [], ◌∷◌, T, arith, leb-true, leb-false, ltb-true, ltb-false}
use Rattle.std.proofs.lemmas.Int.{ints}
use Rattle.std.specs.Prelude.{ℤ, pos, negsuc, int_lt, int_le, ◌<ℤ◌, ◌≤ℤ◌, codes, not, Bool, true, false, ◌&&◌, if◌then◌else◌, Option, Some, None}
use Rattle.rb_value.specs.declared.value.Value.{Value}
use Rattle.rb_value.specs.declared.value.Value.TheVariants.{Nil, True, False, Int, Sym, Obj}
use Rattle.rb_value.specs.declared.value.ObjId.{ObjId}
use Rattle.rb_value.specs.Value.{truth}
use Rattle.def_core.specs.declared.cause.Cause.TheVariants as cause
use Rattle.def_core.specs.Classes.{plain_class_of}
use Rattle.rb_store.specs.Held.{Held}
use Rattle.heap.specs.Operands.{own}
use Rattle.def_plans.specs.Plan.{Planned, gives}
use Rattle.iter_comparing.specs.declared.ordering.Order.{Order}
use Rattle.iter_comparing.specs.declared.row.ComparingRow.TheVariants as comparing_row
use Rattle.iter_comparing.specs.declared.row.OrderRow.{OrderRow}
use Rattle.iter_comparing.specs.declared.row.OrderRow.TheVariants as order_row
use Rattle.iter_comparing.specs.Ordering as ordering
use Rattle.iter_comparing.specs.Ordering.{same_value}
use Rattle.iter_comparing.specs.Rows as comparing
use Rattle.iter_comparing.specs.Stage as over_values
use Rattle.iter_items.specs.declared.row.ItemsRow.TheVariants as items_row
use Rattle.run_rows.specs.declared.row.StarRow.TheVariants as row
use Rattle.items_laws.specs.Run.{Turn, Runs, Gives}
use Rattle.items_laws.specs.Items.{IsValue}
use Rattle.items_laws.specs.Asked.{Replies, asked, symbol, with_symbol, IsReply}
use Rattle.items_laws.specs.Placed.{IsZero, Ranks, IsPlaced, is_below, is_within, is_above}
use Rattle.items_laws.proofs.Course.{given, refused}
use Rattle.items_laws.proofs.Sent.{Sent, first_of, lifted, sent}
use Rattle.items_laws.proofs.Unequal.{at_once}

abbrev pub compared_with : OrderRow → Value → Value → Value → Bool → Order
compared_with r x low high second = record { row = r; receiver = x; first = low; second = high; at_second = second }

abbrev pub waits : OrderRow → Value → Value → Value → Bool → over_values.Stage
waits r x low high second = over_values.orders (compared_with r x low high second)

-- What a method makes of the signs of two replies.
pub record Placing (r : OrderRow) (x low high below within above : Value) : Type 0 where
  pub below_first : (z : ℤ) → int_lt z (pos 0) ≡ true
      → ordering.told (compared_with r x low high false) z ≡ Some below
  pub not_below : (z : ℤ) → int_lt z (pos 0) ≡ false → ordering.told (compared_with r x low high false) z ≡ None
  pub above_second : (z : ℤ) → int_lt (pos 0) z ≡ true
      → ordering.told (compared_with r x low high true) z ≡ Some above
  pub not_above : (z : ℤ) → int_lt (pos 0) z ≡ false
      → ordering.told (compared_with r x low high true) z ≡ Some within
  pub refuses : (h : Held) (second : Bool) → ordering.refused_by r h (compared_with r x low high second)
      ≡ ordering.incomparable h (compared_with r x low high second)

-- signs

pub not_less : (z : ℤ) → int_lt z (pos 0) ≡ false → pos 0 ≤ℤ z
not_less z e = omega (arith, ints, e)

not_more : (z : ℤ) → int_lt (pos 0) z ≡ false → z ≤ℤ pos 0
not_more z e = omega (arith, ints, e)

pub less : (z : ℤ) → int_lt z (pos 0) ≡ true → z <ℤ pos 0
less z e = record { lt = subst (λ (c : Bool). T c) (sym e) tt }

more : (z : ℤ) → int_lt (pos 0) z ≡ true → pos 0 <ℤ z
more z e = record { lt = subst (λ (c : Bool). T c) (sym e) tt }

at_most_by : (z : ℤ) (b c : Bool) → int_le z (pos 0) ≡ b → int_lt (pos 0) z ≡ c → b ≡ not c
at_most_by (pos n) true true e f = absurd (omega (arith, leb-true n 0 e, ltb-true 0 n f))
at_most_by (pos n) true false e f = refl
at_most_by (pos n) false true e f = refl
at_most_by (pos n) false false e f = absurd (omega (arith, leb-false n 0 e, ltb-false 0 n f))
at_most_by (negsuc n) true c e f = ap not f
at_most_by (negsuc n) false c e f = absurd (cc)

-- The end.

abbrev PlacedSo : Held → Value → Value → Value → Value → Value → Value → List Turn → Value → Held → Type 0
PlacedSo held x low high below within above ts v after = IsPlaced held x low high below within above ts v after

as_placed : (held after h : Held) (x low high below within above v u : Value) (ts us : List Turn) → ts ≡ us → v ≡ u
    → after ≡ h → PlacedSo held x low high below within above us u h
    → PlacedSo held x low high below within above ts v after
as_placed held after h x low high below within above v u ts us same value left is =
    subst (λ (l : List Turn). PlacedSo held x low high below within above l v after) (sym same)
    (subst (λ (y : Value). PlacedSo held x low high below within above us y after) (sym value)
    (subst (λ (k : Held). PlacedSo held x low high below within above us u k) (sym left) is))

-- a reply that is an Integer
ranks : (held : Held) (s : over_values.Stage) (x y : Value) (z : ℤ) (ts : List Turn) (v : Value) (after : Held)
    → (k : Sent s (with_symbol (codes "<=>") held) x (symbol (codes "<=>") held) (y ∷ []) ts v after)
    → k.turn.answer ≡ Int z → Ranks held x y (k.turn ∷ []) z k.turn.held
ranks held s x y z ts v after k is = subst (λ (a : Value). Replies false (symbol (codes "<=>") held)
    (with_symbol (codes "<=>") held) x (y ∷ []) (k.turn ∷ []) a k.turn.held) is (asked k.turn k.wanted k.message)

-- no value comes of another reply
unordered : (r : OrderRow) (o : Order) (h : Held) (p : Planned over_values.Stage) (ts : List Turn) (v : Value)
    (after : Held) → ordering.refused_by r h o ≡ ordering.incomparable h o → p ≡ ordering.refused_by r h o
    → Runs (lifted p) ts (gives after v) → ⊥
unordered r o h p ts v after refuses same runs = refused ts h
    (cause.Incomparable (plain_class_of h.store.objects (own h.store o.receiver))
    (plain_class_of h.store.objects (own h.store (ordering.other o)))) v after
    (subst (λ (q : Planned over_values.Stage). Runs (lifted q) ts (gives after v)) (same ∙ refuses) runs)

-- The reply with the second value.

abbrev SentTo : OrderRow → Value → Value → Value → Bool → Held → Value → List Turn → Value → Held → Type 0
SentTo r x low high second held y ts v after =
    Sent (waits r x low high second) (with_symbol (codes "<=>") held) x (symbol (codes "<=>") held) (y ∷ []) ts v after

second_ended : (r : OrderRow) (x low high u : Value) (z : ℤ) (held : Held) (ts : List Turn) (v : Value) (after : Held)
    → (k : SentTo r x low high true held high ts v after)
    → k.next ≡ ordering.decided k.turn.held (compared_with r x low high true)
    (ordering.told (compared_with r x low high true) z)
    → ordering.told (compared_with r x low high true) z ≡ Some u
    → (ts ≡ k.turn ∷ []) × (v ≡ u) × (after ≡ k.turn.held)
second_ended r x low high u z held ts v after k goes told =
    let same = goes ∙ ap (λ (o : Option Value). ordering.decided k.turn.held (compared_with r x low high true) o) told in
    let end = given k.further k.turn.held u v after
    (subst (λ (p : Planned over_values.Stage). Runs (lifted p) k.further (gives after v)) same k.runs) in
    (k.same ∙ ap (λ (us : List Turn). k.turn ∷ us) end.0, end.1, end.2)

second_by : (r : OrderRow) (x low high below within above : Value) → Placing r x low high below within above
    → (held after : Held) (v : Value) (first : Turn) (z w : ℤ) (ts : List Turn)
    → Ranks held x low (first ∷ []) z first.held → pos 0 ≤ℤ z
    → (k : SentTo r x low high true first.held high ts v after) → k.turn.answer ≡ Int w
    → k.next ≡ ordering.decided k.turn.held (compared_with r x low high true)
    (ordering.told (compared_with r x low high true) w)
    → (c : Bool) → int_lt (pos 0) w ≡ c → PlacedSo held x low high below within above (first ∷ ts) v after
second_by r x low high below within above m held after v first z w ts ranked least k is goes true e =
    let end = second_ended r x low high above w first.held ts v after k goes (m.above_second w e) in
    as_placed held after k.turn.held x low high below within above v above (first ∷ ts) (first ∷ k.turn ∷ [])
    (ap (λ (us : List Turn). first ∷ us) end.0) end.1 end.2
    (is_above first.held k.turn.held z w (first ∷ []) (k.turn ∷ []) ranked least
    (ranks first.held (waits r x low high true) x high w ts v after k is) (more w e))
second_by r x low high below within above m held after v first z w ts ranked least k is goes false e =
    let end = second_ended r x low high within w first.held ts v after k goes (m.not_above w e) in
    as_placed held after k.turn.held x low high below within above v within (first ∷ ts) (first ∷ k.turn ∷ [])
    (ap (λ (us : List Turn). first ∷ us) end.0) end.1 end.2
    (is_within first.held k.turn.held z w (first ∷ []) (k.turn ∷ []) ranked least
    (ranks first.held (waits r x low high true) x high w ts v after k is) (not_more w e))

second : (r : OrderRow) (x low high below within above : Value) → Placing r x low high below within above
    → (held after : Held) (v : Value) (first : Turn) (z : ℤ) (ts : List Turn)
    → Ranks held x low (first ∷ []) z first.held → pos 0 ≤ℤ z
    → (k : SentTo r x low high true first.held high ts v after) → (a : Value) → k.turn.answer ≡ a
    → comparing.GoesOn k.turn.held (waits r x low high true) a k.next
    → PlacedSo held x low high below within above (first ∷ ts) v after
second r x low high below within above m held after v first z ts ranked least k (Int w) is goes =
    second_by r x low high below within above m held after v first z w ts ranked least k is goes (int_lt (pos 0) w) refl
second r x low high below within above m held after v first z ts ranked least k Nil is goes = absurd (unordered r
    (compared_with r x low high true) k.turn.held k.next k.further v after (m.refuses k.turn.held true) goes k.runs)
second r x low high below within above m held after v first z ts ranked least k True is goes = absurd (unordered r
    (compared_with r x low high true) k.turn.held k.next k.further v after (m.refuses k.turn.held true) goes k.runs)
second r x low high below within above m held after v first z ts ranked least k False is goes = absurd (unordered r
    (compared_with r x low high true) k.turn.held k.next k.further v after (m.refuses k.turn.held true) goes k.runs)
second r x low high below within above m held after v first z ts ranked least k (Sym s) is goes = absurd (unordered r
    (compared_with r x low high true) k.turn.held k.next k.further v after (m.refuses k.turn.held true) goes k.runs)
second r x low high below within above m held after v first z ts ranked least k (Obj id) is goes = absurd (unordered r
    (compared_with r x low high true) k.turn.held k.next k.further v after (m.refuses k.turn.held true) goes k.runs)

-- The reply with the first one.

first_by : (r : OrderRow) (x low high below within above : Value) → Placing r x low high below within above
    → (held after : Held) (v : Value) (z : ℤ) (ts : List Turn) → (k : SentTo r x low high false held low ts v after)
    → k.turn.answer ≡ Int z
    → k.next ≡ ordering.decided k.turn.held (compared_with r x low high false)
    (ordering.told (compared_with r x low high false) z)
    → (c : Bool) → int_lt z (pos 0) ≡ c → PlacedSo held x low high below within above ts v after
first_by r x low high below within above m held after v z ts k is goes true e =
    let same = goes ∙ ap (λ (o : Option Value). ordering.decided k.turn.held (compared_with r x low high false) o)
    (m.below_first z e) in
    let end = given k.further k.turn.held below v after
    (subst (λ (p : Planned over_values.Stage). Runs (lifted p) k.further (gives after v)) same k.runs) in
    as_placed held after k.turn.held x low high below within above v below ts (k.turn ∷ [])
    (k.same ∙ ap (λ (us : List Turn). k.turn ∷ us) end.0) end.1 end.2
    (is_below k.turn.held z (k.turn ∷ []) (ranks held (waits r x low high false) x low z ts v after k is) (less z e))
first_by r x low high below within above m held after v z ts k is goes false e =
    let same = goes ∙ ap (λ (o : Option Value). ordering.decided k.turn.held (compared_with r x low high false) o)
    (m.not_below z e) in
    let n = sent (waits r x low high true) (with_symbol (codes "<=>") k.turn.held) x (symbol (codes "<=>") k.turn.held)
    (high ∷ []) k.further v after
    (subst (λ (p : Planned over_values.Stage). Runs (lifted p) k.further (gives after v)) same k.runs) in
    subst (λ (us : List Turn). PlacedSo held x low high below within above us v after) (sym k.same)
    (second r x low high below within above m held after v k.turn z k.further
    (ranks held (waits r x low high false) x low z ts v after k is) (not_less z e) n n.turn.answer refl n.goes)

first : (r : OrderRow) (x low high below within above : Value) → Placing r x low high below within above
    → (held after : Held) (v : Value) (ts : List Turn) → (k : SentTo r x low high false held low ts v after)
    → (a : Value) → k.turn.answer ≡ a → comparing.GoesOn k.turn.held (waits r x low high false) a k.next
    → PlacedSo held x low high below within above ts v after
first r x low high below within above m held after v ts k (Int z) is goes =
    first_by r x low high below within above m held after v z ts k is goes (int_lt z (pos 0)) refl
first r x low high below within above m held after v ts k Nil is goes = absurd (unordered r
    (compared_with r x low high false) k.turn.held k.next k.further v after (m.refuses k.turn.held false) goes k.runs)
first r x low high below within above m held after v ts k True is goes = absurd (unordered r
    (compared_with r x low high false) k.turn.held k.next k.further v after (m.refuses k.turn.held false) goes k.runs)
first r x low high below within above m held after v ts k False is goes = absurd (unordered r
    (compared_with r x low high false) k.turn.held k.next k.further v after (m.refuses k.turn.held false) goes k.runs)
first r x low high below within above m held after v ts k (Sym s) is goes = absurd (unordered r
    (compared_with r x low high false) k.turn.held k.next k.further v after (m.refuses k.turn.held false) goes k.runs)
first r x low high below within above m held after v ts k (Obj id) is goes = absurd (unordered r
    (compared_with r x low high false) k.turn.held k.next k.further v after (m.refuses k.turn.held false) goes k.runs)

placed : (r : OrderRow) (x low high below within above : Value) → Placing r x low high below within above
    → (held after : Held) (v : Value) (ts : List Turn) (p : Planned over_values.Stage)
    → p ≡ ordering.ask held (compared_with r x low high false) → Runs (lifted p) ts (gives after v)
    → PlacedSo held x low high below within above ts v after
placed r x low high below within above m held after v ts p starts runs =
    let k = sent (waits r x low high false) (with_symbol (codes "<=>") held) x (symbol (codes "<=>") held) (low ∷ []) ts v
    after (subst (λ (q : Planned over_values.Stage). Runs (lifted q) ts (gives after v)) starts runs) in
    first r x low high below within above m held after v ts k k.turn.answer refl k.goes

-- `between?`

pub lies : (x low high : Value) → Placing order_row.Between x low high False True False
lies x low high = record {
  below_first = λ z e. ap (λ (c : Bool). if c then Some False else None) e;
  not_below = λ z e. ap (λ (c : Bool). if c then Some False else None) e;
  above_second = λ z e. ap (λ (c : Bool). Some (truth c)) (at_most_by z (int_le z (pos 0)) true refl e);
  not_above = λ z e. ap (λ (c : Bool). Some (truth c)) (at_most_by z (int_le z (pos 0)) false refl e);
  refuses = λ h second. refl;
}

pub lies_between : (held after : Held) (recv low high v : Value) (block : Option ObjId) (ts : List Turn)
    → Gives (row.Items (items_row.Compares (comparing_row.Order order_row.Between))) held recv (low ∷ high ∷ []) block ts v
    after → IsPlaced held recv low high False True False ts v after
lies_between held after recv low high v block ts run =
    let f = first_of (comparing_row.Order order_row.Between) held recv (low ∷ high ∷ []) block ts v after run in
    placed order_row.Between recv low high False True False (lies recv low high) held after v ts f.first f.starts f.runs

-- `clamp`

pub held_within : (x low high : Value) → Placing order_row.Clamp x low high low x high
held_within x low high = record {
  below_first = λ z e. ap (λ (c : Bool). if c then Some low else None) e;
  not_below = λ z e. ap (λ (c : Bool). if c then Some low else None) e;
  above_second = λ z e. ap (λ (c : Bool). Some (if c then high else x)) e;
  not_above = λ z e. ap (λ (c : Bool). Some (if c then high else x)) e;
  refuses = λ h second. refl;
}

pub clamped : (held after : Held) (recv low high v : Value) (block : Option ObjId) (ts : List Turn)
    → Gives (row.Items (items_row.Compares (comparing_row.Order order_row.Clamp))) held recv (low ∷ high ∷ []) block ts v
    after → IsPlaced held recv low high low recv high ts v after
clamped held after recv low high v block ts run =
    let f = first_of (comparing_row.Order order_row.Clamp) held recv (low ∷ high ∷ []) block ts v after run in
    placed order_row.Clamp recv low high low recv high (held_within recv low high) held after v ts f.first f.starts f.runs

-- `==`

abbrev equal_order : Value → Value → Order
equal_order x y = ordering.order order_row.Equal x (y ∷ [])

zero_is : (z : ℤ) → int_le z (pos 0) ≡ true → int_le (pos 0) z ≡ true → z ≡ pos 0
zero_is (pos n) e f = ap (λ (m : ℕ). pos m) (none (leb-true n 0 e))
  where
    none : n ≤ 0 → n ≡ 0
    none small = omega (arith, small)
zero_is (negsuc n) e f = absurd (cc)

nonzero_by : (v : Value) (z : ℤ) (b c : Bool) → int_le z (pos 0) ≡ b → int_le (pos 0) z ≡ c → v ≡ truth (b && c)
    → (Int z ≡ Int (pos 0) → ⊥) → v ≡ False
nonzero_by v z true true e f is other = absurd (other (ap (λ (n : ℤ). Int n) (zero_is z e f)))
nonzero_by v z true false e f is other = is
nonzero_by v z false c e f is other = is

same_number : (z w : ℤ) → Int z ≡ Int w → z ≡ w
same_number z w e = cc

told_zero : (v : Value) (z : ℤ) → v ≡ truth (int_le z (pos 0) && int_le (pos 0) z) → IsZero v (Int z)
told_zero v z is = record {
  so = λ same. is ∙ ap (λ (n : ℤ). truth (int_le n (pos 0) && int_le (pos 0) n)) (same_number z (pos 0) same);
  otherwise = λ other. nonzero_by v z (int_le z (pos 0)) (int_le (pos 0) z) refl refl is other;
}

not_zero : (v a : Value) → v ≡ False → (a ≡ Int (pos 0) → ⊥) → IsZero v a
not_zero v a is other = record { so = λ same. absurd (other same); otherwise = λ different. is }

-- the method ends by the reply
zero_at_end : (x y : Value) (held after : Held) (v u : Value) (ts : List Turn)
    → (k : Sent (over_values.orders (equal_order x y)) (with_symbol (codes "<=>") held) x (symbol (codes "<=>") held)
    (y ∷ []) ts v after) → k.next ≡ gives k.turn.held u → (v ≡ u → IsZero v k.turn.answer)
    → IsReply (codes "<=>") held x y ts (IsZero v) after
zero_at_end x y held after v u ts k same tells =
    let end = given k.further k.turn.held u v after
    (subst (λ (p : Planned over_values.Stage). Runs (lifted p) k.further (gives after v)) same k.runs) in
    let one = k.same ∙ ap (λ (us : List Turn). k.turn ∷ us) end.0 in
    record {
      reply = k.turn.answer;
      replies = subst (λ (us : List Turn). Replies false (symbol (codes "<=>") held) (with_symbol (codes "<=>") held) x
          (y ∷ []) us k.turn.answer after) (sym one)
          (subst (λ (h : Held). Replies false (symbol (codes "<=>") held) (with_symbol (codes "<=>") held) x (y ∷ [])
          (k.turn ∷ []) k.turn.answer h) (sym end.2) (asked k.turn k.wanted k.message));
      result = tells end.1;
    }

zero_by : (x y : Value) (held after : Held) (v : Value) (ts : List Turn)
    → (k : Sent (over_values.orders (equal_order x y)) (with_symbol (codes "<=>") held) x (symbol (codes "<=>") held)
    (y ∷ []) ts v after) → (a : Value) → k.turn.answer ≡ a
    → comparing.GoesOn k.turn.held (over_values.orders (equal_order x y)) a k.next
    → IsReply (codes "<=>") held x y ts (IsZero v) after
zero_by x y held after v ts k (Int z) is goes =
    zero_at_end x y held after v (truth (int_le z (pos 0) && int_le (pos 0) z)) ts k goes
    (λ same. subst (λ (a : Value). IsZero v a) (sym is) (told_zero v z same))
zero_by x y held after v ts k Nil is goes = zero_at_end x y held after v False ts k goes
    (λ same. subst (λ (a : Value). IsZero v a) (sym is) (not_zero v Nil same (λ e. cc)))
zero_by x y held after v ts k True is goes = zero_at_end x y held after v False ts k goes
    (λ same. subst (λ (a : Value). IsZero v a) (sym is) (not_zero v True same (λ e. cc)))
zero_by x y held after v ts k False is goes = zero_at_end x y held after v False ts k goes
    (λ same. subst (λ (a : Value). IsZero v a) (sym is) (not_zero v False same (λ e. cc)))
zero_by x y held after v ts k (Sym s) is goes = zero_at_end x y held after v False ts k goes
    (λ same. subst (λ (a : Value). IsZero v a) (sym is) (not_zero v (Sym s) same (λ e. cc)))
zero_by x y held after v ts k (Obj id) is goes = zero_at_end x y held after v False ts k goes
    (λ same. subst (λ (a : Value). IsZero v a) (sym is) (not_zero v (Obj id) same (λ e. cc)))

abbrev begun_if : Held → Value → Value → Bool → Planned over_values.Stage
begun_if held x y c = if c then gives held True else ordering.ask held (equal_order x y)

pub equal_itself : (held after : Held) (recv y v : Value) (block : Option ObjId) (ts : List Turn)
    → same_value recv y ≡ true
    → Gives (row.Items (items_row.Compares (comparing_row.Order order_row.Equal))) held recv (y ∷ []) block ts v after
    → (ts ≡ []) × IsValue held True v after
equal_itself held after recv y v block ts same run =
    let f = first_of (comparing_row.Order order_row.Equal) held recv (y ∷ []) block ts v after run in
    at_once held after True v ts f.first (f.starts ∙ ap (λ (c : Bool). begun_if held recv y c) same) f.runs

pub equal_by_zero : (held after : Held) (recv y v : Value) (block : Option ObjId) (ts : List Turn)
    → same_value recv y ≡ false
    → Gives (row.Items (items_row.Compares (comparing_row.Order order_row.Equal))) held recv (y ∷ []) block ts v after
    → IsReply (codes "<=>") held recv y ts (IsZero v) after
equal_by_zero held after recv y v block ts same run =
    let f = first_of (comparing_row.Order order_row.Equal) held recv (y ∷ []) block ts v after run in
    let k = sent (over_values.orders (equal_order recv y)) (with_symbol (codes "<=>") held) recv
    (symbol (codes "<=>") held) (y ∷ []) ts v after
    (subst (λ (q : Planned over_values.Stage). Runs (lifted q) ts (gives after v))
    (f.starts ∙ ap (λ (c : Bool). begun_if held recv y c) same) f.runs) in
    zero_by recv y held after v ts k k.turn.answer refl k.goes
