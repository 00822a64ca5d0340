-- With which variables and registers a body begins that is entered: they are alike.
use Rattle.std.proofs.Common.{◌≡◌, ℕ, zero, suc, ◌+◌, ◌<◌, ◌≤◌, List, [], ◌∷◌, ◌++◌, refl, sym, ap, ◌∙◌, subst, arith, length, length-append, length-set, get_or, set, replicate, Bool, true, false, get_or-set_same, get_or-set_other}
use Rattle.std.specs.Prelude.{if◌then◌else◌, Option, Some, None, is_some, unwrap_or}
use Rattle.std.proofs.lemmas.List.{length-replicate, length-map, map-append, append_assoc, get_or_append_left, get_or_push}
use Rattle.rb_value.specs.declared.value.Value.{Value}
use Rattle.rb_value.specs.declared.value.Value.TheVariants.{Nil}
use Rattle.rb_value.specs.declared.value.ObjId.{ObjId}
use Rattle.rb_value.specs.declared.exit.Slot.{Slot}
use Rattle.rb_value.specs.declared.exit.Slot.TheVariants.{V}
use Rattle.rb_value.specs.Slot.{read}
use Rattle.ir_core.specs.CoreForm.{Local, hidden, Parameters, Body, body}
use Rattle.scope_resolver.specs.declared.body_kind.BodyKind.TheVariants as kind
use Rattle.scope_resolver.specs.declared.place.Place.{Place}
use Rattle.scope_resolver.specs.declared.seek.Search.{Search}
use Rattle.scope_resolver.specs.declared.seek.Search.TheVariants.{Found, Past}
use Rattle.scope_resolver.specs.Layout.{Slots, Scopes, named_slots, block_slot, parameter_slots, slots_of, seek, place_at, place_from, place_or_self, place_of}
use Rattle.code_laws.specs.Bound.{IsSeen}
use Rattle.def_eval.specs.Source.{parameters_of, locals_of}
use Rattle.def_eval.specs.Configuration.{Scope, all_nil}
use Rattle.def_eval.specs.Scopes.{same_local, no_scope, value_in, all_of, with_values, block_value, first_variables, scope_at}
use Rattle.def_machine.specs.State as machine
use Rattle.def_machine.specs.State.{Registers, no_registers, list_at, slot_at}
use Rattle.step_laws.specs.Site.{Site, register, Known}
use Rattle.step_laws.specs.Bodies.{body_of, BodyAt}
use Rattle.step_laws.specs.Around.{is_found, first_slots as own_of}
use Rattle.step_laws.specs.Relation.{Mirrors, Same}
use Rattle.step_laws.proofs.Apart.{further_out}
use Rattle.step_laws.proofs.Seen.{Sort, seen, unseen, sort, seen_place}
use Rattle.step_laws.proofs.Parameters.{Lined, Sought, at, nowhere, sought, lined_values, lined_nils, lined_block, set_row, length_row, row_below, row_at, row_past}

named_all : (p : Parameters)
    → named_slots (all_of p)
    ≡ ((named_slots p.required ++ named_slots p.optional) ++ named_slots p.rest) ++ named_slots p.post
named_all p =
    map-append Some ((p.required ++ p.optional) ++ p.rest) p.post
    ∙ ap (λ (ss : Slots). ss ++ named_slots p.post) (map-append Some (p.required ++ p.optional) p.rest
    ∙ ap (λ (ss : Slots). ss ++ named_slots p.rest) (map-append Some p.required p.optional))

-- the slots of the parameters, that of the block, and those of the locals
all_slots : (p : Parameters) (ls : List Local)
    → parameter_slots p ++ named_slots ls ≡ named_slots (all_of p) ++ (block_slot p.block ++ named_slots ls)
all_slots p ls =
    append_assoc (((named_slots p.required ++ named_slots p.optional) ++ named_slots p.rest) ++ named_slots p.post)
    (block_slot p.block) (named_slots ls)
    ∙ ap (λ (ss : Slots). ss ++ (block_slot p.block ++ named_slots ls)) (sym (named_all p))

-- the variables are in the order of the slots
lined_variables : (bd : Body) (args : List Value) (blk : Option ObjId) (f : ℕ → Value)
    → length (parameters_of bd).block ≤ 1 → length args ≡ length (all_of (parameters_of bd))
    → ((i : ℕ) → i < length args → f (1 + i) ≡ get_or args i Nil) → f (1 + length args) ≡ block_value blk
    → ((i : ℕ) → 2 + length args ≤ i → f i ≡ Nil)
    → Lined (slots_of kind.Method bd) 1 f (first_variables (parameters_of bd) (locals_of bd) args blk)
unfolding first_variables
lined_variables (body p ls fm) args blk f one_block e arg block past =
    let own : List (Local × Value) = with_values p.block (block_value blk ∷ []) in
    subst (λ (ss : Slots). Lined ss 1 f ((with_values (all_of p) args ++ own) ++ all_nil ls)) (sym (all_slots p ls))
    (subst (λ (vs : List (Local × Value)). Lined (named_slots (all_of p) ++ (block_slot p.block ++ named_slots ls)) 1 f vs)
    (sym (append_assoc (with_values (all_of p) args) own (all_nil ls)))
    (lined_values (all_of p) args (block_slot p.block ++ named_slots ls) (own ++ all_nil ls) 1 f e arg
    (lined_block p.block (block_value blk) (named_slots ls) (all_nil ls) (1 + length (all_of p)) f one_block
    (subst (λ (n : ℕ). f (1 + n) ≡ block_value blk) e block)
    (lined_nils ls (1 + length (all_of p) + 1) f (λ i le. past i (omega (arith, le, e)))))))

-- and so they are where nothing is given
lined_missing : (xs : List Local) (ss : Slots) (vs : List (Local × Value)) (k : ℕ)
    → Lined ss (k + length xs) (λ i. Nil) vs → Lined (named_slots xs ++ ss) k (λ i. Nil) (with_values xs [] ++ vs)
lined_missing [] ss vs k l = subst (λ (i : ℕ). Lined ss i (λ j. Nil) vs) (omega arith) l
lined_missing (x ∷ xs) ss vs k l =
    (refl, refl, lined_missing xs ss vs (k + 1) (subst (λ (i : ℕ). Lined ss i (λ j. Nil) vs) (omega arith) l))

lined_nothing : (bd : Body) → length (parameters_of bd).block ≤ 1
    → Lined (slots_of kind.Method bd) 1 (λ i. Nil) (first_variables (parameters_of bd) (locals_of bd) [] None)
unfolding first_variables
lined_nothing (body p ls fm) one_block =
    let own : List (Local × Value) = with_values p.block (Nil ∷ []) in
    subst (λ (ss : Slots). Lined ss 1 (λ i. Nil) ((with_values (all_of p) [] ++ own) ++ all_nil ls)) (sym (all_slots p ls))
    (subst (λ (vs : List (Local × Value)).
    Lined (named_slots (all_of p) ++ (block_slot p.block ++ named_slots ls)) 1 (λ i. Nil) vs)
    (sym (append_assoc (with_values (all_of p) []) own (all_nil ls)))
    (lined_missing (all_of p) (block_slot p.block ++ named_slots ls) (own ++ all_nil ls) 1
    (lined_block p.block Nil (named_slots ls) (all_nil ls) (1 + length (all_of p)) (λ i. Nil) one_block refl
    (lined_nils ls (1 + length (all_of p) + 1) (λ i. Nil) (λ i le. refl)))))

pub nil_at : (n i : ℕ) → get_or (replicate n (V Nil)) i (V Nil) ≡ V Nil
nil_at zero i = refl
nil_at (suc n) zero = refl
nil_at (suc n) (suc i) = nil_at n i

-- the slots of a body: a parameter each and one of the block
slots_enough : (bd : Body) → length (all_of (parameters_of bd)) + 1 ≤ length (slots_of kind.Method bd)
slots_enough (body p ls fm) =
    omega (
      arith,
      ap length (all_slots p ls),
      length-append (named_slots (all_of p)) (block_slot p.block ++ named_slots ls),
      length-append (block_slot p.block) (named_slots ls),
      length-map (all_of p) Some,
      one p.block,
    )
  where
    one : (xs : List Local) → 1 ≤ length (block_slot xs)
    one [] = omega arith
    one (x ∷ xs) = omega arith

-- A local of the body has the value of its register, where variables are lined up with the slots.

abbrev own_slots : Site → Slots
own_slots d = slots_of kind.Method (body_of d)

found_slot : (d : Site) (m : BodyAt d) (f : ℕ → Value) (vs : List (Local × Value))
    → Lined (own_slots d) 1 f vs → (x : Local) → IsSeen x → Known d x → value_in vs x ≡ Some (f (register d x))
found_slot d m f vs l x is k = by (sought x (own_slots d) 1 f vs l)
  where
    placed : (r : Search) → seek x (own_slots d) (Past 1) ≡ r
        → place_of d.context.scopes x ≡ place_or_self (place_at r 0 (place_from x m.around 1))
    placed r e =
        ap (λ (cs : Scopes). place_of cs x) m.scopes ∙ seen_place (own_slots d ∷ m.around) x is
        ∙ ap (λ (q : Search). place_or_self (place_at q 0 (place_from x m.around 1))) e

    by : Sought x 1 f vs (seek x (own_slots d) (Past 1)) → value_in vs x ≡ Some (f (register d x))
    by (at i le e v) =
        v ∙ ap (λ (j : ℕ). Some (f j)) (sym (ap (λ (q : Place). q.register) (placed (Found i) e)))
    by (nowhere i le e v) =
        let level = sym (ap (λ (q : Place). q.levels) (placed (Past i) e)) ∙ k.level in
        let none = ap (λ (q : Place). q.register) (placed (Past i) e) ∙ further_out x m.around 1 (omega arith) level in
        absurd (omega (arith, k.behind_self, none))

-- variables that are lined up with the slots are those that the body has slots of
pub mirrored_by : (x : Local) (f : ℕ → Value) (vs : List (Local × Value)) (q : Search) → Sought x 1 f vs q
    → is_some (value_in vs x) ≡ is_found q
mirrored_by x f vs q (at i le e v) = ap is_some v ∙ sym (ap is_found e)
mirrored_by x f vs q (nowhere i le e v) = ap is_some v ∙ sym (ap is_found e)

pub lined_mirrors : (d : Site) (m : BodyAt d) (f : ℕ → Value) (vs : List (Local × Value)) → Lined (own_slots d) 1 f vs
    → (c : Scope) → c.variables ≡ vs → Mirrors d c
lined_mirrors d m f vs l c e x is =
    ap (λ (us : List (Local × Value)). is_some (value_in us x)) e
    ∙ mirrored_by x f vs (seek x (own_slots d) (Past 1)) (sought x (own_slots d) 1 f vs l)
    ∙ sym (ap (λ (z : Scopes). is_found (seek x (own_of z) (Past 1))) m.scopes)

module _ (d : Site) (m : BodyAt d) (args : List Value) (blk : Option ObjId)
    (right : length args ≡ length (all_of (parameters_of (body_of d)))) where
  abbrev count : ℕ
  count = (machine.body_at d.program d.body).registers

  abbrev first_slots : List Slot
  first_slots = set (replicate count (V Nil)) 0 (V d.self)

  abbrev slots : List Slot
  slots = set_row first_slots 1 (args ++ block_value blk ∷ [])

  abbrev value : ℕ → Value
  value i = read (get_or slots i (V Nil))

  first_long : length first_slots ≡ count
  first_long = length-set (replicate count (V Nil)) 0 (V d.self) ∙ length-replicate count (V Nil)

  row_long : length (args ++ block_value blk ∷ []) ≡ length args + 1
  row_long = length-append args (block_value blk ∷ []) ∙ omega arith

  enough : 1 + length (args ++ block_value blk ∷ []) ≤ length first_slots
  enough = omega (arith, row_long, right, slots_enough (body_of d), m.low, m.static.room, first_long)

  argument : (i : ℕ) → i < length args → value (1 + i) ≡ get_or args i Nil
  argument i lt =
      ap read (row_at first_slots 1 i (args ++ block_value blk ∷ []) (omega (arith, lt, row_long)) enough)
      ∙ get_or_append_left args (block_value blk ∷ []) Nil i lt

  the_block : value (1 + length args) ≡ block_value blk
  the_block =
      ap read (row_at first_slots 1 (length args) (args ++ block_value blk ∷ []) (omega (arith, row_long)) enough)
      ∙ get_or_push args (block_value blk) Nil (length args) refl

  empty_slot : (i : ℕ) → 2 + length args ≤ i → get_or slots i (V Nil) ≡ V Nil
  empty_slot i le =
      row_past first_slots 1 i (args ++ block_value blk ∷ []) (omega (arith, row_long, le))
      ∙ get_or-set_other (replicate count (V Nil)) 0 i (V d.self) (V Nil) (omega (arith, le)) ∙ nil_at count i

  others : (i : ℕ) → 2 + length args ≤ i → value i ≡ Nil
  others i le = ap read (empty_slot i le)

  lined : Lined (slots_of kind.Method (body_of d)) 1 value
      (first_variables (parameters_of (body_of d)) (locals_of (body_of d)) args blk)
  lined = lined_variables (body_of d) args blk value m.single.one_block right argument the_block others

  -- what a hidden local reads as, and its register
  hidden_alike : (h : ℕ)
      → unwrap_or (value_in (first_variables (parameters_of (body_of d)) (locals_of (body_of d)) args blk) (hidden h)) Nil
      ≡ value (register d (hidden h))
  hidden_alike h = by (sought (hidden h) (slots_of kind.Method (body_of d)) 1 value
      (first_variables (parameters_of (body_of d)) (locals_of (body_of d)) args blk) lined)
    where
      placed : register d (hidden h) ≡ 1 + length (slots_of kind.Method (body_of d)) + h
      placed = ap (λ (cs : Scopes). (place_of cs (hidden h)).register) m.scopes

      by : Sought (hidden h) 1 value (first_variables (parameters_of (body_of d)) (locals_of (body_of d)) args blk)
          (seek (hidden h) (slots_of kind.Method (body_of d)) (Past 1))
          → unwrap_or (value_in (first_variables (parameters_of (body_of d)) (locals_of (body_of d)) args blk) (hidden h)) Nil
          ≡ value (register d (hidden h))
      by (at i le e v) = absurd (cc (sym e ∙ m.none_hidden h))
      by (nowhere i le e v) =
          ap (λ (o : Option Value). unwrap_or o Nil) v
          ∙ sym (others (register d (hidden h)) (omega (arith, placed, right, slots_enough (body_of d))))

  -- and any local of the body
  alike : (x : Local) → Known d x
      → unwrap_or (value_in (first_variables (parameters_of (body_of d)) (locals_of (body_of d)) args blk) x) Nil
      ≡ value (register d x)
  alike x k = by (sort x)
    where
      by : Sort x
          → unwrap_or (value_in (first_variables (parameters_of (body_of d)) (locals_of (body_of d)) args blk) x) Nil
          ≡ value (register d x)
      by (seen is) = ap (λ (o : Option Value). unwrap_or o Nil) (found_slot d m value
          (first_variables (parameters_of (body_of d)) (locals_of (body_of d)) args blk) lined x is k)
      by (unseen h e) =
          ap (λ (z : Local).
          unwrap_or (value_in (first_variables (parameters_of (body_of d)) (locals_of (body_of d)) args blk) z) Nil) e
          ∙ hidden_alike h
          ∙ sym (ap (λ (z : Local). value (register d z)) e)

  mirrored : (c : Scope)
      → c.variables ≡ first_variables (parameters_of (body_of d)) (locals_of (body_of d)) args blk → Mirrors d c
  mirrored c e = lined_mirrors d m value
      (first_variables (parameters_of (body_of d)) (locals_of (body_of d)) args blk) lined c e

  -- the first register of its form has nil
  pub begun_nil : (l : List Registers) (outer : Option ℕ) → d.list ≡ length l
      → slot_at (l ++ (record { outer = outer; slots = slots }) ∷ []) d.list d.first ≡ V Nil
  unfolding slot_at
  begun_nil l outer e =
      ap (λ (q : Registers). get_or q.slots d.first (V Nil))
      (get_or_push l (record { outer = outer; slots = slots }) no_registers d.list (sym e))
      ∙ empty_slot d.first (omega (arith, right, slots_enough (body_of d), m.low))

  -- The scope and the list with which the body begins.
  pub begun_same : (cs : List Scope) (l : List Registers) (around outer : Option ℕ) → d.list ≡ length l
      → length cs ≡ length l → Same d (cs ++ (record {
        parent = around;
        variables = first_variables (parameters_of (body_of d)) (locals_of (body_of d)) args blk;
      }) ∷ []) (l ++ (record { outer = outer; slots = slots }) ∷ [])
  unfolding slot_at
  begun_same cs l around outer e f =
      let c : Scope = record {
        parent = around;
        variables = first_variables (parameters_of (body_of d)) (locals_of (body_of d)) args blk;
      } in
      let r : Registers = record { outer = outer; slots = slots } in
      let scope : scope_at (cs ++ c ∷ []) d.list ≡ c = get_or_push cs c no_scope d.list (omega (arith, e, f)) in
      let list : list_at (l ++ r ∷ []) d.list ≡ r = get_or_push l r no_registers d.list (sym e) in
      record {
        scope = omega (arith, e, f, length-append cs (c ∷ []));
        mirrors = subst (Mirrors d) (sym scope) (mirrored c refl);
        present = omega (arith, e, length-append l (r ∷ []));
        long = ap (λ (q : Registers). length q.slots) list
            ∙ length_row first_slots 1 (args ++ block_value blk ∷ []) ∙ first_long;
        self = ap (λ (q : Registers). read (get_or q.slots 0 (V Nil))) list
            ∙ ap read (row_below first_slots 1 0 (args ++ block_value blk ∷ []) (omega arith)
            ∙ get_or-set_same (replicate count (V Nil)) 0 (V d.self) (V Nil)
            (omega (arith, length-replicate count (V Nil), m.static.some, m.static.room)));
        alike = λ x k. ap (λ (q : Scope). unwrap_or (value_in q.variables x) Nil) scope ∙ alike x k
            ∙ sym (ap (λ (q : Registers). read (get_or q.slots (register d x) (V Nil))) list);
      }

-- Where the arguments are too many or too few, all is nil.

nil_values : (xs : List Local) (x : Local) (o : List (Local × Value))
    → unwrap_or (value_in o x) Nil ≡ Nil → unwrap_or (value_in (with_values xs [] ++ o) x) Nil ≡ Nil
nil_values [] x o e = e
nil_values (y ∷ ys) x o e = by (nil_values ys x o e) (same_local x y)
  where
    by : unwrap_or (value_in (with_values ys [] ++ o) x) Nil ≡ Nil → (b : Bool)
        → unwrap_or (if b then Some Nil else value_in (with_values ys [] ++ o) x) Nil ≡ Nil
    by further true = refl
    by further false = further

pub all_nils : (xs : List Local) (x : Local) → unwrap_or (value_in (all_nil xs) x) Nil ≡ Nil
all_nils [] x = refl
all_nils (y ∷ ys) x = by (all_nils ys x) (same_local x y)
  where
    by : unwrap_or (value_in (all_nil ys) x) Nil ≡ Nil → (b : Bool)
        → unwrap_or (if b then Some Nil else value_in (all_nil ys) x) Nil ≡ Nil
    by further true = refl
    by further false = further

block_nil : (xs : List Local) (x : Local) (o : List (Local × Value)) → unwrap_or (value_in o x) Nil ≡ Nil
    → unwrap_or (value_in (with_values xs (Nil ∷ []) ++ o) x) Nil ≡ Nil
block_nil [] x o e = e
block_nil (y ∷ ys) x o e = by (nil_values ys x o e) (same_local x y)
  where
    by : unwrap_or (value_in (with_values ys [] ++ o) x) Nil ≡ Nil → (b : Bool)
        → unwrap_or (if b then Some Nil else value_in (with_values ys [] ++ o) x) Nil ≡ Nil
    by further true = refl
    by further false = further

first_nil : (bd : Body) (x : Local)
    → unwrap_or (value_in (first_variables (parameters_of bd) (locals_of bd) [] None) x) Nil ≡ Nil
unfolding first_variables
first_nil (body p ls fm) x =
    subst (λ (vs : List (Local × Value)). unwrap_or (value_in vs x) Nil ≡ Nil)
    (sym (append_assoc (with_values (((p.required ++ p.optional) ++ p.rest) ++ p.post) [])
    (with_values p.block (Nil ∷ [])) (all_nil ls)))
    (nil_values (((p.required ++ p.optional) ++ p.rest) ++ p.post) x (with_values p.block (Nil ∷ []) ++ all_nil ls)
    (block_nil p.block x (all_nil ls) (all_nils ls x)))

nil_mirrors : (d : Site) (m : BodyAt d) (c : Scope)
    → c.variables ≡ first_variables (parameters_of (body_of d)) (locals_of (body_of d)) [] None → Mirrors d c
nil_mirrors d m c e = lined_mirrors d m (λ i. Nil)
    (first_variables (parameters_of (body_of d)) (locals_of (body_of d)) [] None)
    (lined_nothing (body_of d) m.single.one_block) c e

pub nil_same : (d : Site) (m : BodyAt d) (cs : List Scope) (l : List Registers) (around outer : Option ℕ)
    → d.list ≡ length l → length cs ≡ length l → Same d (cs ++ (record {
      parent = around;
      variables = first_variables (parameters_of (body_of d)) (locals_of (body_of d)) [] None;
    }) ∷ []) (l ++ (record {
      outer = outer;
      slots = set (replicate (machine.body_at d.program d.body).registers (V Nil)) 0 (V d.self);
    }) ∷ [])
unfolding slot_at
nil_same d m cs l around outer e f =
    let count = (machine.body_at d.program d.body).registers in
    let c : Scope = record {
      parent = around;
      variables = first_variables (parameters_of (body_of d)) (locals_of (body_of d)) [] None;
    } in
    let r : Registers = record { outer = outer; slots = set (replicate count (V Nil)) 0 (V d.self) } in
    let scope : scope_at (cs ++ c ∷ []) d.list ≡ c = get_or_push cs c no_scope d.list (omega (arith, e, f)) in
    let list : list_at (l ++ r ∷ []) d.list ≡ r = get_or_push l r no_registers d.list (sym e) in
    record {
      scope = omega (arith, e, f, length-append cs (c ∷ []));
      mirrors = subst (Mirrors d) (sym scope) (nil_mirrors d m c refl);
      present = omega (arith, e, length-append l (r ∷ []));
      long = ap (λ (q : Registers). length q.slots) list
          ∙ length-set (replicate count (V Nil)) 0 (V d.self) ∙ length-replicate count (V Nil);
      self = ap (λ (q : Registers). read (get_or q.slots 0 (V Nil))) list
          ∙ ap read (get_or-set_same (replicate count (V Nil)) 0 (V d.self) (V Nil)
          (omega (arith, length-replicate count (V Nil), m.static.some, m.static.room)));
      alike = λ x k. ap (λ (q : Scope). unwrap_or (value_in q.variables x) Nil) scope ∙ first_nil (body_of d) x
          ∙ sym (ap (λ (q : Registers). read (get_or q.slots (register d x) (V Nil))) list
          ∙ ap read (get_or-set_other (replicate count (V Nil)) 0 (register d x) (V d.self) (V Nil)
          (omega (arith, k.behind_self)) ∙ nil_at count (register d x)));
    }
