-- Every body of a program's source stands where its number says.
use Rattle.std.proofs.Common.{◌≡◌, ℕ, zero, suc, ◌+◌, ◌-◌, ◌<◌, List, [], ◌∷◌, ◌++◌, length, get_or, Bool, true, false, refl, sym, ap, ◌∙◌, subst, arith, length-append, append_assoc}
use Rattle.std.specs.Prelude.{◌||◌, Some, slice_get, bytes_eq}
use Rattle.std.specs.List.{list_any}
use Rattle.std.proofs.lemmas.Option.{slice_get_within, slice_get-get_or, get_or_from_slice_get}
use Rattle.std.proofs.lemmas.List.{get_or-append_right}
use Rattle.std.proofs.lemmas.List.Folds.{list_any-append}
use Rattle.std.proofs.lemmas.Slice.Eq.{bytes_eq-Decides}
use Rattle.rb_syntax.specs.declared.core_form.DefinedKind.{DefinedKind}
use Rattle.rb_syntax.specs.declared.core_form.DefinedKind.TheVariants as asks
use Rattle.ir_core.specs.CoreForm as form
use Rattle.ir_core.specs.CoreForm.{Name, CoreForm, Body, body, Maybe, absent, there, Forms, none, more, Items, no_items, plain, splat, Pairs, no_pairs, pair, Branches, no_branches, branch, Clauses, no_clauses, clause, Receiver, to, on_self, bare}
use Rattle.ir_core.specs.Program.{Around, within_loop, within_clause, within_target, within_block, within_method, within_class, is_form, may_be, are_forms, are_items, are_pairs, are_branches, are_clauses, is_receiver, is_block, is_method, is_class, within_program, IsProgram}
use Rattle.def_eval.specs.Source.{Source, over, over_body, over_maybe, over_forms, over_items, over_pairs, over_branches, over_clauses, over_receiver, over_asked, how_many, in_order, named_in, all_names, source_of, body_at, form_of, locals_of, span, span_maybe, span_forms, span_clauses}
use Rattle.eval_laws.specs.Kinds.{Kind, of_block, of_method, of_class, kinds, kinds_body, kinds_maybe, kinds_forms, kinds_items, kinds_pairs, kinds_branches, kinds_clauses, kinds_receiver, all_kinds}
use Rattle.eval_laws.specs.Standing.{IsNamed, IsAsked, FormStands, MaybeStands, FormsStand, ItemsStand, PairsStand, BranchesStand, ClausesStand, ReceiverStands, BlockStands, MethodStands, ClassStands, past_receiver, past_items, past_branches}
use Rattle.eval_laws.proofs.Sizes.{Sized, none_there, nothing_asked, size, size_maybe, size_forms, size_items, size_branches, size_clauses}
use Rattle.eval_laws.proofs.Tests.{and_true, or_left, or_right}

-- Pieces of a source: bodies depth first with what they are the bodies of, and names.

record Piece : Type 0 where
  bodies : List Body
  kinds : List Kind
  names : List Name

abbrev joined : Piece → Piece → Piece
joined p q = record { bodies = p.bodies ++ q.bodies; kinds = p.kinds ++ q.kinds; names = p.names ++ q.names }

abbrev piece : CoreForm → Piece
piece e = record { bodies = over in_order e; kinds = kinds e; names = over named_in e }

abbrev piece_maybe : Maybe → Piece
piece_maybe e = record { bodies = over_maybe in_order e; kinds = kinds_maybe e; names = over_maybe named_in e }

abbrev piece_forms : Forms → Piece
piece_forms es = record { bodies = over_forms in_order es; kinds = kinds_forms es; names = over_forms named_in es }

abbrev piece_items : Items → Piece
piece_items is = record { bodies = over_items in_order is; kinds = kinds_items is; names = over_items named_in is }

abbrev piece_pairs : Pairs → Piece
piece_pairs ps = record { bodies = over_pairs in_order ps; kinds = kinds_pairs ps; names = over_pairs named_in ps }

abbrev piece_branches : Branches → Piece
piece_branches bs =
    record { bodies = over_branches in_order bs; kinds = kinds_branches bs; names = over_branches named_in bs }

abbrev piece_clauses : Clauses → Piece
piece_clauses cs =
    record { bodies = over_clauses in_order cs; kinds = kinds_clauses cs; names = over_clauses named_in cs }

abbrev piece_receiver : Receiver → Piece
piece_receiver r =
    record { bodies = over_receiver in_order r; kinds = kinds_receiver r; names = over_receiver named_in r }

abbrev piece_body : Kind → Body → Piece
piece_body k f = record { bodies = over_body in_order f; kinds = kinds_body k f; names = over_body named_in f }

abbrev name : Name → Piece
name x = record { bodies = []; kinds = []; names = x ∷ [] }

abbrev asked_piece : DefinedKind → Name → Piece
asked_piece k x = record { bodies = over_asked in_order k x; kinds = []; names = over_asked named_in k x }

-- these stand in the list from n on
abbrev SliceAt : {A : Type 0} → List A → ℕ → List A → Type 0
SliceAt s n [] = Unit {0}
SliceAt s n (b ∷ bs) = (slice_get s n ≡ Some b) × SliceAt s (n + 1) bs

abbrev NamesIn : Source → List Name → Type 0
NamesIn s xs = (x : Name) → list_any (bytes_eq x) xs ≡ true → IsNamed s x

record Here (s : Source) (n : ℕ) (p : Piece) : Type 0 where
  slice : SliceAt s n p.bodies
  kinds : SliceAt (all_kinds s) n p.kinds
  names : NamesIn s p.names
  some : 0 < n

module _ {A : Type 0} (s : List A) where
  slice_left : (n : ℕ) (bs cs : List A) → SliceAt s n (bs ++ cs) → SliceAt s n bs
  slice_left n [] cs h = tt
  slice_left n (b ∷ bs) cs h = (h.0, slice_left (n + 1) bs cs h.1)

  slice_right : (n k : ℕ) (bs cs : List A) → k ≡ n + length bs → SliceAt s n (bs ++ cs) → SliceAt s k cs
  slice_right n k [] cs e h = let d : n ≡ k = omega (arith, e) in subst (λ i. SliceAt s i cs) d h
  slice_right n k (b ∷ bs) cs e h = slice_right (n + 1) k bs cs (omega (arith, e)) h.1

names_left : (s : Source) (xs ys : List Name) → NamesIn s (xs ++ ys) → NamesIn s xs
names_left s xs ys h x is = h x (list_any-append (bytes_eq x) xs ys
    ∙ or_left (list_any (bytes_eq x) xs) (list_any (bytes_eq x) ys) is)

names_right : (s : Source) (xs ys : List Name) → NamesIn s (xs ++ ys) → NamesIn s ys
names_right s xs ys h x is = h x (list_any-append (bytes_eq x) xs ys
    ∙ or_right (list_any (bytes_eq x) xs) (list_any (bytes_eq x) ys) is)

names_both : (s : Source) (xs ys : List Name) → NamesIn s xs → NamesIn s ys → NamesIn s (xs ++ ys)
names_both s xs ys f g x is = by (list_any (bytes_eq x) xs) refl (sym (list_any-append (bytes_eq x) xs ys) ∙ is)
  where
    by : (t : Bool) → list_any (bytes_eq x) xs ≡ t → (list_any (bytes_eq x) xs || list_any (bytes_eq x) ys) ≡ true
        → IsNamed s x
    by true e h = f x e
    by false e h = g x (sym (ap (λ (t : Bool). t || list_any (bytes_eq x) ys) e) ∙ h)

-- the names of a body of the source are the source's
named_at : (bs : List Body) (n : ℕ) (d : Body) → n < length bs → (x : Name)
    → list_any (bytes_eq x) (over named_in (form_of (get_or bs n d))) ≡ true → list_any (bytes_eq x) (all_names bs) ≡ true
named_at [] n d lt x is = absurd (omega (arith, lt))
named_at (b ∷ bs) zero d lt x is =
    list_any-append (bytes_eq x) (over named_in (form_of b)) (all_names bs)
    ∙ or_left (list_any (bytes_eq x) (over named_in (form_of b))) (list_any (bytes_eq x) (all_names bs)) is
named_at (b ∷ bs) (suc n) d lt x is =
    list_any-append (bytes_eq x) (over named_in (form_of b)) (all_names bs)
    ∙ or_right (list_any (bytes_eq x) (over named_in (form_of b))) (list_any (bytes_eq x) (all_names bs))
    (named_at bs n d (omega (arith, lt)) x is)

names_at : (s : Source) (n : ℕ) (f : Body) → slice_get s n ≡ Some f → NamesIn s (over named_in (form_of f))
names_at s n f h x is = named_at s n f (slice_get_within s n f h) x
    (subst (λ g. list_any (bytes_eq x) (over named_in (form_of g)) ≡ true) (sym (get_or_from_slice_get s n f f h)) is)

module _ (s : Source) where
  left : (n : ℕ) (p q : Piece) → Here s n (joined p q) → Here s n p
  left n p q h = record {
    slice = slice_left s n p.bodies q.bodies h.slice;
    kinds = slice_left (all_kinds s) n p.kinds q.kinds h.kinds;
    names = names_left s p.names q.names h.names;
    some = h.some;
  }

  -- behind a piece with so many bodies
  right : (n k l : ℕ) (p q : Piece) → Sized p.bodies p.kinds l → k ≡ n + l → Here s n (joined p q) → Here s k q
  right n k l p q size e h = record {
    slice = slice_right s n k p.bodies q.bodies (omega (arith, e, size.bodies)) h.slice;
    kinds = slice_right (all_kinds s) n k p.kinds q.kinds (omega (arith, e, size.kinds)) h.kinds;
    names = names_right s p.names q.names h.names;
    some = omega (arith, h.some, e);
  }

  behind : (n : ℕ) (e : CoreForm) (q : Piece) → Here s n (joined (piece e) q) → Here s (n + span e) q
  behind n e q h = right n (n + span e) (span e) (piece e) q (size e) refl h

  behind_maybe : (n : ℕ) (e : Maybe) (q : Piece) → Here s n (joined (piece_maybe e) q) → Here s (n + span_maybe e) q
  behind_maybe n e q h = right n (n + span_maybe e) (span_maybe e) (piece_maybe e) q (size_maybe e) refl h

  behind_forms : (n : ℕ) (es : Forms) (q : Piece) → Here s n (joined (piece_forms es) q) → Here s (n + span_forms es) q
  behind_forms n es q h = right n (n + span_forms es) (span_forms es) (piece_forms es) q (size_forms es) refl h

  behind_clauses : (n : ℕ) (cs : Clauses) (q : Piece) → Here s n (joined (piece_clauses cs) q)
      → Here s (n + span_clauses cs) q
  behind_clauses n cs q h = right n (n + span_clauses cs) (span_clauses cs) (piece_clauses cs) q (size_clauses cs) refl h

  -- the bodies of an `else` stand before those of the clauses, whose names stand first
  else_first : (n : ℕ) (b : CoreForm) (cs : Clauses) (o e : Maybe) → Here s n (piece (form.begin_form b cs o e))
      → Here s n (joined (piece b) (joined (piece_maybe o) (joined (piece_clauses cs) (piece_maybe e))))
  else_first n b cs o e h =
      let xs = over named_in b in
      let ys = over_clauses named_in cs in
      let zs = over_maybe named_in o in
      let us = over_maybe named_in e in
      let behind_body = names_right s xs (ys ++ (zs ++ us)) h.names in
      let behind_classes = names_right s ys (zs ++ us) behind_body in
      record {
        slice = h.slice;
        kinds = h.kinds;
        names = names_both s xs (zs ++ (ys ++ us)) (names_left s xs (ys ++ (zs ++ us)) h.names)
            (names_both s zs (ys ++ us) (names_left s zs us behind_classes)
            (names_both s ys us (names_left s ys (zs ++ us) behind_body) (names_right s zs us behind_classes)));
        some = h.some;
      }

  behind_receiver : (n : ℕ) (r : Receiver) (q : Piece) → Here s n (joined (piece_receiver r) q)
      → Here s (past_receiver n r) q
  behind_receiver n (to e) q h = behind n e q h
  behind_receiver n on_self q h = h
  behind_receiver n bare q h = h

  past_items_is : (n : ℕ) (is : Items) → past_items n is ≡ n + over_items how_many is
  past_items_is n no_items = omega arith
  past_items_is n (plain e is) = let h = past_items_is (n + span e) is in omega (arith, h)
  past_items_is n (splat e is) = let h = past_items_is (n + span e) is in omega (arith, h)

  past_branches_is : (n : ℕ) (bs : Branches) → past_branches n bs ≡ n + over_branches how_many bs
  past_branches_is n no_branches = omega arith
  past_branches_is n (branch t b bs) =
      let h = past_branches_is (n + span t + span b) bs in omega (arith, h)

  behind_items : (n : ℕ) (is : Items) (q : Piece) → Here s n (joined (piece_items is) q) → Here s (past_items n is) q
  behind_items n is q h =
      right n (past_items n is) (over_items how_many is) (piece_items is) q (size_items is) (past_items_is n is) h

  behind_branches : (n : ℕ) (bs : Branches) (q : Piece) → Here s n (joined (piece_branches bs) q)
      → Here s (past_branches n bs) q
  behind_branches n bs q h =
      right n (past_branches n bs) (over_branches how_many bs) (piece_branches bs) q (size_branches bs)
      (past_branches_is n bs) h

  the_name : (n : ℕ) (x : Name) → Here s n (name x) → IsNamed s x
  the_name n x h = h.names x (or_left (bytes_eq x x) false ((bytes_eq-Decides x x).1 refl))

  -- a name before a piece
  named : (n : ℕ) (x : Name) (q : Piece) → Here s n (joined (name x) q) → IsNamed s x
  named n x q h = the_name n x (left n (name x) q h)

  behind_name : (n : ℕ) (x : Name) (q : Piece) → Here s n (joined (name x) q) → Here s n q
  behind_name n x q h = right n n 0 (name x) q none_there (omega arith) h

  behind_asked : (n : ℕ) (k : DefinedKind) (x : Name) (q : Piece) → Here s n (joined (asked_piece k x) q) → Here s n q
  behind_asked n k x q h =
      let none = (nothing_asked k x).kinds in
      right n n (over_asked how_many k x) (asked_piece k x) q (nothing_asked k x) (omega (arith, none)) h

  asked : (n : ℕ) (k : DefinedKind) (x : Name) → Here s n (asked_piece k x) → IsAsked s k x
  asked n asks.Expression x h = tt
  asked n asks.LocalVariable x h = tt
  asked n asks.InstanceVariable x h = the_name n x h
  asked n asks.GlobalVariable x h = the_name n x h
  asked n asks.Constant x h = the_name n x h
  asked n asks.Method x h = the_name n x h
  asked n asks.Yield x h = tt
  asked n asks.Super x h = tt
  asked n asks.SelfReference x h = tt
  asked n asks.Assignment x h = tt

  -- the form of a body that stands there
  inside : (n : ℕ) (t : Kind) (p : _) (ls : _) (e : CoreForm) → Here s n (piece_body t (body p ls e))
      → Here s (n + 1) (piece e)
  inside n t p ls e h = record {
    slice = h.slice.1;
    kinds = h.kinds.1;
    names = names_at s n (body p ls e) h.slice.0;
    some = omega arith;
  }

  mutual
    stands : (a : Around) (n : ℕ) (e : CoreForm) → is_form a e ≡ true → Here s n (piece e) → FormStands s a n e
    stands a n form.nil h k = tt
    stands a n form.truth h k = tt
    stands a n form.falsehood h k = tt
    stands a n form.self_ref h k = tt
    stands a n (form.int z) h k = tt
    stands a n (form.str b) h k = tt
    stands a n (form.sym x) h k = the_name n x k
    stands a n (form.local x) h k = h
    stands a n (form.own x) h k = h
    stands a n form.exception h k = h
    stands a n (form.set_local x e) h k = let b = and_true h in (b.0, stands a n e b.1 k)
    stands a n (form.ivar x) h k = the_name n x k
    stands a n (form.set_ivar x e) h k = (named n x (piece e) k, stands a n e h (behind_name n x (piece e) k))
    stands a n (form.gvar x) h k = the_name n x k
    stands a n (form.set_gvar x e) h k = (named n x (piece e) k, stands a n e h (behind_name n x (piece e) k))
    stands a n (form.constant x) h k = the_name n x k
    stands a n (form.top_constant x) h k = the_name n x k
    stands a n (form.in_constant e x) h k = (named n x (piece e) k, stands a n e h (behind_name n x (piece e) k))
    stands a n (form.set_constant x e) h k = (named n x (piece e) k, stands a n e h (behind_name n x (piece e) k))
    stands a n (form.set_in_constant c x e) h k =
        let b = and_true h in
        let l = behind_name n x (joined (piece c) (piece e)) k in (
          named n x (joined (piece c) (piece e)) k,
          stands a n c b.0 (left n (piece c) (piece e) l),
          stands a (n + span c) e b.1 (behind n c (piece e) l),
        )
    stands a n (form.array is) h k = items_stand a n is h k
    stands a n (form.hash ps) h k = pairs_stand a n ps h k
    stands a n (form.range e f x) h k =
        let b = and_true h in
        (stands a n e b.0 (left n (piece e) (piece f) k), stands a (n + span e) f b.1 (behind n e (piece f) k))
    stands a n (form.text es) h k = forms_stand a n es h k
    stands a n (form.intern e) h k = stands a n e h k
    stands a n (form.seq es) h k = forms_stand a n es h k
    stands a n (form.cond bs o) h k =
        let b = and_true h in (
          branches_stand a n bs b.0 (left n (piece_branches bs) (piece o) k),
          stands a (past_branches n bs) o b.1 (behind_branches n bs (piece o) k),
        )
    stands a n (form.and_form e f) h k =
        let b = and_true h in
        (stands a n e b.0 (left n (piece e) (piece f) k), stands a (n + span e) f b.1 (behind n e (piece f) k))
    stands a n (form.or_form e f) h k =
        let b = and_true h in
        (stands a n e b.0 (left n (piece e) (piece f) k), stands a (n + span e) f b.1 (behind n e (piece f) k))
    stands a n (form.while_form first t b) h k =
        let c = and_true h in (
          stands (within_loop a) n t c.0 (left n (piece t) (piece b) k),
          stands (within_loop a) (n + span t) b c.1 (behind n t (piece b) k),
        )
    stands a n (form.call r x is b) h k =
        let c = and_true h in
        let d = and_true c.1 in
        let q = joined (piece_items is) (piece_maybe b) in
        let f = behind_name n x (joined (piece_receiver r) q) k in
        let l = behind_receiver n r q f in (
          named n x (joined (piece_receiver r) q) k,
          receiver_stands a n r c.0 (left n (piece_receiver r) q f),
          items_stand a (past_receiver n r) is d.0 (left (past_receiver n r) (piece_items is) (piece_maybe b) l),
          maybe_stands a (past_items (past_receiver n r) is) b d.1
              (behind_items (past_receiver n r) is (piece_maybe b) l),
        )
    stands a n (form.yield_form is) h k = items_stand a n is (and_true h).1 k
    stands a n (form.super_form is b) h k =
        let c = and_true (and_true h).1 in (
          items_stand a n is c.0 (left n (piece_items is) (piece_maybe b) k),
          maybe_stands a (past_items n is) b c.1 (behind_items n is (piece_maybe b) k),
        )
    stands a n (form.function f) h k = block_stands a n f h k
    stands a n (form.lambda f) h k = block_stands a n f h k
    stands a n (form.begin_form b cs o e) h k =
        let c = and_true h in
        let d = and_true c.1 in
        let f = and_true d.1 in
        let p = joined (piece_maybe o) (joined (piece_clauses cs) (piece_maybe e)) in
        let q = joined (piece_clauses cs) (piece_maybe e) in
        let x = else_first n b cs o e k in
        let l = behind n b p x in
        let m = behind_maybe (n + span b) o q l in (
          stands a n b c.0 (left n (piece b) p x),
          clauses_stand a (n + span b + span_maybe o) cs d.0
              (left (n + span b + span_maybe o) (piece_clauses cs) (piece_maybe e) m),
          maybe_stands a (n + span b) o f.0 (left (n + span b) (piece_maybe o) q l),
          maybe_stands a (n + span b + span_maybe o + span_clauses cs) e f.1
              (behind_clauses (n + span b + span_maybe o) cs (piece_maybe e) m),
        )
    stands a n (form.return_form e) h k = stands a n e (and_true h).1 k
    stands a n (form.break_form e) h k = stands a n e (and_true h).1 k
    stands a n (form.next_form e) h k = stands a n e (and_true h).1 k
    stands a n form.retry h k = h
    stands a n (form.define x f) h k =
        (named n x (piece_body of_method f) k, method_stands n f h (behind_name n x (piece_body of_method f) k))
    stands a n (form.define_on e x f) h k =
        let b = and_true h in
        let l = behind_name n x (joined (piece e) (piece_body of_method f)) k in (
          named n x (joined (piece e) (piece_body of_method f)) k,
          stands a n e b.0 (left n (piece e) (piece_body of_method f) l),
          method_stands (n + span e) f b.1 (behind n e (piece_body of_method f) l),
        )
    stands a n (form.class_form c x p f) h k =
        let b = and_true h in
        let d = and_true b.1 in
        let q = joined (piece_maybe p) (piece_body of_class f) in
        let g = behind_name n x (joined (piece_maybe c) q) k in
        let l = behind_maybe n c q g in (
          named n x (joined (piece_maybe c) q) k,
          maybe_stands a n c b.0 (left n (piece_maybe c) q g),
          maybe_stands a (n + span_maybe c) p d.0 (left (n + span_maybe c) (piece_maybe p) (piece_body of_class f) l),
          class_stands (n + span_maybe c + span_maybe p) f d.1 (behind_maybe (n + span_maybe c) p (piece_body of_class f) l),
        )
    stands a n (form.module_form c x f) h k =
        let b = and_true h in
        let l = behind_name n x (joined (piece_maybe c) (piece_body of_class f)) k in (
          named n x (joined (piece_maybe c) (piece_body of_class f)) k,
          maybe_stands a n c b.0 (left n (piece_maybe c) (piece_body of_class f) l),
          class_stands (n + span_maybe c) f b.1 (behind_maybe n c (piece_body of_class f) l),
        )
    stands a n (form.singleton_class e f) h k =
        let b = and_true h in (
          stands a n e b.0 (left n (piece e) (piece_body of_class f) k),
          class_stands (n + span e) f b.1 (behind n e (piece_body of_class f) k),
        )
    stands a n (form.alias_form x y) h k =
        (named n x (name y) k, the_name n y (behind_name n x (name y) k))
    stands a n (form.undef_form x) h k = the_name n x k
    stands a n (form.defined d x e) h k = (
      asked n d x (left n (asked_piece d x) (piece_maybe e) k),
      maybe_stands a n e h (behind_asked n d x (piece_maybe e) k),
    )
    stands a n (form.item e i) h k = stands a n e h k
    stands a n (form.rest_of e from post) h k = stands a n e h k
    stands a n (form.tail_of e from count) h k = stands a n e h k

    maybe_stands : (a : Around) (n : ℕ) (e : Maybe) → may_be a e ≡ true → Here s n (piece_maybe e) → MaybeStands s a n e
    maybe_stands a n absent h k = tt
    maybe_stands a n (there e) h k = stands a n e h k

    forms_stand : (a : Around) (n : ℕ) (es : Forms) → are_forms a es ≡ true → Here s n (piece_forms es)
        → FormsStand s a n es
    forms_stand a n none h k = tt
    forms_stand a n (more e es) h k =
        let b = and_true h in (
          stands a n e b.0 (left n (piece e) (piece_forms es) k),
          forms_stand a (n + span e) es b.1 (behind n e (piece_forms es) k),
        )

    items_stand : (a : Around) (n : ℕ) (is : Items) → are_items a is ≡ true → Here s n (piece_items is)
        → ItemsStand s a n is
    items_stand a n no_items h k = tt
    items_stand a n (plain e is) h k =
        let b = and_true h in (
          stands a n e b.0 (left n (piece e) (piece_items is) k),
          items_stand a (n + span e) is b.1 (behind n e (piece_items is) k),
        )
    items_stand a n (splat e is) h k =
        let b = and_true h in (
          stands a n e b.0 (left n (piece e) (piece_items is) k),
          items_stand a (n + span e) is b.1 (behind n e (piece_items is) k),
        )

    pairs_stand : (a : Around) (n : ℕ) (ps : Pairs) → are_pairs a ps ≡ true → Here s n (piece_pairs ps)
        → PairsStand s a n ps
    pairs_stand a n no_pairs h k = tt
    pairs_stand a n (pair e f ps) h k =
        let b = and_true h in
        let c = and_true b.1 in
        let l = behind n e (joined (piece f) (piece_pairs ps)) k in (
          stands a n e b.0 (left n (piece e) (joined (piece f) (piece_pairs ps)) k),
          stands a (n + span e) f c.0 (left (n + span e) (piece f) (piece_pairs ps) l),
          pairs_stand a (n + span e + span f) ps c.1 (behind (n + span e) f (piece_pairs ps) l),
        )

    branches_stand : (a : Around) (n : ℕ) (bs : Branches) → are_branches a bs ≡ true → Here s n (piece_branches bs)
        → BranchesStand s a n bs
    branches_stand a n no_branches h k = tt
    branches_stand a n (branch t e bs) h k =
        let b = and_true h in
        let c = and_true b.1 in
        let l = behind n t (joined (piece e) (piece_branches bs)) k in (
          stands a n t b.0 (left n (piece t) (joined (piece e) (piece_branches bs)) k),
          stands a (n + span t) e c.0 (left (n + span t) (piece e) (piece_branches bs) l),
          branches_stand a (n + span t + span e) bs c.1 (behind (n + span t) e (piece_branches bs) l),
        )

    clauses_stand : (a : Around) (n : ℕ) (cs : Clauses) → are_clauses a cs ≡ true → Here s n (piece_clauses cs)
        → ClausesStand s a n cs
    clauses_stand a n no_clauses h k = tt
    clauses_stand a n (clause es t e cs) h k =
        let b = and_true h in
        let c = and_true b.1 in
        let d = and_true c.1 in
        let p = joined (piece_maybe t) (joined (piece e) (piece_clauses cs)) in
        let q = joined (piece e) (piece_clauses cs) in
        let l = behind_forms n es p k in
        let m = behind_maybe (n + span_forms es) t q l in (
          forms_stand (within_clause a) n es b.0 (left n (piece_forms es) p k),
          maybe_stands (within_target a) (n + span_forms es) t c.0 (left (n + span_forms es) (piece_maybe t) q l),
          stands (within_clause a) (n + span_forms es + span_maybe t) e d.0
              (left (n + span_forms es + span_maybe t) (piece e) (piece_clauses cs) m),
          clauses_stand a (n + span_forms es + span_maybe t + span e) cs d.1
              (behind (n + span_forms es + span_maybe t) e (piece_clauses cs) m),
        )

    receiver_stands : (a : Around) (n : ℕ) (r : Receiver) → is_receiver a r ≡ true → Here s n (piece_receiver r)
        → ReceiverStands s a n r
    receiver_stands a n (to e) h k = stands a n e h k
    receiver_stands a n on_self h k = tt
    receiver_stands a n bare h k = tt

    block_stands : (a : Around) (n : ℕ) (f : Body) → is_block a f ≡ true → Here s n (piece_body of_block f)
        → BlockStands s a n f
    block_stands a n (body p ls e) h k =
        let b = and_true h in
        (k.slice.0, b.0, stands (within_block a p ls) (n + 1) e b.1 (inside n of_block p ls e k), k.some, k.kinds.0)

    method_stands : (n : ℕ) (f : Body) → is_method f ≡ true → Here s n (piece_body of_method f) → MethodStands s n f
    method_stands n (body p ls e) h k =
        let b = and_true h in
        (k.slice.0, b.0, stands (within_method p ls) (n + 1) e b.1 (inside n of_method p ls e k), k.some, k.kinds.0)

    class_stands : (n : ℕ) (f : Body) → is_class f ≡ true → Here s n (piece_body of_class f) → ClassStands s n f
    class_stands n (body p ls e) h k =
        (k.slice.0, stands (within_class ls) (n + 1) e (and_true h).1 (inside n of_class p ls e k), k.kinds.0)

-- A source that is whole.

module _ {A : Type 0} where
  at_end : (before : List A) (b : A) (bs : List A) → slice_get (before ++ b ∷ bs) (length before) ≡ Some b
  at_end before b bs =
      let lt : length before < length (before ++ b ∷ bs) = rw length-append (omega arith) in
      slice_get-get_or (before ++ b ∷ bs) (length before) b lt
      ∙ ap Some (get_or-append_right before (b ∷ bs) (length before) (length before) b refl (omega arith)
      ∙ first_at (length before - length before) (omega arith))
    where
      first_at : (i : ℕ) → i ≡ 0 → get_or (b ∷ bs) i b ≡ b
      first_at i e = ap (λ j. get_or (b ∷ bs) j b) e

  whole : (before bs : List A) → SliceAt (before ++ bs) (length before) bs
  whole before [] = tt
  whole before (b ∷ bs) = (
    at_end before b bs,
    subst (λ l. SliceAt l (length before + 1) bs) (append_assoc before (b ∷ []) bs)
        (subst (λ i. SliceAt ((before ++ b ∷ []) ++ bs) i bs) (length-append before (b ∷ []))
        (whole (before ++ b ∷ []) bs)),
  )

pub main_there : (b : Body) → body_at (source_of b) 0 ≡ b
unfolding body_at
main_there (body p ls e) = refl

pub program_stands : (b : Body) → IsProgram b
    → FormStands (source_of b) (within_program (locals_of b)) 1 (form_of b)
program_stands (body p ls e) is =
    let s = source_of (body p ls e) in
    let all = whole [] s in
    stands s (within_program ls) 1 e (and_true is).1
    (record {
      slice = all.1;
      kinds = (whole [] (all_kinds s)).1;
      names = names_at s 0 (body p ls e) all.0;
      some = omega arith;
    })
