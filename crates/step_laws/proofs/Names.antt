-- The names of a body of the source are those of the table of its code, in the order in which both first have them.
use Rattle.std.proofs.Common.{◌≡◌, ◌≤◌, ℕ, suc, ◌+◌, arith, List, [], ◌∷◌, ◌++◌, length, length-append, refl, sym, ap, ◌∙◌, subst, append_assoc, Bool, true, false, true≢false}
use Rattle.std.proofs.lemmas.List.{append-nil}
use Rattle.std.specs.Prelude.{is_some, bytes_eq, not, position, if◌then◌else◌, Option, Some, None}
use Rattle.std.specs.List.{position_or_len}
use Rattle.std.proofs.lemmas.Bool.{lt-ltb}
use Rattle.std.proofs.lemmas.Slice.Eq.{bytes_eq-Decides}
use Rattle.rb_syntax.specs.declared.core_form.DefinedKind.{DefinedKind}
use Rattle.rb_syntax.specs.declared.core_form.DefinedKind.TheVariants as asks
use Rattle.def_core.specs.Store.{Store}
use Rattle.def_core.specs.Changes.{Interned, intern, intern_at}
use Rattle.rb_store.specs.Opening.{with_names}
use Rattle.text_set.specs.Sets.{is_among, with_text}
use Rattle.ir_core.specs.CoreForm as form
use Rattle.ir_core.specs.CoreForm.{Name, CoreForm, Body, Maybe, Forms, Items, Pairs, Branches, Clauses, Receiver}
use Rattle.ir_walk.specs.Walk.{Step, at, enter, leave, met, walked, walked_all, walked_maybe, walked_items, walked_pairs, walked_branches, walked_clauses, walked_receiver, walked_body}
use Rattle.ir_walk.specs.declared.extent.Extent.TheVariants as extent
use Rattle.ir_counts.specs.declared.tally.Tally.{Tally}
use Rattle.ir_counts.specs.Tally.{counted, tallied, no_form}
use Rattle.ir_counts.specs.Tables.{name_of, old_name_of, asked_name}
use Rattle.ir_counts.specs.Sets.{with_optional}
use Rattle.ir_counts.specs.Counts.{tally}
use Rattle.def_eval.specs.Source.{over, over_body, over_maybe, over_forms, over_items, over_pairs, over_branches, over_clauses, over_receiver, over_asked, named_in}
use Rattle.step_laws.proofs.Symbols.{has_of, has_named, interned}

-- The names of steps.

abbrev optional : Option Name → List Name
optional None = []
optional (Some x) = x ∷ []

abbrev own : CoreForm → List Name
own f = optional (name_of f) ++ optional (old_name_of f)

abbrev pub names_of : List Step → List Name
names_of [] = []
names_of (at f ∷ ss) = own f ++ names_of ss
names_of (enter b ∷ ss) = names_of ss
names_of (leave ∷ ss) = names_of ss

-- these names come with the steps behind
record IsThen (s t : List Step) (xs : List Name) : Type 0 where
  pub is : names_of t ≡ names_of s ++ xs

nothing : (s : List Step) → IsThen s s []
nothing s = record { is = sym (append-nil (names_of s)) }

joins : (s t u : List Step) (xs ys : List Name) → IsThen s t xs → IsThen t u ys → IsThen s u (xs ++ ys)
joins s t u xs ys a b = record {
  is = b.is ∙ ap (λ zs. zs ++ ys) a.is ∙ append_assoc (names_of s) xs ys;
}

met_is : (s : List Step) (f : CoreForm) → names_of (met s f) ≡ names_of s ++ own f
met_is [] f = append-nil (own f)
met_is (at g ∷ s) f =
    ap (λ zs. own g ++ zs) (met_is s f) ∙ sym (append_assoc (own g) (names_of s) (own f))
met_is (enter b ∷ s) f = met_is s f
met_is (leave ∷ s) f = met_is s f

met_names : (s : List Step) (f : CoreForm) → IsThen s (met s f) (own f)
met_names s f = record { is = met_is s f }

asked_names : (k : DefinedKind) (x : Name) → optional (asked_name k x) ++ [] ≡ over_asked named_in k x
asked_names asks.Expression x = refl
asked_names asks.LocalVariable x = refl
asked_names asks.InstanceVariable x = refl
asked_names asks.GlobalVariable x = refl
asked_names asks.Constant x = refl
asked_names asks.Method x = refl
asked_names asks.Yield x = refl
asked_names asks.Super x = refl
asked_names asks.SelfReference x = refl
asked_names asks.Assignment x = refl

mutual
  walk_names : (s : List Step) (e : CoreForm) → IsThen s (walked extent.Body s e) (over named_in e)
  walk_names s form.nil = met_names s form.nil
  walk_names s form.truth = met_names s form.truth
  walk_names s form.falsehood = met_names s form.falsehood
  walk_names s form.self_ref = met_names s form.self_ref
  walk_names s (form.int z) = met_names s (form.int z)
  walk_names s (form.str t) = met_names s (form.str t)
  walk_names s (form.sym x) = met_names s (form.sym x)
  walk_names s (form.local x) = met_names s (form.local x)
  walk_names s (form.own x) = met_names s (form.own x)
  walk_names s form.exception = met_names s form.exception
  walk_names s (form.set_local x e) =
      let m = met s (form.set_local x e) in
      let m1 = walked extent.Body m e in
      joins s m m1 (own (form.set_local x e)) (over named_in e) (met_names s (form.set_local x e))
      (walk_names m e)
  walk_names s (form.ivar x) = met_names s (form.ivar x)
  walk_names s (form.set_ivar x e) =
      let m = met s (form.set_ivar x e) in
      let m1 = walked extent.Body m e in
      joins s m m1 (own (form.set_ivar x e)) (over named_in e) (met_names s (form.set_ivar x e))
      (walk_names m e)
  walk_names s (form.gvar x) = met_names s (form.gvar x)
  walk_names s (form.set_gvar x e) =
      let m = met s (form.set_gvar x e) in
      let m1 = walked extent.Body m e in
      joins s m m1 (own (form.set_gvar x e)) (over named_in e) (met_names s (form.set_gvar x e))
      (walk_names m e)
  walk_names s (form.constant x) = met_names s (form.constant x)
  walk_names s (form.top_constant x) = met_names s (form.top_constant x)
  walk_names s (form.in_constant e x) =
      let m = met s (form.in_constant e x) in
      let m1 = walked extent.Body m e in
      joins s m m1 (own (form.in_constant e x)) (over named_in e) (met_names s (form.in_constant e x))
      (walk_names m e)
  walk_names s (form.set_constant x e) =
      let m = met s (form.set_constant x e) in
      let m1 = walked extent.Body m e in
      joins s m m1 (own (form.set_constant x e)) (over named_in e) (met_names s (form.set_constant x e))
      (walk_names m e)
  walk_names s (form.set_in_constant e x v) =
      let m = met s (form.set_in_constant e x v) in
      let m1 = walked extent.Body m e in
      let m2 = walked extent.Body m1 v in
      joins s m m2 (own (form.set_in_constant e x v)) (over named_in e ++ over named_in v)
      (met_names s (form.set_in_constant e x v))
      (joins m m1 m2 (over named_in e) (over named_in v)
      (walk_names m e) (walk_names m1 v))
  walk_names s (form.array is) =
      let m = met s (form.array is) in
      let m1 = walked_items extent.Body m is in
      joins s m m1 (own (form.array is)) (over_items named_in is) (met_names s (form.array is))
      (items_names m is)
  walk_names s (form.hash ps) =
      let m = met s (form.hash ps) in
      let m1 = walked_pairs extent.Body m ps in
      joins s m m1 (own (form.hash ps)) (over_pairs named_in ps) (met_names s (form.hash ps))
      (pairs_names m ps)
  walk_names s (form.range a b x) =
      let m = met s (form.range a b x) in
      let m1 = walked extent.Body m a in
      let m2 = walked extent.Body m1 b in
      joins s m m2 (own (form.range a b x)) (over named_in a ++ over named_in b)
      (met_names s (form.range a b x))
      (joins m m1 m2 (over named_in a) (over named_in b)
      (walk_names m a) (walk_names m1 b))
  walk_names s (form.text es) =
      let m = met s (form.text es) in
      let m1 = walked_all extent.Body m es in
      joins s m m1 (own (form.text es)) (over_forms named_in es) (met_names s (form.text es))
      (forms_names m es)
  walk_names s (form.intern e) =
      let m = met s (form.intern e) in
      let m1 = walked extent.Body m e in
      joins s m m1 (own (form.intern e)) (over named_in e) (met_names s (form.intern e))
      (walk_names m e)
  walk_names s (form.seq es) =
      let m = met s (form.seq es) in
      let m1 = walked_all extent.Body m es in
      joins s m m1 (own (form.seq es)) (over_forms named_in es) (met_names s (form.seq es))
      (forms_names m es)
  walk_names s (form.cond bs o) =
      let m = met s (form.cond bs o) in
      let m1 = walked_branches extent.Body m bs in
      let m2 = walked extent.Body m1 o in
      joins s m m2 (own (form.cond bs o)) (over_branches named_in bs ++ over named_in o)
      (met_names s (form.cond bs o))
      (joins m m1 m2 (over_branches named_in bs) (over named_in o)
      (branches_names m bs) (walk_names m1 o))
  walk_names s (form.and_form a b) =
      let m = met s (form.and_form a b) in
      let m1 = walked extent.Body m a in
      let m2 = walked extent.Body m1 b in
      joins s m m2 (own (form.and_form a b)) (over named_in a ++ over named_in b)
      (met_names s (form.and_form a b))
      (joins m m1 m2 (over named_in a) (over named_in b)
      (walk_names m a) (walk_names m1 b))
  walk_names s (form.or_form a b) =
      let m = met s (form.or_form a b) in
      let m1 = walked extent.Body m a in
      let m2 = walked extent.Body m1 b in
      joins s m m2 (own (form.or_form a b)) (over named_in a ++ over named_in b)
      (met_names s (form.or_form a b))
      (joins m m1 m2 (over named_in a) (over named_in b)
      (walk_names m a) (walk_names m1 b))
  walk_names s (form.while_form first t b) =
      let m = met s (form.while_form first t b) in
      let m1 = walked extent.Body m t in
      let m2 = walked extent.Body m1 b in
      joins s m m2 (own (form.while_form first t b)) (over named_in t ++ over named_in b)
      (met_names s (form.while_form first t b))
      (joins m m1 m2 (over named_in t) (over named_in b)
      (walk_names m t) (walk_names m1 b))
  walk_names s (form.call r x is b) =
      let m = met s (form.call r x is b) in
      let m1 = walked_receiver extent.Body m r in
      let m2 = walked_items extent.Body m1 is in
      let m3 = walked_maybe extent.Body m2 b in
      joins s m m3 (own (form.call r x is b)) (over_receiver named_in r ++ (over_items named_in is ++ over_maybe named_in b))
      (met_names s (form.call r x is b))
      (joins m m1 m3 (over_receiver named_in r) (over_items named_in is ++ over_maybe named_in b)
      (receiver_names m r) (joins m1 m2 m3 (over_items named_in is) (over_maybe named_in b)
      (items_names m1 is) (maybe_names m2 b)))
  walk_names s (form.yield_form is) =
      let m = met s (form.yield_form is) in
      let m1 = walked_items extent.Body m is in
      joins s m m1 (own (form.yield_form is)) (over_items named_in is) (met_names s (form.yield_form is))
      (items_names m is)
  walk_names s (form.super_form is b) =
      let m = met s (form.super_form is b) in
      let m1 = walked_items extent.Body m is in
      let m2 = walked_maybe extent.Body m1 b in
      joins s m m2 (own (form.super_form is b)) (over_items named_in is ++ over_maybe named_in b)
      (met_names s (form.super_form is b))
      (joins m m1 m2 (over_items named_in is) (over_maybe named_in b)
      (items_names m is) (maybe_names m1 b))
  walk_names s (form.function f) =
      let m = met s (form.function f) in
      let m1 = walked_body extent.Body m f in
      joins s m m1 (own (form.function f)) (over_body named_in f) (met_names s (form.function f))
      (body_names m f)
  walk_names s (form.lambda f) =
      let m = met s (form.lambda f) in
      let m1 = walked_body extent.Body m f in
      joins s m m1 (own (form.lambda f)) (over_body named_in f) (met_names s (form.lambda f))
      (body_names m f)
  walk_names s (form.begin_form b cs o e) =
      let m = met s (form.begin_form b cs o e) in
      let m1 = walked extent.Body m b in
      let m2 = walked_clauses extent.Body m1 cs in
      let m3 = walked_maybe extent.Body m2 o in
      let m4 = walked_maybe extent.Body m3 e in
      joins s m m4 (own (form.begin_form b cs o e)) (over named_in b ++ (over_clauses named_in cs ++ (over_maybe named_in o ++ over_maybe named_in e)))
      (met_names s (form.begin_form b cs o e))
      (joins m m1 m4 (over named_in b) (over_clauses named_in cs ++ (over_maybe named_in o ++ over_maybe named_in e))
      (walk_names m b) (joins m1 m2 m4 (over_clauses named_in cs) (over_maybe named_in o ++ over_maybe named_in e)
      (clauses_names m1 cs) (joins m2 m3 m4 (over_maybe named_in o) (over_maybe named_in e)
      (maybe_names m2 o) (maybe_names m3 e))))
  walk_names s (form.return_form e) =
      let m = met s (form.return_form e) in
      let m1 = walked extent.Body m e in
      joins s m m1 (own (form.return_form e)) (over named_in e) (met_names s (form.return_form e))
      (walk_names m e)
  walk_names s (form.break_form e) =
      let m = met s (form.break_form e) in
      let m1 = walked extent.Body m e in
      joins s m m1 (own (form.break_form e)) (over named_in e) (met_names s (form.break_form e))
      (walk_names m e)
  walk_names s (form.next_form e) =
      let m = met s (form.next_form e) in
      let m1 = walked extent.Body m e in
      joins s m m1 (own (form.next_form e)) (over named_in e) (met_names s (form.next_form e))
      (walk_names m e)
  walk_names s form.retry = met_names s form.retry
  walk_names s (form.define x f) =
      let m = met s (form.define x f) in
      let m1 = walked_body extent.Body m f in
      joins s m m1 (own (form.define x f)) (over_body named_in f) (met_names s (form.define x f))
      (body_names m f)
  walk_names s (form.define_on e x f) =
      let m = met s (form.define_on e x f) in
      let m1 = walked extent.Body m e in
      let m2 = walked_body extent.Body m1 f in
      joins s m m2 (own (form.define_on e x f)) (over named_in e ++ over_body named_in f)
      (met_names s (form.define_on e x f))
      (joins m m1 m2 (over named_in e) (over_body named_in f)
      (walk_names m e) (body_names m1 f))
  walk_names s (form.class_form c x p f) =
      let m = met s (form.class_form c x p f) in
      let m1 = walked_maybe extent.Body m c in
      let m2 = walked_maybe extent.Body m1 p in
      let m3 = walked_body extent.Body m2 f in
      joins s m m3 (own (form.class_form c x p f)) (over_maybe named_in c ++ (over_maybe named_in p ++ over_body named_in f))
      (met_names s (form.class_form c x p f))
      (joins m m1 m3 (over_maybe named_in c) (over_maybe named_in p ++ over_body named_in f)
      (maybe_names m c) (joins m1 m2 m3 (over_maybe named_in p) (over_body named_in f)
      (maybe_names m1 p) (body_names m2 f)))
  walk_names s (form.module_form c x f) =
      let m = met s (form.module_form c x f) in
      let m1 = walked_maybe extent.Body m c in
      let m2 = walked_body extent.Body m1 f in
      joins s m m2 (own (form.module_form c x f)) (over_maybe named_in c ++ over_body named_in f)
      (met_names s (form.module_form c x f))
      (joins m m1 m2 (over_maybe named_in c) (over_body named_in f)
      (maybe_names m c) (body_names m1 f))
  walk_names s (form.singleton_class e f) =
      let m = met s (form.singleton_class e f) in
      let m1 = walked extent.Body m e in
      let m2 = walked_body extent.Body m1 f in
      joins s m m2 (own (form.singleton_class e f)) (over named_in e ++ over_body named_in f)
      (met_names s (form.singleton_class e f))
      (joins m m1 m2 (over named_in e) (over_body named_in f)
      (walk_names m e) (body_names m1 f))
  walk_names s (form.alias_form x y) = met_names s (form.alias_form x y)
  walk_names s (form.undef_form x) = met_names s (form.undef_form x)
  walk_names s (form.defined k x e) =
      let m = met s (form.defined k x e) in
      let m1 = walked_maybe extent.Body m e in
      joins s m m1 (over_asked named_in k x) (over_maybe named_in e) (subst (IsThen s m) (asked_names k x) (met_names s (form.defined k x e)))
      (maybe_names m e)
  walk_names s (form.item e q) =
      let m = met s (form.item e q) in
      let m1 = walked extent.Body m e in
      joins s m m1 (own (form.item e q)) (over named_in e) (met_names s (form.item e q))
      (walk_names m e)
  walk_names s (form.rest_of e from post) =
      let m = met s (form.rest_of e from post) in
      let m1 = walked extent.Body m e in
      joins s m m1 (own (form.rest_of e from post)) (over named_in e) (met_names s (form.rest_of e from post))
      (walk_names m e)
  walk_names s (form.tail_of e from count) =
      let m = met s (form.tail_of e from count) in
      let m1 = walked extent.Body m e in
      joins s m m1 (own (form.tail_of e from count)) (over named_in e) (met_names s (form.tail_of e from count))
      (walk_names m e)

  body_names : (s : List Step) (f : Body) → IsThen s (walked_body extent.Body s f) (over_body named_in f)
  body_names s (form.body p ls e) = nothing s

  maybe_names : (s : List Step) (e : Maybe) → IsThen s (walked_maybe extent.Body s e) (over_maybe named_in e)
  maybe_names s form.absent = nothing s
  maybe_names s (form.there e) = walk_names s e

  forms_names : (s : List Step) (es : Forms) → IsThen s (walked_all extent.Body s es) (over_forms named_in es)
  forms_names s form.none = nothing s
  forms_names s (form.more e es) =
      joins s (walked extent.Body s e) (walked_all extent.Body (walked extent.Body s e) es) (over named_in e)
      (over_forms named_in es) (walk_names s e) (forms_names (walked extent.Body s e) es)

  items_names : (s : List Step) (is : Items) → IsThen s (walked_items extent.Body s is) (over_items named_in is)
  items_names s form.no_items = nothing s
  items_names s (form.plain e is) =
      joins s (walked extent.Body s e) (walked_items extent.Body (walked extent.Body s e) is) (over named_in e)
      (over_items named_in is) (walk_names s e) (items_names (walked extent.Body s e) is)
  items_names s (form.splat e is) =
      joins s (walked extent.Body s e) (walked_items extent.Body (walked extent.Body s e) is) (over named_in e)
      (over_items named_in is) (walk_names s e) (items_names (walked extent.Body s e) is)

  pairs_names : (s : List Step) (ps : Pairs) → IsThen s (walked_pairs extent.Body s ps) (over_pairs named_in ps)
  pairs_names s form.no_pairs = nothing s
  pairs_names s (form.pair a b ps) =
      let q = walked extent.Body s a in
      let r = walked extent.Body q b in
      joins s q (walked_pairs extent.Body r ps) (over named_in a) (over named_in b ++ over_pairs named_in ps)
      (walk_names s a) (joins q r (walked_pairs extent.Body r ps) (over named_in b) (over_pairs named_in ps)
      (walk_names q b) (pairs_names r ps))

  branches_names : (s : List Step) (bs : Branches) → IsThen s (walked_branches extent.Body s bs) (over_branches named_in bs)
  branches_names s form.no_branches = nothing s
  branches_names s (form.branch t b bs) =
      let q = walked extent.Body s t in
      let r = walked extent.Body q b in
      joins s q (walked_branches extent.Body r bs) (over named_in t) (over named_in b ++ over_branches named_in bs)
      (walk_names s t) (joins q r (walked_branches extent.Body r bs) (over named_in b) (over_branches named_in bs)
      (walk_names q b) (branches_names r bs))

  clauses_names : (s : List Step) (cs : Clauses) → IsThen s (walked_clauses extent.Body s cs) (over_clauses named_in cs)
  clauses_names s form.no_clauses = nothing s
  clauses_names s (form.clause es t b cs) =
      let q = walked_all extent.Body s es in
      let r = walked_maybe extent.Body q t in
      let v = walked extent.Body r b in
      let last = walked_clauses extent.Body v cs in
      joins s q last (over_forms named_in es) (over_maybe named_in t ++ (over named_in b ++ over_clauses named_in cs))
      (forms_names s es) (joins q r last (over_maybe named_in t) (over named_in b ++ over_clauses named_in cs)
      (maybe_names q t) (joins r v last (over named_in b) (over_clauses named_in cs) (walk_names r b)
      (clauses_names v cs)))

  receiver_names : (s : List Step) (r : Receiver) → IsThen s (walked_receiver extent.Body s r) (over_receiver named_in r)
  receiver_names s (form.to e) = walk_names s e
  receiver_names s form.on_self = nothing s
  receiver_names s form.bare = nothing s

-- Symbols of a list: those of its names, each once.

-- the store has the symbol
abbrev pub Knows : Store → Name → Type 0
Knows st x = is_some (position (bytes_eq x) st.symbols) ≡ true

pub knows_named : (ns : List Name) (st : Store) (x : Name) → Knows st x → Knows (with_names st ns) x
knows_named ns st x e =
    let h = has_of st x e in ap (λ (o : Option ℕ). is_some o) (has_named ns st x h.0 h.1).at

last_place : (xs : List Name) (x : Name) → position_or_len (bytes_eq x) (xs ++ x ∷ []) ≤ length xs
last_place [] x =
    let e = ap (λ (b : Bool). if not b then 1 + position_or_len (bytes_eq x) [] else 0) ((bytes_eq-Decides x x).1 refl) in
    omega (arith, e)
last_place (y ∷ ys) x = by (last_place ys x) (bytes_eq x y)
  where
    by : position_or_len (bytes_eq x) (ys ++ x ∷ []) ≤ length ys → (b : Bool)
        → (if not b then 1 + position_or_len (bytes_eq x) (ys ++ x ∷ []) else 0) ≤ suc (length ys)
    by further true = omega arith
    by further false = omega (arith, further)

last_known : (xs : List Name) (x : Name) → is_some (position (bytes_eq x) (xs ++ x ∷ [])) ≡ true
last_known xs x =
    let n = position_or_len (bytes_eq x) (xs ++ x ∷ []) in
    let low = last_place xs x in
    ap (λ (b : Bool). is_some (if b then Some n else None))
    (lt-ltb n (length (xs ++ x ∷ [])) (omega (arith, low, length-append xs (x ∷ []))))

knows_interned : (st : Store) (x : Name) → Knows (intern st x).store x
unfolding intern
knows_interned st x = by (position (bytes_eq x) st.symbols) refl
  where
    by : (o : Option ℕ) → position (bytes_eq x) st.symbols ≡ o → Knows (intern_at st x o).store x
    by None e = last_known st.symbols x
    by (Some n) e = ap (λ (o : Option ℕ). is_some o) e

pub named_append : (xs ys : List Name) (st : Store) → with_names st (xs ++ ys) ≡ with_names (with_names st xs) ys
unfolding with_names
named_append [] ys st = refl
named_append (x ∷ xs) ys st = named_append xs ys (intern st x).store

pub among_known : (x : Name) (xs : List Name) (st : Store) → is_among x xs ≡ true → Knows (with_names st xs) x
unfolding with_names
among_known x [] st e = absurd (true≢false (sym e))
among_known x (y ∷ ys) st e = by (λ g. among_known x ys (intern st y).store g) (bytes_eq x y) refl e
  where
    by : (is_among x ys ≡ true → Knows (with_names (intern st y).store ys) x) → (b : Bool) → bytes_eq x y ≡ b
        → (if b then true else is_among x ys) ≡ true → Knows (with_names (intern st y).store ys) x
    by further true same e =
        knows_named ys (intern st y).store x
        (subst (λ (z : Name). Knows (intern st y).store z) (sym ((bytes_eq-Decides x y).0 same)) (knows_interned st y))
    by further false same e = further e

known_already : (st : Store) (x : Name) → Knows st x → (intern st x).store ≡ st
known_already st x e = let h = has_of st x e in ap (λ (n : Interned). n.store) (interned st x h.0 h.1)

-- a name that is there is no new symbol
named_once : (xs ys : List Name) (x : Name) (st : Store)
    → with_names st (with_text xs x ++ ys) ≡ with_names st (xs ++ x ∷ ys)
unfolding with_names
named_once xs ys x st = by (is_among x xs) refl
  where
    by : (b : Bool) → is_among x xs ≡ b → with_names st ((if b then xs else xs ++ x ∷ []) ++ ys) ≡ with_names st (xs ++ x ∷ ys)
    by true e =
        named_append xs ys st
        ∙ ap (λ (z : Store). with_names z ys) (sym (known_already (with_names st xs) x (among_known x xs st e)))
        ∙ sym (named_append xs (x ∷ ys) st)
    by false e = ap (with_names st) (append_assoc xs (x ∷ []) ys)

with_option : (xs ys : List Name) (o : Option Name) (st : Store)
    → with_names st (with_optional xs o ++ ys) ≡ with_names st (xs ++ (optional o ++ ys))
with_option xs ys None st = refl
with_option xs ys (Some x) st = named_once xs ys x st

-- the symbols of a tally
tallied_names : (t : Tally) (ss : List Step) (st : Store)
    → with_names st (tallied t ss).symbols ≡ with_names st (t.symbols ++ names_of ss)
tallied_names t [] st = ap (with_names st) (sym (append-nil t.symbols))
tallied_names t (at f ∷ ss) st =
    tallied_names (counted t f) ss st
    ∙ with_option (with_optional t.symbols (name_of f)) (names_of ss) (old_name_of f) st
    ∙ with_option t.symbols (optional (old_name_of f) ++ names_of ss) (name_of f) st
    ∙ ap (λ (zs : List Name). with_names st (t.symbols ++ zs))
    (sym (append_assoc (optional (name_of f)) (optional (old_name_of f)) (names_of ss)))
tallied_names t (enter b ∷ ss) st = tallied_names t ss st
tallied_names t (leave ∷ ss) st = tallied_names t ss st

-- a body's names and the symbols of its code are the same symbols
pub same_symbols : (p : form.Parameters) (ls : List form.Local) (f : CoreForm) (st : Store)
    → with_names st (tally (form.body p ls f)).symbols ≡ with_names st (over named_in f)
same_symbols p ls f st =
    tallied_names no_form (walked extent.Body [] f) st ∙ ap (with_names st) (walk_names [] f).is
