-- The form of a core, by the forms of its parts.
use Rattle.std.proofs.Common.{◌≡◌, Option, Some, None, List, [], ◌∷◌, map, refl, ap, sym, ◌∙◌, Vec, Box}
use Rattle.std.specs.declared.alloc.Global.{Global}
use Rattle.rb_base.specs.declared.list.Bytes.{Bytes}
use Rattle.rb_syntax.specs.declared.core_form.DefinedKind.{DefinedKind}
use Rattle.rb_syntax.specs.declared.core_form.Item.{Item}
use Rattle.rb_syntax.specs.declared.core_form.Item.TheVariants.{Plain, Splat}
use Rattle.rb_syntax.specs.declared.core_form.Pair.{Pair}
use Rattle.rb_syntax.specs.declared.core_form.Branch.{Branch}
use Rattle.ir_core.specs.declared.term.Term as term
use Rattle.ir_core.specs.declared.term.Term.{fold-roll-Term}
use Rattle.ir_core.specs.declared.term.Term.TheOpen.{Term-F}
use Rattle.ir_core.specs.declared.term.Term.TheVariants as variant
use Rattle.ir_core.specs.declared.term.BeginForm.{BeginForm}
use Rattle.ir_core.specs.declared.term.Body.{Body}
use Rattle.ir_core.specs.declared.term.Clause.{Clause}
use Rattle.ir_core.specs.declared.term.Receiver.{Receiver}
use Rattle.ir_core.specs.declared.term.Receiver.TheVariants.{To, OnSelf, Bare}
use Rattle.ir_core.specs.CoreForm as form
use Rattle.ir_core.specs.CoreForm.{CoreForm, Items, Clauses, forms, more}
use Rattle.ir_core.specs.View as of
use Rattle.ir_core.specs.View.{Core, Held, core_view, term_view}
use Rattle.ir_core.specs.Parts as part

cores-fused : (g : Core → Held) → ((e : Core) → (g e).value ≡ core_view e) → (es : List Core)
    → of.all_held (map g es) ≡ part.cores es
cores-fused g e [] = refl
cores-fused g e (c ∷ es) =
    ap (λ f. more f (of.all_held (map g es))) (e c) ∙ ap (more (core_view c)) (cores-fused g e es)

items-fused : (g : Item Core → Item Held)
    → ((e : Core) (is : Items) → of.item_then (g (Plain e)) is ≡ form.plain (core_view e) is)
    → ((e : Core) (is : Items) → of.item_then (g (Splat e)) is ≡ form.splat (core_view e) is)
    → (is : List (Item Core)) → of.items_of (map g is) ≡ part.items is
items-fused g p s [] = refl
items-fused g p s (Plain e ∷ is) =
    p e (of.items_of (map g is)) ∙ ap (form.plain (core_view e)) (items-fused g p s is)
items-fused g p s (Splat e ∷ is) =
    s e (of.items_of (map g is)) ∙ ap (form.splat (core_view e)) (items-fused g p s is)

pairs-fused : (g : Pair Core → Pair Held) → ((p : Pair Core) → (g p).key.value ≡ core_view p.key)
    → ((p : Pair Core) → (g p).value.value ≡ core_view p.value) → (ps : List (Pair Core))
    → of.pairs_of (map g ps) ≡ part.pairs ps
pairs-fused g k v [] = refl
pairs-fused g k v (p ∷ ps) =
    ap (λ f. form.pair f (g p).value.value (of.pairs_of (map g ps))) (k p)
    ∙ (ap (λ f. form.pair (core_view p.key) f (of.pairs_of (map g ps))) (v p)
    ∙ ap (form.pair (core_view p.key) (core_view p.value)) (pairs-fused g k v ps))

branches-fused : (g : Branch Core → Branch Held) → ((b : Branch Core) → (g b).test.value ≡ core_view b.test)
    → ((b : Branch Core) → (g b).body.value ≡ core_view b.body) → (bs : List (Branch Core))
    → of.branches_of (map g bs) ≡ part.branches bs
branches-fused g t f [] = refl
branches-fused g t f (b ∷ bs) =
    ap (λ n. form.branch n (g b).body.value (of.branches_of (map g bs))) (t b)
    ∙ (ap (λ n. form.branch (core_view b.test) n (of.branches_of (map g bs))) (f b)
    ∙ ap (form.branch (core_view b.test) (core_view b.body)) (branches-fused g t f bs))

clauses-fused : (g : Clause Core → Clause Held)
    → ((c : Clause Core) (cs : Clauses)
    → form.clause (of.all_held (g (record c { target = None })).classes.items)
    (of.boxed (g (record c { target = None })).target) (g (record c { target = None })).body.value cs
    ≡ form.clause (part.cores c.classes.items) (part.boxed None) (core_view c.body) cs)
    → ((c : Clause Core) (t : Core) (cs : Clauses)
    → form.clause (of.all_held (g (record c { target = Some t })).classes.items)
    (of.boxed (g (record c { target = Some t })).target) (g (record c { target = Some t })).body.value cs
    ≡ form.clause (part.cores c.classes.items) (part.boxed (Some t)) (core_view c.body) cs)
    → (cs : List (Clause Core)) → of.clauses_of (map g cs) ≡ part.clauses cs
clauses-fused g n s [] = refl
clauses-fused g n s (c ∷ cs) =
    (elim c.target as (λ t. of.clauses_of (map g (record c { target = t } ∷ cs))
    ≡ form.clause (part.cores c.classes.items) (part.boxed t) (core_view c.body) (of.clauses_of (map g cs))) [
      | None ↦ n c (of.clauses_of (map g cs))
      | Some t ↦ s c t (of.clauses_of (map g cs))
    ])
    ∙ ap (form.clause (part.cores c.classes.items) (part.boxed c.target) (core_view c.body)) (clauses-fused g n s cs)

pub core-Array : (v : Vec (Item Core) Global) → term_view (term.Array v) ≡ form.array (part.items v.items)
core-Array v =
    ap term_view (sym (variant.rolls-Array v)) ∙ (fold-roll-Term CoreForm of.term_step (Term-F.Array v) ∙
    ap form.array (items-fused _ (λ e is. refl) (λ e is. refl) v.items))

pub core-Hash : (v : Vec (Pair Core) Global) → term_view (term.Hash v) ≡ form.hash (part.pairs v.items)
core-Hash v =
    ap term_view (sym (variant.rolls-Hash v)) ∙ (fold-roll-Term CoreForm of.term_step (Term-F.Hash v) ∙
    ap form.hash (pairs-fused _ (λ p. refl) (λ p. refl) v.items))

pub core-Text : (v : Vec Core Global) → term_view (term.Text v) ≡ form.text (part.cores v.items)
core-Text v =
    ap term_view (sym (variant.rolls-Text v)) ∙ (fold-roll-Term CoreForm of.term_step (Term-F.Text v) ∙
    ap form.text (cores-fused _ (λ e. refl) v.items))

pub core-Seq : (v : Vec Core Global) → term_view (term.Seq v) ≡ form.seq (part.cores v.items)
core-Seq v =
    ap term_view (sym (variant.rolls-Seq v)) ∙ (fold-roll-Term CoreForm of.term_step (Term-F.Seq v) ∙
    ap form.seq (cores-fused _ (λ e. refl) v.items))

pub core-Cond : (v : Vec (Branch Core) Global) (o : Core)
    → term_view (term.Cond v o) ≡ form.cond (part.branches v.items) (core_view o)
core-Cond v o =
    ap term_view (sym (variant.rolls-Cond v o)) ∙ (fold-roll-Term CoreForm of.term_step (Term-F.Cond v o) ∙
    ap (λ bs. form.cond bs (core_view o)) (branches-fused _ (λ b. refl) (λ b. refl) v.items))

pub core-Call : (r : Receiver Core) (x : Bytes) (v : Vec (Item Core) Global)
    → term_view (term.Call r x v) ≡ form.call (part.receiver_form r) x (part.items v.items) form.absent
core-Call (To r) x v =
    ap term_view (sym (variant.rolls-Call (To r) x v))
    ∙ (fold-roll-Term CoreForm of.term_step (Term-F.Call (To r) x v) ∙
    ap (λ is. form.call (part.receiver_form (To r)) x is form.absent)
    (items-fused _ (λ e is. refl) (λ e is. refl) v.items))
core-Call OnSelf x v =
    ap term_view (sym (variant.rolls-Call OnSelf x v))
    ∙ (fold-roll-Term CoreForm of.term_step (Term-F.Call OnSelf x v) ∙
    ap (λ is. form.call (part.receiver_form OnSelf) x is form.absent)
    (items-fused _ (λ e is. refl) (λ e is. refl) v.items))
core-Call Bare x v =
    ap term_view (sym (variant.rolls-Call Bare x v))
    ∙ (fold-roll-Term CoreForm of.term_step (Term-F.Call Bare x v) ∙
    ap (λ is. form.call (part.receiver_form Bare) x is form.absent)
    (items-fused _ (λ e is. refl) (λ e is. refl) v.items))

pub core-BlockCall : (r : Receiver Core) (x : Bytes) (v : Vec (Item Core) Global) (b : Core)
    → term_view (term.BlockCall r x v b)
    ≡ form.call (part.receiver_form r) x (part.items v.items) (form.there (core_view b))
core-BlockCall (To r) x v b =
    ap term_view (sym (variant.rolls-BlockCall (To r) x v b))
    ∙ (fold-roll-Term CoreForm of.term_step (Term-F.BlockCall (To r) x v b) ∙
    ap (λ is. form.call (part.receiver_form (To r)) x is (form.there (core_view b)))
    (items-fused _ (λ e is. refl) (λ e is. refl) v.items))
core-BlockCall OnSelf x v b =
    ap term_view (sym (variant.rolls-BlockCall OnSelf x v b))
    ∙ (fold-roll-Term CoreForm of.term_step (Term-F.BlockCall OnSelf x v b) ∙
    ap (λ is. form.call (part.receiver_form OnSelf) x is (form.there (core_view b)))
    (items-fused _ (λ e is. refl) (λ e is. refl) v.items))
core-BlockCall Bare x v b =
    ap term_view (sym (variant.rolls-BlockCall Bare x v b))
    ∙ (fold-roll-Term CoreForm of.term_step (Term-F.BlockCall Bare x v b) ∙
    ap (λ is. form.call (part.receiver_form Bare) x is (form.there (core_view b)))
    (items-fused _ (λ e is. refl) (λ e is. refl) v.items))

pub core-Yield : (v : Vec (Item Core) Global) → term_view (term.Yield v) ≡ form.yield_form (part.items v.items)
core-Yield v =
    ap term_view (sym (variant.rolls-Yield v)) ∙ (fold-roll-Term CoreForm of.term_step (Term-F.Yield v) ∙
    ap form.yield_form (items-fused _ (λ e is. refl) (λ e is. refl) v.items))

pub core-Super : (v : Vec (Item Core) Global) (b : Option Core)
    → term_view (term.Super v b) ≡ form.super_form (part.items v.items) (part.boxed b)
core-Super v None =
    ap term_view (sym (variant.rolls-Super v None)) ∙ (fold-roll-Term CoreForm of.term_step (Term-F.Super v None) ∙
    ap (λ is. form.super_form is (part.boxed None)) (items-fused _ (λ e is. refl) (λ e is. refl) v.items))
core-Super v (Some b) =
    ap term_view (sym (variant.rolls-Super v (Some b)))
    ∙ (fold-roll-Term CoreForm of.term_step (Term-F.Super v (Some b)) ∙
    ap (λ is. form.super_form is (part.boxed (Some b))) (items-fused _ (λ e is. refl) (λ e is. refl) v.items))

pub core-Class : (s : Option Core) (x : Bytes) (p : Option Core) (b : Box (Body Core) Global)
    → term_view (term.Class s x p b) ≡ form.class_form (part.boxed s) x (part.boxed p) (part.body_form b.value)
core-Class None x None b =
    ap term_view (sym (variant.rolls-Class None x None b))
    ∙ fold-roll-Term CoreForm of.term_step (Term-F.Class None x None b)
core-Class None x (Some p) b =
    ap term_view (sym (variant.rolls-Class None x (Some p) b))
    ∙ fold-roll-Term CoreForm of.term_step (Term-F.Class None x (Some p) b)
core-Class (Some s) x None b =
    ap term_view (sym (variant.rolls-Class (Some s) x None b))
    ∙ fold-roll-Term CoreForm of.term_step (Term-F.Class (Some s) x None b)
core-Class (Some s) x (Some p) b =
    ap term_view (sym (variant.rolls-Class (Some s) x (Some p) b))
    ∙ fold-roll-Term CoreForm of.term_step (Term-F.Class (Some s) x (Some p) b)

pub core-Module : (s : Option Core) (x : Bytes) (b : Box (Body Core) Global)
    → term_view (term.Module s x b) ≡ form.module_form (part.boxed s) x (part.body_form b.value)
core-Module None x b =
    ap term_view (sym (variant.rolls-Module None x b)) ∙ fold-roll-Term CoreForm of.term_step (Term-F.Module None x b)
core-Module (Some s) x b =
    ap term_view (sym (variant.rolls-Module (Some s) x b)) ∙ fold-roll-Term CoreForm of.term_step (Term-F.Module (Some s) x b)

pub core-Defined : (k : DefinedKind) (x : Bytes) (e : Option Core)
    → term_view (term.Defined k x e) ≡ form.defined k x (part.boxed e)
core-Defined k x None =
    ap term_view (sym (variant.rolls-Defined k x None)) ∙ fold-roll-Term CoreForm of.term_step (Term-F.Defined k x None)
core-Defined k x (Some e) =
    ap term_view (sym (variant.rolls-Defined k x (Some e))) ∙ fold-roll-Term CoreForm of.term_step (Term-F.Defined k x (Some e))

-- a form with another part and an ensure part, or without
abbrev opened : Box (BeginForm Core) Global → Option Core → Option Core → Box (BeginForm Core) Global
opened b o e = record b { value = record b.value { otherwise = o; ensure = e } }

begin-with : (b : Box (BeginForm Core) Global) (o e : Option Core)
    → term_view (term.Begin (opened b o e)) ≡ part.begin_form (opened b o e).value
begin-with b None None =
    ap term_view (sym (variant.rolls-Begin (opened b None None)))
    ∙ (fold-roll-Term CoreForm of.term_step (Term-F.Begin (opened b None None)) ∙
    ap (λ cs. form.begin_form (core_view b.value.body) cs (part.boxed None) (part.boxed None))
    (clauses-fused _ (λ c cs. ap (λ fs. form.clause fs (part.boxed None) (core_view c.body) cs)
    (cores-fused _ (λ e. refl) c.classes.items))
    (λ c t cs. ap (λ fs. form.clause fs (part.boxed (Some t)) (core_view c.body) cs)
    (cores-fused _ (λ e. refl) c.classes.items)) b.value.clauses.items))
begin-with b None (Some e) =
    ap term_view (sym (variant.rolls-Begin (opened b None (Some e))))
    ∙ (fold-roll-Term CoreForm of.term_step (Term-F.Begin (opened b None (Some e))) ∙
    ap (λ cs. form.begin_form (core_view b.value.body) cs (part.boxed None) (part.boxed (Some e)))
    (clauses-fused _ (λ c cs. ap (λ fs. form.clause fs (part.boxed None) (core_view c.body) cs)
    (cores-fused _ (λ e. refl) c.classes.items))
    (λ c t cs. ap (λ fs. form.clause fs (part.boxed (Some t)) (core_view c.body) cs)
    (cores-fused _ (λ e. refl) c.classes.items)) b.value.clauses.items))
begin-with b (Some o) None =
    ap term_view (sym (variant.rolls-Begin (opened b (Some o) None)))
    ∙ (fold-roll-Term CoreForm of.term_step (Term-F.Begin (opened b (Some o) None)) ∙
    ap (λ cs. form.begin_form (core_view b.value.body) cs (part.boxed (Some o)) (part.boxed None))
    (clauses-fused _ (λ c cs. ap (λ fs. form.clause fs (part.boxed None) (core_view c.body) cs)
    (cores-fused _ (λ e. refl) c.classes.items))
    (λ c t cs. ap (λ fs. form.clause fs (part.boxed (Some t)) (core_view c.body) cs)
    (cores-fused _ (λ e. refl) c.classes.items)) b.value.clauses.items))
begin-with b (Some o) (Some e) =
    ap term_view (sym (variant.rolls-Begin (opened b (Some o) (Some e))))
    ∙ (fold-roll-Term CoreForm of.term_step (Term-F.Begin (opened b (Some o) (Some e))) ∙
    ap (λ cs. form.begin_form (core_view b.value.body) cs (part.boxed (Some o)) (part.boxed (Some e)))
    (clauses-fused _ (λ c cs. ap (λ fs. form.clause fs (part.boxed None) (core_view c.body) cs)
    (cores-fused _ (λ e. refl) c.classes.items))
    (λ c t cs. ap (λ fs. form.clause fs (part.boxed (Some t)) (core_view c.body) cs)
    (cores-fused _ (λ e. refl) c.classes.items)) b.value.clauses.items))

pub core-Begin : (b : Box (BeginForm Core) Global) → term_view (term.Begin b) ≡ part.begin_form b.value
core-Begin b = begin-with b b.value.otherwise b.value.ensure

pub ruleset core_views = (
  core-Array,
  core-Hash,
  core-Text,
  core-Seq,
  core-Cond,
  core-Call,
  core-BlockCall,
  core-Yield,
  core-Super,
  core-Class,
  core-Module,
  core-Defined,
  core-Begin,
)
