-- Forms in front of others.
use Rattle.std.proofs.Common.{◌≡◌, ◌≤◌, ◌<◌, List, [], ◌∷◌, ◌++◌, Option, Some, None, length, map, refl, sym, ap, ◌∙◌, arith}
use Rattle.rb_syntax.specs.declared.core_form.Item.TheVariants.{Plain, Splat}
use Rattle.ir_core.specs.CoreForm.{CoreForm}
use Rattle.ir_core.specs.PartsBy.{core_by, cores_by, items_by}
use Rattle.path_core.specs.Form.{Form, Forms, none, more, forms}
use Rattle.code_generator.specs.Built.{form_of, all_of, all_items}
use Rattle.rb_base.specs.Option.{◌>>=◌}
use Rattle.code_generator.specs.declared.tree.Tree.{Tree}
use Rattle.code_generator.specs.Emission.{form, all_forms, only_form, before, before_all, item_form_by}

before_push : (gs : List Form) (f : Form) (fs : Forms) → before gs (more f fs) ≡ before (gs ++ f ∷ []) fs
before_push [] f fs = refl
before_push (g ∷ gs) f fs = ap (more g) (before_push gs f fs)

pub before_none : (gs : List Form) → before gs none ≡ forms gs
before_none [] = refl
before_none (g ∷ gs) = ap (more g) (before_none gs)

pub before_all_push : (gs : List Form) (f : Form) (rest : Option Forms)
    → before_all gs (rest >>= (λ fs. Some (more f fs))) ≡ before_all (gs ++ f ∷ []) rest
before_all_push gs f None = refl
before_all_push gs f (Some fs) = ap Some (before_push gs f fs)

map_push : (ts : List Tree) (t : Tree) → map form (ts ++ t ∷ []) ≡ map form ts ++ form t ∷ []
map_push [] t = refl
map_push (s ∷ ts) t = ap (λ l. form s ∷ l) (map_push ts t)

-- lists whose members have forms, one by one
abbrev pub Steps : {A : Type 0} → (List A → Option Forms) → (A → Option Form) → Type 0
Steps {A} w f = (a : A) (all : List A) → w (a ∷ all) ≡ (f a >>= (λ y. w all >>= (λ ys. Some (more y ys))))

pub core_steps : {T : Type 0} (v : T → CoreForm) → Steps (λ cs. all_of (cores_by v cs)) (λ c. form_of (core_by v c))
core_steps v c cs = refl

pub item_steps : {T : Type 0} (v : T → CoreForm) → Steps (λ is. all_items (items_by v is)) (item_form_by v)
item_steps v (Plain c) is = refl
item_steps v (Splat c) is = refl

-- one more tree
pub trees_step : {A : Type 0} (w : List A → Option Forms) (f : A → Option Form) → Steps w f
    → (whole : Option Forms) (ts us : List Tree) (t : Tree) (a : A) (all rest : List A)
    → whole ≡ before_all (map form ts) (w all) → all ≡ a ∷ rest → f a ≡ Some (form t) → us ≡ ts ++ t ∷ []
    → whole ≡ before_all (map form us) (w rest)
trees_step w f law whole ts us t a all rest same e h p =
    same ∙ ap (λ cs. before_all (map form ts) (w cs)) e
    ∙ ap (before_all (map form ts)) (law a rest)
    ∙ ap (λ o. before_all (map form ts) (o >>= (λ y. w rest >>= (λ ys. Some (more y ys))))) h
    ∙ before_all_push (map form ts) (form t) (w rest)
    ∙ ap (λ gs. before_all gs (w rest)) (sym (map_push ts t) ∙ ap (map form) (sym p))

-- a list with a member that has no form
pub trees_stop : {A : Type 0} (w : List A → Option Forms) (f : A → Option Form) → Steps w f
    → (whole : Option Forms) (ts : List Tree) (a : A) (all rest : List A)
    → whole ≡ before_all (map form ts) (w all) → all ≡ a ∷ rest → f a ≡ None → whole ≡ None
trees_stop w f law whole ts a all rest same e h =
    same ∙ ap (λ cs. before_all (map form ts) (w cs)) e
    ∙ ap (before_all (map form ts)) (law a rest)
    ∙ ap (λ o. before_all (map form ts) (o >>= (λ y. w rest >>= (λ ys. Some (more y ys))))) h

pub trees_end : {A : Type 0} (w : List A → Option Forms) (whole : Option Forms) (ts : List Tree) (rest : List A)
    → whole ≡ before_all (map form ts) (w rest) → rest ≡ [] → w [] ≡ Some none → whole ≡ Some (all_forms ts)
trees_end w whole ts rest same e nothing =
    same ∙ ap (λ cs. before_all (map form ts) (w cs)) e ∙ ap (before_all (map form ts)) nothing
    ∙ ap Some (before_none (map form ts))

pub only_none : (ts : List Tree) → length ts ≡ 0 → only_form (all_forms ts) ≡ None
only_none [] h = refl
only_none (t ∷ ts) h = absurd (omega (arith, h))

pub only_many : (ts : List Tree) → 1 < length ts → only_form (all_forms ts) ≡ None
only_many [] h = absurd (omega (arith, h))
only_many (t ∷ []) h = absurd (omega (arith, h))
only_many (t ∷ (u ∷ ts)) h = refl

pub only_last : (ts : List Tree) (t : Tree) → length (ts ++ t ∷ []) ≤ 1
    → only_form (all_forms (ts ++ t ∷ [])) ≡ Some (form t)
only_last [] t h = refl
only_last (s ∷ []) t h = absurd (omega (arith, h))
only_last (s ∷ (u ∷ ts)) t h = absurd (omega (arith, h))

pub ruleset only_laws = (only_none, only_many, only_last)
