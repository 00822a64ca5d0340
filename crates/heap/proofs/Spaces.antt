-- What is no class or module reads as a module without anything; the core classes and modules are there.
use Rattle.std.proofs.Common.{◌≡◌, Bool, true, false, refl, ap, sym, ◌∙◌, true≢false}
use Rattle.std.specs.Prelude.{Some, None}
use Rattle.rb_value.specs.declared.value.ObjId.{ObjId}
use Rattle.rb_value.specs.declared.kind.Kind.{Kind}
use Rattle.rb_value.specs.declared.kind.Kind.TheVariants as kind
use Rattle.rb_value.specs.declared.kind.ClassForm.{ClassForm}
use Rattle.rb_value.specs.declared.kind.ClassForm.TheVariants as form
use Rattle.rb_value.specs.declared.core_class.CoreClass.{CoreClass}
use Rattle.rb_value.specs.CoreClass.{is_module}
use Rattle.rb_value.specs.Sort.{sort_of, sort_of_form}
use Rattle.def_core.specs.Store.{Store, core, object_at}
use Rattle.def_core.specs.Classes.{empty_class, contents_of, class_at}
use Rattle.def_core.specs.Sound.{Sound, census, Is, ClassOrModule, plays, plays_at, core_sort}
use Rattle.heap.specs.Operands.{has_space}

form_is_space : (f : ClassForm) → plays ClassOrModule (sort_of_form f) ≡ true
form_is_space form.Class = refl
form_is_space form.Singleton = refl
form_is_space form.Module = refl

no_contents : (k : Kind) → plays ClassOrModule (sort_of k) ≡ false → contents_of k ≡ empty_class form.Module None
no_contents kind.Plain h = refl
no_contents (kind.Class c) h = absurd (true≢false (sym (form_is_space c.form) ∙ h))
no_contents (kind.String s) h = refl
no_contents (kind.Array a) h = refl
no_contents (kind.Hash x) h = refl
no_contents (kind.Range r) h = refl
no_contents (kind.Proc p) h = refl
no_contents (kind.CoreProc r v) h = refl
no_contents (kind.Fiber b e) h = refl
no_contents (kind.Exception m d) h = refl
no_contents (kind.Enumerator e) h = refl
no_contents (kind.Yielder b) h = refl

pub no_space : (st : Store) (id : ObjId) → has_space st id ≡ false
    → class_at st.objects id ≡ empty_class form.Module None
no_space st id h = no_contents (object_at st.objects id).kind h

core_space : (b : Bool) → plays ClassOrModule (core_sort b) ≡ true
core_space true = refl
core_space false = refl

pub core_is_space : (st : Store) → Sound st → (c : CoreClass) → Is (census st) ClassOrModule (core c)
core_is_space st sound c = record { holds = ap (plays_at ClassOrModule) (sound.core c) ∙ core_space (is_module c) }
