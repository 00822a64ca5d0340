-- A new class or module with a name.
use Rattle.std.proofs.Common.{◌≡◌, ℕ, ◌++◌, List, [], ◌∷◌, true, false, length, refl, ap, sym, ◌∙◌, subst}
use Rattle.std.specs.Prelude.{Option, Some, None}
use Rattle.std.specs.List.{position}
use Rattle.std.specs.Str.{bytes_eq}
use Rattle.std.proofs.lemmas.List.{append_assoc, append-nil}
use Rattle.rb_value.specs.declared.value.Value.TheVariants.{Obj}
use Rattle.rb_value.specs.declared.value.ObjId.{ObjId}
use Rattle.rb_value.specs.declared.value.SymId.{SymId}
use Rattle.rb_value.specs.Object.{Object}
use Rattle.rb_value.specs.declared.kind.ClassForm.{ClassForm}
use Rattle.rb_value.specs.declared.kind.ClassForm.TheVariants as form
use Rattle.rb_value.specs.declared.core_class.CoreClass.{CoreClass}
use Rattle.rb_value.specs.CoreClass.{is_module}
use Rattle.rb_value.specs.Sort.{sort_of_form}
use Rattle.def_core.specs.Store.{Store, with_object, next_number}
use Rattle.def_core.specs.Changes.{intern, intern_at}
use Rattle.def_core.specs.Sound.{census, Superclass, ClassOrModule, plays, Is, IsSymbol, IsValue, OptionIs, IsSuperclass, SoundObject, Sound}
use Rattle.def_core.proofs.Good.{before_next}
use Rattle.def_core.proofs.Grows.{new_role, core_is_class}
use Rattle.class_model.specs.Growth.{IsGrown, named_class}
use Rattle.class_model.proofs.Lineages.{any_of}

pub grown_itself : (st : Store) → IsGrown st st
grown_itself st = record {
  objects = [];
  symbols = [];
  same = ap (λ (xs : List Object). record st { objects = xs }) (sym (append-nil st.objects))
      ∙ ap (λ (ns : List (List ℕ)). record { objects = st.objects ++ []; symbols = ns }) (sym (append-nil st.symbols));
}

pub grown_interned : (st : Store) (name : List ℕ) → IsGrown st (intern st name).store
unfolding intern
grown_interned st name = by (position (bytes_eq name) st.symbols)
  where
    by : (p : Option ℕ) → IsGrown st (intern_at st name p).store
    by None = record {
      objects = [];
      symbols = name ∷ [];
      same =
          ap (λ (xs : List Object). record { objects = xs; symbols = st.symbols ++ name ∷ [] })
          (sym (append-nil st.objects));
    }
    by (Some i) = grown_itself st

pub grown_more : (st after : Store) (o : Object) → IsGrown st after → IsGrown st (with_object after o)
grown_more st after o g = record {
  objects = g.objects ++ o ∷ [];
  symbols = g.symbols;
  same = ap (λ (s : Store). with_object s o) g.same
      ∙ ap (λ (xs : List Object). record { objects = xs; symbols = st.symbols ++ g.symbols })
      (append_assoc st.objects g.objects (o ∷ []));
}

-- a superclass has a smaller number
smaller : (st : Store) (p : Option ObjId) → OptionIs (Is (census st) Superclass) p
    → OptionIs (IsSuperclass (census st) (next_number st).0) p
smaller st None h = tt
smaller st (Some p) h = (h, before_next st Superclass p h)

pub named_is_sound : (st : Store) → Sound st → (class : CoreClass) (f : ClassForm) (p : Option ObjId) (name : SymId)
    (o : Object) → o ≡ named_class class f p name → is_module class ≡ false
    → OptionIs (Is (census st) Superclass) p → (f ≡ form.Module → p ≡ None) → IsSymbol (census st) name
    → SoundObject (census st) (length st.objects) o
named_is_sound st sound class f p name o e plain is root symbol =
    subst (SoundObject (census st) (length st.objects)) (sym e) (record {
      class = core_is_class st sound class plain;
      singleton = tt;
      variables = tt;
      kind = record {
        name = symbol;
        superclass = smaller st p is;
        module_root = root;
        included = tt;
        constants = tt;
        methods = tt;
      };
    })

class_form : (f : ClassForm) → plays ClassOrModule (sort_of_form f) ≡ true
class_form form.Class = refl
class_form form.Singleton = refl
class_form form.Module = refl

pub named_is_class : (st : Store) (class : CoreClass) (f : ClassForm) (p : Option ObjId) (name : SymId)
    → Is (census (with_object st (named_class class f p name))) ClassOrModule (next_number st)
named_is_class st class f p name = new_role st (named_class class f p name) ClassOrModule (class_form f)

pub class_is_value : (st : Store) (c : ObjId) → Is (census st) ClassOrModule c → IsValue (census st) (Obj c)
class_is_value st c is = any_of st ClassOrModule c is
