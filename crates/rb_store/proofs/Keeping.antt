-- Calls that keep a store, one after another.
use Rattle.std.proofs.Common.{◌≡◌, List, ◌++◌, length, refl, ap, subst, sym, arith}
use Rattle.rb_value.specs.Object.{Object}
use Rattle.def_core.specs.Store.{Store, with_object}
use Rattle.def_core.specs.Classes.{contents_of}
use Rattle.def_core.specs.Parts.{with_objects}
use Rattle.def_core.specs.Sound.{Sound, SoundObject, SoundFrom, Extends, ClassOrModule, census}
use Rattle.def_core.proofs.Good.{is_good, good_same}
use Rattle.def_core.proofs.More.{sound_with_all}
use Rattle.def_core.proofs.Grows.{extends_itself, extends_both, sound_with_object, one_more, more_objects}
use Rattle.rb_store.specs.Held.{Held}
use Rattle.rb_store.specs.Counted.{SameLooks, looks_of}
use Rattle.rb_store.specs.Keeps.{Keeps}
use Rattle.rb_store.proofs.Counted.{unchanged, counted_then, added_counted}

-- nothing changed
pub keeps_itself : (h g : Held) → Sound h.store → g ≡ h → Keeps h g
keeps_itself h g sound e = subst (Keeps h) (sym e) (record {
  sound = sound;
  extends = extends_itself (census h.store);
  counted = unchanged h h refl refl;
})

pub keeps_then : (a b c : Held) → Keeps a b → Keeps b c → Keeps a c
keeps_then a b c h g = record {
  sound = g.sound;
  extends = extends_both (census a.store) (census b.store) (census c.store) h.extends g.extends;
  counted = counted_then a b c h.counted g.counted;
}

-- one more object
pub keeps_added : (h g : Held) (o : Object) → Sound h.store → SoundObject (census h.store) (length h.store.objects) o
    → g.store ≡ with_object h.store o → g.changes ≡ h.changes → Keeps h g
keeps_added h g o sound is s e = record {
  sound = subst Sound (sym s) (sound_with_object h.store sound o is);
  extends = subst (λ (st : Store). Extends (census h.store) (census st)) (sym s) (one_more h.store o);
  counted = added_counted h g o s e;
}

-- and a class or module finds methods as before
pub more_same : (st : Store) (more : List Object) → SameLooks st (with_objects st (st.objects ++ more))
more_same st more = record {
  roles = λ c is. (more_objects st more).roles ClassOrModule c is;
  looks = λ c is. ap (λ (x : Object). looks_of (contents_of x.kind))
      (good_same st more c (is_good st ClassOrModule c is));
}

-- several more objects
pub keeps_all : (h g : Held) (more : List Object) → Sound h.store
    → SoundFrom (census (with_objects h.store (h.store.objects ++ more))) (length h.store.objects) more
    → g.store ≡ with_objects h.store (h.store.objects ++ more) → g.changes ≡ h.changes → Keeps h g
keeps_all h g more sound all s e = record {
  sound = subst Sound (sym s) (sound_with_all h.store sound more all);
  extends = subst (λ (st : Store). Extends (census h.store) (census st)) (sym s) (more_objects h.store more);
  counted = record {
    rises = omega (arith, e);
    same = λ _ _. subst (SameLooks h.store) (sym s) (more_same h.store more);
  };
}
