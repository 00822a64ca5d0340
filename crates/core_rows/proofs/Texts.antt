-- New Strings after the objects of a store.
use Rattle.std.proofs.Common.{◌≡◌, ℕ, zero, suc, ◌+◌, ◌<◌, ◌≤◌, true, List, [], ◌∷◌, ◌++◌, length, map, refl, ap, sym, ◌∙◌, subst, arith, append_assoc, append-nil, length-append, add-one}
use Rattle.std.proofs.lemmas.List.{length-map}
use Rattle.rb_value.specs.declared.value.Value.{Value}
use Rattle.rb_value.specs.declared.value.Value.TheVariants.{Obj}
use Rattle.rb_value.specs.Object.{Object}
use Rattle.rb_value.specs.declared.core_class.CoreClass.TheVariants as class
use Rattle.def_core.specs.Store.{Store, core, object_number, with_object}
use Rattle.def_core.specs.Parts.{with_objects}
use Rattle.def_core.specs.Sound.{Census, census, Sound, SoundObject, SoundFrom, Class, Is, IsValue, AllAre}
use Rattle.def_core.proofs.Grows.{more_objects, core_is_class}
use Rattle.def_core.proofs.Good.{good_among}
use Rattle.def_core.proofs.PartsSound.{all_more}
use Rattle.rb_raise.proofs.Strings.{sound_string}
use Rattle.def_rows.specs.Answers.{text_object, items_object, numbered, with_texts}

pub numbered_more : (first n : ℕ) → numbered first (n + 1) ≡ numbered first n ++ Obj (object_number (first + n)) ∷ []
unfolding numbered
numbered_more first n = rw add-one refl

pub texts_sound : (st : Store) → Sound st → (texts : List (List ℕ)) → Sound (with_texts st texts)
texts_sound st sound [] = subst (λ (os : List Object). let s : Store = record st { objects = os } in Sound s)
    (sym (append-nil st.objects)) sound
texts_sound st sound (t ∷ ts) =
    subst (λ (os : List Object). let s : Store = record st { objects = os } in Sound s)
    (append_assoc st.objects (text_object t ∷ []) (map text_object ts))
    (texts_sound (with_object st (text_object t)) (sound_string st sound t) ts)

-- the first of the objects that come behind the others, by numbers in a row
pub numbered_are : (st : Store) (more : List Object) (n : ℕ) → n ≤ length more
    → AllAre (IsValue (census (with_objects st (st.objects ++ more)))) (numbered (length st.objects) n)
unfolding numbered
numbered_are st more zero within = tt
numbered_are st more (suc n) within =
    all_more (IsValue (census (with_objects st (st.objects ++ more)))) (numbered (length st.objects) n)
    (Obj (object_number (length st.objects + n)) ∷ [])
    (numbered_are st more n (omega (arith, within))) ((good_among st more n (omega (arith, within))).there, tt)

text_is_sound : (k : Census) (n : ℕ) (bytes : List ℕ) → Is k Class (core class.String) → SoundObject k n (text_object bytes)
text_is_sound k n bytes is = record { class = is; singleton = tt; variables = tt; kind = tt }

texts_from : (k : Census) (n : ℕ) (texts : List (List ℕ)) (rest : List Object) → Is k Class (core class.String)
    → SoundFrom k (n + length texts) rest → SoundFrom k n (map text_object texts ++ rest)
texts_from k n [] rest is h =
    let e : n + length {A = List ℕ} [] ≡ n = omega arith in subst (λ (m : ℕ). SoundFrom k m rest) e h
texts_from k n (t ∷ ts) rest is h =
    let e : n + length (t ∷ ts) ≡ n + 1 + length ts = omega arith in
    (text_is_sound k n t is, texts_from k (n + 1) ts rest is (subst (λ (m : ℕ). SoundFrom k m rest) e h))

-- new Strings, and an Array of them after them
abbrev pub made_of : Store → List (List ℕ) → List Object
made_of st texts = map text_object texts ++ items_object (numbered (length st.objects) (length texts)) ∷ []

pub made_are_sound : (st : Store) → Sound st → (texts : List (List ℕ))
    → SoundFrom (census (with_objects st (st.objects ++ made_of st texts))) (length st.objects) (made_of st texts)
made_are_sound st sound texts =
    let after : Store = with_objects st (st.objects ++ made_of st texts) in
    let grown = more_objects st (made_of st texts) in
    let count : length (made_of st texts) ≡ length texts + 1 =
    length-append (map text_object texts) _ ∙ ap (λ n. n + 1) (length-map texts text_object) in
    texts_from (census after) (length st.objects) texts _
    (grown.roles Class (core class.String) (core_is_class st sound class.String refl)) (
      record {
        class = grown.roles Class (core class.Array) (core_is_class st sound class.Array refl);
        singleton = tt;
        variables = tt;
        kind = numbered_are st (made_of st texts) (length texts) (omega (arith, count));
      },
      tt,
    )
