-- Instructions that make Arrays, Strings and Hashes, and add to them.
use Rattle.std.proofs.Common.{◌≡◌, ℕ, ◌+◌, ℤ, pos, negsuc, List, [], ◌∷◌, true, refl, sym, ap, true≢false}
use Rattle.std.specs.Prelude.{Option, Some, None, codes}
use Rattle.rb_value.specs.declared.value.Value.{Value}
use Rattle.rb_value.specs.declared.value.Value.TheVariants.{Obj}
use Rattle.rb_value.specs.declared.value.ObjId.{ObjId}
use Rattle.rb_value.specs.declared.kind.Kind.TheVariants as kind
use Rattle.rb_value.specs.declared.kind.Sort.TheVariants as sort
use Rattle.rb_value.specs.declared.core_class.CoreClass.TheVariants as class
use Rattle.def_core.specs.Parts.{no_pairs}
use Rattle.def_core.specs.Store.{core, fresh, next_number, with_object}
use Rattle.def_core.specs.Sound.{census, Any, plays_at, Is, IsValue, AllAre}
use Rattle.def_rows.specs.Answers.{text_object}
use Rattle.rite_code.specs.declared.code.PoolItem.{PoolItem}
use Rattle.rite_code.specs.declared.code.PoolItem.TheVariants as pool
use Rattle.rite_code.specs.Code.{Program, IsWhole}
use Rattle.code_verifier.specs.Checks.{is_text}
use Rattle.code_verifier.specs.Verified.{IsVerified}
use Rattle.def_calls.specs.World.{World, Answer, Result, gives, raises, give, make, with_store}
use Rattle.def_calls.specs.Views.{an_array, a_string, a_hash}
use Rattle.def_calls.specs.Values.{wrong_value, with_pair, text_of_value}
use Rattle.def_machine.specs.State.{Registers, Frame, Level, frame, Memory}
use Rattle.def_machine.specs.Turn.{reg, row, new_text, on_object, and_then, add_pairs, new_hash, rest_or_tail, push_row, push_splat, push_text, push_pairs}
use Rattle.def_machine.specs.Fits.{IsStart, RunsWell, Fits}
use Rattle.world_laws.specs.Fine.{HasSort, Fine, Keeps}
use Rattle.world_laws.specs.Outcomes.{ResultIs, AnswerIs}
use Rattle.world_laws.proofs.Answers.{makes_text, new_sort, answer_then}
use Rattle.world_laws.proofs.Growing.{extends_itself, sort_stays, value_stays, all_stay}
use Rattle.world_laws.proofs.Values.{elements_between_is, last_elements_is, with_pair_is, wrong_value_is}
use Rattle.machine_laws.proofs.Answering.{afters}
use Rattle.machine_laws.proofs.Given.{array_pushed, hash_made, hash_there, splat_pushed, text_appended}
use Rattle.machine_laws.proofs.Reading.{reg_fits, row_fits}
use Rattle.machine_laws.proofs.Worlds.{bodies, fine_world}

there : (w : World) (id : ObjId) → HasSort (census w.store) sort.Hash id → Is (census w.store) Any id
there w id h = record { holds = ap (plays_at Any) h }

module _ (p : Program) (ls : List Registers) where
  itself : (w : World) → Fine (bodies p ls) w → Keeps (bodies p ls) w w
  itself w fine = record { fine = fine; extends = extends_itself w; out = refl }

  given : (w : World) (id : ObjId) → Fine (bodies p ls) w → HasSort (census w.store) sort.Hash id
      → AnswerIs (bodies p ls) w (give w (Obj id))
  given w id fine is = record { keeps = itself w fine; result = there w id is }

  stops : (w v : World) (r : Result) (next : World → Answer) → Keeps (bodies p ls) w v
      → ResultIs (census v.store) r → AnswerIs (bodies p ls) w (next v)
      → AnswerIs (bodies p ls) w (and_then v r next)
  stops w v (gives x) next k is on = on
  stops w v (raises e) next k is on = record { keeps = k; result = is }

  -- pairs are added one after the other
  adds : (w : World) (id : ObjId) (vs : List Value) → Fine (bodies p ls) w → HasSort (census w.store) sort.Hash id
      → AllAre (IsValue (census w.store)) vs → AnswerIs (bodies p ls) w (add_pairs w id vs)
  adds w id [] fine is all = given w id fine is
  adds w id (k ∷ []) fine is all = given w id fine is
  adds w id (k ∷ v ∷ rest) fine is all =
      let one = with_pair_is (bodies p ls) w fine id k v is all.0 all.1.0 in
      let u = (with_pair w id k v).world in
      let more = all_stay (IsValue (census w.store)) (IsValue (census u.store))
      (value_stays w u one.keeps.extends) rest all.1.1 in
      stops w u (with_pair w id k v).result (λ x. add_pairs x id rest) one.keeps one.result
      (answer_then (bodies p ls) w u (add_pairs u id rest) one.keeps
      (adds u id rest one.keeps.fine (sort_stays w u one.keeps.extends sort.Hash id is) more))

  pub hashes : (w : World) (vs : List Value) → Fine (bodies p ls) w → AllAre (IsValue (census w.store)) vs
      → AnswerIs (bodies p ls) w (new_hash w vs)
  hashes w vs fine all =
      let u = with_store w (with_object w.store (fresh (core class.Hash) (kind.Hash no_pairs))) in
      let k = hash_made p ls w fine in
      answer_then (bodies p ls) w u (add_pairs u (next_number w.store) vs) k
      (adds u (next_number w.store) vs k.fine (new_sort w.store (fresh (core class.Hash) (kind.Hash no_pairs)))
      (all_stay (IsValue (census w.store)) (IsValue (census u.store)) (value_stays w u k.extends) vs all))

  pub rests : (w : World) (v : Value) (from : ℕ) (z : ℤ) → Fine (bodies p ls) w → IsValue (census w.store) v
      → AnswerIs (bodies p ls) w (rest_or_tail w v from z)
  rests w v from (pos post) fine is = elements_between_is (bodies p ls) w fine v from post is
  rests w v from (negsuc n) fine is = last_elements_is (bodies p ls) w fine v from (n + 1) is

module _ (p : Program) (whole : IsWhole p) (verified : IsVerified p) (f : Frame)
    (ls : List Level) (m : Memory) (h : RunsWell p (frame f ∷ ls) m) (a next : ℕ) (start : IsStart p f.body next) where
  fine : Fine (bodies p m.lists) m.world
  fine = fine_world p m.lists m.world h.memory.world

  -- an instruction that wants an object in its register
  changes : (instruction : List ℕ) (found : Option ObjId) (change : ObjId → Answer)
      → ((id : ObjId) → found ≡ Some id → AnswerIs (bodies p m.lists) m.world (change id))
      → Fits p (on_object p instruction found a next f ls m change)
  changes instruction None change is =
      afters p whole verified (wrong_value m.world instruction) a next f ls m h start
      (wrong_value_is (bodies p m.lists) m.world fine instruction)
  changes instruction (Some id) change is = afters p whole verified (change id) a next f ls m h start (is id refl)

  pub texts : (found : Option PoolItem) → is_text found ≡ true → Fits p (new_text p found a next f ls m)
  texts None is = absurd (true≢false (sym is))
  texts (Some (pool.Int z)) is = absurd (true≢false (sym is))
  texts (Some (pool.Text t)) is =
      afters p whole verified (make m.world (text_object t)) a next f ls m h start
      (makes_text (bodies p m.lists) m.world fine t)

  pub pushes_row : (n : ℕ) → Fits p (push_row p a n next f ls m)
  pushes_row n =
      changes (codes "ARYPUSH") (an_array m.world.store.objects (reg f m a)) _
      (λ id e. array_pushed p m.lists m.world fine (reg f m a) id (row f m (a + 1) n) (reg_fits p m h.memory f a) e
      (row_fits p m h.memory f n (a + 1)))

  pub pushes_splat : Fits p (push_splat p a next f ls m)
  pushes_splat =
      changes (codes "ARYCAT") (an_array m.world.store.objects (reg f m a)) _
      (λ id e. splat_pushed p m.lists m.world fine (reg f m a) (reg f m (a + 1)) id (reg_fits p m h.memory f a) e
      (reg_fits p m h.memory f (a + 1)))

  pub pushes_text : Fits p (push_text p a next f ls m)
  pushes_text =
      changes (codes "STRCAT") (a_string m.world.store.objects (reg f m a)) _
      (λ id e. text_appended p m.lists m.world fine (reg f m a) id (text_of_value m.world.store (reg f m (a + 1)))
      (reg_fits p m h.memory f a) e)

  pub pushes_pairs : (n : ℕ) → Fits p (push_pairs p a n next f ls m)
  pushes_pairs n =
      changes (codes "HASHADD") (a_hash m.world.store.objects (reg f m a)) _
      (λ id e. adds p m.lists m.world id (row f m (a + 1) (n + n)) fine
      (hash_there p m.lists m.world fine (reg f m a) id (reg_fits p m h.memory f a) e)
      (row_fits p m h.memory f (n + n) (a + 1)))
