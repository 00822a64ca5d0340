-- Pairs that are put into a Hash one after the other.
use Rattle.std.proofs.Common.{◌≡◌, ◌∙◌, sym, subst, ap, ℕ, ◌+◌, ◌<◌, List, ◌∷◌, length, drop, get_or, Option, Some, None, Result, Ok, Err}
use Rattle.std.proofs.lemmas.List.{drop_more}
use Rattle.std.specs.Prelude.{IfOk}
use Rattle.std.specs.declared.alloc.AllocError.{AllocError}
use Rattle.rb_value.specs.declared.value.Value.{Value}
use Rattle.rb_value.specs.declared.value.Value.TheVariants.{Obj}
use Rattle.rb_value.specs.declared.value.ObjId.{ObjId}
use Rattle.rb_value.specs.declared.core_class.CoreClass.TheVariants as class
use Rattle.rb_value.specs.declared.kind.Kind.TheVariants as kind
use Rattle.def_core.specs.declared.cause.Cause.{Cause}
use Rattle.def_core.specs.Parts.{no_pairs}
use Rattle.def_core.specs.Store.{core, next_number}
use Rattle.vm_parts.specs.Answering.{Given}
use Rattle.vm_parts.specs.Below.{Held}
use Rattle.vm_parts.specs.Below.frames.calls.rows.keyed as keyed
use Rattle.vm_parts.specs.Below.made as made
use Rattle.vm_steps.specs.Collections.{after_put, pair_put, pairs_put, Filled, HashMade}

-- a key at hand stands before the values that are left
abbrev pub pending : Option Value → List Value → List Value
pending None vs = vs
pending (Some k) vs = k ∷ vs

by_put : (id : ObjId) (h g : Held) (vs : List Value) (r : Result Held Cause) → after_put h r (λ x. (None, x)) ≡ (None, g)
    → after_put h r (λ x. pairs_put id x vs) ≡ pairs_put id g vs
by_put id h g vs (Ok x) e = ap (λ (p : Option Cause × Held). pairs_put id p.1 vs) e
by_put id h g vs (Err c) e = absurd (cc (ap (λ (p : Option Cause × Held). p.0) e))

pub one_more_pair : (id : ObjId) (h g : Held) (k v : Value) (vs : List Value) → pair_put id h k v ≡ (None, g)
    → pairs_put id h (k ∷ v ∷ vs) ≡ pairs_put id g vs
one_more_pair id h g k v vs e = by_put id h g vs (keyed.put h id k v) e

by_refusal : (id : ObjId) (h g : Held) (c : Cause) (vs : List Value) (r : Result Held Cause)
    → after_put h r (λ x. (None, x)) ≡ (Some c, g) → after_put h r (λ x. pairs_put id x vs) ≡ (Some c, g)
by_refusal id h g c vs (Ok x) e = absurd (cc (ap (λ (p : Option Cause × Held). p.0) e))
by_refusal id h g c vs (Err d) e = e

pub refused_pair : (id : ObjId) (h g : Held) (k v : Value) (c : Cause) (vs : List Value)
    → pair_put id h k v ≡ (Some c, g) → pairs_put id h (k ∷ v ∷ vs) ≡ (Some c, g)
refused_pair id h g k v c vs e = by_refusal id h g c vs (keyed.put h id k v) e

-- one step over the values
pub key_taken : (id : ObjId) (h : Held) (vs : List Value) (i : ℕ) (d : Value) → i < length vs
    → pairs_put id h (pending None (drop i vs)) ≡ pairs_put id h (pending (Some (get_or vs i d)) (drop (i + 1) vs))
key_taken id h vs i d inside = ap (pairs_put id h) (drop_more vs i d inside)

pub pair_taken : (id : ObjId) (h g : Held) (k : Value) (vs : List Value) (i : ℕ) (d : Value) → i < length vs
    → pair_put id h k (get_or vs i d) ≡ (None, g)
    → pairs_put id h (pending (Some k) (drop i vs)) ≡ pairs_put id g (pending None (drop (i + 1) vs))
pair_taken id h g k vs i d inside e =
    ap (λ us. pairs_put id h (k ∷ us)) (drop_more vs i d inside) ∙ one_more_pair id h g k (get_or vs i d) (drop (i + 1) vs) e

pub pair_refused : (id : ObjId) (h g : Held) (k : Value) (c : Cause) (vs : List Value) (i : ℕ) (d : Value)
    → i < length vs → pair_put id h k (get_or vs i d) ≡ (Some c, g)
    → pairs_put id h (pending (Some k) (drop i vs)) ≡ (Some c, g)
pair_refused id h g k c vs i d inside e =
    ap (λ us. pairs_put id h (k ∷ us)) (drop_more vs i d inside) ∙ refused_pair id h g k (get_or vs i d) c (drop (i + 1) vs) e

-- a new Hash, which is the one that gets the pairs
pub filled_new : (h m after : Held) (id : ObjId) (v : Value) (vs : List Value) (r : Result Given AllocError)
    → v ≡ Obj (next_number h.store) → v ≡ Obj id → m ≡ made.with_new h (core class.Hash) (kind.Hash no_pairs)
    → IfOk r (λ g. Filled id (pairs_put id m vs) g after) → IfOk r (λ g. HashMade h vs g after)
filled_new h m after id v vs r value is new filled =
    let same : id ≡ next_number h.store = cc (sym is ∙ value) in
    subst (λ j. IfOk r (λ g. Filled j (pairs_put j (made.with_new h (core class.Hash) (kind.Hash no_pairs)) vs) g after)) same
    (subst (λ n. IfOk r (λ g. Filled id (pairs_put id n vs) g after)) new filled)
