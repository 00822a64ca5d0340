use Rattle.std.proofs.Common.{◌≡◌, ap, sym, ◌∙◌, Some}
use Rattle.std.specs.Prelude.{option_map, slice_get}
use Rattle.rb_value.specs.Object.{Object}
use Rattle.rb_value.specs.declared.hash.HashContents.{HashContents}
use Rattle.rb_value.specs.declared.hash.HashItem.{HashItem}
use Rattle.rb_value.specs.declared.key.Key.{Key}
use Rattle.rb_value.specs.declared.kind.Kind.{Kind}
use Rattle.rb_value.specs.KindRef.{seen}
use Rattle.rb_value.specs.declared.kind.Kind.TheVariants as kind
use Rattle.rb_value.specs.declared.value.ObjId.{ObjId}
use Rattle.def_core.specs.Parts.{hash_at, hash_in}
use Rattle.def_core.specs.Store.{object_at}
use Rattle.heap.specs.Copies.{own_key}
use Rattle.heap.proofs.kept_keys.key_at.Goals as goal

pub returns-in_ok-key_copy-in-Some-pair_at-clause-key :
    goal.returns-in_ok-key_copy-in-Some-pair_at-clause-key
returns-in_ok-key_copy-in-Some-pair_at-clause-key c =
    let st = c.args.st.now.store in
    let pair = c.in-Some-pair_at in
    let holds : (object_at st.objects c.in-Some.id).kind ≡ kind.Hash c.in-Hash.contents.now =
    sym (ap (λ (o : Object). o.kind) c.get.ensures) ∙ sym c.kind.ensures ∙ ap seen c.in-Hash.is in
    let there : slice_get (hash_at st.objects c.args.id).pairs c.args.place ≡ Some (pair.key.now, pair.field-0-1.now) =
    ap (λ (i : ObjId). slice_get (hash_at st.objects i).pairs c.args.place) (sym c.in-Some.ensures.found.0)
    ∙ ap (λ (k : Kind). slice_get (hash_in k).pairs c.args.place) holds
    ∙ ap (λ (h : HashContents). slice_get h.pairs c.args.place) (sym c.get-in-Hash.ensures)
    ∙ sym pair.ensures in
    ap Some c.in_ok-key_copy-in-Some-pair_at.ensures.copy
    ∙ ap (option_map (λ (p : Key × HashItem). own_key st p.0)) (sym there)
