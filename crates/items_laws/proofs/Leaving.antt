-- Which runs are left, method by method.
use Rattle.std.proofs.Common.{◌≡◌, refl, List, [], ◌∷◌}
use Rattle.std.specs.Prelude.{codes, true, Some, None}
use Rattle.rb_value.specs.declared.value.Value.{Value}
use Rattle.rb_value.specs.declared.value.ObjId.{ObjId}
use Rattle.rb_store.specs.Held.{Held}
use Rattle.def_core.specs.Changes.{intern}
use Rattle.def_plans.specs.Plan.{Planned}
use Rattle.iter_items.specs.declared.row.Task.{Task}
use Rattle.iter_items.specs.declared.row.Task.TheVariants as task
use Rattle.iter_items.specs.declared.source.Source.{Source}
use Rattle.iter_items.specs.Sources.{next, previous, is_pairs}
use Rattle.core_iter.specs.Stage.{Stage}
use Rattle.items_laws.specs.Run.{Turn}
use Rattle.items_laws.specs.Items.{answers, with_arguments}
use Rattle.items_laws.specs.Lists.{alone, in_turn, with_object, with_places}
use Rattle.items_laws.specs.Cut.{IsLeft, IsCut, hands_alone}
use Rattle.items_laws.proofs.Small.{untrue_is}
use Rattle.items_laws.proofs.Cut.{cut_by}
use Rattle.items_laws.proofs.Answered.{mapping, maps, flattening, flattens}
use Rattle.items_laws.proofs.Counted.{placing, places, counting, counts, taking, takes}
use Rattle.items_laws.proofs.Folded.{injecting, injects, passing_on, passes_on, numbering, numbers, reversing, reverses}
use Rattle.items_laws.proofs.Ordered.{seeking_least, seeks_least, seeking_greatest, seeks_greatest, sorting, sorts, parting, parts_items}
use Rattle.items_laws.proofs.Sifted.{selecting, selects, rejecting, rejects}
use Rattle.items_laws.proofs.Sought.{finding, finds, telling_any, tells_any, telling_none, tells_none, telling_all, tells_all}

pub left_alone : (held : Held) (recv : Value) (t : Task) (s : Source) (b : ObjId) (ts : List Turn) (last : Planned Stage)
    → hands_alone s t ≡ true → IsLeft t held recv s [] b ts last → IsCut next held s b alone ts last
left_alone held recv task.Map s b ts last so is =
    cut_by (mapping b) (maps b) (λ v p x. refl) held recv s [] None None 0 ts last refl refl refl is
left_alone held recv task.FlatMap s b ts last so is =
    cut_by (flattening b) (flattens b) (λ v p x. refl) held recv s [] None None 0 ts last refl refl refl is
left_alone held recv task.Select s b ts last so is =
    cut_by (selecting b) (selects b) (λ v p x. refl) held recv s [] None None 0 ts last refl refl
    (untrue_is (is_pairs s) so) is
left_alone held recv task.Reject s b ts last so is =
    cut_by (rejecting b) (rejects b) (λ v p x. refl) held recv s [] None None 0 ts last refl refl
    (untrue_is (is_pairs s) so) is
left_alone held recv task.Find s b ts last so is =
    cut_by (finding b) (finds b) (λ v p x. refl) held recv s [] None None 0 ts last refl refl refl is
left_alone held recv task.FindIndex s b ts last so is =
    cut_by (placing b) (places b) (λ v p x. refl) held recv s [] None None 0 ts last refl refl refl is
left_alone held recv task.Partition s b ts last so is =
    cut_by (parting b) (parts_items b) (λ v p x. refl) held recv s [] None None 0 ts last refl refl refl is
left_alone held recv task.GroupBy s b ts last so is = absurd (cc)
left_alone held recv task.EachWithIndex s b ts last so is = absurd (cc)
left_alone held recv task.EachWithObject s b ts last so is = absurd (cc)
left_alone held recv task.EachSlice s b ts last so is = absurd (cc)
left_alone held recv task.EachCons s b ts last so is = absurd (cc)
left_alone held recv task.ReverseEach s b ts last so is = absurd (cc)
left_alone held recv task.TakeWhile s b ts last so is =
    cut_by (taking b) (takes b) (λ v p x. refl) held recv s [] None None 0 ts last refl refl refl is
left_alone held recv task.DropWhile s b ts last so is = absurd (cc)
left_alone held recv task.MinBy s b ts last so is =
    cut_by (seeking_least b) (seeks_least b) (λ v p x. refl) held recv s [] None None 0 ts last refl refl refl is
left_alone held recv task.MaxBy s b ts last so is =
    cut_by (seeking_greatest b) (seeks_greatest b) (λ v p x. refl) held recv s [] None None 0 ts last refl refl refl is
left_alone held recv task.SortBy s b ts last so is =
    cut_by (sorting b) (sorts b) (λ v p x. refl) held recv s [] None None 0 ts last refl refl refl is
left_alone held recv task.All s b ts last so is =
    cut_by (telling_all b) (tells_all b) (λ v p x. refl) held recv s [] None None 0 ts last refl refl refl is
left_alone held recv task.Any s b ts last so is =
    cut_by (telling_any b) (tells_any b) (λ v p x. refl) held recv s [] None None 0 ts last refl refl refl is
left_alone held recv task.Never s b ts last so is =
    cut_by (telling_none b) (tells_none b) (λ v p x. refl) held recv s [] None None 0 ts last refl refl refl is
left_alone held recv task.Count s b ts last so is = absurd (cc)
left_alone held recv task.Inject s b ts last so is = absurd (cc)
left_alone held recv task.Sum s b ts last so is = absurd (cc)

pub left_counting : (held : Held) (recv : Value) (s : Source) (b : ObjId) (ts : List Turn) (last : Planned Stage)
    → IsLeft task.Count held recv s [] b ts last
    → IsCut next (with_arguments task.Count held [] b) s b alone ts last
left_counting held recv s b ts last is = cut_by (counting b) (counts b) (λ v p x. refl) held recv s [] None
    (Some (intern held.store (codes "==")).symbol) 0 ts last refl refl refl is

pub left_with_index : (held : Held) (recv : Value) (s : Source) (b : ObjId) (ts : List Turn) (last : Planned Stage)
    → IsLeft task.EachWithIndex held recv s [] b ts last → IsCut next held s b (with_places 0) ts last
left_with_index held recv s b ts last is =
    cut_by (numbering b) (numbers b) (λ v p x. refl) held recv s [] None None 0 ts last refl refl refl is

pub left_with_object : (held : Held) (recv object : Value) (s : Source) (b : ObjId) (ts : List Turn)
    (last : Planned Stage) → IsLeft task.EachWithObject held recv s (object ∷ []) b ts last
    → IsCut next held s b (with_object object) ts last
left_with_object held recv object s b ts last is =
    cut_by (passing_on b) (passes_on b) (λ v p x. refl) held recv s (object ∷ []) (Some object) None 0 ts last refl refl
    refl is

pub left_folding : (held : Held) (recv first : Value) (s : Source) (b : ObjId) (ts : List Turn) (last : Planned Stage)
    → IsLeft task.Inject held recv s (first ∷ []) b ts last
    → IsCut next held s b (in_turn (first ∷ answers ts)) ts last
left_folding held recv first s b ts last is =
    cut_by (injecting b) (injects b) (λ v p x. refl) held recv s (first ∷ []) (Some first) None 0 ts last refl refl refl is

pub left_backwards : (held : Held) (recv : Value) (s : Source) (b : ObjId) (ts : List Turn) (last : Planned Stage)
    → IsLeft task.ReverseEach held recv s [] b ts last → IsCut previous held s b alone ts last
left_backwards held recv s b ts last is =
    cut_by (reversing b) (reverses b) (λ v p x. refl) held recv s [] None None 0 ts last refl refl refl is
