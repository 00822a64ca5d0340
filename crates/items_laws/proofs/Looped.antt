-- `loop`
use Rattle.std.proofs.Common.{◌≡◌, refl, sym, ap, subst, ◌∙◌, List, [], ◌∷◌}
use Rattle.std.specs.Prelude.{map, Option, Some}
use Rattle.rb_value.specs.declared.value.Value.{Value}
use Rattle.rb_value.specs.declared.value.ObjId.{ObjId}
use Rattle.rb_store.specs.Held.{Held}
use Rattle.def_plans.specs.Plan.{Planned, gives}
use Rattle.run_rows.specs.declared.row.KernelRow.TheVariants as kernel
use Rattle.run_rows.specs.declared.row.StarRow.TheVariants as row
use Rattle.core_iter.specs.declared.iteration.Iteration.TheVariants as state
use Rattle.core_iter.specs.Rows.{Starts, GoesOn}
use Rattle.core_iter.specs.Sending.{looped}
use Rattle.core_iter.specs.Stage.{Stage, own}
use Rattle.items_laws.specs.Looped.{LoopsOn}
use Rattle.items_laws.specs.Run.{Turn, Runs, Gives}
use Rattle.items_laws.specs.Items.{call_of, calls_of, last_heap}
use Rattle.items_laws.proofs.Course.{waits_for}
use Rattle.items_laws.proofs.Inversion.{not_given}

loop_course : (b : ObjId) (ts : List Turn) (last : Planned Stage) (held : Held) (p : Planned Stage)
    → p ≡ looped held b → Runs p ts last → LoopsOn held b ts last
loop_course b [] last held p is runs = record { called = refl; heaps = refl; next = sym runs ∙ is }
loop_course b (t ∷ ts) last held p is runs =
    let leads = runs.1 in
    let same : t.wanted ≡ looped held b = runs.0 ∙ is in
    let stage = waits_for t (looped held b) (own (state.Looping b)) leads.stage same refl leads.waits in
    let more = loop_course b ts last t.held leads.next
    (subst (λ (s : Stage). GoesOn t.held s t.answer leads.next) stage leads.follows) leads.further in
    record {
      called = ap (λ (q : Planned Stage). call_of q.plan ∷ calls_of ts) same
          ∙ ap (λ (cs : List (Option (ObjId × List Value))). Some (b, []) ∷ cs) more.called;
      heaps = ap (λ (q : Planned Stage). q.held ∷ map (λ t. t.wanted.held) ts) same
          ∙ ap (λ (hs : List Held). held ∷ hs) more.heaps;
      next = more.next;
    }

pub loops_on : (held : Held) (recv : Value) (b : ObjId) (ts : List Turn) (first last : Planned Stage)
    → Starts (row.Kernel kernel.Loop) held recv [] (Some b) first → Runs first ts last → LoopsOn held b ts last
loops_on held recv b ts first last starts runs = loop_course b ts last held first starts runs

pub never_gives : (held after : Held) (recv v : Value) (b : ObjId) (ts : List Turn)
    → Gives (row.Kernel kernel.Loop) held recv [] (Some b) ts v after → ⊥
never_gives held after recv v b ts run =
    let l = loop_course b ts (gives after v) held run.first run.starts run.runs in
    not_given (looped (last_heap held ts) b) after v refl (sym l.next)
