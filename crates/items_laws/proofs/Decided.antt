-- `any?`, `all?` and `none?` without a block, of any items.
use Rattle.std.proofs.Common.{◌≡◌, ℕ, zero, suc, refl, subst, ◌∙◌, List, []}
use Rattle.std.specs.Prelude.{not, Bool, true, false, Option, Some, None}
use Rattle.rb_value.specs.declared.value.Value.{Value}
use Rattle.rb_value.specs.Value.{is_true, truth}
use Rattle.rb_store.specs.Held.{Held}
use Rattle.def_plans.specs.Plan.{Planned, gives}
use Rattle.iter_items.specs.declared.row.Task.{Task}
use Rattle.iter_items.specs.declared.row.Task.TheVariants as task
use Rattle.iter_items.specs.declared.source.Source.{Source}
use Rattle.iter_items.specs.declared.visit.Visit.{Visit}
use Rattle.iter_items.specs.declared.wish.Wish.{Wish}
use Rattle.iter_items.specs.declared.wish.Wish.TheVariants as wish
use Rattle.iter_items.specs.Asking.{Wished, asked, after as after_item, decides, taken, tested, tested_from, tested_on, wishes}
use Rattle.iter_items.specs.Checks.{arguments}
use Rattle.iter_items.specs.Driving.{Begins, WantsBy, WantsOf, visit_of}
use Rattle.iter_items.specs.Moved.{as_moved}
use Rattle.iter_items.specs.Sources.{next, left}
use Rattle.iter_items.specs.Stage as over_items
use Rattle.core_iter.specs.Stage.{items}
use Rattle.items_laws.specs.Run.{Turn, Runs}
use Rattle.items_laws.specs.Items.{IsRunBy}
use Rattle.items_laws.specs.Lists.{any_of, is_untrue}
use Rattle.items_laws.specs.Decided.{Decides}
use Rattle.items_laws.proofs.Begun.{begun_by}
use Rattle.items_laws.proofs.Course.{ended}
use Rattle.items_laws.proofs.Inversion.{begun, comes_of}
use Rattle.items_laws.proofs.Outright.{answer_of, any_is, all_is, none_is}

abbrev pub asking : Task → Source → Visit → Visit
asking t s v = record v { task = t; block = None; source = s }

abbrev pub told_of : Task → List Value → Value
told_of t xs = answer_of t (any_of (decides t) xs)

-- what is told by so many of the next items, and how many are made for that
pub record Tells (x : Wished) (t : Task) (n : ℕ) (held : Held) (s : Source) : Type 0 where
  pub wish_is : x.wish ≡ Some (wish.Ends (told_of t (taken n held s).items))
  pub made : ℕ
  pub same : x.held ≡ (taken made held s).held

-- the same by the next item, where there is one

abbrev tested_by : Task → ℕ → Held → Source → Visit → Option Value → Wished
tested_by t n held s v o = tested_on (asking t s v) o (next held s)
    (tested_from n (next held s).held (asking t (next held s).source v))

record TellsBy (t : Task) (n : ℕ) (held : Held) (s : Source) (v : Visit) (o : Option Value) : Type 0 where
  wish_is : (tested_by t n held s v o).wish ≡ Some (wish.Ends (told_of t
      (after_item o (next held s) (taken n (next held s).held (next held s).source)).items))
  made : ℕ
  same : (tested_by t n held s v o).held
      ≡ (after_item o (next held s) (taken made (next held s).held (next held s).source)).held

found : (t : Task) (n : ℕ) (held : Held) (s : Source) (v : Visit) (x : Value) (c : Bool) → decides t x ≡ c
    → Tells (tested_from n (next held s).held (asking t (next held s).source v)) t n (next held s).held (next held s).source
    → TellsBy t n held s v (Some x)
found t n held s v x true decides_so rest = record {
  wish_is = rw decides_so refl;
  made = 0;
  same = rw decides_so refl;
}
found t n held s v x false decides_so rest = record {
  wish_is = rw decides_so rest.wish_is;
  made = rest.made;
  same = rw decides_so rest.same;
}

by_next : (t : Task) (n : ℕ) (held : Held) (s : Source) (v : Visit) (o : Option Value)
    → Tells (tested_from n (next held s).held (asking t (next held s).source v)) t n (next held s).held (next held s).source
    → TellsBy t n held s v o
by_next t n held s v None rest = record { wish_is = refl; made = 0; same = refl }
by_next t n held s v (Some x) rest = found t n held s v x (decides t x) refl rest

pub tells_so : (t : Task) (n : ℕ) (held : Held) (s : Source) (v : Visit)
    → Tells (tested_from n held (asking t s v)) t n held s
tells_so t zero held s v = record { wish_is = refl; made = 0; same = refl }
tells_so t (suc n) held s v =
    let b = by_next t n held s v (next held s).item (tells_so t n (next held s).held (next held s).source v) in
    record { wish_is = b.wish_is; made = suc b.made; same = b.same }

-- a run of such a method

abbrev pub first_visit : Task → Value → Source → Visit
first_visit t recv s = visit_of t recv s None (arguments None None 0) None

decided_so : (t : Task) (result : List Value → Value) (held : Held) (recv : Value) (s : Source) (ts : List Turn) (v : Value)
    (after : Held) → ((xs : List Value) → told_of t xs ≡ result xs)
    → ((h : Held) → asked h (first_visit t recv s) ≡ tested h (first_visit t recv s))
    → (b : Held) (p : Planned over_items.Stage) → b.store ≡ held.store → Begins b (first_visit t recv s) p
    → Runs (as_moved items p) ts (gives after v) → Decides result held s ts v after
decided_so t result held recv s ts v after is asks b p same beginning runs =
    let u = first_visit t recv s in
    let g = begun b u p beginning in
    let x = tested b u in
    let tells = tells_so t (left b.store s) b s u in
    let r = told_of t (taken (left b.store s) b s).items in
    let wants = subst (λ (o : Option Wish). WantsBy x.held x.visit o g.wish g.visit g.later) tells.wish_is
    (subst (λ (y : Wished). WantsOf y g.wish g.visit g.later) (asks b) g.wants) in
    let e = ended ts x.held x.visit r v after p
    (comes_of (wishes x.held x.visit (wish.Ends r)) g.later g.visit g.wish p wants g.comes) runs in
    record {
      begun = b;
      same = same;
      uncalled = e.0;
      value = e.1 ∙ is (taken (left b.store s) b s).items;
      made = tells.made;
      left = e.2 ∙ tells.same;
    }

pub any_decided : (held after : Held) (recv v : Value) (s : Source) (ts : List Turn)
    → IsRunBy task.Any held recv s [] None ts v after → Decides (λ xs. truth (any_of is_true xs)) held s ts v after
any_decided held after recv v s ts is =
    let st = begun_by task.Any held recv s [] None None None 0 ts v after refl is in
    decided_so task.Any (λ xs. truth (any_of is_true xs)) held recv s ts v after (λ xs. any_is (any_of is_true xs))
    (λ h. refl) st.begun st.first st.same st.begins st.runs

pub all_decided : (held after : Held) (recv v : Value) (s : Source) (ts : List Turn)
    → IsRunBy task.All held recv s [] None ts v after
    → Decides (λ xs. truth (not (any_of is_untrue xs))) held s ts v after
all_decided held after recv v s ts is =
    let st = begun_by task.All held recv s [] None None None 0 ts v after refl is in
    decided_so task.All (λ xs. truth (not (any_of is_untrue xs))) held recv s ts v after
    (λ xs. all_is (any_of is_untrue xs)) (λ h. refl) st.begun st.first st.same st.begins st.runs

pub none_decided : (held after : Held) (recv v : Value) (s : Source) (ts : List Turn)
    → IsRunBy task.Never held recv s [] None ts v after
    → Decides (λ xs. truth (not (any_of is_true xs))) held s ts v after
none_decided held after recv v s ts is =
    let st = begun_by task.Never held recv s [] None None None 0 ts v after refl is in
    decided_so task.Never (λ xs. truth (not (any_of is_true xs))) held recv s ts v after
    (λ xs. none_is (any_of is_true xs)) (λ h. refl) st.begun st.first st.same st.begins st.runs
